-- The command takes plain words, with the values written in them.
use Rattle.std.proofs.Common.{◌≡◌, ◌∙◌, ◌==◌, ◌&&◌, ◌≤◌, ◌<◌, ℕ, ap, ap₂, refl, sym, Bool, true, false, not, cond, List, [], ◌∷◌, Option, Some, None, codes}
use Rattle.std.proofs.Common.{option_and_then, option_map, slice_index_or, arith, ne_eqb, drop}
use Rattle.std.specs.Prelude.{◌^◌, ◌++◌, IfSome, nat_le}
use Rattle.std.specs.Option.{option_zip}
use Rattle.std.specs.Fmt.{decimal}
use Rattle.std.specs.Str.Parse.{IsNumeral, digits_value, without_leading_plus}
use Rattle.std.proofs.lemmas.Bool.{leb-true}
use Rattle.std.proofs.lemmas.Fmt.{decimal_is_IsNumeral}
use Rattle.std.proofs.lemmas.Str.Parse.{digit_from_value}
use Rattle.clap.specs.Words.{Row, Text, fault_of, subcommand_of}
use Rattle.clap.specs.Kinds.{Kinds, or_else}
use Rattle.clap.specs.Faults.{level_fault}
use Rattle.clap.specs.Simple.{Shape, built, rows_at}
use Rattle.clap.specs.Walk.{finished, is_empty, nothing_held, walk_from}
use Rattle.clap.specs.ValueTests.{is_unsigned_in}
use Rattle.clap.specs.declared.builder.value_parser.ValueParser.TheVariants as parser
use Rattle.clap.proofs.OnLiterals.{clap_on_literals}
use Rattle.clap.proofs.ValueTestLemmas.{Accepts-accepts}
use Rattle.clap.proofs.WalkLemmas.{both}
use Rattle.memory_models.specs.Models.{model_name}
use Rattle.tc_limits.specs.declared.limits.TheConstants.{BUDGET, MOVES}
use Rattle.memory_models.specs.declared.model.Model.{Model}
use Rattle.memory_models.specs.declared.model.Model.TheVariants.{Sc, Tso, Pso}
use Rattle.clap_debug_words.specs.declared.call.TheConstants.{WORKERS}
use Rattle.clap_debug_words.specs.CommandLine.{command_line}
use Rattle.clap_debug_words.specs.Values.{if_written, last_seed, model_named, number_named}
use Rattle.clap_debug_words.specs.Calls.{Called, Lists, Replays, Records, Migrates, Solves, Checks, Workloads, Exports, Imports, Explains, call_of, called}
use Rattle.clap_debug_words.specs.PlainWords.{holds_if, is_between, is_name, is_plain, option_words, words_of}
use Rattle.clap_debug_words.proofs.PlainWords.{ArePlain, IsPlainWord, Marked, end_of, fault_at, level-marked, marked_faults, rows-marked, words_in}

name_plain : (p : Text) → is_name p ≡ true → IsPlainWord p
name_plain [] e = cc
name_plain (b ∷ rest) e = go (b == 45) refl e
  where
    go : (t : Bool) → (b == 45) ≡ t → not t ≡ true → IsPlainWord (b ∷ rest)
    go false is e = record { no_dash = rw is refl; no_end = rw is refl }
    go true is e = cc

numeral_plain : (ds : List ℕ) → IsNumeral 10 ds → IsPlainWord ds × (without_leading_plus ds ≡ ds)
numeral_plain [] h = absurd (omega arith)
numeral_plain (d ∷ ds) h =
    let digit = digit_from_value d h.1.0 in
    let plus : (d == 43) ≡ false = ne_eqb _ _ (λ e. omega (arith, digit)) in
    let minus : (d == 45) ≡ false = ne_eqb _ _ (λ e. omega (arith, digit)) in
    (record { no_dash = rw minus refl; no_end = rw minus refl }, ap (λ (b : Bool). drop (cond b 1 0) (d ∷ ds)) plus)

-- a number in range, written in decimal, is a plain word that is read as that number
number_plain : (low high n : ℕ) → high < 2 ^ 64 → is_between low high n ≡ true
    → IsPlainWord (decimal n) × (number_named low high (decimal n) ≡ Some n)
number_plain low high n small e =
    let bounds = both _ _ e in
    let least : low ≤ n = leb-true _ _ bounds.0 in
    let most : n ≤ high = leb-true _ _ bounds.1 in
    let numeral = decimal_is_IsNumeral n (omega arith) in
    let facts = numeral_plain (decimal n) numeral.0 in
    let is_n : digits_value 10 (without_leading_plus (decimal n)) ≡ n = ap (digits_value 10) facts.1 ∙ numeral.1 in
    let passes : is_unsigned_in low high (decimal n) ≡ true =
    Accepts-accepts false (parser.Unsigned low high) (decimal n) (rw facts.1 numeral.0, rw is_n (omega arith), rw is_n least, rw is_n most) in
    (facts.0, ap (λ b. cond b (Some (digits_value 10 (without_leading_plus (decimal n)))) None) passes ∙ ap Some is_n)

-- the text of an option, if it is written, is a plain word
abbrev PlainIf : Option Text → Type 0
PlainIf t = IfSome t IsPlainWord

-- an option of this value is written in a plain word, which is read as that value
abbrev IsWritten : {T : Type 0} → (Text → Option T) → (T → Text) → Option T → Type 0
IsWritten named text v = PlainIf (option_map text v) × (if_written named (option_map text v) ≡ Some v)

model_written : (m : Option Model) → IsWritten model_named model_name m
model_written None = (tt, refl)
model_written (Some Sc) = (record { no_dash = refl; no_end = refl }, refl)
model_written (Some Tso) = (record { no_dash = refl; no_end = refl }, refl)
model_written (Some Pso) = (record { no_dash = refl; no_end = refl }, refl)

number_written : (low high : ℕ) → high < 2 ^ 64 → (n : Option ℕ) → holds_if (is_between low high) n ≡ true → IsWritten (number_named low high) decimal n
number_written low high small None e = (tt, refl)
number_written low high small (Some n) e = let f = number_plain low high n small e in (f.0, ap (option_map Some) f.1)

name_written : (t : Option Text) → holds_if is_name t ≡ true → PlainIf t
name_written None e = tt
name_written (Some t) e = name_plain t e

-- the built subcommand at a place
abbrev sub_at : ℕ → Shape
sub_at k = slice_index_or (built command_line).subs k command_line.top

taken : (k : Kinds) (o r : Option Called) → k ≡ [] → o ≡ r → cond (is_empty (or_else k [])) o None ≡ r
taken [] o r none e = e
taken (x ∷ xs) o r none e = cc

-- words that enter the subcommand at a place, and are marked there
says : (k : ℕ) (words : List Text) (ms : List Marked) (r : Option Called) → ArePlain ms
    → fault_of command_line words ≡ or_else (level_fault (sub_at k) [] nothing_held (words_in ms) false []) []
    → subcommand_of command_line words ≡ Some (rows_at (sub_at k) (words_in ms))
    → fault_at (sub_at k) (marked_faults (sub_at k) (walk_from nothing_held) ms) (end_of (sub_at k) ms) ≡ []
    → called ((sub_at k).name, finished (sub_at k).rules (end_of (sub_at k) ms)) ≡ r
    → call_of words ≡ r
says k words ms r plain fault entered quiet call =
    ap₂ (λ (f : Kinds) (s : Option (Text × List Row)). cond (is_empty f) (option_and_then called s) None) fault entered
    ∙ taken _ _ _ (level-marked (sub_at k) ms plain ∙ quiet)
    (ap (λ (rows : List Row). called ((sub_at k).name, rows)) (rows-marked (sub_at k) ms plain) ∙ call)

list_says : (w p : Text) → IsPlainWord p → call_of (words_of w (Lists p)) ≡ Some (Lists p)
unfolding clap_on_literals
list_says w p hp = says 0 (words_of w (Lists p)) ((true, p) ∷ []) (Some (Lists p)) (hp, tt) refl refl refl refl

replay_says : (w p l s : Text) → IsPlainWord p → IsPlainWord l → IsPlainWord s → call_of (words_of w (Replays p l s)) ≡ Some (Replays p l s)
unfolding clap_on_literals
replay_says w p l s hp hl hs = says 1 (words_of w (Replays p l s)) ((true, p) ∷ (true, l) ∷ (true, s) ∷ []) (Some (Replays p l s)) (hp, (hl, (hs, tt))) refl refl refl refl

migrate_says : (w p l o : Text) → IsPlainWord p → IsPlainWord l → IsPlainWord o → call_of (words_of w (Migrates p l o)) ≡ Some (Migrates p l o)
unfolding clap_on_literals
migrate_says w p l o hp hl ho = says 3 (words_of w (Migrates p l o)) ((true, p) ∷ (true, l) ∷ (true, o) ∷ []) (Some (Migrates p l o)) (hp, (hl, (ho, tt))) refl refl refl refl

check_says : (w p l r : Text) → IsPlainWord p → IsPlainWord l → IsPlainWord r → call_of (words_of w (Checks p l r)) ≡ Some (Checks p l r)
unfolding clap_on_literals
check_says w p l r hp hl hr = says 5 (words_of w (Checks p l r)) ((true, p) ∷ (true, l) ∷ (true, r) ∷ []) (Some (Checks p l r)) (hp, (hl, (hr, tt))) refl refl refl refl

why_says : (w p l r : Text) → IsPlainWord p → IsPlainWord l → IsPlainWord r → call_of (words_of w (Explains p l r)) ≡ Some (Explains p l r)
unfolding clap_on_literals
why_says w p l r hp hl hr = says 9 (words_of w (Explains p l r)) ((true, p) ∷ (true, l) ∷ (true, r) ∷ []) (Some (Explains p l r)) (hp, (hl, (hr, tt))) refl refl refl refl

-- calls of commands with numbers or options, by what these are read as

abbrev worked : Option ℕ → Option ℕ → Option Called
worked n s = option_map (λ f. Workloads f.0 f.1) (option_zip n s)

abbrev recorded : Text → Text → Option (Option Model) → Option (Option ℕ) → Option (Option ℕ) → Option Called
recorded p l m n k = option_map (λ (f : (Text × Text) × (Option Model × (Option ℕ × Option ℕ))). Records f.0.0 f.0.1 f.1.0 f.1.1.0 f.1.1.1) (option_zip (Some (p, l)) (option_zip m (option_zip n k)))

abbrev solved : Text → Text → Text → Option (Option Model) → Option (Option ℕ) → Option Text → Option Called
solved p l o m n r = option_map (λ (f : ((Text × Text) × Text) × (Option Model × Option ℕ)). Solves f.0.0.0 f.0.0.1 f.0.1 f.1.0 f.1.1 r) (option_zip (Some ((p, l), o)) (option_zip m n))

abbrev exported : Text → Text → Text → Option (Option Model) → Option Called
exported p l o m = option_map (λ (f : ((Text × Text) × Text) × Option Model). Exports f.0.0.0 f.0.0.1 f.0.1 f.1) (option_zip (Some ((p, l), o)) m)

abbrev imported : Text → Text → Text → Text → Option (Option Model) → Option Called
imported p l a o m = option_map (λ (f : ((Text × Text) × Text) × (Text × Option Model)). Imports f.0.0.0 f.0.0.1 f.0.1 f.1.0 f.1.1) (option_zip (Some ((p, l), a)) (option_zip (Some o) m))

workload_says : (f w s : Text) → IsPlainWord w → IsPlainWord s → call_of (f ∷ codes "workload" ∷ w ∷ s ∷ []) ≡ worked (number_named 1 WORKERS w) (number_named 0 last_seed s)
unfolding clap_on_literals
workload_says f w s hw hs =
    says 6 (f ∷ codes "workload" ∷ w ∷ s ∷ []) ((true, w) ∷ (true, s) ∷ []) (worked (number_named 1 WORKERS w) (number_named 0 last_seed s)) (hw, (hs, tt)) refl refl refl refl

abbrev record_words : Text → Text → Text → Option Text → Option Text → Option Text → List Text
record_words w p l m n k = w ∷ codes "record" ∷ p ∷ l ∷ (option_words (codes "--model") m ++ (option_words (codes "--seed") n ++ option_words (codes "--steps") k))

abbrev record_call : Text → Text → Option Text → Option Text → Option Text → Option Called
record_call p l m n k = recorded p l (if_written model_named m) (if_written (number_named 0 last_seed) n) (if_written (number_named 1 MOVES) k)

record_says : (w p l : Text) (m n k : Option Text) → IsPlainWord p → IsPlainWord l → PlainIf m → PlainIf n → PlainIf k
    → call_of (record_words w p l m n k) ≡ record_call p l m n k
unfolding clap_on_literals
record_says w p l None None None hp hl hm hn hk =
    says 2 (record_words w p l None None None) ((true, p) ∷ (true, l) ∷ []) (record_call p l None None None) (hp, (hl, tt)) refl refl refl refl
record_says w p l None None (Some k) hp hl hm hn hk =
    says 2 (record_words w p l None None (Some k)) ((true, p) ∷ (true, l) ∷ (false, codes "--steps") ∷ (true, k) ∷ []) (record_call p l None None (Some k)) (hp, (hl, (hk, tt))) refl refl refl refl
record_says w p l None (Some n) None hp hl hm hn hk =
    says 2 (record_words w p l None (Some n) None) ((true, p) ∷ (true, l) ∷ (false, codes "--seed") ∷ (true, n) ∷ []) (record_call p l None (Some n) None) (hp, (hl, (hn, tt))) refl refl refl refl
record_says w p l None (Some n) (Some k) hp hl hm hn hk =
    says 2 (record_words w p l None (Some n) (Some k)) ((true, p) ∷ (true, l) ∷ (false, codes "--seed") ∷ (true, n) ∷ (false, codes "--steps") ∷ (true, k) ∷ []) (record_call p l None (Some n) (Some k)) (hp, (hl, (hn, (hk, tt)))) refl refl refl refl
record_says w p l (Some m) None None hp hl hm hn hk =
    says 2 (record_words w p l (Some m) None None) ((true, p) ∷ (true, l) ∷ (false, codes "--model") ∷ (true, m) ∷ []) (record_call p l (Some m) None None) (hp, (hl, (hm, tt))) refl refl refl refl
record_says w p l (Some m) None (Some k) hp hl hm hn hk =
    says 2 (record_words w p l (Some m) None (Some k)) ((true, p) ∷ (true, l) ∷ (false, codes "--model") ∷ (true, m) ∷ (false, codes "--steps") ∷ (true, k) ∷ []) (record_call p l (Some m) None (Some k)) (hp, (hl, (hm, (hk, tt)))) refl refl refl refl
record_says w p l (Some m) (Some n) None hp hl hm hn hk =
    says 2 (record_words w p l (Some m) (Some n) None) ((true, p) ∷ (true, l) ∷ (false, codes "--model") ∷ (true, m) ∷ (false, codes "--seed") ∷ (true, n) ∷ []) (record_call p l (Some m) (Some n) None) (hp, (hl, (hm, (hn, tt)))) refl refl refl refl
record_says w p l (Some m) (Some n) (Some k) hp hl hm hn hk =
    says 2 (record_words w p l (Some m) (Some n) (Some k)) ((true, p) ∷ (true, l) ∷ (false, codes "--model") ∷ (true, m) ∷ (false, codes "--seed") ∷ (true, n) ∷ (false, codes "--steps") ∷ (true, k) ∷ []) (record_call p l (Some m) (Some n) (Some k)) (hp, (hl, (hm, (hn, (hk, tt))))) refl refl refl refl

abbrev solve_words : Text → Text → Text → Text → Option Text → Option Text → Option Text → List Text
solve_words w p l o m n r = w ∷ codes "solve" ∷ p ∷ l ∷ o ∷ (option_words (codes "--model") m ++ (option_words (codes "--budget") n ++ option_words (codes "--least") r))

abbrev solve_call : Text → Text → Text → Option Text → Option Text → Option Text → Option Called
solve_call p l o m n r = solved p l o (if_written model_named m) (if_written (number_named 1 BUDGET) n) r

solve_says : (w p l o : Text) (m n r : Option Text) → IsPlainWord p → IsPlainWord l → IsPlainWord o → PlainIf m → PlainIf n → PlainIf r
    → call_of (solve_words w p l o m n r) ≡ solve_call p l o m n r
unfolding clap_on_literals
solve_says w p l o None None None hp hl ho hm hn hr =
    says 4 (solve_words w p l o None None None) ((true, p) ∷ (true, l) ∷ (true, o) ∷ []) (solve_call p l o None None None) (hp, (hl, (ho, tt))) refl refl refl refl
solve_says w p l o None None (Some r) hp hl ho hm hn hr =
    says 4 (solve_words w p l o None None (Some r)) ((true, p) ∷ (true, l) ∷ (true, o) ∷ (false, codes "--least") ∷ (true, r) ∷ []) (solve_call p l o None None (Some r)) (hp, (hl, (ho, (hr, tt)))) refl refl refl refl
solve_says w p l o None (Some n) None hp hl ho hm hn hr =
    says 4 (solve_words w p l o None (Some n) None) ((true, p) ∷ (true, l) ∷ (true, o) ∷ (false, codes "--budget") ∷ (true, n) ∷ []) (solve_call p l o None (Some n) None) (hp, (hl, (ho, (hn, tt)))) refl refl refl refl
solve_says w p l o None (Some n) (Some r) hp hl ho hm hn hr =
    says 4 (solve_words w p l o None (Some n) (Some r)) ((true, p) ∷ (true, l) ∷ (true, o) ∷ (false, codes "--budget") ∷ (true, n) ∷ (false, codes "--least") ∷ (true, r) ∷ []) (solve_call p l o None (Some n) (Some r)) (hp, (hl, (ho, (hn, (hr, tt))))) refl refl refl refl
solve_says w p l o (Some m) None None hp hl ho hm hn hr =
    says 4 (solve_words w p l o (Some m) None None) ((true, p) ∷ (true, l) ∷ (true, o) ∷ (false, codes "--model") ∷ (true, m) ∷ []) (solve_call p l o (Some m) None None) (hp, (hl, (ho, (hm, tt)))) refl refl refl refl
solve_says w p l o (Some m) None (Some r) hp hl ho hm hn hr =
    says 4 (solve_words w p l o (Some m) None (Some r)) ((true, p) ∷ (true, l) ∷ (true, o) ∷ (false, codes "--model") ∷ (true, m) ∷ (false, codes "--least") ∷ (true, r) ∷ []) (solve_call p l o (Some m) None (Some r)) (hp, (hl, (ho, (hm, (hr, tt))))) refl refl refl refl
solve_says w p l o (Some m) (Some n) None hp hl ho hm hn hr =
    says 4 (solve_words w p l o (Some m) (Some n) None) ((true, p) ∷ (true, l) ∷ (true, o) ∷ (false, codes "--model") ∷ (true, m) ∷ (false, codes "--budget") ∷ (true, n) ∷ []) (solve_call p l o (Some m) (Some n) None) (hp, (hl, (ho, (hm, (hn, tt))))) refl refl refl refl
solve_says w p l o (Some m) (Some n) (Some r) hp hl ho hm hn hr =
    says 4 (solve_words w p l o (Some m) (Some n) (Some r)) ((true, p) ∷ (true, l) ∷ (true, o) ∷ (false, codes "--model") ∷ (true, m) ∷ (false, codes "--budget") ∷ (true, n) ∷ (false, codes "--least") ∷ (true, r) ∷ []) (solve_call p l o (Some m) (Some n) (Some r)) (hp, (hl, (ho, (hm, (hn, (hr, tt)))))) refl refl refl refl

abbrev cnf_words : Text → Text → Text → Text → Option Text → List Text
cnf_words w p l o m = w ∷ codes "cnf" ∷ p ∷ l ∷ o ∷ option_words (codes "--model") m

abbrev cnf_call : Text → Text → Text → Option Text → Option Called
cnf_call p l o m = exported p l o (if_written model_named m)

cnf_says : (w p l o : Text) (m : Option Text) → IsPlainWord p → IsPlainWord l → IsPlainWord o → PlainIf m
    → call_of (cnf_words w p l o m) ≡ cnf_call p l o m
unfolding clap_on_literals
cnf_says w p l o None hp hl ho hm =
    says 7 (cnf_words w p l o None) ((true, p) ∷ (true, l) ∷ (true, o) ∷ []) (cnf_call p l o None) (hp, (hl, (ho, tt))) refl refl refl refl
cnf_says w p l o (Some m) hp hl ho hm =
    says 7 (cnf_words w p l o (Some m)) ((true, p) ∷ (true, l) ∷ (true, o) ∷ (false, codes "--model") ∷ (true, m) ∷ []) (cnf_call p l o (Some m)) (hp, (hl, (ho, (hm, tt)))) refl refl refl refl

abbrev import_words : Text → Text → Text → Text → Text → Option Text → List Text
import_words w p l a o m = w ∷ codes "import" ∷ p ∷ l ∷ a ∷ o ∷ option_words (codes "--model") m

abbrev import_call : Text → Text → Text → Text → Option Text → Option Called
import_call p l a o m = imported p l a o (if_written model_named m)

import_says : (w p l a o : Text) (m : Option Text) → IsPlainWord p → IsPlainWord l → IsPlainWord a → IsPlainWord o → PlainIf m
    → call_of (import_words w p l a o m) ≡ import_call p l a o m
unfolding clap_on_literals
import_says w p l a o None hp hl ha ho hm =
    says 8 (import_words w p l a o None) ((true, p) ∷ (true, l) ∷ (true, a) ∷ (true, o) ∷ []) (import_call p l a o None) (hp, (hl, (ha, (ho, tt)))) refl refl refl refl
import_says w p l a o (Some m) hp hl ha ho hm =
    says 8 (import_words w p l a o (Some m)) ((true, p) ∷ (true, l) ∷ (true, a) ∷ (true, o) ∷ (false, codes "--model") ∷ (true, m) ∷ []) (import_call p l a o (Some m)) (hp, (hl, (ha, (ho, (hm, tt))))) refl refl refl refl

three_names : (a b c : Text) → (is_name a && (is_name b && is_name c)) ≡ true → IsPlainWord a × IsPlainWord b × IsPlainWord c
three_names a b c e =
    let x = both (is_name a) (is_name b && is_name c) e in
    let y = both (is_name b) (is_name c) x.1 in
    (name_plain a x.0, name_plain b y.0, name_plain c y.1)

-- the command takes plain words, with the values written in them
pub plain_taken : (first : Text) (call : Called) → is_plain call ≡ true → call_of (words_of first call) ≡ Some call
plain_taken first (Lists p) e = list_says first p (name_plain p e)
plain_taken first (Replays p l s) e = let h = three_names p l s e in replay_says first p l s h.0 h.1 h.2
plain_taken first (Migrates p l o) e = let h = three_names p l o e in migrate_says first p l o h.0 h.1 h.2
plain_taken first (Checks p l r) e = let h = three_names p l r e in check_says first p l r h.0 h.1 h.2
plain_taken first (Explains p l r) e = let h = three_names p l r e in why_says first p l r h.0 h.1 h.2
plain_taken first (Records p l model seed steps) e =
    let a = both (is_name p && is_name l) _ e in
    let names = both (is_name p) (is_name l) a.0 in
    let numbers = both (holds_if (is_between 0 last_seed) seed) _ a.1 in
    let m = model_written model in
    let n = number_written 0 last_seed (omega arith) seed numbers.0 in
    let k = number_written 1 MOVES (omega arith) steps numbers.1 in
    record_says first p l (option_map model_name model) (option_map decimal seed) (option_map decimal steps) (name_plain p names.0) (name_plain l names.1)
    m.0 n.0 k.0
    ∙ (λ i. recorded p l (m.1 i) (n.1 i) (k.1 i))
plain_taken first (Solves p l o model budget least) e =
    let a = both (is_name p && (is_name l && is_name o)) _ e in
    let rest = both (holds_if (is_between 1 BUDGET) budget) _ a.1 in
    let h = three_names p l o a.0 in
    let m = model_written model in
    let n = number_written 1 BUDGET (omega arith) budget rest.0 in
    solve_says first p l o (option_map model_name model) (option_map decimal budget) least h.0 h.1 h.2 m.0 n.0 (name_written least rest.1)
    ∙ (λ i. solved p l o (m.1 i) (n.1 i) least)
plain_taken first (Workloads workers seed) e =
    let a = both (is_between 1 WORKERS workers) (is_between 0 last_seed seed) e in
    let w = number_plain 1 WORKERS workers (omega arith) a.0 in
    let s = number_plain 0 last_seed seed (omega arith) a.1 in
    workload_says first (decimal workers) (decimal seed) w.0 s.0 ∙ (λ i. worked (w.1 i) (s.1 i))
plain_taken first (Exports p l o model) e =
    let h = three_names p l o e in
    let m = model_written model in
    cnf_says first p l o (option_map model_name model) h.0 h.1 h.2 m.0 ∙ (λ i. exported p l o (m.1 i))
plain_taken first (Imports p l a o model) e =
    let x = both (is_name p) (is_name l && (is_name a && is_name o)) e in
    let h = three_names l a o x.1 in
    let m = model_written model in
    import_says first p l a o (option_map model_name model) (name_plain p x.0) h.0 h.1 h.2 m.0 ∙ (λ i. imported p l a o (m.1 i))
