-- Words that the command takes name a subcommand with its files, numbers and values.
use Rattle.std.proofs.Common.{◌≡◌, ℕ, refl, slice_index_or, Bool, true, false, ◌&&◌, cond, List, [], ◌∷◌, ◌++◌, Option, Some, None, is_some, option_and_then, option_map, codes}
use Rattle.std.specs.Prelude.{IsSomeAnd, bytes_eq, find}
use Rattle.std.specs.Option.{option_map_or, option_zip}
use Rattle.std.proofs.lemmas.Bool.{and_from}
use Rattle.clap.specs.Words.{Row, Text, fault_of, first_of, subcommand_of}
use Rattle.clap.specs.Walk.{is_empty}
use Rattle.clap.proofs.WalkLemmas.{both}
use Rattle.clap_debug_words.specs.CommandLine.{Form, command_line, forms, of_log}
use Rattle.tc_limits.specs.declared.limits.TheConstants.{BUDGET, MOVES}
use Rattle.clap_debug_words.specs.declared.call.TheConstants.{WORKERS}
use Rattle.clap_debug_words.specs.Values.{budget_in, if_written, last_seed, model_in, model_named, number_named, seed_in, steps_in}
use Rattle.clap_debug_words.specs.Calls.{Called, Lists, both_in, called, check_in, explain_in, export_in, import_in, list_in, migrate_in, record_in, replay_in}
use Rattle.clap_debug_words.specs.Calls.{solve_in, three_in, words_taken, workload_in}
use Rattle.clap_debug_words.specs.Given.{HasFiles, HasValues, IsOfForm, has_texts, has_values}

map_some : {A B : Type 0} (f : A → B) (o : Option A) → is_some (option_map f o) ≡ true → is_some o ≡ true
map_some f None e = cc
map_some f (Some x) e = refl

zip_some : {A B : Type 0} (a : Option A) (b : Option B) → is_some (option_zip a b) ≡ true → (is_some a ≡ true) × (is_some b ≡ true)
zip_some None b e = cc
zip_some (Some x) None e = cc
zip_some (Some x) (Some y) e = (refl, refl)

any_name : (t : Option Text) → option_map_or (λ _. true) t true ≡ true
any_name None = refl
any_name (Some t) = refl

option_value : {T : Type 0} (named : Text → Option T) (t : Option Text) → is_some (if_written named t) ≡ true
    → option_map_or (λ x. is_some (named x)) t true ≡ true
option_value named None e = refl
option_value named (Some x) e = map_some Some (named x) e

number_value : {T : Type 0} (named : Text → Option T) (t : Option Text) → is_some (option_and_then named t) ≡ true
    → (is_some t ≡ true) × (option_map_or (λ x. is_some (named x)) t true ≡ true)
number_value named None e = cc
number_value named (Some x) e = (refl, e)

cons : {a b : Bool} → a ≡ true → b ≡ true → (a && b) ≡ true
cons e f = and_from _ _ e f

-- the form's positionals have texts, and these and the options have values
abbrev is_whole : Form → List Row → Bool
is_whole f rows = has_texts f rows && has_values f rows

-- the form at a place
abbrev form_at : ℕ → Form
form_at k = slice_index_or forms k (of_log [] [] [])

name : (id : Text) (rows : List Row) → option_map_or (λ _. true) (first_of id rows) true ≡ true
name id rows = any_name (first_of id rows)

list_whole : (rows : List Row) → is_some (list_in rows) ≡ true → is_whole (form_at 0) rows ≡ true
list_whole rows e = cons (cons (map_some Lists (first_of (codes "program") rows) e) refl) (cons (name (codes "program") rows) refl)

three_texts : (id : Text) (rows : List Row) → is_some (three_in id rows) ≡ true → (is_some (first_of (codes "program") rows) ≡ true)
    × (is_some (first_of (codes "log") rows) ≡ true) × (is_some (first_of id rows) ≡ true)
three_texts id rows e =
    let x = zip_some (both_in rows) (first_of id rows) e in
    let y = zip_some (first_of (codes "program") rows) (first_of (codes "log") rows) x.0 in
    (y.0, y.1, x.1)

two_texts : (rows : List Row) → is_some (both_in rows) ≡ true
    → (is_some (first_of (codes "program") rows) ≡ true) × (is_some (first_of (codes "log") rows) ≡ true)
two_texts rows = zip_some (first_of (codes "program") rows) (first_of (codes "log") rows)

-- a command of a program, its log and one more file
three_whole : (id : Text) (rows : List Row) (mk : (Text × Text) × Text → Called) → is_some (option_map mk (three_in id rows)) ≡ true
    → ((is_some (first_of (codes "program") rows) && (is_some (first_of (codes "log") rows) && (is_some (first_of id rows) && true)))
    && (option_map_or (λ _. true) (first_of (codes "program") rows) true && (option_map_or (λ _. true) (first_of (codes "log") rows) true
    && (option_map_or (λ _. true) (first_of id rows) true && true)))) ≡ true
three_whole id rows mk e =
    let t = three_texts id rows (map_some mk (three_in id rows) e) in
    cons (cons t.0 (cons t.1 (cons t.2 refl))) (cons (name (codes "program") rows) (cons (name (codes "log") rows) (cons (name id rows) refl)))

model_value : (rows : List Row) → is_some (model_in rows) ≡ true → option_map_or (λ x. is_some (model_named x)) (first_of (codes "model") rows) true ≡ true
model_value rows = option_value model_named (first_of (codes "model") rows)

record_whole : (rows : List Row) → is_some (record_in rows) ≡ true → is_whole (form_at 2) rows ≡ true
record_whole rows e =
    let numbers = option_zip (seed_in rows) (steps_in rows) in
    let x = zip_some (both_in rows) (option_zip (model_in rows) numbers) (map_some _ (option_zip (both_in rows) (option_zip (model_in rows) numbers)) e) in
    let t = two_texts rows x.0 in
    let y = zip_some (model_in rows) numbers x.1 in
    let z = zip_some (seed_in rows) (steps_in rows) y.1 in
    cons (cons t.0 (cons t.1 refl))
    (cons (name (codes "program") rows) (cons (name (codes "log") rows) (cons (model_value rows y.0)
    (cons (option_value (number_named 0 last_seed) (first_of (codes "seed") rows) z.0) (cons (option_value (number_named 1 MOVES) (first_of (codes "steps") rows) z.1) refl)))))

solve_whole : (rows : List Row) → is_some (solve_in rows) ≡ true → is_whole (form_at 4) rows ≡ true
solve_whole rows e =
    let options = option_zip (model_in rows) (budget_in rows) in
    let x = zip_some (three_in (codes "out") rows) options (map_some _ (option_zip (three_in (codes "out") rows) options) e) in
    let t = three_texts (codes "out") rows x.0 in
    let y = zip_some (model_in rows) (budget_in rows) x.1 in
    cons (cons t.0 (cons t.1 (cons t.2 refl)))
    (cons (name (codes "program") rows) (cons (name (codes "log") rows) (cons (name (codes "out") rows) (cons (model_value rows y.0)
    (cons (option_value (number_named 1 BUDGET) (first_of (codes "budget") rows) y.1) (cons (name (codes "least") rows) refl))))))

workload_whole : (rows : List Row) → is_some (workload_in rows) ≡ true → is_whole (form_at 6) rows ≡ true
workload_whole rows e =
    let workers = option_and_then (number_named 1 WORKERS) (first_of (codes "workers") rows) in
    let seed = option_and_then (number_named 0 last_seed) (first_of (codes "seed") rows) in
    let x = zip_some workers seed (map_some _ (option_zip workers seed) e) in
    let w = number_value (number_named 1 WORKERS) (first_of (codes "workers") rows) x.0 in
    let s = number_value (number_named 0 last_seed) (first_of (codes "seed") rows) x.1 in
    cons (cons w.0 (cons s.0 refl)) (cons w.1 (cons s.1 refl))

cnf_whole : (rows : List Row) → is_some (export_in rows) ≡ true → is_whole (form_at 7) rows ≡ true
cnf_whole rows e =
    let x = zip_some (three_in (codes "out") rows) (model_in rows) (map_some _ (option_zip (three_in (codes "out") rows) (model_in rows)) e) in
    let t = three_texts (codes "out") rows x.0 in
    cons (cons t.0 (cons t.1 (cons t.2 refl)))
    (cons (name (codes "program") rows) (cons (name (codes "log") rows) (cons (name (codes "out") rows) (cons (model_value rows x.1) refl))))

import_whole : (rows : List Row) → is_some (import_in rows) ≡ true → is_whole (form_at 8) rows ≡ true
import_whole rows e =
    let more = option_zip (first_of (codes "out") rows) (model_in rows) in
    let x = zip_some (three_in (codes "answer") rows) more (map_some _ (option_zip (three_in (codes "answer") rows) more) e) in
    let t = three_texts (codes "answer") rows x.0 in
    let y = zip_some (first_of (codes "out") rows) (model_in rows) x.1 in
    cons (cons t.0 (cons t.1 (cons t.2 (cons y.0 refl))))
    (cons (name (codes "program") rows) (cons (name (codes "log") rows) (cons (name (codes "answer") rows) (cons (name (codes "out") rows)
    (cons (model_value rows y.1) refl)))))

-- one more command before the others
chosen : (rows : List Row) (b : Bool) (f : Form) (call rest : Option Called) (found : Option Form) → (is_some call ≡ true → is_whole f rows ≡ true)
    → (is_some rest ≡ true → IsSomeAnd found (λ g. is_whole g rows ≡ true)) → is_some (cond b call rest) ≡ true
    → IsSomeAnd (cond b (Some f) found) (λ g. is_whole g rows ≡ true)
chosen rows true f call rest found this later e = this e
chosen rows false f call rest found this later e = later e

none_left : (P : Form → Type 0) → false ≡ true → IsSomeAnd None P
none_left P e = cc

of_form : (p : Text × List Row) → is_some (called p) ≡ true → IsOfForm is_whole p
of_form p =
    let rows = p.1 in
    chosen rows (bytes_eq p.0 (codes "list")) (form_at 0) (list_in rows) _ _ (list_whole rows)
    (chosen rows (bytes_eq p.0 (codes "replay")) (form_at 1) (replay_in rows) _ _ (three_whole (codes "schedule") rows _)
    (chosen rows (bytes_eq p.0 (codes "record")) (form_at 2) (record_in rows) _ _ (record_whole rows)
    (chosen rows (bytes_eq p.0 (codes "migrate")) (form_at 3) (migrate_in rows) _ _ (three_whole (codes "out") rows _)
    (chosen rows (bytes_eq p.0 (codes "solve")) (form_at 4) (solve_in rows) _ _ (solve_whole rows)
    (chosen rows (bytes_eq p.0 (codes "check")) (form_at 5) (check_in rows) _ _ (three_whole (codes "refutation") rows _)
    (chosen rows (bytes_eq p.0 (codes "workload")) (form_at 6) (workload_in rows) _ _ (workload_whole rows)
    (chosen rows (bytes_eq p.0 (codes "cnf")) (form_at 7) (export_in rows) _ _ (cnf_whole rows)
    (chosen rows (bytes_eq p.0 (codes "import")) (form_at 8) (import_in rows) _ _ (import_whole rows)
    (chosen rows (bytes_eq p.0 (codes "why")) (form_at 9) (explain_in rows) None None (three_whole (codes "refutation") rows _)
    (none_left (λ g. is_whole g rows ≡ true)))))))))))

some_weaker : {A : Type 0} (P Q : A → Type 0) → ((x : A) → P x → Q x) → (o : Option A) → IsSomeAnd o P → IsSomeAnd o Q
some_weaker P Q h None p = p
some_weaker P Q h (Some x) p = h x p

-- what holds of what a call is made of holds of what accepted words say
accepted : (P : Text × List Row → Type 0) → ((p : Text × List Row) → is_some (called p) ≡ true → P p) → (b : Bool) (o : Option (Text × List Row))
    → is_some (cond b (option_and_then called o) None) ≡ true → IsSomeAnd o P
accepted P h true None e = cc
accepted P h true (Some p) e = h p e
accepted P h false o e = cc

narrowed : (has : Form → List Row → Bool) → ((f : Form) (rows : List Row) → is_whole f rows ≡ true → has f rows ≡ true) → (p : Text × List Row)
    → IsOfForm is_whole p → IsOfForm has p
narrowed has narrows p =
    some_weaker (λ f. is_whole f p.1 ≡ true) (λ f. has f p.1 ≡ true) (λ f. narrows f p.1) (find (λ f. bytes_eq p.0 f.name) forms)

pub taken_has_files : (words : List Text) → words_taken words ≡ true → IsSomeAnd (subcommand_of command_line words) HasFiles
taken_has_files words =
    accepted HasFiles (λ p e. narrowed has_texts (λ f rows h. (both (has_texts f rows) (has_values f rows) h).0) p (of_form p e))
    (is_empty (fault_of command_line words)) (subcommand_of command_line words)

pub taken_has_values : (words : List Text) → words_taken words ≡ true → IsSomeAnd (subcommand_of command_line words) HasValues
taken_has_values words =
    accepted HasValues (λ p e. narrowed has_values (λ f rows h. (both (has_texts f rows) (has_values f rows) h).1) p (of_form p e))
    (is_empty (fault_of command_line words)) (subcommand_of command_line words)
