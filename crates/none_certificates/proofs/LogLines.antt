-- The line of a log is read back.
use Rattle.std.proofs.Common.{◌≡◌, ◌<◌, ◌≤◌, ◌+◌, ◌*◌, ◌%◌, ◌/◌, ◌++◌, ◌∷◌, [], ℕ, List, Option, Some, None, Bool, true, false}
use Rattle.std.proofs.Common.{refl, ap, sym, ◌∙◌, arith, append_assoc, append-nil}
use Rattle.std.specs.Prelude.{nat_eq, nat_lt, ◌&&◌, if◌then◌else◌, map, drop}
use Rattle.std.specs.List.{fold, flat_map, list_all}
use Rattle.std.specs.Option.{option_map_or}
use Rattle.std.specs.Fmt.{decimal}
use Rattle.std.proofs.lemmas.Bool.{and_parts, and_from, ltb-true, lt-ltb, ne_eqb}
use Rattle.std.proofs.lemmas.Fmt.{decimal_by_steps}
use Rattle.std.proofs.lemmas.List.Folds.{list_all-append}
use Rattle.std.proofs.lemmas.List.Sums.{fold-append}
use Rattle.tc_base.specs.Names.{Name, child, name_text}
use Rattle.tc_base.specs.Paths.{ThreadPath}
use Rattle.none_certificates.specs.Certificates.{LogLine, is_name, is_thread, is_log_line}
use Rattle.none_certificates.specs.Texts.{outcome_digit, thread_text, threads_text, failing_text, log_text, IsNoLogLine}
use Rattle.none_certificates.specs.helpers.Guess.{
  Reader,
  no_word,
  with_child,
  in_field,
  end_number,
  begin_field,
  kept_after,
  keep_word,
  end_word,
  read_digit,
  read_byte,
  words_in,
  is_stuck,
  line_in,
  log_guess,
}
use Rattle.none_certificates.specs.declared.guess.Field.{Field}
use Rattle.none_certificates.specs.declared.guess.Field.TheVariants.{Name as InName, Steps as InSteps, Outcomes as InOutcomes}

-- What was written is read again.

-- whether numbers are read in a field
abbrev counts : Field → Bool
counts InName = true
counts InSteps = true
counts InOutcomes = false

abbrev numbered : Reader → ℕ → Reader
numbered r n = record r { number = n }

digit-counts : (f : Field) (r : Reader) (b : ℕ) → counts f ≡ true → read_digit f r b ≡ numbered r ((r.number * 10 + b % 16) % 4294967296)
digit-counts InName r b c = refl
digit-counts InSteps r b c = refl
digit-counts InOutcomes r b c = absurd cc

read-digit : (r : Reader) (d n : ℕ) → counts r.field ≡ true → d < 10 → r.number * 10 + d ≡ n → n < 4294967296 → read_byte r (48 + d) ≡ numbered r n
read-digit r d n c h e b =
    let s : nat_eq (48 + d) 32 ≡ false = ne_eqb (48 + d) 32 (λ i. omega arith) in
    let m : nat_eq (48 + d) 58 ≡ false = ne_eqb (48 + d) 58 (λ i. omega arith) in
    let k : nat_eq (48 + d) 46 ≡ false = ne_eqb (48 + d) 46 (λ i. omega arith) in
    let v : (r.number * 10 + (48 + d) % 16) % 4294967296 ≡ n = omega arith in
    rw (s, m, k) (digit-counts r.field r (48 + d) c ∙ ap (numbered r) v)

-- after no digit, reading the digits of a number gives the number
abbrev IsReadBack : ℕ → List ℕ → Type 0
IsReadBack n ds = n < 4294967296 → (r : Reader) → counts r.field ≡ true → r.number ≡ 0 → fold read_byte r ds ≡ numbered r n

read-one : (n : ℕ) → n < 10 → IsReadBack n ((48 + n) ∷ [])
read-one n h b r c z = read-digit r n n c h (omega (arith, z)) b

read-more : (n : ℕ) (ds : List ℕ) → 10 ≤ n → IsReadBack (n / 10) ds → IsReadBack n (ds ++ ((48 + n % 10) ∷ []))
read-more n ds h before b r c z =
    fold-append read_byte r ds ((48 + n % 10) ∷ [])
    ∙ ap (λ q. read_byte q (48 + n % 10)) (before (omega arith) r c z)
    ∙ read-digit (numbered r (n / 10)) (n % 10) n c (omega arith) (omega arith) b

read-decimal : (n : ℕ) → n < 4294967296 → (r : Reader) → counts r.field ≡ true → r.number ≡ 0 → fold read_byte r (decimal n) ≡ numbered r n
read-decimal n b r c z = decimal_by_steps IsReadBack read-one read-more n (omega arith) b r c z

-- a reader in a name, in a number of steps and in outcomes
abbrev in-name : Option Name → List ThreadPath → Name → ℕ → Reader
in-name f ts n k = record { failing = f; threads = ts; name = n; steps = 0; outcomes = []; field = InName; number = k }

abbrev in-steps : Option Name → List ThreadPath → Name → ℕ → Reader
in-steps f ts n k = record { failing = f; threads = ts; name = n; steps = 0; outcomes = []; field = InSteps; number = k }

abbrev in-outcomes : Option Name → List ThreadPath → Name → ℕ → List Bool → Reader
in-outcomes f ts n k os = record { failing = f; threads = ts; name = n; steps = k; outcomes = os; field = InOutcomes; number = 0 }

-- a number of a name
abbrev is-number : ℕ → Bool
is-number k = nat_lt 0 k && nat_lt k 4294967296

child-again : (n : Name) (k : ℕ) → is-number k ≡ true → with_child n k ≡ child n k
child-again n k h =
    let z : nat_eq k 0 ≡ false = ne_eqb k 0 (λ e. omega (arith, e, ltb-true 0 k (and_parts (nat_lt 0 k) _ h).0)) in
    ap (λ b. if b then n else child n k) z

abbrev children_text : Name → List ℕ
children_text ks = flat_map (λ k. 46 ∷ decimal k) ks

children-again : (f : Option Name) (ts : List ThreadPath) (n : Name) (k : ℕ) (ks : Name) → is_name ks ≡ true
    → end_number (fold read_byte (in-name f ts n k) (children_text ks)) ≡ in-name f ts (with_child n k ++ ks) 0
children-again f ts n k [] h = ap (λ m. in-name f ts m 0) (sym (append-nil (with_child n k)))
children-again f ts n k (j ∷ ks) h =
    let here : is-number j ≡ true = (and_parts (is-number j) _ h).0 in
    let small : j < 4294967296 = ltb-true j 4294967296 (and_parts (nat_lt 0 j) _ here).1 in
    let before : Name = with_child n k in
    ap end_number (fold-append read_byte (in-name f ts before 0) (decimal j) (children_text ks))
    ∙ ap (λ r. end_number (fold read_byte r (children_text ks))) (read-decimal j small (in-name f ts before 0) refl refl)
    ∙ children-again f ts before j ks (and_parts (is-number j) _ h).1
    ∙ ap (λ m. in-name f ts (m ++ ks) 0) (child-again before j here)
    ∙ ap (λ m. in-name f ts m 0) (append_assoc before (j ∷ []) ks)

name-again : (f : Option Name) (ts : List ThreadPath) (n : Name) → is_name n ≡ true
    → end_number (fold read_byte (in-name f ts [] 0) (name_text n)) ≡ in-name f ts n 0
name-again f ts n h = children-again f ts [] 0 n h

outcomes-again : (f : Option Name) (ts : List ThreadPath) (n : Name) (k : ℕ) (done os : List Bool)
    → fold read_byte (in-outcomes f ts n k done) (map outcome_digit os) ≡ in-outcomes f ts n k (done ++ os)
outcomes-again f ts n k done [] = ap (in-outcomes f ts n k) (sym (append-nil done))
outcomes-again f ts n k done (true ∷ os) =
    outcomes-again f ts n k (done ++ true ∷ []) os ∙ ap (in-outcomes f ts n k) (append_assoc done (true ∷ []) os)
outcomes-again f ts n k done (false ∷ os) =
    outcomes-again f ts n k (done ++ false ∷ []) os ∙ ap (in-outcomes f ts n k) (append_assoc done (false ∷ []) os)

steps-again : (f : Option Name) (ts : List ThreadPath) (n : Name) (k : ℕ) (os : List Bool) → k < 65536
    → fold read_byte (in-steps f ts n 0) (decimal k ++ 58 ∷ map outcome_digit os) ≡ in-outcomes f ts n k os
steps-again f ts n k os h =
    let same : k % 65536 ≡ k = omega (arith, h) in
    fold-append read_byte (in-steps f ts n 0) (decimal k) (58 ∷ map outcome_digit os)
    ∙ ap (λ r. fold read_byte r (58 ∷ map outcome_digit os)) (read-decimal k (omega (arith, h)) (in-steps f ts n 0) refl refl)
    ∙ ap (λ m. fold read_byte (in-outcomes f ts n m []) (map outcome_digit os)) same
    ∙ outcomes-again f ts n k [] os

thread-again : (f : Option Name) (ts : List ThreadPath) (t : ThreadPath) → is_thread t ≡ true
    → fold read_byte (in-name f ts [] 0) (thread_text t) ≡ in-outcomes f ts t.name t.path.steps t.path.outcomes
thread-again f ts t h =
    let p = and_parts (is_name t.name) _ h in
    let rest : List ℕ = decimal t.path.steps ++ 58 ∷ map outcome_digit t.path.outcomes in
    fold-append read_byte (in-name f ts [] 0) (name_text t.name) (58 ∷ rest)
    ∙ ap (λ r. fold read_byte (begin_field r) rest) (name-again f ts t.name p.0)
    ∙ steps-again f ts t.name t.path.steps t.path.outcomes (ltb-true t.path.steps 65536 p.1)

-- the words of threads, after words that end as these
threads-again : (f : Name) (r : Reader) (done ts : List ThreadPath) → list_all is_thread ts ≡ true → end_word r ≡ in-name (Some f) done [] 0
    → end_word (fold read_byte r (threads_text ts)) ≡ in-name (Some f) (done ++ ts) [] 0
threads-again f r done [] h e = e ∙ ap (λ us. in-name (Some f) us [] 0) (sym (append-nil done))
threads-again f r done (t ∷ ts) h e =
    let here : is_thread t ≡ true = (and_parts (is_thread t) _ h).0 in
    let read : fold read_byte (end_word r) (thread_text t) ≡ in-outcomes (Some f) done t.name t.path.steps t.path.outcomes =
    ap (λ q. fold read_byte q (thread_text t)) e ∙ thread-again (Some f) done t here in
    ap end_word (fold-append read_byte (end_word r) (thread_text t) (threads_text ts))
    ∙ threads-again f (fold read_byte (end_word r) (thread_text t)) (done ++ t ∷ []) ts (and_parts (is_thread t) _ h).1 (ap end_word read)
    ∙ ap (λ us. in-name (Some f) us [] 0) (append_assoc done (t ∷ []) ts)

-- the words of a line whose first word is read as a name
words-again : (word : List ℕ) (f : Name) (ts : List ThreadPath) → list_all is_thread ts ≡ true
    → end_word (fold read_byte no_word word) ≡ in-name (Some f) [] [] 0 → words_in (word ++ threads_text ts) ≡ in-name (Some f) ts [] 0
words-again word f ts h e =
    ap end_word (fold-append read_byte no_word word (threads_text ts)) ∙ threads-again f (fold read_byte no_word word) [] ts h e

abbrev line-of : Option Name → List ThreadPath → LogLine
line-of f ts = record { failing = f; threads = ts }

parts-again : (f : Option Name) (ts : List ThreadPath) → option_map_or is_name f true ≡ true → list_all is_thread ts ≡ true
    → log_guess (log_text (line-of f ts)) ≡ line-of f ts
parts-again None ts n h =
    ap (λ (r : Reader). line-of None r.threads)
    (words-again (failing_text None) (end_number (fold read_byte no_word (failing_text None))).name ts h refl)
parts-again (Some f) ts n h =
    ap (λ (r : Reader). line-of r.failing r.threads) (words-again (name_text f) f ts h (ap keep_word (name-again None [] f n)))

-- the guess for the text of the line of a log is that line
pub log_guess-log_text : (l : LogLine) → is_log_line l ≡ true → log_guess (log_text l) ≡ l
log_guess-log_text l r =
    let p = and_parts (option_map_or is_name l.failing true) _ r in
    parts-again l.failing l.threads p.0 p.1

-- bytes other than the text of their guess aren't the text of the line of any log
pub no-log-line : (bytes : List ℕ) (k : LogLine) → log_guess bytes ≡ k → (log_text k ≡ bytes → ⊥) → IsNoLogLine bytes
no-log-line bytes k e n l r t =
    let same : l ≡ k = sym (log_guess-log_text l r) ∙ ap log_guess t ∙ e in
    n (ap log_text (sym same) ∙ t)

-- Each guess is one that the format has.

record IsFit (r : Reader) : Type 0 where
  number : r.number < 4294967296
  name : is_name r.name ≡ true
  steps : r.steps < 65536
  threads : list_all is_thread r.threads ≡ true
  failing : option_map_or is_name r.failing true ≡ true

child-fit : (n : Name) (k : ℕ) (b : Bool) → nat_eq k 0 ≡ b → is_name n ≡ true → k < 4294967296 → is_name (if b then n else child n k) ≡ true
child-fit n k true e h small = h
child-fit n k false e h small =
    let some : 0 < k = grind arith in
    list_all-append is-number n (k ∷ []) ∙ and_from _ _ h (and_from _ true (and_from _ _ (lt-ltb 0 k some) (lt-ltb k 4294967296 small)) refl)

field-fit : (f : Field) (r : Reader) → IsFit r → IsFit (in_field f r)
field-fit InName r h = record {
  number = omega arith;
  name = child-fit r.name r.number (nat_eq r.number 0) refl h.name h.number;
  steps = h.steps;
  threads = h.threads;
  failing = h.failing;
}
field-fit InSteps r h = record {
  number = omega arith;
  name = h.name;
  steps = omega arith;
  threads = h.threads;
  failing = h.failing;
}
field-fit InOutcomes r h = record {
  number = omega arith;
  name = h.name;
  steps = h.steps;
  threads = h.threads;
  failing = h.failing;
}

kept-fit : (o : Option Name) (r : Reader) → o ≡ r.failing → IsFit r → IsFit (kept_after o r)
kept-fit None r e h = record { number = omega arith; name = refl; steps = omega arith; threads = h.threads; failing = h.name }
kept-fit (Some n) r e h = record {
  number = omega arith;
  name = refl;
  steps = omega arith;
  threads =
      list_all-append is_thread r.threads (record { name = r.name; path = record { outcomes = r.outcomes; steps = r.steps } } ∷ [])
      ∙ and_from _ _ h.threads (and_from _ true (and_from _ _ h.name (lt-ltb r.steps 65536 h.steps)) refl);
  failing = ap (λ f. option_map_or is_name f true) e ∙ h.failing;
}

word-fit : (r : Reader) → IsFit r → IsFit (end_word r)
word-fit r h = kept-fit (end_number r).failing (end_number r) refl (field-fit r.field r h)

begun-fit : (r : Reader) → IsFit r → IsFit (begin_field r)
begun-fit r h = record { number = h.number; name = h.name; steps = h.steps; threads = h.threads; failing = h.failing }

digit-fit : (f : Field) (r : Reader) (b : ℕ) → IsFit r → IsFit (read_digit f r b)
digit-fit InName r b h = record { number = omega arith; name = h.name; steps = h.steps; threads = h.threads; failing = h.failing }
digit-fit InSteps r b h = record { number = omega arith; name = h.name; steps = h.steps; threads = h.threads; failing = h.failing }
digit-fit InOutcomes r b h = record { number = h.number; name = h.name; steps = h.steps; threads = h.threads; failing = h.failing }

byte-fit : (space colon dot : Bool) (r : Reader) (b : ℕ) → IsFit r
    → IsFit (if space then end_word r else (if colon then begin_field (end_number r) else (if dot then end_number r else read_digit r.field r b)))
byte-fit true colon dot r b h = word-fit r h
byte-fit false true dot r b h = begun-fit (end_number r) (field-fit r.field r h)
byte-fit false false true r b h = field-fit r.field r h
byte-fit false false false r b h = digit-fit r.field r b h

all-fit : (bytes : List ℕ) (r : Reader) → IsFit r → IsFit (fold read_byte r bytes)
all-fit [] r h = h
all-fit (b ∷ bytes) r h = all-fit bytes (read_byte r b) (byte-fit (nat_eq b 32) (nat_eq b 58) (nat_eq b 46) r b h)

unless-stuck : (b : Bool) (f : Option Name) → option_map_or is_name f true ≡ true → option_map_or is_name (if b then None else f) true ≡ true
unless-stuck true f h = refl
unless-stuck false f h = h

line-fit : (bytes : List ℕ) → is_log_line (line_in bytes) ≡ true
line-fit bytes =
    let h = word-fit (fold read_byte no_word bytes)
    (all-fit bytes no_word (record { number = omega arith; name = refl; steps = omega arith; threads = refl; failing = refl })) in
    and_from _ _ (unless-stuck (is_stuck bytes) (words_in bytes).failing h.failing) h.threads

-- each guess is a line that the format has
pub log_guess-readable : (bytes : List ℕ) → is_log_line (log_guess bytes) ≡ true
log_guess-readable bytes = line-fit (drop 4 bytes)
