-- A text is that of at most one certificate.
use Rattle.std.proofs.Common.{◌≡◌, ◌<◌, ◌≤◌, ◌+◌, ◌++◌, ◌∷◌, [], ℕ, suc, List, Option, Some, None, Bool, true, false}
use Rattle.std.proofs.Common.{refl, ap, sym, ◌∙◌, arith, append_assoc}
use Rattle.std.specs.Prelude.{nat_eq, nat_lt, ◌&&◌, map, length, is_some}
use Rattle.std.specs.List.{flat_map, list_all}
use Rattle.std.specs.Option.{option_map_or}
use Rattle.std.specs.Fmt.{decimal}
use Rattle.std.proofs.lemmas.Bool.{and_parts, and_from, ltb-true, ne_eqb, leb-true}
use Rattle.memory_models.specs.declared.model.Model.{Model}
use Rattle.memory_models.specs.declared.model.Model.TheVariants.{Sc, Tso, Pso}
use Rattle.log_walk.specs.declared.bounds.Kind.{Kind}
use Rattle.log_walk.specs.declared.bounds.Kind.TheVariants.{Failure, Deadlock}
use Rattle.tc_base.specs.Names.{Name, name_text}
use Rattle.tc_base.specs.Paths.{ThreadPath}
use Rattle.tc_decimal.specs.Decimals.{is_digit}
use Rattle.tc_decimal.proofs.Decimals.{decimal_digits}
use Rattle.refute_check.specs.Texts.{ended, line_text, is_readable, refutation_text}
use Rattle.refute_check.specs.Reading.{Reading, Reads, after_taken, beginning}
use Rattle.refute_check.specs.helpers.Pieces.{pushed}
use Rattle.refute_check.specs.declared.head.Head.{Head}
use Rattle.refute_check.specs.declared.line.Line.{Line}
use Rattle.refute_check.specs.declared.line.Line.TheVariants.{Add, Delete}
use Rattle.refute_check.specs.declared.text.Taken.{Taken}
use Rattle.refute_check.specs.declared.text.Taken.TheVariants.{Header as Front, Line as Body}
use Rattle.refute_check.proofs.Cuts.{Step}
use Rattle.refute_check.proofs.ReadTexts.{fault-stays}
use Rattle.refute_check.proofs.Wholes.{text-is-read}
use Rattle.refute_check.proofs.Guesses.{line_guess-line_text}
use Rattle.refute_check.specs.helpers.Guess.{line_guess}
use Rattle.none_certificates.specs.declared.header.Header.{Header}
use Rattle.none_certificates.specs.Certificates.{LogLine, Refuted, Certificate, is_header, is_name, is_thread, is_log_line, is_refuted, is_certificate}
use Rattle.none_certificates.specs.Texts.{
  extent_text,
  header_text,
  outcome_digit,
  thread_text,
  threads_text,
  failing_text,
  log_text,
  refuted_text,
  certificate_text,
}
use Rattle.none_certificates.specs.helpers.Guess.{header_guess, log_guess}
use Rattle.none_certificates.proofs.Headers.{header_guess-header_text}
use Rattle.none_certificates.proofs.LogLines.{log_guess-log_text}

-- how many line ends some bytes have
abbrev counted : Bool → ℕ → ℕ
counted true n = suc n
counted false n = n

abbrev ends : List ℕ → ℕ
ends [] = 0
ends (b ∷ bs) = counted (nat_eq b 10) (ends bs)

counted-more : (b : Bool) (m n : ℕ) → counted b (m + n) ≡ counted b m + n
counted-more true m n = omega arith
counted-more false m n = refl

ends-both : (xs ys : List ℕ) → ends (xs ++ ys) ≡ ends xs + ends ys
ends-both [] ys = omega arith
ends-both (x ∷ xs) ys = ap (counted (nat_eq x 10)) (ends-both xs ys) ∙ counted-more (nat_eq x 10) (ends xs) (ends ys)

none-in-both : (xs ys : List ℕ) → ends xs ≡ 0 → ends ys ≡ 0 → ends (xs ++ ys) ≡ 0
none-in-both xs ys a b = omega (arith, ends-both xs ys, a, b)

-- The lines of a certificate have no line ends.

none-in-digits : (ds : List ℕ) → list_all is_digit ds ≡ true → ends ds ≡ 0
none-in-digits [] h = refl
none-in-digits (d ∷ ds) h =
    let p = and_parts (is_digit d) _ h in
    let low : 48 ≤ d = leb-true 48 d (and_parts _ _ p.0).0 in
    let no : nat_eq d 10 ≡ false = ne_eqb d 10 (λ e. omega (arith, low, e)) in
    ap (λ b. counted b (ends ds)) no ∙ none-in-digits ds p.1

none-in-decimal : (n : ℕ) → n < 4294967296 → ends (decimal n) ≡ 0
none-in-decimal n h = none-in-digits (decimal n) (decimal_digits n (omega (arith, h)))

none-in-children : (n : Name) → is_name n ≡ true → ends (flat_map (λ k. 46 ∷ decimal k) n) ≡ 0
none-in-children [] h = refl
none-in-children (k ∷ n) h =
    let p = and_parts (nat_lt 0 k && nat_lt k 4294967296) _ h in
    none-in-both (decimal k) (flat_map (λ k. 46 ∷ decimal k) n) (none-in-decimal k (ltb-true k 4294967296 (and_parts (nat_lt 0 k) _ p.0).1))
    (none-in-children n p.1)

none-in-outcomes : (os : List Bool) → ends (map outcome_digit os) ≡ 0
none-in-outcomes [] = refl
none-in-outcomes (true ∷ os) = none-in-outcomes os
none-in-outcomes (false ∷ os) = none-in-outcomes os

none-in-thread : (t : ThreadPath) → is_thread t ≡ true → ends (thread_text t) ≡ 0
none-in-thread t h =
    let p = and_parts (is_name t.name) _ h in
    none-in-both (name_text t.name) (58 ∷ (decimal t.path.steps ++ 58 ∷ map outcome_digit t.path.outcomes)) (none-in-children t.name p.0)
    (none-in-both (decimal t.path.steps) (58 ∷ map outcome_digit t.path.outcomes)
    (none-in-decimal t.path.steps (omega (arith, ltb-true t.path.steps 65536 p.1))) (none-in-outcomes t.path.outcomes))

none-in-threads : (ts : List ThreadPath) → list_all is_thread ts ≡ true → ends (threads_text ts) ≡ 0
none-in-threads [] h = refl
none-in-threads (t ∷ ts) h =
    let p = and_parts (is_thread t) _ h in
    none-in-both (thread_text t) (threads_text ts) (none-in-thread t p.0) (none-in-threads ts p.1)

none-in-failing : (f : Option Name) → option_map_or is_name f true ≡ true → ends (failing_text f) ≡ 0
none-in-failing None h = refl
none-in-failing (Some n) h = none-in-children n h

none-in-log : (l : LogLine) → is_log_line l ≡ true → ends (log_text l) ≡ 0
none-in-log l h =
    let p = and_parts (option_map_or is_name l.failing true) _ h in
    none-in-both (failing_text l.failing) (threads_text l.threads) (none-in-failing l.failing p.0) (none-in-threads l.threads p.1)

none-in-extent : (n : ℕ) (whole : Bool) → n < 65536 → ends (decimal n ++ 32 ∷ extent_text whole) ≡ 0
none-in-extent n true h = none-in-both (decimal n) (32 ∷ extent_text true) (none-in-decimal n (omega (arith, h))) refl
none-in-extent n false h = none-in-both (decimal n) (32 ∷ extent_text false) (none-in-decimal n (omega (arith, h))) refl

header-parts : (m : Model) (k : Kind) (n : ℕ) (whole : Bool) → n < 65536
    → ends (header_text (record { model = m; bounds = record { kind = k; most = n }; whole = whole })) ≡ 0
header-parts Sc Failure n whole h = none-in-extent n whole h
header-parts Sc Deadlock n whole h = none-in-extent n whole h
header-parts Tso Failure n whole h = none-in-extent n whole h
header-parts Tso Deadlock n whole h = none-in-extent n whole h
header-parts Pso Failure n whole h = none-in-extent n whole h
header-parts Pso Deadlock n whole h = none-in-extent n whole h

none-in-header : (h : Header) → is_header h ≡ true → ends (header_text h) ≡ 0
none-in-header h r = header-parts h.model h.bounds.kind h.bounds.most h.whole (ltb-true h.bounds.most 65536 r)

-- reading ends a line at each line end
abbrev AreEnded : List ℕ → Type 0
AreEnded bytes = (s : Reading) (ts : List Taken) (t : Reading) → Reads s bytes ts t → t.fault ≡ None → ends bytes ≡ length ts

ended-one : (x : Taken) (bs : List ℕ) (s : Reading) (ts xs : List Taken) (t : Reading) → AreEnded bs → ts ≡ x ∷ xs
    → Reads (after_taken s x) bs xs t → t.fault ≡ None → suc (ends bs) ≡ length ts
ended-one x bs s ts xs t ih i r e = omega (arith, ih (after_taken s x) xs t r e, ap length i)

ended-step : (f d : Bool) (b : ℕ) (bs : List ℕ) (s : Reading) (ts : List Taken) (t : Reading) → is_some s.fault ≡ f → AreEnded bs
    → Step f d s b bs ts t → t.fault ≡ None → counted d (ends bs) ≡ length ts
ended-step true d b bs s ts t f ih a e = absurd (fault-stays [] s ts t f a e)
ended-step false true b bs s ts t f ih a e = ended-one a.0 bs s ts a.1 t ih a.2 a.4 e
ended-step false false b bs s ts t f ih a e = ih (pushed s (b ∷ [])) ts t a e

all-ended : (bytes : List ℕ) → AreEnded bytes
all-ended [] s ts t a e = sym (ap length a.0)
all-ended (b ∷ bytes) s ts t a e = ended-step _ (nat_eq b 10) b bytes s ts t refl (all-ended bytes) a e

abbrev some-head : Head
some-head = record { model = Sc; switches = None }

none-in-line : (l : Line) → is_readable l ≡ true → ends (line_text l) ≡ 0
none-in-line l h =
    let two : suc (ends ((line_text l ++ 10 ∷ []) ++ [])) ≡ 2 =
    all-ended (refutation_text some-head (l ∷ [])) beginning (Front some-head ∷ Body l ∷ []) (record { unfinished = []; line = 3; fault = None })
    (text-is-read some-head (l ∷ []) (refl, and_from _ true h refl, omega arith)) refl in
    let more : ends ((line_text l ++ 10 ∷ []) ++ []) ≡ ends (line_text l ++ 10 ∷ []) + 0 = ends-both (line_text l ++ 10 ∷ []) [] in
    let one : ends (line_text l ++ 10 ∷ []) ≡ ends (line_text l) + 1 = ends-both (line_text l) (10 ∷ []) in
    omega (arith, two, more, one)

-- Lines that end are found in only one way.

fewer : (b : Bool) (n : ℕ) → counted b n ≡ 0 → n ≡ 0
fewer true n h = absurd (omega (arith, h))
fewer false n h = h

same-line : (xs ys us vs : List ℕ) → ends xs ≡ 0 → ends ys ≡ 0 → xs ++ 10 ∷ us ≡ ys ++ 10 ∷ vs → (xs ≡ ys) × (us ≡ vs)
same-line [] [] us vs h k e = (refl, cc)
same-line [] (y ∷ ys) us vs h k e =
    let ten : 10 ≡ y = cc in
    let no : suc (ends ys) ≡ 0 = ap (λ z. ends (z ∷ ys)) ten ∙ k in
    absurd (omega (arith, no))
same-line (x ∷ xs) [] us vs h k e =
    let ten : x ≡ 10 = cc in
    let no : suc (ends xs) ≡ 0 = ap (λ z. ends (z ∷ xs)) (sym ten) ∙ h in
    absurd (omega (arith, no))
same-line (x ∷ xs) (y ∷ ys) us vs h k e =
    let one : x ≡ y = cc in
    let rest : xs ++ 10 ∷ us ≡ ys ++ 10 ∷ vs = cc in
    let q = same-line xs ys us vs (fewer (nat_eq x 10) (ends xs) h) (fewer (nat_eq y 10) (ends ys) k) rest in
    (ap (λ z. z ∷ xs) one ∙ ap (λ zs. y ∷ zs) q.0, q.1)

-- a line with its end, and the bytes after it
front : (text rest more : List ℕ) → ((text ++ 10 ∷ []) ++ rest) ++ more ≡ text ++ 10 ∷ (rest ++ more)
front text rest more = append_assoc (text ++ 10 ∷ []) rest more ∙ append_assoc text (10 ∷ []) (rest ++ more)

one-line : (l m : Line) → is_readable l ≡ true → is_readable m ≡ true → line_text l ≡ line_text m → l ≡ m
one-line l m h k e = let both : Some l ≡ Some m = sym (line_guess-line_text l h) ∙ ap line_guess e ∙ line_guess-line_text m k in cc

abbrev lines-text : List Line → List ℕ
lines-text ls = flat_map (λ l. ended (line_text l)) ls

abbrev logs-text : List Refuted → List ℕ
logs-text rs = flat_map refuted_text rs

-- the first byte, if there is one
abbrev first-of : List ℕ → ℕ
first-of [] = 0
first-of (b ∷ _) = b

-- logs don't begin as a line of a refutation does
no-line-first : (m : Line) (rs : List Refuted) (rest : List ℕ) → logs-text rs ≡ line_text m ++ rest → ⊥
no-line-first (Add c ns) [] rest e = let no : 0 ≡ 97 = ap first-of e in omega (arith, no)
no-line-first (Add c ns) (r ∷ rs) rest e = let no : 108 ≡ 97 = ap first-of e in omega (arith, no)
no-line-first (Delete ns) [] rest e = let no : 0 ≡ 100 = ap first-of e in omega (arith, no)
no-line-first (Delete ns) (r ∷ rs) rest e = let no : 108 ≡ 100 = ap first-of e in omega (arith, no)

one-refutation : (ls ms : List Line) (rs qs : List Refuted) → list_all is_readable ls ≡ true → list_all is_readable ms ≡ true
    → lines-text ls ++ logs-text rs ≡ lines-text ms ++ logs-text qs → (ls ≡ ms) × (logs-text rs ≡ logs-text qs)
one-refutation [] [] rs qs h k e = (refl, e)
one-refutation [] (m ∷ ms) rs qs h k e = absurd (no-line-first m rs _ (e ∙ front (line_text m) (lines-text ms) (logs-text qs)))
one-refutation (l ∷ ls) [] rs qs h k e = absurd (no-line-first l qs _ (sym e ∙ front (line_text l) (lines-text ls) (logs-text rs)))
one-refutation (l ∷ ls) (m ∷ ms) rs qs h k e =
    let p = and_parts (is_readable l) _ h in
    let q = and_parts (is_readable m) _ k in
    let s = same-line (line_text l) (line_text m) (lines-text ls ++ logs-text rs) (lines-text ms ++ logs-text qs) (none-in-line l p.0) (none-in-line m q.0)
    (sym (front (line_text l) (lines-text ls) (logs-text rs)) ∙ e ∙ front (line_text m) (lines-text ms) (logs-text qs)) in
    let rest = one-refutation ls ms rs qs p.1 q.1 s.1 in
    (ap (λ z. z ∷ ls) (one-line l m p.0 q.0 s.0) ∙ ap (λ zs. m ∷ zs) rest.0, rest.1)

one-log : (l m : LogLine) → is_log_line l ≡ true → is_log_line m ≡ true → log_text l ≡ log_text m → l ≡ m
one-log l m h k e = sym (log_guess-log_text l h) ∙ ap log_guess e ∙ log_guess-log_text m k

abbrev refuted-of : LogLine → List Line → Refuted
refuted-of l ls = record { log = l; lines = ls }

one-each : (rs qs : List Refuted) → list_all is_refuted rs ≡ true → list_all is_refuted qs ≡ true → logs-text rs ≡ logs-text qs → rs ≡ qs
one-each [] [] h k e = refl
one-each [] (q ∷ qs) h k e = let no : 0 ≡ 108 = ap first-of e in absurd (omega (arith, no))
one-each (r ∷ rs) [] h k e = let no : 108 ≡ 0 = ap first-of e in absurd (omega (arith, no))
one-each (r ∷ rs) (q ∷ qs) h k e =
    let a = and_parts (is_refuted r) _ h in
    let b = and_parts (is_refuted q) _ k in
    let c = and_parts (is_log_line r.log) _ a.0 in
    let d = and_parts (is_log_line q.log) _ b.0 in
    let s = same-line (log_text r.log) (log_text q.log) (lines-text r.lines ++ logs-text rs) (lines-text q.lines ++ logs-text qs) (none-in-log r.log c.0)
    (none-in-log q.log d.0) (sym (front (log_text r.log) (lines-text r.lines) (logs-text rs)) ∙ e
    ∙ front (log_text q.log) (lines-text q.lines) (logs-text qs)) in
    let t = one-refutation r.lines q.lines rs qs c.1 d.1 s.1 in
    let rest = one-each rs qs a.1 b.1 t.1 in
    let log : r.log ≡ q.log = one-log r.log q.log c.0 d.0 s.0 in
    let first : r ≡ q = ap (λ (l : LogLine). refuted-of l r.lines) log ∙ ap (refuted-of q.log) t.0 in
    ap (λ z. z ∷ rs) first ∙ ap (λ zs. q ∷ zs) rest

abbrev certificate-of : Header → List Refuted → Certificate
certificate-of h rs = record { header = h; logs = rs }

-- a text is that of at most one certificate
pub one-certificate : (c d : Certificate) → is_certificate c ≡ true → is_certificate d ≡ true → certificate_text c ≡ certificate_text d → c ≡ d
one-certificate c d h k e =
    let p = and_parts (is_header c.header) _ h in
    let q = and_parts (is_header d.header) _ k in
    let s = same-line (header_text c.header) (header_text d.header) (logs-text c.logs) (logs-text d.logs) (none-in-header c.header p.0)
    (none-in-header d.header q.0) (sym (append_assoc (header_text c.header) (10 ∷ []) (logs-text c.logs)) ∙ e
    ∙ append_assoc (header_text d.header) (10 ∷ []) (logs-text d.logs)) in
    let both : Some c.header ≡ Some d.header = sym (header_guess-header_text c.header p.0) ∙ ap header_guess s.0 ∙ header_guess-header_text d.header q.0 in
    let header : c.header ≡ d.header = cc in
    ap (λ (x : Header). certificate-of x c.logs) header ∙ ap (certificate-of d.header) (one-each c.logs d.logs p.1 q.1 s.1)
