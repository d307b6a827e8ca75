-- A text is an answer, or has one first line that breaks the form.
use Rattle.std.proofs.Common.{◌≡◌, ◌∙◌, ◌<◌, ◌≤◌, ◌+◌, ◌-◌, ◌⊎◌, inl, inr, ℕ, suc, Bool, true, false, ltb, List, [], ◌∷◌, ◌++◌, length, take, drop, ℤ, Option, Some, None, Result, Ok, Err, refl, sym, ap, subst, arith}
use Rattle.std.specs.Prelude.{codes}
use Rattle.std.specs.Option.{option_and_then, option_map_or}
use Rattle.std.proofs.lemmas.Bool.{ltb-true, ltb-false}
use Rattle.std.proofs.lemmas.List.{take-append-drop, take-take}
use Rattle.dimacs_text.specs.Answers.{BeginAnswer, IsAnswerWith, lines_of, trimmed}
use Rattle.dimacs_text.specs.Faults.{BreaksAt}
use Rattle.dimacs_text.specs.declared.said.Said.{Said}
use Rattle.dimacs_text.specs.declared.said.Said.TheVariants.{Nothing, Begun, Whole}
use Rattle.dimacs_text.specs.helpers.Reading.{after_any, answer, at_end, reading}
use Rattle.dimacs_text.proofs.Forms.{after_lines, answer_again, are_answer, is_first}

-- ---- lines, and some more

module _ {S T U : Type 0} (f : S → Option U) (g : T → Option U) (h : S → Option T) (same : (s : S) → f s ≡ option_and_then g (h s)) where
  then_both : (o : Option S) → option_and_then f o ≡ option_and_then g (option_and_then h o)
  then_both None = refl
  then_both (Some s) = same s

parts : (s : Said) (xs ys : List (List ℕ)) → after_lines s (xs ++ ys) ≡ option_and_then (λ next. after_lines next ys) (after_lines s xs)
parts s [] ys = refl
parts s (x ∷ xs) ys =
    then_both (λ next. after_lines next (xs ++ ys)) (λ next. after_lines next ys) (λ next. after_lines next xs) (λ next. parts next xs ys)
    (after_any s (trimmed x))

-- some more lines complete what was read to an answer
goes_on : (s : Said) → (more : List ℕ) × (ls : List ℤ) × (after_lines s (lines_of more) ≡ Some (Whole ls))
goes_on Nothing = (codes "s SATISFIABLE\nv 0\n", [], refl)
goes_on (Begun kept) = (codes "v 0\n", kept, refl)
goes_on (Whole kept) = ([], kept, refl)

begins : (lines : List (List ℕ)) (s : Said) → after_lines Nothing lines ≡ Some s → BeginAnswer lines
begins lines s is =
    let on = goes_on s in (
      on.0,
      on.1,
      are_answer (lines ++ lines_of on.0) on.1
          (parts Nothing lines (lines_of on.0) ∙ ap (option_and_then (λ next. after_lines next (lines_of on.0))) is ∙ on.2),
    )

are_read : (lines : List (List ℕ)) → BeginAnswer lines → (s : Said) × (after_lines Nothing lines ≡ Some s)
are_read lines b =
    let first = is_first (λ next. after_lines next (lines_of b.0)) (after_lines Nothing lines) (Whole b.1)
    (sym (parts Nothing lines (lines_of b.0)) ∙ answer_again (lines ++ lines_of b.0) b.1 b.2) in
    (first.0, first.1)

fewer_begin : (xs ys : List (List ℕ)) → BeginAnswer (xs ++ ys) → BeginAnswer xs
fewer_begin xs ys b =
    let all = are_read (xs ++ ys) b in
    let first = is_first (λ next. after_lines next ys) (after_lines Nothing xs) all.0 (sym (parts Nothing xs ys) ∙ all.1) in
    begins xs first.0 first.1

-- ---- one break

-- one break isn't before another
not_before : (text : List ℕ) (m n : ℕ) → BreaksAt text m → BreaksAt text n → m < n → ⊥
not_before text m n b c less =
    let lines = lines_of text in
    let shown : take m lines ++ drop m (take (n - 1) lines) ≡ take (n - 1) lines =
    ap (λ ls. ls ++ drop m (take (n - 1) lines)) (sym (take-take m (n - 1) lines (omega arith))) ∙ take-append-drop m (take (n - 1) lines) in
    b.after (omega (arith, c.within, less)) (fewer_begin (take m lines) (drop m (take (n - 1) lines)) (subst BeginAnswer (sym shown) c.before))

by_order : (text : List ℕ) (m n : ℕ) → BreaksAt text m → BreaksAt text n → (d e : Bool) → ltb m n ≡ d → ltb n m ≡ e → m ≡ n
by_order text m n b c true e less more = absurd (not_before text m n b c (ltb-true m n less))
by_order text m n b c false true less more = absurd (not_before text n m c b (ltb-true n m more))
by_order text m n b c false false less more = omega (arith, ltb-false m n less, ltb-false n m more)

pub one_break : (text : List ℕ) (m n : ℕ) → BreaksAt text m → BreaksAt text n → m ≡ n
one_break text m n b c = by_order text m n b c (ltb m n) (ltb n m) refl refl

pub one_answer : (text : List ℕ) (ls ms : List ℤ) → IsAnswerWith text ls → IsAnswerWith text ms → ls ≡ ms
one_answer text ls ms a b =
    let e : Some (Whole ls) ≡ Some (Whole ms) = sym (answer_again (lines_of text) ls a) ∙ answer_again (lines_of text) ms b in
    cc

pub answer_or_break : (text : List ℕ) (ls : List ℤ) (n : ℕ) → IsAnswerWith text ls → BreaksAt text n → ⊥
answer_or_break text ls n a b = b.none ls a

-- ---- the reader's answer

module _ (number : ℕ) (lines : List (List ℕ)) where
  abbrev from : Option Said → Result (List ℤ) ℕ
  from o = option_map_or (λ next. reading (number + 1) next lines) o (Err number)

  ok_on : (ls : List ℤ) → ((next : Said) → reading (number + 1) next lines ≡ Ok ls → after_lines next lines ≡ Some (Whole ls)) → (o : Option Said)
      → from o ≡ Ok ls → option_and_then (λ next. after_lines next lines) o ≡ Some (Whole ls)
  ok_on ls same None is = let e : Err number ≡ Ok ls = is in absurd cc
  ok_on ls same (Some next) is = same next is

ok_end : (number : ℕ) (s : Said) (ls : List ℤ) → at_end number s ≡ Ok ls → s ≡ Whole ls
ok_end number Nothing ls is = let e : Err number ≡ Ok ls = is in absurd cc
ok_end number (Begun kept) ls is = let e : Err number ≡ Ok ls = is in absurd cc
ok_end number (Whole kept) ls is = let e : Ok kept ≡ Ok ls = is in cc

ok_read : (number : ℕ) (s : Said) (lines : List (List ℕ)) (ls : List ℤ) → reading number s lines ≡ Ok ls → after_lines s lines ≡ Some (Whole ls)
ok_read number s [] ls is = ap (λ t. Some t) (ok_end number s ls is)
ok_read number s (line ∷ lines) ls is =
    ok_on number lines ls (λ next. ok_read (number + 1) next lines ls) (after_any s (trimmed line)) is

-- reading stops at the line that breaks the form: `k` lines after the first, which has this number
record Stops (number : ℕ) (s : Said) (lines : List (List ℕ)) (n : ℕ) : Type 0 where
  k : ℕ
  number_is : n ≡ number + k
  within : k ≤ length lines
  before : (t : Said) × (after_lines s (take k lines) ≡ Some t)
  after : k < length lines → after_lines s (take (suc k) lines) ≡ None
  none : (ls : List ℤ) → after_lines s lines ≡ Some (Whole ls) → ⊥

stops_end : (number : ℕ) (s : Said) (n : ℕ) → number ≡ n → ((ls : List ℤ) → s ≡ Whole ls → ⊥) → Stops number s [] n
stops_end number s n is not_whole = record {
  k = 0;
  number_is = omega (arith, is);
  within = omega arith;
  before = (s, refl);
  after = λ less. absurd (omega (arith, less));
  none = λ ls whole. let e : Some s ≡ Some (Whole ls) = whole in not_whole ls cc;
}

stops_at_end : (number : ℕ) (s : Said) (n : ℕ) → at_end number s ≡ Err n → Stops number s [] n
stops_at_end number Nothing n is = let e : Err number ≡ Err n = is in stops_end number Nothing n (cc) (λ ls same. cc)
stops_at_end number (Begun kept) n is = let e : Err number ≡ Err n = is in stops_end number (Begun kept) n (cc) (λ ls same. cc)
stops_at_end number (Whole kept) n is = let e : Ok kept ≡ Err n = is in absurd cc

module _ (number : ℕ) (s : Said) (line : List ℕ) (lines : List (List ℕ)) (n : ℕ) where
  stops_here : after_any s (trimmed line) ≡ None → number ≡ n → Stops number s (line ∷ lines) n
  stops_here is same = record {
    k = 0;
    number_is = omega (arith, same);
    within = omega arith;
    before = (s, refl);
    after = λ less. ap (option_and_then (λ next. after_lines next [])) is;
    none = λ ls whole.
        let e : None ≡ Some (Whole ls) = ap (option_and_then (λ next. after_lines next lines)) (sym is) ∙ whole in cc;
  }

  stops_later : (next : Said) → after_any s (trimmed line) ≡ Some next → Stops (number + 1) next lines n → Stops number s (line ∷ lines) n
  stops_later next is r = record {
    k = suc r.k;
    number_is = omega (arith, r.number_is);
    within = omega (arith, r.within);
    before = (r.before.0, ap (option_and_then (λ t. after_lines t (take r.k lines))) is ∙ r.before.1);
    after = λ less. ap (option_and_then (λ t. after_lines t (take (suc r.k) lines))) is ∙ r.after (omega (arith, less));
    none = λ ls whole. r.none ls (sym (ap (option_and_then (λ t. after_lines t lines)) is) ∙ whole);
  }

  stops_by : (o : Option Said) → after_any s (trimmed line) ≡ o → from number lines o ≡ Err n
      → ((next : Said) → reading (number + 1) next lines ≡ Err n → Stops (number + 1) next lines n) → Stops number s (line ∷ lines) n
  stops_by None at is more = let e : Err number ≡ Err n = is in stops_here at cc
  stops_by (Some next) at is more = stops_later next at (more next is)

stops : (number : ℕ) (s : Said) (lines : List (List ℕ)) (n : ℕ) → reading number s lines ≡ Err n → Stops number s lines n
stops number s [] n is = stops_at_end number s n is
stops number s (line ∷ lines) n is =
    stops_by number s line lines n (after_any s (trimmed line)) refl is (λ next. stops (number + 1) next lines n)

-- the literals of the reader's answer are those of the text
pub answer_is : (text : List ℕ) (ls : List ℤ) → answer text ≡ Ok ls → IsAnswerWith text ls
answer_is text ls is = are_answer (lines_of text) ls (ok_read 1 Nothing (lines_of text) ls is)

-- the line that the reader refuses is the first that breaks the form
pub break_is : (text : List ℕ) (n : ℕ) → answer text ≡ Err n → BreaksAt text n
break_is text n is =
    let lines = lines_of text in
    let r = stops 1 Nothing lines n is in
    let at : n - 1 ≡ r.k = omega (arith, r.number_is) in
    let with_it : n ≡ suc r.k = omega (arith, r.number_is) in
    record {
      within = omega (arith, r.within, r.number_is);
      before = subst (λ (k : ℕ). BeginAnswer (take k lines)) (sym at) (begins (take r.k lines) r.before.0 r.before.1);
      after = λ there begin.
          let read = are_read (take n lines) begin in
          let none : after_lines Nothing (take n lines) ≡ None =
          subst (λ (k : ℕ). after_lines Nothing (take k lines) ≡ None) (sym with_it) (r.after (omega (arith, there, with_it))) in
          let e : None ≡ Some read.0 = sym none ∙ read.1 in cc;
      none = λ ls whole. r.none ls (answer_again lines ls whole);
    }

either : (text : List ℕ) (r : Result (List ℤ) ℕ) → answer text ≡ r → ((ls : List ℤ) × IsAnswerWith text ls) ⊎ ((n : ℕ) × BreaksAt text n)
either text (Ok ls) is = inl (ls, answer_is text ls is)
either text (Err n) is = inr (n, break_is text n is)

pub answer_or_breaks : (text : List ℕ) → ((ls : List ℤ) × IsAnswerWith text ls) ⊎ ((n : ℕ) × BreaksAt text n)
answer_or_breaks text = either text (answer text) refl
