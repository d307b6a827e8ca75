-- Instructions of a function from a place on.
use Rattle.std.proofs.Common.{
  ◌≡◌,
  ℕ,
  ◌+◌,
  ◌<◌,
  ◌≤◌,
  Bool,
  true,
  false,
  ◌&&◌,
  IsTrue,
  inl,
  inr,
  List,
  [],
  ◌∷◌,
  ◌++◌,
  length,
  Some,
  refl,
  ap,
  sym,
  subst,
  ◌∙◌,
  append_assoc,
  arith,
  length-append,
  slice_get,
}
use Rattle.std.specs.List.{list_all}
use Rattle.std.proofs.lemmas.Bool.{cases_lt, false≢true}
use Rattle.std.proofs.lemmas.Option.{same_Some}
use Rattle.tc_code.specs.declared.instr.Instr.{Instr}

pub record IsAt (all : List Instr) (s : ℕ) (is : List Instr) : Type 0 where
  pub before : List Instr
  pub after : List Instr
  pub whole : all ≡ before ++ (is ++ after)
  pub place : length before ≡ s

seam : (xs : List Instr) (y : Instr) (ys : List Instr) → slice_get (xs ++ y ∷ ys) (length xs) ≡ Some y
seam [] y ys = refl
seam (x ∷ xs) y ys = seam xs y ys

pub at_left : (all : List Instr) (s : ℕ) (a b : List Instr) → IsAt all s (a ++ b) → IsAt all s a
at_left all s a b h = record {
  before = h.before;
  after = b ++ h.after;
  whole = h.whole ∙ ap (λ is. h.before ++ is) (append_assoc a b h.after);
  place = h.place;
}

pub at_right : (all : List Instr) (s : ℕ) (a b : List Instr) → IsAt all s (a ++ b) → IsAt all (s + length a) b
at_right all s a b h = record {
  before = h.before ++ a;
  after = h.after;
  whole = h.whole ∙ ap (λ is. h.before ++ is) (append_assoc a b h.after) ∙ sym (append_assoc h.before a (b ++ h.after));
  place = length-append h.before a ∙ ap (λ n. n + length a) h.place;
}

-- the first instruction is at this place
pub at_first : (all : List Instr) (s : ℕ) (i : Instr) (is : List Instr) → IsAt all s (i ∷ is) → slice_get all s ≡ Some i
at_first all s i is h =
    ap (slice_get all) (sym h.place) ∙ ap (λ js. slice_get js (length h.before)) h.whole ∙ seam h.before i (is ++ h.after)

pub at_next : (all : List Instr) (s : ℕ) (i : Instr) (is : List Instr) → IsAt all s (i ∷ is) → IsAt all (s + 1) is
at_next all s i is h = at_right all s (i ∷ []) is h

pub first_true : (a b : Bool) → IsTrue (a && b) → IsTrue a
first_true true b h = refl
first_true false b h = absurd (false≢true h)

pub second_true : (a b : Bool) → IsTrue (a && b) → IsTrue b
second_true true b h = h
second_true false b h = absurd (false≢true h)

pub both_true : (a b : Bool) → IsTrue a → IsTrue b → IsTrue (a && b)
both_true true b h g = g
both_true false b h g = absurd (false≢true h)

-- if all of them pass a test, each passes it at its place
pub all_pass : (p : Instr → Bool) (all : List Instr) (s : ℕ) (is : List Instr) → IsAt all s is → IsTrue (list_all p is)
    → (k : ℕ) (i : Instr) → s ≤ k → k < s + length is → slice_get all k ≡ Some i → IsTrue (p i)
all_pass p all s [] h passes k i low high there = absurd (omega (arith, low, high))
all_pass p all s (j ∷ js) h passes k i low high there =
    elim (cases_lt s k) [
      | inr here ↦
          let same : k ≡ s = omega (arith, here, low) in
          let is : j ≡ i = same_Some j i (sym (at_first all s j js h) ∙ ap (slice_get all) (sym same) ∙ there) in
          subst (λ x. IsTrue (p x)) is (first_true (p j) (list_all p js) passes)
      | inl later ↦ all_pass p all (s + 1) js (at_next all s j js h) (second_true (p j) (list_all p js) passes) k i (omega (arith, later)) (omega (
        arith,
        high,
      )) there
    ]

pub all_append : {A : Type 0} (p : A → Bool) (is js : List A) → IsTrue (list_all p is) → IsTrue (list_all p js) → IsTrue (list_all p (is ++ js))
all_append p [] js h g = g
all_append p (i ∷ is) js h g = both_true (p i) (list_all p (is ++ js)) (first_true (p i) (list_all p is) h)
    (all_append p is js (second_true (p i) (list_all p is) h) g)

-- a weaker test passes too
pub all_weaker : {A : Type 0} (p q : A → Bool) → ((i : A) → IsTrue (p i) → IsTrue (q i)) → (is : List A) → IsTrue (list_all p is) → IsTrue (list_all q is)
all_weaker p q f [] h = refl
all_weaker p q f (i ∷ is) h =
    both_true (q i) (list_all q is) (f i (first_true (p i) (list_all p is) h)) (all_weaker p q f is (second_true (p i) (list_all p is) h))
