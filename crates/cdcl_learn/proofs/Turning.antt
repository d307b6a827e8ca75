-- The highest of the other literals, and the level to go back to.
use Rattle.std.proofs.Common.{
  ◌≡◌,
  ℕ,
  ◌+◌,
  ◌-◌,
  ◌*◌,
  ◌/◌,
  ◌<◌,
  ◌≤◌,
  Option,
  Some,
  None,
  List,
  [],
  ◌∷◌,
  length,
  take,
  get_or,
  refl,
  sym,
  ◌∙◌,
  ap,
  subst,
  inl,
  inr,
  arith,
  get_or-take,
}
use Rattle.std.specs.Prelude.{Contains, MatchOption}
use Rattle.std.proofs.lemmas.List.{take_more, take_all, nil_from_length, get_or_default, length-take, length-take-le}
use Rattle.std.proofs.lemmas.List.Elements.{Contains-push, Contains-push_cases, Contains-append_left}
use Rattle.cdcl_literals.specs.Literals.{opposite_of}
use Rattle.cdcl_trail.specs.Trail.{Trail, IsTrail}
use Rattle.cdcl_learn.specs.helpers.Starts.{AreLower, IsHighest, IsLevelAfter, IsTurn}
use Rattle.cdcl_literals.proofs.Opposites.{opposite_of-half, opposite_of-opposite_of, opposite_of-within}

-- the opposite of a literal is on the trail, below the last level
pub record StandsLow (t : Trail) (x : ℕ) : Type 0 where
  pub place : ℕ
  pub low : place < get_or t.starts (length t.starts - 1) 0
  pub high : place < length t.literals
  pub there : get_or t.literals place 0 ≡ opposite_of x
  pub in_range : x < 2 * t.variables

pub stands_low : (t : Trail) → IsTrail t → 0 < length t.starts → (ls : List ℕ) → AreLower t ls → (x : ℕ) → Contains ls x → StandsLow t x
stands_low t u h ls s x c =
    let (p, pl, e) = s x c in
    let pn : p < length t.literals = omega (arith, pl, u.starts_proper (length t.starts - 1) (omega arith)) in
    record {
      place = p;
      low = pl;
      high = pn;
      there = sym (opposite_of-opposite_of (get_or t.literals p 0))
          ∙ ap opposite_of (sym e);
      in_range = omega (arith, e, opposite_of-within (get_or t.literals p 0) t.variables (u.within p pn));
    }

pub false_there : (t : Trail) (x : ℕ) → StandsLow t x → Contains t.literals (opposite_of x)
false_there t x s = (s.place, s.high, get_or_default t.literals s.place (opposite_of x) 0 s.high ∙ s.there)

abbrev pub BestSoFar : Trail → List ℕ → ℕ → ℕ → Option ℕ → Type 0
BestSoFar t ls i top best = MatchOption best ((i ≡ 0) × (top ≡ 0))
    (λ b. Contains (take i ls) b × (top < length t.literals) × (get_or t.literals top 0 / 2 ≡ b / 2))

abbrev pub TopSoFar : Trail → List ℕ → ℕ → ℕ → Type 0
TopSoFar t ls i top = (x p : ℕ) → Contains (take i ls) x → p < length t.literals → get_or t.literals p 0 / 2 ≡ x / 2 → p ≤ top

pub top_more : (t : Trail) → IsTrail t → (ls : List ℕ) (i top place new : ℕ) → i < length ls → place < length t.literals
    → get_or t.literals place 0 / 2 ≡ get_or ls i 0 / 2 → top ≤ new → place ≤ new → TopSoFar t ls i top → TopSoFar t ls (i + 1) new
top_more t u ls i top place new il pl e h g s x p c pn f =
    elim (Contains-push_cases (take i ls) (get_or ls i 0) x (subst (λ (xs : List ℕ). Contains xs x) (take_more ls i 0 il) c)) [
      | inl d ↦ omega (arith, s x p d pn f, h)
      | inr d ↦ let z : p ≡ place = u.apart p place pn pl (f ∙ ap (λ (y : ℕ). y / 2) (sym d) ∙ sym e) in omega arith
    ]

pub best_new : (t : Trail) (ls : List ℕ) (i place : ℕ) → i < length ls → place < length t.literals → get_or t.literals place 0 / 2 ≡ get_or ls i 0 / 2
    → BestSoFar t ls (i + 1) place (Some (get_or ls i 0))
best_new t ls i place il pl e = (
  subst (λ (xs : List ℕ). Contains xs (get_or ls i 0)) (sym (take_more ls i 0 il))
      (Contains-push (take i ls) (get_or ls i 0)),
  pl,
  e,
)

pub best_kept : (t : Trail) (ls : List ℕ) (i top place : ℕ) (best : Option ℕ) → i < length ls → place < top → BestSoFar t ls i top best
    → BestSoFar t ls (i + 1) top best
best_kept t ls i top place None il h s = absurd (omega (arith, s.1, h))
best_kept t ls i top place (Some b) il h s = (
  subst (λ (xs : List ℕ). Contains xs b) (sym (take_more ls i 0 il))
      (Contains-append_left (take i ls) (get_or ls i 0 ∷ []) b s.0),
  s.1,
  s.2,
)

pub highest_found : (t : Trail) → IsTrail t → (ls : List ℕ) (i top : ℕ) (best : Option ℕ) → length ls ≤ i → BestSoFar t ls i top best
    → TopSoFar t ls i top → MatchOption best (ls ≡ []) (IsHighest t ls)
highest_found t u ls i top None h s g = nil_from_length ls (omega (arith, s.0))
highest_found t u ls i top (Some b) h s g =
    let all : take i ls ≡ ls = take_all i ls h in
    record {
      has = subst (λ (xs : List ℕ). Contains xs b) all s.0;
      highest = λ x p q c pl ql e f.
          let z : q ≡ top = u.apart q top ql s.1 (f ∙ sym s.2) in
          omega (arith, g x p (subst (λ (xs : List ℕ). Contains xs x) (sym all) c) pl e, z);
    }

pub place_low : (t : Trail) → IsTrail t → (x place : ℕ) → StandsLow t x → place < length t.literals → get_or t.literals place 0 / 2 ≡ x / 2
    → place < get_or t.starts (length t.starts - 1) 0
place_low t u x place s pl e =
    let z : place ≡ s.place = u.apart place s.place pl s.high (e ∙ sym (ap (λ (y : ℕ). y / 2) s.there ∙ opposite_of-half x)) in
    omega (arith, z, s.low)

pub turn_back : (t : Trail) → IsTrail t → 0 < length t.starts → (ls : List ℕ) → AreLower t ls → (a b place level : ℕ) → IsHighest t ls b
    → place < length t.literals → get_or t.literals place 0 / 2 ≡ b / 2 → IsLevelAfter t place level → IsTurn t ls a level a b
turn_back t u h ls s a b place level best pl e l =
    let n : ℕ = get_or t.starts level 0 in
    record {
      same = refl;
      within = l.within;
      lower = λ x c. (
          let f = stands_low t u h ls s x c in
          let le : f.place ≤ place = best.highest x f.place place c f.high pl (ap (λ (y : ℕ). y / 2) f.there ∙ opposite_of-half x) e in
          let lt : f.place < n = omega (arith, le, l.after) in
          let size : length (take n t.literals) ≡ n = length-take-le n t.literals (omega (arith, u.starts_proper level l.within)) in (
            f.place,
            omega (arith, lt, size),
            get_or-take n t.literals f.place (opposite_of x) lt
                ∙ get_or_default t.literals f.place (opposite_of x) 0 f.high ∙ f.there,
          ));
      alone = inr best.has;
      single = λ g. absurd (let d : Contains [] b = subst (λ (xs : List ℕ). Contains xs b) g best.has in omega (arith, d.1));
      root = λ g. absurd (let d : Contains [] b = subst (λ (xs : List ℕ). Contains xs b) g best.has in omega (arith, d.1));
      high = λ i il c (k, kl, f).
          let m : ℕ = get_or t.starts i 0 in
          let km : k < m = omega (arith, kl, length-take m t.literals) in
          let first : m ≤ place = l.first i il in
          let kn : k < length t.literals = omega (arith, km, first, pl) in
          let g : get_or t.literals k 0 ≡ opposite_of b = get_or_default t.literals k 0 (opposite_of b) kn
          ∙ sym (get_or-take m t.literals k (opposite_of b) km) ∙ f in
          let z : k ≡ place = u.apart k place kn pl (ap (λ (y : ℕ). y / 2) g ∙ opposite_of-half b ∙ sym e) in
          omega arith;
    }
