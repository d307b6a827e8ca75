-- The clause learnt on a level.
use Rattle.std.proofs.Common.{
  ◌≡◌,
  ℕ,
  ◌-◌,
  ◌/◌,
  ◌<◌,
  ◌≤◌,
  Bool,
  List,
  [],
  ◌∷◌,
  ◌++◌,
  length,
  map,
  take,
  get_or,
  reverse,
  sym,
  ◌∙◌,
  ap,
  subst,
  inl,
  inr,
  arith,
  get_or-take,
}
use Rattle.std.specs.Prelude.{Contains}
use Rattle.std.proofs.lemmas.Bool.{cases_lt}
use Rattle.std.proofs.lemmas.List.{get_or-map, length-map, get_or_default, length-take}
use Rattle.std.proofs.lemmas.List.Elements.{Contains-push, Contains-push_cases, Contains-append_left, Contains-get_or}
use Rattle.cdcl_literals.specs.Literals.{opposite_of}
use Rattle.cdcl_trail.specs.Trail.{Trail, IsTrail}
use Rattle.cdcl_clauses.specs.Clauses.{Clause}
use Rattle.cdcl_learn.specs.Shown.{Shows}
use Rattle.cdcl_learn.specs.Lessons.{TurnsBack, TurnFits}
use Rattle.cdcl_learn.specs.helpers.Analyses.{Suffices, Tallies, IsCleared, IsLast}
use Rattle.cdcl_learn.specs.helpers.Starts.{AreLower, IsTurn, Turns}
use Rattle.cdcl_learn.specs.declared.lesson.Turn.{Turn}
use Rattle.cdcl_learn.specs.declared.lesson.Turn.TheVariants.{Closed, Back}
use Rattle.cdcl_literals.proofs.Opposites.{opposite_of-opposite_of}

contains_map : (f : ℕ → ℕ) (xs : List ℕ) (y : ℕ) → Contains (map f xs) y → (x : ℕ) × Contains xs x × (f x ≡ y)
contains_map f xs y (k, kl, e) =
    let kn : k < length xs = omega (arith, kl, length-map xs f) in
    (get_or xs k 0, Contains-get_or xs k 0 kn, sym (get_or-map f xs k 0 y kn) ∙ e)

map_contains : (f : ℕ → ℕ) (xs : List ℕ) (x : ℕ) → Contains xs x → Contains (map f xs) (f x)
map_contains f xs x (k, kl, e) = (k, omega (arith, kl, length-map xs f), get_or-map f xs k x (f x) kl ∙ ap f e)

-- the places and literals of a finished analysis
pub record IsEnded (t : Trail) (met before : List Bool) (n root base place asserted : ℕ) (ls : List ℕ) : Type 0 where
  pub tallies : Tallies t met n root base ls
  pub cleared : IsCleared before met root
  pub last : IsLast t before base place
  pub asserted_is : asserted ≡ opposite_of (get_or t.literals place 0)
  pub base_is : base ≡ get_or t.starts (length t.starts - 1) 0

asserted_there : (t : Trail) (met before : List Bool) (n root base place a : ℕ) (ls : List ℕ) → IsEnded t met before n root base place a ls
    → Contains t.literals (opposite_of a)
asserted_there t met before n root base place a ls e =
    subst (λ (x : ℕ). Contains t.literals x) (sym (opposite_of-opposite_of (get_or t.literals place 0)) ∙ ap opposite_of (sym e.asserted_is))
    (Contains-get_or t.literals place 0 e.last.high)

pub learnt_false : (t : Trail) (met before : List Bool) (n root base place a : ℕ) (ls : List ℕ) → IsEnded t met before n root base place a ls
    → (x : ℕ) → Contains (ls ++ a ∷ []) x → Contains t.literals (opposite_of x)
learnt_false t met before n root base place a ls e x c =
    elim (Contains-push_cases ls a x c) [
      | inl d ↦
          let (p, rp, pb, f) = e.tallies.from_places x d in
          let pn : p < length t.literals = omega (arith, pb, e.last.low, e.last.high) in
          subst (λ (y : ℕ). Contains t.literals y) (sym (opposite_of-opposite_of (get_or t.literals p 0)) ∙ ap opposite_of (sym f))
          (Contains-get_or t.literals p 0 pn)
      | inr d ↦ subst (λ (y : ℕ). Contains t.literals (opposite_of y)) d (asserted_there t met before n root base place a ls e)
    ]

pub learnt_shown : (t : Trail) (cs : List Clause) (met before : List Bool) (n root base place a : ℕ) (ls hs : List ℕ)
    → IsEnded t met before n root base place a ls → Suffices t cs met hs → Shows cs (ls ++ a ∷ []) (reverse hs)
learnt_shown t cs met before n root base place a ls hs e s =
    s (map opposite_of (ls ++ a ∷ []))
    (λ y c. (let (x, cx, f) = contains_map opposite_of (ls ++ a ∷ []) y c
    in subst (λ (z : ℕ). Contains t.literals z) f (learnt_false t met before n root base place a ls e x cx)))
    (λ p m.
    let l : ℕ = get_or t.literals p 0 in
    let in_clause : Contains (ls ++ a ∷ []) (opposite_of l) =
    elim (cases_lt p root) [
      | inl d ↦ absurd (e.cleared.none p d m)
      | inr d ↦ elim (cases_lt p base) [
        | inl f ↦ Contains-append_left ls (a ∷ []) (opposite_of l) (e.tallies.taken p d f m)
        | inr f ↦
            let z : p ≡ place = e.last.only p f (e.cleared.only p d m) in
            subst (λ (y : ℕ). Contains (ls ++ a ∷ []) y) (e.asserted_is ∙ ap (λ (k : ℕ). opposite_of (get_or t.literals k 0)) (sym z)) (Contains-push ls a)
      ]
    ] in
    subst (λ (y : ℕ). Contains (map opposite_of (ls ++ a ∷ [])) y) (opposite_of-opposite_of l)
    (map_contains opposite_of (ls ++ a ∷ []) (opposite_of l) in_clause))

start_low : (t : Trail) → IsTrail t → (level base : ℕ) → level < length t.starts → base ≡ get_or t.starts (length t.starts - 1) 0
    → get_or t.starts level 0 ≤ base
start_low t u level base h e =
    elim (cases_lt level (length t.starts - 1)) [
      | inl d ↦ omega (arith, u.starts_rise level (length t.starts - 1) d (omega arith), e)
      | inr d ↦ (let z : level ≡ length t.starts - 1 = omega arith in omega (arith, ap (λ (k : ℕ). get_or t.starts k 0) z, e))
    ]

asserted_opens : (t : Trail) → IsTrail t → (met before : List Bool) (n root base place a : ℕ) (ls : List ℕ)
    → IsEnded t met before n root base place a ls → (level : ℕ) → level < length t.starts
    → Contains (take (get_or t.starts level 0) t.literals) (opposite_of a) → ⊥
asserted_opens t u met before n root base place a ls e level h (k, kl, f) =
    let m : ℕ = get_or t.starts level 0 in
    let mb : m ≤ base = start_low t u level base h e.base_is in
    let km : k < m = omega (arith, kl, length-take m t.literals) in
    let kn : k < length t.literals = omega (arith, km, mb, e.last.low, e.last.high) in
    let g : get_or t.literals k 0 ≡ opposite_of a = get_or_default t.literals k 0 (opposite_of a) kn
    ∙ sym (get_or-take m t.literals k (opposite_of a) km) ∙ f in
    let i : get_or t.literals k 0 ≡ get_or t.literals place 0 = g ∙ ap opposite_of e.asserted_is ∙ opposite_of-opposite_of (get_or t.literals place 0) in
    let z : k ≡ place = u.apart k place kn e.last.high (ap (λ (y : ℕ). y / 2) i) in
    omega (arith, z, km, mb, e.last.low)

turned : (t : Trail) → IsTrail t → (met before : List Bool) (n root base place a : ℕ) (ls : List ℕ) → IsEnded t met before n root base place a ls
    → (level b : ℕ) → IsTurn t ls a level a b → TurnsBack t (ls ++ a ∷ []) level a b
turned t u met before n root base place a ls e level b s =
    let closed = asserted_opens t u met before n root base place a ls e level s.within in
    record {
      level_within = s.within;
      has = Contains-push ls a;
      was_false = asserted_there t met before n root base place a ls e;
      opens = closed;
      others = λ x c ne. elim (Contains-push_cases ls a x c) [ inl d ↦ s.lower x d | inr d ↦ absurd (ne (sym d)) ];
      beside_in = elim s.alone [
        | inl d ↦ subst (λ (y : ℕ). Contains (ls ++ a ∷ []) y) (sym (s.single d)) (Contains-push ls a)
        | inr d ↦ Contains-append_left ls (a ∷ []) b d
      ];
      single = λ f. elim s.alone [
        | inl d ↦ ap (λ (xs : List ℕ). xs ++ a ∷ []) d
        | inr d ↦ absurd (closed (s.lower a (subst (λ (y : ℕ). Contains ls y) f d)))
      ];
      root = λ f. elim s.alone [
        | inl d ↦ s.root d
        | inr d ↦ absurd (closed (s.lower a (subst (λ (y : ℕ). Contains ls y) f d)))
      ];
      high = λ i il ne. elim s.alone [ inl d ↦ absurd (ne (s.single d)) | inr d ↦ s.high i il d ];
    }

pub fits : (t : Trail) → IsTrail t → (met before : List Bool) (n root base place a : ℕ) (ls : List ℕ) → IsEnded t met before n root base place a ls
    → (turn : Turn) → Turns t ls a turn → TurnFits t (ls ++ a ∷ []) turn
fits t u met before n root base place a ls e Closed s = absurd s
fits t u met before n root base place a ls e (Back level asserted b) s =
    let f : IsTurn t ls a level a b = subst (λ (x : ℕ). IsTurn t ls a level x b) s.same s in
    subst (λ (x : ℕ). TurnsBack t (ls ++ a ∷ []) level x b) (sym s.same) (turned t u met before n root base place a ls e level b f)

pub are_lower : (t : Trail) (met : List Bool) (n root base : ℕ) (ls : List ℕ) → Tallies t met n root base ls
    → base ≡ get_or t.starts (length t.starts - 1) 0 → AreLower t ls
are_lower t met n root base ls s e x c = let (p, rp, pb, f) = s.from_places x c in (p, omega (arith, pb, e), f)
