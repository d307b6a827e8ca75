-- The number of places met from a place on.
use Rattle.std.proofs.Common.{
  ◌≡◌,
  ◌≢◌,
  ℕ,
  ◌+◌,
  ◌-◌,
  ◌<◌,
  ◌≤◌,
  ◌⊎◌,
  Bool,
  true,
  false,
  cond,
  List,
  [],
  ◌∷◌,
  ◌++◌,
  length,
  drop,
  get_or,
  set,
  inl,
  inr,
  refl,
  sym,
  ◌∙◌,
  ap,
  subst,
  arith,
  length-set,
  length-drop,
  get_or-set_same,
  get_or-set_other,
  suc,
}
use Rattle.std.proofs.lemmas.Bool.{cases_eq, false_from_ne_true}
use Rattle.std.proofs.lemmas.List.{drop-set-lt, drop-set-add, get_or-drop}
use Rattle.std.proofs.lemmas.List.Sums.{sum_by-set}
use Rattle.std.specs.Prelude.{Contains, count_by}
use Rattle.std.proofs.lemmas.List.Elements.{Contains-push, Contains-append_left, Contains-push_cases}
use Rattle.cdcl_literals.specs.Literals.{opposite_of}
use Rattle.cdcl_trail.specs.Trail.{Trail}
use Rattle.cdcl_learn.specs.helpers.Analyses.{IsMet, open_from, Tallies}

pub open_from-set : (met : List Bool) (base p : ℕ) (b : Bool) → p < length met → base ≤ p
    → open_from (set met p b) base + cond (get_or met p false) 1 0 ≡ open_from met base + cond b 1 0
open_from-set met base p b h l =
    let i : ℕ = p - base in
    let e : base + i ≡ p = omega arith in
    let f : drop base (set met p b) ≡ set (drop base met) i b = ap (λ (n : ℕ). drop base (set met n b)) (sym e) ∙ drop-set-add base met i b in
    let g : get_or (drop base met) i false ≡ get_or met p false = get_or-drop base met i false ∙ ap (λ (n : ℕ). get_or met n false) e in
    let s = sum_by-set (λ (b : Bool). cond b 1 0) (drop base met) i b false (omega (arith, length-drop base met)) in
    rw (f, ← g) s

pub open_from-set_below : (met : List Bool) (base p : ℕ) (b : Bool) → p < base → open_from (set met p b) base ≡ open_from met base
open_from-set_below met base p b h = ap (λ (xs : List Bool). open_from xs 0) (drop-set-lt base met p b h)

-- what is met after meeting one place
pub met-set : (met : List Bool) (p q : ℕ) (b : Bool) → p < length met → ((q ≡ p) × (get_or (set met p b) q false ≡ b))
    ⊎ ((q ≢ p) × (get_or (set met p b) q false ≡ get_or met q false))
met-set met p q b h =
    elim (cases_eq q p) [
      | inl e ↦ inl (e, ap (λ (n : ℕ). get_or (set met p b) n false) e ∙ get_or-set_same met p b false h)
      | inr e ↦ inr (e, get_or-set_other met p q b false e)
    ]

pub tallies_last : (t : Trail) (met : List Bool) (n root base : ℕ) (ls : List ℕ) → Tallies t met n root base ls → (p : ℕ) → p < length met
    → get_or met p false ≡ false → base ≤ p → Tallies t (set met p true) (n + 1) root base ls
tallies_last t met n root base ls s p h f l =
    let e : open_from (set met p true) base + cond (get_or met p false) 1 0 ≡ open_from met base + 1 = open_from-set met base p true h l in
    let zero_more : ℕ = 0 in
    let g : cond (get_or met p false) 1 0 ≡ zero_more = ap (λ (b : Bool). let n : ℕ = cond b 1 0 in n) f in
    record {
      size = length-set met p true ∙ s.size;
      count = omega (arith, e, g, s.count);
      taken = λ q rq qb m. elim (met-set met p q true h) [ inl d ↦ absurd (omega (arith, d.0)) | inr d ↦ s.taken q rq qb (sym d.1 ∙ m) ];
      from_places = s.from_places;
    }

pub tallies_root : (t : Trail) (met : List Bool) (n root base : ℕ) (ls : List ℕ) → Tallies t met n root base ls → (p : ℕ) → p < length met → p < base
    → p < root → Tallies t (set met p true) n root base ls
tallies_root t met n root base ls s p h b r =
    record {
      size = length-set met p true ∙ s.size;
      count = s.count ∙ sym (open_from-set_below met base p true b);
      taken = λ q rq qb m. elim (met-set met p q true h) [ inl d ↦ absurd (omega (arith, d.0)) | inr d ↦ s.taken q rq qb (sym d.1 ∙ m) ];
      from_places = s.from_places;
    }

pub tallies_between : (t : Trail) (met : List Bool) (n root base : ℕ) (ls : List ℕ) → Tallies t met n root base ls → (p x : ℕ) → p < length met
    → p < base → root ≤ p → x ≡ opposite_of (get_or t.literals p 0) → Tallies t (set met p true) n root base (ls ++ x ∷ [])
tallies_between t met n root base ls s p x h b r e =
    record {
      size = length-set met p true ∙ s.size;
      count = s.count ∙ sym (open_from-set_below met base p true b);
      taken = λ q rq qb m. elim (met-set met p q true h) [
        | inl d ↦ subst (λ (y : ℕ). Contains (ls ++ x ∷ []) y) (e ∙ ap (λ (n : ℕ). opposite_of (get_or t.literals n 0)) (sym d.0)) (Contains-push ls x)
        | inr d ↦ Contains-append_left ls (x ∷ []) (opposite_of (get_or t.literals q 0)) (s.taken q rq qb (sym d.1 ∙ m))
      ];
      from_places = λ y c. elim (Contains-push_cases ls x y c) [ inl d ↦ s.from_places y d | inr d ↦ (p, r, b, sym d ∙ e) ];
    }

pub open_some : (met : List Bool) (base p : ℕ) → p < length met → base ≤ p → IsMet met p → 1 ≤ open_from met base
open_some met base p h l m =
    let g : open_from (set met p false) base + cond (get_or met p false) 1 0 ≡ open_from met base + cond false 1 0 = open_from-set met base p false h l in
    let one_more : ℕ = 1 in
    let i : cond (get_or met p false) 1 0 ≡ one_more = ap (λ (b : Bool). let n : ℕ = cond b 1 0 in n) m in
    omega (arith, g, i)

count_none : (xs : List Bool) → ((i : ℕ) → i < length xs → get_or xs i false ≡ false) → count_by (λ b. b) xs ≡ 0
count_none [] h = refl
count_none (true ∷ xs) h = absurd (let g : true ≡ false = h 0 (omega arith) in cc)
count_none (false ∷ xs) h = let e : count_by (λ b. b) xs ≡ 0 = count_none xs (λ i il. h (suc i) (omega arith)) in e

-- if some are counted, there is one
count_exists : (xs : List Bool) → 1 ≤ count_by (λ b. b) xs → (i : ℕ) × (i < length xs) × (get_or xs i false ≡ true)
count_exists [] h = absurd (omega (arith, h))
count_exists (true ∷ xs) h = (0, omega arith, refl)
count_exists (false ∷ xs) h =
    let u : 1 ≤ count_by (λ b. b) xs = h in
    let (i, l, e) = count_exists xs u in
    (suc i, omega arith, e)

pub open_exists : (met : List Bool) (base : ℕ) → 1 ≤ open_from met base → (q : ℕ) × (base ≤ q) × (q < length met) × IsMet met q
open_exists met base h =
    let (i, l, e) = count_exists (drop base met) h in
    (base + i, omega arith, omega (arith, length-drop base met), sym (get_or-drop base met i false) ∙ e)

-- if another place is counted beside one, there is another
pub open_other : (met : List Bool) (base p : ℕ) → p < length met → base ≤ p → IsMet met p → open_from met base ≢ 1
    → (q : ℕ) × (base ≤ q) × (q ≢ p) × IsMet met q
open_other met base p pl bp mp ne =
    let g : open_from (set met p false) base + cond (get_or met p false) 1 0 ≡ open_from met base + cond false 1 0 = open_from-set met base p false pl bp in
    let one_more : ℕ = 1 in
    let i : cond (get_or met p false) 1 0 ≡ one_more = ap (λ (b : Bool). let n : ℕ = cond b 1 0 in n) mp in
    let (q, bq, ql, m) = open_exists (set met p false) base (omega (arith, g, i, ne)) in
    elim (met-set met p q false pl) [
      | inl d ↦ absurd (let k : false ≡ true = sym d.1 ∙ m in cc)
      | inr d ↦ (q, bq, d.0, sym d.1 ∙ m)
    ]

pub open_none : (met : List Bool) (base : ℕ) → ((q : ℕ) → base ≤ q → IsMet met q → ⊥) → open_from met base ≡ 0
open_none met base h = count_none (drop base met) (λ i il. false_from_ne_true (get_or (drop base met) i false)
    (λ m. h (base + i) (omega arith) (sym (get_or-drop base met i false) ∙ m)))

pub open_one : (met : List Bool) (base p q : ℕ) → p < length met → q < length met → base ≤ p → base ≤ q → IsMet met p → IsMet met q
    → open_from met base ≡ 1 → q ≡ p
open_one met base p q pl ql bp bq mp mq e =
    elim (cases_eq q p) [
      | inl d ↦ d
      | inr d ↦
          let g : open_from (set met p false) base + cond (get_or met p false) 1 0 ≡ open_from met base + cond false 1 0 =
          open_from-set met base p false pl bp in
          let one_more : ℕ = 1 in
          let i : cond (get_or met p false) 1 0 ≡ one_more = ap (λ (b : Bool). let n : ℕ = cond b 1 0 in n) mp in
          let mq' : IsMet (set met p false) q = get_or-set_other met p q false false d ∙ mq in
          let j : 1 ≤ open_from (set met p false) base = open_some (set met p false) base q (omega (arith, length-set met p false)) bq mq' in
          absurd (omega (arith, g, i, j, e))
    ]

-- if no other place is met, at most one is
pub open_at_most : (met : List Bool) (base p : ℕ) → p < length met → base ≤ p → IsMet met p → ((q : ℕ) → base ≤ q → IsMet met q → q ≡ p)
    → open_from met base ≡ 1
open_at_most met base p pl bp mp h =
    let g : open_from (set met p false) base + cond (get_or met p false) 1 0 ≡ open_from met base + cond false 1 0 = open_from-set met base p false pl bp in
    let one_more : ℕ = 1 in
    let i : cond (get_or met p false) 1 0 ≡ one_more = ap (λ (b : Bool). let n : ℕ = cond b 1 0 in n) mp in
    let j : open_from (set met p false) base ≡ 0 = open_none (set met p false) base (λ q bq m. elim (met-set met p q false pl) [
      | inl d ↦ absurd (let k : false ≡ true = sym d.1 ∙ m in cc)
      | inr d ↦ d.0 (h q bq (sym d.1 ∙ m))
    ]) in
    omega (arith, g, i, j)
