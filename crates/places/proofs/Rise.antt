-- The place after a step is later.
use Rattle.std.proofs.Common.{◌≡◌, ◌∙◌, ◌⊎◌, inl, inr, ℕ, zero, suc, ◌+◌, ◌<◌, ◌≤◌, List, [], ◌∷◌, ◌++◌, map, Bool, true, false, ◌==◌, Option, Some, None, refl, ap, sym, subst, arith, slice_get, filter, if◌then◌else◌}
use Rattle.std.proofs.lemmas.Bool.{cases_Bool, cases_lt, eqb-true, eq-eqb, le-leb, false≢true}
use Rattle.std.specs.List.{Contains, find, flat_map, list_any, range_with_len}
use Rattle.places.proofs.Inserting.{split, none}
use Rattle.std.specs.Option.{option_map_or}
use Rattle.tc_code.specs.Lawful.{target}
use Rattle.tc_code.specs.declared.instr.Instr.{Instr}
use Rattle.std.proofs.lemmas.Cmp.{nat_list_cmp_total}
use Rattle.std.proofs.lemmas.Option.{none-some, same_Some}
use Rattle.places.specs.code_loops.Loops.{IsLoop, LoopsNest}
use Rattle.places.proofs.code_loops.Nesting.{inside_or_apart}
use Rattle.places.specs.Places.{Place, is_around, loops_around, round_in, round_after, place_at, place_after, places_along, key, IsEarlier, Follow, goes_on, successors}
use Rattle.places.specs.declared.place.Round.{Round}
use Rattle.places.proofs.Keys.{keyed, ahead, again}
use Rattle.places.proofs.Around.{closed, around}

-- two numbers that differ
differ : (a b : ℕ) → a < b → (b == a) ≡ false
differ a b lt = elim (cases_Bool (b == a)) [ inl t ↦ absurd (omega (arith, eqb-true b a t, lt)) | inr f ↦ f ]

-- a number in a range that passes a test is among those that pass it
among : (P : ℕ → Bool) (b a n : ℕ) → P b ≡ true → a ≤ b → b < a + n → list_any (λ c. c == b) (filter P (range_with_len a n)) ≡ true
among P b a zero passes low high = absurd (omega (arith, low, high))
among P b a (suc n) passes low high =
    elim (cases_lt a b) [
      | inl before ↦
          let rest : list_any (λ c. c == b) (filter P (range_with_len (a + 1) n)) ≡ true =
          among P b (a + 1) n passes (omega (arith, before)) (omega (arith, high)) in
          elim (cases_Bool (P a)) [
            | inl t ↦ rw t (elim (cases_Bool (a == b)) [ inl e ↦ rw e refl | inr e ↦ rw e rest ])
            | inr f ↦ rw f rest
          ]
      | inr there ↦
          let here : a ≡ b = omega (arith, low, there) in
          rw (ap P here ∙ passes) (rw (eq-eqb a b here) refl)
    ]

-- the round of a loop in a list of rounds
number_in : List Round → ℕ → ℕ
number_in rounds first = option_map_or (λ r. r.number) (find (λ r. r.first == first) rounds) 0

looked_up : (number : ℕ → ℕ) (bs : List ℕ) (b : ℕ) → list_any (λ c. c == b) bs ≡ true
    → option_map_or (λ (r : Round). r.number) (find (λ (r : Round). r.first == b) (map (λ a. record { first = a; number = number a }) bs)) 0 ≡ number b
looked_up number [] b e = absurd (false≢true e)
looked_up number (a ∷ bs) b e =
    elim (cases_Bool (a == b)) [
      | inl t ↦ rw t (ap number (eqb-true a b t))
      | inr f ↦ rw f (looked_up number bs b (rw f at e))
    ]

-- the key of a place
keys : (number : ℕ → ℕ) (bs : List ℕ) → flat_map (λ (r : Round). r.first ∷ r.number ∷ []) (map (λ a. record { first = a; number = number a }) bs)
    ≡ flat_map (λ a. a ∷ number a ∷ []) bs
keys number [] = refl
keys number (a ∷ bs) = ap (λ rest. a ∷ number a ∷ rest) (keys number bs)

key_at : (is : List Instr) (at : ℕ) (number : ℕ → ℕ) → key (place_at is at number) ≡ keyed number (loops_around is at) at
key_at is at number = ap (λ xs. xs ++ at ∷ []) (keys number (loops_around is at))

-- where an instruction leads
leads_by : (k to : ℕ) (goes : Bool) (o : Option ℕ) → Contains ((if goes then (k + 1) ∷ [] else []) ++ option_map_or (λ t. t ∷ []) o []) to
    → (to ≡ k + 1) ⊎ (o ≡ Some to)
leads_by k to true None c = elim (split (k + 1) to [] c) [ inl e ↦ inl (sym e) | inr n ↦ absurd (none to n) ]
leads_by k to true (Some t) c = elim (split (k + 1) to (t ∷ []) c) [
  | inl e ↦ inl (sym e)
  | inr d ↦ elim (split t to [] d) [ inl e ↦ inr (ap Some e) | inr n ↦ absurd (none to n) ]
]
leads_by k to false None c = absurd (none to c)
leads_by k to false (Some t) c = elim (split t to [] c) [ inl e ↦ inr (ap Some e) | inr n ↦ absurd (none to n) ]

pub leads_of : (k : ℕ) (i : Instr) (to : ℕ) → Contains (successors k i) to → (to ≡ k + 1) ⊎ (target i ≡ Some to)
leads_of k i to c = leads_by k to (goes_on i) (target i) c

module _ (is : List Instr) (nest : LoopsNest is) (k : ℕ) (number : ℕ → ℕ) (i : Instr) (to : ℕ) (there : slice_get is k ≡ Some i)
    (leads : (to ≡ k + 1) ⊎ (target i ≡ Some to)) where
  abbrev p : Place
  p = place_at is k number

  abbrev P : ℕ → Bool
  P = is_around is k

  abbrev Q : ℕ → Bool
  Q = is_around is to

  -- the number of a loop that is around the place
  same_number : (a : ℕ) → a ≤ k → P a ≡ true → round_in p a ≡ number a
  same_number a low t = looked_up number (loops_around is k) a (among P a 0 (k + 1) t (omega arith) (omega (arith, low)))

  other_number : (a : ℕ) → a < to → round_after p to a ≡ round_in p a
  other_number a lt = rw (differ a to lt) refl

  forward : k < to → IsEarlier p (place_after is p to)
  forward lt =
      rw (key_at is k number) (rw (key_at is to (round_after p to))
      (ahead P Q number (round_after p to) k to lt
      (λ a low t. other_number a (omega (arith, low, lt)) ∙ same_number a low t)
      (λ a low t. let c = closed is to a t in around is k a c.last c.instr c.there (omega (arith, c.behind, lt)) c.back)
      0 (k + 1) (to + 1) (omega arith) (omega arith)))

  back_to : to ≤ k → target i ≡ Some to
  back_to low = elim leads [ inl next ↦ absurd (omega (arith, next, low)) | inr it ↦ it ]

  -- a jump back ends a loop
  loop : (first last : ℕ) (j : Instr) → slice_get is last ≡ Some j → target j ≡ Some first → first ≤ last → IsLoop is first last
  loop first last j at jumps low = record { jump = at ∙ ap Some (nest.ends last first j at jumps low); back = low }

  alike : to ≤ k → (a : ℕ) → a < to → Q a ≡ P a
  alike low a lt =
      elim (cases_Bool (P a)) [
        | inl t ↦ let c = closed is k a t in around is to a c.last c.instr c.there (omega (arith, c.behind, low)) c.back ∙ sym t
        | inr f ↦ elim (cases_Bool (Q a)) [
          | inr g ↦ g ∙ sym f
          | inl t ↦
              let c = closed is to a t in
              elim (cases_lt c.last k) [
                | inr behind ↦ absurd (false≢true (sym f ∙ around is k a c.last c.instr c.there behind c.back))
                | inl before ↦ elim (inside_or_apart is a c.last to k nest (loop a c.last c.instr c.there c.back (omega (arith, c.behind, lt))) (loop to k i there (back_to low) low) before) [
                  | inl ends ↦ absurd (omega (arith, ends, c.behind))
                  | inr begins ↦ absurd (omega (arith, begins, lt))
                ]
              ]
        ]
      ]

  next_number : to ≤ k → round_after p to to ≡ round_in p to + 1
  next_number low = rw (eq-eqb to to refl) (rw (le-leb to k low) refl)

  backward : to ≤ k → IsEarlier p (place_after is p to)
  backward low =
      let mine : P to ≡ true = around is k to k i there (omega arith) (back_to low) in
      rw (key_at is k number) (rw (key_at is to (round_after p to))
      (again P Q number (round_after p to) k to mine (around is to to k i there low (back_to low))
      (omega (arith, next_number low, same_number to low mine))
      (λ a lt. ((λ t. other_number a lt ∙ same_number a (omega (arith, lt, low)) t), alike low a lt))
      0 (k + 1) (to + 1) (omega arith) low (omega arith) (omega arith)))

  pub rises : IsEarlier p (place_after is p to)
  rises = elim (cases_lt k to) [ inl lt ↦ forward lt | inr low ↦ backward low ]

-- the first of the places along a way
first_along : (is : List Instr) (p : Place) (tos : List ℕ) → slice_get (places_along is p tos) 0 ≡ Some p
first_along is p [] = refl
first_along is p (to ∷ tos) = refl

module _ (is : List Instr) (nest : LoopsNest is) where
  later : (k : ℕ) (number : ℕ → ℕ) (tos : List ℕ) → Follow is k tos → (n : ℕ) (q : Place)
      → slice_get (places_along is (place_at is k number) tos) (suc n) ≡ Some q → IsEarlier (place_at is k number) q
  later k number [] f n q e = absurd (none-some q e)
  later k number (to ∷ tos) f zero q e =
      let next = place_after is (place_at is k number) to in
      let first = rises is nest k number f.0.instr to f.0.there (leads_of k f.0.instr to f.0.leads) in
      subst (IsEarlier (place_at is k number)) (same_Some next q (sym (first_along is next tos) ∙ e)) first
  later k number (to ∷ tos) f (suc n) q e =
      let next = place_after is (place_at is k number) to in
      nat_list_cmp_total.trans (key (place_at is k number)) (key next) (key q) (rises is nest k number f.0.instr to f.0.there (leads_of k f.0.instr to f.0.leads))
      (later to (round_after (place_at is k number) to) tos f.1 n q e)

  pub all_rise : (k : ℕ) (number : ℕ → ℕ) (tos : List ℕ) → Follow is k tos → (m n : ℕ) (p q : Place) → m < n
      → slice_get (places_along is (place_at is k number) tos) m ≡ Some p → slice_get (places_along is (place_at is k number) tos) n ≡ Some q
      → IsEarlier p q
  all_rise k number tos f m zero p q lt e g = absurd (omega (arith, lt))
  all_rise k number tos f zero (suc n) p q lt e g =
      subst (λ a. IsEarlier a q) (same_Some (place_at is k number) p (sym (first_along is (place_at is k number) tos) ∙ e)) (later k number tos f n q g)
  all_rise k number [] f (suc m) (suc n) p q lt e g = absurd (none-some p e)
  all_rise k number (to ∷ tos) f (suc m) (suc n) p q lt e g =
      all_rise to (round_after (place_at is k number) to) tos f.1 m n p q (omega (arith, lt)) e g
