-- The first place, the last ones, and places by the last jumps.
use Rattle.std.proofs.Common.{◌≡◌, ◌∙◌, inl, inr, ℕ, zero, suc, ◌+◌, ◌<◌, ◌≤◌, List, [], ◌∷◌, ◌++◌, map, filter, Option, Some, None, option_and_then, slice_get, refl, ap, sym, subst, arith, length, length-append, Vec, slice_index_or}
use Rattle.std.specs.Global.{Global}
use Rattle.std.specs.List.{Contains, range_with_len}
use Rattle.std.proofs.lemmas.Bool.{cases_Bool}
use Rattle.std.proofs.lemmas.List.Elements.{Contains-push_cases}
use Rattle.std.proofs.lemmas.Option.{none-some, same_Some, slice_get-get_or, get_or_from_slice_get}
use Rattle.tc_code.specs.declared.instr.Instr.{Instr}
use Rattle.places.specs.Places.{Place, key, is_around, place_at, first_place, round_in, successors, enters, reached_by, HasPlaces, IsReached, AreReached, AreMore}
use Rattle.places.specs.helpers.Jumps.{AreLastJumps, is_around_by, place_by}
use Rattle.places.specs.helpers.Waiting.{Waiting, Adds, AddsAll}
use Rattle.places.proofs.Inserting.{Entry, here, there, split, none}
use Rattle.places.proofs.Search.{Found, Goes, entered, good, limited, listed_in, rise_more}

-- ---- places by the last jumps

module _ (is : List Instr) (lasts : List (Option ℕ)) (jumps : AreLastJumps is lasts) where
  same_test : (at first : ℕ) → first < length is → is_around_by lasts at first ≡ is_around is at first
  same_test at first low = go (slice_get lasts first) refl where
    go : (o : Option (Option ℕ)) → o ≡ slice_get lasts first → is_around_by lasts at first ≡ is_around is at first
    go None e = absurd (none-some _ (e ∙ slice_get-get_or lasts first None (omega (arith, low, jumps.count))))
    go (Some last) e =
        rw (get_or_from_slice_get lasts first last None (sym e)) (sym (jumps.each first last (sym e) at))

  same_range : (at a n : ℕ) → a + n ≤ length is → filter (is_around_by lasts at) (range_with_len a n) ≡ filter (is_around is at) (range_with_len a n)
  same_range at a zero low = refl
  same_range at a (suc n) low =
      let rest = same_range at (a + 1) n (omega (arith, low)) in
      let test = same_test at a (omega (arith, low)) in
      elim (cases_Bool (is_around is at a)) [ inl t ↦ rw (test ∙ t, t) (ap (λ bs. a ∷ bs) rest) | inr f ↦ rw (test ∙ f, f) rest ]

  pub same_place : (at : ℕ) (number : ℕ → ℕ) → at < length is → place_by lasts at number ≡ place_at is at number
  same_place at number low =
      ap (λ bs. record { instruction = at; rounds = map (λ a. record { first = a; number = number a }) bs }) (same_range at 0 (at + 1) (omega (arith, low)))

-- ---- adding by one function or another

pub adds_same : (limits : List ℕ) (f g : ℕ → Place) (tos : List ℕ) (old new : Waiting) → ((to : ℕ) → Contains tos to → f to ≡ g to)
    → AddsAll limits f tos old new → AddsAll limits g tos old new
adds_same limits f g [] old new same a = a
adds_same limits f g (to ∷ tos) old new same (m, a, rest) =
    (m, subst (λ q. Adds limits q old m) (same to (here to to tos refl)) a, adds_same limits f g tos m new (λ t c. same t (there to t tos c)) rest)

-- ---- the beginning and the ends of the search

module _ (is : List Instr) (limits : List ℕ) where
  pub begins : (k : Vec ℕ Global) (p : Place) → k.items ≡ key p → p ≡ first_place is → Goes is limits [] ((k, p) ∷ [])
  begins k p keyed first =
      let only : (e : Entry) → Contains ((k, p) ∷ []) e → (k, p) ≡ e = λ e c. elim (split (k, p) e [] c) [ inl same ↦ same | inr n ↦ absurd (none e n) ] in
      record {
        rise = tt;
        ahead = λ q e c d. absurd (none q c);
        keyed = λ e c. subst (λ (x : Entry). x.0.items ≡ key x.1) (only e c) keyed;
        reached = λ q c. absurd (none q c);
        waits = λ e c. subst (λ (x : Entry). IsReached is limits x.1) (only e c) ([], ap Some (sym first));
        first = inr ((k, p), here (k, p) (k, p) [] refl, first);
        closed = λ q to r c e. absurd (none q c);
      }

  pub ends : (ps : List Place) → Goes is limits ps [] → AreReached is limits ps
  ends ps goes = record { rise = goes.rise; reached = goes.reached; all = λ p r. all r.0 p r.1 } where
    found : (p : Place) → Found is limits ps [] p → Contains ps p
    found p (inl c) = c
    found p (inr (e, c, same)) = absurd (none e c)

    all : (tos : List ℕ) (p : Place) → reached_by is limits tos ≡ Some p → Contains ps p
    all [] p e = subst (Contains ps) (same_Some (first_place is) p e) (found (first_place is) goes.first)
    all (to ∷ tos) p e = next (all tos) (reached_by is limits tos) refl e where
      next : ((q : Place) → reached_by is limits tos ≡ Some q → Contains ps q) → (o : Option Place) → o ≡ reached_by is limits tos
          → option_and_then (λ q. enters is limits q to) o ≡ Some p → Contains ps p
      next known None at e = absurd (none-some p e)
      next known (Some q) at e = found p (goes.closed q to p (known q (sym at)) e)

  pub more : (ps : List Place) (k : Vec ℕ Global) (p : Place) (w : Waiting) (n : ℕ) → length ps ≡ n → Goes is limits ps ((k, p) ∷ w) → AreMore is limits n
  more ps k p w n count goes = record {
    places = ps ++ p ∷ [];
    count = length-append ps (p ∷ []) ∙ ap (λ m. m + 1) count;
    rise = rise_more ps p goes.rise (λ q c. goes.ahead q (k, p) c (here (k, p) (k, p) w refl));
    reached = λ q c. elim (Contains-push_cases ps p q c) [
      | inl old ↦ goes.reached q old
      | inr same ↦ subst (IsReached is limits) same (goes.waits (k, p) (here (k, p) (k, p) w refl))
    ];
  }

  -- the numbers of a place that is reached are in range
  pub rounds_within : (p : Place) → IsReached is limits p → (first : ℕ) → round_in p first ≤ slice_index_or limits first 0
  rounds_within p r first = limited is limits p.rounds (good is limits r.0 p r.1).free first

  module _ (has : HasPlaces is) where
    pub at_within : (tos : List ℕ) (p : Place) → reached_by is limits tos ≡ Some p → p.instruction < length is
    at_within [] p e = subst (λ q. q.instruction < length is) (same_Some (first_place is) p e) has.some
    at_within (to ∷ tos) p e = go (reached_by is limits tos) e where
      go : (o : Option Place) → option_and_then (λ q. enters is limits q to) o ≡ Some p → p.instruction < length is
      go None e = absurd (none-some p e)
      go (Some q) e =
          let it = entered is limits q to p e in
          subst (λ x. x.instruction < length is) (sym it.same) (has.lead q.instruction it.instr to it.there (listed_in (successors q.instruction it.instr) to it.leads))
