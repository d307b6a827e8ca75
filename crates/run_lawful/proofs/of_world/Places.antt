-- The world of a history orders events by the places of their deeds, and equal places by number.
use Rattle.std.proofs.Common.{◌≡◌, ◌∙◌, ◌⊎◌, inl, inr, ℕ, ◌<◌, ◌≤◌, ◌==◌, nat_lt, Bool, true, false, ◌&&◌, ◌||◌, List, ◌∷◌, ◌++◌, map, length, get_or}
use Rattle.std.proofs.Common.{refl, sym, ap, ap₂, subst, arith}
use Rattle.std.specs.List.{list_any, position_or_len}
use Rattle.std.proofs.Math.Bool.{or-true}
use Rattle.std.proofs.lemmas.Bool.{and_parts, eqb-true, eq-eqb, lt-ltb, ltb-true, false_from_ne_true}
use Rattle.std.proofs.lemmas.List.{get_or-map, length-map}
use Rattle.sym_steps.specs.run_history.History.{Deed}
use Rattle.sym_steps.proofs.run_history.of_pending.In.{any_in, in_split}
use Rattle.sym_events.specs.path_walk.Paths.{Paths}
use Rattle.sym_events.specs.sym_exec.Executed.{Symbolic}
use Rattle.sym_events.specs.lawful_order.Events.{Placed, all_events, number_of, IsBefore}
use Rattle.sym_events.specs.path_walk.declared.event.Event.{Event}
use Rattle.sym_events.specs.lawful_order.Whole.{HasStep}
use Rattle.sym_events.proofs.order_events.Numbers.{has_number, is_step_at}
use Rattle.bit_ranks.specs.Ranks.{ranks_of}
use Rattle.bit_ranks.proofs.RankLaws.{ranks-order}
use Rattle.world_plan.specs.Sights.{Shows}
use Rattle.run_lawful.specs.world.Order.{TakesPlace}
use Rattle.run_lawful.specs.world.WorldOf.{place_in, world_in}
use Rattle.run_lawful.proofs.of_world.Seen.{shown, shown_is, is_shown_by}
use Rattle.run_lawful.proofs.of_world.Splits.{is_at, found_at, within}

cases_by : (x y a b : ℕ) → (nat_lt x y || (x == y && nat_lt a b)) ≡ true → (x < y) ⊎ ((x ≡ y) × (a < b))
cases_by x y a b e = by (nat_lt x y) refl e
  where
    by : (c : Bool) → nat_lt x y ≡ c → (c || (x == y && nat_lt a b)) ≡ true → (x < y) ⊎ ((x ≡ y) × (a < b))
    by true less e = inl (ltb-true x y less)
    by false less e = let both = and_parts (x == y) (nat_lt a b) e in inr (eqb-true x y both.0, ltb-true a b both.1)

module _ (buffered : Bool) (paths : Paths) (symbolic : Symbolic) (h : List Deed) where
  -- the place of a thread's step
  abbrev pub place : (t k : ℕ) → ℕ
  place t k = position_or_len (shown buffered paths t k) h

  abbrev places : List ℕ
  places = map (place_in buffered paths h) (all_events paths)

  long : length places ≡ length (all_events paths)
  long = length-map (all_events paths) (place_in buffered paths h)

  number_place : (t k : ℕ) → HasStep paths t k → get_or places (number_of paths t k) 0 ≡ place t k
  number_place t k s =
      let d : Placed Event = record { thread = t; it = s.0 } in
      let n = number_of paths t k in
      let inside = has_number paths t k s in
      let e = get_or (all_events paths) n d in
      let both = and_parts (e.thread == t) (e.it.step == k) (is_step_at paths t k d inside) in
      get_or-map (place_in buffered paths h) (all_events paths) n d 0 inside ∙ ap₂ place (eqb-true e.thread t both.0) (eqb-true e.it.step k both.1)

  module _ (t k u j : ℕ) (s : HasStep paths t k) (r : HasStep paths u j) where
    abbrev a : ℕ
    a = number_of paths t k

    abbrev b : ℕ
    b = number_of paths u j

    told : nat_lt (get_or (ranks_of places) a 0) (get_or (ranks_of places) b 0)
        ≡ (nat_lt (place t k) (place u j) || (place t k == place u j && nat_lt a b))
    told =
        ranks-order places a b (subst (λ n. a < n) (sym long) (has_number paths t k s)) (subst (λ n. b < n) (sym long) (has_number paths u j r))
        ∙ ap₂ (λ x y. nat_lt x y || (x == y && nat_lt a b)) (number_place t k s) (number_place u j r)

    abbrev w_before : Type 0
    w_before = IsBefore paths (world_in buffered paths symbolic h) t k u j

    pub before_cases : w_before → (place t k < place u j) ⊎ ((place t k ≡ place u j) × (number_of paths t k < number_of paths u j))
    before_cases before = cases_by (place t k) (place u j) a b (sym told ∙ lt-ltb _ _ before)

    pub by_place : place t k < place u j → w_before
    by_place less = ltb-true _ _ (told ∙ ap (λ c. c || (place t k == place u j && nat_lt a b)) (lt-ltb (place t k) (place u j) less))

    pub by_number : place t k ≡ place u j → number_of paths t k < number_of paths u j → w_before
    by_number same less =
        ltb-true _ _
        (told ∙ ap₂ (λ x y. nat_lt (place t k) (place u j) || (x && y)) (eq-eqb (place t k) (place u j) same) (lt-ltb a b less)
        ∙ or-true (nat_lt (place t k) (place u j)))

  -- a step that takes place once has the place of its deed
  pub place_at : (t k : ℕ) (older : List Deed) (d : Deed) (newer : List Deed)
      → ((before between : List Deed) (c : Deed) → h ≡ (before ++ c ∷ between) ++ d ∷ newer → Shows buffered paths c t k → ⊥)
      → h ≡ older ++ d ∷ newer → Shows buffered paths d t k → place t k ≡ length older
  place_at t k older d newer once is shows =
      let p = shown buffered paths t k in
      ap (position_or_len p) is
      ∙ is_at p older d newer (is_shown_by buffered paths t k d shows)
      (false_from_ne_true (list_any p older) (λ some.
      let f = any_in p older some in
      let s = in_split f.one older f.there in
      once s.older s.newer f.one (is ∙ ap (λ xs. xs ++ d ∷ newer) s.there) (shown_is buffered paths t k f.one f.passes)))

  pub place_within : (t k : ℕ) → place t k ≤ length h
  place_within t k = within (shown buffered paths t k) h

  -- a place within the history is that of a deed that shows the step
  pub record IsFound (t k : ℕ) : Type 0 where
    pub takes : TakesPlace buffered paths h t k
    pub place_is : length takes.older ≡ place t k

  pub found : (t k : ℕ) → place t k < length h → IsFound t k
  found t k less =
      let p = shown buffered paths t k in
      let f = found_at p h less in
      record {
        takes = record { older = f.older; deed = f.it; newer = f.newer; there = f.there; shows = shown_is buffered paths t k f.it f.passes };
        place_is = f.place;
      }

  -- a step that never takes place has the place after all deeds
  pub place_never : (t k : ℕ) → (TakesPlace buffered paths h t k → ⊥) → place t k ≡ length h
  place_never t k never = by (nat_lt (place t k) (length h)) refl
    where
      by : (b : Bool) → nat_lt (place t k) (length h) ≡ b → place t k ≡ length h
      by true less = absurd (never (found t k (ltb-true (place t k) (length h) less)).takes)
      by false less = grind (arith, less, place_within t k)
