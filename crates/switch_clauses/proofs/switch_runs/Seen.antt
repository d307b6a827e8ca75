-- The threads of a history's visible deeds, by the positions of their events in a world.
use Rattle.std.proofs.Common.{◌≡◌, ◌∙◌, inl, inr, ℕ, ◌+◌, ◌≤◌, ◌==◌, Bool, List, [], ◌∷◌, ◌++◌, map, length, get_or, Option, Some, None, append_assoc, refl, sym, ap, ap₂, subst, arith}
use Rattle.std.specs.Prelude.{option_map, slice_get}
use Rattle.std.specs.List.{cons_option, filter_map}
use Rattle.std.specs.Option.{option_map_or}
use Rattle.std.proofs.lemmas.Bool.{and_parts, eqb-true}
use Rattle.std.proofs.lemmas.List.{get_or-map, length-map}
use Rattle.std.proofs.lemmas.Option.{none-some, same_Some}
use Rattle.plan_runs.specs.tc_base.Names.{Name, main}
use Rattle.plan_runs.specs.run_history.History.{Deed}
use Rattle.plan_runs.proofs.run_history.of_pending.In.{In, in_at, in_split}
use Rattle.plan_runs.specs.path_walk.Paths.{Walk, Paths}
use Rattle.plan_runs.specs.path_walk.declared.event.Event.{Event}
use Rattle.order_switches.specs.order_formula.Worlds.{World, IsWorld}
use Rattle.order_switches.specs.Switches.{thread_at}
use Rattle.order_switches.proofs.Threads.{thread_there}
use Rattle.plan_runs.specs.lawful_order.Events.{Placed, all_events, number_of, place_of}
use Rattle.plan_runs.specs.lawful_order.Whole.{HasStep}
use Rattle.plan_runs.proofs.order_events.Numbers.{has_number, is_step_at}
use Rattle.plan_runs.specs.world_plan.Sights.{AreInOrder, Shows, Sight, sight_of}
use Rattle.run_lawful.proofs.of_world.Ordered.{AreSeen}
use Rattle.switch_clauses.specs.switch_runs.Worlds.{threads_of}
use Rattle.switch_clauses.proofs.switch_runs.Sorted.{Rises}

abbrev pub thread_of : Sight → Name
thread_of s = s.thread

-- the name of a thread of paths
abbrev pub name_of : Paths → ℕ → Name
name_of paths t = option_map_or (λ (q : Walk). q.name) (slice_get paths.threads t) main

-- the name of the thread of the event at a position
abbrev pub name_at : Paths → World → ℕ → Option Name
name_at paths w p = option_map (name_of paths) (thread_at (threads_of paths) w p)

module _ (paths : Paths) (w : World) (is : IsWorld w) (events : length w.positions ≡ length (all_events paths)) where
  pub long : length (threads_of paths) ≡ length w.positions
  long = length-map (all_events paths) (λ e. e.thread) ∙ sym events

  -- the thread at the position of an event is its own
  pub thread_is : (t k : ℕ) → HasStep paths t k → thread_at (threads_of paths) w (place_of paths w t k) ≡ Some t
  thread_is t k s =
      let n = number_of paths t k in
      let d : Placed Event = record { thread = t; it = s.0 } in
      let within = has_number paths t k s in
      let e = get_or (all_events paths) n d in
      let both = and_parts (e.thread == t) (e.it.step == k) (is_step_at paths t k d within) in
      thread_there (threads_of paths) w.positions n is.distinct long (omega (arith, within, length-map (all_events paths) (λ (e : Placed Event). e.thread)))
      ∙ ap (λ u. Some u) (get_or-map (λ (e : Placed Event). e.thread) (all_events paths) n d 0 within ∙ eqb-true e.thread t both.0)

  pub name_is : (t k : ℕ) (q : Walk) → HasStep paths t k → slice_get paths.threads t ≡ Some q → name_at paths w (place_of paths w t k) ≡ Some q.name
  name_is t k q s there =
      ap (option_map (name_of paths)) (thread_is t k s) ∙ ap (λ o. Some (option_map_or (λ (v : Walk). v.name) o main)) there

  module _ (buffered : Bool) (h : List Deed) (a : AreSeen buffered paths h) (ordered : AreInOrder buffered paths w h)
      (named : (d : Deed) (s : Sight) → In d h → sight_of buffered d ≡ Some s → (t : ℕ) × (q : Walk) × (slice_get paths.threads t ≡ Some q) × (q.name ≡ s.thread)) where
    abbrev At : Deed → (t k : ℕ) → Type 0
    At d t k = Shows buffered paths d t k

    abbrev place : (t k : ℕ) → ℕ
    place t k = place_of paths w t k

    pub step_of : (d : Deed) (t k : ℕ) → In d h → At d t k → HasStep paths t k
    step_of d t k i shows = let s = in_split d h i in a.events t k (record { older = s.older; deed = d; newer = s.newer; there = s.there; shows = shows })

    -- an event at a position that takes place by one of some deeds
    pub record TakesPlaceIn (rest : List Deed) (p : ℕ) : Type 0 where
      pub deed : Deed
      pub thread : ℕ
      pub step : ℕ
      pub among : In deed rest
      pub shows : At deed thread step
      pub at : place thread step ≡ p

    -- the positions of the events that take place by some deeds, in order
    pub record SeenIn (rest : List Deed) : Type 0 where
      pub positions : List ℕ
      pub names : map thread_of (filter_map (sight_of buffered) rest) ≡ filter_map (name_at paths w) positions
      pub rises : (b : ℕ) → ((d : Deed) (t k : ℕ) → In d rest → At d t k → b ≤ place t k) → Rises b positions
      pub take : (p : ℕ) → In p positions → TakesPlaceIn rest p
      pub has : (d : Deed) (t k : ℕ) → In d rest → At d t k → In (place t k) positions

    further : (d : Deed) (rest : List Deed) (p : ℕ) → TakesPlaceIn rest p → TakesPlaceIn (d ∷ rest) p
    further d rest p t = record { deed = t.deed; thread = t.thread; step = t.step; among = inr t.among; shows = t.shows; at = t.at }

    -- the same after a deed that shows nothing
    hidden : (d : Deed) (rest : List Deed) → sight_of buffered d ≡ None → SeenIn rest → SeenIn (d ∷ rest)
    hidden d rest none s = record {
      positions = s.positions;
      names = ap (λ o. map thread_of (cons_option o (filter_map (sight_of buffered) rest))) none ∙ s.names;
      rises = λ b low. s.rises b (λ e t k i. low e t k (inr i));
      take = λ p i. further d rest p (s.take p i);
      has = λ e t k i shows. has e t k i shows;
    }
      where
        has : (e : Deed) (t k : ℕ) → In e (d ∷ rest) → At e t k → In (place t k) s.positions
        has e t k (inl same) shows =
            absurd (none-some (record { thread = shows.walk.name; step = k }) (sym none ∙ ap (sight_of buffered) same ∙ shows.sight))
        has e t k (inr i) shows = s.has e t k i shows

    -- the same after a deed that shows an event
    shown : (older : List Deed) (d : Deed) (rest : List Deed) (x : Sight) → h ≡ older ++ d ∷ rest → sight_of buffered d ≡ Some x → SeenIn rest → SeenIn (d ∷ rest)
    shown older d rest x there sees s = record {
      positions = p ∷ s.positions;
      names = ap (λ o. map thread_of (cons_option o (filter_map (sight_of buffered) rest))) sees
          ∙ ap₂ (λ n ns. n ∷ ns) (sym n.3) s.names
          ∙ ap (λ o. cons_option o (filter_map (name_at paths w) s.positions)) (sym (name_is t x.step n.1 mine n.2));
      rises = λ b low. (low d t x.step (inl refl) shows, s.rises (p + 1) later);
      take = take;
      has = has;
    }
      where
        in_h : In d h
        in_h = subst (In d) (sym there) (in_at older d rest)

        n : (t : ℕ) × (q : Walk) × (slice_get paths.threads t ≡ Some q) × (q.name ≡ x.thread)
        n = named d x in_h sees

        t : ℕ
        t = n.0

        p : ℕ
        p = place t x.step

        shows : At d t x.step
        shows = record { walk = n.1; there = n.2; sight = sees ∙ ap (λ m. Some (record { thread = m; step = x.step })) (sym n.3) }

        mine : HasStep paths t x.step
        mine = step_of d t x.step in_h shows

        later : (e : Deed) (u j : ℕ) → In e rest → At e u j → p + 1 ≤ place u j
        later e u j i seen =
            let c = in_split e rest i in
            let before = ordered older c.older c.newer d e t x.step u j
            (there ∙ ap (λ g. older ++ d ∷ g) c.there ∙ sym (append_assoc older (d ∷ c.older) (e ∷ c.newer))) shows seen in
            omega (arith, before)

        take : (q : ℕ) → In q (p ∷ s.positions) → TakesPlaceIn (d ∷ rest) q
        take q (inl same) = record { deed = d; thread = t; step = x.step; among = inl refl; shows = shows; at = same }
        take q (inr i) = further d rest q (s.take q i)

        has : (e : Deed) (u j : ℕ) → In e (d ∷ rest) → At e u j → In (place u j) (p ∷ s.positions)
        has e u j (inl same) seen =
            let one : x ≡ record { thread = seen.walk.name; step = j } =
            same_Some x (record { thread = seen.walk.name; step = j }) (sym sees ∙ ap (sight_of buffered) same ∙ seen.sight) in
            let thread = a.names t u n.1 seen.walk n.2 seen.there (n.3 ∙ ap (λ (y : Sight). y.thread) one) in
            inl (ap₂ place thread (ap (λ (y : Sight). y.step) one))
        has e u j (inr i) seen = inr (s.has e u j i seen)

    pub seen_from : (older rest : List Deed) → h ≡ older ++ rest → SeenIn rest
    seen_from older [] there = record {
      positions = [];
      names = refl;
      rises = λ b low. tt;
      take = λ p i. absurd i;
      has = λ d t k i shows. absurd i;
    }
    seen_from older (d ∷ rest) there =
        by (sight_of buffered d) refl (seen_from (older ++ d ∷ []) rest (there ∙ sym (append_assoc older (d ∷ []) rest)))
      where
        by : (o : Option Sight) → sight_of buffered d ≡ o → SeenIn rest → SeenIn (d ∷ rest)
        by None none s = hidden d rest none s
        by (Some x) sees s = shown older d rest x there sees s
