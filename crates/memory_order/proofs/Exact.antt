-- The conjuncts of a thread's own events are all true exactly if its rule is met.
use Rattle.std.proofs.Common.{◌≡◌, ◌≢◌, ◌∙◌, ℕ, ◌<◌, ◌≤◌, inl, inr, if◌then◌else◌, Bool, true, false, not, ◌&&◌, List, [], ◌∷◌, map, Some, refl, ap}
use Rattle.std.proofs.Common.{sym, subst, arith}
use Rattle.std.specs.Prelude.{filter, slice_get, option_to_list}
use Rattle.std.specs.List.{All, Contains, list_any}
use Rattle.std.proofs.lemmas.Bool.{false≢true, not-true, false_from_ne_true, cases_Bool, cases_lt, cases_order, and_parts, and_from}
use Rattle.std.proofs.lemmas.List.Elements.{All-contains, Contains-append_left, Contains-append_right, Contains-append_cases}
use Rattle.std.proofs.lemmas.Option.{same_Some}
use Rattle.path_walk.specs.Paths.{Walk, Paths}
use Rattle.path_walk.specs.declared.event.Event.{Event}
use Rattle.path_walk.specs.declared.event.EventKind.{EventKind}
use Rattle.path_walk.specs.declared.event.EventKind.TheVariants as kind
use Rattle.store_buffers.specs.Pending.{Binding}
use Rattle.sym_terms.specs.Terms.{AreTerms, id_of}
use Rattle.sym_terms.specs.declared.node.Node.{Node}
use Rattle.sym_exec.specs.Executed.{Symbolic}
use Rattle.order_formula.specs.Groups.{HoldsIn, IsExactly}
use Rattle.order_formula.specs.Truth.{passes_at, body_at, literal_at}
use Rattle.order_formula.specs.Worlds.{World}
use Rattle.order_formula.specs.declared.formula.Conjunct.{Conjunct}
use Rattle.order_formula.specs.declared.group.Group.TheVariants.{Own}
use Rattle.order_formula.specs.declared.literal.Literal.{Literal}
use Rattle.order_cells.specs.lawful_order.Events.{Placed, HasEvent, IsBefore, all_events, place_of}
use Rattle.order_cells.specs.lawful_order.Memory.{OwnRule, is_kept, is_pending}
use Rattle.order_cells.specs.lawful_order.Whole.{AreWhole, IsExecutedBy}
use Rattle.order_events.proofs.Lists.{in_front, in_back, of_cons, in_map, of_map, in_flat_map, of_flat_map, in_filter, of_filter, in_at, at_in}
use Rattle.order_events.proofs.Parts.{of_one, in_option, of_option, in_if, of_if, in_each, in_of_each, one_holds, some_holds, step_before, before_holds}
use Rattle.order_events.proofs.Parts.{is_unwanted, unwanted_is}
use Rattle.order_events.proofs.Numbers.{in_all_from, of_all_from}
use Rattle.order_events.specs.Parts.{of_each, comes_before, one_of}
use Rattle.memory_order.specs.Twos.{Two, twos}
use Rattle.memory_order.specs.Own.{is_failing, is_settled, is_always_kept, is_kept_next, kept_test}
use Rattle.memory_order.specs.Own.{two_tests, thread_tests, own_needs, fails, in_order, two_formula}
use Rattle.memory_order.specs.Own.{thread_formula, before_failing, is_before_failing, failing_formula, own_formula}
use Rattle.memory_order.proofs.Twos.{two_at, two_places, all_in_order}
use Rattle.memory_order.proofs.Keeping.{Told, have_cells, two_told}

pub only_failing : (k : EventKind) → is_failing k ≡ true → k ≡ kind.Fail
only_failing kind.Fail h = refl
only_failing _ h = absurd (false≢true h)

module _ (buffered : Bool) (bound : Binding) (paths : Paths) (symbolic : Symbolic) (nodes : List Node) where
  abbrev pub events : List (Placed Event)
  events = all_events paths

  abbrev pub formula : List Conjunct
  formula = own_formula buffered bound paths symbolic nodes

  -- the conjuncts of a thread's events: of two of them, and of one and the failing event
  abbrev pub of_thread : ℕ → Walk → List Conjunct
  of_thread t q = thread_formula buffered bound events symbolic nodes t q

  abbrev pub always_of : ℕ → Two Event → Conjunct
  always_of t p = one_of (Own t) (in_order events t p ∷ [])

  abbrev pub tested_of : ℕ → Two Event → Node → Conjunct
  tested_of t p test = one_of (Own t) (fails (id_of nodes test) ∷ in_order events t p ∷ [])

  abbrev pub of_two : ℕ → Two Event → List Conjunct
  of_two t p = two_formula buffered bound events symbolic nodes t p

  abbrev pub of_failing : Placed Event → List Conjunct
  of_failing x = map (before_failing events x) (filter (λ (f : Placed Event). is_failing f.it.kind) events)

  -- these conjuncts are in the formula
  in_two : (t : ℕ) (q : Walk) (p : Two Event) (c : Conjunct) → slice_get paths.threads t ≡ Some q → Contains (twos q.events) p → Contains (of_two t p) c
      → Contains formula c
  in_two t q p c at two there =
      Contains-append_left (of_each of_thread paths.threads) (failing_formula buffered events) c
      (in_each of_thread t q c paths.threads at (in_flat_map (of_two t) p c (twos q.events) two there))

  in_always : (t : ℕ) (q : Walk) (p : Two Event) → slice_get paths.threads t ≡ Some q → Contains (twos q.events) p
      → is_kept_next buffered bound symbolic nodes t p ≡ true → Contains formula (always_of t p)
  in_always t q p at two next =
      let kept = kept_test buffered bound symbolic nodes t p in
      in_two t q p (always_of t p) at two
      (Contains-append_left (if is_kept_next buffered bound symbolic nodes t p then always_of t p ∷ [] else []) (map (tested_of t p) (option_to_list kept))
      (always_of t p) (in_if (is_kept_next buffered bound symbolic nodes t p) (always_of t p) (always_of t p ∷ []) next (in_front (always_of t p) [])))

  in_tested : (t : ℕ) (q : Walk) (p : Two Event) (test : Node) → slice_get paths.threads t ≡ Some q → Contains (twos q.events) p
      → kept_test buffered bound symbolic nodes t p ≡ Some test → Contains formula (tested_of t p test)
  in_tested t q p test at two is =
      let kept = kept_test buffered bound symbolic nodes t p in
      in_two t q p (tested_of t p test) at two
      (Contains-append_right (if is_kept_next buffered bound symbolic nodes t p then always_of t p ∷ [] else []) (map (tested_of t p) (option_to_list kept))
      (tested_of t p test) (in_map (tested_of t p) test (option_to_list kept) (in_option kept test is)))

  in_failing : (x f : Placed Event) → Contains events x → Contains events f → is_before_failing buffered x ≡ true → is_failing f.it.kind ≡ true
      → Contains formula (before_failing events x f)
  in_failing x f first second before fails =
      let c = before_failing events x f in
      Contains-append_right (of_each of_thread paths.threads) (failing_formula buffered events) c
      (in_flat_map of_failing x c (filter (is_before_failing buffered) events) (in_filter (is_before_failing buffered) x events first before)
      (in_map (before_failing events x) f (filter (λ (g : Placed Event). is_failing g.it.kind) events)
      (in_filter (λ (g : Placed Event). is_failing g.it.kind) f events second fails)))

  -- no other conjuncts are in the formula
  pub data IsOwn (c : Conjunct) : Type 0 where
    Always : (t : ℕ) (q : Walk) (p : Two Event) → slice_get paths.threads t ≡ Some q → Contains (twos q.events) p
        → is_kept_next buffered bound symbolic nodes t p ≡ true → always_of t p ≡ c → IsOwn c
    Tested : (t : ℕ) (q : Walk) (p : Two Event) (test : Node) → slice_get paths.threads t ≡ Some q → Contains (twos q.events) p
        → kept_test buffered bound symbolic nodes t p ≡ Some test → tested_of t p test ≡ c → IsOwn c
    Failing : (x f : Placed Event) → Contains events x → Contains events f → is_before_failing buffered x ≡ true → is_failing f.it.kind ≡ true
        → before_failing events x f ≡ c → IsOwn c

  of_two_formula : (t : ℕ) (q : Walk) (p : Two Event) (c : Conjunct) → slice_get paths.threads t ≡ Some q → Contains (twos q.events) p
      → Contains (of_two t p) c → IsOwn c
  of_two_formula t q p c at two there =
      let next = is_kept_next buffered bound symbolic nodes t p in
      let kept = kept_test buffered bound symbolic nodes t p in
      elim (Contains-append_cases (if next then always_of t p ∷ [] else []) (map (tested_of t p) (option_to_list kept)) c there) [
        | inl always ↦
            (let o = of_if next c (always_of t p ∷ []) always in
            Always t q p at two o.0 (of_one c (always_of t p) o.1))
        | inr tested ↦
            (let o = of_map (tested_of t p) c (option_to_list kept) tested in
            Tested t q p o.0 at two (of_option kept o.0 o.1) o.2)
      ]

  of_failing_formula : (c : Conjunct) → Contains (failing_formula buffered events) c → IsOwn c
  of_failing_formula c there =
      let o = of_flat_map of_failing c (filter (is_before_failing buffered) events) there in
      let x = of_filter (is_before_failing buffered) o.0 events o.1 in
      let m = of_map (before_failing events o.0) c (filter (λ (g : Placed Event). is_failing g.it.kind) events) o.2 in
      let f = of_filter (λ (g : Placed Event). is_failing g.it.kind) m.0 events m.1 in
      Failing o.0 m.0 x.0 f.0 x.1 f.1 m.2

  pub of_formula : (c : Conjunct) → Contains formula c → IsOwn c
  of_formula c there = elim (Contains-append_cases (of_each of_thread paths.threads) (failing_formula buffered events) c there) [
    | inl own ↦
        (let e = in_of_each of_thread paths.threads c own in
        let o = of_flat_map (of_two e.place) c (twos e.element.events) e.there in
        of_two_formula e.place e.element o.0 c e.at o.1 o.2)
    | inr failing ↦ of_failing_formula c failing
  ]

  -- each conjunct is in the group of a thread's own events
  pub own_group : (c : Conjunct) → IsOwn c → (t : ℕ) × (c.group ≡ Own t)
  own_group c (Always t q p at two next is) = (t, ap (λ (d : Conjunct). d.group) (sym is))
  own_group c (Tested t q p test at two kept is) = (t, ap (λ (d : Conjunct). d.group) (sym is))
  own_group c (Failing x f first second before fails is) = (x.thread, ap (λ (d : Conjunct). d.group) (sym is))

  -- the needed tests
  pub in_needs : (t : ℕ) (q : Walk) (p : Two Event) (test : Node) → slice_get paths.threads t ≡ Some q → Contains (twos q.events) p
      → kept_test buffered bound symbolic nodes t p ≡ Some test → Contains (own_needs buffered bound paths symbolic nodes) test
  in_needs t q p test at two is =
      in_each (thread_tests buffered bound symbolic nodes) t q test paths.threads at
      (in_flat_map (two_tests buffered bound symbolic nodes t) p test (twos q.events) two (in_option (kept_test buffered bound symbolic nodes t p) test is))

  -- each event belongs to its thread
  pub event_of : (x : Placed Event) → Contains events x → HasEvent paths x.thread x.it
  event_of x there =
      let o = of_all_from (λ (q : Walk). q.events) 0 paths.threads x there in
      let place : o.place ≡ x.thread = omega (arith, o.thread) in
      (o.owner, subst (λ k. slice_get paths.threads k ≡ Some o.owner) place o.at, o.among)

  -- in a world
  module _ (w : World) (up : (barred : Bool) → bound true barred ≡ true) (whole : AreWhole paths) (executed : IsExecutedBy paths symbolic)
      (are : AreTerms nodes) (needed : All (Contains nodes) (own_needs buffered bound paths symbolic nodes)) where
    abbrev At : ℕ → Event → ℕ
    At t x = place_of paths w t x.step

    abbrev IsKept : ℕ → Two Event → Bool
    IsKept t p = is_kept buffered bound paths symbolic nodes w t p.first p.second

    -- two events of a thread
    pub record Owned (t : ℕ) (q : Walk) (p : Two Event) : Type 0 where
      pub first : HasEvent paths t p.first
      pub second : HasEvent paths t p.second
      pub rise : p.first.step < p.second.step
      pub told : Told nodes w (IsKept t p) (is_always_kept buffered bound symbolic nodes t p.first p.second) (kept_test buffered bound symbolic nodes t p)

    owned : (t : ℕ) (q : Walk) (p : Two Event) → slice_get paths.threads t ≡ Some q → Contains (twos q.events) p → Owned t q p
    owned t q p at two =
        let places = two_places q.events p two in
        let first : HasEvent paths t p.first = (q, at, at_in q.events places.low p.first places.first) in
        let second : HasEvent paths t p.second = (q, at, at_in q.events places.high p.second places.second) in
        record {
          first = first;
          second = second;
          rise = whole.rise t places.low places.high q p.first p.second at places.first places.second places.rise;
          told = two_told buffered bound symbolic t nodes w paths are up p (have_cells buffered bound symbolic t paths executed p.first p.second first second);
        }

    -- the meaning of the conjuncts
    always_says : (t : ℕ) (p : Two Event) → body_at nodes w (always_of t p).body ≡ true → At t p.first < At t p.second
    always_says t p holds =
        let o = some_holds nodes w (Own t) (in_order events t p ∷ []) holds in
        step_before nodes w paths t p.first.step t p.second.step
        (ap (literal_at nodes w) (of_one o.0 (in_order events t p) o.1) ∙ o.2)

    tested_says : (t : ℕ) (p : Two Event) (test : Node) → body_at nodes w (tested_of t p test).body ≡ true → passes_at nodes w (id_of nodes test) ≡ true
        → At t p.first < At t p.second
    tested_says t p test holds passes =
        let l = fails (id_of nodes test) in
        let o = some_holds nodes w (Own t) (l ∷ in_order events t p ∷ []) holds in
        elim (of_cons o.0 l (in_order events t p ∷ []) o.1) [
          | inl same ↦
              absurd (false≢true (sym (unwanted_is (passes_at nodes w (id_of nodes test)) (ap (literal_at nodes w) same ∙ o.2)) ∙ passes))
          | inr rest ↦ step_before nodes w paths t p.first.step t p.second.step (ap (literal_at nodes w) (of_one o.0 (in_order events t p) rest) ∙ o.2)
        ]

    failing_says : (x f : Placed Event) → body_at nodes w (before_failing events x f).body ≡ true → IsBefore paths w x.thread x.it.step f.thread f.it.step
    failing_says x f holds =
        let l = comes_before events x.thread x.it.step f.thread f.it.step in
        let o = some_holds nodes w (Own x.thread) (l ∷ []) holds in
        step_before nodes w paths x.thread x.it.step f.thread f.it.step (ap (literal_at nodes w) (of_one o.0 l o.1) ∙ o.2)

    module _ (t : ℕ) where
      -- if all conjuncts are true, the rule is met
      module _ (h : HoldsIn nodes w formula (Own t)) where
        two_kept : (q : Walk) (p : Two Event) → slice_get paths.threads t ≡ Some q → Contains (twos q.events) p → IsKept t p ≡ true
            → At t p.first < At t p.second
        two_kept q p at two kept = elim (cases_Bool (is_always_kept buffered bound symbolic nodes t p.first p.second)) [
          | inl always ↦ all_in_order (is_always_kept buffered bound symbolic nodes t) (At t) q.events
              (λ r among next. always_says t r (h (always_of t r) (in_always t q r at among next) refl)) p two always
          | inr unsure ↦
              (let o = owned t q p at two in
              let test = o.told.others kept unsure in
              let there = All-contains (Contains nodes) (own_needs buffered bound paths symbolic nodes) test.0 needed (in_needs t q p test.0 at two test.1) in
              tested_says t p test.0 (h (tested_of t p test.0) (in_tested t q p test.0 at two test.1) refl)
              (sym (o.told.tested test.0 test.1 there) ∙ kept))
        ]

        kept_first : (x y : Event) → HasEvent paths t x → HasEvent paths t y → x.step < y.step
            → is_kept buffered bound paths symbolic nodes w t x y ≡ true → IsBefore paths w t x.step t y.step
        kept_first x y first second less kept =
            let q = first.0 in
            let same : second.0 ≡ q = same_Some second.0 q (sym second.1 ∙ first.1) in
            let i = in_at q.events x first.2 in
            let j = in_at q.events y (subst (λ (r : Walk). Contains r.events y) same second.2) in
            elim (cases_lt i.0 j.0) [
              | inl ordered ↦
                  (let p = two_at q.events i.0 j.0 x y i.1 j.1 ordered in
                  two_kept q (record { first = x; between = p.between; second = y }) first.1 p.among kept)
              | inr turned ↦ absurd (omega (arith, less, not_turned q i.0 j.0 first.1 i.1 j.1 turned))
            ]
          where
            not_turned : (q : Walk) (j k : ℕ) → slice_get paths.threads t ≡ Some q → slice_get q.events j ≡ Some x → slice_get q.events k ≡ Some y
                → k ≤ j → y.step ≤ x.step
            not_turned q j k at first second turned = elim (cases_order k j) [
              | inl same ↦ omega (arith, ap (λ (e : Event). e.step) (same_Some y x (sym second ∙ ap (slice_get q.events) same ∙ first)))
              | inr (inl less) ↦ omega (arith, whole.rise t k j q y x at second first less)
              | inr (inr more) ↦ absurd (omega (arith, more, turned))
            ]

        -- each event of a thread is among all events
        among_all : (u : ℕ) (x : Event) → HasEvent paths u x → Contains events (record { thread = u; it = x })
        among_all u x there = in_all_from (λ (q : Walk). q.events) 0 u u paths.threads there.0 x there.1 there.2 (omega arith)

        before_last : (u : ℕ) (x f : Event) → HasEvent paths t x → HasEvent paths u f → f.kind ≡ kind.Fail → x.kind ≢ kind.Fail
            → is_pending buffered bound paths symbolic nodes w x.kind ≡ false → IsBefore paths w t x.step u f.step
        before_last u x f first second failing other settled =
            let a : Placed Event = record { thread = t; it = x } in
            let b : Placed Event = record { thread = u; it = f } in
            let apart : is_failing x.kind ≡ false = false_from_ne_true (is_failing x.kind) (λ hit. other (only_failing x.kind hit)) in
            failing_says a b (h (before_failing events a b) (in_failing a b (among_all t x first) (among_all u f second)
            (and_from (is_settled buffered x.kind) (not (is_failing x.kind)) (ap not settled) (ap not apart)) (ap is_failing failing)) refl)

        pub meets : OwnRule buffered bound paths symbolic nodes w t
        meets = record { own = kept_first; last = before_last }

      -- if the rule is met, all conjuncts are true
      module _ (r : OwnRule buffered bound paths symbolic nodes w t) where
        two_holds : (u : ℕ) (q : Walk) (p : Two Event) → Own u ≡ Own t → Owned u q p → IsKept u p ≡ true
            → literal_at nodes w (in_order events u p) ≡ true
        two_holds u q p group o kept =
            let same : u ≡ t = cc in
            before_holds nodes w paths u p.first.step u p.second.step (subst (λ v. HasEvent paths v p.first → HasEvent paths v p.second
            → is_kept buffered bound paths symbolic nodes w v p.first p.second ≡ true → IsBefore paths w v p.first.step v p.second.step) (sym same)
            (λ first second keeps. r.own p.first p.second first second o.rise keeps) o.first o.second kept)

        holds : (c : Conjunct) → IsOwn c → c.group ≡ Own t → body_at nodes w c.body ≡ true
        holds c (Always u q p at two next is) group =
            let o = owned u q p at two in
            let always = (and_parts (is_always_kept buffered bound symbolic nodes u p.first p.second)
            (not (list_any (λ z. is_always_kept buffered bound symbolic nodes u p.first z && is_always_kept buffered bound symbolic nodes u z p.second)
            p.between)) next).0 in
            let l = in_order events u p in
            ap (λ (d : Conjunct). body_at nodes w d.body) (sym is)
            ∙ one_holds nodes w (Own u) l (l ∷ []) (in_front l [])
            (two_holds u q p (ap (λ (d : Conjunct). d.group) is ∙ group) o (o.told.always_kept always))
        holds c (Tested u q p test at two kept is) group =
            let o = owned u q p at two in
            let l : Literal = in_order events u p in
            let m : Literal = fails (id_of nodes test) in
            let ls : List Literal = m ∷ l ∷ [] in
            let there = All-contains (Contains nodes) (own_needs buffered bound paths symbolic nodes) test needed (in_needs u q p test at two kept) in
            let own : Own u ≡ Own t = ap (λ (d : Conjunct). d.group) is ∙ group in
            ap (λ (d : Conjunct). body_at nodes w d.body) (sym is) ∙ elim (cases_Bool (passes_at nodes w (id_of nodes test))) [
              | inl passes ↦
                  one_holds nodes w (Own u) l ls (in_back l m (l ∷ []) (in_front l []))
                  (two_holds u q p own o (o.told.tested test kept there ∙ passes))
              | inr lost ↦ one_holds nodes w (Own u) m ls (in_front m (l ∷ [])) (is_unwanted (passes_at nodes w (id_of nodes test)) lost)
            ]
        holds c (Failing x f first second before failing is) group =
            let l = comes_before events x.thread x.it.step f.thread f.it.step in
            ap (λ (d : Conjunct). body_at nodes w d.body) (sym is)
            ∙ one_holds nodes w (Own x.thread) l (l ∷ []) (in_front l []) (before_holds nodes w paths x.thread x.it.step f.thread f.it.step
            (last x f first second before failing (ap (λ (d : Conjunct). d.group) is ∙ group)))
          where
            last : (x f : Placed Event) → Contains events x → Contains events f → is_before_failing buffered x ≡ true → is_failing f.it.kind ≡ true
                → Own x.thread ≡ Own t → IsBefore paths w x.thread x.it.step f.thread f.it.step
            last x f first second before failing group =
                let same : x.thread ≡ t = cc in
                let parts = and_parts (is_settled buffered x.it.kind) (not (is_failing x.it.kind)) before in
                let apart : is_failing x.it.kind ≡ false = not-true (is_failing x.it.kind) parts.1 in
                subst (λ v. IsBefore paths w v x.it.step f.thread f.it.step) (sym same)
                (r.last f.thread x.it f.it (subst (λ v. HasEvent paths v x.it) same (event_of x first)) (event_of f second)
                (only_failing f.it.kind failing) (λ e. false≢true (sym apart ∙ ap is_failing e))
                (not-true (is_pending buffered bound paths symbolic nodes w x.it.kind) parts.0))

        pub back : HoldsIn nodes w formula (Own t)
        back c there group = holds c (of_formula c there) group

    pub exact : (t : ℕ) → IsExactly nodes w formula (Own t) (OwnRule buffered bound paths symbolic nodes w t)
    exact t = record { to = meets t; back = back t }
