-- The conjuncts of a deadlock are true exactly if its rule is met.
use Rattle.std.proofs.Common.{◌≡◌, ◌∙◌, ℕ, Bool, true, false, not, ◌&&◌, ◌==◌, nat_eq, ◌⊎◌, List, [], ◌∷◌, map, Option, Some, None, inl, inr}
use Rattle.std.proofs.Common.{refl, sym, ap, eqb-true, eq-eqb, if◌then◌else◌, is_none}
use Rattle.std.specs.Prelude.{slice_get, option_to_list}
use Rattle.std.specs.List.{Contains, list_any}
use Rattle.std.specs.Option.{option_eq}
use Rattle.std.proofs.lemmas.Bool.{false≢true, and_parts, and_from, or_cases, or_left, not-true, not_from_false, cases_Bool}
use Rattle.path_walk.specs.Paths.{Walk, Paths}
use Rattle.path_walk.specs.declared.event.Blocked.{Blocked}
use Rattle.path_walk.specs.declared.event.Blocked.TheVariants.{Lock, Wake, Join}
use Rattle.path_walk.specs.declared.event.Event.{Event}
use Rattle.path_walk.specs.declared.event.Sleep.{Sleep}
use Rattle.order_formula.specs.sym_terms.declared.node.Node.{Node}
use Rattle.order_events.specs.sym_exec.Executed.{Symbolic}
use Rattle.order_formula.specs.declared.formula.Conjunct.{Conjunct}
use Rattle.order_formula.specs.declared.group.Group.TheVariants.{Stuck}
use Rattle.order_formula.specs.declared.literal.Literal.{Literal}
use Rattle.order_formula.specs.Groups.{HoldsIn, IsExactly}
use Rattle.order_formula.specs.Truth.{body_at, case_at, literal_at}
use Rattle.order_formula.specs.Worlds.{World, is_ended}
use Rattle.order_events.specs.lawful_order.Events.{Placed, all_events, all_sleeps, ender_of}
use Rattle.order_events.specs.lawful_order.Lawful.{IsWorldOf}
use Rattle.order_events.specs.lawful_order.Stuck.{IsHeld, SleepsOn, RunsOn, CannotGoOn, StuckRule}
use Rattle.condition_order.specs.declared.wait.Ender.{Ender}
use Rattle.condition_order.specs.Conditions.{enders}
use Rattle.condition_order.proofs.Among.{ender_among}
use Rattle.sync_order.specs.Children.{is_child, is_exit}
use Rattle.sync_order.specs.Stuck.{is_open, cases_if, is_held, not_ended_literal, unended, sleeping, sleeps_on}
use Rattle.sync_order.specs.Stuck.{has_exited, cannot_go_on, stuck_at, stuck_formula}
use Rattle.sync_order.proofs.Links.{exit_is, is_exit_of, child_is, is_child_of}
use Rattle.sync_order.proofs.Groups.{same_stuck}
use Rattle.order_events.proofs.Lists.{at_in, in_at, in_map, of_map, any_in, of_any}
use Rattle.order_events.proofs.Parts.{in_option, of_option, in_if, of_if, in_each, in_of_each, all_of, all_from, unwanted_is, is_unwanted}

none_is : {X : Type 0} (o : Option X) → is_none o ≡ true → o ≡ None
none_is None is = refl
none_is (Some x) is = absurd (false≢true is)

is_none_of : {X : Type 0} (o : Option X) → o ≡ None → is_none o ≡ true
is_none_of o is = ap is_none is

-- a sleep that no event ends
ended_is : (o : Option ℕ) (g : ℕ) → o ≡ Some g → option_eq nat_eq o (Some g) ≡ true
ended_is o g is = ap (λ a. option_eq nat_eq a (Some g)) is ∙ eq-eqb g g refl

unended_is : (o : Option ℕ) (g : ℕ) → o ≡ None → option_eq nat_eq o (Some g) ≡ false
unended_is o g is = ap (λ a. option_eq nat_eq a (Some g)) is

ender_cases : (o : Option ℕ) → (o ≡ None) ⊎ ((g : ℕ) × (o ≡ Some g))
ender_cases None = inl refl
ender_cases (Some g) = inr (g, refl)

module _ (paths : Paths) where
  -- no event ends the sleep of a thread's step
  abbrev asleep : (t step : ℕ) → List Literal
  asleep t k = sleeps_on (all_events paths) (all_sleeps paths) t k

  module _ (w : World) where
    -- a mutex that is held at the end
    held_is : (m : ℕ) → is_held paths.threads m ≡ true → IsHeld paths w m
    held_is m is =
        let q = of_any (λ (r : Walk). list_any (is_open m) r.regions) paths.threads is in
        let at = in_at paths.threads q.0 q.1 in
        let r = of_any (is_open m) q.0.regions q.2 in
        let both = and_parts (r.0.mutex == m) (is_none r.0.to) r.2 in
        record {
          thread = at.0;
          region = r.0;
          there = (q.0, at.1, r.1);
          of = eqb-true r.0.mutex m both.0;
          lasts = none_is r.0.to both.1;
        }

    is_held_of : (m : ℕ) → IsHeld paths w m → is_held paths.threads m ≡ true
    is_held_of m h =
        any_in (λ (r : Walk). list_any (is_open m) r.regions) h.there.0 paths.threads (at_in paths.threads h.thread h.there.0 h.there.1)
        (any_in (is_open m) h.region h.there.0.regions h.there.2
        (and_from (h.region.mutex == m) (is_none h.region.to) (eq-eqb h.region.mutex m h.of) (is_none_of h.region.to h.lasts)))

    -- a child that has exited
    runs_on : (t k : ℕ) (p : Walk) → slice_get paths.threads t ≡ Some p → has_exited paths.threads p k ≡ false → RunsOn paths w t k
    runs_on t k p parent none c x is has exits =
        false≢true (sym none
        ∙ any_in (λ (q : Walk). is_child p k q && list_any (λ (y : Event). is_exit y.kind) q.events) has.0 paths.threads (at_in paths.threads c has.0 has.1)
        (and_from (is_child p k has.0) (list_any (λ (y : Event). is_exit y.kind) has.0.events) (is_child_of paths t k c p has.0 parent has.1 is)
        (any_in (λ (y : Event). is_exit y.kind) x has.0.events has.2 (is_exit_of x.kind exits))))

    not_exited : (t k : ℕ) (p : Walk) → slice_get paths.threads t ≡ Some p → RunsOn paths w t k → has_exited paths.threads p k ≡ false
    not_exited t k p parent runs = elim (cases_Bool (has_exited paths.threads p k)) [
      | inl is ↦
          let q = of_any (λ (r : Walk). is_child p k r && list_any (λ (y : Event). is_exit y.kind) r.events) paths.threads is in
          let at = in_at paths.threads q.0 q.1 in
          let both = and_parts (is_child p k q.0) (list_any (λ (y : Event). is_exit y.kind) q.0.events) q.2 in
          let x = of_any (λ (y : Event). is_exit y.kind) q.0.events both.1 in
          absurd (runs at.0 x.0 (child_is paths t k at.0 p q.0 parent at.1 both.0) (q.0, at.1, x.1) (exit_is x.0.kind x.2))
      | inr not_so ↦ not_so
    ]

  pub stuck_group : (z : Conjunct) → Contains (stuck_formula paths) z → (t : ℕ) × (z.group ≡ Stuck t)
  stuck_group z i =
      let o = in_of_each (λ t q. map (stuck_at paths t q) (option_to_list q.blocked)) paths.threads z i in
      let b = of_map (stuck_at paths o.place o.element) z (option_to_list o.element.blocked) o.there in
      (o.place, ap (λ (y : Conjunct). y.group) (sym b.2))

  module _ (nodes : List Node) (w : World) where
    -- constant cases
    cases_true : (b : Bool) → b ≡ true → list_any (case_at nodes w) (cases_if b) ≡ true
    cases_true true is = refl
    cases_true false is = is

    true_cases : (b : Bool) → list_any (case_at nodes w) (cases_if b) ≡ true → b ≡ true
    true_cases true is = refl
    true_cases false is = is

    literal_in : (t k s : ℕ) (x : Placed Sleep) (g : Ender) → slice_get (all_sleeps paths) s ≡ Some x → x.thread ≡ t → x.it.step ≡ k
        → Contains (enders (all_events paths) x.it.condition) g → Contains (asleep t k) (not_ended_literal s g)
    literal_in t k s x g sleep thread step there =
        in_each (sleeping (all_events paths) t k) s x (not_ended_literal s g) (all_sleeps paths) sleep
        (in_if (x.thread == t && x.it.step == k) (not_ended_literal s g) (unended (all_events paths) s x.it.condition)
        (and_from (x.thread == t) (x.it.step == k) (eq-eqb x.thread t thread) (eq-eqb x.it.step k step))
        (in_map (not_ended_literal s) g (enders (all_events paths) x.it.condition) there))

    sleeps_rule : (symbolic : Symbolic) (t k : ℕ) → IsWorldOf paths symbolic w → case_at nodes w (asleep t k) ≡ true → SleepsOn paths w t k
    sleeps_rule symbolic t k world all s x sleep thread step = elim (ender_cases (ender_of w s)) [
      | inl none ↦ none
      | inr some ↦
          let g = ender_among paths symbolic w world s some.0 x.it.condition x (record { is = sleep; condition = refl }) some.1 in
          let by = some.1 ∙ ap (λ n. Some n) (sym g.2) in
          absurd (false≢true (sym (unwanted_is (is_ended w s g.0.event)
          (all_of (literal_at nodes w) (not_ended_literal s g.0) (asleep t k) all (literal_in t k s x g.0 sleep thread step g.1)))
          ∙ ended_is (ender_of w s) g.0.event by))
    ]

    rule_sleeps : (t k : ℕ) → SleepsOn paths w t k → case_at nodes w (asleep t k) ≡ true
    rule_sleeps t k sleeps = all_from (literal_at nodes w) (asleep t k) (λ l i.
        let s = in_of_each (sleeping (all_events paths) t k) (all_sleeps paths) l i in
        let c = s.element.it.condition in
        let own = of_if (s.element.thread == t && s.element.it.step == k) l (unended (all_events paths) s.place c) s.there in
        let both = and_parts (s.element.thread == t) (s.element.it.step == k) own.0 in
        let g = of_map (not_ended_literal s.place) l (enders (all_events paths) c) own.1 in
        ap (literal_at nodes w) (sym g.2)
        ∙ is_unwanted (is_ended w s.place g.0.event)
        (unended_is (ender_of w s.place) g.0.event
        (sleeps s.place s.element s.at (eqb-true s.element.thread t both.0) (eqb-true s.element.it.step k both.1))))

    -- the ways in which a thread may be blocked
    module _ (t : ℕ) (q : Walk) (at : slice_get paths.threads t ≡ Some q) where
      rule_at : (symbolic : Symbolic) (b : Blocked) → IsWorldOf paths symbolic w → list_any (case_at nodes w) (cannot_go_on paths t q b) ≡ true
          → CannotGoOn paths w t b
      rule_at symbolic (Lock m) world any = held_is w m (true_cases (is_held paths.threads m) any)
      rule_at symbolic (Wake c m k) world any = by (is_held paths.threads m) refl any
        where
          by : (b : Bool) → is_held paths.threads m ≡ b → list_any (case_at nodes w) (if b then [] ∷ [] else asleep t k ∷ []) ≡ true
              → IsHeld paths w m ⊎ SleepsOn paths w t k
          by true held any = inl (held_is w m held)
          by false free any = inr (sleeps_rule symbolic t k world (elim (or_cases (case_at nodes w (asleep t k)) false any) [
            | inl is ↦ is
            | inr not_so ↦ absurd (false≢true not_so)
          ]))
      rule_at symbolic (Join k) world any =
          runs_on w t k q at (not-true (has_exited paths.threads q k) (true_cases (not (has_exited paths.threads q k)) any))

      holds_at : (b : Blocked) → CannotGoOn paths w t b → list_any (case_at nodes w) (cannot_go_on paths t q b) ≡ true
      holds_at (Lock m) held = cases_true (is_held paths.threads m) (is_held_of w m held)
      holds_at (Wake c m k) rule = by (is_held paths.threads m) refl
        where
          by : (b : Bool) → is_held paths.threads m ≡ b → list_any (case_at nodes w) (if b then [] ∷ [] else asleep t k ∷ []) ≡ true
          by true held = refl
          by false free = elim rule [
            | inl held ↦ absurd (false≢true (sym free ∙ is_held_of w m held))
            | inr sleeps ↦ or_left (case_at nodes w (asleep t k)) false (rule_sleeps t k sleeps)
          ]
      holds_at (Join k) runs = cases_true (not (has_exited paths.threads q k)) (not_from_false (has_exited paths.threads q k) (not_exited w t k q at runs))

    module _ (t : ℕ) where
      blocked_in : (q : Walk) (b : Blocked) → slice_get paths.threads t ≡ Some q → q.blocked ≡ Some b → Contains (stuck_formula paths) (stuck_at paths t q b)
      blocked_in q b at is =
          in_each (λ u r. map (stuck_at paths u r) (option_to_list r.blocked)) t q (stuck_at paths t q b) paths.threads at
          (in_map (stuck_at paths t q) b (option_to_list q.blocked) (in_option q.blocked b is))

      holds_by : StuckRule paths w t → HoldsIn nodes w (stuck_formula paths) (Stuck t)
      holds_by rule z i of =
          let o = in_of_each (λ u r. map (stuck_at paths u r) (option_to_list r.blocked)) paths.threads z i in
          let b = of_map (stuck_at paths o.place o.element) z (option_to_list o.element.blocked) o.there in
          let here : o.place ≡ t = same_stuck o.place t (ap (λ (y : Conjunct). y.group) b.2 ∙ of) in
          let at : slice_get paths.threads t ≡ Some o.element = ap (slice_get paths.threads) (sym here) ∙ o.at in
          ap (λ (y : Conjunct). body_at nodes w y.body) (sym b.2 ∙ ap (λ u. stuck_at paths u o.element b.0) here)
          ∙ holds_at t o.element at b.0 (rule.stuck o.element b.0 at (of_option o.element.blocked b.0 b.1))

      pub stuck_exactly : (symbolic : Symbolic) → IsWorldOf paths symbolic w
          → IsExactly nodes w (stuck_formula paths) (Stuck t) (StuckRule paths w t)
      stuck_exactly symbolic world = record {
        to = λ all. record {
          stuck = λ q b at is. rule_at t q at symbolic b world (all (stuck_at paths t q b) (blocked_in q b at is) refl);
        };
        back = holds_by;
      }
