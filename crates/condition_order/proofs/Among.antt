-- The enders of a condition, and the sleeps on it.
use Rattle.std.proofs.Common.{◌≡◌, ◌∙◌, ◌⊎◌, inl, inr, ℕ, ◌≤◌, Bool, true, false, cond, List, Option, Some, None, length, refl, sym, ap, subst, arith}
use Rattle.std.specs.Prelude.{◌==◌, slice_get}
use Rattle.std.specs.List.{Contains, enumerate_from, filter}
use Rattle.std.proofs.lemmas.Bool.{false≢true, eqb-true, eq-eqb, cases_lt}
use Rattle.std.proofs.lemmas.List.{get_or_past}
use Rattle.std.proofs.lemmas.Option.{none-some, same_Some, slice_get_cases}
use Rattle.path_walk.specs.Paths.{Paths}
use Rattle.path_walk.specs.declared.event.Event.{Event}
use Rattle.path_walk.specs.declared.event.EventKind.{EventKind}
use Rattle.path_walk.specs.declared.event.EventKind.TheVariants as kind
use Rattle.path_walk.specs.declared.event.Sleep.{Sleep}
use Rattle.order_formula.specs.Worlds.{World}
use Rattle.order_events.specs.sym_exec.Executed.{Symbolic}
use Rattle.order_events.specs.lawful_order.Events.{Placed, all_events, all_sleeps, ender_of}
use Rattle.order_events.specs.lawful_order.Conditions.{is_signal, is_broadcast, IsSleep, IsSignal, IsBroadcast}
use Rattle.order_events.specs.lawful_order.Lawful.{IsWorldOf}
use Rattle.condition_order.specs.declared.wait.Wait.{Wait}
use Rattle.condition_order.specs.declared.wait.Ender.{Ender}
use Rattle.condition_order.specs.Conditions.{ender_by, enders, wait_of, all_waits, sleeps_on}
use Rattle.order_events.proofs.Lists.{in_map, of_map, in_filter, of_filter, in_filter_map, of_filter_map, in_enumerated, of_enumerated}

-- no event is both a signal and a broadcast, or of two conditions
one_kind : (c : ℕ) (k : EventKind) → is_broadcast c k ≡ true → is_signal c k ≡ false
one_kind c (kind.Broadcast d) is = refl
one_kind c _ is = absurd (false≢true is)

same_signal : (c d : ℕ) (k : EventKind) → is_signal c k ≡ true → is_signal d k ≡ true → c ≡ d
same_signal c d (kind.Signal e) i j = sym (eqb-true e c i) ∙ eqb-true e d j
same_signal c d _ i j = absurd (false≢true i)

no_broadcast : (c d : ℕ) (k : EventKind) → is_signal c k ≡ true → is_broadcast d k ≡ true → ⊥
no_broadcast c d (kind.Signal e) i j = false≢true j
no_broadcast c d _ i j = absurd (false≢true i)

-- a place without an element isn't below the length
past : {X : Type 0} (xs : List X) (k : ℕ) → slice_get xs k ≡ None → length xs ≤ k
past xs k none = elim (cases_lt k (length xs)) [
  | inl within ↦ elim (slice_get_cases xs k).1 [
    | inl some ↦ absurd (none-some some.0 (sym none ∙ some.2))
    | inr end ↦ end.0
  ]
  | inr over ↦ over
]

module _ (paths : Paths) (w : World) where
  -- an ender is a signal or a broadcast of the condition
  abbrev pub IsEnder : ℕ → Ender → Type 0
  IsEnder c e = (IsSignal paths w e.event c × (e.all ≡ false)) ⊎ (IsBroadcast paths w e.event c × (e.all ≡ true))

  pub signal_among : (g c : ℕ) → IsSignal paths w g c → Contains (enders (all_events paths) c) (record { event = g; all = false })
  signal_among g c i =
      in_filter_map (ender_by c) (g, i.event) (record { event = g; all = false }) (enumerate_from 0 (all_events paths))
      (in_enumerated g i.event (all_events paths) i.is) (rw i.signals)

  pub broadcast_among : (g c : ℕ) → IsBroadcast paths w g c → Contains (enders (all_events paths) c) (record { event = g; all = true })
  broadcast_among g c i =
      in_filter_map (ender_by c) (g, i.event) (record { event = g; all = true }) (enumerate_from 0 (all_events paths))
      (in_enumerated g i.event (all_events paths) i.is) (rw (one_kind c i.event.it.kind i.broadcasts, i.broadcasts))

  pub ender_is : (c : ℕ) (e : Ender) → Contains (enders (all_events paths) c) e → IsEnder c e
  ender_is c e i =
      let o = of_filter_map (ender_by c) e (enumerate_from 0 (all_events paths)) i in
      by o.0.0 o.0.1 (of_enumerated o.0 (all_events paths) o.1) (is_signal c o.0.1.it.kind) (is_broadcast c o.0.1.it.kind) refl refl o.2
    where
      by : (g : ℕ) (x : Placed Event) → slice_get (all_events paths) g ≡ Some x → (a b : Bool) → is_signal c x.it.kind ≡ a → is_broadcast c x.it.kind ≡ b
          → cond a (Some (record { event = g; all = false })) (cond b (Some (record { event = g; all = true })) None) ≡ Some e → IsEnder c e
      by g x at true b s t is = subst (IsEnder c) (same_Some (record { event = g; all = false }) e is) (inl (record { event = x; is = at; signals = s }, refl))
      by g x at false true s t is = subst (IsEnder c) (same_Some (record { event = g; all = true }) e is) (inr (record { event = x; is = at; broadcasts = t }, refl))
      by g x at false false s t is = absurd (none-some e is)

  -- the waits are those of the sleeps
  pub wait_among : (s : ℕ) (x : Placed Sleep) → slice_get (all_sleeps paths) s ≡ Some x → Contains (all_waits paths) (wait_of (all_events paths) (s, x))
  wait_among s x is = in_map (wait_of (all_events paths)) (s, x) (enumerate_from 0 (all_sleeps paths)) (in_enumerated s x (all_sleeps paths) is)

  pub wait_is : (y : Wait) → Contains (all_waits paths) y → (e : ℕ × Placed Sleep) × (slice_get (all_sleeps paths) e.0 ≡ Some e.1) × (wait_of (all_events paths) e ≡ y)
  wait_is y i =
      let o = of_map (wait_of (all_events paths)) y (enumerate_from 0 (all_sleeps paths)) i in
      (o.0, of_enumerated o.0 (all_sleeps paths) o.1, o.2)

  pub sleep_among : (s c : ℕ) (x : Placed Sleep) → IsSleep paths w s x c → Contains (sleeps_on (all_waits paths) c) s
  sleep_among s c x i =
      let on = λ (y : Wait). y.condition == c in
      in_map (λ (y : Wait). y.sleep) (wait_of (all_events paths) (s, x)) (filter on (all_waits paths))
      (in_filter on (wait_of (all_events paths) (s, x)) (all_waits paths) (wait_among s x i.is) (eq-eqb x.it.condition c i.condition))

  pub sleep_is : (s c : ℕ) → Contains (sleeps_on (all_waits paths) c) s → (x : Placed Sleep) × IsSleep paths w s x c
  sleep_is s c i =
      let on = λ (y : Wait). y.condition == c in
      let o = of_map (λ (y : Wait). y.sleep) s (filter on (all_waits paths)) i in
      let f = of_filter on o.0 (all_waits paths) o.1 in
      let v = wait_is o.0 f.0 in (
        v.0.1,
        record {
          is = subst (λ k. slice_get (all_sleeps paths) k ≡ Some v.0.1) (ap (λ (y : Wait). y.sleep) v.2 ∙ o.2) v.1;
          condition = ap (λ (y : Wait). y.condition) v.2 ∙ eqb-true o.0.condition c f.1;
        },
      )

-- the ender of a sleep is among those of its condition, and a signal ends a sleep on its own
-- condition
module _ (paths : Paths) (symbolic : Symbolic) (w : World) (of : IsWorldOf paths symbolic w) where
  pub ender_among : (s g c : ℕ) (x : Placed Sleep) → IsSleep paths w s x c → ender_of w s ≡ Some g
      → (e : Ender) × Contains (enders (all_events paths) c) e × (e.event ≡ g)
  ender_among s g c x i ends = elim (of.enders s g c x i ends) [
    | inl signal ↦ (record { event = g; all = false }, signal_among paths w g c signal, refl)
    | inr broadcast ↦ (record { event = g; all = true }, broadcast_among paths w g c broadcast, refl)
  ]

  pub sleep_at : (s g : ℕ) → ender_of w s ≡ Some g → (x : Placed Sleep) × (slice_get (all_sleeps paths) s ≡ Some x)
  sleep_at s g ends = by (slice_get (all_sleeps paths) s) refl
    where
      by : (o : Option (Placed Sleep)) → slice_get (all_sleeps paths) s ≡ o → (x : Placed Sleep) × (slice_get (all_sleeps paths) s ≡ Some x)
      by (Some x) is = (x, is)
      by None is = absurd (none-some g (sym (get_or_past w.enders s None (omega (arith, of.sleeps, past (all_sleeps paths) s is))) ∙ ends))

  pub sleep_of : (s g c : ℕ) → IsSignal paths w g c → ender_of w s ≡ Some g → (x : Placed Sleep) × IsSleep paths w s x c
  sleep_of s g c signal ends =
      let x = sleep_at s g ends in
      let d = x.0.it.condition in (
        x.0,
        record {
          is = x.1;
          condition = elim (of.enders s g d x.0 (record { is = x.1; condition = refl }) ends) [
            | inl other ↦ same_signal d c signal.event.it.kind
                (subst (λ (e : Placed Event). is_signal d e.it.kind ≡ true) (same_Some other.event signal.event (sym other.is ∙ signal.is)) other.signals) signal.signals
            | inr other ↦ absurd (no_broadcast c d signal.event.it.kind signal.signals
                (subst (λ (e : Placed Event). is_broadcast d e.it.kind ≡ true) (same_Some other.event signal.event (sym other.is ∙ signal.is)) other.broadcasts))
          ];
        },
      )
