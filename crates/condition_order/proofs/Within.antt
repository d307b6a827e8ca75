-- All events and sleeps of the conjuncts exist.
use Rattle.std.proofs.Common.{◌≡◌, inl, inr, ℕ, ◌<◌, [], length, Option, Some, None, refl, sym, subst, arith}
use Rattle.std.specs.Prelude.{slice_get}
use Rattle.std.specs.List.{All, Contains}
use Rattle.std.specs.Option.{option_map}
use Rattle.std.proofs.lemmas.Option.{none-some, same_Some, slice_get_within}
use Rattle.path_walk.specs.Paths.{Walk, Paths}
use Rattle.path_walk.specs.declared.event.Sleep.{Sleep}
use Rattle.order_formula.specs.declared.formula.Body.{Body}
use Rattle.order_formula.specs.declared.formula.Body.TheVariants as body
use Rattle.order_formula.specs.Orders.{Order, AtomIsIn, BodyIsIn, ConjunctIsIn}
use Rattle.order_formula.specs.Worlds.{World}
use Rattle.order_events.specs.lawful_order.Events.{Placed, Has, all_events, all_sleeps, number_of}
use Rattle.order_events.specs.lawful_order.Whole.{AreWhole}
use Rattle.order_events.proofs.Parts.{each_in}
use Rattle.order_events.proofs.Lists.{at_in, of_flat_map}
use Rattle.order_events.proofs.Numbers.{of_all_from, has_number}
use Rattle.condition_order.specs.declared.wait.Wait.{Wait}
use Rattle.condition_order.specs.declared.wait.Ender.{Ender}
use Rattle.condition_order.specs.Conditions.{enders, all_waits, sleeps_on, formula_of, condition_formula}
use Rattle.condition_order.proofs.Among.{ender_is, wait_is, sleep_is}
use Rattle.condition_order.proofs.Atoms.{Atoms, asks}

-- some world, the same for all
nowhere : World
nowhere = record { positions = []; loads = []; enders = [] }

module _ (paths : Paths) where
  pub ender_within : (c : ℕ) (g : Ender) → Contains (enders (all_events paths) c) g → g.event < length (all_events paths)
  ender_within c g i = elim (ender_is paths nowhere c g i) [
    | inl signal ↦ slice_get_within (all_events paths) g.event signal.0.event signal.0.is
    | inr broadcast ↦ slice_get_within (all_events paths) g.event broadcast.0.event broadcast.0.is
  ]

  sleep_within : (c r : ℕ) → Contains (sleeps_on (all_waits paths) c) r → r < length (all_sleeps paths)
  sleep_within c r i = let s = sleep_is paths nowhere r c i in slice_get_within (all_sleeps paths) r s.0 s.1.is

  -- the sleep with a number belongs to its thread
  has_sleep : (s : ℕ) (x : Placed Sleep) → slice_get (all_sleeps paths) s ≡ Some x → Has paths x.thread (λ q. q.sleeps) x.it
  has_sleep s x at =
      let o = of_all_from (λ (q : Walk). q.sleeps) 0 paths.threads x (at_in (all_sleeps paths) s x at) in
      let same : o.place ≡ x.thread = omega (arith, o.thread) in
      (o.owner, subst (λ t. slice_get paths.threads t ≡ Some o.owner) same o.at, o.among)

  record IsWithin (x : Wait) : Type 0 where
    sleep : x.sleep < length (all_sleeps paths)
    begins : x.begins < length (all_events paths)
    wakes : (k : ℕ) → x.wakes ≡ Some k → k < length (all_events paths)

  wake_within : (whole : AreWhole paths) (s : ℕ) (x : Placed Sleep) → slice_get (all_sleeps paths) s ≡ Some x → (o : Option ℕ) → x.it.wake ≡ o
      → (k : ℕ) → option_map (number_of paths x.thread) o ≡ Some k → k < length (all_events paths)
  wake_within whole s x at None is k e = absurd (none-some k e)
  wake_within whole s x at (Some j) is k e =
      subst (λ n. n < length (all_events paths)) (same_Some (number_of paths x.thread j) k e)
      (has_number paths x.thread j (whole.woken x.thread j x.it (has_sleep s x at) is))

  wait_within : AreWhole paths → (x : Wait) → Contains (all_waits paths) x → IsWithin x
  wait_within whole x i =
      let v = wait_is paths nowhere x i in
      let y = v.0.1 in
      subst IsWithin v.2 (record {
        sleep = slice_get_within (all_sleeps paths) v.0.0 y v.1;
        begins = has_number paths y.thread y.it.step (whole.slept y.thread y.it (has_sleep v.0.0 y v.1));
        wakes = wake_within whole v.0.0 y v.1 y.it.wake refl;
      })

is_in : (o : Order) (b : Body) → Atoms (AtomIsIn o) b → BodyIsIn o b
is_in o (body.Any cases) atoms = atoms
is_in o (body.Read r) none = absurd none

pub of_the_order : (paths : Paths) (o : Order) → AreWhole paths → o.events ≡ length (all_events paths) → o.sleeps ≡ length (all_sleeps paths)
    → All (ConjunctIsIn o) (condition_formula paths)
of_the_order paths o whole events sleeps = each_in (ConjunctIsIn o) (condition_formula paths) (λ c i.
    let f = of_flat_map (formula_of (all_events paths) (all_waits paths)) c (all_waits paths) i in
    let x = f.0 in
    let in_events = λ (n : ℕ) (lt : n < length (all_events paths)). subst (λ m. n < m) (sym events) lt in
    let in_sleeps = λ (n : ℕ) (lt : n < length (all_sleeps paths)). subst (λ m. n < m) (sym sleeps) lt in
    let ender = λ (g : Ender) (j : Contains (enders (all_events paths) x.condition) g). in_events g.event (ender_within paths x.condition g j) in
    let wait = wait_within paths whole x f.1 in
    is_in o c.body (asks (AtomIsIn o) x (enders (all_events paths) x.condition) (sleeps_on (all_waits paths) x.condition) (record {
      own = λ g j. (in_sleeps x.sleep wait.sleep, ender g j);
      other = λ r g i j. (in_sleeps r (sleep_within paths x.condition r i), ender g j);
      begins = λ g j. (in_events x.begins wait.begins, ender g j);
      wakes = λ k g e j. (ender g j, in_events k (wait.wakes k e));
      between = λ g h i j. (ender g i, ender h j);
    }) c f.2))
