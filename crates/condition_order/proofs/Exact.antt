-- The conjuncts of a condition are true exactly if its waits end by its rule.
use Rattle.std.proofs.Common.{◌≡◌, ◌∙◌, inl, inr, ℕ, ◌<◌, Bool, true, false, cond, List, [], ◌∷◌, Option, Some, None, refl, sym, ap, subst, arith}
use Rattle.std.specs.Prelude.{slice_get}
use Rattle.std.specs.List.{Contains}
use Rattle.std.specs.Option.{option_map}
use Rattle.std.proofs.lemmas.Bool.{false≢true, cases_order}
use Rattle.std.proofs.lemmas.Option.{none-some, same_Some}
use Rattle.path_walk.specs.Paths.{Paths}
use Rattle.path_walk.specs.declared.event.Sleep.{Sleep}
use Rattle.order_formula.specs.sym_terms.declared.node.Node.{Node}
use Rattle.order_events.specs.sym_exec.Executed.{Symbolic}
use Rattle.order_formula.specs.declared.group.Group.TheVariants.{Condition}
use Rattle.order_formula.specs.Groups.{HoldsIn, IsExactly}
use Rattle.order_formula.specs.Worlds.{World, position}
use Rattle.order_events.specs.lawful_order.Events.{Placed, all_events, all_sleeps, number_of, ender_of}
use Rattle.order_events.specs.lawful_order.Conditions.{IsSleep, IsSignal, IsBroadcast, Waits, ConditionRule}
use Rattle.order_events.specs.lawful_order.Lawful.{IsWorldOf}
use Rattle.condition_order.specs.declared.wait.Wait.{Wait}
use Rattle.condition_order.specs.declared.wait.Ender.{Ender}
use Rattle.condition_order.specs.Conditions.{enders, wait_of, all_waits, sleeps_on, formula_of, condition_formula}
use Rattle.order_events.proofs.Parts.{of_one}
use Rattle.order_events.proofs.Lists.{in_front, in_flat_map, of_flat_map}
use Rattle.condition_order.proofs.Meets.{IsEndedBefore, EndsOne, IsWokenBefore, Meets, meets_to, meets_from}
use Rattle.condition_order.proofs.Among.{signal_among, broadcast_among, ender_is, wait_among, wait_is, sleep_among, ender_among, sleep_of}
use Rattle.condition_order.proofs.Groups.{is_about}

mapped : {A B : Type 0} (f : A → B) (o : Option A) (y : B) → option_map f o ≡ Some y → (x : A) × (o ≡ Some x) × (f x ≡ y)
mapped f None y e = absurd (none-some y e)
mapped f (Some x) y e = (x, refl, same_Some (f x) y e)

module _ (paths : Paths) (symbolic : Symbolic) (nodes : List Node) (w : World) (of : IsWorldOf paths symbolic w) where
  -- what the conjuncts of a sleep say
  abbrev Says : ℕ → Placed Sleep → Type 0
  Says s x = Meets nodes w (wait_of (all_events paths) (s, x)) (enders (all_events paths) x.it.condition) (sleeps_on (all_waits paths) x.it.condition)

  itself : (s : ℕ) (x : Placed Sleep) → slice_get (all_sleeps paths) s ≡ Some x → IsSleep paths w s x x.it.condition
  itself s x is = record { is = is; condition = refl }

  module _ (c : ℕ) (all : HoldsIn nodes w (condition_formula paths) (Condition c)) where
    says : (s : ℕ) (x : Placed Sleep) → IsSleep paths w s x c → Says s x
    says s x i =
        let y = wait_of (all_events paths) (s, x) in
        meets_to nodes w y (enders (all_events paths) x.it.condition) (sleeps_on (all_waits paths) x.it.condition) (λ z j.
        all z (in_flat_map (formula_of (all_events paths) (all_waits paths)) y z (all_waits paths) (wait_among paths w s x i.is) j)
        (is_about y (enders (all_events paths) x.it.condition) (sleeps_on (all_waits paths) x.it.condition) z j ∙ ap Condition i.condition))

    signals_here : (g d : ℕ) → d ≡ c → IsSignal paths w g c → Contains (enders (all_events paths) d) (record { event = g; all = false })
    signals_here g d same signal = signal_among paths w g d (subst (IsSignal paths w g) (sym same) signal)

    broadcasts_here : (g d : ℕ) → d ≡ c → IsBroadcast paths w g c → Contains (enders (all_events paths) d) (record { event = g; all = true })
    broadcasts_here g d same broadcast = broadcast_among paths w g d (subst (IsBroadcast paths w g) (sym same) broadcast)

    not_two : (s r g : ℕ) → s < r → IsSignal paths w g c → ender_of w s ≡ Some g → ender_of w r ≡ Some g → ⊥
    not_two s r g lt signal e f =
        let x = sleep_of paths symbolic w of s g c signal e in
        let y = sleep_of paths symbolic w of r g c signal f in
        let d = x.0.it.condition in
        (says s x.0 x.1).one (record { event = g; all = false }) r (signals_here g d x.1.condition signal) refl
        (sleep_among paths w r d y.0 (record { is = y.1.is; condition = y.1.condition ∙ sym x.1.condition })) lt e f

    pub rule_to : ConditionRule paths w c
    rule_to = record {
      ends = λ s g x i e.
          let f = ender_among paths symbolic w of s g x.it.condition x (itself s x i.is) e in
          subst (λ h. position w (number_of paths x.thread x.it.step) < position w h) f.2
          ((says s x i).begun f.0 f.1 (e ∙ ap (λ h. Some h) (sym f.2)));
      wakes = λ s k x i wake.
          let m = (says s x i).woken (number_of paths x.thread k) (ap (option_map (number_of paths x.thread)) wake) in
          (m.by.event, m.ends, m.before);
      one = λ s r g signal e f. elim (cases_order s r) [
        | inl same ↦ same
        | inr apart ↦ elim apart [
          | inl lt ↦ absurd (not_two s r g lt signal e f)
          | inr gt ↦ absurd (not_two r s g gt signal f e)
        ]
      ];
      some = λ s g x signal i waits.
          let e = (says s x i).some (record { event = g; all = false }) (signals_here g x.it.condition i.condition signal) waits.begun
          (λ b. waits.lasts b.by.event b.ends b.before) in
          (e.sleep, e.ends);
      each = λ s g x broadcast i waits.
          let e = (says s x i).some (record { event = g; all = true }) (broadcasts_here g x.it.condition i.condition broadcast) waits.begun
          (λ b. waits.lasts b.by.event b.ends b.before) in
          subst (λ r. ender_of w r ≡ Some g) (sym (of_one e.sleep s e.there)) e.ends;
    }

  module _ (s : ℕ) (x : Placed Sleep) (is : slice_get (all_sleeps paths) s ≡ Some x) (rule : ConditionRule paths w x.it.condition) where
    abbrev the_enders : List Ender
    the_enders = enders (all_events paths) x.it.condition

    abbrev the_sleeps : List ℕ
    the_sleeps = sleeps_on (all_waits paths) x.it.condition

    abbrev the_wait : Wait
    the_wait = wait_of (all_events paths) (s, x)

    woken_says : (k : ℕ) → option_map (number_of paths x.thread) x.it.wake ≡ Some k → IsWokenBefore nodes w the_wait the_enders the_sleeps k
    woken_says k e =
        let wake = mapped (number_of paths x.thread) x.it.wake k e in
        let r = rule.wakes s wake.0 x (itself s x is) wake.1 in
        let f = ender_among paths symbolic w of s r.0 x.it.condition x (itself s x is) r.1 in
        record {
          by = f.0;
          there = f.1;
          ends = r.1 ∙ ap (λ h. Some h) (sym f.2);
          before = subst (λ h. position w h < position w k) (sym f.2) (subst (λ j. position w r.0 < position w j) wake.2 r.2);
        }

    abbrev Ends : Ender → Type 0
    Ends g = EndsOne nodes w the_wait the_enders the_sleeps g

    waits_at : (g : ℕ) → position w (number_of paths x.thread x.it.step) < position w g
        → ((e : Ender) → Contains the_enders e → ender_of w s ≡ Some e.event → position w e.event < position w g → ⊥) → Waits paths w s x g
    waits_at g begins lasts = record {
      begun = begins;
      lasts = λ h e lt.
          let f = ender_among paths symbolic w of s h x.it.condition x (itself s x is) e in
          lasts f.0 f.1 (e ∙ ap (λ j. Some j) (sym f.2)) (subst (λ j. position w j < position w g) (sym f.2) lt);
    }

    ends_one : (g : Ender) (r : ℕ) (b : Bool) → g.all ≡ b → Contains (cond b (s ∷ []) the_sleeps) r → ender_of w r ≡ Some g.event → Ends g
    ends_one g r b all i ends = record { sleep = r; there = subst (λ a. Contains (cond a (s ∷ []) the_sleeps) r) (sym all) i; ends = ends }

    some_says : (g : Ender) → Contains the_enders g → position w (number_of paths x.thread x.it.step) < position w g.event
        → (IsEndedBefore nodes w the_wait the_enders the_sleeps g → ⊥) → Ends g
    some_says g there begins lasts =
        let waiting : Waits paths w s x g.event =
        waits_at g.event begins (λ e i ends lt. lasts (record { by = e; there = i; ends = ends; before = lt })) in
        elim (ender_is paths w x.it.condition g there) [
          | inl signal ↦
              let r = rule.some s g.event x signal.0 (itself s x is) waiting in
              let y = sleep_of paths symbolic w of r.0 g.event x.it.condition signal.0 r.1 in
              ends_one g r.0 false signal.1 (sleep_among paths w r.0 x.it.condition y.0 y.1) r.1
          | inr broadcast ↦
              ends_one g s true broadcast.1 (in_front s []) (rule.each s g.event x broadcast.0 (itself s x is) waiting)
        ]

    one_says : (g : Ender) (r : ℕ) → Contains the_enders g → g.all ≡ false → s < r → ender_of w s ≡ Some g.event → ender_of w r ≡ Some g.event → ⊥
    one_says g r there signal lt e f = elim (ender_is paths w x.it.condition g there) [
      | inl i ↦ omega (arith, rule.one s r g.event i.0 e f, lt)
      | inr i ↦ false≢true (sym signal ∙ i.1)
    ]

    pub meets : Says s x
    meets = record {
      begun = λ g i e. rule.ends s g.event x (itself s x is) e;
      woken = woken_says;
      one = λ g r i signal j lt e f. one_says g r i signal lt e f;
      some = some_says;
    }

  same_condition : (c d : ℕ) → Condition c ≡ Condition d → c ≡ d
  same_condition c d e = cc

  rule_from : (c : ℕ) → ConditionRule paths w c → HoldsIn nodes w (condition_formula paths) (Condition c)
  rule_from c rule z i group =
      let o = of_flat_map (formula_of (all_events paths) (all_waits paths)) z (all_waits paths) i in
      let v = wait_is paths w o.0 o.1 in
      let s = v.0.0 in
      let x = v.0.1 in
      let y = wait_of (all_events paths) (s, x) in
      let d = x.it.condition in
      let here : Contains (formula_of (all_events paths) (all_waits paths) y) z = subst (λ a. Contains (formula_of (all_events paths) (all_waits paths) a) z) (sym v.2) o.2 in
      let same : c ≡ d = same_condition c d (sym group ∙ is_about y (enders (all_events paths) d) (sleeps_on (all_waits paths) d) z here) in
      meets_from nodes w y (enders (all_events paths) d) (sleeps_on (all_waits paths) d) (meets s x v.1 (subst (ConditionRule paths w) same rule)) z here

  pub exact : (c : ℕ) → IsExactly nodes w (condition_formula paths) (Condition c) (ConditionRule paths w c)
  exact c = record { to = rule_to c; back = rule_from c }
