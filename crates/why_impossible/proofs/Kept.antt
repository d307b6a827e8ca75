-- A world with only those enders of sleeps that are signals or broadcasts of their conditions: it is one of the paths, and meets the rules of each
-- group that the world meets, where the group of a condition says what ends the sleeps on it.
use Rattle.std.proofs.Common.{◌≡◌, ◌∙◌, ◌⊎◌, inl, inr, ℕ, zero, suc, ◌+◌, Bool, true, false, ◌||◌, cond, List, [], ◌∷◌, Option, Some, None, length}
use Rattle.std.proofs.Common.{get_or, refl, sym, ap, subst, arith}
use Rattle.std.specs.Prelude.{slice_get}
use Rattle.std.specs.Option.{option_map_or}
use Rattle.std.proofs.lemmas.Bool.{false≢true}
use Rattle.std.proofs.lemmas.Option.{none-some, same_Some}
use Rattle.tc_code.specs.Code.{Code}
use Rattle.store_buffers.specs.Pending.{Binding}
use Rattle.path_walk.specs.Paths.{Paths}
use Rattle.path_walk.specs.declared.event.Blocked.{Blocked}
use Rattle.path_walk.specs.declared.event.Blocked.TheVariants.{Lock, Wake, Join}
use Rattle.path_walk.specs.declared.event.Event.{Event}
use Rattle.path_walk.specs.declared.event.Sleep.{Sleep}
use Rattle.order_formula.specs.sym_terms.declared.node.Node.{Node}
use Rattle.clap_solve.specs.sym_exec.Executed.{Symbolic}
use Rattle.clap_solve.specs.sym_exec.declared.symbolic.Access.{Access}
use Rattle.order_formula.specs.Worlds.{World}
use Rattle.order_formula.specs.declared.group.Group.{Group}
use Rattle.order_formula.specs.declared.group.Group.TheVariants.{Own, Child, Read, Mutex, Condition, Test, Stuck}
use Rattle.why_impossible.specs.reached_groups.lawful_order.Children.{ChildRule}
use Rattle.why_impossible.specs.reached_groups.lawful_order.Conditions.{ConditionRule, IsBroadcast, IsSignal, IsSleep, Waits, is_broadcast, is_signal}
use Rattle.why_impossible.specs.reached_groups.lawful_order.Events.{Placed, all_events, all_sleeps, ender_of}
use Rattle.why_impossible.specs.reached_groups.lawful_order.Lawful.{IsWorldOf, MeetsRule}
use Rattle.why_impossible.specs.reached_groups.lawful_order.Reads.{ReadRule, Sees, TakesFirst, TakesFrom}
use Rattle.why_impossible.specs.reached_groups.lawful_order.Stuck.{CannotGoOn}
use Rattle.why_impossible.specs.Enders.{EnderRule}

module _ (paths : Paths) (w : World) where
  -- whether an event may end a sleep
  abbrev may_end : ℕ → Placed Sleep → Bool
  may_end g x =
      option_map_or (λ (e : Placed Event). is_signal x.it.condition e.it.kind || is_broadcast x.it.condition e.it.kind) (slice_get (all_events paths) g) false

  abbrev is_own : ℕ → ℕ → Bool
  is_own s g = option_map_or (may_end g) (slice_get (all_sleeps paths) s) false

  -- what ends the sleep of a number, if it may
  abbrev kept_one : ℕ → Option ℕ → Option ℕ
  kept_one s None = None
  kept_one s (Some g) = cond (is_own s g) (Some g) None

  abbrev kept_from : ℕ → List (Option ℕ) → List (Option ℕ)
  kept_from n [] = []
  kept_from n (o ∷ os) = kept_one n o ∷ kept_from (n + 1) os

  abbrev pub kept : World
  kept = record w { enders = kept_from 0 w.enders }

  as_many : (n : ℕ) (os : List (Option ℕ)) → length (kept_from n os) ≡ length os
  as_many n [] = refl
  as_many n (o ∷ os) = ap (λ k. suc k) (as_many (n + 1) os)

  kept_at : (n s m : ℕ) (os : List (Option ℕ)) → n + s ≡ m → get_or (kept_from n os) s None ≡ kept_one m (get_or os s None)
  kept_at n s m [] sum = refl
  kept_at n zero m (o ∷ os) sum = ap (λ k. kept_one k o) (let here : n ≡ m = omega (arith, sum) in here)
  kept_at n (suc s) m (o ∷ os) sum = kept_at (n + 1) s m os (omega (arith, sum))

  one_at : (s : ℕ) → ender_of kept s ≡ kept_one s (ender_of w s)
  one_at s = kept_at 0 s s w.enders (omega arith)

  kept_if : (s g h : ℕ) (b : Bool) → cond b (Some h) None ≡ Some g → (h ≡ g) × (b ≡ true)
  kept_if s g h true e = (same_Some h g e, refl)
  kept_if s g h false e = absurd (none-some g e)

  -- what ends a sleep there ends it here
  ended_here : (s g : ℕ) → ender_of kept s ≡ Some g → (ender_of w s ≡ Some g) × (is_own s g ≡ true)
  ended_here s g e = by (ender_of w s) refl (sym (one_at s) ∙ e)
    where
      by : (o : Option ℕ) → ender_of w s ≡ o → kept_one s o ≡ Some g → (ender_of w s ≡ Some g) × (is_own s g ≡ true)
      by None is none = absurd (none-some g none)
      by (Some h) is some =
          let both = kept_if s g h (is_own s h) some in
          (is ∙ ap (λ k. Some k) both.0, subst (λ k. is_own s k ≡ true) both.0 both.1)

  ended_there : (s g : ℕ) → is_own s g ≡ true → ender_of w s ≡ Some g → ender_of kept s ≡ Some g
  ended_there s g own e = one_at s ∙ ap (kept_one s) e ∙ ap (λ b. cond b (Some g) None) own

  unended_there : (s : ℕ) → ender_of w s ≡ None → ender_of kept s ≡ None
  unended_there s e = one_at s ∙ ap (kept_one s) e

  -- and is a signal or a broadcast of its condition
  of_either : (a b : Bool) → (a || b) ≡ true → (a ≡ true) ⊎ (b ≡ true)
  of_either true b e = inl refl
  of_either false b e = inr e

  from_either : (a b : Bool) → (a ≡ true) ⊎ (b ≡ true) → (a || b) ≡ true
  from_either true b e = refl
  from_either false b (inl a) = absurd (false≢true a)
  from_either false b (inr e) = e

  ends_as : (v : World) (s g c : ℕ) (x : Placed Sleep) → IsSleep paths v s x c → is_own s g ≡ true → IsSignal paths v g c ⊎ IsBroadcast paths v g c
  ends_as v s g c x i own =
      by (slice_get (all_events paths) g) refl (sym (ap (λ o. option_map_or (may_end g) o false) i.is) ∙ own)
    where
      by : (o : Option (Placed Event)) → slice_get (all_events paths) g ≡ o
          → option_map_or (λ (e : Placed Event). is_signal x.it.condition e.it.kind || is_broadcast x.it.condition e.it.kind) o false ≡ true
          → IsSignal paths v g c ⊎ IsBroadcast paths v g c
      by None is none = absurd (false≢true none)
      by (Some e) is either =
          elim (of_either (is_signal x.it.condition e.it.kind) (is_broadcast x.it.condition e.it.kind) either) [
            | inl signals ↦ inl (record { event = e; is = is; signals = subst (λ d. is_signal d e.it.kind ≡ true) i.condition signals })
            | inr broadcasts ↦ inr (record { event = e; is = is; broadcasts = subst (λ d. is_broadcast d e.it.kind ≡ true) i.condition broadcasts })
          ]

  may_from : (g c : ℕ) (x : Placed Sleep) → x.it.condition ≡ c → IsSignal paths w g c ⊎ IsBroadcast paths w g c → may_end g x ≡ true
  may_from g c x on (inl s) =
      ap (λ o. option_map_or (λ (e : Placed Event). is_signal x.it.condition e.it.kind || is_broadcast x.it.condition e.it.kind) o false) s.is
      ∙ from_either (is_signal x.it.condition s.event.it.kind) (is_broadcast x.it.condition s.event.it.kind)
      (inl (subst (λ d. is_signal d s.event.it.kind ≡ true) (sym on) s.signals))
  may_from g c x on (inr s) =
      ap (λ o. option_map_or (λ (e : Placed Event). is_signal x.it.condition e.it.kind || is_broadcast x.it.condition e.it.kind) o false) s.is
      ∙ from_either (is_signal x.it.condition s.event.it.kind) (is_broadcast x.it.condition s.event.it.kind)
      (inr (subst (λ d. is_broadcast d s.event.it.kind ≡ true) (sym on) s.broadcasts))

  own_from : (s g c : ℕ) (x : Placed Sleep) → IsSleep paths w s x c → IsSignal paths w g c ⊎ IsBroadcast paths w g c → is_own s g ≡ true
  own_from s g c x i kind = ap (λ o. option_map_or (may_end g) o false) i.is ∙ may_from g c x i.condition kind

  -- it is a world of the paths
  pub is_of : (symbolic : Symbolic) → length w.positions ≡ length (all_events paths) → length w.loads ≡ symbolic.loads
      → length w.enders ≡ length (all_sleeps paths) → IsWorldOf paths symbolic kept
  is_of symbolic events loads sleeps = record {
    events = events;
    loads = loads;
    sleeps = as_many 0 w.enders ∙ sleeps;
    enders = λ s g c x i e. ends_as kept s g c x i (ended_here s g e).1;
  }

  module _ (code : Code) (symbolic : Symbolic) (nodes : List Node) where
    sees_there : (t : ℕ) (a : Access) (u : ℕ) (b : Access) → Sees code paths symbolic nodes w t a u b → Sees code paths symbolic nodes kept t a u b
    sees_there t a u b s = record { there = s.there; writes = s.writes; cell = s.cell; before = s.before }

    sees_here : (t : ℕ) (a : Access) (u : ℕ) (b : Access) → Sees code paths symbolic nodes kept t a u b → Sees code paths symbolic nodes w t a u b
    sees_here t a u b s = record { there = s.there; writes = s.writes; cell = s.cell; before = s.before }

    takes_from : (t : ℕ) (a : Access) (u : ℕ) (b : Access) → TakesFrom code paths symbolic nodes w t a u b → TakesFrom code paths symbolic nodes kept t a u b
    takes_from t a u b f = record {
      sees = sees_there t a u b f.sees;
      last = λ v c s. f.last v c (sees_here t a v c s);
      takes = f.takes;
    }

    takes_first : (t : ℕ) (a : Access) → TakesFirst code paths symbolic nodes w t a → TakesFirst code paths symbolic nodes kept t a
    takes_first t a f = record { sees = λ u b s. f.sees u b (sees_here t a u b s); takes = f.takes }

    reads_there : (t line : ℕ) → ReadRule code paths symbolic nodes w t line → ReadRule code paths symbolic nodes kept t line
    reads_there t line rule = record {
      loads = λ a x has takes event step at. elim (rule.loads a x has takes event step at) [
        | inl f ↦ inl (f.0, f.1, takes_from t a f.0 f.1 f.2)
        | inr f ↦ inr (takes_first t a f)
      ];
    }

  child_there : (t : ℕ) → ChildRule paths w t → ChildRule paths kept t
  child_there c rule = record {
    created = rule.created;
    joined = λ t l joins is. let e = rule.joined t l joins is in record { exit = e.exit; there = e.there; exits = e.exits; before = e.before };
  }

  stuck_at : (t : ℕ) (b : Blocked) → CannotGoOn paths w t b → CannotGoOn paths kept t b
  stuck_at t (Lock m) h = record { thread = h.thread; region = h.region; there = h.there; of = h.of; lasts = h.lasts }
  stuck_at t (Wake c m k) (inl h) = inl (record { thread = h.thread; region = h.region; there = h.there; of = h.of; lasts = h.lasts })
  stuck_at t (Wake c m k) (inr sleeps) = inr (λ s x at thread step. unended_there s (sleeps s x at thread step))
  stuck_at t (Join k) runs = runs

  module _ (c : ℕ) (rule : ConditionRule paths w c) (enders : EnderRule paths w c) where
    slept_here : (s : ℕ) (x : Placed Sleep) → IsSleep paths kept s x c → IsSleep paths w s x c
    slept_here s x i = record { is = i.is; condition = i.condition }

    signal_here : (g : ℕ) → IsSignal paths kept g c → IsSignal paths w g c
    signal_here g i = record { event = i.event; is = i.is; signals = i.signals }

    broadcast_here : (g : ℕ) → IsBroadcast paths kept g c → IsBroadcast paths w g c
    broadcast_here g i = record { event = i.event; is = i.is; broadcasts = i.broadcasts }

    -- sleeps on the condition end as they do here
    ends_there : (s g : ℕ) (x : Placed Sleep) → IsSleep paths w s x c → ender_of w s ≡ Some g → ender_of kept s ≡ Some g
    ends_there s g x i e = ended_there s g (own_from s g c x i (enders.own s g x i e)) e

    waits_here : (s g : ℕ) (x : Placed Sleep) → IsSleep paths w s x c → Waits paths kept s x g → Waits paths w s x g
    waits_here s g x i waits = record { begun = waits.begun; lasts = λ h e lt. waits.lasts h (ends_there s h x i e) lt }

    pub condition_there : ConditionRule paths kept c
    condition_there = record {
      ends = λ s g x i e. rule.ends s g x (slept_here s x i) (ended_here s g e).0;
      wakes = λ s k x i wake.
          let e = rule.wakes s k x (slept_here s x i) wake in
          (e.0, ends_there s e.0 x (slept_here s x i) e.1, e.2);
      one = λ s r g signal e f. rule.one s r g (signal_here g signal) (ended_here s g e).0 (ended_here r g f).0;
      some = λ s g x signal i waits.
          let e = rule.some s g x (signal_here g signal) (slept_here s x i) (waits_here s g x (slept_here s x i) waits) in
          let y = enders.alone e.0 g (signal_here g signal) e.1 in
          (e.0, ends_there e.0 g y.0 y.1 e.1);
      each = λ s g x broadcast i waits.
          let j = slept_here s x i in
          ends_there s g x j (rule.each s g x (broadcast_here g broadcast) j (waits_here s g x j waits));
    }

  module _ (buffered : Bool) (bound : Binding) (code : Code) (symbolic : Symbolic) (nodes : List Node) where
    pub meets : (g : Group) → MeetsRule buffered bound code paths symbolic nodes w g → ((c : ℕ) → Condition c ≡ g → EnderRule paths w c)
        → MeetsRule buffered bound code paths symbolic nodes kept g
    meets (Own t) rule enders = record { own = rule.own; last = rule.last }
    meets (Child t) rule enders = child_there t rule
    meets (Read t line) rule enders = reads_there code symbolic nodes t line rule
    meets (Mutex m) rule enders = record { exclusive = rule.exclusive }
    meets (Condition c) rule enders = condition_there c rule (enders c refl)
    meets (Test t line) rule enders = record { tests = rule.tests }
    meets (Stuck t) rule enders = record { stuck = λ q b at is. stuck_at t b (rule.stuck q b at is) }
