-- The end of a lawful world: the position of the event that fails, or the one after all events.
use Rattle.std.proofs.Common.{◌≡◌, ◌∙◌, ◌≢◌, ◌⊎◌, inl, inr, ℕ, zero, suc, ◌+◌, ◌≤◌, ◌<◌, true, false, List, [], ◌∷◌, length, get_or, fold}
use Rattle.std.proofs.Common.{Option, Some, None, refl, sym, ap, subst, arith}
use Rattle.std.specs.Prelude.{max, slice_get}
use Rattle.std.specs.List.{Contains, find}
use Rattle.std.specs.Option.{option_map_or}
use Rattle.std.proofs.Math.Nat.{le-max_left, le-max_right}
use Rattle.std.proofs.lemmas.Bool.{false≢true}
use Rattle.std.proofs.lemmas.Option.{none-some, same_Some}
use Rattle.condition_order.specs.path_walk.Fits.{fails_in}
use Rattle.condition_order.specs.path_walk.Paths.{Walk, Paths, paths_of}
use Rattle.condition_order.specs.path_walk.declared.event.Event.{Event}
use Rattle.condition_order.specs.path_walk.declared.event.EventKind.{EventKind}
use Rattle.condition_order.specs.path_walk.declared.event.EventKind.TheVariants as kind
use Rattle.sym_steps.specs.path_laws.Setting.{Setting}
use Rattle.sym_steps.specs.path_laws.history.Along.{IsThread}
use Rattle.condition_order.specs.sym_terms.declared.node.Node.{Node}
use Rattle.condition_order.specs.order_formula.Worlds.{World}
use Rattle.condition_order.specs.order_formula.declared.group.Group.TheVariants.{Own}
use Rattle.condition_order.specs.lawful_order.Events.{Placed, all_events, number_of, place_of}
use Rattle.condition_order.proofs.order_events.Lists.{in_at}
use Rattle.condition_order.proofs.order_events.Numbers.{has_number}
use Rattle.world_plan.specs.Going.{IsLawfulWorld, is_pending, place}
use Rattle.world_plan.specs.Plan.{is_failure, end_of}
use Rattle.world_plan.proofs.Numbers.{of_find, in_find, event_numbered}
use Rattle.world_plan.proofs.Places.{step_of, among_all}
use Rattle.world_plan.proofs.Threads.{one_failing, fail_is_last}
use Rattle.plan_runs.proofs.Next.{paths_whole}

pub failure_is : (k : EventKind) → is_failure k ≡ true → k ≡ kind.Fail
failure_is kind.Fail e = refl
failure_is kind.Exit e = absurd cc
failure_is k e = absurd cc

pub failure_of : (k : EventKind) → k ≡ kind.Fail → is_failure k ≡ true
failure_of k e = ap is_failure e

-- the fold is at least its start
at_least : (a : ℕ) (xs : List ℕ) → a ≤ fold (λ n p. max n (p + 1)) a xs
at_least a [] = omega arith
at_least a (x ∷ xs) = let rest = at_least (max a (x + 1)) xs in let first = le-max_left a (x + 1) in omega (arith, rest, first)

below_all : (a : ℕ) (xs : List ℕ) (k : ℕ) → k < length xs → get_or xs k 0 < fold (λ n p. max n (p + 1)) a xs
below_all a [] k within = absurd (omega (arith, within))
below_all a (x ∷ xs) zero within = let rest = at_least (max a (x + 1)) xs in let first = le-max_right a (x + 1) in omega (arith, rest, first)
below_all a (x ∷ xs) (suc k) within = below_all (max a (x + 1)) xs k (omega (arith, within))

module _ {B : Type 0} (setting : Setting B) (nodes : List Node) (w : World) (l : IsLawfulWorld setting nodes w) where
  open setting use {ops, code, log}

  abbrev paths : Paths
  paths = paths_of code log

  abbrev pub end : ℕ
  end = end_of paths w

  -- the event that fails
  pub record FailsAt (e : Placed Event) : Type 0 where
    pub walk : Walk
    pub there : IsThread code log e.thread walk
    pub among : Contains walk.events e.it
    pub fails : e.it.kind ≡ kind.Fail
    pub last : place code log w e.thread e.it ≡ end

  -- no event fails, and all come before the end
  pub record NoneFails : Type 0 where
    pub kinds : (t : ℕ) (q : Walk) (x : Event) → IsThread code log t q → Contains q.events x → x.kind ≢ kind.Fail
    pub before : (t : ℕ) (q : Walk) (x : Event) → IsThread code log t q → Contains q.events x → place code log w t x < end

  pub end_is : ((e : Placed Event) × FailsAt e) ⊎ NoneFails
  end_is = by (find (λ (e : Placed Event). is_failure e.it.kind) (all_events paths)) refl
    where
      end_by : Option (Placed Event) → ℕ
      end_by o = option_map_or (λ (e : Placed Event). place_of paths w e.thread e.it.step) o (fold (λ n p. max n (p + 1)) 0 w.positions)

      by : (o : Option (Placed Event)) → find (λ (e : Placed Event). is_failure e.it.kind) (all_events paths) ≡ o → ((e : Placed Event) × FailsAt e) ⊎ NoneFails
      by (Some e) is =
          let f = of_find (λ (a : Placed Event). is_failure a.it.kind) (all_events paths) e is in
          let i = in_at (all_events paths) e f.0 in
          let q = event_numbered paths (paths_whole setting nodes w l) i.0 e i.1 in
          inl (e, record { walk = q.0; there = q.1; among = q.2; fails = failure_is e.it.kind f.1; last = sym (ap end_by is) })
      by None none =
          inr (record {
            kinds = λ t q x there i fails.
                let f = in_find (λ (a : Placed Event). is_failure a.it.kind) (all_events paths) (record { thread = t; it = x })
                (among_all paths t q x there i) (failure_of x.kind fails) in
                none-some f.0 (sym none ∙ f.1);
            before = λ t q x there i.
                subst (λ n. place code log w t x < n) (sym (ap end_by none))
                (below_all 0 w.positions (number_of paths t x.step)
                (omega (arith, has_number paths t x.step (step_of paths t q x there i), l.of.events)));
          })

  -- an event that fails is at the end
  pub fail_ends : (t : ℕ) (q : Walk) (x : Event) → IsThread code log t q → Contains q.events x → x.kind ≡ kind.Fail → place code log w t x ≡ end
  fail_ends t q x there i fails = by end_is
    where
      by : (((e : Placed Event) × FailsAt e) ⊎ NoneFails) → place code log w t x ≡ end
      by (inr none) = absurd (none.kinds t q x there i fails)
      by (inl one) =
          let f = one.1 in
          let mine = fail_is_last code log setting.log_is l.fits t q x there i fails in
          let its = fail_is_last code log setting.log_is l.fits one.0.thread f.walk one.0.it f.there f.among f.fails in
          let thread = one_failing code log setting.log_is t one.0.thread q f.walk there f.there mine.0 its.0 in
          let walk : q ≡ f.walk = same_Some q f.walk (sym there ∙ ap (slice_get paths.threads) thread ∙ f.there) in
          let step : x.step ≡ one.0.it.step = omega (arith, mine.1, its.1, ap (λ (v : Walk). length v.places) walk) in
          ap (λ u. place_of paths w u x.step) thread ∙ ap (place_of paths w one.0.thread) step ∙ f.last

  pub none_before : (t : ℕ) (q : Walk) (x : Event) → IsThread code log t q → Contains q.events x → place code log w t x < end → x.kind ≢ kind.Fail
  none_before t q x there i before fails = omega (arith, before, fail_ends t q x there i fails)

  -- all other events come before the end, except stores that wait
  pub others_before : (t : ℕ) (q : Walk) (x : Event) → IsThread code log t q → Contains q.events x → is_failure x.kind ≡ false
      → is_pending ops.buffered x ≡ false → place code log w t x < end
  others_before t q x there i kept now = by end_is
    where
      by : (((e : Placed Event) × FailsAt e) ⊎ NoneFails) → place code log w t x < end
      by (inr none) = none.before t q x there i
      by (inl one) =
          let f = one.1 in
          let before = (l.lawful.meets (Own t)).last one.0.thread x one.0.it (q, there, i) (f.walk, f.there, f.among) f.fails
          (λ fails. false≢true (sym kept ∙ failure_of x.kind fails)) now in
          omega (arith, before, f.last)

  -- if no thread fails in the log, all events come before the end
  pub all_before : ((t : ℕ) (q : Walk) → IsThread code log t q → fails_in log q.name ≡ false) → (t : ℕ) (q : Walk) (x : Event) → IsThread code log t q
      → Contains q.events x → place code log w t x < end
  all_before no_thread t q x there i = by end_is
    where
      by : (((e : Placed Event) × FailsAt e) ⊎ NoneFails) → place code log w t x < end
      by (inr none) = none.before t q x there i
      by (inl one) =
          let f = one.1 in
          let its = fail_is_last code log setting.log_is l.fits one.0.thread f.walk one.0.it f.there f.among f.fails in
          absurd (false≢true (sym (no_thread one.0.thread f.walk f.there) ∙ its.0))
