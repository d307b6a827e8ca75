-- Each sleep of a path has its own step.
use Rattle.std.proofs.Common.{◌≡◌, ◌∙◌, inl, inr, ℕ, zero, suc, ◌<◌, List, [], ◌∷◌, Option, Some, None, refl, sym, ap, arith}
use Rattle.std.specs.Prelude.{slice_get}
use Rattle.std.specs.List.{cons_option}
use Rattle.std.proofs.lemmas.Bool.{cases_order}
use Rattle.std.proofs.lemmas.Option.{none-some, same_Some}
use Rattle.sym_events.specs.path_walk.Events.{sleep_by, sleeps_of}
use Rattle.sym_events.specs.path_walk.Paths.{Walk, Paths}
use Rattle.sym_events.specs.path_walk.declared.event.Event.{Event}
use Rattle.sym_events.specs.path_walk.declared.event.EventKind.{EventKind}
use Rattle.sym_events.specs.path_walk.declared.event.EventKind.TheVariants as kind
use Rattle.sym_events.specs.path_walk.declared.event.Sleep.{Sleep}
use Rattle.sym_events.specs.lawful_order.Events.{Placed, all_sleeps}
use Rattle.sym_events.specs.lawful_order.Whole.{AreWhole}
use Rattle.sym_events.proofs.order_events.Lists.{at_in, in_at}
use Rattle.world_plan.proofs.Numbers.{Rise, of_rise}
use Rattle.run_lawful.proofs.of_waits.Parts.{slept_by}

-- a sleep has the step of the event that begins it
sleep_step : (k : EventKind) (n : ℕ) (next : Option Event) (s : Sleep) → sleep_by n next k ≡ Some s → n ≡ s.step
sleep_step (kind.Sleep c m) n next s e = ap (λ (x : Sleep). x.step) (same_Some _ s e)
sleep_step kind.Load n next s e = absurd (none-some s e)
sleep_step k n next s e = absurd (none-some s e)

abbrev Rises : List Event → Type 0
Rises es = (j k : ℕ) (x y : Event) → slice_get es j ≡ Some x → slice_get es k ≡ Some y → j < k → x.step < y.step

-- the steps of sleeps rise with those of events
slept_rise : (es : List Event) → Rises es → (j k : ℕ) (y z : Sleep) → slice_get (sleeps_of es) j ≡ Some y → slice_get (sleeps_of es) k ≡ Some z → j < k
    → y.step < z.step
slept_rise [] rises j k y z at bt less = absurd (none-some y at)
slept_rise (e ∷ es) rises j k y z at bt less =
    by (sleep_by e.step (slice_get es 0) e.kind) refl j k at bt less
    (λ i n it nt lt. slept_rise es (λ a b u v ua vb before. rises (suc a) (suc b) u v ua vb (omega (arith, before))) i n y z it nt lt)
  where
    -- a later sleep has a later step
    later : (n : ℕ) → slice_get (sleeps_of es) n ≡ Some z → e.step < z.step
    later n is =
        let x = slept_by es z (at_in (sleeps_of es) n z is) in
        let i = in_at es x.event x.among in
        let first = rises 0 (suc i.0) e x.event refl i.1 (omega arith) in
        omega (arith, first, x.step)

    by : (o : Option Sleep) → sleep_by e.step (slice_get es 0) e.kind ≡ o → (j k : ℕ) → slice_get (cons_option o (sleeps_of es)) j ≡ Some y
        → slice_get (cons_option o (sleeps_of es)) k ≡ Some z → j < k
        → ((i n : ℕ) → slice_get (sleeps_of es) i ≡ Some y → slice_get (sleeps_of es) n ≡ Some z → i < n → y.step < z.step) → y.step < z.step
    by None is j k at bt less rest = rest j k at bt less
    by (Some s) is j zero at bt less rest = absurd (omega (arith, less))
    by (Some s) is zero (suc k) at bt less rest =
        let first = sleep_step e.kind e.step (slice_get es 0) y (is ∙ at) in omega (arith, first, later k bt)
    by (Some s) is (suc j) (suc k) at bt less rest = rest j k at bt (omega (arith, less))

-- each thread has only one sleep with a step
pub one_sleep : (paths : Paths) → AreWhole paths → ((u : ℕ) (q : Walk) → slice_get paths.threads u ≡ Some q → q.sleeps ≡ sleeps_of q.events)
    → (s r : ℕ) (x y : Placed Sleep) → slice_get (all_sleeps paths) s ≡ Some x → slice_get (all_sleeps paths) r ≡ Some y → x.thread ≡ y.thread
    → x.it.step ≡ y.it.step → s ≡ r
one_sleep paths whole are s r x y at bt thread same =
    elim (cases_order s r) [
      | inl one ↦ one
      | inr (inl less) ↦ absurd (apart s r x y at bt less thread same)
      | inr (inr more) ↦ absurd (apart r s y x bt at more (sym thread) (sym same))
    ]
  where
    rise : Rise (λ (q : Walk). q.sleeps) (λ (z : Sleep). z.step) paths.threads
    rise u j k q a b there ja kb less =
        slept_rise q.events (λ m n v z vm zn before. whole.rise u m n q v z there vm zn before) j k a b
        (ap (λ ss. slice_get ss j) (sym (are u q there)) ∙ ja) (ap (λ ss. slice_get ss k) (sym (are u q there)) ∙ kb) less

    apart : (i j : ℕ) (a b : Placed Sleep) → slice_get (all_sleeps paths) i ≡ Some a → slice_get (all_sleeps paths) j ≡ Some b → i < j → a.thread ≡ b.thread
        → a.it.step ≡ b.it.step → ⊥
    apart i j a b ia jb less thread same =
        elim (of_rise (λ (q : Walk). q.sleeps) (λ (z : Sleep). z.step) 0 paths.threads rise i j a b ia jb less) [
          | inl before ↦ omega (arith, before, thread)
          | inr before ↦ let steps = before.1 in omega (arith, steps, same)
        ]
