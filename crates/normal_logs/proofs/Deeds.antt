-- Joins and exits among deeds.
use Rattle.std.proofs.Common.{◌≡◌, ◌∙◌, ℕ, ◌<◌, ℤ, true, List, ◌∷◌, ◌++◌, Option, Some, None, refl, sym, ap, append_assoc}
use Rattle.std.specs.Prelude.{option_and_then}
use Rattle.std.specs.List.{last_or}
use Rattle.std.proofs.lemmas.Bool.{false≢true}
use Rattle.std.proofs.lemmas.Option.{none-some}
use Rattle.tc_record.specs.tc_base.Names.{Name, child}
use Rattle.tc_record.specs.tc_base.declared.request.Request.{Request}
use Rattle.tc_record.specs.tc_base.declared.request.Request.TheVariants.{Silent, Start, Await, Finish}
use Rattle.least_runs.proofs.run_laws.Names.{is_same, same_self}
use Rattle.least_runs.specs.run_history.History.{Deed, Did, Drained}
use Rattle.least_runs.specs.run_history.Told.{steps_in, is_exit_of}
use Rattle.least_runs.proofs.run_history.of_pending.In.{in_at, in_any}
use Rattle.least_runs.specs.run_follows.Follow.{StepsAreOfThreads}
use Rattle.tc_record.specs.path_walk.declared.event.EventKind.TheVariants as kind
use Rattle.tc_record.specs.path_laws.Deeds.{kind_of}
use Rattle.tc_record.proofs.path_laws.of_events.Steps.{step_at}
use Rattle.tc_record.proofs.path_laws.of_stuck.Rests.{mapped_from}
use Rattle.least_runs.specs.Unused.{is_await_of}

pub await_is : (r : Request) (other : Option Name) (n : ℕ) → kind_of r other ≡ Some (kind.Join n) → r ≡ Await n
await_is (Await k) other n e = let same : k ≡ n = cc in ap Await same
await_is (Start f) other n e =
    let m = mapped_from kind.Create (option_and_then (last_or None) other) (kind.Join n) e in
    let bad : kind.Create m.0 ≡ kind.Join n = m.2 in
    absurd cc
await_is Silent other n e = absurd (none-some (kind.Join n) e)
await_is r other n e = absurd cc

-- a deed that joins a thread
pub record JoinsThread (n : Name) (d : Deed) : Type 0 where
  pub thread : Name
  pub number : ℕ
  pub join : ℕ
  pub took : ℤ
  pub other : Option Name
  pub is : d ≡ Did thread number (Await join) took other
  pub name : n ≡ child thread join

pub joins_thread : (n : Name) (d : Deed) → is_await_of n d ≡ true → JoinsThread n d
joins_thread n (Did q k (Await j) v o) e =
    record { thread = q; number = k; join = j; took = v; other = o; is = refl; name = is_same n (child q j) e }
joins_thread n (Did q k Silent v o) e = absurd (false≢true e)
joins_thread n (Did q k r v o) e = absurd (false≢true e)
joins_thread n (Drained q k c v) e = absurd (false≢true e)

-- a deed that is a thread's exit
pub record Exits (n : Name) (d : Deed) : Type 0 where
  pub number : ℕ
  pub took : ℤ
  pub other : Option Name
  pub is : d ≡ Did n number Finish took other

pub exits : (n : Name) (d : Deed) → is_exit_of n d ≡ true → Exits n d
exits n (Did q k Finish v o) e =
    record { number = k; took = v; other = o; is = ap (λ p. Did p k Finish v o) (sym (is_same n q e)) }
exits n (Did q k Silent v o) e = absurd (false≢true e)
exits n (Did q k r v o) e = absurd (false≢true e)
exits n (Drained q k c v) e = absurd (false≢true e)

-- a thread does nothing after its exit
pub exit_is_last : (older newer : List Deed) (n : Name) (k : ℕ) (v : ℤ) (o : Option Name)
    → StepsAreOfThreads (older ++ Did n k Finish v o ∷ newer) → 0 < steps_in newer n → ⊥
exit_is_last older newer n k v o threads some =
    let deed = Did n k Finish v o in
    let s = step_at newer n 0 some in
    let at : older ++ deed ∷ newer ≡ (older ++ deed ∷ s.older) ++ Did n s.number s.request s.took s.other ∷ s.newer =
    ap (λ h. older ++ deed ∷ h) s.there ∙ sym (append_assoc older (deed ∷ s.older) (Did n s.number s.request s.took s.other ∷ s.newer)) in
    let left = threads (older ++ deed ∷ s.older) s.newer n s.number s.request s.took s.other at in
    let gone = in_any (is_exit_of n) deed (older ++ deed ∷ s.older) (in_at older deed s.older) (same_self n n refl) in
    false≢true (sym left.going ∙ gone)
