-- The requests of events.
use Rattle.std.proofs.Common.{◌≡◌, ◌∙◌, ℕ, ℤ, Bool, true, false, List, [], ◌∷◌, Option, Some, None, refl, sym, ap}
use Rattle.std.specs.Prelude.{option_map, option_and_then}
use Rattle.std.specs.FinSet as set
use Rattle.std.specs.List.{filter_map, last_or}
use Rattle.std.proofs.lemmas.Bool.{false≢true, true≢false, and_parts}
use Rattle.std.proofs.lemmas.Option.{none-some}
use Rattle.sym_events.specs.list_laws.Lists.{is_nil}
use Rattle.sym_events.specs.tc_base.Names.{Name}
use Rattle.sym_events.specs.tc_base.declared.request.Request.{Request}
use Rattle.sym_events.specs.tc_base.declared.request.Request.TheVariants.{Silent, Read, Write, Bar, WakeOne, Start, Fail}
use Rattle.sym_events.specs.store_buffers.Pending.{stores}
use Rattle.sym_steps.specs.run_history.History.{Deed, pending}
use Rattle.sym_steps.specs.run_history.Told.{waiting_in, fails, failed_in}
use Rattle.sym_steps.proofs.run_history.of_pending.In.{In}
use Rattle.sym_steps.specs.run_follows.Follow.{is_let_in, may_do_in}
use Rattle.sym_events.specs.path_walk.declared.event.EventKind.{EventKind}
use Rattle.sym_events.specs.path_walk.declared.event.EventKind.TheVariants as kind
use Rattle.sym_steps.specs.path_laws.Deeds.{kind_of}
use Rattle.sym_events.specs.lawful_order.Memory.{is_store, may_overtake}

-- a property of the event of a request, if it is one
abbrev if_asked : (EventKind → Bool) → Bool → Option EventKind → Bool
if_asked p none None = none
if_asked p none (Some k) = p k

of_create : (p : EventKind → Bool) (none : Bool) (o : Option ℕ) → ((k : ℕ) → p (kind.Create k) ≡ false) → none ≡ false
    → if_asked p none (option_map kind.Create o) ≡ true → ⊥
of_create p none None each e hit = false≢true (sym e ∙ hit)
of_create p none (Some k) each e hit = false≢true (sym (each k) ∙ hit)

-- a store writes
is_write : (r : Request) (other : Option Name) → if_asked is_store false (kind_of r other) ≡ true → (c : ℕ) × (v : ℤ) × (r ≡ Write c v)
is_write (Write c v) other hit = (c, v, refl)
is_write (Start f) other hit = absurd (of_create is_store false (option_and_then (last_or None) other) (λ k. refl) refl hit)
is_write r other hit = absurd (false≢true hit)

pub store_writes : (r : Request) (other : Option Name) (asked : EventKind) → kind_of r other ≡ Some asked → is_store asked ≡ true
    → (c : ℕ) × (v : ℤ) × (r ≡ Write c v)
store_writes r other asked asks is = is_write r other (ap (if_asked is_store false) asks ∙ is)

-- whether an event is the failure
abbrev is_failure : EventKind → Bool
is_failure kind.Fail = true
is_failure _ = false

is_fail : (r : Request) (other : Option Name) → if_asked is_failure false (kind_of r other) ≡ true → r ≡ Fail
is_fail Fail other hit = refl
is_fail (Start f) other hit = absurd (of_create is_failure false (option_and_then (last_or None) other) (λ k. refl) refl hit)
is_fail r other hit = absurd (false≢true hit)

pub failure_fails : (r : Request) (other : Option Name) → kind_of r other ≡ Some kind.Fail → r ≡ Fail
failure_fails r other asks = is_fail r other (ap (if_asked is_failure false) asks)

-- an event that may not overtake stores isn't a store
pub no_store : (k : EventKind) → may_overtake k ≡ false → is_store k ≡ false
no_store kind.Store e = absurd (true≢false e)
no_store k e = refl

-- an event that may not overtake stores finds its thread's buffer empty
empty_by : (buffered : Bool) (h : List Deed) (n : Name) (r : Request) (other : Option Name) → if_asked may_overtake true (kind_of r other) ≡ false
    → may_do_in buffered h n r other ≡ true → is_nil (stores (pending buffered h n)) ≡ true
empty_by buffered h n (WakeOne c) (Some u) e may = (and_parts (is_nil (stores (pending buffered h n))) (set.contains (waiting_in h c) u) may).0
empty_by buffered h n (WakeOne c) None e may =
    (and_parts (is_nil (stores (pending buffered h n))) (is_let_in h n (WakeOne c)) may).0
empty_by buffered h n Silent other e may = absurd (true≢false e)
empty_by buffered h n (Read c) other e may = absurd (true≢false e)
empty_by buffered h n (Write c v) other e may = absurd (true≢false e)
empty_by buffered h n Bar other e may = absurd (true≢false e)
empty_by buffered h n Fail other e may = absurd (true≢false e)
empty_by buffered h n r other e may = (and_parts (is_nil (stores (pending buffered h n))) (is_let_in h n r) may).0

pub finds_empty : (buffered : Bool) (h : List Deed) (n : Name) (r : Request) (other : Option Name) (asked : EventKind) → kind_of r other ≡ Some asked
    → may_overtake asked ≡ false → may_do_in buffered h n r other ≡ true → is_nil (stores (pending buffered h n)) ≡ true
finds_empty buffered h n r other asked asks is may = empty_by buffered h n r other (ap (if_asked may_overtake true) asks ∙ is) may

-- if no thread has failed, no step has failed
some_last : {X : Type 0} (x : X) (xs : List X) → last_or (Some x) xs ≡ None → ⊥
some_last x [] e = none-some x (sym e)
some_last x (y ∷ xs) e = some_last y xs e

in_last : {X : Type 0} (o : Option X) (x : X) (xs : List X) → In x xs → last_or o xs ≡ None → ⊥
in_last o x [] i e = i
in_last o x (y ∷ xs) i e = some_last y xs e

pub none_fails : (h : List Deed) (n : Name) → In n (filter_map fails h) → failed_in h ≡ None → ⊥
none_fails h n i e = in_last None n (filter_map fails h) i e
