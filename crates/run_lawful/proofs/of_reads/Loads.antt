-- The value that the deed of a load takes.
use Rattle.std.proofs.Common.{◌≡◌, ◌∙◌, ℕ, ◌&&◌, ℤ, Bool, true, false, List, [], ◌∷◌, Option, Some, None, refl, sym, ap}
use Rattle.std.specs.Prelude.{is_some, unwrap_or}
use Rattle.std.proofs.lemmas.Bool.{false≢true, and_parts}
use Rattle.sym_events.specs.tc_base.Buffers.{Entry}
use Rattle.sym_events.specs.store_buffers.Buffers.{newest}
use Rattle.sym_events.specs.list_laws.Lists.{is_nil}
use Rattle.sym_events.specs.tc_base.Names.{Name}
use Rattle.sym_events.specs.tc_base.declared.request.Request.{Request}
use Rattle.sym_events.specs.tc_base.declared.request.Request.TheVariants.{Read, Write, Exchange}
use Rattle.sym_events.specs.tc_code.Code.{Code}
use Rattle.sym_events.specs.tc_code.int_ops.Updates.{updated}
use Rattle.sym_events.specs.store_buffers.Pending.{stores}
use Rattle.sym_steps.specs.run_history.History.{Deed, pending}
use Rattle.sym_steps.specs.run_history.Told.{value_in}
use Rattle.sym_steps.specs.run_follows.Follow.{IsNextStep, seen_in}
use Rattle.sym_events.specs.path_walk.declared.event.EventKind.{EventKind}
use Rattle.sym_events.specs.path_walk.declared.event.EventKind.TheVariants as kind
use Rattle.sym_steps.specs.path_laws.Deeds.{kind_of}
use Rattle.sym_events.specs.lawful_order.Memory.{is_store}
use Rattle.sym_events.specs.sym_exec.Alone.{Asked, asked_by}
use Rattle.run_lawful.proofs.of_reads.Writes.{asking, never_waits}

-- a load takes place by its own step
pub record IsLoad (b : Bool) (r : Request) (other : Option Name) : Type 0 where
  pub asked : EventKind
  pub asks : kind_of r other ≡ Some asked
  pub kept : (b && is_store asked) ≡ false

pub load_is : (b : Bool) (r : Request) (took : ℤ) (other : Option Name) (x : Asked) → asked_by took r ≡ x ∷ [] → is_some x.takes ≡ true → IsLoad b r other
load_is b (Read c) took other x asks takes = record { asked = kind.Load; asks = refl; kept = never_waits b }
load_is b (Write c v) took other x asks takes =
    let same : asking c None (Some v) ≡ x = cc in absurd (false≢true (ap (λ (y : Asked). is_some y.takes) same ∙ takes))
load_is b (Exchange c v) took other x asks takes = record { asked = kind.Exchange; asks = refl; kept = never_waits b }
load_is b r took other x asks takes = absurd cc

-- an exchange finds its buffer empty, so it too takes the value that its thread sees
none_newer : (es : List Entry) (c : ℕ) (v : ℤ) → is_nil es ≡ true → unwrap_or (newest es c) v ≡ v
none_newer [] c v nil = refl
none_newer (e ∷ es) c v nil = absurd (false≢true nil)

pub load_takes : (b : Bool) (code : Code) (h : List Deed) (n : Name) (k : ℕ) (r : Request) (took : ℤ) (other : Option Name) (x : Asked)
    → IsNextStep b code h n k r took other → asked_by took r ≡ x ∷ [] → is_some x.takes ≡ true → x.takes ≡ Some (seen_in b code h n x.cell)
load_takes b code h n k (Read c) took other x next asks takes =
    let same : asking c (Some took) None ≡ x = cc in
    sym (ap (λ (y : Asked). y.takes) same) ∙ ap (λ v. Some v) next.takes ∙ ap (λ (y : Asked). Some (seen_in b code h n y.cell)) same
load_takes b code h n k (Write c v) took other x next asks takes =
    let same : asking c None (Some v) ≡ x = cc in absurd (false≢true (ap (λ (y : Asked). is_some y.takes) same ∙ takes))
load_takes b code h n k (Exchange c u) took other x next asks takes =
    let same : asking c (Some took) (Some (updated u took)) ≡ x = cc in
    let empty = (and_parts (is_nil (stores (pending b h n))) true next.may).0 in
    let seen : seen_in b code h n c ≡ value_in b code h c = none_newer (stores (pending b h n)) c (value_in b code h c) empty in
    sym (ap (λ (y : Asked). y.takes) same) ∙ ap (λ v. Some v) (next.takes ∙ sym seen) ∙ ap (λ (y : Asked). Some (seen_in b code h n y.cell)) same
load_takes b code h n k r took other x next asks takes = absurd cc
