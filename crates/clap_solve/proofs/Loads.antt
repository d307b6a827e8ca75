-- The loads of a run take ints.
use Rattle.std.proofs.Common.{◌≡◌, ℕ, ◌&&◌, ◌==◌, ℤ, pos, List, Option, Some, None, refl, subst}
use Rattle.std.specs.Prelude.{slice_get, unwrap_or}
use Rattle.std.specs.List.{All, filter_map}
use Rattle.std.proofs.lemmas.List.Elements.{All-contains, All-map}
use Rattle.std.proofs.lemmas.Option.{cond_some, none-some}
use Rattle.order_formula.specs.sym_terms.int_ops.Arith.{IsInt}
use Rattle.run_log.specs.tc_base.Names.{Name}
use Rattle.clap_system.proofs.sym_exec.run_laws.Ints.{zero_int}
use Rattle.schedule_decode.specs.run_history.History.{Deed, Did, Drained, same}
use Rattle.schedule_decode.specs.run_history.Ints.{DeedHasInts}
use Rattle.clap_system.specs.sym_exec.Executed.{Symbolic}
use Rattle.schedule_decode.specs.sym_laws.Loads.{Load, loads_in, loads_of, taken_at, took_by}
use Rattle.first_run.proofs.order_events.Lists.{at_in, of_filter_map}
use Rattle.first_run.proofs.order_events.Parts.{each_in}

took_int : (n : Name) (k : ℕ) (d : Deed) (v : ℤ) → DeedHasInts d → took_by n k d ≡ Some v → IsInt v
took_int n k (Did q j r took other) v ints is = subst IsInt (cond_some (same n q && j == k) took v is).1 ints.1
took_int n k (Drained q j c w) v ints is = absurd (none-some v is)

taken_int : (h : List Deed) (n : Name) (k : ℕ) → All DeedHasInts h → IsInt (taken_at h n k)
taken_int h n k ints = by (slice_get (filter_map (took_by n k) h) 0) refl
  where
    by : (o : Option ℤ) → slice_get (filter_map (took_by n k) h) 0 ≡ o → IsInt (unwrap_or o (pos 0))
    by None at = zero_int
    by (Some v) at =
        let o = of_filter_map (took_by n k) v h (at_in (filter_map (took_by n k) h) 0 v at) in
        took_int n k o.0 v (All-contains DeedHasInts h o.0 ints o.1) o.2

pub loads_are_ints : (symbolic : Symbolic) (h : List Deed) → All DeedHasInts h → All IsInt (loads_in symbolic h)
loads_are_ints symbolic h ints =
    All-map IsInt (λ (l : Load). taken_at h l.thread l.step) (loads_of symbolic)
    (each_in (λ (l : Load). IsInt (taken_at h l.thread l.step)) (loads_of symbolic) (λ l i. taken_int h l.thread l.step ints))
