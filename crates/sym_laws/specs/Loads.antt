-- The values that the loads of a log's paths took in a run.
use Rattle.std.specs.Prelude.{ℕ, ◌&&◌, ◌==◌, ℤ, pos, List, map, Option, Some, None, option_map, unwrap_or, slice_get, if◌then◌else◌}
use Rattle.std.specs.List.{filter_map, flat_map}
use Rattle.sym_exec.specs.tc_base.Names.{Name}
use Rattle.path_laws.specs.run_history.History.{Deed, Did, same}
use Rattle.sym_exec.specs.Executed.{Symbolic}
use Rattle.sym_exec.specs.declared.symbolic.Access.{Access}

-- a load of the paths: its number, its thread and its step
pub record Load : Type 0 where
  pub number : ℕ
  pub thread : Name
  pub step : ℕ

-- the loads among a thread's accesses
abbrev pub loads_by : Name → List Access → List Load
loads_by n accesses =
    filter_map
    (λ a. option_map (λ m. record { number = m; thread = n; step = a.step }) a.takes) accesses

abbrev pub loads_of : Symbolic → List Load
loads_of symbolic = flat_map (λ c. loads_by c.name c.accesses) symbolic.threads

-- the value that a deed took, if the deed is the step k of the thread n
abbrev pub took_by : Name → ℕ → Deed → Option ℤ
took_by n k (Did q j r took other) = if same n q && j == k then Some took else None
took_by n k _ = None

-- the value that the step k of the thread n took, or 0 if the step isn't done
abbrev pub taken_at : List Deed → Name → ℕ → ℤ
taken_at h n k = unwrap_or (slice_get (filter_map (took_by n k) h) 0) (pos 0)

-- the value that each load took, in the order of load numbers
abbrev pub loads_in : Symbolic → List Deed → List ℤ
loads_in symbolic h = map (λ l. taken_at h l.thread l.step) (loads_of symbolic)
