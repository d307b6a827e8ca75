-- The cell of a thread's step is that of its access.
use Rattle.std.proofs.Common.{◌≡◌, ◌∙◌, ℕ, ◌==◌, Some, refl, ap, arith}
use Rattle.std.specs.Prelude.{option_map, option_and_then}
use Rattle.std.specs.List.{find}
use Rattle.std.proofs.lemmas.Bool.{eq-eqb, ne_eqb}
use Rattle.order_events.specs.path_walk.Paths.{Paths}
use Rattle.sym_laws.specs.sym_exec.Executed.{Course, Symbolic}
use Rattle.sym_laws.specs.sym_exec.declared.symbolic.Access.{Access}
use Rattle.sym_laws.proofs.Lists.{found_at}
use Rattle.order_events.specs.lawful_order.Memory.{cell_of}
use Rattle.order_events.specs.lawful_order.Reads.{HasAccess}
use Rattle.order_events.specs.lawful_order.Whole.{IsExecutedBy}
use Rattle.order_events.proofs.Lists.{in_at}

pub cell_found : (paths : Paths) (symbolic : Symbolic) (t : ℕ) (a : Access) → IsExecutedBy paths symbolic → HasAccess symbolic t a
    → cell_of symbolic t a.step ≡ Some a.cell
cell_found paths symbolic t a by has =
    let i = in_at has.0.accesses a has.2 in
    let first = found_at (λ (x : Access). x.step == a.step) has.0.accesses i.0 a i.1 (eq-eqb a.step a.step refl) (λ j y lt at.
    let less = by.rise t j i.0 has.0 y a has.1 at i.1 lt in
    ne_eqb y.step a.step (λ same. omega (arith, less, same))) in
    ap (λ o. option_map (λ (x : Access). x.cell) (option_and_then (λ (c : Course). find (λ (x : Access). x.step == a.step) c.accesses) o)) has.1
    ∙ ap (option_map (λ (x : Access). x.cell)) first
