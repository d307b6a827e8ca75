-- The cells of an instruction's request are those of its accesses, whatever value it takes.
use Rattle.std.proofs.Common.{◌≡◌, ◌∙◌, ℕ, ℤ, List, [], ◌∷◌, ◌++◌, map, length, Bool, true, false, Option, refl, ap, sym, append-nil}
use Rattle.std.specs.Prelude.{◌&&◌, nat_lt}
use Rattle.std.specs.Bool.{IsTrue}
use Rattle.std.specs.List.{list_all}
use Rattle.std.proofs.lemmas.Bool.{and_parts}
use Rattle.order_events.specs.tc_base.States.{Local}
use Rattle.order_events.specs.int_ops.Updates.{operands_of}
use Rattle.order_events.specs.tc_code.Expr.{Expr, names_slots}
use Rattle.order_events.specs.tc_code.declared.cell.Cell.{Cell}
use Rattle.order_events.specs.tc_code.declared.instr.Instr.{Instr}
use Rattle.order_events.specs.tc_code.declared.instr.Instr.TheVariants.{Load, Store, Inside, Holds, Ready, Assert, Nonzero, InRange, Modify}
use Rattle.order_events.specs.tc_code.Step.{cell_in, site, request}
use Rattle.order_events.specs.sym_terms.Terms.{AreTerms}
use Rattle.order_events.specs.sym_terms.declared.node.Node.{Node}
use Rattle.order_events.specs.sym_terms.declared.node.Node.TheVariants.{Symbol}
use Rattle.sym_laws.specs.sym_exec.Making.{Grows}
use Rattle.sym_laws.specs.sym_exec.Thread.{Doing, HasTerms, with_nodes, cell_of, after_instr}
use Rattle.sym_laws.specs.sym_exec.helpers.Threads.{cell_named, names_within}
use Rattle.sym_laws.specs.sym_exec.Alone.{slots_by, Asked, asked_by, cell_by}
use Rattle.sym_laws.specs.sym_exec.declared.symbolic.Access.{Access}
use Rattle.sym_laws.proofs.sym_exec.Grown.{grows_both, grows_made, expr_grows}
use Rattle.sym_laws.proofs.sym_exec.Sound.{cell_goes, updating_goes}
use Rattle.sym_laws.proofs.sym_exec.Tells.{Reaches, reaches}

-- the cells of what is asked, and those of accesses
abbrev pub asked_cells : ℤ → Local → Instr → List ℕ
asked_cells took t i = map (λ (a : Asked). a.cell) (asked_by took (request t i))

abbrev pub cells_of : List Node → List ℤ → List Access → List ℕ
cells_of nodes loads found = map (λ (a : Access). cell_by nodes loads a.cell) found

-- an instruction adds accesses to the cells of its request
pub record HasCells (loads : List ℤ) (d e : Doing) (t : Local) (i : Instr) : Type 0 where
  pub found : List Access
  pub accesses : e.accesses ≡ d.accesses ++ found
  pub cells : (later : List Node) → Grows e.nodes later → (took : ℤ) → asked_cells took t i ≡ cells_of later loads found

one_cell : (loads : List ℤ) (d e : Doing) (t : Local) (i : Instr) (cell : Cell ℕ) (takes writes : Option ℕ)
    → e.accesses ≡ d.accesses ++ record { step = d.steps; cell = cell; takes = takes; writes = writes } ∷ []
    → ((later : List Node) → Grows e.nodes later → (took : ℤ) → asked_cells took t i ≡ cell_by later loads cell ∷ []) → HasCells loads d e t i
one_cell loads d e t i cell takes writes accesses cells =
    record { found = record { step = d.steps; cell = cell; takes = takes; writes = writes } ∷ []; accesses = accesses; cells = cells }

no_cell : (loads : List ℤ) (d e : Doing) (t : Local) (i : Instr) → e.accesses ≡ d.accesses → ((took : ℤ) → asked_cells took t i ≡ []) → HasCells loads d e t i
no_cell loads d e t i same none = record { found = []; accesses = same ∙ sym (append-nil d.accesses); cells = λ later g took. none took }

site_cells : (took : ℤ) (b : Bool) → map (λ (a : Asked). a.cell) (asked_by took (site b)) ≡ []
site_cells took true = refl
site_cells took false = refl

-- an instruction that accesses a cell: its index has a term first
reached_cell : (loads : List ℤ) (d e : Doing) (c : Cell Expr) (t : Local) (i : Instr) (takes writes : Option ℕ) → Reaches loads d c t
    → e.accesses ≡ d.accesses ++ record { step = d.steps; cell = (cell_of d c).cell; takes = takes; writes = writes } ∷ []
    → Grows (cell_of d c).nodes e.nodes → ((took : ℤ) → asked_cells took t i ≡ cell_in t c ∷ []) → HasCells loads d e t i
reached_cell loads d e c t i takes writes r accesses up asked =
    one_cell loads d e t i (cell_of d c).cell takes writes accesses (λ later g took.
    asked took ∙ ap (λ n. n ∷ []) (sym (r.cell_is later (grows_both (cell_of d c).nodes e.nodes later up g))))

pub has_cells : (loads : List ℤ) (line : ℕ) (wanted : Bool) (d : Doing) (i : Instr) (t : Local) → AreTerms d.nodes → HasTerms d
    → IsTrue (names_within (length d.slots) i) → t.slots ≡ slots_by loads d → HasCells loads d (after_instr line wanted d i) t i
has_cells loads line wanted d (Load k c) t are s named is =
    let named = and_parts (nat_lt k (length d.slots)) (cell_named (length d.slots) c) named in
    let e = after_instr line wanted d (Load k c) in
    reached_cell loads d e c t (Load k c) _ _ (reaches loads d c t are s named.1 is) refl (grows_made (cell_of d c).nodes (Symbol d.loads)) (λ took. refl)
has_cells loads line wanted d (Store c v) t are s named is =
    let named = and_parts (cell_named (length d.slots) c) (names_slots (length d.slots) v) named in
    let e = after_instr line wanted d (Store c v) in
    reached_cell loads d e c t (Store c v) _ _ (reaches loads d c t are s named.0 is) refl (expr_grows (cell_of d c).nodes d.slots v) (λ took. refl)
has_cells loads line wanted d (Modify k c u) t are s named is =
    let named = and_parts (nat_lt k (length d.slots) && cell_named (length d.slots) c) (list_all (names_slots (length d.slots)) (operands_of u)) named in
    let cell = (and_parts (nat_lt k (length d.slots)) (cell_named (length d.slots) c) named.0).1 in
    let x = cell_of d c in
    let e = after_instr line wanted d (Modify k c u) in
    reached_cell loads d e c t (Modify k c u) _ _ (reaches loads d c t are s cell is) refl
    (updating_goes (with_nodes d x.nodes) k x.cell u (cell_goes d c s).sound).grows (λ took. refl)
has_cells loads line wanted d (Inside len i) t are s named is =
    no_cell loads d (after_instr line wanted d (Inside len i)) t (Inside len i) refl (λ took. site_cells took _)
has_cells loads line wanted d (Holds m) t are s named is =
    no_cell loads d (after_instr line wanted d (Holds m)) t (Holds m) refl (λ took. site_cells took _)
has_cells loads line wanted d (Ready v) t are s named is =
    no_cell loads d (after_instr line wanted d (Ready v)) t (Ready v) refl (λ took. site_cells took _)
has_cells loads line wanted d (Assert e) t are s named is =
    no_cell loads d (after_instr line wanted d (Assert e)) t (Assert e) refl (λ took. site_cells took _)
has_cells loads line wanted d (Nonzero e) t are s named is =
    no_cell loads d (after_instr line wanted d (Nonzero e)) t (Nonzero e) refl (λ took. site_cells took _)
has_cells loads line wanted d (InRange e) t are s named is =
    no_cell loads d (after_instr line wanted d (InRange e)) t (InRange e) refl (λ took. site_cells took _)
has_cells loads line wanted d i t are s named is = no_cell loads d (after_instr line wanted d i) t i refl (λ took. refl)
