-- Requests of lawful code name only what exists.
use Rattle.std.proofs.Common.{◌≡◌, ℕ, ◌+◌, ◌<◌, ℤ, pos, length, Bool, true, false, ◌&&◌, IsTrue, Some, sym, subst, arith}
use Rattle.std.specs.Prelude.{nat_lt, nat_le, int_lt, int_le}
use Rattle.std.specs.FinMap as fin
use Rattle.std.proofs.lemmas.Bool.{and_parts}
use Rattle.std.proofs.lemmas.Bool.Decides.{nat_tests}
use Rattle.std.proofs.lemmas.Int.{ints}
use Rattle.tc_code.specs.tc_base.Names.{Name}
use Rattle.tc_code.specs.tc_base.Buffers.{BufferOps}
use Rattle.tc_code.specs.tc_base.States.{Local, Thread, State}
use Rattle.tc_code.specs.tc_base.declared.request.Request.{Request}
use Rattle.tc_code.specs.Expr.{Expr}
use Rattle.tc_code.specs.declared.cell.Cell.{Cell}
use Rattle.tc_code.specs.declared.cell.Cell.TheVariants.{Fixed, Element}
use Rattle.tc_code.specs.declared.instr.Instr.{Instr}
use Rattle.tc_code.specs.declared.instr.Instr.TheVariants.{Load, Store, Inside, Holds, Lock, Unlock, Sleep, Wake}
use Rattle.tc_code.specs.declared.instr.Instr.TheVariants.{Signal, Broadcast, Ready, Assert, Nonzero, InRange, Modify}
use Rattle.tc_code.specs.Code.{Code}
use Rattle.tc_code.specs.Lawful.{has_cell, names_what_is, IsLawful}
use Rattle.tc_code.specs.declared.code.Func.{Func}
use Rattle.tc_code.specs.Step.{request, site, is_within, cell_at, cell_in, value_in, instr_of}
use Rattle.tc_code.specs.Run.{IsReached}
use Rattle.tc_code.proofs.Facts.{placed_next}
use Rattle.run_laws.specs.Whole.{CellIsWithin, IndexIsWithin}
use Rattle.run_laws.specs.helpers.Asks.{AsksWithin}
use Rattle.run_laws.proofs.Guards.{index_is_within}
use Rattle.run_laws.proofs.Whole.{names_next, reached_is_whole}

below : (a b : ℕ) (p : Bool) → IsTrue (nat_lt a b && p) → a < b
below a b p h = grind (arith, nat_tests)

and_below : (p : Bool) (a b : ℕ) → IsTrue (p && nat_lt a b) → a < b
and_below p a b h = grind (arith, nat_tests)

is_below : (a b : ℕ) → IsTrue (nat_lt a b) → a < b
is_below a b h = grind (arith, nat_tests)

-- a cell of an array is one of memory
cell_within : (cells a len : ℕ) (index : ℤ) → IsTrue (nat_le (a + len) cells) → IsTrue (is_within len index) → cell_at a index < cells
cell_within cells a len index inside h =
    let both = and_parts (int_le (pos 0) index) (int_lt index (pos len)) h in
    let low : IsTrue (int_le (pos 0) index) = both.0 in
    let high : IsTrue (int_lt index (pos len)) = both.1 in
    grind (arith, nat_tests, ints)

module _ (code : Code) where
  -- the request names only cells, mutexes and conditions of the code
  abbrev pub AsksOf : Request → Type 0
  AsksOf r = AsksWithin (length code.memory) code.mutexes code.conditions r

  site_asks : (b : Bool) → AsksOf (site b)
  site_asks true = tt
  site_asks false = tt

  reached_within : (f : Func) (t : Local) (c : Cell Expr) → IsTrue (has_cell code f c) → CellIsWithin t c → cell_in t c < length code.memory
  reached_within f t (Fixed c) h at = is_below _ _ h
  reached_within f t (Element a len i) h at = cell_within (length code.memory) a len (value_in t i) (and_parts _ _ h).0 at

  asks_within : (f : Func) (t : Local) (i : Instr) → IsTrue (names_what_is code f i) → IndexIsWithin t i → AsksOf (request t i)
  asks_within f t (Load k c) h at = reached_within f t c (and_parts _ _ h).1 at
  asks_within f t (Store c e) h at = reached_within f t c (and_parts _ _ h).0 at
  asks_within f t (Inside len i) h at = site_asks _
  asks_within f t (Holds m) h at = site_asks _
  asks_within f t (Lock m) h at = is_below _ _ h
  asks_within f t (Unlock m) h at = is_below _ _ h
  asks_within f t (Sleep c m) h at = (below _ _ _ h, and_below _ _ _ h)
  asks_within f t (Wake c m) h at = (below _ _ _ h, and_below _ _ _ h)
  asks_within f t (Signal c) h at = is_below _ _ h
  asks_within f t (Broadcast c) h at = is_below _ _ h
  asks_within f t (Ready v) h at = site_asks _
  asks_within f t (Assert e) h at = site_asks _
  asks_within f t (Nonzero e) h at = site_asks _
  asks_within f t (InRange e) h at = site_asks _
  asks_within f t (Modify k c u) h at = reached_within f t c (and_parts _ _ (and_parts _ _ h).0).1 at
  asks_within f t i h at = tt

module _ {B : Type 0} (ops : BufferOps B) (code : Code) (s : State B) (n : Name) (t : Thread B) (i : Instr) (lawful : IsLawful code)
    (reached : IsReached ops code s) (there : fin.get s.threads n ≡ Some t) (at : instr_of code t.local ≡ Some i) where
  -- the request of a thread's next instruction names only what exists in the code
  pub next_asks_within : AsksOf code (request t.local i)
  next_asks_within =
      asks_within code (placed_next code t.local i lawful at).function t.local i (names_next code t.local i lawful at)
      (index_is_within ops code s n t i lawful reached there at)

  -- the request of a thread's next instruction names only what exists in the state
  pub asked_is_there : AsksWithin (length s.memory) (length s.owners) (length s.waiters) (request t.local i)
  asked_is_there =
      let whole = reached_is_whole ops code s lawful reached in
      subst (λ c. AsksWithin c (length s.owners) (length s.waiters) (request t.local i)) (sym whole.cells)
      (subst (λ m. AsksWithin (length code.memory) m (length s.waiters) (request t.local i)) (sym whole.owners)
      (subst (λ c. AsksWithin (length code.memory) code.mutexes c (request t.local i)) (sym whole.waiters) next_asks_within))
