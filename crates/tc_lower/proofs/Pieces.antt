-- Statements: their instructions are a block and name existing things.
use Rattle.std.proofs.Common.{
  ◌≡◌,
  ℕ,
  ◌+◌,
  ◌<◌,
  ◌≤◌,
  Bool,
  true,
  false,
  ◌&&◌,
  IsTrue,
  nat_lt,
  nat_le,
  nat_eq,
  List,
  [],
  ◌∷◌,
  ◌++◌,
  length,
  replicate,
  Option,
  Some,
  None,
  pos,
  append_assoc,
  cond,
  refl,
  sym,
  subst,
  arith,
  length-append,
  slice_get,
}
use Rattle.std.specs.List.{list_all}
use Rattle.std.proofs.lemmas.Bool.Decides.{Decides-eqb}
use Rattle.std.proofs.lemmas.List.{length-replicate}
use Rattle.int_ops.specs.Updates.{operands_of}
use Rattle.int_ops.specs.declared.update.Update.{Update}
use Rattle.int_ops.specs.declared.update.Update.TheVariants as update
use Rattle.tc_code.specs.Expr.{Expr, names_slots}
use Rattle.tc_code.specs.Expr as code_expr
use Rattle.tc_code.specs.declared.cell.Cell.{Cell as CodeCell}
use Rattle.tc_code.specs.declared.cell.Cell.TheVariants as cell
use Rattle.tc_code.specs.declared.instr.Instr.TheVariants as instr
use Rattle.tc_code.specs.declared.instr.Instr.{Instr}
use Rattle.tc_code.specs.declared.instr.Instr.TheVariants.{Inside, Branch, Goto}
use Rattle.tc_code.specs.Code.{Code}
use Rattle.tc_code.specs.Lawful as lawful
use Rattle.tc_code.specs.Lawful.{takes, has_cell, is_outside, is_array, keeps}
use Rattle.tc_code.specs.declared.code.Func.{Func}
use Rattle.tc_tree.specs.declared.expression.Name.{Name}
use Rattle.tc_tree.specs.declared.statement.Action.{Action}
use Rattle.tc_tree.specs.declared.statement.Action.TheVariants.{Join, Lock, Unlock, Signal, Broadcast}
use Rattle.tc_tree.specs.declared.statement.Barrier.{Barrier}
use Rattle.tc_tree.specs.declared.statement.Barrier.TheVariants.{Fence, Stores}
use Rattle.tc_tree.specs.Grammar as grammar
use Rattle.tc_tree.specs.Grammar.{Expression, Statement, Statements, Nil, Cons, Otherwise, Nothing, Else, ElseIf}
use Rattle.tc_lower.specs.declared.things.Thing.{Thing}
use Rattle.tc_lower.specs.declared.things.Thing.TheVariants.{Cell, Array, Mutex, Condition, Function, Slot, Handle}
use Rattle.tc_lower.specs.Values.{Evaluated, evaluated, Arguments, arguments}
use Rattle.tc_lower.specs.Statements.{
  Written,
  Lowered,
  on_line,
  assignment,
  test_of_index,
  store,
  creation,
  cell_of,
  modification,
  action,
  wait,
  barrier,
  assigned,
  stored,
  created,
  Updating,
  over_one,
  updating,
  indexed,
  modified,
  asserted,
  looped,
  goes_on,
  after_body,
  branched,
  lowered,
  all_lowered,
  lowered_otherwise,
}
use Rattle.tc_lower.proofs.Blocks.{
  Block,
  May,
  is_glued,
  no_block,
  both_blocks,
  skipped,
  forked,
  looped_back,
  IsTested,
  accessed_after,
  one_block,
  two_block,
  wait_block,
  before_next,
}
use Rattle.tc_lower.proofs.Parts.{IsAt, at_left, at_right, at_first, at_next, all_append, all_weaker, all_pass, both_true, first_true, second_true}
use Rattle.tc_lower.proofs.Sound.{lt_true, le_true, names_more, names_apart, writes_from, keeps_earlier, block_at, stands_at, InBounds, IfThere, Sound, after_sound, evaluated_sound}

-- instructions from a place on, with a next free slot before and after them
pub record Piece (arrays : List lawful.Array) (code : Code) (f : Func) (at free next : ℕ) (is : List Instr) : Type 0 where
  pub grows : free ≤ next
  pub named : next ≤ f.ints → IsTrue (list_all (names_apart arrays code f) is)
  pub block : (all : List Instr) → IsAt all at is → Block all at (at + length is)

module _ (arrays : List lawful.Array) (code : Code) (f : Func) (base : ℕ) where
  value_piece : (at free : ℕ) (v : Evaluated) → Sound arrays code f at free v → Piece arrays code f at free v.free v.instrs
  value_piece at free v s = record { grows = s.grows; named = s.named; block = s.block }

  no_piece : (at free : ℕ) → Piece arrays code f at free free []
  no_piece at free =
      let end : at ≡ at + 0 = omega arith in
      record { grows = omega arith; named = λ few. refl; block = λ all h. block_at all at at at (at + 0) refl end (no_block all at) }

  both_pieces : (at free mid next : ℕ) (is js : List Instr) → Piece arrays code f at free mid is → Piece arrays code f (at + length is) mid next js
      → Piece arrays code f at free next (is ++ js)
  both_pieces at free mid next is js a b = record {
    grows = omega (arith, a.grows, b.grows);
    named = λ few. all_append (names_apart arrays code f) is js (a.named (omega (arith, few, b.grows))) (b.named few);
    block = λ all h.
        let end : at + length is + length js ≡ at + length (is ++ js) = omega (arith, length-append is js) in
        block_at all at at (at + length is + length js) (at + length (is ++ js)) refl end
        (both_blocks all at (at + length is) (at + length is + length js) (a.block all (at_left all at is js h)) (b.block all (at_right all at is js h)));
  }

  -- an instruction that doesn't belong to another
  one_piece : (at free next : ℕ) (i : Instr) → free ≤ next → (next ≤ f.ints → IsTrue (names_apart arrays code f i)) → is_glued i ≡ false
      → ((all : List Instr) (k : ℕ) → May all at (at + 1) k i) → Piece arrays code f at free next (i ∷ [])
  one_piece at free next i up named unglued may = record {
    grows = up;
    named = λ few. both_true (names_apart arrays code f i) true (named few) refl;
    block = λ all h. one_block all at i (at_first all at i [] h) unglued (may all);
  }

  -- an instruction with one that belongs to it
  two_piece : (at free : ℕ) (i j : Instr) → IsTrue (names_apart arrays code f i) → IsTrue (names_apart arrays code f j) → is_glued i ≡ false
      → ((all : List Instr) (k : ℕ) → May all at (at + 2) k i)
      → ((all : List Instr) → slice_get all at ≡ Some i → May all at (at + 2) (at + 1) j) → Piece arrays code f at free free (i ∷ j ∷ [])
  two_piece at free i j i_named j_named unglued may after = record {
    grows = omega arith;
    named = λ few.
        both_true (names_apart arrays code f i) (names_apart arrays code f j && true) i_named
        (both_true (names_apart arrays code f j) true j_named refl);
    block = λ all h.
        let first = at_first all at i (j ∷ []) h in
        two_block all at i j first (at_first all (at + 1) j [] (at_next all at i (j ∷ []) h)) unglued (may all) (after all first);
  }

  -- ---- what statements do with their values

  assignment_piece : (at free : ℕ) (o : Option Thing) (e : Expr) → base ≤ free → IfThere arrays code f base o → IsTrue (names_slots free e)
      → Piece arrays code f at free free (assignment o e)
  assignment_piece at free (Some (Slot k)) e low there named =
      one_piece at free free (instr.Set k e) (omega arith) (λ few. both_true (nat_lt k f.ints) (names_slots f.ints e)
      (lt_true k f.ints (omega (arith, few, low, there))) (names_more e free f.ints few named)) refl (λ all k. tt)
  assignment_piece at free (Some (Cell c)) e low there named =
      one_piece at free free (instr.Store (cell.Fixed c) e) (omega arith) (λ few.
      both_true (list_all (is_outside c) arrays) (nat_lt c (length code.memory) && names_slots f.ints e) there.1
      (both_true (nat_lt c (length code.memory)) (names_slots f.ints e) (lt_true c (length code.memory) there.0) (names_more e free f.ints few named)))
      refl (λ all k. tt)
  assignment_piece at free _ e low there named = no_piece at free

  test_piece : (at free : ℕ) (o : Option Thing) (e : Expr) → IfThere arrays code f base o → IsTrue (names_slots free e)
      → Piece arrays code f at free free (test_of_index o e)
  test_piece at free (Some (Array first len)) e there named =
      one_piece at free free (Inside len e) (omega arith) (λ few. both_true (nat_le len (length code.memory)) (names_slots f.ints e)
      (le_true len (length code.memory) (omega (arith, there.0))) (names_more e free f.ints few named)) refl (λ all k. tt)
  test_piece at free _ e there named = no_piece at free

  -- a slot that takes the old value of a cell
  taken_piece : (at free k : ℕ) → base ≤ free → k < base → Piece arrays code f at (free + 1) (free + 1) (instr.Set k (code_expr.Slot free) ∷ [])
  taken_piece at free k low slot =
      one_piece at (free + 1) (free + 1) (instr.Set k (code_expr.Slot free)) (omega arith) (λ few. both_true (nat_lt k f.ints) (nat_lt free f.ints)
      (lt_true k f.ints (omega (arith, few, low, slot))) (lt_true free f.ints (omega (arith, few)))) refl (λ all k. tt)

  -- what comes of an update of no cell
  idle_piece : (at free : ℕ) → Piece arrays code f at free (free + 1) (instr.Set free (code_expr.Number (pos 0)) ∷ [])
  idle_piece at free =
      one_piece at free (free + 1) (instr.Set free (code_expr.Number (pos 0))) (omega arith)
      (λ few. both_true (nat_lt free f.ints) true (lt_true free f.ints (omega (arith, few))) refl) refl (λ all k. tt)

  -- what an update names exists
  update_named : (free : ℕ) (c : CodeCell Expr) (u : Update Expr) → IsTrue (lawful.is_apart arrays c) → IsTrue (has_cell code f c)
      → IsTrue (list_all (names_slots free) (operands_of u)) → free + 1 ≤ f.ints → IsTrue (names_apart arrays code f (instr.Modify free c u))
  update_named free c u apart there named few =
      both_true (lawful.is_apart arrays c) (nat_lt free f.ints && has_cell code f c && list_all (names_slots f.ints) (operands_of u)) apart
      (both_true (nat_lt free f.ints && has_cell code f c) (list_all (names_slots f.ints) (operands_of u))
      (both_true (nat_lt free f.ints) (has_cell code f c) (lt_true free f.ints (omega (arith, few))) there)
      (all_weaker (names_slots free) (names_slots f.ints) (λ e h. names_more e free f.ints (omega (arith, few)) h) (operands_of u) named))

  cell_update_piece : (at free k c : ℕ) (u : Update Expr) → base ≤ free → k < base → InBounds arrays code f base (Cell c)
      → IsTrue (list_all (names_slots free) (operands_of u))
      → Piece arrays code f at free (free + 1) (instr.Modify free (cell.Fixed c) u ∷ instr.Set k (code_expr.Slot free) ∷ [])
  cell_update_piece at free k c u low slot there named =
      both_pieces at free (free + 1) (free + 1) (instr.Modify free (cell.Fixed c) u ∷ []) (instr.Set k (code_expr.Slot free) ∷ [])
      (one_piece at free (free + 1) (instr.Modify free (cell.Fixed c) u) (omega arith) (update_named free (cell.Fixed c) u there.1
      (lt_true c (length code.memory) there.0) named) refl (λ all k. tt))
      (taken_piece (at + 1) free k low slot)

  action_piece : (at free : ℕ) (a : Action) (o : Option Thing) → IfThere arrays code f base o → Piece arrays code f at free free (action a o)
  action_piece at free Join (Some (Handle h)) there =
      two_piece at free (instr.Ready h) (instr.Join h) (lt_true h f.handles there) (lt_true h f.handles there) refl (λ all k. tt)
      (λ all first. before_next all at (instr.Ready h) first)
  action_piece at free Lock (Some (Mutex m)) there =
      one_piece at free free (instr.Lock m) (omega arith) (λ few. lt_true m code.mutexes there) refl (λ all k. tt)
  action_piece at free Unlock (Some (Mutex m)) there =
      two_piece at free (instr.Holds m) (instr.Unlock m) (lt_true m code.mutexes there) (lt_true m code.mutexes there) refl (λ all k. tt)
      (λ all first. before_next all at (instr.Holds m) first)
  action_piece at free Signal (Some (Condition c)) there =
      one_piece at free free (instr.Signal c) (omega arith) (λ few. lt_true c code.conditions there) refl (λ all k. tt)
  action_piece at free Broadcast (Some (Condition c)) there =
      one_piece at free free (instr.Broadcast c) (omega arith) (λ few. lt_true c code.conditions there) refl (λ all k. tt)
  action_piece at free _ _ there = no_piece at free

  wait_piece : (at free : ℕ) (o q : Option Thing) → IfThere arrays code f base o → IfThere arrays code f base q → Piece arrays code f at free free (wait o q)
  wait_piece at free (Some (Condition c)) (Some (Mutex m)) condition mutex = record {
    grows = omega arith;
    named = λ few.
        let m_named = lt_true m code.mutexes mutex in
        let both = both_true (nat_lt c code.conditions) (nat_lt m code.mutexes) (lt_true c code.conditions condition) m_named in
        let c_and_m = nat_lt c code.conditions && nat_lt m code.mutexes in
        both_true (nat_lt m code.mutexes) (c_and_m && (c_and_m && true)) m_named
        (both_true c_and_m (c_and_m && true) both (both_true c_and_m true both refl));
    block = λ all h.
        let second = at_next all at (instr.Holds m) (instr.Sleep c m ∷ instr.Wake c m ∷ []) h in
        let third = at_next all (at + 1) (instr.Sleep c m) (instr.Wake c m ∷ []) second in
        let two : at + 1 + 1 ≡ at + 2 = omega arith in
        wait_block all at c m (at_first all at (instr.Holds m) (instr.Sleep c m ∷ instr.Wake c m ∷ []) h)
        (at_first all (at + 1) (instr.Sleep c m) (instr.Wake c m ∷ []) second)
        (at_first all (at + 2) (instr.Wake c m) [] (stands_at all (at + 1 + 1) (at + 2) (instr.Wake c m ∷ []) two third));
  }
  wait_piece at free _ _ condition mutex = no_piece at free

  barrier_piece : (at free : ℕ) (b : Barrier) → Piece arrays code f at free free (barrier b ∷ [])
  barrier_piece at free Fence = one_piece at free free instr.Fence (omega arith) (λ few. refl) refl (λ all k. tt)
  barrier_piece at free Stores = one_piece at free free instr.Stbar (omega arith) (λ few. refl) refl (λ all k. tt)

  all_named_more : (es : List Expr) (n m : ℕ) → n ≤ m → IsTrue (list_all (names_slots n) es) → IsTrue (list_all (names_slots m) es)
  all_named_more [] n m up h = refl
  all_named_more (e ∷ es) n m up h =
      both_true (names_slots m e) (list_all (names_slots m) es) (names_more e n m up (first_true (names_slots n e) (list_all (names_slots n) es) h))
      (all_named_more es n m up (second_true (names_slots n e) (list_all (names_slots n) es) h))

  created_if : (at free : ℕ) (b : Bool) (h g n : ℕ) (es : List Expr) → nat_eq n (length es) ≡ b → h < f.handles → IsTrue (takes code g n)
      → IsTrue (list_all (names_slots free) es) → Piece arrays code f at free free (cond b (instr.Create h g es ∷ []) [])
  created_if at free true h g n es e handle function named =
      let same : n ≡ length es = (Decides-eqb n (length es)).0 e in
      one_piece at free free (instr.Create h g es) (omega arith) (λ few.
      both_true (nat_lt h f.handles && takes code g (length es)) (list_all (names_slots f.ints) es)
      (both_true (nat_lt h f.handles) (takes code g (length es)) (lt_true h f.handles handle) (subst (λ k. IsTrue (takes code g k)) same function))
      (all_named_more es free f.ints few named)) refl (λ all k. tt)
  created_if at free false h g n es e handle function named = no_piece at free

  creation_piece : (at free : ℕ) (o q : Option Thing) (es : List Expr) → IfThere arrays code f base o → IfThere arrays code f base q
      → IsTrue (list_all (names_slots free) es) → Piece arrays code f at free free (creation o q es)
  creation_piece at free (Some (Handle h)) (Some (Function g n)) es handle function named =
      created_if at free (nat_eq n (length es)) h g n es refl handle function named
  creation_piece at free _ _ es handle function named = no_piece at free

  -- ---- in a scope of existing things

  module _ (scope : Name → Option Thing) (there : (x : Name) → IfThere arrays code f base (scope x)) where
    -- a value, and the use of it
    value_and : (at free next : ℕ) (e : Expression) (is : List Instr) → base ≤ free
        → Piece arrays code f (at + length (evaluated scope at free e).instrs) (evaluated scope at free e).free next is
        → Piece arrays code f at free next ((evaluated scope at free e).instrs ++ is)
    value_and at free next e is low p =
        let v = evaluated scope at free e in
        both_pieces at free v.free next v.instrs is (value_piece at free v (evaluated_sound arrays code f base scope there at free e low)) p

    assigned_piece : (at free : ℕ) (x : Name) (e : Expression) → base ≤ free
        → let w = assigned scope at free x e in Piece arrays code f at free w.free w.instrs
    assigned_piece at free x e low =
        let v = evaluated scope at free e in
        let s = evaluated_sound arrays code f base scope there at free e low in
        value_and at free v.free e (assignment (scope x) v.value) low
        (assignment_piece (at + length v.instrs) v.free (scope x) v.value (omega (arith, low, s.grows)) (there x) s.value)

    -- an index, its test, instructions that leave the index as it is, and an access of the element
    guarded_piece : (at free mid next len : ℕ) (index : Evaluated) (is : List Instr) (access : Instr) → Sound arrays code f at free index
        → len ≤ length code.memory → Piece arrays code f (at + length index.instrs + 1) index.free mid is → IsTrue (list_all (writes_from index.free) is)
        → mid ≤ next → is_glued access ≡ false → lawful.target access ≡ None
        → ((all : List Instr) (s e k : ℕ) → IsTested all s e k len index.value → May all s e k access)
        → (next ≤ f.ints → IsTrue (names_apart arrays code f access))
        → Piece arrays code f at free next (index.instrs ++ Inside len index.value ∷ [] ++ is ++ access ∷ [])
    guarded_piece at free mid next len index is access a fits b fresh up unglued leads_nowhere may named =
        let m = at + length index.instrs in
        let test = Inside len index.value in
        let end = m + 1 + length is in
        let is_place : at + length (index.instrs ++ test ∷ []) ≡ m + 1 = omega (arith, length-append index.instrs (test ∷ [])) in
        let w_place : at + length (index.instrs ++ test ∷ [] ++ is) ≡ end =
        omega (arith, length-append (index.instrs ++ test ∷ []) is, length-append index.instrs (test ∷ [])) in
        let size : at + length (index.instrs ++ test ∷ [] ++ is ++ access ∷ []) ≡ end + 1 =
        omega (arith, w_place, length-append (index.instrs ++ test ∷ [] ++ is) (access ∷ [])) in
        record {
          grows = omega (arith, a.grows, b.grows, up);
          named = λ few.
              let i_named : IsTrue (names_slots f.ints index.value) = names_more index.value index.free f.ints (omega (arith, few, b.grows, up)) a.value in
              all_append (names_apart arrays code f) (index.instrs ++ test ∷ [] ++ is) (access ∷ [])
              (all_append (names_apart arrays code f) (index.instrs ++ test ∷ []) is
              (all_append (names_apart arrays code f) index.instrs (test ∷ []) (a.named (omega (arith, few, b.grows, up)))
              (both_true (nat_le len (length code.memory) && names_slots f.ints index.value) true
              (both_true (nat_le len (length code.memory)) (names_slots f.ints index.value) (le_true len (length code.memory) fits) i_named) refl))
              (b.named (omega (arith, few, up))))
              (both_true (names_apart arrays code f access) true (named few) refl);
          block = λ all h.
              let h3 = at_left all at (index.instrs ++ test ∷ [] ++ is) (access ∷ []) h in
              let h2 = at_left all at (index.instrs ++ test ∷ []) is h3 in
              let test_at = at_right all at index.instrs (test ∷ []) h2 in
              let is_at : IsAt all (m + 1) is = stands_at all (at + length (index.instrs ++ test ∷ [])) (m + 1) is is_place
              (at_right all at (index.instrs ++ test ∷ []) is h3) in
              let w_at : IsAt all end (access ∷ []) = stands_at all (at + length (index.instrs ++ test ∷ [] ++ is)) end (access ∷ []) w_place
              (at_right all at (index.instrs ++ test ∷ [] ++ is) (access ∷ []) h) in
              let kept = λ (k : ℕ) (j : Instr) (here : slice_get all k ≡ Some j) (low : m < k) (high : k < end).
              all_pass (keeps index.value) all (m + 1) is is_at
              (all_weaker (writes_from index.free) (keeps index.value) (λ j h. keeps_earlier index.free index.value j a.value h) is fresh)
              k j (omega (arith, low)) (omega (arith, high)) here in
              let inside : Block all m (end + 1) =
              accessed_after all m end len index.value access unglued leads_nowhere (may all m (end + 1) end) (at_first all m test [] test_at)
              (at_first all end access [] w_at) kept (b.block all is_at) in
              block_at all at at (end + 1) (at + length (index.instrs ++ test ∷ [] ++ is ++ access ∷ [])) refl (sym size)
              (both_blocks all at m (end + 1) (a.block all (at_left all at index.instrs (test ∷ []) h2)) inside);
        }

    -- the store to an array, or to no array
    store_piece : (at free : ℕ) (o : Option Thing) (i e : Expression) → base ≤ free → IfThere arrays code f base o
        → let index = evaluated scope at free i in
        let test = test_of_index o index.value in
        let v = evaluated scope (at + length index.instrs + length test) index.free e in
        Piece arrays code f at free v.free (index.instrs ++ test ++ v.instrs ++ store o index.value v.value)
    store_piece at free (Some (Array first len)) i e low bounded =
        let index = evaluated scope at free i in
        let v = evaluated scope (at + length index.instrs + 1) index.free e in
        let a = evaluated_sound arrays code f base scope there at free i low in
        let b = evaluated_sound arrays code f base scope there (at + length index.instrs + 1) index.free e (omega (arith, low, a.grows)) in
        let there_is = nat_le (first + len) (length code.memory) && names_slots f.ints index.value in
        guarded_piece at free v.free v.free len index v.instrs (instr.Store (cell.Element first len index.value) v.value) a (omega (arith, bounded.0))
        (value_piece (at + length index.instrs + 1) index.free v b) b.fresh (omega arith) refl refl (λ all s e k t. t) (λ few.
        both_true (is_array arrays first len) (there_is && names_slots f.ints v.value) bounded.1
        (both_true there_is (names_slots f.ints v.value)
        (both_true (nat_le (first + len) (length code.memory)) (names_slots f.ints index.value) (le_true (first + len) (length code.memory) bounded.0)
        (names_more index.value index.free f.ints (omega (arith, few, b.grows)) a.value))
        (names_more v.value v.free f.ints few b.value)))
    store_piece at free _ i e low bounded =
        let index = evaluated scope at free i in
        let v = evaluated scope (at + length index.instrs + 0) index.free e in
        let a = evaluated_sound arrays code f base scope there at free i low in
        let place : at + length index.instrs + 0 ≡ at + length (index.instrs ++ []) = omega (arith, length-append index.instrs []) in
        let b = evaluated_sound arrays code f base scope there (at + length index.instrs + 0) index.free e (omega (arith, low, a.grows)) in
        both_pieces at free v.free v.free (index.instrs ++ [] ++ v.instrs) []
        (both_pieces at free index.free v.free (index.instrs ++ []) v.instrs
        (both_pieces at free index.free index.free index.instrs [] (value_piece at free index a) (no_piece (at + length index.instrs) index.free))
        (subst (λ n. Piece arrays code f n index.free v.free v.instrs) place (value_piece (at + length index.instrs + 0) index.free v b)))
        (no_piece (at + length (index.instrs ++ [] ++ v.instrs)) v.free)

    -- arguments, all of which name existing slots
    record Given (at free : ℕ) (given : Arguments) : Type 0 where
      piece : Piece arrays code f at free given.free given.instrs
      values : IsTrue (list_all (names_slots given.free) given.values)

    arguments_given : (at free : ℕ) (es : List Expression) → base ≤ free → Given at free (arguments scope at free es)
    arguments_given at free [] low = record { piece = no_piece at free; values = refl }
    arguments_given at free (e ∷ es) low =
        let first = evaluated scope at free e in
        let s = evaluated_sound arrays code f base scope there at free e low in
        let others = arguments scope (at + length first.instrs) first.free es in
        let g = arguments_given (at + length first.instrs) first.free es (omega (arith, low, s.grows)) in
        record {
          piece = both_pieces at free first.free others.free first.instrs others.instrs (value_piece at free first s) g.piece;
          values = both_true (names_slots others.free first.value) (list_all (names_slots others.free) others.values)
              (names_more first.value first.free others.free g.piece.grows s.value) g.values;
        }

    created_piece : (at free : ℕ) (h t : Name) (es : List Expression) → base ≤ free
        → let w = created scope at free h t es in Piece arrays code f at free w.free w.instrs
    created_piece at free h t es low =
        let given = arguments scope at free es in
        let g = arguments_given at free es low in
        both_pieces at free given.free given.free given.instrs (creation (scope h) (scope t) given.values) g.piece
        (creation_piece (at + length given.instrs) given.free (scope h) (scope t) given.values (there h) (there t) g.values)

    -- the operands of an update, which name existing slots
    abbrev last_of : Update Expr → Expr
    last_of (update.Swap v) = v
    last_of (update.Cas e v) = v
    last_of (update.Add v) = v

    record Operated (at free : ℕ) (given : Updating) : Type 0 where
      sound : Sound arrays code f at free (record { instrs = given.instrs; value = last_of given.update; free = given.free })
      named : IsTrue (list_all (names_slots given.free) (operands_of given.update))

    one_operated : (at free : ℕ) (make : Expr → Update Expr) (e : Expression) → base ≤ free → ((v : Expr) → last_of (make v) ≡ v)
        → ((v : Expr) → operands_of (make v) ≡ v ∷ []) → Operated at free (over_one make (evaluated scope at free e))
    one_operated at free make e low last only =
        let v = evaluated scope at free e in
        let s = evaluated_sound arrays code f base scope there at free e low in record {
          sound = record {
            grows = s.grows;
            value = subst (λ (w : Expr). IsTrue (names_slots v.free w)) (sym (last v.value)) s.value;
            named = s.named;
            fresh = s.fresh;
            block = s.block;
          };
          named = subst (λ (es : List Expr). IsTrue (list_all (names_slots v.free) es)) (sym (only v.value))
              (both_true (names_slots v.free v.value) true s.value refl);
        }

    operated : (at free : ℕ) (u : Update Expression) → base ≤ free → Operated at free (updating scope at free u)
    operated at free (update.Swap e) low = one_operated at free update.Swap e low (λ v. refl) (λ v. refl)
    operated at free (update.Add e) low = one_operated at free update.Add e low (λ v. refl) (λ v. refl)
    operated at free (update.Cas e new) low =
        let old = evaluated scope at free e in
        let v = evaluated scope (at + length old.instrs) old.free new in
        let a = evaluated_sound arrays code f base scope there at free e low in
        let b = evaluated_sound arrays code f base scope there (at + length old.instrs) old.free new (omega (arith, low, a.grows)) in record {
          sound = after_sound arrays code f at free old v a b;
          named = both_true (names_slots v.free old.value) (names_slots v.free v.value && true) (names_more old.value old.free v.free b.grows a.value)
              (both_true (names_slots v.free v.value) true b.value refl);
        }

    operands_piece : (at free : ℕ) (u : Update Expression) → base ≤ free
        → let given = updating scope at free u in Piece arrays code f at free given.free given.instrs
    operands_piece at free u low =
        let s = (operated at free u low).sound in record { grows = s.grows; named = s.named; block = s.block }

    -- an update of a single cell, or of none
    single_piece : (at free : ℕ) (o q : Option Thing) (u : Update Expression) → base ≤ free → IfThere arrays code f base o → IfThere arrays code f base q
        → let given = updating scope at free u in
        Piece arrays code f at free (given.free + 1) (given.instrs ++ modification o (cell_of q None) given.free given.update)
    single_piece at free (Some (Slot k)) (Some (Cell c)) u low slot bounded =
        let given = updating scope at free u in
        let g = operated at free u low in
        both_pieces at free given.free (given.free + 1) given.instrs _ (operands_piece at free u low)
        (cell_update_piece (at + length given.instrs) given.free k c given.update (omega (arith, low, g.sound.grows)) slot bounded g.named)
    single_piece at free _ _ u low slot bounded =
        let given = updating scope at free u in
        both_pieces at free given.free (given.free + 1) given.instrs _ (operands_piece at free u low) (idle_piece (at + length given.instrs) given.free)

    -- an update of an element, or of none
    element_piece : (at free : ℕ) (o q : Option Thing) (i : Expression) (u : Update Expression) → base ≤ free → IfThere arrays code f base o
        → IfThere arrays code f base q
        → let index = evaluated scope at free i in
        let test = test_of_index q index.value in
        let given = updating scope (at + length (index.instrs ++ test)) index.free u in
        Piece arrays code f at free (given.free + 1)
        (index.instrs ++ test ++ given.instrs ++ modification o (cell_of q (Some index.value)) given.free given.update)
    element_piece at free (Some (Slot k)) (Some (Array first len)) i u low slot bounded =
        let index = evaluated scope at free i in
        let a = evaluated_sound arrays code f base scope there at free i low in
        let test = Inside len index.value in
        let given = updating scope (at + length (index.instrs ++ test ∷ [])) index.free u in
        let place : at + length (index.instrs ++ test ∷ []) ≡ at + length index.instrs + 1 = omega (arith, length-append index.instrs (test ∷ [])) in
        let g = operated (at + length (index.instrs ++ test ∷ [])) index.free u (omega (arith, low, a.grows)) in
        let reached = cell.Element first len index.value in
        let access = instr.Modify given.free reached given.update in
        let before = index.instrs ++ test ∷ [] ++ given.instrs in
        let there_is = λ (few : given.free + 1 ≤ f.ints).
        both_true (nat_le (first + len) (length code.memory)) (names_slots f.ints index.value) (le_true (first + len) (length code.memory) bounded.0)
        (names_more index.value index.free f.ints (omega (arith, few, g.sound.grows)) a.value) in
        subst (Piece arrays code f at free (given.free + 1)) (append_assoc before (access ∷ []) (instr.Set k (code_expr.Slot given.free) ∷ []))
        (both_pieces at free (given.free + 1) (given.free + 1) (before ++ access ∷ []) (instr.Set k (code_expr.Slot given.free) ∷ [])
        (guarded_piece at free given.free (given.free + 1) len index given.instrs access a (omega (arith, bounded.0))
        (subst (λ n. Piece arrays code f n index.free given.free given.instrs) place
        (operands_piece (at + length (index.instrs ++ test ∷ [])) index.free u (omega (arith, low, a.grows)))) g.sound.fresh (omega arith) refl refl
        (λ all s e k t. t) (λ few. update_named given.free reached given.update bounded.1 (there_is few) g.named few))
        (taken_piece (at + length (before ++ access ∷ [])) given.free k (omega (arith, low, a.grows, g.sound.grows)) slot))
    element_piece at free _ q i u low slot bounded =
        let index = evaluated scope at free i in
        let a = evaluated_sound arrays code f base scope there at free i low in
        let test = test_of_index q index.value in
        let given = updating scope (at + length (index.instrs ++ test)) index.free u in
        both_pieces at free given.free (given.free + 1) (index.instrs ++ test ++ given.instrs) _
        (both_pieces at free index.free given.free (index.instrs ++ test) given.instrs
        (both_pieces at free index.free index.free index.instrs test (value_piece at free index a)
        (test_piece (at + length index.instrs) index.free q index.value bounded a.value))
        (operands_piece (at + length (index.instrs ++ test)) index.free u (omega (arith, low, a.grows))))
        (idle_piece (at + length (index.instrs ++ test ++ given.instrs)) given.free)

    modified_piece : (at free : ℕ) (r x : Name) (i : Option Expression) (u : Update Expression) → base ≤ free
        → let w = modified scope at free r x i u in Piece arrays code f at free w.free w.instrs
    modified_piece at free r x None u low =
        let same : at ≡ at + 0 = omega arith in
        subst (λ n. let given = updating scope n free u in
        Piece arrays code f at free (given.free + 1) (given.instrs ++ modification (scope r) (cell_of (scope x) None) given.free given.update)) same
        (single_piece at free (scope r) (scope x) u low (there r) (there x))
    modified_piece at free r x (Some i) u low = element_piece at free (scope r) (scope x) i u low (there r) (there x)

    asserted_piece : (at free : ℕ) (e : Expression) → base ≤ free → let w = asserted scope at free e in Piece arrays code f at free w.free w.instrs
    asserted_piece at free e low =
        let v = evaluated scope at free e in
        let s = evaluated_sound arrays code f base scope there at free e low in
        value_and at free v.free e (instr.Assert v.value ∷ []) low
        (one_piece (at + length v.instrs) v.free v.free (instr.Assert v.value) (omega arith) (λ few. names_more v.value v.free f.ints few s.value) refl (λ
        all k. tt))

    -- ---- statements of statements

    -- a piece in which each instruction has its line
    pub record Lined (at free : ℕ) (l : Lowered) : Type 0 where
      pub piece : Piece arrays code f at free l.free l.instrs
      pub lines : length l.lines ≡ length l.instrs

    on_its_line : (at free line : ℕ) (w : Written) → Piece arrays code f at free w.free w.instrs → Lined at free (on_line line w)
    on_its_line at free line w p = record { piece = p; lines = length-replicate (length w.instrs) line }

    looped_lined : (at free line : ℕ) (test : Evaluated) (body : Lowered) → Sound arrays code f at free test
        → Lined (at + length test.instrs + 1) test.free body → Lined at free (looped line at test body)
    looped_lined at free line test body a b =
        let m = at + length test.instrs in
        let n = m + 1 + length body.instrs in
        let jump = Branch test.value (n + 1) in
        let back = Goto at in
        let body_place : at + length (test.instrs ++ jump ∷ []) ≡ m + 1 = omega (arith, length-append test.instrs (jump ∷ [])) in
        let back_place : at + length (test.instrs ++ jump ∷ [] ++ body.instrs) ≡ n =
        omega (arith, length-append (test.instrs ++ jump ∷ []) body.instrs, length-append test.instrs (jump ∷ [])) in
        let size : at + length (test.instrs ++ jump ∷ [] ++ body.instrs ++ back ∷ []) ≡ n + 1 =
        omega (arith, back_place, length-append (test.instrs ++ jump ∷ [] ++ body.instrs) (back ∷ [])) in
        record {
          piece = record {
            grows = omega (arith, a.grows, b.piece.grows);
            named = λ few.
                all_append (names_apart arrays code f) (test.instrs ++ jump ∷ [] ++ body.instrs) (back ∷ [])
                (all_append (names_apart arrays code f) (test.instrs ++ jump ∷ []) body.instrs
                (all_append (names_apart arrays code f) test.instrs (jump ∷ []) (a.named (omega (arith, few, b.piece.grows)))
                (both_true (names_slots f.ints test.value) true (names_more test.value test.free f.ints (omega (arith, few, b.piece.grows)) a.value) refl))
                (b.piece.named few)) refl;
            block = λ all h.
                let h3 = at_left all at (test.instrs ++ jump ∷ [] ++ body.instrs) (back ∷ []) h in
                let h2 = at_left all at (test.instrs ++ jump ∷ []) body.instrs h3 in
                let jump_at = at_right all at test.instrs (jump ∷ []) h2 in
                let body_at : IsAt all (m + 1) body.instrs = stands_at all (at + length (test.instrs ++ jump ∷ [])) (m + 1) body.instrs body_place
                (at_right all at (test.instrs ++ jump ∷ []) body.instrs h3) in
                let back_at : IsAt all n (back ∷ []) = stands_at all (at + length (test.instrs ++ jump ∷ [] ++ body.instrs)) n (back ∷ []) back_place
                (at_right all at (test.instrs ++ jump ∷ [] ++ body.instrs) (back ∷ []) h) in
                block_at all at at (n + 1) (at + length (test.instrs ++ jump ∷ [] ++ body.instrs ++ back ∷ [])) refl (sym size)
                (looped_back all at m n test.value (at_first all m jump [] jump_at) (at_first all n back [] back_at)
                (a.block all (at_left all at test.instrs (jump ∷ []) h2)) (b.piece.block all body_at));
          };
          lines =
              omega (
                arith,
                b.lines,
                length-append (replicate (length test.instrs + 1) line ++ body.lines) (line ∷ []),
                length-append (replicate (length test.instrs + 1) line) body.lines,
                length-replicate (length test.instrs + 1) line,
                length-append (test.instrs ++ jump ∷ [] ++ body.instrs) (back ∷ []),
                length-append (test.instrs ++ jump ∷ []) body.instrs,
                length-append test.instrs (jump ∷ []),
              );
        }

    branched_lined : (at free line : ℕ) (test : Evaluated) (body : Lowered) (more : Bool) (others : Lowered) → Sound arrays code f at free test
        → Lined (at + length test.instrs + 1) test.free body → Lined (after_body at test body more) body.free others
        → Lined at free (branched line at test body more others)
    branched_lined at free line test body false others a b c =
        let m = at + length test.instrs in
        let n = m + 1 + length body.instrs in
        let next = n + 0 in
        let jump = Branch test.value next in
        let all_instrs = test.instrs ++ jump ∷ [] ++ body.instrs ++ [] ++ others.instrs in
        let body_place : at + length (test.instrs ++ jump ∷ []) ≡ m + 1 = omega (arith, length-append test.instrs (jump ∷ [])) in
        let first_size : at + length (test.instrs ++ jump ∷ [] ++ body.instrs ++ []) ≡ next =
        omega (
          arith,
          length-append (test.instrs ++ jump ∷ [] ++ body.instrs) [],
          length-append (test.instrs ++ jump ∷ []) body.instrs,
          length-append test.instrs (jump ∷ []),
        ) in
        let size : at + length all_instrs ≡ next + length others.instrs =
        omega (arith, first_size, length-append (test.instrs ++ jump ∷ [] ++ body.instrs ++ []) others.instrs) in
        record {
          piece = record {
            grows = omega (arith, a.grows, b.piece.grows, c.piece.grows);
            named = λ few.
                all_append (names_apart arrays code f) (test.instrs ++ jump ∷ [] ++ body.instrs ++ []) others.instrs
                (all_append (names_apart arrays code f) (test.instrs ++ jump ∷ [] ++ body.instrs) []
                (all_append (names_apart arrays code f) (test.instrs ++ jump ∷ []) body.instrs
                (all_append (names_apart arrays code f) test.instrs (jump ∷ []) (a.named (omega (arith, few, b.piece.grows, c.piece.grows)))
                (both_true (names_slots f.ints test.value) true
                (names_more test.value test.free f.ints (omega (arith, few, b.piece.grows, c.piece.grows)) a.value) refl))
                (b.piece.named (omega (arith, few, c.piece.grows)))) refl)
                (c.piece.named few);
            block = λ all h.
                let h4 = at_left all at (test.instrs ++ jump ∷ [] ++ body.instrs ++ []) others.instrs h in
                let h3 = at_left all at (test.instrs ++ jump ∷ [] ++ body.instrs) [] h4 in
                let h2 = at_left all at (test.instrs ++ jump ∷ []) body.instrs h3 in
                let jump_at = at_right all at test.instrs (jump ∷ []) h2 in
                let body_at : IsAt all (m + 1) body.instrs = stands_at all (at + length (test.instrs ++ jump ∷ [])) (m + 1) body.instrs body_place
                (at_right all at (test.instrs ++ jump ∷ []) body.instrs h3) in
                let others_at : IsAt all next others.instrs = stands_at all (at + length (test.instrs ++ jump ∷ [] ++ body.instrs
                ++ [])) next others.instrs first_size
                (at_right all at (test.instrs ++ jump ∷ [] ++ body.instrs ++ []) others.instrs h) in
                let body_block : Block all (m + 1) next = block_at all (m + 1) (m + 1) n next refl (omega arith) (b.piece.block all body_at) in
                block_at all at at (next + length others.instrs) (at + length all_instrs) refl (sym size)
                (both_blocks all at next (next + length others.instrs)
                (both_blocks all at m next (a.block all (at_left all at test.instrs (jump ∷ []) h2))
                (skipped all m next test.value (at_first all m jump [] jump_at) body_block))
                (c.piece.block all others_at));
          };
          lines =
              omega (
                arith,
                b.lines,
                c.lines,
                length-append (replicate (length test.instrs + 1) line ++ body.lines ++ []) others.lines,
                length-append (replicate (length test.instrs + 1) line ++ body.lines) [],
                length-append (replicate (length test.instrs + 1) line) body.lines,
                length-replicate (length test.instrs + 1) line,
                size,
              );
        }
    branched_lined at free line test body true others a b c =
        let m = at + length test.instrs in
        let n = m + 1 + length body.instrs in
        let next = n + 1 in
        let end = next + length others.instrs in
        let jump = Branch test.value next in
        let past = Goto end in
        let all_instrs = test.instrs ++ jump ∷ [] ++ body.instrs ++ past ∷ [] ++ others.instrs in
        let body_place : at + length (test.instrs ++ jump ∷ []) ≡ m + 1 = omega (arith, length-append test.instrs (jump ∷ [])) in
        let past_place : at + length (test.instrs ++ jump ∷ [] ++ body.instrs) ≡ n =
        omega (arith, length-append (test.instrs ++ jump ∷ []) body.instrs, length-append test.instrs (jump ∷ [])) in
        let others_place : at + length (test.instrs ++ jump ∷ [] ++ body.instrs ++ past ∷ []) ≡ next =
        omega (arith, past_place, length-append (test.instrs ++ jump ∷ [] ++ body.instrs) (past ∷ [])) in
        let size : at + length all_instrs ≡ end =
        omega (arith, others_place, length-append (test.instrs ++ jump ∷ [] ++ body.instrs ++ past ∷ []) others.instrs) in
        record {
          piece = record {
            grows = omega (arith, a.grows, b.piece.grows, c.piece.grows);
            named = λ few.
                all_append (names_apart arrays code f) (test.instrs ++ jump ∷ [] ++ body.instrs ++ past ∷ []) others.instrs
                (all_append (names_apart arrays code f) (test.instrs ++ jump ∷ [] ++ body.instrs) (past ∷ [])
                (all_append (names_apart arrays code f) (test.instrs ++ jump ∷ []) body.instrs
                (all_append (names_apart arrays code f) test.instrs (jump ∷ []) (a.named (omega (arith, few, b.piece.grows, c.piece.grows)))
                (both_true (names_slots f.ints test.value) true
                (names_more test.value test.free f.ints (omega (arith, few, b.piece.grows, c.piece.grows)) a.value) refl))
                (b.piece.named (omega (arith, few, c.piece.grows)))) refl)
                (c.piece.named few);
            block = λ all h.
                let h4 = at_left all at (test.instrs ++ jump ∷ [] ++ body.instrs ++ past ∷ []) others.instrs h in
                let h3 = at_left all at (test.instrs ++ jump ∷ [] ++ body.instrs) (past ∷ []) h4 in
                let h2 = at_left all at (test.instrs ++ jump ∷ []) body.instrs h3 in
                let jump_at = at_right all at test.instrs (jump ∷ []) h2 in
                let body_at : IsAt all (m + 1) body.instrs = stands_at all (at + length (test.instrs ++ jump ∷ [])) (m + 1) body.instrs body_place
                (at_right all at (test.instrs ++ jump ∷ []) body.instrs h3) in
                let past_at : IsAt all n (past ∷ []) = stands_at all (at + length (test.instrs ++ jump ∷ [] ++ body.instrs)) n (past ∷ []) past_place
                (at_right all at (test.instrs ++ jump ∷ [] ++ body.instrs) (past ∷ []) h4) in
                let others_at : IsAt all next others.instrs =
                stands_at all (at + length (test.instrs ++ jump ∷ [] ++ body.instrs ++ past ∷ [])) next others.instrs others_place
                (at_right all at (test.instrs ++ jump ∷ [] ++ body.instrs ++ past ∷ []) others.instrs h) in
                block_at all at at end (at + length all_instrs) refl (sym size)
                (both_blocks all at m end (a.block all (at_left all at test.instrs (jump ∷ []) h2))
                (forked all m n end test.value (at_first all m jump [] jump_at) (at_first all n past [] past_at) (b.piece.block all body_at)
                (c.piece.block all others_at)));
          };
          lines =
              omega (
                arith,
                b.lines,
                c.lines,
                length-append (replicate (length test.instrs + 1) line ++ body.lines ++ line ∷ []) others.lines,
                length-append (replicate (length test.instrs + 1) line ++ body.lines) (line ∷ []),
                length-append (replicate (length test.instrs + 1) line) body.lines,
                length-replicate (length test.instrs + 1) line,
                size,
              );
        }

    mutual
      pub lowered_lined : (at free : ℕ) (s : Statement) → base ≤ free → Lined at free (lowered scope at free s)
      lowered_lined at free (grammar.Assign x e) low = on_its_line at free x.place.line (assigned scope at free x e) (assigned_piece at free x e low)
      lowered_lined at free (grammar.Store a i e) low = on_its_line at free a.place.line (stored scope at free a i e) (store_piece at free (scope a) i e low
          (there a))
      lowered_lined at free (grammar.Create h t es) low = on_its_line at free h.place.line (created scope at free h t es) (created_piece at free h t es low)
      lowered_lined at free (grammar.Modify r x i u) low =
          on_its_line at free r.place.line (modified scope at free r x i u) (modified_piece at free r x i u low)
      lowered_lined at free (grammar.Act p a x) low =
          on_its_line at free p.line (record { instrs = action a (scope x); free = free }) (action_piece at free a (scope x) (there x))
      lowered_lined at free (grammar.Wait p c m) low =
          on_its_line at free p.line (record { instrs = wait (scope c) (scope m); free = free }) (wait_piece at free (scope c) (scope m) (there c) (there m))
      lowered_lined at free (grammar.Order p b) low =
          on_its_line at free p.line (record { instrs = barrier b ∷ []; free = free }) (barrier_piece at free b)
      lowered_lined at free (grammar.Assert p e) low = on_its_line at free p.line (asserted scope at free e) (asserted_piece at free e low)
      lowered_lined at free (grammar.While p c b q) low =
          let test = evaluated scope at free c in
          let s = evaluated_sound arrays code f base scope there at free c low in
          looped_lined at free p.line test (all_lowered scope (at + length test.instrs + 1) test.free b) s
          (all_lined (at + length test.instrs + 1) test.free b (omega (arith, low, s.grows)))
      lowered_lined at free (grammar.If p c b q o) low =
          let test = evaluated scope at free c in
          let s = evaluated_sound arrays code f base scope there at free c low in
          let body = all_lowered scope (at + length test.instrs + 1) test.free b in
          let l = all_lined (at + length test.instrs + 1) test.free b (omega (arith, low, s.grows)) in
          let next = after_body at test body (goes_on o) in
          branched_lined at free p.line test body (goes_on o) (lowered_otherwise scope next body.free o) s l
          (otherwise_lined next body.free o (omega (arith, low, s.grows, l.piece.grows)))

      pub all_lined : (at free : ℕ) (ss : Statements) → base ≤ free → Lined at free (all_lowered scope at free ss)
      all_lined at free Nil low = record { piece = no_piece at free; lines = refl }
      all_lined at free (Cons s ss) low =
          let first = lowered scope at free s in
          let l = lowered_lined at free s low in
          let others = all_lowered scope (at + length first.instrs) first.free ss in
          let m = all_lined (at + length first.instrs) first.free ss (omega (arith, low, l.piece.grows)) in
          record {
            piece = both_pieces at free first.free others.free first.instrs others.instrs l.piece m.piece;
            lines = omega (arith, l.lines, m.lines, length-append first.lines others.lines, length-append first.instrs others.instrs);
          }

      pub otherwise_lined : (at free : ℕ) (o : Otherwise) → base ≤ free → Lined at free (lowered_otherwise scope at free o)
      otherwise_lined at free Nothing low = record { piece = no_piece at free; lines = refl }
      otherwise_lined at free (Else b q) low = all_lined at free b low
      otherwise_lined at free (ElseIf p c b q o) low =
          let test = evaluated scope at free c in
          let s = evaluated_sound arrays code f base scope there at free c low in
          let body = all_lowered scope (at + length test.instrs + 1) test.free b in
          let l = all_lined (at + length test.instrs + 1) test.free b (omega (arith, low, s.grows)) in
          let next = after_body at test body (goes_on o) in
          branched_lined at free p.line test body (goes_on o) (lowered_otherwise scope next body.free o) s l
          (otherwise_lined next body.free o (omega (arith, low, s.grows, l.piece.grows)))
