-- Lawful code: the rules that it obeys.
use Rattle.std.specs.Prelude.{◌≡◌, ℕ, zero, suc, ◌+◌, ◌-◌, ◌<◌, ◌≤◌, List, [], ◌∷◌, ◌++◌, length, nat_lt, nat_le, ◌==◌}
use Rattle.std.specs.Prelude.{Bool, true, false, not, ◌&&◌, ◌||◌, pos, IsTrue, Option, Some, None, slice_get}
use Rattle.std.specs.List.{All, list_all, list_any}
use Rattle.std.specs.Option.{option_map_or}
use Rattle.int_ops.specs.Arith.{IsInt}
use Rattle.int_ops.specs.Updates.{operands_of}
use Rattle.tc_limits.specs.declared.limits.TheConstants.{CELLS}
use Rattle.tc_code.specs.Expr.{Expr, HasInts, names_slots, names_slot}
use Rattle.tc_code.specs.declared.cell.Cell.{Cell}
use Rattle.tc_code.specs.declared.cell.Cell.TheVariants.{Fixed, Element}
use Rattle.tc_code.specs.declared.instr.Instr.{Instr}
use Rattle.tc_code.specs.declared.instr.Instr.TheVariants.{Set, Load, Store, Inside, Branch, Goto, Holds, Lock, Unlock, Sleep, Wake}
use Rattle.tc_code.specs.declared.instr.Instr.TheVariants.{Signal, Broadcast, Create, Ready, Join, Assert, Nonzero, InRange, Modify, Fence, Stbar, Exit}
use Rattle.tc_code.specs.Code.{Code}
use Rattle.tc_code.specs.declared.code.Func.{Func}

-- whether function f exists and has n parameters
abbrev pub takes : Code → ℕ → ℕ → Bool
takes code f n = option_map_or (λ g. g.params == n) (slice_get code.functions f) false

-- whether a cell exists, or an array and the slots of an index
abbrev pub has_cell : Code → Func → Cell Expr → Bool
has_cell code f (Fixed c) = nat_lt c (length code.memory)
has_cell code f (Element a len i) = nat_le (a + len) (length code.memory) && names_slots f.ints i

-- whether everything that an instruction names exists, except the target of a jump
abbrev pub names_what_is : Code → Func → Instr → Bool
names_what_is code f (Set k e) = nat_lt k f.ints && names_slots f.ints e
names_what_is code f (Load k c) = nat_lt k f.ints && has_cell code f c
names_what_is code f (Store c e) = has_cell code f c && names_slots f.ints e
names_what_is code f (Inside len i) = nat_le len (length code.memory) && names_slots f.ints i
names_what_is code f (Branch e to) = names_slots f.ints e
names_what_is code f (Goto to) = true
names_what_is code f (Holds m) = nat_lt m code.mutexes
names_what_is code f (Lock m) = nat_lt m code.mutexes
names_what_is code f (Unlock m) = nat_lt m code.mutexes
names_what_is code f (Sleep c m) = nat_lt c code.conditions && nat_lt m code.mutexes
names_what_is code f (Wake c m) = nat_lt c code.conditions && nat_lt m code.mutexes
names_what_is code f (Signal c) = nat_lt c code.conditions
names_what_is code f (Broadcast c) = nat_lt c code.conditions
names_what_is code f (Create h g es) =
    nat_lt h f.handles && takes code g (length es) && list_all (names_slots f.ints) es
names_what_is code f (Ready h) = nat_lt h f.handles
names_what_is code f (Join h) = nat_lt h f.handles
names_what_is code f (Assert e) = names_slots f.ints e
names_what_is code f (Nonzero e) = names_slots f.ints e
names_what_is code f (InRange e) = names_slots f.ints e
names_what_is code f (Modify k c u) =
    nat_lt k f.ints && has_cell code f c && list_all (names_slots f.ints) (operands_of u)
names_what_is code f Fence = true
names_what_is code f Stbar = true
names_what_is code f Exit = true

-- an array: its first cell, and how many cells it has
pub record Array : Type 0 where
  pub first : ℕ
  pub length : ℕ

-- whether a cell is outside an array
abbrev pub is_outside : ℕ → Array → Bool
is_outside c a = nat_lt c a.first || nat_le (a.first + a.length) c

-- whether these cells are exactly one of the arrays
abbrev pub is_array : List Array → (first length : ℕ) → Bool
is_array arrays first n = list_any (λ a. a.first == first && a.length == n) arrays

-- the cell that an instruction accesses, if it accesses one
abbrev pub accessed : Instr → Option (Cell Expr)
accessed (Load k c) = Some c
accessed (Store c e) = Some c
accessed (Modify k c u) = Some c
accessed _ = None

-- whether a single cell is in no array, and the array of an element is one of these
abbrev pub is_apart : List Array → Cell Expr → Bool
is_apart arrays (Fixed c) = list_all (is_outside c) arrays
is_apart arrays (Element a len i) = is_array arrays a len

-- whether the cell that an instruction accesses, if any, is apart
abbrev pub keeps_apart : List Array → Instr → Bool
keeps_apart arrays i = option_map_or (is_apart arrays) (accessed i) true

-- the index of an element
abbrev pub index_of : Cell Expr → List Expr
index_of (Fixed c) = []
index_of (Element a len i) = i ∷ []

-- the expressions of an instruction
abbrev pub exprs_of : Instr → List Expr
exprs_of (Set k e) = e ∷ []
exprs_of (Load k c) = index_of c
exprs_of (Store c e) = index_of c ++ e ∷ []
exprs_of (Inside len i) = i ∷ []
exprs_of (Branch e to) = e ∷ []
exprs_of (Goto to) = []
exprs_of (Holds m) = []
exprs_of (Lock m) = []
exprs_of (Unlock m) = []
exprs_of (Sleep c m) = []
exprs_of (Wake c m) = []
exprs_of (Signal c) = []
exprs_of (Broadcast c) = []
exprs_of (Create h g es) = es
exprs_of (Ready h) = []
exprs_of (Join h) = []
exprs_of (Assert e) = e ∷ []
exprs_of (Nonzero e) = e ∷ []
exprs_of (InRange e) = e ∷ []
exprs_of (Modify k c u) = index_of c ++ operands_of u
exprs_of Fence = []
exprs_of Stbar = []
exprs_of Exit = []

-- whether an instruction belongs to the one directly before it, so that no jump may lead to it
abbrev pub is_bound : Instr → Bool
is_bound (Unlock m) = true
is_bound (Sleep c m) = true
is_bound (Wake c m) = true
is_bound (Join h) = true
is_bound _ = false

-- the slot that an instruction writes, if it writes one
abbrev pub written : Instr → Option ℕ
written (Set k e) = Some k
written (Load k c) = Some k
written (Store c e) = None
written (Inside len i) = None
written (Branch e to) = None
written (Goto to) = None
written (Holds m) = None
written (Lock m) = None
written (Unlock m) = None
written (Sleep c m) = None
written (Wake c m) = None
written (Signal c) = None
written (Broadcast c) = None
written (Create h g es) = None
written (Ready h) = None
written (Join h) = None
written (Assert e) = None
written (Nonzero e) = None
written (InRange e) = None
written (Modify k c u) = Some k
written Fence = None
written Stbar = None
written Exit = None

-- the target of an instruction that may jump
abbrev pub target : Instr → Option ℕ
target (Branch e to) = Some to
target (Goto to) = Some to
target _ = None

-- whether an instruction writes no slot of the expression
abbrev pub keeps : Expr → Instr → Bool
keeps e i = option_map_or (λ k. not (names_slot k e)) (written i) true

-- the instruction directly before place k is i
abbrev pub StandsBefore : List Instr → ℕ → Instr → Type 0
StandsBefore is zero i = ⊥
StandsBefore is (suc k) i = slice_get is k ≡ Some i

-- a jump may lead to place k: an instruction is there, and it isn't bound to the one before it
pub record IsTarget (is : List Instr) (k : ℕ) : Type 0 where
  pub instr : Instr
  pub there : slice_get is k ≡ Some instr
  pub unbound : is_bound instr ≡ false

-- the index test at a place guards the access at k: in between, nothing writes a slot of the index,
-- and every jump that leads there also comes from there
pub record Guards (is : List Instr) (len : ℕ) (index : Expr) (place k : ℕ) : Type 0 where
  pub before : place < k
  pub test : slice_get is place ≡ Some (Inside len index)
  pub kept : (at : ℕ) (i : Instr) → slice_get is at ≡ Some i → place < at → at < k
      → IsTrue (keeps index i)
  pub enters : (from to : ℕ) (i : Instr) → slice_get is from ≡ Some i → target i ≡ Some to
      → place < to → to ≤ k → (place < from) × (from < k)

-- some test guards the index of the access at k
abbrev pub IsGuarded : List Instr → ℕ → Expr → ℕ → Type 0
IsGuarded is len index k = (place : ℕ) × Guards is len index place k

pub record IsLawfulFunction (code : Code) (f : Func) : Type 0 where
  -- each instruction has its line
  pub lines : length f.lines ≡ length f.instrs
  -- parameters are int slots
  pub params : f.params ≤ f.ints
  -- everything that an instruction names exists
  pub names : (k : ℕ) (i : Instr) → slice_get f.instrs k ≡ Some i → IsTrue (names_what_is code f i)
  -- every number in its expressions is an int
  pub ints : (k : ℕ) (i : Instr) → slice_get f.instrs k ≡ Some i → All HasInts (exprs_of i)
  -- a jump leads to an instruction that isn't bound to the one before it
  pub jump : (k to : ℕ) (i : Instr) → slice_get f.instrs k ≡ Some i → target i ≡ Some to
      → IsTarget f.instrs to
  -- an unlock, or the start of a wait, directly follows the test that the thread holds the mutex
  pub unlock : (k m : ℕ) → slice_get f.instrs k ≡ Some (Unlock m)
      → StandsBefore f.instrs k (Holds m)
  pub sleep : (k c m : ℕ) → slice_get f.instrs k ≡ Some (Sleep c m)
      → StandsBefore f.instrs k (Holds m)
  -- the two halves of a wait are adjacent
  pub wait : (k c m : ℕ) → slice_get f.instrs k ≡ Some (Sleep c m)
      → slice_get f.instrs (k + 1) ≡ Some (Wake c m)
  pub wake : (k c m : ℕ) → slice_get f.instrs k ≡ Some (Wake c m)
      → StandsBefore f.instrs k (Sleep c m)
  -- a join directly follows the test that the child can be joined
  pub join : (k h : ℕ) → slice_get f.instrs k ≡ Some (Join h) → StandsBefore f.instrs k (Ready h)
  -- the index of every array access is guarded by a test
  pub access : (k first len : ℕ) (i : Instr) (index : Expr) → slice_get f.instrs k ≡ Some i
      → accessed i ≡ Some (Element first len index) → IsGuarded f.instrs len index k
  -- the last instruction is an exit, and no other is
  pub last : slice_get f.instrs (length f.instrs - 1) ≡ Some Exit
  pub only : (k : ℕ) → slice_get f.instrs k ≡ Some Exit → k + 1 ≡ length f.instrs

-- main exists: it is the last function, and has no parameters
pub record HasMain (code : Code) : Type 0 where
  pub main : Func
  pub there : slice_get code.functions (length code.functions - 1) ≡ Some main
  pub params : main.params ≡ 0

-- memory has single cells and arrays; arrays don't overlap, start as 0, and are named as a whole
pub record HasArrays (code : Code) : Type 0 where
  pub arrays : List Array
  pub apart : (j k : ℕ) (a b : Array) → slice_get arrays j ≡ Some a → slice_get arrays k ≡ Some b
      → j < k → a.first + a.length ≤ b.first
  pub zero : (j k : ℕ) (a : Array) → slice_get arrays j ≡ Some a → k < a.length
      → slice_get code.memory (a.first + k) ≡ Some (pos 0)
  pub named : (f k : ℕ) (g : Func) (i : Instr) → slice_get code.functions f ≡ Some g
      → slice_get g.instrs k ≡ Some i
      → IsTrue (keeps_apart arrays i)

pub record IsLawful (code : Code) : Type 0 where
  pub cells : length code.memory ≤ CELLS
  -- each cell starts as an int
  pub ints : All IsInt code.memory
  pub functions : (f : ℕ) (g : Func) → slice_get code.functions f ≡ Some g → IsLawfulFunction code g
  pub arrays : HasArrays code
  pub main : HasMain code
