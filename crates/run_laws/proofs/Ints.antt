-- In a run of lawful code all values are ints.
use Rattle.std.proofs.Common.{◌≡◌, ◌∙◌, inl, inr, ℕ, ◌+◌, ◌-◌, length, ℤ, pos, List, [], ◌∷◌, ◌++◌, map, Bool, true, false, Option}
use Rattle.std.proofs.Common.{Some, None, refl, sym, subst}
use Rattle.std.specs.Prelude.{unwrap_or}
use Rattle.std.specs.List.{All}
use Rattle.std.specs.Option.{option_map_or}
use Rattle.std.specs.FinMap as fin
use Rattle.std.proofs.lemmas.Bool.{cond_both}
use Rattle.std.proofs.lemmas.List.Elements.{All-nil, All-cons, All-head, All-tail, All-append, All-replicate, All-set, All-weaker, All-map}
use Rattle.std.proofs.lemmas.Option.{none-some}
use Rattle.tc_code.specs.int_ops.Arith.{IsInt}
use Rattle.tc_code.specs.int_ops.Updates.{operands_of}
use Rattle.tc_code.specs.int_ops.declared.update.Update.{Update}
use Rattle.tc_code.specs.tc_base.Names.{Name, by_name, main, child}
use Rattle.tc_code.specs.tc_base.Buffers.{BufferOps}
use Rattle.tc_code.specs.tc_base.States.{Local, Thread, State}
use Rattle.tc_code.specs.tc_base.declared.moves.Move.{Move}
use Rattle.tc_code.specs.tc_base.declared.moves.Move.TheVariants as move
use Rattle.tc_code.specs.tc_base.declared.request.Request.{Request}
use Rattle.tc_code.specs.tc_base.declared.request.Request.TheVariants.{Read, Write, Exchange, Bar, Start, Fail}
use Rattle.tc_code.proofs.int_ops.Ints.{there_int, truth_int}
use Rattle.tc_code.proofs.int_ops.Updates.{updated_int, operands-with}
use Rattle.tc_code.specs.Expr.{Expr, value_of, HasInts}
use Rattle.tc_code.specs.declared.cell.Cell.{Cell}
use Rattle.tc_code.specs.declared.cell.Cell.TheVariants.{Fixed, Element}
use Rattle.tc_code.specs.declared.instr.Instr.{Instr}
use Rattle.tc_code.specs.declared.instr.Instr.TheVariants.{Set, Load, Store, Inside, Branch, Holds, Signal, Create}
use Rattle.tc_code.specs.declared.instr.Instr.TheVariants.{Ready, Assert, Nonzero, InRange, Modify}
use Rattle.tc_code.specs.Code.{Code}
use Rattle.tc_code.specs.Lawful.{exprs_of, index_of, IsLawful}
use Rattle.tc_code.specs.Step.{request, site, step_in_place, value_in, local_after, arguments_of, instr_of, in_memory, ints_of, loaded, born}
use Rattle.tc_code.specs.Step.{perform, with_thread, state_after_step, state_after_exchange, step, opening}
use Rattle.tc_code.specs.Run.{IsReached}
use Rattle.tc_code.proofs.Facts.{placed_next, step_is_reached}
use Rattle.tc_code.proofs.Ints.{value_int}
use Rattle.run_laws.specs.Alone.{same, taken_by, taken_in, taken_from}
use Rattle.run_laws.specs.Ints.{AsksInts, HoldsInts, Empty, Issued, Barred, Drained, PassesInts, ThreadHasInts, StateHasInts}
use Rattle.run_laws.proofs.Basics.{either}
use Rattle.run_laws.proofs.Names.{get_put_cases}
use Rattle.run_laws.proofs.After.{branch_is}
use Rattle.run_laws.proofs.Steps.{Went, step_went, holds_in_reached}

-- the next instruction of a thread computes only with ints
pub ints_next : (code : Code) (t : Local) (i : Instr) (lawful : IsLawful code) (at : instr_of code t ≡ Some i) → All HasInts (exprs_of i)
ints_next code t i lawful at = let placed = placed_next code t i lawful at in placed.lawful.ints t.instruction i placed.at

-- 0 is an int
pub zero_int : IsInt (pos 0)
zero_int = truth_int false

-- expressions over ints have ints as values
values_int : (es : List Expr) (slots : List ℤ) → All HasInts es → All IsInt slots → All IsInt (map (λ e. value_of e slots) es)
values_int es slots i are =
    All-map IsInt (λ e. value_of e slots) es (All-weaker HasInts (λ e. IsInt (value_of e slots)) (λ e is. value_int e slots is are) es i)

module _ (t : Local) (are : All IsInt t.slots) where
  first_int : (e : Expr) (es : List Expr) → All HasInts (e ∷ es) → IsInt (value_in t e)
  first_int e es is = value_int e t.slots (All-head HasInts e es is) are

  after_index : (c : Cell Expr) (es : List Expr) → All HasInts (index_of c ++ es) → All HasInts es
  after_index (Fixed c) es is = is
  after_index (Element a len i) es is = All-tail HasInts i es is

  site_asks_ints : (b : Bool) → AsksInts (site b)
  site_asks_ints true = tt
  site_asks_ints false = tt

  -- an instruction over ints requests ints
  pub asks_ints : (i : Instr) → All HasInts (exprs_of i) → AsksInts (request t i)
  asks_ints (Store c e) is = first_int e [] (after_index c (e ∷ []) is)
  asks_ints (Modify k c u) is =
      subst (All IsInt) (sym (operands-with (value_in t) u)) (values_int (operands_of u) t.slots (after_index c (operands_of u) is) are)
  asks_ints (Inside len i) is = site_asks_ints _
  asks_ints (Holds m) is = site_asks_ints _
  asks_ints (Ready h) is = site_asks_ints _
  asks_ints (Assert e) is = site_asks_ints _
  asks_ints (Nonzero e) is = site_asks_ints _
  asks_ints (InRange e) is = site_asks_ints _
  asks_ints i is = tt

  -- it hands ints to a child
  arguments_int : (i : Instr) → All HasInts (exprs_of i) → All IsInt (arguments_of t i)
  arguments_int (Create h f es) is = values_int es t.slots is are
  arguments_int i is = All-nil IsInt

  -- the slots hold ints after an instruction, if the value that it takes is an int
  pub after_int : (i : Instr) (v : ℤ) → All HasInts (exprs_of i) → IsInt v → All IsInt (local_after t i v).slots
  after_int (Set k e) v is int = All-set IsInt t.slots k _ (first_int e [] is) are
  after_int (Load k c) v is int = All-set IsInt t.slots k v int are
  after_int (Modify k c u) v is int = All-set IsInt t.slots k v int are
  after_int (Branch e to) v is int = subst (λ u. All IsInt u.slots) (sym (branch_is t _ to)) are
  after_int i v is int = are

module _ {B : Type 0} (ops : BufferOps B) (code : Code) (passes : PassesInts ops) where
  -- a thread that begins with ints has only ints
  born_ints : (f : ℕ) (vs : List ℤ) → All IsInt vs → ThreadHasInts ops (born ops code f vs)
  born_ints f vs are = record {
    slots = All-append IsInt vs _ are (All-replicate IsInt (ints_of code f - length vs) (pos 0) zero_int);
    buffer = Empty;
  }

  module _ (s : State B) (has : StateHasInts ops s) where
    -- putting in a thread with ints keeps a state's values ints
    put_ints : (n : Name) (t : Thread B) → ThreadHasInts ops t → StateHasInts ops (with_thread s n t)
    put_ints n t ints = record {
      memory = has.memory;
      threads = λ q u there.
          elim (get_put_cases s.threads n t q u there) [
            | inl is ↦ subst (ThreadHasInts ops) is.1 ints
            | inr was ↦ has.threads q u was.1
          ];
    }

    -- each value in memory is an int
    pub in_memory_int : (c : ℕ) → IsInt (in_memory s c)
    in_memory_int c = there_int s.memory c has.memory

    -- each value that a load takes is an int
    pub loaded_int : (t : Thread B) (c : ℕ) → ThreadHasInts ops t → IsInt (loaded ops s t c)
    loaded_int t c ints = by (ops.forward t.buffer c) refl
      where
        by : (o : Option ℤ) → ops.forward t.buffer c ≡ o → IsInt (unwrap_or o (in_memory s c))
        by None is = in_memory_int c
        by (Some v) is = passes.forwards t.buffer c v ints.buffer is

    taken_by_int : (t : Thread B) (r : Request) → ThreadHasInts ops t → All IsInt (taken_by ops code s t r)
    taken_by_int t (Read c) ints = All-cons IsInt _ [] (loaded_int t c ints) (All-nil IsInt)
    taken_by_int t (Exchange c u) ints = All-cons IsInt _ [] (in_memory_int c) (All-nil IsInt)
    taken_by_int t r ints = All-nil IsInt

    -- the values that a thread takes in a move are ints
    taken_in_int : (q : Name) (m : Move) → All IsInt (taken_in ops code s q m)
    taken_in_int q (move.Run n) = either (All IsInt) (same q n) _ _ (by_thread (fin.get s.threads n) refl) (All-nil IsInt)
      where
        by_instr : (t : Thread B) → ThreadHasInts ops t → (o : Option Instr) → All IsInt (option_map_or (λ i. taken_by ops code s t (request t.local i)) o [])
        by_instr t ints None = All-nil IsInt
        by_instr t ints (Some i) = taken_by_int t (request t.local i) ints

        by_thread : (o : Option (Thread B)) → fin.get s.threads n ≡ o
            → All IsInt (option_map_or (λ t. option_map_or (λ i. taken_by ops code s t (request t.local i)) (instr_of code t.local) []) o [])
        by_thread None there = All-nil IsInt
        by_thread (Some t) there = by_instr t (has.threads n t there) (instr_of code t.local)
    taken_in_int q (move.Wake n v) = All-nil IsInt
    taken_in_int q (move.Drain n form) = All-nil IsInt

  module _ (s : State B) (n : Name) (t : Thread B) (i : Instr) (has : StateHasInts ops s) (ints : ThreadHasInts ops t) (is : All HasInts (exprs_of i)) where
    -- an instruction that takes an int keeps a state's values ints
    does_ints : (v : ℤ) (b : B) → IsInt v → HoldsInts ops b → StateHasInts ops (with_thread s n (record { local = local_after t.local i v; buffer = b }))
    does_ints v b int holds = put_ints s has n _ (record { slots = after_int t.local ints.slots i v is int; buffer = holds })

    did_ints : StateHasInts ops (state_after_step ops s n t i)
    did_ints = does_ints (pos 0) t.buffer zero_int ints.buffer

    exchanged_ints : (c : ℕ) (u : Update ℤ) → All IsInt (operands_of u) → StateHasInts ops (state_after_exchange ops s n t i c u)
    exchanged_ints c u asks = record {
      memory = All-set IsInt s.memory c _ (updated_int u (in_memory s c) asks (in_memory_int s has c)) has.memory;
      threads = (does_ints (in_memory s c) t.buffer (in_memory_int s has c) ints.buffer).threads;
    }

    performed_ints : (r : Request) → AsksInts r → StateHasInts ops (perform ops code s n t i r)
    performed_ints (Read c) asks = does_ints (loaded ops s t c) t.buffer (loaded_int s has t c ints) ints.buffer
    performed_ints (Write c v) asks =
        cond_both ops.buffered _ _ (StateHasInts ops)
        (λ buffered. does_ints (pos 0) (ops.issue t.buffer c v) zero_int (Issued t.buffer c v buffered ints.buffer asks))
        (λ _. record { memory = All-set IsInt s.memory c v asks has.memory; threads = did_ints.threads })
    performed_ints (Exchange c u) asks = exchanged_ints c u asks
    performed_ints Bar asks = does_ints (pos 0) (ops.bar t.buffer) zero_int (Barred t.buffer ints.buffer)
    performed_ints (Start f) asks =
        put_ints (state_after_step ops s n t i) did_ints (child n (t.local.children + 1)) _ (born_ints f _ (arguments_int t.local ints.slots i is))
    performed_ints Fail asks =
        let failed = put_ints s has n (record t { local = step_in_place t.local }) (record { slots = ints.slots; buffer = ints.buffer }) in
        record { memory = failed.memory; threads = failed.threads }
    performed_ints r asks = record { memory = did_ints.memory; threads = did_ints.threads }

  module _ (lawful : IsLawful code) where
    -- each move of lawful code keeps a state's values ints
    went_ints : (s u : State B) (m : Move) → Went ops code s u m → StateHasInts ops s → StateHasInts ops u
    went_ints s u (move.Run n) w has =
        let ints = has.threads n w.thread w.there in
        let is = ints_next code w.thread.local w.instr lawful w.at in
        subst (StateHasInts ops) (sym w.after)
        (performed_ints s n w.thread w.instr has ints is (request w.thread.local w.instr) (asks_ints w.thread.local ints.slots w.instr is))
    went_ints s u (move.Wake n v) w has =
        let does = did_ints s n w.thread (Signal w.condition) has (has.threads n w.thread w.there) (All-nil HasInts) in
        subst (StateHasInts ops) (sym w.after) (record { memory = does.memory; threads = does.threads })
    went_ints s u (move.Drain n form) w has =
        let ints = has.threads n w.thread w.there in
        let rest = put_ints s has n (record (w.thread) { buffer = (ops.drain w.thread.buffer form).rest })
        (record { slots = ints.slots; buffer = Drained w.thread.buffer form w.may ints.buffer }) in
        subst (StateHasInts ops) (sym w.after)
        (record { memory = All-set IsInt s.memory _ _ (passes.drains w.thread.buffer form ints.buffer w.may) has.memory; threads = rest.threads })

    opening_ints : StateHasInts ops (opening ops code)
    opening_ints = record {
      memory = lawful.ints;
      threads = λ n t there.
          elim (get_put_cases fin.empty main _ n t there) [
            | inl is ↦ subst (ThreadHasInts ops) is.1 (born_ints _ [] (All-nil IsInt))
            | inr was ↦ absurd (none-some t (sym (fin.get-empty by_name n) ∙ was.1))
          ];
    }

    -- in each reached state memory, slots and buffers have ints
    pub values_are_ints : (s : State B) → IsReached ops code s → StateHasInts ops s
    values_are_ints = holds_in_reached ops code (StateHasInts ops) opening_ints (λ s u m r one has. went_ints s u m (step_went ops code s u m one) has)

    -- the next request of a thread has only ints
    pub requests_have_ints : (s : State B) (n : Name) (t : Thread B) (i : Instr) → IsReached ops code s → fin.get s.threads n ≡ Some t
        → instr_of code t.local ≡ Some i → AsksInts (request t.local i)
    requests_have_ints s n t i reached there at =
        asks_ints t.local ((values_are_ints s reached).threads n t there).slots i (ints_next code t.local i lawful at)

    -- the values that a thread takes are ints
    pub taken_are_ints : (s : State B) (n : Name) (moves : List Move) → IsReached ops code s → All IsInt (taken_from ops code s n moves)
    taken_are_ints s n [] reached = All-nil IsInt
    taken_are_ints s n (m ∷ ms) reached =
        All-append IsInt (taken_in ops code s n m) _ (taken_in_int s (values_are_ints s reached) n m)
        (later (λ u one. taken_are_ints u n ms (step_is_reached ops code s u m one reached)) (step ops code s m) refl)
      where
        later : ((u : State B) → step ops code s m ≡ Some u → All IsInt (taken_from ops code u n ms)) → (o : Option (State B)) → step ops code s m ≡ o
            → All IsInt (option_map_or (λ u. taken_from ops code u n ms) o [])
        later each None one = All-nil IsInt
        later each (Some u) one = each u one
