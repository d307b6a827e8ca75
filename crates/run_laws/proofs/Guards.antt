-- The index of a thread's next access is inside its array.
use Rattle.std.proofs.Common.{◌≡◌, ◌∙◌, ℕ, ◌<◌, ◌≤◌, List, false, IsTrue, Option, Some, None, IfSome, refl}
use Rattle.std.proofs.Common.{ap, ap₂, sym, subst, arith, ℤ, pos, slice_get, slice_set, inl, inr}
use Rattle.std.specs.FinMap as fin
use Rattle.std.proofs.lemmas.Bool.{cases_lt, or_parts, not-true}
use Rattle.std.proofs.lemmas.Bool.Decides.{nat_tests}
use Rattle.std.proofs.lemmas.List.{get_or-set_other}
use Rattle.std.proofs.lemmas.Option.{same_Some, option_and_then_some}
use Rattle.tc_code.specs.int_ops.Arith.{unary, binary}
use Rattle.tc_code.specs.tc_base.Names.{Name}
use Rattle.tc_code.specs.tc_base.Buffers.{BufferOps}
use Rattle.tc_code.specs.tc_base.States.{Local, Thread, State}
use Rattle.tc_code.specs.Expr.{Expr, Number, Slot, Unary, Binary, value_of, names_slot}
use Rattle.tc_code.specs.declared.cell.Cell.{Cell}
use Rattle.tc_code.specs.declared.cell.Cell.TheVariants.{Fixed, Element}
use Rattle.tc_code.specs.declared.instr.Instr.{Instr}
use Rattle.tc_code.specs.declared.instr.Instr.TheVariants.{Set, Load, Inside, Branch, Modify}
use Rattle.tc_code.specs.Code.{Code}
use Rattle.tc_code.specs.Lawful.{accessed, keeps, Guards, IsGuarded, IsLawful}
use Rattle.tc_code.specs.declared.code.Func.{Func}
use Rattle.tc_code.specs.Step.{is_within, value_in, request, local_after, instr_of}
use Rattle.tc_code.specs.Run.{IsReached}
use Rattle.tc_code.proofs.Facts.{at_its_place, placed_next}
use Rattle.run_laws.specs.Whole.{AllThreads, CellIsWithin, IndexIsWithin}
use Rattle.run_laws.proofs.After.{Leads, branch_is, after_has, place_after}
use Rattle.run_laws.proofs.Changes.{is_fail, site_is_true}
use Rattle.run_laws.proofs.AllThreads.{Keeps, all_in_reached}

-- writing a slot that an expression doesn't name leaves its value
value_of-set : (e : Expr) (slots : List ℤ) (k : ℕ) (v : ℤ) → names_slot k e ≡ false → value_of e (slice_set slots k v) ≡ value_of e slots
value_of-set (Number n) slots k v h = refl
value_of-set (Slot j) slots k v h = get_or-set_other slots k j v (pos 0) (λ e. grind (arith, nat_tests, h, e))
value_of-set (Unary op a) slots k v h = ap (unary op) (value_of-set a slots k v h)
value_of-set (Binary op a b) slots k v h =
    let neither = or_parts (names_slot k a) (names_slot k b) h in
    ap₂ (binary op) (value_of-set a slots k v neither.0) (value_of-set b slots k v neither.1)

-- an instruction that keeps an expression's slots keeps its value
after_keeps : (t : Local) (i : Instr) (v : ℤ) (e : Expr) → IsTrue (keeps e i) → value_of e (local_after t i v).slots ≡ value_of e t.slots
after_keeps t (Set k a) v e h = value_of-set e t.slots k _ (not-true _ h)
after_keeps t (Load k c) v e h = value_of-set e t.slots k v (not-true _ h)
after_keeps t (Modify k c u) v e h = value_of-set e t.slots k v (not-true _ h)
after_keeps t (Branch a to) v e h = ap (λ u. value_of e u.slots) (branch_is t _ to)
after_keeps t _ v e h = refl

-- the index of an access is inside its array
abbrev IsInside : ℕ → Expr → Local → Type 0
IsInside len e t = IsTrue (is_within len (value_in t e))

-- after a test of an index that passed, the index is inside
passes_inside : (t : Local) (i : Instr) (v : ℤ) (len : ℕ) (e : Expr) → i ≡ Inside len e → is_fail (request t i) ≡ false → IsInside len e (local_after t i v)
passes_inside t i v len e is p =
    subst (λ j. IsInside len e (local_after t j v)) (sym is) (site_is_true (is_within len (value_in t e)) (subst (λ j. is_fail (request t j) ≡ false) is p))

module _ (len : ℕ) (e : Expr) where
  -- an instruction between a test and its access keeps an index inside
  kept_between : (t : Local) (i : Instr) (v : ℤ) → IsTrue (keeps e i) → IsInside len e t → IsInside len e (local_after t i v)
  kept_between t i v kept h = subst (λ n. IsTrue (is_within len n)) (sym (after_keeps t i v e kept)) h

  -- each instruction keeps an index inside from its test to its access
  goes_within : (is : List Instr) (p k : ℕ) (t : Local) (i : Instr) (v : ℤ) → Guards is len e p k → slice_get is t.instruction ≡ Some i
      → is_fail (request t i) ≡ false
      → p < (local_after t i v).instruction → (local_after t i v).instruction ≤ k → (p < t.instruction → t.instruction ≤ k → IsInside len e t)
      → Leads i t.instruction (local_after t i v).instruction → IsInside len e (local_after t i v)
  goes_within is p k t i v g at passes low high before (inl next) =
      elim (cases_lt p t.instruction) [
        | inl past ↦ kept_between t i v (g.kept t.instruction i at past (omega (arith, high, next))) (before past (omega (arith, high, next)))
        | inr here ↦
            let same : t.instruction ≡ p = omega (arith, low, next, here) in
            passes_inside t i v len e (same_Some i (Inside len e) (sym at ∙ ap (slice_get is) same ∙ g.test)) passes
      ]
  goes_within is p k t i v g at passes low high before (inr jump) =
      let from = g.enters t.instruction (local_after t i v).instruction i at jump low high in
      kept_between t i v (g.kept t.instruction i at from.0 from.1) (before from.0 (omega (arith, from.1)))

-- from the test of an index to its access, the index is inside
abbrev GuardsHold : Code → Local → Type 0
GuardsHold code t =
    (g : Func) (len : ℕ) (e : Expr) (p k : ℕ) → slice_get code.functions t.function ≡ Some g → Guards g.instrs len e p k
    → p < t.instruction → t.instruction ≤ k → IsInside len e t

-- a thread's next instruction is in its function
next_in : (code : Code) (t : Local) (i : Instr) (g : Func) → instr_of code t ≡ Some i → slice_get code.functions t.function ≡ Some g
    → slice_get g.instrs t.instruction ≡ Some i
next_in code t i g at there =
    option_and_then_some (λ f. slice_get f.instrs t.instruction) (slice_get code.functions t.function) i (at_its_place code t i at)
    (λ f is here. subst (λ f. slice_get f.instrs t.instruction ≡ Some i) (same_Some f g (sym is ∙ there)) here)

-- each instruction keeps guarded indexes inside
after_guards : (code : Code) (t : Local) (i : Instr) (v : ℤ) → instr_of code t ≡ Some i → is_fail (request t i) ≡ false → GuardsHold code t
    → GuardsHold code (local_after t i v)
after_guards code t i v at passes before g len e p k there h low high =
    let here = sym (ap (slice_get code.functions) (after_has t i v).function) ∙ there in
    goes_within len e g.instrs p k t i v h (next_in code t i g at here) passes low high (before g len e p k here h) (place_after t i v)

module _ {B : Type 0} (ops : BufferOps B) (code : Code) where
  -- each move keeps guarded indexes inside
  keeps_guards : (s : State B) → Keeps ops code s (GuardsHold code) (GuardsHold code)
  keeps_guards s = record {
    stays = λ t steps few h. h;
    does = λ u n i g h. after_guards code g.before.local i g.value g.at g.passes h;
    bears = λ u n h f es d before g len e p k there guarded low high. absurd (omega (arith, low));
  }

  -- in each reached state guarded indexes are inside
  guards_hold : (s : State B) → IsReached ops code s → AllThreads (GuardsHold code) s.threads
  guards_hold = all_in_reached ops code (GuardsHold code) (λ s r. keeps_guards s) (λ g len e p k is guarded low high. absurd (omega (arith, low)))

  -- an access that a test guards is inside its array
  access_is_within : (t : Local) (g : Func) (len : ℕ) (e : Expr) → slice_get code.functions t.function ≡ Some g
      → IsGuarded g.instrs len e t.instruction → GuardsHold code t → IsInside len e t
  access_is_within t g len e there guarded holds =
      holds g len e guarded.0 t.instruction there guarded.1 guarded.1.before (omega arith)

  -- the index of a thread's next access is inside its array
  pub index_is_within : (s : State B) (n : Name) (t : Thread B) (i : Instr) → IsLawful code → IsReached ops code s → fin.get s.threads n ≡ Some t
      → instr_of code t.local ≡ Some i → IndexIsWithin t.local i
  index_is_within s n t i lawful reached there at = by (accessed i) refl
    where
      by : (o : Option (Cell Expr)) → accessed i ≡ o → IfSome o (CellIsWithin t.local)
      by None e = tt
      by (Some (Fixed c)) e = tt
      by (Some (Element first len index)) e =
          let placed = placed_next code t.local i lawful at in
          access_is_within t.local placed.function len index placed.there (placed.lawful.access t.local.instruction first len i index placed.at e)
          (guards_hold s reached n t there)
