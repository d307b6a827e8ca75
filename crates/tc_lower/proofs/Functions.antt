-- A block followed by the exit is a lawful function.
use Rattle.std.proofs.Common.{
  ◌≡◌,
  ℕ,
  zero,
  suc,
  ◌+◌,
  ◌-◌,
  ◌<◌,
  ◌≤◌,
  false,
  IsTrue,
  inl,
  inr,
  List,
  [],
  ◌∷◌,
  ◌++◌,
  length,
  Some,
  refl,
  ap,
  sym,
  subst,
  ◌∙◌,
  arith,
  add-one,
  length-append,
  slice_get,
}
use Rattle.std.specs.List.{list_all}
use Rattle.std.proofs.lemmas.Bool.{cases_lt, true≢false}
use Rattle.std.proofs.lemmas.List.{append-nil}
use Rattle.std.proofs.lemmas.Option.{none-some, same_Some, slice_get_within}
use Rattle.tc_code.specs.Expr.{Expr}
use Rattle.tc_code.specs.declared.cell.Cell.{Cell}
use Rattle.tc_code.specs.declared.cell.Cell.TheVariants.{Element}
use Rattle.tc_code.specs.declared.instr.Instr.{Instr}
use Rattle.tc_code.specs.declared.instr.Instr.TheVariants.{Load, Store, Modify, Inside, Unlock, Sleep, Wake, Join, Exit}
use Rattle.tc_code.specs.Code.{Code}
use Rattle.tc_code.specs.Lawful as lawful
use Rattle.tc_code.specs.Lawful.{accessed, names_what_is, keeps_apart, is_bound, target, StandsBefore, IsTarget, IsGuarded, IsLawfulFunction}
use Rattle.tc_code.specs.declared.code.Func.{Func}
use Rattle.tc_lower.proofs.Blocks.{Block, IsTested, Lands, is_glued, block_lands, there_is}
use Rattle.tc_lower.proofs.Ints.{AllFine, fine_append, fine_at, none}
use Rattle.tc_lower.proofs.Parts.{IsAt, at_right, at_first, all_append, all_pass, first_true, second_true}
use Rattle.tc_lower.proofs.Sound.{names_apart}

-- an instruction to which a jump may lead isn't bound to the one before it
unbound : (i : Instr) → is_glued i ≡ false → is_bound i ≡ false
unbound (Load t c) h = refl
unbound (Unlock m) h = h
unbound (Sleep c m) h = h
unbound (Wake c m) h = h
unbound (Join h) g = g
unbound _ h = refl

-- each place below the length has an instruction
pub there_at : (all : List Instr) (k : ℕ) → k < length all → (i : Instr) × (slice_get all k ≡ Some i)
there_at [] k within = absurd (omega (arith, within))
there_at (i ∷ all) zero within = (i, refl)
there_at (i ∷ all) (suc k) within = there_at all k (omega (arith, within))

-- the place directly before a place, with its instruction
before_is : (all : List Instr) (k : ℕ) (i : Instr) → StandsBefore all k i → (p : ℕ) × (p + 1 ≡ k) × (slice_get all p ≡ Some i)
before_is all zero i h = absurd h
before_is all (suc p) i h = (p, add-one p, h)

module _ (code : Code) (f : Func) (body : List Instr) (whole : f.instrs ≡ body ++ Exit ∷ []) (block : Block f.instrs 0 (length body)) where
  n : ℕ
  n = length body

  size : length f.instrs ≡ length body + 1
  size = ap length whole ∙ length-append body (Exit ∷ [])

  is_at : IsAt f.instrs 0 (body ++ Exit ∷ [])
  is_at = record { before = []; after = []; whole = whole ∙ sym (append-nil (body ++ Exit ∷ [])); place = refl }

  exit_at : slice_get f.instrs (length body) ≡ Some Exit
  exit_at =
      let same : 0 + length body ≡ length body = omega arith in
      subst (λ k. slice_get f.instrs k ≡ Some Exit) same (at_first f.instrs (0 + length body) Exit [] (at_right f.instrs 0 body (Exit ∷ []) is_at))

  -- an instruction before the exit
  inside : (k : ℕ) (i : Instr) → slice_get f.instrs k ≡ Some i → (i ≡ Exit → ⊥) → k < length body
  inside k i there other =
      elim (cases_lt k (length body)) [
        | inl less ↦ less
        | inr more ↦
            let same : k ≡ length body = omega (arith, more, size, slice_get_within f.instrs k i there) in
            absurd (other (there_is f.instrs k i Exit there (subst (λ p. slice_get f.instrs p ≡ Some Exit) (sym same) exit_at)))
      ]

  exit_only : (k : ℕ) → slice_get f.instrs k ≡ Some Exit → k + 1 ≡ length f.instrs
  exit_only k there =
      elim (cases_lt k (length body)) [
        | inl less ↦ absurd (block.stands k Exit (omega arith) less there)
        | inr more ↦ omega (arith, more, size, slice_get_within f.instrs k Exit there)
      ]

  jump_inside : (k to : ℕ) (i : Instr) → slice_get f.instrs k ≡ Some i → target i ≡ Some to → Lands f.instrs 0 (length body) to
  jump_inside k to i there leads =
      block_lands f.instrs 0 (length body) k i to block (omega arith)
      (inside k i there (λ e. none-some to (ap target (sym e) ∙ leads))) there leads

  jump_lands : (k to : ℕ) (i : Instr) → slice_get f.instrs k ≡ Some i → target i ≡ Some to → IsTarget f.instrs to
  jump_lands k to i there leads =
      let l = jump_inside k to i there leads in
      elim (cases_lt to (length body)) [
        | inl less ↦
            let one = there_at f.instrs to (omega (arith, less, size)) in
            record { instr = one.0; there = one.1; unbound = unbound one.0 (l.free less one.0 one.1) }
        | inr more ↦
            let same : length body ≡ to = omega (arith, more, l.high) in
            record { instr = Exit; there = subst (λ p. slice_get f.instrs p ≡ Some Exit) same exit_at; unbound = refl }
      ]

  load_guarded : (k slot first len : ℕ) (index : Expr) → slice_get f.instrs k ≡ Some (Load slot (Element first len index)) → IsGuarded f.instrs len index k
  load_guarded k slot first len index there =
      let within = inside k (Load slot (Element first len index)) there (λ e. absurd cc) in
      let test = before_is f.instrs k (Inside len index) (block.stands k (Load slot (Element first len index)) (omega arith) within there) in (
        test.0,
        record {
          before = omega (arith, test.1);
          test = test.2;
          kept = λ at i here low high. absurd (omega (arith, test.1, low, high));
          enters = λ from to i here leads low high.
              let same : to ≡ k = omega (arith, test.1, low, high) in
              let l = jump_inside from to i here leads in
              let less : to < length body = omega (arith, same, within) in
              absurd (true≢false (l.free less (Load slot (Element first len index)) (subst (λ p. slice_get f.instrs p ≡ Some (Load slot (Element first len index))) (sym
              same) there)));
        },
      )

  tested_guarded : (k len : ℕ) (index : Expr) → IsTested f.instrs 0 (length body) k len index → IsGuarded f.instrs len index k
  tested_guarded k len index t = (
    t.place,
    record {
      before = t.before;
      test = t.test;
      kept = t.kept;
      enters = λ from to i here leads low high.
          t.enters from to i (omega arith) (inside from i here (λ e. none-some to (ap target (sym e) ∙ leads))) here leads low high;
    },
  )

  access_guarded : (k first len : ℕ) (i : Instr) (index : Expr) → slice_get f.instrs k ≡ Some i → accessed i ≡ Some (Element first len index)
      → IsGuarded f.instrs len index k
  access_guarded k first len (Load slot c) index there e =
      let same : c ≡ Element first len index = same_Some c (Element first len index) e in
      load_guarded k slot first len index (subst (λ (c : Cell Expr). slice_get f.instrs k ≡ Some (Load slot c)) same there)
  access_guarded k first len (Store c v) index there e =
      let same : c ≡ Element first len index = same_Some c (Element first len index) e in
      let here = subst (λ (c : Cell Expr). slice_get f.instrs k ≡ Some (Store c v)) same there in
      tested_guarded k len index
      (block.stands k (Store (Element first len index) v) (omega arith) (inside k (Store (Element first len index) v) here (λ e. absurd cc)) here)
  access_guarded k first len (Modify slot c u) index there e =
      let same : c ≡ Element first len index = same_Some c (Element first len index) e in
      let here = subst (λ (c : Cell Expr). slice_get f.instrs k ≡ Some (Modify slot c u)) same there in
      tested_guarded k len index
      (block.stands k (Modify slot (Element first len index) u) (omega arith) (inside k (Modify slot (Element first len index) u) here (λ e. absurd cc)) here)
  access_guarded k first len _ index there e = absurd (none-some _ e)

  -- each instruction names existing things, and treats the arrays as separate
  each_names : (arrays : List lawful.Array) → IsTrue (list_all (names_apart arrays code f) body) → (k : ℕ) (i : Instr) → slice_get f.instrs k ≡ Some i
      → IsTrue (names_apart arrays code f i)
  each_names arrays named k i there =
      all_pass (names_apart arrays code f) f.instrs 0 (body ++ Exit ∷ []) is_at (all_append (names_apart arrays code f) body (Exit ∷ []) named refl) k i
      (omega arith) (omega (arith, slice_get_within f.instrs k i there, size, length-append body (Exit ∷ []))) there

  pub function_keeps_apart : (arrays : List lawful.Array) → IsTrue (list_all (names_apart arrays code f) body) → (k : ℕ) (i : Instr)
      → slice_get f.instrs k ≡ Some i → IsTrue (keeps_apart arrays i)
  function_keeps_apart arrays named k i there = first_true (keeps_apart arrays i) (names_what_is code f i) (each_names arrays named k i there)

  pub function_is_lawful : (arrays : List lawful.Array) → length f.lines ≡ length f.instrs → f.params ≤ f.ints
      → IsTrue (list_all (names_apart arrays code f) body) → AllFine body → IsLawfulFunction code f
  function_is_lawful arrays lines params named fine = record {
    lines = lines;
    params = params;
    names = λ k i there. second_true (keeps_apart arrays i) (names_what_is code f i) (each_names arrays named k i there);
    ints = fine_at f.instrs (subst AllFine (sym whole) (fine_append body (Exit ∷ []) fine (none, tt)));
    jump = jump_lands;
    unlock = λ k m there. block.stands k (Unlock m) (omega arith) (inside k (Unlock m) there (λ e. absurd cc)) there;
    sleep = λ k c m there. (block.stands k (Sleep c m) (omega arith) (inside k (Sleep c m) there (λ e. absurd cc)) there).0;
    wait = λ k c m there. (block.stands k (Sleep c m) (omega arith) (inside k (Sleep c m) there (λ e. absurd cc)) there).1;
    wake = λ k c m there. block.stands k (Wake c m) (omega arith) (inside k (Wake c m) there (λ e. absurd cc)) there;
    join = λ k h there. block.stands k (Join h) (omega arith) (inside k (Join h) there (λ e. absurd cc)) there;
    access = access_guarded;
    last = let same : length body ≡ length f.instrs - 1 = omega (arith, size) in subst (λ p. slice_get f.instrs p ≡ Some Exit) same exit_at;
    only = exit_only;
  }
