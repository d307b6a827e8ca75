-- A thread has exited exactly if its last instruction was an exit.
use Rattle.std.proofs.Common.{◌≡◌, ◌∙◌, ℕ, ◌+◌, ◌-◌, ◌<◌, length, List, [], Bool, true, false, IsTrue, None, if◌then◌else◌}
use Rattle.std.proofs.Common.{Some, refl, ap, sym, subst, arith, ℤ, slice_get, inl, inr}
use Rattle.std.specs.Prelude.{option_and_then}
use Rattle.std.specs.FinMap as fin
use Rattle.std.proofs.lemmas.Bool.{false≢true, true≢false, cases_lt, true_from_ne_false}
use Rattle.std.proofs.lemmas.Option.{same_Some, option_and_then_some, slice_get_within, slice_get_cases}
use Rattle.tc_code.specs.tc_base.Names.{Name}
use Rattle.tc_code.specs.tc_base.Buffers.{BufferOps}
use Rattle.tc_code.specs.tc_base.States.{Local, Thread, State}
use Rattle.tc_code.specs.declared.instr.Instr.{Instr}
use Rattle.tc_code.specs.declared.instr.Instr.TheVariants.{Branch, Exit}
use Rattle.tc_code.specs.Code.{Code, instr_at}
use Rattle.tc_code.specs.Lawful.{IsLawfulFunction, IsLawful}
use Rattle.tc_code.specs.declared.code.Func.{Func}
use Rattle.tc_code.specs.Step.{local_after, instr_of, born}
use Rattle.tc_code.specs.Run.{IsReached}
use Rattle.tc_code.proofs.Facts.{IsPlaced, at_its_place, placed_next}
use Rattle.run_laws.specs.Laws.{IsPastExit, ExitedPastExit}
use Rattle.run_laws.specs.Whole.{AllThreads}
use Rattle.run_laws.proofs.Basics.{unless}
use Rattle.run_laws.proofs.After.{Leads, branch_is, after_has, place_after}
use Rattle.run_laws.proofs.AllThreads.{Keeps, all_in_reached}
use Rattle.run_laws.proofs.Whole.{reached_is_whole}

-- there is an instruction at each place below the length
there_below : (is : List Instr) (k : ℕ) → k < length is → (i : Instr) × (slice_get is k ≡ Some i)
there_below is k within = elim ((slice_get_cases is k).1) [ inl at ↦ (at.0, at.2) | inr past ↦ absurd (omega (arith, within, past.0)) ]

abbrev is_exit : Instr → Bool
is_exit Exit = true
is_exit _ = false

-- after an instruction that isn't an exit there is another
goes_on_below : (code : Code) (g : Func) (k : ℕ) (i : Instr) → IsLawfulFunction code g → slice_get g.instrs k ≡ Some i → is_exit i ≡ false
    → k + 1 < length g.instrs
goes_on_below code g k i is at other =
    let within = slice_get_within g.instrs k i at in
    elim (cases_lt (k + 1) (length g.instrs)) [
      | inl below ↦ below
      | inr past ↦
          let same : k ≡ length g.instrs - 1 = omega (arith, within, past) in
          absurd (true≢false (sym (ap is_exit (same_Some i Exit (sym at ∙ ap (slice_get g.instrs) same ∙ is.last))) ∙ other))
    ]

-- only an exit makes a thread exit
after_stays : (t : Local) (i : Instr) (v : ℤ) → is_exit i ≡ false → (local_after t i v).has_exited ≡ t.has_exited
after_stays t (Branch e to) v h = ap (λ u. u.has_exited) (branch_is t _ to)
after_stays t Exit v h = absurd (true≢false h)
after_stays t _ v h = refl

-- a thread that has exited is past an exit, and any other is at an instruction of its function
record Exits (code : Code) (t : Local) : Type 0 where
  past : IsTrue t.has_exited → IsPastExit code t
  below : (g : Func) → t.has_exited ≡ false → slice_get code.functions t.function ≡ Some g → t.instruction < length g.instrs

-- after an instruction that isn't an exit a thread is at an instruction
next_below : (code : Code) (g : Func) (p k : ℕ) (i : Instr) → IsLawfulFunction code g → slice_get g.instrs p ≡ Some i → is_exit i ≡ false
    → Leads i p k → k < length g.instrs
next_below code g p k i is at other (inl next) = omega (arith, next, goes_on_below code g p i is at other)
next_below code g p k i is at other (inr jump) = let to = is.jump p k i at jump in slice_get_within g.instrs k to.instr to.there

-- after an instruction that isn't an exit the thread is at an instruction
after_other : (code : Code) (t : Local) (i : Instr) (v : ℤ) → IsPlaced code t.function t.instruction i → t.has_exited ≡ false → is_exit i ≡ false
    → Exits code (local_after t i v)
after_other code t i v placed here other = record {
  past = λ gone. absurd (false≢true (sym (after_stays t i v other ∙ here) ∙ gone));
  below = λ g not_yet there.
      let same : placed.function ≡ g = same_Some _ _ (sym placed.there ∙ ap (slice_get code.functions) (sym (after_has t i v).function) ∙ there) in
      subst (λ (f : Func). (local_after t i v).instruction < length f.instrs) same
      (next_below code placed.function t.instruction _ i placed.lawful placed.at other (place_after t i v));
}

-- each instruction keeps a thread past an exit or at an instruction
after_exits : (code : Code) (t : Local) (i : Instr) (v : ℤ) → IsLawful code → instr_of code t ≡ Some i → Exits code (local_after t i v)
after_exits code t Exit v lawful at = record {
  past = λ gone. record { place = t.instruction; next = refl; exit = at_its_place code t Exit at };
  below = λ g not_yet there. absurd (true≢false not_yet);
}
after_exits code t i v lawful at = after_other code t i v (placed_next code t i lawful at) (unless t.has_exited _ i at).0 refl

-- a function of lawful code has an instruction
begins_below : (code : Code) (f : ℕ) (g : Func) → IsLawful code → slice_get code.functions f ≡ Some g → 0 < length g.instrs
begins_below code f g lawful there =
    let within = slice_get_within g.instrs (length g.instrs - 1) Exit (lawful.functions f g there).last in
    omega (arith, within)

module _ {B : Type 0} (ops : BufferOps B) (code : Code) where
  -- a new thread is at the first instruction
  born_exits : (f : ℕ) (vs : List ℤ) → IsLawful code → Exits code (born ops code f vs).local
  born_exits f vs lawful = record { past = λ gone. absurd (false≢true gone); below = λ g not_yet there. begins_below code f g lawful there }

  -- each move keeps threads past an exit or at an instruction
  keeps_exits : IsLawful code → (s : State B) → Keeps ops code s (Exits code) (Exits code)
  keeps_exits lawful s = record {
    stays = λ t steps few h. record { past = λ gone. let p = h.past gone in record { place = p.place; next = p.next; exit = p.exit }; below = h.below };
    does = λ u n i g h. after_exits code g.before.local i g.value lawful g.at;
    bears = λ u n h f es g before. born_exits f _ lawful;
  }

  -- a thread past an exit has exited
  not_below : (t : Local) (p : IsPastExit code t) → IsLawful code → Exits code t → t.has_exited ≡ false → ⊥
  not_below t p lawful h not_yet =
      option_and_then_some (λ g. slice_get g.instrs p.place) (slice_get code.functions t.function) Exit p.exit
      (λ g there at. omega (arith, p.next, h.below g not_yet there, (lawful.functions t.function g there).only p.place at))

  all_exit : (s : State B) → IsLawful code → IsReached ops code s → AllThreads (Exits code) s.threads
  all_exit s lawful = all_in_reached ops code (Exits code) (λ v r. keeps_exits lawful v) (born_exits _ [] lawful) s

  -- a thread of lawful code has exited exactly if its last instruction was an exit
  pub exited_past_exit : (s : State B) → IsLawful code → IsReached ops code s → AllThreads (ExitedPastExit code) s.threads
  exited_past_exit s lawful reached n t there =
      let h = all_exit s lawful reached n t there in (h.past, λ p. true_from_ne_false _ (not_below t.local p lawful h))

  -- a thread that hasn't exited is at an instruction
  pub has_next : (s : State B) → IsLawful code → IsReached ops code s → (n : Name) (t : Thread B) → fin.get s.threads n ≡ Some t
      → t.local.has_exited ≡ false → (i : Instr) × (instr_of code t.local ≡ Some i)
  has_next s lawful reached n t there going =
      let whole = (reached_is_whole ops code s lawful reached).threads n t there in
      let within = (all_exit s lawful reached n t there).below whole.function going whole.there in
      let at = there_below whole.function.instrs t.local.instruction within in (
        at.0,
        ap (λ b. if b then None else instr_at code t.local.function t.local.instruction) going
            ∙ ap (option_and_then (λ f. slice_get f.instrs t.local.instruction)) whole.there ∙ at.1,
      )
