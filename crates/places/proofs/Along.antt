-- The places along a thread's path.
use Rattle.std.proofs.Common.{◌≡◌, ◌∙◌, inl, inr, ℕ, ◌+◌, ◌-◌, ℤ, List, [], ◌∷◌, Bool, true, false, Some, slice_get, length, refl, ap, sym, subst, arith}
use Rattle.std.specs.List.{Contains, list_any}
use Rattle.std.proofs.lemmas.Bool.{cases_Bool, cases_lt, false≢true}
use Rattle.std.proofs.lemmas.Option.{same_Some, slice_get_within}
use Rattle.tc_code.specs.Code.{Code}
use Rattle.tc_code.specs.Lawful.{IsLawfulFunction}
use Rattle.tc_code.specs.Step.{local_after, step_by_branch, is_nonzero, value_in}
use Rattle.tc_code.specs.declared.code.Func.{Func}
use Rattle.tc_code.specs.declared.instr.Instr.{Instr}
use Rattle.tc_code.specs.declared.instr.Instr.TheVariants.{Branch, Exit}
use Rattle.tc_code.specs.run_log.tc_base.States.{Local}
use Rattle.tc_compile.specs.Programs.{IsCodeOf}
use Rattle.tc_compile.proofs.Lawful.{code_is_lawful}
use Rattle.places.specs.code_loops.Loops.{LoopsNest}
use Rattle.places.proofs.code_loops.Programs.{program_nests}
use Rattle.places.specs.Places.{Place, Follow, HasPlaces, IsReached, MayLead, is_cut, place_after, places_along, successors}
use Rattle.places.proofs.Inserting.{split, none}
use Rattle.places.proofs.Rise.{leads_of}
use Rattle.places.proofs.Search.{enter, is_listed}

-- ---- places that are reached

module _ (is : List Instr) (limits : List ℕ) where
  -- a way goes on to the place after a step, if no cut lies between
  onward : (p : Place) (to : ℕ) → MayLead is p.instruction to → is_cut limits (place_after is p to) ≡ false → IsReached is limits p
      → IsReached is limits (place_after is p to)
  onward p to leads within r =
      (to ∷ r.0, rw r.1 (enter is limits p to leads.instr leads.there (is_listed (successors p.instruction leads.instr) to leads.leads) within))

  tail_free : (p : Place) (ps : List Place) → list_any (is_cut limits) (p ∷ ps) ≡ false → list_any (is_cut limits) ps ≡ false
  tail_free p ps e = elim (cases_Bool (is_cut limits p)) [ inl t ↦ absurd (false≢true (sym (rw t at e))) | inr f ↦ rw f at e ]

  head_free : (p : Place) (tos : List ℕ) → list_any (is_cut limits) (places_along is p tos) ≡ false → is_cut limits p ≡ false
  head_free p tos e = elim (cases_Bool (is_cut limits p)) [ inr f ↦ f | inl t ↦ absurd (false≢true (sym e ∙ cut tos t)) ] where
    cut : (tos : List ℕ) → is_cut limits p ≡ true → list_any (is_cut limits) (places_along is p tos) ≡ true
    cut [] t = rw t refl
    cut (to ∷ tos) t = rw t refl

  pub all_reached : (p : Place) (tos : List ℕ) → Follow is p.instruction tos → IsReached is limits p
      → list_any (is_cut limits) (places_along is p tos) ≡ false → (q : Place) → Contains (places_along is p tos) q → IsReached is limits q
  all_reached p [] f r free q c = elim (split p q [] c) [ inl same ↦ subst (IsReached is limits) same r | inr n ↦ absurd (none q n) ]
  all_reached p (to ∷ tos) f r free q c =
      elim (split p q (places_along is (place_after is p to) tos) c) [
        | inl same ↦ subst (IsReached is limits) same r
        | inr later ↦
            let rest = tail_free p (places_along is (place_after is p to) tos) free in
            all_reached (place_after is p to) tos f.1 (onward p to f.0 (head_free (place_after is p to) tos rest) r) rest q later
      ]

-- ---- the steps of a thread

pub leads : (t : Local) (i : Instr) (v : ℤ) → (local_after t i v).has_exited ≡ false → Contains (successors t.instruction i) (local_after t i v).instruction
leads t (Branch e to) v live = branch (is_nonzero (value_in t e)) where
  branch : (b : Bool) → Contains ((t.instruction + 1) ∷ to ∷ []) (step_by_branch t b to).instruction
  branch true = (0, omega arith, refl)
  branch false = (1, omega arith, refl)
leads t Exit v live = absurd (false≢true (sym live))
leads t _ v live = (0, omega arith, refl)

-- ---- the functions of a program

pub function_has_places : (code : Code) (f : Func) → IsLawfulFunction code f → LoopsNest f.instrs → HasPlaces f.instrs
function_has_places code f law nest = record {
  some = omega (arith, slice_get_within f.instrs (length f.instrs - 1) Exit law.last);
  lead = λ k i to at c. elim (leads_of k i to c) [
    | inr jumps ↦ let there = law.jump k to i at jumps in slice_get_within f.instrs to there.instr there.there
    | inl next ↦
        let within = slice_get_within f.instrs k i at in
        elim (cases_lt (k + 1) (length f.instrs)) [
          | inl low ↦ omega (arith, next, low)
          | inr high ↦
              let end : length f.instrs - 1 ≡ k = omega (arith, within, high) in
              let exit : i ≡ Exit = same_Some i Exit (sym at ∙ ap (slice_get f.instrs) (sym end) ∙ law.last) in
              absurd (none to (subst (λ x. Contains (successors k x) to) exit c))
        ]
  ];
  nest = nest;
}

pub program_has_places : (program : List ℕ) (code : Code) (number : ℕ) (f : Func) → IsCodeOf program code
    → slice_get code.functions number ≡ Some f → HasPlaces f.instrs
program_has_places program code number f is at =
    function_has_places code f ((code_is_lawful program code is).functions number f at) (program_nests program code number f is at)
