-- A path behind whose last step no instruction is ends with an exit.
use Rattle.std.proofs.Common.{◌≡◌, ◌∙◌, inl, inr, ℕ, zero, suc, ◌+◌, ◌-◌, ◌<◌, ◌≤◌, ◌==◌, Bool, true, false, List, [], ◌∷◌, length}
use Rattle.std.proofs.Common.{Option, Some, None, IsSome, Ok, refl, sym, ap, subst, arith}
use Rattle.std.specs.Prelude.{slice_get, unwrap_or, option_and_then}
use Rattle.std.specs.Option.{option_map_or}
use Rattle.std.proofs.lemmas.Bool.{false≢true, and_parts}
use Rattle.std.proofs.lemmas.Option.{none-some, same_Some, slice_get_within}
use Rattle.log_walk.specs.tc_code.Code.{Code, instr_at}
use Rattle.log_walk.specs.tc_code.Lawful.{IsLawful, IsLawfulFunction, target, takes}
use Rattle.log_walk.specs.tc_code.declared.code.Func.{Func}
use Rattle.log_walk.specs.tc_code.declared.instr.Instr.{Instr}
use Rattle.log_walk.specs.tc_code.declared.instr.Instr.TheVariants.{Branch, Goto, Exit, Create}
use Rattle.log_walk.proofs.tc_code.Facts.{placed}
use Rattle.log_walk.specs.path_walk.Steps.{Onward, onward, step_at, steps_at, places_from, end_from, Step}
use Rattle.log_walk.proofs.path_walk.Places.{Unrolled, unrolled, end_more, past_exit}
use Rattle.log_walk.specs.thread_paths.Ends.{is_exit}
use Rattle.walked_logs.proofs.Told.{last_of}
use Rattle.log_walk.specs.run_log.Logs.{Log}
use Rattle.log_walk.specs.tc_base.Names.{Name}
use Rattle.log_walk.proofs.tc_base.Names.{parent_of}
use Rattle.normal_logs.proofs.run_laws.Basics.{some_value}
use Rattle.normal_logs.proofs.run_history.of_pending.In.{from_mapped}
use Rattle.log_walk.specs.path_walk.Fits.{starts, started, places_in, child_function, function_of}
use Rattle.log_walk.proofs.path_walk.Faults.{function_of_child}
use Rattle.normal_logs.proofs.path_laws.of_events.Lists.{in_place, from_map}

none_from : {X : Type 0} (xs : List X) (k : ℕ) → slice_get xs k ≡ None → length xs ≤ k
none_from [] k e = omega arith
none_from (x ∷ xs) zero e = absurd (none-some x (sym e))
none_from (x ∷ xs) (suc k) e = omega (arith, none_from xs k e)

place_of : (a b : Onward) → Some a ≡ Some b → a.place ≡ b.place
place_of a b e = ap (λ (o : Onward). o.place) (same_Some a b e)

module _ (code : Code) (f k : ℕ) (fn : Func) (there : slice_get code.functions f ≡ Some fn) (lawful : IsLawfulFunction code fn) (on : Onward)
    (none : instr_at code f on.place ≡ None) where
  none_there : slice_get fn.instrs on.place ≡ None
  none_there = sym (ap (option_and_then (λ (g : Func). slice_get g.instrs on.place)) there) ∙ none

  next_none : (i : Instr) → slice_get fn.instrs k ≡ Some i → k + 1 ≡ on.place → is_exit i ≡ true
  next_none i at same =
      let within = slice_get_within fn.instrs k i at in
      let long = none_from fn.instrs on.place none_there in
      let last : length fn.instrs - 1 ≡ k = omega (arith, within, long, same) in
      let exit : Some Exit ≡ Some i = sym lawful.last ∙ ap (slice_get fn.instrs) last ∙ at in
      ap is_exit (sym (same_Some Exit i exit))

  never_jump : (i : Instr) (to : ℕ) → slice_get fn.instrs k ≡ Some i → target i ≡ Some to → to ≡ on.place → ⊥
  never_jump i to at leads same =
      let t = lawful.jump k to i at leads in
      none-some t.instr (sym none_there ∙ ap (slice_get fn.instrs) (sym same) ∙ t.there)

  past_end : (i : Instr) (o : List Bool) → slice_get fn.instrs k ≡ Some i → onward k i o ≡ Some on → is_exit i ≡ true
  past_end (Branch e to) [] at leads = absurd (none-some on leads)
  past_end (Branch e to) (true ∷ o) at leads = next_none (Branch e to) at (place_of _ on leads)
  past_end (Branch e to) (false ∷ o) at leads = absurd (never_jump (Branch e to) to at refl (place_of _ on leads))
  past_end (Goto to) o at leads = absurd (never_jump (Goto to) to at refl (place_of _ on leads))
  past_end i o at leads = next_none i at (place_of _ on leads)

goes_on : (code : Code) (f k : ℕ) (i : Instr) (o : List Bool) (on : Onward) → IsLawful code → instr_at code f k ≡ Some i → onward k i o ≡ Some on
    → instr_at code f on.place ≡ None → is_exit i ≡ true
goes_on code f k i o on lawful at leads none =
    let p = placed code f k i lawful at in
    past_end code f k p.function p.there p.lawful on none i o p.at leads

nothing_left : (code : Code) (f n k : ℕ) (o : List Bool) (ps : List ℕ) → places_from code f n k o ≡ Ok ps → instr_at code f k ≡ None → ps ≡ []
nothing_left code f zero k [] ps told none = let is : [] ≡ ps = cc in sym is
nothing_left code f zero k (b ∷ o) ps told none = absurd cc
nothing_left code f (suc n) k o ps told none = let over = past_exit code f (suc n) k o (omega arith) none in absurd cc

-- so the last step of such a path is an exit
pub ends_exit : (code : Code) (lawful : IsLawful code) (f n k : ℕ) (o : List Bool) (ps : List ℕ) (b : Bool) (i : Instr)
    → places_from code f n k o ≡ Ok ps → instr_at code f k ≡ Some i → instr_at code f (end_from code f n k o) ≡ None
    → last_of is_exit b (steps_at code f ps) ≡ true
ends_exit code lawful f zero k o ps b i told at none = absurd (none-some i (sym none ∙ at))
ends_exit code lawful f (suc n) k o ps b i told at none =
    subst (λ qs. last_of is_exit b (steps_at code f qs) ≡ true) (sym u.all)
    (by (instr_at code f u.next.place) refl (λ c j there. ends_exit code lawful f n u.next.place u.next.outcomes u.rest c j u.told there later))
  where
    u : Unrolled code f n k o ps
    u = unrolled code f n k o ps told

    later : instr_at code f (end_from code f n u.next.place u.next.outcomes) ≡ None
    later = ap (instr_at code f) (sym (end_more code f (suc n) n k o u.instr u.next (omega arith) u.at u.leads)) ∙ none

    by : (x : Option Instr) → instr_at code f u.next.place ≡ x
        → ((c : Bool) (j : Instr) → instr_at code f u.next.place ≡ Some j → last_of is_exit c (steps_at code f u.rest) ≡ true)
        → last_of is_exit b (steps_at code f (k ∷ u.rest)) ≡ true
    by (Some j) there go = go (is_exit (step_at code f k).instr) j there
    by None over go =
        ap (λ qs. last_of is_exit (is_exit (step_at code f k).instr) (steps_at code f qs))
        (nothing_left code f n u.next.place u.next.outcomes u.rest u.told over)
        ∙ ap (λ x. is_exit (unwrap_or x Exit)) u.at
        ∙ goes_on code f k u.instr o u.next lawful u.at u.leads over

-- Each thread's function exists.

first_of : (xs : List Instr) → 0 < length xs → (x : Instr) × (slice_get xs 0 ≡ Some x)
first_of [] lt = absurd (omega (arith, lt))
first_of (x ∷ xs) lt = (x, refl)

pub first_instr : (code : Code) (f : ℕ) → IsLawful code → IsSome (slice_get code.functions f) → (i : Instr) × (instr_at code f 0 ≡ Some i)
first_instr code f lawful some =
    let g = some_value (slice_get code.functions f) some in
    let l = lawful.functions f g.0 g.1 in
    let within = slice_get_within g.0.instrs (length g.0.instrs - 1) Exit l.last in
    let i = first_of g.0.instrs (omega (arith, within)) in
    (i.0, ap (option_and_then (λ (h : Func). slice_get h.instrs 0)) g.1 ∙ i.1)

takes_some : (o : Option Func) (n : ℕ) → option_map_or (λ (g : Func). g.params == n) o false ≡ true → IsSome o
takes_some None n e = absurd (false≢true e)
takes_some (Some g) n e = refl

starts_there : (code : Code) (g place f : ℕ) → IsLawful code → starts (unwrap_or (instr_at code g place) Exit) ≡ Some f → IsSome (slice_get code.functions f)
starts_there code g place f lawful e = by (instr_at code g place) refl e
  where
    made : (i : Instr) → instr_at code g place ≡ Some i → starts i ≡ Some f → IsSome (slice_get code.functions f)
    made (Create h q es) at e =
        let p = placed code g place (Create h q es) lawful at in
        let named = and_parts _ _ (p.lawful.names place (Create h q es) p.at) in
        subst (λ x. IsSome (slice_get code.functions x)) (same_Some q f e)
        (takes_some (slice_get code.functions q) (length es) (and_parts _ (takes code q (length es)) named.0).1)
    made Exit at e = absurd (none-some f e)
    made i at e = absurd (none-some f e)

    by : (o : Option Instr) → instr_at code g place ≡ o → starts (unwrap_or o Exit) ≡ Some f → IsSome (slice_get code.functions f)
    by None at e = absurd (none-some f e)
    by (Some i) at e = made i at e

pub function_there : (code : Code) (log : Log) (n : Name) (f : ℕ) → IsLawful code → function_of code log n ≡ Some f → IsSome (slice_get code.functions f)
function_there code log n f lawful is =
    elim (parent_of n) [
      | inl e ↦
          subst (λ x. IsSome (slice_get code.functions x))
          (same_Some (length code.functions - 1) f (sym (ap (function_of code log) e) ∙ is))
          (subst IsSome (sym lawful.main.there) refl)
      | inr h ↦
          by_parent h.parent h.number (function_of code log h.parent)
          (sym (function_of_child code log h.parent h.number) ∙ sym (ap (function_of code log) h.name) ∙ is)
    ]
  where
    by_parent : (p : Name) (q : ℕ) (o : Option ℕ) → option_and_then (λ g. child_function code log p g q) o ≡ Some f → IsSome (slice_get code.functions f)
    by_parent p q None e = absurd (none-some f e)
    by_parent p zero (Some g) e = absurd (none-some f e)
    by_parent p (suc q) (Some g) e =
        let steps = steps_at code g (places_in code log p g) in
        let from = from_mapped (λ (s : Step). starts s.instr) f steps (in_place f (started steps) q e) in
        let at = from_map (step_at code g) from.of (places_in code log p g) from.there in
        starts_there code g at.0 f lawful (ap (λ (s : Step). starts s.instr) at.2 ∙ from.gives)
