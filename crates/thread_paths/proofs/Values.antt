-- What is known before the steps of a path, and of each longer path.
use Rattle.std.proofs.Common.{◌≡◌, ◌∙◌, ℕ, zero, suc, ◌+◌, ◌-◌, ◌<◌, ◌≤◌, pos, List, [], ◌∷◌, ◌++◌, length, replicate, Option, Some, None, refl, ap, sym, arith, unwrap_or}
use Rattle.std.specs.Prelude.{slice_get, take}
use Rattle.std.specs.Option.{option_map_or}
use Rattle.std.proofs.lemmas.List.{get_or_append_left, get_or_at, length-replicate, take_all}
use Rattle.tc_code.specs.Code.{Code, instr_at}
use Rattle.tc_code.specs.Lawful.{IsLawful}
use Rattle.tc_code.specs.Step.{ints_of}
use Rattle.tc_code.specs.declared.code.Func.{Func}
use Rattle.tc_code.specs.declared.instr.Instr.{Instr}
use Rattle.tc_code.specs.declared.instr.Instr.TheVariants.{Exit}
use Rattle.thread_marks.specs.path_walk.Steps.{step_at}
use Rattle.thread_paths.specs.Turns.{place_of, instr_of}
use Rattle.thread_paths.specs.Known.{Known, params_of, known_at_start, known_after, known_before, leads_to}

module _ (code : Code) (f : ℕ) (ps rest : List ℕ) where
  pub same_place : (k : ℕ) → k < length ps → place_of code f ps k ≡ place_of code f (ps ++ rest) k
  same_place k less = sym (get_or_append_left ps rest 0 k less)

  pub same_instr : (k : ℕ) → k < length ps → instr_of code f ps k ≡ instr_of code f (ps ++ rest) k
  same_instr k less = ap (λ p. (step_at code f p).instr) (same_place k less)

  -- more steps change nothing of what is known before
  pub same_known : (k : ℕ) → k ≤ length ps → known_before code f ps k ≡ known_before code f (ps ++ rest) k
  same_known zero le = refl
  same_known (suc k) le =
      ap (λ (known : Known). known_after known (instr_of code f ps k)) (same_known k (omega (arith, le)))
      ∙ ap (known_after (known_before code f (ps ++ rest) k)) (same_instr k (omega (arith, le)))

-- One step more.
module _ (code : Code) (f : ℕ) (ps : List ℕ) (n : ℕ) (long : length ps ≡ n) (place : ℕ) (i : Instr) (there : instr_at code f place ≡ Some i) where
  abbrev more : List ℕ
  more = ps ++ place ∷ []

  last_place : place_of code f more n ≡ place
  last_place = get_or_at ps place [] 0 n long

  last_instr : instr_of code f more n ≡ i
  last_instr = ap (λ p. (step_at code f p).instr) last_place ∙ ap (λ x. unwrap_or x Exit) there

  known_at_last : known_before code f more n ≡ known_before code f ps n
  known_at_last = sym (same_known code f ps (place ∷ []) n (omega (arith, long)))

  pub known_next : known_after (known_before code f ps n) i ≡ known_before code f more (n + 1)
  known_next =
      let next : suc n ≡ n + 1 = omega arith in
      ap (known_after (known_before code f ps n)) (sym last_instr)
      ∙ ap (λ (known : Known). known_after known (instr_of code f more n)) (sym known_at_last)
      ∙ ap (known_before code f more) next

  pub leads_last : leads_to (known_before code f more n) (place_of code f more n) (instr_of code f more n) ≡ leads_to (known_before code f ps n) place i
  leads_last =
      ap (λ (known : Known). leads_to known (place_of code f more n) (instr_of code f more n)) known_at_last
      ∙ ap (λ p. leads_to (known_before code f ps n) p (instr_of code f more n)) last_place
      ∙ ap (leads_to (known_before code f ps n) place) last_instr

-- What is known at the start of a function.

unknown : (n size : ℕ) (none before : Known) → none ≡ [] → size ≡ 0 → before ≡ take n none ++ replicate (n - size) None → before ≡ replicate n None
unknown n size none before empty is_size filled =
    let all : n - size ≡ n = omega (arith, is_size) in
    filled ∙ ap (λ (xs : Known). take n xs ++ replicate (n - size) None) empty
    ∙ ap (λ (xs : Known). xs ++ replicate (n - size) None) (take_all n [] (omega arith)) ∙ ap (λ k. replicate k None) all

module _ (code : Code) (f : ℕ) (lawful : IsLawful code) where
  fits_by : (o : Option Func) → slice_get code.functions f ≡ o → option_map_or (λ (g : Func). g.params) o 0 ≤ option_map_or (λ (g : Func). g.ints) o 0
  fits_by None e = omega arith
  fits_by (Some g) e = (lawful.functions f g e).params

  pub at_start : (params ints : ℕ) → params ≡ params_of code f → ints ≡ ints_of code f → (first second : ℕ) → first ≡ 0 → second ≡ params
      → (none before after : Known) → none ≡ [] → before ≡ take params none ++ replicate (params - first) None
      → after ≡ take ints before ++ replicate (ints - second) (Some (pos 0)) → after ≡ known_at_start code f
  at_start params ints is_params is_ints first second is_first is_second none before after empty filled filled_again =
      let is_before = unknown params first none before empty is_first filled in
      let long : length before ≡ params_of code f = ap length is_before ∙ length-replicate params None ∙ is_params in
      let fits = fits_by (slice_get code.functions f) refl in
      filled_again
      ∙ ap (λ (xs : Known). xs ++ replicate (ints - second) (Some (pos 0))) (take_all ints before (omega (arith, fits, long, is_ints)))
      ∙ ap (λ (xs : Known). xs ++ replicate (ints - second) (Some (pos 0))) (is_before ∙ ap (λ n. replicate n None) is_params)
      ∙ ap (λ n. replicate (params_of code f) None ++ replicate (n - second) (Some (pos 0))) is_ints
      ∙ ap (λ n. replicate (params_of code f) None ++ replicate (ints_of code f - n) (Some (pos 0))) (is_second ∙ is_params)
