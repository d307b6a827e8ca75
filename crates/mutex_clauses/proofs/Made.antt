-- The clauses of a mutex's states, one part after another.
use Rattle.std.proofs.Common.{arith, ◌≡◌, ℕ, suc, ◌<◌, ◌≤◌, List, [], ℤ, refl, ap, ap₂, ◌∙◌, sym, subst, length, map}
use Rattle.std.specs.Prelude.{fold}
use Rattle.std.specs.List.{All, range_with_len}
use Rattle.std.proofs.lemmas.List.{length-map}
use Rattle.std.proofs.lemmas.List.Elements.{All-map, All-weaker}
use Rattle.tc_code.specs.Code.{Code}
use Rattle.tc_code.specs.tc_limits.declared.limits.TheConstants.{MUTEXES}
use Rattle.path_walk.specs.Paths.{Paths}
use Rattle.sym_terms.specs.declared.node.Node.{Node}
use Rattle.sym_exec.specs.Executed.{Symbolic}
use Rattle.order_formula.specs.declared.formula.Conjunct.{Conjunct}
use Rattle.cnf_core.specs.Clauses.{Formula, var_of}
use Rattle.bit_gates.specs.Folded.{IsLarger, Made}
use Rattle.bit_gates.specs.Laws.{IsOf}
use Rattle.bit_words.specs.Words.{AreWithin}
use Rattle.bit_terms.proofs.Meaning.{constant_operand}
use Rattle.bit_blast.specs.Drafts.{Draft, DraftIsWithin}
use Rattle.bit_blast.specs.Whole.{load_words}
use Rattle.bit_blast.proofs.Lists.{all_of}
use Rattle.mutex_regions.specs.declared.variables.Spot.{Spot}
use Rattle.mutex_states.specs.circuit_sizes.Small.{IsShort}
use Rattle.mutex_states.specs.Sizes.{most_size}
use Rattle.mutex_states.specs.States.{start_word, step_of, with_states}
use Rattle.mutex_states.specs.Steps.{State, Step, with_turns}
use Rattle.mutex_states.proofs.AllMutexes.{all_larger}
use Rattle.mutex_clauses.specs.shapes.Termed.{TermedSteps, termed, termed_steps}
use Rattle.mutex_clauses.specs.turns.Turns.{turns_size}
use Rattle.mutex_clauses.specs.helpers.Logs.{AreAll, HasStates, code_in, draft_of, formula_in, last_in, nodes_in, ordered_in, paths_in, ranked_in, regions_in, spots_in, start_in, steps_in, symbolic_in, turned_in, turns_size_in, with_next, with_own}
use Rattle.mutex_clauses.specs.helpers.Starts.{start_value, start_word as start_word_of}
use Rattle.mutex_clauses.specs.declared.log.Log.{Log}
use Rattle.mutex_clauses.proofs.Drafts.{draft_more}

module _ (l : Log) (m : ℕ) (f : Formula) where
  abbrev first_state : Formula → State
  first_state g = record { formula = g; words = start_in l m }

  -- the clauses after those of the ranks
  abbrev rest : (ordered : ℤ) → (before after : Formula) → Formula
  rest ordered before after =
      let s : State = turned_in l m ordered (suc before.vars) (first_state after) in last_in l m f ordered s.words s.formula

  pub states_made : (ordered : ℤ) (words : List (List ℤ)) (one two three four : Formula) → ordered ≡ (ordered_in l m f).literal
      → one ≡ (ordered_in l m f).formula
      → two ≡ ranked_in l m one → words ≡ (turned_in l m ordered (suc one.vars) (first_state two)).words
      → three ≡ (turned_in l m ordered (suc one.vars) (first_state two)).formula → four ≡ last_in l m f ordered words three
      → draft_of l four ≡ with_own l m f
  states_made ordered words one two three four literal first ranks last_words last_formula last =
      let o : Made = ordered_in l m f in
      let s : State = turned_in l m ordered (suc one.vars) (first_state two) in
      let all : four ≡ rest o.literal o.formula (ranked_in l m o.formula) =
      last ∙ ap (λ ws. last_in l m f ordered ws three) last_words ∙ ap (last_in l m f ordered s.words) last_formula
      ∙ ap (rest ordered one) ranks
      ∙ ap (λ k. rest ordered k (ranked_in l m k)) first ∙ ap (λ x. rest x o.formula (ranked_in l m o.formula)) literal in
      ap (draft_of l) all

-- the states after the ranks, from their lists
module _ (l : Log) (m : ℕ) where
  pub turns_made : (list : List Step) (first loads : List (List ℤ)) (ordered : ℤ) (start : ℕ) (g : Formula) → list ≡ steps_in l m
      → first ≡ start_in l m
      → loads ≡ load_words l.literals.layout.now
      → with_turns (length first) list loads l.literals.roots.now ordered start (record { formula = g; words = first })
      ≡ turned_in l m ordered start (record { formula = g; words = start_in l m })
  turns_made list first loads ordered start g of_list of_first of_loads =
      let roots : List ℤ = l.literals.roots.now in
      let x : State = record { formula = g; words = start_in l m } in
      let cells : ℕ = length (spots_in l m) in
      ap (λ fs. let s : State = record { formula = g; words = fs } in with_turns (length fs) list loads roots ordered start s) of_first
      ∙ ap (λ k. with_turns k list loads roots ordered start x)
      (length-map (spots_in l m) (start_word (code_in l) (paths_in l) (symbolic_in l) (nodes_in l) (formula_in l) m))
      ∙ ap (λ ls. with_turns cells ls loads roots ordered start x) of_list
      ∙ ap (λ ws. with_turns cells (steps_in l m) ws roots ordered start x) of_loads

  pub steps_count : (x : TermedSteps) (cells : ℕ) (list : List Step) → x ≡ termed_steps cells list → list ≡ steps_in l m
      → length x.steps ≡ length (regions_in l m)
  steps_count x cells list of_terms of_list =
      ap (λ (t : TermedSteps). length t.steps) of_terms ∙ length-map list (termed cells list) ∙ ap length of_list
      ∙ length-map (regions_in l m) (step_of (code_in l) (paths_in l) (symbolic_in l) (nodes_in l) (formula_in l) m)

  pub sizes_same : (cells : ℕ) (list : List Step) → cells ≡ length (spots_in l m) → list ≡ steps_in l m
      → turns_size cells list ≡ turns_size_in l m
  sizes_same cells list of_cells of_list = ap₂ turns_size of_cells of_list

-- the draft with the states of all mutexes, from its parts
pub has_states : {l : Log} {f g : Formula} → AreAll l f g → (words : List (List ℤ)) (roots : List ℤ) (d : Draft)
    → l.literals.words.now ≡ words
    → l.literals.roots.now ≡ roots
    → (let x : Draft = record { layout = l.literals.layout.now; clauses = f; words = words; roots = roots } in x ≡ d) → DraftIsWithin d
    → HasStates (code_in l) (paths_in l) (symbolic_in l) (nodes_in l) (formula_in l) d
    (record { layout = l.literals.layout.now; clauses = g; words = words; roots = roots })
has_states {l} {f} {g} all words roots d of_words of_roots is within =
    let over : Formula → List (List ℤ) → List ℤ → Draft =
    λ h ws rs. record { layout = l.literals.layout.now; clauses = h; words = ws; roots = rs } in
    let first : draft_of l f ≡ d = ap₂ (over f) of_words of_roots ∙ is in
    let last : draft_of l g ≡ over g words roots = ap₂ (over g) of_words of_roots in
    record {
      is = λ mutexes same.
          sym last ∙ all.is mutexes same
          ∙ ap (λ (x : Draft). (fold (with_next l) (record { draft = x; room = most_size }) (range_with_len 0 mutexes)).draft) first;
      within = subst DraftIsWithin last (draft_more l f g (subst DraftIsWithin (sym first) within) all.vars);
    }

-- the words of the values at the start are constant
pub words_within : (code : Code) (n : ℕ) (spots : List Spot) → 0 < n → All (AreWithin n) (map (start_word_of code) spots)
words_within code n spots one =
    let f : Formula = record { vars = n; clauses = [] } in
    All-map (AreWithin n) (start_word_of code) spots
    (all_of (λ s. AreWithin n (start_word_of code s)) spots
    (λ s _. All-weaker (IsOf n) (λ k. var_of k ≤ n) (λ k o. o.1) (start_word_of code s)
    (constant_operand f (start_value code s) one).literals))

pub words_short : (code : Code) (spots : List Spot) → All IsShort (map (start_word_of code) spots)
words_short code spots =
    let f : Formula = record { vars = 1; clauses = [] } in
    All-map IsShort (start_word_of code) spots
    (all_of (λ s. IsShort (start_word_of code s)) spots
    (λ s _. let width : length (start_word_of code s) ≡ 32 = (constant_operand f (start_value code s) (omega arith)).width in
    omega (arith, width)))

-- all states are those of the first mutexes, up to the last
module _ (code : Code) (paths : Paths) (symbolic : Symbolic) (nodes : List Node) (formula : List Conjunct) (d e : Draft)
    (has : HasStates code paths symbolic nodes formula d e) where
  pub all_made : e ≡ with_states code paths symbolic nodes formula d
  all_made = has.is MUTEXES refl

  pub all_few : IsLarger most_size d.clauses e.clauses
  all_few = subst (λ (x : Draft). IsLarger most_size d.clauses x.clauses) (sym all_made) (all_larger code paths symbolic nodes formula d)
