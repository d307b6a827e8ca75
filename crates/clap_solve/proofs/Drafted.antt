-- A draft keeps its roots, one for each conjunct, when the states of mutexes are added to it.
use Rattle.std.proofs.Common.{◌≡◌, ◌∙◌, ℕ, ◌+◌, ◌-◌, Bool, true, false, List, [], ◌∷◌, length, ap, refl, arith}
use Rattle.std.specs.Prelude.{fold, if◌then◌else◌}
use Rattle.std.specs.List.{range_with_len}
use Rattle.std.proofs.lemmas.List.{length_push}
use Rattle.schedule_file.specs.tc_limits.declared.limits.TheConstants.{MUTEXES}
use Rattle.tc_code.specs.Code.{Code}
use Rattle.path_walk.specs.Paths.{Paths}
use Rattle.order_formula.specs.sym_terms.declared.node.Node.{Node}
use Rattle.clap_system.specs.sym_exec.Executed.{Symbolic}
use Rattle.order_formula.specs.declared.formula.Conjunct.{Conjunct}
use Rattle.cnf_core.specs.Clauses.{Formula}
use Rattle.bit_blast.specs.bit_gates.Folded.{Made}
use Rattle.bit_blast.specs.bit_order.Layouts.{Layout}
use Rattle.bit_blast.specs.bit_ops.bit_words.Words.{Walked}
use Rattle.bit_blast.specs.Blasted.{layout_of}
use Rattle.bit_blast.specs.Cases.{Parts}
use Rattle.bit_blast.specs.Drafts.{Draft, drafted}
use Rattle.bit_blast.specs.Layered.{parts_of}
use Rattle.bit_blast.specs.Roots.{body_made, with_root}
use Rattle.bit_blast.specs.Whole.{clauses_with_terms}
use Rattle.bit_blast.specs.bit_terms.Terms.{Words}
use Rattle.clap_system.specs.Systems.{System}
use Rattle.mutex_clauses.specs.mutex_states.Sizes.{most_size}
use Rattle.mutex_clauses.specs.mutex_states.States.{Added, has_states, size, with_mutex, with_states, with_states_of}
use Rattle.clap_solve.specs.Clauses.{blasted_by, drafted_by}

module _ (code : Code) (paths : Paths) (symbolic : Symbolic) (nodes : List Node) (formula : List Conjunct) where
  abbrev with : Added → ℕ → Added
  with x m = with_mutex code paths symbolic nodes formula x m

  abbrev next : Added → ℕ → Added
  next x m = record { draft = with_states_of code paths symbolic nodes formula m x.draft; room = x.room - size code paths symbolic nodes formula m }

  one_keeps : (x : Added) (m : ℕ) → (with x m).draft.roots ≡ x.draft.roots
  one_keeps x m = by (has_states code paths symbolic nodes formula m x.room)
    where
      by : (b : Bool) → (if b then next x m else x).draft.roots ≡ x.draft.roots
      by true = refl
      by false = refl

  some_keep : (x : Added) (ms : List ℕ) → (fold with x ms).draft.roots ≡ x.draft.roots
  some_keep x [] = refl
  some_keep x (m ∷ ms) = some_keep (with x m) ms ∙ one_keeps x m

  pub same_roots : (d : Draft) → (with_states code paths symbolic nodes formula d).roots ≡ d.roots
  same_roots d = some_keep (record { draft = d; room = most_size }) (range_with_len 0 MUTEXES)

-- there is a root for each conjunct
counted : (parts : Parts) (m : Walked Formula) (formula : List Conjunct) → length (fold (with_root parts) m formula).word ≡ length m.word + length formula
counted parts m [] = omega arith
counted parts m (c ∷ cs) =
    let here : Made = body_made parts m.state c.body in
    omega (arith, counted parts (with_root parts m c) cs, length_push m.word here.literal)

draft_roots : (nodes : List Node) (formula : List Conjunct) (y : Layout) → length (drafted nodes formula y).roots ≡ length formula
draft_roots nodes formula y =
    let m : Words = clauses_with_terms y nodes in
    let none : Walked Formula = record { state = m.formula; word = [] } in
    omega (arith, counted (parts_of y m.words) none formula)

pub system_roots : (code : Code) (s : System) → (blasted_by code s).conjuncts ≡ length s.formula
unfolding drafted_by
system_roots code s =
    let y : Layout = layout_of s.order s.symbolic.loads s.formula in
    ap length (same_roots code s.paths s.symbolic s.nodes s.formula (drafted s.nodes s.formula y)) ∙ draft_roots s.nodes s.formula y
