-- The states of all mutexes, added one mutex after another.
use Rattle.std.proofs.Common.{◌≡◌, ℕ, ◌-◌, ◌≤◌, Bool, true, false, List, [], ◌∷◌, refl, arith, length}
use Rattle.std.specs.Prelude.{◌&&◌, fold, if◌then◌else◌, nat_le}
use Rattle.std.specs.List.{range_with_len}
use Rattle.std.proofs.lemmas.Bool.{and_parts, leb-true}
use Rattle.order_cells.specs.sym_exec.path_walk.tc_code.Code.{Code}
use Rattle.order_cells.specs.sym_exec.path_walk.tc_code.tc_limits.declared.limits.TheConstants.{MUTEXES}
use Rattle.order_cells.specs.sym_exec.path_walk.Paths.{Paths}
use Rattle.circuit_sizes.specs.sym_terms.declared.node.Node.{Node}
use Rattle.order_cells.specs.sym_exec.Executed.{Symbolic}
use Rattle.mutex_regions.specs.order_events.order_formula.declared.formula.Conjunct.{Conjunct}
use Rattle.bit_gates.specs.Folded.{IsLarger}
use Rattle.circuit_sizes.proofs.bit_ops.bit_words.Loops.{larger_more}
use Rattle.bit_blast.specs.Drafts.{Draft, KeepsWorlds}
use Rattle.bit_blast.specs.Says.{DraftTells}
use Rattle.bit_blast.proofs.Rooted.{kept}
use Rattle.bit_blast.proofs.Saying.{keeps_more, still_tells}
use Rattle.mutex_states.specs.Sizes.{most_size}
use Rattle.mutex_states.specs.States.{Added, has_states, size, spots, steps, with_mutex, with_states, with_states_of}
use Rattle.circuit_sizes.proofs.Gates.{larger_none, larger_up}
use Rattle.mutex_states.proofs.Bounds.{states_larger}

module _ (code : Code) (paths : Paths) (symbolic : Symbolic) (nodes : List Node) (formula : List Conjunct) (d : Draft) where
  abbrev next : ℕ → Draft → Draft
  next m e = with_states_of code paths symbolic nodes formula m e

  abbrev with : Added → ℕ → Added
  with x m = with_mutex code paths symbolic nodes formula x m

  abbrev fits : ℕ → ℕ → Bool
  fits m room = has_states code paths symbolic nodes formula m room

  abbrev size_of : ℕ → ℕ
  size_of m = size code paths symbolic nodes formula m

  -- each mutex keeps the worlds of the draft before it
  module _ (tells : DraftTells nodes formula d) (each : (m : ℕ) (e : Draft) → KeepsWorlds nodes formula d e → DraftTells nodes formula e
      → KeepsWorlds nodes formula e (with_states_of code paths symbolic nodes formula m e)) where
    one_keeps : (x : Added) (m : ℕ) → KeepsWorlds nodes formula d x.draft → KeepsWorlds nodes formula d (with x m).draft
    one_keeps x m keeps = by (fits m x.room)
      where
        by : (b : Bool) → KeepsWorlds nodes formula d (if b then record { draft = next m x.draft; room = x.room - size_of m } else x).draft
        by true =
            keeps_more nodes formula d x.draft tells keeps (next m x.draft) (each m x.draft keeps (still_tells nodes formula d x.draft tells keeps))
        by false = keeps

    some_keep : (x : Added) (ms : List ℕ) → KeepsWorlds nodes formula d x.draft → KeepsWorlds nodes formula d (fold with x ms).draft
    some_keep x [] keeps = keeps
    some_keep x (m ∷ ms) keeps = some_keep (with x m) ms (one_keeps x m keeps)

    pub all_keep : KeepsWorlds nodes formula d (with_states code paths symbolic nodes formula d)
    all_keep = some_keep (record { draft = d; room = most_size }) (range_with_len 0 MUTEXES) (kept nodes formula d)

  -- what is left of the room says how much was added
  record IsAdded (x : Added) : Type 0 where
    room : x.room ≤ most_size
    larger : IsLarger (most_size - x.room) d.clauses x.draft.clauses

  one_added : (x : Added) (m : ℕ) → IsAdded x → IsAdded (with x m)
  one_added x m is = by (fits m x.room) refl
    where
      by : (b : Bool) → fits m x.room ≡ b → IsAdded (if b then record { draft = next m x.draft; room = x.room - size_of m } else x)
      by true has =
          let p = and_parts (nat_le 2 (length (steps code paths symbolic nodes formula m)))
          (nat_le 1 (length (spots code paths symbolic nodes formula m)) && nat_le (size_of m) x.room) has in
          let q = and_parts (nat_le 1 (length (spots code paths symbolic nodes formula m))) (nat_le (size_of m) x.room) p.1 in
          let less : size_of m ≤ x.room = leb-true (size_of m) x.room q.1 in
          let most : x.room ≤ most_size = is.room in
          record {
            room = omega (arith, most);
            larger = larger_more (most_size - x.room) (size_of m) (most_size - (x.room - size_of m)) d.clauses x.draft.clauses (next m x.draft).clauses
                is.larger (states_larger code paths symbolic nodes formula m x.draft) (omega (arith, less, most));
          }
      by false has = is

  some_added : (x : Added) (ms : List ℕ) → IsAdded x → IsAdded (fold with x ms)
  some_added x [] is = is
  some_added x (m ∷ ms) is = some_added (with x m) ms (one_added x m is)

  pub all_larger : IsLarger most_size d.clauses (with_states code paths symbolic nodes formula d).clauses
  all_larger =
      let first : Added = record { draft = d; room = most_size } in
      let last = some_added first (range_with_len 0 MUTEXES) (record { room = omega arith; larger = larger_none (most_size - most_size) d.clauses }) in
      larger_up (most_size - (fold with first (range_with_len 0 MUTEXES)).room) most_size d.clauses (with_states code paths symbolic nodes formula d).clauses
      (omega arith) last.larger
