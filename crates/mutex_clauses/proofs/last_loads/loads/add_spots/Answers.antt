use Rattle.std.proofs.Common.{◌≡◌, ℕ, ◌<◌, List, [], ℤ, false, ap, ◌∙◌, arith, rules, get_or, length}
use Rattle.std.proofs.lemmas.List.{get_or_default}
use Rattle.cnf_core.specs.Clauses.{Formula}
use Rattle.bit_blast.specs.Reads.{with_clauses}
use Rattle.mutex_regions.specs.declared.variables.Spot.{Spot}
use Rattle.mutex_clauses.specs.last_loads.helpers.Listed.{names_spot, where_wanted, word_clauses}
use Rattle.mutex_clauses.proofs.last_loads.Folds.{each_next}
use Rattle.mutex_clauses.proofs.last_loads.loads.add_spots.Goals as goal

-- what stands past the last cell
abbrev no_spot : Spot
no_spot = record { variable = record { first = 0; cells = 0; is_array = false }; index = 0 }

pub loop-place-preserved : goal.loop-place-preserved
loop-place-preserved c =
    let s = c.args.last.now in
    let late = c.args.late.now in
    let i : ℕ = c.loop-place.place in
    let spot : Spot = get_or s.spots.now i no_spot in
    let word : List ℤ = c.index-words-place.result in
    let low : i < length s.spots.now = search rules in
    let held : word ≡ get_or s.words.now i [] =
    c.index-words-place.is ∙ get_or_default s.words.now i word [] (omega (arith, low, c.requires.count)) in
    let was = c.loop-place.invariant in
    let now = c.in_ok-add_spot.ensures in
    let g : Formula = c.loop-place.circuit in
    record {
      circuit = each_next (λ (k : ℕ) (x : Spot). where_wanted (names_spot s.terms.now x late.cell) (word_clauses late.after late.word (get_or s.words.now k [])))
          s.spots.now i no_spot c.args.circuit.now g c.add_spot.new.circuit low was.circuit
          (now.circuit
          ∙ ap (λ b. with_clauses g (where_wanted b (word_clauses late.after late.word word))) c.names_spot-is_its_cell.ensures
          ∙ ap (λ w. with_clauses g (where_wanted (names_spot s.terms.now spot late.cell) (word_clauses late.after late.word w))) held);
      vars = now.vars ∙ was.vars;
      few = omega (arith, now.few, was.few);
    }
