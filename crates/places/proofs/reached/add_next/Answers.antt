use Rattle.std.proofs.Common.{◌∙◌, ℕ, ◌+◌, subst, sym}
use Rattle.std.proofs.lemmas.Bool.{false≢true}
use Rattle.std.proofs.lemmas.Result.{on_ok_weaker}
use Rattle.places.specs.Places.{goes_on, round_after}
use Rattle.places.specs.helpers.Jumps.{place_by}
use Rattle.places.specs.helpers.Waiting.{Adds}
use Rattle.places.proofs.Adding.{adds_next}
use Rattle.places.proofs.reached.add_next.Goals as goal

pub returns-then-goes_on : goal.returns-then-goes_on
returns-then-goes_on c =
    let old = c.args.waiting.now.entries in
    let new = c.add.new.waiting.entries in
    let limits = c.args.function.limits.now in
    let after = λ (to : ℕ). place_by c.args.function.loops.now to (round_after c.args.place.now to) in
    on_ok_weaker c.add.result
    (λ added. adds_next limits after c.args.place.now.instruction (goes_on c.args.instr.now) old new
    (λ t. subst (λ k. Adds limits (after (k + 1)) old new) c.instruction.ensures added)
    (λ f. absurd (false≢true (sym f ∙ sym c.if-goes_on.ensures)))) c.add.ensures
