use Rattle.std.proofs.Common.{◌≡◌, map, subst, sym, ap, ◌∙◌}
use Rattle.std.specs.List.{Contains}
use Rattle.std.proofs.lemmas.List.{take_all}
use Rattle.tc_machine.specs.Moves.{move_of}
use Rattle.tc_machine.proofs.listed.moves.Goals as goal

pub returns-clause-all : goal.returns-clause-all
returns-clause-all g c m enabled =
    let whole : c.loop-choice.found.items ≡ map move_of c.in_ok-choices.choices.items =
    c.loop-choice.invariant
    ∙ ap (map move_of) (take_all c.loop-choice.choice-index c.deref-choice-items.result.now c.loop-choice-test.false ∙ c.deref-choice-items.ensures.value) in
    subst (λ moves. Contains moves m) (sym whole) (c.in_ok-choices.ensures.all m enabled)
