use Rattle.std.proofs.Common.{◌≤◌, subst, sym}
use Rattle.cnf_core.specs.Clauses.{var_of}
use Rattle.bit_words.specs.Words.{AreWithin}
use Rattle.bit_shift.proofs.Moves.{far_are}
use Rattle.bit_shift.proofs.shift_stage.Goals as goal

pub choose_words-requires-clause-first : goal.choose_words-requires-clause-first
choose_words-requires-clause-first g c =
    subst (AreWithin c.args.circuit.now.vars) (sym c.move_places.ensures)
    (far_are (λ l. var_of l ≤ c.args.circuit.now.vars) c.args.to c.args.bit c.args.by c.args.word.now c.requires.bit c.requires.word)
