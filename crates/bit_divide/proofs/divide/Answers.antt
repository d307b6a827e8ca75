use Rattle.std.proofs.Common.{rules, subst, sym, replicate, ◌≤◌}
use Rattle.std.proofs.lemmas.List.Elements.{All-replicate}
use Rattle.cnf_core.specs.Clauses.{var_of}
use Rattle.bit_words.specs.Words.{AreWithin}
use Rattle.bit_shift.proofs.bit_arith.Rows.{within_inverted}
use Rattle.bit_divide.proofs.divide.Goals as goal

pub divide_places-requires : goal.divide_places-requires
divide_places-requires g c =
    let h : AreWithin c.args.circuit.now.vars c.invert.new.word =
    subst (AreWithin c.args.circuit.now.vars) (sym c.invert.ensures) (within_inverted c.args.circuit.now.vars c.args.divisor.now c.requires.second) in
    let z : AreWithin c.args.circuit.now.vars (replicate g.row.W c.constant-remainder.result) =
    All-replicate (λ l. var_of l ≤ c.args.circuit.now.vars) g.row.W c.constant-remainder.result c.constant-remainder.ensures.within in
    search (rules, h, z)
