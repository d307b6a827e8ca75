use Rattle.std.proofs.Common.{ℕ, ℤ, List, ◌≤◌, replicate}
use Rattle.std.proofs.lemmas.List.Elements.{All-cons, All-replicate}
use Rattle.cnf_core.specs.Clauses.{var_of}
use Rattle.bit_ops.proofs.truth.Goals as goal

pub returns-clause-within : goal.returns-clause-within
returns-clause-within c =
    let n : ℕ = c.args.circuit.now.vars in
    let none : ℤ = c.constant-word.result in
    let nones : List ℤ = replicate 31 none in
    All-cons (λ l. var_of l ≤ n) c.args.lit nones c.requires (All-replicate (λ l. var_of l ≤ n) 31 none c.constant-word.ensures.within)
