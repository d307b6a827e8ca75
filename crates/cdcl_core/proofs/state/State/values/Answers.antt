use Rattle.std.proofs.Common.{◌∙◌}
use Rattle.cdcl_lines.specs.Models.{Agrees}
use Rattle.cdcl_core.specs.Searches.{IsSolution}
use Rattle.cdcl_lines.proofs.Satisfying.{full-satisfies}
use Rattle.cdcl_core.proofs.state.State.values.Goals as goal

pub returns : goal.returns
returns c =
    let s = c.args.self.now in
    let a : Agrees s.trail c.in_ok-assignment.assignment = c.in_ok-assignment.ensures in
    let f = full-satisfies s.trail s.clauses s.watches s.formula.clauses c.in_ok-assignment.assignment c.requires.live.sound c.requires.complete.full
    c.requires.complete.propagated c.requires.live.agree.keeps a in
    let r : IsSolution s.formula c.in_ok-assignment.assignment = record { all = a.count ∙ c.requires.live.variables; satisfies = f } in
    rw c.into_values.ensures r
