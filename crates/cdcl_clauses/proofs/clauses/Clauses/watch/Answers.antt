use Rattle.std.proofs.Common.{ap, sym}
use Rattle.cdcl_clauses.specs.Clauses.{Clause}
use Rattle.cdcl_clauses.proofs.Laid.{clause_at, entry_within, replaced}
use Rattle.cdcl_clauses.proofs.clauses.Clauses.watch.Goals as goal

pub returns : goal.returns
returns c =
    let e = c.index_mut-entry.result.now in
    let within = entry_within c.self.inside c.args.self.now c.self.view_is c.args.clause c.requires in
    let there = clause_at c.self.inside c.args.self.now c.self.view_is c.args.clause e within (rw c.index.ensures.index at c.index_mut-entry.ensures.value) in
    rw c.index.ensures.index (replaced c.self.inside c.args.self.now c.self.view_is
    c.args.clause (record { start = e.start; end = e.end; first = c.args.first; second = c.args.second; used = e.used; kept = e.kept }) _
    (ap (λ (d : Clause). record d { first = c.args.first; second = c.args.second }) (sym there)))
