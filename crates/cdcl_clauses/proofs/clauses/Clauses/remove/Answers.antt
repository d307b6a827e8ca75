use Rattle.std.proofs.Common.{false, ap, sym}
use Rattle.cdcl_clauses.specs.Clauses.{Clause}
use Rattle.cdcl_clauses.proofs.Laid.{clause_at, entry_within, replaced}
use Rattle.cdcl_clauses.proofs.clauses.Clauses.remove.Goals as goal

pub returns : goal.returns
returns c =
    let e = c.index_mut.result.now in
    let within = entry_within c.self.inside c.args.self.now c.self.view_is c.args.clause c.requires in
    let there = clause_at c.self.inside c.args.self.now c.self.view_is c.args.clause e within (rw c.index.ensures.index at c.index_mut.ensures.value) in
    rw c.index.ensures.index (replaced c.self.inside c.args.self.now c.self.view_is
    c.args.clause (record { start = e.start; end = e.end; first = e.first; second = e.second; used = e.used; kept = false }) _
    (ap (λ (d : Clause). record d { kept = false }) (sym there)))
