use Rattle.std.proofs.Common.{refl}
use Rattle.cdcl_clauses.proofs.Laid.{entry_within, touched}
use Rattle.cdcl_clauses.proofs.clauses.Clauses.touch.Goals as goal

pub returns : goal.returns
returns c =
    let e = c.index_mut.result.now in
    let within = entry_within c.self.inside c.args.self.now c.self.view_is c.args.clause c.requires in
    rw c.index.ensures.index (touched c.self.inside c.args.self.now c.self.view_is c.args.clause c.index_mut.result.now
    (record { start = e.start; end = e.end; first = e.first; second = e.second; used = c.args.now; kept = e.kept }) within (rw c.index.ensures.index at c.index_mut.ensures.value) refl)
