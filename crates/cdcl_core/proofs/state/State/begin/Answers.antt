use Rattle.std.proofs.Common.{ℕ, Option, subst}
use Rattle.cdcl_core.proofs.Starting.{live-loaded, Found}
use Rattle.cdcl_core.proofs.state.State.begin.Goals as goal

pub returns-in-None-clause-begun : goal.returns-in-None-clause-begun
returns-in-None-clause-begun c =
    live-loaded c.load_all.new.self c.in_ok-load_all.ensures.loaded
    (subst (λ (o : Option ℕ). Found c.load_all.new.self o) c.in-None.is c.in_ok-load_all.ensures.conflict)
