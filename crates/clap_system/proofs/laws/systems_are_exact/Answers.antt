use Rattle.std.proofs.Common.{[]}
use Rattle.sym_exec.specs.Executed.{executed}
use Rattle.clap_system.specs.Systems.{with_needs}
use Rattle.clap_system.proofs.Exact.{lawful_where_true, true_where_lawful}
use Rattle.clap_system.proofs.Needs.{parts_exact}
use Rattle.clap_system.proofs.laws.systems_are_exact.Goals as goal

pub returns : goal.returns
returns c buffered bound code paths w up lawful are terms world of =
    let x = executed code paths [] in
    let nodes = with_needs buffered bound code paths x.symbolic x.nodes in
    let parts = parts_exact buffered bound code paths w up lawful are terms world of in
    (lawful_where_true buffered bound code paths x.symbolic nodes w parts, true_where_lawful buffered bound code paths x.symbolic nodes w parts)
