use Rattle.std.proofs.Common.{[]}
use Rattle.sym_exec.specs.Executed.{executed}
use Rattle.clap_system.specs.Systems.{with_needs}
use Rattle.clap_system.proofs.Exact.{group_exact}
use Rattle.clap_system.proofs.Needs.{parts_exact}
use Rattle.clap_system.proofs.laws.groups_are_exact.Goals as goal

pub returns : goal.returns
returns c buffered bound code paths w g up lawful are terms world of =
    let x = executed code paths [] in
    group_exact buffered bound code paths x.symbolic (with_needs buffered bound code paths x.symbolic x.nodes) w
    (parts_exact buffered bound code paths w up lawful are terms world of) g
