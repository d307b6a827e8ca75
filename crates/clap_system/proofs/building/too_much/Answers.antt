use Rattle.std.proofs.Common.{◌≡◌, ◌≤◌, ◌∙◌, length, map, Some, refl, sym, ap, subst, arith}
use Rattle.std.specs.Prelude.{nat_lt}
use Rattle.std.proofs.lemmas.Bool.{ltb-true}
use Rattle.run_log.specs.Logs.{first_deeper}
use Rattle.run_log.specs.tc_base.Paths.{ThreadPath}
use Rattle.tc_limits.specs.declared.limits.TheConstants.{DEPTH, THREADS}
use Rattle.clap_system.specs.Faults.{IsBuildFault}
use Rattle.clap_system.proofs.Deep.{found_passes}
use Rattle.clap_system.proofs.building.too_much.Goals as goal

pub returns : goal.returns
returns c = λ code.
    let log = c.args.log.now.log in
    let n = c.in_ok-depth.depth in
    let deep : first_deeper DEPTH log.threads ≡ Some n = sym c.first_deeper.ensures ∙ c.in_ok-depth.was in
    let few : length log.threads ≤ THREADS = omega (arith, c.if-threads-gt-THREADS.false, ap length c.threads-threads.ensures.threads) in
    let over = ltb-true DEPTH n (found_passes (nat_lt DEPTH) (map (λ (t : ThreadPath). length t.name) log.threads) n deep) in
    subst (IsBuildFault code log) (sym c.over-2.ensures) (over, refl, (few, deep))
