use Rattle.std.proofs.Common.{◌≤◌, ap, length, rules, subst, sym}
use Rattle.schedule_file.specs.tc_limits.declared.limits.TheConstants.{EVENTS}
use Rattle.path_walk.specs.Paths.{Paths}
use Rattle.first_run.specs.lawful_order.Events.{all_events}
use Rattle.clap_solve.specs.Posed.{Posed}
use Rattle.clap_solve.proofs.Answered.{satisfied}
use Rattle.clap_solve.proofs.Room.{have_room}
use Rattle.clap_solve.proofs.solving.searched.Goals as goal

pub search-requires-clause-events : goal.search-requires-clause-events
search-requires-clause-events g c =
    let r = c.requires.posed in
    subst (λ (p : Paths). length (all_events p) ≤ EVENTS) (sym (ap (λ (p : Posed). p.paths) r.posed))
    (have_room c.args.code.now r.log r.given.is_log r.given.within r.given.steps).events

pub try_map-requires : goal.try_map-requires
try_map-requires g c = search (rules, satisfied)
