use Rattle.std.proofs.Common.{◌≤◌, ap, length, rules, subst, sym}
use Rattle.schedule_file.specs.tc_limits.declared.limits.TheConstants.{EVENTS}
use Rattle.path_walk.specs.Paths.{Paths}
use Rattle.order_events.specs.lawful_order.Events.{all_events}
use Rattle.clap_solve.specs.Posed.{Posed}
use Rattle.clap_solve.proofs.Room.{have_room}
use Rattle.least_switch.proofs.Told.{is_first}
use Rattle.least_switch.proofs.stages.searched.Goals as goal

pub search-requires-clause-events : goal.search-requires-clause-events
search-requires-clause-events g c =
    let given = c.requires.posed.given in
    subst (λ (p : Paths). length (all_events p) ≤ EVENTS) (sym (ap (λ (p : Posed). p.paths) c.requires.posed.is))
    (have_room c.args.code.now c.args.log.now.log given.is_log given.within given.steps).events

pub try_map-requires : goal.try_map-requires
try_map-requires g c = search (rules, is_first)
