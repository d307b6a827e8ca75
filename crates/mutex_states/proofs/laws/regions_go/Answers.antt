use Rattle.mutex_regions.proofs.order_events.Whole.{whole}
use Rattle.mutex_regions.proofs.Distinct.{one_region}
use Rattle.mutex_regions.proofs.Ends.{act}
use Rattle.mutex_regions.proofs.Setting.{Setting}
use Rattle.mutex_states.proofs.Acting.{regions_go}
use Rattle.mutex_states.proofs.laws.regions_go.Goals as goal

pub returns : goal.returns
returns c code paths symbolic nodes formula w m top holds lawful are executed terms world of ints order above distinct tests =
    let set : Setting code paths symbolic nodes w m = record {
      about = record { world = world; of = of; whole = whole code paths are; executed = executed; terms = terms };
      ints = ints;
      memory = lawful.ints;
      one = one_region code paths m are;
      order = order;
    } in
    regions_go code paths symbolic nodes formula w m set (act code paths symbolic nodes w m set) top above distinct holds tests
