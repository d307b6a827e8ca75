use Rattle.order_events.proofs.Whole.{whole}
use Rattle.mutex_regions.proofs.Distinct.{one_region}
use Rattle.mutex_regions.proofs.Ends.{act}
use Rattle.mutex_regions.proofs.laws.regions_act.Goals as goal

pub returns : goal.returns
returns c = λ code paths symbolic nodes w m lawful are executed terms world of ints order. act code paths symbolic nodes w m (record {
  about = record { world = world; of = of; whole = whole code paths are; executed = executed; terms = terms };
  ints = ints;
  memory = lawful.ints;
  one = one_region code paths m are;
  order = order;
})
