use Rattle.lawful_terms.proofs.Same.{meets, more_mean_same, turned}
use Rattle.std.specs.Prelude.{◌++◌}
use Rattle.lawful_terms.proofs.orders_stay_lawful.Goals as goal

pub returns : goal.returns
returns c buffered bound code paths symbolic nodes more w g have named =
    let m = more_mean_same buffered bound code paths symbolic w nodes more have named in (
      meets buffered bound code paths symbolic w nodes (nodes ++ more) m g,
      meets buffered bound code paths symbolic w (nodes ++ more) nodes (turned buffered bound code paths symbolic w nodes (nodes ++ more) m) g,
    )
