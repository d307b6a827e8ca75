use Rattle.run_lawful.proofs.of_own.Own.{own_rule}
use Rattle.run_lawful.proofs.own.own_orders_are_kept.Goals as goal

pub returns : goal.returns
returns g c = λ setting nodes moves t terms again.
    own_rule setting nodes terms moves again t
