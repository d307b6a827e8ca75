use Rattle.std.proofs.Common.{refl}
use Rattle.refutation_input.proofs.Stages.{refused_begun}
use Rattle.refutation_input.proofs.incoming.begun.Goals as goal

pub returns-in-Ok : goal.returns-in-Ok
returns-in-Ok c = λ program bytes programs logs own. (
  record {
    pair = record { code = c.args.code.now; run = c.args.log.now; programs = programs; logs = logs };
    own = own;
    within = c.in-Ok.ensures.within;
  },
  refl,
  c.in-Ok.ensures.checker,
)

pub returns-in-Refused : goal.returns-in-Refused
returns-in-Refused c = λ program bytes programs logs own.
    refused_begun program bytes c.args.code.now c.args.log.now c.args.head programs logs own c.in-Refused.refusal
    (c.in-Refused.ensures c.args.code.now c.args.log.now.log c.in-Err.ensures.fault)
