use Rattle.std.proofs.Common.{◌∙◌, subst}
use Rattle.find_command.specs.Calls.{plain_search}
use Rattle.find_command.specs.Findings.{IsToldAs}
use Rattle.find_command.proofs.Answered.{has_format}
use Rattle.find_command.proofs.searching.search_code.Goals as goal

pub told-finding-requires : goal.told-finding-requires
told-finding-requires c =
    has_format (plain_search c.args.call.now) c.args.code.now c.in_ok-found.field-0.found c.args.call.now.few c.in_ok-found.ensures.found

pub returns : goal.returns
returns c = (
  c.in_ok-found.field-0,
  c.in_ok-found.ensures,
  record {
    finding = subst (λ logs. IsToldAs c.args.program.now (plain_search c.args.call.now) logs c.in_ok-found.field-0.found c.in_ok-finding.field-0)
        c.deref.ensures.value c.in_ok-finding.ensures;
    impossible = c.len-impossible.ensures ∙ c.in_ok-found.field-0.refuted.ok.0;
  },
)
