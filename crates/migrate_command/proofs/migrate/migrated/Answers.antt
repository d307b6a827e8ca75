use Rattle.std.proofs.Common.{rules}
use Rattle.kept_logs.proofs.path_log.Logs.{has_text}
use Rattle.migrate_command.proofs.Refused.{other, over, unfit, unread}
use Rattle.migrate_command.proofs.migrate.migrated.Goals as goal

pub returns-in_err-code-clause-refused : goal.returns-in_err-code-clause-refused
returns-in_err-code-clause-refused c =
    let why = unread c.args.program.now c.args.log.now c.in_err-code.field-0.0 c.in_err-code.ensures.refused in
    search rules

pub returns-in_err-refuse_other-clause-refused : goal.returns-in_err-refuse_other-clause-refused
returns-in_err-refuse_other-clause-refused c =
    let why = other c.args.program.now c.args.log.now c.in_ok-code.code c.in_ok-code.log c.in_ok-code.ensures.code c.in_ok-code.ensures.log
    c.in_err-refuse_other.field-0.0 c.in_err-refuse_other.ensures.other in
    search rules

pub returns-in_err-refuse_excess-clause-refused : goal.returns-in_err-refuse_excess-clause-refused
returns-in_err-refuse_excess-clause-refused c =
    let why = over c.args.program.now c.args.log.now c.in_ok-code.code c.in_ok-code.log c.in_ok-code.ensures.code c.in_ok-code.ensures.log
    c.in_ok-refuse_other.ensures.same c.in_err-refuse_excess.field-0.0 c.in_err-refuse_excess.ensures.over in
    search rules

pub returns-in_err-walk-clause-refused : goal.returns-in_err-walk-clause-refused
returns-in_err-walk-clause-refused c =
    let why = unfit c.args.program.now c.args.log.now c.in_ok-code.code c.in_ok-code.log c.in_ok-code.ensures.code c.in_ok-code.ensures.log
    c.in_ok-refuse_other.ensures.same c.in_ok-refuse_excess.ensures.within c.in_err-walk.field-0.0 c.in_err-walk.ensures.err in
    search rules

pub text_with_digest-requires : goal.text_with_digest-requires
text_with_digest-requires c = (has_text c.in_ok-code.ensures.log).is_of_format

pub returns-clause-text : goal.returns-clause-text
returns-clause-text c = record {
  pair = record {
    code = c.in_ok-code.code;
    run = c.in_ok-code.log;
    programs = c.in_ok-code.ensures.code;
    logs = c.in_ok-code.ensures.log;
  };
  own = c.in_ok-refuse_other.ensures.same;
  within = c.in_ok-refuse_excess.ensures.within;
  fits = c.in_ok-walk.ensures.fits;
  is_text = c.in_ok-text.ensures.log;
}
