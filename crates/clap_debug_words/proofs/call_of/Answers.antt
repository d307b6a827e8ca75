use Rattle.std.proofs.Common.{◌≡◌, ◌∙◌, ap}
use Rattle.clap.specs.Words.{app_of, is_simple, is_simple_and_free}
use Rattle.clap_debug_words.specs.CommandLine as spec
use Rattle.clap_debug_words.proofs.Taken.{made, no_call}
use Rattle.clap_debug_words.proofs.call_of.Goals as goal

pub returns-in-Ok : goal.returns-in-Ok
returns-in-Ok c =
    let app_is : app_of c.in_ok-command_line.field-0 ≡ spec.command_line = c.in_ok-command_line.ensures in
    let got = c.in-Ok.ensures.matches (ap is_simple app_is) in
    c.call_in.ensures
    ∙ made (app_of c.in_ok-command_line.field-0) _ _ app_is (c.in-Ok.ensures.kinds (ap is_simple_and_free app_is)) got.1

pub returns : goal.returns
returns c =
    let app_is : app_of c.in_ok-command_line.field-0 ≡ spec.command_line = c.in_ok-command_line.ensures in
    no_call (app_of c.in_ok-command_line.field-0) _ _ app_is (λ e. c.in_default.not-OutOfMemory (c.kind.ensures ∙ e))
    (c.in-Err.ensures.kinds (ap is_simple_and_free app_is))
