use Rattle.std.proofs.Common.{◌≡◌, ◌∙◌, ap, subst, sym}
use Rattle.sym_exec.specs.Executed.{Executed, arguments_for}
use Rattle.sym_exec.specs.Thread.{AreOf, HasTerms}
use Rattle.sym_exec.proofs.Sound.{start_sound, arguments_sound}
use Rattle.sym_exec.proofs.threads.add_thread.Goals as goal

pub run-requires-clause-sound : goal.run-requires-clause-sound
run-requires-clause-sound c =
    let x : Executed = record { symbolic = c.args.symbolic.now; nodes = c.args.terms.now } in
    let name = c.args.walk.now.name in
    let given : arguments_for x.symbolic.threads name ≡ c.arguments_for-arguments.result.now = sym (c.arguments_for-arguments.ensures
    ∙ ap (λ cs. arguments_for cs c.children.result.now) (c.deref.ensures.value ∙ ap (λ s. s.threads) c.symbolic.view_is)
    ∙ ap (arguments_for x.symbolic.threads) (c.children.ensures ∙ c.name.ensures)) in
    subst HasTerms (sym c.in_ok-thread.ensures.started)
    (start_sound c.ints_of-ints.result c.arguments_for-arguments.result.now c.symbolic.inside.loads c.args.terms.now
    (subst (AreOf c.args.terms.now) given (arguments_sound x name c.requires)))
