use Rattle.std.proofs.Common.{sym, ap, ◌∙◌, false, bytes_eq}
use Rattle.std.specs.Option.{option_map_or}
use Rattle.std.proofs.lemmas.Bool.{false≢true}
use Rattle.tc_base.specs.Names.{child}
use Rattle.tc_base.proofs.Names.{same_true, same_refl}
use Rattle.tc_threads.proofs.ByName.{at_name, get_of_entries, first_at_name, further_at_name}
use Rattle.tc_threads.proofs.threads.Threads.child_has_exited.Goals as goal

pub loop-name-init : goal.loop-name-init
loop-name-init g c =
    get_of_entries c.self.inside.by_name.entries c.args.self.now (child c.args.parent.now c.args.number) c.self.view_is
    ∙ ap (λ es. at_name es (child c.args.parent.now c.args.number)) (sym c.into_iter-name-iterator.ensures.into_iter_gives.0)

pub returns-then-is_child_of : goal.returns-then-is_child_of
returns-then-is_child_of g c =
    c.has_exited.ensures ∙ ap (λ l. l.has_exited) c.local.ensures
    ∙ ap (λ o. option_map_or (λ t. t.local.has_exited) o false)
    (sym (c.loop-name.invariant ∙ first_at_name c.loop-name.name-iterator c.next.new.self c.in-Some.name.now
    (child c.args.parent.now c.args.number) c.in-Some.thread.now c.in-Some.ensures.steps
    (sym (same_true c.in-Some.name.now (child c.args.parent.now c.args.number) (sym c.is_child_of.ensures ∙ c.if-is_child_of.true)))))

pub loop-name-preserved : goal.loop-name-preserved
loop-name-preserved g c =
    let own = child c.args.parent.now c.args.number in
    c.loop-name.invariant
    ∙ further_at_name c.loop-name.name-iterator c.next.new.self c.in-Some.name.now own c.in-Some.thread.now c.in-Some.ensures.steps
    (λ same. false≢true (sym c.if-is_child_of.false ∙ c.is_child_of.ensures ∙ ap (λ n. bytes_eq n own) (sym same) ∙ same_refl own))
