use Rattle.std.proofs.Common.{sym, ap, ◌∙◌}
use Rattle.std.specs.FinMap as map
use Rattle.tc_threads.proofs.ByName.{get_of_entries, map_of_update, keys_after_insert, keys_after_undo}
use Rattle.tc_threads.proofs.threads.Threads.add.Goals as goal

pub invariant_of-self-in-Ok : goal.invariant_of-self-in-Ok
invariant_of-self-in-Ok g c = (
  keys_after_insert c.self.inside.by_name.entries c.insert-2.new.self.entries c.self.inside.names c.insert.new.self c.in_ok-at.at c.args.name
      c.in_ok-clone.field-0 c.args.thread
      (sym (get_of_entries c.self.inside.by_name.entries c.args.self.now c.args.name c.self.view_is) ∙ c.requires)
      c.self.invariant.0 c.in_ok-clone.ensures.cases c.in_ok-at.ensures.place c.in_ok-at.ensures.ok c.in-Ok.ensures.entries,
  c.in-Ok.ensures.ordered,
)

pub returns-in-Ok-clause-ok : goal.returns-in-Ok-clause-ok
returns-in-Ok-clause-ok g c =
    map_of_update c.self.inside.by_name.entries c.insert-2.new.self.entries c.args.name c.args.thread c.in-Ok.ensures.updates.0
    ∙ ap (λ m. map.insert m c.args.name c.args.thread) c.self.view_is

pub invariant_of-self-in-Err : goal.invariant_of-self-in-Err
invariant_of-self-in-Err g c = (
  keys_after_undo c.self.inside.by_name.entries c.insert-2.new.self.entries c.self.inside.names c.insert.new.self c.remove.new.self c.in_ok-at.at
      c.in_ok-clone.field-0 c.self.invariant.0 c.in_ok-at.ensures.place c.in_ok-at.ensures.ok c.remove.ensures c.in-Err.ensures.err,
  c.in-Err.ensures.ordered,
)
