use Rattle.std.proofs.Common.{◌≡◌, ◌∙◌, [], ◌∷◌, Some, sym, ap}
use Rattle.std.proofs.lemmas.Result.{IfOk-weaker}
use Rattle.show_deeds.specs.run_history.History.{deed_of}
use Rattle.tc_base.specs.declared.moves.Move.TheVariants as move
use Rattle.show_deeds.specs.Deeds.{plain_deed}
use Rattle.show_deeds.specs.declared.deed.Deed.TheVariants as deed
use Rattle.show_rows.specs.Rows.{deeds}
use Rattle.show_rows.proofs.Deeds.{some_drains, drain_gives}
use Rattle.std.specs.Prelude.{option_map}
use Rattle.show_rows.proofs.telling.Telling.drain.Goals as goal

pub unreachable-requires : goal.unreachable-requires
unreachable-requires g c =
    some_drains g.M.MemoryModel.ops _ _ g.met.M.MemoryModel.laws c.args.code.now c.args.state.now c.args.self.now c.requires.so_far c.args.name.now c.args.form
    c.requires.enabled (sym c.first_by.ensures ∙ ap (option_map (λ s. s.now)) c.in_default.is)

pub returns : goal.returns
returns g c =
    IfOk-weaker c.copy.result (λ s. s ≡ c.in-Some.stored.now)
    (λ s. deed_of g.M.MemoryModel.ops c.args.code.now c.args.state.now (deeds c.args.self.now.rows.items) (move.Drain c.args.name.now c.args.form)
    ≡ plain_deed (deed.Drained s) ∷ [])
    (λ s is.
    drain_gives g.M.MemoryModel.ops _ _ g.met.M.MemoryModel.laws c.args.code.now c.args.state.now c.args.self.now c.requires.so_far c.args.name.now c.args.form
    c.requires.enabled s (sym c.in-Some.ensures ∙ ap (λ x. Some x) (sym is)))
    c.copy.ensures
