use Rattle.std.proofs.Common.{subst, sym, IfOk}
use Rattle.store_buffers.specs.Buffers.{buffer_of}
use Rattle.memory_models.specs.declared.model.Model.{Model}
use Rattle.show_rows.specs.Rows.{AreTold}
use Rattle.show_rows.specs.declared.told.Told.{Told}
use Rattle.clap_debug_show_cli.proofs.shown.tell_under.Goals as goal

pub returns-in-Sc : goal.returns-in-Sc
returns-in-Sc c =
    let told = λ (m : Model) (t : Told). AreTold (buffer_of m) c.args.code.now c.args.schedule.now.moves.items t.rows.items t.end in
    subst (λ m. IfOk c.tell.result (told m)) (sym c.in-Sc.is) c.tell.ensures

pub returns-in-Tso : goal.returns-in-Tso
returns-in-Tso c =
    let told = λ (m : Model) (t : Told). AreTold (buffer_of m) c.args.code.now c.args.schedule.now.moves.items t.rows.items t.end in
    subst (λ m. IfOk c.tell-in-Tso.result (told m)) (sym c.in-Tso.is) c.tell-in-Tso.ensures

pub returns-in-Pso : goal.returns-in-Pso
returns-in-Pso c =
    let told = λ (m : Model) (t : Told). AreTold (buffer_of m) c.args.code.now c.args.schedule.now.moves.items t.rows.items t.end in
    subst (λ m. IfOk c.tell-in-Pso.result (told m)) (sym c.in-Pso.is) c.tell-in-Pso.ensures
