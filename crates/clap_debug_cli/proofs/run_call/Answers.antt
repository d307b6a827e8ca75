use Rattle.std.proofs.Common.{ap, option_map, subst, sym}
use Rattle.command_frame.specs.Run.{Runs}
use Rattle.check_command.specs.Meanings.{check_of}
use Rattle.cnf_command.specs.Meanings.{cnf_of}
use Rattle.import_command.specs.Meanings.{import_of}
use Rattle.list_command.specs.Listing.{list_of}
use Rattle.migrate_command.specs.Meanings.{migrate_of}
use Rattle.record_command.specs.Meanings.{record_of}
use Rattle.replay_command.specs.Meanings.{replay_of}
use Rattle.why_command.specs.Meanings.{why_of}
use Rattle.workload_command.specs.Meanings.{workload_of}
use Rattle.clap_debug_words.specs.Calls.{plain_call}
use Rattle.clap_debug_cli.specs.Call.{RunsCall, RunsSearch}
use Rattle.clap_debug_cli.proofs.run_call.Goals as goal

pub returns-in-List : goal.returns-in-List
returns-in-List g c =
    let old = g.H.Shelf.tells c.args.shelf.now in
    let new = g.H.Shelf.tells c.list.new.shelf in
    let before = g.K.Sink.tells c.args.sink.now in
    let after = g.K.Sink.tells c.list.new.sink in
    subst (λ call. RunsCall (plain_call call) old new c.list.result before after) (sym c.in-List.is)
    (subst (λ m. Runs m old new c.list.result before after) (ap list_of (λ i. (c.listed.ensures i).now)) c.list.ensures.runs)

pub returns-in-Replay : goal.returns-in-Replay
returns-in-Replay g c =
    let old = g.H.Shelf.tells c.args.shelf.now in
    let new = g.H.Shelf.tells c.replay_files.new.shelf in
    let before = g.K.Sink.tells c.args.sink.now in
    let after = g.K.Sink.tells c.replay_files.new.sink in
    subst (λ call. RunsCall (plain_call call) old new c.replay_files.result before after) (sym c.in-Replay.is)
    (subst (λ m. Runs m old new c.replay_files.result before after) (λ i. replay_of (c.replayed.ensures.program i).now (c.replayed.ensures.log i).now (c.replayed.ensures.schedule i).now) c.replay_files.ensures.runs)

pub returns-in-Record : goal.returns-in-Record
returns-in-Record g c =
    let old = g.H.Shelf.tells c.args.shelf.now in
    let new = g.H.Shelf.tells c.record_run.new.shelf in
    let before = g.K.Sink.tells c.args.sink.now in
    let after = g.K.Sink.tells c.record_run.new.sink in
    subst (λ call. RunsCall (plain_call call) old new c.record_run.result before after) (sym c.in-Record.is)
    (subst (λ m. Runs m old new c.record_run.result before after) (ap record_of c.recorded-record.ensures) c.record_run.ensures.runs)

pub returns-in-Migrate : goal.returns-in-Migrate
returns-in-Migrate g c =
    let old = g.H.Shelf.tells c.args.shelf.now in
    let new = g.H.Shelf.tells c.migrate_log.new.shelf in
    let before = g.K.Sink.tells c.args.sink.now in
    let after = g.K.Sink.tells c.migrate_log.new.sink in
    subst (λ call. RunsCall (plain_call call) old new c.migrate_log.result before after) (sym c.in-Migrate.is)
    (subst (λ m. Runs m old new c.migrate_log.result before after) (ap migrate_of c.migrated.ensures) c.migrate_log.ensures.runs)

pub returns-in-Solve : goal.returns-in-Solve
returns-in-Solve g c =
    let old = g.H.Shelf.tells c.args.shelf.now in
    let new = g.H.Shelf.tells c.search.new.shelf in
    let before = g.K.Sink.tells c.args.sink.now in
    let after = g.K.Sink.tells c.search.new.sink in
    subst (λ call. RunsCall (plain_call call) old new c.search.result before after) (sym c.in-Solve.is)
    (subst (λ call. RunsSearch call (option_map (λ s. s.now) c.in-Solve.least) old new c.search.result before after) c.solved-solve.ensures c.search.ensures)

pub returns-in-Check : goal.returns-in-Check
returns-in-Check g c =
    let old = g.H.Shelf.tells c.args.shelf.now in
    let new = g.H.Shelf.tells c.check_refutation.new.shelf in
    let before = g.K.Sink.tells c.args.sink.now in
    let after = g.K.Sink.tells c.check_refutation.new.sink in
    subst (λ call. RunsCall (plain_call call) old new c.check_refutation.result before after) (sym c.in-Check.is)
    (subst (λ m. Runs m old new c.check_refutation.result before after) (ap check_of c.checked.ensures) c.check_refutation.ensures.runs)

pub returns-in-Workload : goal.returns-in-Workload
returns-in-Workload g c =
    let old = g.H.Shelf.tells c.args.shelf.now in
    let new = g.H.Shelf.tells c.try_workload.new.shelf in
    let before = g.K.Sink.tells c.args.sink.now in
    let after = g.K.Sink.tells c.try_workload.new.sink in
    subst (λ call. RunsCall (plain_call call) old new c.try_workload.result before after) (sym c.in-Workload.is)
    (subst (λ m. Runs m old new c.try_workload.result before after) (ap workload_of c.worked.ensures) c.try_workload.ensures.runs)

pub returns-in-Cnf : goal.returns-in-Cnf
returns-in-Cnf g c =
    let old = g.H.Shelf.tells c.args.shelf.now in
    let new = g.H.Shelf.tells c.export_clauses.new.shelf in
    let before = g.K.Sink.tells c.args.sink.now in
    let after = g.K.Sink.tells c.export_clauses.new.sink in
    subst (λ call. RunsCall (plain_call call) old new c.export_clauses.result before after) (sym c.in-Cnf.is)
    (subst (λ m. Runs m old new c.export_clauses.result before after) (ap cnf_of c.exported.ensures) c.export_clauses.ensures.runs)

pub returns-in-Import : goal.returns-in-Import
returns-in-Import g c =
    let old = g.H.Shelf.tells c.args.shelf.now in
    let new = g.H.Shelf.tells c.import_answer.new.shelf in
    let before = g.K.Sink.tells c.args.sink.now in
    let after = g.K.Sink.tells c.import_answer.new.sink in
    subst (λ call. RunsCall (plain_call call) old new c.import_answer.result before after) (sym c.in-Import.is)
    (subst (λ m. Runs m old new c.import_answer.result before after) (ap import_of c.imported-import.ensures) c.import_answer.ensures.runs)

pub returns-in-Why : goal.returns-in-Why
returns-in-Why g c =
    let old = g.H.Shelf.tells c.args.shelf.now in
    let new = g.H.Shelf.tells c.explain_refutation.new.shelf in
    let before = g.K.Sink.tells c.args.sink.now in
    let after = g.K.Sink.tells c.explain_refutation.new.sink in
    subst (λ call. RunsCall (plain_call call) old new c.explain_refutation.result before after) (sym c.in-Why.is)
    (subst (λ m. Runs m old new c.explain_refutation.result before after) (ap why_of c.explained.ensures) c.explain_refutation.ensures.runs)
