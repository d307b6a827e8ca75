use Rattle.std.proofs.Common.{take, length}
use Rattle.std.proofs.lemmas.Result.{err_from_is_err_and}
use Rattle.tc_tree.specs.Seen.{program_of}
use Rattle.tc_names.specs.Names.{threads_fault, names_fault}
use Rattle.tc_names.proofs.Programs.{declared_is, threads_of_all, names_threads, names_main, told}
use Rattle.tc_names.proofs.names.check_names.Goals as goal

pub check_threads-requires : goal.check_threads-requires
check_threads-requires c =
    let p = program_of c.args.tree.now.program in
    let all = declared_is p.globals c.args.tree.now.program.threads.items c.in_ok-all.all.items c.in_ok-all.ensures in
    rw (c.as_slice-3.ensures.value, c.as_slice-4.ensures.value, c.len.ensures, c.args.tree.now.program.globals.ok.0)
    (threads_of_all p c.in_ok-all.all.items all)

pub returns-in_err-check_threads : goal.returns-in_err-check_threads
returns-in_err-check_threads c =
    let source = c.args.tree.now.text.now in
    let p = program_of c.args.tree.now.program in
    let all = declared_is p.globals c.args.tree.now.program.threads.items c.in_ok-all.all.items c.in_ok-all.ensures in
    let clear = rw c.as_slice-2.ensures.value at c.in_ok-check_globals.ensures in
    let tells = rw (c.as_slice-3.ensures.value, c.as_slice-4.ensures.value, c.len.ensures, c.args.tree.now.program.globals.ok.0) at
    c.in_err-check_threads.ensures in
    let f = c.in_err-check_threads.field-0.0 in
    let h = told (Unit {0}) (Unit {0}) f (threads_fault source c.in_ok-all.all.items (take (length p.globals) c.in_ok-all.all.items) p.threads)
    (names_fault source p) tells
    (λ bad. names_threads source p c.in_ok-all.all.items f all clear bad) in
    let q = err_from_is_err_and c.from_residual-in_err-check_threads.result c.from_residual-in_err-check_threads.ensures.1 in
    rw (q.1, q.2) h

pub returns : goal.returns
returns c =
    let source = c.args.tree.now.text.now in
    let p = program_of c.args.tree.now.program in
    let all = declared_is p.globals c.args.tree.now.program.threads.items c.in_ok-all.all.items c.in_ok-all.ensures in
    let clear = rw c.as_slice-2.ensures.value at c.in_ok-check_globals.ensures in
    let good = rw (c.as_slice-3.ensures.value, c.as_slice-4.ensures.value, c.len.ensures, c.args.tree.now.program.globals.ok.0) at
    c.in_ok-check_threads.ensures in
    let h = names_main source p c.in_ok-all.all.items all clear good in
    rw h (rw c.as_slice-5.ensures.value at c.check_body.ensures)
