use Rattle.std.proofs.Common.{refl, map, string_bytes}
use Rattle.clap_debug_cli.specs.clap_debug_words.Calls.{call_of}
use Rattle.test_shelves.specs.Mem.{sure_shelf_tells, sure_sink_tells}
use Rattle.test_cli.proofs.Calls.{eight_never_comes, seven_reads_entire}
use Rattle.test_cli.proofs.clap_debug_surely.Goals as goal

pub returns-clause-read_fault : goal.returns-clause-read_fault
returns-clause-read_fault c seven =
    seven_reads_entire (sure_shelf_tells c.args.shelf.now) (sure_shelf_tells c.clap_debug.new.shelf) c.clap_debug.result
    (sure_sink_tells c.args.sink.now) (sure_sink_tells c.clap_debug.new.sink) refl refl (call_of (map string_bytes c.args.words.now))
    c.clap_debug.ensures.call seven

pub returns-clause-no_write_fault : goal.returns-clause-no_write_fault
returns-clause-no_write_fault c eight =
    eight_never_comes (sure_shelf_tells c.args.shelf.now) (sure_shelf_tells c.clap_debug.new.shelf) c.clap_debug.result
    (sure_sink_tells c.args.sink.now) (sure_sink_tells c.clap_debug.new.sink) refl refl (call_of (map string_bytes c.args.words.now))
    c.clap_debug.ensures.call eight
