use Rattle.std.proofs.Common.{◌≡◌, ◌∙◌, ap, sym, map, Some, option_map, string_bytes}
use Rattle.clap_debug_show_cli.specs.Calls.{Help, Show, call_of, plain_call, plain_showing}
use Rattle.clap_debug_show_cli.proofs.Calls.{helped_call, helped_told, shown_call, shown_told, unheard_told}
use Rattle.clap_debug_show_cli.proofs.clap_debug_show.Goals as goal

pub returns-in-Ok-Some-Help-clause-call : goal.returns-in-Ok-Some-Help-clause-call
returns-in-Ok-Some-Help-clause-call g c =
    let words = map string_bytes c.args.words.now in
    let taken : call_of words ≡ Some (Help c.in-Ok-Some-Help.name.now) =
    sym c.in-Ok-Some-Help.ensures ∙ ap (option_map plain_call) (c.in-Ok-Some-Help.field-0-is ∙ ap Some c.in-Ok-Some-Help.field-0-0-is) in
    helped_call words (g.H.Shelf.tells c.args.shelf.now) (g.H.Shelf.tells c.run_help.new.shelf) _ (g.K.Sink.tells c.args.sink.now)
    (g.K.Sink.tells c.run_help.new.sink) c.in-Ok-Some-Help.name.now taken c.run_help.ensures.runs

pub returns-in-Ok-Some-Help-clause-told : goal.returns-in-Ok-Some-Help-clause-told
returns-in-Ok-Some-Help-clause-told g c =
    let words = map string_bytes c.args.words.now in
    let taken : call_of words ≡ Some (Help c.in-Ok-Some-Help.name.now) =
    sym c.in-Ok-Some-Help.ensures ∙ ap (option_map plain_call) (c.in-Ok-Some-Help.field-0-is ∙ ap Some c.in-Ok-Some-Help.field-0-0-is) in
    helped_told words (g.H.Shelf.tells c.args.shelf.now).held _ (g.K.Sink.tells c.args.sink.now) (g.K.Sink.tells c.run_help.new.sink)
    c.in-Ok-Some-Help.name.now taken c.run_help.ensures.over

pub returns-in-Ok-Some-Show-clause-call : goal.returns-in-Ok-Some-Show-clause-call
returns-in-Ok-Some-Show-clause-call g c =
    let words = map string_bytes c.args.words.now in
    let call = plain_showing c.in-Ok-Some-Show.showing in
    let taken : call_of words ≡ Some (Show call) =
    sym c.in-Ok-Some-Show.ensures ∙ ap (option_map plain_call) (c.in-Ok-Some-Show.field-0-is ∙ ap Some c.in-Ok-Some-Show.field-0-0-is) in
    shown_call words (g.H.Shelf.tells c.args.shelf.now) (g.H.Shelf.tells c.run_show.new.shelf) _ (g.K.Sink.tells c.args.sink.now)
    (g.K.Sink.tells c.run_show.new.sink) call taken c.run_show.ensures.runs

pub returns-in-Ok-Some-Show-clause-told : goal.returns-in-Ok-Some-Show-clause-told
returns-in-Ok-Some-Show-clause-told g c =
    let words = map string_bytes c.args.words.now in
    let call = plain_showing c.in-Ok-Some-Show.showing in
    let taken : call_of words ≡ Some (Show call) =
    sym c.in-Ok-Some-Show.ensures ∙ ap (option_map plain_call) (c.in-Ok-Some-Show.field-0-is ∙ ap Some c.in-Ok-Some-Show.field-0-0-is) in
    shown_told words (g.H.Shelf.tells c.args.shelf.now).held _ (g.K.Sink.tells c.args.sink.now) (g.K.Sink.tells c.run_show.new.sink)
    call taken c.run_show.ensures.over

pub returns-in-Err-clause-told : goal.returns-in-Err-clause-told
returns-in-Err-clause-told g c =
    unheard_told (map string_bytes c.args.words.now) (g.H.Shelf.tells c.args.shelf.now).held _ (g.K.Sink.tells c.args.sink.now)
    (g.K.Sink.tells c.say_no_memory.new.sink) c.say_no_memory.ensures
