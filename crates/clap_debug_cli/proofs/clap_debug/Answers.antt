use Rattle.std.proofs.Common.{◌≡◌, ◌∙◌, ap, sym, subst, map, Some, None, option_map, refl, string_bytes}
use Rattle.clap_debug_words.specs.Calls.{call_of, plain_call}
use Rattle.clap_debug_cli.specs.Call.{Does}
use Rattle.clap_debug_cli.proofs.Heard.{unheard}
use Rattle.clap_debug_cli.proofs.Sound.{told_sound}
use Rattle.clap_debug_cli.proofs.Told.{told}
use Rattle.clap_debug_cli.proofs.clap_debug.Goals as goal

-- words that ask for a call
pub returns-in-Ok-Some-clause-call : goal.returns-in-Ok-Some-clause-call
returns-in-Ok-Some-clause-call g c =
    let words = map string_bytes c.args.words.now in
    let old = g.H.Shelf.tells c.args.shelf.now in
    let new = g.H.Shelf.tells c.run_call.new.shelf in
    let taken : Some (plain_call c.in-Ok-Some.call) ≡ call_of words = ap (option_map plain_call) (sym c.in-Ok-Some.field-0-is) ∙ c.in-Ok-Some.ensures in
    subst (λ asked. Does asked old new c.run_call.result (g.K.Sink.tells c.args.sink.now) (g.K.Sink.tells c.run_call.new.sink)) taken c.run_call.ensures

pub returns-in-Ok-Some-clause-answers : goal.returns-in-Ok-Some-clause-answers
returns-in-Ok-Some-clause-answers g c =
    told (g.H.Shelf.tells c.args.shelf.now) (g.H.Shelf.tells c.run_call.new.shelf) c.run_call.result (g.K.Sink.tells c.args.sink.now)
    (g.K.Sink.tells c.run_call.new.sink) (call_of (map string_bytes c.args.words.now)) (returns-in-Ok-Some-clause-call g c)

pub returns-in-Ok-Some-clause-sound : goal.returns-in-Ok-Some-clause-sound
returns-in-Ok-Some-clause-sound g c =
    told_sound (g.H.Shelf.tells c.args.shelf.now).held
    (record { status = c.run_call.result; held = (g.H.Shelf.tells c.run_call.new.shelf).held; before = g.K.Sink.tells c.args.sink.now; after = g.K.Sink.tells c.run_call.new.sink })
    (call_of (map string_bytes c.args.words.now)) (returns-in-Ok-Some-clause-answers g c)

-- words that aren't taken
pub returns-in-Ok-None-clause-call : goal.returns-in-Ok-None-clause-call
returns-in-Ok-None-clause-call g c =
    let old = g.H.Shelf.tells c.args.shelf.now in
    let none : None ≡ call_of (map string_bytes c.args.words.now) = ap (option_map plain_call) (sym c.in-Ok-None.field-0-is) ∙ c.in-Ok-None.ensures in
    subst (λ asked. Does asked old old c.put_usage.result (g.K.Sink.tells c.args.sink.now) (g.K.Sink.tells c.put_usage.new.sink)) none
    (refl, c.put_usage.ensures)

pub returns-in-Ok-None-clause-answers : goal.returns-in-Ok-None-clause-answers
returns-in-Ok-None-clause-answers g c =
    told (g.H.Shelf.tells c.args.shelf.now) (g.H.Shelf.tells c.args.shelf.now) c.put_usage.result (g.K.Sink.tells c.args.sink.now)
    (g.K.Sink.tells c.put_usage.new.sink) (call_of (map string_bytes c.args.words.now)) (returns-in-Ok-None-clause-call g c)

pub returns-in-Ok-None-clause-sound : goal.returns-in-Ok-None-clause-sound
returns-in-Ok-None-clause-sound g c =
    told_sound (g.H.Shelf.tells c.args.shelf.now).held
    (record { status = c.put_usage.result; held = (g.H.Shelf.tells c.args.shelf.now).held; before = g.K.Sink.tells c.args.sink.now; after = g.K.Sink.tells c.put_usage.new.sink })
    (call_of (map string_bytes c.args.words.now)) (returns-in-Ok-None-clause-answers g c)

-- no memory for the words
pub returns-in-Err-clause-call : goal.returns-in-Err-clause-call
returns-in-Err-clause-call g c =
    unheard (g.H.Shelf.tells c.args.shelf.now) c.say_no_memory.result (g.K.Sink.tells c.args.sink.now) (g.K.Sink.tells c.say_no_memory.new.sink)
    c.say_no_memory.ensures (call_of (map string_bytes c.args.words.now))

pub returns-in-Err-clause-answers : goal.returns-in-Err-clause-answers
returns-in-Err-clause-answers g c =
    told (g.H.Shelf.tells c.args.shelf.now) (g.H.Shelf.tells c.args.shelf.now) c.say_no_memory.result (g.K.Sink.tells c.args.sink.now)
    (g.K.Sink.tells c.say_no_memory.new.sink) (call_of (map string_bytes c.args.words.now)) (returns-in-Err-clause-call g c)

pub returns-in-Err-clause-sound : goal.returns-in-Err-clause-sound
returns-in-Err-clause-sound g c =
    told_sound (g.H.Shelf.tells c.args.shelf.now).held
    (record { status = c.say_no_memory.result; held = (g.H.Shelf.tells c.args.shelf.now).held; before = g.K.Sink.tells c.args.sink.now; after = g.K.Sink.tells c.say_no_memory.new.sink })
    (call_of (map string_bytes c.args.words.now)) (returns-in-Err-clause-answers g c)
