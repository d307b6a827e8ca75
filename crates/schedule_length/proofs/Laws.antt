-- Moves that reproduce a log within the limits have a short text.
use Rattle.std.proofs.Common.{◌≡◌, ◌^◌, ◌≤◌, true, ◌&&◌, List, length, map, arith}
use Rattle.std.specs.Prelude.{nat_le, nat_lt, sum}
use Rattle.std.specs.List.{All, list_all}
use Rattle.std.proofs.lemmas.Bool.{and_parts, ltb-true}
use Rattle.std.proofs.lemmas.List.Elements.{All-weaker}
use Rattle.std.proofs.lemmas.List.Sums.{AllPass-from_list_all, sum-map}
use Rattle.path_log.specs.tc_base.Buffers.{BufferOps}
use Rattle.path_log.specs.run_log.Logs.{Log}
use Rattle.path_log.specs.tc_base.Paths.{ThreadPath}
use Rattle.schedule_file.specs.tc_limits.declared.limits.TheConstants.{SCHEDULE_BYTES, STEPS, EVENTS}
use Rattle.path_log.specs.memory_models.declared.model.Model.{Model}
use Rattle.path_log.specs.tc_base.declared.moves.Move.{Move}
use Rattle.path_laws.specs.tc_code.Code.{Code}
use Rattle.path_laws.specs.tc_code.Lawful.{IsLawful}
use Rattle.path_laws.specs.tc_code.Run.{Reproduces}
use Rattle.path_laws.specs.store_buffers.Laws.{Laws}
use Rattle.path_laws.specs.store_buffers.Pending.{Binding}
use Rattle.path_laws.specs.run_follows.Machine.{Machine}
use Rattle.path_log.specs.Texts.{is_of_format, is_thread, is_within}
use Rattle.path_laws.specs.path_walk.Paths.{walk_of}
use Rattle.schedule_file.specs.Schedules.{HaveText, schedule_text}
use Rattle.schedule_length.specs.Lengths.{IsSmall, most_bytes}
use Rattle.schedule_length.proofs.Lines.{text_length}
use Rattle.schedule_length.proofs.Moves.{runs_are_steps, others_are_long}
use Rattle.schedule_length.proofs.Threads.{steps_are_few, long_are_few}

pub short : {B : Type 0} (machine : Machine B) (log : Log) (form : Model) (moves : List Move)
    → IsSmall machine.code log → HaveText form moves → Reproduces machine.ops machine.code log moves
    → length (schedule_text form moves) ≤ most_bytes
short machine log form moves small text r =
    let runs = runs_are_steps machine.ops machine.code moves r.state r.leads in
    let steps = steps_are_few machine log small moves r in
    let others = others_are_long machine.ops machine.code moves r.state r.leads in
    let events = long_are_few machine log small moves r in
    let added = sum-map (λ (t : ThreadPath). length (walk_of machine.code log t).events) log.threads in
    let threads = small.threads in
    let few : sum (map (λ (t : ThreadPath). length (walk_of machine.code log t).events) log.threads) ≤ EVENTS = small.events in
    let long = text_length form moves text.1 in
    omega (arith, runs, steps, others, events, added, threads, few, long)

pub room : most_bytes ≤ SCHEDULE_BYTES
room = omega arith

-- a schedule may have these moves
pub short_enough : {B : Type 0} (ops : BufferOps B) (model : Model) (bound : Binding) (code : Code) (log : Log) (form : Model) (moves : List Move)
    → Laws ops model bound → IsLawful code → IsSmall code log → HaveText form moves → Reproduces ops code log moves
    → length (schedule_text form moves) ≤ SCHEDULE_BYTES
short_enough ops model bound code log form moves laws lawful small text r =
    let few = short (record { ops = ops; model = model; bound = bound; laws = laws; code = code; lawful = lawful }) log form moves small text r in
    omega (arith, few, room)

-- a log with a text counts its steps in two bytes
pub steps_of_text : (log : Log) → is_of_format log ≡ true → All (λ t. t.path.steps ≤ STEPS) log.threads
steps_of_text log is =
    All-weaker (λ t. is_thread t ≡ true) (λ t. t.path.steps ≤ STEPS) few log.threads
    (AllPass-from_list_all is_thread log.threads (and_parts (nat_le (length log.threads) 255) (list_all is_thread log.threads) is).1)
  where
    few : (t : ThreadPath) → is_thread t ≡ true → t.path.steps ≤ STEPS
    few t h =
        let counts = (and_parts (nat_le (length t.name) 255 && list_all (is_within 1 255) t.name)
        (nat_lt t.path.steps (2 ^ 16) && nat_lt (length t.path.outcomes) (2 ^ 16)) h).1 in
        let steps = ltb-true t.path.steps (2 ^ 16) (and_parts (nat_lt t.path.steps (2 ^ 16)) (nat_lt (length t.path.outcomes) (2 ^ 16)) counts).0 in
        omega (arith, steps)
