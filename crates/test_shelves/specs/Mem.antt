-- Shelves and sinks in memory.
use Rattle.std.specs.Prelude.{ℕ, ◌+◌, List, [], length, min, unwrap_or, Option, Some, None}
use Rattle.std.specs.FinMap.{empty}
use Rattle.tc_io.specs.Outside.{Files, ShelfTells, SinkTells, bytes_at, capped_sum}
use Rattle.tc_io.specs.Faults.{PlainFaults, no_faults}
use Rattle.test_shelves.specs.Plan.{PlainPlan, no_plan, told_at}
use Rattle.test_shelves.specs.Readings.{PlainReading, name_of, rest_of}

-- a shelf: its contents, its plan, how many bytes were taken, its faults, and any open reading
pub record PlainShelf : Type 0 where
  pub held : Files
  pub plan : PlainPlan
  pub taken : ℕ
  pub faults : PlainFaults
  pub reading : Option PlainReading

-- an empty shelf before its first call
abbrev pub empty_shelf : PlainShelf
empty_shelf = record { held = empty; plan = no_plan; taken = 0; faults = no_faults; reading = None }

-- the bytes taken after a fetch, which reads one byte past its limit at most, or until it fails
abbrev pub taken_after : PlainShelf → PlainPlan → List ℕ → (limit : ℕ) → ℕ
taken_after old plan name limit =
    let there = length (bytes_at old.held name) in
    capped_sum old.taken (min (unwrap_or (told_at plan) there) (min there (limit + 1)))

-- the bytes taken after a piece, which fills the room unless the reading ends or fails before
abbrev pub taken_after_piece : PlainShelf → PlainPlan → (room : ℕ) → ℕ
taken_after_piece old plan room =
    let rest = length (unwrap_or (rest_of old.held old.reading) []) in
    capped_sum old.taken (min rest (min (unwrap_or (told_at plan) room) room))

-- what a shelf in memory reports: its contents, and so what the open reading has left
abbrev pub tells_with : Files → (taken : ℕ) → PlainFaults → Option PlainReading → ShelfTells
tells_with held taken faults reading = record {
  held = Some held;
  faults = faults.count;
  taken = taken;
  last_fault = faults.last;
  open_name = name_of reading;
  reading = rest_of held reading;
}

-- a sink: what was written, which puts fail, and how many failed
pub record PlainSink : Type 0 where
  pub written : List ℕ
  pub plan : PlainPlan
  pub faults : ℕ

-- a sink to which nothing was written
abbrev pub empty_sink : PlainSink
empty_sink = record { written = []; plan = no_plan; faults = 0 }

-- a shelf that never fails: its contents, the bytes taken, and the open reading, if any
pub record PlainSureShelf : Type 0 where
  pub held : Files
  pub taken : ℕ
  pub reading : Option PlainReading

-- an empty shelf that never fails, from which nothing was fetched
abbrev pub empty_sure_shelf : PlainSureShelf
empty_sure_shelf = record { held = empty; taken = 0; reading = None }

-- what a shelf in memory that may fail reports
abbrev pub mem_tells : PlainShelf → ShelfTells
mem_tells shelf = tells_with shelf.held shelf.taken shelf.faults shelf.reading

-- what a sink in memory that may fail reports
abbrev pub sink_tells : PlainSink → SinkTells
sink_tells sink = record { written = Some sink.written; faults = sink.faults }

-- what a shelf that never fails reports
abbrev pub sure_shelf_tells : PlainSureShelf → ShelfTells
sure_shelf_tells shelf = tells_with shelf.held shelf.taken no_faults shelf.reading

-- what a sink that never fails reports
abbrev pub sure_sink_tells : List ℕ → SinkTells
sure_sink_tells written = record { written = Some written; faults = 0 }
