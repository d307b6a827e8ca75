-- The state of a reader between two pieces of a text.
use Rattle.std.specs.Prelude.{◌≡◌, ℕ, List, ◌++◌, None}
use Rattle.refute_check.specs.Reading.{Reading, Reads, bodies}
use Rattle.refute_check.specs.declared.line.Line.{Line}
use Rattle.refute_check.specs.declared.text.Taken.{Taken}

-- the state after more bytes of the same line
abbrev pub pushed : Reading → List ℕ → Reading
pushed s bytes = record s { unfinished = s.unfinished ++ bytes }

-- reading these bytes extends the lines `ls` to `ms`, and no line breaks the form
abbrev pub ReadsMore : Reading → List ℕ → List Line → List Line → Reading → Type 0
ReadsMore s bytes ls ms t =
    (ts : List Taken) × Reads s bytes ts t × (bodies ms ≡ bodies ls ++ ts) × (t.fault ≡ None)
