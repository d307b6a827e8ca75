-- What shelves and sinks report: contents, counts and faults; and how each call changes that.
use Rattle.std.specs.Prelude.{◌≡◌, ℕ, ◌+◌, ◌-◌, ◌^◌, ◌<◌, ◌≤◌, min, length, List, [], ◌++◌, take, Option, Some, None, IfSome, IsSomeAnd, unwrap_or, option_map, ◌⊎◌}
use Rattle.std.specs.Ordering.{nat_cmp}
use Rattle.std.specs.Cmp.Lexicographic.{slice_cmp}
use Rattle.std.specs.FinMap.{FinMap, get, insert}
use Rattle.std.specs.Io.KnownBytes.{IsAtEnd, prepend_known}

-- a failed call, with the name that it was given
pub data Fault : Type 0 where
  Reading : (name : List ℕ) → Fault
  Writing : (name : List ℕ) → Fault

-- the contents of a shelf: bytes by name
abbrev pub Files : Type 0
Files = FinMap (slice_cmp nat_cmp) (List ℕ)

-- the bytes under a name; none if the name is absent
abbrev pub bytes_at : Files → List ℕ → List ℕ
bytes_at files name = unwrap_or (get files name) []

-- the bytes under a name, if the contents are known
abbrev pub told_under : Option Files → List ℕ → Option (List ℕ)
told_under held name = option_map (λ files. bytes_at files name) held

-- a count plus this many, capped at 2 ^ 64 - 1
abbrev pub capped_sum : ℕ → ℕ → ℕ
capped_sum count more = count + min more (2 ^ 64 - 1 - count)

-- what a shelf reports
pub record ShelfTells : Type 0 where
  -- its contents, if known
  pub held : Option Files
  -- how many calls failed
  pub faults : ℕ
  -- how many bytes were taken
  pub taken : ℕ
  -- the last call that failed
  pub last_fault : Option Fault
  -- the name of the open reading, if any
  pub open_name : Option (List ℕ)
  -- the bytes that the open reading has left, if known
  pub reading : Option (List ℕ)

-- the same report with no open reading
abbrev pub without_reading : ShelfTells → ShelfTells
without_reading shelf = record shelf { open_name = None; reading = None }

-- `count` bytes were taken, no reading is open, and nothing else changed
abbrev pub Took : ShelfTells → ShelfTells → ℕ → Type 0
Took old new count = new ≡ record (without_reading old) { taken = capped_sum old.taken count }

-- a read of the name failed after `count` bytes: both are counted, and no reading is open
abbrev pub FailedAfter : ShelfTells → ShelfTells → List ℕ → ℕ → Type 0
FailedAfter old new name count =
    new ≡ record (without_reading old) {
      faults = capped_sum old.faults 1;
      taken = capped_sum old.taken count;
      last_fault = Some
          (Reading name);
    }

-- `count` is at most the limit plus 1, and at most the bytes under the name, if those are known
abbrev pub MayTake : Option Files → List ℕ → (limit count : ℕ) → Type 0
MayTake held name limit count =
    (count ≤ limit + 1) × IfSome held (λ files. count ≤ length (bytes_at files name))

-- a fetch took some bytes within its bounds, no reading is open, and nothing else changed
abbrev pub TookPart : ShelfTells → ShelfTells → List ℕ → ℕ → Type 0
TookPart old new name limit = (count : ℕ) × MayTake old.held name limit count × Took old new count

-- a fetch failed after some bytes within its bounds
abbrev pub FailedToGive : ShelfTells → ShelfTells → List ℕ → ℕ → Type 0
FailedToGive old new name limit =
    (count : ℕ) × MayTake old.held name limit count × FailedAfter old new name count

-- a fetch took these bytes, at most the limit: all that are under the name, if those are known
abbrev pub Gave : ShelfTells → ShelfTells → List ℕ → ℕ → List ℕ → Type 0
Gave old new name limit bytes =
    (length bytes ≤ limit) × Took old new (length bytes)
    × IfSome old.held (λ files. bytes ≡ bytes_at files name)

-- a fetch took one byte past the limit: the name has more bytes than the limit, if known
abbrev pub WasTooLong : ShelfTells → ShelfTells → List ℕ → ℕ → Type 0
WasTooLong old new name limit =
    Took old new (limit + 1) × IfSome old.held (λ files. limit < length (bytes_at files name))

-- the contents with these bytes under the name instead of the old ones
abbrev pub put_under : List ℕ → List ℕ → Option Files → Option Files
put_under name bytes held = option_map (λ files. insert files name bytes) held

-- the name has these bytes now, no reading is open, and nothing else changed
abbrev pub Kept : ShelfTells → ShelfTells → List ℕ → List ℕ → Type 0
Kept old new name bytes =
    new ≡ record (without_reading old) { held = put_under name bytes old.held }

-- the contents are unchanged, or the name has a prefix of the bytes now, maybe none or all
abbrev pub HoldsPart : Option Files → Option Files → List ℕ → List ℕ → Type 0
HoldsPart old new name bytes =
    (new ≡ old) ⊎ ((count : ℕ) × (new ≡ put_under name (take count bytes) old))

-- a keep failed, which is counted: the name has its old bytes or a prefix of the new ones
abbrev pub KeptPart : ShelfTells → ShelfTells → List ℕ → List ℕ → Type 0
KeptPart old new name bytes = (held : Option Files) × HoldsPart old.held held name bytes
    × (new ≡ record (without_reading old)
    { held = held; faults = capped_sum old.faults 1; last_fault = Some (Writing name) })

-- Readings: once opened, they give the bytes under a name piece by piece.

-- a reading of the name is open, with all its bytes left, and nothing else changed
abbrev pub Opened : ShelfTells → ShelfTells → List ℕ → Type 0
Opened old new name = new ≡ record old { open_name = Some name; reading = told_under old.held name }

-- the open failed before any byte was taken
abbrev pub FailedToOpen : ShelfTells → ShelfTells → List ℕ → Type 0
FailedToOpen old new name = FailedAfter old new name 0

-- the open reading gave these bytes, its next ones; it gives none only at its end
abbrev pub GavePiece : ShelfTells → ShelfTells → List ℕ → Type 0
GavePiece old new bytes =
    (new ≡ record old { taken = capped_sum old.taken (length bytes); reading = new.reading })
    × (old.reading ≡ prepend_known bytes new.reading) × (bytes ≡ [] → IsAtEnd new.reading)

-- the open reading failed to give a piece, after at most `most` bytes and no more than it had left
abbrev pub FailedToGivePiece : ShelfTells → ShelfTells → (most : ℕ) → Type 0
FailedToGivePiece old new most =
    IsSomeAnd old.open_name
    (λ name. (count : ℕ) × (count ≤ most) × IfSome old.reading (λ rest. count ≤ length rest)
    × FailedAfter old new name count)

-- a reading of the name was opened and gave these bytes so far; nothing else changed
abbrev pub GaveSoFar : ShelfTells → ShelfTells → List ℕ → List ℕ → Type 0
GaveSoFar old new name bytes =
    (new ≡ record old {
      taken = capped_sum old.taken
          (length bytes);
      open_name = Some name;
      reading = new.reading;
    })
    × (told_under old.held name ≡ prepend_known bytes new.reading)

-- a reading of the name gave these bytes to its end: all that the name has, if those are known
abbrev pub GaveReading : ShelfTells → ShelfTells → List ℕ → List ℕ → Type 0
GaveReading old new name bytes =
    (new ≡ record old {
      taken = capped_sum old.taken (length bytes);
      open_name = Some name;
      reading = option_map
          (λ _. []) old.held;
    })
    × IfSome old.held (λ files. bytes ≡ bytes_at files name)

-- a reading of the name failed, at its opening or after no more bytes than the name has
abbrev pub FailedReading : ShelfTells → ShelfTells → List ℕ → Type 0
FailedReading old new name =
    (count : ℕ) × IfSome old.held (λ files. count ≤ length (bytes_at files name))
    × FailedAfter old new name count

-- what a sink reports: what was written, if known, and how many puts failed
pub record SinkTells : Type 0 where
  pub written : Option (List ℕ)
  pub faults : ℕ

-- the text was appended to what was written, and nothing else changed
abbrev pub Wrote : SinkTells → SinkTells → List ℕ → Type 0
Wrote old new text =
    new ≡ record old { written = option_map (λ written. written ++ text) old.written }

-- a put failed, which is counted: a prefix of the text was written, maybe none or all
abbrev pub WrotePart : SinkTells → SinkTells → List ℕ → Type 0
WrotePart old new text =
    (count : ℕ)
    × (new ≡ record {
      written = option_map
          (λ written. written ++ take count text) old.written;
      faults = capped_sum old.faults 1;
    })
