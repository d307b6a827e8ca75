-- Readers, and shelves over real files.
use Rattle.std.specs.Prelude.{◌≡◌, ℕ, ◌≤◌, List, [], length, Option, Some, None, IsSomeAnd, option_map}
use Rattle.std.specs.Io.KnownBytes.{Consumes, IsAtEnd}
use Rattle.tc_io.specs.Faults.{PlainFaults, no_faults}
use Rattle.tc_io.specs.Outside.{ShelfTells, capped_sum}

-- the reader gave at most `limit` bytes, all counted; if its rest is known, it lost just these
pub record GaveAtMost (limit : ℕ) (old new : Option (List ℕ)) (before now : ℕ) : Type 0 where
  pub bytes : List ℕ
  pub most : length bytes ≤ limit
  pub counted : now ≡ capped_sum before (length bytes)
  pub lost : Consumes old new bytes

-- a file that is open for reading, and its name
pub record PlainOpen (F : Type 0) : Type 0 where
  pub name : List ℕ
  pub file : F

-- a shelf over real files: how many bytes were taken, its faults, and the open reading, if any
pub record PlainFileShelf (F : Type 0) : Type 0 where
  pub taken : ℕ
  pub faults : PlainFaults
  pub reading : Option (PlainOpen F)

-- a file shelf from which nothing was fetched
abbrev pub new_file_shelf : {F : Type 0} → PlainFileShelf F
new_file_shelf = record { taken = 0; faults = no_faults; reading = None }

-- what a file shelf reports: all but its contents
abbrev pub file_tells : {F : Type 0} → PlainFileShelf F → ShelfTells
file_tells shelf = record {
  held = None;
  faults = shelf.faults.count;
  taken = shelf.taken;
  last_fault = shelf.faults.last;
  open_name = option_map (λ r. r.name) shelf.reading;
  reading = None;
}

-- the open file gave these bytes, its next ones, and stays open; it gives none only at its end
abbrev pub ReadOn : {F : Type 0} → (remaining : F → Option (List ℕ))
    → (old new : Option (PlainOpen F)) → List ℕ → Type 0
ReadOn {F} remaining old new bytes =
    IsSomeAnd old (λ was. (now : F) × (new ≡ Some (record was { file = now }))
    × Consumes (remaining was.file) (remaining now) bytes × (bytes ≡ [] → IsAtEnd (remaining now)))
