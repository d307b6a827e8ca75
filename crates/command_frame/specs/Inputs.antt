-- The inputs of a command, and the outcome of reading them.
use Rattle.std.specs.Prelude.{◌≡◌, ◌⊎◌, ℕ, ◌<◌, ◌≤◌, List, [], ◌∷◌, length, map}
use Rattle.tc_io.specs.Outside.{Files, ShelfTells, Gave, FailedToGive, WasTooLong, GaveReading, FailedReading, bytes_at}

-- the greatest number of bytes of inputs of a kind
pub record Limit : Type 0 where
  -- the name of the kind, such as `program` or `log`
  pub kind : List ℕ
  pub most : ℕ

-- an input, by its name: a file with a limit, or one of any length, read at once or in pieces
pub data Wanted : Type 0 where
  Whole : (limit : Limit) (name : List ℕ) → Wanted
  Entire : (name : List ℕ) → Wanted
  InPieces : (name : List ℕ) → Wanted

abbrev pub name_of : Wanted → List ℕ
name_of (Whole limit name) = name
name_of (Entire name) = name
name_of (InPieces name) = name

-- the greatest number of bytes that can be counted
abbrev pub no_limit : ℕ
no_limit = 18446744073709551615

-- the bytes of inputs, in order
abbrev pub Texts : Type 0
Texts = List (List ℕ)

-- the contents of the files with the inputs' names
abbrev pub texts_under : Files → List Wanted → Texts
texts_under files ws = map (λ w. bytes_at files (name_of w)) ws

-- the shelf gave these bytes of an input
abbrev pub GaveInput : Wanted → ShelfTells → ShelfTells → List ℕ → Type 0
GaveInput (Whole limit name) old new bytes = Gave old new name limit.most bytes
GaveInput (Entire name) old new bytes = Gave old new name no_limit bytes
GaveInput (InPieces name) old new bytes = GaveReading old new name bytes

-- the shelf failed to give an input, or one of any length had too many bytes to count
abbrev pub FailedInput : Wanted → ShelfTells → ShelfTells → Type 0
FailedInput (Whole limit name) old new = FailedToGive old new name limit.most
FailedInput (Entire name) old new =
    FailedToGive old new name no_limit ⊎ WasTooLong old new name no_limit
FailedInput (InPieces name) old new = FailedReading old new name

-- the input has this limit, and was longer than that
abbrev pub PassedLimit : Wanted → ShelfTells → ShelfTells → Limit → Type 0
PassedLimit (Whole own name) old new limit = (limit ≡ own) × WasTooLong old new name own.most
PassedLimit _ old new limit = ⊥

-- the bytes aren't longer than the limit of their input
abbrev pub IsWithinLimit : Wanted → List ℕ → Type 0
IsWithinLimit (Whole limit name) bytes = length bytes ≤ limit.most
IsWithinLimit _ bytes = Unit {0}

-- the input has this limit, and the bytes are more than that
abbrev pub IsPastLimit : Wanted → List ℕ → Limit → Type 0
IsPastLimit (Whole own name) bytes limit = (limit ≡ own) × (own.most < length bytes)
IsPastLimit _ bytes limit = ⊥

-- the shelf gave these inputs one after the other, and nothing else
abbrev pub GaveAll : List Wanted → ShelfTells → ShelfTells → Texts → Type 0
GaveAll [] old new [] = new ≡ old
GaveAll (w ∷ ws) old new (t ∷ ts) = (s : ShelfTells) × GaveInput w old s t × GaveAll ws s new ts
GaveAll _ old new _ = ⊥

-- the shelf gave the first input, and then `P` holds
abbrev pub GoesOn : Wanted → ShelfTells → (ShelfTells → Type 0) → Type 0
GoesOn w old P = (s : ShelfTells) × (bytes : List ℕ) × GaveInput w old s bytes × P s

-- the shelf gave the inputs before the one of this name, and failed at it
abbrev pub FailsToRead : List Wanted → ShelfTells → ShelfTells → List ℕ → Type 0
FailsToRead [] old new name = ⊥
FailsToRead (w ∷ ws) old new name =
    ((name ≡ name_of w) × FailedInput w old new) ⊎ GoesOn w old (λ s. FailsToRead ws s new name)

-- the shelf gave the inputs before one that was longer than its own limit, which is this one
abbrev pub PassesLimit : List Wanted → ShelfTells → ShelfTells → Limit → Type 0
PassesLimit [] old new limit = ⊥
PassesLimit (w ∷ ws) old new limit =
    PassedLimit w old new limit ⊎ GoesOn w old (λ s. PassesLimit ws s new limit)

-- there are bytes for each input, and none are longer than its limit
abbrev pub AreWithin : List Wanted → Texts → Type 0
AreWithin [] [] = Unit {0}
AreWithin (w ∷ ws) (t ∷ ts) = IsWithinLimit w t × AreWithin ws ts
AreWithin _ _ = ⊥

-- the first bytes that are longer than their input's limit are longer than this one
abbrev pub IsTooLong : List Wanted → Texts → Limit → Type 0
IsTooLong (w ∷ ws) (t ∷ ts) limit =
    IsPastLimit w t limit ⊎ (IsWithinLimit w t × IsTooLong ws ts limit)
IsTooLong _ _ limit = ⊥
