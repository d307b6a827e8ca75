-- The fields of a log's text, in their order, each with its length and its rule.
use Rattle.std.specs.Prelude.{ℕ, zero, suc, ◌+◌, ◌-◌, ◌/◌, ◌^◌, Bool, true, false, not, ◌&&◌, ◌==◌, nat_le, nat_lt, if◌then◌else◌, bytes_eq}
use Rattle.std.specs.Prelude.{List, [], ◌∷◌, ◌++◌, length, take, drop, slice_index, replicate, Option, Some, None, is_some, Result, Ok, Err, codes, ◌%◌}
use Rattle.std.specs.List.{flat_map, list_all}
use Rattle.byteorder.specs.Endian.{big_number}
use Rattle.tc_base.specs.Names.{Name}
use Rattle.tc_base.specs.Paths.{ThreadPath}
use Rattle.tc_base.specs.declared.failing.Failing.{Failing}
use Rattle.tc_base.specs.declared.failing.Failing.TheVariants.{Thread, Deadlock}
use Rattle.memory_models.specs.declared.model.Model.{Model}
use Rattle.memory_models.specs.declared.model.Model.TheVariants.{Sc, Tso, Pso}
use Rattle.run_log.specs.Logs.{StoredLog, is_above, is_there}

-- an offset, and the bytes from there on
abbrev pub Place : Type 0
Place = ℕ × List ℕ

-- a reader of fields: it gives their value and the place after them, or the offset of the first
-- field that is cut short or breaks its rule
abbrev pub Fields : Type 0 → Type 0
Fields X = Place → Result (X × Place) ℕ

-- no field, with this value
abbrev pub done : {X : Type 0} → X → Fields X
done x place = Ok (x, place)

-- the fields that the value read so far chooses, or the offset of a fault
abbrev pub behind : {X Y : Type 0} → Result (X × Place) ℕ → (X → Fields Y) → Result (Y × Place) ℕ
behind (Ok x) more = more x.0 x.1
behind (Err offset) more = Err offset

-- fields, followed by the fields that their value chooses
infixl 10 ◌>>=◌
abbrev pub ◌>>=◌ : {X Y : Type 0} → Fields X → (X → Fields Y) → Fields Y
(fields >>= more) place = behind (fields place) more

-- one field of n bytes
abbrev pub field : ℕ → Fields (List ℕ)
field n place =
    if nat_lt (length place.1) n then Err place.0
    else Ok (take n place.1, (place.0 + n, drop n place.1))

-- the value if it passes the rule, else the offset
abbrev pub kept : {X : Type 0} → (X → Bool) → ℕ → Result (X × Place) ℕ → Result (X × Place) ℕ
kept rule offset (Ok x) = if rule x.0 then Ok x else Err offset
kept rule offset (Err other) = Err other

-- fields whose value must pass a rule; a broken rule is reported at the first field
infixl 12 ◌such◌
abbrev pub ◌such◌ : {X : Type 0} → Fields X → (X → Bool) → Fields X
(fields such rule) place = kept rule place.0 (fields place)

-- whether a number lies between low and high, both included
abbrev pub is_within : ℕ → ℕ → ℕ → Bool
is_within low high n = nat_le low n && nat_le n high

-- a number of one byte
abbrev pub byte : Fields ℕ
byte = field 1 >>= λ bytes. done (slice_index bytes 0)

-- a number of two bytes, high byte first
abbrev pub two : Fields ℕ
two = field 2 >>= λ bytes. done (big_number 2 bytes)

-- the end of the text
abbrev pub ended : Fields (Unit {0})
ended place = if length place.1 == 0 then Ok (tt, place) else Err place.0

-- the same fields n times
abbrev pub times : {X : Type 0} → Fields X → ℕ → Fields (List X)
times fields zero = done []
times fields (suc n) = fields >>= λ first. times fields n >>= λ others. done (first ∷ others)

-- a name: its depth, then the number of each create
unfoldable pub name : Fields Name
name = byte >>= times (byte such is_within 1 255)

-- a number as k bits, highest first
abbrev pub bits_of : ℕ → ℕ → List Bool
bits_of zero n = []
bits_of (suc k) n = nat_le (2 ^ k) n ∷ bits_of k (n % 2 ^ k)

-- the bits of all bytes, in order
abbrev pub all_bits : List ℕ → List Bool
all_bits bytes = flat_map (bits_of 8) bytes

-- the least number of bytes that hold this many bits
abbrev pub bytes_for : ℕ → ℕ
bytes_for bits = (bits + 7) / 8

-- whether all bits after the first n are 0
abbrev pub is_padded : ℕ → List ℕ → Bool
is_padded n bytes = list_all not (drop n (all_bits bytes))

-- n outcomes, packed eight to a byte
unfoldable pub packed_outcomes : ℕ → Fields (List Bool)
packed_outcomes n =
    (field (bytes_for n) such is_padded n) >>= λ bytes. done (take n (all_bits bytes))

-- lengths of runs, each at least 1, until `left` outcomes are covered or `most` lengths are read
unfoldable pub lengths : ℕ → ℕ → Fields (List ℕ)
lengths zero left = done []
lengths (suc most) left = if left == 0 then done []
    else (two such is_within 1 left) >>= λ n. lengths most (left - n) >>= λ others. done
    (n ∷ others)

-- the outcomes of runs of these lengths, which alternate, beginning with this outcome
abbrev pub alternating : Bool → List ℕ → List Bool
alternating outcome [] = []
alternating outcome (n ∷ others) = replicate n outcome ++ alternating (not outcome) others

-- n outcomes as runs, beginning with a run of this outcome
abbrev pub runs_of : Bool → ℕ → Fields (List Bool)
runs_of first n = lengths n n >>= λ found. done (alternating first found)

-- n outcomes as runs
unfoldable pub run_outcomes : ℕ → Fields (List Bool)
run_outcomes n =
    if n == 0 then done [] else (byte such is_within 0 1) >>= λ first. runs_of (first == 1) n

-- n outcomes: as runs in format 2, as bits in format 1
abbrev pub outcomes : Bool → ℕ → Fields (List Bool)
outcomes true n = run_outcomes n
outcomes false n = packed_outcomes n

-- a thread: a name above the last one, its step count, its outcome count and its outcomes
unfoldable pub thread : Bool → Option Name → Fields ThreadPath
thread as_runs last = do
  n ← name such is_above last
  steps ← two
  count ← two
  found ← outcomes as_runs count
  done (record { name = n; path = record { outcomes = found; steps = steps } })

-- n threads, each with a name above the one before it
unfoldable pub threads : Bool → ℕ → Option Name → Fields (List ThreadPath)
threads as_runs zero last = done []
threads as_runs (suc n) last =
    thread as_runs last >>= λ t. threads as_runs n (Some t.name) >>= λ others. done (t ∷ others)

-- the model with this code
abbrev pub model_of : ℕ → Model
model_of code = if code == 0 then Sc else if code == 1 then Tso else Pso

-- a model, by its code
abbrev pub model : Fields Model
model = (byte such is_within 0 2) >>= λ code. done (model_of code)

-- the digest, which only format 2 has
abbrev pub digest_in : ℕ → Fields (Option (List ℕ))
digest_in format = if format == 1 then done None else field 32 >>= λ digest. done (Some digest)

-- the signature, the format, the model and, in format 2, the digest
unfoldable pub head : Fields (Option (List ℕ) × Model)
head = do
  sign ← field 4 such bytes_eq (codes "CLPL")
  format ← two such is_within 1 2
  m ← model
  digest ← digest_in format
  done (digest, m)

-- the ending with this code: the index of the thread that failed, or 255 for a deadlock
abbrev pub ending_of : ℕ → Failing
ending_of code = if code == 255 then Deadlock else Thread code

-- whether the format has this ending: format 2 has both, format 1 only failures
abbrev pub has_ending : Bool → Failing → Bool
has_ending true failing = true
has_ending false (Thread k) = true
has_ending false Deadlock = false

-- how a run of `count` threads ended
abbrev pub ending : Bool → ℕ → Fields Failing
ending both count =
    (byte >>= λ code. done (ending_of code)) such
    (λ failing. has_ending both failing && is_there failing count)

-- the head, the number of threads, how the run ended, and each thread
unfoldable pub body : Fields StoredLog
body = do
  h ← head
  count ← byte such is_within 1 255
  failing ← ending (is_some h.0) count
  ts ← threads (is_some h.0) count None
  done (record { digest = h.0; log = record { model = h.1; failing = failing; threads = ts } })

-- a log and the end of the text
unfoldable pub whole : Fields StoredLog
whole = body >>= λ stored. ended >>= λ _. done stored
