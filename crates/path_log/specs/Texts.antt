-- The text of a log.
use Rattle.std.specs.Prelude.{◌≡◌, ◌≢◌, ℕ, zero, suc, ◌+◌, ◌/◌, ◌^◌, ◌<◌, Bool, true, false, ◌&&◌, nat_le, nat_lt, ◌==◌, if◌then◌else◌, IsTrue, IfSome}
use Rattle.std.specs.Prelude.{List, [], ◌∷◌, ◌++◌, length, drop, slice_index, Option, Some, None, is_some, Ok, codes, IsSomeAnd}
use Rattle.std.specs.List.{flat_map, list_all}
use Rattle.std.specs.Bool.{beq}
use Rattle.std.specs.Ordering.{is_lt, nat_cmp}
use Rattle.std.specs.Cmp.Lexicographic.{slice_cmp}
use Rattle.byteorder.specs.Endian.{big_bytes}
use Rattle.sha2.specs.Sha256.{sha256}
use Rattle.tc_base.specs.Names.{Name}
use Rattle.run_log.specs.Logs.{Log}
use Rattle.tc_base.specs.Paths.{ThreadPath}
use Rattle.run_log.specs.Logs.{StoredLog, is_log, is_digest}
use Rattle.tc_base.specs.declared.failing.Failing.{Failing}
use Rattle.tc_base.specs.declared.failing.Failing.TheVariants.{Thread, Deadlock}
use Rattle.memory_models.specs.declared.model.Model.{Model}
use Rattle.memory_models.specs.declared.model.Model.TheVariants.{Sc, Tso, Pso}
use Rattle.path_log.specs.Fields.{Place, whole}
pub use Rattle.path_log.specs.Fields.{bytes_for, has_ending, is_within}

-- Bits of a byte, the highest first.

-- the value of the first n bits, highest first; missing bits are 0
abbrev pub bits_value : ℕ → List Bool → ℕ
bits_value zero bits = 0
bits_value (suc n) [] = 0
bits_value (suc n) (bit ∷ bits) = (if bit then 2 ^ n else 0) + bits_value n bits

-- bits as n bytes of eight bits each
abbrev pub packed : ℕ → List Bool → List ℕ
packed zero bits = []
packed (suc n) bits = bits_value 8 bits ∷ packed n (drop 8 bits)

-- Runs of equal outcomes.

-- the lengths of runs, where n outcomes of the first run come before the list
abbrev pub runs_behind : Bool → ℕ → List Bool → List ℕ
runs_behind outcome n [] = n ∷ []
runs_behind outcome n (next ∷ others) =
    if beq outcome next then runs_behind outcome (n + 1) others else n ∷ runs_behind next 1 others

-- the first outcome, then the length of each run in two bytes
abbrev pub runs_text : List Bool → List ℕ
runs_text [] = []
runs_text (first ∷ others) =
    (if first then 1 else 0) ∷ flat_map (big_bytes 2) (runs_behind first 1 others)

-- outcomes: as runs in format 2, as bits in format 1
abbrev pub outcomes_text : Bool → List Bool → List ℕ
outcomes_text true outcomes = runs_text outcomes
outcomes_text false outcomes = packed (bytes_for (length outcomes)) outcomes

-- a name: its depth, then the number of each create
abbrev pub name_text : Name → List ℕ
name_text name = length name ∷ name

-- a thread: its name, its step count, its outcome count and its outcomes
abbrev pub thread_text : Bool → ThreadPath → List ℕ
thread_text as_runs t = name_text t.name ++ (big_bytes 2 t.path.steps
    ++ (big_bytes 2 (length t.path.outcomes) ++ outcomes_text as_runs t.path.outcomes))

-- the code of a model
abbrev pub model_code : Model → ℕ
model_code Sc = 0
model_code Tso = 1
model_code Pso = 2

-- the signature, the format, the model and, in format 2, the digest
abbrev pub head_text : Option (List ℕ) → Model → List ℕ
head_text None model = codes "CLPL" ++ (big_bytes 2 1 ++ model_code model ∷ [])
head_text (Some digest) model = codes "CLPL" ++ (big_bytes 2 2 ++ model_code model ∷ digest)

-- the index of the thread that failed, or 255 for a deadlock
abbrev pub ending_code : Failing → ℕ
ending_code (Thread k) = k
ending_code Deadlock = 255

-- the head, the number of threads, how the run ended, and each thread
abbrev pub log_text : StoredLog → List ℕ
log_text s = head_text s.digest s.log.model
    ++ (length s.log.threads ∷ ending_code s.log.failing
    ∷ flat_map (thread_text (is_some s.digest)) s.log.threads)

-- Which logs have a text.

-- at most 255 creates, numbered 1 to 255, and step and outcome counts that fit in two bytes
abbrev pub is_thread : ThreadPath → Bool
is_thread t = (nat_le (length t.name) 255 && list_all (is_within 1 255) t.name)
    && (nat_lt t.path.steps (2 ^ 16) && nat_lt (length t.path.outcomes) (2 ^ 16))

-- at most 255 threads, each within the format
abbrev pub is_of_format : Log → Bool
is_of_format log = nat_le (length log.threads) 255 && list_all is_thread log.threads

-- every number is a byte
abbrev pub AreBytes : List ℕ → Type 0
AreBytes bytes = (i : ℕ) → slice_index bytes i < 256

-- the log has a text
pub record HasText (s : StoredLog) : Type 0 where
  pub is_log : IsTrue (is_log s.log)
  pub is_of_format : IsTrue (is_of_format s.log)
  pub has_ending : IsTrue (has_ending (is_some s.digest) s.log.failing)
  pub is_digest : IfSome s.digest (λ digest. IsTrue (is_digest digest))

-- the bytes are the log's text: its fields, read in order, give the log
pub record IsLog (text : List ℕ) (log : StoredLog) : Type 0 where
  pub are_bytes : AreBytes text
  pub end : Place
  pub reads : whole (0, text) ≡ Ok (log, end)

-- the log has a digest, and it isn't that of this program
abbrev pub IsOfOther : (program : List ℕ) → StoredLog → Type 0
IsOfOther program log = IsSomeAnd log.digest (λ digest. digest ≢ sha256 program)
