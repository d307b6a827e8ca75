-- The log of a run: the path of each thread, and how the run ended.
use Rattle.std.specs.Prelude.{ℕ, Bool, true, ◌&&◌, ◌==◌, nat_lt, List, [], ◌∷◌, length, map, Option, Some, None, option_map, option_and_then, slice_get}
use Rattle.std.specs.List.{find, list_all}
use Rattle.std.specs.Ordering.{is_lt, nat_cmp}
use Rattle.std.specs.Cmp.Lexicographic.{slice_cmp}
use Rattle.memory_models.specs.declared.model.Model.{Model}
use Rattle.tc_base.specs.Names.{Name}
use Rattle.tc_base.specs.Paths.{ThreadPath, place_in}
use Rattle.tc_base.specs.declared.failing.Failing.{Failing}
use Rattle.tc_base.specs.declared.failing.Failing.TheVariants.{Thread, Deadlock}

-- a run that failed or deadlocked: its model, which of the two, and the path of each thread
pub record Log : Type 0 where
  pub model : Model
  pub failing : Failing
  pub threads : List ThreadPath

-- the name of the thread that failed, if one did
abbrev pub failing_of : Log → Option Name
failing_of log =
    option_and_then (λ k. option_map (λ t. t.name) (slice_get log.threads k)) (place_in log.failing)

-- the depth of the first thread that is deeper than this, if any
abbrev pub first_deeper : ℕ → List ThreadPath → Option ℕ
first_deeper depth threads = find (nat_lt depth) (map (λ t. length t.name) threads)

-- a log, and the digest of the recorded program, if it is known
pub record StoredLog : Type 0 where
  pub digest : Option (List ℕ)
  pub log : Log

-- whether the name is greater than the last one, if there is one
abbrev pub is_above : Option Name → Name → Bool
is_above None name = true
is_above (Some last) name = is_lt (slice_cmp nat_cmp last name)

-- whether the names strictly increase, from above the last one
abbrev pub rises_from : Option Name → List ThreadPath → Bool
rises_from last [] = true
rises_from last (t ∷ ts) = is_above last t.name && rises_from (Some t.name) ts

-- whether the failed thread is one of n; in a deadlock, whether n isn't 0
abbrev pub is_there : Failing → ℕ → Bool
is_there (Thread k) n = nat_lt k n
is_there Deadlock n = nat_lt 0 n

-- whether the names strictly increase, and the failed thread (in a deadlock: any) is listed
abbrev pub is_log : Log → Bool
is_log log = rises_from None log.threads && is_there log.failing (length log.threads)

-- whether these are the 32 bytes of a digest
abbrev pub is_digest : List ℕ → Bool
is_digest digest = length digest == 32 && list_all (λ byte. nat_lt byte 256) digest
