-- The number of bytes in the text of a recorded log.
use Rattle.std.proofs.Common.{◌≡◌, ◌∙◌, ◌≤◌, ◌^◌, ℕ, ◌+◌, ◌*◌, Bool, true, false, cond, List, [], ◌∷◌, ◌++◌, length, Some, refl}
use Rattle.std.proofs.Common.{arith}
use Rattle.std.specs.Prelude.{◌==◌, ◌&&◌, IsTrue, nat_le, nat_lt}
use Rattle.std.specs.List.{flat_map, list_all}
use Rattle.std.specs.Bool.{beq}
use Rattle.std.proofs.lemmas.Bool.{leb-true, ltb-true, and_parts, eqb-true}
use Rattle.std.proofs.lemmas.List.{length-append}
use Rattle.byteorder.specs.Endian.{big_bytes}
use Rattle.tc_limits.specs.declared.limits.TheConstants.{THREADS, DEPTH}
use Rattle.run_log.specs.Logs.{Log}
use Rattle.tc_base.specs.Paths.{ThreadPath}
use Rattle.run_log.specs.memory_models.declared.model.Model.{Model}
use Rattle.path_log.specs.Texts.{runs_behind, runs_text, thread_text, head_text, ending_code, log_text, is_thread, is_of_format}
use Rattle.run_log.specs.Logs.{is_digest}
use Rattle.tc_record.specs.Logged.{is_small, most_log_bytes}

one_more : (b : Bool) (n k : ℕ) (xs ys : List ℕ) → length xs ≤ k → length ys ≤ k → length (cond b xs (n ∷ ys)) ≤ k + 1
one_more true n k xs ys h g = omega (arith, h)
one_more false n k xs ys h g = omega (arith, g)

-- there are at most as many runs as outcomes
runs_few : (outcome : Bool) (n : ℕ) (others : List Bool) → length (runs_behind outcome n others) ≤ length others + 1
runs_few outcome n [] = omega arith
runs_few outcome n (next ∷ others) =
    omega (
      arith,
      one_more (beq outcome next) n (length others + 1) (runs_behind outcome (n + 1) others) (runs_behind next 1 others)
          (runs_few outcome (n + 1) others) (runs_few next 1 others),
    )

-- each number takes two bytes
pairs : (ns : List ℕ) → length (flat_map (big_bytes 2) ns) ≡ 2 * length ns
pairs [] = refl
pairs (n ∷ ns) = length-append (big_bytes 2 n) (flat_map (big_bytes 2) ns) ∙ omega (arith, pairs ns)

runs_size : (outcomes : List Bool) → length (runs_text outcomes) ≤ 2 * length outcomes + 1
runs_size [] = omega arith
runs_size (first ∷ others) = omega (arith, pairs (runs_behind first 1 others), runs_few first 1 others)

-- the text of a small thread
thread_size : (t : ThreadPath) → IsTrue (is_thread t) → IsTrue (nat_le (length t.name) DEPTH) → length (thread_text true t) ≤ 131084
thread_size t fits shallow =
    let counts = and_parts (nat_lt t.path.steps (2 ^ 16)) _ (and_parts (nat_le (length t.name) 255 && _) _ fits).1 in
    let few = ltb-true (length t.path.outcomes) (2 ^ 16) counts.1 in
    let short = leb-true (length t.name) DEPTH shallow in
    let runs = runs_text t.path.outcomes in
    let counted = big_bytes 2 (length t.path.outcomes) in
    let steps = big_bytes 2 t.path.steps in
    omega (
      arith,
      few,
      short,
      runs_size t.path.outcomes,
      length-append (length t.name ∷ t.name) (steps ++ (counted ++ runs)),
      length-append steps (counted ++ runs),
      length-append counted runs,
    )

threads_size : (ts : List ThreadPath) → IsTrue (list_all is_thread ts) → IsTrue (list_all (λ (t : ThreadPath). nat_le (length t.name) DEPTH) ts)
    → length (flat_map (thread_text true) ts) ≤ length ts * 131084
threads_size [] fits shallow = omega arith
threads_size (t ∷ ts) fits shallow =
    let f = and_parts (is_thread t) _ fits in
    let s = and_parts (nat_le (length t.name) DEPTH) _ shallow in
    omega (arith, length-append (thread_text true t) (flat_map (thread_text true) ts), thread_size t f.0 s.0, threads_size ts f.1 s.1)

head_size : (digest : List ℕ) (model : Model) → length digest ≡ 32 → length (head_text (Some digest) model) ≡ 39
head_size digest model e = omega (arith, e)

pub recorded_size : (digest : List ℕ) (log : Log) → IsTrue (is_digest digest) → IsTrue (is_of_format log) → IsTrue (is_small log)
    → length (log_text (record { digest = Some digest; log = log })) ≤ most_log_bytes
recorded_size digest log d fits small =
    let long = eqb-true (length digest) 32 (and_parts (length digest == 32) _ d).0 in
    let all = (and_parts (nat_le (length log.threads) 255) _ fits).1 in
    let s = and_parts (nat_le (length log.threads) THREADS) _ small in
    let count = leb-true (length log.threads) THREADS s.0 in
    let threads = threads_size log.threads all s.1 in
    let rest = length log.threads ∷ ending_code log.failing ∷ flat_map (thread_text true) log.threads in
    omega (arith, count, threads, head_size digest log.model long, length-append (head_text (Some digest) log.model) rest)
