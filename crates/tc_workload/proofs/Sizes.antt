-- The text of a program is short.
use Rattle.std.proofs.Common.{◌≡◌, ◌≤◌, ◌<◌, arith, refl, ℕ, zero, suc, ◌+◌, ◌-◌, ◌*◌, Bool, true, false, cond, List, [], ◌∷◌, ◌++◌, length, codes}
use Rattle.std.specs.Prelude.{◌%◌, nat_lt}
use Rattle.std.specs.Fmt.{decimal}
use Rattle.std.proofs.Math.Nat.{mod-lt}
use Rattle.std.proofs.lemmas.Fmt.{length-decimal-le_succ}
use Rattle.std.proofs.lemmas.List.{length-append}
use Rattle.tc_limits.specs.declared.limits.TheConstants.{PROGRAM_BYTES}
use Rattle.tc_workload.specs.Workload.{cell_read, worker_line, worker_lines, each, declares, creates, joins, adds, workload_text}
use Rattle.tc_workload.specs.declared.program.TheConstants.{WORKERS}

digits : (n : ℕ) → n ≤ 13 → length (decimal n) ≤ 14
digits n h = omega (arith, h, length-decimal-le_succ n (omega (arith, h)))

cell-le : (workers worker word : ℕ) → 1 ≤ workers → cell_read workers worker word ≤ workers
cell-le workers worker word some = by (nat_lt (word % workers) worker) (mod-lt word some)
  where
    by : (b : Bool) → word % workers < workers → cond b (word % workers) (word % workers + 1) ≤ workers
    by true low = omega (arith, low)
    by false low = omega (arith, low)

line-le : (worker cell : ℕ) → worker ≤ 13 → cell ≤ 13 → length (worker_line worker cell) ≤ 100
line-le worker cell h k =
    let last : List ℕ = codes "]; }\n" in
    let third : List ℕ = codes "] = a[" ++ (decimal cell ++ last) in
    let second : List ℕ = codes "] = 1; r[" ++ (decimal worker ++ third) in
    let first : List ℕ = codes "() { a[" ++ (decimal worker ++ second) in
    omega (
      arith,
      digits worker h,
      digits cell k,
      length-append (decimal cell) last,
      length-append (decimal worker) third,
      length-append (decimal worker) second,
      length-append (decimal worker) first,
    )

lines-le : (workers worker : ℕ) (words : List ℕ) → 1 ≤ workers → workers ≤ 12 → worker + length words ≤ 13
    → length (worker_lines workers worker words) ≤ length words * 100
lines-le workers worker [] some few room = omega arith
lines-le workers worker (word ∷ words) some few room =
    let line = line-le worker (cell_read workers worker word) (omega (arith, room)) (omega (arith, few, cell-le workers worker word some)) in
    let rest = lines-le workers (worker + 1) words some few (omega (arith, room)) in
    omega (arith, line, rest, length-append (worker_line worker (cell_read workers worker word)) (worker_lines workers (worker + 1) words))

each-le : (text : ℕ → List ℕ) → ((worker : ℕ) → worker ≤ 13 → length (text worker) ≤ 100) → (first count : ℕ) → first + count ≤ 14
    → length (each text first count) ≤ count * 100
each-le text short first zero room = omega arith
each-le text short first (suc n) room =
    let one = short first (omega (arith, room)) in
    let rest = each-le text short (first + 1) n (omega (arith, room)) in
    omega (arith, one, rest, length-append (text first) (each text (first + 1) n))

declares-le : (worker : ℕ) → worker ≤ 13 → length (declares worker) ≤ 100
declares-le worker h = omega (arith, digits worker h, length-append (decimal worker) (codes ";\n"))

creates-le : (worker : ℕ) → worker ≤ 13 → length (creates worker) ≤ 100
creates-le worker h =
    let rest : List ℕ = codes " = create w" ++ (decimal worker ++ codes "();\n") in
    omega (arith, digits worker h, length-append (decimal worker) (codes "();\n"), length-append (decimal worker) rest)

joins-le : (worker : ℕ) → worker ≤ 13 → length (joins worker) ≤ 100
joins-le worker h = omega (arith, digits worker h, length-append (decimal worker) (codes ");\n"))

adds-le : (worker : ℕ) → worker ≤ 13 → length (adds worker) ≤ 100
adds-le worker h = omega (arith, digits worker h, length-append (decimal worker) (codes "]"))

pub workload-short : (words : List ℕ) → 1 ≤ length words → length words ≤ WORKERS → length (workload_text words) ≤ PROGRAM_BYTES
workload-short words some few =
    let n = length words in
    let sum : List ℕ = codes "assert(r[1]" ++ (each adds 2 (n - 1) ++ codes " >= 1); }\n") in
    let joined : List ℕ = each joins 1 n ++ sum in
    let created : List ℕ = each creates 1 n ++ joined in
    let body : List ℕ = codes "main {\n" ++ (each declares 1 n ++ created) in
    omega (
      arith,
      few,
      some,
      lines-le n 1 words some few (omega (arith, few)),
      each-le declares declares-le 1 n (omega (arith, few)),
      each-le creates creates-le 1 n (omega (arith, few)),
      each-le joins joins-le 1 n (omega (arith, few)),
      each-le adds adds-le 2 (n - 1) (omega (arith, few, some)),
      length-append (each adds 2 (n - 1)) (codes " >= 1); }\n"),
      length-append (each joins 1 n) sum,
      length-append (each creates 1 n) joined,
      length-append (each declares 1 n) created,
      length-append (worker_lines n 1 words) body,
    )
