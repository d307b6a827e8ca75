-- The length of the lines of moves.
use Rattle.std.proofs.Common.{◌≡◌, ℕ, ◌+◌, ◌*◌, ◌<◌, ◌≤◌, Bool, true, false, cond, List, [], ◌∷◌, ◌++◌, length, Some, None}
use Rattle.std.proofs.Common.{refl, arith, length-append}
use Rattle.std.specs.Prelude.{codes, nat_le, nat_lt}
use Rattle.std.specs.Fmt.{decimal}
use Rattle.std.specs.List.{flat_map, list_all, count_by}
use Rattle.std.proofs.lemmas.Bool.{false≢true, and_parts, leb-true, ltb-true}
use Rattle.std.proofs.lemmas.Fmt.{length-decimal-le}
use Rattle.std.proofs.lemmas.List.Sums.{sum_by-cons}
use Rattle.path_log.specs.tc_base.Names.{Name, name_text}
use Rattle.schedule_file.specs.tc_limits.declared.limits.TheConstants.{CELLS, DEPTH}
use Rattle.path_log.specs.memory_models.declared.model.Model.{Model}
use Rattle.path_log.specs.memory_models.declared.model.Model.TheVariants.{Sc, Tso, Pso}
use Rattle.path_log.specs.tc_base.declared.moves.Move.{Move}
use Rattle.path_log.specs.tc_base.declared.moves.Move.TheVariants.{Run, Wake, Drain}
use Rattle.schedule_file.specs.Schedules.{header, line, schedule_text, is_child, is_name, is_move}
use Rattle.schedule_length.specs.Lengths.{header_bytes, name_bytes, run_bytes, line_bytes}

-- a run
abbrev pub is_run : Move → Bool
is_run (Run n) = true
is_run _ = false

-- a wake or a drain
abbrev pub is_seldom : Move → Bool
is_seldom (Run n) = false
is_seldom _ = true

digits_of_child : (k : ℕ) → is_child k ≡ true → length (decimal k) ≤ 3
digits_of_child k is =
    let most : k ≤ 255 = leb-true k 255 (and_parts (nat_le 1 k) (nat_le k 255) is).1 in
    length-decimal-le 3 k (omega arith) (omega (arith, most)) (omega (arith, most))

children_length : (n : Name) → list_all is_child n ≡ true → length (flat_map (λ child. codes "." ++ decimal child) n) ≤ 4 * length n
children_length [] is = omega arith
children_length (k ∷ ks) is =
    let both = and_parts (is_child k) (list_all is_child ks) is in
    let one = digits_of_child k both.0 in
    let rest = children_length ks both.1 in
    let all = length-append (decimal k) (flat_map (λ child. codes "." ++ decimal child) ks) in
    omega (arith, one, rest, all)

name_length : (n : Name) → is_name n ≡ true → length (name_text n) ≤ name_bytes
name_length n is =
    let both = and_parts (nat_le (length n) DEPTH) (list_all is_child n) is in
    let few = leb-true (length n) DEPTH both.0 in
    let rest = children_length n both.1 in
    omega (arith, few, rest)

-- the lines of a run, a wake and a drain
run_length : (n : Name) → is_name n ≡ true → length (line (Run n)) ≤ run_bytes
run_length n is =
    let one = name_length n is in
    let all = length-append (name_text n) (codes "\n") in
    omega (arith, one, all)

wake_length : (n waiter : Name) → is_name n ≡ true → is_name waiter ≡ true → length (line (Wake n waiter)) ≤ line_bytes
wake_length n waiter is other =
    let one = name_length n is in
    let two = name_length waiter other in
    let last = length-append (name_text waiter) (codes "\n") in
    let all = length-append (name_text n) (codes " " ++ (name_text waiter ++ codes "\n")) in
    omega (arith, one, two, last, all)

plain_length : (n : Name) → is_name n ≡ true → length (line (Drain n None)) ≤ line_bytes
plain_length n is =
    let one = name_length n is in
    let all = length-append (name_text n) (codes "\n") in
    omega (arith, one, all)

cell_length : (n : Name) (cell : ℕ) → is_name n ≡ true → cell < CELLS → length (line (Drain n (Some cell))) ≤ line_bytes
cell_length n cell is few =
    let one = name_length n is in
    let digits = length-decimal-le 4 cell (omega arith) (omega (arith, few)) (omega (arith, few)) in
    let last = length-append (decimal cell) (codes "\n") in
    let all = length-append (name_text n) (codes " " ++ (decimal cell ++ codes "\n")) in
    omega (arith, one, digits, last, all)

line_length : (model : Model) (m : Move) → is_move model m ≡ true → length (line m) ≤ cond (is_run m) run_bytes line_bytes
line_length model (Run n) is = run_length n is
line_length model (Wake n waiter) is = let both = and_parts (is_name n) (is_name waiter) is in wake_length n waiter both.0 both.1
line_length Tso (Drain n None) is = plain_length n is
line_length Pso (Drain n (Some cell)) is =
    let both = and_parts (is_name n) (nat_lt cell CELLS) is in cell_length n cell both.0 (ltb-true cell CELLS both.1)
line_length Sc (Drain n cell) is = absurd (false≢true is)
line_length Tso (Drain n (Some cell)) is = absurd (false≢true is)
line_length Pso (Drain n None) is = absurd (false≢true is)

-- a line counts as that of a run or of another move
counts_as : (m : Move) → cond (is_run m) run_bytes line_bytes ≡ cond (is_run m) 1 0 * run_bytes + cond (is_seldom m) 1 0 * line_bytes
counts_as (Run n) = refl
counts_as (Wake n waiter) = refl
counts_as (Drain n cell) = refl

lines_length : (model : Model) (ms : List Move) → list_all (is_move model) ms ≡ true
    → length (flat_map line ms) ≤ count_by is_run ms * run_bytes + count_by is_seldom ms * line_bytes
lines_length model [] is = omega arith
lines_length model (m ∷ ms) is =
    let both = and_parts (is_move model m) (list_all (is_move model) ms) is in
    let one = line_length model m both.0 in
    let rest = lines_length model ms both.1 in
    let all = length-append (line m) (flat_map line ms) in
    let counts = counts_as m in
    let runs = sum_by-cons (λ x. cond (is_run x) 1 0) m ms in
    let others = sum_by-cons (λ x. cond (is_seldom x) 1 0) m ms in
    omega (arith, one, rest, all, counts, runs, others)

header_length : (model : Model) → length (header model) ≤ header_bytes
header_length Sc = omega arith
header_length Tso = omega arith
header_length Pso = omega arith

-- a schedule has a header and a line for each move
pub text_length : (model : Model) (ms : List Move) → list_all (is_move model) ms ≡ true
    → length (schedule_text model ms) ≤ header_bytes + (count_by is_run ms * run_bytes + count_by is_seldom ms * line_bytes)
text_length model ms is =
    let head = header_length model in
    let lines = lines_length model ms is in
    let all = length-append (header model) (flat_map line ms) in
    omega (arith, head, lines, all)
