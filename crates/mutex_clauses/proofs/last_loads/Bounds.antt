-- Variables of literals, and room for more clauses.
use Rattle.std.proofs.Common.{◌≡◌, ℕ, zero, suc, ◌+◌, ◌*◌, ◌<◌, ◌≤◌, List, [], ◌∷◌, ℤ, Option, Some, None, subst, arith, false, length, get_or}
use Rattle.std.specs.List.{All}
use Rattle.std.specs.Option.{option_map_or}
use Rattle.std.proofs.lemmas.List.Elements.{All-get_or, All-head, All-tail, All-weaker}
use Rattle.std.proofs.lemmas.List.FromFn.{get_or-map-range_with_len, length-map-range_with_len}
use Rattle.path_walk.specs.Paths.{Paths}
use Rattle.path_walk.specs.declared.event.Region.{Region}
use Rattle.sym_exec.specs.declared.symbolic.Access.{Access}
use Rattle.order_events.specs.lawful_order.Events.{Placed, number_of}
use Rattle.cnf_core.specs.Clauses.{Formula, var_of}
use Rattle.bit_gates.specs.Folded.{HasRoom, IsLarger, constant}
use Rattle.bit_ops.specs.bit_words.Words.{AreWithin}
use Rattle.bit_ops.proofs.bit_words.Loops.{larger_more, within_more}
use Rattle.bit_order.specs.Comparators.{before_literal}
use Rattle.bit_order.specs.Layouts.{Layout, load_word}
use Rattle.bit_blast.specs.Whole.{load_words}
use Rattle.mutex_states.proofs.Larger.{times_le}
use Rattle.mutex_clauses.specs.last_loads.Within.{IsStateWithin}
use Rattle.mutex_clauses.specs.last_loads.helpers.Listed.{ends_before}

words_more : (n m : ℕ) (words : List (List ℤ)) → n ≤ m → All (AreWithin n) words → All (AreWithin m) words
words_more n m words more all = All-weaker (AreWithin n) (AreWithin m) (λ ls k. within_more n m ls more k) words all

-- with more variables all literals stay within
pub state_more : (n m : ℕ) (y : Layout) (roots : List ℤ) (ordered : ℤ) (words : List (List ℤ)) → n ≤ m → IsStateWithin n y roots ordered words
    → IsStateWithin m y roots ordered words
state_more n m y roots ordered words more h = record {
  one = omega (arith, more, h.one);
  before = λ first second. omega (arith, more, h.before first second);
  loads = words_more n m (load_words y) more h.loads;
  roots_in = within_more n m roots more h.roots_in;
  ordered_in = omega (arith, more, h.ordered_in);
  words_in = words_more n m words more h.words_in;
}

-- an element, or false past the last
pub get_within : (n : ℕ) (ls : List ℤ) (k : ℕ) → 0 < n → AreWithin n ls → var_of (get_or ls k (constant false)) ≤ n
get_within n [] k one all = let low : 1 ≤ n = omega (arith, one) in low
get_within n (l ∷ ls) zero one all = All-head (λ x. var_of x ≤ n) l ls all
get_within n (l ∷ ls) (suc k) one all = get_within n ls k one (All-tail (λ x. var_of x ≤ n) l ls all)

-- the word of a load
pub load_within : (n : ℕ) (y : Layout) (k : ℕ) → k < y.loads → All (AreWithin n) (load_words y) → AreWithin n (load_word y k)
load_within n y k low all =
    let long : length (load_words y) ≡ y.loads = length-map-range_with_len (load_word y) 0 y.loads in
    subst (AreWithin n) (get_or-map-range_with_len (load_word y) 0 y.loads k k [] low (omega arith))
    (All-get_or (AreWithin n) (load_words y) k [] (omega (arith, low, long)) all)

-- the literal of a region's end
pub ends_within : (n : ℕ) (paths : Paths) (y : Layout) (a : Placed Access) (r : Placed Region) → 0 < n
    → ((first second : ℕ) → var_of (before_literal y first second) ≤ n) → var_of (ends_before paths y a r) ≤ n
ends_within n paths y a r one before = by r.it.to
  where
    by : (o : Option ℕ)
        → var_of (option_map_or (λ k. before_literal y (number_of paths r.thread k) (number_of paths a.thread a.it.step)) o (constant false)) ≤ n
    by None = let low : 1 ≤ n = omega (arith, one) in low
    by (Some k) = before (number_of paths r.thread k) (number_of paths a.thread a.it.step)

-- the room for one of `n` equal parts, after `i` of them
pub room_next : (n i one : ℕ) (f g : Formula) → i < n → IsLarger (i * one) f g → HasRoom (n * one) f → HasRoom one g
room_next n i one f g below larger room =
    let here : suc i * one ≤ n * one = times_le (suc i) n one (omega (arith, below)) in
    let split : suc i * one ≡ one + i * one = omega arith in
    (omega (arith, here, split, larger.1, room.0), omega (arith, here, split, larger.2, room.1))

pub larger_next : (i one : ℕ) (f g h : Formula) → IsLarger (i * one) f g → IsLarger one g h → IsLarger ((i + 1) * one) f h
larger_next i one f g h was now = larger_more (i * one) one ((i + 1) * one) f g h was now (omega arith)

pub larger_all : (i n one : ℕ) (f g : Formula) → i ≤ n → IsLarger (i * one) f g → IsLarger (n * one) f g
larger_all i n one f g few was =
    let all : i * one ≤ n * one = times_le i n one few in
    (was.0, omega (arith, all, was.1), omega (arith, all, was.2))
