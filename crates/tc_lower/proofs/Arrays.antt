-- The arrays of a program: they lie one after another, apart from its single cells, and begin with 0 in each element.
use Rattle.std.proofs.Common.{
  ◌≡◌,
  ℕ,
  zero,
  suc,
  ◌+◌,
  ◌-◌,
  ◌<◌,
  ◌≤◌,
  ℤ,
  Bool,
  true,
  false,
  ◌&&◌,
  ◌||◌,
  IsTrue,
  nat_lt,
  nat_le,
  inl,
  inr,
  List,
  [],
  ◌∷◌,
  ◌++◌,
  length,
  replicate,
  get_or,
  Some,
  pos,
  refl,
  ap,
  sym,
  subst,
  ◌∙◌,
  append_assoc,
  arith,
  add-one,
  length-append,
  slice_get,
}
use Rattle.std.specs.List.{list_all, list_any}
use Rattle.std.specs.Prelude.{◌==◌}
use Rattle.std.proofs.lemmas.Bool.{false≢true}
use Rattle.std.proofs.lemmas.Bool.Decides.{Decides-eqb, nat_tests}
use Rattle.std.proofs.lemmas.List.{length-replicate, get_or_append_left, get_or-replicate}
use Rattle.std.proofs.lemmas.Option.{none-some, same_Some, slice_get-get_or}
use Rattle.tc_code.specs.Lawful.{Array, is_outside, is_array}
use Rattle.tc_tree.specs.Counts.{elements}
use Rattle.tc_tree.specs.declared.expression.Name.{Name}
use Rattle.tc_tree.specs.declared.expression.Number.{Number}
use Rattle.tc_tree.specs.declared.program.Initial.{Initial}
use Rattle.tc_tree.specs.declared.program.Global.{Global}
use Rattle.tc_tree.specs.declared.program.Global.TheVariants as global
use Rattle.tc_tree.specs.declared.program.Global.TheVariants.{Int, Mutex, Condition}
use Rattle.tc_lower.specs.Lowering.{memory_of}
use Rattle.tc_lower.proofs.Parts.{all_append, all_weaker, both_true}
use Rattle.tc_lower.proofs.Sound.{lt_true, le_true}

-- the arrays of globals, in order, with `n` cells before them
abbrev pub arrays_from : ℕ → List Global → List Array
arrays_from n [] = []
arrays_from n (Int x i ∷ gs) = arrays_from (n + 1) gs
arrays_from n (global.Array a size ∷ gs) = record { first = n; length = elements size.value } ∷ arrays_from (n + elements size.value) gs
arrays_from n (Mutex m ∷ gs) = arrays_from n gs
arrays_from n (Condition c ∷ gs) = arrays_from n gs

-- ---- apart from each other

later_first : (n : ℕ) (gs : List Global) (k : ℕ) (a : Array) → slice_get (arrays_from n gs) k ≡ Some a → n ≤ a.first
later_first n [] k a there = absurd (none-some a there)
later_first n (Int x i ∷ gs) k a there = omega (arith, later_first (n + 1) gs k a there)
later_first n (global.Array x size ∷ gs) zero a there =
    omega (arith, ap (λ (b : Array). b.first) (same_Some (record { first = n; length = elements size.value }) a there))
later_first n (global.Array x size ∷ gs) (suc k) a there = omega (arith, later_first (n + elements size.value) gs k a there)
later_first n (Mutex m ∷ gs) k a there = later_first n gs k a there
later_first n (Condition c ∷ gs) k a there = later_first n gs k a there

pub arrays_apart : (n : ℕ) (gs : List Global) (j k : ℕ) (a b : Array) → slice_get (arrays_from n gs) j ≡ Some a → slice_get (arrays_from n gs) k ≡ Some b
    → j < k → a.first + a.length ≤ b.first
arrays_apart n [] j k a b one other before = absurd (none-some a one)
arrays_apart n (Int x i ∷ gs) j k a b one other before = arrays_apart (n + 1) gs j k a b one other before
arrays_apart n (global.Array x size ∷ gs) j zero a b one other before = absurd (omega (arith, before))
arrays_apart n (global.Array x size ∷ gs) zero (suc k) a b one other before =
    let is : record { first = n; length = elements size.value } ≡ a = same_Some (record { first = n; length = elements size.value }) a one in
    omega (arith, ap (λ (c : Array). c.first) is, ap (λ (c : Array). c.length) is, later_first (n + elements size.value) gs k b other)
arrays_apart n (global.Array x size ∷ gs) (suc j) (suc k) a b one other before =
    arrays_apart (n + elements size.value) gs j k a b one other (omega (arith, before))
arrays_apart n (Mutex m ∷ gs) j k a b one other before = arrays_apart n gs j k a b one other before
arrays_apart n (Condition c ∷ gs) j k a b one other before = arrays_apart n gs j k a b one other before

-- ---- 0 in each element

replicated : (n p : ℕ) (z : ℤ) (zs : List ℤ) → p < n → slice_get (replicate n z ++ zs) p ≡ Some z
replicated n p z zs within =
    slice_get-get_or (replicate n z ++ zs) p z (omega (arith, within, length-append (replicate n z) zs, length-replicate n z))
    ∙ ap Some (get_or_append_left (replicate n z) zs z p (omega (arith, within, length-replicate n z)) ∙ get_or-replicate n p z z within)

past : (xs ys : List ℤ) (q p : ℕ) → q ≡ length xs + p → slice_get (xs ++ ys) q ≡ slice_get ys p
past [] ys q p e = let same : q ≡ p = omega (arith, e) in ap (slice_get ys) same
past (x ∷ xs) ys zero p e = absurd (omega (arith, e))
past (x ∷ xs) ys (suc q) p e = past xs ys q p (omega (arith, e))

-- the cell p of those from n on is an element of an array
arrays_zero_at : (n : ℕ) (gs : List Global) (j k : ℕ) (a : Array) → slice_get (arrays_from n gs) j ≡ Some a → k < a.length →
    (p : ℕ) → a.first + k ≡ n + p → slice_get (memory_of gs) p ≡ Some (pos 0)
arrays_zero_at n [] j k a there within p at = absurd (none-some a there)
arrays_zero_at n (Int x i ∷ gs) j k a there within zero at = absurd (omega (arith, at, later_first (n + 1) gs j a there))
arrays_zero_at n (Int x i ∷ gs) j k a there within (suc p) at = arrays_zero_at (n + 1) gs j k a there within p (omega (arith, at))
arrays_zero_at n (global.Array x size ∷ gs) zero k a there within p at =
    let is : record { first = n; length = elements size.value } ≡ a = same_Some (record { first = n; length = elements size.value }) a there in
    replicated (elements size.value) p (pos 0) (memory_of gs)
    (omega (arith, ap (λ (c : Array). c.first) is, ap (λ (c : Array). c.length) is, within, at))
arrays_zero_at n (global.Array x size ∷ gs) (suc j) k a there within p at =
    let len = elements size.value in
    let q = p - len in
    let low = later_first (n + len) gs j a there in
    past (replicate len (pos 0)) (memory_of gs) p q (omega (arith, at, low, length-replicate len (pos 0)))
    ∙ arrays_zero_at (n + len) gs j k a there within q (omega (arith, at, low))
arrays_zero_at n (Mutex m ∷ gs) j k a there within p at = arrays_zero_at n gs j k a there within p at
arrays_zero_at n (Condition c ∷ gs) j k a there within p at = arrays_zero_at n gs j k a there within p at

pub arrays_zero : (gs : List Global) (j k : ℕ) (a : Array) → slice_get (arrays_from 0 gs) j ≡ Some a → k < a.length
    → slice_get (memory_of gs) (a.first + k) ≡ Some (pos 0)
arrays_zero gs j k a there within = arrays_zero_at 0 gs j k a there within (a.first + k) (omega arith)

-- ---- single cells

left_true : (a b : Bool) → IsTrue a → IsTrue (a || b)
left_true true b h = refl
left_true false b h = absurd (false≢true h)

right_true : (a b : Bool) → IsTrue b → IsTrue (a || b)
right_true true b h = refl
right_true false b h = h

-- a cell before all arrays is outside each of them
outside_later : (c n : ℕ) (gs : List Global) → c < n → IsTrue (list_all (is_outside c) (arrays_from n gs))
outside_later c n [] low = refl
outside_later c n (Int x i ∷ gs) low = outside_later c (n + 1) gs (omega (arith, low))
outside_later c n (global.Array a size ∷ gs) low =
    both_true (nat_lt c n || nat_le (n + elements size.value) c) (list_all (is_outside c) (arrays_from (n + elements size.value) gs))
    (left_true (nat_lt c n) (nat_le (n + elements size.value) c) (lt_true c n low))
    (outside_later c (n + elements size.value) gs (omega (arith, low)))
outside_later c n (Mutex m ∷ gs) low = outside_later c n gs low
outside_later c n (Condition d ∷ gs) low = outside_later c n gs low

-- whether an array ends before a cell
abbrev pub ends_by : ℕ → Array → Bool
ends_by n a = nat_le (a.first + a.length) n

later_end : (n m : ℕ) → n ≤ m → (a : Array) → IsTrue (ends_by n a) → IsTrue (ends_by m a)
later_end n m up a h = grind (arith, nat_tests, up, h)

-- the arrays so far, with those of the remaining globals, are all arrays
pub record ArraysSoFar (all : List Array) (n : ℕ) (rest : List Global) : Type 0 where
  pub before : List Array
  pub ended : IsTrue (list_all (ends_by n) before)
  pub whole : all ≡ before ++ arrays_from n rest

-- the next cell is in no array if it is an int's
pub outside_all : (all : List Array) (n : ℕ) (x : Name) (i : Initial) (gs : List Global) → ArraysSoFar all n (Int x i ∷ gs)
    → IsTrue (list_all (is_outside n) all)
outside_all all n x i gs o =
    subst (λ xs. IsTrue (list_all (is_outside n) xs)) (sym o.whole)
    (all_append (is_outside n) o.before (arrays_from (n + 1) gs)
    (all_weaker (ends_by n) (is_outside n) (λ a h. right_true (nat_lt n a.first) (ends_by n a) h) o.before o.ended)
    (outside_later n (n + 1) gs (omega arith)))

pub past_int : (all : List Array) (n : ℕ) (x : Name) (i : Initial) (gs : List Global) → ArraysSoFar all n (Int x i ∷ gs) → ArraysSoFar all (n + 1) gs
past_int all n x i gs o = record {
  before = o.before;
  ended = all_weaker (ends_by n) (ends_by (n + 1)) (later_end n (n + 1) (omega arith)) o.before o.ended;
  whole = o.whole;
}

is_among : (before after : List Array) (a : Array) → IsTrue (is_array (before ++ a ∷ after) a.first a.length)
is_among [] after a =
    left_true (a.first == a.first && a.length == a.length) (is_array after a.first a.length)
    (both_true (a.first == a.first) (a.length == a.length) ((Decides-eqb a.first a.first).1 refl) ((Decides-eqb a.length a.length).1 refl))
is_among (b ∷ before) after a =
    right_true (b.first == a.first && b.length == a.length) (is_array (before ++ a ∷ after) a.first a.length) (is_among before after a)

-- the next cells are one of the arrays if they are an array's
pub among_all : (all : List Array) (n : ℕ) (x : Name) (size : Number) (gs : List Global) → ArraysSoFar all n (global.Array x size ∷ gs)
    → IsTrue (is_array all n (elements size.value))
among_all all n x size gs o =
    subst (λ xs. IsTrue (is_array xs n (elements size.value))) (sym o.whole)
    (is_among o.before (arrays_from (n + elements size.value) gs) (record { first = n; length = elements size.value }))

pub past_array : (all : List Array) (n : ℕ) (x : Name) (size : Number) (gs : List Global) → ArraysSoFar all n (global.Array x size ∷ gs)
    → ArraysSoFar all (n + elements size.value) gs
past_array all n x size gs o =
    let len = elements size.value in
    let next : Array = record { first = n; length = len } in
    record {
      before = o.before ++ next ∷ [];
      ended =
          all_append (ends_by (n + len)) o.before (next ∷ [])
          (all_weaker (ends_by n) (ends_by (n + len)) (later_end n (n + len) (omega arith)) o.before o.ended)
          (both_true (nat_le (n + len) (n + len)) true (le_true (n + len) (n + len) (omega arith)) refl);
      whole = o.whole ∙ sym (append_assoc o.before (next ∷ []) (arrays_from (n + len) gs));
    }

pub past_mutex : (all : List Array) (n : ℕ) (m : Name) (gs : List Global) → ArraysSoFar all n (Mutex m ∷ gs) → ArraysSoFar all n gs
past_mutex all n m gs o = record { before = o.before; ended = o.ended; whole = o.whole }

pub past_condition : (all : List Array) (n : ℕ) (c : Name) (gs : List Global) → ArraysSoFar all n (Condition c ∷ gs) → ArraysSoFar all n gs
past_condition all n c gs o = record { before = o.before; ended = o.ended; whole = o.whole }

pub from_none : (gs : List Global) → ArraysSoFar (arrays_from 0 gs) 0 gs
from_none gs = record { before = []; ended = refl; whole = refl }
