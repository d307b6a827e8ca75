-- Cells that lawful code names.
use Rattle.std.proofs.Common.{◌≡◌, ◌∙◌, ◌⊎◌, inl, inr, ℕ, zero, suc, ◌+◌, ◌<◌, ◌≤◌, ◌==◌, ◌&&◌, ◌||◌, ℤ, pos, negsuc, Bool, true, false, List, [], ◌∷◌}
use Rattle.std.proofs.Common.{Some, refl, ap, ap₂, sym, subst, arith, slice_index_or}
use Rattle.std.specs.Prelude.{slice_get, int_lt, int_le}
use Rattle.std.specs.Bool.{IsTrue}
use Rattle.std.specs.List.{list_all}
use Rattle.std.specs.Ordering.{int_eq}
use Rattle.std.proofs.lemmas.Bool.{false≢true, and_parts, eqb-true, eq-eqb, ne_eqb, cases_order, cases_eq}
use Rattle.std.proofs.lemmas.Bool.Decides.{nat_tests, Decides-int_eq}
use Rattle.std.proofs.lemmas.Int.{ints}
use Rattle.std.proofs.lemmas.Option.{none-some, same_Some, get_or_from_slice_get}
use Rattle.order_events.specs.tc_code.Code.{Code}
use Rattle.order_events.specs.tc_code.Lawful.{Array, is_outside, is_array, HasArrays}
use Rattle.order_events.specs.tc_code.Step.{is_within, cell_at}
use Rattle.order_events.specs.sym_terms.Values.{value_of}
use Rattle.order_events.specs.sym_terms.declared.node.Node.{Node}
use Rattle.sym_laws.specs.sym_exec.Alone.{cell_by}
use Rattle.order_events.specs.tc_code.declared.cell.Cell.{Cell}
use Rattle.order_events.specs.tc_code.declared.cell.Cell.TheVariants.{Fixed, Element}
use Rattle.order_events.specs.order_formula.Worlds.{World}
use Rattle.order_events.specs.lawful_order.Cells.{is_same_cell, value_at_start}

-- a fixed cell is in no array, and an element is inside an array of the code
abbrev pub IsSound : List Array → List Node → List ℤ → Cell ℕ → Type 0
IsSound arrays nodes loads (Fixed c) = IsTrue (list_all (is_outside c) arrays)
IsSound arrays nodes loads (Element f m i) = IsTrue (is_array arrays f m) × IsTrue (is_within m (value_of nodes loads i))

-- an index within a length is a number below it
number_within : (m : ℕ) (v : ℤ) → IsTrue (is_within m v) → (n : ℕ) × (v ≡ pos n) × (n < m)
number_within m (pos n) h =
    let both = and_parts (int_le (pos 0) (pos n)) (int_lt (pos n) (pos m)) h in
    (n, refl, grind (arith, nat_tests, ints, both.1))
number_within m (negsuc n) h = absurd (false≢true h)

record IsArrayOf (arrays : List Array) (f m : ℕ) : Type 0 where
  place : ℕ
  array : Array
  there : slice_get arrays place ≡ Some array
  first : array.first ≡ f
  length : array.length ≡ m

array_of : (arrays : List Array) (f m : ℕ) → IsTrue (is_array arrays f m) → IsArrayOf arrays f m
array_of [] f m h = absurd (false≢true h)
array_of (a ∷ xs) f m h = by (a.first == f && a.length == m) refl h (λ rest. array_of xs f m rest)
  where
    by : (b : Bool) → (a.first == f && a.length == m) ≡ b → IsTrue (is_array (a ∷ xs) f m) → (IsTrue (is_array xs f m) → IsArrayOf xs f m)
        → IsArrayOf (a ∷ xs) f m
    by true e h rest =
        let both = and_parts (a.first == f) (a.length == m) e in
        record { place = 0; array = a; there = refl; first = eqb-true a.first f both.0; length = eqb-true a.length m both.1 }
    by false e h rest =
        let r = rest (subst (λ b. IsTrue (b || is_array xs f m)) e h) in
        record { place = suc r.place; array = r.array; there = r.there; first = r.first; length = r.length }

outside_at : (arrays : List Array) (c k : ℕ) (a : Array) → IsTrue (list_all (is_outside c) arrays) → slice_get arrays k ≡ Some a → IsTrue (is_outside c a)
outside_at [] c k a out at = absurd (none-some a at)
outside_at (x ∷ xs) c zero a out at =
    subst (λ y. IsTrue (is_outside c y)) (same_Some x a at) (and_parts (is_outside c x) (list_all (is_outside c) xs) out).0
outside_at (x ∷ xs) c (suc k) a out at = outside_at xs c k a (and_parts (is_outside c x) (list_all (is_outside c) xs) out).1 at

-- a cell outside all arrays isn't an element of one
not_element : (arrays : List Array) (c f m n : ℕ) → IsTrue (list_all (is_outside c) arrays) → IsTrue (is_array arrays f m) → n < m → c ≡ f + n → ⊥
not_element arrays c f m n out named below same =
    let a = array_of arrays f m named in
    let o = outside_at arrays c a.place a.array out a.there in
    let first = a.first in
    let length = a.length in
    grind (arith, nat_tests, o, first, length, below, same)

module _ (arrays : List Array)
    (apart : (j k : ℕ) (a b : Array) → slice_get arrays j ≡ Some a → slice_get arrays k ≡ Some b → j < k → a.first + a.length ≤ b.first) where
  -- of two arrays one lies before the other, or they begin at one cell
  abbrev LieSo : (f m g n : ℕ) → Type 0
  LieSo f m g n = (f ≡ g) ⊎ ((f + m ≤ g) ⊎ (g + n ≤ f))

  lie_so : (f m g n : ℕ) → IsTrue (is_array arrays f m) → IsTrue (is_array arrays g n) → LieSo f m g n
  lie_so f m g n h k =
      let a = array_of arrays f m h in
      let b = array_of arrays g n k in
      let before = λ (lt : a.place < b.place). apart a.place b.place a.array b.array a.there b.there lt in
      let after = λ (lt : b.place < a.place). apart b.place a.place b.array a.array b.there a.there lt in
      elim (cases_order a.place b.place) [
        | inl same ↦ inl (sym a.first ∙ ap (λ (x : Array). x.first) (same_Some a.array b.array (sym a.there ∙ ap (slice_get arrays) same ∙ b.there)) ∙ b.first)
        | inr (inl lt) ↦ inr (inl (omega (arith, before lt, a.first, a.length, b.first)))
        | inr (inr lt) ↦ inr (inr (omega (arith, after lt, b.first, b.length, a.first)))
      ]

  -- elements at these indexes
  elements_by : (f m g n i j : ℕ) → i < m → j < n → LieSo f m g n → (f == g && int_eq (pos i) (pos j)) ≡ (f + i == g + j)
  elements_by f m g n i j ib jb (inl same) =
      ap (λ b. b && int_eq (pos i) (pos j)) (eq-eqb f g same)
      ∙ elim (cases_eq i j) [
        | inl one ↦ (Decides-int_eq (pos i) (pos j)).1 (ap pos one) ∙ sym (eq-eqb (f + i) (g + j) (omega (arith, same, one)))
        | inr two ↦ other (int_eq (pos i) (pos j)) refl two ∙ sym (ne_eqb (f + i) (g + j) (λ e. two (omega (arith, same, e))))
      ]
    where
      other : (b : Bool) → int_eq (pos i) (pos j) ≡ b → (i ≡ j → ⊥) → b ≡ false
      other true e two = absurd (two (pos_same ((Decides-int_eq (pos i) (pos j)).0 e)))
        where
          pos_same : pos i ≡ pos j → i ≡ j
          pos_same p = cc
      other false e two = refl
  elements_by f m g n i j ib jb (inr lies) =
      ap (λ b. b && int_eq (pos i) (pos j)) (ne_eqb f g (λ same. differ same lies))
      ∙ sym (ne_eqb (f + i) (g + j) (λ e. meet e lies))
    where
      differ : f ≡ g → (f + m ≤ g) ⊎ (g + n ≤ f) → ⊥
      differ same (inl le) = omega (arith, same, le, ib)
      differ same (inr le) = omega (arith, same, le, jb)

      meet : f + i ≡ g + j → (f + m ≤ g) ⊎ (g + n ≤ f) → ⊥
      meet e (inl le) = omega (arith, e, le, ib)
      meet e (inr le) = omega (arith, e, le, jb)

  module _ (nodes : List Node) (w : World) where
    abbrev value : ℕ → ℤ
    value i = value_of nodes w.loads i

    pub same_cell_is : (a b : Cell ℕ) → IsSound arrays nodes w.loads a → IsSound arrays nodes w.loads b
        → is_same_cell nodes w a b ≡ (cell_by nodes w.loads a == cell_by nodes w.loads b)
    same_cell_is (Fixed c) (Fixed d) p q = refl
    same_cell_is (Fixed c) (Element f m i) p q =
        let v = number_within m (value i) q.1 in
        sym (ne_eqb c (cell_at f (value i)) (λ e. not_element arrays c f m v.0 p q.0 v.2 (e ∙ ap (cell_at f) v.1)))
    same_cell_is (Element f m i) (Fixed c) p q =
        let v = number_within m (value i) p.1 in
        sym (ne_eqb (cell_at f (value i)) c (λ e. not_element arrays c f m v.0 q p.0 v.2 (sym e ∙ ap (cell_at f) v.1)))
    same_cell_is (Element f m i) (Element g n j) p q =
        let v = number_within m (value i) p.1 in
        let u = number_within n (value j) q.1 in
        ap₂ (λ x y. f == g && int_eq x y) v.1 u.1
        ∙ elements_by f m g n v.0 u.0 v.2 u.2 (lie_so f m g n p.0 q.0)
        ∙ sym (ap₂ (λ x y. cell_at f x == cell_at g y) v.1 u.1)

-- the initial value of a cell
pub begins_so : (code : Code) (has : HasArrays code) (nodes : List Node) (loads : List ℤ) (a : Cell ℕ) → IsSound has.arrays nodes loads a
    → value_at_start code a ≡ slice_index_or code.memory (cell_by nodes loads a) (pos 0)
begins_so code has nodes loads (Fixed c) sound = refl
begins_so code has nodes loads (Element f m i) sound =
    let v = number_within m (value_of nodes loads i) sound.1 in
    let a = array_of has.arrays f m sound.0 in
    let zero = has.zero a.place v.0 a.array a.there (omega (arith, v.2, a.length)) in
    sym (ap (λ x. slice_index_or code.memory (cell_at f x) (pos 0)) v.1
    ∙ ap (λ x. slice_index_or code.memory (x + v.0) (pos 0)) (sym a.first)
    ∙ get_or_from_slice_get code.memory (a.array.first + v.0) (pos 0) (pos 0) zero)
