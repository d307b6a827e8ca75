-- The forms in which a buffer may drain.
use Rattle.std.proofs.Common.{
  ◌≡◌,
  ℕ,
  true,
  false,
  not,
  ◌&&◌,
  ◌||◌,
  Option,
  Some,
  None,
  is_none,
  List,
  [],
  ◌∷◌,
  ◌++◌,
  map,
  refl,
  sym,
  ap,
  ◌∙◌,
  subst,
  append-nil,
  nat_eq,
}
use Rattle.std.specs.Option.{option_cmp, option_eq}
use Rattle.std.specs.Ordering.{nat_cmp, eq_by_cmp}
use Rattle.std.specs.Cmp.{unsigned_tied}
use Rattle.std.specs.declared.cmp.Ordering.TheVariants.{Less}
use Rattle.std.specs.FinMap as fin
use Rattle.std.specs.FinMap.{contains_key-keys}
use Rattle.std.specs.List.{list_any, AllByRecursion}
use Rattle.std.specs.List.Sorted.{IsStrictlySortedBy}
use Rattle.tc_base.specs.Buffers.{Entry, BufferOps}
use Rattle.store_buffers.specs.Buffers.{Segment, fifo_buffer, cell_buffer, values_to, first_values, may_drain_cell}
use Rattle.list_laws.specs.Lists.{is_nil}
use Rattle.store_buffers.specs.Laws.{AreForms}
use Rattle.store_buffers.specs.helpers.Segments.{IsTidy}
use Rattle.store_buffers.proofs.ByCell.{is_there}
use Rattle.store_buffers.proofs.Skips.{first_values-alone}

pub no_forms : {B : Type 0} (ops : BufferOps B) (b : B) → ((form : Option ℕ) → ops.may_drain b form ≡ false) → AreForms ops b []
unfolding IsStrictlySortedBy
no_forms ops b none = record { rise = tt; exact = λ form. sym (none form) }

without_stores : (form : Option ℕ) (b : List Entry) → is_nil b ≡ true → is_none form && not (is_nil b) ≡ false
without_stores None b e = ap not e
without_stores (Some c) b e = refl

-- an empty queue has no form
pub empty_forms : (b : List Entry) → is_nil b ≡ true → AreForms fifo_buffer b []
empty_forms b e = no_forms fifo_buffer b (λ form. without_stores form b e)

one : (form : Option ℕ) (b : List Entry) → is_nil b ≡ false → list_any (option_eq nat_eq form) (None ∷ []) ≡ is_none form && not (is_nil b)
one None b e = sym (ap not e)
one (Some c) b e = refl

-- any other queue has only the form without a cell
pub queue_forms : (b : List Entry) → is_nil b ≡ false → AreForms fifo_buffer b (None ∷ [])
unfolding IsStrictlySortedBy
queue_forms b e = record { rise = (tt, tt); exact = λ form. one form b e }

rising : (ks : List ℕ) → IsStrictlySortedBy nat_cmp ks → IsStrictlySortedBy (option_cmp nat_cmp) (map (λ k. Some k) ks)
unfolding IsStrictlySortedBy
rising [] h = tt
rising (k ∷ ks) h = (above k ks h.0, rising ks h.1)
  where
    above : (k : ℕ) (ks : List ℕ) → AllByRecursion (λ j. nat_cmp k j ≡ Less) ks
        → AllByRecursion (λ f. option_cmp nat_cmp (Some k) f ≡ Less) (map (λ j. Some j) ks)
    above k [] h = tt
    above k (j ∷ ks) h = (h.0, above k ks h.1)

no_form : (ks : List ℕ) → list_any (option_eq nat_eq None) (map (λ k. Some k) ks) ≡ false
no_form [] = refl
no_form (k ∷ ks) = no_form ks

cell_form : (ks : List ℕ) (c : ℕ) → list_any (option_eq nat_eq (Some c)) (map (λ k. Some k) ks) ≡ list_any (eq_by_cmp nat_cmp c) ks
cell_form [] c = refl
cell_form (k ∷ ks) c = ap (λ b. b || list_any (option_eq nat_eq (Some c)) (map (λ j. Some j) ks)) (sym (unsigned_tied c k))
    ∙ ap (λ b. eq_by_cmp nat_cmp c k || b) (cell_form ks c)

exact_cells : (s : Segment) → IsTidy s → (form : Option ℕ) → list_any (option_eq nat_eq form) (map (λ k. Some k) (fin.keys s)) ≡ may_drain_cell (s ∷ []) form
exact_cells s t None = no_form (fin.keys s)
exact_cells s t (Some c) =
    cell_form (fin.keys s) c ∙ sym (contains_key-keys s c) ∙ is_there s c _ t refl
    ∙ ap (λ vs. not (is_nil vs)) (sym (first_values-alone s c))

-- the cells of a segment are the forms of its drains
pub cells_are_forms : (s : Segment) (forms : List (Option ℕ)) (rest : List ℕ) → IsTidy s → IsStrictlySortedBy nat_cmp (fin.keys s) → rest ≡ []
    → forms ++ map (λ k. Some k) rest ≡ map (λ k. Some k) (fin.keys s) → AreForms cell_buffer (s ∷ []) forms
cells_are_forms s forms rest t sorted none is =
    subst (AreForms cell_buffer (s ∷ [])) (sym (sym (append-nil forms) ∙ ap (λ ks. forms ++ map (λ k. Some k) ks) (sym none) ∙ is))
    (record { rise = rising (fin.keys s) sorted; exact = exact_cells s t })

same_forms : (now : List Segment) (s : Segment) → ((c : ℕ) → first_values now c ≡ values_to s c) → (form : Option ℕ)
    → may_drain_cell (s ∷ []) form ≡ may_drain_cell now form
same_forms now s front None = refl
same_forms now s front (Some c) = ap (λ vs. not (is_nil vs)) (first_values-alone s c ∙ sym (front c))

-- if the first values to each cell are those of one segment, its forms are those of the buffer
pub forms_in_front : (now : List Segment) (s : Segment) (forms : List (Option ℕ)) → ((c : ℕ) → first_values now c ≡ values_to s c)
    → AreForms cell_buffer (s ∷ []) forms → AreForms cell_buffer now forms
forms_in_front now s forms front f = record { rise = f.rise; exact = λ form. f.exact form ∙ same_forms now s front form }
