-- A queue of stores, by cell.
use Rattle.std.proofs.Common.{◌≡◌, ◌==◌, cond, Some, None, List, [], ◌∷◌, ◌++◌, drop, ℕ, ℤ, refl, sym, ap, ◌∙◌}
use Rattle.std.specs.FinMap as fin
use Rattle.std.specs.List.{last_or}
use Rattle.std.specs.Option.{option_or}
use Rattle.tc_base.specs.Buffers.{Entry}
use Rattle.store_buffers.specs.Buffers.{newest, values_to, with_values}
use Rattle.store_buffers.specs.helpers.Seen.{stores_by_cell}
use Rattle.store_buffers.specs.helpers.Partial.{forward_behind}
use Rattle.store_buffers.specs.helpers.Segments.{
  IsTidy,
  tidy-empty,
  tidy-with_first,
  values-empty,
  values-with_first-same,
  with_values-back,
  with_last-with_first,
}

tidy : (es : List Entry) → IsTidy (stores_by_cell es)
tidy [] = tidy-empty
tidy (e ∷ es) = tidy-with_first e.cell e.value (stores_by_cell es) (tidy es)

-- one more store at the end
pub by_cell-end : (es : List Entry) (c : ℕ) (v : ℤ)
    → with_values (stores_by_cell es) c (values_to (stores_by_cell es) c ++ v ∷ []) ≡ stores_by_cell (es ++ record { cell = c; value = v } ∷ [])
by_cell-end [] c v = ap (with_values fin.empty c) (ap (λ us. us ++ v ∷ []) (values-empty c) ∙ sym (ap (λ us. v ∷ us) (values-empty c)))
by_cell-end (d ∷ es) c v = with_last-with_first (stores_by_cell es) c v d.cell d.value (tidy es)
    ∙ ap (λ s. with_values s d.cell (d.value ∷ values_to s d.cell)) (by_cell-end es c v)

-- the newest store to a cell is the last value there
pub by_cell-newest : (es : List Entry) (c : ℕ) → last_or None (values_to (stores_by_cell es) c) ≡ newest es c
by_cell-newest [] c = ap (last_or None) (values-empty c)
by_cell-newest (e ∷ es) c = forward_behind (stores_by_cell es) None e.cell e.value c _ refl
    ∙ ap (λ o. option_or o (cond (e.cell == c) (Some e.value) None)) (by_cell-newest es c)

-- the queue without its oldest store
pub by_cell-rest : (e : Entry) (es : List Entry)
    → with_values (stores_by_cell (e ∷ es)) e.cell (drop 1 (values_to (stores_by_cell (e ∷ es)) e.cell)) ≡ stores_by_cell es
by_cell-rest e es = ap (λ vs. with_values (stores_by_cell (e ∷ es)) e.cell (drop 1 vs)) (values-with_first-same e.cell e.value (stores_by_cell es))
    ∙ with_values-back (stores_by_cell es) e.cell (e.value ∷ values_to (stores_by_cell es) e.cell) (tidy es)
