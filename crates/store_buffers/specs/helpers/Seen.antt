-- The types of the code as the plain data of the definitions.
use Rattle.std.specs.Prelude.{◌≡◌, ℕ, ℤ, Bool, false, List, [], ◌++◌, ◌∷◌, drop, replicate, refl}
use Rattle.std.specs.Coded.{Coded, code_by, coded×, coded_ℕ, coded_ℤ, coded_list}
use Rattle.std.specs.FinMap as fin
use Rattle.tc_base.specs.Buffers.{Entry}
use Rattle.store_buffers.specs.Buffers.{Segment, values_to, with_values, has_no_store}
use Rattle.store_buffers.specs.declared.queue.Store.{Store}

abbrev pub entry_of : Store → Entry
entry_of s = record { cell = s.cell; value = s.value }

-- segments after n empty ones
abbrev pub after_empty : ℕ → List Segment → List Segment
after_empty n ss = replicate n fin.empty ++ ss

-- whether the first segment has no store
abbrev pub begins_empty : List Segment → Bool
begins_empty [] = false
begins_empty (s ∷ ss) = has_no_store s

-- the values to a cell in the first segment
abbrev pub values_in_first : List Segment → ℕ → List ℤ
values_in_first [] c = []
values_in_first (s ∷ ss) c = values_to s c

-- the segments without the first of those values
abbrev pub drop_in_first : List Segment → ℕ → List Segment
drop_in_first [] c = []
drop_in_first (s ∷ ss) c = with_values s c (drop 1 (values_to s c)) ∷ ss

-- the values of a queue of stores, grouped by cell
abbrev pub stores_by_cell : List Entry → Segment
stores_by_cell [] = fin.empty
stores_by_cell (e ∷ es) =
    with_values (stores_by_cell es) e.cell (e.value ∷ values_to (stores_by_cell es) e.cell)

abbrev parted : Entry → ℕ × ℤ
parted e = (e.cell, e.value)

abbrev joined : ℕ × ℤ → Entry
joined p = record { cell = p.0; value = p.1 }

pub joined-parted : (e : Entry) → joined (parted e) ≡ e
joined-parted e = refl

abbrev pub coded_entries : Coded (List Entry)
coded_entries = coded_list (code_by (ℕ × ℤ) (coded× coded_ℕ coded_ℤ) parted joined joined-parted)
