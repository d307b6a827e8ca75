-- Whether a table is closed, as the code tests it.
use Rattle.std.specs.Prelude.{◌≡◌, ℕ, ◌+◌, ◌==◌, Bool, false, not, ◌&&◌, ◌||◌, List, Some, slice_get, IsTrue}
use Rattle.std.specs.Option.{option_map_or}
use Rattle.tc_code.specs.declared.instr.Instr.{Instr}
use Rattle.tc_code.specs.declared.instr.Instr.TheVariants.{Branch, Goto}
use Rattle.tc_code.specs.Lawful.{written}
use Rattle.pure_turns.specs.Live.{reads_slot}
use Rattle.slot_liveness.specs.Tables.{Table, is_live_in}

-- whether an instruction writes a slot
abbrev pub writes_slot : ℕ → Instr → Bool
writes_slot k i = option_map_or (λ j. j == k) (written i) false

-- whether a slot is live at a place that the instruction at this one may lead to
abbrev pub is_live_after : Table → Instr → (place slot : ℕ) → Bool
is_live_after rows (Branch e target) place k =
    is_live_in rows (place + 1) k || is_live_in rows target k
is_live_after rows (Goto target) place k = is_live_in rows target k
is_live_after rows _ place k = is_live_in rows (place + 1) k

-- whether a slot must be live at a place, by its instruction and what is live after it
abbrev pub must_be_live : Table → Instr → (place slot : ℕ) → Bool
must_be_live rows i place k =
    reads_slot k i || (is_live_after rows i place k && not (writes_slot k i))

-- each slot is live at a place that must be
abbrev pub IsClosedAt : Table → Instr → ℕ → Type 0
IsClosedAt rows i place =
    (k : ℕ) → IsTrue (must_be_live rows i place k) → IsTrue (is_live_in rows place k)

-- the same at each place of a function
abbrev pub IsClosedIn : Table → List Instr → Type 0
IsClosedIn rows instrs =
    (place : ℕ) (i : Instr) → slice_get instrs place ≡ Some i → IsClosedAt rows i place
