-- Bytes are one schedule at most, or break the form at one place.
use Rattle.std.proofs.Common.{◌≡◌, ◌∙◌, ℕ, List, ap, sym}
use Rattle.schedule_file.specs.Faults.{BreaksAt}
use Rattle.schedule_file.proofs.Schedules as schedules
use Rattle.command_inputs.specs.Forms.{IsSchedule, Schedule}

same_schedule : (s t : Schedule) → (s.model ≡ t.model) × (s.moves ≡ t.moves) → s ≡ t
same_schedule s t e = ap (λ m. record { model = m; moves = s.moves }) e.0 ∙ ap (λ ms. record { model = t.model; moves = ms }) e.1

pub one_schedule : (bytes : List ℕ) (s t : Schedule) → IsSchedule bytes s → IsSchedule bytes t → s ≡ t
one_schedule bytes s t f g =
    same_schedule s t (schedules.one_schedule s.model t.model s.moves t.moves f.have_text g.have_text (sym f.text ∙ g.text))

pub schedule_or_fault : (bytes : List ℕ) (s : Schedule) (line : ℕ) → IsSchedule bytes s → BreaksAt bytes line → ⊥
schedule_or_fault bytes s line f breaks = schedules.schedule_or_fault bytes s.model s.moves line f.have_text f.text breaks
