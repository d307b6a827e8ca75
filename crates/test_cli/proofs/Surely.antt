-- A run over a shelf and a sink whose counts of faults stay 0.
use Rattle.std.proofs.Common.{◌≡◌, ◌≤◌, ◌+◌, ◌∙◌, ap, arith, inl, inr, sym, ℕ, List, [], ◌∷◌}
use Rattle.tc_io.specs.Outside.{ShelfTells, SinkTells, WrotePart, capped_sum}
use Rattle.clap_debug_cli.specs.command_frame.Answers.{Answer, Gives, ReadFault, TooLong, WriteFault, NoMemory, Puts, Says, SaysNoMemory, number_of}
use Rattle.clap_debug_cli.specs.command_frame.Causes.{IsCause, LosesOne}
use Rattle.clap_debug_cli.specs.command_frame.Inputs.{FailedInput, FailsToRead, Wanted, Whole, Entire, InPieces, no_limit}
use Rattle.clap_debug_cli.specs.command_frame.Keeps.{FailsToKeep, Keep}
use Rattle.clap_debug_cli.specs.command_frame.Meaning.{Meaning}
use Rattle.clap_debug_cli.specs.command_frame.Run.{Runs}
use Rattle.clap_debug_cli.specs.command_frame.declared.status.Status.{Status}
use Rattle.clap_debug_cli.specs.command_frame.declared.status.Status.TheVariants as status

-- some input of any length is read at once
abbrev pub HasEntire : List Wanted → Type 0
HasEntire [] = ⊥
HasEntire (Entire name ∷ ws) = Unit {0}
HasEntire (_ ∷ ws) = HasEntire ws

entire_later : (w : Wanted) (ws : List Wanted) → HasEntire ws → HasEntire (w ∷ ws)
entire_later (Whole limit name) ws h = h
entire_later (InPieces name) ws h = h
entire_later (Entire name) ws h = tt

-- without a fault counted, an input failed because it was longer than can be counted
input_failed : (w : Wanted) (ws : List Wanted) (old new : ShelfTells) → new.faults ≡ 0 → FailedInput w old new → HasEntire (w ∷ ws) × (no_limit ≤ new.taken)
input_failed (Whole limit name) ws old new none f = let counted = ap (λ (s : ShelfTells). s.faults) f.2 in absurd (omega (arith, counted, none))
input_failed (InPieces name) ws old new none f = let counted = ap (λ (s : ShelfTells). s.faults) f.2 in absurd (omega (arith, counted, none))
input_failed (Entire name) ws old new none (inl f) = let counted = ap (λ (s : ShelfTells). s.faults) f.2 in absurd (omega (arith, counted, none))
input_failed (Entire name) ws old new none (inr f) =
    let count : new.taken ≡ capped_sum old.taken (no_limit + 1) = ap (λ (s : ShelfTells). s.taken) f.0 in (tt, omega (arith, count))

failed_read : (ws : List Wanted) (old new : ShelfTells) (name : List ℕ) → new.faults ≡ 0 → FailsToRead ws old new name
    → HasEntire ws × (no_limit ≤ new.taken)
failed_read [] old new name none f = absurd f
failed_read (w ∷ ws) old new name none (inl f) = input_failed w ws old new none f.1
failed_read (w ∷ ws) old new name none (inr f) = let rest = failed_read ws f.0 new name none f.3 in (entire_later w ws rest.0, rest.1)

never_fails_to_keep : (ks : List Keep) (old new : ShelfTells) (name : List ℕ) → new.faults ≡ 0 → FailsToKeep ks old new name → ⊥
never_fails_to_keep [] old new name none f = f
never_fails_to_keep (k ∷ ks) old new name none (inl f) = let counted = ap (λ (s : ShelfTells). s.faults) f.1.2 in omega (arith, counted, none)
never_fails_to_keep (k ∷ ks) old new name none (inr f) = never_fails_to_keep ks f.0 new name none f.2

pub never_fails_to_put : (bytes : List ℕ) (old new : SinkTells) → new.faults ≡ 0 → WrotePart old new bytes → ⊥
never_fails_to_put bytes old new none f = let counted = ap (λ (s : SinkTells). s.faults) f.1 in omega (arith, counted, none)

-- the statuses that outcomes have
abbrev pub IsSound : Status → Type 0
IsSound status.ReadFault = ⊥
IsSound status.WriteFault = ⊥
IsSound _ = Unit {0}

no_seven : (s : Status) → IsSound s → number_of s ≡ 7 → ⊥
no_seven status.Done is e = omega (arith, e)
no_seven status.Fails is e = omega (arith, e)
no_seven status.Usage is e = omega (arith, e)
no_seven status.ProgramRefused is e = omega (arith, e)
no_seven status.LogRefused is e = omega (arith, e)
no_seven status.InputRefused is e = omega (arith, e)
no_seven status.OverLimit is e = omega (arith, e)
no_seven status.NoMemory is e = omega (arith, e)
no_seven status.Open is e = omega (arith, e)
no_seven status.ReadFault is e = is
no_seven status.WriteFault is e = is

no_eight : (s : Status) → IsSound s → number_of s ≡ 8 → ⊥
no_eight status.Done is e = omega (arith, e)
no_eight status.Fails is e = omega (arith, e)
no_eight status.Usage is e = omega (arith, e)
no_eight status.ProgramRefused is e = omega (arith, e)
no_eight status.LogRefused is e = omega (arith, e)
no_eight status.InputRefused is e = omega (arith, e)
no_eight status.OverLimit is e = omega (arith, e)
no_eight status.NoMemory is e = omega (arith, e)
no_eight status.Open is e = omega (arith, e)
no_eight status.ReadFault is e = is
no_eight status.WriteFault is e = is

module _ {A : Type 0} (m : Meaning A) (sound : (x : A) → IsSound (m.status_of x)) (old new : ShelfTells) (number : ℕ) (j k : SinkTells)
    (quiet : new.faults ≡ 0) (silent : k.faults ≡ 0) (runs : Runs m old new number j k) where
  no_memory_said : number ≡ 8 → SaysNoMemory number j k → ⊥
  no_memory_said eight (inl h) = omega (arith, eight, h.0)
  no_memory_said eight (inr h) = never_fails_to_put _ j k silent h.1

  unkept : (name : List ℕ) → LosesOne m old new name → ⊥
  unkept name c = never_fails_to_keep (m.keeps_of c.0) c.1.1 new name quiet c.1.4

  -- nothing fails to be written
  pub never_eight : number ≡ 8 → ⊥
  never_eight eight = by runs.answer.0 runs.answer.1 runs.answer.2
    where
      by : (a : Answer A) → IsCause m old new a → Says m a number j k → ⊥
      by (WriteFault name) c says = unkept name c
      by (Gives x) c (inl puts) = no_eight (m.status_of x) (sound x) (sym puts.2 ∙ eight)
      by (Gives x) c (inr (inl fails)) = never_fails_to_put fails.0 j k silent fails.3
      by (Gives x) c (inr (inr none)) = no_memory_said eight none
      by (ReadFault name) c (inl puts) = omega (arith, eight, puts.2)
      by (ReadFault name) c (inr (inl fails)) = never_fails_to_put fails.0 j k silent fails.3
      by (ReadFault name) c (inr (inr none)) = no_memory_said eight none
      by (TooLong limit) c (inl puts) = omega (arith, eight, puts.2)
      by (TooLong limit) c (inr (inl fails)) = never_fails_to_put fails.0 j k silent fails.3
      by (TooLong limit) c (inr (inr none)) = no_memory_said eight none
      by NoMemory c (inl puts) = omega (arith, eight, puts.2)
      by NoMemory c (inr (inl fails)) = never_fails_to_put fails.0 j k silent fails.3
      by NoMemory c (inr (inr none)) = no_memory_said eight none

  -- what fails to be read is longer than can be counted
  pub seven_is_entire : number ≡ 7 → HasEntire m.inputs × (no_limit ≤ new.taken)
  seven_is_entire seven =
      let whole = runs.whole (λ h. omega (arith, seven, h)) (λ h. omega (arith, seven, h)) in
      by whole.0 whole.1 whole.2
    where
      by : (a : Answer A) → IsCause m old new a → Puts m a number j k → HasEntire m.inputs × (no_limit ≤ new.taken)
      by (ReadFault name) c puts = failed_read m.inputs old new name quiet c
      by (Gives x) c puts = absurd (no_seven (m.status_of x) (sound x) (sym puts.2 ∙ seven))
      by (TooLong limit) c puts = absurd (omega (arith, seven, puts.2))
      by (WriteFault name) c puts = absurd (omega (arith, seven, puts.2))
      by NoMemory c puts = absurd (omega (arith, seven, puts.2))
