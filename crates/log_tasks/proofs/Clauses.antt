-- A log has clauses, or there is one reason why it has none.
use Rattle.std.proofs.Common.{◌≡◌, ◌∙◌, ℕ, ◌<◌, Some, None, ap, ap₂, sym, arith}
use Rattle.std.proofs.lemmas.Option.{same_Some}
use Rattle.clap_solve.specs.Solved.{IsWithin}
use Rattle.clap_system.specs.Faults.{IsOver, IsShallow, limit_of}
use Rattle.clap_system.specs.declared.fault.Which.{Which}
use Rattle.clap_system.specs.declared.fault.Which.TheVariants.{Threads, Depth, Events, Operators}
use Rattle.clap_system.proofs.path_walk.Faults.{one_first}
use Rattle.clap_system.specs.path_walk.Fits.{IsFirst}
use Rattle.clap_system.specs.path_walk.declared.fault.Misfit.{Misfit}
use Rattle.run_log.specs.Logs.{Log as RunLog}
use Rattle.run_log.specs.tc_base.Names.{Name}
use Rattle.tc_code.specs.Code.{Code}
use Rattle.command_inputs.specs.declared.refusal.LogRefusal.TheVariants.{Form, OtherProgram, Unfit}
use Rattle.command_inputs.specs.declared.refusal.Refusal.{Refusal}
use Rattle.command_inputs.specs.declared.refusal.Refusal.TheVariants.{Log, LogOver}
use Rattle.log_tasks.specs.Refused.{HasNoClauses, part_of}

module _ (code : Code) (log : RunLog) where
  -- only one limit is passed first
  abbrev Passes : Which → ℕ → Type 0
  Passes w n = (limit_of w < n) × IsOver code log w n

  abbrev over : Which → ℕ → Refusal
  over w n = LogOver (part_of w) n

  one_over : (w v : Which) (n m : ℕ) → Passes w n → Passes v m → over w n ≡ over v m
  one_over Threads Threads n m f g = ap (over Threads) (f.1 ∙ sym g.1)
  one_over Threads Depth n m f g = absurd (omega (arith, f.0, f.1, g.1.0))
  one_over Threads Events n m f g = absurd (omega (arith, f.0, f.1, g.1.0.threads))
  one_over Threads Operators n m f g = absurd (omega (arith, f.0, f.1, g.1.0.threads))
  one_over Depth Threads n m f g = absurd (omega (arith, g.0, g.1, f.1.0))
  one_over Depth Depth n m f g = ap (over Depth) (same_Some n m (sym f.1.1 ∙ g.1.1))
  one_over Depth Events n m f g = let bad : Some n ≡ None = sym f.1.1 ∙ g.1.0.names in cc
  one_over Depth Operators n m f g = let bad : Some n ≡ None = sym f.1.1 ∙ g.1.0.names in cc
  one_over Events Threads n m f g = absurd (omega (arith, g.0, g.1, f.1.0.threads))
  one_over Events Depth n m f g = let bad : Some m ≡ None = sym g.1.1 ∙ f.1.0.names in cc
  one_over Events Events n m f g = ap (over Events) (f.1.2 ∙ sym g.1.2)
  one_over Events Operators n m f g = absurd (omega (arith, f.0, f.1.2, g.1.2))
  one_over Operators Threads n m f g = absurd (omega (arith, g.0, g.1, f.1.0.threads))
  one_over Operators Depth n m f g = let bad : Some m ≡ None = sym g.1.1 ∙ f.1.0.names in cc
  one_over Operators Events n m f g = absurd (omega (arith, g.0, g.1.2, f.1.2))
  one_over Operators Operators n m f g = ap (over Operators) (f.1.3 ∙ sym g.1.3)

  over_or_unfit : (w : Which) (k : ℕ) (n : Name) (m : Misfit) → Passes w k → IsShallow log × IsFirst code log n m → ⊥
  over_or_unfit Threads k n m f g = omega (arith, f.0, f.1, g.0.threads)
  over_or_unfit Depth k n m f g = let bad : Some k ≡ None = sym f.1.1 ∙ g.0.names in cc
  over_or_unfit Events k n m f g = let bad : Some m ≡ None = sym g.1.there ∙ f.1.1 n in cc
  over_or_unfit Operators k n m f g = let bad : Some m ≡ None = sym g.1.there ∙ f.1.1 n in cc

  over_or_within : (w : Which) (k : ℕ) → Passes w k → IsWithin code log → ⊥
  over_or_within Threads k f within = omega (arith, f.0, f.1, within.shallow.threads)
  over_or_within Depth k f within = let bad : Some k ≡ None = sym f.1.1 ∙ within.shallow.names in cc
  over_or_within Events k f within = omega (arith, f.0, f.1.2, within.events)
  over_or_within Operators k f within = omega (arith, f.0, f.1.3, within.operators)

  pub one_reason : (r q : Refusal) → HasNoClauses code log r → HasNoClauses code log q → r ≡ q
  one_reason (Log (Unfit n m)) (Log (Unfit k l)) f g = let one = one_first code log n k m l f.1 g.1 in ap₂ (λ x y. Log (Unfit x y)) one.0 one.1
  one_reason (Log (Unfit n m)) (LogOver o k) f g = absurd (over_or_unfit g.0 k n m (g.2, g.3) f)
  one_reason (LogOver o k) (Log (Unfit n m)) f g = absurd (over_or_unfit f.0 k n m (f.2, f.3) g)
  one_reason (LogOver o k) (LogOver p l) f g =
      ap (λ x. LogOver x k) f.1 ∙ one_over f.0 g.0 k l (f.2, f.3) (g.2, g.3) ∙ ap (λ x. LogOver x l) (sym g.1)
  one_reason (Log (Unfit n m)) (Log (Form _)) f g = absurd g
  one_reason (Log (Unfit n m)) (Log OtherProgram) f g = absurd g
  one_reason (LogOver o k) (Log (Form _)) f g = absurd g
  one_reason (LogOver o k) (Log OtherProgram) f g = absurd g
  one_reason (Log (Unfit n m)) _ f g = absurd g
  one_reason (LogOver o k) _ f g = absurd g
  one_reason (Log (Form _)) q f g = absurd f
  one_reason (Log OtherProgram) q f g = absurd f
  one_reason _ q f g = absurd f

  pub reason_or_within : (r : Refusal) → HasNoClauses code log r → IsWithin code log → ⊥
  reason_or_within (Log (Unfit n m)) f within = let bad : Some m ≡ None = sym f.1.there ∙ within.fits n in cc
  reason_or_within (LogOver o k) f within = over_or_within f.0 k (f.2, f.3) within
  reason_or_within (Log (Form _)) f within = f
  reason_or_within (Log OtherProgram) f within = f
  reason_or_within _ f within = f
