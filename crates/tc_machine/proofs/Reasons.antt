-- A move is enabled exactly if there is no reason against it.
use Rattle.std.proofs.Common.{◌≡◌, ◌↔◌, Bool, true, false, None, Some, refl, IsSome, IsNone, is_some, cond, rules, ap, subst, sym, ◌∙◌}
use Rattle.std.proofs.lemmas.Bool.{false≢true}
use Rattle.tc_base.specs.Buffers.{BufferOps}
use Rattle.tc_base.specs.States.{State}
use Rattle.tc_base.specs.declared.moves.Move.{Move}
use Rattle.tc_code.specs.Code.{Code}
use Rattle.tc_code.specs.Step.{step}
use Rattle.tc_machine.specs.Moves.{is_enabled}
use Rattle.tc_machine.specs.Why.{why, why_not}
use Rattle.tc_machine.specs.declared.why.Why.{Why}
use Rattle.tc_machine.specs.declared.why.Why.TheVariants.{Stopped}

module _ {B : Type 0} (ops : BufferOps B) (code : Code) (s : State B) (m : Move) where
  -- there is no reason exactly if there is a next state
  pub no_reason_where_enabled : IsNone (why ops code s m) ↔ IsSome (step ops code s m)
  no_reason_where_enabled = search rules

  -- a move without a reason against it is enabled
  pub enabled_without_reason : why ops code s m ≡ None → is_enabled ops code s m ≡ true
  enabled_without_reason e = no_reason_where_enabled.0 (subst IsNone (sym e) refl)

  reason_stays : (b : Bool) → is_enabled ops code s m ≡ b → (w : Why) → why ops code s m ≡ Some w → b ≡ false
  reason_stays false e w h = refl
  reason_stays true e w h = absurd (false≢true (sym (subst IsNone h (no_reason_where_enabled.1 e))))

  -- a move with a reason against it isn't enabled
  pub disabled_with_reason : (w : Why) → why ops code s m ≡ Some w → is_enabled ops code s m ≡ false
  disabled_with_reason w h = reason_stays _ refl w h

  -- if no thread has failed yet, a move without a reason against it is enabled
  pub enabled_while_running : s.failed ≡ None → why_not ops code s m ≡ None → IsSome (step ops code s m)
  enabled_while_running running e =
      no_reason_where_enabled.0 (subst IsNone (sym (ap (λ f. cond (is_some f) (Some Stopped) (why_not ops code s m)) running ∙ e)) refl)

pub ruleset reasons = (enabled_without_reason, disabled_with_reason)
