-- A thread that failed is at an instruction.
use Rattle.std.proofs.Common.{◌≡◌, ◌∙◌, ℕ, Option, Some, None, IsSome, true, false, sym, subst}
use Rattle.std.specs.Prelude.{IsSomeAnd, option_map, is_some}
use Rattle.std.specs.FinMap as fin
use Rattle.std.proofs.lemmas.Option.{same_Some}
use Rattle.tc_base.specs.Names.{Name}
use Rattle.tc_base.specs.States.{Thread, State}
use Rattle.tc_code.specs.Code.{Code, instr_at}

module _ {B : Type 0} (code : Code) where
  -- there is an instruction at the place of this thread
  abbrev IsAt : Thread B → Type 0
  IsAt t = IsSome (instr_at code t.local.function t.local.instruction)

  -- the place of a thread
  abbrev place : Thread B → ℕ × ℕ
  place t = (t.local.function, t.local.instruction)

  -- a thread at an instruction has a place
  placed : (o : Option (Thread B)) → IsSomeAnd o IsAt → option_map place o ≡ None → ⊥
  placed None at e = at
  placed (Some t) at e = cc

  -- there is an instruction where this thread is
  stands : (o : Option (Thread B)) (f i : ℕ) → IsSomeAnd o IsAt → option_map place o ≡ Some (f, i) → IsSome (instr_at code f i)
  stands None f i at e = absurd at
  stands (Some t) f i at e =
      let same : place t ≡ (f, i) = same_Some (place t) (f, i) e in
      subst (λ (p : ℕ × ℕ). IsSome (instr_at code p.0 p.1)) same at

  module _ (s : State B) (n : Name) (failed : s.failed ≡ Some n) (at : IsSomeAnd s.failed (λ m. IsSomeAnd (fin.get s.threads m) IsAt)) where
    at_place : IsSomeAnd (fin.get s.threads n) IsAt
    at_place = subst (λ o. IsSomeAnd o (λ m. IsSomeAnd (fin.get s.threads m) IsAt)) failed at

    -- the failed thread has a place
    pub has_place : (p : Option (ℕ × ℕ)) → p ≡ option_map place (fin.get s.threads n) → p ≡ None → ⊥
    has_place p is none = placed (fin.get s.threads n) at_place (sym is ∙ none)

    -- the failed thread has an instruction at its place
    pub has_instr : (p : Option (ℕ × ℕ)) (f i : ℕ) → p ≡ option_map place (fin.get s.threads n) → p ≡ Some (f, i) → IsSome (instr_at code f i)
    has_instr p f i is some = stands (fin.get s.threads n) f i at_place (sym is ∙ some)

-- an option with a value isn't none
pub not_none : {X Y : Type 0} (o : Option X) (q : Option Y) → is_some o ≡ is_some q → IsSome q → o ≡ None → ⊥
not_none None q e some none = let bad : false ≡ true = e ∙ some in cc
not_none (Some x) q e some none = cc
