-- The logs gone through are different ones.
use Rattle.std.proofs.Common.{◌≡◌, ◌∙◌, ℕ, ◌+◌, ◌≤◌, true, List, [], ◌∷◌, Option, Some, None, refl, ap, subst, arith}
use Rattle.std.specs.Prelude.{slice_get, IfSome}
use Rattle.std.proofs.lemmas.List.Elements.{All-nil, All-cons}
use Rattle.tc_base.specs.Paths.{ThreadPath}
use Rattle.tc_code.specs.Code.{Code}
use Rattle.log_walk.specs.thread_paths.pure_turns.Live.{Liveness}
use Rattle.log_walk.specs.Given.{Given, IsFirst, IsOne}
use Rattle.log_walk.specs.Order.{are_to_come}
use Rattle.find_failures.specs.Found.{AreMany}
use Rattle.find_failures.specs.declared.asked.Asked.{Asked}
use Rattle.find_failures.proofs.Below.{one_in_more}

-- n different logs end with the last one
pub record AreManyTo (code : Code) (asked : Asked) (n : ℕ) (last : Option (List ThreadPath)) : Type 0 where
  pub many : AreMany code asked n
  pub ends : slice_get many.logs 0 ≡ last

module _ (code : Code) (asked : Asked) where
  pub none_yet : AreManyTo code asked 0 None
  none_yet = record {
    many = record { logs = []; many = refl; apart = tt; each = All-nil (IsOne code (record { kind = asked.kind; most = asked.outcomes })) };
    ends = refl;
  }

  -- one log more
  pub one_more : (live : Liveness) (level n : ℕ) (last : Option (List ThreadPath)) (given : Given) (ts : List ThreadPath) → level ≤ asked.outcomes
      → IsFirst code live (record { kind = asked.kind; most = level }) last given → given.threads ≡ Some ts
      → AreManyTo code asked n last → AreManyTo code asked (n + 1) (Some ts)
  one_more live level n last given ts le first some before = record {
    many = record {
      logs = ts ∷ before.many.logs;
      many = omega (arith, before.many.many);
      apart = (ap (λ o. are_to_come o ts) before.ends ∙ subst (λ o. IfSome o (λ us. are_to_come last us ≡ true)) some first.to_come, before.many.apart);
      each = All-cons (IsOne code (record { kind = asked.kind; most = asked.outcomes })) ts before.many.logs
          (one_in_more code asked.kind level asked.outcomes ts le
          (subst (λ o. IfSome o (IsOne code (record { kind = asked.kind; most = level }))) some first.is_one))
          before.many.each;
    };
    ends = refl;
  }
