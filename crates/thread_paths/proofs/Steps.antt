-- A step of the descent, from the promises of the functions that it calls.
use Rattle.std.proofs.Common.{◌≡◌, ◌≢◌, ◌∙◌, ℕ, ◌+◌, ◌<◌, ◌≤◌, inl, inr, Bool, true, false, List, [], ◌∷◌, ◌++◌, length, Option, Some, None, refl, ap, sym, subst, arith}
use Rattle.std.proofs.lemmas.List.{length-append}
use Rattle.tc_limits.specs.declared.limits.TheConstants.{STEPS}
use Rattle.tc_code.specs.Code.{Code, instr_at}
use Rattle.tc_code.specs.declared.instr.Instr.{Instr}
use Rattle.thread_marks.specs.path_walk.Events.{excludes}
use Rattle.thread_marks.specs.path_walk.Marks.{Marks, marks_after_instr}
use Rattle.thread_marks.specs.Own.{own_of}
use Rattle.slot_liveness.specs.pure_turns.Live.{Liveness}
use Rattle.thread_paths.specs.Turns.{place_of, instr_of}
use Rattle.thread_paths.specs.Known.{Known, known_after, known_before, leads_to}
use Rattle.thread_paths.specs.declared.aim.Scope.{Scope}
use Rattle.thread_paths.specs.declared.descent.At.{At}
use Rattle.thread_paths.specs.declared.descent.Reason.TheVariants.{Dead, TooMany, Against}
use Rattle.thread_paths.specs.declared.past.Past.{Past}
use Rattle.thread_paths.specs.helpers.Descents.{is_branch, at_after, is_end, IsOpened, IsNode, IsLowest, IsSpent, IsExcused}
use Rattle.thread_paths.proofs.Nodes.{pushed_node, too_many, dead, next_node, found}
use Rattle.thread_paths.proofs.Values.{leads_last}
use Rattle.thread_paths.proofs.Against.{at_against}

-- a branch that was opened has an outcome
pub has_outcome : (most : ℕ) (i : Instr) (at at' : At) (o o' : List Bool) (x : Option At) → x ≡ Some at' → IsOpened most i at o o' x → at.used ≤ length o
    → is_branch i ≡ true → at'.used < length o'
has_outcome most i at at' o o' x is opened within = by (subst (IsOpened most i at o o') is opened)
  where
    by : IsOpened most i at o o' (Some at') → is_branch i ≡ true → at'.used < length o'
    by (inl same) branch = omega (arith, same.2 branch, ap (λ (a : At). a.used) same.0, ap length same.1)
    by (inr pushed) branch =
        omega (arith, ap (λ (a : At). a.used) pushed.is, ap length pushed.added, length-append o (false ∷ []), pushed.end, within)

module _ (code : Code) (live : Liveness) (scope : Scope) (start : List Bool) (first n : ℕ) (at : At) (o : List Bool) (past : Past)
    (node : IsNode code scope start first n at o past) (i : Instr) (there : instr_at code scope.function at.place ≡ Some i)
    (o' : List Bool) (x : Option At) (opened : IsOpened scope.most i at o o' x) where
  -- there are too many outcomes
  pub full : x ≡ None → IsSpent code scope start first o' (IsExcused code live scope TooMany)
  full none = by (subst (IsOpened scope.most i at o o') none opened)
    where
      by : IsOpened scope.most i at o o' None → IsSpent code scope start first o' (IsExcused code live scope TooMany)
      by is = subst (λ z. IsSpent code scope start first z (IsExcused code live scope TooMany)) (sym is.3)
          (too_many code scope start first n at o past node i there is.0 is.1 is.2)

  module _ (at' : At) (is : x ≡ Some at') where
    opened_node : IsNode code scope start first n at' o' past
    opened_node = by (subst (IsOpened scope.most i at o o') is opened)
      where
        by : IsOpened scope.most i at o o' (Some at') → IsNode code scope start first n at' o' past
        by (inl same) = subst (λ z. IsNode code scope start first n at' z past) (sym same.1)
            (subst (λ z. IsNode code scope start first n z o past) (sym same.0) node)
        by (inr pushed) = pushed_node code scope start first n i at at' o o' past node there pushed

    same_place : at'.place ≡ at.place
    same_place = by (subst (IsOpened scope.most i at o o') is opened)
      where
        by : IsOpened scope.most i at o o' (Some at') → at'.place ≡ at.place
        by (inl same) = ap (λ (a : At). a.place) same.0
        by (inr pushed) = ap (λ (a : At). a.place) pushed.is

    still_there : instr_at code scope.function at'.place ≡ Some i
    still_there = ap (instr_at code scope.function) same_place ∙ there

    module _ (within : at.used ≤ length o) (to : At) (seen later : List Bool) (is_seen : seen ≡ o') (is_later : later ≡ o') (goes : to ≡ at_after at' i seen) where
      some : is_branch i ≡ true → at'.used < length o'
      some = has_outcome scope.most i at at' o o' x is opened within

      is_next : to ≡ at_after at' i o'
      is_next = goes ∙ ap (at_after at' i) is_seen

      ends : (v : Bool) → ((t : Marks) → past.own ≡ own_of t → v ≡ is_end code scope (n + 1) t i to later)
          → is_end code scope (n + 1) opened_node.marks i (at_after at' i o') o' ≡ v
      ends v told =
          sym (told opened_node.marks opened_node.is
          ∙ ap (λ z. is_end code scope (n + 1) opened_node.marks i z later) is_next
          ∙ ap (is_end code scope (n + 1) opened_node.marks i (at_after at' i o')) is_later)

      pub is_found : ((t : Marks) → past.own ≡ own_of t → true ≡ is_end code scope (n + 1) t i to later) → n < STEPS → IsLowest code scope start first o' (n + 1)
      is_found told room = found code scope start first n at' o' past opened_node i still_there some (ends true told) room

      module _ (told : (t : Marks) → past.own ≡ own_of t → false ≡ is_end code scope (n + 1) t i to later) where
        pub is_dead : ((t : Marks) → past.own ≡ own_of t → true ≡ excludes t i false) → IsSpent code scope start first o' (IsExcused code live scope Dead)
        is_dead cannot =
            dead code scope start first n at' o' past opened_node i still_there some (ends false told) (sym (cannot opened_node.marks opened_node.is))

        module _ (can : (t : Marks) → past.own ≡ own_of t → false ≡ excludes t i false) where
          next_with : (past' : Past) → past'.own ≡ own_of (marks_after_instr opened_node.marks i) → past'.known ≡ known_after past.known i
              → past'.places.items ≡ past.places.items ++ at.place ∷ [] → IsNode code scope start first (n + 1) to o' past'
          next_with past' marks knows places =
              subst (λ z. IsNode code scope start first (n + 1) z o' past') (sym is_next)
              (next_node code scope start first n at' o' past opened_node i still_there some (ends false told) (sym (can opened_node.marks opened_node.is))
              past' marks knows (places ∙ ap (λ k. past.places.items ++ k ∷ []) (sym same_place)))

          pub is_next_node : (past' : Past) → ((t : Marks) → past.own ≡ own_of t → past'.own ≡ own_of (marks_after_instr t i))
              → past'.known ≡ known_after past.known i → past'.places.items ≡ past.places.items ++ at.place ∷ []
              → IsNode code scope start first (n + 1) to o' past'
          is_next_node past' marks = next_with past' (marks opened_node.marks opened_node.is)

          -- the step leads elsewhere than its known test
          pub is_against : (now : Past) → now.places.items ≡ past.places.items ++ at.place ∷ [] → (target : ℕ)
              → leads_to past.known at'.place i ≡ Some target → to.place ≢ target → IsSpent code scope start first o' (IsExcused code live scope Against)
          is_against now places target leads other =
              let past' : Past = record now { own = own_of (marks_after_instr opened_node.marks i); known = known_after past.known i } in
              at_against code live scope start first n to o' past' (next_with past' refl refl places) target
              (ap (λ ps. leads_to (known_before code scope.function ps n) (place_of code scope.function ps n) (instr_of code scope.function ps n)) places
              ∙ leads_last code scope.function past.places.items n node.long at.place i there
              ∙ ap (λ (known : Known). leads_to known at.place i) (sym node.known)
              ∙ ap (λ p. leads_to past.known p i) (sym same_place)
              ∙ leads)
              other
