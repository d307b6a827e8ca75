-- Places that end a turn: each path that goes on from there shows it.
use Rattle.std.proofs.Common.{◌≡◌, ◌∙◌, ℕ, suc, ◌+◌, ◌-◌, ◌<◌, ◌≤◌, inl, inr, Bool, true, List, [], ◌∷◌, ◌++◌, length, Result, Ok, Err, refl, ap, sym, subst, arith, append_assoc}
use Rattle.std.specs.Prelude.{◌⊎◌, IsTrue}
use Rattle.std.proofs.lemmas.List.{length-append}
use Rattle.tc_code.specs.Code.{Code}
use Rattle.tc_code.specs.Lawful.{written}
use Rattle.tc_code.specs.declared.instr.Instr.{Instr}
use Rattle.thread_marks.specs.path_walk.Steps.{places_from}
use Rattle.thread_marks.specs.path_walk.declared.fault.Misfit.{Misfit}
use Rattle.thread_marks.specs.path_walk.helpers.Accounts.{prefixed}
use Rattle.thread_marks.proofs.path_walk.Places.{unrolled}
use Rattle.slot_liveness.specs.pure_turns.Live.{Liveness}
use Rattle.thread_paths.specs.Turns.{is_idle, place_of, instr_of, Keep, RulesOut, HasFailed, IsTurn, HasTurn}
use Rattle.thread_paths.specs.declared.aim.Scope.{Scope}
use Rattle.thread_paths.specs.declared.descent.At.{At}
use Rattle.thread_paths.specs.declared.descent.Reason.TheVariants.{Turn}
use Rattle.thread_paths.specs.declared.past.Past.{Past}
use Rattle.thread_paths.specs.helpers.Descents.{takes, Passes, IsNode, IsSpent, IsExcused}
use Rattle.thread_paths.specs.helpers.Rounds.{EndsTurn}
use Rattle.thread_paths.proofs.Nodes.{spent}
use Rattle.thread_paths.proofs.Taken.{may_take}
use Rattle.thread_paths.proofs.Values.{same_place, same_instr}

module _ (code : Code) (f : ℕ) (ps rest : List ℕ) where
  keep_more : (i j slot : ℕ) → j ≤ length ps → Keep code f ps i j slot → Keep code f (ps ++ rest) i j slot
  keep_more i j slot le keep k from less e =
      let there : k < length ps = omega (arith, le, less) in
      keep k from less (ap written (same_instr code f ps rest k there) ∙ e)

  failed_more : (j k : ℕ) → j < length ps → HasFailed code f ps j k → HasFailed code f (ps ++ rest) j k
  failed_more j k less failed = record {
    read = failed.read;
    cell = failed.cell;
    expected = failed.expected;
    new = failed.new;
    is = sym (same_instr code f ps rest k (omega (arith, less, failed.after, failed.before))) ∙ failed.is;
    copy = failed.copy;
    copied = sym (same_instr code f ps rest (k + 1) (omega (arith, less, failed.after, failed.before))) ∙ failed.copied;
    branch = failed.branch;
    after = failed.after;
    before = failed.before;
    kept = keep_more (k + 2) failed.branch failed.copy (omega (arith, less, failed.before)) failed.kept;
    shown =
        let here : failed.branch < length ps = omega (arith, less, failed.before) in
        let next : failed.branch + 1 < length ps = omega (arith, less, failed.before) in
        subst (λ p. RulesOut (instr_of code f (ps ++ rest) failed.branch) (place_of code f (ps ++ rest) failed.branch) p failed.copy failed.expected)
        (same_place code f ps rest (failed.branch + 1) next)
        (subst (λ p. RulesOut (instr_of code f (ps ++ rest) failed.branch) p (place_of code f ps (failed.branch + 1)) failed.copy failed.expected)
        (same_place code f ps rest failed.branch here)
        (subst (λ (i : Instr). RulesOut i (place_of code f ps failed.branch) (place_of code f ps (failed.branch + 1)) failed.copy failed.expected)
        (same_instr code f ps rest failed.branch here) failed.shown));
  }

  module _ (live : Liveness) (i j : ℕ) (turn : IsTurn code f ps live i j) where
    pure_more : (k : ℕ) → k < j → (is_idle (instr_of code f ps k) ≡ true) ⊎ HasFailed code f ps j k
        → (is_idle (instr_of code f (ps ++ rest) k) ≡ true) ⊎ HasFailed code f (ps ++ rest) j k
    pure_more k less (inl idle) = inl (ap is_idle (sym (same_instr code f ps rest k (omega (arith, less, turn.within)))) ∙ idle)
    pure_more k less (inr failed) = inr (failed_more j k turn.within failed)

    -- a turn is one of a longer path too
    pub turn_more : IsTurn code f (ps ++ rest) live i j
    turn_more = record {
      some = turn.some;
      within = omega (arith, turn.within, length-append ps rest);
      back = sym (same_place code f ps rest i (omega (arith, turn.some, turn.within))) ∙ turn.back ∙ same_place code f ps rest j turn.within;
      pure = λ k from less. pure_more k less (turn.pure k from less);
      kept = λ slot is. keep_more i j slot (omega (arith, turn.within)) (turn.kept slot
          (subst (λ p. IsTrue (live f p slot)) (sym (same_place code f ps rest i (omega (arith, turn.some, turn.within)))) is));
    }

module _ (code : Code) (live : Liveness) (scope : Scope) (start : List Bool) (first n : ℕ) (at : At) (o : List Bool) (past : Past)
    (node : IsNode code scope start first n at o past) where
  abbrev front : List ℕ
  front = past.places.items ++ at.place ∷ []

  -- a path that passes begins with the places of the descent
  pub record Through (q : List Bool) (s : ℕ) : Type 0 where
    pub places : List ℕ
    pub along : places_from code scope.function s 0 q ≡ Ok places
    pub rest : List ℕ
    pub begins : places ≡ front ++ rest

  module _ (q : List Bool) (s : ℕ) (p : Passes n node.done node.rest at.least q s) where
    abbrev Found : Result (List ℕ) Misfit → Type 0
    Found r = places_from code scope.function (suc p.more) at.place p.later ≡ r

    along : (ps : List ℕ) → places_from code scope.function s 0 q ≡ Ok ps
        → prefixed past.places.items (places_from code scope.function (suc p.more) at.place p.later) ≡ Ok ps
    along ps is =
        let steps : n + suc p.more ≡ s = omega (arith, p.steps) in
        sym (node.along (suc p.more) p.later)
        ∙ ap (λ k. places_from code scope.function k 0 (node.done ++ p.later)) steps
        ∙ ap (places_from code scope.function s 0) (sym p.outcomes)
        ∙ is

    abbrev of_ok : Result (List ℕ) Misfit → List ℕ
    of_ok (Ok xs) = xs
    of_ok (Err e) = []

    begins_with : (ps : List ℕ) (r : Result (List ℕ) Misfit) → Found r → prefixed past.places.items r ≡ Ok ps → (rest : List ℕ) × (ps ≡ front ++ rest)
    begins_with ps (Err fault) found is = absurd cc
    begins_with ps (Ok qs) found is =
        let u = unrolled code scope.function p.more at.place p.later qs found in
        let whole : ps ≡ past.places.items ++ qs = sym (ap of_ok is) in
        (u.rest, whole ∙ ap (λ xs. past.places.items ++ xs) u.all ∙ sym (append_assoc past.places.items (at.place ∷ []) u.rest))

    pub through : takes code scope q s ≡ true → Through q s
    through may =
        let m = may_take code scope q s may in
        let b = begins_with m.places (places_from code scope.function (suc p.more) at.place p.later) refl (along m.places m.along) in
        record { places = m.places; along = m.along; rest = b.0; begins = b.1 }

  shown : EndsTurn code scope.function front live → (q : List Bool) (s : ℕ) → Through q s → HasTurn code live scope.function (record { outcomes = q; steps = s })
  shown ends q s t = record {
    places = t.places;
    along = t.along;
    first = ends.0;
    last = length front - 1;
    turn = subst (λ ps. IsTurn code scope.function ps live ends.0 (length front - 1)) (sym t.begins)
        (turn_more code scope.function front t.rest live ends.0 (length front - 1) ends.1);
  }

  -- no path goes on from the end of a turn, except those that show it
  pub at_turn : EndsTurn code scope.function front live → IsSpent code scope start first o (IsExcused code live scope Turn)
  at_turn ends = spent code scope start first n at o past node (IsExcused code live scope Turn) (λ q s may p. shown ends q s (through q s p may))
