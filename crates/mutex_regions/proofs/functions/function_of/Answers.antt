use Rattle.std.proofs.Common.{◌≡◌, ◌∙◌, ℕ, ◌+◌, ◌<◌, Bool, true, false, cond, List, [], ◌∷◌, ◌++◌, append-nil, length, get_or, take, ap, sym}
use Rattle.std.specs.Prelude.{filter, fold}
use Rattle.std.proofs.lemmas.List.Elements.{filter_more}
use Rattle.std.proofs.lemmas.List.Sums.{fold_push}
use Rattle.mutex_regions.specs.Functions.{Doing, at_begin, is_used, with_access}
use Rattle.mutex_regions.proofs.functions.function_of.Goals as goal
use Rattle.mutex_regions.proofs.functions.function_of.Goals.{then-is_used+in_ok-follow, else-is_used}

module _ {X Y : Type 0} (f : Y → X → Y) (p : X → Bool) (a : Y) (xs : List X) (k : ℕ) (x : X) (within : k < length xs) (is : x ≡ get_or xs k x)
    (before : Y) (so : before ≡ fold f a (filter p (take k xs))) where
  one_more : (b : Bool) → p x ≡ b → filter p (take (k + 1) xs) ≡ filter p (take k xs) ++ cond b (x ∷ []) []
  one_more b test =
      filter_more p xs k x within ∙ ap (λ y. filter p (take k xs) ++ cond (p y) (y ∷ []) []) (sym is)
      ∙ ap (λ c. filter p (take k xs) ++ cond c (x ∷ []) []) test

  taken : (after : Y) → p x ≡ true → after ≡ f before x → after ≡ fold f a (filter p (take (k + 1) xs))
  taken after test step =
      step ∙ ap (λ y. f y x) so ∙ sym (fold_push f a (filter p (take k xs)) x) ∙ ap (fold f a) (sym (one_more true test))

  passed : (after : Y) → p x ≡ false → after ≡ before → after ≡ fold f a (filter p (take (k + 1) xs))
  passed after test same =
      same ∙ so ∙ ap (fold f a) (sym (append-nil (filter p (take k xs))) ∙ sym (one_more false test))

pub loop-access-preserved : goal.loop-access-preserved
loop-access-preserved c =
    let nodes = c.args.terms.now in
    let vs = c.args.variables.now in
    let test = is_used vs c.args.region.now in
    let begin = at_begin vs in
    let x = c.access-item.result in
    let k = c.loop-access.access-index in
    elim c.if-is_used.branch [
      | then-is_used+in_ok-follow w ↦
          taken (with_access nodes) test begin c.args.accesses.now k x c.loop-access-test.true c.access-item.is c.loop-access.doing c.loop-access.invariant
          c.if-is_used.doing (sym c.is_used.ensures ∙ w.if-is_used.true) (w.doing-is ∙ w.in_ok-follow.ensures)
      | else-is_used w ↦
          passed (with_access nodes) test begin c.args.accesses.now k x c.loop-access-test.true c.access-item.is c.loop-access.doing c.loop-access.invariant
          c.if-is_used.doing (sym c.is_used.ensures ∙ w.if-is_used.false) w.doing-is
    ]
