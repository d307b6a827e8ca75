-- One step of a thread, and of its path.
use Rattle.std.proofs.Common.{◌≡◌, ◌∙◌, ℕ, zero, suc, ◌+◌, ℤ, ◌||◌, ◌&&◌, Bool, true, false, ◌==◌, List, [], ◌∷◌, ◌++◌, length}
use Rattle.std.proofs.Common.{Some, Result, Ok, refl, sym, ap, ap₂, subst, arith, append-nil, slice_set, slice_index_or}
use Rattle.std.specs.Prelude.{unwrap_or}
use Rattle.std.specs.List.{list_any, cons_option}
use Rattle.std.proofs.Math.Bool.{and-true, and-false, or-false}
use Rattle.std.proofs.lemmas.Bool.{eqb-true}
use Rattle.std.proofs.lemmas.List.{map-append, length-append}
use Rattle.std.proofs.lemmas.Option.{none-some, same_Some}
use Rattle.path_walk.specs.tc_base.States.{Local}
use Rattle.path_walk.specs.tc_base.declared.handle.Handle.TheVariants.{Unset, Child, Joined}
use Rattle.path_walk.specs.tc_code.Code.{Code, instr_at}
use Rattle.path_walk.specs.tc_code.declared.instr.Instr.{Instr}
use Rattle.path_walk.specs.tc_code.declared.instr.Instr.TheVariants.{Branch, Goto, Lock, Unlock, Sleep, Wake}
use Rattle.path_walk.specs.tc_code.declared.instr.Instr.TheVariants.{Create, Join, Exit}
use Rattle.path_walk.specs.tc_code.Step.{child_number, step_by_branch, local_after, is_nonzero, value_in}
use Rattle.path_walk.specs.Steps.{Step, Onward, onward, places_from, end_from, step_at, steps_at}
use Rattle.path_walk.specs.Steps as path
use Rattle.path_walk.specs.Fits.{starts, started}
use Rattle.path_walk.specs.Marks.{Marks, Marked, marks_at_start, marks_after_instr, marks_after, marked_from, marked_steps}
use Rattle.path_walk.specs.Events.{excludes, is_impossible}
use Rattle.path_walk.proofs.Places.{unrolled, step_more, end_more}
use Rattle.run_follows.proofs.run_history.Lists.{filter_map-push}
use Rattle.path_walk.specs.declared.fault.Misfit.{Misfit}
use Rattle.path_laws.specs.Along.{HasMarks, IsAlong}

-- an instruction leads to the same place with more outcomes left
branched_more : (next to : ℕ) (os more : List Bool) (on : Onward) → path.branched next to os ≡ Some on
    → path.branched next to (os ++ more) ≡ Some (record { place = on.place; outcomes = on.outcomes ++ more })
branched_more next to [] more on h = absurd (none-some on h)
branched_more next to (true ∷ os) more on h =
    ap (λ (o : Onward). Some (record { place = o.place; outcomes = o.outcomes ++ more })) (same_Some (record { place = next; outcomes = os }) on h)
branched_more next to (false ∷ os) more on h =
    ap (λ (o : Onward). Some (record { place = o.place; outcomes = o.outcomes ++ more })) (same_Some (record { place = to; outcomes = os }) on h)

pub onward_more : (k : ℕ) (i : Instr) (os more : List Bool) (on : Onward) → onward k i os ≡ Some on
    → onward k i (os ++ more) ≡ Some (record { place = on.place; outcomes = on.outcomes ++ more })
onward_more k (Branch e to) os more on h = branched_more (k + 1) to os more on h
onward_more k (Goto to) os more on h =
    ap (λ (o : Onward). Some (record { place = o.place; outcomes = o.outcomes ++ more })) (same_Some (record { place = to; outcomes = os }) on h)
onward_more k _ os more on h =
    ap (λ (o : Onward). Some (record { place = o.place; outcomes = o.outcomes ++ more })) (same_Some (record { place = k + 1; outcomes = os }) on h)

abbrev the_nats : List ℕ → List ℕ
the_nats ns = ns

abbrev the_marked : List Marked → List Marked
the_marked ms = ms

abbrev the_step : Step → Step
the_step s = s

module _ (code : Code) (f : ℕ) where
  -- a path of one step and more
  end_next : (n k : ℕ) (os : List Bool) (i : Instr) (on : Onward) → instr_at code f k ≡ Some i → onward k i os ≡ Some on
      → end_from code f (suc n) k os ≡ end_from code f n on.place on.outcomes
  end_next n k os i on at leads = let same : suc n ≡ n + 1 = omega arith in end_more code f (suc n) n k os i on same at leads

  places_more : (n k : ℕ) (os : List Bool) (i : Instr) (on : Onward) → instr_at code f k ≡ Some i → onward k i os ≡ Some on
      → places_from code f (suc n) k os ≡ path.with_place k (places_from code f n on.place on.outcomes)
  places_more n k os i on at leads = let same : suc n ≡ n + 1 = omega arith in step_more code f (suc n) n k os i on same at leads

  abbrev the_ok : List ℕ → Result (List ℕ) Misfit
  the_ok ps = Ok ps

  -- a path, and one step more
  pub record OneMore (n k : ℕ) (os : List Bool) (ps : List ℕ) (to : ℕ) : Type 0 where
    pub places : places_from code f n k os ≡ Ok ps
    pub end : end_from code f n k os ≡ to

  pub one_more : (n k : ℕ) (os more : List Bool) (ps : List ℕ) (e : ℕ) (i : Instr) (to : ℕ) → places_from code f n k os ≡ Ok ps → end_from code f n k os ≡ e
      → instr_at code f e ≡ Some i → onward e i more ≡ Some (record { place = to; outcomes = [] }) → OneMore (suc n) k (os ++ more) (ps ++ e ∷ []) to
  one_more zero k [] more ps e i to told end at leads =
      let none : [] ≡ ps = cc in
      let at' : instr_at code f k ≡ Some i = ap (instr_at code f) end ∙ at in
      let leads' : onward k i more ≡ Some (record { place = to; outcomes = [] }) = ap (λ x. onward x i more) end ∙ leads in
      record {
        places = places_more zero k more i _ at' leads' ∙ ap the_ok (ap₂ (λ x xs. xs ++ x ∷ []) end none);
        end = end_next zero k more i _ at' leads';
      }
  one_more zero k (o ∷ os) more ps e i to told end at leads = absurd cc
  one_more (suc n) k os more ps e i to told end at leads =
      let u = unrolled code f n k os ps told in
      let rest = one_more n u.next.place u.next.outcomes more u.rest e i to u.told (sym (end_next n k os u.instr u.next u.at u.leads) ∙ end) at leads in
      let on = onward_more k u.instr os more u.next u.leads in
      record {
        places =
            places_more (suc n) k (os ++ more) u.instr _ u.at on
            ∙ ap (path.with_place k) rest.places
            ∙ ap (λ xs. the_ok (xs ++ e ∷ [])) (sym u.all);
        end = end_next (suc n) k (os ++ more) u.instr _ u.at on ∙ rest.end;
      }

-- The effect of an instruction that doesn't fail on the path.

pub record Moves (t u : Local) (i : Instr) : Type 0 where
  pub more : List Bool
  pub outcomes : u.outcomes ≡ t.outcomes ++ more
  pub leads : onward t.instruction i more ≡ Some (record { place = u.instruction; outcomes = [] })
  pub steps : u.steps ≡ t.steps + 1
  pub function : u.function ≡ t.function

branch_moves : (t : Local) (e : _) (b : Bool) (to : ℕ) → Moves t (step_by_branch t b to) (Branch e to)
branch_moves t e true to = record { more = true ∷ []; outcomes = refl; leads = refl; steps = refl; function = refl }
branch_moves t e false to = record { more = false ∷ []; outcomes = refl; leads = refl; steps = refl; function = refl }

pub moves : (t : Local) (i : Instr) (v : ℤ) → Moves t (local_after t i v) i
moves t (Branch e to) v = branch_moves t e (is_nonzero (value_in t e)) to
moves t (Goto to) v = record { more = []; outcomes = sym (append-nil t.outcomes); leads = refl; steps = refl; function = refl }
moves t _ v = record { more = []; outcomes = sym (append-nil t.outcomes); leads = refl; steps = refl; function = refl }

branch_marks : (t : Local) (m : Marks) (b : Bool) (to : ℕ) → HasMarks t m → HasMarks (step_by_branch t b to) m
branch_marks t m true to h = record { held = h.held; handles = h.handles; children = h.children }
branch_marks t m false to h = record { held = h.held; handles = h.handles; children = h.children }

pub marks_move : (t : Local) (m : Marks) (i : Instr) (v : ℤ) → HasMarks t m → HasMarks (local_after t i v) (marks_after_instr m i)
marks_move t m (Branch e to) v h = branch_marks t m (is_nonzero (value_in t e)) to h
marks_move t m (Lock k) v h = record { held = ap (λ xs. slice_set xs k true) h.held; handles = h.handles; children = h.children }
marks_move t m (Unlock k) v h = record { held = ap (λ xs. slice_set xs k false) h.held; handles = h.handles; children = h.children }
marks_move t m (Sleep c k) v h = record { held = ap (λ xs. slice_set xs k false) h.held; handles = h.handles; children = h.children }
marks_move t m (Wake c k) v h = record { held = ap (λ xs. slice_set xs k true) h.held; handles = h.handles; children = h.children }
marks_move t m (Create k f es) v h = record {
  held = h.held;
  handles = ap₂ (λ xs n. slice_set xs k (Child (n + 1))) h.handles h.children;
  children = ap (λ n. n + 1) h.children;
}
marks_move t m (Join k) v h = record {
  held = h.held;
  handles = ap (λ xs. slice_set xs k (Joined (child_number (slice_index_or xs k Unset)))) h.handles;
  children = h.children;
}
marks_move t m _ v h = record { held = h.held; handles = h.handles; children = h.children }

-- Children.

branch_children : (t : Local) (b : Bool) (to : ℕ) → (step_by_branch t b to).children ≡ t.children
branch_children t true to = refl
branch_children t false to = refl

more_none : (k : ℕ) → k ≡ k + length (the_nats [])
more_none k = omega arith

pub children_move : (t : Local) (i : Instr) (v : ℤ) → (local_after t i v).children ≡ t.children + length (cons_option (starts i) [])
children_move t (Branch e to) v = branch_children t (is_nonzero (value_in t e)) to ∙ more_none t.children
children_move t (Create k f es) v = refl
children_move t _ v = more_none t.children

-- Steps that no run can do.

pub marks-append : (m : Marks) (ss rest : List Step) → marks_after m (ss ++ rest) ≡ marks_after (marks_after m ss) rest
marks-append m [] rest = refl
marks-append m (s ∷ ss) rest = marks-append (marks_after_instr m s.instr) ss rest

more_than_none : (xs : List Step) (s : Step) → (length (xs ++ s ∷ []) == 0) ≡ false
more_than_none xs s = by (length (xs ++ s ∷ []) == 0) refl
  where
    by : (b : Bool) → (length (xs ++ s ∷ []) == 0) ≡ b → b ≡ false
    by true e = absurd (omega (arith, eqb-true (length (xs ++ s ∷ [])) 0 e, length-append xs (s ∷ [])))
    by false e = refl

-- the marked steps, with one more, which fails or doesn't
pub marked_push : (fails : Bool) (k : ℕ) (m : Marks) (ss : List Step) (s : Step)
    → marked_from fails k m (ss ++ s ∷ [])
    ≡ marked_from false k m ss ++ record { number = k + length ss; step = s; fails = fails; marks = marks_after m ss } ∷ []
marked_push fails k m [] s =
    let number : k ≡ k + 0 = omega arith in
    ap₂ (λ n b. the_marked (record { number = n; step = s; fails = b; marks = m } ∷ [])) number (and-true fails)
marked_push fails k m (x ∷ ss) s =
    let number : (k + 1) + length ss ≡ k + suc (length ss) = omega arith in
    ap₂ (λ b rest. the_marked (record { number = k; step = x; fails = b; marks = m } ∷ rest))
    (ap (λ b. fails && b) (more_than_none ss s) ∙ and-false fails)
    (marked_push fails (k + 1) (marks_after_instr m x.instr) ss s
    ∙ ap (λ n. the_marked (marked_from false (k + 1) (marks_after_instr m x.instr) ss
    ++ record { number = n; step = s; fails = fails; marks = marks_after (marks_after_instr m x.instr) ss } ∷ [])) number)

pub any_push : {X : Type 0} (p : X → Bool) (xs : List X) (x : X) → list_any p xs ≡ false → p x ≡ false → list_any p (xs ++ x ∷ []) ≡ false
any_push p [] x h q = or-false (p x) ∙ q
any_push p (y ∷ xs) x h q = by (p y) h (λ g. any_push p xs x g q)
  where
    by : (b : Bool) → (b || list_any p xs) ≡ false → (list_any p xs ≡ false → list_any p (xs ++ x ∷ []) ≡ false) → (b || list_any p (xs ++ x ∷ [])) ≡ false
    by true h rest = h
    by false h rest = rest h

-- The path of a thread, with the step that it does.

module _ (code : Code) (t u : Local) (i : Instr) (ps : List ℕ) (along : IsAlong code t ps) (at : instr_at code t.function t.instruction ≡ Some i) where
  abbrev pub now : Step
  now = record { place = t.instruction; instr = i }

  step_is : step_at code t.function t.instruction ≡ now
  step_is = ap (λ o. the_step (record { place = t.instruction; instr = unwrap_or o Exit })) at

  pub steps_push : steps_at code t.function (ps ++ t.instruction ∷ []) ≡ steps_at code t.function ps ++ now ∷ []
  steps_push = map-append (step_at code t.function) ps (t.instruction ∷ []) ∙ ap (λ s. steps_at code t.function ps ++ s ∷ []) step_is

  pub started_push : started (steps_at code t.function (ps ++ t.instruction ∷ [])) ≡ started (steps_at code t.function ps) ++ cons_option (starts i) []
  started_push = ap started steps_push ∙ filter_map-push (λ (s : Step). starts s.instr) (steps_at code t.function ps) now

  -- the marks before the step
  abbrev pub marks_here : Marks
  marks_here = marks_after (marks_at_start code t.function) (steps_at code t.function ps)

  -- if a run may do the step, the path still has no step that no run can do
  pub still_possible : (fails : Bool) → excludes marks_here i fails ≡ false
      → list_any is_impossible (marked_steps code t.function fails (steps_at code t.function (ps ++ t.instruction ∷ []))) ≡ false
  still_possible fails may =
      ap (λ ss. list_any is_impossible (marked_steps code t.function fails ss)) steps_push
      ∙ ap (list_any is_impossible) (marked_push fails 0 (marks_at_start code t.function) (steps_at code t.function ps) now)
      ∙ any_push is_impossible (marked_from false 0 (marks_at_start code t.function) (steps_at code t.function ps)) _ along.possible may

  -- a thread that went on is where its path leads
  pub goes_along : Moves t u i → HasMarks u (marks_after_instr marks_here i) → u.children ≡ t.children + length (cons_option (starts i) [])
      → excludes marks_here i false ≡ false → IsAlong code u (ps ++ t.instruction ∷ [])
  goes_along m marks children may =
      let more = one_more code t.function t.steps 0 t.outcomes m.more ps t.instruction i u.instruction along.told along.end at m.leads in
      let steps : u.steps ≡ suc t.steps = m.steps ∙ omega arith in
      record {
        told =
            ap₂ (λ f n. places_from code f n 0 u.outcomes) m.function steps
            ∙ ap (places_from code t.function (suc t.steps) 0) m.outcomes
            ∙ more.places;
        end =
            ap₂ (λ f n. end_from code f n 0 u.outcomes) m.function steps
            ∙ ap (end_from code t.function (suc t.steps) 0) m.outcomes
            ∙ more.end;
        marks =
            subst (λ f. HasMarks u (marks_after (marks_at_start code f) (steps_at code f (ps ++ t.instruction ∷ [])))) (sym m.function)
            (subst (HasMarks u)
            (sym (ap (marks_after (marks_at_start code t.function)) steps_push ∙ marks-append (marks_at_start code t.function) (steps_at code t.function ps) (now ∷ [])))
            marks);
        children =
            ap (λ f. length (started (steps_at code f (ps ++ t.instruction ∷ [])))) m.function
            ∙ ap length started_push
            ∙ length-append (started (steps_at code t.function ps)) (cons_option (starts i) [])
            ∙ ap (λ n. n + length (cons_option (starts i) [])) along.children
            ∙ sym children;
        possible =
            ap (λ f. list_any is_impossible (marked_steps code f false (steps_at code f (ps ++ t.instruction ∷ [])))) m.function
            ∙ still_possible false may;
      }
