-- One step of a thread beside one of its execution.
use Rattle.std.proofs.Common.{◌≡◌, ◌∙◌, ℕ, ◌+◌, ℤ, pos, List, [], ◌∷◌, ◌++◌, map, length, get_or, Bool, true, false, not, cond, ◌==◌}
use Rattle.std.proofs.Common.{Option, Some, None, refl, ap, ap₂, sym, subst, arith, length-append}
use Rattle.std.specs.Prelude.{slice_index_or}
use Rattle.std.specs.List.{AllByRecursion as Each, filter_map, cons_option}
use Rattle.std.proofs.lemmas.Bool.{false≢true}
use Rattle.std.proofs.lemmas.List.{append_cancel_left, length-map}
use Rattle.std.proofs.lemmas.Option.{same_Some}
use Rattle.sym_exec.specs.tc_base.States.{Local}
use Rattle.sym_exec.specs.tc_base.declared.request.Request.{Request}
use Rattle.sym_exec.specs.tc_base.declared.request.Request.TheVariants.{Fail}
use Rattle.sym_exec.specs.int_ops.Arith.{IsInt}
use Rattle.sym_exec.specs.tc_code.Code.{instr_at}
use Rattle.sym_exec.specs.tc_code.declared.instr.Instr.{Instr}
use Rattle.sym_exec.specs.tc_code.declared.instr.Instr.TheVariants.{Inside, Branch, Create, Holds, Ready, Assert, Nonzero, InRange}
use Rattle.sym_exec.specs.tc_code.Lawful.{IsLawful}
use Rattle.sym_exec.specs.tc_code.Step.{request, site, local_after, step_by_branch, is_nonzero, value_in}
use Rattle.sym_exec.proofs.run_laws.Changes.{is_fail}
use Rattle.sym_exec.specs.run_laws.Ints.{AsksInts}
use Rattle.path_laws.specs.run_history.Locals.{after_step as thread_after}
use Rattle.sym_exec.specs.path_walk.Fits.{starts}
use Rattle.sym_exec.specs.path_walk.Steps.{is_site}
use Rattle.path_laws.proofs.Local.{children_move}
use Rattle.path_laws.proofs.States.{fail_is_site}
use Rattle.sym_exec.specs.sym_terms.declared.node.Node.{Node}
use Rattle.sym_exec.specs.Making.{Grows}
use Rattle.sym_exec.specs.Thread.{Handed, Doing, after_instr, wanted_of, Route}
use Rattle.sym_exec.specs.Alone.{slots_by, condition, given_by, values_in, asked_by, asked_in, outcome_by}
use Rattle.sym_exec.specs.declared.symbolic.Access.{Access}
use Rattle.sym_exec.specs.declared.symbolic.Test.{Test}
use Rattle.sym_exec.proofs.Grown.{grows_none}
use Rattle.sym_exec.proofs.Sound.{instr_named}
use Rattle.sym_exec.proofs.Tells.{is_load, told, hands_over, asks, short_is}
use Rattle.sym_laws.specs.Valued.{IsOneOf}
use Rattle.sym_laws.proofs.Lists.{giver, in_back, each_is}
use Rattle.sym_laws.proofs.Steps.{Adds, adds, IsFine, line_of, uncounted, next, next_is}

-- The wanted outcomes of tests.

-- the wanted outcome of a step's site, if the thread fails in the step with this number
abbrev pub site_wanted : Option ℕ → ℕ → Bool
site_wanted None k = true
site_wanted (Some m) k = not (k == m)

wanted_here : (outcomes : List Bool) (fails : Option ℕ) (d : Doing) (i : Instr) → is_site i ≡ true
    → wanted_of outcomes fails d i ≡ site_wanted fails d.steps
wanted_here outcomes None d (Branch e to) h = absurd (false≢true h)
wanted_here outcomes (Some m) d (Branch e to) h = absurd (false≢true h)
wanted_here outcomes None d i h = refl
wanted_here outcomes (Some m) d i h = refl

branch_outcomes : (t : Local) (b : Bool) (to : ℕ) → (step_by_branch t b to).outcomes ≡ t.outcomes ++ b ∷ []
branch_outcomes t true to = refl
branch_outcomes t false to = refl

next_outcome : (front : List Bool) (b : Bool) (later : List Bool) → slice_index_or ((front ++ b ∷ []) ++ later) (length front) true ≡ b
next_outcome [] b later = refl
next_outcome (x ∷ front) b later = next_outcome front b later

not_failed : (b : Bool) → b ≡ not (is_fail (site b))
not_failed true = refl
not_failed false = refl

module _ (t : Local) (outcomes : List Bool) (fails : Option ℕ) (d : Doing) (v : ℤ) (later : List Bool) (branches : d.branches ≡ length t.outcomes) where
  site_comes : (i : Instr) (b x : Bool) → is_site i ≡ true → request t i ≡ site x → not (is_fail (request t i)) ≡ site_wanted fails d.steps
      → Some x ≡ Some b → b ≡ wanted_of outcomes fails d i
  site_comes i b x is asks goes same =
      sym (same_Some x b same) ∙ not_failed x ∙ ap (λ r. not (is_fail r)) (sym asks) ∙ goes ∙ sym (wanted_here outcomes fails d i is)

  -- a test has its wanted outcome, if the thread uses these outcomes and fails where it should
  pub comes_as_wanted : (i : Instr) (b : Bool) → outcomes ≡ (thread_after t i (request t i) v).outcomes ++ later
      → not (is_fail (request t i)) ≡ site_wanted fails d.steps → condition t i ≡ Some b → b ≡ wanted_of outcomes fails d i
  comes_as_wanted (Branch e to) b goes passes is =
      let x = is_nonzero (value_in t e) in
      sym (same_Some x b is)
      ∙ sym (next_outcome t.outcomes x later)
      ∙ ap₂ (λ os k. slice_index_or (os ++ later) k true) (sym (branch_outcomes t x to)) (sym branches)
      ∙ ap (λ os. slice_index_or os d.branches true) (sym goes)
  comes_as_wanted (Inside len i) b goes passes is = site_comes (Inside len i) b _ refl refl passes is
  comes_as_wanted (Assert e) b goes passes is = site_comes (Assert e) b _ refl refl passes is
  comes_as_wanted (Nonzero e) b goes passes is = site_comes (Nonzero e) b _ refl refl passes is
  comes_as_wanted (InRange e) b goes passes is = site_comes (InRange e) b _ refl refl passes is
  comes_as_wanted i b goes passes is = absurd cc

-- tests that come out this way have their wanted outcomes
as_wanted : (f : Test → Bool) (wanted : Bool) (k : ℕ) (o : Option Bool) (test : List Test) → map f test ≡ cons_option o []
    → ((b : Bool) → o ≡ Some b → b ≡ wanted) → Each (λ x. (x.step ≡ k) × (x.wanted ≡ wanted)) test → Each (λ x. f x ≡ x.wanted) test
as_wanted f wanted k None [] is passes each = tt
as_wanted f wanted k None (x ∷ xs) is passes each = absurd cc
as_wanted f wanted k (Some b) [] is passes each = absurd cc
as_wanted f wanted k (Some b) (x ∷ []) is passes each = let e : f x ≡ b = cc in (e ∙ passes b refl ∙ sym each.0.1, tt)
as_wanted f wanted k (Some b) (x ∷ y ∷ xs) is passes each = absurd cc

-- A thread after a step that may fail.

pub record IsAfter (u w : Local) : Type 0 where
  pub slots : u.slots ≡ w.slots
  pub outcomes : u.outcomes ≡ w.outcomes
  pub children : u.children ≡ w.children

at_site : (t : Local) (i : Instr) (v w : ℤ) → is_site i ≡ true → IsAfter (thread_after t i Fail v) (local_after t i w)
at_site t (Inside len i) v w h = record { slots = refl; outcomes = refl; children = refl }
at_site t (Holds m) v w h = record { slots = refl; outcomes = refl; children = refl }
at_site t (Ready k) v w h = record { slots = refl; outcomes = refl; children = refl }
at_site t (Assert e) v w h = record { slots = refl; outcomes = refl; children = refl }
at_site t (Nonzero e) v w h = record { slots = refl; outcomes = refl; children = refl }
at_site t (InRange e) v w h = record { slots = refl; outcomes = refl; children = refl }
at_site t i v w h = absurd (false≢true h)

pub is_after : (t : Local) (i : Instr) (v : ℤ) (r : Request) → request t i ≡ r → IsAfter (thread_after t i r v) (local_after t i v)
is_after t i v Fail asks = at_site t i v v (fail_is_site t i asks)
is_after t i v r asks = record { slots = refl; outcomes = refl; children = refl }

abbrev is_branch : Instr → Bool
is_branch (Branch e to) = true
is_branch _ = false

none_more : (k : ℕ) → k ≡ k + 0
none_more k = omega arith

branches_after : (line : ℕ) (wanted : Bool) (d : Doing) (i : Instr) → (after_instr line wanted d i).branches ≡ d.branches + cond (is_branch i) 1 0
branches_after line wanted d (Branch e to) = refl
branches_after line wanted d i = none_more d.branches

outcomes_after : (t : Local) (i : Instr) (v : ℤ) → length (local_after t i v).outcomes ≡ length t.outcomes + cond (is_branch i) 1 0
outcomes_after t (Branch e to) v =
    ap length (branch_outcomes t (is_nonzero (value_in t e)) to) ∙ length-append t.outcomes (is_nonzero (value_in t e) ∷ [])
outcomes_after t i v = none_more (length t.outcomes)

given_long : (t : Local) (i : Instr) → length (given_by t i) ≡ length (cons_option (starts i) [])
given_long t (Create h f es) = refl
given_long t i = refl

module _ (r : Route) (loads : List ℤ) where
  -- the effect of a thread's step on its execution
  pub record IsDone (d e : Doing) (t u : Local) (i : Instr) (v : ℤ) : Type 0 where
    pub slots : u.slots ≡ slots_by loads e
    pub steps : e.steps ≡ d.steps + 1
    pub branches : e.branches ≡ length u.outcomes
    pub children : length e.creates ≡ u.children
    pub test : List Test
    pub tests : e.tests ≡ d.tests ++ test
    pub comes : (later : List Node) → Grows e.nodes later → Each (λ x. outcome_by later loads x ≡ x.wanted) test
    pub found : List Access
    pub accesses : e.accesses ≡ d.accesses ++ found
    pub accessed : Each (λ a. a.step ≡ d.steps) found
    pub asked : (later : List Node) → Grows e.nodes later → map (asked_in later loads) found ≡ asked_by v (request t i)
    pub hands : List Handed
    pub creates : e.creates ≡ d.creates ++ hands
    pub given : (later : List Node) → Grows e.nodes later → map (values_in later loads) hands ≡ given_by t i

  -- an access that takes a symbol, among those of a step that loads
  pub record Loads (d e : Doing) : Type 0 where
    pub access : Access
    pub within : IsOneOf access e.accesses
    pub step : access.step ≡ d.steps
    pub takes : access.takes ≡ Some d.loads

  module _ (lawful : IsLawful r.code) (d : Doing) (t : Local) (i : Instr) (place : ℕ) (fine : IsFine r.code r.function d)
      (at : instr_at r.code r.function place ≡ Some i) where
    abbrev e : Doing
    e = next r d place

    abbrev step_adds : Adds i (wanted_of r.outcomes r.fails d i) d (uncounted r d place i)
    step_adds = adds (line_of r place) (wanted_of r.outcomes r.fails d i) d i

    pub loads_by : is_load i ≡ true → Loads d e
    loads_by is =
        let a = step_adds in
        let one : filter_map (λ (x : Access). x.takes) a.found ≡ d.loads ∷ [] = a.taken ∙ ap (λ b. cond b (d.loads ∷ []) []) is in
        let g = giver (λ (x : Access). x.takes) a.found d.loads one in
        record {
          access = g.0;
          within = subst (IsOneOf g.0) (sym (ap (λ (x : Doing). x.accesses) (next_is r d place i at) ∙ a.accesses))
              (in_back g.0 d.accesses a.found g.1);
          step = each_is (λ (x : Access). x.step ≡ d.steps) g.0 a.found a.accessed g.1;
          takes = g.2;
        }

    -- the step, if the thread uses these outcomes and fails where it should
    module _ (v : ℤ) (ahead : List Bool) (slots : t.slots ≡ slots_by loads d) (branches : d.branches ≡ length t.outcomes)
        (children : length d.creates ≡ t.children) (takes : is_load i ≡ true → get_or loads d.loads (pos 0) ≡ v)
        (goes : r.outcomes ≡ (thread_after t i (request t i) v).outcomes ++ ahead) (passes : not (is_fail (request t i)) ≡ site_wanted r.fails d.steps)
        (took : IsInt v) (asked : AsksInts (request t i)) where
      pub is_done : IsDone d e t (thread_after t i (request t i) v) i v
      is_done =
          let line = line_of r place in
          let wanted = wanted_of r.outcomes r.fails d i in
          let x = uncounted r d place i in
          let is = next_is r d place i at in
          let named = instr_named r.code r.function place (length d.slots) i lawful at fine.ints in
          let k = told loads line wanted d i t v fine.terms fine.sound named (short_is r.code r.function place i lawful at) slots takes in
          let a = step_adds in
          let q = asks loads line wanted d i t v fine.terms fine.sound named slots takes took asked in
          let h = hands_over loads line wanted d i t fine.terms fine.sound named slots in
          let s = is_after t i v (request t i) refl in
          let same_test : k.test ≡ a.test = append_cancel_left d.tests k.test a.test (sym k.tests ∙ a.tests) in
          let same_found : q.found ≡ a.found = append_cancel_left d.accesses q.found a.found (sym q.accesses ∙ a.accesses) in
          let hands : length h.hands ≡ length (cons_option (starts i) []) =
          sym (length-map h.hands (values_in x.nodes loads)) ∙ ap length (h.given x.nodes (grows_none x.nodes)) ∙ given_long t i in
          let up = λ (later : List Node) (g : Grows e.nodes later). subst (λ (y : Doing). Grows y.nodes later) is g in
          record {
            slots = s.slots ∙ k.slots ∙ sym (ap (slots_by loads) is);
            steps = ap (λ (y : Doing). y.steps) is;
            branches = ap (λ (y : Doing). y.branches) is ∙ branches_after line wanted d i ∙ ap (λ n. n + cond (is_branch i) 1 0) branches
                ∙ sym (outcomes_after t i v) ∙ ap length (sym s.outcomes);
            children = ap (λ (y : Doing). length y.creates) is ∙ ap length h.creates ∙ length-append d.creates h.hands
                ∙ ap₂ (λ m n. m + n) children hands
                ∙ sym (children_move t i v) ∙ sym s.children;
            test = a.test;
            tests = ap (λ (y : Doing). y.tests) is ∙ a.tests;
            comes = λ later g. as_wanted (outcome_by later loads) wanted d.steps (condition t i) a.test
                (ap (map (outcome_by later loads)) (sym same_test) ∙ k.comes later (up later g))
                (λ b c. comes_as_wanted t r.outcomes r.fails d v ahead branches i b goes passes c) a.tested;
            found = a.found;
            accesses = ap (λ (y : Doing). y.accesses) is ∙ a.accesses;
            accessed = a.accessed;
            asked = λ later g. ap (map (asked_in later loads)) (sym same_found) ∙ q.asked later (up later g);
            hands = h.hands;
            creates = ap (λ (y : Doing). y.creates) is ∙ h.creates;
            given = λ later g. h.given later (up later g);
          }
