-- One step of an execution, alone and beside the thread that does it.
use Rattle.std.proofs.Common.{◌≡◌, ◌∙◌, ℕ, ◌+◌, ◌≤◌, ℤ, pos, List, [], ◌∷◌, ◌++◌, length, get_or, Bool, false, cond}
use Rattle.std.proofs.Common.{Option, Some, None, refl, ap, sym, subst, arith, append-nil, append_assoc}
use Rattle.std.specs.Prelude.{unwrap_or}
use Rattle.std.specs.List.{AllByRecursion as Each, filter_map, cons_option}
use Rattle.sym_exec.specs.tc_base.States.{Local}
use Rattle.sym_exec.specs.tc_code.Code.{Code, instr_at, line_at}
use Rattle.sym_exec.specs.tc_code.declared.instr.Instr.{Instr}
use Rattle.sym_exec.specs.tc_code.declared.instr.Instr.TheVariants.{Load, Store, Inside, Branch, Create, Assert, Nonzero, InRange, Modify}
use Rattle.sym_exec.specs.tc_code.Lawful.{IsLawful}
use Rattle.sym_exec.specs.tc_code.Step.{ints_of}
use Rattle.sym_exec.specs.sym_terms.Terms.{AreTerms}
use Rattle.sym_exec.specs.Making.{Grows}
use Rattle.sym_exec.specs.Thread.{Handed, Doing, HasTerms, after_instr, wanted_of, after_step, after_all, Route}
use Rattle.sym_exec.specs.Alone.{slots_by}
use Rattle.sym_exec.specs.declared.symbolic.Access.{Access}
use Rattle.sym_exec.specs.tc_code.declared.cell.Cell.{Cell}
use Rattle.sym_exec.specs.declared.symbolic.Test.{Test}
use Rattle.sym_exec.proofs.Grown.{grows_none, grows_both}
use Rattle.sym_exec.proofs.Sound.{instr_named, step_goes, stepped_by}
use Rattle.sym_exec.proofs.Tells.{is_load, told, short_is}
use Rattle.sym_laws.proofs.Lists.{each_append, each_weaker}

-- what an instruction adds, with this wanted outcome of its test
pub record Adds (i : Instr) (wanted : Bool) (d e : Doing) : Type 0 where
  pub test : List Test
  pub tests : e.tests ≡ d.tests ++ test
  pub tested : Each (λ x. (x.step ≡ d.steps) × (x.wanted ≡ wanted)) test
  pub found : List Access
  pub accesses : e.accesses ≡ d.accesses ++ found
  pub accessed : Each (λ a. a.step ≡ d.steps) found
  -- a load takes the next symbol
  pub taken : filter_map (λ a. a.takes) found ≡ cond (is_load i) (d.loads ∷ []) []
  pub hands : List Handed
  pub creates : e.creates ≡ d.creates ++ hands

nothing_added : (i : Instr) (wanted : Bool) (d e : Doing) → is_load i ≡ false → e.tests ≡ d.tests → e.accesses ≡ d.accesses → e.creates ≡ d.creates
    → Adds i wanted d e
nothing_added i wanted d e none tests accesses creates = record {
  test = [];
  tests = tests ∙ sym (append-nil d.tests);
  tested = tt;
  found = [];
  accesses = accesses ∙ sym (append-nil d.accesses);
  accessed = tt;
  taken = sym (ap (λ b. cond b (d.loads ∷ []) []) none);
  hands = [];
  creates = creates ∙ sym (append-nil d.creates);
}

test_added : (i : Instr) (wanted : Bool) (d e : Doing) (line term : ℕ) → is_load i ≡ false
    → e.tests ≡ d.tests ++ record { step = d.steps; line = line; term = term; wanted = wanted } ∷ [] → e.accesses ≡ d.accesses → e.creates ≡ d.creates
    → Adds i wanted d e
test_added i wanted d e line term none tests accesses creates = record {
  test = record { step = d.steps; line = line; term = term; wanted = wanted } ∷ [];
  tests = tests;
  tested = ((refl, refl), tt);
  found = [];
  accesses = accesses ∙ sym (append-nil d.accesses);
  accessed = tt;
  taken = sym (ap (λ b. cond b (d.loads ∷ []) []) none);
  hands = [];
  creates = creates ∙ sym (append-nil d.creates);
}

access_added : (i : Instr) (wanted : Bool) (d e : Doing) (cell : Cell ℕ) (takes writes : Option ℕ) → cons_option takes [] ≡ cond (is_load i) (d.loads ∷ []) []
    → e.accesses ≡ d.accesses ++ record { step = d.steps; cell = cell; takes = takes; writes = writes } ∷ [] → e.tests ≡ d.tests → e.creates ≡ d.creates
    → Adds i wanted d e
access_added i wanted d e cell takes writes taken accesses tests creates = record {
  test = [];
  tests = tests ∙ sym (append-nil d.tests);
  tested = tt;
  found = record { step = d.steps; cell = cell; takes = takes; writes = writes } ∷ [];
  accesses = accesses;
  accessed = (refl, tt);
  taken = taken;
  hands = [];
  creates = creates ∙ sym (append-nil d.creates);
}

pub adds : (line : ℕ) (wanted : Bool) (d : Doing) (i : Instr) → Adds i wanted d (after_instr line wanted d i)
adds line wanted d (Load k c) = access_added (Load k c) wanted d (after_instr line wanted d (Load k c)) _ _ _ refl refl refl refl
adds line wanted d (Store c e) = access_added (Store c e) wanted d (after_instr line wanted d (Store c e)) _ _ _ refl refl refl refl
adds line wanted d (Modify k c u) = access_added (Modify k c u) wanted d (after_instr line wanted d (Modify k c u)) _ _ _ refl refl refl refl
adds line wanted d (Inside len i) = test_added (Inside len i) wanted d (after_instr line wanted d (Inside len i)) _ _ refl refl refl refl
adds line wanted d (Branch e to) = test_added (Branch e to) wanted d (after_instr line wanted d (Branch e to)) _ _ refl refl refl refl
adds line wanted d (Assert e) = test_added (Assert e) wanted d (after_instr line wanted d (Assert e)) _ _ refl refl refl refl
adds line wanted d (Nonzero e) = test_added (Nonzero e) wanted d (after_instr line wanted d (Nonzero e)) _ _ refl refl refl refl
adds line wanted d (InRange e) = test_added (InRange e) wanted d (after_instr line wanted d (InRange e)) _ _ refl refl refl refl
adds line wanted d (Create h f es) = record {
  test = [];
  tests = sym (append-nil d.tests);
  tested = tt;
  found = [];
  accesses = sym (append-nil d.accesses);
  accessed = tt;
  taken = refl;
  hands = _;
  creates = refl;
}
adds line wanted d i = nothing_added i wanted d (after_instr line wanted d i) refl refl refl refl

-- a local state with these slots
abbrev with_slots : List ℤ → Local
with_slots slots = record {
  function = 0;
  instruction = 0;
  slots = slots;
  handles = [];
  held = [];
  children = 0;
  has_exited = false;
  outcomes = [];
  steps = 0;
}

-- an execution of a thread that runs this function
pub record IsFine (code : Code) (f : ℕ) (d : Doing) : Type 0 where
  pub terms : AreTerms d.nodes
  pub sound : HasTerms d
  pub ints : ints_of code f ≤ length d.slots

-- one execution is the beginning of the other
pub record Begins (d e : Doing) : Type 0 where
  pub grows : Grows d.nodes e.nodes
  pub steps : d.steps ≤ e.steps
  pub test : List Test
  pub tests : e.tests ≡ d.tests ++ test
  pub tested : Each (λ x. d.steps ≤ x.step) test
  pub found : List Access
  pub accesses : e.accesses ≡ d.accesses ++ found
  pub accessed : Each (λ a. d.steps ≤ a.step) found
  pub hands : List Handed
  pub creates : e.creates ≡ d.creates ++ hands

begins_itself : (d : Doing) → Begins d d
begins_itself d = record {
  grows = grows_none d.nodes;
  steps = omega arith;
  test = [];
  tests = sym (append-nil d.tests);
  tested = tt;
  found = [];
  accesses = sym (append-nil d.accesses);
  accessed = tt;
  hands = [];
  creates = sym (append-nil d.creates);
}

joined : {X : Type 0} (xs ys zs more later : List X) → ys ≡ xs ++ more → zs ≡ ys ++ later → zs ≡ xs ++ (more ++ later)
joined xs ys zs more later e g = g ∙ ap (λ l. l ++ later) e ∙ append_assoc xs more later

begins_both : (d e g : Doing) → Begins d e → Begins e g → Begins d g
begins_both d e g a b = record {
  grows = grows_both d.nodes e.nodes g.nodes a.grows b.grows;
  steps = omega (arith, a.steps, b.steps);
  test = a.test ++ b.test;
  tests = joined d.tests e.tests g.tests a.test b.test a.tests b.tests;
  tested = each_append (λ x. d.steps ≤ x.step) a.test b.test a.tested
      (each_weaker (λ x. e.steps ≤ x.step) (λ x. d.steps ≤ x.step) b.test (λ x le. omega (arith, le, a.steps)) b.tested);
  found = a.found ++ b.found;
  accesses = joined d.accesses e.accesses g.accesses a.found b.found a.accesses b.accesses;
  accessed = each_append (λ x. d.steps ≤ x.step) a.found b.found a.accessed
      (each_weaker (λ x. e.steps ≤ x.step) (λ x. d.steps ≤ x.step) b.found (λ x le. omega (arith, le, a.steps)) b.accessed);
  hands = a.hands ++ b.hands;
  creates = joined d.creates e.creates g.creates a.hands b.hands a.creates b.creates;
}

-- a step keeps an execution fine and only extends it
pub record IsNext (code : Code) (f : ℕ) (d e : Doing) : Type 0 where
  pub fine : IsFine code f e
  pub begins : Begins d e

module _ (r : Route) where
  abbrev pub line_of : ℕ → ℕ
  line_of place = unwrap_or (line_at r.code r.function place) 0

  -- the effect of the instruction at the place, before the step is counted
  abbrev pub uncounted : Doing → ℕ → Instr → Doing
  uncounted d place i = after_instr (line_of place) (wanted_of r.outcomes r.fails d i) d i

  abbrev pub next : Doing → ℕ → Doing
  next d place = after_step r d place

  pub next_is : (d : Doing) (place : ℕ) (i : Instr) → instr_at r.code r.function place ≡ Some i → next d place ≡ record (uncounted d place i) { steps = d.steps + 1 }
  next_is d place i at = ap (stepped_by r d place) at

  module _ (lawful : IsLawful r.code) where
    stays : (d : Doing) (place : ℕ) → IsFine r.code r.function d → instr_at r.code r.function place ≡ None → IsNext r.code r.function d (next d place)
    stays d place fine at = subst (IsNext r.code r.function d) (sym (ap (stepped_by r d place) at)) (record { fine = fine; begins = begins_itself d })

    goes : (d : Doing) (place : ℕ) (i : Instr) → IsFine r.code r.function d → instr_at r.code r.function place ≡ Some i → IsNext r.code r.function d (next d place)
    goes d place i fine at =
        let e = uncounted d place i in
        let named = instr_named r.code r.function place (length d.slots) i lawful at fine.ints in
        let t = told [] (line_of place) (wanted_of r.outcomes r.fails d i) d i (with_slots (slots_by [] d)) (get_or [] d.loads (pos 0)) fine.terms fine.sound named
        (short_is r.code r.function place i lawful at) refl (λ is. refl) in
        let a = adds (line_of place) (wanted_of r.outcomes r.fails d i) d i in
        let s = step_goes r d place lawful fine.ints fine.sound in
        let is = next_is d place i at in
        record {
          fine = record {
            terms = subst (λ x. AreTerms x.nodes) (sym is) t.terms;
            sound = s.goes.sound;
            ints = omega (arith, fine.ints, s.goes.size);
          };
          begins = record {
            grows = s.goes.grows;
            steps = let e = ap (λ (x : Doing). x.steps) is in omega (arith, e);
            test = a.test;
            tests = ap (λ (x : Doing). x.tests) is ∙ a.tests;
            tested = each_weaker (λ x. (x.step ≡ d.steps) × (x.wanted ≡ wanted_of r.outcomes r.fails d i)) (λ x. d.steps ≤ x.step) a.test
                (λ x h. omega (arith, h.0)) a.tested;
            found = a.found;
            accesses = ap (λ (x : Doing). x.accesses) is ∙ a.accesses;
            accessed = each_weaker (λ x. x.step ≡ d.steps) (λ x. d.steps ≤ x.step) a.found (λ x h. omega (arith, h)) a.accessed;
            hands = a.hands;
            creates = ap (λ (x : Doing). x.creates) is ∙ a.creates;
          };
        }

    pub steps_on : (d : Doing) (place : ℕ) → IsFine r.code r.function d → IsNext r.code r.function d (next d place)
    steps_on d place fine = by (instr_at r.code r.function place) refl
      where
        by : (o : Option Instr) → instr_at r.code r.function place ≡ o → IsNext r.code r.function d (next d place)
        by None at = stays d place fine at
        by (Some i) at = goes d place i fine at

    -- all steps keep an execution fine and only extend it
    pub all_on : (places : List ℕ) (d : Doing) → IsFine r.code r.function d → IsNext r.code r.function d (after_all r d places)
    all_on [] d fine = record { fine = fine; begins = begins_itself d }
    all_on (place ∷ places) d fine =
        let one = steps_on d place fine in
        let rest = all_on places (next d place) one.fine in
        record { fine = rest.fine; begins = begins_both d (next d place) (after_all r (next d place) places) one.begins rest.begins }
