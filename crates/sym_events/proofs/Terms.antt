-- The terms that accesses and tests name exist before them.
use Rattle.std.proofs.Common.{◌≡◌, ℕ, ◌+◌, ◌<◌, ◌≤◌, ℤ, pos, Bool, List, [], ◌∷◌, ◌++◌, length, fold}
use Rattle.std.proofs.Common.{Option, Some, None, refl, arith}
use Rattle.std.specs.Prelude.{◌&&◌, nat_lt, slice_get, unwrap_or}
use Rattle.std.specs.Bool.{IsTrue}
use Rattle.std.specs.List.{All, Contains, list_all}
use Rattle.std.specs.Option.{IfSome}
use Rattle.std.proofs.lemmas.Bool.{and_parts}
use Rattle.std.proofs.lemmas.List.Elements.{All-nil, All-head, All-weaker, All-push, All-contains}
use Rattle.order_cells.specs.int_ops.declared.arith.UnOp.TheVariants.{Neg}
use Rattle.order_cells.specs.int_ops.declared.arith.BinOp.TheVariants.{Add, Xor, Eq, And, Le}
use Rattle.order_cells.specs.tc_code.Code.{Code, instr_at, line_at}
use Rattle.order_cells.specs.int_ops.Updates.{operands_of}
use Rattle.order_cells.specs.int_ops.declared.update.Update.{Update}
use Rattle.order_cells.specs.int_ops.declared.update.Update.TheVariants as update
use Rattle.order_cells.specs.tc_code.Expr.{Expr, names_slots}
use Rattle.order_cells.specs.tc_code.declared.cell.Cell.{Cell}
use Rattle.order_cells.specs.tc_code.declared.cell.Cell.TheVariants.{Fixed, Element}
use Rattle.order_cells.specs.tc_code.Lawful.{IsLawful}
use Rattle.order_cells.specs.tc_code.Step.{ints_of}
use Rattle.order_cells.specs.tc_code.declared.instr.Instr.{Instr}
use Rattle.order_cells.specs.tc_code.declared.instr.Instr.TheVariants.{Load, Store, Inside, Branch, Assert, Nonzero, InRange, Modify}
use Rattle.order_events.specs.path_walk.Paths.{Walk, Paths}
use Rattle.order_cells.specs.sym_terms.declared.node.Node.{Node}
use Rattle.order_cells.specs.sym_terms.declared.node.Node.TheVariants.{Constant, Symbol, Unary, Binary}
use Rattle.order_cells.specs.sym_exec.Making.{Made, Grows, term_of_node, last_index, range_test, replaced_term}
use Rattle.order_cells.specs.sym_exec.Thread.{HandsOf, Doing, HasTerms, term_in, with_nodes, cell_of, update_terms, updated_term, after_instr, wanted_of, after_step, after_all, Route, route_of}
use Rattle.order_cells.specs.sym_exec.Executed.{Course, Executed, arguments_for, fails_at, thread_started, thread_done, with_thread, nothing, executed}
use Rattle.order_cells.specs.sym_exec.declared.symbolic.Access.{Access}
use Rattle.order_cells.specs.sym_exec.declared.symbolic.Test.{Test}
use Rattle.order_cells.specs.sym_exec.helpers.Threads as helpers
use Rattle.order_cells.specs.sym_exec.helpers.Threads.{cell_named, names_within}
use Rattle.order_cells.proofs.sym_exec.Grown.{grows_both, grows_made, made_within, stays_within, stay_of, expr_grows, expr_within}
use Rattle.order_cells.proofs.sym_exec.Sound.{cell_goes, operands_within, updating_goes, instr_goes, instr_named, step_goes, all_go, start_sound, start_has, arguments_sound, thread_sound, stepped_by}
use Rattle.order_cells.proofs.Stay.{access_later}
use Rattle.order_cells.specs.Terms.{CellIsOf, AccessIsOf, HaveTerms}
use Rattle.order_events.proofs.Lists.{at_in}

abbrev TestIsOf : ℕ → Test → Type 0
TestIsOf terms x = x.term < terms

-- accesses and tests whose terms are of some nodes
record AreOfTerms (nodes : List Node) (asked : List Access) (tested : List Test) : Type 0 where
  accesses : All (AccessIsOf (length nodes)) asked
  tests : All (TestIsOf (length nodes)) tested

none_of_terms : (nodes : List Node) → AreOfTerms nodes [] []
none_of_terms nodes = record { accesses = All-nil (AccessIsOf (length nodes)); tests = All-nil (TestIsOf (length nodes)) }

all_later : (nodes later : List Node) (accesses : List Access) (tests : List Test) → Grows nodes later → AreOfTerms nodes accesses tests
    → AreOfTerms later accesses tests
all_later nodes later accesses tests up are = record {
  accesses = All-weaker (AccessIsOf (length nodes)) (AccessIsOf (length later)) (access_later nodes later up) accesses are.accesses;
  tests = All-weaker (TestIsOf (length nodes)) (TestIsOf (length later)) (λ x of. stays_within nodes later x.term up of) tests are.tests;
}

one_access : (d e : Doing) (a : Access) → Grows d.nodes e.nodes → AreOfTerms d.nodes d.accesses d.tests → CellIsOf (length e.nodes) a.cell
    → IfSome a.writes (λ w. w < length e.nodes) → AreOfTerms e.nodes (d.accesses ++ a ∷ []) d.tests
one_access d e a up are cell writes =
    let were = all_later d.nodes e.nodes d.accesses d.tests up are in
    record { accesses = All-push (AccessIsOf (length e.nodes)) d.accesses a were.accesses (record { cell = cell; writes = writes }); tests = were.tests }

one_test : (d e : Doing) (x : Test) → Grows d.nodes e.nodes → AreOfTerms d.nodes d.accesses d.tests → x.term < length e.nodes
    → AreOfTerms e.nodes d.accesses (d.tests ++ x ∷ [])
one_test d e x up are within =
    let were = all_later d.nodes e.nodes d.accesses d.tests up are in
    record { accesses = were.accesses; tests = All-push (TestIsOf (length e.nodes)) d.tests x were.tests within }

-- the term that a compare-and-exchange writes exists
replaced_within : (nodes : List Node) (v e f : ℕ) → let w = replaced_term nodes v e f in w.term < length w.nodes
replaced_within nodes v e f =
    let change = term_of_node nodes (Binary Xor v f) in
    let same = term_of_node change.nodes (Binary Eq v e) in
    let mask = term_of_node same.nodes (Unary Neg same.term) in
    let masked = term_of_node mask.nodes (Binary And change.term mask.term) in
    made_within masked.nodes (Binary Xor v masked.term)

-- the term of a range test exists
range_within : (x : Made) (last : ℤ) → let w = range_test x last in w.term < length w.nodes
range_within x last =
    let zero = term_of_node x.nodes (Constant (pos 0)) in
    let low = term_of_node zero.nodes (Binary Le zero.term x.term) in
    let top = term_of_node low.nodes (Constant last) in
    let high = term_of_node top.nodes (Binary Le x.term top.term) in
    made_within high.nodes (Binary And low.term high.term)

-- the term of a cell's index exists
cell_there : (d : Doing) (c : Cell Expr) (later : List Node) → HasTerms d → IsTrue (cell_named (length d.slots) c) → Grows (cell_of d c).nodes later
    → CellIsOf (length later) (cell_of d c).cell
cell_there d (Fixed c) later s named up = tt
cell_there d (Element first len i) later s named up =
    stays_within (term_in d i).nodes later (term_in d i).term up (expr_within d.nodes d.slots i s.slots named)

-- the term that an update stores exists, where those of its operands and the loaded term do
updated_within : (nodes : List Node) (u : Update ℕ) (v : ℕ) → All (λ n. n < length nodes) (operands_of u) → let w = updated_term nodes u v in w.term < length w.nodes
updated_within nodes (update.Swap x) v of = All-head (λ n. n < length nodes) x [] of
updated_within nodes (update.Cas x y) v of = replaced_within nodes v x y
updated_within nodes (update.Add x) v of = made_within nodes (Binary Add v x)

-- an instruction adds accesses and tests whose terms exist then
instr_of_terms : (line : ℕ) (wanted : Bool) (d : Doing) (i : Instr) → HasTerms d → IsTrue (names_within (length d.slots) i)
    → AreOfTerms d.nodes d.accesses d.tests
    → AreOfTerms (after_instr line wanted d i).nodes (after_instr line wanted d i).accesses (after_instr line wanted d i).tests
instr_of_terms line wanted d (Load k c) s named are =
    let named_slots = and_parts (nat_lt k (length d.slots)) (cell_named (length d.slots) c) named in
    let e = after_instr line wanted d (Load k c) in
    one_access d e _ (instr_goes line wanted d (Load k c) s named).grows are
    (cell_there d c e.nodes s named_slots.1 (grows_made (cell_of d c).nodes (Symbol d.loads))) tt
instr_of_terms line wanted d (Store c v) s named are =
    let named_slots = and_parts (cell_named (length d.slots) c) (names_slots (length d.slots) v) named in
    let x = cell_of d c in
    let e = after_instr line wanted d (Store c v) in
    one_access d e _ (instr_goes line wanted d (Store c v) s named).grows are
    (cell_there d c e.nodes s named_slots.0 (expr_grows x.nodes d.slots v))
    (expr_within x.nodes d.slots v (cell_goes d c s).sound.slots named_slots.1)
instr_of_terms line wanted d (Modify k c u) s named are =
    let parts = and_parts (nat_lt k (length d.slots) && cell_named (length d.slots) c) (list_all (names_slots (length d.slots)) (operands_of u)) named in
    let cell = (and_parts (nat_lt k (length d.slots)) (cell_named (length d.slots) c) parts.0).1 in
    let x = cell_of d c in
    let reached = (cell_goes d c s).sound in
    let y = update_terms (with_nodes d x.nodes) u in
    let v = term_of_node y.nodes (Symbol d.loads) in
    let e = after_instr line wanted d (Modify k c u) in
    one_access d e _ (instr_goes line wanted d (Modify k c u) s named).grows are
    (cell_there d c e.nodes s cell (updating_goes (with_nodes d x.nodes) k x.cell u reached).grows)
    (updated_within v.nodes y.update v.term (stay_of y.nodes v.nodes (operands_of y.update) (grows_made y.nodes (Symbol d.loads))
    (operands_within (with_nodes d x.nodes) u reached parts.1)))
instr_of_terms line wanted d (Inside len i) s named are =
    one_test d (after_instr line wanted d (Inside len i)) _ (instr_goes line wanted d (Inside len i) s named).grows are
    (range_within (term_in d i) (last_index len))
instr_of_terms line wanted d (Branch e to) s named are =
    one_test d (after_instr line wanted d (Branch e to)) _ (instr_goes line wanted d (Branch e to) s named).grows are
    (expr_within d.nodes d.slots e s.slots named)
instr_of_terms line wanted d (Assert e) s named are =
    one_test d (after_instr line wanted d (Assert e)) _ (instr_goes line wanted d (Assert e) s named).grows are
    (expr_within d.nodes d.slots e s.slots named)
instr_of_terms line wanted d (Nonzero e) s named are =
    one_test d (after_instr line wanted d (Nonzero e)) _ (instr_goes line wanted d (Nonzero e) s named).grows are
    (expr_within d.nodes d.slots e s.slots named)
instr_of_terms line wanted d (InRange e) s named are =
    one_test d (after_instr line wanted d (InRange e)) _ (instr_goes line wanted d (InRange e) s named).grows are
    (range_within (term_in d e) (pos 31))
instr_of_terms line wanted d i s named are =
    let g = instr_goes line wanted d i s named in
    all_later d.nodes (after_instr line wanted d i).nodes d.accesses d.tests g.grows are

-- the accesses and tests of an execution name terms of its nodes
abbrev IsOfTerms : Doing → Type 0
IsOfTerms d = AreOfTerms d.nodes d.accesses d.tests

module _ (r : Route) (lawful : IsLawful r.code) where
  step_of_terms : (d : Doing) (place : ℕ) → ints_of r.code r.function ≤ length d.slots → HasTerms d → IsOfTerms d
      → IsOfTerms (after_step r d place)
  step_of_terms d place up s are = by (instr_at r.code r.function place) refl
    where
      by : (o : Option Instr) → instr_at r.code r.function place ≡ o → IsOfTerms (stepped_by r d place o)
      by None at = are
      by (Some i) at = instr_of_terms (unwrap_or (line_at r.code r.function place) 0) (wanted_of r.outcomes r.fails d i) d i s
          (instr_named r.code r.function place (length d.slots) i lawful at up) are

  all_of_terms : (places : List ℕ) (d : Doing) → ints_of r.code r.function ≤ length d.slots → HasTerms d → IsOfTerms d
      → IsOfTerms (after_all r d places)
  all_of_terms [] d up s are = are
  all_of_terms (place ∷ places) d up s are =
      let e = after_step r d place in
      let g = (step_goes r d place lawful up s).goes in
      all_of_terms places e (omega (arith, up, g.size)) g.sound (step_of_terms d place up s are)

module _ (code : Code) (lawful : IsLawful code) where
  abbrev CourseIsOf : List Node → Course → Type 0
  CourseIsOf nodes c = AreOfTerms nodes c.accesses c.tests

  -- the accesses and tests of all threads so far, and the terms handed over, name existing nodes
  record AreOf (x : Executed) : Type 0 where
    handed : helpers.HaveTerms x
    courses : All (CourseIsOf x.nodes) x.symbolic.threads

  module _ (paths : Paths) where
    thread_of_terms : (x : Executed) (w : Walk) → AreOf x → AreOf (with_thread code paths x w)
    thread_of_terms x w are =
        let arguments = arguments_for x.symbolic.threads w.name in
        let route = route_of code w (fails_at paths (length x.symbolic.threads) w) in
        let d = thread_started code x w in
        let e = thread_done code paths x w in
        let s = start_sound (ints_of code w.function) arguments x.symbolic.loads x.nodes (arguments_sound x w.name are.handed) in
        let has = start_has (ints_of code w.function) arguments x.symbolic.loads x.nodes in
        let g = all_go route d w.places lawful has s in
        let none : Node = Constant (pos 0) in
        let up : Grows x.nodes e.nodes = grows_both x.nodes d.nodes e.nodes (grows_made x.nodes none) g.grows in
        record {
          handed = thread_sound code paths x w lawful are.handed;
          courses = All-push (CourseIsOf e.nodes) x.symbolic.threads
              (record { name = w.name; tests = e.tests; accesses = e.accesses; creates = e.creates })
              (All-weaker (CourseIsOf x.nodes) (CourseIsOf e.nodes)
              (λ c of. all_later x.nodes e.nodes c.accesses c.tests up of) x.symbolic.threads are.courses)
              (all_of_terms route lawful w.places d has s (none_of_terms d.nodes));
        }

    threads_of_terms : (ws : List Walk) (x : Executed) → AreOf x → AreOf (fold (with_thread code paths) x ws)
    threads_of_terms [] x are = are
    threads_of_terms (w ∷ ws) x are = threads_of_terms ws (with_thread code paths x w) (thread_of_terms x w are)

    course_of_terms : (nodes : List Node) (t : ℕ) (c : Course) → slice_get (executed code paths nodes).symbolic.threads t ≡ Some c
        → CourseIsOf (executed code paths nodes).nodes c
    course_of_terms nodes t c at =
        let x = executed code paths nodes in
        let are = threads_of_terms paths.threads (nothing nodes) (record {
          handed = All-nil (λ (c : Course). All (HandsOf nodes) c.creates);
          courses = All-nil (CourseIsOf nodes);
        }) in
        All-contains (CourseIsOf x.nodes) x.symbolic.threads c are.courses (at_in x.symbolic.threads t c at)

    pub have_terms : (nodes : List Node) → HaveTerms (executed code paths nodes).nodes (executed code paths nodes).symbolic
    have_terms nodes t a has =
        All-contains (AccessIsOf (length (executed code paths nodes).nodes)) has.0.accesses a (course_of_terms nodes t has.0 has.1).accesses has.2

    pub have_tests : (nodes : List Node) (t : ℕ) (c : Course) (x : Test) → slice_get (executed code paths nodes).symbolic.threads t ≡ Some c
        → Contains c.tests x → x.term < length (executed code paths nodes).nodes
    have_tests nodes t c x at among =
        All-contains (TestIsOf (length (executed code paths nodes).nodes)) c.tests x (course_of_terms nodes t c at).tests among
