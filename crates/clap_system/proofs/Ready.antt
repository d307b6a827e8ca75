-- Facts on a system and its parts, for crates that turn a system into clauses.
use Rattle.std.proofs.Common.{◌≡◌, ◌∙◌, ℕ, ◌<◌, ◌==◌, pos, Bool, true, false, not, cond, ◌&&◌, List, [], ◌∷◌, ◌++◌, map, fold, length, get_or, Some, None}
use Rattle.std.proofs.Common.{Option, inl, inr, refl, ap, sym, subst, arith}
use Rattle.std.specs.Prelude.{is_none, option_and_then, slice_get}
use Rattle.std.specs.List.{All, Contains, IsDistinct, filter_map, list_any}
use Rattle.std.specs.Option.{option_map_or}
use Rattle.std.proofs.lemmas.Bool.{cases_lt}
use Rattle.std.proofs.lemmas.List.{get_or_past}
use Rattle.std.proofs.lemmas.List.Elements.{All-nil, All-cons, All-head, All-tail, All-append, All-contains, All-get_or, All-push, Contains-append_cases}
use Rattle.std.proofs.lemmas.Option.{cond_some, none-some, option_and_then_some}
use Rattle.sym_terms.specs.int_ops.Arith.{IsInt}
use Rattle.sym_terms.specs.int_ops.declared.arith.BinOp.TheVariants.{Eq}
use Rattle.sym_terms.proofs.int_ops.Ints.{truth_int}
use Rattle.tc_code.specs.Code.{Code}
use Rattle.tc_code.specs.Lawful.{IsLawful}
use Rattle.path_walk.specs.Paths.{Paths, ArePaths}
use Rattle.path_walk.specs.declared.event.Event.{Event}
use Rattle.store_buffers.specs.Pending.{Binding}
use Rattle.sym_terms.specs.Terms.{same_node, with_node}
use Rattle.sym_terms.specs.declared.node.Node.{Node}
use Rattle.sym_terms.specs.declared.node.Node.TheVariants.{Constant, Symbol, Binary}
use Rattle.sym_exec.specs.Executed.{Course, Symbolic, executed}
use Rattle.sym_exec.specs.Ints.{HasInt}
use Rattle.sym_exec.specs.declared.symbolic.Access.{Access}
use Rattle.tc_code.specs.declared.cell.Cell.{Cell}
use Rattle.tc_code.specs.declared.cell.Cell.TheVariants.{Fixed, Element}
use Rattle.sym_exec.specs.declared.symbolic.Test.{Test}
use Rattle.sym_exec.proofs.Constants.{executed_ints}
use Rattle.sym_exec.proofs.Grown.{stays_within}
use Rattle.order_formula.specs.Formulas.{BodyIsOf, ConjunctIsOf, IsOf, LiteralIsOf, ReadIsOf}
use Rattle.order_formula.specs.Orders.{ConjunctIsIn, LiteralIsIn, Order, order_without_questions, with_formula}
use Rattle.order_formula.specs.Reads.{Read}
use Rattle.order_formula.specs.declared.formula.Body.TheVariants as body
use Rattle.order_formula.specs.declared.formula.Conjunct.{Conjunct}
use Rattle.order_formula.specs.declared.literal.Literal.{Literal}
use Rattle.order_formula.proofs.Asked.{formula_asked, grows_formula}
use Rattle.order_events.specs.lawful_order.Cells.{value_at_start}
use Rattle.order_events.specs.lawful_order.Events.{Placed, all_events, all_sleeps}
use Rattle.order_events.specs.lawful_order.Whole.{AreWhole, IsExecutedBy}
use Rattle.memory_order.specs.order_cells.Same.{known_same, same_test}
use Rattle.memory_order.specs.order_cells.Terms.{HaveTerms}
use Rattle.memory_order.proofs.order_cells.Stay.{have_later}
use Rattle.order_events.proofs.Lists.{of_filter_map, of_flat_map}
use Rattle.order_events.proofs.Parts.{each_in, in_of_each, of_option}
use Rattle.order_events.proofs.Whole.{whole}
use Rattle.sym_events.proofs.Terms.{have_terms, have_tests}
use Rattle.sym_events.proofs.Whole.{is_executed}
use Rattle.memory_order.specs.Own.{cells_of, keeps, kept_test, own_formula, own_needs, thread_tests, two_tests}
use Rattle.memory_order.specs.Twos.{Two, twos}
use Rattle.memory_order.proofs.Exact.{IsOwn, Always, Tested, Failing, of_formula}
use Rattle.memory_order.proofs.Within.{formula_in, formula_of_terms}
use Rattle.sync_order.specs.Sync.{sync_formula}
use Rattle.sync_order.proofs.Whole.{is_in_order, names_no_terms}
use Rattle.read_write.specs.Accesses.{all_accesses}
use Rattle.read_write.specs.Reading.{may_be_seen, needs_of, read_formula, read_needs, test_of}
use Rattle.read_write.proofs.Differ.{reads_differ}
use Rattle.read_write.proofs.Terms.{formula_is_in, formula_is_of}
use Rattle.clap_system.specs.Ready.{IsReady}
use Rattle.clap_system.specs.Systems.{rules_of, system_by, with_needs}
use Rattle.clap_system.specs.Tests.{test_formula}
use Rattle.clap_system.proofs.Needs.{all_grows, all_needed, reads_needed}
use Rattle.clap_system.proofs.Tests.{literal_of, of_test}

-- ---- tests

one_of_one : (L : Literal → Type 0) (l : Literal) → L l → All (All L) ((l ∷ []) ∷ [])
one_of_one L l is = All-cons (All L) (l ∷ []) [] (All-cons L l [] is (All-nil L)) (All-nil (All L))

pub tests_in : (symbolic : Symbolic) (o : Order) → All (ConjunctIsIn o) (test_formula symbolic)
tests_in symbolic o = each_in (ConjunctIsIn o) (test_formula symbolic) (λ c i.
    let t = of_test symbolic c i in
    subst (ConjunctIsIn o) t.is (one_of_one (LiteralIsIn o) (literal_of t.test) tt))

-- the terms of tests exist
abbrev pub HaveTests : List Node → Symbolic → Type 0
HaveTests nodes symbolic = (t : ℕ) (c : Course) (x : Test) → slice_get symbolic.threads t ≡ Some c → Contains c.tests x → x.term < length nodes

tests_of : (symbolic : Symbolic) (nodes : List Node) → HaveTests nodes symbolic → IsOf (length nodes) (test_formula symbolic)
tests_of symbolic nodes have = each_in (ConjunctIsOf (length nodes)) (test_formula symbolic) (λ c i.
    let t = of_test symbolic c i in
    subst (ConjunctIsOf (length nodes)) t.is
    (one_of_one (LiteralIsOf (length nodes)) (literal_of t.test) (have t.thread t.course t.test t.at t.among)))

-- ---- nodes

with_ints : (nodes needs : List Node) → All HasInt nodes → All HasInt needs → All HasInt (fold with_node nodes needs)
with_ints nodes [] are more = are
with_ints nodes (n ∷ ns) are more = with_ints (with_node nodes n) ns (one (list_any (same_node n) nodes) refl) (All-tail HasInt n ns more)
  where
    one : (b : Bool) → list_any (same_node n) nodes ≡ b → All HasInt (with_node nodes n)
    one true is = rw is are
    one false is = rw is (All-push HasInt nodes n are (All-head HasInt n ns more))

-- the constants in the test of two indexes are ints
test_int : (nodes : List Node) (a b : Cell ℕ) (n : Node) → same_test nodes a b ≡ Some n → HasInt n
test_int nodes (Element f m i) (Element g k j) n is =
    subst HasInt (cond_some (is_none (known_same nodes (Element f m i) (Element g k j))) (Binary Eq i j) n is).1 tt
test_int nodes (Element f m i) (Fixed c) n is = absurd (none-some n is)
test_int nodes (Fixed c) b n is = absurd (none-some n is)

-- the terms that the order of a thread's events needs
kept_int : (buffered : Bool) (bound : Binding) (symbolic : Symbolic) (nodes : List Node) (t : ℕ) (p : Two Event) (n : Node)
    → kept_test buffered bound symbolic nodes t p ≡ Some n → HasInt n
kept_int buffered bound symbolic nodes t p n is =
    by (keeps buffered bound true p.first p.second && not (keeps buffered bound false p.first p.second)) is
  where
    by : (b : Bool) → cond b (option_and_then (λ c. same_test nodes c.0 c.1) (cells_of symbolic t p.first p.second)) None ≡ Some n → HasInt n
    by true is = option_and_then_some (λ (c : Cell ℕ × Cell ℕ). same_test nodes c.0 c.1) (cells_of symbolic t p.first p.second) n is
        (λ c at test. test_int nodes c.0 c.1 n test)
    by false is = absurd (none-some n is)

own_ints : (buffered : Bool) (bound : Binding) (paths : Paths) (symbolic : Symbolic) (nodes : List Node)
    → All HasInt (own_needs buffered bound paths symbolic nodes)
own_ints buffered bound paths symbolic nodes = each_in HasInt (own_needs buffered bound paths symbolic nodes) (λ n i.
    let o = in_of_each (thread_tests buffered bound symbolic nodes) paths.threads n i in
    let p = of_flat_map (two_tests buffered bound symbolic nodes o.place) n (twos o.element.events) o.there in
    kept_int buffered bound symbolic nodes o.place p.0 n (of_option (kept_test buffered bound symbolic nodes o.place p.0) n p.2))

-- the terms that loads need
get_or_all : {X : Type 0} (P : X → Type 0) (xs : List X) (k : ℕ) (d : X) → All P xs → P d → P (get_or xs k d)
get_or_all P xs k d all own = elim (cases_lt k (length xs)) [
  | inl within ↦ All-get_or P xs k d within all
  | inr past ↦ subst P (sym (get_or_past xs k d past)) own
]

start_int : (code : Code) → IsLawful code → (c : Cell ℕ) → IsInt (value_at_start code c)
start_int code lawful (Fixed c) = get_or_all IsInt code.memory c (pos 0) lawful.ints (truth_int false)
start_int code lawful (Element f m i) = truth_int false

test_of_int : (nodes : List Node) (load b : Placed Access) (n : Node) → test_of nodes load b ≡ Some n → HasInt n
test_of_int nodes load b n is = by (may_be_seen nodes load b) is
  where
    by : (m : Bool) → cond m (option_and_then (λ (v : ℕ). same_test nodes b.it.cell load.it.cell) b.it.writes) None ≡ Some n → HasInt n
    by true is = option_and_then_some (λ (v : ℕ). same_test nodes b.it.cell load.it.cell) b.it.writes n is
        (λ v at test. test_int nodes b.it.cell load.it.cell n test)
    by false is = absurd (none-some n is)

load_ints : (code : Code) → IsLawful code → (accesses : List (Placed Access)) (nodes : List Node) (load : Placed Access) (o : Option ℕ)
    → All HasInt (option_map_or (needs_of code accesses nodes load) o [])
load_ints code lawful accesses nodes load None = All-nil HasInt
load_ints code lawful accesses nodes load (Some number) =
    let start = Constant (value_at_start code load.it.cell) in
    let tests = filter_map (test_of nodes load) accesses in
    All-cons HasInt (Symbol number) (start ∷ tests) tt (All-cons HasInt start tests (start_int code lawful load.it.cell)
    (each_in HasInt tests (λ n i. let o = of_filter_map (test_of nodes load) n accesses i in test_of_int nodes load o.0 n o.2)))

read_ints : (code : Code) → IsLawful code → (symbolic : Symbolic) (nodes : List Node) → All HasInt (read_needs code symbolic nodes)
read_ints code lawful symbolic nodes = each_in HasInt (read_needs code symbolic nodes) (λ n i.
    let accesses = all_accesses symbolic in
    let o = of_flat_map (λ (a : Placed Access). option_map_or (needs_of code accesses nodes a) a.it.takes []) n accesses i in
    All-contains HasInt (option_map_or (needs_of code accesses nodes o.0) o.0.it.takes []) n (load_ints code lawful accesses nodes o.0 o.0.it.takes) o.2)

-- ---- the formula

module _ (buffered : Bool) (bound : Binding) (code : Code) (paths : Paths) (symbolic : Symbolic) (nodes : List Node) where
  abbrev own : List Conjunct
  own = own_formula buffered bound paths symbolic nodes

  abbrev read : List Conjunct
  read = read_formula code paths symbolic nodes

  abbrev rules : List Conjunct
  rules = rules_of buffered bound code paths symbolic nodes

  -- what holds for each part holds for the whole
  each_rule : (P : Conjunct → Type 0) → All P own → All P (sync_formula paths) → All P read → All P (test_formula symbolic) → All P rules
  each_rule P of_own of_sync of_read of_test =
      All-append P (own ++ sync_formula paths ++ read) (test_formula symbolic)
      (All-append P (own ++ sync_formula paths) read (All-append P own (sync_formula paths) of_own of_sync) of_read) of_test

  rules_in : (o : Order) → AreWhole paths → IsExecutedBy paths symbolic → o.events ≡ length (all_events paths) → o.sleeps ≡ length (all_sleeps paths)
      → All (ConjunctIsIn o) rules
  rules_in o is_whole is_done events sleeps =
      each_rule (ConjunctIsIn o) (formula_in buffered bound paths symbolic nodes o events) (is_in_order paths is_whole o events sleeps)
      (formula_is_in code paths symbolic nodes o is_done events) (tests_in symbolic o)

  rules_of_terms : HaveTerms nodes symbolic → HaveTests nodes symbolic → All (Contains nodes) (own_needs buffered bound paths symbolic nodes)
      → All (Contains nodes) (read_needs code symbolic nodes) → IsOf (length nodes) rules
  rules_of_terms have tests own_there read_there =
      each_rule (ConjunctIsOf (length nodes)) (formula_of_terms buffered bound paths symbolic nodes own_there) (names_no_terms paths (length nodes))
      (formula_is_of code paths symbolic nodes have read_there) (tests_of symbolic nodes tests)

  -- only the conjuncts of loads have a read
  no_read : (cases : List (List Literal)) (r : Read) → body.Any cases ≡ body.Read r → ⊥
  no_read cases r e = cc

  own_reads_none : (c : Conjunct) (r : Read) → IsOwn buffered bound paths symbolic nodes c → c.body ≡ body.Read r → ⊥
  own_reads_none c r (Always t q p at two next made) is = no_read _ r (ap (λ (d : Conjunct). d.body) made ∙ is)
  own_reads_none c r (Tested t q p test at two kept made) is = no_read _ r (ap (λ (d : Conjunct). d.body) made ∙ is)
  own_reads_none c r (Failing x f first second before failing made) is = no_read _ r (ap (λ (d : Conjunct). d.body) made ∙ is)

  sync_reads_none : (c : Conjunct) (r : Read) → Contains (sync_formula paths) c → c.body ≡ body.Read r → ⊥
  sync_reads_none c r i is =
      let none : ReadIsOf 0 r = subst (BodyIsOf 0) is (All-contains (ConjunctIsOf 0) (sync_formula paths) c (names_no_terms paths 0) i) in
      omega (arith, none.takes)

  tests_read_none : (c : Conjunct) (r : Read) → Contains (test_formula symbolic) c → c.body ≡ body.Read r → ⊥
  tests_read_none c r i is = no_read _ r (ap (λ (d : Conjunct). d.body) (of_test symbolic c i).is ∙ is)

  pub of_load : (c : Conjunct) (r : Read) → Contains rules c → c.body ≡ body.Read r → Contains read c
  of_load c r i is = elim (Contains-append_cases (own ++ sync_formula paths ++ read) (test_formula symbolic) c i) [
    | inr i ↦ absurd (tests_read_none c r i is)
    | inl i ↦ elim (Contains-append_cases (own ++ sync_formula paths) read c i) [
      | inr i ↦ i
      | inl i ↦ elim (Contains-append_cases own (sync_formula paths) c i) [
        | inl i ↦ absurd (own_reads_none c r (of_formula buffered bound paths symbolic nodes c i) is)
        | inr i ↦ absurd (sync_reads_none c r i is)
      ]
    ]
  ]

  rules_differ : IsExecutedBy paths symbolic → (c : Conjunct) (r : Read) → Contains rules c → c.body ≡ body.Read r
      → IsDistinct (λ e d. e == d) (r.event ∷ map (λ x. x.event) r.candidates)
  rules_differ is_done c r i is = reads_differ code paths symbolic nodes is_done c r (of_load c r i is) is

-- ---- the system of paths

module _ (buffered : Bool) (bound : Binding) (code : Code) (paths : Paths) (lawful : IsLawful code) (are : ArePaths code paths) where
  abbrev symbolic : Symbolic
  symbolic = (executed code paths []).symbolic

  abbrev first : List Node
  first = (executed code paths []).nodes

  abbrev all : List Node
  all = with_needs buffered bound code paths symbolic first

  abbrev order : Order
  order = with_formula (order_without_questions (length (all_events paths)) (length (all_sleeps paths))) (rules_of buffered bound code paths symbolic all)

  have : HaveTerms first symbolic
  have = have_terms code lawful paths []

  tests_later : HaveTests all symbolic
  tests_later t c x at among =
      stays_within first all x.term (all_grows buffered bound code paths symbolic first) (have_tests code lawful paths [] t c x at among)

  pub terms_there : IsOf (length all) (rules_of buffered bound code paths symbolic all)
  terms_there =
      rules_of_terms buffered bound code paths symbolic all
      (have_later first all symbolic (all_grows buffered bound code paths symbolic first) have) tests_later
      (all_needed buffered bound code paths symbolic first have) (reads_needed buffered bound code paths symbolic first have)

  pub is_ready : IsReady (system_by buffered bound code paths)
  is_ready =
      let is_whole : AreWhole paths = whole code paths are in
      let is_done : IsExecutedBy paths symbolic = is_executed code paths [] are in
      let rules = rules_of buffered bound code paths symbolic all in
      let grown = grows_formula (order_without_questions (length (all_events paths)) (length (all_sleeps paths))) rules in
      let own = own_needs buffered bound paths symbolic first in
      record {
        events = grown.events ∙ sym is_whole.counted;
        within = rules_in buffered bound code paths symbolic all order is_whole is_done grown.events grown.sleeps;
        asked = formula_asked (order_without_questions (length (all_events paths)) (length (all_sleeps paths))) rules;
        differ = rules_differ buffered bound code paths symbolic all is_done;
        terms = terms_there;
        ints = with_ints (fold with_node first own) (read_needs code symbolic (fold with_node first own))
            (with_ints first own (executed_ints code lawful paths [] (All-nil HasInt)) (own_ints buffered bound paths symbolic first))
            (read_ints code lawful symbolic (fold with_node first own));
      }
