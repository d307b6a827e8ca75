-- The parts of a system, made one after another, are those of the system.
use Rattle.std.proofs.Common.{◌≡◌, ◌∙◌, Bool, List, ◌++◌, fold, sym, ap, ap₂}
use Rattle.std.specs.Prelude.{Result, Ok, Err, IfOk}
use Rattle.std.proofs.lemmas.List.Sums.{fold-append}
use Rattle.tc_code.specs.Code.{Code}
use Rattle.path_walk.specs.Paths.{Paths}
use Rattle.store_buffers.specs.Pending.{Binding}
use Rattle.sym_terms.specs.Terms.{with_node}
use Rattle.sym_terms.specs.declared.node.Node.{Node}
use Rattle.sym_exec.specs.Executed.{Symbolic}
use Rattle.order_formula.specs.Orders.{Order, with_conjunct, with_formula}
use Rattle.order_formula.specs.declared.formula.Conjunct.{Conjunct}
use Rattle.memory_order.specs.order_cells.Terms.{HaveTerms}
use Rattle.memory_order.specs.Own.{own_formula, own_needs}
use Rattle.sync_order.specs.Sync.{sync_formula}
use Rattle.read_write.specs.Reading.{read_formula, read_needs}
use Rattle.clap_system.specs.Systems.{rules_of, with_needs}
use Rattle.clap_system.specs.Tests.{test_formula}
use Rattle.clap_system.proofs.Needs.{own_stays}

-- a weaker clause of a result
pub ok_weaker : {T E : Type 0} (r : Result T E) (P Q : T → Type 0) → IfOk r P → ((x : T) → P x → Q x) → IfOk r Q
ok_weaker (Ok x) P Q is weaker = weaker x is
ok_weaker (Err e) P Q is weaker = tt

-- an order is asked the questions of four formulas, one after another
asked_all : (o : Order) (own sync read tests : List Conjunct)
    → with_formula (with_formula (with_formula (with_formula o own) sync) read) tests ≡ with_formula o (own ++ sync ++ read ++ tests)
asked_all o own sync read tests =
    sym (fold-append with_conjunct o (own ++ sync ++ read) tests
    ∙ ap (λ p. with_formula p tests) (fold-append with_conjunct o (own ++ sync) read
    ∙ ap (λ p. with_formula p read) (fold-append with_conjunct o own sync)))

module _ (buffered : Bool) (bound : Binding) (code : Code) (paths : Paths) (symbolic : Symbolic) (first second nodes : List Node) where
  -- the nodes after those that the order needs, and after those that loads need
  pub nodes_are : second ≡ fold with_node first (own_needs buffered bound paths symbolic first) → nodes ≡ fold with_node second (read_needs code symbolic second)
      → nodes ≡ with_needs buffered bound code paths symbolic first
  nodes_are own read = read ∙ ap (λ ns. fold with_node ns (read_needs code symbolic ns)) own

  -- the formulas, one after another
  pub rules_are : (own sync read tests formula : List Conjunct) → HaveTerms first symbolic
      → second ≡ fold with_node first (own_needs buffered bound paths symbolic first) → nodes ≡ fold with_node second (read_needs code symbolic second)
      → own ≡ own_formula buffered bound paths symbolic second → sync ≡ sync_formula paths → read ≡ read_formula code paths symbolic nodes
      → tests ≡ test_formula symbolic → formula ≡ own ++ sync ++ read ++ tests → formula ≡ rules_of buffered bound code paths symbolic nodes
  rules_are own sync read tests formula have own_made read_made own_is sync_is read_is tests_are is =
      let own_same : own ≡ own_formula buffered bound paths symbolic nodes =
      own_is ∙ ap (own_formula buffered bound paths symbolic) own_made ∙ sym (own_stays buffered bound code paths symbolic first have)
      ∙ ap (own_formula buffered bound paths symbolic) (sym (nodes_are own_made read_made)) in
      is ∙ ap₂ (λ fs gs. fs ++ gs) (ap₂ (λ fs gs. fs ++ gs) (ap₂ (λ fs gs. fs ++ gs) own_same sync_is) read_is) tests_are

-- the order after the questions of each formula
pub asked_is : (order one two three last : Order) (own sync read tests formula : List Conjunct) → one ≡ with_formula order own → two ≡ with_formula one sync
    → three ≡ with_formula two read → last ≡ with_formula three tests → formula ≡ own ++ sync ++ read ++ tests → last ≡ with_formula order formula
asked_is order one two three last own sync read tests formula a b c d is =
    d ∙ ap (λ o. with_formula o tests) (c ∙ ap (λ o. with_formula o read) (b ∙ ap (λ o. with_formula o sync) a))
    ∙ asked_all order own sync read tests ∙ ap (with_formula order) (sym is)
