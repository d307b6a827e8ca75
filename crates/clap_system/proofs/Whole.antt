-- The execution of paths, and the system that is made of it.
use Rattle.std.proofs.Common.{◌≡◌, ◌∙◌, ◌≤◌, Bool, List, [], length, sym, ap, ap₂, subst, arith}
use Rattle.tc_limits.specs.declared.limits.TheConstants.{EVENTS}
use Rattle.tc_code.specs.Code.{Code}
use Rattle.tc_code.specs.Lawful.{IsLawful}
use Rattle.path_walk.specs.Paths.{Paths, ArePaths}
use Rattle.store_buffers.specs.Pending.{Binding}
use Rattle.sym_terms.specs.declared.node.Node.{Node}
use Rattle.sym_exec.specs.Executed.{Executed, Symbolic, executed}
use Rattle.order_formula.specs.Orders.{Order, order_without_questions, with_formula}
use Rattle.order_formula.specs.declared.formula.Conjunct.{Conjunct}
use Rattle.order_events.specs.lawful_order.Events.{all_events, all_sleeps}
use Rattle.order_events.specs.lawful_order.Whole.{IsExecutedBy}
use Rattle.memory_order.specs.order_cells.Terms.{HaveTerms}
use Rattle.sym_events.proofs.Terms.{have_terms}
use Rattle.sym_events.proofs.Whole.{is_executed}
use Rattle.clap_system.specs.Ready.{IsReady, IsSound}
use Rattle.clap_system.specs.Systems.{System, rules_of, system_by, system_over, with_needs}
use Rattle.clap_system.proofs.Ready.{is_ready}

module _ (code : Code) (paths : Paths) (symbolic : Symbolic) (first : List Node)
    (done : ◌≡◌ {A = Executed} (record { symbolic = symbolic; nodes = first }) (executed code paths [])) where
  pub executed_by : ArePaths code paths → IsExecutedBy paths symbolic
  executed_by are = subst (λ (x : Executed). IsExecutedBy paths x.symbolic) (sym done) (is_executed code paths [] are)

  pub have_by : IsLawful code → HaveTerms first symbolic
  have_by lawful = subst (λ (x : Executed). HaveTerms x.nodes x.symbolic) (sym done) (have_terms code lawful paths [])

  module _ (buffered : Bool) (bound : Binding) (nodes : List Node) (formula : List Conjunct)
      (made : nodes ≡ with_needs buffered bound code paths symbolic first) (rules : formula ≡ rules_of buffered bound code paths symbolic nodes) where
    -- the formula over all terms
    formula_is : formula ≡ rules_of buffered bound code paths symbolic (with_needs buffered bound code paths symbolic first)
    formula_is = rules ∙ ap (rules_of buffered bound code paths symbolic) made

    pub system_is : (order last : Order) → order ≡ order_without_questions (length (all_events paths)) (length (all_sleeps paths)) → last ≡ with_formula order formula
        → ◌≡◌ {A = System} (record { paths = paths; symbolic = symbolic; nodes = nodes; order = last; formula = formula })
        (system_by buffered bound code paths)
    system_is order last none asked =
        ap (λ o. with_parts nodes o formula) (asked ∙ ap (λ o. with_formula o formula) none)
        ∙ ap₂ (λ ns fs. with_parts ns (with_formula (order_without_questions (length (all_events paths)) (length (all_sleeps paths))) fs) fs) made formula_is
        ∙ ap (λ (x : Executed). system_over buffered bound code paths x.symbolic (with_needs buffered bound code paths x.symbolic x.nodes)) done
      where
        with_parts : List Node → Order → List Conjunct → System
        with_parts ns o fs = record { paths = paths; symbolic = symbolic; nodes = ns; order = o; formula = fs }

    -- the system is sound
    pub sound_by : (order last : Order) → order ≡ order_without_questions (length (all_events paths)) (length (all_sleeps paths)) → last ≡ with_formula order formula
        → IsLawful code → ArePaths code paths → paths.events ≤ EVENTS
        → IsSound (record { paths = paths; symbolic = symbolic; nodes = nodes; order = last; formula = formula })
    sound_by order last none asked lawful are few =
        let ready = subst IsReady (sym (system_is order last none asked)) (is_ready buffered bound code paths lawful are) in
        record { terms = ready.terms; events = omega (arith, ready.events, few); within = ready.within }
