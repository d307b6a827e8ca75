use Rattle.std.proofs.Common.{◌∙◌, List, refl, sym, subst}
use Rattle.std.proofs.lemmas.Result.{on_ok_weaker}
use Rattle.order_formula.specs.declared.formula.Conjunct.{Conjunct}
use Rattle.bit_blast.specs.Drafts.{Draft}
use Rattle.mutex_clauses.specs.Loads.{LoadsAreBelow}
use Rattle.mutex_clauses.specs.helpers.Logs.{HasStates}
use Rattle.mutex_clauses.proofs.Made.{has_states}
use Rattle.mutex_clauses.proofs.states.add_to.Goals as goal

pub add_all-requires-clause-log : goal.add_all-requires-clause-log
add_all-requires-clause-log c =
    record {
      paths = refl;
      events = c.in_ok-events.ensures;
      accesses = c.as_slice-3.ensures.value ∙ c.in_ok-accesses.ensures;
      loads = c.as_slice-4.ensures.value ∙ c.in_ok-loads.ensures;
      constants = c.requires.constants;
      below = subst (λ (d : Draft). LoadsAreBelow c.args.execution.now.symbolic d.layout.loads) (sym c.draft.view_is) c.requires.loads;
    }

pub returns : goal.returns
returns c =
    let x = c.args.execution.now in
    let parts = c.draft.inside in
    let last : Draft = record {
      layout = parts.layout;
      clauses = c.add_all.new.circuit;
      words = parts.words.items;
      roots = parts.roots.items;
    } in
    on_ok_weaker c.add_all.result
    (λ all.
    subst (λ (formula : List Conjunct). HasStates c.args.code.now x.paths x.symbolic x.terms formula c.args.draft.now last)
    c.conjuncts.ensures
    (has_states all parts.words.items parts.roots.items c.args.draft.now c.as_slice.ensures.value c.as_slice-2.ensures.value c.draft.view_is
    c.requires.within))
    c.add_all.ensures
