use Rattle.std.proofs.Common.{◌≡◌, ◌≤◌, ◌∙◌, ap, subst, refl, sym, map}
use Rattle.std.specs.List.{sum_by}
use Rattle.read_write.specs.Accesses.{all_accesses}
use Rattle.mutex_regions.specs.Variables.{guarded}
use Rattle.mutex_regions.specs.declared.variables.Variable.{Variable}
use Rattle.mutex_states.specs.States.{step_of}
use Rattle.mutex_states.proofs.Short.{are_short}
use Rattle.mutex_clauses.specs.helpers.Logs.{code_in, formula_in, nodes_in, paths_in, regions_in, symbolic_in}
use Rattle.mutex_clauses.proofs.log.Log.steps.Goals as goal

pub steps_of-requires : goal.steps_of-requires
steps_of-requires c =
    let l = c.args.self.now in
    let m = c.args.mutex.now.number in
    let is : c.as_slice-variables.result.now ≡ guarded (paths_in l) (symbolic_in l) m =
    c.as_slice-variables.ensures.value ∙ c.requires.mutex.variables in
    subst (λ vs. sum_by (λ (v : Variable). v.cells) vs ≤ 64) (sym is) (are_short (regions_in l m) (all_accesses (symbolic_in l))).1

pub returns : goal.returns
returns c =
    let l = c.args.self.now in
    let m = c.args.mutex.now.number in
    let regions = c.as_slice-regions.ensures.value ∙ c.requires.mutex.regions in
    let variables = c.as_slice-variables.ensures.value ∙ c.requires.mutex.variables in
    c.in_ok-steps.ensures (code_in l) (paths_in l) (formula_in l) m refl variables c.requires.log.accesses
    ∙ ap (map (step_of (code_in l) (paths_in l) (symbolic_in l) (nodes_in l) (formula_in l) m)) regions
