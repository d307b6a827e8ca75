use Rattle.std.proofs.Common.{◌≡◌, ◌≤◌, ◌∙◌, ap, arith, subst, rules, sym, length}
use Rattle.std.specs.Prelude.{IsTrue}
use Rattle.std.specs.List.{All, flat_map}
use Rattle.tc_code.specs.Expr.{names_slots}
use Rattle.mutex_states.specs.Steps.{exprs_of}
use Rattle.mutex_states.proofs.Short.{few_spots}
use Rattle.mutex_clauses.specs.helpers.Logs.{code_in, formula_in, nodes_in, paths_in, spots_in, symbolic_in}
use Rattle.mutex_states.proofs.StepsReady.{are_named}
use Rattle.mutex_clauses.proofs.log.Log.add_steps.Goals as goal

pub overflow_cast-len : goal.overflow_cast-len
overflow_cast-len c =
    let l = c.args.self.now in
    let same : c.len.result ≡ length c.args.mutex.now.spots.items = search rules in
    let few : length c.args.mutex.now.spots.items ≤ 64 =
    subst (λ xs. length xs ≤ 64) (sym c.requires.mutex.spots) (few_spots (paths_in l) (symbolic_in l) c.args.mutex.now.number) in
    omega (arith, same, few)

pub termed_steps-requires : goal.termed_steps-requires
termed_steps-requires c =
    let l = c.args.self.now in
    let m = c.args.mutex.now.number in
    let same : c.len.result ≡ length c.args.mutex.now.spots.items = search rules in
    subst (λ n. All (λ e. IsTrue (names_slots n e)) (flat_map exprs_of c.args.all.now)) (sym (same ∙ ap length c.requires.mutex.spots))
    (subst (λ ss. All (λ e. IsTrue (names_slots (length (spots_in l m)) e)) (flat_map exprs_of ss)) (sym c.requires.steps)
    (are_named (code_in l) (paths_in l) (symbolic_in l) (nodes_in l) (formula_in l) m c.requires.log.constants))
