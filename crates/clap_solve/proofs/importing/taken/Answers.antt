use Rattle.std.proofs.Common.{◌∙◌, ℕ, Bool, List, length, ap, arith, subst}
use Rattle.std.specs.Prelude.{IfOk}
use Rattle.cnf_core.specs.Clauses.{Formula}
use Rattle.dimacs_text.specs.Values.{assigned}
use Rattle.dimacs_text.proofs.Readings.{length_assigned}
use Rattle.clap_solve.specs.helpers.Searched.{IsImportedOn}
use Rattle.clap_solve.proofs.importing.taken.Goals as goal

pub imported-requires : goal.imported-requires
imported-requires g c = record {
  posed = c.requires;
  all = omega (
    arith,
    ap (λ (f : Formula). f.vars) c.clauses.ensures,
    c.vars.ensures.vars,
    ap length c.in_ok-assignment.ensures,
    length_assigned c.vars.result c.args.literals.now,
  );
}

pub returns : goal.returns
returns g c =
    subst (λ (vs : List Bool). IfOk c.imported.result (IsImportedOn g.M.MemoryModel.ops c.args.code.now c.args.posed.now g.M.MemoryModel.MODEL vs))
    (c.in_ok-assignment.ensures
    ∙ ap (λ (n : ℕ). assigned n c.args.literals.now) (c.vars.ensures.vars ∙ ap (λ (f : Formula). f.vars) c.clauses.ensures))
    c.imported.ensures
