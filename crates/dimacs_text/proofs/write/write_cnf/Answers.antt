use Rattle.std.proofs.Common.{◌∙◌, ◌++◌, ◌∷◌, [], ℤ, List, take, get_or, ap, sym, arith}
use Rattle.std.specs.List.{flat_map}
use Rattle.std.proofs.lemmas.List.{flat_map_more, take_more}
use Rattle.std.proofs.lemmas.Option.{get_or_from_slice_get}
use Rattle.dimacs_text.specs.Texts.{clause_line, header}
use Rattle.dimacs_text.proofs.write.write_cnf.Goals as goal

pub loop-place-preserved : goal.loop-place-preserved
loop-place-preserved c =
    let k = c.loop-place.place in
    let cs = c.args.cnf.now.clauses in
    let clause : List ℤ = c.clause.result.now in
    let own = get_or_from_slice_get cs k clause [] c.clause.ensures.clause in
    c.in_ok-write_clause.ensures ∙ ap (λ bytes. bytes ++ clause_line clause) c.loop-place.invariant
    ∙ flat_map_more clause_line (header c.args.cnf.now) (take k cs) clause
    ∙ ap (λ ds. header c.args.cnf.now ++ flat_map clause_line ds)
    (ap (λ d. take k cs ++ d ∷ []) (sym own) ∙ sym (take_more cs k [] (omega arith)))
