use Rattle.std.proofs.Common.{◌≡◌, ℕ, suc, ◌+◌, ◌≤◌, [], ◌∷◌, ◌++◌, ℤ, pos, ap, sym, ◌∙◌, subst, arith, map}
use Rattle.std.specs.List.{range_with_len}
use Rattle.std.proofs.lemmas.List.Elements.{All-push}
use Rattle.std.proofs.lemmas.List.FromFn.{map-range_with_len_more}
use Rattle.cnf_core.specs.Clauses.{var_of}
use Rattle.bit_words.specs.Words.{AreWithin}
use Rattle.bit_words.proofs.Loops.{within_more}
use Rattle.mutex_clauses.proofs.turns.variables.new_literals.Goals as goal

pub loop-preserved : goal.loop-preserved
loop-preserved c =
    let n : ℕ = c.args.circuit.now.vars in
    let k : ℕ = c.loop.counter in
    let f : ℕ → ℤ = λ j. pos (suc n + j) in
    let l : ℤ = c.add_variable.result in
    let high : ℕ = c.add_variable.new.self.vars in
    let was = c.loop.invariant in
    let items = c.in_ok-push.ensures.items in
    let fresh : l ≡ f k =
    c.add_variable.ensures.literal ∙ ap pos (let e : c.loop.circuit.vars + 1 ≡ suc n + k = omega (arith, was.vars) in e) in
    record {
      literals = items ∙ ap (λ ls. ls ++ l ∷ []) was.literals ∙ ap (λ x. map f (range_with_len 0 k) ++ x ∷ []) fresh
          ∙ sym (map-range_with_len_more f 0 k k (omega arith));
      vars = omega (arith, c.add_variable.ensures.vars, was.vars);
      clauses = c.add_variable.ensures.clauses ∙ was.clauses;
      within = subst (AreWithin high) (sym items)
          (All-push (λ x. var_of x ≤ high) c.loop.literals.items l
          (within_more c.loop.circuit.vars high c.loop.literals.items (omega (arith, c.add_variable.ensures.vars)) was.within)
          (subst (λ x. var_of x ≤ high) (sym c.add_variable.ensures.literal)
          (let e : c.loop.circuit.vars + 1 ≤ high = omega (arith, c.add_variable.ensures.vars) in e)));
    }
