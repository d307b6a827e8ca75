use Rattle.std.proofs.Common.{◌≡◌, ℕ, ◌+◌, List, [], ◌∷◌, ℤ, neg_ℤ, refl, ap, ◌∙◌, arith, rules, get_or, take}
use Rattle.cnf_core.specs.Clauses.{Formula}
use Rattle.bit_order.specs.Clauses.{with_clause}
use Rattle.bit_blast.specs.Reads.{value_clauses, with_clauses}
use Rattle.bit_blast.proofs.Loops.{next_clause, next_clauses, value_next, with_one}
use Rattle.bit_blast.proofs.reads.add_value.Goals as goal

-- the clause of four literals that are known
same_four : (f : Formula) (a b c d p q r s : ℤ) → a ≡ p → b ≡ q → c ≡ r → d ≡ s → with_clause f (a ∷ b ∷ c ∷ d ∷ []) ≡ with_clause f (p ∷ q ∷ r ∷ s ∷ [])
same_four f a b c d p q r s e g h k =
    ap (λ l. with_clause f (l ∷ b ∷ c ∷ d ∷ [])) e ∙ ap (λ l. with_clause f (p ∷ l ∷ c ∷ d ∷ [])) g ∙ ap (λ l. with_clause f (p ∷ q ∷ l ∷ d ∷ [])) h
    ∙ ap (λ l. with_clause f (p ∷ q ∷ r ∷ l ∷ [])) k

pub loop-place-preserved : goal.loop-place-preserved
loop-place-preserved c =
    let holds : ℤ = c.args.holds in
    let taken : ℤ = c.args.taken in
    let xs : List ℤ = c.args.takes.now in
    let ys : List ℤ = c.args.value.now in
    let i : ℕ = c.loop-place.place in
    let a : ℤ = get_or xs i c.index-takes-place.result in
    let b : ℤ = get_or ys i c.index-value-place.result in
    let f : Formula = c.args.circuit.now in
    let g : Formula = c.loop-place.circuit in
    let k : Formula = c.add_clause.new.circuit in
    let h : Formula = c.add_clause-in-loop-place.new.circuit in
    let was = c.loop-place.invariant in
    let first : List ℤ = neg_ℤ holds ∷ neg_ℤ taken ∷ neg_ℤ a ∷ b ∷ [] in
    let second : List ℤ = neg_ℤ holds ∷ neg_ℤ taken ∷ a ∷ neg_ℤ b ∷ [] in
    let one : k ≡ with_clause g first =
    c.in_ok-add_clause.ensures.ok
    ∙ same_four g c.opposite-no.result c.opposite-other.result c.opposite.result b (neg_ℤ holds) (neg_ℤ taken) (neg_ℤ a) b c.opposite-no.ensures
    c.opposite-other.ensures c.opposite.ensures refl in
    let two : h ≡ with_clause k second =
    c.in_ok-add_clause-2.ensures.ok
    ∙ same_four k c.opposite-no.result c.opposite-other.result a c.opposite-in-loop-place.result (neg_ℤ holds) (neg_ℤ taken) a (neg_ℤ b) c.opposite-no.ensures
    c.opposite-other.ensures refl c.opposite-in-loop-place.ensures in
    let both : h ≡ with_clauses g (first ∷ second ∷ []) =
    next_clause g k h (first ∷ []) (first ∷ second ∷ []) second (one ∙ with_one g first) two refl in
    record {
      formula = next_clauses f g h (value_clauses holds taken (take i xs) (take i ys)) (value_clauses holds taken (take (i + 1) xs) (take (i + 1) ys))
          (first ∷ second ∷ []) was.formula both
          (value_next holds taken xs ys i a b (search rules) (search rules) (ap (get_or xs i) c.index-takes-place.is)
          (ap (get_or ys i) c.index-value-place.is));
      vars = ap (λ (x : Formula). x.vars) both ∙ was.vars;
      count = omega (arith, c.in_ok-add_clause.ensures.few, c.in_ok-add_clause-2.ensures.few, was.count);
    }
