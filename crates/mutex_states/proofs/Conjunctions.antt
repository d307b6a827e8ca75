-- Conjunctions of many literals.
use Rattle.std.proofs.Common.{◌≡◌, List, [], ◌∷◌, ℤ, refl, ap, ◌∙◌, Bool, true, false, ◌&&◌}
use Rattle.std.specs.Prelude.{fold}
use Rattle.std.specs.List.{All, list_all}
use Rattle.std.proofs.lemmas.List.Elements.{All-head, All-tail}
use Rattle.cnf_core.specs.Clauses.{Formula, literal_true}
use Rattle.bit_gates.specs.Folded.{Made, conjunction}
use Rattle.bit_gates.specs.Laws.{IsBit, IsOf}
use Rattle.bit_gates.proofs.Blocks.{grown_none, grown_twice, model_before}
use Rattle.bit_gates.proofs.Meaning.{both_bit}
use Rattle.circuit_sizes.proofs.bit_ops.bit_words.Meaning.{all_grown}

pub and_nothing : (p : Bool) → p ≡ (p && true)
and_nothing true = refl
and_nothing false = refl

pub and_assoc : (p q r : Bool) → ((p && q) && r) ≡ (p && (q && r))
and_assoc true q r = refl
and_assoc false q r = refl

abbrev pub with_next_literal : Made → ℤ → Made
with_next_literal all l = conjunction all.formula all.literal l

pub conjunction_bit : (m : Made) (ls : List ℤ) → IsOf m.formula.vars m.literal → All (IsOf m.formula.vars) ls
    → IsBit m.formula (fold with_next_literal m ls) (λ w. literal_true w m.literal && list_all (literal_true w) ls)
conjunction_bit m [] of all = record { grown = grown_none m.formula; literal = of; value = λ w k. and_nothing (literal_true w m.literal) }
conjunction_bit m (l ∷ ls) of all =
    let f : Formula = m.formula in
    let here : Made = conjunction f m.literal l in
    let b = both_bit f m.literal l of (All-head (IsOf f.vars) l ls all) in
    let rest : Made = fold with_next_literal here ls in
    let r = conjunction_bit here ls b.literal (all_grown f here.formula ls b.grown (All-tail (IsOf f.vars) l ls all)) in
    record {
      grown = grown_twice f here.formula rest.formula b.grown r.grown;
      literal = r.literal;
      value = λ w k.
          r.value w k ∙ ap (λ p. p && list_all (literal_true w) ls) (b.value w (model_before w here.formula rest.formula r.grown k))
          ∙ and_assoc (literal_true w m.literal) (literal_true w l) (list_all (literal_true w) ls);
    }
