-- Gates that are made one after another.
use Rattle.std.proofs.Common.{◌≡◌, ◌+◌, ◌≤◌, List, [], ◌∷◌, ◌++◌, append_assoc, ap, sym, ◌∙◌, refl, subst, arith, Bool, length, map}
use Rattle.std.specs.Prelude.{fold}
use Rattle.std.specs.List.{All}
use Rattle.std.proofs.lemmas.List.{append-nil, length_push, map-append}
use Rattle.std.proofs.lemmas.List.Elements.{All-append, All-cons, All-head, All-nil, All-tail}
use Rattle.cnf_core.specs.Clauses.{Formula, Valuation, literal_true}
use Rattle.bit_gates.specs.Folded.{Made}
use Rattle.bit_gates.specs.Laws.{IsBit, IsGrown, IsModel, IsOf}
use Rattle.bit_gates.proofs.Blocks.{grown_more, grown_none, grown_twice, model_before}
use Rattle.circuit_sizes.specs.bit_ops.bit_words.Laws.{values}
use Rattle.circuit_sizes.specs.bit_ops.bit_words.Words.{Walked}
use Rattle.circuit_sizes.proofs.bit_ops.bit_words.Meaning.{all_grown}

-- there is a gate for each element
pub walked_count : {X : Type 0} (made : Formula → X → Made) (m : Walked Formula) (xs : List X)
    → length (fold (λ (k : Walked Formula) x. let here : Made = made k.state x in let w : Walked Formula = record { state = here.formula; word = k.word ++ here.literal ∷ [] } in w) m xs).word
    ≡ length m.word + length xs
walked_count made m [] = omega arith
walked_count made m (x ∷ xs) =
    let here : Made = made m.state x in
    let next : Walked Formula = record { state = here.formula; word = m.word ++ here.literal ∷ [] } in
    let more : length next.word ≡ length m.word + 1 = length_push m.word here.literal in
    omega (arith, walked_count made next xs, more)

module _ {X : Type 0} (made : Formula → X → Made) (value : Valuation → X → Bool) where
  abbrev pub walk : Walked Formula → X → Walked Formula
  walk m x = let here : Made = made m.state x in record { state = here.formula; word = m.word ++ here.literal ∷ [] }

  -- a formula has grown by gates, one for each element, that have these values in every model
  pub record AreWalked (f : Formula) (m : Walked Formula) (xs : List X) : Type 0 where
    pub grown : IsGrown f m.state
    pub literals : All (IsOf m.state.vars) m.word
    pub values : (w : Valuation) → IsModel w m.state → values w m.word ≡ map (value w) xs

  module _ (Fits : X → Type 0) (f : Formula) (bit : (g : Formula) (x : X) → f.vars ≤ g.vars → Fits x → IsBit g (made g x) (λ w. value w x)) where
    walked_more : (m : Walked Formula) (done : List X) (x : X) → Fits x → AreWalked f m done → AreWalked f (walk m x) (done ++ x ∷ [])
    walked_more m done x fits h =
        let g : Formula = m.state in
        let here : Made = made g x in
        let b = bit g x (grown_more f g h.grown) fits in
        record {
          grown = grown_twice f g here.formula h.grown b.grown;
          literals = All-append (IsOf here.formula.vars) m.word (here.literal ∷ []) (all_grown g here.formula m.word b.grown h.literals)
              (All-cons (IsOf here.formula.vars) here.literal [] b.literal (All-nil (IsOf here.formula.vars)));
          values = λ w k.
              map-append (literal_true w) m.word (here.literal ∷ [])
              ∙ ap (λ bs. bs ++ literal_true w here.literal ∷ []) (h.values w (model_before w g here.formula b.grown k))
              ∙ ap (λ e. map (value w) done ++ e ∷ []) (b.value w k) ∙ sym (map-append (value w) done (x ∷ []));
        }

    walked_from : (m : Walked Formula) (done xs : List X) → All Fits xs → AreWalked f m done → AreWalked f (fold walk m xs) (done ++ xs)
    walked_from m done [] fits h = subst (AreWalked f m) (sym (append-nil done)) h
    walked_from m done (x ∷ xs) fits h =
        subst (AreWalked f (fold walk (walk m x) xs)) (append_assoc done (x ∷ []) xs)
        (walked_from (walk m x) (done ++ x ∷ []) xs (All-tail Fits x xs fits) (walked_more m done x (All-head Fits x xs fits) h))

    pub walked : (xs : List X) → All Fits xs → AreWalked f (fold walk (record { state = f; word = [] }) xs) xs
    walked xs fits =
        walked_from (record { state = f; word = [] }) [] xs fits (record { grown = grown_none f; literals = All-nil (IsOf f.vars); values = λ w k. refl })
