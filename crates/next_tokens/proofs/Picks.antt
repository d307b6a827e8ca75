-- The items of a list with a property, found one by one.
use Rattle.std.proofs.Common.{◌≡◌, ◌⊎◌, inl, inr, sym, subst, refl, append_assoc, Bool, true, false, List, [], ◌∷◌, ◌++◌}
use Rattle.std.specs.Prelude.{◌↔◌, if◌then◌else◌}
use Rattle.std.proofs.lemmas.Bool.{false≢true}
use Rattle.std.proofs.lemmas.List.{append-nil}
use Rattle.next_tokens.specs.Next.{ArePicked}

-- the items found so far, together with those of the rest, are those of the whole list
pub record IsSoFar {A : Type 0} (P : A → Type 0) (all found rest : List A) : Type 0 where
  pub completes : (picked : List A) → ArePicked P rest picked → ArePicked P all (found ++ picked)

pub start : {A : Type 0} (P : A → Type 0) (all found : List A) → found ≡ [] → IsSoFar P all found all
start {A} P all found empty = subst (λ (xs : List A). IsSoFar P all xs all) (sym empty) (record { completes = λ picked h. h })

pick : {A : Type 0} (P : A → Type 0) (all found : List A) (x : A) (rest : List A) → P x → IsSoFar P all found (x ∷ rest)
    → IsSoFar P all (found ++ x ∷ []) rest
pick {A} P all found x rest holds so_far = record {
  completes = λ picked h. subst (λ (xs : List A). ArePicked P all xs) (sym (append_assoc found (x ∷ []) picked))
      (so_far.completes (x ∷ picked) (inl (holds, picked, refl, h)));
}

pass : {A : Type 0} (P : A → Type 0) (all found : List A) (x : A) (rest : List A) → (P x → ⊥) → IsSoFar P all found (x ∷ rest)
    → IsSoFar P all found rest
pass P all found x rest fails so_far = record { completes = λ picked h. so_far.completes picked (inr (fails, h)) }

pub next : {A : Type 0} (P : A → Type 0) (all found : List A) (x : A) (rest more : List A) (holds : Bool) → (holds ≡ true) ↔ P x
    → more ≡ (if holds then found ++ x ∷ [] else found) → IsSoFar P all found (x ∷ rest) → IsSoFar P all more rest
next {A} P all found x rest more true is same so_far =
    subst (λ (xs : List A). IsSoFar P all xs rest) (sym same) (pick P all found x rest (is.0 refl) so_far)
next {A} P all found x rest more false is same so_far =
    subst (λ (xs : List A). IsSoFar P all xs rest) (sym same) (pass P all found x rest (λ p. absurd (false≢true (is.1 p))) so_far)

pub all_picked : {A : Type 0} (P : A → Type 0) (all found : List A) → IsSoFar P all found [] → ArePicked P all found
all_picked {A} P all found so_far = subst (λ (xs : List A). ArePicked P all xs) (append-nil found) (so_far.completes [] refl)
