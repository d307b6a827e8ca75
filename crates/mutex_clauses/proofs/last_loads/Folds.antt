-- Folds and clauses, with one more element.
use Rattle.std.proofs.Common.{◌≡◌, ℕ, ◌+◌, ◌<◌, List, [], ◌∷◌, ◌++◌, ℤ, Bool, true, false, cond, refl, ap, sym, ◌∙◌, length, take, get_or}
use Rattle.std.specs.Prelude.{filter, fold}
use Rattle.std.proofs.lemmas.List.{get_or_default}
use Rattle.std.proofs.lemmas.List.Sums.{fold_more}
use Rattle.order_events.specs.Parts.{of_each}
use Rattle.order_events.proofs.Loops.{each_more}
use Rattle.cnf_core.specs.Clauses.{Formula}
use Rattle.bit_blast.specs.Reads.{with_clauses}
use Rattle.bit_blast.proofs.Loops.{next_clauses}

-- a fold over one more element
pub fold_next : {S A : Type 0} (step : S → A → S) (s : S) (xs : List A) (i : ℕ) (x : A) (mid new : S) → i < length xs → x ≡ get_or xs i x
    → mid ≡ fold step s (take i xs) → new ≡ step mid x → new ≡ fold step s (take (i + 1) xs)
fold_next step s xs i x mid new within is known next =
    next ∙ ap (λ m. step m x) known ∙ ap (step (fold step s (take i xs))) is ∙ sym (fold_more step s xs i x within)

pub fold_next_at : {S A : Type 0} (step : S → A → S) (s : S) (xs : List A) (i : ℕ) (d : A) (mid new : S) → i < length xs
    → mid ≡ fold step s (take i xs) → new ≡ step mid (get_or xs i d) → new ≡ fold step s (take (i + 1) xs)
fold_next_at step s xs i d mid new within known next = next ∙ ap (λ m. step m (get_or xs i d)) known ∙ sym (fold_more step s xs i d within)

-- a fold that leaves elements out is the fold over the others
pub fold_filtered : {S A : Type 0} (p : A → Bool) (step next : S → A → S) (xs : List A) (s : S)
    → ((k : S) (x : A) → step k x ≡ cond (p x) (next k x) k) → fold step s xs ≡ fold next s (filter p xs)
fold_filtered p step next [] s same = refl
fold_filtered {S} {A} p step next (x ∷ xs) s same = ap (λ k. fold step k xs) (same s x) ∙ by (p x) (λ k. fold_filtered p step next xs k same)
  where
    by : (b : Bool) → ((k : S) → fold step k xs ≡ fold next k (filter p xs))
        → fold step (cond b (next s x) s) xs ≡ fold next s (cond b (x ∷ filter p xs) (filter p xs))
    by true rest = rest (next s x)
    by false rest = rest s

-- the clauses of one more element
pub each_next : {A : Type 0} (f : ℕ → A → List (List ℤ)) (xs : List A) (i : ℕ) (d : A) (base g h : Formula) → i < length xs
    → g ≡ with_clauses base (of_each f (take i xs)) → h ≡ with_clauses g (f i (get_or xs i d)) → h ≡ with_clauses base (of_each f (take (i + 1) xs))
each_next f xs i d base g h within known step =
    let x = get_or xs i d in
    let before : List (List ℤ) = of_each f (take i xs) in
    next_clauses base g h before (of_each f (take (i + 1) xs)) (f i x) known step
    (sym (each_more xs i x within (get_or_default xs i d x within) [] before (before ++ f i x) f refl refl))
