-- The last of the writes that a load sees, with one more write.
use Rattle.std.proofs.Common.{◌≡◌, ℕ, ◌+◌, ◌<◌, Bool, true, false, List, [], ◌∷◌, ◌++◌, Some, length, get_or, take, cond, refl, ap, ◌∙◌}
use Rattle.std.specs.Prelude.{filter}
use Rattle.std.specs.List.{reduce}
use Rattle.std.specs.Option.{option_map_or}
use Rattle.std.proofs.lemmas.List.{append-nil}
use Rattle.std.proofs.lemmas.List.Elements.{filter_more}
use Rattle.std.proofs.lemmas.List.Sums.{fold_push}

pub reduce_push : {A : Type 0} (f : A → A → A) (xs : List A) (x : A) → reduce f (xs ++ x ∷ []) ≡ Some (option_map_or (λ b. f b x) (reduce f xs) x)
reduce_push f [] x = refl
reduce_push f (y ∷ ys) x = ap Some (fold_push f y ys x)

module _ {A : Type 0} (f : A → A → A) (p : A → Bool) (xs : List A) (i : ℕ) (x : A) (within : i < length xs) (is : get_or xs i x ≡ x) where
  more : filter p (take (i + 1) xs) ≡ filter p (take i xs) ++ cond (p x) (x ∷ []) []
  more = filter_more p xs i x within ∙ ap (λ y. filter p (take i xs) ++ cond (p y) (y ∷ []) []) is

  pub passes : p x ≡ true → reduce f (filter p (take (i + 1) xs)) ≡ Some (option_map_or (λ b. f b x) (reduce f (filter p (take i xs))) x)
  passes hit = ap (reduce f) (more ∙ ap (λ b. filter p (take i xs) ++ cond b (x ∷ []) []) hit) ∙ reduce_push f (filter p (take i xs)) x

  pub stays : p x ≡ false → reduce f (filter p (take (i + 1) xs)) ≡ reduce f (filter p (take i xs))
  stays fails = ap (reduce f) (more ∙ ap (λ b. filter p (take i xs) ++ cond b (x ∷ []) []) fails ∙ append-nil (filter p (take i xs)))
