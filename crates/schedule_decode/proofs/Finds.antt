-- A search over numbered elements and one over the elements find the same, or neither finds
-- anything.
use Rattle.std.proofs.Common.{◌≡◌, ◌∙◌, ◌⊎◌, inl, inr, ℕ, suc, ◌+◌, Bool, true, false, cond, List, [], ◌∷◌, Some, None, refl, ap, arith}
use Rattle.std.specs.Prelude.{slice_get}
use Rattle.std.specs.List.{enumerate_from, find}

module _ {X : Type 0} (p : X → Bool) (q : ℕ × X → Bool) where
  pub record Both (k : ℕ) (xs : List X) (i : ℕ) (x : X) : Type 0 where
    pub there : slice_get xs i ≡ Some x
    pub plain : find p xs ≡ Some x
    pub numbered : find q (enumerate_from k xs) ≡ Some (k + i, x)

  pub record Neither (k : ℕ) (xs : List X) : Type 0 where
    pub plain : find p xs ≡ None
    pub numbered : find q (enumerate_from k xs) ≡ None

  pub find_both : (k : ℕ) (xs : List X) → ((i : ℕ) (x : X) → slice_get xs i ≡ Some x → q (k + i, x) ≡ p x)
      → ((i : ℕ) × (x : X) × Both k xs i x) ⊎ Neither k xs
  find_both k [] same = inr (record { plain = refl; numbered = refl })
  find_both k (y ∷ ys) same =
      by (p y) refl
      (find_both (k + 1) ys (λ i x at. ap (λ n. q (n, x)) (let e : k + 1 + i ≡ k + suc i = omega arith in e) ∙ same (suc i) x at))
    where
      here : k ≡ k + 0
      here = omega arith

      first : q (k, y) ≡ p y
      first = ap (λ n. q (n, y)) here ∙ same 0 y refl

      by : (b : Bool) → p y ≡ b → (((i : ℕ) × (x : X) × Both (k + 1) ys i x) ⊎ Neither (k + 1) ys)
          → ((i : ℕ) × (x : X) × Both k (y ∷ ys) i x) ⊎ Neither k (y ∷ ys)
      by true hit later =
          inl (
            0,
            y,
            record {
              there = refl;
              plain = ap (λ b. cond b (Some y) (find p ys)) hit;
              numbered = ap (λ b. cond b (Some (k, y)) (find q (enumerate_from (k + 1) ys))) (first ∙ hit) ∙ ap (λ n. Some (n, y)) here;
            },
          )
      by false miss (inl r) =
          inl (
            suc r.0,
            r.1,
            record {
              there = r.2.there;
              plain = ap (λ b. cond b (Some y) (find p ys)) miss ∙ r.2.plain;
              numbered = ap (λ b. cond b (Some (k, y)) (find q (enumerate_from (k + 1) ys))) (first ∙ miss) ∙ r.2.numbered
                  ∙ ap (λ n. Some (n, r.1)) (let e : k + 1 + r.0 ≡ k + suc r.0 = omega arith in e);
            },
          )
      by false miss (inr n) =
          inr (record {
            plain = ap (λ b. cond b (Some y) (find p ys)) miss ∙ n.plain;
            numbered = ap (λ b. cond b (Some (k, y)) (find q (enumerate_from (k + 1) ys))) (first ∙ miss) ∙ n.numbered;
          })
