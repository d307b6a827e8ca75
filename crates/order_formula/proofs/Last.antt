-- The element that `reduce` picks among those that pass a test: the one with the greatest key.
use Rattle.std.proofs.Common.{◌≡◌, ℕ, ◌≤◌, Bool, true, false, List, [], ◌∷◌, ◌++◌, Option, Some, None, inl, inr, cond, nat_lt, slice_index_or, refl, ap, sym, subst, ◌∙◌, arith}
use Rattle.std.specs.Prelude.{filter}
use Rattle.std.specs.List.{Contains, reduce}
use Rattle.std.specs.Option.{MatchOption, option_map_or}
use Rattle.std.proofs.lemmas.Bool.{false≢true, ltb-false, ltb-true}
use Rattle.std.proofs.lemmas.List.{append-nil, append_assoc}
use Rattle.std.proofs.lemmas.List.Elements.{Contains-append_left, Contains-append_cases, Contains-push, filter-append}
use Rattle.order_formula.proofs.Sources.{reduce_push}

module _ {A : Type 0} (key : A → ℕ) (p : A → Bool) where
  abbrev pub pick : A → A → A
  pick a b = cond (nat_lt (key a) (key b)) b a

  -- no element passes; or this one does, and no other that passes has a greater key
  abbrev pub NonePasses : List A → Type 0
  NonePasses xs = (d : A) → Contains xs d → p d ≡ false

  pub record IsGreatest (xs : List A) (a : A) : Type 0 where
    pub among : Contains xs a
    pub passes : p a ≡ true
    pub greatest : (d : A) → Contains xs d → p d ≡ true → key d ≤ key a

  abbrev pub Picks : List A → Option A → Type 0
  Picks xs o = MatchOption o (NonePasses xs) (IsGreatest xs)

  one_is : (x d : A) → Contains (x ∷ []) d → d ≡ x
  one_is x d c =
      let first : c.0 ≡ 0 = omega (arith, c.1) in
      sym (subst (λ k. slice_index_or (x ∷ []) k d ≡ d) first c.2)

  -- one more element that fails changes nothing
  fails : (xs : List A) (x : A) (o : Option A) → p x ≡ false → Picks xs o → Picks (xs ++ x ∷ []) o
  fails xs x None lost none = λ d there. elim (Contains-append_cases xs (x ∷ []) d there) [
    | inl before ↦ none d before
    | inr last ↦ ap p (one_is x d last) ∙ lost
  ]
  fails xs x (Some a) lost g = record {
    among = Contains-append_left xs (x ∷ []) a g.among;
    passes = g.passes;
    greatest = λ d there hit. elim (Contains-append_cases xs (x ∷ []) d there) [
      | inl before ↦ g.greatest d before hit
      | inr last ↦ absurd (false≢true (sym lost ∙ ap p (sym (one_is x d last)) ∙ hit))
    ];
  }

  -- of two that pass, the one with the greater key is picked
  greater : (xs : List A) (x a : A) → p x ≡ true → IsGreatest xs a → (b : Bool) → nat_lt (key a) (key x) ≡ b → IsGreatest (xs ++ x ∷ []) (cond b x a)
  greater xs x a hit g true less = record {
    among = Contains-push xs x;
    passes = hit;
    greatest = λ d there does. elim (Contains-append_cases xs (x ∷ []) d there) [
      | inl before ↦ omega (arith, g.greatest d before does, ltb-true (key a) (key x) less)
      | inr last ↦ omega (arith, ap key (one_is x d last))
    ];
  }
  greater xs x a hit g false more = record {
    among = Contains-append_left xs (x ∷ []) a g.among;
    passes = g.passes;
    greatest = λ d there does. elim (Contains-append_cases xs (x ∷ []) d there) [
      | inl before ↦ g.greatest d before does
      | inr last ↦ omega (arith, ap key (one_is x d last), ltb-false (key a) (key x) more)
    ];
  }

  passes_too : (xs : List A) (x : A) (o : Option A) → p x ≡ true → Picks xs o → Picks (xs ++ x ∷ []) (Some (option_map_or (λ a. pick a x) o x))
  passes_too xs x None hit none = record {
    among = Contains-push xs x;
    passes = hit;
    greatest = λ d there does. elim (Contains-append_cases xs (x ∷ []) d there) [
      | inl before ↦ absurd (false≢true (sym (none d before) ∙ does))
      | inr last ↦ omega (arith, ap key (one_is x d last))
    ];
  }
  passes_too xs x (Some a) hit g = greater xs x a hit g (nat_lt (key a) (key x)) refl

  next : (xs : List A) (x : A) → Picks xs (reduce pick (filter p xs)) → Picks (xs ++ x ∷ []) (reduce pick (filter p (xs ++ x ∷ [])))
  next xs x before = by (p x) refl
    where
      by : (b : Bool) → p x ≡ b → Picks (xs ++ x ∷ []) (reduce pick (filter p (xs ++ x ∷ [])))
      by true hit = subst (Picks (xs ++ x ∷ []))
          (sym (ap (reduce pick) (filter-append p xs (x ∷ []) ∙ ap (λ b. filter p xs ++ cond b (x ∷ []) []) hit) ∙ reduce_push pick (filter p xs) x))
          (passes_too xs x (reduce pick (filter p xs)) hit before)
      by false lost = subst (Picks (xs ++ x ∷ []))
          (sym (ap (reduce pick) (filter-append p xs (x ∷ []) ∙ ap (λ b. filter p xs ++ cond b (x ∷ []) []) lost ∙ append-nil (filter p xs))))
          (fails xs x (reduce pick (filter p xs)) lost before)

  from : (xs ys : List A) → Picks xs (reduce pick (filter p xs)) → Picks (xs ++ ys) (reduce pick (filter p (xs ++ ys)))
  from xs [] before = subst (λ zs. Picks zs (reduce pick (filter p zs))) (sym (append-nil xs)) before
  from xs (y ∷ ys) before =
      subst (λ zs. Picks zs (reduce pick (filter p zs))) (append_assoc xs (y ∷ []) ys) (from (xs ++ y ∷ []) ys (next xs y before))

  pub picks : (xs : List A) → Picks xs (reduce pick (filter p xs))
  picks xs = from [] xs (λ d there. absurd (omega (arith, there.1)))
