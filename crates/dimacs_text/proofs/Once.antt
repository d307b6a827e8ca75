-- Each literal once, in the order of first occurrence.
use Rattle.std.proofs.Common.{◌≡◌, ◌∙◌, Bool, true, false, not, ◌||◌, ◌⊎◌, inl, inr, List, [], ◌∷◌, ◌++◌, ℤ, refl, sym, ap}
use Rattle.std.specs.Prelude.{neg_ℤ, if◌then◌else◌}
use Rattle.std.specs.List.{filter}
use Rattle.std.specs.Ordering.{int_eq}
use Rattle.std.proofs.Math.IntN.{neg_ℤ-neg_ℤ}
use Rattle.std.proofs.lemmas.Bool.{false≢true, or_cases, or_left, or_right}
use Rattle.std.proofs.lemmas.Bool.Decides.{Decides-int_eq}
use Rattle.std.proofs.lemmas.List.{append-nil}
use Rattle.std.proofs.lemmas.List.Elements.{filter-append}
use Rattle.std.proofs.lemmas.List.Folds.{list_any-append}
use Rattle.indexmap.specs.IndexSet.{insert_key}
use Rattle.dimacs_text.specs.Answers.{HaveNoOpposites, each_once, is_among}

same : (a b : ℤ) → int_eq a b ≡ true → a ≡ b
same a b e = (Decides-int_eq a b).0 e

itself : (a b : ℤ) → a ≡ b → int_eq a b ≡ true
itself a b e = (Decides-int_eq a b).1 e

-- the literals except this one
abbrev without : ℤ → List ℤ → List ℤ
without o ks = filter (λ k. not (int_eq o k)) ks

module _ (o l : ℤ) (other : int_eq l o ≡ false) where
  kept : (k : ℤ) (ks : List ℤ) (e : Bool) → int_eq o k ≡ e → is_among (without o ks) l ≡ is_among ks l
      → is_among (without o (k ∷ ks)) l ≡ is_among (k ∷ ks) l
  kept k ks true is same_rest =
      let not_this : int_eq l k ≡ false = ap (int_eq l) (sym (same o k is)) ∙ other in
      rw (is, not_this) same_rest
  kept k ks false is same_rest = rw is (ap (λ b. int_eq l k || b) same_rest)

  -- removing one literal keeps the others
  among_without : (ks : List ℤ) → is_among (without o ks) l ≡ is_among ks l
  among_without [] = refl
  among_without (k ∷ ks) = kept k ks (int_eq o k) refl (among_without ks)

once_or : (l o : ℤ) (ls : List ℤ) (e : Bool) → int_eq l o ≡ e → is_among (each_once ls) l ≡ is_among ls l
    → is_among (each_once (o ∷ ls)) l ≡ is_among (o ∷ ls) l
once_or l o ls true is same_rest = rw is refl
once_or l o ls false is same_rest = ap (λ b. int_eq l o || b) (among_without o l is (each_once ls) ∙ same_rest)

-- a literal occurs exactly if it occurred
pub among_once : (ls : List ℤ) (l : ℤ) → is_among (each_once ls) l ≡ is_among ls l
among_once [] l = refl
among_once (o ∷ ls) l = once_or l o ls (int_eq l o) refl (among_once ls l)

-- One more literal.

differ : (o l : ℤ) (e : Bool) → int_eq o l ≡ e → int_eq l o ≡ false → int_eq o l ≡ false
differ o l false is other = is
differ o l true is other = absurd (false≢true (sym other ∙ itself l o (sym (same o l is))))

module _ (o l : ℤ) (ks : List ℤ) where
  abbrev After : Bool → Type 0
  After e = (o ∷ without o (if e then ks else ks ++ l ∷ [])) ≡ insert_key int_eq (o ∷ without o ks) l

  was_there : is_among (o ∷ without o ks) l ≡ true → without o (ks ++ l ∷ []) ≡ without o ks → (e : Bool) → After e
  was_there is drops true = rw is refl
  was_there is drops false = rw is (ap (λ xs. o ∷ xs) drops)

  is_first : int_eq l o ≡ true → (e : Bool) → After e
  is_first is =
      let back : int_eq o l ≡ true = itself o l (sym (same l o is)) in
      let drops : without o (ks ++ l ∷ []) ≡ without o ks =
      filter-append (λ k. not (int_eq o k)) ks (l ∷ []) ∙ rw back (append-nil (without o ks)) in
      was_there (rw is refl) drops

  is_other : int_eq l o ≡ false → (e : Bool) → is_among ks l ≡ e → After e
  is_other is true there =
      let among : is_among (without o ks) l ≡ true = among_without o l is ks ∙ there in
      rw (is, among) refl
  is_other is false there =
      let among : is_among (without o ks) l ≡ false = among_without o l is ks ∙ there in
      let back : int_eq o l ≡ false = differ o l (int_eq o l) refl is in
      rw (is, among) (ap (λ xs. o ∷ xs) (filter-append (λ k. not (int_eq o k)) ks (l ∷ []) ∙ rw back refl))

  with_one : (e : Bool) → int_eq l o ≡ e → After (is_among ks l)
  with_one true is = is_first is (is_among ks l)
  with_one false is = is_other is (is_among ks l) refl

-- each literal once, with one more literal
pub once_more : (ls : List ℤ) (l : ℤ) → each_once (ls ++ l ∷ []) ≡ insert_key int_eq (each_once ls) l
once_more [] l = refl
once_more (o ∷ ls) l = ap (λ xs. o ∷ without o xs) (once_more ls l) ∙ with_one o l (each_once ls) (int_eq l o) refl

-- No literal with its opposite.

is_apart : (old : List ℤ) (l : ℤ) (more : List ℤ) → HaveNoOpposites (old ++ l ∷ more) → (e : Bool) → is_among old (neg_ℤ l) ≡ e
    → is_among old (neg_ℤ l) ≡ false
is_apart old l more apart false is = is
is_apart old l more apart true is =
    let here : is_among (l ∷ more) l ≡ true = rw (itself l l refl) refl in
    absurd (apart l (list_any-append (int_eq l) old (l ∷ more) ∙ or_right (is_among old l) (is_among (l ∷ more) l) here)
    (list_any-append (int_eq (neg_ℤ l)) old (l ∷ more) ∙ or_left (is_among old (neg_ℤ l)) (is_among (l ∷ more) (neg_ℤ l)) is))

-- the opposite of a literal doesn't come before it
pub opposite_not_before : (old : List ℤ) (l : ℤ) (more : List ℤ) → HaveNoOpposites (old ++ l ∷ more) → is_among old (neg_ℤ l) ≡ false
opposite_not_before old l more apart = is_apart old l more apart (is_among old (neg_ℤ l)) refl

module _ (old : List ℤ) (l : ℤ) (apart : HaveNoOpposites old) (not_there : is_among old (neg_ℤ l) ≡ false) (not_own : neg_ℤ l ≡ l → ⊥) where
  in_one : (k : ℤ) → is_among (old ++ l ∷ []) k ≡ true → (is_among old k ≡ true) ⊎ (k ≡ l)
  in_one k there =
      elim (or_cases (is_among old k) (is_among (l ∷ []) k) (sym (list_any-append (int_eq k) old (l ∷ [])) ∙ there)) [
        | inl before ↦ inl before
        | inr here ↦ inr (elim (or_cases (int_eq k l) false here) [ inl is ↦ same k l is | inr none ↦ absurd (false≢true none) ])
      ]

  among_both : (k : ℤ) → (is_among old k ≡ true) ⊎ (k ≡ l) → (is_among old (neg_ℤ k) ≡ true) ⊎ (neg_ℤ k ≡ l) → ⊥
  among_both k (inl before) (inl also) = apart k before also
  among_both k (inl before) (inr is) =
      let k_is : k ≡ neg_ℤ l = sym (neg_ℤ-neg_ℤ k) ∙ ap neg_ℤ is in
      false≢true (sym not_there ∙ ap (is_among old) (sym k_is) ∙ before)
  among_both k (inr is) (inl also) = false≢true (sym not_there ∙ ap (λ m. is_among old (neg_ℤ m)) (sym is) ∙ also)
  among_both k (inr is) (inr opposite) = not_own (ap neg_ℤ (sym is) ∙ opposite)

  -- one more literal whose opposite isn't in the list
  pub apart_more : HaveNoOpposites (old ++ l ∷ [])
  apart_more k there also = among_both k (in_one k there) (in_one (neg_ℤ k) also)

-- a first part of such a list has no opposites either
pub front_apart : (old more : List ℤ) → HaveNoOpposites (old ++ more) → HaveNoOpposites old
front_apart old more apart l there also =
    apart l (list_any-append (int_eq l) old more ∙ or_left (is_among old l) (is_among more l) there)
    (list_any-append (int_eq (neg_ℤ l)) old more ∙ or_left (is_among old (neg_ℤ l)) (is_among more (neg_ℤ l)) also)
