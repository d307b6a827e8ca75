-- The first `*/`.
use Rattle.std.proofs.Common.{◌≡◌, ℕ, true, false, List, [], ◌∷◌, ◌++◌, drop, refl, sym, ap, inl, inr, ◌∙◌, Option, Some, None}
use Rattle.std.specs.Prelude.{codes, nat_eq, option_map}
use Rattle.std.specs.List.{starts_with}
use Rattle.std.proofs.lemmas.Bool.{cases_Bool, and_parts, both_ways, cond-true, cond-false, false_from_ne_true}
use Rattle.std.proofs.lemmas.Bool.Decides.{Decides-eqb}
use Rattle.std.proofs.lemmas.Slice.Eq.{starts_is}
use Rattle.tc_lexer.specs.helpers.Reading.{before_close}

-- the body has no `*/`
abbrev pub HasNoClose : List ℕ → Type 0
HasNoClose body = (front back : List ℕ) → body ≡ front ++ (codes "*/" ++ back) → ⊥

-- the value from which a map of an option made a result
pub mapped : {X Y : Type 0} (f : X → Y) (o : Option X) (y : Y) → option_map f o ≡ Some y → (x : X) × (o ≡ Some x) × (f x ≡ y)
mapped f None y e = absurd cc
mapped f (Some x) y e = (x, refl, cc)

pub unmapped : {X Y : Type 0} (f : X → Y) (o : Option X) → option_map f o ≡ None → o ≡ None
unmapped f None e = refl
unmapped f (Some x) e = absurd cc

nothing_in_nothing : (front back : List ℕ) → [] ≡ front ++ (codes "*/" ++ back) → ⊥
nothing_in_nothing [] back e = cc
nothing_in_nothing (b ∷ front) back e = cc

begins_so : (bytes rest : List ℕ) → bytes ≡ codes "*/" ++ rest → starts_with nat_eq bytes (codes "*/") ≡ true
begins_so bytes rest e = (starts_is Decides-eqb bytes (codes "*/") (starts_with nat_eq bytes (codes "*/")) refl).1 rest e

is_begun : (bytes : List ℕ) → starts_with nat_eq bytes (codes "*/") ≡ true → bytes ≡ codes "*/" ++ drop 2 bytes
is_begun bytes h = (starts_is Decides-eqb bytes (codes "*/") (starts_with nat_eq bytes (codes "*/")) refl).0 h

-- with one more byte in front, at which no `*/` begins, the body has no `*/`
more_no_close : (b : ℕ) (body after : List ℕ) → starts_with nat_eq (b ∷ (body ++ (codes "*/" ++ after))) (codes "*/") ≡ false → HasNoClose body
    → HasNoClose (b ∷ body)
more_no_close b body after h none [] back e =
    let tail : b ∷ (body ++ (codes "*/" ++ after)) ≡ codes "*/" ++ (back ++ (codes "*/" ++ after)) = ap (λ (s : List ℕ). s ++ (codes "*/" ++ after)) e in
    let yes = begins_so _ _ tail in
    cc
more_no_close b body after h none (c ∷ front) back e =
    let tail : body ≡ front ++ (codes "*/" ++ back) = cc in
    none front back tail

-- the text before the first `*/` contains none, and a `*/` follows it
pub close_is : (bytes body : List ℕ) → before_close bytes ≡ Some body → (after : List ℕ) × (bytes ≡ body ++ (codes "*/" ++ after)) × HasNoClose body
close_is [] body e = absurd cc
close_is (b ∷ bs) body e = elim (cases_Bool (starts_with nat_eq (b ∷ bs) (codes "*/"))) [
  | inl h ↦
      let found : ◌≡◌ {A = Option (List ℕ)} (Some []) (Some body) = sym (cond-true _ (Some []) _ h) ∙ e in
      let same : [] ≡ body = cc in (
        drop 2 (b ∷ bs),
        is_begun (b ∷ bs) h
            ∙ ap (λ (s : List ℕ). s ++ (codes "*/" ++ drop 2 (b ∷ bs))) same,
        λ front back x. nothing_in_nothing front back (same ∙ x),
      )
  | inr h ↦
      let m = mapped (λ (s : List ℕ). b ∷ s) (before_close bs) body (sym (cond-false _ (Some []) _ h) ∙ e) in
      let r = close_is bs m.0 m.1 in
      let whole : b ∷ bs ≡ b ∷ (m.0 ++ (codes "*/" ++ r.0)) = ap (λ (s : List ℕ). b ∷ s) r.1 in
      let here : starts_with nat_eq (b ∷ (m.0 ++ (codes "*/" ++ r.0))) (codes "*/") ≡ false =
      ap (λ (s : List ℕ). starts_with nat_eq s (codes "*/")) (sym whole) ∙ h in
      let none = more_no_close b m.0 r.0 here r.2 in
      (r.0, whole ∙ ap (λ (s : List ℕ). s ++ (codes "*/" ++ r.0)) m.2, λ front back x. none front back (m.2 ∙ x))
]

no_early_close : (b : ℕ) (body after : List ℕ) → HasNoClose (b ∷ body) → starts_with nat_eq (b ∷ (body ++ (codes "*/" ++ after))) (codes "*/") ≡ true → ⊥
no_early_close b [] after none h = both_ways false refl (and_parts (nat_eq 42 b) false h).1
no_early_close b (c ∷ body) after none h =
    let e = is_begun (b ∷ ((c ∷ body) ++ (codes "*/" ++ after))) h in
    let two : b ∷ c ∷ body ≡ codes "*/" ++ body = cc in
    none [] body two

-- a body without a `*/` is found before one
pub close_found : (body after : List ℕ) → HasNoClose body → before_close (body ++ (codes "*/" ++ after)) ≡ Some body
close_found [] after none = refl
close_found (b ∷ body) after none =
    let here = false_from_ne_true _ (no_early_close b body after none) in
    let rest = close_found body after (λ front back e. none (b ∷ front) back (ap (λ (s : List ℕ). b ∷ s) e)) in
    cond-false _ _ _ here ∙ ap (option_map (λ (s : List ℕ). b ∷ s)) rest
