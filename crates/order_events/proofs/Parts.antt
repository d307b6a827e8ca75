-- Lists made from each element and its place, and the truth of conjuncts of single literals.
use Rattle.std.proofs.Common.{◌≡◌, ◌∙◌, ℕ, Bool, true, false, List, [], ◌∷◌, map, Option, Some, None, inl, inr, get_or, refl, sym, ap, if◌then◌else◌}
use Rattle.std.proofs.Common.{ltb-true, lt-ltb}
use Rattle.std.specs.Prelude.{slice_get, option_to_list}
use Rattle.std.specs.Bool.{beq}
use Rattle.std.specs.List.{All, Contains, enumerate_from, list_all}
use Rattle.std.proofs.lemmas.Bool.{false≢true, and_parts, and_from}
use Rattle.std.proofs.lemmas.List.{get_or_default}
use Rattle.path_walk.specs.Paths.{Paths}
use Rattle.order_formula.specs.sym_terms.declared.node.Node.{Node}
use Rattle.order_formula.specs.declared.literal.Literal.{Literal}
use Rattle.order_formula.specs.declared.group.Group.{Group}
use Rattle.order_formula.specs.Truth.{literal_at, case_at, body_at}
use Rattle.order_formula.specs.Worlds.{World}
use Rattle.lawful_order.specs.Events.{all_events, place_of, IsBefore}
use Rattle.order_events.specs.Parts.{of_each, comes_before, one_of}
use Rattle.order_events.proofs.Lists.{in_front, in_back, of_nil, of_cons, in_map, of_map, in_flat_map, of_flat_map, in_enumerated, of_enumerated, any_in, of_any}

-- lists of one element, of an option, and of an element under a test
pub of_one : {X : Type 0} (y x : X) → Contains (x ∷ []) y → x ≡ y
of_one y x i = elim (of_cons y x [] i) [ inl same ↦ same | inr none ↦ absurd (of_nil y none) ]

pub in_option : {X : Type 0} (o : Option X) (x : X) → o ≡ Some x → Contains (option_to_list o) x
in_option o x is = rw is (in_front x [])

pub of_option : {X : Type 0} (o : Option X) (x : X) → Contains (option_to_list o) x → o ≡ Some x
of_option None x i = absurd (of_nil x i)
of_option (Some y) x i = ap (λ z. Some z) (of_one x y i)

pub in_if : {X : Type 0} (b : Bool) (y : X) (xs : List X) → b ≡ true → Contains xs y → Contains (if b then xs else []) y
in_if true y xs hit i = i
in_if false y xs hit i = absurd (false≢true hit)

pub of_if : {X : Type 0} (b : Bool) (y : X) (xs : List X) → Contains (if b then xs else []) y → (b ≡ true) × Contains xs y
of_if true y xs i = (refl, i)
of_if false y xs i = absurd (of_nil y i)

-- what belongs to an element and its place is in the list for all of them
pub in_each : {A X : Type 0} (f : ℕ → A → List X) (k : ℕ) (a : A) (y : X) (xs : List A) → slice_get xs k ≡ Some a → Contains (f k a) y
    → Contains (of_each f xs) y
in_each {A} f k a y xs at there = in_flat_map (λ (p : ℕ × A). f p.0 p.1) (k, a) y (enumerate_from 0 xs) (in_enumerated k a xs at) there

pub record IsOfEach {A X : Type 0} (f : ℕ → A → List X) (xs : List A) (y : X) : Type 0 where
  pub place : ℕ
  pub element : A
  pub at : slice_get xs place ≡ Some element
  pub there : Contains (f place element) y

pub in_of_each : {A X : Type 0} (f : ℕ → A → List X) (xs : List A) (y : X) → Contains (of_each f xs) y → IsOfEach f xs y
in_of_each {A} f xs y i =
    let o = of_flat_map (λ (p : ℕ × A). f p.0 p.1) y (enumerate_from 0 xs) i in
    record { place = o.0.0; element = o.0.1; at = of_enumerated o.0 xs o.1; there = o.2 }

-- each element passes
pub all_of : {X : Type 0} (p : X → Bool) (x : X) (xs : List X) → list_all p xs ≡ true → Contains xs x → p x ≡ true
all_of p x [] all i = absurd (of_nil x i)
all_of p x (z ∷ zs) all i =
    let each = and_parts (p z) (list_all p zs) all in elim (of_cons x z zs i) [
      | inl same ↦ ap p (sym same) ∙ each.0
      | inr rest ↦ all_of p x zs each.1 rest
    ]

pub all_from : {X : Type 0} (p : X → Bool) (xs : List X) → ((x : X) → Contains xs x → p x ≡ true) → list_all p xs ≡ true
all_from p [] each = refl
all_from p (z ∷ zs) each =
    and_from (p z) (list_all p zs) (each z (in_front z zs)) (all_from p zs (λ x i. each x (in_back x z zs i)))

pub each_in : {X : Type 0} (P : X → Type 0) (xs : List X) → ((x : X) → Contains xs x → P x) → All P xs
each_in P xs each = λ k d within. each (get_or xs k d) (k, within, get_or_default xs k (get_or xs k d) d within)

-- literals
is_wanted : (b : Bool) → b ≡ true → beq b true ≡ true
is_wanted true is = refl
is_wanted false is = is

wanted_is : (b : Bool) → beq b true ≡ true → b ≡ true
wanted_is true is = refl
wanted_is false is = is

pub is_unwanted : (b : Bool) → b ≡ false → beq b false ≡ true
is_unwanted true is = sym is
is_unwanted false is = refl

pub unwanted_is : (b : Bool) → beq b false ≡ true → b ≡ false
unwanted_is true is = sym is
unwanted_is false is = refl

module _ (nodes : List Node) (w : World) where
  -- some literal of a list is true exactly if the conjunct of them is
  pub one_holds : (g : Group) (l : Literal) (ls : List Literal) → Contains ls l → literal_at nodes w l ≡ true → body_at nodes w (one_of g ls).body ≡ true
  one_holds g l ls there holds =
      any_in (case_at nodes w) (l ∷ []) (map (λ (k : Literal). k ∷ []) ls) (in_map (λ (k : Literal). k ∷ []) l ls there)
      (and_from (literal_at nodes w l) true holds refl)

  pub some_holds : (g : Group) (ls : List Literal) → body_at nodes w (one_of g ls).body ≡ true
      → (l : Literal) × Contains ls l × (literal_at nodes w l ≡ true)
  some_holds g ls holds =
      let o = of_any (case_at nodes w) (map (λ (k : Literal). k ∷ []) ls) holds in
      let m = of_map (λ (k : Literal). k ∷ []) o.0 ls o.1 in
      (m.0, m.1, (and_parts (literal_at nodes w m.0) true (ap (case_at nodes w) m.2 ∙ o.2)).0)

  pub step_before : (paths : Paths) (t k u j : ℕ) → literal_at nodes w (comes_before (all_events paths) t k u j) ≡ true → IsBefore paths w t k u j
  step_before paths t k u j holds = ltb-true (place_of paths w t k) (place_of paths w u j) (wanted_is _ holds)

  pub before_holds : (paths : Paths) (t k u j : ℕ) → IsBefore paths w t k u j → literal_at nodes w (comes_before (all_events paths) t k u j) ≡ true
  before_holds paths t k u j before = is_wanted _ (lt-ltb (place_of paths w t k) (place_of paths w u j) before)
