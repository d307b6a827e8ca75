-- Lists with one element appended.
use Rattle.std.proofs.Common.{◌≡◌, ◌∙◌, ℕ, ◌+◌, ◌<◌, ◌==◌, Bool, true, false, ℤ, List, [], ◌∷◌, ◌++◌, length, Option, Some, None}
use Rattle.std.proofs.Common.{refl, sym, ap, arith, cond, append-nil, slice_set, slice_index_or}
use Rattle.std.specs.Prelude.{unwrap_or, if◌then◌else◌}
use Rattle.std.specs.Option.{option_or}
use Rattle.std.specs.List.{filter_map, cons_option, last_or, count_by}
use Rattle.std.proofs.lemmas.Bool.{false≢true, eqb-true, eq-eqb}
use Rattle.std.proofs.lemmas.List.{get_or-set_same, get_or-set_other}
use Rattle.std.proofs.lemmas.List.Elements.{filter_map-append}
use Rattle.std.proofs.lemmas.List.Sums.{sum_by-append}
use Rattle.store_buffers.specs.tc_base.Buffers.{Entry}
use Rattle.store_buffers.specs.Buffers.{newest}
use Rattle.store_buffers.specs.helpers.Lists.{newest-append}

-- the element at a place after a write
index_by : {A : Type 0} (xs : List A) (k c : ℕ) (x d : A) (b : Bool) → (k == c) ≡ b → c < length xs
    → slice_index_or (slice_set xs k x) c d ≡ cond b x (slice_index_or xs c d)
index_by xs k c x d true e within =
    ap (λ j. slice_index_or (slice_set xs j x) c d) (eqb-true k c e) ∙ get_or-set_same xs c x d within
index_by xs k c x d false e within = get_or-set_other xs k c x d (λ same. false≢true (sym e ∙ eq-eqb k c (sym same)))

pub index_or-set : {A : Type 0} (xs : List A) (k c : ℕ) (x d : A) → c < length xs
    → slice_index_or (slice_set xs k x) c d ≡ (if k == c then x else slice_index_or xs c d)
index_or-set xs k c x d within = index_by xs k c x d _ refl within

-- the last element of a list with one appended
pub last_or-push : {A : Type 0} (o : Option A) (xs : List A) (x : A) → last_or o (xs ++ x ∷ []) ≡ Some x
last_or-push o [] x = refl
last_or-push o (y ∷ xs) x = last_or-push (Some y) xs x

-- a filtered map of a list with one element appended
pub filter_map-push : {X Y : Type 0} (f : X → Option Y) (xs : List X) (x : X) → filter_map f (xs ++ x ∷ []) ≡ filter_map f xs ++ cons_option (f x) []
filter_map-push f xs x = filter_map-append f xs (x ∷ [])

last_or-cons : {A : Type 0} (xs : List A) (o : Option A) → last_or None (xs ++ cons_option o []) ≡ option_or o (last_or None xs)
last_or-cons xs None = ap (last_or None) (append-nil xs)
last_or-cons xs (Some x) = last_or-push None xs x

-- the last value of a filtered map of a list with one element appended
pub last_of-push : {X Y : Type 0} (f : X → Option Y) (xs : List X) (x : X)
    → last_or None (filter_map f (xs ++ x ∷ [])) ≡ option_or (f x) (last_or None (filter_map f xs))
last_of-push f xs x = ap (last_or None) (filter_map-push f xs x) ∙ last_or-cons (filter_map f xs) (f x)

-- the value of a cell after a store, if it is to that cell
abbrev pub put_in : Option Entry → ℕ → ℤ → ℤ
put_in None c v = v
put_in (Some e) c v = if e.cell == c then e.value else v

either_value : (b : Bool) (w x : ℤ) (o : Option ℤ) → unwrap_or (option_or (cond b (Some w) None) o) x ≡ cond b w (unwrap_or o x)
either_value true w x o = refl
either_value false w x o = refl

newest-cons : (es : List Entry) (o : Option Entry) (c : ℕ) (x : ℤ) → unwrap_or (newest (es ++ cons_option o []) c) x ≡ put_in o c (unwrap_or (newest es c) x)
newest-cons es None c x = ap (λ fs. unwrap_or (newest fs c) x) (append-nil es)
newest-cons es (Some e) c x =
    ap (λ o. unwrap_or o x) (newest-append es (e ∷ []) c) ∙ either_value (e.cell == c) e.value x (newest es c)

pub newest_of-push : {X : Type 0} (f : X → Option Entry) (xs : List X) (d : X) (c : ℕ) (x : ℤ)
    → unwrap_or (newest (filter_map f (xs ++ d ∷ [])) c) x ≡ put_in (f d) c (unwrap_or (newest (filter_map f xs) c) x)
newest_of-push f xs d c x = ap (λ es. unwrap_or (newest es c) x) (filter_map-push f xs d) ∙ newest-cons (filter_map f xs) (f d) c x

-- the number of elements that pass, with one element appended
pub count-push : {X : Type 0} (p : X → Bool) (xs : List X) (x : X) → count_by p (xs ++ x ∷ []) ≡ count_by p xs + cond (p x) 1 0
count-push p xs x = let e = sum_by-append (λ y. cond (p y) 1 0) xs (x ∷ []) in e ∙ omega arith
