-- Elements of lists.
use Rattle.std.proofs.Common.{◌≡◌, ◌∙◌, ◌⊎◌, inl, inr, Bool, true, false, ◌||◌, cond, List, [], ◌∷◌, ◌++◌, Option, Some, None, refl, sym, ap, subst}
use Rattle.std.specs.List.{All, filter, filter_map, cons_option, list_any}
use Rattle.std.proofs.Math.Bool.{or-true}
use Rattle.std.proofs.lemmas.List.Elements.{All-head, All-tail}
use Rattle.std.proofs.lemmas.Bool.{false≢true}
use Rattle.run_history.specs.History.{Deed}
use Rattle.run_history.specs.pending.Deeds.{name_of, AllApart}

abbrev pub In : {A : Type 0} → A → List A → Type 0
In y [] = ⊥
In y (x ∷ xs) = (x ≡ y) ⊎ In y xs

pub in_append : {A : Type 0} (y : A) (xs ys : List A) → In y (xs ++ ys) → In y xs ⊎ In y ys
in_append y [] ys i = inr i
in_append y (x ∷ xs) ys (inl e) = inl (inl e)
in_append y (x ∷ xs) ys (inr i) = elim (in_append y xs ys i) [ inl l ↦ inl (inr l) | inr r ↦ inr r ]

pub in_left : {A : Type 0} (y : A) (xs ys : List A) → In y xs → In y (xs ++ ys)
in_left y (x ∷ xs) ys (inl e) = inl e
in_left y (x ∷ xs) ys (inr i) = inr (in_left y xs ys i)
in_left y [] ys i = absurd i

pub in_right : {A : Type 0} (y : A) (xs ys : List A) → In y ys → In y (xs ++ ys)
in_right y [] ys i = i
in_right y (x ∷ xs) ys i = inr (in_right y xs ys i)

pub in_at : {A : Type 0} (older : List A) (y : A) (newer : List A) → In y (older ++ y ∷ newer)
in_at older y newer = in_right y older (y ∷ newer) (inl refl)

-- the place of an element in a list
pub record StoodAt {A : Type 0} (xs : List A) (x : A) : Type 0 where
  pub older : List A
  pub newer : List A
  pub there : xs ≡ older ++ x ∷ newer

pub in_split : {A : Type 0} (y : A) (xs : List A) → In y xs → StoodAt xs y
in_split y [] i = absurd i
in_split y (x ∷ xs) (inl e) = record { older = []; newer = xs; there = ap (λ z. z ∷ xs) e }
in_split y (x ∷ xs) (inr i) =
    let s = in_split y xs i in record { older = x ∷ s.older; newer = s.newer; there = ap (λ zs. x ∷ zs) s.there }

-- a property of all elements of a list holds for each one
pub all_in : {A : Type 0} (P : A → Type 0) (xs : List A) (y : A) → All P xs → In y xs → P y
all_in P [] y all i = absurd i
all_in P (x ∷ xs) y all (inl e) = subst P e (All-head P x xs all)
all_in P (x ∷ xs) y all (inr i) = all_in P xs y (All-tail P x xs all) i

in_kept : {A : Type 0} (y x : A) (ys : List A) (b : Bool) → In y ys → In y (cond b (x ∷ ys) ys)
in_kept y x ys true i = inr i
in_kept y x ys false i = i

in_first : {A : Type 0} (x : A) (ys : List A) (b : Bool) → b ≡ true → In x (cond b (x ∷ ys) ys)
in_first x ys true e = inl refl
in_first x ys false e = absurd (false≢true e)

-- an element that passes a test is in the filtered list
pub in_filter : {A : Type 0} (p : A → Bool) (y : A) (xs : List A) → In y xs → p y ≡ true → In y (filter p xs)
in_filter p y [] i e = absurd i
in_filter p y (x ∷ xs) (inl same) e =
    subst (λ z. In z (cond (p x) (x ∷ filter p xs) (filter p xs))) same (in_first x (filter p xs) (p x) (ap p same ∙ e))
in_filter p y (x ∷ xs) (inr i) e = in_kept y x (filter p xs) (p x) (in_filter p y xs i e)

behind : {A : Type 0} (p : A → Bool) (y x : A) (xs : List A) → (In y xs) × (p y ≡ true) → (In y (x ∷ xs)) × (p y ≡ true)
behind p y x xs i = (inr i.0, i.1)

from_kept : {A : Type 0} (p : A → Bool) (y x : A) (xs : List A) → (In y (filter p xs) → (In y xs) × (p y ≡ true)) → (b : Bool) → p x ≡ b
    → In y (cond b (x ∷ filter p xs) (filter p xs)) → (In y (x ∷ xs)) × (p y ≡ true)
from_kept p y x xs rest true e (inl same) = (inl same, ap p (sym same) ∙ e)
from_kept p y x xs rest true e (inr i) = behind p y x xs (rest i)
from_kept p y x xs rest false e i = behind p y x xs (rest i)

pub from_filter : {A : Type 0} (p : A → Bool) (y : A) (xs : List A) → In y (filter p xs) → (In y xs) × (p y ≡ true)
from_filter p y [] i = absurd i
from_filter p y (x ∷ xs) i = from_kept p y x xs (from_filter p y xs) (p x) refl i

in_consed : {A : Type 0} (y : A) (o : Option A) (ys : List A) → In y ys → In y (cons_option o ys)
in_consed y None ys i = i
in_consed y (Some x) ys i = inr i

pub in_mapped : {A C : Type 0} (f : A → Option C) (d : A) (c : C) (xs : List A) → In d xs → f d ≡ Some c → In c (filter_map f xs)
in_mapped f d c [] i e = absurd i
in_mapped f d c (x ∷ xs) (inl same) e =
    subst (λ o. In c (cons_option o (filter_map f xs))) (sym (ap f same ∙ e)) (inl refl)
in_mapped f d c (x ∷ xs) (inr i) e = in_consed c (f x) (filter_map f xs) (in_mapped f d c xs i e)

-- the element from which a map gives a value of the list
pub record IsFrom {A C : Type 0} (f : A → Option C) (c : C) (xs : List A) : Type 0 where
  pub of : A
  pub there : In of xs
  pub gives : f of ≡ Some c

further : {A C : Type 0} (f : A → Option C) (c : C) (x : A) (xs : List A) → IsFrom f c xs → IsFrom f c (x ∷ xs)
further f c x xs i = record { of = i.of; there = inr i.there; gives = i.gives }

from_consed : {A C : Type 0} (f : A → Option C) (c : C) (x : A) (xs : List A) → (In c (filter_map f xs) → IsFrom f c xs) → (o : Option C) → f x ≡ o
    → In c (cons_option o (filter_map f xs)) → IsFrom f c (x ∷ xs)
from_consed f c x xs rest None e i = further f c x xs (rest i)
from_consed f c x xs rest (Some d) e (inl same) = record { of = x; there = inl refl; gives = e ∙ ap Some same }
from_consed f c x xs rest (Some d) e (inr i) = further f c x xs (rest i)

pub from_mapped : {A C : Type 0} (f : A → Option C) (c : C) (xs : List A) → In c (filter_map f xs) → IsFrom f c xs
from_mapped f c [] i = absurd i
from_mapped f c (x ∷ xs) i = from_consed f c x xs (from_mapped f c xs) (f x) refl i

-- an element that passes a test
pub record Passes {A : Type 0} (p : A → Bool) (xs : List A) : Type 0 where
  pub one : A
  pub there : In one xs
  pub passes : p one ≡ true

any_by : {A : Type 0} (p : A → Bool) (x : A) (xs : List A) → (list_any p xs ≡ true → Passes p xs) → (b : Bool) → p x ≡ b → b || list_any p xs ≡ true
    → Passes p (x ∷ xs)
any_by p x xs rest true e any = record { one = x; there = inl refl; passes = e }
any_by p x xs rest false e any = let q = rest any in record { one = q.one; there = inr q.there; passes = q.passes }

pub any_in : {A : Type 0} (p : A → Bool) (xs : List A) → list_any p xs ≡ true → Passes p xs
any_in p [] any = absurd (false≢true any)
any_in p (x ∷ xs) any = any_by p x xs (any_in p xs) (p x) refl any

pub in_any : {A : Type 0} (p : A → Bool) (y : A) (xs : List A) → In y xs → p y ≡ true → list_any p xs ≡ true
in_any p y [] i e = absurd i
in_any p y (x ∷ xs) (inl same) e = ap (λ b. b || list_any p xs) (ap p same ∙ e)
in_any p y (x ∷ xs) (inr i) e = ap (λ b. p x || b) (in_any p y xs i e) ∙ or-true (p x)

apart_behind : (x : Deed) (h : List Deed) → AllApart (x ∷ h) → AllApart h
apart_behind x h apart older newer between d e is = apart (x ∷ older) newer between d e (ap (λ g. x ∷ g) is)

not_again : (x : Deed) (h : List Deed) (e : Deed) → AllApart (x ∷ h) → In e h → name_of x ≡ name_of e → ⊥
not_again x h e apart i named = let s = in_split e h i in apart [] s.newer s.older x e (ap (λ g. x ∷ g) s.there) named

-- deeds that are apart have different names
pub one_of_name : (h : List Deed) (d e : Deed) → AllApart h → In d h → In e h → name_of d ≡ name_of e → d ≡ e
one_of_name [] d e apart i j named = absurd i
one_of_name (x ∷ h) d e apart (inl p) (inl q) named = sym p ∙ q
one_of_name (x ∷ h) d e apart (inl p) (inr j) named = absurd (not_again x h e apart j (ap name_of p ∙ named))
one_of_name (x ∷ h) d e apart (inr i) (inl q) named = absurd (not_again x h d apart i (ap name_of q ∙ sym named))
one_of_name (x ∷ h) d e apart (inr i) (inr j) named = one_of_name h d e (apart_behind x h apart) i j named
