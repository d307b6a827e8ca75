-- The order of names of threads: child by child, a prefix first.
use Rattle.std.proofs.Common.{◌≡◌, ◌∙◌, ◌⊎◌, inl, inr, ℕ, ◌≤◌, Bool, true, false, cond, [], ◌∷◌}
use Rattle.std.proofs.Common.{refl, sym, ap, subst, arith, bytes_eq, ltb, ◌==◌}
use Rattle.std.specs.Cmp.{tied_itself}
use Rattle.std.specs.FinMap.{slice_cmp-IsAntisymmetric, nat_cmp-IsAntisymmetric}
use Rattle.std.specs.Ordering.{nat_cmp, is_eq, is_lt, ordering_reverse, ordering_then}
use Rattle.std.specs.declared.cmp.Ordering.{Ordering}
use Rattle.std.specs.declared.cmp.Ordering.TheVariants.{Less, Equal, Greater}
use Rattle.std.proofs.lemmas.Bool.{ltb-true}
use Rattle.std.proofs.lemmas.Cmp.{nat_list_cmp_total, nat_cmp_total}
use Rattle.std.proofs.lemmas.Map.Text.{is_eq-slice_cmp}
use Rattle.tc_base.specs.Names.{Name, by_name, child}

pub same_name : (m n : Name) → by_name m n ≡ Equal → m ≡ n
same_name m n e = slice_cmp-IsAntisymmetric nat_cmp-IsAntisymmetric m n e

pub itself : (n : Name) → by_name n n ≡ Equal
itself n = tied_itself nat_list_cmp_total n

pub between : (m n k : Name) → by_name m n ≡ Less → by_name n k ≡ Less → by_name m k ≡ Less
between m n k a b = nat_list_cmp_total.trans m n k a b

pub turned : (m n : Name) → by_name m n ≡ Greater → by_name n m ≡ Less
turned m n e = nat_list_cmp_total.antisymm n m ∙ ap ordering_reverse e

pub less_true : (o : Ordering) → is_lt o ≡ true → o ≡ Less
less_true Less h = refl
less_true Equal h = absurd cc
less_true Greater h = absurd cc

pub equal_of : (o : Ordering) → is_eq o ≡ true → o ≡ Equal
equal_of Less h = absurd cc
equal_of Equal h = refl
equal_of Greater h = absurd cc

-- a name isn't less than itself
pub not_itself : (n : Name) → by_name n n ≡ Less → ⊥
not_itself n e = let both : Less ≡ Equal = sym e ∙ itself n in cc

-- a name that isn't less is equal or greater
pub not_less : (o : Ordering) → is_lt o ≡ false → (o ≡ Equal) ⊎ (o ≡ Greater)
not_less Less h = absurd cc
not_less Equal h = inl refl
not_less Greater h = inr refl

-- a name below another is below each name that isn't below that one
pub up_to : (m n q : Name) → by_name m n ≡ Less → is_lt (by_name q n) ≡ false → by_name m q ≡ Less
up_to m n q less not =
    elim (not_less (by_name q n) not) [
      | inl e ↦ subst (λ k. by_name m k ≡ Less) (sym (same_name q n e)) less
      | inr e ↦ between m n q less (turned q n e)
    ]

-- a name is less than its children's
pub child_is_above : (n : Name) (k : ℕ) → by_name n (child n k) ≡ Less
child_is_above [] k = refl
child_is_above (x ∷ n) k = ap (λ o. ordering_then o (by_name n (child n k))) (tied_itself nat_cmp_total x) ∙ child_is_above n k

not_before : (a b : ℕ) → b ≤ a → is_lt (ordering_then (nat_cmp a b) Equal) ≡ false
not_before a b le = by (ltb a b) refl
  where
    tied : (c : Bool) → is_lt (ordering_then (cond c Equal Greater) Equal) ≡ false
    tied true = refl
    tied false = refl

    by : (c : Bool) → ltb a b ≡ c → is_lt (ordering_then (cond c Less (cond (a == b) Equal Greater)) Equal) ≡ false
    by true e = absurd (omega (arith, ltb-true a b e))
    by false e = tied (a == b)

-- a later child isn't less than an earlier one
pub later_child : (n : Name) (a b : ℕ) → b ≤ a → is_lt (by_name (child n a) (child n b)) ≡ false
later_child [] a b le = not_before a b le
later_child (x ∷ n) a b le =
    ap (λ o. is_lt (ordering_then o (by_name (child n a) (child n b)))) (tied_itself nat_cmp_total x) ∙ later_child n a b le

-- names under tests

pub same_true : (m n : Name) → bytes_eq m n ≡ true → m ≡ n
same_true m n h = same_name m n (equal_of (by_name m n) (is_eq-slice_cmp m n ∙ h))

pub same_refl : (n : Name) → bytes_eq n n ≡ true
same_refl n = sym (is_eq-slice_cmp n n) ∙ ap is_eq (itself n)

pub apart_less : (m n : Name) → by_name m n ≡ Less → bytes_eq m n ≡ false
apart_less m n e = sym (is_eq-slice_cmp m n) ∙ ap is_eq e

pub apart_above : (m n : Name) → by_name n m ≡ Less → bytes_eq m n ≡ false
apart_above m n e = sym (is_eq-slice_cmp m n) ∙ ap is_eq (nat_list_cmp_total.antisymm m n ∙ ap ordering_reverse e)

-- a name is main's or a child's
pub record HasParent (n : Name) : Type 0 where
  pub parent : Name
  pub number : ℕ
  pub name : n ≡ child parent number

pub parent_of : (n : Name) → (n ≡ []) ⊎ HasParent n
parent_of [] = inl refl
parent_of (a ∷ n) =
    elim (parent_of n) [
      | inl e ↦ inr (record { parent = []; number = a; name = ap (λ m. a ∷ m) e })
      | inr h ↦ inr (record { parent = a ∷ h.parent; number = h.number; name = ap (λ m. a ∷ m) h.name })
    ]
