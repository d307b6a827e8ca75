-- Names of threads, and maps by name.
use Rattle.std.proofs.Common.{◌≡◌, ◌≢◌, ◌∙◌, ◌⊎◌, inl, inr, ℕ, ◌==◌, List, [], ◌∷◌, length, Bool, true, false, ◌||◌, cond, IsTrue, IsSome, Some}
use Rattle.std.proofs.Common.{refl, ap, sym, subst, arith, true≢false}
use Rattle.std.specs.List.{list_any}
use Rattle.std.specs.FinMap as fin
use Rattle.std.specs.FinSet as set
use Rattle.std.proofs.lemmas.Cmp.{nat_list_cmp_total, eq_by_cmp_equiv}
use Rattle.std.proofs.lemmas.List.{length_push}
use Rattle.std.proofs.lemmas.Map.Lookups.{exact_bytes}
use Rattle.std.proofs.lemmas.Map.Views.{tells_apart}
use Rattle.std.proofs.lemmas.Option.{same_Some}
use Rattle.tc_code.specs.tc_base.Names.{Name, ByName, main, child, by_name}
use Rattle.tc_code.specs.Step.{NameSet}
use Rattle.run_laws.specs.Alone.{same}

-- two names are the same or not, by their test
tells : (q n : Name) (b : Bool) → same q n ≡ b → ((same q n ≡ true) × (q ≡ n)) ⊎ ((same q n ≡ false) × (q ≢ n))
tells q n true e = inl (e, tells_apart exact_bytes q n e)
tells q n false e = inr (e, λ one. true≢false (sym ((eq_by_cmp_equiv nat_list_cmp_total).refl n) ∙ subst (λ m. same m n ≡ false) one e))

-- the test of two names decides whether they are the same
pub tells_names : (q n : Name) → ((same q n ≡ true) × (q ≡ n)) ⊎ ((same q n ≡ false) × (q ≢ n))
tells_names q n = tells q n _ refl

pub same_self : (q n : Name) → q ≡ n → same q n ≡ true
same_self q n e = elim (tells_names q n) [ inl is ↦ is.0 | inr is ↦ absurd (is.1 e) ]

pub same_other : (q n : Name) → q ≢ n → same q n ≡ false
same_other q n other = elim (tells_names q n) [ inl is ↦ absurd (other is.1) | inr is ↦ is.0 ]

pub is_same : (q n : Name) → same q n ≡ true → q ≡ n
is_same q n e = tells_apart exact_bytes q n e

-- two names are the same or different
pub same_or_apart : (q n : Name) → (q ≡ n) ⊎ (q ≢ n)
same_or_apart q n = elim (tells_names q n) [ inl e ↦ inl e.1 | inr e ↦ inr e.1 ]

-- a map has one value under a name
pub one_under : {X : Type 0} (m : ByName X) (q n : Name) (x y : X) → q ≡ n → fin.get m q ≡ Some x → fin.get m n ≡ Some y → x ≡ y
one_under m q n x y same there here = same_Some x y (sym there ∙ ap (fin.get m) same ∙ here)

-- a value that is put in under a name is found there
pub get_put : {X : Type 0} (m : ByName X) (n : Name) (x : X) → fin.get (fin.insert m n x) n ≡ Some x
get_put m n x = fin.get-insert nat_list_cmp_total m n x n ∙ ap (λ b. cond b (Some x) (fin.get m n)) ((eq_by_cmp_equiv nat_list_cmp_total).refl n)

-- putting a value in under a name leaves the values under other names
pub get_put_apart : {X : Type 0} (m : ByName X) (n : Name) (x : X) (q : Name) → q ≢ n → fin.get (fin.insert m n x) q ≡ fin.get m q
get_put_apart m n x q apart =
    elim (tells_names q n) [
      | inl e ↦ absurd (apart e.1)
      | inr e ↦ fin.get-insert nat_list_cmp_total m n x q ∙ ap (λ b. cond b (Some x) (fin.get m q)) e.0
    ]

-- a value found after a put is the one put in, or was there before
pub get_put_cases : {X : Type 0} (m : ByName X) (n : Name) (x : X) (q : Name) (y : X) → fin.get (fin.insert m n x) q ≡ Some y
    → ((q ≡ n) × (x ≡ y)) ⊎ ((q ≢ n) × (fin.get m q ≡ Some y))
get_put_cases m n x q y h =
    elim (same_or_apart q n) [
      | inl same ↦ inl (same, one_under (fin.insert m n x) n q x y (sym same) (get_put m n x) h)
      | inr apart ↦ inr (apart, sym (get_put_apart m n x q apart) ∙ h)
    ]

-- a name with a value still has one after a put
pub stays_after_put : {X : Type 0} (m : ByName X) (n : Name) (x : X) (q : Name) → IsSome (fin.get m q) → IsSome (fin.get (fin.insert m n x) q)
stays_after_put m n x q there =
    elim (same_or_apart q n) [
      | inl same ↦ subst IsSome (sym (ap (fin.get (fin.insert m n x)) same ∙ get_put m n x)) refl
      | inr apart ↦ subst IsSome (sym (get_put_apart m n x q apart)) there
    ]

-- putting a value in under a name that has one adds no name
pub there_before_put : {X : Type 0} (m : ByName X) (n : Name) (x : X) (q : Name) → IsSome (fin.get m n) → IsSome (fin.get (fin.insert m n x) q)
    → IsSome (fin.get m q)
there_before_put m n x q before there =
    elim (same_or_apart q n) [
      | inl same ↦ subst (λ p. IsSome (fin.get m p)) (sym same) before
      | inr apart ↦ subst IsSome (get_put_apart m n x q apart) there
    ]

-- no child has the name of its parent
pub child_apart : (n : Name) (k : ℕ) → child n k ≢ n
child_apart n k e = omega (arith, length_push n k, ap length e)

-- no child is main
pub child_not_main : (n : Name) (k : ℕ) → child n k ≢ main
child_not_main n k e = omega (arith, length_push n k, ap length e)

-- a set of names that isn't empty has a name
first_in : (ns : NameSet) (qs : List Name) → set.items ns ≡ qs → (set.len ns == 0) ≡ false → (u : Name) × IsTrue (set.contains ns u)
first_in ns [] is some =
    let none = set.same_set nat_list_cmp_total exact_bytes ns set.empty
    (λ q. set.contains-items ns q ∙ ap (list_any (same q)) is ∙ sym (set.contains-empty by_name q)) in
    absurd (true≢false (sym (ap (λ s. set.len s == 0) none ∙ ap (λ k. k == 0) (set.len-empty by_name)) ∙ some))
first_in ns (q ∷ qs) is some =
    (q, set.contains-items ns q ∙ ap (list_any (same q)) is ∙ ap (λ b. b || list_any (same q) qs) (same_self q q refl))

pub some_in : (ns : NameSet) → (set.len ns == 0) ≡ false → (u : Name) × IsTrue (set.contains ns u)
some_in ns some = first_in ns (set.items ns) refl some
