-- A `BTreeSet` of names, as a finite set.
use Rattle.std.proofs.Common.{◌≡◌, ◌||◌, ◌&&◌, length, arith, List, [], ◌∷◌, refl, ap, sym, ◌∙◌, Bool, true, false, cond, not}
use Rattle.std.specs.FinSet as set
use Rattle.std.specs.FinSet.{FinSet}
use Rattle.std.specs.List.{list_any}
use Rattle.std.specs.Ordering.{nat_cmp, eq_by_cmp}
use Rattle.std.specs.Cmp.{eq_by_cmp_equiv}
use Rattle.std.specs.Cmp.Lexicographic.{slice_cmp}
use Rattle.std.specs.BTreeMap.{is_at}
use Rattle.std.proofs.lemmas.Bool.{false≢true}
use Rattle.std.proofs.lemmas.Cmp.{nat_list_cmp_total}
use Rattle.std.proofs.lemmas.Map.Lookups.{exact_bytes}
use Rattle.tc_base.specs.Names.{Name}

-- the set of some names
abbrev pub set_of : List Name → FinSet (slice_cmp nat_cmp)
set_of ks = set.from_list {R = slice_cmp nat_cmp} ks

-- whether a name is in the list
abbrev pub is_listed : List Name → Name → Bool
is_listed ks n = list_any (is_at (slice_cmp nat_cmp n)) ks

pub contains-set_of : (ks : List Name) (n : Name) → set.contains (set_of ks) n ≡ is_listed ks n
contains-set_of ks n = set.contains-from_list nat_list_cmp_total ks n

-- a set contains exactly the names of which it is made
pub contains_of : (ks : List Name) (s : FinSet (slice_cmp nat_cmp)) (n : Name) → set_of ks ≡ s → is_listed ks n ≡ set.contains s n
contains_of ks s n e = sym (contains-set_of ks n) ∙ ap (λ t. set.contains t n) e

put_in : (b c : Bool) → cond b true c ≡ (b || c)
put_in true c = refl
put_in false c = refl

taken_out : (b c : Bool) → cond b false c ≡ (not b && c)
taken_out true c = refl
taken_out false c = refl

-- the set of names with one more
pub set_of_insert : (ks ls : List Name) (s : FinSet (slice_cmp nat_cmp)) (n : Name) → set_of ks ≡ s
    → ((q : Name) → is_listed ls q ≡ cond (is_at (slice_cmp nat_cmp n) q) true (is_listed ks q)) → set_of ls ≡ set.insert s n
set_of_insert ks ls s n e h = set.same_set nat_list_cmp_total exact_bytes _ _ (λ q.
    contains-set_of ls q ∙ h q
    ∙ ap (λ b. cond b true (is_listed ks q)) ((eq_by_cmp_equiv nat_list_cmp_total).symm n q)
    ∙ ap (cond (eq_by_cmp (slice_cmp nat_cmp) q n) true) (contains_of ks s q e)
    ∙ put_in (eq_by_cmp (slice_cmp nat_cmp) q n) (set.contains s q)
    ∙ sym (set.contains-insert nat_list_cmp_total s n q))

-- the set of names with one less
pub set_of_remove : (ks ls : List Name) (s : FinSet (slice_cmp nat_cmp)) (n : Name) → set_of ks ≡ s
    → ((q : Name) → is_listed ls q ≡ cond (is_at (slice_cmp nat_cmp n) q) false (is_listed ks q)) → set_of ls ≡ set.remove s n
set_of_remove ks ls s n e h = set.same_set nat_list_cmp_total exact_bytes _ _ (λ q.
    contains-set_of ls q ∙ h q
    ∙ ap (λ b. cond b false (is_listed ks q)) ((eq_by_cmp_equiv nat_list_cmp_total).symm n q)
    ∙ ap (cond (eq_by_cmp (slice_cmp nat_cmp) q n) false) (contains_of ks s q e)
    ∙ taken_out (eq_by_cmp (slice_cmp nat_cmp) q n) (set.contains s q)
    ∙ sym (set.contains-remove nat_list_cmp_total s n q))

has_first : (k : Name) (ks : List Name) → set.contains (set_of (k ∷ ks)) k ≡ true
has_first k ks = contains-set_of (k ∷ ks) k ∙ ap (λ b. b || is_listed ks k) ((eq_by_cmp_equiv nat_list_cmp_total).refl k)

empty_has_none : (k : Name) (ks : List Name) → set.len (set_of (k ∷ ks)) ≡ 0 → false ≡ true
empty_has_none k ks e = sym (set.contains-empty (slice_cmp nat_cmp) k) ∙ ap (λ s. set.contains s k) (sym (set.empty_of_len _ e)) ∙ has_first k ks

-- only the empty list of names gives the empty set
pub none_where_empty : (ks : List Name) → set.len (set_of ks) ≡ 0 → length ks ≡ 0
none_where_empty [] e = refl
none_where_empty (k ∷ ks) e = absurd (false≢true (empty_has_none k ks e))

pub empty_where_none : (ks : List Name) → length ks ≡ 0 → set.len (set_of ks) ≡ 0
empty_where_none [] e = set.len-empty (slice_cmp nat_cmp)
empty_where_none (k ∷ ks) e = absurd (omega arith)
