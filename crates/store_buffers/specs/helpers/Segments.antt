-- Segments, compared by their values to each cell.
use Rattle.std.proofs.Common.{
  ◌≡◌,
  ℕ,
  ◌==◌,
  Bool,
  true,
  false,
  cond,
  Option,
  Some,
  None,
  unwrap_or,
  List,
  [],
  ◌∷◌,
  ◌++◌,
  ℤ,
  refl,
  sym,
  ap,
  ◌∙◌,
  subst,
  drop,
}
use Rattle.std.specs.FinMap as fin
use Rattle.std.specs.FinMap.{get-empty, get-insert, get-remove, len-empty, empty_of_len, same_map, nat_cmp-IsAntisymmetric}
use Rattle.std.specs.Ordering.{nat_cmp}
use Rattle.std.specs.Cmp.{nat_cmp_total, unsigned_tied, nat_eq_equiv}
use Rattle.std.proofs.lemmas.Bool.{false≢true, eqb-true}
use Rattle.store_buffers.specs.Buffers.{Segment, values_to, with_values, has_no_store, first_values, drop_first}
use Rattle.list_laws.specs.Lists.{is_nil}

-- the entry of a cell with these values: None if there are none
abbrev pub some_values : List ℤ → Option (List ℤ)
some_values [] = None
some_values (v ∷ vs) = Some (v ∷ vs)

pub record IsTidy (s : Segment) : Type 0 where
  pub at : (c : ℕ) → fin.get s c ≡ some_values (values_to s c)

unwrapped : (b : Bool) (vs : List ℤ) (o : Option (List ℤ))
    → unwrap_or (cond b (some_values vs) o) [] ≡ cond b vs (unwrap_or o [])
unwrapped true [] o = refl
unwrapped true (v ∷ vs) o = refl
unwrapped false vs o = refl

pub get-with_values : (s : Segment) (c : ℕ) (vs : List ℤ) (d : ℕ)
    → fin.get (with_values s c vs) d ≡ cond (d == c) (some_values vs) (fin.get s d)
get-with_values s c [] d =
    get-remove nat_cmp_total s c d ∙ ap (λ b. cond b None (fin.get s d)) (unsigned_tied d c)
get-with_values s c (v ∷ vs) d =
    get-insert nat_cmp_total s c (v ∷ vs) d ∙ ap (λ b. cond b (Some (v ∷ vs)) (fin.get s d))
    (unsigned_tied d c)

pub values-with_values : (s : Segment) (c : ℕ) (vs : List ℤ) (d : ℕ)
    → values_to (with_values s c vs) d ≡ cond (d == c) vs (values_to s d)
values-with_values s c vs d =
    ap (λ o. unwrap_or o []) (get-with_values s c vs d) ∙ unwrapped (d == c) vs (fin.get s d)

pub values-empty : (c : ℕ) → values_to fin.empty c ≡ []
values-empty c = ap (λ o. unwrap_or o []) (get-empty nat_cmp c)

pub tidy-empty : IsTidy fin.empty
tidy-empty = record { at = λ c. get-empty nat_cmp c ∙ ap some_values (sym (values-empty c)) }

some-cond : (b : Bool) (vs ws : List ℤ)
    → cond b (some_values vs) (some_values ws) ≡ some_values (cond b vs ws)
some-cond true vs ws = refl
some-cond false vs ws = refl

pub tidy-with_values : (s : Segment) (c : ℕ) (vs : List ℤ) → IsTidy s → IsTidy (with_values s c vs)
tidy-with_values s c vs t = record {
  at = λ d. get-with_values s c vs d ∙ ap (cond (d == c) (some_values vs)) (t.at d) ∙ some-cond
      (d == c) vs (values_to s d)
      ∙ ap some_values (sym (values-with_values s c vs d));
}

-- tidy segments with the same values are the same
pub same_values : (s t : Segment) → IsTidy s → IsTidy t → ((d : ℕ) → values_to s d ≡ values_to t d)
    → s ≡ t
same_values s t p q is =
    same_map nat_cmp_total nat_cmp-IsAntisymmetric s t
    (λ d. p.at d ∙ ap some_values (is d) ∙ sym (q.at d))

pub no_store-empty : has_no_store fin.empty ≡ true
no_store-empty = ap (λ n. n == 0) (len-empty nat_cmp (List ℤ))

has_store_by : (s : Segment) (c : ℕ) (b : Bool) → has_no_store s ≡ b
    → is_nil (values_to s c) ≡ false → b ≡ false
has_store_by s c true none some =
    absurd (false≢true
    (sym some ∙ ap (λ t. is_nil (values_to t c)) (empty_of_len s (eqb-true _ 0 none))
    ∙ ap is_nil (values-empty c)))
has_store_by s c false none some = refl

-- a segment with a value to some cell has a store
pub has_store : (s : Segment) (c : ℕ) → is_nil (values_to s c) ≡ false → has_no_store s ≡ false
has_store s c some = has_store_by s c _ refl some

-- only the first segment counts if it has a store; otherwise the later ones do
pub first_values-store : (s : Segment) (ss : List Segment) (c : ℕ) → has_no_store s ≡ false
    → first_values (s ∷ ss) c ≡ values_to s c
first_values-store s ss c e = ap (λ b. cond b (first_values ss c) (values_to s c)) e

pub drop_first-store : (s : Segment) (ss : List Segment) (c : ℕ) → has_no_store s ≡ false
    → drop_first (s ∷ ss) c ≡ with_values s c (drop 1 (values_to s c)) ∷ ss
drop_first-store s ss c e =
    ap (λ b. cond b (s ∷ drop_first ss c) (with_values s c (drop 1 (values_to s c)) ∷ ss)) e

pub first_values-past : (ss : List Segment) (c : ℕ)
    → first_values (fin.empty ∷ ss) c ≡ first_values ss c
first_values-past ss c = ap (λ b. cond b (first_values ss c) (values_to fin.empty c)) no_store-empty

pub drop_first-past : (ss : List Segment) (c : ℕ)
    → drop_first (fin.empty ∷ ss) c ≡ fin.empty ∷ drop_first ss c
drop_first-past ss c =
    ap (λ b. cond b (fin.empty ∷ drop_first ss c)
    (with_values fin.empty c (drop 1 (values_to fin.empty c)) ∷ ss)) no_store-empty

-- the segment with one more store in front
abbrev pub with_first : ℕ → ℤ → Segment → Segment
with_first c v s = with_values s c (v ∷ values_to s c)

pub tidy-with_first : (c : ℕ) (v : ℤ) (s : Segment) → IsTidy s → IsTidy (with_first c v s)
tidy-with_first c v s t = tidy-with_values s c (v ∷ values_to s c) t

pub values-with_first-same : (c : ℕ) (v : ℤ) (s : Segment)
    → values_to (with_first c v s) c ≡ v ∷ values_to s c
values-with_first-same c v s =
    values-with_values s c _ c ∙ ap (λ b. cond b (v ∷ values_to s c) (values_to s c))
    (nat_eq_equiv.refl c)

pub values-with_first-other : (c : ℕ) (v : ℤ) (s : Segment) (d : ℕ) → (d == c) ≡ false
    → values_to (with_first c v s) d ≡ values_to s d
values-with_first-other c v s d e =
    values-with_values s c _ d ∙ ap (λ b. cond b (v ∷ values_to s c) (values_to s d)) e

pub has_store-with_first : (c : ℕ) (v : ℤ) (s : Segment) → has_no_store (with_first c v s) ≡ false
has_store-with_first c v s = has_store _ c (ap is_nil (values-with_first-same c v s))

cond_back : {A : Type 0} (b : Bool) (f : ℕ → A) (c d : ℕ) (x : A) → (d == c) ≡ b
    → cond b (f c) (cond b x (f d)) ≡ f d
cond_back true f c d x e = ap f (sym (eqb-true d c e))
cond_back false f c d x e = refl

-- putting back the old values of a cell undoes a change
pub with_values-back : (s : Segment) (c : ℕ) (vs : List ℤ) → IsTidy s
    → with_values (with_values s c vs) c (values_to s c) ≡ s
with_values-back s c vs t =
    same_values _ s (tidy-with_values _ c _ (tidy-with_values s c vs t)) t (λ d.
    values-with_values (with_values s c vs) c (values_to s c) d
    ∙ ap (cond (d == c) (values_to s c)) (values-with_values s c vs d)
    ∙ cond_back (d == c) (values_to s) c d vs refl)

either_first : {A : Type 0} (a b : Bool) (x y z : A) → (a ≡ true → b ≡ true → x ≡ y)
    → cond a x (cond b y z) ≡ cond b y (cond a x z)
either_first true true x y z e = e refl refl
either_first true false x y z e = refl
either_first false b x y z e = refl

not_both : (x c d : ℕ) → (c == d) ≡ false → (x == c) ≡ true → (x == d) ≡ true → ⊥
not_both x c d other p q = false≢true (sym other ∙ ap (λ y. y == d) (sym (eqb-true x c p)) ∙ q)

-- setting the values to one cell commutes with a first store to another
pub with_values-with_first : (s : Segment) (c : ℕ) (vs : List ℤ) (d : ℕ) (w : ℤ) → (c == d) ≡ false
    → IsTidy s
    → with_values (with_first d w s) c vs ≡ with_first d w (with_values s c vs)
with_values-with_first s c vs d w other t =
    same_values _ _ (tidy-with_values _ c vs (tidy-with_first d w s t))
    (tidy-with_first d w _ (tidy-with_values s c vs t)) (λ x.
    values-with_values (with_first d w s) c vs x
    ∙ ap (cond (x == c) vs) (values-with_values s d _ x)
    ∙ either_first (x == c) (x == d) vs (w ∷ values_to s d) (values_to s x)
    (λ p q. absurd (not_both x c d other p q))
    ∙ sym (
    values-with_values (with_values s c vs) d _ x
    ∙ ap (λ us. cond (x == d) (w ∷ us) (values_to (with_values s c vs) x))
    (values-with_values s c vs d
    ∙ ap (λ b. cond b vs (values_to s d)) (nat_eq_equiv.symm d c ∙ other))
    ∙ ap (cond (x == d) (w ∷ values_to s d)) (values-with_values s c vs x)))

-- the segment with one more store at the end
abbrev pub with_last : ℕ → ℤ → Segment → Segment
with_last c v s = with_values s c (values_to s c ++ v ∷ [])

-- a first store and a last store to one cell commute
with_last-with_first-same : (s : Segment) (c : ℕ) (v w : ℤ) → IsTidy s
    → with_last c v (with_first c w s) ≡ with_first c w (with_last c v s)
with_last-with_first-same s c v w t =
    same_values _ _ (tidy-with_values _ c _ (tidy-with_first c w s t))
    (tidy-with_first c w _ (tidy-with_values s c _ t)) (λ x.
    values-with_values (with_first c w s) c _ x
    ∙ ap (λ us. cond (x == c) (us ++ v ∷ []) (values_to (with_first c w s) x))
    (values-with_first-same c w s)
    ∙ ap (cond (x == c) (w ∷ values_to s c ++ v ∷ []))
    (values-with_values s c (w ∷ values_to s c) x)
    ∙ twice (x == c) (w ∷ values_to s c ++ v ∷ []) (w ∷ values_to s c) (values_to s x)
    (values_to s c ++ v ∷ [])
    ∙ sym (
    values-with_values (with_last c v s) c _ x
    ∙ ap (λ us. cond (x == c) (w ∷ us) (values_to (with_last c v s) x)) (values-with_values s c _ c
    ∙ ap (λ b. cond b (values_to s c ++ v ∷ []) (values_to s c)) (nat_eq_equiv.refl c))
    ∙ ap (cond (x == c) (w ∷ values_to s c ++ v ∷ []))
    (values-with_values s c (values_to s c ++ v ∷ []) x)))
  where
    twice : {A : Type 0} (b : Bool) (x y z u : A) → cond b x (cond b y z) ≡ cond b x (cond b u z)
    twice true x y z u = refl
    twice false x y z u = refl

by_cell : (s : Segment) (c : ℕ) (v : ℤ) (d : ℕ) (w : ℤ) (b : Bool) → (c == d) ≡ b → IsTidy s
    → with_last c v (with_first d w s) ≡ with_first d w (with_last c v s)
by_cell s c v d w true e t =
    subst (λ d. with_last c v (with_first d w s) ≡ with_first d w (with_last c v s))
    (eqb-true c d e)
    (with_last-with_first-same s c v w t)
by_cell s c v d w false e t =
    ap (λ us. with_values (with_first d w s) c (us ++ v ∷ [])) (values-with_first-other d w s c e)
    ∙ with_values-with_first s c _ d w e t

-- a first store and a last store commute
pub with_last-with_first : (s : Segment) (c : ℕ) (v : ℤ) (d : ℕ) (w : ℤ) → IsTidy s
    → with_last c v (with_first d w s) ≡ with_first d w (with_last c v s)
with_last-with_first s c v d w t = by_cell s c v d w _ refl t
