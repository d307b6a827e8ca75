-- A `BTreeMap` by cell, as a segment.
use Rattle.std.proofs.Common.{
  ◌≡◌,
  ◌==◌,
  ℕ,
  ℤ,
  length,
  List,
  [],
  ◌∷◌,
  ◌++◌,
  refl,
  ap,
  sym,
  subst,
  ◌∙◌,
  Option,
  Some,
  None,
  Bool,
  true,
  false,
  cond,
  not,
  is_some,
  unwrap_or,
  IsTrue,
  IsSome,
  IfSome,
  suc,
  ◌↔◌,
  ◌<◌,
  ◌-◌,
  slice_index_or,
  arith,
  Bor,
  option_copied,
  Result,
  Ok,
  Err,
  OnOk,
  OnErr,
}
use Rattle.std.specs.List.{last_or}
use Rattle.std.proofs.lemmas.List.{nil_from_length}
use Rattle.std.specs.FinMap as fin
use Rattle.std.specs.FinMap.{find, put, entries, entries-insert, len-entries, len-empty, get-from_entries, same_map, nat_cmp-IsAntisymmetric}
use Rattle.std.specs.Ordering.{nat_cmp}
use Rattle.std.specs.Cmp.{nat_cmp_total, nat_eq_equiv, unsigned_tied}
use Rattle.std.specs.Map.{lookup, keys_of}
use Rattle.std.specs.List.{AllByRecursion}
use Rattle.std.specs.List.Sorted.{IsStrictlySortedBy}
use Rattle.std.specs.declared.cmp.Ordering.TheVariants.{Less}
use Rattle.std.proofs.lemmas.Map.Keys.{sorted_head, sorted_tail}
use Rattle.std.specs.BTreeMap.{is_at}
use Rattle.std.proofs.lemmas.Bool.{false≢true, eqb-true}
use Rattle.std.proofs.lemmas.Option.{none-some}
use Rattle.std.proofs.Math.Dec.{eqb-suc-zero}
use Rattle.std.proofs.lemmas.Bool.Decides.{nat_tests}
use Rattle.store_buffers.specs.Buffers.{Segment, values_to, with_values, has_no_store}
use Rattle.list_laws.specs.Lists.{is_nil}
use Rattle.store_buffers.specs.helpers.Segments.{
  IsTidy,
  some_values,
  get-with_values,
  values-with_values,
  same_values,
  tidy-with_values,
  no_store-empty,
  has_store,
}

abbrev pub Entries : Type 0
Entries = List (ℕ × List ℤ)

-- the values of the first entry at a cell
abbrev pub at_cell : Entries → ℕ → Option (List ℤ)
at_cell es c = lookup (is_at (nat_cmp c)) es

abbrev pub segment_of : Entries → Segment
segment_of es = fin.from_entries es

find-at_cell : (es : Entries) (c : ℕ) → find nat_cmp c es ≡ at_cell es c
find-at_cell [] c = refl
find-at_cell (e ∷ es) c = ap (cond (is_at (nat_cmp c) e.0) (Some e.1)) (find-at_cell es c)

pub get-segment_of : (es : Entries) (c : ℕ) → fin.get (segment_of es) c ≡ at_cell es c
get-segment_of es c = get-from_entries nat_cmp_total es c ∙ find-at_cell es c

pub get_of_entries : (es : Entries) (s : Segment) (c : ℕ) → segment_of es ≡ s → fin.get s c ≡ at_cell es c
get_of_entries es s c e = ap (λ t. fin.get t c) (sym e) ∙ get-segment_of es c

-- changing the entries at one cell changes the segment there
pub segment_of_update : (es fs : Entries) (c : ℕ) (vs : List ℤ)
    → ((d : ℕ) → at_cell fs d ≡ cond (is_at (nat_cmp c) d) (some_values vs) (at_cell es d)) → segment_of fs ≡ with_values (segment_of es) c vs
segment_of_update es fs c vs h = same_map nat_cmp_total nat_cmp-IsAntisymmetric _ _ (λ d.
    get-segment_of fs d ∙ h d
    ∙ ap (λ b. cond b (some_values vs) (at_cell es d)) (unsigned_tied c d ∙ nat_eq_equiv.symm c d)
    ∙ ap (cond (d == c) (some_values vs)) (sym (get-segment_of es d))
    ∙ sym (get-with_values (segment_of es) c vs d))

is_some-some_values : (vs : List ℤ) → is_some (some_values vs) ≡ not (is_nil vs)
is_some-some_values [] = refl
is_some-some_values (v ∷ vs) = refl

-- whether there is an entry at a cell
pub is_there : (s : Segment) (c : ℕ) (o : Option (List ℤ)) → IsTidy s → fin.get s c ≡ o → is_some o ≡ not (is_nil (values_to s c))
is_there s c o t e = ap is_some (sym e ∙ t.at c) ∙ is_some-some_values (values_to s c)

back_there : {A : Type 0} (b : Bool) (f : ℕ → A) (c d : ℕ) → (d == c) ≡ b → cond b (f c) (f d) ≡ f d
back_there true f c d e = ap f (sym (eqb-true d c e))
back_there false f c d e = refl

-- putting in the values that are there changes nothing
pub with_values-same : (s : Segment) (c : ℕ) → IsTidy s → with_values s c (values_to s c) ≡ s
with_values-same s c t = same_values _ s (tidy-with_values s c _ t) t (λ d. values-with_values s c (values_to s c) d
    ∙ back_there (d == c) (values_to s) c d refl)

some_entry : (vs ws : List ℤ) → some_values vs ≡ Some ws → is_nil vs ≡ false
some_entry [] ws e = absurd (none-some ws e)
some_entry (v ∷ vs) ws e = refl

pub no_entry-none : (es : Entries) → IsTidy (segment_of es) → has_no_store (segment_of es) ≡ (length es == 0)
no_entry-none [] t = no_store-empty
no_entry-none (e ∷ es) t =
    has_store (segment_of (e ∷ es)) e.0
    (some_entry _ e.1 (sym (t.at e.0) ∙ get-segment_of (e ∷ es) e.0
    ∙ ap (λ b. cond b (Some e.1) (at_cell es e.0)) (unsigned_tied e.0 e.0 ∙ nat_eq_equiv.refl e.0)))
    ∙ sym (eqb-suc-zero (length es))

-- a test of whether a number is 0
pub tested : (b : Bool) (n : ℕ) → IsTrue b ↔ (n ≡ 0) → b ≡ (n == 0)
tested b n h = grind (arith, nat_tests, h)

last_item : (x : ℤ) (xs : List ℤ) (d : ℤ) → last_or (Some x) xs ≡ Some (slice_index_or (x ∷ xs) (length xs) d)
last_item x [] d = refl
last_item x (y ∷ xs) d = last_item y xs d

none_below : (n : ℕ) → n ≡ 0 → 0 < n → ⊥
none_below n e h = omega arith

-- the last value, as a `VecDeque` finds it
pub last_is : (xs : List ℤ) (n : ℕ) (o : Option ℤ) → n ≡ length xs → IsSome o ↔ (0 < n) → IfSome o (λ x. x ≡ slice_index_or xs (n - 1) x) → o ≡ last_or None xs
last_is [] n None len is at = refl
last_is [] n (Some x) len is at = absurd (none_below n len (is.0 refl))
last_is (x ∷ xs) n None len is at = absurd (false≢true (is.1 (omega arith)))
last_is (x ∷ xs) n (Some y) len is at = ap Some (at ∙ ap (λ k. slice_index_or (x ∷ xs) k y) (one_less n (length xs) len)) ∙ sym (last_item x xs y)
  where
    one_less : (n m : ℕ) → n ≡ suc m → n - 1 ≡ m
    one_less n m e = omega arith

pub last_of_back : (xs : List ℤ) (n : ℕ) (r : Option (Bor ℤ)) → n ≡ length xs → IsSome r ↔ (0 < n)
    → IfSome r (λ x. x.now ≡ slice_index_or xs (n - 1) x.now) → option_copied r ≡ last_or None xs
last_of_back xs n None len is at = last_is xs n None len is tt
last_of_back xs n (Some x) len is at = last_is xs n (Some x.now) len is at

-- the values at a cell, from its entry
pub entry_values : (es : Entries) (s : Segment) (c : ℕ) (o : Option (List ℤ)) → segment_of es ≡ s → at_cell es c ≡ o → values_to s c ≡ unwrap_or o []
entry_values es s c o is at = ap (λ p. unwrap_or p []) (get_of_entries es s c is ∙ at)

entry_of : (vs : List ℤ) → is_nil vs ≡ false → some_values vs ≡ Some vs
entry_of [] e = absurd (false≢true (sym e))
entry_of (v ∷ vs) e = refl

-- values put in at a cell
pub put_values : (es fs : Entries) (s : Segment) (c : ℕ) (vs : List ℤ) → segment_of es ≡ s → is_nil vs ≡ false
    → ((d : ℕ) → at_cell fs d ≡ cond (is_at (nat_cmp c) d) (Some vs) (at_cell es d)) → segment_of fs ≡ with_values s c vs
put_values es fs s c vs is some h = segment_of_update es fs c vs
    (λ d. h d ∙ ap (λ o. cond (is_at (nat_cmp c) d) o (at_cell es d)) (sym (entry_of vs some))) ∙ ap (λ t. with_values t c vs) is

-- values taken out at a cell
pub out_values : (es fs : Entries) (s : Segment) (c : ℕ) → segment_of es ≡ s
    → ((d : ℕ) → at_cell fs d ≡ cond (is_at (nat_cmp c) d) None (at_cell es d)) → segment_of fs ≡ with_values s c []
out_values es fs s c is h = segment_of_update es fs c [] h ∙ ap (λ t. with_values t c []) is

pub tidy_put : (es fs : Entries) (s : Segment) (c : ℕ) (vs : List ℤ) → segment_of es ≡ s → IsTidy (segment_of es) → segment_of fs ≡ with_values s c vs
    → IsTidy (segment_of fs)
tidy_put es fs s c vs is t put = subst IsTidy (sym put) (tidy-with_values s c vs (subst IsTidy is t))

pub nil-append : (vs : List ℤ) (v : ℤ) → is_nil (vs ++ v ∷ []) ≡ false
nil-append [] v = refl
nil-append (w ∷ vs) v = refl

-- values stay some, whether or not one is added
pub some_after : {T E : Type 0} (r : Result T E) (old new : List ℤ) (v : ℤ) → OnOk r (new ≡ old ++ v ∷ []) → OnErr r (new ≡ old) → is_nil old ≡ false
    → is_nil new ≡ false
some_after (Ok x) old new v ok err some = ap is_nil ok ∙ nil-append old v
some_after (Err x) old new v ok err some = ap is_nil err ∙ some

put_front : (c : ℕ) (vs : List ℤ) (es : Entries) → AllByRecursion (λ d. nat_cmp c d ≡ Less) (keys_of es) → put nat_cmp c vs es ≡ (c, vs) ∷ es
put_front c vs [] h = refl
put_front c vs (e ∷ es) h = rw h.0 refl

-- entries in order are those of their segment
entries-segment_of : (es : Entries) → IsStrictlySortedBy nat_cmp (keys_of es) → entries (segment_of es) ≡ es
entries-segment_of [] h = nil_from_length _ (sym (len-entries fin.empty) ∙ len-empty nat_cmp (List ℤ))
entries-segment_of (e ∷ es) h =
    entries-insert nat_cmp_total (segment_of es) e.0 e.1
    ∙ ap (put nat_cmp e.0 e.1) (entries-segment_of es (sorted_tail _ e.0 (keys_of es) h))
    ∙ put_front e.0 e.1 es (sorted_head _ e.0 (keys_of es) h)

-- the cells of entries in order are those of their segment
pub keys-segment_of : (es : Entries) → IsStrictlySortedBy nat_cmp (keys_of es) → fin.keys (segment_of es) ≡ keys_of es
keys-segment_of es h = ap keys_of (entries-segment_of es h)
