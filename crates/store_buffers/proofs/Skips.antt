-- Segments after empty ones, and the last one.
use Rattle.std.proofs.Common.{
  ◌≡◌,
  ◌+◌,
  ℕ,
  ℤ,
  zero,
  suc,
  add-one,
  List,
  [],
  ◌∷◌,
  ◌++◌,
  replicate,
  drop,
  length,
  refl,
  ap,
  sym,
  ◌∙◌,
  Option,
  Some,
  None,
  Bool,
  true,
  false,
  cond,
  ◌&&◌,
  append_assoc,
  is_some,
  ◌<◌,
  slice_index_or,
  length-append,
  ◌==◌,
  arith,
}
use Rattle.std.proofs.Math.Dec.{eqb-suc-zero}
use Rattle.std.specs.List.{list_all, last_or}
use Rattle.std.specs.Option.{option_or}
use Rattle.std.specs.FinMap as fin
use Rattle.std.specs.FinMap.{empty_of_len}
use Rattle.std.proofs.lemmas.Bool.{false≢true, eqb-true}
use Rattle.std.proofs.Math.Bool.{and-true}
use Rattle.std.proofs.lemmas.List.{length-replicate}
use Rattle.list_laws.proofs.Options.{or_none}
use Rattle.store_buffers.specs.Buffers.{Segment, values_to, with_values, has_no_store, issue_last, last_value, first_values, drop_first}
use Rattle.list_laws.specs.Lists.{is_nil}
use Rattle.store_buffers.specs.helpers.Lists.{or_assoc}
use Rattle.store_buffers.specs.helpers.Segments.{values-empty, no_store-empty, has_store}
use Rattle.store_buffers.specs.helpers.Segments.{first_values-store, first_values-past, drop_first-store, drop_first-past}
use Rattle.store_buffers.specs.helpers.Seen.{after_empty, begins_empty, values_in_first, drop_in_first}

-- a store goes into the last segment
pub issue-last : (ss : List Segment) (s : Segment) (c : ℕ) (v : ℤ) → issue_last (ss ++ s ∷ []) c v ≡ ss ++ with_values s c (values_to s c ++ v ∷ []) ∷ []
issue-last [] s c v = refl
issue-last (t ∷ []) s c v = refl
issue-last (t ∷ u ∷ ss) s c v = ap (λ us. t ∷ us) (issue-last (u ∷ ss) s c v)

pub last_value-append : (ss : List Segment) (s : Segment) (c : ℕ) → last_value (ss ++ s ∷ []) c ≡ option_or (last_or None (values_to s c)) (last_value ss c)
last_value-append [] s c = sym (or_none (last_or None (values_to s c)))
last_value-append (t ∷ ss) s c = ap (λ o. option_or o (last_or None (values_to t c))) (last_value-append ss s c)
    ∙ or_assoc (last_or None (values_to s c)) (last_value ss c) (last_or None (values_to t c))

pub last_value-after : (n : ℕ) (ss : List Segment) (c : ℕ) → last_value (after_empty n ss) c ≡ last_value ss c
last_value-after zero ss c = refl
last_value-after (suc n) ss c = ap (λ vs. option_or (last_value (after_empty n ss) c) (last_or None vs)) (values-empty c) ∙ or_none _ ∙ last_value-after n ss c

pub all_empty-after : (n : ℕ) (ss : List Segment) → list_all has_no_store (after_empty n ss) ≡ list_all has_no_store ss
all_empty-after zero ss = refl
all_empty-after (suc n) ss = ap (λ b. b && list_all has_no_store (after_empty n ss)) no_store-empty ∙ all_empty-after n ss

pub first_values-after : (n : ℕ) (ss : List Segment) (c : ℕ) → first_values (after_empty n ss) c ≡ first_values ss c
first_values-after zero ss c = refl
first_values-after (suc n) ss c = first_values-past (after_empty n ss) c ∙ first_values-after n ss c

pub drop_first-after : (n : ℕ) (ss : List Segment) (c : ℕ) → drop_first (after_empty n ss) c ≡ after_empty n (drop_first ss c)
drop_first-after zero ss c = refl
drop_first-after (suc n) ss c =
    drop_first-past (after_empty n ss) c
    ∙ ap (λ us. fin.empty ∷ us) (drop_first-after n ss c)

-- one more empty segment in front
pub one_more : (n : ℕ) (ss : List Segment) → after_empty (n + 1) ss ≡ after_empty n (fin.empty ∷ ss)
one_more n ss = ap (λ k. after_empty k ss) (add-one n) ∙ one_behind n ss
  where
    one_behind : (n : ℕ) (ss : List Segment) → after_empty (suc n) ss ≡ after_empty n (fin.empty ∷ ss)
    one_behind zero ss = refl
    one_behind (suc n) ss = ap (λ us. fin.empty ∷ us) (one_behind n ss)

-- a segment without a store is the empty one
pub empty_is : (s : Segment) → has_no_store s ≡ true → s ≡ fin.empty
empty_is s e = empty_of_len s (eqb-true (fin.len s) 0 e)

no_values : (s : Segment) (c : ℕ) (b : Bool) → has_no_store s ≡ b → cond b [] (values_to s c) ≡ values_to s c
no_values s c true e = sym (ap (λ t. values_to t c) (empty_is s e) ∙ values-empty c)
no_values s c false e = refl

-- a single segment counts with or without a store
pub first_values-alone : (s : Segment) (c : ℕ) → first_values (s ∷ []) c ≡ values_to s c
first_values-alone s c = no_values s c _ refl

-- the segments after a store, a load, a drain and a bar
pub issued : (n : ℕ) (older : List Segment) (s t : Segment) (now : List Segment) (c : ℕ) (v w : ℤ) → after_empty n (older ++ s ∷ []) ≡ now → w ≡ v
    → t ≡ with_values s c (values_to s c ++ w ∷ []) → after_empty n (older ++ t ∷ []) ≡ issue_last now c v
issued n older s t now c v w is same put =
    ap (λ u. after_empty n (older ++ u ∷ [])) (put ∙ ap (λ x. with_values s c (values_to s c ++ x ∷ [])) same)
    ∙ sym (
    ap (λ ss. issue_last ss c v) (sym is ∙ sym (append_assoc (replicate n fin.empty) older (s ∷ [])))
    ∙ issue-last (replicate n fin.empty ++ older) s c v
    ∙ append_assoc (replicate n fin.empty) older (with_values s c (values_to s c ++ v ∷ []) ∷ []))

pub forwarded : (n : ℕ) (older : List Segment) (s : Segment) (now : List Segment) (c : ℕ) → after_empty n (older ++ s ∷ []) ≡ now
    → option_or (last_or None (values_to s c)) (last_value older c) ≡ last_value now c
forwarded n older s now c is = sym (ap (λ ss. last_value ss c) (sym is) ∙ last_value-after n (older ++ s ∷ []) c ∙ last_value-append older s c)

pub some_or : (o p : Option ℤ) → is_some o ≡ true → option_or o p ≡ o
some_or None p e = absurd (false≢true e)
some_or (Some v) p e = refl

pub none_or : (o p : Option ℤ) → is_some o ≡ false → option_or o p ≡ p
none_or None p e = refl
none_or (Some v) p e = absurd (false≢true (sym e))

pub front_values : (n : ℕ) (older : List Segment) (s : Segment) (now : List Segment) (c : ℕ) → after_empty n (older ++ s ∷ []) ≡ now
    → begins_empty older ≡ false → first_values now c ≡ first_values (older ++ s ∷ []) c
front_values n older s now c is begins = ap (λ ss. first_values ss c) (sym is) ∙ first_values-after n (older ++ s ∷ []) c

pub older_front : (older : List Segment) (s : Segment) (x : Segment) (c : ℕ) → 0 < length older → x ≡ slice_index_or older 0 x
    → begins_empty older ≡ false → first_values (older ++ s ∷ []) c ≡ values_to x c
older_front [] s x c some at begins = absurd (omega arith)
older_front (t ∷ older) s x c some at begins = first_values-store t (older ++ s ∷ []) c begins ∙ ap (λ u. values_to u c) (sym at)

pub older_first : (older : List Segment) (s : Segment) (c : ℕ) → 0 < length older → begins_empty older ≡ false
    → first_values (older ++ s ∷ []) c ≡ values_in_first older c
older_first [] s c some begins = absurd (omega arith)
older_first (t ∷ older) s c some begins = first_values-store t (older ++ s ∷ []) c begins

pub older_dropped : (older : List Segment) (s : Segment) (c : ℕ) → 0 < length older → begins_empty older ≡ false
    → drop_first (older ++ s ∷ []) c ≡ drop_in_first older c ++ s ∷ []
older_dropped [] s c some begins = absurd (omega arith)
older_dropped (t ∷ older) s c some begins = drop_first-store t (older ++ s ∷ []) c begins

pub all_empty : (n : ℕ) (older : List Segment) (s : Segment) (now : List Segment) → after_empty n (older ++ s ∷ []) ≡ now → begins_empty older ≡ false
    → list_all has_no_store now ≡ is_nil older && has_no_store s
all_empty n [] s now is begins = ap (list_all has_no_store) (sym is) ∙ all_empty-after n (s ∷ []) ∙ and-true (has_no_store s)
all_empty n (t ∷ older) s now is begins = ap (list_all has_no_store) (sym is) ∙ all_empty-after n (t ∷ older ++ s ∷ [])
    ∙ ap (λ b. b && list_all has_no_store (older ++ s ∷ [])) begins

pub length-after : (n : ℕ) (ss : List Segment) → length (after_empty n ss) ≡ n + length ss
length-after n ss = length-append (replicate n fin.empty) ss ∙ ap (λ k. k + length ss) (length-replicate n fin.empty)

-- the number of segments
pub segment_count : (n : ℕ) (older : List Segment) (s : Segment) (now : List Segment) → after_empty n (older ++ s ∷ []) ≡ now
    → length now ≡ n + (length older + 1)
segment_count n older s now is = ap length (sym is) ∙ length-after n (older ++ s ∷ []) ∙ ap (λ k. n + k) (length-append older (s ∷ []))

-- a bar after only empty segments adds one more
pub barred_empty : (n : ℕ) (older : List Segment) (s : Segment) (now : List Segment) → after_empty n (older ++ s ∷ []) ≡ now
    → begins_empty older ≡ false → list_all has_no_store now ≡ true → after_empty (n + 1) (older ++ s ∷ []) ≡ now ++ fin.empty ∷ []
barred_empty n [] s now is begins e =
    let none = empty_is s (sym (all_empty n [] s now is refl) ∙ e) in
    one_more n (s ∷ [])
    ∙ ap (λ t. after_empty n (fin.empty ∷ t ∷ [])) none
    ∙ ap (λ t. after_empty n (t ∷ fin.empty ∷ [])) (sym none)
    ∙ sym (append_assoc (replicate n fin.empty) (s ∷ []) (fin.empty ∷ []))
    ∙ ap (λ ss. ss ++ fin.empty ∷ []) is
barred_empty n (t ∷ older) s now is begins e = absurd (false≢true (sym (all_empty n (t ∷ older) s now is begins) ∙ e))

-- segments that aren't all empty begin with a store once the last one is among the older ones
pub begins_after : (n : ℕ) (older : List Segment) (s : Segment) (now : List Segment) → after_empty n (older ++ s ∷ []) ≡ now
    → begins_empty older ≡ false → list_all has_no_store now ≡ false → begins_empty (older ++ s ∷ []) ≡ false
begins_after n [] s now is begins e = sym (all_empty n [] s now is refl) ∙ e
begins_after n (t ∷ older) s now is begins e = begins

-- with no older segment the last one counts
pub alone_front : (older : List Segment) (s : Segment) (c : ℕ) → older ≡ [] → first_values (older ++ s ∷ []) c ≡ values_to s c
alone_front older s c none = ap (λ ss. first_values (ss ++ s ∷ []) c) none ∙ first_values-alone s c

pub none_by_variant : (ss : List Segment) (n : ℕ) → n ≡ length ss → (0 < n → false ≡ true) → ss ≡ []
none_by_variant [] n len h = refl
none_by_variant (s ∷ ss) n len h = absurd (false≢true (h (omega arith)))

pub nil_test : {A : Type 0} (xs : List A) (n : ℕ) → n ≡ length xs → (n == 0) ≡ is_nil xs
nil_test [] n len = ap (λ k. k == 0) len
nil_test (x ∷ xs) n len = ap (λ k. k == 0) len ∙ eqb-suc-zero (length xs)

pub some_len : {A : Type 0} (xs : List A) → is_nil xs ≡ false → 0 < length xs
some_len [] e = absurd (false≢true (sym e))
some_len (x ∷ xs) e = omega arith

-- an empty segment in front is skipped
pub skipped_one : (n : ℕ) (ss ts : List Segment) → begins_empty ss ≡ true → ts ≡ drop 1 ss → after_empty (n + 1) ts ≡ after_empty n ss
skipped_one n [] ts begins is = absurd (false≢true begins)
skipped_one n (s ∷ ss) ts begins is = one_more n ts ∙ ap (λ us. after_empty n (fin.empty ∷ us)) is ∙ ap (λ t. after_empty n (t ∷ ss)) (sym (empty_is s begins))

pub skipped_len : (ss ts : List Segment) → begins_empty ss ≡ true → ts ≡ drop 1 ss → length ts + 1 ≡ length ss
skipped_len [] ts begins is = absurd (false≢true begins)
skipped_len (s ∷ ss) ts begins is = ap (λ us. length us + 1) is ∙ add-one (length ss)

-- a drain from the last segment, if there is no other
pub drained_last : (n : ℕ) (older : List Segment) (s t : Segment) (now : List Segment) (c : ℕ) → after_empty n (older ++ s ∷ []) ≡ now → older ≡ []
    → is_nil (first_values now c) ≡ false → t ≡ with_values s c (drop 1 (values_to s c)) → after_empty n (older ++ t ∷ []) ≡ drop_first now c
drained_last n older s t now c is none some put =
    let alone : after_empty n (s ∷ []) ≡ now = ap (λ ss. after_empty n (ss ++ s ∷ [])) (sym none) ∙ is in
    let values = ap (λ ss. first_values ss c) (sym alone) ∙ first_values-after n (s ∷ []) c ∙ first_values-alone s c in
    ap (λ ss. after_empty n (ss ++ t ∷ [])) none
    ∙ ap (λ u. after_empty n (u ∷ [])) put
    ∙ sym (ap (λ ss. drop_first ss c) (sym alone) ∙ drop_first-after n (s ∷ []) c
    ∙ ap (after_empty n) (drop_first-store s [] c (has_store s c (sym (ap is_nil values) ∙ some))))

-- a drain from the first of the older segments
pub drained_older : (n m : ℕ) (older popped new : List Segment) (s : Segment) (now : List Segment) (c : ℕ) → after_empty n (older ++ s ∷ []) ≡ now
    → begins_empty older ≡ false → 0 < length older → popped ≡ drop_in_first older c → after_empty m new ≡ after_empty n popped
    → after_empty m (new ++ s ∷ []) ≡ drop_first now c
drained_older n m older popped new s now c is begins some put same =
    sym (append_assoc (replicate m fin.empty) new (s ∷ []))
    ∙ ap (λ ss. ss ++ s ∷ []) (same ∙ ap (after_empty n) put)
    ∙ append_assoc (replicate n fin.empty) (drop_in_first older c) (s ∷ [])
    ∙ sym (ap (λ ss. drop_first ss c) (sym is) ∙ drop_first-after n (older ++ s ∷ []) c ∙ ap (after_empty n) (older_dropped older s c some begins))
