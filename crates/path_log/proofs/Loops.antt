-- Fields read one after the other, as a loop does.
use Rattle.std.proofs.Common.{
  ◌≡◌,
  ◌<◌,
  ◌≤◌,
  ◌+◌,
  ◌-◌,
  ℕ,
  zero,
  suc,
  Bool,
  true,
  false,
  cond,
  List,
  [],
  ◌∷◌,
  ◌++◌,
  length,
  Option,
  Some,
  Result,
  Ok,
  Err,
  refl,
  sym,
  ap,
  ◌∙◌,
  append_assoc,
  arith,
  not,
  subst,
  leb,
}
use Rattle.std.specs.Prelude.{slice_get, option_map, replicate}
use Rattle.std.proofs.lemmas.Bool.{and_parts, leb-true, ne_eqb}
use Rattle.std.proofs.lemmas.List.{append-nil, length-append}
use Rattle.list_laws.proofs.Lists.{get_seam}
use Rattle.tc_base.specs.Names.{Name}
use Rattle.tc_base.specs.Paths.{ThreadPath}
use Rattle.path_log.specs.declared.fault.LogFault.{LogFault}
use Rattle.path_log.specs.declared.fault.LogFault.TheVariants.{Form, Memory}
use Rattle.path_log.specs.Texts.{is_within}
use Rattle.path_log.specs.Fields.{Place, Fields, done, behind, kept, ◌such◌, ◌>>=◌, two, times, lengths, alternating, runs_of, thread, threads}
use Rattle.path_log.specs.helpers.Reading.{Fails, last_name}

-- the result of a read, under a name that a proof can take apart
abbrev pub Read : Type 0 → Type 0
Read X = Result (X × Place) ℕ

abbrev pub whole_read : {X : Type 0} → X × Place → Read X
whole_read x = Ok x

pub read_is : {X : Type 0} (x y : X × Place) → whole_read x ≡ whole_read y → x ≡ y
read_is x y e = cc

pub guard_ok : {X : Type 0} (b : Bool) (offset : ℕ) (y x : X × Place) → cond b (Ok y) (Err offset) ≡ Ok x → (b ≡ true) × (y ≡ x)
guard_ok true offset y x e = (refl, cc)
guard_ok false offset y x e = absurd cc

kept_passes : {X : Type 0} (rule : X → Bool) (offset : ℕ) (r : Read X) (x : X × Place) → kept rule offset r ≡ Ok x → (r ≡ Ok x) × (rule x.0 ≡ true)
kept_passes {X} rule offset (Ok y) x e =
    let g = guard_ok (rule y.0) offset y x e in
    (ap (λ (z : X × Place). whole_read z) g.1, subst (λ (z : X × Place). rule z.0 ≡ true) g.1 g.0)
kept_passes rule offset (Err other) x e = absurd cc

-- a value that passes its rule
pub such_passes : {X : Type 0} (fields : Fields X) (rule : X → Bool) (place : Place) (x : X × Place) → (fields such rule) place ≡ Ok x
    → (fields place ≡ Ok x) × (rule x.0 ≡ true)
such_passes fields rule place x e = kept_passes rule place.0 (fields place) x e

pub within : (low high : ℕ) (fields : Fields ℕ) (place : Place) (x : ℕ × Place) → (fields such is_within low high) place ≡ Ok x → (low ≤ x.0) × (x.0 ≤ high)
within low high fields place x e =
    let passes = and_parts (leb low x.0) (leb x.0 high) (such_passes fields (is_within low high) place x e).1 in
    (leb-true _ _ passes.0, leb-true _ _ passes.1)

-- the result with what was read before
abbrev pub with_front : {X : Type 0} → List X → Read (List X) → Read (List X)
with_front front read = behind read (λ others. done (front ++ others))

pub no_front : {X : Type 0} (read : Read (List X)) → with_front [] read ≡ read
no_front (Ok x) = refl
no_front (Err offset) = refl

regroup : {X : Type 0} (front : List X) (x : X) (read : Read (List X)) →
    with_front front (behind read (λ others. done (x ∷ others))) ≡ with_front (front ++ x ∷ []) read
regroup {X} front x (Ok y) = ap (λ (xs : List X). whole_read (xs, y.1)) (sym (append_assoc front (x ∷ []) y.0))
regroup front x (Err offset) = refl

fails_through : {X Y : Type 0} (fault : LogFault) (read : Read X) (more : X → Fields Y) → Fails fault read → Fails fault (behind read more)
fails_through Memory read more h = tt
fails_through {X} (Form offset) read more h = ap (λ (r : Read X). behind r more) h

same_fails : {X : Type 0} (fault : LogFault) (this that : Read X) → this ≡ that → Fails fault this → Fails fault that
same_fails {X} fault this that e h = subst (λ (r : Read X). Fails fault r) e h

-- a value, and the values after it
abbrev and_others : {X : Type 0} → (X → Fields (List X)) → X → Fields (List X)
and_others later x = later x >>= λ others. done (x ∷ others)

-- One turn of a loop: the rest to read begins with one more value.
module _ {X : Type 0} (front : List X) (first : Read X) (later : X → Fields (List X)) (all total : Read (List X))
    (begins : all ≡ behind first (and_others later)) (so_far : with_front front all ≡ total) where
  one_on : (x : X) (after : Place) → first ≡ Ok (x, after) → with_front (front ++ x ∷ []) (later x after) ≡ total
  one_on x after h =
      sym (regroup front x (later x after)) ∙ (sym (ap (λ (r : Read X). with_front front (behind r (and_others later))) h)
      ∙ (ap (with_front front) (sym begins) ∙ so_far))

  one_fails : (fault : LogFault) → Fails fault first → Fails fault total
  one_fails fault h =
      same_fails fault _ total (ap (with_front front) (sym begins) ∙ so_far)
      (fails_through fault _ (λ others. done (front ++ others)) (fails_through fault first (and_others later) h))

-- nothing is left to read
all_read : {X : Type 0} (front : List X) (place : Place) (all total : Read (List X)) → all ≡ Ok ([], place) → with_front front all ≡ total
    → total ≡ Ok (front, place)
all_read {X} front place all total none so_far =
    sym so_far ∙ (ap (with_front front) none ∙ ap (λ (xs : List X). whole_read (xs, place)) (append-nil front))

-- the number left, by the number left after the next one
next_left : (count i : ℕ) → i < count → count - i ≡ suc (count - (i + 1))
next_left count i lt = omega arith

none_left : (count i : ℕ) → count ≤ i → count - i ≡ 0
none_left count i le = omega arith

-- Fields of one kind.

pub times_on : {X : Type 0} (fields : Fields X) (front : List X) (count i : ℕ) (place : Place) (x : X) (after : Place) (total : Read (List X)) → i < count
    → fields place ≡ Ok (x, after) → with_front front (times fields (count - i) place) ≡ total
    → with_front (front ++ x ∷ []) (times fields (count - (i + 1)) after) ≡ total
times_on fields front count i place x after total lt h so_far =
    one_on front (fields place) (λ _. times fields (count - (i + 1))) _ total (ap (λ n. times fields n place) (next_left count i lt)) so_far x after h

pub times_fails : {X : Type 0} (fault : LogFault) (fields : Fields X) (front : List X) (count i : ℕ) (place : Place) (total : Read (List X)) → i < count
    → Fails fault (fields place) → with_front front (times fields (count - i) place) ≡ total → Fails fault total
times_fails fault fields front count i place total lt h so_far =
    one_fails front (fields place) (λ _. times fields (count - (i + 1))) _ total (ap (λ n. times fields n place) (next_left count i lt)) so_far fault h

pub times_done : {X : Type 0} (fields : Fields X) (front : List X) (count i : ℕ) (place : Place) (total : Read (List X)) → count ≤ i
    → with_front front (times fields (count - i) place) ≡ total → total ≡ Ok (front, place)
times_done fields front count i place total le so_far =
    all_read front place _ total (ap (λ n. times fields n place) (none_left count i le)) so_far

-- Threads.

last_push : (ts : List ThreadPath) (t : ThreadPath) → last_name (ts ++ t ∷ []) ≡ Some t.name
last_push ts t =
    let len : length (ts ++ t ∷ []) - 1 ≡ length ts = omega (arith, length-append ts (t ∷ [])) in
    ap (λ (n : ℕ). option_map (λ (t : ThreadPath). t.name) (slice_get (ts ++ t ∷ []) n)) len
    ∙ ap (option_map (λ (t : ThreadPath). t.name)) (get_seam ts t [])

module _ (as_runs : Bool) (front : List ThreadPath) (count i : ℕ) (place : Place) where
  abbrev all_left : Read (List ThreadPath)
  all_left = threads as_runs (count - i) (last_name front) place

  abbrev later_left : ThreadPath → Fields (List ThreadPath)
  later_left t = threads as_runs (count - (i + 1)) (Some t.name)

  begins_with : i < count → all_left ≡ behind (thread as_runs (last_name front) place) (and_others later_left)
  unfolding threads
  begins_with lt = ap (λ (n : ℕ). threads as_runs n (last_name front) place) (next_left count i lt)

  pub threads_on : (t : ThreadPath) (after : Place) (total : Read (List ThreadPath)) → i < count → thread as_runs (last_name front) place ≡ Ok (t, after)
      → with_front front all_left ≡ total → with_front (front ++ t ∷ []) (threads as_runs (count - (i + 1)) (last_name (front ++ t ∷ [])) after) ≡ total
  threads_on t after total lt h so_far =
      ap (λ (last : Option Name). with_front (front ++ t ∷ []) (threads as_runs (count - (i + 1)) last after)) (last_push front t)
      ∙ one_on front _ later_left all_left total (begins_with lt) so_far t after h

  pub threads_fail : (fault : LogFault) (total : Read (List ThreadPath)) → i < count → Fails fault (thread as_runs (last_name front) place)
      → with_front front all_left ≡ total → Fails fault total
  threads_fail fault total lt h so_far = one_fails front _ later_left all_left total (begins_with lt) so_far fault h

  pub threads_done : (total : Read (List ThreadPath)) → count ≤ i → with_front front all_left ≡ total → total ≡ Ok (front, place)
  unfolding threads
  threads_done total le so_far =
      all_read front place all_left total (ap (λ (n : ℕ). threads as_runs n (last_name front) place) (none_left count i le)) so_far

-- Runs.

-- some outcomes were read, and `left` more follow, the first of which is this one
pub record RunsSoFar (front : List Bool) (outcome : Bool) (left : ℕ) (place : Place) (total : Read (List Bool)) : Type 0 where
  pub most : ℕ
  pub enough : left ≤ most
  pub read : with_front front (behind (lengths most left place) (λ found. done (alternating outcome found))) ≡ total

pub runs_begin : (first : Bool) (count : ℕ) (place : Place) → RunsSoFar [] first count place (runs_of first count place)
runs_begin first count place = record { most = count; enough = omega arith; read = no_front (runs_of first count place) }

regroup_run : (front : List Bool) (outcome : Bool) (n : ℕ) (read : Read (List ℕ))
    → with_front front (behind (behind read (λ others. done (n ∷ others))) (λ found. done (alternating outcome found)))
    ≡ with_front (front ++ replicate n outcome) (behind read (λ found. done (alternating (not outcome) found)))
regroup_run front outcome n (Ok y) =
    ap (λ (xs : List Bool). whole_read (xs, y.1)) (sym (append_assoc front (replicate n outcome) (alternating (not outcome) y.0)))
regroup_run front outcome n (Err offset) = refl

-- while outcomes are left, another run is read
pub lengths_more : (most left : ℕ) (place : Place) → 0 < left
    → lengths (suc most) left place ≡ behind ((two such is_within 1 left) place) (λ n. lengths most (left - n) >>= λ others. done (n ∷ others))
unfolding lengths
lengths_more most left place more = ap (λ (b : Bool). cond b (done []) ((two such is_within 1 left) >>= λ n. lengths most (left - n) >>= λ others. done (n
    ∷ others)) place)
    (ne_eqb left 0 (λ e. omega arith))

pub runs_on : (front : List Bool) (outcome : Bool) (left : ℕ) (place : Place) (n : ℕ) (after : Place) (longer : List Bool) (total : Read (List Bool))
    → RunsSoFar front outcome left place total → 0 < left → (two such is_within 1 left) place ≡ Ok (n, after) → longer ≡ front ++ replicate n outcome
    → RunsSoFar longer (not outcome) (left - n) after total
runs_on front outcome left place n after longer total so_far more h e = by_most so_far.most so_far.enough so_far.read
  where
    by_most : (most : ℕ) → left ≤ most → with_front front (behind (lengths most left place) (λ found. done (alternating outcome found))) ≡ total
        → RunsSoFar longer (not outcome) (left - n) after total
    by_most zero enough read = absurd (omega arith)
    by_most (suc most) enough read =
        let bounds = within 1 left two place (n, after) h in
        let low : 1 ≤ n = bounds.0 in
        let one : lengths (suc most) left place ≡ behind (lengths most (left - n) after) (λ others. done (n ∷ others)) =
        lengths_more most left place more
        ∙ ap (λ (r : Read ℕ). behind r (λ n. lengths most (left - n) >>= λ others. done (n ∷ others))) h in
        record {
          most = most;
          enough = omega arith;
          read = ap (λ (xs : List Bool). with_front xs (behind (lengths most (left - n) after) (λ found. done (alternating (not outcome) found)))) e
              ∙ (sym (regroup_run front outcome n (lengths most (left - n) after))
              ∙ (ap (λ (r : Read (List ℕ)). with_front front (behind r (λ found. done (alternating outcome found)))) (sym one) ∙ read));
        }

pub runs_fail : (fault : LogFault) (front : List Bool) (outcome : Bool) (left : ℕ) (place : Place) (total : Read (List Bool))
    → RunsSoFar front outcome left place total → 0 < left → Fails fault ((two such is_within 1 left) place) → Fails fault total
runs_fail fault front outcome left place total so_far more h = by_most so_far.most so_far.enough so_far.read
  where
    by_most : (most : ℕ) → left ≤ most → with_front front (behind (lengths most left place) (λ found. done (alternating outcome found))) ≡ total →
        Fails fault total
    by_most zero enough read = absurd (omega arith)
    by_most (suc most) enough read =
        let inner = fails_through fault _ (λ n. lengths most (left - n) >>= λ others. done (n ∷ others)) h in
        same_fails fault _ total read (fails_through fault _ (λ others. done (front ++ others))
        (fails_through fault _ (λ found. done (alternating outcome found)) (same_fails fault _ _ (sym (lengths_more most left place more)) inner)))

pub nothing_left : (most : ℕ) (place : Place) → lengths most 0 place ≡ Ok ([], place)
unfolding lengths
nothing_left zero place = refl
nothing_left (suc most) place = refl

pub runs_done : (front : List Bool) (outcome : Bool) (left : ℕ) (place : Place) (total : Read (List Bool)) → RunsSoFar front outcome left place total
    → left ≡ 0 → total ≡ Ok (front, place)
runs_done front outcome left place total so_far e =
    all_read front place _ total (ap (λ (n : ℕ). behind (lengths so_far.most n place) (λ found. done (alternating outcome found))) e
    ∙ ap (λ (r : Read (List ℕ)). behind r (λ found. done (alternating outcome found))) (nothing_left so_far.most place)) so_far.read
