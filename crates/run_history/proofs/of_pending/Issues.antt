-- What a thread has issued, by the numbers of its steps.
use Rattle.std.proofs.Common.{◌≡◌, ◌≢◌, ◌∙◌, ℕ, ◌<◌, ◌≤◌, ◌==◌, Bool, true, false, not, ◌&&◌, cond, List, [], ◌∷◌, ◌++◌}
use Rattle.std.proofs.Common.{refl, sym, ap, ap₂, arith, if◌then◌else◌}
use Rattle.std.specs.Prelude.{map}
use Rattle.std.specs.List.{All, filter}
use Rattle.std.proofs.lemmas.Bool.{false≢true, or_parts, eq-eqb, ne_eqb}
use Rattle.std.proofs.lemmas.List.Elements.{All-nil, All-head, All-tail, All-push, All-weaker, All-filter}
use Rattle.store_buffers.specs.tc_base.Buffers.{Entry}
use Rattle.store_buffers.specs.Pending.{Pending, Store, Bar, Binding, waits, has_bar}
use Rattle.store_buffers.specs.helpers.Lists.{not_nil}
use Rattle.run_history.specs.History.{Issue, is_to, oldest_to}
use Rattle.run_laws.proofs.Basics.{by_bool}
use Rattle.run_history.proofs.of_pending.In.{all_in, in_at}

abbrev pub AllBelow : ℕ → List Issue → Type 0
AllBelow k is = All (λ i. i.number < k) is

-- the numbers rise
abbrev pub Rises : List Issue → Type 0
Rises [] = Unit {0}
Rises (i ∷ is) = All (λ j. i.number < j.number) is × Rises is

pub below_more : (k j : ℕ) (is : List Issue) → k ≤ j → AllBelow k is → AllBelow j is
below_more k j is more b = All-weaker (λ i. i.number < k) (λ i. i.number < j) (λ i l. omega (arith, l, more)) is b

pub none_below_zero : (is : List Issue) → AllBelow 0 is → is ≡ []
none_below_zero [] b = refl
none_below_zero (i ∷ is) b = absurd (let l = All-head (λ i. i.number < 0) i is b in omega (arith, l))

pub rises_push : (is : List Issue) (i : Issue) → Rises is → AllBelow i.number is → Rises (is ++ i ∷ [])
rises_push [] i r b = (All-nil (λ (j : Issue). i.number < j.number), tt)
rises_push (x ∷ is) i r b = (
  All-push (λ j. x.number < j.number) is i r.0 (All-head (λ j. j.number < i.number) x is b),
  rises_push is i r.1 (All-tail (λ j. j.number < i.number) x is b),
)

pub rises_filter : (p : Issue → Bool) (is : List Issue) → Rises is → Rises (filter p is)
rises_filter p [] r = tt
rises_filter p (i ∷ is) r =
    by_bool (λ c. Rises (cond c (i ∷ filter p is) (filter p is))) (p i)
    (All-filter p (λ j. i.number < j.number) is r.0, rises_filter p is r.1) (rises_filter p is r.1)

-- filtering twice is filtering by both tests
filter-twice_by : {X : Type 0} (p q : X → Bool) (x : X) (xs : List X) (b c : Bool) → p x ≡ b → q x ≡ c
    → cond (b && c) (x ∷ filter q (filter p xs)) (filter q (filter p xs)) ≡ filter q (cond b (x ∷ filter p xs) (filter p xs))
filter-twice_by p q x xs true c e f = ap (λ b. cond b (x ∷ filter q (filter p xs)) (filter q (filter p xs))) (sym f)
filter-twice_by p q x xs false c e f = refl

pub filter-twice : {X : Type 0} (p q r : X → Bool) (xs : List X) → ((x : X) → r x ≡ p x && q x) → filter r xs ≡ filter q (filter p xs)
filter-twice p q r [] is = refl
filter-twice p q r (x ∷ xs) is =
    ap (λ b. cond b (x ∷ filter r xs) (filter r xs)) (is x)
    ∙ ap (λ ys. cond (p x && q x) (x ∷ ys) ys) (filter-twice p q r xs is)
    ∙ filter-twice_by p q x xs (p x) (q x) refl refl

-- whether an issue has another number
abbrev pub isnt : ℕ → Issue → Bool
isnt k i = not (i.number == k)

others_stay : (k : ℕ) (is : List Issue) → All (λ j. k < j.number) is → filter (isnt k) is ≡ is
others_stay k [] a = refl
others_stay k (i ∷ is) a =
    let above = All-head (λ j. k < j.number) i is a in
    let other : i.number ≢ k = λ e. omega (arith, above, e) in
    ap (λ b. cond (not b) (i ∷ filter (isnt k) is) (filter (isnt k) is)) (ne_eqb i.number k other)
    ∙ ap (λ ys. i ∷ ys) (others_stay k is (All-tail (λ j. k < j.number) i is a))

-- with rising numbers, each number occurs once
pub taken_out : (older : List Issue) (x : Issue) (newer : List Issue) → Rises (older ++ x ∷ newer)
    → filter (isnt x.number) (older ++ x ∷ newer) ≡ older ++ newer
taken_out [] x newer r =
    ap (λ b. cond (not b) (x ∷ filter (isnt x.number) newer) (filter (isnt x.number) newer)) (eq-eqb x.number x.number refl)
    ∙ others_stay x.number newer r.0
taken_out (i ∷ older) x newer r =
    let above = all_in (λ j. i.number < j.number) (older ++ x ∷ newer) x r.0 (in_at older x newer) in
    let other : i.number ≢ x.number = λ e. omega (arith, above, e) in
    ap (λ b. cond (not b) (i ∷ filter (isnt x.number) (older ++ x ∷ newer)) (filter (isnt x.number) (older ++ x ∷ newer))) (ne_eqb _ _ other)
    ∙ ap (λ ys. i ∷ ys) (taken_out older x newer r.1)

abbrev pub whats : List Issue → List Pending
whats is = map (λ i. i.what) is

-- a split of the list of pending stores and bars, and the same split of the issues
pub record SplitAt (is : List Issue) (ps : List Pending) (p : Pending) (qs : List Pending) : Type 0 where
  pub older : List Issue
  pub at : Issue
  pub newer : List Issue
  pub there : is ≡ older ++ at ∷ newer
  pub olders : whats older ≡ ps
  pub what : at.what ≡ p
  pub newers : whats newer ≡ qs

-- the split with one more issue in front
split_behind : (i : Issue) (is : List Issue) (q : Pending) (ps : List Pending) (p : Pending) (qs : List Pending) → i.what ≡ q → SplitAt is ps p qs
    → SplitAt (i ∷ is) (q ∷ ps) p qs
split_behind i is q ps p qs first s = record {
  older = i ∷ s.older;
  at = s.at;
  newer = s.newer;
  there = ap (λ js. i ∷ js) s.there;
  olders = ap₂ (λ r rs. r ∷ rs) first s.olders;
  what = s.what;
  newers = s.newers;
}

pub split_at : (is : List Issue) (ps : List Pending) (p : Pending) (qs : List Pending) → whats is ≡ ps ++ p ∷ qs → SplitAt is ps p qs
split_at [] ps p qs e = absurd (not_nil ps p qs (sym e))
split_at (i ∷ is) [] p qs e = record { older = []; at = i; newer = is; there = refl; olders = refl; what = cc; newers = cc }
split_at (i ∷ is) (q ∷ ps) p qs e =
    let first : i.what ≡ q = cc in
    let rest : whats is ≡ ps ++ p ∷ qs = cc in
    split_behind i is q ps p qs first (split_at is ps p qs rest)

-- a store to a cell has to wait for each older store to the same cell
not_to_by : (bound : Binding) (barred : Bool) → ((b : Bool) → bound true b ≡ true) → (c : Bool) → bound c barred ≡ false → c ≡ false
not_to_by bound barred same true e = absurd (false≢true (sym e ∙ same barred))
not_to_by bound barred same false e = refl

not_to : (bound : Binding) → ((b : Bool) → bound true b ≡ true) → (p : Pending) (ps : List Pending) (c : ℕ) → waits bound (p ∷ ps) c ≡ false
    → (is_to c p ≡ false) × (waits bound ps c ≡ false)
not_to bound same (Store e) ps c free =
    let both = or_parts _ _ free in (not_to_by bound (has_bar ps) same (e.cell == c) both.0, both.1)
not_to bound same Bar ps c free = (refl, free)

-- a store that needn't wait is the oldest to its cell
pub oldest_is : (bound : Binding) → ((b : Bool) → bound true b ≡ true) → (older : List Issue) (x : Issue) (newer : List Issue) (e : Entry) → x.what ≡ Store e
    → waits bound (whats older) e.cell ≡ false → oldest_to e.cell (older ++ x ∷ newer) ≡ x.number
oldest_is bound same [] x newer e is free =
    ap (λ p. if is_to e.cell p then x.number else oldest_to e.cell newer) is
    ∙ ap (λ b. if b then x.number else oldest_to e.cell newer) (eq-eqb e.cell e.cell refl)
oldest_is bound same (i ∷ older) x newer e is free =
    let f = not_to bound same i.what (whats older) e.cell free in
    ap (λ b. if b then i.number else oldest_to e.cell (older ++ x ∷ newer)) f.0 ∙ oldest_is bound same older x newer e is f.1
