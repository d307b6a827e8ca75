-- The places of the two elements of each pair; pairs of neighbours imply all pairs.
use Rattle.std.proofs.Common.{◌≡◌, ◌∙◌, ℕ, zero, suc, ◌+◌, ◌<◌, inl, inr, Bool, true, not, ◌&&◌, List, [], ◌∷◌, ◌++◌, length}
use Rattle.std.proofs.Common.{Some, slice_get, refl, ap, sym, subst, arith, append_assoc}
use Rattle.std.specs.List.{Contains, list_any}
use Rattle.std.proofs.lemmas.Bool.{cases_Bool, and_from, and_parts}
use Rattle.std.proofs.lemmas.List.{append-nil, length-append}
use Rattle.std.proofs.lemmas.List.Elements.{Contains-append_left, Contains-append_right, Contains-append_cases}
use Rattle.std.proofs.lemmas.Option.{none-some, same_Some}
use Rattle.order_events.proofs.Lists.{in_front, in_back, of_cons, of_nil, at_in, of_any}
use Rattle.memory_order.specs.Twos.{Two, twos, twos_with}

-- a list around an element
pub record Around {X : Type 0} (xs : List X) (x : X) : Type 0 where
  pub before : List X
  pub after : List X
  pub is : xs ≡ before ++ x ∷ after

pub around : {X : Type 0} (xs : List X) (x : X) → Contains xs x → Around xs x
around [] x i = absurd (of_nil x i)
around (y ∷ ys) x i = elim (of_cons x y ys i) [
  | inl same ↦ record { before = []; after = ys; is = ap (λ z. z ∷ ys) same }
  | inr rest ↦ (let a = around ys x rest in record { before = y ∷ a.before; after = a.after; is = ap (λ zs. y ∷ zs) a.is })
]

-- a list around two elements
pub record IsTwo {X : Type 0} (xs : List X) (p : Two X) : Type 0 where
  pub before : List X
  pub after : List X
  pub is : xs ≡ before ++ p.first ∷ (p.between ++ p.second ∷ after)

-- an element paired with one after it
abbrev two : {X : Type 0} → X → List X → X → Two X
two x between y = record { first = x; between = between; second = y }

in_with : {X : Type 0} (x y : X) (between mid after : List X) → Contains (twos_with x between (mid ++ y ∷ after)) (two x (between ++ mid) y)
in_with x y between [] after =
    subst (λ b. Contains (twos_with x between (y ∷ after)) (two x b y)) (sym (append-nil between))
    (in_front (two x between y) (twos_with x (between ++ y ∷ []) after))
in_with x y between (m ∷ ms) after =
    let rest = ms ++ y ∷ after in
    subst (λ b. Contains (twos_with x between (m ∷ rest)) (two x b y)) (append_assoc between (m ∷ []) ms)
    (in_back (two x ((between ++ m ∷ []) ++ ms) y) (two x between m) (twos_with x (between ++ m ∷ []) rest) (in_with x y (between ++ m ∷ []) ms after))

in_parts : {X : Type 0} (before : List X) (x : X) (between : List X) (y : X) (after : List X)
    → Contains (twos (before ++ x ∷ (between ++ y ∷ after))) (two x between y)
in_parts [] x between y after =
    let rest = between ++ y ∷ after in
    Contains-append_left (twos_with x [] rest) (twos rest) (two x between y) (in_with x y [] between after)
in_parts (b ∷ bs) x between y after =
    let rest = bs ++ x ∷ (between ++ y ∷ after) in
    Contains-append_right (twos_with b [] rest) (twos rest) (two x between y) (in_parts bs x between y after)

pub in_twos : {X : Type 0} (xs : List X) (p : Two X) → IsTwo xs p → Contains (twos xs) p
in_twos xs p t = subst (λ zs. Contains (twos zs) p) (sym t.is) (in_parts t.before p.first p.between p.second t.after)

-- each such pair comes from an element after it
record IsWith {X : Type 0} (x : X) (between after : List X) (p : Two X) : Type 0 where
  first : x ≡ p.first
  mid : List X
  rest : List X
  between_is : p.between ≡ between ++ mid
  after_is : after ≡ mid ++ p.second ∷ rest

of_with : {X : Type 0} (x : X) (between after : List X) (p : Two X) → Contains (twos_with x between after) p → IsWith x between after p
of_with x between [] p i = absurd (of_nil p i)
of_with x between (y ∷ ys) p i = elim (of_cons p (two x between y) (twos_with x (between ++ y ∷ []) ys) i) [
  | inl same ↦ record {
    first = ap (λ q. q.first) same;
    mid = [];
    rest = ys;
    between_is = sym (ap (λ q. q.between) same) ∙ sym (append-nil between);
    after_is = ap (λ q. q.second ∷ ys) same;
  }
  | inr more ↦ (let w = of_with x (between ++ y ∷ []) ys p more in record {
    first = w.first;
    mid = y ∷ w.mid;
    rest = w.rest;
    between_is = w.between_is ∙ append_assoc between (y ∷ []) w.mid;
    after_is = ap (λ zs. y ∷ zs) w.after_is;
  })
]

pub of_twos : {X : Type 0} (xs : List X) (p : Two X) → Contains (twos xs) p → IsTwo xs p
of_twos [] p i = absurd (of_nil p i)
of_twos (x ∷ xs) p i = elim (Contains-append_cases (twos_with x [] xs) (twos xs) p i) [
  | inl here ↦ (let w = of_with x [] xs p here in record {
    before = [];
    after = w.rest;
    is = ap (λ z. z ∷ xs) w.first ∙ ap (λ zs. p.first ∷ zs) (w.after_is ∙ ap (λ b. b ++ p.second ∷ w.rest) (sym w.between_is));
  })
  | inr rest ↦ (let t = of_twos xs p rest in record { before = x ∷ t.before; after = t.after; is = ap (λ zs. x ∷ zs) t.is })
]

-- two elements by their places
pub record AtPlaces {X : Type 0} (xs : List X) (p : Two X) : Type 0 where
  pub low : ℕ
  pub high : ℕ
  pub rise : low < high
  pub first : slice_get xs low ≡ Some p.first
  pub second : slice_get xs high ≡ Some p.second

get_seam : {X : Type 0} (before : List X) (x : X) (after : List X) → slice_get (before ++ x ∷ after) (length before) ≡ Some x
get_seam [] x after = refl
get_seam (b ∷ bs) x after = get_seam bs x after

pub two_places : {X : Type 0} (xs : List X) (p : Two X) → Contains (twos xs) p → AtPlaces xs p
two_places xs p i =
    let t = of_twos xs p i in
    let front = t.before ++ p.first ∷ p.between in
    record {
      low = length t.before;
      high = length front;
      rise = omega (arith, length-append t.before (p.first ∷ p.between));
      first = ap (λ zs. slice_get zs (length t.before)) t.is ∙ get_seam t.before p.first (p.between ++ p.second ∷ t.after);
      second = ap (λ zs. slice_get zs (length front)) (t.is ∙ sym (append_assoc t.before (p.first ∷ p.between) (p.second ∷ t.after)))
          ∙ get_seam front p.second t.after;
    }

-- the two at places
pub record TwoOf {X : Type 0} (xs : List X) (x y : X) : Type 0 where
  pub between : List X
  pub among : Contains (twos xs) (two x between y)

pub two_at : {X : Type 0} (xs : List X) (j k : ℕ) (x y : X) → slice_get xs j ≡ Some x → slice_get xs k ≡ Some y → j < k → TwoOf xs x y
two_at [] j k x y first second less = absurd (none-some x first)
two_at (z ∷ zs) j zero x y first second less = absurd (omega (arith, less))
two_at (z ∷ zs) zero (suc k) x y first second less =
    let a = around zs y (at_in zs k y second) in
    record {
      between = a.before;
      among = in_twos (z ∷ zs) (two x a.before y)
          (record { before = []; after = a.after; is = ap (λ w. w ∷ zs) (same_Some z x first) ∙ ap (λ ws. x ∷ ws) a.is });
    }
two_at (z ∷ zs) (suc j) (suc k) x y first second less =
    let t = two_at zs j k x y first second (omega (arith, less)) in
    record { between = t.between; among = Contains-append_right (twos_with z [] zs) (twos zs) (two x t.between y) t.among }

-- If related elements with no related element between them are in order, all related elements are.
module _ {X : Type 0} (related : X → X → Bool) (at : X → ℕ) (xs : List X) where
  abbrev pub is_through : Two X → X → Bool
  is_through p z = related p.first z && related z p.second

  abbrev pub are_next : Two X → Bool
  are_next p = related p.first p.second && not (list_any (is_through p) p.between)

  abbrev pub IsInOrder : Two X → Type 0
  IsInOrder p = at p.first < at p.second

  module _ (next : (p : Two X) → Contains (twos xs) p → are_next p ≡ true → IsInOrder p) where
    -- by induction on the number of elements between them
    by_distance : (n : ℕ) (p : Two X) → length p.between < n → IsTwo xs p → related p.first p.second ≡ true → IsInOrder p
    by_distance zero p few t holds = absurd (omega (arith, few))
    by_distance (suc n) p few t holds = elim (cases_Bool (list_any (is_through p) p.between)) [
      | inl some ↦ through (λ q fewer u related_too. by_distance n q fewer u related_too) some
      | inr none ↦ next p (in_twos xs p t) (and_from (related p.first p.second) (not (list_any (is_through p) p.between)) holds (ap not none))
    ]
      where
        through : ((q : Two X) → length q.between < n → IsTwo xs q → related q.first q.second ≡ true → IsInOrder q)
            → list_any (is_through p) p.between ≡ true → IsInOrder p
        through nearer some =
            let z = of_any (is_through p) p.between some in
            let both = and_parts (related p.first z.0) (related z.0 p.second) z.2 in
            let a = around p.between z.0 z.1 in
            let count : length p.between ≡ length a.before + suc (length a.after) = ap length a.is ∙ length-append a.before (z.0 ∷ a.after) in
            let whole : xs ≡ t.before ++ p.first ∷ (a.before ++ z.0 ∷ (a.after ++ p.second ∷ t.after)) =
            t.is ∙ ap (λ b. t.before ++ p.first ∷ (b ++ p.second ∷ t.after)) a.is
            ∙ ap (λ b. t.before ++ p.first ∷ b) (append_assoc a.before (z.0 ∷ a.after) (p.second ∷ t.after)) in
            let low : at p.first < at z.0 = nearer (two p.first a.before z.0) (omega (arith, few, count))
            (record { before = t.before; after = a.after ++ p.second ∷ t.after; is = whole }) both.0 in
            let high : at z.0 < at p.second = nearer (two z.0 a.after p.second) (omega (arith, few, count))
            (record {
              before = t.before ++ p.first ∷ a.before;
              after = t.after;
              is = whole ∙ sym (append_assoc t.before (p.first ∷ a.before) (z.0 ∷ (a.after ++ p.second ∷ t.after)));
            }) both.1 in
            omega (arith, low, high)

    pub all_in_order : (p : Two X) → Contains (twos xs) p → related p.first p.second ≡ true → IsInOrder p
    all_in_order p among holds = by_distance (suc (length p.between)) p (omega arith) (of_twos xs p among) holds
