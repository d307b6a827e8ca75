-- A completed order asks about each of some events and every other event.
use Rattle.std.proofs.Common.{◌≡◌, ◌≢◌, ◌⊎◌, ℕ, zero, suc, ◌+◌, ◌<◌, ◌≤◌, ◌==◌, Bool, true, false, not, cond, List, [], ◌∷◌, ◌++◌, inl, inr, refl, ap, sym, ◌∙◌, subst, arith, map}
use Rattle.std.specs.Prelude.{filter, fold}
use Rattle.std.specs.List.{All, Contains, flat_map, list_any, range_with_len}
use Rattle.std.proofs.lemmas.Bool.{cases_eq, false≢true}
use Rattle.std.proofs.lemmas.Bool.Decides.{nat_tests}
use Rattle.std.proofs.lemmas.Grind.{flat_map-append}
use Rattle.std.proofs.lemmas.List.{append-nil, get_or-map, length-map, map-append, map-id}
use Rattle.std.proofs.lemmas.List.FromFn.{filter_of_map_range_with_len_more}
use Rattle.std.proofs.lemmas.List.Elements.{All-head, All-contains, Contains-append_left, Contains-append_right}
use Rattle.std.proofs.lemmas.List.Folds.{fold-map}
use Rattle.std.proofs.lemmas.List.Sums.{fold-append}
use Rattle.order_formula.specs.Orders.{Order, Grows, pair_of, same_pair, with_pair, with_formula, with_atom, LiteralIsAsked, ConjunctIsAsked}
use Rattle.order_formula.specs.declared.order.Pair.{Pair}
use Rattle.order_formula.specs.declared.literal.Literal.{Literal}
use Rattle.order_formula.specs.declared.literal.Atom.TheVariants.{Before}
use Rattle.order_formula.specs.declared.formula.Body.TheVariants as body
use Rattle.order_formula.specs.declared.formula.Conjunct.{Conjunct}
use Rattle.order_formula.specs.declared.group.Group.TheVariants.{Mutex}
use Rattle.order_formula.proofs.Asked.{formula_asked, grows_formula}
use Rattle.bit_order.specs.Comparators.{completed, others, pairs_with}

-- the literal that an event comes before another
abbrev before : ℕ → ℕ → Literal
before first second = record { atom = Before first second; wanted = true }

abbrev literals_with : ℕ → List ℕ → List Literal
literals_with count events = flat_map (λ event. map (before event) (others count event)) events

abbrev asking : ℕ → List ℕ → Conjunct
asking count events = record { group = Mutex 0; body = body.Any (literals_with count events ∷ []) }

abbrev with_literal : Order → Literal → Order
with_literal o l = with_atom o l.atom

asked_same : (o : Order) (count : ℕ) (events : List ℕ) → with_formula o (asking count events ∷ []) ≡ fold with_pair o (pairs_with count events)
asked_same o count [] = refl
asked_same o count (event ∷ events) =
    let named : List ℕ = others count event in
    let next : Order = fold with_pair o (map (pair_of event) named) in
    let rest : List Literal = literals_with count events in
    fold-append with_literal o (map (before event) named) rest
    ∙ ap (λ p. fold with_literal p rest) (fold-map with_literal (before event) o named ∙ sym (fold-map with_pair (pair_of event) o named))
    ∙ asked_same next count events ∙ sym (fold-append with_pair o (map (pair_of event) named) (pairs_with count events))

pub grows-completed : (o : Order) (events : List ℕ) → Grows o (completed o events)
grows-completed o events = subst (Grows o) (asked_same o o.events events) (grows_formula o (asking o.events events ∷ []))

head_or_tail : {A : Type 0} (x : A) (xs : List A) (y : A) → Contains (x ∷ xs) y → (x ≡ y) ⊎ Contains xs y
head_or_tail x xs y (zero, within, is) = inl is
head_or_tail x xs y (suc k, within, is) = inr (k, omega (arith, within), is)

Contains-map : {A B : Type 0} (f : A → B) (xs : List A) (x : A) → Contains xs x → Contains (map f xs) (f x)
Contains-map f xs x (k, within, is) = (k, omega (arith, within, length-map xs f), get_or-map f xs k x (f x) within ∙ ap f is)

-- a range contains its numbers, and those that pass a test are left by it
pub range_has : (a n e : ℕ) → a ≤ e → e < a + n → Contains (range_with_len a n) e
range_has a zero e low high = absurd (omega (arith, low, high))
range_has a (suc n) e low high =
    elim (cases_eq e a) [
      | inl same ↦ (0, omega arith, sym same)
      | inr other ↦ Contains-append_right (a ∷ []) (range_with_len (a + 1) n) e (range_has (a + 1) n e (omega (arith, low, other)) (omega (arith, high)))
    ]

Contains-filter : {A : Type 0} (p : A → Bool) (xs : List A) (x : A) → p x ≡ true → Contains xs x → Contains (filter p xs) x
Contains-filter p [] x passes there = absurd (omega (arith, there.1))
Contains-filter p (y ∷ ys) x passes there = by (p y) refl (head_or_tail y ys x there) (Contains-filter p ys x passes)
  where
    by : (b : Bool) → p y ≡ b → (y ≡ x) ⊎ Contains ys x → (Contains ys x → Contains (filter p ys) x) → Contains (cond b (y ∷ filter p ys) (filter p ys)) x
    by true is (inl same) rest = (0, omega arith, same)
    by true is (inr later) rest = Contains-append_right (y ∷ []) (filter p ys) x (rest later)
    by false is (inl same) rest = absurd (false≢true (sym is ∙ ap p same ∙ passes))
    by false is (inr later) rest = rest later

-- each of the events is compared with every other
is_named : (count : ℕ) (events : List ℕ) (first second : ℕ) → Contains events first → second < count → first ≢ second
    → Contains (literals_with count events) (before first second)
is_named count [] first second there below apart = absurd (omega (arith, there.1))
is_named count (event ∷ events) first second there below apart =
    let own : List Literal = map (before event) (others count event) in
    let rest : List Literal = literals_with count events in
    elim (head_or_tail event events first there) [
      | inl is ↦
          let other : Contains (others count first) second =
          Contains-filter (λ k. not (k == first)) (range_with_len 0 count) second (grind (arith, nat_tests, apart)) (range_has 0 count second (omega arith) (omega (arith, below))) in
          Contains-append_left own rest (before first second)
          (subst (λ e. Contains (map (before e) (others count e)) (before first second)) (sym is) (Contains-map (before first) (others count first) second other))
      | inr later ↦ Contains-append_right own rest (before first second) (is_named count events first second later below apart)
    ]

pub completed-asked : (o : Order) (events : List ℕ) (first second : ℕ) → Contains events first → second < o.events → first ≢ second
    → list_any (same_pair (pair_of first second)) (completed o events).pairs ≡ true
completed-asked o events first second there below apart =
    let after : Order = with_formula o (asking o.events events ∷ []) in
    let literals : List Literal = literals_with o.events events in
    let all : All (LiteralIsAsked after) literals =
    All-head (All (LiteralIsAsked after)) literals []
    (All-head (ConjunctIsAsked after) (asking o.events events) [] (formula_asked o (asking o.events events ∷ []))) in
    subst (λ (r : Order). list_any (same_pair (pair_of first second)) r.pairs ≡ true) (asked_same o o.events events)
    (All-contains (LiteralIsAsked after) literals (before first second) all (is_named o.events events first second there below apart))

-- an order that asks one event more
others_more : (n event : ℕ) → others (n + 1) event ≡ others n event ++ cond (not (n == event)) (n ∷ []) []
others_more n event =
    let test : ℕ → Bool = λ k. not (k == event) in
    ap (filter test) (sym (map-id (range_with_len 0 (n + 1)))) ∙ filter_of_map_range_with_len_more test (λ k. k) 0 n n (omega arith)
    ∙ ap (λ ns. filter test ns ++ cond (test n) (n ∷ []) []) (map-id (range_with_len 0 n))

abbrev pub asked_to : Order → (count event : ℕ) → Order
asked_to o count event = fold with_pair o (map (pair_of event) (others count event))

asked_step : (o : Order) (n event : ℕ) (b : Bool) → not (n == event) ≡ b
    → asked_to o (n + 1) event ≡ fold with_pair (asked_to o n event) (map (pair_of event) (cond b (n ∷ []) []))
asked_step o n event b is =
    let more : List ℕ = cond b (n ∷ []) [] in
    ap (λ ns. fold with_pair o (map (pair_of event) ns)) (others_more n event ∙ ap (λ t. others n event ++ cond t (n ∷ []) []) is)
    ∙ ap (fold with_pair o) (map-append (pair_of event) (others n event) more)
    ∙ fold-append with_pair o (map (pair_of event) (others n event)) (map (pair_of event) more)

pub asked-other : (o : Order) (n event : ℕ) → n ≢ event → asked_to o (n + 1) event ≡ with_pair (asked_to o n event) (pair_of event n)
asked-other o n event apart = asked_step o n event true (grind (arith, nat_tests, apart))

pub asked-itself : (o : Order) (n event : ℕ) → n ≡ event → asked_to o (n + 1) event ≡ asked_to o n event
asked-itself o n event same = asked_step o n event false (grind (arith, nat_tests, same))

pub completed-more : (o : Order) (events : List ℕ) (event : ℕ) → completed o (events ++ event ∷ []) ≡ asked_to (completed o events) o.events event
completed-more o events event =
    let named : List Pair = map (pair_of event) (others o.events event) in
    ap (fold with_pair o)
    (flat_map-append (λ e. map (pair_of e) (others o.events e)) events (event ∷ []) ∙ ap (λ ps. pairs_with o.events events ++ ps) (append-nil named))
    ∙ fold-append with_pair o (pairs_with o.events events) named
