-- Orders stay lawful when they are asked about their own events and sleeps.
use Rattle.std.proofs.Common.{◌≡◌, ℕ, ◌<◌, ◌==◌, ◌&&◌, Bool, true, false, not, List, [], ◌∷◌, map, fold, refl, ap, ap₂, arith}
use Rattle.std.specs.Cmp.{IsEquivalence, decided}
use Rattle.std.specs.List.{All, IsDistinct, list_any, range_with_len}
use Rattle.std.proofs.lemmas.Bool.{and_from, and_parts, eqb-true, eq-eqb}
use Rattle.std.proofs.lemmas.List.Elements.{All-nil, All-append, All-filter, All-head, All-map, All-tail, All-weaker}
use Rattle.std.proofs.lemmas.Map.Keys.{IsDistinct-push}
use Rattle.indexmap.specs.IndexSet.{insert_key}
use Rattle.order_formula.specs.declared.formula.Body.{Body}
use Rattle.order_formula.specs.declared.formula.Body.TheVariants as body
use Rattle.order_formula.specs.declared.formula.Conjunct.{Conjunct}
use Rattle.order_formula.specs.declared.literal.Atom.{Atom}
use Rattle.order_formula.specs.declared.literal.Atom.TheVariants.{Before, Ends, Test}
use Rattle.order_formula.specs.declared.literal.Literal.{Literal}
use Rattle.order_formula.specs.declared.order.Choice.{Choice}
use Rattle.order_formula.specs.declared.order.Pair.{Pair}
use Rattle.order_formula.specs.Orders.{AtomIsIn, BodyIsIn, ChoiceIsOf, ConjunctIsIn, IsOrder, LiteralIsIn, Order, PairIsOf, pair_of, same_choice, same_pair}
use Rattle.order_formula.specs.Orders.{order_without_questions, with_atom, with_body, with_case, with_choice, with_conjunct, with_formula, with_pair}
use Rattle.bit_blast.specs.bit_order.Comparators.{completed, others, pairs_with}
use Rattle.bit_blast.proofs.WholeLaws.{all_range}
use Rattle.clap_system.proofs.Choices.{each_key}

none_twice : {K : Type 0} (eq : K → K → Bool) → IsDistinct eq []
unfolding IsDistinct
none_twice eq = tt

still_distinct : {K : Type 0} (eq : K → K → Bool) → IsEquivalence eq → (ks : List K) (k : K) → IsDistinct eq ks → IsDistinct eq (insert_key eq ks k)
still_distinct eq laws ks k distinct = by (list_any (eq k) ks) refl
  where
    by : (b : Bool) → list_any (eq k) ks ≡ b → IsDistinct eq (insert_key eq ks k)
    by true is = rw is distinct
    by false is = rw is (IsDistinct-push laws ks k distinct is)

same_two : (a b c d : ℕ) → a ≡ c → b ≡ d → (a == c && b == d) ≡ true
same_two a b c d one other = and_from (a == c) (b == d) (eq-eqb a c one) (eq-eqb b d other)

same_pairs : IsEquivalence same_pair
same_pairs = decided same_pair (λ p q. (
  λ same.
      let parts = and_parts (p.lesser == q.lesser) (p.greater == q.greater) same in
      ap₂ (λ m n. record { lesser = m; greater = n }) (eqb-true p.lesser q.lesser parts.0) (eqb-true p.greater q.greater parts.1),
  λ one. same_two p.lesser p.greater q.lesser q.greater (ap (λ (r : Pair). r.lesser) one) (ap (λ (r : Pair). r.greater) one),
))

same_choices : IsEquivalence same_choice
same_choices = decided same_choice (λ c d. (
  λ same.
      let parts = and_parts (c.sleep == d.sleep) (c.by == d.by) same in
      ap₂ (λ m n. record { sleep = m; by = n }) (eqb-true c.sleep d.sleep parts.0) (eqb-true c.by d.by parts.1),
  λ one. same_two c.sleep c.by d.sleep d.by (ap (λ (e : Choice). e.sleep) one) (ap (λ (e : Choice). e.by) one),
))

with_pair_lawful : (o : Order) (p : Pair) → IsOrder o → PairIsOf o.events p → IsOrder (with_pair o p)
with_pair_lawful o p is of = record {
  pairs = still_distinct same_pair same_pairs o.pairs p is.pairs;
  choices = is.choices;
  pairs_within = each_key (PairIsOf o.events) same_pair o.pairs p is.pairs_within of;
  choices_within = is.choices_within;
}

with_choice_lawful : (o : Order) (c : Choice) → IsOrder o → ChoiceIsOf o.sleeps o.events c → IsOrder (with_choice o c)
with_choice_lawful o c is of = record {
  pairs = is.pairs;
  choices = still_distinct same_choice same_choices o.choices c is.choices;
  pairs_within = is.pairs_within;
  choices_within = each_key (ChoiceIsOf o.sleeps o.events) same_choice o.choices c is.choices_within of;
}

pair_is : (n first second : ℕ) → first < n → second < n → PairIsOf n (pair_of first second)
pair_is n first second one other = record { ordered = omega arith; within = omega (arith, one, other) }

-- a lawful order with the same numbers of events and sleeps as another
pub record IsFor (r o : Order) : Type 0 where
  pub lawful : IsOrder o
  pub events : o.events ≡ r.events
  pub sleeps : o.sleeps ≡ r.sleeps

pub unasked_for : (r : Order) (events sleeps : ℕ) → events ≡ r.events → sleeps ≡ r.sleeps → IsFor r (order_without_questions events sleeps)
unasked_for r events sleeps as_events as_sleeps = record {
  lawful = record {
    pairs = none_twice same_pair;
    choices = none_twice same_choice;
    pairs_within = All-nil (PairIsOf events);
    choices_within = All-nil (ChoiceIsOf sleeps events);
  };
  events = as_events;
  sleeps = as_sleeps;
}

module _ (r : Order) where
  atom_for : (o : Order) (a : Atom) → IsFor r o → AtomIsIn r a → IsFor r (with_atom o a)
  atom_for o (Before first second) is within = record {
    lawful = with_pair_lawful o (pair_of first second) is.lawful
        (pair_is o.events first second (omega (arith, within.0, is.events)) (omega (arith, within.1, is.events)));
    events = is.events;
    sleeps = is.sleeps;
  }
  atom_for o (Ends sleep by) is within = record {
    lawful = with_choice_lawful o (record { sleep = sleep; by = by }) is.lawful
        (record { sleep = omega (arith, within.0, is.sleeps); by = omega (arith, within.1, is.events) });
    events = is.events;
    sleeps = is.sleeps;
  }
  atom_for o (Test term) is within = is

  all_for : {X : Type 0} (with : Order → X → Order) (In : X → Type 0) → ((o : Order) (x : X) → IsFor r o → In x → IsFor r (with o x))
      → (o : Order) (xs : List X) → IsFor r o → All In xs → IsFor r (fold with o xs)
  all_for with In each o [] is within = is
  all_for with In each o (x ∷ xs) is within =
      all_for with In each (with o x) xs (each o x is (All-head In x xs within)) (All-tail In x xs within)

  case_for : (o : Order) (ls : List Literal) → IsFor r o → All (LiteralIsIn r) ls → IsFor r (with_case o ls)
  case_for = all_for (λ (o : Order) (l : Literal). with_atom o l.atom) (LiteralIsIn r) (λ o l. atom_for o l.atom)

  body_for : (o : Order) (b : Body) → IsFor r o → BodyIsIn r b → IsFor r (with_body o b)
  body_for o (body.Any cases) is within = all_for with_case (All (LiteralIsIn r)) case_for o cases is within
  body_for o (body.Read _) is within = is

  -- the order that is asked a formula's questions about its own events and sleeps
  pub formula_for : (o : Order) (formula : List Conjunct) → IsFor r o → All (ConjunctIsIn r) formula → IsFor r (with_formula o formula)
  formula_for = all_for with_conjunct (ConjunctIsIn r) (λ o c. body_for o c.body)

-- the order that is asked about each of some events and every other event
others_within : (n event : ℕ) → All (λ e. e < n) (others n event)
others_within n event = All-filter (λ e. not (e == event)) (λ e. e < n) (range_with_len 0 n) (all_range (λ e. e < n) 0 n (λ k below. omega (arith, below)))

pairs_within : (n : ℕ) (events : List ℕ) → All (λ e. e < n) events → All (PairIsOf n) (pairs_with n events)
pairs_within n [] all = All-nil (PairIsOf n)
pairs_within n (event ∷ events) all =
    let own = All-head (λ e. e < n) event events all in
    All-append (PairIsOf n) (map (pair_of event) (others n event)) (pairs_with n events)
    (All-map (PairIsOf n) (pair_of event) (others n event)
    (All-weaker (λ e. e < n) (λ e. PairIsOf n (pair_of event e)) (λ e below. pair_is n event e own below) (others n event) (others_within n event)))
    (pairs_within n events (All-tail (λ e. e < n) event events all))

pub completed_lawful : (o : Order) (events : List ℕ) → IsOrder o → All (λ e. e < o.events) events → IsOrder (completed o events)
completed_lawful o events is within =
    (all_for o with_pair (PairIsOf o.events)
    (λ p pair k of. record {
      lawful = with_pair_lawful p pair k.lawful (record { ordered = of.ordered; within = omega (arith, of.within, k.events) });
      events = k.events;
      sleeps = k.sleeps;
    })
    o (pairs_with o.events events) (record { lawful = is; events = refl; sleeps = refl }) (pairs_within o.events events within)).lawful
