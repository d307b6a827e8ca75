-- The questions that a formula asks about the order of events, each of them once.
use Rattle.std.specs.Prelude.{◌≡◌, ℕ, ◌<◌, ◌≤◌, min, max, List, [], ◌++◌, fold, Bool, IsTrue, ◌&&◌, ◌==◌}
use Rattle.std.specs.List.{All, IsDistinct, list_any, position_or_len}
use Rattle.indexmap.specs.IndexSet.{insert_key}
use Rattle.order_formula.specs.declared.order.Pair.{Pair}
use Rattle.order_formula.specs.declared.order.Choice.{Choice}
use Rattle.order_formula.specs.declared.literal.Atom.{Atom}
use Rattle.order_formula.specs.declared.literal.Atom.TheVariants.{Before, Ends, Test}
use Rattle.order_formula.specs.declared.literal.Literal.{Literal}
use Rattle.order_formula.specs.declared.formula.Body.{Body}
use Rattle.order_formula.specs.declared.formula.Body.TheVariants as body
use Rattle.order_formula.specs.declared.formula.Conjunct.{Conjunct}

pub record Order : Type 0 where
  -- the number of events, and the number of sleeps
  pub events : ℕ
  pub sleeps : ℕ
  -- pairs of events, with the question which of the two comes first
  pub pairs : List Pair
  -- pairs of a sleep and an event, with the question whether the event ends the sleep
  pub choices : List Choice

-- an order without questions
abbrev pub order_without_questions : (events sleeps : ℕ) → Order
order_without_questions events sleeps =
    record { events = events; sleeps = sleeps; pairs = []; choices = [] }

-- two events as a pair, the lesser number first
abbrev pub pair_of : (first second : ℕ) → Pair
pair_of first second = record { lesser = min first second; greater = max first second }

abbrev pub same_pair : Pair → Pair → Bool
same_pair p q = p.lesser == q.lesser && p.greater == q.greater

abbrev pub same_choice : Choice → Choice → Bool
same_choice c d = c.sleep == d.sleep && c.by == d.by

-- the numbers of a pair, or of a choice, are in range
pub record PairIsOf (events : ℕ) (p : Pair) : Type 0 where
  pub ordered : p.lesser ≤ p.greater
  pub within : p.greater < events

pub record ChoiceIsOf (sleeps events : ℕ) (c : Choice) : Type 0 where
  pub sleep : c.sleep < sleeps
  pub by : c.by < events

-- no question is asked twice, and all questions are about events and sleeps in range
pub record IsOrder (o : Order) : Type 0 where
  pub pairs : IsDistinct same_pair o.pairs
  pub choices : IsDistinct same_choice o.choices
  pub pairs_within : All (PairIsOf o.events) o.pairs
  pub choices_within : All (ChoiceIsOf o.sleeps o.events) o.choices

-- appends a question, unless it was asked already
abbrev pub with_pair : Order → Pair → Order
with_pair o p = record o { pairs = insert_key same_pair o.pairs p }

abbrev pub with_choice : Order → Choice → Order
with_choice o c = record o { choices = insert_key same_choice o.choices c }

-- the index of a question, or the number of questions if it wasn't asked
abbrev pub pair_number : Order → Pair → ℕ
pair_number o p = position_or_len (same_pair p) o.pairs

abbrev pub choice_number : Order → Choice → ℕ
choice_number o c = position_or_len (same_choice c) o.choices

-- appends the questions of an atom, of all literals of a case, and so on
abbrev pub with_atom : Order → Atom → Order
with_atom o (Before first second) = with_pair o (pair_of first second)
with_atom o (Ends sleep by) = with_choice o (record { sleep = sleep; by = by })
with_atom o (Test _) = o

abbrev pub with_case : Order → List Literal → Order
with_case o literals = fold (λ o l. with_atom o l.atom) o literals

-- the body of a load asks no question
abbrev pub with_body : Order → Body → Order
with_body o (body.Any cases) = fold with_case o cases
with_body o (body.Read _) = o

abbrev pub with_conjunct : Order → Conjunct → Order
with_conjunct o c = with_body o c.body

abbrev pub with_formula : Order → List Conjunct → Order
with_formula o formula = fold with_conjunct o formula

-- all events and sleeps that a part of a formula names are in the order's range
module _ (o : Order) where
  abbrev pub AtomIsIn : Atom → Type 0
  AtomIsIn (Before first second) = (first < o.events) × (second < o.events)
  AtomIsIn (Ends sleep by) = (sleep < o.sleeps) × (by < o.events)
  AtomIsIn (Test _) = Unit {0}

  abbrev pub LiteralIsIn : Literal → Type 0
  LiteralIsIn l = AtomIsIn l.atom

  abbrev pub BodyIsIn : Body → Type 0
  BodyIsIn (body.Any cases) = All (All LiteralIsIn) cases
  BodyIsIn (body.Read r) = (r.event < o.events) × All (λ c. c.event < o.events) r.candidates

  abbrev pub ConjunctIsIn : Conjunct → Type 0
  ConjunctIsIn c = BodyIsIn c.body

-- all questions of a part of a formula were asked
module _ (o : Order) where
  abbrev pub AtomIsAsked : Atom → Type 0
  AtomIsAsked (Before first second) = IsTrue (list_any (same_pair (pair_of first second)) o.pairs)
  AtomIsAsked (Ends sleep by) =
      IsTrue (list_any (same_choice (record { sleep = sleep; by = by })) o.choices)
  AtomIsAsked (Test _) = Unit {0}

  abbrev pub LiteralIsAsked : Literal → Type 0
  LiteralIsAsked l = AtomIsAsked l.atom

  abbrev pub BodyIsAsked : Body → Type 0
  BodyIsAsked (body.Any cases) = All (All LiteralIsAsked) cases
  BodyIsAsked (body.Read _) = Unit {0}

  abbrev pub ConjunctIsAsked : Conjunct → Type 0
  ConjunctIsAsked c = BodyIsAsked c.body

  abbrev pub IsAsked : List Conjunct → Type 0
  IsAsked formula = All ConjunctIsAsked formula

-- `new` appends questions to `old`, so earlier questions keep their numbers
pub record Grows (old new : Order) : Type 0 where
  pub events : new.events ≡ old.events
  pub sleeps : new.sleeps ≡ old.sleeps
  pub pairs : (more : List Pair) × (new.pairs ≡ old.pairs ++ more)
  pub choices : (more : List Choice) × (new.choices ≡ old.choices ++ more)
