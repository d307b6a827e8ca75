-- The contended events, each of which is compared with every other event: loads and the writes that
-- they may take, and the events of conjuncts that leave an order open.
use Rattle.std.specs.Prelude.{ℕ, ◌&&◌, ◌==◌, Bool, if◌then◌else◌, nat_eq, List, [], fold, length}
use Rattle.std.specs.List.{list_all}
use Rattle.indexmap.specs.IndexSet.{insert_key}
use Rattle.order_formula.specs.declared.formula.Body.{Body}
use Rattle.order_formula.specs.declared.formula.Body.TheVariants as body
use Rattle.order_formula.specs.declared.formula.Conjunct.{Conjunct}
use Rattle.order_formula.specs.declared.literal.Atom.{Atom}
use Rattle.order_formula.specs.declared.literal.Atom.TheVariants.{Before, Ends, Test}
use Rattle.order_formula.specs.declared.literal.Literal.{Literal}
use Rattle.order_formula.specs.declared.read.Candidate.{Candidate}

-- a conjunct of a single literal, which leaves no order open
abbrev pub is_literal : List (List Literal) → Bool
is_literal cases = length cases == 1 && list_all (λ literals. length literals == 1) cases

-- adds an event, unless it is there already
abbrev pub with_event : List ℕ → ℕ → List ℕ
with_event events event = insert_key nat_eq events event

-- adds the events of an atom; further below, of a case, a candidate and a conjunct
abbrev pub with_atom : List ℕ → Atom → List ℕ
with_atom events (Before first second) = with_event (with_event events first) second
with_atom events (Ends _ _) = events
with_atom events (Test _) = events

abbrev pub with_case : List ℕ → List Literal → List ℕ
with_case events literals = fold (λ es l. with_atom es l.atom) events literals

abbrev pub with_candidate : List ℕ → Candidate → List ℕ
with_candidate events c = with_event events c.event

abbrev pub with_body : List ℕ → Body → List ℕ
with_body events (body.Any cases) = if is_literal cases then events else fold with_case events cases
with_body events (body.Read r) = fold with_candidate (with_event events r.event) r.candidates

abbrev pub contended : List Conjunct → List ℕ
contended formula = fold (λ es c. with_body es c.body) [] formula
