-- Orders that ask about each contended event and every other event.
use Rattle.std.proofs.Common.{◌≡◌, ℕ, ◌<◌, Bool, true, false, List, [], ◌∷◌, ◌++◌, refl, ap, ◌∙◌}
use Rattle.std.specs.Prelude.{fold, if◌then◌else◌, nat_eq}
use Rattle.std.specs.List.{All, list_any}
use Rattle.std.proofs.lemmas.List.Elements.{All-nil, All-head, All-push, All-tail}
use Rattle.sym_terms.specs.declared.node.Node.{Node}
use Rattle.order_formula.specs.declared.formula.Body.{Body}
use Rattle.order_formula.specs.declared.formula.Body.TheVariants as body
use Rattle.order_formula.specs.declared.formula.Conjunct.{Conjunct}
use Rattle.order_formula.specs.declared.literal.Atom.{Atom}
use Rattle.order_formula.specs.declared.literal.Atom.TheVariants.{Before, Ends, Test}
use Rattle.order_formula.specs.declared.literal.Literal.{Literal}
use Rattle.order_formula.specs.declared.order.Pair.{Pair}
use Rattle.order_formula.specs.declared.read.Candidate.{Candidate}
use Rattle.order_formula.specs.Orders.{Order, AtomIsIn, LiteralIsIn, BodyIsIn, ConjunctIsIn, order_without_questions, with_pair}
use Rattle.bit_order.specs.Comparators.{completed, pairs_with}
use Rattle.bit_blast.specs.Sizes.{whole_size}
use Rattle.bit_blast.specs.Contended.{contended, is_literal, with_atom, with_body, with_candidate, with_case, with_event}

-- more pairs keep the other parts of an order
module _ {A : Type 0} (part : Order → A) (still : (o : Order) (p : Pair) → part (with_pair o p) ≡ part o) where
  same_part : (o : Order) (ps : List Pair) → part (fold with_pair o ps) ≡ part o
  same_part o [] = refl
  same_part o (p ∷ ps) = same_part (with_pair o p) ps ∙ still o p

pub completed_events : (o : Order) (events : List ℕ) → (completed o events).events ≡ o.events
completed_events o events = same_part (λ (k : Order). k.events) (λ k p. refl) o (pairs_with o.events events)

pub completed_sleeps : (o : Order) (events : List ℕ) → (completed o events).sleeps ≡ o.sleeps
completed_sleeps o events = same_part (λ (k : Order). k.sleeps) (λ k p. refl) o (pairs_with o.events events)

pub completed_choices : (o : Order) (events : List ℕ) → (completed o events).choices ≡ o.choices
completed_choices o events = same_part (λ (k : Order). k.choices) (λ k p. refl) o (pairs_with o.events events)

-- the size depends only on the order's number of events and of sleeps
pub same_size : (o p : Order) (loads : ℕ) (nodes : List Node) (formula : List Conjunct) → p.events ≡ o.events → p.sleeps ≡ o.sleeps
    → whole_size (record { order = p; loads = loads }) nodes formula ≡ whole_size (record { order = o; loads = loads }) nodes formula
same_size o p loads nodes formula events sleeps =
    ap (λ e. whole_size (record { order = order_without_questions e p.sleeps; loads = loads }) nodes formula) events
    ∙ ap (λ s. whole_size (record { order = order_without_questions o.events s; loads = loads }) nodes formula) sleeps

-- contended events belong to the order
module _ (o : Order) where
  abbrev IsThere : ℕ → Type 0
  IsThere e = e < o.events

  event_there : (events : List ℕ) (e : ℕ) → e < o.events → All IsThere events → All IsThere (with_event events e)
  event_there events e below all = by (list_any (nat_eq e) events)
    where
      by : (b : Bool) → All IsThere (if b then events else events ++ e ∷ [])
      by true = all
      by false = All-push IsThere events e all below

  fold_there : {X : Type 0} (P : X → Type 0) (with : List ℕ → X → List ℕ)
      → ((events : List ℕ) (x : X) → P x → All IsThere events → All IsThere (with events x))
      → (events : List ℕ) (xs : List X) → All P xs → All IsThere events → All IsThere (fold with events xs)
  fold_there P with each events [] h all = all
  fold_there P with each events (x ∷ xs) h all =
      fold_there P with each (with events x) xs (All-tail P x xs h) (each events x (All-head P x xs h) all)

  atom_there : (events : List ℕ) (a : Atom) → AtomIsIn o a → All IsThere events → All IsThere (with_atom events a)
  atom_there events (Before first second) h all = event_there (with_event events first) second h.1 (event_there events first h.0 all)
  atom_there events (Ends sleep by) h all = all
  atom_there events (Test term) h all = all

  case_there : (events : List ℕ) (literals : List Literal) → All (LiteralIsIn o) literals → All IsThere events → All IsThere (with_case events literals)
  case_there events literals h all = fold_there (LiteralIsIn o) (λ es (l : Literal). with_atom es l.atom) (λ es l k at. atom_there es l.atom k at) events literals h all

  body_there : (events : List ℕ) (b : Body) → BodyIsIn o b → All IsThere events → All IsThere (with_body events b)
  body_there events (body.Any cases) h all = by (is_literal cases)
    where
      by : (b : Bool) → All IsThere (if b then events else fold with_case events cases)
      by true = all
      by false = fold_there (All (LiteralIsIn o)) with_case case_there events cases h all
  body_there events (body.Read r) h all =
      fold_there (λ (c : Candidate). c.event < o.events) with_candidate (λ es c k at. event_there es c.event k at) (with_event events r.event) r.candidates h.1
      (event_there events r.event h.0 all)

  pub contended_within : (formula : List Conjunct) → All (ConjunctIsIn o) formula → All (λ e. e < o.events) (contended formula)
  contended_within formula h =
      fold_there (ConjunctIsIn o) (λ es (c : Conjunct). with_body es c.body) (λ es c k at. body_there es c.body k at) [] formula h (All-nil IsThere)
