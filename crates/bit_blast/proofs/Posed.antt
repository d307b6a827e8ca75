-- A formula over the events of an order that asks about each contended event and every other event
-- has all answers that its clauses need.
use Rattle.std.proofs.Common.{◌≡◌, ℕ, ◌<◌, Bool, true, false, List, [], ◌∷◌, ◌++◌, inl, inr, refl, ap, sym, ◌∙◌, subst, arith, length, map}
use Rattle.std.specs.Prelude.{fold, if◌then◌else◌, nat_eq}
use Rattle.std.specs.List.{All, Contains, list_any}
use Rattle.std.proofs.lemmas.Bool.{eqb-true}
use Rattle.std.proofs.lemmas.List.Elements.{All-cons, All-contains, All-map, All-weaker, Contains-append_left}
use Rattle.std.proofs.lemmas.List.Folds.{fold-map}
use Rattle.indexmap.proofs.CallerLemmas.{Contains-insert_key}
use Rattle.sym_terms.specs.declared.node.Node.{Node}
use Rattle.order_formula.specs.declared.formula.Body.{Body}
use Rattle.order_formula.specs.declared.formula.Body.TheVariants as body
use Rattle.order_formula.specs.declared.formula.Conjunct.{Conjunct}
use Rattle.order_formula.specs.declared.literal.Atom.{Atom}
use Rattle.order_formula.specs.declared.literal.Atom.TheVariants.{Before, Ends, Test}
use Rattle.order_formula.specs.declared.literal.Literal.{Literal}
use Rattle.order_formula.specs.declared.read.Candidate.{Candidate}
use Rattle.order_formula.specs.Orders.{Order, AtomIsIn, LiteralIsIn, BodyIsIn, ConjunctIsIn, ConjunctIsAsked, IsAsked, BodyIsAsked, IsOrder}
use Rattle.order_formula.specs.Reads.{Read}
use Rattle.order_formula.specs.Worlds.{World}
use Rattle.order_formula.proofs.Asked.{formula_stays}
use Rattle.cnf_core.specs.Clauses.{Formula, satisfies}
use Rattle.bit_ops.specs.bit_words.Words.{Walked}
use Rattle.bit_order.specs.Laws.{IsWorldFor, SaysSame}
use Rattle.bit_order.specs.Layouts.{Layout}
use Rattle.bit_order.specs.Readings.{world_of}
use Rattle.bit_order.proofs.Asking.{completed-asked, grows-completed}
use Rattle.bit_blast.specs.Blasted.{BlastMeans, Blasted, IsApart, IsPosed, RootsTell, blast, layout_of}
use Rattle.bit_blast.specs.Contended.{contended, is_literal, with_atom, with_body, with_candidate, with_case, with_event}
use Rattle.bit_blast.specs.Drafts.{Draft, DraftMeans, KeepsWorlds, MeansWorlds, asserted, drafted}
use Rattle.bit_blast.specs.Laws.{BodyIsTold}
use Rattle.bit_blast.specs.Says.{DraftTells}
use Rattle.bit_blast.specs.Whole.{IsReady, clauses_with_roots}
use Rattle.bit_blast.proofs.Completed.{completed_choices, completed_events, completed_sleeps}
use Rattle.bit_blast.proofs.Lists.{all_of, contains_cases, contains_none}
use Rattle.bit_blast.proofs.Prefixes.{first_part}
use Rattle.bit_blast.proofs.Rooted.{draft_means, kept, roots_tell}
use Rattle.bit_blast.proofs.Saying.{draft_tells}
use Rattle.bit_blast.proofs.WholeLaws.{all_roots, first_true, whole_means}

-- adding an element keeps the events
abbrev Keeps : {X : Type 0} → (List ℕ → X → List ℕ) → Type 0
Keeps with = (events : List ℕ) (x : _) (e : ℕ) → Contains events e → Contains (with events x) e

event_keeps : Keeps with_event
event_keeps events k e there = by (list_any (nat_eq k) events)
  where
    by : (b : Bool) → Contains (if b then events else events ++ k ∷ []) e
    by true = there
    by false = Contains-append_left events (k ∷ []) e there

fold_keeps : {X : Type 0} (with : List ℕ → X → List ℕ) → Keeps with → (events : List ℕ) (xs : List X) (e : ℕ) → Contains events e
    → Contains (fold with events xs) e
fold_keeps with each events [] e there = there
fold_keeps with each events (x ∷ xs) e there = fold_keeps with each (with events x) xs e (each events x e there)

fold_has : {X : Type 0} (with : List ℕ → X → List ℕ) → Keeps with → (x : X) (e : ℕ) → ((events : List ℕ) → Contains (with events x) e)
    → (events : List ℕ) (xs : List X) → Contains xs x → Contains (fold with events xs) e
fold_has with each x e has events [] there = absurd (contains_none x there)
fold_has with each x e has events (y ∷ ys) there = elim (contains_cases y x ys there) [
  | inl is ↦ fold_keeps with each (with events y) ys e (subst (λ z. Contains (with events z) e) (sym is) (has events))
  | inr later ↦ fold_has with each x e has (with events y) ys later
]

atom_keeps : Keeps with_atom
atom_keeps events (Before first second) e there = event_keeps (with_event events first) second e (event_keeps events first e there)
atom_keeps events (Ends sleep by) e there = there
atom_keeps events (Test term) e there = there

case_keeps : Keeps with_case
case_keeps events literals e there = fold_keeps (λ es (l : Literal). with_atom es l.atom) (λ es l k at. atom_keeps es l.atom k at) events literals e there

candidate_keeps : Keeps with_candidate
candidate_keeps events c e there = event_keeps events c.event e there

body_keeps : Keeps with_body
body_keeps events (body.Any cases) e there = by (is_literal cases)
  where
    by : (b : Bool) → Contains (if b then events else fold with_case events cases) e
    by true = there
    by false = fold_keeps with_case case_keeps events cases e there
body_keeps events (body.Read r) e there =
    fold_keeps with_candidate candidate_keeps (with_event events r.event) r.candidates e (event_keeps events r.event e there)

event_has : (events : List ℕ) (e : ℕ) → Contains (with_event events e) e
event_has events e = Contains-insert_key nat_eq (λ x y is. eqb-true x y is) events e

abbrev events_of : Read → List ℕ
events_of r = r.event ∷ map (λ (c : Candidate). c.event) r.candidates

read_has : (r : Read) (e : ℕ) → Contains (events_of r) e → (events : List ℕ) → Contains (with_body events (body.Read r)) e
read_has r e there events =
    let others : List ℕ = map (λ (c : Candidate). c.event) r.candidates in
    elim (contains_cases r.event e others there) [
      | inl is ↦ fold_keeps with_candidate candidate_keeps (with_event events r.event) r.candidates e
          (subst (Contains (with_event events r.event)) is (event_has events r.event))
      | inr later ↦ subst (λ es. Contains es e) (fold-map with_event (λ (c : Candidate). c.event) (with_event events r.event) r.candidates)
          (fold_has with_event event_keeps e e (λ es. event_has es e) (with_event events r.event) others later)
    ]

contended_has : (formula : List Conjunct) (c : Conjunct) (r : Read) (e : ℕ) → Contains formula c → c.body ≡ body.Read r → Contains (events_of r) e
    → Contains (contended formula) e
contended_has formula c r e there is named =
    fold_has (λ es (d : Conjunct). with_body es d.body) (λ es d k at. body_keeps es d.body k at) c e
    (λ es. subst (λ b. Contains (with_body es b) e) (sym is) (read_has r e named es)) [] formula there

module _ (o p : Order) (events : p.events ≡ o.events) (sleeps : p.sleeps ≡ o.sleeps) where
  atom_in : (a : Atom) → AtomIsIn o a → AtomIsIn p a
  atom_in (Before first second) h = (omega (arith, h.0, events), omega (arith, h.1, events))
  atom_in (Ends sleep by) h = (omega (arith, h.0, sleeps), omega (arith, h.1, events))
  atom_in (Test term) h = tt

  body_in : (b : Body) → BodyIsIn o b → BodyIsIn p b
  body_in (body.Any cases) h =
      All-weaker (All (LiteralIsIn o)) (All (LiteralIsIn p)) (λ ls k. All-weaker (LiteralIsIn o) (LiteralIsIn p) (λ l i. atom_in l.atom i) ls k) cases h
  body_in (body.Read r) h =
      (omega (arith, h.0, events), All-weaker (λ c. c.event < o.events) (λ c. c.event < p.events) (λ c k. omega (arith, k, events)) r.candidates h.1)

  pub formula_in : (formula : List Conjunct) → All (ConjunctIsIn o) formula → All (ConjunctIsIn p) formula
  formula_in formula h = All-weaker (ConjunctIsIn o) (ConjunctIsIn p) (λ c k. body_in c.body k) formula h

module _ (nodes : List Node) (formula : List Conjunct) (o : Order) (loads : ℕ) (h : IsPosed nodes formula o) (lawful : IsOrder (layout_of o loads formula).order) where
  abbrev y : Layout
  y = layout_of o loads formula

  events : y.order.events ≡ o.events
  events = completed_events o (contended formula)

  sleeps : y.order.sleeps ≡ o.sleeps
  sleeps = completed_sleeps o (contended formula)

  choices : y.order.choices ≡ o.choices
  choices = completed_choices o (contended formula)

  within : All (ConjunctIsIn y.order) formula
  within = formula_in o y.order events sleeps formula h.within

  asked : IsAsked y.order formula
  asked = formula_stays o y.order formula (grows-completed o (contended formula)) h.asked

  told_body : (c : Conjunct) → Contains formula c → (b : Body) → c.body ≡ b → BodyIsAsked y.order b → BodyIsIn y.order b → IsApart b → BodyIsTold y.order b
  told_body c there (body.Any cases) is all there_too apart = all
  told_body c there (body.Read r) is all inside apart =
      let own : All (λ e. e < y.order.events) (events_of r) =
      All-cons (λ e. e < y.order.events) r.event (map (λ (k : Candidate). k.event) r.candidates) inside.0
      (All-map (λ e. e < y.order.events) (λ (k : Candidate). k.event) r.candidates inside.1) in
      record {
        distinct = apart;
        within = own;
        asked = λ first second p q differ.
            let below : second < y.order.events = All-contains (λ e. e < y.order.events) (events_of r) second own q in
            completed-asked o (contended formula) first second (contended_has formula c r first there is p) (omega (arith, below, events)) differ;
      }

  told : All (λ c. BodyIsTold y.order c.body) formula
  told = all_of (λ (c : Conjunct). BodyIsTold y.order c.body) formula
      (λ c there. told_body c there c.body refl (All-contains (ConjunctIsAsked y.order) formula c asked there)
      (All-contains (ConjunctIsIn y.order) formula c within there) (All-contains (λ (d : Conjunct). IsApart d.body) formula c h.apart there))

  ready : IsReady y nodes formula
  ready = record { order = lawful; events = omega (arith, h.events, events); ints = h.ints; told = told; within = within }

  abbrev posed : Layout
  posed = record { order = o; loads = loads }

  to_completed : (w : World) → IsWorldFor posed w → IsWorldFor y w
  to_completed w k = record {
    world = k.world;
    positions = k.positions ∙ sym events;
    small = k.small;
    loads = k.loads;
    ints = k.ints;
    enders = k.enders ∙ sym sleeps;
    chosen = λ sleep by is. subst (λ cs. Contains cs (record { sleep = sleep; by = by })) (sym choices) (k.chosen sleep by is);
  }

  from_completed : (w : World) → IsWorldFor y w → IsWorldFor posed w
  from_completed w k = record {
    world = k.world;
    positions = k.positions ∙ events;
    small = k.small;
    loads = k.loads;
    ints = k.ints;
    enders = k.enders ∙ sleeps;
    chosen = λ sleep by is. subst (λ cs. Contains cs (record { sleep = sleep; by = by })) choices (k.chosen sleep by is);
  }

  same_as : (w x : World) → SaysSame y w x → SaysSame posed w x
  same_as w x k = record { before = λ a b p q. k.before a b (omega (arith, p, events)) (omega (arith, q, events)); loads = k.loads; enders = k.enders }

  abbrev made : Walked Formula
  made = clauses_with_roots y nodes formula

  pub blast_means : BlastMeans nodes formula o loads
  blast_means = record {
    to = λ v s.
        let first : satisfies v made.state.clauses ≡ true = first_part v made.state.clauses (map (λ l. l ∷ []) made.word) s in
        let m = (whole_means y nodes formula ready).to v (record { one = first_true y nodes formula ready v first; all = s }) in
        (from_completed (world_of y v) m.0, m.1);
    back = λ w is holds.
        let m = (whole_means y nodes formula ready).back w (to_completed w is) holds in
        (m.0, m.1.all, same_as w (world_of y m.0) m.2);
  }

  posed_tells : (b : Blasted) → RootsTell nodes formula y b → RootsTell nodes formula posed b
  posed_tells b r = record {
    unit = r.unit;
    to = λ v s. let m = r.to v s in (from_completed (world_of b.layout v) m.0, m.1);
    back = λ w is. let m = r.back w (to_completed w is) in (m.0, m.1, same_as w (world_of b.layout m.0) m.2, m.3);
    core = λ numbers inside none w is. r.core numbers inside none w (to_completed w is);
  }

  posed_means : (b : Blasted) → MeansWorlds nodes formula y b → MeansWorlds nodes formula posed b
  posed_means b r = record {
    to = λ v s. let m = r.to v s in (from_completed (world_of b.layout v) m.0, m.1);
    back = λ w is holds. let m = r.back w (to_completed w is) holds in (m.0, m.1, same_as w (world_of b.layout m.0) m.2);
  }

  pub roots-tell : RootsTell nodes formula posed (blast nodes formula o loads)
  roots-tell =
      let d : Draft = drafted nodes formula y in
      posed_tells (blast nodes formula o loads) (roots_tell y nodes formula ready d (kept nodes formula d) (length formula) refl)

  pub drafts-mean : (e : Draft) → KeepsWorlds nodes formula (drafted nodes formula y) e → DraftMeans nodes formula posed e
  drafts-mean e keeps =
      let many : length e.roots ≡ length formula = ap length keeps.roots ∙ (all_roots y nodes formula ready).count in
      record {
        means = posed_means (asserted e) (draft_means y nodes formula ready e keeps (length e.roots) many);
        tells = posed_tells (asserted e) (roots_tell y nodes formula ready e keeps (length e.roots) many);
      }

  pub drafts-tell : DraftTells nodes formula (drafted nodes formula y)
  drafts-tell = draft_tells y nodes formula ready
