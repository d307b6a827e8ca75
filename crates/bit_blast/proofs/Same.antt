-- Formulas are equally true in two worlds with the same order of events, loads and enders.
use Rattle.std.proofs.Common.{◌≡◌, ℕ, ◌<◌, List, [], ◌∷◌, pos, refl, ap, ◌∙◌, Bool, true, false, not}
use Rattle.std.specs.Prelude.{◌&&◌, ◌||◌, if◌then◌else◌, filter, fold, get_or, nat_eq, Option, Some, None}
use Rattle.std.specs.Bool.{beq}
use Rattle.std.specs.List.{All, list_all, list_any, reduce}
use Rattle.std.specs.Option.{option_eq, option_map_or}
use Rattle.std.specs.Ordering.{int_eq}
use Rattle.std.proofs.lemmas.List.Elements.{All-cons, All-head, All-tail}
use Rattle.sym_terms.specs.declared.node.Node.{Node}
use Rattle.sym_terms.specs.Values.{value_of}
use Rattle.order_formula.specs.declared.literal.Atom.{Atom}
use Rattle.order_formula.specs.declared.literal.Atom.TheVariants.{Before, Ends, Test}
use Rattle.order_formula.specs.declared.literal.Literal.{Literal}
use Rattle.order_formula.specs.declared.read.Candidate.{Candidate}
use Rattle.order_formula.specs.declared.formula.Body.{Body}
use Rattle.order_formula.specs.declared.formula.Body.TheVariants as body
use Rattle.order_formula.specs.declared.formula.Conjunct.{Conjunct}
use Rattle.order_formula.specs.Orders.{Order, AtomIsIn, LiteralIsIn, BodyIsIn, ConjunctIsIn}
use Rattle.order_formula.specs.Reads.{Read}
use Rattle.order_formula.specs.Truth.{later_of, value_at, passes_at, atom_at, literal_at, case_at, is_seen, is_read, source_at, read_at, body_at, holds_at}
use Rattle.order_formula.specs.Worlds.{World, is_before}

-- tests that agree on all elements
all_same : {X : Type 0} (P : X → Type 0) (p q : X → Bool) → ((x : X) → P x → p x ≡ q x) → (xs : List X) → All P xs → list_all p xs ≡ list_all q xs
all_same P p q h [] a = refl
all_same P p q h (x ∷ xs) a =
    ap (λ b. b && list_all p xs) (h x (All-head P x xs a)) ∙ ap (λ b. q x && b) (all_same P p q h xs (All-tail P x xs a))

any_same : {X : Type 0} (P : X → Type 0) (p q : X → Bool) → ((x : X) → P x → p x ≡ q x) → (xs : List X) → All P xs → list_any p xs ≡ list_any q xs
any_same P p q h [] a = refl
any_same P p q h (x ∷ xs) a =
    ap (λ b. b || list_any p xs) (h x (All-head P x xs a)) ∙ ap (λ b. q x || b) (any_same P p q h xs (All-tail P x xs a))

filter_same : {X : Type 0} (P : X → Type 0) (p q : X → Bool) → ((x : X) → P x → p x ≡ q x) → (xs : List X) → All P xs → filter p xs ≡ filter q xs
filter_same P p q h [] a = refl
filter_same P p q h (x ∷ xs) a =
    ap (λ b. if b then x ∷ filter p xs else filter p xs) (h x (All-head P x xs a))
    ∙ ap (λ ys. if q x then x ∷ ys else ys) (filter_same P p q h xs (All-tail P x xs a))

all_where : {X : Type 0} (P : X → Type 0) (x : X) (xs : List X) (b : Bool) → P x → All P xs → All P (if b then x ∷ xs else xs)
all_where P x xs true h a = All-cons P x xs h a
all_where P x xs false h a = a

all_filter : {X : Type 0} (P : X → Type 0) (p : X → Bool) (xs : List X) → All P xs → All P (filter p xs)
all_filter P p [] a = a
all_filter P p (x ∷ xs) a = all_where P x (filter p xs) (p x) (All-head P x xs a) (all_filter P p xs (All-tail P x xs a))

module _ (nodes : List Node) (o : Order) (w x : World)
    (before : (first second : ℕ) → first < o.events → second < o.events → is_before w first second ≡ is_before x first second)
    (loads : w.loads ≡ x.loads) (enders : w.enders ≡ x.enders)
  where
    value_same : (term : ℕ) → value_at nodes w term ≡ value_at nodes x term
    value_same term = ap (λ ls. value_of nodes ls term) loads

    test_same : (term : ℕ) → passes_at nodes w term ≡ passes_at nodes x term
    test_same term = ap (λ z. not (int_eq z (pos 0))) (value_same term)

    atom_same : (atom : Atom) → AtomIsIn o atom → atom_at nodes w atom ≡ atom_at nodes x atom
    atom_same (Before first second) h = before first second h.0 h.1
    atom_same (Ends sleep by) h = ap (λ es. option_eq nat_eq (get_or es sleep None) (Some by)) enders
    atom_same (Test term) h = test_same term

    literal_same : (l : Literal) → LiteralIsIn o l → literal_at nodes w l ≡ literal_at nodes x l
    literal_same l h = ap (λ b. beq b l.wanted) (atom_same l.atom h)

    case_same : (ls : List Literal) → All (LiteralIsIn o) ls → case_at nodes w ls ≡ case_at nodes x ls
    case_same ls h = all_same (LiteralIsIn o) (literal_at nodes w) (literal_at nodes x) literal_same ls h

    abbrev IsThere : Candidate → Type 0
    IsThere c = c.event < o.events

    module _ (r : Read) (load : r.event < o.events) (there : All IsThere r.candidates) where
      read_same : (c : Candidate) → IsThere c → is_read nodes w r c ≡ is_read nodes x r c
      read_same c h =
          ap (λ b. (c.earlier || b) && option_map_or (passes_at nodes w) c.same_cell true) (before c.event r.event h load)
          ∙ ap (λ b. is_seen nodes x r c && b) (cell c.same_cell)
        where
          cell : (test : Option ℕ) → option_map_or (passes_at nodes w) test true ≡ option_map_or (passes_at nodes x) test true
          cell None = refl
          cell (Some test) = test_same test

      later_same : (c d : Candidate) → IsThere c → IsThere d → later_of w c d ≡ later_of x c d
      later_same c d p q = ap (λ b. if b then d else c) (before c.event d.event p q)

      later_there : (c d : Candidate) → IsThere c → IsThere d → IsThere (later_of w c d)
      later_there c d p q = by (is_before w c.event d.event)
        where
          by : (b : Bool) → IsThere (if b then d else c)
          by true = q
          by false = p

      last_same : (c : Candidate) (cs : List Candidate) → IsThere c → All IsThere cs → fold (later_of w) c cs ≡ fold (later_of x) c cs
      last_same c [] p a = refl
      last_same c (d ∷ cs) p a =
          let q : IsThere d = All-head IsThere d cs a in
          last_same (later_of w c d) cs (later_there c d p q) (All-tail IsThere d cs a) ∙ ap (λ k. fold (later_of x) k cs) (later_same c d p q)

      picked_same : (cs : List Candidate) → All IsThere cs → reduce (later_of w) cs ≡ reduce (later_of x) cs
      picked_same [] a = refl
      picked_same (c ∷ cs) a = ap Some (last_same c cs (All-head IsThere c cs a) (All-tail IsThere c cs a))

      source_same : source_at nodes w r ≡ source_at nodes x r
      source_same =
          picked_same (filter (is_read nodes w r) r.candidates) (all_filter IsThere (is_read nodes w r) r.candidates there)
          ∙ ap (reduce (later_of x)) (filter_same IsThere (is_read nodes w r) (is_read nodes x r) read_same r.candidates there)

      from_same : (s : Option Candidate) → option_map_or (λ (c : Candidate). value_at nodes w c.value) s (value_at nodes w r.start)
          ≡ option_map_or (λ (c : Candidate). value_at nodes x c.value) s (value_at nodes x r.start)
      from_same None = value_same r.start
      from_same (Some c) = value_same c.value

      takes_same : read_at nodes w r ≡ read_at nodes x r
      takes_same =
          ap (λ z. int_eq z (option_map_or (λ (c : Candidate). value_at nodes w c.value) (source_at nodes w r) (value_at nodes w r.start))) (value_same r.takes)
          ∙ ap (int_eq (value_at nodes x r.takes)) (from_same (source_at nodes w r)
          ∙ ap (λ s. option_map_or (λ (c : Candidate). value_at nodes x c.value) s (value_at nodes x r.start)) source_same)

    pub body_same : (b : Body) → BodyIsIn o b → body_at nodes w b ≡ body_at nodes x b
    body_same (body.Any cases) h = any_same (All (LiteralIsIn o)) (case_at nodes w) (case_at nodes x) case_same cases h
    body_same (body.Read r) h = takes_same r h.0 h.1

    pub holds_same : (formula : List Conjunct) → All (ConjunctIsIn o) formula → holds_at nodes w formula ≡ holds_at nodes x formula
    holds_same formula h =
        all_same (ConjunctIsIn o) (λ (c : Conjunct). body_at nodes w c.body) (λ (c : Conjunct). body_at nodes x c.body) (λ c p. body_same c.body p) formula h
