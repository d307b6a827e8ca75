-- The clauses of a formula by number, and what the roots mean.
use Rattle.std.proofs.Common.{◌≡◌, ℕ, ◌+◌, ◌-◌, ◌<◌, List, [], ◌∷◌, ◌++◌, ℤ, pos, inl, inr, refl, ap, sym, ◌∙◌, subst, arith, Bool, true, false, length, get_or, map}
use Rattle.std.specs.Prelude.{Some, slice_get}
use Rattle.std.specs.List.{All, Contains, list_all}
use Rattle.std.specs.Option.{option_map}
use Rattle.std.proofs.lemmas.Bool.{and_from, and_parts, cases_lt, false≢true}
use Rattle.std.proofs.lemmas.List.{get_or-append-add, get_or-map, length-append, length-map, take_at}
use Rattle.std.proofs.lemmas.List.Elements.{All-contains, All-get_or}
use Rattle.std.proofs.lemmas.List.Folds.{list_all-append, list_all-map}
use Rattle.std.proofs.lemmas.Option.{get_or_from_slice_get, slice_get-get_or, slice_get-map, slice_get_cases, slice_get_within}
use Rattle.sym_terms.specs.declared.node.Node.{Node}
use Rattle.order_formula.specs.declared.formula.Conjunct.{Conjunct}
use Rattle.order_formula.specs.Orders.{ConjunctIsIn}
use Rattle.order_formula.specs.Truth.{body_at, holds_at}
use Rattle.order_formula.specs.Worlds.{World}
use Rattle.cnf_core.specs.Clauses.{Formula, IsUnsatisfiable, Valuation, clause_true, literal_true, satisfies}
use Rattle.bit_gates.specs.Laws.{IsModel}
use Rattle.bit_ops.specs.bit_words.Laws.{values}
use Rattle.bit_ops.specs.bit_words.Words.{Walked}
use Rattle.bit_order.specs.Laws.{IsWorldFor, SaysSame}
use Rattle.bit_order.specs.Layouts.{Layout}
use Rattle.bit_order.specs.Readings.{world_of}
use Rattle.bit_order.proofs.Meaning.{values-say-worlds}
use Rattle.bit_blast.specs.Blasted.{Blasted, RootsTell, background, clause_at, impossible, root_of}
use Rattle.bit_blast.specs.Drafts.{Draft, KeepsWorlds, MeansWorlds, asserted, drafted}
use Rattle.bit_blast.specs.Laws.{AreRoots}
use Rattle.bit_blast.specs.Whole.{IsReady, clauses_with_roots, clauses_with_terms}
use Rattle.bit_blast.proofs.CaseLaws.{or_false}
use Rattle.bit_blast.proofs.Lists.{all_pass, contains_start, some_fails}
use Rattle.bit_blast.proofs.RootLaws.{units_true, values_agree}
use Rattle.bit_blast.proofs.Same.{body_same, holds_same}
use Rattle.bit_blast.proofs.WholeLaws.{all_roots, first_true, still, whole_means}

-- the conditions under which a draft's clauses mean what a formula means
module _ (y : Layout) (nodes : List Node) (formula : List Conjunct) (h : IsReady y nodes formula)
    (e : Draft) (keeps : KeepsWorlds nodes formula (drafted nodes formula y) e) (conjuncts : ℕ) (many : conjuncts ≡ length formula) where
  abbrev b : Blasted
  b = record { layout = e.layout; clauses = (asserted e).clauses; conjuncts = conjuncts }

  abbrev m : Walked Formula
  m = clauses_with_roots y nodes formula

  abbrev first : List (List ℤ)
  first = e.clauses.clauses

  abbrev units : List (List ℤ)
  units = map (λ l. l ∷ []) e.roots

  roots : AreRoots nodes (world_of y) (clauses_with_terms y nodes).formula m formula
  roots = all_roots y nodes formula h

  count : length e.roots ≡ length formula
  count = ap length keeps.roots ∙ roots.count

  long : length b.clauses.clauses ≡ length first + length formula
  long = length-append first units ∙ ap (λ n. length first + n) (length-map e.roots (λ l. l ∷ []) ∙ count)

  place : (k : ℕ) → root_of b k ≡ length first + k
  place k = omega (arith, long, many)

  before_roots : background b ≡ first
  before_roots = take_at first units (root_of b 0) (omega (arith, long, many))

  abbrev literal : ℕ → ℤ
  literal k = get_or e.roots k (pos 0)

  root_is : (k : ℕ) → k < length formula → clause_at b (root_of b k) ≡ literal k ∷ []
  root_is k below =
      ap (clause_at b) (place k) ∙ get_or-append-add first units k [] ∙ get_or-map (λ l. l ∷ []) e.roots k (pos 0) [] (omega (arith, below, count))

  truth : (v : Valuation) (k : ℕ) → k < length formula → clause_true v (clause_at b (root_of b k)) ≡ get_or (values v m.word) k false
  truth v k below =
      ap (clause_true v) (root_is k below) ∙ sym (or_false (literal_true v (literal k)))
      ∙ sym (get_or-map (literal_true v) e.roots k (pos 0) false (omega (arith, below, count)))
      ∙ ap (λ ls. get_or (values v ls) k false) keeps.roots

  -- the truth of a conjunct in a world
  told : (w : World) (k : ℕ) (c : Conjunct) → slice_get formula k ≡ Some c
      → get_or (map (λ (d : Conjunct). body_at nodes w d.body) formula) k false ≡ body_at nodes w c.body
  told w k c is =
      let truths : Conjunct → Bool = λ d. body_at nodes w d.body in
      get_or_from_slice_get (map truths formula) k (truths c) false (slice_get-map truths formula k ∙ ap (option_map truths) is)

  there : (k : ℕ) (c : Conjunct) → slice_get formula k ≡ Some c → ConjunctIsIn y.order c
  there k c is =
      subst (ConjunctIsIn y.order) (get_or_from_slice_get formula k c c is)
      (All-get_or (ConjunctIsIn y.order) formula k c (slice_get_within formula k c is) h.within)

  -- values that satisfy the draft's clauses are a model of the formula's roots
  model : (v : Valuation) → satisfies v first ≡ true → IsModel v m.state
  model v s = let all = keeps.before v s in record { one = first_true y nodes formula h v all; all = all }

  to : (v : Valuation) → satisfies v (background b) ≡ true → IsWorldFor y (world_of b.layout v)
      × ((k : ℕ) (c : Conjunct) → slice_get formula k ≡ Some c → clause_true v (clause_at b (root_of b k)) ≡ true → body_at nodes (world_of b.layout v) c.body ≡ true)
  to v s =
      let here : IsModel v m.state = model v (subst (λ cs. satisfies v cs ≡ true) before_roots s) in
      let at_y : IsWorldFor y (world_of y v)
      × ((k : ℕ) (c : Conjunct) → slice_get formula k ≡ Some c → clause_true v (clause_at b (root_of b k)) ≡ true → body_at nodes (world_of y v) c.body ≡ true) = (
        values-say-worlds y v h.events,
        λ k c is t. sym (told (world_of y v) k c is) ∙ roots.holds v here k (sym (truth v k (slice_get_within formula k c is)) ∙ t),
      ) in
      subst (λ z. IsWorldFor y (world_of z v)
      × ((k : ℕ) (c : Conjunct) → slice_get formula k ≡ Some c → clause_true v (clause_at b (root_of b k)) ≡ true → body_at nodes (world_of z v) c.body ≡ true))
      (sym keeps.layout) at_y

  -- each world has a model of the draft's clauses, whose roots tell which conjuncts are true
  said : (w : World) → IsWorldFor y w → (v : Valuation) × IsModel v e.clauses × SaysSame y w (world_of b.layout v)
      × (values v m.word ≡ map (λ (c : Conjunct). body_at nodes (world_of b.layout v) c.body) formula)
  said w is =
      let v = (whole_means y nodes formula h).each w is in
      let u = keeps.extends v.0 v.1 v.3 in
      let same : world_of y v.0 ≡ world_of b.layout u.0 =
      still y nodes formula h v.0 u.0 (λ k below. u.2 k (omega (arith, below, roots.more))) ∙ ap (λ z. world_of z u.0) (sym keeps.layout) in (
        u.0,
        u.1,
        subst (SaysSame y w) same v.2,
        sym (values_agree m.state.vars v.0 u.0 m.word u.2 roots.literals) ∙ v.3 ∙ ap (λ x. map (λ (c : Conjunct). body_at nodes x c.body) formula) same,
      )

  back : (w : World) → IsWorldFor y w → (v : Valuation) × (satisfies v (background b) ≡ true) × SaysSame y w (world_of b.layout v)
      × ((k : ℕ) (c : Conjunct) → slice_get formula k ≡ Some c → clause_true v (clause_at b (root_of b k)) ≡ body_at nodes w c.body)
  back w is =
      let v = said w is in
      let s : SaysSame y w (world_of b.layout v.0) = v.2 in (
        v.0,
        subst (λ cs. satisfies v.0 cs ≡ true) (sym before_roots) v.1.all,
        s,
        λ k c at.
            truth v.0 k (slice_get_within formula k c at) ∙ ap (λ bs. get_or bs k false) v.3 ∙ told (world_of b.layout v.0) k c at
            ∙ sym (body_same nodes y.order w (world_of b.layout v.0) s.before s.loads s.enders c.body (there k c at)),
      )

  -- if all clauses except roots are true, a clause that isn't is the root of a conjunct
  root_at : (v : Valuation) (n : ℕ) → satisfies v (background b) ≡ true → n < length b.clauses.clauses → clause_true v (clause_at b n) ≡ false
      → (k : ℕ) × (c : Conjunct) × (root_of b k ≡ n) × (slice_get formula k ≡ Some c)
  root_at v n s below f = elim (cases_lt n (length first)) [
    | inl early ↦ absurd (false≢true (sym f ∙ all_pass (clause_true v) first (clause_at b n) (subst (λ cs. satisfies v cs ≡ true) before_roots s)
        (contains_start first units [] n early)))
    | inr late ↦ elim (slice_get_cases formula (n - length first)).1 [
      | inl found ↦ (n - length first, found.0, omega (arith, place (n - length first), late), found.2)
      | inr past ↦ absurd (omega (arith, past.0, below, long, late))
    ]
  ]

  core : (numbers : List ℕ) → All (λ n. n < length b.clauses.clauses) numbers → IsUnsatisfiable (map (clause_at b) numbers) → (w : World) → IsWorldFor y w
      → (k : ℕ) × (c : Conjunct) × Contains numbers (root_of b k) × (slice_get formula k ≡ Some c) × (body_at nodes w c.body ≡ false)
  core numbers inside none w is = by (list_all passes numbers) refl
    where
      v : (v : Valuation) × (satisfies v (background b) ≡ true) × SaysSame y w (world_of b.layout v)
          × ((k : ℕ) (c : Conjunct) → slice_get formula k ≡ Some c → clause_true v (clause_at b (root_of b k)) ≡ body_at nodes w c.body)
      v = back w is

      passes : ℕ → Bool
      passes n = clause_true v.0 (clause_at b n)

      by : (all : Bool) → list_all passes numbers ≡ all
          → (k : ℕ) × (c : Conjunct) × Contains numbers (root_of b k) × (slice_get formula k ≡ Some c) × (body_at nodes w c.body ≡ false)
      by true e = absurd (none v.0 (list_all-map (clause_true v.0) (clause_at b) numbers ∙ e))
      by false e =
          let x = some_fails passes numbers e in
          let r = root_at v.0 x.0 v.1 (All-contains (λ n. n < length b.clauses.clauses) numbers x.0 inside x.1) x.2 in (
            r.0,
            r.1,
            subst (Contains numbers) (sym r.2) x.1,
            r.3,
            sym (v.3 r.0 r.1 r.3) ∙ ap passes r.2 ∙ x.2,
          )

  pub roots_tell : RootsTell nodes formula y b
  roots_tell = record {
    unit = λ k below. (literal k, slice_get-get_or b.clauses.clauses (root_of b k) [] (omega (arith, place k, long, below)) ∙ ap Some (root_is k below));
    to = to;
    back = back;
    core = core;
  }

  all_true : (v : Valuation) → satisfies v units ≡ list_all (λ b. b) (values v m.word)
  all_true v = units_true v e.roots ∙ ap (λ ls. list_all (λ b. b) (values v ls)) keeps.roots

  pub draft_means : MeansWorlds nodes formula y b
  draft_means = record {
    to = λ v s.
        let parts = and_parts (satisfies v first) (satisfies v units) (sym (list_all-append (clause_true v) first units) ∙ s) in
        let all : satisfies v (m.state.clauses ++ map (λ l. l ∷ []) m.word) ≡ true =
        list_all-append (clause_true v) m.state.clauses (map (λ l. l ∷ []) m.word)
        ∙ and_from _ _ (keeps.before v parts.0) (units_true v m.word ∙ sym (all_true v) ∙ parts.1) in
        let at_y = (whole_means y nodes formula h).to v (record { one = (model v parts.0).one; all = all }) in
        subst (λ z. IsWorldFor y (world_of z v) × (holds_at nodes (world_of z v) formula ≡ true)) (sym keeps.layout) at_y;
    back = λ w is holds.
        let v = said w is in
        let s : SaysSame y w (world_of b.layout v.0) = v.2 in
        let there : holds_at nodes (world_of b.layout v.0) formula ≡ true =
        sym (holds_same nodes y.order w (world_of b.layout v.0) s.before s.loads s.enders formula h.within) ∙ holds in
        let roots_true : satisfies v.0 units ≡ true =
        all_true v.0 ∙ ap (list_all (λ b. b)) v.3 ∙ list_all-map (λ b. b) (λ (c : Conjunct). body_at nodes (world_of b.layout v.0) c.body) formula ∙ there in
        (v.0, list_all-append (clause_true v.0) first units ∙ and_from _ _ v.1.all roots_true, s);
  }

-- a draft keeps its own worlds
pub kept : (nodes : List Node) (formula : List Conjunct) (d : Draft) → KeepsWorlds nodes formula d d
kept nodes formula d = record {
  layout = refl;
  words = refl;
  roots = refl;
  more = omega arith;
  over = λ o. o;
  before = λ v s. s;
  extends = λ v m t. (v, m, λ k below. refl);
}

pub impossible-unsatisfiable : IsUnsatisfiable impossible.clauses.clauses
impossible-unsatisfiable v s = false≢true s
