-- No world satisfies the conjuncts of all groups that a closed derivation reaches: its values would
-- satisfy each clause that is reached.
use Rattle.std.proofs.Common.{◌≡◌, ◌∙◌, ℕ, ◌+◌, ◌-◌, ◌<◌, ◌≤◌, ℤ, true, List, [], length, map, take, get_or, inl, inr, refl, sym, subst, arith}
use Rattle.std.specs.Prelude.{IsTrue, Some, slice_get}
use Rattle.std.specs.List.{All, Contains, filter, range_with_len}
use Rattle.std.proofs.lemmas.Bool.{cases_lt}
use Rattle.std.proofs.lemmas.List.{get_or-take, length-take}
use Rattle.std.proofs.lemmas.List.Elements.{All-contains, All-weaker, Contains-get_or}
use Rattle.std.proofs.lemmas.List.Folds.{list_all-map}
use Rattle.std.proofs.lemmas.List.FromFn.{get_or-range_with_len, length-range_with_len}
use Rattle.std.proofs.lemmas.Option.{slice_get_cases}
use Rattle.order_formula.specs.sym_terms.declared.node.Node.{Node}
use Rattle.order_formula.specs.declared.formula.Conjunct.{Conjunct}
use Rattle.order_formula.specs.declared.group.Group.{Group}
use Rattle.order_formula.specs.Groups.{HoldsIn}
use Rattle.order_formula.specs.Orders.{ConjunctIsIn, Order}
use Rattle.order_formula.specs.Truth.{body_at}
use Rattle.order_formula.specs.Worlds.{World, is_before}
use Rattle.order_events.proofs.Lists.{at_in, in_filter, of_filter}
use Rattle.order_events.proofs.Parts.{all_from, all_of}
use Rattle.bit_blast.specs.bit_ranks.Ranks.{ranks_of}
use Rattle.bit_blast.proofs.bit_ranks.RankLaws.{different-order, length-ranks, ranks-below, ranks-differ, ranks-order}
use Rattle.refute_check.specs.cnf_core.Clauses.{Valuation, clause_true, satisfies}
use Rattle.bit_blast.specs.bit_order.Laws.{IsWorldFor}
use Rattle.bit_blast.specs.Blasted.{Blasted, IsPosed, RootsTell, background, clause_at, root_of}
use Rattle.bit_blast.proofs.Same.{body_same}
use Rattle.refute_check.specs.Refutations.{IsClosed}
use Rattle.refute_check.specs.declared.line.Line.{Line}
use Rattle.why_impossible.specs.refute_core.Reached.{IsReached}
use Rattle.why_impossible.proofs.refute_core.Rests.{reached_are_unsatisfiable}
use Rattle.why_impossible.specs.reached_groups.Groups.{AreReachedGroups}
use Rattle.why_impossible.specs.reached_groups.Laws.{GroupsBind, IsWorldIn}

-- the same world, with ranks in place of positions
abbrev ranked : World → World
ranked w = record w { positions = ranks_of w.positions }

module _ (o : Order) (loads : ℕ) (w : World) (is : IsWorldIn o loads w) where
  before : (e f : ℕ) → e < o.events → f < o.events → is_before w e f ≡ is_before (ranked w) e f
  before e f p q =
      let one : e < length w.positions = omega (arith, p, is.events) in
      let other : f < length w.positions = omega (arith, q, is.events) in
      sym (different-order w.positions e f is.is.distinct one other) ∙ sym (ranks-order w.positions e f one other)

  ranked_for : o.events ≤ 256 → IsWorldFor (record { order = o; loads = loads }) (ranked w)
  ranked_for few = record {
    world = record { distinct = ranks-differ w.positions };
    positions = length-ranks w.positions ∙ is.events;
    small = All-weaker (λ r. r < length w.positions) (λ r. r < 256) (λ r less. omega (arith, less, is.events, few)) (ranks_of w.positions)
        (ranks-below w.positions);
    loads = is.loads;
    ints = is.ints;
    enders = is.sleeps;
    chosen = is.chosen;
  }

-- the numbers of the clauses that values make true
abbrev true_places : Valuation → List (List ℤ) → List ℕ
true_places v cs = filter (λ n. clause_true v (get_or cs n [])) (range_with_len 0 (length cs))

they_are_true : (v : Valuation) (cs : List (List ℤ)) → IsTrue (satisfies v (map (λ n. get_or cs n []) (true_places v cs)))
they_are_true v cs =
    list_all-map (clause_true v) (λ n. get_or cs n []) (true_places v cs)
    ∙ all_from (λ n. clause_true v (get_or cs n [])) (true_places v cs)
    (λ n i. (of_filter (λ n. clause_true v (get_or cs n [])) n (range_with_len 0 (length cs)) i).1)

is_among : (v : Valuation) (cs : List (List ℤ)) (n : ℕ) → n < length cs → clause_true v (get_or cs n []) ≡ true → Contains (true_places v cs) n
is_among v cs n below holds =
    in_filter (λ n. clause_true v (get_or cs n [])) n (range_with_len 0 (length cs))
    (n, omega (arith, below, length-range_with_len 0 (length cs)), omega (arith, get_or-range_with_len 0 (length cs) n n below)) holds

-- if the clauses before a place are all true, each of them is
first_true : (v : Valuation) (cs : List (List ℤ)) (m n : ℕ) → IsTrue (satisfies v (take m cs)) → n < m → n < length cs → clause_true v (get_or cs n []) ≡ true
first_true v cs m n all less below =
    subst (λ c. clause_true v c ≡ true) (get_or-take m cs n [] less)
    (all_of (clause_true v) (get_or (take m cs) n []) (take m cs) all
    (Contains-get_or (take m cs) n [] (omega (arith, less, below, length-take m cs))))

module _ (nodes : List Node) (formula : List Conjunct) (o : Order) (loads : ℕ) (b : Blasted) (lines : List Line) (groups : List Group)
    (posed : IsPosed nodes formula o) (tells : RootsTell nodes formula (record { order = o; loads = loads }) b) (many : b.conjuncts ≡ length formula)
    (closed : IsClosed b.clauses lines) (are : AreReachedGroups formula b lines groups) (w : World) (is : IsWorldIn o loads w)
    (all : All (HoldsIn nodes w formula) groups) where
  abbrev cs : List (List ℤ)
  cs = b.clauses.clauses

  -- a conjunct of the groups is true in the world, also by ranks
  conjunct_true : (k : ℕ) (c : Conjunct) → slice_get formula k ≡ Some c → IsReached (length cs) lines (root_of b k + 1) → body_at nodes (ranked w) c.body ≡ true
  conjunct_true k c at reached =
      let i = at_in formula k c at in
      sym (body_same nodes o w (ranked w) (before o loads w is) refl refl c.body (All-contains (ConjunctIsIn o) formula c posed.within i))
      ∙ All-contains (HoldsIn nodes w formula) groups c.group all
      (are.every c.group (record { number = k; conjunct = c; there = at; of = refl; reached = reached })) c i refl

  module _ (v : Valuation) (rest : IsTrue (satisfies v (background b)))
      (roots : (k : ℕ) (c : Conjunct) → slice_get formula k ≡ Some c → clause_true v (clause_at b (root_of b k)) ≡ body_at nodes (ranked w) c.body) where
    root_true : (n : ℕ) → root_of b 0 ≤ n → n < length cs → IsReached (length cs) lines (n + 1) → clause_true v (get_or cs n []) ≡ true
    root_true n from below reached =
        let k : ℕ = n - root_of b 0 in
        let is_root : root_of b k ≡ n = omega (arith, from) in
        elim (slice_get_cases formula k).1 [
          | inl here ↦ subst (λ m. clause_true v (get_or cs m []) ≡ true) is_root
              (roots k here.0 here.2 ∙ conjunct_true k here.0 here.2 (subst (λ m. IsReached (length cs) lines (m + 1)) (sym is_root) reached))
          | inr past ↦ absurd (omega (arith, from, below, past.0, many))
        ]

    reached_true : (n : ℕ) → n < length cs → IsReached (length cs) lines (n + 1) → clause_true v (get_or cs n []) ≡ true
    reached_true n below reached = elim (cases_lt n (root_of b 0)) [
      | inl less ↦ first_true v cs (root_of b 0) n rest less below
      | inr from ↦ root_true n from below reached
    ]

    never : ⊥
    never = reached_are_unsatisfiable b.clauses lines (true_places v cs) closed
        (λ n below reached. is_among v cs n below (reached_true n below reached)) v (they_are_true v cs)

  pub binds : ⊥
  binds = let m = tells.back (ranked w) (ranked_for o loads w is posed.events) in never m.0 m.1 m.3

pub groups_bind : GroupsBind
groups_bind = binds
