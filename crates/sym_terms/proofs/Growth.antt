-- Terms with one more node.
use Rattle.std.proofs.Common.{
  ◌≡◌,
  ℕ,
  ◌<◌,
  Bool,
  true,
  false,
  List,
  [],
  ◌∷◌,
  ◌++◌,
  length,
  get_or,
  slice_get,
  ◌≤◌,
  ℤ,
  pos,
  inl,
  inr,
  Some,
  refl,
  ap,
  sym,
  subst,
  ◌∙◌,
  arith,
  length-append,
}
use Rattle.std.specs.List.{list_any, position_or_len, IsDistinct}
use Rattle.std.proofs.lemmas.List.{append-nil, get_or_append_left}
use Rattle.std.proofs.lemmas.List.Sums.{passes_at_first, position_or_len_is, fold_push}
use Rattle.std.proofs.Math.Seq.{get_or-append_seam}
use Rattle.std.proofs.Math.Nat.{eq-or-lt_of_le}
use Rattle.std.proofs.lemmas.Option.{slice_get_within, get_or_from_slice_get, slice_get-get_or}
use Rattle.std.proofs.lemmas.Bool.{false≢true}
use Rattle.sym_terms.specs.declared.node.Node.{Node}
use Rattle.sym_terms.specs.Terms.{AreTerms, same_node, NamesBelow, with_node, id_of}
use Rattle.sym_terms.specs.Values.{node_value, values_of, value_of}
use Rattle.sym_terms.proofs.Same.{same_one, same_decides, same_equivalence}
use Rattle.std.proofs.lemmas.Map.Keys.{IsDistinct-push, apart_from_distinct}
use Rattle.std.proofs.lemmas.List.Folds.{list_any_at}
use Rattle.sym_terms.proofs.Folds.{step, length_values, of_node}

-- the first place that passes is within the list if some element passes, and its end otherwise
pub any_within : {X : Type 0} (p : X → Bool) (xs : List X) → list_any p xs ≡ true → position_or_len p xs < length xs
any_within p [] h = absurd (false≢true h)
any_within p (x ∷ xs) h = grind (arith, any_within p xs)

pub none_past : {X : Type 0} (p : X → Bool) (xs : List X) → list_any p xs ≡ false → position_or_len p xs ≡ length xs
none_past p [] h = refl
none_past p (x ∷ xs) h = grind (arith, none_past p xs)

abbrev pub Earlier : List Node → Type 0
Earlier nodes = (id : ℕ) (node : Node) → slice_get nodes id ≡ Some node → NamesBelow id node

-- a node that names earlier ones may be added at the end
earlier_push : (nodes : List Node) (node : Node) → NamesBelow (length nodes) node → Earlier nodes → Earlier (nodes ++ node ∷ [])
earlier_push nodes node names before id found is =
    let all = nodes ++ node ∷ [] in
    let at : get_or all id node ≡ found = get_or_from_slice_get all id found node is in
    let within : id ≤ length nodes = omega (arith, slice_get_within all id found is, length-append nodes (node ∷ [])) in
    elim (eq-or-lt_of_le within) [
      | inl last ↦ subst (λ k. NamesBelow k found) (sym last)
          (subst (NamesBelow (length nodes)) (sym (get_or-append_seam nodes node [] node) ∙ ap (λ k. get_or all k node) (sym last) ∙ at) names)
      | inr inside ↦ before id found (slice_get-get_or nodes id node inside ∙ ap Some (sym (get_or_append_left nodes (node ∷ []) node id inside) ∙ at))
    ]

-- with one more node, all nodes still name earlier ones
pub earlier_with : (nodes : List Node) (node : Node) → NamesBelow (length nodes) node → Earlier nodes → Earlier (with_node nodes node)
earlier_with nodes node names before = by (list_any (same_node node) nodes) refl
  where
    by : (b : Bool) → list_any (same_node node) nodes ≡ b → Earlier (with_node nodes node)
    by true is = rw is before
    by false is = rw is (earlier_push nodes node names before)

pub earlier_none : Earlier []
earlier_none id node is = absurd (omega (arith, slice_get_within [] id node is))

-- adding a node only adds at the end
pub grows : (nodes : List Node) (node : Node) → (more : List Node) × (with_node nodes node ≡ nodes ++ more)
grows nodes node = by (list_any (same_node node) nodes) refl
  where
    by : (b : Bool) → list_any (same_node node) nodes ≡ b → (more : List Node) × (with_node nodes node ≡ nodes ++ more)
    by true is = ([], rw is (sym (append-nil nodes)))
    by false is = (node ∷ [], rw is refl)

-- the id of a node has the node's value
pub named : (nodes : List Node) (node : Node) (loads : List ℤ) → AreTerms nodes → NamesBelow (length nodes) node
    → value_of (with_node nodes node) loads (id_of nodes node) ≡ node_value (values_of nodes loads) loads node
named nodes node loads are names = by (list_any (same_node node) nodes) refl
  where
    by : (b : Bool) → list_any (same_node node) nodes ≡ b
        → value_of (with_node nodes node) loads (id_of nodes node) ≡ node_value (values_of nodes loads) loads node
    by true is =
        let id = id_of nodes node in
        let within = any_within (same_node node) nodes is in
        let same : get_or nodes id node ≡ node = sym (same_one node (get_or nodes id node) (passes_at_first (same_node node) nodes node within)) in
        let earlier : NamesBelow id (get_or nodes id node) = are.earlier id (get_or nodes id node) (slice_get-get_or nodes id node within) in
        rw is (of_node nodes loads id node within earlier ∙ ap (node_value (values_of nodes loads) loads) same)
    by false is =
        let all = values_of nodes loads in
        rw (is, none_past (same_node node) nodes is) (ap (λ vs. get_or vs (length nodes) (pos 0)) (fold_push (step loads) [] nodes node)
        ∙ ap (λ k. get_or (all ++ node_value all loads node ∷ []) k (pos 0)) (sym (length_values nodes loads))
        ∙ get_or-append_seam all (node_value all loads node) [] (pos 0))

-- adding a node keeps the nodes distinct
distinct_with : (nodes : List Node) (node : Node) → IsDistinct same_node nodes → IsDistinct same_node (with_node nodes node)
distinct_with nodes node before = by (list_any (same_node node) nodes) refl
  where
    by : (b : Bool) → list_any (same_node node) nodes ≡ b → IsDistinct same_node (with_node nodes node)
    by true is = rw is before
    by false is = rw is (IsDistinct-push same_equivalence nodes node before is)

pub are_with : (nodes : List Node) (node : Node) → AreTerms nodes → NamesBelow (length nodes) node → AreTerms (with_node nodes node)
are_with nodes node are names = record { distinct = distinct_with nodes node are.distinct; earlier = earlier_with nodes node names are.earlier }

-- the test finds each node different from those before it
told_apart : (nodes : List Node) (node : Node) (k id : ℕ) → IsDistinct same_node nodes → k < id → id < length nodes → get_or nodes id node ≡ node
    → same_node node (get_or nodes k node) ≡ false
told_apart nodes node k id distinct before within at =
    same_equivalence.symm node (get_or nodes k node) ∙ ap (same_node (get_or nodes k node)) (sym at)
    ∙ apart_from_distinct same_node nodes k id node distinct before within

pub is_there : (nodes : List Node) (node : Node) (id : ℕ) → AreTerms nodes → slice_get nodes id ≡ Some node
    → (with_node nodes node ≡ nodes) × (id_of nodes node ≡ id)
is_there nodes node id are is =
    let within = slice_get_within nodes id node is in
    let at : get_or nodes id node ≡ node = get_or_from_slice_get nodes id node node is in
    let passes : same_node node (get_or nodes id node) ≡ true = (same_decides node (get_or nodes id node)).1 (sym at) in
    let found : list_any (same_node node) nodes ≡ true = list_any_at (same_node node) nodes id node within passes in (
      rw found refl,
      position_or_len_is (same_node node) nodes id node (omega (arith, within))
          (λ k before. told_apart nodes node k id are.distinct before within at) (λ _. passes),
    )

-- the id of a node is its place
pub is_given : (nodes : List Node) (node : Node) → slice_get (with_node nodes node) (id_of nodes node) ≡ Some node
is_given nodes node = by (list_any (same_node node) nodes) refl
  where
    by : (b : Bool) → list_any (same_node node) nodes ≡ b → slice_get (with_node nodes node) (id_of nodes node) ≡ Some node
    by true is =
        let id = id_of nodes node in
        let within = any_within (same_node node) nodes is in
        let same : get_or nodes id node ≡ node = sym (same_one node (get_or nodes id node) (passes_at_first (same_node node) nodes node within)) in
        rw is (slice_get-get_or nodes id node within ∙ ap Some same)
    by false is =
        let all = nodes ++ node ∷ [] in
        let inside : length nodes < length all = omega (arith, length-append nodes (node ∷ [])) in
        rw (is, none_past (same_node node) nodes is) (slice_get-get_or all (length nodes) node inside ∙ ap Some (get_or-append_seam nodes node [] node))
