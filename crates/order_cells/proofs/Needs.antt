-- Needed nodes exist once they are made, and keep their ids.
use Rattle.std.proofs.Common.{◌≡◌, ℕ, ◌<◌, ℤ, Bool, true, false, List, get_or, arith, [], ◌∷◌, ◌++◌, length, Some, slice_get, refl, ap, sym, subst, ◌∙◌}
use Rattle.std.specs.Prelude.{fold}
use Rattle.std.specs.List.{All, Contains, list_any, position_or_len}
use Rattle.std.proofs.lemmas.Bool.{false≢true}
use Rattle.std.proofs.lemmas.List.Elements.{All-nil, All-cons, Contains-append_left}
use Rattle.std.proofs.lemmas.List.Folds.{list_any_at, position_or_len_push}
use Rattle.std.proofs.lemmas.Option.{get_or_from_slice_get, slice_get_within, slice_get-get_or}
use Rattle.sym_terms.specs.Terms.{AreTerms, same_node, with_node, id_of}
use Rattle.sym_terms.specs.Values.{node_value, values_of, value_of}
use Rattle.sym_terms.specs.declared.node.Node.{Node}
use Rattle.sym_terms.proofs.Folds.{of_node}
use Rattle.sym_terms.proofs.Growth.{any_within, none_past, grows, is_given, is_there}
use Rattle.sym_terms.proofs.Same.{same_decides}
use Rattle.sym_exec.specs.Making.{Grows}
use Rattle.sym_exec.proofs.Grown.{grows_none, grows_both}

-- a node of the list is known
pub is_known : (nodes : List Node) (node : Node) → Contains nodes node → list_any (same_node node) nodes ≡ true
is_known nodes node i = list_any_at (same_node node) nodes i.0 node i.1 (ap (same_node node) i.2 ∙ (same_decides node node).1 refl)

-- the id of a node in the list is below its length
pub id_within : (nodes : List Node) (node : Node) → Contains nodes node → id_of nodes node < length nodes
id_within nodes node i = any_within (same_node node) nodes (is_known nodes node i)

first_stays : {X : Type 0} (p : X → Bool) (xs more : List X) → list_any p xs ≡ true → position_or_len p (xs ++ more) ≡ position_or_len p xs
first_stays p [] more any = absurd (false≢true any)
first_stays p (x ∷ xs) more any = grind (arith, first_stays p xs more)

pub id_stays : (nodes later : List Node) (node : Node) → Grows nodes later → Contains nodes node → id_of later node ≡ id_of nodes node
id_stays nodes later node g i = ap (λ ns. id_of ns node) g.1 ∙ first_stays (same_node node) nodes g.0 (is_known nodes node i)

module _ (nodes : List Node) (loads : List ℤ) (are : AreTerms nodes) where
  -- the value of a node, from the values of its parts
  pub value_at : (id : ℕ) (node : Node) → slice_get nodes id ≡ Some node → value_of nodes loads id ≡ node_value (values_of nodes loads) loads node
  value_at id node at =
      let within = slice_get_within nodes id node at in
      let is : get_or nodes id node ≡ node = get_or_from_slice_get nodes id node node at in
      of_node nodes loads id node within (are.earlier id (get_or nodes id node) (slice_get-get_or nodes id node within))
      ∙ ap (node_value (values_of nodes loads) loads) is

  pub value_there : (node : Node) → Contains nodes node → value_of nodes loads (id_of nodes node) ≡ node_value (values_of nodes loads) loads node
  value_there node i =
      let at : slice_get nodes i.0 ≡ Some node = slice_get-get_or nodes i.0 node i.1 ∙ ap Some i.2 in
      ap (value_of nodes loads) (is_there nodes node i.0 are at).1 ∙ value_at i.0 node at

-- the id that it gets is its id
pub id_made : (nodes : List Node) (node : Node) → id_of (with_node nodes node) node ≡ id_of nodes node
id_made nodes node = by (list_any (same_node node) nodes) refl
  where
    same : same_node node node ≡ true
    same = (same_decides node node).1 refl

    by : (b : Bool) → list_any (same_node node) nodes ≡ b → id_of (with_node nodes node) node ≡ id_of nodes node
    by true is = rw is refl
    by false is = rw is (position_or_len_push (same_node node) nodes node ∙ grind (arith, same, none_past (same_node node) nodes is))

-- a node of the list is in each later list
pub there_later : (nodes later : List Node) (node : Node) → Grows nodes later → Contains nodes node → Contains later node
there_later nodes later node g i = subst (λ ns. Contains ns node) (sym g.1) (Contains-append_left nodes g.0 node i)

-- a node is in the list once it is made
pub made_there : (nodes : List Node) (node : Node) → Contains (with_node nodes node) node
made_there nodes node =
    let all = with_node nodes node in
    let at = is_given nodes node in
    (id_of nodes node, slice_get_within all (id_of nodes node) node at, get_or_from_slice_get all (id_of nodes node) node node at)

pub grows_all : (nodes needs : List Node) → Grows nodes (fold with_node nodes needs)
grows_all nodes [] = grows_none nodes
grows_all nodes (n ∷ ns) = grows_both nodes (with_node nodes n) (fold with_node (with_node nodes n) ns) (grows nodes n) (grows_all (with_node nodes n) ns)

pub all_there : (nodes needs : List Node) → All (Contains (fold with_node nodes needs)) needs
all_there nodes [] = All-nil (Contains nodes)
all_there nodes (n ∷ ns) =
    let next = with_node nodes n in
    let all = fold with_node next ns in
    All-cons (Contains all) n ns (there_later next all n (grows_all next ns) (made_there nodes n)) (all_there next ns)
