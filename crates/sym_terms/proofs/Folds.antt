-- The values of a list of nodes, of its first parts, and of a longer list.
use Rattle.std.proofs.Common.{◌≡◌, ℕ, ◌+◌, ◌<◌, ◌≤◌, min, List, [], ◌∷◌, ◌++◌, length, get_or, take, drop, ℤ, pos, refl, ap, sym, ◌∙◌, arith, length-append}
use Rattle.std.specs.Prelude.{fold}
use Rattle.std.proofs.lemmas.List.{append-nil, append_assoc, take-append-drop, length-take, length-take-le, take-append-le, get_or_append_left}
use Rattle.std.proofs.Math.Seq.{get_or-append_seam}
use Rattle.int_ops.specs.Arith.{unary, binary}
use Rattle.std.proofs.lemmas.List.Sums.{fold-append, fold_more}
use Rattle.sym_terms.specs.declared.node.Node.{Node}
use Rattle.sym_terms.specs.declared.node.Node.TheVariants.{Constant, Symbol, Unary, Binary}
use Rattle.sym_terms.specs.Terms.{NamesBelow}
use Rattle.sym_terms.specs.Values.{node_value, values_of, value_of, Table, AreKnown}

abbrev pub step : List ℤ → List ℤ → Node → List ℤ
step loads known node = known ++ node_value known loads node ∷ []

-- more nodes add values at the end
extends : (loads known : List ℤ) (more : List Node) → (rest : List ℤ) × (fold (step loads) known more ≡ known ++ rest)
extends loads known [] = ([], sym (append-nil known))
extends loads known (m ∷ ms) =
    let e = extends loads (step loads known m) ms in
    (node_value known loads m ∷ e.0, e.1 ∙ append_assoc known (node_value known loads m ∷ []) e.0)

length_fold : (loads known : List ℤ) (nodes : List Node) → length (fold (step loads) known nodes) ≡ length known + length nodes
length_fold loads known [] = omega arith
length_fold loads known (n ∷ ns) = length_fold loads (step loads known n) ns ∙ grind (arith, length-append)

pub length_values : (nodes : List Node) (loads : List ℤ) → length (values_of nodes loads) ≡ length nodes
length_values nodes loads = length_fold loads [] nodes ∙ omega arith

-- a node's value stays the same with more nodes
pub keep : (nodes more : List Node) (loads : List ℤ) (id : ℕ) → id < length nodes
    → value_of (nodes ++ more) loads id ≡ value_of nodes loads id
keep nodes more loads id within =
    let e = extends loads (values_of nodes loads) more in
    let inside : id < length (values_of nodes loads) = omega (arith, within, length_values nodes loads) in
    ap (λ vs. get_or vs id (pos 0)) (fold-append (step loads) [] nodes more ∙ e.1)
    ∙ get_or_append_left (values_of nodes loads) e.0 (pos 0) id inside

-- the first nodes have the values that they have among all
pub of_first : (nodes : List Node) (loads : List ℤ) (n id : ℕ) → n ≤ length nodes → id < n
    → value_of (take n nodes) loads id ≡ value_of nodes loads id
of_first nodes loads n id within below =
    let there : id < length (take n nodes) = omega (arith, below, length-take-le n nodes within) in
    sym (keep (take n nodes) (drop n nodes) loads id there) ∙ ap (λ ns. value_of ns loads id) (take-append-drop n nodes)

-- the next value is that of the next node over those before it
pub next : (nodes : List Node) (loads : List ℤ) (n : ℕ) (d : Node) → n < length nodes
    → values_of (take (n + 1) nodes) loads ≡ step loads (values_of (take n nodes) loads) (get_or nodes n d)
next nodes loads n d within = fold_more (step loads) [] nodes n d within

-- a node's value needs only the values of those that it names
of_named : (loads before all : List ℤ) (n : ℕ) (node : Node)
    → ((k : ℕ) → k < n → get_or before k (pos 0) ≡ get_or all k (pos 0)) → NamesBelow n node
    → node_value before loads node ≡ node_value all loads node
of_named loads before all n (Constant m) same names = refl
of_named loads before all n (Symbol k) same names = refl
of_named loads before all n (Unary op a) same names = ap (unary op) (same a names)
of_named loads before all n (Binary op a b) same names =
    ap (λ x. binary op x (get_or before b (pos 0))) (same a names.0)
    ∙ ap (binary op (get_or all a (pos 0))) (same b names.1)

-- the value of a name is that of its node
pub of_node : (nodes : List Node) (loads : List ℤ) (n : ℕ) (d : Node) → n < length nodes → NamesBelow n (get_or nodes n d)
    → value_of nodes loads n ≡ node_value (values_of nodes loads) loads (get_or nodes n d)
of_node nodes loads n d within names =
    let before = values_of (take n nodes) loads in
    let node = get_or nodes n d in
    let as_many : length before ≡ n = length_values (take n nodes) loads ∙ length-take-le n nodes (omega (arith, within)) in
    sym (of_first nodes loads (n + 1) n (omega (arith, within)) (omega arith))
    ∙ ap (λ vs. get_or vs n (pos 0)) (next nodes loads n d within)
    ∙ ap (λ k. get_or (before ++ node_value before loads node ∷ []) k (pos 0)) (sym as_many)
    ∙ get_or-append_seam before (node_value before loads node) [] (pos 0)
    ∙ of_named loads before (values_of nodes loads) n node (λ k below. of_first nodes loads n k (omega (arith, within)) below) names

-- what a table knows are values of nodes that are there
pub known_within : (nodes : List Node) (loads known : List ℤ) → known ≡ values_of (take (length known) nodes) loads → length known ≤ length nodes
known_within nodes loads known are =
    let n = length known in
    let as_many : n ≡ min n (length nodes) = ap length are ∙ length_values (take n nodes) loads ∙ length-take n nodes in
    omega (arith, as_many)

-- and what it says of a name is its value
pub known_value : (nodes : List Node) (loads known : List ℤ) (id : ℕ) → known ≡ values_of (take (length known) nodes) loads → id < length known
    → get_or known id (pos 0) ≡ value_of nodes loads id
known_value nodes loads known id are below =
    ap (λ vs. get_or vs id (pos 0)) are ∙ of_first nodes loads (length known) id (known_within nodes loads known are) below

-- a table stays right when there are more nodes
pub stays_known : (nodes more : List Node) (table : Table) → AreKnown nodes table → AreKnown (nodes ++ more) table
stays_known nodes more table are =
    are ∙ ap (λ ns. values_of ns table.symbols) (sym (take-append-le (length table.known) nodes more (known_within nodes table.symbols table.known are)))
