-- The circuits of terms: one word for each term.
use Rattle.std.specs.Prelude.{ℕ, ◌+◌, ◌-◌, ◌==◌, ◌&&◌, ◌||◌, max, Bool, false, List, [], ◌∷◌, ◌++◌, ℤ, pos, Option, None, map, fold, get_or, length}
use Rattle.std.specs.List.{find, range_with_len}
use Rattle.std.specs.Option.{option_map_or}
use Rattle.int_ops.specs.declared.arith.UnOp.TheVariants.{Not}
use Rattle.int_ops.specs.declared.arith.BinOp.TheVariants.{Eq, Ne}
use Rattle.sym_terms.specs.int_ops.Arith.{bit}
use Rattle.sym_terms.specs.declared.node.Node.{Node}
use Rattle.sym_terms.specs.declared.node.Node.TheVariants.{Constant, Symbol, Unary, Binary}
use Rattle.cnf_core.specs.Clauses.{Formula}
use Rattle.bit_gates.specs.Folded.{constant}
use Rattle.bit_words.specs.Words.{Walked}
use Rattle.bit_ops.specs.bit_arith.Sums.{zeros}
use Rattle.bit_ops.specs.Ops.{unary_word, binary_word}

-- the word of a number: a constant for each bit
unfoldable pub constant_word : ℤ → List ℤ
constant_word z = map (λ place. constant (bit z place == 1)) (range_with_len 0 32)

-- the word at an index, or the word 0 past the end
abbrev pub word_at : List (List ℤ) → ℕ → List ℤ
word_at words place = get_or words place (zeros 32)

-- the word of a node on its own, from the words of the loads' values and of the nodes before it
abbrev pub own_word : (symbols known : List (List ℤ)) → Formula → Node → Walked Formula
own_word symbols known f (Constant n) = record { state = f; word = constant_word n }
own_word symbols known f (Symbol load) = record { state = f; word = word_at symbols load }
own_word symbols known f (Unary op a) = unary_word op f (word_at known a)
own_word symbols known f (Binary op a b) = binary_word op f (word_at known a) (word_at known b)

-- whether two terms are the same as two others, either way round
abbrev pub same_two : (a b c d : ℕ) → Bool
same_two a b c d = (c == a && d == b) || (c == b && d == a)

-- whether one node is the equality and one the difference of the same two terms
abbrev pub are_opposite : (one other : Node) → Bool
are_opposite (Binary Eq a b) (Binary Ne c d) = same_two a b c d
are_opposite (Binary Ne a b) (Binary Eq c d) = same_two a b c d
are_opposite _ _ = false

-- the first opposite of a node after two terms, among the first `count` nodes
abbrev pub opposite_of : List Node → ℕ → Node → (a b : ℕ) → Option ℕ
opposite_of nodes count node a b =
    find (λ place. are_opposite node (get_or nodes place (Constant (pos 0))))
    (range_with_len (max a b + 1) (count - (max a b + 1)))

-- the first opposite of an equality or a difference after its two terms
abbrev pub opposite_for : List Node → ℕ → Node → Option ℕ
opposite_for nodes count (Binary Eq a b) = opposite_of nodes count (Binary Eq a b) a b
opposite_for nodes count (Binary Ne a b) = opposite_of nodes count (Binary Ne a b) a b
opposite_for nodes count _ = None

-- a formula, and a word for each of the first nodes
pub record Words : Type 0 where
  pub formula : Formula
  pub words : List (List ℤ)

-- the word of the next node: the opposite of the word of an earlier opposite, if there is one
abbrev pub node_word : (symbols : List (List ℤ)) → List Node → Words → Node → Walked Formula
node_word symbols nodes m node =
    option_map_or (λ place. unary_word Not m.formula (word_at m.words place))
    (opposite_for nodes (length m.words) node) (own_word symbols m.words m.formula node)

-- appends the word of the next node
abbrev pub with_word : (symbols : List (List ℤ)) → List Node → Words → Node → Words
with_word symbols nodes m node =
    let here : Walked Formula = node_word symbols nodes m node in
    record { formula = here.state; words = m.words ++ here.word ∷ [] }

-- the words of all nodes, in order
abbrev pub term_words : List Node → (symbols : List (List ℤ)) → Formula → Words
term_words nodes symbols f =
    fold (with_word symbols nodes) (record { formula = f; words = [] }) nodes
