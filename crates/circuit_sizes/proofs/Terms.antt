-- How much the circuits of terms add, one term after another.
use Rattle.std.proofs.Common.{◌≡◌, ℕ, zero, suc, ◌≤◌, List, [], ◌∷◌, ℤ, Option, Some, None, arith, length, false}
use Rattle.std.specs.Prelude.{fold}
use Rattle.std.specs.List.{All}
use Rattle.std.specs.Option.{option_map_or}
use Rattle.std.proofs.lemmas.List.{length-replicate}
use Rattle.std.proofs.lemmas.List.Elements.{All-head, All-nil, All-push, All-tail}
use Rattle.std.proofs.lemmas.List.Sums.{sum_by-cons}
use Rattle.sym_terms.specs.int_ops.declared.arith.BinOp.{BinOp}
use Rattle.sym_terms.specs.int_ops.declared.arith.BinOp.TheVariants as bin
use Rattle.sym_terms.specs.int_ops.declared.arith.UnOp.TheVariants as un
use Rattle.sym_terms.specs.declared.node.Node.{Node}
use Rattle.sym_terms.specs.declared.node.Node.TheVariants.{Constant, Symbol, Unary, Binary}
use Rattle.cnf_core.specs.Clauses.{Formula}
use Rattle.bit_gates.specs.Folded.{IsLarger, constant}
use Rattle.bit_ops.specs.bit_words.Words.{Walked}
use Rattle.bit_ops.proofs.bit_words.Loops.{larger_more}
use Rattle.bit_divide.specs.bit_shift.bit_arith.Sums.{zeros}
use Rattle.bit_ops.specs.Ops.{unary_word}
use Rattle.bit_terms.specs.Sizes.{node_size, terms_size}
use Rattle.bit_terms.specs.Terms.{Words, constant_word, node_word, opposite_for, own_word, with_word, word_at}
use Rattle.bit_terms.proofs.Meaning.{constant_operand}
use Rattle.circuit_sizes.specs.Small.{IsShort, TermsAreSmall}
use Rattle.circuit_sizes.proofs.Gates.{larger_none}
use Rattle.circuit_sizes.proofs.Operators.{IsSmall, binary_small, small_up, unary_small}

-- the word at a place, or 0
pub short_at : (words : List (List ℤ)) (place : ℕ) → All IsShort words → length (word_at words place) ≤ 32
short_at [] place all = let long : length (zeros 32) ≡ 32 = length-replicate 32 (constant false) in omega (arith, long)
short_at (w ∷ words) zero all = All-head IsShort w words all
short_at (w ∷ words) (suc place) all = short_at words place (All-tail IsShort w words all)

own_small : (symbols known : List (List ℤ)) (f : Formula) (node : Node) → All IsShort symbols → All IsShort known
    → IsSmall (node_size node) f (own_word symbols known f node)
own_small symbols known f (Constant n) p q =
    let g : Formula = record { vars = 1; clauses = [] } in
    let width : length (constant_word n) ≡ 32 = (constant_operand g n (omega arith)).width in
    record { larger = larger_none 0 f; short = omega (arith, width) }
own_small symbols known f (Symbol load) p q = record { larger = larger_none 0 f; short = short_at symbols load p }
own_small symbols known f (Unary op a) p q = unary_small op f (word_at known a) (short_at known a q)
own_small symbols known f (Binary op a b) p q = binary_small op f (word_at known a) (word_at known b) (short_at known a q) (short_at known b q)

module _ (symbols : List (List ℤ)) (nodes : List Node) (given : All IsShort symbols) where
  module _ (m : Words) (known : All IsShort m.words) where
    -- an opposite's circuit isn't larger than an own one
    either : (n : ℕ) (own : Walked Formula) (o : Option ℕ) → 96 ≤ n → IsSmall n m.formula own
        → IsSmall n m.formula (option_map_or (λ place. unary_word un.Not m.formula (word_at m.words place)) o own)
    either n own None low is = is
    either n own (Some place) low is =
        small_up 96 n m.formula (unary_word un.Not m.formula (word_at m.words place)) low (unary_small un.Not m.formula (word_at m.words place) (short_at m.words place known))

    compared : (op : BinOp) (a b : ℕ) (o : Option ℕ) → 96 ≤ node_size (Binary op a b)
        → IsSmall (node_size (Binary op a b)) m.formula
        (option_map_or (λ place. unary_word un.Not m.formula (word_at m.words place)) o (own_word symbols m.words m.formula (Binary op a b)))
    compared op a b o low =
        either (node_size (Binary op a b)) (own_word symbols m.words m.formula (Binary op a b)) o low
        (own_small symbols m.words m.formula (Binary op a b) given known)

    node_small : (node : Node) → IsSmall (node_size node) m.formula (node_word symbols nodes m node)
    node_small (Constant n) = own_small symbols m.words m.formula (Constant n) given known
    node_small (Symbol load) = own_small symbols m.words m.formula (Symbol load) given known
    node_small (Unary op a) = own_small symbols m.words m.formula (Unary op a) given known
    node_small (Binary bin.Eq a b) = compared bin.Eq a b (opposite_for nodes (length m.words) (Binary bin.Eq a b)) (omega arith)
    node_small (Binary bin.Ne a b) = compared bin.Ne a b (opposite_for nodes (length m.words) (Binary bin.Ne a b)) (omega arith)
    node_small (Binary bin.Add a b) = own_small symbols m.words m.formula (Binary bin.Add a b) given known
    node_small (Binary bin.Sub a b) = own_small symbols m.words m.formula (Binary bin.Sub a b) given known
    node_small (Binary bin.Mul a b) = own_small symbols m.words m.formula (Binary bin.Mul a b) given known
    node_small (Binary bin.Div a b) = own_small symbols m.words m.formula (Binary bin.Div a b) given known
    node_small (Binary bin.Rem a b) = own_small symbols m.words m.formula (Binary bin.Rem a b) given known
    node_small (Binary bin.And a b) = own_small symbols m.words m.formula (Binary bin.And a b) given known
    node_small (Binary bin.Or a b) = own_small symbols m.words m.formula (Binary bin.Or a b) given known
    node_small (Binary bin.Xor a b) = own_small symbols m.words m.formula (Binary bin.Xor a b) given known
    node_small (Binary bin.Shl a b) = own_small symbols m.words m.formula (Binary bin.Shl a b) given known
    node_small (Binary bin.Shr a b) = own_small symbols m.words m.formula (Binary bin.Shr a b) given known
    node_small (Binary bin.Lt a b) = own_small symbols m.words m.formula (Binary bin.Lt a b) given known
    node_small (Binary bin.Le a b) = own_small symbols m.words m.formula (Binary bin.Le a b) given known
    node_small (Binary bin.Gt a b) = own_small symbols m.words m.formula (Binary bin.Gt a b) given known
    node_small (Binary bin.Ge a b) = own_small symbols m.words m.formula (Binary bin.Ge a b) given known

  terms_from : (m : Words) (rest : List Node) → All IsShort m.words
      → IsLarger (terms_size rest) m.formula (fold (with_word symbols nodes) m rest).formula × All IsShort (fold (with_word symbols nodes) m rest).words
  terms_from m [] known = (larger_none 0 m.formula, known)
  terms_from m (node ∷ rest) known =
      let here : Walked Formula = node_word symbols nodes m node in
      let s = node_small m known node in
      let next : Words = with_word symbols nodes m node in
      let later = terms_from next rest (All-push IsShort m.words here.word known s.short) in (
        larger_more (node_size node) (terms_size rest) (terms_size (node ∷ rest)) m.formula here.state (fold (with_word symbols nodes) next rest).formula
            s.larger later.0 (sum_by-cons node_size node rest),
        later.1,
      )

pub terms_small : (nodes : List Node) (symbols : List (List ℤ)) (f : Formula) → All IsShort symbols → TermsAreSmall nodes symbols f
terms_small nodes symbols f given =
    let all = terms_from symbols nodes given (record { formula = f; words = [] }) nodes (All-nil IsShort) in
    record { larger = all.0; short = all.1 }
