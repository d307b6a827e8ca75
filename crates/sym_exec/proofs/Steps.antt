-- The results of the code's steps together.
use Rattle.std.proofs.Common.{◌≡◌, ◌∙◌, ℕ, suc, ◌+◌, ◌<◌, ℤ, pos, List, ◌∷◌, length, get_or, drop, refl, ap, sym, add-one}
use Rattle.std.proofs.Math.Seq.{drop-cons}
use Rattle.sym_terms.specs.declared.node.Node.{Node}
use Rattle.sym_terms.specs.declared.node.Node.TheVariants.{Constant, Unary, Binary}
use Rattle.int_ops.specs.declared.arith.UnOp.TheVariants.{Neg}
use Rattle.int_ops.specs.declared.arith.BinOp.TheVariants.{Xor, Eq, And, Le}
use Rattle.sym_exec.specs.Making.{Made, term_of_node, range_test, replaced_term}

-- the test of a range, made step by step
pub range_is : (x zero low top high : Made) (last : ℤ) → zero ≡ term_of_node x.nodes (Constant (pos 0)) → low ≡ term_of_node zero.nodes (Binary Le zero.term x.term)
    → top ≡ term_of_node low.nodes (Constant last) → high ≡ term_of_node top.nodes (Binary Le x.term top.term)
    → term_of_node high.nodes (Binary And low.term high.term) ≡ range_test x last
range_is x zero low top high last ez el et eh = rw (eh, et, el, ez) refl

-- the term of a compare-and-exchange, made step by step
pub replaced_is : (nodes : List Node) (v e f : ℕ) (change same mask masked : Made) → change ≡ term_of_node nodes (Binary Xor v f)
    → same ≡ term_of_node change.nodes (Binary Eq v e) → mask ≡ term_of_node same.nodes (Unary Neg same.term)
    → masked ≡ term_of_node mask.nodes (Binary And change.term mask.term)
    → term_of_node masked.nodes (Binary Xor v masked.term) ≡ replaced_term nodes v e f
replaced_is nodes v e f change same mask masked ec es em ek = rw (ek, em, es, ec) refl

-- one element further in a list
pub drop_next : {A : Type 0} (xs : List A) (k : ℕ) (x : A) → k < length xs → x ≡ get_or xs k x → drop k xs ≡ x ∷ drop (k + 1) xs
drop_next xs k x within is =
    drop-cons xs k x within ∙ ap (λ y. y ∷ drop (suc k) xs) (sym is) ∙ ap (λ n. x ∷ drop n xs) (sym (add-one k))
