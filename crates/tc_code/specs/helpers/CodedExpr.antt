-- Helpers for proofs, in no public contract: an expression as stored data, in postfix order.
use Rattle.std.specs.Prelude.{◌≡◌, ℕ, ℤ, List, [], ◌∷◌, ◌++◌, refl, ◌⊎◌}
use Rattle.std.proofs.Common.{ap, ◌∙◌, inl, inr}
use Rattle.std.specs.Coded.{Coded, code_by, coded_ℕ, coded_ℤ, coded_list, coded⊎}
use Rattle.int_ops.specs.declared.arith.BinOp.{BinOp}
use Rattle.int_ops.specs.declared.arith.UnOp.{UnOp}
use Rattle.int_ops.specs.contracts.arith.BinOp as binary
use Rattle.int_ops.specs.contracts.arith.UnOp as unary
use Rattle.tc_code.specs.Expr.{Expr, Number, Slot, Unary, Binary}

-- a postfix part: a number, a slot, or a unary or binary operator
abbrev Part : Type 0
Part = (ℤ ⊎ ℕ) ⊎ (UnOp ⊎ BinOp)

abbrev parts : Expr → List Part
parts (Number n) = inl (inl n) ∷ []
parts (Slot k) = inl (inr k) ∷ []
parts (Unary op a) = parts a ++ inr (inl op) ∷ []
parts (Binary op a b) = parts a ++ parts b ++ inr (inr op) ∷ []

-- the stack of trees after one more part
abbrev close : List Expr → Part → List Expr
close trees (inl (inl n)) = Number n ∷ trees
close trees (inl (inr k)) = Slot k ∷ trees
close (a ∷ trees) (inr (inl op)) = Unary op a ∷ trees
close (b ∷ a ∷ trees) (inr (inr op)) = Binary op a b ∷ trees
close trees _ = trees

abbrev closed : List Expr → List Part → List Expr
closed trees [] = trees
closed trees (p ∷ ps) = closed (close trees p) ps

pub closed-append : (trees : List Expr) (ps qs : List Part)
    → closed trees (ps ++ qs) ≡ closed (closed trees ps) qs
closed-append trees [] qs = refl
closed-append trees (p ∷ ps) qs = closed-append (close trees p) ps qs

pub closed-parts : (e : Expr) (trees : List Expr) → closed trees (parts e) ≡ e ∷ trees
closed-parts (Number n) trees = refl
closed-parts (Slot k) trees = refl
closed-parts (Unary op a) trees =
    closed-append trees (parts a) _ ∙ ap (λ t. closed t (inr (inl op) ∷ [])) (closed-parts a trees)
closed-parts (Binary op a b) trees =
    closed-append trees (parts a ++ parts b) _
    ∙ ap (λ t. closed t (inr (inr op) ∷ []))
    (closed-append trees (parts a) (parts b) ∙ ap (λ t. closed t (parts b))
    (closed-parts a trees) ∙ closed-parts b (a ∷ trees))

abbrev first : List Expr → Expr
first [] = Slot 0
first (e ∷ _) = e

abbrev tree : List Part → Expr
tree ps = first (closed [] ps)

pub tree-parts : (e : Expr) → tree (parts e) ≡ e
tree-parts e = ap first (closed-parts e [])

abbrev pub coded_expr : Coded Expr
coded_expr =
    code_by (List Part)
    (coded_list
    (coded⊎ (coded⊎ coded_ℤ coded_ℕ)
    (coded⊎ unary.the_row.coded binary.the_row.coded))) parts tree tree-parts
