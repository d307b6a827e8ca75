-- An expression as stored data: its parts in postfix order.
use Rattle.std.specs.Prelude.{◌≡◌, pos, Option, Some, None, List, [], ◌∷◌, ◌++◌, refl, ◌⊎◌}
use Rattle.std.proofs.Common.{ap, ◌∙◌, inl, inr}
use Rattle.std.specs.Coded.{Coded, code_by, coded_list, coded⊎, coded_option}
use Rattle.int_ops.specs.declared.arith.UnOp.{UnOp}
use Rattle.int_ops.specs.contracts.arith.UnOp as unary
use Rattle.tc_tree.specs.declared.expression.Name.{Name}
use Rattle.tc_tree.specs.declared.expression.Number.{Number as AnyNumber}
use Rattle.tc_tree.specs.declared.expression.Operator.{Operator}
use Rattle.tc_tree.specs.contracts.expression.Name as name
use Rattle.tc_tree.specs.contracts.expression.Number as number
use Rattle.tc_tree.specs.contracts.expression.Operator as operator
use Rattle.tc_tree.specs.Grammar.{Expression, Number, Variable, Element, Paren, Unary, Binary}

-- a postfix part: a number, a variable, an element, parentheses, or a unary or binary operator
abbrev Part : Type 0
Part = (AnyNumber ⊎ Name) ⊎ (Option Name ⊎ (UnOp ⊎ Operator))

abbrev parts : Expression → List Part
parts (Number n) = inl (inl n) ∷ []
parts (Variable x) = inl (inr x) ∷ []
parts (Element a i) = parts i ++ inr (inl (Some a)) ∷ []
parts (Paren e) = parts e ++ inr (inl None) ∷ []
parts (Unary op a) = parts a ++ inr (inr (inl op)) ∷ []
parts (Binary op a b) = parts a ++ parts b ++ inr (inr (inr op)) ∷ []

-- the stack of trees after one more part
abbrev close : List Expression → Part → List Expression
close trees (inl (inl n)) = Number n ∷ trees
close trees (inl (inr x)) = Variable x ∷ trees
close (i ∷ trees) (inr (inl (Some a))) = Element a i ∷ trees
close (e ∷ trees) (inr (inl None)) = Paren e ∷ trees
close (a ∷ trees) (inr (inr (inl op))) = Unary op a ∷ trees
close (b ∷ a ∷ trees) (inr (inr (inr op))) = Binary op a b ∷ trees
close trees _ = trees

abbrev closed : List Expression → List Part → List Expression
closed trees [] = trees
closed trees (p ∷ ps) = closed (close trees p) ps

pub closed-append : (trees : List Expression) (ps qs : List Part)
    → closed trees (ps ++ qs) ≡ closed (closed trees ps) qs
closed-append trees [] qs = refl
closed-append trees (p ∷ ps) qs = closed-append (close trees p) ps qs

pub closed-parts : (e : Expression) (trees : List Expression) → closed trees (parts e) ≡ e ∷ trees
closed-parts (Number n) trees = refl
closed-parts (Variable x) trees = refl
closed-parts (Element a i) trees =
    closed-append trees (parts i) _ ∙ ap (λ t. closed t (inr (inl (Some a)) ∷ []))
    (closed-parts i trees)
closed-parts (Paren e) trees =
    closed-append trees (parts e) _ ∙ ap (λ t. closed t (inr (inl None) ∷ []))
    (closed-parts e trees)
closed-parts (Unary op a) trees =
    closed-append trees (parts a) _ ∙ ap (λ t. closed t (inr (inr (inl op)) ∷ []))
    (closed-parts a trees)
closed-parts (Binary op a b) trees =
    closed-append trees (parts a ++ parts b) _
    ∙ ap (λ t. closed t (inr (inr (inr op)) ∷ []))
    (closed-append trees (parts a) (parts b) ∙ ap (λ t. closed t (parts b))
    (closed-parts a trees) ∙ closed-parts b (a ∷ trees))

abbrev nothing : Expression
nothing = Number (record { value = pos 0; place = record { line = 0; col = 0 } })

abbrev first : List Expression → Expression
first [] = nothing
first (e ∷ _) = e

abbrev tree : List Part → Expression
tree ps = first (closed [] ps)

pub tree-parts : (e : Expression) → tree (parts e) ≡ e
tree-parts e = ap first (closed-parts e [])

abbrev pub coded_expression : Coded Expression
coded_expression =
    code_by (List Part)
    (coded_list (coded⊎ (coded⊎ number.the_row.coded name.the_row.coded)
    (coded⊎ (coded_option name.the_row.coded)
    (coded⊎ unary.the_row.coded operator.the_row.coded)))) parts tree tree-parts
