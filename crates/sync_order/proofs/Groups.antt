-- Groups of conjuncts, and formulas that have conjuncts of other groups too.
use Rattle.std.proofs.Common.{◌≡◌, ℕ, List, ◌++◌, inl, inr}
use Rattle.std.specs.List.{Contains}
use Rattle.std.proofs.lemmas.List.Elements.{Contains-append_left, Contains-append_right, Contains-append_cases}
use Rattle.order_formula.specs.sym_terms.declared.node.Node.{Node}
use Rattle.order_formula.specs.declared.formula.Conjunct.{Conjunct}
use Rattle.order_formula.specs.declared.group.Group.{Group}
use Rattle.order_formula.specs.declared.group.Group.TheVariants.{Child, Mutex, Stuck}
use Rattle.order_formula.specs.Groups.{IsExactly}
use Rattle.order_formula.specs.Worlds.{World}

pub same_child : (a b : ℕ) → Child a ≡ Child b → a ≡ b
same_child a b e = cc

pub same_mutex : (a b : ℕ) → Mutex a ≡ Mutex b → a ≡ b
same_mutex a b e = cc

pub same_stuck : (a b : ℕ) → Stuck a ≡ Stuck b → a ≡ b
same_stuck a b e = cc

-- no conjunct of the formula is in this group
abbrev pub HasNone : List Conjunct → Group → Type 0
HasNone formula g = (z : Conjunct) → Contains formula z → z.group ≡ g → ⊥

module _ (nodes : List Node) (w : World) (g : Group) (Rule : Type 0) where
  pub exactly_before : (formula more : List Conjunct) → IsExactly nodes w formula g Rule → HasNone more g → IsExactly nodes w (formula ++ more) g Rule
  exactly_before formula more is none = record {
    to = λ holds. is.to (λ z there of. holds z (Contains-append_left formula more z there) of);
    back = λ rule z there of. elim (Contains-append_cases formula more z there) [
      | inl here ↦ is.back rule z here of
      | inr later ↦ absurd (none z later of)
    ];
  }

  pub exactly_behind : (less formula : List Conjunct) → IsExactly nodes w formula g Rule → HasNone less g → IsExactly nodes w (less ++ formula) g Rule
  exactly_behind less formula is none = record {
    to = λ holds. is.to (λ z there of. holds z (Contains-append_right less formula z there) of);
    back = λ rule z there of. elim (Contains-append_cases less formula z there) [
      | inl earlier ↦ absurd (none z earlier of)
      | inr here ↦ is.back rule z here of
    ];
  }

pub none_in_both : (g : Group) (xs ys : List Conjunct) → HasNone xs g → HasNone ys g → HasNone (xs ++ ys) g
none_in_both g xs ys left right z there of =
    elim (Contains-append_cases xs ys z there) [ inl i ↦ left z i of | inr i ↦ right z i of ]
