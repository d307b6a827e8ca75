-- Helpers: the results of the parts of the check.
use Rattle.std.specs.Prelude.{◌≡◌, List, [], ◌∷◌, ◌++◌, Option, Some, None, Result, Ok, Err}
use Rattle.tc_tree.specs.declared.expression.Name.{Name}
use Rattle.tc_tree.specs.Seen.{SeenBranch}
use Rattle.tc_names.specs.declared.fault.NameFault.{NameFault}
use Rattle.tc_names.specs.declared.scope.Scope.{Scope}
use Rattle.tc_names.specs.declared.scope.Meaning.{Meaning}
use Rattle.tc_names.specs.Names.{expression_fault, statements_fault, ◌then◌, meaning_in}

-- the result is this fault, or success if there is none
abbrev pub Tells : {A : Type 0} → Result A NameFault → Option NameFault → Type 0
Tells (Ok a) fault = fault ≡ None
Tells (Err f) fault = fault ≡ Some f

-- the scope of a body: its own declarations, then the program's
abbrev pub plain_scope : Scope → Name → Option Meaning
plain_scope s = meaning_in s.source.now (s.own.now ++ s.all.now)

abbrev pub branch_fault : (Name → Option Meaning) → SeenBranch → Option NameFault
branch_fault scope b =
    expression_fault scope b.condition then statements_fault scope b.body.statements

abbrev pub branches_fault : (Name → Option Meaning) → List SeenBranch → Option NameFault
branches_fault scope [] = None
branches_fault scope (b ∷ bs) = branch_fault scope b then branches_fault scope bs
