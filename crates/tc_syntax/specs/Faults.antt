-- Why words aren't a program.
use Rattle.std.specs.Prelude.{ℕ, ◌-◌, ◌≤◌, List, length}
use Rattle.tc_syntax.specs.declared.reader.Stop.{Stop}
use Rattle.tc_syntax.specs.declared.reader.Stop.TheVariants.{Memory, Left}
use Rattle.tc_tree.specs.declared.word.Word.{Word}
use Rattle.tc_tree.specs.Grammar.{IsSyntaxFault}

-- memory ran out, or n words are left, from the first one with which no program continues
abbrev pub IsStop : ℕ → List Word → Stop → Type 0
IsStop language ws Memory = Unit {0}
IsStop language ws (Left n) = (n ≤ length ws) × IsSyntaxFault language ws (length ws - n)
