-- The numbers of a program.
use Rattle.std.specs.Prelude.{List, [], ◌∷◌}
use Rattle.int_ops.specs.Arith.{IsInt}
use Rattle.tc_tree.specs.declared.word.Word.{Word}
use Rattle.tc_tree.specs.declared.word.Word.TheVariants.{Number}
use Rattle.tc_tree.specs.Grammar.{Program, program_words}

abbrev pub IsIntWord : Word → Type 0
IsIntWord (Number n) = IsInt n.value
IsIntWord _ = Unit {0}

abbrev pub AreInts : List Word → Type 0
AreInts [] = Unit {0}
AreInts (w ∷ ws) = IsIntWord w × AreInts ws

-- each number of the program is an int
abbrev pub HasInts : Program → Type 0
HasInts p = AreInts (program_words p)
