-- Where a text breaks the form of an answer.
use Rattle.std.specs.Prelude.{ℕ, ◌+◌, ◌-◌, ◌≤◌, List, length, take, ℤ}
use Rattle.dimacs_text.specs.Answers.{BeginAnswer, IsAnswerWith, lines_of}
use Rattle.dimacs_text.specs.declared.fault.AnswerFault.{AnswerFault}
use Rattle.dimacs_text.specs.declared.fault.AnswerFault.TheVariants.{Form, Memory}

-- Line `number`, from 1, is the first that breaks the form of an answer: the lines before it begin
-- an answer, and with this line they don't. Or `number` is one above the count of lines: all lines
-- begin an answer but aren't one.
pub record BreaksAt (text : List ℕ) (number : ℕ) : Type 0 where
  pub within : number ≤ length (lines_of text) + 1
  pub before : BeginAnswer (take (number - 1) (lines_of text))
  pub after : number ≤ length (lines_of text) → BeginAnswer (take number (lines_of text)) → ⊥
  pub none : (literals : List ℤ) → IsAnswerWith text literals → ⊥

-- what a fault claims about a text
abbrev pub IsFault : List ℕ → AnswerFault → Type 0
IsFault text (Form number) = BreaksAt text number
IsFault text Memory = Unit {0}
