-- A command that puts a file, and then another that it reads in pieces.
use Rattle.std.specs.Prelude.{◌≡◌, ℕ, List, [], ◌∷◌, ◌++◌}
use Rattle.command_frame.specs.Inputs.{InPieces, Texts, Wanted, Whole}
use Rattle.command_frame.specs.Meaning.{Meaning}
use Rattle.command_frame.specs.declared.status.Status.TheVariants.{Done}
use Rattle.command_frame.specs.helpers.Failures.{plain_whole}
use Rattle.test_frame.specs.Join.{part_limit}
use Rattle.test_frame.specs.declared.glue.Glue.{Glue}
use Rattle.test_frame.specs.declared.glue.Glued.{Glued}

-- the bytes of the first file, and of the last so far
abbrev pub knows : Texts → (front state : List ℕ) → Type 0
knows (first ∷ []) front state = state ≡ first ++ front
knows _ front state = ⊥

-- the bytes of both
abbrev pub Glues : Texts → Glued → Type 0
Glues (first ∷ last ∷ []) glued = glued.bytes.items ≡ first ++ last
Glues _ glued = ⊥

-- the command, over this first input
abbrev pub glue_over : Wanted → (last : List ℕ) → Meaning Glued
glue_over first last = record {
  inputs = first ∷ InPieces last ∷ [];
  ComesOf = Glues;
  keeps_of = λ _. [];
  IsTextOf = λ glued text. text ≡ glued.bytes.items;
  status_of = λ _. Done;
}

abbrev pub glue_meaning : Glue → Meaning Glued
glue_meaning glue = glue_over (plain_whole glue.first) glue.last.now

-- the command for these names
abbrev pub glue_of : (first last : List ℕ) → Meaning Glued
glue_of first last = glue_over (Whole part_limit first) last
