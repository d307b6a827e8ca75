-- A command that joins two files in both orders.
use Rattle.std.specs.Prelude.{◌≡◌, ◌≢◌, ℕ, List, [], ◌∷◌, ◌++◌, codes}
use Rattle.command_frame.specs.Inputs.{Limit, Texts, Wanted, Whole}
use Rattle.command_frame.specs.Keeps.{Keep}
use Rattle.command_frame.specs.Meaning.{Meaning}
use Rattle.command_frame.specs.declared.status.Status.{Status}
use Rattle.command_frame.specs.declared.status.Status.TheVariants.{Done, InputRefused}
use Rattle.command_frame.specs.helpers.Failures.{plain_whole}
use Rattle.test_frame.specs.declared.Join.{Join}
use Rattle.test_frame.specs.declared.Joined.{Joined}
use Rattle.test_frame.specs.declared.Joined.TheVariants.{Empty, Both}

-- the first file is empty, or these are the two files joined in both orders
abbrev pub Joins : Texts → Joined → Type 0
Joins (first ∷ second ∷ []) Empty = first ≡ []
Joins (first ∷ second ∷ []) (Both one other) =
    (first ≢ []) × (one.items ≡ first ++ second) × (other.items ≡ second ++ first)
Joins _ _ = ⊥

-- the two keeps, one for each order
abbrev pub joined_keeps : (out back : List ℕ) → Joined → List Keep
joined_keeps out back Empty = []
joined_keeps out back (Both one other) =
    record { name = out; bytes = one.items } ∷ record { name = back; bytes = other.items } ∷ []

abbrev pub IsJoinedText : Joined → List ℕ → Type 0
IsJoinedText Empty text = text ≡ codes "empty\n"
IsJoinedText (Both _ _) text = text ≡ codes "joined\n"

abbrev pub joined_status : Joined → Status
joined_status Empty = InputRefused
joined_status (Both _ _) = Done

-- the command, given these inputs
abbrev pub join_over : (out back : List ℕ) → List Wanted → Meaning Joined
join_over out back inputs = record {
  inputs = inputs;
  ComesOf = Joins;
  keeps_of = joined_keeps out back;
  IsTextOf = IsJoinedText;
  status_of = joined_status;
}

-- the inputs of a value that is the command, and its meaning
abbrev pub join_inputs : Join → List Wanted
join_inputs join = plain_whole join.inputs.0 ∷ plain_whole join.inputs.1 ∷ []

abbrev pub join_meaning : Join → Meaning Joined
join_meaning join = join_over join.out.now join.back.now (join_inputs join)

-- the limit of each file: four bytes
abbrev pub part_limit : Limit
part_limit = record { kind = codes "part"; most = 4 }

abbrev pub part_inputs : (first second : List ℕ) → List Wanted
part_inputs first second = Whole part_limit first ∷ Whole part_limit second ∷ []

-- the command for these names
abbrev pub join_of : (first second out back : List ℕ) → Meaning Joined
join_of first second out back = join_over out back (part_inputs first second)
