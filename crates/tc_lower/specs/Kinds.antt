-- The kind of each thing, by the rules for names.
use Rattle.std.specs.Prelude.{◌≡◌, Option, Some, None}
use Rattle.tc_names.specs.declared.scope.Meaning.{Meaning}
use Rattle.tc_names.specs.declared.scope.Meaning.TheVariants as meaning
use Rattle.tc_lower.specs.declared.things.Thing.{Thing}
use Rattle.tc_lower.specs.declared.things.Thing.TheVariants.{Cell, Array, Mutex, Condition, Function, Slot, Handle}

-- the thing is of the kind that the name means; parameters and ints of a body are slots
abbrev pub IsOfKind : Meaning → Thing → Type 0
IsOfKind meaning.Global (Cell c) = Unit {0}
IsOfKind meaning.Array (Array a n) = Unit {0}
IsOfKind meaning.Mutex (Mutex m) = Unit {0}
IsOfKind meaning.Condition (Condition c) = Unit {0}
IsOfKind (meaning.Thread n) (Function f parameters) = n ≡ parameters
IsOfKind meaning.Parameter (Slot k) = Unit {0}
IsOfKind meaning.Local (Slot k) = Unit {0}
IsOfKind meaning.Handle (Handle h) = Unit {0}
IsOfKind _ _ = ⊥

-- a name with a meaning denotes a thing of that kind, and any other name denotes nothing
abbrev pub Agree : Option Meaning → Option Thing → Type 0
Agree None None = Unit {0}
Agree (Some m) (Some t) = IsOfKind m t
Agree _ _ = ⊥
