-- The things that the names of a program denote in its code.
use Rattle.std.specs.Prelude.{ℕ, ◌+◌, List, [], ◌∷◌, ◌++◌, length, Option, Some, None, bytes_eq, if◌then◌else◌}
use Rattle.tc_names.specs.Names.{name_text}
use Rattle.tc_tree.specs.declared.expression.Name.{Name}
use Rattle.tc_tree.specs.declared.program.Global.{Global}
use Rattle.tc_tree.specs.declared.program.Global.TheVariants.{Int, Array, Mutex, Condition}
use Rattle.tc_tree.specs.declared.program.Local.{Local}
use Rattle.tc_tree.specs.declared.program.Local.TheVariants.{Int as LocalInt, Handle}
use Rattle.tc_tree.specs.Grammar.{Thread}
use Rattle.tc_tree.specs.Counts.{elements}
use Rattle.tc_lower.specs.declared.tables.Numbers.{Numbers}
use Rattle.tc_lower.specs.declared.things.Named.{Named}
use Rattle.tc_lower.specs.declared.things.Thing.{Thing}
use Rattle.tc_lower.specs.declared.things.Thing.TheVariants as thing

abbrev pub named : Name → Thing → Named
named x t = record { name = x; thing = t }

-- the thing that a name of this text denotes: the first thing with that name
abbrev pub thing_in : List ℕ → List Named → Name → Option Thing
thing_in source [] x = None
thing_in source (n ∷ ns) x =
    if bytes_eq (name_text source n.name) (name_text source x) then Some n.thing
    else thing_in source ns x

-- the body's own thing if there is one, otherwise the program's
abbrev pub own_first : Option Thing → Option Thing → Option Thing
own_first (Some t) other = Some t
own_first None other = other

-- the thing that a name in a body denotes
abbrev pub thing_in_scope : List ℕ → List Named → List Named → Name → Option Thing
thing_in_scope source own all x = own_first (thing_in source own x) (thing_in source all x)

-- the thing of a global, after these counts: an int is the next cell, an array the next few
abbrev pub global_thing : Numbers → Global → Named
global_thing n (Int x i) = named x (thing.Cell n.cells)
global_thing n (Array a size) = named a (thing.Array n.cells (elements size.value))
global_thing n (Mutex m) = named m (thing.Mutex n.mutexes)
global_thing n (Condition c) = named c (thing.Condition n.conditions)

-- the counts after a global
abbrev pub past_global : Numbers → Global → Numbers
past_global n (Int x i) = record n { cells = n.cells + 1 }
past_global n (Array a size) = record n { cells = n.cells + elements size.value }
past_global n (Mutex m) = record n { mutexes = n.mutexes + 1 }
past_global n (Condition c) = record n { conditions = n.conditions + 1 }

-- the things of the globals, in order
abbrev pub globals_from : Numbers → List Global → List Named
globals_from n [] = []
globals_from n (g ∷ gs) = global_thing n g ∷ globals_from (past_global n g) gs

abbrev pub no_numbers : Numbers
no_numbers = record { cells = 0; mutexes = 0; conditions = 0 }

-- the things of the threads, in order: functions
abbrev pub threads_from : ℕ → List Thread → List Named
threads_from function [] = []
threads_from function (t ∷ ts) =
    named t.name (thing.Function function (length t.parameters)) ∷ threads_from (function + 1) ts

-- the things of the parameters, in order: slots
abbrev pub parameters_from : ℕ → List Name → List Named
parameters_from slot [] = []
parameters_from slot (x ∷ xs) = named x (thing.Slot slot) ∷ parameters_from (slot + 1) xs

-- the things of a body's declarations, from this slot and this thread variable on
abbrev pub locals_from : ℕ → ℕ → List Local → List Named
locals_from slot handle [] = []
locals_from slot handle (LocalInt x ∷ ls) =
    named x (thing.Slot slot) ∷ locals_from (slot + 1) handle ls
locals_from slot handle (Handle x ∷ ls) =
    named x (thing.Handle handle) ∷ locals_from slot (handle + 1) ls

-- how many ints and how many thread variables a body declares
abbrev pub ints : List Local → ℕ
ints [] = 0
ints (LocalInt x ∷ ls) = 1 + ints ls
ints (Handle x ∷ ls) = ints ls

abbrev pub handles : List Local → ℕ
handles [] = 0
handles (LocalInt x ∷ ls) = handles ls
handles (Handle x ∷ ls) = 1 + handles ls

-- the things that a body's own names denote
abbrev pub own_things : List Name → List Local → List Named
own_things parameters locals =
    parameters_from 0 parameters ++ locals_from (length parameters) 0 locals

-- the things that the program's names denote
abbrev pub program_things : List Global → List Thread → List Named
program_things globals threads = globals_from no_numbers globals ++ threads_from 0 threads
