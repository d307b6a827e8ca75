-- How a reader's result is compared with the fields that it reads.
use Rattle.std.specs.Prelude.{◌≡◌, ℕ, ◌-◌, List, length, slice_get, Option, option_map, Result, Ok, Err}
use Rattle.tc_base.specs.Names.{Name}
use Rattle.tc_base.specs.Paths.{ThreadPath}
use Rattle.path_log.specs.declared.cursor.Cursor.{Cursor}
use Rattle.path_log.specs.declared.fault.LogFault.{LogFault}
use Rattle.path_log.specs.declared.fault.LogFault.TheVariants.{Form, Memory}
use Rattle.path_log.specs.Fields.{Place}

-- the place of a cursor
abbrev pub place : Cursor → Place
place cursor = (cursor.at, cursor.rest.now)

-- the reader's fault is that of the fields, unless memory ran out
abbrev pub Fails : {Y : Type 0} → LogFault → Result Y ℕ → Type 0
Fails Memory read = Unit {0}
Fails (Form offset) read = read ≡ Err offset

-- a reader returns, through a view, what the fields give, unless memory ran out
abbrev pub Gives : {X Y : Type 0} → (X → Y) → Result X LogFault → Result Y ℕ → Type 0
Gives view (Ok x) read = read ≡ Ok (view x)
Gives view (Err fault) read = Fails fault read

-- a value and the place of the cursor after it
abbrev pub seen : {X : Type 0} → X × Cursor → X × Place
seen x = (x.0, place x.1)

-- the name of the last thread, if any
abbrev pub last_name : List ThreadPath → Option Name
last_name ts = option_map (λ t. t.name) (slice_get ts (length ts - 1))
