-- Where a text breaks the format of a log.
use Rattle.std.specs.Prelude.{◌≡◌, ℕ, List, Err}
use Rattle.path_log.specs.declared.fault.LogFault.{LogFault}
use Rattle.path_log.specs.declared.fault.LogFault.TheVariants.{Form, Memory}
use Rattle.path_log.specs.Fields.{whole}

-- the first field that is cut short or breaks its rule begins at this offset
abbrev pub BreaksAt : List ℕ → ℕ → Type 0
BreaksAt text offset = whole (0, text) ≡ Err offset

-- what a fault says about a text
abbrev pub IsFault : List ℕ → LogFault → Type 0
IsFault text (Form offset) = BreaksAt text offset
IsFault text Memory = Unit {0}
