-- What logs may have too many of, and the line that says so.
use Rattle.std.specs.Prelude.{ℕ, List, ◌++◌, codes, if◌then◌else◌}
use Rattle.std.specs.Fmt.{decimal}
use Rattle.tc_limits.specs.declared.limits.TheConstants as limits
use Rattle.clap_system.specs.declared.fault.Which.{Which}
use Rattle.clap_system.specs.declared.fault.Which.TheVariants as which
use Rattle.log_walk.specs.declared.bounds.LeftOut.{LeftOut}
use Rattle.log_limits.specs.declared.part.Part.{Part}
use Rattle.log_limits.specs.declared.part.Part.TheVariants.{Threads, Depth, Steps, Events, Operators}

-- how many a log may have
abbrev pub limit_of : Part → ℕ
limit_of Threads = limits.THREADS
limit_of Depth = limits.DEPTH
limit_of Steps = limits.STEPS
limit_of Events = limits.EVENTS
limit_of Operators = limits.OPERATORS

abbrev pub part_text : Part → List ℕ
part_text Threads = codes "threads"
part_text Depth = codes "depth"
part_text Steps = codes "steps"
part_text Events = codes "events"
part_text Operators = codes "operators"

-- what a log that can't be solved has too many of
abbrev pub part_of : Which → Part
part_of which.Threads = Threads
part_of which.Depth = Depth
part_of which.Events = Events
part_of which.Operators = Operators

-- what logs that were left out have too many of
abbrev pub part_left : LeftOut → Part
part_left out = if out.threads then Threads else if out.depth then Depth else Steps

-- a log has this many of these, which are too many
abbrev pub over_line : Part → (number : ℕ) → List ℕ
over_line part number =
    codes "limit " ++ (part_text part
    ++ (codes " "
    ++ (decimal number ++ (codes " of " ++ (decimal (limit_of part) ++ codes "\n")))))
