-- The line and the status of each finding.
use Rattle.std.specs.Prelude.{ℕ, List, ◌++◌, codes}
use Rattle.std.specs.Fmt.{decimal}
use Rattle.command_frame.specs.declared.status.Status.{Status}
use Rattle.command_frame.specs.declared.status.Status.TheVariants.{Done, Fails, Open, OverLimit}
use Rattle.find_failures.specs.declared.asked.Asked.{Asked}
use Rattle.find_failures.specs.declared.found.Reach.{Reach}
use Rattle.find_failures.specs.declared.found.Reach.TheVariants.{Every, Bounded}
use Rattle.log_walk.specs.declared.bounds.Kind.{Kind}
use Rattle.log_walk.specs.declared.bounds.Kind.TheVariants.{Failure, Deadlock}
use Rattle.log_limits.specs.Parts.{over_line}
use Rattle.find_command.specs.declared.finding.Finding.{Finding}
use Rattle.find_command.specs.declared.finding.Finding.TheVariants.{Possible, Never, Spent, TooMany, Over}
use Rattle.find_command.specs.declared.finding.Findings.{Findings}

-- a log was found, after this many impossible ones
abbrev pub found_line : (logs : ℕ) → List ℕ
found_line logs = codes "found after " ++ (decimal logs ++ codes " logs\n")

-- no run ends as asked: none at all, or none with at most this many outcomes in each thread
abbrev pub never_line : (outcomes : ℕ) → Reach → (logs : ℕ) → List ℕ
never_line outcomes Every logs = codes "none in " ++ (decimal logs ++ codes " logs\n")
never_line outcomes Bounded logs =
    codes "none in " ++ (decimal logs
    ++ (codes " logs, " ++ (decimal outcomes ++ codes " outcomes\n")))

-- after this many impossible logs, the search for a schedule was given up
abbrev pub spent_line : (budget logs : ℕ) → List ℕ
spent_line budget logs =
    codes "spent after " ++ (decimal logs
    ++ (codes " logs and " ++ (decimal budget ++ codes " conflicts\n")))

abbrev pub kind_text : Kind → List ℕ
kind_text Failure = codes "failure"
kind_text Deadlock = codes "deadlock"

-- there are more logs than this
abbrev pub many_line : Kind → (logs : ℕ) → List ℕ
many_line kind logs =
    codes "no " ++ (kind_text kind ++ (codes " in " ++ (decimal logs ++ codes " logs\n")))

-- the line of what a search finds
abbrev pub finding_line : Asked → Finding → (logs : ℕ) → List ℕ
finding_line asked (Possible text) logs = found_line logs
finding_line asked (Never reach text) logs = never_line asked.outcomes reach logs
finding_line asked (Spent text) logs = spent_line asked.budget logs
finding_line asked TooMany logs = many_line asked.kind asked.logs
finding_line asked (Over part number) logs = over_line part number

abbrev pub findings_line : Asked → Findings → List ℕ
findings_line asked x = finding_line asked x.finding x.impossible

-- its status
abbrev pub finding_status : Finding → Status
finding_status (Possible _) = Done
finding_status (Never _ _) = Fails
finding_status (Spent _) = Open
finding_status TooMany = Open
finding_status (Over _ _) = OverLimit
