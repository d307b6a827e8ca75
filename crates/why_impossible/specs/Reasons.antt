-- Reasons, by names of threads, and their text.
use Rattle.std.specs.Prelude.{ℕ, List, ◌++◌, codes, flat_map, length, Option, Some, option_map, slice_get}
use Rattle.std.specs.Fmt.{decimal}
use Rattle.tc_base.specs.Names.{Name, name_text}
use Rattle.path_walk.specs.Paths.{Paths}
use Rattle.order_formula.specs.declared.group.Group.{Group}
use Rattle.order_formula.specs.declared.group.Group.TheVariants as group
use Rattle.dead_paths.specs.Causes.{Cause}
use Rattle.why_impossible.specs.declared.reason.Reason.{Reason}
use Rattle.why_impossible.specs.declared.reason.Reason.TheVariants.{Own, Child, Read, Mutex, Condition, Test, Stuck, Dead}

-- the name of the thread at an index among the paths, if there is one
abbrev pub name_at : Paths → ℕ → Option Name
name_at paths t = option_map (λ w. w.name) (slice_get paths.threads t)

-- the reason of a group, if the thread that it names exists
abbrev pub reason_of : Paths → Group → Option Reason
reason_of paths (group.Own t) = option_map Own (name_at paths t)
reason_of paths (group.Child t) = option_map Child (name_at paths t)
reason_of paths (group.Read t line) = option_map (λ name. Read name line) (name_at paths t)
reason_of paths (group.Mutex m) = Some (Mutex m)
reason_of paths (group.Condition c) = Some (Condition c)
reason_of paths (group.Test t line) = option_map (λ name. Test name line) (name_at paths t)
reason_of paths (group.Stuck t) = option_map Stuck (name_at paths t)

-- the reason of a cause of dead paths
abbrev pub cause_reason : Cause → Reason
cause_reason cause = Dead cause.name cause.line

-- a thread at a line
abbrev pub at_line : Name → ℕ → List ℕ
at_line name line = name_text name ++ (codes " line " ++ decimal line)

abbrev pub reason_text : Reason → List ℕ
reason_text (Own name) = codes "own " ++ name_text name
reason_text (Child name) = codes "child " ++ name_text name
reason_text (Read name line) = codes "read " ++ at_line name line
reason_text (Mutex m) = codes "mutex " ++ decimal m
reason_text (Condition c) = codes "cond " ++ decimal c
reason_text (Test name line) = codes "test " ++ at_line name line
reason_text (Stuck name) = codes "stuck " ++ name_text name
reason_text (Dead name line) = codes "dead " ++ at_line name line

abbrev pub reason_line : Reason → List ℕ
reason_line reason = reason_text reason ++ codes "\n"

-- the number of reasons, and a line for each
abbrev pub reasons_text : List Reason → List ℕ
reasons_text reasons =
    codes "reasons " ++ (decimal (length reasons) ++ (codes "\n" ++ flat_map reason_line reasons))
