-- Helpers: the parts of the lowering as plain data.
use Rattle.int_ops.specs.declared.update.Update.{Update}
use Rattle.std.specs.Prelude.{◌≡◌, ◌+◌, ◌<◌, ◌≤◌, ◌^◌, ◌++◌, List, Option, length}
use Rattle.tc_code.specs.tc_limits.declared.limits.TheConstants.{PROGRAM_BYTES}
use Rattle.tc_code.specs.declared.instr.Instr.{Instr}
use Rattle.tc_tree.specs.Grammar.{Expression}
use Rattle.tc_tree.specs.declared.expression.Name.{Name}
use Rattle.tc_lower.specs.declared.things.Scope.{Scope}
use Rattle.tc_lower.specs.declared.things.Thing.{Thing}
use Rattle.tc_lower.specs.declared.value.Writer.{Writer}
use Rattle.tc_lower.specs.Things.{thing_in_scope}
use Rattle.tc_lower.specs.Statements.{Written, Indexed, Updating, indexed, updating}
use Rattle.tc_lower.specs.Values.{Evaluated, evaluated, Arguments, arguments}

-- the thing that a name denotes
abbrev pub plain_scope : Scope → Name → Option Thing
plain_scope s = thing_in_scope s.source.now s.own.now s.all.now

-- the lowering of an expression that is written next
abbrev pub evaluated_by : Scope → Writer → Expression → Evaluated
evaluated_by s w e = evaluated (plain_scope s) (length w.draft) w.free e

abbrev pub arguments_by : Scope → Writer → List Expression → Arguments
arguments_by s w es = arguments (plain_scope s) (length w.draft) w.free es

abbrev pub indexed_by : Scope → Writer → Name → Option Expression → Indexed
indexed_by s w a i = indexed (plain_scope s) (length w.draft) w.free a i

abbrev pub updating_by : Scope → Writer → Update Expression → Updating
updating_by s w u = updating (plain_scope s) (length w.draft) w.free u

-- the writer has room for these instructions
pub record HasRoom (w : Writer) (is : List Instr) : Type 0 where
  pub room : w.free ≤ length w.draft + PROGRAM_BYTES
  pub fits : length w.draft + length is < 2 ^ 18

-- these instructions were written, and this is the next free slot
pub record IsAdded (old new : Writer) (all : Written) : Type 0 where
  pub instrs : new.draft ≡ old.draft ++ all.instrs
  pub free : new.free ≡ all.free
  pub room : new.free ≤ length new.draft + PROGRAM_BYTES
