-- Helpers: bodies that are being written.
use Rattle.std.specs.Prelude.{◌≡◌, ℕ, ◌+◌, ◌<◌, ◌≤◌, ◌^◌, Bool, true, false, [], ◌∷◌, ◌++◌, List, length, set, replicate}
use Rattle.tc_code.specs.tc_limits.declared.limits.TheConstants.{PROGRAM_BYTES}
use Rattle.tc_code.specs.declared.instr.Instr.{Instr}
use Rattle.tc_code.specs.declared.instr.Instr.TheVariants.{Branch, Goto}
use Rattle.tc_tree.specs.Grammar as grammar
use Rattle.tc_tree.specs.Seen.{SeenBranch}
use Rattle.tc_lower.specs.declared.statement.Body.{Body}
use Rattle.tc_lower.specs.declared.statement.Test.{Test}
use Rattle.tc_lower.specs.declared.things.Scope.{Scope}
use Rattle.tc_lower.specs.Statements.{Lowered, all_lowered, passing, after_body}
use Rattle.tc_lower.specs.Values.{Evaluated, evaluated}
use Rattle.tc_lower.specs.helpers.Seen.{plain_scope}

-- each instruction has its line, and there is room for these
pub record IsReady (b : Body) (all : Lowered) : Type 0 where
  pub even : length b.lines.items ≡ length b.code.draft
  pub room : b.code.free ≤ length b.code.draft + PROGRAM_BYTES
  pub fits : length b.code.draft + length all.instrs < 2 ^ 18

-- these instructions were written, with their lines
pub record IsWritten (old new : Body) (all : Lowered) : Type 0 where
  pub instrs : new.code.draft ≡ old.code.draft ++ all.instrs
  pub lines : new.lines.items ≡ old.lines.items ++ all.lines
  pub free : new.code.free ≡ all.free
  pub even : length new.lines.items ≡ length new.code.draft
  pub room : new.code.free ≤ length new.code.draft + PROGRAM_BYTES

-- a test was written, with room for its branch
pub record IsBegun (old new : Body) (test : Evaluated) (line : ℕ) (begun : Test) : Type 0 where
  pub instrs : new.code.draft ≡ old.code.draft ++ test.instrs ++ Goto 0 ∷ []
  pub lines : new.lines.items ≡ old.lines.items ++ replicate (length test.instrs + 1) line
  pub free : new.code.free ≡ test.free
  pub even : length new.lines.items ≡ length new.code.draft
  pub room : new.code.free ≤ length new.code.draft + PROGRAM_BYTES
  pub condition : begun.condition ≡ test.value
  pub branch : begun.branch ≡ length old.code.draft + length test.instrs

-- a `while` of this test and body
abbrev pub while_of : SeenBranch → grammar.Statement
while_of b = grammar.While b.place b.condition b.body.statements b.body.end

-- the test of a branch that is written next, and its body
abbrev pub test_of : Scope → Body → SeenBranch → Evaluated
test_of s w b = evaluated (plain_scope s) (length w.code.draft) w.code.free b.condition

abbrev pub body_of : Scope → Body → SeenBranch → Lowered
body_of s w b =
    let test = test_of s w b in
    all_lowered (plain_scope s)
    (length w.code.draft + length test.instrs + 1) test.free b.body.statements

-- a branch whose jump to the end isn't written yet
abbrev pub open_branch : ℕ → ℕ → Evaluated → Lowered → Bool → Lowered
open_branch line at test body more = record {
  instrs = test.instrs ++ Branch test.value (after_body at test body more) ∷ [] ++ body.instrs
      ++ passing more 0;
  lines = replicate (length test.instrs + 1) line ++ body.lines
      ++ replicate (length (passing more 0)) line;
  free = body.free;
}

-- the place of that jump, if there will be one
abbrev pub jump_place : Bool → ℕ → List ℕ
jump_place false place = []
jump_place true place = place ∷ []

-- each of these places is below a bound
abbrev pub Below : ℕ → List ℕ → Type 0
Below n [] = Unit {0}
Below n (k ∷ ks) = (k < n) × Below n ks

-- the instructions with a jump to the end at each of these places
abbrev pub filled : ℕ → List ℕ → List Instr → List Instr
filled end [] is = is
filled end (k ∷ ks) is = filled end ks (set is k (Goto end))
