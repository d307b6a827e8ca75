-- Declarations that are numbered one after another.
use Rattle.std.proofs.Common.{◌≡◌, ℕ, ◌+◌, ◌≤◌, List, ◌++◌, length, map, arith}
use Rattle.tc_code.specs.tc_limits.declared.limits.TheConstants.{PROGRAM_BYTES}
use Rattle.tc_tree.specs.declared.expression.Name.{Name}
use Rattle.tc_tree.specs.declared.program.Global.{Global}
use Rattle.tc_tree.specs.declared.program.Global.TheVariants.{Int, Array, Mutex, Condition}
use Rattle.tc_tree.specs.declared.program.Local.{Local}
use Rattle.tc_tree.specs.declared.program.Thread.{Thread as TreeThread}
use Rattle.tc_tree.specs.Counts.{cells, mutexes, conditions}
use Rattle.tc_tree.specs.Seen.{thread_of}
use Rattle.tc_lower.specs.declared.tables.Numbers.{Numbers}
use Rattle.tc_lower.specs.declared.things.Named.{Named}
use Rattle.tc_lower.specs.Things.{past_global, globals_from, no_numbers, threads_from, parameters_from, locals_from, ints, handles}

-- ---- globals

few_mutexes : (n : Numbers) (g : Global) → (past_global n g).mutexes ≤ n.mutexes + 1
few_mutexes n (Int x i) = omega arith
few_mutexes n (Array a size) = omega arith
few_mutexes n (Mutex m) = omega arith
few_mutexes n (Condition c) = omega arith

few_conditions : (n : Numbers) (g : Global) → (past_global n g).conditions ≤ n.conditions + 1
few_conditions n (Int x i) = omega arith
few_conditions n (Array a size) = omega arith
few_conditions n (Mutex m) = omega arith
few_conditions n (Condition c) = omega arith

-- the names so far, with those of the remaining globals, are all names
pub record GlobalsSoFar (start : List Named) (all : List Global) (names : List Named) (n : Numbers) (rest : List Global) : Type 0 where
  pub things : names ++ globals_from n rest ≡ start ++ globals_from no_numbers all
  pub cells : n.cells + cells rest ≡ cells all
  pub mutexes : n.mutexes + mutexes rest ≡ mutexes all
  pub conditions : n.conditions + conditions rest ≡ conditions all
  pub few_mutexes : n.mutexes + length rest ≤ PROGRAM_BYTES
  pub few_conditions : n.conditions + length rest ≤ PROGRAM_BYTES

-- ---- threads

pub record ThreadsSoFar (start : List Named) (all : List TreeThread) (names : List Named) (function : ℕ) (rest : List TreeThread) : Type 0 where
  pub things : names ++ threads_from function (map thread_of rest) ≡ start ++ threads_from 0 (map thread_of all)
  pub few : function + length rest ≤ PROGRAM_BYTES

-- ---- a body's own names

pub record ParametersSoFar (start : List Named) (from : ℕ) (all : List Name) (names : List Named) (slot : ℕ) (rest : List Name) : Type 0 where
  pub things : names ++ parameters_from slot rest ≡ start ++ parameters_from from all
  pub count : slot + length rest ≡ from + length all

pub record LocalsSoFar (start : List Named) (slots first_handle : ℕ) (all : List Local) (names : List Named) (slot handle : ℕ) (rest : List Local) : Type 0 where
  pub things : names ++ locals_from slot handle rest ≡ start ++ locals_from slots first_handle all
  pub ints : slot + ints rest ≡ slots + ints all
  pub handles : handle + handles rest ≡ first_handle + handles all
  pub few : slot + handle + length rest ≤ PROGRAM_BYTES
