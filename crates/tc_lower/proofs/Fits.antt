-- The limits hold for a program with few words.
use Rattle.std.proofs.Common.{ℕ, ◌+◌, ◌*◌, ◌≤◌, List, [], ◌∷◌, length, arith}
use Rattle.tc_code.specs.tc_limits.declared.limits.TheConstants.{PROGRAM_BYTES}
use Rattle.tc_tree.specs.declared.expression.Name.{Name}
use Rattle.tc_tree.specs.declared.program.Global.{Global}
use Rattle.tc_tree.specs.declared.program.Global.TheVariants.{Int, Array, Mutex, Condition}
use Rattle.tc_tree.specs.declared.program.Initial.TheVariants.{Zero, Plain, Negated}
use Rattle.tc_tree.specs.declared.program.Local.{Local}
use Rattle.tc_tree.specs.declared.program.Local.TheVariants.{Int as LocalInt, Handle}
use Rattle.tc_tree.specs.tc_lexer.declared.token.Keyword.TheVariants as keyword
use Rattle.tc_tree.specs.tc_lexer.declared.token.Sign.TheVariants as sign
use Rattle.tc_tree.specs.declared.word.Word.{Word}
use Rattle.tc_tree.specs.declared.word.Word.TheVariants.{Keyword as AKeyword, Sign as ASign, End as AnEnd}
use Rattle.tc_tree.specs.Grammar.{
  Body,
  Thread,
  Program,
  globals_then,
  locals_then,
  body_then,
  other_parameters_then,
  parameters_then,
  threads_then,
  program_words,
  statements_then,
}
use Rattle.tc_lower.specs.declared.things.Named.{Named}
use Rattle.tc_lower.specs.Things.{thing_in_scope, own_things, ints}
use Rattle.tc_lower.specs.Statements.{all_lowered}
use Rattle.tc_lower.specs.helpers.Programs.{BodyFits, ThreadsFit}
use Rattle.tc_lower.proofs.Widths.{statements_width}

locals_width : (ls : List Local) (rest : List Word) → length ls + length rest ≤ length (locals_then ls rest)
locals_width [] rest = omega arith
locals_width (LocalInt x ∷ ls) rest = omega (arith, locals_width ls rest)
locals_width (Handle x ∷ ls) rest = omega (arith, locals_width ls rest)

other_parameters_width : (xs : List Name) (rest : List Word) → length xs + length rest ≤ length (other_parameters_then xs rest)
other_parameters_width [] rest = omega arith
other_parameters_width (x ∷ xs) rest = omega (arith, other_parameters_width xs rest)

parameters_width : (xs : List Name) (rest : List Word) → length xs + length rest ≤ length (parameters_then xs rest)
parameters_width [] rest = omega arith
parameters_width (x ∷ xs) rest = omega (arith, other_parameters_width xs rest)

globals_width : (gs : List Global) (rest : List Word) → length gs + length rest ≤ length (globals_then gs rest)
globals_width [] rest = omega arith
globals_width (Int x Zero ∷ gs) rest = omega (arith, globals_width gs rest)
globals_width (Int x (Plain n) ∷ gs) rest = omega (arith, globals_width gs rest)
globals_width (Int x (Negated n) ∷ gs) rest = omega (arith, globals_width gs rest)
globals_width (Array a n ∷ gs) rest = omega (arith, globals_width gs rest)
globals_width (Mutex m ∷ gs) rest = omega (arith, globals_width gs rest)
globals_width (Condition c ∷ gs) rest = omega (arith, globals_width gs rest)

module _ (source : List ℕ) (all : List Named) where
  -- a body, and the words after it
  body_width : (parameters : List Name) (b : Body) (rest : List Word)
      → length (all_lowered (thing_in_scope source (own_things parameters b.locals) all) 0 (length parameters + ints b.locals) b.statements).instrs + 3 * length b.locals
      + 3 * length rest ≤ 3 * length (body_then b rest)
  body_width parameters b rest =
      omega (
        arith,
        locals_width b.locals (statements_then b.statements (AnEnd b.end ∷ rest)),
        statements_width (thing_in_scope source (own_things parameters b.locals) all) 0 (length parameters + ints b.locals) b.statements (AnEnd b.end ∷ rest),
      )

  body_fits : (parameters : List Name) (b : Body) (rest : List Word) (n : ℕ) → length parameters + length (body_then b rest) ≤ n → n ≤ PROGRAM_BYTES
      → BodyFits source all parameters b
  body_fits parameters b rest n up few =
      let w = body_width parameters b rest in
      record { slots = omega (arith, w, up, few); instrs = omega (arith, w, up, few) }

  threads_fit : (ts : List Thread) (rest : List Word) (n : ℕ) → length (threads_then ts rest) ≤ n → n ≤ PROGRAM_BYTES → ThreadsFit source all ts
  threads_fit [] rest n up few = tt
  threads_fit (t ∷ ts) rest n up few =
      let p = parameters_width t.parameters (ASign sign.CloseParen ∷ body_then t.body (threads_then ts rest)) in
      let w = body_width t.parameters t.body (threads_then ts rest) in (
        body_fits t.parameters t.body (threads_then ts rest) n (omega (arith, p, up)) few,
        threads_fit ts rest n (omega (arith, p, w, up)) few,
      )

  threads_count : (ts : List Thread) (rest : List Word) → length ts + length rest ≤ length (threads_then ts rest)
  threads_count [] rest = omega arith
  threads_count (t ∷ ts) rest =
      omega (
        arith,
        threads_count ts rest,
        parameters_width t.parameters (ASign sign.CloseParen ∷ body_then t.body (threads_then ts rest)),
        body_width t.parameters t.body (threads_then ts rest),
      )

-- what a program with few words has
pub record HasFew (source : List ℕ) (all : List Named) (p : Program) : Type 0 where
  pub globals : length p.globals ≤ PROGRAM_BYTES
  pub threads : length p.threads ≤ PROGRAM_BYTES
  pub bodies : ThreadsFit source all p.threads
  pub main : BodyFits source all [] p.main

pub has_few : (source : List ℕ) (all : List Named) (p : Program) → length (program_words p) ≤ PROGRAM_BYTES → HasFew source all p
has_few source all p few =
    let g = globals_width p.globals (threads_then p.threads (AKeyword keyword.Main ∷ body_then p.main [])) in
    let t = threads_count source all p.threads (AKeyword keyword.Main ∷ body_then p.main []) in
    record {
      globals = omega (arith, g, few);
      threads = omega (arith, g, t, few);
      bodies = threads_fit source all p.threads (AKeyword keyword.Main ∷ body_then p.main []) PROGRAM_BYTES (omega (arith, g, few)) (omega arith);
      main = body_fits source all [] p.main [] PROGRAM_BYTES (omega (arith, g, t, few)) (omega arith);
    }
