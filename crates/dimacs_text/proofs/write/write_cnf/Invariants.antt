use Rattle.std.proofs.Common.{◌≡◌, ◌++◌, take}
use Rattle.std.specs.List.{flat_map}
use Rattle.std.specs.String.{string_bytes}
use Rattle.dimacs_text.specs.Texts.{clause_line, header}
use Rattle.dimacs_text.proofs.write.write_cnf.Given as goal

abbrev pub invariant-loop-place : goal.invariant-loop-place
invariant-loop-place l = string_bytes l.text ≡ header l.cnf ++ flat_map clause_line (take l.place l.cnf.clauses)
