use Rattle.std.proofs.Common.{◌≡◌, ◌++◌, take}
use Rattle.std.specs.List.{flat_map}
use Rattle.std.specs.String.{string_bytes}
use Rattle.dimacs_text.specs.Texts.{literal_text}
use Rattle.dimacs_text.proofs.write.write_clause.Given as goal

abbrev pub invariant-loop-lit : goal.invariant-loop-lit
invariant-loop-lit l = string_bytes l.text ≡ string_bytes l.initial.text ++ flat_map literal_text (take l.lit-index l.clause)
