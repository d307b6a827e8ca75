use Rattle.std.proofs.Common.{◌≡◌, ◌+◌, length, take}
use Rattle.bit_blast.specs.Reads.{sources_of}
use Rattle.bit_blast.specs.helpers.Within.{AreSourcesWithin}
use Rattle.bit_blast.proofs.reads.sources_of.Given as goal

abbrev pub invariant-loop-place : goal.invariant-loop-place
invariant-loop-place l = record {
  sources : l.sources.items ≡ sources_of l.words l.initial.circuit.vars (take l.place l.candidates) (take l.place l.seen);
  count : length l.sources.items ≡ l.place;
  vars : l.circuit.vars ≡ l.initial.circuit.vars + l.place;
  clauses : l.circuit.clauses ≡ l.initial.circuit.clauses;
  within : AreSourcesWithin l.circuit.vars l.sources.items;
}
