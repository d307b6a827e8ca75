use Rattle.std.proofs.Common.{◌≡◌, List, fold, take}
use Rattle.std.specs.List.{filter_map}
use Rattle.sym_terms.specs.Terms.{with_node}
use Rattle.sym_terms.specs.declared.node.Node.{Node}
use Rattle.sym_exec.specs.Making.{Grows}
use Rattle.read_write.specs.Reading.{candidate_of, test_of}
use Rattle.read_write.proofs.reads.candidates.Given as goal

abbrev pub invariant-loop-access : goal.invariant-loop-access
invariant-loop-access l = record {
  candidates : (later : List Node) → Grows l.terms later → l.candidates.items
      ≡ filter_map (candidate_of l.events later l.load) (take l.access-index l.accesses);
  made : l.terms ≡ fold with_node l.fn.terms (filter_map (test_of l.fn.terms l.load) (take l.access-index l.accesses));
  grown : Grows l.fn.terms l.terms;
}
