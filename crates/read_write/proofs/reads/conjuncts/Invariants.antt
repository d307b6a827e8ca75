use Rattle.std.proofs.Common.{◌≡◌, [], List, fold, take}
use Rattle.std.specs.Prelude.{option_map}
use Rattle.std.specs.List.{filter_map, flat_map}
use Rattle.std.specs.Option.{option_map_or}
use Rattle.sym_terms.specs.Terms.{with_node}
use Rattle.sym_terms.specs.declared.node.Node.{Node}
use Rattle.sym_exec.specs.Making.{Grows}
use Rattle.read_write.specs.Reading.{conjunct_of, needs_of}
use Rattle.read_write.proofs.reads.conjuncts.Given as goal

abbrev pub invariant-loop-load : goal.invariant-loop-load
invariant-loop-load l = record {
  conjuncts : (later : List Node) → Grows l.terms later → l.conjuncts.items
      ≡ filter_map (λ a. option_map (conjunct_of l.code l.events l.accesses later a) a.it.takes) (take l.load-index l.accesses);
  made : l.terms
      ≡ fold with_node l.fn.terms (flat_map (λ a. option_map_or (needs_of l.code l.accesses l.fn.terms a) a.it.takes []) (take l.load-index l.accesses));
  grown : Grows l.fn.terms l.terms;
}
