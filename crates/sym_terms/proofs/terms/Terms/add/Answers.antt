use Rattle.std.proofs.Common.{◌≡◌, length, ap, sym, subst, ◌∙◌}
use Rattle.std.specs.List.{position_or_len, IsDistinct}
use Rattle.indexmap.specs.IndexSet.{insert_key}
use Rattle.sym_terms.specs.Terms.{NamesBelow, with_node, id_of}
use Rattle.sym_terms.proofs.Same.{eq_is_same}
use Rattle.sym_terms.proofs.Growth.{Earlier, earlier_with}
use Rattle.sym_terms.proofs.terms.Terms.add.Goals as goal

-- the set's nodes after the call
keys : (c : goal.After-at) → c.insert_full.new.self.keys ≡ with_node c.self.inside.nodes.keys c.args.node
keys c = c.in_ok-place.ensures.keys ∙ ap (λ e. insert_key e c.self.inside.nodes.keys c.args.node) eq_is_same

pub returns-clause-added : goal.returns-clause-added
returns-clause-added c = keys c ∙ ap (λ nodes. with_node nodes c.args.node) c.self.view_is

pub returns-clause-id : goal.returns-clause-id
returns-clause-id c =
    c.at.ensures ∙ c.in_ok-place.ensures.index
    ∙ ap (λ e. position_or_len (e c.args.node) c.self.inside.nodes.keys) eq_is_same
    ∙ ap (λ nodes. id_of nodes c.args.node) c.self.view_is

pub invariant_of-self-2 : goal.invariant_of-self-2
invariant_of-self-2 c =
    let names = subst (λ nodes. NamesBelow (length nodes) c.args.node) (sym c.self.view_is) c.requires in
    record {
      distinct = subst (λ e. IsDistinct e c.insert_full.new.self.keys) eq_is_same c.in_ok-place.ensures.unique;
      earlier = subst Earlier (sym (keys c)) (earlier_with c.self.inside.nodes.keys c.args.node names c.self.invariant.earlier);
    }
