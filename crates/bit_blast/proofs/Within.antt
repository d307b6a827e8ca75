-- The variables of the literals of an order and its loads.
use Rattle.std.proofs.Common.{◌≡◌, ℕ, ◌+◌, ◌≤◌, List, [], ◌∷◌, ℤ, ◌∙◌, arith, length}
use Rattle.std.specs.Prelude.{fold}
use Rattle.std.specs.List.{All, range_with_len}
use Rattle.std.proofs.lemmas.List.{length_push}
use Rattle.std.proofs.lemmas.List.Elements.{All-map, All-weaker}
use Rattle.sym_terms.specs.declared.node.Node.{Node}
use Rattle.order_formula.specs.Orders.{IsOrder}
use Rattle.cnf_core.specs.Clauses.{var_of, Formula}
use Rattle.bit_gates.specs.Extended.{IsExtended}
use Rattle.bit_gates.specs.Laws.{IsOf}
use Rattle.bit_ops.specs.bit_words.Words.{AreWithin, Walked}
use Rattle.bit_order.specs.Comparators.{before_literal, ordered}
use Rattle.bit_order.specs.Laws.{LiteralsMean}
use Rattle.bit_order.specs.Layouts.{Layout, base, ends_literal, load_word}
use Rattle.bit_order.proofs.Meaning.{literals-mean}
use Rattle.bit_order.proofs.Three.{ordered-extended}
use Rattle.bit_terms.specs.Terms.{Words, node_word, term_words, with_word}
use Rattle.bit_blast.specs.Drafts.{Draft, DraftIsWithin}
use Rattle.bit_blast.specs.Layered.{parts_of}
use Rattle.bit_blast.specs.Whole.{load_words}
use Rattle.bit_blast.specs.helpers.Within.{ArePartsWithin}
use Rattle.bit_blast.proofs.WholeLaws.{all_range}

-- there is a word for each term
words_from : (symbols : List (List ℤ)) (all : List Node) (m : Words) (nodes : List Node)
    → length (fold (with_word symbols all) m nodes).words ≡ length m.words + length nodes
words_from symbols all m [] = omega arith
words_from symbols all m (node ∷ nodes) =
    let here : Walked Formula = node_word symbols all m node in
    let one : length (with_word symbols all m node).words ≡ length m.words + 1 = length_push m.words here.word in
    omega (arith, words_from symbols all (with_word symbols all m node) nodes, one)

pub words_count : (nodes : List Node) (symbols : List (List ℤ)) (f : Formula) → length (term_words nodes symbols f).words ≡ length nodes
words_count nodes symbols f = words_from symbols nodes (record { formula = f; words = [] }) nodes ∙ omega arith

module _ (y : Layout) (lawful : IsOrder y.order) where
  literals : LiteralsMean y
  literals = literals-mean y lawful

  order : IsExtended (base y) (ordered y)
  order = ordered-extended y lawful

  pub base_within : (base y).vars ≤ (ordered y).vars
  base_within = order.more

  pub loads_within : All (AreWithin (ordered y).vars) (load_words y)
  loads_within =
      let n : ℕ = (ordered y).vars in
      All-map (AreWithin n) (load_word y) (range_with_len 0 y.loads)
      (all_range (λ k. AreWithin n (load_word y k)) 0 y.loads
      (λ k below. All-weaker (IsOf n) (λ l. var_of l ≤ n) (λ l o. o.1) (load_word y k) (literals.load_there k (omega (arith, below)))))

  pub parts_within : (n : ℕ) (words : List (List ℤ)) → (ordered y).vars ≤ n → All (AreWithin n) words → ArePartsWithin n (parts_of y words)
  parts_within n words more all = record {
    before = λ first second. let o : IsOf (ordered y).vars (before_literal y first second) = literals.before_there first second in omega (arith, o.1, more);
    ends = λ sleep by. let o : IsOf (ordered y).vars (ends_literal y sleep by) = literals.ends_there sleep by in omega (arith, o.1, more);
    words = all;
  }

pub draft_within : (d : Draft) → IsOrder d.layout.order → d.layout.order.events ≤ 256 → (ordered d.layout).vars ≤ d.clauses.vars
    → All (AreWithin d.clauses.vars) d.words → AreWithin d.clauses.vars d.roots → DraftIsWithin d
draft_within d lawful events more words roots =
    let y : Layout = d.layout in
    let n : ℕ = d.clauses.vars in
    let parts = parts_within y lawful n d.words more words in
    record {
      events = events;
      variables = omega (arith, base_within y lawful, more);
      before = parts.before;
      loads = All-weaker (AreWithin (ordered y).vars) (AreWithin n)
          (λ ls k. All-weaker (λ l. var_of l ≤ (ordered y).vars) (λ l. var_of l ≤ n) (λ l below. omega (arith, below, more)) ls k)
          (load_words y) (loads_within y lawful);
      words = words;
      roots = roots;
    }
