use Rattle.std.proofs.Common.{◌≡◌, ◌<◌, ◌+◌, ℕ, List, ℤ, ap, sym, ◌∙◌, subst, rules, length, take}
use Rattle.std.specs.List.{All}
use Rattle.std.proofs.lemmas.List.{length_push}
use Rattle.std.proofs.lemmas.List.Elements.{All-push}
use Rattle.std.proofs.lemmas.List.Sums.{sum_by_more}
use Rattle.cnf_core.specs.Clauses.{Formula}
use Rattle.bit_words.specs.Words.{AreWithin}
use Rattle.bit_words.proofs.Loops.{larger_more}
use Rattle.bit_terms.specs.Sizes.{node_size, terms_size}
use Rattle.bit_terms.specs.Terms.{Words, node_word}
use Rattle.bit_terms.proofs.Loops.{first_words, next_words, formula_next, words_next, words_more}
use Rattle.bit_terms.proofs.term_words.Goals as goal

pub loop-node-preserved : goal.loop-node-preserved
loop-node-preserved c =
    let nodes = c.nodes-node-items.result.now in
    let i : ℕ = c.loop-node.node-index in
    let symbols : List (List ℤ) = c.args.symbols.now in
    let f : Formula = c.args.circuit.now in
    let g : Formula = c.loop-node.circuit in
    let h : Formula = c.node_word.new.circuit in
    let known : List (List ℤ) = c.loop-node.words.items in
    let word : List ℤ = c.in_ok-word.word in
    let node = c.node-item.result in
    let was = c.loop-node.invariant in
    let m : Words = first_words nodes symbols f i in
    let all : Words = first_words nodes symbols f (i + 1) in
    let within : i < length nodes = search rules in
    let next = next_words nodes symbols f i node within c.node-item.is in
    let so_far : List (List ℤ) → Words = λ ws. record { formula = g; words = ws } in
    let same : c.nodes.result.now ≡ nodes = c.nodes.ensures.nodes ∙ sym c.nodes-node-items.ensures.nodes in
    let here : List (List ℤ) = c.as_slice.result.now in
    let made = c.in_ok-word.ensures.formula ∙ ap (λ ns. (node_word symbols ns (so_far here) node).state) same
    ∙ ap (λ ws. (node_word symbols nodes (so_far ws) node).state) c.as_slice.ensures.value in
    let of = c.in_ok-word.ensures.word ∙ ap (λ ns. (node_word symbols ns (so_far here) node).word) same
    ∙ ap (λ ws. (node_word symbols nodes (so_far ws) node).word) c.as_slice.ensures.value in
    let more = c.in_ok-push.ensures.items in
    let more_size : terms_size (take (i + 1) nodes) ≡ terms_size (take i nodes) + node_size node =
    sum_by_more node_size nodes i node within ∙ ap (λ n. terms_size (take i nodes) + node_size n) (sym c.node-item.is) in
    record {
      formula = formula_next symbols nodes node m all next g h known c.push.new.self.items word was.formula was.words made of more;
      words = words_next symbols nodes node m all next g h known c.push.new.self.items word was.formula was.words made of more;
      count = ap length more ∙ length_push known word ∙ ap (λ n. n + 1) was.count;
      within = subst (All (AreWithin h.vars)) (sym more)
          (All-push (AreWithin h.vars) known word (words_more g.vars h.vars known c.in_ok-word.ensures.larger.0 was.within) c.in_ok-word.ensures.within);
      larger = larger_more (terms_size (take i nodes)) (node_size node) (terms_size (take (i + 1) nodes)) f g h was.larger c.in_ok-word.ensures.larger more_size;
    }
