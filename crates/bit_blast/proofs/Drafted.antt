-- The clauses of an order, its terms and a formula, from what each step adds.
use Rattle.std.proofs.Common.{◌≡◌, ◌+◌, List, [], ◌∷◌, ◌++◌, ℤ, ap, ◌∙◌, arith, length, map}
use Rattle.std.proofs.lemmas.List.{length-append, length-map}
use Rattle.sym_terms.specs.declared.node.Node.{Node}
use Rattle.order_formula.specs.declared.formula.Conjunct.{Conjunct}
use Rattle.cnf_core.specs.Clauses.{Formula}
use Rattle.bit_ops.specs.bit_words.Words.{Walked}
use Rattle.bit_order.specs.Comparators.{ordered}
use Rattle.bit_order.specs.Layouts.{Layout}
use Rattle.bit_terms.specs.Terms.{Words, term_words}
use Rattle.bit_blast.specs.Drafts.{Draft, asserted, drafted}
use Rattle.bit_blast.specs.Layered.{parts_of}
use Rattle.bit_blast.specs.Roots.{roots}
use Rattle.bit_blast.specs.Sizes.{IsUpTo, body_size, draft_size, whole_size}
use Rattle.bit_blast.specs.Whole.{clauses_with_roots, clauses_with_terms, load_words}
use Rattle.bit_blast.proofs.Loops.{sum_with_one}

module _ (y : Layout) (nodes : List Node) (symbols : List (List ℤ)) (f : Formula) (loads : symbols ≡ load_words y) (order : f ≡ ordered y) where
  pub same_terms : term_words nodes symbols f ≡ clauses_with_terms y nodes
  same_terms = ap (λ s. term_words nodes s f) loads ∙ ap (λ g. term_words nodes (load_words y) g) order

  pub same_roots : (formula : List Conjunct) (words : List (List ℤ)) (g : Formula) → words ≡ (term_words nodes symbols f).words
      → g ≡ (term_words nodes symbols f).formula → roots (parts_of y words) g formula ≡ clauses_with_roots y nodes formula
  same_roots formula words g w t =
      let m : Words = clauses_with_terms y nodes in
      ap (λ ws. roots (parts_of y ws) g formula) (w ∙ ap (λ (k : Words). k.words) same_terms)
      ∙ ap (λ k. roots (parts_of y m.words) k formula) (t ∙ ap (λ (k : Words). k.formula) same_terms)

-- a draft of these parts is the draft of a formula
pub same_draft : (y z : Layout) (nodes : List Node) (formula : List Conjunct) (f : Formula) (words : List (List ℤ)) (roots : List ℤ) → z ≡ y
    → f ≡ (clauses_with_roots z nodes formula).state → words ≡ (clauses_with_terms z nodes).words → roots ≡ (clauses_with_roots z nodes formula).word
    → record { layout = z; clauses = f; words = words; roots = roots } ≡ drafted nodes formula y
same_draft y z nodes formula f words roots at a b c =
    ap (λ k. let d : Draft = record { layout = z; clauses = k; words = words; roots = roots } in d) a
    ∙ ap (λ k. let d : Draft = record { layout = z; clauses = (clauses_with_roots z nodes formula).state; words = k; roots = roots } in d) b
    ∙ ap
    (λ k. let d : Draft = record { layout = z; clauses = (clauses_with_roots z nodes formula).state; words = (clauses_with_terms z nodes).words; roots = k } in d)
    c ∙ ap (drafted nodes formula) at

-- a draft has room for the clauses of its roots
pub asserted_size : (y : Layout) (nodes : List Node) (formula : List Conjunct) (d : Draft) → IsUpTo (draft_size y nodes formula) d.clauses
    → length d.roots ≡ length formula → IsUpTo (whole_size y nodes formula) (asserted d).clauses
asserted_size y nodes formula d few count =
    let size = sum_with_one (λ (k : Conjunct). body_size k.body) formula in
    let units : List (List ℤ) = map (λ l. l ∷ []) d.roots in
    let long : length (d.clauses.clauses ++ units) ≡ length d.clauses.clauses + length d.roots =
    length-append d.clauses.clauses units ∙ ap (λ n. length d.clauses.clauses + n) (length-map d.roots (λ l. l ∷ [])) in
    (omega (arith, size, few.0), omega (arith, size, few.1, count, long))
