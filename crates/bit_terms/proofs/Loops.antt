-- Words, made one after another.
use Rattle.std.proofs.Common.{◌≡◌, ℕ, suc, zero, ◌+◌, ◌<◌, ◌≤◌, List, [], ◌∷◌, ◌++◌, ℤ, ap, sym, ◌∙◌, arith, false, length, get_or, take}
use Rattle.std.specs.Prelude.{fold}
use Rattle.std.specs.List.{All}
use Rattle.std.proofs.lemmas.List.Elements.{All-head, All-replicate, All-tail, All-weaker}
use Rattle.std.proofs.lemmas.List.Sums.{fold_more}
use Rattle.sym_terms.specs.declared.node.Node.{Node}
use Rattle.cnf_core.specs.Clauses.{var_of, Formula}
use Rattle.bit_gates.specs.Folded.{constant}
use Rattle.bit_gates.specs.Laws.{IsOf}
use Rattle.bit_words.specs.Words.{AreWithin}
use Rattle.bit_words.proofs.Loops.{within_more}
use Rattle.bit_terms.specs.Terms.{constant_word, word_at, node_word, Words, with_word}
use Rattle.bit_terms.proofs.Meaning.{constant_operand}

pub constant_within : (f : Formula) (z : ℤ) → 0 < f.vars → AreWithin f.vars (constant_word z)
constant_within f z one = All-weaker (IsOf f.vars) (λ l. var_of l ≤ f.vars) (λ l o. o.1) (constant_word z) (constant_operand f z one).literals

pub at_within : (n : ℕ) (words : List (List ℤ)) (place : ℕ) → 0 < n → All (AreWithin n) words → AreWithin n (word_at words place)
at_within n [] place one h = All-replicate (λ l. var_of l ≤ n) 32 (constant false) (omega (arith, one))
at_within n (x ∷ xs) zero one h = All-head (AreWithin n) x xs h
at_within n (x ∷ xs) (suc place) one h = at_within n xs place one (All-tail (AreWithin n) x xs h)

pub words_more : (n m : ℕ) (words : List (List ℤ)) → n ≤ m → All (AreWithin n) words → All (AreWithin m) words
words_more n m words h a = All-weaker (AreWithin n) (AreWithin m) (λ xs k. within_more n m xs h k) words a

-- the words of the first `i` nodes
abbrev pub first_words : List Node → List (List ℤ) → Formula → ℕ → Words
first_words nodes symbols f i = fold (with_word symbols nodes) (record { formula = f; words = [] }) (take i nodes)

-- the words of the first nodes and the next one
pub next_words : (nodes : List Node) (symbols : List (List ℤ)) (f : Formula) (i : ℕ) (node : Node) → i < length nodes → node ≡ get_or nodes i node
    → first_words nodes symbols f (i + 1) ≡ with_word symbols nodes (first_words nodes symbols f i) node
next_words nodes symbols f i node within is =
    fold_more (with_word symbols nodes) (record { formula = f; words = [] }) nodes i node within
    ∙ ap (with_word symbols nodes (first_words nodes symbols f i)) (sym is)

whole : (m : Words) (g : Formula) (known : List (List ℤ)) → g ≡ m.formula → known ≡ m.words → (let n : Words = record { formula = g; words = known } in n) ≡ m
whole m g known p q = ap (λ f. let n : Words = record { formula = f; words = known } in n) p ∙ ap (λ ws. let n : Words = record { formula = m.formula; words = ws } in n) q

-- the word of a node, given a formula and the words so far
module _ (symbols : List (List ℤ)) (nodes : List Node) (node : Node) (m all : Words) (is : all ≡ with_word symbols nodes m node) (g h : Formula)
    (known new : List (List ℤ)) (word : List ℤ) (formula : g ≡ m.formula) (words : known ≡ m.words)
    (made : h ≡ (node_word symbols nodes (record { formula = g; words = known }) node).state)
    (of : word ≡ (node_word symbols nodes (record { formula = g; words = known }) node).word) (more : new ≡ known ++ word ∷ [])
  where
    pub formula_next : h ≡ all.formula
    formula_next = made ∙ ap (λ (k : Words). (with_word symbols nodes k node).formula) (whole m g known formula words) ∙ ap (λ (k : Words). k.formula) (sym is)

    pub words_next : new ≡ all.words
    words_next =
        more ∙ ap (λ w. known ++ w ∷ []) of ∙ ap (λ (k : Words). (with_word symbols nodes k node).words) (whole m g known formula words)
        ∙ ap (λ (k : Words). k.words) (sym is)
