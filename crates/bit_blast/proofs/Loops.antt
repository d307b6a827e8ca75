-- Literals and clauses, made one after another.
use Rattle.std.proofs.Common.{◌≡◌, ℕ, suc, zero, ◌+◌, ◌<◌, ◌≤◌, List, [], ◌∷◌, ◌++◌, ℤ, pos, neg_ℤ, refl, ap, sym, ◌∙◌, subst, arith, length, map, get_or, take, append_assoc}
use Rattle.std.specs.Prelude.{sum_by}
use Rattle.std.specs.List.{flat_map}
use Rattle.std.proofs.lemmas.List.{append-nil, get_or_default}
use Rattle.std.proofs.lemmas.List.Elements.{All-weaker}
use Rattle.std.proofs.lemmas.List.Sums.{sum_by-cons}
use Rattle.std.proofs.lemmas.Grind.{flat_map-append}
use Rattle.order_formula.specs.declared.read.Candidate.{Candidate}
use Rattle.cnf_core.specs.Clauses.{Formula}
use Rattle.bit_order.specs.Clauses.{folded_clause, with_clause}
use Rattle.bit_ops.proofs.bit_words.Loops.{within_more}
use Rattle.bit_terms.specs.Terms.{word_at}
use Rattle.bit_ops.specs.bit_arith.Sums.{zeros}
use Rattle.bit_blast.specs.Reads.{Source, last_clauses, none_clauses, read_clauses, sources_of, value_clauses, with_clauses}
use Rattle.bit_blast.specs.helpers.Within.{IsSourceWithin, AreSourcesWithin}

pub sources_more : (n m : ℕ) (sources : List Source) → n ≤ m → AreSourcesWithin n sources → AreSourcesWithin m sources
sources_more n m sources h a =
    All-weaker (IsSourceWithin n) (IsSourceWithin m)
    (λ s k. record { seen = omega (arith, h, k.seen); taken = omega (arith, h, k.taken); value = within_more n m s.value h k.value }) sources a

-- clauses, and more
pub with_both : (f : Formula) (xs ys : List (List ℤ)) → with_clauses (with_clauses f xs) ys ≡ with_clauses f (xs ++ ys)
with_both f xs ys =
    let e : (f.clauses ++ flat_map folded_clause xs) ++ flat_map folded_clause ys ≡ f.clauses ++ flat_map folded_clause (xs ++ ys) =
    append_assoc f.clauses (flat_map folded_clause xs) (flat_map folded_clause ys)
    ∙ ap (λ k. f.clauses ++ k) (sym (flat_map-append folded_clause xs ys)) in
    ap (λ cs. let g : Formula = record { vars = f.vars; clauses = cs } in g) e

pub with_one : (f : Formula) (ls : List ℤ) → with_clause f ls ≡ with_clauses f (ls ∷ [])
with_one f ls = ap (λ cs. let g : Formula = record { vars = f.vars; clauses = f.clauses ++ cs } in g) (sym (append-nil (folded_clause ls)))

pub next_clauses : (f g h : Formula) (lists next more : List (List ℤ)) → g ≡ with_clauses f lists → h ≡ with_clauses g more → next ≡ lists ++ more
    → h ≡ with_clauses f next
next_clauses f g h lists next more known step is = step ∙ ap (λ k. with_clauses k more) known ∙ with_both f lists more ∙ ap (with_clauses f) (sym is)

pub next_clause : (f g h : Formula) (lists next : List (List ℤ)) (ls : List ℤ) → g ≡ with_clauses f lists → h ≡ with_clause g ls → next ≡ lists ++ ls ∷ []
    → h ≡ with_clauses f next
next_clause f g h lists next ls known step is = next_clauses f g h lists next (ls ∷ []) known (step ∙ with_one g ls) is

-- the clauses of two words, with one more place
abbrev pub place_clauses : (holds taken a b : ℤ) → List (List ℤ)
place_clauses holds taken a b = (neg_ℤ holds ∷ neg_ℤ taken ∷ neg_ℤ a ∷ b ∷ []) ∷ (neg_ℤ holds ∷ neg_ℤ taken ∷ a ∷ neg_ℤ b ∷ []) ∷ []

value_more : (holds taken : ℤ) (xs ys : List ℤ) (i : ℕ) (a b : ℤ) → i < length xs → i < length ys → a ≡ get_or xs i a → b ≡ get_or ys i b
    → value_clauses holds taken (take (suc i) xs) (take (suc i) ys)
    ≡ value_clauses holds taken (take i xs) (take i ys) ++ place_clauses holds taken a b
value_more holds taken [] ys i a b p q is same = absurd (omega (arith, p))
value_more holds taken (x ∷ xs) [] i a b p q is same = absurd (omega (arith, q))
value_more holds taken (x ∷ xs) (y ∷ ys) zero a b p q is same =
    ap (λ k. place_clauses holds taken k y) (sym is) ∙ ap (λ k. place_clauses holds taken a k) (sym same)
value_more holds taken (x ∷ xs) (y ∷ ys) (suc i) a b p q is same =
    ap (λ k. place_clauses holds taken x y ++ k) (value_more holds taken xs ys i a b (omega (arith, p)) (omega (arith, q)) is same)

pub value_next : (holds taken : ℤ) (xs ys : List ℤ) (i : ℕ) (a b : ℤ) → i < length xs → i < length ys → a ≡ get_or xs i a → b ≡ get_or ys i b
    → value_clauses holds taken (take (i + 1) xs) (take (i + 1) ys)
    ≡ value_clauses holds taken (take i xs) (take i ys) ++ place_clauses holds taken a b
value_next holds taken xs ys i a b p q is same =
    let n : suc i ≡ i + 1 = omega arith in
    subst (λ k. value_clauses holds taken (take k xs) (take k ys) ≡ value_clauses holds taken (take i xs) (take i ys) ++ place_clauses holds taken a b) n
    (value_more holds taken xs ys i a b p q is same)

-- the sources of candidates, with one more candidate
abbrev pub source_of : (words : List (List ℤ)) → ℕ → Candidate → (seen : ℤ) → Source
source_of words n c l = record { event = c.event; seen = l; taken = pos (n + 1); value = word_at words c.value }

sources_and : (words : List (List ℤ)) (n : ℕ) (cs : List Candidate) (ls : List ℤ) (i : ℕ) (c : Candidate) (l : ℤ) → i < length cs → i < length ls
    → c ≡ get_or cs i c → l ≡ get_or ls i l
    → sources_of words n (take (suc i) cs) (take (suc i) ls) ≡ sources_of words n (take i cs) (take i ls) ++ source_of words (n + i) c l ∷ []
sources_and words n [] ls i c l p q is same = absurd (omega (arith, p))
sources_and words n (d ∷ cs) [] i c l p q is same = absurd (omega (arith, q))
sources_and words n (d ∷ cs) (k ∷ ls) zero c l p q is same =
    let none : n ≡ n + 0 = omega arith in
    ap (λ e. source_of words n e k ∷ []) (sym is) ∙ ap (λ e. source_of words n c e ∷ []) (sym same) ∙ ap (λ e. source_of words e c l ∷ []) none
sources_and words n (d ∷ cs) (k ∷ ls) (suc i) c l p q is same =
    let moved : (n + 1) + i ≡ n + suc i = omega arith in
    ap (λ e. source_of words n d k ∷ e)
    (sources_and words (n + 1) cs ls i c l (omega (arith, p)) (omega (arith, q)) is same
    ∙ ap (λ e. sources_of words (n + 1) (take i cs) (take i ls) ++ source_of words e c l ∷ []) moved)

pub sources_next : (words : List (List ℤ)) (n : ℕ) (cs : List Candidate) (ls : List ℤ) (i : ℕ) (c : Candidate) (l : ℤ) → i < length cs → i < length ls
    → c ≡ get_or cs i c → l ≡ get_or ls i l
    → sources_of words n (take (i + 1) cs) (take (i + 1) ls) ≡ sources_of words n (take i cs) (take i ls) ++ source_of words (n + i) c l ∷ []
sources_next words n cs ls i c l p q is same =
    let e : suc i ≡ i + 1 = omega arith in
    subst (λ k. sources_of words n (take k cs) (take k ls) ≡ sources_of words n (take i cs) (take i ls) ++ source_of words (n + i) c l ∷ []) e
    (sources_and words n cs ls i c l p q is same)

-- a word that is read at its place is `word_at` that place
pub word_is : (words : List (List ℤ)) (place : ℕ) (word : List ℤ) → place < length words → word ≡ get_or words place word → word ≡ word_at words place
word_is words place word within is = is ∙ get_or_default words place word (zeros 32) within

-- the formula with these variables and clauses
pub formula_of : (f : Formula) (n : ℕ) (cs : List (List ℤ)) → f.vars ≡ n → f.clauses ≡ cs → f ≡ record { vars = n; clauses = cs }
formula_of f n cs p q =
    ap (λ k. let g : Formula = record { vars = k; clauses = f.clauses } in g) p ∙ ap (λ k. let g : Formula = record { vars = n; clauses = k } in g) q

-- all clauses of a read, one kind after another
pub whole_read : (wide w a b c d : Formula) (before : ℕ → ℕ → ℤ) (holds start : ℤ) (takes first : List ℤ) (sources : List Source) → w ≡ wide
    → a ≡ with_clauses w ((start ∷ map (λ (s : Source). s.taken) sources) ∷ []) → b ≡ with_clauses a (none_clauses start sources)
    → c ≡ with_clauses b (value_clauses holds start takes first)
    → d ≡ with_clauses c (flat_map (λ (s : Source). last_clauses before sources s ++ value_clauses holds s.taken takes s.value) sources)
    → d ≡ with_clauses wide (read_clauses before holds start takes first sources)
whole_read wide w a b c d before holds start takes first sources base one two three four =
    let some : List (List ℤ) = (start ∷ map (λ (s : Source). s.taken) sources) ∷ [] in
    let none : List (List ℤ) = none_clauses start sources in
    let value : List (List ℤ) = value_clauses holds start takes first in
    let each : List (List ℤ) = flat_map (λ (s : Source). last_clauses before sources s ++ value_clauses holds s.taken takes s.value) sources in
    next_clauses wide c d (some ++ none ++ value) (read_clauses before holds start takes first sources) each
    (next_clauses wide b c (some ++ none) (some ++ none ++ value) value
    (next_clauses wide a b some (some ++ none) none (one ∙ ap (λ k. with_clauses k some) base) two refl) three refl) four refl

-- equal literals, words and writes give equal clauses
pub same_read : (wide : Formula) (before : ℕ → ℕ → ℤ) (holds start : ℤ) (takes first : List ℤ) (sources : List Source) (h s : ℤ) (t f : List ℤ) (xs : List Source)
    → holds ≡ h → start ≡ s → takes ≡ t → first ≡ f → sources ≡ xs
    → with_clauses wide (read_clauses before holds start takes first sources) ≡ with_clauses wide (read_clauses before h s t f xs)
same_read wide before holds start takes first sources h s t f xs p q u v w =
    ap (λ k. with_clauses wide (read_clauses before k start takes first sources)) p
    ∙ ap (λ k. with_clauses wide (read_clauses before h k takes first sources)) q
    ∙ ap (λ k. with_clauses wide (read_clauses before h s k first sources)) u
    ∙ ap (λ k. with_clauses wide (read_clauses before h s t k sources)) v
    ∙ ap (λ k. with_clauses wide (read_clauses before h s t f k)) w

-- sums of sizes
pub sum_with_one : {X : Type 0} (f : X → ℕ) (xs : List X) → sum_by (λ x. f x + 1) xs ≡ sum_by f xs + length xs
sum_with_one f [] = omega arith
sum_with_one f (x ∷ xs) =
    let a : sum_by (λ y. f y + 1) (x ∷ xs) ≡ (f x + 1) + sum_by (λ y. f y + 1) xs = sum_by-cons (λ y. f y + 1) x xs in
    let b : sum_by f (x ∷ xs) ≡ f x + sum_by f xs = sum_by-cons f x xs in
    omega (arith, a, b, sum_with_one f xs)
