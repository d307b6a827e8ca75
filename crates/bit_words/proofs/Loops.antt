-- Loops that go over two words from the lowest place on.
use Rattle.std.proofs.Common.{◌≡◌, ℕ, suc, ◌+◌, ◌<◌, ◌≤◌, List, [], ◌∷◌, ◌++◌, ℤ, neg_ℤ, ap, sym, ◌∙◌, arith, length, take, drop, set, get_or, replicate, append_assoc}
use Rattle.std.proofs.Math.Seq.{drop-cons}
use Rattle.std.proofs.lemmas.Grind.{common_steps}
use Rattle.std.proofs.lemmas.List.{take_more_set, drop-set-lt, drop_all}
use Rattle.std.proofs.lemmas.List.Elements.{All-weaker, All-set}
use Rattle.cnf_core.specs.Clauses.{var_of, Formula}
use Rattle.bit_gates.specs.Folded.{Made, kept, IsLarger}
use Rattle.bit_words.specs.Words.{AreWithin, Placed, Walked, along, compared_place, less_literal, inverted_word}

-- the result of the first `i` places together with that of the rest is the result of all
pub record IsReached {S : Type 0} (step : S → ℤ → ℤ → Placed S) (all : Walked S) (i : ℕ) (s : S) (xs ys : List ℤ) : Type 0 where
  pub state : all.state ≡ (along step s (drop i xs) (drop i ys)).state
  pub word : all.word ≡ take i xs ++ (along step s (drop i xs) (drop i ys)).word

-- an element, and those before and after it
pub split_here : (xs : List ℤ) (i : ℕ) (x : ℤ) → i < length xs → x ≡ get_or xs i x → drop i xs ≡ x ∷ drop (i + 1) xs
split_here xs i x p e = let n : suc i ≡ i + 1 = omega arith in drop-cons xs i x p ∙ ap (λ k. k ∷ drop (suc i) xs) (sym e) ∙ ap (λ k. x ∷ drop k xs) n

pub join_here : (xs zs : List ℤ) (i : ℕ) (l : ℤ) → i < length xs → take i xs ++ (l ∷ zs) ≡ take (i + 1) (set xs i l) ++ zs
join_here xs zs i l p = sym (append_assoc (take i xs) (l ∷ []) zs) ∙ ap (λ k. k ++ zs) (sym (take_more_set xs i l p))

pub drop_here : (xs : List ℤ) (i : ℕ) (l : ℤ) → drop (i + 1) (set xs i l) ≡ drop (i + 1) xs
drop_here xs i l = drop-set-lt (i + 1) xs i l (omega arith)

pub reached_more : {S : Type 0} (step : S → ℤ → ℤ → Placed S) (all : Walked S) (i : ℕ) (s t : S) (xs ys : List ℤ) (x y l : ℤ)
    → IsReached step all i s xs ys → i < length xs → i < length ys → x ≡ get_or xs i x → y ≡ get_or ys i y → t ≡ (step s x y).state
    → l ≡ (step s x y).literal → IsReached step all (i + 1) t (set xs i l) ys
reached_more step all i s t xs ys x y l h p q ex ey e f =
    let here : Placed _ = step s x y in
    let rest : Walked _ = along step here.state (drop (i + 1) xs) (drop (i + 1) ys) in
    let whole : along step s (drop i xs) (drop i ys) ≡ record { state = rest.state; word = here.literal ∷ rest.word } =
    ap (λ k. along step s k (drop i ys)) (split_here xs i x p ex) ∙ ap (along step s (x ∷ drop (i + 1) xs)) (split_here ys i y q ey) in
    let next : along step t (drop (i + 1) (set xs i l)) (drop (i + 1) ys) ≡ rest =
    ap (λ k. along step t k (drop (i + 1) ys)) (drop_here xs i l) ∙ ap (λ k. along step k (drop (i + 1) xs) (drop (i + 1) ys)) e in
    record {
      state = h.state ∙ ap (λ (k : Walked _). k.state) whole ∙ ap (λ (k : Walked _). k.state) (sym next);
      word = h.word ∙ ap (λ (k : Walked _). take i xs ++ k.word) whole ∙ ap (λ k. take i xs ++ (k ∷ rest.word)) (sym f) ∙ join_here xs rest.word i l p
          ∙ ap (λ (k : Walked _). take (i + 1) (set xs i l) ++ k.word) (sym next);
    }

pub compared_more : (all : Made) (f g : Formula) (low next x y : ℤ) (xs ys : List ℤ) (i : ℕ) → all ≡ less_literal (kept f low) (drop i xs) (drop i ys)
    → i < length xs → i < length ys → x ≡ get_or xs i x → y ≡ get_or ys i y → g ≡ (compared_place (kept f low) x y).formula
    → next ≡ (compared_place (kept f low) x y).literal → all ≡ less_literal (kept g next) (drop (i + 1) xs) (drop (i + 1) ys)
compared_more all f g low next x y xs ys i h p q ex ey eg en =
    h ∙ ap (λ k. less_literal (kept f low) k (drop i ys)) (split_here xs i x p ex)
    ∙ ap (less_literal (kept f low) (x ∷ drop (i + 1) xs)) (split_here ys i y q ey)
    ∙ ap (λ k. less_literal (kept k (compared_place (kept f low) x y).literal) (drop (i + 1) xs) (drop (i + 1) ys)) (sym eg)
    ∙ ap (λ k. less_literal (kept g k) (drop (i + 1) xs) (drop (i + 1) ys)) (sym en)

pub inverted_more : (all xs : List ℤ) (i : ℕ) (x : ℤ) → all ≡ take i xs ++ inverted_word (drop i xs) → i < length xs → x ≡ get_or xs i x
    → all ≡ take (i + 1) (set xs i (neg_ℤ x)) ++ inverted_word (drop (i + 1) (set xs i (neg_ℤ x)))
inverted_more all xs i x h p ex =
    h ∙ ap (λ k. take i xs ++ inverted_word k) (split_here xs i x p ex) ∙ join_here xs (inverted_word (drop (i + 1) xs)) i (neg_ℤ x) p
    ∙ ap (λ k. take (i + 1) (set xs i (neg_ℤ x)) ++ inverted_word k) (sym (drop_here xs i (neg_ℤ x)))

pub inverted_all : (all xs : List ℤ) (i : ℕ) → all ≡ take i xs ++ inverted_word (drop i xs) → length xs ≤ i → all ≡ xs
inverted_all all xs i h p = h ∙ ap (λ k. take i xs ++ inverted_word k) (drop_all i xs p) ∙ grind (arith, common_steps)

-- literals of a formula's variables stay so as it grows
pub within_more : (n m : ℕ) (xs : List ℤ) → n ≤ m → AreWithin n xs → AreWithin m xs
within_more n m xs h a = All-weaker (λ l. var_of l ≤ n) (λ l. var_of l ≤ m) (λ l k. omega arith) xs a

pub within_set : (n m : ℕ) (xs : List ℤ) (i : ℕ) (l : ℤ) → n ≤ m → AreWithin n xs → var_of l ≤ m → AreWithin m (set xs i l)
within_set n m xs i l h a k = All-set (λ x. var_of x ≤ m) xs i l k (within_more n m xs h a)

pub kept_same : (m : Made) (f : Formula) (l : ℤ) → f ≡ m.formula → l ≡ m.literal → kept f l ≡ m
kept_same m f l p q = ap (λ k. kept k l) p ∙ ap (kept m.formula) q

-- a formula that grew twice
pub larger_more : (m n k : ℕ) (f g h : Formula) → IsLarger m f g → IsLarger n g h → k ≡ m + n → IsLarger k f h
larger_more m n k f g h a b e = (omega (arith, a.0, b.0), omega (arith, a.1, b.1), omega (arith, a.2, b.2))

pub replicate_at : (n i : ℕ) (x : ℤ) → i < n → x ≡ get_or (replicate n x) i x
replicate_at n i x h = grind (arith, common_steps)
