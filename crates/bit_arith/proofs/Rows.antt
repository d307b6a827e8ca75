-- The rows of a product.
use Rattle.std.proofs.Common.{◌≡◌, ℕ, suc, ◌+◌, ◌*◌, ◌-◌, ◌<◌, ◌≤◌, List, ◌∷◌, ◌++◌, ℤ, neg_ℤ, ap, sym, ◌∙◌, arith, length, take, drop, get_or, append_assoc}
use borrow.Rule.Slice.PartMut.{put_mid, mid_of}
use Rattle.std.proofs.Common.{rules}
use Rattle.std.proofs.lemmas.Slice.{overwrites}
use Rattle.std.proofs.Math.Seq.{drop-cons, take-append-add, drop-append-add}
use Rattle.std.proofs.Math.Nat.{mul-add, mul-one}
use Rattle.std.proofs.lemmas.List.{length-take}
use Rattle.std.proofs.lemmas.List.Elements.{All-map, All-weaker}
use Rattle.cnf_core.specs.Clauses.{var_of, Formula}
use Rattle.bit_gates.specs.Folded.{IsLarger}
use Rattle.bit_gates.proofs.Blocks.{var_of-opposite}
use Rattle.bit_words.specs.Words.{AreWithin, Walked, inverted_word}
use Rattle.bit_arith.specs.Sums.{with_row, with_product}

pub within_inverted : (n : ℕ) (xs : List ℤ) → AreWithin n xs → AreWithin n (inverted_word xs)
within_inverted n xs h = All-map (λ l. var_of l ≤ n) neg_ℤ xs
    (All-weaker (λ l. var_of l ≤ n) (λ l. var_of (neg_ℤ l) ≤ n) (λ l k. let e : var_of (neg_ℤ l) ≡ var_of l = var_of-opposite l in omega (arith, e, k)) xs h)

-- the first `i` places of the product are done, and the rest is the product of the higher places
pub record IsMultiplied (all : Walked Formula) (i : ℕ) (f : Formula) (ws xs bs : List ℤ) : Type 0 where
  pub state : all.state ≡ (with_product f (drop i ws) xs (drop i bs)).state
  pub word : all.word ≡ take i ws ++ (with_product f (drop i ws) xs (drop i bs)).word

pub multiplied_more : (all : Walked Formula) (i : ℕ) (f g : Formula) (word next xs bs : List ℤ) (b : ℤ)
    → IsMultiplied all i f word xs bs → i < length word → i < length bs → b ≡ get_or bs i b → g ≡ (with_row f (drop i word) xs b).state
    → next ≡ take i word ++ (with_row f (drop i word) xs b).word → IsMultiplied all (i + 1) g next xs bs
multiplied_more all i f g word next xs bs b h p q eb eg en =
    let n : suc i ≡ i + 1 = omega arith in
    let split : drop i bs ≡ b ∷ drop (i + 1) bs = drop-cons bs i b q ∙ ap (λ k. k ∷ drop (suc i) bs) (sym eb) ∙ ap (λ k. b ∷ drop k bs) n in
    let row : Walked Formula = with_row f (drop i word) xs b in
    let made : Walked Formula = with_product row.state (drop 1 row.word) xs (drop (i + 1) bs) in
    let whole : with_product f (drop i word) xs (drop i bs) ≡ record { state = made.state; word = take 1 row.word ++ made.word } =
    ap (with_product f (drop i word) xs) split in
    let len : length (take i word) ≡ i = length-take i word ∙ omega (arith, p) in
    let low : take (i + 1) next ≡ take i word ++ take 1 row.word =
    ap (take (i + 1)) en ∙ ap (λ k. take (k + 1) (take i word ++ row.word)) (sym len) ∙ take-append-add (take i word) row.word 1 in
    let high : drop (i + 1) next ≡ drop 1 row.word =
    ap (drop (i + 1)) en ∙ ap (λ k. drop (k + 1) (take i word ++ row.word)) (sym len) ∙ drop-append-add (take i word) row.word 1 in
    let rest : with_product g (drop (i + 1) next) xs (drop (i + 1) bs) ≡ made =
    ap (λ k. with_product g k xs (drop (i + 1) bs)) high ∙ ap (λ k. with_product k (drop 1 row.word) xs (drop (i + 1) bs)) eg in
    record {
      state = h.state ∙ ap (λ (k : Walked _). k.state) whole ∙ ap (λ (k : Walked _). k.state) (sym rest);
      word = h.word ∙ ap (λ (k : Walked _). take i word ++ k.word) whole ∙ sym (append_assoc (take i word) (take 1 row.word) made.word)
          ∙ ap (λ k. k ++ made.word) (sym low) ∙ ap (λ (k : Walked _). take (i + 1) next ++ k.word) (sym rest);
    }

-- the list after a write to its end
pub end_written : (a : ℕ) (xs ys : List ℤ) → a ≤ length xs → length ys ≡ length xs - a → put_mid a (length xs - a) xs ys ≡ take a xs ++ ys
end_written a xs ys h e = search (rules, overwrites)

pub end_read : (a : ℕ) (xs : List ℤ) → mid_of a (length xs - a) xs ≡ drop a xs
end_read a xs = search (rules, overwrites)

pub larger_row : (w i m : ℕ) (f g h : Formula) → IsLarger (21 * (w * i)) f g → IsLarger (21 * m) g h → m ≤ w → IsLarger (21 * (w * (i + 1))) f h
larger_row w i m f g h p q r =
    let e : w * (i + 1) ≡ w * i + w = mul-add w i 1 ∙ ap (λ k. w * i + k) (mul-one w) in
    (omega (arith, p.0, q.0), omega (arith, p.1, q.1, r, e), omega (arith, p.2, q.2, r, e))
