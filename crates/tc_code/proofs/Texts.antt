-- Texts of lists.
use Rattle.std.proofs.Common.{◌≡◌, ℕ, zero, suc, ◌+◌, ◌<◌, ◌≤◌, List, [], ◌∷◌, ◌++◌, length, map, take, refl, ap, sym, ◌∙◌, arith, slice_index_or}
use Rattle.std.proofs.lemmas.List.{append-nil, append_assoc, take_all}
use Rattle.std.specs.Prelude.{codes, zip, flat_map}
use Rattle.std.specs.List.{enumerate_from}
use Rattle.tc_code.specs.Listing.{spaced, row_text, instrs_text}
use Rattle.tc_code.specs.declared.code.Func.{Func}
use Rattle.tc_code.specs.declared.instr.Instr.{Instr}

-- the parts after the first, each after a blank
pub spaced_after : {X : Type 0} (f : X → List ℕ) (w : List ℕ) (xs : List X) → spaced (w ∷ map f xs) ≡ w ++ flat_map (λ x. codes " " ++ f x) xs
spaced_after f w [] = sym (append-nil w)
spaced_after f w (x ∷ xs) = ap (λ t. w ++ (codes " " ++ t)) (spaced_after f (f x) xs)

-- the rows of instructions, numbered from n
abbrev pub rows : ℕ → List ℕ → List Instr → List ℕ
rows n lines is = flat_map (λ r. row_text r.0 r.1.0 r.1.1) (enumerate_from n (zip lines is))

no_rows : (n : ℕ) (lines : List ℕ) → rows n lines [] ≡ []
no_rows n [] = refl
no_rows n (line ∷ lines) = refl

rows_more : (n : ℕ) (lines : List ℕ) (is : List Instr) (k : ℕ) (d : Instr) → k < length lines → k < length is
    → rows n lines (take (suc k) is) ≡ rows n lines (take k is) ++ row_text (n + k) (slice_index_or lines k 0) (slice_index_or is k d)
rows_more n [] is k d lined within = absurd (omega (arith, lined))
rows_more n (line ∷ lines) [] k d lined within = absurd (omega (arith, within))
rows_more n (line ∷ lines) (i ∷ is) zero d lined within =
    let same : n ≡ n + 0 = omega arith in
    ap (λ t. row_text n line i ++ t) (no_rows (n + 1) lines)
    ∙ append-nil (row_text n line i)
    ∙ ap (λ m. row_text m line i) same
rows_more n (line ∷ lines) (i ∷ is) (suc k) d lined within =
    let same : (n + 1) + k ≡ n + suc k = omega arith in
    let row : ℕ → List ℕ = λ m. row_text m (slice_index_or lines k 0) (slice_index_or is k d) in
    ap (λ t. row_text n line i ++ t)
    (rows_more (n + 1) lines is k d (omega (arith, lined)) (omega (arith, within)) ∙ ap (λ m. rows (n + 1) lines (take k is) ++ row m) same)
    ∙ sym (append_assoc (row_text n line i) (rows (n + 1) lines (take k is)) (row (n + suc k)))

-- the text before any row
pub row_none : (start : List ℕ) (lines : List ℕ) (is : List Instr) → start ≡ start ++ rows 0 lines (take 0 is)
row_none start lines is = sym (append-nil start) ∙ ap (λ t. start ++ t) (sym (no_rows 0 lines))

-- the text with one more row
pub row_added : (start out : List ℕ) (lines : List ℕ) (is : List Instr) (k : ℕ) (d : Instr) → k < length lines → k < length is
    → out ≡ start ++ rows 0 lines (take k is)
    → out ++ row_text k (slice_index_or lines k 0) (slice_index_or is k d) ≡ start ++ rows 0 lines (take (k + 1) is)
row_added start out lines is k d lined within so_far =
    let row = row_text k (slice_index_or lines k 0) (slice_index_or is k d) in
    let next : suc k ≡ k + 1 = omega arith in
    let same : k ≡ 0 + k = omega arith in
    ap (λ t. t ++ row) so_far
    ∙ append_assoc start (rows 0 lines (take k is)) row
    ∙ ap (λ m. start ++ (rows 0 lines (take k is) ++ row_text m (slice_index_or lines k 0) (slice_index_or is k d))) same
    ∙ ap (λ t. start ++ t) (sym (rows_more 0 lines is k d lined within) ∙ ap (λ n. rows 0 lines (take n is)) next)

-- all rows of a function
pub rows_whole : (f : Func) (n : ℕ) → length f.instrs ≤ n → rows 0 f.lines (take n f.instrs) ≡ instrs_text f
rows_whole f n all = ap (rows 0 f.lines) (take_all n f.instrs all)
