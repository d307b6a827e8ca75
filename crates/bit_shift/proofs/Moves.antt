-- Words with their places moved.
use Rattle.std.proofs.Common.{◌≡◌, ℕ, suc, zero, ◌+◌, ◌-◌, ◌<◌, ◌≤◌, List, [], ◌∷◌, ◌++◌, ℤ, refl, ap, sym, ◌∙◌, arith, length, take, drop, set, get_or}
use Rattle.std.specs.Fn.{iterate}
use Rattle.std.specs.List.{All}
use Rattle.std.proofs.lemmas.List.{drop_all, take_all, length-take, length-drop, length-append}
use Rattle.std.proofs.lemmas.List.Elements.{All-nil, All-cons, All-take, All-drop, All-append}
use Rattle.std.proofs.Math.Seq.{take-append_seam, set-append_seam}
use Rattle.bit_words.proofs.Loops.{split_here, join_here, drop_here}
use Rattle.bit_shift.specs.declared.Direction.{Direction}
use Rattle.bit_shift.specs.declared.Direction.TheVariants.{Up, Down}
use Rattle.bit_shift.specs.Shifts.{shifted_in, shifted_out, moved}

pub shifted_more : (all xs : List ℤ) (i : ℕ) (next here : ℤ) → all ≡ take i xs ++ (next ∷ drop i xs) → i < length xs → here ≡ get_or xs i here
    → all ≡ take (i + 1) (set xs i next) ++ (here ∷ drop (i + 1) (set xs i next))
shifted_more all xs i next here h p e =
    h ∙ ap (λ k. take i xs ++ (next ∷ k)) (split_here xs i here p e) ∙ join_here xs (here ∷ drop (i + 1) xs) i next p
    ∙ ap (λ k. take (i + 1) (set xs i next) ++ (here ∷ k)) (sym (drop_here xs i next))

pub shifted_all : (old xs : List ℤ) (i : ℕ) (bit next : ℤ) → bit ∷ old ≡ take i xs ++ (next ∷ drop i xs) → length xs ≤ i → length xs ≡ length old
    → xs ≡ shifted_in bit old
shifted_all old xs i bit next h p e =
    let whole : bit ∷ old ≡ xs ++ (next ∷ []) =
    h ∙ ap (λ k. take i xs ++ (next ∷ k)) (drop_all i xs p) ∙ ap (λ k. k ++ (next ∷ [])) (take_all i xs p) in
    sym (ap (λ k. take k (bit ∷ old)) (sym e) ∙ ap (take (length xs)) whole ∙ take-append_seam xs (next ∷ []))

-- rotating a word by one place, and replacing the top literal
pub rotated : (xs : List ℤ) (bit : ℤ) → 0 < length xs → set (drop 1 xs ++ take 1 xs) (length (drop 1 xs ++ take 1 xs) - 1) bit ≡ shifted_out bit xs
rotated [] bit h = absurd (omega (arith, h))
rotated (x ∷ xs) bit h =
    let long : length (xs ++ x ∷ []) - 1 ≡ length xs = omega (arith, length-append xs (x ∷ [])) in
    ap (λ k. set (xs ++ x ∷ []) k bit) long ∙ set-append_seam xs x [] bit

pub iterate_more : {A : Type 0} (h : A → A) (all x : A) (n i : ℕ) → all ≡ iterate h (n - i) x → i < n → all ≡ iterate h (n - (i + 1)) (h x)
iterate_more h all x n i e p = let s : n - i ≡ suc (n - (i + 1)) = omega (arith, p) in e ∙ ap (λ k. iterate h k x) s

pub iterate_all : {A : Type 0} (h : A → A) (all x : A) (n i : ℕ) → all ≡ iterate h (n - i) x → n ≤ i → all ≡ x
iterate_all h all x n i e p = let s : n - i ≡ 0 = omega (arith, p) in e ∙ ap (λ k. iterate h k x) s

pub moved_length : (to : Direction) (bit : ℤ) (xs : List ℤ) → length (moved to bit xs) ≡ length xs
moved_length Up bit xs = length-take (length xs) (bit ∷ xs) ∙ omega arith
moved_length Down bit xs = length-drop 1 (xs ++ bit ∷ []) ∙ omega (arith, length-append xs (bit ∷ []))

pub far_length : (to : Direction) (bit : ℤ) (by : ℕ) (xs : List ℤ) → length (iterate (moved to bit) by xs) ≡ length xs
far_length to bit zero xs = refl
far_length to bit (suc by) xs = far_length to bit by (moved to bit xs) ∙ moved_length to bit xs

moved_are : (P : ℤ → Type 0) (to : Direction) (bit : ℤ) (xs : List ℤ) → P bit → All P xs → All P (moved to bit xs)
moved_are P Up bit xs b h = All-take P (length xs) (bit ∷ xs) (All-cons P bit xs b h)
moved_are P Down bit xs b h = All-drop P 1 (xs ++ bit ∷ []) (All-append P xs (bit ∷ []) h (All-cons P bit [] b (All-nil P)))

pub far_are : (P : ℤ → Type 0) (to : Direction) (bit : ℤ) (by : ℕ) (xs : List ℤ) → P bit → All P xs → All P (iterate (moved to bit) by xs)
far_are P to bit zero xs b h = h
far_are P to bit (suc by) xs b h = far_are P to bit by (moved to bit xs) b (moved_are P to bit xs b h)
