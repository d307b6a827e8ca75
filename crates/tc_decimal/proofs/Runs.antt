-- Runs of bytes at the front of a list.
use Rattle.std.proofs.Common.{◌≡◌, ◌+◌, ℕ, suc, Bool, true, List, [], ◌∷◌, ◌++◌, length, take, drop, refl, ap, inl, inr, ◌∙◌, arith}
use Rattle.std.specs.List.{list_all, prefix_len}
use Rattle.std.proofs.lemmas.Bool.{cases_Bool, and_parts, and_from, cond-true, cond-false}

-- the length of a run of bytes that pass, before a rest that begins with none that passes
pub prefix_len_run : (p : ℕ → Bool) (run rest : List ℕ) → list_all p run ≡ true → prefix_len p rest ≡ 0 → prefix_len p (run ++ rest) ≡ length run
prefix_len_run p [] rest h e = e
prefix_len_run p (b ∷ bs) rest h e =
    let q = and_parts (p b) (list_all p bs) h in
    let r = prefix_len_run p bs rest q.1 e in
    cond-true (p b) _ _ q.0 ∙ (omega arith)

-- after the run at the front no byte passes
pub run_ends : (p : ℕ → Bool) (bytes : List ℕ) → prefix_len p (drop (prefix_len p bytes) bytes) ≡ 0
run_ends p [] = refl
run_ends p (b ∷ bs) = elim (cases_Bool (p b)) [
  | inl h ↦ let one : prefix_len p (b ∷ bs) ≡ suc (prefix_len p bs) = cond-true (p b) (1 + prefix_len p bs) 0 h ∙ (omega arith) in
      ap (λ (n : ℕ). prefix_len p (drop n (b ∷ bs))) one ∙ run_ends p bs
  | inr h ↦ ap (λ (n : ℕ). prefix_len p (drop n (b ∷ bs))) (cond-false (p b) (1 + prefix_len p bs) 0 h) ∙ cond-false (p b) _ _ h
]

-- each byte of the run at the front passes
pub run_passes : (p : ℕ → Bool) (bytes : List ℕ) → list_all p (take (prefix_len p bytes) bytes) ≡ true
run_passes p [] = refl
run_passes p (b ∷ bs) = elim (cases_Bool (p b)) [
  | inl h ↦ let one : prefix_len p (b ∷ bs) ≡ suc (prefix_len p bs) = cond-true (p b) (1 + prefix_len p bs) 0 h ∙ (omega arith) in
      ap (λ (n : ℕ). list_all p (take n (b ∷ bs))) one ∙ and_from (p b) _ h (run_passes p bs)
  | inr h ↦ ap (λ (n : ℕ). list_all p (take n (b ∷ bs))) (cond-false (p b) (1 + prefix_len p bs) 0 h)
]
