-- Undoing the last push.
use Rattle.std.proofs.Common.{◌≡◌, ◌-◌, ◌<◌, ◌∙◌, ◌∷◌, [], ◌++◌, ℕ, List, length, take, set, ap, refl, arith, length-set, get_or-set_same}
use Rattle.std.proofs.lemmas.List.{take_at, length_push, set-set, set-get_or}
use Rattle.cdcl_clauses.specs.Clauses.{Clause, kept_clause, listed}
use Rattle.cdcl_clauses.specs.declared.watches.Watch.{Watch}
use Rattle.cdcl_steps.specs.Attached.{both_listed}

-- removing the watch that was pushed last restores the lists
pub undone : (ws vs : List (List Watch)) (f : ℕ) (w : Watch) → f < length ws → vs ≡ set ws f (listed ws f ++ w ∷ [])
    → set vs f (take (length (listed vs f) - 1) (listed vs f)) ≡ ws
undone ws vs f w h e =
    let xs : List Watch = listed ws f in
    let there : listed vs f ≡ xs ++ w ∷ [] = ap (λ (us : List (List Watch)). listed us f) e ∙ get_or-set_same ws f (xs ++ w ∷ []) [] h in
    let front : take (length (listed vs f) - 1) (listed vs f) ≡ xs = ap (λ (us : List Watch). take (length us - 1) us) there
    ∙ take_at xs (w ∷ []) (length (xs ++ w ∷ []) - 1) (omega (arith, length_push xs w)) in
    ap (λ (us : List (List Watch)). set us f (take (length (listed vs f) - 1) (listed vs f))) e
    ∙ ap (set (set ws f (xs ++ w ∷ [])) f) front ∙ set-set ws f (xs ++ w ∷ []) xs ∙ set-get_or ws f []

abbrev pub popped : List (List Watch) → ℕ → List (List Watch)
popped ws l = set ws l (take (length (listed ws l) - 1) (listed ws l))

-- removing the clause that was pushed last restores the clauses
pub detached : (cs ds : List Clause) (ls : List ℕ) (first second : ℕ) → ds ≡ cs ++ kept_clause ls first second ∷ [] → take (length ds - 1) ds ≡ cs
detached cs ds ls first second e =
    let c : Clause = kept_clause ls first second in
    ap (λ (es : List Clause). take (length es - 1) es) e ∙ take_at cs (c ∷ []) (length (cs ++ c ∷ []) - 1) (omega (arith, length_push cs c))

pub unlisted : (ws vs : List (List Watch)) (k first second : ℕ) → first < length vs → second < length vs → vs ≡ both_listed ws k first second
    → popped (popped vs second) first ≡ ws
unlisted ws vs k first second fh sh e =
    let wa : Watch = record { clause = k; blocker = second } in
    let wb : Watch = record { clause = k; blocker = first } in
    let us : List (List Watch) = set ws first (listed ws first ++ wa ∷ []) in
    let un : length us ≡ length ws = length-set ws first (listed ws first ++ wa ∷ []) in
    let vn : length vs ≡ length us = ap length e ∙ length-set us second (listed us second ++ wb ∷ []) in
    ap (λ (es : List (List Watch)). popped es first) (undone us vs second wb (omega (arith, sh, vn)) e)
    ∙ undone ws us first wa (omega (arith, fh, vn, un)) refl
