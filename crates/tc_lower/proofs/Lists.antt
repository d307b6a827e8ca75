-- Lists of instructions.
use Rattle.std.proofs.Common.{◌≡◌, ℕ, suc, ◌+◌, ◌-◌, ◌<◌, List, [], ◌∷◌, ◌++◌, length, map, drop, set, get_or}
use Rattle.std.proofs.Common.{ap, sym, ◌∙◌, append_assoc, add-one, length-append}
use Rattle.std.proofs.Math.Seq.{drop-cons, set-append_seam}
use Rattle.std.proofs.lemmas.List.{map-set, length-map, length-replicate}

-- laws of lists that are written one after another
pub ruleset rows = (length-append, append_assoc, map-set, length-map)

-- laws of the lines of instructions
pub ruleset lined = (rows, length-replicate)

-- a branch is put into its reserved place, between the two sides of `&&` or `||`
pub set-choice : {A : Type 0} (old p q : List A) (decided room branch last : A) (place : ℕ) → place ≡ length (old ++ p) + 1
    → set ((((old ++ p) ++ decided ∷ room ∷ []) ++ q) ++ last ∷ []) place branch
    ≡ old ++ (p ++ decided ∷ branch ∷ [] ++ q ++ last ∷ [])
set-choice old p q decided room branch last place e =
    let before = (old ++ p) ++ decided ∷ [] in
    let at : place ≡ length before = e ∙ sym (length-append (old ++ p) (decided ∷ [])) in
    let here : (((old ++ p) ++ decided ∷ room ∷ []) ++ q) ++ last ∷ [] ≡ before ++ room ∷ (q ++ last ∷ []) = simp append_assoc in
    let there : before ++ branch ∷ (q ++ last ∷ []) ≡ old ++ (p ++ decided ∷ branch ∷ [] ++ q ++ last ∷ []) = simp append_assoc in
    ap (λ xs. set xs place branch) here ∙ ap (λ n. set (before ++ room ∷ (q ++ last ∷ [])) n branch) at
    ∙ set-append_seam before room (q ++ last ∷ []) branch ∙ there

pub ruleset choices = (rows, set-choice)

-- the rest of a list from one of its elements on
pub drop-here : {A : Type 0} (xs : List A) (k : ℕ) (x : A) → k < length xs → x ≡ get_or xs k x → drop k xs ≡ x ∷ drop (k + 1) xs
drop-here xs k x within is =
    drop-cons xs k x within ∙ ap (λ y. y ∷ drop (suc k) xs) (sym is) ∙ ap (λ n. x ∷ drop n xs) (sym (add-one k))

pub drop-next : {A B : Type 0} (f : A → B) (xs : List A) (k : ℕ) (x : A) → k < length xs → x ≡ get_or xs k x
    → map f (drop k xs) ≡ f x ∷ map f (drop (k + 1) xs)
drop-next f xs k x within is = ap (map f) (drop-here xs k x within is)
