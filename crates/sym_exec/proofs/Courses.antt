-- The terms that a thread takes from its parent.
use Rattle.std.proofs.Common.{◌≡◌, ◌∙◌, ℕ, ◌-◌, List, [], ◌∷◌, ◌++◌, length, take, Option, Some, None, refl, ap, arith, length-append}
use Rattle.std.specs.List.{last_or}
use Rattle.std.specs.Option.{option_map_or}
use Rattle.std.proofs.lemmas.List.{take-append-le}
use Rattle.std.proofs.Math.Seq.{take-length}
use Rattle.tc_base.specs.Names.{Name}
use Rattle.sym_exec.specs.Executed.{Course, arguments_for, handed_to}

-- the last of a list
last_is : (o : Option ℕ) (n : Name) (k : ℕ) → last_or o (n ++ k ∷ []) ≡ Some k
last_is o [] k = refl
last_is o (x ∷ n) k = last_is (Some x) n k

-- the elements before the last
pub front_is : (n : Name) (k : ℕ) → take (length (n ++ k ∷ []) - 1) (n ++ k ∷ []) ≡ n
front_is n k =
    let e : length (n ++ k ∷ []) - 1 ≡ length n = omega (arith, length-append n (k ∷ [])) in
    ap (λ m. take m (n ++ k ∷ [])) e ∙ take-append-le (length n) n (k ∷ []) (omega arith) ∙ take-length n

-- a child takes the terms that its parent hands to its number
pub takes_from_parent : (courses : List Course) (parent : Name) (k : ℕ) → arguments_for courses (parent ++ k ∷ []) ≡ handed_to courses parent k
takes_from_parent courses parent k =
    ap (λ o. option_map_or (handed_to courses (take (length (parent ++ k ∷ []) - 1) (parent ++ k ∷ []))) o []) (last_is None parent k)
    ∙ ap (λ p. handed_to courses p k) (front_is parent k)
