-- A hash map as a finite map.
use Rattle.std.proofs.Common.{◌≡◌, ℕ, List, [], ◌∷◌, ℤ, refl, ap, sym, ◌∙◌, cond, Some, None}
use Rattle.std.specs.Prelude.{nat_eq}
use Rattle.std.specs.Map.{lookup}
use Rattle.std.specs.Ordering.{nat_cmp, eq_by_cmp}
use Rattle.std.specs.Bool.{one_answer}
use Rattle.std.specs.Cmp.{nat_cmp_total, unsigned_tied}
use Rattle.std.specs.FinMap.{get, insert, remove, from_entries, find, get-from_entries, get-insert, get-remove, same_map, nat_cmp-IsAntisymmetric}
use borrow.Author.Tests.{eqb-true, eq-eqb}

find-lookup : (q : ℕ) (es : List (ℕ × List ℤ)) → find nat_cmp q es ≡ lookup (nat_eq q) es
find-lookup q [] = refl
find-lookup q (e ∷ es) = ap (λ b. cond b (Some e.1) (find nat_cmp q es)) (unsigned_tied q e.0) ∙ ap (λ o. cond (nat_eq q e.0) (Some e.1) o) (find-lookup q es)

-- a look-up in the list of the entries
pub get-lookup : (es : List (ℕ × List ℤ)) (q : ℕ) → get (from_entries {R = nat_cmp} es) q ≡ lookup (nat_eq q) es
get-lookup es q = get-from_entries nat_cmp_total es q ∙ find-lookup q es

nat_eq-sym : (a b : ℕ) → nat_eq a b ≡ nat_eq b a
nat_eq-sym a b = one_answer (nat_eq a b) (nat_eq b a) (eqb-true a b, eq-eqb a b) ((λ e. sym (eqb-true b a e)), (λ e. eq-eqb b a (sym e)))

-- entries with the new value at one number, and the old ones elsewhere
pub from_entries-insert : (es fs : List (ℕ × List ℤ)) (k : ℕ) (v : List ℤ)
    → ((q : ℕ) → lookup (nat_eq q) fs ≡ cond (nat_eq k q) (Some v) (lookup (nat_eq q) es)) → from_entries {R = nat_cmp} fs ≡ insert (from_entries es) k v
from_entries-insert es fs k v h =
    same_map nat_cmp_total nat_cmp-IsAntisymmetric _ _
    (λ q. get-lookup fs q ∙ h q ∙ ap (λ b. cond b (Some v) (lookup (nat_eq q) es)) (nat_eq-sym k q ∙ sym (unsigned_tied q k))
    ∙ ap (cond (eq_by_cmp nat_cmp q k) (Some v)) (sym (get-lookup es q)) ∙ sym (get-insert nat_cmp_total (from_entries es) k v q))

pub from_entries-remove : (es fs : List (ℕ × List ℤ)) (k : ℕ) → ((q : ℕ) → lookup (nat_eq q) fs ≡ cond (nat_eq k q) None (lookup (nat_eq q) es))
    → from_entries {R = nat_cmp} fs ≡ remove (from_entries es) k
from_entries-remove es fs k h =
    same_map nat_cmp_total nat_cmp-IsAntisymmetric _ _
    (λ q. get-lookup fs q ∙ h q ∙ ap (λ b. cond b None (lookup (nat_eq q) es)) (nat_eq-sym k q ∙ sym (unsigned_tied q k))
    ∙ ap (cond (eq_by_cmp nat_cmp q k) None) (sym (get-lookup es q)) ∙ sym (get-remove nat_cmp_total (from_entries es) k q))
