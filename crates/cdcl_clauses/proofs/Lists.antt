-- Lists of watches as they are stored in memory.
use Rattle.std.proofs.Common.{◌≡◌, ℕ, ◌-◌, ◌<◌, List, [], ◌∷◌, ◌++◌, map, length, take, get_or, set, sym, ◌∙◌, ap, arith}
use Rattle.std.specs.Prelude.{Vec}
use Rattle.std.specs.declared.alloc.Global.{Global}
use Rattle.std.proofs.lemmas.List.{length-map, map_push, map-set, get_or-map, get_or_default}
use Rattle.std.proofs.Math.Seq.{map-set_same}
use Rattle.std.specs.List.{swap_remove}
use Rattle.cdcl_clauses.specs.Clauses.{listed, without_place}
use Rattle.cdcl_clauses.specs.declared.watches.Watch.{Watch}

abbrev pub lists_of : List (Vec Watch Global) → List (List Watch)
lists_of vs = map (λ (v : Vec Watch Global). v.items) vs

pub list_at : (vs : List (Vec Watch Global)) (ws : List (List Watch)) → lists_of vs ≡ ws → (l : ℕ) (v : Vec Watch Global) → l < length vs
    → v ≡ get_or vs l v → listed ws l ≡ v.items
list_at vs ws e l v h r = ap (λ (us : List (List Watch)). get_or us l []) (sym e) ∙ get_or-map (λ (v : Vec Watch Global). v.items) vs l v [] h
    ∙ ap (λ (v : Vec Watch Global). v.items) (sym r)

pub list_set : (vs : List (Vec Watch Global)) (ws : List (List Watch)) → lists_of vs ≡ ws → (l : ℕ) (v : Vec Watch Global) (us : List Watch)
    → v.items ≡ us → lists_of (set vs l v) ≡ set ws l us
list_set vs ws e l v us h = map-set (λ (v : Vec Watch Global). v.items) vs l v ∙ ap (λ (xs : List (List Watch)). set xs l v.items) e ∙ ap (set ws l) h

pub list_kept : (vs : List (Vec Watch Global)) (ws : List (List Watch)) → lists_of vs ≡ ws → (l : ℕ) (u v : Vec Watch Global) → l < length vs
    → u ≡ get_or vs l u → v.items ≡ u.items → lists_of (set vs l v) ≡ ws
list_kept vs ws e l u v h r f = map-set_same (λ (v : Vec Watch Global). v.items) vs l v u (f ∙ ap (λ (v : Vec Watch Global). v.items) r) ∙ e

pub list_within : (vs : List (Vec Watch Global)) (ws : List (List Watch)) → lists_of vs ≡ ws → (l : ℕ) → l < length ws → l < length vs
list_within vs ws e l h = omega (arith, ap length e, length-map vs (λ (v : Vec Watch Global). v.items), h)

pub swap_remove-without : (us : List Watch) (p : ℕ) (w : Watch) → p < length us → swap_remove us p w ≡ without_place us p
swap_remove-without us p w h = ap (λ (x : Watch). take (length us - 1) (set us p x))
    (get_or_default us (length us - 1) w (record { clause = 0; blocker = 0 }) (omega arith))

pub lists_of-push : (vs : List (Vec Watch Global)) (v : Vec Watch Global) → lists_of (vs ++ v ∷ []) ≡ lists_of vs ++ v.items ∷ []
lists_of-push vs v = map_push (λ (v : Vec Watch Global). v.items) vs v
