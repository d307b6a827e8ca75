-- Changes between neighbours, under other names.
use Rattle.std.proofs.Common.{◌≡◌, ◌+◌, Bool, cond, List, [], ◌∷◌, map, Option, Some, None, refl, ap, ap₂}
use Rattle.std.specs.Prelude.{option_map}
use Rattle.std.specs.List.{All, cons_option, filter_map}
use Rattle.std.proofs.lemmas.List.Elements.{All-head, All-tail}
use Rattle.order_switches.specs.Switches.{changes, changes_after}

module _ {X Y : Type 0} (eq : X → X → Bool) (same : Y → Y → Bool) (name : X → Y) (V : X → Type 0)
    (told : (x y : X) → V x → V y → same (name x) (name y) ≡ eq x y) where
  named_after : (x : X) (xs : List X) → V x → All V xs → changes_after same (name x) (map name xs) ≡ changes_after eq x xs
  named_after x [] v vs = refl
  named_after x (y ∷ ys) v vs =
      let own = All-head V y ys vs in
      ap₂ (λ b n. cond b 0 1 + n) (told x y v own) (named_after y ys own (All-tail V y ys vs))

  pub named_changes : (xs : List X) → All V xs → changes same (map name xs) ≡ changes eq xs
  named_changes [] vs = refl
  named_changes (x ∷ xs) vs = named_after x xs (All-head V x xs vs) (All-tail V x xs vs)

-- the names of the values found
pub named_found : {P X Y : Type 0} (f : P → Option X) (name : X → Y) (ps : List P)
    → filter_map (λ p. option_map name (f p)) ps ≡ map name (filter_map f ps)
named_found f name [] = refl
named_found {P} {X} {Y} f name (p ∷ ps) = by (f p) (named_found f name ps)
  where
    by : (o : Option X) → filter_map (λ p. option_map name (f p)) ps ≡ map name (filter_map f ps)
        → cons_option (option_map name o) (filter_map (λ p. option_map name (f p)) ps) ≡ map name (cons_option o (filter_map f ps))
    by None rest = rest
    by (Some x) rest = ap (λ ys. name x ∷ ys) rest
