-- What a command keeps: bytes under names, one after the other.
use Rattle.std.specs.Prelude.{◌≡◌, ◌⊎◌, ℕ, List, [], ◌∷◌, Option}
use Rattle.tc_io.specs.Outside.{Files, ShelfTells, Kept, KeptPart, put_under}

-- bytes to be kept under a name
pub record Keep : Type 0 where
  pub name : List ℕ
  pub bytes : List ℕ

-- these were kept one after the other, and nothing else changed
abbrev pub KeptAll : List Keep → ShelfTells → ShelfTells → Type 0
KeptAll [] old new = new ≡ old
KeptAll (k ∷ ks) old new = (s : ShelfTells) × Kept old s k.name k.bytes × KeptAll ks s new

-- all keeps before the one of this name were made, and that one failed
abbrev pub FailsToKeep : List Keep → ShelfTells → ShelfTells → List ℕ → Type 0
FailsToKeep [] old new name = ⊥
FailsToKeep (k ∷ ks) old new name = ((name ≡ k.name) × KeptPart old new k.name k.bytes)
    ⊎ ((s : ShelfTells) × Kept old s k.name k.bytes × FailsToKeep ks s new name)

-- the files after all of these keeps
abbrev pub put_all : List Keep → Option Files → Option Files
put_all [] held = held
put_all (k ∷ ks) held = put_all ks (put_under k.name k.bytes held)

-- the files after a first part of these keeps, maybe none or all of them
abbrev pub HoldsFirst : List Keep → Option Files → Option Files → Type 0
HoldsFirst [] old new = new ≡ old
HoldsFirst (k ∷ ks) old new = (new ≡ old) ⊎ HoldsFirst ks (put_under k.name k.bytes old) new
