-- Pieces of an open file.
use Rattle.std.proofs.Common.{
  ◌≡◌,
  ◌<◌,
  ◌≤◌,
  ℕ,
  List,
  [],
  length,
  length-take,
  take,
  Option,
  Some,
  None,
  IsSome,
  option_map,
  refl,
  ap,
  sym,
  subst₂,
  arith,
}
use Rattle.std.specs.Io.KnownBytes.{Consumes, IsAtEnd}
use Rattle.tc_io.specs.Files.{PlainOpen, ReadOn}

-- a reading with a name is open
pub is_open : {X Y : Type 0} (f : X → Y) (o : Option X) → IsSome (option_map f o) → IsSome o
is_open f None h = h
is_open f (Some x) h = refl

pub none_taken : (count : ℕ) (buf : List ℕ) → count ≤ length buf → take count buf ≡ [] → count ≡ 0
none_taken count buf fits none = omega (arith, length-take count buf, ap length none, fits)

-- the bytes in the buffer are those that a file gave
module _ {F : Type 0} (remaining : F → Option (List ℕ)) (reading : Option (PlainOpen F)) (was : PlainOpen F) (now : F) (buf : List ℕ) (count : ℕ) where
  pub read_on : (name : List ℕ) → name ≡ was.name → reading ≡ Some was → count ≤ length buf → 0 < length buf
      → Consumes (remaining was.file) (remaining now) (take count buf) → (count ≡ 0 → 0 < length buf → IsAtEnd (remaining now))
      → ReadOn remaining reading (Some (record { name = name; file = now })) (take count buf)
  read_on name same is_was fits some lost end =
      subst₂ (λ n o. ReadOn remaining o (Some (record { name = n; file = now })) (take count buf)) (sym same) (sym is_was)
      (now, refl, lost, λ none. end (none_taken count buf fits none) some)
