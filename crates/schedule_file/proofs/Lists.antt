-- Steps that may fail.
use Rattle.std.proofs.Common.{◌≡◌, Option, Some, None, refl}
use Rattle.schedule_file.specs.helpers.Reading.{◌>>=◌}

-- the value of a step that didn't fail
pub bind_some : {A B : Type 0} (o : Option A) (f : A → Option B) (y : B) → (o >>= f) ≡ Some y → (x : A) × (o ≡ Some x) × (f x ≡ Some y)
bind_some (Some x) f y e = (x, refl, e)
bind_some None f y e = absurd cc
