-- The text under a name after a keep.
use Rattle.std.proofs.Common.{◌≡◌, inr, ap, take, List, ℕ, Some}
use Rattle.std.specs.FinMap.{insert}
use Rattle.tc_io.specs.Outside.{Files, HoldsPart}

-- the file has a front of the bytes
pub holds_front : (old new : Files) (name bytes : List ℕ) (n : ℕ) → new ≡ insert old name (take n bytes) → HoldsPart (Some old) (Some new) name bytes
holds_front old new name bytes n e = inr (n, ap Some e)
