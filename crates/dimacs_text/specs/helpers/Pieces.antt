-- The first piece of some bytes.
use Rattle.std.specs.Prelude.{ℕ, suc, Bool, not, List, take, drop}
use Rattle.std.specs.List.{prefix_len}

-- the number of bytes before the first that ends a piece
abbrev pub piece_len : (ℕ → Bool) → List ℕ → ℕ
piece_len ends bytes = prefix_len (λ b. not (ends b)) bytes

abbrev pub first_piece : (ℕ → Bool) → List ℕ → List ℕ
first_piece ends bytes = take (piece_len ends bytes) bytes

-- the bytes after the end of the first piece
abbrev pub behind_first : (ℕ → Bool) → List ℕ → List ℕ
behind_first ends bytes = drop (suc (piece_len ends bytes)) bytes
