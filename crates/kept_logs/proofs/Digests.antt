-- A digest is 32 bytes.
use Rattle.std.proofs.Common.{◌≡◌, ◌∙◌, ap₂, refl, arith, ℕ, zero, suc, true, List, length}
use Rattle.std.specs.Prelude.{◌&&◌, ◌/◌, ◌^◌, IsTrue, nat_lt, slice_index}
use Rattle.std.specs.Int.{byte_at, bytes_high_first, to_be_bytes, w32}
use Rattle.std.specs.List.{list_all}
use Rattle.std.proofs.Math.Nat.{mod-lt}
use Rattle.std.proofs.lemmas.Bool.{lt-ltb, eq-eqb}
use Rattle.std.proofs.lemmas.List.Folds.{list_all-append}
use Rattle.sha2.specs.Sha256.{sha256, digest_bytes}
use Rattle.sha2.proofs.Facts256.{length-sha256}
use Rattle.run_log.specs.Logs.{is_digest}

byte_is : (i n : ℕ) → nat_lt (byte_at i n) 256 ≡ true
byte_is zero n = lt-ltb _ _ (mod-lt n (omega arith))
byte_is (suc i) n = lt-ltb _ _ (mod-lt (n / 256 ^ suc i) (omega arith))

bytes_are : (k n : ℕ) → list_all (λ byte. nat_lt byte 256) (bytes_high_first k n) ≡ true
bytes_are zero n = refl
bytes_are (suc k) n = ap₂ (λ x y. x && y) (byte_is k n) (bytes_are k n)

digest_bytes_are : (h : List ℕ) (n : ℕ) → list_all (λ byte. nat_lt byte 256) (digest_bytes h n) ≡ true
unfolding digest_bytes
digest_bytes_are h zero = refl
digest_bytes_are h (suc n) =
    list_all-append (λ byte. nat_lt byte 256) (digest_bytes h n) (to_be_bytes w32 (slice_index h n))
    ∙ ap₂ (λ x y. x && y) (digest_bytes_are h n) (bytes_are 4 (slice_index h n))

pub sha256_is : (program : List ℕ) → IsTrue (is_digest (sha256 program))
unfolding sha256
sha256_is program = ap₂ (λ x y. x && y) (eq-eqb (length (sha256 program)) 32 (length-sha256 program)) (digest_bytes_are _ 8)
