-- Digests.
use Rattle.std.proofs.Common.{◌≡◌, ◌<◌, ℕ, suc, true, ltb, eqb, List, [], ◌∷◌, length, refl}
use Rattle.std.specs.Prelude.{slice_index}
use Rattle.std.specs.List.{list_all}
use Rattle.std.proofs.lemmas.Bool.{and_from, lt-ltb, eq-eqb}
use Rattle.run_log.specs.Logs.{is_digest}

all_bytes : (bytes : List ℕ) → ((i : ℕ) → slice_index bytes i < 256) → list_all (λ byte. ltb byte 256) bytes ≡ true
all_bytes [] h = refl
all_bytes (b ∷ bytes) h = and_from (ltb b 256) (list_all (λ byte. ltb byte 256) bytes) (lt-ltb b 256 (h 0)) (all_bytes bytes (λ i. h (suc i)))

-- 32 bytes are a digest
pub digest_is : (digest : List ℕ) → length digest ≡ 32 → ((i : ℕ) → slice_index digest i < 256) → is_digest digest ≡ true
digest_is digest long h = and_from (eqb (length digest) 32) (list_all (λ byte. ltb byte 256) digest) (eq-eqb (length digest) 32 long) (all_bytes digest h)
