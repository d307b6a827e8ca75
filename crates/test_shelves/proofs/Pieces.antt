-- Pieces of an open reading in memory.
use Rattle.std.proofs.Common.{◌≡◌, ◌+◌, ◌<◌, ◌∙◌, ℕ, List, ◌++◌, min, length, length-take, take, drop, take-append-drop, drop-drop, Option, Some, ap, ap₂, sym, subst, subst₂, arith}
use Rattle.std.proofs.lemmas.List.{nil_from_length}
use Rattle.tc_io.specs.Faults.{PlainFaults}
use Rattle.tc_io.specs.Outside.{Files, GavePiece, bytes_at, capped_sum}
use Rattle.tc_io.proofs.Pieces.{none_taken}
use Rattle.test_shelves.specs.Mem.{tells_with}
use Rattle.test_shelves.specs.Readings.{PlainReading}

-- the bytes in the buffer are the next ones of the file
module _ (held : Files) (taken now : ℕ) (faults : PlainFaults) (r later : PlainReading) (bytes buf : List ℕ) (count : ℕ) where
  from_open : bytes ≡ bytes_at held r.name → 0 < length buf → count ≡ min (length (drop r.given bytes)) (length buf)
      → take count buf ≡ take count (drop r.given bytes) → later ≡ record r { given = r.given + count } → now ≡ capped_sum taken count
      → GavePiece (tells_with held taken faults (Some r)) (tells_with held now faults (Some later)) (take count buf)
  from_open all some counted same moved added =
      let fits : length (take count buf) ≡ count = length-take count buf ∙ omega (arith, counted) in
      let rest : drop (r.given + count) bytes ≡ drop later.given (bytes_at held later.name) =
      ap (drop (r.given + count)) all ∙ ap (λ (l : PlainReading). drop l.given (bytes_at held l.name)) (sym moved) in
      let split : drop r.given (bytes_at held r.name) ≡ take count buf ++ drop later.given (bytes_at held later.name) =
      sym (ap (drop r.given) all) ∙ sym (take-append-drop count (drop r.given bytes))
      ∙ ap₂ (λ (a b : List ℕ). a ++ b) (sym same) (drop-drop count r.given bytes ∙ rest) in
      let kept : later.name ≡ r.name = ap (λ (l : PlainReading). l.name) moved in (
        ap₂ (λ (n : ℕ) (name : List ℕ). record (tells_with held n faults (Some later)) { open_name = Some name })
            (added ∙ ap (capped_sum taken) (sym fits)) kept,
        ap Some split,
        λ none.
            let zero = none_taken count buf (omega (arith, counted)) none in
            let gone : length (drop r.given bytes) ≡ 0 = omega (arith, zero, counted, some) in
            nil_from_length _ (ap length (sym rest) ∙ ap (λ n. length (drop n bytes)) (omega (arith, zero)) ∙ gone),
      )

  -- the same, from the parts
  pub gave_piece : (reading : Option PlainReading) (files : Files) (as_before : PlainFaults) → files ≡ held → as_before ≡ faults → reading ≡ Some r
      → bytes ≡ bytes_at files r.name → 0 < length buf → count ≡ min (length (drop r.given bytes)) (length buf)
      → take count buf ≡ take count (drop r.given bytes) → later ≡ record r { given = r.given + count } → now ≡ capped_sum taken count
      → GavePiece (tells_with held taken faults reading) (tells_with files now as_before (Some later)) (take count buf)
  gave_piece reading files as_before same_files same_faults is_r all some counted same moved added =
      subst₂ (λ f x. GavePiece (tells_with held taken faults reading) (tells_with f now x (Some later)) (take count buf)) (sym same_files) (sym same_faults)
      (subst (λ o. GavePiece (tells_with held taken faults o) (tells_with held now faults (Some later)) (take count buf)) (sym is_r)
      (from_open (all ∙ ap (λ f. bytes_at f r.name) same_files) some counted same moved added))
