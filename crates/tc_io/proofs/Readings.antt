-- A reading from its opening to its end or to its failure.
use Rattle.std.proofs.Common.{
  ◌≡◌,
  ◌+◌,
  ◌≤◌,
  ◌∙◌,
  ℕ,
  List,
  [],
  ◌++◌,
  length,
  length-append,
  append_assoc,
  append-nil,
  Option,
  Some,
  None,
  IfSome,
  IsSomeAnd,
  option_map,
  refl,
  ap,
  ap₂,
  sym,
  subst,
  arith,
}
use Rattle.std.specs.Io.KnownBytes.{IsAtEnd, prepend_known}
use Rattle.tc_io.specs.Outside.{
  Files,
  ShelfTells,
  Reading,
  bytes_at,
  told_under,
  capped_sum,
  without_reading,
  FailedAfter,
  Opened,
  GavePiece,
  FailedToGivePiece,
  GaveSoFar,
  GaveReading,
  FailedReading,
}

counted_twice : (count a b : ℕ) → capped_sum (capped_sum count a) b ≡ capped_sum count (a + b)
counted_twice count a b = omega arith

-- known bytes after no bytes, and after others
behind_none : (rest : Option (List ℕ)) → prepend_known [] rest ≡ rest
behind_none None = refl
behind_none (Some xs) = refl

behind_two : (a b : List ℕ) (rest : Option (List ℕ)) → prepend_known a (prepend_known b rest) ≡ prepend_known (a ++ b) rest
behind_two a b None = refl
behind_two a b (Some xs) = ap Some (sym (append_assoc a b xs))

-- at the end the given bytes are all bytes of the file
all_at_end : (held : Option Files) (name bytes : List ℕ) (rest : Option (List ℕ)) → told_under held name ≡ prepend_known bytes rest → IsAtEnd rest
    → (rest ≡ option_map (λ _. []) held) × IfSome held (λ files. bytes ≡ bytes_at files name)
all_at_end None name bytes None e end = (refl, tt)
all_at_end None name bytes (Some xs) e end = absurd (let f : None ≡ Some (bytes ++ xs) = e in cc)
all_at_end (Some files) name bytes None e end = absurd (let f : Some (bytes_at files name) ≡ None = e in cc)
all_at_end (Some files) name bytes (Some xs) e end =
    let f : Some (bytes_at files name) ≡ Some (bytes ++ xs) = e in
    let all : bytes_at files name ≡ bytes ++ xs = cc in
    (ap Some end, sym (all ∙ ap (λ ys. bytes ++ ys) end ∙ append-nil bytes))

-- given bytes, with some of those to come, are at most all bytes of the file
no_more_than_all : (held : Option Files) (name bytes : List ℕ) (rest : Option (List ℕ)) (count : ℕ) → told_under held name ≡ prepend_known bytes rest
    → IfSome rest (λ xs. count ≤ length xs) → IfSome held (λ files. length bytes + count ≤ length (bytes_at files name))
no_more_than_all None name bytes rest count e within = tt
no_more_than_all (Some files) name bytes None count e within = absurd (let f : Some (bytes_at files name) ≡ None = e in cc)
no_more_than_all (Some files) name bytes (Some xs) count e within =
    let f : Some (bytes_at files name) ≡ Some (bytes ++ xs) = e in
    let all : bytes_at files name ≡ bytes ++ xs = cc in
    omega (arith, ap length all ∙ length-append bytes xs, within)

-- a reading that was just opened has given nothing
pub begins : (old new : ShelfTells) (name : List ℕ) → Opened old new name → GaveSoFar old new name []
begins old new name opened =
    let rest : new.reading ≡ told_under old.held name = ap (λ s. s.reading) opened in
    let none : old.taken ≡ capped_sum old.taken 0 = omega arith in (
      opened ∙ ap₂ (λ taken reading. record old { taken = taken; open_name = Some name; reading = reading }) none (sym rest),
      sym (behind_none new.reading ∙ rest),
    )

-- after a piece the reading has given that piece too
pub gives : (old s new : ShelfTells) (name bytes piece : List ℕ) → GaveSoFar old s name bytes → GavePiece s new piece → GaveSoFar old new name (bytes ++ piece)
gives old s new name bytes piece so_far gave =
    let count = length bytes in
    let total : capped_sum (capped_sum old.taken count) (length piece) ≡ capped_sum old.taken (length (bytes ++ piece)) =
    counted_twice old.taken count (length piece) ∙ ap (capped_sum old.taken) (sym (length-append bytes piece)) in (
      gave.0 ∙ ap (λ (t : ShelfTells). record t { taken = capped_sum t.taken (length piece); reading = new.reading }) so_far.0
          ∙ ap (λ taken. record old { taken = taken; open_name = Some name; reading = new.reading }) total,
      so_far.1 ∙ ap (prepend_known bytes) gave.1 ∙ behind_two bytes piece new.reading,
    )

-- after an empty piece the reading has given all bytes
pub gave_all : (old s new : ShelfTells) (name bytes : List ℕ) → GaveSoFar old s name bytes → GavePiece s new [] → GaveReading old new name bytes
gave_all old s new name bytes so_far gave =
    let more = subst (GaveSoFar old new name) (append-nil bytes) (gives old s new name bytes [] so_far gave) in
    let all = all_at_end old.held name bytes new.reading more.1 (gave.2 refl) in
    (more.0 ∙ ap (λ reading. record old { taken = capped_sum old.taken (length bytes); open_name = Some name; reading = reading }) all.0, all.1)

-- a reading that couldn't give a piece failed
pub piece_failed : (old s new : ShelfTells) (name bytes : List ℕ) (most : ℕ) → GaveSoFar old s name bytes → FailedToGivePiece s new most
    → FailedReading old new name
piece_failed old s new name bytes most so_far failed =
    let opened : s.open_name ≡ Some name = ap (λ t. t.open_name) so_far.0 in
    let last = subst (λ o. IsSomeAnd o (λ name.
    (count : ℕ) × (count ≤ most) × IfSome s.reading (λ rest. count ≤ length rest) × FailedAfter s new name count)) opened failed in
    let count = last.0 in
    let total : capped_sum (capped_sum old.taken (length bytes)) count ≡ capped_sum old.taken (length bytes + count) =
    counted_twice old.taken (length bytes) count in (
      length bytes + count,
      no_more_than_all old.held name bytes s.reading count so_far.1 last.2,
      last.3 ∙ ap (λ (t : ShelfTells). record (without_reading t) { faults = capped_sum t.faults 1; taken = capped_sum t.taken count; last_fault = Some (Reading name) }) so_far.0
          ∙ ap (λ taken. record (without_reading old) { faults = capped_sum old.faults 1; taken = taken; last_fault = Some (Reading name) }) total,
    )
