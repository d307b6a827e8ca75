-- Pieces of bytes, one after another.
use Rattle.std.proofs.Common.{◌≡◌, ◌∙◌, ◌<◌, ◌+◌, ◌-◌, ℕ, suc, Bool, true, false, List, [], ◌∷◌, length, take, drop, refl, sym, ap, arith, length-drop}
use Rattle.std.specs.Prelude.{not}
use Rattle.std.specs.List.{onto_first}
use Rattle.std.proofs.lemmas.Bool.{cond-true}
use Rattle.dimacs_text.specs.Answers.{pieces}
use Rattle.dimacs_text.specs.helpers.Pieces.{behind_first, first_piece, piece_len}

module _ (ends : ℕ → Bool) where
  -- bytes begin with their first piece
  abbrev BeginsWithFirst : List ℕ → Type 0
  BeginsWithFirst bytes = pieces ends bytes ≡ first_piece ends bytes ∷ pieces ends (behind_first ends bytes)

  one_more : (b : ℕ) (bytes : List ℕ) → ends b ≡ false → piece_len ends (b ∷ bytes) ≡ suc (piece_len ends bytes)
  one_more b bytes is = cond-true (not (ends b)) (1 + piece_len ends bytes) 0 (ap not is) ∙ (omega arith)

  at_end : (b : ℕ) (bytes : List ℕ) → ends b ≡ true → BeginsWithFirst (b ∷ bytes)
  at_end b bytes is = rw is refl

  -- a byte that ends no piece is the first of its piece
  with_byte : (b : ℕ) (bytes first : List ℕ) (others : List (List ℕ)) → ends b ≡ false → onto_first b (pieces ends bytes) ≡ (b ∷ first) ∷ others
      → first ≡ take (piece_len ends bytes) bytes → others ≡ pieces ends (drop (suc (piece_len ends bytes)) bytes) → BeginsWithFirst (b ∷ bytes)
  with_byte b bytes first others is onto as_first as_others =
      let parts : pieces ends (b ∷ bytes) ≡ onto_first b (pieces ends bytes) = rw is refl in
      parts ∙ onto ∙ ap (λ f. (b ∷ f) ∷ others) as_first
      ∙ ap (λ os. (b ∷ take (piece_len ends bytes) bytes) ∷ os) as_others
      ∙ sym (ap (λ k. take k (b ∷ bytes) ∷ pieces ends (drop (suc k) (b ∷ bytes))) (one_more b bytes is))

  further : (b c : ℕ) (bytes : List ℕ) → ends b ≡ false → BeginsWithFirst (c ∷ bytes) → BeginsWithFirst (b ∷ c ∷ bytes)
  further b c bytes is same = with_byte b (c ∷ bytes) (first_piece ends (c ∷ bytes)) (pieces ends (behind_first ends (c ∷ bytes))) is
      (ap (onto_first b) same) refl refl

  lone : (b : ℕ) → ends b ≡ false → BeginsWithFirst (b ∷ [])
  lone b is = with_byte b [] [] [] is refl refl refl

  either : (b : ℕ) (bytes : List ℕ) (e : Bool) → ends b ≡ e → (ends b ≡ false → BeginsWithFirst (b ∷ bytes)) → BeginsWithFirst (b ∷ bytes)
  either b bytes true is more = at_end b bytes is
  either b bytes false is more = more is

  begins : (b : ℕ) (bytes : List ℕ) → BeginsWithFirst (b ∷ bytes)
  begins b [] = either b [] (ends b) refl (lone b)
  begins b (c ∷ bytes) = either b (c ∷ bytes) (ends b) refl (λ is. further b c bytes is (begins c bytes))

  pub begins_with_first : (bytes : List ℕ) → 0 < length bytes → pieces ends bytes ≡ first_piece ends bytes ∷ pieces ends (behind_first ends bytes)
  begins_with_first [] some = absurd (omega (arith, some))
  begins_with_first (b ∷ bytes) some = begins b bytes

  pub shorter : (bytes behind : List ℕ) → 0 < length bytes → behind ≡ behind_first ends bytes → length behind < length bytes
  shorter bytes behind some is = omega (arith, some, ap length is, length-drop (suc (piece_len ends bytes)) bytes)
