-- The lines of longer and longer bytes.
use Rattle.std.proofs.Common.{◌≡◌, ◌∙◌, ℕ, zero, suc, ◌==◌, Bool, true, false, cond, List, [], ◌∷◌, ◌++◌, length, Some, refl, sym, ap}
use Rattle.std.specs.Prelude.{slice_get}
use Rattle.std.specs.List.{fold}
use Rattle.std.proofs.lemmas.List.{append-nil, append_assoc}
use Rattle.std.proofs.lemmas.List.Sums.{fold-append}
use Rattle.std.proofs.lemmas.Option.{none-some}
use Rattle.none_certificates.specs.Texts.{header_text}
use Rattle.none_certificates.specs.declared.header.Header.{Header}
use Rattle.certificate_input.specs.Cuts.{Cut, cut, cut_byte, HasHeader, IsLine}

pub cut_next : (front : List ℕ) (b : ℕ) → cut (front ++ b ∷ []) ≡ cut_byte (cut front) b
cut_next front b = fold-append cut_byte (record { lines = []; rest = [] }) front (b ∷ [])

grows : (c : Cut) (bytes : List ℕ) → (more : List (List ℕ)) × ((fold cut_byte c bytes).lines ≡ c.lines ++ more)
grows c [] = ([], sym (append-nil c.lines))
grows c (b ∷ bs) = by (b == 10) refl (λ d. grows d bs)
  where
    next : Bool → Cut
    next v = cond v (record { lines = c.lines ++ c.rest ∷ []; rest = [] }) (record { lines = c.lines; rest = c.rest ++ b ∷ [] })

    by : (v : Bool) → (b == 10) ≡ v → ((d : Cut) → (more : List (List ℕ)) × ((fold cut_byte d bs).lines ≡ d.lines ++ more))
        → (more : List (List ℕ)) × ((fold cut_byte (next (b == 10)) bs).lines ≡ c.lines ++ more)
    by true e rest =
        let g = rest (next true) in (
          c.rest ∷ g.0,
          ap (λ v. (fold cut_byte (next v) bs).lines) e ∙ g.1 ∙ append_assoc c.lines (c.rest ∷ []) g.0,
        )
    by false e rest =
        let g = rest (next false) in (g.0, ap (λ v. (fold cut_byte (next v) bs).lines) e ∙ g.1)

there_left : {A : Type 0} → (xs ys : List A) (k : ℕ) (x : A) → slice_get xs k ≡ Some x → slice_get (xs ++ ys) k ≡ Some x
there_left [] ys k x e = absurd (none-some x e)
there_left (y ∷ xs) ys zero x e = e
there_left (y ∷ xs) ys (suc k) x e = there_left xs ys k x e

pub there_last : {A : Type 0} → (xs : List A) (x : A) → slice_get (xs ++ x ∷ []) (length xs) ≡ Some x
there_last [] x = refl
there_last (y ∷ xs) x = there_last xs x

pub more_line : (front more : List ℕ) (n : ℕ) (line : List ℕ) → IsLine front n line → IsLine (front ++ more) n line
more_line front more n line is =
    let g = grows (cut front) more in
    record {
      before = is.before;
      counted = is.counted;
      there = ap (λ (c : Cut). slice_get c.lines is.before) (fold-append cut_byte (record { lines = []; rest = [] }) front more)
          ∙ ap (λ ls. slice_get ls is.before) g.1 ∙ there_left (cut front).lines g.0 is.before line is.there;
    }

pub more_header : (front more : List ℕ) (h : Header) → HasHeader front h → HasHeader (front ++ more) h
more_header front more h has = record { line = more_line front more 1 (header_text h) has.line; has_form = has.has_form }
