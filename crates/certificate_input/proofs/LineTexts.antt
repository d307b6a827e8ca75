-- A line as the text of a refutation that has only it.
use Rattle.std.proofs.Common.{◌≡◌, ◌∙◌, ℕ, List, [], ◌∷◌, ◌++◌, get_or, length, refl, sym, ap, subst, arith}
use Rattle.std.specs.Prelude.{codes}
use Rattle.refute_check.specs.Broken.{BreaksAt}
use Rattle.refute_check.specs.Laws.{IsWhole}
use Rattle.refute_check.specs.Texts.{ended, refutation_text}
use Rattle.refute_check.specs.declared.head.Head.{Head}
use Rattle.refute_check.specs.declared.line.Line.{Line}
use Rattle.refute_check.proofs.Pieces.{broken-is-no-text}
use Rattle.refute_check.proofs.Wholes.{text-has-one-value}
use Rattle.certificate_input.specs.Cuts.{IsTextOf}

abbrev after_head : List ℕ → List ℕ
after_head line = ended (codes "clap-refutation 2 sc") ++ ended line

module _ (line : List ℕ) (h : Head) (ls : List Line) (whole : IsWhole h ls) (text : refutation_text h ls ≡ after_head line) where
  -- one line was read
  pub one_line : length ls ≡ 1 → (l : Line) × (ls ≡ l ∷ []) × IsTextOf line l
  one_line one = by ls refl one
    where
      by : (ms : List Line) → ls ≡ ms → length ms ≡ 1 → (l : Line) × (ls ≡ l ∷ []) × IsTextOf line l
      by [] e one = absurd (omega (arith, one))
      by (l ∷ []) e one = (
        l,
        e,
        record { head = h; whole = subst (IsWhole h) e whole; text = sym (ap (refutation_text h) e) ∙ text },
      )
      by (l ∷ m ∷ ms) e one = absurd (omega (arith, one))

  -- another number of lines was read
  pub no_line : (length ls ≡ 1 → ⊥) → (l : Line) → IsTextOf line l → ⊥
  no_line other l is = other (ap length (text-has-one-value h is.head ls (l ∷ []) whole is.whole (text ∙ sym is.text)).1)

-- a line breaks the form
pub broken_line : (line : List ℕ) (n : ℕ) → BreaksAt (after_head line) n → (l : Line) → IsTextOf line l → ⊥
broken_line line n breaks l is = broken-is-no-text (after_head line) n breaks is.head (l ∷ []) is.whole is.text

-- the first line of a derivation that has only one
pub first_text : (line : List ℕ) (ls : List Line) → (l : Line) × (ls ≡ l ∷ []) × IsTextOf line l → (x : Line) → x ≡ get_or ls 0 x → IsTextOf line x
first_text line ls t x is = subst (IsTextOf line) (sym (is ∙ ap (λ (ms : List Line). get_or ms 0 x) t.1)) t.2
