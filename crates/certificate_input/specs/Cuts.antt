-- The lines of bytes, and what a line is the text of.
use Rattle.std.specs.Prelude.{◌≡◌, ℕ, ◌+◌, ◌==◌, List, [], ◌∷◌, ◌++◌, fold, if◌then◌else◌, Some, slice_get, codes, IsTrue}
use Rattle.refute_check.specs.Laws.{IsWhole}
use Rattle.refute_check.specs.Texts.{ended, refutation_text}
use Rattle.refute_check.specs.declared.head.Head.{Head}
use Rattle.refute_check.specs.declared.line.Line.{Line}
use Rattle.none_certificates.specs.Certificates.{is_header}
use Rattle.none_certificates.specs.Texts.{header_text}
use Rattle.none_certificates.specs.declared.header.Header.{Header}

-- the lines that have ended, without their ends, and the bytes after them
pub record Cut : Type 0 where
  pub lines : List (List ℕ)
  pub rest : List ℕ

-- the same with another byte: 10 ends a line
abbrev pub cut_byte : Cut → ℕ → Cut
cut_byte c b =
    if b == 10
    then record { lines = c.lines ++ c.rest ∷ []; rest = [] }
    else record { lines = c.lines; rest = c.rest ++ b ∷ [] }

abbrev pub cut : List ℕ → Cut
cut bytes = fold cut_byte (record { lines = []; rest = [] }) bytes

-- the bytes have this line, with this number, from 1
pub record IsLine (bytes : List ℕ) (number : ℕ) (line : List ℕ) : Type 0 where
  pub before : ℕ
  pub counted : number ≡ before + 1
  pub there : slice_get (cut bytes).lines before ≡ Some line

-- the first line is that of this header
pub record HasHeader (bytes : List ℕ) (h : Header) : Type 0 where
  pub line : IsLine bytes 1 (header_text h)
  pub has_form : IsTrue (is_header h)

-- with a header before it, the line is the text of a refutation of this one line
pub record IsTextOf (line : List ℕ) (l : Line) : Type 0 where
  pub head : Head
  pub whole : IsWhole head (l ∷ [])
  pub text : refutation_text head (l ∷ []) ≡ ended (codes "clap-refutation 2 sc") ++ ended line
