-- What a verdict means, and how texts and their values correspond.
use Rattle.std.specs.Prelude.{◌≡◌, ℕ, ◌+◌, ◌≤◌, List, [], ◌∷◌, length, None, IsTrue}
use Rattle.std.specs.List.{list_all}
use Rattle.cnf_core.specs.Clauses.{Formula, IsUnsatisfiable}
use Rattle.refute_check.specs.Refutations.{IsClosed}
use Rattle.refute_check.specs.declared.line.TheConstants.{LINES}
use Rattle.refute_check.specs.Texts.{is_head, is_readable, refutation_text}
use Rattle.refute_check.specs.Reading.{Reading, Reads, beginning, bodies, first_breach}
use Rattle.refute_check.specs.Broken.{BreaksAt}
use Rattle.refute_check.specs.declared.head.Head.{Head}
use Rattle.refute_check.specs.declared.text.Taken.{Taken}
use Rattle.refute_check.specs.declared.text.Taken.TheVariants.{Header}
use Rattle.refute_check.specs.declared.line.Line.{Line}

-- if a derivation is closed, whatever produced it, the formula's clauses are unsatisfiable
abbrev pub ClosedMeansUnsatisfiable : Type 0
ClosedMeansUnsatisfiable =
    (f : Formula) (lines : List Line) → IsClosed f lines → IsUnsatisfiable f.clauses

-- the lines of a text: the header, then those of a derivation
abbrev pub whole_lines : Head → List Line → List Taken
whole_lines h ls = Header h ∷ bodies ls

-- a header and a derivation that the format can express
abbrev pub IsWhole : Head → List Line → Type 0
IsWhole h ls = IsTrue (is_head h) × IsTrue (list_all is_readable ls) × (length ls ≤ LINES)

-- reading is deterministic
abbrev pub ReadsAgree : Type 0
ReadsAgree =
    (bytes : List ℕ) (s t u : Reading) (xs ys : List Taken) → Reads s bytes xs t
    → Reads s bytes ys u → (xs ≡ ys) × (t ≡ u)

-- the text of a header and lines is read as these, and no line breaks the form
abbrev pub TextIsRead : Type 0
TextIsRead =
    (h : Head) (ls : List Line) → IsWhole h ls
    → Reads beginning (refutation_text h ls) (whole_lines h ls)
    (record { unfinished = []; line = length ls + 2; fault = None })

-- a text has at most one value
abbrev pub TextHasOneValue : Type 0
TextHasOneValue =
    (h k : Head) (ls ms : List Line) → IsWhole h ls → IsWhole k ms
    → refutation_text h ls ≡ refutation_text k ms → (h ≡ k) × (ls ≡ ms)

-- bytes in which no line breaks the form are the text of what was read from them
abbrev pub ReadIsText : Type 0
ReadIsText =
    (bytes : List ℕ) (ts : List Taken) (t : Reading) → Reads beginning bytes ts t
    → first_breach t ≡ None
    → (h : Head) × (ls : List Line) × (ts ≡ whole_lines h ls) × IsWhole h ls
    × (refutation_text h ls ≡ bytes)

-- bytes in which a line breaks the form aren't the text of any refutation
abbrev pub BrokenIsNoText : Type 0
BrokenIsNoText =
    (bytes : List ℕ) (n : ℕ) → BreaksAt bytes n → (h : Head) (ls : List Line) → IsWhole h ls
    → refutation_text h ls ≡ bytes → ⊥
