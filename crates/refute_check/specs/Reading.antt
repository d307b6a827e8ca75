-- A refutation's text, read in pieces.
use Rattle.std.specs.Prelude.{◌≡◌, ℕ, ◌+◌, ◌<◌, ◌≤◌, ◌==◌, List, [], ◌∷◌, ◌++◌, map, Option, None, Some, is_some, IsTrue, if◌then◌else◌, ◌||◌, not}
use Rattle.std.specs.Option.{option_map_or}
use Rattle.std.specs.Bool.{MatchBool}
use Rattle.list_laws.specs.Lists.{is_nil}
use Rattle.refute_check.specs.declared.line.TheConstants.{LINES}
use Rattle.refute_check.specs.Texts.{head_text, line_text, is_head, is_readable, IsNoHead, IsNoLine}
use Rattle.refute_check.specs.declared.line.Line.{Line}
use Rattle.refute_check.specs.declared.text.Taken.{Taken}
use Rattle.refute_check.specs.declared.text.Taken.TheVariants.{More, Header, Line as Body, Form}

-- the state of a reader after some bytes of a text
pub record Reading : Type 0 where
  -- the bytes of the unfinished line
  pub unfinished : List ℕ
  -- the number of the unfinished line, from 1
  pub line : ℕ
  -- the number of the first line that breaks the form; after it nothing changes
  pub fault : Option ℕ

abbrev pub beginning : Reading
beginning = record { unfinished = []; line = 1; fault = None }

-- what the bytes of line `n` are: the header, another line, or a breach of the form
abbrev pub IsTakenAs : ℕ → List ℕ → Taken → Type 0
IsTakenAs n bytes More = ⊥
IsTakenAs n bytes (Header h) = (n ≡ 1) × IsTrue (is_head h) × (head_text h ≡ bytes)
IsTakenAs n bytes (Body l) =
    (1 < n) × (n ≤ LINES + 1) × IsTrue (is_readable l) × (line_text l ≡ bytes)
IsTakenAs n bytes (Form k) =
    (k ≡ n) × (n ≡ 1 → IsNoHead bytes) × (1 < n → n ≤ LINES + 1 → IsNoLine bytes)

-- the state after a line
abbrev pub after_taken : Reading → Taken → Reading
after_taken s (Form k) = record s { unfinished = []; fault = Some k }
after_taken s t = record s { unfinished = []; line = s.line + 1 }

-- reading these bytes in state `s` gives the lines `ts` and leaves the state `t`
abbrev pub Reads : Reading → List ℕ → List Taken → Reading → Type 0
Reads s [] ts t = (ts ≡ []) × (t ≡ s)
Reads s (b ∷ bs) ts t =
    MatchBool (is_some s.fault) ((ts ≡ []) × (t ≡ s))
    (MatchBool (b == 10)
    ((x : Taken) × (xs : List Taken) × (ts ≡ x ∷ xs) × IsTakenAs s.line s.unfinished x
    × Reads (after_taken s x) bs xs t)
    (Reads (record s { unfinished = s.unfinished ++ b ∷ [] }) bs ts t))

-- reading bytes in two pieces gives the same lines as reading them at once
abbrev pub CutsAgree : Type 0
CutsAgree =
    (front back : List ℕ) (s t u : Reading) (xs ys : List Taken) → Reads s front xs t
    → Reads t back ys u → Reads s (front ++ back) (xs ++ ys) u

-- the line of an answer, if it has one
abbrev pub lines_of : Taken → List Taken
lines_of More = []
lines_of (Header h) = Header h ∷ []
lines_of (Body l) = Body l ∷ []
lines_of (Form k) = Form k ∷ []

-- the number of the line that breaks the form, if the answer is such a line
abbrev pub fault_of : Taken → Option ℕ
fault_of (Form k) = Some k
fault_of t = None

-- the first line that breaks the form if the text ends here, as a missing header or line end does
abbrev pub first_breach : Reading → Option ℕ
first_breach s =
    option_map_or (λ k. Some k) s.fault
    (if s.line == 1 || not (is_nil s.unfinished) then Some s.line else None)

-- the lines of a derivation, as lines of a text
abbrev pub bodies : List Line → List Taken
bodies ls = map (λ l. Body l) ls

-- reading the last bytes gives the lines `ts`, and `o` is the first line that breaks the form
abbrev pub ReadsTo : Reading → List ℕ → List Taken → Option ℕ → Type 0
ReadsTo s bytes ts o = (t : Reading) × Reads s bytes ts t × (first_breach t ≡ o)
