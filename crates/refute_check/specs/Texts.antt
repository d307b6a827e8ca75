-- The text of a refutation.
use Rattle.std.specs.Prelude.{◌≡◌, ℕ, List, [], ◌∷◌, ◌++◌, map, ℤ, pos, codes, Option, None, Some, Bool, true, not, ◌&&◌, nat_lt, IsTrue}
use Rattle.std.specs.List.{flat_map, list_all}
use Rattle.std.specs.Option.{option_map_or}
use Rattle.cnf_core.specs.Clauses.{var_of, is_clause}
use Rattle.list_laws.specs.Lists.{is_nil}
use Rattle.std.specs.Fmt.{decimal, signed_decimal}
use Rattle.memory_models.specs.Models.{model_name}
use Rattle.refute_check.specs.declared.head.Head.{Head}
use Rattle.refute_check.specs.declared.line.Line.{Line}
use Rattle.refute_check.specs.declared.line.Line.TheVariants.{Add, Delete}

-- the text of the number of switches, if there is one
abbrev pub switches_text : Option ℕ → List ℕ
switches_text None = []
switches_text (Some k) = codes " switches " ++ decimal k

-- the header, without its line end
abbrev pub head_text : Head → List ℕ
head_text h = codes "clap-refutation 2 " ++ model_name h.model ++ switches_text h.switches

-- whether a header is valid: the number of switches has at most 8 bits
abbrev pub is_head : Head → Bool
is_head h = option_map_or (λ k. nat_lt k 256) h.switches true

-- numbers, each after a space
abbrev pub numbers_text : List ℤ → List ℕ
numbers_text ns = flat_map (λ n. codes " " ++ signed_decimal n) ns

-- another line, without its line end: a letter, then lists of numbers that each end with 0
abbrev pub line_text : Line → List ℕ
line_text (Add lits hints) =
    codes "a" ++ numbers_text lits ++ codes " 0" ++ numbers_text (map pos hints) ++ codes " 0"
line_text (Delete ns) = codes "d" ++ numbers_text (map pos ns) ++ codes " 0"

-- a line with its line end
abbrev pub ended : List ℕ → List ℕ
ended bytes = bytes ++ 10 ∷ []

-- the text of a refutation
abbrev pub refutation_text : Head → List Line → List ℕ
refutation_text h lines = ended (head_text h) ++ flat_map (λ l. ended (line_text l)) lines

-- a line that the format can express: sorted literals, numbers of 32 bits, no empty deletion
abbrev pub is_readable : Line → Bool
is_readable (Add lits hints) =
    is_clause lits && list_all (λ l. nat_lt (var_of l) 2147483648) lits
    && list_all (λ n. nat_lt 0 n && nat_lt n 4294967296) hints
is_readable (Delete ns) = not (is_nil ns) && list_all (λ n. nat_lt 0 n && nat_lt n 4294967296) ns

-- the bytes aren't the text of a line
abbrev pub IsNoLine : List ℕ → Type 0
IsNoLine bytes = (l : Line) → IsTrue (is_readable l) → line_text l ≡ bytes → ⊥

-- the bytes aren't the text of a header
abbrev pub IsNoHead : List ℕ → Type 0
IsNoHead bytes = (h : Head) → IsTrue (is_head h) → head_text h ≡ bytes → ⊥
