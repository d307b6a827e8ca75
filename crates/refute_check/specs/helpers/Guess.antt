-- The line that a reader guesses from some bytes, before it compares its text with them.
use Rattle.std.specs.Prelude.{
  ℕ,
  ◌+◌,
  ◌*◌,
  ◌%◌,
  Bool,
  true,
  false,
  if◌then◌else◌,
  ◌==◌,
  List,
  [],
  ◌∷◌,
  ◌++◌,
  ℤ,
  pos,
  negsuc,
  neg_ℤ,
  nat_lt,
  ◌&&◌,
  drop,
  length,
  Option,
  None,
  Some,
}
use Rattle.std.specs.List.{fold}
use Rattle.std.specs.Option.{option_map_or}
use Rattle.cnf_core.specs.Clauses.{var_of, is_clause}
use Rattle.list_laws.specs.Lists.{is_nil}
use Rattle.memory_models.specs.declared.model.Model.TheVariants.{Sc, Tso, Pso}
use Rattle.refute_check.specs.declared.head.Head.{Head}
use Rattle.refute_check.specs.declared.line.Line.{Line}
use Rattle.refute_check.specs.declared.line.Line.TheVariants.{Add, Delete}

-- the numbers read so far, and the size and the sign of the number being read
pub record Reader : Type 0 where
  pub done : List ℤ
  pub size : ℕ
  pub negative : Bool

abbrev pub no_number : Reader
no_number = record { done = []; size = 0; negative = false }

-- the number being read
abbrev pub number_of : ℕ → Bool → ℤ
number_of size negative = if negative then neg_ℤ (pos size) else pos size

-- all numbers so far, including the one being read
abbrev pub numbers_of : Reader → List ℤ
numbers_of r = r.done ++ number_of r.size r.negative ∷ []

-- reads one byte: a space ends a number, a minus sign negates it, any other byte is a digit
abbrev pub read_byte : Reader → ℕ → Reader
read_byte r b =
    if b == 32
    then record { done = numbers_of r; size = 0; negative = false }
    else (if b == 45 then record r { negative = true }
    else record r { size = (r.size * 10 + b % 16) % 4294967296 })

-- the numbers in some bytes
abbrev pub guessed : List ℕ → List ℤ
guessed bytes = numbers_of (fold read_byte no_number bytes)

-- whether a number is a literal
abbrev pub is_literal : ℤ → Bool
is_literal z = nat_lt 0 (var_of z) && nat_lt (var_of z) 2147483648

-- whether a number can be the number of a clause
abbrev pub is_clause_number : ℤ → Bool
is_clause_number (pos n) = nat_lt 0 n && nat_lt n 4294967296
is_clause_number (negsuc n) = false

-- the results of `f` on a list, up to the first number without one
abbrev pub front : {A : Type 0} → (ℤ → Option A) → List ℤ → List A
front f [] = []
front f (z ∷ zs) = option_map_or (λ x. x ∷ front f zs) (f z) []

abbrev pub literal_of : ℤ → Option ℤ
literal_of z = if is_literal z then Some z else None

abbrev pub clause_number_of : ℤ → Option ℕ
clause_number_of z = if is_clause_number z then Some (var_of z) else None

abbrev pub literals_in : List ℤ → List ℤ
literals_in zs = front literal_of zs

abbrev pub clause_numbers_in : List ℤ → List ℕ
clause_numbers_in zs = front clause_number_of zs

-- the line that adds a clause, from its numbers
abbrev pub add_of : List ℤ → Option Line
add_of zs =
    if is_clause (literals_in zs)
    then Some (Add (literals_in zs) (clause_numbers_in (drop (length (literals_in zs) + 1) zs)))
    else None

-- the line that deletes clauses, from its numbers
abbrev pub delete_of : List ℤ → Option Line
delete_of zs = if is_nil (clause_numbers_in zs) then None else Some (Delete (clause_numbers_in zs))

-- a line, from its letter and its numbers
abbrev pub line_by : ℕ → List ℤ → Option Line
line_by letter zs =
    if letter == 97 then add_of zs else (if letter == 100 then delete_of zs else None)

-- the line that some bytes may be
abbrev pub line_guess : List ℕ → Option Line
line_guess [] = None
line_guess (b ∷ bs) = line_by b (drop 1 (guessed bs))

-- an 8-bit number with one more digit
abbrev pub with_digit : ℕ → ℕ → ℕ
with_digit n b = (n * 10 + b % 16) % 256

-- the 8-bit number of some digits
abbrev pub small_number : List ℕ → ℕ
small_number digits = fold with_digit 0 digits

-- the number of switches after the header's model: ` switches ` and a number, or no bytes
abbrev pub switches_in : List ℕ → Option ℕ
switches_in bytes = if is_nil bytes then None else Some (small_number (drop 10 bytes))

-- the header, from its model's first letter and the bytes from there on
abbrev pub head_by : ℕ → List ℕ → Option Head
head_by letter bytes =
    if letter == 115
    then Some (record { model = Sc; switches = switches_in (drop 2 bytes) })
    else (if letter == 116
    then Some (record { model = Tso; switches = switches_in (drop 3 bytes) })
    else (if letter == 112
    then Some (record { model = Pso; switches = switches_in (drop 3 bytes) }) else None))

abbrev pub head_from : List ℕ → Option Head
head_from [] = None
head_from (b ∷ bs) = head_by b (b ∷ bs)

-- the header that some bytes may be
abbrev pub head_guess : List ℕ → Option Head
head_guess bytes = head_from (drop 18 bytes)
