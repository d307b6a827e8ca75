-- The values that a reader guesses from some bytes, before it compares their texts with them.
use Rattle.std.specs.Prelude.{ℕ, ◌+◌, ◌*◌, ◌%◌, ◌==◌, Bool, false, if◌then◌else◌, List, [], ◌∷◌, ◌++◌, drop, length, Option, None, Some, option_map, option_and_then}
use Rattle.std.specs.List.{fold}
use Rattle.memory_models.specs.declared.model.Model.{Model}
use Rattle.memory_models.specs.declared.model.Model.TheVariants.{Sc, Tso, Pso}
use Rattle.log_walk.specs.declared.bounds.Kind.{Kind}
use Rattle.log_walk.specs.declared.bounds.Kind.TheVariants.{Failure, Deadlock}
use Rattle.tc_decimal.specs.Decimals.{number_at}
use Rattle.tc_base.specs.Names.{Name, child}
use Rattle.tc_base.specs.Paths.{ThreadPath}
use Rattle.none_certificates.specs.Certificates.{LogLine}
use Rattle.none_certificates.specs.declared.header.Header.{Header}
use Rattle.none_certificates.specs.declared.guess.Field.{Field}
use Rattle.none_certificates.specs.declared.guess.Field.TheVariants.{Name as InName, Steps as InSteps, Outcomes as InOutcomes}

-- the words read so far, and the parts of the word being read
pub record Reader : Type 0 where
  -- the name in the first word, once that word has ended
  pub failing : Option Name
  -- the threads in the later words that have ended
  pub threads : List ThreadPath
  pub name : Name
  pub steps : ℕ
  pub outcomes : List Bool
  -- the field being read, and the number being read in it
  pub field : Field
  pub number : ℕ

-- no word is read, and the next one begins
abbrev pub no_word : Reader
no_word = record {
  failing = None;
  threads = [];
  name = [];
  steps = 0;
  outcomes = [];
  field = InName;
  number = 0;
}

-- the name with the number being read, which main's 0 is no part of
abbrev pub with_child : Name → ℕ → Name
with_child n k = if k == 0 then n else child n k

-- ends the number being read in this field
abbrev pub in_field : Field → Reader → Reader
in_field InName r = record r { name = with_child r.name r.number; number = 0 }
in_field InSteps r = record r { steps = r.number % 65536; number = 0 }
in_field InOutcomes r = record r { number = 0 }

-- ends the number being read
abbrev pub end_number : Reader → Reader
end_number r = in_field r.field r

-- the field after a colon
abbrev pub next_field : Field → Field
next_field InName = InSteps
next_field InSteps = InOutcomes
next_field InOutcomes = InOutcomes

-- begins the next field
abbrev pub begin_field : Reader → Reader
begin_field r = record r { field = next_field r.field }

-- keeps a word that has ended, after the first word's name if that has ended before, and begins the
-- next word
abbrev pub kept_after : Option Name → Reader → Reader
kept_after None r = record no_word { failing = Some r.name; threads = r.threads }
kept_after (Some n) r = record no_word {
  failing = Some n;
  threads =
      r.threads
      ++ record { name = r.name; path = record { outcomes = r.outcomes; steps = r.steps } } ∷ [];
}

-- keeps a word that has ended, and begins the next one
abbrev pub keep_word : Reader → Reader
keep_word r = kept_after r.failing r

-- ends the word being read
abbrev pub end_word : Reader → Reader
end_word r = keep_word (end_number r)

-- ends the field being read
abbrev pub end_field : Reader → Reader
end_field r = begin_field (end_number r)

-- reads a digit
abbrev pub read_digit : Field → Reader → ℕ → Reader
read_digit InOutcomes r b = record r { outcomes = r.outcomes ++ (b == 49) ∷ [] }
read_digit _ r b = record r { number = (r.number * 10 + b % 16) % 4294967296 }

-- reads a byte: a space ends a word, a colon a field, a dot a number
abbrev pub read_byte : Reader → ℕ → Reader
read_byte r b =
    if b == 32
    then end_word r
    else (if b == 58 then end_field r
    else (if b == 46 then end_number r else read_digit r.field r b))

-- the words in some bytes
abbrev pub words_in : List ℕ → Reader
words_in bytes = end_word (fold read_byte no_word bytes)

-- whether the first word begins with s, as that of a deadlock does
abbrev pub is_stuck : List ℕ → Bool
is_stuck [] = false
is_stuck (b ∷ _) = b == 115

-- the line of a log, from the bytes after its first word
abbrev pub line_in : List ℕ → LogLine
line_in bytes = record {
  failing = if is_stuck bytes then None else (words_in bytes).failing;
  threads = (words_in bytes).threads;
}

-- the line of a log that some bytes may be
abbrev pub log_guess : List ℕ → LogLine
log_guess bytes = line_in (drop 4 bytes)

-- the memory model whose name is at the front, and what is behind it and a space
abbrev pub model_at : List ℕ → Option (Model × List ℕ)
model_at [] = None
model_at (b ∷ bs) =
    if b == 115
    then Some (Sc, drop 2 bs)
    else (if b == 116
    then Some (Tso, drop 3 bs)
    else (if b == 112 then Some (Pso, drop 3 bs) else None))

-- the kind whose word is at the front, and what is behind it and a space
abbrev pub kind_at : List ℕ → Option (Kind × List ℕ)
kind_at [] = None
kind_at (b ∷ bs) =
    if b == 102
    then Some (Failure, drop 7 bs)
    else (if b == 100 then Some (Deadlock, drop 8 bs) else None)

-- the header of this model and kind, from the bytes that begin with its number
abbrev pub header_by : Model → Kind → List ℕ → Option Header
header_by model kind bytes =
    option_map (λ n. record {
      model = model;
      bounds = record { kind = kind; most = n.0 };
      whole = length n.1 == 6;
    })
    (number_at 0 65535 bytes)

-- the header that some bytes may be
abbrev pub header_guess : List ℕ → Option Header
header_guess bytes =
    option_and_then (λ m. option_and_then (λ k. header_by m.0 k.0 k.1) (kind_at m.1))
    (model_at (drop 12 bytes))
