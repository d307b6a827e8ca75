-- Each reason has a line of its own: the line tells the reason, where names are those of threads and numbers have 32 bits.
use Rattle.std.proofs.Common.{◌≡◌, ◌∙◌, ℕ, ◌-◌, ◌<◌, ◌^◌, true, List, ◌++◌, Option, Some, sym, ap, arith, append_assoc, refl}
use Rattle.std.specs.Prelude.{codes}
use Rattle.std.specs.Fmt.{decimal}
use Rattle.std.proofs.lemmas.Option.{same_Some}
use Rattle.tc_base.specs.Names.{Name, main, name_text}
use Rattle.clap_solve.specs.tc_decimal.Decimals.{number_at}
use Rattle.clap_solve.proofs.tc_decimal.Decimals.{front_again}
use Rattle.clap_solve.specs.schedule_file.Schedules.{is_name}
use Rattle.clap_solve.specs.schedule_file.helpers.Reading.{◌>>=◌, behind, name_at, or_else}
use Rattle.clap_solve.proofs.schedule_file.Fronts.{name_again}
use Rattle.why_impossible.specs.Reasons.{at_line, reason_line}
use Rattle.why_impossible.specs.declared.reason.Reason.{Reason}
use Rattle.why_impossible.specs.declared.reason.Reason.TheVariants.{Own, Child, Read, Mutex, Condition, Test, Stuck, Dead}
use Rattle.why_impossible.specs.helpers.There.{IsSmall}

-- the name in a reason; of one that has none, main's
abbrev pub name_of : Reason → Name
name_of (Own name) = name
name_of (Child name) = name
name_of (Read name line) = name
name_of (Mutex m) = main
name_of (Condition c) = main
name_of (Test name line) = name
name_of (Stuck name) = name
name_of (Dead name line) = name

-- the name is one that a log within the limits has, and numbers have 32 bits
pub record IsPlain (r : Reason) : Type 0 where
  pub name : is_name (name_of r) ≡ true
  pub small : IsSmall r

-- a reason of the name, of the name and the line, and of the number at the front
abbrev of_name : (Name → Reason) → List ℕ → Option Reason
of_name make bytes = name_at bytes >>= λ n. Some (make n.0)

abbrev number : List ℕ → Option (ℕ × List ℕ)
number bytes = number_at 0 (2 ^ 32 - 1) bytes

abbrev of_number : (ℕ → Reason) → List ℕ → Option Reason
of_number make bytes = number bytes >>= λ n. Some (make n.0)

abbrev of_line : (Name → ℕ → Reason) → List ℕ → Option Reason
of_line make bytes = name_at bytes >>= λ n. behind (codes " line ") n.1 >>= λ rest. of_number (make n.0) rest

-- the reason of a line
abbrev read : List ℕ → Option Reason
read bytes =
    or_else (behind (codes "own ") bytes >>= of_name Own)
    (or_else (behind (codes "child ") bytes >>= of_name Child)
    (or_else (behind (codes "read ") bytes >>= of_line Read)
    (or_else (behind (codes "mutex ") bytes >>= of_number Mutex)
    (or_else (behind (codes "cond ") bytes >>= of_number Condition)
    (or_else (behind (codes "test ") bytes >>= of_line Test)
    (or_else (behind (codes "stuck ") bytes >>= of_name Stuck) (behind (codes "dead ") bytes >>= of_line Dead)))))))

name_there : (make : Name → Reason) (n : Name) → is_name n ≡ true → of_name make (name_text n ++ codes "\n") ≡ Some (make n)
name_there make n is = ap (λ o. o >>= λ x. Some (make x.0)) (name_again n (codes "\n") is refl)

number_there : (make : ℕ → Reason) (n : ℕ) → n < 2 ^ 32 → of_number make (decimal n ++ codes "\n") ≡ Some (make n)
number_there make n less =
    ap (λ o. o >>= λ x. Some (make x.0)) (front_again 0 (2 ^ 32 - 1) n (codes "\n") (omega arith) (omega (arith, less)) (omega arith) refl)

line_there : (make : Name → ℕ → Reason) (n : Name) (line : ℕ) → is_name n ≡ true → line < 2 ^ 32
    → of_line make (at_line n line ++ codes "\n") ≡ Some (make n line)
line_there make n line is less =
    let rest = (codes " line " ++ decimal line) ++ codes "\n" in
    ap (of_line make) (append_assoc (name_text n) (codes " line " ++ decimal line) (codes "\n"))
    ∙ ap (λ o. o >>= λ x. behind (codes " line ") x.1 >>= λ r. of_number (make x.0) r) (name_again n rest is refl)
    ∙ number_there (make n) line less

first : (o other : Option Reason) (r : Reason) → o ≡ Some r → or_else o other ≡ Some r
first o other r is = ap (λ p. or_else p other) is

read_again : (r : Reason) → IsPlain r → read (reason_line r) ≡ Some r
read_again (Own n) plain = first _ _ (Own n) (name_there Own n plain.name)
read_again (Child n) plain = first _ _ (Child n) (name_there Child n plain.name)
read_again (Read n line) plain = first _ _ (Read n line) (line_there Read n line plain.name plain.small)
read_again (Mutex m) plain = first _ _ (Mutex m) (number_there Mutex m plain.small)
read_again (Condition c) plain = first _ _ (Condition c) (number_there Condition c plain.small)
read_again (Test n line) plain = first _ _ (Test n line) (line_there Test n line plain.name plain.small)
read_again (Stuck n) plain = first _ _ (Stuck n) (name_there Stuck n plain.name)
read_again (Dead n line) plain = line_there Dead n line plain.name plain.small

pub one_line : (r q : Reason) → IsPlain r → IsPlain q → reason_line r ≡ reason_line q → r ≡ q
one_line r q plain other same = same_Some r q (sym (read_again r plain) ∙ ap read same ∙ read_again q other)
