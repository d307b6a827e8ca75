-- Places of a function: an instruction, and a round for each loop around it.
use Rattle.std.specs.Prelude.{◌≡◌, ℕ, ◌+◌, ◌<◌, Option, Some, None, slice_get, slice_index_or, option_and_then, length, nat_lt, not, List, [], ◌∷◌, ◌++◌, map, drop, Bool, true, false, ◌&&◌, ◌==◌, nat_le, if◌then◌else◌}
use Rattle.std.specs.List.{Contains, filter, find, flat_map, list_any, range_with_len}
use Rattle.std.specs.Option.{option_map_or}
use Rattle.std.specs.Ordering.{nat_cmp}
use Rattle.std.specs.declared.cmp.Ordering.TheVariants.{Less}
use Rattle.std.specs.Cmp.Lexicographic.{slice_cmp}
use Rattle.tc_code.specs.Lawful.{target}
use Rattle.tc_code.specs.declared.instr.Instr.{Instr}
use Rattle.tc_code.specs.declared.instr.Instr.TheVariants.{Goto, Exit}
use Rattle.places.specs.code_loops.Loops.{LoopsNest}
use Rattle.places.specs.declared.place.Round.{Round}

pub record Place : Type 0 where
  pub instruction : ℕ
  -- of the loops around the instruction, outermost first
  pub rounds : List Round

-- whether an instruction may jump to `first`
abbrev pub jumps_to : ℕ → Instr → Bool
jumps_to first i = option_map_or (λ to. to == first) (target i) false

-- whether the loop that begins at `first` is around an instruction: a jump leads back over it
abbrev pub is_around : List Instr → (at first : ℕ) → Bool
is_around is at first = list_any (jumps_to first) (drop at is)

-- where the loops around an instruction begin, outermost first
abbrev pub loops_around : List Instr → ℕ → List ℕ
loops_around is at = filter (is_around is at) (range_with_len 0 (at + 1))

-- the number of the round of the loop at `first`; 0 outside the loop
abbrev pub round_in : Place → ℕ → ℕ
round_in p first = option_map_or (λ r. r.number) (find (λ r. r.first == first) p.rounds) 0

-- its number after a step from p to an instruction: one more if the step leads back to the loop
abbrev pub round_after : Place → (to first : ℕ) → ℕ
round_after p to first =
    if to == first && nat_le to p.instruction then round_in p first + 1 else round_in p first

-- the place at an instruction, with a number for the round of each loop around it
abbrev pub place_at : List Instr → ℕ → (ℕ → ℕ) → Place
place_at is at number = record {
  instruction = at;
  rounds = map (λ a. record { first = a; number = number a }) (loops_around is at);
}

-- where a thread begins, and the place after a step from p to an instruction
abbrev pub first_place : List Instr → Place
first_place is = place_at is 0 (λ a. 0)

abbrev pub place_after : List Instr → Place → ℕ → Place
place_after is p to = place_at is to (round_after p to)

-- the places of a thread that goes on from p by the instructions at these numbers
abbrev pub places_along : List Instr → Place → List ℕ → List Place
places_along is p [] = p ∷ []
places_along is p (to ∷ tos) = p ∷ places_along is (place_after is p to) tos

-- places are compared by their rounds from the outermost loop inwards, then by instruction
abbrev pub key : Place → List ℕ
key p = flat_map (λ r. r.first ∷ r.number ∷ []) p.rounds ++ p.instruction ∷ []

abbrev pub IsEarlier : Place → Place → Type 0
IsEarlier p q = slice_cmp nat_cmp (key p) (key q) ≡ Less

-- whether an instruction may lead to the next one
abbrev pub goes_on : Instr → Bool
goes_on (Goto to) = false
goes_on Exit = false
goes_on _ = true

-- the instructions to which an instruction at k may lead: the next one, and its target
abbrev pub next : ℕ → Instr → List ℕ
next k i = if goes_on i then (k + 1) ∷ [] else []

abbrev pub targets : Instr → List ℕ
targets i = option_map_or (λ to. to ∷ []) (target i) []

abbrev pub successors : ℕ → Instr → List ℕ
successors k i = next k i ++ targets i

-- what the places of a function rest on: it has instructions, each leads to others, and loops nest
pub record HasPlaces (is : List Instr) : Type 0 where
  pub some : 0 < length is
  pub lead : (k : ℕ) (i : Instr) (to : ℕ) → slice_get is k ≡ Some i → Contains (successors k i) to
      → to < length is
  pub nest : LoopsNest is

-- an instruction may lead to another one
pub record MayLead (is : List Instr) («from» to : ℕ) : Type 0 where
  pub instr : Instr
  pub there : slice_get is «from» ≡ Some instr
  pub leads : Contains (successors «from» instr) to

-- from an instruction, these follow one after another
abbrev pub Follow : List Instr → ℕ → List ℕ → Type 0
Follow is at [] = Unit {0}
Follow is at (to ∷ tos) = MayLead is at to × Follow is to tos

-- whether a place is past a cut: it is in a round of a loop beyond the loop's limit
abbrev pub is_cut : (limits : List ℕ) → Place → Bool
is_cut limits p = list_any (λ r. nat_lt (slice_index_or limits r.first 0) r.number) p.rounds

-- the place after a step from p to an instruction, if p leads there and no cut lies between
abbrev pub enters : List Instr → (limits : List ℕ) → Place → ℕ → Option Place
enters is limits p to =
    option_and_then
    (λ i. if list_any (λ k. k == to) (successors p.instruction i) && not (is_cut limits (place_after is p to))
    then Some (place_after is p to) else None) (slice_get is p.instruction)

-- the place to which these steps lead, the last one first, if they pass no cut
abbrev pub reached_by : List Instr → (limits : List ℕ) → List ℕ → Option Place
reached_by is limits [] = Some (first_place is)
reached_by is limits (to ∷ tos) = option_and_then (λ p. enters is limits p to) (reached_by is limits tos)

abbrev pub IsReached : List Instr → (limits : List ℕ) → Place → Type 0
IsReached is limits p = (tos : List ℕ) × (reached_by is limits tos ≡ Some p)

-- each of these places is later than those before it
abbrev pub Rise : List Place → Type 0
Rise [] = Unit {0}
Rise (p ∷ ps) = ((q : Place) → Contains ps q → IsEarlier p q) × Rise ps

-- these are exactly the places that are reached, in order
pub record AreReached (is : List Instr) (limits : List ℕ) (ps : List Place) : Type 0 where
  pub rise : Rise ps
  pub reached : (p : Place) → Contains ps p → IsReached is limits p
  pub all : (p : Place) → IsReached is limits p → Contains ps p

-- more than n places are reached
pub record AreMore (is : List Instr) (limits : List ℕ) (n : ℕ) : Type 0 where
  pub places : List Place
  pub count : length places ≡ n + 1
  pub rise : Rise places
  pub reached : (p : Place) → Contains places p → IsReached is limits p
