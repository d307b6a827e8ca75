-- Shifts of words.
use Rattle.std.specs.Prelude.{ℕ, ◌+◌, ◌-◌, false, List, [], ◌∷◌, ◌++◌, ℤ, length, take, drop, slice_index_or}
use Rattle.std.specs.Fn.{iterate}
use Rattle.cnf_core.specs.Clauses.{Formula}
use Rattle.bit_gates.specs.Folded.{constant}
use Rattle.bit_words.specs.Words.{Walked, chosen_words}
use Rattle.bit_shift.specs.declared.Direction.{Direction}
use Rattle.bit_shift.specs.declared.Direction.TheVariants.{Up, Down}

-- the highest literal of a word
abbrev pub top : List ℤ → ℤ
top ls = slice_index_or ls (length ls - 1) (constant false)

-- a word shifted up by one place, with a bit coming in at the bottom
abbrev pub shifted_in : ℤ → List ℤ → List ℤ
shifted_in bit ls = take (length ls) (bit ∷ ls)

-- a word shifted down by one place, with a bit coming in at the top
abbrev pub shifted_out : ℤ → List ℤ → List ℤ
shifted_out bit ls = drop 1 (ls ++ bit ∷ [])

-- a word shifted by one place in a direction, with a bit coming in
abbrev pub moved : Direction → ℤ → List ℤ → List ℤ
moved Up bit ls = shifted_in bit ls
moved Down bit ls = shifted_out bit ls

-- a stage of a barrel shifter: shifts by `by` places if the condition is true
abbrev pub stage : Direction → ℤ → ℕ → ℤ → Formula → List ℤ → Walked Formula
stage to bit by condition f word = chosen_words condition f (iterate (moved to bit) by word) word

-- a barrel shifter: a stage for each bit of the distance, lowest first, each twice as far
abbrev pub shifted : Direction → ℤ → ℕ → Formula → List ℤ → List ℤ → Walked Formula
shifted to bit by f word [] = record { state = f; word = word }
shifted to bit by f word (d ∷ ds) =
    let here : Walked Formula = stage to bit by d f word in
    shifted to bit (by + by) here.state here.word ds
