-- Bounds on the variables in the parts of literals.
use Rattle.std.specs.Prelude.{ℕ, ◌≤◌, List}
use Rattle.std.specs.List.{All}
use Rattle.cnf_core.specs.Clauses.{var_of}
use Rattle.bit_ops.specs.bit_words.Words.{AreWithin}
use Rattle.bit_blast.specs.Cases.{Parts}
use Rattle.bit_blast.specs.Reads.{Source}

-- all literals of the parts are over the first `n` variables
pub record ArePartsWithin (n : ℕ) (parts : Parts) : Type 0 where
  pub before : (first second : ℕ) → var_of (parts.before first second) ≤ n
  pub ends : (sleep by : ℕ) → var_of (parts.ends sleep by) ≤ n
  pub words : All (AreWithin n) parts.words

-- all literals of a source are over the first `n` variables
pub record IsSourceWithin (n : ℕ) (s : Source) : Type 0 where
  pub seen : var_of s.seen ≤ n
  pub taken : var_of s.taken ≤ n
  pub value : AreWithin n s.value

abbrev pub AreSourcesWithin : ℕ → List Source → Type 0
AreSourcesWithin n sources = All (IsSourceWithin n) sources
