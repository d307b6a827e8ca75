-- The variables of the literals and words around one rank.
use Rattle.std.specs.Prelude.{ℕ, ◌≤◌}
use Rattle.std.specs.List.{All}
use Rattle.cnf_core.specs.Clauses.{var_of}
use Rattle.bit_words.specs.Words.{AreWithin}
use Rattle.mutex_states.specs.Steps.{Turn as PlainTurn}
use Rattle.mutex_clauses.specs.declared.turns.turn.Turn.{Turn}

abbrev pub plain : Turn → PlainTurn
plain t = record {
  ordered = t.ordered;
  ranked = t.ranked.now;
  shaped = t.shaped.now;
  words = t.words.now;
  after = t.after.now;
}

pub record IsTurnWithin (n : ℕ) (t : Turn) : Type 0 where
  pub ordered : var_of t.ordered ≤ n
  pub loads : All (AreWithin n) t.loads.now
  pub roots : AreWithin n t.roots.now
  pub ranked : AreWithin n t.ranked.now
  pub shaped : AreWithin n t.shaped.now
  pub words : All (AreWithin n) t.words.now
  pub after : All (AreWithin n) t.after.now
