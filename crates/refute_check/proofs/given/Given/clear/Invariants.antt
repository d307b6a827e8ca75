use Rattle.std.proofs.Common.{◌≡◌, ◌+◌, ◌*◌, ◌<◌, ◌≤◌, length, ℤ, true, false, get_or}
use Rattle.std.specs.Prelude.{IsTrue}
use Rattle.cnf_core.specs.Clauses.{var_of, is_within}
use Rattle.refute_check.specs.Literals.{is_among}
use Rattle.refute_check.specs.helpers.Given.{place_of}
use Rattle.refute_check.proofs.given.Given.clear.Given as goal

abbrev pub invariant-loop-lit : goal.invariant-loop-lit
invariant-loop-lit l =
    record {
      vars : l.self-inside.vars ≡ l.initial.self-inside.vars;
      room : length l.self-inside.marks.items ≡ 2 * l.self-inside.vars + 2;
      marked : (z : ℤ) → 0 < var_of z → var_of z ≤ l.self-inside.vars → get_or l.self-inside.marks.items (place_of z) false ≡ true
          → is_among l.self-inside.literals.items z ≡ true;
      within : IsTrue (is_within l.self-inside.vars l.self-inside.literals.items);
    }

abbrev pub decreases-loop-lit : goal.decreases-loop-lit
decreases-loop-lit l = length l.self-inside.literals.items
