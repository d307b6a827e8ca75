use Rattle.std.proofs.Common.{◌≡◌, ◌<◌, ◌≤◌, ◌/◌, ℕ, length, take, get_or}
use Rattle.std.specs.Prelude.{Contains, MatchOption}
use Rattle.cdcl_learn.proofs.conflicts.highest.Given as goal

abbrev pub invariant-loop-literal : goal.invariant-loop-literal
invariant-loop-literal l = record {
  best : MatchOption l.best ((l.literal-index ≡ 0) × (l.top ≡ 0))
      (λ b. Contains (take l.literal-index l.literals) b × (l.top < length l.trail.literals) × (get_or l.trail.literals l.top 0 / 2 ≡ b / 2));
  top : (x p : ℕ) → Contains (take l.literal-index l.literals) x → p < length l.trail.literals → get_or l.trail.literals p 0 / 2 ≡ x / 2 → p ≤ l.top;
}
