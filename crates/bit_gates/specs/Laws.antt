-- What gates mean.
use Rattle.std.specs.Prelude.{◌≡◌, ℕ, ◌<◌, ◌≤◌, Bool, true, if◌then◌else◌, IsTrue, List, ℤ}
use Rattle.cnf_core.specs.Clauses.{var_of, Formula, Valuation, literal_true, satisfies}
use Rattle.cnf_core.specs.Gates.{gate_value, Wired, is_block, after_gates}
use Rattle.cnf_core.specs.declared.gates.Gate.{Gate}
use Rattle.bit_gates.specs.Folded.{Made, folded_gate, conditional}

-- `g` is `f` with a block of gates added
pub record IsGrown (f g : Formula) : Type 0 where
  pub gates : List Wired
  pub block : IsTrue (is_block f.vars gates)
  pub formula : g ≡ after_gates f gates

-- a model: a valuation that satisfies a formula and makes variable 1 true
pub record IsModel (w : Valuation) (f : Formula) : Type 0 where
  pub one : w 1 ≡ true
  pub all : IsTrue (satisfies w f.clauses)

-- a literal of one of the first `n` variables
abbrev pub IsOf : ℕ → ℤ → Type 0
IsOf n l = (0 < var_of l) × (var_of l ≤ n)

-- a result: a literal of the formula grown by gates, which has this value in all models
pub record IsBit (f : Formula) (m : Made) (meaning : Valuation → Bool) : Type 0 where
  pub grown : IsGrown f m.formula
  pub literal : IsOf m.formula.vars m.literal
  pub value : (w : Valuation) → IsModel w m.formula → literal_true w m.literal ≡ meaning w

-- each gate, and each choice, has the right value
pub record GatesMean : Type 0 where
  pub gate : (g : Gate) (f : Formula) (a b : ℤ) → IsOf f.vars a → IsOf f.vars b
      → IsBit f (folded_gate g f a b) (λ w. gate_value g (literal_true w a) (literal_true w b))
  pub choose : (f : Formula) (c a b : ℤ) → IsOf f.vars c → IsOf f.vars a → IsOf f.vars b
      → IsBit f (conditional f c a b)
      (λ w. if literal_true w c then literal_true w a else literal_true w b)
