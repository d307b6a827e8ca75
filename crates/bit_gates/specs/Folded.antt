-- Gates over literals, added only if their value isn't known; variable 1 is the constant true.
use Rattle.std.specs.Prelude.{ℕ, suc, ◌+◌, ◌≤◌, ◌<◌, Bool, true, false, ◌||◌, if◌then◌else◌, ℤ, pos, negsuc, neg_ℤ, length}
use Rattle.std.specs.Ordering.{int_eq}
use Rattle.cnf_core.specs.Clauses.{Formula}
use Rattle.cnf_core.specs.declared.cnf.TheConstants.{LIMIT}
use Rattle.cnf_core.specs.Gates.{after_gate}
use Rattle.cnf_core.specs.declared.gates.Gate.{Gate}
use Rattle.cnf_core.specs.declared.gates.Gate.TheVariants.{And, Or, Xor}

-- a grown formula, with the literal of the result
pub record Made : Type 0 where
  pub formula : Formula
  pub literal : ℤ

-- the literals of the constants: variable 1, and its negation
abbrev pub constant : Bool → ℤ
constant true = pos 1
constant false = negsuc 0

-- no new gate: the formula unchanged, with a literal
abbrev pub kept : Formula → ℤ → Made
kept f l = record { formula = f; literal = l }

-- a new gate, with the literal of its variable
abbrev pub new_gate : Formula → Gate → ℤ → ℤ → Made
new_gate f g a b =
    record {
      formula = after_gate f (record { gate = g; first = a; second = b });
      literal = pos
          (suc f.vars);
    }

-- the conjunction of two literals
abbrev pub conjunction : Formula → ℤ → ℤ → Made
conjunction f a b =
    if int_eq a (constant false) || int_eq b (constant false) || int_eq a (neg_ℤ b)
    then kept f (constant false)
    else if int_eq a (constant true) || int_eq a b then kept f b
    else if int_eq b (constant true) then kept f a
    else new_gate f And a b

-- the negation of a result
abbrev pub opposite : Made → Made
opposite m = kept m.formula (neg_ℤ m.literal)

-- the disjunction of two literals
abbrev pub disjunction : Formula → ℤ → ℤ → Made
disjunction f a b = opposite (conjunction f (neg_ℤ a) (neg_ℤ b))

-- true where one of the literals is and the other isn't
abbrev pub differing : Formula → ℤ → ℤ → Made
differing f a b =
    if int_eq a b then kept f (constant false)
    else if int_eq a (neg_ℤ b) then kept f (constant true)
    else if int_eq a (constant false) then kept f b
    else if int_eq a (constant true) then kept f (neg_ℤ b)
    else if int_eq b (constant false) then kept f a
    else if int_eq b (constant true) then kept f (neg_ℤ a)
    else new_gate f Xor a b

-- a gate over two literals, with known values folded
abbrev pub folded_gate : Gate → Formula → ℤ → ℤ → Made
folded_gate And f a b = conjunction f a b
folded_gate Or f a b = disjunction f a b
folded_gate Xor f a b = differing f a b

-- the value of `a` if `c` is true, else of `b`
abbrev pub conditional : Formula → ℤ → ℤ → ℤ → Made
conditional f c a b =
    if int_eq a b then kept f a
    else let x : Made = conjunction f c a in let y : Made = conjunction x.formula (neg_ℤ c) b in
    disjunction y.formula x.literal y.literal

-- a formula has room for `most` more variables and `most` more clauses
abbrev pub HasRoom : ℕ → Formula → Type 0
HasRoom most f = (f.vars + most < LIMIT) × (length f.clauses + most < LIMIT)

-- `g` has at most `most` more variables and at most `most` more clauses than `f`
abbrev pub IsLarger : ℕ → Formula → Formula → Type 0
IsLarger most f g =
    (f.vars ≤ g.vars) × (g.vars ≤ f.vars + most) × (length g.clauses ≤ length f.clauses + most)
