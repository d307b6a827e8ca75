-- Gates: the clauses that define a new variable as the value of a gate, and blocks of gates.
use Rattle.std.specs.Prelude.{
  ◌≡◌,
  ℕ,
  suc,
  ◌+◌,
  ◌≤◌,
  Bool,
  true,
  not,
  ◌&&◌,
  ◌||◌,
  if◌then◌else◌,
  ◌==◌,
  nat_lt,
  nat_le,
  IsTrue,
  List,
  [],
  ◌∷◌,
  ◌++◌,
  ℤ,
  pos,
  negsuc,
  neg_ℤ,
  length,
}
use Rattle.std.specs.List.{fold, list_all}
use Rattle.std.specs.Ordering.{int_eq}
use Rattle.cnf_core.specs.Clauses.{var_of, Formula, Valuation, literal_true, satisfies, is_within}
use Rattle.cnf_core.specs.declared.gates.Gate.{Gate}
use Rattle.cnf_core.specs.declared.gates.Gate.TheVariants.{And, Or, Xor}

-- the value of a gate
abbrev pub gate_value : Gate → Bool → Bool → Bool
gate_value And p q = p && q
gate_value Or p q = p || q
gate_value Xor p q = if p then not q else q

-- clauses by which two literals have the same value
abbrev pub are_equal : ℤ → ℤ → List (List ℤ)
are_equal a out = (neg_ℤ a ∷ out ∷ []) ∷ (a ∷ neg_ℤ out ∷ []) ∷ []

-- clauses by which a literal is true exactly if two others both are
abbrev pub is_both : ℤ → ℤ → ℤ → List (List ℤ)
is_both a b out = (neg_ℤ a ∷ neg_ℤ b ∷ out ∷ []) ∷ (a ∷ neg_ℤ out ∷ []) ∷ (b ∷ neg_ℤ out ∷ []) ∷ []

-- clauses by which a literal is true exactly if one of two others is true and the other false
abbrev pub is_one : ℤ → ℤ → ℤ → List (List ℤ)
is_one a b out =
    (neg_ℤ a ∷ neg_ℤ b ∷ neg_ℤ out ∷ []) ∷ (a ∷ b ∷ neg_ℤ out ∷ []) ∷ (a ∷ neg_ℤ b ∷ out ∷ [])
    ∷ (neg_ℤ a ∷ b ∷ out ∷ []) ∷ []

-- selects by two literals: equal, opposite, or which of them has the smaller variable
abbrev pub by_pair : {A : Type 0} → ℤ → ℤ → A → A → A → A → A
by_pair a b same opposite rising falling =
    if int_eq a b then same else if int_eq a (neg_ℤ b) then opposite
    else if nat_lt (var_of a) (var_of b)
    then rising else falling

-- the clauses that define the literal `out` of a new variable as the conjunction of two literals
abbrev pub and_clauses : ℤ → ℤ → ℤ → List (List ℤ)
and_clauses a b out =
    by_pair a b (are_equal a out) ((neg_ℤ out ∷ []) ∷ []) (is_both a b out) (is_both b a out)

-- the clauses that define the literal `out` of a new variable as the exclusive or of two literals
abbrev pub xor_clauses : ℤ → ℤ → ℤ → List (List ℤ)
xor_clauses a b out =
    by_pair a b ((neg_ℤ out ∷ []) ∷ []) ((out ∷ []) ∷ []) (is_one a b out) (is_one b a out)

-- a gate with its two input literals
pub record Wired : Type 0 where
  pub gate : Gate
  pub first : ℤ
  pub second : ℤ

-- the clauses that define variable `n` + 1 as the value of a gate; a disjunction by De Morgan
abbrev pub clauses_for : ℕ → Gate → ℤ → ℤ → List (List ℤ)
clauses_for n And a b = and_clauses a b (pos (suc n))
clauses_for n Or a b = and_clauses (neg_ℤ a) (neg_ℤ b) (negsuc n)
clauses_for n Xor a b = xor_clauses a b (pos (suc n))

abbrev pub gate_clauses : ℕ → Wired → List (List ℤ)
gate_clauses n g = clauses_for n g.gate g.first g.second

-- the value of a gate under a valuation
abbrev pub value_of : Valuation → Wired → Bool
value_of v g = gate_value g.gate (literal_true v g.first) (literal_true v g.second)

-- the literal is one of the first `n` variables, or its negation
abbrev pub is_over : ℕ → ℤ → Bool
is_over n l = nat_lt 0 (var_of l) && nat_le (var_of l) n

-- a block of gates after the first `n` variables: the inputs of each gate are earlier variables
abbrev pub is_block : ℕ → List Wired → Bool
is_block n [] = true
is_block n (g ∷ gs) = is_over n g.first && is_over n g.second && is_block (suc n) gs

-- a formula with the variable and the clauses of one gate added
abbrev pub after_gate : Formula → Wired → Formula
after_gate f g = record { vars = suc f.vars; clauses = f.clauses ++ gate_clauses f.vars g }

-- a formula with a block of gates added
abbrev pub after_gates : Formula → List Wired → Formula
after_gates f gs = fold after_gate f gs

-- a valuation with the value of one variable changed
abbrev pub with_value : Valuation → ℕ → Bool → Valuation
with_value v n b = λ k. if k == n then b else v k

-- a valuation in which the variables of a block after the first `n` have their gates' values
abbrev pub extended : Valuation → ℕ → List Wired → Valuation
extended v n [] = v
extended v n (g ∷ gs) = extended (with_value v (suc n) (value_of v g)) (suc n) gs

-- the clauses of a formula are over its variables
abbrev pub IsOver : Formula → Type 0
IsOver f = IsTrue (list_all (is_within f.vars) f.clauses)

-- two valuations agree on the first `n` variables
abbrev pub Agree : ℕ → Valuation → Valuation → Type 0
Agree n v w = (k : ℕ) → k ≤ n → v k ≡ w k

-- a model of a formula, extended by the values of a block's gates, is a model with the block added
abbrev pub BlockKeeps : Type 0
BlockKeeps =
    (f : Formula) (gs : List Wired) (v : Valuation) → IsOver f → IsTrue (is_block f.vars gs)
    → IsTrue (satisfies v f.clauses)
    → IsTrue (satisfies (extended v f.vars gs) (after_gates f gs).clauses)
    × Agree f.vars v (extended v f.vars gs)

-- a model with a block is a model without it, and gives the block's variables their gates' values
abbrev pub BlockDecides : Type 0
BlockDecides =
    (f : Formula) (gs : List Wired) (v w : Valuation) → IsOver f → IsTrue (is_block f.vars gs)
    → IsTrue (satisfies w (after_gates f gs).clauses)
    → Agree f.vars v w
    → IsTrue (satisfies w f.clauses) × Agree (f.vars + length gs) (extended v f.vars gs) w
