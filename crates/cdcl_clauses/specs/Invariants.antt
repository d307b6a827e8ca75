-- The invariants of a search: of its trail, its clauses and its watches.
use Rattle.std.specs.Prelude.{◌≡◌, ◌≢◌, ℕ, ◌*◌, ◌<◌, ◌≤◌, true, List, [], ◌∷◌, None, MatchOption, length, take, slice_index, slice_index_or, Contains, All}
use Rattle.cdcl_literals.specs.Literals.{opposite_of}
use Rattle.cdcl_trail.specs.Trail.{Trail, IsTrail}
use Rattle.cdcl_clauses.specs.Clauses.{Clause, at, watches, listed}
use Rattle.cdcl_clauses.specs.declared.watches.Watch.{Watch}

-- a clause watches two of its literals, or its only one
pub record IsClause (variables : ℕ) (c : Clause) : Type 0 where
  pub within : All (λ l. l < 2 * variables) c.literals
  pub first_in : Contains c.literals c.first
  pub second_in : Contains c.literals c.second
  pub two : c.first ≡ c.second → c.literals ≡ c.first ∷ []

-- one of the literals is true
pub record HasTrue (true_literals : List ℕ) (c : Clause) : Type 0 where
  pub literal : ℕ
  pub in_clause : Contains c.literals literal
  pub is_true : Contains true_literals literal

-- the clause is in the watch list of the literal
pub record IsListed (ws : List (List Watch)) (l k : ℕ) : Type 0 where
  pub place : ℕ
  pub within : place < length (listed ws l)
  pub there : (d : Watch) → (slice_index_or (listed ws l) place d).clause ≡ k

-- a watch belongs to a clause, and its blocker is one of the clause's literals
pub record IsWatch (variables : ℕ) (cs : List Clause) (w : Watch) : Type 0 where
  pub clause_there : w.clause < length cs
  pub blocker_in : Contains (at cs w.clause).literals w.blocker
  pub blocker_within : w.blocker < 2 * variables

-- every kept clause is well-formed, and is in the watch lists of the literals that it watches
pub record AreLinked (variables : ℕ) (cs : List Clause) (ws : List (List Watch)) : Type 0 where
  pub lists : length ws ≡ 2 * variables
  pub clauses : (k : ℕ) → k < length cs → (at cs k).kept ≡ true → IsClause variables (at cs k)
  pub entries : (l : ℕ) → All (IsWatch variables cs) (listed ws l)
  pub watching : (k l : ℕ) → k < length cs → watches (at cs k) l ≡ true → IsListed ws l k

-- if the first list falsifies a literal that a clause watches, the second makes the clause true
abbrev pub Guards : List ℕ → List ℕ → Clause → Type 0
Guards falsified true_literals c =
    (l : ℕ) → watches c l ≡ true → Contains falsified (opposite_of l) → HasTrue true_literals c

-- each level is closed under unit propagation without conflict; the last, as far as propagated
pub record AreGuarded (t : Trail) (cs : List Clause) : Type 0 where
  pub below : (k i : ℕ) → k < length cs → i < length t.starts
      → Guards (take (slice_index t.starts i) t.literals)
      (take (slice_index t.starts i) t.literals) (at cs k)
  pub last : (k : ℕ) → k < length cs → Guards (take t.propagated t.literals) t.literals (at cs k)

-- the clause is kept and has the literal, and all its other literals are false
pub record IsReason (cs : List Clause) (before : List ℕ) (l k : ℕ) : Type 0 where
  pub there : k < length cs
  pub kept : (at cs k).kept ≡ true
  pub has : Contains (at cs k).literals l
  pub others : (x : ℕ) → Contains (at cs k).literals x → x ≢ l → Contains before (opposite_of x)

-- a level begins at this place
pub record BeginsAt (t : Trail) (p : ℕ) : Type 0 where
  pub level : ℕ
  pub within : level < length t.starts
  pub there : slice_index t.starts level ≡ p

-- each literal begins a level, or has a reason in the literals before it
abbrev pub AreReasoned : Trail → List Clause → Type 0
AreReasoned t cs = (p : ℕ) → p < length t.literals
    → MatchOption (slice_index_or t.reasons p None) (BeginsAt t p)
    (IsReason cs (take p t.literals) (slice_index t.literals p))

-- the invariant of a search
pub record AreConsistent (t : Trail) (cs : List Clause) (ws : List (List Watch)) : Type 0 where
  pub lawful : IsTrail t
  pub linked : AreLinked t.variables cs ws
  pub guarded : AreGuarded t cs
  pub reasoned : AreReasoned t cs

-- all literals of the clause are false, one of them by the next literal to propagate
pub record IsConflict (t : Trail) (cs : List Clause) (k : ℕ) : Type 0 where
  pub there : k < length cs
  pub kept : (at cs k).kept ≡ true
  pub all_false : (x : ℕ) → Contains (at cs k).literals x → Contains t.literals (opposite_of x)
  pub pending : t.propagated < length t.literals
  pub at_pending : Contains (at cs k).literals (opposite_of (slice_index t.literals t.propagated))

-- the clauses are the same except for what they watch
pub record AreSame (cs ds : List Clause) : Type 0 where
  pub count : length ds ≡ length cs
  pub literals : (k : ℕ) → (at ds k).literals ≡ (at cs k).literals
  pub kept : (k : ℕ) → (at ds k).kept ≡ (at cs k).kept

-- the trail is longer, on the same level
pub record Extends (t u : Trail) : Type 0 where
  pub variables : u.variables ≡ t.variables
  pub starts : u.starts ≡ t.starts
  pub literals : take (length t.literals) u.literals ≡ t.literals
  pub longer : length t.literals ≤ length u.literals

-- the literals that were true before the first level began
abbrev pub root_of : Trail → List ℕ
root_of t = take (slice_index_or t.starts 0 (length t.literals)) t.literals

-- the literal of each kept unit clause was true before the first level began
abbrev pub AreRooted : Trail → List Clause → Type 0
AreRooted t cs =
    (k : ℕ) → k < length cs → (at cs k).kept ≡ true → (at cs k).first ≡ (at cs k).second
    → Contains (root_of t) (at cs k).first
