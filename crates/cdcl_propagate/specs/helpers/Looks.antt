-- What a look at a clause finds.
use Rattle.std.specs.Prelude.{◌≡◌, ◌≢◌, ℕ, ◌<◌, true, false, List, length, slice_index_or, Contains}
use Rattle.cdcl_literals.specs.Literals.{opposite_of}
use Rattle.cdcl_trail.specs.Trail.{Trail, IsOpen}
use Rattle.cdcl_clauses.specs.Clauses.{Clause, at, watches, beside, listed}
use Rattle.cdcl_clauses.specs.Invariants.{HasTrue}
use Rattle.cdcl_clauses.specs.declared.watches.Watch.{Watch}
use Rattle.cdcl_propagate.specs.declared.inspect.Look.{Look}
use Rattle.cdcl_propagate.specs.declared.inspect.Look.TheVariants.{Satisfied, Gone, Moves, Forces, Conflict}

-- the clause watches `fallen`, which has become false, and `other`
pub record Watching (cs : List Clause) (fallen clause other : ℕ) : Type 0 where
  pub watching : watches (at cs clause) fallen ≡ true
  pub beside_it : other ≡ beside (at cs clause) fallen

-- all of these literals are false, except perhaps `other`
abbrev pub AllFalseBut : Trail → List ℕ → ℕ → Type 0
AllFalseBut t ls other = (x : ℕ) → Contains ls x → x ≢ other → Contains t.literals (opposite_of x)

-- `next` is one of these literals, isn't false, and isn't `other`
pub record IsFound (t : Trail) (ls : List ℕ) (other next : ℕ) : Type 0 where
  pub has : Contains ls next
  pub apart : next ≢ other
  pub not_false : Contains t.literals (opposite_of next) → ⊥

-- what each outcome of a look at a watch means
abbrev pub Finds : Trail → List Clause → ℕ → Watch → Look → Type 0
Finds t cs fallen w Satisfied =
    watches (at cs w.clause) fallen ≡ true → HasTrue t.literals (at cs w.clause)
Finds t cs fallen w Gone = watches (at cs w.clause) fallen ≡ false
Finds t cs fallen w (Moves clause other next) =
    (clause ≡ w.clause) × Watching cs fallen clause other
    × IsFound t (at cs clause).literals other next
Finds t cs fallen w (Forces clause other) =
    (clause ≡ w.clause) × Watching cs fallen clause other × IsOpen t other
    × AllFalseBut t (at cs clause).literals other
Finds t cs fallen w (Conflict clause) =
    (clause ≡ w.clause) × Watching cs fallen clause (beside (at cs clause) fallen)
    × ((x : ℕ) → Contains (at cs clause).literals x → Contains t.literals (opposite_of x))

-- each clause that watches the literal has a true literal
abbrev pub IsVisited : Trail → List Clause → ℕ → Type 0
IsVisited t cs fallen =
    (k : ℕ) → k < length cs → watches (at cs k) fallen ≡ true → HasTrue t.literals (at cs k)

-- the same for the watches before a place of the literal's list
abbrev pub IsVisitedBelow : Trail → List Clause → List (List Watch) → ℕ → ℕ → Type 0
IsVisitedBelow t cs ws fallen place =
    (p : ℕ) (d : Watch) → p < place
    → watches (at cs (slice_index_or (listed ws fallen) p d).clause) fallen ≡ true
    → HasTrue t.literals (at cs (slice_index_or (listed ws fallen) p d).clause)
