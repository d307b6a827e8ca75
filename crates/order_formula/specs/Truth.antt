-- The truth of a formula in a world.
use Rattle.std.specs.Prelude.{◌≡◌, ◌≤◌, length, ℕ, ℤ, pos, List, filter, Option, Bool, true, not, ◌&&◌, ◌||◌, if◌then◌else◌}
use Rattle.std.specs.Bool.{beq}
use Rattle.std.specs.List.{Contains, list_all, list_any, reduce}
use Rattle.std.specs.Option.{option_map_or}
use Rattle.std.specs.Ordering.{int_eq}
use Rattle.sym_terms.specs.Values.{Table, AreKnown, value_of}
use Rattle.sym_terms.specs.declared.node.Node.{Node}
use Rattle.order_formula.specs.declared.literal.Atom.{Atom}
use Rattle.order_formula.specs.declared.literal.Atom.TheVariants.{Before, Ends, Test}
use Rattle.order_formula.specs.declared.literal.Literal.{Literal}
use Rattle.order_formula.specs.declared.read.Candidate.{Candidate}
use Rattle.order_formula.specs.declared.formula.Body.{Body}
use Rattle.order_formula.specs.declared.formula.Body.TheVariants as body
use Rattle.order_formula.specs.declared.formula.Conjunct.{Conjunct}
use Rattle.order_formula.specs.Reads.{Read}
use Rattle.order_formula.specs.Worlds.{World, position, is_before, is_ended}

-- the table has the world's values of loads, right values of nodes, and room for all nodes
pub record Serves (nodes : List Node) (w : World) (table : Table) : Type 0 where
  pub symbols : table.symbols ≡ w.loads
  pub known : AreKnown nodes table
  pub room : length nodes ≤ table.room

-- the later of two writes
abbrev pub later_of : World → Candidate → Candidate → Candidate
later_of w c d = if is_before w c.event d.event then d else c

module _ (nodes : List Node) (w : World) where
  -- the value of a term in the world
  abbrev pub value_at : ℕ → ℤ
  value_at term = value_of nodes w.loads term

  -- a test passes if its term is nonzero
  abbrev pub passes_at : ℕ → Bool
  passes_at term = not (int_eq (value_at term) (pos 0))

  abbrev pub atom_at : Atom → Bool
  atom_at (Before first second) = is_before w first second
  atom_at (Ends sleep by) = is_ended w sleep by
  atom_at (Test term) = passes_at term

  abbrev pub literal_at : Literal → Bool
  literal_at l = beq (atom_at l.atom) l.wanted

  -- a case holds if all its literals hold
  abbrev pub case_at : List Literal → Bool
  case_at literals = list_all literal_at literals

  -- a load sees the writes that are earlier on its own path or come before it in the order
  abbrev pub is_seen : Read → Candidate → Bool
  is_seen r c = c.earlier || is_before w c.event r.event

  -- whether a write is to the load's cell
  abbrev pub is_to_cell : Candidate → Bool
  is_to_cell c = option_map_or passes_at c.same_cell true

  abbrev pub is_read : Read → Candidate → Bool
  is_read r c = is_seen r c && is_to_cell c

  -- the last write that the load sees and that is to its cell, if any
  abbrev pub source_at : Read → Option Candidate
  source_at r = reduce (later_of w) (filter (is_read r) r.candidates)

  -- the load takes its value from c, the last write to its cell that it sees
  pub record IsSource (r : Read) (c : Candidate) : Type 0 where
    pub among : Contains r.candidates c
    pub read : is_read r c ≡ true
    pub last : (d : Candidate) → Contains r.candidates d → is_read r d ≡ true
        → position w d.event ≤ position w c.event

  -- the load takes the value of its source, or its cell's initial value if it has none
  abbrev pub read_at : Read → Bool
  read_at r =
      int_eq (value_at r.takes)
      (option_map_or (λ c. value_at c.value) (source_at r) (value_at r.start))

  -- one of the cases holds, or the load takes the right value
  abbrev pub body_at : Body → Bool
  body_at (body.Any cases) = list_any case_at cases
  body_at (body.Read r) = read_at r

  -- a formula is true if all its conjuncts are true
  abbrev pub holds_at : List Conjunct → Bool
  holds_at formula = list_all (λ c. body_at c.body) formula
