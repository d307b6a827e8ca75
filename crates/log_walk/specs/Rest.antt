-- The rest of a log after its first threads.
use Rattle.std.specs.Prelude.{◌≡◌, ℕ, ◌+◌, ◌-◌, ◌==◌, List, [], ◌∷◌, ◌++◌, length, map, Bool, true, false, not, ◌&&◌, ◌||◌, replicate}
use Rattle.std.specs.Prelude.{Option, Some, None, is_some, slice_get, slice_set, slice_index_or, if◌then◌else◌}
use Rattle.std.specs.List.{list_any, zip}
use Rattle.tc_base.specs.Names.{Name, main, child}
use Rattle.tc_base.specs.Paths.{Path, ThreadPath}
use Rattle.tc_code.specs.Code.{Code, instr_at}
use Rattle.tc_code.specs.declared.instr.Instr.{Instr}
use Rattle.tc_code.specs.declared.instr.Instr.TheVariants.{Lock, Join}
use Rattle.thread_paths.specs.Ends.{MayTake}
use Rattle.thread_paths.specs.declared.aim.Aim.{Aim}
use Rattle.thread_paths.specs.declared.aim.End.{End}
use Rattle.thread_paths.specs.declared.aim.End.TheVariants as end
use Rattle.log_walk.specs.Told.{Told, told}
use Rattle.log_walk.specs.declared.bounds.Kind.{Kind}
use Rattle.log_walk.specs.declared.bounds.Kind.TheVariants.{Failure, Deadlock}
use Rattle.log_walk.specs.declared.rest.Awaited.{Awaited}

pub record Rest : Type 0 where
  -- the threads that are created but have no path yet, in the order of their names
  pub awaited : List Awaited
  -- whether one of the first threads ends as one thread of the log must
  pub ends : Bool
  -- for each mutex, whether a thread holds it at the end of its path
  pub held : List Bool
  -- for each mutex, whether a thread waits for it there
  pub waited : List Bool

-- the end of a thread that no path joins
abbrev pub open_end : Kind → End
open_end Failure = end.Open
open_end Deadlock = end.Rest

-- the same for a thread whose create is the last step of its creator
abbrev pub last_end : Kind → End
last_end Failure = end.Used
last_end Deadlock = end.Rest

-- the end of the child with this number, given the path of its creator
abbrev pub end_of : Kind → Told → ℕ → End
end_of kind t k = if list_any (λ j. j == k) t.joined then end.Exit
    else (if t.at_create && k == length t.created then last_end kind else open_end kind)

-- whether a thread stands before a join of its child of that number, which then never exits
abbrev pub waits_for : Kind → Option Instr → Told → ℕ → Bool
waits_for Deadlock (Some (Join h)) t k = slice_index_or t.children h 0 == k
waits_for _ _ t k = false

-- the mutexes that are waited for, with that of a lock which a thread stands before
abbrev pub waits : Kind → Option Instr → List Bool → List Bool
waits Deadlock (Some (Lock m)) waited = slice_set waited m true
waits _ _ waited = waited

-- the children of the named thread after its first k, by their functions
abbrev pub children_from : Kind → Name → Option Instr → Told → ℕ → List ℕ → List Awaited
children_from kind n at t k [] = []
children_from kind n at t k (f ∷ fs) = record {
  name = child n (k + 1);
  function = f;
  end = end_of kind t (k + 1);
  waited = waits_for kind at t (k + 1);
} ∷ children_from kind n at t (k + 1) fs

-- a thread may fail if no path joins it and no other thread fails
abbrev pub may_fail : Kind → Bool → End → Bool
may_fail Failure ends end.Exit = false
may_fail Failure ends _ = not ends
may_fail Deadlock ends e = false

abbrev pub aim_of : Kind → Bool → End → Aim
aim_of kind ends e = record { end = e; may_fail = may_fail kind ends e }

-- whether a path ends as one thread of the log must: with the failure, or, in a deadlock,
-- unfinished
abbrev pub ends_log : Code → Kind → Bool → ℕ → Told → Bool
ends_log code Failure may f t = may && t.at_site
ends_log code Deadlock may f t = is_some (instr_at code f t.place)

-- whether a thread that another waits for has exited, which no deadlock allows
abbrev pub is_free : Code → Awaited → Told → Bool
is_free code c t = c.waited && not (is_some (instr_at code c.function t.place))

-- whether a mutex is held by both
abbrev pub meet : List Bool → List Bool → Bool
meet a b = list_any (λ p. p.0 && p.1) (zip a b)

-- the mutexes that one of the two holds
abbrev pub either : List Bool → List Bool → List Bool
either a b = map (λ p. p.0 || p.1) (zip a b)

-- whether a mutex is waited for that none holds
abbrev pub lacks : List Bool → List Bool → Bool
lacks waited held = list_any (λ p. p.0 && not p.1) (zip waited held)

-- whether one thread ends as it must, and each mutex that is waited for is held
abbrev pub is_whole : Rest → Bool
is_whole rest = rest.ends && not (lacks rest.waited rest.held)

module _ (code : Code) (kind : Kind) where
  -- only main is awaited
  abbrev pub all : Rest
  all = record {
    awaited = record {
      name = main;
      function = length code.functions - 1;
      end = open_end kind;
      waited = false;
    } ∷ [];
    ends = false;
    held = replicate code.mutexes false;
    waited = replicate code.mutexes false;
  }

  -- the rest after an awaited thread takes a path that determines this
  abbrev pub rest_by : Rest → Awaited → List Awaited → Told → Rest
  rest_by rest c others t = record {
    awaited = children_from kind c.name (instr_at code c.function t.place) t 0 t.created ++ others;
    ends = rest.ends || ends_log code kind (may_fail kind rest.ends c.end) c.function t;
    held = either rest.held t.held;
    waited = waits kind (instr_at code c.function t.place) rest.waited;
  }

  -- what is left once the first awaited thread has a path, unless another holds a mutex that it
  -- holds at its end, or it exits though another waits for it
  abbrev pub leave : List Awaited → Rest → Path → Option Rest
  leave [] rest p = None
  leave (c ∷ others) rest p =
      if meet rest.held (told code c.function p).held || is_free code c (told code c.function p)
      then None else Some (rest_by rest c others (told code c.function p))

  -- the first awaited thread may take this path
  pub record Takes (rest : Rest) (t : ThreadPath) (later : Rest) : Type 0 where
    pub next : Awaited
    pub is_next : slice_get rest.awaited 0 ≡ Some next
    pub name : t.name ≡ next.name
    pub may : MayTake code next.function (aim_of kind rest.ends next.end) t.path
    pub leaves : leave rest.awaited rest t.path ≡ Some later

  -- threads make up the rest of a log: each takes its path, none is left, and one ends as it must
  abbrev pub MakeUp : Rest → List ThreadPath → Type 0
  MakeUp rest [] = (rest.awaited ≡ []) × (is_whole rest ≡ true)
  MakeUp rest (t ∷ ts) = (later : Rest) × Takes rest t later × MakeUp later ts
