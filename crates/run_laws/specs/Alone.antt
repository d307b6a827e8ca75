-- One thread alone: what it does, given the values that it reads.
use Rattle.std.specs.Prelude.{◌≡◌, Bool, ℕ, zero, suc, ◌+◌, ◌-◌, ℤ, pos, List, [], ◌∷◌, ◌++◌, length, map, Some, if◌then◌else◌}
use Rattle.std.specs.Option.{option_map_or}
use Rattle.std.specs.Ordering.{eq_by_cmp}
use Rattle.std.specs.FinMap as fin
use Rattle.tc_code.specs.tc_base.Names.{Name, main, child, by_name}
use Rattle.tc_code.specs.tc_base.Buffers.{BufferOps}
use Rattle.tc_code.specs.tc_base.States.{Local, Thread, State}
use Rattle.tc_code.specs.tc_base.declared.moves.Move.{Move}
use Rattle.tc_code.specs.tc_base.declared.moves.Move.TheVariants as move
use Rattle.tc_code.specs.Expr.{Expr}
use Rattle.tc_code.specs.declared.instr.Instr.{Instr}
use Rattle.tc_code.specs.declared.instr.Instr.TheVariants.{Create}
use Rattle.tc_code.specs.Code.{Code}
use Rattle.tc_code.specs.tc_base.declared.request.Request.{Request}
use Rattle.tc_code.specs.tc_base.declared.request.Request.TheVariants.{Read, Exchange, Fail}
use Rattle.tc_code.specs.Step.{request, step_in_place, value_in, local_after, instr_of, loaded, in_memory, born, step}
use Rattle.tc_code.specs.Run.{run}

-- whether two names are equal
abbrev pub same : Name → Name → Bool
same m n = eq_by_cmp by_name m n

-- a thread and the values that its remaining reads return
pub record Alone : Type 0 where
  pub local : Local
  pub values : List ℤ

-- the thread after an instruction with this request; a request that reads takes the first value
abbrev pub after_request : Local → Instr → List ℤ → Request → Alone
after_request t i (v ∷ vs) (Read c) = record { local = local_after t i v; values = vs }
after_request t i (v ∷ vs) (Exchange c _) = record { local = local_after t i v; values = vs }
after_request t i vs Fail = record { local = step_in_place t; values = vs }
after_request t i vs _ = record { local = local_after t i (pos 0); values = vs }

-- the thread after its next instruction; unchanged if it has none
abbrev pub goes_on : Code → Alone → Alone
goes_on code a =
    option_map_or (λ i. after_request a.local i a.values (request a.local i))
    (instr_of code a.local) a

-- the thread after k steps
abbrev pub after_steps : Code → ℕ → Alone → Alone
after_steps code zero a = a
after_steps code (suc k) a = after_steps code k (goes_on code a)

module _ {B : Type 0} (ops : BufferOps B) (code : Code) where
  -- the value that a thread's request reads, if it reads one
  abbrev pub taken_by : State B → Thread B → Request → List ℤ
  taken_by s t (Read c) = loaded ops s t c ∷ []
  taken_by s t (Exchange c _) = in_memory s c ∷ []
  taken_by s t _ = []

  -- the value that a move reads, if it is a read by the named thread
  abbrev pub taken_in : State B → Name → Move → List ℤ
  taken_in s q (move.Run n) =
      if same q n
      then option_map_or
      (λ t. option_map_or (λ i. taken_by s t (request t.local i)) (instr_of code t.local) [])
      (fin.get s.threads n) []
      else []
  taken_in s q _ = []

  -- the values that the named thread reads in a run from a state, in order
  abbrev pub taken_from : State B → Name → List Move → List ℤ
  taken_from s q [] = []
  taken_from s q (m ∷ ms) =
      taken_in s q m ++ option_map_or (λ u. taken_from u q ms) (step ops code s m) []

  -- these moves create the named thread, which runs this function with these arguments
  pub data Creation : Name → List Move → ℕ → List ℤ → Type 0 where
    -- main exists before the first move and runs the last function
    Of_main : Creation main [] (length code.functions - 1) []
    -- the parent's create names the function and the arguments
    By_parent : (moves : List Move) (s : State B) (p : Name) (t : Thread B) (h f : ℕ)
        (es : List Expr) → run ops code moves ≡ Some s
        → fin.get s.threads p ≡ Some t → instr_of code t.local ≡ Some (Create h f es)
        → Creation (child p (t.local.children + 1)) (moves ++ move.Run p ∷ []) f
        (map (value_in t.local) es)

  -- how the named thread begins in a run: the first moves create it at the start of its function
  pub record Beginning (n : Name) (moves : List Move) : Type 0 where
    pub first : List Move
    pub rest : List Move
    pub split : moves ≡ first ++ rest
    pub state : State B
    pub leads : run ops code first ≡ Some state
    pub function : ℕ
    pub arguments : List ℤ
    pub creation : Creation n first function arguments
    pub there : fin.get state.threads n ≡ Some (born ops code function arguments)

  -- the local state of a thread with this beginning after k steps, run alone
  abbrev pub alone_since : (n : Name) (moves : List Move) → Beginning n moves → ℕ → Local
  alone_since n moves b k =
      let start = (born ops code b.function b.arguments).local in
      (after_steps code k (record { local = start; values = taken_from b.state n b.rest })).local
