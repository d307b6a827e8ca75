-- What a derivation proves about a log, with its reasons.
use Rattle.std.specs.Prelude.{◌≡◌, ◌≢◌, ◌⊎◌, ℕ, true, false, List, [], ◌∷◌, length, map, Some}
use Rattle.std.specs.List.{All, AllPairs, Contains}
use Rattle.tc_code.specs.int_ops.Arith.{IsInt}
use Rattle.tc_base.specs.Buffers.{BufferOps}
use Rattle.run_log.specs.Logs.{Log}
use Rattle.tc_code.specs.Code.{Code}
use Rattle.store_buffers.specs.Pending.{Binding}
use Rattle.order_formula.specs.Worlds.{IsWorld, World}
use Rattle.order_formula.specs.declared.group.Group.{Group}
use Rattle.order_formula.specs.declared.group.Group.TheVariants.{Condition}
use Rattle.why_impossible.specs.reached_groups.lawful_order.Events.{all_events, all_sleeps}
use Rattle.why_impossible.specs.reached_groups.lawful_order.Lawful.{MeetsRule}
use Rattle.dead_paths.specs.Causes.{cause_of}
use Rattle.refute_check.specs.Refutations.{IsClosed, IsOpen}
use Rattle.refute_check.specs.declared.line.Line.{Line}
use Rattle.clap_solve.specs.Posed.{Posed, posed_of}
use Rattle.clap_solve.specs.Solved.{IsImpossible}
use Rattle.why_impossible.specs.reached_groups.Groups.{AreReachedGroups}
use Rattle.why_impossible.specs.Enders.{EnderRule}
use Rattle.why_impossible.specs.Reasons.{cause_reason, reason_line, reason_of}
use Rattle.why_impossible.specs.declared.explained.Explained.{Explained}
use Rattle.why_impossible.specs.declared.explained.Explained.TheVariants.{Closed, Open}
use Rattle.why_impossible.specs.declared.reason.Reason.{Reason}

-- the reasons name the groups of rules whose clauses a derivation reaches, each once and in order,
-- by names of existing threads; the paths aren't dead
pub record TellsGroups (p : Posed) (lines : List Line) (reasons : List Reason) : Type 0 where
  pub lives : p.paths.dead ≡ false
  pub groups : List Group
  pub reached : AreReachedGroups p.formula p.blasted lines groups
  pub told : map (reason_of p.paths) groups ≡ map Some reasons

-- the only reason is the first cause of dead paths
pub record TellsCause (code : Code) (log : Log) (p : Posed) (reasons : List Reason) : Type 0 where
  pub dead : p.paths.dead ≡ true
  pub told : reasons ≡ cause_reason (cause_of code log) ∷ []

module _ {B : Type 0} (ops : BufferOps B) (bound : Binding) (code : Code) (log : Log) where
  abbrev p : Posed
  p = posed_of ops.buffered bound code log

  -- a world of the log's paths, with int loads, meets the rules of groups; what may end the sleeps
  -- on a condition is a rule of that condition's group
  pub record MeetsRules (groups : List Group) (w : World) : Type 0 where
    pub is : IsWorld w
    pub events : length w.positions ≡ length (all_events p.paths)
    pub loads : length w.loads ≡ p.symbolic.loads
    pub ints : All IsInt w.loads
    pub sleeps : length w.enders ≡ length (all_sleeps p.paths)
    pub rules : All (MeetsRule ops.buffered bound code p.paths p.symbolic p.nodes w) groups
    pub enders : (c : ℕ) → Contains groups (Condition c) → EnderRule p.paths w c

  module _ (lines : List Line) where
    -- no world meets the rules of all the named groups
    pub record RestsOn (reasons : List Reason) : Type 0 where
      pub tells : TellsGroups p lines reasons
      pub never : (w : World) → MeetsRules tells.groups w → ⊥

    -- the derivation is closed on the log's clauses, these are its reasons, each with a line of its
    -- own, and no moves reproduce the log
    pub record IsClosedFor (reasons : List Reason) : Type 0 where
      pub closed : IsClosed p.blasted.clauses lines
      pub rests : RestsOn reasons ⊎ TellsCause code log p reasons
      pub once : AllPairs (λ one other. one ≢ other) (map reason_line reasons)
      pub impossible : IsImpossible ops code log

    abbrev pub IsExplained : Explained → Type 0
    IsExplained (Closed reasons) = IsClosedFor reasons
    IsExplained Open = IsOpen p.blasted.clauses lines
