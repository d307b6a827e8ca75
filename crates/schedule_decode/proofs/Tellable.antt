-- Everything that the moves of a lawful world's events need exists.
use Rattle.std.proofs.Common.{◌≡◌, ℕ, ◌≤◌, List, length, Option, Some, None, sym, subst, arith}
use Rattle.std.specs.Prelude.{slice_get}
use Rattle.std.specs.List.{All}
use Rattle.std.specs.Option.{IfSome}
use Rattle.std.proofs.lemmas.Option.{slice_get_within, get_or_from_slice_get}
use Rattle.store_buffers.specs.tc_base.Buffers.{BufferOps}
use Rattle.schedule_file.specs.tc_limits.declared.limits.TheConstants.{CELLS, STEPS}
use Rattle.store_buffers.specs.memory_models.declared.model.Model.{Model}
use Rattle.tc_code.specs.Code.{Code}
use Rattle.store_buffers.specs.Pending.{Binding}
use Rattle.path_walk.specs.Paths.{Walk}
use Rattle.sym_terms.specs.declared.node.Node.{Node}
use Rattle.tc_code.specs.declared.cell.Cell.{Cell}
use Rattle.path_execution.specs.declared.execution.Execution.{Execution}
use Rattle.order_formula.specs.Worlds.{World}
use Rattle.lawful_terms.specs.lawful_order.Memory.{cell_of}
use Rattle.world_moves.specs.Needs.{IsNumbered, AreTellable}
use Rattle.world_moves.specs.path_laws.Setting.{Setting, setting_of}
use Rattle.plan_runs.proofs.Laws.{given}
use Rattle.schedule_decode.specs.Decodable.{HaveRoom, IsDecodable}
use Rattle.schedule_decode.proofs.Known.{IsOfMemory, AreKnown, are_known}

-- what holds for all elements holds for the one at a place
pub of_all : {X : Type 0} (P : X → Type 0) (xs : List X) → All P xs → (k : ℕ) (x : X) → slice_get xs k ≡ Some x → P x
of_all P xs all k x at = subst P (get_or_from_slice_get xs k x x at) (all k x (slice_get_within xs k x at))

-- a cell of memory has a number of 32 bits
numbered : (code : Code) (nodes : List Node) (w : World) → length code.memory ≤ CELLS → (o : Option (Cell ℕ))
    → IfSome o (IsOfMemory code nodes w) → IfSome o (IsNumbered nodes w)
numbered code nodes w few None is = tt
numbered code nodes w few (Some c) is = record { terms = is.terms; number = omega (arith, is.number, few) }

module _ {B : Type 0} (ops : BufferOps B) (model : Model) (bound : Binding) (code : Code) (x : Execution) (w : World)
    (d : IsDecodable ops model bound code x w) where
  abbrev its : Setting B
  its = setting_of ops model bound code d.log d.laws d.code_is d.log_is

  pub all_known : AreKnown ops.buffered code x w
  all_known =
      subst (λ (y : Execution). AreKnown ops.buffered code y w) (sym d.is) (are_known its d.first d.more w d.lawful (given its d.first w d.lawful))

  pub are_tellable : HaveRoom x.paths → AreTellable ops.buffered x w
  are_tellable room p e before is =
      let k = all_known p e before is in
      let steps = of_all (λ (q : Walk). length q.places ≤ STEPS) x.paths.threads room.steps e.1.thread k.walk k.there in
      record {
        next = omega (arith, k.step, steps);
        cell = λ waits. numbered code x.terms w d.code_is.cells (cell_of x.symbolic e.1.thread e.1.it.step) (k.cell waits);
      }
