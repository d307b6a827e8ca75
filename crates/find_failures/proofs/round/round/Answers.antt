use Rattle.std.proofs.Common.{◌≡◌, ◌∙◌, ◌+◌, List, Option, Some, None, Vec, Global, sym, ap, subst}
use Rattle.std.specs.Prelude.{option_map}
use Rattle.tc_base.specs.Paths.{ThreadPath}
use Rattle.run_log.specs.declared.log.ThreadPath.{ThreadPath as LogThread}
use Rattle.slot_liveness.specs.Tables.{liveness}
use Rattle.log_walk.specs.Given.{Given, IsFirst}
use Rattle.find_failures.specs.Runs.{AreExcluded}
use Rattle.find_failures.specs.helpers.Gone.{IsTried}
use Rattle.find_failures.proofs.Many.{AreManyTo, none_yet, one_more}
use Rattle.find_failures.proofs.Steps.{IsThroughTo, round_done, next_reached, next_through}
use Rattle.find_failures.proofs.Through.{begin}
use Rattle.find_failures.proofs.round.round.Goals as goal

abbrev items : Option (Vec LogThread Global) → Option (List ThreadPath)
items o = option_map (λ v. v.items) o

pub logs-init : goal.logs-init
logs-init g c = record {
  gone = c.requires.gone;
  kept = λ none. none;
  one = tt;
  through = λ none. begin c.args.program.code.now _ _ _;
  many = none_yet c.args.program.code.now c.args.asked;
}

pub try_new-requires-clause-settled : goal.try_new-requires-clause-settled
try_new-requires-clause-settled g c = λ none. c.requires.settled (c.logs.invariant.kept none)

pub try_new-requires-clause-reached : goal.try_new-requires-clause-reached
try_new-requires-clause-reached g c =
    let given : Given = record { threads = items c.given.inside.threads; out = c.given.inside.out } in
    let first : IsFirst c.args.program.code.now (liveness c.args.program.live.now) (record { kind = c.args.asked.kind; most = c.args.level }) (items c.logs.last) given =
    subst (IsFirst c.args.program.code.now (liveness c.args.program.live.now) (record { kind = c.args.asked.kind; most = c.args.level }) (items c.logs.last)) (sym c.given.view_is)
    c.in_ok-given.ensures in
    let some : given.threads ≡ Some c.deref.result.now = ap items c.in-Some.is ∙ ap Some (sym c.deref.ensures.value) in
    next_reached g.M.MemoryModel.ops g.M.MemoryModel.MODEL g.M.MemoryModel.bound c.args.program.code.now (liveness c.args.program.live.now) c.args.asked c.args.level
    (items c.logs.last) given c.logs.out c.both-out.result c.logs.gone first c.both-out.ensures c.logs.invariant.through
    c.deref.result.now some c.requires.closed (λ none. c.requires.settled (c.logs.invariant.kept none))

pub returns-in_default : goal.returns-in_default
returns-in_default g c =
    let given : Given = record { threads = items c.given.inside.threads; out = c.given.inside.out } in
    let first : IsFirst c.args.program.code.now (liveness c.args.program.live.now) (record { kind = c.args.asked.kind; most = c.args.level }) (items c.logs.last) given =
    subst (IsFirst c.args.program.code.now (liveness c.args.program.live.now) (record { kind = c.args.asked.kind; most = c.args.level }) (items c.logs.last)) (sym c.given.view_is)
    c.in_ok-given.ensures in
    round_done g.M.MemoryModel.ops g.M.MemoryModel.MODEL g.M.MemoryModel.bound c.args.program.code.now (liveness c.args.program.live.now) c.args.asked c.args.level
    (items c.logs.last) given c.logs.out c.both-out.result c.logs.gone first c.both-out.ensures c.logs.invariant.through
    (ap items c.in_default.is) c.logs.invariant.gone

pub logs-preserved : goal.logs-preserved
logs-preserved g c =
    let given : Given = record { threads = items c.given.inside.threads; out = c.given.inside.out } in
    let first : IsFirst c.args.program.code.now (liveness c.args.program.live.now) (record { kind = c.args.asked.kind; most = c.args.level }) (items c.logs.last) given =
    subst (IsFirst c.args.program.code.now (liveness c.args.program.live.now) (record { kind = c.args.asked.kind; most = c.args.level }) (items c.logs.last)) (sym c.given.view_is)
    c.in_ok-given.ensures in
    let some : given.threads ≡ Some c.deref.result.now = ap items c.in-Some.is ∙ ap Some (sym c.deref.ensures.value) in
    let tried : IsTried g.M.MemoryModel.ops g.M.MemoryModel.MODEL g.M.MemoryModel.bound c.args.program.code.now c.args.asked c.logs.gone c.try_new.new.gone
    (AreExcluded g.M.MemoryModel.ops g.M.MemoryModel.MODEL c.args.program.code.now (liveness c.args.program.live.now) c.args.asked.kind c.deref.result.now) None =
    subst (IsTried g.M.MemoryModel.ops g.M.MemoryModel.MODEL g.M.MemoryModel.bound c.args.program.code.now c.args.asked c.logs.gone c.try_new.new.gone
    (AreExcluded g.M.MemoryModel.ops g.M.MemoryModel.MODEL c.args.program.code.now (liveness c.args.program.live.now) c.args.asked.kind c.deref.result.now))
    c.in_default-possible.is c.in_ok-possible.ensures in
    record {
      gone = tried.0;
      kept = λ none. c.logs.invariant.kept (tried.1 none).0;
      one = first.is_one;
      through = λ none.
          subst (λ o. IsThroughTo g.M.MemoryModel.ops g.M.MemoryModel.MODEL g.M.MemoryModel.bound c.args.program.code.now (liveness c.args.program.live.now) c.args.asked c.args.level o c.both-out.result) (sym some)
          (next_through g.M.MemoryModel.ops g.M.MemoryModel.MODEL g.M.MemoryModel.bound c.args.program.code.now (liveness c.args.program.live.now) c.args.asked c.args.level
          (items c.logs.last) given c.logs.out c.both-out.result c.logs.gone first c.both-out.ensures c.logs.invariant.through
          c.deref.result.now some c.try_new.new.gone tried none);
      many = subst (AreManyTo c.args.program.code.now c.args.asked (c.logs.count + 1)) (sym some)
          (one_more c.args.program.code.now c.args.asked (liveness c.args.program.live.now) c.args.level c.logs.count (items c.logs.last) given c.deref.result.now c.requires.level first some
          c.logs.invariant.many);
    }
