use Rattle.std.proofs.Common.{◌≡◌, ◌∙◌, ◌++◌, append-nil, map, subst, sym}
use Rattle.std.specs.List.{Contains, flat_map}
use Rattle.tc_machine.specs.Moves.{move_of, moves_of, enabled_moves}
use Rattle.tc_machine.proofs.Listing.{first_there, listed_thread, every_enabled_move_is_listed}
use Rattle.tc_machine.proofs.listed.choices.Goals as goal

pub push_moves-requires-clause-there : goal.push_moves-requires-clause-there
push_moves-requires-clause-there g c =
    (first_there c.args.state.now.threads c.loop-name.name-iterator c.next.new.self c.in-Some.name.now c.in-Some.thread.now c.in-Some.ensures.steps
    c.loop-name.invariant.there).0

pub loop-name-preserved : goal.loop-name-preserved
loop-name-preserved g c = record {
  found =
      listed_thread (moves_of g.M.MemoryModel.ops c.args.code.now c.args.state.now) (map move_of c.loop-name.found.items)
      (map move_of c.push_moves.new.found.items) (enabled_moves g.M.MemoryModel.ops c.args.code.now c.args.state.now) c.loop-name.name-iterator
      c.next.new.self c.in-Some.name.now c.in-Some.thread.now c.in-Some.ensures.steps c.in_ok-push_moves.ensures c.loop-name.invariant.found;
  there =
      (first_there c.args.state.now.threads c.loop-name.name-iterator c.next.new.self c.in-Some.name.now c.in-Some.thread.now c.in-Some.ensures.steps
      c.loop-name.invariant.there).1;
}

pub returns-clause-all : goal.returns-clause-all
returns-clause-all g c m enabled =
    let f = moves_of g.M.MemoryModel.ops c.args.code.now c.args.state.now in
    let all = enabled_moves g.M.MemoryModel.ops c.args.code.now c.args.state.now in
    let found = map move_of c.loop-name.found.items in
    let whole : found ≡ all =
    sym (append-nil found) ∙ subst (λ es. found ++ flat_map f (map (λ e. e.0) es) ≡ all) c.in-None.ensures.steps.0 c.loop-name.invariant.found in
    subst (λ ms. Contains ms m) (sym whole)
    (every_enabled_move_is_listed g.M.MemoryModel.ops _ _ g.met.M.MemoryModel.laws c.args.code.now c.recall_lawful.ensures c.args.state.now
    c.requires.reached m enabled)
