use Rattle.std.proofs.Common.{◌≤◌, length, subst}
use Rattle.mutex_clauses.specs.helpers.Logs.{size_in}
use Rattle.mutex_clauses.proofs.Next.{few_of, next_more, room_of}
use Rattle.mutex_clauses.proofs.log.Log.add_fitting.Goals as goal

pub add_states-requires-clause-few : goal.add_states-requires-clause-few
add_states-requires-clause-few c =
    few_of (size_in c.args.self.now c.args.steps.now.mutex.now.number) c.args.room c.in_ok-size.size c.in_ok-size.ensures c.requires.most
    c.if-size-room.false

pub add_states-requires-clause-room : goal.add_states-requires-clause-room
add_states-requires-clause-room c =
    room_of (size_in c.args.self.now c.args.steps.now.mutex.now.number) c.args.room c.in_ok-size.size c.args.circuit.now
    c.in_ok-size.ensures c.requires.most
    c.if-size-room.false c.requires.room

pub returns : goal.returns
returns c =
    next_more c.args.self.now c.args.steps.now.mutex.now.number c.args.circuit.now c.add_states.new.circuit c.args.room c.in_ok-size.size
    c.in_ok-size.ensures
    c.requires.most c.if-size-room.false (subst (λ xs. 2 ≤ length xs) c.requires.steps.steps c.requires.several)
    (subst (λ xs. 1 ≤ length xs) c.requires.steps.mutex.spots c.requires.some) c.in_ok-add_states.ensures
