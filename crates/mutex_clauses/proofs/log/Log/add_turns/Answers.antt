use Rattle.std.proofs.Common.{◌≡◌, ◌<◌, ◌∙◌, arith, ap, sym, subst, length, map}
use Rattle.std.specs.List.{All}
use Rattle.std.proofs.lemmas.List.{length-map}
use Rattle.bit_gates.specs.Folded.{HasRoom, IsLarger}
use Rattle.bit_words.specs.Words.{AreWithin}
use Rattle.mutex_states.specs.circuit_sizes.Small.{IsShort}
use Rattle.mutex_states.specs.Steps.{State}
use Rattle.mutex_clauses.specs.shapes.Termed.{termed_steps}
use Rattle.mutex_clauses.specs.helpers.Logs.{start_in}
use Rattle.mutex_clauses.specs.helpers.Starts.{start_word}
use Rattle.mutex_clauses.proofs.Made.{sizes_same, steps_count, turns_made, words_short, words_within}
use Rattle.mutex_clauses.proofs.log.Log.add_turns.Goals as goal

pub add_turns-requires-clause-count : goal.add_turns-requires-clause-count
add_turns-requires-clause-count c =
    let s = c.args.steps.now in
    c.requires.count
    ∙ sym
    (steps_count c.args.self.now s.mutex.now.number s.termed.now
    (length s.mutex.now.spots.items) s.all.now c.requires.steps.termed c.requires.steps.steps)

pub add_turns-requires-clause-loads : goal.add_turns-requires-clause-loads
add_turns-requires-clause-loads c = subst (All (AreWithin c.args.circuit.now.vars)) (sym c.requires.log.loads) c.requires.within.loads

pub add_turns-requires-clause-first : goal.add_turns-requires-clause-first
add_turns-requires-clause-first c =
    let n = c.args.circuit.now.vars in
    let one : 0 < n = omega (arith, c.vars-one.ensures.vars, c.vars-one.ensures.one) in
    subst (All (AreWithin n)) (sym c.in_ok-first.ensures)
    (words_within c.args.self.now.code.now n c.args.steps.now.mutex.now.spots.items one)

pub add_turns-requires-clause-short : goal.add_turns-requires-clause-short
add_turns-requires-clause-short c =
    subst (All IsShort) (sym c.in_ok-first.ensures) (words_short c.args.self.now.code.now c.args.steps.now.mutex.now.spots.items)

pub add_turns-requires-clause-room : goal.add_turns-requires-clause-room
add_turns-requires-clause-room c =
    let s = c.args.steps.now in
    let first = c.in_ok-first.first.items in
    let long : length first ≡ length s.mutex.now.spots.items =
    ap length c.in_ok-first.ensures ∙ length-map s.mutex.now.spots.items (start_word c.args.self.now.code.now) in
    let size =
    sizes_same c.args.self.now s.mutex.now.number (length first) s.all.now
    (long ∙ ap length c.requires.steps.mutex.spots) c.requires.steps.steps in
    record {
      list = s.all.now;
      made = c.requires.steps.termed ∙ ap (λ k. termed_steps k s.all.now) (sym long);
      room = subst (λ n. HasRoom n c.args.circuit.now) (sym size) c.requires.room;
    }

pub returns : goal.returns
returns c =
    let l = c.args.self.now in
    let s = c.args.steps.now in
    let m = s.mutex.now.number in
    let first = c.in_ok-first.first.items in
    let long : length first ≡ length s.mutex.now.spots.items =
    ap length c.in_ok-first.ensures ∙ length-map s.mutex.now.spots.items (start_word l.code.now) in
    let made = c.requires.steps.termed ∙ ap (λ k. termed_steps k s.all.now) (sym long) in
    let begun : first ≡ start_in l m = c.in_ok-first.ensures ∙ ap (map (start_word l.code.now)) c.requires.steps.mutex.spots in
    let size = sizes_same l m (length first) s.all.now (long ∙ ap length c.requires.steps.mutex.spots) c.requires.steps.steps in
    let turns = turns_made l m s.all.now first l.loads.now c.args.ordered c.args.ranks.now.start c.args.circuit.now c.requires.steps.steps
    begun c.requires.log.loads in
    record {
      words = c.in_ok-words.ensures.words s.all.now made ∙ ap (λ (x : State). x.words) turns;
      formula = c.in_ok-words.ensures.formula s.all.now made ∙ ap (λ (x : State). x.formula) turns;
      count = c.in_ok-words.ensures.count ∙ long ∙ ap length c.requires.steps.mutex.spots;
      within = c.in_ok-words.ensures.within;
      larger = subst (λ n. IsLarger n c.args.circuit.now c.add_turns.new.circuit) size (c.in_ok-words.ensures.larger s.all.now made);
    }
