use Rattle.std.proofs.Common.{◌≡◌, ◌∙◌, ap, suc}
use Rattle.std.proofs.lemmas.Result.{on_ok_weaker}
use Rattle.mutex_states.specs.Ranks.{Ranking}
use Rattle.mutex_clauses.specs.helpers.Logs.{last_in, start_in, turned_in}
use Rattle.mutex_clauses.proofs.Made.{states_made}
use Rattle.mutex_clauses.proofs.log.Log.add_states.Goals as goal

pub returns : goal.returns
returns c =
    let l = c.args.self.now in
    let m = c.args.steps.now.mutex.now.number in
    let f = c.args.circuit.now in
    let ordered = c.in_ok-ordered.ordered in
    let words = c.in_ok-words.words.items in
    let one = c.order.new.circuit in
    let two = c.add_ranks.new.circuit in
    let three = c.add_turns.new.circuit in
    let four = c.add_last.new.circuit in
    let same : c.in_ok-ranks.ranks.start ≡ suc one.vars = ap (λ (r : Ranking). r.start) c.in_ok-ranks.ensures.ranks in
    let last_words = c.in_ok-words.ensures.words
    ∙ ap (λ k. (turned_in l m ordered k (record { formula = two; words = start_in l m })).words) same in
    let last_formula = c.in_ok-words.ensures.formula
    ∙ ap (λ k. (turned_in l m ordered k (record { formula = two; words = start_in l m })).formula) same in
    on_ok_weaker c.add_last.result
    (λ last. states_made l m f ordered words one two three four c.in_ok-ordered.ensures.literal c.in_ok-ordered.ensures.circuit
    c.in_ok-ranks.ensures.circuit
    last_words last_formula (last f ∙ ap (λ ws. last_in l m f ordered ws three) c.as_slice.ensures.value)) c.add_last.ensures
