use Rattle.std.proofs.Common.{◌≡◌, ℕ, List, [], ◌∷◌, ◌++◌, ℤ, refl, ap, sym, ◌∙◌, arith, length}
use Rattle.std.specs.List.{flat_map, range_with_len}
use Rattle.std.proofs.lemmas.List.{append-nil, length-append}
use Rattle.cnf_core.specs.Clauses.{Formula}
use Rattle.bit_order.specs.Layouts.{exclusion}
use Rattle.bit_order.proofs.Chosen.{exclusion_made, exclusion_none}
use Rattle.bit_order.proofs.Ranges.{pieces_step, pieces_within}
use Rattle.bit_order.proofs.choices.exclude_earlier.Goals as goal
use Rattle.bit_order.proofs.choices.exclude_earlier.Goals.{then-choices-earlier+in_ok-push, else-choices-earlier}

pub push-requires-clause-room : goal.push-requires-clause-room
push-requires-clause-room c =
    let start = c.args.start in
    let choices = c.args.choices.now in
    let later = c.args.later in
    let earlier = c.loop-earlier.earlier in
    let f : ℕ → List (List ℤ) = λ k. exclusion start choices k later in
    let old = c.args.circuit.now.clauses in
    let first = c.new-first.result in
    let second = c.new-second.result in
    let piece : List (List ℤ) = (first ∷ second ∷ []) ∷ [] in
    let is : piece ≡ f earlier = exclusion_made start choices earlier later first second c.if-choices-earlier.true c.new-first.ensures.var
    (c.new-first.ensures.negative.0 refl) c.new-second.ensures.var (c.new-second.ensures.negative.0 refl) in
    omega (
      arith,
      ap length is,
      pieces_within f earlier later c.loop-earlier-test.true,
      ap length c.loop-earlier.invariant.clauses,
      length-append old (flat_map f (range_with_len 0 earlier)),
      c.requires.room,
    )

pub loop-earlier-preserved : goal.loop-earlier-preserved
loop-earlier-preserved c =
    let start = c.args.start in
    let choices = c.args.choices.now in
    let later = c.args.later in
    let earlier = c.loop-earlier.earlier in
    let f : ℕ → List (List ℤ) = λ k. exclusion start choices k later in
    let now = c.loop-earlier.circuit.clauses in
    let next = c.if-choices-earlier.circuit.clauses in
    elim c.if-choices-earlier.branch [
      | then-choices-earlier+in_ok-push w ↦
          let first = w.new-first.result in
          let second = w.new-second.result in
          let piece : List (List ℤ) = (first ∷ second ∷ []) ∷ [] in
          let is : piece ≡ f earlier = exclusion_made start choices earlier later first second w.if-choices-earlier.true w.new-first.ensures.var
          (w.new-first.ensures.negative.0 refl) w.new-second.ensures.var (w.new-second.ensures.negative.0 refl) in
          let added : next ≡ now ++ piece = ap (λ (k : Formula). k.clauses) w.circuit-is ∙ w.in_ok-push.ensures.ok in
          record {
            vars = ap (λ (k : Formula). k.vars) w.circuit-is ∙ w.in_ok-push.ensures.vars ∙ c.loop-earlier.invariant.vars;
            clauses = pieces_step f 0 earlier earlier c.args.circuit.now.clauses now next piece c.loop-earlier.invariant.clauses added is (omega arith);
          }
      | else-choices-earlier w ↦
          let same : next ≡ now = ap (λ (k : Formula). k.clauses) w.circuit-is in
          record {
            vars = ap (λ (k : Formula). k.vars) w.circuit-is ∙ c.loop-earlier.invariant.vars;
            clauses = pieces_step f 0 earlier earlier c.args.circuit.now.clauses now next [] c.loop-earlier.invariant.clauses (same ∙ sym (append-nil now))
                (exclusion_none start choices earlier later w.if-choices-earlier.false) (omega arith);
          }
    ]
