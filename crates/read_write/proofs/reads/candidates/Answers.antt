use Rattle.std.proofs.Common.{◌≡◌, ◌∙◌, ◌++◌, ◌<◌, length, get_or, ap, sym, subst, rules}
use Rattle.std.specs.Option.{option_to_list}
use Rattle.std.proofs.lemmas.List.{append-nil}
use Rattle.sym_exec.specs.declared.symbolic.Access.{Access}
use Rattle.sym_exec.proofs.Grown.{grows_both}
use Rattle.order_cells.specs.lawful_order.Events.{Placed}
use Rattle.order_cells.specs.Terms.{AccessIsOf}
use Rattle.read_write.specs.Reading.{candidate_of, test_of}
use Rattle.read_write.proofs.Stays.{test_of_stays}
use Rattle.read_write.proofs.Steps.{block_on, tests_on}
use Rattle.read_write.proofs.reads.candidates.Goals as goal
use Rattle.read_write.proofs.reads.candidates.Goals.{in-Some+in_ok-push, in_default}

pub loop-access-preserved : goal.loop-access-preserved
loop-access-preserved c =
    let all = c.args.accesses.now in
    let k = c.loop-access.access-index in
    let x = c.access-item.result in
    let load = c.args.load.now in
    let first = c.args.terms.now in
    let mid = c.loop-access.terms in
    let last = c.candidate.new.terms in
    let given = c.in_ok-candidate.field-0 in
    let before = c.loop-access.candidates.items in
    let after = c.match-branch-2.candidates.items in
    let within : k < length all = search rules in
    let is : get_or all k x ≡ x = search rules in
    let of : AccessIsOf (length first) x.it = subst (λ (a : Placed Access). AccessIsOf (length first) a.it) is (c.requires.accesses k x within) in
    let grown = c.in_ok-candidate.ensures.grown in
    let more : after ≡ before ++ option_to_list given = elim c.match-branch-2.branch [
      | in-Some+in_ok-push w ↦
          ap (λ v. v.items) w.candidates-is ∙ w.in_ok-push.ensures.items ∙ ap (λ o. before ++ option_to_list o) (sym w.in-Some.is)
      | in_default w ↦ ap (λ v. v.items) w.candidates-is ∙ sym (append-nil before) ∙ ap (λ o. before ++ option_to_list o) (sym w.in_default.is)
    ] in
    record {
      candidates = block_on (λ later. candidate_of c.args.events.now later load) all k x mid last before after given within is grown more
          c.loop-access.invariant.candidates c.in_ok-candidate.ensures.candidate;
      made = tests_on (test_of first load) all k x first mid last (test_of mid load x) within is c.loop-access.invariant.made c.in_ok-candidate.ensures.made
          (test_of_stays first mid c.loop-access.invariant.grown load c.requires.load.cell x of.cell);
      grown = grows_both first mid last c.loop-access.invariant.grown grown;
    }
