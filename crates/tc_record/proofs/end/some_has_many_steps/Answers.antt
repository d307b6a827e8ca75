use Rattle.std.proofs.Common.{◌≡◌, ◌∙◌, ◌||◌, true, false, map, sym, ap, rules}
use Rattle.std.specs.Prelude.{nat_lt}
use Rattle.std.specs.List.{list_any}
use Rattle.tc_machine.proofs.Listing.{first_there}
use Rattle.tc_record.specs.declared.end.Which.TheVariants.{Steps}
use Rattle.tc_record.specs.Ends.{limit_of, has_many_steps}
use Rattle.tc_record.proofs.Ends.{first_decides}
use Rattle.tc_record.proofs.end.some_has_many_steps.Goals as goal

pub returns-then-steps-gt-STEPS : goal.returns-then-steps-gt-STEPS
returns-then-steps-gt-STEPS g c =
    let s = c.args.state.now in
    let many : nat_lt (limit_of Steps) c.in-Some.thread.now.local.steps ≡ true = search rules in
    let here = (first_there s.threads c.loop-name._name-iterator c.next.new.self c.in-Some._name.now c.in-Some.thread.now c.in-Some.ensures.steps
    c.loop-name.invariant.there).0 in
    sym (c.loop-name.invariant.left
    ∙ first_decides s c.loop-name._name-iterator c.next.new.self c.in-Some._name.now c.in-Some.thread.now c.in-Some.ensures.steps here
    ∙ ap (λ b. b || list_any (has_many_steps s) (map (λ e. e.0) c.next.new.self)) many)

pub loop-name-preserved : goal.loop-name-preserved
loop-name-preserved g c =
    let s = c.args.state.now in
    let few : nat_lt (limit_of Steps) c.in-Some.thread.now.local.steps ≡ false = search rules in
    let both = first_there s.threads c.loop-name._name-iterator c.next.new.self c.in-Some._name.now c.in-Some.thread.now c.in-Some.ensures.steps
    c.loop-name.invariant.there in
    record {
      left =
          c.loop-name.invariant.left
          ∙ first_decides s c.loop-name._name-iterator c.next.new.self c.in-Some._name.now c.in-Some.thread.now c.in-Some.ensures.steps both.0
          ∙ ap (λ b. b || list_any (has_many_steps s) (map (λ e. e.0) c.next.new.self)) few;
      there = both.1;
    }
