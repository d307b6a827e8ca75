use Rattle.std.proofs.Common.{◌≡◌, ◌∙◌, ◌++◌, ◌-◌, length, take, drop, ap, subst, arith}
use Rattle.std.proofs.lemmas.List.{length-drop, take_all}
use Rattle.refutation_input.specs.helpers.Incoming.{IsRead}
use Rattle.refutation_input.proofs.Stages.{taken_on, taken_all}
use Rattle.refutation_input.proofs.incoming.Incoming.take.Goals as goal

pub take_line-requires-clause-read : goal.take_line-requires-clause-read
take_line-requires-clause-read c =
    let r = c.requires in
    (r.0, r.1, r.2 ++ take c.loop-from.from c.args.bytes.now, c.loop-from.invariant.read r.0 r.1 r.2 r.3)

pub loop-from-preserved : goal.loop-from-preserved
loop-from-preserved c =
    let bytes = c.args.bytes.now in
    let from = c.loop-from.from in
    let rest : take (length bytes - from) (drop from bytes) ≡ drop from bytes =
    take_all (length bytes - from) (drop from bytes) (omega (arith, length-drop from bytes)) in
    record {
      within = omega (arith, c.in_ok-from.ensures.count.1, ap length rest, length-drop from bytes, c.loop-from-test.true);
      read = λ program log front was.
          subst (IsRead program log c.take_line.new.self)
          (ap (λ bs. (front ++ take from bytes) ++ take c.in_ok-from.field-0 bs) rest ∙ taken_on front bytes from c.in_ok-from.field-0)
          (c.in_ok-from.ensures.read program log (front ++ take from bytes) (c.loop-from.invariant.read program log front was));
    }

pub returns : goal.returns
returns c = λ program log front was.
    subst (IsRead program log c.loop-from.self) (taken_all front c.args.bytes.now c.loop-from.from c.loop-from-test.false)
    (c.loop-from.invariant.read program log front was)
