use Rattle.std.proofs.Common.{◌≡◌, Some, subst, sym, length}
use Rattle.tc_code.specs.Code.{instr_at}
use Rattle.sym_exec.specs.helpers.Threads.{doing_of}
use Rattle.sym_exec.specs.Thread.{HasTerms}
use Rattle.sym_exec.proofs.Sound.{instr_named, instr_goes}
use Rattle.sym_exec.proofs.thread.Thread.step.Goals as goal

pub follow-requires-clause-names : goal.follow-requires-clause-names
follow-requires-clause-names c =
    let at : instr_at c.args.code.now c.args.walk.now.function c.args.place ≡ Some c.in-Some.instr.now =
    subst (λ f. instr_at c.args.code.now f c.args.place ≡ Some c.in-Some.instr.now) c.function.ensures (sym c.in-Some.ensures.seen) in
    instr_named c.args.code.now c.args.walk.now.function c.args.place (length c.args.self.now.slots.items) c.in-Some.instr.now
    c.in-Some.ensures.lawful at c.requires.ints

pub returns-clause-sound : goal.returns-clause-sound
returns-clause-sound c =
    let at : instr_at c.args.code.now c.args.walk.now.function c.args.place ≡ Some c.in-Some.instr.now =
    subst (λ f. instr_at c.args.code.now f c.args.place ≡ Some c.in-Some.instr.now) c.function.ensures (sym c.in-Some.ensures.seen) in
    let named = instr_named c.args.code.now c.args.walk.now.function c.args.place (length c.args.self.now.slots.items) c.in-Some.instr.now
    c.in-Some.ensures.lawful at c.requires.ints in
    let d = doing_of c.args.self.now c.args.terms.now in
    let goes = instr_goes c.in-Some-line.line c.wanted-wanted.result d c.in-Some.instr.now c.requires.sound named in
    let s : HasTerms (doing_of c.follow.new.self c.follow.new.terms) = subst HasTerms (sym c.in_ok-follow.ensures.done) goes.sound in
    record { slots = s.slots; creates = s.creates }
