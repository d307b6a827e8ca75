use Rattle.std.proofs.Common.{◌∙◌, [], ap, sym, subst, take}
use Rattle.std.specs.Prelude.{if◌then◌else◌, nat_eq}
use Rattle.refute_check.specs.Reading.{Reading, Reads, lines_of}
use Rattle.why_command.proofs.PlainTexts.{is_broken_at}
use Rattle.why_command.proofs.plain.first_broken.Goals as goal

pub returns-then-counts_switches : goal.returns-then-counts_switches
returns-then-counts_switches c =
    let bytes = c.args.bytes.now in
    let t = c.in_ok-taken.taken in
    is_broken_at bytes t.0 t.1 c.take.new.self c.args.line 1 c.requires (c.in_ok-taken.ensures.moves (ap (λ (s : Reading). s.fault) c.new.ensures))
    c.in_ok-taken.ensures.more
    (subst (λ s. Reads s (take t.0 bytes) (if nat_eq t.0 0 then [] else lines_of t.1) c.take.new.self) c.new.ensures c.in_ok-taken.ensures.reads)
    (ap (λ b. if b then 1 else c.args.line) (sym c.counts_switches.ensures ∙ c.if-counts_switches.true))

pub returns : goal.returns
returns c =
    let bytes = c.args.bytes.now in
    let t = c.in_ok-taken.taken in
    is_broken_at bytes t.0 t.1 c.take.new.self c.args.line c.args.line c.requires
    (c.in_ok-taken.ensures.moves (ap (λ (s : Reading). s.fault) c.new.ensures)) c.in_ok-taken.ensures.more
    (subst (λ s. Reads s (take t.0 bytes) (if nat_eq t.0 0 then [] else lines_of t.1) c.take.new.self) c.new.ensures c.in_ok-taken.ensures.reads)
    (ap (λ b. if b then 1 else c.args.line) (sym c.counts_switches.ensures ∙ c.if-counts_switches.false))
