use Rattle.std.proofs.Common.{◌≡◌, [], ◌∷◌, ap, ◌∙◌, subst, arith, Err, None}
use Rattle.std.proofs.lemmas.List.{take_rest}
use Rattle.std.proofs.lemmas.Grind.{common_steps}
use Rattle.refute_check.specs.Reading.{Reading, ReadsTo, beginning, fault_of, bodies}
use Rattle.refute_check.specs.Broken.{IsFaultFrom}
use Rattle.refute_check.specs.declared.text.Taken.TheVariants.{Header}
use Rattle.refute_check.proofs.Pieces.{header-reads, second-line, no-header, text-read, fault-on}
use Rattle.refute_check.proofs.refutation.read_refutation.Goals as goal

pub returns-in_default : goal.returns-in_default
returns-in_default c =
    record {
      found = tt;
      refused = no-header c.args.bytes.now c.in_ok-count.taken c.in_ok-count.count c.take.new.self c.new-text.result c.new-text.ensures c.in_default.not-Header
          (c.in_ok-count.ensures.moves (ap (λ (r : Reading). r.fault) c.new-text.ensures)) c.in_ok-count.ensures.more c.in_ok-count.ensures.form
          c.in_ok-count.ensures.reads;
    }

pub read_lines-requires-clause-second : goal.read_lines-requires-clause-second
read_lines-requires-clause-second c =
    let h = header-reads c.args.bytes.now c.in_ok-count.taken c.in_ok-count.count c.take.new.self c.new-text.result c.in-Header.head c.new-text.ensures
    c.in-Header.is (c.in_ok-count.ensures.moves (ap (λ (r : Reading). r.fault) c.new-text.ensures)) c.in_ok-count.ensures.reads in
    second-line c.take.new.self c.in_ok-count.count c.args.bytes.now c.in-Header.head h (c.in_ok-count.ensures.form ∙ ap fault_of c.in-Header.is)

pub returns-in_err-derivation-clause-refused : goal.returns-in_err-derivation-clause-refused
returns-in_err-derivation-clause-refused c =
    let h = header-reads c.args.bytes.now c.in_ok-count.taken c.in_ok-count.count c.take.new.self c.new-text.result c.in-Header.head c.new-text.ensures
    c.in-Header.is (c.in_ok-count.ensures.moves (ap (λ (r : Reading). r.fault) c.new-text.ensures)) c.in_ok-count.ensures.reads in
    let is : c.from_residual-in_err-derivation.result ≡ Err c.in_err-derivation.field-0.0 = grind (arith, common_steps) in
    rw is
    (fault-on c.in_ok-count.count c.args.bytes.now beginning c.take.new.self (Header c.in-Header.head ∷ []) c.in_err-derivation.field-0.0 h
    (subst (λ bs. IsFaultFrom c.take.new.self bs c.in_err-derivation.field-0.0) (take_rest c.args.bytes.now c.in_ok-count.count)
    c.in_err-derivation.ensures.refused))

pub returns-clause-found : goal.returns-clause-found
returns-clause-found c =
    let h = header-reads c.args.bytes.now c.in_ok-count.taken c.in_ok-count.count c.take.new.self c.new-text.result c.in-Header.head c.new-text.ensures
    c.in-Header.is (c.in_ok-count.ensures.moves (ap (λ (r : Reading). r.fault) c.new-text.ensures)) c.in_ok-count.ensures.reads in
    text-read c.in_ok-count.count c.args.bytes.now c.take.new.self c.in-Header.head c.in_ok-derivation.derivation h
    (subst (λ bs. ReadsTo c.take.new.self bs (bodies c.in_ok-derivation.derivation) None) (take_rest c.args.bytes.now c.in_ok-count.count)
    c.in_ok-derivation.ensures.found)
