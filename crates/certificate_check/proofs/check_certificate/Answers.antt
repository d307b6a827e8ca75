use Rattle.certificate_check.specs.Meanings.{plain_check}
use Rattle.certificate_check.proofs.Answered.{by_files}
use Rattle.certificate_check.proofs.check_certificate.Goals as goal

pub returns-clause-answers : goal.returns-clause-answers
returns-clause-answers g c =
    by_files (plain_check c.args.check.now) (g.H.Shelf.tells c.args.shelf.now) (g.H.Shelf.tells c.run_in_pieces.new.shelf) c.run_in_pieces.result
    (g.K.Sink.tells c.args.sink.now) (g.K.Sink.tells c.run_in_pieces.new.sink) c.run_in_pieces.ensures.runs
