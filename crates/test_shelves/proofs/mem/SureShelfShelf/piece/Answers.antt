use Rattle.std.proofs.Common.{rules, refl, ap}
use Rattle.test_shelves.proofs.Pieces.{gave_piece}
use Rattle.tc_io.specs.Faults.{no_faults}
use Rattle.test_shelves.specs.Mem.{PlainSureShelf}
use Rattle.test_shelves.proofs.mem.SureShelfShelf.piece.Goals as goal

pub returns-clause-ok : goal.returns-clause-ok
returns-clause-ok c =
    gave_piece c.args.self.now.held c.args.self.now.taken c.saturating_add-self-inside.result no_faults c.unwrap-reading.result c.give-count.new.self
    c.bytes-bytes.result.now c.give-count.new.buf c.give-count.result c.args.self.now.reading c.self.inside.files no_faults
    (ap (λ (s : PlainSureShelf). s.held) c.self.view_is) refl (search rules) (search rules) (search rules) (search rules) (search rules) (search rules) (search rules)
