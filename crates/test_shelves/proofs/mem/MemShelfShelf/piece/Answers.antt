use Rattle.std.proofs.Common.{rules, sym, ◌∙◌, ap, subst, IsSome}
use Rattle.tc_io.proofs.Pieces.{is_open}
use Rattle.test_shelves.proofs.Pieces.{gave_piece}
use Rattle.test_shelves.specs.Mem.{PlainShelf}
use Rattle.test_shelves.specs.Readings.{name_of}
use Rattle.test_shelves.proofs.mem.MemShelfShelf.piece.Goals as goal

pub unwrap-reading-requires : goal.unwrap-reading-requires
unwrap-reading-requires c =
    is_open (λ r. r.name) c.take.result
    (subst (λ o. IsSome (name_of o)) (sym (c.take.ensures.value ∙ ap (λ (s : PlainShelf). s.reading) c.self.view_is)) c.requires.opened)

pub returns-in_default-clause-ok : goal.returns-in_default-clause-ok
returns-in_default-clause-ok c =
    gave_piece c.args.self.now.held c.args.self.now.taken c.saturating_add-self-inside.result c.args.self.now.faults c.unwrap-reading.result
    c.give-count.new.self c.bytes-bytes.result.now c.give-count.new.buf c.give-count.result c.args.self.now.reading c.self.inside.files
    c.self.inside.faults (ap (λ (s : PlainShelf). s.held) c.self.view_is) (ap (λ (s : PlainShelf). s.faults) c.self.view_is) (search rules)
    (search rules) (search rules) (search rules) (search rules) (search rules) (search rules)
