use Rattle.std.proofs.Common.{rules, sym, ◌∙◌, ap, subst, IsSome, option_map}
use Rattle.tc_io.proofs.Pieces.{is_open, read_on}
use Rattle.tc_io.proofs.files.FileShelfShelf.piece.Goals as goal

pub unwrap-requires : goal.unwrap-requires
unwrap-requires g c =
    is_open (λ r. r.name) c.take.result
    (subst (λ o. IsSome (option_map (λ r. r.name) o)) (sym (c.take.ensures.value ∙ ap (λ s. s.reading) c.self.view_is)) c.requires.opened)

pub returns-in-Ok-clause-given : goal.returns-in-Ok-clause-given
returns-in-Ok-clause-given g c =
    read_on g.R.File.Read.remaining c.args.self.now.reading c.unwrap.result c.read.new.self c.read.new.buf c.in-Ok.count _
    (ap (λ o. o.name) c.name.view_is) (search rules) (search rules) (search rules) (search rules) (search rules)
