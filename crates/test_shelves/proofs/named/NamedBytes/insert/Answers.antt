use Rattle.std.proofs.Common.{rules}
use Rattle.test_shelves.proofs.ByName.{put_text}
use Rattle.test_shelves.proofs.named.NamedBytes.insert.Goals as goal

pub returns-clause-ok : goal.returns-clause-ok
returns-clause-ok c =
    put_text (λ v. v.items) c.self.inside.by_name c.insert.new.self c.in_ok-key.key c.extend_from_slice.new.self c.args.self.now c.args.name.now
    c.args.bytes.now c.in_ok-insert.ensures.updates (search rules) (search rules) c.self.view_is
