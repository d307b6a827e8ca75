use Rattle.std.proofs.Common.{rules, Some}
use Rattle.test_shelves.proofs.Kept.{holds_front}
use Rattle.test_shelves.proofs.mem.MemShelfShelf.keep.Goals as goal

pub returns-clause-failed : goal.returns-clause-failed
returns-clause-failed c _ =
    (Some c.insert.new.self, holds_front _ c.insert.new.self c.args.name.now c.args.bytes.now c.map_or-count.result (search rules), search rules)
