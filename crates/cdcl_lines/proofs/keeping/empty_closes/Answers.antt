use Rattle.std.proofs.Common.{true, refl}
use Rattle.std.proofs.lemmas.Bool.{or_right}
use Rattle.cdcl_lines.proofs.keeping.empty_closes.Goals as goal

pub returns : goal.returns
returns c = λ s hints. or_right s.closed true refl
