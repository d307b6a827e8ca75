use Rattle.std.proofs.Common.{◌≡◌, false, List, Option, Some, None}
use Rattle.std.specs.List.{Contains}
use Rattle.std.specs.Option.{MatchOption}
use Rattle.sym_terms.specs.declared.node.Node.{Node}
use Rattle.order_formula.specs.declared.read.Candidate.{Candidate}
use Rattle.order_formula.specs.Reads.{Read}
use Rattle.order_formula.specs.Truth.{IsSource, is_read, source_at}
use Rattle.order_formula.specs.Worlds.{World, position}
use Rattle.order_formula.proofs.Last.{Picks, picks}
use Rattle.order_formula.proofs.laws.loads_take_from_the_last.Goals as goal

abbrev Seen : List Node → World → Read → Option Candidate → Type 0
Seen nodes w r o = MatchOption o ((c : Candidate) → Contains r.candidates c → is_read nodes w r c ≡ false) (IsSource nodes w r)

source : (nodes : List Node) (w : World) (r : Read) (o : Option Candidate) → Picks (λ c. position w c.event) (is_read nodes w r) r.candidates o
    → Seen nodes w r o
source nodes w r None none = none
source nodes w r (Some c) g = record { among = g.among; read = g.passes; last = g.greatest }

pub returns : goal.returns
returns c nodes w r = source nodes w r (source_at nodes w r) (picks (λ c. position w c.event) (is_read nodes w r) r.candidates)
