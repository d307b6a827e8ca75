use Rattle.std.proofs.Common.{◌≡◌, take}
use Rattle.std.specs.List.{flat_map}
use Rattle.tc_code.specs.Listing.{function_text}
use Rattle.tc_code.proofs.list.listing.Given as goal

abbrev pub invariant-loop-f : goal.invariant-loop-f
invariant-loop-f l = l.out.items ≡ flat_map function_text (take l.f-index l.f-items)
