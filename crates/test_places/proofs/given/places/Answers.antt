use Rattle.std.proofs.lemmas.Option.{slice_get-get_or}
use Rattle.places.proofs.Along.{program_has_places}
use Rattle.test_places.proofs.given.places.Goals as goal

pub in_code-told-requires : goal.in_code-told-requires
in_code-told-requires c = λ number f low.
    program_has_places _ c.in_ok-code.code number _ c.in_ok-code.ensures.found (slice_get-get_or c.in_ok-code.code.functions number f low)
