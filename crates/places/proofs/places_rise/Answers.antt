use Rattle.std.proofs.Common.{[], refl}
use Rattle.places.specs.Places.{first_place}
use Rattle.places.proofs.Along.{all_reached, leads, program_has_places}
use Rattle.places.proofs.Rise.{all_rise}
use Rattle.places.proofs.places_rise.Goals as goal

pub returns-clause-programs : goal.returns-clause-programs
returns-clause-programs c = program_has_places

pub returns-clause-steps : goal.returns-clause-steps
returns-clause-steps c = leads

pub returns-clause-rise : goal.returns-clause-rise
returns-clause-rise c is tos m n p q has follow less at_m at_n = all_rise is has.nest 0 (λ a. 0) tos follow m n p q less at_m at_n

pub returns-clause-reached : goal.returns-clause-reached
returns-clause-reached c is limits tos p follow free there = all_reached is limits (first_place is) tos follow ([], refl) free p there
