-- Deeds as plain values, and as histories hold them.
use Rattle.tc_base.specs.Names.{Name}
use Rattle.run_history.specs.History as plain
use Rattle.show_deeds.specs.declared.deed.Deed.{Deed}
use Rattle.show_deeds.specs.declared.deed.Deed.TheVariants as deed

abbrev pub plain_deed : Deed → plain.Deed
plain_deed (deed.Did s) = plain.Did s.thread s.number s.asks s.took s.other
plain_deed (deed.Drained s) = plain.Drained s.thread s.number s.cell s.value

-- the thread of a deed
abbrev pub doer : Deed → Name
doer (deed.Did s) = s.thread
doer (deed.Drained s) = s.thread
