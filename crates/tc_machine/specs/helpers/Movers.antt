-- The thread that makes a move.
use Rattle.tc_base.specs.Names.{Name}
use Rattle.tc_base.specs.declared.moves.Move.{Move}
use Rattle.tc_base.specs.declared.moves.Move.TheVariants.{Run, Wake, Drain}

abbrev pub mover : Move → Name
mover (Run n) = n
mover (Wake n u) = n
mover (Drain n form) = n
