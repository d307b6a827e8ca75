-- Two events, as the code represents them.
use Rattle.path_walk.specs.declared.event.Event.{Event}
use Rattle.memory_order.specs.Twos.{Two}
use Rattle.memory_order.specs.declared.kept.Two.{Two as SeenTwo}

abbrev pub plain : SeenTwo → Two Event
plain p = record { first = p.first.now; between = p.between.now; second = p.second.now }
