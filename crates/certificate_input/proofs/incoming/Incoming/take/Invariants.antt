use Rattle.std.proofs.Common.{◌≡◌, ◌++◌, ℕ, List, take}
use Rattle.certificate_input.specs.helpers.Incoming.{IsRead}
use Rattle.certificate_input.proofs.incoming.Incoming.take.Given as goal

abbrev pub invariant-loop-byte : goal.invariant-loop-byte
invariant-loop-byte l = record {
  code : l.self.code ≡ l.fn.self.code;
  read : (front : List ℕ) → IsRead l.fn.self front → IsRead l.self (front ++ take l.byte-index l.bytes);
}
