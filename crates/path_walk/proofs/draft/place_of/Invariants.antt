use Rattle.std.proofs.Common.{◌≡◌, drop}
use Rattle.std.specs.Prelude.{bytes_eq}
use Rattle.std.specs.List.{list_any}
use Rattle.path_walk.specs.Paths.{Walk}
use Rattle.path_walk.proofs.draft.place_of.Given as goal

abbrev pub invariant-loop-place : goal.invariant-loop-place
invariant-loop-place l =
    list_any (λ (w : Walk). bytes_eq l.name w.name) (drop l.place l.threads) ≡ list_any (λ (w : Walk). bytes_eq l.name w.name) l.threads
