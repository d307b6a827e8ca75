-- Logs in which some path is needless.
use Rattle.std.specs.Prelude.{◌≡◌, List, ◌∷◌, Some, slice_get}
use Rattle.tc_base.specs.Paths.{ThreadPath}
use Rattle.tc_code.specs.Code.{Code}
use Rattle.thread_paths.specs.Needless.{IsNeedless}
use Rattle.thread_paths.specs.pure_turns.Live.{Liveness}
use Rattle.log_walk.specs.Rest.{Rest, leave}
use Rattle.log_walk.specs.declared.bounds.Kind.{Kind}
use Rattle.log_walk.specs.declared.rest.Awaited.{Awaited}

module _ (code : Code) (live : Liveness) (kind : Kind) where
  -- among threads that make up the rest of a log, some path is needless
  pub data SomeNeedless : Rest → List ThreadPath → Type 0 where
    Here : {rest : Rest} {t : ThreadPath} {ts : List ThreadPath} (next : Awaited)
        → slice_get rest.awaited 0 ≡ Some next → IsNeedless code live next.function t.path
        → SomeNeedless rest (t ∷ ts)
    Later : {rest later : Rest} {t : ThreadPath} {ts : List ThreadPath}
        → leave code kind rest.awaited rest t.path ≡ Some later → SomeNeedless later ts
        → SomeNeedless rest (t ∷ ts)
