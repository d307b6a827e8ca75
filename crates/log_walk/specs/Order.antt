-- The order of logs: by the paths of their threads, the first thread first.
use Rattle.std.specs.Prelude.{Bool, true, false, not, ◌&&◌, ◌||◌, List, [], ◌∷◌, Option, Some, None}
use Rattle.tc_base.specs.Paths.{ThreadPath}
use Rattle.thread_paths.specs.Order.{comes_from}

-- whether the second threads are the first ones or come later, by the first path that differs
abbrev pub are_from : List ThreadPath → List ThreadPath → Bool
are_from [] ts = true
are_from (_ ∷ _) [] = false
are_from (g ∷ gs) (t ∷ ts) =
    comes_from g.path t.path && (not (comes_from t.path g.path) || are_from gs ts)

-- whether threads come after those given last, if there are any
abbrev pub are_to_come : Option (List ThreadPath) → List ThreadPath → Bool
are_to_come None ts = true
are_to_come (Some last) ts = not (are_from ts last)
