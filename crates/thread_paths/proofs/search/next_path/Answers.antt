use Rattle.thread_paths.proofs.Searches.{none_later}
use Rattle.thread_paths.proofs.search.next_path.Goals as goal

pub search-requires-clause-steps : goal.search-requires-clause-steps
search-requires-clause-steps c = none_later _ c.path.inside.outcomes.items c.from.result
