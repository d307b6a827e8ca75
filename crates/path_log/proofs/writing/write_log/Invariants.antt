use Rattle.std.proofs.Common.{◌≡◌, ◌++◌, ◌∷◌, length, take}
use Rattle.std.specs.Prelude.{is_some}
use Rattle.std.specs.List.{flat_map}
use Rattle.path_log.specs.Texts.{head_text, ending_code, thread_text}
use Rattle.path_log.proofs.writing.write_log.Given as goal

abbrev pub invariant-loop-thread : goal.invariant-loop-thread
invariant-loop-thread l = l.text.items ≡ head_text l.log.digest l.log.log.model
    ++ (length l.log.log.threads ∷ ending_code l.log.log.failing ∷ flat_map (thread_text (is_some l.log.digest)) (take l.thread-index l.log.log.threads))
