-- Programs generated from words, and a log of each. Each worker, from 1 on, writes 1 to its own
-- cell and then reads another's; the program fails if all read 0, as they do in the log.
use Rattle.std.specs.Prelude.{ℕ, zero, suc, ◌+◌, ◌*◌, ◌-◌, ◌%◌, nat_lt, if◌then◌else◌, List, [], ◌∷◌, ◌++◌, length, codes}
use Rattle.std.specs.Fmt.{decimal}
use Rattle.tc_base.specs.Names.{Name}
use Rattle.run_log.specs.Logs.{Log}
use Rattle.tc_base.specs.Paths.{ThreadPath}
use Rattle.tc_base.specs.declared.failing.Failing.TheVariants.{Thread}
use Rattle.memory_models.specs.declared.model.Model.TheVariants.{Tso}

-- The text.

-- the cell that a worker reads, chosen by its word: any from 0 to `workers` except its own
abbrev pub cell_read : (workers worker word : ℕ) → ℕ
cell_read workers worker word =
    if nat_lt (word % workers) worker then word % workers else word % workers + 1

abbrev pub worker_line : (worker cell : ℕ) → List ℕ
worker_line worker cell =
    codes "thread w"
    ++ (decimal worker
    ++ (codes "() { a[" ++ (decimal worker ++ (codes "] = 1; r[" ++ (decimal worker ++
    (codes "] = a[" ++ (decimal cell ++ codes "]; }\n")))))))

-- the lines of the workers from `worker` on, one for each word
abbrev pub worker_lines : (workers worker : ℕ) → List ℕ → List ℕ
worker_lines workers worker [] = []
worker_lines workers worker (word ∷ words) =
    worker_line worker (cell_read workers worker word) ++ worker_lines workers (worker + 1) words

-- a text for each of `count` workers, from `worker` on
abbrev pub each : (ℕ → List ℕ) → (worker count : ℕ) → List ℕ
each text worker zero = []
each text worker (suc n) = text worker ++ each text (worker + 1) n

abbrev pub declares : ℕ → List ℕ
declares worker = codes "tid t" ++ (decimal worker ++ codes ";\n")

abbrev pub creates : ℕ → List ℕ
creates worker =
    codes "t" ++ (decimal worker ++ (codes " = create w" ++ (decimal worker ++ codes "();\n")))

abbrev pub joins : ℕ → List ℕ
joins worker = codes "join(t" ++ (decimal worker ++ codes ");\n")

abbrev pub adds : ℕ → List ℕ
adds worker = codes " + r[" ++ (decimal worker ++ codes "]")

-- the worker threads and main, which declares, creates and joins them and adds up what they read
abbrev pub whole_text : (threads declared created joined added : List ℕ) → List ℕ
whole_text threads declared created joined added =
    codes "int a[13]; int r[13];\n"
    ++ (threads ++ (codes "main {\n" ++ (declared ++ (created ++ (joined
    ++ (codes "assert(r[1]" ++ (added ++ codes " >= 1); }\n")))))))

-- the program with one worker for each word
abbrev pub workload_text : List ℕ → List ℕ
workload_text words =
    whole_text (worker_lines (length words) 1 words) (each declares 1 (length words))
    (each creates 1 (length words)) (each joins 1 (length words))
    (each adds 2 (length words - 1))

-- The log.

-- the path of a thread without branches
abbrev pub straight : Name → ℕ → ThreadPath
straight name steps = record { name = name; path = record { outcomes = []; steps = steps } }

-- the paths of `count` workers, from `worker` on
abbrev pub worker_paths : (worker count : ℕ) → List ThreadPath
worker_paths worker zero = []
worker_paths worker (suc n) = straight (worker ∷ []) 7 ∷ worker_paths (worker + 1) n

-- the log: main fails in its assert, after a create, a tested join and a tested load per worker
abbrev pub workload_log : (workers : ℕ) → Log
workload_log workers =
    record {
      model = Tso;
      failing = Thread 0;
      threads = straight [] (5 * workers + 1)
          ∷ worker_paths 1 workers;
    }
