-- The names of the memory models.
use Rattle.std.specs.Prelude.{ℕ, List, codes}
use Rattle.memory_models.specs.declared.model.Model.{Model}
use Rattle.memory_models.specs.declared.model.Model.TheVariants.{Sc, Tso, Pso}

-- the name of a model, as commands and files write it
abbrev pub model_name : Model → List ℕ
model_name Sc = codes "sc"
model_name Tso = codes "tso"
model_name Pso = codes "pso"
