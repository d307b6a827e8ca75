use Rattle.sym_exec.proofs.Begun.{thread_tells}
use Rattle.sym_exec.proofs.laws.threads_tell.Goals as goal

pub returns : goal.returns
returns g c = λ ops code moves s n t ints lawful leads there. thread_tells ops code ints lawful moves s n t leads there
