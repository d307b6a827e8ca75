use Rattle.std.proofs.Common.{◌∙◌, ap, sym, cond}
use Rattle.log_walk.specs.declared.bounds.Kind.TheVariants.{Failure, Deadlock}
use Rattle.clap_debug_find_words.proofs.kind_in.Goals as goal

pub returns-then-is_given : goal.returns-then-is_given
returns-then-is_given c = ap (λ b. cond b Deadlock Failure) (sym c.if-is_given.true ∙ c.is_given.ensures)

pub returns-else-is_given : goal.returns-else-is_given
returns-else-is_given c = ap (λ b. cond b Deadlock Failure) (sym c.if-is_given.false ∙ c.is_given.ensures)
