-- A program and a log are searched, or there is one reason why they aren't.
use Rattle.std.proofs.Common.{◌≡◌, ℕ, List, ap, refl}
pub use Rattle.command_inputs.proofs.Pairs.{at_pair}
use Rattle.command_inputs.proofs.path_log.Logs.{log_or_fault, one_fault}
use Rattle.command_inputs.specs.path_log.Texts.{IsOfOther}
use Rattle.command_inputs.proofs.tc_compile.OnePrograms.{one_refusal, refused_no_code}
use Rattle.command_inputs.specs.declared.refusal.LogRefusal.TheVariants.{Form, OtherProgram, Unfit}
use Rattle.command_inputs.specs.declared.refusal.Refusal.{Refusal}
use Rattle.command_inputs.specs.declared.refusal.Refusal.TheVariants as refusal
use Rattle.log_tasks.specs.Refused.{HasNoClauses, IsUnsearched}
use Rattle.log_tasks.specs.Tasks.{Pair, Task}
use Rattle.log_tasks.proofs.Clauses.{one_reason, reason_or_within}

module _ {program log : List ℕ} where
  -- the reasons of a pair
  abbrev OfPair : Pair program log → Refusal → Type 0
  OfPair p (refusal.Program fault) = ⊥
  OfPair p (refusal.Log (Form offset)) = ⊥
  OfPair p (refusal.Log OtherProgram) = IsOfOther program p.run
  OfPair p r = (IsOfOther program p.run → ⊥) × HasNoClauses p.code p.run.log r

  late : (p q : Pair program log) (r : Refusal) → (IsOfOther program q.run → ⊥) × HasNoClauses q.code q.run.log r
      → (IsOfOther program p.run → ⊥) × HasNoClauses p.code p.run.log r
  late p q r h = at_pair (λ code run. (IsOfOther program run → ⊥) × HasNoClauses code run.log r) q p h

  -- the reason why the files aren't searched is one of their pair, if they have one
  of_pair : (p : Pair program log) (r : Refusal) → IsUnsearched program log r → OfPair p r
  of_pair p (refusal.Program fault) h = refused_no_code program fault p.code h p.programs
  of_pair p (refusal.Log (Form offset)) h = log_or_fault log p.run offset p.logs h.2
  of_pair p (refusal.Log OtherProgram) h = at_pair (λ code run. IsOfOther program run) h.0 p h.1
  of_pair p (refusal.Log (Unfit n m)) h = late p h.0 (refusal.Log (Unfit n m)) (h.1, h.2)
  of_pair p (refusal.LogOver o n) h = late p h.0 (refusal.LogOver o n) (h.1, h.2)
  of_pair p (refusal.Schedule n) h = absurd h.2
  of_pair p (refusal.Refutation n) h = absurd h.2
  of_pair p (refusal.Answer n) h = absurd h.2

  one_of_pair : (p : Pair program log) (r q : Refusal) → OfPair p r → OfPair p q → r ≡ q
  one_of_pair p (refusal.Program _) q f g = absurd f
  one_of_pair p (refusal.Log (Form _)) q f g = absurd f
  one_of_pair p r (refusal.Program _) f g = absurd g
  one_of_pair p r (refusal.Log (Form _)) f g = absurd g
  one_of_pair p (refusal.Log OtherProgram) (refusal.Log OtherProgram) f g = refl
  one_of_pair p (refusal.Log OtherProgram) q f g = absurd (g.0 f)
  one_of_pair p r (refusal.Log OtherProgram) f g = absurd (f.0 g)
  one_of_pair p r q f g = one_reason p.code p.run.log r q f.1 g.1

  -- files with a reason against them aren't a task
  pub task_or_refusal : (t : Task program log) (r : Refusal) → IsUnsearched program log r → ⊥
  task_or_refusal t r h = no_reason r (of_pair t.pair r h)
    where
      no_reason : (r : Refusal) → OfPair t.pair r → ⊥
      no_reason (refusal.Program _) f = f
      no_reason (refusal.Log (Form _)) f = f
      no_reason (refusal.Log OtherProgram) f = t.own f
      no_reason r f = reason_or_within t.pair.code t.pair.run.log r f.1 t.within

-- the reason is one
module _ (program log : List ℕ) where
  pub one_unsearched : (r q : Refusal) → IsUnsearched program log r → IsUnsearched program log q → r ≡ q
  one_unsearched (refusal.Program a) (refusal.Program b) f g = ap (λ x. refusal.Program x) (one_refusal program a b f g)
  one_unsearched (refusal.Program a) (refusal.Log (Form o)) f g = absurd (refused_no_code program a g.0 f g.1)
  one_unsearched (refusal.Log (Form o)) (refusal.Program b) f g = absurd (refused_no_code program b f.0 g f.1)
  one_unsearched (refusal.Log (Form o)) (refusal.Log (Form p)) f g = ap (λ x. refusal.Log (Form x)) (one_fault log o p f.2 g.2)
  one_unsearched (refusal.Program a) q f g = one_of_pair g.0 (refusal.Program a) q (of_pair g.0 (refusal.Program a) f) (of_pair g.0 q g)
  one_unsearched (refusal.Log (Form o)) q f g = one_of_pair g.0 (refusal.Log (Form o)) q (of_pair g.0 (refusal.Log (Form o)) f) (of_pair g.0 q g)
  one_unsearched r q f g = one_of_pair f.0 r q (of_pair f.0 r f) (of_pair f.0 q g)
