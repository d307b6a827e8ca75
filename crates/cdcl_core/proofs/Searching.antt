-- The invariant of a search implies the search's promises.
use Rattle.std.proofs.Common.{◌≡◌, ℕ, ◌<◌, ◌≤◌, ◌+◌, Bool, true, false, List, Option, Some, None, Ok, length, refl, sym, ◌∙◌, ap, subst, arith}
use Rattle.std.specs.Prelude.{count_by}
use Rattle.std.proofs.lemmas.Option.{none-some, same_Some}
use Rattle.std.proofs.lemmas.List.{take_all}
use Rattle.cnf_core.specs.Clauses.{Formula}
use Rattle.refute_check.specs.Refutations.{verdict_of, check}
use Rattle.refute_check.specs.declared.line.Line.{Line}
use Rattle.refute_check.specs.declared.verdict.Checked.TheVariants as checks
use Rattle.refute_check.specs.declared.verdict.CheckFault.{CheckFault}
use Rattle.cdcl_core.specs.Searches.{Searched, IsSearched, IsSolution, GoesOn, Answers, checked, adds, count_of_added}
use Rattle.cdcl_core.specs.helpers.States.{IsLive, IsFurther, IsShort}
use Rattle.cdcl_core.specs.helpers.Stages.{answer_at, IsAt, IsStaged, searched_of}
use Rattle.cdcl_core.specs.declared.progress.Progress.{Progress}
use Rattle.cdcl_core.specs.declared.progress.Progress.TheVariants as answers
use Rattle.cdcl_core.specs.declared.state.State.{State}
use Rattle.cdcl_core.specs.declared.stages.StagedSearch.{StagedSearch}
use Rattle.cdcl_core.specs.declared.stages.Stage.{Stage}
use Rattle.cdcl_core.specs.declared.stages.Stage.TheVariants.{Going, Satisfied, Closed}

pub is-open : (f : Formula) (lines : List Line) → (checked f lines).fault ≡ None → (checked f lines).closed ≡ false → check f lines ≡ Ok checks.Open
is-open f lines a b =
    ap (λ (o : Option CheckFault). verdict_of o (checked f lines).closed) a ∙ ap (λ (c : Bool). verdict_of None c) b

pub is-closed : (f : Formula) (lines : List Line) → (checked f lines).fault ≡ None → (checked f lines).closed ≡ true → check f lines ≡ Ok checks.Closed
is-closed f lines a b =
    ap (λ (o : Option CheckFault). verdict_of o (checked f lines).closed) a ∙ ap (λ (c : Bool). verdict_of None c) b

not-closed : (f : Formula) (lines : List Line) → (checked f lines).fault ≡ None → (checked f lines).closed ≡ false → check f lines ≡ Ok checks.Closed → ⊥
not-closed f lines a b e = (let g = sym (is-open f lines a b) ∙ e in cc)

none-answers : (answer : Option Progress) (p : Progress) → answer ≡ None → answer ≡ Some p → ⊥
none-answers answer p a b = none-some p (sym a ∙ b)

searched-live : (s : State) → IsLive s → (answer : Option Progress) → (answer ≡ Some answers.Closed → ⊥)
    → ((values : List Bool) → answer ≡ Some (answers.Sat values) → IsSolution s.formula values)
    → IsSearched (record { formula = s.formula; lines = s.derivation; answer = answer })
searched-live s h answer n sat = record {
  passes = h.agree.represents.fault;
  fresh = h.agree.fresh;
  few = h.agree.few_deleted;
  closed = ((λ e. absurd (not-closed s.formula s.derivation h.agree.represents.fault h.agree.unclosed e)), (λ e. absurd (n e)));
  not_empty = λ m. sym h.agree.not_empty ∙ h.agree.counted;
  satisfied = sat;
}

sat-closed : (values : List Bool) → Some (answers.Sat values) ≡ Some answers.Closed → ⊥
sat-closed values e = cc

closed-sat : (values : List Bool) → Some answers.Closed ≡ Some (answers.Sat values) → ⊥
closed-sat values e = cc

same-values : (v w : List Bool) → Some (answers.Sat v) ≡ Some (answers.Sat w) → v ≡ w
same-values v w e = cc

pub searched-at : (stage : Stage) (values : List Bool) (s : State) → IsAt stage values s
    → IsSearched (record { formula = s.formula; lines = s.derivation; answer = answer_at stage values })
searched-at Going v s h = searched-live s h None (none-answers None answers.Closed refl) (λ w e. absurd (none-answers None (answers.Sat w) refl e))
searched-at Satisfied v s h =
    searched-live s h.0 (Some (answers.Sat v)) (sat-closed v)
    (λ w e. subst (IsSolution s.formula) (same-values v w e) h.1)
searched-at Closed v s h = record {
  passes = h.passes;
  fresh = h.fresh;
  few = h.few_deleted;
  closed = ((λ e. refl), (λ e. is-closed s.formula s.derivation h.passes h.closed));
  not_empty = λ m. absurd (m refl);
  satisfied = λ w e. absurd (closed-sat w e);
}

pub searched : (c : StagedSearch) → IsStaged c → IsSearched (searched_of c)
searched c h = searched-at c.stage c.values.items c.state h

counted-at : (stage : Stage) (values : List Bool) (s : State) → IsAt stage values s → s.added ≡ count_of_added s.derivation
counted-at Going v s h = h.agree.counted
counted-at Satisfied v s h = h.0.agree.counted
counted-at Closed v s h = h.counted

pub counted : (c : StagedSearch) → IsStaged c → c.state.added ≡ count_of_added c.state.derivation
counted c h = counted-at c.stage c.values.items c.state h

live-at : (stage : Stage) (values : List Bool) (s : State) → IsAt stage values s → answer_at stage values ≡ None → IsLive s
live-at Going v s h e = h
live-at Satisfied v s h e = absurd (none-answers (Some (answers.Sat v)) (answers.Sat v) e refl)
live-at Closed v s h e = absurd (none-answers (Some answers.Closed) answers.Closed e refl)

pub live : (c : StagedSearch) → IsStaged c → answer_at c.stage c.values.items ≡ None → IsLive c.state
live c h e = live-at c.stage c.values.items c.state h e

-- a search without an answer goes on
pub still : (stage : Stage) (values : List Bool) (s : State) → answer_at stage values ≡ None → IsLive s → IsAt stage values s
still Going v s e h = h
still Satisfied v s e h = absurd (none-answers (Some (answers.Sat v)) (answers.Sat v) e refl)
still Closed v s e h = absurd (none-answers (Some answers.Closed) answers.Closed e refl)

never-paused : (stage : Stage) (values : List Bool) → answer_at stage values ≡ Some answers.Paused → ⊥
never-paused Going values e = cc
never-paused Satisfied values e = cc
never-paused Closed values e = cc

-- a search that has its answer gives the same answer again
pub answered-already : (c : StagedSearch) (n : ℕ) (p : Progress) → 1 ≤ n → answer_at c.stage c.values.items ≡ Some p
    → Answers (searched_of c) (searched_of c) n p
answered-already c n (answers.Sat values) h e = (e, omega (arith, h))
answered-already c n answers.Closed h e = (e, omega (arith, h))
answered-already c n answers.Paused h e = absurd (never-paused c.stage c.values.items e)

pub goes-on-refl : (s : Searched) → GoesOn s s
goes-on-refl s = record { formula = refl; lines = take_all (length s.lines) s.lines (omega arith) }

pub goes-on-further : (s t : State) (n : ℕ) (a b : Option Progress) → IsFurther s t n
    → GoesOn (record { formula = s.formula; lines = s.derivation; answer = a }) (record { formula = t.formula; lines = t.derivation; answer = b })
goes-on-further s t n a b f = record { formula = f.formula; lines = f.derivation }

pub further-added : (s t : State) (n : ℕ) → IsFurther s t n → s.added ≡ count_of_added s.derivation → t.added ≡ count_of_added t.derivation
    → count_of_added t.derivation ≡ count_of_added s.derivation + n
further-added s t n f a b = sym b ∙ f.added ∙ ap (λ (k : ℕ). k + n) a

pub short-added : (s t : State) (n : ℕ) → IsShort s t n → s.added ≡ count_of_added s.derivation → t.added ≡ count_of_added t.derivation
    → count_of_added t.derivation < count_of_added s.derivation + n
short-added s t n h a b = omega (arith, further-added s t h.count h.further a b, h.few)

pub answer-same : (o : Option Progress) (p q : Progress) → o ≡ Some p → o ≡ Some q → p ≡ q
answer-same o p q a b = same_Some p q (sym a ∙ b)

-- without an answer the derivation is open
open-by : (f : Formula) (lines : List Line) → (checked f lines).fault ≡ None → (check f lines ≡ Ok checks.Closed → ⊥) → (b : Bool)
    → (checked f lines).closed ≡ b → check f lines ≡ Ok checks.Open
open-by f lines a n true e = absurd (n (is-closed f lines a e))
open-by f lines a n false e = is-open f lines a e

pub open-searched : (s : Searched) → IsSearched s → s.answer ≡ None → check s.formula s.lines ≡ Ok checks.Open
open-searched s h e = open-by s.formula s.lines h.passes (λ c. none-answers s.answer answers.Closed e (h.closed.0 c)) (checked s.formula s.lines).closed refl

pub not-empty-searched : (s : Searched) → IsSearched s → s.answer ≡ None → count_by adds s.lines ≡ count_of_added s.lines
not-empty-searched s h e = h.not_empty (none-answers s.answer answers.Closed e)
