-- From an answer with its cause to the theorem about every run of a command.
use Rattle.std.proofs.Common.{arith, ◌≡◌, ◌≢◌, ◌∙◌, ◌⊎◌, inl, inr, ap, refl, sym, subst, ℕ, List, Option, Some, None, IfSome}
use Rattle.tc_io.specs.Outside.{Files, Reading, Writing, ShelfTells, SinkTells}
use Rattle.command_frame.specs.Inputs.{Texts, GaveAll, texts_under}
use Rattle.command_frame.specs.Keeps.{HoldsFirst, put_all}
use Rattle.command_frame.specs.Meaning.{Meaning}
use Rattle.command_frame.specs.Answers.{Answer, Gives, ReadFault, TooLong, WriteFault, NoMemory, IsFaultStatus, Puts, Says, SaysNoMemory, SaysNoMore, number_of, status_of}
use Rattle.command_frame.specs.Causes.{HoldsSome, IsAnswerTo, IsCause, IsOnlyAnswer, LosesOne}
use Rattle.command_frame.specs.Run.{Runs, RunsOver, kept_by}
use Rattle.command_frame.specs.helpers.Failures.{IsWhyMissing, IsWhyUnkept, SaysFailure, failed_answer}
use Rattle.command_frame.specs.declared.failure.Failure.{Failure}
use Rattle.command_frame.specs.declared.failure.Failure.TheVariants as failure
use Rattle.command_frame.proofs.KeptAll.{all_first, all_held, failed_last}
use Rattle.command_frame.proofs.ReadAll.{all_told, all_within, failed_still, given_still, long_or_within, one_too_long, passed_still, passes_told}

read_or_written : (name lost : List ℕ) → Some (Reading name) ≡ Some (Writing lost) → ⊥
read_or_written name lost same = cc

same_lost : (name lost : List ℕ) → Some (Writing name) ≡ Some (Writing lost) → name ≡ lost
same_lost name lost same = cc

-- if there was no memory for the text, the status is 8 or 9
no_memory_status : (status : ℕ) (j k : SinkTells) → SaysNoMemory status j k → (status ≡ 8) ⊎ (status ≡ 9)
no_memory_status status j k (inl h) = inr h.0
no_memory_status status j k (inr h) = inl h.0

-- what holds of the files that a shelf tells, if it tells them
pub if_told : (o : Option Files) (P : Files → Type 0) → ((files : Files) → o ≡ Some files → P files) → IfSome o P
if_told None P h = tt
if_told (Some files) P h = h files refl

module _ {A : Type 0} (m : Meaning A) where
  no_more_status : (a : Answer A) (status : ℕ) (j k : SinkTells) → SaysNoMore a status j k → (status ≡ 8) ⊎ (status ≡ 9)
  no_more_status (WriteFault name) status j k h = inl h.0
  no_more_status (Gives x) status j k h = no_memory_status status j k h
  no_more_status (ReadFault name) status j k h = no_memory_status status j k h
  no_more_status (TooLong limit) status j k h = no_memory_status status j k h
  no_more_status NoMemory status j k h = no_memory_status status j k h

  -- an answer was put with its status, or the status is 8 or 9
  said : (a : Answer A) (status : ℕ) (j k : SinkTells) → Says m a status j k → Puts m a status j k ⊎ (status ≡ 8) ⊎ (status ≡ 9)
  said a status j k (inl puts) = inl puts
  said a status j k (inr (inl fails)) = inr (inl fails.2)
  said a status j k (inr (inr none)) = inr (no_more_status a status j k none)

  -- after a failed keep the status is 8
  lost_status : (name : List ℕ) (status : ℕ) (j k : SinkTells) → Says m (WriteFault name) status j k → status ≡ 8
  lost_status name status j k (inl puts) = puts.2
  lost_status name status j k (inr (inl fails)) = fails.2
  lost_status name status j k (inr (inr none)) = none.0

  -- the line of a failure is the text of its answer
  pub failure_said : (f : Failure) (status : ℕ) (j k : SinkTells) → SaysFailure f status j k → Says m (failed_answer f) status j k
  failure_said (failure.Read name) status j k (inl h) = inl (_, refl, h.0, h.1)
  failure_said (failure.Read name) status j k (inr (inl h)) = inr (inl (_, refl, h.0, h.1))
  failure_said (failure.Read name) status j k (inr (inr h)) = inr (inr h)
  failure_said (failure.TooLong limit) status j k (inl h) = inl (_, refl, h.0, h.1)
  failure_said (failure.TooLong limit) status j k (inr (inl h)) = inr (inl (_, refl, h.0, h.1))
  failure_said (failure.TooLong limit) status j k (inr (inr h)) = inr (inr h)
  failure_said (failure.Write name) status j k (inl h) = inl (_, refl, h.0, h.1)
  failure_said (failure.Write name) status j k (inr (inl h)) = inr (inl (_, refl, h.0, h.1))
  failure_said (failure.Write name) status j k (inr (inr h)) = inr (inr h)
  failure_said failure.Memory status j k (inl h) = inl (_, refl, h.0, h.1)
  failure_said failure.Memory status j k (inr (inl h)) = inr (inl (_, refl, h.0, h.1))
  failure_said failure.Memory status j k (inr (inr h)) = inr (inr h)

  module _ (old new : ShelfTells) where
    -- the reason why inputs couldn't be read is the cause of the answer
    pub missing_cause : (f : Failure) → IsWhyMissing m.inputs old new f → IsCause m old new (failed_answer f)
    missing_cause (failure.Read name) h = h
    missing_cause (failure.TooLong limit) h = h
    missing_cause (failure.Write name) h = absurd h
    missing_cause failure.Memory h = (h.1, inl h.0)

    -- the reason why not all was kept is the cause of the answer
    pub unkept_cause : (f : Failure) (s : ShelfTells) (t : Texts) (x : A) → GaveAll m.inputs old s t → m.ComesOf t x
        → IsWhyUnkept (m.keeps_of x) s new f → IsCause m old new (failed_answer f)
    unkept_cause (failure.Write name) s t x gave comes h = (x, (t, s, gave, comes, h))
    unkept_cause failure.Memory s t x gave comes h =
        let still = given_still m.inputs old s t gave in
        (h.0 ∙ still.1, inr (x, (t, s, gave, comes, subst (λ o. HoldsFirst (m.keeps_of x) o new.held) still.0 h.1)))
    unkept_cause (failure.Read name) s t x gave comes h = absurd h
    unkept_cause (failure.TooLong limit) s t x gave comes h = absurd h

    -- the files after an answer, except after failed keeps and lack of memory
    held_whole : (a : Answer A) → IsCause m old new a → status_of m a ≢ 8 → status_of m a ≢ 9 → new.held ≡ put_all (kept_by m a) old.held
    held_whole (Gives x) c eight nine = (all_held (m.keeps_of x) c.1 new c.4).0 ∙ ap (put_all (m.keeps_of x)) (given_still m.inputs old c.1 c.0 c.2).0
    held_whole (ReadFault name) c eight nine = (failed_still m.inputs old new name c).0
    held_whole (TooLong limit) c eight nine = (passed_still m.inputs old new limit c).0
    held_whole (WriteFault name) c eight nine = absurd (eight refl)
    held_whole NoMemory c eight nine = absurd (nine refl)

    pub left : (a : Answer A) → IsCause m old new a → HoldsSome m old new ⊎ ((name : List ℕ) × (a ≡ WriteFault name) × LosesOne m old new name)
    left (Gives x) c =
        let first = all_first (m.keeps_of x) c.1 new c.4 in
        let same = (given_still m.inputs old c.1 c.0 c.2).0 in
        inl (inr (x, (c.0, c.1, c.2, c.3, subst (λ o. HoldsFirst (m.keeps_of x) o new.held) same first)))
    left (ReadFault name) c = inl (inl (failed_still m.inputs old new name c).0)
    left (TooLong limit) c = inl (inl (passed_still m.inputs old new limit c).0)
    left (WriteFault name) c = inr (name, refl, c)
    left NoMemory c = inl c.1

    -- if the shelf counted a fault and the last was of a keep, the answer is that of a failed keep
    keep_failed : (a : Answer A) → IsCause m old new a → new.faults ≢ old.faults → (name : List ℕ) → new.last_fault ≡ Some (Writing name)
        → (lost : List ℕ) × (a ≡ WriteFault lost) × LosesOne m old new name
    keep_failed (Gives x) c rose name last =
        absurd (rose ((all_held (m.keeps_of x) c.1 new c.4).1 ∙ (given_still m.inputs old c.1 c.0 c.2).1))
    keep_failed (ReadFault n) c rose name last = elim ((failed_still m.inputs old new n c).1) [
      | inl counted ↦ absurd (read_or_written n name (sym counted.1 ∙ last))
      | inr same ↦ absurd (rose same)
    ]
    keep_failed (TooLong limit) c rose name last = absurd (rose (passed_still m.inputs old new limit c).1)
    keep_failed (WriteFault n) c rose name last =
        let same : n ≡ name = same_lost n name (sym (failed_last (m.keeps_of c.0) c.1.1 new n c.1.4) ∙ last) in
        (n, refl, subst (LosesOne m old new) same c)
    keep_failed NoMemory c rose name last = absurd (rose c.0)

    module _ (a : Answer A) (status : ℕ) (j k : SinkTells) (cause : IsCause m old new a) (says : Says m a status j k) where
      pub every_run : Runs m old new status j k
      every_run = record {
        answer = (a, cause, says);
        whole = whole;
        no_memory = no_memory;
        write_fault = write_fault;
        failed_keep = failed_keep;
      }
        where
          whole : status ≢ 8 → status ≢ 9
              → (b : Answer A) × IsCause m old new b × Puts m b status j k × (new.held ≡ put_all (kept_by m b) old.held)
          whole eight nine = elim (said a status j k says) [
            | inl puts ↦ (a, cause, puts, held_whole a cause (λ h. eight (puts.2 ∙ h)) (λ h. nine (puts.2 ∙ h)))
            | inr fault ↦ absurd (elim fault [
              | inl h ↦ eight h
              | inr h ↦ nine h
            ])
          ]

          no_memory : status ≡ 9 → HoldsSome m old new
          no_memory nine = elim (left a cause) [
            | inl some ↦ some
            | inr lost ↦ absurd (omega (arith, nine, lost_status lost.0 status j k (subst (λ b. Says m b status j k) lost.1 says)))
          ]

          write_fault : status ≡ 8 → HoldsSome m old new ⊎ ((name : List ℕ) × LosesOne m old new name)
          write_fault eight = elim (left a cause) [
            | inl some ↦ inl some
            | inr lost ↦ inr (lost.0, lost.2)
          ]

          failed_keep : new.faults ≢ old.faults → (name : List ℕ) → new.last_fault ≡ Some (Writing name) → (status ≡ 8) × LosesOne m old new name
          failed_keep rose name last =
              let lost = keep_failed a cause rose name last in
              (lost_status lost.0 status j k (subst (λ b. Says m b status j k) lost.1 says), lost.2)

    -- an answer with its cause is one to what the inputs hold, or its status is that of a fault
    pub answers_to : (files : Files) → old.held ≡ Some files → (a : Answer A) → IsCause m old new a
        → IsAnswerTo m (texts_under files m.inputs) a ⊎ IsFaultStatus (status_of m a)
    answers_to files told (Gives x) c =
        let same = all_told files m.inputs old c.1 c.0 c.2 told in
        inl (subst (λ t. IsAnswerTo m t (Gives x)) same (all_within m.inputs old c.1 c.0 c.2, c.3))
    answers_to files told (ReadFault name) c = inr (inl refl)
    answers_to files told (TooLong limit) c = inl (passes_told files m.inputs old new limit c told)
    answers_to files told (WriteFault name) c = inr (inr (inl refl))
    answers_to files told NoMemory c = inr (inr (inr refl))

  -- if an answer is put, the only one is
  only_put : (t : Texts) (a b : Answer A) (status : ℕ) (j k : SinkTells) → IsAnswerTo m t a → IsOnlyAnswer m t b → Puts m a status j k
      → Puts m b status j k
  only_put t (Gives x) (Gives y) status j k is only puts =
      let same = only.2 x is.1 in
      (puts.0, same.text puts.0 puts.1, puts.2 ∙ ap number_of same.status, puts.3)
  only_put t (Gives x) (TooLong limit) status j k is only puts = absurd (long_or_within m.inputs t limit only is.0)
  only_put t (TooLong limit) (Gives y) status j k is only puts = absurd (long_or_within m.inputs t limit is only.0)
  only_put t (TooLong limit) (TooLong other) status j k is only puts =
      subst (λ l. Puts m (TooLong l) status j k) (one_too_long m.inputs t limit other is only) puts
  only_put t (Gives x) (ReadFault name) status j k is only puts = absurd only
  only_put t (Gives x) (WriteFault name) status j k is only puts = absurd only
  only_put t (Gives x) NoMemory status j k is only puts = absurd only
  only_put t (TooLong limit) (ReadFault name) status j k is only puts = absurd only
  only_put t (TooLong limit) (WriteFault name) status j k is only puts = absurd only
  only_put t (TooLong limit) NoMemory status j k is only puts = absurd only
  only_put t (ReadFault name) b status j k is only puts = absurd is
  only_put t (WriteFault name) b status j k is only puts = absurd is
  only_put t NoMemory b status j k is only puts = absurd is

  pub same_fault : (a : Answer A) (status : ℕ) → status ≡ status_of m a → IsFaultStatus (status_of m a) → IsFaultStatus status
  same_fault a status same fault = subst IsFaultStatus (sym same) fault

  module _ (old new : ShelfTells) (a : Answer A) (status : ℕ) (j k : SinkTells) (cause : IsCause m old new a) (says : Says m a status j k) where
    run_over : (files : Files) → old.held ≡ Some files → RunsOver m (texts_under files m.inputs) status j k
    run_over files told = record { answer = answer; exactly = exactly }
      where
        answer : (IsFaultStatus status → ⊥) → (b : Answer A) × IsAnswerTo m (texts_under files m.inputs) b × Puts m b status j k
        answer sound = elim (said a status j k says) [
          | inl puts ↦ elim (answers_to old new files told a cause) [
            | inl is ↦ (a, is, puts)
            | inr fault ↦ absurd (sound (same_fault a status puts.2 fault))
          ]
          | inr fault ↦ absurd (sound (inr fault))
        ]

        exactly : (b : Answer A) → IsOnlyAnswer m (texts_under files m.inputs) b → Puts m b status j k ⊎ IsFaultStatus status
        exactly b only = elim (said a status j k says) [
          | inl puts ↦ elim (answers_to old new files told a cause) [
            | inl is ↦ inl (only_put (texts_under files m.inputs) a b status j k is only puts)
            | inr fault ↦ inr (same_fault a status puts.2 fault)
          ]
          | inr fault ↦ inr (inr fault)
        ]

    pub every_run_over : IfSome old.held (λ files. RunsOver m (texts_under files m.inputs) status j k)
    every_run_over = if_told old.held (λ files. RunsOver m (texts_under files m.inputs) status j k) run_over
