-- From one byte to the next.
use Rattle.std.proofs.Common.{◌≡◌, ◌∙◌, ℕ, ◌+◌, ◌==◌, true, false, cond, List, [], ◌∷◌, ◌++◌, length, Some, Option, Ok, refl, sym, ap, subst}
use Rattle.std.specs.Prelude.{IfSome, slice_get}
use Rattle.std.proofs.lemmas.Bool.{false≢true}
use Rattle.std.proofs.lemmas.List.{length-append}
use Rattle.std.proofs.lemmas.List.Sums.{fold-append}
use Rattle.run_log.specs.tc_base.Names.{Name}
use Rattle.run_log.specs.tc_base.Paths.{ThreadPath}
use Rattle.run_log.specs.Logs.{Log, failing_of}
use Rattle.tc_code.specs.Code.{Code}
use Rattle.refute_check.specs.Refutations.{Checking, start, state_after_line, verdict, verdict_of}
use Rattle.refute_check.specs.declared.line.Line.{Line}
use Rattle.refute_check.specs.declared.verdict.CheckFault.{CheckFault}
use Rattle.refute_check.specs.declared.verdict.Checked.TheVariants.{Closed}
use Rattle.tc_code.specs.Lawful.{IsLawful}
use Rattle.certified_logs.specs.find_failures.clap_solve.store_buffers.Buffers.{buffer_of}
use Rattle.clap_system.specs.Faults.{IsBuildFault}
use Rattle.clap_system.specs.declared.fault.BuildFault.TheVariants as build
use Rattle.clap_system.specs.declared.fault.Which.{Which}
use Rattle.certified_logs.specs.find_failures.clap_solve.Clauses.{model_clauses}
use Rattle.certified_logs.specs.find_failures.clap_solve.Solved.{IsImpossible, IsWithin}
use Rattle.none_certificates.specs.Texts.{log_text}
use Rattle.none_certificates.specs.declared.header.Header.{Header}
use Rattle.certified_logs.specs.Logs.{line_of, IsNext}
use Rattle.slot_liveness.specs.Tables.{liveness}
use Rattle.certified_logs.specs.Places.{IsAt, IsOf}
use Rattle.certified_logs.specs.declared.place.Place.{Place}
use Rattle.certified_logs.proofs.Places.{is_next, log_is}
use Rattle.certified_logs.proofs.Promised.{refuted_so}
use Rattle.certificate_input.specs.Cuts.{Cut, cut, cut_byte, HasHeader, IsLine, IsTextOf}
use Rattle.certificate_input.specs.Wrong.{IsMalformed, IsRefused, IsWrong}
use Rattle.certificate_input.specs.Wrong.IsMalformed.{NoHeader, NoLog, NoLine}
use Rattle.certificate_input.specs.Wrong.IsRefused.{Open, Fails}
use Rattle.certificate_input.specs.declared.checks.Checks.{Checks}
use Rattle.certificate_input.specs.declared.incoming.Stage.{Stage}
use Rattle.certificate_input.specs.declared.incoming.Stage.TheVariants.{Begins, Follows, Ends}
use Rattle.certificate_input.specs.declared.wrong.Wrong.{Wrong}
use Rattle.certificate_input.specs.declared.wrong.Wrong.TheVariants.{Refused, Form, Limit}
use Rattle.certificate_input.specs.helpers.Incoming.{IsBegun, IsChecking, IsFollowing, IsStage, IsTaken, IsUnrefuted, IsWrongLine, IsWrongLog, begins, has_ended}
use Rattle.certificate_input.proofs.Cuts.{cut_next, more_header, more_line, there_last}

module _ (code : Code) where
  -- more bytes change nothing about what is wrong
  malformed_more : (front more : List ℕ) (n : ℕ) → IsMalformed front n → IsMalformed (front ++ more) n
  malformed_more front more n (NoHeader line is isnt) = NoHeader line (more_line front more n line is) isnt
  malformed_more front more n (NoLog line is isnt) = NoLog line (more_line front more n line is) isnt
  malformed_more front more n (NoLine line is isnt) = NoLine line (more_line front more n line is) isnt

  wrong_more : (front more : List ℕ) (n : ℕ) (w : Wrong) → IsWrong code front n w → IsWrong code (front ++ more) n w
  wrong_more front more n Refused is =
      (is.0, is.1, more_header front more is.0 is.2, more_line front more n is.1 is.3, is.4)
  wrong_more front more n Form is = malformed_more front more n is
  wrong_more front more n (Limit which count limit) is = (is.0, is.1, more_header front more is.0 is.2, is.3, is.4)

  -- nothing more is read
  pub ended_stays : (front : List ℕ) (b : ℕ) (rest : List ℕ) (n : ℕ) (stage : Stage) → has_ended stage ≡ true
      → IsStage code front rest n stage → IsStage code (front ++ b ∷ []) rest n stage
  ended_stays front b rest n (Ends k w) e is = wrong_more front (b ∷ []) k w is
  ended_stays front b rest n Begins e is = absurd (false≢true e)
  ended_stays front b rest n (Follows c) e is = absurd (false≢true e)

  cut_pushed : (front : List ℕ) (b : ℕ) (ls : List (List ℕ)) (rest : List ℕ) → (b == 10) ≡ false
      → cut front ≡ record { lines = ls; rest = rest } → cut (front ++ b ∷ []) ≡ record { lines = ls; rest = rest ++ b ∷ [] }
  cut_pushed front b ls rest other is =
      cut_next front b ∙ ap (λ (c : Cut). cut_byte c b) is
      ∙ ap (λ v. cond v (record { lines = ls ++ rest ∷ []; rest = [] }) (record { lines = ls; rest = rest ++ b ∷ [] })) other

  cut_ended : (front : List ℕ) (ls : List (List ℕ)) (rest : List ℕ) → cut front ≡ record { lines = ls; rest = rest }
      → cut (front ++ 10 ∷ []) ≡ record { lines = ls ++ rest ∷ []; rest = [] }
  cut_ended front ls rest is = cut_next front 10 ∙ ap (λ (c : Cut). cut_byte c 10) is

  -- a byte of a line
  pub pushed : (front : List ℕ) (b : ℕ) (rest : List ℕ) (n : ℕ) (stage : Stage) → has_ended stage ≡ false → (b == 10) ≡ false
      → IsStage code front rest n stage → IsStage code (front ++ b ∷ []) (rest ++ b ∷ []) n stage
  pushed front b rest n (Ends k w) e other is = absurd (false≢true (sym e))
  pushed front b rest n Begins e other is = (cut_pushed front b [] rest other is.0, is.1)
  pushed front b rest n (Follows c) e other is = record {
    lines = is.lines;
    is_cut = cut_pushed front b is.lines rest other is.is_cut;
    counted = is.counted;
    has = more_header front (b ∷ []) c.header is.has;
    checking = is.checking;
  }

  -- the line that ends
  line_there : (front : List ℕ) (ls : List (List ℕ)) (rest : List ℕ) (n : ℕ) → cut front ≡ record { lines = ls; rest = rest }
      → n ≡ length ls + 1 → IsLine (front ++ 10 ∷ []) n rest
  line_there front ls rest n is number = record {
    before = length ls;
    counted = number;
    there = ap (λ (c : Cut). slice_of c (length ls)) (cut_ended front ls rest is) ∙ there_last ls rest;
  }
    where
      slice_of : Cut → ℕ → Option (List ℕ)
      slice_of c k = slice_get c.lines k

  -- after the first line
  pub begun_so : (front rest : List ℕ) (n : ℕ) (stage new : Stage) → begins stage ≡ true → IsStage code front rest n stage
      → IsBegun code rest new → IsStage code (front ++ 10 ∷ []) [] (n + 1) new
  begun_so front rest n (Follows c) new e is begun = absurd (false≢true e)
  begun_so front rest n (Ends k w) new e is begun = absurd (false≢true e)
  begun_so front rest n Begins Begins e is begun = absurd begun
  begun_so front rest n Begins (Follows c) e is begun = record {
    lines = rest ∷ [];
    is_cut = cut_ended front [] rest is.0;
    counted = ap (λ k. k + 1) is.1;
    has = record {
      line = subst (IsLine (front ++ 10 ∷ []) 1) (sym begun.0) (line_there front [] rest 1 is.0 refl);
      has_form = begun.1;
    };
    checking = begun.2;
  }
  begun_so front rest n Begins (Ends k w) e is begun =
      subst (IsWrong code (front ++ 10 ∷ []) k) (sym begun.1)
      (NoHeader rest (subst (λ j. IsLine (front ++ 10 ∷ []) j rest) (sym begun.0) (line_there front [] rest 1 is.0 refl)) begun.2)

  -- after another line
  pub taken_so : (front rest : List ℕ) (n : ℕ) (stage new : Stage) → begins stage ≡ false → has_ended stage ≡ false
      → IsStage code front rest n stage → IsTaken code n rest stage new → IsStage code (front ++ 10 ∷ []) [] (n + 1) new
  taken_so front rest n Begins new e g is taken = absurd (false≢true (sym e))
  taken_so front rest n (Ends k w) new e g is taken = absurd (false≢true (sym g))
  taken_so front rest n (Follows c) Begins e g is taken = absurd taken
  taken_so front rest n (Follows c) (Follows d) e g is taken = record {
    lines = is.lines ++ rest ∷ [];
    is_cut = cut_ended front is.lines rest is.is_cut;
    counted = ap (λ k. k + 1) is.counted ∙ ap (λ k. k + 1) (sym (length-append is.lines (rest ∷ [])));
    has = subst (HasHeader (front ++ 10 ∷ [])) (sym taken.0) (more_header front (10 ∷ []) c.header is.has);
    checking = taken.1;
  }
  taken_so front rest n (Follows c) (Ends k w) e g is taken =
      subst (λ j. IsWrong code (front ++ 10 ∷ []) j w) (sym taken.0)
      (taken.1 (front ++ 10 ∷ []) n (more_header front (10 ∷ []) c.header is.has) (line_there front is.lines rest n is.is_cut is.counted))

  -- with no unfinished line
  pub after_line : (front : List ℕ) (rest : List ℕ) (n m : ℕ) (stage : Stage) → rest ≡ [] → m ≡ n + 1
      → IsStage code front [] (n + 1) stage → IsStage code front rest m stage
  after_line front rest n m stage none next is =
      subst (λ (xs : List ℕ). IsStage code front xs m stage) (sym none)
      (subst (λ (k : ℕ). IsStage code front [] k stage) (sym next) is)

  module _ (h : Header) (line : List ℕ) where
    -- what is wrong with a line after a log that isn't refuted
    pub unrefuted_wrong : IsUnrefuted code h → IsWrongLine code h line Refused
    unrefuted_wrong is bytes number has there = (h, line, has, there, Open is.log is.lines is.next is.unclosed)

    -- with a line that isn't the next log's
    pub wrong_log_so : (w : Wrong) → IsWrongLog line w → IsRefused code h line → IsWrongLine code h line w
    wrong_log_so Refused is refused bytes number has there = (h, line, has, there, refused)
    wrong_log_so Form is refused bytes number has there = NoLog line there is
    wrong_log_so (Limit which count limit) is refused bytes number has there = absurd is

    -- with one before which no log is refuted any more
    pub over_wrong : (log : Log) (which : Which) (count limit : ℕ) → IsNext code h log
        → IsBuildFault code log (build.Limit which count limit) → IsWrongLine code h line (Limit which count limit)
    over_wrong log which count limit next over bytes number has there = (h, log, has, next, over)

  -- a checker is that of the log that comes next
  module _ (h : Header) (p : Place) (at : IsAt code h p) (c : Checking) (is : IsFollowing code h p c) where
    pub next_of : IsNext code h is.log
    next_of = is_next code (liveness p.live) h p at.reached is.log is.of

    -- its log isn't refuted if its lines aren't closed
    pub unrefuted : (verdict c ≡ Ok Closed → ⊥) → IsUnrefuted code h
    unrefuted unclosed = record {
      log = is.log;
      next = next_of;
      lines = is.lines;
      unclosed = λ closed. unclosed (ap verdict is.follows ∙ closed);
    }

    -- no moves reproduce its log if they are
    pub refuted : IsLawful code → verdict c ≡ Ok Closed → IsImpossible (buffer_of h.model) code is.log
    refuted lawful closed =
        refuted_so code lawful h.model is.log is.lines (log_is code (liveness p.live) h p at.reached is.log is.of) is.within (sym (ap verdict is.follows) ∙ closed)

    -- after another line
    pub follows_on : (l : Line) (next : Checking) → next ≡ state_after_line c l → IsFollowing code h p next
    follows_on l next e = record {
      log = is.log;
      of = is.of;
      within = is.within;
      lines = is.lines ++ l ∷ [];
      follows = e ∙ ap (λ s. state_after_line s l) is.follows
          ∙ sym (fold-append state_after_line (start (model_clauses h.model code is.log)) is.lines (l ∷ []));
    }

    -- a line that doesn't pass is wrong
    pub fails_so : (line : List ℕ) (l : Line) (next : Checking) (fault : CheckFault) → IsTextOf line l
        → next ≡ state_after_line c l → next.fault ≡ Some fault → IsWrongLine code h line Refused
    unfolding follows_on
    fails_so line l next fault text e is_fault bytes number has there = (
      h,
      line,
      has,
      there,
      Fails is.log is.lines l fault next_of text
          (ap verdict (sym (follows_on l next e).follows) ∙ ap (λ f. verdict_of f next.closed) is_fault),
    )

-- the checker that is known
pub following_of : (code : Code) (cs : Checks) (c : Checking) → cs.checker ≡ Some c → IsChecking code cs
    → IsFollowing code cs.header cs.place c
following_of code cs c is was = subst (λ o. IfSome o (IsFollowing code cs.header cs.place)) is was.follows

-- what is known after the line of the next log
pub begins_log : (code : Code) (cs : Checks) (log : Log) (c : Checking) → cs.checker ≡ Some c → IsAt code cs.header cs.place
    → IsOf cs.header cs.place log → IsWithin code log → c ≡ start (model_clauses cs.header.model code log) → IsChecking code cs
begins_log code cs log c is at of within starts = record {
  at = at;
  follows = subst (λ o. IfSome o (IsFollowing code cs.header cs.place)) (sym is)
      (record { log = log; of = of; within = within; lines = []; follows = starts });
}

-- the same, if the header is said to be this one
pub log_begun : (code : Code) (cs : Checks) (h : Header) (log : Log) (c : Checking) → cs.header ≡ h → cs.checker ≡ Some c
    → IsAt code h cs.place → IsOf h cs.place log → IsWithin code log → c ≡ start (model_clauses h.model code log) → IsChecking code cs
log_begun code cs h log c same is at of within starts =
    begins_log code cs log c is (subst (λ k. IsAt code k cs.place) (sym same) at) (subst (λ k. IsOf k cs.place log) (sym same) of) within
    (subst (λ k. c ≡ start (model_clauses k.model code log)) (sym same) starts)

-- after another line of a refutation
pub goes_on : (code : Code) (before after : Checks) (c next : Checking) (l : Line) → before.checker ≡ Some c → after.checker ≡ Some next
    → after.header ≡ before.header → after.place ≡ before.place → next ≡ state_after_line c l → IsChecking code before → IsChecking code after
goes_on code before after c next l was is header place steps checking =
    let on = follows_on code before.header before.place checking.at c (following_of code before c was checking) l next steps in
    record {
      at = subst (λ p. IsAt code after.header p) (sym place) (subst (λ h. IsAt code h before.place) (sym header) checking.at);
      follows = subst (λ o. IfSome o (IsFollowing code after.header after.place)) (sym is)
          (subst (λ p. IsFollowing code after.header p next) (sym place)
          (subst (λ h. IsFollowing code h before.place next) (sym header) on));
    }

-- a line isn't that of a log if it isn't its text
pub not_line : (log : Log) (failing : Option Name) (threads : List ThreadPath) (line : List ℕ) → failing ≡ failing_of log → threads ≡ log.threads
    → (log_text (record { failing = failing; threads = threads }) ≡ line → ⊥) → log_text (line_of log) ≡ line → ⊥
not_line log failing threads line one two other same =
    other (ap (λ f. log_text (record { failing = f; threads = threads })) one
    ∙ ap (λ ts. log_text (record { failing = failing_of log; threads = ts })) two ∙ same)
