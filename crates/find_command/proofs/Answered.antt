-- From a search over known files to its answers.
use Rattle.std.proofs.Common.{◌≡◌, ◌⊎◌, inl, inr, ap, subst, refl, arith, ℕ, ◌+◌, ◌<◌, List, [], ◌∷◌, length, Some, Vec, Global, IfSome}
use Rattle.tc_code.specs.Code.{Code}
use Rattle.tc_compile.specs.Programs.{IsCodeOf}
use Rattle.tc_compile.proofs.OnePrograms.{one_refusal, refused_no_code}
use Rattle.tc_io.specs.Outside.{Files, ShelfTells, SinkTells, Wrote, bytes_at}
use Rattle.command_inputs.specs.command_ends.Ends.{HasDeclined}
use Rattle.command_inputs.proofs.command_ends.Ended.{Reports, declines, reported, reported_or_declined, result_at}
use Rattle.command_frame.specs.Answers.{number_of}
use Rattle.command_frame.specs.ByStatus.{IsStatus}
use Rattle.command_frame.specs.End.{End}
use Rattle.command_frame.specs.Keeps.{put_all}
use Rattle.command_frame.specs.Run.{Runs}
use Rattle.command_frame.specs.declared.status.Status.TheVariants.{Done, Fails, Open}
use Rattle.command_frame.proofs.AllRuns.{if_told}
use Rattle.command_inputs.specs.declared.refusal.Refusal.{Refusal}
use Rattle.command_inputs.specs.declared.refusal.Refusal.TheVariants.{Program}
use Rattle.find_failures.specs.Found.{IsFound}
use Rattle.find_failures.specs.clap_solve.Clauses.{bound_of}
use Rattle.find_failures.specs.declared.found.Found.{Found}
use Rattle.find_failures.specs.declared.found.Found.TheVariants as found
use Rattle.find_failures.specs.declared.found.Reach.{Reach}
use Rattle.find_failures.specs.declared.found.Reach.TheVariants.{Every, Bounded}
use Rattle.find_failures.specs.declared.found.Refuted.{Refuted}
use Rattle.find_failures.specs.declared.found.Unknown.{Unknown}
use Rattle.store_buffers.specs.Buffers.{buffer_of}
use Rattle.certified_logs.specs.none_certificates.Texts.{certificate_text}
use Rattle.log_limits.specs.Parts.{limit_of, part_left}
use Rattle.find_command.specs.Answers.{HasCode, HasFound, HasLimit, HasMany, HasNone, HasNoneWithin, HasSpent, AreRefuted, LeavesCertificate, SearchAnswers}
use Rattle.find_command.specs.Calls.{Search, inputs_of}
use Rattle.find_command.specs.Findings.{HasFormat, IsToldAs, IsToldUnknown, certificate_of}
use Rattle.find_command.specs.Lines.{finding_line, finding_status, never_line}
use Rattle.find_command.specs.Meanings.{ComesTo, IsUnread, keeps_of, report_of, search_of}
use Rattle.find_command.specs.declared.finding.Finding.{Finding}
use Rattle.find_command.specs.declared.finding.Finding.TheVariants.{Possible, Never, Spent, TooMany, Over}
use Rattle.find_command.specs.declared.finding.Findings.{Findings}
use Rattle.find_command.proofs.Written.{one_is_written}

-- the log of a result can be written
pub has_format : (call : Search) (code : Code) (f : Found) → call.asked.outcomes < 65536
    → IsFound (buffer_of call.model) (bound_of call.model) code call.model call.asked f → HasFormat f
has_format call code (found.Possible log) short is = one_is_written code call.asked.kind call.asked.outcomes short log.log is.0.is_one
has_format call code (found.Unknown o) short is = one_is_written code call.asked.kind call.asked.outcomes short o.log.log is.needed.is_one
has_format call code (found.Never reach) short is = tt
has_format call code found.TooMany short is = tt
has_format call code (found.LeftOut out) short is = tt

-- a text is refused for one reason, and isn't searched then
one_unread : (program : List ℕ) (r q : Refusal) → IsUnread program r → IsUnread program q → r ≡ q
one_unread program (Program r) (Program q) f g = ap (λ x. Program x) (one_refusal program r q f g)
one_unread program (Program r) _ f g = absurd g
one_unread program _ q f g = absurd f

unread_or_coded : (program : List ℕ) (code : Code) → IsCodeOf program code → (r : Refusal) → IsUnread program r → ⊥
unread_or_coded program code is (Program r) f = refused_no_code program r code f is
unread_or_coded program code is _ f = f

module _ (call : Search) (files : Files) (e : End) where
  abbrev program : List ℕ
  program = bytes_at files call.program

  module _ (code : Code) where
    -- the call ended with one of these statuses, for its reason
    abbrev IsEnd : Type 0
    IsEnd = ((e.status ≡ 0) × HasFound call files e code)
        ⊎ ((e.status ≡ 1) × (HasNone call files e code ⊎ HasNoneWithin call files e code))
        ⊎ ((e.status ≡ 10) × (HasSpent call files e code ⊎ HasMany call files e code))
        ⊎ ((e.status ≡ 6) × HasLimit call files e code)

    -- this was done with what was found
    pub record IsDone (y : Finding) (logs : ℕ) : Type 0 where
      pub status : e.status ≡ number_of (finding_status y)
      pub held : e.held ≡ put_all (keeps_of call y) (Some files)
      pub wrote : Wrote e.before e.after (finding_line call.asked y logs)

    module _ (logs : List Refuted) (refuted : AreRefuted call files e code logs) where
      end_of_unknown : (o : Unknown) → IsFound (buffer_of call.model) (bound_of call.model) code call.model call.asked (found.Unknown o)
          → (y : Finding) → IsToldUnknown program o y → IsDone y (length logs) → IsEnd
      end_of_unknown o is (Spent text) told d =
          inr (inr (inl (
            d.status,
            inl (record {
              unknown = o;
              first = is;
              spent = told.0;
              logs = logs;
              refuted = refuted;
              leaves = (text.items, told.1, (d.held, d.wrote));
            }),
          )))
      end_of_unknown o is (Over part number) told d = inr (inr (inr (d.status, (part, number, inl (o, is, told), (d.held, d.wrote)))))
      end_of_unknown o is (Possible text) told d = absurd told
      end_of_unknown o is (Never reach text) told d = absurd told
      end_of_unknown o is TooMany told d = absurd told

      leaves_certificate : (reach r : Reach) (text : Vec ℕ Global) → r ≡ reach → text.items ≡ certificate_text (certificate_of call reach logs)
          → IsDone (Never r text) (length logs) → LeavesCertificate call files e reach logs
      leaves_certificate reach r text same is d = (
        subst (λ bytes. e.held ≡ put_all (record { name = call.out; bytes = bytes } ∷ []) (Some files)) is d.held,
        subst (λ q. Wrote e.before e.after (never_line call.asked.outcomes q (length logs))) same d.wrote,
      )

      end_of_never : (reach : Reach) → IsFound (buffer_of call.model) (bound_of call.model) code call.model call.asked (found.Never reach)
          → LeavesCertificate call files e reach logs → e.status ≡ 1 → IsEnd
      end_of_never Every is leaves one =
          inr (inl (one, inl (record { none = is; logs = logs; refuted = refuted; leaves = leaves })))
      end_of_never Bounded is leaves one =
          inr (inl (one, inr (record { none = is; logs = logs; refuted = refuted; leaves = leaves })))

      end_of : (f : Found) → IsFound (buffer_of call.model) (bound_of call.model) code call.model call.asked f
          → (y : Finding) → IsToldAs program call logs f y → IsDone y (length logs) → IsEnd
      end_of (found.Possible log) is (Possible text) told d =
          inl (
            d.status,
            record {
              log = log;
              needed = is.0;
              possible = is.1;
              logs = logs;
              refuted = refuted;
              leaves = (text.items, told, (d.held, d.wrote));
            },
          )
      end_of (found.Possible log) is (Never reach text) told d = absurd told
      end_of (found.Possible log) is (Spent text) told d = absurd told
      end_of (found.Possible log) is TooMany told d = absurd told
      end_of (found.Possible log) is (Over part number) told d = absurd told
      end_of (found.Never reach) is (Never r text) told d =
          end_of_never reach is (leaves_certificate reach r text told.0 told.1 d) d.status
      end_of (found.Never reach) is (Possible text) told d = absurd told
      end_of (found.Never reach) is (Spent text) told d = absurd told
      end_of (found.Never reach) is TooMany told d = absurd told
      end_of (found.Never reach) is (Over part number) told d = absurd told
      end_of (found.Unknown o) is y told d = end_of_unknown o is y told d
      end_of found.TooMany is y told d =
          let own = subst (λ z. IsDone z (length logs)) told d in
          inr (inr (inl (own.status, inr (is, (own.held, own.wrote)))))
      end_of (found.LeftOut out) is y told d =
          let own = subst (λ z. IsDone z (length logs)) told d in
          inr (inr (inr (own.status, (part_left out, limit_of (part_left out) + 1, inr (refl, is.1), (own.held, own.wrote)))))

  abbrev IsReported : Findings → Type 0
  IsReported x = Reports (inputs_of call) (ComesTo call) (report_of call) files e x

  -- how a call that reports findings ended
  end_by : (x : Findings) → IsReported x → HasCode call files e IsEnd
  end_by x r =
      let s = r.comes.2.0 in
      let is = r.comes.2.1 in
      let told = r.comes.2.2 in (
        r.comes.0,
        r.comes.1,
        end_of r.comes.0 s.refuted.items is.refuted s.found is.found x.finding told.finding
            (record {
              status = r.status;
              held = r.held;
              wrote = subst (λ n. Wrote e.before e.after (finding_line call.asked x.finding n)) told.impossible r.wrote;
            }),
      )

  found_by : HasCode call files e IsEnd → e.status ≡ 0 → HasCode call files e (HasFound call files e)
  found_by h zero =
      elim h.2 [
        | inl x ↦ (h.0, h.1, x.1)
        | inr (inl x) ↦ absurd (omega (arith, zero, x.0))
        | inr (inr (inl x)) ↦ absurd (omega (arith, zero, x.0))
        | inr (inr (inr x)) ↦ absurd (omega (arith, zero, x.0))
      ]

  none_by : HasCode call files e IsEnd → e.status ≡ 1
      → HasCode call files e (λ code. HasNone call files e code ⊎ HasNoneWithin call files e code)
  none_by h one =
      elim h.2 [
        | inl x ↦ absurd (omega (arith, one, x.0))
        | inr (inl x) ↦ (h.0, h.1, x.1)
        | inr (inr (inl x)) ↦ absurd (omega (arith, one, x.0))
        | inr (inr (inr x)) ↦ absurd (omega (arith, one, x.0))
      ]

  unknown_by : HasCode call files e IsEnd → e.status ≡ 10
      → HasCode call files e (λ code. HasSpent call files e code ⊎ HasMany call files e code)
  unknown_by h ten =
      elim h.2 [
        | inl x ↦ absurd (omega (arith, ten, x.0))
        | inr (inl x) ↦ absurd (omega (arith, ten, x.0))
        | inr (inr (inl x)) ↦ (h.0, h.1, x.1)
        | inr (inr (inr x)) ↦ absurd (omega (arith, ten, x.0))
      ]

  status_by : HasCode call files e IsEnd → (e.status ≡ 0) ⊎ (e.status ≡ 1) ⊎ (e.status ≡ 10) ⊎ IsStatus e.status 6
  status_by h =
      elim h.2 [
        | inl x ↦ inl x.0
        | inr (inl x) ↦ inr (inl x.0)
        | inr (inr (inl x)) ↦ inr (inr (inl x.0))
        | inr (inr (inr x)) ↦ inr (inr (inr (inl x.0)))
      ]

  abbrev Others : Type 0
  Others = (e.status ≡ 0) ⊎ (e.status ≡ 1) ⊎ (e.status ≡ 10) ⊎ ((e.status ≡ 6) × HasCode call files e (HasLimit call files e))
      ⊎ HasDeclined (inputs_of call) (IsUnread program) files e

  other_by : HasCode call files e IsEnd → Others
  other_by h =
      elim h.2 [
        | inl x ↦ inl x.0
        | inr (inl x) ↦ inr (inl x.0)
        | inr (inr (inl x)) ↦ inr (inr (inl x.0))
        | inr (inr (inr x)) ↦ inr (inr (inr (inl (x.0, (h.0, h.1, x.1)))))
      ]

module _ (call : Search) (files : Files) (old new : ShelfTells) (number : ℕ) (j k : SinkTells) (told : old.held ≡ Some files)
    (runs : Runs (search_of call) old new number j k) where
  abbrev e : End
  e = record { status = number; held = new.held; before = j; after = k }

  answers : SearchAnswers call files e
  answers = record {
    found = λ is.
        let x = result_at (inputs_of call) (ComesTo call) (report_of call) files old new number j k told runs Done tt is in
        found_by call files e (end_by call files e x.0 x.2) is;
    none = λ is.
        let x = result_at (inputs_of call) (ComesTo call) (report_of call) files old new number j k told runs Fails tt is in
        none_by call files e (end_by call files e x.0 x.2) is;
    unknown = λ is.
        let x = result_at (inputs_of call) (ComesTo call) (report_of call) files old new number j k told runs Open tt is in
        unknown_by call files e (end_by call files e x.0 x.2) is;
    searched = λ code is short.
        elim (reported (inputs_of call) (ComesTo call) (report_of call) files old new number j k told runs short
        (unread_or_coded (bytes_at files call.program) code is)) [
          | inl x ↦ status_by call files e (end_by call files e x.0 x.1)
          | inr fault ↦ inr (inr (inr (inr fault)))
        ];
    declines =
        declines (inputs_of call) (ComesTo call) (report_of call) files old new number j k told runs
        (one_unread (bytes_at files call.program)) (λ r x f w. unread_or_coded (bytes_at files call.program) w.0 w.1 r f);
    others =
        elim (reported_or_declined (inputs_of call) (ComesTo call) (report_of call) files old new number j k told runs) [
          | inl x ↦ other_by call files e (end_by call files e x.0 x.1)
          | inr declined ↦ inr (inr (inr (inr declined)))
        ];
  }

-- where the shelf tells what it holds
pub by_files : (call : Search) (old new : ShelfTells) (number : ℕ) (j k : SinkTells) → Runs (search_of call) old new number j k
    → IfSome old.held (λ files. SearchAnswers call files (record { status = number; held = new.held; before = j; after = k }))
by_files call old new number j k runs =
    if_told old.held (λ files. SearchAnswers call files (record { status = number; held = new.held; before = j; after = k }))
    (λ files is. answers call files old new number j k is runs)
