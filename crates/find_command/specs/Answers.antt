-- The headline: what a search answers to a program that is known.
use Rattle.std.specs.Prelude.{◌≡◌, ◌⊎◌, ℕ, ◌+◌, List, length}
use Rattle.std.specs.List.{All}
use Rattle.store_buffers.specs.Buffers.{BufferOf, buffer_of}
use Rattle.log_walk.specs.tc_base.Buffers.{BufferOps}
use Rattle.tc_code.specs.Code.{Code}
use Rattle.tc_compile.specs.Programs.{IsCodeOf}
use Rattle.tc_io.specs.Outside.{Files, bytes_at}
use Rattle.kept_logs.specs.run_log.Logs.{StoredLog}
use Rattle.command_inputs.specs.command_ends.Ends.{AreShort, Declines, HasDeclined}
use Rattle.command_frame.specs.ByStatus.{IsStatus}
use Rattle.command_frame.specs.End.{End, Leaves, LeavesNothing}
use Rattle.find_failures.specs.Found.{AreMany, IsRefuted, IsUnknown}
use Rattle.find_failures.specs.Runs.{IsNeeded, IsPossible, NoneEnds, NoneEndsWithin, NoneWithin}
use Rattle.find_failures.specs.clap_solve.Clauses.{bound_of}
use Rattle.find_failures.specs.declared.found.Reach.{Reach}
use Rattle.find_failures.specs.declared.found.Reach.TheVariants.{Every, Bounded}
use Rattle.find_failures.specs.declared.found.Reason.TheVariants.{Spent}
use Rattle.find_failures.specs.declared.found.Refuted.{Refuted}
use Rattle.find_failures.specs.declared.found.Unknown.{Unknown}
use Rattle.find_command.specs.Calls.{Search, inputs_of}
use Rattle.certified_logs.specs.none_certificates.Texts.{certificate_text}
use Rattle.log_limits.specs.Parts.{limit_of, over_line}
use Rattle.log_limits.specs.declared.part.Part.{Part}
use Rattle.find_command.specs.Findings.{IsLogOf, IsOver, certificate_of}
use Rattle.find_command.specs.Lines.{found_line, many_line, never_line, spent_line}
use Rattle.find_command.specs.Meanings.{IsUnread}

module _ (call : Search) (files : Files) (e : End) where
  -- the bytes of the program
  abbrev pub program : List ℕ
  program = bytes_at files call.program

  -- the machine under the memory model
  abbrev pub ops : BufferOps (BufferOf call.model)
  ops = buffer_of call.model

  -- OUT holds this log of the program, all else is as before, and this line was put
  abbrev pub LeavesLog : StoredLog → (line : List ℕ) → Type 0
  LeavesLog log line =
      (text : List ℕ) × IsLogOf program log text × Leaves files e call.out text line

  -- OUT holds the certificate with these logs, all else is as before, and the line counts them
  abbrev pub LeavesCertificate : Reach → List Refuted → Type 0
  LeavesCertificate reach logs =
      Leaves files e call.out (certificate_text (certificate_of call reach logs))
      (never_line call.asked.outcomes reach (length logs))

  -- the file is a program, and this holds of its code
  abbrev pub HasCode : (Code → Type 0) → Type 0
  HasCode P = (code : Code) × IsCodeOf program code × P code

  module _ (code : Code) where
    -- each has a closed derivation, so that no moves reproduce these logs
    abbrev pub AreRefuted : List Refuted → Type 0
    AreRefuted = All (IsRefuted ops (bound_of call.model) code)

    -- some moves reproduce the log in OUT, which records the end that is looked for
    pub record HasFound : Type 0 where
      pub log : StoredLog
      pub needed : IsNeeded call.model code call.asked.kind call.asked.outcomes log.log
      pub possible : IsPossible ops code log.log
      pub logs : List Refuted
      pub refuted : AreRefuted logs
      pub leaves : LeavesLog log (found_line (length logs))

    -- no run ends so
    pub record HasNone : Type 0 where
      pub none : NoneEnds ops code call.asked.kind
      pub logs : List Refuted
      pub refuted : AreRefuted logs
      pub leaves : LeavesCertificate Every logs

    -- each run that ends so has a thread with more outcomes than asked for
    pub record HasNoneWithin : Type 0 where
      pub none : NoneEndsWithin ops code call.asked.kind call.asked.outcomes
      pub logs : List Refuted
      pub refuted : AreRefuted logs
      pub leaves : LeavesCertificate Bounded logs

    -- this is the first log of which it isn't known whether it is possible
    abbrev pub IsFirstUnknown : Unknown → Type 0
    IsFirstUnknown o = IsUnknown ops (bound_of call.model) code call.model call.asked o

    -- no log before the one in OUT is possible, and the search for a schedule of it was given up
    pub record HasSpent : Type 0 where
      pub unknown : Unknown
      pub first : IsFirstUnknown unknown
      pub spent : unknown.reason ≡ Spent
      pub logs : List Refuted
      pub refuted : AreRefuted logs
      pub leaves : LeavesLog unknown.log (spent_line call.asked.budget (length logs))

    -- there are more logs than asked for
    abbrev pub HasMany : Type 0
    HasMany = AreMany code call.asked (call.asked.logs + 1)
        × LeavesNothing files e (many_line call.asked.kind call.asked.logs)

    -- the first log of which it isn't known has this many of these, which are too many; or logs
    -- with more than the limit were left out, and no other log is possible
    abbrev pub PassesLimit : Part → ℕ → Type 0
    PassesLimit part number =
        ((o : Unknown) × IsFirstUnknown o × IsOver part number o.reason)
        ⊎ ((number ≡ limit_of part + 1)
        × NoneWithin ops call.model code call.asked.kind call.asked.outcomes)

    -- a limit was told
    abbrev pub HasLimit : Type 0
    HasLimit = (part : Part) × (number : ℕ) × PassesLimit part number
        × LeavesNothing files e (over_line part number)

  -- the answers of a search
  pub record SearchAnswers : Type 0 where
    -- some moves of the machine reproduce the log in OUT
    pub found : e.status ≡ 0 → HasCode HasFound
    -- no moves of the machine lead to such an end, or none with few outcomes in each thread; OUT
    -- holds the certificate
    pub none : e.status ≡ 1 → HasCode (λ code. HasNone code ⊎ HasNoneWithin code)
    -- it isn't known of the log in OUT, or there are more logs than asked for
    pub unknown : e.status ≡ 10 → HasCode (λ code. HasSpent code ⊎ HasMany code)
    -- a program that isn't too long is searched, but for devices and memory
    pub searched : (code : Code) → IsCodeOf program code → AreShort (inputs_of call) files
        → (e.status ≡ 0) ⊎ (e.status ≡ 1) ⊎ (e.status ≡ 10) ⊎ IsStatus e.status 6
    -- a text that isn't a program, or is too long, is told, but for devices and memory
    pub declines : Declines (inputs_of call) (IsUnread program) files e
    -- otherwise a limit was told, or one of these
    pub others : (e.status ≡ 0) ⊎ (e.status ≡ 1) ⊎ (e.status ≡ 10)
        ⊎ ((e.status ≡ 6) × HasCode HasLimit)
        ⊎ HasDeclined (inputs_of call) (IsUnread program) files e
