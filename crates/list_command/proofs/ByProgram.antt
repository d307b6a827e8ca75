-- From a run of `list` over a known program to its answers by status.
use Rattle.std.proofs.Common.{◌≡◌, ◌∙◌, ◌⊎◌, ◌<◌, inl, inr, ap, refl, sym, subst, ℕ, List, [], ◌∷◌, length, Option, Some, None, IfSome, Result, Ok, Err}
use Rattle.tc_code.specs.Code.{Code}
use Rattle.tc_code.specs.Listing.{listing_of}
use Rattle.tc_compile.specs.Programs.{IsCodeOf, IsRefusal}
use Rattle.tc_compile.proofs.OnePrograms.{one_code, one_refusal, refused_no_code}
use Rattle.tc_io.specs.Outside.{Files, SinkTells, Wrote, bytes_at}
use Rattle.tc_code.specs.tc_limits.declared.limits.TheConstants.{PROGRAM_BYTES}
use Rattle.tc_compile.specs.tc_parser.declared.fault.TextFault.{TextFault}
use Rattle.command_frame.specs.Answers.{IsFaultStatus, limit_line, number_of}
use Rattle.command_frame.specs.ByStatus.{Decides}
use Rattle.command_frame.specs.Inputs.{IsTooLong, Limit, Whole}
use Rattle.command_frame.specs.Run.{RunsOver}
use Rattle.command_frame.specs.declared.status.Status.TheVariants as status
use Rattle.command_frame.proofs.Statuses.{any_status, at_limit, outcome_at, said_alike, status_is}
use Rattle.command_inputs.specs.Limits.{program_limit}
use Rattle.command_inputs.specs.Outcomes.{outcome_status, outcome_text}
use Rattle.command_inputs.specs.Refusals.{refusal_said}
use Rattle.command_inputs.specs.declared.refusal.Refusal.{Refusal}
use Rattle.command_inputs.specs.declared.refusal.Refusal.TheVariants.{Program}
use Rattle.list_command.specs.Answers.{ListAnswers}
use Rattle.list_command.specs.Listing.{Lists, list_of}

-- this comes of a program
abbrev IsListed : (program : List ℕ) → Result Code Refusal → Type 0
IsListed program x = Lists (program ∷ []) x

-- a program has one outcome
one_listed : (program : List ℕ) (a b : Result Code Refusal) → IsListed program a → IsListed program b → a ≡ b
one_listed program (Ok c) (Ok d) f g = ap (λ x. Ok x) (one_code program c d f g)
one_listed program (Ok c) (Err (Program q)) f g = absurd (refused_no_code program q c g f)
one_listed program (Err (Program r)) (Ok d) f g = absurd (refused_no_code program r d f g)
one_listed program (Err (Program r)) (Err (Program q)) f g = ap (λ x. Err (Program x)) (one_refusal program r q f g)
one_listed program (Ok c) (Err _) f g = absurd g
one_listed program (Err (Program r)) (Err _) f g = absurd g
one_listed program (Err _) b f g = absurd f

module _ (program : List ℕ) (j k : SinkTells) where
  -- the outcomes with each status
  done : (x : Result Code Refusal) (text : List ℕ) → IsListed program x → outcome_status (λ _. status.Done) x ≡ status.Done
      → text ≡ outcome_text listing_of x → Wrote j k text → (code : Code) × IsCodeOf program code × Wrote j k (listing_of code)
  done (Ok code) text comes is said wrote = (code, comes, subst (Wrote j k) said wrote)
  done (Err (Program fault)) text comes is said wrote = absurd (let bad : status.ProgramRefused ≡ status.Done = is in cc)
  done (Err _) text comes is said wrote = absurd comes

  unread : (x : Result Code Refusal) (text : List ℕ) → IsListed program x → outcome_status (λ _. status.Done) x ≡ status.ProgramRefused
      → text ≡ outcome_text listing_of x → Wrote j k text → (fault : TextFault) × IsRefusal program fault × Wrote j k (refusal_said (Program fault)).1
  unread (Ok code) text comes is said wrote = absurd (let bad : status.Done ≡ status.ProgramRefused = is in cc)
  unread (Err (Program fault)) text comes is said wrote = (fault, comes, subst (Wrote j k) said wrote)
  unread (Err _) text comes is said wrote = absurd comes

  any_listed : (x : Result Code Refusal) → IsListed program x
      → (outcome_status (λ _. status.Done) x ≡ status.Done) ⊎ (outcome_status (λ _. status.Done) x ≡ status.ProgramRefused)
  any_listed (Ok code) comes = inl refl
  any_listed (Err (Program fault)) comes = inr refl
  any_listed (Err _) comes = absurd comes

  module _ (name : List ℕ) (number : ℕ) (over : RunsOver (list_of name) (program ∷ []) number j k) where
    decides : Decides (list_of name) (program ∷ [])
    decides one other f g = said_alike (list_of name) one other (one_listed program one other f g)

    -- no outcome has the status of a limit
    long : (limit : Limit) → IsTooLong (Whole program_limit name ∷ []) (program ∷ []) limit → Wrote j k (limit_line limit)
        → (PROGRAM_BYTES < length program) × Wrote j k (limit_line program_limit)
    long limit (inl is) wrote = (is.1, subst (λ l. Wrote j k (limit_line l)) is.0 wrote)
    long limit (inr later) wrote = absurd later.1

    no_limit : (x : Result Code Refusal) → IsListed program x → outcome_status (λ _. status.Done) x ≡ status.OverLimit → ⊥
    no_limit x comes is = elim (any_listed x comes) [
      | inl done ↦ let bad : status.Done ≡ status.OverLimit = sym done ∙ is in cc
      | inr refused ↦ let bad : status.ProgramRefused ≡ status.OverLimit = sym refused ∙ is in cc
    ]

    alone : (number ≡ 0) ⊎ (number ≡ 3) ⊎ (number ≡ 6) ⊎ IsFaultStatus number
    alone = elim (any_status (list_of name) (program ∷ []) number j k over) [
      | inl limit ↦ inr (inr (inl limit.0))
      | inr (inl put) ↦ elim (any_listed put.2.0 put.2.2) [
        | inl done ↦ inl (put.1 ∙ ap number_of (sym put.2.3 ∙ done))
        | inr refused ↦ inr (inl (put.1 ∙ ap number_of (sym put.2.3 ∙ refused)))
      ]
      | inr (inr fault) ↦ inr (inr (inr fault))
    ]

    pub by_program : ListAnswers program number j k
    by_program = record {
      listing = λ zero. let o = outcome_at (list_of name) (program ∷ []) number j k over status.Done tt zero in done o.0 o.4 o.2 o.3 o.5 o.6;
      refused = λ three.
          let o = outcome_at (list_of name) (program ∷ []) number j k over status.ProgramRefused tt three in unread o.0 o.4 o.2 o.3 o.5 o.6;
      limit = λ six. elim (at_limit (list_of name) (program ∷ []) number j k over six) [
        | inl told ↦ long told.0 told.1 told.2
        | inr o ↦ absurd (no_limit o.0 o.2 o.3)
      ];
      listed = λ code is short. status_is (list_of name) (program ∷ []) number j k over decides (Ok code) (short, tt) is;
      unlisted = λ fault is short. status_is (list_of name) (program ∷ []) number j k over decides (Err (Program fault)) (short, tt) is;
      alone = alone;
    }

-- where the shelf tells what it holds
pub by_files : (held : Option Files) (name : List ℕ) (number : ℕ) (j k : SinkTells)
    → IfSome held (λ files. RunsOver (list_of name) (bytes_at files name ∷ []) number j k)
    → IfSome held (λ files. ListAnswers (bytes_at files name) number j k)
by_files None name number j k over = tt
by_files (Some files) name number j k over = by_program (bytes_at files name) j k name number over
