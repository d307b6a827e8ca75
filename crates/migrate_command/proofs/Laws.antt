-- The text of a log in format 2, and what is read back from it.
use Rattle.std.proofs.Common.{◌≡◌, ◌∙◌, ◌≤◌, ap, ap₂, sym, subst, refl, arith, ℕ, Bool, true, false, cond, List, [], ◌∷◌, length, Option, Some, None, option_map}
use Rattle.std.specs.Prelude.{◌&&◌, IsTrue, nat_le, nat_lt}
use Rattle.std.specs.List.{list_all}
use Rattle.sha2.specs.Sha256.{sha256}
use Rattle.kept_logs.specs.Digests.{with_digest}
use Rattle.kept_logs.proofs.Digests.{sha256_is}
use Rattle.kept_logs.specs.path_log.Texts.{IsLog, log_text}
use Rattle.kept_logs.proofs.path_log.Logs.{has_text, one_log, text_is}
use Rattle.run_log.specs.Logs.{Log, StoredLog, first_deeper}
use Rattle.run_log.specs.tc_base.Paths.{ThreadPath}
use Rattle.tc_record.specs.Logged.{is_small, most_log_bytes}
use Rattle.tc_record.proofs.Sizes.{recorded_size}
use Rattle.command_inputs.specs.declared.limits.LogPart.TheVariants.{Threads, Depth}
use Rattle.command_inputs.specs.declared.refusal.Refusal.TheVariants.{LogOver}
use Rattle.migrate_command.specs.Migrated.{IsMigrated, excess_of}

-- a log within all limits is small

shallow : (ts : List ThreadPath) → first_deeper 8 ts ≡ None → list_all (λ (t : ThreadPath). nat_le (length t.name) 8) ts ≡ true
shallow [] e = refl
shallow (t ∷ ts) e = by (nat_lt 8 (length t.name)) refl e (shallow ts)
  where
    by : (b : Bool) → nat_lt 8 (length t.name) ≡ b → cond b (Some (length t.name)) (first_deeper 8 ts) ≡ None
        → (first_deeper 8 ts ≡ None → list_all (λ (u : ThreadPath). nat_le (length u.name) 8) ts ≡ true)
        → (nat_le (length t.name) 8 && list_all (λ (u : ThreadPath). nat_le (length u.name) 8) ts) ≡ true
    by true is e rest = cc
    by false is e rest = let low : nat_le (length t.name) 8 ≡ true = grind arith in ap₂ (λ x y. x && y) low (rest e)

none_of : (o : Option ℕ) → option_map (λ depth. LogOver Depth depth) o ≡ None → o ≡ None
none_of None e = refl
none_of (Some n) e = cc

small : (log : Log) → excess_of log ≡ None → IsTrue (is_small log)
small log e = by (nat_lt 16 (length log.threads)) refl e
  where
    by : (b : Bool) → nat_lt 16 (length log.threads) ≡ b
        → cond b (Some (LogOver Threads (length log.threads))) (option_map (λ depth. LogOver Depth depth) (first_deeper 8 log.threads)) ≡ None → is_small log ≡ true
    by true is e = cc
    by false is e = let few : nat_le (length log.threads) 16 ≡ true = grind arith in ap₂ (λ x y. x && y) few (shallow log.threads (none_of _ e))

module _ (program log text : List ℕ) (m : IsMigrated program log text) where
  module _ (run : StoredLog) (is : IsLog log run) where
    -- the text is that of the log with the program's digest
    pub kept_log : IsLog text (with_digest program run.log)
    kept_log = subst (λ (r : StoredLog). IsLog text (with_digest program r.log)) (one_log log m.pair.run run m.pair.logs is) m.is_text

    -- the text is read back only as that log
    pub read_again : (again : StoredLog) → IsLog text again → again ≡ with_digest program run.log
    read_again again reads = one_log text again (with_digest program run.log) reads kept_log

    -- if the log has that digest, the text is the same
    pub kept_whole : run.digest ≡ Some (sha256 program) → text ≡ log
    kept_whole e = text_is kept_log ∙ ap (λ o. log_text (record { digest = o; log = run.log })) (sym e) ∙ sym (text_is is)

  -- the text isn't too long to be read
  pub kept_short : length text ≤ most_log_bytes
  kept_short =
      let size = recorded_size (sha256 program) m.pair.run.log (sha256_is program) (has_text m.pair.logs).is_of_format (small m.pair.run.log m.within) in
      omega (arith, size, ap length (text_is m.is_text))
