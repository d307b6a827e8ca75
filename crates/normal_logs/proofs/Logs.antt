-- Each failure and each deadlock has a normal log.
use Rattle.std.proofs.Common.{◌≡◌, ◌∙◌, ℕ, Bool, true, List, ◌++◌, length, Option, Some, None, IsSome, refl, sym, ap, subst, arith}
use Rattle.std.specs.Prelude.{option_map}
use Rattle.std.specs.FinMap as fin
use Rattle.std.proofs.lemmas.Bool.{leb-true, le-leb}
use Rattle.std.proofs.lemmas.List.{length-append}
use Rattle.std.proofs.lemmas.Option.{none-some, same_Some}
use Rattle.tc_record.specs.run_log.Logs.{Log}
use Rattle.tc_record.specs.tc_base.Paths.{Path, path_under}
use Rattle.tc_record.specs.tc_base.Names.{Name}
use Rattle.tc_record.specs.tc_base.States.{Thread, State}
use Rattle.tc_record.specs.tc_base.declared.moves.Move.{Move}
use Rattle.tc_record.specs.tc_code.Run.{run, path_of, path_in, EndsAs, IsStuck, Reproduces}
use Rattle.tc_record.proofs.tc_code.Facts.{failed_as_logged}
use Rattle.least_runs.proofs.run_laws.Basics.{some_value}
use Rattle.least_runs.specs.run_history.History.{Deed, history}
use Rattle.least_runs.specs.run_follows.Machine.{Machine}
use Rattle.least_runs.specs.run_follows.Logged.{path_by, path_told}
use Rattle.least_runs.proofs.run_follows.Follows.{AllTold, all_told}
use Rattle.least_runs.proofs.run_follows.Stuck.{stuck_is_told}
use Rattle.tc_record.proofs.path_laws.Prefixes.{thread_path}
use Rattle.least_runs.specs.Least.{HasLeast}
use Rattle.least_runs.proofs.Least.{has_least}
use Rattle.normal_logs.specs.Normal.{IsNormal, IsNormalDeadlock}
use Rattle.normal_logs.specs.Within.{Allowed, at_most, HasBeginnings, ComesTo, ReproducesSome}
use Rattle.normal_logs.proofs.Histories.{HasLog, path_is, failure_log, deadlock_log}

module _ {B : Type 0} where
  path_of_local : (o : Option (Thread B)) → option_map path_by (option_map (λ (t : Thread B). t.local) o) ≡ option_map path_of o
  path_of_local None = refl
  path_of_local (Some t) = refl

  -- the path of a thread is allowed if its outcomes are
  bounded_by : (s : State B) (n : Name) (a : List Bool → Bool) → ((t : Thread B) → fin.get s.threads n ≡ Some t → a t.local.outcomes ≡ true)
      → (o : Option (Thread B)) → fin.get s.threads n ≡ o → (p : Path) → option_map path_of o ≡ Some p → a p.outcomes ≡ true
  bounded_by s n a within None here p is = absurd (none-some p is)
  bounded_by s n a within (Some t) here p is = subst (λ (q : Path). a q.outcomes ≡ true) (same_Some (path_of t) p is) (within t here)

  bounded : (s : State B) (n : Name) (a : List Bool → Bool) → ((t : Thread B) → fin.get s.threads n ≡ Some t → a t.local.outcomes ≡ true)
      → (p : Path) → path_in s n ≡ Some p → a p.outcomes ≡ true
  bounded s n a within p is = bounded_by s n a within (fin.get s.threads n) refl p is

module _ {B : Type 0} (machine : Machine B) (allowed : Allowed) where
  open machine use {ops, model, bound, code}

  -- a log whose paths are allowed leads to a state with allowed outcomes
  within_log : (log : Log) (moves : List Move) (again : Reproduces ops code log moves)
      → ((n : Name) (p : Path) → path_under n log.threads ≡ Some p → allowed n p.outcomes ≡ true)
      → (n : Name) (t : Thread B) → fin.get again.state.threads n ≡ Some t → allowed n t.local.outcomes ≡ true
  within_log log moves again within n t here = within n (path_of t) (thread_path ops code log moves again n t here)

  pub fails_from : ReproducesSome ops code allowed model (IsNormal code) → ComesTo ops code allowed (λ s. IsSome s.failed)
  fails_from r = record {
    moves = r.moves;
    state = r.again.state;
    leads = r.again.leads;
    is = subst IsSome (sym (failed_as_logged ops code r.log r.again.state r.again.ends)) r.is.fails;
    within = within_log r.log r.moves r.again r.within;
  }

  pub stuck_from : ReproducesSome ops code allowed model (IsNormalDeadlock code) → ComesTo ops code allowed (IsStuck ops code)
  stuck_from r = record {
    moves = r.moves;
    state = r.again.state;
    leads = r.again.leads;
    is = subst (λ f. EndsAs ops code f r.log.threads r.again.state) r.is.ends r.again.ends;
    within = within_log r.log r.moves r.again r.within;
  }

  -- the paths of a run are those of its history
  told_path : (moves : List Move) (s : State B) → run ops code moves ≡ Some s → (n : Name) → path_told code (history ops code moves) n ≡ path_in s n
  told_path moves s leads n = ap (option_map path_by) ((all_told machine moves s leads).tells.locals n) ∙ path_of_local (fin.get s.threads n)

  -- the paths of the history are allowed
  pub told_within : (moves : List Move) (s : State B) → run ops code moves ≡ Some s
      → ((n : Name) (t : Thread B) → fin.get s.threads n ≡ Some t → allowed n t.local.outcomes ≡ true)
      → (n : Name) (p : Path) → path_told code (history ops code moves) n ≡ Some p → allowed n p.outcomes ≡ true
  told_within moves s leads within n p is = bounded s n (allowed n) (within n) p (sym (told_path moves s leads n) ∙ is)

  -- the log of a deadlock
  pub stuck_to : ComesTo ops code allowed (IsStuck ops code) → ReproducesSome ops code allowed model (IsNormalDeadlock code)
  stuck_to c =
      let g = history ops code c.moves in
      let r =
      deadlock_log machine g (all_told machine c.moves c.state c.leads).follow ((stuck_is_told machine c.moves c.state c.leads).0 c.is) in
      record {
        log = r.log;
        is = r.is;
        under = r.under;
        within = λ n p is. told_within c.moves c.state c.leads c.within n p (path_is machine g (IsNormalDeadlock code) r n p is);
        moves = r.moves;
        again = r.again;
      }

  -- the log of a least run
  module _ (begins : HasBeginnings allowed) (c : ComesTo ops code allowed (λ s. IsSome s.failed)) (f : Name) (fails : c.state.failed ≡ Some f) where
    abbrev whole : List Deed
    whole = history ops code c.moves

    told : AllTold machine c.state whole
    told = all_told machine c.moves c.state c.leads

    least : HasLeast ops.buffered bound code whole f
    least = has_least machine f whole told.follow (sym told.tells.failure ∙ fails)

    its_log : HasLog machine least.deeds (IsNormal code)
    its_log = failure_log machine least.deeds least.run f least.fails least.least

    within : (n : Name) (p : Path) → path_under n its_log.log.threads ≡ Some p → allowed n p.outcomes ≡ true
    within n p is =
        let b = least.part n p (path_is machine least.deeds (IsNormal code) its_log n p is) in
        begins n p.outcomes b.later
        (subst (λ os. allowed n os ≡ true) b.outcomes (told_within c.moves c.state c.leads c.within n b.path b.there))

    fails_by : ReproducesSome ops code allowed model (IsNormal code)
    fails_by =
        record { log = its_log.log; is = its_log.is; under = its_log.under; within = within; moves = its_log.moves; again = its_log.again }

  pub fails_to : HasBeginnings allowed → ComesTo ops code allowed (λ s. IsSome s.failed) → ReproducesSome ops code allowed model (IsNormal code)
  fails_to begins c = let f = some_value c.state.failed c.is in fails_by begins c f.0 f.1

-- a first part of at most `most` outcomes has at most `most`
pub few_begin : (most : ℕ) → HasBeginnings (at_most most)
few_begin most n first later few =
    let within = leb-true (length (first ++ later)) most few in
    le-leb (length first) most (omega (arith, within, length-append first later))
