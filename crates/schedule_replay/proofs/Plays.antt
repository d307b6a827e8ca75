-- Moves that were made one after another.
use Rattle.std.proofs.Common.{◌≡◌, ℕ, ◌+◌, ◌<◌, ◌≤◌, List, [], ◌∷◌, ◌++◌, length, take, drop, get_or, Some, ap, sym, ◌∙◌, arith, add-one, drop-cons, suc}
use Rattle.std.proofs.lemmas.List.{take_all, take_more, take-append-drop, length-take}
use Rattle.tc_base.specs.Buffers.{BufferOps}
use Rattle.tc_base.specs.States.{State}
use Rattle.tc_base.specs.declared.moves.Move.{Move}
use Rattle.tc_code.specs.Code.{Code}
use Rattle.tc_code.specs.Step.{step, opening}
use Rattle.tc_code.specs.Run.{run, Reproduces}
use Rattle.tc_code.proofs.Facts.{run_from-step}
use Rattle.tc_machine.specs.Why.{why}
use Rattle.tc_machine.specs.declared.why.Why.{Why}
use Rattle.tc_machine.specs.run_laws.Counters.{CountersAreBelowLast}
use Rattle.tc_machine.proofs.run_laws.Counts.{counters_below_last}
use Rattle.run_log.specs.Logs.{Log}
use Rattle.schedule_file.specs.Schedules.{most_lines}
use Rattle.schedule_replay.specs.Verdicts.{StopsAt, IsVerdict}
use Rattle.schedule_replay.proofs.OneVerdict.{one_verdict}
use Rattle.schedule_replay.specs.helpers.Judged.{IsJudged}
use Rattle.schedule_replay.specs.declared.verdict.Verdict.{Verdict}
use Rattle.schedule_replay.specs.declared.verdict.Verdict.TheVariants as verdict

split_at : {A : Type 0} (xs : List A) (i : ℕ) (x : A) → i < length xs → get_or xs i x ≡ x → xs ≡ take i xs ++ x ∷ drop (i + 1) xs
split_at xs i x lt e =
    sym (take-append-drop i xs) ∙ ap (λ ys. take i xs ++ ys) (drop-cons xs i x lt ∙ ap (λ y. y ∷ drop (suc i) xs) e ∙ ap (λ k. x ∷ drop k xs) (sym (add-one i)))

taken : {A : Type 0} (xs : List A) (i : ℕ) → i < length xs → length (take i xs) ≡ i
taken xs i lt = omega (arith, length-take i xs)

module _ {B : Type 0} (ops : BufferOps B) (code : Code) (moves : List Move) (i : ℕ) (m : Move) (s : State B) (lt : i < length moves) (here : m ≡ get_or moves
    i m)
    (leads : run ops code (take i moves) ≡ Some s) where
  -- the moves stop at one that isn't enabled
  pub stops_here : (r : Why) → why ops code s m ≡ Some r → StopsAt ops code moves (i + 1) r
  stops_here r e = record {
    before = take i moves;
    move = m;
    after = drop (i + 1) moves;
    state = s;
    split = split_at moves i m lt (sym here);
    counted = ap (λ n. n + 1) (sym (taken moves i lt));
    leads = leads;
    stops = e;
  }

  -- an enabled move leads on
  pub leads_on : (u : State B) → step ops code s m ≡ Some u → run ops code (take (i + 1) moves) ≡ Some u
  leads_on u e =
      ap (run ops code) (take_more moves i m lt ∙ ap (λ x. take i moves ++ x ∷ []) (sym here))
      ∙ run_from-step ops code (opening ops code) s u (take i moves) m leads e

  -- moves that stop don't reproduce the log
  pub not_reproduced : (r : Why) → why ops code s m ≡ Some r → (log : Log) → Reproduces ops code log moves → verdict.Stops (i + 1) r ≡ verdict.Reproduces
  not_reproduced r e log reproduces = one_verdict ops code log moves (verdict.Stops (i + 1) r) verdict.Reproduces (stops_here r e) reproduces

  pub counts : length moves < most_lines → CountersAreBelowLast s
  counts few = counters_below_last ops code (take i moves) s leads (omega (arith, few, taken moves i lt))

module _ {B : Type 0} (ops : BufferOps B) (code : Code) (log : Log) where
  -- the verdict on the state that all moves led to is the verdict on them
  pub verdict_of : (moves : List Move) (s : State B) → run ops code moves ≡ Some s → (v : Verdict) → IsJudged ops code s log v → IsVerdict ops code log moves v
  verdict_of moves s leads verdict.Reproduces judged = record { state = s; leads = leads; ends = judged.0; paths = judged.1 }
  verdict_of moves s leads (verdict.Stops _ _) judged = absurd judged
  verdict_of moves s leads v judged = (s, leads, judged)

  -- moves that reproduce the log get this verdict
  pub only_reproduced : (moves : List Move) (s : State B) → run ops code moves ≡ Some s → Reproduces ops code log moves → (v : Verdict)
      → IsJudged ops code s log v → v ≡ verdict.Reproduces
  only_reproduced moves s leads reproduces v judged = one_verdict ops code log moves v verdict.Reproduces (verdict_of moves s leads v judged) reproduces

-- all moves were made
pub all_made : {B : Type 0} (ops : BufferOps B) (code : Code) (moves : List Move) (i : ℕ) (s : State B) → length moves ≤ i
    → run ops code (take i moves) ≡ Some s → run ops code moves ≡ Some s
all_made ops code moves i s le leads = ap (run ops code) (sym (take_all i moves le)) ∙ leads
