-- At most one verdict is the first that holds.
use Rattle.std.proofs.Common.{◌≡◌, ℕ, suc, ◌+◌, List, [], ◌∷◌, ◌++◌, length, Option, Some, None, refl, ap, subst, sym, ◌∙◌, inl, inr, true≢false}
use Rattle.std.specs.Prelude.{slice_get}
use Rattle.std.specs.Option.{option_and_then, IsSomeAnd, IsSome, IsNone}
use Rattle.std.specs.Ordering.{nat_cmp, ordering_reverse}
use Rattle.std.specs.Cmp.Lexicographic.{slice_cmp}
use Rattle.std.specs.declared.cmp.Ordering.{Ordering}
use Rattle.std.specs.declared.cmp.Ordering.TheVariants.{Less, Equal, Greater}
use Rattle.std.proofs.lemmas.Cmp.{nat_list_cmp_total}
use Rattle.std.proofs.lemmas.Map.Lookups.{exact_bytes}
use Rattle.std.proofs.lemmas.Option.{same_Some}
use Rattle.tc_base.specs.Names.{Name}
use Rattle.tc_base.specs.Buffers.{BufferOps}
use Rattle.tc_base.specs.States.{State}
use Rattle.tc_base.specs.Paths.{ThreadPath, place_in}
use Rattle.run_log.specs.Logs.{Log}
use Rattle.tc_base.specs.declared.failing.Failing.{Failing}
use Rattle.tc_base.specs.declared.failing.Failing.TheVariants as failing
use Rattle.tc_base.specs.declared.moves.Move.{Move}
use Rattle.tc_code.specs.Code.{Code}
use Rattle.tc_code.specs.Step.{step, opening}
use Rattle.tc_code.specs.Run.{run, run_from, IsStuck, EndsAs}
use Rattle.tc_code.proofs.Facts.{run_from-append, failed_as_logged}
use Rattle.tc_machine.proofs.run_laws.Basics.{none_unless}
use Rattle.tc_machine.specs.Why.{why}
use Rattle.tc_machine.specs.declared.why.Why.{Why}
use Rattle.tc_machine.proofs.Reasons.{no_reason_where_enabled}
use Rattle.schedule_replay.specs.Verdicts.{StopsAt, IsFirstToDiffer, IsVerdictAt, IsVerdict}
use Rattle.schedule_replay.specs.helpers.Judged.{EndsAsLogged, IsJudged}
use Rattle.schedule_replay.specs.declared.verdict.Verdict.{Verdict}
use Rattle.schedule_replay.specs.declared.verdict.Verdict.TheVariants as verdict

not_both : {A : Type 0} (o : Option A) (x : A) → o ≡ Some x → IsNone o → ⊥
not_both None x e h = cc
not_both (Some y) x e h = cc

module _ {B : Type 0} (ops : BufferOps B) where
  module _ (code : Code) where
    -- a move with a reason isn't made
    not_made : (s : State B) (m : Move) (r : Why) → why ops code s m ≡ Some r → step ops code s m ≡ None
    not_made s m r e = none_unless _ (λ made. not_both _ r e ((no_reason_where_enabled ops code s m).1 made))

    stays_none : (o : Option (State B)) (ms : List Move) → o ≡ None → option_and_then (λ u. run_from ops code u ms) o ≡ None
    stays_none o ms e = ap (option_and_then (λ u. run_from ops code u ms)) e

    made_first : (o : Option (State B)) (ms : List Move) (s : State B) → option_and_then (λ u. run_from ops code u ms) o ≡ Some s
        → (u : State B) × (o ≡ Some u) × (run_from ops code u ms ≡ Some s)
    made_first None ms s e = cc
    made_first (Some u) ms s e = (u, refl, e)

    -- two first moves that aren't enabled are the same
    one_stop : (from : State B) (b c : List Move) (m n : Move) (x y : List Move) (s t : State B) (q r : Why) → b ++ m ∷ x ≡ c ++ n ∷ y
        → run_from ops code from b ≡ Some s → run_from ops code from c ≡ Some t → why ops code s m ≡ Some q
        → why ops code t n ≡ Some r → (length b ≡ length c) × (q ≡ r)
    one_stop from [] [] m n x y s t q r e ls lt sq tr =
        let states : s ≡ t = same_Some s t (sym ls ∙ lt) in
        let moves : m ≡ n = cc in
        (refl, same_Some q r (sym sq ∙ ap (λ u. why ops code u m) states ∙ ap (why ops code t) moves ∙ tr))
    one_stop from [] (k ∷ c) m n x y s t q r e ls lt sq tr =
        let here : m ≡ k = cc in
        let made = made_first _ c t lt in
        let stuck = not_made from k q (ap (why ops code from) (sym here) ∙ ap (λ u. why ops code u m) (same_Some from s ls) ∙ sq) in
        cc (made.1, stuck)
    one_stop from (k ∷ b) [] m n x y s t q r e ls lt sq tr =
        let here : n ≡ k = cc in
        let made = made_first _ b s ls in
        let stuck = not_made from k r (ap (why ops code from) (sym here) ∙ ap (λ u. why ops code u n) (same_Some from t lt) ∙ tr) in
        cc (made.1, stuck)
    one_stop from (k ∷ b) (j ∷ c) m n x y s t q r e ls lt sq tr =
        let here : k ≡ j = cc in
        let rest : b ++ m ∷ x ≡ c ++ n ∷ y = cc in
        let first = made_first _ b s ls in
        let second = made_first _ c t lt in
        let same : first.0 ≡ second.0 = same_Some _ _ (sym first.1 ∙ ap (step ops code from) here ∙ second.1) in
        let deeper = one_stop second.0 b c m n x y s t q r rest (subst (λ u. run_from ops code u b ≡ Some s) same first.2) second.2 sq tr in
        (ap (λ k. suc k) deeper.0, deeper.1)

    -- moves that stop lead nowhere
    stops_nowhere : (moves : List Move) (number : ℕ) (r : Why) (s : State B) → StopsAt ops code moves number r → run ops code moves ≡ Some s → ⊥
    stops_nowhere moves number r s stop leads =
        let nowhere : run ops code moves ≡ None =
        ap (run ops code) stop.split
        ∙ run_from-append ops code (opening ops code) stop.before (stop.move ∷ stop.after)
        ∙ ap (option_and_then (λ u. run_from ops code u (stop.move ∷ stop.after))) stop.leads
        ∙ stays_none _ stop.after (not_made stop.state stop.move r stop.stops) in
        cc (leads, nowhere)

  -- two names are the same, or one is below the other
  ordered : (m n : Name) (o : Ordering) → slice_cmp nat_cmp m n ≡ o → (slice_cmp nat_cmp m n ≡ Less → ⊥) → (slice_cmp nat_cmp n m ≡ Less → ⊥) → m ≡ n
  ordered m n Less e no_less no_greater = absurd (no_less e)
  ordered m n Equal e no_less no_greater = exact_bytes m n e
  ordered m n Greater e no_less no_greater = absurd (no_greater (nat_list_cmp_total.antisymm n m ∙ ap ordering_reverse e))

  one_first : (s : State B) (log : Log) (m n : Name) → IsFirstToDiffer s log m → IsFirstToDiffer s log n → m ≡ n
  one_first s log m n f g = ordered m n _ refl (λ lt. f.differs (g.least m lt)) (λ lt. g.differs (f.least n lt))

  module _ (code : Code) (s : State B) (log : Log) where
    -- a run that ends as the log says ends in no other way
    fails : (o : Option ThreadPath) → IsSomeAnd o (λ t. s.failed ≡ Some t.name) → s.failed ≡ None → ⊥
    fails None h none = h
    fails (Some t) h none = cc

    not_unfailed : (f : Failing) → EndsAs ops code f log.threads s → IsSome (place_in f) → s.failed ≡ None → ⊥
    not_unfailed (failing.Thread k) ends some none = fails (slice_get log.threads k) ends none
    not_unfailed failing.Deadlock ends some none = true≢false (sym some)

    not_other : (n : Name) → EndsAsLogged ops code s log → IsVerdictAt ops code s log (verdict.OtherFailure n) → ⊥
    not_other n ends other = other.1 (sym (failed_as_logged ops code log s ends) ∙ other.0)

    not_going : EndsAsLogged ops code s log → IsVerdictAt ops code s log verdict.NotStuck → ⊥
    not_going ends goes =
        let stuck : IsStuck ops code s = subst (λ f. EndsAs ops code f log.threads s) goes.0 ends in
        elim goes.2 [
          | inl moves ↦ true≢false (sym (subst IsSome (stuck.still moves.0) moves.1))
          | inr none ↦ none stuck.left.0 stuck.left.1
        ]

    ended : (f : Failing) → IsSome (place_in f) → f ≡ failing.Deadlock → ⊥
    ended f some is = true≢false (sym (subst (λ e. IsSome (place_in e)) is some))

    one_judgement : (v w : Verdict) → IsJudged ops code s log v → IsJudged ops code s log w → v ≡ w
    one_judgement verdict.Reproduces verdict.Reproduces f g = refl
    one_judgement verdict.Reproduces verdict.NoFailure f g = absurd (not_unfailed log.failing f.0 g.0 g.1)
    one_judgement verdict.Reproduces (verdict.OtherFailure n) f g = absurd (not_other n f.0 g)
    one_judgement verdict.Reproduces verdict.NotStuck f g = absurd (not_going f.0 g)
    one_judgement verdict.Reproduces (verdict.OtherPath n) f g = absurd (g.1.differs (f.1 n))
    one_judgement verdict.NoFailure verdict.Reproduces f g = absurd (not_unfailed log.failing g.0 f.0 f.1)
    one_judgement verdict.NoFailure verdict.NoFailure f g = refl
    one_judgement verdict.NoFailure (verdict.OtherFailure n) f g = cc (f.1, g.0)
    one_judgement verdict.NoFailure verdict.NotStuck f g = absurd (ended log.failing f.0 g.0)
    one_judgement verdict.NoFailure (verdict.OtherPath n) f g = absurd (not_unfailed log.failing g.0 f.0 f.1)
    one_judgement (verdict.OtherFailure n) verdict.Reproduces f g = absurd (not_other n g.0 f)
    one_judgement (verdict.OtherFailure n) verdict.NoFailure f g = cc (f.0, g.1)
    one_judgement (verdict.OtherFailure m) (verdict.OtherFailure n) f g = ap (λ k. verdict.OtherFailure k) (same_Some m n (sym f.0 ∙ g.0))
    one_judgement (verdict.OtherFailure n) verdict.NotStuck f g = cc (f.0, g.1)
    one_judgement (verdict.OtherFailure n) (verdict.OtherPath m) f g = absurd (not_other n g.0 f)
    one_judgement verdict.NotStuck verdict.Reproduces f g = absurd (not_going g.0 f)
    one_judgement verdict.NotStuck verdict.NoFailure f g = absurd (ended log.failing g.0 f.0)
    one_judgement verdict.NotStuck (verdict.OtherFailure n) f g = cc (f.1, g.0)
    one_judgement verdict.NotStuck verdict.NotStuck f g = refl
    one_judgement verdict.NotStuck (verdict.OtherPath n) f g = absurd (not_going g.0 f)
    one_judgement (verdict.OtherPath n) verdict.Reproduces f g = absurd (f.1.differs (g.1 n))
    one_judgement (verdict.OtherPath n) verdict.NoFailure f g = absurd (not_unfailed log.failing f.0 g.0 g.1)
    one_judgement (verdict.OtherPath n) (verdict.OtherFailure m) f g = absurd (not_other m f.0 g)
    one_judgement (verdict.OtherPath n) verdict.NotStuck f g = absurd (not_going f.0 g)
    one_judgement (verdict.OtherPath m) (verdict.OtherPath n) f g = ap (λ k. verdict.OtherPath k) (one_first s log m n f.1 g.1)
    one_judgement (verdict.Stops _ _) w f g = absurd f
    one_judgement v (verdict.Stops _ _) f g = absurd g

  -- what a verdict says, given the state to which the moves lead
  pub record Led (code : Code) (log : Log) (moves : List Move) (v : Verdict) : Type 0 where
    pub state : State B
    pub leads : run ops code moves ≡ Some state
    pub judged : IsJudged ops code state log v

  led : (code : Code) (log : Log) (moves : List Move) (s : State B) → run ops code moves ≡ Some s → (v : Verdict)
      → IsVerdict ops code log moves v → Led code log moves v
  led code log moves s leads (verdict.Stops number reason) h = absurd (stops_nowhere code moves number reason s h leads)
  led code log moves s leads verdict.Reproduces h = record { state = h.state; leads = h.leads; judged = (h.ends, h.paths) }
  led code log moves s leads verdict.NoFailure h = record { state = h.0; leads = h.1; judged = h.2 }
  led code log moves s leads (verdict.OtherFailure n) h = record { state = h.0; leads = h.1; judged = h.2 }
  led code log moves s leads verdict.NotStuck h = record { state = h.0; leads = h.1; judged = h.2 }
  led code log moves s leads (verdict.OtherPath n) h = record { state = h.0; leads = h.1; judged = h.2 }

  both_led : (code : Code) (log : Log) (moves : List Move) (v w : Verdict) → Led code log moves v → Led code log moves w → v ≡ w
  both_led code log moves v w f g =
      one_judgement code f.state log v w f.judged (subst (λ s. IsJudged ops code s log w) (same_Some g.state f.state (sym g.leads ∙ f.leads)) g.judged)

  pub one_verdict : (code : Code) (log : Log) (moves : List Move) (v w : Verdict) → IsVerdict ops code log moves v → IsVerdict ops code log moves w → v ≡ w
  one_verdict code log moves (verdict.Stops k q) (verdict.Stops j r) f g =
      let one = one_stop code (opening ops code) f.before g.before f.move g.move f.after g.after f.state g.state q r (sym f.split ∙ g.split)
      f.leads g.leads f.stops g.stops in
      ap (λ n. verdict.Stops n q) (f.counted ∙ ap (λ n. n + 1) one.0 ∙ sym g.counted) ∙ ap (verdict.Stops j) one.1
  one_verdict code log moves (verdict.Stops k q) verdict.Reproduces f g = absurd (stops_nowhere code moves k q g.state f g.leads)
  one_verdict code log moves (verdict.Stops k q) verdict.NoFailure f g = absurd (stops_nowhere code moves k q g.0 f g.1)
  one_verdict code log moves (verdict.Stops k q) (verdict.OtherFailure _) f g = absurd (stops_nowhere code moves k q g.0 f g.1)
  one_verdict code log moves (verdict.Stops k q) verdict.NotStuck f g = absurd (stops_nowhere code moves k q g.0 f g.1)
  one_verdict code log moves (verdict.Stops k q) (verdict.OtherPath _) f g = absurd (stops_nowhere code moves k q g.0 f g.1)
  one_verdict code log moves verdict.Reproduces w f g =
      both_led code log moves verdict.Reproduces w (led code log moves f.state f.leads verdict.Reproduces f) (led code log moves f.state f.leads w g)
  one_verdict code log moves verdict.NoFailure w f g = both_led code log moves verdict.NoFailure w (led code log moves f.0 f.1 verdict.NoFailure f)
      (led code log moves f.0 f.1 w g)
  one_verdict code log moves (verdict.OtherFailure n) w f g = both_led code log moves (verdict.OtherFailure n) w
      (led code log moves f.0 f.1 (verdict.OtherFailure n) f) (led code log moves f.0 f.1 w g)
  one_verdict code log moves verdict.NotStuck w f g = both_led code log moves verdict.NotStuck w (led code log moves f.0 f.1 verdict.NotStuck f)
      (led code log moves f.0 f.1 w g)
  one_verdict code log moves (verdict.OtherPath n) w f g =
      both_led code log moves (verdict.OtherPath n) w (led code log moves f.0 f.1 (verdict.OtherPath n) f) (led code log moves f.0 f.1 w g)
