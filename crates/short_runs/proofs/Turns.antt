-- A pure turn in a history is a pure turn of its moves.
use Rattle.std.proofs.Common.{◌≡◌, ◌∙◌, ℕ, ℤ, Bool, true, false, ◌||◌, List, [], ◌∷◌, ◌++◌, Option, Some, None, refl, sym, ap, ap₂, subst, true≢false, append_assoc}
use Rattle.std.specs.Prelude.{option_map, option_and_then}
use Rattle.std.specs.List.{list_any}
use Rattle.std.specs.Option.{option_map_or}
use Rattle.std.specs.Ordering.{int_eq}
use Rattle.std.specs.FinMap as fin
use Rattle.std.proofs.lemmas.List.{map-append}
use Rattle.std.proofs.lemmas.Option.{same_Some}
use Rattle.pure_turns.specs.tc_base.Names.{Name}
use Rattle.pure_turns.specs.tc_base.States.{Thread, State}
use Rattle.pure_turns.specs.tc_base.declared.moves.Move.{Move}
use Rattle.pure_turns.specs.tc_base.declared.request.Request.{Request}
use Rattle.pure_turns.specs.tc_base.declared.request.Request.TheVariants.{Silent, Exchange, WakeOne}
use Rattle.pure_turns.specs.tc_code.declared.instr.Instr.{Instr}
use Rattle.pure_turns.specs.tc_code.Run.{run, run_from}
use Rattle.pure_turns.specs.tc_code.int_ops.Updates.{updated}
use Rattle.pure_turns.specs.tc_code.Step.{request, instr_of, opening}
use Rattle.pure_turns.proofs.tc_code.Facts.{run_from-append}
use Rattle.least_runs.specs.store_buffers.Pending.{Binding}
use Rattle.pure_turns.proofs.run_laws.Asks.{AsksOf, next_asks_within}
use Rattle.pure_turns.proofs.run_laws.Names.{is_same}
use Rattle.least_runs.specs.run_history.History.{Deed, Did, Drained}
use Rattle.least_runs.specs.run_history.Told.{is_step_of}
use Rattle.least_runs.specs.run_follows.Machine.{Machine}
use Rattle.least_runs.specs.run_follows.Follow.{AllFollow, IsNextStep, taken_in, move_for, moves_for}
use Rattle.least_runs.proofs.run_follows.Enabled.{Tells}
use Rattle.least_runs.proofs.run_follows.Plays.{asker}
use Rattle.least_runs.proofs.run_follows.of_deeds.Follow.{first_follow}
use Rattle.least_runs.proofs.Reached.{Reaches, reaches, has}
use Rattle.pure_turns.specs.Live.{Liveness, AgreeWhereLive}
use Rattle.pure_turns.specs.Turn.{is_pure, asks, IsPureTurn, StepsArePure}
use Rattle.pure_turns.specs.Turn as turns
use Rattle.short_runs.specs.Turns.{is_pure_step, IsPureTurnIn}

-- a deed is a step of a thread if its move is
step_as : (bound : Binding) (n : Name) (d : Deed) → turns.is_step_of n (move_for bound d) ≡ is_step_of n d
step_as bound n (Drained q k c v) = refl
step_as bound n (Did q k (WakeOne c) v (Some u)) = refl
step_as bound n (Did q k (WakeOne c) v None) = refl
step_as bound n (Did q k Silent v o) = refl
step_as bound n (Did q k r v o) = refl

steps_as : (bound : Binding) (n : Name) (ds : List Deed) → list_any (turns.is_step_of n) (moves_for bound ds) ≡ list_any (is_step_of n) ds
steps_as bound n [] = refl
steps_as bound n (d ∷ ds) = ap₂ (λ a b. a || b) (step_as bound n d) (steps_as bound n ds)

-- the deed of a move among some deeds
record Split (bound : Binding) (ds : List Deed) (older : List Move) (m : Move) : Type 0 where
  before : List Deed
  deed : Deed
  after : List Deed
  there : ds ≡ before ++ deed ∷ after
  first : moves_for bound before ≡ older
  move : move_for bound deed ≡ m

one_more : (bound : Binding) (d : Deed) (ds : List Deed) (x : Move) (older : List Move) (m : Move) → move_for bound d ≡ x → Split bound ds older m
    → Split bound (d ∷ ds) (x ∷ older) m
one_more bound d ds x older m one s = record {
  before = d ∷ s.before;
  deed = s.deed;
  after = s.after;
  there = ap (λ xs. d ∷ xs) s.there;
  first = ap₂ (λ y ys. y ∷ ys) one s.first;
  move = s.move;
}

split_at : (bound : Binding) (ds : List Deed) (older newer : List Move) (m : Move) → moves_for bound ds ≡ older ++ m ∷ newer → Split bound ds older m
split_at bound [] [] newer m is = absurd cc
split_at bound [] (x ∷ older) newer m is = absurd cc
split_at bound (d ∷ ds) [] newer m is = record { before = []; deed = d; after = ds; there = refl; first = refl; move = cc }
split_at bound (d ∷ ds) (x ∷ older) newer m is =
    let rest : moves_for bound ds ≡ older ++ m ∷ newer = cc in
    let one : move_for bound d ≡ x = cc in
    one_more bound d ds x older m one (split_at bound ds older newer m rest)

module _ {B : Type 0} (machine : Machine B) where
  open machine use {ops, model, bound, laws, code, lawful}

  -- a step that is pure by its deed is pure in its state
  pure_in : (s : State B) (h : List Deed) (a : Tells ops model bound laws code s h) (n : Name) (held : List Bool) (r : Request) (v : ℤ) → AsksOf code r
      → v ≡ taken_in ops.buffered code h n r → is_pure_step held r v ≡ true → is_pure s held r ≡ true
  pure_in s h a n held (Exchange c w) v within took pure =
      subst (λ x. int_eq (updated w x) x ≡ true) (took ∙ sym (a.memory.values c within)) pure
  pure_in s h a n held Silent v within took pure = refl
  pure_in s h a n held r v within took pure = pure

  asks_it : (s : State B) (held : List Bool) (n : Name) (x : Thread B) (i : Instr) (r : Request) → fin.get s.threads n ≡ Some x → instr_of code x.local ≡ Some i
      → request x.local i ≡ r → option_map_or (is_pure s held) (asks ops code s n) false ≡ is_pure s held r
  asks_it s held n x i r there at is =
      ap (λ o. option_map_or (is_pure s held) (option_and_then (λ (t : Thread B). option_map (request t.local) (instr_of code t.local)) o) false) there
      ∙ ap (λ o. option_map_or (is_pure s held) (option_map (request x.local) o) false) at
      ∙ ap (is_pure s held) is

  -- the moves of later deeds lead on
  leads_on : (older newer : List Deed) (a : Reaches machine older) (b : Reaches machine (older ++ newer))
      → run_from ops code a.state (moves_for bound newer) ≡ Some b.state
  leads_on older newer a b =
      let moves : moves_for bound (older ++ newer) ≡ moves_for bound older ++ moves_for bound newer = map-append (move_for bound) older newer in
      sym (ap (option_and_then (λ u. run_from ops code u (moves_for bound newer))) a.leads)
      ∙ sym (run_from-append ops code (opening ops code) (moves_for bound older) (moves_for bound newer)) ∙ ap (run ops code) (sym moves) ∙ b.leads

  module _ (n : Name) (older turn : List Deed) (all : AllFollow ops.buffered bound code (older ++ turn)) (a : Reaches machine older)
      (held : List Bool)
      (pure : (before after : List Deed) (k : ℕ) (r : Request) (v : ℤ) (o : Option Name) → turn ≡ before ++ Did n k r v o ∷ after
      → is_pure_step held r v ≡ true) where
    -- a step of the thread in the turn is pure in its state
    pure_at : (before after : List Deed) (d : Deed) (u : State B) → turn ≡ before ++ d ∷ after → run_from ops code a.state (moves_for bound before) ≡ Some u
        → is_step_of n d ≡ true → option_map_or (is_pure u held) (asks ops code u n) false ≡ true
    pure_at before after (Drained q k c v) u is leads by = absurd (true≢false (sym by))
    pure_at before after (Did q k r v o) u is leads by =
        let own : n ≡ q = is_same n q by in
        let named = is ∙ ap (λ p. before ++ Did p k r v o ∷ after) (sym own) in
        let deed = Did n k r v o in
        let here = subst (AllFollow ops.buffered bound code) (ap (λ ds. older ++ ds) named ∙ sym (append_assoc older before (deed ∷ after))) all in
        let next : IsNextStep ops.buffered code (older ++ before) n k r v o = (here (older ++ before) after deed refl).1 in
        let c = reaches machine (older ++ before)
        (first_follow ops.buffered bound code (older ++ before) (deed ∷ after) here) in
        let x = asker machine c.state (older ++ before) n r c.tells next.asks in
        let within = subst (AsksOf code) x.by.asks
        (next_asks_within ops code c.state n x.thread x.by.instr lawful (record { moves = moves_for bound (older ++ before); leads = c.leads }) x.there x.by.at) in
        let state : c.state ≡ u = same_Some c.state u (sym (leads_on older before a c) ∙ leads) in
        subst (λ w. option_map_or (is_pure w held) (asks ops code w n) false ≡ true) state
        (asks_it c.state held n x.thread x.by.instr r x.there x.by.at x.by.asks
        ∙ pure_in c.state (older ++ before) c.tells n held r v within next.takes (pure before after k r v o named))

    steps_are_pure : StepsArePure ops code n held a.state (moves_for bound turn)
    steps_are_pure first rest m u is leads by =
        let s = split_at bound turn first rest m is in
        pure_at s.before s.after s.deed u s.there (ap (run_from ops code a.state) s.first ∙ leads)
        (sym (step_as bound n s.deed) ∙ ap (turns.is_step_of n) s.move ∙ by)

  pub turn_of_moves : (live : Liveness) (n : Name) (older turn : List Deed) → AllFollow ops.buffered bound code (older ++ turn)
      → (a : Reaches machine older) → IsPureTurnIn code live n older turn → IsPureTurn ops code live n a.state (moves_for bound turn)
  turn_of_moves live n older turn all a p =
      let b = reaches machine (older ++ turn) all in
      let x = has machine older a n p.first p.begins in
      let y = has machine (older ++ turn) b n p.last p.ends in
      record {
        state = b.state;
        leads = leads_on older turn a b;
        steps = steps_as bound n turn ∙ p.steps;
        first = x.thread;
        last = y.thread;
        begins = x.there;
        ends = y.there;
        pure = subst (λ t. StepsArePure ops code n t.held a.state (moves_for bound turn)) (sym x.local) (steps_are_pure n older turn all a p.first.held p.pure);
        back = ap (λ t. t.instruction) y.local ∙ p.back ∙ sym (ap (λ t. t.instruction) x.local);
        slots = subst (λ t. AgreeWhereLive live t y.thread.local) (sym x.local) (subst (AgreeWhereLive live p.first) (sym y.local) p.slots);
        held = ap (λ t. t.held) x.local ∙ p.held ∙ sym (ap (λ t. t.held) y.local);
      }
