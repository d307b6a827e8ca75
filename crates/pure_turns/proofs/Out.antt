-- Pure turns can be removed from runs.
use Rattle.std.proofs.Common.{◌≡◌, ◌∙◌, ◌⊎◌, inl, inr, ℕ, zero, suc, ◌+◌, ◌<◌, List, [], ◌∷◌, ◌++◌, length}
use Rattle.std.proofs.Common.{true, false, Some, None, refl, sym, ap, subst, arith, slice_index_or}
use Rattle.std.specs.Prelude.{option_and_then}
use Rattle.std.specs.FinMap as fin
use Rattle.std.proofs.lemmas.List.{length-append}
use Rattle.std.proofs.lemmas.Option.{none-some, same_Some, option_and_then_some}
use Rattle.run_laws.specs.tc_base.Names.{Name}
use Rattle.run_laws.specs.tc_base.Buffers.{BufferOps}
use Rattle.run_laws.specs.tc_base.States.{Local, Thread, State}
use Rattle.run_laws.specs.tc_base.declared.moves.Move.{Move}
use Rattle.run_laws.specs.tc_code.Code.{Code}
use Rattle.run_laws.specs.tc_code.Step.{step, opening}
use Rattle.run_laws.specs.tc_code.Run.{run, run_from, IsReached, IsStuck, IsLeft}
use Rattle.run_laws.proofs.tc_code.Facts.{run_from-append, step_is_reached}
use Rattle.run_laws.proofs.Basics.{some_value, none_unless}
use Rattle.run_laws.proofs.Names.{same_or_apart}
use Rattle.pure_turns.specs.Live.{Liveness, IsClosed, AgreeWhereLive, AreAlike}
use Rattle.pure_turns.specs.Turn.{without_steps_of, IsBehind, IsSameBut, IsPureTurn, HasNoPureTurn, ComesOut}
use Rattle.pure_turns.proofs.Locals.{alike_back}
use Rattle.pure_turns.proofs.Differ.{Differ}
use Rattle.pure_turns.proofs.Own.{twin_goes}
use Rattle.pure_turns.proofs.Owners.{Equal, owner, equal_is_more, same_owners}
use Rattle.pure_turns.proofs.Pure.{Lags, skips}
use Rattle.run_laws.proofs.Owners.{owners_hold}
use Rattle.run_laws.specs.tc_code.Lawful.{IsLawful}

module _ {B : Type 0} (ops : BufferOps B) (code : Code) (live : Liveness) (closed : IsClosed code live) where
  -- the end of a run from the second of two states that differ in one thread
  record EndsSame (n : Name) (v w : State B) (moves : List Move) : Type 0 where
    state : State B
    leads : run_from ops code v moves ≡ Some state
    same : IsSameBut live n state w

  -- each run from the first is one from the second
  ends_same : (n : Name) (moves : List Move) (t u : Local) (b : B) (s v w : State B) → IsReached ops code s → Differ Equal n t u b s v → AreAlike live t u
      → IsBehind u t → run_from ops code s moves ≡ Some w → EndsSame n v w moves
  ends_same n [] t u b s v w reached d alike behind leads = record {
    state = v;
    leads = refl;
    same = subst (IsSameBut live n v) (same_Some s w leads) (record {
      shared = d.shared ∙ ap (λ os. record s { threads = v.threads; owners = os }) (sym d.owners);
      others = d.threads.others;
      less = u;
      more = t;
      buffer = b;
      before = d.threads.here;
      after = d.threads.there;
      alike = alike_back live t u alike;
      behind = behind;
    });
  }
  ends_same n (m ∷ ms) t u b s v w reached d alike behind leads =
      option_and_then_some (λ x. run_from ops code x ms) (step ops code s m) w leads
      (λ x one rest.
      let k = twin_goes ops code n live closed t u b s v d alike x m reached one in
      let r = ends_same n ms k.first k.second k.buffer x k.state w (step_is_reached ops code s x m one reached) k.differ k.alike (k.behind behind) rest in
      record {
        state = r.state;
        leads = ap (option_and_then (λ z. run_from ops code z ms)) k.one ∙ r.leads;
        same = r.same;
      })

  -- a run of some moves after others
  runs_on : (s u : State B) (xs ys : List Move) → run_from ops code s xs ≡ Some u → run_from ops code s (xs ++ ys) ≡ run_from ops code u ys
  runs_on s u xs ys leads = run_from-append ops code s xs ys ∙ ap (option_and_then (λ z. run_from ops code z ys)) leads

  -- a deadlock stays a deadlock
  module _ (n : Name) (v w : State B) (reached : IsReached ops code v) (same : IsSameBut live n v w) where
    back : Differ Equal n same.less same.more same.buffer v w
    back = record {
      shared = ap (λ (x : State B). record x { threads = w.threads; owners = w.owners }) (sym same.shared);
      owners = ap (λ (x : State B). x.owners) same.shared;
      threads = record { others = λ q other. sym (same.others q other); there = same.before; here = same.after };
    }

    left_too : (q : Name) → IsLeft w q → IsLeft v q
    left_too q left =
        elim (same_or_apart q n) [
          | inl own ↦
              let one = same_Some left.thread _ (sym left.there ∙ ap (fin.get w.threads) own ∙ same.after) in
              record {
                thread = record { local = same.less; buffer = same.buffer };
                there = ap (fin.get v.threads) own ∙ same.before;
                going = same.alike.rest.has_exited ∙ ap (λ (x : Thread B). x.local.has_exited) (sym one) ∙ left.going;
              }
          | inr other ↦ record { thread = left.thread; there = same.others q other ∙ left.there; going = left.going }
        ]

    pub stays_stuck : IsStuck ops code w → IsStuck ops code v
    stays_stuck stuck = record {
      unfailed = ap (λ (x : State B). x.failed) same.shared ∙ stuck.unfailed;
      still = λ m. none_unless (step ops code v m) (λ some.
          let x = some_value (step ops code v m) some in
          let k = twin_goes ops code n live closed same.less same.more same.buffer v w back same.alike x.0 m reached x.1 in
          none-some k.state (sym (stuck.still m) ∙ k.one));
      left = (stuck.left.0, left_too stuck.left.0 stuck.left.1);
    }

module _ {B : Type 0} (ops : BufferOps B) (code : Code) (lawful : IsLawful code) (live : Liveness) (closed : IsClosed code live) where
  -- a thread that holds the same in both states owns no more in the first
  owns_same : (n : Name) (t u : Local) (b : B) (s v : State B) → IsReached ops code s → IsReached ops code v → Lags ops code lawful n t u b s v
      → u.held ≡ t.held → (m : ℕ) → (owner s.owners m ≡ owner v.owners m) ⊎ ((owner s.owners m ≡ Some n) × (owner v.owners m ≡ None))
      → owner s.owners m ≡ owner v.owners m
  owns_same n t u b s v reached shorter d held m (inl same) = same
  owns_same n t u b s v reached shorter d held m (inr taken) =
      let holds_it = ((owners_hold ops code s lawful reached).holder n (record { local = t; buffer = b }) m d.threads.there).1 taken.0 in
      let too : slice_index_or u.held m false ≡ true = ap (λ hs. slice_index_or hs m false) held ∙ holds_it in
      let owns = ((owners_hold ops code v lawful shorter).holder n (record { local = u; buffer = b }) m d.threads.here).0 too in
      absurd (none-some n (sym taken.1 ∙ owns))

  owns_no_more : (n : Name) (t u : Local) (b : B) (s v : State B) → IsReached ops code s → IsReached ops code v → Lags ops code lawful n t u b s v
      → u.held ≡ t.held → s.owners ≡ v.owners
  owns_no_more n t u b s v reached shorter d held =
      same_owners s.owners v.owners d.owners.count (λ m. owns_same n t u b s v reached shorter d held m (d.owners.each m))

  pub comes_out : (n : Name) (older turn newer : List Move) (s w : State B) → run ops code older ≡ Some s → IsPureTurn ops code live n s turn
      → run ops code (older ++ turn ++ newer) ≡ Some w → ComesOut ops code live n older turn newer w
  comes_out n older turn newer s w before p leads =
      let start : Lags ops code lawful n p.first.local p.first.local p.first.buffer s s =
      record { shared = refl; owners = equal_is_more n s.owners; threads = record { others = λ q other. refl; there = p.begins; here = p.begins } } in
      let reached : IsReached ops code s = record { moves = older; leads = before } in
      let k = skips ops code lawful n turn p.first.local p.first.local p.first.buffer s p.state s reached reached start refl p.pure p.leads in
      let last : p.last.local ≡ k.local = ap (λ (x : Thread B). x.local) (same_Some p.last _ (sym p.ends ∙ k.differ.threads.there)) in
      let held : p.first.local.held ≡ k.local.held = p.held ∙ ap (λ (x : Local). x.held) last in
      let alike : AreAlike live p.first.local k.local =
      record {
        place = sym p.back ∙ ap (λ (x : Local). x.instruction) last;
        slots = subst (AgreeWhereLive live p.first.local) last p.slots;
        rest = record {
          function = k.same.function;
          slots = k.same.slots;
          handles = k.same.handles;
          held = held;
          children = k.same.children;
          has_exited = k.same.has_exited;
        };
      } in
      let some = k.some p.steps in
      let behind : IsBehind p.first.local k.local = record { steps = omega (arith, k.steps, some); outcomes = k.outcomes } in
      let then : IsReached ops code p.state = record { moves = older ++ turn; leads = runs_on ops code live closed (opening ops code) s older turn before ∙ p.leads } in
      let shorter : IsReached ops code k.state =
      record { moves = older ++ without_steps_of n turn; leads = runs_on ops code live closed (opening ops code) s older (without_steps_of n turn) before ∙ k.leads } in
      let equal = owns_no_more n k.local p.first.local k.buffer p.state k.state then shorter k.differ held in
      let even : Differ Equal n k.local p.first.local k.buffer p.state k.state =
      record { shared = k.differ.shared; owners = equal; threads = k.differ.threads } in
      let rest = sym (runs_on ops code live closed (opening ops code) p.state (older ++ turn) newer then.leads) ∙ leads in
      let r = ends_same ops code live closed n newer k.local p.first.local k.buffer p.state k.state w then even (alike_back live p.first.local k.local alike) behind rest in
      let on : run ops code (older ++ without_steps_of n turn ++ newer) ≡ run_from ops code k.state newer =
      runs_on ops code live closed (opening ops code) k.state (older ++ without_steps_of n turn) newer shorter.leads in
      record {
        state = r.state;
        leads = on ∙ r.leads;
        fewer = omega (arith, k.fewer, some);
        same = r.same;
      }

  -- if removing turns keeps a property of states, and no run without pure turns reaches it, no run
  -- does
  module _ (P : State B → Type 0) (keeps : (n : Name) (v w : State B) → IsReached ops code v → IsSameBut live n v w → P w → P v)
      (none : (moves : List Move) (s : State B) → run ops code moves ≡ Some s → HasNoPureTurn ops code live moves → P s → ⊥) where
    none_within : (k : ℕ) (moves : List Move) (s : State B) → length moves < k → run ops code moves ≡ Some s → P s → ⊥
    none_within zero moves s few leads p = omega (arith, few)
    none_within (suc k) moves s few leads p =
        none moves s leads
        (λ older turn newer n x is before pure.
        let out = comes_out n older turn newer x s before pure (ap (run ops code) (sym is) ∙ leads) in
        let shorter = older ++ without_steps_of n turn ++ newer in
        let less : length shorter < k = omega (
          arith,
          few,
          out.fewer,
          ap length is,
          length-append (older ++ turn) newer,
          length-append older turn,
          length-append (older ++ without_steps_of n turn) newer,
          length-append older (without_steps_of n turn),
        ) in
        none_within k shorter out.state less out.leads (keeps n out.state s (record { moves = shorter; leads = out.leads }) out.same p))
        p

    pub none_at_all : (moves : List Move) (s : State B) → run ops code moves ≡ Some s → P s → ⊥
    none_at_all moves s = none_within (length moves + 1) moves s (omega arith)
