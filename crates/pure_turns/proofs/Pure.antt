-- A thread's pure steps change only its own place, slots, outcomes and number of steps.
use Rattle.std.proofs.Common.{◌≡◌, ◌∙◌, ◌⊎◌, inl, inr, ℕ, ◌+◌, ◌<◌, ◌≤◌, ℤ, pos, Bool, true, false, not, ◌||◌, cond, List, [], ◌∷◌, length}
use Rattle.std.proofs.Common.{Option, Some, None, refl, sym, ap, subst, arith, slice_set, slice_index_or}
use Rattle.std.specs.Prelude.{option_and_then, option_map}
use Rattle.std.specs.List.{list_any}
use Rattle.std.specs.Option.{option_map_or}
use Rattle.std.specs.Ordering.{int_eq}
use Rattle.std.specs.FinMap as fin
use Rattle.std.proofs.lemmas.Bool.{cases_Bool, true≢false, and_parts}
use Rattle.std.proofs.lemmas.Bool.Decides.{Decides-int_eq}
use Rattle.std.proofs.lemmas.List.{length-set}
use Rattle.std.proofs.lemmas.Option.{same_Some, option_and_then_some}
use Rattle.run_laws.specs.tc_base.Names.{Name, ByName}
use Rattle.run_laws.specs.tc_base.Buffers.{BufferOps}
use Rattle.run_laws.specs.tc_base.States.{Local, Thread, State}
use Rattle.run_laws.specs.tc_base.declared.moves.Move.{Move}
use Rattle.run_laws.specs.tc_base.declared.moves.Move.TheVariants as move
use Rattle.run_laws.specs.tc_base.declared.request.Request.{Request}
use Rattle.run_laws.specs.tc_base.declared.request.Request.TheVariants.{Silent, Read, Exchange, Acquire, Release, OrderStores}
use Rattle.run_laws.specs.tc_code.declared.instr.Instr.{Instr}
use Rattle.run_laws.specs.tc_code.declared.instr.Instr.TheVariants.{Set, Load, Branch, Inside, Holds, Ready, Assert, Nonzero, InRange, Unlock, Signal, Create, Join, Modify, Exit}
use Rattle.run_laws.specs.tc_code.Code.{Code}
use Rattle.run_laws.specs.tc_code.Lawful.{IsLawful}
use Rattle.run_laws.specs.tc_code.int_ops.Updates.{updated}
use Rattle.run_laws.specs.tc_code.Step.{request, site, holds, drains_first, is_let, allows, instr_of, in_memory, loaded, local_after, perform, step}
use Rattle.run_laws.specs.tc_code.Run.{IsReached, run_from}
use Rattle.run_laws.proofs.tc_code.Facts.{step_is_reached}
use Rattle.run_laws.proofs.After.{branch_is}
use Rattle.run_laws.proofs.Bound.{reached_has_tested}
use Rattle.run_laws.proofs.Counts.{after_counts}
use Rattle.run_laws.proofs.Names.{is_same}
use Rattle.run_laws.proofs.Owners.{owners_hold}
use Rattle.run_laws.proofs.Steps.{Ran, Woke, step_went}
use Rattle.pure_turns.specs.Turn.{is_pure, is_step_of, without_steps_of, asks, StepsArePure}
use Rattle.pure_turns.proofs.Values.{set_same}
use Rattle.pure_turns.proofs.Locals.{outcomes_after}
use Rattle.pure_turns.proofs.Differ.{is_none_none, ThreadsDiffer, Differ, put_first, moved_other}
use Rattle.pure_turns.proofs.Owners.{Owners, owner, OwnsMore, more_keeps, takes_first, leaves_first}
use Rattle.pure_turns.proofs.Own.{RanOf, ran_of}

never : {A : Type 0} → false ≡ true → A
never e = absurd (true≢false (sym e))

-- a thread may have another place, other slots, mutexes, outcomes and steps, but nothing else is
-- changed
pub record HasKept (t u : Local) : Type 0 where
  pub function : t.function ≡ u.function
  pub slots : length t.slots ≡ length u.slots
  pub handles : t.handles ≡ u.handles
  pub children : t.children ≡ u.children
  pub has_exited : t.has_exited ≡ u.has_exited

kept_all : (t : Local) → HasKept t t
kept_all t = record { function = refl; slots = refl; handles = refl; children = refl; has_exited = refl }

-- an instruction with a pure request changes nothing else of the thread
pure_keeps : {B : Type 0} (s : State B) (held : List Bool) (t : Local) (i : Instr) (v : ℤ) → is_pure s held (request t i) ≡ true
    → HasKept t (local_after t i v)
pure_keeps s held t (Set k e) v pure =
    record { function = refl; slots = sym (length-set t.slots k _); handles = refl; children = refl; has_exited = refl }
pure_keeps s held t (Load k c) v pure =
    record { function = refl; slots = sym (length-set t.slots k v); handles = refl; children = refl; has_exited = refl }
pure_keeps s held t (Modify k c u) v pure =
    record { function = refl; slots = sym (length-set t.slots k v); handles = refl; children = refl; has_exited = refl }
pure_keeps s held t (Branch e to) v pure =
    subst (HasKept t) (sym (branch_is t _ to)) (record { function = refl; slots = refl; handles = refl; children = refl; has_exited = refl })
pure_keeps s held t (Create h f es) v pure = never pure
pure_keeps s held t (Join h) v pure = never pure
pure_keeps s held t Exit v pure = never pure
pure_keeps s held t _ v pure = record { function = refl; slots = refl; handles = refl; children = refl; has_exited = refl }

both_keep : (t u w : Local) → HasKept t u → HasKept u w → HasKept t w
both_keep t u w x y = record {
  function = x.function ∙ y.function;
  slots = x.slots ∙ y.slots;
  handles = x.handles ∙ y.handles;
  children = x.children ∙ y.children;
  has_exited = x.has_exited ∙ y.has_exited;
}

site_leaves_none : (b : Bool) (m : ℕ) → site b ≡ Release m → ⊥
site_leaves_none true m e = cc
site_leaves_none false m e = cc

-- only an unlock requests to release a mutex
releases : (t : Local) (i : Instr) (m : ℕ) → request t i ≡ Release m → i ≡ Unlock m
releases t (Unlock l) m e = cc
releases t (Inside len x) m e = absurd (site_leaves_none _ m e)
releases t (Holds l) m e = absurd (site_leaves_none _ m e)
releases t (Ready h) m e = absurd (site_leaves_none _ m e)
releases t (Assert x) m e = absurd (site_leaves_none _ m e)
releases t (Nonzero x) m e = absurd (site_leaves_none _ m e)
releases t (InRange x) m e = absurd (site_leaves_none _ m e)
releases t i m e = absurd cc

-- storing the value that is there changes nothing
writes_back : (memory : List ℤ) (c : ℕ) (x : ℤ) → int_eq x (slice_index_or memory c (pos 0)) ≡ true → memory ≡ slice_set memory c x
writes_back memory c x same = sym (set_same memory c) ∙ ap (slice_set memory c) (sym ((Decides-int_eq x _).0 same))

-- a mutex that a request acquires or releases
abbrev Touches : Request → ℕ → Type 0
Touches r m = (r ≡ Acquire m) ⊎ (r ≡ Release m)

module _ {B : Type 0} (ops : BufferOps B) (code : Code) (lawful : IsLawful code) (n : Name) where
  -- the first state may have more mutexes owned by the thread
  abbrev pub Lags : (t u : Local) → B → State B → State B → Type 0
  Lags t u b s v = Differ (OwnsMore n) n t u b s v

  -- the states after a pure step in the first only
  record Skips (t u : Local) (b : B) (i : Instr) (s₁ v : State B) : Type 0 where
    value : ℤ
    differ : Lags (local_after t i value) u b s₁ v

  module _ (t u : Local) (b : B) (s : State B) (vs : ByName (Thread B)) (ps : Owners) (i : Instr) (more : OwnsMore n s.owners ps)
      (d : ThreadsDiffer n t u b s.threads vs) (held : List Bool) where
    abbrev puts : (v : ℤ) → ThreadsDiffer n (local_after t i v) u b (fin.insert s.threads n (record { local = local_after t i v; buffer = b })) vs
    puts v = put_first n t u (local_after t i v) b s.threads vs d

    abbrev lagging : State B
    lagging = record s { threads = vs; owners = ps }

    performs_pure : (r : Request) → is_pure s held r ≡ true → ((m : ℕ) → Touches r m → owner ps m ≡ None)
        → Skips t u b i (perform ops code s n (record { local = t; buffer = b }) i r) lagging
    performs_pure Silent pure free = record { value = pos 0; differ = record { shared = refl; owners = more; threads = puts (pos 0) } }
    performs_pure OrderStores pure free = record { value = pos 0; differ = record { shared = refl; owners = more; threads = puts (pos 0) } }
    performs_pure (Read c) pure free =
        let x : Thread B = record { local = t; buffer = b } in
        record { value = loaded ops s x c; differ = record { shared = refl; owners = more; threads = puts (loaded ops s x c) } }
    performs_pure (Exchange c w) pure free = record {
      value = in_memory s c;
      differ = record {
        shared = ap (λ m. record lagging { memory = m }) (writes_back s.memory c (updated w (in_memory s c)) pure);
        owners = more;
        threads = puts (in_memory s c);
      };
    }
    performs_pure (Acquire m) pure free = record {
      value = pos 0;
      differ = record { shared = refl; owners = takes_first n s.owners ps m (free m (inl refl)) more; threads = puts (pos 0) };
    }
    performs_pure (Release m) pure free = record {
      value = pos 0;
      differ = record { shared = refl; owners = leaves_first n s.owners ps m (free m (inr refl)) more; threads = puts (pos 0) };
    }
    performs_pure _ pure free = never pure

  -- the request of the thread's next instruction names only what exists
  asks_there : (s : State B) (held : List Bool) (x : Thread B) (i : Instr) → fin.get s.threads n ≡ Some x → instr_of code x.local ≡ Some i
      → option_map_or (is_pure s held) (asks ops code s n) false ≡ is_pure s held (request x.local i)
  asks_there s held x i there at =
      ap (λ o. option_map_or (is_pure s held) (option_and_then (λ (t : Thread B). option_map (request t.local) (instr_of code t.local)) o) false) there
      ∙ ap (λ o. option_map_or (is_pure s held) (option_map (request x.local) o) false) at

  -- a mutex that the thread owns only in the first state has no owner in the second
  free_there : (o p : Option Name) → (o ≡ p) ⊎ ((o ≡ Some n) × (p ≡ None)) → o ≡ Some n → (p ≡ Some n → ⊥) → p ≡ None
  free_there o p (inl same) own not = absurd (not (sym same ∙ own))
  free_there o p (inr taken) own not = taken.1

  -- the first state after moves with pure steps of the thread, and the second after the other moves
  -- only
  pub record Skipped (t u : Local) (s₂ v : State B) (moves : List Move) : Type 0 where
    pub local : Local
    pub buffer : B
    pub state : State B
    pub leads : run_from ops code v (without_steps_of n moves) ≡ Some state
    pub differ : Lags local u buffer s₂ state
    pub same : HasKept t local
    pub count : ℕ
    pub fewer : length (without_steps_of n moves) + count ≡ length moves
    pub some : list_any (is_step_of n) moves ≡ true → 0 < count
    pub steps : local.steps ≡ t.steps + count
    pub outcomes : length t.outcomes ≤ length local.outcomes

  -- the thread takes a pure step
  record Stepped (t u : Local) (b : B) (s₁ v : State B) : Type 0 where
    local : Local
    differ : Lags local u b s₁ v
    same : HasKept t local
    steps : local.steps ≡ t.steps + 1
    outcomes : length t.outcomes ≤ length local.outcomes

  module _ (t u : Local) (b : B) (s v : State B) (d : Lags t u b s v) (reached : IsReached ops code s) (lagging : IsReached ops code v) where
    abbrev own : Thread B
    own = record { local = t; buffer = b }

    -- a mutex that the thread acquires or releases has no owner in the second state
    is_free_there : (r : Request) (m : ℕ) (i : Instr) → instr_of code t ≡ Some i → request t i ≡ r → is_pure s u.held r ≡ true
        → allows ops s n own r ≡ true → Touches r m → owner v.owners m ≡ None
    is_free_there r m i at asked pure may (inl e) =
        let lets = (and_parts (not (drains_first r) || ops.is_empty b) (is_let s n r) may).1 in
        (more_keeps n).frees s.owners v.owners m d.owners (is_none_none (owner s.owners m) (subst (λ q. is_let s n q ≡ true) e lets))
    is_free_there r m i at asked pure may (inr e) =
        let unlocks : instr_of code t ≡ Some (Unlock m) = at ∙ ap (λ j. Some j) (releases t i m (asked ∙ e)) in
        let holds_it = (reached_has_tested ops code s lawful reached n own d.threads.there).unlock m unlocks in
        let owns = ((owners_hold ops code s lawful reached).holder n own m d.threads.there).0 holds_it in
        let not_held : not (holds u m) ≡ true = subst (λ q. is_pure s u.held q ≡ true) e pure in
        free_there (owner s.owners m) (owner v.owners m) (d.owners.each m) owns
        (λ other.
        let has = ((owners_hold ops code v lawful lagging).holder n (record { local = u; buffer = b }) m d.threads.here).1 other in
        true≢false (sym not_held ∙ ap not has))

    ran_pure : (s₁ : State B) → RanOf ops code n s s₁ own → option_map_or (is_pure s u.held) (asks ops code s n) false ≡ true → Stepped t u b s₁ v
    ran_pure s₁ w pure =
        let i = w.instr in
        let asked = sym (asks_there s u.held own i d.threads.there w.at) ∙ pure in
        let free : (m : ℕ) → Touches (request t i) m → owner v.owners m ≡ None = λ m touches. is_free_there (request t i) m i w.at refl asked w.allowed touches in
        let k = performs_pure t u b s v.threads v.owners i d.owners d.threads u.held (request t i) asked free in
        record {
          local = local_after t i k.value;
          differ =
              subst (λ x. Lags (local_after t i k.value) u b x v) (sym w.after)
              (subst (λ y. Lags (local_after t i k.value) u b (perform ops code s n own i (request t i)) y) (sym d.shared) k.differ);
          same = pure_keeps s u.held t i k.value asked;
          steps = (after_counts t i k.value).steps;
          outcomes = omega (arith, outcomes_after t i k.value);
        }

    steps_pure : (s₁ : State B) (m : Move) → step ops code s m ≡ Some s₁ → is_step_of n m ≡ true
        → option_map_or (is_pure s u.held) (asks ops code s n) false ≡ true → Stepped t u b s₁ v
    steps_pure s₁ (move.Run q) one by pure =
        let went = step_went ops code s s₁ (move.Run q) one in
        ran_pure s₁ (ran_of ops code n s s₁ own d.threads.there (subst (Ran ops code s s₁) (sym (is_same n q by)) went)) pure
    steps_pure s₁ (move.Wake q w) one by pure =
        let went : Woke ops code s s₁ n w = subst (λ p. Woke ops code s s₁ p w) (sym (is_same n q by)) (step_went ops code s s₁ (move.Wake q w) one) in
        never (sym (asks_there s u.held went.thread (Signal went.condition) went.there went.at) ∙ pure)
    steps_pure s₁ (move.Drain q form) one by pure = never by

  steps_later : (held : List Bool) (s w : State B) (m : Move) (ms : List Move) → step ops code s m ≡ Some w
      → StepsArePure ops code n held s (m ∷ ms) → StepsArePure ops code n held w ms
  steps_later held s w m ms one pure older newer x y is leads by =
      pure (m ∷ older) newer x y (ap (λ zs. m ∷ zs) is) (ap (option_and_then (λ z. run_from ops code z older)) one ∙ leads) by

  -- the same from a state with any local state of the thread
  abbrev SkipsFrom : Local → State B → List Move → State B → Type 0
  SkipsFrom u s₂ ms w =
      (t : Local) (b : B) (v : State B) → IsReached ops code v → Lags t u b w v → t.has_exited ≡ u.has_exited → Skipped t u s₂ v ms

  -- the other threads' moves and the drains are still a run without the thread's pure steps
  pub skips : (moves : List Move) (t u : Local) (b : B) (s s₂ v : State B) → IsReached ops code s → IsReached ops code v → Lags t u b s v → t.has_exited ≡ u.has_exited
      → StepsArePure ops code n u.held s moves → run_from ops code s moves ≡ Some s₂ → Skipped t u s₂ v moves
  skips [] t u b s s₂ v reached lagging d exited pure leads = record {
    local = t;
    buffer = b;
    state = v;
    leads = refl;
    differ = subst (λ x. Lags t u b x v) (same_Some s s₂ leads) d;
    same = kept_all t;
    count = 0;
    fewer = refl;
    some = λ any. never any;
    steps = omega arith;
    outcomes = omega arith;
  }
  skips (m ∷ ms) t u b s s₂ v reached lagging d exited pure leads =
      option_and_then_some (λ w. run_from ops code w ms) (step ops code s m) s₂ leads
      (λ w one rest.
      let on : SkipsFrom u s₂ ms w = λ t₁ b₁ v₁ r₁ d₁ e₁. skips ms t₁ u b₁ w s₂ v₁ (step_is_reached ops code s w m one reached) r₁ d₁ e₁ (steps_later u.held s w m ms one pure) rest in
      elim (cases_Bool (is_step_of n m)) [
        | inl by ↦ own_first w one by on
        | inr by ↦ other_first w one by on
      ])
    where
      own_first : (w : State B) → step ops code s m ≡ Some w → is_step_of n m ≡ true → SkipsFrom u s₂ ms w → Skipped t u s₂ v (m ∷ ms)
      own_first w one by on =
          let k = steps_pure t u b s v d reached lagging w m one by (pure [] ms m s refl refl by) in
          let r = on k.local b v lagging k.differ (sym k.same.has_exited ∙ exited) in
          let without : without_steps_of n (m ∷ ms) ≡ without_steps_of n ms =
          ap (λ h. cond (not h) (m ∷ without_steps_of n ms) (without_steps_of n ms)) by in
          record {
            local = r.local;
            buffer = r.buffer;
            state = r.state;
            leads = ap (run_from ops code v) without ∙ r.leads;
            differ = r.differ;
            same = both_keep t k.local r.local k.same r.same;
            count = r.count + 1;
            fewer = omega (arith, r.fewer, ap length without);
            some = λ any. omega arith;
            steps = omega (arith, r.steps, k.steps);
            outcomes = omega (arith, r.outcomes, k.outcomes);
          }

      other_first : (w : State B) → step ops code s m ≡ Some w → is_step_of n m ≡ false → SkipsFrom u s₂ ms w → Skipped t u s₂ v (m ∷ ms)
      other_first w one by on =
          let k = moved_other (OwnsMore n) (more_keeps n) ops code n t u b s v d exited w m reached one by in
          let r = on t k.buffer k.state (step_is_reached ops code v k.state m k.one lagging) k.differ exited in
          let without : without_steps_of n (m ∷ ms) ≡ m ∷ without_steps_of n ms =
          ap (λ h. cond (not h) (m ∷ without_steps_of n ms) (without_steps_of n ms)) by in
          record {
            local = r.local;
            buffer = r.buffer;
            state = r.state;
            leads = ap (run_from ops code v) without ∙ ap (option_and_then (λ z. run_from ops code z (without_steps_of n ms))) k.one ∙ r.leads;
            differ = r.differ;
            same = r.same;
            count = r.count;
            fewer = omega (arith, r.fewer, ap length without);
            some = λ any. r.some (sym (ap (λ h. h || list_any (is_step_of n) ms) by) ∙ any);
            steps = r.steps;
            outcomes = r.outcomes;
          }
