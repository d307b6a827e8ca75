-- States that differ only in the local state of one thread: moves of other threads, and drains,
-- keep that.
use Rattle.std.proofs.Common.{◌≡◌, ◌≢◌, ◌∙◌, inl, inr, ℕ, ◌+◌, Bool, true, false, not, ◌||◌, cond, Option, Some, None, refl, sym, ap, subst}
use Rattle.std.proofs.Common.{true≢false}
use Rattle.std.specs.Prelude.{is_none}
use Rattle.std.specs.Option.{option_map_or}
use Rattle.std.specs.FinMap as fin
use Rattle.std.specs.FinSet as set
use Rattle.std.proofs.lemmas.Bool.{and_parts, and_from}
use Rattle.std.proofs.lemmas.Option.{same_Some}
use Rattle.run_laws.specs.tc_base.Names.{Name, ByName, child}
use Rattle.run_laws.specs.tc_base.Buffers.{BufferOps}
use Rattle.run_laws.specs.tc_base.States.{Local, Thread, State}
use Rattle.run_laws.specs.tc_base.declared.moves.Move.{Move}
use Rattle.run_laws.specs.tc_base.declared.moves.Move.TheVariants as move
use Rattle.run_laws.specs.tc_base.declared.request.Request.{Request}
use Rattle.run_laws.specs.tc_base.declared.request.Request.TheVariants.{Write, Acquire, Release, BeginWait, EndWait, Start, Await}
use Rattle.run_laws.specs.tc_code.declared.instr.Instr.{Instr}
use Rattle.run_laws.specs.tc_code.Code.{Code}
use Rattle.run_laws.specs.tc_code.Step.{request, drains_first, is_free, is_let, allows, perform, waiting_on, state_after_wake, state_after_drain, step}
use Rattle.run_laws.specs.tc_code.Run.{IsReached}
use Rattle.run_laws.specs.Alone.{same}
use Rattle.run_laws.proofs.Names.{same_or_apart, same_self, get_put, get_put_apart}
use Rattle.run_laws.proofs.Created.{not_next_child}
use Rattle.run_laws.proofs.Steps.{Ran, Woke, Drained, none_failed, step_went}
use Rattle.run_laws.proofs.Makes.{makes_run, makes_wake, makes_drain}
use Rattle.pure_turns.specs.Turn.{is_step_of}
use Rattle.pure_turns.proofs.Owners.{Owners, owner, Keeping}

-- a relation that holds for both pairs holds for the pair that a bool selects
pub either_way : {A : Type 0} (P : A → A → Type 0) (b : Bool) (x y v w : A) → P x v → P y w → P (cond b x y) (cond b v w)
either_way P true x y v w p q = p
either_way P false x y v w p q = q

-- a value that is put into both maps is in both
put_both : {X : Type 0} (ms ns : ByName X) (k : Name) (x : X) (q : Name) → fin.get ms q ≡ fin.get ns q
    → fin.get (fin.insert ms k x) q ≡ fin.get (fin.insert ns k x) q
put_both ms ns k x q agree =
    elim (same_or_apart q k) [
      | inl same ↦
          ap (fin.get (fin.insert ms k x)) same ∙ get_put ms k x ∙ sym (get_put ns k x) ∙ ap (fin.get (fin.insert ns k x)) (sym same)
      | inr apart ↦ get_put_apart ms k x q apart ∙ agree ∙ sym (get_put_apart ns k x q apart)
    ]

-- the threads are the same except one, which has local state `t` in the first state and `u` in the
-- second
pub record ThreadsDiffer {B : Type 0} (n : Name) (t u : Local) (b : B) (ss vs : ByName (Thread B)) : Type 0 where
  pub others : (q : Name) → q ≢ n → fin.get vs q ≡ fin.get ss q
  pub there : fin.get ss n ≡ Some (record { local = t; buffer = b })
  pub here : fin.get vs n ≡ Some (record { local = u; buffer = b })

pub record Differ {B : Type 0} (Related : Owners → Owners → Type 0) (n : Name) (t u : Local) (b : B) (s v : State B) : Type 0 where
  pub shared : v ≡ record s { threads = v.threads; owners = v.owners }
  pub owners : Related s.owners v.owners
  pub threads : ThreadsDiffer n t u b s.threads v.threads

-- another thread is replaced in both
pub put_other : {B : Type 0} (n : Name) (t u : Local) (b : B) (ss vs : ByName (Thread B)) (q : Name) (x : Thread B) → n ≢ q
    → ThreadsDiffer n t u b ss vs → ThreadsDiffer n t u b (fin.insert ss q x) (fin.insert vs q x)
put_other n t u b ss vs q x apart d = record {
  others = λ p other. put_both vs ss q x p (d.others p other);
  there = get_put_apart ss q x n apart ∙ d.there;
  here = get_put_apart vs q x n apart ∙ d.here;
}

-- the thread itself is replaced in both
pub put_own : {B : Type 0} (n : Name) (t u t₁ u₁ : Local) (b b₁ : B) (ss vs : ByName (Thread B)) → ThreadsDiffer n t u b ss vs
    → ThreadsDiffer n t₁ u₁ b₁ (fin.insert ss n (record { local = t₁; buffer = b₁ })) (fin.insert vs n (record { local = u₁; buffer = b₁ }))
put_own n t u t₁ u₁ b b₁ ss vs d = record {
  others = λ p other. get_put_apart vs n _ p other ∙ d.others p other ∙ sym (get_put_apart ss n _ p other);
  there = get_put ss n _;
  here = get_put vs n _;
}

-- the thread is replaced only in the first
pub put_first : {B : Type 0} (n : Name) (t u t₁ : Local) (b : B) (ss vs : ByName (Thread B)) → ThreadsDiffer n t u b ss vs
    → ThreadsDiffer n t₁ u b (fin.insert ss n (record { local = t₁; buffer = b })) vs
put_first n t u t₁ b ss vs d = record {
  others = λ p other. d.others p other ∙ sym (get_put_apart ss n _ p other);
  there = get_put ss n _;
  here = d.here;
}

-- whether a thread exists and has exited
abbrev exits : {B : Type 0} → Option (Thread B) → Bool
exits {B} o = option_map_or (λ (x : Thread B). x.local.has_exited) o false

pub is_none_none : (o : Option Name) → is_none o ≡ true → o ≡ None
is_none_none None e = refl
is_none_none (Some x) e = absurd (true≢false (sym e))

module _ {B : Type 0} (Related : Owners → Owners → Type 0) (keeping : Keeping Related) (ops : BufferOps B) (code : Code) (n : Name) (t u : Local) where
  module _ (b : B) (s : State B) (vs : ByName (Thread B)) (ps : Owners) (o : Related s.owners ps) (d : ThreadsDiffer n t u b s.threads vs) where
    -- the second state
    abbrev second : State B
    second = record s { threads = vs; owners = ps }

    exits_same : (w : Name) → t.has_exited ≡ u.has_exited → exits (fin.get vs w) ≡ exits (fin.get s.threads w)
    exits_same w exited =
        elim (same_or_apart w n) [
          | inl own ↦
              ap (λ p. exits (fin.get vs p)) own ∙ ap exits d.here ∙ sym exited ∙ ap exits (sym d.there) ∙ ap (λ p. exits (fin.get s.threads p)) (sym own)
          | inr apart ↦ ap exits (d.others w apart)
        ]

    free_too : (m : ℕ) → is_free s m ≡ true → is_none (owner ps m) ≡ true
    free_too m free = ap is_none (keeping.frees s.owners ps m o (is_none_none (owner s.owners m) free))

    -- mutexes, waiters and children allow in the second state what they allow in the first
    lets_too : (q : Name) (r : Request) → t.has_exited ≡ u.has_exited → is_let s q r ≡ true → is_let second q r ≡ true
    lets_too q (Await k) exited lets = exits_same (child q k) exited ∙ lets
    lets_too q (Acquire m) exited lets = free_too m lets
    lets_too q (EndWait c m) exited lets =
        let both = and_parts (not (set.contains (waiting_on s c) q)) (is_free s m) lets in and_from _ _ both.0 (free_too m both.1)
    lets_too q _ exited lets = lets

    pub allows_too : (q : Name) (x : Thread B) (r : Request) → t.has_exited ≡ u.has_exited → allows ops s q x r ≡ true → allows ops second q x r ≡ true
    allows_too q x r exited may =
        let both = and_parts (not (drains_first r) || ops.is_empty x.buffer) (is_let s q r) may in and_from _ _ both.0 (lets_too q r exited both.1)

    -- another thread does the same request in both
    performs_other : (q : Name) (x : Thread B) (i : Instr) (r : Request) → n ≢ q → n ≢ child q (x.local.children + 1)
        → Differ Related n t u b (perform ops code s q x i r) (perform ops code second q x i r)
    performs_other q x i (Write c w) apart new =
        either_way (Differ Related n t u b) ops.buffered _ _ _ _
        (record { shared = refl; owners = o; threads = put_other n t u b s.threads vs q _ apart d })
        (record { shared = refl; owners = o; threads = put_other n t u b s.threads vs q _ apart d })
    performs_other q x i (Start f) apart new =
        record { shared = refl; owners = o; threads = put_other n t u b _ _ _ _ new (put_other n t u b s.threads vs q _ apart d) }
    performs_other q x i (Acquire m) apart new =
        record { shared = refl; owners = keeping.sets s.owners ps m (Some q) o; threads = put_other n t u b s.threads vs q _ apart d }
    performs_other q x i (Release m) apart new =
        record { shared = refl; owners = keeping.sets s.owners ps m None o; threads = put_other n t u b s.threads vs q _ apart d }
    performs_other q x i (BeginWait c m) apart new =
        record { shared = refl; owners = keeping.sets s.owners ps m None o; threads = put_other n t u b s.threads vs q _ apart d }
    performs_other q x i (EndWait c m) apart new =
        record { shared = refl; owners = keeping.sets s.owners ps m (Some q) o; threads = put_other n t u b s.threads vs q _ apart d }
    performs_other q x i _ apart new = record { shared = refl; owners = o; threads = put_other n t u b s.threads vs q _ apart d }

  -- a move of the second state keeps the difference
  pub record Keeps (b : B) (s₁ v : State B) (m : Move) : Type 0 where
    pub buffer : B
    pub state : State B
    pub one : step ops code v m ≡ Some state
    pub differ : Differ Related n t u buffer s₁ state

  not_by : (q : Name) → same n q ≡ false → n ≢ q
  not_by q e one = true≢false (sym (same_self n q one) ∙ e)

  module _ (b : B) (s v : State B) (d : Differ Related n t u b s v) (exited : t.has_exited ≡ u.has_exited) where
    -- if no thread has failed in the first state, none has in the second
    pub going_same : s.failed ≡ None → v.failed ≡ None
    going_same none = ap (λ (x : State B). x.failed) d.shared ∙ none

    ran_other : (s₁ : State B) (q : Name) → IsReached ops code s → s.failed ≡ None → n ≢ q → Ran ops code s s₁ q → Keeps b s₁ v (move.Run q)
    ran_other s₁ q reached none apart w =
        let r = request w.thread.local w.instr in
        let new = not_next_child ops code s q n w.thread _ reached w.there d.threads.there in
        let may = ap (λ x. allows ops x q w.thread r) d.shared ∙ allows_too b s v.threads v.owners d.owners d.threads q w.thread r exited w.allowed in
        record {
          buffer = b;
          state = perform ops code v q w.thread w.instr r;
          one = makes_run ops code v q w.thread (going_same none) (d.threads.others q (λ e. apart (sym e)) ∙ w.there) w.instr r w.at refl may;
          differ =
              subst (λ x. Differ Related n t u b x (perform ops code v q w.thread w.instr r)) (sym w.after)
              (subst (λ y. Differ Related n t u b (perform ops code s q w.thread w.instr r) (perform ops code y q w.thread w.instr r)) (sym d.shared)
              (performs_other b s v.threads v.owners d.owners d.threads q w.thread w.instr r apart new));
        }

    woke_other : (s₁ : State B) (q w : Name) → s.failed ≡ None → n ≢ q → Woke ops code s s₁ q w → Keeps b s₁ v (move.Wake q w)
    woke_other s₁ q w none apart g =
        let here = d.threads.others q (λ e. apart (sym e)) ∙ g.there in
        let waits = ap (λ (x : State B). set.contains (waiting_on x g.condition) w) d.shared ∙ g.waits in
        record {
          buffer = b;
          state = state_after_wake ops v q w g.thread g.condition;
          one = makes_wake ops code v q g.thread (going_same none) here w g.condition g.at g.empty waits;
          differ =
              subst (λ x. Differ Related n t u b x (state_after_wake ops v q w g.thread g.condition)) (sym g.after)
              (subst (λ y. Differ Related n t u b (state_after_wake ops s q w g.thread g.condition) (state_after_wake ops y q w g.thread g.condition)) (sym d.shared)
              (record { shared = refl; owners = d.owners; threads = put_other n t u b s.threads v.threads q _ apart d.threads }));
        }

    drained_other : (s₁ : State B) (q : Name) (form : Option ℕ) → s.failed ≡ None → n ≢ q → Drained ops code s s₁ q form
        → Keeps b s₁ v (move.Drain q form)
    drained_other s₁ q form none apart g =
        let here = d.threads.others q (λ e. apart (sym e)) ∙ g.there in
        record {
          buffer = b;
          state = state_after_drain ops v q g.thread form;
          one = makes_drain ops code v q g.thread (going_same none) here form g.may;
          differ =
              subst (λ x. Differ Related n t u b x (state_after_drain ops v q g.thread form)) (sym g.after)
              (subst (λ y. Differ Related n t u b (state_after_drain ops s q g.thread form) (state_after_drain ops y q g.thread form)) (sym d.shared)
              (record { shared = refl; owners = d.owners; threads = put_other n t u b s.threads v.threads q _ apart d.threads }));
        }

    -- a store of the thread itself drains in both
    drained_own : (s₁ : State B) (form : Option ℕ) → s.failed ≡ None → Drained ops code s s₁ n form → Keeps b s₁ v (move.Drain n form)
    drained_own s₁ form none g =
        let one : g.thread ≡ record { local = t; buffer = b } = same_Some _ _ (sym g.there ∙ d.threads.there) in
        let may = ap (λ (x : Thread B). ops.may_drain x.buffer form) (sym one) ∙ g.may in
        let rest = (ops.drain b form).rest in
        let own : Thread B = record { local = u; buffer = b } in
        record {
          buffer = rest;
          state = state_after_drain ops v n own form;
          one = makes_drain ops code v n own (going_same none) d.threads.here form may;
          differ =
              subst (λ x. Differ Related n t u rest x (state_after_drain ops v n own form))
              (ap (λ x. state_after_drain ops s n x form) (sym one) ∙ sym g.after)
              (subst (λ y. Differ Related n t u rest (state_after_drain ops s n (record { local = t; buffer = b }) form) (state_after_drain ops y n own form)) (sym d.shared)
              (record { shared = refl; owners = d.owners; threads = put_own n t u t u b rest s.threads v.threads d.threads }));
        }

    -- each move except a step of the thread keeps the difference
    pub moved_other : (s₁ : State B) (m : Move) → IsReached ops code s → step ops code s m ≡ Some s₁ → is_step_of n m ≡ false → Keeps b s₁ v m
    moved_other s₁ (move.Run q) reached one other =
        ran_other s₁ q reached (none_failed ops code s s₁ (move.Run q) one) (not_by q other) (step_went ops code s s₁ (move.Run q) one)
    moved_other s₁ (move.Wake q w) reached one other =
        woke_other s₁ q w (none_failed ops code s s₁ (move.Wake q w) one) (not_by q other) (step_went ops code s s₁ (move.Wake q w) one)
    moved_other s₁ (move.Drain q form) reached one other =
        let none = none_failed ops code s s₁ (move.Drain q form) one in
        let went = step_went ops code s s₁ (move.Drain q form) one in
        elim (same_or_apart n q) [
          | inl same ↦
              subst (λ p. Keeps b s₁ v (move.Drain p form)) same
              (drained_own s₁ form none (subst (λ p. Drained ops code s s₁ p form) (sym same) went))
          | inr apart ↦ drained_other s₁ q form none apart went
        ]
