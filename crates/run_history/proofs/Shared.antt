-- The history determines memory, owners, waiters and the failure.
use Rattle.std.proofs.Common.{◌≡◌, ◌∙◌, ℕ, ◌<◌, ◌==◌, ℤ, pos, Bool, true, false, List, [], ◌∷◌, ◌++◌, length, Option, Some, None}
use Rattle.std.proofs.Common.{refl, sym, ap, subst, cond, slice_set, slice_index_or}
use Rattle.std.specs.Prelude.{unwrap_or, if◌then◌else◌}
use Rattle.std.specs.Option.{option_or}
use Rattle.std.specs.FinSet as set
use Rattle.std.proofs.lemmas.Bool.{eqb-true}
use Rattle.std.proofs.lemmas.List.{length-set, length-replicate}
use Rattle.std.proofs.lemmas.List.Sums.{fold-append}
use Rattle.store_buffers.specs.tc_base.Names.{Name}
use Rattle.store_buffers.specs.tc_base.Buffers.{BufferOps, Entry}
use Rattle.store_buffers.specs.tc_base.States.{Thread, State}
use Rattle.store_buffers.specs.tc_base.declared.request.Request.{Request}
use Rattle.store_buffers.specs.tc_base.declared.request.Request.TheVariants.{Read, Write, Acquire, Release, BeginWait, EndWait}
use Rattle.store_buffers.specs.tc_base.declared.request.Request.TheVariants.{WakeOne, WakeAll, Fail}
use Rattle.run_laws.specs.tc_code.declared.instr.Instr.{Instr}
use Rattle.run_laws.specs.tc_code.Code.{Code}
use Rattle.run_laws.specs.tc_code.Step.{perform, with_thread, local_after, state_after_wake, waiting_on, in_memory, NameSet, opening}
use Rattle.run_laws.specs.tc_code.Step as machine
use Rattle.run_laws.proofs.Basics.{by_bool, either, index_or-replicate}
use Rattle.run_laws.proofs.Whole.{performed_shares}
use Rattle.run_history.specs.History.{Deed, did, woke}
use Rattle.run_history.specs.Told.{reaches, value_in, owner_by, owner_in, waiting_after, waiting_in, fails, failed_in}
use Rattle.run_history.proofs.Lists.{index_or-set, last_of-push, put_in, newest_of-push}
use Rattle.run_history.proofs.Frame.{Keeps}

abbrev written : List ℤ → Option Entry → List ℤ
written memory None = memory
written memory (Some e) = slice_set memory e.cell e.value

written_length : (memory : List ℤ) (o : Option Entry) → length (written memory o) ≡ length memory
written_length memory None = refl
written_length memory (Some e) = length-set memory e.cell e.value

written_at : (memory : List ℤ) (o : Option Entry) (c : ℕ) → c < length memory
    → slice_index_or (written memory o) c (pos 0) ≡ put_in o c (slice_index_or memory c (pos 0))
written_at memory None c within = refl
written_at memory (Some e) c within = index_or-set memory e.cell c e.value (pos 0) within

-- the owner of a mutex after a write
owned : {A : Type 0} (b : Bool) (x y : A) → cond b x y ≡ unwrap_or (cond b (Some x) None) y
owned true x y = refl
owned false x y = refl

last_owner : (o : Option (Option Name)) (p : Option (Option Name)) → unwrap_or (option_or o p) None ≡ unwrap_or o (unwrap_or p None)
last_owner None p = refl
last_owner (Some x) p = refl

owner-push : (h : List Deed) (d : Deed) (m : ℕ) → owner_in (h ++ d ∷ []) m ≡ unwrap_or (owner_by m d) (owner_in h m)
owner-push h d m = ap (λ o. unwrap_or o None) (last_of-push (owner_by m) h d) ∙ last_owner (owner_by m d) _

waiting-push : (h : List Deed) (d : Deed) (c : ℕ) → waiting_in (h ++ d ∷ []) c ≡ waiting_after c (waiting_in h c) d
waiting-push h d c = fold-append (waiting_after c) set.empty h (d ∷ [])

-- the waiters after one set is changed by a function
by_itself : (f : NameSet → NameSet) (waiters : List NameSet) (d c : ℕ) (b : Bool) → (d == c) ≡ b
    → cond b (f (slice_index_or waiters d set.empty)) (slice_index_or waiters c set.empty)
    ≡ cond b (f (slice_index_or waiters c set.empty)) (slice_index_or waiters c set.empty)
by_itself f waiters d c true e = ap (λ k. f (slice_index_or waiters k set.empty)) (eqb-true d c e)
by_itself f waiters d c false e = refl

changed_at : (f : NameSet → NameSet) (waiters : List NameSet) (d c : ℕ) → c < length waiters
    → slice_index_or (slice_set waiters d (f (slice_index_or waiters d set.empty))) c set.empty
    ≡ (if d == c then f (slice_index_or waiters c set.empty) else slice_index_or waiters c set.empty)
changed_at f waiters d c within = index_or-set waiters d c (f (slice_index_or waiters d set.empty)) set.empty within ∙ by_itself f waiters d c _ refl

module _ {B : Type 0} (ops : BufferOps B) (code : Code) where
  -- the state after a store, with or without buffers
  abbrev pub store_as : State B → Name → Thread B → Instr → ℕ → ℤ → Bool → State B
  store_as s n t i c v b =
      if b
      then with_thread s n (record { local = local_after t.local i (pos 0); buffer = ops.issue t.buffer c v })
      else record (machine.state_after_step ops s n t i) { memory = slice_set s.memory c v }

  -- the history determines the values in memory
  pub record MemoryIs (s : State B) (h : List Deed) : Type 0 where
    pub cells : length s.memory ≡ length code.memory
    pub values : (c : ℕ) → c < length code.memory → in_memory s c ≡ value_in ops.buffered code h c

  performed_memory : (s : State B) (n : Name) (t : Thread B) (i : Instr) (r : Request)
      → (perform ops code s n t i r).memory ≡ written s.memory (reaches ops.buffered (did ops code s n t r))
  performed_memory s n t i (Write c v) =
      by_bool (λ b. (store_as s n t i c v b).memory ≡ written s.memory (if b then None else Some (record { cell = c; value = v }))) ops.buffered refl refl
  performed_memory s n t i (Read c) = refl
  performed_memory s n t i _ = refl

  memory_by : (s u : State B) (h : List Deed) (d : Deed) → u.memory ≡ written s.memory (reaches ops.buffered d) → MemoryIs s h → MemoryIs u (h ++ d ∷ [])
  memory_by s u h d is m = record {
    cells = ap length is ∙ written_length s.memory (reaches ops.buffered d) ∙ m.cells;
    values = λ c within.
        ap (λ cells. slice_index_or cells c (pos 0)) is
        ∙ written_at s.memory (reaches ops.buffered d) c (subst (λ k. c < k) (sym m.cells) within)
        ∙ ap (put_in (reaches ops.buffered d) c) (m.values c within)
        ∙ sym (newest_of-push (reaches ops.buffered) h d c (slice_index_or code.memory c (pos 0)));
  }

  pub keeps_memory : Keeps ops code MemoryIs
  keeps_memory = record {
    ran = λ s h n t i r _ _ _ _ _ _ m. memory_by s _ h (did ops code s n t r) (performed_memory s n t i r) m;
    waked = λ s h n u t c _ _ _ _ _ _ m. memory_by s _ h _ refl m;
    flushed = λ s h n t form _ _ _ _ m. memory_by s _ h _ refl m;
  }

  -- the history determines the owners of mutexes
  pub record OwnersAre (s : State B) (h : List Deed) : Type 0 where
    pub mutexes : length s.owners ≡ code.mutexes
    pub owners : (m : ℕ) → m < code.mutexes → slice_index_or s.owners m None ≡ owner_in h m

  performed_owner : (s : State B) (n : Name) (t : Thread B) (i : Instr) (r : Request) (m : ℕ) → m < length s.owners
      → slice_index_or (perform ops code s n t i r).owners m None ≡ unwrap_or (owner_by m (did ops code s n t r)) (slice_index_or s.owners m None)
  performed_owner s n t i (Acquire l) m within = index_or-set s.owners l m (Some n) None within ∙ owned (l == m) (Some n) _
  performed_owner s n t i (Release l) m within = index_or-set s.owners l m None None within ∙ owned (l == m) None _
  performed_owner s n t i (BeginWait c l) m within = index_or-set s.owners l m None None within ∙ owned (l == m) None _
  performed_owner s n t i (EndWait c l) m within = index_or-set s.owners l m (Some n) None within ∙ owned (l == m) (Some n) _
  performed_owner s n t i (Write c v) m within =
      either (λ (w : State B). slice_index_or w.owners m None ≡ slice_index_or s.owners m None) ops.buffered _ _ refl refl
  performed_owner s n t i _ m within = refl

  owners_by : (s u : State B) (h : List Deed) (d : Deed) → length u.owners ≡ length s.owners
      → ((m : ℕ) → m < length s.owners → slice_index_or u.owners m None ≡ unwrap_or (owner_by m d) (slice_index_or s.owners m None)) → OwnersAre s h
      → OwnersAre u (h ++ d ∷ [])
  owners_by s u h d as_many is o = record {
    mutexes = as_many ∙ o.mutexes;
    owners = λ m within.
        is m (subst (λ k. m < k) (sym o.mutexes) within) ∙ ap (unwrap_or (owner_by m d)) (o.owners m within) ∙ sym (owner-push h d m);
  }

  pub keeps_owners : Keeps ops code OwnersAre
  keeps_owners = record {
    ran = λ s h n t i r _ _ _ _ _ _ o. owners_by s _ h (did ops code s n t r) (performed_shares ops code s n t i r).owners (performed_owner s n t i r) o;
    waked = λ s h n u t c _ _ _ _ _ _ o. owners_by s _ h _ refl (λ m within. refl) o;
    flushed = λ s h n t form _ _ _ _ o. owners_by s _ h _ refl (λ m within. refl) o;
  }

  -- the history determines the waiters of conditions
  pub record WaitersAre (s : State B) (h : List Deed) : Type 0 where
    pub conditions : length s.waiters ≡ code.conditions
    pub waiters : (c : ℕ) → c < code.conditions → waiting_on s c ≡ waiting_in h c

  performed_waiting : (s : State B) (n : Name) (t : Thread B) (i : Instr) (r : Request) (c : ℕ) → c < length s.waiters
      → waiting_on (perform ops code s n t i r) c ≡ waiting_after c (waiting_on s c) (did ops code s n t r)
  performed_waiting s n t i (BeginWait d m) c within = changed_at (λ ns. set.insert ns n) s.waiters d c within
  performed_waiting s n t i (WakeAll d) c within = index_or-set s.waiters d c set.empty set.empty within
  performed_waiting s n t i (Write d v) c within =
      either (λ (w : State B). slice_index_or w.waiters c set.empty ≡ slice_index_or s.waiters c set.empty) ops.buffered _ _ refl refl
  performed_waiting s n t i _ c within = refl

  waiters_by : (s u : State B) (h : List Deed) (d : Deed) → length u.waiters ≡ length s.waiters
      → ((c : ℕ) → c < length s.waiters → waiting_on u c ≡ waiting_after c (waiting_on s c) d) → WaitersAre s h → WaitersAre u (h ++ d ∷ [])
  waiters_by s u h d as_many is w = record {
    conditions = as_many ∙ w.conditions;
    waiters = λ c within.
        is c (subst (λ k. c < k) (sym w.conditions) within) ∙ ap (λ ns. waiting_after c ns d) (w.waiters c within) ∙ sym (waiting-push h d c);
  }

  pub keeps_waiters : Keeps ops code WaitersAre
  keeps_waiters = record {
    ran = λ s h n t i r _ _ _ _ _ _ w. waiters_by s _ h (did ops code s n t r) (performed_shares ops code s n t i r).waiters (performed_waiting s n t i r) w;
    waked = λ s h n u t d _ _ _ _ _ _ w.
        waiters_by s _ h (woke ops code n u t (WakeOne d)) (length-set s.waiters d _) (λ c within. changed_at (λ ns. set.remove ns u) s.waiters d c within) w;
    flushed = λ s h n t form _ _ _ _ w. waiters_by s _ h _ refl (λ c within. refl) w;
  }

  -- the history determines which thread has failed
  abbrev pub FailureIs : State B → List Deed → Type 0
  FailureIs s h = s.failed ≡ failed_in h

  performed_failed : (s : State B) (n : Name) (t : Thread B) (i : Instr) (r : Request)
      → (perform ops code s n t i r).failed ≡ option_or (fails (did ops code s n t r)) s.failed
  performed_failed s n t i (Write c v) = either (λ (w : State B). w.failed ≡ s.failed) ops.buffered _ _ refl refl
  performed_failed s n t i Fail = refl
  performed_failed s n t i _ = refl

  failure_by : (s u : State B) (h : List Deed) (d : Deed) → u.failed ≡ option_or (fails d) s.failed → FailureIs s h → FailureIs u (h ++ d ∷ [])
  failure_by s u h d is f = is ∙ ap (option_or (fails d)) f ∙ sym (last_of-push fails h d)

  pub keeps_failure : Keeps ops code FailureIs
  keeps_failure = record {
    ran = λ s h n t i r _ _ _ _ _ _ f. failure_by s (perform ops code s n t i r) h (did ops code s n t r) (performed_failed s n t i r) f;
    waked = λ s h n u t c _ _ _ _ _ _ f. failure_by s (state_after_wake ops s n u t c) h _ refl f;
    flushed = λ s h n t form _ _ _ _ f. failure_by s (machine.state_after_drain ops s n t form) h _ refl f;
  }

  -- the memory at the start is that of the empty history
  pub opening_memory : MemoryIs (opening ops code) []
  opening_memory = record { cells = refl; values = λ c within. refl }

  pub opening_owners : OwnersAre (opening ops code) []
  opening_owners = record { mutexes = length-replicate code.mutexes None; owners = λ m within. index_or-replicate code.mutexes m None }

  pub opening_waiters : WaitersAre (opening ops code) []
  opening_waiters = record {
    conditions = length-replicate code.conditions set.empty;
    waiters = λ c within. index_or-replicate code.conditions c set.empty;
  }
