-- The changes that a move makes.
use Rattle.std.proofs.Common.{◌≡◌, ◌∙◌, ◌⊎◌, inl, inr, ℕ, ◌+◌, ◌≤◌, ℤ, pos, List, Bool, true, false, IsTrue, Option, Some}
use Rattle.std.proofs.Common.{None, refl, ap, sym, subst, arith, slice_set, slice_index_or, ◌||◌, true≢false}
use Rattle.std.specs.FinMap as fin
use Rattle.std.specs.FinSet as set
use Rattle.std.proofs.lemmas.Bool.{and_parts}
use Rattle.std.proofs.lemmas.Cmp.{nat_list_cmp_total}
use Rattle.tc_code.specs.tc_base.Names.{Name, ByName, child, by_name}
use Rattle.tc_code.specs.tc_base.Buffers.{BufferOps}
use Rattle.tc_code.specs.tc_base.States.{Local, Thread, State}
use Rattle.tc_code.specs.tc_base.declared.moves.Move.{Move}
use Rattle.tc_code.specs.tc_base.declared.moves.Move.TheVariants as move
use Rattle.tc_code.specs.declared.instr.Instr.{Instr}
use Rattle.tc_code.specs.declared.instr.Instr.TheVariants.{Load, Store, Inside, Holds, Lock, Unlock, Sleep, Wake}
use Rattle.tc_code.specs.declared.instr.Instr.TheVariants.{Signal, Broadcast, Create, Ready, Assert, Nonzero, InRange, Modify}
use Rattle.tc_code.specs.Code.{Code}
use Rattle.tc_code.specs.tc_base.declared.request.Request.{Request}
use Rattle.tc_code.specs.tc_base.declared.request.Request.TheVariants.{WakeOne, Fail}
use Rattle.tc_code.specs.Step.{request, site, local_after, arguments_of, instr_of, NameSet, is_let, born, perform, step}
use Rattle.run_laws.proofs.Basics.{index_or-set_cases, either}
use Rattle.run_laws.proofs.Names.{tells_names}
use Rattle.run_laws.proofs.Steps.{Went, step_went}

-- whether a request is one of a site whose test is false
abbrev pub is_fail : Request → Bool
is_fail Fail = true
is_fail _ = false

-- the test of a site that doesn't fail is true
pub site_is_true : (b : Bool) → is_fail (site b) ≡ false → IsTrue b
site_is_true true h = refl
site_is_true false h = sym h

-- what an instruction does with a mutex
pub data Hold : Type 0 where
  Keeps : Hold
  Takes : (mutex : ℕ) → Hold
  Leaves : (mutex : ℕ) → Hold

-- what this instruction does with a mutex, if anything
abbrev pub hold_of : Instr → Hold
hold_of (Lock m) = Takes m
hold_of (Unlock m) = Leaves m
hold_of (Sleep c m) = Leaves m
hold_of (Wake c m) = Takes m
hold_of _ = Keeps

-- the held flags after that
abbrev pub held_after : List Bool → Hold → List Bool
held_after held Keeps = held
held_after held (Takes m) = slice_set held m true
held_after held (Leaves m) = slice_set held m false

-- the owners after the named thread did that
abbrev pub owners_after : List (Option Name) → Name → Hold → List (Option Name)
owners_after owners n Keeps = owners
owners_after owners n (Takes m) = slice_set owners m (Some n)
owners_after owners n (Leaves m) = slice_set owners m None

-- whether an instruction is a sleep on a condition
abbrev pub SleepsOn : Instr → ℕ → Type 0
SleepsOn (Sleep c m) d = d ≡ c
SleepsOn _ d = ⊥

-- the named thread waits on a condition
abbrev pub Waits : List NameSet → ℕ → Name → Type 0
Waits waiters c n = IsTrue (set.contains (slice_index_or waiters c set.empty) n)

-- each waiter after an instruction waited before or is the thread that sleeps
abbrev pub StillWaits : {B : Type 0} → State B → State B → Name → Instr → Type 0
StillWaits s u n i = (q : Name) (d : ℕ) → Waits u.waiters d q → Waits s.waiters d q ⊎ (SleepsOn i d × (q ≡ n))

-- whether the other threads allow a request; a signal that wakes a thread is another move
abbrev pub lets : {B : Type 0} → State B → Name → Request → Bool
lets s n (WakeOne c) = true
lets s n r = is_let s n r

-- each waiter after one set of waiters is written waited before or is in that set
waits_after_set : (waiters : List NameSet) (c d : ℕ) (new : NameSet) (q : Name) → Waits (slice_set waiters c new) d q
    → Waits waiters d q ⊎ ((d ≡ c) × IsTrue (set.contains new q))
waits_after_set waiters c d new q h =
    elim (index_or-set_cases waiters c d new set.empty) [
      | inl is ↦ inr (is.0, subst (λ ns. IsTrue (set.contains ns q)) is.1 h)
      | inr was ↦ inl (subst (λ ns. IsTrue (set.contains ns q)) was h)
    ]

-- each name in a set with one more name was in it or is the new one
added : (ns : NameSet) (n q : Name) → IsTrue (set.contains (set.insert ns n) q) → IsTrue (set.contains ns q) ⊎ (q ≡ n)
added ns n q h =
    elim (tells_names q n) [
      | inl e ↦ inr e.1
      | inr e ↦ inl (sym (set.contains-insert nat_list_cmp_total ns n q ∙ ap (λ b. b || set.contains ns q) e.0) ∙ h)
    ]

-- each waiter after a sleep waited before or is the thread that sleeps
sleeps : (waiters : List NameSet) (c : ℕ) (n q : Name) (d : ℕ) → Waits (slice_set waiters c (set.insert (slice_index_or waiters c set.empty) n)) d q
    → Waits waiters d q ⊎ ((d ≡ c) × (q ≡ n))
sleeps waiters c n q d h =
    elim (waits_after_set waiters c d _ q h) [
      | inl old ↦ inl old
      | inr is ↦ elim (added (slice_index_or waiters c set.empty) n q is.1) [
        | inl old ↦ inl (subst (λ k. Waits waiters k q) (sym is.0) old)
        | inr same ↦ inr (is.0, same)
      ]
    ]

-- each waiter after a broadcast waited before
empties : (waiters : List NameSet) (c d : ℕ) (q : Name) → Waits (slice_set waiters c set.empty) d q → Waits waiters d q
empties waiters c d q h =
    elim (waits_after_set waiters c d _ q h) [
      | inl old ↦ old
      | inr is ↦ absurd (true≢false (sym is.1 ∙ set.contains-empty by_name q))
    ]

-- each waiter after a signal waited before
removes : (waiters : List NameSet) (c : ℕ) (v : Name) (d : ℕ) (q : Name)
    → Waits (slice_set waiters c (set.remove (slice_index_or waiters c set.empty) v)) d q → Waits waiters d q
removes waiters c v d q h =
    elim (waits_after_set waiters c d _ q h) [
      | inl old ↦ old
      | inr is ↦ subst (λ k. Waits waiters k q) (sym is.0)
          (and_parts _ _ (sym (set.contains-remove nat_list_cmp_total (slice_index_or waiters c set.empty) v q) ∙ is.1)).1
    ]

module _ {B : Type 0} (ops : BufferOps B) (code : Code) where
  -- the threads, with the child that an instruction creates
  abbrev pub with_child : Local → Name → Instr → ByName (Thread B) → ByName (Thread B)
  with_child t n (Create h f es) threads = fin.insert threads (child n (t.children + 1)) (born ops code f (arguments_of t (Create h f es)))
  with_child t n _ threads = threads

  -- a thread does an instruction that doesn't fail
  pub record Goes (s u : State B) (n : Name) (i : Instr) : Type 0 where
    pub before : Thread B
    pub there : fin.get s.threads n ≡ Some before
    pub at : instr_of code before.local ≡ Some i
    pub passes : is_fail (request before.local i) ≡ false
    pub allowed : IsTrue (lets s n (request before.local i))
    pub value : ℤ
    pub after : Thread B
    pub local : after.local ≡ local_after before.local i value
    pub threads : u.threads ≡ with_child before.local n i (fin.insert s.threads n after)
    pub owners : u.owners ≡ owners_after s.owners n (hold_of i)
    pub waiters : StillWaits s u n i

  -- a thread stays at its place: it fails at a site, or one of its stores drains
  pub record Stays (s u : State B) (n : Name) : Type 0 where
    pub before : Thread B
    pub there : fin.get s.threads n ≡ Some before
    pub after : Thread B
    pub steps : ℕ
    pub few : steps ≤ before.local.steps + 1
    pub local : after.local ≡ record (before.local) { steps = steps }
    pub threads : u.threads ≡ fin.insert s.threads n after
    pub owners : u.owners ≡ s.owners
    pub waiters : u.waiters ≡ s.waiters

  -- the changes of a move
  pub data Change (s u : State B) : Type 0 where
    Went_on : (n : Name) (i : Instr) → Goes s u n i → Change s u
    Stayed : (n : Name) → Stays s u n → Change s u

  module _ (s : State B) (n : Name) (t : Thread B) (there : fin.get s.threads n ≡ Some t) where
    -- a thread does an instruction that doesn't fail
    goes : (u : State B) (i : Instr) (v : ℤ) (new : Thread B) → instr_of code t.local ≡ Some i → is_fail (request t.local i) ≡ false
        → IsTrue (lets s n (request t.local i)) → new.local ≡ local_after t.local i v
        → u.threads ≡ with_child t.local n i (fin.insert s.threads n new) → u.owners ≡ owners_after s.owners n (hold_of i) → StillWaits s u n i → Change s u
    goes u i v new at passes allowed local threads owners waiters =
        Went_on n i (record {
          before = t;
          there = there;
          at = at;
          passes = passes;
          allowed = allowed;
          value = v;
          after = new;
          local = local;
          threads = threads;
          owners = owners;
          waiters = waiters;
        })

    -- a thread passes a site or fails there
    site_performed : (i : Instr) (b : Bool) → instr_of code t.local ≡ Some i → request t.local i ≡ site b
        → ((threads : ByName (Thread B)) → threads ≡ with_child t.local n i threads) → s.owners ≡ owners_after s.owners n (hold_of i)
        → Change s (perform ops code s n t i (site b))
    site_performed i true at asks threads owners =
        goes _ i (pos 0) _ at (ap is_fail asks) (ap (lets s n) asks) refl (threads _) owners (λ q d h. inl h)
    site_performed i false at asks threads owners =
        Stayed n (record {
          before = t;
          there = there;
          after = _;
          steps = t.local.steps + 1;
          few = omega arith;
          local = refl;
          threads = refl;
          owners = refl;
          waiters = refl;
        })

    -- the changes of an instruction
    performed : (i : Instr) → instr_of code t.local ≡ Some i → IsTrue (is_let s n (request t.local i)) → Change s (perform ops code s n t i (request t.local i))
    performed (Load k c) at may = goes _ (Load k c) _ _ at refl may refl refl refl (λ q d h. inl h)
    performed (Store c e) at may =
        either (Change s) ops.buffered _ _
        (goes _ (Store c e) (pos 0) _ at refl may refl refl refl (λ q d h. inl h))
        (goes _ (Store c e) (pos 0) _ at refl may refl refl refl (λ q d h. inl h))
    performed (Modify k c u) at may = goes _ (Modify k c u) _ _ at refl may refl refl refl (λ q d h. inl h)
    performed (Nonzero e) at may = site_performed (Nonzero e) _ at refl (λ m. refl) refl
    performed (InRange e) at may = site_performed (InRange e) _ at refl (λ m. refl) refl
    performed (Inside len e) at may = site_performed (Inside len e) _ at refl (λ m. refl) refl
    performed (Holds m) at may = site_performed (Holds m) _ at refl (λ m. refl) refl
    performed (Ready k) at may = site_performed (Ready k) _ at refl (λ m. refl) refl
    performed (Assert e) at may = site_performed (Assert e) _ at refl (λ m. refl) refl
    performed (Sleep c m) at may = goes _ (Sleep c m) (pos 0) _ at refl may refl refl refl (sleeps s.waiters c n)
    performed (Signal c) at may = goes _ (Signal c) (pos 0) _ at refl refl refl refl refl (λ q d h. inl h)
    performed (Broadcast c) at may = goes _ (Broadcast c) (pos 0) _ at refl may refl refl refl (λ q d h. inl (empties s.waiters c d q h))
    performed i at may = goes _ i (pos 0) _ at refl may refl refl refl (λ q d h. inl h)

  -- the changes of a move, by its kind
  went_changes : (s u : State B) (m : Move) → Went ops code s u m → Change s u
  went_changes s u (move.Run n) w =
      subst (Change s) (sym w.after) (performed s n w.thread w.there w.instr w.at (and_parts _ (is_let s n (request w.thread.local w.instr)) w.allowed).1)
  went_changes s u (move.Wake n v) w =
      goes s n w.thread w.there u (Signal w.condition) (pos 0) _ w.at refl refl refl (ap (λ x. x.threads) w.after) (ap (λ x. x.owners) w.after)
      (λ q d h. inl (removes s.waiters w.condition v d q (subst (λ x. Waits x.waiters d q) w.after h)))
  went_changes s u (move.Drain n form) w = Stayed n (record {
    before = w.thread;
    there = w.there;
    after = _;
    steps = w.thread.local.steps;
    few = omega arith;
    local = refl;
    threads = ap (λ x. x.threads) w.after;
    owners = ap (λ x. x.owners) w.after;
    waiters = ap (λ x. x.waiters) w.after;
  })

  -- the changes of each move
  pub step_changes : (s u : State B) (m : Move) → step ops code s m ≡ Some u → Change s u
  step_changes s u m one = went_changes s u m (step_went ops code s u m one)
