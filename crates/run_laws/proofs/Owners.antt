-- A thread holds a mutex exactly if it is its owner.
use Rattle.std.proofs.Common.{◌≡◌, ◌≢◌, ◌↔◌, ◌∙◌, inl, inr, ℕ, ◌+◌, ◌<◌, length, ℤ, List, Bool, true, false, not, IsTrue, IsSome, Option}
use Rattle.std.proofs.Common.{Some, None, is_none, refl, ap, sym, subst, arith, nat_lt, slice_set, slice_index_or, true≢false}
use Rattle.std.specs.FinMap as fin
use Rattle.std.specs.FinSet as set
use Rattle.std.proofs.lemmas.Bool.{and_parts, cases_eq, ltb-true}
use Rattle.std.proofs.lemmas.List.{get_or-set_same, get_or-set_other}
use Rattle.std.proofs.lemmas.Option.{none-some, same_Some}
use Rattle.tc_code.specs.tc_base.Names.{Name, ByName, main, child, by_name}
use Rattle.tc_code.specs.tc_base.Buffers.{BufferOps}
use Rattle.tc_code.specs.tc_base.States.{Local, Thread, State}
use Rattle.tc_code.specs.tc_base.declared.moves.Move.{Move}
use Rattle.tc_code.specs.declared.instr.Instr.{Instr}
use Rattle.tc_code.specs.declared.instr.Instr.TheVariants.{Branch, Lock, Unlock, Sleep, Wake, Create}
use Rattle.tc_code.specs.Code.{Code}
use Rattle.tc_code.specs.Lawful.{IsLawful}
use Rattle.tc_code.specs.Step.{holds, waiting_on, is_free, local_after, opening, step}
use Rattle.tc_code.specs.Run.{IsReached}
use Rattle.run_laws.specs.Laws.{OwnersHold}
use Rattle.run_laws.specs.Whole.{IsWhole}
use Rattle.run_laws.proofs.Basics.{some_is, some_value, index_or-replicate, index_or-set_default}
use Rattle.run_laws.proofs.Names.{same_or_apart, get_put, get_put_apart, get_put_cases, stays_after_put, child_apart}
use Rattle.run_laws.proofs.Steps.{holds_in_reached}
use Rattle.run_laws.proofs.After.{branch_is}
use Rattle.run_laws.proofs.Changes.{Goes, Stays, Went_on, Stayed, Hold, Keeps, Takes, Leaves, hold_of, held_after, owners_after, step_changes}
use Rattle.run_laws.proofs.Created.{child_is_new}
use Rattle.run_laws.proofs.Whole.{names_next, reached_is_whole}
use Rattle.run_laws.proofs.Bound.{reached_has_tested}

-- a thread with these held flags holds the mutex
abbrev Has : List Bool → ℕ → Type 0
Has held m = IsTrue (slice_index_or held m false)

-- the named thread owns the mutex
abbrev Owns : List (Option Name) → Name → ℕ → Type 0
Owns owners n m = slice_index_or owners m None ≡ Some n

-- owners and threads agree on who holds what
record Agree {B : Type 0} (owners : List (Option Name)) (threads : ByName (Thread B)) : Type 0 where
  holder : (n : Name) (t : Thread B) (m : ℕ) → fin.get threads n ≡ Some t → Has t.local.held m ↔ Owns owners n m
  there : (n : Name) (m : ℕ) → Owns owners n m → IsSome (fin.get threads n)

-- owners and threads still agree after a thread that holds exactly what it owns is put in
agree_after : {B : Type 0} (owners new : List (Option Name)) (threads : ByName (Thread B)) (n : Name) (t : Thread B) → Agree owners threads
    → ((m : ℕ) → Has t.local.held m ↔ Owns new n m) → ((q : Name) (m : ℕ) → q ≢ n → Owns owners q m ↔ Owns new q m) → Agree new (fin.insert threads n t)
agree_after {B} owners new threads n t agree own others = record {
  holder = λ q x m e. elim (get_put_cases threads n t q x e) [
    | inl is ↦
        subst (λ p. Has x.local.held m ↔ Owns new p m) (sym is.0)
        (subst (λ (y : Thread B). Has y.local.held m ↔ Owns new n m) is.1 (own m))
    | inr was ↦
        let old = agree.holder q x m was.1 in
        (λ h. (others q m was.0).0 (old.0 h), λ o. old.1 ((others q m was.0).1 o))
  ];
  there = λ q m e. elim (same_or_apart q n) [
    | inl same ↦ some_is _ t (ap (fin.get (fin.insert threads n t)) same ∙ get_put threads n t)
    | inr apart ↦ stays_after_put threads n t q (agree.there q m ((others q m apart).1 e))
  ];
}

-- a free mutex, with a place for its owner and for the flag of the thread that takes it
record IsFree (owners : List (Option Name)) (held : List Bool) (k : ℕ) : Type 0 where
  free : slice_index_or owners k None ≡ None
  owner : k < length owners
  mark : k < length held

-- a thread whose flag and ownership of a mutex are written holds exactly what it owns
writer_owns : (owners : List (Option Name)) (held : List Bool) (n : Name) (k m : ℕ) (o : Option Name) (b : Bool)
    → slice_index_or (slice_set owners k o) k None ≡ o → slice_index_or (slice_set held k b) k false ≡ b → IsTrue b ↔ (o ≡ Some n)
    → Has held m ↔ Owns owners n m → Has (slice_set held k b) m ↔ Owns (slice_set owners k o) n m
writer_owns owners held n k m o b owner mark new old =
    elim (cases_eq m k) [
      | inl same ↦
          let owns = ap (λ j. slice_index_or (slice_set owners k o) j None) same ∙ owner in
          let has = ap (λ j. slice_index_or (slice_set held k b) j false) same ∙ mark in
          (λ h. owns ∙ new.0 (sym has ∙ h), λ h. has ∙ new.1 (sym owns ∙ h))
      | inr apart ↦
          let owns = get_or-set_other owners k m o None apart in
          let has = get_or-set_other held k m b false apart in
          (λ h. owns ∙ old.0 (sym has ∙ h), λ h. has ∙ old.1 (sym owns ∙ h))
    ]

-- a thread that owns that mutex neither before nor after owns the same mutexes as before
others_own_after : (owners : List (Option Name)) (k m : ℕ) (o : Option Name) (q : Name) → slice_index_or (slice_set owners k o) k None ≡ o
    → (Owns owners q k → ⊥) → (o ≡ Some q → ⊥) → Owns owners q m ↔ Owns (slice_set owners k o) q m
others_own_after owners k m o q owner was is =
    elim (cases_eq m k) [
      | inl same ↦ (
        λ h. absurd (was (ap (λ j. slice_index_or owners j None) (sym same) ∙ h)),
        λ h. absurd (is (sym owner ∙ ap (λ j. slice_index_or (slice_set owners k o) j None) (sym same) ∙ h)),
      )
      | inr apart ↦ let owns = get_or-set_other owners k m o None apart in (λ h. owns ∙ h, λ h. sym owns ∙ h)
    ]

-- the conditions for what a thread does with a mutex
abbrev May : List (Option Name) → List Bool → Name → Hold → Type 0
May owners held n Keeps = Unit {0}
May owners held n (Takes k) = IsFree owners held k
May owners held n (Leaves k) = Owns owners n k

-- a thread that meets these conditions holds exactly what it owns
goer_owns : (owners : List (Option Name)) (held : List Bool) (n : Name) (h : Hold) → May owners held n h → (m : ℕ) → Has held m ↔ Owns owners n m
    → Has (held_after held h) m ↔ Owns (owners_after owners n h) n m
goer_owns owners held n Keeps may m old = old
goer_owns owners held n (Takes k) may m old =
    writer_owns owners held n k m (Some n) true (get_or-set_same owners k (Some n) None may.owner) (get_or-set_same held k true false may.mark)
    (λ h. refl, λ h. refl) old
goer_owns owners held n (Leaves k) may m old =
    writer_owns owners held n k m None false (index_or-set_default owners k None) (index_or-set_default held k false)
    (λ h. absurd (true≢false (sym h)), λ h. absurd (none-some n h)) old

-- the other threads own the same mutexes as before
others_own : (owners : List (Option Name)) (held : List Bool) (n : Name) (h : Hold) → May owners held n h → (q : Name) (m : ℕ) → q ≢ n
    → Owns owners q m ↔ Owns (owners_after owners n h) q m
others_own owners held n Keeps may q m other = (λ o. o, λ o. o)
others_own owners held n (Takes k) may q m other =
    others_own_after owners k m (Some n) q (get_or-set_same owners k (Some n) None may.owner) (λ h. none-some q (sym may.free ∙ h))
    (λ h. other (sym (same_Some n q h)))
others_own owners held n (Leaves k) may q m other =
    others_own_after owners k m None q (index_or-set_default owners k None) (λ h. other (sym (same_Some n q (sym may ∙ h)))) (λ h. none-some q h)

-- the held flags after an instruction
held_is : (t : Local) (i : Instr) (v : ℤ) → (local_after t i v).held ≡ held_after t.held (hold_of i)
held_is t (Branch e to) v = ap (λ u. u.held) (branch_is t _ to)
held_is t _ v = refl

module _ {B : Type 0} where
  -- owners and threads agree after a thread did what the conditions allow
  agree_goes : (owners : List (Option Name)) (threads : ByName (Thread B)) (n : Name) (t new : Thread B) (h : Hold) → fin.get threads n ≡ Some t
      → new.local.held ≡ held_after t.local.held h → May owners t.local.held n h → Agree owners threads
      → Agree (owners_after owners n h) (fin.insert threads n new)
  agree_goes owners threads n t new h there held may agree =
      agree_after owners (owners_after owners n h) threads n new agree
      (λ m. subst (λ hs. Has hs m ↔ Owns (owners_after owners n h) n m) (sym held) (goer_owns owners t.local.held n h may m (agree.holder n t m there)))
      (others_own owners t.local.held n h may)

  -- owners and threads agree after a thread that holds nothing is born under a new name
  agree_born : (owners : List (Option Name)) (threads : ByName (Thread B)) (c : Name) (baby : Thread B) → fin.get threads c ≡ None
      → ((m : ℕ) → holds baby.local m ≡ false) → Agree owners threads → Agree owners (fin.insert threads c baby)
  agree_born owners threads c baby none free agree =
      agree_after owners owners threads c baby agree
      (λ m. (
        λ h. absurd (true≢false (sym h ∙ free m)),
        λ o. let some = some_value _ (agree.there c m o) in absurd (none-some some.0 (sym none ∙ some.1)),
      ))
      (λ q m other. (λ o. o, λ o. o))

-- a free mutex has no owner
is_free_none : (o : Option Name) → IsTrue (is_none o) → o ≡ None
is_free_none None h = refl
is_free_none (Some n) h = absurd (true≢false (sym h))

module _ {B : Type 0} (ops : BufferOps B) (code : Code) where
  -- a thread may take a free mutex
  may_take : (s : State B) (n : Name) (t : Thread B) (m : ℕ) → IsWhole code s → fin.get s.threads n ≡ Some t → IsTrue (nat_lt m code.mutexes)
      → IsTrue (is_free s m) → IsFree s.owners t.local.held m
  may_take s n t m whole there few free =
      let less = ltb-true m code.mutexes few in
      record {
        free = is_free_none _ free;
        owner = omega (arith, less, whole.owners);
        mark = omega (arith, less, (whole.threads n t there).held);
      }

  module _ (s u : State B) (n : Name) (lawful : IsLawful code) (r : IsReached ops code s) (agree : Agree s.owners s.threads) where
    -- an instruction of lawful code meets the conditions for its mutex
    may_do : (i : Instr) → (g : Goes ops code s u n i) → May s.owners g.before.local.held n (hold_of i)
    may_do (Lock m) g = may_take s n g.before m (reached_is_whole ops code s lawful r) g.there (names_next code g.before.local (Lock m) lawful g.at) g.allowed
    may_do (Wake c m) g =
        may_take s n g.before m (reached_is_whole ops code s lawful r) g.there
        (and_parts (nat_lt c code.conditions) _ (names_next code g.before.local (Wake c m) lawful g.at)).1
        (and_parts (not (set.contains (waiting_on s c) n)) _ g.allowed).1
    may_do (Unlock m) g = (agree.holder n g.before m g.there).0 ((reached_has_tested ops code s lawful r n g.before g.there).unlock m g.at)
    may_do (Sleep c m) g = (agree.holder n g.before m g.there).0 ((reached_has_tested ops code s lawful r n g.before g.there).sleep c m g.at)
    may_do _ g = tt

    -- owners and threads agree after an instruction, apart from the child that it creates
    agree_put : (i : Instr) → (g : Goes ops code s u n i) → Agree u.owners (fin.insert s.threads n g.after)
    agree_put i g =
        subst (λ owners. Agree owners (fin.insert s.threads n g.after)) (sym g.owners)
        (agree_goes s.owners s.threads n g.before g.after (hold_of i) g.there (ap (λ t. t.held) g.local ∙ held_is g.before.local i g.value) (may_do i g) agree)

    -- owners and threads agree after an instruction, with the child
    agree_went : (i : Instr) → Goes ops code s u n i → Agree u.owners u.threads
    agree_went (Create h f es) g =
        subst (Agree u.owners) (sym g.threads)
        (agree_born u.owners (fin.insert s.threads n g.after) (child n (g.before.local.children + 1)) _
        (get_put_apart s.threads n g.after _ (child_apart n _) ∙ child_is_new ops code s n g.before r g.there)
        (λ m. index_or-replicate code.mutexes m false) (agree_put (Create h f es) g))
    agree_went i g = subst (Agree u.owners) (sym g.threads) (agree_put i g)

    -- owners and threads agree after a move that leaves its thread at its place
    agree_stayed : Stays ops code s u n → Agree u.owners u.threads
    agree_stayed g =
        subst (Agree u.owners) (sym g.threads) (subst (λ owners. Agree owners (fin.insert s.threads n g.after)) (sym g.owners)
        (agree_goes s.owners s.threads n g.before g.after Keeps g.there (ap (λ t. t.held) g.local) tt agree))

  -- each move from a reached state keeps that
  agreed_after_step : IsLawful code → (s u : State B) (m : Move) → IsReached ops code s → step ops code s m ≡ Some u → Agree s.owners s.threads
      → Agree u.owners u.threads
  agreed_after_step lawful s u m r one agree =
      elim (step_changes ops code s u m one) [
        | Went_on n i g ↦ agree_went s u n lawful r agree i g
        | Stayed n g ↦ agree_stayed s u n lawful r agree g
      ]

  -- owners and threads agree at the start
  opening_agrees : Agree (opening ops code).owners (opening ops code).threads
  opening_agrees =
      agree_born (opening ops code).owners fin.empty main _ (fin.get-empty by_name main) (λ m. index_or-replicate code.mutexes m false)
      (record {
        holder = λ n t m there. absurd (none-some t (sym (fin.get-empty by_name n) ∙ there));
        there = λ n m o. absurd (none-some n (sym (index_or-replicate code.mutexes m None) ∙ o));
      })

  -- in each reached state of lawful code a thread holds a mutex exactly if it owns it, and each
  -- owner is a thread
  pub owners_hold : (s : State B) → IsLawful code → IsReached ops code s → OwnersHold s
  owners_hold s lawful r =
      let agree = holds_in_reached ops code (λ u. Agree u.owners u.threads) opening_agrees (agreed_after_step lawful) s r in
      record { holder = agree.holder; there = agree.there }
