-- What blocks a thread that can't do its next request.
use Rattle.std.proofs.Common.{◌≡◌, ◌↔◌, ◌∙◌, inl, inr, ℕ, ◌+◌, ◌==◌, Bool, true, not, ◌&&◌, ◌||◌, IsSome, List, Option, Some, None}
use Rattle.std.proofs.Common.{refl, sym, ap, ap₂, subst}
use Rattle.std.specs.Prelude.{is_none}
use Rattle.std.specs.FinSet as set
use Rattle.std.proofs.Math.Bool.{or-true}
use Rattle.std.proofs.lemmas.Bool.{true≢false, cases_Bool, and_parts, and_from, false_from_ne_true}
use Rattle.std.proofs.lemmas.Option.{same_Some}
use Rattle.run_history.specs.tc_base.Names.{Name, child}
use Rattle.run_history.specs.list_laws.Lists.{is_nil}
use Rattle.run_history.specs.tc_base.declared.request.Request.{Request}
use Rattle.run_history.specs.tc_base.declared.request.Request.TheVariants.{Silent, Acquire, EndWait, WakeOne, Start, Await}
use Rattle.run_history.specs.tc_code.Code.{Code}
use Rattle.run_history.specs.tc_code.Step.{drains_first}
use Rattle.run_history.specs.store_buffers.Pending.{stores, Binding}
use Rattle.run_history.proofs.run_laws.Names.{some_in}
use Rattle.run_history.specs.History.{Deed, Did, pending}
use Rattle.run_history.specs.Locals.{asks_next}
use Rattle.run_history.specs.Told.{owner_in, waiting_in, children_in, steps_in, has_exited_in}
use Rattle.run_follows.specs.Follow.{is_let_in, is_allowed_in, taken_in, may_do_in, OtherIs, MayFollow}
use Rattle.run_follows.specs.blocked.Stuck.{HasDrained, NoStepFollows, IsBlockedIn}

owned : (o : Option Name) → (is_none o ≡ true → ⊥) → IsSome o
owned None free = absurd (free refl)
owned (Some n) free = refl

not_free : (o : Option Name) → IsSome o → is_none o ≡ true → ⊥
not_free None is none = true≢false (sym is)
not_free (Some n) is none = true≢false (sym none)

module _ (buffered : Bool) (bound : Binding) (code : Code) (h : List Deed) (n : Name) where
  -- the other thread of a step that wakes nobody
  abbrev other_of : Request → Option Name
  other_of (Start f) = Some (child n (children_in h n + 1))
  other_of r = None

  other_is : (r : Request) → OtherIs h n r (other_of r)
  other_is (Start f) = refl
  other_is (WakeOne c) = tt
  other_is Silent = refl
  other_is r = refl

  may_do_is : (r : Request) → may_do_in buffered h n r (other_of r) ≡ is_allowed_in buffered h n r
  may_do_is (WakeOne c) = refl
  may_do_is Silent = refl
  may_do_is r = refl

  module _ (drained : HasDrained buffered h n) where
    follows : (r : Request) (other : Option Name) → asks_next code h n ≡ Some r → may_do_in buffered h n r other ≡ true → OtherIs h n r other
        → MayFollow buffered bound code h (Did n (steps_in h n) r (taken_in buffered code h n r) other)
    follows r other asks may is = record { asks = asks; number = refl; may = may; takes = refl; other_is = is }

    -- a request that the other threads allow may be done
    let_follows : (r : Request) → asks_next code h n ≡ Some r → NoStepFollows buffered bound code h n → is_let_in h n r ≡ true → ⊥
    let_follows r asks none may =
        let allowed : is_allowed_in buffered h n r ≡ true =
        ap₂ (λ e l. (not (drains_first r) || e) && l) drained may ∙ ap (λ b. b && true) (or-true (not (drains_first r))) in
        none (steps_in h n) r (taken_in buffered code h n r) (other_of r) (follows r (other_of r) asks (may_do_is r ∙ allowed) (other_is r))

    -- a signal may wake a waiter, or no thread if none waits
    signal_follows : (c : ℕ) → asks_next code h n ≡ Some (WakeOne c) → NoStepFollows buffered bound code h n → ⊥
    signal_follows c asks none =
        elim (cases_Bool (set.len (waiting_in h c) == 0)) [
          | inl nobody ↦ let_follows (WakeOne c) asks none nobody
          | inr some ↦
              let u = some_in (waiting_in h c) some in
              none (steps_in h n) (WakeOne c) (taken_in buffered code h n (WakeOne c)) (Some u.0)
              (follows (WakeOne c) (Some u.0) asks (and_from (is_nil (stores (pending buffered h n))) (set.contains (waiting_in h c) u.0) drained u.1) tt)
        ]

    blocked_by : (r : Request) → asks_next code h n ≡ Some r → NoStepFollows buffered bound code h n → IsBlockedIn h n r
    blocked_by (Acquire m) asks none = owned (owner_in h m) (λ free. let_follows (Acquire m) asks none free)
    blocked_by (EndWait c m) asks none =
        elim (cases_Bool (set.contains (waiting_in h c) n)) [
          | inl asleep ↦ inl asleep
          | inr woken ↦ inr (owned (owner_in h m) (λ free.
              let_follows (EndWait c m) asks none (ap₂ (λ w f. not w && f) woken free)))
        ]
    blocked_by (Await k) asks none = false_from_ne_true (has_exited_in h (child n k)) (λ gone. let_follows (Await k) asks none gone)
    blocked_by (WakeOne c) asks none = absurd (signal_follows c asks none)
    blocked_by Silent asks none = absurd (let_follows Silent asks none refl)
    blocked_by r asks none = absurd (let_follows r asks none refl)

  -- a blocked request can't be done
  not_let : (r : Request) → IsBlockedIn h n r → is_let_in h n r ≡ true → ⊥
  not_let (Acquire m) owned free = not_free (owner_in h m) owned free
  not_let (EndWait c m) (inl asleep) may =
      let both = and_parts (not (set.contains (waiting_in h c) n)) (is_none (owner_in h m)) may in
      true≢false (sym both.0 ∙ ap not asleep)
  not_let (EndWait c m) (inr owned) may =
      let both = and_parts (not (set.contains (waiting_in h c) n)) (is_none (owner_in h m)) may in
      not_free (owner_in h m) owned both.1
  not_let (Await k) going gone = true≢false (sym gone ∙ going)
  not_let Silent blocked may = blocked
  not_let r blocked may = absurd blocked

  not_done : (r : Request) (other : Option Name) → IsBlockedIn h n r → may_do_in buffered h n r other ≡ true → ⊥
  not_done (WakeOne c) other blocked may = absurd blocked
  not_done Silent other blocked may = absurd blocked
  not_done r other blocked may = not_let r blocked (and_parts (not (drains_first r) || is_nil (stores (pending buffered h n))) (is_let_in h n r) may).1

  no_step_follows : (r : Request) → asks_next code h n ≡ Some r → IsBlockedIn h n r → NoStepFollows buffered bound code h n
  no_step_follows r asks blocked k q took other m =
      not_done q other (subst (IsBlockedIn h n) (same_Some r q (sym asks ∙ m.asks)) blocked) m.may

pub step_is_blocked : (buffered : Bool) (bound : Binding) (code : Code) (h : List Deed) (n : Name) (r : Request) → asks_next code h n ≡ Some r
    → HasDrained buffered h n → NoStepFollows buffered bound code h n ↔ IsBlockedIn h n r
step_is_blocked buffered bound code h n r asks drained =
    (blocked_by buffered bound code h n drained r asks, no_step_follows buffered bound code h n r asks)
