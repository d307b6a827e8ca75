-- A thread has at most as many signals and drains as events: each drain is of a store of its own.
use Rattle.std.proofs.Common.{◌≡◌, ◌≢◌, ◌∙◌, inl, inr, ℕ, ◌+◌, ◌≤◌, ℤ, Bool, true, false, ◌&&◌, ◌||◌, List, [], ◌∷◌, ◌++◌, length}
use Rattle.std.proofs.Common.{Option, Some, None, refl, sym, ap, ap₂, subst, arith, append-nil, append_assoc}
use Rattle.std.specs.Prelude.{is_some, if◌then◌else◌}
use Rattle.std.specs.List.{count_by, filter_map}
use Rattle.std.proofs.Math.Bool.{or-true}
use Rattle.std.proofs.lemmas.Bool.{false≢true, and_parts, eq-eqb}
use Rattle.std.proofs.lemmas.List.Folds.{list_any-append}
use Rattle.path_log.specs.tc_base.Names.{Name}
use Rattle.path_log.specs.tc_base.declared.request.Request.{Request}
use Rattle.path_log.specs.tc_base.declared.request.Request.TheVariants.{Silent, Write, WakeOne}
use Rattle.path_laws.specs.tc_code.Code.{Code}
use Rattle.path_laws.specs.store_buffers.Pending.{Binding}
use Rattle.path_laws.proofs.run_laws.Names.{same_self, same_other, same_or_apart}
use Rattle.path_laws.specs.run_history.History.{Deed, Did, Drained, same, drains, has_drained}
use Rattle.path_laws.specs.run_history.pending.Deeds.{IsIssuedIn}
use Rattle.path_laws.proofs.run_history.Lists.{count-push}
use Rattle.path_laws.specs.run_follows.Follow.{AllFollow}
use Rattle.path_laws.specs.Deeds.{event_by}
use Rattle.schedule_length.proofs.Counts.{tally, one_passes, count-more, count-one_more, count-given}

-- a value under a test that passes exists
passed : {Y : Type 0} (b : Bool) (y : Y) → b ≡ true → is_some (if b then Some y else None) ≡ true
passed true y is = refl
passed false y is = absurd (false≢true is)

module _ (n : Name) where
  -- a signal or a drain of the thread
  abbrev pub is_long_of : Deed → Bool
  is_long_of (Did q k (WakeOne c) took other) = same n q
  is_long_of (Did q k r took other) = false
  is_long_of (Drained q k c v) = same n q

  -- a signal of the thread, or one of its stores that has drained
  abbrev is_met : List Deed → Deed → Bool
  is_met h (Did q k (WakeOne c) took other) = same n q
  is_met h (Did q k (Write c v) took other) = same n q && has_drained h n k
  is_met h (Did q k r took other) = false
  is_met h (Drained q k c v) = false

  -- signals and drained stores are events
  met_is_event : (h : List Deed) (d : Deed) → is_met h d ≡ true → is_some (event_by n d) ≡ true
  met_is_event h (Did q k (WakeOne c) took other) is = passed (same n q) _ is
  met_is_event h (Did q k (Write c v) took other) is = passed (same n q) _ (and_parts (same n q) (has_drained h n k) is).0
  met_is_event h (Did q k Silent took other) is = absurd (false≢true is)
  met_is_event h (Did q k r took other) is = absurd (false≢true is)
  met_is_event h (Drained q k c v) is = absurd (false≢true is)

  -- a store that has drained stays drained
  drained_more : (h : List Deed) (d : Deed) (k : ℕ) → has_drained h n k ≡ true → has_drained (h ++ d ∷ []) n k ≡ true
  drained_more h d k is = list_any-append (drains n k) h (d ∷ []) ∙ ap (λ b. b || (drains n k d || false)) is

  met_more : (h : List Deed) (d e : Deed) → is_met h e ≡ true → is_met (h ++ d ∷ []) e ≡ true
  met_more h d (Did q k (WakeOne c) took other) is = is
  met_more h d (Did q k (Write c v) took other) is =
      let both = and_parts (same n q) (has_drained h n k) is in ap₂ (λ x y. x && y) both.0 (drained_more h d k both.1)
  met_more h d (Did q k Silent took other) is = is
  met_more h d (Did q k r took other) is = is
  met_more h d (Drained q k c v) is = is

  -- there are at most as many signals and drains as signals and drained stores
  abbrev IsMet : List Deed → Type 0
  IsMet h = count_by is_long_of h ≤ count_by (is_met h) h

  -- a step that is a signal is counted on both sides
  step_met : (h : List Deed) (q : Name) (k : ℕ) (r : Request) (took : ℤ) (other : Option Name)
      → is_long_of (Did q k r took other) ≡ true → is_met h (Did q k r took other) ≡ true
  step_met h q k (WakeOne c) took other is = is
  step_met h q k Silent took other is = absurd (false≢true is)
  step_met h q k r took other is = absurd (false≢true is)

  after_step : (h : List Deed) (q : Name) (k : ℕ) (r : Request) (took : ℤ) (other : Option Name) → IsMet h → IsMet (h ++ Did q k r took other ∷ [])
  after_step h q k r took other met =
      let d = Did q k r took other in
      let all = count-push is_long_of h d in
      let now = count-push (is_met (h ++ d ∷ [])) h d in
      let more = count-more (is_met h) (is_met (h ++ d ∷ [])) h (met_more h d) in
      let one = one_passes (is_long_of d) (is_met (h ++ d ∷ []) d) (step_met (h ++ d ∷ []) q k r took other) in
      omega (arith, met, all, now, more, one)

  -- a drain of another thread
  after_other : (h : List Deed) (q : Name) (k c : ℕ) (v : ℤ) → n ≢ q → IsMet h → IsMet (h ++ Drained q k c v ∷ [])
  after_other h q k c v apart met =
      let d = Drained q k c v in
      let all = count-push is_long_of h d in
      let now = count-push (is_met (h ++ d ∷ [])) h d in
      let more = count-more (is_met h) (is_met (h ++ d ∷ [])) h (met_more h d) in
      let none = ap tally (same_other n q apart) in
      omega (arith, met, all, now, more, none)

  -- a drain of the thread: one more of its stores has drained
  after_own : (h : List Deed) (q : Name) (k c : ℕ) (v : ℤ) → n ≡ q → IsIssuedIn h n k c v → has_drained h n k ≡ false → IsMet h
      → IsMet (h ++ Drained q k c v ∷ [])
  after_own h q k c v own issued pending met =
      let d = Drained q k c v in
      let x = Did n k (Write c v) issued.took issued.other in
      let g = h ++ d ∷ [] in
      let was : is_met h x ≡ false = ap₂ (λ a b. a && b) (same_self n n refl) pending in
      let drained : has_drained g n k ≡ true =
      list_any-append (drains n k) h (d ∷ [])
      ∙ ap₂ (λ a b. has_drained h n k || (a && b || false)) (same_self n q own) (eq-eqb k k refl)
      ∙ or-true (has_drained h n k) in
      let is : is_met g x ≡ true = ap₂ (λ a b. a && b) (same_self n n refl) drained in
      let more : count_by (is_met h) h + 1 ≤ count_by (is_met g) h =
      subst (λ ds. count_by (is_met h) ds + 1 ≤ count_by (is_met g) ds) (sym issued.issued)
      (count-one_more (is_met h) (is_met g) issued.before x issued.after (met_more h d) was is) in
      let all = count-push is_long_of h d in
      let now = count-push (is_met g) h d in
      let one = ap tally (same_self n q own) in
      omega (arith, met, all, now, more, one)

  module _ (buffered : Bool) (bound : Binding) (code : Code) (h : List Deed) (follow : AllFollow buffered bound code h) where
    push : (g : List Deed) (d : Deed) (rest : List Deed) → h ≡ g ++ d ∷ rest → IsMet g → IsMet (g ++ d ∷ [])
    push g (Did q k r took other) rest is met = after_step g q k r took other met
    push g (Drained q k c v) rest is met =
        let may = (follow g rest (Drained q k c v) is).1 in
        elim (same_or_apart n q) [
          | inl own ↦
              after_own g q k c v own (subst (λ m. IsIssuedIn g m k c v) (sym own) may.next.issued)
              (ap (λ m. has_drained g m k) own ∙ may.next.pending) met
          | inr apart ↦ after_other g q k c v apart met
        ]

    along : (g rest : List Deed) → h ≡ g ++ rest → IsMet g → IsMet h
    along g [] is met = subst IsMet (sym (is ∙ append-nil g)) met
    along g (d ∷ rest) is met = along (g ++ d ∷ []) rest (is ∙ sym (append_assoc g (d ∷ []) rest)) (push g d rest is met)

    -- there are at most as many signals and drains as events
    pub long_are_events : count_by is_long_of h ≤ length (filter_map (event_by n) h)
    long_are_events =
        let met = along [] h refl (omega arith) in
        let events = count-given (is_met h) (event_by n) h (met_is_event h) in
        omega (arith, met, events)
