-- The history determines a thread's buffer: the stores that it issued and hasn't drained.
use Rattle.std.proofs.Common.{◌≡◌, ◌≢◌, ◌∙◌, inl, inr, ℕ, ◌+◌, ◌<◌, ◌≤◌, ◌==◌, ℤ, pos, Bool, true, false, not, ◌||◌, ◌&&◌, cond, IsTrue}
use Rattle.std.proofs.Common.{List, [], ◌∷◌, ◌++◌, Option, Some, None, refl, sym, ap, ap₂, subst, arith, append-nil, if◌then◌else◌}
use Rattle.std.specs.List.{filter, filter_map, cons_option}
use Rattle.std.specs.FinMap as fin
use Rattle.std.proofs.lemmas.Bool.{false≢true, cases_Bool, and_parts, or_cases, eqb-true, false_from_ne_true}
use Rattle.std.proofs.Math.Bool.{or-false}
use Rattle.std.proofs.lemmas.List.{map-append}
use Rattle.std.proofs.lemmas.List.Elements.{filter-append, filter_agree, All-nil, All-push, All-filter}
use Rattle.std.proofs.lemmas.List.Folds.{list_any-append}
use Rattle.std.proofs.lemmas.Option.{none-some, same_Some}
use Rattle.store_buffers.specs.tc_base.Names.{Name, main, by_name}
use Rattle.store_buffers.specs.tc_base.Buffers.{BufferOps, Entry}
use Rattle.store_buffers.specs.tc_base.States.{Thread, State}
use Rattle.store_buffers.specs.memory_models.declared.model.Model.{Model}
use Rattle.store_buffers.specs.tc_base.declared.request.Request.{Request}
use Rattle.store_buffers.specs.tc_base.declared.request.Request.TheVariants.{Silent, Write, Bar, WakeOne}
use Rattle.run_laws.specs.tc_code.declared.instr.Instr.{Instr}
use Rattle.run_laws.specs.tc_code.declared.instr.Instr.TheVariants.{Signal}
use Rattle.run_laws.specs.tc_code.Code.{Code}
use Rattle.run_laws.specs.tc_code.Step.{perform, born, state_after_wake, opening}
use Rattle.run_laws.specs.tc_code.Step as machine
use Rattle.run_laws.specs.tc_code.Run.{IsReached}
use Rattle.run_laws.proofs.Names.{same_self, same_other, is_same, same_or_apart, get_put_cases}
use Rattle.store_buffers.specs.Pending.{Pending, Store, Bar as barred, Binding, waits, Stands}
use Rattle.store_buffers.specs.Laws.{Laws, TakesOut}
use Rattle.store_buffers.specs.helpers.Lists.{store_last, bar_last}
use Rattle.run_history.specs.History.{Deed, Did, Drained, Issue, same, issue_of, drains, has_drained, pending_issues, pending, oldest_to}
use Rattle.run_history.specs.History.{drained, value_taken, created_by}
use Rattle.run_history.specs.Told.{is_step_of, steps_in}
use Rattle.run_history.proofs.of_pending.Issues.{AllBelow, Rises, below_more, none_below_zero, rises_push, rises_filter}
use Rattle.run_history.proofs.of_pending.Issues.{filter-twice, isnt, taken_out, whats, SplitAt, split_at, oldest_is}
use Rattle.run_history.proofs.of_pending.In.{In, all_in, in_at}
use Rattle.run_history.proofs.Lists.{filter_map-push, count-push}
use Rattle.run_history.proofs.Threads.{own, buffer_by, with_born, Found, Its_own, Its_child, Another, find, performed_threads}
use Rattle.run_history.proofs.Threads.{ThreadsAre, number_is, none_done, threads_by, threads_flushed, makes_what, opening_threads}
use Rattle.run_history.proofs.Frame.{Keeps}

-- a step drains nothing
drained-did : (h : List Deed) (n q : Name) (k j : ℕ) (r : Request) (v : ℤ) (o : Option Name)
    → has_drained (h ++ Did n k r v o ∷ []) q j ≡ has_drained h q j
drained-did h n q k j r v o = list_any-append (drains q j) h (Did n k r v o ∷ []) ∙ or-false _

drained-drained : (h : List Deed) (n q : Name) (k j c : ℕ) (v : ℤ)
    → has_drained (h ++ Drained n k c v ∷ []) q j ≡ has_drained h q j || (same q n && j == k)
drained-drained h n q k j c v = list_any-append (drains q j) h (Drained n k c v ∷ []) ∙ ap (λ b. has_drained h q j || b) (or-false _)

module _ (buffered : Bool) where
  abbrev undrained : List Deed → Name → Issue → Bool
  undrained h q i = not (has_drained h q i.number)

  -- a step adds what it issues to what is pending
  pending-did : (h : List Deed) (n q : Name) (k : ℕ) (r : Request) (v : ℤ) (o : Option Name)
      → pending_issues buffered (h ++ Did n k r v o ∷ []) q
      ≡ pending_issues buffered h q ++ filter (undrained h q) (cons_option (issue_of buffered q (Did n k r v o)) [])
  pending-did h n q k r v o =
      filter_agree (undrained (h ++ Did n k r v o ∷ []) q) (undrained h q) (λ i. ap not (drained-did h n q k i.number r v o)) _
      ∙ ap (filter (undrained h q)) (filter_map-push (issue_of buffered q) h (Did n k r v o))
      ∙ filter-append (undrained h q) (filter_map (issue_of buffered q) h) _

  pending-no_issue : (h : List Deed) (n q : Name) (k : ℕ) (r : Request) (v : ℤ) (o : Option Name) → issue_of buffered q (Did n k r v o) ≡ None
      → pending_issues buffered (h ++ Did n k r v o ∷ []) q ≡ pending_issues buffered h q
  pending-no_issue h n q k r v o none =
      pending-did h n q k r v o ∙ ap (λ x. pending_issues buffered h q ++ filter (undrained h q) (cons_option x [])) none ∙ append-nil _

  pending-issue : (h : List Deed) (n q : Name) (k : ℕ) (r : Request) (v : ℤ) (o : Option Name) (i : Issue)
      → issue_of buffered q (Did n k r v o) ≡ Some i → has_drained h q i.number ≡ false
      → pending_issues buffered (h ++ Did n k r v o ∷ []) q ≡ pending_issues buffered h q ++ i ∷ []
  pending-issue h n q k r v o i some fresh =
      pending-did h n q k r v o ∙ ap (λ x. pending_issues buffered h q ++ filter (undrained h q) (cons_option x [])) some
      ∙ ap (λ b. pending_issues buffered h q ++ cond (not b) (i ∷ []) []) fresh

  never : {A : Type 0} (b : Bool) (x : A) → (if b && false then Some x else None) ≡ None
  never true x = refl
  never false x = refl

  -- a step of another thread adds nothing to what this thread issued
  issue-other : (n q : Name) (k : ℕ) (r : Request) (v : ℤ) (o : Option Name) → q ≢ n → issue_of buffered q (Did n k r v o) ≡ None
  issue-other n q k (Write c w) v o other =
      let i : Issue = record { number = k; what = Store (record { cell = c; value = w }) } in
      ap (λ b. if buffered && b then Some i else None) (same_other q n other) ∙ never buffered i
  issue-other n q k Bar v o other =
      let i : Issue = record { number = k; what = barred } in ap (λ b. if b then Some i else None) (same_other q n other)
  issue-other n q k Silent v o other = refl
  issue-other n q k r v o other = refl

  -- a drain removes its store from what is pending
  pending-drained : (h : List Deed) (n q : Name) (k c : ℕ) (v : ℤ) → q ≡ n
      → pending_issues buffered (h ++ Drained n k c v ∷ []) q ≡ filter (isnt k) (pending_issues buffered h q)
  pending-drained h n q k c v e =
      ap (filter (undrained (h ++ Drained n k c v ∷ []) q)) (filter_map-push (issue_of buffered q) h (Drained n k c v) ∙ append-nil _)
      ∙ filter-twice (undrained h q) (isnt k) (undrained (h ++ Drained n k c v ∷ []) q) _ (λ i.
      ap not (drained-drained h n q k i.number c v ∙ ap (λ b. has_drained h q i.number || (b && i.number == k)) (same_self q n e))
      ∙ neither (has_drained h q i.number) (i.number == k))
    where
      neither : (a b : Bool) → not (a || b) ≡ not a && not b
      neither true b = refl
      neither false b = refl

  pending-drained_other : (h : List Deed) (n q : Name) (k c : ℕ) (v : ℤ) → q ≢ n
      → pending_issues buffered (h ++ Drained n k c v ∷ []) q ≡ pending_issues buffered h q
  pending-drained_other h n q k c v other =
      ap (filter (undrained (h ++ Drained n k c v ∷ []) q)) (filter_map-push (issue_of buffered q) h (Drained n k c v) ∙ append-nil _)
      ∙ filter_agree (undrained (h ++ Drained n k c v ∷ []) q) (undrained h q)
      (λ i. ap not (drained-drained h n q k i.number c v ∙ ap (λ b. has_drained h q i.number || (b && i.number == k)) (same_other q n other) ∙ or-false _)) _

-- the numbers of pending issues rise, and they and the drained ones are below the thread's count
pub record NumbersAre (buffered : Bool) (h : List Deed) (q : Name) : Type 0 where
  pub rises : Rises (pending_issues buffered h q)
  pub below : AllBelow (steps_in h q) (pending_issues buffered h q)
  pub drained : (k : ℕ) → has_drained h q k ≡ true → k < steps_in h q

numbers_stay : (buffered : Bool) (h g : List Deed) (q : Name) → pending_issues buffered g q ≡ pending_issues buffered h q → steps_in h q ≤ steps_in g q
    → ((k : ℕ) → has_drained g q k ≡ has_drained h q k) → NumbersAre buffered h q → NumbersAre buffered g q
numbers_stay buffered h g q is more drained a = record {
  rises = subst Rises (sym is) a.rises;
  below = subst (AllBelow (steps_in g q)) (sym is) (below_more (steps_in h q) (steps_in g q) (pending_issues buffered h q) more a.below);
  drained = λ k e. let l = a.drained k (sym (drained k) ∙ e) in omega (arith, l, more);
}

module _ {B : Type 0} (ops : BufferOps B) (model : Model) (bound : Binding) (laws : Laws ops model bound) (code : Code) where
  -- the history determines the buffer of each thread
  pub record BuffersAre (s : State B) (h : List Deed) : Type 0 where
    pub threads : ThreadsAre ops code s h
    pub stands : (q : Name) (t : Thread B) → fin.get s.threads q ≡ Some t → Stands ops t.buffer (pending ops.buffered h q)
    pub numbers : (q : Name) → NumbersAre ops.buffered h q

  -- what a step of a thread issues, and the buffer after it
  data Issues (b : B) (ps : List Pending) (r : Request) (k : ℕ) (o : Option Issue) : Type 0 where
    Nothing : o ≡ None → buffer_by ops code b r ≡ b → Issues b ps r k o
    Something : (p : Pending) → o ≡ Some (record { number = k; what = p }) → Stands ops (buffer_by ops code b r) (ps ++ p ∷ []) → Issues b ps r k o

  issues : (b : B) (ps : List Pending) (r : Request) (n : Name) (k : ℕ) (v : ℤ) (o : Option Name) → Stands ops b ps
      → Issues b ps r k (issue_of ops.buffered n (Did n k r v o))
  issues b ps (Write c w) n k v o st =
      let i : Issue = record { number = k; what = Store (record { cell = c; value = w }) } in
      elim (cases_Bool ops.buffered) [
        | inl has ↦ Something (Store (record { cell = c; value = w }))
            (ap₂ (λ x y. if x && y then Some i else None) has (same_self n n refl))
            (subst (λ x. Stands ops (if x then ops.issue b c w else b) (ps ++ Store (record { cell = c; value = w }) ∷ [])) (sym has)
            (store_last ops b ps c w has st))
        | inr none ↦ Nothing (ap (λ x. if x && same n n then Some i else None) none) (ap (λ x. if x then ops.issue b c w else b) none)
      ]
  issues b ps Bar n k v o st =
      Something barred (ap (λ x. if x then Some (record { number = k; what = barred }) else None) (same_self n n refl)) (bar_last ops b ps st)
  issues b ps Silent n k v o st = Nothing refl refl
  issues b ps r n k v o st = Nothing refl refl

  module _ (s u : State B) (h : List Deed) (n : Name) (t : Thread B) (i : Instr) (r : Request) (v : ℤ) (o : Option Name) (reached : IsReached ops code s)
      (here : fin.get s.threads n ≡ Some t) (is : u.threads ≡ with_born ops code n t i r (fin.insert s.threads n (own ops code s t i r))) (a : BuffersAre s h)
    where
      abbrev deed : Deed
      deed = Did n t.local.steps r v o

      abbrev new : List Deed
      new = h ++ deed ∷ []

      its_steps : t.local.steps ≡ steps_in h n
      its_steps = number_is ops code s h n a.threads t here

      more_steps : (q : Name) → steps_in h q ≤ steps_in new q
      more_steps q = let e = count-push (is_step_of q) h deed in omega (arith, e)

      one_more_step : steps_in new n ≡ steps_in h n + 1
      one_more_step = count-push (is_step_of n) h deed ∙ ap (λ b. steps_in h n + cond b 1 0) (same_self n n refl)

      not_drained : has_drained h n t.local.steps ≡ false
      not_drained = false_from_ne_true _ (λ drained. let less = (a.numbers n).drained t.local.steps drained in omega (arith, less, its_steps))

      same_drains : (q : Name) (k : ℕ) → has_drained new q k ≡ has_drained h q k
      same_drains q k = drained-did h n q t.local.steps k r v o

      numbers_other : (q : Name) → q ≢ n → NumbersAre ops.buffered new q
      numbers_other q other =
          numbers_stay ops.buffered h new q
          (pending-no_issue ops.buffered h n q t.local.steps r v o (issue-other ops.buffered n q t.local.steps r v o other)) (more_steps q) (same_drains q)
          (a.numbers q)

      pending_other : (q : Name) → q ≢ n → pending ops.buffered new q ≡ pending ops.buffered h q
      pending_other q other =
          ap whats (pending-no_issue ops.buffered h n q t.local.steps r v o (issue-other ops.buffered n q t.local.steps r v o other))

      record Own : Type 0 where
        stands : Stands ops (buffer_by ops code t.buffer r) (pending ops.buffered new n)
        numbers : NumbersAre ops.buffered new n

      own_by : Issues t.buffer (pending ops.buffered h n) r t.local.steps (issue_of ops.buffered n deed) → Own
      own_by (Nothing none as_was) =
          let e = pending-no_issue ops.buffered h n n t.local.steps r v o none in
          record {
            stands = subst (λ b. Stands ops b (pending ops.buffered new n)) (sym as_was) (subst (Stands ops t.buffer) (sym (ap whats e)) (a.stands n t here));
            numbers = numbers_stay ops.buffered h new n e (more_steps n) (same_drains n) (a.numbers n);
          }
      own_by (Something p some st) =
          let x : Issue = record { number = t.local.steps; what = p } in
          let e = pending-issue ops.buffered h n n t.local.steps r v o x some not_drained in
          let ns = a.numbers n in
          let below = subst (λ k. AllBelow k (pending_issues ops.buffered h n)) (sym its_steps) ns.below in
          record {
            stands =
                subst (Stands ops (buffer_by ops code t.buffer r)) (sym (ap whats e ∙ map-append (λ (i : Issue). i.what) (pending_issues ops.buffered h n) (x
                ∷ []))) st;
            numbers = record {
              rises = subst Rises (sym e) (rises_push (pending_issues ops.buffered h n) x ns.rises below);
              below = subst (AllBelow (steps_in new n)) (sym e)
                  (All-push (λ j. j.number < steps_in new n) (pending_issues ops.buffered h n) x
                  (below_more (steps_in h n) (steps_in new n) (pending_issues ops.buffered h n) (more_steps n) ns.below)
                  (omega (arith, one_more_step, its_steps)));
              drained = λ k d. let l = ns.drained k (sym (same_drains n k) ∙ d) in omega (arith, l, one_more_step);
            };
          }

      its_own : Own
      its_own = own_by (issues t.buffer (pending ops.buffered h n) r n t.local.steps v o (a.stands n t here))

      -- a new thread has nothing pending
      none_pending : (q : Name) → fin.get s.threads q ≡ None → pending ops.buffered h q ≡ []
      none_pending q none =
          ap whats (none_below_zero (pending_issues ops.buffered h q)
          (subst (λ k. AllBelow k (pending_issues ops.buffered h q)) (sym (none_done ops code s h q a.threads none)) (a.numbers q).below))

      empty_stands : Stands ops ops.empty []
      empty_stands = record { made = refl; issued = λ _. refl }

      stands_after : (q : Name) (x : Thread B) → Found ops code s u n t i r q → fin.get u.threads q ≡ Some x → Stands ops x.buffer (pending ops.buffered new q)
      stands_after q x (Its_own e there) found =
          subst (λ m. Stands ops x.buffer (pending ops.buffered new m)) (sym e)
          (subst (λ (y : Thread B). Stands ops y.buffer (pending ops.buffered new n)) (same_Some _ x (sym there ∙ found)) its_own.stands)
      stands_after q x (Its_child f vs other there fresh made) found =
          subst (λ (y : Thread B). Stands ops y.buffer (pending ops.buffered new q)) (same_Some (born ops code f vs) x (sym there ∙ found))
          (subst (Stands ops ops.empty) (sym (pending_other q other ∙ none_pending q fresh)) empty_stands)
      stands_after q x (Another other there none) found =
          subst (Stands ops x.buffer) (sym (pending_other q other)) (a.stands q x (sym there ∙ found))

      numbers_after : (q : Name) → NumbersAre ops.buffered new q
      numbers_after q =
          elim (same_or_apart q n) [ inl e ↦ subst (NumbersAre ops.buffered new) (sym e) its_own.numbers | inr other ↦ numbers_other q other ]

      buffers_by : ThreadsAre ops code u new → BuffersAre u new
      buffers_by threads = record {
        threads = threads;
        stands = λ q x found. stands_after q x (find ops code s u n t i r reached here is q) found;
        numbers = numbers_after;
      }

  -- a drain removes the store that the model's drain takes
  module _ (s u : State B) (h : List Deed) (n : Name) (t : Thread B) (form : Option ℕ) (here : fin.get s.threads n ≡ Some t)
      (is : u.threads ≡ fin.insert s.threads n (record t { buffer = (ops.drain t.buffer form).rest })) (older : List Pending) (e : Entry) (newer : List Pending)
      (free : waits bound older e.cell ≡ false) (out : TakesOut ops t.buffer form older e newer) (a : BuffersAre s h)
      (split : SplitAt (pending_issues ops.buffered h n) older (Store e) newer) where
    oldest_number : oldest_to e.cell (pending_issues ops.buffered h n) ≡ split.at.number
    oldest_number =
        ap (oldest_to e.cell) split.there
        ∙ oldest_is bound laws.same_cell split.older split.at split.newer e split.what (subst (λ ps. waits bound ps e.cell ≡ false) (sym split.olders) free)

    abbrev k : ℕ
    k = split.at.number

    abbrev left : List Deed
    left = h ++ Drained n k e.cell e.value ∷ []

    issues_left : pending_issues ops.buffered left n ≡ split.older ++ split.newer
    issues_left =
        pending-drained ops.buffered h n n k e.cell e.value refl ∙ ap (filter (isnt k)) split.there
        ∙ taken_out split.older split.at split.newer (subst Rises split.there (a.numbers n).rises)

    pending_left : pending ops.buffered left n ≡ older ++ newer
    pending_left =
        ap whats issues_left ∙ map-append (λ (i : Issue). i.what) split.older split.newer ∙ ap₂ (λ ps qs. ps ++ qs) split.olders split.newers

    same_steps : (q : Name) → steps_in left q ≡ steps_in h q
    same_steps q = count-push (is_step_of q) h (Drained n k e.cell e.value) ∙ omega arith

    k_below : k < steps_in h n
    k_below =
        all_in (λ i. i.number < steps_in h n) (pending_issues ops.buffered h n) split.at (a.numbers n).below
        (subst (In split.at) (sym split.there) (in_at split.older split.at split.newer))

    drained_below : (q : Name) (j : ℕ) → has_drained left q j ≡ true → j < steps_in left q
    drained_below q j e' =
        subst (λ m. j < m) (sym (same_steps q))
        (elim (or_cases (has_drained h q j) (same q n && j == k) (sym (drained-drained h n q k j e.cell e.value) ∙ e')) [
          | inl before ↦ (a.numbers q).drained j before
          | inr now ↦
              let both = and_parts (same q n) (j == k) now in
              subst (λ m. j < steps_in h m) (sym (is_same q n both.0)) (subst (λ m. m < steps_in h n) (sym (eqb-true j k both.1)) k_below)
        ])

    numbers_left : (q : Name) → NumbersAre ops.buffered left q
    numbers_left q = record {
      rises =
          elim (same_or_apart q n) [
            | inl e' ↦ subst Rises (sym (pending-drained ops.buffered h n q k e.cell e.value e')) (rises_filter (isnt k) _ (a.numbers q).rises)
            | inr other ↦ subst Rises (sym (pending-drained_other ops.buffered h n q k e.cell e.value other)) (a.numbers q).rises
          ];
      below =
          subst (λ m. AllBelow m (pending_issues ops.buffered left q)) (sym (same_steps q))
          (elim (same_or_apart q n) [
            | inl e' ↦
                subst (AllBelow (steps_in h q)) (sym (pending-drained ops.buffered h n q k e.cell e.value e'))
                (All-filter (isnt k) (λ i. i.number < steps_in h q) _ (a.numbers q).below)
            | inr other ↦ subst (AllBelow (steps_in h q)) (sym (pending-drained_other ops.buffered h n q k e.cell e.value other)) (a.numbers q).below
          ]);
      drained = drained_below q;
    }

    stands_left : (q : Name) (x : Thread B) → fin.get u.threads q ≡ Some x → Stands ops x.buffer (pending ops.buffered left q)
    stands_left q x found =
        elim (get_put_cases s.threads n _ q x (ap (λ ts. fin.get ts q) (sym is) ∙ found)) [
          | inl own ↦
              subst (λ m. Stands ops x.buffer (pending ops.buffered left m)) (sym own.0)
              (subst (λ (y : Thread B). Stands ops y.buffer (pending ops.buffered left n)) own.1 (subst (Stands ops _) (sym pending_left) out.leaves))
          | inr other ↦
              subst (Stands ops x.buffer) (sym (ap whats (pending-drained_other ops.buffered h n q k e.cell e.value other.0))) (a.stands q x other.1)
        ]

    buffers_left : ThreadsAre ops code u left → BuffersAre u left
    buffers_left threads = record { threads = threads; stands = stands_left; numbers = numbers_left }

    -- the deed is the drain of that store
    pub deed_is : drained ops code h n (ops.drain t.buffer form).entry ≡ Drained n k e.cell e.value
    deed_is = ap (drained ops code h n) out.takes ∙ ap (λ j. Drained n j e.cell e.value) oldest_number

    buffers_flushed : BuffersAre u (h ++ drained ops code h n (ops.drain t.buffer form).entry ∷ [])
    buffers_flushed =
        subst (λ d. BuffersAre u (h ++ d ∷ [])) (sym deed_is)
        (buffers_left (threads_flushed ops code s u h n t (ops.drain t.buffer form).rest k e.cell e.value here is a.threads))

  drain_keeps : (s : State B) (h : List Deed) (n : Name) (t : Thread B) (form : Option ℕ) → fin.get s.threads n ≡ Some t
      → IsTrue (ops.may_drain t.buffer form) → BuffersAre s h
      → BuffersAre (machine.state_after_drain ops s n t form) (h ++ drained ops code h n (ops.drain t.buffer form).entry ∷ [])
  drain_keeps s h n t form here may a =
      let ps = pending ops.buffered h n in
      let some = laws.may_drain_stands t.buffer ps form (a.stands n t here) may in
      let out = laws.drain_stands t.buffer ps form some.older some.store some.newer (a.stands n t here) some.drains in
      buffers_flushed s (machine.state_after_drain ops s n t form) h n t form here refl some.older some.store some.newer some.drains.is_free out a
      (split_at (pending_issues ops.buffered h n) some.older (Store some.store) some.newer some.drains.there)

  pub keeps_buffers : Keeps ops code BuffersAre
  keeps_buffers = record {
    ran = λ s h n t i r reached _ here _ asks _ a.
        let u = perform ops code s n t i r in
        let v = value_taken ops code s t r in
        let o = created_by ops code n t.local r in
        let is = performed_threads ops code s n t i r in
        buffers_by s u h n t i r v o reached here is a
        (threads_by ops code s u h n t i r v o reached here asks is (makes_what ops code n t.local t.local.steps r v) a.threads);
    waked = λ s h n w t c reached _ here _ _ _ a.
        let u = state_after_wake ops s n w t c in
        buffers_by s u h n t (Signal c) (WakeOne c) (pos 0) (Some w) reached here refl a
        (threads_by ops code s u h n t (Signal c) (WakeOne c) (pos 0) (Some w) reached here refl refl refl a.threads);
    flushed = λ s h n t form _ _ here may a. drain_keeps s h n t form here may a;
  }

  pub opening_buffers : BuffersAre (opening ops code) []
  opening_buffers = record {
    threads = opening_threads ops code;
    stands = λ q x found.
        elim (get_put_cases fin.empty main _ q x found) [
          | inl own ↦ subst (λ (y : Thread B). Stands ops y.buffer []) own.1 (record { made = refl; issued = λ _. refl })
          | inr other ↦ absurd (none-some x (sym (fin.get-empty by_name q) ∙ other.1))
        ];
    numbers = λ q. record { rises = tt; below = All-nil (λ (i : Issue). i.number < 0); drained = λ k e. absurd (false≢true e) };
  }
