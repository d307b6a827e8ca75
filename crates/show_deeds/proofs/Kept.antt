-- Memory and the stores that wait after the deeds of a history are those of the state.
use Rattle.std.proofs.Common.{◌≡◌, ◌≢◌, ◌∙◌, inl, inr, ℕ, ◌==◌, ℤ, pos, Bool, true, false, not, ◌&&◌, ◌||◌, cond, List, [], ◌∷◌, ◌++◌}
use Rattle.std.proofs.Common.{Option, Some, None, refl, sym, ap, subst, arith, append-nil, slice_set, if◌then◌else◌}
use Rattle.std.specs.Prelude.{bytes_eq, IsSomeAnd}
use Rattle.std.specs.List.{filter, filter_map, cons_option}
use Rattle.std.specs.FinMap as fin
use Rattle.std.proofs.Math.Bool.{or-false}
use Rattle.std.proofs.lemmas.Bool.{false≢true, or_parts, eq-eqb, false_from_ne_true}
use Rattle.std.proofs.lemmas.List.Elements.{filter-append, filter_map-append}
use Rattle.std.proofs.lemmas.List.Folds.{list_any-append}
use Rattle.std.proofs.lemmas.List.Sums.{fold-append}
use Rattle.std.proofs.lemmas.Option.{none-some, same_Some}
use Rattle.std.proofs.lemmas.Slice.Eq.{bytes_eq-Decides}
use Rattle.tc_base.specs.Names.{Name}
use Rattle.tc_base.specs.Buffers.{BufferOps, Entry}
use Rattle.tc_base.specs.States.{Thread, State}
use Rattle.store_buffers.specs.memory_models.declared.model.Model.{Model}
use Rattle.tc_base.specs.declared.moves.Move.{Move}
use Rattle.tc_base.specs.declared.request.Request.{Request}
use Rattle.tc_base.specs.declared.request.Request.TheVariants.{Read, Write, Exchange, Bar, WakeOne}
use Rattle.tc_code.specs.declared.instr.Instr.{Instr}
use Rattle.tc_code.specs.Code.{Code}
use Rattle.tc_code.specs.Run.{run}
use Rattle.tc_code.specs.Step.{perform, state_after_wake, opening}
use Rattle.tc_code.specs.Step as machine
use Rattle.run_history.proofs.run_laws.Basics.{by_bool}
use Rattle.run_history.proofs.run_laws.Names.{same_self, is_same, same_or_apart, same_other}
use Rattle.store_buffers.specs.Pending.{Pending, Store, Bar as barred, Binding, waits, has_bar, form_of}
use Rattle.store_buffers.specs.Laws.{Laws}
use Rattle.run_history.specs.History.{Deed, Did, Drained, Issue, same, issue_of, drains, has_drained, pending_issues, pending}
use Rattle.run_history.specs.History.{did, woke, drained, value_taken, created_by, history}
use Rattle.run_history.specs.Told.{reaches}
use Rattle.run_history.proofs.Lists.{filter_map-push}
use Rattle.run_history.proofs.Threads.{number_is}
use Rattle.run_history.proofs.Frame.{Keeps, holds_after}
use Rattle.run_history.proofs.of_pending.Issues.{filter-twice, whats, split_at}
use Rattle.run_history.proofs.of_pending.Buffers.{BuffersAre, keeps_buffers, opening_buffers, deed_is}
use Rattle.show_deeds.specs.declared.deed.Stored.{Stored}
use Rattle.show_deeds.specs.Seen.{Seen, at_start, written, is_other, waiting_after, seen_after, seen_in, is_by, first_by, taken_by}

-- Names.

-- two names are equal as lists exactly if they are the same
bytes_by : (m n : Name) → bytes_eq m n ≡ same m n
bytes_by m n =
    elim (same_or_apart m n) [
      | inl e ↦ bytes_one m n e ∙ sym (same_self m n e)
      | inr e ↦ bytes_other m n e ∙ sym (same_other m n e)
    ]
  where
    bytes_one : (m n : Name) → m ≡ n → bytes_eq m n ≡ true
    bytes_one m n e = grind (arith, bytes_eq-Decides m n, e)

    bytes_other : (m n : Name) → m ≢ n → bytes_eq m n ≡ false
    bytes_other m n e = grind (arith, bytes_eq-Decides m n, e)

-- Lists.

filter_all : {X : Type 0} (xs : List X) → filter (λ (_ : X). true) xs ≡ xs
filter_all [] = refl
filter_all (x ∷ xs) = ap (λ ys. x ∷ ys) (filter_all xs)

swapped : (a b : Bool) → a && b ≡ b && a
swapped true true = refl
swapped true false = refl
swapped false true = refl
swapped false false = refl

filter-swap : {X : Type 0} (p q : X → Bool) (xs : List X) → filter q (filter p xs) ≡ filter p (filter q xs)
filter-swap p q xs =
    sym (filter-twice p q (λ x. p x && q x) xs (λ x. refl)) ∙ filter-twice q p (λ x. p x && q x) xs (λ x. swapped (p x) (q x))

-- The issues of a thread.

neither : (a b : Bool) → not (a || (b || false)) ≡ not a && not b
neither true b = refl
neither false true = refl
neither false false = refl

-- the pending stores after one more deed
pending-push : (buffered : Bool) (h : List Deed) (d : Deed) (q : Name) → pending_issues buffered (h ++ d ∷ []) q
    ≡ filter (λ i. not (drains q i.number d)) (pending_issues buffered h q)
    ++ filter (λ i. not (has_drained (h ++ d ∷ []) q i.number)) (cons_option (issue_of buffered q d) [])
pending-push buffered h d q =
    let now : Issue → Bool = λ i. not (has_drained (h ++ d ∷ []) q i.number) in
    ap (filter now) (filter_map-push (issue_of buffered q) h d)
    ∙ filter-append now (filter_map (issue_of buffered q) h) (cons_option (issue_of buffered q d) [])
    ∙ ap (λ is. is ++ filter now (cons_option (issue_of buffered q d) []))
    (filter-twice (λ i. not (has_drained h q i.number)) (λ i. not (drains q i.number d)) now (filter_map (issue_of buffered q) h)
    (λ i. ap not (list_any-append (drains q i.number) h (d ∷ [])) ∙ neither (has_drained h q i.number) (drains q i.number d)))

-- the store of an issue
abbrev stored_by : Name → ℕ → Pending → Option Stored
stored_by q k (Store e) = Some (record { thread = q; number = k; cell = e.cell; value = e.value })
stored_by q k barred = None

abbrev pub stored_of : Name → Issue → Option Stored
stored_of q i = stored_by q i.number i.what

abbrev pub stores_of : Name → List Issue → List Stored
stores_of q is = filter_map (stored_of q) is

abbrev pub is_of : Name → Stored → Bool
is_of q w = same q w.thread

-- the waiting stores of a thread are its pending issues
abbrev pub WaitsAs : Bool → List Deed → Name → List Stored → Type 0
WaitsAs buffered h q ws = filter (is_of q) ws ≡ stores_of q (pending_issues buffered h q)

-- a drain
remains_by : (q n : Name) (k : ℕ) (i : Issue) (p : Pending) (is : List Issue) (b : Bool) → same q n && i.number == k ≡ b
    → filter (is_other n k) (stores_of q is) ≡ stores_of q (filter (λ j. not (same q n && j.number == k)) is)
    → filter (is_other n k) (cons_option (stored_by q i.number p) (stores_of q is))
    ≡ filter_map (stored_of q) (cond (not b) (record { number = i.number; what = p } ∷ filter (λ j. not (same q n && j.number == k)) is)
    (filter (λ j. not (same q n && j.number == k)) is))
remains_by q n k i (Store e) is true test rest =
    ap (λ b. cond (not b) (record { thread = q; number = i.number; cell = e.cell; value = e.value } ∷ filter (is_other n k) (stores_of q is))
    (filter (is_other n k) (stores_of q is))) (ap (λ b. b && i.number == k) (bytes_by q n) ∙ test) ∙ rest
remains_by q n k i (Store e) is false test rest =
    ap (λ b. cond (not b) (record { thread = q; number = i.number; cell = e.cell; value = e.value } ∷ filter (is_other n k) (stores_of q is))
    (filter (is_other n k) (stores_of q is))) (ap (λ b. b && i.number == k) (bytes_by q n) ∙ test)
    ∙ ap (λ ws. record { thread = q; number = i.number; cell = e.cell; value = e.value } ∷ ws) rest
remains_by q n k i barred is true test rest = rest
remains_by q n k i barred is false test rest = rest

remains : (q n : Name) (k : ℕ) (is : List Issue)
    → filter (is_other n k) (stores_of q is) ≡ stores_of q (filter (λ i. not (same q n && i.number == k)) is)
remains q n k [] = refl
remains q n k (i ∷ is) =
    remains_by q n k i i.what is _ refl (remains q n k is)

waits-drained : (buffered : Bool) (h : List Deed) (q n : Name) (k c : ℕ) (v : ℤ) (ws : List Stored) → WaitsAs buffered h q ws
    → WaitsAs buffered (h ++ Drained n k c v ∷ []) q (filter (is_other n k) ws)
waits-drained buffered h q n k c v ws is =
    filter-swap (is_other n k) (is_of q) ws
    ∙ ap (filter (is_other n k)) is
    ∙ remains q n k (pending_issues buffered h q)
    ∙ ap (stores_of q) (sym (pending-push buffered h (Drained n k c v) q ∙ append-nil _))

-- a step that issues no store
waits-step : (buffered : Bool) (h : List Deed) (q n : Name) (k : ℕ) (r : Request) (v : ℤ) (o : Option Name) (ws : List Stored)
    → ((test : Issue → Bool) → stores_of q (filter test (cons_option (issue_of buffered q (Did n k r v o)) [])) ≡ []) → WaitsAs buffered h q ws
    → WaitsAs buffered (h ++ Did n k r v o ∷ []) q ws
waits-step buffered h q n k r v o ws none is =
    let now : Issue → Bool = λ i. not (has_drained (h ++ Did n k r v o ∷ []) q i.number) in
    let more = cons_option (issue_of buffered q (Did n k r v o)) [] in
    is
    ∙ sym (append-nil (stores_of q (pending_issues buffered h q)))
    ∙ ap (λ xs. stores_of q (pending_issues buffered h q) ++ xs) (sym (none now))
    ∙ ap (λ xs. stores_of q xs ++ stores_of q (filter now more)) (sym (filter_all (pending_issues buffered h q)))
    ∙ sym (filter_map-append (stored_of q) (filter (λ i. not (drains q i.number (Did n k r v o))) (pending_issues buffered h q)) (filter now more))
    ∙ ap (stores_of q) (sym (pending-push buffered h (Did n k r v o) q))

-- a bar isn't a store
bars_store_nothing : (q : Name) (k : ℕ) (b : Bool) (test : Issue → Bool)
    → stores_of q (filter test (cons_option (if b then Some (record { number = k; what = barred }) else None) [])) ≡ []
bars_store_nothing q k true test = by_bool (λ c. stores_of q (cond c (record { number = k; what = barred } ∷ []) []) ≡ []) (test (record {
  number = k;
  what = barred;
})) refl refl
bars_store_nothing q k false test = refl

-- a step that issues a store
waits-store : (h : List Deed) (q n : Name) (k c : ℕ) (w v : ℤ) (o : Option Name) (ws : List Stored) (b : Bool) → same q n ≡ b
    → has_drained h n k ≡ false → WaitsAs true h q ws
    → WaitsAs true (h ++ Did n k (Write c w) v o ∷ []) q (ws ++ record { thread = n; number = k; cell = c; value = w } ∷ [])
waits-store h q n k c w v o ws true own fresh is =
    let d : Deed = Did n k (Write c w) v o in
    let i : Issue = record { number = k; what = Store (record { cell = c; value = w }) } in
    let now : Issue → Bool = λ i. not (has_drained (h ++ d ∷ []) q i.number) in
    let one : q ≡ n = is_same q n own in
    let kept : now i ≡ true =
    ap not (list_any-append (drains q k) h (d ∷ []) ∙ or-false _ ∙ ap (λ m. has_drained h m k) one ∙ fresh) in
    filter-append (is_of q) ws (record { thread = n; number = k; cell = c; value = w } ∷ [])
    ∙ ap (λ b. filter (is_of q) ws ++ cond b (record { thread = n; number = k; cell = c; value = w } ∷ []) []) own
    ∙ ap (λ m. filter (is_of q) ws ++ record { thread = m; number = k; cell = c; value = w } ∷ []) (sym one)
    ∙ ap (λ xs. xs ++ record { thread = q; number = k; cell = c; value = w } ∷ []) is
    ∙ ap (λ xs. stores_of q xs ++ record { thread = q; number = k; cell = c; value = w } ∷ []) (sym (filter_all (pending_issues true h q)))
    ∙ sym (filter_map-append (stored_of q) (filter (λ j. not (drains q j.number d)) (pending_issues true h q)) (i ∷ []))
    ∙ ap (λ b. stores_of q (filter (λ j. not (drains q j.number d)) (pending_issues true h q) ++ cond b (i ∷ []) [])) (sym kept)
    ∙ ap (λ b. stores_of q (filter (λ j. not (drains q j.number d)) (pending_issues true h q) ++ filter now (cons_option (if b then Some i else None) [])))
    (sym own)
    ∙ ap (stores_of q) (sym (pending-push true h d q))
waits-store h q n k c w v o ws false other fresh is =
    let d : Deed = Did n k (Write c w) v o in
    let i : Issue = record { number = k; what = Store (record { cell = c; value = w }) } in
    filter-append (is_of q) ws (record { thread = n; number = k; cell = c; value = w } ∷ [])
    ∙ ap (λ b. filter (is_of q) ws ++ cond b (record { thread = n; number = k; cell = c; value = w } ∷ []) []) other
    ∙ append-nil _
    ∙ waits-step true h q n k (Write c w) v o ws (λ test. ap (λ b. stores_of q (filter test (cons_option (if b then Some i else None) []))) other) is

waits-write : (buffered : Bool) (h : List Deed) (q n : Name) (k c : ℕ) (w v : ℤ) (o : Option Name) (ws : List Stored)
    → has_drained h n k ≡ false → WaitsAs buffered h q ws
    → WaitsAs buffered (h ++ Did n k (Write c w) v o ∷ []) q (waiting_after buffered ws (Did n k (Write c w) v o))
waits-write true h q n k c w v o ws fresh is = waits-store h q n k c w v o ws _ refl fresh is
waits-write false h q n k c w v o ws fresh is = waits-step false h q n k (Write c w) v o ws (λ test. refl) is

-- each step
waits-did : (buffered : Bool) (h : List Deed) (q n : Name) (k : ℕ) (r : Request) (v : ℤ) (o : Option Name) (ws : List Stored)
    → has_drained h n k ≡ false → WaitsAs buffered h q ws
    → WaitsAs buffered (h ++ Did n k r v o ∷ []) q (waiting_after buffered ws (Did n k r v o))
waits-did buffered h q n k (Write c w) v o ws fresh is = waits-write buffered h q n k c w v o ws fresh is
waits-did buffered h q n k Bar v o ws fresh is = waits-step buffered h q n k Bar v o ws (bars_store_nothing q k (same q n)) is
waits-did buffered h q n k (Read c) v o ws fresh is = waits-step buffered h q n k (Read c) v o ws (λ test. refl) is
waits-did buffered h q n k r v o ws fresh is = waits-step buffered h q n k r v o ws (λ test. refl) is

-- States.

module _ {B : Type 0} (ops : BufferOps B) (model : Model) (bound : Binding) (laws : Laws ops model bound) (code : Code) where
  -- the facts of a state that deeds determine
  pub record SeenIs (s : State B) (h : List Deed) : Type 0 where
    pub memory : (seen_in ops.buffered code h).memory ≡ s.memory
    pub buffers : BuffersAre ops model bound laws code s h
    pub waits : (q : Name) → WaitsAs ops.buffered h q (seen_in ops.buffered code h).waiting

  seen-push : (h : List Deed) (d : Deed) → seen_in ops.buffered code (h ++ d ∷ []) ≡ seen_after ops.buffered (seen_in ops.buffered code h) d
  seen-push h d = fold-append (seen_after ops.buffered) (at_start code) h (d ∷ [])

  -- the state after a store, given whether there are buffers
  performed_memory : (s : State B) (n : Name) (t : Thread B) (i : Instr) (r : Request)
      → written s.memory (reaches ops.buffered (did ops code s n t r)) ≡ (perform ops code s n t i r).memory
  performed_memory s n t i (Write c v) =
      by_bool (λ b. written s.memory (if b then None else Some (record { cell = c; value = v }))
      ≡ (if b
      then machine.with_thread s n (record { local = machine.local_after t.local i (pos 0); buffer = ops.issue t.buffer c v })
      else record (machine.state_after_step ops s n t i) { memory = slice_set s.memory c v }).memory) ops.buffered refl refl
  performed_memory s n t i (Read c) = refl
  performed_memory s n t i r = refl

  seen_by : (s u : State B) (h : List Deed) (d : Deed) → SeenIs s h → written s.memory (reaches ops.buffered d) ≡ u.memory
      → BuffersAre ops model bound laws code u (h ++ d ∷ [])
      → ((q : Name) → WaitsAs ops.buffered (h ++ d ∷ []) q (waiting_after ops.buffered (seen_in ops.buffered code h).waiting d))
      → SeenIs u (h ++ d ∷ [])
  seen_by s u h d p memory buffers waits = record {
    memory = ap (λ (x : Seen). x.memory) (seen-push h d) ∙ ap (λ m. written m (reaches ops.buffered d)) p.memory ∙ memory;
    buffers = buffers;
    waits = λ q. subst (λ (x : Seen). WaitsAs ops.buffered (h ++ d ∷ []) q x.waiting) (sym (seen-push h d)) (waits q);
  }

  fresh : (s : State B) (h : List Deed) (n : Name) (t : Thread B) → fin.get s.threads n ≡ Some t → SeenIs s h → has_drained h n t.local.steps ≡ false
  fresh s h n t here p =
      let a = p.buffers in
      let its = number_is ops code s h n a.threads t here in
      false_from_ne_true _ (λ drained. let less = (a.numbers n).drained t.local.steps drained in omega (arith, less, its))

  keeps_seen : Keeps ops code SeenIs
  keeps_seen = record {
    ran = λ s h n t i r reached going here at asks allowed p.
        seen_by s (perform ops code s n t i r) h (did ops code s n t r) p (performed_memory s n t i r)
        ((keeps_buffers ops model bound laws code).ran s h n t i r reached going here at asks allowed p.buffers)
        (λ q. waits-did ops.buffered h q n t.local.steps r (value_taken ops code s t r) (created_by ops code n t.local r) (seen_in ops.buffered code h).waiting
        (fresh s h n t here p) (p.waits q));
    waked = λ s h n w t c reached going here at empty waits p.
        seen_by s (state_after_wake ops s n w t c) h (woke ops code n w t (WakeOne c)) p refl
        ((keeps_buffers ops model bound laws code).waked s h n w t c reached going here at empty waits p.buffers)
        (λ q. waits-did ops.buffered h q n t.local.steps (WakeOne c) (pos 0) (Some w) (seen_in ops.buffered code h).waiting
        (fresh s h n t here p) (p.waits q));
    flushed = λ s h n t form reached going here may p.
        let d = drained ops code h n (ops.drain t.buffer form).entry in
        seen_by s (machine.state_after_drain ops s n t form) h d p refl
        ((keeps_buffers ops model bound laws code).flushed s h n t form reached going here may p.buffers)
        (λ q. waits-drained ops.buffered h q n _ _ _ (seen_in ops.buffered code h).waiting (p.waits q));
  }

  opening_seen : SeenIs (opening ops code) []
  opening_seen = record { memory = refl; buffers = opening_buffers ops model bound laws code; waits = λ q. refl }

  -- memory and the stores that wait after deeds are those of the run
  pub seen_is : (ms : List Move) (s : State B) → run ops code ms ≡ Some s → SeenIs s (history ops code ms)
  seen_is ms s leads = holds_after ops code SeenIs keeps_seen opening_seen ms s leads

  -- the deeds determine the value that a request takes
  pub taken_is : (s : State B) (h : List Deed) (t : Thread B) (r : Request) → SeenIs s h
      → value_taken ops code s t r ≡ taken_by ops (seen_in ops.buffered code h).memory t r
  taken_is s h t r p = by r ∙ ap (λ memory. taken_by ops memory t r) (sym p.memory)
    where
      by : (r : Request) → value_taken ops code s t r ≡ taken_by ops s.memory t r
      by (Read c) = refl
      by (Exchange c v) = refl
      by r = refl

-- Which store of a thread drains.

form_none : (b : Bool) (c : ℕ) → (if b then None else Some c) ≡ None → b ≡ true
form_none true c e = refl
form_none false c e = absurd (none-some c (sym e))

form_some : (b : Bool) (c f : ℕ) → (if b then None else Some c) ≡ Some f → c ≡ f
form_some true c f e = absurd (none-some f e)
form_some false c f e = same_Some c f e

turned : (m n : Name) → same m n ≡ same n m
turned m n =
    elim (same_or_apart m n) [
      | inl e ↦ same_self m n e ∙ sym (same_self n m (sym e))
      | inr e ↦ same_other m n e ∙ sym (same_other n m (λ x. e (sym x)))
    ]

-- the first of a thread's stores is the first of those that are its own
first_own_by : (n : Name) (form : Option ℕ) (w : Stored) (ws : List Stored) (b : Bool) → same n w.thread ≡ b
    → first_by n form ws ≡ first_by n form (filter (is_of n) ws)
    → first_by n form (w ∷ ws) ≡ first_by n form (cond b (w ∷ filter (is_of n) ws) (filter (is_of n) ws))
first_own_by n form w ws true own rest = ap (λ o. if bytes_eq w.thread n && is_by form w.cell then Some w else o) rest
first_own_by n form w ws false other rest =
    ap (λ b. if b && is_by form w.cell then Some w else first_by n form ws) (bytes_by w.thread n ∙ turned w.thread n ∙ other) ∙ rest

first_own : (n : Name) (form : Option ℕ) (ws : List Stored) → first_by n form ws ≡ first_by n form (filter (is_of n) ws)
first_own n form [] = refl
first_own n form (w ∷ ws) = first_own_by n form w ws _ refl (first_own n form ws)

-- a store that needn't wait doesn't drain in the form of a newer one
module _ (bound : Binding) (same_cell : (barred : Bool) → bound true barred ≡ true) (bars : bound false true ≡ true) where
  bound_all : bound false false ≡ true → (cell bar : Bool) → bound cell bar ≡ false → ⊥
  bound_all all true bar free = false≢true (sym free ∙ same_cell bar)
  bound_all all false true free = false≢true (sym free ∙ bars)
  bound_all all false false free = false≢true (sym free ∙ all)

  other_cell : (cell bar : Bool) → bound cell bar ≡ false → cell ≡ false
  other_cell true bar free = absurd (false≢true (sym free ∙ same_cell bar))
  other_cell false bar free = refl

  not_by : (form : Option ℕ) (c d : ℕ) (bar : Bool) → form_of bound c ≡ form → bound (d == c) bar ≡ false → is_by form d ≡ false
  not_by None c d bar is free = absurd (bound_all (form_none (bound false false) c is) (d == c) bar free)
  not_by (Some f) c d bar is free = ap (λ k. d == k) (sym (form_some (bound false false) c f is)) ∙ other_cell (d == c) bar free

  by_itself : (form : Option ℕ) (c : ℕ) → form_of bound c ≡ form → is_by form c ≡ true
  by_itself None c is = refl
  by_itself (Some f) c is = eq-eqb c f (form_some (bound false false) c f is)

  not_yet_by : (n : Name) (form : Option ℕ) (c k : ℕ) (p : Pending) (ps : List Pending) (ws : List Stored) → form_of bound c ≡ form
      → waits bound (p ∷ ps) c ≡ false → first_by n form (cons_option (stored_by n k p) ws) ≡ first_by n form ws
  not_yet_by n form c k (Store e) ps ws is free =
      let w : Stored = record { thread = n; number = k; cell = e.cell; value = e.value } in
      ap (λ b. if bytes_eq n n && b then Some w else first_by n form ws) (not_by form c e.cell (has_bar ps) is (or_parts _ _ free).0)
      ∙ by_bool (λ b. (if b && false then Some w else first_by n form ws) ≡ first_by n form ws) (bytes_eq n n) refl refl
  not_yet_by n form c k barred ps ws is free = refl

  later_free : (p : Pending) (ps : List Pending) (c : ℕ) → waits bound (p ∷ ps) c ≡ false → waits bound ps c ≡ false
  later_free (Store e) ps c free = (or_parts _ _ free).1
  later_free barred ps c free = free

  pub not_yet : (n : Name) (form : Option ℕ) (c : ℕ) (older : List Issue) (rest : List Issue) → form_of bound c ≡ form → waits bound (whats older) c ≡ false
      → first_by n form (stores_of n (older ++ rest)) ≡ first_by n form (stores_of n rest)
  not_yet n form c [] rest is free = refl
  not_yet n form c (i ∷ older) rest is free =
      not_yet_by n form c i.number i.what (whats older) (stores_of n (older ++ rest)) is free
      ∙ not_yet n form c older rest is (later_free i.what (whats older) c free)

  pub first_is : (n : Name) (form : Option ℕ) (i : Issue) (e : Entry) (newer : List Issue) → form_of bound e.cell ≡ form → i.what ≡ Store e
      → first_by n form (stores_of n (i ∷ newer)) ≡ Some (record { thread = n; number = i.number; cell = e.cell; value = e.value })
  first_is n form i e newer is what =
      let w : Stored = record { thread = n; number = i.number; cell = e.cell; value = e.value } in
      ap (λ p. first_by n form (cons_option (stored_by n i.number p) (stores_of n newer))) what
      ∙ ap (λ b. if b && is_by form e.cell then Some w else first_by n form (stores_of n newer)) (bytes_by n n ∙ same_self n n refl)
      ∙ ap (λ b. if b then Some w else first_by n form (stores_of n newer)) (by_itself form e.cell is)

module _ {B : Type 0} (ops : BufferOps B) (model : Model) (bound : Binding) (laws : Laws ops model bound) (code : Code) where
  -- the first of a thread's stores that drains in a form is the one that does
  pub first_drains : (s : State B) (h : List Deed) (n : Name) (t : Thread B) (form : Option ℕ) → SeenIs ops model bound laws code s h
      → fin.get s.threads n ≡ Some t → ops.may_drain t.buffer form ≡ true
      → IsSomeAnd (first_by n form (seen_in ops.buffered code h).waiting)
      (λ w. drained ops code h n (ops.drain t.buffer form).entry ≡ Drained w.thread w.number w.cell w.value)
  first_drains s h n t form p here may =
      let issues = pending_issues ops.buffered h n in
      let st = p.buffers.stands n t here in
      let some = laws.may_drain_stands t.buffer (pending ops.buffered h n) form st may in
      let out = laws.drain_stands t.buffer (pending ops.buffered h n) form some.older some.store some.newer st some.drains in
      let split = split_at issues some.older (Store some.store) some.newer some.drains.there in
      let free = subst (λ ps. waits bound ps some.store.cell ≡ false) (sym split.olders) some.drains.is_free in
      let first =
      first_own n form (seen_in ops.buffered code h).waiting
      ∙ ap (first_by n form) (p.waits n ∙ ap (stores_of n) split.there)
      ∙ not_yet bound laws.same_cell laws.barred n form some.store.cell split.older (split.at ∷ split.newer) some.drains.by_form free
      ∙ first_is bound laws.same_cell laws.barred n form split.at some.store split.newer some.drains.by_form split.what in
      subst (λ o. IsSomeAnd o (λ w. drained ops code h n (ops.drain t.buffer form).entry ≡ Drained w.thread w.number w.cell w.value)) (sym first)
      (deed_is ops model bound laws code s (machine.state_after_drain ops s n t form) h n t form here refl some.older some.store some.newer some.drains.is_free out
      p.buffers split)
