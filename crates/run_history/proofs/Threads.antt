-- The history determines what a thread has done so far.
use Rattle.std.proofs.Common.{◌≡◌, ◌≢◌, ◌∙◌, ◌⊎◌, inl, inr, ℕ, ◌+◌, ℤ, pos, Bool, true, false, ◌||◌, ◌&&◌, cond, List, [], ◌∷◌, ◌++◌}
use Rattle.std.proofs.Common.{Option, Some, None, refl, sym, ap, arith, ◌-◌, length, append-nil}
use Rattle.std.specs.Prelude.{if◌then◌else◌, is_some}
use Rattle.std.specs.Option.{option_map_or}
use Rattle.std.specs.List.{filter_map, cons_option, list_any}
use Rattle.std.specs.FinMap as fin
use Rattle.std.proofs.Math.Bool.{and-true, and-false, or-true, or-false, or_assoc}
use Rattle.std.proofs.lemmas.List.Folds.{list_any-append}
use Rattle.store_buffers.specs.tc_base.Names.{Name, ByName, main, child, by_name}
use Rattle.store_buffers.specs.tc_base.Buffers.{BufferOps}
use Rattle.store_buffers.specs.tc_base.States.{Local, Thread, State}
use Rattle.store_buffers.specs.tc_base.declared.request.Request.{Request}
use Rattle.store_buffers.specs.tc_base.declared.request.Request.TheVariants.{Silent, Write, Bar, WakeOne, Start, Finish, Fail}
use Rattle.run_laws.specs.tc_code.declared.instr.Instr.{Instr}
use Rattle.run_laws.specs.tc_code.declared.instr.Instr.TheVariants.{Inside, Branch, Holds, Signal, Create, Ready, Assert, Nonzero, InRange, Exit}
use Rattle.run_laws.specs.tc_code.Code.{Code}
use Rattle.run_laws.specs.tc_code.Step.{request, site, local_after, arguments_of, perform, with_thread, born, state_after_wake, opening}
use Rattle.run_laws.specs.tc_code.Step as machine
use Rattle.run_laws.specs.tc_code.Run.{IsReached}
use Rattle.run_laws.proofs.Basics.{by_bool}
use Rattle.run_laws.proofs.After.{branch_is}
use Rattle.run_laws.proofs.Counts.{after_counts}
use Rattle.run_laws.proofs.Created.{child_is_new}
use Rattle.run_laws.proofs.Names.{same_self, same_other, same_or_apart, get_put, get_put_apart, child_apart}
use Rattle.run_history.specs.History.{Deed, Did, Drained, same, value_taken, created_by}
use Rattle.run_history.specs.Locals.{after_step}
use Rattle.run_history.specs.Told.{creates, is_thread_in, is_step_of, steps_in, is_start_of, children_in, is_exit_of, has_exited_in}
use Rattle.run_history.proofs.Lists.{filter_map-push, count-push}
use Rattle.run_history.proofs.Frame.{Keeps}

pub steps_by : (t : Local) (i : Instr) (r : Request) (v : ℤ) → (after_step t i r v).steps ≡ t.steps + 1
steps_by t i Fail v = refl
steps_by t i Silent v = (after_counts t i v).steps
steps_by t i _ v = (after_counts t i v).steps

abbrev is_finish : Request → Bool
is_finish Finish = true
is_finish _ = false

no_finish : (b : Bool) → is_finish (site b) ≡ false
no_finish true = refl
no_finish false = refl

exited_after : (t : Local) (i : Instr) (v : ℤ) → (local_after t i v).has_exited ≡ is_finish (request t i) || t.has_exited
exited_after t (Branch e to) v = ap (λ (u : Local). u.has_exited) (branch_is t _ to)
exited_after t (Inside len e) v = ap (λ b. b || t.has_exited) (sym (no_finish _))
exited_after t (Holds m) v = ap (λ b. b || t.has_exited) (sym (no_finish _))
exited_after t (Ready h) v = ap (λ b. b || t.has_exited) (sym (no_finish _))
exited_after t (Assert e) v = ap (λ b. b || t.has_exited) (sym (no_finish _))
exited_after t (Nonzero e) v = ap (λ b. b || t.has_exited) (sym (no_finish _))
exited_after t (InRange e) v = ap (λ b. b || t.has_exited) (sym (no_finish _))
exited_after t Exit v = refl
exited_after t _ v = refl

exited_by : (t : Local) (i : Instr) (r : Request) (v : ℤ) → request t i ≡ r → (after_step t i r v).has_exited ≡ is_finish r || t.has_exited
exited_by t i Fail v asks = refl
exited_by t i Silent v asks = exited_after t i v ∙ ap (λ r. is_finish r || t.has_exited) asks
exited_by t i _ v asks = exited_after t i v ∙ ap (λ r. is_finish r || t.has_exited) asks

abbrev is_start : Request → Bool
is_start (Start f) = true
is_start _ = false

no_start : (b : Bool) → is_start (site b) ≡ false
no_start true = refl
no_start false = refl

same_count : (k : ℕ) (b : Bool) → b ≡ false → k ≡ k + cond b 1 0
same_count k b e = let zero_more : k ≡ k + 0 = omega arith in zero_more ∙ ap (λ c. k + cond c 1 0) (sym e)

children_after : (t : Local) (i : Instr) (v : ℤ) → (local_after t i v).children ≡ t.children + cond (is_start (request t i)) 1 0
children_after t (Branch e to) v = ap (λ (u : Local). u.children) (branch_is t _ to) ∙ same_count t.children false refl
children_after t (Inside len e) v = same_count t.children _ (no_start _)
children_after t (Holds m) v = same_count t.children _ (no_start _)
children_after t (Ready h) v = same_count t.children _ (no_start _)
children_after t (Assert e) v = same_count t.children _ (no_start _)
children_after t (Nonzero e) v = same_count t.children _ (no_start _)
children_after t (InRange e) v = same_count t.children _ (no_start _)
children_after t (Create h f es) v = refl
children_after t _ v = same_count t.children false refl

children_by : (t : Local) (i : Instr) (r : Request) (v : ℤ) → request t i ≡ r → (after_step t i r v).children ≡ t.children + cond (is_start r) 1 0
children_by t i Fail v asks = same_count t.children false refl
children_by t i Silent v asks = children_after t i v ∙ ap (λ r. t.children + cond (is_start r) 1 0) asks
children_by t i _ v asks = children_after t i v ∙ ap (λ r. t.children + cond (is_start r) 1 0) asks

module _ {B : Type 0} (ops : BufferOps B) (code : Code) where
  abbrev pub buffer_by : B → Request → B
  buffer_by b (Write c v) = if ops.buffered then ops.issue b c v else b
  buffer_by b Bar = ops.bar b
  buffer_by b _ = b

  -- the thread after a request
  abbrev pub own : State B → Thread B → Instr → Request → Thread B
  own s t i r = record { local = after_step t.local i r (value_taken ops code s t r); buffer = buffer_by t.buffer r }

  -- the threads with the child that a request creates
  abbrev pub with_born : Name → Thread B → Instr → Request → ByName (Thread B) → ByName (Thread B)
  with_born n t i (Start f) ts = fin.insert ts (child n (t.local.children + 1)) (born ops code f (arguments_of t.local i))
  with_born n t i _ ts = ts

  pub performed_threads : (s : State B) (n : Name) (t : Thread B) (i : Instr) (r : Request)
      → (perform ops code s n t i r).threads ≡ with_born n t i r (fin.insert s.threads n (own s t i r))
  performed_threads s n t i (Write c v) =
      by_bool (λ b. (let w : State B =
      if b then with_thread s n (record { local = local_after t.local i (pos 0); buffer = ops.issue t.buffer c v })
      else record (machine.state_after_step ops s n t i) { memory = _ } in w.threads)
      ≡ fin.insert s.threads n (record { local = local_after t.local i (pos 0); buffer = if b then ops.issue t.buffer c v else t.buffer }))
      ops.buffered refl refl
  performed_threads s n t i Silent = refl
  performed_threads s n t i _ = refl

  -- the thread under a name after a request: the one that did it, the child that it creates, or the
  -- old one
  pub data Found (s u : State B) (n : Name) (t : Thread B) (i : Instr) (r : Request) (q : Name) : Type 0 where
    Its_own : q ≡ n → fin.get u.threads q ≡ Some (own s t i r) → Found s u n t i r q
    Its_child : (f : ℕ) (vs : List ℤ) → q ≢ n → fin.get u.threads q ≡ Some (born ops code f vs) → fin.get s.threads q ≡ None
        → list_any (same q) (cons_option (created_by ops code n t.local r) []) ≡ true → Found s u n t i r q
    Another : q ≢ n → fin.get u.threads q ≡ fin.get s.threads q → list_any (same q) (cons_option (created_by ops code n t.local r) []) ≡ false
        → Found s u n t i r q

  find_old : (s u : State B) (n : Name) (t : Thread B) (i : Instr) (r : Request) (q : Name)
      → fin.get u.threads q ≡ fin.get (fin.insert s.threads n (own s t i r)) q
      → list_any (same q) (cons_option (created_by ops code n t.local r) []) ≡ false → Found s u n t i r q
  find_old s u n t i r q is none =
      elim (same_or_apart q n) [
        | inl e ↦ Its_own e (is ∙ ap (fin.get (fin.insert s.threads n (own s t i r))) e ∙ get_put s.threads n _)
        | inr other ↦ Another other (is ∙ get_put_apart s.threads n _ q other) none
      ]

  pub find : (s u : State B) (n : Name) (t : Thread B) (i : Instr) (r : Request) → IsReached ops code s → fin.get s.threads n ≡ Some t
      → u.threads ≡ with_born n t i r (fin.insert s.threads n (own s t i r)) → (q : Name) → Found s u n t i r q
  find s u n t i (Start f) reached there is q =
      let k = t.local.children + 1 in
      elim (same_or_apart q (child n k)) [
        | inl e ↦ Its_child f (arguments_of t.local i) (λ own. child_apart n k (sym e ∙ own))
            (ap (λ ts. fin.get ts q) is ∙ ap (fin.get (with_born n t i (Start f) (fin.insert s.threads n (own s t i (Start f))))) e ∙ get_put _ (child n k) _)
            (ap (fin.get s.threads) e ∙ child_is_new ops code s n t reached there) (ap (λ b. b || false) (same_self q (child n k) e))
        | inr other ↦ find_old s u n t i (Start f) q (ap (λ ts. fin.get ts q) is ∙ get_put_apart _ (child n k) _ q other)
            (ap (λ b. b || false) (same_other q (child n k) other))
      ]
  find s u n t i Silent reached there is q = find_old s u n t i Silent q (ap (λ ts. fin.get ts q) is) refl
  find s u n t i r reached there is q = find_old s u n t i r q (ap (λ ts. fin.get ts q) is) refl

  -- the history determines which threads there are, and their steps, exits and children
  pub record ThreadsAre (s : State B) (h : List Deed) : Type 0 where
    pub steps : (q : Name) → option_map_or (λ t. t.local.steps) (fin.get s.threads q) 0 ≡ steps_in h q
    pub exits : (q : Name) → option_map_or (λ t. t.local.has_exited) (fin.get s.threads q) false ≡ has_exited_in h q
    pub children : (q : Name) → option_map_or (λ t. t.local.children) (fin.get s.threads q) 0 ≡ children_in h q
    pub there : (q : Name) → is_some (fin.get s.threads q) ≡ is_thread_in h q

  abbrev steps_at : Option (Thread B) → ℕ
  steps_at o = option_map_or (λ t. t.local.steps) o 0

  abbrev exited_at : Option (Thread B) → Bool
  exited_at o = option_map_or (λ t. t.local.has_exited) o false

  abbrev children_at : Option (Thread B) → ℕ
  children_at o = option_map_or (λ t. t.local.children) o 0

  -- the history determines the number of a thread's next step, and of its children
  module _ (s : State B) (h : List Deed) (n : Name) (a : ThreadsAre s h) where
    pub number_is : (t : Thread B) → fin.get s.threads n ≡ Some t → t.local.steps ≡ steps_in h n
    number_is t here = ap steps_at (sym here) ∙ a.steps n

    pub none_done : fin.get s.threads n ≡ None → 0 ≡ steps_in h n
    none_done none = ap steps_at (sym none) ∙ a.steps n

    pub children_are : (t : Thread B) → fin.get s.threads n ≡ Some t → t.local.children ≡ children_in h n
    children_are t here = ap children_at (sym here) ∙ a.children n

  start_by : (q n : Name) (k : ℕ) (r : Request) (v : ℤ) (o : Option Name) → is_start_of q (Did n k r v o) ≡ is_start r && same q n
  start_by q n k (Start f) v o = refl
  start_by q n k Silent v o = refl
  start_by q n k r v o = refl

  or_swap : (a b : Bool) → a || b ≡ b || (a || false)
  or_swap true true = refl
  or_swap true false = refl
  or_swap false true = refl
  or_swap false false = refl

  -- a step is an exit of the named thread if the thread is its own and the request is an exit
  exit_by : (q n : Name) (k : ℕ) (r : Request) (v : ℤ) (o : Option Name) → is_exit_of q (Did n k r v o) ≡ is_finish r && same q n
  exit_by q n k Finish v o = refl
  exit_by q n k Silent v o = refl
  exit_by q n k r v o = refl

  module _ (s u : State B) (h : List Deed) (n : Name) (t : Thread B) (i : Instr) (r : Request) (v : ℤ) (o : Option Name) (reached : IsReached ops code s)
      (here : fin.get s.threads n ≡ Some t) (asks : request t.local i ≡ r)
      (is : u.threads ≡ with_born n t i r (fin.insert s.threads n (own s t i r)))
      (makes : creates (Did n t.local.steps r v o) ≡ created_by ops code n t.local r) (a : ThreadsAre s h) where
    abbrev deed : Deed
    deed = Did n t.local.steps r v o

    steps_after : (q : Name) → Found s u n t i r q → steps_at (fin.get u.threads q) ≡ steps_in (h ++ deed ∷ []) q
    steps_after q (Its_own e there) =
        let before : t.local.steps ≡ steps_in h q = ap steps_at (sym here) ∙ ap (λ m. steps_at (fin.get s.threads m)) (sym e) ∙ a.steps q in
        ap steps_at there ∙ steps_by t.local i r _ ∙ ap (λ k. k + 1) before
        ∙ sym (count-push (is_step_of q) h deed ∙ ap (λ b. steps_in h q + cond b 1 0) (same_self q n e))
    steps_after q (Its_child f vs other there new made) =
        ap steps_at there ∙ sym (ap steps_at new) ∙ a.steps q
        ∙ sym (count-push (is_step_of q) h deed ∙ ap (λ b. steps_in h q + cond b 1 0) (same_other q n other) ∙ omega arith)
    steps_after q (Another other there none) =
        ap steps_at there ∙ a.steps q
        ∙ sym (count-push (is_step_of q) h deed ∙ ap (λ b. steps_in h q + cond b 1 0) (same_other q n other) ∙ omega arith)

    exit-push : (q : Name) → has_exited_in (h ++ deed ∷ []) q ≡ has_exited_in h q || ((is_finish r && same q n) || false)
    exit-push q = list_any-append (is_exit_of q) h (deed ∷ []) ∙ ap (λ b. has_exited_in h q || (b || false)) (exit_by q n t.local.steps r v o)

    children-push : (q : Name) → children_in (h ++ deed ∷ []) q ≡ children_in h q + cond (is_start r && same q n) 1 0
    children-push q =
        count-push (is_start_of q) h deed ∙ ap (λ b. children_in h q + cond b 1 0) (start_by q n t.local.steps r v o)

    children_other : (q : Name) → q ≢ n → children_in (h ++ deed ∷ []) q ≡ children_in h q
    children_other q other =
        children-push q ∙ sym (same_count (children_in h q) _ (ap (λ b. is_start r && b) (same_other q n other) ∙ and-false (is_start r)))

    children_now : (q : Name) → Found s u n t i r q → children_at (fin.get u.threads q) ≡ children_in (h ++ deed ∷ []) q
    children_now q (Its_own e there) =
        let before : t.local.children ≡ children_in h q = ap children_at (sym here) ∙ ap (λ m. children_at (fin.get s.threads m)) (sym e) ∙ a.children q in
        ap children_at there ∙ children_by t.local i r _ asks ∙ ap (λ k. k + cond (is_start r) 1 0) before
        ∙ sym (children-push q ∙ ap (λ b. children_in h q + cond (is_start r && b) 1 0) (same_self q n e)
        ∙ ap (λ b. children_in h q + cond b 1 0) (and-true (is_start r)))
    children_now q (Its_child f vs other there new made) = ap children_at there ∙ sym (ap children_at new) ∙ a.children q ∙ sym (children_other q other)
    children_now q (Another other there none) = ap children_at there ∙ a.children q ∙ sym (children_other q other)

    exits_other : (q : Name) → q ≢ n → has_exited_in (h ++ deed ∷ []) q ≡ has_exited_in h q
    exits_other q other =
        exit-push q ∙ ap (λ b. has_exited_in h q || ((is_finish r && b) || false)) (same_other q n other)
        ∙ ap (λ b. has_exited_in h q || (b || false)) (and-false (is_finish r)) ∙ or-false _

    exits_after : (q : Name) → Found s u n t i r q → exited_at (fin.get u.threads q) ≡ has_exited_in (h ++ deed ∷ []) q
    exits_after q (Its_own e there) =
        let before : t.local.has_exited ≡ has_exited_in h q = ap exited_at (sym here) ∙ ap (λ m. exited_at (fin.get s.threads m)) (sym e) ∙ a.exits q in
        ap exited_at there ∙ exited_by t.local i r _ asks ∙ ap (λ b. is_finish r || b) before ∙ or_swap (is_finish r) (has_exited_in h q)
        ∙ sym (exit-push q ∙ ap (λ b. has_exited_in h q || ((is_finish r && b) || false)) (same_self q n e)
        ∙ ap (λ b. has_exited_in h q || (b || false)) (and-true (is_finish r)))
    exits_after q (Its_child f vs other there new made) = ap exited_at there ∙ sym (ap exited_at new) ∙ a.exits q ∙ sym (exits_other q other)
    exits_after q (Another other there none) = ap exited_at there ∙ a.exits q ∙ sym (exits_other q other)

    thread-push : (q : Name)
        → is_thread_in (h ++ deed ∷ []) q ≡ is_thread_in h q || list_any (same q) (cons_option (created_by ops code n t.local r) [])
    thread-push q =
        ap (λ ns. same q main || list_any (same q) ns) (filter_map-push creates h deed)
        ∙ ap (λ b. same q main || b) (list_any-append (same q) (filter_map creates h) (cons_option (creates deed) []))
        ∙ sym (or_assoc (same q main) _ _)
        ∙ ap (λ c. is_thread_in h q || list_any (same q) (cons_option c [])) makes

    there_after : (q : Name) → Found s u n t i r q → is_some (fin.get u.threads q) ≡ is_thread_in (h ++ deed ∷ []) q
    there_after q (Its_own e there) =
        let before : true ≡ is_thread_in h q = ap is_some (sym here) ∙ ap (λ m. is_some (fin.get s.threads m)) (sym e) ∙ a.there q in
        ap is_some there ∙ sym (thread-push q ∙ ap (λ b. b || list_any (same q) (cons_option (created_by ops code n t.local r) [])) (sym before))
    there_after q (Its_child f vs other there new made) =
        ap is_some there ∙ sym (thread-push q ∙ ap (λ b. is_thread_in h q || b) made ∙ or-true _)
    there_after q (Another other there none) =
        ap is_some there ∙ a.there q ∙ sym (thread-push q ∙ ap (λ b. is_thread_in h q || b) none ∙ or-false _)

    pub threads_by : ThreadsAre u (h ++ deed ∷ [])
    threads_by = record {
      steps = λ q. steps_after q (find s u n t i r reached here is q);
      exits = λ q. exits_after q (find s u n t i r reached here is q);
      children = λ q. children_now q (find s u n t i r reached here is q);
      there = λ q. there_after q (find s u n t i r reached here is q);
    }

  pub makes_what : (n : Name) (t : Local) (k : ℕ) (r : Request) (v : ℤ) → creates (Did n k r v (created_by ops code n t r)) ≡ created_by ops code n t r
  makes_what n t k (Start f) v = refl
  makes_what n t k Silent v = refl
  makes_what n t k r v = refl

  -- a drain changes only a buffer
  module _ (s u : State B) (h : List Deed) (n : Name) (t : Thread B) (b : B) (k c : ℕ) (v : ℤ) (here : fin.get s.threads n ≡ Some t)
      (is : u.threads ≡ fin.insert s.threads n (record t { buffer = b })) (a : ThreadsAre s h) where
    -- what doesn't depend on the buffer stays the same
    pub stays : {X : Type 0} → (f : Option (Thread B) → X) → f (Some t) ≡ f (Some (record t { buffer = b })) → (q : Name)
        → f (fin.get u.threads q) ≡ f (fin.get s.threads q)
    stays f blind q =
        elim (same_or_apart q n) [
          | inl e ↦ ap (λ ts. f (fin.get ts q)) is ∙ ap (λ m. f (fin.get (fin.insert s.threads n (record t { buffer = b })) m)) e
              ∙ ap f (get_put s.threads n _) ∙ sym blind ∙ ap f (sym here) ∙ ap (λ m. f (fin.get s.threads m)) (sym e)
          | inr other ↦ ap (λ ts. f (fin.get ts q)) is ∙ ap f (get_put_apart s.threads n _ q other)
        ]

    pub threads_flushed : ThreadsAre u (h ++ Drained n k c v ∷ [])
    threads_flushed = record {
      steps = λ q. stays steps_at refl q ∙ a.steps q ∙ sym (count-push (is_step_of q) h (Drained n k c v) ∙ omega arith);
      exits = λ q. stays exited_at refl q ∙ a.exits q ∙ sym (list_any-append (is_exit_of q) h (Drained n k c v ∷ []) ∙ or-false _);
      children = λ q. stays children_at refl q ∙ a.children q ∙ sym (count-push (is_start_of q) h (Drained n k c v) ∙ omega arith);
      there = λ q.
          stays is_some refl q ∙ a.there q
          ∙ sym (ap (λ ns. same q main || list_any (same q) ns) (filter_map-push creates h (Drained n k c v) ∙ append-nil _));
    }

  pub keeps_threads : Keeps ops code ThreadsAre
  keeps_threads = record {
    ran = λ s h n t i r reached _ here _ asks _ a.
        threads_by s (perform ops code s n t i r) h n t i r (value_taken ops code s t r) (created_by ops code n t.local r) reached here asks
        (performed_threads s n t i r) (makes_what n t.local t.local.steps r _) a;
    waked = λ s h n u t c reached _ here _ _ _ a.
        threads_by s (state_after_wake ops s n u t c) h n t (Signal c) (WakeOne c) (pos 0) (Some u) reached here refl refl refl a;
    flushed = λ s h n t form _ _ here _ a. threads_flushed s (machine.state_after_drain ops s n t form) h n t (ops.drain t.buffer form).rest _ _ _ here refl a;
  }

  -- only main exists at the start
  alone : (q : Name) → ((q ≡ main) × (fin.get (opening ops code).threads q ≡ Some (born ops code (length code.functions - 1) [])))
      ⊎ ((q ≢ main) × (fin.get (opening ops code).threads q ≡ None))
  alone q =
      elim (same_or_apart q main) [
        | inl e ↦ inl (e, ap (fin.get (opening ops code).threads) e ∙ get_put fin.empty main _)
        | inr other ↦ inr (other, get_put_apart fin.empty main _ q other ∙ fin.get-empty by_name q)
      ]

  pub opening_threads : ThreadsAre (opening ops code) []
  opening_threads = record {
    steps = λ q. elim (alone q) [ inl m ↦ ap steps_at m.1 | inr o ↦ ap steps_at o.1 ];
    exits = λ q. elim (alone q) [ inl m ↦ ap exited_at m.1 | inr o ↦ ap exited_at o.1 ];
    children = λ q. elim (alone q) [ inl m ↦ ap children_at m.1 | inr o ↦ ap children_at o.1 ];
    there = λ q.
        elim (alone q) [
          | inl m ↦ ap is_some m.1 ∙ sym (ap (λ b. b || false) (same_self q main m.0))
          | inr o ↦ ap is_some o.1 ∙ sym (ap (λ b. b || false) (same_other q main o.0))
        ];
  }
