-- A run under one memory model is one under each model that allows more.
use Rattle.std.proofs.Common.{◌≡◌, ◌≢◌, ◌∙◌, inl, inr, ℕ, ◌+◌, ◌-◌, ◌||◌, ◌&&◌, ℤ, pos, Bool, true, false, not, List, [], ◌∷◌, ◌++◌}
use Rattle.std.proofs.Common.{IsTrue, Option, Some, None, refl, sym, ap, ap₂, subst, append-nil, slice_set, length}
use Rattle.std.specs.Prelude.{unwrap_or, option_and_then, option_map, if◌then◌else◌}
use Rattle.std.specs.Option.{option_map_or}
use Rattle.std.specs.FinMap as fin
use Rattle.std.specs.FinSet as set
use Rattle.std.proofs.lemmas.Bool.{false≢true, cases_Bool, or_parts, false_from_ne_true}
use Rattle.std.proofs.lemmas.Option.{none-some, same_Some, option_and_then_some}
use Rattle.store_buffers.specs.tc_base.Names.{Name, ByName, child, main, by_name}
use Rattle.store_buffers.specs.tc_base.Buffers.{BufferOps, Entry}
use Rattle.store_buffers.specs.tc_base.States.{Local, Thread, State}
use Rattle.store_buffers.specs.tc_base.Paths.{ThreadPath}
use Rattle.run_laws.specs.run_log.Logs.{Log}
use Rattle.store_buffers.specs.tc_base.declared.failing.Failing.{Failing}
use Rattle.store_buffers.specs.tc_base.declared.failing.Failing.TheVariants as failing
use Rattle.store_buffers.specs.memory_models.declared.model.Model.{Model}
use Rattle.store_buffers.specs.tc_base.declared.moves.Move.{Move}
use Rattle.store_buffers.specs.tc_base.declared.moves.Move.TheVariants as move
use Rattle.store_buffers.specs.tc_base.declared.request.Request.{Request}
use Rattle.store_buffers.specs.tc_base.declared.request.Request.TheVariants.{Silent, Read, Write, Exchange, Bar}
use Rattle.store_buffers.specs.tc_base.declared.request.Request.TheVariants.{Start, Await, Fail}
use Rattle.run_laws.specs.tc_code.declared.instr.Instr.{Instr}
use Rattle.run_laws.specs.tc_code.declared.instr.Instr.TheVariants.{Signal}
use Rattle.run_laws.specs.tc_code.Code.{Code}
use Rattle.run_laws.specs.tc_code.Step.{request, local_after, step_in_place, arguments_of, instr_of, in_memory, drains_first, is_let, with_thread}
use Rattle.run_laws.specs.tc_code.Step.{allows, loaded, state_after_read, state_after_step, state_after_store, perform, born, waiting_on, state_after_wake, state_after_drain, step, opening}
use Rattle.run_laws.specs.tc_code.Run.{run_from, run, IsStuck, EndsAs, Reproduces, path_of}
use Rattle.run_laws.proofs.tc_code.Facts.{run_from-append}
use Rattle.store_buffers.specs.Pending.{Pending, Store, Bar as bar, stores, Binding, waits, form_of, Stands}
use Rattle.store_buffers.specs.Laws.{Laws}
use Rattle.store_buffers.specs.helpers.Lists.{store_last, bar_last, store_there, waits_for_none}
use Rattle.store_buffers.proofs.Oldest.{nothing_drains}
use Rattle.run_laws.proofs.Basics.{none_unless, some_value}
use Rattle.run_laws.proofs.Names.{same_or_apart, get_put, get_put_apart}
use Rattle.run_laws.proofs.Steps.{Ran, Woke, Drained, Went, step_went, none_failed}
use Rattle.run_models.specs.Models.{AllowsMore, drains_at_once, move_as, moves_from, moves_as, local_of, SameButBuffers}
use Rattle.run_laws.proofs.Makes.{makes_run, makes_wake, makes_drain}

-- a store that the stricter binding doesn't bind isn't bound by the weaker one
not_bound : (b c : Bool) → (c ≡ true → b ≡ true) → b ≡ false → c ≡ false
not_bound b true less e = absurd (false≢true (sym e ∙ less refl))
not_bound b false less e = refl

-- a store that waits for nothing by the stricter binding doesn't wait by the weaker one
waits_less : (bound less : Binding) → ((same_cell barred : Bool) → less same_cell barred ≡ true → bound same_cell barred ≡ true)
    → (ps : List Pending) (c : ℕ) → waits bound ps c ≡ false → waits less ps c ≡ false
waits_less bound less binds [] c free = refl
waits_less bound less binds (Store e ∷ ps) c free =
    let both = or_parts _ _ free in
    ap₂ (λ x y. x || y) (not_bound _ _ (binds _ _) both.0) (waits_less bound less binds ps c both.1)
waits_less bound less binds (bar ∷ ps) c free = waits_less bound less binds ps c free

module _ {B C : Type 0} (ops : BufferOps B) (more : BufferOps C) where
  -- two buffers that represent the same list
  pub record Both (b : B) (c : C) : Type 0 where
    pub list : List Pending
    pub here : Stands ops b list
    pub there : Stands more c list

  both_empty : Both ops.empty more.empty
  both_empty = record {
    list = [];
    here = record { made = refl; issued = λ _. refl };
    there = record { made = refl; issued = λ _. refl };
  }

  -- the other model has the same thread under a name, with a buffer that represents the same list
  pub record IsThere (t : Thread B) (o : Option (Thread C)) : Type 0 where
    pub buffer : C
    pub is : o ≡ Some (record { local = t.local; buffer = buffer })
    pub both : Both t.buffer buffer

  abbrev pub Alike : Option (Thread B) → Option (Thread C) → Type 0
  Alike None o = o ≡ None
  Alike (Some t) o = IsThere t o

  abbrev pub AllAlike : ByName (Thread B) → ByName (Thread C) → Type 0
  AllAlike ts us = (n : Name) → Alike (fin.get ts n) (fin.get us n)

  -- the state with the other model's threads
  abbrev pub as_more : State B → ByName (Thread C) → State C
  as_more s us = record { memory = s.memory; owners = s.owners; waiters = s.waiters; threads = us; failed = s.failed }

  alike_at : (ts : ByName (Thread B)) (us : ByName (Thread C)) (n : Name) (t : Thread B) → AllAlike ts us → fin.get ts n ≡ Some t
      → IsThere t (fin.get us n)
  alike_at ts us n t all there = subst (λ o. Alike o (fin.get us n)) there (all n)

  -- threads stay alike when alike ones are put in on both sides
  alike_put : (ts : ByName (Thread B)) (us vs : ByName (Thread C)) (n : Name) (l : Local) (b : B) (c : C) → AllAlike ts us
      → ((q : Name) → q ≢ n → fin.get vs q ≡ fin.get us q) → fin.get vs n ≡ Some (record { local = l; buffer = c }) → Both b c
      → AllAlike (fin.insert ts n (record { local = l; buffer = b })) vs
  alike_put ts us vs n l b c all apart there both q =
      elim (same_or_apart q n) [
        | inl same ↦
            subst (λ o. Alike o (fin.get vs q)) (sym (ap (fin.get (fin.insert ts n (record { local = l; buffer = b }))) same ∙ get_put ts n _))
            (record { buffer = c; is = ap (fin.get vs) same ∙ there; both = both })
        | inr other ↦
            subst (λ o. Alike o (fin.get vs q)) (sym (get_put_apart ts n (record { local = l; buffer = b }) q other))
            (subst (Alike (fin.get ts q)) (sym (apart q other)) (all q))
      ]

  alike_insert : (ts : ByName (Thread B)) (us : ByName (Thread C)) (n : Name) (l : Local) (b : B) (c : C) → AllAlike ts us → Both b c
      → AllAlike (fin.insert ts n (record { local = l; buffer = b })) (fin.insert us n (record { local = l; buffer = c }))
  alike_insert ts us n l b c all both =
      alike_put ts us (fin.insert us n (record { local = l; buffer = c })) n l b c all (λ q other. get_put_apart us n _ q other) (get_put us n _) both

  -- two empty maps are alike
  none_alike : AllAlike fin.empty fin.empty
  none_alike q =
      subst (λ o. Alike o (fin.get {R = by_name} fin.empty q)) (sym (fin.get-empty by_name q)) (fin.get-empty by_name q)

  same_exited : (o : Option (Thread B)) (p : Option (Thread C)) → Alike o p
      → option_map_or (λ t. t.local.has_exited) p false ≡ option_map_or (λ t. t.local.has_exited) o false
  same_exited None p is = ap (λ x. option_map_or (λ (t : Thread C). t.local.has_exited) x false) is
  same_exited (Some t) p is = ap (λ x. option_map_or (λ (t : Thread C). t.local.has_exited) x false) is.is

  -- the other threads allow a request on both sides or on neither
  same_let : (s : State B) (us : ByName (Thread C)) (n : Name) (r : Request) → AllAlike s.threads us → is_let (as_more s us) n r ≡ is_let s n r
  same_let s us n (Await k) all = same_exited (fin.get s.threads (child n k)) (fin.get us (child n k)) (all (child n k))
  same_let s us n Silent all = refl
  same_let s us n _ all = refl

  module _ (model model_more : Model) (bound bound_more : Binding) (laws : Laws ops model bound) (laws_more : Laws more model_more bound_more)
      (allows_more : AllowsMore ops bound more bound_more) (code : Code) where
    same_empty : (b : B) (c : C) → Both b c → more.is_empty c ≡ ops.is_empty b
    same_empty b c both = laws_more.empty_law c both.list both.there ∙ sym (laws.empty_law b both.list both.here)

    same_forward : (b : B) (c : C) (cell : ℕ) → Both b c → more.forward c cell ≡ ops.forward b cell
    same_forward b c cell both = laws_more.forward_stands c both.list cell both.there ∙ sym (laws.forward_stands b both.list cell both.here)

    -- the state to which moves lead on the other side
    pub record Follows (s : State B) (us : ByName (Thread C)) (moves : List Move) (w : State B) : Type 0 where
      pub threads : ByName (Thread C)
      pub leads : run_from more code (as_more s us) moves ≡ Some (as_more w threads)
      pub alike : AllAlike w.threads threads

    -- one move leads to that state
    follows_one : (s : State B) (us : ByName (Thread C)) (m : Move) (w : State B) (vs : ByName (Thread C))
        → step more code (as_more s us) m ≡ Some (as_more w vs) → AllAlike w.threads vs → Follows s us (m ∷ []) w
    follows_one s us m w vs one alike = record { threads = vs; leads = ap (option_and_then (λ u. run_from more code u [])) one; alike = alike }

    module _ (s : State B) (us : ByName (Thread C)) (n : Name) (t : Thread B) (c : C) (all : AllAlike s.threads us) (both : Both t.buffer c)
        (going : s.failed ≡ None) (there : fin.get us n ≡ Some (record { local = t.local; buffer = c })) where
      abbrev mine : Thread C
      mine = record { local = t.local; buffer = c }

      same_allows : (r : Request) → allows more (as_more s us) n mine r ≡ allows ops s n t r
      same_allows r = ap₂ (λ e l. (not (drains_first r) || e) && l) (same_empty t.buffer c both) (same_let s us n r all)

      -- the threads after a step that keeps the buffer
      kept : (l : Local) → AllAlike (fin.insert s.threads n (record { local = l; buffer = t.buffer })) (fin.insert us n (record { local = l; buffer = c }))
      kept l = alike_insert s.threads us n l t.buffer c all both

      -- the effect of a request other than a store on the other side
      record Performs (i : Instr) (r : Request) : Type 0 where
        threads : ByName (Thread C)
        same : perform more code (as_more s us) n mine i r ≡ as_more (perform ops code s n t i r) threads
        alike : AllAlike (perform ops code s n t i r).threads threads

      performs : (i : Instr) (r : Request) → ((cell : ℕ) (v : ℤ) → r ≢ Write cell v) → Performs i r
      performs i (Write cell v) other = absurd (other cell v refl)
      performs i (Read cell) other = record {
        threads = fin.insert us n (record { local = local_after t.local i (loaded ops s t cell); buffer = c });
        same = ap (λ o. state_after_read more (as_more s us) n mine i (unwrap_or o (in_memory s cell))) (same_forward t.buffer c cell both);
        alike = kept (local_after t.local i (loaded ops s t cell));
      }
      performs i (Exchange cell v) other = record { threads = _; same = refl; alike = kept (local_after t.local i (in_memory s cell)) }
      performs i Bar other = record {
        threads = _;
        same = refl;
        alike = alike_insert s.threads us n (local_after t.local i (pos 0)) (ops.bar t.buffer) (more.bar c) all
            (record { list = both.list ++ bar ∷ []; here = bar_last ops _ _ both.here; there = bar_last more _ _ both.there });
      }
      performs i (Start f) other = record {
        threads = _;
        same = refl;
        alike = alike_insert _ _ (child n (t.local.children + 1)) (born ops code f (arguments_of t.local i)).local ops.empty more.empty
            (kept (local_after t.local i (pos 0))) both_empty;
      }
      performs i Fail other = record { threads = _; same = refl; alike = kept (step_in_place t.local) }
      performs i Silent other = record { threads = _; same = refl; alike = kept (local_after t.local i (pos 0)) }
      performs i _ other = record { threads = _; same = refl; alike = kept (local_after t.local i (pos 0)) }

      -- the thread does the request on the other side
      request_follows : (i : Instr) (r : Request) → instr_of code t.local ≡ Some i → request t.local i ≡ r → IsTrue (allows ops s n t r)
          → ((cell : ℕ) (v : ℤ) → r ≢ Write cell v) → Follows s us (move.Run n ∷ []) (perform ops code s n t i r)
      request_follows i r at asks may other =
          let p = performs i r other in
          follows_one s us (move.Run n) _ p.threads
          (makes_run more code (as_more s us) n mine going there i r at asks (same_allows r ∙ may) ∙ ap Some p.same) p.alike

      -- a store: into the buffer, or to memory at once
      module _ (i : Instr) (cell : ℕ) (v : ℤ) (at : instr_of code t.local ≡ Some i) (asks : request t.local i ≡ Write cell v) where
        abbrev after : Local
        after = local_after t.local i (pos 0)

        -- the store's drain is of this form
        abbrev form : Option ℕ
        form = form_of bound_more cell

        abbrev buffered_store : State B
        buffered_store = with_thread s n (record { local = after; buffer = ops.issue t.buffer cell v })

        abbrev store_at_once : State B
        store_at_once = record (state_after_step ops s n t i) { memory = slice_set s.memory cell v }

        -- the effect of a store on the other side, by whether each model has buffers
        abbrev StoreFollows : Bool → Bool → Type 0
        StoreFollows b d =
            Follows s us (move.Run n ∷ (if b then [] else if d then move.Drain n form ∷ [] else []))
            (if b then buffered_store else store_at_once)

        other_stores : step more code (as_more s us) (move.Run n) ≡ Some (state_after_store more (as_more s us) n mine i cell v)
        other_stores = makes_run more code (as_more s us) n mine going there i (Write cell v) at asks refl

        abbrev issued : Thread C
        issued = record { local = after; buffer = more.issue c cell v }

        other_issues : more.buffered ≡ true → step more code (as_more s us) (move.Run n) ≡ Some (as_more s (fin.insert us n issued))
        other_issues buffered =
            other_stores ∙ ap (λ b. Some (if b then as_more s (fin.insert us n issued)
            else record (state_after_step more (as_more s us) n mine i) { memory = slice_set s.memory cell v })) buffered

        -- both models have buffers
        into_both : ops.buffered ≡ true → StoreFollows true true
        into_both buffered =
            let others = allows_more.buffers buffered in
            follows_one s us (move.Run n) buffered_store (fin.insert us n issued) (other_issues others)
            (alike_insert s.threads us n after (ops.issue t.buffer cell v) (more.issue c cell v) all
            (record {
              list = both.list ++ Store (record { cell = cell; value = v }) ∷ [];
              here = store_last ops t.buffer both.list cell v buffered both.here;
              there = store_last more c both.list cell v others both.there;
            }))

        -- neither model has buffers
        into_neither : more.buffered ≡ false → StoreFollows false false
        into_neither none =
            follows_one s us (move.Run n) store_at_once (fin.insert us n (record { local = after; buffer = c }))
            (other_stores ∙ ap (λ b. Some (if b then as_more s (fin.insert us n issued)
            else record (state_after_step more (as_more s us) n mine i) { memory = slice_set s.memory cell v })) none)
            (kept after)

        -- only the other model has buffers: its store drains at once
        into_other : ops.buffered ≡ false → more.buffered ≡ true → StoreFollows false true
        into_other none buffered =
            let e : Entry = record { cell = cell; value = v } in
            let nothing : stores both.list ≡ [] = both.here.issued none in
            let out = laws_more.drain_stands (more.issue c cell v) (both.list ++ Store e ∷ []) form both.list e []
            (store_last more c both.list cell v buffered both.there)
            (record { there = refl; by_form = refl; is_free = waits_for_none bound_more both.list cell nothing }) in
            let rest = (more.drain (more.issue c cell v) form).rest in
            let vs = fin.insert us n issued in
            let drains = makes_drain more code (as_more s vs) n issued going (get_put us n issued) form out.may in
            record {
              threads = fin.insert vs n (record { local = after; buffer = rest });
              leads =
                  ap (option_and_then (λ u. run_from more code u (move.Drain n form ∷ []))) (other_issues buffered)
                  ∙ ap (option_and_then (λ u. run_from more code u [])) drains
                  ∙ ap (λ (x : Entry). Some (as_more (record store_at_once { memory = slice_set s.memory x.cell x.value })
                  (fin.insert vs n (record { local = after; buffer = rest })))) out.takes;
              alike = alike_put s.threads us _ n after t.buffer rest all
                  (λ q other. get_put_apart vs n _ q other ∙ get_put_apart us n _ q other) (get_put vs n _)
                  (record { list = both.list; here = both.here; there = subst (Stands more rest) (append-nil both.list) out.leaves });
            }

        store_by_unbuffered : ops.buffered ≡ false → StoreFollows false more.buffered
        store_by_unbuffered lacks =
            elim (cases_Bool more.buffered) [
              | inl has ↦ subst (StoreFollows false) (sym has) (into_other lacks has)
              | inr none ↦ subst (StoreFollows false) (sym none) (into_neither none)
            ]

        store_follows : StoreFollows ops.buffered more.buffered
        store_follows =
            elim (cases_Bool ops.buffered) [
              | inl has ↦ subst (λ b. StoreFollows b more.buffered) (sym has)
                  (subst (StoreFollows true) (sym (allows_more.buffers has)) (into_both has))
              | inr none ↦ subst (λ b. StoreFollows b more.buffered) (sym none) (store_by_unbuffered none)
            ]

      -- each request
      run_follows : (i : Instr) (r : Request) → instr_of code t.local ≡ Some i → request t.local i ≡ r → IsTrue (allows ops s n t r)
          → Follows s us (move.Run n ∷ drains_at_once ops code more.buffered bound_more n r) (perform ops code s n t i r)
      run_follows i (Write cell v) at asks may = store_follows i cell v at asks
      run_follows i Silent at asks may = request_follows i Silent at asks may (λ cell v e. cc)
      run_follows i r at asks may = request_follows i r at asks may (λ cell v e. cc)

      wake_follows : (u : Name) (cond : ℕ) → instr_of code t.local ≡ Some (Signal cond) → IsTrue (ops.is_empty t.buffer)
          → IsTrue (set.contains (waiting_on s cond) u) → Follows s us (move.Wake n u ∷ []) (state_after_wake ops s n u t cond)
      wake_follows u cond at empty waits =
          follows_one s us (move.Wake n u) (state_after_wake ops s n u t cond) (fin.insert us n (record { local = local_after t.local (Signal cond) (pos 0); buffer = c }))
          (makes_wake more code (as_more s us) n mine going there u cond at (same_empty t.buffer c both ∙ empty) waits)
          (kept (local_after t.local (Signal cond) (pos 0)))

      -- a drain removes the same store on the other side
      drain_follows : (form : Option ℕ) → IsTrue (ops.may_drain t.buffer form)
          → Follows s us (move.Drain n (form_of bound_more (ops.drain t.buffer form).entry.cell) ∷ []) (state_after_drain ops s n t form)
      drain_follows form may =
          let some = laws.may_drain_stands t.buffer both.list form both.here may in
          let d = some.drains in
          let e = some.store in
          let mine_out = laws.drain_stands t.buffer both.list form some.older e some.newer both.here d in
          let other_form = form_of bound_more e.cell in
          let out = laws_more.drain_stands c both.list other_form some.older e some.newer both.there
          (record { there = d.there; by_form = refl; is_free = waits_less bound bound_more allows_more.binds some.older e.cell d.is_free }) in
          let l = t.local in
          let rest = (ops.drain t.buffer form).rest in
          let other_rest = (more.drain c other_form).rest in
          subst (λ (x : Entry). Follows s us (move.Drain n (form_of bound_more x.cell) ∷ [])
          (record (with_thread s n (record { local = l; buffer = rest })) { memory = slice_set s.memory x.cell x.value })) (sym mine_out.takes)
          (follows_one s us (move.Drain n other_form) _ (fin.insert us n (record { local = l; buffer = other_rest }))
          (makes_drain more code (as_more s us) n mine going there other_form out.may
          ∙ ap (λ (x : Entry). Some (record (with_thread (as_more s us) n (record { local = l; buffer = other_rest }))
          { memory = slice_set s.memory x.cell x.value })) out.takes)
          (alike_insert s.threads us n l rest other_rest all
          (record { list = some.older ++ some.newer; here = mine_out.leaves; there = out.leaves })))

    -- the drains that go with a thread's next step
    abbrev drains_of : Name → Thread B → List Move
    drains_of n t = option_map_or (λ i. drains_at_once ops code more.buffered bound_more n (request t.local i)) (instr_of code t.local) []

    -- each move of a run
    went_follows : (s w : State B) (us : ByName (Thread C)) (m : Move) → AllAlike s.threads us → s.failed ≡ None → Went ops code s w m
        → Follows s us (move_as ops code more.buffered bound_more s m) w
    went_follows s w us (move.Run n) all going g =
        let at = alike_at s.threads us n g.thread all g.there in
        subst (λ o. Follows s us (move.Run n ∷ option_map_or (drains_of n) o []) w) (sym g.there)
        (subst (λ o. Follows s us (move.Run n ∷ option_map_or (λ i. drains_at_once ops code more.buffered bound_more n (request g.thread.local i)) o []) w)
        (sym g.at)
        (subst (Follows s us _) (sym g.after)
        (run_follows s us n g.thread at.buffer all at.both going at.is g.instr (request g.thread.local g.instr) g.at refl g.allowed)))
    went_follows s w us (move.Wake n u) all going g =
        let at = alike_at s.threads us n g.thread all g.there in
        subst (Follows s us (move.Wake n u ∷ [])) (sym g.after)
        (wake_follows s us n g.thread at.buffer all at.both going at.is u g.condition g.at g.empty g.waits)
    went_follows s w us (move.Drain n form) all going g =
        let at = alike_at s.threads us n g.thread all g.there in
        subst (λ o. Follows s us (move.Drain n (option_map_or (λ t. form_of bound_more (ops.drain t.buffer form).entry.cell) o None) ∷ []) w) (sym g.there)
        (subst (Follows s us _) (sym g.after) (drain_follows s us n g.thread at.buffer all at.both going at.is form g.may))

    -- the other model follows each run
    run_from_follows : (s w : State B) (us : ByName (Thread C)) (ms : List Move) → AllAlike s.threads us → run_from ops code s ms ≡ Some w
        → Follows s us (moves_from ops code more.buffered bound_more s ms) w
    run_from_follows s w us [] all leads = record {
      threads = us;
      leads = ap (λ x. Some (as_more x us)) (same_Some s w leads);
      alike = subst (λ (x : State B). AllAlike x.threads us) (same_Some s w leads) all;
    }
    run_from_follows s w us (m ∷ ms) all leads =
        option_and_then_some (λ u. run_from ops code u ms) (step ops code s m) w leads (λ u one rest.
        let f = went_follows s u us m all (none_failed ops code s u m one) (step_went ops code s u m one) in
        let g = run_from_follows u w f.threads ms f.alike rest in
        record {
          threads = g.threads;
          leads =
              ap (λ o. run_from more code (as_more s us) (move_as ops code more.buffered bound_more s m
              ++ option_map_or (λ x. moves_from ops code more.buffered bound_more x ms) o [])) one
              ∙ run_from-append more code (as_more s us) (move_as ops code more.buffered bound_more s m) _
              ∙ ap (option_and_then (λ x. run_from more code x (moves_from ops code more.buffered bound_more u ms))) f.leads
              ∙ g.leads;
          alike = g.alike;
        })

    -- the threads at the start are alike
    opening_alike : AllAlike (opening ops code).threads (opening more code).threads
    opening_alike = alike_insert fin.empty fin.empty main (born ops code (length code.functions - 1) []).local ops.empty more.empty none_alike both_empty

    run_follows_run : (ms : List Move) (w : State B) → run ops code ms ≡ Some w
        → Follows (opening ops code) (opening more code).threads (moves_as ops code more.buffered bound_more ms) w
    run_follows_run ms w leads = run_from_follows (opening ops code) w (opening more code).threads ms opening_alike leads

    -- the local state of each thread is the same
    same_local : (o : Option (Thread B)) (p : Option (Thread C)) → Alike o p → option_map local_of o ≡ option_map local_of p
    same_local None p is = ap (option_map local_of) (sym is)
    same_local (Some t) p is = ap (option_map local_of) (sym is.is)

    same_path : (o : Option (Thread B)) (p : Option (Thread C)) → Alike o p → option_map path_of p ≡ option_map path_of o
    same_path None p is = ap (option_map path_of) is
    same_path (Some t) p is = ap (option_map path_of) is.is

    -- a run is one of the other model, to the same state except for the buffers
    pub runs_under_more : (ms : List Move) (s : State B) → run ops code ms ≡ Some s
        → (u : State C) × (run more code (moves_as ops code more.buffered bound_more ms) ≡ Some u) × SameButBuffers s u
    runs_under_more ms s leads =
        let f = run_follows_run ms s leads in (
          as_more s f.threads,
          f.leads,
          record { memory = refl; owners = refl; waiters = refl; failed = refl; threads = λ n. same_local _ _ (f.alike n) },
        )

    -- if no move is enabled, none is on the other side
    module _ (s : State B) (us : ByName (Thread C)) (all : AllAlike s.threads us) (stuck : IsStuck ops code s) where
      -- the thread of this side that is like a thread of the other
      record Twin (n : Name) (u : Thread C) : Type 0 where
        thread : Thread B
        there : fin.get s.threads n ≡ Some thread
        same : thread.local ≡ u.local
        both : Both thread.buffer u.buffer

      twin_by : (n : Name) (u : Thread C) (o : Option (Thread B)) → fin.get s.threads n ≡ o → Alike o (fin.get us n) → fin.get us n ≡ Some u → Twin n u
      twin_by n u None there none at = absurd (none-some u (sym none ∙ at))
      twin_by n u (Some t) there is at =
          let same = same_Some _ u (sym is.is ∙ at) in
          record {
            thread = t;
            there = there;
            same = ap (λ (x : Thread C). x.local) same;
            both = subst (λ (x : Thread C). Both t.buffer x.buffer) same is.both;
          }

      twin : (n : Name) (u : Thread C) → fin.get us n ≡ Some u → Twin n u
      twin n u at = twin_by n u (fin.get s.threads n) refl (all n) at

      not_enabled : {X : Type 0} (m : Move) (w : State B) → step ops code s m ≡ Some w → X
      not_enabled m w one = absurd (none-some w (sym (stuck.still m) ∙ one))

      no_run : (n : Name) (w : State C) → Ran more code (as_more s us) w n → ⊥
      no_run n w g =
          let t = twin n g.thread g.there in
          let at : instr_of code t.thread.local ≡ Some g.instr = ap (instr_of code) t.same ∙ g.at in
          let r = request t.thread.local g.instr in
          let may : IsTrue (allows ops s n t.thread r) =
          sym (ap₂ (λ e l. (not (drains_first r) || e) && l) (same_empty t.thread.buffer g.thread.buffer t.both) (same_let s us n r all))
          ∙ ap (λ l. allows more (as_more s us) n g.thread (request l g.instr)) t.same ∙ g.allowed in
          not_enabled (move.Run n) _ (makes_run ops code s n t.thread stuck.unfailed t.there g.instr r at refl may)

      no_wake : (n v : Name) (w : State C) → Woke more code (as_more s us) w n v → ⊥
      no_wake n v w g =
          let t = twin n g.thread g.there in
          not_enabled (move.Wake n v) _
          (makes_wake ops code s n t.thread stuck.unfailed t.there v g.condition (ap (instr_of code) t.same ∙ g.at)
          (sym (same_empty t.thread.buffer g.thread.buffer t.both) ∙ g.empty) g.waits)

      -- no store is pending here, so none is there
      no_drain : (n : Name) (form : Option ℕ) (w : State C) → Drained more code (as_more s us) w n form → ⊥
      no_drain n form w g =
          let t = twin n g.thread g.there in
          let ps = t.both.list in
          let none = nothing_drains ops model bound t.thread.buffer ps laws t.both.here
          (λ f. false_from_ne_true _ (λ may. not_enabled (move.Drain n f) _ (makes_drain ops code s n t.thread stuck.unfailed t.there f may))) in
          let d = laws_more.may_drain_stands g.thread.buffer ps form t.both.there g.may in
          store_there d.older d.store d.newer (ap stores (sym d.drains.there) ∙ none)

      no_move : (m : Move) (w : State C) → Went more code (as_more s us) w m → ⊥
      no_move (move.Run n) w g = no_run n w g
      no_move (move.Wake n v) w g = no_wake n v w g
      no_move (move.Drain n form) w g = no_drain n form w g

      stuck_under_more : IsStuck more code (as_more s us)
      stuck_under_more =
          let l = stuck.left.1 in
          let u = alike_at s.threads us stuck.left.0 l.thread all l.there in
          record {
            unfailed = stuck.unfailed;
            still = λ m. none_unless _ (λ is. let v = some_value _ is in no_move m v.0 (step_went more code (as_more s us) v.0 m v.1));
            left = (stuck.left.0, record { thread = record { local = l.thread.local; buffer = u.buffer }; there = u.is; going = l.going });
          }

    -- a run ends the same way on the other side
    same_end : (s : State B) (us : ByName (Thread C)) (ts : List ThreadPath) → AllAlike s.threads us → (f : Failing) → EndsAs ops code f ts s
        → EndsAs more code f ts (as_more s us)
    same_end s us ts all (failing.Thread k) h = h
    same_end s us ts all failing.Deadlock stuck = stuck_under_more s us all stuck

    -- a run reproduces the same logs on the other side
    pub reproduces_under_more : (log : Log) (ms : List Move) → Reproduces ops code log ms
        → Reproduces more code log (moves_as ops code more.buffered bound_more ms)
    reproduces_under_more log ms r =
        let f = run_follows_run ms r.state r.leads in
        record {
          state = as_more r.state f.threads;
          leads = f.leads;
          ends = same_end r.state f.threads log.threads f.alike log.failing r.ends;
          paths = λ n. same_path _ _ (f.alike n) ∙ r.paths n;
        }
