-- Whole paths go as logged.
use Rattle.std.proofs.Common.{◌≡◌, ◌∙◌, inl, inr, ℕ, zero, suc, ◌≤◌, true, List, [], ◌∷◌, length}
use Rattle.std.proofs.Common.{Option, Some, None, refl, sym, ap, arith}
use Rattle.std.specs.Prelude.{slice_get, option_map, is_some}
use Rattle.std.specs.FinMap as fin
use Rattle.std.proofs.lemmas.List.{length-append}
use Rattle.std.proofs.lemmas.Option.{none-some, same_Some, slice_get_within, option_and_then_some}
use Rattle.path_walk.specs.tc_base.Paths.{Path, path_under}
use Rattle.path_walk.specs.tc_base.Names.{Name, child}
use Rattle.path_walk.specs.tc_base.States.{Thread, State}
use Rattle.path_walk.specs.tc_base.declared.moves.Move.{Move}
use Rattle.path_walk.proofs.tc_base.Names.{parent_of}
use Rattle.path_walk.specs.tc_code.Run.{Reproduces, path_of}
use Rattle.run_follows.proofs.run_laws.Basics.{some_value}
use Rattle.run_follows.proofs.run_laws.Created.{reached_is_created}
use Rattle.run_follows.proofs.run_laws.Main.{main_is_there}
use Rattle.run_follows.specs.run_history.History.{history}
use Rattle.run_follows.specs.run_history.Told.{is_thread_in, steps_in}
use Rattle.run_follows.specs.Logged.{path_by, path_told, EndsAsIn, GoesAsLogged}
use Rattle.path_walk.specs.Fits.{started, places_in, child_function, function_of}
use Rattle.path_walk.specs.Paths.{Walk}
use Rattle.path_walk.specs.Steps.{steps_at}
use Rattle.path_walk.proofs.Faults.{option_is, function_of_child, no_child, fitting}
use Rattle.path_laws.specs.Setting.{Setting}
use Rattle.path_laws.specs.Prefixes.{fails_by}
use Rattle.path_laws.proofs.Logs.{created_count, reproduced_fits}
use Rattle.path_laws.proofs.Prefixes.{thread_path}
use Rattle.path_laws.specs.history.Along.{IsNameOfThread, AllHaveDone, AllAreThere, HistoryAlong, PathThread}
use Rattle.path_laws.proofs.of_history.Told.{RunOf, reached, steps_of, reproduced_run, its_run, reproduced_along}
use Rattle.path_laws.proofs.of_history.Walks.{IsWalking, walking, walk_is, named, IsWalk}
use Rattle.path_laws.proofs.of_history.Whole.{stands_all, went_all}

module _ {B : Type 0} (setting : Setting B) where
  open setting use {machine, ops, bound, code, log, log_is as is}

  -- Moves that reproduce a log do all steps of its paths.
  module _ (moves : List Move) (again : Reproduces ops code log moves) where
    -- the history of what reproduces a log
    abbrev pub history_again : HistoryAlong setting
    history_again = record {
      deeds = history ops code moves;
      fits = reproduced_fits machine log moves again;
      along = reproduced_along machine log moves again;
    }

    abbrev all : RunOf machine log (history ops code moves)
    all = reproduced_run machine log moves again

    module _ (thread : PathThread code log) where
      open thread use {walk as w}

      abbrev path_walk : IsWalk code log w
      path_walk = walk_is code log is (reproduced_fits machine log moves again) thread

      thread_again : (t : Thread B) × (fin.get again.state.threads w.name ≡ Some t)
      thread_again = by (fin.get again.state.threads w.name) refl
        where
          under : option_map path_of (fin.get again.state.threads w.name) ≡ Some path_walk.path
          under = again.paths w.name ∙ path_walk.under

          by : (o : Option (Thread B)) → fin.get again.state.threads w.name ≡ o → (t : Thread B) × (fin.get again.state.threads w.name ≡ Some t)
          by None none = absurd (none-some _ (sym (ap (option_map path_of) none) ∙ under))
          by (Some t) here = (t, here)

      pub is_there : is_thread_in (history ops code moves) w.name ≡ true
      is_there = sym (all.told.tells.deeds.buffers.threads.there w.name) ∙ ap is_some thread_again.1

      pub has_done : steps_in (history ops code moves) w.name ≡ length w.places
      has_done =
          let t = thread_again in
          let path : path_of t.0 ≡ path_walk.path = same_Some (path_of t.0) path_walk.path (sym (thread_path ops code log moves again w.name t.0 t.1) ∙ path_walk.under) in
          omega (
            arith,
            steps_of machine log (history ops code moves) all w.name t.0 t.1,
            path_walk.long,
            ap (λ (p : Path). p.steps) path,
          )

  -- A history in which each thread has done all its steps.
  module _ (history : HistoryAlong setting) (done : AllHaveDone code log history.deeds) where
    open history use {deeds as h, fits}

    abbrev r : RunOf machine log h
    r = its_run setting history

    abbrev s : State B
    s = r.state

    -- a thread of the state has gone its whole path
    module _ (n : Name) (t : Thread B) (here : fin.get s.threads n ≡ Some t) where
      abbrev p : IsNameOfThread code log n
      p = named code log is fits n (r.on n t here).path (r.on n t here).there

      abbrev w : Walk
      w = p.thread.walk

      here_too : fin.get s.threads w.name ≡ Some t
      here_too = ap (fin.get s.threads) p.name_is ∙ here

      abbrev k : IsWalking setting history p.thread t
      k = walking setting history p.thread t here_too

      went_its_path : Some (path_by t.local) ≡ path_under n log.threads
      went_its_path =
          ap (λ q. Some q) (went_all setting history p.thread (done p.thread) t here_too)
          ∙ sym k.walk.under ∙ ap (λ m. path_under m log.threads) p.name_is

      function_told : function_of code log n ≡ Some t.local.function
      function_told = ap (function_of code log) (sym p.name_is) ∙ k.walk.function ∙ ap (λ f. Some f) (sym k.function)

      -- the children of a thread exist
      child_there : (j f : ℕ) → child_function code log n t.local.function (suc j) ≡ Some f → (c : Thread B) × (fin.get s.threads (child n (suc j)) ≡ Some c)
      child_there j f creates =
          let g = t.local.function in
          let at : slice_get (started (steps_at code g w.places)) j ≡ Some f =
          ap (λ ps. slice_get (started (steps_at code g ps)) j) (sym k.places ∙ ap (λ m. places_in code log m g) p.name_is) ∙ creates in
          let within = slice_get_within (started (steps_at code g w.places)) j f at in
          let count = created_count code (fails_by s.failed w.name) t.local w.places
          (stands_all setting history p.thread (done p.thread) t here_too) in
          some_value (fin.get s.threads (child n (suc j)))
          ((reached_is_created ops code s (reached machine log h r)).child_is_there n t (suc j) here
          (record { first = omega arith; last = omega (arith, count, within) }))

    by_number : (n q : Name) (t : Thread B) (k f : ℕ) → fin.get s.threads q ≡ Some t → child_function code log q t.local.function k ≡ Some f → n ≡ child q k
        → (c : Thread B) × (fin.get s.threads n ≡ Some c)
    by_number n q t zero f here creates name = absurd (none-some f creates)
    by_number n q t (suc j) f here creates name = let c = child_there q t here j f creates in (c.0, ap (fin.get s.threads) name ∙ c.1)

    by_parent : (n q : Name) (p : Path) (k : ℕ) → path_under n log.threads ≡ Some p → n ≡ child q k
        → ((c : Path) → path_under q log.threads ≡ Some c → (t : Thread B) × (fin.get s.threads q ≡ Some t))
        → (t : Thread B) × (fin.get s.threads n ≡ Some t)
    by_parent n q p k under name parent =
        let f = fitting code log n p under (fits n) in
        let function : function_of code log (child q k) ≡ Some f.0 = ap (function_of code log) (sym name) ∙ f.1 in
        elim (option_is (path_under q log.threads)) [
          | inl none ↦ absurd (none-some f.0 (sym (no_child code log q k none) ∙ function))
          | inr has ↦
              let t = parent has.0 has.1 in
              option_and_then_some (λ g. child_function code log q g k) (function_of code log q) f.0 (sym (function_of_child code log q k) ∙ function)
              (λ g of creates.
              let same : g ≡ t.0.local.function = same_Some g t.0.local.function (sym of ∙ function_told q t.0 t.1) in
              by_number n q t.0 k f.0 t.1 (ap (λ a. child_function code log q a k) (sym same) ∙ creates) name)
        ]

    main_there : (n : Name) → n ≡ [] → (t : Thread B) × (fin.get s.threads n ≡ Some t)
    main_there n main =
        let t = some_value (fin.get s.threads []) (main_is_there ops code s (reached machine log h r)) in
        (t.0, ap (fin.get s.threads) main ∙ t.1)

    -- all threads of the log exist, by the length of their names
    there_by : (m : ℕ) (n : Name) (p : Path) → length n ≤ m → path_under n log.threads ≡ Some p → (t : Thread B) × (fin.get s.threads n ≡ Some t)
    there_by zero n p few under =
        elim (parent_of n) [
          | inl main ↦ main_there n main
          | inr q ↦ absurd (omega (arith, few, ap length q.name, length-append q.parent (q.number ∷ [])))
        ]
    there_by (suc m) n p few under =
        elim (parent_of n) [
          | inl main ↦ main_there n main
          | inr q ↦
              by_parent n q.parent p q.number under q.name
              (λ c at. there_by m q.parent c (omega (arith, few, ap length q.name, length-append q.parent (q.number ∷ []))) at)
        ]

    pub all_there : AllAreThere code log h
    all_there thread =
        let n = thread.name in
        let k = walk_is code log is fits thread in
        let t = there_by (length n) n k.path (omega arith) k.under in
        sym (r.told.tells.deeds.buffers.threads.there n) ∙ ap is_some t.1

    told_path : (n : Name) → path_told code h n ≡ path_under n log.threads
    told_path n = ap (option_map path_by) (r.told.tells.locals n) ∙ by (fin.get s.threads n) refl
      where
        by : (o : Option (Thread B)) → fin.get s.threads n ≡ o
            → option_map path_by (option_map (λ (t : Thread B). t.local) (fin.get s.threads n)) ≡ path_under n log.threads
        by None none =
            ap (λ o. option_map path_by (option_map (λ (t : Thread B). t.local) o)) none
            ∙ elim (option_is (path_under n log.threads)) [
              | inl absent ↦ sym absent
              | inr has ↦
                  let t = there_by (length n) n has.0 (omega arith) has.1 in
                  absurd (none-some t.0 (sym none ∙ t.1))
            ]
        by (Some t) here =
            ap (λ o. option_map path_by (option_map (λ (t : Thread B). t.local) o)) here
            ∙ went_its_path n t here

    pub goes_as_logged : EndsAsIn ops.buffered bound code log.failing log.threads h → GoesAsLogged ops.buffered bound code log h
    goes_as_logged ends = record { ends = ends; paths = told_path }
