-- A thread beside the execution of its path so far.
use Rattle.std.proofs.Common.{◌≡◌, ◌∙◌, ℕ, ◌+◌, ◌-◌, ◌<◌, ◌≤◌, ℤ, pos, List, [], ◌∷◌, ◌++◌, map, length, take, drop, fold, get_or}
use Rattle.std.proofs.Common.{Bool, true, false, not, cond, ◌&&◌, ◌==◌, Option, Some, None, refl, ap, ap₂, sym, subst, arith, append-nil}
use Rattle.std.specs.Prelude.{slice_get, unwrap_or, option_map}
use Rattle.std.specs.List.{AllByRecursion as Each, flat_map}
use Rattle.std.proofs.lemmas.Grind.{flat_map-append}
use Rattle.std.proofs.lemmas.List.{map-append, take-append-drop}
use Rattle.std.proofs.lemmas.List.Sums.{fold-append}
use Rattle.std.proofs.lemmas.Option.{slice_get-map}
use Rattle.sym_exec.specs.int_ops.Arith.{IsInt}
use Rattle.sym_exec.specs.tc_base.Names.{Name}
use Rattle.sym_exec.specs.run_log.Logs.{Log}
use Rattle.sym_exec.specs.tc_base.Paths.{ThreadPath}
use Rattle.sym_exec.specs.tc_base.States.{Local}
use Rattle.sym_exec.specs.tc_base.declared.request.Request.{Request}
use Rattle.sym_exec.specs.tc_code.Code.{Code, instr_at}
use Rattle.sym_exec.specs.tc_code.declared.instr.Instr.{Instr}
use Rattle.sym_exec.specs.tc_code.Lawful.{IsLawful}
use Rattle.sym_exec.specs.tc_code.Step.{request}
use Rattle.sym_exec.proofs.run_laws.Changes.{is_fail}
use Rattle.path_laws.specs.run_history.History.{Deed, Did, same}
use Rattle.path_laws.specs.run_history.Locals.{after_step as thread_after}
use Rattle.sym_exec.specs.run_laws.Ints.{AsksInts}
use Rattle.sym_exec.proofs.run_laws.Names.{same_self, same_other}
use Rattle.path_laws.proofs.run_history.Threads.{steps_by}
use Rattle.sym_exec.proofs.list_laws.Lists.{get_seam}
use Rattle.sym_exec.specs.run_log.Logs.{is_log}
use Rattle.sym_exec.specs.path_walk.Fits.{fails_in, places_in, function_of}
use Rattle.sym_exec.specs.path_walk.Paths.{Walk, walk_of, paths_of}
use Rattle.sym_exec.specs.sym_terms.Terms.{AreTerms}
use Rattle.sym_exec.specs.sym_terms.declared.node.Node.{Node}
use Rattle.sym_exec.specs.Making.{Grows}
use Rattle.sym_exec.specs.Thread.{Doing, after_step, after_all, Route, route_of}
use Rattle.sym_exec.specs.Executed.{has_failed, fails_at, thread_started, thread_done}
use Rattle.sym_exec.specs.Alone.{slots_by, asked_by, asked_in, outcome_by}
use Rattle.sym_exec.specs.declared.symbolic.Access.{Access}
use Rattle.sym_exec.proofs.Grown.{grows_both}
use Rattle.sym_exec.proofs.Tells.{is_load}
use Rattle.sym_laws.specs.Valued.{IsOneOf, AgreesWith, AskedAt, asked_of, asked_at, found, found_before, execution}
use Rattle.sym_laws.proofs.Lists.{each_append, each_weaker, in_front}
use Rattle.sym_laws.proofs.Names.{failing_is}
use Rattle.sym_laws.proofs.Steps.{IsFine, Begins, next, all_on}
use Rattle.sym_laws.proofs.Beside.{site_wanted, IsDone, loads_by, is_done}
use Rattle.sym_laws.proofs.Executed.{IsFoundAt, found_at_place, start_fine, course_of}

-- the slots, requests and tests of a thread are as the terms of its execution say
pub record Follows (later : List Node) (loads : List ℤ) (d : Doing) (t : Local) (done : List AskedAt) : Type 0 where
  pub slots : t.slots ≡ slots_by loads d
  pub steps : d.steps ≡ t.steps
  pub branches : d.branches ≡ length t.outcomes
  pub children : length d.creates ≡ t.children
  pub tests : Each (λ x. outcome_by later loads x ≡ x.wanted) d.tests
  pub accesses : done ≡ map (asked_at later loads) d.accesses
  pub before : Each (λ a. a.step < t.steps) d.accesses

-- the events of accesses of one step
asked_in_step : (later : List Node) (loads : List ℤ) (k : ℕ) (found : List Access) → Each (λ a. a.step ≡ k) found
    → map (asked_at later loads) found ≡ map (λ x. record { step = k; asked = x }) (map (asked_in later loads) found)
asked_in_step later loads k [] each = refl
asked_in_step later loads k (a ∷ found) each =
    ap₂ (λ n es. record { step = n; asked = asked_in later loads a } ∷ es) each.0 (asked_in_step later loads k found each.1)

-- the requests of a history with one more deed
pub asked_more : (n : Name) (h : List Deed) (deed : Deed) → flat_map (asked_of n) (h ++ deed ∷ []) ≡ flat_map (asked_of n) h ++ asked_of n deed
asked_more n h deed = flat_map-append (asked_of n) h (deed ∷ []) ∙ ap (λ es. flat_map (asked_of n) h ++ es) (append-nil (asked_of n deed))

own_asked : (n : Name) (k : ℕ) (r : Request) (v : ℤ) (o : Option Name)
    → asked_of n (Did n k r v o) ≡ map (λ x. record { step = k; asked = x }) (asked_by v r)
own_asked n k r v o = ap (λ b. cond b (map (λ x. record { step = k; asked = x }) (asked_by v r)) []) (same_self n n refl)

pub others_asked : (n q : Name) (k : ℕ) (r : Request) (v : ℤ) (o : Option Name) → (n ≡ q → ⊥) → asked_of n (Did q k r v o) ≡ []
others_asked n q k r v o other = ap (λ b. cond b (map (λ x. record { step = k; asked = x }) (asked_by v r)) []) (same_other n q other)

-- A step of the thread under a path, on it.
pub record GoesOnPath (code : Code) (log : Log) (p : ThreadPath) (t : Local) (i : Instr) (v : ℤ) : Type 0 where
  pub function : function_of code log p.name ≡ Some t.function
  pub long : length (places_in code log p.name t.function) ≡ p.path.steps
  pub places : take (t.steps + 1) (places_in code log p.name t.function) ≡ take t.steps (places_in code log p.name t.function) ++ t.instruction ∷ []
  pub at : instr_at code t.function t.instruction ≡ Some i
  pub within : t.steps + 1 ≤ p.path.steps
  pub fails : is_fail (request t i) ≡ (fails_in log p.name && t.steps + 1 == p.path.steps)
  pub later : List Bool
  pub outcomes : p.path.outcomes ≡ (thread_after t i (request t i) v).outcomes ++ later
  -- the value taken and the values in the request are ints
  pub took : IsInt v
  pub asks : AsksInts (request t i)

-- the site of a step passes unless the thread fails there
fails_as_wanted : (b c : Bool) (k n m : ℕ) → n ≡ m → k + 1 ≤ m → c ≡ (b && k + 1 == m) → not c ≡ site_wanted (cond b (Some (n - 1)) None) k
fails_as_wanted false c k n m same le is = ap not is
fails_as_wanted true c k n m same le is = ap not is ∙ ap not (tests (k + 1 == m) refl (k == n - 1) refl)
  where
    tests : (x : Bool) → (k + 1 == m) ≡ x → (y : Bool) → (k == n - 1) ≡ y → x ≡ y
    tests true e true g = refl
    tests false e false g = refl
    tests true e false g = grind (arith, e, g, same, le)
    tests false e true g = grind (arith, e, g, same, le)

module _ (code : Code) (log : Log) (nodes : List Node) (lawful : IsLawful code) (is : is_log log ≡ true) (terms : AreTerms nodes) where
  abbrev walk : ThreadPath → Walk
  walk p = walk_of code log p

  abbrev pub walks : List Walk
  walks = (paths_of code log).threads

  abbrev path_route : ℕ → ThreadPath → Route
  path_route j p = route_of code (walk p) (fails_at (paths_of code log) j (walk p))

  pub walk_at : (j : ℕ) (p : ThreadPath) → slice_get log.threads j ≡ Some p → slice_get walks j ≡ Some (walk p)
  walk_at j p at = slice_get-map walk log.threads j ∙ ap (option_map walk) at

  abbrev pub FoundAt : ℕ → ThreadPath → Type 0
  FoundAt j p = IsFoundAt code lawful (paths_of code log) nodes terms walks j (walk p)

  pub found_at_log : (j : ℕ) (p : ThreadPath) → slice_get log.threads j ≡ Some p → FoundAt j p
  found_at_log j p at = found_at_place code lawful (paths_of code log) nodes terms walks j (walk p) (walk_at j p at)

  -- the thread at a place of the log
  module _ (j : ℕ) (p : ThreadPath) (there : slice_get log.threads j ≡ Some p) where
    abbrev here : FoundAt j p
    here = found_at_log j p there

    abbrev start : Doing
    start = thread_started code (found_before code log nodes j) (walk p)

    abbrev upto : ℕ → Doing
    upto k = execution code log nodes j (walk p) k

    abbrev whole : Doing
    whole = thread_done code (paths_of code log) (found_before code log nodes j) (walk p)

    pub fine_at : (k : ℕ) → IsFine code (walk p).function (upto k)
    fine_at k =
        (all_on (path_route j p) lawful (take k (walk p).places) start
        (start_fine code lawful (paths_of code log) (found_before code log nodes j) (walk p) here.well)).fine

    -- the first steps of an execution begin all of it
    pub begins_at : (k : ℕ) → Begins (upto k) whole
    begins_at k =
        let w = walk p in
        let after = after_all (path_route j p) in
        let rest = all_on (path_route j p) lawful (drop k w.places) (upto k) (fine_at k) in
        let all : after (upto k) (drop k w.places) ≡ whole =
        sym (fold-append (after_step (path_route j p)) start (take k w.places) (drop k w.places))
        ∙ ap (after start) (take-append-drop k w.places)
        ∙ ap (λ n. after_all (route_of code w (fails_at (paths_of code log) n w)) start w.places) (sym here.count) in
        subst (Begins (upto k)) all rest.begins

    pub grows_at : (k : ℕ) → Grows (upto k).nodes (found code log nodes).nodes
    grows_at k = grows_both (upto k).nodes whole.nodes (found code log nodes).nodes (begins_at k).grows here.grows

    -- the effect of a step of the thread
    module _ (loads : List ℤ) (h : List Deed) (t : Local) (i : Instr) (v : ℤ) (o : Option Name) (goes : GoesOnPath code log p t i v)
        (follows : Follows (found code log nodes).nodes loads (upto t.steps) t (flat_map (asked_of p.name) h))
        (agrees : AgreesWith (found code log nodes).symbolic loads (h ++ Did p.name t.steps (request t i) v o ∷ [])) where
      abbrev d : Doing
      d = upto t.steps

      abbrev u : Local
      u = thread_after t i (request t i) v

      abbrev deed : Deed
      deed = Did p.name t.steps (request t i) v o

      function_is : (walk p).function ≡ t.function
      function_is = ap (λ x. unwrap_or x 0) goes.function

      places_are : (walk p).places ≡ places_in code log p.name t.function
      places_are = ap (places_in code log p.name) function_is

      one_more : u.steps ≡ t.steps + 1
      one_more = steps_by t i (request t i) v

      abbrev follow : Doing → ℕ → Doing
      follow = after_step (path_route j p)

      pub next_is : upto u.steps ≡ next (path_route j p) d t.instruction
      next_is =
          ap upto one_more
          ∙ ap (fold follow start)
          (ap (take (t.steps + 1)) places_are ∙ goes.places ∙ ap (λ ps. take t.steps ps ++ t.instruction ∷ []) (sym places_are))
          ∙ fold-append follow start (take t.steps (walk p).places) (t.instruction ∷ [])

      placed : instr_at code (walk p).function t.instruction ≡ Some i
      placed = ap (λ f. instr_at code f t.instruction) function_is ∙ goes.at

      passes : not (is_fail (request t i)) ≡ site_wanted (path_route j p).fails d.steps
      passes =
          fails_as_wanted (has_failed log.failing j) (is_fail (request t i)) t.steps (length (walk p).places) p.path.steps (ap length places_are ∙ goes.long)
          goes.within (goes.fails ∙ ap (λ b. b && t.steps + 1 == p.path.steps) (failing_is log is j p there))
          ∙ ap (site_wanted (path_route j p).fails) (sym follows.steps)

      abbrev e : Doing
      e = next (path_route j p) d t.instruction

      -- a load takes the value of its symbol
      takes : is_load i ≡ true → get_or loads d.loads (pos 0) ≡ v
      takes load =
          let l = loads_by (path_route j p) loads lawful d t i t.instruction (fine_at t.steps) placed load in
          let b = begins_at u.steps in
          let within : IsOneOf l.access whole.accesses =
          subst (IsOneOf l.access) (sym b.accesses)
          (in_front l.access (upto u.steps).accesses b.found (subst (λ (x : Doing). IsOneOf l.access x.accesses) (sym next_is) l.within)) in
          let last : slice_get (h ++ deed ∷ []) (length h) ≡ Some (Did p.name l.access.step (request t i) v o) =
          get_seam h deed [] ∙ ap (λ k. Some (Did p.name k (request t i) v o)) (sym (l.step ∙ follows.steps)) in
          agrees (course_of (walk p) whole) l.access d.loads (request t i) v o (j, here.course) within l.takes (length h, last)

      pub done : IsDone (path_route j p) loads d e t u i v
      done =
          is_done (path_route j p) loads lawful d t i t.instruction (fine_at t.steps) placed v goes.later follows.slots
          follows.branches follows.children takes goes.outcomes passes goes.took goes.asks

      grows_next : Grows e.nodes (found code log nodes).nodes
      grows_next = subst (λ (x : Doing). Grows x.nodes (found code log nodes).nodes) next_is (grows_at u.steps)

      pub step_follows : Follows (found code log nodes).nodes loads (upto u.steps) u (flat_map (asked_of p.name) (h ++ deed ∷ []))
      step_follows =
          let later = (found code log nodes).nodes in
          subst (λ (x : Doing). Follows later loads x u (flat_map (asked_of p.name) (h ++ deed ∷ []))) (sym next_is) (record {
            slots = done.slots;
            steps = done.steps ∙ ap (λ k. k + 1) follows.steps ∙ sym one_more;
            branches = done.branches;
            children = done.children;
            tests = subst (Each (λ x. outcome_by later loads x ≡ x.wanted)) (sym done.tests)
                (each_append (λ x. outcome_by later loads x ≡ x.wanted) d.tests done.test follows.tests (done.comes later grows_next));
            accesses =
                asked_more p.name h deed
                ∙ ap₂ (λ xs ys. xs ++ ys) follows.accesses
                (own_asked p.name t.steps (request t i) v o
                ∙ ap (map (λ x. record { step = t.steps; asked = x })) (sym (done.asked later grows_next))
                ∙ sym (asked_in_step later loads t.steps done.found
                (each_weaker (λ a. a.step ≡ d.steps) (λ a. a.step ≡ t.steps) done.found (λ a k. k ∙ follows.steps) done.accessed)))
                ∙ sym (map-append (asked_at later loads) d.accesses done.found)
                ∙ ap (map (asked_at later loads)) (sym done.accesses);
            before = subst (Each (λ a. a.step < u.steps)) (sym done.accesses)
                (each_append (λ a. a.step < u.steps) d.accesses done.found
                (each_weaker (λ a. a.step < t.steps) (λ a. a.step < u.steps) d.accesses (λ a lt. omega (arith, lt, one_more)) follows.before)
                (each_weaker (λ a. a.step ≡ d.steps) (λ a. a.step < u.steps) done.found (λ a k. omega (arith, k, one_more, follows.steps)) done.accessed));
          })
