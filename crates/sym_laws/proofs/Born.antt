-- A thread at its beginning, beside the execution of its path.
use Rattle.std.proofs.Common.{◌≡◌, ◌∙◌, ℕ, ◌+◌, ◌-◌, ◌<◌, ℤ, List, [], ◌∷◌, ◌++◌, map, length, take, get_or, true, false}
use Rattle.std.proofs.Common.{Option, Some, refl, ap, sym, subst, arith, bytes_eq}
use Rattle.std.specs.Prelude.{slice_get, unwrap_or}
use Rattle.std.specs.List.{flat_map, find}
use Rattle.std.specs.Option.{option_map_or}
use Rattle.std.proofs.lemmas.List.{take-take}
use Rattle.std.proofs.lemmas.Option.{same_Some, slice_get-get_or, slice_get_within}
use Rattle.sym_exec.specs.tc_base.Names.{Name, child}
use Rattle.sym_exec.specs.run_log.Logs.{Log}
use Rattle.sym_exec.specs.tc_base.Paths.{ThreadPath}
use Rattle.sym_exec.specs.tc_base.States.{Local}
use Rattle.sym_exec.specs.tc_base.declared.request.Request.TheVariants.{Start}
use Rattle.sym_exec.specs.tc_code.Code.{Code}
use Rattle.sym_exec.specs.tc_code.declared.instr.Instr.{Instr}
use Rattle.sym_exec.specs.tc_code.declared.instr.Instr.TheVariants.{Inside, Create, Holds, Ready, Assert, Nonzero, InRange}
use Rattle.sym_exec.specs.tc_code.Lawful.{IsLawful}
use Rattle.sym_exec.specs.tc_code.Step.{request, ints_of, arguments_of}
use Rattle.sym_exec.proofs.run_laws.Names.{child_apart}
use Rattle.path_laws.specs.run_history.History.{Deed, Did}
use Rattle.path_laws.specs.run_history.Locals.{after_step as thread_after, born_local}
use Rattle.sym_exec.specs.run_log.Logs.{is_log}
use Rattle.path_laws.proofs.States.{site_starts_none}
use Rattle.sym_exec.specs.path_walk.Fits.{function_of}
use Rattle.sym_exec.specs.path_walk.Paths.{Walk, walk_of, paths_of}
use Rattle.sym_exec.proofs.tc_base.Names.{same_refl}
use Rattle.sym_exec.specs.sym_terms.Terms.{AreTerms}
use Rattle.sym_exec.specs.sym_terms.Values.{value_of}
use Rattle.sym_exec.specs.sym_terms.declared.node.Node.{Node}
use Rattle.sym_exec.specs.Making.{Grows}
use Rattle.sym_exec.specs.Thread.{Handed, Doing, started, Route, route_of}
use Rattle.sym_exec.specs.Executed.{Course, Executed, handed_by, arguments_for, fails_at, thread_done}
use Rattle.sym_exec.specs.Alone.{slots_by, given_by, values_in}
use Rattle.sym_exec.proofs.Begun.{start_slots}
use Rattle.sym_exec.proofs.Courses.{takes_from_parent}
use Rattle.sym_exec.proofs.Grown.{grows_both}
use Rattle.sym_exec.proofs.Sound.{arguments_sound}
use Rattle.sym_exec.proofs.list_laws.Lists.{get_front, get_seam}
use Rattle.sym_laws.specs.Valued.{AgreesWith, asked_of, found, found_before, execution}
use Rattle.sym_laws.proofs.Lists.{get_take, found_at}
use Rattle.sym_laws.proofs.Names.{parent_before, others_before}
use Rattle.sym_laws.proofs.Steps.{Begins, next}
use Rattle.sym_laws.proofs.Beside.{IsDone}
use Rattle.sym_laws.proofs.Executed.{IsFoundAt, found_at_place, course_of, whole as found_from}
use Rattle.sym_laws.proofs.Follows.{Follows, GoesOnPath, found_at_log, walks, walk_at, asked_more, others_asked, begins_at, done, next_is}

-- a create hands over its arguments
gives_arguments : (t : Local) (i : Instr) (f : ℕ) → request t i ≡ Start f → given_by t i ≡ arguments_of t i ∷ []
gives_arguments t (Create h g es) f e = refl
gives_arguments t (Inside len x) f e = absurd (site_starts_none _ f e)
gives_arguments t (Holds k) f e = absurd (site_starts_none _ f e)
gives_arguments t (Ready k) f e = absurd (site_starts_none _ f e)
gives_arguments t (Assert x) f e = absurd (site_starts_none _ f e)
gives_arguments t (Nonzero x) f e = absurd (site_starts_none _ f e)
gives_arguments t (InRange x) f e = absurd (site_starts_none _ f e)
gives_arguments t i f e = absurd cc

-- a map to one element has one element
only_one : {X Y : Type 0} (g : X → Y) (xs : List X) (y : Y) → map g xs ≡ y ∷ [] → (x : X) × (xs ≡ x ∷ [])
only_one g [] y e = absurd cc
only_one g (x ∷ []) y e = (x, refl)
only_one g (x ∷ z ∷ xs) y e = absurd cc

module _ (code : Code) (log : Log) (nodes : List Node) (lawful : IsLawful code) (is : is_log log ≡ true) (terms : AreTerms nodes) where
  abbrev before : ℕ → Executed
  before k = found_before code log nodes k

  -- a thread follows its terms at its beginning, if the terms that it takes have the values of its
  -- arguments
  pub start_follows : (k : ℕ) (q : ThreadPath) (f : ℕ) (loads arguments : List ℤ) → slice_get log.threads k ≡ Some q → function_of code log q.name ≡ Some f
      → map (value_of (before k).nodes loads) (arguments_for (before k).symbolic.threads q.name) ≡ arguments
      → Follows (found code log nodes).nodes loads (execution code log nodes k (walk_of code log q) 0) (born_local code f arguments) []
  start_follows k q f loads arguments there function values =
      let x = before k in
      let well = (found_at_log code log nodes lawful is terms k q there).well in
      let taken = arguments_for x.symbolic.threads q.name in
      let same : f ≡ (walk_of code log q).function = sym (ap (λ o. unwrap_or o 0) function) in
      record {
        slots = start_slots (ints_of code f) taken x.symbolic.loads x.nodes loads arguments well.terms (arguments_sound x q.name well.sound) values
            ∙ ap (λ g. slots_by loads (started (ints_of code g) taken x.symbolic.loads x.nodes)) same;
        steps = refl;
        branches = refl;
        children = refl;
        tests = tt;
        accesses = refl;
        before = tt;
      }

  abbrev found_of : (ws : List Walk) → Executed
  found_of ws = found_from code lawful (paths_of code log) nodes terms ws

  abbrev ws : List Walk
  ws = walks code log nodes lawful is terms

  module _ (j : ℕ) (p : ThreadPath) (there : slice_get log.threads j ≡ Some p) where
    abbrev whole : Doing
    whole = thread_done code (paths_of code log) (before j) (walk_of code log p)

    -- a thread of the log, among those before a later one
    found_in : (k m : ℕ) (q : ThreadPath) → m < k → slice_get log.threads m ≡ Some q
        → IsFoundAt code lawful (paths_of code log) nodes terms (take k ws) m (walk_of code log q)
    found_in k m q lt at =
        found_at_place code lawful (paths_of code log) nodes terms (take k ws) m (walk_of code log q)
        (get_take ws m k lt ∙ walk_at code log nodes lawful is terms m q at)

    -- the thread itself
    pub record IsBefore (k : ℕ) : Type 0 where
      pub course : slice_get (before k).symbolic.threads j ≡ Some (course_of (walk_of code log p) whole)
      pub grows : Grows whole.nodes (before k).nodes

    is_before : (k : ℕ) → j < k → IsBefore k
    is_before k lt =
        let f = found_in k j p lt there in
        let same : take j (take k ws) ≡ take j ws = take-take j k ws (omega (arith, lt)) in
        let done_in : Executed → Doing = λ x. thread_done code (paths_of code log) x (walk_of code log p) in
        record {
          course = f.course ∙ ap (λ vs. Some (course_of (walk_of code log p) (done_in (found_of vs)))) same;
          grows = subst (λ vs. Grows (done_in (found_of vs)).nodes (before k).nodes) same f.grows;
        }

    -- no thread before it has its name
    none_before : (k m : ℕ) (c : Course) → j < k → m < j → slice_get (before k).symbolic.threads m ≡ Some c → bytes_eq c.name p.name ≡ false
    none_before k m c lt less at =
        let q = get_or log.threads m p in
        let qt : slice_get log.threads m ≡ Some q = slice_get-get_or log.threads m p (omega (arith, less, slice_get_within log.threads j p there)) in
        let f = found_in k m q (omega (arith, lt, less)) qt in
        let same : _ ≡ c = same_Some _ c (sym f.course ∙ at) in
        ap (λ (x : Course). bytes_eq x.name p.name) (sym same) ∙ others_before log is m j q p less qt there

    pub parent_is : (k : ℕ) → j < k → find (λ c. bytes_eq c.name p.name) (before k).symbolic.threads ≡ Some (course_of (walk_of code log p) whole)
    parent_is k lt =
        found_at (λ c. bytes_eq c.name p.name) (before k).symbolic.threads j (course_of (walk_of code log p) whole) (is_before k lt).course (same_refl p.name)
        (λ m c less at. none_before k m c lt less at)

    -- A child that a step of it creates.
    module _ (loads : List ℤ) (h : List Deed) (t : Local) (i : Instr) (v : ℤ) (o : Option Name) (goes : GoesOnPath code log p t i v)
        (follows : Follows (found code log nodes).nodes loads (execution code log nodes j (walk_of code log p) t.steps) t (flat_map (asked_of p.name) h))
        (agrees : AgreesWith (found code log nodes).symbolic loads (h ++ Did p.name t.steps (request t i) v o ∷ []))
        (f : ℕ) (asks : request t i ≡ Start f) (k : ℕ) (q : ThreadPath) (qt : slice_get log.threads k ≡ Some q)
        (name : q.name ≡ child p.name (t.children + 1)) (function : function_of code log q.name ≡ Some f) (fresh : flat_map (asked_of q.name) h ≡ []) where
      lt : j < k
      lt = parent_before log is j k p q (t.children + 1) there qt name

      abbrev x : Executed
      x = before k

      abbrev upto : ℕ → Doing
      upto n = execution code log nodes j (walk_of code log p) n

      abbrev u : Local
      u = thread_after t i (request t i) v

      abbrev d : Doing
      d = upto t.steps

      abbrev route : Route
      route = route_of code (walk_of code log p) (fails_at (paths_of code log) j (walk_of code log p))

      abbrev e : Doing
      e = next route d t.instruction

      abbrev step : IsDone route loads d e t u i v
      step = done code log nodes lawful is terms j p there loads h t i v o goes follows agrees

      abbrev begins : Begins (upto u.steps) whole
      begins = begins_at code log nodes lawful is terms j p there u.steps

      goes_to : upto u.steps ≡ e
      goes_to = next_is code log nodes lawful is terms j p there loads h t i v o goes follows agrees

      grows_to : Grows e.nodes x.nodes
      grows_to =
          subst (λ (y : Doing). Grows y.nodes x.nodes) goes_to
          (grows_both (upto u.steps).nodes whole.nodes x.nodes begins.grows (is_before k lt).grows)

      handed : map (values_in x.nodes loads) step.hands ≡ arguments_of t i ∷ []
      handed = step.given x.nodes grows_to ∙ gives_arguments t i f asks

      one : (hand : Handed) × (step.hands ≡ hand ∷ [])
      one = only_one (values_in x.nodes loads) step.hands (arguments_of t i) handed

      abbrev hand : Handed
      hand = one.0

      hand_is : slice_get whole.creates (t.children + 1 - 1) ≡ Some hand
      hand_is =
          let number : t.children + 1 - 1 ≡ length d.creates = omega (arith, follows.children) in
          let all : whole.creates ≡ (d.creates ++ hand ∷ []) ++ begins.hands =
          begins.creates
          ∙ ap (λ (y : Doing). y.creates ++ begins.hands) goes_to
          ∙ ap (λ hs. hs ++ begins.hands) (step.creates ∙ ap (λ hs. d.creates ++ hs) one.1) in
          ap (slice_get whole.creates) number ∙ ap (λ hs. slice_get hs (length d.creates)) all
          ∙ get_front (d.creates ++ hand ∷ []) begins.hands (length d.creates) hand (get_seam d.creates hand [])

      takes : arguments_for x.symbolic.threads q.name ≡ hand.terms
      takes =
          ap (arguments_for x.symbolic.threads) name
          ∙ takes_from_parent x.symbolic.threads p.name (t.children + 1)
          ∙ ap (λ c. option_map_or (handed_by (t.children + 1)) c []) (parent_is k lt)
          ∙ ap (λ y. option_map_or (λ (z : Handed). z.terms) y []) hand_is

      values : map (value_of x.nodes loads) hand.terms ≡ arguments_of t i
      values = let both : values_in x.nodes loads hand ∷ [] ≡ arguments_of t i ∷ [] = sym (ap (map (values_in x.nodes loads)) one.1) ∙ handed in cc

      abbrev deed : Deed
      deed = Did p.name t.steps (request t i) v o

      pub child_follows : Follows (found code log nodes).nodes loads (execution code log nodes k (walk_of code log q) 0) (born_local code f (arguments_of t i))
          (flat_map (asked_of q.name) (h ++ deed ∷ []))
      child_follows =
          let none : flat_map (asked_of q.name) (h ++ deed ∷ []) ≡ [] =
          asked_more q.name h deed
          ∙ ap (λ es. es ++ asked_of q.name deed) fresh
          ∙ others_asked q.name p.name t.steps (request t i) v o (λ same. child_apart p.name (t.children + 1) (sym name ∙ same)) in
          subst (Follows (found code log nodes).nodes loads (execution code log nodes k (walk_of code log q) 0) (born_local code f (arguments_of t i)))
          (sym none) (start_follows k q f loads (arguments_of t i) qt function (ap (map (value_of x.nodes loads)) takes ∙ values))
