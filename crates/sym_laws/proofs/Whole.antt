-- Moves that reproduce a log do all steps of its paths.
use Rattle.std.proofs.Common.{◌≡◌, ◌∙◌, inl, inr, ℕ, ℤ, List, [], length, Option, Some, None, true}
use Rattle.std.proofs.Common.{refl, ap, sym, subst, arith, append-nil}
use Rattle.std.specs.Prelude.{slice_get, unwrap_or, option_map}
use Rattle.std.specs.List.{flat_map}
use Rattle.std.specs.FinMap as fin
use Rattle.std.proofs.lemmas.List.{length-map, take_all}
use Rattle.std.proofs.lemmas.Option.{none-some, same_Some, slice_get_cases, slice_get_within}
use Rattle.sym_exec.specs.tc_base.Buffers.{BufferOps}
use Rattle.sym_exec.specs.run_log.Logs.{Log}
use Rattle.sym_exec.specs.tc_base.Paths.{Path, ThreadPath}
use Rattle.sym_exec.specs.tc_base.States.{Thread, State}
use Rattle.sym_exec.specs.tc_base.declared.moves.Move.{Move}
use Rattle.sym_exec.specs.tc_code.Code.{Code}
use Rattle.sym_exec.specs.tc_code.Lawful.{IsLawful}
use Rattle.sym_exec.specs.tc_code.Run.{Reproduces, path_of}
use Rattle.sym_exec.specs.run_laws.Ints.{PassesInts}
use Rattle.path_laws.specs.run_history.History.{Deed, history}
use Rattle.sym_exec.specs.run_log.Logs.{is_log}
use Rattle.sym_exec.specs.path_walk.Fits.{Fits, places_in}
use Rattle.sym_exec.specs.path_walk.Paths.{walk_of, paths_of}
use Rattle.path_laws.specs.Prefixes.{AreOnPaths}
use Rattle.path_laws.proofs.Prefixes.{beginnings_on, own_under, so_far}
use Rattle.sym_exec.specs.sym_terms.Terms.{AreTerms}
use Rattle.sym_exec.specs.sym_terms.declared.node.Node.{Node}
use Rattle.sym_exec.specs.Thread.{Doing, after_all, route_of}
use Rattle.sym_exec.specs.Executed.{Course, fails_at, thread_started, thread_done}
use Rattle.sym_exec.specs.Alone.{outcome_by}
use Rattle.sym_laws.specs.Valued.{IsOneOf, AgreesWith, IsMet, asked_of, found, found_before, execution}
use Rattle.sym_laws.proofs.Lists.{each_is}
use Rattle.sym_laws.proofs.Executed.{course_of, counted}
use Rattle.sym_laws.proofs.Follows.{Follows, found_at_log, walks}
use Rattle.sym_laws.proofs.Runs.{follow_after}

module _ {B : Type 0} (ops : BufferOps B) (code : Code) (log : Log) (nodes : List Node) (loads : List ℤ) (ints : PassesInts ops)
    (lawful : IsLawful code) (is : is_log log ≡ true) (fits : Fits code log) (terms : AreTerms nodes) (moves : List Move)
    (r : Reproduces ops code log moves) (agrees : AgreesWith (found code log nodes).symbolic loads (history ops code moves)) where
  abbrev s : State B
  s = r.state

  abbrev h : List Deed
  h = history ops code moves

  on : AreOnPaths log s
  on = beginnings_on ops code log moves [] s (subst (Reproduces ops code log) (sym (append-nil moves)) r) r.leads

  module _ (j : ℕ) (p : ThreadPath) (at : slice_get log.threads j ≡ Some p) where
    abbrev whole : Doing
    whole = thread_done code (paths_of code log) (found_before code log nodes j) (walk_of code log p)

    -- all steps of the thread are done
    all_done : (t : Thread B) → fin.get s.threads p.name ≡ Some t → t.local.steps ≡ p.path.steps
        → execution code log nodes j (walk_of code log p) t.local.steps ≡ whole
    all_done t there steps =
        let w = walk_of code log p in
        let so = so_far ops code lawful log fits s (record { moves = moves; leads = r.leads }) on p.name t there in
        let path : so.on.path ≡ p.path = same_Some so.on.path p.path (sym so.on.there ∙ own_under log is j p at) in
        let long : length w.places ≡ t.local.steps =
        ap (λ o. length (places_in code log p.name (unwrap_or o 0))) so.function ∙ so.count ∙ ap (λ (x : Path). x.steps) path ∙ sym steps in
        ap (after_all (route_of code w (fails_at (paths_of code log) j w)) (thread_started code (found_before code log nodes j) w))
        (take_all t.local.steps w.places (omega (arith, long)))
        ∙ ap (λ n. after_all (route_of code w (fails_at (paths_of code log) n w)) (thread_started code (found_before code log nodes j) w) w.places)
        (sym (found_at_log code log nodes lawful is terms j p at).count)

    met_at : IsMet (found code log nodes).nodes loads h (course_of (walk_of code log p) whole)
    met_at = by (fin.get s.threads p.name) refl
      where
        by : (o : Option (Thread B)) → fin.get s.threads p.name ≡ o → IsMet (found code log nodes).nodes loads h (course_of (walk_of code log p) whole)
        by None none = absurd (none-some p.path (sym (ap (option_map path_of) none) ∙ r.paths p.name ∙ own_under log is j p at))
        by (Some t) there =
            let path : path_of t ≡ p.path = same_Some (path_of t) p.path (sym (ap (option_map path_of) there) ∙ r.paths p.name ∙ own_under log is j p at) in
            let all = all_done t there (ap (λ (x : Path). x.steps) path) in
            let f = follow_after ops code log nodes loads ints lawful is fits terms moves s r.leads on agrees j p t at there in
            let later = (found code log nodes).nodes in
            let g = subst (λ (d : Doing). Follows later loads d t.local (flat_map (asked_of p.name) h)) all f in
            record { tests = λ x one. each_is (λ x. outcome_by later loads x ≡ x.wanted) x whole.tests g.tests one; accesses = g.accesses }

  pub are_met : (c : Course) → IsOneOf c (found code log nodes).symbolic.threads → IsMet (found code log nodes).nodes loads h c
  are_met c one =
      elim (slice_get_cases log.threads one.0).1 [
        | inl is_there ↦
            let p = is_there.0 in
            let at = is_there.2 in
            let same = same_Some (course_of (walk_of code log p) (whole one.0 p at)) c
            (sym (found_at_log code log nodes lawful is terms one.0 p at).course ∙ one.1) in
            subst (IsMet (found code log nodes).nodes loads h) same (met_at one.0 p at)
        | inr past ↦
            let ws = walks code log nodes lawful is terms in
            let within = slice_get_within (found code log nodes).symbolic.threads one.0 c one.1 in
            let count = counted code lawful (paths_of code log) nodes terms ws in
            let long = length-map log.threads (walk_of code log) in
            absurd (omega (arith, past, within, count, long))
      ]
