-- A thread that has done all steps of its path.
use Rattle.std.proofs.Common.{◌≡◌, ◌∙◌, ◌++◌, Some, Ok, sym, ap, ap₂, subst, arith, append-nil, length, take}
use Rattle.std.specs.FinMap as fin
use Rattle.std.proofs.lemmas.List.{take_all}
use Rattle.path_walk.specs.tc_base.Paths.{Path}
use Rattle.path_walk.specs.tc_base.States.{Thread}
use Rattle.run_follows.specs.Logged.{path_by}
use Rattle.path_walk.specs.Steps.{places_from}
use Rattle.path_laws.specs.Setting.{Setting}
use Rattle.path_laws.specs.Prefixes.{fails_by}
use Rattle.path_laws.proofs.States.{Stands, stands_places}
use Rattle.path_laws.specs.history.Along.{HasDoneAll, HistoryAlong, PathThread}
use Rattle.path_laws.proofs.of_history.Told.{RunOf, steps_of, its_run}
use Rattle.path_laws.proofs.of_history.Walks.{IsWalking, walking}
use Rattle.path_laws.proofs.of_history.Places.{none_over}

abbrev the_path : Path → Path
the_path p = p

module _ {B : Type 0} (setting : Setting B) (history : HistoryAlong setting) (thread : PathThread setting.code setting.log)
    (done : HasDoneAll history.deeds thread.walk) where
  open setting use {machine, code, log}
  open history use {deeds as h}
  open thread use {walk as w}

  abbrev r : RunOf machine log h
  r = its_run setting history

  module _ (t : Thread B) (here : fin.get r.state.threads w.name ≡ Some t) where
    abbrev k : IsWalking setting history thread t
    k = walking setting history thread t here

    all_steps : t.local.steps ≡ length w.places
    all_steps = steps_of machine log h r w.name t here ∙ done

    -- it stands where all its places lead
    pub stands_all : Stands code (fails_by r.state.failed w.name) t.local w.places
    stands_all =
        subst (Stands code (fails_by r.state.failed w.name) t.local) (take_all t.local.steps w.places (omega (arith, all_steps)))
        (subst (λ ps. Stands code (fails_by r.state.failed w.name) t.local (take t.local.steps ps)) k.places k.so.stands)

    -- and has gone by all outcomes
    pub went_all : path_by t.local ≡ k.walk.path
    went_all =
        let f = t.local.function in
        let o = k.so.on in
        let steps : t.local.steps ≡ k.walk.path.steps = all_steps ∙ k.walk.long in
        let outcomes : k.walk.path.outcomes ≡ t.local.outcomes ++ o.later = ap (λ (p : Path). p.outcomes) (sym k.path) ∙ o.outcomes in
        let told = stands_places code (fails_by r.state.failed w.name) t.local w.places stands_all in
        let whole : places_from code f t.local.steps 0 (t.local.outcomes ++ o.later) ≡ Ok w.places =
        ap₂ (λ n os. places_from code f n 0 os) steps (sym outcomes) ∙ ap (λ g. places_from code g k.walk.path.steps 0 k.walk.path.outcomes) k.function
        ∙ k.walk.places in
        let none = none_over code f t.local.steps 0 t.local.outcomes o.later w.places w.places told whole in
        let all : k.walk.path.outcomes ≡ t.local.outcomes = outcomes ∙ ap (λ os. t.local.outcomes ++ os) none ∙ append-nil t.local.outcomes in
        ap₂ (λ os n. the_path (record { outcomes = os; steps = n })) (sym all) steps
