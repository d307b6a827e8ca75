-- A needless path of threads that make up a log is that of some thread of the log.
use Rattle.std.proofs.Common.{◌≡◌, ◌∙◌, inl, inr, true, List, [], ◌∷◌, ℕ, Option, Some, refl, sym, ap, subst}
use Rattle.std.specs.Prelude.{slice_get}
use Rattle.std.proofs.lemmas.Option.{none-some, same_Some}
use Rattle.log_walk.specs.run_log.Logs.{Log, is_log}
use Rattle.log_walk.specs.tc_base.Paths.{ThreadPath}
use Rattle.log_walk.specs.tc_code.Code.{Code, instr_at}
use Rattle.log_walk.specs.tc_code.declared.instr.Instr.{Instr}
use Rattle.pure_turns.specs.Live.{Liveness}
use Rattle.normal_logs.proofs.run_laws.Basics.{unless}
use Rattle.normal_logs.proofs.run_history.of_pending.In.{In, in_append}
use Rattle.log_walk.specs.path_walk.Fits.{Fits, function_of}
use Rattle.log_walk.specs.path_walk.Paths.{Walk}
use Rattle.normal_logs.specs.path_laws.history.Along.{IsThread, path_thread}
use Rattle.normal_logs.proofs.path_laws.of_history.Walks.{walk_is}
use Rattle.normal_logs.proofs.path_laws.of_events.Lists.{in_place}
use Rattle.log_walk.specs.thread_paths.Needless.{IsNeedless}
use Rattle.log_walk.specs.Told.{Told, told}
use Rattle.log_walk.specs.Rest.{Rest, MakeUp, Takes, all, leave, rest_by, children_from}
use Rattle.log_walk.specs.Needless.{SomeNeedless}
use Rattle.log_walk.specs.Needless.SomeNeedless.{Here, Later}
use Rattle.log_walk.specs.declared.bounds.Kind.{Kind}
use Rattle.log_walk.specs.declared.rest.Awaited.{Awaited}
use Rattle.walked_logs.proofs.Children.{child_in}
use Rattle.walked_logs.proofs.Known.{IsOf, of, function, child_made}

module _ (code : Code) (log : Log) (is : is_log log ≡ true) (fits : Fits code log) where
  -- each awaited thread runs the function that the log's paths give it
  abbrev AreKnown : List Awaited → Type 0
  AreKnown cs = (c : Awaited) → In c cs → function_of code log c.name ≡ Some c.function

  module _ (kind : Kind) (t : ThreadPath) (c : Awaited) (own : IsOf code log is fits t) (own_name : t.name ≡ c.name)
      (known : function_of code log c.name ≡ Some c.function) where
    abbrev T : Told
    T = told code c.function t.path

    abbrev at : Option Instr
    at = instr_at code c.function T.place

    children_known : AreKnown (children_from kind c.name at T 0 T.created)
    children_known d j = child_made code log is fits t c own own_name known kind at d (child_in kind c.name at T 0 T.created d j)

    known_by : (others : List Awaited) (rest : Rest) → AreKnown others → AreKnown (rest_by code kind rest c others T).awaited
    known_by others rest more d j =
        elim (in_append d (children_from kind c.name at T 0 T.created) others j) [
          | inl mine ↦ children_known d mine
          | inr other ↦ more d other
        ]

  -- and so do those that are awaited after its path
  known_next : (kind : Kind) (cs : List Awaited) (rest later : Rest) (t : ThreadPath) (next : Awaited) → In t log.threads → slice_get cs 0 ≡ Some next
      → t.name ≡ next.name → AreKnown cs → leave code kind cs rest t.path ≡ Some later → AreKnown later.awaited
  known_next kind [] rest later t next i first called known leaves = absurd (none-some later leaves)
  known_next kind (c ∷ others) rest later t next i first called known leaves =
      let same : c ≡ next = same_Some c next first in
      let own_name : t.name ≡ c.name = called ∙ ap (λ (x : Awaited). x.name) (sym same) in
      subst (λ (x : Rest). AreKnown x.awaited) (same_Some _ later (unless _ _ later leaves).1)
      (known_by kind t c (of code log is fits t i) own_name (known c (inl refl)) others rest (λ d j. known d (inr j)))

  -- a thread of the log whose path is needless
  pub record Needless (live : Liveness) : Type 0 where
    pub place : ℕ
    pub walk : Walk
    pub there : IsThread code log place walk
    pub needless : IsNeedless code live walk.function (walk_is code log is fits (path_thread place walk there)).path

  module _ (live : Liveness) (kind : Kind) where
    needless_of : (t : ThreadPath) (c : Awaited) → In t log.threads → t.name ≡ c.name → function_of code log c.name ≡ Some c.function
        → IsNeedless code live c.function t.path → Needless live
    needless_of t c i called known needless =
        let o = of code log is fits t i in
        record {
          place = o.place;
          walk = o.walk;
          there = o.there;
          needless = subst (IsNeedless code live o.walk.function) (sym o.path)
              (subst (λ f. IsNeedless code live f t.path) (sym (function code log is fits t c o called known)) needless);
        }

    shown : (rest : Rest) (ts : List ThreadPath) → SomeNeedless code live kind rest ts → MakeUp code kind rest ts
        → ((t : ThreadPath) → In t ts → In t log.threads) → AreKnown rest.awaited → Needless live
    shown rest [] some made there known = elim some [ ]
    shown rest (t ∷ ts) (Here next is_next needless) made there known =
        let takes : Takes code kind rest t made.0 = made.1 in
        let same : takes.next ≡ next = same_Some takes.next next (sym takes.is_next ∙ is_next) in
        needless_of t next (there t (inl refl)) (takes.name ∙ ap (λ (x : Awaited). x.name) same)
        (known next (in_place next rest.awaited 0 is_next)) needless
    shown rest (t ∷ ts) (Later {later = later} leaves more) made there known =
        let takes : Takes code kind rest t made.0 = made.1 in
        let same : later ≡ made.0 = same_Some later made.0 (sym leaves ∙ takes.leaves) in
        shown made.0 ts (subst (λ x. SomeNeedless code live kind x ts) same more) made.2 (λ u j. there u (inr j))
        (known_next kind rest.awaited rest made.0 t takes.next (there t (inl refl)) takes.is_next takes.name known takes.leaves)

    pub some_path : MakeUp code kind (all code kind) log.threads → SomeNeedless code live kind (all code kind) log.threads → Needless live
    some_path made some = shown (all code kind) log.threads some made (λ t i. i) main_known
      where
        main_known : AreKnown (all code kind).awaited
        main_known c (inl same) = subst (λ (x : Awaited). function_of code log x.name ≡ Some x.function) same refl
        main_known c (inr none) = absurd none
