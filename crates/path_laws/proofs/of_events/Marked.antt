-- The events of marked steps.
use Rattle.std.proofs.Common.{◌≡◌, ◌∙◌, inl, inr, ℕ, zero, suc, ◌+◌, ◌≤◌, ◌<◌, Bool, false, cond, ◌==◌, ◌&&◌, List, [], ◌∷◌, length, take, drop}
use Rattle.std.proofs.Common.{Option, Some, None, refl, ap, subst, arith}
use Rattle.std.specs.Prelude.{slice_get, unwrap_or, option_map}
use Rattle.std.specs.List.{AllByRecursion as Each, cons_option, find}
use Rattle.std.proofs.lemmas.Bool.{eq-eqb}
use Rattle.std.proofs.lemmas.Option.{none-some, same_Some}
use Rattle.path_walk.specs.tc_code.Code.{Code, line_at}
use Rattle.path_walk.specs.Steps.{Step}
use Rattle.path_walk.specs.Marks.{Marks, Marked, marks_after_instr, marks_after, marked_from}
use Rattle.path_walk.specs.Events.{kind_with, event_of, events_of}
use Rattle.path_walk.specs.declared.event.Event.{Event}
use Rattle.path_walk.specs.declared.event.EventKind.{EventKind}
use Rattle.run_follows.proofs.run_history.of_pending.In.{In, in_mapped}
use Rattle.path_laws.proofs.of_history.Places.{marked_at}
use Rattle.path_laws.proofs.of_events.Lists.{in_place, each_of}

-- an event is that of a step
pub record IsEventAt (fails : Bool) (j : ℕ) (m : Marks) (ss : List Step) (x : Event) : Type 0 where
  pub place : ℕ
  pub step : Step
  pub there : slice_get ss place ≡ Some step
  pub number : x.step ≡ j + place
  pub asks : kind_with (marks_after m (take place ss)) step.instr (fails && length (drop (suc place) ss) == 0) ≡ Some x.kind
  pub bars : x.bars ≡ (marks_after m (take place ss)).bars

-- the steps of events rise
abbrev pub Rising : List Event → Type 0
Rising [] = Unit {0}
Rising (x ∷ xs) = Each (λ y. x.step < y.step) xs × Rising xs

module _ (code : Code) (f : ℕ) (fails : Bool) where
  abbrev pub events_from : ℕ → Marks → List Step → List Event
  events_from j m ss = events_of code f (marked_from fails j m ss)

  -- the event of a step, by its kind
  abbrev pub event_at : ℕ → Step → Marks → EventKind → Event
  event_at j s m asked = record { step = j; line = unwrap_or (line_at code f s.place) 0; kind = asked; bars = m.bars }

  further : (j : ℕ) (m : Marks) (s : Step) (ss : List Step) (x : Event) → IsEventAt fails (j + 1) (marks_after_instr m s.instr) ss x → IsEventAt fails j m (s ∷ ss) x
  further j m s ss x e = record {
    place = suc e.place;
    step = e.step;
    there = e.there;
    number = e.number ∙ omega arith;
    asks = e.asks;
    bars = e.bars;
  }

  pub event_is_at : (j : ℕ) (m : Marks) (ss : List Step) (x : Event) → In x (events_from j m ss) → IsEventAt fails j m ss x
  event_is_at j m [] x i = absurd i
  event_is_at j m (s ∷ ss) x i =
      by (kind_with m s.instr (fails && length ss == 0)) refl i (λ later. further j m s ss x (event_is_at (j + 1) (marks_after_instr m s.instr) ss x later))
    where
      here : (asked : EventKind) → kind_with m s.instr (fails && length ss == 0) ≡ Some asked → IsEventAt fails j m (s ∷ ss) (event_at j s m asked)
      here asked e = record { place = 0; step = s; there = refl; number = omega arith; asks = e; bars = refl }

      by : (o : Option EventKind) → kind_with m s.instr (fails && length ss == 0) ≡ o
          → In x (cons_option (option_map (event_at j s m) o) (events_from (j + 1) (marks_after_instr m s.instr) ss))
          → (In x (events_from (j + 1) (marks_after_instr m s.instr) ss) → IsEventAt fails j m (s ∷ ss) x) → IsEventAt fails j m (s ∷ ss) x
      by None e i rest = rest i
      by (Some asked) e (inl same) rest = subst (IsEventAt fails j m (s ∷ ss)) same (here asked e)
      by (Some asked) e (inr i) rest = rest i

  -- a step with the kind of an event is an event
  pub event_there : (j : ℕ) (m : Marks) (ss : List Step) (k : ℕ) (s : Step) (asked : EventKind) → slice_get ss k ≡ Some s
      → kind_with (marks_after m (take k ss)) s.instr (fails && length (drop (suc k) ss) == 0) ≡ Some asked
      → In (event_at (j + k) s (marks_after m (take k ss)) asked) (events_from j m ss)
  event_there j m ss k s asked at e =
      let x : Marked = record { number = j + k; step = s; fails = fails && length (drop (suc k) ss) == 0; marks = marks_after m (take k ss) } in
      in_mapped (event_of code f) x (event_at (j + k) s (marks_after m (take k ss)) asked) (marked_from fails j m ss)
      (in_place x (marked_from fails j m ss) k (marked_at fails j m ss k s at)) (ap (option_map (event_at (j + k) s (marks_after m (take k ss)))) e)

  -- events don't come before the first step
  pub none_earlier : (j : ℕ) (m : Marks) (ss : List Step) → Each (λ x. j ≤ x.step) (events_from j m ss)
  none_earlier j m ss =
      each_of (λ x. j ≤ x.step) (events_from j m ss) (λ x i. let e = event_is_at j m ss x i in omega (arith, e.number))

  -- the steps of events rise
  pub events_rise : (j : ℕ) (m : Marks) (ss : List Step) → Rising (events_from j m ss)
  events_rise j m [] = tt
  events_rise j m (s ∷ ss) = by (kind_with m s.instr (fails && length ss == 0)) (events_rise (j + 1) (marks_after_instr m s.instr) ss)
    where
      by : (o : Option EventKind) → Rising (events_from (j + 1) (marks_after_instr m s.instr) ss)
          → Rising (cons_option (option_map (event_at j s m) o) (events_from (j + 1) (marks_after_instr m s.instr) ss))
      by None rest = rest
      by (Some asked) rest = (
        each_of (λ y. j < y.step) (events_from (j + 1) (marks_after_instr m s.instr) ss)
            (λ y i. let e = event_is_at (j + 1) (marks_after_instr m s.instr) ss y i in omega (arith, e.number)),
        rest,
      )

  -- the event of a step is found by its number
  none_found : (n : ℕ) (es : List Event) → Each (λ x. n < x.step) es → find (λ (x : Event). x.step == n) es ≡ None
  none_found n [] each = refl
  none_found n (x ∷ es) each =
      let apart : (x.step == n) ≡ false = grind (arith, each.0) in
      ap (λ b. cond b (Some x) (find (λ (y : Event). y.step == n) es)) apart ∙ none_found n es each.1

  found_first : (j : ℕ) (s : Step) (m : Marks) (o : Option EventKind) (es : List Event) → Each (λ x. j < x.step) es
      → find (λ (x : Event). x.step == j) (cons_option (option_map (event_at j s m) o) es) ≡ option_map (event_at j s m) o
  found_first j s m None es each = none_found j es each
  found_first j s m (Some asked) es each =
      ap (λ b. cond b (Some (event_at j s m asked)) (find (λ (x : Event). x.step == j) es)) (eq-eqb j j refl)

  found_behind : (n j : ℕ) (s : Step) (m : Marks) (o : Option EventKind) (es : List Event) → j < n
      → find (λ (x : Event). x.step == n) (cons_option (option_map (event_at j s m) o) es) ≡ find (λ (x : Event). x.step == n) es
  found_behind n j s m None es lt = refl
  found_behind n j s m (Some asked) es lt =
      let apart : (j == n) ≡ false = grind (arith, lt) in
      ap (λ b. cond b (Some (event_at j s m asked)) (find (λ (x : Event). x.step == n) es)) apart

  pub event_found : (j : ℕ) (m : Marks) (ss : List Step) (k : ℕ) (s : Step) (n : ℕ) → slice_get ss k ≡ Some s → n ≡ j + k
      → find (λ (x : Event). x.step == n) (events_from j m ss)
      ≡ option_map (event_at n s (marks_after m (take k ss))) (kind_with (marks_after m (take k ss)) s.instr (fails && length (drop (suc k) ss) == 0))
  event_found j m [] k s n at is = absurd (none-some s at)
  event_found j m (x ∷ ss) zero s n at is =
      let first : j ≡ n = omega (arith, is) in
      let later = events_from (j + 1) (marks_after_instr m x.instr) ss in
      subst (λ i. find (λ (y : Event). y.step == i) (events_from j m (x ∷ ss)) ≡ option_map (event_at i s m) (kind_with m s.instr (fails && length ss == 0)))
      first
      (found_first j x m (kind_with m x.instr (fails && length ss == 0)) later
      (each_of (λ y. j < y.step) later (λ y i. let e = event_is_at (j + 1) (marks_after_instr m x.instr) ss y i in omega (arith, e.number)))
      ∙ ap (λ (y : Step). option_map (event_at j y m) (kind_with m y.instr (fails && length ss == 0))) (same_Some x s at))
  event_found j m (x ∷ ss) (suc k) s n at is =
      found_behind n j x m (kind_with m x.instr (fails && length ss == 0)) (events_from (j + 1) (marks_after_instr m x.instr) ss) (omega (arith, is))
      ∙ event_found (j + 1) (marks_after_instr m x.instr) ss k s n at (omega (arith, is))
