-- A path that is blocked at a wake ends with the sleep.
use Rattle.std.proofs.Common.{◌≡◌, ◌∙◌, ◌⊎◌, inl, inr, ℕ, zero, suc, ◌+◌, ◌-◌, Bool, true, false, List, [], ◌∷◌, ◌++◌, length}
use Rattle.std.proofs.Common.{Option, Some, None, Ok, refl, sym, ap, ap₂, arith, true≢false, length-append}
use Rattle.std.specs.Prelude.{slice_get, unwrap_or, option_map}
use Rattle.std.specs.List.{cons_option}
use Rattle.std.specs.Option.{option_map_or}
use Rattle.std.proofs.lemmas.List.{length-map, map-append}
use Rattle.std.proofs.lemmas.Option.{none-some, same_Some}
use Rattle.path_walk.specs.run_log.Logs.{Log}
use Rattle.path_walk.specs.tc_code.Code.{Code, instr_at, line_at}
use Rattle.path_walk.specs.tc_code.Lawful.{IsLawful, is_bound, target}
use Rattle.path_walk.specs.tc_code.declared.code.Func.{Func}
use Rattle.path_walk.specs.tc_code.declared.instr.Instr.{Instr}
use Rattle.path_walk.specs.tc_code.declared.instr.Instr.TheVariants.{Branch, Goto, Sleep, Wake, Exit}
use Rattle.path_walk.proofs.tc_code.Facts.{placed}
use Rattle.run_follows.proofs.run_history.Lists.{filter_map-push}
use Rattle.path_walk.proofs.list_laws.Lists.{get_seam}
use Rattle.path_walk.specs.Events.{asks, event_of, events_of, sleep_by, sleeps_of, last_sleep, blocked_at}
use Rattle.path_walk.specs.Fits.{ending_of}
use Rattle.path_walk.specs.Marks.{Marks, Marked, marks_at_start, marks_after, marked_from, marked_steps}
use Rattle.path_walk.specs.Paths.{Walk, blocked_after}
use Rattle.path_walk.specs.Steps.{Onward, onward, places_from, end_from, standing, is_failing, step_at, steps_at}
use Rattle.path_walk.specs.Steps as path
use Rattle.path_walk.specs.declared.ending.Ending.{Ending}
use Rattle.path_walk.specs.declared.ending.Ending.TheVariants.{Fails, Rests, Open}
use Rattle.path_walk.specs.declared.event.Blocked.TheVariants as blocked
use Rattle.path_walk.specs.declared.event.Event.{Event}
use Rattle.path_walk.specs.declared.event.EventKind.TheVariants as kind
use Rattle.path_walk.specs.declared.event.Sleep.{Sleep as Wait}
use Rattle.path_walk.proofs.Places.{unrolled, end_more}
use Rattle.path_laws.proofs.Local.{marked_push}
use Rattle.path_laws.proofs.of_history.Walks.{IsWalk}
use Rattle.path_laws.specs.stuck.Blocked.{IsLastSleep}

abbrev the_event : Event → Event
the_event e = e

-- the last step of a path, which leads to its end
record IsLastStep (code : Code) (f n k : ℕ) (os : List Bool) (ps : List ℕ) : Type 0 where
  front : List ℕ
  place : ℕ
  instr : Instr
  all : ps ≡ front ++ place ∷ []
  at : instr_at code f place ≡ Some instr
  more : List Bool
  to : Onward
  leads : onward place instr more ≡ Some to
  end : end_from code f (suc n) k os ≡ to.place

last_step : (code : Code) (f n k : ℕ) (os : List Bool) (ps : List ℕ) → places_from code f (suc n) k os ≡ Ok ps → IsLastStep code f n k os ps
last_step code f zero k os ps told =
    let u = unrolled code f 0 k os ps told in
    let one : 1 ≡ 0 + 1 = omega arith in
    record {
      front = [];
      place = k;
      instr = u.instr;
      all = u.all ∙ ap (λ xs. k ∷ xs) (no_more u.next.place u.next.outcomes u.rest u.told);
      at = u.at;
      more = os;
      to = u.next;
      leads = u.leads;
      end = end_more code f 1 0 k os u.instr u.next one u.at u.leads;
    }
  where
    no_more : (p : ℕ) (os : List Bool) (rest : List ℕ) → places_from code f 0 p os ≡ Ok rest → rest ≡ []
    no_more p [] [] e = refl
    no_more p [] (x ∷ rest) e = absurd cc
    no_more p (o ∷ os) rest e = absurd cc
last_step code f (suc n) k os ps told =
    let u = unrolled code f (suc n) k os ps told in
    let rest = last_step code f n u.next.place u.next.outcomes u.rest u.told in
    let one : suc (suc n) ≡ suc n + 1 = omega arith in
    record {
      front = k ∷ rest.front;
      place = rest.place;
      instr = rest.instr;
      all = u.all ∙ ap (λ xs. k ∷ xs) rest.all;
      at = rest.at;
      more = rest.more;
      to = rest.to;
      leads = rest.leads;
      end = end_more code f (suc (suc n)) (suc n) k os u.instr u.next one u.at u.leads ∙ rest.end;
    }

-- an instruction leads to the next place, or jumps
data Leads (k : ℕ) (i : Instr) (to : ℕ) : Type 0 where
  Next : to ≡ k + 1 → Leads k i to
  Jumps : target i ≡ Some to → Leads k i to

branch_leads : (k next to : ℕ) (os : List Bool) (on : Onward) → path.branched next to os ≡ Some on → (on.place ≡ next) ⊎ (on.place ≡ to)
branch_leads k next to [] on e = absurd (none-some on e)
branch_leads k next to (true ∷ os) on e = inl (ap (λ (o : Onward). o.place) (sym (same_Some (record { place = next; outcomes = os }) on e)))
branch_leads k next to (false ∷ os) on e = inr (ap (λ (o : Onward). o.place) (sym (same_Some (record { place = to; outcomes = os }) on e)))

leads_by : (k : ℕ) (i : Instr) (os : List Bool) (on : Onward) → onward k i os ≡ Some on → Leads k i on.place
leads_by k (Branch e to) os on is =
    elim (branch_leads k (k + 1) to os on is) [
      | inl next ↦ Next next
      | inr jump ↦ Jumps (ap (λ p. Some p) (sym jump))
    ]
leads_by k (Goto to) os on is = Jumps (ap (λ (o : Onward). Some o.place) (same_Some (record { place = to; outcomes = os }) on is))
leads_by k i os on is = Next (sym (ap (λ (o : Onward). o.place) (same_Some (record { place = k + 1; outcomes = os }) on is)))

-- only the sleep before a wake leads to it
sleep_before : (code : Code) (f k p c m : ℕ) (i : Instr) → IsLawful code → instr_at code f k ≡ Some i → instr_at code f p ≡ Some (Wake c m)
    → Leads k i p → i ≡ Sleep c m
sleep_before code f k p c m i lawful at wake (Next is) =
    let g = placed code f k i lawful at in
    let next : p ≡ suc k = is ∙ omega arith in
    let w = placed code f p (Wake c m) lawful wake in
    let same : w.function ≡ g.function = same_Some w.function g.function (sym w.there ∙ g.there) in
    let there : slice_get g.function.instrs (suc k) ≡ Some (Wake c m) =
    ap₂ (λ (x : Func) n. slice_get x.instrs n) (sym same) (sym next) ∙ w.at in
    same_Some i (Sleep c m) (sym g.at ∙ g.lawful.wake (suc k) c m there)
sleep_before code f k p c m i lawful at wake (Jumps is) =
    let g = placed code f k i lawful at in
    let t = g.lawful.jump k p i g.at is in
    let w = placed code f p (Wake c m) lawful wake in
    let same : w.function ≡ g.function = same_Some w.function g.function (sym w.there ∙ g.there) in
    let there : t.instr ≡ Wake c m = same_Some t.instr (Wake c m) (sym t.there ∙ ap (λ (x : Func). slice_get x.instrs p) (sym same) ∙ w.at) in
    absurd (true≢false (sym (ap is_bound there) ∙ t.unbound))

-- no function begins with a wake
none_at_start : (code : Code) (f c m : ℕ) → IsLawful code → instr_at code f 0 ≡ Some (Wake c m) → ⊥
none_at_start code f c m lawful at = let g = placed code f 0 (Wake c m) lawful at in g.lawful.wake 0 c m g.at

-- Events that end with one that begins a wait.

sleeps_end : (es : List Event) (e : Event) (c m : ℕ) → e.kind ≡ kind.Sleep c m
    → (ss : List Wait) × (sleeps_of (es ++ e ∷ []) ≡ ss ++ record { step = e.step; condition = c; mutex = m; wake = None } ∷ [])
sleeps_end [] e c m is = ([], ap (λ k. cons_option (sleep_by e.step None k) []) is)
sleeps_end (x ∷ es) e c m is =
    let rest = sleeps_end es e c m is in
    let o = sleep_by x.step (slice_get (es ++ e ∷ []) 0) x.kind in
    (cons_option o rest.0, ap (cons_option o) rest.1 ∙ behind o rest.0 _)
  where
    behind : (o : Option Wait) (xs : List Wait) (s : Wait) → cons_option o (xs ++ s ∷ []) ≡ cons_option o xs ++ s ∷ []
    behind None xs s = refl
    behind (Some y) xs s = refl

last_of : {X : Type 0} (xs : List X) (x : X) → slice_get (xs ++ x ∷ []) (length (xs ++ x ∷ []) - 1) ≡ Some x
last_of xs x =
    let last : length (xs ++ x ∷ []) - 1 ≡ length xs = omega (arith, length-append xs (x ∷ [])) in
    ap (slice_get (xs ++ x ∷ [])) last ∙ get_seam xs x []

module _ (code : Code) (lawful : IsLawful code) (log : Log) (w : Walk) (k : IsWalk code log w) where
  -- a path that is blocked at a wake ends there
  record RestsAtWake (c m n : ℕ) : Type 0 where
    rests : is_failing (ending_of log w.name) ≡ false
    at : standing code w.function k.path ≡ Some (Wake c m)
    last : n ≡ last_sleep w.sleeps

  blocked_wake : (t : Marks) (ss : List Wait) (i : Instr) (c m n : ℕ) → blocked_at t ss i ≡ Some (blocked.Wake c m n)
      → (i ≡ Wake c m) × (n ≡ last_sleep ss)
  blocked_wake t ss (Wake d l) c m n e = let same : blocked.Wake d l (last_sleep ss) ≡ blocked.Wake c m n = cc in (cc, cc)
  blocked_wake t ss i c m n e = absurd cc

  rests_at_wake : (c m n : ℕ) → w.blocked ≡ Some (blocked.Wake c m n) → RestsAtWake c m n
  rests_at_wake c m n is = by (ending_of log w.name) refl (standing code w.function k.path) refl (sym k.blocked ∙ is)
    where
      by : (e : Ending) → ending_of log w.name ≡ e → (o : Option Instr) → standing code w.function k.path ≡ o
          → blocked_after e (marks_after (marks_at_start code w.function) (steps_at code w.function w.places)) w.sleeps o ≡ Some (blocked.Wake c m n)
          → RestsAtWake c m n
      by Rests e None at b = absurd (none-some (blocked.Wake c m n) b)
      by Rests e (Some i) at b =
          let is = blocked_wake (marks_after (marks_at_start code w.function) (steps_at code w.function w.places)) w.sleeps i c m n b in
          record { rests = ap is_failing e; at = at ∙ ap (λ x. Some x) is.0; last = is.1 }
      by Fails e o at b = absurd (none-some (blocked.Wake c m n) b)
      by Open e o at b = absurd (none-some (blocked.Wake c m n) b)

  ends_with_sleep : (c m : ℕ) → is_failing (ending_of log w.name) ≡ false → instr_at code w.function (end_from code w.function k.path.steps 0 k.path.outcomes)
      ≡ Some (Wake c m) → (x : Wait) × (xs : List Wait) × (w.sleeps ≡ xs ++ x ∷ []) × (x.condition ≡ c) × (x.mutex ≡ m) × (x.wake ≡ None)
      × (x.step + 1 ≡ length w.places)
  ends_with_sleep c m rests at = by k.path.steps refl
    where
      by : (n : ℕ) → k.path.steps ≡ n → (x : Wait) × (xs : List Wait) × (w.sleeps ≡ xs ++ x ∷ []) × (x.condition ≡ c) × (x.mutex ≡ m) × (x.wake ≡ None)
          × (x.step + 1 ≡ length w.places)
      by zero e = absurd (none_at_start code w.function c m lawful (ap (λ n. instr_at code w.function (end_from code w.function n 0 k.path.outcomes)) (sym e) ∙ at))
      by (suc n) e =
          let g = w.function in
          let l = last_step code g n 0 k.path.outcomes w.places (ap (λ i. places_from code g i 0 k.path.outcomes) (sym e) ∙ k.places) in
          let wake : instr_at code g l.to.place ≡ Some (Wake c m) =
          ap (instr_at code g) (sym l.end) ∙ ap (λ i. instr_at code g (end_from code g i 0 k.path.outcomes)) (sym e) ∙ at in
          let sleep : l.instr ≡ Sleep c m = sleep_before code g l.place l.to.place c m l.instr lawful l.at wake (leads_by l.place l.instr l.more l.to l.leads) in
          let front = steps_at code g l.front in
          let s = step_at code g l.place in
          let start = marks_at_start code g in
          let own : Marked = record { number = 0 + length front; step = s; fails = false; marks = marks_after start front } in
          let ev : Event = record { step = 0 + length front; line = unwrap_or (line_at code g l.place) 0; kind = kind.Sleep c m; bars = (marks_after start front).bars } in
          let is_it : s.instr ≡ Sleep c m = ap (λ o. unwrap_or o Exit) l.at ∙ sleep in
          let event : event_of code g own ≡ Some ev =
          ap (λ i. option_map (λ k. the_event (record { step = 0 + length front; line = unwrap_or (line_at code g l.place) 0; kind = k; bars = (marks_after start front).bars })) (asks (marks_after start front) i)) is_it in
          let older = events_of code g (marked_from false 0 start front) in
          let events : w.events ≡ older ++ ev ∷ [] =
          k.events
          ∙ ap (λ b. events_of code g (marked_steps code g b (steps_at code g w.places))) rests
          ∙ ap (λ ps. events_of code g (marked_steps code g false (steps_at code g ps))) l.all
          ∙ ap (λ ss. events_of code g (marked_steps code g false ss)) (map-append (step_at code g) l.front (l.place ∷ []))
          ∙ ap (events_of code g) (marked_push false 0 start front s)
          ∙ filter_map-push (event_of code g) (marked_from false 0 start front) own
          ∙ ap (λ o. older ++ cons_option o []) event in
          let sleeps = sleeps_end older ev c m refl in (
            record { step = ev.step; condition = c; mutex = m; wake = None },
            sleeps.0,
            k.sleeps ∙ ap sleeps_of events ∙ sleeps.1,
            refl,
            refl,
            refl,
            omega (arith, length-map l.front (step_at code g), ap length l.all, length-append l.front (l.place ∷ [])),
          )

  pub at_last_sleep : (c m n : ℕ) → w.blocked ≡ Some (blocked.Wake c m n) → IsLastSleep w c m n
  at_last_sleep c m n is =
      let r = rests_at_wake c m n is in
      let e = ends_with_sleep c m r.rests r.at in
      let last : slice_get w.sleeps (length w.sleeps - 1) ≡ Some e.0 = ap (λ ss. slice_get ss (length ss - 1)) e.2 ∙ last_of e.1 e.0 in
      let step : n ≡ e.0.step = r.last ∙ ap (λ o. option_map_or (λ (s : Wait). s.step) o 0) last in
      record {
        sleep = e.0;
        last = last;
        step = sym step;
        condition = e.3;
        mutex = e.4;
        wake = e.5;
        ends = ap (λ i. i + 1) step ∙ e.6;
      }
