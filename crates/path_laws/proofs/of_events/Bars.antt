-- Bars between the events of a thread.
use Rattle.std.proofs.Common.{◌≡◌, ◌∙◌, inl, inr, ℤ, ℕ, zero, suc, ◌+◌, ◌-◌, ◌≤◌, ◌<◌, Bool, true, false, not, cond, ◌==◌, ◌&&◌, List, [], ◌∷◌, ◌++◌, length, take, drop}
use Rattle.std.proofs.Common.{Option, Some, refl, sym, ap, ap₂, subst, arith, true≢false}
use Rattle.std.specs.Prelude.{slice_get, nat_lt}
use Rattle.std.proofs.Math.Seq.{take-suc}
use Rattle.std.proofs.lemmas.Bool.{cases_Bool, and_parts, eqb-true, eq-eqb, lt-ltb, ltb-true, false_from_ne_true}
use Rattle.std.proofs.lemmas.List.{length-drop, length-map}
use Rattle.std.proofs.lemmas.Option.{none-some, same_Some, slice_get_within, slice_get_cases, get_or_from_slice_get}
use Rattle.path_walk.specs.tc_base.Names.{Name}
use Rattle.path_walk.specs.tc_base.States.{Local}
use Rattle.path_walk.specs.tc_base.declared.request.Request.{Request}
use Rattle.path_walk.specs.tc_base.declared.request.Request.TheVariants.{Bar}
use Rattle.path_walk.specs.tc_code.Step.{request, site}
use Rattle.path_walk.specs.tc_code.declared.instr.Instr.{Instr}
use Rattle.path_walk.specs.tc_code.declared.instr.Instr.TheVariants.{Inside, Holds, Ready, Assert, Nonzero, InRange, Stbar}
use Rattle.run_follows.proofs.run_laws.Names.{is_same, same_self}
use Rattle.run_follows.specs.run_history.History.{Deed, Did, same}
use Rattle.run_follows.specs.run_history.Told.{steps_in}
use Rattle.run_follows.specs.run_history.pending.Deeds.{is_bar_between, has_bar_between}
use Rattle.run_follows.proofs.run_history.of_pending.In.{In, in_at, in_split, any_in, in_any}
use Rattle.path_walk.specs.Events.{kind_with}
use Rattle.path_walk.specs.Fits.{fails_in}
use Rattle.path_walk.specs.Marks.{Marks, marks_at_start, marks_after_instr, marks_after}
use Rattle.path_walk.specs.Steps.{Step, step_at, steps_at}
use Rattle.path_walk.specs.declared.event.Event.{Event}
use Rattle.path_walk.specs.declared.event.EventKind.{EventKind}
use Rattle.path_laws.specs.Setting.{Setting}
use Rattle.path_laws.proofs.of_history.Walks.{IsWalk, walk_is}
use Rattle.path_laws.proofs.of_history.Next.{path_step}
use Rattle.path_laws.proofs.Local.{marks-append}
use Rattle.path_laws.proofs.of_events.Events.{at_step, event_within}
use Rattle.path_laws.proofs.of_events.Steps.{IsStep, step_is, deed_of}
use Rattle.path_laws.specs.history.Along.{HistoryAlong, PathThread}

abbrev is_bar : Instr → Bool
is_bar Stbar = true
is_bar _ = false

-- only one instruction is a bar
stbar_is : (i : Instr) → is_bar i ≡ true → i ≡ Stbar
stbar_is Stbar e = refl
stbar_is i e = absurd (true≢false (sym e))

site_is_no_bar : (b : Bool) → site b ≡ Bar → ⊥
site_is_no_bar true e = cc
site_is_no_bar false e = cc

bar_is : (t : Local) (i : Instr) → request t i ≡ Bar → is_bar i ≡ true
bar_is t Stbar e = refl
bar_is t (Inside len x) e = absurd (site_is_no_bar _ e)
bar_is t (Holds m) e = absurd (site_is_no_bar _ e)
bar_is t (Ready v) e = absurd (site_is_no_bar _ e)
bar_is t (Assert x) e = absurd (site_is_no_bar _ e)
bar_is t (Nonzero x) e = absurd (site_is_no_bar _ e)
bar_is t (InRange x) e = absurd (site_is_no_bar _ e)
bar_is t i e = absurd cc

-- a bar adds one, and nothing else does
bars_more : (m : Marks) (i : Instr) → (marks_after_instr m i).bars ≡ m.bars + cond (is_bar i) 1 0
bars_more m Stbar = refl
bars_more m i = omega arith

-- The bars before a step.

-- there is an element at each place within a list
there : {X : Type 0} (xs : List X) (k : ℕ) → k < length xs → (x : X) × (slice_get xs k ≡ Some x)
there xs k few = elim (slice_get_cases xs k).1 [ inl is ↦ (is.0, is.2) | inr past ↦ absurd (omega (arith, few, past.0)) ]

take_one : {X : Type 0} (xs : List X) (k : ℕ) (x : X) → slice_get xs k ≡ Some x → take (suc k) xs ≡ take k xs ++ x ∷ []
take_one xs k x at = take-suc xs k x (slice_get_within xs k x at) ∙ ap (λ y. take k xs ++ y ∷ []) (get_or_from_slice_get xs k x x at)

module _ (m : Marks) (ss : List Step) where
  abbrev bars_at : ℕ → ℕ
  bars_at k = (marks_after m (take k ss)).bars

  bars_next : (k : ℕ) (s : Step) → slice_get ss k ≡ Some s → bars_at (suc k) ≡ bars_at k + cond (is_bar s.instr) 1 0
  bars_next k s at =
      ap (λ xs. (marks_after m xs).bars) (take_one ss k s at)
      ∙ ap (λ (x : Marks). x.bars) (marks-append m (take k ss) (s ∷ []))
      ∙ bars_more (marks_after m (take k ss)) s.instr

  -- two places have the same number of bars before them if there is no bar between
  bars_same : (d a : ℕ) → a + d ≤ length ss → ((i : ℕ) (s : Step) → a ≤ i → i < a + d → slice_get ss i ≡ Some s → is_bar s.instr ≡ false)
      → bars_at (a + d) ≡ bars_at a
  bars_same zero a few none = let same : a + 0 ≡ a = omega arith in ap bars_at same
  bars_same (suc d) a few none =
      let next : a + suc d ≡ suc (a + d) = omega arith in
      let s = there ss (a + d) (omega (arith, few)) in
      let rest = bars_same d a (omega (arith, few)) (λ i x lo hi at. none i x lo (omega (arith, hi)) at) in
      let no = none (a + d) s.0 (omega arith) (omega arith) s.1 in
      ap bars_at next ∙ bars_next (a + d) s.0 s.1 ∙ ap₂ (λ x b. x + cond b 1 0) rest no ∙ omega arith

  -- there are never fewer bars later
  bars_rise : (d a : ℕ) → a + d ≤ length ss → bars_at a ≤ bars_at (a + d)
  bars_rise zero a few = let same : a ≡ a + 0 = omega arith in let e = ap bars_at same in omega (arith, e)
  bars_rise (suc d) a few =
      let next : a + suc d ≡ suc (a + d) = omega arith in
      let s = there ss (a + d) (omega (arith, few)) in
      let rest = bars_rise d a (omega (arith, few)) in
      let one = ap bars_at next ∙ bars_next (a + d) s.0 s.1 in
      omega (arith, rest, one)

  -- there are more bars after a bar
  bars_grow : (a i b : ℕ) (s : Step) → a ≤ i → i < b → b ≤ length ss → slice_get ss i ≡ Some s → is_bar s.instr ≡ true → bars_at a < bars_at b
  bars_grow a i b s lo hi few at bar =
      let one = bars_next i s at ∙ ap (λ x. bars_at i + cond x 1 0) bar in
      let to : a + (i - a) ≡ i = omega (arith, lo) in
      let from : suc i + (b - suc i) ≡ b = omega (arith, hi) in
      let low = subst (λ x. bars_at a ≤ bars_at x) to (bars_rise (i - a) a (omega (arith, lo, hi, few))) in
      let high = subst (λ x. bars_at (suc i) ≤ bars_at x) from (bars_rise (b - suc i) (suc i) (omega (arith, hi, few))) in
      omega (arith, low, one, high)

-- a deed that is a bar between two steps
record IsBarAt (n : Name) (j k : ℕ) (d : Deed) : Type 0 where
  number : ℕ
  took : ℤ
  other : Option Name
  is : d ≡ Did n number Bar took other
  after : j < number
  before : number < k

bar_between : (n : Name) (j k : ℕ) (d : Deed) → is_bar_between n j k d ≡ true → IsBarAt n j k d
bar_between n j k (Did q i Bar took other) e =
    let both = and_parts (same n q && nat_lt j i) (nat_lt i k) e in
    let first = and_parts (same n q) (nat_lt j i) both.0 in
    record {
      number = i;
      took = took;
      other = other;
      is = ap (λ m. Did m i Bar took other) (sym (is_same n q first.0));
      after = ltb-true j i first.1;
      before = ltb-true i k both.1;
    }
bar_between n j k d e = absurd (true≢false (sym e))

is_between : (n : Name) (j i k : ℕ) (took : ℤ) (other : Option Name) → j < i → i < k → is_bar_between n j k (Did n i Bar took other) ≡ true
is_between n j i k took other lo hi =
    ap (λ b. b && nat_lt j i && nat_lt i k) (same_self n n refl)
    ∙ ap (λ b. true && b && nat_lt i k) (lt-ltb j i lo)
    ∙ ap (λ b. true && true && b) (lt-ltb i k hi)

-- a bar that is an event fails
event_is_no_bar : (m : Marks) (i : Instr) (fails : Bool) (asked : EventKind) → kind_with m i fails ≡ Some asked → is_bar i ≡ true → fails ≡ true
event_is_no_bar m i true asked e bar = refl
event_is_no_bar m i false asked e bar = absurd (none-some asked (ap (λ x. kind_with m x false) (sym (stbar_is i bar)) ∙ e))

module _ {B : Type 0} (setting : Setting B) (history : HistoryAlong setting) (thread : PathThread setting.code setting.log) where
  open setting use {code, log, log_is as is}
  open history use {deeds as h, fits}
  open thread use {walk as w}

  abbrev walk : IsWalk code log w
  walk = walk_is code log is fits thread

  abbrev ss : List Step
  ss = steps_at code w.function w.places

  abbrev start : Marks
  start = marks_at_start code w.function

  -- the path has the instruction of a deed's step
  step_on : (older : List Deed) (i : ℕ) (r : Request) (took : ℤ) (other : Option Name)
      (s : IsStep setting history thread older i r took other)
      → slice_get ss i ≡ Some (record { place = s.next.local.instruction; instr = s.next.instr })
  step_on older i r took other s =
      path_step code w i s.next.local.instruction s.next.instr (ap (slice_get w.places) s.may.number ∙ s.next.place) s.next.at

  module _ (x y : Event) (xi : In x w.events) (yi : In y w.events) (less : x.step < y.step) (few : y.step ≤ steps_in h w.name) where
    x_bars : x.bars ≡ bars_at start ss x.step
    x_bars =
        let e = at_step code log w walk x xi in
        let same : e.place ≡ x.step = omega (arith, e.number) in
        e.bars ∙ ap (bars_at start ss) same

    y_bars : y.bars ≡ bars_at start ss y.step
    y_bars =
        let e = at_step code log w walk y yi in
        let same : e.place ≡ y.step = omega (arith, e.number) in
        e.bars ∙ ap (bars_at start ss) same

    within : y.step < length ss
    within = omega (arith, event_within code log w walk y yi, length-map w.places (step_at code w.function))

    with_bar : has_bar_between h w.name x.step y.step ≡ true → x.bars < y.bars
    with_bar has =
        let p = any_in (is_bar_between w.name x.step y.step) h has in
        let b = bar_between w.name x.step y.step p.one p.passes in
        let at = in_split p.one h p.there in
        let s = step_is setting history thread at.older at.newer b.number Bar b.took b.other
        (at.there ∙ ap (λ d. at.older ++ d ∷ at.newer) b.is) in
        let grow = bars_grow start ss x.step b.number y.step _ (omega (arith, b.after)) b.before (omega (arith, within))
        (step_on at.older b.number Bar b.took b.other s) (bar_is s.next.local s.next.instr s.asks) in
        omega (arith, grow, x_bars, y_bars)

    -- if the history has no bar between two steps, neither has the path
    no_bar_at : has_bar_between h w.name x.step y.step ≡ false → (i : ℕ) (s : Step) → x.step ≤ i → i < y.step → slice_get ss i ≡ Some s
        → is_bar s.instr ≡ true → ⊥
    no_bar_at none i s lo hi at bar = by (nat_lt x.step i) refl
      where
        by : (b : Bool) → nat_lt x.step i ≡ b → ⊥
        by true e =
            let d = deed_of setting history thread i (omega (arith, hi, few)) in
            let same : s.instr ≡ d.step.next.instr =
            ap (λ (z : Step). z.instr) (same_Some s _ (sym at ∙ step_on d.older i d.request d.took d.other d.step)) in
            let asks : d.request ≡ Bar = sym d.step.asks ∙ ap (request d.step.next.local) (sym same ∙ stbar_is s.instr bar) in
            let deed = Did w.name i Bar d.took d.other in
            let in_h : In deed h =
            subst (In deed) (sym (d.at ∙ ap (λ r. d.older ++ Did w.name i r d.took d.other ∷ d.newer) asks)) (in_at d.older deed d.newer) in
            true≢false
            (sym (in_any (is_bar_between w.name x.step y.step) deed h in_h
            (is_between w.name x.step i y.step d.took d.other (ltb-true x.step i e) hi)) ∙ none)
        by false e =
            let ev = at_step code log w walk x xi in
            let same : i ≡ ev.place = grind (arith, e, lo, ev.number) in
            let step : s ≡ ev.step = same_Some s ev.step (sym at ∙ ap (slice_get ss) same ∙ ev.there) in
            let fails : (fails_in log w.name && length (drop (suc ev.place) ss) == 0) ≡ true =
            event_is_no_bar (marks_after start (take ev.place ss)) ev.step.instr (fails_in log w.name && length (drop (suc ev.place) ss) == 0) x.kind ev.asks
            (ap (λ (z : Step). is_bar z.instr) (sym step) ∙ bar) in
            let last : length (drop (suc ev.place) ss) ≡ 0 =
            eqb-true (length (drop (suc ev.place) ss)) 0 (and_parts (fails_in log w.name) (length (drop (suc ev.place) ss) == 0) fails).1 in
            omega (arith, last, length-drop (suc ev.place) ss, ev.number, less, within)

    pub told : has_bar_between h w.name x.step y.step ≡ not (x.bars == y.bars)
    told =
        elim (cases_Bool (has_bar_between h w.name x.step y.step)) [
          | inl has ↦
              let more = with_bar has in
              let differ : (x.bars == y.bars) ≡ false = grind (arith, more) in
              has ∙ sym (ap not differ)
          | inr none ↦
              let to : x.step + (y.step - x.step) ≡ y.step = omega (arith, less) in
              let same = bars_same start ss (y.step - x.step) x.step (omega (arith, to, within))
              (λ i s lo hi at. false_from_ne_true (is_bar s.instr) (no_bar_at none i s lo (omega (arith, hi, to)) at)) in
              let equal : x.bars ≡ y.bars = x_bars ∙ sym same ∙ ap (bars_at start ss) to ∙ sym y_bars in
              none ∙ sym (ap not (eq-eqb x.bars y.bars equal))
        ]
