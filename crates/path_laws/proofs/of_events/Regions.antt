-- After some steps of its path, a thread holds a mutex exactly if a region of the path is open
-- then.
use Rattle.std.proofs.Common.{◌≡◌, ◌∙◌, inl, inr, ℕ, zero, suc, ◌+◌, ◌-◌, ◌≤◌, ◌<◌, Bool, true, false, cond, ◌==◌, ◌&&◌, List, [], ◌∷◌, length, take}
use Rattle.std.proofs.Common.{Option, Some, None, refl, sym, ap, ap₂, subst, arith, true≢false}
use Rattle.std.specs.Prelude.{slice_get, nat_lt, unwrap_or, option_map, option_and_then}
use Rattle.std.specs.List.{AllByRecursion as Each, cons_option}
use Rattle.std.specs.Option.{option_map_or, option_or}
use Rattle.std.proofs.Math.Bool.{and-true, and-false}
use Rattle.std.proofs.Math.Dec.{eqb-suc-zero}
use Rattle.std.proofs.lemmas.Bool.{eqb-true, lt-ltb, le-ltb, ltb-true}
use Rattle.std.proofs.lemmas.List.{length-set}
use Rattle.std.proofs.lemmas.Option.{none-some, same_Some}
use Rattle.path_walk.proofs.list_laws.Options.{or_none}
use Rattle.path_walk.specs.tc_code.Code.{Code}
use Rattle.path_walk.specs.tc_code.declared.instr.Instr.{Instr}
use Rattle.path_walk.specs.tc_code.declared.instr.Instr.TheVariants.{Inside, Holds, Ready, Assert, Nonzero, InRange, Lock, Unlock, Sleep, Wake}
use Rattle.run_follows.proofs.run_history.Lists.{index_or-set}
use Rattle.run_follows.proofs.run_history.of_pending.In.{In}
use Rattle.path_walk.specs.Events.{kind_with, acquired_mutex, released_mutex, release_step, region_of, regions_of}
use Rattle.path_walk.specs.Marks.{Marks, marks_after_instr, marks_after, has_mutex}
use Rattle.path_walk.specs.Steps.{Step, is_site}
use Rattle.path_walk.specs.declared.event.Event.{Event}
use Rattle.path_walk.specs.declared.event.EventKind.{EventKind}
use Rattle.path_walk.specs.declared.event.Region.{Region}
use Rattle.path_laws.specs.events.Done.{IsOpenAfter}
use Rattle.path_laws.proofs.of_events.Marked.{events_from, none_earlier, Rising}

-- if the thread fails, it does so at a site, in its last step
abbrev pub FailsAtSite : Bool → List Step → Type 0
FailsAtSite b [] = Unit {0}
FailsAtSite b (s ∷ []) = b ≡ true → is_site s.instr ≡ true
FailsAtSite b (s ∷ t ∷ ss) = FailsAtSite b (t ∷ ss)

pub fails_at_site : (b : Bool) (ss : List Step) → ((s : Step) → slice_get ss (length ss - 1) ≡ Some s → b ≡ true → is_site s.instr ≡ true)
    → FailsAtSite b ss
fails_at_site b [] h = tt
fails_at_site b (s ∷ []) h = h s refl
fails_at_site b (s ∷ t ∷ ss) h =
    let last : length (s ∷ t ∷ ss) - 1 ≡ suc (length (t ∷ ss) - 1) = omega arith in
    fails_at_site b (t ∷ ss) (λ x at. h x (ap (slice_get (s ∷ t ∷ ss)) last ∙ at))

site_here : (b : Bool) (s : Step) (ss : List Step) → FailsAtSite b (s ∷ ss) → (b && length ss == 0) ≡ true → is_site s.instr ≡ true
site_here b s [] h e = h (sym (and-true b) ∙ e)
site_here b s (t ∷ ss) h e = absurd (true≢false (sym e ∙ ap (λ c. b && c) (eqb-suc-zero (length ss)) ∙ and-false b))

site_later : (b : Bool) (s : Step) (ss : List Step) → FailsAtSite b (s ∷ ss) → FailsAtSite b ss
site_later b s [] h = tt
site_later b s (t ∷ ss) h = h

-- a site changes no mark
pub site_marks : (m : Marks) (i : Instr) → is_site i ≡ true → marks_after_instr m i ≡ m
site_marks m (Inside len e) h = refl
site_marks m (Holds k) h = refl
site_marks m (Ready v) h = refl
site_marks m (Assert e) h = refl
site_marks m (Nonzero e) h = refl
site_marks m (InRange e) h = refl
site_marks m i h = absurd (true≢false (sym h))

-- each instruction keeps the number of marks for mutexes
held_long : (t : Marks) (i : Instr) → length (marks_after_instr t i).held ≡ length t.held
held_long t (Lock l) = length-set t.held l true
held_long t (Unlock l) = length-set t.held l false
held_long t (Sleep c l) = length-set t.held l false
held_long t (Wake c l) = length-set t.held l true
held_long t i = refl

module _ (m : ℕ) where
  abbrev is_it : Option ℕ → Bool
  is_it o = option_map_or (λ l. l == m) o false

  -- whether an event acquires the mutex (true) or releases it (false)
  abbrev hold : EventKind → Option Bool
  hold k = cond (is_it (acquired_mutex k)) (Some true) (cond (is_it (released_mutex k)) (Some false) None)

  -- the effect on the mutex of the last event before a step that has one
  abbrev pub held_upto : ℕ → List Event → Option Bool
  held_upto n [] = None
  held_upto n (e ∷ es) = option_or (held_upto n es) (cond (nat_lt e.step n) (hold e.kind) None)

  either : (b c d : Bool) → unwrap_or (cond b (Some c) None) d ≡ cond b c d
  either true c d = refl
  either false c d = refl

  -- a step changes the marks as its event does
  mutex_step : (t : Marks) (i : Instr) (fails : Bool) → (fails ≡ true → is_site i ≡ true) → m < length t.held
      → unwrap_or (option_and_then hold (kind_with t i fails)) (has_mutex t m) ≡ has_mutex (marks_after_instr t i) m
  mutex_step t i true site within = ap (λ (x : Marks). has_mutex x m) (sym (site_marks t i (site refl)))
  mutex_step t (Lock l) false site within = either (l == m) true (has_mutex t m) ∙ sym (index_or-set t.held l m true false within)
  mutex_step t (Unlock l) false site within = either (l == m) false (has_mutex t m) ∙ sym (index_or-set t.held l m false false within)
  mutex_step t (Sleep c l) false site within = either (l == m) false (has_mutex t m) ∙ sym (index_or-set t.held l m false false within)
  mutex_step t (Wake c l) false site within = either (l == m) true (has_mutex t m) ∙ sym (index_or-set t.held l m true false within)
  mutex_step t i false site within = refl

  -- no event comes before the first step
  none_held : (n : ℕ) (es : List Event) → Each (λ x. n ≤ x.step) es → held_upto n es ≡ None
  none_held n [] each = refl
  none_held n (e ∷ es) each =
      ap₂ (λ x b. option_or x (cond b (hold e.kind) None)) (none_held n es each.1) (le-ltb e.step n each.0)

  -- the event of a step before that of a number comes first
  held_cons : (n k : ℕ) (o : Option EventKind) (event : EventKind → Event) (es : List Event) → k < n → ((a : EventKind) → (event a).step ≡ k)
      → ((a : EventKind) → (event a).kind ≡ a) → held_upto n (cons_option (option_map event o) es) ≡ option_or (held_upto n es) (option_and_then hold o)
  held_cons n k None event es lt step is = sym (or_none (held_upto n es))
  held_cons n k (Some a) event es lt step is =
      ap₂ (λ b x. option_or (held_upto n es) (cond b (hold x) None))
      (ap (λ i. nat_lt i n) (step a) ∙ lt-ltb k n lt) (is a)

  unwrap_both : (x y : Option Bool) (d : Bool) → unwrap_or (option_or x y) d ≡ unwrap_or x (unwrap_or y d)
  unwrap_both None y d = refl
  unwrap_both (Some b) y d = refl

  -- the marks are as the events leave them
  pub held_is : (code : Code) (f : ℕ) (b : Bool) (j : ℕ) (t : Marks) (ss : List Step) (k : ℕ) → m < length t.held → k ≤ length ss → FailsAtSite b ss
      → has_mutex (marks_after t (take k ss)) m ≡ unwrap_or (held_upto (j + k) (events_from code f b j t ss)) (has_mutex t m)
  held_is code f b j t ss zero within few site =
      let start : j + 0 ≡ j = omega arith in
      sym (ap (λ n. unwrap_or (held_upto n (events_from code f b j t ss)) (has_mutex t m)) start
      ∙ ap (λ o. unwrap_or o (has_mutex t m)) (none_held j (events_from code f b j t ss) (none_earlier code f b j t ss)))
  held_is code f b j t [] (suc k) within few site = absurd (omega (arith, few))
  held_is code f b j t (s ∷ ss) (suc k) within few site =
      let fails = b && length ss == 0 in
      let later = events_from code f b (j + 1) (marks_after_instr t s.instr) ss in
      let number : (j + 1) + k ≡ j + suc k = omega arith in
      let rest = held_is code f b (j + 1) (marks_after_instr t s.instr) ss k (omega (arith, within, held_long t s.instr)) (omega (arith, few)) (site_later b s ss site) in
      let first = held_cons (j + suc k) j (kind_with t s.instr fails) _ later (omega arith) (λ a. refl) (λ a. refl) in
      rest
      ∙ ap (λ n. unwrap_or (held_upto n later) (has_mutex (marks_after_instr t s.instr) m)) number
      ∙ ap (unwrap_or (held_upto (j + suc k) later)) (sym (mutex_step t s.instr fails (site_here b s ss site) within))
      ∙ sym (unwrap_both (held_upto (j + suc k) later) (option_and_then hold (kind_with t s.instr fails)) (has_mutex t m))
      ∙ ap (λ o. unwrap_or o (has_mutex t m)) (sym first)

  -- Open regions.

  -- the region of an event that acquires a mutex
  abbrev region_at : Event → List Event → ℕ → Region
  region_at e later l = record { mutex = l; «from» = e.step; to = release_step l later }

  pub record OpenRegion (n : ℕ) (es : List Event) : Type 0 where
    pub region : Region
    pub there : In region (regions_of es)
    pub mutex : region.mutex ≡ m
    pub open_after : IsOpenAfter n region

  further : (n : ℕ) (e : Event) (es : List Event) → OpenRegion n es → OpenRegion n (e ∷ es)
  further n e es o = record { region = o.region; there = behind (region_of e es) o.there; mutex = o.mutex; open_after = o.open_after }
    where
      behind : (x : Option Region) → In o.region (regions_of es) → In o.region (cons_option x (regions_of es))
      behind None i = i
      behind (Some y) i = inr i

  test_is : (o : Option ℕ) → is_it o ≡ true → o ≡ Some m
  test_is None e = absurd (true≢false (sym e))
  test_is (Some l) e = ap (λ k. Some k) (eqb-true l m e)

  hold_true : (k : EventKind) → hold k ≡ Some true → acquired_mutex k ≡ Some m
  hold_true k e = by (is_it (acquired_mutex k)) refl (is_it (released_mutex k)) e
    where
      by : (b : Bool) → is_it (acquired_mutex k) ≡ b → (c : Bool) → cond b (Some true) (cond c (Some false) None) ≡ Some true → acquired_mutex k ≡ Some m
      by true t c e = test_is (acquired_mutex k) t
      by false t true e = absurd (true≢false (sym (same_Some false true e)))
      by false t false e = absurd (none-some true e)

  hold_false : (k : EventKind) → hold k ≡ Some false → is_it (released_mutex k) ≡ true
  hold_false k e = by (is_it (acquired_mutex k)) (is_it (released_mutex k)) refl e
    where
      by : (b c : Bool) → is_it (released_mutex k) ≡ c → cond b (Some true) (cond c (Some false) None) ≡ Some false → is_it (released_mutex k) ≡ true
      by true c t e = absurd (true≢false (same_Some true false e))
      by false true t e = t
      by false false t e = absurd (none-some false e)

  hold_leaves : (k : EventKind) → is_it (released_mutex k) ≡ true → hold k ≡ None → ⊥
  hold_leaves k leaves_it e = by (is_it (acquired_mutex k)) (ap (λ c. cond (is_it (acquired_mutex k)) (Some true) (cond c (Some false) None)) (sym leaves_it) ∙ e)
    where
      by : (b : Bool) → cond b (Some true) (Some false) ≡ None → ⊥
      by true e = none-some true (sym e)
      by false e = none-some false (sym e)

  -- if the first of two options or else the second is none, both are
  neither : (x y : Option Bool) → option_or x y ≡ None → (x ≡ None) × (y ≡ None)
  neither None y e = (refl, e)
  neither (Some b) y e = absurd (none-some b (sym e))

  -- if no event before a step has an effect, the first release isn't before it
  none_left : (n : ℕ) (es : List Event) (j : ℕ) → held_upto n es ≡ None → release_step m es ≡ Some j → n ≤ j
  none_left n [] j none left = absurd (none-some j left)
  none_left n (e ∷ es) j none left =
      let both = neither (held_upto n es) (cond (nat_lt e.step n) (hold e.kind) None) none in
      by (is_it (released_mutex e.kind)) refl (nat_lt e.step n) refl left both.1 (λ l. none_left n es j both.0 l)
    where
      by : (b : Bool) → is_it (released_mutex e.kind) ≡ b → (c : Bool) → nat_lt e.step n ≡ c → cond b (Some e.step) (release_step m es) ≡ Some j
          → cond c (hold e.kind) None ≡ None → (release_step m es ≡ Some j → n ≤ j) → n ≤ j
      by true t true lt left none rest = absurd (hold_leaves e.kind t none)
      by true t false lt left none rest = let same = same_Some e.step j left in grind (arith, lt, same)
      by false t c lt left none rest = rest left

  pub to_region : (n : ℕ) (es : List Event) → held_upto n es ≡ Some true → OpenRegion n es
  to_region n [] e = absurd (none-some true e)
  to_region n (x ∷ es) e = by (held_upto n es) refl e (λ later. to_region n es later)
    where
      here : (l : ℕ) → acquired_mutex x.kind ≡ Some l → l ≡ m → x.step < n → held_upto n es ≡ None → OpenRegion n (x ∷ es)
      here l takes_it same lt none =
          record {
            region = region_at x es l;
            there = subst (λ o. In (region_at x es l) (cons_option o (regions_of es))) (sym (ap (option_map (region_at x es)) takes_it)) (inl refl);
            mutex = same;
            open_after = record { begun = lt; lasts = λ j left. none_left n es j none (ap (λ k. release_step k es) (sym same) ∙ left) };
          }

      by_step : (c : Bool) → nat_lt x.step n ≡ c → cond c (hold x.kind) None ≡ Some true → held_upto n es ≡ None → OpenRegion n (x ∷ es)
      by_step true lt h none = here m (hold_true x.kind h) refl (ltb-true x.step n lt) none
      by_step false lt h none = absurd (none-some true h)

      by : (o : Option Bool) → held_upto n es ≡ o → option_or o (cond (nat_lt x.step n) (hold x.kind) None) ≡ Some true
          → (held_upto n es ≡ Some true → OpenRegion n es) → OpenRegion n (x ∷ es)
      by None none e rest = by_step (nat_lt x.step n) refl e none
      by (Some true) is e rest = further n x es (rest is)
      by (Some false) is e rest = absurd (true≢false (sym (same_Some false true e)))

  -- the first step that releases the mutex is that of an event
  left_in : (es : List Event) (j k : ℕ) → release_step m es ≡ Some j → Each (λ y. k < y.step) es → k < j
  left_in [] j k left each = absurd (none-some j left)
  left_in (e ∷ es) j k left each = by (is_it (released_mutex e.kind)) left (λ l. left_in es j k l each.1)
    where
      by : (b : Bool) → cond b (Some e.step) (release_step m es) ≡ Some j → (release_step m es ≡ Some j → k < j) → k < j
      by true left rest = subst (λ i. k < i) (same_Some e.step j left) each.0
      by false left rest = rest left

  -- if no event before a step releases the mutex, the last effect before it isn't a release
  never_left : (n : ℕ) (es : List Event) → Rising es → ((j : ℕ) → release_step m es ≡ Some j → n ≤ j) → held_upto n es ≡ Some false → ⊥
  never_left n [] rise lasts e = none-some false e
  never_left n (x ∷ es) rise lasts e = by (held_upto n es) refl e (λ later. never_left n es rise.1 later)
    where
      later : (j : ℕ) → release_step m es ≡ Some j → n ≤ j
      later j left = by_leaves (is_it (released_mutex x.kind)) refl
        where
          by_leaves : (b : Bool) → is_it (released_mutex x.kind) ≡ b → n ≤ j
          by_leaves true t =
              let first = lasts x.step (ap (λ b. cond b (Some x.step) (release_step m es)) t) in
              omega (arith, first, left_in es j x.step left rise.0)
          by_leaves false t = lasts j (ap (λ b. cond b (Some x.step) (release_step m es)) t ∙ left)

      by_step : (c : Bool) → nat_lt x.step n ≡ c → cond c (hold x.kind) None ≡ Some false → ⊥
      by_step true lt h =
          let first = lasts x.step (ap (λ b. cond b (Some x.step) (release_step m es)) (hold_false x.kind h)) in
          omega (arith, first, ltb-true x.step n lt)
      by_step false lt h = none-some false h

      by : (o : Option Bool) → held_upto n es ≡ o → option_or o (cond (nat_lt x.step n) (hold x.kind) None) ≡ Some false
          → (((j : ℕ) → release_step m es ≡ Some j → n ≤ j) → held_upto n es ≡ Some false → ⊥) → ⊥
      by None none e rest = by_step (nat_lt x.step n) refl e
      by (Some b) is e rest = rest later (is ∙ e)

  pub from_region : (n : ℕ) (es : List Event) → Rising es → OpenRegion n es → held_upto n es ≡ Some true
  from_region n [] rise o = absurd o.there
  from_region n (x ∷ es) rise o =
      by (acquired_mutex x.kind) refl o.there
      (λ i. from_region n es rise.1 (record { region = o.region; there = i; mutex = o.mutex; open_after = o.open_after }))
    where
      -- the last later event with an effect is none, or acquires the mutex
      last_by : (y : Option Bool) → held_upto n es ≡ y → ((j : ℕ) → release_step m es ≡ Some j → n ≤ j) → option_or y (Some true) ≡ Some true
      last_by None e lasts = refl
      last_by (Some true) e lasts = refl
      last_by (Some false) e lasts = absurd (never_left n es rise.1 lasts e)

      here : (l : ℕ) → acquired_mutex x.kind ≡ Some l → region_at x es l ≡ o.region → held_upto n (x ∷ es) ≡ Some true
      here l takes_it same =
          let mutex : l ≡ m = ap (λ (r : Region). r.mutex) same ∙ o.mutex in
          let begun : x.step < n = subst (λ i. i < n) (sym (ap (λ (r : Region). r.«from») same)) o.open_after.begun in
          let lasts : (j : ℕ) → release_step m es ≡ Some j → n ≤ j =
          λ j left. o.open_after.lasts j (sym (ap (λ (r : Region). r.to) same) ∙ ap (λ k. release_step k es) mutex ∙ left) in
          let takes_m : is_it (acquired_mutex x.kind) ≡ true = ap is_it takes_it ∙ eq_itself l mutex in
          ap (λ b. option_or (held_upto n es) (cond b (hold x.kind) None)) (lt-ltb x.step n begun)
          ∙ ap (λ b. option_or (held_upto n es) (cond b (Some true) (cond (is_it (released_mutex x.kind)) (Some false) None))) takes_m
          ∙ last_by (held_upto n es) refl lasts
        where
          eq_itself : (l : ℕ) → l ≡ m → (l == m) ≡ true
          eq_itself l e = grind (arith, e)

      by : (t : Option ℕ) → acquired_mutex x.kind ≡ t → In o.region (cons_option (option_map (region_at x es) t) (regions_of es))
          → (In o.region (regions_of es) → held_upto n es ≡ Some true) → held_upto n (x ∷ es) ≡ Some true
      by None t i rest = ap (λ y. option_or y (cond (nat_lt x.step n) (hold x.kind) None)) (rest i)
      by (Some l) t (inl same) rest = here l t same
      by (Some l) t (inr i) rest = ap (λ y. option_or y (cond (nat_lt x.step n) (hold x.kind) None)) (rest i)
