-- How the path of a thread ends, and what it joins, as its walk says and as it is told by its steps.
use Rattle.std.proofs.Common.{◌≡◌, ◌∙◌, ◌⊎◌, inl, inr, ℕ, zero, suc, ◌+◌, ◌-◌, ◌<◌, ◌==◌, ◌&&◌, Bool, true, false, cond, List, [], ◌∷◌, ◌++◌, length, take, drop}
use Rattle.std.proofs.Common.{Option, Some, None, Result, Ok, Err, refl, sym, ap, subst, arith, slice_index_or}
use Rattle.std.specs.Prelude.{slice_get, unwrap_or, option_and_then}
use Rattle.std.specs.Option.{option_map_or}
use Rattle.std.proofs.Math.Bool.{and-true}
use Rattle.std.proofs.Math.Seq.{take-length}
use Rattle.std.proofs.lemmas.Bool.{false≢true, eqb-true, eq-eqb}
use Rattle.std.proofs.lemmas.List.{length-drop, length-map, length-set, length-replicate}
use Rattle.std.proofs.lemmas.Option.{none-some, same_Some, slice_get_within}
use Rattle.log_walk.specs.run_log.Logs.{Log}
use Rattle.log_walk.specs.tc_base.Names.{Name}
use Rattle.log_walk.specs.tc_base.Paths.{Path}
use Rattle.log_walk.specs.tc_code.Code.{Code}
use Rattle.log_walk.specs.tc_code.Step.{child_number}
use Rattle.log_walk.specs.tc_code.declared.instr.Instr.{Instr}
use Rattle.log_walk.specs.tc_code.declared.instr.Instr.TheVariants.{Lock, Unlock, Sleep, Wake, Create, Join, Exit}
use Rattle.normal_logs.proofs.run_laws.Basics.{index_or-replicate}
use Rattle.normal_logs.proofs.run_history.of_pending.In.{In, in_mapped, from_mapped}
use Rattle.log_walk.specs.path_walk.Events.{asks, kind_with, join_by, joins_of, regions_of}
use Rattle.log_walk.specs.path_walk.Fits.{fails_in, ending_of}
use Rattle.log_walk.specs.path_walk.Marks.{Marks, marks_at_start, marks_after_instr, marks_after, has_mutex, handle_in}
use Rattle.log_walk.specs.path_walk.Paths.{Walk}
use Rattle.log_walk.specs.path_walk.Steps.{Step, step_at, steps_at, is_site, is_failing, places_if_well_ended, ends_at_site}
use Rattle.log_walk.specs.path_walk.declared.ending.Ending.{Ending}
use Rattle.log_walk.specs.path_walk.declared.ending.Ending.TheVariants.{Fails, Rests, Open}
use Rattle.log_walk.specs.path_walk.declared.event.Event.{Event}
use Rattle.log_walk.specs.path_walk.declared.event.EventKind.{EventKind}
use Rattle.log_walk.specs.path_walk.declared.event.EventKind.TheVariants as kind
use Rattle.log_walk.specs.path_walk.declared.event.Link.{Link}
use Rattle.log_walk.specs.path_walk.declared.fault.Misfit.{Misfit}
use Rattle.log_walk.specs.path_walk.declared.fault.Misfit.TheVariants.{NotASite}
use Rattle.normal_logs.specs.path_laws.events.Done.{IsOpenAfter}
use Rattle.log_walk.proofs.list_laws.Lists.{split_at}
use Rattle.normal_logs.proofs.path_laws.Local.{marks-append}
use Rattle.normal_logs.proofs.path_laws.of_history.Walks.{IsWalk}
use Rattle.normal_logs.proofs.path_laws.of_events.Lists.{in_contains, contains_in}
use Rattle.normal_logs.proofs.path_laws.of_events.Marked.{events_from, event_at, event_there, events_rise}
use Rattle.normal_logs.proofs.path_laws.of_events.Events.{at_step}
use Rattle.normal_logs.proofs.path_laws.of_events.Regions.{OpenRegion, held_upto, held_is, to_region, from_region}
use Rattle.normal_logs.proofs.path_laws.of_events.Sites.{walk_fails_at_site}
use Rattle.log_walk.specs.thread_paths.Ends.{is_exit, is_used}
use Rattle.log_walk.specs.Told.{Told, untold, is_create, told}
use Rattle.normal_logs.specs.Ends.{EndsWith, HoldsAtEnd, IsJoined, IsUsed}
use Rattle.walked_logs.proofs.Told.{Joins, JoinsNow, last_of, After, told_along, alike_first}

-- What the kind of an event says of its instruction.

abbrev is_exit_kind : EventKind → Bool
is_exit_kind kind.Exit = true
is_exit_kind _ = false

abbrev pub is_used_kind : EventKind → Bool
is_used_kind kind.Store = true
is_used_kind kind.Exchange = true
is_used_kind (kind.Unlock m) = true
is_used_kind (kind.Sleep c m) = true
is_used_kind (kind.Signal c) = true
is_used_kind (kind.Broadcast c) = true
is_used_kind (kind.Create k) = true
is_used_kind _ = false

abbrev joined_number : EventKind → Option ℕ
joined_number (kind.Join k) = Some k
joined_number _ = None

exit_by : (m : Marks) (i : Instr) → option_map_or is_exit_kind (asks m i) false ≡ is_exit i
exit_by m Exit = refl
exit_by m i = refl

used_by : (m : Marks) (i : Instr) → option_map_or is_used_kind (asks m i) false ≡ is_used i
used_by m Exit = refl
used_by m i = refl

-- an event of that kind is of an exit
pub asked_exit : (m : Marks) (i : Instr) (b : Bool) → kind_with m i b ≡ Some kind.Exit → is_exit i ≡ true
asked_exit m i true e = absurd (false≢true (ap (λ o. option_map_or is_exit_kind o false) e))
asked_exit m i false e = sym (exit_by m i) ∙ ap (λ o. option_map_or is_exit_kind o false) e

asked_used : (m : Marks) (i : Instr) (b : Bool) (a : EventKind) → is_used_kind a ≡ true → kind_with m i b ≡ Some a → is_used i ≡ true
asked_used m i true a used e = absurd (false≢true (ap (λ o. option_map_or is_used_kind o false) e ∙ used))
asked_used m i false a used e = sym (used_by m i) ∙ ap (λ o. option_map_or is_used_kind o false) e ∙ used

-- whether a kind is used, but for that of an exit which is joined
pub used_kind : (code : Code) (log : Log) (n : Name) (a : EventKind) → IsUsed code log n a → (is_used_kind a ≡ true) ⊎ (IsJoined code log n)
used_kind code log n kind.Exit u = inr u
used_kind code log n kind.Store u = inl refl
used_kind code log n kind.Exchange u = inl refl
used_kind code log n (kind.Unlock m) u = inl refl
used_kind code log n (kind.Sleep c m) u = inl refl
used_kind code log n (kind.Signal c) u = inl refl
used_kind code log n (kind.Broadcast c) u = inl refl
used_kind code log n (kind.Create k) u = inl refl
used_kind code log n a u = absurd u

-- the kind of a create
create_kind : (m : Marks) (i : Instr) (a : EventKind) → is_create i ≡ true → kind_with m i false ≡ Some a → a ≡ kind.Create (m.children + 1)
create_kind m (Create h f es) a is e = sym (same_Some (kind.Create (m.children + 1)) a e)
create_kind m i a is e = absurd (false≢true is)

one_more_child : (m : Marks) (i : Instr) → is_create i ≡ true → (marks_after_instr m i).children ≡ m.children + 1
one_more_child m (Create h f es) is = refl
one_more_child m i is = absurd (false≢true is)

-- neither of these is a site
pub exit_no_site : (i : Instr) → is_exit i ≡ true → is_site i ≡ false
exit_no_site Exit e = refl
exit_no_site i e = absurd (false≢true e)

site_or_used : (i : Instr) → (is_site i && is_used i) ≡ false
site_or_used Exit = refl
site_or_used i = refl

pub used_no_site : (i : Instr) → is_used i ≡ true → is_site i ≡ false
used_no_site i e = sym (and-true (is_site i)) ∙ ap (λ c. is_site i && c) (sym e) ∙ site_or_used i

create_no_site : (i : Instr) → is_create i ≡ true → is_site i ≡ false
create_no_site (Create h f es) e = refl
create_no_site i e = absurd (false≢true e)

-- a join

join_kind : (m : Marks) (i : Instr) (b : Bool) (k : ℕ) → kind_with m i b ≡ Some (kind.Join k) → JoinsNow m i k
join_kind m i true k e = absurd (none-some k (ap (option_and_then joined_number) e))
join_kind m (Join h) false k e = same_Some (child_number (handle_in m h)) k (ap (option_and_then joined_number) e)
join_kind m i false k e = absurd (none-some k (ap (option_and_then joined_number) e))

join_asks : (m : Marks) (i : Instr) (k : ℕ) → JoinsNow m i k → asks m i ≡ Some (kind.Join k)
join_asks m (Join h) k j = ap (λ n. Some (kind.Join n)) j
join_asks m i k j = absurd j

join_no_site : (m : Marks) (i : Instr) (k : ℕ) → JoinsNow m i k → is_site i ≡ false
join_no_site m (Join h) k j = refl
join_no_site m i k j = absurd j

join_link : (step : ℕ) (a : EventKind) (l : Link) → join_by step a ≡ Some l → a ≡ kind.Join l.child
join_link step (kind.Join c) l e = let one : Link = record { step = step; child = c } in ap (λ (x : Link). kind.Join x.child) (same_Some one l e)
join_link step kind.Load l e = absurd (none-some l e)
join_link step a l e = absurd (none-some l e)

-- where a step joins, and the other way round
record JoinsAt (m : Marks) (ss : List Step) (k : ℕ) : Type 0 where
  place : ℕ
  step : Step
  there : slice_get ss place ≡ Some step
  now : JoinsNow (marks_after m (take place ss)) step.instr k

joins_place : (m : Marks) (ss : List Step) (k : ℕ) → Joins m ss k → JoinsAt m ss k
joins_place m [] k j = absurd j
joins_place m (s ∷ ss) k (inl now) = record { place = 0; step = s; there = refl; now = now }
joins_place m (s ∷ ss) k (inr later) =
    let rest = joins_place (marks_after_instr m s.instr) ss k later in
    record { place = suc rest.place; step = rest.step; there = rest.there; now = rest.now }

joins_at : (m : Marks) (ss : List Step) (k p : ℕ) (s : Step) → slice_get ss p ≡ Some s → JoinsNow (marks_after m (take p ss)) s.instr k → Joins m ss k
joins_at m [] k p s at now = absurd (none-some s at)
joins_at m (x ∷ ss) k zero s at now = inl (subst (λ (y : Step). JoinsNow m y.instr k) (sym (same_Some x s at)) now)
joins_at m (x ∷ ss) k (suc p) s at now = inr (joins_at (marks_after_instr m x.instr) ss k p s at now)

-- The last step.

pub last_at : (kind : Instr → Bool) (b : Bool) (ss : List Step) (p : ℕ) (s : Step) → slice_get ss p ≡ Some s → p + 1 ≡ length ss
    → last_of kind b ss ≡ kind s.instr
last_at kind b [] p s at last = absurd (none-some s at)
last_at kind b (x ∷ []) zero s at last = ap (λ (y : Step). kind y.instr) (same_Some x s at)
last_at kind b (x ∷ []) (suc p) s at last = absurd (none-some s at)
last_at kind b (x ∷ y ∷ ss) zero s at last = absurd (omega (arith, last))
last_at kind b (x ∷ y ∷ ss) (suc p) s at last = last_at kind (kind x.instr) (y ∷ ss) p s at (omega (arith, last))

pub last_place : (code : Code) (f : ℕ) (kind : Instr → Bool) (ps : List ℕ)
    → option_map_or (λ k. kind (step_at code f k).instr) (slice_get ps (length ps - 1)) false ≡ last_of kind false (steps_at code f ps)
last_place code f kind [] = refl
last_place code f kind (p ∷ []) = refl
last_place code f kind (p ∷ q ∷ ps) =
    let last : length (p ∷ q ∷ ps) - 1 ≡ suc (length (q ∷ ps) - 1) = omega arith in
    ap (λ j. option_map_or (λ k. kind (step_at code f k).instr) (slice_get (p ∷ q ∷ ps) j) false) last ∙ last_place code f kind (q ∷ ps)

abbrev the_ok : List ℕ → Result (List ℕ) Misfit
the_ok ps = Ok ps

-- a path that fails ends at a site
site_at_end : (code : Code) (f : ℕ) (e : Ending) (p : Path) (ps : List ℕ) → places_if_well_ended code f e p (Ok ps) ≡ Ok ps → is_failing e ≡ true
    → ends_at_site code f ps ≡ true
site_at_end code f Open p ps is fails = absurd (false≢true fails)
site_at_end code f Rests p ps is fails = absurd (false≢true fails)
site_at_end code f Fails p ps is fails = by (ends_at_site code f ps) is
  where
    by : (b : Bool) → cond b (the_ok ps) (Err NotASite) ≡ the_ok ps → b ≡ true
    by true e = refl
    by false e = absurd cc

-- a path that ends with a create doesn't end at a site
create_or_site : (x y : Bool) (ss : List Step) → (x ≡ true → y ≡ false) → last_of is_create x ss ≡ true → last_of is_site y ss ≡ false
create_or_site x y [] apart e = apart e
create_or_site x y (s ∷ ss) apart e = create_or_site (is_create s.instr) (is_site s.instr) ss (create_no_site s.instr) e

nil_of : (ss : List Step) → length ss ≡ 0 → ss ≡ []
nil_of [] e = refl
nil_of (s ∷ ss) e = absurd (omega (arith, e))

-- where the last step of a kind is
record LastOf (kind : Instr → Bool) (ss : List Step) : Type 0 where
  place : ℕ
  step : Step
  there : slice_get ss place ≡ Some step
  last : place + 1 ≡ length ss
  is : kind step.instr ≡ true

last_there : (kind : Instr → Bool) (b : Bool) (ss : List Step) → b ≡ false → last_of kind b ss ≡ true → LastOf kind ss
last_there kind b [] none e = absurd (false≢true (sym none ∙ e))
last_there kind b (s ∷ []) none e = record { place = 0; step = s; there = refl; last = omega arith; is = e }
last_there kind b (s ∷ t ∷ ss) none e =
    let rest = last_there kind false (t ∷ ss) refl e in
    record { place = suc rest.place; step = rest.step; there = rest.there; last = omega (arith, rest.last); is = rest.is }

exit_asks : (m : Marks) (i : Instr) → is_exit i ≡ true → asks m i ≡ Some kind.Exit
exit_asks m Exit e = refl
exit_asks m i e = absurd (false≢true e)

-- Mutexes.

held_long : (t : Marks) (i : Instr) → length (marks_after_instr t i).held ≡ length t.held
held_long t (Lock l) = length-set t.held l true
held_long t (Unlock l) = length-set t.held l false
held_long t (Sleep c l) = length-set t.held l false
held_long t (Wake c l) = length-set t.held l true
held_long t i = refl

held_same : (t : Marks) (ss : List Step) → length (marks_after t ss).held ≡ length t.held
held_same t [] = refl
held_same t (s ∷ ss) = held_same (marks_after_instr t s.instr) ss ∙ held_long t s.instr

pub held_within : (held : List Bool) (m : ℕ) → slice_index_or held m false ≡ true → m < length held
held_within [] m e = absurd (false≢true e)
held_within (h ∷ held) zero e = omega arith
held_within (h ∷ held) (suc m) e = omega (arith, held_within held m e)

held_last : (o : Option Bool) (b : Bool) → b ≡ false → unwrap_or o b ≡ true → o ≡ Some true
held_last None b none e = absurd (false≢true (sym none ∙ e))
held_last (Some c) b none e = ap (λ x. Some x) e

module _ (code : Code) (log : Log) (w : Walk) (k : IsWalk code log w) where
  abbrev f : ℕ
  f = w.function

  abbrev b : Bool
  b = fails_in log w.name

  abbrev start : Marks
  start = marks_at_start code w.function

  abbrev pub steps : List Step
  steps = steps_at code w.function w.places

  abbrev pub says : Told
  says = told code w.function k.path

  -- what the path says
  pub says_so : After code w.function k.path.steps k.path.outcomes (untold code w.function) (marks_at_start code w.function) w.places says
  says_so =
      told_along code w.function k.path.steps k.path.outcomes (untold code w.function) (marks_at_start code w.function) w.places k.places
      (alike_first code w.function)

  pub many : length steps ≡ length w.places
  many = length-map w.places (step_at code w.function)

  pub site_fails : b ≡ true → ends_at_site code w.function w.places ≡ true
  site_fails fails =
      site_at_end code f (ending_of log w.name) k.path w.places (ap (places_if_well_ended code f (ending_of log w.name) k.path) (sym k.places) ∙ k.fits) fails

  -- the last step asks this
  pub record Last (asked : EventKind) : Type 0 where
    pub place : ℕ
    pub step : Step
    pub there : slice_get steps place ≡ Some step
    pub last : place + 1 ≡ length steps
    pub does : kind_with (marks_after start (take place steps)) step.instr b ≡ Some asked

  pub ends_last : (asked : EventKind) → EndsWith w asked → Last asked
  ends_last asked ends =
      let e = at_step code log w k ends.event (in_contains ends.event w.events ends.there) in
      let last : e.place + 1 ≡ length steps = omega (arith, e.number, ends.last, many) in
      let none : (length (drop (suc e.place) steps) == 0) ≡ true =
      eq-eqb (length (drop (suc e.place) steps)) 0 (omega (arith, length-drop (suc e.place) steps, last)) in
      record {
        place = e.place;
        step = e.step;
        there = e.there;
        last = last;
        does = ap (kind_with (marks_after start (take e.place steps)) e.step.instr) (sym (ap (λ c. b && c) none ∙ and-true b))
            ∙ e.asks ∙ ap (λ a. Some a) ends.asks;
      }

  -- a path that ends with an exit
  pub ends_exit : EndsWith w kind.Exit → last_of is_exit false steps ≡ true
  ends_exit ends =
      let l = ends_last kind.Exit ends in
      last_at is_exit false steps l.place l.step l.there l.last ∙ asked_exit (marks_after start (take l.place steps)) l.step.instr b l.does

  pub exit_site : EndsWith w kind.Exit → ends_at_site code w.function w.places ≡ false
  exit_site ends =
      let l = ends_last kind.Exit ends in
      last_place code f is_site w.places ∙ last_at is_site false steps l.place l.step l.there l.last
      ∙ exit_no_site l.step.instr (asked_exit (marks_after start (take l.place steps)) l.step.instr b l.does)

  pub ends_used : (a : EventKind) → is_used_kind a ≡ true → EndsWith w a → last_of is_used false steps ≡ true
  ends_used a used ends =
      let l = ends_last a ends in
      last_at is_used false steps l.place l.step l.there l.last ∙ asked_used (marks_after start (take l.place steps)) l.step.instr b a used l.does

  pub used_site : (a : EventKind) → is_used_kind a ≡ true → EndsWith w a → ends_at_site code w.function w.places ≡ false
  used_site a used ends =
      let l = ends_last a ends in
      last_place code f is_site w.places ∙ last_at is_site false steps l.place l.step l.there l.last
      ∙ used_no_site l.step.instr (asked_used (marks_after start (take l.place steps)) l.step.instr b a used l.does)

  -- a path that ends with a create
  pub create_site : says.at_create ≡ true → ends_at_site code w.function w.places ≡ false
  create_site e =
      last_place code f is_site w.places ∙ create_or_site false false steps (λ none. refl) (sym says_so.at_create ∙ e)

  pub create_some : says.at_create ≡ true → w.places ≡ [] → ⊥
  create_some e none = false≢true (sym (ap (λ ps. last_of is_create false (steps_at code w.function ps)) none) ∙ sym says_so.at_create ∙ e)

  -- it is the create of its last child
  pub create_last : says.at_create ≡ true → b ≡ false → (a : EventKind) → EndsWith w a → a ≡ kind.Create (length says.created)
  create_last e passes a ends =
      let l = ends_last a ends in
      let m = marks_after start (take l.place steps) in
      let is : is_create l.step.instr ≡ true =
      sym (last_at is_create false steps l.place l.step l.there l.last) ∙ sym says_so.at_create ∙ e in
      let none : drop (suc l.place) steps ≡ [] =
      nil_of (drop (suc l.place) steps) (omega (arith, length-drop (suc l.place) steps, l.last)) in
      let whole : steps ≡ take l.place steps ++ l.step ∷ [] =
      split_at steps l.place l.step l.there ∙ ap (λ xs. take l.place steps ++ l.step ∷ xs) none in
      let marks : marks_after start steps ≡ marks_after_instr m l.step.instr =
      ap (marks_after start) whole ∙ marks-append start (take l.place steps) (l.step ∷ []) in
      let count : length says.created ≡ m.children + 1 =
      says_so.alike.count ∙ ap (λ (x : Marks). x.children) marks ∙ one_more_child m l.step.instr is in
      create_kind m l.step.instr a is (ap (kind_with m l.step.instr) (sym passes) ∙ l.does) ∙ ap (λ n. kind.Create n) (sym count)

  -- a thread holds a mutex at its end where its path says so
  pub holds_so : (m : ℕ) → slice_index_or says.held m false ≡ true → HoldsAtEnd w m
  holds_so m e =
      let es = events_from code f b 0 start steps in
      let has : has_mutex (marks_after start steps) m ≡ true = ap (λ xs. slice_index_or xs m false) (sym says_so.alike.held) ∙ e in
      let within : m < length start.held =
      omega (arith, held_within (marks_after start steps).held m has, held_same start steps) in
      let told_by = held_is m code f b 0 start steps (length steps) within (omega arith) (walk_fails_at_site code log w k) in
      let upto : held_upto m (0 + length steps) es ≡ Some true =
      held_last (held_upto m (0 + length steps) es) (has_mutex start m) (index_or-replicate code.mutexes m false)
      (sym told_by ∙ ap (λ xs. has_mutex (marks_after start xs) m) (take-length steps) ∙ has) in
      let o = to_region m (0 + length steps) es upto in
      let same : w.regions ≡ regions_of es = k.regions ∙ ap regions_of k.events in
      let end : 0 + length steps ≡ length w.places = omega (arith, many) in
      record {
        region = o.region;
        there = contains_in o.region w.regions (subst (In o.region) (sym same) o.there);
        of = o.mutex;
        lasts = subst (λ n. IsOpenAfter n o.region) end o.open_after;
      }

  -- and its path says so where it holds it
  pub holds_back : (m : ℕ) → m < code.mutexes → HoldsAtEnd w m → slice_index_or says.held m false ≡ true
  holds_back m few h =
      let es = events_from code f b 0 start steps in
      let same : w.regions ≡ regions_of es = k.regions ∙ ap regions_of k.events in
      let end : length w.places ≡ 0 + length steps = omega (arith, many) in
      let o : OpenRegion m (0 + length steps) es = record {
        region = h.region;
        there = subst (In h.region) same (in_contains h.region w.regions h.there);
        mutex = h.of;
        open_after = subst (λ n. IsOpenAfter n h.region) end h.lasts;
      } in
      let within : m < length start.held = omega (arith, few, length-replicate code.mutexes false) in
      let told_by = held_is m code f b 0 start steps (length steps) within (omega arith) (walk_fails_at_site code log w k) in
      ap (λ xs. slice_index_or xs m false) says_so.alike.held
      ∙ ap (λ xs. has_mutex (marks_after start xs) m) (sym (take-length steps))
      ∙ told_by
      ∙ ap (λ x. unwrap_or x (has_mutex start m)) (from_region m (0 + length steps) es (events_rise code f b 0 start steps) o)

  -- it says so of each mutex
  pub held_many : length says.held ≡ code.mutexes
  held_many = ap length says_so.alike.held ∙ held_same start steps ∙ length-replicate code.mutexes false

  -- a path whose last step is an exit ends with that event
  pub exit_event : b ≡ false → last_of is_exit false steps ≡ true → EndsWith w kind.Exit
  exit_event passes e =
      let l = last_there is_exit false steps refl e in
      let m = marks_after start (take l.place steps) in
      let x = event_at code f b (0 + l.place) l.step m kind.Exit in
      let does : kind_with m l.step.instr (b && length (drop (suc l.place) steps) == 0) ≡ Some kind.Exit =
      ap (λ c. kind_with m l.step.instr (c && length (drop (suc l.place) steps) == 0)) passes ∙ exit_asks m l.step.instr l.is in
      let i : In x w.events = subst (In x) (sym k.events) (event_there code f b 0 start steps l.place l.step kind.Exit l.there does) in
      record { event = x; there = contains_in x w.events i; asks = refl; last = omega (arith, l.last, many) }

  -- Joins.

  pub joins_are : w.joins ≡ joins_of w.events
  joins_are = subst (λ (x : Walk). x.joins ≡ joins_of x.events) (sym k.is) refl

  pub joins_told : (l : Link) → In l w.joins → Joins start steps l.child
  joins_told l i =
      let from = from_mapped (λ (e : Event). join_by e.step e.kind) l w.events (subst (In l) joins_are i) in
      let e = at_step code log w k from.of from.there in
      let asked = join_link from.of.step from.of.kind l from.gives in
      joins_at start steps l.child e.place e.step e.there
      (join_kind (marks_after start (take e.place steps)) e.step.instr (b && length (drop (suc e.place) steps) == 0) l.child
      (e.asks ∙ ap (λ a. Some a) asked))

  pub joins_there : (c : ℕ) → Joins start steps c → (l : Link) × In l w.joins × (l.child ≡ c)
  joins_there c j =
      let p = joins_place start steps c j in
      let m = marks_after start (take p.place steps) in
      let x = event_at code f b (0 + p.place) p.step m (kind.Join c) in
      let l : Link = record { step = 0 + p.place; child = c } in
      let does : kind_with m p.step.instr (b && length (drop (suc p.place) steps) == 0) ≡ Some (kind.Join c) =
      ap (kind_with m p.step.instr) (passes p.place p.step p.there (join_no_site m p.step.instr c p.now)) ∙ join_asks m p.step.instr c p.now in
      let i : In x w.events = subst (In x) (sym k.events) (event_there code f b 0 start steps p.place p.step (kind.Join c) p.there does) in
      (l, subst (In l) (sym joins_are) (in_mapped (λ (e : Event). join_by e.step e.kind) x l w.events i refl), refl)
    where
      passes : (place : ℕ) (s : Step) → slice_get steps place ≡ Some s → is_site s.instr ≡ false → (b && length (drop (suc place) steps) == 0) ≡ false
      passes place s at other = by b refl (length (drop (suc place) steps) == 0) refl
        where
          by : (x : Bool) → b ≡ x → (y : Bool) → (length (drop (suc place) steps) == 0) ≡ y → (x && y) ≡ false
          by false e y g = refl
          by true e false g = refl
          by true e true g =
              let gone : length (drop (suc place) steps) ≡ 0 = eqb-true (length (drop (suc place) steps)) 0 g in
              let within = slice_get_within steps place s at in
              absurd (false≢true (sym other ∙ sym (last_at is_site false steps place s at (omega (arith, gone, length-drop (suc place) steps, within)))
              ∙ sym (last_place code f is_site w.places) ∙ site_fails e))
