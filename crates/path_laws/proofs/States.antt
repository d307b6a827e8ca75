-- Facts on the paths of all threads in each state of a run.
use Rattle.std.proofs.Common.{◌≡◌, ◌≢◌, ◌∙◌, ◌⊎◌, inl, inr, ℕ, suc, ◌+◌, ◌-◌, ℤ, pos, ◌||◌, Bool, true, false, List, [], ◌∷◌, ◌++◌, length}
use Rattle.std.proofs.Common.{Option, Some, None, Ok, refl, sym, ap, ap₂, subst, arith, append-nil, slice_index_or, IsTrue, true≢false}
use Rattle.std.specs.Prelude.{slice_get, is_none, not}
use Rattle.std.specs.FinMap as fin
use Rattle.std.specs.List.{cons_option}
use Rattle.std.specs.Bool.{beq}
use Rattle.std.specs.Result.{result_unwrap_or}
use Rattle.std.proofs.lemmas.Bool.{and_parts}
use Rattle.std.proofs.lemmas.Option.{none-some}
use Rattle.path_walk.specs.tc_base.Names.{Name, ByName, by_name, child}
use Rattle.path_walk.specs.tc_base.Buffers.{BufferOps}
use Rattle.path_walk.specs.tc_base.States.{Local, Thread, State}
use Rattle.path_walk.specs.tc_base.declared.handle.Handle.TheVariants.{Unset}
use Rattle.path_walk.specs.tc_base.declared.request.Request.{Request}
use Rattle.path_walk.specs.tc_base.declared.request.Request.TheVariants.{Acquire, Start, Fail}
use Rattle.path_walk.specs.tc_code.Code.{Code, instr_at}
use Rattle.path_walk.proofs.tc_code.Facts.{at_its_place}
use Rattle.path_walk.specs.tc_code.declared.instr.Instr.{Instr}
use Rattle.path_walk.specs.tc_code.declared.instr.Instr.TheVariants.{Inside, Branch, Goto, Holds, Lock}
use Rattle.path_walk.specs.tc_code.declared.instr.Instr.TheVariants.{Signal, Create, Ready, Assert, Nonzero, InRange}
use Rattle.path_walk.specs.tc_code.Lawful.{IsLawful}
use Rattle.path_walk.specs.tc_code.Run.{IsReached}
use Rattle.path_walk.specs.tc_code.Step.{request, site, holds, handle_of, can_be_joined, step_in_place, local_after, arguments_of, instr_of, allows}
use Rattle.path_walk.specs.tc_code.Step.{drains_first, perform, born, state_after_wake, opening}
use Rattle.path_walk.specs.tc_code.Step as machine
use Rattle.path_walk.proofs.list_laws.Lists.{get_front, get_seam}
use Rattle.path_walk.specs.Steps.{onward, places_from, steps_at, is_site}
use Rattle.path_walk.specs.Fits.{starts, started}
use Rattle.path_walk.specs.Marks.{Marks}
use Rattle.path_walk.specs.Events.{excludes}
use Rattle.path_walk.proofs.tc_base.Names.{same_refl}
use Rattle.run_follows.specs.run_laws.Laws.{owner_of}
use Rattle.run_follows.proofs.run_laws.Changes.{is_fail, site_is_true}
use Rattle.run_follows.proofs.run_laws.Created.{child_is_new}
use Rattle.run_follows.proofs.run_laws.Names.{same_or_apart, one_under, get_put, get_put_apart, get_put_cases, child_apart}
use Rattle.run_follows.proofs.run_laws.Owners.{owners_hold}
use Rattle.run_follows.proofs.run_history.Frame.{Keeps, holds_after}
use Rattle.run_follows.specs.run_history.Locals.{after_step}
use Rattle.run_follows.proofs.run_history.Threads.{own, with_born, performed_threads, steps_by}
use Rattle.path_laws.specs.Along.{HasMarks, IsAlong}
use Rattle.path_laws.specs.Prefixes.{fails_by}
use Rattle.path_laws.proofs.Does.{bytes_other, failed_after, failed_is}
use Rattle.path_laws.proofs.Local.{one_more, moves, marks_move, children_move, started_push, goes_along, marks_here}

-- A site whose test is false.

site_fails : (b : Bool) → site b ≡ Fail → b ≡ false
site_fails true e = absurd cc
site_fails false e = refl

pub fail_is_site : (t : Local) (i : Instr) → request t i ≡ Fail → is_site i ≡ true
fail_is_site t (Inside len e) h = refl
fail_is_site t (Holds m) h = refl
fail_is_site t (Ready k) h = refl
fail_is_site t (Assert e) h = refl
fail_is_site t (Nonzero e) h = refl
fail_is_site t (InRange e) h = refl
fail_is_site t i h = absurd cc

-- a site leads to the next place
site_leads : (t : Local) (k : ℕ) (i : Instr) → request t i ≡ Fail → onward k i [] ≡ Some (record { place = k + 1; outcomes = [] })
site_leads t k (Branch e to) h = absurd cc
site_leads t k (Goto to) h = absurd cc
site_leads t k _ h = refl

-- a false site isn't a step that no run can do
pub fail_possible : (t : Local) (m : Marks) (i : Instr) → request t i ≡ Fail → HasMarks t m → excludes m i true ≡ false
fail_possible t m (Lock k) h marks = absurd cc
fail_possible t m (Holds k) h marks = ap (λ b. beq b true) (ap (λ xs. slice_index_or xs k false) marks.held ∙ site_fails (holds t k) h)
fail_possible t m (Ready k) h marks =
    ap (λ b. beq b true) (ap (λ xs. can_be_joined (slice_index_or xs k Unset)) marks.handles ∙ site_fails (can_be_joined (handle_of t k)) h)
fail_possible t m _ h marks = refl

-- A step of a thread, including one at which it fails.

-- where a step leads, with its outcome if it has one
record IsLed (t u : Local) (i : Instr) : Type 0 where
  more : List Bool
  outcomes : u.outcomes ≡ t.outcomes ++ more
  to : ℕ
  leads : onward t.instruction i more ≡ Some (record { place = to; outcomes = [] })

-- each instruction that doesn't fail leads on
led_on : (t : Local) (i : Instr) (v : ℤ) → IsLed t (local_after t i v) i
led_on t i v =
    let m = moves t i v in record { more = m.more; outcomes = m.outcomes; to = (local_after t i v).instruction; leads = m.leads }

-- each step leads on
led_by : (t : Local) (i : Instr) (r : Request) (v : ℤ) → request t i ≡ r → IsLed t (after_step t i r v) i
led_by t i Fail v asks = record {
  more = [];
  outcomes = sym (append-nil t.outcomes);
  to = t.instruction + 1;
  leads = site_leads t t.instruction i asks;
}
led_by t i _ v asks = led_on t i v

-- a step stays in its function
pub same_function : (t : Local) (i : Instr) (r : Request) (v : ℤ) → (after_step t i r v).function ≡ t.function
same_function t i Fail v = refl
same_function t i _ v = (moves t i v).function

-- a step adds the place of its instruction to the places of a thread
pub step_told : (code : Code) (t : Local) (i : Instr) (r : Request) (v : ℤ) (ps : List ℕ) → IsAlong code t ps → instr_at code t.function t.instruction ≡ Some i
    → request t i ≡ r
    → places_from code (after_step t i r v).function (after_step t i r v).steps 0 (after_step t i r v).outcomes ≡ Ok (ps ++ t.instruction ∷ [])
step_told code t i r v ps along at asks =
    let u = after_step t i r v in
    let led = led_by t i r v asks in
    let steps : u.steps ≡ suc t.steps = steps_by t i r v ∙ omega arith in
    let more = one_more code t.function t.steps 0 t.outcomes led.more ps t.instruction i led.to along.told along.end at led.leads in
    ap₂ (λ f n. places_from code f n 0 u.outcomes) (same_function t i r v) steps
    ∙ ap (places_from code t.function (suc t.steps) 0) led.outcomes
    ∙ more.places

-- a site creates no thread
pub site_starts_none : (b : Bool) (f : ℕ) → site b ≡ Start f → ⊥
site_starts_none true f e = cc
site_starts_none false f e = cc

module _ (code : Code) where
  -- a thread failed at a false site, and is still there
  pub record HasFailed (t : Local) (ps : List ℕ) : Type 0 where
    pub before : Local
    pub front : List ℕ
    pub along : IsAlong code before front
    pub instr : Instr
    pub at : instr_of code before ≡ Some instr
    pub asks : request before instr ≡ Fail
    pub is : t ≡ step_in_place before
    pub all : ps ≡ front ++ before.instruction ∷ []

  -- a thread has gone along these places, and has failed if the flag is true
  abbrev pub Stands : Bool → Local → List ℕ → Type 0
  Stands true t ps = HasFailed t ps
  Stands false t ps = IsAlong code t ps

  abbrev pub told : Local → List ℕ
  told t = result_unwrap_or (places_from code t.function t.steps 0 t.outcomes) []

  -- the functions of the children that it has created
  abbrev pub created : Local → List ℕ
  created t = started (steps_at code t.function (told t))

  failed_places : (t : Local) (ps : List ℕ) → HasFailed t ps → places_from code t.function t.steps 0 t.outcomes ≡ Ok ps
  failed_places t ps h =
      ap (λ (x : Local). places_from code x.function x.steps 0 x.outcomes) h.is
      ∙ step_told code h.before h.instr Fail (pos 0) h.front h.along (at_its_place code h.before h.instr h.at) h.asks
      ∙ ap (λ xs. Ok xs) (sym h.all)

  pub stands_places : (b : Bool) (t : Local) (ps : List ℕ) → Stands b t ps → places_from code t.function t.steps 0 t.outcomes ≡ Ok ps
  stands_places true t ps h = failed_places t ps h
  stands_places false t ps h = h.told

  pub told_is : (b : Bool) (t : Local) (ps : List ℕ) → Stands b t ps → told t ≡ ps
  told_is b t ps h = ap (λ r. result_unwrap_or r []) (stands_places b t ps h)

  module _ {B : Type 0} where
    -- a thread is a child that another thread created to run this function
    pub record IsBornOf (ts : ByName (Thread B)) (n : Name) (f : ℕ) : Type 0 where
      pub parent : Name
      pub number : ℕ
      pub name : n ≡ child parent (suc number)
      pub thread : Thread B
      pub there : fin.get ts parent ≡ Some thread
      pub creates : slice_get (created thread.local) number ≡ Some f

    -- a thread is such a child, or main
    abbrev pub IsBorn : ByName (Thread B) → Name → ℕ → Type 0
    IsBorn ts n f = ((n ≡ []) × (f ≡ length code.functions - 1)) ⊎ IsBornOf ts n f

    pub record Known (ts : ByName (Thread B)) (failed : Option Name) (n : Name) (t : Local) : Type 0 where
      pub places : List ℕ
      pub stands : Stands (fails_by failed n) t places
      pub born : IsBorn ts n t.function

    abbrev pub AllKnown : ByName (Thread B) → Option Name → Type 0
    AllKnown ts failed = (n : Name) (t : Thread B) → fin.get ts n ≡ Some t → Known ts failed n t.local

    -- a thread still exists, and has created at least the same children
    record Grown (us : ByName (Thread B)) (p : Name) (t : Thread B) : Type 0 where
      thread : Thread B
      there : fin.get us p ≡ Some thread
      more : List ℕ
      creates : created thread.local ≡ created t.local ++ more

    abbrev Grows : ByName (Thread B) → ByName (Thread B) → Type 0
    Grows ts us = (p : Name) (t : Thread B) → fin.get ts p ≡ Some t → Grown us p t

    born_grows : (ts us : ByName (Thread B)) (n : Name) (f : ℕ) → Grows ts us → IsBorn ts n f → IsBorn us n f
    born_grows ts us n f grows (inl is) = inl is
    born_grows ts us n f grows (inr is) =
        let g = grows is.parent is.thread is.there in
        inr (record {
          parent = is.parent;
          number = is.number;
          name = is.name;
          thread = g.thread;
          there = g.there;
          creates = ap (λ xs. slice_get xs is.number) g.creates ∙ get_front (created is.thread.local) g.more is.number f is.creates;
        })

    -- A thread does something.
    module _ (ts : ByName (Thread B)) (n : Name) (t v : Thread B) (failed : Option Name) (there : fin.get ts n ≡ Some t) (known : AllKnown ts None)
        (function : v.local.function ≡ t.local.function) (ps : List ℕ) (stands : Stands (fails_by failed n) v.local ps)
        (more : List ℕ) (creates : created v.local ≡ created t.local ++ more) (others : (q : Name) → q ≢ n → fails_by failed q ≡ false) where
      abbrev us : ByName (Thread B)
      us = fin.insert ts n v

      put_grows : Grows ts us
      put_grows p x at =
          elim (same_or_apart p n) [
            | inl same ↦ record {
              thread = v;
              there = ap (fin.get us) same ∙ get_put ts n v;
              more = more;
              creates = creates ∙ ap (λ (y : Thread B). created y.local ++ more) (one_under ts n p t x (sym same) there at);
            }
            | inr apart ↦ record { thread = x; there = get_put_apart ts n v p apart ∙ at; more = []; creates = sym (append-nil (created x.local)) }
          ]

      own_known : Known us failed n v.local
      own_known = record {
        places = ps;
        stands = stands;
        born = born_grows ts us n v.local.function put_grows (subst (IsBorn ts n) (sym function) (known n t there).born);
      }

      pub put_known : AllKnown us failed
      put_known q x at =
          elim (get_put_cases ts n v q x at) [
            | inl own ↦ subst (λ m. Known us failed m x.local) (sym own.0) (subst (λ (y : Thread B). Known us failed n y.local) own.1 own_known)
            | inr old ↦
                let k = known q x old.1 in
                record {
                  places = k.places;
                  stands = subst (λ b. Stands b x.local k.places) (sym (others q old.0)) k.stands;
                  born = born_grows ts us q x.local.function put_grows k.born;
                }
          ]

    -- A new child.
    module _ (ops : BufferOps B) (ts : ByName (Thread B)) (n : Name) (t : Thread B) (k f : ℕ) (vs : List ℤ) (there : fin.get ts n ≡ Some t)
        (known : AllKnown ts None) (creates : slice_get (created t.local) k ≡ Some f) (none : fin.get ts (child n (suc k)) ≡ None) where
      abbrev baby : Thread B
      baby = born ops code f vs

      abbrev grown : ByName (Thread B)
      grown = fin.insert ts (child n (suc k)) baby

      stays : (p : Name) (x : Thread B) → fin.get ts p ≡ Some x → fin.get grown p ≡ Some x
      stays p x at =
          get_put_apart ts (child n (suc k)) baby p (λ same. none-some x (sym none ∙ ap (fin.get ts) (sym same) ∙ at)) ∙ at

      add_grows : Grows ts grown
      add_grows p x at = record { thread = x; there = stays p x at; more = []; creates = sym (append-nil (created x.local)) }

      baby_along : IsAlong code baby.local []
      baby_along = record { told = refl; end = refl; marks = record { held = refl; handles = refl; children = refl }; children = refl; possible = refl }

      baby_known : Known grown None (child n (suc k)) baby.local
      baby_known = record {
        places = [];
        stands = baby_along;
        born = inr (record { parent = n; number = k; name = refl; thread = t; there = stays n t there; creates = creates });
      }

      pub add_known : AllKnown grown None
      add_known q x at =
          elim (get_put_cases ts (child n (suc k)) baby q x at) [
            | inl own ↦
                subst (λ m. Known grown None m x.local) (sym own.0) (subst (λ (y : Thread B). Known grown None (child n (suc k)) y.local) own.1 baby_known)
            | inr old ↦
                let g = known q x old.1 in
                record { places = g.places; stands = g.stands; born = born_grows ts grown q x.local.function add_grows g.born }
          ]

-- Each step.

module _ {B : Type 0} (ops : BufferOps B) (code : Code) (lawful : IsLawful code) where
  -- an instruction that is allowed and doesn't fail isn't one that no run can do
  module _ (s : State B) (n : Name) (t : Thread B) (m : Marks) (reached : IsReached ops code s) (there : fin.get s.threads n ≡ Some t)
      (marks : HasMarks t.local m) where
    free_not_held : (k : ℕ) (b : Bool) → holds t.local k ≡ b → IsTrue (is_none (owner_of s k)) → b ≡ false
    free_not_held k false e free = refl
    free_not_held k true e free =
        let owner = ((owners_hold ops code s lawful reached).holder n t k there).0 e in
        absurd (true≢false (sym free ∙ ap is_none owner))

    passes_beq : (b : Bool) → IsTrue b → beq b false ≡ false
    passes_beq true h = refl
    passes_beq false h = absurd (true≢false (sym h))

    run_possible : (i : Instr) → is_fail (request t.local i) ≡ false → IsTrue (allows ops s n t (request t.local i)) → excludes m i false ≡ false
    run_possible (Lock k) passes may =
        ap (λ xs. slice_index_or xs k false) marks.held
        ∙ free_not_held k (holds t.local k) refl ((and_parts (not (drains_first (Acquire k)) || ops.is_empty t.buffer) _ may).1)
    run_possible (Holds k) passes may =
        ap (λ xs. beq (slice_index_or xs k false) false) marks.held ∙ passes_beq (holds t.local k) (site_is_true (holds t.local k) passes)
    run_possible (Ready k) passes may =
        ap (λ xs. beq (can_be_joined (slice_index_or xs k Unset)) false) marks.handles
        ∙ passes_beq (can_be_joined (handle_of t.local k)) (site_is_true (can_be_joined (handle_of t.local k)) passes)
    run_possible i passes may = refl

  pub create_is : (t : Local) (i : Instr) (f : ℕ) → request t i ≡ Start f → starts i ≡ Some f
  create_is t (Create h g es) f e = let same : g ≡ f = cc in ap (λ k. Some k) same
  create_is t (Inside len x) f e = absurd (site_starts_none _ f e)
  create_is t (Holds k) f e = absurd (site_starts_none _ f e)
  create_is t (Ready k) f e = absurd (site_starts_none _ f e)
  create_is t (Assert x) f e = absurd (site_starts_none _ f e)
  create_is t (Nonzero x) f e = absurd (site_starts_none _ f e)
  create_is t (InRange x) f e = absurd (site_starts_none _ f e)
  create_is t i f e = absurd cc

  -- A step of a thread whose path is known.
  module _ (s : State B) (n : Name) (t : Thread B) (i : Instr) (reached : IsReached ops code s) (there : fin.get s.threads n ≡ Some t)
      (at : instr_of code t.local ≡ Some i) (known : AllKnown code s.threads None) where
    abbrev own_known_at : Known code s.threads None n t.local
    own_known_at = known n t there

    abbrev ps : List ℕ
    ps = own_known_at.places

    along : IsAlong code t.local ps
    along = own_known_at.stands

    placed : instr_at code t.local.function t.local.instruction ≡ Some i
    placed = at_its_place code t.local i at

    -- the children created after the step
    more_created : (v : Local) → v.function ≡ t.local.function → told code v ≡ ps ++ t.local.instruction ∷ []
        → created code v ≡ created code t.local ++ cons_option (starts i) []
    more_created v same is =
        ap₂ (λ f xs. started (steps_at code f xs)) same is
        ∙ started_push code t.local t.local i ps along placed
        ∙ ap (λ xs. started (steps_at code t.local.function xs) ++ cons_option (starts i) []) (sym (told_is code false t.local ps along))

    nobody : (q : Name) → q ≢ n → fails_by None q ≡ false
    nobody q apart = refl

    -- the thread goes on
    abbrev marks_now : Marks
    marks_now = marks_here code t.local t.local i ps along placed

    may_be : is_fail (request t.local i) ≡ false → IsTrue (allows ops s n t (request t.local i)) → excludes marks_now i false ≡ false
    may_be passes may = run_possible s n t marks_now reached there along.marks i passes may

    went_along : (v : ℤ) → excludes marks_now i false ≡ false → IsAlong code (local_after t.local i v) (ps ++ t.local.instruction ∷ [])
    went_along v may =
        goes_along code t.local (local_after t.local i v) i ps along placed (moves t.local i v)
        (marks_move t.local marks_now i v along.marks)
        (children_move t.local i v) may

    went_known : (v : ℤ) (b : B) → excludes marks_now i false ≡ false
        → AllKnown code (fin.insert s.threads n (record { local = local_after t.local i v; buffer = b })) None
    went_known v b may =
        let new = went_along v may in
        let function = (moves t.local i v).function in
        put_known code s.threads n t (record { local = local_after t.local i v; buffer = b }) None there known function
        (ps ++ t.local.instruction ∷ []) new (cons_option (starts i) [])
        (more_created (local_after t.local i v) function (told_is code false (local_after t.local i v) (ps ++ t.local.instruction ∷ []) new)) nobody

    -- the thread fails
    failed_known : (b : B) → request t.local i ≡ Fail
        → AllKnown code (fin.insert s.threads n (record { local = step_in_place t.local; buffer = b })) (Some n)
    failed_known b asks =
        let failed : HasFailed code (step_in_place t.local) (ps ++ t.local.instruction ∷ []) =
        record { before = t.local; front = ps; along = along; instr = i; at = at; asks = asks; is = refl; all = refl } in
        put_known code s.threads n t (record { local = step_in_place t.local; buffer = b }) (Some n) there known refl (ps ++ t.local.instruction ∷ [])
        (subst (λ x. Stands code x (step_in_place t.local) (ps ++ t.local.instruction ∷ [])) (sym (same_refl n)) failed) (cons_option (starts i) [])
        (more_created (step_in_place t.local) refl (told_is code true (step_in_place t.local) (ps ++ t.local.instruction ∷ []) failed))
        (λ q apart. bytes_other q n apart)

    -- the thread creates a child
    child_known : (f : ℕ) (vs : List ℤ) (v : ℤ) (b : B) → request t.local i ≡ Start f → excludes marks_now i false ≡ false
        → AllKnown code (fin.insert (fin.insert s.threads n (record { local = local_after t.local i v; buffer = b })) (child n (t.local.children + 1))
        (born ops code f vs)) None
    child_known f vs v b asks may =
        let own : Thread B = record { local = local_after t.local i v; buffer = b } in
        let k = length (created code t.local) in
        let new = went_along v may in
        let function = (moves t.local i v).function in
        let count : k ≡ t.local.children =
        ap (λ xs. length (started (steps_at code t.local.function xs))) (told_is code false t.local ps along) ∙ along.children in
        let number : suc k ≡ t.local.children + 1 = omega (arith, count) in
        let creates : slice_get (created code own.local) k ≡ Some f =
        ap (λ xs. slice_get xs k) (more_created own.local function (told_is code false own.local (ps ++ t.local.instruction ∷ []) new)
        ∙ ap (λ o. created code t.local ++ cons_option o []) (create_is t.local i f asks))
        ∙ get_seam (created code t.local) f [] in
        let none : fin.get (fin.insert s.threads n own) (child n (suc k)) ≡ None =
        get_put_apart s.threads n own (child n (suc k)) (child_apart n (suc k))
        ∙ ap (λ j. fin.get s.threads (child n j)) number ∙ child_is_new ops code s n t reached there in
        subst (λ j. AllKnown code (fin.insert (fin.insert s.threads n own) (child n j) (born ops code f vs)) None) number
        (add_known code ops (fin.insert s.threads n own) n own k f vs (get_put s.threads n own) (went_known v b may) creates none)

    -- the thread does any request
    asked_known : (r : Request) → request t.local i ≡ r → IsTrue (allows ops s n t (request t.local i))
        → AllKnown code (with_born ops code n t i r (fin.insert s.threads n (own ops code s t i r))) (failed_after r n)
    asked_known Fail asks may = failed_known _ asks
    asked_known (Start f) asks may = child_known f (arguments_of t.local i) _ _ asks (may_be (ap is_fail asks) may)
    asked_known r asks may = went_known _ _ (may_be (ap is_fail asks) may)

  known_kept : (s : State B) (threads : ByName (Thread B)) (failed : Option Name) → s.threads ≡ threads → s.failed ≡ failed → AllKnown code threads failed
      → AllKnown code s.threads s.failed
  known_kept s threads failed e f known = subst (AllKnown code s.threads) (sym f) (subst (λ ts. AllKnown code ts failed) (sym e) known)

  -- each step keeps the paths known
  keeps_known : Keeps ops code (λ s h. AllKnown code s.threads s.failed)
  keeps_known = record {
    ran = λ s h n t i r reached going there at asks may known.
        let known : AllKnown code s.threads None = subst (AllKnown code s.threads) going known in
        known_kept (perform ops code s n t i r) _ _ (performed_threads ops code s n t i r) (failed_is ops code s n t i r going)
        (asked_known s n t i reached there at known r asks (subst (λ q. IsTrue (allows ops s n t q)) (sym asks) may));
    waked = λ s h n u t c reached going there at empty waits known.
        let known : AllKnown code s.threads None = subst (AllKnown code s.threads) going known in
        known_kept (state_after_wake ops s n u t c) _ None refl going (went_known s n t (Signal c) reached there at known (pos 0) t.buffer refl);
    flushed = λ s h n t form reached going there may known.
        let known : AllKnown code s.threads None = subst (AllKnown code s.threads) going known in
        let k = known n t there in
        known_kept (machine.state_after_drain ops s n t form) _ None refl going
        (put_known code s.threads n t (record t { buffer = (ops.drain t.buffer form).rest }) None there known refl k.places k.stands []
        (sym (append-nil (created code t.local))) (λ q apart. refl));
  }

  opening_known : AllKnown code (opening ops code).threads None
  opening_known q x at =
      elim (get_put_cases fin.empty [] (main_at_start) q x at) [
        | inl own ↦
            subst (λ m. Known code (opening ops code).threads None m x.local) (sym own.0)
            (subst (λ (y : Thread B). Known code (opening ops code).threads None [] y.local) own.1 main_known)
        | inr old ↦ absurd (none-some x (sym (fin.get-empty by_name q) ∙ old.1))
      ]
    where
      main_at_start : Thread B
      main_at_start = born ops code (length code.functions - 1) []

      main_known : Known code (opening ops code).threads None [] main_at_start.local
      main_known = record {
        places = [];
        stands = record { told = refl; end = refl; marks = record { held = refl; handles = refl; children = refl }; children = refl; possible = refl };
        born = inl (refl, refl);
      }

  -- the paths are known in each state of a run
  pub reached_known : (s : State B) → IsReached ops code s → AllKnown code s.threads s.failed
  reached_known s r =
      holds_after ops code (λ s h. AllKnown code s.threads s.failed) keeps_known opening_known r.moves s r.leads

not_failed : (o : Option Name) (n : Name) → o ≢ Some n → fails_by o n ≡ false
not_failed None n going = refl
not_failed (Some m) n going = bytes_other n m (λ same. going (ap (λ q. Some q) (sym same)))

-- a thread that hasn't failed is where its path so far leads
pub going_along : {B : Type 0} (ops : BufferOps B) (code : Code) (s : State B) (n : Name) (t : Thread B) → IsLawful code → IsReached ops code s
    → fin.get s.threads n ≡ Some t → s.failed ≢ Some n → (places : List ℕ) × IsAlong code t.local places
going_along ops code s n t lawful reached there going =
    let k = reached_known ops code lawful s reached n t there in
    (k.places, subst (λ b. Stands code b t.local k.places) (not_failed s.failed n going) k.stands)
