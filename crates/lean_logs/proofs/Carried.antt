-- The local state of a thread through its steps in a history.
use Rattle.std.proofs.Common.{◌≡◌, ◌∙◌, ℕ, ◌+◌, ◌-◌, ◌<◌, ◌≤◌, ℤ, Bool, true, false, cond, List, [], ◌∷◌, ◌++◌, Option, Some, refl, sym, ap, subst, arith, append-nil, append_assoc}
use Rattle.std.specs.Prelude.{unwrap_or}
use Rattle.std.specs.FinMap as fin
use Rattle.std.proofs.lemmas.List.Sums.{fold-append}
use Rattle.std.proofs.lemmas.Option.{same_Some, get_or_from_slice_get}
use Rattle.tc_record.specs.tc_base.Names.{Name}
use Rattle.tc_record.specs.tc_base.States.{Local}
use Rattle.tc_record.specs.tc_base.declared.request.Request.{Request}
use Rattle.tc_record.specs.tc_code.Code.{Code}
use Rattle.tc_record.specs.tc_code.Step.{instr_of}
use Rattle.tc_record.specs.tc_code.declared.instr.Instr.{Instr}
use Rattle.tc_record.specs.tc_code.declared.instr.Instr.TheVariants.{Exit}
use Rattle.least_runs.proofs.run_laws.Names.{is_same, same_self}
use Rattle.least_runs.specs.run_history.History.{Deed, Did, Drained, same}
use Rattle.least_runs.specs.run_history.Locals.{after_step, after_deed, locals_in}
use Rattle.least_runs.specs.run_history.Told.{is_step_of, steps_in}
use Rattle.least_runs.specs.run_follows.Follow.{AllFollow}
use Rattle.least_runs.proofs.run_follows.of_deeds.Follow.{first_follow}
use Rattle.least_runs.proofs.Reached.{still}
use Rattle.least_runs.proofs.Part.{after_own}
use Rattle.tc_record.specs.path_walk.Steps.{step_at}
use Rattle.tc_record.specs.path_laws.Setting.{Setting}
use Rattle.tc_record.specs.path_laws.history.Along.{HistoryAlong, PathThread}
use Rattle.tc_record.specs.path_laws.history.Next.{IsNextOnPath}
use Rattle.tc_record.proofs.path_laws.of_events.Steps.{steps_both, steps_first, IsStep, step_is}
use Rattle.tc_record.proofs.path_laws.of_events.Steps.{step_at as deed_at}
use Rattle.log_walk.specs.thread_paths.Turns.{place_of, instr_of as instr_on}

-- the local state of a thread after its step
pub own_step : (code : Code) (h : List Deed) (n : Name) (k : ℕ) (r : Request) (v : ℤ) (o : Option Name) (t : Local) (i : Instr)
    → fin.get (locals_in code h) n ≡ Some t → instr_of code t ≡ Some i
    → fin.get (locals_in code (h ++ Did n k r v o ∷ [])) n ≡ Some (after_step t i r v)
own_step code h n k r v o t i here at =
    ap (λ ts. fin.get ts n) (fold-append (after_deed code) _ h (Did n k r v o ∷ []))
    ∙ after_own code (locals_in code h) n k r v o (record { before = t; here = here; instr = i; at = at })

-- The next instruction, on the path.

module _ {B : Type 0} (setting : Setting B) (history : HistoryAlong setting) (thread : PathThread setting.code setting.log) where
  open setting use {machine, ops, bound, code, log}
  open history use {deeds as h, along}
  open thread use {walk as w}

  abbrev n : Name
  n = w.name

  -- a thread is at the place of its next step
  pub place_is : (older : List Deed) (x : IsNextOnPath code older w) → place_of code w.function w.places (steps_in older n) ≡ x.local.instruction
  place_is older x = get_or_from_slice_get w.places (steps_in older n) x.local.instruction 0 x.place

  -- and does the instruction of that step
  pub instr_is : (older : List Deed) (x : IsNextOnPath code older w) → instr_on code w.function w.places (steps_in older n) ≡ x.instr
  instr_is older x =
      ap (λ p. (step_at code w.function p).instr) (place_is older x) ∙ ap (λ (o : Option Instr). unwrap_or o Exit) x.at

  -- a value of a thread's state that none of its steps between two numbers changes
  module _ {X : Type 0} (f : Local → X) (first last : ℕ)
      (keeps : (k : ℕ) (t : Local) (r : Request) (v : ℤ) → first ≤ k → k < last → f t ≡ f (after_step t (instr_on code w.function w.places k) r v)) where
    record Carried (older mid : List Deed) (t : Local) : Type 0 where
      after : Local
      there : fin.get (locals_in code (older ++ mid)) n ≡ Some after
      same_value : f t ≡ f after

    -- after one deed more
    one_more : (older mid : List Deed) (d : Deed) (t u : Local) → f t ≡ f u → Carried (older ++ d ∷ []) mid u → Carried older (d ∷ mid) t
    one_more older mid d t u same c = record {
      after = c.after;
      there = ap (λ g. fin.get (locals_in code g) n) (sym (append_assoc older (d ∷ []) mid)) ∙ c.there;
      same_value = same ∙ c.same_value;
    }

    moved : (older mid newer : List Deed) (d : Deed) → h ≡ (older ++ d ∷ mid) ++ newer → h ≡ ((older ++ d ∷ []) ++ mid) ++ newer
    moved older mid newer d at = at ∙ ap (λ g. g ++ newer) (sym (append_assoc older (d ∷ []) mid))

    low : (older : List Deed) (d : Deed) → first ≤ steps_in older n → first ≤ steps_in (older ++ d ∷ []) n
    low older d least = omega (arith, least, steps_both older (d ∷ []) n)

    high : (older mid : List Deed) (d : Deed) → steps_in (older ++ d ∷ mid) n ≤ last → steps_in ((older ++ d ∷ []) ++ mid) n ≤ last
    high older mid d most = omega (arith, most, ap (λ g. steps_in g n) (append_assoc older (d ∷ []) mid))

    -- a deed of another thread
    others : (older mid newer : List Deed) (d : Deed) (t : Local) → is_step_of n d ≡ false → h ≡ (older ++ d ∷ mid) ++ newer
        → fin.get (locals_in code older) n ≡ Some t → fin.get (locals_in code (older ++ d ∷ [])) n ≡ Some t
    others older mid newer d t other at here =
        let all = first_follow ops.buffered bound code (older ++ d ∷ []) (mid ++ newer)
        (subst (AllFollow ops.buffered bound code) (moved older mid newer d at ∙ append_assoc (older ++ d ∷ []) mid newer) along.follow) in
        let none : steps_in (d ∷ []) n ≡ 0 = steps_first d [] n ∙ ap (λ b. cond b 1 0 + steps_in [] n) other ∙ omega arith in
        still machine older (d ∷ []) n t all none here

    -- a step of the thread itself
    record Own (older : List Deed) (d : Deed) (t : Local) : Type 0 where
      next : Local
      there : fin.get (locals_in code (older ++ d ∷ [])) n ≡ Some next
      same_value : f t ≡ f next

    own : (older mid newer : List Deed) (k : ℕ) (r : Request) (v : ℤ) (o : Option Name) (t : Local)
        → h ≡ (older ++ Did n k r v o ∷ mid) ++ newer → first ≤ steps_in older n → steps_in (older ++ Did n k r v o ∷ mid) n ≤ last
        → fin.get (locals_in code older) n ≡ Some t → Own older (Did n k r v o) t
    own older mid newer k r v o t at least most here =
        let d = Did n k r v o in
        let s = step_is setting history thread older (mid ++ newer) k r v o (at ∙ append_assoc older (d ∷ mid) newer) in
        let x = s.next in
        let same_local : x.local ≡ t = same_Some x.local t (sym x.there ∙ here) in
        let one : steps_in (older ++ d ∷ mid) n ≡ steps_in older n + (1 + steps_in mid n) =
        steps_both older (d ∷ mid) n
        ∙ ap (λ m. steps_in older n + m) (steps_first d mid n ∙ ap (λ b. cond b 1 0 + steps_in mid n) (same_self n n refl)) in
        record {
          next = after_step x.local x.instr r v;
          there = own_step code older n k r v o x.local x.instr x.there x.next;
          same_value =
              ap f (sym same_local) ∙ keeps (steps_in older n) x.local r v least (omega (arith, most, one))
              ∙ ap (λ i. f (after_step x.local i r v)) (instr_is older x);
        }

    carried : (older mid newer : List Deed) (t : Local) → h ≡ (older ++ mid) ++ newer → first ≤ steps_in older n → steps_in (older ++ mid) n ≤ last
        → fin.get (locals_in code older) n ≡ Some t → Carried older mid t
    carried older [] newer t at least most here =
        record { after = t; there = ap (λ g. fin.get (locals_in code g) n) (append-nil older) ∙ here; same_value = refl }
    carried older (Drained q k c v ∷ mid) newer t at least most here =
        let d = Drained q k c v in
        one_more older mid d t t refl
        (carried (older ++ d ∷ []) mid newer t (moved older mid newer d at) (low older d least) (high older mid d most) (others older mid newer d t refl at here))
    carried older (Did q k r v o ∷ mid) newer t at least most here =
        by (same n q) refl (λ u value there. one_more older mid d t u value
        (carried (older ++ d ∷ []) mid newer u (moved older mid newer d at) (low older d least) (high older mid d most) there))
      where
        d : Deed
        d = Did q k r v o

        by_own : n ≡ q → ((u : Local) → f t ≡ f u → fin.get (locals_in code (older ++ d ∷ [])) n ≡ Some u → Carried older (d ∷ mid) t) → Carried older (d ∷ mid) t
        by_own name go =
            let mine : d ≡ Did n k r v o = ap (λ m. Did m k r v o) (sym name) in
            let x = own older mid newer k r v o t (at ∙ ap (λ e. (older ++ e ∷ mid) ++ newer) mine) least
            (omega (arith, most, ap (λ e. steps_in (older ++ e ∷ mid) n) mine)) here in
            go x.next x.same_value (ap (λ e. fin.get (locals_in code (older ++ e ∷ [])) n) mine ∙ x.there)

        by : (b : Bool) → same n q ≡ b → ((u : Local) → f t ≡ f u → fin.get (locals_in code (older ++ d ∷ [])) n ≡ Some u → Carried older (d ∷ mid) t)
            → Carried older (d ∷ mid) t
        by true is go = by_own (is_same n q is) go
        by false is go = go t refl (others older mid newer d t is at here)

  -- the number of steps of a thread after one of its own
  pub count_own : (older : List Deed) (k : ℕ) (r : Request) (v : ℤ) (o : Option Name) → steps_in (older ++ Did n k r v o ∷ []) n ≡ steps_in older n + 1
  count_own older k r v o =
      let d = Did n k r v o in
      let one : steps_in (d ∷ []) n ≡ 1 + steps_in [] n = steps_first d [] n ∙ ap (λ b. cond b 1 0 + steps_in [] n) (same_self n n refl) in
      omega (arith, steps_both older (d ∷ []) n, one)

  -- the deed of the thread's step with this number, in a later part of the history
  pub record StepIn (older : List Deed) (k : ℕ) : Type 0 where
    pub mid : List Deed
    pub newer : List Deed
    pub number : ℕ
    pub request : Request
    pub took : ℤ
    pub other : Option Name
    pub at : h ≡ (older ++ mid) ++ Did n number request took other ∷ newer
    pub count : steps_in (older ++ mid) n ≡ k
    pub step : IsStep setting history thread (older ++ mid) number request took other

  pub step_in : (older rest : List Deed) (k : ℕ) → h ≡ older ++ rest → steps_in older n ≤ k → k < steps_in h n → StepIn older k
  step_in older rest k at least few =
      let all : steps_in h n ≡ steps_in older n + steps_in rest n = ap (λ g. steps_in g n) at ∙ steps_both older rest n in
      let s = deed_at rest n (k - steps_in older n) (omega (arith, least, few, all)) in
      let d = Did n s.number s.request s.took s.other in
      let there : h ≡ (older ++ s.older) ++ d ∷ s.newer = at ∙ ap (λ g. older ++ g) s.there ∙ sym (append_assoc older s.older (d ∷ s.newer)) in
      record {
        mid = s.older;
        newer = s.newer;
        number = s.number;
        request = s.request;
        took = s.took;
        other = s.other;
        at = there;
        count = omega (arith, steps_both older s.older n, s.before, least);
        step = step_is setting history thread (older ++ s.older) s.newer s.number s.request s.took s.other there;
      }

  -- what no step up to that one changes is the same there
  pub reach : {X : Type 0} (f : Local → X) (older : List Deed) (k : ℕ) (s : StepIn older k) (t : Local) → fin.get (locals_in code older) n ≡ Some t
      → ((j : ℕ) (u : Local) (r : Request) (v : ℤ) → steps_in older n ≤ j → j < k → f u ≡ f (after_step u (instr_on code w.function w.places j) r v))
      → f t ≡ f s.step.next.local
  reach f older k s t here keeps =
      let c =
      carried f (steps_in older n) k keeps older s.mid (Did n s.number s.request s.took s.other ∷ s.newer) t s.at (omega arith) (omega (arith, s.count)) here in
      c.same_value ∙ ap f (same_Some c.after s.step.next.local (sym c.there ∙ s.step.next.there))
