-- A pure turn that a path shows is one of each history along the path.
use Rattle.std.proofs.Common.{◌≡◌, ◌≢◌, ◌∙◌, ◌⊎◌, inl, inr, ℕ, ◌+◌, ◌<◌, ◌≤◌, ℤ, pos, true, List, [], ◌∷◌, ◌++◌, length}
use Rattle.std.proofs.Common.{Option, Some, None, IsTrue, refl, sym, ap, subst, arith, append_assoc, slice_index_or, nat_lt}
use Rattle.std.specs.List.{list_any}
use Rattle.std.specs.Option.{option_or}
use Rattle.std.specs.FinMap as fin
use Rattle.std.proofs.lemmas.Bool.{and_parts, ltb-true}
use Rattle.std.proofs.lemmas.List.{get_or-set_same}
use Rattle.std.proofs.lemmas.Option.{none-some, same_Some}
use Rattle.tc_record.specs.tc_base.Names.{Name}
use Rattle.tc_record.specs.tc_base.States.{Local}
use Rattle.tc_record.specs.tc_base.declared.request.Request.{Request}
use Rattle.tc_record.specs.tc_base.declared.request.Request.TheVariants.{Silent, Exchange, Fail}
use Rattle.tc_record.specs.tc_code.Code.{Code}
use Rattle.tc_record.specs.tc_code.Expr.{Number, Slot}
use Rattle.tc_record.specs.tc_code.Lawful.{names_what_is, IsLawful}
use Rattle.tc_record.specs.tc_code.Step.{request, cell_in, value_in, instr_of}
use Rattle.tc_record.specs.tc_code.int_ops.declared.update.Update.TheVariants.{Cas}
use Rattle.tc_record.specs.tc_code.declared.code.Func.{Func}
use Rattle.tc_record.specs.tc_code.declared.instr.Instr.{Instr}
use Rattle.tc_record.specs.tc_code.declared.instr.Instr.TheVariants.{Set, Modify}
use Rattle.tc_record.proofs.tc_code.Facts.{placed_next}
use Rattle.least_runs.specs.run_follows.run_laws.Whole.{IsWholeThread}
use Rattle.least_runs.proofs.run_laws.Whole.{names_next, reached_is_whole}
use Rattle.least_runs.proofs.run_laws.Names.{same_self}
use Rattle.least_runs.specs.run_history.History.{Deed, Did}
use Rattle.least_runs.specs.run_history.Locals.{after_step, locals_in}
use Rattle.least_runs.specs.run_history.Told.{is_step_of, steps_in, fails, failed_in}
use Rattle.least_runs.proofs.run_history.Lists.{last_of-push}
use Rattle.least_runs.specs.run_follows.Follow.{AllFollow, moves_for}
use Rattle.least_runs.proofs.run_follows.of_deeds.Follow.{first_follow}
use Rattle.least_runs.proofs.Reached.{reaches, has}
use Rattle.pure_turns.specs.Live.{Liveness, AgreeWhereLive}
use Rattle.short_runs.specs.Turns.{is_pure_step, IsPureTurnIn, HasNoPureTurnIn}
use Rattle.tc_record.specs.path_laws.Setting.{Setting}
use Rattle.tc_record.specs.path_laws.history.Along.{HasDoneAll, HistoryAlong, PathThread}
use Rattle.tc_record.specs.path_laws.history.Next.{IsNextOnPath}
use Rattle.tc_record.proofs.path_laws.of_events.Steps.{steps_both, step_at, IsStep, step_is}
use Rattle.least_runs.proofs.run_history.of_pending.In.{In, in_at, in_any}
use Rattle.log_walk.specs.thread_paths.Turns.{is_idle, RulesOut, HasFailed, IsTurn, place_of, instr_of as instr_on}
use Rattle.lean_logs.proofs.Idle.{slot_stays, held_stays, held_by_update, idle_pure, cas_pure, ruled_out}
use Rattle.lean_logs.proofs.Carried.{own_step, place_is, instr_is, count_own, StepIn, step_in, reach}

-- a thread has each slot that its next instruction writes
pub slot_within : (code : Code) (t : Local) (i : Instr) (k : ℕ) → IsLawful code → IsWholeThread code t → instr_of code t ≡ Some i
    → ((g : Func) → IsTrue (names_what_is code g i) → nat_lt k g.ints ≡ true) → k < length t.slots
slot_within code t i k lawful whole at named =
    let p = placed_next code t i lawful at in
    let same_function : whole.function ≡ p.function = same_Some whole.function p.function (sym whole.there ∙ p.there) in
    omega (
      arith,
      ltb-true k p.function.ints (named p.function (names_next code t i lawful at)),
      whole.slots,
      ap (λ (g : Func). g.ints) same_function,
    )

module _ {B : Type 0} (setting : Setting B) (history : HistoryAlong setting) (thread : PathThread setting.code setting.log) where
  open setting use {machine, ops, bound, code, lawful, log}
  open history use {deeds as h, along}
  open thread use {walk as w}

  abbrev n : Name
  n = w.name

  abbrev f : ℕ
  f = w.function

  abbrev ps : List ℕ
  ps = w.places

  -- a step before another isn't a failure
  goes_on : (older rest : List Deed) (d : Deed) → h ≡ older ++ d ∷ rest → steps_in (older ++ d ∷ []) n < steps_in h n
      → failed_in (older ++ d ∷ []) ≡ None
  goes_on older [] d at more = absurd (omega (arith, more, ap (λ g. steps_in g n) at))
  goes_on older (x ∷ rest) d at more =
      (along.follow (older ++ d ∷ []) rest x (at ∙ sym (append_assoc older (d ∷ []) (x ∷ rest)))).0

  not_failing : (older rest : List Deed) (k : ℕ) (r : Request) (v : ℤ) (o : Option Name) → h ≡ older ++ Did n k r v o ∷ rest
      → steps_in older n + 1 < steps_in h n → r ≢ Fail
  not_failing older rest k r v o at more fail =
      let d = Did n k r v o in
      none-some n
      (sym (goes_on older rest d at (omega (arith, more, count_own setting history thread older k r v o)))
      ∙ last_of-push fails older d
      ∙ ap (λ q. option_or (fails (Did n k q v o)) (failed_in older)) fail)

  -- each thread has the slots of its function
  pub whole_at : (older rest : List Deed) (x : IsNextOnPath code older w) → h ≡ older ++ rest → IsWholeThread code x.local
  whole_at older rest x at =
      let a = reaches machine older (first_follow ops.buffered bound code older rest (subst (AllFollow ops.buffered bound code) at along.follow)) in
      let t = has machine older a n x.local x.there in
      let whole = reached_is_whole ops code a.state lawful (record { moves = moves_for bound older; leads = a.leads }) in
      subst (IsWholeThread code) t.local (whole.threads n t.thread t.there)

  -- A failed compare-and-exchange.

  module _ (last : ℕ) (older rest : List Deed) (k : ℕ) (r : Request) (took : ℤ) (o : Option Name) (at : h ≡ older ++ Did n k r took o ∷ rest)
      (more : last < steps_in h n) (failed : HasFailed code f ps last (steps_in older n)) where
    abbrev m : ℕ
    m = steps_in older n

    abbrev d : Deed
    d = Did n k r took o

    s : IsStep setting history thread older k r took o
    s = step_is setting history thread older rest k r took o at

    abbrev x : IsNextOnPath code older w
    x = s.next

    abbrev exchange : Instr
    exchange = Modify failed.read failed.cell (Cas (Number failed.expected) failed.new)

    exchanges : x.instr ≡ exchange
    exchanges = sym (instr_is setting history thread older x) ∙ failed.is

    asks_so : Exchange (cell_in x.local failed.cell) (Cas failed.expected (value_in x.local failed.new)) ≡ r
    asks_so = ap (request x.local) (sym exchanges) ∙ s.asks

    -- what it reads is in its slot after it
    abbrev u : Local
    u = after_step x.local exchange r took

    u_there : fin.get (locals_in code (older ++ d ∷ [])) n ≡ Some u
    u_there =
        own_step code older n k r took o x.local x.instr x.there x.next ∙ ap (λ i. Some (after_step x.local i r took)) exchanges

    u_reads : slice_index_or u.slots failed.read (pos 0) ≡ took
    u_reads =
        ap (λ q. slice_index_or (after_step x.local exchange q took).slots failed.read (pos 0)) (sym asks_so)
        ∙ get_or-set_same x.local.slots failed.read took (pos 0)
        (slot_within code x.local exchange failed.read lawful (whole_at older (d ∷ rest) x at) (x.next ∙ ap (λ i. Some i) exchanges)
        (λ g names. (and_parts _ _ (and_parts _ _ names).0).0))

    -- the next step copies it
    c : StepIn setting history thread (older ++ d ∷ []) (m + 1)
    c =
        step_in setting history thread (older ++ d ∷ []) rest (m + 1) (at ∙ sym (append_assoc older (d ∷ []) rest))
        (omega (arith, count_own setting history thread older k r took o)) (omega (arith, failed.after, failed.before, more))

    abbrev c_older : List Deed
    c_older = (older ++ d ∷ []) ++ c.mid

    abbrev c_deed : Deed
    c_deed = Did n c.number c.request c.took c.other

    abbrev y : IsNextOnPath code c_older w
    y = c.step.next

    abbrev copies : Instr
    copies = Set failed.copy (Slot failed.read)

    copies_it : y.instr ≡ copies
    copies_it = sym (instr_is setting history thread c_older y) ∙ ap (instr_on code f ps) c.count ∙ failed.copied

    y_reads : slice_index_or y.local.slots failed.read (pos 0) ≡ took
    y_reads =
        sym (reach setting history thread (λ (t : Local). slice_index_or t.slots failed.read (pos 0)) (older ++ d ∷ []) (m + 1) c u u_there
        (λ j t q v least most. absurd (omega (arith, least, most, count_own setting history thread older k r took o))))
        ∙ u_reads

    abbrev v : Local
    v = after_step y.local copies c.request c.took

    v_there : fin.get (locals_in code (c_older ++ c_deed ∷ [])) n ≡ Some v
    v_there =
        own_step code c_older n c.number c.request c.took c.other y.local y.instr y.there y.next
        ∙ ap (λ i. Some (after_step y.local i c.request c.took)) copies_it

    v_reads : slice_index_or v.slots failed.copy (pos 0) ≡ took
    v_reads =
        let silent : Silent ≡ c.request = ap (request y.local) (sym copies_it) ∙ c.step.asks in
        ap (λ q. slice_index_or (after_step y.local copies q c.took).slots failed.copy (pos 0)) (sym silent)
        ∙ get_or-set_same y.local.slots failed.copy (value_in y.local (Slot failed.read)) (pos 0)
        (slot_within code y.local copies failed.copy lawful (whole_at c_older (c_deed ∷ c.newer) y c.at) (y.next ∙ ap (λ i. Some i) copies_it)
        (λ g names. (and_parts _ _ names).0))
        ∙ y_reads

    -- the branch finds it there
    b : StepIn setting history thread (c_older ++ c_deed ∷ []) failed.branch
    b =
        step_in setting history thread (c_older ++ c_deed ∷ []) c.newer failed.branch (c.at ∙ sym (append_assoc c_older (c_deed ∷ []) c.newer))
        (omega (arith, failed.after, c.count, count_own setting history thread c_older c.number c.request c.took c.other))
        (omega (arith, failed.before, more))

    abbrev b_older : List Deed
    b_older = (c_older ++ c_deed ∷ []) ++ b.mid

    abbrev b_deed : Deed
    b_deed = Did n b.number b.request b.took b.other

    abbrev z : IsNextOnPath code b_older w
    z = b.step.next

    z_reads : slice_index_or z.local.slots failed.copy (pos 0) ≡ took
    z_reads =
        sym (reach setting history thread (λ (t : Local). slice_index_or t.slots failed.copy (pos 0)) (c_older ++ c_deed ∷ []) failed.branch b v v_there
        (λ j t q p least most. slot_stays t (instr_on code f ps j) q p failed.copy
        (failed.kept j (omega (arith, least, c.count, count_own setting history thread c_older c.number c.request c.took c.other)) most)))
        ∙ v_reads

    -- and leads on to the next place of the path
    e : StepIn setting history thread (b_older ++ b_deed ∷ []) (failed.branch + 1)
    e =
        step_in setting history thread (b_older ++ b_deed ∷ []) b.newer (failed.branch + 1) (b.at ∙ sym (append_assoc b_older (b_deed ∷ []) b.newer))
        (omega (arith, b.count, count_own setting history thread b_older b.number b.request b.took b.other))
        (omega (arith, failed.before, more))

    leads : (after_step z.local z.instr b.request b.took).instruction ≡ place_of code f ps (failed.branch + 1)
    leads =
        reach setting history thread (λ (t : Local). t.instruction) (b_older ++ b_deed ∷ []) (failed.branch + 1) e
        (after_step z.local z.instr b.request b.took)
        (own_step code b_older n b.number b.request b.took b.other z.local z.instr z.there z.next)
        (λ j t q p least most. absurd (omega (arith, least, most, b.count, count_own setting history thread b_older b.number b.request b.took b.other)))
        ∙ sym (place_is setting history thread ((b_older ++ b_deed ∷ []) ++ e.mid) e.step.next) ∙ ap (place_of code f ps) e.count

    -- so it can't have read what it expects
    other_value : took ≢ failed.expected
    other_value expected =
        let shown : RulesOut z.instr (place_of code f ps failed.branch) (place_of code f ps (failed.branch + 1)) failed.copy failed.expected =
        subst (λ i. RulesOut i (place_of code f ps failed.branch) (place_of code f ps (failed.branch + 1)) failed.copy failed.expected)
        (ap (instr_on code f ps) (sym b.count) ∙ instr_is setting history thread b_older z) failed.shown in
        ruled_out z.instr z.local b.request b.took (place_of code f ps failed.branch) (place_of code f ps (failed.branch + 1)) failed.copy failed.expected
        shown b.step.asks (sym (place_is setting history thread b_older z) ∙ ap (place_of code f ps) b.count) (z_reads ∙ expected) leads

  -- The turn.

  module _ (live : Liveness) (first last : ℕ) (turn : IsTurn code f ps live first last) (done : HasDoneAll h w) where
    start : StepIn setting history thread [] first
    start = step_in setting history thread [] h first refl (omega arith) (omega (arith, turn.some, turn.within, done))

    abbrev s_older : List Deed
    s_older = [] ++ start.mid

    abbrev s_deed : Deed
    s_deed = Did n start.number start.request start.took start.other

    abbrev begin : IsNextOnPath code s_older w
    begin = start.step.next

    end : StepIn setting history thread s_older last
    end = step_in setting history thread s_older (s_deed ∷ start.newer) last start.at (omega (arith, start.count, turn.some)) (omega (arith, turn.within, done))

    abbrev round : List Deed
    round = end.mid

    abbrev newer : List Deed
    newer = Did n end.number end.request end.took end.other ∷ end.newer

    abbrev ends : IsNextOnPath code (s_older ++ round) w
    ends = end.step.next

    -- what none of its steps changes is the same at its end
    keeps : {X : Type 0} (p : Local → X)
        → ((k : ℕ) (t : Local) (r : Request) (v : ℤ) → first ≤ k → k < last → p t ≡ p (after_step t (instr_on code f ps k) r v))
        → p begin.local ≡ p ends.local
    keeps p each =
        reach setting history thread p s_older last end begin.local begin.there
        (λ j t r v least most. each j t r v (omega (arith, least, start.count)) most)

    begin_place : place_of code f ps first ≡ begin.local.instruction
    begin_place = ap (place_of code f ps) (sym start.count) ∙ place_is setting history thread s_older begin

    ends_place : place_of code f ps last ≡ ends.local.instruction
    ends_place = ap (place_of code f ps) (sym end.count) ∙ place_is setting history thread (s_older ++ round) ends

    same_slots : AgreeWhereLive live begin.local ends.local
    same_slots slot lives =
        let here : IsTrue (live f (place_of code f ps first) slot) =
        subst (λ q. IsTrue (live f q slot)) (sym begin_place) (subst (λ g. IsTrue (live g begin.local.instruction slot)) begin.function lives) in
        keeps (λ (t : Local). slice_index_or t.slots slot (pos 0))
        (λ k t r v least most. slot_stays t (instr_on code f ps k) r v slot (turn.kept slot here k least most))

    same_held : begin.local.held ≡ ends.local.held
    same_held = keeps (λ (t : Local). t.held) (λ k t r v least most. by k t r v (turn.pure k least most))
      where
        by : (k : ℕ) (t : Local) (r : Request) (v : ℤ) → (is_idle (instr_on code f ps k) ≡ true) ⊎ HasFailed code f ps last k
            → t.held ≡ (after_step t (instr_on code f ps k) r v).held
        by k t r v (inl idle) = held_stays t (instr_on code f ps k) r v idle
        by k t r v (inr failed) =
            subst (λ i. t.held ≡ (after_step t i r v).held) (sym failed.is)
            (held_by_update t failed.read failed.cell (Cas (Number failed.expected) failed.new) r v)

    -- the thread does a step in it
    some_step : list_any (is_step_of n) round ≡ true
    some_step =
        let all : steps_in (s_older ++ round) n ≡ steps_in s_older n + steps_in round n = steps_both s_older round n in
        let s = step_at round n 0 (omega (arith, all, end.count, start.count, turn.some)) in
        let d = Did n s.number s.request s.took s.other in
        in_any (is_step_of n) d round (subst (In d) (sym s.there) (in_at s.older d s.newer)) (same_self n n refl)

    -- and each is pure
    module _ (before after : List Deed) (k : ℕ) (r : Request) (took : ℤ) (o : Option Name) (is : round ≡ before ++ Did n k r took o ∷ after) where
      abbrev older : List Deed
      older = s_older ++ before

      abbrev one : Deed
      one = Did n k r took o

      split : s_older ++ round ≡ older ++ one ∷ after
      split = ap (λ g. s_older ++ g) is ∙ sym (append_assoc s_older before (one ∷ after))

      at_one : h ≡ older ++ one ∷ (after ++ newer)
      at_one = end.at ∙ ap (λ g. g ++ newer) split ∙ append_assoc older (one ∷ after) newer

      least : first ≤ steps_in older n
      least = omega (arith, steps_both s_older before n, start.count)

      most : steps_in older n < last
      most =
          let all : steps_in (s_older ++ round) n ≡ steps_in ((older ++ one ∷ []) ++ after) n =
          ap (λ g. steps_in g n) (split ∙ sym (append_assoc older (one ∷ []) after)) in
          omega (arith, all, end.count, steps_both (older ++ one ∷ []) after n, count_own setting history thread older k r took o)

      more : last < steps_in h n
      more = omega (arith, turn.within, done)

      pure_by : (is_idle (instr_on code f ps (steps_in older n)) ≡ true) ⊎ HasFailed code f ps last (steps_in older n)
          → is_pure_step begin.local.held r took ≡ true
      pure_by (inl idle) =
          let s = step_is setting history thread older (after ++ newer) k r took o at_one in
          let x = s.next in
          subst (λ q. is_pure_step begin.local.held q took ≡ true) s.asks
          (idle_pure x.local x.instr begin.local.held took
          (subst (λ i. is_idle i ≡ true) (instr_is setting history thread older x) idle)
          (λ fail. not_failing older (after ++ newer) k r took o at_one (omega (arith, most, more)) (sym s.asks ∙ fail)))
      pure_by (inr failed) =
          let x = (s last older (after ++ newer) k r took o at_one more failed).next in
          subst (λ q. is_pure_step begin.local.held q took ≡ true)
          (asks_so last older (after ++ newer) k r took o at_one more failed)
          (cas_pure begin.local.held (cell_in x.local failed.cell) failed.expected (value_in x.local failed.new) took
          (other_value last older (after ++ newer) k r took o at_one more failed))

      pure : is_pure_step begin.local.held r took ≡ true
      pure = pure_by (turn.pure (steps_in older n) least most)

    is_pure_turn : IsPureTurnIn code live n s_older round
    is_pure_turn = record {
      steps = some_step;
      first = begin.local;
      last = ends.local;
      begins = begin.there;
      ends = ends.there;
      pure = pure;
      back = sym ends_place ∙ sym turn.back ∙ begin_place;
      slots = same_slots;
      held = same_held;
    }

    -- so a history without pure turns doesn't follow such a path
    pub no_turn : HasNoPureTurnIn code live h → ⊥
    no_turn none = none s_older round newer n end.at is_pure_turn
