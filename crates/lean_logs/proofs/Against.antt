-- The path of a thread never goes against what it determines.
use Rattle.std.proofs.Common.{◌≡◌, ◌∙◌, ℕ, zero, suc, ◌+◌, ◌-◌, ◌<◌, ℤ, pos, List, [], ◌∷◌, ◌++◌, length, map, replicate, Some, None, IsTrue, refl, sym, ap, subst, arith, append_assoc, slice_get, nat_lt}
use Rattle.std.specs.Prelude.{◌==◌}
use Rattle.std.specs.Option.{option_map_or}
use Rattle.std.specs.FinMap as fin
use Rattle.std.proofs.lemmas.Bool.{and_parts}
use Rattle.std.proofs.lemmas.Bool.Decides.{Decides-eqb}
use Rattle.std.proofs.lemmas.List.{length-map}
use Rattle.tc_record.specs.tc_base.Names.{Name}
use Rattle.tc_record.specs.tc_base.Buffers.{BufferOps}
use Rattle.tc_record.specs.tc_base.States.{Local}
use Rattle.tc_record.specs.tc_base.declared.moves.Move.{Move}
use Rattle.tc_record.specs.tc_code.Code.{Code}
use Rattle.tc_record.specs.tc_code.Expr.{Expr}
use Rattle.tc_record.specs.tc_code.Lawful.{takes, IsLawful}
use Rattle.tc_record.specs.tc_code.Step.{value_in, ints_of, born}
use Rattle.tc_record.specs.tc_code.declared.code.Func.{Func}
use Rattle.tc_record.specs.tc_code.declared.instr.Instr.TheVariants.{Set, Create}
use Rattle.tc_record.proofs.tc_code.Facts.{placed_next}
use Rattle.least_runs.specs.run_follows.run_laws.Alone.{Creation, alone_since}
use Rattle.least_runs.specs.run_follows.run_laws.Alone.Creation.{Of_main, By_parent}
use Rattle.least_runs.proofs.run_laws.Basics.{found}
use Rattle.least_runs.proofs.run_laws.Begun.{threads_live_alone}
use Rattle.least_runs.proofs.run_laws.Whole.{names_next}
use Rattle.least_runs.specs.run_history.History.{Deed, Did}
use Rattle.least_runs.specs.run_history.Locals.{after_step, locals_in}
use Rattle.least_runs.specs.run_history.Told.{steps_in}
use Rattle.least_runs.specs.run_follows.Follow.{AllFollow, moves_for}
use Rattle.least_runs.proofs.run_follows.of_deeds.Follow.{first_follow}
use Rattle.least_runs.proofs.Reached.{reaches, has}
use Rattle.tc_record.specs.path_laws.Setting.{Setting}
use Rattle.tc_record.specs.path_laws.history.Along.{HasDoneAll, HistoryAlong, PathThread}
use Rattle.tc_record.specs.path_laws.history.Next.{IsNextOnPath}
use Rattle.log_walk.specs.thread_paths.Turns.{place_of, instr_of as instr_on}
use Rattle.log_walk.specs.thread_paths.Known.{params_of, known_at_start, known_after, known_before, leads_to}
use Rattle.lean_logs.proofs.Agree.{Agree, agree_at_birth, agree_next, leads_there}
use Rattle.lean_logs.proofs.Carried.{own_step, place_is, instr_is, count_own, StepIn, step_in, reach}
use Rattle.lean_logs.proofs.Turns.{slot_within, whole_at}

-- a new thread has as many arguments as its function has parameters
module _ {B : Type 0} (ops : BufferOps B) (code : Code) (lawful : IsLawful code) where
  params_are : (f : ℕ) (g : Func) → slice_get code.functions f ≡ Some g → params_of code f ≡ g.params
  params_are f g there = ap (λ o. option_map_or (λ (x : Func). x.params) o 0) there

  taken_by : (f n : ℕ) → IsTrue (takes code f n) → n ≡ params_of code f
  taken_by f n is =
      let g = found (λ (x : Func). x.params == n) (slice_get code.functions f) is in
      sym (params_are f g.0 g.1 ∙ (Decides-eqb _ _).0 g.2)

  arguments_fit : (n : Name) (moves : List Move) (f : ℕ) (vs : List ℤ) → Creation ops code n moves f vs → length vs ≡ params_of code f
  arguments_fit n moves f vs Of_main = sym (params_are _ lawful.main.main lawful.main.there ∙ lawful.main.params)
  arguments_fit n moves f vs (By_parent first s p t h g es leads there at) =
      let placed = placed_next code t.local (Create h g es) lawful at in
      length-map es (value_in t.local)
      ∙ taken_by g (length es) (and_parts (nat_lt h placed.function.handles) _ (and_parts _ _ (names_next code t.local (Create h g es) lawful at)).0).1

module _ {B : Type 0} (setting : Setting B) (history : HistoryAlong setting) (thread : PathThread setting.code setting.log) where
  open setting use {machine, ops, bound, code, lawful, log}
  open history use {deeds as h, along}
  open thread use {walk as w}

  abbrev n : Name
  n = w.name

  abbrev f : ℕ
  f = w.function

  abbrev ps : List ℕ
  ps = w.places

  -- a thread that has done nothing has the slots of its beginning
  module _ (older rest : List Deed) (x : IsNextOnPath code older w) (at : h ≡ older ++ rest) (none : steps_in older n ≡ 0) where
    born_agrees : (g : ℕ) (vs : List ℤ) → length vs ≡ params_of code g → Agree (known_at_start code g) (born ops code g vs).local.slots
    born_agrees g vs fit =
        subst (λ k. Agree (replicate k None ++ replicate (ints_of code g - k) (Some (pos 0))) (vs ++ replicate (ints_of code g - length vs) (pos 0))) fit
        (agree_at_birth vs (ints_of code g - length vs))

    agree_first : Agree (known_at_start code f) x.local.slots
    agree_first =
        let a = reaches machine older (first_follow ops.buffered bound code older rest (subst (AllFollow ops.buffered bound code) at along.follow)) in
        let t = has machine older a n x.local x.there in
        let b = threads_live_alone ops code (moves_for bound older) a.state n t.thread a.leads t.there in
        let steps : t.thread.local.steps ≡ 0 = ap (λ (l : Local). l.steps) t.local ∙ x.steps ∙ none in
        let same : (born ops code b.0.function b.0.arguments).local ≡ x.local =
        sym (b.1 ∙ ap (alone_since ops code n (moves_for bound older) b.0) steps) ∙ t.local in
        subst (λ k. Agree (known_at_start code k) x.local.slots) x.function
        (subst (λ (l : Local). Agree (known_at_start code l.function) l.slots) same
        (born_agrees b.0.function b.0.arguments (arguments_fit ops code lawful n b.0.first b.0.function b.0.arguments b.0.creation)))

  -- The step after another.

  module _ (k : ℕ) (s : StepIn setting history thread [] k) where
    abbrev older : List Deed
    older = s.mid

    abbrev d : Deed
    d = Did n s.number s.request s.took s.other

    abbrev x : IsNextOnPath code older w
    x = s.step.next

    abbrev after : Local
    after = after_step x.local x.instr s.request s.took

    after_there : fin.get (locals_in code (older ++ d ∷ [])) n ≡ Some after
    after_there = own_step code older n s.number s.request s.took s.other x.local x.instr x.there x.next

    within : (j : ℕ) (e : Expr) → x.instr ≡ Set j e → j < length x.local.slots
    within j e is =
        slot_within code x.local (Set j e) j lawful (whole_at setting history thread older (d ∷ s.newer) x s.at) (x.next ∙ ap (λ i. Some i) is)
        (λ g names. (and_parts _ _ names).0)

    module _ (more : k + 1 < steps_in h n) where
      next : StepIn setting history thread (older ++ d ∷ []) (k + 1)
      next =
          step_in setting history thread (older ++ d ∷ []) s.newer (k + 1) (s.at ∙ sym (append_assoc older (d ∷ []) s.newer))
          (omega (arith, s.count, count_own setting history thread older s.number s.request s.took s.other)) more

      -- nothing changes in between
      reached : {X : Type 0} (p : Local → X) → p after ≡ p next.step.next.local
      reached p =
          reach setting history thread p (older ++ d ∷ []) (k + 1) next after after_there
          (λ j t q v least most.
          absurd (omega (arith, least, most, s.count, count_own setting history thread older s.number s.request s.took s.other)))

  -- what is known before a step is so there
  record Knows (k : ℕ) : Type 0 where
    at : StepIn setting history thread [] k
    agrees : Agree (known_before code f ps k) at.step.next.local.slots

  instr_there : (k : ℕ) (s : StepIn setting history thread [] k) → instr_on code f ps k ≡ s.step.next.instr
  instr_there k s = ap (instr_on code f ps) (sym s.count) ∙ instr_is setting history thread s.mid s.step.next

  place_there : (k : ℕ) (s : StepIn setting history thread [] k) → place_of code f ps k ≡ s.step.next.local.instruction
  place_there k s = ap (place_of code f ps) (sym s.count) ∙ place_is setting history thread s.mid s.step.next

  knows_next : (k : ℕ) → k + 1 < steps_in h n → Knows k → Knows (suc k)
  knows_next k more known =
      let s = known.at in
      let e = next k s more in
      record {
        at = record {
          mid = (s.mid ++ d k s ∷ []) ++ e.mid;
          newer = e.newer;
          number = e.number;
          request = e.request;
          took = e.took;
          other = e.other;
          at = e.at;
          count = omega (arith, e.count);
          step = e.step;
        };
        agrees = subst (λ i. Agree (known_before code f ps (suc k)) i) (reached k s more (λ (t : Local). t.slots))
            (subst (λ i. Agree (known_after (known_before code f ps k) i) (after k s).slots) (sym (instr_there k s))
            (agree_next (known_before code f ps k) s.step.next.local known.agrees s.request s.took s.step.next.instr s.step.asks (within k s)));
      }

  knows : (k : ℕ) → k < steps_in h n → Knows k
  knows zero less =
      let s = step_in setting history thread [] h 0 refl (omega arith) less in
      record {
        at = s;
        agrees = agree_first s.mid (d 0 s ∷ s.newer) s.step.next s.at s.count;
      }
  knows (suc k) less = knows_next k (omega (arith, less)) (knows k (omega (arith, less)))

  -- so a path of a thread that has done all its steps doesn't go against it
  pub never_against : HasDoneAll h w → (k target : ℕ) → k + 1 < length ps
      → leads_to (known_before code f ps k) (place_of code f ps k) (instr_on code f ps k) ≡ Some target → place_of code f ps (k + 1) ≡ target
  never_against done k target more leads =
      let go : k + 1 < steps_in h n = omega (arith, more, done) in
      let known = knows k (omega (arith, go)) in
      let s = known.at in
      let e = next k s go in
      ap (place_of code f ps) (sym e.count) ∙ place_is setting history thread _ e.step.next
      ∙ sym (reached k s go (λ (t : Local). t.instruction))
      ∙ leads_there (known_before code f ps k) s.step.next.local known.agrees s.request s.took s.step.next.instr target s.step.asks
      (ap (λ i. leads_to (known_before code f ps k) s.step.next.local.instruction i) (sym (instr_there k s))
      ∙ ap (λ p. leads_to (known_before code f ps k) p (instr_on code f ps k)) (sym (place_there k s))
      ∙ leads)
