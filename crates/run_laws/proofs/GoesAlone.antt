-- Each thread runs alone, given the values that its loads take.
use Rattle.std.proofs.Common.{◌≡◌, ◌≢◌, ◌∙◌, inl, inr, ℕ, zero, suc, ◌+◌, List, [], ◌∷◌, ◌++◌, Bool, true}
use Rattle.std.proofs.Common.{false, Option, Some, refl, ap, sym, subst, arith, cond, ℤ, pos}
use Rattle.std.specs.Option.{option_map_or}
use Rattle.std.specs.FinMap as fin
use Rattle.std.proofs.lemmas.Bool.{true≢false}
use Rattle.std.proofs.lemmas.Option.{same_Some, option_and_then_some}
use Rattle.tc_code.specs.tc_base.Names.{Name, child}
use Rattle.tc_code.specs.tc_base.Buffers.{BufferOps}
use Rattle.tc_code.specs.tc_base.States.{Local, Thread, State}
use Rattle.tc_code.specs.tc_base.declared.moves.Move.{Move}
use Rattle.tc_code.specs.tc_base.declared.moves.Move.TheVariants as move
use Rattle.tc_code.specs.declared.instr.Instr.{Instr}
use Rattle.tc_code.specs.declared.instr.Instr.TheVariants.{Signal}
use Rattle.tc_code.specs.Code.{Code}
use Rattle.tc_code.specs.tc_base.declared.request.Request.{Request}
use Rattle.tc_code.specs.tc_base.declared.request.Request.TheVariants.{Read, Write, Exchange, Bar, WakeOne, Start, Fail}
use Rattle.tc_code.specs.Step.{request, step_in_place, local_after, instr_of, loaded, in_memory, perform, step}
use Rattle.tc_code.specs.Run.{IsReached, run_from}
use Rattle.tc_code.proofs.Facts.{step_is_reached}
use Rattle.run_laws.specs.Alone.{same, Alone, after_request, goes_on, after_steps, taken_by, taken_in, taken_from}
use Rattle.run_laws.proofs.Counts.{after_counts}
use Rattle.run_laws.proofs.Basics.{either}
use Rattle.run_laws.proofs.Names.{tells_names, one_under, get_put, get_put_apart, child_apart}
use Rattle.run_laws.proofs.Created.{not_next_child}
use Rattle.run_laws.proofs.Steps.{Went, step_went}

-- whether a request takes a value from memory
abbrev is_read : Request → Bool
is_read (Read c) = true
is_read (Exchange c v) = true
is_read _ = false

-- the thread after a request that takes no value
abbrev local_by : Local → Instr → Request → Local
local_by t i Fail = step_in_place t
local_by t i _ = local_after t i (pos 0)

-- a request that takes no value leaves all values
takes_none : (t : Local) (i : Instr) (vs : List ℤ) (r : Request) → is_read r ≡ false → after_request t i vs r ≡ record { local = local_by t i r; values = vs }
takes_none t i [] Fail h = refl
takes_none t i [] _ h = refl
takes_none t i (v ∷ vs) (Read c) h = absurd (true≢false h)
takes_none t i (v ∷ vs) (Exchange c _) h = absurd (true≢false h)
takes_none t i (v ∷ vs) _ h = refl

-- `j` steps and then `k` more are `j + k` steps
after_both : (code : Code) (j k : ℕ) (a : Alone) → after_steps code (j + k) a ≡ after_steps code k (after_steps code j a)
after_both code zero k a = let e : 0 + k ≡ k = omega arith in ap (λ n. after_steps code n a) e
after_both code (suc j) k a =
    let e : suc j + k ≡ suc (j + k) = omega arith in
    ap (λ n. after_steps code n a) e ∙ after_both code j k (goes_on code a)

-- a thread that runs alone does its next instruction
goes_by : (code : Code) (t : Local) (i : Instr) (vs : List ℤ) → instr_of code t ≡ Some i
    → goes_on code (record { local = t; values = vs }) ≡ after_request t i vs (request t i)
goes_by code t i vs at = ap (λ o. option_map_or (λ j. after_request t j vs (request t j)) o (record { local = t; values = vs })) at

module _ {B : Type 0} (ops : BufferOps B) (code : Code) where
  -- what the thread of a name does in a move: `count` steps, with the values that it takes
  record GoesOn (w : State B) (n : Name) (t : Thread B) (taken : List ℤ) : Type 0 where
    after : Thread B
    there : fin.get w.threads n ≡ Some after
    count : ℕ
    steps : after.local.steps ≡ t.local.steps + count
    goes : (vs : List ℤ) → after_steps code count (record { local = t.local; values = taken ++ vs }) ≡ record { local = after.local; values = vs }

  -- a thread may do nothing in a move
  stays_put : (w : State B) (n : Name) (t u : Thread B) → fin.get w.threads n ≡ Some u → u.local ≡ t.local → GoesOn w n t []
  stays_put w n t u there same = record {
    after = u;
    there = there;
    count = 0;
    steps = ap (λ (x : Local). x.steps) same ∙ omega arith;
    goes = λ vs. ap (λ x. record { local = x; values = vs }) (sym same);
  }

  -- each request counts one step
  steps_one : (t : Local) (i : Instr) (r : Request) → (local_by t i r).steps ≡ t.steps + 1
  steps_one t i Fail = refl
  steps_one t i _ = (after_counts t i (pos 0)).steps

  -- a thread may do an instruction that takes no value
  does_one : (w : State B) (n : Name) (t : Thread B) (i : Instr) (r : Request) (buffer : B) → instr_of code t.local ≡ Some i → request t.local i ≡ r
      → is_read r ≡ false → fin.get w.threads n ≡ Some (record { local = local_by t.local i r; buffer = buffer }) → GoesOn w n t []
  does_one w n t i r buffer at e reads there = record {
    after = record { local = local_by t.local i r; buffer = buffer };
    there = there;
    count = 1;
    steps = steps_one t.local i r;
    goes = λ vs. goes_by code t.local i vs at ∙ ap (after_request t.local i vs) e ∙ takes_none t.local i vs r reads;
  }

  -- a thread may do an instruction that takes a value
  takes_one : (w : State B) (n : Name) (t : Thread B) (i : Instr) (v : ℤ) → instr_of code t.local ≡ Some i
      → ((vs : List ℤ) → after_request t.local i (v ∷ vs) (request t.local i) ≡ record { local = local_after t.local i v; values = vs })
      → fin.get w.threads n ≡ Some (record t { local = local_after t.local i v }) → GoesOn w n t (v ∷ [])
  takes_one w n t i v at takes there = record {
    after = record t { local = local_after t.local i v };
    there = there;
    count = 1;
    steps = (after_counts t.local i v).steps;
    goes = λ vs. goes_by code t.local i (v ∷ vs) at ∙ takes vs;
  }

  -- a thread that does an instruction takes the value of its request
  own_goes : (s : State B) (n : Name) (t : Thread B) (i : Instr) (r : Request) → instr_of code t.local ≡ Some i → request t.local i ≡ r
      → GoesOn (perform ops code s n t i r) n t (taken_by ops code s t r)
  own_goes s n t i (Read c) at e =
      takes_one _ n t i (loaded ops s t c) at (λ vs. ap (after_request t.local i (loaded ops s t c ∷ vs)) e) (get_put s.threads n _)
  own_goes s n t i (Exchange c v) at e =
      takes_one _ n t i (in_memory s c) at (λ vs. ap (after_request t.local i (in_memory s c ∷ vs)) e) (get_put s.threads n _)
  own_goes s n t i Bar at e = does_one _ n t i Bar (ops.bar t.buffer) at e refl (get_put s.threads n _)
  own_goes s n t i (Write c v) at e =
      either (λ w. GoesOn w n t []) ops.buffered _ _
      (does_one _ n t i (Write c v) (ops.issue t.buffer c v) at e refl (get_put s.threads n _))
      (does_one _ n t i (Write c v) t.buffer at e refl (get_put s.threads n _))
  own_goes s n t i (Start f) at e =
      does_one _ n t i (Start f) t.buffer at e refl
      (get_put_apart _ _ _ n (λ e. child_apart n _ (sym e)) ∙ get_put s.threads n _)
  own_goes s n t i r at e = does_one _ n t i r t.buffer at e refl (get_put s.threads n _)

  -- another thread's instruction leaves a thread as it is
  leaves : (s : State B) (q : Name) (x : Thread B) (i : Instr) (r : Request) (n : Name) (t : Thread B) → fin.get s.threads n ≡ Some t → n ≢ q
      → n ≢ child q (x.local.children + 1) → fin.get (perform ops code s q x i r).threads n ≡ Some t
  leaves s q x i (Write c v) n t there other new =
      either (λ (w : State B). fin.get w.threads n ≡ Some t) ops.buffered _ _ (get_put_apart s.threads q _ n other ∙ there)
      (get_put_apart s.threads q _ n other ∙ there)
  leaves s q x i (Start f) n t there other new = get_put_apart _ _ _ n new ∙ get_put_apart s.threads q _ n other ∙ there
  leaves s q x i _ n t there other new = get_put_apart s.threads q _ n other ∙ there

  -- what a thread does in a move of its own, and in a move of another thread
  own_or_other : (s w : State B) (n q : Name) (t x : Thread B) (taken : Bool → List ℤ) → fin.get s.threads n ≡ Some t → fin.get s.threads q ≡ Some x
      → GoesOn w q x (taken true) → (n ≢ q → GoesOn w n t (taken false)) → GoesOn w n t (taken (same n q))
  own_or_other s w n q t x taken there here own other =
      elim (tells_names n q) [
        | inl e ↦
            let one = one_under s.threads q n x t (sym e.1) here there in
            subst (λ b. GoesOn w n t (taken b)) (sym e.0) (subst (λ y. GoesOn w n y (taken true)) one (subst (λ m. GoesOn w m x (taken true)) (sym e.1) own))
        | inr e ↦ subst (λ b. GoesOn w n t (taken b)) (sym e.0) (other e.1)
      ]

  -- the values that a thread takes in its next instruction, if the thread exists
  abbrev taken_at : State B → Option (Thread B) → List ℤ
  taken_at s o = option_map_or (λ t. option_map_or (λ i. taken_by ops code s t (request t.local i)) (instr_of code t.local) []) o []

  -- the values taken by an instruction are those of its request
  taken_is : (s : State B) (q : Name) (x : Thread B) (i : Instr) → fin.get s.threads q ≡ Some x → instr_of code x.local ≡ Some i
      → taken_at s (fin.get s.threads q) ≡ taken_by ops code s x (request x.local i)
  taken_is s q x i here at = ap (taken_at s) here ∙ ap (λ o. option_map_or (λ j. taken_by ops code s x (request x.local j)) o []) at

  -- what each thread does in a move
  went_goes : (s u : State B) (m : Move) (n : Name) (t : Thread B) → IsReached ops code s → Went ops code s u m → fin.get s.threads n ≡ Some t
      → GoesOn u n t (taken_in ops code s n m)
  went_goes s u (move.Run q) n t reached w there =
      subst (λ x. GoesOn x n t (taken_in ops code s n (move.Run q))) (sym w.after)
      (own_or_other s _ n q t w.thread (λ b. cond b (taken_at s (fin.get s.threads q)) []) there w.there
      (subst (GoesOn _ q w.thread) (sym (taken_is s q w.thread w.instr w.there w.at))
      (own_goes s q w.thread w.instr (request w.thread.local w.instr) w.at refl))
      (λ apart. stays_put _ n t t (leaves s q w.thread w.instr _ n t there apart (not_next_child ops code s q n w.thread t reached w.there there)) refl))
  went_goes s u (move.Wake q v) n t reached w there =
      subst (λ x. GoesOn x n t []) (sym w.after)
      (own_or_other s _ n q t w.thread (λ b. []) there w.there
      (does_one _ q w.thread (Signal w.condition) (WakeOne w.condition) w.thread.buffer w.at refl refl (get_put s.threads q _))
      (λ apart. stays_put _ n t t (get_put_apart s.threads q _ n apart ∙ there) refl))
  went_goes s u (move.Drain q form) n t reached w there =
      subst (λ x. GoesOn x n t []) (sym w.after)
      (own_or_other s _ n q t w.thread (λ b. []) there w.there
      (stays_put _ q w.thread _ (get_put s.threads q _) refl)
      (λ apart. stays_put _ n t t (get_put_apart s.threads q _ n apart ∙ there) refl))

  -- a thread goes alone from one state to another
  abbrev pub GoesAlone : State B → List Move → Name → Thread B → Thread B → Type 0
  GoesAlone s moves n t v =
      (k : ℕ) × (v.local.steps ≡ t.local.steps + k)
      × (v.local ≡ (after_steps code k (record { local = t.local; values = taken_from ops code s n moves })).local)

  -- a thread runs alone from a state if it runs alone from the next one
  goes_further : (s u : State B) (m : Move) (ms : List Move) (n : Name) (t v : Thread B) → step ops code s m ≡ Some u
      → (g : GoesOn u n t (taken_in ops code s n m)) → GoesAlone u ms n g.after v → GoesAlone s (m ∷ ms) n t v
  goes_further s u m ms n t v one g rest =
      let later = taken_from ops code u n ms in
      let all : taken_from ops code s n (m ∷ ms) ≡ taken_in ops code s n m ++ later =
      ap (λ o. taken_in ops code s n m ++ option_map_or (λ x. taken_from ops code x n ms) o []) one in (
        g.count + rest.0,
        omega (arith, g.steps, rest.1),
        rest.2
            ∙ ap (λ a. (after_steps code rest.0 a).local) (sym (g.goes later))
            ∙ ap (λ (a : Alone). a.local) (sym (after_both code g.count rest.0 (record { local = t.local; values = taken_in ops code s n m ++ later })))
            ∙ ap (λ vs. (after_steps code (g.count + rest.0) (record { local = t.local; values = vs })).local) (sym all),
      )

  -- in a run each thread runs alone
  pub threads_go_alone : (s u : State B) (moves : List Move) (n : Name) (t v : Thread B) → IsReached ops code s → run_from ops code s moves ≡ Some u
      → fin.get s.threads n ≡ Some t → fin.get u.threads n ≡ Some v → GoesAlone s moves n t v
  threads_go_alone s u [] n t v reached leads there then =
      let same : v ≡ t = same_Some v t (sym then ∙ ap (λ (x : State B). fin.get x.threads n) (sym (same_Some s u leads)) ∙ there) in
      (0, ap (λ (x : Thread B). x.local.steps) same ∙ omega arith, ap (λ (x : Thread B). x.local) same)
  threads_go_alone s u (m ∷ ms) n t v reached leads there then =
      option_and_then_some (λ w. run_from ops code w ms) (step ops code s m) u leads
      (λ w one rest.
      let g = went_goes s w m n t reached (step_went ops code s w m one) there in
      goes_further s w m ms n t v one g
      (threads_go_alone w u ms n g.after v (step_is_reached ops code s w m one reached) rest g.there then))
