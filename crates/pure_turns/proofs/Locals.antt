-- Two threads at one place that agree on its live slots have the same request, and agree after it.
use Rattle.std.proofs.Common.{◌≡◌, ◌≢◌, ◌∙◌, inl, inr, ℕ, ◌+◌, ℤ, List, [], ◌∷◌, ◌++◌, length, Bool, true, false, cond, IsTrue}
use Rattle.std.proofs.Common.{Option, Some, None, refl, sym, ap, ap₂, subst, slice_set, slice_index_or, arith}
use Rattle.std.specs.Option.{option_map_or}
use Rattle.std.proofs.lemmas.Option.{none-some, same_Some}
use Rattle.std.proofs.lemmas.List.{length-append}
use Rattle.run_laws.specs.tc_base.States.{Local}
use Rattle.run_laws.specs.tc_base.declared.handle.Handle.TheVariants.{Unset, Child, Joined}
use Rattle.run_laws.specs.tc_base.declared.request.Request.{Request}
use Rattle.run_laws.specs.tc_base.declared.request.Request.TheVariants.{Read, Write, Exchange, Await, Fail}
use Rattle.run_laws.specs.tc_code.Expr.{Expr}
use Rattle.run_laws.specs.tc_code.int_ops.Updates.{operands_of}
use Rattle.run_laws.specs.tc_code.int_ops.declared.update.Update.{Update}
use Rattle.run_laws.specs.tc_code.int_ops.declared.update.Update.TheVariants as update
use Rattle.run_laws.specs.tc_code.declared.cell.Cell.{Cell}
use Rattle.run_laws.specs.tc_code.declared.cell.Cell.TheVariants.{Fixed, Element}
use Rattle.run_laws.specs.tc_code.declared.instr.Instr.{Instr}
use Rattle.run_laws.specs.tc_code.declared.instr.Instr.TheVariants.{Set, Load, Store, Inside, Branch, Goto, Holds, Lock, Unlock, Sleep, Wake}
use Rattle.run_laws.specs.tc_code.declared.instr.Instr.TheVariants.{Create, Ready, Join, Assert, Nonzero, InRange, Modify, Exit}
use Rattle.run_laws.specs.tc_code.Code.{Code, instr_at}
use Rattle.run_laws.specs.tc_code.Lawful.{exprs_of, index_of, written}
use Rattle.run_laws.specs.tc_code.Step.{request, site, is_within, is_nonzero, cell_at, cell_in, update_in, value_in, can_be_joined, child_number, step_in_place, step_by_branch, local_after, arguments_of, instr_of}
use Rattle.run_laws.specs.int_ops.Arith.{is_distance}
use Rattle.run_laws.proofs.tc_code.Facts.{at_its_place}
use Rattle.run_laws.proofs.After.{branch_is, after_has}
use Rattle.pure_turns.specs.Live.{Liveness, MayLead, IsClosed, AgreeWhereLive, AreAlike}
use Rattle.run_laws.proofs.Counts.{after_counts}
use Rattle.pure_turns.specs.Turn.{IsBehind}
use Rattle.pure_turns.proofs.Values.{Agree, SameValues, values_agree, map_agrees, set_agrees}

-- the value that an instruction writes to its slot
abbrev brought : Local → Instr → ℤ → ℤ
brought t (Set k e) v = value_in t e
brought t _ v = v

-- the slots after an instruction
slots_after : (t : Local) (i : Instr) (v : ℤ) → (local_after t i v).slots ≡ option_map_or (λ k. slice_set t.slots k (brought t i v)) (written i) t.slots
slots_after t (Branch e to) v = ap (λ (x : Local). x.slots) (branch_is t _ to)
slots_after t _ v = refl

-- an instruction leads on from its place
branch_leads : (t : Local) (e : Expr) (b : Bool) (to : ℕ) → MayLead (Branch e to) t.instruction (step_by_branch t b to).instruction
branch_leads t e true to = inl refl
branch_leads t e false to = inr refl

leads_to : (t : Local) (i : Instr) (v : ℤ) → MayLead i t.instruction (local_after t i v).instruction
leads_to t (Branch e to) v = branch_leads t e _ to
leads_to t (Goto to) v = refl
leads_to t _ v = refl

module _ (t u : Local) where
  brought_same : (i : Instr) (v : ℤ) → SameValues t.slots u.slots (exprs_of i) → brought t i v ≡ brought u i v
  brought_same (Set k e) v same = same.0
  brought_same _ v same = refl

  place_same : (i : Instr) (v : ℤ) → SameValues t.slots u.slots (exprs_of i) → t.instruction ≡ u.instruction → (local_after t i v).instruction ≡ (local_after u i v).instruction
  place_same (Branch e to) v same place =
      ap (λ (x : Local). x.instruction) (branch_is t _ to)
      ∙ ap₂ (λ x p. cond (is_nonzero x) (p + 1) to) same.0 place
      ∙ sym (ap (λ (x : Local). x.instruction) (branch_is u _ to))
  place_same (Goto to) v same place = refl
  place_same _ v same place = ap (λ p. p + 1) place

  handles_same : (i : Instr) (v : ℤ) → t.handles ≡ u.handles → t.children ≡ u.children → (local_after t i v).handles ≡ (local_after u i v).handles
  handles_same (Create h f es) v handles children = ap₂ (λ hs n. slice_set hs h (Child (n + 1))) handles children
  handles_same (Join h) v handles children = ap (λ hs. slice_set hs h (Joined (child_number (slice_index_or hs h Unset)))) handles
  handles_same (Branch e to) v handles children =
      ap (λ (x : Local). x.handles) (branch_is t _ to) ∙ handles ∙ sym (ap (λ (x : Local). x.handles) (branch_is u _ to))
  handles_same _ v handles children = handles

  held_same : (i : Instr) (v : ℤ) → t.held ≡ u.held → (local_after t i v).held ≡ (local_after u i v).held
  held_same (Lock m) v held = ap (λ hs. slice_set hs m true) held
  held_same (Unlock m) v held = ap (λ hs. slice_set hs m false) held
  held_same (Sleep c m) v held = ap (λ hs. slice_set hs m false) held
  held_same (Wake c m) v held = ap (λ hs. slice_set hs m true) held
  held_same (Branch e to) v held = ap (λ (x : Local). x.held) (branch_is t _ to) ∙ held ∙ sym (ap (λ (x : Local). x.held) (branch_is u _ to))
  held_same _ v held = held

  children_same : (i : Instr) (v : ℤ) → t.children ≡ u.children → (local_after t i v).children ≡ (local_after u i v).children
  children_same (Create h f es) v children = ap (λ n. n + 1) children
  children_same (Branch e to) v children =
      ap (λ (x : Local). x.children) (branch_is t _ to) ∙ children ∙ sym (ap (λ (x : Local). x.children) (branch_is u _ to))
  children_same _ v children = children

  exited_same : (i : Instr) (v : ℤ) → t.has_exited ≡ u.has_exited → (local_after t i v).has_exited ≡ (local_after u i v).has_exited
  exited_same Exit v exited = refl
  exited_same (Branch e to) v exited =
      ap (λ (x : Local). x.has_exited) (branch_is t _ to) ∙ exited ∙ sym (ap (λ (x : Local). x.has_exited) (branch_is u _ to))
  exited_same _ v exited = exited

  -- the two threads access the same cell, and update it alike
  cell_same : (c : Cell Expr) → SameValues t.slots u.slots (index_of c) → cell_in u c ≡ cell_in t c
  cell_same (Fixed c) same = refl
  cell_same (Element first len i) same = ap (cell_at first) (sym same.0)

  parts_same : (c : Cell Expr) (es : List Expr) → SameValues t.slots u.slots (index_of c ++ es)
      → SameValues t.slots u.slots (index_of c) × SameValues t.slots u.slots es
  parts_same (Fixed c) es same = (tt, same)
  parts_same (Element first len i) es same = ((same.0, tt), same.1)

  update_same : (w : Update Expr) → SameValues t.slots u.slots (operands_of w) → update_in u w ≡ update_in t w
  update_same (update.Swap e) same = ap update.Swap (sym same.0)
  update_same (update.Cas e new) same = ap₂ update.Cas (sym same.0) (sym same.1.0)
  update_same (update.Add e) same = ap update.Add (sym same.0)

  -- the two threads have the same request
  asks_same : (i : Instr) → SameValues t.slots u.slots (exprs_of i) → t.held ≡ u.held → t.handles ≡ u.handles → request u i ≡ request t i
  asks_same (Load k c) same held handles = ap Read (cell_same c same)
  asks_same (Store c e) same held handles = let p = parts_same c (e ∷ []) same in ap₂ Write (cell_same c p.0) (sym p.1.0)
  asks_same (Modify k c w) same held handles = let p = parts_same c (operands_of w) same in ap₂ Exchange (cell_same c p.0) (update_same w p.1)
  asks_same (Inside len e) same held handles = ap (λ v. site (is_within len v)) (sym same.0)
  asks_same (Holds m) same held handles = ap (λ hs. site (slice_index_or hs m false)) (sym held)
  asks_same (Ready h) same held handles = ap (λ hs. site (can_be_joined (slice_index_or hs h Unset))) (sym handles)
  asks_same (Join h) same held handles = ap (λ hs. Await (child_number (slice_index_or hs h Unset))) (sym handles)
  asks_same (Assert e) same held handles = ap (λ v. site (is_nonzero v)) (sym same.0)
  asks_same (Nonzero e) same held handles = ap (λ v. site (is_nonzero v)) (sym same.0)
  asks_same (InRange e) same held handles = ap (λ v. site (is_distance v)) (sym same.0)
  asks_same _ same held handles = refl

  -- they pass the same arguments
  arguments_same : (i : Instr) → SameValues t.slots u.slots (exprs_of i) → arguments_of u i ≡ arguments_of t i
  arguments_same (Create h f es) same = sym (map_agrees t.slots u.slots es same)
  arguments_same _ same = refl

  -- slots that agree before an instruction agree after it, including the one that it writes
  written_same : (o : Option ℕ) (v w : ℤ) (k : ℕ) → v ≡ w → length t.slots ≡ length u.slots → (o ≢ Some k → Agree t.slots u.slots k)
      → Agree (option_map_or (λ j. slice_set t.slots j v) o t.slots) (option_map_or (λ j. slice_set u.slots j w) o u.slots) k
  written_same None v w k same count agree = agree (λ e. none-some k e)
  written_same (Some j) v w k same count agree =
      subst (λ x. Agree (slice_set t.slots j v) (slice_set u.slots j x) k) same
      (set_agrees t.slots u.slots j k v count (λ other. agree (λ e. other (same_Some j k e))))

module _ (code : Code) (live : Liveness) (closed : IsClosed code live) (t u : Local) (i : Instr) (alike : AreAlike live t u)
    (at : instr_of code t ≡ Some i) where
  there : instr_at code t.function t.instruction ≡ Some i
  there = at_its_place code t i at

  same_values : SameValues t.slots u.slots (exprs_of i)
  same_values = values_agree t.slots u.slots (exprs_of i) (λ k named. alike.slots k (closed.reads t.function t.instruction k i there named))

  -- the two threads are at the same instruction
  pub at_same : instr_of code u ≡ Some i
  at_same =
      ap₂ (λ f p. cond u.has_exited None (instr_at code f p)) (sym alike.rest.function) (sym alike.place)
      ∙ ap (λ b. cond b None (instr_at code t.function t.instruction)) (sym alike.rest.has_exited)
      ∙ at

  -- the two threads have the same request
  pub asks_alike : request u i ≡ request t i
  asks_alike = asks_same t u i same_values alike.rest.held alike.rest.handles

  pub arguments_alike : arguments_of u i ≡ arguments_of t i
  arguments_alike = arguments_same t u i same_values

  module _ (v : ℤ) where
    slots_agree : AgreeWhereLive live (local_after t i v) (local_after u i v)
    slots_agree k lives =
        let next = subst (λ f. IsTrue (live f (local_after t i v).instruction k)) (after_has t i v).function lives in
        let same = written_same t u (written i) (brought t i v) (brought u i v) k (brought_same t u i v same_values) alike.rest.slots
        (λ other. alike.slots k (closed.passes t.function t.instruction (local_after t i v).instruction k i there (leads_to t i v) next other)) in
        subst (λ xs. Agree xs (local_after u i v).slots k) (sym (slots_after t i v))
        (subst (λ ys. Agree (option_map_or (λ j. slice_set t.slots j (brought t i v)) (written i) t.slots) ys k) (sym (slots_after u i v)) same)

    -- the two threads are alike after it
    pub after_alike : AreAlike live (local_after t i v) (local_after u i v)
    after_alike =
        let first = after_has t i v in
        let second = after_has u i v in
        record {
          place = place_same t u i v same_values alike.place;
          slots = slots_agree;
          rest = record {
            function = first.function ∙ alike.rest.function ∙ sym second.function;
            slots = first.slots ∙ alike.rest.slots ∙ sym second.slots;
            handles = handles_same t u i v alike.rest.handles alike.rest.children;
            held = held_same t u i v alike.rest.held;
            children = children_same t u i v alike.rest.children;
            has_exited = exited_same t u i v alike.rest.has_exited;
          };
        }

-- being alike is symmetric
pub alike_back : (live : Liveness) (t u : Local) → AreAlike live t u → AreAlike live u t
alike_back live t u alike = record {
  place = sym alike.place;
  slots = λ k lives.
      sym (alike.slots k (subst (λ f. IsTrue (live f t.instruction k)) (sym alike.rest.function) (subst (λ p. IsTrue (live u.function p k)) (sym alike.place) lives)));
  rest = record {
    function = sym alike.rest.function;
    slots = sym alike.rest.slots;
    handles = sym alike.rest.handles;
    held = sym alike.rest.held;
    children = sym alike.rest.children;
    has_exited = sym alike.rest.has_exited;
  };
}

-- the thread after a request that read a value
abbrev pub after_request : Local → Instr → Request → ℤ → Local
after_request t i Fail v = step_in_place t
after_request t i r v = local_after t i v

stepped_alike : (live : Liveness) (t u : Local) → AreAlike live t u → AreAlike live (step_in_place t) (step_in_place u)
stepped_alike live t u alike = record {
  place = alike.place;
  slots = alike.slots;
  rest = record {
    function = alike.rest.function;
    slots = alike.rest.slots;
    handles = alike.rest.handles;
    held = alike.rest.held;
    children = alike.rest.children;
    has_exited = alike.rest.has_exited;
  };
}

pub request_alike : (code : Code) (live : Liveness) → IsClosed code live → (t u : Local) (i : Instr) (r : Request) (v : ℤ) → AreAlike live t u
    → instr_of code t ≡ Some i → AreAlike live (after_request t i r v) (after_request u i r v)
request_alike code live closed t u i Fail v alike at = stepped_alike live t u alike
request_alike code live closed t u i r v alike at = after_alike code live closed t u i alike at v

-- the number of outcomes that an instruction adds
abbrev pub adds : Instr → ℕ
adds (Branch e to) = 1
adds _ = 0

pub outcomes_after : (t : Local) (i : Instr) (v : ℤ) → length (local_after t i v).outcomes ≡ length t.outcomes + adds i
outcomes_after t (Branch e to) v =
    ap (λ (x : Local). length x.outcomes) (branch_is t _ to) ∙ length-append t.outcomes (is_nonzero (value_in t e) ∷ [])
outcomes_after t _ v = omega arith

-- a thread that is behind another stays behind it
pub request_behind : (t u : Local) (i : Instr) (r : Request) (v : ℤ) → IsBehind t u → IsBehind (after_request t i r v) (after_request u i r v)
request_behind t u i Fail v behind = record { steps = omega (arith, behind.steps); outcomes = behind.outcomes }
request_behind t u i r v behind = record {
  steps = omega (arith, behind.steps, (after_counts t i v).steps, (after_counts u i v).steps);
  outcomes = omega (arith, behind.outcomes, outcomes_after t i v, outcomes_after u i v);
}
