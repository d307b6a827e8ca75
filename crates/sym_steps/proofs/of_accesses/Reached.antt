-- The accesses of a thread's steps name cells as lawful code does.
use Rattle.std.proofs.Common.{◌≡◌, ◌∙◌, ◌⊎◌, inl, inr, ℕ, suc, ◌+◌, ◌≤◌, ◌<◌, ◌==◌, ℤ, pos, Bool, List, [], ◌∷◌, ◌++◌, length, take, fold}
use Rattle.std.proofs.Common.{Some, None, refl, ap, sym, subst, arith, append-nil, slice_index_or}
use Rattle.std.specs.Prelude.{◌&&◌, slice_get, nat_lt}
use Rattle.std.specs.FinMap as fin
use Rattle.std.specs.List.{AllByRecursion as Each, flat_map, list_all}
use Rattle.std.specs.Bool.{IsTrue}
use Rattle.std.proofs.Math.Seq.{take-suc}
use Rattle.std.proofs.lemmas.Bool.{and_parts}
use Rattle.std.proofs.lemmas.List.Sums.{fold-append}
use Rattle.std.proofs.lemmas.Option.{same_Some, slice_get_within, get_or_from_slice_get}
use Rattle.order_events.specs.tc_base.Paths.{ThreadPath}
use Rattle.order_events.specs.tc_base.States.{Local, Thread}
use Rattle.order_events.specs.tc_code.Code.{instr_at}
use Rattle.order_events.specs.int_ops.Updates.{operands_of}
use Rattle.order_events.specs.tc_code.Expr.{Expr, names_slots, value_of as expr_value_of}
use Rattle.order_events.specs.tc_code.Lawful.{Array, is_apart, keeps_apart}
use Rattle.order_events.specs.tc_code.Step.{is_within, value_in, instr_of}
use Rattle.order_events.specs.tc_code.declared.cell.Cell.{Cell}
use Rattle.order_events.specs.tc_code.declared.cell.Cell.TheVariants.{Fixed, Element}
use Rattle.order_events.specs.tc_code.declared.instr.Instr.{Instr}
use Rattle.order_events.specs.tc_code.declared.instr.Instr.TheVariants.{Set, Load, Store, Modify}
use Rattle.order_events.proofs.tc_code.Facts.{placed}
use Rattle.order_events.specs.run_laws.Whole.{CellIsWithin, IndexIsWithin}
use Rattle.order_events.proofs.run_laws.Guards.{index_is_within}
use Rattle.sym_laws.specs.run_history.History.{Did, history}
use Rattle.sym_laws.specs.run_history.Told.{steps_in, failed_in}
use Rattle.sym_laws.proofs.run_history.Ints.{models_pass_ints}
use Rattle.sym_laws.proofs.run_history.of_pending.In.{In, in_append}
use Rattle.order_events.specs.path_walk.Paths.{Walk, walk_of, paths_of}
use Rattle.sym_laws.specs.path_laws.Setting.{Setting}
use Rattle.sym_laws.specs.path_laws.history.Along.{IsThread}
use Rattle.sym_laws.specs.path_laws.history.Next.{IsNextOnPath}
use Rattle.sym_laws.proofs.path_laws.of_history.Told.{RunOf, its_run, up_to}
use Rattle.sym_laws.proofs.path_laws.of_history.Walks.{thread_path_at}
use Rattle.sym_laws.proofs.path_laws.of_history.Next.{thread_next}
use Rattle.sym_laws.proofs.path_laws.of_events.Lists.{each_in, in_contains}
use Rattle.sym_laws.proofs.path_laws.of_events.Steps.{deed_of}
use Rattle.order_events.specs.sym_terms.Terms.{AreTerms}
use Rattle.order_events.specs.sym_terms.Values.{value_of}
use Rattle.order_events.specs.sym_terms.declared.node.Node.{Node}
use Rattle.order_events.specs.sym_terms.declared.node.Node.TheVariants.{Symbol}
use Rattle.sym_laws.specs.sym_exec.Making.{Made, Grows}
use Rattle.sym_laws.specs.sym_exec.helpers.Threads.{cell_named, names_within}
use Rattle.sym_laws.specs.sym_exec.Thread.{Doing, HasTerms, term_in, with_nodes, cell_of, after_instr, after_step, wanted_of, Route, route_of}
use Rattle.sym_laws.specs.sym_exec.Executed.{Course, fails_at, thread_started, thread_done}
use Rattle.sym_laws.specs.sym_exec.Alone.{slots_by, cell_by}
use Rattle.sym_laws.specs.sym_exec.declared.symbolic.Access.{Access}
use Rattle.sym_laws.proofs.sym_exec.Grown.{grows_both, grows_made, expr_grows}
use Rattle.sym_laws.proofs.sym_exec.Sound.{cell_goes, updating_goes, instr_named}
use Rattle.sym_laws.proofs.sym_exec.Values.{HasValue, value_stays, expr_value}
use Rattle.sym_laws.specs.Valued.{AgreesWith, found, found_before, execution, asked_of}
use Rattle.sym_laws.proofs.Executed.{course_of}
use Rattle.sym_laws.proofs.Follows.{Follows, fine_at, begins_at, grows_at, found_at_log}
use Rattle.sym_laws.proofs.Runs.{follow_after}
use Rattle.sym_laws.proofs.Steps.{IsFine, Begins, next, next_is, line_of}
use Rattle.sym_steps.proofs.Agree.{agree_first}
use Rattle.order_events.specs.order_formula.Worlds.{World}
use Rattle.order_events.specs.lawful_order.Cells.{is_same_cell, value_at_start}
use Rattle.sym_steps.specs.accesses.Asked.{IsReachedIn}
use Rattle.sym_steps.proofs.of_accesses.Sound.{IsSound, same_cell_is, begins_so}
use Rattle.sym_steps.specs.Valued.{ValuedHistory, ExecutedThread}

-- an instruction adds accesses to cells that the code allows
record AddsSound (arrays : List Array) (loads : List ℤ) (d e : Doing) : Type 0 where
  added : List Access
  accesses : e.accesses ≡ d.accesses ++ added
  sound : (later : List Node) → Grows e.nodes later → Each (λ (a : Access). IsSound arrays later loads a.cell) added

one_sound : (arrays : List Array) (loads : List ℤ) (d e : Doing) (a : Access) → e.accesses ≡ d.accesses ++ a ∷ []
    → ((later : List Node) → Grows e.nodes later → IsSound arrays later loads a.cell) → AddsSound arrays loads d e
one_sound arrays loads d e a accesses sound = record { added = a ∷ []; accesses = accesses; sound = λ later g. (sound later g, tt) }

none_added : (arrays : List Array) (loads : List ℤ) (d e : Doing) → e.accesses ≡ d.accesses → AddsSound arrays loads d e
none_added arrays loads d e same = record { added = []; accesses = same ∙ sym (append-nil d.accesses); sound = λ later g. tt }

-- an index that a thread finds inside an array is inside by its term, in all later nodes
inside : (loads : List ℤ) (x : Made) (len : ℕ) (e : Expr) (t : Local) (d : Doing) (later : List Node) → HasValue loads x (expr_value_of e (slots_by loads d))
    → t.slots ≡ slots_by loads d → Grows x.nodes later → IsTrue (is_within len (value_in t e)) → IsTrue (is_within len (value_of later loads x.term))
inside loads x len e t d later has slots g within =
    let same = value_stays x.nodes later loads x.term g has.within ∙ has.value ∙ ap (expr_value_of e) (sym slots) in
    subst (λ v. IsTrue (is_within len v)) (sym same) within

-- the cell that an instruction accesses, in all later nodes
cell_sound : (arrays : List Array) (loads : List ℤ) (d : Doing) (c : Cell Expr) (t : Local) → AreTerms d.nodes → HasTerms d
    → IsTrue (cell_named (length d.slots) c) → t.slots ≡ slots_by loads d → IsTrue (is_apart arrays c) → CellIsWithin t c
    → (later : List Node) → Grows (cell_of d c).nodes later → IsSound arrays later loads (cell_of d c).cell
cell_sound arrays loads d (Fixed c) t are s named is apart within later g = apart
cell_sound arrays loads d (Element first len i) t are s named is apart within later g =
    (apart, inside loads (term_in d i) len i t d later (expr_value d.nodes d.slots i loads are s.slots named) is g within)

adds_sound : (arrays : List Array) (loads : List ℤ) (line : ℕ) (wanted : Bool) (d : Doing) (i : Instr) (t : Local) → AreTerms d.nodes → HasTerms d
    → IsTrue (names_within (length d.slots) i) → t.slots ≡ slots_by loads d → IsTrue (keeps_apart arrays i) → IndexIsWithin t i
    → AddsSound arrays loads d (after_instr line wanted d i)
adds_sound arrays loads line wanted d (Load k c) t are s named is apart within =
    let named = and_parts (nat_lt k (length d.slots)) (cell_named (length d.slots) c) named in
    let x = cell_of d c in
    let e = after_instr line wanted d (Load k c) in
    one_sound arrays loads d e _ refl (λ later g. cell_sound arrays loads d c t are s named.1 is apart within later
    (grows_both x.nodes e.nodes later (grows_made x.nodes (Symbol d.loads)) g))
adds_sound arrays loads line wanted d (Store c v) t are s named is apart within =
    let named = and_parts (cell_named (length d.slots) c) (names_slots (length d.slots) v) named in
    let x = cell_of d c in
    let e = after_instr line wanted d (Store c v) in
    one_sound arrays loads d e _ refl (λ later g. cell_sound arrays loads d c t are s named.0 is apart within later
    (grows_both x.nodes e.nodes later (expr_grows x.nodes d.slots v) g))
adds_sound arrays loads line wanted d (Modify k c u) t are s named is apart within =
    let named = and_parts (nat_lt k (length d.slots) && cell_named (length d.slots) c) (list_all (names_slots (length d.slots)) (operands_of u)) named in
    let cell = (and_parts (nat_lt k (length d.slots)) (cell_named (length d.slots) c) named.0).1 in
    let x = cell_of d c in
    let e = after_instr line wanted d (Modify k c u) in
    let up = updating_goes (with_nodes d x.nodes) k x.cell u (cell_goes d c s).sound in
    one_sound arrays loads d e _ refl (λ later g. cell_sound arrays loads d c t are s cell is apart within later (grows_both x.nodes e.nodes later up.grows g))
adds_sound arrays loads line wanted d (Set k e) t are s named is apart within =
    none_added arrays loads d (after_instr line wanted d (Set k e)) refl
adds_sound arrays loads line wanted d i t are s named is apart within = none_added arrays loads d (after_instr line wanted d i) refl

module _ {B : Type 0} (setting : Setting B) (nodes : List Node) (loads : List ℤ) (valued : ValuedHistory setting nodes loads) where
  open setting use {machine, ops, model, bound, laws, code, lawful, log, log_is as is}
  open valued use {history as along, terms, agrees}
  open along use {deeds as h, fits}

  abbrev Sound : Access → Type 0
  Sound a = IsSound lawful.arrays.arrays (found code log nodes).nodes loads a.cell

  module _ (going : failed_in h ≡ None) (j : ℕ) where
    abbrev r : RunOf machine log h
    r = its_run setting along

    -- the next accesses of the thread under a path of the log
    module _ (p : ThreadPath) (at : slice_get log.threads j ≡ Some p) (there : IsThread code log j (walk_of code log p))
        (x : IsNextOnPath code h (walk_of code log p)) where
      abbrev w : Walk
      w = walk_of code log p

      abbrev y : (t : Thread B) × (fin.get r.state.threads w.name ≡ Some t) × (t.local ≡ x.local)
      y = thread_next setting along (record { index = j; walk = w; there = there }) going x

      abbrev t : Local
      t = y.0.local

      abbrev i : Instr
      i = x.instr

      abbrev d : Doing
      d = execution code log nodes j w t.steps

      abbrev whole : Doing
      whole = thread_done code (paths_of code log) (found_before code log nodes j) w

      abbrev route : Route
      route = route_of code w (fails_at (paths_of code log) j w)

      abbrev e : Doing
      e = next route d t.instruction

      follows : Follows (found code log nodes).nodes loads d t (flat_map (asked_of w.name) (history ops code r.moves))
      follows =
          follow_after ops code log nodes loads (models_pass_ints ops model bound laws) lawful is fits terms r.moves r.state r.leads r.on
          (subst (AgreesWith (found code log nodes).symbolic loads) (sym r.is) agrees) j p y.0 at y.1

      fine : IsFine code w.function d
      fine = fine_at code log nodes lawful is terms j p at t.steps

      number : t.steps ≡ steps_in h w.name
      number = ap (λ (l : Local). l.steps) y.2 ∙ x.steps

      placed_there : instr_at code w.function t.instruction ≡ Some i
      placed_there = ap (λ (l : Local). instr_at code w.function l.instruction) y.2 ∙ x.at

      one_more : execution code log nodes j w (suc t.steps) ≡ e
      one_more =
          let step = after_step route in
          let start = thread_started code (found_before code log nodes j) w in
          let place = ap (slice_get w.places) number ∙ x.place ∙ ap (λ (l : Local). Some l.instruction) (sym y.2) in
          let few = slice_get_within w.places t.steps t.instruction place in
          ap (fold step start)
          (take-suc w.places t.steps t.instruction few
          ∙ ap (λ q. take t.steps w.places ++ q ∷ []) (get_or_from_slice_get w.places t.steps t.instruction t.instruction place))
          ∙ fold-append step start (take t.steps w.places) (t.instruction ∷ [])

      begins : Begins e whole
      begins = subst (λ (z : Doing). Begins z whole) one_more (begins_at code log nodes lawful is terms j p at (suc t.steps))

      grows : Grows e.nodes (found code log nodes).nodes
      grows = subst (λ (z : Doing). Grows z.nodes (found code log nodes).nodes) one_more (grows_at code log nodes lawful is terms j p at (suc t.steps))

      abbrev plain : Doing
      plain = after_instr (line_of route t.instruction) (wanted_of route.outcomes route.fails d i) d i

      is_next : e ≡ record plain { steps = d.steps + 1 }
      is_next = next_is route d t.instruction i placed_there

      adds : AddsSound lawful.arrays.arrays loads d plain
      adds =
          let here = placed code w.function t.instruction i lawful placed_there in
          adds_sound lawful.arrays.arrays loads (line_of route t.instruction) (wanted_of route.outcomes route.fails d i) d i t fine.terms fine.sound
          (instr_named code w.function t.instruction (length d.slots) i lawful placed_there fine.ints) follows.slots
          (lawful.arrays.named w.function t.instruction here.function i here.there here.at)
          (index_is_within ops code r.state w.name y.0 i lawful (record { moves = r.moves; leads = r.leads }) y.1 (ap (instr_of code) y.2 ∙ x.next))

      added_so : whole.accesses ≡ (d.accesses ++ adds.added) ++ begins.found
      added_so = begins.accesses ∙ ap (λ xs. xs ++ begins.found) (ap (λ (z : Doing). z.accesses) is_next ∙ adds.accesses)

      step_sound : (a : Access) → In a whole.accesses → a.step ≡ steps_in h w.name → Sound a
      step_sound a one now = elim (in_append a (d.accesses ++ adds.added) begins.found (subst (In a) added_so one)) [
        | inl first ↦ elim (in_append a d.accesses adds.added first) [
          | inl before ↦ let lt = each_in (λ (b : Access). b.step < t.steps) a d.accesses follows.before before in absurd (omega (arith, lt, now, number))
          | inr mine ↦
              each_in Sound a adds.added
              (adds.sound (found code log nodes).nodes (subst (λ (z : Doing). Grows z.nodes (found code log nodes).nodes) is_next grows)) mine
        ]
        | inr after ↦
            let le = each_in (λ (b : Access). e.steps ≤ b.step) a begins.found begins.accessed after in
            let steps : e.steps ≡ d.steps + 1 = ap (λ (z : Doing). z.steps) is_next in
            absurd (omega (arith, le, steps, follows.steps, now, number))
      ]

    pub next_sound : (w : Walk) (c : Course) → IsThread code log j w → slice_get (found code log nodes).symbolic.threads j ≡ Some c
        → IsNextOnPath code h w → (a : Access) → In a c.accesses → a.step ≡ steps_in h w.name → Sound a
    next_sound w c there course x a one now =
        let p = thread_path_at code log j w there in
        let whole = λ (w : Walk). thread_done code (paths_of code log) (found_before code log nodes j) w in
        let same : course_of (walk_of code log p.0) (whole (walk_of code log p.0)) ≡ c =
        same_Some _ c (sym (found_at_log code log nodes lawful is terms j p.0 p.1).course ∙ course) in
        subst (λ (w : Walk). IsThread code log j w → IsNextOnPath code h w → a.step ≡ steps_in h w.name → Sound a) p.2
        (λ there x now. step_sound p.0 p.1 there x a (subst (λ (z : Course). In a z.accesses) (sym same) one) now)
        there x now

-- and so it was before each step that is done
module _ {B : Type 0} (setting : Setting B) (nodes : List Node) (loads : List ℤ) (valued : ValuedHistory setting nodes loads) where
  open setting use {code, log}
  open valued use {history as along, terms, agrees}
  open along use {deeds as h}

  done_sound : (one : ExecutedThread code log nodes) (a : Access) → In a one.course.accesses → a.step < steps_in h one.name
      → Sound setting nodes loads valued a
  done_sound one a among before =
      let d = deed_of setting along one.thread a.step before in
      let rest = Did one.name a.step d.request d.took d.other ∷ d.newer in
      let agreed = agree_first (found code log nodes).symbolic loads d.older rest (subst (AgreesWith (found code log nodes).symbolic loads) d.at agrees) in
      next_sound setting nodes loads (record { history = up_to setting along d.older rest d.at; terms = terms; agrees = agreed })
      d.step.going one.index one.walk one.course one.there one.executed d.step.next a among d.step.may.number

  pub reached_sound : (t : ℕ) (a : Access) → IsReachedIn code log nodes h t a → Sound setting nodes loads valued a
  reached_sound t a x = by x.reached
    where
      one : In a x.course.accesses
      one = in_contains a x.course.accesses x.among

      by : (a.step < steps_in h x.walk.name) ⊎ ((a.step ≡ steps_in h x.walk.name) × (failed_in h ≡ None) × IsNextOnPath code h x.walk)
          → Sound setting nodes loads valued a
      by (inl before) =
          done_sound (record { thread = record { index = t; walk = x.walk; there = x.thread }; course = x.course; executed = x.there }) a one before
      by (inr now) = next_sound setting nodes loads valued now.1 t x.walk x.course x.thread x.there now.2 a one now.0

-- so two of them are to one cell where their cells have one number
pub same_cells : {B : Type 0} (setting : Setting B) (nodes : List Node) (w : World) (valued : ValuedHistory setting nodes w.loads) (t u : ℕ) (a b : Access)
    → IsReachedIn setting.code setting.log nodes valued.deeds t a → IsReachedIn setting.code setting.log nodes valued.deeds u b
    → is_same_cell (found setting.code setting.log nodes).nodes w a.cell b.cell
    ≡ (cell_by (found setting.code setting.log nodes).nodes w.loads a.cell == cell_by (found setting.code setting.log nodes).nodes w.loads b.cell)
same_cells setting nodes w valued t u a b first second =
    same_cell_is setting.lawful.arrays.arrays setting.lawful.arrays.apart (found setting.code setting.log nodes).nodes w a.cell b.cell
    (reached_sound setting nodes w.loads valued t a first)
    (reached_sound setting nodes w.loads valued u b second)

-- and the cell of each has at the start what the code gives it
pub cell_begins : {B : Type 0} (setting : Setting B) (nodes : List Node) (loads : List ℤ) (valued : ValuedHistory setting nodes loads) (t : ℕ) (a : Access)
    → IsReachedIn setting.code setting.log nodes valued.deeds t a
    → value_at_start setting.code a.cell ≡ slice_index_or setting.code.memory (cell_by (found setting.code setting.log nodes).nodes loads a.cell) (pos 0)
cell_begins setting nodes loads valued t a at =
    begins_so setting.code setting.lawful.arrays (found setting.code setting.log nodes).nodes loads a.cell
    (reached_sound setting nodes loads valued t a at)
