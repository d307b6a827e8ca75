-- In a state that a run of lawful code reaches, a thread can do the instruction at its place.
use Rattle.std.proofs.Common.{◌≡◌, ◌∙◌, ◌+◌, ◌<◌, ◌≤◌, ◌^◌, length, Bool, true, false, IsTrue, Some, refl, ap, sym, subst, arith}
use Rattle.std.proofs.lemmas.Bool.{false≢true}
use Rattle.std.proofs.lemmas.List.{length-map}
use Rattle.std.proofs.lemmas.Option.{same_Some, slice_get_within}
use Rattle.std.specs.FinMap as fin
use Rattle.std.specs.Option.{option_map_or}
use Rattle.tc_base.specs.Names.{Name}
use Rattle.tc_base.specs.Buffers.{BufferOps}
use Rattle.tc_base.specs.States.{Local, Thread, State}
use Rattle.tc_code.specs.declared.instr.Instr.{Instr}
use Rattle.tc_code.specs.declared.instr.Instr.TheVariants.{Inside, Branch, Holds, Create, Ready, Assert, Nonzero, InRange}
use Rattle.tc_code.specs.Code.{Code}
use Rattle.tc_code.specs.Lawful.{names_what_is, IsLawful}
use Rattle.tc_code.specs.declared.code.Func.{Func}
use Rattle.tc_base.specs.declared.request.Request.TheVariants.{Silent}
use Rattle.tc_code.specs.Step.{request, site, instr_of, ints_of, value_in}
use Rattle.tc_code.specs.Run.{IsReached}
use Rattle.tc_code.proofs.Facts.{placed_next}
use Rattle.tc_threads.specs.CanDo.{CanAsk, CanDo, Starts, sized, is_branch}
use Rattle.tc_machine.specs.helpers.CanDo.{CanPerform}
use Rattle.tc_threads.proofs.run_laws.Asks.{asked_is_there}
use Rattle.tc_threads.proofs.run_laws.Whole.{names_next, reached_is_whole, create_starts}
use Rattle.tc_threads.proofs.run_laws.Guards.{index_is_within}
use Rattle.tc_threads.proofs.run_laws.Created.{child_is_new}
use Rattle.tc_threads.specs.run_laws.Counters.{CountersAreBelowLast}

-- an instruction that names what a function has names what a thread of the same size has
names-sized : (code : Code) (f : Func) (t : Local) (i : Instr) → length t.slots ≡ f.ints → length t.handles ≡ f.handles
    → IsTrue (names_what_is code f i) → IsTrue (names_what_is code (sized f t) i)
names-sized code f t i slots handles h =
    subst (λ k. IsTrue (names_what_is code (record f { ints = length t.slots; handles = k }) i)) (sym handles)
    (subst (λ k. IsTrue (names_what_is code (record f { ints = k }) i)) (sym slots) h)

site_starts : (code : Code) (t : Local) (i : Instr) (b : Bool) → Starts code t i (site b)
site_starts code t i true = tt
site_starts code t i false = tt

starts : (code : Code) (f : Func) (t : Local) (i : Instr) → IsLawful code → IsTrue (names_what_is code f i) → Starts code t i (request t i)
starts code f t (Create v g es) lawful h =
    let can = create_starts code f v g es lawful h in
    let ints : ints_of code g ≡ can.function.ints = ap (λ o. option_map_or (λ (f : Func). f.ints) o 0) can.there in (
      slice_get_within code.functions g can.function can.there,
      subst (λ n. n ≤ ints_of code g) (sym (length-map es (value_in t))) (omega (arith, ints, can.few)),
    )
starts code f t (Inside len i) lawful h = site_starts code t (Inside len i) _
starts code f t (Holds m) lawful h = site_starts code t (Holds m) _
starts code f t (Ready v) lawful h = site_starts code t (Ready v) _
starts code f t (Assert e) lawful h = site_starts code t (Assert e) _
starts code f t (Nonzero e) lawful h = site_starts code t (Nonzero e) _
starts code f t (InRange e) lawful h = site_starts code t (InRange e) _
starts code f t i lawful h = tt

-- a branch has a silent request
branch_asks_nothing : (t : Local) (i : Instr) → IsTrue (is_branch i) → request t i ≡ Silent
branch_asks_nothing t (Branch e to) h = refl
branch_asks_nothing t i h = absurd (false≢true h)

module _ {B : Type 0} (ops : BufferOps B) (code : Code) (s : State B) (n : Name) (t : Thread B) (i : Instr) (lawful : IsLawful code)
    (reached : IsReached ops code s) (there : fin.get s.threads n ≡ Some t) (at : instr_of code t.local ≡ Some i) where
  -- everything that the instruction names exists
  pub can_ask : CanAsk code t.local i
  can_ask =
      let whole = (reached_is_whole ops code s lawful reached).threads n t there in
      let placed = placed_next code t.local i lawful at in
      let same : whole.function ≡ placed.function = same_Some _ _ (sym whole.there ∙ placed.there) in
      record {
        function = placed.function;
        names =
            names-sized code placed.function t.local i (whole.slots ∙ ap (λ f. f.ints) same) (whole.handles ∙ ap (λ f. f.handles) same)
            (names_next code t.local i lawful at);
        held = whole.held;
        cells = lawful.cells;
        index = index_is_within ops code s n t i lawful reached there at;
      }

  module _ (counters : CountersAreBelowLast s) (next : t.local.instruction + 1 < 2 ^ 64) where
    pub can_do : CanDo code t.local i
    can_do = record { asks = can_ask; room = record { place = next; counters = counters n t there } }

    -- if there is room for one more, the thread can do the instruction
    pub can_perform : CanPerform code s n i (request t.local i) t
    can_perform = record {
      thread = can_do;
      asked = asked_is_there ops code s n t i lawful reached there at;
      starts = starts code (placed_next code t.local i lawful at).function t.local i lawful (names_next code t.local i lawful at);
      branch = branch_asks_nothing t.local i;
      is_new = child_is_new ops code s n t reached there;
    }
