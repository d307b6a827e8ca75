-- An execution at the beginning of a thread, and in a run.
use Rattle.std.proofs.Common.{◌≡◌, ◌∙◌, ℕ, zero, suc, ◌-◌, ℤ, pos, List, ◌∷◌, ◌++◌, map, length, replicate, Some, refl, ap, ap₂, sym}
use Rattle.std.specs.FinMap as fin
use Rattle.std.proofs.lemmas.List.{map-append, length-map}
use Rattle.tc_base.specs.Names.{Name}
use Rattle.tc_base.specs.Buffers.{BufferOps}
use Rattle.tc_base.specs.States.{Local, Thread, State}
use Rattle.tc_base.specs.declared.moves.Move.{Move}
use Rattle.tc_code.specs.Code.{Code}
use Rattle.tc_code.specs.Lawful.{IsLawful}
use Rattle.tc_code.specs.Run.{run}
use Rattle.tc_code.specs.Step.{ints_of}
use Rattle.run_laws.specs.Alone.{Beginning, after_steps}
use Rattle.run_laws.specs.Ints.{PassesInts}
use Rattle.run_laws.proofs.Begun.{threads_live_alone}
use Rattle.run_laws.proofs.Ints.{values_are_ints, taken_are_ints}
use Rattle.sym_terms.specs.Terms.{AreTerms}
use Rattle.sym_terms.specs.Values.{value_of}
use Rattle.sym_terms.specs.declared.node.Node.{Node}
use Rattle.sym_terms.specs.declared.node.Node.TheVariants.{Constant}
use Rattle.sym_exec.specs.Making.{Grows, term_of_node}
use Rattle.sym_exec.specs.Thread.{AreOf, started}
use Rattle.sym_exec.specs.Alone.{slots_by, StandsFor}
use Rattle.sym_exec.specs.Runs.{Inputs, Suits, ThreadTells, at_start, route, start}
use Rattle.sym_exec.proofs.Grown.{grows_made}
use Rattle.sym_exec.proofs.Sound.{start_sound, start_has}
use Rattle.sym_exec.proofs.Values.{constant_value, values_stay}
use Rattle.sym_exec.proofs.Tells.{tells}

map_replicate : {A B : Type 0} (f : A → B) (n : ℕ) (x : A) → map f (replicate n x) ≡ replicate n (f x)
map_replicate f zero x = refl
map_replicate f (suc n) x = ap (λ ys. f x ∷ ys) (map_replicate f n x)

-- the slots of a thread at the start have the values of their terms
pub start_slots : (ints : ℕ) (terms : List ℕ) (first : ℕ) (nodes : List Node) (loads : List ℤ) (arguments : List ℤ) → AreTerms nodes → AreOf nodes terms
    → map (value_of nodes loads) terms ≡ arguments
    → arguments ++ replicate (ints - length arguments) (pos 0) ≡ slots_by loads (started ints terms first nodes)
start_slots ints terms first nodes loads arguments are of is =
    let none : Node = Constant (pos 0) in
    let zero = term_of_node nodes none in
    let up : Grows nodes zero.nodes = grows_made nodes none in
    let h = constant_value nodes (pos 0) loads are in
    let f = value_of zero.nodes loads in
    let count : length arguments ≡ length terms = ap length (sym is) ∙ length-map terms (value_of nodes loads) in
    ap₂ (λ xs k. xs ++ replicate (ints - k) (pos 0)) (sym is ∙ sym (values_stay nodes zero.nodes loads terms up of)) count
    ∙ ap (λ v. map f terms ++ replicate (ints - length terms) v) (sym h.value)
    ∙ ap (λ xs. map f terms ++ xs) (sym (map_replicate f (ints - length terms) zero.term))
    ∙ sym (map-append f terms (replicate (ints - length terms) zero.term))

module _ {B : Type 0} (ops : BufferOps B) (code : Code) (passes : PassesInts ops) (lawful : IsLawful code) where
  begun_stands : (n : Name) (moves : List Move) (b : Beginning ops code n moves) (x : Inputs)
      → Suits code b.function x b.arguments (at_start ops code n moves b)
      → StandsFor (route code b.function x) x.loads x.places (start code b.function x) (at_start ops code n moves b)
  begun_stands n moves b x s = record {
    terms = (constant_value x.nodes (pos 0) x.loads s.terms).terms;
    sound = start_sound (ints_of code b.function) x.arguments x.first x.nodes s.of;
    ints = start_has (ints_of code b.function) x.arguments x.first x.nodes;
    slots = start_slots (ints_of code b.function) x.arguments x.first x.nodes x.loads b.arguments s.terms s.of s.values;
    along = s.along;
    takes = s.takes;
    slot_ints = ((values_are_ints ops code passes lawful b.state (record { moves = b.first; leads = b.leads })).threads n _ b.there).slots;
    taken_ints = taken_are_ints ops code passes lawful b.state n b.rest (record { moves = b.first; leads = b.leads });
  }

  pub thread_tells : (moves : List Move) (s : State B) (n : Name) (t : Thread B)
      → run ops code moves ≡ Some s → fin.get s.threads n ≡ Some t → ThreadTells ops code moves n t
  thread_tells moves s n t leads there =
      let alone = threads_live_alone ops code moves s n t leads there in
      let b = alone.0 in (
        b,
        λ x count suits.
            let told = tells (route code b.function x) x.loads x.places (start code b.function x) (at_start ops code n moves b) lawful
            (begun_stands n moves b x suits) in
            record {
              slots_are = ap (λ (u : Local). u.slots) alone.1
                  ∙ ap (λ k. (after_steps code k (at_start ops code n moves b)).local.slots) (sym count) ∙ told.slots;
              steps = told;
            },
      )
