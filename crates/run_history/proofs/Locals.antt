-- The history determines the local state of each thread.
use Rattle.std.proofs.Common.{◌≡◌, ◌∙◌, inl, inr, ℕ, ◌+◌, ◌-◌, ℤ, pos, List, [], ◌∷◌, ◌++◌, length, Option, Some, refl, sym, ap}
use Rattle.std.specs.Prelude.{option_map}
use Rattle.std.specs.Option.{option_map_or}
use Rattle.std.specs.FinMap as fin
use Rattle.std.proofs.lemmas.List.Sums.{fold-append}
use Rattle.store_buffers.specs.tc_base.Names.{Name, ByName, main, child, by_name}
use Rattle.store_buffers.specs.tc_base.Buffers.{BufferOps}
use Rattle.store_buffers.specs.tc_base.States.{Local, Thread, State}
use Rattle.store_buffers.specs.tc_base.declared.request.Request.{Request}
use Rattle.store_buffers.specs.tc_base.declared.request.Request.TheVariants.{Silent, WakeOne, Start}
use Rattle.run_laws.specs.tc_code.declared.instr.Instr.{Instr}
use Rattle.run_laws.specs.tc_code.declared.instr.Instr.TheVariants.{Signal}
use Rattle.run_laws.specs.tc_code.Code.{Code}
use Rattle.run_laws.specs.tc_code.Step.{arguments_of, instr_of, perform, born, state_after_wake, opening}
use Rattle.run_laws.proofs.Names.{same_or_apart, get_put, get_put_apart}
use Rattle.run_history.specs.History.{Deed, Did, value_taken, created_by}
use Rattle.run_history.specs.Locals.{after_step, with_child, after_deed, locals_in}
use Rattle.run_history.proofs.Threads.{own, with_born, performed_threads}
use Rattle.run_history.proofs.Frame.{Keeps}

module _ {B : Type 0} (ops : BufferOps B) (code : Code) where
  abbrev local : Thread B → Local
  local t = t.local

  -- the local states of threads
  abbrev pub AreLocals : ByName Local → ByName (Thread B) → Type 0
  AreLocals ls ts = (q : Name) → fin.get ls q ≡ option_map local (fin.get ts q)

  locals_put : (ls : ByName Local) (ts : ByName (Thread B)) (n : Name) (t : Thread B) → AreLocals ls ts
      → AreLocals (fin.insert ls n t.local) (fin.insert ts n t)
  locals_put ls ts n t are q =
      elim (same_or_apart q n) [
        | inl e ↦ ap (fin.get (fin.insert ls n t.local)) e ∙ get_put ls n t.local
            ∙ sym (ap (λ m. option_map local (fin.get (fin.insert ts n t) m)) e ∙ ap (option_map local) (get_put ts n t))
        | inr other ↦ get_put_apart ls n t.local q other ∙ are q ∙ sym (ap (option_map local) (get_put_apart ts n t q other))
      ]

  -- replacing a thread's buffer keeps the local states
  locals_stay : (ls : ByName Local) (ts : ByName (Thread B)) (n : Name) (t : Thread B) (b : B) → AreLocals ls ts → fin.get ts n ≡ Some t
      → AreLocals ls (fin.insert ts n (record t { buffer = b }))
  locals_stay ls ts n t b are here q =
      elim (same_or_apart q n) [
        | inl e ↦
            are q ∙ ap (λ m. option_map local (fin.get ts m)) e ∙ ap (option_map local) here
            ∙ sym (ap (λ m. option_map local (fin.get (fin.insert ts n (record t { buffer = b })) m)) e ∙ ap (option_map local) (get_put ts n _))
        | inr other ↦ are q ∙ sym (ap (option_map local) (get_put_apart ts n _ q other))
      ]

  locals_born : (ls : ByName Local) (ts : ByName (Thread B)) (n : Name) (t : Thread B) (i : Instr) (r : Request) → AreLocals ls ts
      → AreLocals (with_child code n t.local i r ls) (with_born ops code n t i r ts)
  locals_born ls ts n t i (Start f) are = locals_put ls ts (child n (t.local.children + 1)) (born ops code f (arguments_of t.local i)) are
  locals_born ls ts n t i Silent are = are
  locals_born ls ts n t i r are = are

  abbrev pub LocalsAre : State B → List Deed → Type 0
  LocalsAre s h = AreLocals (locals_in code h) s.threads

  locals-push : (h : List Deed) (d : Deed) → locals_in code (h ++ d ∷ []) ≡ after_deed code (locals_in code h) d
  locals-push h d = fold-append (after_deed code) _ h (d ∷ [])

  -- a step does the instruction at its thread's place
  step_by : (ls : ByName Local) (n : Name) (t : Local) (i : Instr) (k : ℕ) (r : Request) (v : ℤ) (o : Option Name) → fin.get ls n ≡ Some t
      → instr_of code t ≡ Some i → after_deed code ls (Did n k r v o) ≡ with_child code n t i r (fin.insert ls n (after_step t i r v))
  step_by ls n t i k r v o here at =
      ap (λ x. option_map_or (λ (t : Local). option_map_or (λ i. with_child code n t i r (fin.insert ls n (after_step t i r v))) (instr_of code t) ls) x ls)
      here
      ∙ ap (λ x. option_map_or (λ i. with_child code n t i r (fin.insert ls n (after_step t i r v))) x ls) at

  locals_by : (s u : State B) (h : List Deed) (n : Name) (t : Thread B) (i : Instr) (r : Request) (v : ℤ) (o : Option Name) → fin.get s.threads n ≡ Some t
      → instr_of code t.local ≡ Some i → v ≡ value_taken ops code s t r → u.threads ≡ with_born ops code n t i r (fin.insert s.threads n (own ops code s t i r))
      → LocalsAre s h → LocalsAre u (h ++ Did n t.local.steps r v o ∷ [])
  locals_by s u h n t i r v o here at takes is are q =
      ap (λ ls. fin.get ls q) (locals-push h (Did n t.local.steps r v o))
      ∙ ap (λ ls. fin.get ls q)
      (step_by (locals_in code h) n t.local i t.local.steps r v o (are n ∙ ap (option_map local) here) at)
      ∙ ap (λ w. fin.get (with_child code n t.local i r (fin.insert (locals_in code h) n (after_step t.local i r w))) q) takes
      ∙ locals_born _ (fin.insert s.threads n (own ops code s t i r)) n t i r
      (locals_put (locals_in code h) s.threads n (own ops code s t i r) are) q
      ∙ ap (λ ts. option_map local (fin.get ts q)) (sym is)

  pub keeps_locals : Keeps ops code LocalsAre
  keeps_locals = record {
    ran = λ s h n t i r _ _ here at _ _ are.
        locals_by s (perform ops code s n t i r) h n t i r (value_taken ops code s t r) (created_by ops code n t.local r) here at refl
        (performed_threads ops code s n t i r) are;
    waked = λ s h n u t c _ _ here at _ _ are.
        locals_by s (state_after_wake ops s n u t c) h n t (Signal c) (WakeOne c) (pos 0) (Some u) here at refl refl are;
    flushed = λ s h n t form _ _ here _ are q.
        ap (λ ls. fin.get ls q) (locals-push h _) ∙ locals_stay (locals_in code h) s.threads n t (ops.drain t.buffer form).rest are here q;
  }

  pub opening_locals : LocalsAre (opening ops code) []
  opening_locals =
      locals_put fin.empty fin.empty main (born ops code (length code.functions - 1) [])
      (λ q. fin.get-empty by_name q ∙ sym (ap (option_map local) (fin.get-empty by_name q)))
