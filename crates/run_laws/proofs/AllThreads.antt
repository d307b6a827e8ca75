-- Facts of each thread that each move keeps.
use Rattle.std.proofs.Common.{◌≡◌, ◌∙◌, inl, inr, ℕ, ◌+◌, ◌-◌, ◌≤◌, length, List, [], Some, sym, subst, arith}
use Rattle.std.specs.FinMap as fin
use Rattle.std.proofs.lemmas.Option.{none-some}
use Rattle.tc_code.specs.tc_base.Names.{Name, ByName, main, by_name}
use Rattle.tc_code.specs.tc_base.Buffers.{BufferOps}
use Rattle.tc_code.specs.tc_base.States.{Local, Thread, State}
use Rattle.tc_code.specs.tc_base.declared.moves.Move.{Move}
use Rattle.tc_code.specs.Expr.{Expr}
use Rattle.tc_code.specs.declared.instr.Instr.{Instr}
use Rattle.tc_code.specs.declared.instr.Instr.TheVariants.{Create}
use Rattle.tc_code.specs.Code.{Code}
use Rattle.tc_code.specs.Step.{local_after, arguments_of, born, step, opening}
use Rattle.tc_code.specs.Run.{IsReached}
use Rattle.run_laws.specs.Whole.{AllThreads}
use Rattle.run_laws.proofs.Names.{get_put_cases}
use Rattle.run_laws.proofs.Steps.{holds_in_reached}
use Rattle.run_laws.proofs.Changes.{Goes, Went_on, Stayed, with_child, step_changes}

-- a fact of all threads and of a new one holds for all with the new one
all_after_put : {B : Type 0} (P : Local → Type 0) (threads : ByName (Thread B)) (n : Name) (new : Thread B) → AllThreads P threads → P new.local
    → AllThreads P (fin.insert threads n new)
all_after_put {B} P threads n new all p q t there =
    elim (get_put_cases threads n new q t there) [
      | inl is ↦ subst (λ (u : Thread B). P u.local) is.1 p
      | inr was ↦ all q t was.1
    ]

module _ {B : Type 0} (ops : BufferOps B) (code : Code) where
  -- a move from the state takes fact `P` of a thread before it to fact `Q` after it, and `Q` holds
  -- for a child
  pub record Keeps (s : State B) (P Q : Local → Type 0) : Type 0 where
    pub stays : (t : Local) (steps : ℕ) → steps ≤ t.steps + 1 → P t → Q (record t { steps = steps })
    pub does : (u : State B) (n : Name) (i : Instr) (g : Goes ops code s u n i) → P g.before.local → Q (local_after g.before.local i g.value)
    pub bears : (u : State B) (n : Name) (h f : ℕ) (es : List Expr) (g : Goes ops code s u n (Create h f es)) → P g.before.local
        → Q (born ops code f (arguments_of g.before.local (Create h f es))).local

  module _ (s u : State B) (P Q : Local → Type 0) (keeps : Keeps s P Q) (all : AllThreads P s.threads) where
    -- if `Q` holds for a thread that is put in, it holds for all
    all_put : (n : Name) (new : Thread B) → Q new.local → AllThreads Q (fin.insert s.threads n new)
    all_put n new q = all_after_put Q s.threads n new (λ m t there. keeps.stays t.local t.local.steps (omega arith) (all m t there)) q

    -- `Q` holds for all threads after an instruction
    all_done : (n : Name) (i : Instr) → (g : Goes ops code s u n i) → AllThreads Q (fin.insert s.threads n g.after)
    all_done n i g = all_put n g.after (subst Q (sym g.local) (keeps.does u n i g (all n g.before g.there)))

    -- `Q` holds for all threads after an instruction that may create a child
    all_gone : (n : Name) (i : Instr) → (g : Goes ops code s u n i) → AllThreads Q (with_child ops code g.before.local n i (fin.insert s.threads n g.after))
    all_gone n (Create h f es) g = all_after_put Q _ _ _ (all_done n (Create h f es) g) (keeps.bears u n h f es g (all n g.before g.there))
    all_gone n i g = all_done n i g

  -- if a move takes `P` to `Q` for one thread, it does so for all
  pub all_after_step : (s u : State B) (m : Move) (P Q : Local → Type 0) → Keeps s P Q → step ops code s m ≡ Some u → AllThreads P s.threads
      → AllThreads Q u.threads
  all_after_step s u m P Q keeps one all =
      elim (step_changes ops code s u m one) [
        | Went_on n i g ↦ subst (AllThreads Q) (sym g.threads) (all_gone s u P Q keeps all n i g)
        | Stayed n g ↦ subst (AllThreads Q) (sym g.threads)
            (all_put s u P Q keeps all n g.after (subst Q (sym g.local) (keeps.stays g.before.local g.steps g.few (all n g.before g.there))))
      ]

  -- what holds for main at the start holds for each thread there
  pub all_at_opening : (P : Local → Type 0) → P (born ops code (length code.functions - 1) []).local → AllThreads P (opening ops code).threads
  all_at_opening P p = all_after_put P fin.empty main _ (λ n t there. absurd (none-some t (sym (fin.get-empty by_name n) ∙ there))) p

  -- what holds for main at the start, and what each move keeps for one thread, holds for each
  -- thread of a reached state
  pub all_in_reached : (P : Local → Type 0) → ((s : State B) → IsReached ops code s → Keeps s P P)
      → P (born ops code (length code.functions - 1) []).local → (s : State B) → IsReached ops code s → AllThreads P s.threads
  all_in_reached P keeps p =
      holds_in_reached ops code (λ (u : State B). AllThreads P u.threads) (all_at_opening P p) (λ s u m r one all. all_after_step s u m P P (keeps s r) one all)
