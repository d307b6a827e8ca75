-- Each thread of a run began in it, and has run alone since.
use Rattle.std.proofs.Common.{◌≡◌, ◌∙◌, ◌⊎◌, inl, inr, ℕ, ◌+◌, ℤ, List, [], ◌∷◌, ◌++◌, Bool, true, false, IsSome, Some, refl, ap, sym, subst, arith}
use Rattle.std.specs.Prelude.{option_and_then}
use Rattle.std.specs.FinMap as fin
use Rattle.std.proofs.lemmas.List.{append_assoc, append-nil}
use Rattle.std.proofs.lemmas.Option.{none-some, same_Some, option_and_then_some}
use Rattle.tc_code.specs.tc_base.Names.{Name, main, child, by_name}
use Rattle.tc_code.specs.tc_base.Buffers.{BufferOps}
use Rattle.tc_code.specs.tc_base.States.{Thread, State}
use Rattle.tc_code.specs.tc_base.declared.moves.Move.{Move}
use Rattle.tc_code.specs.tc_base.declared.moves.Move.TheVariants as move
use Rattle.tc_code.specs.Expr.{Expr}
use Rattle.tc_code.specs.declared.instr.Instr.{Instr}
use Rattle.tc_code.specs.declared.instr.Instr.TheVariants.{Store, Inside, Holds, Create, Ready, Assert, Nonzero, InRange}
use Rattle.tc_code.specs.Code.{Code}
use Rattle.tc_code.specs.tc_base.declared.request.Request.TheVariants.{Write}
use Rattle.tc_code.specs.Step.{request, site, arguments_of, instr_of, perform, step, opening}
use Rattle.tc_code.specs.Run.{run, run_from}
use Rattle.tc_code.proofs.Facts.{run_from-append, run_from-step}
use Rattle.run_laws.specs.Alone.{Of_main, By_parent, Beginning, alone_since}
use Rattle.run_laws.proofs.Basics.{some_is, some_value, either}
use Rattle.run_laws.proofs.Names.{get_put, get_put_cases, there_before_put}
use Rattle.run_laws.proofs.Steps.{Went, step_went}
use Rattle.run_laws.proofs.GoesAlone.{threads_go_alone}

module _ {B : Type 0} (ops : BufferOps B) (code : Code) where
  -- main begins before the first move
  main_begins : Beginning ops code main []
  main_begins = record {
    first = [];
    rest = [];
    split = refl;
    state = opening ops code;
    leads = refl;
    function = _;
    arguments = [];
    creation = Of_main;
    there = get_put fin.empty main _;
  }

  -- the only thread at the start is main
  begins_at_opening : (n : Name) → IsSome (fin.get (opening ops code).threads n) → Beginning ops code n []
  begins_at_opening n there =
      let is = some_value _ there in
      elim (get_put_cases fin.empty main _ n is.0 is.1) [
        | inl e ↦ subst (λ m. Beginning ops code m []) (sym e.0) main_begins
        | inr e ↦ absurd (none-some is.0 (sym (fin.get-empty by_name n) ∙ e.1))
      ]

  -- a thread that began in some moves began in these with one move more
  begins_before : (n : Name) (moves : List Move) (m : Move) → Beginning ops code n moves → Beginning ops code n (moves ++ m ∷ [])
  begins_before n moves m b = record {
    first = b.first;
    rest = b.rest ++ m ∷ [];
    split = ap (λ ms. ms ++ m ∷ []) b.split ∙ append_assoc b.first b.rest (m ∷ []);
    state = b.state;
    leads = b.leads;
    function = b.function;
    arguments = b.arguments;
    creation = b.creation;
    there = b.there;
  }

  module _ (moves : List Move) (s : State B) (leads : run ops code moves ≡ Some s) where
    module _ (p : Name) (t : Thread B) (there : fin.get s.threads p ≡ Some t) (n : Name) where
      -- a thread after a put was there before, unless it is the one put in
      was_there : (new : Thread B) → IsSome (fin.get (fin.insert s.threads p new) n) → IsSome (fin.get s.threads n)
      was_there new = there_before_put s.threads p new n (some_is _ t there)

      -- a site creates no thread
      site_creates_none : (i : Instr) (b : Bool) → IsSome (fin.get (perform ops code s p t i (site b)).threads n) → IsSome (fin.get s.threads n)
      site_creates_none i true h = was_there _ h
      site_creates_none i false h = was_there _ h

      -- a store creates no thread, with or without buffers
      store_creates_none : (i : Instr) (c : ℕ) (v : ℤ) → IsSome (fin.get (perform ops code s p t i (Write c v)).threads n) → IsSome (fin.get s.threads n)
      store_creates_none i c v =
          either (λ (x : State B). IsSome (fin.get x.threads n) → IsSome (fin.get s.threads n)) ops.buffered _ _ (was_there _) (was_there _)

      -- a child begins when its parent has done the create
      child_begins : (u : State B) (h f : ℕ) (es : List Expr) → instr_of code t.local ≡ Some (Create h f es) → step ops code s (move.Run p) ≡ Some u
          → u ≡ perform ops code s p t (Create h f es) (request t.local (Create h f es))
          → Beginning ops code (child p (t.local.children + 1)) (moves ++ move.Run p ∷ [])
      child_begins u h f es at one after = record {
        first = moves ++ move.Run p ∷ [];
        rest = [];
        split = sym (append-nil _);
        state = u;
        leads = run_from-step ops code (opening ops code) s u moves (move.Run p) leads one;
        function = f;
        arguments = arguments_of t.local (Create h f es);
        creation = By_parent moves s p t h f es leads there at;
        there = ap (λ (x : State B). fin.get x.threads (child p (t.local.children + 1))) after ∙ get_put _ _ _;
      }

      -- a thread after an instruction was there before, or begins with it
      begins_by : (u : State B) (i : Instr) → instr_of code t.local ≡ Some i → step ops code s (move.Run p) ≡ Some u
          → u ≡ perform ops code s p t i (request t.local i) → IsSome (fin.get (perform ops code s p t i (request t.local i)).threads n)
          → IsSome (fin.get s.threads n) ⊎ Beginning ops code n (moves ++ move.Run p ∷ [])
      begins_by u (Create h f es) at one after here =
          let is = some_value _ here in
          elim (get_put_cases _ _ _ n is.0 is.1) [
            | inl e ↦ inr (subst (λ m. Beginning ops code m (moves ++ move.Run p ∷ [])) (sym e.0) (child_begins u h f es at one after))
            | inr e ↦ inl (was_there _ (some_is _ is.0 e.1))
          ]
      begins_by u (Store c e) at one after here = inl (store_creates_none (Store c e) _ _ here)
      begins_by u (Nonzero e) at one after here = inl (site_creates_none (Nonzero e) _ here)
      begins_by u (InRange e) at one after here = inl (site_creates_none (InRange e) _ here)
      begins_by u (Inside len e) at one after here = inl (site_creates_none (Inside len e) _ here)
      begins_by u (Holds m) at one after here = inl (site_creates_none (Holds m) _ here)
      begins_by u (Ready k) at one after here = inl (site_creates_none (Ready k) _ here)
      begins_by u (Assert e) at one after here = inl (site_creates_none (Assert e) _ here)
      begins_by u i at one after here = inl (was_there _ here)

    -- a thread after a move was there before, or begins with it
    begins_in : (u : State B) (m : Move) (n : Name) → step ops code s m ≡ Some u → Went ops code s u m → IsSome (fin.get u.threads n)
        → IsSome (fin.get s.threads n) ⊎ Beginning ops code n (moves ++ m ∷ [])
    begins_in u (move.Run p) n one w here =
        begins_by p w.thread w.there n u w.instr w.at one w.after (subst (λ (x : State B). IsSome (fin.get x.threads n)) w.after here)
    begins_in u (move.Wake p v) n one w here =
        inl (was_there p w.thread w.there n _ (subst (λ (x : State B). IsSome (fin.get x.threads n)) w.after here))
    begins_in u (move.Drain p form) n one w here =
        inl (was_there p w.thread w.there n _ (subst (λ (x : State B). IsSome (fin.get x.threads n)) w.after here))

  -- each thread of the state began in the moves that led there
  abbrev AllBegan : List Move → State B → Type 0
  AllBegan moves s = (n : Name) → IsSome (fin.get s.threads n) → Beginning ops code n moves

  -- a move keeps that all threads began
  all_began : (moves : List Move) (s u : State B) (m : Move) → run ops code moves ≡ Some s → step ops code s m ≡ Some u → AllBegan moves s
      → AllBegan (moves ++ m ∷ []) u
  all_began moves s u m leads one all n here =
      elim (begins_in moves s leads u m n one (step_went ops code s u m one) here) [
        | inl was ↦ begins_before n moves m (all n was)
        | inr b ↦ b
      ]

  -- a run keeps that all threads began
  all_began_in : (moves : List Move) (s u : State B) (ms : List Move) → run ops code moves ≡ Some s → run_from ops code s ms ≡ Some u
      → AllBegan moves s → AllBegan (moves ++ ms) u
  all_began_in moves s u [] leads rest all n here =
      subst (Beginning ops code n) (sym (append-nil moves)) (all n (subst (λ (x : State B). IsSome (fin.get x.threads n)) (sym (same_Some s u rest)) here))
  all_began_in moves s u (m ∷ ms) leads rest all n here =
      option_and_then_some (λ w. run_from ops code w ms) (step ops code s m) u rest
      (λ w one later. subst (Beginning ops code n) (append_assoc moves (m ∷ []) ms)
      (all_began_in (moves ++ m ∷ []) w u ms (run_from-step ops code (opening ops code) s w moves m leads one) later
      (all_began moves s w m leads one all) n here))

  -- each thread of a run began in it
  began : (moves : List Move) (s : State B) (n : Name) (t : Thread B) → run ops code moves ≡ Some s → fin.get s.threads n ≡ Some t → Beginning ops code n moves
  began moves s n t leads there = all_began_in [] (opening ops code) s moves refl leads begins_at_opening n (some_is _ t there)

  -- the rest of the moves lead on from where it began
  leads_on : (moves : List Move) (s : State B) (n : Name) (b : Beginning ops code n moves) → run ops code moves ≡ Some s
      → run_from ops code b.state b.rest ≡ Some s
  leads_on moves s n b leads =
      sym (ap (option_and_then (λ u. run_from ops code u b.rest)) b.leads)
      ∙ sym (run_from-append ops code (opening ops code) b.first b.rest)
      ∙ ap (run ops code) (sym b.split)
      ∙ leads

  -- a thread runs alone from its beginning on
  goes_since : (moves : List Move) (s : State B) (n : Name) (t : Thread B) (b : Beginning ops code n moves) → run ops code moves ≡ Some s
      → fin.get s.threads n ≡ Some t → t.local ≡ alone_since ops code n moves b t.local.steps
  goes_since moves s n t b leads there =
      let g = threads_go_alone ops code b.state s b.rest n _ t (record { moves = b.first; leads = b.leads }) (leads_on moves s n b leads) b.there there in
      let count : g.0 ≡ t.local.steps = omega (arith, g.1) in
      g.2 ∙ ap (alone_since ops code n moves b) count

  -- after any run, a thread's state is the one that it reaches alone from its beginning
  pub threads_live_alone : (moves : List Move) (s : State B) (n : Name) (t : Thread B) → run ops code moves ≡ Some s → fin.get s.threads n ≡ Some t
      → (b : Beginning ops code n moves) × (t.local ≡ alone_since ops code n moves b t.local.steps)
  threads_live_alone moves s n t leads there = let b = began moves s n t leads there in (b, goes_since moves s n t b leads there)
