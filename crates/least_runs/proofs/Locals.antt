-- The local states of other threads stay the same without the step.
use Rattle.std.proofs.Common.{◌≡◌, ◌≢◌, ◌∙◌, inl, inr, ℕ, ◌+◌, ℤ, cond, List, [], ◌∷◌, ◌++◌, Option, Some, None, refl, sym, ap, subst}
use Rattle.std.specs.Prelude.{fold}
use Rattle.std.specs.Option.{option_map_or}
use Rattle.std.specs.FinMap as fin
use Rattle.std.proofs.lemmas.Cmp.{nat_list_cmp_total}
use Rattle.std.proofs.lemmas.List.Sums.{fold-append}
use Rattle.run_follows.specs.tc_base.Names.{Name, ByName, child}
use Rattle.run_follows.specs.tc_base.States.{Local}
use Rattle.run_follows.specs.tc_base.declared.request.Request.{Request}
use Rattle.run_follows.specs.tc_base.declared.request.Request.TheVariants.{Silent, Start}
use Rattle.run_follows.specs.tc_code.Code.{Code}
use Rattle.run_follows.specs.tc_code.Step.{instr_of}
use Rattle.run_follows.specs.tc_code.declared.instr.Instr.{Instr}
use Rattle.run_follows.proofs.run_laws.Names.{get_put_apart}
use Rattle.run_follows.specs.run_history.History.{Deed, Did, Drained, same}
use Rattle.run_follows.specs.run_history.Locals.{after_step, with_child, after_deed, locals_in}
use Rattle.run_follows.specs.run_history.Told.{children_in}
use Rattle.run_follows.proofs.run_history.Threads.{children_are}
use Rattle.run_follows.proofs.run_history.of_pending.In.{In}
use Rattle.run_follows.specs.Machine.{Machine}
use Rattle.run_follows.specs.Follow.{AllFollow}
use Rattle.least_runs.proofs.Reached.{reaches, has}

-- a thread has created as many children as the history has creates of it
pub children_told : {B : Type 0} (machine : Machine B)
    (h : List Deed) (n : Name) (t : Local) → AllFollow machine.ops.buffered machine.bound machine.code h → fin.get (locals_in machine.code h) n ≡ Some t → t.children ≡ children_in h n
children_told machine h n t all is =
    let r = reaches machine h all in
    let x = has machine h r n t is in
    ap (λ (l : Local). l.children) (sym x.local) ∙ children_are machine.ops machine.code r.state h n r.tells.deeds.buffers.threads x.thread x.there

module _ (code : Code) (n : Name) (other : Option Name) where
  -- two maps agree on each thread except these two
  abbrev pub Agree : ByName Local → ByName Local → Type 0
  Agree ts us = (q : Name) → q ≢ n → other ≢ Some q → fin.get ts q ≡ fin.get us q

  -- no step in this list is of these threads
  abbrev pub StepsApart : List Deed → Type 0
  StepsApart h = (q : Name) (k : ℕ) (r : Request) (v : ℤ) (o : Option Name) → In (Did q k r v o) h → (q ≢ n) × (other ≢ Some q)

  insert_agrees : (ts us : ByName Local) (w : Name) (x : Local) → Agree ts us → Agree (fin.insert ts w x) (fin.insert us w x)
  insert_agrees ts us w x agree q apart fresh =
      fin.get-insert nat_list_cmp_total ts w x q ∙ ap (cond (same q w) (Some x)) (agree q apart fresh) ∙ sym (fin.get-insert nat_list_cmp_total us w x q)

  child_agrees : (q : Name) (t : Local) (i : Instr) (r : Request) (ts us : ByName Local) → Agree ts us
      → Agree (with_child code q t i r ts) (with_child code q t i r us)
  child_agrees q t i (Start f) ts us agree = insert_agrees ts us _ _ agree
  child_agrees q t i Silent ts us agree = agree
  child_agrees q t i r ts us agree = agree

  module _ (q : Name) (r : Request) (v : ℤ) where
    abbrev by_instr : ByName Local → Local → Option Instr → ByName Local
    by_instr ts t o = option_map_or (λ i. with_child code q t i r (fin.insert ts q (after_step t i r v))) o ts

    abbrev by_thread : ByName Local → Option Local → ByName Local
    by_thread ts o = option_map_or (λ t. by_instr ts t (instr_of code t)) o ts

    instr_agrees : (ts us : ByName Local) (t : Local) (o : Option Instr) → Agree ts us → Agree (by_instr ts t o) (by_instr us t o)
    instr_agrees ts us t None agree = agree
    instr_agrees ts us t (Some i) agree = child_agrees q t i r _ _ (insert_agrees ts us q _ agree)

    thread_agrees : (ts us : ByName Local) (o : Option Local) → Agree ts us → Agree (by_thread ts o) (by_thread us o)
    thread_agrees ts us None agree = agree
    thread_agrees ts us (Some t) agree = instr_agrees ts us t (instr_of code t) agree

    -- a step of another thread
    pub step_agrees : (k : ℕ) (o : Option Name) (ts us : ByName Local) → q ≢ n → other ≢ Some q → Agree ts us
        → Agree (after_deed code ts (Did q k r v o)) (after_deed code us (Did q k r v o))
    step_agrees k o ts us apart fresh agree =
        subst (λ p. Agree (by_thread ts p) (by_thread us (fin.get us q))) (sym (agree q apart fresh)) (thread_agrees ts us (fin.get us q) agree)

  pub deeds_agree : (h : List Deed) (ts us : ByName Local) → StepsApart h → Agree ts us → Agree (fold (after_deed code) ts h) (fold (after_deed code) us h)
  deeds_agree [] ts us apart agree = agree
  deeds_agree (Did q k r v o ∷ h) ts us apart agree =
      let is = apart q k r v o (inl refl) in
      deeds_agree h _ _ (λ p j s w x i. apart p j s w x (inr i)) (step_agrees q r v k o ts us is.0 is.1 agree)
  deeds_agree (Drained q k c v ∷ h) ts us apart agree = deeds_agree h ts us (λ p j s w x i. apart p j s w x (inr i)) agree

  -- the step changes only its own thread and the child that it creates
  own_child : (t : Local) (i : Instr) (r : Request) (ts us : ByName Local) → ((f : ℕ) → r ≡ Start f → other ≡ Some (child n (t.children + 1))) → Agree ts us
      → Agree (with_child code n t i r ts) us
  own_child t i (Start f) ts us made agree = λ q apart fresh.
      get_put_apart ts (child n (t.children + 1)) _ q (λ e. fresh (made f refl ∙ ap Some (sym e))) ∙ agree q apart fresh
  own_child t i Silent ts us made agree = agree
  own_child t i r ts us made agree = agree

  own_instr : (r : Request) (v : ℤ) (ts : ByName Local) (t : Local) (o : Option Instr) → ((f : ℕ) → r ≡ Start f → other ≡ Some (child n (t.children + 1)))
      → Agree (by_instr n r v ts t o) ts
  own_instr r v ts t None made = λ q apart fresh. refl
  own_instr r v ts t (Some i) made = own_child t i r _ ts made (λ q apart fresh. get_put_apart ts n _ q apart)

  own_thread : (r : Request) (v : ℤ) (ts : ByName Local) (o : Option Local) → fin.get ts n ≡ o
      → ((t : Local) → fin.get ts n ≡ Some t → (f : ℕ) → r ≡ Start f → other ≡ Some (child n (t.children + 1))) → Agree (by_thread n r v ts o) ts
  own_thread r v ts None here made = λ q apart fresh. refl
  own_thread r v ts (Some t) here made = own_instr r v ts t (instr_of code t) (made t here)

  pub own_agrees : (k : ℕ) (r : Request) (v : ℤ) (ts : ByName Local)
      → ((t : Local) → fin.get ts n ≡ Some t → (f : ℕ) → r ≡ Start f → other ≡ Some (child n (t.children + 1)))
      → Agree (after_deed code ts (Did n k r v other)) ts
  own_agrees k r v ts made = own_thread r v ts (fin.get ts n) refl made

  -- without the step the local states of the other threads are the same
  pub locals_agree : (older newer : List Deed) (k : ℕ) (r : Request) (v : ℤ) → StepsApart newer
      → ((t : Local) → fin.get (locals_in code older) n ≡ Some t → (f : ℕ) → r ≡ Start f → other ≡ Some (child n (t.children + 1)))
      → Agree (locals_in code (older ++ Did n k r v other ∷ newer)) (locals_in code (older ++ newer))
  locals_agree older newer k r v apart made q own fresh =
      ap (λ ts. fin.get ts q) (fold-append (after_deed code) _ older (Did n k r v other ∷ newer))
      ∙ deeds_agree newer _ _ apart (own_agrees k r v (locals_in code older) made) q own fresh
      ∙ ap (λ ts. fin.get ts q) (sym (fold-append (after_deed code) _ older newer))
