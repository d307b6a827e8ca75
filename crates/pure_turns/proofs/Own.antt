-- Two states that differ in one thread, which is alike in both: each move of the first is a move of
-- the second.
use Rattle.std.proofs.Common.{◌≡◌, ◌∙◌, inl, inr, ℕ, ◌+◌, ℤ, pos, true, List, Some, None, refl, sym, ap, subst, IsTrue}
use Rattle.std.specs.FinMap as fin
use Rattle.std.specs.FinSet as set
use Rattle.std.proofs.lemmas.Bool.{cases_Bool, true≢false}
use Rattle.std.proofs.lemmas.Option.{same_Some}
use Rattle.run_laws.specs.tc_base.Names.{Name, ByName, child}
use Rattle.run_laws.specs.tc_base.Buffers.{BufferOps}
use Rattle.run_laws.specs.tc_base.States.{Local, Thread, State}
use Rattle.run_laws.specs.tc_base.declared.moves.Move.{Move}
use Rattle.run_laws.specs.tc_base.declared.moves.Move.TheVariants as move
use Rattle.run_laws.specs.tc_base.declared.request.Request.{Request}
use Rattle.run_laws.specs.tc_base.declared.request.Request.TheVariants.{Read, Write, Exchange, Bar, Start, Silent}
use Rattle.run_laws.specs.tc_code.declared.instr.Instr.{Instr}
use Rattle.run_laws.specs.tc_code.declared.instr.Instr.TheVariants.{Signal}
use Rattle.run_laws.specs.tc_code.Code.{Code}
use Rattle.run_laws.specs.tc_code.Step.{request, arguments_of, instr_of, with_thread, waiting_on, in_memory, loaded, allows, state_after_step, born, perform, state_after_wake, step}
use Rattle.run_laws.specs.tc_code.Run.{IsReached}
use Rattle.run_laws.proofs.Names.{is_same, child_apart}
use Rattle.run_laws.proofs.Steps.{Ran, Woke, none_failed, step_went}
use Rattle.run_laws.proofs.Makes.{makes_run, makes_wake}
use Rattle.pure_turns.specs.Live.{Liveness, IsClosed, AreAlike}
use Rattle.pure_turns.specs.Turn.{is_step_of, IsBehind}
use Rattle.pure_turns.proofs.Locals.{at_same, asks_alike, arguments_alike, after_request, request_alike, request_behind}
use Rattle.pure_turns.proofs.Owners.{Equal, equal_keeps}
use Rattle.pure_turns.proofs.Differ.{ThreadsDiffer, Differ, either_way, put_other, put_own, allows_too, going_same, moved_other}

module _ {B : Type 0} (ops : BufferOps B) (code : Code) (n : Name) where
  -- a thread does its next instruction, maybe a signal that wakes a thread
  pub record RanOf (s s₁ : State B) (x : Thread B) : Type 0 where
    pub instr : Instr
    pub at : instr_of code x.local ≡ Some instr
    pub allowed : IsTrue (allows ops s n x (request x.local instr))
    pub after : s₁ ≡ perform ops code s n x instr (request x.local instr)

  record WokeOf (s s₁ : State B) (x : Thread B) (w : Name) : Type 0 where
    condition : ℕ
    at : instr_of code x.local ≡ Some (Signal condition)
    empty : IsTrue (ops.is_empty x.buffer)
    waits : IsTrue (set.contains (waiting_on s condition) w)
    after : s₁ ≡ state_after_wake ops s n w x condition

  pub ran_of : (s s₁ : State B) (x : Thread B) → fin.get s.threads n ≡ Some x → Ran ops code s s₁ n → RanOf s s₁ x
  ran_of s s₁ x there w =
      subst (RanOf s s₁) (same_Some w.thread x (sym w.there ∙ there)) (record { instr = w.instr; at = w.at; allowed = w.allowed; after = w.after })

  woke_of : (s s₁ : State B) (x : Thread B) (u : Name) → fin.get s.threads n ≡ Some x → Woke ops code s s₁ n u → WokeOf s s₁ x u
  woke_of s s₁ x u there w =
      subst (λ y. WokeOf s s₁ y u) (same_Some w.thread x (sym w.there ∙ there))
      (record { condition = w.condition; at = w.at; empty = w.empty; waits = w.waits; after = w.after })

  -- the states after the thread does the same request in both
  record Performs (t u : Local) (i : Instr) (r : Request) (s₁ v₁ : State B) : Type 0 where
    value : ℤ
    buffer : B
    differ : Differ Equal n (after_request t i r value) (after_request u i r value) buffer s₁ v₁

  performs : (t u : Local) (b : B) (s : State B) (vs : ByName (Thread B)) (i : Instr) (r : Request) → ThreadsDiffer n t u b s.threads vs
      → u.children ≡ t.children → arguments_of u i ≡ arguments_of t i
      → Performs t u i r (perform ops code s n (record { local = t; buffer = b }) i r)
      (perform ops code (record s { threads = vs }) n (record { local = u; buffer = b }) i r)
  performs t u b s vs i (Read c) d children arguments =
      let x : Thread B = record { local = t; buffer = b } in
      record { value = loaded ops s x c; buffer = b; differ = record { shared = refl; owners = refl; threads = put_own n t u _ _ b b s.threads vs d } }
  performs t u b s vs i (Exchange c w) d children arguments =
      record { value = in_memory s c; buffer = b; differ = record { shared = refl; owners = refl; threads = put_own n t u _ _ b b s.threads vs d } }
  performs t u b s vs i (Write c w) d children arguments =
      either_way (Performs t u i (Write c w)) ops.buffered _ _ _ _
      (record { value = pos 0; buffer = ops.issue b c w; differ = record { shared = refl; owners = refl; threads = put_own n t u _ _ b _ s.threads vs d } })
      (record { value = pos 0; buffer = b; differ = record { shared = refl; owners = refl; threads = put_own n t u _ _ b _ s.threads vs d } })
  performs t u b s vs i Bar d children arguments =
      record { value = pos 0; buffer = ops.bar b; differ = record { shared = refl; owners = refl; threads = put_own n t u _ _ b _ s.threads vs d } }
  performs t u b s vs i (Start f) d children arguments =
      subst (λ k. Performs t u i (Start f) whole (grown k (arguments_of u i))) (sym children)
      (subst (λ xs. Performs t u i (Start f) whole (grown t.children xs)) (sym arguments)
      (record {
        value = pos 0;
        buffer = b;
        differ = record {
          shared = refl;
          owners = refl;
          threads = put_other n _ _ b _ _ (child n (t.children + 1)) _ (λ e. child_apart n (t.children + 1) (sym e)) (put_own n t u _ _ b b s.threads vs d);
        };
      }))
    where
      whole : State B
      whole = perform ops code s n (record { local = t; buffer = b }) i (Start f)

      grown : ℕ → List ℤ → State B
      grown k xs = with_thread (state_after_step ops (record s { threads = vs }) n (record { local = u; buffer = b }) i) (child n (k + 1)) (born ops code f xs)
  performs t u b s vs i _ d children arguments =
      record { value = pos 0; buffer = b; differ = record { shared = refl; owners = refl; threads = put_own n t u _ _ b b s.threads vs d } }

  -- a move of the second state after which the thread is alike in both
  pub record Twin (live : Liveness) (t u : Local) (s₁ v : State B) (m : Move) : Type 0 where
    pub first : Local
    pub second : Local
    pub buffer : B
    pub state : State B
    pub one : step ops code v m ≡ Some state
    pub differ : Differ Equal n first second buffer s₁ state
    pub alike : AreAlike live first second
    pub behind : IsBehind u t → IsBehind second first

  module _ (live : Liveness) (closed : IsClosed code live) (t u : Local) (b : B) (s v : State B) (d : Differ Equal n t u b s v) (alike : AreAlike live t u) where
    -- the states share everything except the threads
    shares : v ≡ record s { threads = v.threads }
    shares = d.shared ∙ ap (λ os. record s { threads = v.threads; owners = os }) (sym d.owners)

    abbrev own : Thread B
    own = record { local = t; buffer = b }

    abbrev other : Thread B
    other = record { local = u; buffer = b }

    ran_own : (s₁ : State B) → s.failed ≡ None → RanOf s s₁ own → Twin live t u s₁ v (move.Run n)
    ran_own s₁ none w =
        let i = w.instr in
        let r = request t i in
        let p =
        subst (λ y. Performs t u i r (perform ops code s n own i r) (perform ops code y n other i r)) (sym shares)
        (performs t u b s v.threads i r d.threads (sym alike.rest.children) (arguments_alike code live closed t u i alike w.at)) in
        record {
          first = after_request t i r p.value;
          second = after_request u i r p.value;
          buffer = p.buffer;
          state = perform ops code v n other i r;
          one = makes_run ops code v n other (going_same Equal equal_keeps ops code n t u b s v d alike.rest.has_exited none) d.threads.here i r
              (at_same code live closed t u i alike w.at) (asks_alike code live closed t u i alike w.at)
              (ap (λ x. allows ops x n other r) shares
              ∙ allows_too Equal equal_keeps ops code n t u b s v.threads s.owners refl d.threads n other r alike.rest.has_exited w.allowed);
          differ = subst (λ x. Differ Equal n (after_request t i r p.value) (after_request u i r p.value) p.buffer x (perform ops code v n other i r)) (sym w.after) p.differ;
          alike = request_alike code live closed t u i r p.value alike w.at;
          behind = request_behind u t i r p.value;
        }

    woke_own : (s₁ : State B) (q : Name) → s.failed ≡ None → WokeOf s s₁ own q → Twin live t u s₁ v (move.Wake n q)
    woke_own s₁ q none w =
        let i = Signal w.condition in
        let first = after_request t i Silent (pos 0) in
        let second = after_request u i Silent (pos 0) in
        record {
          first = first;
          second = second;
          buffer = b;
          state = state_after_wake ops v n q other w.condition;
          one = makes_wake ops code v n other (going_same Equal equal_keeps ops code n t u b s v d alike.rest.has_exited none) d.threads.here q w.condition
              (at_same code live closed t u i alike w.at) w.empty (ap (λ (x : State B). set.contains (waiting_on x w.condition) q) shares ∙ w.waits);
          differ =
              subst (λ x. Differ Equal n first second b x (state_after_wake ops v n q other w.condition)) (sym w.after)
              (subst (λ y. Differ Equal n first second b (state_after_wake ops s n q own w.condition) (state_after_wake ops y n q other w.condition)) (sym shares)
              (record { shared = refl; owners = refl; threads = put_own n t u first second b b s.threads v.threads d.threads }));
          alike = request_alike code live closed t u i Silent (pos 0) alike w.at;
          behind = request_behind u t i Silent (pos 0);
        }

    own_goes : (s₁ : State B) (m : Move) → step ops code s m ≡ Some s₁ → is_step_of n m ≡ true → Twin live t u s₁ v m
    own_goes s₁ (move.Run q) one own_step =
        let same = is_same n q own_step in
        let went = step_went ops code s s₁ (move.Run q) one in
        subst (λ p. Twin live t u s₁ v (move.Run p)) same
        (ran_own s₁ (none_failed ops code s s₁ (move.Run q) one) (ran_of s s₁ own d.threads.there (subst (Ran ops code s s₁) (sym same) went)))
    own_goes s₁ (move.Wake q w) one own_step =
        let same = is_same n q own_step in
        let went = step_went ops code s s₁ (move.Wake q w) one in
        subst (λ p. Twin live t u s₁ v (move.Wake p w)) same
        (woke_own s₁ w (none_failed ops code s s₁ (move.Wake q w) one)
        (woke_of s s₁ own w d.threads.there (subst (λ p. Woke ops code s s₁ p w) (sym same) went)))
    own_goes s₁ (move.Drain q form) one own_step = absurd (true≢false (sym own_step))

    -- each move of the first state is a move of the second
    pub twin_goes : (s₁ : State B) (m : Move) → IsReached ops code s → step ops code s m ≡ Some s₁ → Twin live t u s₁ v m
    twin_goes s₁ m reached one =
        elim (cases_Bool (is_step_of n m)) [
          | inl by ↦ own_goes s₁ m one by
          | inr by ↦
              let k = moved_other Equal equal_keeps ops code n t u b s v d alike.rest.has_exited s₁ m reached one by in
              record { first = t; second = u; buffer = k.buffer; state = k.state; one = k.one; differ = k.differ; alike = alike; behind = λ is. is }
        ]
