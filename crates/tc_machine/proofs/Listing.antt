-- Moves are listed one after another, and no enabled one is left out.
use Rattle.std.proofs.Common.{◌≡◌, ◌+◌, ◌<◌, ◌≤◌, ◌&&◌, inl, inr, ℕ, zero, suc, List, [], ◌∷◌, ◌++◌, length, take, get_or, map, cond, Bool}
use Rattle.std.proofs.Common.{true, false, Option, Some, None, refl, ap, sym, subst, ◌∙◌, append_assoc, arith, true≢false}
use Rattle.std.specs.Prelude.{◌==◌, slice_get}
use Rattle.std.specs.List.{All, filter, flat_map, list_all, range_with_len, Contains}
use Rattle.std.specs.Option.{is_some, IsSome}
use Rattle.std.specs.FinMap as fin
use Rattle.std.specs.FinSet as set
use Rattle.std.proofs.lemmas.Bool.{false≢true, eqb-true}
use Rattle.std.proofs.lemmas.List.{get_or_default, map-append, take_more}
use Rattle.std.proofs.lemmas.List.Elements.{All-head, All-tail, filter-append, Contains-append_left, Contains-append_right}
use Rattle.std.proofs.lemmas.Map.Views.{Contains-from_any}
use Rattle.std.proofs.lemmas.Option.{none-some, same_Some, option_and_then_some, cond_some}
use Rattle.tc_base.specs.Names.{Name, ByName}
use Rattle.tc_base.specs.Buffers.{BufferOps}
use Rattle.store_buffers.specs.memory_models.declared.model.Model.{Model}
use Rattle.store_buffers.specs.Pending.{Binding}
use Rattle.store_buffers.specs.Laws.{Laws, AreForms}
use Rattle.tc_base.specs.States.{Thread, State}
use Rattle.tc_base.specs.declared.moves.Move.{Move}
use Rattle.tc_base.specs.declared.moves.Move.TheVariants.{Run, Wake, Drain}
use Rattle.tc_code.specs.declared.instr.Instr.{Instr}
use Rattle.tc_code.specs.declared.instr.Instr.TheVariants.{Signal}
use Rattle.tc_code.specs.Code.{Code}
use Rattle.tc_code.specs.Lawful.{IsLawful}
use Rattle.tc_code.specs.Run.{IsReached}
use Rattle.tc_code.specs.Step.{step, wake_of, state_after_wake, drain_of, state_after_drain, move_of, instr_of, waiting_on}
use Rattle.std.proofs.lemmas.Bool.{and_parts}
use Rattle.tc_threads.proofs.run_laws.Basics.{none_unless, unless, some_value}
use Rattle.tc_machine.specs.Moves as choice
use Rattle.tc_machine.specs.declared.choice.Choice.{Choice}
use Rattle.tc_machine.specs.Moves.{is_enabled, steps_of, drains_of, moves_of, enabled_moves}
use Rattle.tc_threads.proofs.ByName.{tied}
use Rattle.tc_machine.proofs.Drains.{same_or_more, passing_forms}
use Rattle.tc_machine.proofs.Within.{form_is_there}
use Rattle.tc_threads.proofs.run_laws.Waiters.{waiters_are_threads}

module _ {X : Type 0} (p : Move → Bool) where
  -- one more candidate
  pub listed_more : (f : X → Move) (names : List X) (i : ℕ) (n : X) (start old new : List Move) → i < length names → n ≡ get_or names i n
      → old ≡ start ++ filter p (map f (take i names)) → new ≡ old ++ filter p (f n ∷ []) → new ≡ start ++ filter p (map f (take (i + 1) names))
  listed_more f names i n start old new lt here so_far e =
      e ∙ ap (λ ms. ms ++ filter p (f n ∷ [])) so_far
      ∙ append_assoc start (filter p (map f (take i names))) (filter p (f n ∷ []))
      ∙ ap (λ ms. start ++ ms) (sym (filter-append p (map f (take i names)) (f n ∷ [])))
      ∙ ap (λ ms. start ++ filter p ms) (sym (map-append f (take i names) (n ∷ [])))
      ∙ ap (λ m. start ++ filter p (map f (take i names ++ m ∷ []))) here
      ∙ ap (λ ns. start ++ filter p (map f ns)) (sym (take_more names i n lt))

  -- the same for a candidate that is read at its place
  pub listed_next : (f : X → Move) (names : List X) (i : ℕ) (d : X) (start old new : List Move) → i < length names
      → old ≡ start ++ filter p (map f (take i names)) → new ≡ old ++ filter p (f (get_or names i d) ∷ [])
      → new ≡ start ++ filter p (map f (take (i + 1) names))
  listed_next f names i d start old new lt so_far e =
      listed_more f names i (get_or names i d) start old new lt (get_or_default names i d (get_or names i d) lt) so_far e

  none_passes : (f : X → Move) (names : List X) → ((n : X) → p (f n) ≡ false) → filter p (map f names) ≡ []
  none_passes f [] h = refl
  none_passes f (n ∷ ns) h = ap (λ b. cond b (f n ∷ filter p (map f ns)) (filter p (map f ns))) (h n) ∙ none_passes f ns h

  -- if no further candidate is enabled, the first is the only one
  pub first_only : (f : X → Move) (names : List X) (m : Move) → ((n : X) → p (f n) ≡ false) → filter p (m ∷ []) ≡ filter p (m ∷ map f names)
  first_only f names m h = ap (λ ms. cond (p m) (m ∷ ms) ms) (sym (none_passes f names h))

-- the first of the threads by name exists, and so do the others
pub first_there : {B : Type 0} (m : ByName (Thread B)) (es rest : List (Name × Thread B)) (n : Name) (t : Thread B) → es ≡ (n, t) ∷ rest
    → All (λ e. fin.get m e.0 ≡ Some e.1) es → (fin.get m n ≡ Some t) × All (λ e. fin.get m e.0 ≡ Some e.1) rest
first_there {B} m es rest n t is all =
    let P : Name × Thread B → Type 0 = λ e. fin.get m e.0 ≡ Some e.1 in
    let there = subst (All P) is all in
    (All-head P (n, t) rest there, All-tail P (n, t) rest there)

-- after the moves of the first thread, those of the others are to be listed
pub listed_thread : {X : Type 0} (f : Name → List Move) (old new all : List Move) (es rest : List (Name × X)) (n : Name) (x : X) → es ≡ (n, x) ∷ rest
    → new ≡ old ++ f n → old ++ flat_map f (map (λ e. e.0) es) ≡ all → new ++ flat_map f (map (λ e. e.0) rest) ≡ all
listed_thread f old new all es rest n x is more so_far =
    ap (λ ms. ms ++ flat_map f (map (λ e. e.0) rest)) more
    ∙ append_assoc old (f n) (flat_map f (map (λ e. e.0) rest))
    ∙ ap (λ fs. old ++ flat_map f (map (λ e. e.0) fs)) (sym is)
    ∙ so_far

kept : (f : Option ℕ → Move) (g : Option ℕ) (ms : List Move) (gs : List (Option ℕ)) → ms ≡ map f gs → (b : Bool)
    → cond b (f g ∷ ms) ms ≡ map f (cond b (g ∷ gs) gs)
kept f g ms gs e true = ap (λ ns. f g ∷ ns) e
kept f g ms gs e false = e

filter_map : (p : Move → Bool) (f : Option ℕ → Move) (fs : List (Option ℕ)) → filter p (map f fs) ≡ map f (filter (λ g. p (f g)) fs)
filter_map p f [] = refl
filter_map p f (g ∷ gs) = kept f g (filter p (map f gs)) (filter (λ h. p (f h)) gs) (filter_map p f gs) (p (f g))

cell_drains : (n : Name) (cells : List ℕ) → map (λ f. Drain n f) (map (λ c. Some c) cells) ≡ map (λ c. Drain n (Some c)) cells
cell_drains n [] = refl
cell_drains n (c ∷ cs) = ap (λ ms. Drain n (Some c) ∷ ms) (cell_drains n cs)

first_in : {X : Type 0} (y x : X) (ys : List X) → y ≡ x → Contains (y ∷ ys) x
first_in y x ys e = (0, omega arith, e)

later_in : {X : Type 0} (y x : X) (ys : List X) → Contains ys x → Contains (y ∷ ys) x
later_in y x ys c = (suc c.0, omega (arith, c.1), c.2)

module _ (p : Move → Bool) where
  put_first : (b : Bool) (x m : Move) (ms : List Move) → p x ≡ b → x ≡ m → p m ≡ true → Contains (cond b (x ∷ ms) ms) m
  put_first true x m ms e same passes = first_in x m ms same
  put_first false x m ms e same passes = absurd (false≢true (sym e ∙ ap p same ∙ passes))

  put_later : (b : Bool) (x m : Move) (ms : List Move) → Contains ms m → Contains (cond b (x ∷ ms) ms) m
  put_later true x m ms c = later_in x m ms c
  put_later false x m ms c = c

  in_filter : (ms : List Move) (k : ℕ) (m : Move) → k < length ms → get_or ms k m ≡ m → p m ≡ true → Contains (filter p ms) m
  in_filter [] k m lt is passes = absurd (omega arith)
  in_filter (x ∷ ms) zero m lt is passes = put_first (p x) x m (filter p ms) refl is passes
  in_filter (x ∷ ms) (suc k) m lt is passes = put_later (p x) x m (filter p ms) (in_filter ms k m (omega arith) is passes)

in_map : (f : Name → Move) (names : List Name) (k : ℕ) (n : Name) → k < length names → get_or names k n ≡ n → Contains (map f names) (f n)
in_map f [] k n lt is = absurd (omega arith)
in_map f (x ∷ names) zero n lt is = first_in (f x) (f n) (map f names) (ap f is)
in_map f (x ∷ names) (suc k) n lt is = later_in (f x) (f n) (map f names) (in_map f names k n (omega arith) is)

in_flat_map : (f : Name → List Move) (names : List Name) (k : ℕ) (n : Name) (m : Move) → k < length names → get_or names k n ≡ n → Contains (f n) m
    → Contains (flat_map f names) m
in_flat_map f [] k n m lt is c = absurd (omega arith)
in_flat_map f (x ∷ names) zero n m lt is c = Contains-append_left (f x) (flat_map f names) m (subst (λ y. Contains (f y) m) (sym is) c)
in_flat_map f (x ∷ names) (suc k) n m lt is c = Contains-append_right (f x) (flat_map f names) m (in_flat_map f names k n m (omega arith) is c)

in_range : (f : ℕ → Move) (a n c : ℕ) → a ≤ c → c < a + n → Contains (map f (range_with_len a n)) (f c)
in_range f a zero c low high = absurd (omega (arith, low, high))
in_range f a (suc n) c low high = elim (same_or_more a c low) [
  | inl same ↦ first_in (f a) (f c) _ (ap f same)
  | inr lt ↦ later_in (f a) (f c) _ (in_range f (a + 1) n c (omega (arith, lt)) (omega (arith, high)))
]

module _ {B : Type 0} (ops : BufferOps B) (code : Code) (s : State B) (n : Name) where
  -- a thread may drain in a form only if its buffer may
  drain_enabled : (t : Thread B) (form : Option ℕ) → fin.get s.threads n ≡ Some t → is_enabled ops code s (Drain n form) ≡ true
      → ops.may_drain t.buffer form ≡ true
  drain_enabled t form there enabled =
      let after = some_value (step ops code s (Drain n form)) enabled in
      option_and_then_some (λ u. drain_of ops s n u form) (fin.get s.threads n) after.0 (unless (is_some s.failed) _ after.0 after.1).1 (λ u here g.
      subst (λ (v : Thread B). ops.may_drain v.buffer form ≡ true) (same_Some u t (sym here ∙ there))
      (cond_some (ops.may_drain u.buffer form) (state_after_drain ops s n u form) after.0 g).0)

module _ {B : Type 0} (ops : BufferOps B) (model : Model) (bound : Binding) (laws : Laws ops model bound) (code : Code) (lawful : IsLawful code) (s : State B)
    (reached : IsReached ops code s) where
  -- the enabled drains of a thread are those of its buffer's forms
  pub enabled_drains : (n : Name) (t : Thread B) (forms : List (Option ℕ)) → fin.get s.threads n ≡ Some t → AreForms ops t.buffer forms
      → filter (is_enabled ops code s) (map (λ f. Drain n f) forms) ≡ filter (is_enabled ops code s) (drains_of ops code s n)
  enabled_drains n t forms there are =
      let p = is_enabled ops code s in
      let all = map (λ c. Some c) (range_with_len 0 (length s.memory)) in
      filter_map p (λ f. Drain n f) forms
      ∙ ap (map (λ f. Drain n f))
      (passing_forms (λ f. p (Drain n f)) forms (length s.memory) are.rise
      (λ f enabled. are.exact f ∙ drain_enabled ops code s n t f there enabled)
      (λ c h. form_is_there ops model bound laws code lawful s reached n t there (Some c) (sym (are.exact (Some c)) ∙ h) c refl))
      ∙ sym (filter_map p (λ f. Drain n f) (None ∷ all))
      ∙ ap (λ ms. filter p (Drain n None ∷ ms)) (cell_drains n (range_with_len 0 (length s.memory)))

  -- the name of a thread is among those of the threads
  thread_is_listed : (n : Name) → IsSome (fin.get s.threads n) → Contains (fin.keys s.threads) n
  thread_is_listed n there = Contains-from_any tied n (fin.keys s.threads) (sym (fin.contains_key-keys s.threads n) ∙ there)

  move_is_listed : (n : Name) (m : Move) → IsSome (fin.get s.threads n) → Contains (steps_of ops code s n ++ drains_of ops code s n) m
      → is_enabled ops code s m ≡ true → Contains (enabled_moves ops code s) m
  move_is_listed n m there all enabled =
      let name = thread_is_listed n there in
      in_flat_map (moves_of ops code s) (fin.keys s.threads) name.0 n m name.1 name.2
      (in_filter (is_enabled ops code s) (steps_of ops code s n ++ drains_of ops code s n) all.0 m all.1 all.2 enabled)

  step_is_listed : (n : Name) (m : Move) → IsSome (fin.get s.threads n) → Contains (steps_of ops code s n) m
      → is_enabled ops code s m ≡ true → Contains (enabled_moves ops code s) m
  step_is_listed n m there c = move_is_listed n m there (Contains-append_left (steps_of ops code s n) (drains_of ops code s n) m c)

  drain_is_listed : (n : Name) (m : Move) → IsSome (fin.get s.threads n) → Contains (drains_of ops code s n) m
      → is_enabled ops code s m ≡ true → Contains (enabled_moves ops code s) m
  drain_is_listed n m there c = move_is_listed n m there (Contains-append_right (steps_of ops code s n) (drains_of ops code s n) m c)

  drain_is_one : (n : Name) (t : Thread B) (form : Option ℕ) → fin.get s.threads n ≡ Some t → ops.may_drain t.buffer form ≡ true
      → Contains (drains_of ops code s n) (Drain n form)
  drain_is_one n t None there may = first_in (Drain n None) (Drain n None) _ refl
  drain_is_one n t (Some c) there may =
      later_in (Drain n None) (Drain n (Some c)) _
      (let lt : c < length s.memory = form_is_there ops model bound laws code lawful s reached n t there (Some c) may c refl in
      in_range (λ d. Drain n (Some d)) 0 (length s.memory) c (omega arith) (omega (arith, lt)))

  wake_is_step : (n u : Name) → IsSome (fin.get s.threads u) → Contains (steps_of ops code s n) (Wake n u)
  wake_is_step n u there =
      let name = thread_is_listed u there in
      later_in (Run n) (Wake n u) (map (λ v. Wake n v) (fin.keys s.threads)) (in_map (λ v. Wake n v) (fin.keys s.threads) name.0 u name.1 name.2)

  woken_is_thread : (n u : Name) (t : Thread B) (i : Instr) (v : State B) → wake_of ops s n u t i ≡ Some v → IsSome (fin.get s.threads u)
  woken_is_thread n u t (Signal c) v h =
      waiters_are_threads ops code s reached u c (and_parts (ops.is_empty t.buffer) _
      (cond_some (ops.is_empty t.buffer && set.contains (waiting_on s c) u) (state_after_wake ops s n u t c) v h).0).1
  woken_is_thread n u t i v h = absurd (none-some v h)

  listed_move : (m : Move) (v : State B) → move_of ops code s m ≡ Some v → is_enabled ops code s m ≡ true
      → Contains (enabled_moves ops code s) m
  listed_move (Run n) v h enabled =
      option_and_then_some _ (fin.get s.threads n) v h (λ t there g.
      step_is_listed n (Run n) (subst IsSome (sym there) refl) (first_in (Run n) (Run n) (map (λ u. Wake n u) (fin.keys s.threads)) refl) enabled)
  listed_move (Wake n u) v h enabled =
      option_and_then_some _ (fin.get s.threads n) v h (λ t there g.
      option_and_then_some (wake_of ops s n u t) (instr_of code t.local) v g (λ i at k.
      step_is_listed n (Wake n u) (subst IsSome (sym there) refl) (wake_is_step n u (woken_is_thread n u t i v k)) enabled))
  listed_move (Drain n form) v h enabled =
      option_and_then_some (λ t. drain_of ops s n t form) (fin.get s.threads n) v h (λ t there g.
      drain_is_listed n (Drain n form) (subst IsSome (sym there) refl)
      (drain_is_one n t form there (cond_some (ops.may_drain t.buffer form) (state_after_drain ops s n t form) v g).0) enabled)

  -- every enabled move is listed
  pub every_enabled_move_is_listed : (m : Move) → IsSome (step ops code s m) → Contains (enabled_moves ops code s) m
  every_enabled_move_is_listed m h =
      let after = some_value (step ops code s m) h in
      listed_move m after.0 (unless (is_some s.failed) _ after.0 after.1).1 h

-- Listed moves are enabled.

listed_filter : (p : Move → Bool) (ms : List Move) → list_all p (filter p ms) ≡ true
listed_filter p [] = refl
listed_filter p (m ∷ ms) = passing (p m) refl (listed_filter p ms)
  where
    passing : (b : Bool) → p m ≡ b → list_all p (filter p ms) ≡ true → list_all p (cond b (m ∷ filter p ms) (filter p ms)) ≡ true
    passing true e h = ap (λ b. b && list_all p (filter p ms)) e ∙ h
    passing false e h = h

listed_both : (p : Move → Bool) (xs ys : List Move) → list_all p xs ≡ true → list_all p ys ≡ true → list_all p (xs ++ ys) ≡ true
listed_both p [] ys h k = k
listed_both p (x ∷ xs) ys h k =
    let parts = and_parts (p x) (list_all p xs) h in
    ap (λ b. b && list_all p (xs ++ ys)) parts.0 ∙ listed_both p xs ys parts.1 k

listed_all : {X : Type 0} (p : Move → Bool) (f : X → List Move) (xs : List X) → ((x : X) → list_all p (f x) ≡ true) → list_all p (flat_map f xs) ≡ true
listed_all p f [] h = refl
listed_all p f (x ∷ xs) h = listed_both p (f x) (flat_map f xs) (h x) (listed_all p f xs h)

listed_at : (p : Move → Bool) (ms : List Move) (i : ℕ) (m : Move) → list_all p ms ≡ true → slice_get ms i ≡ Some m → p m ≡ true
listed_at p [] i m h e = absurd (none-some m e)
listed_at p (x ∷ ms) zero m h e = subst (λ y. p y ≡ true) (same_Some x m e) (and_parts (p x) (list_all p ms) h).0
listed_at p (x ∷ ms) (suc i) m h e = listed_at p ms i m (and_parts (p x) (list_all p ms) h).1 e

module _ {B : Type 0} (ops : BufferOps B) (code : Code) (s : State B) where
  pub listed_is_enabled : (i : ℕ) (m : Move) → slice_get (enabled_moves ops code s) i ≡ Some m → IsSome (step ops code s m)
  listed_is_enabled i m e =
      listed_at (is_enabled ops code s) (enabled_moves ops code s) i m
      (listed_all (is_enabled ops code s) (moves_of ops code s) (fin.keys s.threads) (λ n. listed_filter (is_enabled ops code s) (steps_of ops code s n
      ++ drains_of ops code s n))) e

  -- if some move is listed, some move is enabled
  pub some_is_enabled : (choices : List Choice) → map choice.move_of choices ≡ enabled_moves ops code s → (length choices == 0) ≡ false
      → (m : Move) × IsSome (step ops code s m)
  some_is_enabled [] is some = absurd (true≢false some)
  some_is_enabled (x ∷ xs) is some = (choice.move_of x, listed_is_enabled 0 (choice.move_of x) (ap (λ ms. slice_get ms 0) (sym is)))

  -- if none is left out and none is listed, none is enabled
  pub none_is_enabled : (choices : List Choice) → ((m : Move) → IsSome (step ops code s m) → Contains (map choice.move_of choices) m)
      → (length choices == 0) ≡ true → (m : Move) → step ops code s m ≡ None
  none_is_enabled [] all none m = none_unless (step ops code s m) (λ enabled. let c = all m enabled in omega (arith, c.1))
  none_is_enabled (x ∷ xs) all none m = absurd (omega (arith, eqb-true (length (x ∷ xs)) 0 none))
