-- The log of a run that ends within its limits is of the format.
use Rattle.std.proofs.Common.{◌≡◌, ◌∙◌, ◌&&◌, ℕ, zero, suc, ◌+◌, ◌≤◌, ◌^◌, ℤ, pos, Bool, true, false, List, [], ◌∷◌, ◌++◌, map, length, Option, Some, None, IsSome}
use Rattle.std.proofs.Common.{refl, ap, sym, subst, arith}
use Rattle.std.specs.Prelude.{slice_get, nat_lt, nat_le}
use Rattle.std.specs.List.{list_all}
use Rattle.std.specs.Option.{option_map_or}
use Rattle.std.specs.FinMap as fin
use Rattle.std.proofs.lemmas.Bool.{ltb-false, lt-ltb, le-leb, and_parts, and_from}
use Rattle.std.proofs.lemmas.List.{length_push, length-map}
use Rattle.tc_base.specs.Names.{Name}
use Rattle.tc_limits.specs.declared.limits.TheConstants.{THREADS, DEPTH, STEPS}
use Rattle.tc_base.specs.Buffers.{BufferOps}
use Rattle.tc_base.specs.States.{Local, Thread, State}
use Rattle.tc_base.specs.Paths.{Path, ThreadPath}
use Rattle.tc_base.specs.declared.request.Request.{Request}
use Rattle.tc_base.specs.declared.request.Request.TheVariants.{Read, Exchange, Fail}
use Rattle.tc_code.specs.declared.instr.Instr.{Instr}
use Rattle.tc_code.specs.declared.instr.Instr.TheVariants.{Branch}
use Rattle.tc_code.specs.Code.{Code}
use Rattle.tc_code.specs.Step.{local_after, instr_of, request, born, is_nonzero, value_in}
use Rattle.tc_code.specs.Run.{IsReached, path_of}
use Rattle.path_log.specs.Texts.{is_within, is_thread}
use Rattle.tc_machine.specs.run_laws.Alone.{Alone, after_request, goes_on, after_steps, taken_from}
use Rattle.tc_machine.proofs.run_laws.After.{branch_is}
use Rattle.tc_machine.proofs.run_laws.Basics.{some_is, some_value}
use Rattle.tc_machine.proofs.run_laws.Begun.{threads_live_alone}
use Rattle.tc_machine.proofs.run_laws.Created.{reached_is_created}
use Rattle.tc_record.specs.Ends.{has_many_steps}
use Rattle.tc_record.specs.helpers.Paths.{named_path}
use Rattle.tc_machine.proofs.Exits.{listed_there}
use Rattle.tc_record.specs.helpers.Paths.{IsWithin}
use Rattle.tc_record.proofs.Ends.{none_passes}
use Rattle.tc_record.proofs.Reached.{children_fit}

-- A thread has at most as many outcomes as steps.

after_outcomes : (t : Local) (i : Instr) (v : ℤ) → length (local_after t i v).outcomes ≤ length t.outcomes + 1
after_outcomes t (Branch e to) v =
    subst (λ (u : Local). length u.outcomes ≤ length t.outcomes + 1) (sym (branch_is t _ to)) (omega (
      arith,
      length_push t.outcomes (is_nonzero (value_in t e)),
    ))
after_outcomes t _ v = omega arith

request_outcomes : (t : Local) (i : Instr) (vs : List ℤ) (r : Request) → length (after_request t i vs r).local.outcomes ≤ length t.outcomes + 1
request_outcomes t i (v ∷ vs) (Read c) = after_outcomes t i v
request_outcomes t i (v ∷ vs) (Exchange c w) = after_outcomes t i v
request_outcomes t i (v ∷ vs) Fail = omega arith
request_outcomes t i (v ∷ vs) _ = after_outcomes t i (pos 0)
request_outcomes t i [] Fail = omega arith
request_outcomes t i [] _ = after_outcomes t i (pos 0)

one_outcomes : (a : Alone) (o : Option Instr)
    → length (option_map_or (λ i. after_request a.local i a.values (request a.local i)) o a).local.outcomes ≤ length a.local.outcomes + 1
one_outcomes a None = omega arith
one_outcomes a (Some i) = request_outcomes a.local i a.values (request a.local i)

steps_outcomes : (code : Code) (k : ℕ) (a : Alone) → length (after_steps code k a).local.outcomes ≤ length a.local.outcomes + k
steps_outcomes code zero a = omega arith
steps_outcomes code (suc k) a = omega (arith, one_outcomes a (instr_of code a.local), steps_outcomes code k (goes_on code a))

-- Names.

all_push : (p : ℕ → Bool) (xs : List ℕ) (x : ℕ) → list_all p xs ≡ true → p x ≡ true → list_all p (xs ++ x ∷ []) ≡ true
all_push p [] x h k = and_from _ _ k refl
all_push p (y ∷ ys) x h k =
    let parts = and_parts (p y) _ h in
    and_from _ _ parts.0 (all_push p ys x parts.1 k)

all_map : {X : Type 0} (p : ThreadPath → Bool) (f : X → ThreadPath) (xs : List X)
    → ((i : ℕ) (x : X) → slice_get xs i ≡ Some x → p (f x) ≡ true) → list_all p (map f xs) ≡ true
all_map p f [] h = refl
all_map p f (x ∷ xs) h = and_from _ _ (h 0 x refl) (all_map p f xs (λ i y e. h (suc i) y e))

module _ {B : Type 0} (ops : BufferOps B) (code : Code) (s : State B) (r : IsReached ops code s) where
  outcomes_fit : (n : Name) (t : Thread B) → fin.get s.threads n ≡ Some t → length t.local.outcomes ≤ t.local.steps
  outcomes_fit n t there =
      let alone = threads_live_alone ops code r.moves s n t r.leads there in
      let b = alone.0 in
      let start : Alone = record { local = (born ops code b.function b.arguments).local; values = taken_from ops code b.state n b.rest } in
      let most = steps_outcomes code t.local.steps start in
      omega (arith, ap (λ (u : Local). length u.outcomes) alone.1, most)

  -- there are at most as many threads as allowed
  abbrev Few : Type 0
  Few = fin.len s.threads ≤ THREADS

  -- the numbers of a thread's name are those of creates
  numbers_fit : Few → (k : ℕ) (n : Name) → length n ≤ k → IsSome (fin.get s.threads n) → list_all (is_within 1 255) n ≡ true
  numbers_fit few k [] short there = refl
  numbers_fit few zero (a ∷ n) short there = absurd (omega (arith, short))
  numbers_fit few (suc k) (a ∷ n) short there =
      let c = (reached_is_created ops code s r).is_created (a ∷ n) there (λ e. omega (arith, ap length e)) in
      let fits = children_fit ops code s r c.parent c.thread c.there in
      let shorter : length c.parent ≤ k = omega (arith, short, ap length c.name, length_push c.parent c.number) in
      let parent = numbers_fit few k c.parent shorter (some_is _ c.thread c.there) in
      let low = le-leb 1 c.number c.created.first in
      let high = le-leb c.number 255 (omega (arith, c.created.last, fits, few)) in
      subst (λ m. list_all (is_within 1 255) m ≡ true) (sym c.name) (all_push (is_within 1 255) c.parent c.number parent (and_from _ _ low high))

  -- the path of a thread has a text
  thread_fits : Few → (n : Name) (t : Thread B) → fin.get s.threads n ≡ Some t → nat_lt DEPTH (length n) ≡ false → has_many_steps s n ≡ false
      → is_thread (named_path s n) ≡ true
  thread_fits few n t there depth steps =
      let short = ltb-false DEPTH (length n) depth in
      let numbers = numbers_fit few (length n) n (omega arith) (some_is _ t there) in
      let most : t.local.steps ≤ STEPS =
      ltb-false STEPS t.local.steps (sym (ap (λ (o : Option (Thread B)). option_map_or (λ u. nat_lt STEPS u.local.steps) o false) there) ∙ steps) in
      let own = outcomes_fit n t there in
      let fits : nat_lt t.local.steps (2 ^ 16) && nat_lt (length t.local.outcomes) (2 ^ 16) ≡ true =
      and_from _ _ (lt-ltb t.local.steps (2 ^ 16) (omega (arith, most))) (lt-ltb (length t.local.outcomes) (2 ^ 16) (omega (arith, own, most))) in
      and_from _ _ (and_from _ _ (le-leb (length n) 255 (omega (arith, short))) numbers)
      (subst (λ (p : Path). (nat_lt p.steps (2 ^ 16) && nat_lt (length p.outcomes) (2 ^ 16)) ≡ true)
      (sym (ap (λ (o : Option (Thread B)). option_map_or path_of o (record { outcomes = []; steps = 0 })) there)) fits)

  -- the log of the state is of the format
  pub of_format : IsWithin s → (threads : List ThreadPath) → threads ≡ map (named_path s) (fin.keys s.threads)
      → (nat_le (length threads) 255 && list_all is_thread threads) ≡ true
  of_format within threads is =
      let count = ltb-false THREADS (length (fin.keys s.threads)) within.threads in
      let few : Few = omega (arith, count, fin.len-entries s.threads, length-map (fin.entries s.threads) (λ e. e.0)) in
      let paths : list_all is_thread (map (named_path s) (fin.keys s.threads)) ≡ true = all_map is_thread (named_path s) (fin.keys s.threads) (λ i n e.
      let t = some_value (fin.get s.threads n) (listed_there s i n e) in
      thread_fits few n t.0 t.1 (none_passes _ (fin.keys s.threads) i n within.depth e) (none_passes _ (fin.keys s.threads) i n within.steps e)) in
      and_from _ _ (subst (λ (ts : List ThreadPath). nat_le (length ts) 255 ≡ true) (sym is)
      (le-leb _ 255 (omega (arith, count, length-map (fin.keys s.threads) (named_path s)))))
      (subst (λ (ts : List ThreadPath). list_all is_thread ts ≡ true) (sym is) paths)

  -- the log of the state is small
  pub small : IsWithin s → (threads : List ThreadPath) → threads ≡ map (named_path s) (fin.keys s.threads)
      → (nat_le (length threads) THREADS && list_all (λ (t : ThreadPath). nat_le (length t.name) DEPTH) threads) ≡ true
  small within threads is =
      let count = ltb-false THREADS (length (fin.keys s.threads)) within.threads in
      let shallow : list_all (λ (t : ThreadPath). nat_le (length t.name) DEPTH) (map (named_path s) (fin.keys s.threads)) ≡ true =
      all_map (λ t. nat_le (length t.name) DEPTH) (named_path s) (fin.keys s.threads) (λ i n e.
      le-leb (length n) DEPTH (ltb-false DEPTH (length n) (none_passes _ (fin.keys s.threads) i n within.depth e))) in
      and_from _ _ (subst (λ (ts : List ThreadPath). nat_le (length ts) THREADS ≡ true) (sym is)
      (le-leb _ THREADS (omega (arith, count, length-map (fin.keys s.threads) (named_path s)))))
      (subst (λ (ts : List ThreadPath). list_all (λ (t : ThreadPath). nat_le (length t.name) DEPTH) ts ≡ true) (sym is) shallow)
