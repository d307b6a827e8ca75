-- The logs that a search goes through can be written.
use Rattle.std.proofs.Common.{◌≡◌, ◌∙◌, inl, inr, ℕ, ◌+◌, ◌≤◌, ◌<◌, ◌&&◌, Bool, true, false, cond, List, [], ◌∷◌, ◌++◌, length, Option, Some, None, refl, sym, ap, ap₂, subst, arith}
use Rattle.std.specs.Prelude.{slice_get, nat_le, nat_lt, IsTrue}
use Rattle.std.specs.List.{All, list_all}
use Rattle.std.proofs.lemmas.Bool.{le-leb, lt-ltb}
use Rattle.std.proofs.lemmas.List.{length-append}
use Rattle.std.proofs.lemmas.List.Elements.{All-head, All-tail}
use Rattle.std.proofs.lemmas.List.Folds.{list_all-append}
use Rattle.std.proofs.lemmas.Option.{none-some, same_Some, slice_get_within}
use Rattle.log_walk.specs.tc_base.Names.{Name, child}
use Rattle.log_walk.specs.tc_base.Paths.{ThreadPath}
use Rattle.tc_code.specs.Code.{Code, instr_at}
use Rattle.tc_code.specs.declared.instr.Instr.{Instr}
use Rattle.kept_logs.specs.run_log.Logs.{Log}
use Rattle.kept_logs.specs.path_log.Texts.{is_of_format, is_thread, is_within}
use Rattle.log_walk.specs.Given.{IsOne, IsWithin}
use Rattle.log_walk.specs.Rest.{Rest, MakeUp, all, leave, rest_by, children_from}
use Rattle.log_walk.specs.Told.{Told, told}
use Rattle.log_walk.specs.declared.bounds.Kind.{Kind}
use Rattle.log_walk.specs.declared.rest.Awaited.{Awaited}
use Rattle.find_failures.proofs.walked_logs.Children.{child_in}
use Rattle.find_failures.proofs.walked_logs.normal_logs.run_history.of_pending.In.{In, in_append}

-- a name that can be written
abbrev is_fine : Name → Bool
is_fine n = list_all (is_within 1 255) n

both : (a b : Bool) → a ≡ true → b ≡ true → (a && b) ≡ true
both a b e g = ap₂ (λ x y. x && y) e g

kept : (b : Bool) (x y : Rest) → cond b None (Some x) ≡ Some y → x ≡ y
kept true x y e = absurd (none-some y e)
kept false x y e = same_Some x y e

children_many : (kind : Kind) (n : Name) (at : Option Instr) (t : Told) (k : ℕ) (fs : List ℕ)
    → length (children_from kind n at t k fs) ≡ length fs
children_many kind n at t k [] = refl
children_many kind n at t k (f ∷ fs) = let e = children_many kind n at t (k + 1) fs in omega (arith, e)

-- the child of that number has a name that can be written
child_is_fine : (n : Name) (k : ℕ) → is_fine n ≡ true → 1 ≤ k → k ≤ 255 → is_fine (child n k) ≡ true
child_is_fine n k fine low high =
    list_all-append (is_within 1 255) n (k ∷ [])
    ∙ both (is_fine n) (is_within 1 255 k && true) fine (both (is_within 1 255 k) true (both (nat_le 1 k) (nat_le k 255) (le-leb 1 k low) (le-leb k 255 high)) refl)

module _ (code : Code) (kind : Kind) where
  abbrev children : Rest → Awaited → ThreadPath → List Awaited
  children rest c t =
      children_from kind c.name (instr_at code c.function (told code c.function t.path).place) (told code c.function t.path) 0
      (told code c.function t.path).created

  abbrev next_rest : Rest → Awaited → List Awaited → ThreadPath → Rest
  next_rest rest c cs t = rest_by code kind rest c cs (told code c.function t.path)

  -- each awaited thread is one of those left
  few_step : (rest : Rest) (t : ThreadPath) (n : ℕ) (next : Awaited) (later : Rest) (cs : List Awaited) → slice_get cs 0 ≡ Some next
      → leave code kind cs rest t.path ≡ Some later → length later.awaited ≤ n → length cs ≤ n + 1
  few_step rest t n next later [] first leaves le = absurd (none-some next first)
  few_step rest t n next later (c ∷ cs) first leaves le =
      let same = kept _ (next_rest rest c cs t) later leaves in
      let many : length (children rest c t ++ cs) ≡ length later.awaited = ap (λ (r : Rest). length r.awaited) same in
      let split = length-append (children rest c t) cs in
      omega (arith, le, many, split)

  few_awaited : (ts : List ThreadPath) (rest : Rest) → MakeUp code kind rest ts → length rest.awaited ≤ length ts
  few_awaited [] rest made = omega (arith, ap length made.0)
  few_awaited (t ∷ ts) rest made =
      let le = few_step rest t (length ts) made.1.next made.0 rest.awaited made.1.is_next made.1.leaves (few_awaited ts made.0 made.2) in
      omega (arith, le)

  abbrev AreFine : List Awaited → Type 0
  AreFine cs = (c : Awaited) → In c cs → is_fine c.name ≡ true

  abbrev are_fine : List ThreadPath → Bool
  are_fine ts = list_all (λ t. is_fine t.name) ts

  fine_step : (rest : Rest) (t : ThreadPath) (ts : List ThreadPath) (next : Awaited) (later : Rest) (cs : List Awaited) → length ts ≤ 255
      → AreFine cs → slice_get cs 0 ≡ Some next → t.name ≡ next.name → leave code kind cs rest t.path ≡ Some later
      → MakeUp code kind later ts → ((r : Rest) → AreFine r.awaited → MakeUp code kind r ts → are_fine ts ≡ true)
      → are_fine (t ∷ ts) ≡ true
  fine_step rest t ts next later [] few fine first name leaves made go = absurd (none-some next first)
  fine_step rest t ts next later (c ∷ cs) few fine first name leaves made go =
      both (is_fine t.name) (are_fine ts) (ap is_fine own ∙ fine c (inl refl)) (go (next_rest rest c cs t) later_fine made_on)
    where
      own : t.name ≡ c.name
      own = name ∙ ap (λ (d : Awaited). d.name) (sym (same_Some c next first))

      made_on : MakeUp code kind (next_rest rest c cs t) ts
      made_on = subst (λ r. MakeUp code kind r ts) (sym (kept _ (next_rest rest c cs t) later leaves)) made

      few_children : length (told code c.function t.path).created ≤ length ts
      few_children =
          let le : length (children rest c t ++ cs) ≤ length ts = few_awaited ts (next_rest rest c cs t) made_on in
          let split = length-append (children rest c t) cs in
          let many = children_many kind c.name (instr_at code c.function (told code c.function t.path).place) (told code c.function t.path) 0 (told code c.function t.path).created in
          omega (arith, le, split, many)

      later_fine : AreFine (next_rest rest c cs t).awaited
      later_fine d i =
          elim (in_append d (children rest c t) cs i) [
            | inl own_child ↦
                let is = child_in kind c.name (instr_at code c.function (told code c.function t.path).place) (told code c.function t.path) 0 (told code c.function t.path).created d own_child in
                let within = slice_get_within (told code c.function t.path).created is.place d.function is.there in
                ap is_fine is.name ∙ child_is_fine c.name (0 + is.place + 1) (fine c (inl refl)) (omega arith) (omega (arith, within, few_children, few))
            | inr other ↦ fine d (inr other)
          ]

  fine_names : (ts : List ThreadPath) (rest : Rest) → length ts ≤ 255 → AreFine rest.awaited → MakeUp code kind rest ts → are_fine ts ≡ true
  fine_names [] rest few fine made = refl
  fine_names (t ∷ ts) rest few fine made =
      fine_step rest t ts made.1.next made.0 rest.awaited (omega (arith, few)) fine made.1.is_next made.1.name made.1.leaves made.2
      (λ r f m. fine_names ts r (omega (arith, few)) f m)

thread_written : (most : ℕ) → most < 65536 → (t : ThreadPath) → IsWithin most t → is_fine t.name ≡ true → is_thread t ≡ true
thread_written most short t w fine =
    let depth : length t.name ≤ 255 = omega (arith, w.depth) in
    let steps : t.path.steps < 65536 = omega (arith, w.steps) in
    let outcomes : length t.path.outcomes < 65536 = omega (arith, w.outcomes, short) in
    both (nat_le (length t.name) 255 && is_fine t.name) (nat_lt t.path.steps 65536 && nat_lt (length t.path.outcomes) 65536)
    (both (nat_le (length t.name) 255) (is_fine t.name) (le-leb (length t.name) 255 depth) fine)
    (both (nat_lt t.path.steps 65536) (nat_lt (length t.path.outcomes) 65536) (lt-ltb t.path.steps 65536 steps)
    (lt-ltb (length t.path.outcomes) 65536 outcomes))

threads_written : (most : ℕ) → most < 65536 → (ts : List ThreadPath) → All (IsWithin most) ts
    → list_all (λ t. is_fine t.name) ts ≡ true → list_all is_thread ts ≡ true
threads_written most short [] within fine = refl
threads_written most short (t ∷ ts) within fine =
    by (is_fine t.name) refl fine (λ e. threads_written most short ts (All-tail (IsWithin most) t ts within) e)
  where
    by : (b : Bool) → is_fine t.name ≡ b → (b && list_all (λ u. is_fine u.name) ts) ≡ true
        → (list_all (λ u. is_fine u.name) ts ≡ true → list_all is_thread ts ≡ true) → list_all is_thread (t ∷ ts) ≡ true
    by true is e rest =
        both (is_thread t) (list_all is_thread ts) (thread_written most short t (All-head (IsWithin most) t ts within) is) (rest e)
    by false is e rest = cc

-- threads that make up a log within bounds can be written
pub one_is_written : (code : Code) (kind : Kind) (most : ℕ) → most < 65536 → (log : Log)
    → IsOne code (record { kind = kind; most = most }) log.threads → IsTrue (is_of_format log)
one_is_written code kind most short log one =
    let few : length log.threads ≤ 255 = omega (arith, one.few) in
    both (nat_le (length log.threads) 255) (list_all is_thread log.threads) (le-leb (length log.threads) 255 few)
    (threads_written most short log.threads one.within
    (fine_names code kind log.threads (all code kind) few (λ c i. main_fine c i) one.makes_up))
  where
    main_fine : (c : Awaited) → In c (all code kind).awaited → is_fine c.name ≡ true
    main_fine c (inl same) = ap (λ (d : Awaited). is_fine d.name) (sym same)
    main_fine c (inr i) = absurd i
