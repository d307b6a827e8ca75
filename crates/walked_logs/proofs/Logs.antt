-- The threads of a normal log make up a log: each in turn is the first that is awaited.
use Rattle.std.proofs.Common.{◌≡◌, ◌∙◌, ◌⊎◌, inl, inr, ℕ, zero, suc, ◌+◌, ◌-◌, ◌==◌, ◌&&◌, ◌||◌, Bool, true, false, cond, List, [], ◌∷◌, ◌++◌, length, ◌<◌, not}
use Rattle.std.proofs.Common.{Option, Some, None, refl, sym, ap, ap₂, subst, arith, append_assoc, append-nil, slice_index_or, replicate}
use Rattle.std.specs.Prelude.{slice_get, option_and_then, is_some}
use Rattle.std.specs.List.{list_any}
use Rattle.std.specs.declared.cmp.Ordering.TheVariants.{Less}
use Rattle.std.proofs.lemmas.Bool.{false≢true, and_parts, eqb-true, eq-eqb, false_from_ne_true, true_from_ne_false}
use Rattle.std.proofs.lemmas.Option.{none-some, same_Some}
use Rattle.log_walk.specs.run_log.Logs.{Log, rises_from}
use Rattle.log_walk.specs.tc_base.Names.{Name, main, by_name, child}
use Rattle.log_walk.specs.tc_base.Paths.{Path, ThreadPath, path_under}
use Rattle.log_walk.proofs.tc_base.Names.{between, not_itself, child_is_above}
use Rattle.log_walk.specs.tc_code.Code.{Code, instr_at}
use Rattle.log_walk.specs.tc_code.declared.instr.Instr.{Instr}
use Rattle.log_walk.specs.tc_code.declared.instr.Instr.TheVariants.{Lock}
use Rattle.log_walk.specs.declared.bounds.Kind.TheVariants.{Failure, Deadlock}
use Rattle.std.proofs.Math.Bool.{or-true}
use Rattle.std.proofs.lemmas.List.{length-replicate, length-set}
use Rattle.normal_logs.proofs.run_laws.Basics.{index_or-replicate}
use Rattle.normal_logs.proofs.run_history.of_pending.In.{In, in_append, in_left, in_right, any_in, in_any}
use Rattle.log_walk.specs.path_walk.Fits.{places_in, started, child_function, function_below, function_of}
use Rattle.log_walk.specs.path_walk.Marks.{marks_at_start}
use Rattle.log_walk.specs.path_walk.Paths.{Walk}
use Rattle.log_walk.specs.path_walk.Steps.{steps_at}
use Rattle.log_walk.proofs.path_walk.Faults.{missing, fitting}
use Rattle.normal_logs.specs.path_laws.history.Along.{IsThread, path_thread}
use Rattle.normal_logs.proofs.path_laws.Logs.{place_of}
use Rattle.normal_logs.proofs.path_laws.Prefixes.{own_under}
use Rattle.normal_logs.proofs.path_laws.of_history.Walks.{IsWalk, walk_is}
use Rattle.normal_logs.proofs.path_laws.of_events.Lists.{in_place, in_contains, contains_in}
use Rattle.log_walk.specs.thread_paths.Ends.{MayTake}
use Rattle.log_walk.specs.thread_paths.declared.aim.End.{End}
use Rattle.log_walk.specs.thread_paths.declared.aim.End.TheVariants as end
use Rattle.log_walk.specs.Told.{Told, told}
use Rattle.log_walk.specs.Rest.{Rest, MakeUp, all, rest_by, meet, either, aim_of, may_fail, ends_log, last_end, open_end, children_from, waits_for, waits, is_free, lacks}
use Rattle.log_walk.specs.declared.bounds.Kind.{Kind}
use Rattle.log_walk.specs.declared.rest.Awaited.{Awaited}
use Rattle.normal_logs.specs.Ends.{HoldsAtEnd, IsJoined, IsHeldAtEnd}
use Rattle.normal_logs.specs.Normal.{FitTogether}
use Rattle.walked_logs.proofs.Names.{child_not_nil, none_below, same_child, Rise, rise}
use Rattle.walked_logs.proofs.Children.{Ordered, IsChild, child_in, child_there, ordered}
use Rattle.walked_logs.proofs.Known.{IsOf, of, in_get, name as name_is, function as function_is, same_told as told_is, created as created_is, child_made as made_is}
use Rattle.walked_logs.proofs.Ends.{says, says_so, holds_so, joins_told, joins_there, holds_back, held_many, held_within}
use Rattle.walked_logs.proofs.Told.{Joins}
use Rattle.walked_logs.proofs.Takes.{same_joins, same_places}

-- Mutexes of two lists.

record BothHold (a b : List Bool) : Type 0 where
  mutex : ℕ
  first : slice_index_or a mutex false ≡ true
  second : slice_index_or b mutex false ≡ true

met : (a b : List Bool) → meet a b ≡ true → BothHold a b
met [] [] e = absurd (false≢true e)
met [] (y ∷ b) e = absurd (false≢true e)
met (x ∷ a) [] e = absurd (false≢true e)
met (true ∷ a) (true ∷ b) e = record { mutex = 0; first = refl; second = refl }
met (true ∷ a) (false ∷ b) e = let rest = met a b e in record { mutex = suc rest.mutex; first = rest.first; second = rest.second }
met (false ∷ a) (y ∷ b) e = let rest = met a b e in record { mutex = suc rest.mutex; first = rest.first; second = rest.second }

one_holds : (a b : List Bool) (m : ℕ) → slice_index_or (either a b) m false ≡ true
    → (slice_index_or a m false ≡ true) ⊎ (slice_index_or b m false ≡ true)
one_holds [] [] m e = absurd (false≢true e)
one_holds [] (y ∷ b) m e = absurd (false≢true e)
one_holds (x ∷ a) [] m e = absurd (false≢true e)
one_holds (true ∷ a) (y ∷ b) zero e = inl refl
one_holds (false ∷ a) (y ∷ b) zero e = inr e
one_holds (x ∷ a) (y ∷ b) (suc m) e = one_holds a b m e

first_holds : (a b : List Bool) (m : ℕ) → length a ≡ length b → slice_index_or a m false ≡ true → slice_index_or (either a b) m false ≡ true
first_holds [] b m long e = absurd (false≢true e)
first_holds (x ∷ a) [] m long e = absurd (omega (arith, long))
first_holds (x ∷ a) (y ∷ b) zero long e = ap (λ c. c || y) e
first_holds (x ∷ a) (y ∷ b) (suc m) long e = first_holds a b m (omega (arith, long)) e

second_holds : (a b : List Bool) (m : ℕ) → length a ≡ length b → slice_index_or b m false ≡ true → slice_index_or (either a b) m false ≡ true
second_holds a [] m long e = absurd (false≢true e)
second_holds [] (y ∷ b) m long e = absurd (omega (arith, long))
second_holds (x ∷ a) (y ∷ b) zero long e = ap (λ c. x || c) e ∙ or-true x
second_holds (x ∷ a) (y ∷ b) (suc m) long e = second_holds a b m (omega (arith, long)) e

either_long : (a b : List Bool) → length a ≡ length b → length (either a b) ≡ length a
either_long [] b long = refl
either_long (x ∷ a) [] long = absurd (omega (arith, long))
either_long (x ∷ a) (y ∷ b) long = ap suc (either_long a b (omega (arith, long)))

waits_long : (kind : Kind) (at : Option Instr) (waited : List Bool) → length (waits kind at waited) ≡ length waited
waits_long Deadlock (Some (Lock m)) waited = length-set waited m true
waits_long Deadlock (Some i) waited = refl
waits_long Deadlock None waited = refl
waits_long Failure at waited = refl

record OneLacks (a b : List Bool) : Type 0 where
  mutex : ℕ
  first : slice_index_or a mutex false ≡ true
  second : slice_index_or b mutex false ≡ false

lacking : (a b : List Bool) → lacks a b ≡ true → OneLacks a b
lacking [] b e = absurd (false≢true e)
lacking (x ∷ a) [] e = absurd (false≢true e)
lacking (true ∷ a) (false ∷ b) e = record { mutex = 0; first = refl; second = refl }
lacking (true ∷ a) (true ∷ b) e = let rest = lacking a b e in record { mutex = suc rest.mutex; first = rest.first; second = rest.second }
lacking (false ∷ a) (y ∷ b) e = let rest = lacking a b e in record { mutex = suc rest.mutex; first = rest.first; second = rest.second }

-- What the threads of a log of a kind need.
pub record Facts (code : Code) (log : Log) (kind : Kind) : Type 1 where
  pub paths : FitTogether code log
  -- what is asked of the end of a thread
  pub Asked : Name → End → Type 0
  -- what holds of the threads to come after the one that ends the log, and what that one does
  pub Spared : Name → Type 0
  pub EndsIt : Name → Type 0
  pub takes : (j : ℕ) (w : Walk) (there : IsThread code log j w) (e : End) (ends : Bool) → Asked w.name e → (ends ≡ true → Spared w.name)
      → MayTake code w.function (aim_of kind ends e) (walk_is code log paths.is_log paths.fits (path_thread j w there)).path
  pub spares : (j : ℕ) (w : Walk) (there : IsThread code log j w) (e : End) (ends : Bool) → Asked w.name e → (ends ≡ true → Spared w.name)
      → ends_log code kind (may_fail kind ends e) w.function (says code log w (walk_is code log paths.is_log paths.fits (path_thread j w there))) ≡ true
      → (n : Name) → by_name w.name n ≡ Less → Spared n
  pub ends_it : (j : ℕ) (w : Walk) (there : IsThread code log j w) (e : End) (ends : Bool) → Asked w.name e → (ends ≡ true → Spared w.name)
      → ends_log code kind (may_fail kind ends e) w.function (says code log w (walk_is code log paths.is_log paths.fits (path_thread j w there))) ≡ false
      → EndsIt w.name → ⊥
  pub joined : (n : Name) → IsJoined code log n → Asked n end.Exit
  pub free : (n : Name) → (IsJoined code log n → ⊥) → Asked n (open_end kind)
  pub last : (j : ℕ) (w : Walk) (there : IsThread code log j w) → (says code log w (walk_is code log paths.is_log paths.fits (path_thread j w there))).at_create ≡ true
      → (IsJoined code log (child w.name (length (says code log w (walk_is code log paths.is_log paths.fits (path_thread j w there))).created)) → ⊥)
      → Asked (child w.name (length (says code log w (walk_is code log paths.is_log paths.fits (path_thread j w there))).created)) (last_end kind)
  -- what holds of a thread that another waits for, and of a mutex that is waited for
  pub Stays : Name → Type 0
  pub Wanted : ℕ → Type 0
  pub stays : (j : ℕ) (w : Walk) (there : IsThread code log j w) → Stays w.name
      → is_some (instr_at code w.function (says code log w (walk_is code log paths.is_log paths.fits (path_thread j w there))).place) ≡ true
  pub waits_child : (j : ℕ) (w : Walk) (there : IsThread code log j w) (q : ℕ)
      → waits_for kind (instr_at code w.function (says code log w (walk_is code log paths.is_log paths.fits (path_thread j w there))).place)
      (says code log w (walk_is code log paths.is_log paths.fits (path_thread j w there))) q ≡ true → Stays (child w.name q)
  pub waits_mutex : (j : ℕ) (w : Walk) (there : IsThread code log j w) (waited : List Bool) (m : ℕ)
      → slice_index_or (waits kind (instr_at code w.function (says code log w (walk_is code log paths.is_log paths.fits (path_thread j w there))).place) waited) m false
      ≡ true → (slice_index_or waited m false ≡ true) ⊎ Wanted m
  pub wanted : (m : ℕ) → Wanted m → IsHeldAtEnd code log m
  pub some_ends : (t : ThreadPath) × In t log.threads × EndsIt t.name

module _ (code : Code) (log : Log) (kind : Kind) (facts : Facts code log kind) where
  open facts use {paths, Asked, Spared, EndsIt, Stays, Wanted}

  -- a name is that of an awaited thread, or one below it is created
  record IsBelow (cs : List Awaited) (n : Name) : Type 0 where
    next : Awaited
    there : In next cs
    below : List ℕ
    name : n ≡ next.name ++ below
    function : ℕ
    is : function_below code log next.name next.function below ≡ Some function

  record IsAwaited (later : List ThreadPath) (c : Awaited) : Type 0 where
    function : function_of code log c.name ≡ Some c.function
    thread : ThreadPath
    there : In thread later
    name : thread.name ≡ c.name
    asked : Asked c.name c.end
    stays : c.waited ≡ true → Stays c.name

  record HeldBefore (later : List ThreadPath) (m : ℕ) : Type 0 where
    place : ℕ
    walk : Walk
    there : IsThread code log place walk
    holds : HoldsAtEnd walk m
    before : (u : ThreadPath) → In u later → by_name walk.name u.name ≡ Less

  -- what is left when these threads are to come
  record IsLeft (cs : List Awaited) (ends : Bool) (held waited : List Bool) (later : List ThreadPath) : Type 0 where
    rises : Rise later
    in_log : (t : ThreadPath) → In t later → In t log.threads
    passed : (t : ThreadPath) → In t log.threads → In t later ⊎ ((u : ThreadPath) → In u later → by_name t.name u.name ≡ Less)
    covers : (t : ThreadPath) → In t later → IsBelow cs t.name
    order : Ordered cs
    awaited : (c : Awaited) → In c cs → IsAwaited later c
    mutexes : (m : ℕ) → slice_index_or held m false ≡ true → HeldBefore later m
    many : length held ≡ code.mutexes
    many_waited : length waited ≡ code.mutexes
    wants : (m : ℕ) → slice_index_or waited m false ≡ true → Wanted m
    holds : (m : ℕ) → m < code.mutexes → (j : ℕ) (v : Walk) → IsThread code log j v → HoldsAtEnd v m
        → (slice_index_or held m false ≡ true) ⊎ ((u : ThreadPath) × In u later × (u.name ≡ v.name))
    once : ends ≡ true → (t : ThreadPath) → In t later → Spared t.name
    fails : ends ≡ false → (t : ThreadPath) × In t later × EndsIt t.name

  module _ (t : ThreadPath) (ts : List ThreadPath) (c : Awaited) (cs : List Awaited) (ends : Bool) (held waited : List Bool)
      (left : IsLeft (c ∷ cs) ends held waited (t ∷ ts)) where
    -- the first thread to come is the first awaited
    own_name : t.name ≡ c.name
    own_name = by_thread next.there
      where
        next : IsAwaited (t ∷ ts) c
        next = left.awaited c (inl refl)

        below : IsBelow (c ∷ cs) t.name
        below = left.covers t (inl refl)

        behind : by_name t.name c.name ≡ Less → In below.next (c ∷ cs) → ⊥
        behind less (inl same) =
            none_below c.name below.below
            (ap (λ (d : Awaited). by_name (d.name ++ below.below) c.name) same ∙ ap (λ q. by_name q c.name) (sym below.name) ∙ less)
        behind less (inr i) =
            let first : by_name c.name below.next.name ≡ Less =
            ap (λ q. by_name q below.next.name) (sym (append-nil c.name)) ∙ left.order.0 below.next i [] in
            none_below below.next.name below.below
            (between (below.next.name ++ below.below) c.name below.next.name (ap (λ q. by_name q c.name) (sym below.name) ∙ less) first)

        by_thread : In next.thread (t ∷ ts) → t.name ≡ c.name
        by_thread (inl same) = ap (λ (x : ThreadPath). x.name) same ∙ next.name
        by_thread (inr i) = absurd (behind (ap (by_name t.name) (sym next.name) ∙ left.rises.0 next.thread i) below.there)

    o : IsOf code log paths.is_log paths.fits t
    o = of code log paths.is_log paths.fits t (left.in_log t (inl refl))

    abbrev w : Walk
    w = o.walk

    abbrev k : IsWalk code log w
    k = walk_is code log paths.is_log paths.fits (path_thread o.place o.walk o.there)

    next : IsAwaited (t ∷ ts) c
    next = left.awaited c (inl refl)

    name : w.name ≡ c.name
    name = name_is code log paths.is_log paths.fits t c o own_name next.function

    function : w.function ≡ c.function
    function = function_is code log paths.is_log paths.fits t c o own_name next.function

    abbrev T : Told
    T = told code c.function t.path

    same_told : says code log w k ≡ T
    same_told = told_is code log paths.is_log paths.fits t c o own_name next.function

    asked : Asked w.name c.end
    asked = subst (λ n. Asked n c.end) (sym name) next.asked

    once_here : ends ≡ true → Spared w.name
    once_here truly = subst Spared (sym o.name) (left.once truly t (inl refl))

    may : MayTake code c.function (aim_of kind ends c.end) t.path
    may =
        subst (λ f. MayTake code f (aim_of kind ends c.end) t.path) function
        (subst (MayTake code w.function (aim_of kind ends c.end)) o.path
        (facts.takes o.place w o.there c.end ends asked once_here))

    -- whether it ends the log
    ends_same : ends_log code kind (may_fail kind ends c.end) w.function (says code log w k)
        ≡ ends_log code kind (may_fail kind ends c.end) c.function T
    ends_same = ap₂ (ends_log code kind (may_fail kind ends c.end)) function same_told

    -- it holds no mutex that another holds
    apart : meet held T.held ≡ false
    apart = false_from_ne_true (meet held T.held) (λ truly. by (met held T.held truly))
      where
        by : BothHold held T.held → ⊥
        by m =
            let other = left.mutexes m.mutex m.first in
            let own = holds_so code log w k m.mutex (ap (λ (x : Told). slice_index_or x.held m.mutex false) same_told ∙ m.second) in
            let same = paths.apart other.place o.place m.mutex other.walk w other.there o.there other.holds own in
            not_itself t.name (ap (λ n. by_name n t.name) (sym (same ∙ o.name)) ∙ other.before t (inl refl))

    -- where it stands
    abbrev at : Option Instr
    at = instr_at code c.function T.place

    at_same : instr_at code w.function (says code log w k).place ≡ at
    at_same = ap₂ (λ f (x : Told). instr_at code f x.place) function same_told

    -- it hasn't exited where another waits for it
    not_free : is_free code c T ≡ false
    not_free = by c.waited refl
      where
        by : (b : Bool) → c.waited ≡ b → (b && not (is_some at)) ≡ false
        by false e = refl
        by true e =
            ap not (ap is_some (sym at_same) ∙ facts.stays o.place w o.there (subst Stays (sym name) ((left.awaited c (inl refl)).stays e)))

    goes : (meet held T.held || is_free code c T) ≡ false
    goes = ap₂ (λ x y. x || y) apart not_free

    -- its children are those of its path
    created : T.created ≡ started (steps_at code c.function (places_in code log c.name c.function))
    created = created_is code log paths.is_log paths.fits t c o own_name next.function

    abbrev children : List Awaited
    children = children_from kind c.name (instr_at code c.function T.place) T 0 T.created

    not_own : (u : ThreadPath) → In u ts → u.name ≡ c.name → ⊥
    not_own u i same = not_itself c.name (ap₂ by_name (sym own_name) (sym same) ∙ left.rises.0 u i)

    covered : (u : ThreadPath) → In u ts → IsBelow (children ++ cs) u.name
    covered u i = by below.there below.below below.name below.is
      where
        below : IsBelow (c ∷ cs) u.name
        below = left.covers u (inr i)

        by_child : (number : ℕ) (ks : List ℕ) → u.name ≡ c.name ++ number ∷ ks → (f : Option ℕ) → child_function code log c.name c.function number ≡ f
            → option_and_then (λ g. function_below code log (child c.name number) g ks) f ≡ Some below.function → IsBelow (children ++ cs) u.name
        by_child number ks name None made is = absurd (none-some below.function is)
        by_child zero ks name (Some g) made is = absurd (none-some g made)
        by_child (suc number) ks name (Some g) made is =
            let d = child_there kind c.name at T 0 T.created number g (ap (λ xs. slice_get xs number) created ∙ made) in
            let counted : 0 + number + 1 ≡ suc number = omega arith in
            let called : d.0.name ≡ child c.name (suc number) = d.2 ∙ ap (child c.name) counted in
            record {
              next = d.0;
              there = in_left d.0 children cs d.1;
              below = ks;
              name = name ∙ sym (append_assoc c.name (suc number ∷ []) ks) ∙ ap (λ q. q ++ ks) (sym called);
              function = below.function;
              is = ap₂ (λ q f. function_below code log q f ks) called d.3 ∙ is;
            }

        by_own : (ks : List ℕ) → u.name ≡ c.name ++ ks → function_below code log c.name c.function ks ≡ Some below.function
            → IsBelow (children ++ cs) u.name
        by_own [] name is = absurd (not_own u i (name ∙ append-nil c.name))
        by_own (number ∷ ks) name is = by_child number ks name (child_function code log c.name c.function number) refl is

        by : In below.next (c ∷ cs) → (ks : List ℕ) → u.name ≡ below.next.name ++ ks
            → function_below code log below.next.name below.next.function ks ≡ Some below.function → IsBelow (children ++ cs) u.name
        by (inl same) ks name is =
            by_own ks (name ∙ ap (λ (d : Awaited). d.name ++ ks) (sym same))
            (ap (λ (d : Awaited). function_below code log d.name d.function ks) same ∙ is)
        by (inr other) ks name is =
            record {
              next = below.next;
              there = in_right below.next children cs other;
              below = ks;
              name = name;
              function = below.function;
              is = is;
            }

    -- A child.

    module _ (d : Awaited) (child_is : IsChild kind c.name at T 0 T.created d) where
      abbrev number : ℕ
      number = 0 + child_is.place + 1

      child_made : function_of code log d.name ≡ Some d.function
      child_made = made_is code log paths.is_log paths.fits t c o own_name next.function kind at d child_is

      above : by_name t.name d.name ≡ Less
      above = ap₂ by_name own_name child_is.name ∙ child_is_above c.name number

      record HasThread : Type 0 where
        thread : ThreadPath
        there : In thread ts
        named : thread.name ≡ d.name

      has_thread : HasThread
      has_thread = by (path_under d.name log.threads) refl
        where
          by_place : (p : ThreadPath) → p.name ≡ d.name → In p (t ∷ ts) ⊎ ((u : ThreadPath) → In u (t ∷ ts) → by_name p.name u.name ≡ Less) → HasThread
          by_place p called (inl (inl same)) =
              absurd (not_itself t.name (ap (by_name t.name) (ap (λ (x : ThreadPath). x.name) same ∙ called) ∙ above))
          by_place p called (inl (inr i)) = record { thread = p; there = i; named = called }
          by_place p called (inr less) =
              absurd (not_itself t.name (between t.name d.name t.name above (ap (λ n. by_name n t.name) (sym called) ∙ less t (inl refl))))

          by : (q : Option Path) → path_under d.name log.threads ≡ q → HasThread
          by None none = absurd (none-some _ (sym (paths.fits d.name) ∙ missing code log d.name d.function child_made none))
          by (Some q) under =
              let p = place_of d.name q log.threads under in
              by_place p.thread p.name (left.passed p.thread (in_place p.thread log.threads p.place p.there))

      is_joined : list_any (λ j. j == number) T.joined ≡ true → IsJoined code log d.name
      is_joined truly = by ((says_so code log w k).joined number own)
        where
          own : In number (says code log w k).joined
          own =
              let p = any_in (λ j. j == number) T.joined truly in
              subst (λ (x : Told). In number x.joined) (sym same_told)
              (subst (λ n. In n T.joined) (eqb-true p.one number p.passes) p.there)

          by : In number [] ⊎ Joins (marks_at_start code w.function) (steps_at code w.function w.places) number → IsJoined code log d.name
          by (inl i) = absurd i
          by (inr j) =
              let l = joins_there code log w k number j in
              record {
                place = o.place;
                walk = w;
                there = o.there;
                join = l.0;
                joins = contains_in l.0 w.joins l.1;
                name = child_is.name ∙ ap₂ child (sym name) (sym l.2);
              }

      not_joined : list_any (λ j. j == number) T.joined ≡ false → IsJoined code log d.name → ⊥
      not_joined none j =
          let same = same_child c.name j.walk.name number j.join.child (sym child_is.name ∙ j.name) in
          let own = walk_is code log paths.is_log paths.fits (path_thread j.place j.walk j.there) in
          let joins = same_joins code log j.walk w own k (sym (name ∙ same.0)) in
          let i : In j.join w.joins = subst (In j.join) joins (in_contains j.join j.walk.joins j.joins) in
          let does = joins_told code log w k j.join i in
          let there : In number (says code log w k).joined =
          (says_so code log w k).joins number
          (inr (subst (Joins (marks_at_start code w.function) (steps_at code w.function w.places)) (sym same.1) does)) in
          false≢true (sym none ∙ in_any (λ j. j == number) number T.joined
          (subst (λ (x : Told). In number x.joined) same_told there) (eq-eqb number number refl))

      child_asked : Asked d.name d.end
      child_asked = subst (Asked d.name) (sym child_is.end) (by_joined (list_any (λ j. j == number) T.joined) refl)
        where
          last_child : T.at_create ≡ true → number ≡ length T.created → (IsJoined code log d.name → ⊥) → Asked d.name (last_end kind)
          last_child at is free =
              let own : length (says code log w k).created ≡ number = ap (λ (x : Told). length x.created) same_told ∙ sym is in
              let called : child w.name (length (says code log w k).created) ≡ d.name = ap₂ child name own ∙ sym child_is.name in
              subst (λ n. Asked n (last_end kind)) called
              (facts.last o.place w o.there (ap (λ (x : Told). x.at_create) same_told ∙ at) (λ j. free (subst (IsJoined code log) called j)))

          by_last : (b : Bool) → (T.at_create && number == length T.created) ≡ b → (IsJoined code log d.name → ⊥)
              → Asked d.name (cond b (last_end kind) (open_end kind))
          by_last true e free =
              let both = and_parts T.at_create (number == length T.created) e in
              last_child both.0 (eqb-true number (length T.created) both.1) free
          by_last false e free = facts.free d.name free

          by_joined : (b : Bool) → list_any (λ j. j == number) T.joined ≡ b
              → Asked d.name (cond b end.Exit (cond (T.at_create && number == length T.created) (last_end kind) (open_end kind)))
          by_joined true e = facts.joined d.name (is_joined e)
          by_joined false e = by_last (T.at_create && number == length T.created) refl (not_joined e)

      child_stays : d.waited ≡ true → Stays d.name
      child_stays truly =
          let does : waits_for kind at T number ≡ true = sym child_is.waited ∙ truly in
          subst Stays (ap (λ n. child n number) name ∙ sym child_is.name)
          (facts.waits_child o.place w o.there number (ap₂ (λ i x. waits_for kind i x number) at_same same_told ∙ does))

      child_awaited : IsAwaited ts d
      child_awaited = record {
        function = child_made;
        thread = has_thread.thread;
        there = has_thread.there;
        name = has_thread.named;
        asked = child_asked;
        stays = child_stays;
      }

    other_awaited : (d : Awaited) → In d cs → IsAwaited ts d
    other_awaited d i =
        record { function = old.function; thread = old.thread; there = by old.there; name = old.name; asked = old.asked; stays = old.stays }
      where
        old : IsAwaited (t ∷ ts) d
        old = left.awaited d (inr i)

        by : In old.thread (t ∷ ts) → In old.thread ts
        by (inl same) =
            absurd (not_itself c.name
            (ap₂ by_name (sym (append-nil c.name)) (sym own_name ∙ ap (λ (x : ThreadPath). x.name) same ∙ old.name) ∙ left.order.0 d i []))
        by (inr j) = j

    later_mutexes : (m : ℕ) → slice_index_or (either held T.held) m false ≡ true → HeldBefore ts m
    later_mutexes m e = by (one_holds held T.held m e)
      where
        by : (slice_index_or held m false ≡ true) ⊎ (slice_index_or T.held m false ≡ true) → HeldBefore ts m
        by (inl old) =
            let h = left.mutexes m old in
            record { place = h.place; walk = h.walk; there = h.there; holds = h.holds; before = λ u i. h.before u (inr i) }
        by (inr new) =
            record {
              place = o.place;
              walk = w;
              there = o.there;
              holds = holds_so code log w k m (ap (λ (x : Told). slice_index_or x.held m false) same_told ∙ new);
              before = λ u i. ap (λ n. by_name n u.name) o.name ∙ left.rises.0 u i;
            }

    told_many : length T.held ≡ code.mutexes
    told_many = ap (λ (x : Told). length x.held) (sym same_told) ∙ held_many code log w k

    later_wants : (m : ℕ) → slice_index_or (waits kind at waited) m false ≡ true → Wanted m
    later_wants m e =
        elim (facts.waits_mutex o.place w o.there waited m (ap (λ i. slice_index_or (waits kind i waited) m false) at_same ∙ e)) [
          | inl old ↦ left.wants m old
          | inr new ↦ new
        ]

    later_holds : (m : ℕ) → m < code.mutexes → (j : ℕ) (v : Walk) → IsThread code log j v → HoldsAtEnd v m
        → (slice_index_or (either held T.held) m false ≡ true) ⊎ ((u : ThreadPath) × In u ts × (u.name ≡ v.name))
    later_holds m few j v there h = by (left.holds m few j v there h)
      where
        own : IsWalk code log v
        own = walk_is code log paths.is_log paths.fits (path_thread j v there)

        new : t.name ≡ v.name → slice_index_or T.held m false ≡ true
        new same =
            let called : v.name ≡ w.name = sym same ∙ sym o.name in
            let places = same_places code log v w own k called in
            let path : own.path ≡ k.path =
            same_Some own.path k.path (sym own.under ∙ ap (λ n. path_under n log.threads) called ∙ k.under) in
            ap (λ (x : Told). slice_index_or x.held m false) (sym same_told ∙ sym (ap₂ (told code) places.0 path)) ∙ holds_back code log v own m few h

        by : (slice_index_or held m false ≡ true) ⊎ ((u : ThreadPath) × In u (t ∷ ts) × (u.name ≡ v.name))
            → (slice_index_or (either held T.held) m false ≡ true) ⊎ ((u : ThreadPath) × In u ts × (u.name ≡ v.name))
        by (inl old) = inl (first_holds held T.held m (left.many ∙ sym told_many) old)
        by (inr (u, inl same, called)) =
            inl (second_holds held T.held m (left.many ∙ sym told_many) (new (ap (λ (x : ThreadPath). x.name) same ∙ called)))
        by (inr (u, inr i, called)) = inr (u, i, called)

    abbrev ends_now : Bool
    ends_now = ends || ends_log code kind (may_fail kind ends c.end) c.function T

    later_once : ends_now ≡ true → (u : ThreadPath) → In u ts → Spared u.name
    later_once e u i = by ends refl e
      where
        by : (x : Bool) → ends ≡ x → (x || ends_log code kind (may_fail kind ends c.end) c.function T) ≡ true → Spared u.name
        by true truly e = left.once truly u (inr i)
        by false none e =
            facts.spares o.place w o.there c.end ends asked once_here (ends_same ∙ e) u.name
            (ap (λ n. by_name n u.name) o.name ∙ left.rises.0 u i)

    later_fails : ends_now ≡ false → (u : ThreadPath) × In u ts × EndsIt u.name
    later_fails e = by ends refl e
      where
        by_thread : (u : ThreadPath) → In u (t ∷ ts) → EndsIt u.name → (EndsIt t.name → ⊥) → (u : ThreadPath) × In u ts × EndsIt u.name
        by_thread u (inl same) does none = absurd (none (subst EndsIt (ap (λ (x : ThreadPath). x.name) (sym same)) does))
        by_thread u (inr i) does none = (u, i, does)

        by : (x : Bool) → ends ≡ x → (x || ends_log code kind (may_fail kind ends c.end) c.function T) ≡ false
            → (u : ThreadPath) × In u ts × EndsIt u.name
        by true truly e = absurd (false≢true (sym e))
        by false none e =
            let f = left.fails none in
            by_thread f.0 f.1 f.2
            (λ does. facts.ends_it o.place w o.there c.end ends asked once_here (ends_same ∙ e) (subst EndsIt (sym o.name) does))

    later_passed : (p : ThreadPath) → In p log.threads → In p ts ⊎ ((u : ThreadPath) → In u ts → by_name p.name u.name ≡ Less)
    later_passed p i = by (left.passed p i)
      where
        by : In p (t ∷ ts) ⊎ ((u : ThreadPath) → In u (t ∷ ts) → by_name p.name u.name ≡ Less)
            → In p ts ⊎ ((u : ThreadPath) → In u ts → by_name p.name u.name ≡ Less)
        by (inl (inl same)) = inr (λ u j. ap (λ (x : ThreadPath). by_name x.name u.name) (sym same) ∙ left.rises.0 u j)
        by (inl (inr j)) = inl j
        by (inr less) = inr (λ u j. less u (inr j))

    left_later : IsLeft (children ++ cs) ends_now (either held T.held) (waits kind at waited) ts
    left_later = record {
      rises = left.rises.1;
      in_log = λ u i. left.in_log u (inr i);
      passed = later_passed;
      covers = covered;
      order = ordered kind c.name at T 0 T.created cs left.order.0 left.order.1;
      awaited = λ d i.
          elim (in_append d children cs i) [
            | inl own ↦ child_awaited d (child_in kind c.name at T 0 T.created d own)
            | inr other ↦ other_awaited d other
          ];
      mutexes = later_mutexes;
      many = either_long held T.held (left.many ∙ sym told_many) ∙ left.many;
      many_waited = waits_long kind at waited ∙ left.many_waited;
      wants = later_wants;
      holds = later_holds;
      once = later_once;
      fails = later_fails;
    }

  abbrev rest_of : List Awaited → Bool → List Bool → List Bool → Rest
  rest_of cs ends held waited = record { awaited = cs; ends = ends; held = held; waited = waited }

  none_awaited : (cs : List Awaited) → ((c : Awaited) → In c cs → IsAwaited [] c) → cs ≡ []
  none_awaited [] awaited = refl
  none_awaited (c ∷ cs) awaited = absurd ((awaited c (inl refl)).there)

  -- each mutex that is waited for is held
  none_lacks : (cs : List Awaited) (ends : Bool) (held waited : List Bool) → IsLeft cs ends held waited [] → lacks waited held ≡ false
  none_lacks cs ends held waited left = false_from_ne_true (lacks waited held) (λ truly. by (lacking waited held truly))
    where
      by : OneLacks waited held → ⊥
      by m =
          let h = facts.wanted m.mutex (left.wants m.mutex m.first) in
          let few : m.mutex < code.mutexes = omega (arith, held_within waited m.mutex m.first, left.many_waited) in
          elim (left.holds m.mutex few h.place h.walk h.there h.holds) [
            | inl held_there ↦ false≢true (sym m.second ∙ held_there)
            | inr later ↦ later.1
          ]

  make_up : (later : List ThreadPath) (cs : List Awaited) (ends : Bool) (held waited : List Bool) → IsLeft cs ends held waited later
      → MakeUp code kind (rest_of cs ends held waited) later
  make_up [] cs ends held waited left = (
    none_awaited cs left.awaited,
    ap₂ (λ x y. x && not y) (true_from_ne_false ends (λ none. (left.fails none).1)) (none_lacks cs ends held waited left),
  )
  make_up (t ∷ ts) [] ends held waited left = absurd ((left.covers t (inl refl)).there)
  make_up (t ∷ ts) (c ∷ cs) ends held waited left =
      let T = told code c.function t.path in
      let rest = rest_of (c ∷ cs) ends held waited in (
        rest_by code kind rest c cs T,
        record {
          next = c;
          is_next = refl;
          name = own_name t ts c cs ends held waited left;
          may = may t ts c cs ends held waited left;
          leaves = ap (λ b. cond b None (Some (rest_by code kind rest c cs T))) (goes t ts c cs ends held waited left);
        },
        make_up ts (children_from kind c.name (instr_at code c.function T.place) T 0 T.created ++ cs)
            (ends || ends_log code kind (may_fail kind ends c.end) c.function T) (either held T.held)
            (waits kind (instr_at code c.function T.place) waited)
            (left_later t ts c cs ends held waited left),
      )

  -- At first main is awaited.

  abbrev first : Awaited
  first = record { name = main; function = length code.functions - 1; end = open_end kind; waited = false }

  main_thread : (t : ThreadPath) × In t log.threads × (t.name ≡ main)
  main_thread = by (path_under main log.threads) refl
    where
      by : (q : Option Path) → path_under main log.threads ≡ q → (t : ThreadPath) × In t log.threads × (t.name ≡ main)
      by None none = absurd (none-some _ (sym (paths.fits main) ∙ missing code log main (length code.functions - 1) refl none))
      by (Some q) under =
          let p = place_of main q log.threads under in
          (p.thread, in_place p.thread log.threads p.place p.there, p.name)

  main_awaited : IsAwaited log.threads first
  main_awaited =
      let t = main_thread in
      record {
        function = refl;
        thread = t.0;
        there = t.1;
        name = t.2;
        asked = facts.free main (λ j. child_not_nil j.walk.name j.join.child j.name);
        stays = λ truly. absurd (false≢true truly);
      }

  still_there : (m : ℕ) (j : ℕ) (v : Walk) → IsThread code log j v → (u : ThreadPath) × In u log.threads × (u.name ≡ v.name)
  still_there m j v there =
      let own = walk_is code log paths.is_log paths.fits (path_thread j v there) in
      let p = place_of v.name own.path log.threads own.under in
      (p.thread, in_place p.thread log.threads p.place p.there, p.name)

  start : IsLeft (first ∷ []) false (replicate code.mutexes false) (replicate code.mutexes false) log.threads
  start = record {
    rises = rise None log.threads (and_parts (rises_from None log.threads) _ paths.is_log).0;
    in_log = λ t i. i;
    passed = λ t i. inl i;
    covers = λ t i.
        let at = in_get t log.threads i in
        let f = fitting code log t.name t.path (own_under log paths.is_log at.0 t at.1) (paths.fits t.name) in
        record { next = first; there = inl refl; below = t.name; name = refl; function = f.0; is = f.1 };
    order = (λ d i. absurd i, tt);
    awaited = λ c i. elim i [ inl same ↦ subst (IsAwaited log.threads) same main_awaited | inr none ↦ absurd none ];
    mutexes = λ m e. absurd (false≢true (sym (index_or-replicate code.mutexes m false) ∙ e));
    many = length-replicate code.mutexes false;
    many_waited = length-replicate code.mutexes false;
    wants = λ m e. absurd (false≢true (sym (index_or-replicate code.mutexes m false) ∙ e));
    holds = λ m few j v there h. inr (still_there m j v there);
    once = λ truly. absurd (false≢true truly);
    fails = λ none. facts.some_ends;
  }

  -- the threads make up a log
  pub threads_make_up : MakeUp code kind (all code kind) log.threads
  threads_make_up = make_up log.threads (first ∷ []) false (replicate code.mutexes false) (replicate code.mutexes false) start
