-- If no log can be reproduced, no run ends as asked.
use Rattle.std.proofs.Common.{◌≡◌, ◌∙◌, ℕ, ◌≤◌, Bool, true, false, cond, ◌||◌, List, length, Option, Some, None, IsSome, [], ◌∷◌, inl, inr, refl, ap, sym, subst, map, arith, get_or}
use Rattle.std.specs.Prelude.{◌⊎◌, IfSome, is_some, nat_lt}
use Rattle.std.specs.Ordering.{eq_by_cmp, is_eq, nat_cmp}
use Rattle.std.specs.declared.cmp.Ordering.{Ordering}
use Rattle.std.specs.declared.cmp.Ordering.TheVariants.{Less, Equal, Greater}
use Rattle.std.specs.Cmp.Lexicographic.{slice_cmp}
use Rattle.std.specs.FinMap as fin
use Rattle.std.specs.FinMap.{nat_cmp-IsAntisymmetric, slice_cmp-IsAntisymmetric}
use Rattle.std.specs.FinMap.Entries.{is_some-find}
use Rattle.std.specs.List.{All, list_any}
use Rattle.std.specs.Option.{option_map_or}
use Rattle.std.proofs.lemmas.Bool.{false≢true, false_from_ne_true, or_parts, leb-true, le-leb, ltb-true, ltb-false}
use Rattle.std.proofs.lemmas.List.Elements.{All-weaker}
use Rattle.std.proofs.lemmas.List.Folds.{list_any_none}
use Rattle.std.proofs.lemmas.Option.{slice_get-get_or}
use Rattle.memory_models.specs.declared.model.Model.{Model}
use Rattle.tc_base.specs.Names.{Name}
use Rattle.tc_base.specs.Paths.{Path, ThreadPath, path_under}
use Rattle.tc_base.specs.States.{State, Thread}
use Rattle.tc_base.specs.declared.failing.Failing.TheVariants as failing
use Rattle.tc_code.specs.Code.{Code}
use Rattle.tc_code.specs.Run.{IsStuck}
use Rattle.tc_code.specs.tc_limits.declared.limits.TheConstants.{THREADS}
use Rattle.walked_logs.specs.run_follows.Machine.{Machine}
use Rattle.walked_logs.proofs.path_laws.Prefixes.{own_under}
use Rattle.log_walk.specs.thread_paths.pure_turns.Live.{Liveness, IsClosed}
use Rattle.log_walk.specs.Given.{IsLeftOut, has_many_outcomes}
use Rattle.log_walk.specs.Given.IsLeftOut.{Outcomes, Steps, Depth, Threads}
use Rattle.log_walk.specs.Rest.{all, MakeUp}
use Rattle.log_walk.specs.declared.bounds.Kind.{Kind}
use Rattle.log_walk.specs.declared.bounds.Kind.TheVariants.{Failure, Deadlock}
use Rattle.log_walk.specs.declared.bounds.LeftOut.{LeftOut}
use Rattle.walked_logs.specs.normal_logs.Within.{Allowed, at_most, ComesTo}
use Rattle.lean_logs.specs.Lean.{any_outcomes}
use Rattle.lean_logs.proofs.Runs.{fails_whole, fails_within, stuck_whole, stuck_within}
use Rattle.find_failures.specs.Found.{IsFound, IsSearched, IsUnknown}
use Rattle.find_failures.specs.Runs.{AreExcluded, EndsIn, HasMany, NoneEnds, NoneEndsWithin, NoneWithin}
use Rattle.find_failures.specs.declared.asked.Asked.{Asked}
use Rattle.find_failures.specs.declared.found.Found.{Found}
use Rattle.find_failures.specs.declared.found.Found.TheVariants as found
use Rattle.find_failures.specs.declared.found.Unknown.{Unknown}
use Rattle.find_failures.specs.declared.found.Reach.TheVariants.{Every, Bounded}
use Rattle.find_failures.specs.declared.gone.Gone.{Gone}
use Rattle.find_failures.specs.declared.round.Ended.{Ended}
use Rattle.find_failures.specs.declared.round.Ended.TheVariants.{Possible, TooMany, Done}
use Rattle.find_failures.specs.LeftOut.{is_over}
use Rattle.find_failures.specs.helpers.Gone.{AreGone, AreDone, IsEnded, after_all, found_of, searched}
use Rattle.find_failures.proofs.Below.{one_is_in}
use Rattle.find_failures.proofs.Tried.{stuck_log}

-- each thread has at most `most` outcomes
abbrev pub AreFew : ℕ → List ThreadPath → Type 0
AreFew most ts = All (λ t. length t.path.outcomes ≤ most) ts

module _ {B : Type 0} (m : Machine B) (live : Liveness) (kind : Kind) where
  -- such threads are excluded
  abbrev pub AreNone : (List ThreadPath → Type 0) → Type 0
  AreNone which =
      (ts : List ThreadPath) → MakeUp m.code kind (all m.code kind) ts → which ts → AreExcluded m.ops m.model m.code live kind ts

-- the threads' outcomes are allowed
abbrev pub AreAllowed : Allowed → List ThreadPath → Type 0
AreAllowed allowed ts = (n : Name) (p : Path) → path_under n ts ≡ Some p → allowed n p.outcomes ≡ true

module _ {B : Type 0} (m : Machine B) (live : Liveness) (closed : IsClosed m.code live) where
  comes_failed : (allowed : Allowed) → ComesTo m.ops m.code allowed (EndsIn m.ops m.code Failure) → ComesTo m.ops m.code allowed (λ s. IsSome s.failed)
  comes_failed allowed comes = record { moves = comes.moves; state = comes.state; leads = comes.leads; is = comes.is; within = comes.within }

  comes_stuck : (allowed : Allowed) → ComesTo m.ops m.code allowed (EndsIn m.ops m.code Deadlock) → ComesTo m.ops m.code allowed (IsStuck m.ops m.code)
  comes_stuck allowed comes = record { moves = comes.moves; state = comes.state; leads = comes.leads; is = comes.is; within = comes.within }

  none_whole : (kind : Kind) → AreNone m live kind (λ ts. Unit {0}) → ComesTo m.ops m.code any_outcomes (EndsIn m.ops m.code kind) → ⊥
  none_whole Failure none comes =
      fails_whole m live closed
      (λ r. none r.log.threads r.is.walked.makes_up tt r.is.needed r.log r.under refl r.is.walked.fails r.moves r.again)
      (comes_failed any_outcomes comes)
  none_whole Deadlock none comes =
      stuck_whole m live closed
      (λ r. none r.log.threads r.is.walked.makes_up tt r.is.needed r.log r.under refl r.is.walked.ends r.moves r.again)
      (comes_stuck any_outcomes comes)

  none_few : (kind : Kind) (most : ℕ) → AreNone m live kind (AreAllowed (at_most most)) → ComesTo m.ops m.code (at_most most) (EndsIn m.ops m.code kind) → ⊥
  none_few Failure most none comes =
      fails_within m live most closed
      (λ r. none r.log.threads r.is.walked.makes_up r.within r.is.needed r.log r.under refl r.is.walked.fails r.moves r.again)
      (comes_failed (at_most most) comes)
  none_few Deadlock most none comes =
      stuck_within m live most closed
      (λ r. none r.log.threads r.is.walked.makes_up r.within r.is.needed r.log r.under refl r.is.walked.ends r.moves r.again)
      (comes_stuck (at_most most) comes)

-- Threads with many outcomes in a state.

same_name : (q n : Name) → eq_by_cmp (slice_cmp nat_cmp) q n ≡ true → q ≡ n
same_name q n e = slice_cmp-IsAntisymmetric nat_cmp-IsAntisymmetric q n (by (slice_cmp nat_cmp q n) refl e)
  where
    by : (o : Ordering) → slice_cmp nat_cmp q n ≡ o → is_eq o ≡ true → slice_cmp nat_cmp q n ≡ Equal
    by Less is e = absurd (false≢true e)
    by Equal is e = is
    by Greater is e = absurd (false≢true e)

module _ {B : Type 0} (most : ℕ) (s : State B) where
  -- each thread has few outcomes
  abbrev AreFewIn : Type 0
  AreFewIn = (n : Name) (t : Thread B) → fin.get s.threads n ≡ Some t → at_most most n t.local.outcomes ≡ true

  abbrev has_many : Option (Thread B) → Bool
  has_many o = option_map_or (λ t. nat_lt most (length t.local.outcomes)) o false

  many_at : (n : Name) (o : Option (Thread B)) → fin.get s.threads n ≡ o → has_many o ≡ true → HasMany most s
  many_at n (Some t) there e = record { name = n; thread = t; there = there; many = ltb-true most (length t.local.outcomes) e }
  many_at n None there e = absurd (false≢true e)

  -- no thread of one of these names has many
  abbrev NoneOf : List Name → Type 0
  NoneOf ns = (q : Name) → list_any (eq_by_cmp (slice_cmp nat_cmp) q) ns ≡ true → has_many (fin.get s.threads q) ≡ false

  none_of_more : (n : Name) (ns : List Name) → has_many (fin.get s.threads n) ≡ false → NoneOf ns → NoneOf (n ∷ ns)
  none_of_more n ns none rest q e = at (eq_by_cmp (slice_cmp nat_cmp) q n) refl e
    where
      at : (b : Bool) → eq_by_cmp (slice_cmp nat_cmp) q n ≡ b → (b || list_any (eq_by_cmp (slice_cmp nat_cmp) q) ns) ≡ true
          → has_many (fin.get s.threads q) ≡ false
      at true same e = subst (λ k. has_many (fin.get s.threads k) ≡ false) (sym (same_name q n same)) none
      at false same e = rest q e

  by_names : (ns : List Name) → HasMany most s ⊎ NoneOf ns
  by_names [] = inr (λ q e. absurd (false≢true e))
  by_names (n ∷ ns) = by (has_many (fin.get s.threads n)) refl (by_names ns)
    where
      by : (b : Bool) → has_many (fin.get s.threads n) ≡ b → HasMany most s ⊎ NoneOf ns → HasMany most s ⊎ NoneOf (n ∷ ns)
      by true is rest = inl (many_at n (fin.get s.threads n) refl is)
      by false is (inl many) = inl many
      by false is (inr none) = inr (none_of_more n ns is none)

  many_or_few : HasMany most s ⊎ AreFewIn
  many_or_few = by (by_names (map (λ e. e.0) (fin.entries s.threads)))
    where
      few : (n : Name) (t : Thread B) → fin.get s.threads n ≡ Some t → has_many (fin.get s.threads n) ≡ false
          → at_most most n t.local.outcomes ≡ true
      few n t there none =
          let le = ltb-false most (length t.local.outcomes) (sym (ap has_many there) ∙ none) in
          le-leb (length t.local.outcomes) most le

      by : HasMany most s ⊎ NoneOf (map (λ e. e.0) (fin.entries s.threads)) → HasMany most s ⊎ AreFewIn
      by (inl many) = inl many
      by (inr none) =
          inr (λ n t there. few n t there (none n
          (sym (is_some-find (slice_cmp nat_cmp) n (fin.entries s.threads)) ∙ sym (ap is_some (fin.get-entries s.threads n)) ∙ ap is_some there)))

-- threads that make up a log have few outcomes if those under their names do
few_of : (code : Code) (kind : Kind) (model : Model) (most : ℕ) (ts : List ThreadPath) → MakeUp code kind (all code kind) ts
    → AreAllowed (at_most most) ts → AreFew most ts
few_of code kind model most ts made allowed k d less =
    let t : ThreadPath = get_or ts k d in
    leb-true (length t.path.outcomes) most
    (allowed t.name t.path
    (own_under (record { model = model; failing = failing.Deadlock; threads = ts }) (stuck_log model code kind ts made) k t
    (slice_get-get_or ts k d less)))

module _ {B : Type 0} (m : Machine B) (live : Liveness) (closed : IsClosed m.code live) (kind : Kind) where
  -- no run ends so, however long
  none_ends : AreNone m live kind (λ ts. Unit {0}) → NoneEnds m.ops m.code kind
  none_ends none moves s leads ends =
      none_whole m live closed kind none
      (record { moves = moves; state = s; leads = leads; is = ends; within = λ n t there. refl })

  -- no run with few outcomes ends so: each run that does has a thread with more
  none_within : (most : ℕ) → AreNone m live kind (AreFew most) → NoneEndsWithin m.ops m.code kind most
  none_within most none moves s leads ends = by (many_or_few most s)
    where
      by : HasMany most s ⊎ AreFewIn most s → HasMany most s
      by (inl many) = many
      by (inr few) =
          absurd (none_few m live closed kind most
          (λ ts made within. none ts made (few_of m.code kind m.model most ts made within))
          (record { moves = moves; state = s; leads = leads; is = ends; within = few }))

  -- each log is excluded, or was left out
  abbrev pub IsDone : ℕ → LeftOut → Type 0
  IsDone most out =
      (ts : List ThreadPath) → MakeUp m.code kind (all m.code kind) ts
      → AreExcluded m.ops m.model m.code live kind ts ⊎ IsLeftOut most THREADS out ts

  module _ (most : ℕ) (out : LeftOut) (done : IsDone most out) (within : is_over out ≡ false) where
    -- no limit left a log out
    by_outcomes : (ts : List ThreadPath) → IsLeftOut most THREADS out ts
        → (out.outcomes ≡ true) × (list_any (has_many_outcomes most) ts ≡ true)
    by_outcomes ts (Outcomes told is) = (told, is)
    by_outcomes ts (Steps told is) =
        absurd (false≢true (sym (or_parts out.steps out.depth (or_parts (out.steps || out.depth) out.threads within).0).0 ∙ told))
    by_outcomes ts (Depth told is) =
        absurd (false≢true (sym (or_parts out.steps out.depth (or_parts (out.steps || out.depth) out.threads within).0).1 ∙ told))
    by_outcomes ts (Threads told is) = absurd (false≢true (sym (or_parts (out.steps || out.depth) out.threads within).1 ∙ told))

    every : out.outcomes ≡ false → AreNone m live kind (λ ts. Unit {0})
    every none ts made any = by (done ts made)
      where
        by : AreExcluded m.ops m.model m.code live kind ts ⊎ IsLeftOut most THREADS out ts → AreExcluded m.ops m.model m.code live kind ts
        by (inl excluded) = excluded
        by (inr left) = absurd (false≢true (sym none ∙ (by_outcomes ts left).0))

    bounded : AreNone m live kind (AreFew most)
    bounded ts made few = by (done ts made)
      where
        isnt : (t : ThreadPath) → length t.path.outcomes ≤ most → has_many_outcomes most t ≡ false
        isnt t le =
            false_from_ne_true (has_many_outcomes most t) (λ e. let less = ltb-true most (length t.path.outcomes) e in omega (arith, less, le))

        by : AreExcluded m.ops m.model m.code live kind ts ⊎ IsLeftOut most THREADS out ts → AreExcluded m.ops m.model m.code live kind ts
        by (inl excluded) = excluded
        by (inr left) =
            absurd (false≢true (sym (list_any_none (has_many_outcomes most) ts
            (All-weaker (λ t. length t.path.outcomes ≤ most) (λ t. has_many_outcomes most t ≡ false) isnt ts few))
            ∙ (by_outcomes ts left).1))

    -- no run ends so if no log was left out for its number of outcomes
    pub none_if_whole : out.outcomes ≡ false → NoneEnds m.ops m.code kind
    none_if_whole none = none_ends (every none)

    -- each run that ends so has a thread with more outcomes
    pub none_in_bounds : NoneEndsWithin m.ops m.code kind most
    none_in_bounds = none_within most bounded

module _ {B : Type 0} (m : Machine B) (live : Liveness) (is_closed : IsClosed m.code live) (asked : Asked) (gone : Gone) where
  abbrev AllDone : LeftOut → Type 0
  AllDone out = AreDone m.ops m.model m.code live asked.kind asked.outcomes gone out

  abbrev IsRight : Found → Type 0
  IsRight f = IsFound m.ops m.bound m.code m.model asked f

  -- no log within the limits is possible
  over_within : (out : LeftOut) → AllDone out → gone.unknown ≡ None → NoneWithin m.ops m.model m.code asked.kind asked.outcomes
  over_within out done closed ts one needed = by (done closed ts one.makes_up) (needed live is_closed)
    where
      by : AreExcluded m.ops m.model m.code live asked.kind ts ⊎ IsLeftOut asked.outcomes THREADS out ts
          → AreExcluded m.ops m.model m.code live asked.kind ts
      by (inl excluded) = excluded
      by (inr left) = absurd (one_is_in m.code (record { kind = asked.kind; most = asked.outcomes }) out ts one left)

  -- the result after all logs is right
  after_is_found : (out : LeftOut) → AreGone m.ops m.model m.bound m.code asked gone → AllDone out → IsRight (after_all gone.unknown out)
  after_is_found out are done = by gone.unknown refl
    where
      by_cut : (b : Bool) → out.outcomes ≡ b → gone.unknown ≡ None → is_over out ≡ false
          → IsRight (cond b (found.Never Bounded) (found.Never Every))
      by_cut true cut closed within = none_in_bounds m live is_closed asked.kind asked.outcomes out (done closed) within
      by_cut false cut closed within = none_if_whole m live is_closed asked.kind asked.outcomes out (done closed) within cut

      by_over : (b : Bool) → is_over out ≡ b → gone.unknown ≡ None
          → IsRight (cond b (found.LeftOut out) (cond out.outcomes (found.Never Bounded) (found.Never Every)))
      by_over true over closed = (over, over_within out done closed)
      by_over false over closed = by_cut out.outcomes refl closed over

      by : (o : Option Unknown) → gone.unknown ≡ o
          → IsRight (option_map_or (λ u. found.Unknown u) o
          (cond (is_over out) (found.LeftOut out) (cond out.outcomes (found.Never Bounded) (found.Never Every))))
      by (Some o) e = subst (λ q. IfSome q (IsUnknown m.ops m.bound m.code m.model asked)) e are.unknown
      by None e = by_over (is_over out) refl e

  result_is_found : (ended : Ended) → IsEnded m.ops m.model m.bound m.code live asked asked.outcomes gone ended → IsRight (found_of gone.unknown ended)
  result_is_found (Possible log) is = is.1
  result_is_found TooMany is = is.1
  result_is_found (Done out) is = after_is_found out is.0 is.1

  -- the result of going through logs is right
  pub searched_right : (ended : Ended) → IsEnded m.ops m.model m.bound m.code live asked asked.outcomes gone ended
      → IsSearched m.ops m.bound m.code m.model asked (searched gone ended)
  searched_right ended is = record { found = result_is_found ended is; refuted = is.0.refuted }
