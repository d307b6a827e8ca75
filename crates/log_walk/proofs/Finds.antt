-- The result of a search, by the results of the searches below it.
use Rattle.std.proofs.Common.{◌≡◌, ◌∙◌, ℕ, ◌+◌, ◌<◌, ◌≤◌, inl, inr, Bool, true, false, not, ◌&&◌, ◌||◌, List, [], ◌∷◌, ◌++◌, length}
use Rattle.std.proofs.Common.{Option, Some, None, refl, ap, sym, subst, arith, append_assoc, append-nil, is_none, unwrap_or}
use Rattle.std.specs.Prelude.{◌⊎◌, slice_get, IfSome, IfOk, Result, Ok, Err}
use Rattle.std.specs.List.{list_any}
use Rattle.std.proofs.lemmas.Bool.{lt-ltb, and_parts}
use Rattle.std.proofs.lemmas.List.Elements.{All-nil, All-cons, All-head, All-tail}
use Rattle.tc_base.specs.Paths.{Path, ThreadPath}
use Rattle.tc_limits.specs.declared.limits.TheConstants.{DEPTH, STEPS}
use Rattle.tc_code.specs.Code.{Code}
use Rattle.thread_paths.specs.Ends.{MayTake}
use Rattle.thread_paths.specs.Order.{comes_from}
use Rattle.thread_paths.specs.Search.{Found, IsFirst}
use Rattle.thread_paths.specs.Search as path
use Rattle.thread_paths.specs.Needless.{IsNeedless}
use Rattle.thread_paths.specs.pure_turns.Live.{Liveness}
use Rattle.thread_paths.specs.declared.aim.Scope.{Scope}
use Rattle.thread_paths.specs.declared.found.Cut.{Cut}
use Rattle.log_walk.specs.Order.{are_from, are_to_come}
use Rattle.log_walk.specs.Rest.{Rest, MakeUp, Takes, leave, aim_of, is_whole}
use Rattle.log_walk.specs.Given.{IsLeftOut, IsWithin, has_many_outcomes, has_many_steps, is_deep}
use Rattle.log_walk.specs.Given.IsLeftOut.{Outcomes, Steps, Depth, Threads}
use Rattle.log_walk.specs.Needless.SomeNeedless.{Here, Later}
use Rattle.log_walk.specs.declared.bounds.Bounds.{Bounds}
use Rattle.log_walk.specs.declared.bounds.LeftOut.{LeftOut}
use Rattle.log_walk.specs.declared.rest.Awaited.{Awaited}
use Rattle.log_walk.specs.helpers.Searches.{Wanted, IsKept, with_cut, scope_of, IsOpen, CanFollow, IsTaken, first_of, others_of, begin_from, behind, AreExcused, AreFirst, AreNone, IsEnd}
use Rattle.log_walk.proofs.Orders.{after, from_itself, from_all, from_from, from_after, same_path, not_before, later_first, later_last, by_others, rank, rank_below, rank_later, left_of}

-- Truth values.

or_first : (a b : Bool) → a ≡ true → (a || b) ≡ true
or_first true b is = refl
or_first false b is = absurd cc

or_last : (a b : Bool) → b ≡ true → (a || b) ≡ true
or_last true b is = refl
or_last false b is = is

not_false : (a : Bool) → a ≡ false → not a ≡ true
not_false true is = absurd cc
not_false false is = refl

not_parts : (a : Bool) → not a ≡ true → a ≡ false
not_parts true is = absurd cc
not_parts false is = refl

both : (a b : Bool) → a ≡ true → b ≡ true → (a && b) ≡ true
both true b one two = two
both false b one two = absurd cc

inj : {A : Type 0} → (a b : A) → Some a ≡ Some b → a ≡ b
inj a b is = ap (λ o. unwrap_or o a) is

-- Paths that are left out.

-- what was left out stays left out
pub kept_out : (most room : ℕ) (a b : LeftOut) (ts : List ThreadPath) → IsKept a b → IsLeftOut most room a ts → IsLeftOut most room b ts
kept_out most room a b ts kept (Outcomes told is) = Outcomes (kept.outcomes told) is
kept_out most room a b ts kept (Steps told is) = Steps (kept.steps told) is
kept_out most room a b ts kept (Depth told is) = Depth (kept.depth told) is
kept_out most room a b ts kept (Threads told is) = Threads (kept.threads told) is

-- what was left out, with one more thread in front
pub more_out : (most room room' : ℕ) (out : LeftOut) (t : ThreadPath) (ts : List ThreadPath) → room' ≤ room + 1
    → IsLeftOut most room out ts → IsLeftOut most room' out (t ∷ ts)
more_out most room room' out t ts le (Outcomes told is) = Outcomes told (or_last (has_many_outcomes most t) (list_any (has_many_outcomes most) ts) is)
more_out most room room' out t ts le (Steps told is) = Steps told (or_last (has_many_steps t) (list_any has_many_steps ts) is)
more_out most room room' out t ts le (Depth told is) = Depth told (or_last (is_deep t) (list_any is_deep ts) is)
more_out most room room' out t ts le (Threads told is) = Threads told (omega (arith, is, le))

-- what was left out, with a path that was left out
pub path_out : (most room : ℕ) (out : LeftOut) (cut : Cut) (t : ThreadPath) (ts : List ThreadPath)
    → ((most < length t.path.outcomes) × (cut.outcomes ≡ true)) ⊎ ((STEPS < t.path.steps) × (cut.steps ≡ true))
    → IsLeftOut most room (with_cut out cut) (t ∷ ts)
path_out most room out cut t ts (inl is) =
    Outcomes (or_last out.outcomes cut.outcomes is.1)
    (or_first (has_many_outcomes most t) (list_any (has_many_outcomes most) ts) (lt-ltb most (length t.path.outcomes) is.0))
path_out most room out cut t ts (inr is) =
    Steps (or_last out.steps cut.steps is.1) (or_first (has_many_steps t) (list_any has_many_steps ts) (lt-ltb STEPS t.path.steps is.0))

pub kept_cut : (out : LeftOut) (cut : Cut) → IsKept out (with_cut out cut)
kept_cut out cut = record {
  outcomes = λ is. or_first out.outcomes cut.outcomes is;
  steps = λ is. or_first out.steps cut.steps is;
  depth = λ is. is;
  threads = λ is. is;
}

pub kept_on : (a b c : LeftOut) → IsKept a b → IsKept b c → IsKept a c
kept_on a b c one two = record {
  outcomes = λ is. two.outcomes (one.outcomes is);
  steps = λ is. two.steps (one.steps is);
  depth = λ is. two.depth (one.depth is);
  threads = λ is. two.threads (one.threads is);
}

-- threads that come after others begin with the same thread or a later one
abbrev three : (a b r : Bool) → Type 0
three a b r = (a ≡ false) ⊎ ((a ≡ true) × (b ≡ true) × (r ≡ false))

three_by : (a b r : Bool) → not (a && (not b || r)) ≡ true → three a b r
three_by false b r is = inl refl
three_by true true r is = inr (refl, refl, not_parts r is)
three_by true false r is = absurd cc

-- the threads after the first of those given last
follow_by : (code : Code) (bounds : Bounds) (rest : Rest) (t : ThreadPath) (ts : List ThreadPath) (later : Rest) → MakeUp code bounds.kind rest (t ∷ ts)
    → leave code bounds.kind rest.awaited rest t.path ≡ Some later → MakeUp code bounds.kind later ts
follow_by code bounds rest t ts later made leaves =
    subst (λ (r : Rest). MakeUp code bounds.kind r ts) (inj made.0 later (sym made.1.leaves ∙ leaves)) made.2

pub follow_on : (code : Code) (bounds : Bounds) (rest : Rest) (l : Option (List ThreadPath)) (g : ThreadPath) (p : Path) → CanFollow code bounds rest l
    → Some g ≡ first_of l → p ≡ g.path → (later : Rest) → leave code bounds.kind rest.awaited rest p ≡ Some later
    → CanFollow code bounds later (others_of l)
follow_on code bounds rest None g p can is path later leaves = absurd cc
follow_on code bounds rest (Some []) g p can is path later leaves = absurd cc
follow_on code bounds rest (Some (h ∷ gs)) g p can is path later leaves = (
  follow_by code bounds rest h gs later can.0
      (ap (leave code bounds.kind rest.awaited rest) (ap (λ (t : ThreadPath). t.path) (sym (inj g h is)) ∙ sym path) ∙ leaves),
  All-tail (IsWithin bounds.most) h gs can.1,
)

-- a third clause of a call, from two others
pub ok_both : {X Y : Type 0} (r : Result X Y) (P Q R : X → Type 0) → ((x : X) → P x → Q x → R x) → IfOk r P → IfOk r Q → IfOk r R
ok_both (Ok x) P Q R all p q = all x p q
ok_both (Err e) P Q R all p q = tt

-- the position before all paths
abbrev pub no_path : Path
no_path = record { outcomes = []; steps = 0 }

-- the limits reported, across one path
pub kept_over : (old out mid out' : LeftOut) (cut : Cut) → IsKept old out → mid ≡ with_cut out cut → IsKept mid out' → IsKept old out'
kept_over old out mid out' cut one is two =
    kept_on old out out' one (kept_on out (with_cut out cut) out' (kept_cut out cut) (subst (λ (o : LeftOut). IsKept o out') is two))

module _ (code : Code) (live : Liveness) (bounds : Bounds) (rest : Rest) where
  -- if no threads were found, they are as before
  pub still : (w : Wanted) (room : ℕ) (first before now : List ThreadPath) (out : LeftOut) → before ≡ first → (v : Bool) → v ≡ false
      → IsEnd code live bounds rest w room before now out v → now ≡ first
  still w room first before now out same true is_false end = absurd cc
  still w room first before now out same false is_false end = end.same ∙ same

  -- the same from equal threads
  pub end_from : (w : Wanted) (room : ℕ) (before mid now : List ThreadPath) (out : LeftOut) (v : Bool) → mid ≡ before
      → IsEnd code live bounds rest w room mid now out v → IsEnd code live bounds rest w room before now out v
  end_from w room before mid now out v same end = subst (λ (ts : List ThreadPath). IsEnd code live bounds rest w room ts now out v) same end

  abbrev Made : List ThreadPath → Type 0
  Made us = MakeUp code bounds.kind rest us

  abbrev Excused : ℕ → LeftOut → List ThreadPath → Type 0
  Excused room out us = AreExcused code live bounds rest room out us

  -- an excuse stays one
  kept_excused : (room : ℕ) (a b : LeftOut) (us : List ThreadPath) → IsKept a b → Excused room a us → Excused room b us
  kept_excused room a b us kept (inl left) = inl (kept_out bounds.most room a b us kept left)
  kept_excused room a b us kept (inr needless) = inr needless

  -- Other threads are wanted.

  module _ (w w' : Wanted) (room : ℕ) (out : LeftOut) where
    abbrev Goes : Type 0
    Goes = (us : List ThreadPath) → Made us → w us ≡ true → w' us ≡ true

    first_too : (ts : List ThreadPath) → AreFirst code live bounds rest w room out ts → Goes
        → ((us : List ThreadPath) → Made us → w' us ≡ true → (w us ≡ true) ⊎ ((are_from ts us ≡ true) ⊎ Excused room out us))
        → AreFirst code live bounds rest w' room out ts
    first_too ts first goes back = record {
      make_up = first.make_up;
      meets = goes ts first.make_up first.meets;
      fits = first.fits;
      within = first.within;
      others = λ us made is. by us made (back us made is);
    }
      where
        by : (us : List ThreadPath) → Made us → (w us ≡ true) ⊎ ((are_from ts us ≡ true) ⊎ Excused room out us)
            → (are_from ts us ≡ true) ⊎ Excused room out us
        by us made (inl is) = first.others us made is
        by us made (inr is) = is

    none_too : AreNone code live bounds rest w room out
        → ((us : List ThreadPath) → Made us → w' us ≡ true → (w us ≡ true) ⊎ Excused room out us)
        → AreNone code live bounds rest w' room out
    none_too none back us made is = by (back us made is)
      where
        by : (w us ≡ true) ⊎ Excused room out us → Excused room out us
        by (inl wanted) = none us made wanted
        by (inr left) = left

    pub end_too : (v : Bool) (before now : List ThreadPath) → IsEnd code live bounds rest w room before now out v → Goes
        → ((us : List ThreadPath) → Made us → w' us ≡ true → (w us ≡ true) ⊎ Excused room out us)
        → IsEnd code live bounds rest w' room before now out v
    end_too true before now end goes back = record {
      added = end.added;
      is = end.is;
      first = first_too end.added end.first goes (λ us made is. wider (w us ≡ true) (are_from end.added us ≡ true) (Excused room out us) (back us made is));
    }
      where
        wider : (A B C : Type 0) → A ⊎ C → A ⊎ (B ⊎ C)
        wider A B C (inl a) = inl a
        wider A B C (inr x) = inr (inr x)
    end_too false before now end goes back = record { same = end.same; none = none_too end.none back }

  -- No thread is awaited.

  none_awaited : (cs : List Awaited) → slice_get cs 0 ≡ None → cs ≡ []
  none_awaited [] is = refl
  none_awaited (x ∷ cs) is = absurd cc

  module _ (last : Option (List ThreadPath)) (room : ℕ) (before : List ThreadPath) (out : LeftOut) (at : slice_get rest.awaited 0 ≡ None) where
    none_made : (us : List ThreadPath) → Made us → us ≡ []
    none_made [] made = refl
    none_made (u ∷ us) made = absurd (let next = made.1.is_next in cc)

    ends_made : (us : List ThreadPath) → Made us → is_whole rest ≡ true
    ends_made [] made = made.1
    ends_made (u ∷ us) made = absurd (let next = made.1.is_next in cc)

    come_none : (l : Option (List ThreadPath)) → are_to_come l [] ≡ true → is_none l ≡ true
    come_none None is = refl
    come_none (Some ls) is = absurd cc

    none_come : (l : Option (List ThreadPath)) → is_none l ≡ true → are_to_come l [] ≡ true
    none_come None is = refl
    none_come (Some ls) is = absurd cc

    by_end : (e : Bool) → e ≡ is_whole rest → (n : Bool) → n ≡ is_none last
        → IsEnd code live bounds rest (are_to_come last) room before before out (n && e)
    by_end true ends true none = record {
      added = [];
      is = sym (append-nil before);
      first = record {
        make_up = (none_awaited rest.awaited at, sym ends);
        meets = none_come last (sym none);
        fits = omega arith;
        within = All-nil (IsWithin bounds.most);
        others = λ us made is. inl refl;
      };
    }
    by_end false ends true none = record {
      same = refl;
      none = λ us made is. absurd (let does = ends_made us made in cc);
    }
    by_end e ends false none = record {
      same = refl;
      none = λ us made is. absurd (let does = come_none last (ap (are_to_come last) (sym (none_made us made)) ∙ is) in cc);
    }

    pub at_end : (e : Bool) → e ≡ is_whole rest → (n : Bool) → n ≡ is_none last
        → IsEnd code live bounds rest (are_to_come last) room before before out (n && e)
    at_end = by_end

  module _ (next : Awaited) (at : slice_get rest.awaited 0 ≡ Some next) where
    same_next : (t : ThreadPath) (later : Rest) → (takes : Takes code bounds.kind rest t later) → takes.next ≡ next
    same_next t later takes = inj takes.next next (sym takes.is_next ∙ at)

    name_is : (t : ThreadPath) (later : Rest) → Takes code bounds.kind rest t later → t.name ≡ next.name
    name_is t later takes = takes.name ∙ ap (λ (c : Awaited). c.name) (same_next t later takes)

    pub may_is : (t : ThreadPath) (later : Rest) → Takes code bounds.kind rest t later
        → MayTake code next.function (aim_of bounds.kind rest.ends next.end) t.path
    may_is t later takes =
        subst (λ (c : Awaited). MayTake code c.function (aim_of bounds.kind rest.ends c.end) t.path) (same_next t later takes) takes.may

    no_end : rest.awaited ≡ [] → ⊥
    no_end none = absurd (let is = ap (λ (cs : List Awaited). slice_get cs 0) none in cc)

    -- No thread may be added.

    module _ (room : ℕ) (out : LeftOut) where
      closed_by : (us : List ThreadPath) → Made us → ((room ≡ 0) × (out.threads ≡ true)) ⊎ ((DEPTH < length next.name) × (out.depth ≡ true))
          → Excused room out us
      closed_by [] made why = absurd (no_end made.0)
      closed_by (u ∷ us) made (inl why) = inl (Threads why.1 (omega (arith, why.0)))
      closed_by (u ∷ us) made (inr why) =
          inl (Depth why.1 (or_first (is_deep u) (list_any is_deep us)
          (lt-ltb DEPTH (length u.name) (omega (arith, why.0, ap length (name_is u made.0 made.1))))))

      pub closed : (w : Wanted) (before now : List ThreadPath) → now ≡ before → IsOpen next.name room out false
          → IsEnd code live bounds rest w room before now out false
      closed w before now same why = record { same = same; none = λ us made is. closed_by us made why }

    -- Below one path.

    module _ (p : Path) (last : Option (List ThreadPath)) (room : ℕ) where
      abbrev thread : ThreadPath
      thread = record { name = next.name; path = p }

      behind_path : (u : ThreadPath) (us : List ThreadPath) → behind p last (u ∷ us) ≡ true → u.path ≡ p
      behind_path u us is =
          let parts = and_parts (comes_from p u.path && comes_from u.path p) (are_to_come last us) is in
          let paths = and_parts (comes_from p u.path) (comes_from u.path p) parts.0 in
          same_path u.path p paths.1 paths.0

      behind_others : (u : ThreadPath) (us : List ThreadPath) → behind p last (u ∷ us) ≡ true → are_to_come last us ≡ true
      behind_others u us is = (and_parts (comes_from p u.path && comes_from u.path p) (are_to_come last us) is).1

      -- the thread may not take this path
      never_by : (us : List ThreadPath) (out : LeftOut) → leave code bounds.kind rest.awaited rest p ≡ None → Made us → behind p last us ≡ true
          → Excused room out us
      never_by [] out leaves made is = absurd cc
      never_by (u ∷ us) out leaves made is =
          absurd (let there = made.1.leaves in let path = ap (leave code bounds.kind rest.awaited rest) (behind_path u us is) in cc)

      pub never : (before : List ThreadPath) (out : LeftOut) → leave code bounds.kind rest.awaited rest p ≡ None
          → IsEnd code live bounds rest (behind p last) room before before out false
      never before out leaves = record { same = refl; none = λ us made is. never_by us out leaves made is }

      module _ (later : Rest) (leaves : leave code bounds.kind rest.awaited rest p ≡ Some later) (less : ℕ) (fits : room ≡ less + 1) (out : LeftOut) where
        same_later : (u : ThreadPath) (us : List ThreadPath) (other : Rest) → Takes code bounds.kind rest u other → behind p last (u ∷ us) ≡ true → other ≡ later
        same_later u us other takes is =
            inj other later (sym takes.leaves ∙ ap (leave code bounds.kind rest.awaited rest) (behind_path u us is) ∙ leaves)

        made_later : (u : ThreadPath) (us : List ThreadPath) → Made (u ∷ us) → behind p last (u ∷ us) ≡ true → MakeUp code bounds.kind later us
        made_later u us made is = subst (λ (r : Rest). MakeUp code bounds.kind r us) (same_later u us made.0 made.1 is) made.2

        -- an excuse of the others is one of all
        more_excused : (u : ThreadPath) (us : List ThreadPath) → behind p last (u ∷ us) ≡ true
            → AreExcused code live bounds later less out us → Excused room out (u ∷ us)
        more_excused u us is (inl left) = inl (more_out bounds.most less room out u us (omega (arith, fits)) left)
        more_excused u us is (inr some) = inr (Later (ap (leave code bounds.kind rest.awaited rest) (behind_path u us is) ∙ leaves) some)

        -- no threads are found below the path
        none_below : (us : List ThreadPath) → AreNone code live bounds later (are_to_come last) less out → Made us → behind p last us ≡ true
            → Excused room out us
        none_below [] none made is = absurd cc
        none_below (u ∷ us) none made is =
            more_excused u us is (none us (made_later u us made is) (behind_others u us is))

        pub nothing : (before now : List ThreadPath) → now ≡ before → AreNone code live bounds later (are_to_come last) less out
            → IsEnd code live bounds rest (behind p last) room before now out false
        nothing before now same none = record { same = same; none = λ us made is. none_below us none made is }

        -- threads are found below the path
        module _ (may : MayTake code next.function (aim_of bounds.kind rest.ends next.end) p) (within : IsWithin bounds.most thread)
            (ts : List ThreadPath) (first : AreFirst code live bounds later (are_to_come last) less out ts) where
          others_below : (us : List ThreadPath) → Made us → behind p last us ≡ true → (are_from (thread ∷ ts) us ≡ true) ⊎ Excused room out us
          others_below [] made is = absurd cc
          others_below (u ∷ us) made is = by (first.others us (made_later u us made is) (behind_others u us is))
            where
              by : (are_from ts us ≡ true) ⊎ AreExcused code live bounds later less out us → (are_from (thread ∷ ts) (u ∷ us) ≡ true) ⊎ Excused room out (u ∷ us)
              by (inl from) =
                  let same = behind_path u us is in
                  inl (by_others thread u ts us (ap (comes_from p) same ∙ from_itself p) (ap (λ (q : Path). comes_from q p) same ∙ from_itself p) ∙ from)
              by (inr left) = inr (more_excused u us is left)

          all_below : AreFirst code live bounds rest (behind p last) room out (thread ∷ ts)
          all_below = record {
            make_up = (later, record { next = next; is_next = at; name = refl; may = may; leaves = leaves }, first.make_up);
            meets = both (comes_from p p && comes_from p p) (are_to_come last ts) (both (comes_from p p) (comes_from p p) (from_itself p) (from_itself p)) first.meets;
            fits = omega (arith, first.fits, fits);
            within = All-cons (IsWithin bounds.most) thread ts within first.within;
            others = others_below;
          }

          pub found_below : (before now : List ThreadPath) → now ≡ (before ++ thread ∷ []) ++ ts
              → IsEnd code live bounds rest (behind p last) room before now out true
          found_below before now is = record { added = thread ∷ ts; is = is ∙ append_assoc before (thread ∷ []) ts; first = all_below }

    -- threads are found below the path or not, by the search's answer
    pub below_found : (p : Path) (last : Option (List ThreadPath)) (room less : ℕ) → room ≡ less + 1 → (later : Rest)
        → leave code bounds.kind rest.awaited rest p ≡ Some later → IsTaken code bounds rest next p
        → (out : LeftOut) (before mid now : List ThreadPath) (t : ThreadPath) → mid ≡ before ++ t ∷ [] → t ≡ record { name = next.name; path = p }
        → (v : Bool) → v ≡ true → IsEnd code live bounds later (are_to_come last) less mid now out v
        → IsEnd code live bounds rest (behind p last) room before now out true
    below_found p last room less fits later leaves taken out before mid now t pushed is false is_true end = absurd cc
    below_found p last room less fits later leaves taken out before mid now t pushed is true is_true end =
        found_below p last room later leaves less fits out taken.may taken.within end.added end.first before now
        (end.is ∙ ap (λ ts. ts ++ end.added) (pushed ∙ ap (λ x. before ++ x ∷ []) is))

    pub below_none : (p : Path) (last : Option (List ThreadPath)) (room less : ℕ) → room ≡ less + 1 → (later : Rest)
        → leave code bounds.kind rest.awaited rest p ≡ Some later
        → (out : LeftOut) (before mid now : List ThreadPath) (t : ThreadPath) → mid ≡ before ++ t ∷ []
        → (v : Bool) → v ≡ false → IsEnd code live bounds later (are_to_come last) less mid now out v
        → (off : List ThreadPath) → ((ts : List ThreadPath) (x : ThreadPath) → now ≡ ts ++ x ∷ [] → off ≡ ts) → (out' : LeftOut) → out' ≡ out
        → IsEnd code live bounds rest (behind p last) room before off out' false
    below_none p last room less fits later leaves out before mid now t pushed true is_false end off taken out' same = absurd cc
    below_none p last room less fits later leaves out before mid now t pushed false is_false end off taken out' same =
        nothing p last room later leaves less fits out' before off (taken before t (end.same ∙ pushed))
        (subst (λ (o : LeftOut). AreNone code live bounds later (are_to_come last) less o) (sym same) end.none)

    -- A thread may take the path that was given last or found.

    pub taken_last : (l : Option (List ThreadPath)) (g : ThreadPath) (p : Path) → CanFollow code bounds rest l → Some g ≡ first_of l → p ≡ g.path
        → length next.name ≤ DEPTH → IsTaken code bounds rest next p
    taken_last None g p can is path depth = absurd cc
    taken_last (Some []) g p can is path depth = absurd cc
    taken_last (Some (h ∷ gs)) g p can is path depth =
        let same : h.path ≡ p = ap (λ (t : ThreadPath). t.path) (sym (inj g h is)) ∙ sym path in
        let within = All-head (IsWithin bounds.most) h gs can.1 in
        record {
          may = subst (λ (q : Path). MayTake code next.function (aim_of bounds.kind rest.ends next.end) q) same (may_is h can.0.0 can.0.1);
          within = record {
            outcomes = subst (λ (q : Path). length q.outcomes ≤ bounds.most) same within.outcomes;
            steps = subst (λ (q : Path). q.steps ≤ STEPS) same within.steps;
            depth = depth;
          };
        }

    pub taken_found : (start : Path) (found : Found) (scope : Scope) → scope ≡ scope_of bounds rest next → IsFirst code live scope start found
        → length next.name ≤ DEPTH → IfSome found.path (IsTaken code bounds rest next)
    taken_found start found scope same first depth = by found.path first'.takes first'.few
      where
        first' : IsFirst code live (scope_of bounds rest next) start found
        first' = subst (λ (x : Scope). IsFirst code live x start found) same first

        by : (x : Option Path) → IfSome x (MayTake code next.function (aim_of bounds.kind rest.ends next.end))
            → IfSome x (λ p. (length p.outcomes ≤ bounds.most) × (p.steps ≤ STEPS)) → IfSome x (IsTaken code bounds rest next)
        by None may few = tt
        by (Some p) may few = record { may = may; within = record { outcomes = few.0; steps = few.1; depth = depth } }

    pub some_taken : (x : Option Path) (p : Path) → x ≡ Some p → IfSome x (IsTaken code bounds rest next) → IsTaken code bounds rest next p
    some_taken x p is taken = subst (λ (y : Option Path). IfSome y (IsTaken code bounds rest next)) is taken

    -- First one path, then those that come after it.

    module _ (g : ThreadPath) (gs : List ThreadPath) (room : ℕ) (out : LeftOut) where
      abbrev last : Option (List ThreadPath)
      last = Some (g ∷ gs)

      split_last : (u : ThreadPath) (us : List ThreadPath) → are_to_come last (u ∷ us) ≡ true
          → (behind g.path (Some gs) (u ∷ us) ≡ true) ⊎ (comes_from (after g.path) u.path ≡ true)
      split_last u us is = by (three_by (comes_from u.path g.path) (comes_from g.path u.path) (are_from us gs) is)
        where
          by : three (comes_from u.path g.path) (comes_from g.path u.path) (are_from us gs)
              → (behind g.path (Some gs) (u ∷ us) ≡ true) ⊎ (comes_from (after g.path) u.path ≡ true)
          by (inl later) = inr (not_before u.path.outcomes u.path.steps g.path.outcomes g.path.steps later)
          by (inr same) =
              inl (both (comes_from g.path u.path && comes_from u.path g.path) (not (are_from us gs))
              (both (comes_from g.path u.path) (comes_from u.path g.path) same.1 same.0) (not_false (are_from us gs) same.2))

      come_behind : (us : List ThreadPath) → Made us → behind g.path (Some gs) us ≡ true → are_to_come last us ≡ true
      come_behind [] made is = absurd cc
      come_behind (u ∷ us) made is =
          let parts = and_parts (comes_from g.path u.path && comes_from u.path g.path) (are_to_come (Some gs) us) is in
          let paths = and_parts (comes_from g.path u.path) (comes_from u.path g.path) parts.0 in
          ap not (by_others u g us gs paths.1 paths.0) ∙ parts.1

      come_later : (us : List ThreadPath) → Made us → begin_from (after g.path) us ≡ true → are_to_come last us ≡ true
      come_later [] made is = absurd cc
      come_later (u ∷ us) made is = ap not (later_last g u gs us is)

      -- the first threads were found below the path itself
      back_found : (ts : List ThreadPath) → behind g.path (Some gs) ts ≡ true → (us : List ThreadPath) → Made us → are_to_come last us ≡ true
          → (behind g.path (Some gs) us ≡ true) ⊎ ((are_from ts us ≡ true) ⊎ Excused room out us)
      back_found [] at_ us made is = absurd cc
      back_found (t ∷ ts) at_ [] made is = absurd (no_end made.0)
      back_found (t ∷ ts) at_ (u ∷ us) made is = by (split_last u us is)
        where
          by : (behind g.path (Some gs) (u ∷ us) ≡ true) ⊎ (comes_from (after g.path) u.path ≡ true)
              → (behind g.path (Some gs) (u ∷ us) ≡ true) ⊎ ((are_from (t ∷ ts) (u ∷ us) ≡ true) ⊎ Excused room out (u ∷ us))
          by (inl same) = inl same
          by (inr later) =
              inr (inl (later_first t u ts us
              (ap (λ (q : Path). comes_from (after q) u.path) (behind_path g.path (Some gs) room t ts at_) ∙ later)))

      pub found_same : (before now : List ThreadPath) → IsEnd code live bounds rest (behind g.path (Some gs)) room before now out true
          → IsEnd code live bounds rest (are_to_come last) room before now out true
      found_same before now end = record {
        added = end.added;
        is = end.is;
        first = first_too (behind g.path (Some gs)) (are_to_come last) room out end.added end.first come_behind
            (back_found end.added end.first.meets);
      }

      -- the first threads come after the path
      back_later : (out' : LeftOut) → AreNone code live bounds rest (behind g.path (Some gs)) room out' → IsKept out' out
          → (us : List ThreadPath) → Made us → are_to_come last us ≡ true
          → (begin_from (after g.path) us ≡ true) ⊎ Excused room out us
      back_later out' none kept [] made is = absurd (no_end made.0)
      back_later out' none kept (u ∷ us) made is = by (split_last u us is)
        where
          by : (behind g.path (Some gs) (u ∷ us) ≡ true) ⊎ (comes_from (after g.path) u.path ≡ true)
              → (begin_from (after g.path) (u ∷ us) ≡ true) ⊎ Excused room out (u ∷ us)
          by (inl same) = inr (kept_excused room out' out (u ∷ us) kept (none (u ∷ us) made same))
          by (inr later) = inl later

      pub found_later : (out' : LeftOut) → AreNone code live bounds rest (behind g.path (Some gs)) room out' → IsKept out' out
          → (v : Bool) (before now : List ThreadPath) → IsEnd code live bounds rest (begin_from (after g.path)) room before now out v
          → IsEnd code live bounds rest (are_to_come last) room before now out v
      found_later out' none kept v before now end =
          end_too (begin_from (after g.path)) (are_to_come last) room out v before now end come_later (back_later out' none kept)

    -- the same for the threads given last
    all_same : (l : Option (List ThreadPath)) (g : ThreadPath) (p : Path) (room : ℕ) (out : LeftOut) (before now : List ThreadPath)
        → Some g ≡ first_of l → p ≡ g.path → IsEnd code live bounds rest (behind p (others_of l)) room before now out true
        → IsEnd code live bounds rest (are_to_come l) room before now out true
    all_same None g p room out before now is path end = absurd cc
    all_same (Some []) g p room out before now is path end = absurd cc
    all_same (Some (h ∷ gs)) g p room out before now is path end =
        found_same h gs room out before now
        (subst (λ (q : Path). IsEnd code live bounds rest (behind q (Some gs)) room before now out true)
        (path ∙ ap (λ (t : ThreadPath). t.path) (inj g h is)) end)

    pub same_found : (l : Option (List ThreadPath)) (g : ThreadPath) (p : Path) (room : ℕ) (out : LeftOut) (before now : List ThreadPath)
        → Some g ≡ first_of l → p ≡ g.path → (o : Option (List ThreadPath)) → o ≡ others_of l
        → (v : Bool) → v ≡ true → IsEnd code live bounds rest (behind p o) room before now out v
        → IsEnd code live bounds rest (are_to_come l) room before now out true
    same_found l g p room out before now is path o others v is_true end =
        all_same l g p room out before now is path
        (subst (λ z. IsEnd code live bounds rest (behind p z) room before now out true) others
        (subst (λ z. IsEnd code live bounds rest (behind p o) room before now out z) is_true end))

    all_later : (l : Option (List ThreadPath)) (g : ThreadPath) (p : Path) (room : ℕ) (out out' : LeftOut) (v : Bool) (before mid now : List ThreadPath)
        → Some g ≡ first_of l → p ≡ g.path → IsEnd code live bounds rest (behind p (others_of l)) room before mid out' false → IsKept out' out
        → IsEnd code live bounds rest (begin_from (after p)) room before now out v
        → IsEnd code live bounds rest (are_to_come l) room before now out v
    all_later None g p room out out' v before mid now is path none kept end = absurd cc
    all_later (Some []) g p room out out' v before mid now is path none kept end = absurd cc
    all_later (Some (h ∷ gs)) g p room out out' v before mid now is path none kept end =
        let same : p ≡ h.path = path ∙ ap (λ (t : ThreadPath). t.path) (inj g h is) in
        found_later h gs room out out'
        (subst (λ (q : Path). AreNone code live bounds rest (behind q (Some gs)) room out') same none.none) kept v before now
        (subst (λ (q : Path). IsEnd code live bounds rest (begin_from (after q)) room before now out v) same end)

    pub later_found : (l : Option (List ThreadPath)) (g : ThreadPath) (p : Path) (room : ℕ) (out out' : LeftOut) (v : Bool) (before mid now : List ThreadPath)
        → Some g ≡ first_of l → p ≡ g.path → (o : Option (List ThreadPath)) → o ≡ others_of l
        → (below : Bool) → below ≡ false → IsEnd code live bounds rest (behind p o) room before mid out' below → IsKept out' out
        → IsEnd code live bounds rest (begin_from (after p)) room mid now out v
        → IsEnd code live bounds rest (are_to_come l) room before now out v
    later_found l g p room out out' v before mid now is path o others true is_false none kept end = absurd cc
    later_found l g p room out out' v before mid now is path o others false is_false none kept end =
        all_later l g p room out out' v before mid now is path
        (subst (λ z. IsEnd code live bounds rest (behind p z) room before mid out' false) others none) kept
        (subst (λ z. IsEnd code live bounds rest (begin_from (after p)) room z now out v) none.same end)

    -- From the first path on.

    come_first : (l : Option (List ThreadPath)) → None ≡ first_of l → (us : List ThreadPath) → Made us → begin_from no_path us ≡ true → are_to_come l us ≡ true
    come_first None is us made from = refl
    come_first (Some []) is [] made from = absurd cc
    come_first (Some []) is (u ∷ us) made from = refl
    come_first (Some (h ∷ gs)) is us made from = absurd cc

    all_first : (l : Option (List ThreadPath)) (room : ℕ) (out : LeftOut) (us : List ThreadPath) → Made us → are_to_come l us ≡ true
        → (begin_from no_path us ≡ true) ⊎ Excused room out us
    all_first l room out [] made is = absurd (no_end made.0)
    all_first l room out (u ∷ us) made is = inl (from_all u.path.outcomes u.path.steps)

    pub first_found : (l : Option (List ThreadPath)) (room : ℕ) (out : LeftOut) (v : Bool) (before now : List ThreadPath) → None ≡ first_of l
        → IsEnd code live bounds rest (begin_from no_path) room before now out v → IsEnd code live bounds rest (are_to_come l) room before now out v
    first_found l room out v before now is end =
        end_too (begin_from no_path) (are_to_come l) room out v before now end (come_first l is) (all_first l room out)

    -- From one path to the next.

    module _ (start : Path) (room : ℕ) where
      -- the position of the search
      pub record IsAt (found : Found) (out : LeftOut) : Type 0 where
        pub from : Path
        pub first : IsFirst code live (scope_of bounds rest next) from found
        pub back : (q : Path) → comes_from from q ≡ true → comes_from start q ≡ true
        pub others : (us : List ThreadPath) → Made us → begin_from start us ≡ true → (begin_from from us ≡ true) ⊎ Excused room out us

      pub at_start : (found : Found) (out : LeftOut) → IsFirst code live (scope_of bounds rest next) start found → IsAt found out
      at_start found out first = record { from = start; first = first; back = λ q is. is; others = λ us made is. inl is }

      module _ (found : Found) (out : LeftOut) (here : IsAt found out) where
        -- a later path of a thread comes after the one found, or is left out
        left_by : (u : ThreadPath) (us : List ThreadPath) → Made (u ∷ us) → (x : Option Path) → found.path ≡ x → comes_from here.from u.path ≡ true
            → path.IsNotAfter x u.path ⊎ Excused room (with_cut out found.cut) (u ∷ us)
        left_by u us made x is from = by (here.first.others u.path (may_is u made.0 made.1) from)
          where
            by : path.IsNotAfter found.path u.path
                ⊎ (path.IsLeftOut (scope_of bounds rest next) found.cut u.path ⊎ IsNeedless code live next.function u.path)
                → path.IsNotAfter x u.path ⊎ Excused room (with_cut out found.cut) (u ∷ us)
            by (inl after_) = inl (subst (λ (y : Option Path). path.IsNotAfter y u.path) is after_)
            by (inr (inl left)) = inr (inl (path_out bounds.most room out found.cut u us left))
            by (inr (inr needless)) = inr (inr (Here next at needless))

        left_on : (us : List ThreadPath) → Made us → (x : Option Path) → found.path ≡ x → begin_from start us ≡ true
            → (IfSome x (λ p. begin_from p us ≡ true) × (x ≡ None → ⊥)) ⊎ Excused room (with_cut out found.cut) us
        left_on [] made x is from = absurd cc
        left_on (u ∷ us) made x is from = by (here.others (u ∷ us) made from)
          where
            at_last : (y : Option Path) → path.IsNotAfter y u.path ⊎ Excused room (with_cut out found.cut) (u ∷ us)
                → (IfSome y (λ p. begin_from p (u ∷ us) ≡ true) × (y ≡ None → ⊥)) ⊎ Excused room (with_cut out found.cut) (u ∷ us)
            at_last None (inl after_) = absurd after_
            at_last (Some p) (inl after_) = inl (after_, λ none. absurd cc)
            at_last y (inr left) = inr left

            by : (begin_from here.from (u ∷ us) ≡ true) ⊎ Excused room out (u ∷ us)
                → (IfSome x (λ p. begin_from p (u ∷ us) ≡ true) × (x ≡ None → ⊥)) ⊎ Excused room (with_cut out found.cut) (u ∷ us)
            by (inl at_) = at_last x (left_by u us made x is at_)
            by (inr left) = inr (kept_excused room out (with_cut out found.cut) (u ∷ us) (kept_cut out found.cut) left)

        -- no path was found
        pub no_more : found.path ≡ None → (before now : List ThreadPath) → now ≡ before → (out' : LeftOut) → out' ≡ with_cut out found.cut
            → IsEnd code live bounds rest (begin_from start) room before now out' false
        no_more none before now same out' told = record {
          same = same;
          none = λ us made from. subst (λ (o : LeftOut). Excused room o us) (sym told)
              (by us found.path none (left_on us made found.path refl from));
        }
          where
            by : (us : List ThreadPath) (x : Option Path) → x ≡ None
                → (IfSome x (λ p. begin_from p us ≡ true) × (x ≡ None → ⊥)) ⊎ Excused room (with_cut out found.cut) us
                → Excused room (with_cut out found.cut) us
            by us x is (inl one) = absurd (one.1 is)
            by us x is (inr left) = left

        -- a path was found
        module _ (p : Path) (is : found.path ≡ Some p) (mid : LeftOut) (mid_is : mid ≡ with_cut out found.cut) (out' : LeftOut) (kept_mid : IsKept mid out') where
          kept : IsKept (with_cut out found.cut) out'
          kept = subst (λ (o : LeftOut). IsKept o out') mid_is kept_mid

          within_start : comes_from start p ≡ true
          within_start = here.back p (subst (λ (x : Option Path). IfSome x (λ q. comes_from here.from q ≡ true)) is here.first.within)

          splits : (u : ThreadPath) (us : List ThreadPath) → comes_from p u.path ≡ true
              → (behind p None (u ∷ us) ≡ true) ⊎ (comes_from (after p) u.path ≡ true)
          splits u us from = by (comes_from u.path p) refl
            where
              by : (v : Bool) → comes_from u.path p ≡ v → (behind p None (u ∷ us) ≡ true) ⊎ (comes_from (after p) u.path ≡ true)
              by true same = inl (both (comes_from p u.path && comes_from u.path p) true (both (comes_from p u.path) (comes_from u.path p) from same) refl)
              by false isnt = inr (not_before u.path.outcomes u.path.steps p.outcomes p.steps isnt)

          parts : (us : List ThreadPath) → Made us → begin_from start us ≡ true
              → (behind p None us ≡ true) ⊎ ((begin_from (after p) us ≡ true) ⊎ Excused room out' us)
          parts [] made from = absurd cc
          parts (u ∷ us) made from = by (left_on (u ∷ us) made (Some p) is from)
            where
              onto : (behind p None (u ∷ us) ≡ true) ⊎ (comes_from (after p) u.path ≡ true)
                  → (behind p None (u ∷ us) ≡ true) ⊎ ((begin_from (after p) (u ∷ us) ≡ true) ⊎ Excused room out' (u ∷ us))
              onto (inl same) = inl same
              onto (inr later) = inr (inl later)

              by : ((begin_from p (u ∷ us) ≡ true) × (Some p ≡ None → ⊥)) ⊎ Excused room (with_cut out found.cut) (u ∷ us)
                  → (behind p None (u ∷ us) ≡ true) ⊎ ((begin_from (after p) (u ∷ us) ≡ true) ⊎ Excused room out' (u ∷ us))
              by (inl at_) = onto (splits u us at_.0)
              by (inr left) = inr (inr (kept_excused room (with_cut out found.cut) out' (u ∷ us) kept left))

          goes_start : (us : List ThreadPath) → Made us → behind p None us ≡ true → begin_from start us ≡ true
          goes_start [] made at_ = absurd cc
          goes_start (u ∷ us) made at_ = ap (comes_from start) (behind_path p None room u us at_) ∙ within_start

          back_start : (ts : List ThreadPath) → behind p None ts ≡ true → (us : List ThreadPath) → Made us → begin_from start us ≡ true
              → (behind p None us ≡ true) ⊎ ((are_from ts us ≡ true) ⊎ Excused room out' us)
          back_start [] at_ us made from = absurd cc
          back_start (t ∷ ts) at_ [] made from = absurd cc
          back_start (t ∷ ts) at_ (u ∷ us) made from = by (parts (u ∷ us) made from)
            where
              by : (behind p None (u ∷ us) ≡ true) ⊎ ((begin_from (after p) (u ∷ us) ≡ true) ⊎ Excused room out' (u ∷ us))
                  → (behind p None (u ∷ us) ≡ true) ⊎ ((are_from (t ∷ ts) (u ∷ us) ≡ true) ⊎ Excused room out' (u ∷ us))
              by (inl same) = inl same
              by (inr (inl later)) =
                  inr (inl (later_first t u ts us (ap (λ (q : Path). comes_from (after q) u.path) (behind_path p None room t ts at_) ∙ later)))
              by (inr (inr left)) = inr (inr left)

          pub found_here : (first before now : List ThreadPath) → before ≡ first → (v : Bool) → v ≡ true
              → IsEnd code live bounds rest (behind p None) room before now out' v
              → IsEnd code live bounds rest (begin_from start) room first now out' true
          found_here first before now same false is_true end = absurd cc
          found_here first before now same true is_true end = record {
            added = end.added;
            is = end.is ∙ ap (λ ts. ts ++ end.added) same;
            first = first_too (behind p None) (begin_from start) room out' end.added end.first goes_start (back_start end.added end.first.meets);
          }

          others_on : AreNone code live bounds rest (behind p None) room out' → (us : List ThreadPath) → Made us → begin_from start us ≡ true
              → (begin_from (after p) us ≡ true) ⊎ Excused room out' us
          others_on none us made from = by (parts us made from)
            where
              by : (behind p None us ≡ true) ⊎ ((begin_from (after p) us ≡ true) ⊎ Excused room out' us)
                  → (begin_from (after p) us ≡ true) ⊎ Excused room out' us
              by (inl same) = inr (none us made same)
              by (inr more) = more

          next_at : AreNone code live bounds rest (behind p None) room out' → (found' : Found) → IsFirst code live (scope_of bounds rest next) (after p) found'
              → IsAt found' out'
          next_at none found' first = record {
            from = after p;
            first = first;
            back = λ q from. from_from start.outcomes start.steps p.outcomes p.steps q.outcomes q.steps within_start (from_after p q from);
            others = others_on none;
          }

          pub go_on : (before now : List ThreadPath) (v : Bool) → v ≡ false → IsEnd code live bounds rest (behind p None) room before now out' v
              → (found' : Found) (scope : Scope) → scope ≡ scope_of bounds rest next → IsFirst code live scope (after p) found' → IsAt found' out'
          go_on before now true is_false end found' scope same first = absurd cc
          go_on before now false is_false end found' scope same first =
              next_at end.none found' (subst (λ (x : Scope). IsFirst code live x (after p) found') same first)

    -- Fewer paths are left.

    less_left : (n : ℕ) (p q : Path) → p.steps ≤ STEPS → q.steps ≤ STEPS → length p.outcomes ≤ n → length q.outcomes ≤ n
        → comes_from (after p) q ≡ true → left_of n (Some q) < left_of n (Some p)
    less_left n p q ps qs po qo later = by (rank_later n p.outcomes (p.steps + 1) q.outcomes q.steps later po qo)
      where
        by : (rank n p.outcomes < rank n q.outcomes) ⊎ ((rank n p.outcomes ≡ rank n q.outcomes) × (p.steps + 1 ≤ q.steps))
            → left_of n (Some q) < left_of n (Some p)
        by (inl less) = let top = rank_below n q.outcomes in let below = rank_below n p.outcomes in omega (arith, less, top, below, ps, qs)
        by (inr same) = let top = rank_below n q.outcomes in omega (arith, same.0, same.1, top, ps, qs)

    pub fewer : (x : Option Path) (p : Path) → x ≡ Some p → IsTaken code bounds rest next p → (scope : Scope) → scope ≡ scope_of bounds rest next
        → (found : Found) → IsFirst code live scope (after p) found → IfSome found.path (IsTaken code bounds rest next)
        → left_of bounds.most found.path < left_of bounds.most x
    fewer x p is taken scope same found first next_taken =
        subst (λ (y : Option Path). left_of bounds.most found.path < left_of bounds.most y) (sym is) (by found.path first.within next_taken)
      where
        by : (y : Option Path) → IfSome y (λ q. comes_from (after p) q ≡ true) → IfSome y (IsTaken code bounds rest next)
            → left_of bounds.most y < left_of bounds.most (Some p)
        by None within took = omega arith
        by (Some q) within took =
            less_left bounds.most p q taken.within.steps took.within.steps taken.within.outcomes took.within.outcomes within
