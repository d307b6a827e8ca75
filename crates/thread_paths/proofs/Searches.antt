-- A search, from one descent to the next.
use Rattle.std.proofs.Common.{◌≡◌, ◌∙◌, ℕ, ◌+◌, ◌-◌, ◌^◌, ◌<◌, ◌≤◌, inl, inr, Bool, true, false, ◌&&◌, List, [], ◌∷◌, length, Option, Some, None, refl, ap, arith}
use Rattle.std.specs.Prelude.{◌⊎◌}
use Rattle.std.proofs.lemmas.Bool.{lt-leb}
use Rattle.tc_code.specs.tc_base.Paths.{Path}
use Rattle.tc_code.specs.Code.{Code}
use Rattle.slot_liveness.specs.pure_turns.Live.{Liveness}
use Rattle.thread_paths.specs.Order.{is_from}
use Rattle.thread_paths.specs.Search.{Found, IsLeftOut, IsNotAfter, IsFirst}
use Rattle.thread_paths.specs.Needless.{IsNeedless}
use Rattle.thread_paths.specs.declared.aim.Scope.{Scope}
use Rattle.thread_paths.specs.declared.descent.Reason.{Reason}
use Rattle.thread_paths.specs.declared.descent.Reason.TheVariants.{Dead, TooMany, TooLong, Turn, Against}
use Rattle.thread_paths.specs.declared.found.Cut.{Cut}
use Rattle.thread_paths.specs.helpers.Descents.{leaves_behind, takes, worth, cut_by, TurnsTo, IsExcused, IsLowest, IsSpent}
use Rattle.thread_paths.proofs.Outcomes.{worth_below}
use Rattle.thread_paths.proofs.Taken.{and_none, may_take, is_taken}

abbrev pub path : List Bool → ℕ → Path
path o s = record { outcomes = o; steps = s }

abbrev pub found : Option Path → Cut → Found
found p cut = record { path = p; cut = cut }

module _ (code : Code) (live : Liveness) (scope : Scope) where
  -- a path is left out, or needless
  abbrev pub IsMissed : Cut → Path → Type 0
  IsMissed cut q = IsLeftOut scope cut q ⊎ IsNeedless code live scope.function q

  -- paths that are missed stay so with one more reason
  kept_out : (cut : Cut) (why : Reason) (q : Path) → IsMissed cut q → IsMissed (cut_by cut why) q
  kept_out cut why q (inr needless) = inr needless
  kept_out cut Dead q (inl out) = inl out
  kept_out cut Turn q (inl out) = inl out
  kept_out cut Against q (inl out) = inl out
  kept_out cut TooMany q (inl (inl out)) = inl (inl (out.0, refl))
  kept_out cut TooMany q (inl (inr out)) = inl (inr out)
  kept_out cut TooLong q (inl (inl out)) = inl (inl out)
  kept_out cut TooLong q (inl (inr out)) = inl (inr (out.0, refl))

  -- paths with an excuse are missed
  excused_out : (cut : Cut) (why : Reason) (q : Path) → IsExcused code live scope why q.outcomes q.steps → IsMissed (cut_by cut why) q
  excused_out cut Dead q never = absurd never
  excused_out cut TooMany q more = inl (inl (more, refl))
  excused_out cut TooLong q more = inl (inr (more, refl))
  excused_out cut Turn q turn = inr (inl turn)
  excused_out cut Against q against = inr (inr against)

-- a path without steps comes after no path
pub none_later : (stays : Bool) (o : List Bool) (n : ℕ) → (stays && is_from o (n + 1) [] 0) ≡ false
none_later stays [] n = ap (λ v. stays && v) (lt-leb (n + 1) 0 (omega arith)) ∙ and_none stays
none_later stays (b ∷ o) n = and_none stays

module _ (code : Code) (live : Liveness) (scope : Scope) (start : List Bool) (first : ℕ) where
  -- the rest of the search
  pub record IsLeft (o : List Bool) (least : ℕ) (cut : Cut) : Type 0 where
    pub few : length o ≤ scope.most
    pub back : (q : List Bool) (s : ℕ) → is_from o least q s ≡ true → is_from start first q s ≡ true
    pub others : (q : List Bool) (s : ℕ) → takes code scope q s ≡ true → is_from start first q s ≡ true
        → (is_from o least q s ≡ true) ⊎ IsMissed code live scope cut (path q s)
    pub steps : (takes code scope [] 0 && is_from o least [] 0) ≡ false

  module _ (o : List Bool) (least : ℕ) (cut : Cut) (left : IsLeft o least cut) (o' : List Bool) where
    -- a path was found
    module _ (n : ℕ) (lowest : IsLowest code scope o least o' n) where
      found_others : (q : List Bool) (s : ℕ) → takes code scope q s ≡ true → (is_from o least q s ≡ true) ⊎ IsMissed code live scope cut (path q s)
          → IsNotAfter (Some (path o' n)) (path q s) ⊎ IsMissed code live scope cut (path q s)
      found_others q s may (inl from) = inl (lowest.others q s may from)
      found_others q s may (inr out) = inr out

      pub is_found : IsFirst code live scope (path start first) (found (Some (path o' n)) cut)
      is_found = record {
        takes = may_take code scope o' n lowest.may;
        within = left.back o' n lowest.within;
        few = (lowest.few, lowest.short);
        others = λ q may from. found_others q.outcomes q.steps (is_taken code scope q.outcomes q.steps may)
            (left.others q.outcomes q.steps (is_taken code scope q.outcomes q.steps may) from);
      }

    -- no path was found
    module _ (why : Reason) (spent : IsSpent code scope o least o' (IsExcused code live scope why)) where
      excused : (q : List Bool) (s : ℕ) → (leaves_behind o' q ≡ true) ⊎ IsExcused code live scope why q s
          → (leaves_behind o' q ≡ true) ⊎ IsMissed code live scope (cut_by cut why) (path q s)
      excused q s (inl is) = inl is
      excused q s (inr is) = inr (excused_out code live scope cut why (path q s) is)

      still : (q : List Bool) (s : ℕ) → takes code scope q s ≡ true → (is_from o least q s ≡ true) ⊎ IsMissed code live scope cut (path q s)
          → (leaves_behind o' q ≡ true) ⊎ IsMissed code live scope (cut_by cut why) (path q s)
      still q s may (inl from) = excused q s (spent.others q s may from)
      still q s may (inr out) = inr (kept_out code live scope cut why (path q s) out)

      all_others : (q : List Bool) (s : ℕ) → takes code scope q s ≡ true → is_from start first q s ≡ true
          → (leaves_behind o' q ≡ true) ⊎ IsMissed code live scope (cut_by cut why) (path q s)
      all_others q s may from = still q s may (left.others q s may from)

      -- and no outcomes come after these
      none_by : (all : (q : List Bool) → leaves_behind o' q ≡ false) (q : List Bool) (s : ℕ)
          → (leaves_behind o' q ≡ true) ⊎ IsMissed code live scope (cut_by cut why) (path q s) → IsNotAfter None (path q s) ⊎ IsMissed code live scope (cut_by cut why) (path q s)
      none_by all q s (inl is) = absurd (let never = all q in cc)
      none_by all q s (inr out) = inr out

      pub is_none : ((q : List Bool) → leaves_behind o' q ≡ false) → IsFirst code live scope (path start first) (found None (cut_by cut why))
      is_none all = record {
        takes = tt;
        within = tt;
        few = tt;
        others = λ q may from. none_by all q.outcomes q.steps
            (all_others q.outcomes q.steps (is_taken code scope q.outcomes q.steps may) from);
      }

      -- the next outcomes
      module _ (next : List Bool) (turns : TurnsTo o' next) where
        -- fewer are left
        pub fewer : 2 ^ scope.most - worth scope.most next < 2 ^ scope.most - worth scope.most o
        fewer =
            let more = turns.value scope.most spent.few in
            let below = worth_below scope.most next in
            omega (arith, more, below, spent.value)
