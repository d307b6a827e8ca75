-- One descent from given outcomes, step by step.
use Rattle.std.specs.Prelude.{◌≡◌, ℕ, zero, suc, ◌+◌, ◌^◌, ◌<◌, ◌≤◌, ◌⊎◌, ◌==◌, List, [], ◌∷◌, ◌++◌, length, Bool, true, false, not, ◌&&◌, nat_le, if◌then◌else◌}
use Rattle.std.specs.Prelude.{slice_index_or, Option, Some, None}
use Rattle.std.specs.Option.{option_map_or}
use Rattle.tc_limits.specs.declared.limits.TheConstants.{STEPS}
use Rattle.tc_code.specs.Code.{Code, instr_at}
use Rattle.tc_code.specs.declared.instr.Instr.{Instr}
use Rattle.tc_code.specs.declared.instr.Instr.TheVariants.{Branch, Goto}
use Rattle.thread_marks.specs.list_laws.Lists.{is_nil}
use Rattle.thread_marks.specs.path_walk.Events.{excludes}
use Rattle.thread_marks.specs.path_walk.Marks.{Marks, marks_at_start, marks_after_instr}
use Rattle.thread_marks.specs.path_walk.Steps.{Onward, onward, is_site, can_block, places_from}
use Rattle.thread_marks.specs.path_walk.helpers.Accounts.{prefixed}
use Rattle.thread_marks.specs.Own.{own_of}
use Rattle.slot_liveness.specs.pure_turns.Live.{Liveness}
use Rattle.thread_paths.specs.Ends.{is_exit, is_used}
use Rattle.thread_paths.specs.Order.{is_from}
use Rattle.thread_paths.specs.Turns.{HasTurn}
use Rattle.thread_paths.specs.Known.{GoesAgainst, known_before}
use Rattle.thread_paths.specs.declared.aim.Aim.{Aim}
use Rattle.thread_paths.specs.declared.aim.End.{End}
use Rattle.thread_paths.specs.declared.aim.End.TheVariants.{Exit, Used, Open, Rest}
use Rattle.thread_paths.specs.declared.aim.Scope.{Scope}
use Rattle.thread_paths.specs.declared.descent.Advance.{Advance}
use Rattle.thread_paths.specs.declared.descent.Advance.TheVariants.{On, Ends}
use Rattle.thread_paths.specs.declared.descent.At.{At}
use Rattle.thread_paths.specs.declared.descent.Descent.{Descent}
use Rattle.thread_paths.specs.declared.descent.Descent.TheVariants.{Found, Spent}
use Rattle.thread_paths.specs.declared.descent.Reason.{Reason}
use Rattle.thread_paths.specs.declared.descent.Reason.TheVariants.{Dead, TooMany, TooLong, Turn, Against}
use Rattle.thread_paths.specs.declared.found.Cut.{Cut}
use Rattle.thread_paths.specs.declared.past.Past.{Past}

-- the first `n` outcomes as a number of bits, the highest bit first
abbrev pub worth : ℕ → List Bool → ℕ
worth zero o = 0
worth (suc n) [] = 0
worth (suc n) (b ∷ o) = (if b then 2 ^ n else 0) + worth n o

-- whether an instruction has two ways to go on
abbrev pub is_branch : Instr → Bool
is_branch (Branch e to) = true
is_branch _ = false

-- the place after an instruction, given the outcome if it is a branch
abbrev pub place_after : ℕ → Instr → Bool → ℕ
place_after k (Branch e to) outcome = if outcome then k + 1 else to
place_after k (Goto to) outcome = to
place_after k _ outcome = k + 1

-- whether a path may end with this instruction, which leads to a place, if the thread doesn't fail
abbrev pub ends_with : Code → ℕ → End → Instr → ℕ → Bool
ends_with code f Exit i to = is_exit i
ends_with code f Used i to = is_used i
ends_with code f Open i to = is_used i
ends_with code f Rest i to = option_map_or can_block (instr_at code f to) true

-- whether a path may end with this instruction, which leads to a place
abbrev pub is_last : Code → ℕ → Aim → Marks → Instr → ℕ → Bool
is_last code f aim t i to = if aim.may_fail && is_site i then not (excludes t i true)
    else (not (excludes t i false) && ends_with code f aim.end i to)

-- whether a path may end `n + 1` steps after a place, with these outcomes
abbrev pub goes : Code → ℕ → Aim → ℕ → Marks → ℕ → List Bool → Bool
goes code f aim zero t k outcomes =
    option_map_or
    (λ i. option_map_or (λ (on : Onward). is_nil on.outcomes && is_last code f aim t i on.place)
    (onward k i outcomes) false)
    (instr_at code f k) false
goes code f aim (suc n) t k outcomes =
    option_map_or
    (λ i. option_map_or
    (λ (on : Onward). not (excludes t i false)
    && goes code f aim n (marks_after_instr t i) on.place on.outcomes)
    (onward k i outcomes) false)
    (instr_at code f k) false

-- whether the path of no steps may end this way
abbrev pub stays : Code → ℕ → End → Bool
stays code f Open = true
stays code f Rest = option_map_or can_block (instr_at code f 0) true
stays code f _ = false

-- whether a thread may take the path with these outcomes and this number of steps
abbrev pub takes : Code → Scope → List Bool → ℕ → Bool
takes code scope outcomes zero = is_nil outcomes && stays code scope.function scope.aim.end
takes code scope outcomes (suc n) =
    goes code scope.function scope.aim n (marks_at_start code scope.function) 0 outcomes

-- whether the outcomes differ, and the second ones are true where they first do
abbrev pub leaves_behind : List Bool → List Bool → Bool
leaves_behind [] outcomes = false
leaves_behind (_ ∷ o) [] = false
leaves_behind (false ∷ o) (true ∷ outcomes) = true
leaves_behind (true ∷ o) (false ∷ outcomes) = false
leaves_behind (_ ∷ o) (_ ∷ outcomes) = leaves_behind o outcomes

-- the least outcomes that come after all that begin with these
pub record TurnsTo (before after : List Bool) : Type 0 where
  pub same : (q : List Bool) (s : ℕ) → leaves_behind before q ≡ is_from after 0 q s
  pub few : length after ≤ length before
  pub value : (m : ℕ) → length before ≤ m → worth m before < worth m after

abbrev pub IsTurned : List Bool → List Bool → Bool → Type 0
IsTurned before after true = TurnsTo before after
IsTurned before after false = (q : List Bool) → leaves_behind before q ≡ false

-- where a thread is after an instruction, given these outcomes
abbrev pub at_after : At → Instr → List Bool → At
at_after at i outcomes = record {
  place = place_after at.place i (slice_index_or outcomes at.used false);
  used = if is_branch i then at.used + 1 else at.used;
  least = at.least;
}

-- a false is appended to the outcomes, for a branch
pub record IsPushed (most : ℕ) (i : Instr) (at : At) (before after : List Bool)
    (to : At) : Type 0 where
  pub is : to ≡ record at { least = 0 }
  pub branch : is_branch i ≡ true
  pub end : length before ≤ at.used
  pub room : length before < most
  pub added : after ≡ before ++ false ∷ []

-- a branch has its outcome: given, or a false appended; or there are too many outcomes
abbrev pub IsOpened : ℕ → Instr → At → List Bool → List Bool → Option At → Type 0
IsOpened most i at before after (Some to) =
    ((to ≡ at) × (after ≡ before) × (is_branch i ≡ true → at.used < length before))
    ⊎ IsPushed most i at before after to
IsOpened most i at before after None =
    (is_branch i ≡ true) × (length before ≤ at.used) × (most ≤ length before) × (after ≡ before)

-- whether a path may end after this instruction
abbrev pub is_end : Code → Scope → ℕ → Marks → Instr → At → List Bool → Bool
is_end code scope steps t i to outcomes =
    to.used == length outcomes && nat_le to.least steps
    && is_last code scope.function scope.aim t i to.place

-- the paths that a descent leaves out
abbrev pub IsExcused : Code → Liveness → Scope → Reason → List Bool → ℕ → Type 0
IsExcused code live scope Dead q s = ⊥
IsExcused code live scope TooMany q s = scope.most < length q
IsExcused code live scope TooLong q s = STEPS < s
IsExcused code live scope Turn q s =
    HasTurn code live scope.function (record { outcomes = q; steps = s })
IsExcused code live scope Against q s =
    GoesAgainst code scope.function (record { outcomes = q; steps = s })

-- what was left out, with one more reason
abbrev pub cut_by : Cut → Reason → Cut
cut_by cut Dead = cut
cut_by cut TooMany = record cut { outcomes = true }
cut_by cut TooLong = record cut { steps = true }
cut_by cut Turn = cut
cut_by cut Against = cut

-- a path extends the outcomes done so far and has more than `n` steps
pub record Passes (n : ℕ) (done rest : List Bool) (least : ℕ) (q : List Bool) (s : ℕ) : Type 0 where
  pub later : List Bool
  pub more : ℕ
  pub outcomes : q ≡ done ++ later
  pub steps : s ≡ suc (n + more)
  pub within : is_from rest least later s ≡ true

module _ (code : Code) (scope : Scope) (start : List Bool) (first : ℕ) where
  -- the place after `n` steps by the first of these outcomes
  pub record IsNode (n : ℕ) (at : At) (o : List Bool) (past : Past) : Type 0 where
    pub marks : Marks
    pub is : past.own ≡ own_of marks
    pub done : List Bool
    pub rest : List Bool
    pub whole : o ≡ done ++ rest
    pub count : at.used ≡ length done
    pub few : length o ≤ scope.most
    pub value : worth scope.most o ≡ worth scope.most start
    pub same : (m : ℕ) (r : List Bool)
        → goes code scope.function scope.aim (n + m) (marks_at_start code scope.function) 0
        (done ++ r)
        ≡ goes code scope.function scope.aim m marks at.place r
    pub long : length past.places.items ≡ n
    pub known : past.known ≡ known_before code scope.function past.places.items n
    pub along : (m : ℕ) (r : List Bool)
        → places_from code scope.function (n + m) 0 (done ++ r)
        ≡ prefixed past.places.items (places_from code scope.function m at.place r)
    pub back : (r : List Bool) (s : ℕ) → is_from rest at.least r s ≡ true
        → is_from start first (done ++ r) s ≡ true
    pub behind : (q : List Bool) (s : ℕ) → leaves_behind o q ≡ true → is_from start first q s ≡ true
    pub left : (q : List Bool) (s : ℕ) → takes code scope q s ≡ true
        → is_from start first q s ≡ true
        → (leaves_behind o q ≡ true) ⊎ Passes n done rest at.least q s

  -- this path is the first that the thread may take
  pub record IsLowest (o : List Bool) (n : ℕ) : Type 0 where
    pub may : takes code scope o n ≡ true
    pub few : length o ≤ scope.most
    pub short : n ≤ STEPS
    pub within : is_from start first o n ≡ true
    pub others : (q : List Bool) (s : ℕ) → takes code scope q s ≡ true
        → is_from start first q s ≡ true → is_from o n q s ≡ true

  -- the descent found no path: each one to find comes after these outcomes or has an excuse
  pub record IsSpent (o : List Bool) (Excused : List Bool → ℕ → Type 0) : Type 0 where
    pub few : length o ≤ scope.most
    pub value : worth scope.most o ≡ worth scope.most start
    pub behind : (q : List Bool) (s : ℕ) → leaves_behind o q ≡ true → is_from start first q s ≡ true
    pub others : (q : List Bool) (s : ℕ) → takes code scope q s ≡ true
        → is_from start first q s ≡ true
        → (leaves_behind o q ≡ true) ⊎ Excused q s

module _ (code : Code) (live : Liveness) (scope : Scope) (start : List Bool) (first : ℕ) where
  -- the result of a descent
  abbrev pub IsDescent : List Bool → Descent → Type 0
  IsDescent o (Found n) = IsLowest code scope start first o n
  IsDescent o (Spent why) = IsSpent code scope start first o (IsExcused code live scope why)

  -- one step further, or the end of the descent
  abbrev pub IsAdvance : ℕ → List Bool → Past → Advance → Type 0
  IsAdvance n o past (On at) = IsNode code scope start first (n + 1) at o past
  IsAdvance n o past (Ends d) = IsDescent o d
