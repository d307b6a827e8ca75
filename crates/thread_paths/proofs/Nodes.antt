-- One descent, node by node.
use Rattle.std.proofs.Common.{◌≡◌, ◌∙◌, ℕ, zero, suc, ◌+◌, ◌<◌, ◌≤◌, inl, inr, Bool, true, false, not, ◌&&◌, List, [], ◌∷◌, ◌++◌, length, get_or}
use Rattle.std.proofs.Common.{Some, None, Result, Ok, Err, refl, ap, sym, subst, arith, append_assoc, append-nil, add-zero, zero-add, eq-eqb}
use Rattle.std.specs.Prelude.{◌⊎◌, ◌==◌, nat_le, if◌then◌else◌}
use Rattle.std.specs.Option.{option_map_or}
use Rattle.std.proofs.lemmas.Bool.{and_parts, eqb-true, not-true}
use Rattle.std.proofs.lemmas.List.{length-append}
use Rattle.thread_marks.specs.list_laws.Lists.{is_nil}
use Rattle.tc_limits.specs.declared.limits.TheConstants.{STEPS}
use Rattle.tc_code.specs.Code.{Code, instr_at}
use Rattle.tc_code.specs.declared.instr.Instr.{Instr}
use Rattle.tc_code.specs.declared.instr.Instr.TheVariants.{Branch, Goto}
use Rattle.thread_marks.specs.path_walk.Events.{excludes}
use Rattle.thread_marks.specs.path_walk.Marks.{Marks, marks_at_start, marks_after_instr}
use Rattle.thread_marks.specs.path_walk.Steps.{Onward, onward, places_from}
use Rattle.thread_marks.specs.path_walk.declared.fault.Misfit.{Misfit}
use Rattle.thread_marks.specs.path_walk.helpers.Accounts.{prefixed}
use Rattle.thread_marks.proofs.path_walk.Places.{step_more, prefixed_before}
use Rattle.thread_marks.specs.Own.{own_of}
use Rattle.thread_paths.specs.Order.{is_from}
use Rattle.thread_paths.specs.Known.{Known, known_at_start, known_after, known_before}
use Rattle.thread_paths.specs.declared.aim.Aim.{Aim}
use Rattle.thread_paths.specs.declared.aim.Scope.{Scope}
use Rattle.thread_paths.specs.declared.descent.At.{At}
use Rattle.thread_paths.specs.declared.past.Past.{Past}
use Rattle.thread_paths.specs.helpers.Descents.{is_branch, place_after, is_last, goes, takes, leaves_behind, at_after, is_end}
use Rattle.thread_paths.specs.helpers.Descents.{IsPushed, Passes, IsNode, IsLowest, IsSpent, worth}
use Rattle.thread_paths.proofs.Values.{known_next}
use Rattle.thread_paths.proofs.Outcomes.{all_from, behind_from, front_from, behind_after, behind_added, behind_less, worth_added, GoesOn}

-- Where an instruction leads.

abbrev to : ℕ → List Bool → Onward
to k outcomes = record { place = k; outcomes = outcomes }

-- an instruction that isn't a branch leads on with the same outcomes
plainly : (k : ℕ) (i : Instr) (b : Bool) (r : List Bool) → is_branch i ≡ false → onward k i r ≡ Some (to (place_after k i b) r)
plainly k (Branch e at) b r is = absurd cc
plainly k (Goto at) b r is = refl
plainly k _ b r is = refl

by_branch : (k : ℕ) (i : Instr) (b : Bool) (r : List Bool) → is_branch i ≡ true → onward k i (b ∷ r) ≡ Some (to (place_after k i b) r)
by_branch k (Branch e at) true r is = refl
by_branch k (Branch e at) false r is = refl
by_branch k _ b r is = absurd cc

no_outcome : (k : ℕ) (i : Instr) → is_branch i ≡ true → onward k i [] ≡ None
no_outcome k (Branch e at) is = refl
no_outcome k _ is = absurd cc

module _ (code : Code) (f : ℕ) (aim : Aim) where
  abbrev last_by : Marks → Instr → Onward → Bool
  last_by t i on = is_nil on.outcomes && is_last code f aim t i on.place

  abbrev on_by : ℕ → Marks → Instr → Onward → Bool
  on_by m t i on = not (excludes t i false) && goes code f aim m (marks_after_instr t i) on.place on.outcomes

  pub goes_nowhere : (m : ℕ) (t : Marks) (k : ℕ) (o : List Bool) → instr_at code f k ≡ None → goes code f aim m t k o ≡ false
  goes_nowhere zero t k o at = ap (λ x. option_map_or (λ i. option_map_or (last_by t i) (onward k i o) false) x false) at
  goes_nowhere (suc m) t k o at = ap (λ x. option_map_or (λ i. option_map_or (on_by m t i) (onward k i o) false) x false) at

  module _ (t : Marks) (k : ℕ) (o : List Bool) (i : Instr) (at : instr_at code f k ≡ Some i) where
    pub goes_short : (m : ℕ) → onward k i o ≡ None → goes code f aim m t k o ≡ false
    goes_short zero on =
        ap (λ x. option_map_or (λ j. option_map_or (last_by t j) (onward k j o) false) x false) at ∙ ap (λ x. option_map_or (last_by t i) x false) on
    goes_short (suc m) on =
        ap (λ x. option_map_or (λ j. option_map_or (on_by m t j) (onward k j o) false) x false) at ∙ ap (λ x. option_map_or (on_by m t i) x false) on

    module _ (on : Onward) (leads : onward k i o ≡ Some on) where
      pub goes_last : goes code f aim 0 t k o ≡ last_by t i on
      goes_last =
          ap (λ x. option_map_or (λ j. option_map_or (last_by t j) (onward k j o) false) x false) at ∙ ap (λ x. option_map_or (last_by t i) x false) leads

      pub goes_more : (m : ℕ) → goes code f aim (suc m) t k o ≡ on_by m t i on
      goes_more m =
          ap (λ x. option_map_or (λ j. option_map_or (on_by m t j) (onward k j o) false) x false) at
          ∙ ap (λ x. option_map_or (on_by m t i) x false) leads

-- The outcomes that an instruction uses: one or none.

-- later outcomes that begin with these
pub record Follows (piece rest : List Bool) (least : ℕ) (later : List Bool) (s : ℕ) : Type 0 where
  pub then_ : List Bool
  pub is : later ≡ piece ++ then_
  pub within : is_from rest least then_ s ≡ true

pub record IsTaken (k : ℕ) (i : Instr) (rest : List Bool) (b : Bool) : Type 0 where
  pub piece : List Bool
  pub after : List Bool
  pub whole : rest ≡ piece ++ after
  pub count : (n : ℕ) → (if is_branch i then n + 1 else n) ≡ n + length piece
  pub leads : (r : List Bool) → onward k i (piece ++ r) ≡ Some (to (place_after k i b) r)
  pub back : (least : ℕ) (r : List Bool) (s : ℕ) → is_from after least r s ≡ true → is_from rest least (piece ++ r) s ≡ true
  pub others : (least : ℕ) (later : List Bool) (s : ℕ) → is_from rest least later s ≡ true
      → (onward k i later ≡ None) ⊎ ((leaves_behind rest later ≡ true) ⊎ Follows piece after least later s)

none_taken : (k : ℕ) (i : Instr) (rest : List Bool) (b : Bool) → is_branch i ≡ false → IsTaken k i rest b
none_taken k i rest b is = record {
  piece = [];
  after = rest;
  whole = refl;
  count = λ n. ap (λ x. if x then n + 1 else n) is ∙ sym (add-zero n);
  leads = λ r. plainly k i b r is;
  back = λ least r s from. from;
  others = λ least later s from. inr (inr (record { then_ = later; is = refl; within = from }));
}

one_others : (k : ℕ) (i : Instr) (b : Bool) (rest : List Bool) → is_branch i ≡ true → (least : ℕ) (later : List Bool) (s : ℕ)
    → is_from (b ∷ rest) least later s ≡ true
    → (onward k i later ≡ None) ⊎ ((leaves_behind (b ∷ rest) later ≡ true) ⊎ Follows (b ∷ []) rest least later s)
one_others k i b rest is least [] s from = inl (no_outcome k i is)
one_others k i true rest is least (true ∷ later) s from = inr (inr (record { then_ = later; is = refl; within = from }))
one_others k i false rest is least (false ∷ later) s from = inr (inr (record { then_ = later; is = refl; within = from }))
one_others k i false rest is least (true ∷ later) s from = inr (inl refl)
one_others k i true rest is least (false ∷ later) s from = absurd cc

one_back : (b : Bool) (rest : List Bool) (least : ℕ) (r : List Bool) (s : ℕ) → is_from rest least r s ≡ true → is_from (b ∷ rest) least (b ∷ r) s ≡ true
one_back true rest least r s from = from
one_back false rest least r s from = from

one_taken : (k : ℕ) (i : Instr) (b : Bool) (rest : List Bool) → is_branch i ≡ true → IsTaken k i (b ∷ rest) b
one_taken k i b rest is = record {
  piece = b ∷ [];
  after = rest;
  whole = refl;
  count = λ n. ap (λ x. if x then n + 1 else n) is;
  leads = λ r. by_branch k i b r is;
  back = one_back b rest;
  others = one_others k i b rest is;
}

taken_by : (v : Bool) (k : ℕ) (i : Instr) (rest : List Bool) → is_branch i ≡ v → (v ≡ true → 0 < length rest) → IsTaken k i rest (get_or rest 0 false)
taken_by false k i rest is some = none_taken k i rest (get_or rest 0 false) is
taken_by true k i [] is some = absurd (omega (arith, some refl))
taken_by true k i (b ∷ rest) is some = one_taken k i b rest is

pub taken : (k : ℕ) (i : Instr) (rest : List Bool) → (is_branch i ≡ true → 0 < length rest) → IsTaken k i rest (get_or rest 0 false)
taken k i rest some = taken_by (is_branch i) k i rest refl some

get_behind : (done rest : List Bool) → get_or (done ++ rest) (length done) false ≡ get_or rest 0 false
get_behind [] rest = refl
get_behind (b ∷ done) rest = get_behind done rest

module _ (code : Code) (scope : Scope) where
  abbrev ways : ℕ → List Bool → Bool
  ways n outcomes = goes code scope.function scope.aim n (marks_at_start code scope.function) 0 outcomes

  -- a fact of a path from the facts of its parts
  of_parts : (q outcomes : List Bool) (s n : ℕ) → q ≡ outcomes → s ≡ suc n → takes code scope q s ≡ ways n outcomes
  of_parts q outcomes s n is steps = ap (λ x. takes code scope x s) is ∙ ap (takes code scope outcomes) steps

  module _ (start : List Bool) (first n : ℕ) where
    -- one more false
    module _ (i : Instr) (at at' : At) (o o' : List Bool) (past : Past) (node : IsNode code scope start first n at o past)
        (there : instr_at code scope.function at.place ≡ Some i) (pushed : IsPushed scope.most i at o o' at') where
      no_rest : (rest : List Bool) → o ≡ node.done ++ rest → rest ≡ []
      no_rest [] is = refl
      no_rest (b ∷ rest) is = absurd (omega (arith, ap length is, length-append node.done (b ∷ rest), node.count, pushed.end))

      is_done : o ≡ node.done
      is_done = node.whole ∙ ap (λ r. node.done ++ r) (no_rest node.rest node.whole) ∙ append-nil node.done

      is_more : o' ≡ node.done ++ false ∷ []
      is_more = pushed.added ∙ ap (λ x. x ++ false ∷ []) is_done

      left_later : (q : List Bool) (s : ℕ) (later : List Bool) (more : ℕ) → takes code scope q s ≡ true → q ≡ node.done ++ later → s ≡ suc (n + more)
          → (leaves_behind o' q ≡ true) ⊎ Passes n node.done (false ∷ []) 0 q s
      left_later q s [] more may outcomes steps =
          let nowhere : ways (n + more) (node.done ++ []) ≡ false =
          node.same more [] ∙ goes_short code scope.function scope.aim node.marks at.place [] i there more (no_outcome at.place i pushed.branch) in
          let somewhere : ways (n + more) (node.done ++ []) ≡ true = sym (of_parts q (node.done ++ []) s (n + more) outcomes steps) ∙ may in
          absurd cc
      left_later q s (true ∷ later) more may outcomes steps =
          inl (ap (λ x. leaves_behind x q) is_more ∙ ap (leaves_behind (node.done ++ false ∷ [])) outcomes
          ∙ behind_after node.done (false ∷ []) (true ∷ later) refl)
      left_later q s (false ∷ later) more may outcomes steps =
          inr (record { later = false ∷ later; more = more; outcomes = outcomes; steps = steps; within = all_from later s })

      left_more : (q : List Bool) (s : ℕ) → takes code scope q s ≡ true → (leaves_behind o q ≡ true) ⊎ Passes n node.done node.rest at.least q s
          → (leaves_behind o' q ≡ true) ⊎ Passes n node.done (false ∷ []) 0 q s
      left_more q s may (inl is) = inl (ap (λ x. leaves_behind x q) pushed.added ∙ behind_added o q is)
      left_more q s may (inr p) = left_later q s p.later p.more may p.outcomes p.steps

      back_more : (r : List Bool) (s : ℕ) → is_from (false ∷ []) 0 r s ≡ true → is_from start first (node.done ++ r) s ≡ true
      back_more [] s from = absurd cc
      back_more (b ∷ r) s from = node.back (b ∷ r) s (ap (λ x. is_from x at.least (b ∷ r) s) (no_rest node.rest node.whole))

      behind_more : (q : List Bool) (s : ℕ) → (leaves_behind o q ≡ true) ⊎ GoesOn o q → is_from start first q s ≡ true
      behind_more q s (inl is) = node.behind q s is
      behind_more q s (inr on) =
          ap (λ x. is_from start first x s) (on.is ∙ ap (λ x. x ++ true ∷ on.later) is_done)
          ∙ node.back (true ∷ on.later) s (ap (λ x. is_from x at.least (true ∷ on.later) s) (no_rest node.rest node.whole))

      pub pushed_node : IsNode code scope start first n at' o' past
      pushed_node = record {
        marks = node.marks;
        is = node.is;
        done = node.done;
        rest = false ∷ [];
        whole = is_more;
        count = ap (λ (a : At). a.used) pushed.is ∙ node.count;
        few = omega (arith, ap length pushed.added, length-append o (false ∷ []), pushed.room);
        value = ap (worth scope.most) pushed.added ∙ worth_added scope.most o ∙ node.value;
        same = λ m r. node.same m r ∙ ap (λ k. goes code scope.function scope.aim m node.marks k r) (sym (ap (λ (a : At). a.place) pushed.is));
        long = node.long;
        known = node.known;
        along = λ m r. node.along m r
            ∙ ap (λ k. prefixed past.places.items (places_from code scope.function m k r)) (sym (ap (λ (a : At). a.place) pushed.is));
        back = λ r s from. back_more r s (ap (λ k. is_from (false ∷ []) k r s) (sym (ap (λ (a : At). a.least) pushed.is)) ∙ from);
        behind = λ q s is. behind_more q s (behind_less o q (ap (λ x. leaves_behind x q) (sym pushed.added) ∙ is));
        left = λ q s may from. subst (λ k. (leaves_behind o' q ≡ true) ⊎ Passes n node.done (false ∷ []) k q s)
            (sym (ap (λ (a : At). a.least) pushed.is)) (left_more q s may (node.left q s may from));
      }

    module _ (at : At) (o : List Bool) (past : Past) (node : IsNode code scope start first n at o past) where
      -- no path goes on, except those with an excuse
      spent_by : (Excused : List Bool → ℕ → Type 0)
          → ((q : List Bool) (s : ℕ) → takes code scope q s ≡ true → Passes n node.done node.rest at.least q s → Excused q s)
          → (q : List Bool) (s : ℕ) → takes code scope q s ≡ true → (leaves_behind o q ≡ true) ⊎ Passes n node.done node.rest at.least q s
          → (leaves_behind o q ≡ true) ⊎ Excused q s
      spent_by Excused excuse q s may (inl is) = inl is
      spent_by Excused excuse q s may (inr p) = inr (excuse q s may p)

      pub spent : (Excused : List Bool → ℕ → Type 0)
          → ((q : List Bool) (s : ℕ) → takes code scope q s ≡ true → Passes n node.done node.rest at.least q s → Excused q s)
          → IsSpent code scope start first o Excused
      spent Excused excuse = record {
        few = node.few;
        value = node.value;
        behind = node.behind;
        others = λ q s may from. spent_by Excused excuse q s may (node.left q s may from);
      }

      -- a path that passes goes on from here
      goes_on : (q : List Bool) (s : ℕ) → takes code scope q s ≡ true → (p : Passes n node.done node.rest at.least q s)
          → goes code scope.function scope.aim p.more node.marks at.place p.later ≡ true
      goes_on q s may p = sym (node.same p.more p.later) ∙ sym (of_parts q (node.done ++ p.later) s (n + p.more) p.outcomes p.steps) ∙ may

      -- there is no instruction
      pub no_instr : instr_at code scope.function at.place ≡ None → IsSpent code scope start first o (λ q s. ⊥)
      no_instr there = spent (λ q s. ⊥) (λ q s may p.
          let somewhere : goes code scope.function scope.aim p.more node.marks at.place p.later ≡ true = goes_on q s may p in
          let nowhere : goes code scope.function scope.aim p.more node.marks at.place p.later ≡ false =
          goes_nowhere code scope.function scope.aim p.more node.marks at.place p.later there in
          cc)

      -- there are too many steps
      pub too_long : n ≡ STEPS → IsSpent code scope start first o (λ q s. STEPS < s)
      too_long all = spent (λ q s. STEPS < s) (λ q s may p. omega (arith, p.steps, all))

      -- there are too many outcomes
      many : (i : Instr) → instr_at code scope.function at.place ≡ Some i → is_branch i ≡ true → length o ≤ at.used → scope.most ≤ length o
          → (q later : List Bool) (more : ℕ) → q ≡ node.done ++ later → goes code scope.function scope.aim more node.marks at.place later ≡ true
          → scope.most < length q
      many i there branch end full q [] more outcomes on =
          let nowhere : goes code scope.function scope.aim more node.marks at.place [] ≡ false =
          goes_short code scope.function scope.aim node.marks at.place [] i there more (no_outcome at.place i branch) in
          absurd (cc)
      many i there branch end full q (b ∷ later) more outcomes on =
          omega (arith, ap length outcomes, length-append node.done (b ∷ later), node.count, end, full)

      pub too_many : (i : Instr) → instr_at code scope.function at.place ≡ Some i → is_branch i ≡ true → length o ≤ at.used → scope.most ≤ length o
          → IsSpent code scope start first o (λ q s. scope.most < length q)
      too_many i there branch end full = spent (λ q s. scope.most < length q) (λ q s may p.
          many i there branch end full q p.later p.more p.outcomes (goes_on q s may p))

      -- One instruction further.
      module _ (i : Instr) (there : instr_at code scope.function at.place ≡ Some i) (some : is_branch i ≡ true → at.used < length o) where
        abbrev next : At
        next = at_after at i o

        long : length o ≡ length node.done + length node.rest
        long = ap length node.whole ∙ length-append node.done node.rest

        piece_is : IsTaken at.place i node.rest (get_or node.rest 0 false)
        piece_is = taken at.place i node.rest (λ branch. omega (arith, some branch, node.count, long))

        outcome_is : get_or o at.used false ≡ get_or node.rest 0 false
        outcome_is =
            ap (λ x. get_or x at.used false) node.whole ∙ ap (λ k. get_or (node.done ++ node.rest) k false) node.count ∙ get_behind node.done node.rest

        place_is : place_after at.place i (get_or node.rest 0 false) ≡ next.place
        place_is = ap (place_after at.place i) (sym outcome_is)

        abbrev done : List Bool
        done = node.done ++ piece_is.piece

        whole : o ≡ done ++ piece_is.after
        whole = node.whole ∙ ap (λ r. node.done ++ r) piece_is.whole ∙ sym (append_assoc node.done piece_is.piece piece_is.after)

        count : next.used ≡ length done
        count = piece_is.count at.used ∙ ap (λ k. k + length piece_is.piece) node.count ∙ sym (length-append node.done piece_is.piece)

        leads : (r : List Bool) → onward at.place i (piece_is.piece ++ r) ≡ Some (to next.place r)
        leads r = piece_is.leads r ∙ ap (λ k. Some (to k r)) place_is

        -- a path that passes leaves the descent, ends here or goes further
        record Further (q : List Bool) (s : ℕ) : Type 0 where
          pub can : excludes node.marks i false ≡ false
          pub passes : Passes (n + 1) done piece_is.after at.least q s

        abbrev EndsHere : Bool → Type 0
        EndsHere v = is_end code scope (n + 1) node.marks i next o ≡ v

        no_after : (after : List Bool) (s : ℕ) → is_from after at.least [] s ≡ true → (after ≡ []) × (nat_le at.least s ≡ true)
        no_after [] s from = (refl, from)
        no_after (b ∷ after) s from = absurd (cc)

        -- the last step of a path that ends here
        ended : (q : List Bool) (s : ℕ) (last : List Bool) → s ≡ suc (n + 0) → is_from piece_is.after at.least last s ≡ true
            → (is_nil last && is_last code scope.function scope.aim node.marks i next.place) ≡ true → EndsHere true
        ended q s [] steps from is =
            let none = no_after piece_is.after s from in
            let all : (next.used == length o) ≡ true = eq-eqb next.used (length o)
            (count ∙ sym (ap length whole ∙ ap (λ r. length (done ++ r)) none.0 ∙ ap length (append-nil done))) in
            let same : n + 1 ≡ s = omega (arith, steps) in
            let enough : nat_le at.least (n + 1) ≡ true = ap (nat_le at.least) same ∙ none.1 in
            let last : Bool = is_last code scope.function scope.aim node.marks i next.place in
            ap (λ v. (v && nat_le at.least (n + 1)) && last) all ∙ ap (λ v. (true && v) && last) enough ∙ is
        ended q s (b ∷ last) steps from is = absurd (cc)

        gone : (q : List Bool) (s : ℕ) (last : List Bool) (more : ℕ) → q ≡ node.done ++ (piece_is.piece ++ last) → s ≡ suc (n + more)
            → is_from piece_is.after at.least last s ≡ true
            → goes code scope.function scope.aim more node.marks at.place (piece_is.piece ++ last) ≡ true → EndsHere true ⊎ Further q s
        gone q s last zero outcomes steps from on =
            inl (ended q s last steps from
            (sym (goes_last code scope.function scope.aim node.marks at.place (piece_is.piece ++ last) i there (to next.place last) (leads last)) ∙ on))
        gone q s last (suc more) outcomes steps from on =
            let parts = and_parts (not (excludes node.marks i false)) (goes code scope.function scope.aim more (marks_after_instr node.marks i) next.place last)
            (sym (goes_more code scope.function scope.aim node.marks at.place (piece_is.piece ++ last) i there (to next.place last) (leads last) more) ∙ on) in
            inr (record {
              can = not-true (excludes node.marks i false) parts.0;
              passes = record {
                later = last;
                more = more;
                outcomes = outcomes ∙ sym (append_assoc node.done piece_is.piece last);
                steps = omega (arith, steps);
                within = from;
              };
            })

        abbrev Fate : List Bool → ℕ → Type 0
        Fate q s = (leaves_behind o q ≡ true) ⊎ (EndsHere true ⊎ Further q s)

        fate_by : (q : List Bool) (s : ℕ) → takes code scope q s ≡ true → (p : Passes n node.done node.rest at.least q s)
            → (onward at.place i p.later ≡ None) ⊎ ((leaves_behind node.rest p.later ≡ true) ⊎ Follows piece_is.piece piece_is.after at.least p.later s)
            → Fate q s
        fate_by q s may p (inl none) =
            let nowhere : goes code scope.function scope.aim p.more node.marks at.place p.later ≡ false =
            goes_short code scope.function scope.aim node.marks at.place p.later i there p.more none in
            let somewhere : goes code scope.function scope.aim p.more node.marks at.place p.later ≡ true = goes_on q s may p in
            absurd (cc)
        fate_by q s may p (inr (inl is)) =
            inl (ap (λ x. leaves_behind x q) node.whole ∙ ap (leaves_behind (node.done ++ node.rest)) p.outcomes
            ∙ behind_after node.done node.rest p.later is)
        fate_by q s may p (inr (inr on)) =
            inr (gone q s on.then_ p.more (p.outcomes ∙ ap (λ r. node.done ++ r) on.is) p.steps on.within
            (ap (goes code scope.function scope.aim p.more node.marks at.place) (sym on.is) ∙ goes_on q s may p))

        fate_of : (q : List Bool) (s : ℕ) → takes code scope q s ≡ true
            → (leaves_behind o q ≡ true) ⊎ Passes n node.done node.rest at.least q s → Fate q s
        fate_of q s may (inl is) = inl is
        fate_of q s may (inr p) = fate_by q s may p (piece_is.others at.least p.later s p.within)

        fate : (q : List Bool) (s : ℕ) → takes code scope q s ≡ true → is_from start first q s ≡ true → Fate q s
        fate q s may from = fate_of q s may (node.left q s may from)

        -- no path ends here or goes further
        dead_by : EndsHere false → excludes node.marks i false ≡ true → (q : List Bool) (s : ℕ) → Fate q s → (leaves_behind o q ≡ true) ⊎ ⊥
        dead_by never cannot q s (inl is) = inl is
        dead_by never cannot q s (inr (inl here)) = absurd (cc)
        dead_by never cannot q s (inr (inr further)) = absurd (let can = further.can in cc)

        pub dead : EndsHere false → excludes node.marks i false ≡ true → IsSpent code scope start first o (λ q s. ⊥)
        dead never cannot = record {
          few = node.few;
          value = node.value;
          behind = node.behind;
          others = λ q s may from. dead_by never cannot q s (fate q s may from);
        }

        -- the next node
        on_by_fate : EndsHere false → (q : List Bool) (s : ℕ) → Fate q s → (leaves_behind o q ≡ true) ⊎ Passes (n + 1) done piece_is.after at.least q s
        on_by_fate never q s (inl is) = inl is
        on_by_fate never q s (inr (inl here)) = absurd (cc)
        on_by_fate never q s (inr (inr further)) = inr further.passes

        module _ (never : EndsHere false) (can : excludes node.marks i false ≡ false) where
          same_on : (m : ℕ) (r : List Bool) → ways ((n + 1) + m) (done ++ r) ≡ goes code scope.function scope.aim m (marks_after_instr node.marks i) next.place r
          same_on m r =
              let steps : (n + 1) + m ≡ n + suc m = omega arith in
              ap (λ k. ways k (done ++ r)) steps
              ∙ ap (ways (n + suc m)) (append_assoc node.done piece_is.piece r)
              ∙ node.same (suc m) (piece_is.piece ++ r)
              ∙ goes_more code scope.function scope.aim node.marks at.place (piece_is.piece ++ r) i there (to next.place r) (leads r) m
              ∙ ap (λ v. not v && goes code scope.function scope.aim m (marks_after_instr node.marks i) next.place r) can

          along_on : (m : ℕ) (r : List Bool) → places_from code scope.function ((n + 1) + m) 0 (done ++ r)
              ≡ prefixed (past.places.items ++ at.place ∷ []) (places_from code scope.function m next.place r)
          along_on m r =
              let steps : (n + 1) + m ≡ n + suc m = omega arith in
              ap (λ k. places_from code scope.function k 0 (done ++ r)) steps
              ∙ ap (places_from code scope.function (n + suc m) 0) (append_assoc node.done piece_is.piece r)
              ∙ node.along (suc m) (piece_is.piece ++ r)
              ∙ ap (prefixed past.places.items)
              (step_more code scope.function (suc m) m at.place (piece_is.piece ++ r) i (to next.place r) (omega arith) there (leads r))
              ∙ prefixed_before past.places.items at.place (places_from code scope.function m next.place r)

          pub next_node : (past' : Past) → past'.own ≡ own_of (marks_after_instr node.marks i) → past'.known ≡ known_after past.known i
              → past'.places.items ≡ past.places.items ++ at.place ∷ [] → IsNode code scope start first (n + 1) next o past'
          next_node past' is knows places = record {
            marks = marks_after_instr node.marks i;
            is = is;
            done = done;
            rest = piece_is.after;
            whole = whole;
            count = count;
            few = node.few;
            value = node.value;
            same = same_on;
            long = ap length places ∙ length-append past.places.items (at.place ∷ []) ∙ ap (λ k. k + 1) node.long;
            known = knows ∙ ap (λ (x : Known). known_after x i) node.known
                ∙ known_next code scope.function past.places.items n node.long at.place i there
                ∙ ap (λ ps. known_before code scope.function ps (n + 1)) (sym places);
            along = λ m r. along_on m r ∙ ap (λ ps. prefixed ps (places_from code scope.function m next.place r)) (sym places);
            back = λ r s from. ap (λ x. is_from start first x s) (append_assoc node.done piece_is.piece r)
                ∙ node.back (piece_is.piece ++ r) s (piece_is.back at.least r s from);
            behind = node.behind;
            left = λ q s may from. on_by_fate never q s (fate q s may from);
          }

        -- a path ends here
        module _ (here : EndsHere true) (room : n < STEPS) where
          abbrev Parts : Type 0
          Parts = ((next.used == length o) ≡ true) × (nat_le at.least (n + 1) ≡ true) × (is_last code scope.function scope.aim node.marks i next.place ≡ true)

          parts : Parts
          parts =
              let outer = and_parts (next.used == length o && nat_le at.least (n + 1)) (is_last code scope.function scope.aim node.marks i next.place) here in
              let inner = and_parts (next.used == length o) (nat_le at.least (n + 1)) outer.0 in
              (inner.0, inner.1, outer.1)

          nothing_after : (after : List Bool) → o ≡ done ++ after → after ≡ []
          nothing_after [] is = refl
          nothing_after (b ∷ after) is =
              absurd (omega (arith, ap length is, length-append done (b ∷ after), count, eqb-true next.used (length o) parts.0))

          all_is : o ≡ node.done ++ (piece_is.piece ++ [])
          all_is = whole ∙ ap (λ r. done ++ r) (nothing_after piece_is.after whole) ∙ append_assoc node.done piece_is.piece []

          may_take : takes code scope o (n + 1) ≡ true
          may_take =
              of_parts o (node.done ++ (piece_is.piece ++ [])) (n + 1) (n + 0) all_is (omega arith)
              ∙ node.same 0 (piece_is.piece ++ [])
              ∙ goes_last code scope.function scope.aim node.marks at.place (piece_is.piece ++ []) i there (to next.place []) (leads [])
              ∙ parts.2

          within : is_from start first o (n + 1) ≡ true
          within =
              ap (λ x. is_from start first x (n + 1)) all_is
              ∙ node.back (piece_is.piece ++ []) (n + 1) (piece_is.back at.least [] (n + 1)
              (ap (λ x. is_from x at.least [] (n + 1)) (nothing_after piece_is.after whole) ∙ parts.1))

          first_by : (q : List Bool) (s : ℕ) → takes code scope q s ≡ true → (p : Passes n node.done node.rest at.least q s)
              → (onward at.place i p.later ≡ None) ⊎ ((leaves_behind node.rest p.later ≡ true) ⊎ Follows piece_is.piece piece_is.after at.least p.later s)
              → is_from o (n + 1) q s ≡ true
          first_by q s may p (inl none) =
              let nowhere : goes code scope.function scope.aim p.more node.marks at.place p.later ≡ false =
              goes_short code scope.function scope.aim node.marks at.place p.later i there p.more none in
              let somewhere : goes code scope.function scope.aim p.more node.marks at.place p.later ≡ true = goes_on q s may p in
              absurd (cc)
          first_by q s may p (inr (inl is)) =
              behind_from o (n + 1) q s (ap (λ x. leaves_behind x q) node.whole ∙ ap (leaves_behind (node.done ++ node.rest)) p.outcomes
              ∙ behind_after node.done node.rest p.later is)
          first_by q s may p (inr (inr on)) =
              let begins : q ≡ o ++ on.then_ =
              p.outcomes ∙ ap (λ r. node.done ++ r) on.is ∙ sym (append_assoc node.done piece_is.piece on.then_)
              ∙ ap (λ x. x ++ on.then_) (sym (all_is ∙ ap (λ r. node.done ++ r) (append-nil piece_is.piece))) in
              ap (λ x. is_from o (n + 1) x s) begins ∙ front_from o (n + 1) on.then_ s (omega (arith, p.steps))

          first_of_all : (q : List Bool) (s : ℕ) → takes code scope q s ≡ true
              → (leaves_behind o q ≡ true) ⊎ Passes n node.done node.rest at.least q s → is_from o (n + 1) q s ≡ true
          first_of_all q s may (inl is) = behind_from o (n + 1) q s is
          first_of_all q s may (inr p) = first_by q s may p (piece_is.others at.least p.later s p.within)

          pub found : IsLowest code scope start first o (n + 1)
          found = record {
            may = may_take;
            few = node.few;
            short = omega (arith, room);
            within = within;
            others = λ q s may from. first_of_all q s may (node.left q s may from);
          }

  -- the first node
  module _ (o : List Bool) (least : ℕ) (few : length o ≤ scope.most)
      (steps : (takes code scope [] 0 && is_from o least [] 0) ≡ false) where
    no_steps : (q : List Bool) → takes code scope q 0 ≡ true → is_from o least q 0 ≡ true → ⊥
    no_steps [] may from =
        let both : (takes code scope [] 0 && is_from o least [] 0) ≡ true = ap (λ v. v && is_from o least [] 0) may ∙ from in
        absurd cc
    no_steps (b ∷ q) may from = absurd cc

    first_left : (q : List Bool) (s : ℕ) → takes code scope q s ≡ true → is_from o least q s ≡ true
        → (leaves_behind o q ≡ true) ⊎ Passes 0 [] o least q s
    first_left q zero may from = absurd (no_steps q may from)
    first_left q (suc n) may from =
        inr (record { later = q; more = n; outcomes = refl; steps = omega arith; within = from })

    none_before : (r : Result (List ℕ) Misfit) → r ≡ prefixed [] r
    none_before (Ok places) = refl
    none_before (Err fault) = refl

    pub first_node : (past : Past) → past.own ≡ own_of (marks_at_start code scope.function) → past.known ≡ known_at_start code scope.function
        → past.places.items ≡ []
        → IsNode code scope o least 0 (record { place = 0; used = 0; least = least }) o past
    first_node past is knows none = record {
      marks = marks_at_start code scope.function;
      is = is;
      done = [];
      rest = o;
      whole = refl;
      count = refl;
      few = few;
      value = refl;
      same = λ m r. ap (λ k. ways k r) (zero-add m);
      long = ap length none;
      known = knows;
      along = λ m r. ap (λ k. places_from code scope.function k 0 r) (zero-add m) ∙ none_before (places_from code scope.function m 0 r)
          ∙ ap (λ ps. prefixed ps (places_from code scope.function m 0 r)) (sym none);
      back = λ r s from. from;
      behind = λ q s is. behind_from o least q s is;
      left = first_left;
    }
