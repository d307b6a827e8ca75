-- What is known while the places of a function are found.
use Rattle.std.proofs.Common.{◌≡◌, ◌∙◌, ◌⊎◌, inl, inr, ℕ, ◌≤◌, ◌==◌, ◌&&◌, not, List, [], ◌∷◌, ◌++◌, map, true, false, Option, Some, None, option_and_then, slice_get, refl, ap, sym, subst, arith, Vec, slice_index_or, if◌then◌else◌, nat_lt}
use Rattle.std.specs.Global.{Global}
use Rattle.std.specs.List.{Contains, find, list_any}
use Rattle.std.specs.Option.{option_map_or}
use Rattle.std.proofs.lemmas.Bool.{cases_Bool, false≢true, eq-eqb, eqb-true, ltb-false, le-ltb}
use Rattle.std.proofs.lemmas.Cmp.{nat_list_cmp_total}
use Rattle.std.proofs.lemmas.List.Elements.{Contains-push, Contains-append_left, Contains-push_cases}
use Rattle.std.proofs.lemmas.Option.{none-some, same_Some}
use Rattle.tc_code.specs.declared.instr.Instr.{Instr}
use Rattle.places.specs.declared.place.Round.{Round}
use Rattle.places.specs.code_loops.Loops.{LoopsNest}
use Rattle.places.specs.Places.{Place, key, is_cut, place_at, place_after, first_place, round_after, loops_around, successors, enters, reached_by, IsReached, IsEarlier, Rise}
use Rattle.std.proofs.Common.{Less}
use Rattle.std.specs.Cmp.Lexicographic.{slice_cmp}
use Rattle.std.specs.Ordering.{nat_cmp}
use Rattle.places.specs.helpers.Waiting.{Waiting, by_items, Adds, AddsAll}
use Rattle.places.proofs.Inserting.{Entry, IsKeyed, here, there, split, none, origin, added, stays}
use Rattle.places.proofs.Rise.{rises, leads_of}

-- ---- one place is added, and then several

module _ (limits : List ℕ) (q : Place) (old new : Waiting) (a : Adds limits q old new) where
  pub one_origin : (e : Entry) → Contains new e → ((e.1 ≡ q) × (e.0.items ≡ key q) × (is_cut limits q ≡ false)) ⊎ Contains old e
  one_origin e c = elim (cases_Bool (is_cut limits q)) [
    | inl cut ↦ inr (subst (λ w. Contains w e) (a.cut cut) c)
    | inr within ↦
        let it = a.there within in
        elim (origin it.0 q it.1 old e (subst (λ w. Contains w e) it.2 c)) [ inl o ↦ inl (o.0, o.1, within) | inr o ↦ inr o ]
  ]

  pub one_stays : IsKeyed old → (e : Entry) → Contains old e → (f : Entry) × Contains new f × (f.1 ≡ e.1)
  one_stays ok e c = elim (cases_Bool (is_cut limits q)) [
    | inl cut ↦ (e, subst (λ w. Contains w e) (sym (a.cut cut)) c, refl)
    | inr within ↦
        let it = a.there within in
        let s = stays it.0 q it.1 old ok e c in
        (s.0, subst (λ w. Contains w s.0) (sym it.2) s.1, s.2)
  ]

  pub one_added : is_cut limits q ≡ false → (f : Entry) × Contains new f × (f.1 ≡ q)
  one_added within = let it = a.there within in let s = added it.0 q it.1 old in (s.0, subst (λ w. Contains w s.0) (sym it.2) s.1, s.2)

  pub one_keyed : IsKeyed old → IsKeyed new
  one_keyed ok e c = elim (one_origin e c) [ inl o ↦ o.1 ∙ ap key (sym o.0) | inr o ↦ ok e o ]

module _ (limits : List ℕ) (next : ℕ → Place) where
  pub all_keyed : (tos : List ℕ) (old new : Waiting) → AddsAll limits next tos old new → IsKeyed old → IsKeyed new
  all_keyed [] old new a ok = subst IsKeyed (sym a) ok
  all_keyed (to ∷ tos) old new (m, a, rest) ok = all_keyed tos m new rest (one_keyed limits (next to) old m a ok)

  pub all_origin : (tos : List ℕ) (old new : Waiting) → AddsAll limits next tos old new → (e : Entry) → Contains new e
      → ((to : ℕ) × Contains tos to × (e.1 ≡ next to) × (is_cut limits (next to) ≡ false)) ⊎ Contains old e
  all_origin [] old new a e c = inr (subst (λ w. Contains w e) a c)
  all_origin (to ∷ tos) old new (m, a, rest) e c = elim (all_origin tos m new rest e c) [
    | inl it ↦ inl (it.0, there to it.0 tos it.1, it.2, it.3)
    | inr d ↦ elim (one_origin limits (next to) old m a e d) [
      | inl it ↦ inl (to, here to to tos refl, it.0, it.2)
      | inr o ↦ inr o
    ]
  ]

  pub all_stays : (tos : List ℕ) (old new : Waiting) → AddsAll limits next tos old new → IsKeyed old → (e : Entry) → Contains old e
      → (f : Entry) × Contains new f × (f.1 ≡ e.1)
  all_stays [] old new a ok e c = (e, subst (λ w. Contains w e) (sym a) c, refl)
  all_stays (to ∷ tos) old new (m, a, rest) ok e c =
      let s = one_stays limits (next to) old m a ok e c in
      let t = all_stays tos m new rest (one_keyed limits (next to) old m a ok) s.0 s.1 in
      (t.0, t.1, t.2 ∙ s.2)

  pub all_added : (tos : List ℕ) (old new : Waiting) → AddsAll limits next tos old new → IsKeyed old → (to : ℕ) → Contains tos to
      → is_cut limits (next to) ≡ false → (f : Entry) × Contains new f × (f.1 ≡ next to)
  all_added [] old new a ok to c within = absurd (none to c)
  all_added (t ∷ tos) old new (m, a, rest) ok to c within =
      let keyed = one_keyed limits (next t) old m a ok in
      elim (split t to tos c) [
        | inl same ↦
            let it = one_added limits (next t) old m a (subst (λ k. is_cut limits (next k) ≡ false) (sym same) within) in
            let s = all_stays tos m new rest keyed it.0 it.1 in
            (s.0, s.1, s.2 ∙ it.2 ∙ ap next same)
        | inr later ↦ all_added tos m new rest keyed to later within
      ]

-- ---- places that are reached

module _ (is : List Instr) (limits : List ℕ) where
  -- a place to which a way leads without passing a cut
  pub record Enters (p : Place) (to : ℕ) (q : Place) : Type 0 where
    pub instr : Instr
    pub there : slice_get is p.instruction ≡ Some instr
    pub leads : list_any (λ k. k == to) (successors p.instruction instr) ≡ true
    pub within : is_cut limits (place_after is p to) ≡ false
    pub same : q ≡ place_after is p to

  pub entered : (p : Place) (to : ℕ) (q : Place) → enters is limits p to ≡ Some q → Enters p to q
  entered p to q e = go (slice_get is p.instruction) refl e where
    go : (o : Option Instr) → o ≡ slice_get is p.instruction
        → option_and_then (λ i. if list_any (λ k. k == to) (successors p.instruction i) && not (is_cut limits (place_after is p to)) then Some (place_after is p to) else None) o ≡ Some q
        → Enters p to q
    go None at e = absurd (none-some q e)
    go (Some i) at e = elim (cases_Bool (list_any (λ k. k == to) (successors p.instruction i))) [
      | inr f ↦ absurd (none-some q (rw f at e))
      | inl t ↦ elim (cases_Bool (is_cut limits (place_after is p to))) [
        | inl cut ↦ absurd (none-some q (rw (t, cut) at e))
        | inr free ↦ record { instr = i; there = sym at; leads = t; within = free; same = sym (same_Some (place_after is p to) q (rw (t, free) at e)) }
      ]
    ]

  pub enter : (p : Place) (to : ℕ) (i : Instr) → slice_get is p.instruction ≡ Some i → list_any (λ k. k == to) (successors p.instruction i) ≡ true
      → is_cut limits (place_after is p to) ≡ false → enters is limits p to ≡ Some (place_after is p to)
  enter p to i at t free = rw (at, t, free) refl

  -- a place that was found: it was gone on from, or waits
  abbrev pub Found : List Place → Waiting → Place → Type 0
  Found ps w q = Contains ps q ⊎ ((e : Entry) × Contains w e × (e.1 ≡ q))

  pub record Goes (ps : List Place) (w : Waiting) : Type 0 where
    pub rise : Rise ps
    pub ahead : (p : Place) (e : Entry) → Contains ps p → Contains w e → IsEarlier p e.1
    pub keyed : IsKeyed w
    pub reached : (p : Place) → Contains ps p → IsReached is limits p
    pub waits : (e : Entry) → Contains w e → IsReached is limits e.1
    pub first : Found ps w (first_place is)
    pub closed : (p : Place) (to : ℕ) (q : Place) → Contains ps p → enters is limits p to ≡ Some q → Found ps w q

  -- a loop's round isn't beyond its limit
  pub limited : (rounds : List Round) → list_any (λ r. nat_lt (slice_index_or limits r.first 0) r.number) rounds ≡ false → (first : ℕ)
      → option_map_or (λ (r : Round). r.number) (find (λ (r : Round). r.first == first) rounds) 0 ≤ slice_index_or limits first 0
  limited [] e first = omega arith
  limited (r ∷ rs) e first =
      elim (cases_Bool (nat_lt (slice_index_or limits r.first 0) r.number)) [
        | inl t ↦ absurd (false≢true (sym (rw t at e)))
        | inr f ↦ elim (cases_Bool (r.first == first)) [
          | inl same ↦ rw same (subst (λ n. r.number ≤ slice_index_or limits n 0) (eqb-true r.first first same) (ltb-false (slice_index_or limits r.first 0) r.number f))
          | inr other ↦ rw other (limited rs (rw f at e) first)
        ]
      ]

  first_free : (bs : List ℕ) → list_any (λ (r : Round). nat_lt (slice_index_or limits r.first 0) r.number) (map (λ a. record { first = a; number = 0 }) bs) ≡ false
  first_free [] = refl
  first_free (b ∷ bs) = rw (le-ltb (slice_index_or limits b 0) 0 (omega arith)) (first_free bs)

  -- what is known of a place that is reached
  pub record IsGood (p : Place) : Type 0 where
    pub number : ℕ → ℕ
    pub shape : p ≡ place_at is p.instruction number
    pub free : is_cut limits p ≡ false

  pub good : (tos : List ℕ) (p : Place) → reached_by is limits tos ≡ Some p → IsGood p
  good [] p e = subst IsGood (same_Some (first_place is) p e)
      (record { number = λ a. 0; shape = refl; free = first_free (loops_around is 0) })
  good (to ∷ tos) p e = go (reached_by is limits tos) e where
    go : (o : Option Place) → option_and_then (λ q. enters is limits q to) o ≡ Some p → IsGood p
    go None e = absurd (none-some p e)
    go (Some q) e =
        let it = entered q to p e in
        subst IsGood (sym it.same) (record { number = round_after q to; shape = refl; free = it.within })

-- ---- one more place

-- the members of a list, by a test
pub listed_in : (xs : List ℕ) (x : ℕ) → list_any (λ k. k == x) xs ≡ true → Contains xs x
listed_in [] x e = absurd (false≢true e)
listed_in (y ∷ ys) x e = elim (cases_Bool (y == x)) [
  | inl t ↦ here y x ys (eqb-true y x t)
  | inr f ↦ there y x ys (listed_in ys x (rw f at e))
]

pub is_listed : (xs : List ℕ) (x : ℕ) → Contains xs x → list_any (λ k. k == x) xs ≡ true
is_listed [] x c = absurd (none x c)
is_listed (y ∷ ys) x c = elim (split y x ys c) [
  | inl same ↦ rw (eq-eqb y x same) refl
  | inr later ↦ elim (cases_Bool (y == x)) [ inl t ↦ rw t refl | inr f ↦ rw f (is_listed ys x later) ]
]

pub rise_more : (ps : List Place) (p : Place) → Rise ps → ((q : Place) → Contains ps q → IsEarlier q p) → Rise (ps ++ p ∷ [])
rise_more [] p r before = ((λ q c. absurd (none q c)), tt)
rise_more (q ∷ qs) p r before = (
  (λ x c. elim (Contains-push_cases qs p x c) [ inl old ↦ r.0 x old | inr same ↦ subst (IsEarlier q) same (before q (here q q qs refl)) ]),
  rise_more qs p r.1 (λ x c. before x (there q x qs c)),
)

module _ (is : List Instr) (limits : List ℕ) (nest : LoopsNest is) (ps : List Place) (k : Vec ℕ Global) (p : Place) (w new : Waiting) (i : Instr)
    (goes : Goes is limits ps ((k, p) ∷ w)) (behind : (e : Entry) → Contains w e → by_items k e.0 ≡ Less) (at : slice_get is p.instruction ≡ Some i)
    (adds : AddsAll limits (place_after is p) (successors p.instruction i) w new) where
  abbrev head : Entry
  head = (k, p)

  mine : IsReached is limits p
  mine = goes.waits head (here head head w refl)

  its_key : k.items ≡ key p
  its_key = goes.keyed head (here head head w refl)

  old_keyed : IsKeyed w
  old_keyed e c = goes.keyed e (there head e w c)

  -- a place to which p leads is later
  next_later : (to : ℕ) → Contains (successors p.instruction i) to → IsEarlier p (place_after is p to)
  next_later to c =
      let it = good is limits mine.0 p mine.1 in
      subst (λ q. IsEarlier q (place_after is q to)) (sym it.shape)
      (rises is nest p.instruction it.number i to at (leads_of p.instruction i to c))

  new_reached : (to : ℕ) → Contains (successors p.instruction i) to → is_cut limits (place_after is p to) ≡ false → IsReached is limits (place_after is p to)
  new_reached to c within =
      (to ∷ mine.0, rw mine.1 (enter is limits p to i at (is_listed (successors p.instruction i) to c) within))

  kept_found : (q : Place) → Found is limits ps (head ∷ w) q → Found is limits (ps ++ p ∷ []) new q
  kept_found q (inl c) = inl (Contains-append_left ps (p ∷ []) q c)
  kept_found q (inr (e, c, same)) =
      elim (split head e w c) [
        | inl it ↦ inl (subst (Contains (ps ++ p ∷ [])) (ap (λ x. x.1) it ∙ same) (Contains-push ps p))
        | inr rest ↦
            let s = all_stays limits (place_after is p) (successors p.instruction i) w new adds old_keyed e rest in
            inr (s.0, s.1, s.2 ∙ same)
      ]

  pub goes_further : Goes is limits (ps ++ p ∷ []) new
  goes_further = record {
    rise = rise_more ps p goes.rise (λ q c. goes.ahead q head c (here head head w refl));
    ahead = λ q e c d.
        elim (all_origin limits (place_after is p) (successors p.instruction i) w new adds e d) [
          | inl (to, leads, same, within) ↦
              let after_p : IsEarlier p e.1 = subst (IsEarlier p) (sym same) (next_later to leads) in
              elim (Contains-push_cases ps p q c) [
                | inl old ↦ nat_list_cmp_total.trans (key q) (key p) (key e.1) (goes.ahead q head old (here head head w refl)) after_p
                | inr it ↦ subst (λ x. IsEarlier x e.1) it after_p
              ]
          | inr rest ↦ elim (Contains-push_cases ps p q c) [
            | inl old ↦ goes.ahead q e old (there head e w rest)
            | inr it ↦ subst (λ x. IsEarlier x e.1) it
                (subst (λ xs. slice_cmp nat_cmp xs (key e.1) ≡ Less) its_key (subst (λ xs. slice_cmp nat_cmp k.items xs ≡ Less) (old_keyed e rest) (behind e rest)))
          ]
        ];
    keyed = all_keyed limits (place_after is p) (successors p.instruction i) w new adds old_keyed;
    reached = λ q c. elim (Contains-push_cases ps p q c) [ inl old ↦ goes.reached q old | inr it ↦ subst (IsReached is limits) it mine ];
    waits = λ e c.
        elim (all_origin limits (place_after is p) (successors p.instruction i) w new adds e c) [
          | inl (to, leads, same, within) ↦ subst (IsReached is limits) (sym same) (new_reached to leads within)
          | inr rest ↦ goes.waits e (there head e w rest)
        ];
    first = kept_found (first_place is) goes.first;
    closed = λ q to r c e.
        elim (Contains-push_cases ps p q c) [
          | inl old ↦ kept_found r (goes.closed q to r old e)
          | inr it ↦
              let n = entered is limits q to r e in
              let same_instr : n.instr ≡ i = same_Some n.instr i (sym n.there ∙ ap (λ x. slice_get is x.instruction) (sym it) ∙ at) in
              let listed : Contains (successors p.instruction i) to =
              subst (λ x. Contains (successors x.instruction i) to) (sym it)
              (subst (λ x. Contains (successors q.instruction x) to) same_instr (listed_in (successors q.instruction n.instr) to n.leads)) in
              let a = all_added limits (place_after is p) (successors p.instruction i) w new adds old_keyed to listed
              (subst (λ x. is_cut limits (place_after is x to) ≡ false) (sym it) n.within) in
              inr (a.0, a.1, a.2 ∙ ap (λ x. place_after is x to) it ∙ sym n.same)
        ];
  }
