-- What the conjuncts of a sleep say about a world.
use Rattle.std.proofs.Common.{◌≡◌, ◌∙◌, inl, inr, ℕ, ◌<◌, Bool, true, false, not, List, [], ◌∷◌, ◌++◌, map, Option, Some, None}
use Rattle.std.proofs.Common.{refl, sym, ap, subst, arith, cond}
use Rattle.std.specs.Prelude.{◌==◌, nat_lt}
use Rattle.std.specs.List.{Contains, filter, flat_map, list_any}
use Rattle.std.specs.Option.{option_map_or}
use Rattle.std.proofs.lemmas.Bool.{false≢true, ltb-true, lt-ltb, ne_eqb, or_cases, or_left, or_right, cases_Bool, not_from_false}
use Rattle.std.proofs.lemmas.Option.{same_Some}
use Rattle.std.proofs.lemmas.List.Elements.{Contains-append_left, Contains-append_right, Contains-append_cases}
use Rattle.std.proofs.lemmas.List.Folds.{list_any-append}
use Rattle.order_formula.specs.sym_terms.declared.node.Node.{Node}
use Rattle.order_formula.specs.declared.literal.Atom.TheVariants.{Before, Ends}
use Rattle.order_formula.specs.declared.formula.Conjunct.{Conjunct}
use Rattle.order_formula.specs.Worlds.{World, position, is_before, is_ended}
use Rattle.order_formula.specs.Truth.{case_at, body_at}
use Rattle.order_events.specs.lawful_order.Events.{ender_of}
use Rattle.condition_order.specs.declared.wait.Wait.{Wait}
use Rattle.condition_order.specs.declared.wait.Ender.{Ender}
use Rattle.condition_order.specs.Conditions.{holds, fails, begun, ended, ended_before, woken, not_both, ends_no_later, cases_before, cases_one, not_lost, wait_formula}
use Rattle.order_events.proofs.Lists.{in_front, in_back, of_nil, of_cons, in_map, of_map, in_flat_map, of_flat_map, in_filter, of_filter, any_in, of_any}
use Rattle.condition_order.proofs.Truth.{before_to, before_from, ended_to, ended_from, holds_to, holds_from, fails_to, fails_from, both_to, both_from}
use Rattle.condition_order.proofs.Truth.{follows_to, follows_from, excludes_to, excludes_from}

-- the sleeps of which an ender must end one
abbrev pub ended_by : Wait → List ℕ → Ender → List ℕ
ended_by x rs g = cond g.all (x.sleep ∷ []) rs

module _ (nodes : List Node) (w : World) (x : Wait) (es : List Ender) (rs : List ℕ) where
  -- one of the enders has ended the sleep before another comes
  pub record IsEndedBefore (g : Ender) : Type 0 where
    pub by : Ender
    pub there : Contains es by
    pub ends : ender_of w x.sleep ≡ Some by.event
    pub before : position w by.event < position w g.event

  -- an ender ends one of the sleeps that it may end
  pub record EndsOne (g : Ender) : Type 0 where
    pub sleep : ℕ
    pub there : Contains (ended_by x rs g) sleep
    pub ends : ender_of w sleep ≡ Some g.event

  -- an ender ends the sleep before this event
  pub record IsWokenBefore (k : ℕ) : Type 0 where
    pub by : Ender
    pub there : Contains es by
    pub ends : ender_of w x.sleep ≡ Some by.event
    pub before : position w by.event < position w k

  pub record Meets : Type 0 where
    pub begun : (g : Ender) → Contains es g → ender_of w x.sleep ≡ Some g.event → position w x.begins < position w g.event
    pub woken : (k : ℕ) → x.wakes ≡ Some k → IsWokenBefore k
    pub one : (g : Ender) (r : ℕ) → Contains es g → g.all ≡ false → Contains rs r → x.sleep < r
        → ender_of w x.sleep ≡ Some g.event → ender_of w r ≡ Some g.event → ⊥
    pub some : (g : Ender) → Contains es g → position w x.begins < position w g.event → (IsEndedBefore g → ⊥) → EndsOne g

  abbrev pub True : Conjunct → Type 0
  True c = body_at nodes w c.body ≡ true

  abbrev pub AllTrue : List Conjunct → Type 0
  AllTrue cs = (c : Conjunct) → Contains cs c → True c

  -- the conjuncts imply what they say
  ended_to_one : (k : ℕ) → True (ended x es) → AllTrue (map (ended_before x k) es) → IsWokenBefore k
  ended_to_one k some all =
      let o = of_any (case_at nodes w) (map (λ g. holds (Ends x.sleep g.event) ∷ []) es) some in
      let m = of_map (λ g. holds (Ends x.sleep g.event) ∷ []) o.0 es o.1 in
      let g = m.0 in
      let is : is_ended w x.sleep g.event ≡ true =
      holds_to nodes w (Ends x.sleep g.event) (ap (case_at nodes w) m.2 ∙ o.2) in
      record {
        by = g;
        there = m.1;
        ends = ended_to w x.sleep g.event is;
        before = before_to w g.event k (follows_to nodes w (Ends x.sleep g.event) (Before g.event k)
            (all (ended_before x k g) (in_map (ended_before x k) g es m.1)) is);
      }

  woken_to : (o : Option ℕ) → AllTrue (option_map_or (λ k. ended x es ∷ map (ended_before x k) es) o []) → (k : ℕ) → o ≡ Some k → IsWokenBefore k
  woken_to None all k e = absurd cc
  woken_to (Some j) all k e =
      subst IsWokenBefore (same_Some j k e)
      (ended_to_one j (all (ended x es) (in_front (ended x es) (map (ended_before x j) es)))
      (λ c i. all c (in_back c (ended x es) (map (ended_before x j) es) i)))

  later_to : (g : Ender) (r : ℕ) (b : Bool) → b ≡ false → AllTrue (cond b [] (map (not_both x g) (filter (λ r. nat_lt x.sleep r) rs)))
      → Contains rs r → x.sleep < r → True (not_both x g r)
  later_to g r true e all i lt = absurd (false≢true (sym e))
  later_to g r false e all i lt =
      all (not_both x g r) (in_map (not_both x g) r (filter (λ r. nat_lt x.sleep r) rs) (in_filter (λ r. nat_lt x.sleep r) r rs i (lt-ltb x.sleep r lt)))

  before_any : (g : Ender) → list_any (case_at nodes w) (cases_before x es g) ≡ true → IsEndedBefore g
  before_any g any =
      let pass = λ (h : Ender). not (h.event == g.event) in
      let case = λ (h : Ender). holds (Ends x.sleep h.event) ∷ holds (Before h.event g.event) ∷ [] in
      let o = of_any (case_at nodes w) (cases_before x es g) any in
      let m = of_map case o.0 (filter pass es) o.1 in
      let f = of_filter pass m.0 es m.1 in
      let both = both_to nodes w (Ends x.sleep m.0.event) (Before m.0.event g.event) (ap (case_at nodes w) m.2 ∙ o.2) in
      record {
        by = m.0;
        there = f.0;
        ends = ended_to w x.sleep m.0.event both.0;
        before = before_to w m.0.event g.event both.1;
      }

  one_any : (g : Ender) → list_any (case_at nodes w) (cases_one g (ended_by x rs g)) ≡ true → EndsOne g
  one_any g any =
      let case = λ (r : ℕ). holds (Ends r g.event) ∷ [] in
      let o = of_any (case_at nodes w) (cases_one g (ended_by x rs g)) any in
      let m = of_map case o.0 (ended_by x rs g) o.1 in
      record {
        sleep = m.0;
        there = m.1;
        ends = ended_to w m.0 g.event (holds_to nodes w (Ends m.0 g.event) (ap (case_at nodes w) m.2 ∙ o.2));
      }

  abbrev is_late : Ender → Bool
  is_late g = case_at nodes w (fails (Before x.begins g.event) ∷ [])

  abbrev any_before : Ender → Bool
  any_before g = list_any (case_at nodes w) (cases_before x es g)

  abbrev any_one : Ender → Bool
  any_one g = list_any (case_at nodes w) (cases_one g (ended_by x rs g))

  one_to : (g : Ender) → position w x.begins < position w g.event → (IsEndedBefore g → ⊥) → True (not_lost x es rs g) → EndsOne g
  one_to g begins lasts is = elim (or_cases (is_late g) (list_any (case_at nodes w) (cases_before x es g ++ cases_one g (ended_by x rs g))) is) [
    | inl late ↦ absurd (false≢true (sym (fails_to nodes w (Before x.begins g.event) late) ∙ before_from w x.begins g.event begins))
    | inr any ↦ elim (or_cases (any_before g) (any_one g) (sym (list_any-append (case_at nodes w) (cases_before x es g) (cases_one g (ended_by x rs g))) ∙ any)) [
      | inl before ↦ absurd (lasts (before_any g before))
      | inr one ↦ one_any g one
    ]
  ]

  abbrev part_one : List Conjunct
  part_one = map (begun x) es

  abbrev part_two : List Conjunct
  part_two = woken x es

  abbrev part_three : List Conjunct
  part_three = flat_map (ends_no_later x rs) es

  abbrev part_four : List Conjunct
  part_four = map (not_lost x es rs) es

  pub meets_to : AllTrue (wait_formula x es rs) → Meets
  meets_to all = record {
    begun = λ g i e. before_to w x.begins g.event (follows_to nodes w (Ends x.sleep g.event) (Before x.begins g.event)
        (first (begun x g) (in_map (begun x) g es i)) (ended_from w x.sleep g.event e));
    woken = woken_to x.wakes second;
    one = λ g r i signal j lt e f. excludes_to nodes w (Ends x.sleep g.event) (Ends r g.event)
        (later_to g r g.all signal (λ c k. third c (in_flat_map (ends_no_later x rs) g c es i k)) j lt)
        (ended_from w x.sleep g.event e) (ended_from w r g.event f);
    some = λ g i begins lasts. one_to g begins lasts (fourth (not_lost x es rs g) (in_map (not_lost x es rs) g es i));
  }
    where
      first : AllTrue part_one
      first c i = all c (Contains-append_left part_one (part_two ++ (part_three ++ part_four)) c i)

      rest : AllTrue (part_two ++ (part_three ++ part_four))
      rest c i = all c (Contains-append_right part_one (part_two ++ (part_three ++ part_four)) c i)

      second : AllTrue part_two
      second c i = rest c (Contains-append_left part_two (part_three ++ part_four) c i)

      last : AllTrue (part_three ++ part_four)
      last c i = rest c (Contains-append_right part_two (part_three ++ part_four) c i)

      third : AllTrue part_three
      third c i = last c (Contains-append_left part_three part_four c i)

      fourth : AllTrue part_four
      fourth c i = last c (Contains-append_right part_three part_four c i)

  -- what they say implies the conjuncts
  woken_from : (c : Conjunct) (o : Option ℕ) → ((k : ℕ) → o ≡ Some k → IsWokenBefore k)
      → Contains (option_map_or (λ k. ended x es ∷ map (ended_before x k) es) o []) c → True c
  woken_from c None woken i = absurd (of_nil c i)
  woken_from c (Some k) woken i =
      let is = woken k refl in
      let case = λ (g : Ender). holds (Ends x.sleep g.event) ∷ [] in
      elim (of_cons c (ended x es) (map (ended_before x k) es) i) [
        | inl same ↦ subst True same (any_in (case_at nodes w) (case is.by) (map case es) (in_map case is.by es is.there)
            (holds_from nodes w (Ends x.sleep is.by.event) (ended_from w x.sleep is.by.event is.ends)))
        | inr more ↦
            let o = of_map (ended_before x k) c es more in
            subst True o.2 (follows_from nodes w (Ends x.sleep o.0.event) (Before o.0.event k) (λ e.
            let same : is.by.event ≡ o.0.event = same_Some is.by.event o.0.event (sym is.ends ∙ ended_to w x.sleep o.0.event e) in
            before_from w o.0.event k (subst (λ a. position w a < position w k) same is.before)))
      ]

  later_from : (c : Conjunct) (m : Meets) (g : Ender) (b : Bool) → g.all ≡ b → Contains es g
      → Contains (cond b [] (map (not_both x g) (filter (λ r. nat_lt x.sleep r) rs))) c → True c
  later_from c m g true e there i = absurd (of_nil c i)
  later_from c m g false e there i =
      let n = of_map (not_both x g) c (filter (λ r. nat_lt x.sleep r) rs) i in
      let f = of_filter (λ r. nat_lt x.sleep r) n.0 rs n.1 in
      subst True n.2 (excludes_from nodes w (Ends x.sleep g.event) (Ends n.0 g.event) (λ a b.
      m.one g n.0 there e f.0 (ltb-true x.sleep n.0 f.1) (ended_to w x.sleep g.event a) (ended_to w n.0 g.event b)))

  none_before : (g : Ender) → any_before g ≡ false → IsEndedBefore g → ⊥
  none_before g none e =
      let case = λ (h : Ender). holds (Ends x.sleep h.event) ∷ holds (Before h.event g.event) ∷ [] in
      let pass = λ (h : Ender). not (h.event == g.event) in
      let other : not (e.by.event == g.event) ≡ true =
      not_from_false (e.by.event == g.event) (ne_eqb e.by.event g.event (λ same. omega (arith, e.before, ap (position w) same))) in
      let some : any_before g ≡ true =
      any_in (case_at nodes w) (case e.by) (cases_before x es g) (in_map case e.by (filter pass es) (in_filter pass e.by es e.there other))
      (both_from nodes w (Ends x.sleep e.by.event) (Before e.by.event g.event) (ended_from w x.sleep e.by.event e.ends)
      (before_from w e.by.event g.event e.before)) in
      false≢true (sym none ∙ some)

  any_from : (g : Ender) → EndsOne g → any_one g ≡ true
  any_from g e =
      let case = λ (r : ℕ). holds (Ends r g.event) ∷ [] in
      any_in (case_at nodes w) (case e.sleep) (cases_one g (ended_by x rs g)) (in_map case e.sleep (ended_by x rs g) e.there)
      (holds_from nodes w (Ends e.sleep g.event) (ended_from w e.sleep g.event e.ends))

  before_or_one : (g : Ender) → ((IsEndedBefore g → ⊥) → EndsOne g) → list_any (case_at nodes w) (cases_before x es g ++ cases_one g (ended_by x rs g)) ≡ true
  before_or_one g one = list_any-append (case_at nodes w) (cases_before x es g) (cases_one g (ended_by x rs g)) ∙ elim (cases_Bool (any_before g)) [
    | inl before ↦ or_left (any_before g) (any_one g) before
    | inr none ↦ or_right (any_before g) (any_one g) (any_from g (one (none_before g none)))
  ]

  lost_from : (m : Meets) (g : Ender) → Contains es g → True (not_lost x es rs g)
  lost_from m g there = elim (cases_Bool (is_before w x.begins g.event)) [
    | inl begins ↦ or_right (is_late g) (list_any (case_at nodes w) (cases_before x es g ++ cases_one g (ended_by x rs g)))
        (before_or_one g (m.some g there (before_to w x.begins g.event begins)))
    | inr late ↦ or_left (is_late g) (list_any (case_at nodes w) (cases_before x es g ++ cases_one g (ended_by x rs g))) (fails_from nodes w (Before x.begins g.event) late)
  ]

  pub meets_from : Meets → AllTrue (wait_formula x es rs)
  meets_from m c i = elim (Contains-append_cases part_one (part_two ++ (part_three ++ part_four)) c i) [
    | inl i ↦
        let o = of_map (begun x) c es i in
        subst True o.2 (follows_from nodes w (Ends x.sleep o.0.event) (Before x.begins o.0.event)
        (λ e. before_from w x.begins o.0.event (m.begun o.0 o.1 (ended_to w x.sleep o.0.event e))))
    | inr i ↦ elim (Contains-append_cases part_two (part_three ++ part_four) c i) [
      | inl i ↦ woken_from c x.wakes m.woken i
      | inr i ↦ elim (Contains-append_cases part_three part_four c i) [
        | inl i ↦ let o = of_flat_map (ends_no_later x rs) c es i in later_from c m o.0 o.0.all refl o.1 o.2
        | inr i ↦ let o = of_map (not_lost x es rs) c es i in subst True o.2 (lost_from m o.0 o.1)
      ]
    ]
  ]
