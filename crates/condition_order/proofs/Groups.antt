-- The group of a sleep's conjuncts; they name no terms.
use Rattle.std.proofs.Common.{◌≡◌, ℕ, Bool, true, false, List, [], ◌∷◌, ◌++◌, map, Option, Some, None, sym, ap, cond, inl, inr}
use Rattle.std.specs.Prelude.{nat_lt}
use Rattle.std.specs.List.{Contains, filter, flat_map}
use Rattle.std.specs.Option.{option_map_or}
use Rattle.std.proofs.lemmas.List.Elements.{Contains-append_cases}
use Rattle.order_formula.specs.declared.formula.Conjunct.{Conjunct}
use Rattle.order_formula.specs.declared.group.Group.TheVariants.{Condition}
use Rattle.path_walk.specs.Paths.{Paths}
use Rattle.order_events.specs.lawful_order.Events.{all_events}
use Rattle.condition_order.specs.declared.wait.Wait.{Wait}
use Rattle.condition_order.specs.declared.wait.Ender.{Ender}
use Rattle.condition_order.specs.Conditions.{enders, sleeps_on, all_waits, begun, ended, ended_before, woken, not_both, ends_no_later, not_lost, wait_formula, formula_of, condition_formula}
use Rattle.order_events.proofs.Lists.{of_nil, of_cons, of_map, of_flat_map}

module _ (x : Wait) (es : List Ender) (rs : List ℕ) where
  abbrev IsAbout : Conjunct → Type 0
  IsAbout c = c.group ≡ Condition x.condition

  woken_about : (c : Conjunct) (o : Option ℕ) → Contains (option_map_or (λ k. ended x es ∷ map (ended_before x k) es) o []) c → IsAbout c
  woken_about c None i = absurd (of_nil c i)
  woken_about c (Some k) i = elim (of_cons c (ended x es) (map (ended_before x k) es) i) [
    | inl same ↦ ap (λ (d : Conjunct). d.group) (sym same)
    | inr more ↦ ap (λ (d : Conjunct). d.group) (sym (of_map (ended_before x k) c es more).2)
  ]

  later_about : (c : Conjunct) (g : Ender) (b : Bool) → Contains (cond b [] (map (not_both x g) (filter (λ r. nat_lt x.sleep r) rs))) c → IsAbout c
  later_about c g true i = absurd (of_nil c i)
  later_about c g false i = ap (λ (d : Conjunct). d.group) (sym (of_map (not_both x g) c (filter (λ r. nat_lt x.sleep r) rs) i).2)

  pub is_about : (c : Conjunct) → Contains (wait_formula x es rs) c → IsAbout c
  is_about c i =
      let two = woken x es in
      let three = flat_map (ends_no_later x rs) es in
      let four = map (not_lost x es rs) es in
      elim (Contains-append_cases (map (begun x) es) (two ++ (three ++ four)) c i) [
        | inl i ↦ ap (λ (d : Conjunct). d.group) (sym (of_map (begun x) c es i).2)
        | inr i ↦ elim (Contains-append_cases two (three ++ four) c i) [
          | inl i ↦ woken_about c x.wakes i
          | inr i ↦ elim (Contains-append_cases three four c i) [
            | inl i ↦ let o = of_flat_map (ends_no_later x rs) c es i in later_about c o.0 o.0.all o.2
            | inr i ↦ ap (λ (d : Conjunct). d.group) (sym (of_map (not_lost x es rs) c es i).2)
          ]
        ]
      ]

pub have_their_group : (paths : Paths) (c : Conjunct) → Contains (condition_formula paths) c → (n : ℕ) × (c.group ≡ Condition n)
have_their_group paths c i =
    let o = of_flat_map (formula_of (all_events paths) (all_waits paths)) c (all_waits paths) i in
    (o.0.condition, is_about o.0 (enders (all_events paths) o.0.condition) (sleeps_on (all_waits paths) o.0.condition) c o.2)
