-- The conjuncts of mutexes are true exactly if the rule of mutexes is met.
use Rattle.std.proofs.Common.{◌≡◌, ◌≢◌, ◌∙◌, ℕ, ◌<◌, ◌⊎◌, true, not, ◌&&◌, ◌==◌, List, [], ◌∷◌, ◌++◌, Some, inl, inr}
use Rattle.std.proofs.Common.{sym, ap, subst, eqb-true, eq-eqb, ne_eqb, arith}
use Rattle.std.specs.Prelude.{slice_get, option_to_list}
use Rattle.std.specs.List.{Contains}
use Rattle.std.proofs.lemmas.Bool.{eqb-false, and_parts, and_from, and_cases, and_left, and_right, not-true, not_from_false, cases_order}
use Rattle.std.proofs.lemmas.Option.{same_Some}
use Rattle.std.proofs.lemmas.List.Elements.{Contains-append_left, Contains-append_right, Contains-append_cases}
use Rattle.path_walk.specs.Paths.{Paths}
use Rattle.path_walk.specs.declared.event.Region.{Region}
use Rattle.order_formula.specs.sym_terms.declared.node.Node.{Node}
use Rattle.order_formula.specs.declared.formula.Conjunct.{Conjunct}
use Rattle.order_formula.specs.declared.group.Group.TheVariants.{Mutex}
use Rattle.order_formula.specs.declared.literal.Literal.{Literal}
use Rattle.order_formula.specs.Groups.{HoldsIn, IsExactly}
use Rattle.order_formula.specs.Truth.{body_at, literal_at}
use Rattle.order_formula.specs.Worlds.{World}
use Rattle.order_events.specs.lawful_order.Events.{Placed, HasRegion, all_events}
use Rattle.order_events.specs.lawful_order.Mutexes.{IsLeftBefore, MutexRule}
use Rattle.sync_order.specs.Mutexes.{exclude, all_regions, release_literal, left_before, excludes, exclusive, mutexes_formula}
use Rattle.sync_order.proofs.Groups.{same_mutex}
use Rattle.order_events.proofs.Lists.{in_front, in_at, in_map, of_map}
use Rattle.order_events.proofs.Numbers.{in_all_from, of_all_from}
use Rattle.sync_order.proofs.Pairs.{in_pairs, in_of_pairs}
use Rattle.order_events.proofs.Parts.{of_one, in_option, of_option, in_if, of_if, one_holds, some_holds, step_before, before_holds}

-- two regions have different threads or different beginnings
abbrev Differ : Placed Region → Placed Region → Type 0
Differ r s = (r.thread ≢ s.thread) ⊎ (r.it.«from» ≢ s.it.«from»)

differ_true : (r s : Placed Region) → r.it.mutex ≡ s.it.mutex → Differ r s → exclude r s ≡ true
differ_true r s one differ =
    and_from (r.it.mutex == s.it.mutex) (not (r.thread == s.thread && r.it.«from» == s.it.«from»)) (eq-eqb r.it.mutex s.it.mutex one)
    (not_from_false (r.thread == s.thread && r.it.«from» == s.it.«from») (elim differ [
      | inl apart ↦ and_left (r.thread == s.thread) (r.it.«from» == s.it.«from») (ne_eqb r.thread s.thread apart)
      | inr apart ↦ and_right (r.thread == s.thread) (r.it.«from» == s.it.«from») (ne_eqb r.it.«from» s.it.«from» apart)
    ]))

true_differ : (r s : Placed Region) → exclude r s ≡ true → (r.it.mutex ≡ s.it.mutex) × Differ r s
true_differ r s is =
    let both = and_parts (r.it.mutex == s.it.mutex) (not (r.thread == s.thread && r.it.«from» == s.it.«from»)) is in (
      eqb-true r.it.mutex s.it.mutex both.0,
      elim (and_cases (r.thread == s.thread) (r.it.«from» == s.it.«from») (not-true (r.thread == s.thread && r.it.«from» == s.it.«from») both.1)) [
        | inl other ↦ inl (eqb-false r.thread s.thread other)
        | inr other ↦ inr (eqb-false r.it.«from» s.it.«from» other)
      ],
    )

module _ (paths : Paths) where
  -- the list has exactly the regions of threads
  region_in : (r : Placed Region) → HasRegion paths r.thread r.it → Contains (all_regions paths) r
  region_in r has = in_all_from (λ q. q.regions) 0 r.thread r.thread paths.threads has.0 r.it has.1 has.2 (omega arith)

  has_region : (r : Placed Region) → Contains (all_regions paths) r → HasRegion paths r.thread r.it
  has_region r i =
      let o = of_all_from (λ q. q.regions) 0 paths.threads r i in
      let place : o.place ≡ r.thread = omega (arith, o.thread) in
      (o.owner, subst (λ k. slice_get paths.threads k ≡ Some o.owner) place o.at, o.among)

  -- the formula has one conjunct for two regions
  pair_in : (i j : ℕ) (r s : Placed Region) → slice_get (all_regions paths) i ≡ Some r → slice_get (all_regions paths) j ≡ Some s → i < j
      → exclude r s ≡ true → Contains (mutexes_formula paths) (excludes (all_events paths) r s)
  pair_in i j r s first second less is =
      in_pairs (exclusive (all_events paths)) i j r s (excludes (all_events paths) r s) (all_regions paths) first second less
      (in_if (exclude r s) (excludes (all_events paths) r s) (excludes (all_events paths) r s ∷ []) is (in_front (excludes (all_events paths) r s) []))

  -- the formula has no other conjuncts
  pub record IsPair (z : Conjunct) : Type 0 where
    pub first : Placed Region
    pub second : Placed Region
    pub has_first : HasRegion paths first.thread first.it
    pub has_second : HasRegion paths second.thread second.it
    pub one : first.it.mutex ≡ second.it.mutex
    pub differ : Differ first second
    pub made : excludes (all_events paths) first second ≡ z

  pub is_pair : (z : Conjunct) → Contains (mutexes_formula paths) z → IsPair z
  is_pair z i =
      let o = in_of_pairs (exclusive (all_events paths)) (all_regions paths) z i in
      let both = of_if (exclude o.first o.second) z (excludes (all_events paths) o.first o.second ∷ []) o.there in
      let differ = true_differ o.first o.second both.0 in
      record {
        first = o.first;
        second = o.second;
        has_first = has_region o.first o.has_first;
        has_second = has_region o.second o.has_second;
        one = differ.0;
        differ = differ.1;
        made = of_one z (excludes (all_events paths) o.first o.second) both.1;
      }

  pub mutexes_group : (z : Conjunct) → Contains (mutexes_formula paths) z → (m : ℕ) × (z.group ≡ Mutex m)
  mutexes_group z i = let p = is_pair z i in (p.first.it.mutex, ap (λ (y : Conjunct). y.group) (sym p.made))

  module _ (nodes : List Node) (w : World) where
    left_holds : (r s : Placed Region) → IsLeftBefore paths w r.thread r.it s.thread s.it
        → (l : Literal) × Contains (left_before (all_events paths) r s) l × (literal_at nodes w l ≡ true)
    left_holds r s left = (
      release_literal (all_events paths) r s left.0,
      in_map (release_literal (all_events paths) r s) left.0 (option_to_list r.it.to) (in_option r.it.to left.0 left.1),
      before_holds nodes w paths r.thread left.0 s.thread s.it.«from» left.2,
    )

    holds_left : (r s : Placed Region) (l : Literal) → Contains (left_before (all_events paths) r s) l → literal_at nodes w l ≡ true
        → IsLeftBefore paths w r.thread r.it s.thread s.it
    holds_left r s l there holds =
        let k = of_map (release_literal (all_events paths) r s) l (option_to_list r.it.to) there in
        (k.0, of_option r.it.to k.0 k.1, step_before nodes w paths r.thread k.0 s.thread s.it.«from» (ap (literal_at nodes w) k.2 ∙ holds))

    abbrev OneIsLeft : Placed Region → Placed Region → Type 0
    OneIsLeft r s = IsLeftBefore paths w r.thread r.it s.thread s.it ⊎ IsLeftBefore paths w s.thread s.it r.thread r.it

    pair_holds : (r s : Placed Region) → OneIsLeft r s → body_at nodes w (excludes (all_events paths) r s).body ≡ true
    pair_holds r s one =
        let g = Mutex r.it.mutex in
        let left = left_before (all_events paths) r s in
        let right = left_before (all_events paths) s r in
        elim one [
          | inl first ↦
              let l = left_holds r s first in
              one_holds nodes w g l.0 (left ++ right) (Contains-append_left left right l.0 l.1) l.2
          | inr second ↦
              let l = left_holds s r second in
              one_holds nodes w g l.0 (left ++ right) (Contains-append_right left right l.0 l.1) l.2
        ]

    holds_pair : (r s : Placed Region) → body_at nodes w (excludes (all_events paths) r s).body ≡ true → OneIsLeft r s
    holds_pair r s holds =
        let left = left_before (all_events paths) r s in
        let right = left_before (all_events paths) s r in
        let o = some_holds nodes w (Mutex r.it.mutex) (left ++ right) holds in
        elim (Contains-append_cases left right o.0 o.1) [
          | inl first ↦ inl (holds_left r s o.0 first o.2)
          | inr second ↦ inr (holds_left s r o.0 second o.2)
        ]

    module _ (m : ℕ) where
      -- the pair of two regions has the one first that comes first in the list
      rule_at : HoldsIn nodes w (mutexes_formula paths) (Mutex m) → (r s : Placed Region) → HasRegion paths r.thread r.it → HasRegion paths s.thread s.it
          → r.it.mutex ≡ m → s.it.mutex ≡ m → Differ r s → OneIsLeft r s
      rule_at all r s has_r has_s of_r of_s differ =
          let i = in_at (all_regions paths) r (region_in r has_r) in
          let j = in_at (all_regions paths) s (region_in s has_s) in
          elim (cases_order i.0 j.0) [
            | inl same ↦
                let one : r ≡ s = same_Some r s (sym i.1 ∙ ap (slice_get (all_regions paths)) same ∙ j.1) in
                absurd (elim differ [
                  | inl apart ↦ apart (ap (λ (o : Placed Region). o.thread) one)
                  | inr apart ↦ apart (ap (λ (o : Placed Region). o.it.«from») one)
                ])
            | inr other ↦ elim other [
              | inl less ↦ holds_pair r s
                  (all (excludes (all_events paths) r s) (pair_in i.0 j.0 r s i.1 j.1 less (differ_true r s (of_r ∙ sym of_s) differ)) (ap Mutex of_r))
              | inr more ↦
                  let apart : Differ s r = elim differ [ inl other ↦ inl (λ e. other (sym e)) | inr other ↦ inr (λ e. other (sym e)) ] in
                  let turned = holds_pair s r
                  (all (excludes (all_events paths) s r) (pair_in j.0 i.0 s r j.1 i.1 more (differ_true s r (of_s ∙ sym of_r) apart)) (ap Mutex of_s)) in
                  elim turned [ inl first ↦ inr first | inr second ↦ inl second ]
            ]
          ]

      holds_by : MutexRule paths w m → HoldsIn nodes w (mutexes_formula paths) (Mutex m)
      holds_by rule z i of =
          let p = is_pair z i in
          let first : p.first.it.mutex ≡ m = same_mutex p.first.it.mutex m (ap (λ (y : Conjunct). y.group) p.made ∙ of) in
          ap (λ (y : Conjunct). body_at nodes w y.body) (sym p.made)
          ∙ pair_holds p.first p.second
          (rule.exclusive p.first.thread p.second.thread p.first.it p.second.it p.has_first p.has_second first (sym p.one ∙ first) p.differ)

      pub mutexes_exactly : IsExactly nodes w (mutexes_formula paths) (Mutex m) (MutexRule paths w m)
      mutexes_exactly = record {
        to = λ all. record {
          exclusive = λ t u r s has_r has_s of_r of_s differ.
              rule_at all (record { thread = t; it = r }) (record { thread = u; it = s }) has_r has_s of_r of_s differ;
        };
        back = holds_by;
      }
