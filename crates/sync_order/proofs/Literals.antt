-- All literals here name steps that are events, or sleeps with possible enders, and no terms.
use Rattle.std.proofs.Common.{◌≡◌, ℕ, Bool, true, false, List, [], ◌∷◌, ◌++◌, map, filter, Some, inl, inr, subst}
use Rattle.std.proofs.Common.{if◌then◌else◌, not, ◌&&◌, ◌==◌}
use Rattle.std.specs.Prelude.{option_to_list, slice_get}
use Rattle.std.specs.List.{All, Contains}
use Rattle.std.proofs.lemmas.List.Elements.{All-nil, Contains-append_cases}
use Rattle.path_walk.specs.Paths.{Walk, Paths}
use Rattle.path_walk.specs.declared.event.Blocked.{Blocked}
use Rattle.path_walk.specs.declared.event.Blocked.TheVariants.{Lock, Wake, Join}
use Rattle.path_walk.specs.declared.event.Event.{Event}
use Rattle.path_walk.specs.declared.event.Link.{Link}
use Rattle.path_walk.specs.declared.event.Region.{Region}
use Rattle.path_walk.specs.declared.event.Sleep.{Sleep}
use Rattle.order_formula.specs.declared.formula.Body.{Body}
use Rattle.order_formula.specs.declared.formula.Body.TheVariants.{Any, Read}
use Rattle.order_formula.specs.declared.formula.Conjunct.{Conjunct}
use Rattle.order_formula.specs.declared.group.Group.{Group}
use Rattle.order_formula.specs.declared.group.Group.TheVariants.{Child, Mutex}
use Rattle.order_formula.specs.declared.literal.Literal.{Literal}
use Rattle.order_events.specs.lawful_order.Events.{Placed, all_events, all_sleeps, HasEvent, HasRegion, Creates, Joins}
use Rattle.condition_order.specs.Conditions.{enders}
use Rattle.condition_order.specs.declared.wait.Ender.{Ender}
use Rattle.sync_order.specs.Children.{is_exit, exit_before, children_formula}
use Rattle.sync_order.specs.Mutexes.{release_literal, left_before, mutexes_formula}
use Rattle.order_events.specs.Parts.{comes_before, one_of}
use Rattle.sync_order.specs.Stuck.{cases_if, is_held, not_ended_literal, unended, sleeping, sleeps_on, has_exited, cannot_go_on, stuck_at, stuck_formula}
use Rattle.sync_order.proofs.Links.{made_by}
use Rattle.order_events.proofs.Lists.{of_map, of_filter}
use Rattle.sync_order.proofs.Regions.{is_pair}
use Rattle.order_events.proofs.Parts.{of_one, of_option, of_if, in_of_each, each_in}

-- a property of all literals of a part of a formula
module _ (L : Literal → Type 0) where
  abbrev pub BodyHas : Body → Type 0
  BodyHas (Any cases) = All (All L) cases
  BodyHas (Read r) = ⊥

  abbrev pub Has : Conjunct → Type 0
  Has z = BodyHas z.body

  pub one_has : (g : Group) (ls : List Literal) → ((l : Literal) → Contains ls l → L l) → Has (one_of g ls)
  one_has g ls each = each_in (All L) (map (λ (l : Literal). l ∷ []) ls) (λ c i.
      let m = of_map (λ (l : Literal). l ∷ []) c ls i in
      subst (All L) m.2 (each_in L (m.0 ∷ []) (λ k j. subst L (of_one k m.0 j) (each m.0 m.1))))

-- a property of the literals that name two event steps, or a sleep and an event
pub record AreLiterals (paths : Paths) (Step : (t k : ℕ) → Type 0) (L : Literal → Type 0) : Type 0 where
  pub event : (t : ℕ) (x : Event) → HasEvent paths t x → Step t x.step
  pub create : (t : ℕ) (l : Link) → Creates paths t l → Step t l.step
  pub join : (t : ℕ) (l : Link) → Joins paths t l → Step t l.step
  pub taken : (t : ℕ) (r : Region) → HasRegion paths t r → Step t r.«from»
  pub left : (t k : ℕ) (r : Region) → HasRegion paths t r → r.to ≡ Some k → Step t k
  pub before : (t k u j : ℕ) → Step t k → Step u j → L (comes_before (all_events paths) t k u j)
  pub unended : (s : ℕ) (x : Placed Sleep) (g : Ender) → slice_get (all_sleeps paths) s ≡ Some x → Contains (enders (all_events paths) x.it.condition) g
      → L (not_ended_literal s g)

module _ (paths : Paths) (Step : (t k : ℕ) → Type 0) (L : Literal → Type 0) (are : AreLiterals paths Step L) where
  pub in_children : (z : Conjunct) → Contains (children_formula paths) z → Has L z
  in_children z i = elim (made_by paths z i) [
    | inl m ↦
        let literal = comes_before (all_events paths) m.thread m.link.step m.place m.event.step in
        subst (Has L) m.made (one_has L (Child m.place) (literal ∷ []) (λ l j. subst L (of_one l literal j)
        (are.before m.thread m.link.step m.place m.event.step (are.create m.thread m.link m.creates) (are.event m.place m.event m.has))))
    | inr m ↦
        let ends = filter (λ (x : Event). is_exit x.kind) m.walk.events in
        subst (Has L) m.made (one_has L (Child m.place) (map (exit_before (all_events paths) m.thread m.link m.place) ends) (λ l j.
        let x = of_map (exit_before (all_events paths) m.thread m.link m.place) l ends j in
        let e = of_filter (λ (x : Event). is_exit x.kind) x.0 m.walk.events x.1 in
        subst L x.2 (are.before m.place x.0.step m.thread m.link.step (are.event m.place x.0 (m.walk, m.at, e.0)) (are.join m.thread m.link m.joins))))
  ]

  in_left : (r s : Placed Region) → HasRegion paths r.thread r.it → HasRegion paths s.thread s.it → (l : Literal)
      → Contains (left_before (all_events paths) r s) l → L l
  in_left r s has_r has_s l i =
      let k = of_map (release_literal (all_events paths) r s) l (option_to_list r.it.to) i in
      subst L k.2 (are.before r.thread k.0 s.thread s.it.«from» (are.left r.thread k.0 r.it has_r (of_option r.it.to k.0 k.1))
      (are.taken s.thread s.it has_s))

  pub in_mutexes : (z : Conjunct) → Contains (mutexes_formula paths) z → Has L z
  in_mutexes z i =
      let p = is_pair paths z i in
      let r = p.first in
      let s = p.second in
      let first = left_before (all_events paths) r s in
      let second = left_before (all_events paths) s r in
      subst (Has L) p.made (one_has L (Mutex r.it.mutex) (first ++ second) (λ l j. elim (Contains-append_cases first second l j) [
        | inl here ↦ in_left r s p.has_first p.has_second l here
        | inr there ↦ in_left s r p.has_second p.has_first l there
      ]))

  in_sleeps : (t k : ℕ) (l : Literal) → Contains (sleeps_on (all_events paths) (all_sleeps paths) t k) l → L l
  in_sleeps t k l i =
      let s = in_of_each (sleeping (all_events paths) t k) (all_sleeps paths) l i in
      let c = s.element.it.condition in
      let own = of_if (s.element.thread == t && s.element.it.step == k) l (unended (all_events paths) s.place c) s.there in
      let g = of_map (not_ended_literal s.place) l (enders (all_events paths) c) own.1 in
      subst L g.2 (are.unended s.place s.element g.0 s.at g.1)

  one_case : (ls : List Literal) → All L ls → All (All L) (ls ∷ [])
  one_case ls all = each_in (All L) (ls ∷ []) (λ c i. subst (All L) (of_one c ls i) all)

  in_cases : (b : Bool) → All (All L) (cases_if b)
  in_cases true = one_case [] (All-nil L)
  in_cases false = All-nil (All L)

  in_blocked : (t : ℕ) (q : Walk) (b : Blocked) → All (All L) (cannot_go_on paths t q b)
  in_blocked t q (Lock m) = in_cases (is_held paths.threads m)
  in_blocked t q (Wake c m k) = by (is_held paths.threads m)
    where
      by : (b : Bool) → All (All L) (if b then [] ∷ [] else sleeps_on (all_events paths) (all_sleeps paths) t k ∷ [])
      by true = one_case [] (All-nil L)
      by false = one_case (sleeps_on (all_events paths) (all_sleeps paths) t k)
          (each_in L (sleeps_on (all_events paths) (all_sleeps paths) t k) (in_sleeps t k))
  in_blocked t q (Join k) = in_cases (not (has_exited paths.threads q k))

  pub in_stuck : (z : Conjunct) → Contains (stuck_formula paths) z → Has L z
  in_stuck z i =
      let o = in_of_each (λ u r. map (stuck_at paths u r) (option_to_list r.blocked)) paths.threads z i in
      let b = of_map (stuck_at paths o.place o.element) z (option_to_list o.element.blocked) o.there in
      subst (Has L) b.2 (in_blocked o.place o.element b.0)
