-- The conjuncts of children are true exactly if the rule of children is met.
use Rattle.std.proofs.Common.{◌≡◌, ◌∙◌, ℕ, true, List, [], ◌∷◌, ◌⊎◌, map, filter, bytes_eq, Some, inl, inr, refl, sym, ap, subst, if◌then◌else◌}
use Rattle.std.specs.Prelude.{slice_get}
use Rattle.std.specs.List.{Contains, flat_map}
use Rattle.std.proofs.lemmas.Option.{same_Some}
use Rattle.std.proofs.lemmas.List.Elements.{Contains-append_left, Contains-append_right, Contains-append_cases}
use Rattle.path_walk.specs.tc_base.Names.{child}
use Rattle.path_walk.proofs.tc_base.Names.{same_true, same_refl}
use Rattle.path_walk.specs.Paths.{Walk, Paths}
use Rattle.path_walk.specs.declared.event.Event.{Event}
use Rattle.path_walk.specs.declared.event.EventKind.{EventKind}
use Rattle.path_walk.specs.declared.event.EventKind.TheVariants as kind
use Rattle.path_walk.specs.declared.event.Link.{Link}
use Rattle.order_formula.specs.sym_terms.declared.node.Node.{Node}
use Rattle.order_formula.specs.declared.formula.Conjunct.{Conjunct}
use Rattle.order_formula.specs.declared.group.Group.TheVariants.{Child}
use Rattle.order_formula.specs.Groups.{HoldsIn, IsExactly}
use Rattle.order_formula.specs.Truth.{body_at, literal_at}
use Rattle.order_formula.specs.Worlds.{World}
use Rattle.order_events.specs.lawful_order.Children.{HasExited, ChildRule}
use Rattle.order_events.specs.lawful_order.Events.{all_events, HasEvent, Creates, Joins, IsChild, IsBefore}
use Rattle.sync_order.specs.Children.{is_exit, is_child, created_before, exit_before, exited_before}
use Rattle.sync_order.specs.Children.{of_children, create_conjuncts, join_conjuncts, links_formula, children_formula}
use Rattle.order_events.specs.Parts.{comes_before}
use Rattle.sync_order.proofs.Groups.{same_child}
use Rattle.order_events.proofs.Lists.{in_front, in_map, of_map, in_flat_map, of_flat_map, in_filter, of_filter}
use Rattle.order_events.proofs.Parts.{of_one, in_if, of_if, in_each, in_of_each, one_holds, some_holds, step_before, before_holds}

pub exit_is : (k : EventKind) → is_exit k ≡ true → k ≡ kind.Exit
exit_is kind.Exit is = refl
exit_is _ is = cc

pub is_exit_of : (k : EventKind) → k ≡ kind.Exit → is_exit k ≡ true
is_exit_of k is = ap is_exit is

module _ (paths : Paths) where
  pub child_is : (t k c : ℕ) (p q : Walk) → slice_get paths.threads t ≡ Some p → slice_get paths.threads c ≡ Some q
      → is_child p k q ≡ true → IsChild paths t k c
  child_is t k c p q parent thread is = (p, q, parent, thread, same_true q.name (child p.name k) is)

  pub is_child_of : (t k c : ℕ) (p q : Walk) → slice_get paths.threads t ≡ Some p → slice_get paths.threads c ≡ Some q
      → IsChild paths t k c → is_child p k q ≡ true
  is_child_of t k c p q parent thread is =
      let one : is.0 ≡ p = same_Some is.0 p (sym is.2 ∙ parent) in
      let other : is.1 ≡ q = same_Some is.1 q (sym is.3 ∙ thread) in
      let name : q.name ≡ child p.name k = ap (λ (x : Walk). x.name) (sym other) ∙ is.4 ∙ ap (λ (x : Walk). child x.name k) one in
      ap (λ n. bytes_eq n (child p.name k)) name ∙ same_refl (child p.name k)

  -- the result for a child is in the list
  in_children : {X : Type 0} (t k c : ℕ) (p q : Walk) (f : ℕ → Walk → List X) (y : X) → slice_get paths.threads t ≡ Some p
      → slice_get paths.threads c ≡ Some q → IsChild paths t k c → Contains (f c q) y → Contains (of_children paths.threads p k f) y
  in_children t k c p q f y parent thread is there =
      in_each (λ a r. if is_child p k r then f a r else []) c q y paths.threads thread
      (in_if (is_child p k q) y (f c q) (is_child_of t k c p q parent thread is) there)

  record IsOfChild {X : Type 0} (t k : ℕ) (f : ℕ → Walk → List X) (y : X) : Type 0 where
    pub place : ℕ
    pub thread : Walk
    pub at : slice_get paths.threads place ≡ Some thread
    pub is : IsChild paths t k place
    pub there : Contains (f place thread) y

  of_child : {X : Type 0} (t k : ℕ) (p : Walk) (f : ℕ → Walk → List X) (y : X) → slice_get paths.threads t ≡ Some p
      → Contains (of_children paths.threads p k f) y → IsOfChild t k f y
  of_child t k p f y parent i =
      let o = in_of_each (λ a r. if is_child p k r then f a r else []) paths.threads y i in
      let both = of_if (is_child p k o.element) y (f o.place o.element) o.there in
      record { place = o.place; thread = o.element; at = o.at; is = child_is t k o.place p o.element parent o.at both.0; there = both.1 }

  -- the conjuncts of a thread's creates, and those of its joins
  abbrev all_created : ℕ → Walk → List Conjunct
  all_created t p = flat_map (create_conjuncts (all_events paths) paths.threads t p) p.creates

  abbrev all_joined : ℕ → Walk → List Conjunct
  all_joined t p = flat_map (join_conjuncts (all_events paths) paths.threads t p) p.joins

  -- the conjuncts of creates are in the formula
  create_in : (t c : ℕ) (l : Link) (x : Event) → Creates paths t l → IsChild paths t l.child c → HasEvent paths c x
      → Contains (children_formula paths) (created_before (all_events paths) t l c x)
  create_in t c l x creates is has =
      let p = creates.0 in
      let z = created_before (all_events paths) t l c x in
      in_each (links_formula (all_events paths) paths.threads) t p z paths.threads creates.1
      (Contains-append_left (all_created t p) (all_joined t p) z
      (in_flat_map (create_conjuncts (all_events paths) paths.threads t p) l z p.creates creates.2
      (in_children t l.child c p has.0 (λ d q. map (created_before (all_events paths) t l d) q.events) z creates.1 has.1 is
      (in_map (created_before (all_events paths) t l c) x has.0.events has.2))))

  join_in : (t c : ℕ) (l : Link) (q : Walk) → Joins paths t l → IsChild paths t l.child c → slice_get paths.threads c ≡ Some q
      → Contains (children_formula paths) (exited_before (all_events paths) t l c q)
  join_in t c l q joins is at =
      let p = joins.0 in
      let z = exited_before (all_events paths) t l c q in
      in_each (links_formula (all_events paths) paths.threads) t p z paths.threads joins.1
      (Contains-append_right (all_created t p) (all_joined t p) z
      (in_flat_map (join_conjuncts (all_events paths) paths.threads t p) l z p.joins joins.2
      (in_children t l.child c p q (λ d r. exited_before (all_events paths) t l d r ∷ []) z joins.1 at is (in_front z []))))

  -- the formula has no other conjuncts
  pub record ByCreate (z : Conjunct) : Type 0 where
    pub thread : ℕ
    pub link : Link
    pub creates : Creates paths thread link
    pub place : ℕ
    pub is : IsChild paths thread link.child place
    pub event : Event
    pub has : HasEvent paths place event
    pub made : created_before (all_events paths) thread link place event ≡ z

  pub record ByJoin (z : Conjunct) : Type 0 where
    pub thread : ℕ
    pub link : Link
    pub joins : Joins paths thread link
    pub place : ℕ
    pub is : IsChild paths thread link.child place
    pub walk : Walk
    pub at : slice_get paths.threads place ≡ Some walk
    pub made : exited_before (all_events paths) thread link place walk ≡ z

  pub made_by : (z : Conjunct) → Contains (children_formula paths) z → ByCreate z ⊎ ByJoin z
  made_by z i =
      let o = in_of_each (links_formula (all_events paths) paths.threads) paths.threads z i in
      let t = o.place in
      let p = o.element in
      elim (Contains-append_cases (all_created t p) (all_joined t p) z o.there) [
        | inl first ↦
            let l = of_flat_map (create_conjuncts (all_events paths) paths.threads t p) z p.creates first in
            let c = of_child t l.0.child p (λ d q. map (created_before (all_events paths) t l.0 d) q.events) z o.at l.2 in
            let x = of_map (created_before (all_events paths) t l.0 c.place) z c.thread.events c.there in
            inl (record {
              thread = t;
              link = l.0;
              creates = (p, o.at, l.1);
              place = c.place;
              is = c.is;
              event = x.0;
              has = (c.thread, c.at, x.1);
              made = x.2;
            })
        | inr second ↦
            let l = of_flat_map (join_conjuncts (all_events paths) paths.threads t p) z p.joins second in
            let c = of_child t l.0.child p (λ d r. exited_before (all_events paths) t l.0 d r ∷ []) z o.at l.2 in
            inr (record {
              thread = t;
              link = l.0;
              joins = (p, o.at, l.1);
              place = c.place;
              is = c.is;
              walk = c.thread;
              at = c.at;
              made = of_one z (exited_before (all_events paths) t l.0 c.place c.thread) c.there;
            })
      ]

  pub children_group : (z : Conjunct) → Contains (children_formula paths) z → (c : ℕ) × (z.group ≡ Child c)
  children_group z i = elim (made_by z i) [
    | inl m ↦ (m.place, ap (λ (y : Conjunct). y.group) (sym m.made))
    | inr m ↦ (m.place, ap (λ (y : Conjunct). y.group) (sym m.made))
  ]

  module _ (nodes : List Node) (w : World) (c : ℕ) where
    -- if a conjunct of a join is true, the child has an exit, which comes before
    exit_there : (t : ℕ) (l : Link) (q : Walk) → slice_get paths.threads c ≡ Some q → body_at nodes w (exited_before (all_events paths) t l c q).body ≡ true
        → HasExited paths w c t l.step
    exit_there t l q at holds =
        let ends = filter (λ (x : Event). is_exit x.kind) q.events in
        let o = some_holds nodes w (Child c) (map (exit_before (all_events paths) t l c) ends) holds in
        let x = of_map (exit_before (all_events paths) t l c) o.0 ends o.1 in
        let e = of_filter (λ (x : Event). is_exit x.kind) x.0 q.events x.1 in
        record {
          exit = x.0;
          there = (q, at, e.0);
          exits = exit_is x.0.kind e.1;
          before = step_before nodes w paths c x.0.step t l.step (ap (literal_at nodes w) x.2 ∙ o.2);
        }

    exit_holds : (t : ℕ) (l : Link) (q : Walk) → slice_get paths.threads c ≡ Some q → HasExited paths w c t l.step
        → body_at nodes w (exited_before (all_events paths) t l c q).body ≡ true
    exit_holds t l q at e =
        let ends = filter (λ (x : Event). is_exit x.kind) q.events in
        let there : Contains q.events e.exit = subst (λ (r : Walk). Contains r.events e.exit) (same_Some e.there.0 q (sym e.there.1 ∙ at)) e.there.2 in
        one_holds nodes w (Child c) (exit_before (all_events paths) t l c e.exit) (map (exit_before (all_events paths) t l c) ends)
        (in_map (exit_before (all_events paths) t l c) e.exit ends
        (in_filter (λ (x : Event). is_exit x.kind) e.exit q.events there (is_exit_of e.exit.kind e.exits)))
        (before_holds nodes w paths c e.exit.step t l.step e.before)

    rule_holds : HoldsIn nodes w (children_formula paths) (Child c) → ChildRule paths w c
    rule_holds all = record {
      created = λ t l x creates is has.
          let o = some_holds nodes w (Child c) (comes_before (all_events paths) t l.step c x.step ∷ []) (all _ (create_in t c l x creates is has) refl) in
          step_before nodes w paths t l.step c x.step (ap (literal_at nodes w) (of_one o.0 (comes_before (all_events paths) t l.step c x.step) o.1) ∙ o.2);
      joined = λ t l joins is. exit_there t l is.1 is.3 (all _ (join_in t c l is.1 joins is is.3) refl);
    }

    holds_by : ChildRule paths w c → HoldsIn nodes w (children_formula paths) (Child c)
    holds_by rule z i of = elim (made_by z i) [
      | inl m ↦
          let here : m.place ≡ c = same_child m.place c (ap (λ (y : Conjunct). y.group) m.made ∙ of) in
          let before : IsBefore paths w m.thread m.link.step c m.event.step =
          rule.created m.thread m.link m.event m.creates (subst (IsChild paths m.thread m.link.child) here m.is)
          (subst (λ d. HasEvent paths d m.event) here m.has) in
          let literal = comes_before (all_events paths) m.thread m.link.step c m.event.step in
          ap (λ (y : Conjunct). body_at nodes w y.body) (sym m.made ∙ ap (λ d. created_before (all_events paths) m.thread m.link d m.event) here)
          ∙ one_holds nodes w (Child c) literal (literal ∷ []) (in_front literal [])
          (before_holds nodes w paths m.thread m.link.step c m.event.step before)
      | inr m ↦
          let here : m.place ≡ c = same_child m.place c (ap (λ (y : Conjunct). y.group) m.made ∙ of) in
          ap (λ (y : Conjunct). body_at nodes w y.body) (sym m.made ∙ ap (λ d. exited_before (all_events paths) m.thread m.link d m.walk) here)
          ∙ exit_holds m.thread m.link m.walk (subst (λ d. slice_get paths.threads d ≡ Some m.walk) here m.at)
          (rule.joined m.thread m.link m.joins (subst (IsChild paths m.thread m.link.child) here m.is))
    ]

    pub children_exactly : IsExactly nodes w (children_formula paths) (Child c) (ChildRule paths w c)
    children_exactly = record { to = rule_holds; back = holds_by }
