-- The order of a system is asked about exactly the possible enders of each sleep.
use Rattle.std.proofs.Common.{◌≡◌, ◌∙◌, ℕ, ◌==◌, Bool, true, false, List, [], ◌∷◌, ◌++◌, map, length, fold, Some, inl, inr, refl, sym, ap, ap₂, subst}
use Rattle.std.specs.Prelude.{◌↔◌, slice_get}
use Rattle.std.specs.List.{All, Contains, list_any}
use Rattle.std.proofs.lemmas.Bool.{and_parts, eqb-true}
use Rattle.std.proofs.lemmas.Option.{same_Some}
use Rattle.std.proofs.lemmas.List.Elements.{All-nil, All-append, All-head, All-tail, All-push, All-contains, All-weaker}
use Rattle.std.proofs.lemmas.List.Elements.{Contains-append_left, Contains-append_right}
use Rattle.indexmap.specs.IndexSet.{insert_key}
use Rattle.tc_code.specs.Code.{Code}
use Rattle.path_walk.specs.Paths.{Paths}
use Rattle.path_walk.specs.declared.event.Sleep.{Sleep}
use Rattle.store_buffers.specs.Pending.{Binding}
use Rattle.sym_terms.specs.Terms.{id_of}
use Rattle.sym_terms.specs.declared.node.Node.{Node}
use Rattle.sym_exec.specs.Executed.{Symbolic, executed}
use Rattle.order_formula.specs.declared.formula.Body.{Body}
use Rattle.order_formula.specs.declared.formula.Body.TheVariants as body
use Rattle.order_formula.specs.declared.formula.Conjunct.{Conjunct}
use Rattle.order_formula.specs.declared.group.Group.TheVariants.{Own, Test as OfTest}
use Rattle.order_formula.specs.declared.literal.Atom.{Atom}
use Rattle.order_formula.specs.declared.literal.Atom.TheVariants.{Before, Ends, Test}
use Rattle.order_formula.specs.declared.literal.Literal.{Literal}
use Rattle.order_formula.specs.declared.order.Choice.{Choice}
use Rattle.order_formula.specs.Orders.{Order, AtomIsAsked, IsAsked, LiteralIsAsked, ConjunctIsAsked, same_choice, order_without_questions}
use Rattle.order_formula.specs.Orders.{with_atom, with_case, with_body, with_conjunct, with_formula}
use Rattle.order_formula.specs.Worlds.{World}
use Rattle.order_formula.proofs.Asked.{formula_asked}
use Rattle.order_events.specs.lawful_order.Events.{Placed, all_events, all_sleeps, ender_of}
use Rattle.order_events.specs.lawful_order.Conditions.{IsSignal, IsBroadcast}
use Rattle.order_events.specs.lawful_order.Lawful.{IsWorldOf}
use Rattle.order_events.specs.Parts.{comes_before}
use Rattle.order_events.proofs.Lists.{of_cons, of_any, in_flat_map, of_flat_map, in_map}
use Rattle.order_events.proofs.Parts.{each_in, of_one}
use Rattle.sync_order.specs.condition_order.declared.wait.Ender.{Ender}
use Rattle.sync_order.specs.condition_order.Conditions.{all_waits, begun, condition_formula, enders, fails, formula_of, holds, sleeps_on, wait_of}
use Rattle.sync_order.proofs.condition_order.Among.{ender_among, ender_is, sleep_at, sleep_is, wait_among, wait_is}
use Rattle.sync_order.proofs.condition_order.Atoms.{Atoms, asks}
use Rattle.memory_order.specs.Own as own
use Rattle.memory_order.specs.Own.{in_order, own_formula}
use Rattle.memory_order.proofs.Exact.{IsOwn, Always, Tested, Failing, of_formula}
use Rattle.sync_order.specs.Children.{children_formula}
use Rattle.sync_order.specs.Mutexes.{mutexes_formula}
use Rattle.sync_order.specs.Stuck.{stuck_formula}
use Rattle.sync_order.specs.Sync.{sync_formula}
use Rattle.sync_order.proofs.Literals.{AreLiterals, BodyHas, Has, in_children, in_mutexes, in_stuck, one_has}
use Rattle.sync_order.proofs.Whole.{each_part}
use Rattle.read_write.specs.Reading.{read_formula}
use Rattle.read_write.proofs.Formulas.{load_from}
use Rattle.clap_system.specs.Systems.{rules_of, system_by, with_needs}
use Rattle.clap_system.specs.Tests.{test_formula}
use Rattle.clap_system.proofs.Tests.{of_test}

-- a sleep, and a signal or a broadcast on its condition
pub record MayEnd (paths : Paths) (s g : ℕ) : Type 0 where
  pub sleep : Placed Sleep
  pub at : slice_get (all_sleeps paths) s ≡ Some sleep
  pub ender : Ender
  pub among : Contains (enders (all_events paths) sleep.it.condition) ender
  pub event : ender.event ≡ g

pub each_key : {K : Type 0} (P : K → Type 0) (e : K → K → Bool) (ks : List K) (k : K) → All P ks → P k → All P (insert_key e ks k)
each_key P e ks k all own = by (list_any (e k) ks) refl
  where
    by : (b : Bool) → list_any (e k) ks ≡ b → All P (insert_key e ks k)
    by true is = rw is all
    by false is = rw is (All-push P ks k all own)

-- some world, the same for all
abbrev nowhere : World
nowhere = record { positions = []; loads = []; enders = [] }

module _ (paths : Paths) where
  -- a part of a formula asks only about the possible enders of sleeps
  abbrev AtomAsks : Atom → Type 0
  AtomAsks (Before first second) = Unit {0}
  AtomAsks (Ends s g) = MayEnd paths s g
  AtomAsks (Test term) = Unit {0}

  abbrev pub LiteralAsks : Literal → Type 0
  LiteralAsks l = AtomAsks l.atom

  abbrev BodyAsks : Body → Type 0
  BodyAsks (body.Any cases) = All (All LiteralAsks) cases
  BodyAsks (body.Read r) = Unit {0}

  -- the order has only such choices
  abbrev pub HasEnders : Order → Type 0
  HasEnders o = All (λ c. MayEnd paths c.sleep c.by) o.choices

  atom_kept : (o : Order) (a : Atom) → HasEnders o → AtomAsks a → HasEnders (with_atom o a)
  atom_kept o (Before first second) has asks = has
  atom_kept o (Ends s g) has asks = each_key (λ c. MayEnd paths c.sleep c.by) same_choice o.choices (record { sleep = s; by = g }) has asks
  atom_kept o (Test term) has asks = has

  all_kept : {X : Type 0} (with : Order → X → Order) (Asks : X → Type 0) → ((o : Order) (x : X) → HasEnders o → Asks x → HasEnders (with o x))
      → (o : Order) (xs : List X) → HasEnders o → All Asks xs → HasEnders (fold with o xs)
  all_kept with Asks each o [] has all = has
  all_kept with Asks each o (x ∷ xs) has all =
      all_kept with Asks each (with o x) xs (each o x has (All-head Asks x xs all)) (All-tail Asks x xs all)

  case_kept : (o : Order) (ls : List Literal) → HasEnders o → All LiteralAsks ls → HasEnders (with_case o ls)
  case_kept = all_kept (λ (p : Order) (l : Literal). with_atom p l.atom) LiteralAsks (λ o l. atom_kept o l.atom)

  body_kept : (o : Order) (b : Body) → HasEnders o → BodyAsks b → HasEnders (with_body o b)
  body_kept o (body.Any cases) has all = all_kept with_case (All LiteralAsks) case_kept o cases has all
  body_kept o (body.Read r) has all = has

  formula_kept : (o : Order) (formula : List Conjunct) → HasEnders o → All (λ c. BodyAsks c.body) formula → HasEnders (with_formula o formula)
  formula_kept = all_kept with_conjunct (λ (c : Conjunct). BodyAsks c.body) (λ o c. body_kept o c.body)

  pub own_asks : (buffered : Bool) (bound : Binding) (symbolic : Symbolic) (nodes : List Node) (c : Conjunct)
      → Contains (own_formula buffered bound paths symbolic nodes) c → Has LiteralAsks c
  own_asks buffered bound symbolic nodes c i = by (of_formula buffered bound paths symbolic nodes c i)
    where
      by : IsOwn buffered bound paths symbolic nodes c → Has LiteralAsks c
      by (Always t q p at two next is) =
          let l = in_order (all_events paths) t p in
          subst (Has LiteralAsks) is (one_has LiteralAsks (Own t) (l ∷ []) (λ k j. subst LiteralAsks (of_one k l j) tt))
      by (Tested t q p test at two kept is) =
          let l = in_order (all_events paths) t p in
          let m = own.fails (id_of nodes test) in
          subst (Has LiteralAsks) is (one_has LiteralAsks (Own t) (m ∷ l ∷ []) (λ k j. elim (of_cons k m (l ∷ []) j) [
            | inl same ↦ subst LiteralAsks same tt
            | inr rest ↦ subst LiteralAsks (of_one k l rest) tt
          ]))
      by (Failing x f first second before failing is) =
          let l = comes_before (all_events paths) x.thread x.it.step f.thread f.it.step in
          subst (Has LiteralAsks) is (one_has LiteralAsks (Own x.thread) (l ∷ []) (λ k j. subst LiteralAsks (of_one k l j) tt))

  are_asked : AreLiterals paths (λ t k. Unit {0}) LiteralAsks
  are_asked = record {
    event = λ t x has. tt;
    create = λ t l has. tt;
    join = λ t l has. tt;
    taken = λ t r has. tt;
    left = λ t k r has is. tt;
    before = λ t k u j one other. tt;
    unended = λ s x g at among. record { sleep = x; at = at; ender = g; among = among; event = refl };
  }

  -- the sleeps on the condition of a wait are sleeps that its enders may end
  other_may : (c r : ℕ) (g : Ender) → Contains (sleeps_on (all_waits paths) c) r → Contains (enders (all_events paths) c) g → MayEnd paths r g.event
  other_may c r g i j =
      let s = sleep_is paths nowhere r c i in
      record { sleep = s.0; at = s.1.is; ender = g; among = subst (λ d. Contains (enders (all_events paths) d) g) (sym s.1.condition) j; event = refl }

  has_atoms : (b : Body) → Atoms AtomAsks b → BodyHas LiteralAsks b
  has_atoms (body.Any cases) atoms = atoms
  has_atoms (body.Read r) none = none

  conditions_ask : All (Has LiteralAsks) (condition_formula paths)
  conditions_ask = each_in (Has LiteralAsks) (condition_formula paths) (λ c i.
      let f = of_flat_map (formula_of (all_events paths) (all_waits paths)) c (all_waits paths) i in
      let x = f.0 in
      let v = wait_is paths nowhere x f.1 in
      let slept : slice_get (all_sleeps paths) x.sleep ≡ Some v.0.1 = subst (λ n. slice_get (all_sleeps paths) n ≡ Some v.0.1) (λ k. (v.2 k).sleep) v.1 in
      let on : v.0.1.it.condition ≡ x.condition = λ k. (v.2 k).condition in
      has_atoms c.body (asks AtomAsks x (enders (all_events paths) x.condition) (sleeps_on (all_waits paths) x.condition) (record {
        own = λ g j. record {
          sleep = v.0.1;
          at = slept;
          ender = g;
          among = subst (λ d. Contains (enders (all_events paths) d) g) (sym on) j;
          event = refl;
        };
        other = λ r g k j. other_may x.condition r g k j;
        begins = λ g j. tt;
        wakes = λ k g e j. tt;
        between = λ g h k j. tt;
      }) c f.2))

  pub sync_asks : All (Has LiteralAsks) (sync_formula paths)
  sync_asks = each_part paths (Has LiteralAsks) (in_children paths (λ t k. Unit {0}) LiteralAsks are_asked)
      (in_mutexes paths (λ t k. Unit {0}) LiteralAsks are_asked) conditions_ask (in_stuck paths (λ t k. Unit {0}) LiteralAsks are_asked)

  pub tests_ask : (symbolic : Symbolic) (c : Conjunct) → Contains (test_formula symbolic) c → Has LiteralAsks c
  tests_ask symbolic c i =
      let o = of_test symbolic c i in
      let l : Literal = record { atom = Test o.test.term; wanted = o.test.wanted } in
      subst (Has LiteralAsks) o.is (one_has LiteralAsks (OfTest o.thread o.test.line) (l ∷ []) (λ k j. subst LiteralAsks (of_one k l j) tt))

  body_asks : (b : Body) → BodyHas LiteralAsks b → BodyAsks b
  body_asks (body.Any cases) has = has
  body_asks (body.Read r) none = tt

  module _ (buffered : Bool) (bound : Binding) (code : Code) (symbolic : Symbolic) (nodes : List Node) where
    abbrev orders : List Conjunct
    orders = own_formula buffered bound paths symbolic nodes

    abbrev read : List Conjunct
    read = read_formula code paths symbolic nodes

    abbrev P : Conjunct → Type 0
    P c = BodyAsks c.body

    reads_ask : All P read
    reads_ask = each_in P read (λ c i. subst P (load_from code paths symbolic nodes c i).is tt)

    rules_ask : All P (rules_of buffered bound code paths symbolic nodes)
    rules_ask =
        All-append P (orders ++ sync_formula paths ++ read) (test_formula symbolic)
        (All-append P (orders ++ sync_formula paths) read
        (All-append P orders (sync_formula paths)
        (each_in P orders (λ c i. body_asks c.body (own_asks buffered bound symbolic nodes c i)))
        (All-weaker (Has LiteralAsks) P (λ c has. body_asks c.body has) (sync_formula paths) sync_asks))
        reads_ask)
        (each_in P (test_formula symbolic) (λ c i. body_asks c.body (tests_ask symbolic c i)))

    -- each choice that the formula asks about is of a sleep and one of its possible enders
    pub choice_may : (o : Order) → HasEnders o → (s g : ℕ) → Contains (with_formula o (rules_of buffered bound code paths symbolic nodes)).choices (record { sleep = s; by = g })
        → MayEnd paths s g
    choice_may o has s g i =
        let after = with_formula o (rules_of buffered bound code paths symbolic nodes) in
        All-contains (λ (c : Choice). MayEnd paths c.sleep c.by) after.choices (record { sleep = s; by = g })
        (formula_kept o (rules_of buffered bound code paths symbolic nodes) has rules_ask) i

    -- each possible ender is asked about
    begun_in : (s : ℕ) (x : Placed Sleep) (e : Ender) → slice_get (all_sleeps paths) s ≡ Some x → Contains (enders (all_events paths) x.it.condition) e
        → Contains (rules_of buffered bound code paths symbolic nodes) (begun (wait_of (all_events paths) (s, x)) e)
    begun_in s x e at among =
        let w = wait_of (all_events paths) (s, x) in
        let es = enders (all_events paths) x.it.condition in
        let c = begun w e in
        let here : Contains (formula_of (all_events paths) (all_waits paths) w) c = Contains-append_left (map (begun w) es) _ c (in_map (begun w) e es among) in
        let condition : Contains (condition_formula paths) c =
        in_flat_map (formula_of (all_events paths) (all_waits paths)) w c (all_waits paths) (wait_among paths nowhere s x at) here in
        let sync : Contains (sync_formula paths) c = Contains-append_left (children_formula paths ++ mutexes_formula paths ++ condition_formula paths) (stuck_formula paths) c
        (Contains-append_right (children_formula paths ++ mutexes_formula paths) (condition_formula paths) c condition) in
        Contains-append_left (orders ++ sync_formula paths ++ read) (test_formula symbolic) c
        (Contains-append_left (orders ++ sync_formula paths) read c (Contains-append_right orders (sync_formula paths) c sync))

    pub may_choice : (o : Order) → IsAsked o (rules_of buffered bound code paths symbolic nodes) → (s g : ℕ) → MayEnd paths s g
        → Contains o.choices (record { sleep = s; by = g })
    may_choice o asked s g may =
        let w = wait_of (all_events paths) (s, may.sleep) in
        let c = begun w may.ender in
        let there : ConjunctIsAsked o c =
        All-contains (ConjunctIsAsked o) (rules_of buffered bound code paths symbolic nodes) c asked (begun_in s may.sleep may.ender may.at may.among) in
        let l = fails (Ends s may.ender.event) in
        let case : All (LiteralIsAsked o) (l ∷ []) = All-head (All (LiteralIsAsked o)) (l ∷ []) ((holds (Before w.begins may.ender.event) ∷ []) ∷ []) there in
        let one : AtomIsAsked o (Ends s may.ender.event) = All-head (LiteralIsAsked o) l [] case in
        chosen o s g (subst (λ e. AtomIsAsked o (Ends s e)) may.event one)
      where
        chosen : (o : Order) (s g : ℕ) → AtomIsAsked o (Ends s g) → Contains o.choices (record { sleep = s; by = g })
        chosen o s g any =
            let own : Choice = record { sleep = s; by = g } in
            let a = of_any (same_choice own) o.choices any in
            let p = and_parts (s == a.0.sleep) (g == a.0.by) a.2 in
            let same : a.0 ≡ own = ap₂ (λ m n. record { sleep = m; by = n }) (sym (eqb-true s a.0.sleep p.0)) (sym (eqb-true g a.0.by p.1)) in
            subst (Contains o.choices) same a.1

-- a world with as many events, loads and sleeps as the paths is theirs exactly if its enders are
-- choices of the order
module _ (paths : Paths) (symbolic : Symbolic) (w : World) where
  pub chosen_where_theirs : IsWorldOf paths symbolic w → (s g : ℕ) → ender_of w s ≡ Some g → MayEnd paths s g
  chosen_where_theirs of s g ends =
      let x = sleep_at paths symbolic w of s g ends in
      let e = ender_among paths symbolic w of s g x.0.it.condition x.0 (record { is = x.1; condition = refl }) ends in
      record { sleep = x.0; at = x.1; ender = e.0; among = e.1; event = e.2 }

  pub theirs_where_chosen : length w.positions ≡ length (all_events paths) → length w.loads ≡ symbolic.loads → length w.enders ≡ length (all_sleeps paths)
      → ((s g : ℕ) → ender_of w s ≡ Some g → MayEnd paths s g) → IsWorldOf paths symbolic w
  theirs_where_chosen events loads sleeps may = record {
    events = events;
    loads = loads;
    sleeps = sleeps;
    enders = λ s g c x is ends.
        let m = may s g ends in
        let same : m.sleep ≡ x = same_Some m.sleep x (sym m.at ∙ is.is) in
        let at : m.sleep.it.condition ≡ c = ap (λ (y : Placed Sleep). y.it.condition) same ∙ is.condition in
        let among : Contains (enders (all_events paths) c) m.ender = subst (λ d. Contains (enders (all_events paths) d) m.ender) at m.among in
        elim (ender_is paths w c m.ender among) [
          | inl signal ↦ inl (subst (λ e. IsSignal paths w e c) m.event signal.0)
          | inr broadcast ↦ inr (subst (λ e. IsBroadcast paths w e c) m.event broadcast.0)
        ];
  }

-- the same for the system of paths
pub choices_are_enders : (buffered : Bool) (bound : Binding) (code : Code) (paths : Paths) (w : World)
    → length w.positions ≡ length (all_events paths) → length w.loads ≡ (system_by buffered bound code paths).symbolic.loads
    → length w.enders ≡ length (all_sleeps paths)
    → IsWorldOf paths (system_by buffered bound code paths).symbolic w
    ↔ ((s g : ℕ) → ender_of w s ≡ Some g → Contains (system_by buffered bound code paths).order.choices (record { sleep = s; by = g }))
choices_are_enders buffered bound code paths w events loads sleeps =
    let x = executed code paths [] in
    let nodes = with_needs buffered bound code paths x.symbolic x.nodes in
    let first = order_without_questions (length (all_events paths)) (length (all_sleeps paths)) in
    let order = (system_by buffered bound code paths).order in
    let asked = formula_asked first (rules_of buffered bound code paths x.symbolic nodes) in (
      λ of s g ends. may_choice paths buffered bound code x.symbolic nodes order asked s g (chosen_where_theirs paths x.symbolic w of s g ends),
      λ chosen. theirs_where_chosen paths x.symbolic w events loads sleeps (λ s g ends.
          choice_may paths buffered bound code x.symbolic nodes first (All-nil (λ (c : Choice). MayEnd paths c.sleep c.by)) s g (chosen s g ends)),
    )
