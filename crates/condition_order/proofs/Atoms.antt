-- The atoms of a sleep's conjuncts are about its events, those of its enders, and the sleeps on its
-- condition.
use Rattle.std.proofs.Common.{◌≡◌, ℕ, Bool, true, false, not, List, [], ◌∷◌, ◌++◌, map, Option, Some, None, subst, cond, inl, inr, refl}
use Rattle.std.specs.Prelude.{◌==◌, nat_lt}
use Rattle.std.specs.List.{All, Contains, filter, flat_map}
use Rattle.std.specs.Option.{option_map_or}
use Rattle.std.proofs.lemmas.List.Elements.{All-nil, All-cons, All-append, Contains-append_cases}
use Rattle.path_walk.specs.Paths.{Paths}
use Rattle.order_formula.specs.declared.literal.Atom.{Atom}
use Rattle.order_formula.specs.declared.literal.Atom.TheVariants.{Before, Ends}
use Rattle.order_formula.specs.declared.literal.Literal.{Literal}
use Rattle.order_formula.specs.declared.formula.Body.{Body}
use Rattle.order_formula.specs.declared.formula.Body.TheVariants as body
use Rattle.order_formula.specs.declared.formula.Conjunct.{Conjunct}
use Rattle.order_formula.specs.Formulas.{AtomIsOf, BodyIsOf, ConjunctIsOf, IsOf}
use Rattle.order_events.specs.lawful_order.Events.{all_events}
use Rattle.condition_order.specs.declared.wait.Wait.{Wait}
use Rattle.condition_order.specs.declared.wait.Ender.{Ender}
use Rattle.condition_order.specs.Conditions.{holds, fails, begun, ended, ended_before, woken, not_both, ends_no_later, cases_before, cases_one, not_lost, wait_formula}
use Rattle.condition_order.specs.Conditions.{enders, all_waits, sleeps_on, formula_of, condition_formula}
use Rattle.order_events.proofs.Parts.{each_in}
use Rattle.order_events.proofs.Lists.{of_nil, of_cons, of_map, of_flat_map, of_filter}

-- all atoms of a body
abbrev pub Atoms : (Atom → Type 0) → Body → Type 0
Atoms Q (body.Any cases) = All (All (λ l. Q l.atom)) cases
Atoms Q (body.Read r) = ⊥

module _ (Q : Atom → Type 0) where
  abbrev Literals : List Literal → Type 0
  Literals = All (λ l. Q l.atom)

  single : (l : Literal) → Q l.atom → Literals (l ∷ [])
  single l q = All-cons (λ l. Q l.atom) l [] q (All-nil (λ l. Q l.atom))

  double : (l m : Literal) → Q l.atom → Q m.atom → Literals (l ∷ m ∷ [])
  double l m q r = All-cons (λ l. Q l.atom) l (m ∷ []) q (single m r)

  two : (l m : Literal) → Q l.atom → Q m.atom → All Literals ((l ∷ []) ∷ (m ∷ []) ∷ [])
  two l m q r = All-cons Literals (l ∷ []) ((m ∷ []) ∷ []) (single l q) (All-cons Literals (m ∷ []) [] (single m r) (All-nil Literals))

  each_map : {X : Type 0} (case : X → List Literal) (xs : List X) → ((x : X) → Contains xs x → Literals (case x)) → All Literals (map case xs)
  each_map case xs each = each_in Literals (map case xs) (λ l i. let o = of_map case l xs i in subst Literals o.2 (each o.0 o.1))

  module _ (x : Wait) (es : List Ender) (rs : List ℕ) where
    -- the atoms about a sleep
    pub record MayAsk : Type 0 where
      pub own : (g : Ender) → Contains es g → Q (Ends x.sleep g.event)
      pub other : (r : ℕ) (g : Ender) → Contains rs r → Contains es g → Q (Ends r g.event)
      pub begins : (g : Ender) → Contains es g → Q (Before x.begins g.event)
      pub wakes : (k : ℕ) (g : Ender) → x.wakes ≡ Some k → Contains es g → Q (Before g.event k)
      pub between : (g h : Ender) → Contains es g → Contains es h → Q (Before g.event h.event)

    module _ (may : MayAsk) where
      ended_by_some : Atoms Q (ended x es).body
      ended_by_some = each_map (λ g. holds (Ends x.sleep g.event) ∷ []) es (λ g i. single (holds (Ends x.sleep g.event)) (may.own g i))

      woken_asks : (o : Option ℕ) → ((k : ℕ) → o ≡ Some k → x.wakes ≡ Some k) → (c : Conjunct)
          → Contains (option_map_or (λ k. ended x es ∷ map (ended_before x k) es) o []) c → Atoms Q c.body
      woken_asks None is c i = absurd (of_nil c i)
      woken_asks (Some k) is c i = elim (of_cons c (ended x es) (map (ended_before x k) es) i) [
        | inl same ↦ subst (λ (d : Conjunct). Atoms Q d.body) same ended_by_some
        | inr more ↦
            let o = of_map (ended_before x k) c es more in
            subst (λ (d : Conjunct). Atoms Q d.body) o.2
            (two (fails (Ends x.sleep o.0.event)) (holds (Before o.0.event k)) (may.own o.0 o.1) (may.wakes k o.0 (is k refl) o.1))
      ]

      later_asks : (g : Ender) → Contains es g → (b : Bool) (c : Conjunct)
          → Contains (cond b [] (map (not_both x g) (filter (λ r. nat_lt x.sleep r) rs))) c → Atoms Q c.body
      later_asks g there true c i = absurd (of_nil c i)
      later_asks g there false c i =
          let o = of_map (not_both x g) c (filter (λ r. nat_lt x.sleep r) rs) i in
          let f = of_filter (λ r. nat_lt x.sleep r) o.0 rs o.1 in
          subst (λ (d : Conjunct). Atoms Q d.body) o.2
          (two (fails (Ends x.sleep g.event)) (fails (Ends o.0 g.event)) (may.own g there) (may.other o.0 g f.0 there))

      one_asks : (g : Ender) → Contains es g → (b : Bool) (r : ℕ) → Contains (cond b (x.sleep ∷ []) rs) r → Q (Ends r g.event)
      one_asks g there true r i = elim (of_cons r x.sleep [] i) [
        | inl same ↦ subst (λ a. Q (Ends a g.event)) same (may.own g there)
        | inr none ↦ absurd (of_nil r none)
      ]
      one_asks g there false r i = may.other r g i there

      lost_asks : (g : Ender) → Contains es g → Atoms Q (not_lost x es rs g).body
      lost_asks g there =
          let before = λ (h : Ender). holds (Ends x.sleep h.event) ∷ holds (Before h.event g.event) ∷ [] in
          let pass = λ (h : Ender). not (h.event == g.event) in
          let one = λ (r : ℕ). holds (Ends r g.event) ∷ [] in
          let may_end = cond g.all (x.sleep ∷ []) rs in
          All-cons Literals (fails (Before x.begins g.event) ∷ []) (cases_before x es g ++ cases_one g may_end)
          (single (fails (Before x.begins g.event)) (may.begins g there))
          (All-append Literals (cases_before x es g) (cases_one g may_end)
          (each_map before (filter pass es) (λ h i. let f = of_filter pass h es i in
          double (holds (Ends x.sleep h.event)) (holds (Before h.event g.event)) (may.own h f.0) (may.between h g f.0 there)))
          (each_map one may_end (λ r i. single (holds (Ends r g.event)) (one_asks g there g.all r i))))

      pub asks : (c : Conjunct) → Contains (wait_formula x es rs) c → Atoms Q c.body
      asks c i =
          let part = woken x es in
          let three = flat_map (ends_no_later x rs) es in
          let four = map (not_lost x es rs) es in
          elim (Contains-append_cases (map (begun x) es) (part ++ (three ++ four)) c i) [
            | inl i ↦
                let o = of_map (begun x) c es i in
                subst (λ (d : Conjunct). Atoms Q d.body) o.2
                (two (fails (Ends x.sleep o.0.event)) (holds (Before x.begins o.0.event)) (may.own o.0 o.1) (may.begins o.0 o.1))
            | inr i ↦ elim (Contains-append_cases part (three ++ four) c i) [
              | inl i ↦ woken_asks x.wakes (λ k e. e) c i
              | inr i ↦ elim (Contains-append_cases three four c i) [
                | inl i ↦ let o = of_flat_map (ends_no_later x rs) c es i in later_asks o.0 o.1 o.0.all c o.2
                | inr i ↦ let o = of_map (not_lost x es rs) c es i in subst (λ (d : Conjunct). Atoms Q d.body) o.2 (lost_asks o.0 o.1)
              ]
            ]
          ]

-- no atom names a term
is_of : (terms : ℕ) (b : Body) → Atoms (AtomIsOf terms) b → BodyIsOf terms b
is_of terms (body.Any cases) atoms = atoms
is_of terms (body.Read r) none = absurd none

pub no_terms : (paths : Paths) (terms : ℕ) → IsOf terms (condition_formula paths)
no_terms paths terms = each_in (ConjunctIsOf terms) (condition_formula paths) (λ c i.
    let o = of_flat_map (formula_of (all_events paths) (all_waits paths)) c (all_waits paths) i in
    let x = o.0 in
    is_of terms c.body (asks (AtomIsOf terms) x (enders (all_events paths) x.condition) (sleeps_on (all_waits paths) x.condition) (record {
      own = λ g i. tt;
      other = λ r g i j. tt;
      begins = λ g i. tt;
      wakes = λ k g e i. tt;
      between = λ g h i j. tt;
    }) c o.2))
