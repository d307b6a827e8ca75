-- With more nodes, a load needs the same ones, and its conjunct stays the same.
use Rattle.std.proofs.Common.{◌≡◌, ℕ, Bool, true, false, not, ◌&&◌, List, [], ◌∷◌, ◌++◌, length, Option, Some, None, refl, ap, ap₂, ◌∙◌}
use Rattle.std.specs.Prelude.{unwrap_or, option_map, option_and_then, if◌then◌else◌}
use Rattle.std.specs.List.{All, Contains, cons_option, filter_map, flat_map}
use Rattle.std.specs.Option.{option_map_or}
use Rattle.tc_code.specs.Code.{Code}
use Rattle.path_walk.specs.Paths.{Paths}
use Rattle.path_walk.specs.declared.event.Event.{Event}
use Rattle.sym_terms.specs.Terms.{id_of}
use Rattle.sym_terms.specs.declared.node.Node.{Node}
use Rattle.sym_terms.specs.declared.node.Node.TheVariants.{Constant, Symbol}
use Rattle.sym_exec.specs.Executed.{Symbolic}
use Rattle.sym_exec.specs.Making.{Grows}
use Rattle.sym_exec.specs.declared.symbolic.Access.{Access}
use Rattle.order_formula.specs.declared.formula.Body.TheVariants as body
use Rattle.order_formula.specs.declared.formula.Conjunct.{Conjunct}
use Rattle.order_formula.specs.declared.group.Group.TheVariants as group
use Rattle.order_formula.specs.declared.read.Candidate.{Candidate}
use Rattle.order_cells.specs.lawful_order.Cells.{value_at_start}
use Rattle.order_cells.specs.lawful_order.Events.{Placed, all_events}
use Rattle.order_cells.specs.Same.{known_same, same_test}
use Rattle.order_cells.specs.Terms.{AccessIsOf, CellIsOf, HaveTerms}
use Rattle.order_cells.proofs.Needs.{id_stays}
use Rattle.order_cells.proofs.Stay.{known_stays, test_stays}
use Rattle.read_write.specs.Accesses.{all_accesses, is_one}
use Rattle.order_events.specs.Parts.{number_in}
use Rattle.read_write.specs.Reading.{candidate_of, candidate_with, conjunct_of, line_in, may_be_seen, needs_of, read_formula, read_needs, test_of}
use Rattle.order_events.proofs.Lists.{in_back, in_filter_map, in_front}
use Rattle.read_write.proofs.Numbers.{access_of}
use Rattle.read_write.proofs.Formulas.{needed}

-- functions that agree at all elements give the same
pub filter_map_same : {X Y : Type 0} (f g : X → Option Y) (xs : List X) → ((x : X) → Contains xs x → f x ≡ g x) → filter_map f xs ≡ filter_map g xs
filter_map_same f g [] same = refl
filter_map_same f g (x ∷ xs) same =
    ap₂ cons_option (same x (in_front x xs)) (filter_map_same f g xs (λ y i. same y (in_back y x xs i)))

flat_map_same : {X Y : Type 0} (f g : X → List Y) (xs : List X) → ((x : X) → Contains xs x → f x ≡ g x) → flat_map f xs ≡ flat_map g xs
flat_map_same f g [] same = refl
flat_map_same f g (x ∷ xs) same = ap₂ (λ a b. a ++ b) (same x (in_front x xs)) (flat_map_same f g xs (λ y i. same y (in_back y x xs i)))

option_map_same : {X Y : Type 0} (f g : X → Y) (o : Option X) → ((x : X) → o ≡ Some x → f x ≡ g x) → option_map f o ≡ option_map g o
option_map_same f g None same = refl
option_map_same f g (Some x) same = ap Some (same x refl)

module _ (nodes later : List Node) (g : Grows nodes later) (load : Placed Access) (at : CellIsOf (length nodes) load.it.cell) where
  module _ (b : Placed Access) (of : CellIsOf (length nodes) b.it.cell) where
    same_known : known_same later b.it.cell load.it.cell ≡ known_same nodes b.it.cell load.it.cell
    same_known = ap (λ ns. known_same ns b.it.cell load.it.cell) g.1 ∙ known_stays nodes g.0 b.it.cell load.it.cell of at

    same_tested : same_test later b.it.cell load.it.cell ≡ same_test nodes b.it.cell load.it.cell
    same_tested = ap (λ ns. same_test ns b.it.cell load.it.cell) g.1 ∙ test_stays nodes g.0 b.it.cell load.it.cell of at

    pub may_stays : may_be_seen later load b ≡ may_be_seen nodes load b
    may_stays = ap (λ o. not (is_one b load) && unwrap_or o true) same_known

    pub test_of_stays : test_of later load b ≡ test_of nodes load b
    test_of_stays = ap₂ (λ m t. if m then option_and_then (λ _. t) b.it.writes else None) may_stays same_tested

    -- once its test exists, a write stays the same candidate
    pub candidate_stays : (events : List (Placed Event)) → ((n : Node) → test_of nodes load b ≡ Some n → Contains nodes n)
        → candidate_of events later load b ≡ candidate_of events nodes load b
    candidate_stays events there =
        ap (λ m. if m then option_map (candidate_with events later load b) b.it.writes else None) may_stays
        ∙ by (may_be_seen nodes load b) refl b.it.writes refl
      where
        by : (m : Bool) → may_be_seen nodes load b ≡ m → (o : Option ℕ) → b.it.writes ≡ o
            → (if m then option_map (candidate_with events later load b) o else None) ≡ (if m then option_map (candidate_with events nodes load b) o else None)
        by false may o is = refl
        by true may None is = refl
        by true may (Some v) is =
            let test = same_test nodes b.it.cell load.it.cell in
            let named : option_map (id_of later) test ≡ option_map (id_of nodes) test =
            option_map_same (id_of later) (id_of nodes) test (λ n here.
            id_stays nodes later n g (there n
            (ap (λ m. if m then option_and_then (λ _. test) b.it.writes else None) may ∙ ap (option_and_then (λ _. test)) is ∙ here))) in
            ap (λ (t : Option ℕ). Some (record (candidate_with events nodes load b v) { same_cell = t })) (ap (option_map (id_of later)) same_tested ∙ named)

-- the accesses name terms of the nodes
module _ (code : Code) (accesses : List (Placed Access)) (nodes later : List Node) (g : Grows nodes later)
    (have : (a : Placed Access) → Contains accesses a → AccessIsOf (length nodes) a.it) (a : Placed Access) (number : ℕ) (i : Contains accesses a) where
  pub needs_of_stay : needs_of code accesses later a number ≡ needs_of code accesses nodes a number
  needs_of_stay =
      ap (λ ns. Symbol number ∷ Constant (value_at_start code a.it.cell) ∷ ns)
      (filter_map_same (test_of later a) (test_of nodes a) accesses (λ b j. test_of_stays nodes later g a (have a i).cell b (have b j).cell))

  module _ (events : List (Placed Event)) where
    -- a conjunct, by its parts that depend on the nodes
    abbrev with_parts : (takes start : ℕ) → List Candidate → Conjunct
    with_parts takes start candidates = record {
      group = group.Read a.thread (line_in events a.thread a.it.step);
      body = body.Read (record { event = number_in events a.thread a.it.step; takes = takes; start = start; candidates = candidates });
    }

    pub conjunct_stays : ((n : Node) → Contains (needs_of code accesses nodes a number) n → Contains nodes n)
        → conjunct_of code events accesses later a number ≡ conjunct_of code events accesses nodes a number
    conjunct_stays there =
        let symbol = Symbol number in
        let start = Constant (value_at_start code a.it.cell) in
        let tests = filter_map (test_of nodes a) accesses in
        let later_ones = filter_map (candidate_of events later a) accesses in
        let same : later_ones ≡ filter_map (candidate_of events nodes a) accesses =
        filter_map_same (candidate_of events later a) (candidate_of events nodes a) accesses (λ b j.
        candidate_stays nodes later g a (have a i).cell b (have b j).cell events (λ n is.
        there n (in_back n symbol (start ∷ tests) (in_back n start tests (in_filter_map (test_of nodes a) b n accesses j is))))) in
        ap (λ t. with_parts t (id_of later start) later_ones) (id_stays nodes later symbol g (there symbol (in_front symbol (start ∷ tests))))
        ∙ ap (λ s. with_parts (id_of nodes symbol) s later_ones)
        (id_stays nodes later start g (there start (in_back start symbol (start ∷ tests) (in_front start tests))))
        ∙ ap (with_parts (id_of nodes symbol) (id_of nodes start)) same

module _ (code : Code) (symbolic : Symbolic) (nodes later : List Node) (g : Grows nodes later) (have : HaveTerms nodes symbolic) where
  abbrev accesses : List (Placed Access)
  accesses = all_accesses symbolic

  each_has : (a : Placed Access) → Contains accesses a → AccessIsOf (length nodes) a.it
  each_has a i = have a.thread a.it (access_of symbolic a i)

  -- the loads need the same nodes later
  pub needs_stay : read_needs code symbolic later ≡ read_needs code symbolic nodes
  needs_stay = flat_map_same (λ a. option_map_or (needs_of code accesses later a) a.it.takes [])
      (λ a. option_map_or (needs_of code accesses nodes a) a.it.takes []) accesses (λ a i. by a i a.it.takes)
    where
      by : (a : Placed Access) → Contains accesses a → (o : Option ℕ)
          → option_map_or (needs_of code accesses later a) o [] ≡ option_map_or (needs_of code accesses nodes a) o []
      by a i None = refl
      by a i (Some number) = needs_of_stay code accesses nodes later g each_has a number i

  -- once the needed nodes exist, the formula stays the same
  pub formula_stays : (paths : Paths) → All (Contains nodes) (read_needs code symbolic nodes)
      → read_formula code paths symbolic later ≡ read_formula code paths symbolic nodes
  formula_stays paths needs =
      let events = all_events paths in
      filter_map_same (λ a. option_map (conjunct_of code events accesses later a) a.it.takes)
      (λ a. option_map (conjunct_of code events accesses nodes a) a.it.takes) accesses
      (λ a i. option_map_same (conjunct_of code events accesses later a) (conjunct_of code events accesses nodes a) a.it.takes
      (λ number takes. conjunct_stays code accesses nodes later g each_has a number i events (needed code symbolic nodes needs a number i takes)))
