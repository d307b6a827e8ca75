-- The terms and events of the formula exist.
use Rattle.std.proofs.Common.{◌≡◌, ℕ, ◌<◌, ◌∷◌, List, length, Option, Some, None, refl, ap, sym, subst, ◌∙◌, arith}
use Rattle.std.specs.Prelude.{IfSome, option_map, fold}
use Rattle.std.specs.List.{All, Contains, filter_map}
use Rattle.std.proofs.lemmas.List.Elements.{All-contains}
use Rattle.tc_code.specs.Code.{Code}
use Rattle.path_walk.specs.Paths.{Paths}
use Rattle.sym_terms.specs.Terms.{id_of, with_node}
use Rattle.sym_terms.specs.declared.node.Node.{Node}
use Rattle.sym_terms.specs.declared.node.Node.TheVariants.{Constant, Symbol}
use Rattle.sym_exec.specs.Executed.{Symbolic}
use Rattle.sym_exec.specs.Making.{Grows}
use Rattle.sym_exec.specs.declared.symbolic.Access.{Access}
use Rattle.sym_exec.proofs.Grown.{grows_both}
use Rattle.order_formula.specs.Formulas.{CandidateIsOf, ConjunctIsOf, IsOf}
use Rattle.order_formula.specs.Orders.{ConjunctIsIn, Order}
use Rattle.order_formula.specs.declared.read.Candidate.{Candidate}
use Rattle.order_cells.specs.lawful_order.Cells.{value_at_start}
use Rattle.order_cells.specs.lawful_order.Events.{Placed, all_events, number_of}
use Rattle.order_cells.specs.lawful_order.Whole.{IsExecutedBy}
use Rattle.order_cells.specs.Same.{same_test}
use Rattle.order_cells.specs.Terms.{HaveTerms}
use Rattle.order_cells.proofs.Needs.{all_there, grows_all, id_within, there_later}
use Rattle.read_write.specs.Accesses.{all_accesses}
use Rattle.read_write.specs.Reading.{candidate_of, conjunct_of, needs_of, read_formula, read_needs, test_of}
use Rattle.read_write.proofs.Candidates.{candidate_parts, tests_of}
use Rattle.read_write.proofs.Formulas.{load_from, needed}
use Rattle.order_events.proofs.Lists.{in_back, in_filter_map, in_front, of_filter_map}
use Rattle.order_events.proofs.Parts.{each_in}
use Rattle.order_events.proofs.Numbers.{has_number}
use Rattle.read_write.proofs.Numbers.{access_of}
use Rattle.read_write.proofs.Stays.{needs_stay}

if_mapped : {X Y : Type 0} (f : X → Y) (P : Y → Type 0) (o : Option X) → ((x : X) → o ≡ Some x → P (f x)) → IfSome (option_map f o) P
if_mapped f P None each = tt
if_mapped f P (Some x) each = each x refl

-- terms
module _ (code : Code) (paths : Paths) (symbolic : Symbolic) (nodes : List Node) (have : HaveTerms nodes symbolic)
    (needs : All (Contains nodes) (read_needs code symbolic nodes)) where
  module _ (a : Placed Access) (number : ℕ) (i : Contains (all_accesses symbolic) a) (takes : a.it.takes ≡ Some number) where
    abbrev start : Node
    start = Constant (value_at_start code a.it.cell)

    abbrev tests : List Node
    tests = filter_map (test_of nodes a) (all_accesses symbolic)

    there : (n : Node) → Contains (needs_of code (all_accesses symbolic) nodes a number) n → Contains nodes n
    there = needed code symbolic nodes needs a number i takes

    candidate_is : (c : Candidate) → Contains (filter_map (candidate_of (all_events paths) nodes a) (all_accesses symbolic)) c → CandidateIsOf (length nodes) c
    candidate_is c j =
        let o = of_filter_map (candidate_of (all_events paths) nodes a) c (all_accesses symbolic) j in
        let b = o.0 in
        let of = candidate_parts (all_events paths) nodes a b c o.2 in
        let written : IfSome (Some of.value) (λ t. t < length nodes) =
        subst (λ x. IfSome x (λ t. t < length nodes)) of.writes (have b.thread b.it (access_of symbolic b o.1)).writes in
        subst (CandidateIsOf (length nodes)) (sym of.is) (record {
          same_cell = if_mapped (id_of nodes) (λ t. t < length nodes) (same_test nodes b.it.cell a.it.cell) (λ n is.
              id_within nodes n (there n (in_back n (Symbol number) (start ∷ tests) (in_back n start tests
              (in_filter_map (test_of nodes a) b n (all_accesses symbolic) o.1 (tests_of nodes a b of.value of.may of.writes ∙ is))))));
          value = written;
        })

    conjunct_is : ConjunctIsOf (length nodes) (conjunct_of code (all_events paths) (all_accesses symbolic) nodes a number)
    conjunct_is = record {
      takes = id_within nodes (Symbol number) (there (Symbol number) (in_front (Symbol number) (start ∷ tests)));
      start = id_within nodes start (there start (in_back start (Symbol number) (start ∷ tests) (in_front start tests)));
      candidates = each_in (CandidateIsOf (length nodes)) (filter_map (candidate_of (all_events paths) nodes a) (all_accesses symbolic)) candidate_is;
    }

  pub formula_is_of : IsOf (length nodes) (read_formula code paths symbolic nodes)
  formula_is_of = each_in (ConjunctIsOf (length nodes)) (read_formula code paths symbolic nodes) (λ c j.
      let l = load_from code paths symbolic nodes c j in
      subst (ConjunctIsOf (length nodes)) l.is (conjunct_is l.load l.number l.among l.takes))

-- the made nodes exist
pub needs_there : (code : Code) (symbolic : Symbolic) (nodes later : List Node) → HaveTerms nodes symbolic
    → Grows (fold with_node nodes (read_needs code symbolic nodes)) later → All (Contains later) (read_needs code symbolic later)
needs_there code symbolic nodes later have g =
    let needs = read_needs code symbolic nodes in
    let made = fold with_node nodes needs in
    let grown = grows_both nodes made later (grows_all nodes needs) g in
    subst (All (Contains later)) (sym (needs_stay code symbolic nodes later grown have))
    (each_in (Contains later) needs (λ n i. there_later made later n g (All-contains (Contains made) needs n (all_there nodes needs) i)))

-- events
pub formula_is_in : (code : Code) (paths : Paths) (symbolic : Symbolic) (nodes : List Node) (o : Order) → IsExecutedBy paths symbolic
    → o.events ≡ length (all_events paths) → All (ConjunctIsIn o) (read_formula code paths symbolic nodes)
formula_is_in code paths symbolic nodes o executed count =
    each_in (ConjunctIsIn o) (read_formula code paths symbolic nodes) (λ c j.
    let l = load_from code paths symbolic nodes c j in
    subst (ConjunctIsIn o) l.is (
      within l.load l.among,
      each_in (λ (d : Candidate). d.event < o.events) (filter_map (candidate_of (all_events paths) nodes l.load) (all_accesses symbolic)) (λ d k.
          let of = of_filter_map (candidate_of (all_events paths) nodes l.load) d (all_accesses symbolic) k in
          let is = ap (λ (e : Candidate). e.event) (candidate_parts (all_events paths) nodes l.load of.0 d of.2).is in
          subst (λ n. n < o.events) (sym is) (within of.0 of.1)),
    ))
  where
    within : (a : Placed Access) → Contains (all_accesses symbolic) a → number_of paths a.thread a.it.step < o.events
    within a i =
        let e = executed.accesses a.thread a.it (access_of symbolic a i) in
        omega (arith, has_number paths a.thread a.it.step (e.0, e.1, e.2), count)
