use Rattle.std.proofs.Common.{◌≡◌, ◌∙◌, ◌++◌, ◌+◌, ◌<◌, ℕ, [], ◌∷◌, List, Some, None, length, take, get_or, fold, refl, ap, sym, subst, rules}
use Rattle.std.specs.Prelude.{option_map}
use Rattle.std.specs.List.{Contains, filter_map, flat_map}
use Rattle.std.specs.Option.{option_map_or}
use Rattle.std.proofs.lemmas.List.{append-nil, take_all}
use Rattle.std.proofs.lemmas.List.Elements.{All-contains}
use Rattle.tc_code.specs.Code.{Code}
use Rattle.path_walk.specs.declared.event.Event.{Event}
use Rattle.sym_terms.specs.Terms.{with_node}
use Rattle.sym_terms.specs.declared.node.Node.{Node}
use Rattle.sym_exec.specs.Making.{Grows}
use Rattle.sym_exec.specs.declared.symbolic.Access.{Access}
use Rattle.sym_exec.proofs.Grown.{grows_both, grows_none}
use Rattle.order_formula.specs.declared.formula.Conjunct.{Conjunct}
use Rattle.order_cells.specs.lawful_order.Events.{Placed}
use Rattle.order_cells.specs.Terms.{AccessIsOf}
use Rattle.read_write.specs.Reading.{conjunct_of, needs_of}
use Rattle.read_write.proofs.Stays.{needs_of_stay}
use Rattle.read_write.proofs.Steps.{block_on, nodes_on}
use Rattle.read_write.proofs.reads.conjuncts.Goals as goal
use Rattle.read_write.proofs.reads.conjuncts.Goals.{in-Some+in_ok-conjunct+in_ok-push, in_default}

-- the conjuncts and the nodes after `k` loads
record Stand (code : Code) (events : List (Placed Event)) (accesses : List (Placed Access)) (first : List Node) (k : ℕ) (last : List Node) (made : List Conjunct)
    : Type 0 where
  conjuncts : (later : List Node) → Grows last later
      → made ≡ filter_map (λ a. option_map (conjunct_of code events accesses later a) a.it.takes) (take k accesses)
  nodes : last ≡ fold with_node first (flat_map (λ a. option_map_or (needs_of code accesses first a) a.it.takes []) (take k accesses))
  grown : Grows first last

module _ (code : Code) (events : List (Placed Event)) (accesses : List (Placed Access)) (first : List Node)
    (have : (a : Placed Access) → Contains accesses a → AccessIsOf (length first) a.it) (k : ℕ) (x : Placed Access) (within : k < length accesses)
    (is : get_or accesses k x ≡ x) (mid : List Node) (before : List Conjunct) (stand : Stand code events accesses first k mid before) where
  -- after one more load, and after an access that isn't a load
  load_on : (number : ℕ) (last : List Node) (conjunct : Conjunct) (after : List Conjunct) → x.it.takes ≡ Some number → after ≡ before ++ conjunct ∷ []
      → ((later : List Node) → Grows last later → conjunct ≡ conjunct_of code events accesses later x number)
      → last ≡ fold with_node mid (needs_of code accesses mid x number) → Grows mid last → Stand code events accesses first (k + 1) last after
  load_on number last conjunct after takes on own made grown = record {
    conjuncts = block_on (λ later a. option_map (conjunct_of code events accesses later a) a.it.takes) accesses k x mid last before after (Some conjunct)
        within is grown on stand.conjuncts (λ later g. ap Some (own later g) ∙ sym (ap (option_map (conjunct_of code events accesses later x)) takes));
    nodes = nodes_on (λ a. option_map_or (needs_of code accesses first a) a.it.takes []) accesses k x first mid last (needs_of code accesses mid x number)
        within is stand.nodes made
        (needs_of_stay code accesses first mid stand.grown have x number (k, within, is)
        ∙ sym (ap (λ o. option_map_or (needs_of code accesses first x) o []) takes));
    grown = grows_both first mid last stand.grown grown;
  }

  other_on : x.it.takes ≡ None → Stand code events accesses first (k + 1) mid before
  other_on takes = record {
    conjuncts = block_on (λ later a. option_map (conjunct_of code events accesses later a) a.it.takes) accesses k x mid mid before before None
        within is (grows_none mid) (sym (append-nil before)) stand.conjuncts
        (λ later g. sym (ap (option_map (conjunct_of code events accesses later x)) takes));
    nodes = nodes_on (λ a. option_map_or (needs_of code accesses first a) a.it.takes []) accesses k x first mid mid []
        within is stand.nodes refl (sym (ap (λ o. option_map_or (needs_of code accesses first x) o []) takes));
    grown = stand.grown;
  }

pub loop-load-preserved : goal.loop-load-preserved
loop-load-preserved c =
    let code = c.args.code.now in
    let events = c.args.events.now in
    let all = c.args.accesses.now in
    let first = c.args.terms.now in
    let k = c.loop-load.load-index in
    let x = c.load-item.result in
    let mid = c.loop-load.terms in
    let before = c.loop-load.conjuncts.items in
    let within : k < length all = search rules in
    let is : get_or all k x ≡ x = search rules in
    let have : (a : Placed Access) → Contains all a → AccessIsOf (length first) a.it =
    λ a i. All-contains (λ (b : Placed Access). AccessIsOf (length first) b.it) all a c.requires i in
    let stand : Stand code events all first k mid before = record {
      conjuncts = c.loop-load.invariant.conjuncts;
      nodes = c.loop-load.invariant.made;
      grown = c.loop-load.invariant.grown;
    } in
    let after : Stand code events all first (k + 1) c.match-load.terms c.match-load.conjuncts.items = elim c.match-load.branch [
      | in-Some+in_ok-conjunct+in_ok-push w ↦
          subst (λ ns. Stand code events all first (k + 1) ns c.match-load.conjuncts.items) (sym w.terms-is)
          (load_on code events all first have k x within is mid before stand w.in-Some.number w.conjunct.new.terms w.in_ok-conjunct.field-0
          c.match-load.conjuncts.items w.in-Some.is (ap (λ v. v.items) w.conjuncts-is ∙ w.in_ok-push.ensures.items)
          w.in_ok-conjunct.ensures.conjunct w.in_ok-conjunct.ensures.made w.in_ok-conjunct.ensures.grown)
      | in_default w ↦
          subst (λ ns. Stand code events all first (k + 1) ns c.match-load.conjuncts.items) (sym w.terms-is)
          (subst (λ cs. Stand code events all first (k + 1) mid cs) (sym (ap (λ v. v.items) w.conjuncts-is))
          (other_on code events all first have k x within is mid before stand w.in_default.is))
    ] in
    record { conjuncts = after.conjuncts; made = after.nodes; grown = after.grown }

pub returns-clause-conjuncts : goal.returns-clause-conjuncts
returns-clause-conjuncts c = λ later g.
    let each = λ (a : Placed Access). option_map (conjunct_of c.args.code.now c.args.events.now c.args.accesses.now later a) a.it.takes in
    c.loop-load.invariant.conjuncts later g ∙ ap (filter_map each) (take_all c.loop-load.load-index c.args.accesses.now c.loop-load-test.false)
