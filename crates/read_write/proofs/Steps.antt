-- The nodes and the pieces that the code makes, each piece over all later nodes too.
use Rattle.std.proofs.Common.{◌≡◌, ℕ, ◌+◌, ◌<◌, Bool, true, List, [], ◌∷◌, ◌++◌, length, get_or, take, Option, Some, None, refl, ap, ap₂, sym, subst, ◌∙◌}
use Rattle.std.specs.Prelude.{fold, option_map}
use Rattle.std.specs.List.{Contains, cons_option, filter_map, flat_map}
use Rattle.std.specs.Option.{option_to_list}
use Rattle.std.proofs.lemmas.List.{append-nil, take_more}
use Rattle.std.proofs.lemmas.List.Concat.{flat_map-append}
use Rattle.std.proofs.lemmas.List.Elements.{filter_map-append}
use Rattle.std.proofs.lemmas.List.Sums.{fold-append}
use Rattle.tc_code.specs.Code.{Code}
use Rattle.path_walk.specs.declared.event.Event.{Event}
use Rattle.sym_terms.specs.Terms.{id_of, with_node}
use Rattle.sym_terms.specs.declared.node.Node.{Node}
use Rattle.sym_terms.specs.declared.node.Node.TheVariants.{Constant, Symbol}
use Rattle.sym_terms.proofs.Growth.{grows}
use Rattle.sym_exec.specs.Making.{Grows}
use Rattle.sym_exec.specs.declared.symbolic.Access.{Access}
use Rattle.sym_exec.proofs.Grown.{grows_both}
use Rattle.order_formula.specs.declared.formula.Body.TheVariants as body
use Rattle.order_formula.specs.declared.formula.Conjunct.{Conjunct}
use Rattle.order_formula.specs.declared.group.Group.TheVariants as group
use Rattle.order_formula.specs.declared.read.Candidate.{Candidate}
use Rattle.order_cells.specs.lawful_order.Cells.{value_at_start}
use Rattle.order_cells.specs.lawful_order.Events.{Placed}
use Rattle.order_cells.specs.Same.{same_test}
use Rattle.order_cells.specs.Terms.{AccessIsOf, CellIsOf}
use Rattle.order_cells.proofs.Needs.{grows_all, id_made, id_stays, made_there}
use Rattle.order_cells.proofs.Stay.{made_later}
use Rattle.read_write.specs.Accesses.{is_earlier}
use Rattle.order_events.specs.Parts.{number_in}
use Rattle.read_write.specs.Reading.{candidate_of, conjunct_of, line_in, may_be_seen, needs_of, test_of}
use Rattle.read_write.proofs.Candidates.{candidate_there}
use Rattle.read_write.proofs.Stays.{filter_map_same, may_stays, test_of_stays}

-- a node gets the id that it keeps
pub named : (nodes later : List Node) (node : Node) → Grows (with_node nodes node) later → id_of nodes node ≡ id_of later node
named nodes later node g = sym (id_stays (with_node nodes node) later node g (made_there nodes node) ∙ id_made nodes node)

-- one element more
pub filter_map_next : {X Y : Type 0} (h : X → Option Y) (xs : List X) (k : ℕ) (x : X) → k < length xs → get_or xs k x ≡ x
    → filter_map h (take (k + 1) xs) ≡ filter_map h (take k xs) ++ option_to_list (h x)
filter_map_next {X} {Y} h xs k x within is =
    ap (filter_map h) (take_more xs k x within ∙ ap (λ y. take k xs ++ y ∷ []) is) ∙ filter_map-append h (take k xs) (x ∷ [])
    ∙ ap (λ ys. filter_map h (take k xs) ++ ys) (one (h x))
  where
    one : (o : Option Y) → cons_option o [] ≡ option_to_list o
    one None = refl
    one (Some y) = refl

pub flat_map_next : {X Y : Type 0} (f : X → List Y) (xs : List X) (k : ℕ) (x : X) → k < length xs → get_or xs k x ≡ x
    → flat_map f (take (k + 1) xs) ≡ flat_map f (take k xs) ++ f x
flat_map_next f xs k x within is =
    ap (flat_map f) (take_more xs k x within ∙ ap (λ y. take k xs ++ y ∷ []) is) ∙ flat_map-append f (take k xs) (x ∷ [])
    ∙ ap (λ ys. flat_map f (take k xs) ++ ys) (append-nil (f x))

-- the results of elements, with one more element, over all later nodes
pub block_on : {X Y : Type 0} (h : List Node → X → Option Y) (xs : List X) (k : ℕ) (x : X) (mid last : List Node) (before after : List Y) (o : Option Y)
    → k < length xs → get_or xs k x ≡ x → Grows mid last → after ≡ before ++ option_to_list o
    → ((later : List Node) → Grows mid later → before ≡ filter_map (h later) (take k xs)) → ((later : List Node) → Grows last later → o ≡ h later x)
    → (later : List Node) → Grows last later → after ≡ filter_map (h later) (take (k + 1) xs)
block_on h xs k x mid last before after o within is grown on sofar own later g =
    on ∙ ap₂ (λ ys p. ys ++ option_to_list p) (sofar later (grows_both mid last later grown g)) (own later g)
    ∙ sym (filter_map_next (h later) xs k x within is)

pub nodes_on : {X : Type 0} (f : X → List Node) (xs : List X) (k : ℕ) (x : X) (first mid last own : List Node) → k < length xs → get_or xs k x ≡ x
    → mid ≡ fold with_node first (flat_map f (take k xs)) → last ≡ fold with_node mid own → own ≡ f x
    → last ≡ fold with_node first (flat_map f (take (k + 1) xs))
nodes_on f xs k x first mid last own within is sofar on same =
    on ∙ ap₂ (fold with_node) sofar same ∙ sym (fold-append with_node first (flat_map f (take k xs)) (f x))
    ∙ ap (fold with_node first) (sym (flat_map_next f xs k x within is))

pub tests_on : {X : Type 0} (h : X → Option Node) (xs : List X) (k : ℕ) (x : X) (first mid last : List Node) (own : Option Node) → k < length xs
    → get_or xs k x ≡ x → mid ≡ fold with_node first (filter_map h (take k xs)) → last ≡ fold with_node mid (option_to_list own) → own ≡ h x
    → last ≡ fold with_node first (filter_map h (take (k + 1) xs))
tests_on h xs k x first mid last own within is sofar on same =
    on ∙ ap₂ (λ ns o. fold with_node ns (option_to_list o)) sofar same
    ∙ sym (fold-append with_node first (filter_map h (take k xs)) (option_to_list (h x)))
    ∙ ap (fold with_node first) (sym (filter_map_next h xs k x within is))

module _ (events : List (Placed Event)) (nodes later : List Node) (load b : Placed Access) where
  -- a write that may be seen is a candidate, with the id of its test
  pub seen : (event : ℕ) (earlier : Bool) (test : Option ℕ) (v : ℕ) → CellIsOf (length nodes) load.it.cell → CellIsOf (length nodes) b.it.cell
      → may_be_seen nodes load b ≡ true → b.it.writes ≡ Some v → event ≡ number_in events b.thread b.it.step → earlier ≡ is_earlier b load
      → test ≡ option_map (id_of nodes) (same_test nodes b.it.cell load.it.cell)
      → Grows (fold with_node nodes (option_to_list (same_test nodes b.it.cell load.it.cell))) later
      → ◌≡◌ {A = Option Candidate} (Some (record { event = event; earlier = earlier; same_cell = test; value = v })) (candidate_of events later load b)
  seen event earlier test v at of may writes number path name made =
      let tests = option_to_list (same_test nodes b.it.cell load.it.cell) in
      let g = grows_both nodes (fold with_node nodes tests) later (grows_all nodes tests) made in
      ap (λ n. with_parts n earlier test) number ∙ ap (λ p. with_parts (number_in events b.thread b.it.step) p test) path
      ∙ ap (with_parts (number_in events b.thread b.it.step) (is_earlier b load)) (name ∙ made_later nodes later b.it.cell load.it.cell of at made)
      ∙ sym (candidate_there events later load b v (may_stays nodes later g load at b of ∙ may) writes)
    where
      with_parts : ℕ → Bool → Option ℕ → Option Candidate
      with_parts n p t = Some (record { event = n; earlier = p; same_cell = t; value = v })

-- a load's conjunct by its parts
pub conjunct_from : (code : Code) (events : List (Placed Event)) (accesses : List (Placed Access)) (later : List Node) (load : Placed Access)
    (number thread line event takes start : ℕ) (candidates : List Candidate) → thread ≡ load.thread → line ≡ line_in events load.thread load.it.step
    → event ≡ number_in events load.thread load.it.step → takes ≡ id_of later (Symbol number)
    → start ≡ id_of later (Constant (value_at_start code load.it.cell))
    → candidates ≡ filter_map (candidate_of events later load) accesses
    → ◌≡◌ {A = Conjunct} (record {
      group = group.Read thread line;
      body = body.Read (record { event = event; takes = takes; start = start; candidates = candidates });
    }) (conjunct_of code events accesses later load number)
conjunct_from code events accesses later load number thread line event takes start candidates one two three four five six =
    ap₂ (λ t l. with_parts t l event takes start candidates) one two
    ∙ ap₂ (λ e t. with_parts load.thread at e t start candidates) three four
    ∙ ap₂ (with_parts load.thread at (number_in events load.thread load.it.step) (id_of later (Symbol number))) five six
  where
    at : ℕ
    at = line_in events load.thread load.it.step

    with_parts : ℕ → ℕ → ℕ → ℕ → ℕ → List Candidate → Conjunct
    with_parts t l e v s cs = record { group = group.Read t l; body = body.Read (record { event = e; takes = v; start = s; candidates = cs }) }

-- the nodes that a load needs, made one after another
pub needs_made : (code : Code) (accesses : List (Placed Access)) (nodes two last : List Node) (load : Placed Access) (number : ℕ)
    → ((a : Placed Access) → Contains accesses a → AccessIsOf (length nodes) a.it) → CellIsOf (length nodes) load.it.cell
    → two ≡ with_node (with_node nodes (Symbol number)) (Constant (value_at_start code load.it.cell))
    → last ≡ fold with_node two (filter_map (test_of two load) accesses) → last ≡ fold with_node nodes (needs_of code accesses nodes load number)
needs_made code accesses nodes two last load number have at is made =
    let one = with_node nodes (Symbol number) in
    let start = Constant (value_at_start code load.it.cell) in
    let g : Grows nodes two = subst (Grows nodes) (sym is) (grows_both nodes one (with_node one start) (grows nodes (Symbol number)) (grows one start)) in
    made
    ∙ ap (fold with_node two) (filter_map_same (test_of two load) (test_of nodes load) accesses (λ b j. test_of_stays nodes two g load at b (have b j).cell))
    ∙ ap (λ ns. fold with_node ns (filter_map (test_of nodes load) accesses)) is
