-- The states of one mutex: in every world their clauses hold for some values of the new variables.
use Rattle.std.proofs.Common.{◌≡◌, ◌≢◌, ℕ, zero, suc, ◌<◌, ◌≤◌, List, [], ℤ, pos, Option, Some, None, inl, inr, refl, ap, sym, ◌∙◌, subst, arith, Bool, true, false, ◌&&◌, length, get_or, map}
use Rattle.std.specs.Prelude.{◌==◌, option_map, slice_get}
use Rattle.std.specs.List.{All, Contains, IsDistinct}
use Rattle.std.specs.Option.{option_map_or}
use Rattle.std.specs.Ordering.{int_eq}
use Rattle.std.proofs.lemmas.Bool.{and_from, and_parts, cases_lt, false≢true, ltb-true}
use Rattle.std.proofs.lemmas.Bool.Decides.{Decides-int_eq}
use Rattle.std.proofs.lemmas.List.{get_or-map, get_or_past, length-map}
use Rattle.std.proofs.lemmas.List.Elements.{All-map}
use Rattle.std.proofs.lemmas.Option.{get_or_from_slice_get, none-some, option_and_then_some, same_Some, slice_get-map, slice_get_within}
use Rattle.order_cells.specs.sym_exec.path_walk.tc_code.Code.{Code}
use Rattle.order_cells.specs.sym_exec.path_walk.Paths.{Paths}
use Rattle.order_cells.specs.sym_exec.path_walk.declared.event.Region.{Region}
use Rattle.circuit_sizes.specs.sym_terms.Terms.{AreTerms}
use Rattle.circuit_sizes.specs.sym_terms.Values.{node_value, value_of, values_of}
use Rattle.circuit_sizes.specs.sym_terms.declared.node.Node.{Node}
use Rattle.circuit_sizes.specs.sym_terms.declared.node.Node.TheVariants.{Constant, Symbol, Unary, Binary}
use Rattle.order_cells.specs.sym_exec.Executed.{Symbolic}
use Rattle.order_cells.specs.sym_exec.declared.symbolic.Access.{Access}
use Rattle.order_cells.specs.sym_exec.tc_code.declared.cell.Cell.{Cell}
use Rattle.order_cells.specs.sym_exec.tc_code.declared.cell.Cell.TheVariants.{Fixed, Element}
use Rattle.mutex_regions.specs.order_events.order_formula.declared.formula.Conjunct.{Conjunct}
use Rattle.mutex_regions.specs.order_events.order_formula.Truth.{body_at}
use Rattle.mutex_regions.specs.order_events.order_formula.Worlds.{World, position}
use Rattle.order_cells.specs.Same.{constant_of, number_in}
use Rattle.mutex_regions.specs.order_events.lawful_order.Events.{IsBefore, Placed, number_of}
use Rattle.mutex_regions.proofs.order_events.Whole.{whole}
use Rattle.cnf_core.specs.Clauses.{Formula, Valuation, literal_true}
use Rattle.cnf_core.specs.Gates.{Agree, IsOver}
use Rattle.cnf_core.proofs.GateLaws.{literal_true-agree}
use Rattle.bit_gates.specs.Folded.{Made, constant}
use Rattle.bit_gates.specs.Laws.{IsGrown, IsModel, IsOf}
use Rattle.bit_gates.proofs.Blocks.{grown_more}
use Rattle.bit_gates.proofs.Meaning.{constant_of as constant_in, constant_value}
use Rattle.circuit_sizes.specs.bit_ops.bit_words.Laws.{values}
use Rattle.circuit_sizes.specs.bit_ops.Laws.{IsOperand}
use Rattle.circuit_sizes.specs.bit_ops.bit_arith.Laws.{int_value}
use Rattle.circuit_sizes.specs.bit_ops.bit_arith.int_ops.Arith.{IsInt}
use Rattle.bit_order.specs.Comparators.{before_literal}
use Rattle.bit_order.specs.Readings.{world_of}
use Rattle.circuit_sizes.specs.bit_terms.Terms.{word_at}
use Rattle.circuit_sizes.proofs.bit_terms.Meaning.{at_operand}
use Rattle.bit_blast.specs.Drafts.{Draft, KeepsWorlds}
use Rattle.bit_blast.specs.Says.{DraftSays, DraftTells, IsDraftOver}
use Rattle.bit_blast.specs.Whole.{load_words}
use Rattle.bit_blast.proofs.Lists.{all_of}
use Rattle.bit_blast.proofs.Saying.{still_over}
use Rattle.mutex_regions.specs.read_write.Accesses.{all_accesses}
use Rattle.mutex_regions.proofs.read_write.Numbers.{access_of}
use Rattle.mutex_regions.specs.InOrder.{IsInOrder}
use Rattle.mutex_regions.specs.Laws.{RegionsAct, begin}
use Rattle.mutex_regions.specs.Regions.{regions_of}
use Rattle.mutex_regions.specs.States.{is_to, is_write_before, value_first, value_last}
use Rattle.mutex_regions.specs.declared.variables.Spot.{Spot}
use Rattle.mutex_regions.proofs.Distinct.{one_region}
use Rattle.mutex_regions.proofs.Ends.{act}
use Rattle.mutex_regions.proofs.Setting.{Setting, last_int}
use Rattle.mutex_regions.proofs.Values.{value_at}
use Rattle.mutex_states.specs.Adding.{HasWorlds, IsOfPaths, StatesRules}
use Rattle.mutex_states.specs.Extending.{Extends}
use Rattle.mutex_states.specs.Going.{RegionsGo, position_of, positions_of, rank_of, states_of}
use Rattle.mutex_states.specs.InOrder.{in_order_made, read_literal, steps_before}
use Rattle.mutex_states.specs.Laws.{InOrderMeans, SayState}
use Rattle.mutex_states.specs.Ranks.{AreRanks, Rise, SayRanks, begins_before, with_ranks}
use Rattle.mutex_states.specs.States.{begins, ends_before, names_spot, spots, start_word, step_of, steps, with_last_loads, with_states_of}
use Rattle.mutex_states.specs.Steps.{AreSteps, Goes, State, Step, StepsSay, with_turns}
use Rattle.mutex_states.specs.Truths.{holds_in}
use Rattle.mutex_states.proofs.Acting.{regions_go, states_end}
use Rattle.mutex_states.proofs.AllTurns.{last_words, states_follow}
use Rattle.mutex_states.proofs.Differing.{begins_differ}
use Rattle.mutex_states.proofs.Extending.{IsKept, agree_again, and_then, by_gates, keeping, weaker}
use Rattle.mutex_states.proofs.LastLoads.{AreLast, AreTaken, last_loads}
use Rattle.mutex_states.proofs.Literals.{some_at}
use Rattle.mutex_states.proofs.Ordered.{in_order_means, of_get, right_read, step_read}
use Rattle.mutex_states.proofs.RankLaws.{positions_rank, ranks_mean}
use Rattle.mutex_states.proofs.Steps.{int_agrees, words_agree}
use Rattle.mutex_states.proofs.StepsReady.{are_steps, load_in, load_said, load_word_said, start_in, start_ints, start_words, taken_in}
use Rattle.mutex_states.proofs.Turns.{of_mapped}

-- ---- constants

number_value : (values loads : List ℤ) (node : Node) (z : ℤ) → number_in node ≡ Some z → node_value values loads node ≡ z
number_value values loads (Constant n) z is = same_Some n z is
number_value values loads (Symbol _) z is = absurd (none-some z is)
number_value values loads (Unary _ _) z is = absurd (none-some z is)
number_value values loads (Binary _ _ _) z is = absurd (none-some z is)

number_is : (nodes : List Node) (loads : List ℤ) (term : ℕ) (z : ℤ) → AreTerms nodes → constant_of nodes term ≡ Some z → value_of nodes loads term ≡ z
number_is nodes loads term z are is =
    option_and_then_some number_in (slice_get nodes term) z is (λ node at number.
    value_at nodes loads term are
    ∙ ap (node_value (values_of nodes loads) loads) (get_or_from_slice_get nodes term node (Constant (pos 0)) at)
    ∙ number_value (values_of nodes loads) loads node z number)

-- ---- what a draft's literals and words say is kept

module _ (nodes : List Node) (formula : List Conjunct) (d : Draft) (w : World) where
  says_kept : (f : Formula) → IsDraftOver d f → IsKept f.vars (DraftSays nodes formula d w)
  says_kept f over v u agree h = record {
    before = λ i j is. h.before i j (literal_true-agree f.vars v u (before_literal d.layout i j) agree (over.before i j).1 ∙ is);
    roots = λ k c at.
        sym (literal_true-agree f.vars v u (get_or d.roots k (constant false)) agree
        (of_get (IsOf f.vars) d.roots k (constant false) over.roots (constant_in f.vars false over.one)).1) ∙ h.roots k c at;
    count = h.count;
    loads = words_agree f v u (load_words d.layout) agree over.loads ∙ h.loads;
    words = λ term.
        sym (int_agrees f.vars v u (word_at d.words term) agree (at_operand f d.words term over.one over.words).literals) ∙ h.words term;
  }

  abbrev truth : Conjunct → Bool
  truth c = body_at nodes w c.body

  root_said : (v : Valuation) (k : ℕ) → v 1 ≡ true → DraftSays nodes formula d w v
      → literal_true v (get_or d.roots k (constant false)) ≡ holds_in nodes formula w k
  root_said v k one h = elim (cases_lt k (length formula)) [
    | inl low ↦
        let c = some_at formula k low in
        h.roots k c.0 c.1 ∙ ap truth (sym (get_or_from_slice_get formula k c.0 c.0 c.1)) ∙ sym (get_or-map truth formula k c.0 false low)
    | inr past ↦
        ap (literal_true v) (get_or_past d.roots k (constant false) (omega (arith, past, h.count))) ∙ constant_value v false one
        ∙ sym (get_or_past (map truth formula) k false
        (let long : length (map truth formula) ≡ length formula = length-map formula truth in omega (arith, past, long)))
  ]

module _ (code : Code) (paths : Paths) (symbolic : Symbolic) (nodes : List Node) (formula : List Conjunct) (rules : StatesRules code paths symbolic nodes formula) (m : ℕ)
    (d : Draft) (worlds : HasWorlds paths symbolic nodes d.layout) (over : IsOver d.clauses) (tells : DraftTells nodes formula d) where
  abbrev regions : List (Placed Region)
  regions = regions_of paths m

  abbrev cells_at : List Spot
  cells_at = spots code paths symbolic nodes formula m

  abbrev cells : ℕ
  cells = length cells_at

  abbrev to_step : Placed Region → Step
  to_step = step_of code paths symbolic nodes formula m

  abbrev all_steps : List Step
  all_steps = steps code paths symbolic nodes formula m

  abbrev many : ℕ
  many = length all_steps

  abbrev loads : List (List ℤ)
  loads = load_words d.layout

  abbrev number : Placed Region → ℕ
  number r = number_of paths r.thread r.it.«from»

  abbrev events : List ℕ
  events = begins code paths symbolic nodes formula m

  abbrev before : (first second : ℕ) → ℤ
  before = begins_before d.layout events

  abbrev ordered : Made
  ordered = in_order_made paths symbolic formula d m d.clauses

  abbrev f : Formula
  f = ordered.formula

  abbrev no_world : World
  no_world = record { positions = []; loads = []; enders = [] }

  -- ---- the literal that all is in order

  order_means : (w : World) → InOrderMeans code paths symbolic nodes formula w m d d.clauses
  order_means w = in_order_means code paths symbolic nodes formula w m d d.clauses tells.over

  grown : IsGrown d.clauses f
  grown = (order_means no_world).grown

  ordered_in : IsOf f.vars ordered.literal
  ordered_in = (order_means no_world).literal

  more : d.clauses.vars ≤ f.vars
  more = grown_more d.clauses f grown

  draft : IsDraftOver d f
  draft = still_over d d.clauses f more tells.over

  gates : Extends (λ v. Unit {0}) d.clauses (λ v. Unit {0}) f
  gates = by_gates (λ v. Unit {0}) d.clauses f tells.over.one (λ v u agree p. p) grown

  many_regions : many ≡ length regions
  many_regions = length-map regions to_step

  known : (i j : ℕ) → i < many → j < many → i ≢ j → IsOf f.vars (before i j)
  known i j p q apart = draft.before (get_or events i 0) (get_or events j 0)

  so : AreSteps cells all_steps loads d.roots ordered.literal f
  so = are_steps code paths symbolic nodes formula m rules.constants d f ordered.literal rules.executed worlds.loads draft ordered_in

  -- ---- the formulas and states after each part

  abbrev ranked : Formula
  ranked = with_ranks many before f

  abbrev first : State
  first = record { formula = ranked; words = map (start_word code paths symbolic nodes formula m) cells_at }

  abbrev last : State
  last = with_turns cells all_steps loads d.roots ordered.literal (suc f.vars) first

  abbrev end : Formula
  end = with_last_loads code paths symbolic nodes formula m d ordered.literal last.words last.formula

  first_count : length first.words ≡ cells
  first_count = length-map cells_at (start_word code paths symbolic nodes formula m)

  abbrev read : Placed Access → ℤ
  read = read_literal paths symbolic formula d

  abbrev ends : Placed Access → Placed Region → ℤ
  ends = ends_before code paths symbolic nodes formula m d ordered.literal last.words

  abbrev names : Spot → Cell ℕ → Bool
  names = names_spot code paths symbolic nodes formula m

  takes_low : (a : Placed Access) (l : ℕ) → Contains (all_accesses symbolic) a → a.it.takes ≡ Some l → l < d.layout.loads
  takes_low a l among takes =
      let low = rules.executed.takes a.thread a.it l (access_of symbolic a among) takes in omega (arith, low, worlds.loads)

  module _ (w : World) where
    abbrev at_start : Spot → ℤ
    at_start = value_first code paths symbolic nodes w

    -- a right load after all regions, whose cell is one of the state
    abbrev TakesLast : List ℤ → Type 0
    TakesLast state =
        (v : Valuation) → v 1 ≡ true → DraftSays nodes formula d w v → (a : Placed Access) (l k : ℕ) (s : Spot) → Contains (all_accesses symbolic) a
        → a.it.takes ≡ Some l → slice_get cells_at k ≡ Some s → names s a.it.cell ≡ true → literal_true v (read a) ≡ true
        → ((r : Placed Region) → Contains regions r → literal_true v (ends a r) ≡ true) → slice_get state k ≡ Some (get_or w.loads l (pos 0))

    -- states of a world, to which the regions lead where all is in order
    record AreStates (rank : ℕ → ℕ) (all : Bool) (states : ℕ → List ℤ) : Type 0 where
      ranks : AreRanks many rank
      sized : (k : ℕ) → length (states k) ≡ cells
      numbers : (k : ℕ) → All IsInt (states k)
      start : states 0 ≡ map at_start cells_at
      goes : (i : ℕ) (s : Step) → slice_get all_steps i ≡ Some s → all ≡ true → Goes s (states (rank i)) (states (suc (rank i))) w.loads (holds_in nodes formula w)
      outside : all ≡ true → TakesLast (states many)

    module _ (rank : ℕ → ℕ) (all : Bool) (states : ℕ → List ℤ) (are : AreStates rank all states) where
      record Base (v : Valuation) : Type 0 where
        says : DraftSays nodes formula d w v
        ordered_is : literal_true v ordered.literal ≡ all

      base_kept : (n : ℕ) → f.vars ≤ n → IsKept n Base
      base_kept n up v u agree b =
          let near : Agree f.vars v u = λ k below. agree k (omega (arith, below, up)) in
          record {
            says = says_kept nodes formula d w f draft v u near b.says;
            ordered_is = sym (literal_true-agree f.vars v u ordered.literal near ordered_in.1) ∙ b.ordered_is;
          }

      steps_say : (v : Valuation) → v 1 ≡ true → Base v → StepsSay all_steps loads d.roots ordered.literal all w.loads (holds_in nodes formula w) v
      steps_say v one b = record {
        ordered_is = b.ordered_is;
        loads_are = λ s x p q.
            load_said nodes formula d w v x.load b.says
            (let low = taken_in code paths symbolic nodes formula m rules.constants rules.executed s x p q in omega (arith, low, worlds.loads));
        roots_are = λ s x p q. root_said nodes formula d w v x.conjunct one b.says;
      }

      abbrev Given : Valuation → Type 0
      Given v = Rise many before rank v × Base v

      abbrev Ranked : Valuation → Type 0
      Ranked v = SayRanks many before (suc f.vars) rank v × Base v

      abbrev Said : List (List ℤ) → ℕ → Valuation → Type 0
      Said words k = SayState all_steps loads d.roots ordered.literal before (suc f.vars) rank all w.loads (holds_in nodes formula w) words (states k)

      abbrev Told : Valuation → Type 0
      Told v = Base v × (map (int_value v) last.words ≡ states many)

      ranks_extend : Extends Given f Ranked ranked
      ranks_extend =
          keeping (Rise many before rank) (SayRanks many before (suc f.vars) rank) Base f ranked (base_kept f.vars (omega arith))
          (ranks_mean many before rank f draft.one known are.ranks).all

      ranked_more : f.vars ≤ ranked.vars
      ranked_more = ranks_extend.more

      first_in : All (IsOperand ranked) first.words
      first_in =
          start_in code paths symbolic nodes formula m w rules.lawful.ints ranked cells_at (let o = draft.one in omega (arith, o, ranked_more))

      turns : Extends (Said first.words 0) ranked (Said last.words many) last.formula
      turns =
          (states_follow cells all_steps loads d.roots ordered.literal before f known so).follow rank all states w.loads (holds_in nodes formula w) first are.ranks
          are.sized are.numbers are.goes (omega arith) first_in first_count

      turns_extend : Extends Ranked ranked Told last.formula
      turns_extend =
          weaker (λ v. Said first.words 0 v × Base v) (λ v. Said last.words many v × Base v) Ranked Told ranked last.formula
          (λ v model h. (
            record {
              ranks = h.0;
              steps_say = steps_say v model.one h.1;
              words_are = start_words code paths symbolic nodes formula m w rules.lawful.ints v cells_at model.one ∙ sym are.start;
            },
            h.1,
          ))
          (λ v model h. (h.1, h.0.words_are))
          (keeping (Said first.words 0) (Said last.words many) Base ranked last.formula (base_kept ranked.vars ranked_more) turns)

      last_more : f.vars ≤ last.formula.vars
      last_more = let up = turns.more in omega (arith, up, ranked_more)

      last_in : All (IsOperand last.formula) last.words × (length last.words ≡ cells)
      last_in =
          last_words cells all_steps loads d.roots ordered.literal before f known so rank are.ranks all states w.loads (holds_in nodes formula w) are.sized are.numbers
          are.goes first (omega arith) first_in first_count

      lasts : AreLast code paths symbolic nodes formula m d ordered.literal last.words last.formula
      lasts = record {
        draft = still_over d f last.formula last_more draft;
        ordered_in = (ordered_in.0, (let o = ordered_in.1 in omega (arith, o, last_more)));
        loads_in = λ a l among takes. load_in d last.formula l (still_over d f last.formula last_more draft) (takes_low a l among takes);
        state_in = last_in.0;
        count = last_in.1;
      }

      told_kept : IsKept last.formula.vars Told
      told_kept v u agree h = (base_kept last.formula.vars last_more v u agree h.0, words_agree last.formula v u last.words agree last_in.0 ∙ h.1)

      taken : (v : Valuation) → v 1 ≡ true → Told v → AreTaken code paths symbolic nodes formula m d ordered.literal last.words v
      taken v one h = record {
        taken = λ a l k s among takes at named sure right after.
            let inside : k < length last.words = let low = slice_get_within cells_at k s at in let long = last_in.1 in omega (arith, low, long) in
            let value : slice_get (states many) k ≡ Some (get_or w.loads l (pos 0)) =
            are.outside (sym h.0.ordered_is ∙ sure) v one h.0.says a l k s among takes at named right after in
            load_word_said nodes formula d w v l h.0.says (takes_low a l among takes)
            ∙ sym (get_or_from_slice_get (states many) k (get_or w.loads l (pos 0)) (pos 0) value) ∙ ap (λ zs. get_or zs k (pos 0)) (sym h.1)
            ∙ get_or-map (int_value v) last.words k [] (pos 0) inside;
      }

      chain : Extends Given f Told end
      chain =
          and_then Given Ranked Told f ranked end ranks_extend
          (and_then Ranked Told Told ranked last.formula end turns_extend
          (last_loads code paths symbolic nodes formula m d ordered.literal last.words last.formula lasts Told told_kept taken))

  -- ---- without a world: what is added, and the clauses that stay

  none_states : AreStates no_world (λ i. i) false (λ k. map (at_start no_world) cells_at)
  none_states = record {
    ranks = record { below = λ i low. low; differ = λ i j p q apart same. apart same };
    sized = λ k. length-map cells_at (at_start no_world);
    numbers = λ k. start_ints code paths symbolic nodes formula m no_world rules.lawful.ints cells_at;
    start = refl;
    goes = λ i s at sure. absurd (false≢true sure);
    outside = λ sure. absurd (false≢true sure);
  }

  added : Extends (Given no_world (λ i. i) false (λ k. map (at_start no_world) cells_at) none_states) f
      (Told no_world (λ i. i) false (λ k. map (at_start no_world) cells_at) none_states) end
  added = chain no_world (λ i. i) false (λ k. map (at_start no_world) cells_at) none_states

  -- ---- in a world

  module _ (w : World) (at : IsOfPaths paths symbolic nodes w) (u : Valuation) (model : IsModel u f) (says : DraftSays nodes formula d w u) where
    abbrev positions : List ℕ
    positions = positions_of code paths symbolic nodes w m

    abbrev place : Placed Region → ℕ
    place = begin code paths symbolic nodes w m

    abbrev rank : ℕ → ℕ
    rank = rank_of code paths symbolic nodes w m

    distinct : IsDistinct (λ p q. p == q) positions
    distinct = begins_differ code paths symbolic nodes w m rules.are at.world at.of

    many_positions : length positions ≡ many
    many_positions = length-map regions place ∙ sym many_regions

    place_is : (i : ℕ) → i < length positions → get_or positions i 0 ≡ position w (get_or events i 0)
    place_is i low =
        let r = some_at regions i (let long : length positions ≡ length regions = length-map regions place in omega (arith, low, long)) in
        get_or_from_slice_get positions i (place r.0) 0 (slice_get-map place regions i ∙ ap (option_map place) r.1)
        ∙ sym (ap (position w) (get_or_from_slice_get events i (number r.0) 0 (slice_get-map number regions i ∙ ap (option_map number) r.1)))

    earlier : (i j : ℕ) → i < length positions → j < length positions → i ≢ j → literal_true u (before i j) ≡ true → get_or positions i 0 < get_or positions j 0
    earlier i j p q apart is =
        let a : ℕ = get_or events i 0 in
        let b : ℕ = get_or events j 0 in
        let less : position w a < position w b = ltb-true (position w a) (position w b) (says.before a b is) in
        omega (arith, less, place_is i p, place_is j q)

    ranks_rise : AreRanks (length positions) rank × Rise (length positions) before rank u
    ranks_rise = positions_rank positions before u distinct earlier

    are_ranks : AreRanks many rank
    are_ranks = subst (λ n. AreRanks n rank) many_positions ranks_rise.0

    rise : Rise many before rank u
    rise = subst (λ n. Rise n before rank u) many_positions ranks_rise.1

    abbrev Extended : Type 0
    Extended = (t : Valuation) × IsModel t end × Agree f.vars u t

    -- ---- where all is in order

    module _ (is : literal_true u ordered.literal ≡ true) where
      order : IsInOrder code paths symbolic nodes w m
      order = (order_means w).means u model says (rules.rules w m at.world at.of) is

      set : Setting code paths symbolic nodes w m
      set = record {
        about = record { world = at.world; of = at.of; whole = whole code paths rules.are; executed = rules.executed; terms = rules.terms };
        ints = at.ints;
        memory = rules.lawful.ints;
        one = one_region code paths m rules.are;
        order = order;
      }

      acts : RegionsAct code paths symbolic nodes w m
      acts = act code paths symbolic nodes w m set

      go : RegionsGo code paths symbolic nodes w m formula 256 (holds_in nodes formula w)
      go = regions_go code paths symbolic nodes formula w m set acts 256 at.small distinct (holds_in nodes formula w) (rules.tests w)

      abbrev states : ℕ → List ℤ
      states = states_of code paths symbolic nodes w m 256

      abbrev held : ℕ → Spot → ℤ
      held p s = value_last code paths symbolic nodes w (is_write_before code paths symbolic nodes w p s) s

      abbrev start_at : ℕ → ℕ
      start_at = position_of code paths symbolic nodes w m 256

      sized : (k : ℕ) → length (states k) ≡ cells
      sized zero = length-map cells_at (at_start w)
      sized (suc k) = length-map cells_at (held (start_at (suc k)))

      numbers : (k : ℕ) → All IsInt (states k)
      numbers zero = start_ints code paths symbolic nodes formula m w rules.lawful.ints cells_at
      numbers (suc k) =
          let p : ℕ = start_at (suc k) in
          All-map IsInt (held p) cells_at
          (all_of (λ s. IsInt (held p s)) cells_at (λ s _. last_int code paths symbolic nodes w m set (is_write_before code paths symbolic nodes w p s) s))

      goes : (i : ℕ) (s : Step) → slice_get all_steps i ≡ Some s → Goes s (states (rank i)) (states (suc (rank i))) w.loads (holds_in nodes formula w)
      goes i s at_i =
          let r = of_mapped to_step regions i s at_i in
          subst (λ (z : Step). Goes z (states (rank i)) (states (suc (rank i))) w.loads (holds_in nodes formula w)) r.2 (go.goes i r.0 r.1)

      -- a load after all regions
      ended : (v : Valuation) → v 1 ≡ true → DraftSays nodes formula d w v → (a : Placed Access) (r : Placed Region) → literal_true v (ends a r) ≡ true
          → (k : ℕ) × (r.it.to ≡ Some k) × IsBefore paths w r.thread k a.thread a.it.step
      ended v one said a r is_true = by r.it.to refl is_true
        where
          by : (o : Option ℕ) → r.it.to ≡ o
              → literal_true v (option_map_or (λ k. steps_before paths symbolic formula d r.thread k a.thread a.it.step) o (constant false)) ≡ true
              → (k : ℕ) × (r.it.to ≡ Some k) × IsBefore paths w r.thread k a.thread a.it.step
          by None e h = absurd (false≢true (sym (constant_value v false one) ∙ h))
          by (Some k) e h =
              (k, e, step_read code paths symbolic nodes formula w m d v one said (rules.rules w m at.world at.of) r.thread k a.thread a.it.step h)

      named_is : (s : Spot) (c : Cell ℕ) → names s c ≡ true → is_to code paths symbolic nodes w s c ≡ true
      named_is s (Fixed c) h = h
      named_is s (Element g n i) h =
          let p = and_parts s.variable.is_array (s.variable.first == g && option_map_or (int_eq (pos s.index)) (constant_of nodes i) false) h in
          let q = and_parts (s.variable.first == g) (option_map_or (int_eq (pos s.index)) (constant_of nodes i) false) p.1 in
          and_from s.variable.is_array (s.variable.first == g && int_eq (value_of nodes w.loads i) (pos s.index)) p.0
          (and_from (s.variable.first == g) (int_eq (value_of nodes w.loads i) (pos s.index)) q.0 (by (constant_of nodes i) refl q.1))
        where
          by : (o : Option ℤ) → constant_of nodes i ≡ o → option_map_or (int_eq (pos s.index)) o false ≡ true
              → int_eq (value_of nodes w.loads i) (pos s.index) ≡ true
          by None e k = absurd (false≢true k)
          by (Some z) e k =
              (Decides-int_eq (value_of nodes w.loads i) (pos s.index)).1
              (number_is nodes w.loads i z rules.terms e ∙ sym ((Decides-int_eq (pos s.index) z).0 k))

      outside : TakesLast w (states many)
      outside v one said a l k s among takes at_k named right after =
          ap (λ zs. slice_get zs k) (ap states many_regions ∙ states_end code paths symbolic nodes w m set acts 256 at.small distinct)
          ∙ acts.outside a l k 256 s (record {
            there = among;
            after = λ r i. ended v one said a r (after r i);
            right = right_read code paths symbolic nodes formula w m d v one said (rules.rules w m at.world at.of) a l among takes right;
          }) takes at_k (named_is s a.it.cell named) at.small

      are_states : AreStates w rank true states
      are_states = record {
        ranks = are_ranks;
        sized = sized;
        numbers = numbers;
        start = refl;
        goes = λ i s at_i sure. goes i s at_i;
        outside = λ sure. outside;
      }

    not_states : AreStates w rank false (λ k. map (at_start w) cells_at)
    not_states = record {
      ranks = are_ranks;
      sized = λ k. length-map cells_at (at_start w);
      numbers = λ k. start_ints code paths symbolic nodes formula m w rules.lawful.ints cells_at;
      start = refl;
      goes = λ i s at_i sure. absurd (false≢true sure);
      outside = λ sure. absurd (false≢true sure);
    }

    -- values of the new variables
    values_there : Extended
    values_there = by (literal_true u ordered.literal) refl
      where
        by : (b : Bool) → literal_true u ordered.literal ≡ b → Extended
        by true is =
            let e = (chain w rank true (states is) (are_states is)).extends u (gates.over over) model (rise, record { says = says; ordered_is = is }) in
            (e.0, e.1, e.2)
        by false is =
            let e = (chain w rank false (λ k. map (at_start w) cells_at) not_states).extends u (gates.over over) model
            (rise, record { says = says; ordered_is = is }) in
            (e.0, e.1, e.2)

  abbrev with_count : ℕ → Draft
  with_count n =
      let start : State = record { formula = with_ranks n before f; words = map (start_word code paths symbolic nodes formula m) cells_at } in
      let final : State = with_turns cells all_steps loads d.roots ordered.literal (suc f.vars) start in
      record d { clauses = with_last_loads code paths symbolic nodes formula m d ordered.literal final.words final.formula }

  kept_many : KeepsWorlds nodes formula d (with_count many)
  kept_many = record {
    layout = refl;
    words = refl;
    roots = refl;
    more = (let up = added.more in omega (arith, more, up));
    over = λ o. added.over (gates.over o);
    before = λ v s. gates.before v (added.before v s);
    extends = λ v model same.
        let w : World = world_of d.layout v in
        let u = gates.extends v over model tt in
        let says : DraftSays nodes formula d w u.0 = says_kept nodes formula d w d.clauses tells.over v u.0 u.2 (tells.says v model same) in
        let t = values_there w (worlds.each v) u.0 u.1 says in
        (t.0, t.1, agree_again d.clauses.vars f.vars v u.0 t.0 more u.2 t.2);
  }

  -- a draft with the states of a mutex keeps the worlds of the draft
  pub mutex_keeps : KeepsWorlds nodes formula d (with_states_of code paths symbolic nodes formula m d)
  mutex_keeps =
      let count : many ≡ length events = many_regions ∙ sym (length-map regions number) in
      subst (λ n. KeepsWorlds nodes formula d (with_count n)) count kept_many
