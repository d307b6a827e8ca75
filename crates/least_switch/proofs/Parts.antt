-- The clauses of a log with a bound on switches are made of the parts of its system.
use Rattle.std.proofs.Common.{◌≡◌, ◌∙◌, ℕ, ◌+◌, ◌*◌, ◌<◌, ◌≤◌, Bool, true, false, List, [], ◌∷◌, ◌++◌, length, refl, sym, ap, subst, arith}
use Rattle.std.proofs.Math.Nat.{mul-le-mul}
use Rattle.std.proofs.lemmas.Bool.{false≢true}
use Rattle.std.proofs.lemmas.List.{map-id}
use Rattle.std.proofs.lemmas.List.FromFn.{map-range_with_len_more}
use Rattle.std.specs.Prelude.{if◌then◌else◌}
use Rattle.std.specs.List.{range_with_len}
use Rattle.run_log.specs.Logs.{Log}
use Rattle.schedule_file.specs.tc_limits.declared.limits.TheConstants.{EVENTS, STEPS}
use Rattle.tc_code.specs.Code.{Code}
use Rattle.tc_code.specs.Lawful.{IsLawful}
use Rattle.store_buffers.specs.Pending.{Binding}
use Rattle.path_walk.specs.Paths.{paths_of}
use Rattle.sym_terms.specs.declared.node.Node.{Node}
use Rattle.path_execution.specs.declared.execution.Execution.{Execution}
use Rattle.order_formula.specs.Orders.{ConjunctIsIn, Order}
use Rattle.order_formula.specs.declared.formula.Conjunct.{Conjunct}
use Rattle.std.specs.List.{All}
use Rattle.order_events.specs.lawful_order.Events.{all_events}
use Rattle.cnf_core.specs.Clauses.{Formula}
use Rattle.cnf_core.specs.declared.cnf.TheConstants.{LIMIT}
use Rattle.bit_order.specs.Layouts.{Layout}
use Rattle.bit_blast.specs.Blasted.{Blasted, impossible}
use Rattle.bit_blast.specs.Sizes.{whole_size}
use Rattle.bit_blast.proofs.Completed.{completed_events, completed_sleeps, same_size}
use Rattle.bit_blast.proofs.Posed.{formula_in}
use Rattle.clap_system.specs.Ready.{IsSound}
use Rattle.clap_system.specs.Systems.{System, execution_of, system_of}
use Rattle.clap_solve.specs.Solved.{IsWithin}
use Rattle.clap_solve.proofs.Meaning as solve
use Rattle.clap_solve.proofs.Room.{clauses_have_room}
use Rattle.switch_order.specs.Sizes.{size_of}
use Rattle.switch_clauses.specs.Clauses.{clauses_over_all_pairs, asked_of_all, switch_clauses, clauses_with_levels}
use Rattle.switch_clauses.proofs.Meaning.{levels_ready}
use Rattle.least_switch.specs.helpers.Bounded.{IsBounded}
use Rattle.least_switch.specs.helpers.Levels.{AreBounded, AreLevelled, IsAskable, StandsOnOrder}

-- the numbers below `n + 1` are those below `n`, and `n`
pub one_more_number : (n : ℕ) → range_with_len 0 (n + 1) ≡ range_with_len 0 n ++ n ∷ []
one_more_number n =
    sym (map-id (range_with_len 0 (n + 1))) ∙ map-range_with_len_more (λ (k : ℕ). k) 0 n n (omega arith)
    ∙ ap (λ ns. ns ++ n ∷ []) (map-id (range_with_len 0 n))

-- an order asked about every two events has the same events, and the same formulas are in range
pub asked_events : (o : Order) → (asked_of_all o).events ≡ o.events
asked_events o = completed_events o (range_with_len 0 o.events)

pub asked_within : (o : Order) (formula : List Conjunct) → All (ConjunctIsIn o) formula → All (ConjunctIsIn (asked_of_all o)) formula
asked_within o formula within =
    formula_in o (asked_of_all o) (asked_events o) (completed_sleeps o (range_with_len 0 o.events)) formula within

-- the size of its clauses is the same
pub size_asked : (o asked : Order) (loads : ℕ) (nodes : List Node) (formula : List Conjunct) → asked ≡ asked_of_all o
    → whole_size (record { order = asked; loads = loads }) nodes formula ≡ whole_size (record { order = o; loads = loads }) nodes formula
size_asked o asked loads nodes formula is =
    same_size o asked loads nodes formula (ap (λ (k : Order). k.events) is ∙ asked_events o)
    (ap (λ (k : Order). k.sleeps) is ∙ completed_sleeps o (range_with_len 0 o.events))

-- few switches and few events have few levels
pub levels_few : (events most : ℕ) → events ≤ EVENTS → most ≤ 255 → size_of events most ≤ size_of EVENTS 255
levels_few events most few least =
    let two = mul-le-mul {n₁ = events} {m₁ = events} {n₂ = EVENTS} {m₂ = EVENTS} few few in
    let all = mul-le-mul {n₁ = events * events} {m₁ = most + 1} {n₂ = EVENTS * EVENTS} {m₂ = 256} two (omega (arith, least)) in
    let variables = mul-le-mul {n₁ = events} {m₁ = most} {n₂ = EVENTS} {m₂ = 255} few least in
    omega (arith, all, variables)

-- clauses with levels are those of the formula, unless the paths are dead
pub bounded_by : (s : System) (most : ℕ) (b : Blasted) → b ≡ clauses_over_all_pairs s → s.paths.dead ≡ false → (made : Layout × Formula)
    → AreLevelled s.paths b most made → AreBounded s most made
bounded_by s most b is alive made levelled = record {
  lives = λ lives. subst (λ (x : Blasted). AreLevelled s.paths x most made) is levelled;
  dead = λ dead. absurd (false≢true (sym alive ∙ dead));
}

module _ (buffered : Bool) (bound : Binding) (code : Code) (log : Log) (lawful : IsLawful code) (within : IsWithin code log)
    (steps : All (λ t. t.path.steps ≤ STEPS) log.threads) (s : System) (of : s ≡ system_of buffered bound code log) where
  -- the order may be asked about every two events
  pub is_askable : IsSound s → IsAskable s
  is_askable sound = record {
    terms = sound.terms;
    within = sound.within;
    events = subst (λ (t : System). length (all_events t.paths) ≡ t.order.events) (sym of) (sym (solve.events buffered bound code log lawful within));
    few = sound.events;
    stands = subst (λ (t : System). StandsOnOrder (clauses_over_all_pairs t)) (sym of) (record { more = (levels_ready buffered bound code log lawful within).more });
    room = subst (λ (t : System). whole_size (record { order = t.order; loads = t.symbolic.loads }) t.nodes t.formula + size_of EVENTS 255 < LIMIT) (sym of)
        (let all = clauses_have_room buffered bound code log within steps in omega (arith, all));
  }

  module _ (most : ℕ) (made : Layout × Formula) (bounded : AreBounded s most made) where
    there : AreBounded (system_of buffered bound code log) most made
    there = subst (λ (t : System). AreBounded t most made) of bounded

    clauses_are : made.1 ≡ switch_clauses buffered bound code log most
    clauses_are = by (paths_of code log).dead refl
      where
        by : (dead : Bool) → (paths_of code log).dead ≡ dead
            → made.1 ≡ (if dead then impossible.clauses else clauses_with_levels (paths_of code log) (system_of buffered bound code log) most)
        by true is = there.dead is
        by false is = (there.lives is).clauses

    -- the clauses of the parts are those of the log
    pub is_bounded : (x : Execution) → x ≡ execution_of s
        → IsBounded buffered bound code log most (record { execution = x; layout = made.0; clauses = made.1 })
    is_bounded x is = record {
      within = within;
      execution = is ∙ ap execution_of of;
      layout = λ lives. (there.lives (sym alive ∙ lives)).layout;
      variables = λ lives. (there.lives (sym alive ∙ lives)).variables;
      clauses = clauses_are;
    }
      where
        alive : x.paths.dead ≡ (paths_of code log).dead
        alive = ap (λ (y : Execution). y.paths.dead) (is ∙ ap execution_of of)
