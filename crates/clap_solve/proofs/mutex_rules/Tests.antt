-- The conjuncts of tests are the last of a system, in the order of threads and of their tests.
use Rattle.std.proofs.Common.{◌≡◌, ◌∙◌, ℕ, zero, suc, ◌+◌, Bool, true, false, List, [], ◌∷◌, ◌++◌, map, length, take, Some, refl, sym, ap, arith}
use Rattle.std.specs.Prelude.{slice_get}
use Rattle.std.specs.Bool.{beq}
use Rattle.std.specs.List.{enumerate_from, flat_map, sum_by}
use Rattle.std.specs.Option.{option_map}
use Rattle.std.proofs.lemmas.List.{length-append, length-map}
use Rattle.std.proofs.lemmas.List.Sums.{sum_by-cons}
use Rattle.std.proofs.lemmas.Option.{get_or_from_slice_get, none-some, same_Some, slice_get-map}
use Rattle.mutex_states.specs.mutex_regions.order_events.sym_exec.path_walk.tc_code.Code.{Code}
use Rattle.mutex_states.specs.mutex_regions.order_events.sym_exec.path_walk.Paths.{Paths}
use Rattle.mutex_states.specs.mutex_regions.order_events.store_buffers.Pending.{Binding}
use Rattle.mutex_states.specs.bit_blast.order_formula.sym_terms.declared.node.Node.{Node}
use Rattle.mutex_states.specs.mutex_regions.order_events.sym_exec.Alone.{outcome_by}
use Rattle.mutex_states.specs.mutex_regions.order_events.sym_exec.Executed.{Course, Symbolic}
use Rattle.mutex_states.specs.mutex_regions.order_events.sym_exec.declared.symbolic.Test.{Test}
use Rattle.mutex_states.specs.bit_blast.order_formula.Truth.{body_at, literal_at}
use Rattle.mutex_states.specs.bit_blast.order_formula.Worlds.{World}
use Rattle.mutex_states.specs.bit_blast.order_formula.declared.formula.Conjunct.{Conjunct}
use Rattle.mutex_states.specs.bit_blast.order_formula.declared.group.Group.TheVariants as group
use Rattle.mutex_states.proofs.mutex_regions.order_events.Parts.{of_one, some_holds}
use Rattle.clap_system.specs.memory_order.Own.{own_formula}
use Rattle.clap_system.specs.sync_order.Sync.{sync_formula}
use Rattle.mutex_states.specs.mutex_regions.read_write.Reading.{read_formula}
use Rattle.clap_system.specs.Systems.{rules_of}
use Rattle.clap_system.specs.Tests.{test_conjunct, test_formula}
use Rattle.clap_system.proofs.Tests.{literal_of}
use Rattle.mutex_states.specs.Going.{TestsHold}
use Rattle.mutex_states.specs.States.{first_test}
use Rattle.mutex_states.specs.Truths.{holds_in}

same_flag : (b c : Bool) → beq b c ≡ true → b ≡ c
same_flag true true h = refl
same_flag true false h = sym h
same_flag false true h = h
same_flag false false h = refl

-- places in two lists, one after the other
front : {X : Type 0} (xs ys : List X) (k : ℕ) (x : X) → slice_get xs k ≡ Some x → slice_get (xs ++ ys) k ≡ Some x
front [] ys k x e = absurd (none-some x e)
front (y ∷ xs) ys zero x e = e
front (y ∷ xs) ys (suc k) x e = front xs ys k x e

past : {X : Type 0} (xs ys : List X) (q p : ℕ) → q ≡ length xs + p → slice_get (xs ++ ys) q ≡ slice_get ys p
past [] ys q p e = let same : q ≡ p = omega (arith, e) in ap (slice_get ys) same
past (x ∷ xs) ys zero p e = absurd (omega (arith, e))
past (x ∷ xs) ys (suc q) p e = past xs ys q p (omega (arith, e))

-- the tests of some threads
abbrev many : List Course → ℕ
many cs = sum_by (λ (c : Course). length c.tests) cs

-- the conjuncts of some threads' tests, from a thread on
abbrev tests_from : ℕ → List Course → List Conjunct
tests_from a cs = flat_map (λ (p : ℕ × Course). map (test_conjunct p.0) p.1.tests) (enumerate_from a cs)

tests_length : (a : ℕ) (cs : List Course) → length (tests_from a cs) ≡ many cs
tests_length a [] = refl
tests_length a (c ∷ cs) =
    let own : List Conjunct = map (test_conjunct a) c.tests in
    let long : length own ≡ length c.tests = length-map c.tests (test_conjunct a) in
    omega (arith, length-append own (tests_from (a + 1) cs), long, tests_length (a + 1) cs, sum_by-cons (λ (e : Course). length e.tests) c cs)

-- where the conjunct of a test is
test_at : (a : ℕ) (cs : List Course) (t k q n : ℕ) (c : Course) (x : Test) → slice_get cs t ≡ Some c → slice_get c.tests k ≡ Some x
    → q ≡ many (take t cs) + k → n ≡ a + t → slice_get (tests_from a cs) q ≡ Some (test_conjunct n x)
test_at a [] t k q n c x at here place thread = absurd (none-some c at)
test_at a (d ∷ cs) zero k q n c x at here place thread =
    let own : List Conjunct = map (test_conjunct a) d.tests in
    let rest : List Conjunct = tests_from (a + 1) cs in
    let none : many (take zero (d ∷ cs)) ≡ 0 = refl in
    let first : slice_get d.tests k ≡ Some x = ap (λ (y : Course). slice_get y.tests k) (same_Some d c at) ∙ here in
    let there : slice_get own k ≡ Some (test_conjunct a x) = slice_get-map (test_conjunct a) d.tests k ∙ ap (option_map (test_conjunct a)) first in
    let same : q ≡ k = omega (arith, place, none) in
    let mine : a ≡ n = omega (arith, thread) in
    ap (slice_get (own ++ rest)) same ∙ front own rest k (test_conjunct a x) there ∙ ap (λ u. Some (test_conjunct u x)) mine
test_at a (d ∷ cs) (suc t) k q n c x at here place thread =
    let own : List Conjunct = map (test_conjunct a) d.tests in
    let long : length own ≡ length d.tests = length-map d.tests (test_conjunct a) in
    let p : ℕ = many (take t cs) + k in
    let more : many (take (suc t) (d ∷ cs)) ≡ length d.tests + many (take t cs) = sum_by-cons (λ (e : Course). length e.tests) d (take t cs) in
    past own (tests_from (a + 1) cs) q p (omega (arith, place, long, more))
    ∙ test_at (a + 1) cs t k p n c x at here refl (omega (arith, thread))

module _ (buffered : Bool) (bound : Binding) (code : Code) (paths : Paths) (symbolic : Symbolic) (nodes : List Node) (w : World) where
  abbrev others : List Conjunct
  others = own_formula buffered bound paths symbolic nodes ++ sync_formula paths ++ read_formula code paths symbolic nodes

  abbrev rules : List Conjunct
  rules = rules_of buffered bound code paths symbolic nodes

  abbrev truth : Conjunct → Bool
  truth c = body_at nodes w c.body

  pub tests_hold : TestsHold code paths symbolic nodes rules w (holds_in nodes rules w)
  tests_hold t k c x at here holds =
      let n : ℕ = first_test code paths symbolic nodes rules t + k in
      let p : ℕ = many (take t symbolic.threads) + k in
      let long : length rules ≡ length others + length (test_formula symbolic) = length-append others (test_formula symbolic) in
      let tests : length (test_formula symbolic) ≡ many symbolic.threads = tests_length 0 symbolic.threads in
      let place : n ≡ length others + p = omega (arith, long, tests) in
      let there : slice_get rules n ≡ Some (test_conjunct t x) =
      past others (test_formula symbolic) n p place ∙ test_at 0 symbolic.threads t k p t c x at here refl (omega arith) in
      let true_there : body_at nodes w (test_conjunct t x).body ≡ true =
      sym (get_or_from_slice_get (map truth rules) n (truth (test_conjunct t x)) false (slice_get-map truth rules n ∙ ap (option_map truth) there)) ∙ holds in
      let some = some_holds nodes w (group.Test t x.line) (literal_of x ∷ []) true_there in
      same_flag (outcome_by nodes w.loads x) x.wanted (ap (literal_at nodes w) (of_one some.0 (literal_of x) some.1) ∙ some.2)
