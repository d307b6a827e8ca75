-- Bounds on the circuits of the terms that an execution makes, by its operators, steps and loads.
use Rattle.std.proofs.Common.{◌≡◌, ℕ, ◌+◌, ◌*◌, ◌≤◌, ℤ, pos, List, [], ◌∷◌, ◌++◌, fold, length, map, Bool, true, false, cond, Option, Some, None, refl, ap, arith, sum_by}
use Rattle.std.specs.Prelude.{sum, unwrap_or}
use Rattle.std.specs.List.{list_any}
use Rattle.std.proofs.lemmas.List.{length_push}
use Rattle.std.proofs.lemmas.List.Sums.{sum_by-append, sum_by-cons}
use Rattle.switch_order.specs.int_ops.declared.arith.UnOp.{UnOp}
use Rattle.switch_order.specs.int_ops.declared.arith.UnOp.TheVariants as un
use Rattle.switch_order.specs.int_ops.declared.arith.BinOp.{BinOp}
use Rattle.switch_order.specs.int_ops.declared.arith.BinOp.TheVariants as bin
use Rattle.switch_order.specs.int_ops.Updates.{operands_of}
use Rattle.switch_order.specs.int_ops.declared.update.Update.{Update}
use Rattle.switch_order.specs.int_ops.declared.update.Update.TheVariants as update
use Rattle.clap_system.specs.tc_code.Code.{Code, instr_at, line_at}
use Rattle.clap_system.specs.tc_code.Expr as expr
use Rattle.clap_system.specs.tc_code.Expr.{Expr}
use Rattle.clap_system.specs.tc_code.declared.cell.Cell.{Cell}
use Rattle.clap_system.specs.tc_code.declared.cell.Cell.TheVariants as cell
use Rattle.clap_system.specs.tc_code.declared.instr.Instr.{Instr}
use Rattle.clap_system.specs.tc_code.declared.instr.Instr.TheVariants.{Set, Load, Store, Inside, Branch, Create, Assert, Nonzero, InRange, Exit, Modify}
use Rattle.clap_system.specs.path_walk.Events.{operators, operators_in, operators_of}
use Rattle.clap_system.specs.path_walk.Paths.{Walk, Paths}
use Rattle.clap_system.specs.path_walk.Steps.{steps_at, step_at}
use Rattle.mutex_states.specs.bit_blast.sym_terms.Terms.{same_node, with_node}
use Rattle.mutex_states.specs.bit_blast.sym_terms.declared.node.Node.{Node}
use Rattle.mutex_states.specs.bit_blast.sym_terms.declared.node.Node.TheVariants.{Constant, Symbol, Unary, Binary}
use Rattle.clap_system.specs.sym_exec.Making.{Made, AllMade, term_of_node, expr_term, with_expr, range_test, last_index, replaced_term}
use Rattle.clap_system.specs.sym_exec.Thread.{Doing, term_in, symbol_in, with_nodes, cell_of, update_terms, updated_term, after_instr, wanted_of, after_step, after_all, Route, route_of}
use Rattle.clap_system.specs.sym_exec.Executed.{Course, Executed, fails_at, thread_started, thread_done, with_thread, nothing, executed}
use Rattle.clap_system.specs.sym_exec.declared.symbolic.Test.{Test}
use Rattle.clap_system.specs.sym_exec.declared.symbolic.Access.{Access}
use Rattle.clap_system.proofs.sym_exec.Sound.{stepped_by}
use Rattle.mutex_states.specs.bit_blast.bit_ops.Sizes.{unary_size, binary_size}
use Rattle.mutex_states.specs.bit_blast.bit_terms.Sizes.{node_size, terms_size}

unary_most : (op : UnOp) → unary_size op ≤ 28_868
unary_most un.Neg = omega arith
unary_most un.Not = omega arith
unary_most un.Inv = omega arith

binary_most : (op : BinOp) → binary_size op ≤ 28_868
binary_most bin.Add = omega arith
binary_most bin.Sub = omega arith
binary_most bin.Mul = omega arith
binary_most bin.Div = omega arith
binary_most bin.Rem = omega arith
binary_most bin.And = omega arith
binary_most bin.Or = omega arith
binary_most bin.Xor = omega arith
binary_most bin.Shl = omega arith
binary_most bin.Shr = omega arith
binary_most bin.Eq = omega arith
binary_most bin.Ne = omega arith
binary_most bin.Lt = omega arith
binary_most bin.Le = omega arith
binary_most bin.Gt = omega arith
binary_most bin.Ge = omega arith

-- one more node
pub with_size : (nodes : List Node) (node : Node) → terms_size (with_node nodes node) ≤ terms_size nodes + node_size node
with_size nodes node = by (list_any (same_node node) nodes)
  where
    by : (b : Bool) → terms_size (cond b nodes (nodes ++ node ∷ [])) ≤ terms_size nodes + node_size node
    by true = omega arith
    by false = omega (arith, sum_by-append node_size nodes (node ∷ []), sum_by-cons node_size node [])

-- several more nodes
pub with_sizes : (more nodes : List Node) → terms_size (fold with_node nodes more) ≤ terms_size nodes + terms_size more
with_sizes [] nodes = omega arith
with_sizes (node ∷ more) nodes =
    omega (arith, with_size nodes node, with_sizes more (with_node nodes node), sum_by-cons node_size node more)

expr_size : (nodes : List Node) (slots : List ℕ) (e : Expr) → terms_size (expr_term nodes slots e).nodes ≤ terms_size nodes + 28_868 * operators e
expr_size nodes slots (expr.Number n) = let h = with_size nodes (Constant n) in omega (arith, h)
expr_size nodes slots (expr.Slot k) = omega arith
expr_size nodes slots (expr.Unary op a) =
    let x = expr_term nodes slots a in
    let h = with_size x.nodes (Unary op x.term) in
    omega (arith, h, unary_most op, expr_size nodes slots a)
expr_size nodes slots (expr.Binary op a b) =
    let x = expr_term nodes slots a in
    let y = expr_term x.nodes slots b in
    let h = with_size y.nodes (Binary op x.term y.term) in
    omega (arith, h, binary_most op, expr_size nodes slots a, expr_size x.nodes slots b)

exprs_size : (slots : List ℕ) (es : List Expr) (xs : AllMade)
    → terms_size (fold (with_expr slots) xs es).nodes ≤ terms_size xs.nodes + 28_868 * sum (map operators es)
exprs_size slots [] xs = omega arith
exprs_size slots (e ∷ es) xs =
    omega (
      arith,
      expr_size xs.nodes slots e,
      exprs_size slots es (with_expr slots xs e),
      sum_by-cons (λ n. n) (operators e) (map operators es),
    )

range_size : (x : Made) (last : ℤ) → terms_size (range_test x last).nodes ≤ terms_size x.nodes + 896
range_size x last =
    let zero = term_of_node x.nodes (Constant (pos 0)) in
    let low = term_of_node zero.nodes (Binary bin.Le zero.term x.term) in
    let top = term_of_node low.nodes (Constant last) in
    let high = term_of_node top.nodes (Binary bin.Le x.term top.term) in
    let a = with_size x.nodes (Constant (pos 0)) in
    let b = with_size zero.nodes (Binary bin.Le zero.term x.term) in
    let c = with_size low.nodes (Constant last) in
    let d = with_size top.nodes (Binary bin.Le x.term top.term) in
    let e = with_size high.nodes (Binary bin.And low.term high.term) in
    omega (arith, a, b, c, d, e)

replaced_size : (nodes : List Node) (v e f : ℕ) → terms_size (replaced_term nodes v e f).nodes ≤ terms_size nodes + 1_152
replaced_size nodes v e f =
    let change = term_of_node nodes (Binary bin.Xor v f) in
    let same = term_of_node change.nodes (Binary bin.Eq v e) in
    let mask = term_of_node same.nodes (Unary un.Neg same.term) in
    let masked = term_of_node mask.nodes (Binary bin.And change.term mask.term) in
    let a = with_size nodes (Binary bin.Xor v f) in
    let b = with_size change.nodes (Binary bin.Eq v e) in
    let c = with_size same.nodes (Unary un.Neg same.term) in
    let d = with_size mask.nodes (Binary bin.And change.term mask.term) in
    let g = with_size masked.nodes (Binary bin.Xor v masked.term) in
    omega (arith, a, b, c, d, g)

-- the growth of an execution, by its operators, steps and accesses: a step adds at most a range
-- test, and an access at most a compare-and-exchange
pub record IsLarger (ops steps cells : ℕ) (d e : Doing) : Type 0 where
  pub nodes : terms_size e.nodes + 256 * d.loads ≤ terms_size d.nodes + 28_868 * ops + 896 * steps + 256 * e.loads
  pub tests : length e.tests ≤ length d.tests + steps
  pub loads : e.loads + length d.accesses ≤ d.loads + length e.accesses
  pub accesses : length e.accesses ≤ length d.accesses + cells

larger_both : (o p n m j k : ℕ) (d e f : Doing) → IsLarger o n j d e → IsLarger p m k e f → IsLarger (o + p) (n + m) (j + k) d f
larger_both o p n m j k d e f g h = record {
  nodes = omega (arith, g.nodes, h.nodes);
  tests = omega (arith, g.tests, h.tests);
  loads = omega (arith, g.loads, h.loads);
  accesses = omega (arith, g.accesses, h.accesses);
}

-- an instruction that makes terms, and one that tests one
making_adds : (ops : ℕ) (d e : Doing) → terms_size e.nodes ≤ terms_size d.nodes + 28_868 * ops → e.tests ≡ d.tests → e.accesses ≡ d.accesses
    → e.loads ≡ d.loads → IsLarger ops 1 0 d e
making_adds ops d e size tests accesses loads = record {
  nodes = omega (arith, size, loads);
  tests = omega (arith, ap length tests);
  loads = omega (arith, loads, ap length accesses);
  accesses = omega (arith, ap length accesses);
}

testing_adds : (ops : ℕ) (d e : Doing) (x : Test) → terms_size e.nodes ≤ terms_size d.nodes + 28_868 * ops + 896 → e.tests ≡ d.tests ++ x ∷ []
    → e.accesses ≡ d.accesses → e.loads ≡ d.loads → IsLarger ops 1 0 d e
testing_adds ops d e x size tests accesses loads = record {
  nodes = omega (arith, size, loads);
  tests = omega (arith, ap length tests, length_push d.tests x);
  loads = omega (arith, loads, ap length accesses);
  accesses = omega (arith, ap length accesses);
}

storing_adds : (ops : ℕ) (d e : Doing) (x : Access) → terms_size e.nodes ≤ terms_size d.nodes + 28_868 * ops → e.tests ≡ d.tests
    → e.accesses ≡ d.accesses ++ x ∷ [] → e.loads ≡ d.loads → IsLarger ops 1 1 d e
storing_adds ops d e x size tests accesses loads = record {
  nodes = omega (arith, size, loads);
  tests = omega (arith, ap length tests);
  loads = omega (arith, loads, ap length accesses, length_push d.accesses x);
  accesses = omega (arith, ap length accesses, length_push d.accesses x);
}

loading_adds : (ops : ℕ) (d e : Doing) (x : Access) → terms_size e.nodes ≤ terms_size d.nodes + 28_868 * ops + 1_152 → e.tests ≡ d.tests
    → e.accesses ≡ d.accesses ++ x ∷ [] → e.loads ≡ d.loads + 1 → IsLarger ops 1 1 d e
loading_adds ops d e x size tests accesses loads = record {
  nodes = omega (arith, size, loads);
  tests = omega (arith, ap length tests);
  loads = omega (arith, loads, ap length accesses, length_push d.accesses x);
  accesses = omega (arith, ap length accesses, length_push d.accesses x);
}

-- whether an instruction accesses a cell
abbrev pub cells_of : Instr → ℕ
cells_of (Load k c) = 1
cells_of (Store c e) = 1
cells_of (Modify k c u) = 1
cells_of _ = 0

cell_size : (d : Doing) (c : Cell Expr) → terms_size (cell_of d c).nodes ≤ terms_size d.nodes + 28_868 * operators_in c
cell_size d (cell.Fixed c) = omega arith
cell_size d (cell.Element first len i) = expr_size d.nodes d.slots i

operands_size : (d : Doing) (u : Update Expr) → terms_size (update_terms d u).nodes ≤ terms_size d.nodes + 28_868 * sum (map operators (operands_of u))
operands_size d (update.Swap e) = omega (arith, expr_size d.nodes d.slots e, sum_by-cons (λ n. n) (operators e) [])
operands_size d (update.Add e) = omega (arith, expr_size d.nodes d.slots e, sum_by-cons (λ n. n) (operators e) [])
operands_size d (update.Cas e new) =
    omega (
      arith,
      expr_size d.nodes d.slots e,
      expr_size (term_in d e).nodes d.slots new,
      sum_by-cons (λ n. n) (operators e) (operators new ∷ []),
      sum_by-cons (λ n. n) (operators new) [],
    )

updated_size : (nodes : List Node) (u : Update ℕ) (v : ℕ) → terms_size (updated_term nodes u v).nodes ≤ terms_size nodes + 1_152
updated_size nodes (update.Swap x) v = omega arith
updated_size nodes (update.Cas x y) v = replaced_size nodes v x y
updated_size nodes (update.Add x) v = let h = with_size nodes (Binary bin.Add v x) in omega (arith, h)

instr_adds : (line : ℕ) (wanted : Bool) (d : Doing) (i : Instr) → IsLarger (operators_of i) 1 (cells_of i) d (after_instr line wanted d i)
instr_adds line wanted d (Set k e) = making_adds (operators e) d _ (expr_size d.nodes d.slots e) refl refl refl
instr_adds line wanted d (Load k c) =
    let h = with_size (cell_of d c).nodes (Symbol d.loads) in
    loading_adds (operators_in c) d _ _ (omega (arith, h, cell_size d c)) refl refl refl
instr_adds line wanted d (Store c e) =
    storing_adds (operators_in c + operators e) d _ _ (omega (arith, cell_size d c, expr_size (cell_of d c).nodes d.slots e)) refl refl refl
instr_adds line wanted d (Inside len i) =
    let x = term_in d i in
    testing_adds (operators i) d _ _ (omega (arith, expr_size d.nodes d.slots i, range_size x (last_index len))) refl refl refl
instr_adds line wanted d (Branch e to) = testing_adds (operators e) d _ _ (omega (arith, expr_size d.nodes d.slots e)) refl refl refl
instr_adds line wanted d (Create h f es) =
    making_adds (sum (map operators es)) d _ (exprs_size d.slots es (record { terms = []; nodes = d.nodes })) refl refl refl
instr_adds line wanted d (Assert e) = testing_adds (operators e) d _ _ (omega (arith, expr_size d.nodes d.slots e)) refl refl refl
instr_adds line wanted d (Nonzero e) = testing_adds (operators e) d _ _ (omega (arith, expr_size d.nodes d.slots e)) refl refl refl
instr_adds line wanted d (InRange e) =
    let x = term_in d e in
    testing_adds (operators e) d _ _ (omega (arith, expr_size d.nodes d.slots e, range_size x (pos 31))) refl refl refl
instr_adds line wanted d (Modify k c u) =
    let x = with_nodes d (cell_of d c).nodes in
    let y = update_terms x u in
    let v = symbol_in (with_nodes x y.nodes) in
    let h = with_size y.nodes (Symbol d.loads) in
    loading_adds (operators_in c + sum (map operators (operands_of u))) d _ _
    (omega (arith, h, cell_size d c, operands_size x u, updated_size v.nodes y.update v.term)) refl refl refl
instr_adds line wanted d _ = making_adds 0 d d (omega arith) refl refl refl

-- the operators of the steps at places
abbrev pub operators_at : Code → ℕ → List ℕ → ℕ
operators_at code f places = sum (map (λ s. operators_of s.instr) (steps_at code f places))

-- the number of steps at places that access a cell
abbrev pub cells_at : Code → ℕ → List ℕ → ℕ
cells_at code f places = sum_by (λ s. cells_of s.instr) (steps_at code f places)

module _ (r : Route) where
  step_adds : (d : Doing) (place : ℕ) → IsLarger (operators_of (step_at r.code r.function place).instr) 1 (cells_of (step_at r.code r.function place).instr) d (after_step r d place)
  step_adds d place = by (instr_at r.code r.function place)
    where
      by : (o : Option Instr) → IsLarger (operators_of (unwrap_or o Exit)) 1 (cells_of (unwrap_or o Exit)) d (stepped_by r d place o)
      by None = making_adds 0 d d (omega arith) refl refl refl
      by (Some i) =
          let h = instr_adds (unwrap_or (line_at r.code r.function place) 0) (wanted_of r.outcomes r.fails d i) d i in
          record { nodes = h.nodes; tests = h.tests; loads = h.loads; accesses = h.accesses }

  pub steps_add : (places : List ℕ) (d : Doing)
      → IsLarger (operators_at r.code r.function places) (length places) (cells_at r.code r.function places) d (after_all r d places)
  steps_add [] d = record { nodes = omega arith; tests = omega arith; loads = omega arith; accesses = omega arith }
  steps_add (place ∷ places) d =
      let here : ℕ = operators_of (step_at r.code r.function place).instr in
      let cell : ℕ = cells_of (step_at r.code r.function place).instr in
      let next : Doing = after_step r d place in
      let h = larger_both here (operators_at r.code r.function places) 1 (length places) cell (cells_at r.code r.function places) d next
      (after_all r next places) (step_adds d place) (steps_add places next) in
      let all = sum_by-cons (λ n. n) here (map (λ s. operators_of s.instr) (steps_at r.code r.function places)) in
      let taken = sum_by-cons (λ s. cells_of s.instr) (step_at r.code r.function place) (steps_at r.code r.function places) in
      record {
        nodes = omega (arith, h.nodes, all);
        tests = omega (arith, h.tests);
        loads = omega (arith, h.loads);
        accesses = omega (arith, h.accesses, taken);
      }

-- the tests and the accesses of all threads
abbrev pub tests_in : List Course → ℕ
tests_in courses = sum_by (λ c. length c.tests) courses

abbrev pub accesses_in : List Course → ℕ
accesses_in courses = sum_by (λ c. length c.accesses) courses

-- the numbers of operators, steps and accesses on the paths of all threads
abbrev pub operators_along : Code → List Walk → ℕ
operators_along code walks = sum_by (λ w. operators_at code w.function w.places) walks

abbrev pub steps_along : List Walk → ℕ
steps_along walks = sum_by (λ w. length w.places) walks

abbrev pub cells_along : Code → List Walk → ℕ
cells_along code walks = sum_by (λ w. cells_at code w.function w.places) walks

pub record HasGrown (ops steps cells : ℕ) (x y : Executed) : Type 0 where
  pub nodes : terms_size y.nodes + 256 * x.symbolic.loads ≤ terms_size x.nodes + 28_868 * ops + 896 * steps + 256 * y.symbolic.loads
  pub tests : tests_in y.symbolic.threads ≤ tests_in x.symbolic.threads + steps
  pub loads : y.symbolic.loads + accesses_in x.symbolic.threads ≤ x.symbolic.loads + accesses_in y.symbolic.threads
  pub accesses : accesses_in y.symbolic.threads ≤ accesses_in x.symbolic.threads + cells

module _ (code : Code) (paths : Paths) where
  thread_adds : (x : Executed) (w : Walk)
      → HasGrown (operators_at code w.function w.places) (length w.places) (cells_at code w.function w.places) x (with_thread code paths x w)
  thread_adds x w =
      let first : Doing = thread_started code x w in
      let last : Doing = thread_done code paths x w in
      let h = steps_add (route_of code w (fails_at paths (length x.symbolic.threads) w)) w.places first in
      let zero = with_size x.nodes (Constant (pos 0)) in
      let own : Course = record { name = w.name; tests = last.tests; accesses = last.accesses; creates = last.creates } in
      let tests = sum_by-append (λ (c : Course). length c.tests) x.symbolic.threads (own ∷ []) in
      let accesses = sum_by-append (λ (c : Course). length c.accesses) x.symbolic.threads (own ∷ []) in
      record {
        nodes = omega (arith, h.nodes, zero);
        tests = omega (arith, h.tests, tests);
        loads = omega (arith, h.loads, accesses);
        accesses = omega (arith, h.accesses, accesses);
      }

  threads_add : (ws : List Walk) (x : Executed) → HasGrown (operators_along code ws) (steps_along ws) (cells_along code ws) x (fold (with_thread code paths) x ws)
  threads_add [] x = record { nodes = omega arith; tests = omega arith; loads = omega arith; accesses = omega arith }
  threads_add (w ∷ ws) x =
      let h = thread_adds x w in
      let rest = threads_add ws (with_thread code paths x w) in
      let ops = sum_by-cons (λ (v : Walk). operators_at code v.function v.places) w ws in
      let steps = sum_by-cons (λ (v : Walk). length v.places) w ws in
      let cells = sum_by-cons (λ (v : Walk). cells_at code v.function v.places) w ws in
      record {
        nodes = omega (arith, h.nodes, rest.nodes, ops, steps);
        tests = omega (arith, h.tests, rest.tests, steps);
        loads = omega (arith, h.loads, rest.loads);
        accesses = omega (arith, h.accesses, rest.accesses, cells);
      }

  pub executed_adds : HasGrown (operators_along code paths.threads) (steps_along paths.threads) (cells_along code paths.threads) (nothing []) (executed code paths [])
  executed_adds = threads_add paths.threads (nothing [])
