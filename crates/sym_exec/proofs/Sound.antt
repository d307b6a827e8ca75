-- An execution whose terms are all among its nodes stays one.
use Rattle.std.proofs.Common.{◌≡◌, ℕ, ◌<◌, ◌≤◌, ◌+◌, ◌-◌, List, [], ◌∷◌, length, Bool, true, ◌&&◌, Option, Some, None, ℤ, pos, refl, ap, sym, subst, ◌∙◌}
use Rattle.std.proofs.Common.{arith, fold, replicate, take, slice_get, length-append}
use Rattle.std.specs.Prelude.{unwrap_or, nat_lt, nat_le, bytes_eq}
use Rattle.std.specs.Bool.{IsTrue}
use Rattle.std.specs.List.{All, list_all, find, last_or}
use Rattle.std.proofs.lemmas.List.{length-set, length-replicate}
use Rattle.std.proofs.lemmas.Option.{slice_get_within, get_or_from_slice_get}
use Rattle.std.proofs.lemmas.List.Elements.{All-set, All-push, All-weaker, All-append, All-replicate, All-nil, All-cons, All-head, All-tail}
use Rattle.std.specs.Option.{option_map_or}
use Rattle.std.proofs.lemmas.Bool.{and_from, and_parts}
use Rattle.tc_base.specs.Names.{Name}
use Rattle.run_laws.proofs.Basics.{either}
use Rattle.path_walk.specs.Paths.{Walk, Paths}
use Rattle.tc_code.specs.Code.{Code, instr_at, line_at}
use Rattle.tc_code.proofs.Facts.{placed}
use Rattle.tc_code.specs.Lawful.{IsLawful, has_cell, names_what_is, takes}
use Rattle.tc_code.specs.Step.{ints_of}
use Rattle.tc_code.specs.declared.code.Func.{Func}
use Rattle.int_ops.specs.Updates.{operands_of}
use Rattle.int_ops.specs.declared.update.Update.{Update}
use Rattle.int_ops.specs.declared.update.Update.TheVariants as update
use Rattle.tc_code.specs.Expr.{Expr, names_slots}
use Rattle.tc_code.specs.declared.cell.Cell.{Cell}
use Rattle.tc_code.specs.declared.cell.Cell.TheVariants.{Fixed, Element}
use Rattle.tc_code.specs.declared.instr.Instr.{Instr}
use Rattle.tc_code.specs.declared.instr.Instr.TheVariants.{Set, Load, Store, Inside, Branch, Create, Assert, Nonzero, InRange, Modify}
use Rattle.sym_terms.specs.declared.node.Node.{Node}
use Rattle.sym_terms.specs.declared.node.Node.TheVariants.{Constant, Symbol, Unary, Binary}
use Rattle.int_ops.specs.declared.arith.UnOp.TheVariants.{Neg}
use Rattle.int_ops.specs.declared.arith.BinOp.TheVariants.{Add, Xor, Eq, And, Le}
use Rattle.sym_exec.specs.Making.{Made, AllMade, Grows, term_of_node, expr_term, with_expr, expr_terms, range_test, last_index, replaced_term}
use Rattle.sym_exec.specs.Thread.{Handed, Doing, term_in, with_term, with_slot, with_test, with_store, symbol_in, with_load, reading, with_nodes, cell_of}
use Rattle.sym_exec.specs.Thread.{update_terms, updated_term, with_update, with_handed_terms, after_instr, wanted_of, Route, route_of, after_done, after_step, started, after_all}
use Rattle.sym_exec.specs.helpers.Threads.{HaveTerms, cell_named, names_within}
use Rattle.sym_exec.specs.Thread.{AreOf, HandsOf, HasTerms}
use Rattle.sym_exec.specs.Executed.{Course, Executed, handed_by, handed_to, arguments_for, fails_at, thread_started, thread_done, with_thread}
use Rattle.sym_exec.proofs.Grown.{grows_none, grows_both, grows_made, made_within, stays_within, stay_of, expr_grows, expr_within}
use Rattle.sym_exec.proofs.Grown.{below_more, names_more, all_names_more}

-- a range test and the term of a compare-and-exchange only add nodes
pub range_grows : (x : Made) (last : ℤ) → Grows x.nodes (range_test x last).nodes
range_grows x last =
    let none : Node = Constant (pos 0) in
    let zero = term_of_node x.nodes none in
    let less : Node = Binary Le zero.term x.term in
    let low = term_of_node zero.nodes less in
    let most : Node = Constant last in
    let top = term_of_node low.nodes most in
    let more : Node = Binary Le x.term top.term in
    let high = term_of_node top.nodes more in
    let both : Node = Binary And low.term high.term in
    grows_both x.nodes zero.nodes (term_of_node high.nodes both).nodes (grows_made x.nodes none)
    (grows_both zero.nodes low.nodes (term_of_node high.nodes both).nodes (grows_made zero.nodes less)
    (grows_both low.nodes top.nodes (term_of_node high.nodes both).nodes (grows_made low.nodes most)
    (grows_both top.nodes high.nodes (term_of_node high.nodes both).nodes (grows_made top.nodes more) (grows_made high.nodes both))))

pub replaced_grows : (nodes : List Node) (v e f : ℕ) → Grows nodes (replaced_term nodes v e f).nodes
replaced_grows nodes v e f =
    let first : Node = Binary Xor v f in
    let change = term_of_node nodes first in
    let second : Node = Binary Eq v e in
    let same = term_of_node change.nodes second in
    let third : Node = Unary Neg same.term in
    let mask = term_of_node same.nodes third in
    let fourth : Node = Binary And change.term mask.term in
    let masked = term_of_node mask.nodes fourth in
    let fifth : Node = Binary Xor v masked.term in
    let all = (term_of_node masked.nodes fifth).nodes in
    grows_both nodes change.nodes all (grows_made nodes first)
    (grows_both change.nodes same.nodes all (grows_made change.nodes second)
    (grows_both same.nodes mask.nodes all (grows_made same.nodes third)
    (grows_both mask.nodes masked.nodes all (grows_made mask.nodes fourth) (grows_made masked.nodes fifth))))

-- a term is one of these nodes
abbrev IsOf : List Node → ℕ → Type 0
IsOf nodes term = term < length nodes

-- terms of expressions
pub record AreMade (nodes : List Node) (xs : AllMade) : Type 0 where
  pub grow : Grows nodes xs.nodes
  pub within : AreOf xs.nodes xs.terms

exprs_from : (nodes : List Node) (slots : List ℕ) (es : List Expr) (xs : AllMade) → AreOf nodes slots → AreMade nodes xs
    → IsTrue (list_all (names_slots (length slots)) es) → AreMade nodes (fold (with_expr slots) xs es)
exprs_from nodes slots [] xs are so named = so
exprs_from nodes slots (e ∷ es) xs are so named =
    let named = and_parts (names_slots (length slots) e) (list_all (names_slots (length slots)) es) named in
    let x = expr_term xs.nodes slots e in
    let up : Grows xs.nodes x.nodes = expr_grows xs.nodes slots e in
    exprs_from nodes slots es (with_expr slots xs e) are
    (record {
      grow = grows_both nodes xs.nodes x.nodes so.grow up;
      within = All-push (IsOf x.nodes) xs.terms x.term (stay_of xs.nodes x.nodes xs.terms up so.within)
          (expr_within xs.nodes slots e (stay_of nodes xs.nodes slots so.grow are) named.0);
    }) named.1

pub exprs_made : (nodes : List Node) (slots : List ℕ) (es : List Expr) → AreOf nodes slots → IsTrue (list_all (names_slots (length slots)) es)
    → AreMade nodes (expr_terms nodes slots es)
exprs_made nodes slots es are named =
    exprs_from nodes slots es (record { terms = []; nodes = nodes }) are (record { grow = grows_none nodes; within = All-nil (IsOf nodes) }) named

-- one execution extends another, with as many slots
pub record GoesOn (d e : Doing) : Type 0 where
  pub grows : Grows d.nodes e.nodes
  pub sound : HasTerms e
  pub size : length e.slots ≡ length d.slots

both_go : (d e f : Doing) → GoesOn d e → GoesOn e f → GoesOn d f
both_go d e f g h = record { grows = grows_both d.nodes e.nodes f.nodes g.grows h.grows; sound = h.sound; size = h.size ∙ g.size }

pub handed_stay : (a b : List Node) (hs : List Handed) → Grows a b → All (HandsOf a) hs → All (HandsOf b) hs
handed_stay a b hs g are = All-weaker (HandsOf a) (HandsOf b) (λ h of. stay_of a b h.terms g of) hs are

making_goes : (d : Doing) (x : Made) → HasTerms d → Grows d.nodes x.nodes → GoesOn d (with_term d x)
making_goes d x s g = record {
  grows = g;
  sound = record { slots = stay_of d.nodes x.nodes d.slots g s.slots; creates = handed_stay d.nodes x.nodes d.creates g s.creates };
  size = refl;
}

setting_goes : (d : Doing) (k : ℕ) (x : Made) → HasTerms d → Grows d.nodes x.nodes → x.term < length x.nodes → GoesOn d (with_slot d k x)
setting_goes d k x s g within = record {
  grows = g;
  sound = record {
    slots = All-set (IsOf x.nodes) d.slots k x.term within (stay_of d.nodes x.nodes d.slots g s.slots);
    creates = handed_stay d.nodes x.nodes d.creates g s.creates;
  };
  size = length-set d.slots k x.term;
}

testing_goes : (d : Doing) (line : ℕ) (wanted : Bool) (x : Made) → HasTerms d → Grows d.nodes x.nodes → GoesOn d (with_test d line wanted x)
testing_goes d line wanted x s g = let m = making_goes d x s g in
    record { grows = g; sound = record { slots = m.sound.slots; creates = m.sound.creates }; size = refl }

storing_goes : (d : Doing) (cell : Cell ℕ) (x : Made) → HasTerms d → Grows d.nodes x.nodes → GoesOn d (with_store d cell x)
storing_goes d cell x s g = let m = making_goes d x s g in
    record { grows = g; sound = record { slots = m.sound.slots; creates = m.sound.creates }; size = refl }

loading_goes : (d : Doing) (k : ℕ) (cell : Cell ℕ) (symbol : ℕ) (writes : Option ℕ) → HasTerms d → symbol < length d.nodes
    → GoesOn d (with_load d k cell symbol writes)
loading_goes d k cell symbol writes s within = record {
  grows = grows_none d.nodes;
  sound = record { slots = All-set (IsOf d.nodes) d.slots k symbol within s.slots; creates = s.creates };
  size = length-set d.slots k symbol;
}

reading_goes : (d : Doing) (k : ℕ) (cell : Cell ℕ) (writes : Option ℕ) → HasTerms d → GoesOn d (let v = symbol_in d in with_load (with_term d v) k cell v.term writes)
reading_goes d k cell writes s =
    let v = symbol_in d in
    let m = making_goes d v s (grows_made d.nodes (Symbol d.loads)) in
    both_go d (with_term d v) (with_load (with_term d v) k cell v.term writes) m
    (loading_goes (with_term d v) k cell v.term writes m.sound (made_within d.nodes (Symbol d.loads)))

-- the nodes of a cell's index, of an update's operands, and of the term that it stores are more
pub cell_goes : (d : Doing) (c : Cell Expr) → HasTerms d → GoesOn d (with_nodes d (cell_of d c).nodes)
cell_goes d (Fixed c) s = record { grows = grows_none d.nodes; sound = record { slots = s.slots; creates = s.creates }; size = refl }
cell_goes d (Element first len i) s = making_goes d (term_in d i) s (expr_grows d.nodes d.slots i)

pub operands_grow : (d : Doing) (u : Update Expr) → Grows d.nodes (update_terms d u).nodes
operands_grow d (update.Swap e) = expr_grows d.nodes d.slots e
operands_grow d (update.Cas e new) =
    let x = term_in d e in
    grows_both d.nodes x.nodes (term_in (with_term d x) new).nodes (expr_grows d.nodes d.slots e) (expr_grows x.nodes d.slots new)
operands_grow d (update.Add e) = expr_grows d.nodes d.slots e

one_within : (d : Doing) (e : Expr) → HasTerms d → IsTrue (names_slots (length d.slots) e) → AreOf (term_in d e).nodes ((term_in d e).term ∷ [])
one_within d e s named =
    let x = term_in d e in All-cons (IsOf x.nodes) x.term [] (expr_within d.nodes d.slots e s.slots named) (All-nil (IsOf x.nodes))

-- the terms of an update's operands are among the nodes
pub operands_within : (d : Doing) (u : Update Expr) → HasTerms d → IsTrue (list_all (names_slots (length d.slots)) (operands_of u))
    → AreOf (update_terms d u).nodes (operands_of (update_terms d u).update)
operands_within d (update.Swap e) s named = one_within d e s (and_parts (names_slots (length d.slots) e) true named).0
operands_within d (update.Add e) s named = one_within d e s (and_parts (names_slots (length d.slots) e) true named).0
operands_within d (update.Cas e new) s named =
    let named = and_parts (names_slots (length d.slots) e) (names_slots (length d.slots) new && true) named in
    let x = term_in d e in
    let y = term_in (with_term d x) new in
    let m = making_goes d x s (expr_grows d.nodes d.slots e) in
    All-cons (IsOf y.nodes) x.term (y.term ∷ [])
    (stays_within x.nodes y.nodes x.term (expr_grows x.nodes d.slots new) (expr_within d.nodes d.slots e s.slots named.0))
    (one_within (with_term d x) new m.sound (and_parts (names_slots (length d.slots) new) true named.1).0)

pub updated_grows : (nodes : List Node) (u : Update ℕ) (v : ℕ) → Grows nodes (updated_term nodes u v).nodes
updated_grows nodes (update.Swap x) v = grows_none nodes
updated_grows nodes (update.Cas x y) v = replaced_grows nodes v x y
updated_grows nodes (update.Add x) v = grows_made nodes (Binary Add v x)

pub updating_goes : (d : Doing) (k : ℕ) (cell : Cell ℕ) (u : Update Expr) → HasTerms d → GoesOn d (with_update d k cell u)
updating_goes d k cell u s =
    let x = update_terms d u in
    let v = symbol_in (with_nodes d x.nodes) in
    let w = updated_term v.nodes x.update v.term in
    let more : Grows d.nodes v.nodes = grows_both d.nodes x.nodes v.nodes (operands_grow d u) (grows_made x.nodes (Symbol d.loads)) in
    let last : Grows v.nodes w.nodes = updated_grows v.nodes x.update v.term in
    let m = making_goes d w s (grows_both d.nodes v.nodes w.nodes more last) in
    both_go d (with_term d w) (with_load (with_term d w) k cell v.term (Some w.term)) m (loading_goes (with_term d w) k cell v.term (Some w.term) m.sound
    (stays_within v.nodes w.nodes v.term last (made_within x.nodes (Symbol d.loads))))

handing_goes : (d : Doing) (es : List Expr) → HasTerms d → IsTrue (list_all (names_slots (length d.slots)) es) → GoesOn d (with_handed_terms d es)
handing_goes d es s named =
    let xs = expr_terms d.nodes d.slots es in
    let m = exprs_made d.nodes d.slots es s.slots named in
    record {
      grows = m.grow;
      sound = record {
        slots = stay_of d.nodes xs.nodes d.slots m.grow s.slots;
        creates = All-push (HandsOf xs.nodes) d.creates (record { step = d.steps; terms = xs.terms })
            (handed_stay d.nodes xs.nodes d.creates m.grow s.creates) m.within;
      };
      size = refl;
    }

-- after each instruction
pub instr_goes : (line : ℕ) (wanted : Bool) (d : Doing) (i : Instr) → HasTerms d → IsTrue (names_within (length d.slots) i)
    → GoesOn d (after_instr line wanted d i)
instr_goes line wanted d (Set k e) s named =
    let named = and_parts (nat_lt k (length d.slots)) (names_slots (length d.slots) e) named in
    setting_goes d k (term_in d e) s (expr_grows d.nodes d.slots e) (expr_within d.nodes d.slots e s.slots named.1)
instr_goes line wanted d (Load k c) s named =
    let x = cell_of d c in
    let m = cell_goes d c s in
    both_go d (with_nodes d x.nodes) (reading (with_nodes d x.nodes) k x.cell) m (reading_goes (with_nodes d x.nodes) k x.cell None m.sound)
instr_goes line wanted d (Store c e) s named =
    let x = cell_of d c in
    let y = term_in (with_nodes d x.nodes) e in
    storing_goes d x.cell y s (grows_both d.nodes x.nodes y.nodes (cell_goes d c s).grows (expr_grows x.nodes d.slots e))
instr_goes line wanted d (Inside len i) s named =
    let x = term_in d i in
    testing_goes d line wanted (range_test x (last_index len)) s
    (grows_both d.nodes x.nodes (range_test x (last_index len)).nodes (expr_grows d.nodes d.slots i) (range_grows x (last_index len)))
instr_goes line wanted d (Branch e to) s named =
    let t = testing_goes d line wanted (term_in d e) s (expr_grows d.nodes d.slots e) in
    record { grows = t.grows; sound = record { slots = t.sound.slots; creates = t.sound.creates }; size = refl }
instr_goes line wanted d (Create h f es) s named = handing_goes d es s named
instr_goes line wanted d (Assert e) s named = testing_goes d line wanted (term_in d e) s (expr_grows d.nodes d.slots e)
instr_goes line wanted d (Nonzero e) s named = testing_goes d line wanted (term_in d e) s (expr_grows d.nodes d.slots e)
instr_goes line wanted d (InRange e) s named =
    let x = term_in d e in
    testing_goes d line wanted (range_test x (pos 31)) s
    (grows_both d.nodes x.nodes (range_test x (pos 31)).nodes (expr_grows d.nodes d.slots e) (range_grows x (pos 31)))
instr_goes line wanted d (Modify k c u) s named =
    let x = cell_of d c in
    let m = cell_goes d c s in
    both_go d (with_nodes d x.nodes) (with_update (with_nodes d x.nodes) k x.cell u) m (updating_goes (with_nodes d x.nodes) k x.cell u m.sound)
instr_goes line wanted d _ s named = record { grows = grows_none d.nodes; sound = s; size = refl }

-- everything that an instruction of lawful code names exists
cell_there : (code : Code) (g : Func) (n : ℕ) (c : Cell Expr) → g.ints ≤ n → IsTrue (has_cell code g c) → IsTrue (cell_named n c)
cell_there code g n (Fixed c) up h = refl
cell_there code g n (Element first len i) up h =
    names_more g.ints n i up (and_parts (nat_le (first + len) (length code.memory)) (names_slots g.ints i) h).1

names_there : (code : Code) (g : Func) (n : ℕ) (i : Instr) → g.ints ≤ n → IsTrue (names_what_is code g i) → IsTrue (names_within n i)
names_there code g n (Set k e) up h =
    let h = and_parts (nat_lt k g.ints) (names_slots g.ints e) h in
    and_from (nat_lt k n) (names_slots n e) (below_more k g.ints n up h.0) (names_more g.ints n e up h.1)
names_there code g n (Load k c) up h =
    let h = and_parts (nat_lt k g.ints) (has_cell code g c) h in
    and_from (nat_lt k n) (cell_named n c) (below_more k g.ints n up h.0) (cell_there code g n c up h.1)
names_there code g n (Store c e) up h =
    let h = and_parts (has_cell code g c) (names_slots g.ints e) h in
    and_from (cell_named n c) (names_slots n e) (cell_there code g n c up h.0) (names_more g.ints n e up h.1)
names_there code g n (Inside len i) up h = names_more g.ints n i up (and_parts (nat_le len (length code.memory)) (names_slots g.ints i) h).1
names_there code g n (Branch e to) up h = names_more g.ints n e up h
names_there code g n (Create v f es) up h =
    all_names_more g.ints n es up (and_parts (nat_lt v g.handles && takes code f (length es)) (list_all (names_slots g.ints) es) h).1
names_there code g n (Assert e) up h = names_more g.ints n e up h
names_there code g n (Nonzero e) up h = names_more g.ints n e up h
names_there code g n (InRange e) up h = names_more g.ints n e up h
names_there code g n (Modify k c u) up h =
    let h = and_parts (nat_lt k g.ints && has_cell code g c) (list_all (names_slots g.ints) (operands_of u)) h in
    let first = and_parts (nat_lt k g.ints) (has_cell code g c) h.0 in
    and_from (nat_lt k n && cell_named n c) (list_all (names_slots n) (operands_of u))
    (and_from (nat_lt k n) (cell_named n c) (below_more k g.ints n up first.0) (cell_there code g n c up first.1))
    (all_names_more g.ints n (operands_of u) up h.1)
names_there code g n _ up h = refl

pub instr_named : (code : Code) (f place n : ℕ) (i : Instr) → IsLawful code → instr_at code f place ≡ Some i → ints_of code f ≤ n
    → IsTrue (names_within n i)
instr_named code f place n i lawful at up =
    let p = placed code f place i lawful at in
    let ints : ints_of code f ≡ p.function.ints = ap (λ o. option_map_or (λ g. g.ints) o 0) p.there in
    names_there code p.function n i (omega (arith, up, ints)) (p.lawful.names place i p.at)

-- an instruction counts at most one branch, and no step
record Counted (d e : Doing) : Type 0 where
  steps : e.steps ≡ d.steps
  branches : e.branches ≤ d.branches + 1

instr_counted : (line : ℕ) (wanted : Bool) (d : Doing) (i : Instr) → Counted d (after_instr line wanted d i)
instr_counted line wanted d (Branch e to) = record { steps = refl; branches = omega arith }
instr_counted line wanted d _ = record { steps = refl; branches = omega arith }

-- one execution extends another by at most one step
pub record StepsOn (d e : Doing) : Type 0 where
  pub goes : GoesOn d e
  pub steps : e.steps ≤ d.steps + 1
  pub branches : e.branches ≤ d.branches + 1

pub stays_on : (d : Doing) → HasTerms d → StepsOn d d
stays_on d s = record { goes = record { grows = grows_none d.nodes; sound = s; size = refl }; steps = omega arith; branches = omega arith }

-- a step that does an instruction
pub does_on : (line : ℕ) (wanted : Bool) (d : Doing) (i : Instr) → HasTerms d → IsTrue (names_within (length d.slots) i)
    → StepsOn d (record (after_instr line wanted d i) { steps = d.steps + 1 })
does_on line wanted d i s named =
    let g = instr_goes line wanted d i s named in
    record {
      goes = record { grows = g.grows; sound = record { slots = g.sound.slots; creates = g.sound.creates }; size = g.size };
      steps = omega arith;
      branches = (instr_counted line wanted d i).branches;
    }

-- a step, with an instruction at its place or without one
abbrev pub stepped_by : Route → Doing → ℕ → Option Instr → Doing
stepped_by r d place o = option_map_or (after_done r d place) o d

step_by : (r : Route) (d : Doing) (place : ℕ) (o : Option Instr) → instr_at r.code r.function place ≡ o
    → IsLawful r.code → ints_of r.code r.function ≤ length d.slots → HasTerms d → StepsOn d (after_step r d place)
step_by r d place None at lawful up s = subst (λ o. StepsOn d (stepped_by r d place o)) (sym at) (stays_on d s)
step_by r d place (Some i) at lawful up s =
    subst (λ o. StepsOn d (stepped_by r d place o)) (sym at)
    (does_on (unwrap_or (line_at r.code r.function place) 0) (wanted_of r.outcomes r.fails d i) d i s (instr_named r.code r.function place (length d.slots) i lawful at up))

-- each step extends the execution
pub step_goes : (r : Route) (d : Doing) (place : ℕ) → IsLawful r.code → ints_of r.code r.function ≤ length d.slots → HasTerms d → StepsOn d (after_step r d place)
step_goes r d place = step_by r d place (instr_at r.code r.function place) refl

-- all steps extend the execution
pub all_go : (r : Route) (d : Doing) (places : List ℕ) → IsLawful r.code → ints_of r.code r.function ≤ length d.slots → HasTerms d → GoesOn d (after_all r d places)
all_go r d [] lawful up s = (stays_on d s).goes
all_go r d (place ∷ places) lawful up s =
    let e = after_step r d place in
    let g = (step_goes r d place lawful up s).goes in
    both_go d e (after_all r e places) g (all_go r e places lawful (omega (arith, up, g.size)) g.sound)

-- a thread begins with terms of the nodes
pub start_sound : (ints : ℕ) (arguments : List ℕ) (loads : ℕ) (nodes : List Node) → AreOf nodes arguments → HasTerms (started ints arguments loads nodes)
start_sound ints arguments loads nodes are =
    let none : Node = Constant (pos 0) in
    let zero = term_of_node nodes none in
    record {
      slots = All-append (IsOf zero.nodes) arguments (replicate (ints - length arguments) zero.term)
          (stay_of nodes zero.nodes arguments (grows_made nodes none) are)
          (All-replicate (IsOf zero.nodes) (ints - length arguments) zero.term (made_within nodes none));
      creates = All-nil (HandsOf zero.nodes);
    }

-- a thread starts with all slots of its function
pub start_has : (ints : ℕ) (arguments : List ℕ) (loads : ℕ) (nodes : List Node) → ints ≤ length (started ints arguments loads nodes).slots
start_has ints arguments loads nodes =
    let none : Node = Constant (pos 0) in
    let zero = term_of_node nodes none in
    omega (arith, length-append arguments (replicate (ints - length arguments) zero.term), length-replicate (ints - length arguments) zero.term)

-- the terms that a thread hands over, and so those that a child takes, are among the nodes
handed_by_sound : (nodes : List Node) (number : ℕ) (c : Course) → All (HandsOf nodes) c.creates → AreOf nodes (handed_by number c)
handed_by_sound nodes number c are = by (slice_get c.creates (number - 1)) refl
  where
    by : (o : Option Handed) → slice_get c.creates (number - 1) ≡ o → AreOf nodes (option_map_or (λ h. h.terms) o [])
    by None at = All-nil (IsOf nodes)
    by (Some h) at =
        let within = slice_get_within c.creates (number - 1) h at in
        subst (HandsOf nodes) (get_or_from_slice_get c.creates (number - 1) h h at) (are (number - 1) h within)

abbrev IsSoundCourse : List Node → Course → Type 0
IsSoundCourse nodes c = All (HandsOf nodes) c.creates

handed_to_sound : (nodes : List Node) (courses : List Course) (parent : Name) (number : ℕ) → All (IsSoundCourse nodes) courses
    → AreOf nodes (handed_to courses parent number)
handed_to_sound nodes [] parent number are = All-nil (IsOf nodes)
handed_to_sound nodes (c ∷ courses) parent number are =
    either (λ o. AreOf nodes (option_map_or (handed_by number) o [])) (bytes_eq c.name parent) (Some c) (find (λ x. bytes_eq x.name parent) courses)
    (handed_by_sound nodes number c (All-head (IsSoundCourse nodes) c courses are))
    (handed_to_sound nodes courses parent number (All-tail (IsSoundCourse nodes) c courses are))

pub arguments_sound : (x : Executed) (n : Name) → HaveTerms x → AreOf x.nodes (arguments_for x.symbolic.threads n)
arguments_sound x n are = by (last_or None n)
  where
    by : (o : Option ℕ) → AreOf x.nodes (option_map_or (handed_to x.symbolic.threads (take (length n - 1) n)) o [])
    by None = All-nil (IsOf x.nodes)
    by (Some k) = handed_to_sound x.nodes x.symbolic.threads (take (length n - 1) n) k are

-- each thread keeps terms among the nodes
pub thread_sound : (code : Code) (paths : Paths) (x : Executed) (w : Walk) → IsLawful code → HaveTerms x → HaveTerms (with_thread code paths x w)
thread_sound code paths x w lawful are =
    let nodes = x.nodes in
    let threads = x.symbolic.threads in
    let arguments = arguments_for threads w.name in
    let d = thread_started code x w in
    let e = thread_done code paths x w in
    let s = start_sound (ints_of code w.function) arguments x.symbolic.loads nodes (arguments_sound x w.name are) in
    let g = all_go (route_of code w (fails_at paths (length threads) w)) d w.places lawful
    (start_has (ints_of code w.function) arguments x.symbolic.loads nodes) s in
    let none : Node = Constant (pos 0) in
    let up : Grows nodes e.nodes = grows_both nodes d.nodes e.nodes (grows_made nodes none) g.grows in
    All-push (IsSoundCourse e.nodes) threads (record { name = w.name; tests = e.tests; accesses = e.accesses; creates = e.creates })
    (All-weaker (IsSoundCourse nodes) (IsSoundCourse e.nodes) (λ c of. handed_stay nodes e.nodes c.creates up of) threads are) g.sound.creates
