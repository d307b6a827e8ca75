-- An execution determines what a thread does that runs its path alone.
use Rattle.std.proofs.Common.{◌≡◌, ◌∙◌, ℕ, zero, suc, ◌<◌, ◌≤◌, ◌+◌, ◌-◌, ◌^◌, ℤ, pos, negsuc, List, [], ◌∷◌, ◌++◌, map, length, get_or, set, drop, fold}
use Rattle.std.proofs.Common.{Bool, true, false, cond, ◌&&◌, Option, Some, None, refl, ap, ap₂, sym, subst, arith, append_assoc}
use Rattle.std.specs.Prelude.{option_and_then, unwrap_or, int_le, int_lt, nat_lt, nat_le, ◌-ℤ◌}
use Rattle.std.specs.Bool.{IsTrue}
use Rattle.std.specs.List.{All, list_all, cons_option}
use Rattle.std.specs.Ordering.{int_eq}
use Rattle.std.specs.Option.{option_map_or}
use Rattle.std.proofs.Math.Dec.{leb-suc-suc}
use Rattle.std.proofs.Math.IntN.{pred_ℤ, -ℤ_one}
use Rattle.std.proofs.lemmas.Bool.{and_parts, le-ltb, le-leb, leb-true}
use Rattle.std.proofs.lemmas.List.Elements.{All-head, All-tail, All-push, All-nil, All-drop}
use Rattle.std.proofs.lemmas.List.{map-set, map-append, append-nil}
use Rattle.int_ops.specs.Arith.{IsInt, is_distance, truth, bits_xor, bits_and, negated, equal}
use Rattle.tc_base.specs.States.{Local}
use Rattle.int_ops.specs.declared.arith.UnOp.TheVariants.{Neg}
use Rattle.int_ops.specs.declared.arith.BinOp.TheVariants.{Add, Xor, Eq, And}
use Rattle.int_ops.specs.Updates.{operands_of, with_operands, updated}
use Rattle.int_ops.specs.declared.update.Update.{Update}
use Rattle.int_ops.specs.declared.update.Update.TheVariants as update
use Rattle.int_ops.proofs.Ints.{by_sameness, there_int}
use Rattle.tc_code.specs.Code.{Code, instr_at, line_at}
use Rattle.tc_code.specs.Expr.{Expr, names_slots, value_of as expr_value_of}
use Rattle.tc_code.specs.declared.cell.Cell.{Cell}
use Rattle.tc_code.specs.declared.cell.Cell.TheVariants.{Fixed, Element}
use Rattle.tc_code.specs.declared.instr.Instr.{Instr}
use Rattle.tc_code.specs.declared.instr.Instr.TheVariants.{Set, Load, Store, Inside, Branch, Holds, Ready, Create, Assert, Nonzero, InRange, Modify}
use Rattle.tc_code.proofs.Facts.{placed}
use Rattle.tc_code.specs.Lawful.{IsLawful}
use Rattle.tc_code.specs.Step.{ints_of, instr_of, value_in, is_within, is_nonzero, cell_at, cell_in, update_in, site, request, local_after, holds, can_be_joined}
use Rattle.tc_code.specs.Step.{handle_of}
use Rattle.run_laws.specs.Alone.{Alone, after_request, goes_on}
use Rattle.run_laws.specs.Ints.{AsksInts}
use Rattle.run_laws.proofs.After.{branch_is}
use Rattle.run_laws.proofs.Basics.{either}
use Rattle.run_laws.proofs.Ints.{ints_next, asks_ints, after_int}
use Rattle.sym_terms.specs.Terms.{AreTerms}
use Rattle.sym_terms.specs.Values.{value_of}
use Rattle.sym_terms.specs.declared.node.Node.{Node}
use Rattle.sym_terms.specs.declared.node.Node.TheVariants.{Symbol, Unary, Binary}
use Rattle.sym_exec.specs.Making.{Made, AllMade, Grows, term_of_node, expr_term, with_expr, expr_terms, range_test, last_index, replaced_term}
use Rattle.sym_exec.specs.Thread.{Handed, Doing, AreOf, HasTerms, Updating, term_in, with_term, with_test, with_nodes, cell_of, update_terms, updated_term, after_instr, wanted_of, after_step, after_all, Route}
use Rattle.sym_exec.specs.helpers.Threads.{cell_named, names_within}
use Rattle.sym_exec.specs.Alone.{cell_by, slots_by, condition, outcomes_of, given_by, given_of, values_in, Asked, asked_by, asked_of}
use Rattle.sym_exec.specs.Ints.{exchanged}
use Rattle.sym_exec.specs.Alone.{asked_in, outcome_by, TakesFrom, StandsFor, Tells}
use Rattle.sym_exec.specs.declared.symbolic.Test.{Test}
use Rattle.sym_exec.specs.declared.symbolic.Access.{Access}
use Rattle.sym_exec.proofs.Grown.{grows_none, grows_both, grows_made, stays_within, stay_of, expr_grows}
use Rattle.sym_exec.proofs.Sound.{instr_goes, instr_named, step_goes, all_go, exprs_made, cell_goes, operands_grow, operands_within, updated_grows, stepped_by}
use Rattle.sym_exec.proofs.Values.{HasValue, value_stays, values_stay, symbol_value, unary_value, binary_value, expr_value, range_value}
use Rattle.sym_exec.proofs.Values.{truth_nonzero}

-- whether an instruction takes a value from memory
abbrev pub is_load : Instr → Bool
is_load (Load k c) = true
is_load (Modify k c u) = true
is_load _ = false

pub loads_after : (line : ℕ) (wanted : Bool) (d : Doing) (i : Instr) → (after_instr line wanted d i).loads ≡ d.loads + cond (is_load i) 1 0
loads_after line wanted d (Load k c) = refl
loads_after line wanted d (Modify k c u) = refl
loads_after line wanted d _ = omega arith

-- a thread after an instruction whose request may fail: its slots, and the values left
pub record After (t : Local) (i : Instr) (vs : List ℤ) (a : Alone) : Type 0 where
  pub slots : a.local.slots ≡ (local_after t i (get_or vs 0 (pos 0))).slots
  pub values : a.values ≡ cond (is_load i) (drop 1 vs) vs

after_site : (t : Local) (i : Instr) (vs : List ℤ) (b : Bool) → is_load i ≡ false → (local_after t i (pos 0)).slots ≡ t.slots
    → (local_after t i (get_or vs 0 (pos 0))).slots ≡ t.slots → After t i vs (after_request t i vs (site b))
after_site t i [] true h p q = record { slots = p ∙ sym q; values = rw h refl }
after_site t i [] false h p q = record { slots = sym q; values = rw h refl }
after_site t i (v ∷ vs) true h p q = record { slots = p ∙ sym q; values = rw h refl }
after_site t i (v ∷ vs) false h p q = record { slots = sym q; values = rw h refl }

pub after_is : (t : Local) (i : Instr) (vs : List ℤ) → After t i vs (after_request t i vs (request t i))
after_is t (Inside len i) vs = after_site t (Inside len i) vs (is_within len (value_in t i)) refl refl refl
after_is t (Holds m) vs = after_site t (Holds m) vs (holds t m) refl refl refl
after_is t (Ready h) vs = after_site t (Ready h) vs (can_be_joined (handle_of t h)) refl refl refl
after_is t (Assert e) vs = after_site t (Assert e) vs (is_nonzero (value_in t e)) refl refl refl
after_is t (Nonzero e) vs = after_site t (Nonzero e) vs (is_nonzero (value_in t e)) refl refl refl
after_is t (InRange e) vs = after_site t (InRange e) vs (is_distance (value_in t e)) refl refl refl
after_is t _ [] = record { slots = refl; values = refl }
after_is t _ (v ∷ vs) = record { slots = refl; values = refl }

-- the term that a compare-and-exchange writes has its value by bit operations
pub replaced_value : (nodes : List Node) (v e f : ℕ) (loads : List ℤ) (a b c : ℤ) → AreTerms nodes → v < length nodes → e < length nodes → f < length nodes
    → value_of nodes loads v ≡ a → value_of nodes loads e ≡ b → value_of nodes loads f ≡ c → HasValue loads (replaced_term nodes v e f) (exchanged a b c)
replaced_value nodes v e f loads a b c are wv we wf va vb vc =
    let first : Node = Binary Xor v f in
    let change = term_of_node nodes first in
    let hc = binary_value Xor nodes v f a c loads are wv wf va vc in
    let gc : Grows nodes change.nodes = grows_made nodes first in
    let second : Node = Binary Eq v e in
    let same = term_of_node change.nodes second in
    let hs = binary_value Eq change.nodes v e a b loads hc.terms (stays_within nodes change.nodes v gc wv) (stays_within nodes change.nodes e gc we)
    (value_stays nodes change.nodes loads v gc wv ∙ va) (value_stays nodes change.nodes loads e gc we ∙ vb) in
    let gs : Grows change.nodes same.nodes = grows_made change.nodes second in
    let third : Node = Unary Neg same.term in
    let mask = term_of_node same.nodes third in
    let hm = unary_value Neg same (equal a b) loads hs in
    let gcm : Grows change.nodes mask.nodes = grows_both change.nodes same.nodes mask.nodes gs (grows_made same.nodes third) in
    let fourth : Node = Binary And change.term mask.term in
    let masked = term_of_node mask.nodes fourth in
    let hk = binary_value And mask.nodes change.term mask.term (bits_xor a c) (negated (equal a b)) loads hm.terms
    (stays_within change.nodes mask.nodes change.term gcm hc.within) hm.within (value_stays change.nodes mask.nodes loads change.term gcm hc.within ∙ hc.value)
    hm.value in
    let all : Grows nodes masked.nodes = grows_both nodes change.nodes masked.nodes gc
    (grows_both change.nodes mask.nodes masked.nodes gcm (grows_made mask.nodes fourth)) in
    binary_value Xor masked.nodes v masked.term a (bits_and (bits_xor a c) (negated (equal a b))) loads hk.terms
    (stays_within nodes masked.nodes v all wv) hk.within
    (value_stays nodes masked.nodes loads v all wv ∙ va) hk.value

exprs_terms : (slots : List ℕ) (loads : List ℤ) (nodes : List Node) (es : List Expr) (xs : AllMade) → AreOf nodes slots → Grows nodes xs.nodes
    → AreTerms xs.nodes → IsTrue (list_all (names_slots (length slots)) es) → AreTerms (fold (with_expr slots) xs es).nodes
exprs_terms slots loads nodes [] xs of g are named = are
exprs_terms slots loads nodes (e ∷ es) xs of g are named =
    let named = and_parts (names_slots (length slots) e) (list_all (names_slots (length slots)) es) named in
    let next = with_expr slots xs e in
    let v = expr_value xs.nodes slots e loads are (stay_of nodes xs.nodes slots g of) named.0 in
    exprs_terms slots loads nodes es next of (grows_both nodes xs.nodes next.nodes g (expr_grows xs.nodes slots e)) v.terms named.1

pub one_less : (n : ℕ) → pos (suc n) -ℤ pos 1 ≡ pred_ℤ (pos (suc n))
one_less n = -ℤ_one (pos (suc n))

-- an index is before a length exactly if it isn't after the last index
last_is_before : (v : ℤ) (n : ℕ) → int_le v (pos n -ℤ pos 1) ≡ int_lt v (pos n)
last_is_before (pos k) zero = sym (le-ltb k 0 (omega arith))
last_is_before (pos k) (suc n) = ap (int_le (pos k)) (one_less n) ∙ sym (leb-suc-suc k n)
last_is_before (negsuc k) zero = le-leb 0 k (omega arith)
last_is_before (negsuc k) (suc n) = ap (int_le (negsuc k)) (one_less n)

within_is : (len : ℕ) (v : ℤ) → len ≤ 2 ^ 31 → (int_le (pos 0) v && int_le v (last_index len)) ≡ is_within len v
within_is len v short =
    ap (λ b. int_le (pos 0) v && int_le v (cond b (pos (2 ^ 31 - 1)) (pos len -ℤ pos 1))) (le-ltb (2 ^ 31) len short)
    ∙ ap (λ b. int_le (pos 0) v && b) (last_is_before v len)

-- what one instruction determines
pub record Told (loads : List ℤ) (d e : Doing) (t : Local) (i : Instr) (v : ℤ) : Type 0 where
  pub terms : AreTerms e.nodes
  pub slots : (local_after t i v).slots ≡ slots_by loads e
  pub test : List Test
  pub tests : e.tests ≡ d.tests ++ test
  pub comes : (later : List Node) → Grows e.nodes later → map (outcome_by later loads) test ≡ cons_option (condition t i) []

-- a slot takes the value of a term
set_told : (loads : List ℤ) (d : Doing) (nodes : List Node) (term k : ℕ) (s : List ℤ) (v : ℤ) → Grows d.nodes nodes → AreOf d.nodes d.slots
    → value_of nodes loads term ≡ v → s ≡ slots_by loads d → set s k v ≡ map (value_of nodes loads) (set d.slots k term)
set_told loads d nodes term k s v g of value is =
    ap₂ (λ xs x. set xs k x) (is ∙ sym (values_stay d.nodes nodes loads d.slots g of)) (sym value)
    ∙ sym (map-set (value_of nodes loads) d.slots k term)

kept_told : (loads : List ℤ) (d : Doing) (nodes : List Node) (s : List ℤ) → Grows d.nodes nodes → AreOf d.nodes d.slots → s ≡ slots_by loads d
    → s ≡ map (value_of nodes loads) d.slots
kept_told loads d nodes s g of is = is ∙ sym (values_stay d.nodes nodes loads d.slots g of)

-- a test has the outcome of its term
test_comes : (loads : List ℤ) (x : Made) (v : ℤ) (b : Bool) (step line : ℕ) (wanted : Bool) → HasValue loads x v → is_nonzero v ≡ b
    → (later : List Node) → Grows x.nodes later
    → map (outcome_by later loads) (record { step = step; line = line; term = x.term; wanted = wanted } ∷ []) ≡ b ∷ []
test_comes loads x v b step line wanted h is later g =
    ap (λ w. is_nonzero w ∷ []) (value_stays x.nodes later loads x.term g h.within ∙ h.value) ∙ ap (λ c. c ∷ []) is

-- the length in an index test is an int
abbrev pub IsShort : Instr → Type 0
IsShort (Inside len i) = len ≤ 2 ^ 31
IsShort _ = Unit {0}

-- an instruction that tests an expression
expr_told : (loads : List ℤ) (line : ℕ) (wanted : Bool) (d : Doing) (i : Instr) (t : Local) (v : ℤ) (e : Expr) (branches : ℕ) → AreTerms d.nodes → HasTerms d
    → IsTrue (names_slots (length d.slots) e) → t.slots ≡ slots_by loads d → (local_after t i v).slots ≡ t.slots
    → condition t i ≡ Some (is_nonzero (value_in t e)) → Told loads d (record (with_test d line wanted (term_in d e)) { branches = branches }) t i v
expr_told loads line wanted d i t v e branches are s named is kept tests =
    let x = term_in d e in
    let h = expr_value d.nodes d.slots e loads are s.slots named in
    record {
      terms = h.terms;
      slots = kept ∙ kept_told loads d x.nodes t.slots (expr_grows d.nodes d.slots e) s.slots is;
      test = record { step = d.steps; line = line; term = x.term; wanted = wanted } ∷ [];
      tests = refl;
      comes = λ later g. test_comes loads x (expr_value_of e (slots_by loads d)) (is_nonzero (value_in t e)) d.steps line wanted h
          (ap (λ xs. is_nonzero (expr_value_of e xs)) (sym is)) later g ∙ ap (λ o. cons_option o []) (sym tests);
    }

-- the value of an expression's term, in all later nodes
in_later : (loads : List ℤ) (x : Made) (e : Expr) (t : Local) (d : Doing) (later : List Node) → HasValue loads x (expr_value_of e (slots_by loads d))
    → t.slots ≡ slots_by loads d → Grows x.nodes later → value_of later loads x.term ≡ value_in t e
in_later loads x e t d later h is g = value_stays x.nodes later loads x.term g h.within ∙ h.value ∙ ap (expr_value_of e) (sym is)

-- the cell that an instruction accesses, by the term of its index
pub record Reaches (loads : List ℤ) (d : Doing) (c : Cell Expr) (t : Local) : Type 0 where
  pub terms : AreTerms (cell_of d c).nodes
  pub grows : Grows d.nodes (cell_of d c).nodes
  pub cell_is : (later : List Node) → Grows (cell_of d c).nodes later → cell_by later loads (cell_of d c).cell ≡ cell_in t c

pub reaches : (loads : List ℤ) (d : Doing) (c : Cell Expr) (t : Local) → AreTerms d.nodes → HasTerms d → IsTrue (cell_named (length d.slots) c)
    → t.slots ≡ slots_by loads d → Reaches loads d c t
reaches loads d (Fixed c) t are s named is = record { terms = are; grows = grows_none d.nodes; cell_is = λ later g. refl }
reaches loads d (Element first len i) t are s named is =
    let h = expr_value d.nodes d.slots i loads are s.slots named in record {
      terms = h.terms;
      grows = expr_grows d.nodes d.slots i;
      cell_is = λ later g. ap (cell_at first) (in_later loads (term_in d i) i t d later h is g);
    }

-- the terms of an update's operands have the values of the operands
record Operands (loads : List ℤ) (d : Doing) (u : Update Expr) (t : Local) : Type 0 where
  terms : AreTerms (update_terms d u).nodes
  values : (later : List Node) → Grows (update_terms d u).nodes later
      → with_operands (value_of later loads) (update_terms d u).update ≡ update_in t u

operands : (loads : List ℤ) (d : Doing) (u : Update Expr) (t : Local) → AreTerms d.nodes → HasTerms d
    → IsTrue (list_all (names_slots (length d.slots)) (operands_of u)) → t.slots ≡ slots_by loads d → Operands loads d u t
operands loads d (update.Swap e) t are s named is =
    let x = term_in d e in
    let h = expr_value d.nodes d.slots e loads are s.slots (and_parts (names_slots (length d.slots) e) true named).0 in
    record { terms = h.terms; values = λ later g. ap update.Swap (in_later loads x e t d later h is g) }
operands loads d (update.Add e) t are s named is =
    let x = term_in d e in
    let h = expr_value d.nodes d.slots e loads are s.slots (and_parts (names_slots (length d.slots) e) true named).0 in
    record { terms = h.terms; values = λ later g. ap update.Add (in_later loads x e t d later h is g) }
operands loads d (update.Cas e new) t are s named is =
    let named = and_parts (names_slots (length d.slots) e) (names_slots (length d.slots) new && true) named in
    let x = term_in d e in
    let hx = expr_value d.nodes d.slots e loads are s.slots named.0 in
    let gx : Grows d.nodes x.nodes = expr_grows d.nodes d.slots e in
    let y = term_in (with_term d x) new in
    let hy = expr_value x.nodes d.slots new loads hx.terms (stay_of d.nodes x.nodes d.slots gx s.slots)
    (and_parts (names_slots (length d.slots) new) true named.1).0 in
    let gy : Grows x.nodes y.nodes = expr_grows x.nodes d.slots new in record {
      terms = hy.terms;
      values = λ later g. ap₂ update.Cas (in_later loads x e t d later hx is (grows_both x.nodes y.nodes later gy g))
          (value_stays y.nodes later loads y.term g hy.within ∙ hy.value
          ∙ ap (expr_value_of new) (values_stay d.nodes x.nodes loads d.slots gx s.slots ∙ sym is));
    }

-- the term that an update stores is one, and has the updated value
updated_are : (nodes : List Node) (u : Update ℕ) (v : ℕ) (loads : List ℤ) → AreTerms nodes → v < length nodes → AreOf nodes (operands_of u)
    → AreTerms (updated_term nodes u v).nodes
updated_are nodes (update.Swap x) v loads are wv of = are
updated_are nodes (update.Cas x y) v loads are wv of =
    (replaced_value nodes v x y loads _ _ _ are wv (All-head (λ n. n < length nodes) x (y ∷ []) of)
    (All-head (λ n. n < length nodes) y [] (All-tail (λ n. n < length nodes) x (y ∷ []) of)) refl refl refl).terms
updated_are nodes (update.Add x) v loads are wv of =
    (binary_value Add nodes v x _ _ loads are wv (All-head (λ n. n < length nodes) x [] of) refl refl).terms

its_value : (nodes : List Node) (u : Update ℕ) (v : ℕ) (loads : List ℤ) → AreTerms nodes → v < length nodes → AreOf nodes (operands_of u)
    → IsInt (value_of nodes loads v) → All IsInt (operands_of (with_operands (value_of nodes loads) u))
    → HasValue loads (updated_term nodes u v) (updated (with_operands (value_of nodes loads) u) (value_of nodes loads v))
its_value nodes (update.Swap x) v loads are wv of int ints =
    record { terms = are; within = All-head (λ n. n < length nodes) x [] of; value = refl }
its_value nodes (update.Cas x y) v loads are wv of int ints =
    let a = value_of nodes loads v in
    let b = value_of nodes loads x in
    let c = value_of nodes loads y in
    let h = replaced_value nodes v x y loads a b c are wv (All-head (λ n. n < length nodes) x (y ∷ []) of)
    (All-head (λ n. n < length nodes) y [] (All-tail (λ n. n < length nodes) x (y ∷ []) of)) refl refl refl in
    record {
      terms = h.terms;
      within = h.within;
      value = h.value ∙ by_sameness (int_eq a b) a c int (All-head IsInt c [] (All-tail IsInt b (c ∷ []) ints));
    }
its_value nodes (update.Add x) v loads are wv of int ints =
    binary_value Add nodes v x (value_of nodes loads v) (value_of nodes loads x) loads are wv (All-head (λ n. n < length nodes) x [] of) refl refl

updated_value : (nodes : List Node) (u : Update ℕ) (v : ℕ) (loads : List ℤ) (w : Update ℤ) (a : ℤ) → AreTerms nodes → v < length nodes
    → AreOf nodes (operands_of u) → value_of nodes loads v ≡ a → with_operands (value_of nodes loads) u ≡ w → IsInt a → All IsInt (operands_of w)
    → HasValue loads (updated_term nodes u v) (updated w a)
updated_value nodes u v loads w a are wv of va uw int ints =
    subst (λ b. HasValue loads (updated_term nodes u v) (updated w b)) va
    (subst (λ x. HasValue loads (updated_term nodes u v) (updated x (value_of nodes loads v))) uw
    (its_value nodes u v loads are wv of (subst IsInt (sym va) int) (subst (λ x. All IsInt (operands_of x)) (sym uw) ints)))

-- the terms of an instruction that updates a cell: of the operands, of the load, and of the store
abbrev operands_in : Doing → Cell Expr → Update Expr → Updating
operands_in d c u = update_terms (with_nodes d (cell_of d c).nodes) u

abbrev loaded_in : Doing → Cell Expr → Update Expr → Made
loaded_in d c u = term_of_node (operands_in d c u).nodes (Symbol d.loads)

abbrev stored_in : Doing → Cell Expr → Update Expr → Made
stored_in d c u = updated_term (loaded_in d c u).nodes (operands_in d c u).update (loaded_in d c u).term

record Modifies (loads : List ℤ) (d : Doing) (c : Cell Expr) (u : Update Expr) (t : Local) : Type 0 where
  has : HasValue loads (loaded_in d c u) (get_or loads d.loads (pos 0))
  within : AreOf (loaded_in d c u).nodes (operands_of (operands_in d c u).update)
  values : with_operands (value_of (loaded_in d c u).nodes loads) (operands_in d c u).update ≡ update_in t u
  grows : Grows d.nodes (loaded_in d c u).nodes
  writes : Grows (loaded_in d c u).nodes (stored_in d c u).nodes
  cell_is : (later : List Node) → Grows (loaded_in d c u).nodes later → cell_by later loads (cell_of d c).cell ≡ cell_in t c

modifies : (loads : List ℤ) (d : Doing) (k : ℕ) (c : Cell Expr) (u : Update Expr) (t : Local) → AreTerms d.nodes → HasTerms d
    → IsTrue (nat_lt k (length d.slots) && cell_named (length d.slots) c) → IsTrue (list_all (names_slots (length d.slots)) (operands_of u))
    → t.slots ≡ slots_by loads d → Modifies loads d c u t
modifies loads d k c u t are s at named is =
    let x = cell_of d c in
    let r = reaches loads d c t are s (and_parts (nat_lt k (length d.slots)) (cell_named (length d.slots) c) at).1 is in
    let e = with_nodes d x.nodes in
    let sound = (cell_goes d c s).sound in
    let o = operands loads e u t r.terms sound named (kept_told loads d x.nodes t.slots r.grows s.slots is) in
    let made = operands_in d c u in
    let symbol = loaded_in d c u in
    let more : Grows made.nodes symbol.nodes = grows_made made.nodes (Symbol d.loads) in
    let up : Grows x.nodes symbol.nodes = grows_both x.nodes made.nodes symbol.nodes (operands_grow e u) more in
    record {
      has = symbol_value made.nodes d.loads loads o.terms;
      within = stay_of made.nodes symbol.nodes (operands_of made.update) more (operands_within e u sound named);
      values = o.values symbol.nodes more;
      grows = grows_both d.nodes x.nodes symbol.nodes r.grows up;
      writes = updated_grows symbol.nodes made.update symbol.term;
      cell_is = λ later g. r.cell_is later (grows_both x.nodes symbol.nodes later up g);
    }

pub told : (loads : List ℤ) (line : ℕ) (wanted : Bool) (d : Doing) (i : Instr) (t : Local) (v : ℤ) → AreTerms d.nodes → HasTerms d
    → IsTrue (names_within (length d.slots) i) → IsShort i → t.slots ≡ slots_by loads d → (is_load i ≡ true → get_or loads d.loads (pos 0) ≡ v)
    → Told loads d (after_instr line wanted d i) t i v
told loads line wanted d (Set k e) t v are s named short is load =
    let named = and_parts (nat_lt k (length d.slots)) (names_slots (length d.slots) e) named in
    let x = term_in d e in
    let h = expr_value d.nodes d.slots e loads are s.slots named.1 in
    record {
      terms = h.terms;
      slots = ap (λ xs. set t.slots k (expr_value_of e xs)) is
          ∙ set_told loads d x.nodes x.term k t.slots (expr_value_of e (slots_by loads d)) (expr_grows d.nodes d.slots e) s.slots h.value is;
      test = [];
      tests = sym (append-nil d.tests);
      comes = λ later g. refl;
    }
told loads line wanted d (Load k c) t v are s named short is load =
    let named = and_parts (nat_lt k (length d.slots)) (cell_named (length d.slots) c) named in
    let x = cell_of d c in
    let r = reaches loads d c t are s named.1 is in
    let y = term_of_node x.nodes (Symbol d.loads) in
    let h = symbol_value x.nodes d.loads loads r.terms in
    let g : Grows d.nodes y.nodes = grows_both d.nodes x.nodes y.nodes r.grows (grows_made x.nodes (Symbol d.loads)) in
    record {
      terms = h.terms;
      slots = set_told loads d y.nodes y.term k t.slots v g s.slots (h.value ∙ load refl) is;
      test = [];
      tests = sym (append-nil d.tests);
      comes = λ later g. refl;
    }
told loads line wanted d (Modify k c u) t v are s named short is load =
    let named = and_parts (nat_lt k (length d.slots) && cell_named (length d.slots) c) (list_all (names_slots (length d.slots)) (operands_of u)) named in
    let m = modifies loads d k c u t are s named.0 named.1 is in
    let symbol = loaded_in d c u in
    let written = stored_in d c u in
    record {
      terms = updated_are symbol.nodes (operands_in d c u).update symbol.term loads m.has.terms m.has.within m.within;
      slots = set_told loads d written.nodes symbol.term k t.slots v (grows_both d.nodes symbol.nodes written.nodes m.grows m.writes) s.slots
          (value_stays symbol.nodes written.nodes loads symbol.term m.writes m.has.within ∙ m.has.value ∙ load refl) is;
      test = [];
      tests = sym (append-nil d.tests);
      comes = λ later g. refl;
    }
told loads line wanted d (Store c e) t v are s named short is load =
    let named = and_parts (cell_named (length d.slots) c) (names_slots (length d.slots) e) named in
    let x = cell_of d c in
    let r = reaches loads d c t are s named.0 is in
    let y = term_in (with_nodes d x.nodes) e in
    record {
      terms = (expr_value x.nodes d.slots e loads r.terms (stay_of d.nodes x.nodes d.slots r.grows s.slots) named.1).terms;
      slots = kept_told loads d y.nodes t.slots (grows_both d.nodes x.nodes y.nodes r.grows (expr_grows x.nodes d.slots e)) s.slots is;
      test = [];
      tests = sym (append-nil d.tests);
      comes = λ later g. refl;
    }
told loads line wanted d (Inside len i) t v are s named short is load =
    let x = term_in d i in
    let n = expr_value_of i (slots_by loads d) in
    let last = last_index len in
    let h = range_value x n last loads (expr_value d.nodes d.slots i loads are s.slots named) in
    let e = after_instr line wanted d (Inside len i) in
    record {
      terms = h.terms;
      slots = kept_told loads d e.nodes t.slots (instr_goes line wanted d (Inside len i) s named).grows s.slots is;
      test = record { step = d.steps; line = line; term = (range_test x last).term; wanted = wanted } ∷ [];
      tests = refl;
      comes = test_comes loads (range_test x last) (truth (int_le (pos 0) n && int_le n last)) (is_within len (value_in t i)) d.steps line wanted h
          (truth_nonzero (int_le (pos 0) n && int_le n last) ∙ within_is len n short ∙ ap (λ xs. is_within len (expr_value_of i xs)) (sym is));
    }
told loads line wanted d (InRange i) t v are s named short is load =
    let x = term_in d i in
    let n = expr_value_of i (slots_by loads d) in
    let h = range_value x n (pos 31) loads (expr_value d.nodes d.slots i loads are s.slots named) in
    let e = after_instr line wanted d (InRange i) in
    record {
      terms = h.terms;
      slots = kept_told loads d e.nodes t.slots (instr_goes line wanted d (InRange i) s named).grows s.slots is;
      test = record { step = d.steps; line = line; term = (range_test x (pos 31)).term; wanted = wanted } ∷ [];
      tests = refl;
      comes = test_comes loads (range_test x (pos 31)) (truth (is_distance n)) (is_distance (value_in t i)) d.steps line wanted h
          (truth_nonzero (is_distance n) ∙ ap (λ xs. is_distance (expr_value_of i xs)) (sym is));
    }
told loads line wanted d (Branch e to) t v are s named short is load =
    expr_told loads line wanted d (Branch e to) t v e (d.branches + 1) are s named is
    (ap (λ (u : Local). u.slots) (branch_is t (is_nonzero (value_in t e)) to)) refl
told loads line wanted d (Assert e) t v are s named short is load = expr_told loads line wanted d (Assert e) t v e d.branches are s named is refl refl
told loads line wanted d (Nonzero e) t v are s named short is load = expr_told loads line wanted d (Nonzero e) t v e d.branches are s named is refl refl
told loads line wanted d (Create h f es) t v are s named short is load =
    let e = after_instr line wanted d (Create h f es) in
    record {
      terms = exprs_terms d.slots loads d.nodes es (record { terms = []; nodes = d.nodes }) s.slots (grows_none d.nodes) are named;
      slots = kept_told loads d e.nodes t.slots (instr_goes line wanted d (Create h f es) s named).grows s.slots is;
      test = [];
      tests = sym (append-nil d.tests);
      comes = λ later g. refl;
    }
told loads line wanted d _ t v are s named short is load =
    record { terms = are; slots = is; test = []; tests = sym (append-nil d.tests); comes = λ later g. refl }

-- the values of the terms of expressions
exprs_values : (slots : List ℕ) (loads : List ℤ) (nodes : List Node) (es : List Expr) (xs : AllMade) (vs : List ℤ) → AreOf nodes slots → Grows nodes xs.nodes
    → AreTerms xs.nodes → AreOf xs.nodes xs.terms → IsTrue (list_all (names_slots (length slots)) es) → map (value_of xs.nodes loads) xs.terms ≡ vs
    → map (value_of (fold (with_expr slots) xs es).nodes loads) (fold (with_expr slots) xs es).terms
    ≡ vs ++ map (λ e. expr_value_of e (map (value_of nodes loads) slots)) es
exprs_values slots loads nodes [] xs vs of g are within named is = is ∙ sym (append-nil vs)
exprs_values slots loads nodes (e ∷ es) xs vs of g are within named is =
    let named = and_parts (names_slots (length slots) e) (list_all (names_slots (length slots)) es) named in
    let next = with_expr slots xs e in
    let x = expr_term xs.nodes slots e in
    let up : Grows xs.nodes x.nodes = expr_grows xs.nodes slots e in
    let h = expr_value xs.nodes slots e loads are (stay_of nodes xs.nodes slots g of) named.0 in
    let v = expr_value_of e (map (value_of nodes loads) slots) in
    let one : value_of x.nodes loads x.term ≡ v = h.value ∙ ap (expr_value_of e) (values_stay nodes xs.nodes loads slots g of) in
    let all : map (value_of x.nodes loads) (xs.terms ++ x.term ∷ []) ≡ vs ++ v ∷ [] =
    map-append (value_of x.nodes loads) xs.terms (x.term ∷ [])
    ∙ ap₂ (λ ys y. ys ++ y ∷ []) (values_stay xs.nodes x.nodes loads xs.terms up within ∙ is) one in
    exprs_values slots loads nodes es next (vs ++ v ∷ []) of (grows_both nodes xs.nodes next.nodes g up) h.terms
    (All-push (λ n. n < length x.nodes) xs.terms x.term (stay_of xs.nodes x.nodes xs.terms up within) h.within) named.1 all
    ∙ append_assoc vs (v ∷ []) (map (λ e. expr_value_of e (map (value_of nodes loads) slots)) es)

-- the terms that an instruction hands over
pub record Hands (loads : List ℤ) (d e : Doing) (t : Local) (i : Instr) : Type 0 where
  pub hands : List Handed
  pub creates : e.creates ≡ d.creates ++ hands
  pub given : (later : List Node) → Grows e.nodes later → map (values_in later loads) hands ≡ given_by t i

pub hands_over : (loads : List ℤ) (line : ℕ) (wanted : Bool) (d : Doing) (i : Instr) (t : Local) → AreTerms d.nodes → HasTerms d
    → IsTrue (names_within (length d.slots) i) → t.slots ≡ slots_by loads d → Hands loads d (after_instr line wanted d i) t i
hands_over loads line wanted d (Create h f es) t are s named is =
    let none : AllMade = record { terms = []; nodes = d.nodes } in
    let xs = expr_terms d.nodes d.slots es in
    let m = exprs_made d.nodes d.slots es s.slots named in
    let v = exprs_values d.slots loads d.nodes es none [] s.slots (grows_none d.nodes) are (All-nil (λ n. n < length d.nodes)) named refl in
    record {
      hands = record { step = d.steps; terms = xs.terms } ∷ [];
      creates = refl;
      given = λ later g. ap (λ vs. vs ∷ []) (values_stay xs.nodes later loads xs.terms g m.within ∙ v
          ∙ ap (λ slots. map (λ e. expr_value_of e slots) es) (sym is));
    }
hands_over loads line wanted d _ t are s named is = record { hands = []; creates = sym (append-nil d.creates); given = λ later g. refl }

-- the request of an instruction for a cell
pub record Asks (loads : List ℤ) (d e : Doing) (t : Local) (i : Instr) (v : ℤ) : Type 0 where
  pub found : List Access
  pub accesses : e.accesses ≡ d.accesses ++ found
  pub asked : (later : List Node) → Grows e.nodes later → map (asked_in later loads) found ≡ asked_by v (request t i)

asked_is : (c d : ℕ) (k l v w : Option ℤ) → c ≡ d → k ≡ l → v ≡ w
    → ◌≡◌ {A = List Asked} (record { cell = c; takes = k; writes = v } ∷ []) (record { cell = d; takes = l; writes = w } ∷ [])
asked_is c d k l v w ec ek ev =
    ap (λ x. record { cell = x; takes = k; writes = v } ∷ []) ec ∙ ap (λ x. record { cell = d; takes = x; writes = v } ∷ []) ek
    ∙ ap (λ x. record { cell = d; takes = l; writes = x } ∷ []) ev

site_asks : (loads : List ℤ) (d e : Doing) (t : Local) (i : Instr) (v : ℤ) (b : Bool) → request t i ≡ site b → e.accesses ≡ d.accesses → Asks loads d e t i v
site_asks loads d e t i v true is same =
    record { found = []; accesses = same ∙ sym (append-nil d.accesses); asked = λ later g. sym (ap (asked_by v) is) }
site_asks loads d e t i v false is same =
    record { found = []; accesses = same ∙ sym (append-nil d.accesses); asked = λ later g. sym (ap (asked_by v) is) }

pub asks : (loads : List ℤ) (line : ℕ) (wanted : Bool) (d : Doing) (i : Instr) (t : Local) (v : ℤ) → AreTerms d.nodes → HasTerms d
    → IsTrue (names_within (length d.slots) i) → t.slots ≡ slots_by loads d → (is_load i ≡ true → get_or loads d.loads (pos 0) ≡ v)
    → IsInt v → AsksInts (request t i) → Asks loads d (after_instr line wanted d i) t i v
asks loads line wanted d (Load k c) t v are s named is load int ints =
    let named = and_parts (nat_lt k (length d.slots)) (cell_named (length d.slots) c) named in
    let x = cell_of d c in
    let r = reaches loads d c t are s named.1 is in
    let e = after_instr line wanted d (Load k c) in
    let up : Grows x.nodes e.nodes = grows_made x.nodes (Symbol d.loads) in
    record {
      found = record { step = d.steps; cell = x.cell; takes = Some d.loads; writes = None } ∷ [];
      accesses = refl;
      asked = λ later g. asked_is (cell_by later loads x.cell) (cell_in t c) (Some (get_or loads d.loads (pos 0))) (Some v) None None
          (r.cell_is later (grows_both x.nodes e.nodes later up g)) (ap Some (load refl)) refl;
    }
asks loads line wanted d (Store c e) t v are s named is load int ints =
    let named = and_parts (cell_named (length d.slots) c) (names_slots (length d.slots) e) named in
    let x = cell_of d c in
    let r = reaches loads d c t are s named.0 is in
    let y = term_in (with_nodes d x.nodes) e in
    let gy : Grows x.nodes y.nodes = expr_grows x.nodes d.slots e in
    let hy = expr_value x.nodes d.slots e loads r.terms (stay_of d.nodes x.nodes d.slots r.grows s.slots) named.1 in
    let value : (later : List Node) → Grows y.nodes later → value_of later loads y.term ≡ value_in t e = λ later g.
    value_stays y.nodes later loads y.term g hy.within ∙ hy.value
    ∙ ap (expr_value_of e) (values_stay d.nodes x.nodes loads d.slots r.grows s.slots ∙ sym is) in
    record {
      found = record { step = d.steps; cell = x.cell; takes = None; writes = Some y.term } ∷ [];
      accesses = refl;
      asked = λ later g. asked_is (cell_by later loads x.cell) (cell_in t c) None None (Some (value_of later loads y.term))
          (Some (value_in t e)) (r.cell_is later (grows_both x.nodes y.nodes later gy g)) refl
          (ap Some (value later g));
    }
asks loads line wanted d (Modify k c u) t v are s named is load int ints =
    let named = and_parts (nat_lt k (length d.slots) && cell_named (length d.slots) c) (list_all (names_slots (length d.slots)) (operands_of u)) named in
    let cell = (cell_of d c).cell in
    let m = modifies loads d k c u t are s named.0 named.1 is in
    let symbol = loaded_in d c u in
    let written = stored_in d c u in
    let h = updated_value symbol.nodes (operands_in d c u).update symbol.term loads (update_in t u) v m.has.terms m.has.within m.within
    (m.has.value ∙ load refl) m.values int ints in
    record {
      found = record { step = d.steps; cell = cell; takes = Some d.loads; writes = Some written.term } ∷ [];
      accesses = refl;
      asked = λ later g. asked_is (cell_by later loads cell) (cell_in t c) (Some (get_or loads d.loads (pos 0))) (Some v)
          (Some (value_of later loads written.term)) (Some (updated (update_in t u) v))
          (m.cell_is later (grows_both symbol.nodes written.nodes later m.writes g)) (ap Some (load refl))
          (ap Some (value_stays written.nodes later loads written.term g h.within ∙ h.value));
    }
asks loads line wanted d (Inside len i) t v are s named is load int ints =
    site_asks loads d (after_instr line wanted d (Inside len i)) t (Inside len i) v (is_within len (value_in t i)) refl refl
asks loads line wanted d (Holds m) t v are s named is load int ints = site_asks loads d d t (Holds m) v (holds t m) refl refl
asks loads line wanted d (Ready h) t v are s named is load int ints = site_asks loads d d t (Ready h) v (can_be_joined (handle_of t h)) refl refl
asks loads line wanted d (Assert e) t v are s named is load int ints =
    site_asks loads d (after_instr line wanted d (Assert e)) t (Assert e) v (is_nonzero (value_in t e)) refl refl
asks loads line wanted d (Nonzero e) t v are s named is load int ints =
    site_asks loads d (after_instr line wanted d (Nonzero e)) t (Nonzero e) v (is_nonzero (value_in t e)) refl refl
asks loads line wanted d (InRange e) t v are s named is load int ints =
    site_asks loads d (after_instr line wanted d (InRange e)) t (InRange e) v (is_distance (value_in t e)) refl refl
asks loads line wanted d _ t v are s named is load int ints = record { found = []; accesses = sym (append-nil d.accesses); asked = λ later g. refl }

-- the values that are left
next_value : (vs : List ℤ) (k : ℕ) → get_or vs (suc k) (pos 0) ≡ get_or (drop 1 vs) k (pos 0)
next_value [] k = refl
next_value (v ∷ vs) k = refl

takes_next : (b : Bool) (loads : List ℤ) (first next end : ℕ) (vs ws : List ℤ) → next ≡ first + cond b 1 0 → ws ≡ cond b (drop 1 vs) vs
    → TakesFrom loads first end vs → TakesFrom loads next end ws
takes_next true loads first next end vs ws en ew takes k within =
    let e : next + k ≡ first + suc k = omega (arith, en) in
    ap (λ n. get_or loads n (pos 0)) e ∙ takes (suc k) (omega (arith, within, en)) ∙ next_value vs k ∙ ap (λ xs. get_or xs k (pos 0)) (sym ew)
takes_next false loads first next end vs ws en ew takes k within =
    let e : next + k ≡ first + k = omega (arith, en) in
    ap (λ n. get_or loads n (pos 0)) e ∙ takes k (omega (arith, within, en)) ∙ ap (λ xs. get_or xs k (pos 0)) (sym ew)

cons_is : {A : Type 0} (o : Option A) (xs : List A) → cons_option o [] ++ xs ≡ cons_option o xs
cons_is None xs = refl
cons_is (Some x) xs = refl

module _ (r : Route) where
  loads_by : (d : Doing) (place : ℕ) (o : Option Instr) → d.loads ≤ (stepped_by r d place o).loads
  loads_by d place None = omega arith
  loads_by d place (Some i) =
      let e = loads_after (unwrap_or (line_at r.code r.function place) 0) (wanted_of r.outcomes r.fails d i) d i in
      omega (arith, e)

  loads_grow : (places : List ℕ) (d : Doing) → d.loads ≤ (after_all r d places).loads
  loads_grow [] d = omega arith
  loads_grow (place ∷ places) d =
      let e = after_step r d place in
      omega (arith, loads_by d place (instr_at r.code r.function place), loads_grow places e)

-- an index test of lawful code has a length of at most the number of cells
pub short_is : (code : Code) (f place : ℕ) (i : Instr) → IsLawful code → instr_at code f place ≡ Some i → IsShort i
short_is code f place (Inside len i) lawful at =
    let p = placed code f place (Inside len i) lawful at in
    let named = p.lawful.names place (Inside len i) p.at in
    let few = leb-true len (length code.memory) (and_parts (nat_le len (length code.memory)) (names_slots p.function.ints i) named).0 in
    omega (arith, few, lawful.cells)
short_is code f place _ lawful at = tt

-- the values that a step adds, and those that the later steps add
more : {A B : Type 0} (fn : A → B) (old new all : List A) (here later : List B) → all ≡ old ++ new → map fn new ≡ here
    → map fn all ++ later ≡ map fn old ++ (here ++ later)
more fn old new all here later is gives =
    ap (λ xs. map fn xs ++ later) is ∙ ap (λ xs. xs ++ later) (map-append fn old new ∙ ap (λ xs. map fn old ++ xs) gives)
    ∙ append_assoc (map fn old) here later

module _ (r : Route) (loads : List ℤ) (lawful : IsLawful r.code) where
  abbrev after : Doing → List ℕ → Doing
  after d places = after_all r d places

  abbrev next : Doing → ℕ → Doing
  next d place = after_step r d place

  -- what a step determines
  record StepTold (place : ℕ) (places : List ℕ) (d : Doing) (a : Alone) : Type 0 where
    stands : StandsFor r loads places (next d place) (goes_on r.code a)
    test : List Test
    tests : (next d place).tests ≡ d.tests ++ test
    comes : (later : List Node) → Grows (next d place).nodes later
        → map (outcome_by later loads) test ≡ cons_option (option_and_then (condition a.local) (instr_of r.code a.local)) []
    hands : List Handed
    creates : (next d place).creates ≡ d.creates ++ hands
    given : (later : List Node) → Grows (next d place).nodes later
        → map (values_in later loads) hands ≡ option_map_or (given_by a.local) (instr_of r.code a.local) []
    found : List Access
    accesses : (next d place).accesses ≡ d.accesses ++ found
    asked : (later : List Node) → Grows (next d place).nodes later → map (asked_in later loads) found
        ≡ option_map_or (λ i. asked_by (get_or a.values 0 (pos 0)) (request a.local i)) (instr_of r.code a.local) []

  -- with no instruction at the place, nothing is done
  no_step : (place : ℕ) (places : List ℕ) (d : Doing) (a : Alone) → StandsFor r loads (place ∷ places) d a
      → instr_at r.code r.function place ≡ None → StepTold place places d a
  no_step place places d a s at =
      let stays : next d place ≡ d = ap (λ o. stepped_by r d place o) at in
      let none : instr_of r.code a.local ≡ None = s.along.0 ∙ at in
      let waits : goes_on r.code a ≡ a = ap (λ o. option_map_or (λ i. after_request a.local i a.values (request a.local i)) o a) none in
      record {
        stands = record {
          terms = subst (λ x. AreTerms x.nodes) (sym stays) s.terms;
          sound = subst HasTerms (sym stays) s.sound;
          ints = subst (λ x. ints_of r.code r.function ≤ length x.slots) (sym stays) s.ints;
          slots = ap (λ x. x.local.slots) waits ∙ s.slots ∙ sym (ap (slots_by loads) stays);
          along = s.along.1;
          takes = takes_next false loads d.loads (next d place).loads (after (next d place) places).loads a.values (goes_on r.code a).values
              (ap (λ x. x.loads) stays ∙ omega arith) (ap (λ x. x.values) waits) s.takes;
          slot_ints = subst (λ x. All IsInt x.local.slots) (sym waits) s.slot_ints;
          taken_ints = subst (λ x. All IsInt x.values) (sym waits) s.taken_ints;
        };
        test = [];
        tests = ap (λ x. x.tests) stays ∙ sym (append-nil d.tests);
        comes = λ later g. sym (ap (λ o. cons_option (option_and_then (condition a.local) o) []) none);
        hands = [];
        creates = ap (λ x. x.creates) stays ∙ sym (append-nil d.creates);
        given = λ later g. sym (ap (λ o. option_map_or (given_by a.local) o []) none);
        found = [];
        accesses = ap (λ x. x.accesses) stays ∙ sym (append-nil d.accesses);
        asked = λ later g. sym (ap (λ o. option_map_or (λ i. asked_by (get_or a.values 0 (pos 0)) (request a.local i)) o []) none);
      }

  -- an instruction at the place is done
  one_step : (place : ℕ) (places : List ℕ) (d : Doing) (a : Alone) (i : Instr) → StandsFor r loads (place ∷ places) d a
      → instr_at r.code r.function place ≡ Some i → StepTold place places d a
  one_step place places d a i s at =
      let line = unwrap_or (line_at r.code r.function place) 0 in
      let wanted = wanted_of r.outcomes r.fails d i in
      let e = after_instr line wanted d i in
      let v = get_or a.values 0 (pos 0) in
      let does : next d place ≡ record e { steps = d.steps + 1 } = ap (λ o. stepped_by r d place o) at in
      let some : instr_of r.code a.local ≡ Some i = s.along.0 ∙ at in
      let goes : goes_on r.code a ≡ after_request a.local i a.values (request a.local i) =
      ap (λ o. option_map_or (λ j. after_request a.local j a.values (request a.local j)) o a) some in
      let left = after_is a.local i a.values in
      let on = step_goes r d place lawful s.ints s.sound in
      let counted : (next d place).loads ≡ d.loads + cond (is_load i) 1 0 = ap (λ x. x.loads) does ∙ loads_after line wanted d i in
      let up = loads_grow r places (next d place) in
      let takes : is_load i ≡ true → get_or loads d.loads (pos 0) ≡ v = λ is.
      let one : ◌≡◌ {A = ℕ} (cond (is_load i) 1 0) 1 = ap (λ b. cond b 1 0) is in
      let zero : d.loads + 0 ≡ d.loads = omega arith in
      ap (λ n. get_or loads n (pos 0)) (sym zero) ∙ s.takes 0 (omega (arith, up, counted, one)) in
      let t = told loads line wanted d i a.local v s.terms s.sound
      (instr_named r.code r.function place (length d.slots) i lawful at s.ints) (short_is r.code r.function place i lawful at)
      s.slots takes in
      let numbers = ints_next r.code a.local i lawful some in
      let int = there_int a.values 0 s.taken_ints in
      let k = asks loads line wanted d i a.local v s.terms s.sound (instr_named r.code r.function place (length d.slots) i lawful at s.ints) s.slots takes int
      (asks_ints a.local s.slot_ints i numbers) in
      let h = hands_over loads line wanted d i a.local s.terms s.sound (instr_named r.code r.function place (length d.slots) i lawful at s.ints) s.slots in
      record {
        stands = record {
          terms = subst (λ x. AreTerms x.nodes) (sym does) t.terms;
          sound = on.goes.sound;
          ints = omega (arith, s.ints, on.goes.size);
          slots = ap (λ x. x.local.slots) goes ∙ left.slots ∙ t.slots ∙ sym (ap (slots_by loads) does);
          along = s.along.1;
          takes = takes_next (is_load i) loads d.loads (next d place).loads (after (next d place) places).loads a.values (goes_on r.code a).values
              counted (ap (λ x. x.values) goes ∙ left.values) s.takes;
          slot_ints = subst (All IsInt) (sym (ap (λ x. x.local.slots) goes ∙ left.slots)) (after_int a.local s.slot_ints i v numbers int);
          taken_ints = subst (All IsInt) (sym (ap (λ x. x.values) goes ∙ left.values))
              (either (All IsInt) (is_load i) (drop 1 a.values) a.values (All-drop IsInt 1 a.values s.taken_ints) s.taken_ints);
        };
        test = t.test;
        tests = ap (λ x. x.tests) does ∙ t.tests;
        comes = λ later g. t.comes later (subst (λ x. Grows x.nodes later) does g)
            ∙ sym (ap (λ o. cons_option (option_and_then (condition a.local) o) []) some);
        hands = h.hands;
        creates = ap (λ x. x.creates) does ∙ h.creates;
        given = λ later g. h.given later (subst (λ x. Grows x.nodes later) does g) ∙ sym (ap (λ o. option_map_or (given_by a.local) o []) some);
        found = k.found;
        accesses = ap (λ x. x.accesses) does ∙ k.accesses;
        asked = λ later g. k.asked later (subst (λ x. Grows x.nodes later) does g)
            ∙ sym (ap (λ o. option_map_or (λ j. asked_by v (request a.local j)) o []) some);
      }

  step_told : (place : ℕ) (places : List ℕ) (d : Doing) (a : Alone) → StandsFor r loads (place ∷ places) d a → StepTold place places d a
  step_told place places d a s = by (instr_at r.code r.function place) refl
    where
      by : (o : Option Instr) → instr_at r.code r.function place ≡ o → StepTold place places d a
      by None at = no_step place places d a s at
      by (Some i) at = one_step place places d a i s at

  all_told : (places : List ℕ) (d : Doing) (a : Alone) → StandsFor r loads places d a → Tells r loads places d a
  all_told [] d a s = record {
    slots = s.slots;
    tests = sym (append-nil (map (outcome_by d.nodes loads) d.tests));
    creates = sym (append-nil (map (values_in d.nodes loads) d.creates));
    accesses = sym (append-nil (map (asked_in d.nodes loads) d.accesses));
  }
  all_told (place ∷ places) d a s =
      let t = step_told place places d a s in
      let e = next d place in
      let rest = all_told places e (goes_on r.code a) t.stands in
      let last = (after e places).nodes in
      let g : Grows e.nodes last = (all_go r e places lawful t.stands.ints t.stands.sound).grows in
      let come = outcome_by last loads in
      let later = outcomes_of r.code (length places) (goes_on r.code a) in
      let here = option_and_then (condition a.local) (instr_of r.code a.local) in
      record {
        slots = rest.slots;
        tests = rest.tests
            ∙ ap (λ xs. map come xs ++ later) t.tests
            ∙ ap (λ xs. xs ++ later) (map-append come d.tests t.test ∙ ap (λ xs. map come d.tests ++ xs) (t.comes last g))
            ∙ append_assoc (map come d.tests) (cons_option here []) later
            ∙ ap (λ xs. map come d.tests ++ xs) (cons_is here later);
        creates = rest.creates ∙ more (values_in last loads) d.creates t.hands e.creates (option_map_or (given_by a.local) (instr_of r.code a.local) [])
            (given_of r.code (length places) (goes_on r.code a)) t.creates (t.given last g);
        accesses = rest.accesses ∙ more (asked_in last loads) d.accesses t.found e.accesses
            (option_map_or (λ i. asked_by (get_or a.values 0 (pos 0)) (request a.local i)) (instr_of r.code a.local) [])
            (asked_of r.code (length places) (goes_on r.code a)) t.accesses (t.asked last g);
      }

pub tells : (r : Route) (loads : List ℤ) (places : List ℕ) (d : Doing) (a : Alone) → IsLawful r.code → StandsFor r loads places d a
    → Tells r loads places d a
tells r loads places d a lawful s = all_told r loads lawful places d a s
