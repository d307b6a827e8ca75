-- Values: their instructions are a block, and name and write only what they may.
use Rattle.std.proofs.Common.{
  ◌≡◌,
  ℕ,
  ◌+◌,
  ◌<◌,
  ◌≤◌,
  Bool,
  true,
  false,
  not,
  ◌&&◌,
  ◌||◌,
  IsTrue,
  nat_lt,
  nat_le,
  List,
  [],
  ◌∷◌,
  ◌++◌,
  length,
  Option,
  Some,
  None,
  pos,
  refl,
  ap,
  sym,
  subst,
  arith,
  length-append,
}
use Rattle.std.specs.List.{list_all}
use Rattle.std.specs.Option.{option_map_or}
use Rattle.std.specs.Prelude.{◌==◌}
use Rattle.std.proofs.lemmas.Bool.Decides.{nat_tests}
use Rattle.int_ops.specs.declared.arith.BinOp.{BinOp}
use Rattle.int_ops.specs.declared.arith.BinOp.TheVariants as binary
use Rattle.tc_code.specs.Expr as code_expr
use Rattle.tc_code.specs.Expr.{Expr, names_slots, names_slot}
use Rattle.tc_code.specs.declared.cell.Cell.TheVariants as cell
use Rattle.tc_code.specs.declared.instr.Instr.{Instr}
use Rattle.tc_code.specs.declared.instr.Instr.TheVariants.{Set, Load, Inside, Branch, Nonzero, InRange}
use Rattle.tc_code.specs.Code.{Code}
use Rattle.tc_code.specs.Lawful as lawful
use Rattle.tc_code.specs.Lawful.{takes, names_what_is, is_outside, is_array, keeps_apart, written, keeps}
use Rattle.tc_code.specs.declared.code.Func.{Func}
use Rattle.tc_tree.specs.declared.expression.Name.{Name}
use Rattle.tc_tree.specs.declared.expression.Operator.{Operator}
use Rattle.tc_tree.specs.declared.expression.Operator.TheVariants.{And}
use Rattle.tc_tree.specs.Grammar.{Expression, Number, Variable, Element, Paren, Unary, Binary}
use Rattle.tc_lower.specs.declared.things.Thing.{Thing}
use Rattle.tc_lower.specs.declared.things.Thing.TheVariants.{Cell, Array, Mutex, Condition, Function, Slot, Handle}
use Rattle.tc_lower.specs.Values.{Evaluated, variable, element, after, tested, over, isnt_zero, over_both, decided, undecided, choice, joined, evaluated}
use Rattle.tc_lower.proofs.Blocks.{Block, no_block, both_blocks, skipped, one_block, two_block, before_next}
use Rattle.tc_lower.proofs.Parts.{IsAt, at_left, at_right, at_first, at_next, all_append, all_weaker, both_true, first_true, second_true}

-- ---- tests

pub lt_true : (a b : ℕ) → a < b → IsTrue (nat_lt a b)
lt_true a b h = grind (arith, nat_tests, h)

pub le_true : (a b : ℕ) → a ≤ b → IsTrue (nat_le a b)
le_true a b h = grind (arith, nat_tests, h)

slot_more : (k n m : ℕ) → n ≤ m → IsTrue (nat_lt k n) → IsTrue (nat_lt k m)
slot_more k n m up h = grind (arith, nat_tests, up, h)

-- names that exist among some slots exist among more
pub names_more : (e : Expr) (n m : ℕ) → n ≤ m → IsTrue (names_slots n e) → IsTrue (names_slots m e)
names_more (code_expr.Number z) n m up h = refl
names_more (code_expr.Slot k) n m up h = slot_more k n m up h
names_more (code_expr.Unary op a) n m up h = names_more a n m up h
names_more (code_expr.Binary op a b) n m up h =
    both_true (names_slots m a) (names_slots m b) (names_more a n m up (first_true (names_slots n a) (names_slots n b) h))
    (names_more b n m up (second_true (names_slots n a) (names_slots n b) h))

other_slot : (j n k : ℕ) → n ≤ k → IsTrue (nat_lt j n) → (j == k) ≡ false
other_slot j n k up h = grind (arith, nat_tests, up, h)

neither : (a b : Bool) → a ≡ false → b ≡ false → (a || b) ≡ false
neither true b h g = h
neither false b h g = g

unnamed : (e : Expr) (n k : ℕ) → n ≤ k → IsTrue (names_slots n e) → names_slot k e ≡ false
unnamed (code_expr.Number z) n k up h = refl
unnamed (code_expr.Slot j) n k up h = other_slot j n k up h
unnamed (code_expr.Unary op a) n k up h = unnamed a n k up h
unnamed (code_expr.Binary op a b) n k up h =
    neither (names_slot k a) (names_slot k b) (unnamed a n k up (first_true (names_slots n a) (names_slots n b) h))
    (unnamed b n k up (second_true (names_slots n a) (names_slots n b) h))

-- whether an instruction writes no slot before the free ones
abbrev pub writes_from : ℕ → Instr → Bool
writes_from free i = option_map_or (λ k. nat_le free k) (written i) true

later_slot : (n m k : ℕ) → n ≤ m → IsTrue (nat_le m k) → IsTrue (nat_le n k)
later_slot n m k up h = grind (arith, nat_tests, up, h)

later_write : (n m : ℕ) (o : Option ℕ) → n ≤ m → IsTrue (option_map_or (λ k. nat_le m k) o true) → IsTrue (option_map_or (λ k. nat_le n k) o true)
later_write n m None up h = refl
later_write n m (Some k) up h = later_slot n m k up h

pub writes_more : (n m : ℕ) (i : Instr) → n ≤ m → IsTrue (writes_from m i) → IsTrue (writes_from n i)
writes_more n m i up h = later_write n m (written i) up h

low_enough : (n k : ℕ) → IsTrue (nat_le n k) → n ≤ k
low_enough n k h = grind (arith, nat_tests, h)

kept_write : (free : ℕ) (e : Expr) (o : Option ℕ) → IsTrue (names_slots free e) → IsTrue (option_map_or (λ k. nat_le free k) o true)
    → IsTrue (option_map_or (λ k. not (names_slot k e)) o true)
kept_write free e None named h = refl
kept_write free e (Some k) named h = ap not (unnamed e free k (low_enough free k h) named)

-- a write to free slots doesn't change an expression over the others
pub keeps_earlier : (free : ℕ) (e : Expr) (i : Instr) → IsTrue (names_slots free e) → IsTrue (writes_from free i) → IsTrue (keeps e i)
keeps_earlier free e i named h = kept_write free e (written i) named h

-- ---- places

pub block_at : (all : List Instr) (s s' e e' : ℕ) → s ≡ s' → e ≡ e' → Block all s e → Block all s' e'
block_at all s s' e e' low high b = subst (λ n. Block all s' n) high (subst (λ n. Block all n e) low b)

pub stands_at : (all : List Instr) (s s' : ℕ) (is : List Instr) → s ≡ s' → IsAt all s is → IsAt all s' is
stands_at all s s' is same h = subst (λ n. IsAt all n is) same h

-- ---- things

-- whether all that an instruction names exists and fits these arrays
abbrev pub names_apart : List lawful.Array → Code → Func → Instr → Bool
names_apart arrays code f i = keeps_apart arrays i && names_what_is code f i

-- a thing exists and fits these arrays
abbrev pub InBounds : List lawful.Array → Code → Func → ℕ → Thing → Type 0
InBounds arrays code f base (Cell c) = (c < length code.memory) × IsTrue (list_all (is_outside c) arrays)
InBounds arrays code f base (Array a len) = (a + len ≤ length code.memory) × IsTrue (is_array arrays a len)
InBounds arrays code f base (Mutex m) = m < code.mutexes
InBounds arrays code f base (Condition c) = c < code.conditions
InBounds arrays code f base (Function g n) = IsTrue (takes code g n)
InBounds arrays code f base (Slot k) = k < base
InBounds arrays code f base (Handle h) = h < f.handles

abbrev pub IfThere : List lawful.Array → Code → Func → ℕ → Option Thing → Type 0
IfThere arrays code f base (Some t) = InBounds arrays code f base t
IfThere arrays code f base None = Unit {0}

-- ---- values

pub record Sound (arrays : List lawful.Array) (code : Code) (f : Func) (at free : ℕ) (v : Evaluated) : Type 0 where
  pub grows : free ≤ v.free
  pub value : IsTrue (names_slots v.free v.value)
  pub named : v.free ≤ f.ints → IsTrue (list_all (names_apart arrays code f) v.instrs)
  pub fresh : IsTrue (list_all (writes_from free) v.instrs)
  pub block : (all : List Instr) → IsAt all at v.instrs → Block all at (at + length v.instrs)

-- a value without instructions
pub nothing_sound : (arrays : List lawful.Array) (code : Code) (f : Func) (at free : ℕ) (e : Expr) → IsTrue (names_slots free e)
    → Sound arrays code f at free (record { instrs = []; value = e; free = free })
nothing_sound arrays code f at free e named =
    let end : at ≡ at + 0 = omega arith in
    record {
      grows = omega arith;
      value = named;
      named = λ few. refl;
      fresh = refl;
      block = λ all h. block_at all at at at (at + 0) refl end (no_block all at);
    }

-- two values, one after the other
pub after_sound : (arrays : List lawful.Array) (code : Code) (f : Func) (at free : ℕ) (v w : Evaluated) → Sound arrays code f at free v
    → Sound arrays code f (at + length v.instrs) v.free w
    → Sound arrays code f at free (after v.instrs w)
after_sound arrays code f at free v w a b = record {
  grows = omega (arith, a.grows, b.grows);
  value = b.value;
  named = λ few. all_append (names_apart arrays code f) v.instrs w.instrs (a.named (omega (arith, few, b.grows))) (b.named few);
  fresh = all_append (writes_from free) v.instrs w.instrs a.fresh
      (all_weaker (writes_from v.free) (writes_from free) (λ i h. writes_more free v.free i a.grows h) w.instrs b.fresh);
  block = λ all h.
      let end : at + length v.instrs + length w.instrs ≡ at + length (v.instrs ++ w.instrs) = omega (arith, length-append v.instrs w.instrs) in
      block_at all at at (at + length v.instrs + length w.instrs) (at + length (v.instrs ++ w.instrs)) refl end
      (both_blocks all at (at + length v.instrs) (at + length v.instrs + length w.instrs) (a.block all (at_left all at v.instrs w.instrs h))
      (b.block all (at_right all at v.instrs w.instrs h)));
}

module _ (arrays : List lawful.Array) (code : Code) (f : Func) (base : ℕ) where
  pub variable_sound : (at free : ℕ) (o : Option Thing) → base ≤ free → IfThere arrays code f base o → Sound arrays code f at free (variable o free)
  variable_sound at free (Some (Slot k)) low there = nothing_sound arrays code f at free (code_expr.Slot k) (lt_true k free (omega (arith, low, there)))
  variable_sound at free (Some (Cell c)) low there = record {
    grows = omega arith;
    value = lt_true free (free + 1) (omega arith);
    named = λ few.
        both_true (list_all (is_outside c) arrays && (nat_lt free f.ints && nat_lt c (length code.memory))) true
        (both_true (list_all (is_outside c) arrays) (nat_lt free f.ints && nat_lt c (length code.memory)) there.1
        (both_true (nat_lt free f.ints) (nat_lt c (length code.memory)) (lt_true free f.ints (omega (arith, few))) (lt_true c (length code.memory) there.0)))
        refl;
    fresh = both_true (nat_le free free) true (le_true free free (omega arith)) refl;
    block = λ all h. one_block all at (Load free (cell.Fixed c)) (at_first all at (Load free (cell.Fixed c)) [] h) refl (λ k. tt);
  }
  variable_sound at free _ low there = nothing_sound arrays code f at free (code_expr.Number (pos 0)) refl

  element_sound : (at free : ℕ) (o : Option Thing) (e : Expr) → IfThere arrays code f base o → IsTrue (names_slots free e)
      → Sound arrays code f at free (element o e free)
  element_sound at free (Some (Array a len)) e there named = record {
    grows = omega arith;
    value = lt_true free (free + 1) (omega arith);
    named = λ few.
        let e_named : IsTrue (names_slots f.ints e) = names_more e free f.ints (omega (arith, few)) named in
        let there_is = nat_le (a + len) (length code.memory) && names_slots f.ints e in
        let load = nat_lt free f.ints && there_is in
        both_true (nat_le len (length code.memory) && names_slots f.ints e) ((is_array arrays a len && load) && true)
        (both_true (nat_le len (length code.memory)) (names_slots f.ints e) (le_true len (length code.memory) (omega (arith, there.0))) e_named)
        (both_true (is_array arrays a len && load) true
        (both_true (is_array arrays a len) load there.1
        (both_true (nat_lt free f.ints) there_is (lt_true free f.ints (omega (arith, few)))
        (both_true (nat_le (a + len) (length code.memory)) (names_slots f.ints e) (le_true (a + len) (length code.memory) there.0) e_named))) refl);
    fresh = both_true (nat_le free free) true (le_true free free (omega arith)) refl;
    block = λ all h.
        let load = Load free (cell.Element a len e) in
        two_block all at (Inside len e) load (at_first all at (Inside len e) (load ∷ []) h)
        (at_first all (at + 1) load [] (at_next all at (Inside len e) (load ∷ []) h)) refl (λ k. tt)
        (before_next all at (Inside len e) (at_first all at (Inside len e) (load ∷ []) h));
  }
  element_sound at free _ e there named = nothing_sound arrays code f at free e named

  nonzero_sound : (at free : ℕ) (q v : Expr) → IsTrue (names_slots free q) → IsTrue (names_slots free v)
      → Sound arrays code f at free (record { instrs = Nonzero q ∷ []; value = v; free = free })
  nonzero_sound at free q v q_named v_named = record {
    grows = omega arith;
    value = v_named;
    named = λ few. both_true (names_slots f.ints q) true (names_more q free f.ints few q_named) refl;
    fresh = refl;
    block = λ all h. one_block all at (Nonzero q) (at_first all at (Nonzero q) [] h) refl (λ k. tt);
  }

  in_range_sound : (at free : ℕ) (q v : Expr) → IsTrue (names_slots free q) → IsTrue (names_slots free v)
      → Sound arrays code f at free (record { instrs = InRange q ∷ []; value = v; free = free })
  in_range_sound at free q v q_named v_named = record {
    grows = omega arith;
    value = v_named;
    named = λ few. both_true (names_slots f.ints q) true (names_more q free f.ints few q_named) refl;
    fresh = refl;
    block = λ all h. one_block all at (InRange q) (at_first all at (InRange q) [] h) refl (λ k. tt);
  }

  -- one instruction that writes nothing and doesn't belong to another
  tests_sound : (at free : ℕ) (op : BinOp) (q v : Expr) → IsTrue (names_slots free q) → IsTrue (names_slots free v)
      → Sound arrays code f at free (record { instrs = tested op q; value = v; free = free })
  tests_sound at free binary.Div q v q_named v_named = nonzero_sound at free q v q_named v_named
  tests_sound at free binary.Rem q v q_named v_named = nonzero_sound at free q v q_named v_named
  tests_sound at free binary.Shl q v q_named v_named = in_range_sound at free q v q_named v_named
  tests_sound at free binary.Shr q v q_named v_named = in_range_sound at free q v q_named v_named
  tests_sound at free _ q v q_named v_named = nothing_sound arrays code f at free v v_named

  over_sound : (at free : ℕ) (op : BinOp) (p q : Evaluated) → Sound arrays code f at free p → Sound arrays code f (at + length p.instrs) p.free q
      → Sound arrays code f at free (over op p q)
  over_sound at free op p q a b =
      let first = after_sound arrays code f at free p q a b in
      let p_named : IsTrue (names_slots q.free p.value) = names_more p.value p.free q.free b.grows a.value in
      after_sound arrays code f at free (after p.instrs q)
      (record { instrs = tested op q.value; value = code_expr.Binary op p.value q.value; free = q.free }) first
      (tests_sound (at + length (p.instrs ++ q.instrs)) q.free op q.value (code_expr.Binary op p.value q.value) b.value
      (both_true (names_slots q.free p.value) (names_slots q.free q.value) p_named b.value))

  named_undecided : (op : Operator) (e : Expr) (n : ℕ) → IsTrue (names_slots n e) → IsTrue (names_slots n (undecided op e))
  named_undecided And e n h = h
  named_undecided _ e n h = h

  choice_sound : (at free : ℕ) (op : Operator) (p q : Evaluated) → Sound arrays code f at free p → Sound arrays code f (at + length p.instrs + 2) (p.free + 1) q
      → Sound arrays code f at free (choice op at p q)
  choice_sound at free op p q a b =
      let m = at + length p.instrs in
      let end = m + 2 + length q.instrs + 1 in
      let set_first = Set p.free (code_expr.Number (decided op)) in
      let branch = Branch (undecided op p.value) end in
      let set_last = Set p.free (isnt_zero q.value) in
      let two = set_first ∷ branch ∷ [] in
      let size : at + length (p.instrs ++ two ++ q.instrs ++ set_last ∷ []) ≡ end =
      omega (arith, length-append (p.instrs ++ two ++ q.instrs) (set_last ∷ []), length-append (p.instrs ++ two) q.instrs, length-append p.instrs two) in
      let q_place : at + length (p.instrs ++ two) ≡ m + 2 = omega (arith, length-append p.instrs two) in
      let last_place : at + length (p.instrs ++ two ++ q.instrs) ≡ m + 2 + length q.instrs =
      omega (arith, length-append (p.instrs ++ two) q.instrs, length-append p.instrs two) in
      record {
        grows = omega (arith, a.grows, b.grows);
        value = lt_true p.free q.free (omega (arith, b.grows));
        named = λ few.
            let slot : IsTrue (nat_lt p.free f.ints) = lt_true p.free f.ints (omega (arith, few, b.grows)) in
            let condition : IsTrue (names_slots f.ints (undecided op p.value)) =
            named_undecided op p.value f.ints (names_more p.value p.free f.ints (omega (arith, few, b.grows)) a.value) in
            let right : IsTrue (names_slots f.ints q.value) = names_more q.value q.free f.ints few b.value in
            all_append (names_apart arrays code f) (p.instrs ++ two ++ q.instrs) (set_last ∷ [])
            (all_append (names_apart arrays code f) (p.instrs ++ two) q.instrs
            (all_append (names_apart arrays code f) p.instrs two (a.named (omega (arith, few, b.grows)))
            (both_true (nat_lt p.free f.ints && true) (names_slots f.ints (undecided op p.value) && true) (both_true (nat_lt p.free f.ints) true slot refl)
            (both_true (names_slots f.ints (undecided op p.value)) true condition refl)))
            (b.named few))
            (both_true (nat_lt p.free f.ints && (names_slots f.ints q.value && true)) true
            (both_true (nat_lt p.free f.ints) (names_slots f.ints q.value && true) slot (both_true (names_slots f.ints q.value) true right refl)) refl);
        fresh =
            all_append (writes_from free) (p.instrs ++ two ++ q.instrs) (set_last ∷ [])
            (all_append (writes_from free) (p.instrs ++ two) q.instrs
            (all_append (writes_from free) p.instrs two a.fresh (both_true (nat_le free p.free) true (le_true free p.free a.grows) refl))
            (all_weaker (writes_from (p.free + 1)) (writes_from free) (λ i h. writes_more free (p.free + 1) i (omega (arith, a.grows)) h) q.instrs b.fresh))
            (both_true (nat_le free p.free) true (le_true free p.free a.grows) refl);
        block = λ all h.
            let h3 = at_left all at (p.instrs ++ two ++ q.instrs) (set_last ∷ []) h in
            let h2 = at_left all at (p.instrs ++ two) q.instrs h3 in
            let h1 = at_right all at p.instrs two h2 in
            let next = at_next all m set_first (branch ∷ []) h1 in
            let q_at : IsAt all (m + 2) q.instrs = stands_at all (at + length (p.instrs ++ two)) (m + 2) q.instrs q_place (at_right all at (p.instrs
            ++ two) q.instrs h3) in
            let last_at : IsAt all (m + 2 + length q.instrs) (set_last ∷ []) =
            stands_at all (at + length (p.instrs ++ two ++ q.instrs)) (m + 2 + length q.instrs) (set_last ∷ []) last_place
            (at_right all at (p.instrs ++ two ++ q.instrs) (set_last ∷ []) h) in
            let p_block : Block all at m = a.block all (at_left all at p.instrs two h2) in
            let set_block : Block all m (m + 1) = one_block all m set_first (at_first all m set_first (branch ∷ []) h1) refl (λ k. tt) in
            let last_block : Block all (m + 2 + length q.instrs) end =
            one_block all (m + 2 + length q.instrs) set_last (at_first all (m + 2 + length q.instrs) set_last [] last_at) refl (λ k. tt) in
            let right : Block all (m + 1 + 1) end =
            block_at all (m + 2) (m + 1 + 1) end end (omega arith) refl
            (both_blocks all (m + 2) (m + 2 + length q.instrs) end (b.block all q_at) last_block) in
            let skip : Block all (m + 1) end = skipped all (m + 1) end (undecided op p.value) (at_first all (m + 1) branch [] next) right in
            block_at all at at end (at + length (p.instrs ++ two ++ q.instrs ++ set_last ∷ [])) refl (sym size)
            (both_blocks all at m end p_block (both_blocks all m (m + 1) end set_block skip));
      }

  joined_sound : (at free : ℕ) (o : Option BinOp) (op : Operator) (p : Evaluated) (right : ℕ → ℕ → Evaluated) → Sound arrays code f at free p
      → ((place slot : ℕ) → free ≤ slot → Sound arrays code f place slot (right place slot)) → Sound arrays code f at free (joined o op at p right)
  joined_sound at free (Some o) op p right a b = over_sound at free o p (right (at + length p.instrs) p.free) a (b (at + length p.instrs) p.free a.grows)
  joined_sound at free None op p right a b =
      choice_sound at free op p (right (at + length p.instrs + 2) (p.free + 1)) a (b (at + length p.instrs + 2) (p.free + 1) (omega (arith, a.grows)))

  -- ---- in a scope of existing things

  module _ (scope : Name → Option Thing) (there : (x : Name) → IfThere arrays code f base (scope x)) where
    pub evaluated_sound : (at free : ℕ) (e : Expression) → base ≤ free → Sound arrays code f at free (evaluated scope at free e)
    evaluated_sound at free (Number n) low = nothing_sound arrays code f at free (code_expr.Number n.value) refl
    evaluated_sound at free (Variable x) low = variable_sound at free (scope x) low (there x)
    evaluated_sound at free (Element a i) low =
        let index = evaluated scope at free i in
        let s = evaluated_sound at free i low in
        after_sound arrays code f at free index (element (scope a) index.value index.free) s
        (element_sound (at + length index.instrs) index.free (scope a) index.value (there a) s.value)
    evaluated_sound at free (Paren e) low = evaluated_sound at free e low
    evaluated_sound at free (Unary op e) low =
        let s = evaluated_sound at free e low in
        record { grows = s.grows; value = s.value; named = s.named; fresh = s.fresh; block = s.block }
    evaluated_sound at free (Binary op a b) low =
        joined_sound at free (over_both op) op (evaluated scope at free a) (λ place slot. evaluated scope place slot b) (evaluated_sound at free a low)
        (λ place slot more. evaluated_sound place slot b (omega (arith, low, more)))
