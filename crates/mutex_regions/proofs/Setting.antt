-- Worlds in which all is in order for a mutex, and the accesses of its regions.
use Rattle.std.proofs.Common.{◌≡◌, ◌⊎◌, ℕ, ◌<◌, Bool, true, false, not, cond, ◌&&◌, ◌||◌, ◌==◌, ℤ, pos, List, [], ◌∷◌, ◌++◌, length, get_or, Option, Some, None, inl, inr, refl, ap, sym, subst, ◌∙◌, arith}
use Rattle.std.specs.Prelude.{IsSome, filter, fold, is_none, is_some, nat_lt, option_map}
use Rattle.std.specs.Bool.{beq}
use Rattle.std.specs.List.{All, Contains, list_any, reduce}
use Rattle.std.specs.Option.{option_map_or}
use Rattle.std.specs.Ordering.{int_eq}
use Rattle.std.proofs.lemmas.Bool.{and_from, and_parts, cases_eq, cases_order, eq-eqb, eqb-true, false≢true, lt-ltb, ltb-true, not-true, or_cases}
use Rattle.std.proofs.lemmas.Bool.Decides.{Decides-int_eq}
use Rattle.std.proofs.lemmas.List.Elements.{Contains-push_cases}
use Rattle.std.proofs.lemmas.Option.{same_Some}
use Rattle.int_ops.specs.Arith.{IsInt}
use Rattle.int_ops.proofs.Ints.{there_int, truth_int}
use Rattle.tc_code.specs.Code.{Code}
use Rattle.path_walk.specs.Paths.{Paths}
use Rattle.path_walk.specs.declared.event.Region.{Region}
use Rattle.sym_terms.specs.Values.{value_of}
use Rattle.sym_terms.specs.declared.node.Node.{Node}
use Rattle.sym_exec.specs.Executed.{Symbolic}
use Rattle.sym_exec.specs.Ints.{AreInts}
use Rattle.sym_exec.specs.declared.symbolic.Access.{Access}
use Rattle.sym_exec.specs.tc_code.declared.cell.Cell.{Cell}
use Rattle.sym_exec.specs.tc_code.declared.cell.Cell.TheVariants.{Fixed, Element}
use Rattle.sym_exec.proofs.Ints.{value_int}
use Rattle.order_formula.specs.Worlds.{World}
use Rattle.order_formula.proofs.Last.{IsGreatest, Picks, picks}
use Rattle.order_events.specs.lawful_order.Cells.{is_same_cell, value_at_start}
use Rattle.order_events.specs.lawful_order.Events.{HasRegion, Placed, place_of, number_of}
use Rattle.order_events.specs.lawful_order.Mutexes.{IsLeftBefore}
use Rattle.order_events.specs.lawful_order.Reads.{HasAccess, Sees, asks}
use Rattle.order_events.specs.lawful_order.Whole.{HasStep}
use Rattle.order_events.proofs.Numbers.{has_number, one_step}
use Rattle.read_write.specs.Accesses.{all_accesses}
use Rattle.read_write.proofs.Exact.{IsAbout}
use Rattle.read_write.proofs.Numbers.{access_in, access_of, one_access, one_position}
use Rattle.mutex_regions.specs.InOrder.{IsInOrder, IsRight, Uses}
use Rattle.mutex_regions.specs.Regions.{lies_in, regions_of}
use Rattle.mutex_regions.specs.States.{is_to, later, place, value_first, value_last, written}
use Rattle.mutex_regions.specs.Variables.{fits, guarded, is_among, is_guarded, is_proper, same_variable, variable_of, variables_of, with_variable}
use Rattle.mutex_regions.specs.declared.variables.Spot.{Spot}
use Rattle.mutex_regions.specs.declared.variables.Variable.{Variable}
use Rattle.mutex_regions.proofs.Distinct.{has_region}
use Rattle.mutex_regions.proofs.Lists.{filter_same, of_all, of_any}

-- ---- variables

same_flag : (x y : Bool) → beq x y ≡ true → x ≡ y
same_flag true true e = refl
same_flag true false e = absurd (false≢true e)
same_flag false true e = absurd (false≢true e)
same_flag false false e = refl

flag_same : (x : Bool) → beq x x ≡ true
flag_same true = refl
flag_same false = refl

pub same_parts : (v u : Variable) → same_variable v u ≡ true → (v.first ≡ u.first) × (v.is_array ≡ u.is_array)
same_parts v u e =
    let h = and_parts (v.first == u.first) (beq v.is_array u.is_array) e in
    (eqb-true v.first u.first h.0, same_flag v.is_array u.is_array h.1)

pub same_from : (v u : Variable) → v.first ≡ u.first → v.is_array ≡ u.is_array → same_variable v u ≡ true
same_from v u first array =
    and_from (v.first == u.first) (beq v.is_array u.is_array) (eq-eqb v.first u.first first)
    (subst (λ b. beq v.is_array b ≡ true) array (flag_same v.is_array))

pub same_back : (v u : Variable) → same_variable v u ≡ true → same_variable u v ≡ true
same_back v u e = let h = same_parts v u e in same_from u v (sym h.0) (sym h.1)

pub same_on : (v u x : Variable) → same_variable v u ≡ true → same_variable u x ≡ true → same_variable v x ≡ true
same_on v u x e f = let h = same_parts v u e in let k = same_parts u x f in same_from v x (h.0 ∙ k.0) (h.1 ∙ k.1)

-- each variable of a mutex is guarded
module _ (regions : List (Placed Region)) (accesses : List (Placed Access)) where
  abbrev AreGuarded : List Variable → Type 0
  AreGuarded vs = (v : Variable) → Contains vs v → is_guarded regions accesses v ≡ true

  one_more : (vs : List Variable) (a : Placed Access) → AreGuarded vs → AreGuarded (with_variable regions accesses vs a)
  one_more vs a before = by (is_some a.it.writes && (not (is_among vs u) && (is_guarded regions accesses u && fits vs u))) refl
    where
      u : Variable
      u = variable_of a.it.cell

      by : (b : Bool) → (is_some a.it.writes && (not (is_among vs u) && (is_guarded regions accesses u && fits vs u))) ≡ b
          → AreGuarded (cond b (vs ++ u ∷ []) vs)
      by false miss = before
      by true hit = λ v i. elim (Contains-push_cases vs u v i) [
        | inl old ↦ before v old
        | inr new ↦ subst (λ x. is_guarded regions accesses x ≡ true) new guards
      ]
        where
          guards : is_guarded regions accesses u ≡ true
          guards =
              let p = and_parts (is_some a.it.writes) (not (is_among vs u) && (is_guarded regions accesses u && fits vs u)) hit in
              let q = and_parts (not (is_among vs u)) (is_guarded regions accesses u && fits vs u) p.1 in
              (and_parts (is_guarded regions accesses u) (fits vs u) q.1).0

  all_guarded : (xs : List (Placed Access)) (vs : List Variable) → AreGuarded vs → AreGuarded (fold (with_variable regions accesses) vs xs)
  all_guarded [] vs before = before
  all_guarded (a ∷ xs) vs before = all_guarded xs (with_variable regions accesses vs a) (one_more vs a before)

  pub guarded_are : AreGuarded (variables_of regions accesses)
  guarded_are = all_guarded accesses [] (λ v i. absurd (omega (arith, i.1)))

-- the value of a cell at the start is an int
pub start_int : (code : Code) (s : Spot) → All IsInt code.memory → IsInt (cond s.variable.is_array (pos 0) (value_at_start code (Fixed s.variable.first)))
start_int code s memory = by s.variable.is_array
  where
    by : (b : Bool) → IsInt (cond b (pos 0) (value_at_start code (Fixed s.variable.first)))
    by true = truth_int false
    by false = there_int code.memory s.variable.first memory

-- ---- worlds

pub record Setting (code : Code) (paths : Paths) (symbolic : Symbolic) (nodes : List Node) (w : World) (m : ℕ) : Type 0 where
  pub about : IsAbout paths symbolic nodes w
  pub ints : AreInts nodes w.loads
  pub memory : All IsInt code.memory
  -- a thread's regions have different begins
  pub one : (r s : Placed Region) → Contains (regions_of paths m) r → Contains (regions_of paths m) s → r.thread ≡ s.thread → r.it.«from» ≡ s.it.«from» → r ≡ s
  pub order : IsInOrder code paths symbolic nodes w m

module _ (code : Code) (paths : Paths) (symbolic : Symbolic) (nodes : List Node) (w : World) (m : ℕ) (set : Setting code paths symbolic nodes w m) where
  abbrev pub accesses : List (Placed Access)
  accesses = all_accesses symbolic

  abbrev pub regions : List (Placed Region)
  regions = regions_of paths m

  abbrev pub variables : List Variable
  variables = guarded paths symbolic m

  abbrev pub at : Placed Access → ℕ
  at a = place code paths symbolic nodes w a

  abbrev pub begins : Placed Region → ℕ
  begins r = place_of paths w r.thread r.it.«from»

  abbrev pub Use : Placed Region → Placed Access → Type 0
  Use r a = Uses code paths symbolic nodes w m r a

  -- different accesses have different positions
  step_of : (a : Placed Access) → Contains accesses a → HasStep paths a.thread a.it.step
  step_of a i = let e = set.about.executed.accesses a.thread a.it (access_of symbolic a i) in (e.0, e.1, e.2)

  inside : (a : Placed Access) → Contains accesses a → number_of paths a.thread a.it.step < length w.positions
  inside a i = omega (arith, has_number paths a.thread a.it.step (step_of a i), set.about.of.events)

  same_access : (a b : Placed Access) → a.thread ≡ b.thread → a.it ≡ b.it → a ≡ b
  same_access a b t x = ap (λ k. record { thread = k; it = a.it }) t ∙ ap (λ (y : Access). record { thread = b.thread; it = y }) x

  pub one_of_steps : (a b : Placed Access) → Contains accesses a → Contains accesses b → a.thread ≡ b.thread → a.it.step ≡ b.it.step → a ≡ b
  one_of_steps a b i j t k =
      same_access a b t
      (one_access paths symbolic b.thread a.it b.it set.about.executed (subst (λ n. HasAccess symbolic n a.it) t (access_of symbolic a i)) (access_of symbolic b j) k)

  pub one_of_places : (a b : Placed Access) → Contains accesses a → Contains accesses b → at a ≡ at b → a ≡ b
  one_of_places a b i j same =
      let number = one_position w (number_of paths a.thread a.it.step) (number_of paths b.thread b.it.step) set.about.world (inside a i) (inside b j) same in
      let h = one_step paths a.thread a.it.step b.thread b.it.step (step_of a i) number in
      one_of_steps a b i j h.0 h.1

  -- ---- regions

  region_of : (r : Placed Region) → Contains regions r → HasRegion paths r.thread r.it × (r.it.mutex ≡ m)
  region_of r i = has_region paths m r i

  left_first : (r s : Placed Region) → Contains regions r → Contains regions s → (r ≡ s → ⊥)
      → IsLeftBefore paths w r.thread r.it s.thread s.it ⊎ IsLeftBefore paths w s.thread s.it r.thread r.it
  left_first r s i j differ =
      let p = region_of r i in
      let q = region_of s j in
      set.order.apart.exclusive r.thread s.thread r.it s.it p.0 q.0 p.1 q.1 (differs (cases_eq r.thread s.thread))
    where
      differs : (r.thread ≡ s.thread) ⊎ (r.thread ≡ s.thread → ⊥) → (r.thread ≡ s.thread → ⊥) ⊎ (r.it.«from» ≡ s.it.«from» → ⊥)
      differs (inl t) = inr (λ k. differ (set.one r s i j t k))
      differs (inr t) = inl t

  pub same_or_apart : (r s : Placed Region) → Contains regions r → Contains regions s
      → (r ≡ s) ⊎ (IsLeftBefore paths w r.thread r.it s.thread s.it ⊎ IsLeftBefore paths w s.thread s.it r.thread r.it)
  same_or_apart r s i j = by (cases_eq r.thread s.thread) (cases_eq r.it.«from» s.it.«from»)
    where
      by : (r.thread ≡ s.thread) ⊎ (r.thread ≡ s.thread → ⊥) → (r.it.«from» ≡ s.it.«from») ⊎ (r.it.«from» ≡ s.it.«from» → ⊥)
          → (r ≡ s) ⊎ (IsLeftBefore paths w r.thread r.it s.thread s.it ⊎ IsLeftBefore paths w s.thread s.it r.thread r.it)
      by (inl t) (inl k) = inl (set.one r s i j t k)
      by (inr t) k = inr (left_first r s i j (λ e. t (ap (λ (x : Placed Region). x.thread) e)))
      by (inl t) (inr k) = inr (left_first r s i j (λ e. k (ap (λ (x : Placed Region). x.it.«from») e)))

  -- ---- accesses of the mutex's variables

  -- a write to a variable of the mutex lies in one of its regions
  pub in_region : (a : Placed Access) → Contains accesses a → IsSome a.it.writes → is_among variables (variable_of a.it.cell) ≡ true → (r : Placed Region) × Use r a
  in_region a i writes among =
      let v = of_any (same_variable (variable_of a.it.cell)) variables among in
      let proper = of_all (is_proper regions v.0) accesses a (guarded_are regions accesses v.0 v.1) i in
      let r = of_any (λ r. lies_in r a) regions (lies v.0 (same_back (variable_of a.it.cell) v.0 v.2) proper) in
      (r.0, record { region = r.1; access = i; used = and_from (lies_in r.0 a) (is_among variables (variable_of a.it.cell)) r.2 among })
    where
      some_none : (o : Option ℕ) → IsSome o → is_none o ≡ true → ⊥
      some_none None is none = false≢true is
      some_none (Some x) is none = false≢true none

      lies : (v : Variable) → same_variable v (variable_of a.it.cell) ≡ true → is_proper regions v a ≡ true → list_any (λ r. lies_in r a) regions ≡ true
      lies v same proper =
          let u = variable_of a.it.cell in
          let rest = is_none a.it.writes || list_any (λ r. lies_in r a) regions in
          elim (or_cases (not (same_variable v u)) (v.cells == u.cells && rest) proper) [
            | inl other ↦ absurd (false≢true (sym (not-true (same_variable v u) other) ∙ same))
            | inr own ↦ elim (or_cases (is_none a.it.writes) (list_any (λ r. lies_in r a) regions) (and_parts (v.cells == u.cells) rest own).1) [
              | inl none ↦ absurd (some_none a.it.writes writes none)
              | inr some ↦ some
            ]
          ]

  -- a variable of the mutex has the length that accesses to it have
  pub length_of : (v : Variable) (a : Placed Access) → Contains variables v → Contains accesses a → same_variable v (variable_of a.it.cell) ≡ true
      → v.cells ≡ (variable_of a.it.cell).cells
  length_of v a i j same =
      let u = variable_of a.it.cell in
      let rest = is_none a.it.writes || list_any (λ r. lies_in r a) regions in
      elim (or_cases (not (same_variable v u)) (v.cells == u.cells && rest) (of_all (is_proper regions v) accesses a (guarded_are regions accesses v i) j)) [
        | inl other ↦ absurd (false≢true (sym (not-true (same_variable v u) other) ∙ same))
        | inr own ↦ eqb-true v.cells u.cells (and_parts (v.cells == u.cells) rest own).0
      ]

  -- the steps of an access that lies in a region
  pub record Lies (r : Placed Region) (a : Placed Access) : Type 0 where
    pub thread : a.thread ≡ r.thread
    pub after : r.it.«from» < a.it.step
    pub before : (k : ℕ) → r.it.to ≡ Some k → a.it.step < k

  pub lies : (r : Placed Region) (a : Placed Access) → lies_in r a ≡ true → Lies r a
  lies r a h =
      let p = and_parts (a.thread == r.thread) (nat_lt r.it.«from» a.it.step && option_map_or (nat_lt a.it.step) r.it.to true) h in
      let q = and_parts (nat_lt r.it.«from» a.it.step) (option_map_or (nat_lt a.it.step) r.it.to true) p.1 in
      record {
        thread = eqb-true a.thread r.thread p.0;
        after = ltb-true r.it.«from» a.it.step q.0;
        before = λ k to. ltb-true a.it.step k (subst (λ o. option_map_or (nat_lt a.it.step) o true ≡ true) to q.1);
      }

  pub lies_from : (r : Placed Region) (a : Placed Access) → Lies r a → lies_in r a ≡ true
  lies_from r a l =
      and_from (a.thread == r.thread) (nat_lt r.it.«from» a.it.step && option_map_or (nat_lt a.it.step) r.it.to true) (eq-eqb a.thread r.thread l.thread)
      (and_from (nat_lt r.it.«from» a.it.step) (option_map_or (nat_lt a.it.step) r.it.to true) (lt-ltb r.it.«from» a.it.step l.after) (ends r.it.to l.before))
    where
      ends : (o : Option ℕ) → ((k : ℕ) → o ≡ Some k → a.it.step < k) → option_map_or (nat_lt a.it.step) o true ≡ true
      ends None before = refl
      ends (Some k) before = lt-ltb a.it.step k (before k refl)

  pub use_parts : (r : Placed Region) (a : Placed Access) → Use r a → Lies r a × (is_among variables (variable_of a.it.cell) ≡ true)
  use_parts r a u = let p = and_parts (lies_in r a) (is_among variables (variable_of a.it.cell)) u.used in (lies r a p.0, p.1)

  -- an access of a region left before another comes before the other's begin, and so before its accesses
  pub comes_before : (r s : Placed Region) (a : Placed Access) → Use r a → IsLeftBefore paths w r.thread r.it s.thread s.it → at a < begins s
  comes_before r s a u left = omega (arith, set.order.ended r a left.0 u left.1, left.2)

  -- and a thread's later regions have later steps
  pub steps_rise : (r s : Placed Region) (a b : Placed Access) → Use r a → Use s b → IsLeftBefore paths w r.thread r.it s.thread s.it → a.thread ≡ b.thread
      → b.it.step < a.it.step → ⊥
  steps_rise r s a b u v left same back =
      let k = left.0 in
      let p = use_parts r a u in
      let q = use_parts s b v in
      let one : r.thread ≡ s.thread = sym p.0.thread ∙ same ∙ q.0.thread in
      let forward = set.order.forward r k u.region left.1 in
      elim (cases_order r.it.«from» s.it.«from») [
        | inl from ↦
            let e : r ≡ s = set.one r s u.region v.region one from in
            let here : begins r ≡ begins s = ap (λ (x : Placed Region). begins x) e in
            omega (arith, here, forward, left.2)
        | inr (inl from) ↦
            let inner : Use r b = record {
              region = u.region;
              access = v.access;
              used = and_from (lies_in r b) (is_among variables (variable_of b.it.cell))
                  (lies_from r b (record { thread = q.0.thread ∙ sym one; after = omega (arith, from, q.0.after); before = λ j to. omega (arith, back, p.0.before j to) })) q.1;
            } in
            omega (arith, set.order.ended r b k inner left.1, left.2, set.order.begun s b v)
        | inr (inr from) ↦ omega (arith, set.order.rise s r v.region u.region (sym one) from, forward, left.2)
      ]

  -- ---- cells

  abbrev pub to : Spot → Cell ℕ → Bool
  to s c = is_to code paths symbolic nodes w s c

  abbrev pub Value : ℕ → ℤ
  Value i = value_of nodes w.loads i

  -- the parts of "an access is to this cell"
  pub record IsElement (s : Spot) (f i : ℕ) : Type 0 where
    pub array : s.variable.is_array ≡ true
    pub first : s.variable.first ≡ f
    pub index : Value i ≡ pos s.index

  pub element : (s : Spot) (f n i : ℕ) → to s (Element f n i) ≡ true → IsElement s f i
  element s f n i h =
      let p = and_parts s.variable.is_array (s.variable.first == f && int_eq (Value i) (pos s.index)) h in
      let q = and_parts (s.variable.first == f) (int_eq (Value i) (pos s.index)) p.1 in
      record { array = p.0; first = eqb-true s.variable.first f q.0; index = (Decides-int_eq (Value i) (pos s.index)).0 q.1 }

  pub element_from : (s : Spot) (f n i : ℕ) → IsElement s f i → to s (Element f n i) ≡ true
  element_from s f n i e =
      and_from s.variable.is_array (s.variable.first == f && int_eq (Value i) (pos s.index)) e.array
      (and_from (s.variable.first == f) (int_eq (Value i) (pos s.index)) (eq-eqb s.variable.first f e.first) ((Decides-int_eq (Value i) (pos s.index)).1 e.index))

  pub fixed : (s : Spot) (c : ℕ) → to s (Fixed c) ≡ true → (s.variable.is_array ≡ false) × (s.variable.first ≡ c)
  fixed s c h =
      let p = and_parts (not s.variable.is_array) (s.variable.first == c) h in
      (not-true s.variable.is_array p.0, eqb-true s.variable.first c p.1)

  pub fixed_from : (s : Spot) (c : ℕ) → s.variable.is_array ≡ false → s.variable.first ≡ c → to s (Fixed c) ≡ true
  fixed_from s c array first =
      and_from (not s.variable.is_array) (s.variable.first == c) (ap not array) (eq-eqb s.variable.first c first)

  -- cells are the same if both are this one, and if one is this one, so is the same
  pub both_to : (s : Spot) (c d : Cell ℕ) → to s c ≡ true → to s d ≡ true → is_same_cell nodes w c d ≡ true
  both_to s (Fixed c) (Fixed d) h k = eq-eqb c d (sym (fixed s c h).1 ∙ (fixed s d k).1)
  both_to s (Element f m' i) (Element g n j) h k =
      let p = element s f m' i h in
      let q = element s g n j k in
      and_from (f == g) (int_eq (Value i) (Value j)) (eq-eqb f g (sym p.first ∙ q.first)) ((Decides-int_eq (Value i) (Value j)).1 (p.index ∙ sym q.index))
  both_to s (Fixed c) (Element g n j) h k = absurd (false≢true (sym (fixed s c h).0 ∙ (element s g n j k).array))
  both_to s (Element f m' i) (Fixed d) h k = absurd (false≢true (sym (fixed s d k).0 ∙ (element s f m' i h).array))

  pub to_same : (s : Spot) (c d : Cell ℕ) → to s d ≡ true → is_same_cell nodes w c d ≡ true → to s c ≡ true
  to_same s (Fixed c) (Fixed d) k same = let q = fixed s d k in fixed_from s c q.0 (q.1 ∙ sym (eqb-true c d same))
  to_same s (Element f m' i) (Element g n j) k same =
      let q = element s g n j k in
      let p = and_parts (f == g) (int_eq (Value i) (Value j)) same in
      element_from s f m' i
      (record { array = q.array; first = q.first ∙ sym (eqb-true f g p.0); index = (Decides-int_eq (Value i) (Value j)).0 p.1 ∙ q.index })
  to_same s (Fixed c) (Element g n j) k same = absurd (false≢true same)
  to_same s (Element f m' i) (Fixed d) k same = absurd (false≢true same)

  -- the variable of an access to this cell
  pub same_of : (s : Spot) (c : Cell ℕ) → to s c ≡ true → same_variable s.variable (variable_of c) ≡ true
  same_of s (Fixed c) h = let p = fixed s c h in same_from s.variable (variable_of (Fixed c)) p.1 p.0
  same_of s (Element f n i) h = let p = element s f n i h in same_from s.variable (variable_of (Element f n i)) p.first p.array

  -- ---- values

  abbrev pub wrote : Placed Access → ℤ
  wrote a = written code paths symbolic nodes w a

  abbrev pub at_first : Spot → ℤ
  at_first s = value_first code paths symbolic nodes w s

  abbrev pub last : (Placed Access → Bool) → Spot → ℤ
  last is s = value_last code paths symbolic nodes w is s

  -- no access passes, and the value is that at the start; or the last that passes wrote it
  abbrev pub Last : (Placed Access → Bool) → Spot → Type 0
  Last is s =
      (((d : Placed Access) → Contains accesses d → is d ≡ false) × (last is s ≡ at_first s))
      ⊎ ((a : Placed Access) × IsGreatest at is accesses a × (last is s ≡ wrote a))

  pub last_is : (is : Placed Access → Bool) (s : Spot) → Last is s
  last_is is s = by (reduce (later code paths symbolic nodes w) (filter is accesses)) refl (picks at is accesses)
    where
      by : (o : Option (Placed Access)) → reduce (later code paths symbolic nodes w) (filter is accesses) ≡ o → Picks at is accesses o → Last is s
      by None e none = inl (none, ap (λ x. option_map_or wrote x (at_first s)) e)
      by (Some a) e g = inr (a, g, ap (λ x. option_map_or wrote x (at_first s)) e)

  pub last_same : (is js : Placed Access → Bool) (s : Spot) → ((d : Placed Access) → Contains accesses d → is d ≡ js d) → last is s ≡ last js s
  last_same is js s same =
      ap (λ ds. option_map_or wrote (reduce (later code paths symbolic nodes w) ds) (at_first s)) (filter_same is js accesses same)

  -- the last of several that pass
  pub last_one : (is : Placed Access → Bool) (s : Spot) (a : Placed Access) → IsGreatest at is accesses a → last is s ≡ wrote a
  last_one is s a g = elim (last_is is s) [
    | inl o ↦ absurd (false≢true (sym (o.0 a g.among) ∙ g.passes))
    | inr o ↦
        let same : o.0 ≡ a = one_of_places o.0 a o.1.among g.among
        (let e : at o.0 ≡ at a = omega (arith, g.greatest o.0 o.1.among o.1.passes, o.1.greatest a g.among g.passes) in e) in
        o.2 ∙ ap wrote same
  ]

  -- all of these values are ints
  wrote_int : (a : Placed Access) → IsInt (wrote a)
  wrote_int a = by a.it.writes
    where
      by : (o : Option ℕ) → IsInt (option_map_or (value_of nodes w.loads) o (pos 0))
      by None = truth_int false
      by (Some t) = value_int nodes w.loads set.ints t

  first_int : (s : Spot) → IsInt (at_first s)
  first_int s = start_int code s set.memory

  pub last_int : (is : Placed Access → Bool) (s : Spot) → IsInt (last is s)
  last_int is s = elim (last_is is s) [
    | inl o ↦ subst IsInt (sym o.1) (first_int s)
    | inr o ↦ subst IsInt (sym o.2) (wrote_int o.0)
  ]

  -- the value at the start of the cell of an access
  pub first_of : (s : Spot) (c : Cell ℕ) → to s c ≡ true → at_first s ≡ value_at_start code c
  first_of s (Fixed c) h =
      let p = fixed s c h in
      ap (λ b. cond b (pos 0) (get_or code.memory s.variable.first (pos 0))) p.0 ∙ ap (λ k. get_or code.memory k (pos 0)) p.1
  first_of s (Element f n i) h = ap (λ b. cond b (pos 0) (get_or code.memory s.variable.first (pos 0))) (element s f n i h).array

  -- ---- loads

  abbrev pub SeenBy : Placed Access → Placed Access → Type 0
  SeenBy a b = Sees code paths symbolic nodes w a.thread a.it b.thread b.it

  takes_is : (a : Placed Access) (l : ℕ) → a.it.takes ≡ Some l → (asks code paths symbolic nodes w a.it).takes ≡ Some (get_or w.loads l (pos 0))
  takes_is a l is = ap (option_map (λ k. get_or w.loads k (pos 0))) is

  writes_is : (a : Placed Access) → IsSome (asks code paths symbolic nodes w a.it).writes → (asks code paths symbolic nodes w a.it).writes ≡ Some (wrote a)
  writes_is a some = by a.it.writes some
    where
      by : (o : Option ℕ) → IsSome (option_map (value_of nodes w.loads) o)
          → option_map (value_of nodes w.loads) o ≡ Some (option_map_or (value_of nodes w.loads) o (pos 0))
      by None is = absurd (false≢true is)
      by (Some t) is = refl

  -- a right load takes the last of the writes that it sees
  pub takes_last : (a : Placed Access) (l : ℕ) (s : Spot) (is : Placed Access → Bool) → a.it.takes ≡ Some l → IsRight code paths symbolic nodes w m a
      → to s a.it.cell ≡ true → ((d : Placed Access) → Contains accesses d → is d ≡ true → SeenBy a d)
      → ((d : Placed Access) → Contains accesses d → SeenBy a d → is d ≡ true) → get_or w.loads l (pos 0) ≡ last is s
  takes_last a l s is takes right own sees seen = by right (last_is is s)
    where
      there : (u : ℕ) (b : Access) → Sees code paths symbolic nodes w a.thread a.it u b → Contains accesses (record { thread = u; it = b })
      there u b x = access_in symbolic u b x.there

      by : IsRight code paths symbolic nodes w m a → Last is s → get_or w.loads l (pos 0) ≡ last is s
      by (inl (u, b, from)) (inl (none, value)) =
          absurd (false≢true (sym (none (record { thread = u; it = b }) (there u b from.sees)) ∙ seen (record { thread = u; it = b }) (there u b from.sees) from.sees))
      by (inl (u, b, from)) (inr (x, g, value)) =
          let y : Placed Access = record { thread = u; it = b } in
          let i = there u b from.sees in
          let up = g.greatest y i (seen y i from.sees) in
          let same : x ≡ y = elim (from.last x.thread x.it (sees x g.among g.passes)) [
            | inl one ↦ same_access x y one.0 one.1
            | inr less ↦ absurd (omega (arith, less, up))
          ] in
          same_Some (get_or w.loads l (pos 0)) (wrote y) (sym (takes_is a l takes) ∙ from.takes ∙ writes_is y from.sees.writes)
          ∙ ap wrote (sym same) ∙ sym value
      by (inr first) (inl (none, value)) =
          same_Some (get_or w.loads l (pos 0)) (value_at_start code a.it.cell) (sym (takes_is a l takes) ∙ first.takes)
          ∙ sym (first_of s a.it.cell own) ∙ sym value
      by (inr first) (inr (x, g, value)) = absurd (first.sees x.thread x.it (sees x g.among g.passes))
