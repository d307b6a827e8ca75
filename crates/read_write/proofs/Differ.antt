-- The events of a conjunct are all different, since accesses differ in thread or step.
use Rattle.std.proofs.Common.{◌≡◌, ◌∙◌, ℕ, ◌+◌, ◌<◌, ◌==◌, Bool, true, false, List, [], ◌∷◌, ◌++◌, map, Option, Some, None, refl, sym, ap, subst, arith}
use Rattle.std.specs.Prelude.{slice_get, suc, not, unwrap_or}
use Rattle.std.specs.List.{Contains, IsDistinct, cons_option, filter_map}
use Rattle.std.proofs.lemmas.Bool.{true≢false, and_parts, ne_eqb, not-true}
use Rattle.std.proofs.lemmas.List.Elements.{All-append, All-contains, All-from_recursion, recursion_from_All}
use Rattle.std.proofs.lemmas.Map.Keys.{IsDistinct-head, IsDistinct-tail, IsDistinct-cons, IsDistinct-from_apart}
use Rattle.tc_code.specs.Code.{Code}
use Rattle.path_walk.specs.Paths.{Paths}
use Rattle.sym_terms.specs.declared.node.Node.{Node}
use Rattle.sym_exec.specs.Executed.{Course, Symbolic}
use Rattle.sym_exec.specs.declared.symbolic.Access.{Access}
use Rattle.order_formula.specs.declared.formula.Body.TheVariants as body
use Rattle.order_formula.specs.declared.formula.Conjunct.{Conjunct}
use Rattle.order_formula.specs.declared.read.Candidate.{Candidate}
use Rattle.order_formula.specs.Reads.{Read}
use Rattle.order_cells.specs.lawful_order.Events.{Placed, all_events, all_from, number_of}
use Rattle.order_cells.specs.lawful_order.Whole.{HasStep, IsExecutedBy}
use Rattle.order_cells.specs.Same.{known_same}
use Rattle.order_events.proofs.Lists.{in_at, in_front, in_back, of_map, of_filter_map}
use Rattle.order_events.proofs.Numbers.{of_all_from, one_step}
use Rattle.order_events.proofs.Parts.{each_in}
use Rattle.read_write.specs.Accesses.{all_accesses, is_one}
use Rattle.read_write.specs.Reading.{candidate_of, read_formula, read_of}
use Rattle.read_write.proofs.Candidates.{candidate_parts}
use Rattle.read_write.proofs.Formulas.{load_from}
use Rattle.read_write.proofs.Numbers.{access_of}

-- ---- lists without two equal elements

distinct_none : {X : Type 0} (e : X → X → Bool) → IsDistinct e []
distinct_none e = IsDistinct-from_apart e [] (λ i j d less within. absurd (omega (arith, within)))

-- one more element, which differs from each
distinct_more : {X : Type 0} (e : X → X → Bool) (x : X) (xs : List X) → ((y : X) → Contains xs y → e x y ≡ false) → IsDistinct e xs → IsDistinct e (x ∷ xs)
distinct_more e x xs differs d =
    IsDistinct-cons e x xs (recursion_from_All (λ y. e x y ≡ false) xs (each_in (λ y. e x y ≡ false) xs differs)) d

-- two lists, where no element of the one is equal to one of the other
distinct_both : {X : Type 0} (e : X → X → Bool) (xs ys : List X) → IsDistinct e xs → IsDistinct e ys
    → ((x y : X) → Contains xs x → Contains ys y → e x y ≡ false) → IsDistinct e (xs ++ ys)
distinct_both e [] ys one two differ = two
distinct_both {X} e (x ∷ xs) ys one two differ =
    let Differs = λ (y : X). e x y ≡ false in
    IsDistinct-cons e x (xs ++ ys) (recursion_from_All Differs (xs ++ ys)
    (All-append Differs xs ys (All-from_recursion Differs xs (IsDistinct-head e x xs one)) (each_in Differs ys (λ y i. differ x y (in_front x xs) i))))
    (distinct_both e xs ys (IsDistinct-tail e x xs one) two (λ z y i j. differ z y (in_back z x xs i) j))

-- the results of two different elements have different keys
abbrev KeysDiffer : {X Y : Type 0} → (X → X → Bool) → (X → Option Y) → (Y → ℕ) → List X → Type 0
KeysDiffer {X} {Y} e h key xs =
    (a b : X) (y z : Y) → Contains xs a → Contains xs b → e a b ≡ false → h a ≡ Some y → h b ≡ Some z → (key y == key z) ≡ false

distinct_keys : {X Y : Type 0} (e : X → X → Bool) (h : X → Option Y) (key : Y → ℕ) (xs : List X) → IsDistinct e xs → KeysDiffer e h key xs
    → IsDistinct (λ m n. m == n) (map key (filter_map h xs))
distinct_keys e h key [] d differ = distinct_none (λ m n. m == n)
distinct_keys {X} {Y} e h key (x ∷ xs) d differ =
    by (h x) refl (distinct_keys e h key xs (IsDistinct-tail e x xs d) (λ a b y z i j. differ a b y z (in_back a x xs i) (in_back b x xs j)))
  where
    apart : (a : X) → Contains xs a → e x a ≡ false
    apart a i = All-contains (λ y. e x y ≡ false) xs a (All-from_recursion (λ y. e x y ≡ false) xs (IsDistinct-head e x xs d)) i

    by : (o : Option Y) → h x ≡ o → IsDistinct (λ m n. m == n) (map key (filter_map h xs)) → IsDistinct (λ m n. m == n) (map key (cons_option o (filter_map h xs)))
    by None is rest = rest
    by (Some y) is rest = distinct_more (λ m n. m == n) (key y) (map key (filter_map h xs)) (λ n i.
        let o = of_map key n (filter_map h xs) i in
        let g = of_filter_map h o.0 xs o.1 in
        subst (λ m. (key y == m) ≡ false) o.2
        (differ x g.0 y o.0 (in_front x xs) (in_back g.0 x xs g.1) (apart g.0 g.1) is g.2)) rest

-- a list along which a key rises
distinct_rising : {X Y : Type 0} (e : Y → Y → Bool) (f : X → Y) (key : X → ℕ) (xs : List X)
    → ((j k : ℕ) (a b : X) → slice_get xs j ≡ Some a → slice_get xs k ≡ Some b → j < k → key a < key b)
    → ((a b : X) → key a < key b → e (f a) (f b) ≡ false) → IsDistinct e (map f xs)
distinct_rising e f key [] rise differ = distinct_none e
distinct_rising {X} {Y} e f key (x ∷ xs) rise differ =
    distinct_more e (f x) (map f xs) (λ y i.
    let o = of_map f y xs i in
    let at = in_at xs o.0 o.1 in
    subst (λ z. e (f x) z ≡ false) o.2 (differ x o.0 (rise 0 (suc at.0) x o.0 refl at.1 (omega arith))))
    (distinct_rising e f key xs (λ j k a b p q less. rise (suc j) (suc k) a b p q (omega (arith, less))) differ)

-- ---- accesses

other_thread : (a b : Placed Access) → a.thread < b.thread → is_one a b ≡ false
other_thread a b less = grind (arith, less)

other_step : (a b : Placed Access) → a.it.step < b.it.step → is_one a b ≡ false
other_step a b less = grind (arith, less)

is_same : (a b : Placed Access) → a.thread ≡ b.thread → a.it.step ≡ b.it.step → is_one a b ≡ true
is_same a b thread step = grind (arith, thread, step)

-- the steps of accesses rise along each course
abbrev Rise : List Course → Type 0
Rise cs = (t j k : ℕ) (c : Course) (a b : Access) → slice_get cs t ≡ Some c → slice_get c.accesses j ≡ Some a → slice_get c.accesses k ≡ Some b → j < k
    → a.step < b.step

courses_differ : (t : ℕ) (cs : List Course) → Rise cs → IsDistinct is_one (all_from (λ c. c.accesses) t cs)
courses_differ t [] rise = distinct_none is_one
courses_differ t (c ∷ cs) rise =
    let own : Access → Placed Access = λ a. record { thread = t; it = a } in
    distinct_both is_one (map own c.accesses) (all_from (λ (d : Course). d.accesses) (t + 1) cs)
    (distinct_rising is_one own (λ a. a.step) c.accesses (λ j k a b p q less. rise 0 j k c a b refl p q less)
    (λ a b less. other_step (own a) (own b) less))
    (courses_differ (t + 1) cs (λ u j k d a b at p q less. rise (suc u) j k d a b at p q less))
    (λ a b i j.
    let o = of_map own a c.accesses i in
    let r = of_all_from (λ (d : Course). d.accesses) (t + 1) cs b j in
    other_thread a b (omega (arith, ap (λ (x : Placed Access). x.thread) o.2, r.thread)))

-- ---- the events of a read

module _ (code : Code) (paths : Paths) (symbolic : Symbolic) (nodes : List Node) (executed : IsExecutedBy paths symbolic) where
  accesses_differ : IsDistinct is_one (all_accesses symbolic)
  accesses_differ = courses_differ 0 symbolic.threads executed.rise

  -- the numbers of two accesses
  numbers_differ : (a b : Placed Access) → Contains (all_accesses symbolic) a → is_one a b ≡ false
      → (number_of paths a.thread a.it.step == number_of paths b.thread b.it.step) ≡ false
  numbers_differ a b i differ =
      let n = number_of paths a.thread a.it.step in
      let m = number_of paths b.thread b.it.step in
      let e = executed.accesses a.thread a.it (access_of symbolic a i) in
      let there : HasStep paths a.thread a.it.step = (e.0, e.1, e.2) in
      ne_eqb n m (λ same.
      let one = one_step paths a.thread a.it.step b.thread b.it.step there same in
      true≢false (sym (is_same a b one.0 one.1) ∙ differ))

  module _ (load : Placed Access) (number : ℕ) where
    abbrev candidates : List Candidate
    candidates = filter_map (candidate_of (all_events paths) nodes load) (all_accesses symbolic)

    -- a candidate is the event of an access other than the load's
    record IsOther (a : Placed Access) (c : Candidate) : Type 0 where
      event : c.event ≡ number_of paths a.thread a.it.step
      other : is_one a load ≡ false

    is_other : (a : Placed Access) (c : Candidate) → candidate_of (all_events paths) nodes load a ≡ Some c → IsOther a c
    is_other a c gives =
        let p = candidate_parts (all_events paths) nodes load a c gives in
        record {
          event = ap (λ (d : Candidate). d.event) p.is;
          other = not-true (is_one a load) (and_parts (not (is_one a load)) (unwrap_or (known_same nodes a.it.cell load.it.cell) true) p.may).0;
        }

    read_differs : (r : Read) → read_of code (all_events paths) (all_accesses symbolic) nodes load number ≡ r
        → IsDistinct (λ m n. m == n) (r.event ∷ map (λ c. c.event) r.candidates)
    read_differs r is =
        let event = λ (c : Candidate). c.event in
        let own = number_of paths load.thread load.it.step in
        subst (λ (s : Read). IsDistinct (λ m n. m == n) (s.event ∷ map event s.candidates)) is
        (distinct_more (λ m n. m == n) own (map event candidates) (λ n i.
        let o = of_map event n candidates i in
        let g = of_filter_map (candidate_of (all_events paths) nodes load) o.0 (all_accesses symbolic) o.1 in
        let p = is_other g.0 o.0 g.2 in
        subst (λ m. (own == m) ≡ false) (sym p.event ∙ o.2)
        (flipped (number_of paths g.0.thread g.0.it.step) own (numbers_differ g.0 load g.1 p.other)))
        (distinct_keys is_one (candidate_of (all_events paths) nodes load) event (all_accesses symbolic) accesses_differ (λ a b c d i j differ gives more.
        let p = is_other a c gives in
        let q = is_other b d more in
        subst (λ m. (m == d.event) ≡ false) (sym p.event)
        (subst (λ m. (number_of paths a.thread a.it.step == m) ≡ false) (sym q.event) (numbers_differ a b i differ)))))
      where
        flipped : (m n : ℕ) → (m == n) ≡ false → (n == m) ≡ false
        flipped m n differ = grind (arith, differ)

  -- the events of each read of the formula
  pub reads_differ : (c : Conjunct) (r : Read) → Contains (read_formula code paths symbolic nodes) c → c.body ≡ body.Read r
      → IsDistinct (λ m n. m == n) (r.event ∷ map (λ x. x.event) r.candidates)
  reads_differ c r i is =
      let l = load_from code paths symbolic nodes c i in
      read_differs l.load l.number r (read_in _ r (ap (λ (d : Conjunct). d.body) l.is ∙ is))
    where
      read_in : (s t : Read) → body.Read s ≡ body.Read t → s ≡ t
      read_in s t e = cc
