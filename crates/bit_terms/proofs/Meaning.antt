-- The meaning of the words of terms.
use Rattle.std.proofs.Common.{◌≡◌, ℕ, suc, zero, ◌+◌, ◌*◌, ◌/◌, ◌^◌, ◌<◌, ◌≤◌, List, [], ◌∷◌, ◌++◌, ℤ, pos, refl, ap, ap₂, sym, ◌∙◌, subst, arith, Bool, true, false, not, length, get_or, map, max}
use Rattle.std.specs.Prelude.{◌%◌, ◌-◌, ◌==◌, ◌&&◌, ◌||◌, fold, Option, None, Some}
use Rattle.std.specs.Option.{option_map_or}
use Rattle.std.specs.Int.{w32, cast_signed, cast_unsigned, bit_at}
use Rattle.std.specs.List.{All, range_with_len}
use Rattle.std.specs.Ordering.{int_eq}
use Rattle.std.proofs.Math.Nat.{mod-eq_of_lt, div-one, mod-one}
use Rattle.std.proofs.Math.ListN.{get_or-map}
use Rattle.std.proofs.lemmas.Int.{to_z-of_z}
use Rattle.std.proofs.lemmas.Nat.{shr-shr, mod-pow-add}
use Rattle.std.proofs.lemmas.Nat.Bits.{bit_at-lt}
use Rattle.std.proofs.lemmas.Bool.{and_parts, eqb-true, false≢true}
use Rattle.std.proofs.lemmas.Cmp.{int_eq_equiv}
use Rattle.std.proofs.lemmas.List.{append-nil, append_assoc, get_or_append_left, length-replicate, length_push, map-append}
use Rattle.std.proofs.lemmas.List.Sums.{fold-append}
use Rattle.std.proofs.lemmas.Option.{none-some}
use Rattle.std.proofs.lemmas.List.Elements.{All-nil, All-cons, All-head, All-tail, All-map, All-push, All-replicate, All-weaker}
use Rattle.std.proofs.lemmas.List.FromFn.{length-map-range_with_len}
use Rattle.sym_terms.specs.int_ops.Arith.{IsInt, binary, bit, truth, unary}
use Rattle.int_ops.specs.declared.arith.BinOp.TheVariants.{Eq, Ne}
use Rattle.int_ops.specs.declared.arith.UnOp.TheVariants.{Not}
use Rattle.sym_terms.proofs.int_ops.Bits.{unsigned-below}
use Rattle.sym_terms.specs.declared.node.Node.{Node}
use Rattle.sym_terms.specs.declared.node.Node.TheVariants.{Constant, Symbol, Unary, Binary}
use Rattle.sym_terms.specs.Terms.{NamesBelow}
use Rattle.sym_terms.specs.Values.{node_value, value_of, values_of}
use Rattle.sym_terms.proofs.Folds.{of_node, step}
use Rattle.cnf_core.specs.Clauses.{Formula, Valuation, literal_true}
use Rattle.bit_gates.specs.Folded.{constant}
use Rattle.bit_gates.specs.Laws.{IsGrown, IsModel, IsOf}
use Rattle.bit_gates.proofs.Blocks.{grown_none, grown_more, grown_twice, model_before}
use Rattle.bit_gates.proofs.Meaning.{constant_of, constant_value}
use Rattle.bit_words.specs.Laws.{digit, value}
use Rattle.bit_words.specs.Words.{Walked}
use Rattle.bit_words.proofs.Meaning.{all_grown}
use Rattle.bit_ops.specs.bit_arith.Laws.{int_value}
use Rattle.bit_ops.specs.bit_arith.Sums.{zeros}
use Rattle.bit_ops.proofs.bit_arith.Values.{value_below, value_zeros}
use Rattle.bit_ops.specs.Laws.{IsOperand, HasInt}
use Rattle.bit_ops.specs.Ops.{some_of, unary_word}
use Rattle.bit_ops.proofs.Meaning.{unary_means, binary_means, some_bit, same_int, bit_with}
use Rattle.bit_terms.specs.Laws.{IsIntNode, TermsMean, NonzeroMeans}
use Rattle.bit_terms.specs.Terms.{are_opposite, constant_word, node_word, opposite_for, opposite_of, own_word, same_two, term_words, with_word, word_at, Words}
use Rattle.bit_terms.proofs.Found.{found_in}

-- the words of numbers
digit_of : (n : ℕ) → n < 2 → digit (n == 1) ≡ n
digit_of zero h = refl
digit_of (suc zero) h = refl
digit_of (suc (suc n)) h = absurd (omega (arith, h))

bits_value : (w : Valuation) (n k s : ℕ) → w 1 ≡ true → value w (map (λ place. constant (bit_at n place == 1)) (range_with_len s k)) ≡ n / 2 ^ s % 2 ^ k
bits_value w n zero s one = sym (mod-one (n / 2 ^ s))
bits_value w n (suc k) s one =
    let m : ℕ = n / 2 ^ s in
    let rest : value w (map (λ place. constant (bit_at n place == 1)) (range_with_len (s + 1) k)) ≡ m / 2 ^ 1 % 2 ^ k =
    bits_value w n k (s + 1) one ∙ ap (λ x. x % 2 ^ k) (sym (shr-shr n s 1)) in
    let here : digit (literal_true w (constant (bit_at n s == 1))) ≡ m % 2 ^ 1 =
    ap digit (constant_value w (bit_at n s == 1) one) ∙ digit_of (bit_at n s) (bit_at-lt n s) in
    let whole : m % 2 ^ (k + 1) ≡ (m / 2 ^ 1 % 2 ^ k) * 2 ^ 1 + m % 2 ^ 1 = mod-pow-add m k 1 in
    let e : suc k ≡ k + 1 = omega arith in
    omega (arith, rest, here, whole ∙ refl, ap (λ x. m % 2 ^ x) e)

constant_int : (w : Valuation) (z : ℤ) → w 1 ≡ true → IsInt z → int_value w (constant_word z) ≡ z
unfolding constant_word
constant_int w z one h =
    let n : ℕ = cast_unsigned w32 z in
    ap (cast_signed w32) (bits_value w n 32 0 one ∙ ap (λ x. x % 2 ^ 32) (div-one n) ∙ mod-eq_of_lt (unsigned-below z h)) ∙ to_z-of_z w32 z h

pub constant_operand : (f : Formula) (z : ℤ) → 0 < f.vars → IsOperand f (constant_word z)
unfolding constant_word
constant_operand f z one = record {
  literals = All-map (IsOf f.vars) (λ place. constant (bit z place == 1)) (range_with_len 0 32)
      (All-each (λ place. IsOf f.vars (constant (bit z place == 1))) (range_with_len 0 32) (λ place. constant_of f.vars (bit z place == 1) one));
  width = length-map-range_with_len (λ place. constant (bit z place == 1)) 0 32;
}
  where
    All-each : {X : Type 0} (P : X → Type 0) (xs : List X) → ((x : X) → P x) → All P xs
    All-each P [] h = All-nil P
    All-each P (x ∷ xs) h = All-cons P x xs (h x) (All-each P xs h)

zero_operand : (f : Formula) → 0 < f.vars → IsOperand f (zeros 32)
zero_operand f one = record {
  literals = All-replicate (IsOf f.vars) 32 (constant false) (constant_of f.vars false one);
  width = length-replicate 32 (constant false);
}

zero_int : (w : Valuation) → w 1 ≡ true → int_value w (zeros 32) ≡ pos 0
zero_int w one = ap (cast_signed w32) (value_zeros w 32 (constant_value w false one))

-- the word at a place
pub at_operand : (f : Formula) (words : List (List ℤ)) (place : ℕ) → 0 < f.vars → All (IsOperand f) words → IsOperand f (word_at words place)
at_operand f [] place one h = zero_operand f one
at_operand f (x ∷ xs) zero one h = All-head (IsOperand f) x xs h
at_operand f (x ∷ xs) (suc place) one h = at_operand f xs place one (All-tail (IsOperand f) x xs h)

at_int : (w : Valuation) (words : List (List ℤ)) (place : ℕ) → w 1 ≡ true → int_value w (word_at words place) ≡ get_or (map (int_value w) words) place (pos 0)
at_int w words place one =
    sym (get_or-map (int_value w) words place (zeros 32)) ∙ ap (get_or (map (int_value w) words) place) (zero_int w one)

pub operand_grown : (f g : Formula) (xs : List ℤ) → IsGrown f g → IsOperand f xs → IsOperand g xs
operand_grown f g xs h o = record { literals = all_grown f g xs h o.literals; width = o.width }

operands_grown : (f g : Formula) (words : List (List ℤ)) → IsGrown f g → All (IsOperand f) words → All (IsOperand g) words
operands_grown f g words h a = All-weaker (IsOperand f) (IsOperand g) (λ xs o. operand_grown f g xs h o) words a

-- the word of a node on its own
own_means : (symbols known : List (List ℤ)) (f : Formula) (node : Node) → 0 < f.vars → IsIntNode node → All (IsOperand f) symbols → All (IsOperand f) known
    → HasInt f (own_word symbols known f node) (λ w. node_value (map (int_value w) known) (map (int_value w) symbols) node)
own_means symbols known f (Constant z) one h p q =
    record { grown = grown_none f; word = constant_operand f z one; int = λ w m. constant_int w z m.one h }
own_means symbols known f (Symbol load) one h p q =
    record { grown = grown_none f; word = at_operand f symbols load one p; int = λ w m. at_int w symbols load m.one }
own_means symbols known f (Unary op a) one h p q =
    let r = unary_means op f (word_at known a) one (at_operand f known a one q) in
    record { grown = r.grown; word = r.word; int = λ w m. r.int w m ∙ ap (unary op) (at_int w known a m.one) }
own_means symbols known f (Binary op a b) one h p q =
    let r = binary_means op f (word_at known a) (word_at known b) one (at_operand f known a one q) (at_operand f known b one q) in
    record {
      grown = r.grown;
      word = r.word;
      int = λ w m. r.int w m ∙ ap (λ x. binary op x (int_value w (word_at known b))) (at_int w known a m.one)
          ∙ ap (binary op (get_or (map (int_value w) known) a (pos 0))) (at_int w known b m.one);
    }

-- two opposite nodes have opposite values
not_truth : (b : Bool) → unary Not (truth b) ≡ truth (not b)
not_truth true = refl
not_truth false = refl

twice_not : (b : Bool) → unary Not (truth (not b)) ≡ truth b
twice_not true = refl
twice_not false = refl

-- two terms that are the same as two others, either way round
either_way : (P : ℕ → ℕ → Type 0) (a b c d : ℕ) → same_two a b c d ≡ true → P a b → P b a → P c d
either_way P a b c d is one other = by (c == a && d == b) refl
  where
    by : (first : Bool) → (c == a && d == b) ≡ first → P c d
    by true first =
        let parts = and_parts (c == a) (d == b) first in
        subst (λ k. P k d) (sym (eqb-true c a parts.0)) (subst (P a) (sym (eqb-true d b parts.1)) one)
    by false first =
        let parts = and_parts (c == b) (d == a) (sym (ap (λ x. x || (c == b && d == a)) first) ∙ is) in
        subst (λ k. P k d) (sym (eqb-true c b parts.0)) (subst (P b) (sym (eqb-true d a parts.1)) other)

same_equal : (values : List ℤ) (a b c d : ℕ) → same_two a b c d ≡ true
    → int_eq (get_or values c (pos 0)) (get_or values d (pos 0)) ≡ int_eq (get_or values a (pos 0)) (get_or values b (pos 0))
same_equal values a b c d is =
    let at : ℕ → ℤ = λ k. get_or values k (pos 0) in
    either_way (λ x y. int_eq (at x) (at y) ≡ int_eq (at a) (at b)) a b c d is refl (int_eq_equiv.symm (at b) (at a))

opposite_value : (values loads : List ℤ) (node e : Node) → are_opposite node e ≡ true
    → unary Not (node_value values loads e) ≡ node_value values loads node
opposite_value values loads (Binary Eq a b) (Binary Ne c d) is =
    twice_not (int_eq (get_or values c (pos 0)) (get_or values d (pos 0))) ∙ ap truth (same_equal values a b c d is)
opposite_value values loads (Binary Ne a b) (Binary Eq c d) is =
    not_truth (int_eq (get_or values c (pos 0)) (get_or values d (pos 0))) ∙ ap (λ x. truth (not x)) (same_equal values a b c d is)
opposite_value values loads _ _ is = absurd (false≢true is)

-- an opposite names only terms that the node names
opposite_below : (place : ℕ) (node e : Node) → are_opposite node e ≡ true → NamesBelow place node → NamesBelow place e
opposite_below place (Binary Eq a b) (Binary Ne c d) is below =
    either_way (λ x y. (x < place) × (y < place)) a b c d is below (below.1, below.0)
opposite_below place (Binary Ne a b) (Binary Eq c d) is below =
    either_way (λ x y. (x < place) × (y < place)) a b c d is below (below.1, below.0)
opposite_below place _ _ is below = absurd (false≢true is)

-- the node that is found has the opposite of the value of the node for which it is found
found_opposite : (before rest : List Node) (loads : List ℤ) (node : Node) (a b place : ℕ)
    → (max a b < place → NamesBelow place node) → opposite_of (before ++ rest) (length before) node a b ≡ Some place
    → unary Not (value_of before loads place) ≡ node_value (values_of before loads) loads node
found_opposite before rest loads node a b place names is =
    let none : Node = Constant (pos 0) in
    let test : Node → Bool = are_opposite node in
    let from : ℕ = max a b + 1 in
    let found = found_in (λ k. test (get_or (before ++ rest) k none)) from (length before - from) place is in
    let below : place < length before = omega (arith, found.low, found.high) in
    let passes : test (get_or before place none) ≡ true = ap test (sym (get_or_append_left before rest none place below)) ∙ found.passes in
    ap (unary Not) (of_node before loads place none below (opposite_below place node (get_or before place none) passes (names (omega (arith, found.low)))))
    ∙ opposite_value (values_of before loads) loads node (get_or before place none) passes

found_value : (before rest : List Node) (loads : List ℤ) (node : Node) (place : ℕ) → opposite_for (before ++ rest) (length before) node ≡ Some place
    → unary Not (value_of before loads place) ≡ node_value (values_of before loads) loads node
found_value before rest loads (Binary Eq a b) place is =
    found_opposite before rest loads (Binary Eq a b) a b place (λ behind. (omega (arith, behind), omega (arith, behind))) is
found_value before rest loads (Binary Ne a b) place is =
    found_opposite before rest loads (Binary Ne a b) a b place (λ behind. (omega (arith, behind), omega (arith, behind))) is
found_value before rest loads _ place is = absurd (none-some place is)

-- the words of the first nodes
record AreFirst (before : List Node) (symbols : List (List ℤ)) (m : Words) : Type 0 where
  pub one : 0 < m.formula.vars
  pub operands : All (IsOperand m.formula) symbols
  pub count : length m.words ≡ length before
  pub words : All (IsOperand m.formula) m.words
  pub ints : (w : Valuation) → IsModel w m.formula → map (int_value w) m.words ≡ values_of before (map (int_value w) symbols)

-- the word of the next node
next_means : (symbols : List (List ℤ)) (before rest : List Node) (m : Words) (node : Node) → AreFirst before symbols m → IsIntNode node
    → HasInt m.formula (node_word symbols (before ++ rest) m node)
    (λ w. node_value (map (int_value w) m.words) (map (int_value w) symbols) node)
next_means symbols before rest m node h int = by (opposite_for (before ++ rest) (length m.words) node) refl
  where
    meaning : Valuation → ℤ
    meaning w = node_value (map (int_value w) m.words) (map (int_value w) symbols) node

    word : Option ℕ → Walked Formula
    word o = option_map_or (λ place. unary_word Not m.formula (word_at m.words place)) o (own_word symbols m.words m.formula node)

    known : (w : Valuation) → IsModel w m.formula → (place : ℕ) → opposite_for (before ++ rest) (length m.words) node ≡ Some place
        → unary Not (int_value w (word_at m.words place)) ≡ meaning w
    known w k place is =
        let loads : List ℤ = map (int_value w) symbols in
        ap (unary Not) (at_int w m.words place k.one ∙ ap (λ vs. get_or vs place (pos 0)) (h.ints w k))
        ∙ found_value before rest loads node place (ap (λ n. opposite_for (before ++ rest) n node) (sym h.count) ∙ is)
        ∙ ap (λ vs. node_value vs loads node) (sym (h.ints w k))

    by : (o : Option ℕ) → opposite_for (before ++ rest) (length m.words) node ≡ o → HasInt m.formula (word o) meaning
    by None is = own_means symbols m.words m.formula node h.one int h.operands h.words
    by (Some place) is =
        let r = unary_means Not m.formula (word_at m.words place) h.one (at_operand m.formula m.words place h.one h.words) in
        record { grown = r.grown; word = r.word; int = λ w k. r.int w k ∙ known w (model_before w m.formula (word (Some place)).state r.grown k) place is }

-- the words of all nodes, from those of the first
record AreAdded (all : List Node) (symbols : List (List ℤ)) (m r : Words) : Type 0 where
  pub grown : IsGrown m.formula r.formula
  pub count : length r.words ≡ length all
  pub words : All (IsOperand r.formula) r.words
  pub ints : (w : Valuation) → IsModel w r.formula → map (int_value w) r.words ≡ values_of all (map (int_value w) symbols)

are_added : (before rest : List Node) (symbols : List (List ℤ)) (m : Words) → All IsIntNode rest → AreFirst before symbols m
    → AreAdded (before ++ rest) symbols m (fold (with_word symbols (before ++ rest)) m rest)
are_added before [] symbols m is h =
    let same : before ++ [] ≡ before = append-nil before in
    record {
      grown = grown_none m.formula;
      count = h.count ∙ ap length (sym same);
      words = h.words;
      ints = λ w k. h.ints w k ∙ ap (λ ns. values_of ns (map (int_value w) symbols)) (sym same);
    }
are_added before (node ∷ rest) symbols m is h =
    let f : Formula = m.formula in
    let all : List Node = before ++ node ∷ rest in
    let here : Walked Formula = node_word symbols all m node in
    let made = next_means symbols before (node ∷ rest) m node h (All-head IsIntNode node rest is) in
    let g : Formula = here.state in
    let more : f.vars ≤ g.vars = grown_more f g made.grown in
    let next : Words = with_word symbols all m node in
    let longer : List Node = before ++ node ∷ [] in
    let same : longer ++ rest ≡ all = append_assoc before (node ∷ []) rest in
    let ready : AreFirst longer symbols next = record {
      one = omega (arith, h.one, more);
      operands = operands_grown f g symbols made.grown h.operands;
      count = let e : length next.words ≡ length m.words + 1 = length_push m.words here.word in e ∙ ap (λ n. n + 1) h.count ∙ sym (length_push before node);
      words = All-push (IsOperand g) m.words here.word (operands_grown f g m.words made.grown h.words) made.word;
      ints = λ w k.
          let was = h.ints w (model_before w f g made.grown k) in
          let loads : List ℤ = map (int_value w) symbols in
          map-append (int_value w) m.words (here.word ∷ [])
          ∙ ap₂ (λ vs z. vs ++ z ∷ []) was (made.int w k ∙ ap (λ vs. node_value vs loads node) was)
          ∙ sym (fold-append (step loads) [] before (node ∷ []));
    } in
    let rest_added = are_added longer rest symbols next (All-tail IsIntNode node rest is) ready in
    let r = subst (λ ns. AreAdded ns symbols next (fold (with_word symbols ns) next rest)) same rest_added in
    let last : Words = fold (with_word symbols all) next rest in
    record {
      grown = grown_twice f g last.formula made.grown r.grown;
      count = r.count;
      words = r.words;
      ints = r.ints;
    }

pub terms-mean : TermsMean
terms-mean nodes symbols f one is p =
    let none : Words = record { formula = f; words = [] } in
    let first : AreFirst [] symbols none = record {
      one = one;
      operands = p;
      count = refl;
      words = All-nil (IsOperand f);
      ints = λ w k. refl;
    } in
    let h = are_added [] nodes symbols none is first in
    let all : Words = term_words nodes symbols f in
    record {
      grown = h.grown;
      count = h.count;
      words = h.words;
      int = λ w m id. at_int w all.words id m.one ∙ ap (λ known. get_or known id (pos 0)) (h.ints w m);
    }

pub nonzero-means : NonzeroMeans
nonzero-means f xs one o =
    bit_with f (some_of f xs) (λ w. not (value w xs == 0)) (λ w. not (int_eq (int_value w xs) (pos 0)))
    (λ w. ap not (same_int (value w xs) 0 (subst (λ n. value w xs < 2 ^ n) o.width (value_below w xs)) (omega arith))) (some_bit f xs one o.literals)
