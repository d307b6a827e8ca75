-- The values of expressions over a state.
use Rattle.std.proofs.Common.{◌≡◌, ◌⊎◌, ℕ, zero, suc, ◌≤◌, Bool, true, false, not, cond, ℤ, pos, List, [], ◌∷◌, length, get_or, Option, Some, None, inl, inr, refl, ap, sym, subst, ◌∙◌, arith}
use Rattle.std.specs.Prelude.{option_and_then, nat_le, fold, ◌==◌}
use Rattle.std.specs.List.{Contains, find}
use Rattle.std.specs.Ordering.{int_eq}
use Rattle.std.proofs.lemmas.Bool.{cases_eq, cases_lt, eqb-true, false≢true}
use Rattle.std.proofs.lemmas.Bool.Decides.{Decides-int_eq}
use Rattle.std.proofs.lemmas.Option.{none-some, same_Some, cond_some, slice_get-get_or}
use Rattle.std.proofs.lemmas.List.{get_or_past}
use Rattle.int_ops.specs.Arith.{IsInt, unary, binary, bits_and, bits_or, negated, truth}
use Rattle.tc_code.specs.Expr as expr
use Rattle.tc_code.specs.Expr.{Expr}
use Rattle.sym_terms.specs.Terms.{AreTerms}
use Rattle.sym_terms.specs.Values.{node_value, value_of, values_of}
use Rattle.sym_terms.specs.declared.node.Node.{Node}
use Rattle.sym_terms.specs.declared.node.Node.TheVariants.{Constant, Symbol, Unary, Binary}
use Rattle.sym_terms.proofs.Folds.{length_values, of_node}
use Rattle.order_events.proofs.Lists.{in_back, in_front, of_cons, of_nil}
use Rattle.mutex_regions.specs.Functions.{choice, chosen, here_or, is_dear, kept, node_expr, of_one, of_two, term_expr, where_is}
use Rattle.mutex_regions.specs.declared.functions.Holding.{Holding}
use Rattle.mutex_regions.specs.declared.functions.Loaded.{Loaded}
use Rattle.mutex_regions.proofs.Masks.{by_test}

kept_is : (a e : Expr) → kept a ≡ Some e → a ≡ e
kept_is a e h = (cond_some (nat_le (expr.size a) 256) a e h).1

one_parts : (f : Expr → Expr) (x : Option Expr) (e : Expr) → of_one f x ≡ Some e → (a : Expr) × (x ≡ Some a) × (f a ≡ e)
one_parts f None e h = absurd (none-some e h)
one_parts f (Some a) e h = (a, refl, kept_is (f a) e h)

two_parts : (f : Expr → Expr → Expr) (x y : Option Expr) (e : Expr) → of_two f x y ≡ Some e
    → (a : Expr) × (b : Expr) × (x ≡ Some a) × (y ≡ Some b) × (f a b ≡ e)
two_parts f None y e h = absurd (none-some e h)
two_parts f (Some a) y e h = let o = one_parts (f a) y e h in (a, o.0, refl, o.1, o.2)

-- the value of a term, by its node
pub value_at : (nodes : List Node) (loads : List ℤ) (term : ℕ) → AreTerms nodes
    → value_of nodes loads term ≡ node_value (values_of nodes loads) loads (get_or nodes term (Constant (pos 0)))
value_at nodes loads term are = elim (cases_lt term (length nodes)) [
  | inl within ↦
      let d : Node = Constant (pos 0) in
      of_node nodes loads term d within (are.earlier term (get_or nodes term d) (slice_get-get_or nodes term d within))
  | inr past ↦
      let short : length (values_of nodes loads) ≤ term = omega (arith, length_values nodes loads) in
      get_or_past (values_of nodes loads) term (pos 0) short
      ∙ ap (node_value (values_of nodes loads) loads) (sym (get_or_past nodes term (Constant (pos 0)) past))
]

-- a load that is found is one of them
pub found : (loads : List Loaded) (load : ℕ) (x : Loaded) → find (λ y. y.load == load) loads ≡ Some x → Contains loads x × (x.load ≡ load)
found [] load x h = absurd (none-some x h)
found (y ∷ ys) load x h = by (y.load == load) refl h (found ys load x)
  where
    by : (b : Bool) → (y.load == load) ≡ b → cond b (Some y) (find (λ z. z.load == load) ys) ≡ Some x
        → (find (λ z. z.load == load) ys ≡ Some x → Contains ys x × (x.load ≡ load)) → Contains (y ∷ ys) x × (x.load ≡ load)
    by true hit same later =
        let is : y ≡ x = same_Some y x same in
        (subst (λ z. Contains (y ∷ ys) z) is (in_front y ys), ap (λ (z : Loaded). z.load) (sym is) ∙ eqb-true y.load load hit)
    by false miss rest later = let o = later rest in (in_back x y ys o.0, o.1)

-- terms over loads whose expressions are right have right expressions
module _ (nodes : List Node) (loads : List ℤ) (st : List ℤ) (known : List Loaded) (are : AreTerms nodes)
    (right : (l : Loaded) (e : Expr) → Contains known l → l.value ≡ Some e → get_or loads l.load (pos 0) ≡ expr.value_of e st) where
  abbrev IsRight : (ℕ → Option Expr) → Type 0
  IsRight below = (term : ℕ) (e : Expr) → below term ≡ Some e → value_of nodes loads term ≡ expr.value_of e st

  loaded : (load : ℕ) (o : Option Loaded) (e : Expr) → find (λ x. x.load == load) known ≡ o → option_and_then (λ x. x.value) o ≡ Some e
      → get_or loads load (pos 0) ≡ expr.value_of e st
  loaded load None e is h = absurd (none-some e h)
  loaded load (Some x) e is h =
      let o = found known load x is in
      ap (λ k. get_or loads k (pos 0)) (sym o.1) ∙ right x e o.0 h

  node_right : (below : ℕ → Option Expr) → IsRight below → (node : Node) (e : Expr) → node_expr below known node ≡ Some e
      → node_value (values_of nodes loads) loads node ≡ expr.value_of e st
  node_right below so (Constant n) e h = ap (λ (x : Expr). expr.value_of x st) (same_Some (expr.Number n) e h)
  node_right below so (Symbol load) e h = loaded load (find (λ x. x.load == load) known) e refl h
  node_right below so (Unary op a) e h =
      let o = one_parts (expr.Unary op) (below a) e h in
      ap (unary op) (so a o.0 o.1) ∙ ap (λ (x : Expr). expr.value_of x st) o.2
  node_right below so (Binary op a b) e h = by (is_dear op) h
    where
      by : (dear : Bool) → cond dear None (of_two (expr.Binary op) (below a) (below b)) ≡ Some e
          → binary op (value_of nodes loads a) (value_of nodes loads b) ≡ expr.value_of e st
      by true none = absurd (none-some e none)
      by false some =
          let o = two_parts (expr.Binary op) (below a) (below b) e some in
          ap (λ v. binary op v (value_of nodes loads b)) (so a o.0 o.2) ∙ ap (binary op (expr.value_of o.0 st)) (so b o.1 o.3)
          ∙ ap (λ (x : Expr). expr.value_of x st) o.4

  pub term_right : (levels : ℕ) → IsRight (term_expr nodes known levels)
  term_right zero term e h = absurd (none-some e h)
  term_right (suc n) term e h =
      value_at nodes loads term are
      ∙ node_right (term_expr nodes known n) (term_right n) (get_or nodes term (Constant (pos 0))) e h

-- choices by an index of the value j
module _ (st : List ℤ) (j : ℕ) where
  abbrev pub value : Expr → ℤ
  value e = expr.value_of e st

  -- the expression, if there is one, has an int as value
  abbrev pub GivesInt : Option Expr → Type 0
  GivesInt o = (e : Expr) → o ≡ Some e → IsInt (value e)

  choice_value : (i : Expr) (k : ℕ) (new old : Expr) → value i ≡ pos j → IsInt (value new) → IsInt (value old)
      → value (choice i k new old) ≡ cond (int_eq (pos j) (pos k)) (value new) (value old)
  choice_value i k new old is int was =
      ap (λ v. bits_or (bits_and (value new) (negated (truth (int_eq v (pos k))))) (bits_and (value old) (negated (truth (not (int_eq v (pos k))))))) is
      ∙ by_test (int_eq (pos j) (pos k)) (value new) (value old) int was

  same_index : (k : ℕ) → pos j ≡ pos k → j ≡ k
  same_index k e = cc

  -- the value is that of `new` if k is j, else that of `old`
  abbrev pub Chosen : (k : ℕ) (new old : Option Expr) → Expr → Type 0
  Chosen k new old e =
      ((j ≡ k) × (n : Expr) × (new ≡ Some n) × (value e ≡ value n))
      ⊎ ((j ≡ k → ⊥) × (o : Expr) × (old ≡ Some o) × (value e ≡ value o))

  between : (i : Expr) (k : ℕ) (new old : Option Expr) (e : Expr) → value i ≡ pos j → GivesInt new → GivesInt old
      → of_two (choice i k) new old ≡ Some e → Chosen k new old e
  between i k new old e is int was h = by (int_eq (pos j) (pos k)) refl
    where
      o : (a : Expr) × (b : Expr) × (new ≡ Some a) × (old ≡ Some b) × (choice i k a b ≡ e)
      o = two_parts (choice i k) new old e h

      same : value e ≡ cond (int_eq (pos j) (pos k)) (value o.0) (value o.1)
      same = ap value (sym o.4) ∙ choice_value i k o.0 o.1 is (int o.0 o.2) (was o.1 o.3)

      by : (b : Bool) → int_eq (pos j) (pos k) ≡ b → Chosen k new old e
      by true hit = inl (
        same_index k ((Decides-int_eq (pos j) (pos k)).0 hit),
        o.0,
        o.2,
        same ∙ ap (λ b. cond b (value o.0) (value o.1)) hit,
      )
      by false miss = inr (
        λ e'. false≢true (sym miss ∙ (Decides-int_eq (pos j) (pos k)).1 (ap (λ n. pos n) e')),
        o.1,
        o.3,
        same ∙ ap (λ b. cond b (value o.0) (value o.1)) miss,
      )

  pub where_right : (i : Expr) (k : ℕ) (new old : Option Expr) (e : Expr) → value i ≡ pos j → GivesInt new → GivesInt old
      → where_is i k new old ≡ Some e → Chosen k new old e
  where_right (expr.Number n) k new old e is int was h = by (int_eq n (pos k)) refl h
    where
      by : (b : Bool) → int_eq n (pos k) ≡ b → cond b new old ≡ Some e → Chosen k new old e
      by true hit some = inl (same_index k (sym is ∙ (Decides-int_eq n (pos k)).0 hit), e, some, refl)
      by false miss some = inr (λ e'. false≢true (sym miss ∙ (Decides-int_eq n (pos k)).1 (is ∙ ap (λ m. pos m) e')), e, some, refl)
  where_right (expr.Slot s) k new old e is int was h = between (expr.Slot s) k new old e is int was h
  where_right (expr.Unary op a) k new old e is int was h = between (expr.Unary op a) k new old e is int was h
  where_right (expr.Binary op a b) k new old e is int was h = between (expr.Binary op a b) k new old e is int was h

  -- a choice among cells that hold the values that V says, by their indexes
  module _ (V : ℕ → ℤ) (index : Option Expr) (ints : (k : ℕ) → IsInt (V k)) (is : (i : Expr) → index ≡ Some i → value i ≡ pos j) where
    abbrev Holds : Holding → Type 0
    Holds x = (e : Expr) → x.value ≡ Some e → value e ≡ V x.spot.index

    holds_int : (x : Holding) → Holds x → GivesInt x.value
    holds_int x holds e h = subst IsInt (sym (holds e h)) (ints x.spot.index)

    here_parts : (o : Option Expr) (old : Option Expr) (x : Holding) (e : Expr) → index ≡ o → Holds x → GivesInt old
        → option_and_then (λ i. where_is i x.spot.index x.value old) o ≡ Some e → Chosen x.spot.index x.value old e
    here_parts None old x e at holds was h = absurd (none-some e h)
    here_parts (Some i) old x e at holds was h = where_right i x.spot.index x.value old e (is i at) (holds_int x holds) was h

    -- the choice has the value at j so far, or it is still to come
    abbrev Comes : Option Expr → List Holding → Type 0
    Comes old xs = ((e : Expr) → old ≡ Some e → value e ≡ V j) ⊎ ((x : Holding) × Contains xs x × (x.spot.index ≡ j))

    fold_right : (xs : List Holding) (old : Option Expr) → ((x : Holding) → Contains xs x → Holds x) → GivesInt old → Comes old xs → (e : Expr)
        → fold (here_or index) old xs ≡ Some e → value e ≡ V j
    fold_right [] old holds was comes e h = elim comes [ inl right ↦ right e h | inr o ↦ absurd (of_nil o.0 o.1) ]
    fold_right (x ∷ xs) old holds was comes e h =
        fold_right xs (here_or index old x) (λ y i. holds y (in_back y x xs i)) int on e h
      where
        own : Holds x
        own = holds x (in_front x xs)

        parts : (f : Expr) → here_or index old x ≡ Some f → Chosen x.spot.index x.value old f
        parts f some = here_parts index old x f refl own was some

        int : GivesInt (here_or index old x)
        int f some = elim (parts f some) [
          | inl new ↦ subst IsInt (sym new.3) (holds_int x own new.1 new.2)
          | inr stays ↦ subst IsInt (sym stays.3) (was stays.1 stays.2)
        ]

        here : j ≡ x.spot.index → Comes (here_or index old x) xs
        here same = inl (λ f some. elim (parts f some) [
          | inl new ↦ new.3 ∙ own new.1 new.2 ∙ ap V (sym same)
          | inr stays ↦ absurd (stays.0 same)
        ])

        behind : (j ≡ x.spot.index → ⊥) → Comes old (x ∷ xs) → Comes (here_or index old x) xs
        behind differ (inl right) = inl (λ f some. elim (parts f some) [
          | inl new ↦ absurd (differ new.0)
          | inr stays ↦ stays.3 ∙ right stays.1 stays.2
        ])
        behind differ (inr o) = elim (of_cons o.0 x xs o.1) [
          | inl same ↦ absurd (differ (sym o.2 ∙ ap (λ (y : Holding). y.spot.index) (sym same)))
          | inr rest ↦ inr (o.0, rest, o.2)
        ]

        on : Comes (here_or index old x) xs
        on = elim (cases_eq j x.spot.index) [ inl same ↦ here same | inr differ ↦ behind differ comes ]

    pub chosen_right : (xs : List Holding) → ((x : Holding) → Contains xs x → Holds x) → ((x : Holding) × Contains xs x × (x.spot.index ≡ j)) → (e : Expr)
        → chosen index xs ≡ Some e → value e ≡ V j
    chosen_right [] holds there e h = absurd (none-some e h)
    chosen_right (x ∷ xs) holds there e h =
        fold_right xs x.value (λ y i. holds y (in_back y x xs i)) (holds_int x (holds x (in_front x xs))) first e h
      where
        first : Comes x.value xs
        first = elim (of_cons there.0 x xs there.1) [
          | inl same ↦ inl (λ f some. holds x (in_front x xs) f some ∙ ap V (ap (λ (y : Holding). y.spot.index) same ∙ there.2))
          | inr rest ↦ inr (there.0, rest, there.2)
        ]
