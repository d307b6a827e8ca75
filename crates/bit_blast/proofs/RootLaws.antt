-- The meaning of the roots of a formula.
use Rattle.std.proofs.Common.{◌≡◌, ℕ, suc, zero, ◌+◌, ◌<◌, List, [], ◌∷◌, ◌++◌, ℤ, refl, ap, sym, ◌∙◌, subst, arith, Bool, true, false, length, get_or, map}
use Rattle.std.specs.Prelude.{◌&&◌, ◌||◌, fold}
use Rattle.std.specs.List.{All, list_all, list_any}
use Rattle.std.proofs.lemmas.Bool.{false≢true, and_from, and_parts}
use Rattle.std.proofs.lemmas.List.{append-nil, append_assoc, length_push, map-append, length-map}
use Rattle.std.proofs.lemmas.List.Elements.{All-nil, All-head, All-tail, All-push, All-weaker}
use Rattle.std.proofs.lemmas.List.Folds.{list_all-append, list_all-map}
use Rattle.sym_terms.specs.declared.node.Node.{Node}
use Rattle.order_formula.specs.declared.formula.Body.{Body}
use Rattle.order_formula.specs.declared.formula.Body.TheVariants as body
use Rattle.order_formula.specs.declared.formula.Conjunct.{Conjunct}
use Rattle.order_formula.specs.Orders.{Order}
use Rattle.order_formula.specs.Truth.{body_at, case_at, holds_at}
use Rattle.order_formula.specs.Worlds.{World}
use Rattle.cnf_core.specs.Clauses.{Formula, Valuation, literal_true, clause_true, satisfies}
use Rattle.cnf_core.specs.Gates.{Agree, IsOver}
use Rattle.cnf_core.proofs.GateLaws.{literal_true-agree}
use Rattle.bit_gates.specs.Extended.{IsExtended}
use Rattle.bit_gates.specs.Folded.{Made}
use Rattle.bit_gates.specs.Laws.{IsModel, IsOf, IsBit}
use Rattle.bit_gates.proofs.Extended.{gates-extend}
use Rattle.bit_ops.specs.bit_words.Laws.{values}
use Rattle.bit_ops.specs.bit_words.Words.{Walked}
use Rattle.bit_blast.specs.Cases.{Parts, cases_made}
use Rattle.bit_blast.specs.Laws.{Tells, IsRoot, BodyIsTold, AreRoots, RootsMean}
use Rattle.bit_blast.specs.Roots.{body_made, with_root, roots, with_root_clauses}
use Rattle.bit_blast.proofs.CaseLaws.{cases-mean, or_false, tells_more}
use Rattle.bit_blast.proofs.Prefixes.{before_grown}
use Rattle.bit_blast.proofs.Taken.{before_read, reads-mean}

-- truths of which each implies the other list's
implied_push : (ps qs : List Bool) (p q : Bool) → length ps ≡ length qs → ((k : ℕ) → get_or ps k false ≡ true → get_or qs k false ≡ true) → (p ≡ true → q ≡ true)
    → (k : ℕ) → get_or (ps ++ p ∷ []) k false ≡ true → get_or (qs ++ q ∷ []) k false ≡ true
implied_push [] [] p q e h last zero t = last t
implied_push [] [] p q e h last (suc k) t = absurd (false≢true t)
implied_push [] (b ∷ qs) p q e h last k t = absurd (omega (arith, e))
implied_push (a ∷ ps) [] p q e h last k t = absurd (omega (arith, e))
implied_push (a ∷ ps) (b ∷ qs) p q e h last zero t = h zero t
implied_push (a ∷ ps) (b ∷ qs) p q e h last (suc k) t = implied_push ps qs p q (omega (arith, e)) (λ j x. h (suc j) x) last k t

implied_all : (ps qs : List Bool) → length ps ≡ length qs → ((k : ℕ) → get_or ps k false ≡ true → get_or qs k false ≡ true) → list_all (λ b. b) ps ≡ true
    → list_all (λ b. b) qs ≡ true
implied_all [] [] e h t = refl
implied_all [] (b ∷ qs) e h t = absurd (omega (arith, e))
implied_all (a ∷ ps) [] e h t = absurd (omega (arith, e))
implied_all (a ∷ ps) (b ∷ qs) e h t =
    let parts = and_parts a (list_all (λ b. b) ps) t in
    and_from _ _ (h zero parts.0) (implied_all ps qs (omega (arith, e)) (λ k x. h (suc k) x) parts.1)

pub values_agree : (n : ℕ) (v w : Valuation) (ls : List ℤ) → Agree n v w → All (IsOf n) ls → values v ls ≡ values w ls
values_agree n v w [] h a = refl
values_agree n v w (l ∷ ls) h a =
    ap (λ b. b ∷ values v ls) (literal_true-agree n v w l h (All-head (IsOf n) l ls a).1)
    ∙ ap (λ bs. literal_true w l ∷ bs) (values_agree n v w ls h (All-tail (IsOf n) l ls a))

-- a clause for each literal
pub units_true : (w : Valuation) (ls : List ℤ) → satisfies w (map (λ l. l ∷ []) ls) ≡ list_all (λ b. b) (values w ls)
units_true w [] = refl
units_true w (l ∷ ls) =
    ap (λ b. (literal_true w l || false) && b) (units_true w ls)
    ∙ ap (λ b. b && list_all (λ b. b) (values w ls)) (sym (or_false (literal_true w l)))

module _ (o : Order) (nodes : List Node) (world : Valuation → World) (parts : Parts) where
  bit_root : (f : Formula) (m : Made) (meaning : Valuation → Bool) → 0 < f.vars → ((v w : Valuation) → Agree f.vars v w → meaning v ≡ meaning w)
      → IsBit f m meaning → IsRoot f m meaning
  bit_root f m meaning one same h =
      let e : IsExtended f m.formula = gates-extend f m.formula one h.grown in
      record {
        more = e.more;
        over = e.over;
        literal = h.literal;
        before = e.before;
        holds = λ w k t. sym (h.value w k) ∙ t;
        extends = λ v a k. let x = e.extends v a k in (x.0, x.1, x.2, h.value x.0 x.1 ∙ sym (same v x.0 x.2));
      }

  body_root : (f : Formula) (b : Body) → Tells o nodes world parts f → BodyIsTold o b → IsRoot f (body_made parts f b) (λ v. body_at nodes (world v) b)
  body_root f (body.Any cases) t h =
      bit_root f (cases_made parts f cases) (λ v. list_any (case_at nodes (world v)) cases) t.one
      (λ v w agree. ap (λ x. list_any (case_at nodes x) cases) (t.same v w agree)) (cases-mean o nodes world parts f cases t h)
  body_root f (body.Read r) t h = reads-mean o nodes world parts f r t h

  -- values that satisfy the clauses with a conjunct's literal satisfy those before it
  before_body : (f : Formula) (b : Body) → Tells o nodes world parts f → BodyIsTold o b
      → (w : Valuation) → satisfies w (body_made parts f b).formula.clauses ≡ true → satisfies w f.clauses ≡ true
  before_body f (body.Any cases) t h w s = before_grown w f (cases_made parts f cases).formula (cases-mean o nodes world parts f cases t h).grown s
  before_body f (body.Read r) t h w s = before_read o nodes world parts f r t h w s

  before_roots : (m : Walked Formula) (rest : List Conjunct) → Tells o nodes world parts m.state → All (λ c. BodyIsTold o c.body) rest
      → (w : Valuation) → satisfies w (fold (with_root parts) m rest).state.clauses ≡ true → satisfies w m.state.clauses ≡ true
  before_roots m [] t a w s = s
  before_roots m (c ∷ rest) t a w s =
      let P : Conjunct → Type 0 = λ d. BodyIsTold o d.body in
      let g : Formula = m.state in
      let m2 : Walked Formula = with_root parts m c in
      let told = All-head P c rest a in
      let b = body_root g c.body t told in
      let e : IsExtended g m2.state = record {
        more = b.more;
        over = b.over;
        before = b.before;
        extends = λ v k l. let x = b.extends v k l in (x.0, x.1, x.2);
      } in
      before_body g c.body t told w (before_roots m2 rest (tells_more o nodes world parts g m2.state e t) (All-tail P c rest a) w s)

  pub before_all : (f : Formula) (formula : List Conjunct) → Tells o nodes world parts f → All (λ c. BodyIsTold o c.body) formula
      → (w : Valuation) → satisfies w (roots parts f formula).state.clauses ≡ true → satisfies w f.clauses ≡ true
  before_all f formula t a w s = before_roots (record { state = f; word = [] }) formula t a w s

  extended : (f : Formula) (m : Walked Formula) (known : List Conjunct) → AreRoots nodes world f m known → IsExtended f m.state
  extended f m known h = record {
    more = h.more;
    over = h.over;
    before = h.before;
    extends = λ v a k. let x = h.extends v a k in (x.0, x.1, x.2);
  }

  root_next : (f : Formula) (m : Walked Formula) (known : List Conjunct) (c : Conjunct) → Tells o nodes world parts f → BodyIsTold o c.body
      → AreRoots nodes world f m known → AreRoots nodes world f (with_root parts m c) (known ++ c ∷ [])
  root_next f m known c t told h =
      let g : Formula = m.state in
      let here : Made = body_made parts g c.body in
      let k : Formula = here.formula in
      let u = tells_more o nodes world parts f g (extended f m known h) t in
      let b = body_root g c.body u told in
      let last : ℤ = here.literal in
      record {
        more = omega (arith, h.more, b.more);
        over = λ a. b.over (h.over a);
        count = length_push m.word last ∙ ap (λ x. x + 1) h.count ∙ sym (length_push known c);
        literals = All-push (IsOf k.vars) m.word last (All-weaker (IsOf g.vars) (IsOf k.vars) (λ l p. (p.0, omega (arith, p.1, b.more))) m.word h.literals) b.literal;
        before = λ w p. h.before w (b.before w p);
        holds = λ w p j x.
            let truths : Conjunct → Bool = λ d. body_at nodes (world w) d.body in
            let long : length (values w m.word) ≡ length (map truths known) = length-map m.word (literal_true w) ∙ h.count ∙ sym (length-map known truths) in
            subst (λ bs. get_or bs j false ≡ true) (sym (map-append truths known (c ∷ [])))
            (implied_push (values w m.word) (map truths known) (literal_true w last) (truths c) long (h.holds w (b.before w p)) (b.holds w p) j
            (subst (λ bs. get_or bs j false ≡ true) (map-append (literal_true w) m.word (last ∷ [])) x));
        extends = λ v a p.
            let x = h.extends v a p in
            let y = b.extends x.0 (h.over a) x.1 in
            let truths : Conjunct → Bool = λ d. body_at nodes (world v) d.body in
            let same : world v ≡ world x.0 = t.same v x.0 x.2 in
            let old : values y.0 m.word ≡ map truths known = sym (values_agree g.vars x.0 y.0 m.word y.2 h.literals) ∙ x.3 in
            let new : literal_true y.0 last ≡ truths c = y.3 ∙ ap (λ z. body_at nodes z c.body) (sym same) in (
              y.0,
              y.1,
              λ n below. x.2 n below ∙ y.2 n (omega (arith, below, h.more)),
              map-append (literal_true y.0) m.word (last ∷ []) ∙ ap (λ bs. bs ++ literal_true y.0 last ∷ []) old
                  ∙ ap (λ z. map truths known ++ z ∷ []) new ∙ sym (map-append truths known (c ∷ [])),
            );
      }

  roots_rest : (f : Formula) (m : Walked Formula) (known rest : List Conjunct) → Tells o nodes world parts f → All (λ c. BodyIsTold o c.body) rest
      → AreRoots nodes world f m known → AreRoots nodes world f (fold (with_root parts) m rest) (known ++ rest)
  roots_rest f m known [] t a h = subst (AreRoots nodes world f m) (sym (append-nil known)) h
  roots_rest f m known (c ∷ rest) t a h =
      let P : Conjunct → Type 0 = λ d. BodyIsTold o d.body in
      let m2 : Walked Formula = with_root parts m c in
      subst (AreRoots nodes world f (fold (with_root parts) m2 rest)) (append_assoc known (c ∷ []) rest)
      (roots_rest f m2 (known ++ c ∷ []) rest t (All-tail P c rest a) (root_next f m known c t (All-head P c rest a) h))

  pub are_roots : (f : Formula) (formula : List Conjunct) → Tells o nodes world parts f → All (λ c. BodyIsTold o c.body) formula
      → AreRoots nodes world f (roots parts f formula) formula
  are_roots f formula t a =
      roots_rest f (record { state = f; word = [] }) [] formula t a
      (record {
        more = omega arith;
        over = λ p. p;
        count = refl;
        literals = All-nil (IsOf f.vars);
        before = λ w p. p;
        holds = λ w p k x. x;
        extends = λ v p q. (v, q, λ k below. refl, refl);
      })

  pub to : (f : Formula) (formula : List Conjunct) → Tells o nodes world parts f → All (λ c. BodyIsTold o c.body) formula
      → (w : Valuation) → IsModel w (with_root_clauses parts f formula) → IsModel w f × (holds_at nodes (world w) formula ≡ true)
  to f formula t a w p =
      let m : Walked Formula = roots parts f formula in
      let h = are_roots f formula t a in
      let both = and_parts (satisfies w m.state.clauses) (satisfies w (map (λ l. l ∷ []) m.word))
      (sym (list_all-append (clause_true w) m.state.clauses (map (λ l. l ∷ []) m.word)) ∙ p.all) in
      let k : IsModel w m.state = record { one = p.one; all = both.0 } in
      let truths : Conjunct → Bool = λ d. body_at nodes (world w) d.body in
      let long : length (values w m.word) ≡ length (map truths formula) = length-map m.word (literal_true w) ∙ h.count ∙ sym (length-map formula truths) in (
        h.before w k,
        sym (list_all-map (λ b. b) truths formula)
            ∙ implied_all (values w m.word) (map truths formula) long (h.holds w k) (sym (units_true w m.word) ∙ both.1),
      )

  pub back : (f : Formula) (formula : List Conjunct) → Tells o nodes world parts f → All (λ c. BodyIsTold o c.body) formula
      → (v : Valuation) → IsOver f → IsModel v f → holds_at nodes (world v) formula ≡ true
      → (w : Valuation) × IsModel w (with_root_clauses parts f formula) × Agree f.vars v w
  back f formula t a v over p true_there =
      let m : Walked Formula = roots parts f formula in
      let x = (are_roots f formula t a).extends v over p in
      let truths : Conjunct → Bool = λ d. body_at nodes (world v) d.body in
      let units : satisfies x.0 (map (λ l. l ∷ []) m.word) ≡ true =
      units_true x.0 m.word ∙ ap (list_all (λ b. b)) x.3 ∙ list_all-map (λ b. b) truths formula ∙ true_there in (
        x.0,
        record {
          one = x.1.one;
          all = list_all-append (clause_true x.0) m.state.clauses (map (λ l. l ∷ []) m.word) ∙ and_from _ _ x.1.all units;
        },
        x.2,
      )

pub roots-mean : RootsMean
roots-mean = record { each = are_roots; to = to; back = back }
