-- What the literals and words of a draft say of the world of a model.
use Rattle.std.proofs.Common.{◌≡◌, ℕ, ◌<◌, ◌≤◌, List, ℤ, neg_ℤ, Option, Some, None, refl, ap, sym, ◌∙◌, subst, arith, Bool, true, false, get_or, length, map}
use Rattle.std.specs.Prelude.{if◌then◌else◌, nat_le, position, slice_get}
use Rattle.std.specs.List.{All, Contains, range_with_len}
use Rattle.std.specs.Option.{option_map, option_map_or}
use Rattle.std.proofs.lemmas.Bool.{false≢true}
use Rattle.std.proofs.lemmas.List.{get_or-map}
use Rattle.std.proofs.lemmas.List.Elements.{All-weaker}
use Rattle.std.proofs.lemmas.List.Quantifiers.{position-Some}
use Rattle.std.proofs.lemmas.Option.{get_or_from_slice_get, slice_get-get_or, slice_get-map, slice_get_within}
use Rattle.sym_terms.specs.declared.node.Node.{Node}
use Rattle.order_formula.specs.Orders.{pair_of, same_pair}
use Rattle.order_formula.specs.Truth.{body_at}
use Rattle.order_formula.specs.Worlds.{World, is_before}
use Rattle.order_formula.specs.declared.formula.Conjunct.{Conjunct}
use Rattle.order_formula.specs.declared.order.Pair.{Pair}
use Rattle.cnf_core.specs.Clauses.{Formula, Valuation, literal_true}
use Rattle.bit_gates.specs.Folded.{constant}
use Rattle.bit_gates.specs.Laws.{IsModel, IsOf}
use Rattle.bit_gates.proofs.Meaning.{constant_value}
use Rattle.bit_ops.specs.Laws.{IsOperand}
use Rattle.bit_ops.specs.bit_arith.Laws.{int_value}
use Rattle.bit_ops.specs.bit_words.Laws.{values}
use Rattle.bit_ops.specs.bit_words.Words.{Walked}
use Rattle.bit_order.specs.Comparators.{before_literal, comparators, ordered}
use Rattle.bit_order.specs.Layouts.{Layout, base, load_word}
use Rattle.bit_order.specs.Readings.{world_of}
use Rattle.bit_order.proofs.Meaning.{base-over, same-world}
use Rattle.bit_terms.specs.Terms.{word_at}
use Rattle.bit_blast.specs.Drafts.{Draft, KeepsWorlds, drafted}
use Rattle.bit_blast.specs.Laws.{AreRoots}
use Rattle.bit_blast.specs.Says.{DraftSays, DraftTells, IsDraftOver}
use Rattle.bit_blast.specs.Whole.{IsReady, clauses_with_roots, clauses_with_terms, load_words}
use Rattle.bit_blast.proofs.CaseLaws.{operand_stays}
use Rattle.bit_blast.proofs.Lists.{any_of}
use Rattle.bit_blast.proofs.RootLaws.{values_agree}
use Rattle.bit_blast.proofs.WholeLaws.{all_roots, grown, literals, loads, map_twice, order, tells, terms}

-- values of a list at an index
pub value_at_root : (v : Valuation) (ls : List ℤ) (truths : Conjunct → Bool) (formula : List Conjunct) → length ls ≡ length formula
    → values v ls ≡ map truths formula → (k : ℕ) (c : Conjunct) → slice_get formula k ≡ Some c → literal_true v (get_or ls k (constant false)) ≡ truths c
value_at_root v ls truths formula long same k c is =
    let below : k < length ls = let inside = slice_get_within formula k c is in omega (arith, inside, long) in
    sym (get_or-map (literal_true v) ls k (constant false) false below) ∙ ap (λ bs. get_or bs k false) same
    ∙ get_or_from_slice_get (map truths formula) k (truths c) false (slice_get-map truths formula k ∙ ap (option_map truths) is)

module _ (y : Layout) (nodes : List Node) (formula : List Conjunct) (h : IsReady y nodes formula) where
  abbrev g : Formula
  g = (clauses_with_terms y nodes).formula

  abbrev m : Walked Formula
  m = clauses_with_roots y nodes formula

  abbrev d : Draft
  d = drafted nodes formula y

  roots : AreRoots nodes (world_of y) g m formula
  roots = all_roots y nodes formula h

  -- the literal of two events that the order doesn't compare is false
  earlier : (v : Valuation) → IsModel v g → (first second : ℕ) → literal_true v (before_literal y first second) ≡ true
      → is_before (world_of y v) first second ≡ true
  earlier v k first second is = by (position test y.order.pairs) refl
    where
      test : Pair → Bool
      test = same_pair (pair_of first second)

      some : Pair
      some = record { lesser = 0; greater = 0 }

      literal : Option ℕ → ℤ
      literal o =
          option_map_or (λ l. if nat_le first second then l else neg_ℤ l)
          (option_map (λ number. get_or (comparators y).word number (constant false)) o) (constant false)

      by : (o : Option ℕ) → position test y.order.pairs ≡ o → is_before (world_of y v) first second ≡ true
      by None e = absurd (false≢true (sym (constant_value v false k.one) ∙ sym (ap (λ o. literal_true v (literal o)) e) ∙ is))
      by (Some n) e =
          let found = position-Some test y.order.pairs n some e in
          let p : Pair = get_or y.order.pairs n some in
          let there : Contains y.order.pairs p = (n, found.0, get_or_from_slice_get y.order.pairs n p p (slice_get-get_or y.order.pairs n some found.0)) in
          sym (((tells y nodes formula h).before first second (any_of test y.order.pairs p there found.1)).value v k) ∙ is

  says : (v : Valuation) → IsModel v m.state → values v m.word ≡ map (λ (c : Conjunct). body_at nodes (world_of y v) c.body) formula
      → DraftSays nodes formula d (world_of y v) v
  says v k same =
      let here : IsModel v g = roots.before v k in
      record {
        before = earlier v here;
        roots = value_at_root v m.word (λ (c : Conjunct). body_at nodes (world_of y v) c.body) formula roots.count same;
        count = roots.count;
        loads = map_twice (load_word y) (int_value v) (range_with_len 0 y.loads);
        words = (tells y nodes formula h).value v here;
      }

  over : IsDraftOver d m.state
  over =
      let base_more : (base y).vars ≤ (ordered y).vars = (order y nodes formula h).more in
      let terms_more : (ordered y).vars ≤ g.vars = (grown y nodes formula h).more in
      let roots_more : g.vars ≤ m.state.vars = roots.more in
      let one : 0 < g.vars = (tells y nodes formula h).one in
      record {
        one = omega (arith, one, roots_more);
        variables = omega (arith, base_more, terms_more, roots_more);
        before = λ first second.
            let there : IsOf (ordered y).vars (before_literal y first second) = (literals y nodes formula h).before_there first second in
            (there.0, omega (arith, there.1, terms_more, roots_more));
        loads = All-weaker (IsOperand (ordered y)) (IsOperand m.state)
            (λ xs o. operand_stays (ordered y) m.state xs (omega (arith, terms_more, roots_more)) o) (load_words y) (loads y nodes formula h);
        words = All-weaker (IsOperand g) (IsOperand m.state) (λ xs o. operand_stays g m.state xs roots_more o) (clauses_with_terms y nodes).words
            (terms y nodes formula h).words;
        roots = roots.literals;
      }

  pub draft_tells : DraftTells nodes formula d
  draft_tells = record {
    clauses = roots.over ((grown y nodes formula h).over ((order y nodes formula h).over (base-over y)));
    over = over;
    says = says;
  }

-- the literals and words of a draft are over the variables of larger formulas too
pub still_over : (d : Draft) (f g : Formula) → f.vars ≤ g.vars → IsDraftOver d f → IsDraftOver d g
still_over d f g more h = record {
  one = (let o = h.one in omega (arith, o, more));
  variables = (let o = h.variables in omega (arith, o, more));
  before = λ first second. let there : IsOf f.vars (before_literal d.layout first second) = h.before first second in (there.0, omega (arith, there.1, more));
  loads = All-weaker (IsOperand f) (IsOperand g) (λ xs o. operand_stays f g xs more o) (load_words d.layout) h.loads;
  words = All-weaker (IsOperand f) (IsOperand g) (λ xs o. operand_stays f g xs more o) d.words h.words;
  roots = All-weaker (IsOf f.vars) (IsOf g.vars) (λ l p. (p.0, omega (arith, p.1, more))) d.roots h.roots;
}

-- two drafts have the same layout, words and roots
module _ (nodes : List Node) (formula : List Conjunct) (d e : Draft) (layout : e.layout ≡ d.layout) (words : e.words ≡ d.words) (roots : e.roots ≡ d.roots) where
  same_over : (f : Formula) → IsDraftOver d f → IsDraftOver e f
  same_over f h = record {
    one = h.one;
    variables = subst (λ y. (base y).vars ≤ f.vars) (sym layout) h.variables;
    before = λ first second. subst (λ y. IsOf f.vars (before_literal y first second)) (sym layout) (h.before first second);
    loads = subst (λ y. All (IsOperand f) (load_words y)) (sym layout) h.loads;
    words = subst (All (IsOperand f)) (sym words) h.words;
    roots = subst (All (IsOf f.vars)) (sym roots) h.roots;
  }

  same_says : (w : World) (v : Valuation) → DraftSays nodes formula d w v → DraftSays nodes formula e w v
  same_says w v h = record {
    before = λ first second is. h.before first second (subst (λ y. literal_true v (before_literal y first second) ≡ true) layout is);
    roots = λ k c at. ap (λ ls. literal_true v (get_or ls k (constant false))) roots ∙ h.roots k c at;
    count = ap length roots ∙ h.count;
    loads = ap (λ y. map (int_value v) (load_words y)) layout ∙ h.loads;
    words = λ term. ap (λ ws. int_value v (word_at ws term)) words ∙ h.words term;
  }

-- a draft with more clauses, and with more than these
module _ (nodes : List Node) (formula : List Conjunct) (d e : Draft) (tells : DraftTells nodes formula d) (keeps : KeepsWorlds nodes formula d e) where
  abbrev truths : World → List Bool
  truths w = map (λ (c : Conjunct). body_at nodes w c.body) formula

  pub still_tells : DraftTells nodes formula e
  still_tells = record {
    clauses = keeps.over tells.clauses;
    over = still_over e d.clauses e.clauses keeps.more (same_over nodes formula d e keeps.layout keeps.words keeps.roots d.clauses tells.over);
    says = λ v k same.
        let before : IsModel v d.clauses = record { one = k.one; all = keeps.before v k.all } in
        let there : values v d.roots ≡ truths (world_of d.layout v) =
        ap (values v) (sym keeps.roots) ∙ same ∙ ap (λ y. truths (world_of y v)) keeps.layout in
        subst (λ y. DraftSays nodes formula e (world_of y v) v) (sym keeps.layout)
        (same_says nodes formula d e keeps.layout keeps.words keeps.roots (world_of d.layout v) v (tells.says v before there));
  }

  pub keeps_more : (g : Draft) → KeepsWorlds nodes formula e g → KeepsWorlds nodes formula d g
  keeps_more g next = record {
    layout = next.layout ∙ keeps.layout;
    words = next.words ∙ keeps.words;
    roots = next.roots ∙ keeps.roots;
    more = (let a = keeps.more in let b = next.more in omega (arith, a, b));
    over = λ a. next.over (keeps.over a);
    before = λ v s. keeps.before v (next.before v s);
    extends = λ v k same.
        let u = keeps.extends v k same in
        let vars : (base d.layout).vars ≤ d.clauses.vars = tells.over.variables in
        let more : d.clauses.vars ≤ e.clauses.vars = keeps.more in
        let world : world_of d.layout v ≡ world_of e.layout u.0 =
        same-world d.layout v u.0 (λ n below. u.2 n (omega (arith, below, vars))) ∙ ap (λ y. world_of y u.0) (sym keeps.layout) in
        let t = next.extends u.0 u.1
        (ap (values u.0) keeps.roots ∙ sym (values_agree d.clauses.vars v u.0 d.roots u.2 tells.over.roots) ∙ same ∙ ap truths world) in
        (t.0, t.1, λ n below. u.2 n below ∙ t.2 n (omega (arith, below, more)));
  }
