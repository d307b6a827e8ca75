-- Formulas to which definitions are added, one after another.
use Rattle.std.proofs.Common.{◌≡◌, List, [], ◌∷◌, sym, subst, ◌∙◌, arith, true}
use Rattle.std.proofs.lemmas.Bool.{and_parts}
use Rattle.cnf_core.specs.Clauses.{Formula, Valuation, satisfies}
use Rattle.cnf_core.specs.Gates.{IsOver, Wired, is_block, after_gate, after_gates, extended}
use Rattle.cnf_core.proofs.GateLaws.{IsOver-gate, gate_over, block-keeps}
use Rattle.bit_gates.specs.Extended.{IsExtended, GatesExtend}
use Rattle.bit_gates.proofs.Blocks.{grown_more, model_before}

over_gates : (f : Formula) (gs : List Wired) → is_block f.vars gs ≡ true → IsOver f → IsOver (after_gates f gs)
over_gates f [] b h = h
over_gates f (g ∷ gs) b h = over_gates (after_gate f g) gs (and_parts _ _ b).1 (IsOver-gate f g (gate_over f.vars g (is_block _ gs) b) h)

pub gates-extend : GatesExtend
gates-extend f g one h = record {
  more = grown_more f g h;
  over = λ o. subst IsOver (sym h.formula) (over_gates f h.gates h.block o);
  before = λ w m. model_before w f g h m;
  extends = λ v o m.
      let w : Valuation = extended v f.vars h.gates in
      let b = block-keeps f h.gates v o h.block m.all in
      (w, record { one = sym (b.1 1 (omega (arith, one))) ∙ m.one; all = subst (λ (k : Formula). satisfies w k.clauses ≡ true) (sym h.formula) b.0 }, b.1);
}

pub extended_twice : (f g k : Formula) → IsExtended f g → IsExtended g k → IsExtended f k
extended_twice f g k p q = record {
  more = omega (arith, p.more, q.more);
  over = λ o. q.over (p.over o);
  before = λ w m. p.before w (q.before w m);
  extends = λ v o m.
      let a = p.extends v o m in
      let b = q.extends a.0 (p.over o) a.1 in
      (b.0, b.1, λ n h. a.2 n h ∙ b.2 n (omega (arith, h, p.more)));
}
