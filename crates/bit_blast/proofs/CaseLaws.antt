-- The meaning of the literals of cases.
use Rattle.std.proofs.Common.{◌≡◌, ℕ, ◌<◌, ◌≤◌, List, [], ◌∷◌, ℤ, pos, refl, ap, ◌∙◌, arith, Bool, true, false, not}
use Rattle.std.specs.Prelude.{◌&&◌, ◌||◌, if◌then◌else◌, fold}
use Rattle.std.specs.Bool.{beq}
use Rattle.std.specs.List.{All, list_all, list_any}
use Rattle.std.specs.Ordering.{int_eq}
use Rattle.std.proofs.lemmas.List.Elements.{All-head, All-tail, All-weaker}
use Rattle.sym_terms.specs.declared.node.Node.{Node}
use Rattle.order_formula.specs.declared.literal.Atom.{Atom}
use Rattle.order_formula.specs.declared.literal.Atom.TheVariants.{Before, Ends, Test}
use Rattle.order_formula.specs.declared.literal.Literal.{Literal}
use Rattle.order_formula.specs.Orders.{Order, AtomIsAsked, LiteralIsAsked}
use Rattle.order_formula.specs.Truth.{atom_at, literal_at, case_at}
use Rattle.order_formula.specs.Worlds.{World, is_before, is_ended}
use Rattle.cnf_core.specs.Clauses.{Formula, Valuation, literal_true}
use Rattle.cnf_core.proofs.GateLaws.{literal_true-neg}
use Rattle.bit_gates.specs.Extended.{IsExtended}
use Rattle.bit_gates.specs.Folded.{Made, constant, kept, opposite, conjunction, disjunction}
use Rattle.bit_gates.specs.Laws.{IsModel, IsOf, IsBit}
use Rattle.bit_gates.proofs.Blocks.{grown_none, grown_twice, IsOf-grown, IsOf-opposite, model_before}
use Rattle.bit_gates.proofs.Extended.{gates-extend}
use Rattle.bit_gates.proofs.Meaning.{both_bit, either_bit, constant_of, constant_value}
use Rattle.bit_ops.specs.bit_arith.Laws.{int_value}
use Rattle.bit_ops.specs.Laws.{IsOperand}
use Rattle.bit_ops.specs.Ops.{some_of}
use Rattle.bit_terms.specs.Terms.{word_at}
use Rattle.bit_terms.proofs.Meaning.{at_operand, nonzero-means}
use Rattle.bit_blast.specs.Cases.{Parts, atom_made, literal_made, with_literal, case_made, with_case}
use Rattle.bit_blast.specs.Laws.{Tells, CasesMean}

-- a literal keeps its meaning while definitions are added
pub bit_stays : (f g : Formula) (l : ℤ) (meaning : Valuation → Bool) → IsExtended f g → IsBit f (kept f l) meaning → IsBit g (kept g l) meaning
bit_stays f g l meaning e h = record {
  grown = grown_none g;
  literal = (h.literal.0, omega (arith, h.literal.1, e.more));
  value = λ w m. h.value w (e.before w m);
}

pub operand_stays : (f g : Formula) (xs : List ℤ) → f.vars ≤ g.vars → IsOperand f xs → IsOperand g xs
operand_stays f g xs more o =
    record { literals = All-weaker (IsOf f.vars) (IsOf g.vars) (λ l k. (k.0, omega (arith, k.1, more))) xs o.literals; width = o.width }

-- a literal has any other meaning that agrees wherever the formula is satisfied
pub bit_for : (f : Formula) (m : Made) (meaning other : Valuation → Bool) → ((w : Valuation) → IsModel w f → meaning w ≡ other w) → IsBit f m meaning → IsBit f m other
bit_for f m meaning other e h =
    record { grown = h.grown; literal = h.literal; value = λ w k. h.value w k ∙ e w (model_before w f m.formula h.grown k) }

pub bit_constant : (f : Formula) (b : Bool) → 0 < f.vars → IsBit f (kept f (constant b)) (λ _. b)
bit_constant f b one = record { grown = grown_none f; literal = constant_of f.vars b one; value = λ w m. constant_value w b m.one }

pub bit_opposite : (f : Formula) (m : Made) (meaning : Valuation → Bool) → IsBit f m meaning → IsBit f (opposite m) (λ w. not (meaning w))
bit_opposite f m meaning h = record {
  grown = h.grown;
  literal = IsOf-opposite m.formula.vars m.literal h.literal;
  value = λ w k. literal_true-neg w m.literal h.literal.0 ∙ ap not (h.value w k);
}

-- a literal, and another that is made after it, keep their meanings
pub bit_both : (f : Formula) (m x : Made) (first second : Valuation → Bool) → IsBit f m first → IsBit m.formula x second
    → IsBit f (conjunction x.formula m.literal x.literal) (λ w. first w && second w)
bit_both f m x first second a b =
    let g : Formula = m.formula in
    let k : Formula = x.formula in
    let h = both_bit k m.literal x.literal (IsOf-grown g k m.literal b.grown a.literal) b.literal in
    let out : Formula = (conjunction k m.literal x.literal).formula in
    record {
      grown = grown_twice f k out (grown_twice f g k a.grown b.grown) h.grown;
      literal = h.literal;
      value = λ w o.
          let ok : IsModel w k = model_before w k out h.grown o in
          h.value w o ∙ ap (λ p. p && literal_true w x.literal) (a.value w (model_before w g k b.grown ok)) ∙ ap (λ p. first w && p) (b.value w ok);
    }

pub bit_either : (f : Formula) (m x : Made) (first second : Valuation → Bool) → IsBit f m first → IsBit m.formula x second
    → IsBit f (disjunction x.formula m.literal x.literal) (λ w. first w || second w)
bit_either f m x first second a b =
    let g : Formula = m.formula in
    let k : Formula = x.formula in
    let h = either_bit k m.literal x.literal (IsOf-grown g k m.literal b.grown a.literal) b.literal in
    let out : Formula = (disjunction k m.literal x.literal).formula in
    record {
      grown = grown_twice f k out (grown_twice f g k a.grown b.grown) h.grown;
      literal = h.literal;
      value = λ w o.
          let ok : IsModel w k = model_before w k out h.grown o in
          h.value w o ∙ ap (λ p. p || literal_true w x.literal) (a.value w (model_before w g k b.grown ok)) ∙ ap (λ p. first w || p) (b.value w ok);
    }

and_true : (p : Bool) → p ≡ (p && true)
and_true true = refl
and_true false = refl

and_assoc : (p q r : Bool) → ((p && q) && r) ≡ (p && (q && r))
and_assoc true q r = refl
and_assoc false q r = refl

pub or_false : (p : Bool) → p ≡ (p || false)
or_false true = refl
or_false false = refl

or_assoc : (p q r : Bool) → ((p || q) || r) ≡ (p || (q || r))
or_assoc true q r = refl
or_assoc false q r = refl

as_wanted : (p wanted : Bool) → (if wanted then p else not p) ≡ beq p wanted
as_wanted true true = refl
as_wanted true false = refl
as_wanted false true = refl
as_wanted false false = refl

module _ (o : Order) (nodes : List Node) (world : Valuation → World) (parts : Parts) where
  -- a formula describes the same world while definitions are added
  pub tells_more : (f g : Formula) → IsExtended f g → Tells o nodes world parts f → Tells o nodes world parts g
  tells_more f g e t = record {
    one = omega (arith, t.one, e.more);
    worlds = t.worlds;
    events = t.events;
    same = λ v w h. t.same v w (λ k below. h k (omega (arith, below, e.more)));
    before = λ a b asked. bit_stays f g (parts.before a b) (λ v. is_before (world v) a b) e (t.before a b asked);
    ends = λ s b asked. bit_stays f g (parts.ends s b) (λ v. is_ended (world v) s b) e (t.ends s b asked);
    words = All-weaker (IsOperand f) (IsOperand g) (λ xs k. operand_stays f g xs e.more k) parts.words t.words;
    value = λ v m term. t.value v (e.before v m) term;
  }

  pub tells_grown : (f : Formula) (m : Made) (meaning : Valuation → Bool) → IsBit f m meaning → Tells o nodes world parts f → Tells o nodes world parts m.formula
  tells_grown f m meaning h t = tells_more f m.formula (gates-extend f m.formula t.one h.grown) t

  pub test_bit : (f : Formula) (term : ℕ) → Tells o nodes world parts f → IsBit f (some_of f (word_at parts.words term)) (λ v. atom_at nodes (world v) (Test term))
  test_bit f term t =
      let xs : List ℤ = word_at parts.words term in
      bit_for f (some_of f xs) (λ w. not (int_eq (int_value w xs) (pos 0))) (λ v. atom_at nodes (world v) (Test term))
      (λ w m. ap (λ z. not (int_eq z (pos 0))) (t.value w m term)) (nonzero-means f xs t.one (at_operand f parts.words term t.one t.words))

  atom_bit : (f : Formula) (atom : Atom) → Tells o nodes world parts f → AtomIsAsked o atom → IsBit f (atom_made parts f atom) (λ v. atom_at nodes (world v) atom)
  atom_bit f (Before first second) t h = t.before first second h
  atom_bit f (Ends sleep by) t h = t.ends sleep by h
  atom_bit f (Test term) t h = test_bit f term t

  wanted_bit : (f : Formula) (atom : Atom) (wanted : Bool) → Tells o nodes world parts f → AtomIsAsked o atom
      → IsBit f (let m : Made = atom_made parts f atom in if wanted then m else opposite m) (λ v. beq (atom_at nodes (world v) atom) wanted)
  wanted_bit f atom true t h =
      bit_for f (atom_made parts f atom) (λ v. atom_at nodes (world v) atom) (λ v. beq (atom_at nodes (world v) atom) true)
      (λ w _. as_wanted (atom_at nodes (world w) atom) true) (atom_bit f atom t h)
  wanted_bit f atom false t h =
      bit_for f (opposite (atom_made parts f atom)) (λ v. not (atom_at nodes (world v) atom)) (λ v. beq (atom_at nodes (world v) atom) false)
      (λ w _. as_wanted (atom_at nodes (world w) atom) false) (bit_opposite f (atom_made parts f atom) (λ v. atom_at nodes (world v) atom) (atom_bit f atom t h))

  literal_bit : (f : Formula) (l : Literal) → Tells o nodes world parts f → LiteralIsAsked o l → IsBit f (literal_made parts f l) (λ v. literal_at nodes (world v) l)
  literal_bit f l t h = wanted_bit f l.atom l.wanted t h

  literals_bit : (f : Formula) (m : Made) (known : Valuation → Bool) (ls : List Literal) → Tells o nodes world parts f → All (LiteralIsAsked o) ls → IsBit f m known
      → IsBit f (fold (with_literal parts) m ls) (λ v. known v && list_all (literal_at nodes (world v)) ls)
  literals_bit f m known [] t a h = bit_for f m known (λ v. known v && true) (λ w _. and_true (known w)) h
  literals_bit f m known (l ∷ ls) t a h =
      let here : Valuation → Bool = λ v. literal_at nodes (world v) l in
      let next = bit_both f m (literal_made parts m.formula l) known here h
      (literal_bit m.formula l (tells_grown f m known h t) (All-head (LiteralIsAsked o) l ls a)) in
      let r = literals_bit f (with_literal parts m l) (λ v. known v && here v) ls t (All-tail (LiteralIsAsked o) l ls a) next in
      bit_for f (fold (with_literal parts) (with_literal parts m l) ls) (λ v. (known v && here v) && list_all (literal_at nodes (world v)) ls)
      (λ v. known v && (here v && list_all (literal_at nodes (world v)) ls)) (λ w _. and_assoc (known w) (here w) (list_all (literal_at nodes (world w)) ls)) r

  case_bit : (f : Formula) (ls : List Literal) → Tells o nodes world parts f → All (LiteralIsAsked o) ls → IsBit f (case_made parts f ls) (λ v. case_at nodes (world v) ls)
  case_bit f ls t a = literals_bit f (kept f (constant true)) (λ _. true) ls t a (bit_constant f true t.one)

  each_bit : (f : Formula) (m : Made) (known : Valuation → Bool) (cases : List (List Literal)) → Tells o nodes world parts f → All (All (LiteralIsAsked o)) cases
      → IsBit f m known → IsBit f (fold (with_case parts) m cases) (λ v. known v || list_any (case_at nodes (world v)) cases)
  each_bit f m known [] t a h = bit_for f m known (λ v. known v || false) (λ w _. or_false (known w)) h
  each_bit f m known (c ∷ cs) t a h =
      let here : Valuation → Bool = λ v. case_at nodes (world v) c in
      let next = bit_either f m (case_made parts m.formula c) known here h
      (case_bit m.formula c (tells_grown f m known h t) (All-head (All (LiteralIsAsked o)) c cs a)) in
      let r = each_bit f (with_case parts m c) (λ v. known v || here v) cs t (All-tail (All (LiteralIsAsked o)) c cs a) next in
      bit_for f (fold (with_case parts) (with_case parts m c) cs) (λ v. (known v || here v) || list_any (case_at nodes (world v)) cs)
      (λ v. known v || (here v || list_any (case_at nodes (world v)) cs)) (λ w _. or_assoc (known w) (here w) (list_any (case_at nodes (world w)) cs)) r

pub cases-mean : CasesMean
cases-mean o nodes world parts f cases t a =
    each_bit o nodes world parts f (kept f (constant false)) (λ _. false) cases t a (bit_constant f false t.one)
