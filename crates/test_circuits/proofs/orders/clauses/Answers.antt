use Rattle.std.proofs.Common.{◌≡◌, ℕ, ◌+◌, ◌*◌, ◌≤◌, List, [], ◌∷◌, ◌++◌, ap, sym, ◌∙◌, subst, arith, length, sum_by}
use Rattle.std.specs.List.{All}
use Rattle.std.proofs.lemmas.List.Elements.{All-nil, All-cons}
use Rattle.std.proofs.lemmas.List.Sums.{sum_by-cons}
use Rattle.order_formula.specs.declared.formula.Body.{Body}
use Rattle.order_formula.specs.declared.formula.Body.TheVariants as body
use Rattle.order_formula.specs.declared.formula.Conjunct.{Conjunct}
use Rattle.order_formula.specs.declared.literal.Atom.{Atom}
use Rattle.order_formula.specs.declared.literal.Atom.TheVariants.{Before, Ends, Test}
use Rattle.order_formula.specs.declared.literal.Literal.{Literal}
use Rattle.order_formula.specs.Formulas.{LiteralIsOf, BodyIsOf, ConjunctIsOf}
use Rattle.order_formula.specs.Orders.{Order, LiteralIsIn, BodyIsIn, ConjunctIsIn, order_without_questions}
use Rattle.bit_blast.specs.bit_terms.Sizes.{terms_size}
use Rattle.bit_blast.specs.Sizes.{atom_size, literal_size, case_size, body_size, size_of}
use Rattle.bit_blast.proofs.Completed.{same_size}
use Rattle.test_circuits.proofs.orders.clauses.Goals as goal

-- a property of one element holds for all of a list with only this element
one_element : {X : Type 0} (P : X → Type 0) (x : X) (none all : List X) → none ≡ [] → all ≡ none ++ x ∷ [] → P x → All P all
one_element P x none all empty is p = subst (All P) (sym (is ∙ ap (λ xs. xs ++ x ∷ []) empty)) (All-cons P x [] p (All-nil P))

-- a conjunct with one case
in_order : (o : Order) (b : Body) (ls : List Literal) → b ≡ body.Any (ls ∷ []) → All (LiteralIsIn o) ls → BodyIsIn o b
in_order o b ls is all =
    subst (BodyIsIn o) (sym is) (All-cons (All (LiteralIsIn o)) ls [] all (All-nil (All (LiteralIsIn o))))

of_terms : (n : ℕ) (b : Body) (ls : List Literal) → b ≡ body.Any (ls ∷ []) → All (LiteralIsOf n) ls → BodyIsOf n b
of_terms n b ls is all =
    subst (BodyIsOf n) (sym is) (All-cons (All (LiteralIsOf n)) ls [] all (All-nil (All (LiteralIsOf n))))

atom_few : (a : Atom) → atom_size a ≤ 96
atom_few (Before first second) = omega arith
atom_few (Ends sleep by) = omega arith
atom_few (Test term) = omega arith

literals_few : (ls : List Literal) → sum_by literal_size ls ≤ 99 * length ls
literals_few [] = omega arith
literals_few (l ∷ ls) = omega (arith, sum_by-cons literal_size l ls, atom_few l.atom, literals_few ls)

pub push-requires : goal.push-requires
push-requires c =
    in_order c.empty-order.result c.in_ok-conjunct.conjunct.body c.in_ok-literals.literals.items c.in_ok-conjunct.ensures
    (c.in_ok-literals.ensures.within c.empty-order.result (ap (λ (o : Order). o.events) c.empty-order.ensures))

pub blast-requires-clause-terms : goal.blast-requires-clause-terms
blast-requires-clause-terms c =
    let n : ℕ = length c.new.result in
    one_element (ConjunctIsOf n) c.in_ok-conjunct.conjunct c.empty-formula.result c.push.new.self c.empty-formula.ensures c.in_ok-push.ensures.added
    (of_terms n c.in_ok-conjunct.conjunct.body c.in_ok-literals.literals.items c.in_ok-conjunct.ensures (c.in_ok-literals.ensures.of n))

pub blast-requires-clause-within : goal.blast-requires-clause-within
blast-requires-clause-within c =
    let o : Order = c.push.new.order in
    one_element (ConjunctIsIn o) c.in_ok-conjunct.conjunct c.empty-formula.result c.push.new.self c.empty-formula.ensures c.in_ok-push.ensures.added
    (in_order o c.in_ok-conjunct.conjunct.body c.in_ok-literals.literals.items c.in_ok-conjunct.ensures
    (c.in_ok-literals.ensures.within o (c.in_ok-push.ensures.grows.events ∙ ap (λ (e : Order). e.events) c.empty-order.ensures)))

pub blast-requires-clause-room : goal.blast-requires-clause-room
blast-requires-clause-room c =
    let o : Order = c.push.new.order in
    let k : Conjunct = c.in_ok-conjunct.conjunct in
    let ls : List Literal = c.in_ok-literals.literals.items in
    let formula : List Conjunct = c.push.new.self in
    let events : o.events ≡ 3 = c.in_ok-push.ensures.grows.events ∙ ap (λ (e : Order). e.events) c.empty-order.ensures in
    let sleeps : o.sleeps ≡ 0 = c.in_ok-push.ensures.grows.sleeps ∙ ap (λ (e : Order). e.sleeps) c.empty-order.ensures in
    let whole : formula ≡ k ∷ [] = c.in_ok-push.ensures.added ∙ ap (λ (cs : List Conjunct). cs ++ k ∷ []) c.empty-formula.ensures in
    omega (
      arith,
      same_size (order_without_questions 3 0) o 0 c.new.result formula events sleeps,
      ap terms_size c.new.ensures,
      ap size_of whole,
      sum_by-cons (λ (d : Conjunct). body_size d.body + 1) k [],
      ap body_size c.in_ok-conjunct.ensures,
      sum_by-cons case_size ls [],
      literals_few ls,
      c.if-len-gt3.false,
      c.len.ensures,
    )
