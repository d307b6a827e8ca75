-- A question of an order keeps its number, and a formula's questions are in an order that it was
-- added to.
use Rattle.std.proofs.Common.{◌≡◌, ℕ, Bool, true, false, ◌||◌, ◌&&◌, ◌==◌, List, [], ◌∷◌, ◌++◌, refl, ap, sym, ◌∙◌, arith}
use Rattle.std.specs.Prelude.{fold}
use Rattle.std.specs.List.{All, list_any, position_or_len}
use Rattle.std.proofs.Math.Bool.{or-true, true-or}
use Rattle.std.proofs.lemmas.Bool.{false≢true, and_from, eq-eqb}
use Rattle.std.proofs.lemmas.List.{append-nil, append_assoc}
use Rattle.std.proofs.lemmas.List.Elements.{All-nil, All-cons, All-head, All-tail}
use Rattle.std.proofs.lemmas.List.Folds.{list_any-append}
use Rattle.indexmap.specs.IndexSet.{insert_key}
use Rattle.order_formula.specs.declared.order.Pair.{Pair}
use Rattle.order_formula.specs.declared.order.Choice.{Choice}
use Rattle.order_formula.specs.declared.literal.Atom.{Atom}
use Rattle.order_formula.specs.declared.literal.Atom.TheVariants.{Before, Ends, Test}
use Rattle.order_formula.specs.declared.literal.Literal.{Literal}
use Rattle.order_formula.specs.declared.formula.Body.{Body}
use Rattle.order_formula.specs.declared.formula.Body.TheVariants as body
use Rattle.order_formula.specs.declared.formula.Conjunct.{Conjunct}
use Rattle.order_formula.specs.Orders.{Order, Grows, pair_of, same_pair, same_choice, pair_number, choice_number}
use Rattle.order_formula.specs.Orders.{with_atom, with_case, with_body, with_conjunct, with_formula}
use Rattle.order_formula.specs.Orders.{AtomIsAsked, LiteralIsAsked, BodyIsAsked, ConjunctIsAsked, IsAsked}

-- a list with more at its end
abbrev Longer : {K : Type 0} → List K → List K → Type 0
Longer xs ys = (more : List _) × (ys ≡ xs ++ more)

longer_none : {K : Type 0} (xs : List K) → Longer xs xs
longer_none xs = ([], sym (append-nil xs))

longer_more : {K : Type 0} (xs ys zs : List K) → Longer xs ys → Longer ys zs → Longer xs zs
longer_more xs ys zs a b = (a.0 ++ b.0, b.1 ∙ ap (λ w. w ++ b.0) a.1 ∙ append_assoc xs a.0 b.0)

longer_key : {K : Type 0} (e : K → K → Bool) (ks : List K) (k : K) → Longer ks (insert_key e ks k)
longer_key e ks k = by (list_any (e k) ks) refl
  where
    by : (b : Bool) → list_any (e k) ks ≡ b → Longer ks (insert_key e ks k)
    by true is = rw is (longer_none ks)
    by false is = rw is (k ∷ [], refl)

-- an element that passes in a list passes in a longer list, where the first that passes is the same
any_longer : {K : Type 0} (q : K → Bool) (xs ys : List K) → Longer xs ys → list_any q xs ≡ true → list_any q ys ≡ true
any_longer q xs ys l any = ap (list_any q) l.1 ∙ list_any-append q xs l.0 ∙ ap (λ b. b || list_any q l.0) any ∙ true-or (list_any q l.0)

first_append : {K : Type 0} (q : K → Bool) (xs more : List K) → list_any q xs ≡ true → position_or_len q (xs ++ more) ≡ position_or_len q xs
first_append q [] more any = absurd (false≢true any)
first_append q (x ∷ xs) more any = grind (arith, first_append q xs more)

first_longer : {K : Type 0} (q : K → Bool) (xs ys : List K) → Longer xs ys → list_any q xs ≡ true → position_or_len q ys ≡ position_or_len q xs
first_longer q xs ys l any = ap (position_or_len q) l.1 ∙ first_append q xs l.0 any

-- an inserted key is in the list
any_key : {K : Type 0} (e : K → K → Bool) (ks : List K) (k : K) → e k k ≡ true → list_any (e k) (insert_key e ks k) ≡ true
any_key e ks k same = by (list_any (e k) ks) refl
  where
    by : (b : Bool) → list_any (e k) ks ≡ b → list_any (e k) (insert_key e ks k) ≡ true
    by true is = rw is is
    by false is = rw is (list_any-append (e k) ks (k ∷ []) ∙ ap (λ b. list_any (e k) ks || (b || false)) same ∙ or-true (list_any (e k) ks))

-- orders grow
grows_none : (o : Order) → Grows o o
grows_none o = record { events = refl; sleeps = refl; pairs = longer_none o.pairs; choices = longer_none o.choices }

grows_more : (o p q : Order) → Grows o p → Grows p q → Grows o q
grows_more o p q a b = record {
  events = b.events ∙ a.events;
  sleeps = b.sleeps ∙ a.sleeps;
  pairs = longer_more o.pairs p.pairs q.pairs a.pairs b.pairs;
  choices = longer_more o.choices p.choices q.choices a.choices b.choices;
}

grows_atom : (o : Order) (a : Atom) → Grows o (with_atom o a)
grows_atom o (Before first second) =
    record { events = refl; sleeps = refl; pairs = longer_key same_pair o.pairs (pair_of first second); choices = longer_none o.choices }
grows_atom o (Ends sleep by) =
    record { events = refl; sleeps = refl; pairs = longer_none o.pairs; choices = longer_key same_choice o.choices (record { sleep = sleep; by = by }) }
grows_atom o (Test term) = grows_none o

-- an order that grows by each part grows by all
grows_fold : {X : Type 0} (with : Order → X → Order) → ((o : Order) (x : X) → Grows o (with o x)) → (o : Order) (xs : List X) → Grows o (fold with o xs)
grows_fold with each o [] = grows_none o
grows_fold with each o (x ∷ xs) = grows_more o (with o x) (fold with (with o x) xs) (each o x) (grows_fold with each (with o x) xs)

abbrev with_literal : Order → Literal → Order
with_literal o l = with_atom o l.atom

grows_case : (o : Order) (ls : List Literal) → Grows o (with_case o ls)
grows_case o ls = grows_fold with_literal (λ p l. grows_atom p l.atom) o ls

grows_body : (o : Order) (b : Body) → Grows o (with_body o b)
grows_body o (body.Any cases) = grows_fold with_case grows_case o cases
grows_body o (body.Read r) = grows_none o

pub grows_formula : (o : Order) (formula : List Conjunct) → Grows o (with_formula o formula)
grows_formula o formula = grows_fold with_conjunct (λ p c. grows_body p c.body) o formula

-- questions stay in an order that grows
all_stay : {X : Type 0} (Is : Order → X → Type 0) → ((o p : Order) (x : X) → Grows o p → Is o x → Is p x)
    → (o p : Order) (xs : List X) → Grows o p → All (Is o) xs → All (Is p) xs
all_stay Is each o p [] g all = All-nil (Is p)
all_stay Is each o p (x ∷ xs) g all =
    All-cons (Is p) x xs (each o p x g (All-head (Is o) x xs all)) (all_stay Is each o p xs g (All-tail (Is o) x xs all))

atom_stays : (o p : Order) (a : Atom) → Grows o p → AtomIsAsked o a → AtomIsAsked p a
atom_stays o p (Before first second) g asked = any_longer (same_pair (pair_of first second)) o.pairs p.pairs g.pairs asked
atom_stays o p (Ends sleep by) g asked = any_longer (same_choice (record { sleep = sleep; by = by })) o.choices p.choices g.choices asked
atom_stays o p (Test term) g asked = asked

literal_stays : (o p : Order) (l : Literal) → Grows o p → LiteralIsAsked o l → LiteralIsAsked p l
literal_stays o p l = atom_stays o p l.atom

case_stays : (o p : Order) (ls : List Literal) → Grows o p → All (LiteralIsAsked o) ls → All (LiteralIsAsked p) ls
case_stays = all_stay LiteralIsAsked literal_stays

body_stays : (o p : Order) (b : Body) → Grows o p → BodyIsAsked o b → BodyIsAsked p b
body_stays o p (body.Any cases) g asked = all_stay (λ q. All (LiteralIsAsked q)) case_stays o p cases g asked
body_stays o p (body.Read r) g asked = asked

conjunct_stays : (o p : Order) (c : Conjunct) → Grows o p → ConjunctIsAsked o c → ConjunctIsAsked p c
conjunct_stays o p c = body_stays o p c.body

pub formula_stays : (o p : Order) (formula : List Conjunct) → Grows o p → IsAsked o formula → IsAsked p formula
formula_stays = all_stay ConjunctIsAsked conjunct_stays

pub pair_stays : (o p : Order) (pair : Pair) → Grows o p → list_any (same_pair pair) o.pairs ≡ true → pair_number p pair ≡ pair_number o pair
pair_stays o p pair g any = first_longer (same_pair pair) o.pairs p.pairs g.pairs any

pub choice_stays : (o p : Order) (choice : Choice) → Grows o p → list_any (same_choice choice) o.choices ≡ true
    → choice_number p choice ≡ choice_number o choice
choice_stays o p choice g any = first_longer (same_choice choice) o.choices p.choices g.choices any

-- the question of each part is in the order with all parts
all_asked : {X : Type 0} (with : Order → X → Order) (Is : Order → X → Type 0) → ((o : Order) (x : X) → Grows o (with o x))
    → ((o p : Order) (x : X) → Grows o p → Is o x → Is p x) → ((o : Order) (x : X) → Is (with o x) x)
    → (o : Order) (xs : List X) → All (Is (fold with o xs)) xs
all_asked with Is grow stay ask o [] = All-nil (Is o)
all_asked with Is grow stay ask o (x ∷ xs) =
    let after = fold with (with o x) xs in
    All-cons (Is after) x xs (stay (with o x) after x (grows_fold with grow (with o x) xs) (ask o x)) (all_asked with Is grow stay ask (with o x) xs)

same_two : (a b : ℕ) → (a == a && b == b) ≡ true
same_two a b = and_from (a == a) (b == b) (eq-eqb a a refl) (eq-eqb b b refl)

atom_asked : (o : Order) (a : Atom) → AtomIsAsked (with_atom o a) a
atom_asked o (Before first second) =
    let p = pair_of first second in any_key same_pair o.pairs p (same_two p.lesser p.greater)
atom_asked o (Ends sleep by) = any_key same_choice o.choices (record { sleep = sleep; by = by }) (same_two sleep by)
atom_asked o (Test term) = tt

case_asked : (o : Order) (ls : List Literal) → All (LiteralIsAsked (with_case o ls)) ls
case_asked = all_asked with_literal LiteralIsAsked (λ o l. grows_atom o l.atom) literal_stays (λ o l. atom_asked o l.atom)

body_asked : (o : Order) (b : Body) → BodyIsAsked (with_body o b) b
body_asked o (body.Any cases) = all_asked with_case (λ q. All (LiteralIsAsked q)) grows_case case_stays case_asked o cases
body_asked o (body.Read r) = tt

pub formula_asked : (o : Order) (formula : List Conjunct) → IsAsked (with_formula o formula) formula
formula_asked = all_asked with_conjunct ConjunctIsAsked (λ o c. grows_body o c.body) conjunct_stays (λ o c. body_asked o c.body)
