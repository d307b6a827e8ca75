-- The truth of literals, and of cases with one or two of them, in a world.
use Rattle.std.proofs.Common.{◌≡◌, ℕ, ◌<◌, Bool, true, false, ◌&&◌, ◌||◌, List, [], ◌∷◌, Option, Some, None, refl, ap, ◌∙◌}
use Rattle.std.specs.Prelude.{nat_eq}
use Rattle.std.specs.Bool.{beq}
use Rattle.std.specs.Option.{option_eq}
use Rattle.std.proofs.lemmas.Bool.{false≢true, ltb-true, lt-ltb, eqb-true, eq-eqb}
use Rattle.order_formula.specs.sym_terms.declared.node.Node.{Node}
use Rattle.order_formula.specs.declared.literal.Atom.{Atom}
use Rattle.order_formula.specs.declared.formula.Body.TheVariants.{Any}
use Rattle.order_formula.specs.Worlds.{World, position, is_before, is_ended}
use Rattle.order_formula.specs.Truth.{atom_at, case_at, body_at}
use Rattle.order_events.specs.lawful_order.Events.{ender_of}
use Rattle.condition_order.specs.Conditions.{holds, fails}

pub before_to : (w : World) (a b : ℕ) → is_before w a b ≡ true → position w a < position w b
before_to w a b = ltb-true (position w a) (position w b)

pub before_from : (w : World) (a b : ℕ) → position w a < position w b → is_before w a b ≡ true
before_from w a b = lt-ltb (position w a) (position w b)

same_some : (o : Option ℕ) (g : ℕ) → option_eq nat_eq o (Some g) ≡ true → o ≡ Some g
same_some None g e = absurd (false≢true e)
same_some (Some h) g e = ap (λ k. Some k) (eqb-true h g e)

pub ended_to : (w : World) (s g : ℕ) → is_ended w s g ≡ true → ender_of w s ≡ Some g
ended_to w s g = same_some (ender_of w s) g

pub ended_from : (w : World) (s g : ℕ) → ender_of w s ≡ Some g → is_ended w s g ≡ true
ended_from w s g e = ap (λ o. option_eq nat_eq o (Some g)) e ∙ eq-eqb g g refl

alone_true : (a : Bool) → (beq a true && true) ≡ true → a ≡ true
alone_true true e = refl
alone_true false e = absurd (false≢true e)

alone_false : (a : Bool) → (beq a false && true) ≡ true → a ≡ false
alone_false true e = absurd (false≢true e)
alone_false false e = refl

both_true : (a b : Bool) → (beq a true && (beq b true && true)) ≡ true → (a ≡ true) × (b ≡ true)
both_true true true e = (refl, refl)
both_true true false e = absurd (false≢true e)
both_true false b e = absurd (false≢true e)

if_then : (a b : Bool) → ((beq a false && true) || ((beq b true && true) || false)) ≡ true → a ≡ true → b ≡ true
if_then true true e is = refl
if_then true false e is = absurd (false≢true e)
if_then false b e is = absurd (false≢true is)

if_from : (a b : Bool) → (a ≡ true → b ≡ true) → ((beq a false && true) || ((beq b true && true) || false)) ≡ true
if_from true true f = refl
if_from true false f = f refl
if_from false b f = refl

one_of_two : (a b : Bool) → ((beq a false && true) || ((beq b false && true) || false)) ≡ true → a ≡ true → b ≡ true → ⊥
one_of_two true true e x y = false≢true e
one_of_two true false e x y = false≢true y
one_of_two false b e x y = false≢true x

one_from : (a b : Bool) → (a ≡ true → b ≡ true → ⊥) → ((beq a false && true) || ((beq b false && true) || false)) ≡ true
one_from true true f = absurd (f refl refl)
one_from true false f = refl
one_from false b f = refl

module _ (nodes : List Node) (w : World) where
  pub holds_to : (a : Atom) → case_at nodes w (holds a ∷ []) ≡ true → atom_at nodes w a ≡ true
  holds_to a = alone_true (atom_at nodes w a)

  pub holds_from : (a : Atom) → atom_at nodes w a ≡ true → case_at nodes w (holds a ∷ []) ≡ true
  holds_from a is = ap (λ b. beq b true && true) is

  pub fails_to : (a : Atom) → case_at nodes w (fails a ∷ []) ≡ true → atom_at nodes w a ≡ false
  fails_to a = alone_false (atom_at nodes w a)

  pub fails_from : (a : Atom) → atom_at nodes w a ≡ false → case_at nodes w (fails a ∷ []) ≡ true
  fails_from a is = ap (λ b. beq b false && true) is

  pub both_to : (a b : Atom) → case_at nodes w (holds a ∷ holds b ∷ []) ≡ true → (atom_at nodes w a ≡ true) × (atom_at nodes w b ≡ true)
  both_to a b = both_true (atom_at nodes w a) (atom_at nodes w b)

  pub both_from : (a b : Atom) → atom_at nodes w a ≡ true → atom_at nodes w b ≡ true → case_at nodes w (holds a ∷ holds b ∷ []) ≡ true
  both_from a b x y = ap (λ c. beq c true && (beq (atom_at nodes w b) true && true)) x ∙ ap (λ c. beq c true && true) y

  -- an atom is true if another is
  pub follows_to : (a b : Atom) → body_at nodes w (Any ((fails a ∷ []) ∷ (holds b ∷ []) ∷ [])) ≡ true → atom_at nodes w a ≡ true → atom_at nodes w b ≡ true
  follows_to a b = if_then (atom_at nodes w a) (atom_at nodes w b)

  pub follows_from : (a b : Atom) → (atom_at nodes w a ≡ true → atom_at nodes w b ≡ true)
      → body_at nodes w (Any ((fails a ∷ []) ∷ (holds b ∷ []) ∷ [])) ≡ true
  follows_from a b = if_from (atom_at nodes w a) (atom_at nodes w b)

  -- two atoms aren't both true
  pub excludes_to : (a b : Atom) → body_at nodes w (Any ((fails a ∷ []) ∷ (fails b ∷ []) ∷ [])) ≡ true
      → atom_at nodes w a ≡ true → atom_at nodes w b ≡ true → ⊥
  excludes_to a b = one_of_two (atom_at nodes w a) (atom_at nodes w b)

  pub excludes_from : (a b : Atom) → (atom_at nodes w a ≡ true → atom_at nodes w b ≡ true → ⊥)
      → body_at nodes w (Any ((fails a ∷ []) ∷ (fails b ∷ []) ∷ [])) ≡ true
  excludes_from a b = one_from (atom_at nodes w a) (atom_at nodes w b)
