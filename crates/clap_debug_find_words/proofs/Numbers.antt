-- The value of an option that takes a number.
use Rattle.std.proofs.Common.{◌≡◌, ◌∙◌, ◌<◌, ◌≤◌, ℕ, ap, sym, refl, Bool, true, false, Option, Some, None, Result, Ok, Err, cond}
use Rattle.std.specs.Prelude.{◌^◌, ◌&&◌, nat_le}
use Rattle.std.specs.Option.{option_map_or}
use Rattle.std.specs.Str.Parse.{IsNumeral, ParsesUnsigned, digits_value, without_leading_plus}
use Rattle.std.proofs.lemmas.Bool.{le-leb, leb-true}
use Rattle.clap.specs.Words.{ReadsOne, Text}
use Rattle.clap.specs.ValueTests.{is_unsigned_in}
use Rattle.clap.specs.declared.builder.value_parser.ValueParser.TheVariants as vp
use Rattle.clap.proofs.ValueTestLemmas.{Accepts-accepts, accepts-Accepts}
use Rattle.clap.proofs.WalkLemmas.{both}
use Rattle.clap_debug_find_words.specs.Values.{within, number_in}

read_number : (low high default v : ℕ) (t : Text) → v ≡ digits_value 10 (without_leading_plus t) → IsNumeral 10 (without_leading_plus t)
    → digits_value 10 (without_leading_plus t) < 2 ^ 64 → number_in low high default t ≡ within low high default (Some v)
read_number low high default v t is numeral small = go (nat_le low v && nat_le v high) refl (is_unsigned_in low high t) refl
  where
    go : (b : Bool) → (nat_le low v && nat_le v high) ≡ b → (a : Bool) → is_unsigned_in low high t ≡ a
        → cond a (digits_value 10 (without_leading_plus t)) default ≡ cond b v default
    go true e true f = sym is
    go false e false f = refl
    go true e false f =
        let bounds = both _ _ e in
        let yes : is_unsigned_in low high t ≡ true =
        Accepts-accepts false (vp.Unsigned low high) t (numeral, small, rw (← is) (leb-true _ _ bounds.0), rw (← is) (leb-true _ _ bounds.1)) in
        let bad : false ≡ true = sym f ∙ yes in
        cc
    go false e true f =
        let is_in = accepts-Accepts false (vp.Unsigned low high) t f in
        let low_in : low ≤ v = rw is is_in.2 in
        let high_in : v ≤ high = rw is is_in.3 in
        let bad : true ≡ false = rw (le-leb _ _ low_in, le-leb _ _ high_in) at e in
        cc

unread_number : (low high default : ℕ) (t : Text) → (IsNumeral 10 (without_leading_plus t) × (digits_value 10 (without_leading_plus t) < 2 ^ 64) → ⊥)
    → number_in low high default t ≡ default
unread_number low high default t bad = go (is_unsigned_in low high t) refl
  where
    go : (a : Bool) → is_unsigned_in low high t ≡ a → cond a (digits_value 10 (without_leading_plus t)) default ≡ default
    go true f =
        let is_in = accepts-Accepts false (vp.Unsigned low high) t f in
        absurd (bad (is_in.0, is_in.1))
    go false f = refl

pub number_is : {E : Type 0} (G : Text → Result ℕ E → Type 0) (low high default : ℕ) (r : Option ℕ) (o : Option Text)
    → ((t : Text) (x : Result ℕ E) → G t x → ParsesUnsigned 64 10 t x) → (o ≡ None → r ≡ None) → ((t : Text) → o ≡ Some t → ReadsOne G t r)
    → within low high default r ≡ option_map_or (number_in low high default) o default
number_is G low high default r None only none value = ap (within low high default) (none refl)
number_is G low high default r (Some t) only none value = go r (value t refl)
  where
    go : (r : Option ℕ) → ReadsOne G t r → within low high default r ≡ number_in low high default t
    go (Some v) h =
        let parsed = only t (Ok v) h in
        sym (read_number low high default v t parsed.1 parsed.0.0 parsed.0.1)
    go None h = sym (unread_number low high default t (λ p. only t (Err h.0) h.1 p))
