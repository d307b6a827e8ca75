-- The number that a text writes.
use Rattle.std.proofs.Common.{◌≡◌, ◌∙◌, ◌<◌, ◌≤◌, ℕ, ap, sym, refl, Bool, true, false, Option, Some, None, Result, Ok, Err, cond}
use Rattle.std.specs.Prelude.{◌^◌, ◌&&◌, nat_le}
use Rattle.std.specs.Str.Parse.{IsNumeral, ParsesUnsigned, digits_value, without_leading_plus}
use Rattle.std.proofs.lemmas.Bool.{le-leb, leb-true}
use Rattle.clap.specs.Words.{Text}
use Rattle.clap.specs.ValueTests.{is_unsigned_in}
use Rattle.clap.specs.declared.builder.value_parser.ValueParser.TheVariants as vp
use Rattle.clap.proofs.ValueTestLemmas.{Accepts-accepts, accepts-Accepts}
use Rattle.clap.proofs.WalkLemmas.{both}
use Rattle.clap_debug_words.specs.Values.{number_named}
use Rattle.clap_debug_words.specs.helpers.Parts.{within}

pub read_number : (low high v : ℕ) (t : Text) → v ≡ digits_value 10 (without_leading_plus t) → IsNumeral 10 (without_leading_plus t)
    → digits_value 10 (without_leading_plus t) < 2 ^ 64 → within low high v ≡ number_named low high t
read_number low high v t is numeral small = go (nat_le low v && nat_le v high) refl (is_unsigned_in low high t) refl
  where
    go : (b : Bool) → (nat_le low v && nat_le v high) ≡ b → (a : Bool) → is_unsigned_in low high t ≡ a
        → cond b (Some v) None ≡ cond a (Some (digits_value 10 (without_leading_plus t))) None
    go true e true f = ap Some is
    go false e false f = refl
    go true e false f =
        let bounds = both _ _ e in
        let yes : is_unsigned_in low high t ≡ true =
        Accepts-accepts false (vp.Unsigned low high) t (numeral, small, rw (← is) (leb-true _ _ bounds.0), rw (← is) (leb-true _ _ bounds.1)) in
        let bad : false ≡ true = sym f ∙ yes in
        cc
    go false e true f =
        let is_in = accepts-Accepts false (vp.Unsigned low high) t f in
        let low_in : low ≤ v = rw is is_in.2 in
        let high_in : v ≤ high = rw is is_in.3 in
        let bad : true ≡ false = rw (le-leb _ _ low_in, le-leb _ _ high_in) at e in
        cc

pub unread_number : (low high : ℕ) (t : Text) → (IsNumeral 10 (without_leading_plus t) × (digits_value 10 (without_leading_plus t) < 2 ^ 64) → ⊥)
    → None ≡ number_named low high t
unread_number low high t bad = go (is_unsigned_in low high t) refl
  where
    go : (a : Bool) → is_unsigned_in low high t ≡ a → None ≡ cond a (Some (digits_value 10 (without_leading_plus t))) None
    go true f =
        let is_in = accepts-Accepts false (vp.Unsigned low high) t f in
        absurd (bad (is_in.0, is_in.1))
    go false f = refl
