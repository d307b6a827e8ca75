-- The header is read back.
use Rattle.std.proofs.Common.{◌≡◌, ◌<◌, ◌++◌, ◌∷◌, ℕ, List, Option, Some, None, Bool, true, false, refl, ap, sym, ◌∙◌, arith}
use Rattle.std.specs.Prelude.{nat_eq, MatchOption, ⊤, option_map, length}
use Rattle.std.specs.Fmt.{decimal}
use Rattle.std.proofs.lemmas.Bool.{ltb-true}
use Rattle.memory_models.specs.declared.model.Model.{Model}
use Rattle.memory_models.specs.declared.model.Model.TheVariants.{Sc, Tso, Pso}
use Rattle.log_walk.specs.declared.bounds.Kind.{Kind}
use Rattle.log_walk.specs.declared.bounds.Kind.TheVariants.{Failure, Deadlock}
use Rattle.tc_decimal.proofs.Decimals.{front_again}
use Rattle.none_certificates.specs.declared.header.Header.{Header}
use Rattle.none_certificates.specs.Certificates.{is_header}
use Rattle.none_certificates.specs.Texts.{extent_text, header_text, IsNoHeader}
use Rattle.none_certificates.specs.helpers.Guess.{header_by, header_guess}

abbrev header_of : Model → Kind → ℕ → Bool → Header
header_of model kind most whole = record { model = model; bounds = record { kind = kind; most = most }; whole = whole }

extent-again : (whole : Bool) → nat_eq (length (32 ∷ extent_text whole)) 6 ≡ whole
extent-again true = refl
extent-again false = refl

number-again : (m : Model) (k : Kind) (n : ℕ) (whole : Bool) → n < 65536
    → header_by m k (decimal n ++ 32 ∷ extent_text whole) ≡ Some (header_of m k n whole)
number-again m k n whole h =
    ap (option_map (λ (x : ℕ × List ℕ). header_of m k x.0 (nat_eq (length x.1) 6)))
    (front_again 0 65535 n (32 ∷ extent_text whole) (omega arith) (omega (arith, h)) (omega arith) refl)
    ∙ ap (λ b. Some (header_of m k n b)) (extent-again whole)

parts-again : (m : Model) (k : Kind) (n : ℕ) (whole : Bool) → n < 65536 → header_guess (header_text (header_of m k n whole)) ≡ Some (header_of m k n whole)
parts-again Sc Failure n whole h = number-again Sc Failure n whole h
parts-again Sc Deadlock n whole h = number-again Sc Deadlock n whole h
parts-again Tso Failure n whole h = number-again Tso Failure n whole h
parts-again Tso Deadlock n whole h = number-again Tso Deadlock n whole h
parts-again Pso Failure n whole h = number-again Pso Failure n whole h
parts-again Pso Deadlock n whole h = number-again Pso Deadlock n whole h

-- the guess for the text of a header is that header
pub header_guess-header_text : (h : Header) → is_header h ≡ true → header_guess (header_text h) ≡ Some h
header_guess-header_text h r = parts-again h.model h.bounds.kind h.bounds.most h.whole (ltb-true h.bounds.most 65536 r)

-- bytes other than the text of their guess aren't the text of any header
pub no-header : (bytes : List ℕ) (o : Option Header) → header_guess bytes ≡ o → MatchOption o ⊤ (λ h. header_text h ≡ bytes → ⊥) → IsNoHeader bytes
no-header bytes None e n h r t = absurd (let g : header_guess bytes ≡ Some h = ap header_guess (sym t) ∙ header_guess-header_text h r in cc)
no-header bytes (Some k) e n h r t =
    let g : header_guess bytes ≡ Some h = ap header_guess (sym t) ∙ header_guess-header_text h r in
    let same : h ≡ k = cc in
    n (ap header_text (sym same) ∙ t)
