-- The header is read back.
use Rattle.std.proofs.Common.{◌≡◌, ◌<◌, ◌≤◌, ◌+◌, ◌*◌, ◌/◌, ◌%◌, ◌++◌, ◌∷◌, [], ℕ, List, Option, Some, None, true, refl, ap, sym, ◌∙◌, arith}
use Rattle.std.specs.Prelude.{codes, MatchOption, ⊤}
use Rattle.std.specs.List.{fold}
use Rattle.std.specs.Option.{option_map_or}
use Rattle.std.specs.Prelude.{nat_lt}
use Rattle.std.specs.Fmt.{decimal}
use Rattle.std.proofs.lemmas.Fmt.{decimal_by_steps}
use borrow.Author.Tests.{ltb-true}
use Rattle.memory_models.specs.Models.{model_name}
use Rattle.memory_models.specs.declared.model.Model.{Model}
use Rattle.memory_models.specs.declared.model.Model.TheVariants.{Sc, Tso, Pso}
use Rattle.refute_check.specs.declared.head.Head.{Head}
use Rattle.refute_check.specs.helpers.Guess.{with_digit, small_number, head_guess}
use Rattle.refute_check.specs.Texts.{switches_text, head_text, is_head, IsNoHead}
use Rattle.std.proofs.lemmas.List.Sums.{fold-append}

abbrev IsReadBack : ℕ → List ℕ → Type 0
IsReadBack n ds = n < 256 → fold with_digit 0 ds ≡ n

read-one : (n : ℕ) → n < 10 → IsReadBack n ((48 + n) ∷ [])
read-one n h b = omega (arith, h, b)

read-more : (n : ℕ) (ds : List ℕ) → 10 ≤ n → IsReadBack (n / 10) ds → IsReadBack n (ds ++ ((48 + n % 10) ∷ []))
read-more n ds h before b =
    let last : (n / 10 * 10 + (48 + n % 10) % 16) % 256 ≡ n = omega (arith, b) in
    fold-append with_digit 0 ds ((48 + n % 10) ∷ []) ∙ ap (λ k. with_digit k (48 + n % 10)) (before (omega (arith, b))) ∙ last

small-decimal : (n : ℕ) → n < 256 → small_number (decimal n) ≡ n
small-decimal n b = decimal_by_steps IsReadBack read-one read-more n (omega (arith, b)) b

by-parts : (m : Model) (s : Option ℕ) → option_map_or (λ k. nat_lt k 256) s true ≡ true
    → head_guess (codes "clap-refutation 2 " ++ model_name m ++ switches_text s) ≡ Some (let h : Head = record { model = m; switches = s } in h)
by-parts Sc None h = refl
by-parts Tso None h = refl
by-parts Pso None h = refl
by-parts Sc (Some k) h = ap (λ n. Some (let h : Head = record { model = Sc; switches = Some n } in h)) (small-decimal k (ltb-true k 256 h))
by-parts Tso (Some k) h = ap (λ n. Some (let h : Head = record { model = Tso; switches = Some n } in h)) (small-decimal k (ltb-true k 256 h))
by-parts Pso (Some k) h = ap (λ n. Some (let h : Head = record { model = Pso; switches = Some n } in h)) (small-decimal k (ltb-true k 256 h))

-- the guess for the text of a header is that header
pub head_guess-head_text : (h : Head) → is_head h ≡ true → head_guess (head_text h) ≡ Some h
head_guess-head_text h r = by-parts h.model h.switches r

-- bytes other than the text of their guess aren't the text of any header
pub no-head : (bytes : List ℕ) (o : Option Head) → head_guess bytes ≡ o → MatchOption o ⊤ (λ h. head_text h ≡ bytes → ⊥) → IsNoHead bytes
no-head bytes None e n h r t = absurd (let g : head_guess bytes ≡ Some h = ap head_guess (sym t) ∙ head_guess-head_text h r in cc)
no-head bytes (Some k) e n h r t =
    let g : head_guess bytes ≡ Some h = ap head_guess (sym t) ∙ head_guess-head_text h r in
    let same : h ≡ k = cc in
    n (ap head_text (sym same) ∙ t)
