-- Words are a program or have exactly one fault.
use Rattle.std.proofs.Common.{
  ◌≡◌,
  ℕ,
  suc,
  ◌+◌,
  ◌-◌,
  ◌<◌,
  ◌≤◌,
  Bool,
  true,
  false,
  List,
  [],
  ◌∷◌,
  ◌++◌,
  length,
  take,
  drop,
  Option,
  Some,
  None,
  is_some,
  refl,
  sym,
  ap,
  ◌∙◌,
  subst,
  arith,
  append_assoc,
  length-append,
  ◌⊎◌,
  inl,
  inr,
}
use Rattle.std.proofs.lemmas.Bool.{cases_lt, false≢true}
use Rattle.std.proofs.lemmas.List.{take-append-drop, take-take}
use Rattle.std.proofs.lemmas.Option.{same_Some}
use Rattle.tc_syntax.specs.tc_lexer.declared.token.Keyword.TheVariants as keyword
use Rattle.tc_syntax.specs.tc_tree.declared.word.Word.{Word}
use Rattle.tc_syntax.specs.tc_tree.declared.word.Word.TheVariants.{Keyword as AKeyword}
use Rattle.tc_syntax.specs.tc_tree.Grammar.{Program, AreOf, IsSpelled, Begins, IsSyntaxFault, globals_then, threads_then, body_then}
use Rattle.tc_syntax.specs.helpers.Reading.{Expected, Globals, skips, step, may_end, at_end, fault}
use Rattle.tc_syntax.proofs.Stands.{Stands, StandsAfter, skip_more}
use Rattle.tc_syntax.proofs.Places.{one_more, are_of, is_syntax_fault}
use Rattle.tc_grammar.proofs.Steps.{Fits, step_fits}

-- ---- one fault

-- a front of words with which a program begins is such words too
begins_fewer : (language : ℕ) (front more : List Word) → Begins language (front ++ more) → Begins language front
begins_fewer language front more b = record {
  program = b.program;
  more = more ++ b.more;
  is = subst (λ (ws : List Word). IsSpelled language ws b.program) (append_assoc front more b.more) b.is;
}

take_fewer : (m n : ℕ) (ws : List Word) → m ≤ n → take n ws ≡ take m ws ++ drop m (take n ws)
take_fewer m n ws h = sym (take-append-drop m (take n ws)) ∙ ap (λ (us : List Word). us ++ drop m (take n ws)) (take-take m n ws h)

no_earlier : (language : ℕ) (ws : List Word) (j k : ℕ) → IsSyntaxFault language ws j → IsSyntaxFault language ws k → j < k → ⊥
no_earlier language ws j k x y h =
    x.after (omega (arith, y.within)) (begins_fewer language (take (j + 1) ws) (drop (j + 1) (take k ws))
    (subst (Begins language) (take_fewer (j + 1) k ws (omega arith)) y.before))

pub one_syntax_fault : (language : ℕ) (ws : List Word) (j k : ℕ) → IsSyntaxFault language ws j → IsSyntaxFault language ws k → j ≡ k
one_syntax_fault language ws j k x y = elim (cases_lt j k) [
  | inl h ↦ absurd (no_earlier language ws j k x y h)
  | inr h ↦ elim (cases_lt k j) [ inl h' ↦ absurd (no_earlier language ws k j y x h') | inr h' ↦ omega arith ]
]

-- ---- a program or a fault

ends_by : (x : Expected) (s : List Expected) (b : Bool) → skips x ≡ b → at_end (elim b [ true ↦ may_end s | false ↦ false ]) ≡ None
    → (at_end (may_end s) ≡ None → Stands s []) → Stands (x ∷ s) []
ends_by x s true e h rest = skip_more x s [] e (rest h)
ends_by x s false e h rest = absurd cc

-- the empty list of words fits where the text may end
ends : (s : List Expected) → at_end (may_end s) ≡ None → Stands s []
ends [] h = refl
ends (x ∷ s) h = ends_by x s (skips x) refl h (ends s)

stands_by : (w : Word) (ws : List Word) (o : Option (List Expected)) → fault o ws ≡ None → ((s : List Expected) → fault (Some s) ws ≡ None → Stands s ws)
    → StandsAfter o ws
stands_by w ws None h rest = absurd cc
stands_by w ws (Some s) h rest = rest s h

-- words without a fault fit
all_stand : (s : List Expected) (ws : List Word) → fault (Some s) ws ≡ None → Stands s ws
all_stand s [] h = ends s h
all_stand s (w ∷ ws) h = one_more s w ws (stands_by w ws (step s w) h (λ t. all_stand t ws))

module _ (language : ℕ) (least : 1 ≤ language) where
  a_program : (ws : List Word) → AreOf language ws → Stands (Globals ∷ []) ws → (p : Program) × IsSpelled language ws p
  a_program ws all (gs, ts, main, rest, gts, gm, is, nil) = (
    record { globals = gs; threads = ts; main = main },
    record {
      spelled = is ∙ ap (λ (us : List Word). globals_then gs (threads_then ts (AKeyword keyword.Main ∷ body_then main us))) nil;
      grouped = (gts, gm);
      language_has = all;
    },
  )

  program_or_place : (ws : List Word) (o : Option ℕ) → AreOf language ws → fault (Some (Globals ∷ [])) ws ≡ o
      → ((p : Program) × IsSpelled language ws p) ⊎ ((k : ℕ) × IsSyntaxFault language ws k)
  program_or_place ws None all h = inl (a_program ws all (all_stand (Globals ∷ []) ws h))
  program_or_place ws (Some left) all h = let there = is_syntax_fault language least ws left all h in inr (_, there.1)

  pub program_or_fault : (ws : List Word) → AreOf language ws → ((p : Program) × IsSpelled language ws p) ⊎ ((k : ℕ) × IsSyntaxFault language ws k)
  program_or_fault ws all = program_or_place ws (fault (Some (Globals ∷ [])) ws) all refl

-- words over which the machine passes are a program
pub where_passed : (ws : List Word) → fault (Some (Globals ∷ [])) ws ≡ None → (p : Program) × IsSpelled 4 ws p
where_passed ws h = a_program 4 (omega arith) ws (are_of ws) (all_stand (Globals ∷ []) ws h)

pub program_or_fault_last : (ws : List Word) → ((p : Program) × IsSpelled 4 ws p) ⊎ ((k : ℕ) × IsSyntaxFault 4 ws k)
program_or_fault_last ws = program_or_fault 4 (omega arith) ws (are_of ws)

-- ---- the fault of words in another language

by_end : (b : Bool) (n : ℕ) → at_end b ≡ Some n → n ≤ 0
by_end true n e = absurd cc
by_end false n e = omega (arith, same_Some 0 n e)

left_small : (o : Option (List Expected)) (ws : List Word) (n : ℕ) → fault o ws ≡ Some n → n ≤ suc (length ws)
left_small None ws n e = omega (arith, same_Some (suc (length ws)) n e)
left_small (Some s) [] n e = omega (arith, by_end (may_end s) n e)
left_small (Some s) (w ∷ ws) n e = omega (arith, left_small (step s w) ws n e)

some_small : (s : List Expected) (ws : List Word) (n : ℕ) → fault (Some s) ws ≡ Some n → n ≤ length ws
some_small s [] n e = by_end (may_end s) n e
some_small s (w ∷ ws) n e = left_small (step s w) ws n e

-- where a word is refused, so is one that may be only where that one may
refused_by : (o p : Option (List Expected)) (after other : List Word) → (is_some p ≡ true → is_some o ≡ true)
    → fault o after ≡ Some (suc (length after)) → fault p other ≡ Some (suc (length other))
refused_by o None after other fits e = refl
refused_by None (Some s) after other fits e = absurd (false≢true (fits refl))
refused_by (Some r) (Some s) after other fits e = absurd (omega (arith, some_small r after (suc (length after)) e))

refused : (o : Option (List Expected)) (front : List Word) (v w : Word) (after other : List Word) → Fits w v
    → fault o (front ++ v ∷ after) ≡ Some (suc (length after)) → fault o (front ++ w ∷ other) ≡ Some (suc (length other))
refused None front v w after other fits e =
    absurd (omega (arith, same_Some (suc (length (front ++ v ∷ after))) (suc (length after)) e, length-append front (v ∷ after)))
refused (Some s) [] v w after other fits e = refused_by (step s v) (step s w) after other (step_fits w v fits s) e
refused (Some s) (u ∷ us) v w after other fits e = refused (step s u) us v w after other fits e

-- the second words begin, if at all, with one that may be only where the first of the first words may
abbrev pub BeginAlike : List Word → List Word → Type 0
BeginAlike [] [] = Unit {0}
BeginAlike (v ∷ vs) (w ∷ ws) = Fits w v
BeginAlike _ _ = ⊥

-- the same k words, and then words that begin alike
pub record AreAlike (k : ℕ) (vs ws : List Word) : Type 0 where
  pub front : List Word
  pub rest : List Word
  pub other : List Word
  pub size : length front ≡ k
  pub first_is : vs ≡ front ++ rest
  pub second_is : ws ≡ front ++ other
  pub alike : BeginAlike rest other

refused_alike : (front rest other : List Word) → BeginAlike rest other → fault (Some (Globals ∷ [])) (front ++ rest) ≡ Some (length rest)
    → fault (Some (Globals ∷ [])) (front ++ other) ≡ Some (length other)
refused_alike front [] [] alike e = e
refused_alike front (v ∷ after) (w ∷ other) fits e = refused (Some (Globals ∷ [])) front v w after other fits e
refused_alike front [] (w ∷ other) alike e = absurd alike
refused_alike front (v ∷ after) [] alike e = absurd alike

-- words of one language that are alike words of another have their fault
module _ (m n : ℕ) (old : 1 ≤ m) (new : 1 ≤ n) (vs ws : List Word) (of_m : AreOf m vs) (of_n : AreOf n ws)
    (k : ℕ) (same : AreAlike k vs ws) (x : IsSyntaxFault m vs k) where
  fault_by : (o : Option ℕ) → fault (Some (Globals ∷ [])) vs ≡ o → IsSyntaxFault n ws k
  fault_by None e = let p = a_program m old vs of_m (all_stand (Globals ∷ []) vs e) in absurd (x.none p.0 p.1)
  fault_by (Some left) e =
      let was = is_syntax_fault m old vs left of_m e in
      let place : length vs - left ≡ k = one_syntax_fault m vs (length vs - left) k was.1 x in
      let whole : length vs ≡ length same.front + length same.rest = ap length same.first_is ∙ length-append same.front same.rest in
      let left_is : left ≡ length same.rest = omega (arith, place, was.0, whole, same.size) in
      let there = refused_alike same.front same.rest same.other same.alike
      (subst (λ (us : List Word). fault (Some (Globals ∷ [])) us ≡ Some (length same.rest)) same.first_is (e ∙ ap (λ (i : ℕ). Some i) left_is)) in
      let now = is_syntax_fault n new ws (length same.other) of_n (ap (λ (us : List Word). fault (Some (Globals ∷ [])) us) same.second_is ∙ there) in
      let long : length ws ≡ length same.front + length same.other = ap length same.second_is ∙ length-append same.front same.other in
      let here : length ws - length same.other ≡ k = omega (arith, long, same.size) in
      subst (λ (i : ℕ). IsSyntaxFault n ws i) here now.1

  pub same_fault : IsSyntaxFault n ws k
  same_fault = fault_by (fault (Some (Globals ∷ [])) vs) refl
