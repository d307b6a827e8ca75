-- A program begins with the words that the machine took, and none continues with a word that it
-- refused.
use Rattle.std.proofs.Common.{
  ◌≡◌,
  ℕ,
  suc,
  ◌+◌,
  ◌-◌,
  ◌<◌,
  ◌≤◌,
  List,
  [],
  ◌∷◌,
  ◌++◌,
  length,
  take,
  true,
  false,
  Bool,
  Option,
  Some,
  None,
  refl,
  sym,
  ap,
  subst,
  ◌∙◌,
  append_assoc,
  arith,
  length-append,
  ◌⊎◌,
  inl,
  inr,
  pos,
}
use Rattle.std.proofs.lemmas.List.{append-nil}
use Rattle.std.proofs.Math.Seq.{take-append_seam, take-append-add}
use Rattle.tc_lexer.specs.declared.place.Place.{Place}
use Rattle.tc_lexer.proofs.LaterLanguages.{keyword_small, sign_small}
use Rattle.tc_lexer.specs.declared.token.Keyword.TheVariants as keyword
use Rattle.tc_lexer.specs.declared.token.Sign.TheVariants as sign
use Rattle.tc_tree.specs.declared.statement.Barrier.TheVariants.{Fence, Stores}
use Rattle.tc_tree.specs.declared.statement.Target.{Target}
use Rattle.tc_tree.specs.declared.statement.Target.TheVariants as target
use Rattle.tc_tree.specs.declared.statement.UpdateKind.{UpdateKind}
use Rattle.tc_tree.specs.declared.statement.UpdateKind.TheVariants as kind
use Rattle.tc_tree.specs.declared.expression.Name.{Name}
use Rattle.tc_tree.specs.declared.expression.Number.{Number as TreeNumber}
use Rattle.tc_tree.specs.declared.word.Word.{Word}
use Rattle.tc_tree.specs.declared.word.Word.TheVariants.{
  Name as AName,
  Number as ANumber,
  Barrier as ABarrier,
  Update as AnUpdate,
  Keyword as AKeyword,
  Sign as ASign,
  End as AnEnd,
}
use Rattle.tc_tree.specs.Words.{word_since, update_since}
use Rattle.tc_tree.specs.Grammar.{
  Program,
  program_words,
  globals_then,
  threads_then,
  body_then,
  IsWellProgram,
  AreOf,
  IsSpelled,
  Begins,
  IsSyntaxFault,
  Number,
  Nil,
  Assign,
  Else,
}
use Rattle.tc_tree.specs.declared.program.Global.TheVariants.{Int}
use Rattle.tc_tree.specs.declared.program.Initial.TheVariants.{Zero, Plain}
use Rattle.tc_syntax.specs.helpers.Reading.{
  Expected,
  Just,
  End,
  AnyName,
  AnyNumber,
  AnInt,
  Operand,
  Subscript,
  Operators,
  Arguments,
  Others,
  Statements,
  AfterName,
  AfterAssign,
  Alternative,
  AfterElse,
  Locals,
  Parameters,
  OtherParameters,
  Globals,
  Threads,
  AfterGlobal,
  Initial,
  first,
  skips,
  step,
  may_end,
  at_end,
  fault,
}
use Rattle.tc_syntax.specs.declared.reader.Stop.{Stop}
use Rattle.tc_syntax.specs.declared.reader.Stop.TheVariants.{Memory, Left}
use Rattle.tc_syntax.specs.Faults.{IsStop}
use Rattle.tc_syntax.specs.helpers.Read.{Ends}
use Rattle.tc_syntax.proofs.Stands.{Stands, StandsAfter, StandsThen, first_more, skip_more}
use Rattle.tc_syntax.proofs.Early.{are_early, early_after, early_rest, early_sign, step_early}
use Rattle.tc_syntax.proofs.Trees.{program_read}

-- if words fit after a step over a word, the word fits together with them
by_first : (x : Expected) (s : List Expected) (w : Word) (ws : List Word) (o : Option (List Expected)) → first x w ≡ o → (b : Bool) → skips x ≡ b
    → (StandsAfter (step s w) ws → Stands s (w ∷ ws)) → StandsAfter
    (elim o [ Some es ↦ Some (es ++ s) | None ↦ elim b [ true ↦ step s w | false ↦ None ] ]) ws → Stands (x ∷ s) (w ∷ ws)
by_first x s w ws (Some es) e b f more d = first_more x w s ws (subst (λ (o : Option (List Expected)). StandsThen o s ws) (sym e) d)
by_first x s w ws None e true f more d = skip_more x s (w ∷ ws) f (more d)
by_first x s w ws None e false f more d = absurd d

pub one_more : (s : List Expected) (w : Word) (ws : List Word) → StandsAfter (step s w) ws → Stands s (w ∷ ws)
one_more [] w ws d = absurd d
one_more (x ∷ s) w ws d = by_first x s w ws (first x w) refl (skips x) refl (one_more s w ws) d

a_place : Place
a_place = record { line = 1; col = 1 }

a_name : Name
a_name = record { start = 0; end = 0; place = a_place }

a_number : TreeNumber
a_number = record { value = pos 0; place = a_place }

-- some words always fit
finish : (s : List Expected) → (ws : List Word) × Stands s ws
finish [] = ([], refl)
finish (Just k ∷ s) = let f = finish s in (ASign k ∷ f.0, (f.0, refl, f.1))
finish (End ∷ s) = let f = finish s in (AnEnd a_place ∷ f.0, (a_place, f.0, refl, f.1))
finish (AnyName ∷ s) = let f = finish s in (AName a_name ∷ f.0, (a_name, f.0, refl, f.1))
finish (AnyNumber ∷ s) = let f = finish s in (ANumber a_number ∷ f.0, (a_number, f.0, refl, f.1))
finish (AnInt ∷ s) = let f = finish s in (AKeyword keyword.Int ∷ f.0, (f.0, refl, f.1))
finish (Operand ∷ s) = let f = finish s in (ANumber a_number ∷ f.0, (Number a_number, f.0, tt, omega arith, refl, f.1))
finish (AfterName ∷ s) = let f = finish s in (
  ASign sign.Assign ∷ ANumber a_number ∷ ASign sign.Semicolon ∷ f.0,
  (f.0, (λ x. (Assign x (Number a_number), tt, refl)), f.1),
)
finish (AfterAssign ∷ s) = let f = finish s in (ANumber a_number ∷ ASign sign.Semicolon ∷ f.0, (f.0, (λ x. (Assign x (Number a_number), tt, refl)), f.1))
finish (AfterElse ∷ s) = let f = finish s in (ASign sign.OpenBrace ∷ AnEnd a_place ∷ f.0, (Else Nil a_place, f.0, tt, refl, f.1))
finish (Globals ∷ s) = let f = finish s in (
  AKeyword keyword.Main ∷ ASign sign.OpenBrace ∷ AnEnd a_place ∷ f.0,
  ([], [], record { locals = []; statements = Nil; end = a_place }, f.0, tt, tt, refl, f.1),
)
finish (Threads ∷ s) = let f = finish s in (
  AKeyword keyword.Main ∷ ASign sign.OpenBrace ∷ AnEnd a_place ∷ f.0,
  ([], record { locals = []; statements = Nil; end = a_place }, f.0, tt, tt, refl, f.1),
)
finish (AfterGlobal ∷ s) = let f = finish s in (ASign sign.Semicolon ∷ f.0, (f.0, (λ x. (Int x Zero, refl)), f.1))
finish (Initial ∷ s) = let f = finish s in (ANumber a_number ∷ ASign sign.Semicolon ∷ f.0, (f.0, Plain a_number, refl, f.1))
finish (Subscript ∷ s) = let f = finish s in (f.0, skip_more Subscript s f.0 refl f.1)
finish (Operators ∷ s) = let f = finish s in (f.0, skip_more Operators s f.0 refl f.1)
finish (Arguments ∷ s) = let f = finish s in (f.0, skip_more Arguments s f.0 refl f.1)
finish (Others ∷ s) = let f = finish s in (f.0, skip_more Others s f.0 refl f.1)
finish (Statements ∷ s) = let f = finish s in (f.0, skip_more Statements s f.0 refl f.1)
finish (Alternative ∷ s) = let f = finish s in (f.0, skip_more Alternative s f.0 refl f.1)
finish (Locals ∷ s) = let f = finish s in (f.0, skip_more Locals s f.0 refl f.1)
finish (Parameters ∷ s) = let f = finish s in (f.0, skip_more Parameters s f.0 refl f.1)
finish (OtherParameters ∷ s) = let f = finish s in (f.0, skip_more OtherParameters s f.0 refl f.1)

-- ---- every word is one of the last language

pub update_small : (k : UpdateKind) (t : Target) → update_since k t ≤ 4
update_small kind.Add t = omega arith
update_small kind.Swap target.Cell = omega arith
update_small kind.Swap target.Element = omega arith
update_small kind.Cas target.Cell = omega arith
update_small kind.Cas target.Element = omega arith

word_small : (w : Word) → word_since w ≤ 4
word_small (AKeyword k) = omega (arith, keyword_small k)
word_small (ASign k) = omega (arith, sign_small k)
word_small (ABarrier Fence p) = omega arith
word_small (ABarrier Stores p) = omega arith
word_small (AnUpdate k t) = update_small k t
word_small _ = omega arith

pub are_of : (ws : List Word) → AreOf 4 ws
are_of [] = tt
are_of (w ∷ ws) = (word_small w, are_of ws)

-- ---- words that complete a text are of each language

of_append : (language : ℕ) (ws us : List Word) → AreOf language ws → AreOf language us → AreOf language (ws ++ us)
of_append language [] us f g = g
of_append language (w ∷ ws) us f g = (f.0, of_append language ws us f.1 g)

module _ (language : ℕ) (least : 1 ≤ language) where
  finish_of : (s : List Expected) → are_early s ≡ true → AreOf language (finish s).0
  unfolding finish
  finish_of [] h = tt
  finish_of (Just k ∷ s) h = (omega (arith, least, early_sign k s h), finish_of s (early_rest (Just k) s h))
  finish_of (End ∷ s) h = (least, finish_of s (early_rest End s h))
  finish_of (AnyName ∷ s) h = (least, finish_of s (early_rest AnyName s h))
  finish_of (AnyNumber ∷ s) h = (least, finish_of s (early_rest AnyNumber s h))
  finish_of (AnInt ∷ s) h = (least, finish_of s (early_rest AnInt s h))
  finish_of (Operand ∷ s) h = (least, finish_of s (early_rest Operand s h))
  finish_of (AfterName ∷ s) h = (least, (least, (least, finish_of s (early_rest AfterName s h))))
  finish_of (AfterAssign ∷ s) h = (least, (least, finish_of s (early_rest AfterAssign s h)))
  finish_of (AfterElse ∷ s) h = (least, (least, finish_of s (early_rest AfterElse s h)))
  finish_of (Globals ∷ s) h = (least, (least, (least, finish_of s (early_rest Globals s h))))
  finish_of (Threads ∷ s) h = (least, (least, (least, finish_of s (early_rest Threads s h))))
  finish_of (AfterGlobal ∷ s) h = (least, finish_of s (early_rest AfterGlobal s h))
  finish_of (Initial ∷ s) h = (least, (least, finish_of s (early_rest Initial s h)))
  finish_of (Subscript ∷ s) h = finish_of s (early_rest Subscript s h)
  finish_of (Operators ∷ s) h = finish_of s (early_rest Operators s h)
  finish_of (Arguments ∷ s) h = finish_of s (early_rest Arguments s h)
  finish_of (Others ∷ s) h = finish_of s (early_rest Others s h)
  finish_of (Statements ∷ s) h = finish_of s (early_rest Statements s h)
  finish_of (Alternative ∷ s) h = finish_of s (early_rest Alternative s h)
  finish_of (Locals ∷ s) h = finish_of s (early_rest Locals s h)
  finish_of (Parameters ∷ s) h = finish_of s (early_rest Parameters s h)
  finish_of (OtherParameters ∷ s) h = finish_of s (early_rest OtherParameters s h)

-- ---- programs

-- any words that fit what is expected complete the words before them to a program
abbrev Completes : List Expected → List Word → Type 0
Completes s before = (ws : List Word) → Stands s ws → (p : Program) × IsWellProgram p × (before ++ ws ≡ program_words p)

completes_more : (s s' : List Expected) (w : Word) (before : List Word) → step s w ≡ Some s' → Completes s before → Completes s' (before ++ w ∷ [])
completes_more s s' w before e fits ws d =
    let g = fits (w ∷ ws) (one_more s w ws (subst (λ (o : Option (List Expected)). StandsAfter o ws) (sym e) d)) in
    (g.0, g.1, append_assoc before (w ∷ []) ws ∙ g.2)

completes_start : Completes (Globals ∷ []) []
completes_start ws (gs, ts, main, rest, gts, gm, is, nil) = (
  record { globals = gs; threads = ts; main = main },
  (gts, gm),
  is
      ∙ ap (λ (us : List Word). globals_then gs (threads_then ts (AKeyword keyword.Main ∷ body_then main us))) nil,
)

some_is : (m n : ℕ) → Some m ≡ Some n → m ≡ n
some_is m n e = cc

at_end_is : (b : Bool) (left : ℕ) → at_end b ≡ Some left → 0 ≡ left
at_end_is true left e = absurd cc
at_end_is false left e = cc

option_cases : (o : Option (List Expected)) → (o ≡ None) ⊎ ((s : List Expected) × (o ≡ Some s))
option_cases None = inl refl
option_cases (Some s) = inr (s, refl)

-- the words before the fault, and the words from the fault on
record Cut (language : ℕ) (s : List Expected) (before ws : List Word) (left : ℕ) : Type 0 where
  front : List Word
  rest : List Word
  whole : ws ≡ front ++ rest
  count : length rest ≡ left
  begins : Begins language (before ++ front)
  refused : (w : Word) (after more : List Word) → rest ≡ w ∷ after → fault (Some s) (front ++ w ∷ more) ≡ Some (suc (length more))

module _ (language : ℕ) (least : 1 ≤ language) where
  fits_begins : (s : List Expected) (before : List Word) → are_early s ≡ true → AreOf language before → Completes s before → Begins language before
  fits_begins s before early own fits =
      let f = finish s in
      let g = fits f.0 f.1 in
      record {
        program = g.0;
        more = f.0;
        is = record { spelled = g.2; grouped = g.1; language_has = of_append language before f.0 own (finish_of language least s early) };
      }

  cut_here : (s : List Expected) (before : List Word) (w : Word) (ws : List Word) (left : ℕ) → step s w ≡ None → suc (length ws) ≡ left → are_early s ≡ true
      → AreOf language before → Completes s before
      → Cut language s before (w ∷ ws) left
  cut_here s before w ws left e n early own fits = record {
    front = [];
    rest = w ∷ ws;
    whole = refl;
    count = n;
    begins = subst (Begins language) (sym (append-nil before)) (fits_begins s before early own fits);
    refused = λ u after more same. let head : w ≡ u = cc
        in subst (λ (v : Word). fault (step s v) more ≡ Some (suc (length more))) head
        (subst (λ (o : Option (List Expected)). fault o more ≡ Some (suc (length more))) (sym e) refl);
  }

  cut_later : (s s' : List Expected) (before : List Word) (w : Word) (ws : List Word) (left : ℕ) → step s w ≡ Some s'
      → Cut language s' (before ++ w ∷ []) ws left → Cut language s before (w ∷ ws) left
  cut_later s s' before w ws left e c = record {
    front = w ∷ c.front;
    rest = c.rest;
    whole = ap (λ (us : List Word). w ∷ us) c.whole;
    count = c.count;
    begins = subst (Begins language) (append_assoc before (w ∷ []) c.front) c.begins;
    refused = λ u after more same. subst (λ (o : Option (List Expected)). fault o (c.front ++ u ∷ more) ≡ Some (suc (length more))) (sym e)
        (c.refused u after more same);
  }

  cut : (s : List Expected) (before ws : List Word) (left : ℕ) → fault (Some s) ws ≡ Some left → are_early s ≡ true → AreOf language before → AreOf language ws
      → Completes s before → Cut language s before ws left
  cut s before [] left e early own all fits = record {
    front = [];
    rest = [];
    whole = refl;
    count = at_end_is (may_end s) left e;
    begins = subst (Begins language) (sym (append-nil before)) (fits_begins s before early own fits);
    refused = λ u after more same. absurd cc;
  }
  cut s before (w ∷ ws) left e early own all fits =
      elim (option_cases (step s w)) [
        | inl none ↦ cut_here s before w ws left none (some_is (suc (length ws)) left
            (subst (λ (o : Option (List Expected)). fault o ws ≡ Some left) none e)) early own fits
        | inr some ↦ cut_later s some.0 before w ws left some.1
            (cut some.0 (before ++ w ∷ []) ws left (subst (λ (o : Option (List Expected)). fault o ws ≡ Some left) some.1 e)
            (subst (λ (o : Option (List Expected)). early_after o ≡ true) some.1 (step_early s w early))
            (of_append language before (w ∷ []) own (all.0, tt)) all.1
            (completes_more s some.0 w before some.1 fits))
      ]

  never : (front : List Word) (w : Word) → ((more : List Word) → fault (Some (Globals ∷ [])) (front ++ w ∷ more) ≡ Some (suc (length more)))
      → Begins language (front ++ w ∷ []) → ⊥
  never front w refused b =
      let here = refused b.more in
      let spelled : front ++ w ∷ b.more ≡ program_words b.program = sym (append_assoc front (w ∷ []) b.more) ∙ b.is.spelled in
      let read = program_read b.program in
      let moved = ap (λ (ws : List Word). fault (Some (Globals ∷ [])) ws) spelled in
      cc

  after_front : (front rest : List Word) → length front < length (front ++ rest)
      → ((w : Word) (after more : List Word) → rest ≡ w ∷ after → fault (Some (Globals ∷ [])) (front ++ w ∷ more) ≡ Some (suc (length more)))
      → Begins language (take (length front + 1) (front ++ rest)) → ⊥
  after_front front [] h refused b = absurd (omega (arith, length-append front [], h))
  after_front front (w ∷ after) h refused b = never front w (λ more. refused w after more refl) (subst (Begins language) (take-append-add front (w ∷ after) 1) b)

  fault_at : (front rest : List Word) → Begins language front
      → ((w : Word) (after more : List Word) → rest ≡ w ∷ after → fault (Some (Globals ∷ [])) (front ++ w ∷ more) ≡ Some (suc (length more)))
      → ((p : Program) → IsSpelled language (front ++ rest) p → ⊥) → IsSyntaxFault language (front ++ rest) (length front)
  fault_at front rest begins refused none = record {
    within = omega (arith, length-append front rest);
    before = subst (Begins language) (sym (take-append_seam front rest)) begins;
    after = λ h b. after_front front rest h refused b;
    none = none;
  }

  no_program : (ws : List Word) (left : ℕ) → fault (Some (Globals ∷ [])) ws ≡ Some left → (p : Program) → IsSpelled language ws p → ⊥
  no_program ws left e p is =
      let read = program_read p in
      let moved = ap (λ (us : List Word). fault (Some (Globals ∷ [])) us) is.spelled in
      cc

  -- if the machine refuses, the fault is that of the definition
  pub is_syntax_fault : (ws : List Word) (left : ℕ) → AreOf language ws → fault (Some (Globals ∷ [])) ws ≡ Some left
      → (left ≤ length ws) × IsSyntaxFault language ws (length ws - left)
  is_syntax_fault ws left all e =
      let c = cut (Globals ∷ []) [] ws left e refl tt all completes_start in
      let size : length ws ≡ length c.front + left = ap length c.whole ∙ length-append c.front c.rest ∙ ap (λ (n : ℕ). length c.front + n) c.count in
      let place : length ws - left ≡ length c.front = omega (arith, size) in
      let at_front = fault_at c.front c.rest c.begins c.refused
      (λ p is. no_program ws left e p (subst (λ (us : List Word). IsSpelled language us p) (sym c.whole) is)) in (
        omega (arith, size),
        subst (λ (k : ℕ). IsSyntaxFault language ws k) (sym place)
            (subst (λ (us : List Word). IsSyntaxFault language us (length c.front)) (sym c.whole) at_front),
      )

pub is_stop : (ws : List Word) (stop : Stop) → Ends ws stop → IsStop 4 ws stop
is_stop ws Memory h = tt
is_stop ws (Left n) h = is_syntax_fault 4 (omega arith) ws n (are_of ws) h
