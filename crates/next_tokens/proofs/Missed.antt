-- No kind of tokens is missed: where a program goes on with a token, some program goes on with each token of its kind.
use Rattle.std.proofs.Common.{◌≡◌, ◌∙◌, ◌⊎◌, inl, inr, ℕ, Bool, true, false, List, [], ◌∷◌, ◌++◌, map, Option, Some, None, is_some, refl, sym, ap, subst, arith, eq-eqb}
use Rattle.std.specs.Prelude.{◌&&◌, if◌then◌else◌, unwrap_or}
use Rattle.std.proofs.lemmas.Bool.{false≢true, cases_Bool}
use Rattle.std.proofs.lemmas.List.{map-append}
use Rattle.tc_lexer.specs.declared.place.Place.{Place}
use Rattle.tc_lexer.specs.declared.token.Sign.TheVariants as sign
use Rattle.tc_lexer.specs.declared.token.Token.{Token}
use Rattle.tc_lexer.specs.declared.token.TokenKind.{TokenKind}
use Rattle.tc_tree.specs.declared.expression.Name.{Name}
use Rattle.tc_tree.specs.declared.statement.Target.{Target}
use Rattle.tc_tree.specs.declared.statement.Target.TheVariants.{Cell}
use Rattle.tc_tree.specs.declared.statement.UpdateKind.{UpdateKind}
use Rattle.tc_tree.specs.declared.statement.UpdateKind.TheVariants.{Add}
use Rattle.tc_tree.specs.declared.word.Word.{Word}
use Rattle.tc_tree.specs.declared.word.Word.TheVariants.{Name as AName, Update as AnUpdate, Sign as ASign}
use Rattle.tc_tree.specs.Grammar.{Begins}
use Rattle.tc_tree.specs.Words.{kind_word, word_of, words_of, is_name, is_assign, is_add, begin_call, target_of, called_word, word_after, words_after}
use Rattle.tc_syntax.specs.helpers.Reading.{Expected, Just, AnyName, AfterAssign, Globals, an_index, operands, an_update, first, skips, step, may_end, at_end, fault}
use Rattle.tc_syntax.proofs.Places.{are_of, is_syntax_fault}
use Rattle.tc_syntax.proofs.Trees.{program_read}
use Rattle.tc_parser.proofs.tc_grammar.Faults.{where_passed}
use Rattle.tc_parser.proofs.tc_grammar.Steps.{Fits, step_fits}
use Rattle.next_tokens.specs.Next.{sample, AreProgram, GoesOnWith}
use Rattle.next_tokens.specs.helpers.Searched.{IsLeft}
use Rattle.next_tokens.proofs.Stops.{begins_by}
use Rattle.next_tokens.proofs.Shapes.{shape, fits_shape, kind_shape, call_same, third_same, name_same, sample_fits}

-- ---- words that the machine passes

abbrev Passed : Option (List Expected) → List Word → Type 0
Passed None ws = ⊥
Passed (Some s) [] = Unit {0}
Passed (Some s) (w ∷ ws) = Passed (step s w) ws

passed_all : (o : Option (List Expected)) (ws : List Word) → fault o ws ≡ None → Passed o ws
passed_all None ws e = absurd cc
passed_all (Some s) [] e = tt
passed_all (Some s) (w ∷ ws) e = passed_all (step s w) ws e

end_left : (b : Bool) → unwrap_or (at_end b) 0 ≡ 0
end_left true = refl
end_left false = refl

none_left : (o : Option (List Expected)) (ws : List Word) → Passed o ws → unwrap_or (fault o ws) 0 ≡ 0
none_left None ws passed = absurd passed
none_left (Some s) [] passed = end_left (may_end s)
none_left (Some s) (w ∷ ws) passed = none_left (step s w) ws passed

is_left : (ws : List Word) (o : Option ℕ) → fault (Some (Globals ∷ [])) ws ≡ o → IsLeft ws o
is_left ws None e = where_passed ws e
is_left ws (Some n) e = is_syntax_fault 4 (omega arith) ws n (are_of ws) e

begins_passed : (ws : List Word) → Passed (Some (Globals ∷ [])) ws → Begins 4 ws
begins_passed ws passed =
    let left = fault (Some (Globals ∷ [])) ws in
    (begins_by ws left (is_left ws left refl)).0 (eq-eqb (unwrap_or left 0) 0 (none_left (Some (Globals ∷ [])) ws passed))

some_passed : (o : Option (List Expected)) (ws : List Word) → Passed o ws → is_some o ≡ true
some_passed None ws passed = absurd passed
some_passed (Some s) ws passed = refl

one_passed : (o : Option (List Expected)) → is_some o ≡ true → Passed o []
one_passed None h = absurd (false≢true h)
one_passed (Some s) h = tt

on : (o : Option (List Expected)) (ws us : List Word) → ((s : List Expected) → Passed (Some s) ws → Passed (Some s) us) → Passed o ws → Passed o us
on None ws us goes passed = passed
on (Some s) ws us goes passed = goes s passed

-- ---- an update of another target

other_by : (b : Bool) (k : UpdateKind) (u : Target) (s : List Expected) (v : Word)
    → (is_some (step s v) ≡ true → (s' : List Expected) × (step s (AnUpdate k u) ≡ Some (an_update k u ++ s')))
    → is_some (elim b [ true ↦ step s v | false ↦ None ]) ≡ true
    → (s' : List Expected) × (elim b [ true ↦ step s (AnUpdate k u) | false ↦ None ] ≡ Some (an_update k u ++ s'))
other_by true k u s v later h = later h
other_by false k u s v later h = absurd (false≢true h)

other_target : (k : UpdateKind) (t u : Target) (s : List Expected) → is_some (step s (AnUpdate k t)) ≡ true
    → (s' : List Expected) × (step s (AnUpdate k u) ≡ Some (an_update k u ++ s'))
other_target k t u [] h = absurd (false≢true h)
other_target k t u (AfterAssign ∷ s) h = (s, refl)
other_target k t u (x ∷ s) h = other_by (skips x) k u s (AnUpdate k t) (other_target k t u s) h

-- the words before `(` differ in the target at most
record IsUpdate (w v v' : Word) : Type 0 where
  kind : UpdateKind
  before : Target
  now : Target
  was : v ≡ AnUpdate kind before
  is : v' ≡ AnUpdate kind now
  unassigned : is_assign w ≡ false

by_add : (b : Bool) (x : Name) (t u : Target)
    → ((if b then AnUpdate Add t else AName x) ≡ (if b then AnUpdate Add u else AName x))
    ⊎ IsUpdate (AName x) (if b then AnUpdate Add t else AName x) (if b then AnUpdate Add u else AName x)
by_add true x t u = inr (record { kind = Add; before = t; now = u; was = refl; is = refl; unassigned = refl })
by_add false x t u = inl refl

by_word : (text : List ℕ) (w : Word) (xs ys : List Word)
    → (called_word text w xs ≡ called_word text w ys) ⊎ IsUpdate w (called_word text w xs) (called_word text w ys)
by_word text (AName x) xs ys = by_add (is_add text x) x (target_of xs) (target_of ys)
by_word text (AnUpdate k t) xs ys =
    inr (record { kind = k; before = target_of xs; now = target_of ys; was = refl; is = refl; unassigned = refl })
by_word text _ xs ys = inl refl

called_same : (text : List ℕ) (w : Word) (xs ys : List Word) → target_of xs ≡ target_of ys → called_word text w xs ≡ called_word text w ys
called_same text (AName x) xs ys same = ap (λ (t : Target). if is_add text x then AnUpdate Add t else AName x) same
called_same text (AnUpdate k t) xs ys same = ap (AnUpdate k) same
called_same text _ xs ys same = refl

after_same : (text : List ℕ) (assigned : Bool) (w : Word) (xs ys : List Word) → begin_call xs ≡ begin_call ys → target_of xs ≡ target_of ys
    → word_after text assigned w xs ≡ word_after text assigned w ys
after_same text assigned w xs ys calls same =
    ap (λ (b : Bool). if assigned && b then called_word text w xs else w) calls
    ∙ ap (λ (v : Word). if assigned && begin_call ys then v else w) (called_same text w xs ys same)

-- the word is the same, or an update of perhaps another target, before `(`
changed_by : (text : List ℕ) (b : Bool) (w : Word) (xs ys : List Word)
    → ((if b then called_word text w xs else w) ≡ (if b then called_word text w ys else w))
    ⊎ ((b ≡ true) × IsUpdate w (if b then called_word text w xs else w) (if b then called_word text w ys else w))
changed_by text false w xs ys = inl refl
changed_by text true w xs ys = elim (by_word text w xs ys) [ inl same ↦ inl same | inr is ↦ inr (refl, is) ]

and_call : (a b : Bool) → a && b ≡ true → b ≡ true
and_call true b h = h
and_call false b h = absurd (false≢true h)

changed : (text : List ℕ) (assigned : Bool) (w : Word) (xs ys : List Word) → begin_call xs ≡ begin_call ys
    → (word_after text assigned w xs ≡ word_after text assigned w ys)
    ⊎ ((begin_call ys ≡ true) × IsUpdate w (word_after text assigned w xs) (word_after text assigned w ys))
changed text assigned w xs ys calls =
    subst (λ (b : Bool). ((if assigned && b then called_word text w xs else w) ≡ word_after text assigned w ys)
    ⊎ ((begin_call ys ≡ true) × IsUpdate w (if assigned && b then called_word text w xs else w) (word_after text assigned w ys))) (sym calls)
    (elim (changed_by text (assigned && begin_call ys) w xs ys) [
      | inl same ↦ inl same
      | inr is ↦ inr (and_call assigned (begin_call ys) is.0, is.1)
    ])

-- ---- words that end at a token of the same kind

unassigned_last : (text : List ℕ) (assigned : Bool) (w : Word) → word_after text assigned w [] ≡ w
unassigned_last text true w = refl
unassigned_last text false w = refl

call_first : (w : Word) (xs ys : List Word) → begin_call (w ∷ xs) ≡ begin_call (w ∷ ys)
call_first (ASign sign.OpenParen) xs ys = refl
call_first (ASign _) xs ys = refl
call_first _ xs ys = refl

is_open : (w : Word) (xs : List Word) → begin_call (w ∷ xs) ≡ true → w ≡ ASign sign.OpenParen
is_open (ASign sign.OpenParen) xs h = refl
is_open (ASign _) xs h = absurd (false≢true h)
is_open _ xs h = absurd (false≢true h)

second_cell : (a w : Word) (xs : List Word) → is_name w ≡ false → target_of (a ∷ w ∷ xs) ≡ Cell
second_cell a (AName x) xs h = absurd (false≢true (sym h))
second_cell a _ xs h = refl

fourth_same : (a b c : Word) (xs ys : List Word) → target_of (a ∷ b ∷ c ∷ xs) ≡ target_of (a ∷ b ∷ c ∷ ys)
fourth_same a b c xs ys = third_same a b c c xs ys refl

name_may : (w : Word) (s : List Expected) → is_name w ≡ true → is_some (step (AnyName ∷ s) w) ≡ true
name_may (AName x) s h = refl
name_may _ s h = absurd (false≢true h)

module _ (text : List ℕ) (k : TokenKind) (start end : ℕ) (p : Place) (more : List Word) where
  abbrev u : Word
  u = kind_word k start end p

  abbrev v : Word
  v = word_of (sample k)

  same : shape u ≡ shape v
  same = kind_shape k start end p

  -- the words of a text up to its last token
  abbrev Shorter : List Word → Type 0
  Shorter ws = (named assigned : Bool) (s : List Expected) → Passed (Some s) (words_after text named assigned (ws ++ u ∷ more))
      → Passed (Some s) (words_after text named assigned (ws ++ v ∷ []))

  last_fits : (b : Bool) → Fits (if b then called_word text u more else u) v
  last_fits true = sample_fits text k start end p more
  last_fits false = fits_shape u v same

  last : Shorter []
  last named assigned s passed =
      let w = word_after text assigned u more in
      let rest = words_after text (is_name u) (is_assign u && named) more in
      subst (λ (x : Word). Passed (step s x) []) (sym (unassigned_last text assigned v))
      (one_passed (step s v) (step_fits w v (last_fits (assigned && begin_call more)) s (some_passed (step s w) rest passed)))

  calls_same : (ws : List Word) → begin_call (ws ++ u ∷ more) ≡ begin_call (ws ++ v ∷ [])
  calls_same [] = call_same u v more [] same
  calls_same (w ∷ ws) = call_first w (ws ++ u ∷ more) (ws ++ v ∷ [])

  -- after `=` and an update, `(` and a name may be, whatever the target
  record Updated (w : Word) (ws : List Word) : Type 0 where
    passed : (named : Bool) (kind : UpdateKind) (target : Target) (s : List Expected) → is_assign w ≡ false
        → Passed (Some (an_update kind target ++ s)) (words_after text (is_name w) (is_assign w && named) (ws ++ v ∷ []))

  module _ (w : Word) (ws : List Word) (shorter : Shorter ws) where
    same_word : (named assigned : Bool) (s : List Expected)
        → word_after text assigned w (ws ++ u ∷ more) ≡ word_after text assigned w (ws ++ v ∷ [])
        → Passed (Some s) (words_after text named assigned (w ∷ ws ++ u ∷ more)) → Passed (Some s) (words_after text named assigned (w ∷ ws ++ v ∷ []))
    same_word named assigned s is passed =
        let one = words_after text (is_name w) (is_assign w && named) (ws ++ u ∷ more) in
        let other = words_after text (is_name w) (is_assign w && named) (ws ++ v ∷ []) in
        on (step s (word_after text assigned w (ws ++ v ∷ []))) one other (λ s'. shorter (is_name w) (is_assign w && named) s')
        (subst (λ (x : Word). Passed (step s x) one) is passed)

    by_target : target_of (ws ++ u ∷ more) ≡ target_of (ws ++ v ∷ []) → Shorter (w ∷ ws)
    by_target is named assigned s passed =
        same_word named assigned s (after_same text assigned w (ws ++ u ∷ more) (ws ++ v ∷ []) (calls_same ws) is) passed

    by_update : (begin_call (ws ++ v ∷ []) ≡ true → Updated w ws) → Shorter (w ∷ ws)
    by_update follows named assigned s passed =
        elim (changed text assigned w (ws ++ u ∷ more) (ws ++ v ∷ []) (calls_same ws)) [
          | inl is ↦ same_word named assigned s is passed
          | inr x ↦
              let one = words_after text (is_name w) (is_assign w && named) (ws ++ u ∷ more) in
              let other = words_after text (is_name w) (is_assign w && named) (ws ++ v ∷ []) in
              let may : is_some (step s (AnUpdate x.1.kind x.1.before)) ≡ true =
              subst (λ (y : Word). is_some (step s y) ≡ true) x.1.was (some_passed (step s (word_after text assigned w (ws ++ u ∷ more))) one passed) in
              let next = other_target x.1.kind x.1.before x.1.now s may in
              subst (λ (y : Word). Passed (step s y) other) (sym x.1.is)
              (subst (λ (o : Option (List Expected)). Passed o other) (sym next.1)
              ((follows x.0).passed named x.1.kind x.1.now next.0 x.1.unassigned))
        ]

  -- `(` is the last word
  opened : (w : Word) → begin_call (v ∷ []) ≡ true → Updated w []
  opened w calls = record {
    passed = λ named kind target s free.
        subst (λ (x : Word). Passed (Some (an_update kind target ++ s)) (x ∷ [])) (sym (unassigned_last text (is_assign w && named) v))
        (subst (λ (x : Word). Passed (Some (an_update kind target ++ s)) (x ∷ [])) (sym (is_open v [] calls)) tt);
  }

  -- a name after `(` is the last word
  named_last : (w a : Word) → is_name v ≡ true → begin_call (a ∷ v ∷ []) ≡ true → Updated w (a ∷ [])
  named_last w a name calls = record {
    passed = λ named kind target s free.
        subst (λ (b : Bool). Passed (Some (an_update kind target ++ s)) (words_after text (is_name w) (b && named) (a ∷ v ∷ []))) (sym free)
        (subst (λ (x : Word). Passed (Some (an_update kind target ++ s)) (words_after text (is_name w) false (x ∷ v ∷ []))) (sym (is_open a (v ∷ []) calls))
        (one_passed (step (AnyName ∷ an_index target (operands kind (Just sign.CloseParen ∷ Just sign.Semicolon ∷ [])) ++ s) v)
        (name_may v (an_index target (operands kind (Just sign.CloseParen ∷ Just sign.Semicolon ∷ [])) ++ s) name)));
  }

  by_second : (w a : Word) → Shorter (a ∷ []) → Shorter (w ∷ a ∷ [])
  by_second w a shorter = elim (cases_Bool (is_name v)) [
    | inl name ↦ by_update w (a ∷ []) shorter (λ calls. named_last w a name calls)
    | inr other ↦ by_target w (a ∷ []) shorter (second_cell a u more (name_same u v same ∙ other) ∙ sym (second_cell a v [] other))
  ]

  shorter : (ws : List Word) → Shorter ws
  shorter [] = last
  shorter (w ∷ []) = by_update w [] last (λ calls. opened w calls)
  shorter (w ∷ a ∷ []) = by_second w a (shorter (a ∷ []))
  shorter (w ∷ a ∷ b ∷ []) = by_target w (a ∷ b ∷ []) (shorter (a ∷ b ∷ [])) (third_same a b u v more [] same)
  shorter (w ∷ a ∷ b ∷ c ∷ ws) =
      by_target w (a ∷ b ∷ c ∷ ws) (shorter (a ∷ b ∷ c ∷ ws)) (fourth_same a b c (ws ++ u ∷ more) (ws ++ v ∷ []))

pub none_missed : (text : List ℕ) (before more : List Token) (t : Token) → AreProgram text (before ++ t ∷ more) → GoesOnWith text before t.kind
none_missed text before more t program =
    let whole : fault (Some (Globals ∷ [])) (words_of 4 text (before ++ t ∷ more)) ≡ None =
    ap (λ (ws : List Word). fault (Some (Globals ∷ [])) ws) program.1.spelled ∙ program_read program.0 in
    let passed = passed_all (Some (Globals ∷ [])) (words_of 4 text (before ++ t ∷ more)) whole in
    let there = subst (λ (ws : List Word). Passed (Some (Globals ∷ [])) (words_after text false false ws)) (map-append word_of before (t ∷ more)) passed in
    let shorter_there = shorter text t.kind t.start t.end t.place (map word_of more) (map word_of before) false false (Globals ∷ []) there in
    begins_passed (words_of 4 text (before ++ sample t.kind ∷ []))
    (subst (λ (ws : List Word). Passed (Some (Globals ∷ [])) (words_after text false false ws)) (sym (map-append word_of before (sample t.kind ∷ [])))
    shorter_there)
