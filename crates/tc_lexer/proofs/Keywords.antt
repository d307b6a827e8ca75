-- Keywords and their texts.
use Rattle.std.proofs.Common.{◌≡◌, ◌≤◌, ℕ, Bool, true, List, [], ◌∷◌, refl, sym, ap, inl, inr, ◌∙◌, subst, Option, Some, None}
use Rattle.std.specs.Prelude.{◌&&◌, nat_le, bytes_eq}
use Rattle.std.specs.List.{list_all, find}
use Rattle.std.proofs.lemmas.Bool.{cases_Bool, and_parts, cond-true, cond-false, le-leb, leb-true}
use Rattle.std.proofs.lemmas.Slice.Eq.{bytes_eq-Decides}
use Rattle.tc_lexer.specs.declared.token.Keyword.{Keyword}
use Rattle.tc_lexer.specs.declared.token.Keyword.TheVariants.{Int, Mutex, Cond, Thread, Main, Tid, If, Else, While, Create, Join, Lock, Unlock, Wait, Signal}
use Rattle.tc_lexer.specs.declared.token.Keyword.TheVariants.{Broadcast, Fence, Assert, Swap, Cas, Stbar}
use Rattle.tc_lexer.specs.Tokens.{keyword_text, keyword_since, is_word, begins_with_letter}
use Rattle.tc_lexer.specs.helpers.Reading.{keywords, keyword_of}

-- an element that was found passes
pub find_passes : {X : Type 0} (p : X → Bool) (xs : List X) (x : X) → find p xs ≡ Some x → p x ≡ true
find_passes p [] x e = absurd cc
find_passes {X} p (y ∷ ys) x e = elim (cases_Bool (p y)) [
  | inl h ↦
      let here : ◌≡◌ {A = Option X} (Some y) (Some x) = sym (cond-true (p y) (Some y) (find p ys) h) ∙ e in
      let same : y ≡ x = cc in
      ap p (sym same) ∙ h
  | inr h ↦ find_passes p ys x (sym (cond-false (p y) (Some y) (find p ys) h) ∙ e)
]

-- the keyword with this text is found
pub keyword_found : (language : ℕ) (k : Keyword) → keyword_since k ≤ language → keyword_of language (keyword_text k) ≡ Some k
keyword_found language Int h = cond-true _ _ _ (le-leb _ _ h)
keyword_found language Mutex h = cond-true _ _ _ (le-leb _ _ h)
keyword_found language Cond h = cond-true _ _ _ (le-leb _ _ h)
keyword_found language Thread h = cond-true _ _ _ (le-leb _ _ h)
keyword_found language Main h = cond-true _ _ _ (le-leb _ _ h)
keyword_found language Tid h = cond-true _ _ _ (le-leb _ _ h)
keyword_found language If h = cond-true _ _ _ (le-leb _ _ h)
keyword_found language Else h = cond-true _ _ _ (le-leb _ _ h)
keyword_found language While h = cond-true _ _ _ (le-leb _ _ h)
keyword_found language Create h = cond-true _ _ _ (le-leb _ _ h)
keyword_found language Join h = cond-true _ _ _ (le-leb _ _ h)
keyword_found language Lock h = cond-true _ _ _ (le-leb _ _ h)
keyword_found language Unlock h = cond-true _ _ _ (le-leb _ _ h)
keyword_found language Wait h = cond-true _ _ _ (le-leb _ _ h)
keyword_found language Signal h = cond-true _ _ _ (le-leb _ _ h)
keyword_found language Broadcast h = cond-true _ _ _ (le-leb _ _ h)
keyword_found language Fence h = cond-true _ _ _ (le-leb _ _ h)
keyword_found language Assert h = cond-true _ _ _ (le-leb _ _ h)
keyword_found language Swap h = cond-true _ _ _ (le-leb _ _ h)
keyword_found language Cas h = cond-true _ _ _ (le-leb _ _ h)
keyword_found language Stbar h = cond-true _ _ _ (le-leb _ _ h)

-- a keyword that was found has this text
pub keyword_is : (language : ℕ) (word : List ℕ) (k : Keyword) → keyword_of language word ≡ Some k → (keyword_text k ≡ word) × (keyword_since k ≤ language)
keyword_is language word k e =
    let p = and_parts (bytes_eq (keyword_text k) word) (nat_le (keyword_since k) language)
    (find_passes (λ j. bytes_eq (keyword_text j) word && nat_le (keyword_since j) language) keywords k e) in
    ((bytes_eq-Decides (keyword_text k) word).0 p.0, leb-true _ _ p.1)

-- each keyword consists of letters
pub keyword_letters : (k : Keyword) → (begins_with_letter (keyword_text k) && list_all is_word (keyword_text k)) ≡ true
keyword_letters Int = refl
keyword_letters Mutex = refl
keyword_letters Cond = refl
keyword_letters Thread = refl
keyword_letters Main = refl
keyword_letters Tid = refl
keyword_letters If = refl
keyword_letters Else = refl
keyword_letters While = refl
keyword_letters Create = refl
keyword_letters Join = refl
keyword_letters Lock = refl
keyword_letters Unlock = refl
keyword_letters Wait = refl
keyword_letters Signal = refl
keyword_letters Broadcast = refl
keyword_letters Fence = refl
keyword_letters Assert = refl
keyword_letters Swap = refl
keyword_letters Cas = refl
keyword_letters Stbar = refl

no_keyword_from : (language : ℕ) (word : List ℕ) (o : Option Keyword) → keyword_of language word ≡ o
    → ((k : Keyword) → keyword_since k ≤ language → keyword_text k ≡ word → ⊥) → o ≡ None
no_keyword_from language word None e h = refl
no_keyword_from language word (Some k) e h = let x = keyword_is language word k e in absurd (h k x.1 x.0)

-- no keyword is found for a name
pub name_no_keyword : (language : ℕ) (word : List ℕ) → ((k : Keyword) → keyword_since k ≤ language → keyword_text k ≡ word → ⊥)
    → keyword_of language word ≡ None
name_no_keyword language word h = no_keyword_from language word (keyword_of language word) refl h

-- if no keyword is found, the word isn't a keyword
pub no_keyword_is : (language : ℕ) (word : List ℕ) → keyword_of language word ≡ None → (k : Keyword) → keyword_since k ≤ language → keyword_text k ≡ word → ⊥
no_keyword_is language word e k h w =
    let found : keyword_of language word ≡ Some k = subst (λ (s : List ℕ). keyword_of language s ≡ Some k) w (keyword_found language k h) in
    cc
