-- The words of a text, one after the other.
use Rattle.std.proofs.Common.{◌≡◌, ◌∙◌, sym, ap, Bool, false, List, [], ◌∷◌, ◌++◌, ℕ, append_assoc, append-nil}
use Rattle.std.specs.Prelude.{◌&&◌}
use Rattle.tc_tree.specs.declared.word.Word.{Word}
use Rattle.tc_tree.specs.Words.{is_name, is_assign, word_after, words_after}

module _ (text : List ℕ) (all found : List Word) (named assigned : Bool) (rest : List Word) (so_far : all ≡ found ++ words_after text named assigned rest) where
  -- one word more
  pub next : (w : Word) (after : List Word) (v : Word) (more : List Word) → rest ≡ w ∷ after → v ≡ word_after text assigned w after
      → more ≡ found ++ v ∷ [] → all ≡ more ++ words_after text (is_name w) (is_assign w && named) after
  next w after v more first is pushed =
      let others = words_after text (is_name w) (is_assign w && named) after in
      so_far ∙ ap (λ (ws : List Word). found ++ words_after text named assigned ws) first
      ∙ ap (λ (x : Word). found ++ x ∷ others) (sym is) ∙ sym (append_assoc found (v ∷ []) others) ∙ ap (λ (ws : List Word). ws ++ others) (sym pushed)

  pub all_found : rest ≡ [] → found ≡ all
  all_found none = sym (so_far ∙ ap (λ (ws : List Word). found ++ words_after text named assigned ws) none ∙ append-nil found)
