-- Which words may be where others may.
use Rattle.std.proofs.Common.{◌≡◌, ℕ, Bool, true, false, List, [], ◌∷◌, ◌++◌, Option, Some, None, is_some, refl}
use Rattle.std.specs.Prelude.{◌&&◌, if◌then◌else◌}
use Rattle.std.proofs.lemmas.Bool.{false≢true}
use Rattle.tc_syntax.specs.tc_tree.declared.expression.Name.{Name}
use Rattle.tc_syntax.specs.tc_tree.declared.statement.Target.{Target}
use Rattle.tc_syntax.specs.tc_tree.declared.statement.UpdateKind.{UpdateKind}
use Rattle.tc_syntax.specs.tc_tree.declared.statement.UpdateKind.TheVariants.{Add}
use Rattle.tc_syntax.specs.tc_tree.declared.word.Word.{Word}
use Rattle.tc_syntax.specs.tc_tree.declared.word.Word.TheVariants.{Name as AName, Update as AnUpdate}
use Rattle.tc_syntax.specs.tc_tree.Words.{is_add, target_of, begin_call, called_word, word_after}
use Rattle.tc_syntax.specs.helpers.Reading.{Expected, Just, AfterAssign, first, skips, step}

-- the second word may be wherever the first may
abbrev pub Fits : Word → Word → Type 0
Fits v w = (x : Expected) → is_some (first x v) ≡ true → is_some (first x w) ≡ true

fits_by : (s : List Expected) (v w : Word) (o p : Option (List Expected)) (b : Bool) → (is_some o ≡ true → is_some p ≡ true)
    → (is_some (step s v) ≡ true → is_some (step s w) ≡ true)
    → is_some (elim o [ Some es ↦ Some (es ++ s) | None ↦ elim b [ true ↦ step s v | false ↦ None ] ]) ≡ true
    → is_some (elim p [ Some es ↦ Some (es ++ s) | None ↦ elim b [ true ↦ step s w | false ↦ None ] ]) ≡ true
fits_by s v w o (Some es) b here later h = refl
fits_by s v w (Some es) None b here later h = absurd (false≢true (here refl))
fits_by s v w None None true here later h = later h
fits_by s v w None None false here later h = absurd (false≢true h)

pub step_fits : (v w : Word) → Fits v w → (s : List Expected) → is_some (step s v) ≡ true → is_some (step s w) ≡ true
step_fits v w fits [] h = absurd (false≢true h)
step_fits v w fits (x ∷ s) h = fits_by s v w (first x v) (first x w) (skips x) (fits x) (step_fits v w fits s) h

-- whatever may follow `=` may be where an update may
fits_update : (k : UpdateKind) (t : Target) (w : Word) → is_some (first AfterAssign w) ≡ true → (x : Expected) → is_some (first x (AnUpdate k t)) ≡ true
    → is_some (first x w) ≡ true
fits_update k t w may AfterAssign h = may
fits_update k t w may (Just s) h = absurd (false≢true h)
fits_update k t w may _ h = absurd (false≢true h)

name_fits : (b : Bool) (t : Target) (x : Name) → Fits (if b then AnUpdate Add t else AName x) (AName x)
name_fits true t x = fits_update Add t (AName x) refl
name_fits false t x = λ y h. h

-- a token's own word may be wherever its word of language 4 may
pub called_fits : (text : List ℕ) (w : Word) (after : List Word) → Fits (called_word text w after) w
called_fits text (AName x) after = name_fits (is_add text x) (target_of after) x
called_fits text (AnUpdate k t) after = fits_update k (target_of after) (AnUpdate k t) refl
called_fits text _ after = λ x h. h

word_fits : (text : List ℕ) (b : Bool) (w : Word) (after : List Word) → Fits (if b then called_word text w after else w) w
word_fits text true w after = called_fits text w after
word_fits text false w after = λ x h. h

pub after_fits : (text : List ℕ) (assigned : Bool) (w : Word) (after : List Word) → Fits (word_after text assigned w after) w
after_fits text assigned w after = word_fits text (assigned && begin_call after) w after
