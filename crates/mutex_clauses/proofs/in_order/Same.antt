-- What is made over lists is made of the mutex, and the word of an array's length.
use Rattle.std.proofs.Common.{◌≡◌, ℕ, ◌<◌, ◌^◌, List, [], ◌∷◌, ℤ, pos, refl, ap, sym, ◌∙◌, arith, map}
use Rattle.std.specs.Prelude.{◌==◌, false, true, filter, fold}
use Rattle.std.specs.Int.{bit_at, cast_signed, cast_unsigned, w32}
use Rattle.std.specs.List.{range_with_len}
use Rattle.std.proofs.lemmas.Int.{ints, of_z-to_z}
use Rattle.path_walk.specs.Paths.{Paths}
use Rattle.path_walk.specs.declared.event.Region.{Region}
use Rattle.sym_exec.specs.Executed.{Symbolic}
use Rattle.sym_exec.specs.declared.symbolic.Access.{Access}
use Rattle.sym_exec.specs.tc_code.declared.cell.Cell.{Cell}
use Rattle.sym_exec.specs.tc_code.declared.cell.Cell.TheVariants.{Fixed, Element}
use Rattle.order_formula.specs.declared.formula.Conjunct.{Conjunct}
use Rattle.order_events.specs.lawful_order.Events.{Placed}
use Rattle.cnf_core.specs.Clauses.{Formula}
use Rattle.bit_gates.specs.Folded.{Made, conjunction, constant, kept}
use Rattle.bit_words.specs.Words.{less_literal}
use Rattle.bit_words.proofs.Loops.{kept_same}
use Rattle.bit_order.specs.Layouts.{Layout}
use Rattle.bit_terms.specs.Terms.{constant_word, word_at}
use Rattle.bit_blast.specs.Drafts.{Draft}
use Rattle.read_write.specs.Accesses.{all_accesses}
use Rattle.mutex_regions.specs.Functions.{is_used}
use Rattle.mutex_regions.specs.Regions.{regions_of}
use Rattle.mutex_regions.specs.Variables.{guarded}
use Rattle.mutex_regions.specs.declared.variables.Variable.{Variable}
use Rattle.mutex_states.specs.InOrder.{in_order_made}
use Rattle.mutex_states.specs.InOrder as spec
use Rattle.mutex_clauses.specs.in_order.Given.{HasLists, HasParts, used_in}
use Rattle.mutex_clauses.specs.in_order.helpers.Listed.{all_of, made_in, of_mutex, with_range, with_ranges}

-- the word of a number is that of the signed number with the same bits
unsigned_same : (n : ℕ) → n < 2 ^ 32 → cast_unsigned w32 (cast_signed w32 n) ≡ cast_unsigned w32 (pos n)
unsigned_same n low = of_z-to_z w32 n low ∙ sym (natural n low)
  where
    natural : (n : ℕ) → n < 2 ^ 32 → cast_unsigned w32 (pos n) ≡ n
    natural n low = omega (arith, ints, low)

pub signed_word : (n : ℕ) → n < 2 ^ 32 → constant_word (cast_signed w32 n) ≡ constant_word (pos n)
unfolding constant_word
signed_word n low = ap (λ u. map (λ place. constant (bit_at u place == 1)) (range_with_len 0 32)) (unsigned_same n low)

-- a literal, and that an index is in range, from the literal that it is below the length
pub range_made : (words : List (List ℤ)) (f g : Formula) (a low below : ℤ) (word bound : List ℤ) (cell : Cell ℕ) (h n i : ℕ)
    → cell ≡ Element h n i
    → low ≡ constant false → word ≡ word_at words i → bound ≡ constant_word (pos n) → g ≡ (less_literal (kept f low) word bound).formula
    → below ≡ (less_literal (kept f low) word bound).literal → conjunction g a below ≡ with_range words (kept f a) cell
range_made words f g a low below word bound cell h n i is low_is word_is bound_is formula literal =
    let made : Made = less_literal (kept f low) word bound in
    let same : made ≡ less_literal (kept f (constant false)) (word_at words i) (constant_word (pos n)) =
    ap (λ l. less_literal (kept f l) word bound) low_is ∙ ap (λ w. less_literal (kept f (constant false)) w bound) word_is
    ∙ ap (less_literal (kept f (constant false)) (word_at words i)) bound_is in
    ap (λ (k : Made). conjunction k.formula a k.literal) (kept_same made g below formula literal ∙ same)
    ∙ sym (ap (with_range words (kept f a)) is)

module _ (paths : Paths) (symbolic : Symbolic) (formula : List Conjunct) (d : Draft) (m : ℕ) where
  range_same : (all : Made) (c : Cell ℕ) → with_range d.words all c ≡ spec.with_index paths symbolic formula d m all c
  range_same all (Fixed c) = refl
  range_same all (Element f n i) = refl

  ranges_same : (all : Made) (xs : List (Placed Access))
      → with_ranges d.words all xs ≡ fold (λ (k : Made) (a : Placed Access). spec.with_index paths symbolic formula d m k a.it.cell) all xs
  ranges_same all [] = refl
  ranges_same all (a ∷ xs) =
      ap (λ k. with_ranges d.words k xs) (range_same all a.it.cell)
      ∙ ranges_same (spec.with_index paths symbolic formula d m all a.it.cell) xs

  own_same : (f : Formula)
      → made_in paths d.layout formula d.roots d.words m (regions_of paths m) (guarded paths symbolic m) (all_accesses symbolic) f
      ≡ in_order_made paths symbolic formula d m f
  own_same f =
      ranges_same (all_of f (constant true)
      (of_mutex paths d.layout formula d.roots m (regions_of paths m)
      (λ r. filter (is_used (guarded paths symbolic m) r) (all_accesses symbolic))))
      (used_in (guarded paths symbolic m) (all_accesses symbolic) (regions_of paths m))

  pub made_same : (f : Formula) (y : Layout) (words : List (List ℤ)) (roots : List ℤ) (regions : List (Placed Region)) (vs : List Variable)
      (accesses : List (Placed Access)) → HasLists paths symbolic m regions vs accesses → HasParts d y words roots
      → made_in paths y formula roots words m regions vs accesses f ≡ in_order_made paths symbolic formula d m f
  made_same f y words roots regions vs accesses l p =
      ap (λ z. made_in paths z formula roots words m regions vs accesses f) (sym p.layout)
      ∙ ap (λ z. made_in paths d.layout formula z words m regions vs accesses f) (sym p.roots)
      ∙ ap (λ z. made_in paths d.layout formula d.roots z m regions vs accesses f) (sym p.words)
      ∙ ap (λ z. made_in paths d.layout formula d.roots d.words m z vs accesses f) l.regions
      ∙ ap (λ z. made_in paths d.layout formula d.roots d.words m (regions_of paths m) z accesses f) l.variables
      ∙ ap (λ z. made_in paths d.layout formula d.roots d.words m (regions_of paths m) (guarded paths symbolic m) z f) l.accesses
      ∙ own_same f
