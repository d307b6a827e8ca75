-- What holds where a run ends, or goes on.
use Rattle.std.proofs.Common.{◌≡◌, ◌∙◌, ◌||◌, ℕ, zero, suc, Bool, true, false, List, [], ◌∷◌, map, Option, Some, None, refl, ap, sym, subst, length}
use Rattle.std.proofs.Common.{true≢false}
use Rattle.std.specs.Prelude.{slice_get, is_some, nat_lt, if◌then◌else◌}
use Rattle.std.specs.List.{list_any}
use Rattle.std.specs.Option.{option_map_or}
use Rattle.std.proofs.lemmas.Bool.{or_parts}
use Rattle.std.proofs.lemmas.List.{nil_from_length}
use Rattle.std.proofs.lemmas.Cmp.{nat_list_cmp_total}
use Rattle.std.proofs.lemmas.Option.{none-some, same_Some}
use Rattle.std.specs.FinMap as fin
use Rattle.std.specs.Ordering.{nat_cmp}
use Rattle.std.specs.Cmp.Lexicographic.{slice_cmp}
use Rattle.tc_base.specs.Names.{Name, main}
use Rattle.tc_base.specs.Buffers.{BufferOps}
use Rattle.tc_base.specs.States.{Thread, State}
use Rattle.tc_base.specs.declared.moves.Move.{Move}
use Rattle.tc_code.specs.Code.{Code}
use Rattle.tc_code.specs.Step.{step, opening, born}
use Rattle.tc_machine.proofs.run_laws.Basics.{none_unless}
use Rattle.tc_machine.proofs.run_laws.Names.{get_put}
use Rattle.tc_machine.specs.Exits.{all_have_exited}
use Rattle.tc_machine.proofs.Exits.{some_is_left}
use Rattle.tc_record.specs.declared.end.End.TheVariants.{Over, Failed, Finished, Deadlock}
use Rattle.tc_record.specs.declared.end.Which.TheVariants.{Threads, Depth, Steps}
use Rattle.tc_record.specs.Ends.{limit_of, has_many_steps, some_is_deep, some_has_many_steps, end_at, end_without_moves}
use Rattle.tc_record.specs.helpers.Turns.{IsEndAt}

-- no element passes a test that fails for all
pub none_passes : {X : Type 0} (p : X → Bool) (xs : List X) (i : ℕ) (x : X) → list_any p xs ≡ false → slice_get xs i ≡ Some x → p x ≡ false
none_passes p [] i x h e = absurd (none-some x e)
none_passes p (y ∷ ys) zero x h e = subst (λ z. p z ≡ false) (same_Some y x e) (or_parts (p y) (list_any p ys) h).0
none_passes p (y ∷ ys) (suc i) x h e = none_passes p ys i x (or_parts (p y) (list_any p ys) h).1 e

module _ {B : Type 0} (ops : BufferOps B) (code : Code) (s : State B) where
  unfailed : is_some s.failed ≡ false → s.failed ≡ None
  unfailed none = none_unless s.failed (λ some. true≢false (sym some ∙ none))

  by_tests : (a b c d : Bool) → nat_lt (limit_of Threads) (length (fin.keys s.threads)) ≡ a → some_is_deep s ≡ b → some_has_many_steps s ≡ c
      → is_some s.failed ≡ d
      → IsEndAt ops code s (if a then Some (Over Threads) else if b then Some (Over Depth) else if c then Some (Over Steps) else if d then Some Failed else None)
  by_tests true b c d threads depth steps failed = tt
  by_tests false true c d threads depth steps failed = tt
  by_tests false false true d threads depth steps failed = tt
  by_tests false false false true threads depth steps failed = (record { threads = threads; depth = depth; steps = steps }, failed)
  by_tests false false false false threads depth steps failed = (record { threads = threads; depth = depth; steps = steps }, unfailed failed)

  -- the tests say how a run ends at a state
  pub told : IsEndAt ops code s (end_at s)
  told = by_tests _ _ _ _ refl refl refl refl

  -- the end found if no move is enabled is right
  pub told_still : IsEndAt ops code s None → ((m : Move) → step ops code s m ≡ None) → IsEndAt ops code s (Some (end_without_moves s))
  told_still going still = by_exits (all_have_exited s) refl
    where
      by_exits : (b : Bool) → all_have_exited s ≡ b → IsEndAt ops code s (Some (if b then Finished else Deadlock))
      by_exits true all = tt
      by_exits false left = (going.0, record { unfailed = going.1; still = still; left = some_is_left s left })

-- a run goes on from its opening
module _ {B : Type 0} (ops : BufferOps B) (code : Code) where
  main_alone : fin.keys (opening ops code).threads ≡ main ∷ []
  main_alone =
      let none : fin.entries {X = Thread B} (fin.empty {R = slice_cmp nat_cmp}) ≡ [] =
      nil_from_length _ (sym (fin.len-entries (fin.empty {X = Thread B} {R = slice_cmp nat_cmp})) ∙ fin.len-empty (slice_cmp nat_cmp) (Thread B)) in
      ap (map (λ e. e.0)) (fin.entries-insert nat_list_cmp_total fin.empty main (born ops code _ [])
      ∙ ap (fin.put (slice_cmp nat_cmp) main (born ops code _ [])) none)

  pub goes_on_from_opening : (s : State B) → s ≡ opening ops code → IsEndAt ops code s None
  goes_on_from_opening s is = subst (λ (u : State B). IsEndAt ops code u None) (sym is) (
    record {
      threads = ap (λ ns. nat_lt (limit_of Threads) (length ns)) main_alone;
      depth = ap (list_any (λ n. nat_lt (limit_of Depth) (length n))) main_alone;
      steps =
          ap (list_any (has_many_steps (opening ops code))) main_alone
          ∙ ap (λ (o : Option (Thread B)). option_map_or (λ t. nat_lt (limit_of Steps) t.local.steps) o false || false) (get_put fin.empty main _);
    },
    refl,
  )

-- the first thread has done too many instructions, or one of the others has
pub first_decides : {B : Type 0} (s : State B) (es rest : List (Name × Thread B)) (n : Name) (t : Thread B) → es ≡ (n, t) ∷ rest
    → fin.get s.threads n ≡ Some t → list_any (has_many_steps s) (map (λ e. e.0) es)
    ≡ nat_lt (limit_of Steps) t.local.steps || list_any (has_many_steps s) (map (λ e. e.0) rest)
first_decides {B} s es rest n t is there =
    ap (λ (fs : List (Name × Thread B)). list_any (has_many_steps s) (map (λ e. e.0) fs)) is
    ∙ ap (λ (o : Option (Thread B)). option_map_or (λ u. nat_lt (limit_of Steps) u.local.steps) o false
    || list_any (has_many_steps s) (map (λ e. e.0) rest)) there
