-- Threads that haven't exited.
use Rattle.std.proofs.Common.{◌≡◌, ◌∙◌, ◌&&◌, ◌||◌, ℕ, zero, suc, Bool, true, false, List, [], ◌∷◌, Option, Some, IsSome, refl, ap, sym, subst, true≢false}
use Rattle.std.specs.Prelude.{slice_get}
use Rattle.std.specs.FinMap as fin
use Rattle.std.specs.List.{list_all, list_any}
use Rattle.std.specs.Option.{option_map_or}
use Rattle.std.specs.Cmp.{eq_by_cmp_equiv}
use Rattle.std.proofs.lemmas.Bool.{or_right}
use Rattle.std.proofs.lemmas.Cmp.{nat_list_cmp_total}
use Rattle.std.proofs.lemmas.List.Elements.{All-contains}
use Rattle.std.proofs.lemmas.List.Sums.{AllPass-from_list_all}
use Rattle.std.proofs.lemmas.Map.Views.{Contains-from_any}
use Rattle.std.proofs.lemmas.Option.{none-some, same_Some}
use Rattle.tc_base.specs.Names.{Name}
use Rattle.tc_base.specs.States.{Thread, State}
use Rattle.tc_code.specs.Run.{IsLeft}
use Rattle.tc_threads.specs.run_laws.Alone.{same}
use Rattle.tc_threads.proofs.run_laws.Basics.{some_is, some_value}
use Rattle.tc_threads.proofs.ByName.{tied}
use Rattle.tc_machine.specs.Exits.{has_exited, all_have_exited}

some_passes : {X : Type 0} (p : X → Bool) (xs : List X) (i : ℕ) (x : X) → slice_get xs i ≡ Some x → p x ≡ true → list_any p xs ≡ true
some_passes p [] i x e h = absurd (none-some x e)
some_passes p (y ∷ ys) zero x e h = ap (λ b. b || list_any p ys) (subst (λ z. p z ≡ true) (sym (same_Some y x e)) h)
some_passes p (y ∷ ys) (suc i) x e h = or_right (p y) (list_any p ys) (some_passes p ys i x e h)

module _ {B : Type 0} (s : State B) where
  -- a listed name is that of a thread
  pub listed_there : (i : ℕ) (n : Name) → slice_get (fin.keys s.threads) i ≡ Some n → IsSome (fin.get s.threads n)
  listed_there i n e =
      fin.contains_key-keys s.threads n ∙ some_passes (same n) (fin.keys s.threads) i n e ((eq_by_cmp_equiv nat_list_cmp_total).refl n)

  exits : (n : Name) (t : Thread B) → fin.get s.threads n ≡ Some t → has_exited s n ≡ t.local.has_exited
  exits n t there = ap (λ (o : Option (Thread B)). option_map_or (λ u. u.local.has_exited) o false) there

  -- if all threads have exited, none is left
  pub none_is_left : all_have_exited s ≡ true → (n : Name) → IsLeft s n → ⊥
  none_is_left all n left =
      let listed = Contains-from_any tied n (fin.keys s.threads) (sym (fin.contains_key-keys s.threads n) ∙ some_is _ left.thread left.there) in
      let gone = All-contains (λ m. has_exited s m ≡ true) (fin.keys s.threads) n (AllPass-from_list_all (has_exited s) (fin.keys s.threads) all) listed in
      true≢false (sym gone ∙ exits n left.thread left.there ∙ left.going)

  left_in : (names : List Name) → ((i : ℕ) (n : Name) → slice_get names i ≡ Some n → IsSome (fin.get s.threads n))
      → list_all (has_exited s) names ≡ false → (n : Name) × IsLeft s n
  left_in [] there h = absurd (true≢false h)
  left_in (n ∷ names) there h = tested (has_exited s n) refl (left_in names (λ i m at. there (suc i) m at))
    where
      tested : (b : Bool) → has_exited s n ≡ b → (list_all (has_exited s) names ≡ false → (m : Name) × IsLeft s m) → (m : Name) × IsLeft s m
      tested true e later = later (sym (ap (λ b. b && list_all (has_exited s) names) e) ∙ h)
      tested false e later =
          let t = some_value (fin.get s.threads n) (there 0 n refl) in
          (n, record { thread = t.0; there = t.1; going = sym (exits n t.0 t.1) ∙ e })

  -- otherwise some thread is left
  pub some_is_left : all_have_exited s ≡ false → (n : Name) × IsLeft s n
  some_is_left = left_in (fin.keys s.threads) listed_there
