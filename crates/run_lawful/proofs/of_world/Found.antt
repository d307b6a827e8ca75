-- The first element of a list that passes a test.
use Rattle.std.proofs.Common.{◌≡◌, ◌∙◌, ◌+◌, Bool, true, false, not, cond, ◌||◌, List, [], ◌∷◌, ◌++◌}
use Rattle.std.proofs.Common.{Some, refl, sym, ap, ap₂}
use Rattle.std.specs.Prelude.{drop}
use Rattle.std.specs.List.{list_any, find, position_or_len}
use Rattle.std.proofs.Math.Seq.{drop-append-add}
use Rattle.std.proofs.lemmas.Bool.{false≢true, true≢false}
use Rattle.std.proofs.lemmas.Option.{none-some, same_Some}
use Rattle.run_lawful.proofs.of_world.Splits.{is_at}

module _ {X : Type 0} (p : X → Bool) where
  -- the first element of a list that passes the test
  pub record IsFound (xs : List X) (x : X) : Type 0 where
    pub older : List X
    pub newer : List X
    pub there : xs ≡ older ++ x ∷ newer
    pub passes : p x ≡ true
    pub none : list_any p older ≡ false

  further : (z x : X) (zs : List X) → p z ≡ false → IsFound zs x → IsFound (z ∷ zs) x
  further z x zs miss f = record {
    older = z ∷ f.older;
    newer = f.newer;
    there = ap (λ ys. z ∷ ys) f.there;
    passes = f.passes;
    none = ap (λ b. b || list_any p f.older) miss ∙ f.none;
  }

  here : (z x : X) (zs : List X) → p z ≡ true → z ≡ x → IsFound (z ∷ zs) x
  here z x zs hit same = record { older = []; newer = zs; there = ap (λ y. y ∷ zs) same; passes = ap p (sym same) ∙ hit; none = refl }

  pub found : (xs : List X) (x : X) → find p xs ≡ Some x → IsFound xs x
  found [] x is = absurd (none-some x is)
  found (z ∷ zs) x is = by (p z) refl is (found zs x)
    where
      by : (b : Bool) → p z ≡ b → cond b (Some z) (find p zs) ≡ Some x → (find p zs ≡ Some x → IsFound zs x) → IsFound (z ∷ zs) x
      by true hit at later = here z x zs hit (same_Some z x at)
      by false miss at later = further z x zs miss (later at)

  -- if some element passes, there is a first one
  pub some_found : (xs : List X) → list_any p xs ≡ true → (x : X) × IsFound xs x
  some_found [] any = absurd (false≢true any)
  some_found (z ∷ zs) any = by (p z) refl any (some_found zs)
    where
      by : (b : Bool) → p z ≡ b → b || list_any p zs ≡ true → (list_any p zs ≡ true → (x : X) × IsFound zs x) → (x : X) × IsFound (z ∷ zs) x
      by true hit any later = (z, here z z zs hit refl)
      by false miss any later = let f = later any in (f.0, further z f.0 zs miss f.1)

  -- a search finds the first element that passes
  pub finds : (xs : List X) (y : X) (ys : List X) → list_any p xs ≡ false → p y ≡ true → find p (xs ++ y ∷ ys) ≡ Some y
  finds [] y ys none hit = ap (λ b. cond b (Some y) (find p ys)) hit
  finds (x ∷ xs) y ys none hit = by (p x) none (λ rest. finds xs y ys rest hit)
    where
      by : (b : Bool) → b || list_any p xs ≡ false → (list_any p xs ≡ false → find p (xs ++ y ∷ ys) ≡ Some y) → cond b (Some x) (find p (xs ++ y ∷ ys)) ≡ Some y
      by true none later = absurd (true≢false none)
      by false none later = later none

  -- the elements from the first that passes
  pub behind : (xs : List X) (y : X) (ys : List X) → list_any p xs ≡ false → p y ≡ true → drop (position_or_len p (xs ++ y ∷ ys) + 1) (xs ++ y ∷ ys) ≡ ys
  behind xs y ys none hit = ap (λ k. drop (k + 1) (xs ++ y ∷ ys)) (is_at p xs y ys hit none) ∙ drop-append-add xs (y ∷ ys) 1

  -- an equal test finds the same place
  pub same_position : (q : X → Bool) (xs : List X) → ((x : X) → p x ≡ q x) → position_or_len p xs ≡ position_or_len q xs
  same_position q [] same = refl
  same_position q (x ∷ xs) same = ap₂ (λ b k. cond (not b) (1 + k) 0) (same x) (same_position q xs same)
