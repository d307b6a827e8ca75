-- Two places of one list, and the first element that passes a test.
use Rattle.std.proofs.Common.{◌≡◌, ◌∙◌, ℕ, ◌+◌, ◌<◌, ◌≤◌, Bool, true, false, not, cond, ◌||◌, List, [], ◌∷◌, ◌++◌, length, refl, sym, ap, arith}
use Rattle.std.specs.List.{list_any, position_or_len}
use Rattle.std.proofs.lemmas.Bool.{false≢true, true≢false}

-- of two places of a list one is before the other, or they are the same
pub data TwoPlaces {A : Type 0} (o : List A) (x : A) (n p : List A) (y : A) (m : List A) : Type 0 where
  Before : (between : List A) → p ≡ o ++ x ∷ between → n ≡ between ++ y ∷ m → TwoPlaces o x n p y m
  Same : o ≡ p → x ≡ y → n ≡ m → TwoPlaces o x n p y m
  After : (between : List A) → o ≡ p ++ y ∷ between → m ≡ between ++ x ∷ n → TwoPlaces o x n p y m

further : {A : Type 0} (z w : A) (o : List A) (x : A) (n p : List A) (y : A) (m : List A) → z ≡ w → TwoPlaces o x n p y m
    → TwoPlaces (z ∷ o) x n (w ∷ p) y m
further z w o x n p y m same (Before b p_is n_is) = Before b (ap (λ v. v ∷ p) (sym same) ∙ ap (λ vs. z ∷ vs) p_is) n_is
further z w o x n p y m same (Same o_is x_is n_is) = Same (ap (λ v. v ∷ o) same ∙ ap (λ vs. w ∷ vs) o_is) x_is n_is
further z w o x n p y m same (After b o_is m_is) = After b (ap (λ v. v ∷ o) same ∙ ap (λ vs. w ∷ vs) o_is) m_is

pub two_places : {A : Type 0} (o : List A) (x : A) (n p : List A) (y : A) (m : List A) → o ++ x ∷ n ≡ p ++ y ∷ m → TwoPlaces o x n p y m
two_places [] x n [] y m is = let one : x ≡ y = cc in let rest : n ≡ m = cc in Same refl one rest
two_places [] x n (z ∷ p) y m is =
    let one : x ≡ z = cc in let rest : n ≡ p ++ y ∷ m = cc in Before p (ap (λ v. v ∷ p) (sym one)) rest
two_places (z ∷ o) x n [] y m is =
    let one : z ≡ y = cc in let rest : o ++ x ∷ n ≡ m = cc in After o (ap (λ v. v ∷ o) one) (sym rest)
two_places (z ∷ o) x n (w ∷ p) y m is =
    let one : z ≡ w = cc in let rest : o ++ x ∷ n ≡ p ++ y ∷ m = cc in further z w o x n p y m one (two_places o x n p y m rest)

-- The place of the first element that passes.
module _ {A : Type 0} (p : A → Bool) where
  pub at_most : (o : List A) (x : A) (n : List A) → p x ≡ true → position_or_len p (o ++ x ∷ n) ≤ length o
  at_most [] x n hit = by (p x) hit
    where
      by : (b : Bool) → b ≡ true → cond (not b) (1 + position_or_len p n) 0 ≤ 0
      by true e = omega arith
      by false e = absurd (false≢true e)
  at_most (y ∷ o) x n hit = by (p y) (at_most o x n hit)
    where
      by : (b : Bool) → position_or_len p (o ++ x ∷ n) ≤ length o → cond (not b) (1 + position_or_len p (o ++ x ∷ n)) 0 ≤ length (y ∷ o)
      by true rest = omega arith
      by false rest = omega (arith, rest)

  pub is_at : (o : List A) (x : A) (n : List A) → p x ≡ true → list_any p o ≡ false → position_or_len p (o ++ x ∷ n) ≡ length o
  is_at [] x n hit none = by (p x) hit
    where
      by : (b : Bool) → b ≡ true → cond (not b) (1 + position_or_len p n) 0 ≡ 0
      by true e = refl
      by false e = absurd (false≢true e)
  is_at (y ∷ o) x n hit none = by (p y) none (is_at o x n hit)
    where
      by : (b : Bool) → (b || list_any p o) ≡ false → (list_any p o ≡ false → position_or_len p (o ++ x ∷ n) ≡ length o)
          → cond (not b) (1 + position_or_len p (o ++ x ∷ n)) 0 ≡ length (y ∷ o)
      by true e rest = absurd (true≢false e)
      by false e rest = let more = rest e in omega (arith, more)

  -- a place with an element that passes, and with none before it
  pub record FoundAt (xs : List A) (k : ℕ) : Type 0 where
    pub older : List A
    pub it : A
    pub newer : List A
    pub there : xs ≡ older ++ it ∷ newer
    pub passes : p it ≡ true
    pub none : list_any p older ≡ false
    pub place : length older ≡ k

  pub found_at : (xs : List A) → position_or_len p xs < length xs → FoundAt xs (position_or_len p xs)
  found_at [] few = absurd (omega (arith, few))
  found_at (y ∷ xs) few = by (p y) refl few (found_at xs)
    where
      by : (b : Bool) → p y ≡ b → cond (not b) (1 + position_or_len p xs) 0 < length (y ∷ xs)
          → (position_or_len p xs < length xs → FoundAt xs (position_or_len p xs)) → FoundAt (y ∷ xs) (cond (not b) (1 + position_or_len p xs) 0)
      by true e few rest = record { older = []; it = y; newer = xs; there = refl; passes = e; none = refl; place = refl }
      by false e few rest =
          let f = rest (omega (arith, few)) in
          record {
            older = y ∷ f.older;
            it = f.it;
            newer = f.newer;
            there = ap (λ ys. y ∷ ys) f.there;
            passes = f.passes;
            none = ap (λ b. b || list_any p f.older) e ∙ f.none;
            place = omega (arith, f.place);
          }

  pub within : (xs : List A) → position_or_len p xs ≤ length xs
  within [] = omega arith
  within (y ∷ xs) = by (p y) (within xs)
    where
      by : (b : Bool) → position_or_len p xs ≤ length xs → cond (not b) (1 + position_or_len p xs) 0 ≤ length (y ∷ xs)
      by true rest = omega arith
      by false rest = omega (arith, rest)
