-- Outcomes and their order.
use Rattle.std.proofs.Common.{◌≡◌, ◌∙◌, ℕ, zero, suc, ◌+◌, ◌^◌, ◌<◌, ◌≤◌, inl, inr, Bool, true, false, List, [], ◌∷◌, ◌++◌, length, refl, ap, sym, arith, lit<, append_assoc}
use Rattle.std.specs.Prelude.{◌⊎◌}
use Rattle.std.proofs.Math.Dec.{leb-zero}
use Rattle.std.proofs.Math.Nat.{pow-suc}
use Rattle.std.proofs.lemmas.Bool.{le-leb}
use Rattle.std.proofs.lemmas.List.{length-append}
use Rattle.thread_paths.specs.Order.{is_from}
use Rattle.thread_paths.specs.helpers.Descents.{leaves_behind, worth, TurnsTo}

-- all outcomes are true, so none can be turned
abbrev pub AreTrue : List Bool → Type 0
AreTrue t = (q : List Bool) → leaves_behind t q ≡ false

pub all_from : (q : List Bool) (s : ℕ) → is_from [] 0 q s ≡ true
all_from [] s = leb-zero s
all_from (b ∷ q) s = refl

-- turning the last false gives the first outcomes that come after all that begin with these
pub turned : (c t q : List Bool) (s : ℕ) → AreTrue t → leaves_behind (c ++ false ∷ t) q ≡ is_from (c ++ true ∷ []) 0 q s
turned [] t [] s all = refl
turned [] t (true ∷ q) s all = sym (all_from q s)
turned [] t (false ∷ q) s all = all q
turned (b ∷ c) t [] s all = refl
turned (true ∷ c) t (true ∷ q) s all = turned c t q s all
turned (true ∷ c) t (false ∷ q) s all = refl
turned (false ∷ c) t (true ∷ q) s all = refl
turned (false ∷ c) t (false ∷ q) s all = turned c t q s all

pub worth_below : (n : ℕ) (o : List Bool) → worth n o < 2 ^ n
worth_below zero o = lit< tt
worth_below (suc n) [] = let below = worth_below n [] in let more = pow-suc 2 n in omega arith
worth_below (suc n) (true ∷ o) = let below = worth_below n o in let more = pow-suc 2 n in omega arith
worth_below (suc n) (false ∷ o) = let below = worth_below n o in let more = pow-suc 2 n in omega arith

worth_none : (n : ℕ) → worth n [] ≡ 0
worth_none zero = refl
worth_none (suc n) = refl

-- the turned outcomes have a greater number
pub turned_more : (c t : List Bool) (m : ℕ) → length (c ++ false ∷ t) ≤ m → worth m (c ++ false ∷ t) < worth m (c ++ true ∷ [])
turned_more [] t zero few = absurd (omega arith)
turned_more [] t (suc m) few = let below = worth_below m t in let none = worth_none m in omega arith
turned_more (b ∷ c) t zero few = absurd (omega arith)
turned_more (true ∷ c) t (suc m) few = let less = turned_more c t m (omega arith) in omega arith
turned_more (false ∷ c) t (suc m) few = let less = turned_more c t m (omega arith) in omega arith

-- one more false adds nothing
pub worth_added : (m : ℕ) (o : List Bool) → worth m (o ++ false ∷ []) ≡ worth m o
worth_added zero o = refl
worth_added (suc m) [] = ap (λ n. 0 + n) (worth_none m)
worth_added (suc m) (true ∷ o) = ap (λ n. 2 ^ m + n) (worth_added m o)
worth_added (suc m) (false ∷ o) = ap (λ n. 0 + n) (worth_added m o)

-- the outcomes left after removing trues at the end
pub record IsPopped (before o : List Bool) : Type 0 where
  pub tail : List Bool
  pub whole : before ≡ o ++ tail
  pub trues : AreTrue tail

-- a false is turned into a true
pub pop_false : (before o o' after : List Bool) (last : Bool) → IsPopped before o → o ≡ o' ++ last ∷ [] → last ≡ false → after ≡ o' ++ true ∷ []
    → TurnsTo before after
pop_false before o o' after last popped is so turns =
    let all : before ≡ o' ++ false ∷ popped.tail =
    popped.whole ∙ ap (λ x. x ++ popped.tail) is ∙ append_assoc o' (last ∷ []) popped.tail ∙ ap (λ b. o' ++ b ∷ popped.tail) so in
    record {
      same = λ q s. ap (λ x. leaves_behind x q) all ∙ turned o' popped.tail q s popped.trues ∙ ap (λ x. is_from x 0 q s) (sym turns);
      few = omega (arith, ap length all, ap length turns, length-append o' (false ∷ popped.tail), length-append o' (true ∷ []));
      value = λ m few. value_more before after o' popped.tail m all turns few;
    }
  where
    value_more : (before after c t : List Bool) (m : ℕ) → before ≡ c ++ false ∷ t → after ≡ c ++ true ∷ [] → length before ≤ m → worth m before < worth m after
    value_more before after c t m is turns few =
        let less = turned_more c t m (omega (arith, few, ap length is)) in
        omega (arith, less, ap (worth m) is, ap (worth m) turns)

-- outcomes that come after all that begin this way come after these
pub behind_from : (o : List Bool) (n : ℕ) (q : List Bool) (s : ℕ) → leaves_behind o q ≡ true → is_from o n q s ≡ true
behind_from [] n q s is = absurd cc
behind_from (b ∷ o) n [] s is = absurd cc
behind_from (false ∷ o) n (true ∷ q) s is = refl
behind_from (true ∷ o) n (false ∷ q) s is = absurd cc
behind_from (true ∷ o) n (true ∷ q) s is = behind_from o n q s is
behind_from (false ∷ o) n (false ∷ q) s is = behind_from o n q s is

-- outcomes that begin this way come after these, with enough steps
pub front_from : (o : List Bool) (n : ℕ) (later : List Bool) (s : ℕ) → n ≤ s → is_from o n (o ++ later) s ≡ true
front_from [] n [] s le = le-leb n s le
front_from [] n (b ∷ later) s le = refl
front_from (true ∷ o) n later s le = front_from o n later s le
front_from (false ∷ o) n later s le = front_from o n later s le

-- the same after equal first outcomes
pub behind_after : (done rest later : List Bool) → leaves_behind rest later ≡ true → leaves_behind (done ++ rest) (done ++ later) ≡ true
behind_after [] rest later is = is
behind_after (true ∷ done) rest later is = behind_after done rest later is
behind_after (false ∷ done) rest later is = behind_after done rest later is

-- outcomes that come after all with this beginning also come after it with one more false
pub behind_added : (o q : List Bool) → leaves_behind o q ≡ true → leaves_behind (o ++ false ∷ []) q ≡ true
behind_added [] q is = absurd cc
behind_added (b ∷ o) [] is = absurd cc
behind_added (false ∷ o) (true ∷ q) is = refl
behind_added (true ∷ o) (false ∷ q) is = absurd cc
behind_added (true ∷ o) (true ∷ q) is = behind_added o q is
behind_added (false ∷ o) (false ∷ q) is = behind_added o q is

-- outcomes that begin with all of others and then a true
pub record GoesOn (o q : List Bool) : Type 0 where
  pub later : List Bool
  pub is : q ≡ o ++ true ∷ later

went_on : (b : Bool) (o q : List Bool) → (leaves_behind o q ≡ true) ⊎ GoesOn o q → (leaves_behind (b ∷ o) (b ∷ q) ≡ true) ⊎ GoesOn (b ∷ o) (b ∷ q)
went_on true o q (inl is) = inl is
went_on false o q (inl is) = inl is
went_on b o q (inr on) = inr (record { later = on.later; is = ap (λ x. b ∷ x) on.is })

pub behind_less : (o q : List Bool) → leaves_behind (o ++ false ∷ []) q ≡ true → (leaves_behind o q ≡ true) ⊎ GoesOn o q
behind_less [] [] is = absurd cc
behind_less [] (true ∷ q) is = inr (record { later = q; is = refl })
behind_less [] (false ∷ q) is = absurd cc
behind_less (b ∷ o) [] is = absurd cc
behind_less (false ∷ o) (true ∷ q) is = inl refl
behind_less (true ∷ o) (false ∷ q) is = absurd cc
behind_less (true ∷ o) (true ∷ q) is = went_on true o q (behind_less o q is)
behind_less (false ∷ o) (false ∷ q) is = went_on false o q (behind_less o q is)
