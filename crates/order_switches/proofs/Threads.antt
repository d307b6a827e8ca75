-- The thread of the event at a position.
use Rattle.std.proofs.Common.{◌≡◌, ◌∙◌, ℕ, zero, suc, ◌<◌, ◌==◌, Bool, true, false, cond, min, List, [], ◌∷◌, drop, length, get_or, Some, None, refl, ap, arith}
use Rattle.std.specs.List.{IsDistinct}
use Rattle.std.proofs.lemmas.Bool.{eqb-true}
use Rattle.std.proofs.lemmas.Option.{none-some, same_Some}
use Rattle.std.proofs.lemmas.Map.Keys.{IsDistinct-tail, apart_from_distinct}
use Rattle.order_switches.specs.Switches.{thread_in}

abbrev eq : ℕ → ℕ → Bool
eq p q = p == q

-- an event's thread is the thread at its position
pub thread_there : (threads positions : List ℕ) (e : ℕ) → IsDistinct eq positions → length threads ≡ length positions → e < length threads
    → thread_in threads positions (get_or positions e 0) ≡ Some (get_or threads e 0)
thread_there [] positions e distinct long there = absurd (omega (arith, there))
thread_there (t ∷ threads) [] e distinct long there = absurd (omega (arith, long))
thread_there (t ∷ threads) (q ∷ positions) zero distinct long there = by (q == q) refl
  where
    by : (b : Bool) → (q == q) ≡ b → cond b (Some t) (thread_in threads positions q) ≡ Some t
    by true _ = refl
    by false never = absurd (grind (arith, never))
thread_there (t ∷ threads) (q ∷ positions) (suc e) distinct long there =
    ap (λ b. cond b (Some t) (thread_in threads positions (get_or positions e 0)))
    (apart_from_distinct eq (q ∷ positions) 0 (suc e) 0 distinct (omega arith) (omega (arith, there, long)))
    ∙ thread_there threads positions e (IsDistinct-tail eq q positions distinct) (omega (arith, long)) (omega (arith, there))

-- an event at a position, with its thread
pub record IsAt (threads positions : List ℕ) (p t : ℕ) : Type 0 where
  pub event : ℕ
  pub there : event < length threads
  pub position : get_or positions event 0 ≡ p
  pub thread : get_or threads event 0 ≡ t

further : (s q : ℕ) (threads positions : List ℕ) (p t : ℕ) → IsAt threads positions p t → IsAt (s ∷ threads) (q ∷ positions) p t
further s q threads positions p t a = record { event = suc a.event; there = omega (arith, a.there); position = a.position; thread = a.thread }

-- a position with a thread has such an event
pub event_there : (threads positions : List ℕ) (p t : ℕ) → thread_in threads positions p ≡ Some t → IsAt threads positions p t
event_there [] positions p t is = absurd (none-some t is)
event_there (s ∷ threads) [] p t is = absurd (none-some t is)
event_there (s ∷ threads) (q ∷ positions) p t is = by (q == p) refl is (event_there threads positions p t)
  where
    by : (b : Bool) → (q == p) ≡ b → cond b (Some s) (thread_in threads positions p) ≡ Some t
        → (thread_in threads positions p ≡ Some t → IsAt threads positions p t) → IsAt (s ∷ threads) (q ∷ positions) p t
    by true same one rest = record { event = 0; there = omega arith; position = eqb-true q p same; thread = same_Some s t one }
    by false _ later rest = further s q threads positions p t (rest later)

-- the thread at a position, from an event on
pub thread_step : (threads positions : List ℕ) (p e : ℕ) → e < length threads → e < length positions
    → thread_in (drop e threads) (drop e positions) p
    ≡ cond (get_or positions e 0 == p) (Some (get_or threads e 0)) (thread_in (drop (suc e) threads) (drop (suc e) positions) p)
thread_step [] positions p e there there_too = absurd (omega (arith, there))
thread_step (t ∷ threads) [] p e there there_too = absurd (omega (arith, there_too))
thread_step (t ∷ threads) (q ∷ positions) p zero there there_too = refl
thread_step (t ∷ threads) (q ∷ positions) p (suc e) there there_too =
    thread_step threads positions p e (omega (arith, there)) (omega (arith, there_too))

pub thread_past : (threads positions : List ℕ) (p e : ℕ) → e ≡ min (length threads) (length positions)
    → thread_in (drop e threads) (drop e positions) p ≡ None
thread_past [] positions p zero is = refl
thread_past [] positions p (suc e) is = absurd (omega (arith, is))
thread_past (t ∷ threads) [] p zero is = refl
thread_past (t ∷ threads) [] p (suc e) is = absurd (omega (arith, is))
thread_past (t ∷ threads) (q ∷ positions) p zero is = absurd (omega (arith, is))
thread_past (t ∷ threads) (q ∷ positions) p (suc e) is = thread_past threads positions p e (omega (arith, is))
