-- The literals of the rank of regions of a kind.
use Rattle.std.proofs.Common.{◌≡◌, ℕ, zero, suc, ◌+◌, ◌<◌, ◌≤◌, Bool, true, false, cond, List, [], ◌∷◌, ◌++◌, ℤ, ap, ◌∙◌, arith, length, get_or, map, take}
use Rattle.std.specs.Prelude.{filter}
use Rattle.std.specs.List.{enumerate_from}
use Rattle.std.proofs.lemmas.List.{append-nil, map-append}
use Rattle.std.proofs.lemmas.List.Elements.{All-head, All-map, All-tail, filter-append}
use Rattle.cnf_core.specs.Clauses.{var_of}
use Rattle.bit_words.specs.Words.{AreWithin}
use Rattle.bit_blast.proofs.Lists.{all_of}
use Rattle.order_events.proofs.Loops.{enumerated_more}
use Rattle.mutex_clauses.specs.shapes.Termed.{Termed}
use Rattle.mutex_clauses.specs.turns.Turns.{among, literal_at}

literal_within : (n : ℕ) (ls : List ℤ) (place : ℕ) → 0 < n → AreWithin n ls → var_of (literal_at ls place) ≤ n
literal_within n [] place one h = omega (arith, one)
literal_within n (l ∷ ls) zero one h = All-head (λ k. var_of k ≤ n) l ls h
literal_within n (l ∷ ls) (suc place) one h = literal_within n ls place one (All-tail (λ k. var_of k ≤ n) l ls h)

pub among_within : (n : ℕ) (ranked : List ℤ) (p : Termed → Bool) (steps : List Termed) → 0 < n → AreWithin n ranked
    → AreWithin n (among ranked p steps)
among_within n ranked p steps one h =
    let passing : List (ℕ × Termed) = filter (λ (x : ℕ × Termed). p x.1) (enumerate_from 0 steps) in
    All-map (λ l. var_of l ≤ n) (λ (x : ℕ × Termed). literal_at ranked x.0) passing
    (all_of (λ (x : ℕ × Termed). var_of (literal_at ranked x.0) ≤ n) passing (λ x _. literal_within n ranked x.0 one h))

-- with one more region
module _ (ranked : List ℤ) (p : Termed → Bool) (steps : List Termed) (i : ℕ) (s : Termed) (within : i < length steps)
    (is : s ≡ get_or steps i s) where
  abbrev own : ℕ × Termed → ℤ
  own x = literal_at ranked x.0

  abbrev test : ℕ × Termed → Bool
  test x = p x.1

  abbrev so_far : List (ℕ × Termed)
  so_far = enumerate_from 0 (take i steps)

  among_next : among ranked p (take (i + 1) steps) ≡ among ranked p (take i steps) ++ map own (cond (p s) ((i, s) ∷ []) [])
  among_next =
      ap (λ xs. map own (filter test xs)) (enumerated_more steps i s within is) ∙ ap (map own) (filter-append test so_far ((i, s) ∷ []))
      ∙ map-append own (filter test so_far) (filter test ((i, s) ∷ []))

  pub among_in : p s ≡ true → among ranked p (take (i + 1) steps) ≡ among ranked p (take i steps) ++ literal_at ranked i ∷ []
  among_in passes = among_next ∙ ap (λ b. among ranked p (take i steps) ++ map own (cond b ((i, s) ∷ []) [])) passes

  pub among_out : p s ≡ false → among ranked p (take (i + 1) steps) ≡ among ranked p (take i steps)
  among_out fails =
      among_next ∙ ap (λ b. among ranked p (take i steps) ++ map own (cond b ((i, s) ∷ []) [])) fails
      ∙ append-nil (among ranked p (take i steps))
