-- Blocks of instructions: their invariants, and their composition.
use Rattle.std.proofs.Common.{
  ◌≡◌,
  ℕ,
  ◌+◌,
  ◌<◌,
  ◌≤◌,
  Bool,
  true,
  false,
  IsTrue,
  ◌⊎◌,
  inl,
  inr,
  List,
  Some,
  None,
  refl,
  ap,
  sym,
  subst,
  ◌∙◌,
  arith,
  add-one,
  slice_get,
}
use Rattle.std.proofs.lemmas.Bool.{cases_lt}
use Rattle.std.proofs.lemmas.Option.{none-some, same_Some}
use Rattle.tc_code.specs.Expr.{Expr}
use Rattle.tc_code.specs.declared.cell.Cell.TheVariants.{Fixed, Element}
use Rattle.tc_code.specs.declared.instr.Instr.{Instr}
use Rattle.tc_code.specs.declared.instr.Instr.TheVariants.{Set, Load, Store, Inside, Branch, Goto, Holds, Lock, Unlock, Sleep, Wake}
use Rattle.tc_code.specs.declared.instr.Instr.TheVariants.{Signal, Broadcast, Create, Ready, Join, Assert, Nonzero, InRange, Modify, Fence, Stbar, Exit}
use Rattle.tc_code.specs.Lawful.{target, is_bound, keeps, StandsBefore}

-- whether an instruction belongs to the one before it: no jump leads to it
abbrev pub is_glued : Instr → Bool
is_glued (Load t (Element a len i)) = true
is_glued i = is_bound i

-- a jump may lead to a place
abbrev pub IsFree : List Instr → ℕ → Type 0
IsFree all k = (i : Instr) → slice_get all k ≡ Some i → is_glued i ≡ false

-- a jump leads into a block or to its end
pub record Lands (all : List Instr) (s e to : ℕ) : Type 0 where
  pub low : s ≤ to
  pub high : to ≤ e
  pub free : to < e → IsFree all to

-- within the block, the access at k comes after a test of its index
pub record IsTested (all : List Instr) (s e k len : ℕ) (index : Expr) : Type 0 where
  pub place : ℕ
  pub low : s ≤ place
  pub before : place < k
  pub test : slice_get all place ≡ Some (Inside len index)
  pub kept : (at : ℕ) (i : Instr) → slice_get all at ≡ Some i → place < at → at < k → IsTrue (keeps index i)
  pub enters : (from to : ℕ) (i : Instr) → s ≤ from → from < e → slice_get all from ≡ Some i → target i ≡ Some to → place < to → to ≤ k
      → (place < from) × (from < k)

-- a block may have this instruction at this place
abbrev pub May : List Instr → ℕ → ℕ → ℕ → Instr → Type 0
May all s e k (Unlock m) = StandsBefore all k (Holds m)
May all s e k (Sleep c m) = StandsBefore all k (Holds m) × (slice_get all (k + 1) ≡ Some (Wake c m))
May all s e k (Wake c m) = StandsBefore all k (Sleep c m)
May all s e k (Join h) = StandsBefore all k (Ready h)
May all s e k (Load t (Element a len i)) = StandsBefore all k (Inside len i)
May all s e k (Store (Element a len i) v) = IsTested all s e k len i
May all s e k (Modify t (Element a len i) u) = IsTested all s e k len i
May all s e k (Branch c to) = Lands all s e to
May all s e k (Goto to) = Lands all s e to
May all s e k Exit = ⊥
May all s e k (Set t v) = Unit {0}
May all s e k (Load t (Fixed c)) = Unit {0}
May all s e k (Store (Fixed c) v) = Unit {0}
May all s e k (Modify t (Fixed c) u) = Unit {0}
May all s e k (Inside len i) = Unit {0}
May all s e k (Holds m) = Unit {0}
May all s e k (Lock m) = Unit {0}
May all s e k (Signal c) = Unit {0}
May all s e k (Broadcast c) = Unit {0}
May all s e k (Create h f es) = Unit {0}
May all s e k (Ready h) = Unit {0}
May all s e k (Assert v) = Unit {0}
May all s e k (Nonzero v) = Unit {0}
May all s e k (InRange v) = Unit {0}
May all s e k Fence = Unit {0}
May all s e k Stbar = Unit {0}

-- the block may have each instruction from s up to e at its place, and a jump may lead to the first
pub record Block (all : List Instr) (s e : ℕ) : Type 0 where
  pub ends : s ≤ e
  pub stands : (k : ℕ) (i : Instr) → s ≤ k → k < e → slice_get all k ≡ Some i → May all s e k i
  pub starts : s < e → IsFree all s

-- ---- a block in a larger one

lands : (all : List Instr) (s e k : ℕ) (i : Instr) (to : ℕ) → May all s e k i → target i ≡ Some to → Lands all s e to
lands all s e k (Branch c t) to h leads = subst (Lands all s e) (same_Some t to leads) h
lands all s e k (Goto t) to h leads = subst (Lands all s e) (same_Some t to leads) h
lands all s e k _ to h leads = absurd (none-some to leads)

pub block_lands : (all : List Instr) (s e k : ℕ) (i : Instr) (to : ℕ) → Block all s e → s ≤ k → k < e → slice_get all k ≡ Some i → target i ≡ Some to
    → Lands all s e to
block_lands all s e k i to b low high at leads = lands all s e k i to (b.stands k i low high at) leads

-- a jump from elsewhere leads past a block or to its first instruction
abbrev pub Spares : List Instr → ℕ → ℕ → ℕ → ℕ → Type 0
Spares all s e s' e' = (from to : ℕ) (i : Instr) → s ≤ from → from < e → (from < s') ⊎ (e' ≤ from) → slice_get all from ≡ Some i → target i ≡ Some to
    → (to ≤ s') ⊎ (e' ≤ to)

larger_lands : (all : List Instr) (s e s' e' to : ℕ) → s ≤ s' → e' ≤ e → (e' < e → IsFree all e') → Lands all s' e' to → Lands all s e to
larger_lands all s e s' e' to low high free l = record {
  low = omega (arith, low, l.low);
  high = omega (arith, high, l.high);
  free = λ before.
      elim (cases_lt to e') [
        | inl inner ↦ l.free inner
        | inr outer ↦ let same : e' ≡ to = omega (arith, outer, l.high) in subst (IsFree all) same (free (omega (arith, same, before)))
      ];
}

larger_tested : (all : List Instr) (s e s' e' k len : ℕ) (index : Expr) → s ≤ s' → k < e' → Spares all s e s' e' → IsTested all s' e' k len index
    → IsTested all s e k len index
larger_tested all s e s' e' k len index low within spares t = record {
  place = t.place;
  low = omega (arith, low, t.low);
  before = t.before;
  test = t.test;
  kept = t.kept;
  enters = λ from to i above below at leads past up.
      elim (cases_lt from s') [
        | inl outside ↦ elim (spares from to i above below (inl outside) at leads) [
          | inl first ↦ absurd (omega (arith, first, past, t.low))
          | inr end ↦ absurd (omega (arith, end, up, within))
        ]
        | inr more ↦ elim (cases_lt from e') [
          | inl inner ↦ t.enters from to i more inner at leads past up
          | inr outside ↦ elim (spares from to i above below (inr outside) at leads) [
            | inl first ↦ absurd (omega (arith, first, past, t.low))
            | inr end ↦ absurd (omega (arith, end, up, within))
          ]
        ]
      ];
}

larger : (all : List Instr) (s e s' e' k : ℕ) (i : Instr) → s ≤ s' → e' ≤ e → (e' < e → IsFree all e') → Spares all s e s' e' → k < e'
    → May all s' e' k i → May all s e k i
larger all s e s' e' k (Store (Element a len index) v) low high free spares within h = larger_tested all s e s' e' k len index low within spares h
larger all s e s' e' k (Modify t (Element a len index) u) low high free spares within h = larger_tested all s e s' e' k len index low within spares h
larger all s e s' e' k (Branch c to) low high free spares within h = larger_lands all s e s' e' to low high free h
larger all s e s' e' k (Goto to) low high free spares within h = larger_lands all s e s' e' to low high free h
larger all s e s' e' k (Unlock m) low high free spares within h = h
larger all s e s' e' k (Sleep c m) low high free spares within h = h
larger all s e s' e' k (Wake c m) low high free spares within h = h
larger all s e s' e' k (Join m) low high free spares within h = h
larger all s e s' e' k (Load t (Element a len index)) low high free spares within h = h
larger all s e s' e' k Exit low high free spares within h = h
larger all s e s' e' k (Set t v) low high free spares within h = h
larger all s e s' e' k (Load t (Fixed c)) low high free spares within h = h
larger all s e s' e' k (Store (Fixed c) v) low high free spares within h = h
larger all s e s' e' k (Modify t (Fixed c) u) low high free spares within h = h
larger all s e s' e' k (Inside len index) low high free spares within h = h
larger all s e s' e' k (Holds m) low high free spares within h = h
larger all s e s' e' k (Lock m) low high free spares within h = h
larger all s e s' e' k (Signal c) low high free spares within h = h
larger all s e s' e' k (Broadcast c) low high free spares within h = h
larger all s e s' e' k (Create t f es) low high free spares within h = h
larger all s e s' e' k (Ready t) low high free spares within h = h
larger all s e s' e' k (Assert v) low high free spares within h = h
larger all s e s' e' k (Nonzero v) low high free spares within h = h
larger all s e s' e' k (InRange v) low high free spares within h = h
larger all s e s' e' k Fence low high free spares within h = h
larger all s e s' e' k Stbar low high free spares within h = h

inner : (all : List Instr) (s e s' e' : ℕ) → s ≤ s' → e' ≤ e → (e' < e → IsFree all e') → Spares all s e s' e' → Block all s' e'
    → (k : ℕ) (i : Instr) → s' ≤ k → k < e' → slice_get all k ≡ Some i → May all s e k i
inner all s e s' e' low high free spares b k i above below at = larger all s e s' e' k i low high free spares below (b.stands k i above below at)

-- ---- composition of blocks

pub no_block : (all : List Instr) (s : ℕ) → Block all s s
no_block all s = record {
  ends = omega arith;
  stands = λ k i above below at. absurd (omega (arith, above, below));
  starts = λ less. absurd (omega (arith, less));
}

-- two instructions at one place are equal
pub there_is : (all : List Instr) (k : ℕ) (i j : Instr) → slice_get all k ≡ Some i → slice_get all k ≡ Some j → i ≡ j
there_is all k i j h g = same_Some i j (sym h ∙ g)

-- a jump may lead to an instruction that doesn't belong to the one before it
free_at : (all : List Instr) (k : ℕ) (j : Instr) → slice_get all k ≡ Some j → is_glued j ≡ false → IsFree all k
free_at all k j at unglued i there = ap is_glued (there_is all k i j there at) ∙ unglued

-- an instruction without a jump
pub no_jump : (all : List Instr) (k : ℕ) (j i : Instr) (to : ℕ) → slice_get all k ≡ Some j → target j ≡ None → slice_get all k ≡ Some i → target i ≡ Some to → ⊥
no_jump all k j i to at none there leads = none-some to (sym none ∙ ap target (there_is all k j i at there) ∙ leads)

-- where an instruction's jump leads
jump_is : (all : List Instr) (k : ℕ) (j i : Instr) (t to : ℕ) → slice_get all k ≡ Some j → target j ≡ Some t → slice_get all k ≡ Some i
    → target i ≡ Some to → t ≡ to
jump_is all k j i t to at is there leads = same_Some t to (sym is ∙ ap target (there_is all k j i at there) ∙ leads)

-- two blocks, one after the other
pub both_blocks : (all : List Instr) (s m e : ℕ) → Block all s m → Block all m e → Block all s e
both_blocks all s m e a b =
    let spares_a : Spares all s e s m = λ from to i above below outside at leads.
    elim outside [
      | inl less ↦ absurd (omega (arith, less, above))
      | inr more ↦ inr (block_lands all m e from i to b more below at leads).low
    ] in
    let spares_b : Spares all s e m e = λ from to i above below outside at leads.
    elim outside [
      | inl less ↦ inl (block_lands all s m from i to a above less at leads).high
      | inr more ↦ absurd (omega (arith, more, below))
    ] in
    record {
      ends = omega (arith, a.ends, b.ends);
      stands = λ k i above below at.
          elim (cases_lt k m) [
            | inl first ↦ inner all s e s m (omega arith) b.ends b.starts spares_a a k i above first at
            | inr second ↦ inner all s e m e a.ends (omega arith) (λ less. absurd (omega (arith, less))) spares_b b k i second below at
          ];
      starts = λ some.
          elim (cases_lt s m) [
            | inl more ↦ a.starts more
            | inr none ↦ let same : m ≡ s = omega (arith, none, a.ends) in subst (IsFree all) same (b.starts (omega (arith, same, some)))
          ];
    }

-- a branch past a block
pub skipped : (all : List Instr) (s e : ℕ) (c : Expr) → slice_get all s ≡ Some (Branch c e) → Block all (s + 1) e → Block all s e
skipped all s e c at a =
    let ends : s + 1 ≤ e = a.ends in
    let spares : Spares all s e (s + 1) e = λ from to i above below outside there leads.
    elim outside [
      | inl less ↦ let same : s ≡ from = omega (arith, less, above) in
          inr (omega (arith, jump_is all s (Branch c e) i e to at refl (subst (λ n. slice_get all n ≡ Some i) (sym same) there) leads))
      | inr more ↦ absurd (omega (arith, more, below))
    ] in
    let land : Lands all s e e = record { low = omega (arith, ends); high = omega arith; free = λ less. absurd (omega (arith, less)) } in
    record {
      ends = omega (arith, ends);
      stands = λ k i above below there.
          elim (cases_lt k (s + 1)) [
            | inl first ↦ let same : s ≡ k = omega (arith, first, above) in
                subst (May all s e k) (there_is all k (Branch c e) i (subst (λ n. slice_get all n ≡ Some (Branch c e)) same at) there) land
            | inr second ↦ inner all s e (s + 1) e (omega arith) (omega arith) (λ less. absurd (omega (arith, less))) spares a k i second below there
          ];
      starts = λ some. free_at all s (Branch c e) at refl;
    }

-- a fact on the known instruction at a place holds for any instruction there
stands_there : (all : List Instr) (s e p k : ℕ) (j i : Instr) → p ≡ k → slice_get all p ≡ Some j → slice_get all k ≡ Some i → May all s e k j → May all s e k i
stands_there all s e p k j i same at there may =
    subst (May all s e k) (there_is all k j i (subst (λ n. slice_get all n ≡ Some j) same at) there) may

-- where a jump leads, where that is known
leads_there : (all : List Instr) (p from : ℕ) (j i : Instr) (t to : ℕ) → p ≡ from → slice_get all p ≡ Some j → target j ≡ Some t
    → slice_get all from ≡ Some i → target i ≡ Some to → t ≡ to
leads_there all p from j i t to same at is there leads =
    jump_is all p j i t to at is (subst (λ n. slice_get all n ≡ Some i) (sym same) there) leads

-- a test with a block for each result
pub forked : (all : List Instr) (s m e : ℕ) (c : Expr) → slice_get all s ≡ Some (Branch c (m + 1)) → slice_get all m ≡ Some (Goto e)
    → Block all (s + 1) m → Block all (m + 1) e → Block all s e
forked all s m e c first past a b =
    let a_ends : s + 1 ≤ m = a.ends in
    let b_ends : m + 1 ≤ e = b.ends in
    let free_m : IsFree all m = free_at all m (Goto e) past refl in
    let spares_a : Spares all s e (s + 1) m = λ from to i above below outside there leads.
    elim (cases_lt from (s + 1)) [
      | inl less ↦ inr (omega (
        arith,
        leads_there all s from (Branch c (m + 1)) i (m + 1) to (omega (arith, less, above)) first refl there leads,
      ))
      | inr more ↦ elim (cases_lt m from) [
        | inl beyond ↦ inr (omega (arith, (block_lands all (m + 1) e from i to b (omega (arith, beyond)) below there leads).low))
        | inr up ↦ elim outside [
          | inl less ↦ absurd (omega (arith, less, more))
          | inr end ↦ inr (omega (arith, b_ends, leads_there all m from (Goto e) i e to (omega (arith, up, end)) past refl there leads))
        ]
      ]
    ] in
    let spares_b : Spares all s e (m + 1) e = λ from to i above below outside there leads.
    elim (cases_lt from (s + 1)) [
      | inl less ↦ inl (omega (
        arith,
        leads_there all s from (Branch c (m + 1)) i (m + 1) to (omega (arith, less, above)) first refl there leads,
      ))
      | inr more ↦ elim (cases_lt from m) [
        | inl inside ↦ inl (omega (arith, (block_lands all (s + 1) m from i to a more inside there leads).high))
        | inr beyond ↦ elim outside [
          | inl less ↦ inr (omega (arith, leads_there all m from (Goto e) i e to (omega (arith, beyond, less)) past refl there leads))
          | inr end ↦ absurd (omega (arith, end, below))
        ]
      ]
    ] in
    let land_b : Lands all s e (m + 1) = record { low = omega (arith, a_ends); high = b_ends; free = b.starts } in
    let land_e : Lands all s e e = record { low = omega (arith, a_ends, b_ends); high = omega arith; free = λ less. absurd (omega (arith, less)) } in
    record {
      ends = omega (arith, a_ends, b_ends);
      stands = λ k i above below there.
          elim (cases_lt k (s + 1)) [
            | inl here ↦ stands_there all s e s k (Branch c (m + 1)) i (omega (arith, here, above)) first there land_b
            | inr more ↦ elim (cases_lt k m) [
              | inl inside ↦ inner all s e (s + 1) m (omega arith) (omega (arith, b_ends)) (λ less. free_m) spares_a a k i more inside there
              | inr beyond ↦ elim (cases_lt m k) [
                | inl later ↦ inner all s e (m + 1) e (omega (arith, a_ends)) (omega arith) (λ less. absurd (omega (arith, less))) spares_b b k i
                    (omega (arith, later)) below there
                | inr up ↦ stands_there all s e m k (Goto e) i (omega (arith, up, beyond)) past there land_e
              ]
            ]
          ];
      starts = λ some. free_at all s (Branch c (m + 1)) first refl;
    }

-- a loop: the value of the test, the test, the body, and the jump back
pub looped_back : (all : List Instr) (s m n : ℕ) (c : Expr) → slice_get all m ≡ Some (Branch c (n + 1)) → slice_get all n ≡ Some (Goto s)
    → Block all s m → Block all (m + 1) n → Block all s (n + 1)
looped_back all s m n c test back a b =
    let a_ends : s ≤ m = a.ends in
    let b_ends : m + 1 ≤ n = b.ends in
    let free_m : IsFree all m = free_at all m (Branch c (n + 1)) test refl in
    let free_n : IsFree all n = free_at all n (Goto s) back refl in
    let free_s : IsFree all s =
    elim (cases_lt s m) [
      | inl more ↦ a.starts more
      | inr none ↦ let same : m ≡ s = omega (arith, none, a_ends) in subst (IsFree all) same free_m
    ] in
    let spares_a : Spares all s (n + 1) s m = λ from to i above below outside there leads.
    elim (cases_lt from (m + 1)) [
      | inl up ↦ elim outside [
        | inl less ↦ absurd (omega (arith, less, above))
        | inr end ↦ inr (omega (
          arith,
          b_ends,
          leads_there all m from (Branch c (n + 1)) i (n + 1) to (omega (arith, up, end)) test refl there leads,
        ))
      ]
      | inr more ↦ elim (cases_lt from n) [
        | inl inside ↦ inr (omega (arith, (block_lands all (m + 1) n from i to b more inside there leads).low))
        | inr beyond ↦ inl (omega (arith, leads_there all n from (Goto s) i s to (omega (arith, beyond, below)) back refl there leads))
      ]
    ] in
    let spares_b : Spares all s (n + 1) (m + 1) n = λ from to i above below outside there leads.
    elim (cases_lt from m) [
      | inl first ↦ inl (omega (arith, (block_lands all s m from i to a above first there leads).high))
      | inr more ↦ elim (cases_lt m from) [
        | inl later ↦ elim outside [
          | inl less ↦ absurd (omega (arith, less, later))
          | inr end ↦ inl (omega (arith, a_ends, leads_there all n from (Goto s) i s to (omega (arith, end, below)) back refl there leads))
        ]
        | inr up ↦ inr (omega (arith, leads_there all m from (Branch c (n + 1)) i (n + 1) to (omega (arith, more, up)) test refl there leads))
      ]
    ] in
    let land_e : Lands all s (n + 1) (n + 1) = record {
      low = omega (arith, a_ends, b_ends);
      high = omega arith;
      free = λ less. absurd (omega (
        arith,
        less,
      ));
    } in
    let land_s : Lands all s (n + 1) s = record { low = omega arith; high = omega (arith, a_ends, b_ends); free = λ less. free_s } in
    record {
      ends = omega (arith, a_ends, b_ends);
      stands = λ k i above below there.
          elim (cases_lt k m) [
            | inl first ↦ inner all s (n + 1) s m (omega arith) (omega (arith, b_ends)) (λ less. free_m) spares_a a k i above first there
            | inr more ↦ elim (cases_lt m k) [
              | inr up ↦ stands_there all s (n + 1) m k (Branch c (n + 1)) i (omega (arith, more, up)) test there land_e
              | inl later ↦ elim (cases_lt k n) [
                | inl inside ↦ inner all s (n + 1) (m + 1) n (omega (arith, a_ends)) (omega arith) (λ less. free_n) spares_b b k i (omega (
                  arith,
                  later,
                )) inside there
                | inr beyond ↦ stands_there all s (n + 1) n k (Goto s) i (omega (arith, beyond, below)) back there land_s
              ]
            ]
          ];
      starts = λ some. free_s;
    }

-- after the test of an index, instructions that don't change the index, and then the access
pub accessed_after : (all : List Instr) (s m len : ℕ) (index : Expr) (access : Instr) → is_glued access ≡ false → target access ≡ None
    → (IsTested all s (m + 1) m len index → May all s (m + 1) m access) → slice_get all s ≡ Some (Inside len index) → slice_get all m ≡ Some access
    → ((at : ℕ) (i : Instr) → slice_get all at ≡ Some i → s < at → at < m → IsTrue (keeps index i)) → Block all (s + 1) m → Block all s (m + 1)
accessed_after all s m len index access unglued leads_nowhere may test write kept a =
    let ends : s + 1 ≤ m = a.ends in
    let free_m : IsFree all m = free_at all m access write unglued in
    let spares : Spares all s (m + 1) (s + 1) m = λ from to i above below outside there leads.
    elim outside [
      | inl less ↦ let same : from ≡ s = omega (arith, less, above) in
          absurd (no_jump all s (Inside len index) i to test refl (subst (λ n. slice_get all n ≡ Some i) same there) leads)
      | inr more ↦ let same : from ≡ m = omega (arith, more, below) in
          absurd (no_jump all m access i to write leads_nowhere (subst (λ n. slice_get all n ≡ Some i) same there) leads)
    ] in
    let tested : IsTested all s (m + 1) m len index = record {
      place = s;
      low = omega arith;
      before = omega (arith, ends);
      test = test;
      kept = kept;
      enters = λ from to i above below there leads past up.
          elim (cases_lt s from) [
            | inl later ↦ elim (cases_lt from m) [
              | inl inside ↦ (later, inside)
              | inr end ↦ let same : from ≡ m = omega (arith, end, below) in
                  absurd (no_jump all m access i to write leads_nowhere (subst (λ n. slice_get all n ≡ Some i) same there) leads)
            ]
            | inr here ↦ let same : from ≡ s = omega (arith, here, above) in
                absurd (no_jump all s (Inside len index) i to test refl (subst (λ n. slice_get all n ≡ Some i) same there) leads)
          ];
    } in
    record {
      ends = omega (arith, ends);
      stands = λ k i above below there.
          elim (cases_lt s k) [
            | inr here ↦ stands_there all s (m + 1) s k (Inside len index) i (omega (arith, here, above)) test there tt
            | inl later ↦ elim (cases_lt k m) [
              | inl inside ↦ inner all s (m + 1) (s + 1) m (omega arith) (omega arith) (λ less. free_m) spares a k i (omega (arith, later)) inside there
              | inr end ↦
                  let same : m ≡ k = omega (arith, end, below) in
                  stands_there all s (m + 1) m k access i same write there (subst (λ n. May all s (m + 1) n access) same (may tested))
            ]
          ];
      starts = λ some. free_at all s (Inside len index) test refl;
    }

-- ---- blocks of one, two and three

-- an instruction that doesn't belong to another
pub one_block : (all : List Instr) (s : ℕ) (j : Instr) → slice_get all s ≡ Some j → is_glued j ≡ false
    → ((k : ℕ) → May all s (s + 1) k j) → Block all s (s + 1)
one_block all s j at unglued may = record {
  ends = omega arith;
  stands = λ k i above below there. stands_there all s (s + 1) s k j i (omega (arith, above, below)) at there (may k);
  starts = λ some. free_at all s j at unglued;
}

-- an instruction, and one that belongs to it
pub two_block : (all : List Instr) (s : ℕ) (j g : Instr) → slice_get all s ≡ Some j → slice_get all (s + 1) ≡ Some g → is_glued j ≡ false
    → ((k : ℕ) → May all s (s + 2) k j) → May all s (s + 2) (s + 1) g → Block all s (s + 2)
two_block all s j g at next unglued may after = record {
  ends = omega arith;
  stands = λ k i above below there.
      elim (cases_lt s k) [
        | inr here ↦ stands_there all s (s + 2) s k j i (omega (arith, here, above)) at there (may k)
        | inl later ↦
            let same : s + 1 ≡ k = omega (arith, later, below) in
            stands_there all s (s + 2) (s + 1) k g i same next there (subst (λ n. May all s (s + 2) n g) same after)
      ];
  starts = λ some. free_at all s j at unglued;
}

-- an instruction is directly before the next place
pub before_next : (all : List Instr) (s : ℕ) (j : Instr) → slice_get all s ≡ Some j → StandsBefore all (s + 1) j
before_next all s j at = subst (λ n. StandsBefore all n j) (sym (add-one s)) at

pub wait_block : (all : List Instr) (s c m : ℕ) → slice_get all s ≡ Some (Holds m) → slice_get all (s + 1) ≡ Some (Sleep c m)
    → slice_get all (s + 2) ≡ Some (Wake c m) → Block all s (s + 3)
wait_block all s c m holds sleep wake =
    let two : s + 1 + 1 ≡ s + 2 = omega arith in
    record {
      ends = omega arith;
      stands = λ k i above below there.
          elim (cases_lt s k) [
            | inr here ↦ stands_there all s (s + 3) s k (Holds m) i (omega (arith, here, above)) holds there tt
            | inl later ↦ elim (cases_lt (s + 1) k) [
              | inr second ↦
                  let same : s + 1 ≡ k = omega (arith, later, second) in
                  stands_there all s (s + 3) (s + 1) k (Sleep c m) i same sleep there
                  (subst (λ n. May all s (s + 3) n (Sleep c m)) same
                  (before_next all s (Holds m) holds, subst (λ n. slice_get all n ≡ Some (Wake c m)) (sym two) wake))
              | inl last ↦
                  let same : s + 2 ≡ k = omega (arith, last, below) in
                  stands_there all s (s + 3) (s + 2) k (Wake c m) i same wake there
                  (subst (λ n. StandsBefore all n (Sleep c m)) (two ∙ same) (before_next all (s + 1) (Sleep c m) sleep))
            ]
          ];
      starts = λ some. free_at all s (Holds m) holds refl;
    }
