-- The children that are awaited after a path.
use Rattle.std.proofs.Common.{◌≡◌, ◌∙◌, inl, inr, ℕ, zero, suc, ◌+◌, List, [], ◌∷◌, ◌++◌, Some, refl, sym, ap, subst, arith, Option}
use Rattle.std.specs.Prelude.{slice_get}
use Rattle.std.proofs.lemmas.Option.{none-some, same_Some}
use Rattle.log_walk.specs.tc_base.Names.{Name, child}
use Rattle.normal_logs.proofs.run_history.of_pending.In.{In, in_append}
use Rattle.log_walk.specs.tc_code.declared.instr.Instr.{Instr}
use Rattle.log_walk.specs.Told.{Told}
use Rattle.log_walk.specs.Rest.{end_of, waits_for, children_from}
use Rattle.log_walk.specs.declared.bounds.Kind.{Kind}
use Rattle.log_walk.specs.declared.rest.Awaited.{Awaited}
use Rattle.walked_logs.proofs.Names.{Before, siblings, child_before}

-- the awaited threads are in the order of their names, each before all below the next
abbrev pub Ordered : List Awaited → Type 0
Ordered [] = Unit {0}
Ordered (c ∷ cs) = ((d : Awaited) → In d cs → Before c.name d.name) × Ordered cs

module _ (kind : Kind) (n : Name) (at : Option Instr) (t : Told) where
  -- one of the children behind the first k
  pub record IsChild (k : ℕ) (fs : List ℕ) (c : Awaited) : Type 0 where
    pub place : ℕ
    pub there : slice_get fs place ≡ Some c.function
    pub name : c.name ≡ child n (k + place + 1)
    pub end : c.end ≡ end_of kind t (k + place + 1)
    pub waited : c.waited ≡ waits_for kind at t (k + place + 1)

  pub child_in : (k : ℕ) (fs : List ℕ) (c : Awaited) → In c (children_from kind n at t k fs) → IsChild k fs c
  child_in k [] c i = absurd i
  child_in k (f ∷ fs) c (inl same) =
      let first : k + 1 ≡ k + 0 + 1 = omega arith in
      subst (IsChild k (f ∷ fs)) same
      (record { place = 0; there = refl; name = ap (child n) first; end = ap (end_of kind t) first; waited = ap (waits_for kind at t) first })
  child_in k (f ∷ fs) c (inr i) =
      let rest = child_in (k + 1) fs c i in
      let number : k + 1 + rest.place + 1 ≡ k + suc rest.place + 1 = omega arith in
      record { place = suc rest.place; there = rest.there; name = rest.name ∙ ap (child n) number; end = rest.end ∙ ap (end_of kind t) number; waited = rest.waited ∙ ap (waits_for kind at t) number }

  -- each child is awaited
  pub child_there : (k : ℕ) (fs : List ℕ) (place f : ℕ) → slice_get fs place ≡ Some f
      → (c : Awaited) × In c (children_from kind n at t k fs) × (c.name ≡ child n (k + place + 1)) × (c.function ≡ f)
  child_there k [] place f there = absurd (none-some f there)
  child_there k (g ∷ fs) zero f there =
      let c : Awaited = record { name = child n (k + 1); function = g; end = end_of kind t (k + 1); waited = waits_for kind at t (k + 1) } in
      let first : k + 1 ≡ k + 0 + 1 = omega arith in
      (c, inl refl, ap (child n) first, same_Some g f there)
  child_there k (g ∷ fs) (suc place) f there =
      let rest = child_there (k + 1) fs place f there in
      let number : k + 1 + place + 1 ≡ k + suc place + 1 = omega arith in
      (rest.0, inr rest.1, rest.2 ∙ ap (child n) number, rest.3)

  pub ordered : (k : ℕ) (fs : List ℕ) (others : List Awaited) → ((d : Awaited) → In d others → Before n d.name) → Ordered others
      → Ordered (children_from kind n at t k fs ++ others)
  ordered k [] others before rest = rest
  ordered k (f ∷ fs) others before rest = (first, ordered (k + 1) fs others before rest)
    where
      first : (d : Awaited) → In d (children_from kind n at t (k + 1) fs ++ others) → Before (child n (k + 1)) d.name
      first d i =
          elim (in_append d (children_from kind n at t (k + 1) fs) others i) [
            | inl own ↦
                let c = child_in (k + 1) fs d own in
                subst (Before (child n (k + 1))) (sym c.name) (siblings n (k + 1) (k + 1 + c.place + 1) (omega arith))
            | inr other ↦ child_before n (k + 1) d.name (before d other)
          ]
