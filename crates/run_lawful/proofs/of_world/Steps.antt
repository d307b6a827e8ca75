-- A history has the steps of a thread in the order of its path, and each drain after its store.
use Rattle.std.proofs.Common.{◌≡◌, ◌∙◌, ℕ, ◌+◌, ◌<◌, ℤ, Bool, true, cond, ◌==◌, List, ◌∷◌, ◌++◌, Option, refl, sym, ap, ap₂, arith, append_assoc}
use Rattle.std.proofs.lemmas.Bool.{false≢true, and_parts, eqb-true}
use Rattle.sym_events.specs.tc_base.Names.{Name}
use Rattle.sym_events.specs.tc_base.declared.request.Request.{Request}
use Rattle.sym_events.specs.tc_base.declared.request.Request.TheVariants.{Write}
use Rattle.sym_events.specs.tc_code.Code.{Code}
use Rattle.sym_events.specs.store_buffers.Pending.{Binding}
use Rattle.sym_events.proofs.run_laws.Names.{is_same, same_self}
use Rattle.sym_steps.specs.run_history.History.{Deed, Did, Drained, same, drains, has_drained}
use Rattle.sym_steps.specs.run_history.Told.{steps_in}
use Rattle.sym_steps.specs.run_history.pending.Deeds.{DrainsAreOfStores}
use Rattle.sym_steps.proofs.run_history.of_pending.In.{any_in, in_split}
use Rattle.sym_steps.specs.run_follows.Follow.{AllFollow}
use Rattle.sym_steps.proofs.path_laws.of_events.Steps.{steps_both, steps_first}
use Rattle.run_lawful.proofs.of_world.Splits.{TwoPlaces, Before, Same, After, two_places}

abbrev number_in : ℕ → Deed → ℕ
number_in other (Did n k r took o) = k
number_in other _ = other

-- a store's drain in a history
pub record IsDrainedAt (h : List Deed) (n : Name) (k : ℕ) : Type 0 where
  pub older : List Deed
  pub newer : List Deed
  pub cell : ℕ
  pub value : ℤ
  pub there : h ≡ older ++ Drained n k cell value ∷ newer

drained_by : (n : Name) (k : ℕ) (d : Deed) → drains n k d ≡ true → (c : ℕ) × (v : ℤ) × (d ≡ Drained n k c v)
drained_by n k (Drained q j c v) e =
    let both = and_parts (same n q) (k == j) e in
    (c, v, ap₂ (λ m i. Drained m i c v) (sym (is_same n q both.0)) (sym (eqb-true k j both.1)))
drained_by n k (Did q j r took o) e = absurd (false≢true e)

pub drained_at : (h : List Deed) (n : Name) (k : ℕ) → has_drained h n k ≡ true → IsDrainedAt h n k
drained_at h n k has =
    let p = any_in (drains n k) h has in
    let d = drained_by n k p.one p.passes in
    let s = in_split p.one h p.there in
    record { older = s.older; newer = s.newer; cell = d.0; value = d.1; there = s.there ∙ ap (λ x. s.older ++ x ∷ s.newer) d.2 }

module _ (buffered : Bool) (bound : Binding) (code : Code) (h : List Deed) (follow : AllFollow buffered bound code h) where
  -- a thread has done the steps before this one
  pub steps_after : (o m : List Deed) (n : Name) (k : ℕ) (r : Request) (v : ℤ) (x : Option Name) → h ≡ o ++ Did n k r v x ∷ m → k ≡ steps_in o n
  steps_after o m n k r v x is = (follow o m (Did n k r v x) is).1.number

  one_more : (p b : List Deed) (n : Name) (k : ℕ) (r : Request) (v : ℤ) (x : Option Name)
      → steps_in (p ++ Did n k r v x ∷ b) n ≡ steps_in p n + (1 + steps_in b n)
  one_more p b n k r v x =
      let d = Did n k r v x in
      steps_both p (d ∷ b) n
      ∙ ap (λ i. steps_in p n + i) (steps_first d b n ∙ ap (λ c. cond c 1 0 + steps_in b n) (same_self n n refl))

  -- of two steps the first has the lesser number
  pub steps_ordered : (n : Name) (k j : ℕ) (o m p q : List Deed) (r s : Request) (v w : ℤ) (x y : Option Name) → h ≡ o ++ Did n k r v x ∷ m
      → h ≡ p ++ Did n j s w y ∷ q → k < j → (between : List Deed) × (p ≡ o ++ Did n k r v x ∷ between)
  steps_ordered n k j o m p q r s v w x y one two less = by (two_places o (Did n k r v x) m p (Did n j s w y) q (sym one ∙ two))
    where
      by : TwoPlaces o (Did n k r v x) m p (Did n j s w y) q → (between : List Deed) × (p ≡ o ++ Did n k r v x ∷ between)
      by (Before between is rest) = (between, is)
      by (Same is same rest) = let e : k ≡ j = ap (number_in 0) same in absurd (omega (arith, e, less))
      by (After between is rest) =
          let e = ap (λ g. steps_in g n) is in
          absurd (omega (arith, steps_after o m n k r v x one, steps_after p q n j s w y two, less, e, one_more p between n j s w y))

  -- a step with a lesser number comes before a store's drain
  pub step_before_drain : DrainsAreOfStores h → (n : Name) (k j : ℕ) (o m : List Deed) (r : Request) (v : ℤ) (x : Option Name) → h ≡ o ++ Did n k r v x ∷ m
      → (d : IsDrainedAt h n j) → k < j → (between : List Deed) × (d.older ≡ o ++ Did n k r v x ∷ between)
  step_before_drain stores n k j o m r v x one d less =
      let i = stores d.older d.newer n j d.cell d.value d.there in
      let store = Did n j (Write d.cell d.value) i.took i.other in
      let rest = i.after ++ Drained n j d.cell d.value ∷ d.newer in
      let two : h ≡ i.before ++ store ∷ rest =
      d.there ∙ ap (λ g. g ++ Drained n j d.cell d.value ∷ d.newer) i.issued
      ∙ append_assoc i.before (store ∷ i.after) (Drained n j d.cell d.value ∷ d.newer) in
      let b = steps_ordered n k j o m i.before rest r (Write d.cell d.value) v i.took x i.other one two less in
      (b.0 ++ store ∷ i.after, i.issued ∙ ap (λ g. g ++ store ∷ i.after) b.1 ∙ append_assoc o (Did n k r v x ∷ b.0) (store ∷ i.after))
