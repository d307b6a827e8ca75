use Rattle.std.proofs.Common.{◌≡◌, ◌∙◌, ◌∷◌, [], ◌++◌, ◌≤◌, ◌<◌, ℕ, List, Some, ap, sym, subst, arith, length, length-append, refl, slice_get, slice_index_or, Less}
use Rattle.std.proofs.lemmas.Bool.{false≢true, ltb-true, ltb-false}
use Rattle.std.proofs.Math.ListN.{get_or-map}
use Rattle.std.proofs.lemmas.List.{length-map}
use Rattle.std.proofs.lemmas.Option.{slice_get_read}
use Rattle.places.proofs.Adding.{adds_append}
use Rattle.std.specs.BTreeMap.{insert_entry}
use Rattle.std.specs.List.{Contains}
use Rattle.tc_code.specs.declared.instr.Instr.{Instr}
use Rattle.places.specs.Places.{Place, round_in, place_after, round_after, next, targets, successors}
use Rattle.places.specs.helpers.Jumps.{place_by}
use Rattle.places.specs.helpers.Waiting.{Waiting, by_items, AddsAll}
use Rattle.places.proofs.Inserting.{Entry, here}
use Rattle.places.proofs.Search.{Goes, goes_further}
use Rattle.places.proofs.Finding.{same_place, adds_same, begins, ends, more, rounds_within, at_within}
use Rattle.places.proofs.reached.reached_places.Goals as goal

nothing : {X : Type 0} (xs : List X) → (0 < length xs → ⊥) → xs ≡ []
nothing [] f = refl
nothing (x ∷ xs) f = absurd (f (omega arith))

pub loop-place-init : goal.loop-place-init
loop-place-init c =
    let is = c.args.instrs.now in
    let k = c.in_ok-key.field-0 in
    let p = c.in_ok-first.first in
    let first = c.in_ok-first.ensures ∙ same_place is c.in_ok-loops.loops c.in_ok-loops.ensures 0 (λ a. 0) c.requires.some in
    let entries = c.in_ok-insert.ensures.entries ∙ ap (λ es. insert_entry by_items es k p) c.new-waiting.ensures.empty in
    let none = c.new-places.ensures.items in (
      omega (arith, ap length none),
      subst (λ ps. Goes is c.args.limits.now ps c.insert.new.self.entries) (sym none)
          (subst (Goes is c.args.limits.now []) (sym entries) (begins is c.args.limits.now k p c.in_ok-key.ensures first)),
    )

pub returns-then-len-most : goal.returns-then-len-most
returns-then-len-most c =
    let is = c.args.instrs.now in
    let limits = c.args.limits.now in
    let ps = c.loop-place.places.items in
    let w = c.pop_first.new.self.entries in
    let goes = subst (Goes is limits ps) c.in-Some.ensures.removal c.loop-place.invariant.1 in
    more is limits ps c.in-Some.field-0-0 c.in-Some.place w c.args.most (omega (arith, c.len.ensures, c.if-len-most.true, c.loop-place.places.ok)) goes

pub returns-in_default-get : goal.returns-in_default-get
returns-in_default-get c =
    let is = c.args.instrs.now in
    let limits = c.args.limits.now in
    let ps = c.loop-place.places.items in
    let w = c.pop_first.new.self.entries in
    let head : Entry = (c.in-Some.field-0-0, c.in-Some.place) in
    let goes : Goes is limits ps (head ∷ w) = subst (Goes is limits ps) c.in-Some.ensures.removal c.loop-place.invariant.1 in
    let it = goes.waits head (here head head w refl) in
    let within : c.in-Some.place.instruction < length is = at_within is limits c.requires it.0 c.in-Some.place it.1 in
    let out = ltb-false _ _ (sym c.in_default-get.ensures.lookup.0) in
    absurd (omega (arith, within, out, c.instruction.ensures))

-- the rounds of a place that waits are in range
pub in_range : (is : List Instr) (limits : List ℕ) (ps : List Place) (e : Entry) (w : Waiting) → Goes is limits ps (e ∷ w) → (first : ℕ)
    → round_in e.1 first ≤ slice_index_or limits first 0
in_range is limits ps e w goes = rounds_within is limits e.1 (goes.waits e (here e e w refl))

pub add_next-requires-clause-rounds : goal.add_next-requires-clause-rounds
add_next-requires-clause-rounds c = λ first.
    let limits = c.args.limits.now in
    let ps = c.loop-place.places.items in
    let goes = subst (Goes c.args.instrs.now limits ps) c.in-Some.ensures.removal c.loop-place.invariant.1 in
    omega (arith, in_range c.args.instrs.now limits ps (c.in-Some.field-0-0, c.in-Some.place) c.pop_first.new.self.entries goes first, c.type_inv.limits first)

pub add_target-requires : goal.add_target-requires
add_target-requires c = record {
  rounds = λ first.
      let limits = c.args.limits.now in
      let ps = c.loop-place.places.items in
      let goes = subst (Goes c.args.instrs.now limits ps) c.in-Some.ensures.removal c.loop-place.invariant.1 in
      omega (arith, in_range c.args.instrs.now limits ps (c.in-Some.field-0-0, c.in-Some.place) c.pop_first.new.self.entries goes first, c.type_inv.limits first);
}

pub loop-place-preserved : goal.loop-place-preserved
loop-place-preserved c =
    let is = c.args.instrs.now in
    let limits = c.args.limits.now in
    let ps = c.loop-place.places.items in
    let w = c.pop_first.new.self.entries in
    let k = c.in-Some.field-0-0 in
    let p = c.in-Some.place in
    let i = c.in-Some-get.instr.now in
    let goes : Goes is limits ps ((k, p) ∷ w) = subst (Goes is limits ps) c.in-Some.ensures.removal c.loop-place.invariant.1 in
    let m = c.add_next.new.waiting.entries in
    let new = c.add_target.new.waiting.entries in
    let by = λ (to : ℕ). place_by c.in_ok-loops.loops to (round_after p to) in
    let first : AddsAll limits by (next p.instruction i) w m = c.in_ok-add_next.ensures in
    let second : AddsAll limits by (targets i) m new = c.in_ok-add_target.ensures in
    let found = c.in-Some-get.ensures.lookup in
    let at : slice_get is p.instruction ≡ Some i = subst (λ n. slice_get is n ≡ Some i) c.instruction.ensures
    (slice_get_read is (length is) c.instruction.result i refl (ltb-true _ _ (sym found.0)) found.1) in
    let both : AddsAll limits by (successors p.instruction i) w new = adds_append limits by (next p.instruction i) (targets i) w m new first second in
    let same : (to : ℕ) → Contains (successors p.instruction i) to → by to ≡ place_after is p to =
    λ to leads. same_place is c.in_ok-loops.loops c.in_ok-loops.ensures to (round_after p to) (c.requires.lead p.instruction i to at leads) in
    let adds : AddsAll limits (place_after is p) (successors p.instruction i) w new = adds_same limits by (place_after is p) (successors p.instruction i) w new same both in
    let above = c.in-Some.ensures.all_above in
    let behind : (e : Entry) → Contains w e → by_items k e.0 ≡ Less =
    λ e there. subst (λ x. by_items k x ≡ Less) (get_or-map (λ (x : Entry). x.0) w there.0 e ∙ ap (λ (x : Entry). x.0) there.2)
    (above there.0 e.0 (omega (arith, there.1, length-map w (λ (x : Entry). x.0)))) in
    let items : c.push.new.self.items ≡ ps ++ p ∷ [] = c.in_ok-push.ensures.items in (
      omega (arith, ap length items, length-append ps (p ∷ []), c.len.ensures, c.if-len-most.false, c.loop-place.places.ok, c.loop-place.invariant.0),
      subst (λ xs. Goes is limits xs new) (sym items) (goes_further is limits c.requires.nest ps k p w new i goes behind at adds),
    )

pub returns : goal.returns
returns c =
    let none : c.loop-place.waiting.entries ≡ [] = nothing c.loop-place.waiting.entries (λ some. absurd (false≢true (c.in_default.ensures.variant.1 some))) in
    ends c.args.instrs.now c.args.limits.now c.loop-place.places.items (subst (Goes c.args.instrs.now c.args.limits.now c.loop-place.places.items) none c.loop-place.invariant.1)
