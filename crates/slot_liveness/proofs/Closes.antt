-- Tables that are closed at each place.
use Rattle.std.proofs.Common.{◌≡◌, ◌≢◌, ◌<◌, ◌≤◌, ◌+◌, ℕ, [], List, Option, Some, None, Bool, true, false, refl, ap, sym, ◌∙◌, subst, arith, inl, inr}
use Rattle.std.specs.Prelude.{slice_get, slice_index_or, not, ◌||◌, nat_eq, length}
use Rattle.std.specs.Option.{option_map_or}
use Rattle.std.proofs.lemmas.Bool.{and_from, ne_eqb, cases_lt, or_left, or_right}
use Rattle.std.proofs.lemmas.List.{get_or_past}
use Rattle.std.proofs.lemmas.Option.{option_and_then_some, slice_get_within}
use Rattle.tc_code.specs.declared.instr.Instr.{Instr}
use Rattle.tc_code.specs.declared.instr.Instr.TheVariants.{Branch, Goto}
use Rattle.tc_code.specs.declared.code.Func.{Func}
use Rattle.tc_code.specs.Code.{Code, instr_at}
use Rattle.tc_code.specs.Lawful.{written}
use Rattle.pure_turns.specs.Live.{IsClosed, MayLead, reads_slot}
use Rattle.slot_liveness.specs.Tables.{Table, is_live_in, liveness}
use Rattle.slot_liveness.specs.helpers.Closed.{is_live_after, must_be_live, IsClosedAt, IsClosedIn}

-- a slot that the row of a place has as live, or doesn't have
pub live-there : (rows : Table) (row : List Bool) (place k : ℕ) → slice_get rows place ≡ Some row → slice_index_or row k true ≡ true
    → is_live_in rows place k ≡ true
live-there rows row place k e h = ap (λ o. option_map_or (λ r. slice_index_or r k true) o false) e ∙ h

pub live-past : (rows : Table) (row : List Bool) (place k : ℕ) → slice_get rows place ≡ Some row → length row ≤ k → is_live_in rows place k ≡ true
live-past rows row place k e h = live-there rows row place k e (get_or_past row k true h)

-- a fact about each number below the next
pub one-more : (P : ℕ → Type 0) (n : ℕ) → ((k : ℕ) → k < n → P k) → P n → (k : ℕ) → k < n + 1 → P k
one-more P n all p k h =
    elim (cases_lt k n) [
      | inl less ↦ all k less
      | inr past ↦ subst P (let same : n ≡ k = omega (arith, h, past) in same) p
    ]

-- a fact about each element below the next place, and about all elements
module _ {A : Type 0} (P : ℕ → A → Type 0) (xs : List A) (n : ℕ) (below : (k : ℕ) (y : A) → k < n → slice_get xs k ≡ Some y → P k y) where
  pub one-more-element : (x : A) → slice_get xs n ≡ Some x → P n x → (k : ℕ) (y : A) → k < n + 1 → slice_get xs k ≡ Some y → P k y
  one-more-element x e p k y h there =
      elim (cases_lt k n) [
        | inl less ↦ below k y less there
        | inr past ↦
            let same : n ≡ k = omega (arith, h, past) in
            let both : Some x ≡ Some y = sym e ∙ ap (slice_get xs) same ∙ there in
            let one : x ≡ y = cc in
            subst (λ m. P m y) same (subst (P n) one p)
      ]

  pub all-elements : length xs ≤ n → (k : ℕ) (y : A) → slice_get xs k ≡ Some y → P k y
  all-elements h k y there = below k y (omega (arith, h, slice_get_within xs k y there)) there

-- a slot that is live unless it needn't be
pub kept-live : (live must : Bool) → (live || not must) ≡ true → must ≡ true → live ≡ true
kept-live true must k m = refl
kept-live false true k m = k
kept-live false false k m = m

-- a place is closed if each slot of its row is live that must be
pub closed-row : (rows : Table) (row : List Bool) (i : Instr) (place : ℕ) → slice_get rows place ≡ Some row
    → ((k : ℕ) → k < length row → must_be_live rows i place k ≡ true → is_live_in rows place k ≡ true) → IsClosedAt rows i place
closed-row rows row i place e all k must =
    elim (cases_lt k (length row)) [
      | inl less ↦ all k less must
      | inr past ↦ live-past rows row place k e past
    ]

-- what is live where an instruction leads is live after it
leads-after : (rows : Table) (i : Instr) (from to k : ℕ) → MayLead i from to → is_live_in rows to k ≡ true → is_live_after rows i from k ≡ true
leads-after rows (Branch e target) from to k (inl h) l = or_left _ _ (subst (λ p. is_live_in rows p k ≡ true) h l)
leads-after rows (Branch e target) from to k (inr h) l = or_right (is_live_in rows (from + 1) k) _ (subst (λ p. is_live_in rows p k ≡ true) h l)
leads-after rows (Goto target) from to k h l = subst (λ p. is_live_in rows p k ≡ true) h l
leads-after rows _ from to k h l = subst (λ p. is_live_in rows p k ≡ true) h l

another : (o : Option ℕ) (k : ℕ) → o ≢ Some k → not (option_map_or (λ j. nat_eq j k) o false) ≡ true
another None k h = refl
another (Some j) k h = ap not (ne_eqb j k (λ e. h (ap Some e)))

-- tables are closed if that of each function is
pub closed-code : (code : Code) (tables : List Table)
    → ((f : ℕ) (g : Func) → slice_get code.functions f ≡ Some g → IsClosedIn (slice_index_or tables f []) g.instrs)
    → IsClosed code (liveness (Some tables))
closed-code code tables all = record {
  reads = λ f place k i at reads. closed f place i at k (or_left _ _ reads);
  passes = λ f place to k i at leads live other. closed f place i at k
      (or_right (reads_slot k i) _ (and_from _ _ (leads-after (slice_index_or tables f []) i place to k leads live) (another (written i) k other)));
}
  where
    closed : (f place : ℕ) (i : Instr) → instr_at code f place ≡ Some i → IsClosedAt (slice_index_or tables f []) i place
    closed f place i at =
        option_and_then_some (λ (g : Func). slice_get g.instrs place) (slice_get code.functions f) i at (λ g found there. all f g found place i there)
