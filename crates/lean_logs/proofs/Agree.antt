-- The slots of a thread have the values that its path determines.
use Rattle.std.proofs.Common.{◌≡◌, ◌≢◌, ◌∙◌, inl, inr, ℕ, zero, suc, ◌+◌, ◌-◌, ◌<◌, ℤ, pos, Bool, true, false, cond, List, [], ◌∷◌, ◌++◌, length, Option, Some, None, refl, sym, ap, arith, replicate, slice_set, slice_index_or, eq-eqb}
use Rattle.std.specs.Prelude.{◌==◌, option_map, option_and_then}
use Rattle.std.specs.Option.{option_map_or}
use Rattle.std.proofs.lemmas.Bool.{false≢true, eqb-true, cases_lt}
use Rattle.std.proofs.lemmas.List.{get_or-set_same, get_or_past, length-set}
use Rattle.std.proofs.lemmas.Option.{none-some, same_Some}
use Rattle.log_walk.specs.tc_base.States.{Local}
use Rattle.log_walk.specs.tc_base.declared.request.Request.{Request}
use Rattle.log_walk.specs.tc_code.Expr.{Expr, value_of}
use Rattle.log_walk.specs.tc_code.Expr.{Expr.Number, Expr.Slot, Expr.Unary, Expr.Binary}
use Rattle.log_walk.specs.tc_code.int_ops.Arith.{unary, binary}
use Rattle.log_walk.specs.tc_code.int_ops.declared.arith.BinOp.{BinOp}
use Rattle.log_walk.specs.tc_code.Lawful.{written}
use Rattle.log_walk.specs.tc_code.Step.{request, value_in, is_nonzero}
use Rattle.log_walk.specs.tc_code.declared.instr.Instr.{Instr}
use Rattle.log_walk.specs.tc_code.declared.instr.Instr.TheVariants.{Set, Branch}
use Rattle.pure_turns.proofs.run_laws.After.{branch_is}
use Rattle.pure_turns.proofs.run_laws.Basics.{index_or-set_cases, index_or-replicate}
use Rattle.least_runs.specs.run_history.Locals.{after_step}
use Rattle.log_walk.specs.thread_paths.Known.{Known, known_value, known_write, known_after, leads_to}
use Rattle.lean_logs.proofs.Idle.{slot_stays}

-- each slot whose value is known has it
abbrev pub Agree : Known → List ℤ → Type 0
Agree known slots = (slot : ℕ) (v : ℤ) → slice_index_or known slot None ≡ Some v → slice_index_or slots slot (pos 0) ≡ v

-- Expressions.

mapped : (f : ℤ → ℤ) (o : Option ℤ) (v : ℤ) → option_map f o ≡ Some v → (x : ℤ) × (o ≡ Some x) × (f x ≡ v)
mapped f None v e = absurd (none-some v e)
mapped f (Some x) v e = (x, refl, same_Some (f x) v e)

mapped_twice : (op : BinOp) (o p : Option ℤ) (v : ℤ) → option_and_then (λ x. option_map (binary op x) p) o ≡ Some v
    → (x : ℤ) × (y : ℤ) × (o ≡ Some x) × (p ≡ Some y) × (binary op x y ≡ v)
mapped_twice op None p v e = absurd (none-some v e)
mapped_twice op (Some x) p v e = let m = mapped (binary op x) p v e in (x, m.0, refl, m.1, m.2)

pub value_is : (known : Known) (slots : List ℤ) → Agree known slots → (e : Expr) (v : ℤ) → known_value known e ≡ Some v → value_of e slots ≡ v
value_is known slots agree (Number n) v is = same_Some n v is
value_is known slots agree (Slot k) v is = agree k v is
value_is known slots agree (Unary op a) v is =
    let m = mapped (unary op) (known_value known a) v is in
    ap (unary op) (value_is known slots agree a m.0 m.1) ∙ m.2
value_is known slots agree (Binary op a b) v is =
    let m = mapped_twice op (known_value known a) (known_value known b) v is in
    ap (λ x. binary op x (value_of b slots)) (value_is known slots agree a m.0 m.2)
    ∙ ap (binary op m.0) (value_is known slots agree b m.1 m.3) ∙ m.4

-- What is known after a write.

at_set : (known : Known) (k : ℕ) (w : Option ℤ) (v : ℤ) → slice_index_or (slice_set known k w) k None ≡ Some v → w ≡ Some v
at_set known k w v is =
    elim (cases_lt k (length known)) [
      | inl within ↦ sym (get_or-set_same known k w None within) ∙ is
      | inr past ↦ absurd (none-some v (sym (get_or_past (slice_set known k w) k None (omega (arith, past, length-set known k w))) ∙ is))
    ]

off_set : (known : Known) (k : ℕ) (w : Option ℤ) (slot : ℕ) (v : ℤ) → slot ≢ k → slice_index_or (slice_set known k w) slot None ≡ Some v
    → slice_index_or known slot None ≡ Some v
off_set known k w slot v apart is =
    elim (index_or-set_cases known k slot w None) [
      | inl same ↦ absurd (apart same.0)
      | inr was ↦ sym was ∙ is
    ]

module _ (known : Known) (t : Local) (agree : Agree known t.slots) (r : Request) (took : ℤ) where
  -- a known value that is written is in its slot
  write_is : (i : Instr) (k : ℕ) (v : ℤ) → written i ≡ Some k → known_write known i ≡ Some v → request t i ≡ r
      → ((j : ℕ) (e : Expr) → i ≡ Set j e → j < length t.slots) → slice_index_or (after_step t i r took).slots k (pos 0) ≡ v
  write_is (Set j e) k v writes is asks within =
      ap (λ q. slice_index_or (after_step t (Set j e) q took).slots k (pos 0)) (sym asks)
      ∙ ap (λ n. slice_index_or (slice_set t.slots j (value_in t e)) n (pos 0)) (sym (same_Some j k writes))
      ∙ get_or-set_same t.slots j (value_in t e) (pos 0) (within j e refl)
      ∙ value_is known t.slots agree e v is
  write_is _ k v writes is asks within = absurd (none-some v is)

  module _ (i : Instr) (asks : request t i ≡ r) (within : (j : ℕ) (e : Expr) → i ≡ Set j e → j < length t.slots) where
    unwritten : (slot : ℕ) (v : ℤ) → written i ≢ Some slot → slice_index_or known slot None ≡ Some v
        → slice_index_or (after_step t i r took).slots slot (pos 0) ≡ v
    unwritten slot v other is = sym (slot_stays t i r took slot other) ∙ agree slot v is

    by_slot : (k slot : ℕ) (v : ℤ) → written i ≡ Some k → slice_index_or (slice_set known k (known_write known i)) slot None ≡ Some v
        → (b : Bool) → (slot == k) ≡ b → slice_index_or (after_step t i r took).slots slot (pos 0) ≡ v
    by_slot k slot v writes is true same =
        let here : slot ≡ k = eqb-true slot k same in
        ap (λ n. slice_index_or (after_step t i r took).slots n (pos 0)) here
        ∙ write_is i k v writes
        (at_set known k (known_write known i) v (ap (λ n. slice_index_or (slice_set known k (known_write known i)) n None) (sym here) ∙ is)) asks within
    by_slot k slot v writes is false other =
        unwritten slot v
        (λ e. false≢true (sym other ∙ eq-eqb slot k (sym (same_Some k slot (sym writes ∙ e)))))
        (off_set known k (known_write known i) slot v (λ e. false≢true (sym other ∙ eq-eqb slot k e)) is)

    -- what is known after a step is so
    pub agree_next : Agree (known_after known i) (after_step t i r took).slots
    agree_next slot v is = by (written i) refl
      where
        after : (o : Option ℕ) → written i ≡ o → slice_index_or (option_map_or (λ k. slice_set known k (known_write known i)) o known) slot None ≡ Some v
        after o e = ap (λ x. slice_index_or (option_map_or (λ k. slice_set known k (known_write known i)) x known) slot None) (sym e) ∙ is

        by : (o : Option ℕ) → written i ≡ o → slice_index_or (after_step t i r took).slots slot (pos 0) ≡ v
        by None e = unwritten slot v (λ w. none-some slot (sym e ∙ w)) (after None e)
        by (Some k) e = by_slot k slot v e (after (Some k) e) (slot == k) refl

  -- a branch whose test is known leads where that says
  pub leads_there : (i : Instr) (target : ℕ) → request t i ≡ r → leads_to known t.instruction i ≡ Some target → (after_step t i r took).instruction ≡ target
  leads_there (Branch e to) target asks leads = by (known_value known e) refl leads
    where
      by : (o : Option ℤ) → known_value known e ≡ o → option_map (λ v. cond (is_nonzero v) (t.instruction + 1) to) o ≡ Some target
          → (after_step t (Branch e to) r took).instruction ≡ target
      by None is none = absurd (none-some target none)
      by (Some v) is some =
          ap (λ q. (after_step t (Branch e to) q took).instruction) (sym asks)
          ∙ ap (λ (y : Local). y.instruction) (branch_is t (is_nonzero (value_in t e)) to)
          ∙ ap (λ x. cond (is_nonzero x) (t.instruction + 1) to) (value_is known t.slots agree e v is)
          ∙ same_Some _ target some
  leads_there _ target asks leads = absurd (none-some target leads)

-- The first slots.

behind_unknown : (vs : List ℤ) (known : Known) (slots : List ℤ) → Agree known slots → Agree (replicate (length vs) None ++ known) (vs ++ slots)
behind_unknown [] known slots agree slot v is = agree slot v is
behind_unknown (x ∷ vs) known slots agree zero v is = absurd (none-some v is)
behind_unknown (x ∷ vs) known slots agree (suc slot) v is = behind_unknown vs known slots agree slot v is

zeros_are : (n slot : ℕ) (v : ℤ) → slice_index_or (replicate n (Some (pos 0))) slot None ≡ Some v → pos 0 ≡ v
zeros_are zero slot v is = absurd (none-some v is)
zeros_are (suc n) zero v is = same_Some (pos 0) v is
zeros_are (suc n) (suc slot) v is = zeros_are n slot v is

-- arguments are unknown, and other slots are 0
pub agree_at_birth : (vs : List ℤ) (n : ℕ) → Agree (replicate (length vs) None ++ replicate n (Some (pos 0))) (vs ++ replicate n (pos 0))
agree_at_birth vs n =
    behind_unknown vs (replicate n (Some (pos 0))) (replicate n (pos 0)) (λ slot v is. index_or-replicate n slot (pos 0) ∙ zeros_are n slot v is)
