-- Adding the states of one mutex more.
use Rattle.std.proofs.Common.{◌≡◌, ℕ, ◌+◌, ◌-◌, ◌≤◌, Bool, true, ap, sym, ◌∙◌, subst, arith, length}
use Rattle.std.specs.Prelude.{◌&&◌, if◌then◌else◌, nat_le}
use Rattle.std.proofs.lemmas.Bool.{and_from, le-leb}
use Rattle.cnf_core.specs.Clauses.{Formula}
use Rattle.bit_gates.specs.Folded.{HasRoom, IsLarger}
use Rattle.bit_words.proofs.Loops.{larger_more}
use Rattle.bit_blast.specs.Drafts.{Draft}
use Rattle.mutex_states.proofs.circuit_sizes.Gates.{larger_up}
use Rattle.mutex_states.specs.Sizes.{most_size}
use Rattle.mutex_states.specs.States.{Added, has_states}
use Rattle.mutex_states.proofs.Bounds.{states_larger}
use Rattle.mutex_states.proofs.Loops.{fold_more}
use Rattle.mutex_clauses.specs.helpers.Counted.{counted}
use Rattle.mutex_clauses.specs.helpers.Logs.{IsNext, added, code_in, draft_of, formula_in, nodes_in, paths_in, size_in, spots_in, steps_in, symbolic_in, with_first, with_next, with_own}
use Rattle.mutex_clauses.specs.declared.log.Log.{Log}

pub few_of : (n room size : ℕ) → size ≡ counted n → room ≤ most_size → size ≤ room → n ≤ most_size
few_of n room size e most low = omega (arith, e, most, low)

pub room_of : (n room size : ℕ) (f : Formula) → size ≡ counted n → room ≤ most_size → size ≤ room → HasRoom room f → HasRoom n f
room_of n room size f e most low has =
    let small : n ≤ room = omega (arith, e, most, low) in (omega (arith, small, has.0), omega (arith, small, has.1))

module _ (l : Log) (m : ℕ) where
  abbrev fits : ℕ → Bool
  fits room = has_states (code_in l) (paths_in l) (symbolic_in l) (nodes_in l) (formula_in l) m room

  counted_is : (n room size : ℕ) → size ≡ counted n → room ≤ 20_000_000 → size ≤ room → size ≡ n
  counted_is n room size e most low = omega (arith, e, most, low)

  -- room
  pub next_more : (f g : Formula) (room size : ℕ) → size ≡ counted (size_in l m) → room ≤ most_size → size ≤ room
      → 2 ≤ length (steps_in l m)
      → 1 ≤ length (spots_in l m) → draft_of l g ≡ with_own l m f → IsNext l m f room g (room - size)
  next_more f g room size is most low several some made =
      let n : ℕ = size_in l m in
      let exact : size ≡ n = counted_is n room size is most low in
      let less : n ≤ room = subst (λ k. k ≤ room) exact low in
      let has : fits room ≡ true =
      and_from (nat_le 2 (length (steps_in l m))) (nat_le 1 (length (spots_in l m)) && nat_le n room)
      (le-leb 2 (length (steps_in l m)) several)
      (and_from (nat_le 1 (length (spots_in l m))) (nat_le n room) (le-leb 1 (length (spots_in l m)) some) (le-leb n room less)) in
      let grown : IsLarger n f (with_own l m f).clauses =
      states_larger (code_in l) (paths_in l) (symbolic_in l) (nodes_in l) (formula_in l) m (draft_of l f) in
      let larger : IsLarger n f g = subst (IsLarger n f) (sym (ap (λ (d : Draft). d.clauses) made)) grown in
      let next : IsNext l m f room g (room - n) = record {
        is = ap (λ (d : Draft). let x : Added = record { draft = d; room = room - n } in x) made
            ∙ sym (ap (λ b. if b then (record { draft = with_own l m f; room = room - n }) else added l f room) has);
        few = omega arith;
        larger = larger_up n (room - (room - n)) f g (back n room less) larger;
      } in
      subst (λ k. IsNext l m f room g (room - k)) (sym exact) next
    where
      back : (n room : ℕ) → n ≤ room → n ≤ room - (room - n)
      back n room less = omega (arith, less)

-- the states of the first mutexes, and of one more
module _ (l : Log) (f : Formula) where
  pub record AreFirst (mutexes : ℕ) (g : Formula) (room : ℕ) : Type 0 where
    pub is : added l g room ≡ with_first l f mutexes
    pub most : room ≤ most_size
    pub larger : IsLarger (most_size - room) f g

  pub one_more : (mutexes : ℕ) (g h : Formula) (room left : ℕ) → AreFirst mutexes g room → IsNext l mutexes g room h left
      → AreFirst (mutexes + 1) h left
  one_more mutexes g h room left was next = record {
    is = next.is ∙ ap (λ x. with_next l x mutexes) was.is ∙ sym (fold_more (with_next l) (added l f most_size) mutexes);
    most = omega (arith, next.few, was.most);
    larger =
        larger_more (most_size - room) (room - left) (most_size - left) f g h was.larger next.larger (both room left next.few was.most);
  }
    where
      both : (a b : ℕ) → b ≤ a → a ≤ 20_000_000 → 20_000_000 - b ≡ 20_000_000 - a + (a - b)
      both a b p q = omega (arith, p, q)
