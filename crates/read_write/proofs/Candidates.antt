-- One access as a write whose value a load may take: in the formula and in the rule.
use Rattle.std.proofs.Common.{◌≡◌, ◌⊎◌, ℕ, ◌<◌, ◌&&◌, ◌||◌, ◌==◌, not, Bool, true, false, List, get_or, Option, Some, None, inl, inr}
use Rattle.std.proofs.Common.{refl, ap, sym, subst, ◌∙◌, arith}
use Rattle.std.specs.Prelude.{nat_lt, is_some, is_none, unwrap_or, option_map, option_and_then, if◌then◌else◌}
use Rattle.std.specs.List.{Contains}
use Rattle.std.specs.Option.{option_map_or}
use Rattle.std.proofs.lemmas.Bool.{false≢true, true≢false, and_parts, and_from, or_cases, or_left, or_right, eq-eqb, eqb-true, lt-ltb, ltb-true, not_from_false}
use Rattle.std.proofs.lemmas.Option.{none-some, same_Some}
use Rattle.path_walk.specs.Paths.{Paths}
use Rattle.path_walk.specs.declared.event.Event.{Event}
use Rattle.sym_terms.specs.Terms.{AreTerms, id_of}
use Rattle.sym_terms.specs.declared.node.Node.{Node}
use Rattle.sym_exec.specs.declared.symbolic.Access.{Access}
use Rattle.order_formula.specs.declared.read.Candidate.{Candidate}
use Rattle.order_formula.specs.Reads as plain
use Rattle.order_formula.specs.Truth.{is_read, passes_at}
use Rattle.order_formula.specs.Worlds.{World, is_before}
use Rattle.order_cells.specs.lawful_order.Cells.{is_same_cell}
use Rattle.order_cells.specs.lawful_order.Events.{Placed, IsBefore, all_events, number_of}
use Rattle.order_cells.specs.Same.{known_same, same_test}
use Rattle.order_cells.proofs.Told.{either, tested, told}
use Rattle.read_write.specs.Accesses.{is_one, is_earlier}
use Rattle.read_write.specs.Reading.{may_be_seen, test_of, candidate_of, candidate_with}

module _ (nodes : List Node) (load : Placed Access) where
  -- the test of a write that may be seen is that of their two cells
  pub tests_of : (b : Placed Access) (v : ℕ) → may_be_seen nodes load b ≡ true → b.it.writes ≡ Some v
      → test_of nodes load b ≡ same_test nodes b.it.cell load.it.cell
  tests_of b v may writes =
      let test = same_test nodes b.it.cell load.it.cell in
      ap (λ m. if m then option_and_then (λ _. test) b.it.writes else None) may ∙ ap (option_and_then (λ _. test)) writes

module _ (events : List (Placed Event)) (nodes : List Node) (load : Placed Access) where
  -- a candidate is a write, which may be seen
  pub record IsCandidate (b : Placed Access) (c : Candidate) : Type 0 where
    pub may : may_be_seen nodes load b ≡ true
    pub value : ℕ
    pub writes : b.it.writes ≡ Some value
    pub is : c ≡ candidate_with events nodes load b value

  pub candidate_parts : (b : Placed Access) (c : Candidate) → candidate_of events nodes load b ≡ Some c → IsCandidate b c
  candidate_parts b c gives = by (may_be_seen nodes load b) refl b.it.writes refl gives
    where
      by : (m : Bool) → may_be_seen nodes load b ≡ m → (o : Option ℕ) → b.it.writes ≡ o
          → (if m then option_map (candidate_with events nodes load b) o else None) ≡ Some c → IsCandidate b c
      by false may o is at = absurd (none-some c at)
      by true may None is at = absurd (none-some c at)
      by true may (Some v) is at = record { may = may; value = v; writes = is; is = sym (same_Some (candidate_with events nodes load b v) c at) }

  pub candidate_there : (b : Placed Access) (v : ℕ) → may_be_seen nodes load b ≡ true → b.it.writes ≡ Some v
      → candidate_of events nodes load b ≡ Some (candidate_with events nodes load b v)
  candidate_there b v may is =
      ap (λ m. if m then option_map (candidate_with events nodes load b) b.it.writes else None) may ∙ ap (option_map (candidate_with events nodes load b)) is

module _ (paths : Paths) (nodes : List Node) (w : World) (are : AreTerms nodes) (load : Placed Access) where
  -- if the test of indexes exists, the formula knows whether a write is to the load's cell
  abbrev is_told : Placed Access → Bool
  is_told b = option_map_or (passes_at nodes w) (option_map (id_of nodes) (same_test nodes b.it.cell load.it.cell)) true

  cell_is_told : (b : Placed Access) → may_be_seen nodes load b ≡ true → ((n : Node) → same_test nodes b.it.cell load.it.cell ≡ Some n → Contains nodes n)
      → is_told b ≡ is_same_cell nodes w b.it.cell load.it.cell
  cell_is_told b may there = by (known_same nodes b.it.cell load.it.cell) refl (same_test nodes b.it.cell load.it.cell) refl
    where
      by : (k : Option Bool) → known_same nodes b.it.cell load.it.cell ≡ k → (t : Option Node) → same_test nodes b.it.cell load.it.cell ≡ t
          → option_map_or (passes_at nodes w) (option_map (id_of nodes) t) true ≡ is_same_cell nodes w b.it.cell load.it.cell
      by (Some false) is t at =
          let cell = and_parts (not (is_one b load)) (unwrap_or (known_same nodes b.it.cell load.it.cell) true) may in
          absurd (false≢true (sym (ap (λ o. unwrap_or o true) is) ∙ cell.1))
      by (Some true) is None at = sym (told nodes w b.it.cell load.it.cell true is)
      by (Some true) is (Some n) at = absurd (true≢false (sym (ap is_some at) ∙ either nodes b.it.cell load.it.cell ∙ ap is_none is))
      by None is None at = absurd (false≢true (sym (ap is_some at) ∙ either nodes b.it.cell load.it.cell ∙ ap is_none is))
      by None is (Some n) at = sym (tested nodes w b.it.cell load.it.cell n are at (there n at))

  -- a write to the load's cell isn't known to be to another
  may_be : (b : Placed Access) → is_same_cell nodes w b.it.cell load.it.cell ≡ true → unwrap_or (known_same nodes b.it.cell load.it.cell) true ≡ true
  may_be b same = by (known_same nodes b.it.cell load.it.cell) refl
    where
      by : (k : Option Bool) → known_same nodes b.it.cell load.it.cell ≡ k → unwrap_or k true ≡ true
      by None is = refl
      by (Some true) is = refl
      by (Some false) is = absurd (false≢true (sym (told nodes w b.it.cell load.it.cell false is) ∙ same))

  -- the load comes after the access, in the order or on its path
  abbrev pub IsAfter : Placed Access → Type 0
  IsAfter b = IsBefore paths w b.thread b.it.step load.thread load.it.step ⊎ ((b.thread ≡ load.thread) × (b.it.step < load.it.step))

  -- the access isn't the load itself
  not_itself : (b : Placed Access) → IsAfter b → is_one b load ≡ false
  not_itself b after = by (is_one b load) refl
    where
      by : (o : Bool) → is_one b load ≡ o → o ≡ false
      by false is = refl
      by true is =
          let same = and_parts (b.thread == load.thread) (b.it.step == load.it.step) is in
          let t = eqb-true b.thread load.thread same.0 in
          let k = eqb-true b.it.step load.it.step same.1 in
          absurd (elim after [
            | inl before ↦
                let at : number_of paths b.thread b.it.step ≡ number_of paths load.thread load.it.step =
                ap (λ u. number_of paths u b.it.step) t ∙ ap (number_of paths load.thread) k in
                omega (arith, before, ap (λ n. get_or w.positions n 0) at)
            | inr path ↦ omega (arith, path.1, k)
          ])

  pub may_from : (b : Placed Access) → is_same_cell nodes w b.it.cell load.it.cell ≡ true → IsAfter b → may_be_seen nodes load b ≡ true
  may_from b same after =
      and_from (not (is_one b load)) (unwrap_or (known_same nodes b.it.cell load.it.cell) true)
      (not_from_false (is_one b load) (not_itself b after)) (may_be b same)

  -- the formula's test whether the load sees it
  abbrev is_seen : Placed Access → ℕ → Bool
  is_seen b event = is_earlier b load || is_before w (number_of paths b.thread b.it.step) event

  after_from_seen : (b : Placed Access) → is_seen b (number_of paths load.thread load.it.step) ≡ true → IsAfter b
  after_from_seen b seen =
      let n = number_of paths b.thread b.it.step in
      let m = number_of paths load.thread load.it.step in
      elim (or_cases (is_earlier b load) (is_before w n m) seen) [
        | inl path ↦
            let h = and_parts (b.thread == load.thread) (nat_lt b.it.step load.it.step) path in
            inr (eqb-true b.thread load.thread h.0, ltb-true b.it.step load.it.step h.1)
        | inr before ↦ inl (ltb-true (get_or w.positions n 0) (get_or w.positions m 0) before)
      ]

  seen_from_after : (b : Placed Access) → IsAfter b → is_seen b (number_of paths load.thread load.it.step) ≡ true
  seen_from_after b after =
      let n = number_of paths b.thread b.it.step in
      let m = number_of paths load.thread load.it.step in
      elim after [
        | inl before ↦ or_right (is_earlier b load) (is_before w n m) (lt-ltb (get_or w.positions n 0) (get_or w.positions m 0) before)
        | inr path ↦ or_left (is_earlier b load) (is_before w n m)
            (and_from (b.thread == load.thread) (nat_lt b.it.step load.it.step) (eq-eqb b.thread load.thread path.0) (lt-ltb b.it.step load.it.step path.1))
      ]

  -- the formula reads a candidate exactly if the load sees the access by the rule
  module _ (r : plain.Read) (at : r.event ≡ number_of paths load.thread load.it.step) (b : Placed Access) (c : Candidate)
      (of : IsCandidate (all_events paths) nodes load b c) (there : (n : Node) → test_of nodes load b ≡ Some n → Contains nodes n) where
    told_here : is_told b ≡ is_same_cell nodes w b.it.cell load.it.cell
    told_here = cell_is_told b of.may (λ n is. there n (tests_of nodes load b of.value of.may of.writes ∙ is))

    pub after_from_read : is_read nodes w r c ≡ true → (is_same_cell nodes w b.it.cell load.it.cell ≡ true) × IsAfter b
    after_from_read read =
        let n = number_of paths load.thread load.it.step in
        let read : is_read nodes w r (candidate_with (all_events paths) nodes load b of.value) ≡ true = subst (λ d. is_read nodes w r d ≡ true) of.is read in
        let h = and_parts (is_seen b n) (is_told b) (subst (λ m. (is_seen b m && is_told b) ≡ true) at read) in
        (sym told_here ∙ h.1, after_from_seen b h.0)

    pub read_from_after : is_same_cell nodes w b.it.cell load.it.cell ≡ true → IsAfter b → is_read nodes w r c ≡ true
    read_from_after same after =
        let n = number_of paths load.thread load.it.step in
        let read : (is_seen b n && is_told b) ≡ true = and_from (is_seen b n) (is_told b) (seen_from_after b after) (told_here ∙ same) in
        subst (λ d. is_read nodes w r d ≡ true) (sym of.is) (subst (λ m. (is_seen b m && is_told b) ≡ true) (sym at) read)
