-- The groups of marked conjuncts are those that the derivation reaches.
use Rattle.std.proofs.Common.{◌≡◌, ◌∙◌, ℕ, zero, suc, ◌+◌, ◌<◌, ◌≤◌, Bool, true, false, cond, List, [], ◌∷◌, ◌++◌, length, drop, get_or, append_assoc, Some, inl, inr, refl, sym, ap, subst, arith}
use Rattle.std.specs.Prelude.{◌↔◌, slice_get}
use Rattle.std.specs.List.{Contains}
use Rattle.std.specs.List.Sorted.{IsStrictlySortedBy}
use Rattle.std.proofs.lemmas.Bool.{false≢true}
use Rattle.std.proofs.lemmas.List.{drop_more}
use Rattle.std.proofs.lemmas.Option.{same_Some, slice_get_cases, slice_get_within}
use Rattle.order_events.proofs.Lists.{in_back, in_front, of_cons, of_nil}
use Rattle.order_formula.specs.declared.formula.Conjunct.{Conjunct}
use Rattle.order_formula.specs.declared.group.Group.{Group}
use Rattle.bit_blast.specs.Blasted.{Blasted, root_of}
use Rattle.refute_check.specs.declared.line.Line.{Line}
use Rattle.why_impossible.specs.refute_core.Reached.{AreReached}
use Rattle.why_impossible.specs.reached_groups.Groups.{AreReachedGroups, group_cmp}
use Rattle.why_impossible.specs.reached_groups.helpers.Marked.{marked_from}

module _ (b : Blasted) (marks : List Bool) where
  abbrev mark_of : ℕ → Bool
  mark_of k = get_or marks (root_of b k) false

  -- a marked conjunct of this group among those from a number on
  record IsMarked (from : ℕ) (cs : List Conjunct) (g : Group) : Type 0 where
    k : ℕ
    c : Conjunct
    there : slice_get cs k ≡ Some c
    of : c.group ≡ g
    marked : mark_of (from + k) ≡ true

  later : (from : ℕ) (c : Conjunct) (cs : List Conjunct) (g : Group) → IsMarked (from + 1) cs g → IsMarked from (c ∷ cs) g
  later from c cs g m =
      record { k = suc m.k; c = m.c; there = m.there; of = m.of; marked = subst (λ n. mark_of n ≡ true) (omega arith) m.marked }

  of_marked : (from : ℕ) (cs : List Conjunct) (g : Group) → Contains (marked_from b marks from cs) g → IsMarked from cs g
  of_marked from [] g i = absurd (of_nil g i)
  of_marked from (c ∷ cs) g i = by (mark_of from) refl i (of_marked (from + 1) cs g)
    where
      by : (m : Bool) → mark_of from ≡ m → Contains (cond m (c.group ∷ marked_from b marks (from + 1) cs) (marked_from b marks (from + 1) cs)) g
          → (Contains (marked_from b marks (from + 1) cs) g → IsMarked (from + 1) cs g) → IsMarked from (c ∷ cs) g
      by true is i rest = elim (of_cons g c.group (marked_from b marks (from + 1) cs) i) [
        | inl here ↦ record { k = 0; c = c; there = refl; of = here; marked = subst (λ n. mark_of n ≡ true) (omega arith) is }
        | inr more ↦ later from c cs g (rest more)
      ]
      by false is i rest = later from c cs g (rest i)

  in_marked : (from : ℕ) (cs : List Conjunct) (k : ℕ) (c : Conjunct) → slice_get cs k ≡ Some c → mark_of (from + k) ≡ true
      → Contains (marked_from b marks from cs) c.group
  in_marked from [] k c at is = absurd (omega (arith, slice_get_within [] k c at))
  in_marked from (d ∷ cs) zero c at is = by (mark_of from) (subst (λ n. mark_of n ≡ true) (omega arith) is)
    where
      by : (m : Bool) → m ≡ true → Contains (cond m (d.group ∷ marked_from b marks (from + 1) cs) (marked_from b marks (from + 1) cs)) c.group
      by true right = subst (λ (e : Conjunct). Contains (d.group ∷ marked_from b marks (from + 1) cs) e.group) (same_Some d c at)
          (in_front d.group (marked_from b marks (from + 1) cs))
      by false wrong = absurd (false≢true wrong)
  in_marked from (d ∷ cs) (suc k) c at is = by (mark_of from) (in_marked (from + 1) cs k c at (subst (λ n. mark_of n ≡ true) (omega arith) is))
    where
      by : (m : Bool) → Contains (marked_from b marks (from + 1) cs) c.group
          → Contains (cond m (d.group ∷ marked_from b marks (from + 1) cs) (marked_from b marks (from + 1) cs)) c.group
      by true i = in_back c.group d.group (marked_from b marks (from + 1) cs) i
      by false i = i

-- the next conjunct, which is marked or not
module _ (b : Blasted) (marks : List Bool) (formula : List Conjunct) (n : ℕ) (all groups : List Group)
    (sofar : groups ++ marked_from b marks n (drop n formula) ≡ all) where
  abbrev rest : List Group
  rest = marked_from b marks (n + 1) (drop (n + 1) formula)

  next : (d : Conjunct) → n < length formula → (m : Bool) → get_or marks (root_of b n) false ≡ m
      → groups ++ cond m ((get_or formula n d).group ∷ rest) rest ≡ all
  next d below m mark =
      ap (λ k. groups ++ cond k ((get_or formula n d).group ∷ rest) rest) (sym mark)
      ∙ ap (λ cs. groups ++ marked_from b marks n cs) (sym (drop_more formula n d below)) ∙ sofar

  pub marked_next : (d : Conjunct) → n < length formula → get_or marks (root_of b n) false ≡ true
      → (groups ++ (get_or formula n d).group ∷ []) ++ rest ≡ all
  marked_next d below mark = append_assoc groups ((get_or formula n d).group ∷ []) rest ∙ next d below true mark

  pub unmarked_next : n < length formula → get_or marks (root_of b n) false ≡ false → groups ++ rest ≡ all
  unmarked_next below mark = elim (slice_get_cases formula n).1 [
    | inl here ↦ next here.0 below false mark
    | inr past ↦ absurd (omega (arith, below, past.0))
  ]

-- the groups of the marks of a derivation, in order, are those that it reaches
pub are_reached : (formula : List Conjunct) (b : Blasted) (lines : List Line) (marks : List Bool) (groups : List Group)
    → AreReached b.clauses lines marks → b.conjuncts ≡ length formula → length formula ≤ length b.clauses.clauses
    → IsStrictlySortedBy group_cmp groups → ((g : Group) → Contains (marked_from b marks 0 formula) g ↔ Contains groups g)
    → AreReachedGroups formula b lines groups
are_reached formula b lines marks groups are as_many fit rise same = record {
  rise = rise;
  each = λ g i.
      let m = of_marked b marks 0 formula g ((same g).1 i) in
      record { number = m.k; conjunct = m.c; there = m.there; of = m.of; reached = are.reached (root_of b m.k) (subst (λ n. get_or marks (root_of b n) false ≡ true) (omega arith) m.marked) };
  every = λ g r.
      let below = slice_get_within formula r.number r.conjunct r.there in
      subst (Contains groups) r.of
      ((same r.conjunct.group).0 (in_marked b marks 0 formula r.number r.conjunct r.there
      (subst (λ n. get_or marks (root_of b n) false ≡ true) (omega arith)
      (are.every (root_of b r.number) (omega (arith, as_many, fit, below)) r.reached))));
}
