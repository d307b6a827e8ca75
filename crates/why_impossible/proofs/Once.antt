-- No two reasons have the same line: groups that differ have reasons that differ, since the names of threads do.
use Rattle.std.proofs.Common.{◌≡◌, ◌≢◌, ◌∙◌, ℕ, List, [], ◌∷◌, map, Some, get_or, bytes_eq, refl, sym, ap, subst, arith}
use Rattle.std.specs.Prelude.{slice_get, option_map}
use Rattle.std.specs.Cmp.{tied_itself}
use Rattle.std.specs.List.{All, AllPairs, Contains, position_or_len}
use Rattle.std.specs.List.Sorted.{IsStrictlySortedBy}
use Rattle.std.specs.declared.cmp.Ordering.TheVariants.{Less, Equal}
use Rattle.std.proofs.lemmas.Bool.{false_from_ne_true}
use Rattle.std.proofs.lemmas.Cmp.{nat_list_cmp_total}
use Rattle.std.proofs.lemmas.List.Elements.{All-contains, All-head, All-tail}
use Rattle.std.proofs.lemmas.List.Kept.{AllPairs-cons}
use Rattle.std.proofs.lemmas.List.Sums.{position_or_len_is}
use Rattle.std.proofs.lemmas.Map.Keys.{sorted_tail}
use Rattle.std.proofs.lemmas.Map.Views.{All-after_first}
use Rattle.std.proofs.lemmas.Option.{get_or_from_slice_get, same_Some, slice_get-get_or, slice_get_within}
use Rattle.tc_base.specs.Names.{Name}
use Rattle.tc_base.proofs.Names.{same_refl, same_true}
use Rattle.path_walk.specs.Paths.{Paths, Walk}
use Rattle.order_formula.specs.declared.group.Group.{Group}
use Rattle.order_formula.specs.declared.group.Group.TheVariants as group
use Rattle.why_impossible.proofs.reached_groups.order_events.Lists.{in_map, of_map}
use Rattle.why_impossible.proofs.reached_groups.order_events.Parts.{each_in}
use Rattle.clap_solve.proofs.read_write.Formulas.{mapped}
use Rattle.why_impossible.specs.reached_groups.Groups.{group_cmp, place_of}
use Rattle.why_impossible.specs.Reasons.{name_at, reason_line, reason_of}
use Rattle.why_impossible.specs.declared.reason.Reason.{Reason}
use Rattle.why_impossible.specs.declared.reason.Reason.TheVariants.{Own, Child, Read, Mutex, Condition, Test, Stuck, Dead}
use Rattle.why_impossible.proofs.Lines.{IsPlain, one_line}

heads : {X : Type 0} (x y : X) (xs ys : List X) → x ∷ xs ≡ y ∷ ys → x ≡ y
heads x y xs ys e = cc

tails : {X : Type 0} (x y : X) (xs ys : List X) → x ∷ xs ≡ y ∷ ys → xs ≡ ys
tails x y xs ys e = cc

module _ (paths : Paths)
    (apart : (j k : ℕ) (p q : Walk) → slice_get paths.threads j ≡ Some p → slice_get paths.threads k ≡ Some q → p.name ≡ q.name → j ≡ k) where
  -- the place of the thread with a name
  abbrev place : Name → ℕ
  place name = position_or_len (λ (q : Walk). bytes_eq q.name name) paths.threads

  place_is : (t : ℕ) (q : Walk) → slice_get paths.threads t ≡ Some q → place q.name ≡ t
  place_is t q at =
      let test = λ (p : Walk). bytes_eq p.name q.name in
      let within = slice_get_within paths.threads t q at in
      position_or_len_is test paths.threads t q (omega (arith, within))
      (λ k less. false_from_ne_true (test (get_or paths.threads k q)) (λ same.
      let one = apart k t (get_or paths.threads k q) q (slice_get-get_or paths.threads k q (omega (arith, less, within))) at (same_true (get_or paths.threads k q).name q.name same) in
      omega (arith, one, less)))
      (λ _. ap test (get_or_from_slice_get paths.threads t q q at) ∙ same_refl q.name)

  -- the group of a reason
  abbrev group_at : Reason → Group
  group_at (Own name) = group.Own (place name)
  group_at (Child name) = group.Child (place name)
  group_at (Read name line) = group.Read (place name) line
  group_at (Mutex m) = group.Mutex m
  group_at (Condition c) = group.Condition c
  group_at (Test name line) = group.Test (place name) line
  group_at (Stuck name) = group.Stuck (place name)
  group_at (Dead name line) = group.Mutex 0

  named : (make : Name → Reason) (made : ℕ → Group) → ((name : Name) → group_at (make name) ≡ made (place name)) → (t : ℕ) (r : Reason)
      → option_map make (name_at paths t) ≡ Some r → group_at r ≡ made t
  named make made is t r e =
      let n = mapped make (name_at paths t) r e in
      let q = mapped (λ (w : Walk). w.name) (slice_get paths.threads t) n.0 n.1 in
      ap group_at (sym n.2) ∙ is n.0 ∙ ap (λ name. made (place name)) (sym q.2) ∙ ap made (place_is t q.0 q.1)

  group_is : (g : Group) (r : Reason) → reason_of paths g ≡ Some r → group_at r ≡ g
  group_is (group.Own t) r e = named Own group.Own (λ name. refl) t r e
  group_is (group.Child t) r e = named Child group.Child (λ name. refl) t r e
  group_is (group.Read t line) r e = named (λ name. Read name line) (λ u. group.Read u line) (λ name. refl) t r e
  group_is (group.Mutex m) r e = ap group_at (sym (same_Some (Mutex m) r e))
  group_is (group.Condition c) r e = ap group_at (sym (same_Some (Condition c) r e))
  group_is (group.Test t line) r e = named (λ name. Test name line) (λ u. group.Test u line) (λ name. refl) t r e
  group_is (group.Stuck t) r e = named Stuck group.Stuck (λ name. refl) t r e

  not_less : (g : Group) → group_cmp g g ≡ Less → ⊥
  not_less g e = let both : Less ≡ Equal = sym e ∙ tied_itself nat_list_cmp_total (place_of g) in cc

  abbrev Differ : List ℕ → List ℕ → Type 0
  Differ one other = one ≢ other

  -- groups in order, each once, have lines that differ
  pub once : (groups : List Group) (reasons : List Reason) → IsStrictlySortedBy group_cmp groups → map (reason_of paths) groups ≡ map Some reasons
      → All IsPlain reasons → AllPairs Differ (map reason_line reasons)
  once groups [] rise told plain = λ i j d less within. absurd (omega (arith, within))
  once [] (r ∷ rs) rise told plain = absurd cc
  once (g ∷ gs) (r ∷ rs) rise told plain =
      let first = heads (reason_of paths g) (Some r) (map (reason_of paths) gs) (map Some rs) told in
      let others = tails (reason_of paths g) (Some r) (map (reason_of paths) gs) (map Some rs) told in
      AllPairs-cons Differ (reason_line r) (map reason_line rs)
      (each_in (Differ (reason_line r)) (map reason_line rs) (λ l i same.
      let q = of_map reason_line l rs i in
      let h = of_map (reason_of paths) (Some q.0) gs (subst (λ os. Contains os (Some q.0)) (sym others) (in_map (λ (x : Reason). Some x) q.0 rs q.1)) in
      let one : r ≡ q.0 = one_line r q.0 (All-head IsPlain r rs plain) (All-contains IsPlain rs q.0 (All-tail IsPlain r rs plain) q.1) (same ∙ sym q.2) in
      let equal : g ≡ h.0 = sym (group_is g r first) ∙ ap group_at one ∙ group_is h.0 q.0 h.2 in
      not_less g (subst (λ k. group_cmp g k ≡ Less) (sym equal) (All-contains (λ k. group_cmp g k ≡ Less) gs h.0 (All-after_first group_cmp g gs rise) h.1))))
      (once gs rs (sorted_tail group_cmp g gs rise) others (All-tail IsPlain r rs plain))

-- a single reason has a single line
pub alone : (r : Reason) → AllPairs (λ (one other : List ℕ). one ≢ other) (map reason_line (r ∷ []))
alone r = λ i j d less within. absurd (omega (arith, less, within))
