-- Threads of a log, and their names.
use Rattle.std.proofs.Common.{◌≡◌, ◌∙◌, ◌⊎◌, inl, inr, ℕ, ◌<◌, Bool, true, false, ◌==◌, length}
use Rattle.std.proofs.Common.{Some, None, refl, sym, ap, subst, arith, bytes_eq, get_or}
use Rattle.std.specs.Prelude.{slice_get, nat_lt, option_and_then, option_map}
use Rattle.std.specs.declared.cmp.Ordering.TheVariants.{Less}
use Rattle.std.proofs.lemmas.Bool.{and_parts, ltb-true}
use Rattle.std.proofs.lemmas.Option.{same_Some, slice_get-get_or}
use Rattle.sym_exec.specs.tc_base.Names.{child, by_name}
use Rattle.sym_exec.specs.run_log.Logs.{Log}
use Rattle.sym_exec.specs.tc_base.Paths.{ThreadPath, place_in}
use Rattle.sym_exec.specs.tc_base.declared.failing.Failing.{Failing}
use Rattle.sym_exec.specs.tc_base.declared.failing.Failing.TheVariants as failing
use Rattle.sym_exec.specs.run_log.Logs.{rises_from, is_there, is_log}
use Rattle.sym_exec.proofs.run_log.Rising.{rise as rise_in}
use Rattle.sym_exec.specs.path_walk.Fits.{ending_by, fails_in}
use Rattle.sym_exec.specs.path_walk.Steps.{is_failing}
use Rattle.path_laws.proofs.Prefixes.{failing_by}
use Rattle.sym_exec.specs.Executed.{has_failed}
use Rattle.sym_exec.proofs.tc_base.Names.{between, not_itself, child_is_above, apart_less, apart_above, same_refl}

order : (j k : ℕ) → (j < k) ⊎ ((j ≡ k) ⊎ (k < j))
order j k = by (nat_lt j k) refl (nat_lt k j) refl
  where
    by : (b : Bool) → nat_lt j k ≡ b → (c : Bool) → nat_lt k j ≡ c → (j < k) ⊎ ((j ≡ k) ⊎ (k < j))
    by true e c g = inl (ltb-true j k e)
    by false e true g = inr (inr (ltb-true k j g))
    by false e false g = inr (inl (grind (arith, e, g)))

-- In a log the names are in order.
module _ (log : Log) (is : is_log log ≡ true) where
  pub rise : (j k : ℕ) (a b : ThreadPath) → j < k → slice_get log.threads j ≡ Some a → slice_get log.threads k ≡ Some b → by_name a.name b.name ≡ Less
  rise j k a b lt at bt =
      rise_in None log.threads j k a b (and_parts (rises_from None log.threads) _ is).0 lt at bt

  -- a name has only one place
  pub one_place : (j k : ℕ) (a b : ThreadPath) → slice_get log.threads j ≡ Some a → slice_get log.threads k ≡ Some b → a.name ≡ b.name → j ≡ k
  one_place j k a b at bt same =
      elim (order j k) [
        | inl lt ↦ absurd (not_itself b.name (subst (λ n. by_name n b.name ≡ Less) same (rise j k a b lt at bt)))
        | inr more ↦
            elim more [
              | inl e ↦ e
              | inr gt ↦ absurd (not_itself b.name (subst (λ n. by_name b.name n ≡ Less) same (rise k j b a gt bt at)))
            ]
      ]

  -- a parent comes before its child
  pub parent_before : (j k : ℕ) (a b : ThreadPath) (number : ℕ) → slice_get log.threads j ≡ Some a → slice_get log.threads k ≡ Some b
      → b.name ≡ child a.name number → j < k
  parent_before j k a b number at bt name =
      let less : by_name a.name b.name ≡ Less = subst (λ n. by_name a.name n ≡ Less) (sym name) (child_is_above a.name number) in
      elim (order j k) [
        | inl lt ↦ lt
        | inr more ↦
            elim more [
              | inl e ↦
                  let same : a ≡ b = same_Some a b (sym at ∙ ap (slice_get log.threads) e ∙ bt) in
                  absurd (not_itself b.name (subst (λ (x : ThreadPath). by_name x.name b.name ≡ Less) same less))
              | inr gt ↦ absurd (not_itself a.name (between a.name b.name a.name less (rise k j b a gt bt at)))
            ]
      ]

  -- names before a place are different
  pub others_before : (j k : ℕ) (a b : ThreadPath) → j < k → slice_get log.threads j ≡ Some a → slice_get log.threads k ≡ Some b
      → bytes_eq a.name b.name ≡ false
  others_before j k a b lt at bt = apart_less a.name b.name (rise j k a b lt at bt)

  -- the thread that failed is that of its place
  pub failing_is : (j : ℕ) (p : ThreadPath) → slice_get log.threads j ≡ Some p → fails_in log p.name ≡ has_failed log.failing j
  failing_is j p at = by log.failing (and_parts (rises_from None log.threads) _ is).1
    where
      same_place : (k : ℕ) (q : ThreadPath) → slice_get log.threads k ≡ Some q → bytes_eq p.name q.name ≡ (j == k)
      same_place k q qt =
          elim (order j k) [
            | inl lt ↦
                let not : (j == k) ≡ false = grind (arith, lt) in
                apart_less p.name q.name (rise j k p q lt at qt) ∙ sym not
            | inr more ↦
                elim more [
                  | inl e ↦
                      let same : p ≡ q = same_Some p q (sym at ∙ ap (slice_get log.threads) e ∙ qt) in
                      let yes : (j == k) ≡ true = grind (arith, e) in
                      subst (λ (x : ThreadPath). bytes_eq p.name x.name ≡ true) same (same_refl p.name) ∙ sym yes
                  | inr gt ↦
                      let not : (j == k) ≡ false = grind (arith, gt) in
                      apart_above p.name q.name (rise k j q p gt qt at) ∙ sym not
                ]
          ]

      by : (f : Failing) → is_there f (length log.threads) ≡ true
          → is_failing (ending_by (option_and_then (λ k. option_map (λ (x : ThreadPath). x.name) (slice_get log.threads k)) (place_in f)) p.name) ≡ has_failed f j
      by (failing.Thread k) within =
          let q = get_or log.threads k p in
          let there : slice_get log.threads k ≡ Some q = slice_get-get_or log.threads k p (ltb-true k (length log.threads) within) in
          ap (λ o. is_failing (ending_by (option_map (λ (x : ThreadPath). x.name) o) p.name)) there
          ∙ failing_by (Some q.name) p.name ∙ same_place k q there
      by failing.Deadlock some = refl
