-- Worlds with the same order have the same number of switches at most.
use Rattle.std.proofs.Common.{◌≡◌, ◌∙◌, ℕ, ◌+◌, ◌<◌, ◌≤◌, nat_lt, Bool, true, false, List, length, Option, Some, None, refl, sym, arith}
use Rattle.std.specs.List.{All}
use Rattle.std.proofs.lemmas.Bool.{ltb-true}
use Rattle.std.proofs.lemmas.List.Elements.{All-get_or}
use Rattle.clap_solve.specs.order_formula.Worlds.{World, IsWorld, is_before, position}
use Rattle.switch_clauses.specs.switch_runs.order_switches.Switches.{end_at, switches}
use Rattle.switch_clauses.proofs.switch_runs.order_switches.Levels as levels

module _ (threads : List ℕ) (failing : Option ℕ) (most : ℕ) (w x : World) (is : IsWorld w) (is_too : IsWorld x)
    (long : length threads ≡ length w.positions) (long_too : length threads ≡ length x.positions)
    (there : (last : ℕ) → failing ≡ Some last → last < length threads) (small : All (λ p. p < 256) w.positions)
    (same : (e g : ℕ) → e < length threads → g < length threads → is_before w e g ≡ is_before x e g) where
  -- an event that counts in one world counts in the other
  counts_by : (o : Option ℕ) → failing ≡ o → (g : ℕ) → g < length threads → position x g < end_at o x → position w g < end_at o w
  counts_by None none g less counts = All-get_or (λ p. p < 256) w.positions g 0 (omega (arith, less, long)) small
  counts_by (Some last) some g less counts = by (nat_lt (position w last) (position w g)) refl
    where
      by : (b : Bool) → nat_lt (position w last) (position w g) ≡ b → position w g < position w last + 1
      by true before =
          let after = ltb-true (position x last) (position x g) (sym (same last g (there last some) less) ∙ before) in absurd (omega (arith, after, counts))
      by false before = grind (arith, before)

  pub same_few : switches threads failing w ≤ most → switches threads failing x ≤ most
  same_few few =
      let l = levels.levels threads failing w most is long few in
      levels.few threads failing x most is_too long_too l.0 (record {
        rise = λ e g one other differ before counts.
            l.1.rise e g one other differ (same e g one other ∙ before) (counts_by failing refl g other counts);
        most = λ g one counts. l.1.most g one (counts_by failing refl g one counts);
      })
