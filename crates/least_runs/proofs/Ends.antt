-- Facts on where threads stop.
use Rattle.std.proofs.Common.{◌≡◌, ◌∙◌, ℕ, ℤ, Bool, true, ◌||◌, List, ◌∷◌, ◌++◌, Option, Some, refl, sym, ap}
use Rattle.std.specs.FinMap as fin
use Rattle.std.proofs.lemmas.Bool.{and_parts}
use Rattle.std.proofs.lemmas.List.Folds.{list_any-append}
use Rattle.std.proofs.lemmas.Option.{same_Some}
use Rattle.run_follows.specs.list_laws.Lists.{is_nil}
use Rattle.run_follows.specs.tc_base.Names.{Name, child}
use Rattle.run_follows.specs.tc_base.States.{Local}
use Rattle.run_follows.specs.tc_base.declared.request.Request.TheVariants.{Await}
use Rattle.run_follows.specs.tc_code.Code.{Code}
use Rattle.run_follows.specs.tc_code.Step.{holds}
use Rattle.run_follows.specs.store_buffers.Pending.{stores, Binding}
use Rattle.run_follows.proofs.run_laws.Owners.{owners_hold}
use Rattle.run_follows.specs.run_history.History.{Deed, Did, pending}
use Rattle.run_follows.specs.run_history.Locals.{locals_in}
use Rattle.run_follows.specs.run_history.Told.{is_exit_of, has_exited_in}
use Rattle.run_follows.specs.Machine.{Machine}
use Rattle.run_follows.specs.Follow.{AllFollow, moves_for}
use Rattle.least_runs.proofs.Reached.{reaches, has}

pub joined_exited : (buffered : Bool) (bound : Binding) (code : Code) (older newer : List Deed) (n : Name) (k j : ℕ) (took : ℤ) (other : Option Name)
    → AllFollow buffered bound code (older ++ Did n k (Await j) took other ∷ newer)
    → has_exited_in (older ++ Did n k (Await j) took other ∷ newer) (child n j) ≡ true
joined_exited buffered bound code older newer n k j took other all =
    let deed = Did n k (Await j) took other in
    let may = (all older newer deed refl).1.may in
    let before = (and_parts (is_nil (stores (pending buffered older n))) (has_exited_in older (child n j)) may).1 in
    list_any-append (is_exit_of (child n j)) older (deed ∷ newer) ∙ ap (λ b. b || has_exited_in (deed ∷ newer) (child n j)) before

module _ {B : Type 0} (machine : Machine B) where
  open machine use {ops, bound, code, lawful}

  pub one_holder : (h : List Deed) (n q : Name) (t u : Local) (m : ℕ) → AllFollow ops.buffered bound code h → fin.get (locals_in code h) n ≡ Some t
      → fin.get (locals_in code h) q ≡ Some u → holds t m ≡ true → holds u m ≡ true → n ≡ q
  one_holder h n q t u m all here there first second =
      let r = reaches machine h all in
      let x = has machine h r n t here in
      let y = has machine h r q u there in
      let owners = owners_hold ops code r.state lawful (record { moves = moves_for bound h; leads = r.leads }) in
      let own = (owners.holder n x.thread m x.there).0 (ap (λ l. holds l m) x.local ∙ first) in
      let other = (owners.holder q y.thread m y.there).0 (ap (λ l. holds l m) y.local ∙ second) in
      same_Some n q (sym own ∙ other)
