use Rattle.std.proofs.Common.{◌≡◌, ◌∙◌, length, Option, Some, None, true, false, rules, sym, refl}
use Rattle.std.specs.Prelude.{◌==◌, is_some, option_map}
use Rattle.std.proofs.lemmas.Bool.{true≢false}
use Rattle.tc_machine.proofs.Exits.{some_is_left}
use Rattle.tc_machine.proofs.Listing.{some_is_enabled, none_is_enabled}
use Rattle.show_rows.proofs.told.end_at.Goals as goal

none_mapped : {X Y : Type 0} (f : X → Y) (o : Option X) (p : Option Y) → option_map f o ≡ p → is_some o ≡ false → p ≡ None
none_mapped f None p e none = sym e
none_mapped f (Some x) p e none = absurd (true≢false none)

pub returns-then-is_empty : goal.returns-then-is_empty
returns-then-is_empty g c =
    let none : is_some c.failed.result ≡ false = search rules in
    let empty : (length c.in_ok-choices.field-0.items == 0) ≡ true = search rules in
    record {
      unfailed = none_mapped _ c.failed.result c.args.state.now.failed c.failed.ensures none;
      still = none_is_enabled g.M.MemoryModel.ops c.args.code.now c.args.state.now c.in_ok-choices.field-0.items c.in_ok-choices.ensures.all empty;
      left = some_is_left c.args.state.now (sym c.all_have_exited.ensures ∙ c.if-all_have_exited.false);
    }

pub returns-else-is_empty : goal.returns-else-is_empty
returns-else-is_empty g c =
    let none : is_some c.failed.result ≡ false = search rules in
    let some : (length c.in_ok-choices.field-0.items == 0) ≡ false = search rules in (
      none_mapped _ c.failed.result c.args.state.now.failed c.failed.ensures none,
      some_is_enabled g.M.MemoryModel.ops c.args.code.now c.args.state.now c.in_ok-choices.field-0.items c.in_ok-choices.ensures.listed some,
    )
