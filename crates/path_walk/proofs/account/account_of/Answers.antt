use Rattle.std.proofs.Common.{ℕ, ◌<◌, ap, sym, subst, arith, length, slice_index_or, IsSome}
use Rattle.tc_code.specs.Code.{instr_at}
use Rattle.path_walk.proofs.Places.{all_there, fits_from, started_few, events_few}
use Rattle.path_walk.proofs.account.account_of.Goals as goal

pub tell-requires-clause-there : goal.tell-requires-clause-there
tell-requires-clause-there c =
    subst (λ xs. (k d : ℕ) → k < length xs → IsSome (instr_at c.args.code.now c.args.function (slice_index_or xs k d))) (sym c.deref-2.ensures.value)
    (all_there c.args.code.now c.args.function _ _ _ c.in_ok-places.field-0.places.items
    (fits_from c.args.code.now c.args.function c.args.ending c.args.path.now.path _ _ c.in_ok-places.ensures.told))

pub tell-requires-clause-few : goal.tell-requires-clause-few
tell-requires-clause-few c = omega (arith, c.in_ok-places.ensures.few, ap length c.deref-2.ensures.value)

pub returns-clause-few : goal.returns-clause-few
returns-clause-few c = (
  started_few c.args.code.now c.args.function _ c.in_ok-places.field-0.places.items _ c.in_ok-started.ensures c.deref-3.ensures.value c.in_ok-places.ensures.few,
  events_few c.args.code.now c.args.function _ _ c.in_ok-places.field-0.places.items _ c.in_ok-events.ensures.events c.deref-2.ensures.value
      c.in_ok-places.ensures.few,
)
