use Rattle.std.proofs.Common.{◌≡◌, ◌∙◌, ℕ, ◌+◌, ◌<◌, List, [], ◌∷◌, ◌++◌, Some, length, get_or, map, take, ap, sym, arith}
use Rattle.std.specs.List.{enumerate_from}
use Rattle.std.proofs.lemmas.List.{get_or_default, map-append}
use Rattle.tc_code.specs.Expr as expr
use Rattle.tc_code.specs.Expr.{Expr}
use Rattle.order_events.proofs.Loops.{enumerated_more}
use Rattle.mutex_regions.specs.declared.functions.Holding.{Holding}
use Rattle.mutex_regions.specs.declared.variables.Spot.{Spot}
use Rattle.mutex_regions.proofs.Spots.{spots_count}
use Rattle.mutex_regions.proofs.functions.Doing.at_begin.Goals as goal

pub overflow_cast-slot : goal.overflow_cast-slot
overflow_cast-slot c =
    omega (arith, c.loop-slot-test.true, ap length (c.deref-spot-items.ensures.value ∙ c.in_ok-spots.ensures), spots_count c.args.variables.now, c.requires)

abbrev hold : ℕ × Spot → Holding
hold p = record { spot = p.1; value = Some (expr.Slot p.0) }

slots_on : (xs : List Spot) (i : ℕ) (d : Spot) (mid new : List Holding) (e : Expr) → i < length xs → mid ≡ map hold (enumerate_from 0 (take i xs))
    → e ≡ expr.Slot i → new ≡ mid ++ record { spot = get_or xs i d; value = Some e } ∷ [] → new ≡ map hold (enumerate_from 0 (take (i + 1) xs))
slots_on xs i d mid new e within so slot step =
    let x : Spot = get_or xs i d in
    step ∙ ap (λ s. mid ++ record { spot = x; value = Some s } ∷ []) slot ∙ ap (λ ys. ys ++ hold (i, x) ∷ []) so
    ∙ sym (map-append hold (enumerate_from 0 (take i xs)) ((i, x) ∷ [])) ∙ ap (map hold) (sym (enumerated_more xs i x within (get_or_default xs i d x within)))

pub loop-slot-preserved : goal.loop-slot-preserved
loop-slot-preserved c =
    slots_on c.deref-spot-items.result.now c.loop-slot.slot _ c.loop-slot.cells.items c.push.new.self.items c.slot.result c.loop-slot-test.true
    c.loop-slot.invariant c.slot.ensures c.in_ok-push.ensures.items
