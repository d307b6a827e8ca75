use Rattle.std.proofs.Common.{◌≡◌, ◌∙◌, sym, ap}
use Rattle.std.specs.FinMap as fin
use Rattle.tc_base.specs.States.{Local}
use Rattle.tc_code.specs.Step.{ints_of}
use Rattle.show_rows.proofs.Deeds.{whole_so, was_at}
use Rattle.show_rows.proofs.Stores.{ints_are}
use Rattle.show_rows.proofs.telling.Telling.row.Goals as goal

pub slots_of-requires-clause-whole : goal.slots_of-requires-clause-whole
slots_of-requires-clause-whole g c = (
  c.args.code.now,
  whole_so g.M.MemoryModel.ops _ _ g.met.M.MemoryModel.laws c.args.code.now c.args.state.now c.args.self.now c.requires.so_far c.ints_of-count.ensures.lawful
      c.thread.result.now c.in-Some.thread.now (sym c.in-Some.ensures),
)

pub slots_of-requires-clause-count : goal.slots_of-requires-clause-count
slots_of-requires-clause-count g c =
    c.ints_of-count.ensures.ints
    ∙ ap (ints_of c.args.code.now) (ap (λ p. p.0) c.place-function.ensures ∙ ap (λ (t : Local). t.function) c.local.ensures)
    ∙ ints_are c.args.code.now c.in-Some.thread.now.local
    (whole_so g.M.MemoryModel.ops _ _ g.met.M.MemoryModel.laws c.args.code.now c.args.state.now c.args.self.now c.requires.so_far c.ints_of-count.ensures.lawful
    c.thread.result.now c.in-Some.thread.now (sym c.in-Some.ensures))

pub returns-clause-at : goal.returns-clause-at
returns-clause-at g c =
    was_at g.M.MemoryModel.ops _ _ g.met.M.MemoryModel.laws c.args.code.now c.args.state.now c.args.self.now c.requires.so_far
    (record { deed = c.in_ok-deed.deed; function = c.place-function.result.0; instruction = c.place-function.result.1; slots = c.in_ok-slots.slots })
    c.in-Some.thread.now
    (ap (fin.get c.args.state.now.threads) (sym c.thread.ensures) ∙ sym c.in-Some.ensures)
    (ap (λ p. p.0) c.place-function.ensures ∙ ap (λ (t : Local). t.function) c.local.ensures)
    (ap (λ p. p.1) c.place-function.ensures ∙ ap (λ (t : Local). t.instruction) c.local.ensures) c.in_ok-slots.ensures
