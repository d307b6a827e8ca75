-- The cells of deeds are in memory.
use Rattle.std.proofs.Common.{◌≡◌, ℕ, ◌<◌, ℤ, List, ◌∷◌, ◌++◌, length, Option, Some, refl, subst}
use Rattle.std.proofs.lemmas.Option.{none-some, same_Some}
use Rattle.run_history.specs.tc_base.Names.{Name}
use Rattle.run_history.specs.tc_base.declared.request.Request.{Request}
use Rattle.run_history.specs.tc_base.declared.request.Request.TheVariants.{Silent, Read, Write, Exchange}
use Rattle.run_history.specs.tc_code.Code.{Code}
use Rattle.run_history.proofs.run_laws.Asks.{AsksOf, next_asks_within}
use Rattle.run_history.specs.History.{Deed, Did, Drained}
use Rattle.run_history.specs.Locals.{asks_next}
use Rattle.run_follows.specs.Machine.{Machine}
use Rattle.run_follows.specs.Follow.{AllFollow, moves_for}
use Rattle.run_follows.proofs.Enabled.{Tells, told}
use Rattle.run_follows.proofs.Plays.{asker, follows_is_run}
use Rattle.run_follows.specs.deeds.Cells.{cell_of}
use Rattle.run_follows.proofs.of_deeds.Follow.{first_follow}

cell_asked : (code : Code) (r : Request) (c : ℕ) → AsksOf code r → cell_of r ≡ Some c → c < length code.memory
cell_asked code (Read d) c within is = subst (λ k. k < length code.memory) (same_Some d c is) within
cell_asked code (Write d v) c within is = subst (λ k. k < length code.memory) (same_Some d c is) within
cell_asked code (Exchange d v) c within is = subst (λ k. k < length code.memory) (same_Some d c is) within
cell_asked code Silent c within is = absurd (none-some c is)
cell_asked code r c within is = absurd (none-some c is)

module _ {B : Type 0} (machine : Machine B) where
  open machine use {ops, model, bound, laws, code, lawful}

  -- the next request of a thread names a cell in memory
  pub next_within : (h : List Deed) (n : Name) (r : Request) → AllFollow ops.buffered bound code h
      → asks_next code h n ≡ Some r → AsksOf code r
  next_within h n r all asks =
      let p = follows_is_run machine h all in
      let tells = subst (Tells ops model bound laws code p.0) p.2 (told ops model bound laws code (moves_for bound h) p.0 p.1) in
      let x = asker machine p.0 h n r tells asks in
      subst (AsksOf code) x.by.asks
      (next_asks_within ops code p.0 n x.thread x.by.instr lawful (record { moves = moves_for bound h; leads = p.1 }) x.there x.by.at)

  pub next_cell : (h : List Deed) (n : Name) (c : ℕ) (r : Request) → AllFollow ops.buffered bound code h
      → asks_next code h n ≡ Some r → cell_of r ≡ Some c → c < length code.memory
  next_cell h n c r all asks is = cell_asked code r c (next_within h n r all asks) is

  pub step_cell : (h older newer : List Deed) (n : Name) (k c : ℕ) (r : Request) (took : ℤ) (other : Option Name)
      → AllFollow ops.buffered bound code h → h ≡ older ++ Did n k r took other ∷ newer → cell_of r ≡ Some c → c < length code.memory
  step_cell h older newer n k c r took other all there is =
      let before = first_follow ops.buffered bound code older (Did n k r took other ∷ newer) (subst (AllFollow ops.buffered bound code) there all) in
      next_cell older n c r before (all older newer (Did n k r took other) there).1.asks is

  pub drain_cell : (h older newer : List Deed) (n : Name) (k c : ℕ) (v : ℤ)
      → AllFollow ops.buffered bound code h → h ≡ older ++ Drained n k c v ∷ newer → c < length code.memory
  drain_cell h older newer n k c v all there =
      let before = first_follow ops.buffered bound code older (Drained n k c v ∷ newer) (subst (AllFollow ops.buffered bound code) there all) in
      let i = (all older newer (Drained n k c v) there).1.next.issued in
      step_cell older i.before i.after n k c (Write c v) i.took i.other before i.issued refl
