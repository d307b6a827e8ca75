-- The schedule of a lawful world has a text: it isn't too long, and each move is one that a schedule may have.
use Rattle.std.proofs.Common.{◌≡◌, ◌∙◌, ℕ, zero, suc, ◌+◌, ◌*◌, ◌-◌, ◌<◌, ◌≤◌, ◌&&◌, Bool, true, false, cond, List, [], ◌∷◌, ◌++◌, length, fold}
use Rattle.std.proofs.Common.{replicate, get_or, nat_lt, Option, Some, None, refl, sym, ap, subst, arith}
use Rattle.std.specs.Prelude.{slice_get, option_map, option_and_then, if◌then◌else◌, IsTrue}
use Rattle.std.specs.List.{count_by, enumerate_from, find, list_all, range_with_len}
use Rattle.std.specs.Option.{option_map_or, IfSome}
use Rattle.std.proofs.lemmas.Bool.{false≢true, and_from, and_parts, ltb-true, lt-ltb, le-ltb}
use Rattle.std.proofs.lemmas.List.{length-append}
use Rattle.std.proofs.lemmas.List.FromFn.{length-range_with_len}
use Rattle.std.proofs.lemmas.List.Folds.{list_all-append}
use Rattle.std.proofs.lemmas.List.Sums.{sum_by-cons, count_by-le-length}
use Rattle.std.proofs.lemmas.Option.{none-some, same_Some}
use Rattle.store_buffers.specs.tc_base.Buffers.{BufferOps}
use Rattle.store_buffers.specs.tc_base.Paths.{place_in}
use Rattle.store_buffers.specs.tc_base.Names.{Name}
use Rattle.schedule_file.specs.tc_limits.declared.limits.TheConstants.{CELLS, EVENTS, STEPS}
use Rattle.store_buffers.specs.memory_models.declared.model.Model.{Model}
use Rattle.store_buffers.specs.memory_models.declared.model.Model.TheVariants.{Sc, Tso, Pso}
use Rattle.store_buffers.specs.tc_base.declared.moves.Move.{Move}
use Rattle.store_buffers.specs.tc_base.declared.moves.Move.TheVariants as move
use Rattle.tc_code.specs.Code.{Code}
use Rattle.store_buffers.specs.Laws.{model_of}
use Rattle.store_buffers.specs.Pending.{Binding, form_of}
use Rattle.schedule_file.specs.Schedules.{is_name, is_move, HaveText}
use Rattle.path_walk.specs.Paths.{Walk, paths_of}
use Rattle.path_walk.specs.declared.event.Event.{Event}
use Rattle.path_walk.specs.declared.event.EventKind.{EventKind}
use Rattle.path_walk.specs.declared.event.EventKind.TheVariants as kind
use Rattle.path_walk.specs.declared.event.Sleep.{Sleep}
use Rattle.sym_exec.specs.Alone.{cell_by}
use Rattle.tc_code.specs.declared.cell.Cell.{Cell}
use Rattle.path_execution.specs.declared.execution.Execution.{Execution}
use Rattle.order_formula.specs.Worlds.{World, is_ended}
use Rattle.lawful_terms.specs.lawful_order.Events.{Placed, all_events, all_sleeps}
use Rattle.lawful_terms.specs.lawful_order.Memory.{cell_of, is_store}
use Rattle.world_moves.specs.world_plan.Plan.{is_failing, woken_by}
use Rattle.world_moves.specs.Moves.{Made, steps_of, runs_to, with_moves, with_rest, with_passing, own_move, drains_of, with_event, with_number, event_here}
use Rattle.world_moves.specs.Moves.{last_place, made_to, made_passing, made, moves_of}
use Rattle.schedule_decode.specs.Decodable.{HaveRoom, IsDecodable}
use Rattle.schedule_decode.proofs.Known.{IsOfMemory, IsKnown, AreKnown}
use Rattle.schedule_decode.proofs.Tellable.{of_all, all_known}

-- The number of elements of a list that are below a number.
abbrev digit : Bool → ℕ
digit b = cond b 1 0

abbrev below : ℕ → List ℕ → ℕ
below p xs = count_by (λ x. nat_lt x p) xs

digit_rises : (x p : ℕ) → digit (nat_lt x p) ≤ digit (nat_lt x (suc p))
digit_rises x p = by (nat_lt x p) refl
  where
    by : (b : Bool) → nat_lt x p ≡ b → digit b ≤ digit (nat_lt x (suc p))
    by true e = let less = ltb-true x p e in subst (λ b. 1 ≤ digit b) (sym (lt-ltb x (suc p) (omega (arith, less)))) (omega arith)
    by false e = omega arith

below_cons : (p x : ℕ) (xs : List ℕ) → below p (x ∷ xs) ≡ digit (nat_lt x p) + below p xs
below_cons p x xs = sum_by-cons (λ y. digit (nat_lt y p)) x xs

below_rises : (p : ℕ) (xs : List ℕ) → below p xs ≤ below (suc p) xs
below_rises p [] = omega arith
below_rises p (x ∷ xs) =
    let rest = below_rises p xs in
    let first = digit_rises x p in
    omega (arith, rest, first, below_cons p x xs, below_cons (suc p) x xs)

below_more : (p : ℕ) (xs : List ℕ) (k : ℕ) → k < length xs → get_or xs k 0 ≡ p → below p xs + 1 ≤ below (suc p) xs
below_more p [] k within at = absurd (omega (arith, within))
below_more p (x ∷ xs) zero within at =
    let rest = below_rises p xs in
    let old : digit (nat_lt x p) ≡ 0 = ap digit (le-ltb x p (omega (arith, at))) in
    let new : digit (nat_lt x (suc p)) ≡ 1 = ap digit (lt-ltb x (suc p) (omega (arith, at))) in
    omega (arith, rest, old, new, below_cons p x xs, below_cons (suc p) x xs)
below_more p (x ∷ xs) (suc k) within at =
    let rest = below_more p xs k (omega (arith, within)) at in
    let first = digit_rises x p in
    omega (arith, rest, first, below_cons p x xs, below_cons (suc p) x xs)

-- At most `most` moves, each of which a schedule may have.
record HasText (model : Model) (most : ℕ) (moves : List Move) : Type 0 where
  few : length moves ≤ most
  each : list_all (is_move model) moves ≡ true

no_text : (model : Model) (most : ℕ) → HasText model most []
no_text model most = record { few = omega arith; each = refl }

one_text : (model : Model) (a : Move) → is_move model a ≡ true → HasText model 1 (a ∷ [])
one_text model a may = record { few = omega arith; each = and_from (is_move model a) true may refl }

both_text : (model : Model) (a b : ℕ) (xs ys : List Move) → HasText model a xs → HasText model b ys → HasText model (a + b) (xs ++ ys)
both_text model a b xs ys first second = record {
  few = let long = length-append xs ys in omega (arith, long, first.few, second.few);
  each = list_all-append (is_move model) xs ys ∙ and_from (list_all (is_move model) xs) (list_all (is_move model) ys) first.each second.each;
}

more_text : (model : Model) (a b : ℕ) (xs : List Move) → a ≤ b → HasText model a xs → HasText model b xs
more_text model a b xs le has = record { few = omega (arith, le, has.few); each = has.each }

runs_text : (model : Model) (n : Name) → is_name n ≡ true → (k : ℕ) → HasText model k (replicate k (move.Run n))
runs_text model n named zero = no_text model 0
runs_text model n named (suc k) =
    let rest = runs_text model n named k in
    record { few = omega (arith, rest.few); each = and_from (is_name n) (list_all (is_move model) (replicate k (move.Run n))) named rest.each }

-- a drain names a cell exactly if its model's drains do
drain_fits : (binds buffered : Bool) (n : Name) (c : ℕ) → buffered ≡ true → is_name n ≡ true → c < CELLS
    → is_move (if buffered then (if binds then Tso else Pso) else Sc) (move.Drain n (if binds then None else Some c)) ≡ true
drain_fits binds false n c is named less = absurd (false≢true is)
drain_fits true true n c is named less = named
drain_fits false true n c is named less = and_from (is_name n) (nat_lt c CELLS) named (lt-ltb c CELLS less)

module _ (buffered : Bool) (bound : Binding) (code : Code) (x : Execution) (w : World) (room : HaveRoom x.paths)
    (cells : length code.memory ≤ CELLS) where
  abbrev model : Model
  model = model_of buffered bound

  abbrev Fits : ℕ → Made → Type 0
  Fits most m = HasText model most m.moves

  named : (t : ℕ) (q : Walk) → slice_get x.paths.threads t ≡ Some q → is_name q.name ≡ true
  named t q at = of_all (λ (v : Walk). IsTrue (is_name v.name)) x.paths.threads room.names t q at

  -- a woken thread is one of the paths
  woken_named : (event : ℕ) (u : Name) → woken_by x.paths w event ≡ Some u → is_name u ≡ true
  woken_named event u woken = by (find (λ (s : ℕ × Placed Sleep). is_ended w s.0 event) (enumerate_from 0 (all_sleeps x.paths))) woken
    where
      of_walk : (t : ℕ) (o : Option Walk) → slice_get x.paths.threads t ≡ o → option_map (λ (q : Walk). q.name) o ≡ Some u → is_name u ≡ true
      of_walk t None none is = absurd (none-some u is)
      of_walk t (Some q) at is = subst (λ n. is_name n ≡ true) (same_Some q.name u is) (named t q at)

      by : (o : Option (ℕ × Placed Sleep))
          → option_and_then (λ (s : ℕ × Placed Sleep). option_map (λ (q : Walk). q.name) (slice_get x.paths.threads s.1.thread)) o ≡ Some u → is_name u ≡ true
      by None is = absurd (none-some u is)
      by (Some s) is = of_walk s.1.thread (slice_get x.paths.threads s.1.thread) refl is

  own_fits : (event : ℕ) (n : Name) → is_name n ≡ true → (k : EventKind) → is_move model (own_move x.paths w event n k) ≡ true
  own_fits event n is (kind.Signal c) = by (woken_by x.paths w event) refl
    where
      by : (o : Option Name) → woken_by x.paths w event ≡ o → is_move model (option_map_or (move.Wake n) o (move.Run n)) ≡ true
      by None none = is
      by (Some u) woken = and_from (is_name n) (is_name u) is (woken_named event u woken)
  own_fits event n is k = is

  drains_fit : (t : ℕ) (n : Name) (k : ℕ) → is_name n ≡ true → buffered ≡ true → IfSome (cell_of x.symbolic t k) (IsOfMemory code x.terms w)
      → HasText model 1 (drains_of buffered bound x w t n k)
  drains_fit t n k is waits in_memory = by (cell_of x.symbolic t k) in_memory
    where
      by : (o : Option (Cell ℕ)) → IfSome o (IsOfMemory code x.terms w)
          → HasText model 1 (option_map_or (λ c. move.Drain n (form_of bound (cell_by x.terms w.loads c)) ∷ []) o [])
      by None m = no_text model 1
      by (Some c) m =
          one_text model (move.Drain n (form_of bound (cell_by x.terms w.loads c)))
          (drain_fits (bound false false) buffered n (cell_by x.terms w.loads c) waits is (omega (arith, m.number, cells)))

  -- An event's moves.
  event_fits : (p : ℕ) (e : ℕ × Placed Event) → IsKnown buffered code x w p e → (most : ℕ) (m : Made) → Fits most m
      → Fits (most + 65536) (with_number buffered bound x w m e)
  event_fits p e k most m fits =
      subst (λ o. Fits (most + 65536) (option_map_or (λ (q : Walk). with_event buffered bound x w m e.0 t q e.1.it) o m)) (sym k.there)
      (by (buffered && is_store e.1.it.kind) refl)
    where
      t : ℕ
      t = e.1.thread

      n : Name
      n = k.walk.name

      step : ℕ
      step = e.1.it.step

      is : is_name k.walk.name ≡ true
      is = named t k.walk k.there

      low : e.1.it.step + 1 ≤ 65535
      low = let steps = of_all (λ (q : Walk). length q.places ≤ STEPS) x.paths.threads room.steps t k.walk k.there in omega (arith, k.step, steps)

      by : (b : Bool) → (buffered && is_store e.1.it.kind) ≡ b
          → Fits (most + 65536) (cond b
          (with_moves m t (step + 1) (runs_to m t n (step + 1) ++ drains_of buffered bound x w t n step))
          (with_moves m t (step + 1) (runs_to m t n step ++ own_move x.paths w e.0 n e.1.it.kind ∷ [])))
      by true waits =
          let runs = runs_text model n is (step + 1 - steps_of m t) in
          let drains = drains_fit t n step is (and_parts buffered (is_store e.1.it.kind) waits).0 (k.cell waits) in
          let last = both_text model (step + 1 - steps_of m t) 1 _ _ runs drains in
          more_text model (most + (step + 1 - steps_of m t + 1)) (most + 65536) _ (omega (arith, low))
          (both_text model most (step + 1 - steps_of m t + 1) m.moves _ fits last)
      by false now =
          let runs = runs_text model n is (step - steps_of m t) in
          let own = one_text model (own_move x.paths w e.0 n e.1.it.kind) (own_fits e.0 n is e.1.it.kind) in
          let last = both_text model (step - steps_of m t) 1 _ _ runs own in
          more_text model (most + (step - steps_of m t + 1)) (most + 65536) _ (omega (arith, low))
          (both_text model most (step - steps_of m t + 1) m.moves _ fits last)

  -- The rest of a thread's path.
  rest_fits : (most : ℕ) (m : Made) → Fits most m → (t : ℕ) → Fits (most + 65535) (with_rest x.paths m t)
  rest_fits most m fits t = by (slice_get x.paths.threads t) refl
    where
      by : (o : Option Walk) → slice_get x.paths.threads t ≡ o
          → Fits (most + 65535) (option_map_or (λ (q : Walk). with_moves m t (length q.places) (runs_to m t q.name (length q.places))) o m)
      by None none = more_text model most (most + 65535) m.moves (omega arith) fits
      by (Some q) at =
          let steps = of_all (λ (v : Walk). length v.places ≤ STEPS) x.paths.threads room.steps t q at in
          let runs = runs_text model q.name (named t q at) (length q.places - steps_of m t) in
          more_text model (most + (length q.places - steps_of m t)) (most + 65535) _ (omega (arith, steps))
          (both_text model most (length q.places - steps_of m t) m.moves _ fits runs)

  passing_fits : (most : ℕ) (m : Made) → Fits most m → (t : ℕ) → Fits (most + 65535) (with_passing x.paths m t)
  passing_fits most m fits t = by (is_failing x.paths t) (rest_fits most m fits t)
    where
      by : (b : Bool) → Fits (most + 65535) (with_rest x.paths m t) → Fits (most + 65535) (cond b m (with_rest x.paths m t))
      by true rest = more_text model most (most + 65535) m.moves (omega arith) fits
      by false rest = rest

  all_fit : (ts : List ℕ) (most : ℕ) (m : Made) → Fits most m → Fits (most + length ts * 65535) (fold (with_passing x.paths) m ts)
  all_fit [] most m fits = more_text model most (most + 0 * 65535) m.moves (omega arith) fits
  all_fit (t ∷ ts) most m fits =
      let rest = all_fit ts (most + 65535) (with_passing x.paths m t) (passing_fits most m fits t) in
      more_text model (most + 65535 + length ts * 65535) (most + length (t ∷ ts) * 65535) _ (omega arith) rest

  -- The whole schedule.
  module _ (known : AreKnown buffered code x w) (many : length w.positions ≤ EVENTS) where
    events_fit : (p : ℕ) → p ≤ last_place x.paths w → Fits (below p w.positions * 65536) (made_to buffered bound x w p)
    events_fit zero low = no_text model (below 0 w.positions * 65536)
    events_fit (suc p) low = by (event_here x.paths w p) refl (events_fit p (omega (arith, low)))
      where
        m : Made
        m = made_to buffered bound x w p

        by : (o : Option (ℕ × Placed Event)) → event_here x.paths w p ≡ o → Fits (below p w.positions * 65536) m
            → Fits (below (suc p) w.positions * 65536) (option_map_or (with_number buffered bound x w m) o m)
        by None none fits =
            let rises = below_rises p w.positions in
            more_text model (below p w.positions * 65536) (below (suc p) w.positions * 65536) m.moves (omega (arith, rises)) fits
        by (Some e) is fits =
            let k = known p e (omega (arith, low)) is in
            let rises = below_more p w.positions e.0 k.number k.at in
            more_text model (below p w.positions * 65536 + 65536) (below (suc p) w.positions * 65536) _ (omega (arith, rises))
            (event_fits p e k (below p w.positions * 65536) m fits)

    passing_made_fits : Fits (256 * 65536 + 16 * 65535) (made_passing buffered bound x w)
    passing_made_fits =
        let end = last_place x.paths w in
        let few = count_by-le-length (λ x. nat_lt x end) w.positions in
        let ts = range_with_len 0 (length x.paths.threads) in
        more_text model (below end w.positions * 65536 + length ts * 65535) (256 * 65536 + 16 * 65535) _
        (omega (arith, few, many, room.threads, length-range_with_len 0 (length x.paths.threads)))
        (all_fit ts (below end w.positions * 65536) (made_to buffered bound x w end) (events_fit end (omega arith)))

    made_fits : Fits (256 * 65536 + 17 * 65535) (made buffered bound x w)
    made_fits = by (place_in x.paths.failing)
      where
        passed : Made
        passed = made_passing buffered bound x w

        by : (o : Option ℕ) → Fits (256 * 65536 + 17 * 65535) (option_map_or (with_rest x.paths passed) o passed)
        by None = more_text model (256 * 65536 + 16 * 65535) (256 * 65536 + 17 * 65535) passed.moves (omega arith) passing_made_fits
        by (Some t) =
            more_text model (256 * 65536 + 16 * 65535 + 65535) (256 * 65536 + 17 * 65535) _ (omega arith)
            (rest_fits (256 * 65536 + 16 * 65535) passed passing_made_fits t)

    pub moves_have_text : HaveText model (moves_of buffered bound x w)
    moves_have_text = let m = made_fits in (omega (arith, m.few), m.each)

module _ {B : Type 0} (ops : BufferOps B) (model : Model) (bound : Binding) (code : Code) (x : Execution) (w : World)
    (d : IsDecodable ops model bound code x w) (room : HaveRoom x.paths) where
  few_events : length w.positions ≤ EVENTS
  few_events =
      let same : length (all_events x.paths) ≡ length (all_events (paths_of code d.log)) = ap (λ (y : Execution). length (all_events y.paths)) d.is in
      omega (arith, d.lawful.of.events, same, room.events)

  pub have_text : HaveText model (moves_of ops.buffered bound x w)
  have_text =
      subst (λ m. HaveText m (moves_of ops.buffered bound x w)) (sym d.laws.form_law)
      (moves_have_text ops.buffered bound code x w room d.code_is.cells
      (all_known ops model bound code x w d) few_events)
