-- The accesses and events of a thread, and the numbers of events.
use Rattle.std.proofs.Common.{◌≡◌, ℕ, ◌<◌, ◌==◌, List, length, get_or, Some, slice_get, inl, inr, refl, ap, sym, subst, ◌∙◌, arith}
use Rattle.std.specs.List.{Contains}
use Rattle.std.specs.Option.{option_map_or}
use Rattle.std.proofs.lemmas.Bool.{false≢true, and_parts, cases_order, eq-eqb, eqb-true}
use Rattle.std.proofs.lemmas.List.Elements.{Contains-get_or}
use Rattle.std.proofs.lemmas.Map.Keys.{apart_from_distinct}
use Rattle.std.proofs.lemmas.Option.{same_Some, slice_get-get_or}
use Rattle.path_walk.specs.Paths.{Paths}
use Rattle.path_walk.specs.declared.event.Event.{Event}
use Rattle.sym_exec.specs.Executed.{Symbolic}
use Rattle.sym_exec.specs.declared.symbolic.Access.{Access}
use Rattle.order_formula.specs.Worlds.{World, IsWorld, position}
use Rattle.order_cells.specs.lawful_order.Events.{Placed, HasEvent, all_events, number_of}
use Rattle.order_cells.specs.lawful_order.Reads.{HasAccess}
use Rattle.order_cells.specs.lawful_order.Whole.{AreWhole, IsExecutedBy}
use Rattle.order_events.proofs.Lists.{in_at}
use Rattle.order_events.proofs.Numbers.{has_number, in_all_from, is_step_at, of_all_from}
use Rattle.read_write.specs.Accesses.{all_accesses}
use Rattle.read_write.specs.Reading.{line_in}

-- in a list with a rising key, two elements with the same key are the same
one_of_key : {X : Type 0} (key : X → ℕ) (xs : List X)
    → ((j k : ℕ) (x y : X) → slice_get xs j ≡ Some x → slice_get xs k ≡ Some y → j < k → key x < key y)
    → (x y : X) → Contains xs x → Contains xs y → key x ≡ key y → x ≡ y
one_of_key key xs rise x y i j same =
    let a = in_at xs x i in
    let b = in_at xs y j in
    elim (cases_order a.0 b.0) [
      | inl one ↦ same_Some x y (sym a.1 ∙ ap (slice_get xs) one ∙ b.1)
      | inr (inl less) ↦ absurd (omega (arith, rise a.0 b.0 x y a.1 b.1 less, same))
      | inr (inr more) ↦ absurd (omega (arith, rise b.0 a.0 y x b.1 a.1 more, same))
    ]

-- two reads of one place give the same
one_at : {W : Type 0} (ws : List W) (t : ℕ) (v w : W) → slice_get ws t ≡ Some v → slice_get ws t ≡ Some w → v ≡ w
one_at ws t v w a b = same_Some v w (sym a ∙ b)

-- accesses
pub access_in : (symbolic : Symbolic) (t : ℕ) (a : Access) → HasAccess symbolic t a → Contains (all_accesses symbolic) (record { thread = t; it = a })
access_in symbolic t a has = in_all_from (λ c. c.accesses) 0 t t symbolic.threads has.0 a has.1 has.2 (omega arith)

pub access_of : (symbolic : Symbolic) (a : Placed Access) → Contains (all_accesses symbolic) a → HasAccess symbolic a.thread a.it
access_of symbolic a i =
    let o = of_all_from (λ c. c.accesses) 0 symbolic.threads a i in
    (o.owner, subst (λ t. slice_get symbolic.threads t ≡ Some o.owner) (omega (arith, o.thread)) o.at, o.among)

pub one_access : (paths : Paths) (symbolic : Symbolic) (t : ℕ) (a b : Access) → IsExecutedBy paths symbolic → HasAccess symbolic t a
    → HasAccess symbolic t b → a.step ≡ b.step → a ≡ b
one_access paths symbolic t a b executed has had same =
    let there : Contains has.0.accesses b = subst (λ c. Contains c.accesses b) (one_at symbolic.threads t had.0 has.0 had.1 has.1) had.2 in
    one_of_key (λ x. x.step) has.0.accesses (λ j k x y p q less. executed.rise t j k has.0 x y has.1 p q less) a b has.2 there same

-- the event at the number of a thread's step is that step's event
module _ (paths : Paths) (whole : AreWhole paths) where
  one_event : (t : ℕ) (x y : Event) → HasEvent paths t x → HasEvent paths t y → x.step ≡ y.step → x ≡ y
  one_event t x y has had same =
      let there : Contains has.0.events y = subst (λ q. Contains q.events y) (one_at paths.threads t had.0 has.0 had.1 has.1) had.2 in
      one_of_key (λ e. e.step) has.0.events (λ j k a b p q less. whole.rise t j k has.0 a b has.1 p q less) x y has.2 there same

  pub line_is : (t : ℕ) (x : Event) → HasEvent paths t x → line_in (all_events paths) t x.step ≡ x.line
  line_is t x has =
      let all = all_events paths in
      let n = number_of paths t x.step in
      let own : Placed Event = record { thread = t; it = x } in
      let within : n < length all = has_number paths t x.step (x, has, refl) in
      let e = get_or all n own in
      let is = and_parts (e.thread == t) (e.it.step == x.step) (is_step_at paths t x.step own within) in
      let thread : e.thread ≡ t = eqb-true e.thread t is.0 in
      let o = of_all_from (λ q. q.events) 0 paths.threads e (Contains-get_or all n own within) in
      let had : HasEvent paths t e.it =
      (o.owner, subst (λ k. slice_get paths.threads k ≡ Some o.owner) (omega (arith, o.thread, thread)) o.at, o.among) in
      ap (λ f. option_map_or (λ (y : Placed Event). y.it.line) f 0) (slice_get-get_or all n own within)
      ∙ ap (λ (y : Event). y.line) (one_event t e.it x had has (eqb-true e.it.step x.step is.1))

-- different events have different positions
pub one_position : (w : World) (n m : ℕ) → IsWorld w → n < length w.positions → m < length w.positions → position w n ≡ position w m → n ≡ m
one_position w n m is inn inm same = elim (cases_order n m) [
  | inl one ↦ one
  | inr (inl less) ↦ absurd (differs n m less inm same)
  | inr (inr more) ↦ absurd (differs m n more inn (sym same))
]
  where
    differs : (i j : ℕ) → i < j → j < length w.positions → position w i ≡ position w j → ⊥
    differs i j less inside e =
        false≢true (sym (apart_from_distinct (λ p q. p == q) w.positions i j 0 is.distinct less inside) ∙ eq-eqb (position w i) (position w j) e)
