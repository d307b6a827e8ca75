-- An event stays before a later one either always or if the test of their indexes passes.
use Rattle.std.proofs.Common.{◌≡◌, ◌∙◌, ℕ, ◌==◌, inl, inr, ap₂, Bool, true, false, not, cond, ◌&&◌, ◌||◌, List, []}
use Rattle.std.proofs.Common.{◌∷◌, Option, Some, None, refl, ap, sym, subst}
use Rattle.std.specs.Prelude.{is_some, is_none, unwrap_or, option_map, option_and_then}
use Rattle.std.specs.List.{Contains, find}
use Rattle.std.specs.Option.{option_eq}
use Rattle.std.proofs.lemmas.Bool.{false≢true, true≢false, not-true, cases_Bool, and_parts, and_right, and_from, eq-eqb}
use Rattle.std.proofs.lemmas.Option.{none-some, cond_some}
use Rattle.path_walk.specs.Paths.{Paths}
use Rattle.path_walk.specs.declared.event.Event.{Event}
use Rattle.path_walk.specs.declared.event.EventKind.{EventKind}
use Rattle.path_walk.specs.declared.event.EventKind.TheVariants as kind
use Rattle.store_buffers.specs.Pending.{Binding}
use Rattle.sym_terms.specs.Terms.{AreTerms, id_of}
use Rattle.sym_terms.specs.declared.node.Node.{Node}
use Rattle.sym_exec.specs.Executed.{Symbolic}
use Rattle.sym_exec.specs.declared.symbolic.Access.{Access}
use Rattle.sym_exec.specs.tc_code.declared.cell.Cell.{Cell}
use Rattle.order_formula.specs.Truth.{passes_at}
use Rattle.order_formula.specs.Worlds.{World}
use Rattle.order_cells.specs.lawful_order.Cells.{is_same_cell}
use Rattle.order_cells.specs.lawful_order.Events.{HasEvent}
use Rattle.order_cells.specs.lawful_order.Memory.{cell_of, is_store, may_overtake, same_cell, is_kept}
use Rattle.order_cells.specs.lawful_order.Whole.{IsExecutedBy}
use Rattle.order_events.proofs.Lists.{of_nil, of_cons}
use Rattle.order_cells.specs.Same.{known_same, same_test}
use Rattle.order_cells.proofs.Told.{told, tested, either}
use Rattle.memory_order.specs.Twos.{Two}
use Rattle.memory_order.specs.Own.{is_settled, keeps, cells_of, is_always_kept, kept_test}

-- whether two events are kept in order, as a function of whether their cells are the same
by_same : (s m k : Bool) (f : Bool → Bool) → f true ≡ true → (s || (m || k && f false)) ≡ true → (same : Bool) → (s || (m || k && f same)) ≡ true
by_same true m k f up h same = refl
by_same false true k f up h same = refl
by_same false false true f up h true = up
by_same false false true f up h false = h
by_same false false false f up h same = absurd (false≢true h)

-- In a world, two events that are always kept are kept, those with a test are kept if it passes,
-- and no others are.
pub record Told (nodes : List Node) (w : World) (kept always : Bool) (o : Option Node) : Type 0 where
  pub always_kept : always ≡ true → kept ≡ true
  pub tested : (test : Node) → o ≡ Some test → Contains nodes test → kept ≡ passes_at nodes w (id_of nodes test)
  pub others : kept ≡ true → always ≡ false → (test : Node) × (o ≡ Some test)

cond_none : (b : Bool) → ◌≡◌ {A = Option Node} (cond b None None) None
cond_none true = refl
cond_none false = refl

-- whether two events are kept in order, given whether their cells are the same
module _ (nodes : List Node) (w : World) (keep : Bool → Bool) (up : keep false ≡ true → (same : Bool) → keep same ≡ true) (same : Bool) where
  abbrev is_unsure : Bool
  is_unsure = keep true && not (keep false)

  -- the two are kept in order exactly if their cells are the same
  unsure_is : is_unsure ≡ true → keep same ≡ same
  unsure_is unsure = by same
    where
      parts : (keep true ≡ true) × (not (keep false) ≡ true)
      parts = and_parts (keep true) (not (keep false)) unsure

      by : (b : Bool) → keep b ≡ b
      by true = parts.0
      by false = not-true (keep false) parts.1

  -- the case in which it is known whether the cells are the same
  known_told : (v : Bool) (o : Option Node) → same ≡ v → is_some o ≡ false → Told nodes w (keep same) (keep v) (cond is_unsure o None)
  known_told v None is none = record {
    always_kept = λ h. ap keep is ∙ h;
    tested = λ test h there. absurd (none-some test (sym (cond_none is_unsure) ∙ h));
    others = λ h lost. absurd (false≢true (sym lost ∙ sym (ap keep is) ∙ h));
  }
  known_told v (Some test) is none = absurd (true≢false none)

  -- a test decides whether the cells are the same
  test_told : (test : Node) → (Contains nodes test → same ≡ passes_at nodes w (id_of nodes test))
      → Told nodes w (keep same) (keep false) (cond is_unsure (Some test) None)
  test_told test passes = record {
    always_kept = λ h. up h same;
    tested = λ other h there.
        let o = cond_some is_unsure test other h in
        unsure_is o.0 ∙ passes (subst (Contains nodes) (sym o.1) there) ∙ ap (λ n. passes_at nodes w (id_of nodes n)) o.1;
    others = λ h lost. (test, ap (λ b. cond b (Some test) None) (and_from (keep true) (not (keep false)) (kept_then same refl h lost) (ap not lost)));
  }
    where
      kept_then : (b : Bool) → same ≡ b → keep same ≡ true → keep false ≡ false → keep true ≡ true
      kept_then true is h lost = ap keep (sym is) ∙ h
      kept_then false is h lost = absurd (false≢true (sym lost ∙ ap keep (sym is) ∙ h))

pub only_store : (k : EventKind) → is_store k ≡ true → k ≡ kind.Store
only_store kind.Store h = refl
only_store _ h = absurd (false≢true h)

find_some : {X : Type 0} (p : X → Bool) (xs : List X) (x : X) → Contains xs x → p x ≡ true → (y : X) × (find p xs ≡ Some y)
find_some p [] x i hit = absurd (of_nil x i)
find_some {X} p (z ∷ zs) x i hit = by (p z) refl (λ rest. find_some p zs x rest hit)
  where
    by : (b : Bool) → p z ≡ b → (Contains zs x → (y : X) × (find p zs ≡ Some y)) → (y : X) × (cond b (Some z) (find p zs) ≡ Some y)
    by true is later = (z, refl)
    by false is later = elim (of_cons x z zs i) [
      | inl same ↦ absurd (false≢true (sym is ∙ ap p same ∙ hit))
      | inr rest ↦ later rest
    ]

module _ (buffered : Bool) (bound : Binding) (symbolic : Symbolic) (t : ℕ) where
  -- the cells of a thread's stores exist
  store_has_cell : (paths : Paths) → IsExecutedBy paths symbolic → (x : Event) → HasEvent paths t x → is_store x.kind ≡ true
      → (a : Cell ℕ) × (cell_of symbolic t x.step ≡ Some a)
  store_has_cell paths executed x there store =
      let e = executed.events t x there (inr (inl (only_store x.kind store))) in
      let h = e.1 in
      let f = find_some (λ (a : Access). a.step == x.step) h.0.accesses e.0 h.2 (eq-eqb e.0.step x.step e.2) in (
        f.0.cell,
        ap (λ o. option_map (λ (a : Access). a.cell) (option_and_then (λ c. find (λ (a : Access). a.step == x.step) c.accesses) o)) h.1
            ∙ ap (option_map (λ (a : Access). a.cell)) f.1,
      )

  -- two events with cells, or for which cells don't matter
  pub data HaveCells (x y : Event) : Type 0 where
    Cells : (a b : Cell ℕ) → cell_of symbolic t x.step ≡ Some a → cell_of symbolic t y.step ≡ Some b → HaveCells x y
    -- whether the cells are the same changes nothing
    Apart : ((same other : Bool) → keeps buffered bound same x y ≡ keeps buffered bound other x y) → HaveCells x y

  apart_first : (x y : Event) → is_store x.kind ≡ false → (same other : Bool) → keeps buffered bound same x y ≡ keeps buffered bound other x y
  apart_first x y load same other =
      let s : is_settled buffered x.kind ≡ true = ap not (and_right buffered (is_store x.kind) load) in
      let rest : Bool → Bool = λ b. not (may_overtake y.kind) || is_store y.kind && bound b (not (x.bars == y.bars)) in
      ap (λ b. b || rest same) s ∙ sym (ap (λ b. b || rest other) s)

  apart_second : (x y : Event) → is_store y.kind ≡ false → (same other : Bool) → keeps buffered bound same x y ≡ keeps buffered bound other x y
  apart_second x y load same other =
      let rest : Bool → Bool → Bool = λ k b. is_settled buffered x.kind || (not (may_overtake y.kind) || k && bound b (not (x.bars == y.bars))) in
      ap (λ k. rest k same) load ∙ sym (ap (λ k. rest k other) load)

  pub have_cells : (paths : Paths) → IsExecutedBy paths symbolic → (x y : Event) → HasEvent paths t x → HasEvent paths t y → HaveCells x y
  have_cells paths executed x y first second = elim (cases_Bool (is_store x.kind)) [
    | inr load ↦ Apart (apart_first x y load)
    | inl store ↦ elim (cases_Bool (is_store y.kind)) [
      | inr load ↦ Apart (apart_second x y load)
      | inl other ↦
          (let a = store_has_cell paths executed x first store in
          let b = store_has_cell paths executed y second other in
          Cells a.0 b.0 a.1 b.1)
    ]
  ]

  module _ (nodes : List Node) (w : World) (paths : Paths) (are : AreTerms nodes) (up : (barred : Bool) → bound true barred ≡ true) where
    abbrev AreTold : Two Event → Type 0
    AreTold p = Told nodes w (is_kept buffered bound paths symbolic nodes w t p.first p.second)
        (is_always_kept buffered bound symbolic nodes t p.first p.second) (kept_test buffered bound symbolic nodes t p)

    keep_more : (p : Two Event) → keeps buffered bound false p.first p.second ≡ true → (same : Bool) → keeps buffered bound same p.first p.second ≡ true
    keep_more p h same =
        let barred = not (p.first.bars == p.second.bars) in
        by_same (is_settled buffered p.first.kind) (not (may_overtake p.second.kind)) (is_store p.second.kind) (λ b. bound b barred) (up barred) h same

    -- the same for two cells
    cells_told : (p : Two Event) (a b : Cell ℕ) (o : Option Bool) (test : Option Node) → known_same nodes a b ≡ o → same_test nodes a b ≡ test
        → Told nodes w (keeps buffered bound (is_same_cell nodes w a b) p.first p.second) (keeps buffered bound (unwrap_or o false) p.first p.second)
        (cond (keeps buffered bound true p.first p.second && not (keeps buffered bound false p.first p.second)) test None)
    cells_told p a b (Some v) test known is =
        known_told nodes w (λ s. keeps buffered bound s p.first p.second) (keep_more p) (is_same_cell nodes w a b) v test (told nodes w a b v known)
        (ap is_some (sym is) ∙ either nodes a b ∙ ap is_none known)
    cells_told p a b None None known is = absurd (false≢true (ap is_some (sym is) ∙ either nodes a b ∙ ap is_none known))
    cells_told p a b None (Some test) known is =
        test_told nodes w (λ s. keeps buffered bound s p.first p.second) (keep_more p) (is_same_cell nodes w a b) test
        (λ there. tested nodes w a b test are is there)

    pub two_told : (p : Two Event) → HaveCells p.first p.second → AreTold p
    two_told p (Cells a b first second) =
        let K : Bool → Bool = λ s. keeps buffered bound s p.first p.second in
        let cells : cells_of symbolic t p.first p.second ≡ Some (a, b) =
        ap₂ (λ o q. option_and_then (λ c. option_and_then (λ d. Some (c, d)) q) o) first second in
        let kept : is_kept buffered bound paths symbolic nodes w t p.first p.second ≡ K (is_same_cell nodes w a b) =
        ap₂ (λ o q. K (option_eq (is_same_cell nodes w) o q)) first second in
        let always : is_always_kept buffered bound symbolic nodes t p.first p.second ≡ K (unwrap_or (known_same nodes a b) false) =
        ap (λ o. K (unwrap_or (option_and_then (λ c. known_same nodes c.0 c.1) o) false)) cells in
        let test : kept_test buffered bound symbolic nodes t p ≡ cond (K true && not (K false)) (same_test nodes a b) None =
        ap (λ o. cond (K true && not (K false)) (option_and_then (λ c. same_test nodes c.0 c.1) o) None) cells in
        let here = cells_told p a b (known_same nodes a b) (same_test nodes a b) refl refl in
        record {
          always_kept = λ h. kept ∙ here.always_kept (sym always ∙ h);
          tested = λ n h there. kept ∙ here.tested n (sym test ∙ h) there;
          others = λ h lost. let o = here.others (sym kept ∙ h) (sym always ∙ lost) in (o.0, test ∙ o.1);
        }
    two_told p (Apart same) =
        let K : Bool → Bool = λ s. keeps buffered bound s p.first p.second in
        let cells = same_cell buffered bound paths symbolic nodes w t p.first p.second in
        let known = unwrap_or (option_and_then (λ c. known_same nodes c.0 c.1) (cells_of symbolic t p.first p.second)) false in
        let test = option_and_then (λ c. same_test nodes c.0 c.1) (cells_of symbolic t p.first p.second) in
        record {
          always_kept = λ h. same cells known ∙ h;
          tested = λ n h there. absurd (no_test test n h);
          others = λ h lost. absurd (false≢true (sym lost ∙ same known cells ∙ h));
        }
      where
        no_test : (o : Option Node) (n : Node)
            → cond (keeps buffered bound true p.first p.second && not (keeps buffered bound false p.first p.second)) o None ≡ Some n → ⊥
        no_test o n h = elim (cases_Bool (keeps buffered bound true p.first p.second && not (keeps buffered bound false p.first p.second))) [
          | inl unsure ↦
              (let parts = and_parts (keeps buffered bound true p.first p.second) (not (keeps buffered bound false p.first p.second)) unsure in
              false≢true (sym (not-true (keeps buffered bound false p.first p.second) parts.1) ∙ same false true ∙ parts.0))
          | inr shut ↦ none-some n (ap (λ b. cond b o None) (sym shut) ∙ h)
        ]
