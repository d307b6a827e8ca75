-- Partial store order obeys the laws.
use Rattle.std.proofs.Common.{
  ◌≡◌,
  ℕ,
  ◌==◌,
  ℤ,
  pos,
  Bool,
  true,
  false,
  cond,
  not,
  ◌&&◌,
  ◌||◌,
  Option,
  Some,
  None,
  List,
  [],
  ◌∷◌,
  ◌++◌,
  drop,
  slice_index_or,
  fold,
  refl,
  sym,
  ap,
  ◌∙◌,
  subst,
  append_assoc,
  append-nil,
}
use Rattle.std.specs.List.{list_all, last_or}
use Rattle.std.specs.Option.{option_or}
use Rattle.std.specs.FinMap as fin
use Rattle.std.proofs.lemmas.Bool.{false≢true, not-true, or_parts, eqb-true}
use Rattle.std.specs.Cmp.{nat_eq_equiv}
use Rattle.tc_base.specs.Buffers.{Entry}
use Rattle.store_buffers.specs.Buffers.{Segment, values_to, with_values, has_no_store, issue_last, last_value, first_values, drop_first, may_drain_cell, cell_buffer, newest}
use Rattle.list_laws.specs.Lists.{is_nil}
use Rattle.memory_models.specs.declared.model.Model.TheVariants.{Pso}
use Rattle.store_buffers.specs.Pending.{Pending, Store, Bar, stores, has_bar, binds_cells, waits, Stands, put}
use Rattle.store_buffers.specs.Laws.{Laws, SomeDrains, TakesOut}
use Rattle.list_laws.proofs.Options.{or_none}
use Rattle.store_buffers.specs.helpers.Lists.{or_assoc}
use Rattle.store_buffers.specs.helpers.Segments.{
  IsTidy,
  values-empty,
  tidy-empty,
  no_store-empty,
  has_store,
  with_first,
  tidy-with_first,
  first_values-store,
  first_values-past,
  drop_first-store,
  drop_first-past,
  values-with_first-same,
  values-with_first-other,
  has_store-with_first,
  with_values-back,
  with_values-with_first,
  with_last-with_first,
}

-- the segments that a list makes: the first, and those after its first bar
first : List Pending → Segment
first [] = fin.empty
first (Store e ∷ ps) = with_first e.cell e.value (first ps)
first (Bar ∷ ps) = fin.empty

rest : List Pending → List Segment
rest [] = []
rest (Store e ∷ ps) = rest ps
rest (Bar ∷ ps) = first ps ∷ rest ps

abbrev segments : List Pending → List Segment
segments ps = first ps ∷ rest ps

tidy : (ps : List Pending) → IsTidy (first ps)
unfolding first
tidy [] = tidy-empty
tidy (Store e ∷ ps) = tidy-with_first e.cell e.value (first ps) (tidy ps)
tidy (Bar ∷ ps) = tidy-empty

abbrev in_first : ℕ → ℤ → List Segment → List Segment
in_first d w [] = []
in_first d w (s ∷ ss) = with_first d w s ∷ ss

issue_behind : (s : Segment) (ss : List Segment) (c : ℕ) (v : ℤ) (d : ℕ) (w : ℤ) → IsTidy s
    → issue_last (with_first d w s ∷ ss) c v ≡ in_first d w (issue_last (s ∷ ss) c v)
issue_behind s [] c v d w t = ap (λ u. u ∷ []) (with_last-with_first s c v d w t)
issue_behind s (x ∷ ss) c v d w t = refl

issue_at_end : (ps : List Pending) (e : Entry)
    → issue_last (segments ps) e.cell e.value ≡ segments (ps ++ Store e ∷ [])
unfolding first rest
issue_at_end [] e =
    ap (λ vs. with_values fin.empty e.cell vs ∷ [])
    (ap (λ us. us ++ e.value ∷ []) (values-empty e.cell)
    ∙ sym (ap (λ us. e.value ∷ us) (values-empty e.cell)))
issue_at_end (Store d ∷ ps) e =
    issue_behind (first ps) (rest ps) e.cell e.value d.cell d.value (tidy ps) ∙ ap
    (in_first d.cell d.value) (issue_at_end ps e)
issue_at_end (Bar ∷ ps) e = ap (λ ss. fin.empty ∷ ss) (issue_at_end ps e)

bar_at_end : (ps : List Pending) → segments ps ++ fin.empty ∷ [] ≡ segments (ps ++ Bar ∷ [])
unfolding first rest
bar_at_end [] = refl
bar_at_end (Store d ∷ ps) = ap (in_first d.cell d.value) (bar_at_end ps)
bar_at_end (Bar ∷ ps) = ap (λ ss. fin.empty ∷ ss) (bar_at_end ps)

put_at_end : (ps : List Pending) (p : Pending)
    → put cell_buffer (segments ps) p ≡ segments (ps ++ p ∷ [])
put_at_end ps (Store e) = issue_at_end ps e
put_at_end ps Bar = bar_at_end ps

put_all : (ps qs : List Pending) → fold (put cell_buffer) (segments ps) qs ≡ segments (ps ++ qs)
put_all ps [] = ap segments (sym (append-nil ps))
put_all ps (q ∷ qs) =
    ap (λ ss. fold (put cell_buffer) ss qs) (put_at_end ps q) ∙ put_all
    (ps ++ q ∷ []) qs ∙ ap segments (append_assoc ps (q ∷ []) qs)

made_of_segments : (qs : List Pending) → fold (put cell_buffer) (fin.empty ∷ []) qs ≡ segments qs
unfolding first rest
made_of_segments qs = put_all [] qs

-- a buffer that represents a list consists of the segments of that list
are_segments : (b : List Segment) (ps : List Pending) → Stands cell_buffer b ps → b ≡ segments ps
are_segments b ps s = s.made ∙ made_of_segments ps

stands : (ps : List Pending) → Stands cell_buffer (segments ps) ps
stands ps = record { made = sym (made_of_segments ps); issued = λ e. absurd (false≢true (sym e)) }

empty_law : (ps : List Pending) → list_all has_no_store (segments ps) ≡ is_nil (stores ps)
unfolding first rest
empty_law [] = ap (λ b. b && true) no_store-empty
empty_law (Store e ∷ ps) =
    ap (λ b. b && list_all has_no_store (rest ps)) (has_store-with_first e.cell e.value (first ps))
empty_law (Bar ∷ ps) =
    ap (λ b. b && list_all has_no_store (segments ps)) no_store-empty ∙ empty_law ps

some_either : {A : Type 0} (o : Option A) (y x : A)
    → option_or o (Some y) ≡ option_or (option_or o (Some y)) (Some x)
some_either None y x = refl
some_either (Some z) y x = refl

last_after : {A : Type 0} (x : A) (xs : List A)
    → last_or (Some x) xs ≡ option_or (last_or None xs) (Some x)
last_after x [] = refl
last_after x (y ∷ xs) =
    last_after y xs ∙ some_either (last_or None xs) y x ∙ ap (λ o. option_or o (Some x))
    (sym (last_after y xs))

-- a store put before the others is forwarded only if it is to that cell and no other store is
pub forward_behind : (s : Segment) (o : Option ℤ) (d : ℕ) (w : ℤ) (c : ℕ) (b : Bool) → (d == c) ≡ b
    → option_or o (last_or None (values_to (with_first d w s) c)) ≡ option_or
    (option_or o (last_or None (values_to s c))) (cond b (Some w) None)
forward_behind s o d w c true e =
    ap (λ x. option_or o (last_or None (values_to (with_first d w s) x))) (sym (eqb-true d c e))
    ∙ ap (λ vs. option_or o (last_or None vs)) (values-with_first-same d w s)
    ∙ ap (option_or o) (last_after w (values_to s d))
    ∙ sym (or_assoc o (last_or None (values_to s d)) (Some w))
    ∙ ap (λ x. option_or (option_or o (last_or None (values_to s x))) (Some w)) (eqb-true d c e)
forward_behind s o d w c false e =
    ap (λ vs. option_or o (last_or None vs))
    (values-with_first-other d w s c (nat_eq_equiv.symm c d ∙ e))
    ∙ sym (or_none (option_or o (last_or None (values_to s c))))

forward_law : (ps : List Pending) (c : ℕ) → last_value (segments ps) c ≡ newest (stores ps) c
unfolding first rest
forward_law [] c = ap (last_or None) (values-empty c)
forward_law (Store e ∷ ps) c =
    forward_behind (first ps) (last_value (rest ps) c) e.cell e.value c _ refl
    ∙ ap (λ o. option_or o (cond (e.cell == c) (Some e.value) None)) (forward_law ps c)
forward_law (Bar ∷ ps) c =
    ap (λ vs. option_or (last_value (segments ps) c) (last_or None vs))
    (values-empty c) ∙ or_none _ ∙ forward_law ps c

-- a store to the cell, with no bar and no other store to the cell before it
record IsFirst (ps : List Pending) (c : ℕ) : Type 0 where
  older : List Pending
  store : Entry
  newer : List Pending
  there : ps ≡ older ++ Store store ∷ newer
  to : store.cell ≡ c
  no_bar : has_bar older ≡ false
  is_free : waits binds_cells older c ≡ false

waits_not : (d : Entry) (older : List Pending) (c : ℕ) → (d.cell == c) ≡ false
    → has_bar older ≡ false → waits binds_cells older c ≡ false
    → waits binds_cells (Store d ∷ older) c ≡ false
waits_not d older c p q r =
    ap (λ b. (b || has_bar older) || waits binds_cells older c) p ∙ ap
    (λ b. b || waits binds_cells older c) q ∙ r

is_first_by : (d : Entry) (ps : List Pending) (c : ℕ) (b : Bool) → (d.cell == c) ≡ b
    → is_nil (values_to (with_first d.cell d.value (first ps)) c) ≡ false
    → (is_nil (values_to (first ps) c) ≡ false → IsFirst ps c) → IsFirst (Store d ∷ ps) c
is_first_by d ps c true e some behind =
    record {
      older =
          [];
      store =
          d;
      newer = ps;
      there = refl;
      to = eqb-true d.cell c e;
      no_bar = refl;
      is_free = refl;
    }
is_first_by d ps c false e some behind =
    let f = behind
    (sym (ap is_nil
    (values-with_first-other d.cell d.value (first ps) c
    (nat_eq_equiv.symm c d.cell ∙ e))) ∙ some) in
    record {
      older = Store d ∷ f.older;
      store = f.store;
      newer = f.newer;
      there = ap (λ qs. Store d ∷ qs) f.there;
      to = f.to;
      no_bar = f.no_bar;
      is_free = waits_not d f.older c e f.no_bar f.is_free;
    }

-- if the first segment has values to a cell, there is such a store
is_first : (ps : List Pending) (c : ℕ) → is_nil (values_to (first ps) c) ≡ false → IsFirst ps c
unfolding first
is_first [] c some = absurd (false≢true (sym some ∙ ap is_nil (values-empty c)))
is_first (Store d ∷ ps) c some = is_first_by d ps c _ refl some (is_first ps c)
is_first (Bar ∷ ps) c some = absurd (false≢true (sym some ∙ ap is_nil (values-empty c)))

some_drains : (ps : List Pending) (c : ℕ) → not (is_nil (first_values (segments ps) c)) ≡ true
    → SomeDrains cell_buffer binds_cells ps (Some c)
unfolding first rest
some_drains [] c may =
    absurd (false≢true (sym (ap (λ vs. not (is_nil vs)) (first_values-past [] c)) ∙ may))
some_drains (Store d ∷ ps) c may =
    let some = not-true _
    (sym (ap (λ vs. not (is_nil vs))
    (first_values-store _ (rest ps) c
    (has_store-with_first d.cell d.value (first ps)))) ∙ may) in
    let f = is_first (Store d ∷ ps) c some in
    record {
      older = f.older;
      store = f.store;
      newer = f.newer;
      drains = record {
        there = f.there;
        by_form = ap Some f.to;
        is_free = subst
            (λ x. waits binds_cells f.older x ≡ false) (sym f.to) f.is_free;
      };
    }
some_drains (Bar ∷ ps) c may =
    let s = some_drains ps c
    (sym (ap (λ vs. not (is_nil vs)) (first_values-past (segments ps) c)) ∙ may) in
    record {
      older = Bar ∷ s.older;
      store = s.store;
      newer = s.newer;
      drains =
          record {
            there = ap
                (λ qs. Bar ∷ qs) s.drains.there;
            by_form = s.drains.by_form;
            is_free = s.drains.is_free;
          };
    }

may_drain : (ps : List Pending) (form : Option ℕ) → may_drain_cell (segments ps) form ≡ true
    → SomeDrains cell_buffer binds_cells ps form
may_drain ps None may = absurd (false≢true may)
may_drain ps (Some c) may = some_drains ps c may

-- a store with no bar before it is in the first segment
in_first_segment : (older : List Pending) (e : Entry) (newer : List Pending) → has_bar older ≡ false
    → is_nil (values_to (first (older ++ Store e ∷ newer)) e.cell) ≡ false
unfolding first
in_first_segment [] e newer none = ap is_nil (values-with_first-same e.cell e.value (first newer))
in_first_segment (Store d ∷ older) e newer none =
    some_behind d (first (older ++ Store e ∷ newer)) e.cell _ refl
    (in_first_segment older e newer none)
  where
    some_behind : (d : Entry) (s : Segment) (c : ℕ) (b : Bool) → (c == d.cell) ≡ b
        → is_nil (values_to s c) ≡ false
        → is_nil (values_to (with_first d.cell d.value s) c) ≡ false
    some_behind d s c true e some =
        ap (λ x. is_nil (values_to (with_first d.cell d.value s) x)) (eqb-true c d.cell e)
        ∙ ap is_nil (values-with_first-same d.cell d.value s)
    some_behind d s c false e some = ap is_nil (values-with_first-other d.cell d.value s c e) ∙ some
in_first_segment (Bar ∷ older) e newer none = absurd (false≢true (sym none))

-- what a drain takes from the first segment that has a store, and what it leaves
record Leaves (ss : List Segment) (c : ℕ) (v : ℤ) (left : List Segment) : Type 0 where
  others : List ℤ
  values : first_values ss c ≡ v ∷ others
  are_left : drop_first ss c ≡ left

leaves_first : (e : Entry) (s : Segment) (ss : List Segment) → IsTidy s
    → Leaves (with_first e.cell e.value s ∷ ss) e.cell e.value (s ∷ ss)
leaves_first e s ss t = record {
  others = values_to s e.cell;
  values = first_values-store _ ss e.cell
      (has_store-with_first e.cell e.value s) ∙ values-with_first-same e.cell e.value s;
  are_left =
      drop_first-store _ ss e.cell (has_store-with_first e.cell e.value s)
      ∙ ap (λ vs. with_values (with_first e.cell e.value s) e.cell (drop 1 vs) ∷ ss)
      (values-with_first-same e.cell e.value s)
      ∙ ap (λ u. u ∷ ss) (with_values-back s e.cell (e.value ∷ values_to s e.cell) t);
}

leaves_behind : (d : Entry) (c : ℕ) (v : ℤ) (s : Segment) (ss left : List Segment)
    → (d.cell == c) ≡ false → IsTidy s → has_no_store s ≡ false
    → Leaves (s ∷ ss) c v left
    → Leaves (with_first d.cell d.value s ∷ ss) c v (in_first d.cell d.value left)
leaves_behind d c v s ss left other t some l =
    let same = values-with_first-other d.cell d.value s c (nat_eq_equiv.symm c d.cell ∙ other) in
    let after = has_store-with_first d.cell d.value s in
    record {
      others = l.others;
      values = first_values-store _ ss c after ∙ same ∙ sym
          (first_values-store s ss c some) ∙ l.values;
      are_left =
          drop_first-store _ ss c after
          ∙ ap (λ vs. with_values (with_first d.cell d.value s) c (drop 1 vs) ∷ ss) same
          ∙ ap (λ u. u ∷ ss)
          (with_values-with_first s c (drop 1 (values_to s c)) d.cell d.value
          (nat_eq_equiv.symm c d.cell ∙ other) t)
          ∙ ap (in_first d.cell d.value) (sym (drop_first-store s ss c some) ∙ l.are_left);
    }

leaves : (older : List Pending) (e : Entry) (newer : List Pending)
    → waits binds_cells older e.cell ≡ false
    → Leaves (segments (older ++ Store e ∷ newer)) e.cell e.value (segments (older ++ newer))
unfolding first rest
leaves [] e newer free = leaves_first e (first newer) (rest newer) (tidy newer)
leaves (Store d ∷ older) e newer free =
    let both = or_parts _ _ free in
    let other = or_parts _ _ both.0 in
    leaves_behind d e.cell e.value (first (older ++ Store e ∷ newer))
    (rest (older ++ Store e ∷ newer)) (segments (older ++ newer)) other.0
    (tidy (older ++ Store e ∷ newer))
    (has_store (first (older ++ Store e ∷ newer)) e.cell (in_first_segment older e newer other.1))
    (leaves older e newer both.1)
leaves (Bar ∷ older) e newer free =
    let l = leaves older e newer free in
    record {
      others = l.others;
      values = first_values-past (segments (older ++ Store e ∷ newer)) e.cell ∙ l.values;
      are_left =
          drop_first-past (segments (older ++ Store e ∷ newer)) e.cell ∙ ap
          (λ ss. fin.empty ∷ ss) l.are_left;
    }

takes_out : (b : List Segment) (older : List Pending) (e : Entry) (newer : List Pending)
    → b ≡ segments (older ++ Store e ∷ newer)
    → waits binds_cells older e.cell ≡ false → TakesOut cell_buffer b (Some e.cell) older e newer
takes_out b older e newer is free =
    let l = leaves older e newer free in
    record {
      may = ap (λ ss. not (is_nil (first_values ss e.cell))) is ∙ ap
          (λ vs. not (is_nil vs)) l.values;
      takes = ap entry_with (ap (λ ss. first_values ss e.cell) is ∙ l.values);
      leaves = subst (λ ss. Stands cell_buffer ss (older ++ newer))
          (sym (ap (λ ss. drop_first ss e.cell) is ∙ l.are_left)) (stands (older ++ newer));
    }
  where
    entry_with : List ℤ → Entry
    entry_with vs = record { cell = e.cell; value = slice_index_or vs 0 (pos 0) }

pub pso_laws : Laws cell_buffer Pso binds_cells
pso_laws = record {
  form_law = refl;
  same_cell = λ _. refl;
  barred = refl;
  empty_law = λ b ps s. ap (list_all has_no_store) (are_segments b ps s) ∙ empty_law ps;
  forward_stands = λ b ps c s. ap (λ ss. last_value ss c) (are_segments b ps s) ∙ forward_law ps c;
  may_drain_stands =
      λ b ps form s may. may_drain ps form
      (ap (λ ss. may_drain_cell ss form) (sym (are_segments b ps s)) ∙ may);
  drain_stands = λ b ps form older e newer s d.
      subst (λ f. TakesOut cell_buffer b f older e newer) d.by_form
      (takes_out b older e newer (are_segments b ps s ∙ ap segments d.there) d.is_free);
  unbuffered = λ e. absurd (false≢true (sym e));
}
