-- The values that deeds bring to cells, and the steps of these deeds.
use Rattle.std.proofs.Common.{◌≡◌, ◌∙◌, ◌⊎◌, inl, inr, ℕ, ◌==◌, ◌&&◌, ℤ, Bool, true, false, not, List, [], ◌∷◌, Option, Some, None, refl, sym, ap, ap₂, subst}
use Rattle.std.specs.Prelude.{option_and_then, if◌then◌else◌}
use Rattle.std.specs.List.{filter_map, cons_option}
use Rattle.std.proofs.lemmas.Bool.{true≢false, and_parts, eqb-true, eq-eqb, not-true}
use Rattle.std.proofs.lemmas.Option.{none-some, same_Some, cond_some}
use Rattle.sym_events.specs.tc_base.Buffers.{Entry}
use Rattle.sym_events.specs.tc_base.Names.{Name}
use Rattle.sym_events.specs.tc_base.declared.request.Request.{Request}
use Rattle.sym_events.specs.tc_base.declared.request.Request.TheVariants.{Read, Write, Exchange}
use Rattle.sym_events.specs.tc_code.int_ops.Updates.{updated}
use Rattle.sym_events.proofs.run_laws.Names.{is_same, same_self}
use Rattle.sym_steps.specs.run_history.History.{Deed, Did, Drained, same, drains, has_drained}
use Rattle.sym_steps.specs.run_history.Last.{IsLast, brings}
use Rattle.sym_steps.specs.run_history.Told.{reaches}
use Rattle.sym_steps.specs.run_history.pending.Deeds.{name_of, own_value}
use Rattle.sym_steps.proofs.run_history.of_pending.In.{In, in_any, in_at, in_mapped, one_of_name}
use Rattle.sym_events.specs.path_walk.declared.event.EventKind.{EventKind}
use Rattle.sym_events.specs.path_walk.declared.event.EventKind.TheVariants as kind
use Rattle.sym_steps.specs.path_laws.Deeds.{kind_of}
use Rattle.sym_events.specs.lawful_order.Memory.{is_store}
use Rattle.sym_events.specs.sym_exec.Alone.{Asked, asked_by}
use Rattle.run_lawful.proofs.of_world.Seen.{SeenBy, Done, Drain, AreTold, store_of}
use Rattle.run_lawful.proofs.of_world.Steps.{drained_at}

-- Lists of deeds.

-- some deed is the last that gives something, or no deed gives anything
pub last_or_none : {X : Type 0} (f : Deed → Option X) (h : List Deed) → (filter_map f h ≡ []) ⊎ ((x : X) × IsLast f h x)
last_or_none f [] = inl refl
last_or_none {X} f (d ∷ h) = by (last_or_none f h)
  where
    first : filter_map f h ≡ [] → (o : Option X) → f d ≡ o → (filter_map f (d ∷ h) ≡ []) ⊎ ((x : X) × IsLast f (d ∷ h) x)
    first none None e = inl (ap (λ o. cons_option o (filter_map f h)) e ∙ none)
    first none (Some x) e = inr (x, record { older = []; deed = d; newer = h; there = refl; gives = e; last = none })

    by : (filter_map f h ≡ []) ⊎ ((x : X) × IsLast f h x) → (filter_map f (d ∷ h) ≡ []) ⊎ ((x : X) × IsLast f (d ∷ h) x)
    by (inl none) = first none (f d) refl
    by (inr l) =
        let z = l.1 in
        inr (l.0, record { older = d ∷ z.older; deed = z.deed; newer = z.newer; there = ap (λ g. d ∷ g) z.there; gives = z.gives; last = z.last })

-- if a list of given values is empty, no deed gives anything
pub none_gives : {X : Type 0} (f : Deed → Option X) (h : List Deed) (d : Deed) (x : X) → filter_map f h ≡ [] → In d h → f d ≡ Some x → ⊥
none_gives f h d x none i gives = subst (In x) none (in_mapped f d x h i gives)

-- the store of a step has drained exactly if its drain is in the history
pub drain_in : (h : List Deed) (n : Name) (k : ℕ) → has_drained h n k ≡ true → (c : ℕ) × (v : ℤ) × In (Drained n k c v) h
drain_in h n k has =
    let d = drained_at h n k has in
    let drain = Drained n k d.cell d.value in
    (d.cell, d.value, subst (In drain) (sym d.there) (in_at d.older drain d.newer))

pub in_drain : (h : List Deed) (n : Name) (k c : ℕ) (v : ℤ) → In (Drained n k c v) h → has_drained h n k ≡ true
in_drain h n k c v i = in_any (drains n k) (Drained n k c v) h i (ap₂ (λ x y. x && y) (same_self n n refl) (eq-eqb k k refl))

-- The writes of deeds.

abbrev pub asking : ℕ → Option ℤ → Option ℤ → Asked
asking c takes writes = record { cell = c; takes = takes; writes = writes }

abbrev pub entry : ℕ → ℤ → Entry
entry c v = record { cell = c; value = v }

-- a write that reaches memory brings its value to its cell
brought : (c : ℕ) (v : ℤ) (o : Option Entry) → option_and_then (λ (e : Entry). if e.cell == c then Some e.value else None) o ≡ Some v → o ≡ Some (entry c v)
brought c v None is = absurd (none-some v is)
brought c v (Some e) is =
    let both = cond_some (e.cell == c) e.value v is in
    ap (λ (x : Entry). Some x) (ap₂ entry (eqb-true e.cell c both.0) both.1)

pub reached : (b : Bool) (c : ℕ) (v : ℤ) (d : Deed) → brings b c d ≡ Some v → reaches b d ≡ Some (entry c v)
reached b c v d is = brought c v (reaches b d) is

pub brings_so : (b : Bool) (c : ℕ) (v : ℤ) (d : Deed) → reaches b d ≡ Some (entry c v) → brings b c d ≡ Some v
brings_so b c v d is =
    ap (option_and_then (λ (e : Entry). if e.cell == c then Some e.value else None)) is ∙ ap (λ t. if t then Some v else None) (eq-eqb c c refl)

abbrev pub kind_by : Deed → Option EventKind
kind_by (Did n k r took other) = kind_of r other
kind_by (Drained n k c v) = None

-- a write that reaches memory at once isn't put into a buffer
unbuffered : (b : Bool) (x e : Entry) → (if b then None else Some x) ≡ Some e → (b ≡ false) × (x ≡ e)
unbuffered true x e is = absurd (none-some e is)
unbuffered false x e is = (refl, same_Some x e is)

waits_not : (b : Bool) → b ≡ false → (b && true) ≡ false
waits_not b e = ap (λ t. t && true) e

pub never_waits : (b : Bool) → (b && false) ≡ false
never_waits true = refl
never_waits false = refl

-- a step that writes takes place itself, or is a store that waits
pub seen_or_waits : (b : Bool) (n : Name) (k : ℕ) (r : Request) (took : ℤ) (other : Option Name) (e : Entry) → reaches false (Did n k r took other) ≡ Some e
    → (SeenBy b n k (Did n k r took other) × (reaches b (Did n k r took other) ≡ Some e)) ⊎ ((b ≡ true) × (r ≡ Write e.cell e.value))
seen_or_waits true n k (Write c v) took other e is =
    let same : entry c v ≡ e = same_Some (entry c v) e is in
    inr (refl, ap (λ (x : Entry). Write x.cell x.value) same)
seen_or_waits false n k (Write c v) took other e is = inl (Done (Write c v) took other kind.Store refl refl refl, is)
seen_or_waits b n k (Exchange c v) took other e is = inl (Done (Exchange c v) took other kind.Exchange refl refl (never_waits b), is)
seen_or_waits b n k r took other e is = absurd (none-some e is)

module _ (b : Bool) (h : List Deed) (told : AreTold b h) where
  -- the deed by which a writing step takes place reaches memory
  pub shown_reaches : (n : Name) (k : ℕ) (r : Request) (took : ℤ) (other : Option Name) (e : Entry) (d : Deed) → In (Did n k r took other) h
      → reaches false (Did n k r took other) ≡ Some e → In d h → SeenBy b n k d → reaches b d ≡ Some e
  shown_reaches n k r took other e d i writes j (Done s v o asked is asks kept) =
      let one : d ≡ Did n k r took other = one_of_name h d (Did n k r took other) told.apart j i (ap name_of is) in
      let asks_too : kind_of r other ≡ Some asked = ap kind_by (sym one ∙ is) ∙ asks in
      elim (seen_or_waits b n k r took other e writes) [
        | inl at_once ↦ ap (reaches b) one ∙ at_once.1
        | inr waits ↦
            let store : kind.Store ≡ asked = same_Some kind.Store asked (ap (λ q. kind_of q other) (sym waits.1) ∙ asks_too) in
            absurd (true≢false (sym (ap₂ (λ x y. x && is_store y) waits.0 (sym store)) ∙ kept))
      ]
  shown_reaches n k r took other e d i writes j (Drain c v is) =
      let s = store_of b h told n k c v (subst (λ x. In x h) is j) in
      let one = one_of_name h (Did n k (Write c v) s.0 s.1) (Did n k r took other) told.apart s.2 i refl in
      ap (reaches b) is ∙ ap (reaches false) one ∙ writes

  -- a store that waits takes place by its drain
  pub by_its_drain : (n : Name) (k c : ℕ) (v took : ℤ) (other : Option Name) (d : Deed) → b ≡ true → In (Did n k (Write c v) took other) h → In d h
      → SeenBy b n k d → (e : ℤ) × (d ≡ Drained n k c e)
  by_its_drain n k c v took other d buffers i j (Done r s o asked is asks kept) =
      let one = one_of_name h d (Did n k (Write c v) took other) told.apart j i (ap name_of is) in
      let same : asked ≡ kind.Store = same_Some asked kind.Store (sym asks ∙ ap kind_by (sym is ∙ one)) in
      absurd (true≢false (sym (ap₂ (λ x y. x && is_store y) buffers same) ∙ kept))
  by_its_drain n k c v took other d buffers i j (Drain a e is) =
      let s = store_of b h told n k a e (subst (λ x. In x h) is j) in
      let one = one_of_name h (Did n k (Write a e) s.0 s.1) (Did n k (Write c v) took other) told.apart s.2 i refl in
      let same : a ≡ c = ap (λ (x : Entry). x.cell) (same_Some (entry a e) (entry c v) (ap (reaches false) one)) in
      (e, is ∙ ap (λ x. Drained n k x e) same)

  -- a deed that reaches memory is a step that writes, or the drain of one
  pub record IsOfStep (d : Deed) (e : Entry) : Type 0 where
    pub thread : Name
    pub step : ℕ
    pub request : Request
    pub took : ℤ
    pub other : Option Name
    pub there : In (Did thread step request took other) h
    pub writes : reaches false (Did thread step request took other) ≡ Some e
    pub seen : SeenBy b thread step d

  pub of_step : (d : Deed) (e : Entry) → In d h → reaches b d ≡ Some e → IsOfStep d e
  of_step (Did n k r took other) e i is = by r i is
    where
      by : (r : Request) → In (Did n k r took other) h → reaches b (Did n k r took other) ≡ Some e → IsOfStep (Did n k r took other) e
      by (Write c v) i is =
          let both = unbuffered b (entry c v) e is in
          record {
            thread = n;
            step = k;
            request = Write c v;
            took = took;
            other = other;
            there = i;
            writes = ap (λ (x : Entry). Some x) both.1;
            seen = Done (Write c v) took other kind.Store refl refl (waits_not b both.0);
          }
      by (Exchange c v) i is = record {
        thread = n;
        step = k;
        request = Exchange c v;
        took = took;
        other = other;
        there = i;
        writes = is;
        seen = Done (Exchange c v) took other kind.Exchange refl refl (never_waits b);
      }
      by r i is = absurd (none-some e is)
  of_step (Drained n k c v) e i is =
      let s = store_of b h told n k c v i in
      record {
        thread = n;
        step = k;
        request = Write c v;
        took = s.0;
        other = s.1;
        there = s.2;
        writes = is;
        seen = Drain c v refl;
      }

-- A step writes what its request asks.
written : (c : ℕ) (w : ℤ) (takes : Option ℤ) (x : Asked) (v : ℤ) → asking c takes (Some w) ≡ x → x.writes ≡ Some v → Some (entry c w) ≡ Some (entry x.cell v)
written c w takes x v same is =
    ap (λ (e : Entry). Some e) (ap₂ entry (ap (λ (y : Asked). y.cell) same) (same_Some w v (ap (λ (y : Asked). y.writes) same ∙ is)))

pub writes_asked : (n : Name) (k : ℕ) (r : Request) (took : ℤ) (other : Option Name) (x : Asked) (v : ℤ) → asked_by took r ≡ x ∷ [] → x.writes ≡ Some v
    → reaches false (Did n k r took other) ≡ Some (entry x.cell v)
writes_asked n k (Read c) took other x v asks is =
    let same : asking c (Some took) None ≡ x = cc in absurd (none-some v (ap (λ (y : Asked). y.writes) same ∙ is))
writes_asked n k (Write c w) took other x v asks is = let same : asking c None (Some w) ≡ x = cc in written c w None x v same is
writes_asked n k (Exchange c u) took other x v asks is =
    let same : asking c (Some took) (Some (updated u took)) ≡ x = cc in written c (updated u took) (Some took) x v same is
writes_asked n k r took other x v asks is = absurd cc

asked_so : (c : ℕ) (v : ℤ) (takes : Option ℤ) (e : Entry) → Some (entry c v) ≡ Some e
    → (x : Asked) × (asking c takes (Some v) ∷ [] ≡ x ∷ []) × (x.cell ≡ e.cell) × (x.writes ≡ Some e.value)
asked_so c v takes e is =
    let same : entry c v ≡ e = same_Some (entry c v) e is in
    (asking c takes (Some v), refl, ap (λ (y : Entry). y.cell) same, ap (λ (y : Entry). Some y.value) same)

pub asks_written : (n : Name) (k : ℕ) (r : Request) (took : ℤ) (other : Option Name) (e : Entry) → reaches false (Did n k r took other) ≡ Some e
    → (x : Asked) × (asked_by took r ≡ x ∷ []) × (x.cell ≡ e.cell) × (x.writes ≡ Some e.value)
asks_written n k (Write c v) took other e is = asked_so c v None e is
asks_written n k (Exchange c u) took other e is = asked_so c (updated u took) (Some took) e is
asks_written n k r took other e is = absurd (none-some e is)

-- The pending stores of a thread.
pub record IsPendingStore (b : Bool) (h : List Deed) (n : Name) (c : ℕ) (v : ℤ) (d : Deed) : Type 0 where
  pub step : ℕ
  pub took : ℤ
  pub other : Option Name
  pub is : d ≡ Did n step (Write c v) took other
  pub buffers : b ≡ true
  pub waits : has_drained h n step ≡ false

pub own_is : (b : Bool) (h : List Deed) (n : Name) (c : ℕ) (v : ℤ) (d : Deed) → own_value b h n c d ≡ Some v → IsPendingStore b h n c v d
own_is b h n c v (Did q k (Write a x) took other) is =
    let all = cond_some ((b && same n q) && ((a == c) && not (has_drained h n k))) x v is in
    let both = and_parts (b && same n q) ((a == c) && not (has_drained h n k)) all.0 in
    let front = and_parts b (same n q) both.0 in
    let back = and_parts (a == c) (not (has_drained h n k)) both.1 in
    record {
      step = k;
      took = took;
      other = other;
      is = ap₂ (λ m e. Did m k (Write e x) took other) (sym (is_same n q front.1)) (eqb-true a c back.0) ∙ ap (λ y. Did n k (Write c y) took other) all.1;
      buffers = front.0;
      waits = not-true (has_drained h n k) back.1;
    }
own_is b h n c v (Did q k r took other) is = absurd (none-some v is)
own_is b h n c v (Drained q k a x) is = absurd (none-some v is)

pub own_so : (b : Bool) (h : List Deed) (n : Name) (c : ℕ) (v : ℤ) (k : ℕ) (took : ℤ) (other : Option Name) → b ≡ true → has_drained h n k ≡ false
    → own_value b h n c (Did n k (Write c v) took other) ≡ Some v
own_so b h n c v k took other buffers waits =
    ap₂ (λ x y. if x && ((c == c) && not y) then Some v else None) (ap₂ (λ x y. x && y) buffers (same_self n n refl)) waits
    ∙ ap (λ x. if x && true then Some v else None) (eq-eqb c c refl)
