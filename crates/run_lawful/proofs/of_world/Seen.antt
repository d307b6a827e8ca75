-- The deeds by which events take place.
use Rattle.std.proofs.Common.{◌≡◌, ◌∙◌, ℕ, ℤ, Bool, true, false, cond, ◌==◌, ◌&&◌, List, ◌∷◌, ◌++◌, Option, Some, None, refl, sym, ap, ap₂, subst}
use Rattle.std.specs.Prelude.{option_and_then, slice_get}
use Rattle.std.specs.Option.{option_map_or}
use Rattle.std.proofs.lemmas.Bool.{false≢true, true≢false, and_parts, eqb-true, eq-eqb}
use Rattle.std.proofs.lemmas.Option.{none-some, same_Some}
use Rattle.sym_events.specs.tc_base.Names.{Name}
use Rattle.sym_events.specs.tc_base.declared.request.Request.{Request}
use Rattle.sym_events.specs.tc_base.declared.request.Request.TheVariants.{Write}
use Rattle.sym_events.proofs.run_laws.Names.{is_same, same_self}
use Rattle.sym_steps.specs.run_history.History.{Deed, Did, Drained, same}
use Rattle.sym_steps.specs.run_history.pending.Deeds.{name_of, AllApart, DrainsAreOfStores}
use Rattle.sym_steps.proofs.run_history.of_pending.In.{In, in_at, in_left, in_split, one_of_name}
use Rattle.sym_events.specs.path_walk.Paths.{Walk, Paths}
use Rattle.sym_events.specs.path_walk.declared.event.EventKind.{EventKind}
use Rattle.sym_events.specs.path_walk.declared.event.EventKind.TheVariants as kind
use Rattle.sym_steps.specs.path_laws.Deeds.{kind_of}
use Rattle.sym_events.specs.lawful_order.Memory.{is_store}
use Rattle.world_plan.specs.Sights.{Sight, sight_of, Shows}

abbrev pub the_sight : Name → ℕ → Sight
the_sight n k = record { thread = n; step = k }

-- a step of the thread that isn't a waiting store, or the drain of its store
pub data SeenBy (buffered : Bool) (n : Name) (k : ℕ) (d : Deed) : Type 0 where
  Done : (r : Request) (took : ℤ) (other : Option Name) (asked : EventKind) → d ≡ Did n k r took other → kind_of r other ≡ Some asked
      → (buffered && is_store asked) ≡ false → SeenBy buffered n k d
  Drain : (c : ℕ) (v : ℤ) → d ≡ Drained n k c v → SeenBy buffered n k d

pub seen_by : (buffered : Bool) (n : Name) (k : ℕ) (d : Deed) → sight_of buffered d ≡ Some (the_sight n k) → SeenBy buffered n k d
seen_by buffered n k (Drained q j c v) is =
    let one : the_sight q j ≡ the_sight n k = same_Some (the_sight q j) (the_sight n k) is in
    Drain c v (ap (λ (s : Sight). Drained s.thread s.step c v) one)
seen_by buffered n k (Did q j r took other) is = by (kind_of r other) refl is
  where
    kept : (x : EventKind) → kind_of r other ≡ Some x → (w : Bool) → (buffered && is_store x) ≡ w → cond w None (Some (the_sight q j)) ≡ Some (the_sight n k)
        → SeenBy buffered n k (Did q j r took other)
    kept x asks true e s = absurd (none-some (the_sight n k) s)
    kept x asks false e s =
        let one : the_sight q j ≡ the_sight n k = same_Some (the_sight q j) (the_sight n k) s in
        Done r took other x (ap (λ (y : Sight). Did y.thread y.step r took other) one) asks e

    by : (o : Option EventKind) → kind_of r other ≡ o
        → option_and_then (λ x. cond (buffered && is_store x) None (Some (the_sight q j))) o ≡ Some (the_sight n k)
        → SeenBy buffered n k (Did q j r took other)
    by None asks s = absurd (none-some (the_sight n k) s)
    by (Some x) asks s = kept x asks (buffered && is_store x) refl s

module _ (buffered : Bool) (paths : Paths) where
  -- an event takes place by its step, or, if it is a store that waits, by its drain
  pub shows_step : (t k : ℕ) (q : Walk) (r : Request) (took : ℤ) (other : Option Name) (asked : EventKind) → slice_get paths.threads t ≡ Some q
      → kind_of r other ≡ Some asked → (buffered && is_store asked) ≡ false → Shows buffered paths (Did q.name k r took other) t k
  shows_step t k q r took other asked at asks kept = record {
    walk = q;
    there = at;
    sight = ap (option_and_then (λ x. cond (buffered && is_store x) None (Some (the_sight q.name k)))) asks
        ∙ ap (λ b. cond b None (Some (the_sight q.name k))) kept;
  }

  pub shows_drain : (t k : ℕ) (q : Walk) (c : ℕ) (v : ℤ) → slice_get paths.threads t ≡ Some q → Shows buffered paths (Drained q.name k c v) t k
  shows_drain t k q c v at = record { walk = q; there = at; sight = refl }

  -- a deed shows a step of the thread with this walk
  pub shown_by : (t k : ℕ) (q : Walk) (d : Deed) → slice_get paths.threads t ≡ Some q → Shows buffered paths d t k → SeenBy buffered q.name k d
  shown_by t k q d at s =
      let one : s.walk ≡ q = same_Some s.walk q (sym s.there ∙ at) in
      seen_by buffered q.name k d (s.sight ∙ ap (λ (x : Walk). Some (the_sight x.name k)) one)

  -- whether a deed shows this step
  abbrev pub shown : (t k : ℕ) → Deed → Bool
  shown t k d =
      option_map_or (λ (q : Walk). option_map_or (λ (s : Sight). same q.name s.thread && k == s.step) (sight_of buffered d) false)
      (slice_get paths.threads t) false

  pub shown_is : (t k : ℕ) (d : Deed) → shown t k d ≡ true → Shows buffered paths d t k
  shown_is t k d hit = by (slice_get paths.threads t) refl hit
    where
      by_sight : (q : Walk) → slice_get paths.threads t ≡ Some q → (o : Option Sight) → sight_of buffered d ≡ o
          → option_map_or (λ (s : Sight). same q.name s.thread && k == s.step) o false ≡ true → Shows buffered paths d t k
      by_sight q at None is e = absurd (false≢true e)
      by_sight q at (Some s) is e =
          let both = and_parts (same q.name s.thread) (k == s.step) e in
          let name : s.thread ≡ q.name = sym (is_same q.name s.thread both.0) in
          let step : s.step ≡ k = sym (eqb-true k s.step both.1) in
          record { walk = q; there = at; sight = is ∙ ap₂ (λ n j. Some (the_sight n j)) name step }

      by : (o : Option Walk) → slice_get paths.threads t ≡ o
          → option_map_or (λ (q : Walk). option_map_or (λ (s : Sight). same q.name s.thread && k == s.step) (sight_of buffered d) false) o false ≡ true
          → Shows buffered paths d t k
      by None at e = absurd (false≢true e)
      by (Some q) at e = by_sight q at (sight_of buffered d) refl e

  pub is_shown_by : (t k : ℕ) (d : Deed) → Shows buffered paths d t k → shown t k d ≡ true
  is_shown_by t k d s =
      ap (λ o. option_map_or (λ (q : Walk). option_map_or (λ (x : Sight). same q.name x.thread && k == x.step) (sight_of buffered d) false) o false) s.there
      ∙ ap (λ o. option_map_or (λ (x : Sight). same s.walk.name x.thread && k == x.step) o false) s.sight
      ∙ ap₂ (λ a b. a && b) (same_self s.walk.name s.walk.name refl) (eq-eqb k k refl)

-- deeds have different names; drains are of stores, and happen only with buffers
pub record AreTold (buffered : Bool) (h : List Deed) : Type 0 where
  pub apart : AllApart h
  pub stores : DrainsAreOfStores h
  pub buffers : (older newer : List Deed) (n : Name) (k c : ℕ) (v : ℤ) → h ≡ older ++ Drained n k c v ∷ newer → buffered ≡ true

abbrev asked_by : Deed → Option EventKind
asked_by (Did n k r took other) = kind_of r other
asked_by _ = None

module _ (buffered : Bool) (h : List Deed) (told : AreTold buffered h) where
  -- the store of a drain
  pub store_of : (n : Name) (k c : ℕ) (v : ℤ) → In (Drained n k c v) h → (took : ℤ) × (other : Option Name) × In (Did n k (Write c v) took other) h
  store_of n k c v i =
      let s = in_split (Drained n k c v) h i in
      let w = told.stores s.older s.newer n k c v s.there in
      let store = Did n k (Write c v) w.took w.other in
      (w.took, w.other, subst (In store) (sym s.there) (in_left store s.older (Drained n k c v ∷ s.newer) (subst (In store) (sym w.issued) (in_at w.before store w.after))))

  -- a step that isn't a waiting store has no drain
  not_both : (n : Name) (k c : ℕ) (v : ℤ) (r : Request) (took : ℤ) (other : Option Name) (asked : EventKind) → In (Drained n k c v) h → In (Did n k r took other) h
      → kind_of r other ≡ Some asked → (buffered && is_store asked) ≡ false → ⊥
  not_both n k c v r took other asked i j asks kept =
      let s = in_split (Drained n k c v) h i in
      let w = store_of n k c v i in
      let one = one_of_name h (Did n k r took other) (Did n k (Write c v) w.0 w.1) told.apart j w.2 refl in
      let store : asked ≡ kind.Store = same_Some asked kind.Store (sym asks ∙ ap asked_by one) in
      true≢false (sym (ap₂ (λ x y. x && is_store y) (told.buffers s.older s.newer n k c v s.there) store) ∙ kept)

  pub shown_once : (n : Name) (k : ℕ) (older between newer : List Deed) (d e : Deed) → h ≡ (older ++ d ∷ between) ++ e ∷ newer
      → sight_of buffered d ≡ Some (the_sight n k) → sight_of buffered e ≡ Some (the_sight n k) → ⊥
  shown_once n k older between newer d e is ds es = by (seen_by buffered n k d ds) (seen_by buffered n k e es)
    where
      d_in : In d h
      d_in = subst (In d) (sym is) (in_left d (older ++ d ∷ between) (e ∷ newer) (in_at older d between))

      e_in : In e h
      e_in = subst (In e) (sym is) (in_at (older ++ d ∷ between) e newer)

      by : SeenBy buffered n k d → SeenBy buffered n k e → ⊥
      by (Done r v o x d_is asks kept) (Done s w p y e_is asks_too kept_too) =
          told.apart older newer between d e is (ap name_of d_is ∙ sym (ap name_of e_is))
      by (Drain c v d_is) (Drain b w e_is) = told.apart older newer between d e is (ap name_of d_is ∙ sym (ap name_of e_is))
      by (Done r v o x d_is asks kept) (Drain c w e_is) =
          not_both n k c w r v o x (subst (λ z. In z h) e_is e_in) (subst (λ z. In z h) d_is d_in) asks kept
      by (Drain c w d_is) (Done r v o x e_is asks kept) =
          not_both n k c w r v o x (subst (λ z. In z h) d_is d_in) (subst (λ z. In z h) e_is e_in) asks kept
