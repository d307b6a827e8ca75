-- What the last deeds of a kind determine.
use Rattle.std.proofs.Common.{◌≡◌, ◌↔◌, ◌∙◌, ℕ, ◌==◌, ℤ, pos, Bool, true, false, not, ◌&&◌, ◌||◌, cond, List, [], ◌∷◌, ◌++◌, Option, Some, None}
use Rattle.std.proofs.Common.{refl, sym, ap, ap₂, slice_index_or, if◌then◌else◌}
use Rattle.std.specs.Prelude.{unwrap_or, option_and_then, fold}
use Rattle.std.specs.Option.{option_or}
use Rattle.std.specs.List.{filter_map, cons_option, last_or}
use Rattle.std.specs.FinSet as set
use Rattle.std.proofs.lemmas.Bool.{false≢true}
use Rattle.std.proofs.lemmas.Cmp.{nat_list_cmp_total}
use Rattle.std.proofs.lemmas.List.Elements.{filter_map-append}
use Rattle.std.proofs.lemmas.Option.{none-some}
use Rattle.store_buffers.specs.tc_base.Names.{Name, by_name}
use Rattle.store_buffers.proofs.list_laws.Options.{or_none}
use Rattle.store_buffers.specs.tc_base.Buffers.{Entry}
use Rattle.store_buffers.specs.Buffers.{newest}
use Rattle.store_buffers.specs.tc_base.declared.request.Request.TheVariants.{Silent, BeginWait, WakeOne, WakeAll}
use Rattle.run_laws.specs.tc_code.Code.{Code}
use Rattle.run_laws.specs.tc_code.Step.{NameSet}
use Rattle.run_history.specs.History.{Deed, Did, same}
use Rattle.run_history.specs.Told.{reaches, value_in, owner_by, owner_in, waiting_after, waiting_in}
use Rattle.run_history.specs.Last.{IsLast, brings, waits_by}
use Rattle.run_history.proofs.Lists.{last_or-push}

module _ {X : Type 0} (f : Deed → Option X) where
  behind : (d : Deed) (h : List Deed) (x : X) → IsLast f h x → IsLast f (d ∷ h) x
  behind d h x l = record {
    older = d ∷ l.older;
    deed = l.deed;
    newer = l.newer;
    there = ap (λ g. d ∷ g) l.there;
    gives = l.gives;
    last = l.last;
  }

  -- the last value given is the first deed's, or a later deed's
  last_by : (d : Deed) (h : List Deed) (x : X) → (last_or None (filter_map f h) ≡ Some x → IsLast f h x) → (o : Option X) → f d ≡ o → (ys : List X)
      → filter_map f h ≡ ys → last_or None (cons_option o ys) ≡ Some x → IsLast f (d ∷ h) x
  last_by d h x later None e ys is l = behind d h x (later (ap (last_or None) is ∙ l))
  last_by d h x later (Some y) e [] is l = record { older = []; deed = d; newer = h; there = refl; gives = e ∙ l; last = is }
  last_by d h x later (Some y) e (z ∷ ys) is l = behind d h x (later (ap (last_or None) is ∙ l))

  pub is_last : (h : List Deed) (x : X) → last_or None (filter_map f h) ≡ Some x → IsLast f h x
  is_last [] x l = absurd (none-some x l)
  is_last (d ∷ h) x l = last_by d h x (is_last h x) (f d) refl (filter_map f h) refl l

  pub last_is : (h : List Deed) (x : X) → IsLast f h x → last_or None (filter_map f h) ≡ Some x
  last_is h x l =
      ap (λ g. last_or None (filter_map f g)) l.there
      ∙ ap (last_or None) (filter_map-append f l.older (l.deed ∷ l.newer))
      ∙ ap (λ o. last_or None (filter_map f l.older ++ cons_option o (filter_map f l.newer))) l.gives
      ∙ ap (λ ys. last_or None (filter_map f l.older ++ x ∷ ys)) l.last
      ∙ last_or-push None (filter_map f l.older) x

-- owners
owner_some : (o : Option (Option Name)) (n : Name) → unwrap_or o None ≡ Some n → o ≡ Some (Some n)
owner_some None n e = absurd (none-some n e)
owner_some (Some p) n e = ap Some e

pub owners_are_last : (h : List Deed) (m : ℕ) (n : Name) → (owner_in h m ≡ Some n) ↔ IsLast (owner_by m) h (Some n)
owners_are_last h m n = (
  λ e. is_last (owner_by m) h (Some n) (owner_some _ n e),
  λ l. ap (λ o. unwrap_or o None) (last_is (owner_by m) h (Some n) l),
)

-- cells
some_first : {A : Type 0} (p : Option A) (x : A) (o : Option A) → option_or p (Some x) ≡ option_or (option_or p (Some x)) o
some_first None x o = refl
some_first (Some y) x o = refl

last_or-or : {A : Type 0} (o : Option A) (xs : List A) → last_or o xs ≡ option_or (last_or None xs) o
last_or-or o [] = refl
last_or-or o (x ∷ xs) = last_or-or (Some x) xs ∙ some_first (last_or None xs) x o ∙ ap (λ p. option_or p o) (sym (last_or-or (Some x) xs))

abbrev to_cell : ℕ → Entry → Option ℤ
to_cell c e = if e.cell == c then Some e.value else None

pub cons_last : {A : Type 0} (o : Option A) (xs : List A) → last_or None (cons_option o xs) ≡ option_or (last_or None xs) o
cons_last None xs = sym (or_none (last_or None xs))
cons_last (Some x) xs = last_or-or (Some x) xs

-- the newest store to a cell is the last deed that brings it a value
newest_by : (buffered : Bool) (c : ℕ) (d : Deed) (h : List Deed) (o : Option Entry) → reaches buffered d ≡ o
    → newest (filter_map (reaches buffered) h) c ≡ last_or None (filter_map (brings buffered c) h)
    → newest (cons_option o (filter_map (reaches buffered) h)) c ≡ last_or None (cons_option (option_and_then (to_cell c) o) (filter_map (brings buffered c) h))
newest_by buffered c d h None e rest = rest
newest_by buffered c d h (Some x) e rest =
    ap (λ p. option_or p (to_cell c x)) rest ∙ sym (cons_last (to_cell c x) (filter_map (brings buffered c) h))

newest_is_last : (buffered : Bool) (c : ℕ) (h : List Deed) → newest (filter_map (reaches buffered) h) c ≡ last_or None (filter_map (brings buffered c) h)
newest_is_last buffered c [] = refl
newest_is_last buffered c (d ∷ h) = newest_by buffered c d h (reaches buffered d) refl (newest_is_last buffered c h)

pub cells_have_last : (buffered : Bool) (code : Code) (h : List Deed) (c : ℕ) (v : ℤ) → IsLast (brings buffered c) h v → value_in buffered code h c ≡ v
cells_have_last buffered code h c v l =
    ap (λ o. unwrap_or o (slice_index_or code.memory c (pos 0))) (newest_is_last buffered c h ∙ last_is (brings buffered c) h v l)

pub cells_begin : (buffered : Bool) (code : Code) (h : List Deed) (c : ℕ) → filter_map (brings buffered c) h ≡ []
    → value_in buffered code h c ≡ slice_index_or code.memory c (pos 0)
cells_begin buffered code h c none =
    ap (λ o. unwrap_or o (slice_index_or code.memory c (pos 0))) (newest_is_last buffered c h ∙ ap (last_or None) none)

-- waiters
added : (b s x : Bool) (ns : NameSet) (n u : Name) → same u n ≡ s → set.contains ns u ≡ x
    → set.contains (cond b (set.insert ns n) ns) u ≡ unwrap_or (cond (b && s) (Some true) None) x
added false s x ns n u e is = is
added true s x ns n u e is = set.contains-insert nat_list_cmp_total ns n u ∙ ap₂ (λ a b. a || b) e is ∙ either s x
  where
    either : (a b : Bool) → a || b ≡ unwrap_or (cond a (Some true) None) b
    either true b = refl
    either false b = refl

removed : (b s x : Bool) (ns : NameSet) (w u : Name) → same u w ≡ s → set.contains ns u ≡ x
    → set.contains (cond b (set.remove ns w) ns) u ≡ unwrap_or (cond (b && s) (Some false) None) x
removed false s x ns w u e is = is
removed true s x ns w u e is = set.contains-remove nat_list_cmp_total ns w u ∙ ap₂ (λ a b. not a && b) e is ∙ either s x
  where
    either : (a b : Bool) → not a && b ≡ unwrap_or (cond a (Some false) None) b
    either true b = refl
    either false b = refl

emptied : (b x : Bool) (ns : NameSet) (u : Name) → set.contains ns u ≡ x → set.contains (cond b set.empty ns) u ≡ unwrap_or (cond b (Some false) None) x
emptied true x ns u is = set.contains-empty by_name u
emptied false x ns u is = is

waits_after : (c : ℕ) (u : Name) (ns : NameSet) (d : Deed) (x : Bool) → set.contains ns u ≡ x
    → set.contains (waiting_after c ns d) u ≡ unwrap_or (waits_by c u d) x
waits_after c u ns (Did n k (BeginWait d m) took other) x is = added (d == c) (same u n) x ns n u refl is
waits_after c u ns (Did n k (WakeOne d) took (Some w)) x is = removed (d == c) (same u w) x ns w u refl is
waits_after c u ns (Did n k (WakeOne d) took None) x is = is
waits_after c u ns (Did n k (WakeAll d) took other) x is = emptied (d == c) x ns u is
waits_after c u ns (Did n k Silent took other) x is = is
waits_after c u ns d x is = is

-- a thread that waited at first still waits unless the last deed about it says otherwise
waits_from : (c : ℕ) (u : Name) (ns : NameSet) (h : List Deed) (x : Bool) → set.contains ns u ≡ x
    → set.contains (fold (waiting_after c) ns h) u ≡ unwrap_or (last_or None (filter_map (waits_by c u) h)) x
waits_from c u ns [] x is = is
waits_from c u ns (d ∷ h) x is =
    waits_from c u (waiting_after c ns d) h (unwrap_or (waits_by c u d) x) (waits_after c u ns d x is)
    ∙ either (last_or None (filter_map (waits_by c u) h)) (waits_by c u d)
    ∙ ap (λ o. unwrap_or o x) (sym (cons_last (waits_by c u d) (filter_map (waits_by c u) h)))
  where
    either : (p o : Option Bool) → unwrap_or p (unwrap_or o x) ≡ unwrap_or (option_or p o) x
    either None o = refl
    either (Some y) o = refl

waits_true : (o : Option Bool) → unwrap_or o false ≡ true → o ≡ Some true
waits_true None e = absurd (false≢true e)
waits_true (Some b) e = ap Some e

pub waiters_are_last : (h : List Deed) (c : ℕ) (u : Name) → (set.contains (waiting_in h c) u ≡ true) ↔ IsLast (waits_by c u) h true
waiters_are_last h c u =
    let is = waits_from c u set.empty h false (set.contains-empty by_name u) in (
      λ e. is_last (waits_by c u) h true (waits_true _ (sym is ∙ e)),
      λ l. is ∙ ap (λ o. unwrap_or o false) (last_is (waits_by c u) h true l),
    )
