-- Which store drains next, by what was issued and has drained.
use Rattle.std.proofs.Common.{◌≡◌, ◌∙◌, ◌⊎◌, inl, inr, ℕ, ◌<◌, ◌==◌, ℤ, true, false, not, ◌||◌, ◌&&◌, nat_lt, List, [], ◌∷◌, ◌++◌}
use Rattle.std.proofs.Common.{length, Option, Some, None, refl, sym, ap, ap₂, subst, arith, if◌then◌else◌}
use Rattle.std.specs.List.{All, filter_map}
use Rattle.std.specs.Cmp.{both_ways}
use Rattle.std.proofs.lemmas.Bool.{false≢true, and_parts, or_parts, not_from_false, false_from_ne_true, eqb-true}
use Rattle.std.proofs.lemmas.Bool.Decides.{nat_tests}
use Rattle.std.proofs.Math.Seq.{take-append_seam}
use Rattle.std.proofs.lemmas.List.Elements.{All-take}
use Rattle.std.proofs.lemmas.Option.{none-some, cond_some}
use Rattle.store_buffers.specs.tc_base.Names.{Name}
use Rattle.store_buffers.specs.tc_base.Buffers.{Entry}
use Rattle.store_buffers.specs.tc_base.declared.request.Request.TheVariants.{Silent, Write, Bar}
use Rattle.store_buffers.specs.Pending.{Pending, Store, Bar as barred, has_bar, Binding, waits}
use Rattle.run_laws.proofs.Names.{same_self, is_same}
use Rattle.run_history.specs.History.{Deed, Did, Drained, Issue, same, issue_of, drains, has_drained, pending_issues}
use Rattle.run_history.specs.pending.Deeds.{IsIssuedIn, is_bar_between, has_bar_between, MayDrainNext}
use Rattle.run_history.proofs.of_pending.Issues.{Rises, whats}
use Rattle.run_history.proofs.of_pending.Apart.{a_store, is_issued, Named}
use Rattle.run_history.proofs.of_pending.In.{StoodAt, Passes, In, all_in, in_append, in_left, in_right, in_at, in_split, in_filter, from_filter}
use Rattle.run_history.proofs.of_pending.In.{in_mapped, from_mapped, any_in, in_any, one_of_name}

-- rising numbers show which issue comes before
rises_at : (older : List Issue) (x : Issue) (newer : List Issue) → Rises (older ++ x ∷ newer) → All (λ j. x.number < j.number) newer
rises_at [] x newer r = r.0
rises_at (i ∷ older) x newer r = rises_at older x newer r.1

older_less : (older : List Issue) (x : Issue) (newer : List Issue) (y : Issue) → Rises (older ++ x ∷ newer) → In y older → y.number < x.number
older_less [] x newer y r i = absurd i
older_less (z ∷ older) x newer y r (inl e) =
    subst (λ w. w.number < x.number) e (all_in (λ j. z.number < j.number) (older ++ x ∷ newer) x r.0 (in_at older x newer))
older_less (z ∷ older) x newer y r (inr i) = older_less older x newer y r.1 i

newer_more : (older : List Issue) (x : Issue) (newer : List Issue) (y : Issue) → Rises (older ++ x ∷ newer) → In y newer → x.number < y.number
newer_more older x newer y r i = all_in (λ j. x.number < j.number) newer y (rises_at older x newer r) i

before_at : (older : List Issue) (x : Issue) (newer : List Issue) (y : Issue) → Rises (older ++ x ∷ newer) → In y (older ++ x ∷ newer) → y.number < x.number
    → In y older
before_at older x newer y r i less =
    elim (in_append y older (x ∷ newer) i) [
      | inl before ↦ before
      | inr after ↦ elim after [
        | inl e ↦ absurd (let same : x.number ≡ y.number = ap (λ (z : Issue). z.number) e in omega (arith, less, same))
        | inr later ↦ absurd (let more = newer_more older x newer y r later in omega (arith, less, more))
      ]
    ]

after_at : (older : List Issue) (x : Issue) (newer : List Issue) (y : Issue) → Rises (older ++ x ∷ newer) → In y (older ++ x ∷ newer) → x.number < y.number
    → In y newer
after_at older x newer y r i more =
    elim (in_append y older (x ∷ newer) i) [
      | inl before ↦ absurd (let less = older_less older x newer y r before in omega (arith, less, more))
      | inr after ↦ elim after [
        | inl e ↦ absurd (let same : x.number ≡ y.number = ap (λ (z : Issue). z.number) e in omega (arith, more, same))
        | inr later ↦ later
      ]
    ]

rises_older : (older rest : List Issue) → Rises (older ++ rest) → Rises older
rises_older [] rest r = tt
rises_older (x ∷ older) rest r =
    let above = All-take (λ j. x.number < j.number) (length older) (older ++ rest) r.0 in
    (subst (All (λ j. x.number < j.number)) (take-append_seam older rest) above, rises_older older rest r.1)

-- bars
bar_by : (p : Pending) (is : List Issue) → has_bar (p ∷ whats is) ≡ true → (p ≡ barred) ⊎ (has_bar (whats is) ≡ true)
bar_by (Store e) is b = inr b
bar_by barred is b = inl refl

record HasBar (is : List Issue) : Type 0 where
  bar : Issue
  there : In bar is
  what : bar.what ≡ barred

has_bar_in : (is : List Issue) → has_bar (whats is) ≡ true → HasBar is
has_bar_in [] b = absurd (false≢true b)
has_bar_in (i ∷ is) b =
    elim (bar_by i.what is b) [
      | inl e ↦ record { bar = i; there = inl refl; what = e }
      | inr later ↦ let h = has_bar_in is later in record { bar = h.bar; there = inr h.there; what = h.what }
    ]

bar_behind : (p : Pending) (is : List Issue) → has_bar (whats is) ≡ true → has_bar (p ∷ whats is) ≡ true
bar_behind (Store e) is b = b
bar_behind barred is b = refl

bar_in : (is : List Issue) (y : Issue) → In y is → y.what ≡ barred → has_bar (whats is) ≡ true
bar_in [] y i e = absurd i
bar_in (x ∷ is) y (inl same) e = ap (λ p. has_bar (p ∷ whats is)) (ap (λ (z : Issue). z.what) same ∙ e)
bar_in (x ∷ is) y (inr i) e = bar_behind x.what is (bar_in is y i e)

-- a deed that issues a bar
record IsBar (d : Deed) (n : Name) (k : ℕ) : Type 0 where
  took : ℤ
  other : Option Name
  is : d ≡ Did n k Bar took other

abbrev a_bar : ℕ → Issue
a_bar k = record { number = k; what = barred }

is_bar : (n : Name) (d : Deed) (k : ℕ) → issue_of true n d ≡ Some (a_bar k) → IsBar d n k
is_bar n (Did q j (Write c w) took other) k is =
    let may = cond_some (same n q) (a_store j (record { cell = c; value = w })) (a_bar k) is in
    let no : Store (record { cell = c; value = w }) ≡ barred = ap (λ (i : Issue). i.what) may.1 in
    cc
is_bar n (Did q j Bar took other) k is =
    let may = cond_some (same n q) (a_bar j) (a_bar k) is in
    record {
      took = took;
      other = other;
      is = ap (λ m. Did m j Bar took other) (sym (is_same n q may.0)) ∙ ap (λ m. Did n m Bar took other) (ap (λ (i : Issue). i.number) may.1);
    }
is_bar n (Did q j Silent took other) k is = absurd (none-some _ is)
is_bar n (Did q j r took other) k is = absurd (none-some _ is)
is_bar n (Drained q j c w) k is = absurd (none-some _ is)

below_true : (a b : ℕ) → a < b → nat_lt a b ≡ true
below_true a b l = grind (arith, nat_tests)

true_below : (a b : ℕ) → nat_lt a b ≡ true → a < b
true_below a b e = grind (arith, nat_tests)

-- a deed that drains a store
record IsDrain (d : Deed) (n : Name) (k : ℕ) : Type 0 where
  cell : ℕ
  value : ℤ
  is : d ≡ Drained n k cell value

is_drain : (n : Name) (k : ℕ) (d : Deed) → drains n k d ≡ true → IsDrain d n k
is_drain n k (Drained q j c v) e = record {
  cell = c;
  value = v;
  is =
      let both = and_parts (same n q) (k == j) e in
      ap (λ m. Drained m j c v) (sym (is_same n q both.0)) ∙ ap (λ m. Drained n m c v) (sym (eqb-true k j both.1));
}
is_drain n k (Did q j r v o) e = absurd (false≢true e)

module _ (h : List Deed) (n : Name) where
  issued_in : (k c : ℕ) (v : ℤ) → (i : IsIssuedIn h n k c v) → In (Did n k (Write c v) i.took i.other) h
  issued_in k c v i = subst (In (Did n k (Write c v) i.took i.other)) (sym i.issued) (in_at i.before _ i.after)

  -- a store that was issued and hasn't drained is pending
  pub store_pending : (k c : ℕ) (v : ℤ) → IsIssuedIn h n k c v → has_drained h n k ≡ false
      → In (a_store k (record { cell = c; value = v })) (pending_issues true h n)
  store_pending k c v i none =
      in_filter (λ i. not (has_drained h n i.number)) (a_store k (record { cell = c; value = v })) (filter_map (issue_of true n) h)
      (in_mapped (issue_of true n) (Did n k (Write c v) i.took i.other) (a_store k (record { cell = c; value = v })) h (issued_in k c v i)
      (ap (λ b. if b then Some (a_store k (record { cell = c; value = v })) else None) (same_self n n refl)))
      (not_from_false _ none)

module _ (h : List Deed) (n : Name) (named : Named h) (rises : Rises (pending_issues true h n)) where
  -- a store that was issued before a deed is in the history before it
  issued_before : (older newer : List Deed) (x : Deed) (k c : ℕ) (v : ℤ) → h ≡ older ++ x ∷ newer → (i : IsIssuedIn older n k c v)
      → In (Did n k (Write c v) i.took i.other) h
  issued_before older newer x k c v there i =
      let write = Did n k (Write c v) i.took i.other in
      subst (In write) (sym there) (in_left write older (x ∷ newer) (subst (In write) (sym i.issued) (in_at i.before write i.after)))

  not_both : (k : ℕ) (v w : ℤ) (o p : Option Name) (c : ℕ) (x : ℤ) → Did n k Bar v o ≡ Did n k (Write c x) w p → ⊥
  not_both k v w o p c x e = cc

  -- no drain is of a bar
  bar_isnt : (k : ℕ) (v : ℤ) (o : Option Name) → In (Did n k Bar v o) h → (older newer : List Deed) (c : ℕ) (w : ℤ) → h ≡ older ++ Drained n k c w ∷ newer → ⊥
  bar_isnt k v o i older newer c w there =
      let from = named.stores older newer n k c w there in
      let write = issued_before older newer (Drained n k c w) k c w there from in
      not_both k v from.took o from.other c w (one_of_name h _ _ named.apart i write refl)

  bar_never_drains : (k : ℕ) (v : ℤ) (o : Option Name) → In (Did n k Bar v o) h → Passes (drains n k) h → ⊥
  bar_never_drains k v o i p =
      let d = is_drain n k p.one p.passes in
      let s = in_split p.one h p.there in
      bar_isnt k v o i s.older s.newer d.cell d.value (s.there ∙ ap (λ x. s.older ++ x ∷ s.newer) d.is)

  -- a bar never drains
  bar_stays : (k : ℕ) (v : ℤ) (o : Option Name) → In (Did n k Bar v o) h → has_drained h n k ≡ false
  bar_stays k v o i = false_from_ne_true (has_drained h n k) (λ drained. bar_never_drains k v o i (any_in (drains n k) h drained))

  bar_pending : (k : ℕ) (v : ℤ) (o : Option Name) → In (Did n k Bar v o) h → In (a_bar k) (pending_issues true h n)
  bar_pending k v o i =
      in_filter (λ i. not (has_drained h n i.number)) (a_bar k) (filter_map (issue_of true n) h)
      (in_mapped (issue_of true n) (Did n k Bar v o) (a_bar k) h i (ap (λ b. if b then Some (a_bar k) else None) (same_self n n refl)))
      (not_from_false _ (bar_stays k v o i))

  -- two pending stores have a bar between them if the thread issued one between their steps
  module _ (o₁ : List Issue) (j d : ℕ) (w : ℤ) (o₂ : List Issue) (k c : ℕ) (v : ℤ) (newer : List Issue)
      (split : pending_issues true h n ≡ (o₁ ++ a_store j (record { cell = d; value = w }) ∷ o₂) ++ a_store k (record { cell = c; value = v }) ∷ newer) where
    abbrev J : Issue
    J = a_store j (record { cell = d; value = w })

    abbrev K : Issue
    K = a_store k (record { cell = c; value = v })

    rise : Rises ((o₁ ++ J ∷ o₂) ++ K ∷ newer)
    rise = subst Rises split rises

    rise_older : Rises (o₁ ++ J ∷ o₂)
    rise_older = rises_older (o₁ ++ J ∷ o₂) (K ∷ newer) rise

    bar_between : has_bar (whats o₂) ≡ true → has_bar_between h n j k ≡ true
    bar_between b =
        let bar = has_bar_in o₂ b in
        let x = bar.bar in
        let older : In x (o₁ ++ J ∷ o₂) = in_right x o₁ (J ∷ o₂) (inr bar.there) in
        let pending : In x (pending_issues true h n) = subst (In x) (sym split) (in_left x (o₁ ++ J ∷ o₂) (K ∷ newer) older) in
        let kept = from_filter (λ i. not (has_drained h n i.number)) x (filter_map (issue_of true n) h) pending in
        let from = from_mapped (issue_of true n) x h kept.0 in
        let is = is_bar n from.of x.number (from.gives ∙ ap (λ p. Some (record { number = x.number; what = p })) bar.what) in
        let more = newer_more o₁ J o₂ x rise_older bar.there in
        let less = older_less (o₁ ++ J ∷ o₂) K newer x rise older in
        in_any (is_bar_between n j k) from.of h from.there
        (ap (is_bar_between n j k) is.is
        ∙ ap₂ (λ a b. a && b) (ap₂ (λ a b. a && b) (same_self n n refl) (below_true j x.number more)) (below_true x.number k less))

    between : (e : Deed) → In e h → is_bar_between n j k e ≡ true → has_bar (whats o₂) ≡ true
    between (Did q i Bar took other) there e =
        let parts = and_parts (same n q && nat_lt j i) (nat_lt i k) e in
        let first = and_parts (same n q) (nat_lt j i) parts.0 in
        let mine = is_same n q first.0 in
        let more = true_below j i first.1 in
        let less = true_below i k parts.1 in
        let pending = subst (In (a_bar i)) split
        (bar_pending i took other (subst (λ m. In (Did m i Bar took other) h) (sym mine) there)) in
        let older = before_at (o₁ ++ J ∷ o₂) K newer (a_bar i) rise pending less in
        bar_in o₂ (a_bar i) (after_at o₁ J o₂ (a_bar i) rise_older older more) refl
    between (Did q i Silent took other) there e = absurd (false≢true e)
    between (Did q i r took other) there e = absurd (false≢true e)
    between (Drained q i c' v') there e = absurd (false≢true e)

    pub same_bars : has_bar (whats o₂) ≡ has_bar_between h n j k
    same_bars = both_ways (has_bar (whats o₂)) (has_bar_between h n j k) bar_between
        (λ b. let p = any_in (is_bar_between n j k) h b in between p.one p.there p.passes)

  -- a store that waits for none of these isn't bound after any of them
  free_at : (bound : Binding) (o₁ : List Issue) (j : ℕ) (e : Entry) (o₂ : List Issue) (c : ℕ) → waits bound (whats (o₁ ++ a_store j e ∷ o₂)) c ≡ false
      → bound (e.cell == c) (has_bar (whats o₂)) ≡ false
  free_at bound [] j e o₂ c free = (or_parts _ _ free).0
  free_at bound (i ∷ o₁) j e o₂ c free = free_at bound o₁ j e o₂ c (waits_behind bound i.what (whats (o₁ ++ a_store j e ∷ o₂)) c free)
    where
      waits_behind : (bound : Binding) (p : Pending) (ps : List Pending) (c : ℕ) → waits bound (p ∷ ps) c ≡ false → waits bound ps c ≡ false
      waits_behind bound (Store e) ps c free = (or_parts _ _ free).1
      waits_behind bound barred ps c free = free

  -- a pending store that waits for no older one is next, by the steps
  pub next_by_steps : (bound : Binding) (older newer : List Issue) (k c : ℕ) (v : ℤ)
      → pending_issues true h n ≡ older ++ a_store k (record { cell = c; value = v }) ∷ newer → waits bound (whats older) c ≡ false
      → MayDrainNext bound h n k c v
  next_by_steps bound older newer k c v there free =
      let K = a_store k (record { cell = c; value = v }) in
      let of = is_issued true h n K (record { cell = c; value = v }) (subst (In K) (sym there) (in_at older K newer)) refl in
      record {
        issued = of.issued;
        pending = of.pending;
        is_free = λ j d w issued none less.
            let J = a_store j (record { cell = d; value = w }) in
            let in_older = before_at older K newer J (subst Rises there rises) (subst (In J) there (store_pending h n j d w issued none)) less in
            let s = in_split J older in_older in
            let split = there ∙ ap (λ os. os ++ K ∷ newer) s.there in
            ap (bound (d == c)) (sym (same_bars s.older j d w s.newer k c v newer split))
            ∙ free_at bound s.older j (record { cell = d; value = w }) s.newer c (subst (λ os. waits bound (whats os) c ≡ false) s.there free);
      }

  -- a store that is next by the steps waits for no older one
  free_by : (bound : Binding) (c : ℕ) (older : List Issue)
      → ((o₁ : List Issue) (j : ℕ) (e : Entry) (o₂ : List Issue) → older ≡ o₁ ++ a_store j e ∷ o₂ → bound (e.cell == c) (has_bar (whats o₂)) ≡ false)
      → waits bound (whats older) c ≡ false
  free_by bound c [] each = refl
  free_by bound c (i ∷ is) each =
      by i.what refl (free_by bound c is (λ o₁ j e o₂ s. each (i ∷ o₁) j e o₂ (ap (λ os. i ∷ os) s)))
    where
      by : (p : Pending) → i.what ≡ p → waits bound (whats is) c ≡ false → waits bound (p ∷ whats is) c ≡ false
      by (Store e) is_store rest =
          ap₂ (λ a b. a || b) (each [] i.number e is (ap (λ p. record { number = i.number; what = p } ∷ is) is_store)) rest
      by barred is_store rest = rest

  pub split_by_steps : (bound : Binding) (k c : ℕ) (v : ℤ) → MayDrainNext bound h n k c v
      → (s : StoodAt (pending_issues true h n) (a_store k (record { cell = c; value = v }))) × (waits bound (whats s.older) c ≡ false)
  split_by_steps bound k c v m =
      let K = a_store k (record { cell = c; value = v }) in
      let s = in_split K (pending_issues true h n) (store_pending h n k c v m.issued m.pending) in (
        s,
        free_by bound c s.older (λ o₁ j e o₂ at.
            let J = a_store j e in
            let split = s.there ∙ ap (λ os. os ++ K ∷ s.newer) at in
            let older = subst (In J) (sym at) (in_at o₁ J o₂) in
            let of = is_issued true h n J e (subst (In J) (sym s.there) (in_left J s.older (K ∷ s.newer) older)) refl in
            let less = older_less s.older K s.newer J (subst Rises s.there rises) older in
            ap (bound (e.cell == c)) (same_bars o₁ j e.cell e.value o₂ k c v s.newer split) ∙ m.is_free j e.cell e.value of.issued of.pending less),
      )
