-- The pending stores of a thread, by what it issued and what has drained.
use Rattle.std.proofs.Common.{◌≡◌, ◌↔◌, ◌∙◌, inl, inr, ℕ, ◌==◌, ℤ, Bool, true, false, not, ◌&&◌, cond, List, [], ◌∷◌, Some, None}
use Rattle.std.proofs.Common.{refl, sym, ap, subst}
use Rattle.std.specs.Option.{option_or}
use Rattle.std.specs.List.{filter, filter_map, cons_option, last_or}
use Rattle.std.proofs.lemmas.Bool.{false≢true, and_parts, true_from_ne_false}
use Rattle.std.proofs.lemmas.Option.{none-some, cond_some}
use Rattle.store_buffers.specs.tc_base.Names.{Name}
use Rattle.store_buffers.proofs.list_laws.Options.{or_none}
use Rattle.store_buffers.specs.tc_base.Buffers.{Entry}
use Rattle.store_buffers.specs.Buffers.{newest}
use Rattle.store_buffers.specs.list_laws.Lists.{is_nil}
use Rattle.store_buffers.specs.tc_base.declared.request.Request.TheVariants.{Silent, Write, Bar}
use Rattle.store_buffers.specs.Pending.{Pending, Store, Bar as barred, stores}
use Rattle.run_history.specs.History.{Deed, Did, Drained, Issue, same, issue_of, has_drained, pending_issues, pending}
use Rattle.run_history.specs.Last.{IsLast}
use Rattle.run_history.proofs.Last.{cons_last, last_is}
use Rattle.run_history.specs.pending.Deeds.{IsIssuedIn, own_value}
use Rattle.run_history.proofs.of_pending.Issues.{whats}
use Rattle.run_history.proofs.of_pending.Apart.{a_store, is_issued}
use Rattle.run_history.proofs.of_pending.In.{In, from_filter, from_mapped}
use Rattle.run_history.proofs.of_pending.Turns.{store_pending}

-- if a store is in the list of issues, some store is pending
store_by : (x : Issue) (is : List Issue) (k : ℕ) (e : Entry) → (In (a_store k e) is → is_nil (stores (whats is)) ≡ true → ⊥) → (p : Pending) → x.what ≡ p
    → In (a_store k e) (x ∷ is) → is_nil (stores (p ∷ whats is)) ≡ true → ⊥
store_by x is k e later (Store d) what i nil = false≢true nil
store_by x is k e later barred what (inl same) nil = let no : Store e ≡ barred = sym (ap (λ (y : Issue). y.what) same) ∙ what in cc
store_by x is k e later barred what (inr i) nil = later i nil

store_among : (is : List Issue) (k : ℕ) (e : Entry) → In (a_store k e) is → is_nil (stores (whats is)) ≡ true → ⊥
store_among [] k e i nil = i
store_among (x ∷ is) k e i nil = store_by x is k e (store_among is k e) x.what refl i nil

no_store_by : (x : Issue) (is : List Issue) → is_nil (stores (whats is)) ≡ true → ((k : ℕ) (e : Entry) → In (a_store k e) (x ∷ is) → ⊥) → (p : Pending)
    → x.what ≡ p → is_nil (stores (p ∷ whats is)) ≡ true
no_store_by x is rest none (Store e) what = absurd (none x.number e (inl (ap (λ p. record { number = x.number; what = p }) what)))
no_store_by x is rest none barred what = rest

no_store : (is : List Issue) → ((k : ℕ) (e : Entry) → In (a_store k e) is → ⊥) → is_nil (stores (whats is)) ≡ true
no_store [] none = refl
no_store (x ∷ is) none = no_store_by x is (no_store is (λ k e i. none k e (inr i))) none x.what refl

-- a store is issued only with buffers
issues_by : (b : Bool) (n : Name) (d : Deed) (k : ℕ) (e : Entry) → issue_of b n d ≡ Some (a_store k e) → b ≡ true
issues_by b n (Did q j (Write c w) took other) k e is =
    (and_parts b (same n q) (cond_some (b && same n q) (a_store j (record { cell = c; value = w })) (a_store k e) is).0).0
issues_by b n (Did q j Bar took other) k e is =
    let may = cond_some (same n q) (record { number = j; what = barred }) (a_store k e) is in
    let no : barred ≡ Store e = ap (λ (i : Issue). i.what) may.1 in
    cc
issues_by b n (Did q j Silent took other) k e is = absurd (none-some _ is)
issues_by b n (Did q j r took other) k e is = absurd (none-some _ is)
issues_by b n (Drained q j c w) k e is = absurd (none-some _ is)

-- no store is pending exactly if each issued store has drained
pub stores_have_drained : (buffered : Bool) (h : List Deed) (n : Name)
    → (is_nil (stores (pending buffered h n)) ≡ true)
    ↔ (buffered ≡ true → (k c : ℕ) (v : ℤ) → IsIssuedIn h n k c v → has_drained h n k ≡ true)
stores_have_drained buffered h n = (
  λ nil has k c v issued.
      true_from_ne_false (has_drained h n k) (λ none.
      store_among (pending_issues true h n) k (record { cell = c; value = v }) (store_pending h n k c v issued none)
      (subst (λ b. is_nil (stores (pending b h n)) ≡ true) has nil)),
  λ all.
      no_store (pending_issues buffered h n) (λ k e i.
      let of = is_issued buffered h n (a_store k e) e i refl in
      let kept = from_filter (λ i. not (has_drained h n i.number)) (a_store k e) (filter_map (issue_of buffered n) h) i in
      let from = from_mapped (issue_of buffered n) (a_store k e) h kept.0 in
      false≢true (sym of.pending ∙ all (issues_by buffered n from.of k e from.gives) k e.cell e.value of.issued)),
)

-- the newest pending store is the last one that was issued and hasn't drained
module _ (p : Issue → Bool) (k x : ℕ) (v : ℤ) (is : List Issue) (vs : List ℤ) (c : ℕ) (rest : newest (stores (whats (filter p is))) c ≡ last_or None vs) where
  abbrev I : Issue
  I = a_store k (record { cell = x; value = v })

  kept_value : (e : Bool) → option_or (newest (stores (whats (filter p is))) c) (cond e (Some v) None)
      ≡ last_or None (cons_option (cond (e && true) (Some v) None) vs)
  kept_value true = ap (λ o. option_or o (Some v)) rest ∙ sym (cons_last (Some v) vs)
  kept_value false = ap (λ o. option_or o None) rest ∙ or_none (last_or None vs)

  lost_value : (e : Bool) → newest (stores (whats (filter p is))) c ≡ last_or None (cons_option (cond (e && false) (Some v) None) vs)
  lost_value true = rest
  lost_value false = rest

  own_by : (b t : Bool) → p I ≡ t
      → newest (stores (whats (filter p (cons_option (cond b (Some I) None) is)))) c
      ≡ last_or None (cons_option (cond (b && ((x == c) && t)) (Some v) None) vs)
  own_by false t e = rest
  own_by true true e = ap (λ a. newest (stores (whats (cond a (I ∷ filter p is) (filter p is)))) c) e ∙ kept_value (x == c)
  own_by true false e = ap (λ a. newest (stores (whats (cond a (I ∷ filter p is) (filter p is)))) c) e ∙ lost_value (x == c)

bar_is_no_store : (p : Issue → Bool) (i : Issue) (is : List Issue) (c : ℕ) → i.what ≡ barred → (b t : Bool) → p i ≡ t
    → newest (stores (whats (filter p (cons_option (cond b (Some i) None) is)))) c ≡ newest (stores (whats (filter p is))) c
bar_is_no_store p i is c what false t e = refl
bar_is_no_store p i is c what true true e =
    ap (λ a. newest (stores (whats (cond a (i ∷ filter p is) (filter p is)))) c) e ∙ ap (λ q. newest (stores (q ∷ whats (filter p is))) c) what
bar_is_no_store p i is c what true false e = ap (λ a. newest (stores (whats (cond a (i ∷ filter p is) (filter p is)))) c) e

module _ (buffered : Bool) (h : List Deed) (n : Name) (c : ℕ) where
  abbrev undrained : Issue → Bool
  undrained i = not (has_drained h n i.number)

  own_is_last : (g : List Deed)
      → newest (stores (whats (filter undrained (filter_map (issue_of buffered n) g)))) c ≡ last_or None (filter_map (own_value buffered h n c) g)
  own_is_last [] = refl
  own_is_last (Did q k (Write x v) took other ∷ g) =
      own_by undrained k x v (filter_map (issue_of buffered n) g) (filter_map (own_value buffered h n c) g) c (own_is_last g) (buffered && same n q)
      (not (has_drained h n k)) refl
  own_is_last (Did q k Bar took other ∷ g) =
      bar_is_no_store undrained (record { number = k; what = barred }) (filter_map (issue_of buffered n) g) c refl (same n q) (not (has_drained h n k)) refl
      ∙ own_is_last g
  own_is_last (Did q k Silent took other ∷ g) = own_is_last g
  own_is_last (Did q k r took other ∷ g) = own_is_last g
  own_is_last (Drained q k x v ∷ g) = own_is_last g

  pub own_has_last : (v : ℤ) → IsLast (own_value buffered h n c) h v → newest (stores (pending buffered h n)) c ≡ Some v
  own_has_last v l = own_is_last h ∙ last_is (own_value buffered h n c) h v l

  pub own_has_none : filter_map (own_value buffered h n c) h ≡ [] → newest (stores (pending buffered h n)) c ≡ None
  own_has_none none = own_is_last h ∙ ap (last_or None) none
