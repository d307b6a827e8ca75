-- The links stay as watches move.
use Rattle.std.proofs.Common.{
  ◌≡◌,
  ◌≢◌,
  ℕ,
  ◌-◌,
  ◌<◌,
  ◌⊎◌,
  true,
  false,
  List,
  [],
  ◌∷◌,
  ◌++◌,
  length,
  get_or,
  set,
  inl,
  inr,
  refl,
  sym,
  ◌∙◌,
  ap,
  subst,
  arith,
  length-set,
  get_or-set_same,
  get_or-set_other,
  length-take-le,
}
use Rattle.std.specs.Prelude.{Contains, All}
use Rattle.std.proofs.lemmas.Bool.{cases_eq, cases_lt}
use Rattle.std.proofs.lemmas.Bool.Decides.{nat_tests}
use Rattle.std.proofs.lemmas.List.{get_or_append_left, get_or_at, length_push, get_or-take}
use Rattle.std.proofs.lemmas.List.Elements.{All-push, All-take, All-set}
use Rattle.cdcl_clauses.specs.Clauses.{Clause, at, no_clause, watches, listed, without_place}
use Rattle.cdcl_clauses.specs.Invariants.{IsClause, IsListed, IsWatch, AreLinked}
use Rattle.cdcl_clauses.specs.declared.watches.Watch.{Watch}

-- the watches of each literal after the list of one literal was replaced
pub listed-set : (ws : List (List Watch)) (l m : ℕ) (us : List Watch) → l < length ws → ((m ≡ l) × (listed (set ws l us) m ≡ us))
    ⊎ ((m ≢ l) × (listed (set ws l us) m ≡ listed ws m))
listed-set ws l m us h =
    elim (cases_eq m l) [
      | inl e ↦ inl (e, ap (listed (set ws l us)) e ∙ get_or-set_same ws l us [] h)
      | inr e ↦ inr (e, get_or-set_other ws l m us [] e)
    ]

pub at-set : (cs : List Clause) (k m : ℕ) (c : Clause) → k < length cs → ((m ≡ k) × (at (set cs k c) m ≡ c)) ⊎ ((m ≢ k) × (at (set cs k c) m ≡ at cs m))
at-set cs k m c h =
    elim (cases_eq m k) [
      | inl e ↦ inl (e, ap (at (set cs k c)) e ∙ get_or-set_same cs k c no_clause h)
      | inr e ↦ inr (e, get_or-set_other cs k m c no_clause e)
    ]

pub listed-push : (ws : List (List Watch)) (l : ℕ) (w : Watch) → l < length ws → (m k : ℕ) → IsListed ws m k → IsListed (set ws l (listed ws l ++ w ∷ [])) m k
listed-push ws l w h m k i =
    elim (listed-set ws l m (listed ws l ++ w ∷ []) h) [
      | inl e ↦
          let f : listed ws m ≡ listed ws l = ap (listed ws) e.0 in
          let p : i.place < length (listed ws l) = subst (λ (us : List Watch). i.place < length us) f i.within in
          record {
            place = i.place;
            within = subst (λ (us : List Watch). i.place < length us) (sym e.1) (omega (arith, p, length_push (listed ws l) w));
            there = λ d. ap (λ (us : List Watch). (get_or us i.place d).clause) e.1
                ∙ ap (λ (x : Watch). x.clause) (get_or_append_left (listed ws l) (w ∷ []) d i.place p)
                ∙ ap (λ (us : List Watch). (get_or us i.place d).clause) (sym f) ∙ i.there d;
          }
      | inr e ↦ record {
        place = i.place;
        within = subst (λ (us : List Watch). i.place < length us) (sym e.1) i.within;
        there = λ d. ap (λ (us : List Watch). (get_or us i.place d).clause) e.1 ∙ i.there d;
      }
    ]

-- the watch lists stay linked with one more watch at a literal
pub linked-push : (v : ℕ) (cs : List Clause) (ws : List (List Watch)) → AreLinked v cs ws → (l : ℕ) (w : Watch) → l < length ws → IsWatch v cs w
    → AreLinked v cs (set ws l (listed ws l ++ w ∷ []))
linked-push v cs ws s l w h iw =
    record {
      lists = length-set ws l (listed ws l ++ w ∷ []) ∙ s.lists;
      clauses = s.clauses;
      entries = λ m. elim (listed-set ws l m (listed ws l ++ w ∷ []) h) [
        | inl e ↦ subst (λ (us : List Watch). All (IsWatch v cs) us) (sym e.1) (All-push (IsWatch v cs) (listed ws l) w (s.entries l) iw)
        | inr e ↦ subst (λ (us : List Watch). All (IsWatch v cs) us) (sym e.1) (s.entries m)
      ];
      watching = λ k m kl wm. listed-push ws l w h m k (s.watching k m kl wm);
    }

pub listed-last : (ws : List (List Watch)) (l : ℕ) (w : Watch) → l < length ws → IsListed (set ws l (listed ws l ++ w ∷ [])) l w.clause
listed-last ws l w h =
    let e : listed (set ws l (listed ws l ++ w ∷ [])) l ≡ listed ws l ++ w ∷ [] = get_or-set_same ws l (listed ws l ++ w ∷ []) [] h in
    record {
      place = length (listed ws l);
      within = subst (λ (us : List Watch). length (listed ws l) < length us) (sym e) (omega (arith, length_push (listed ws l) w));
      there = λ d. ap (λ (us : List Watch). (get_or us (length (listed ws l)) d).clause) e
          ∙ ap (λ (x : Watch). x.clause) (get_or_at (listed ws l) w [] d (length (listed ws l)) refl);
    }

-- a literal that a clause watches is one of its two
pub watches-cases : (c : Clause) (l : ℕ) → watches c l ≡ true → (c.kept ≡ true) × ((l ≡ c.first) ⊎ (l ≡ c.second))
watches-cases c l h = grind (arith, nat_tests)

pub watches-first : (c : Clause) → c.kept ≡ true → watches c c.first ≡ true
watches-first c h = grind (arith, nat_tests)

pub watches-second : (c : Clause) → c.kept ≡ true → watches c c.second ≡ true
watches-second c h = grind (arith, nat_tests)

-- the clauses after one of them watches other literals
abbrev pub rewatched : List Clause → (k first second : ℕ) → List Clause
rewatched cs k first second = set cs k (record (at cs k) { first = first; second = second })

-- the two lists of clauses are the same elsewhere
pub at-rewatched : (cs : List Clause) (k first second m : ℕ) → k < length cs → ((at (rewatched cs k first second) m).literals ≡ (at cs m).literals)
    × ((at (rewatched cs k first second) m).kept ≡ (at cs m).kept)
at-rewatched cs k first second m h =
    let c : Clause = record (at cs k) { first = first; second = second } in
    elim (at-set cs k m c h) [
      | inl e ↦ (
        ap (λ (c : Clause). c.literals) e.1 ∙ ap (λ (n : ℕ). (at cs n).literals) (sym e.0),
        ap (λ (c : Clause). c.kept) e.1
            ∙ ap (λ (n : ℕ). (at cs n).kept) (sym e.0),
      )
      | inr e ↦ (ap (λ (c : Clause). c.literals) e.1, ap (λ (c : Clause). c.kept) e.1)
    ]

pub watch-rewatched : (v : ℕ) (cs : List Clause) (k first second : ℕ) → k < length cs → (w : Watch) → IsWatch v cs w → IsWatch v (rewatched cs k first second) w
watch-rewatched v cs k first second h w i =
    let e = at-rewatched cs k first second w.clause h in
    record {
      clause_there = omega (arith, i.clause_there, length-set cs k (record (at cs k) { first = first; second = second }));
      blocker_in = subst (λ (ls : List ℕ). Contains ls w.blocker) (sym e.0) i.blocker_in;
      blocker_within = i.blocker_within;
    }

pub linked-watch : (v : ℕ) (cs : List Clause) (ws : List (List Watch)) → AreLinked v cs ws → (k first second : ℕ) → k < length cs
    → Contains (at cs k).literals first → Contains (at cs k).literals second → first ≢ second → IsListed ws first k → IsListed ws second k
    → AreLinked v (rewatched cs k first second) ws
linked-watch v cs ws s k first second h fi si ne fl sl =
    let c : Clause = record (at cs k) { first = first; second = second } in
    record {
      lists = s.lists;
      clauses = λ m ml kept. elim (at-set cs k m c h) [
        | inl e ↦
            let kk : (at cs k).kept ≡ true = sym (ap (λ (c : Clause). c.kept) e.1) ∙ kept in
            let i : IsClause v (at cs k) = s.clauses k h kk in
            subst (λ (c : Clause). IsClause v c) (sym e.1) (record { within = i.within; first_in = fi; second_in = si; two = λ f. absurd (ne f) })
        | inr e ↦ subst (λ (c : Clause). IsClause v c) (sym e.1)
            (s.clauses m (omega (arith, ml, length-set cs k c)) (sym (ap (λ (c : Clause). c.kept) e.1) ∙ kept))
      ];
      entries = λ l j d jl. watch-rewatched v cs k first second h (get_or (listed ws l) j d) (s.entries l j d jl);
      watching = λ m l ml wl. elim (at-set cs k m c h) [
        | inl e ↦ elim (watches-cases c l (sym (ap (λ (c : Clause). watches c l) e.1) ∙ wl)).1 [
          | inl f ↦ subst (λ (n : ℕ). IsListed ws l n) (sym e.0) (subst (λ (x : ℕ). IsListed ws x k) (sym f) fl)
          | inr f ↦ subst (λ (n : ℕ). IsListed ws l n) (sym e.0) (subst (λ (x : ℕ). IsListed ws x k) (sym f) sl)
        ]
        | inr e ↦ s.watching m l (omega (arith, ml, length-set cs k c)) (sym (ap (λ (c : Clause). watches c l) e.1) ∙ wl)
      ];
    }

-- removing the watch of a clause that no longer watches the literal
removed-place : (us : List Watch) (p q k : ℕ) → p < length us → q < length us → q ≢ p → ((d : Watch) → (get_or us q d).clause ≡ k)
    → (j : ℕ) × (j < length (without_place us p)) × ((d : Watch) → (get_or (without_place us p) j d).clause ≡ k)
removed-place us p q k pl ql ne h =
    let none : Watch = record { clause = 0; blocker = 0 } in
    let n : ℕ = length us - 1 in
    let last : Watch = get_or us n none in
    let size : length (without_place us p) ≡ n = length-take-le n (set us p last) (omega (arith, length-set us p last)) in
    elim (cases_lt q n) [
      | inl f ↦ (q, omega (arith, size), λ d. ap (λ (x : Watch). x.clause) (get_or-take n (set us p last) q d f ∙ get_or-set_other us p q last d ne) ∙ h d)
      | inr f ↦
          let e : q ≡ n = omega arith in
          let pn : p < n = omega arith in (
            p,
            omega (arith, size),
            λ d.
                ap (λ (x : Watch). x.clause) (get_or-take n (set us p last) p d pn ∙ get_or-set_same us p last d pl)
                ∙ ap (λ (m : ℕ). (get_or us m none).clause) (sym e) ∙ h none,
          )
    ]

pub linked-remove : (v : ℕ) (cs : List Clause) (ws : List (List Watch)) → AreLinked v cs ws → (l p : ℕ) (w : Watch) → l < length ws
    → p < length (listed ws l) → w ≡ get_or (listed ws l) p w → watches (at cs w.clause) l ≡ false → AreLinked v cs (set ws l (without_place (listed ws l) p))
linked-remove v cs ws s l p w h pl r gone =
    let us : List Watch = listed ws l in
    let last : Watch = get_or us (length us - 1) (record { clause = 0; blocker = 0 }) in
    let il : IsWatch v cs last = s.entries l (length us - 1) (record { clause = 0; blocker = 0 }) (omega arith) in
    record {
      lists = length-set ws l (without_place us p) ∙ s.lists;
      clauses = s.clauses;
      entries = λ m. elim (listed-set ws l m (without_place us p) h) [
        | inl e ↦ subst (λ (xs : List Watch). All (IsWatch v cs) xs) (sym e.1)
            (All-take (IsWatch v cs) (length us - 1) (set us p last) (All-set (IsWatch v cs) us p last il (s.entries l)))
        | inr e ↦ subst (λ (xs : List Watch). All (IsWatch v cs) xs) (sym e.1) (s.entries m)
      ];
      watching = λ k m kl wm. elim (listed-set ws l m (without_place us p) h) [
        | inl e ↦
            let i : IsListed ws m k = s.watching k m kl wm in
            let f : listed ws m ≡ us = ap (listed ws) e.0 in
            let there : (d : Watch) → (get_or us i.place d).clause ≡ k = λ d. ap (λ (xs : List Watch). (get_or xs i.place d).clause) (sym f) ∙ i.there d in
            let ne : i.place ≢ p = λ g. (
            let a : w.clause ≡ k = ap (λ (x : Watch). x.clause) r ∙ ap (λ (n : ℕ). (get_or us n w).clause) (sym g) ∙ there w in
            let b : watches (at cs k) m ≡ false = ap (λ (n : ℕ). watches (at cs n) m) (sym a) ∙ ap (watches (at cs w.clause)) e.0 ∙ gone in
            cc) in
            let (j, jl, jt) = removed-place us p i.place k pl (subst (λ (xs : List Watch). i.place < length xs) f i.within) ne there in
            record {
              place = j;
              within = subst (λ (xs : List Watch). j < length xs) (sym e.1) jl;
              there =
                  λ d. ap (λ (xs : List Watch). (get_or xs j d).clause) e.1 ∙ jt d;
            }
        | inr e ↦
            let i : IsListed ws m k = s.watching k m kl wm in
            record {
              place = i.place;
              within = subst (λ (xs : List Watch). i.place < length xs) (sym e.1) i.within;
              there =
                  λ d. ap (λ (xs : List Watch). (get_or xs i.place d).clause) e.1 ∙ i.there d;
            }
      ];
    }
