-- Levels of positions, and the changes of the values at them.
use Rattle.std.proofs.Common.{◌≡◌, ◌≢◌, ◌∙◌, ℕ, zero, suc, ◌+◌, ◌-◌, ◌<◌, ◌≤◌, ◌==◌, Bool, true, false, cond, List, [], ◌∷◌, ◌++◌, length, get_or}
use Rattle.std.proofs.Common.{Option, Some, None, append-nil, append_assoc, refl, sym, ap, ap₂, arith}
use Rattle.std.specs.List.{cons_option, filter_map, range_with_len}
use Rattle.std.proofs.lemmas.Bool.{eq-eqb, eqb-true, lt-ltb, ltb-true, true≢false}
use Rattle.std.proofs.lemmas.List.Elements.{filter_map-append}
use Rattle.order_formula.specs.Worlds.{World, IsWorld, position}
use Rattle.order_switches.specs.Levels.{AreLevels}
use Rattle.order_switches.specs.Switches.{changes, changes_after, end_at, switches, thread_at}
use Rattle.order_switches.proofs.Changes.{changes_between, changes_join, changes_more}
use Rattle.order_switches.proofs.Threads.{IsAt, event_there, thread_there}

abbrev eq : ℕ → ℕ → Bool
eq t u = t == u

-- the numbers of a range, joined
pub range_join : (a m n : ℕ) → range_with_len a (m + n) ≡ range_with_len a m ++ range_with_len (a + m) n
range_join a zero n =
    ap₂ range_with_len (let e : a ≡ a + 0 = omega arith in e) (let e : 0 + n ≡ n = omega arith in e)
range_join a (suc m) n =
    ap (λ k. range_with_len a k) (let e : suc m + n ≡ suc (m + n) = omega arith in e)
    ∙ ap (λ xs. a ∷ xs) (range_join (a + 1) m n ∙ ap (λ b. range_with_len (a + 1) m ++ range_with_len b n) (let e : a + 1 + m ≡ a + suc m = omega arith in e))

module _ (f : ℕ → Option ℕ) where
  abbrev pub below : ℕ → List ℕ
  below p = filter_map f (range_with_len 0 p)

  -- a value at a position is the last of those below the next position
  pub below_next : (p t : ℕ) → f p ≡ Some t → below (p + 1) ≡ below p ++ t ∷ []
  below_next p t at =
      ap (filter_map f) (range_join 0 p 1) ∙ filter_map-append f (range_with_len 0 p) (range_with_len (0 + p) 1)
      ∙ ap (λ q. below p ++ filter_map f (q ∷ [])) (let e : 0 + p ≡ p = omega arith in e)
      ∙ ap (λ o. below p ++ cons_option o []) at

  pub below_same : (p : ℕ) → f p ≡ None → below (p + 1) ≡ below p
  below_same p at =
      ap (filter_map f) (range_join 0 p 1) ∙ filter_map-append f (range_with_len 0 p) (range_with_len (0 + p) 1)
      ∙ ap (λ q. below p ++ filter_map f (q ∷ [])) (let e : 0 + p ≡ p = omega arith in e)
      ∙ ap (λ o. below p ++ cons_option o []) at ∙ append-nil (below p)

  -- the values below a later position extend those below an earlier one
  below_later : (p q t : ℕ) → p < q → f q ≡ Some t → (between : List ℕ) × (below (q + 1) ≡ below (p + 1) ++ (between ++ t ∷ []))
  below_later p q t less at =
      let n = q - (p + 1) in
      let whole : p + 1 + n ≡ q = omega (arith, less) in
      let here : below q ≡ below (p + 1) ++ filter_map f (range_with_len (0 + (p + 1)) n) =
      ap below (sym whole) ∙ ap (filter_map f) (range_join 0 (p + 1) n)
      ∙ filter_map-append f (range_with_len 0 (p + 1)) (range_with_len (0 + (p + 1)) n) in
      let between = filter_map f (range_with_len (0 + (p + 1)) n) in
      (between, below_next q t at ∙ ap (λ xs. xs ++ t ∷ []) here ∙ append_assoc (below (p + 1)) between (t ∷ []))

  -- the changes of values up to a position
  abbrev pub up_to : ℕ → ℕ
  up_to p = changes eq (below (p + 1))

  pub up_to_rise : (p q s t : ℕ) → p < q → f p ≡ Some s → f q ≡ Some t → s ≢ t → up_to p < up_to q
  up_to_rise p q s t less at later differ =
      let b = below_later p q t less later in
      let here = below_next p s at in
      let joined : up_to q ≡ up_to p + changes_after eq s (b.0 ++ t ∷ []) =
      ap (changes eq) (b.1 ∙ ap (λ xs. xs ++ (b.0 ++ t ∷ [])) here) ∙ changes_join (below p) s (b.0 ++ t ∷ [])
      ∙ ap (λ xs. changes eq xs + changes_after eq s (b.0 ++ t ∷ [])) (sym here) in
      omega (arith, joined, changes_between s b.0 t differ)

  pub up_to_most : (p end : ℕ) → p < end → up_to p ≤ changes eq (below end)
  up_to_most p end less =
      let n = end - (p + 1) in
      let whole : p + 1 + n ≡ end = omega (arith, less) in
      let joined : below end ≡ below (p + 1) ++ filter_map f (range_with_len (0 + (p + 1)) n) =
      ap below (sym whole) ∙ ap (filter_map f) (range_join 0 (p + 1) n)
      ∙ filter_map-append f (range_with_len 0 (p + 1)) (range_with_len (0 + (p + 1)) n) in
      let more = changes_more (below (p + 1)) (filter_map f (range_with_len (0 + (p + 1)) n)) in
      let one = ap (changes eq) joined in
      omega (arith, more, one)

module _ (threads : List ℕ) (failing : Option ℕ) (w : World) (k : ℕ) (is : IsWorld w) (long : length threads ≡ length w.positions) where
  abbrev f : ℕ → Option ℕ
  f = thread_at threads w

  abbrev end : ℕ
  end = end_at failing w

  abbrev thread : ℕ → ℕ
  thread e = get_or threads e 0

  module _ (level : ℕ → ℕ) (are : AreLevels threads failing w k level) where
    -- the changes after an event are at most the levels above its own
    abbrev After : (a n : ℕ) → Type 0
    After a n = (e : ℕ) → e < length threads → position w e < a → a + n ≡ end → level e + changes_after eq (thread e) (filter_map f (range_with_len a n)) ≤ k

    after : (a n : ℕ) → After a n
    after a zero e there less whole = let here = are.most e there (omega (arith, less, whole)) in omega (arith, here)
    after a (suc n) e there less whole = by (f a) refl (after (a + 1) n)
      where
        next : a + 1 + n ≡ end
        next = omega (arith, whole)

        others : List ℕ
        others = filter_map f (range_with_len (a + 1) n)

        by_thread : (t : ℕ) → IsAt threads w.positions a t → (b : Bool) → (thread e == t) ≡ b → After (a + 1) n
            → level e + (cond b 0 1 + changes_after eq t others) ≤ k
        by_thread t at true same rest =
            let more = rest e there (omega (arith, less)) next in
            let one = ap (λ u. changes_after eq u others) (eqb-true (thread e) t same) in
            omega (arith, more, one)
        by_thread t at false other rest =
            let g = at.event in
            let before : position w e < position w g = omega (arith, less, at.position) in
            let later = rest g at.there (omega (arith, at.position)) next in
            let one = ap (λ u. changes_after eq u others) at.thread in
            let more = are.rise e g there at.there (λ same. true≢false (sym (eq-eqb (thread e) t (same ∙ at.thread)) ∙ other))
            (lt-ltb (position w e) (position w g) before) (omega (arith, at.position, whole)) in
            omega (arith, later, one, more)

        by : (o : Option ℕ) → f a ≡ o → After (a + 1) n → level e + changes_after eq (thread e) (cons_option o others) ≤ k
        by None _ rest = rest e there (omega (arith, less)) next
        by (Some t) at rest = by_thread t (event_there threads w.positions a t at) (thread e == t) refl rest

    from : (a n : ℕ) → a + n ≡ end → changes eq (filter_map f (range_with_len a n)) ≤ k
    from a zero whole = omega arith
    from a (suc n) whole = by (f a) refl (from (a + 1) n)
      where
        next : a + 1 + n ≡ end
        next = omega (arith, whole)

        others : List ℕ
        others = filter_map f (range_with_len (a + 1) n)

        by : (o : Option ℕ) → f a ≡ o → (a + 1 + n ≡ end → changes eq others ≤ k) → changes eq (cons_option o others) ≤ k
        by None _ rest = rest next
        by (Some t) is_at rest =
            let at = event_there threads w.positions a t is_at in
            let more = after (a + 1) n at.event at.there (omega (arith, at.position)) next in
            let one = ap (λ u. changes_after eq u others) at.thread in
            omega (arith, more, one)

    pub few : switches threads failing w ≤ k
    few = from 0 end (omega arith)

  stands : (e : ℕ) → e < length threads → f (position w e) ≡ Some (thread e)
  stands e there = thread_there threads w.positions e is.distinct long there

  -- the number of switches up to each event is its level
  pub levels : switches threads failing w ≤ k → (level : ℕ → ℕ) × AreLevels threads failing w k level
  levels few = (
    λ e. up_to f (position w e),
    record {
      rise = λ e g there there_too differ before counts.
          up_to_rise f (position w e) (position w g) (thread e) (thread g) (ltb-true (position w e) (position w g) before) (stands e there)
          (stands g there_too) differ;
      most = λ g there counts. let most = up_to_most f (position w g) end counts in omega (arith, most, few);
    },
  )
