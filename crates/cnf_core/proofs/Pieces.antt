-- The pieces of a list, as a formula is stored in memory.
use Rattle.std.proofs.Common.{
  subst,
  add-one,
  ◌≡◌,
  ℕ,
  suc,
  zero,
  ◌+◌,
  ◌-◌,
  ◌<◌,
  ◌≤◌,
  List,
  [],
  ◌∷◌,
  ◌++◌,
  length,
  get_or,
  take,
  drop,
  ℤ,
  refl,
  ap,
  sym,
  ◌∙◌,
  arith,
  IsTrue,
  Bool,
  true,
  false,
  ◌&&◌,
}
use Rattle.std.specs.List.{slice_range, list_all}
use Rattle.std.proofs.lemmas.Bool.{and_parts}
use Rattle.std.proofs.lemmas.List.{take_all, length-take, length-take-le, take-append-le, drop-append-le, take-append-drop}
use Rattle.std.proofs.lemmas.Option.{slice_get-get_or}
use Rattle.std.proofs.lemmas.List.Folds.{list_all-append}
use Rattle.std.proofs.Common.{length-append, length-drop}
use Rattle.std.proofs.Math.Seq.{drop-append_seam}
use Rattle.std.specs.Prelude.{slice_get, Some}
use Rattle.cnf_core.specs.Clauses.{are_clauses, is_clause, is_within, Formula, Valuation, satisfies, clause_true}
use Rattle.cnf_core.specs.declared.cnf.TheConstants.{LIMIT}
use Rattle.std.specs.Borrow.{Bor}
use Rattle.cnf_core.specs.helpers.Layout.{pieces, EndAt, all_now, formula_of, IsLaidOut}
use Rattle.cnf_core.specs.declared.cnf.Cnf.TheInside.{Inside}

pub length-pieces : (from : ℕ) (es : List ℕ) (xs : List ℤ) → length (pieces from es xs) ≡ length es
length-pieces from [] xs = refl
length-pieces from (e ∷ es) xs = ap suc (length-pieces e es xs)

pub get_or-pieces : (from : ℕ) (es : List ℕ) (xs : List ℤ) (k : ℕ) (d : List ℤ) → k < length es
    → get_or (pieces from es xs) k d ≡ slice_range xs (get_or (from ∷ es) k 0) (get_or es k 0)
get_or-pieces from [] xs k d h = absurd (omega arith)
get_or-pieces from (e ∷ es) xs zero d h = refl
get_or-pieces from (e ∷ es) xs (suc k) d h = get_or-pieces e es xs k d (omega arith)

pub from-le-total : (from : ℕ) (es : List ℕ) (total : ℕ) → EndAt from es total → from ≤ total
from-le-total from [] total h = omega (arith, h)
from-le-total from (e ∷ es) total h = omega (arith, h.0, from-le-total e es total h.1)

-- a piece begins before it ends, and ends in the list
pub pieces_lie : (from : ℕ) (es : List ℕ) (total : ℕ) (k : ℕ) → EndAt from es total → k < length es → (get_or (from ∷ es) k 0 ≤ get_or es k 0)
    × (get_or es k 0 ≤ total)
pieces_lie from [] total k h b = absurd (omega arith)
pieces_lie from (e ∷ es) total zero h b = (h.0, from-le-total e es total h.1)
pieces_lie from (e ∷ es) total (suc k) h b = pieces_lie e es total k h.1 (omega arith)

pub EndAt-push : (from : ℕ) (es : List ℕ) (total more : ℕ) → EndAt from es total → EndAt from (es ++ (total + more) ∷ []) (total + more)
EndAt-push from [] total more h = (omega (arith, h), refl)
EndAt-push from (e ∷ es) total more h = (h.0, EndAt-push e es total more h.1)

slice_range-append : (xs ys : List ℤ) (from to : ℕ) → from ≤ to → to ≤ length xs → slice_range (xs ++ ys) from to ≡ slice_range xs from to
slice_range-append xs ys from to h b =
    let e : drop from (xs ++ ys) ≡ drop from xs ++ ys = drop-append-le from xs ys (omega arith) in
    let f : take (to - from) (drop from xs ++ ys) ≡ take (to - from) (drop from xs) =
    take-append-le (to - from) (drop from xs) ys (omega (arith, length-drop from xs)) in
    ap (take (to - from)) e ∙ f

pub pieces-push : (from : ℕ) (es : List ℕ) (xs ys : List ℤ) → EndAt from es (length xs)
    → pieces from (es ++ (length xs + length ys) ∷ []) (xs ++ ys) ≡ pieces from es xs ++ ys ∷ []
pieces-push from [] xs ys h =
    let e : drop from (xs ++ ys) ≡ ys = ap (λ n. drop n (xs ++ ys)) h ∙ drop-append_seam xs ys in
    let f : take (length xs + length ys - from) (drop from (xs ++ ys)) ≡ ys = ap (take (length xs + length ys - from)) e
    ∙ take_all (length xs + length ys - from) ys (omega (arith, h)) in
    ap (λ c. c ∷ []) f
pieces-push from (e ∷ es) xs ys h =
    let p : slice_range (xs ++ ys) from e ≡ slice_range xs from e = slice_range-append xs ys from e h.0 (from-le-total e es (length xs) h.1) in
    let q : pieces e (es ++ (length xs + length ys) ∷ []) (xs ++ ys) ≡ pieces e es xs ++ ys ∷ [] = pieces-push e es xs ys h.1 in
    cc

-- if each element passes a test, the one at a place does
pub list_all-at : {X : Type 0} (p : X → Bool) (xs : List X) (k : ℕ) (d : X) → IsTrue (list_all p xs) → k < length xs → IsTrue (p (get_or xs k d))
list_all-at p [] k d h b = absurd (omega arith)
list_all-at p (x ∷ xs) zero d h b = grind arith
list_all-at p (x ∷ xs) (suc k) d h b = list_all-at p xs k d (grind arith) (omega arith)

pub is_within-upto : (vars n : ℕ) (c : List ℤ) → vars ≤ n → IsTrue (is_within vars c) → IsTrue (is_within n c)
is_within-upto vars n [] b h = refl
is_within-upto vars n (l ∷ c) b h = grind (arith, is_within-upto vars n c)

pub are_clauses-more : (vars : ℕ) (cs : List (List ℤ)) → IsTrue (are_clauses vars cs) → IsTrue (are_clauses (vars + 1) cs)
are_clauses-more vars [] h = refl
are_clauses-more vars (c ∷ cs) h = grind (arith, are_clauses-more vars cs, is_within-upto vars (vars + 1) c (omega arith))

-- the range of the clause at a place, and its literals
pub record LiesAt (i : Inside) (f : Formula) (place : ℕ) : Type 0 where
  pub there : place < length i.ends.items
  pub ordered : get_or (0 ∷ i.ends.items) place 0 ≤ get_or i.ends.items place 0
  pub ends : get_or i.ends.items place 0 ≤ length i.literals.items
  pub clause : slice_get f.clauses place ≡ Some (slice_range i.literals.items (get_or (0 ∷ i.ends.items) place 0) (get_or i.ends.items place 0))
  pub rises : IsTrue (is_clause (slice_range i.literals.items (get_or (0 ∷ i.ends.items) place 0) (get_or i.ends.items place 0)))
  pub within : IsTrue (is_within f.vars (slice_range i.literals.items (get_or (0 ∷ i.ends.items) place 0) (get_or i.ends.items place 0)))

pub lies_at : (i : Inside) (f : Formula) (place : ℕ) → formula_of i ≡ f → IsLaidOut i → place < length f.clauses → LiesAt i f place
lies_at i f place is laid h =
    let cs : List (List ℤ) = pieces 0 i.ends.items i.literals.items in
    let same : cs ≡ f.clauses = ap (λ (g : Formula). g.clauses) is in
    let there : place < length i.ends.items = omega (arith, length-pieces 0 i.ends.items i.literals.items, ap length same) in
    let inside : place < length cs = omega (arith, ap length same) in
    let lie = pieces_lie 0 i.ends.items (length i.literals.items) place laid.ends there in
    let at : get_or cs place [] ≡ slice_range i.literals.items (get_or (0 ∷ i.ends.items) place 0) (get_or i.ends.items place 0) =
    get_or-pieces 0 i.ends.items i.literals.items place [] there in
    let ok : IsTrue (is_clause (get_or cs place []) && is_within i.vars (get_or cs place [])) = list_all-at (λ c. is_clause c && is_within i.vars c)
    cs place [] laid.clauses inside in
    let P : List ℤ → Type 0 = λ c. IsTrue (is_clause c) in
    let Q : List ℤ → Type 0 = λ c. IsTrue (is_within f.vars c) in
    let vars : i.vars ≡ f.vars = ap (λ (g : Formula). g.vars) is in
    let V : ℕ → Type 0 = λ n. IsTrue (is_within n (get_or cs place [])) in
    record {
      there = there;
      ordered = lie.0;
      ends = lie.1;
      clause = ap (λ xs. slice_get xs place) (sym same) ∙ slice_get-get_or cs place [] inside ∙ ap (λ c. Some c) at;
      rises = subst P at (and_parts _ _ ok).0;
      within = subst Q at (subst V vars (and_parts (is_clause (get_or cs place [])) _ ok).1);
    }

one-more : (a b c : Bool) → a ≡ true → b ≡ true → c ≡ true → (a && (b && c && true)) ≡ true
one-more a b c p q r = grind arith

-- the stored formula with one more clause
pub IsLaidOut-push : (i : Inside) (f : Formula) (es : List ℕ) (xs ys : List ℤ) → formula_of i ≡ f → IsLaidOut i
    → es ≡ i.ends.items ++ (length i.literals.items + length ys) ∷ [] → xs ≡ i.literals.items ++ ys → IsTrue (is_clause ys)
    → IsTrue (is_within f.vars ys) → length f.clauses + 1 < LIMIT → (EndAt 0 es (length xs)) × (IsTrue (are_clauses i.vars (pieces 0 es xs)))
    × (length es < LIMIT) × (pieces 0 es xs ≡ f.clauses ++ ys ∷ [])
IsLaidOut-push i f es xs ys is laid e x rises within room =
    let old : List (List ℤ) = pieces 0 i.ends.items i.literals.items in
    let same : old ≡ f.clauses = ap (λ (g : Formula). g.clauses) is in
    let vars : i.vars ≡ f.vars = ap (λ (g : Formula). g.vars) is in
    let now : pieces 0 es xs ≡ old ++ ys ∷ [] = ap (λ (zs : List ℕ). pieces 0 zs xs) e
    ∙ ap (pieces 0 (i.ends.items ++ (length i.literals.items + length ys) ∷ [])) x ∙ pieces-push 0 i.ends.items i.literals.items ys laid.ends in
    let total : length xs ≡ length i.literals.items + length ys = ap length x ∙ length-append i.literals.items ys in
    let within_here : IsTrue (is_within i.vars ys) = let Q : ℕ → Type 0 = λ n. IsTrue (is_within n ys) in subst Q (sym vars) within in
    let E : List ℕ → Type 0 = λ zs. EndAt 0 zs (length xs) in
    let T : ℕ → Type 0 = λ n. EndAt 0 (i.ends.items ++ (length i.literals.items + length ys) ∷ []) n in (
      subst E (sym e) (subst T (sym total) (EndAt-push 0 i.ends.items (length i.literals.items) (length ys) laid.ends)),
      ap (are_clauses i.vars) now ∙ list_all-append (λ c. is_clause c && is_within i.vars c) old (ys ∷ []) ∙ one-more _ _ _ laid.clauses rises within_here,
      omega (
        arith,
        ap length e,
        length-append i.ends.items ((length i.literals.items + length ys) ∷ []),
        length-pieces 0 i.ends.items i.literals.items,
        ap length same,
      ),
      now ∙ ap (λ cs. cs ++ ys ∷ []) same,
    )

-- satisfying one more clause
satisfies-suc : (v : Valuation) (cs : List (List ℤ)) (k : ℕ) (c : List ℤ) → slice_get cs k ≡ Some c
    → satisfies v (take (suc k) cs) ≡ (satisfies v (take k cs) && clause_true v c)
satisfies-suc v [] k c h = absurd (cc)
satisfies-suc v (d ∷ cs) zero c h = grind arith
satisfies-suc v (d ∷ cs) (suc k) c h = grind (arith, satisfies-suc v cs k c h)

pub satisfies-more : (v : Valuation) (cs : List (List ℤ)) (k : ℕ) (c : List ℤ) → slice_get cs k ≡ Some c
    → satisfies v (take (k + 1) cs) ≡ (satisfies v (take k cs) && clause_true v c)
satisfies-more v cs k c h = rw add-one (satisfies-suc v cs k c h)

pub satisfies-not : (v : Valuation) (cs : List (List ℤ)) (k : ℕ) (c : List ℤ) → slice_get cs k ≡ Some c → clause_true v c ≡ false → satisfies v cs ≡ false
satisfies-not v [] k c h f = absurd (cc)
satisfies-not v (d ∷ cs) zero c h f = grind arith
satisfies-not v (d ∷ cs) (suc k) c h f = grind (arith, satisfies-not v cs k c)

-- the first pieces
pieces-take : (from : ℕ) (es : List ℕ) (xs : List ℤ) (n : ℕ) → pieces from (take n es) xs ≡ take n (pieces from es xs)
pieces-take from es xs zero = refl
pieces-take from [] xs (suc n) = refl
pieces-take from (e ∷ es) xs (suc n) = ap (λ cs. slice_range xs from e ∷ cs) (pieces-take e es xs n)

EndAt-take : (from : ℕ) (es : List ℕ) (total n : ℕ) → n ≤ length es → EndAt from es total → EndAt from (take n es) (get_or (from ∷ es) n 0)
EndAt-take from es total zero b h = refl
EndAt-take from [] total (suc n) b h = absurd (omega arith)
EndAt-take from (e ∷ es) total (suc n) b h = (h.0, EndAt-take e es total n (omega arith) h.1)

ends-le-total : (from : ℕ) (es : List ℕ) (total n : ℕ) → n ≤ length es → EndAt from es total → get_or (from ∷ es) n 0 ≤ total
ends-le-total from es total zero b h = from-le-total from es total h
ends-le-total from [] total (suc n) b h = absurd (omega arith)
ends-le-total from (e ∷ es) total (suc n) b h = ends-le-total e es total n (omega arith) h.1

pieces-append : (from : ℕ) (es : List ℕ) (xs ys : List ℤ) → EndAt from es (length xs) → pieces from es (xs ++ ys) ≡ pieces from es xs
pieces-append from [] xs ys h = refl
pieces-append from (e ∷ es) xs ys h =
    let p : slice_range (xs ++ ys) from e ≡ slice_range xs from e = slice_range-append xs ys from e h.0 (from-le-total e es (length xs) h.1) in
    let q : pieces e es (xs ++ ys) ≡ pieces e es xs = pieces-append e es xs ys h.1 in
    cc

-- the stored formula without its last clauses
pub IsLaidOut-take : (i : Inside) (f : Formula) (n vars : ℕ) (es : List ℕ) (xs : List ℤ) → formula_of i ≡ f → IsLaidOut i → n ≤ length f.clauses
    → es ≡ take n i.ends.items → xs ≡ take (get_or (0 ∷ i.ends.items) n 0) i.literals.items → IsTrue (are_clauses vars (take n f.clauses))
    → (EndAt 0 es (length xs)) × (IsTrue (are_clauses vars (pieces 0 es xs))) × (length es < LIMIT) × (pieces 0 es xs ≡ take n f.clauses)
IsLaidOut-take i f n vars es xs is laid b e x good =
    let old : List (List ℤ) = pieces 0 i.ends.items i.literals.items in
    let cut : ℕ = get_or (0 ∷ i.ends.items) n 0 in
    let same : old ≡ f.clauses = ap (λ (g : Formula). g.clauses) is in
    let few : n ≤ length i.ends.items = omega (arith, ap length same, length-pieces 0 i.ends.items i.literals.items) in
    let total : length xs ≡ cut = ap length x ∙ length-take-le cut i.literals.items (ends-le-total 0 i.ends.items (length i.literals.items) n few laid.ends) in
    let E : List ℕ → Type 0 = λ zs. EndAt 0 zs (length xs) in
    let T : ℕ → Type 0 = λ k. EndAt 0 (take n i.ends.items) k in
    let ends : EndAt 0 (take n i.ends.items) (length xs) = subst T (sym total) (EndAt-take 0 i.ends.items (length i.literals.items) n few laid.ends) in
    let whole : xs ++ drop cut i.literals.items ≡ i.literals.items = ap (λ ys. ys ++ drop cut i.literals.items) x ∙ take-append-drop cut i.literals.items in
    let now : pieces 0 es xs ≡ take n f.clauses =
    ap (λ zs. pieces 0 zs xs) e
    ∙ sym (pieces-append 0 (take n i.ends.items) xs (drop cut i.literals.items) ends)
    ∙ ap (pieces 0 (take n i.ends.items)) whole
    ∙ pieces-take 0 i.ends.items i.literals.items n
    ∙ ap (take n) same
    in
    (subst E (sym e) ends, ap (are_clauses vars) now ∙ good, omega (arith, ap length e, length-take n i.ends.items, laid.few_clauses), now)

-- the stored clauses are over the formula's variables
pub clauses_of_laid : (i : Inside) (f : Formula) → formula_of i ≡ f → IsLaidOut i → IsTrue (are_clauses f.vars f.clauses)
clauses_of_laid i f is laid = let P : Formula → Type 0 = λ g. IsTrue (are_clauses g.vars g.clauses) in subst P is laid.clauses

-- each of some borrowed clauses is over the variables
pub good-at : (n : ℕ) (cs : List (Bor (List ℤ))) (k : ℕ) (d : Bor (List ℤ)) → IsTrue (are_clauses n (all_now cs)) → k < length cs
    → (IsTrue (is_clause (get_or cs k d).now)) × IsTrue (is_within n (get_or cs k d).now)
good-at n [] k d h b = absurd (omega arith)
good-at n (c ∷ cs) zero d h b = let g : IsTrue (is_clause c.now && is_within n c.now) = (and_parts _ _ h).0
    in ((and_parts (is_clause c.now) _ g).0, (and_parts (is_clause c.now) _ g).1)
good-at n (c ∷ cs) (suc k) d h b = good-at n cs k d (and_parts (is_clause c.now && is_within n c.now) _ h).1 (omega arith)

-- the old clauses of a list to which others were added
pub clauses-kept : (n m k : ℕ) (old new : List (List ℤ)) → IsTrue (are_clauses n old) → take (length old) new ≡ old → m ≡ n → k ≡ length old
    → IsTrue (are_clauses m (take k new))
clauses-kept n m k old new h t e l = ap (λ j. are_clauses j (take k new)) e ∙ ap (λ j. are_clauses n (take j new)) l ∙ ap (are_clauses n) t ∙ h
