-- One turn of a visit of a literal's watches.
use Rattle.std.proofs.Common.{
  ◌≡◌,
  ◌≢◌,
  ℕ,
  ◌+◌,
  ◌-◌,
  ◌*◌,
  ◌<◌,
  ◌≤◌,
  ◌⊎◌,
  true,
  false,
  Option,
  Some,
  List,
  [],
  ◌∷◌,
  ◌++◌,
  length,
  get_or,
  set,
  inl,
  inr,
  sym,
  ◌∙◌,
  ap,
  subst,
  arith,
  length-set,
  get_or-take,
  get_or-set_same,
  get_or-set_other,
  length-take-le,
  zero,
  suc,
}
use Rattle.std.specs.Prelude.{Contains}
use Rattle.std.proofs.lemmas.Bool.{cases_eq}
use Rattle.std.proofs.lemmas.Bool.Decides.{nat_tests}
use Rattle.std.proofs.lemmas.List.{get_or_default, get_or_read}
use Rattle.std.proofs.lemmas.List.Elements.{Contains-push, All-contains}
use Rattle.cdcl_literals.specs.Literals.{opposite_of}
use Rattle.cdcl_literals.proofs.Opposites.{opposite_of-opposite_of, opposite_of-within}
use Rattle.cdcl_trail.specs.Trail.{Trail, IsTrail, pushed}
use Rattle.cdcl_clauses.specs.Clauses.{Clause, at, no_clause, watches, beside, listed, without_place}
use Rattle.cdcl_clauses.specs.Invariants.{AreConsistent, IsClause, IsWatch, IsListed, IsConflict, HasTrue, AreLinked, AreSame, Extends}
use Rattle.cdcl_clauses.specs.declared.watches.Watch.{Watch}
use Rattle.cdcl_propagate.specs.helpers.Looks.{IsVisited, IsVisitedBelow, Watching, AllFalseBut, IsFound}
use Rattle.cdcl_propagate.proofs.Links.{
  at-set,
  linked-push,
  listed-push,
  listed-last,
  linked-watch,
  linked-remove,
  watches-cases,
  watches-first,
  watches-second,
  rewatched,
}
use Rattle.cdcl_propagate.proofs.Guarding.{has_true-push, guarded-rewatched, guarded-pushed, reasoned-same, reasoned-pushed, same-rewatched}

-- the entry at a place
pub entry-at : (us : List Watch) (p : ℕ) (w d : Watch) → p < length us → w ≡ get_or us p w → get_or us p d ≡ w
entry-at us p w d h r = sym (get_or_read us p w h r d)

pub visited-more : (t : Trail) (cs : List Clause) (ws : List (List Watch)) (f place : ℕ) → IsVisitedBelow t cs ws f place → (w : Watch)
    → place < length (listed ws f) → w ≡ get_or (listed ws f) place w → (watches (at cs w.clause) f ≡ true → HasTrue t.literals (at cs w.clause))
    → IsVisitedBelow t cs ws f (place + 1)
visited-more t cs ws f place v w h r g p d pl wl =
    elim (cases_eq p place) [
      | inl e ↦
          let q : get_or (listed ws f) p d ≡ w = ap (λ (n : ℕ). get_or (listed ws f) n d) e ∙ entry-at (listed ws f) place w d h r in
          subst (λ (x : Watch). HasTrue t.literals (at cs x.clause)) (sym q) (g (ap (λ (x : Watch). watches (at cs x.clause) f) (sym q) ∙ wl))
      | inr e ↦ v p d (omega arith) wl
    ]

pub visited-lists : (t : Trail) (cs : List Clause) (ws vs : List (List Watch)) (f place : ℕ) → listed vs f ≡ listed ws f
    → IsVisitedBelow t cs ws f place → IsVisitedBelow t cs vs f place
visited-lists t cs ws vs f place e v p d pl wl =
    subst (λ (us : List Watch). HasTrue t.literals (at cs (get_or us p d).clause)) (sym e)
    (v p d pl (ap (λ (us : List Watch). watches (at cs (get_or us p d).clause) f) (sym e) ∙ wl))

pub listed-without : (ws : List (List Watch)) (f place : ℕ) → f < length ws
    → listed (set ws f (without_place (listed ws f) place)) f ≡ without_place (listed ws f) place
listed-without ws f place h = get_or-set_same ws f (without_place (listed ws f) place) [] h

pub length-without_place : (us : List Watch) (p : ℕ) → p < length us → length (without_place us p) + 1 ≡ length us
length-without_place us p h =
    let none : Watch = record { clause = 0; blocker = 0 } in
    let last : Watch = get_or us (length us - 1) none in
    omega (arith, length-take-le (length us - 1) (set us p last) (omega (arith, length-set us p last)))

pub visited-without : (t : Trail) (cs : List Clause) (ws : List (List Watch)) (f place : ℕ) → f < length ws → place < length (listed ws f)
    → IsVisitedBelow t cs ws f place → IsVisitedBelow t cs (set ws f (without_place (listed ws f) place)) f place
visited-without t cs ws f place h pl v p d pp wl =
    let us : List Watch = listed ws f in
    let none : Watch = record { clause = 0; blocker = 0 } in
    let last : Watch = get_or us (length us - 1) none in
    let ne : p ≢ place = omega arith in
    let pn : p < length us - 1 = omega arith in
    let e : get_or (listed (set ws f (without_place us place)) f) p d ≡ get_or us p d =
    ap (λ (xs : List Watch). get_or xs p d) (listed-without ws f place h) ∙ get_or-take (length us - 1) (set us place last) p d pn
    ∙ get_or-set_other us place p last d ne in
    subst (λ (x : Watch). HasTrue t.literals (at cs x.clause)) (sym e) (v p d pp (ap (λ (x : Watch). watches (at cs x.clause) f) (sym e) ∙ wl))

pub visited-rewatched : (t : Trail) (cs : List Clause) (ws : List (List Watch)) (f place k first second : ℕ) → k < length cs
    → watches (at (rewatched cs k first second) k) f ≡ false → IsVisitedBelow t cs ws f place → IsVisitedBelow t (rewatched cs k first second) ws f place
visited-rewatched t cs ws f place k first second h gone v p d pl wl =
    let m : ℕ = (get_or (listed ws f) p d).clause in
    elim (at-set cs k m (record (at cs k) { first = first; second = second }) h) [
      | inl e ↦ absurd (let g : watches (at (rewatched cs k first second) m) f ≡ false =
          ap (λ (n : ℕ). watches (at (rewatched cs k first second) n) f) e.0 ∙ gone in cc)
      | inr e ↦ subst (λ (c : Clause). HasTrue t.literals c) (sym e.1) (v p d pl (ap (λ (c : Clause). watches c f) (sym e.1) ∙ wl))
    ]

pub visited-pushed : (t : Trail) (cs : List Clause) (ws : List (List Watch)) (f place l : ℕ) (r : Option ℕ) → IsVisitedBelow t cs ws f place
    → IsVisitedBelow (pushed t l r) cs ws f place
visited-pushed t cs ws f place l r v p d pl wl = has_true-push t.literals l (at cs (get_or (listed ws f) p d).clause) (v p d pl wl)

pub visited-all : (v : ℕ) (t : Trail) (cs : List Clause) (ws : List (List Watch)) (f place : ℕ) → AreLinked v cs ws → length (listed ws f) ≤ place
    → IsVisitedBelow t cs ws f place → IsVisited t cs f
visited-all v t cs ws f place s h g k kl wl =
    let i : IsListed ws f k = s.watching k f kl wl in
    let none : Watch = record { clause = 0; blocker = 0 } in
    let e : (get_or (listed ws f) i.place none).clause ≡ k = i.there none in
    subst (λ (n : ℕ). HasTrue t.literals (at cs n)) e (g i.place none (omega (arith, i.within)) (ap (λ (n : ℕ). watches (at cs n) f) e ∙ wl))

-- the visited literal is still false, because of the literal being propagated
pub fallen-now : (t u : Trail) → Extends t u → (f : ℕ) → t.propagated < length t.literals → f ≡ opposite_of (get_or t.literals t.propagated 0)
    → u.propagated ≡ t.propagated → (u.propagated < length u.literals) × (f ≡ opposite_of (get_or u.literals u.propagated 0))
fallen-now t u e f h g p =
    let a : get_or u.literals t.propagated 0 ≡ get_or t.literals t.propagated 0 = sym (get_or-take (length t.literals) u.literals t.propagated 0 h)
    ∙ ap (λ (xs : List ℕ). get_or xs t.propagated 0) e.literals in
    (omega (arith, e.longer, h, p), g ∙ ap opposite_of (sym a) ∙ ap (λ (n : ℕ). opposite_of (get_or u.literals n 0)) (sym p))

pub watched-in : (v : ℕ) (c : Clause) → IsClause v c → (f : ℕ) → watches c f ≡ true → Contains c.literals f
watched-in v c i f h = elim (watches-cases c f h).1 [
  | inl e ↦ subst (λ (x : ℕ). Contains c.literals x) (sym e) i.first_in
  | inr e ↦ subst (λ (x : ℕ). Contains c.literals x) (sym e) i.second_in
]

pub beside-cases : (c : Clause) (f : ℕ) → ((c.first ≡ f) × (beside c f ≡ c.second)) ⊎ ((c.first ≢ f) × (beside c f ≡ c.first))
beside-cases c f = grind (arith, nat_tests)

pub beside-in : (v : ℕ) (c : Clause) → IsClause v c → (f : ℕ) → Contains c.literals (beside c f)
beside-in v c i f = elim (beside-cases c f) [
  | inl e ↦ subst (λ (x : ℕ). Contains c.literals x) (sym e.1) i.second_in
  | inr e ↦ subst (λ (x : ℕ). Contains c.literals x) (sym e.1) i.first_in
]

pub contains-one : (x y : ℕ) → Contains (x ∷ []) y → y ≡ x
contains-one x y (zero, h, e) = sym e
contains-one x y (suc k, h, e) = absurd (omega arith)

pub beside-apart : (v : ℕ) (c : Clause) → IsClause v c → (f next : ℕ) → Contains c.literals next → next ≢ beside c f → beside c f ≢ f
beside-apart v c i f next h ne g =
    elim (beside-cases c f) [
      | inl e ↦
          let s : c.first ≡ c.second = e.0 ∙ sym g ∙ e.1 in
          let n : next ≡ c.first = contains-one c.first next (subst (λ (ls : List ℕ). Contains ls next) (i.two s) h) in
          ne (n ∙ s ∙ sym e.1)
      | inr e ↦ e.0 (sym e.1 ∙ g)
    ]

pub beside-watched : (c : Clause) (f : ℕ) → c.kept ≡ true → watches c (beside c f) ≡ true
beside-watched c f h = elim (beside-cases c f) [ inl e ↦ ap (watches c) e.1 ∙ watches-second c h | inr e ↦ ap (watches c) e.1 ∙ watches-first c h ]

pub watches-neither : (c : Clause) (f : ℕ) → c.first ≢ f → c.second ≢ f → watches c f ≡ false
watches-neither c f h g = grind (arith, nat_tests)

pub sound-removed : (t : Trail) (cs : List Clause) (ws : List (List Watch)) → AreConsistent t cs ws → (f p : ℕ) (w : Watch) → f < length ws
    → p < length (listed ws f) → w ≡ get_or (listed ws f) p w → watches (at cs w.clause) f ≡ false
    → AreConsistent t cs (set ws f (without_place (listed ws f) p))
sound-removed t cs ws s f p w h pl r gone = record {
  lawful = s.lawful;
  linked = linked-remove t.variables cs ws s.linked f p w h pl r gone;
  guarded =
      s.guarded;
  reasoned = s.reasoned;
}

pub sound-forced : (t : Trail) (cs : List Clause) (ws : List (List Watch)) → AreConsistent t cs ws → (f k other : ℕ) → k < length cs → Watching cs f k other
    → AllFalseBut t (at cs k).literals other → IsTrail (pushed t other (Some k)) → AreConsistent (pushed t other (Some k)) cs ws
sound-forced t cs ws s f k other h w o u =
    let kept : (at cs k).kept ≡ true = (watches-cases (at cs k) f w.watching).0 in
    let i : IsClause t.variables (at cs k) = s.linked.clauses k h kept in
    let has : Contains (at cs k).literals other = subst (λ (x : ℕ). Contains (at cs k).literals x) (sym w.beside_it) (beside-in t.variables (at cs k) i f) in
    record {
      lawful = u;
      linked = record { lists = s.linked.lists; clauses = s.linked.clauses; entries = s.linked.entries; watching = s.linked.watching };
      guarded = guarded-pushed t cs s.lawful s.guarded other (Some k);
      reasoned = reasoned-pushed t cs s.lawful s.reasoned other k (record { there = h; kept = kept; has = has; others = o });
    }

-- the clause that was a unit now has a true literal
pub has_true-forced : (t : Trail) (cs : List Clause) (ws : List (List Watch)) → AreConsistent t cs ws → (f k other : ℕ) → k < length cs
    → Watching cs f k other → HasTrue (t.literals ++ other ∷ []) (at cs k)
has_true-forced t cs ws s f k other h w =
    let kept : (at cs k).kept ≡ true = (watches-cases (at cs k) f w.watching).0 in
    let i : IsClause t.variables (at cs k) = s.linked.clauses k h kept in
    record {
      literal = other;
      in_clause = subst (λ (x : ℕ). Contains (at cs k).literals x) (sym w.beside_it) (beside-in t.variables (at cs k) i f);
      is_true = Contains-push t.literals other;
    }

pub sound-moved : (t : Trail) (cs : List Clause) (ws : List (List Watch)) → AreConsistent t cs ws → (f k other next : ℕ) → k < length cs → next < length ws
    → Watching cs f k other → IsFound t (at cs k).literals other next
    → AreConsistent t (rewatched cs k other next) (set ws next (listed ws next ++ record { clause = k; blocker = other } ∷ []))
sound-moved t cs ws s f k other next h nl w n =
    let kept : (at cs k).kept ≡ true = (watches-cases (at cs k) f w.watching).0 in
    let i : IsClause t.variables (at cs k) = s.linked.clauses k h kept in
    let has : Contains (at cs k).literals other = subst (λ (x : ℕ). Contains (at cs k).literals x) (sym w.beside_it) (beside-in t.variables (at cs k) i f) in
    let new : Watch = record { clause = k; blocker = other } in
    let iw : IsWatch t.variables cs new = record {
      clause_there = h;
      blocker_in = has;
      blocker_within =
          All-contains (λ l. l < 2 * t.variables) (at cs k).literals other i.within has;
    } in
    let vs : List (List Watch) = set ws next (listed ws next ++ new ∷ []) in
    let pushed_in : AreLinked t.variables cs vs = linked-push t.variables cs ws s.linked next new nl iw in
    let watched : watches (at cs k) other ≡ true = ap (watches (at cs k)) w.beside_it ∙ beside-watched (at cs k) f kept in
    let lo : IsListed vs other k = listed-push ws next new nl other k (s.linked.watching k other h watched) in
    let ln : IsListed vs next k = listed-last ws next new nl in
    record {
      lawful = s.lawful;
      linked = linked-watch t.variables cs vs pushed_in k other next h has n.has (λ e. n.apart (sym e)) lo ln;
      guarded = guarded-rewatched t cs s.guarded k other next h watched n.not_false;
      reasoned = reasoned-same t cs (rewatched cs k other next) (same-rewatched cs k other next h) s.reasoned;
    }

-- no clause watches the fallen literal any more
pub moved-gone : (t : Trail) (cs : List Clause) (ws : List (List Watch)) → AreConsistent t cs ws → (f k other next : ℕ) → k < length cs
    → Watching cs f k other → IsFound t (at cs k).literals other next → next ≢ f → watches (at (rewatched cs k other next) k) f ≡ false
moved-gone t cs ws s f k other next h w n nf =
    let kept : (at cs k).kept ≡ true = (watches-cases (at cs k) f w.watching).0 in
    let i : IsClause t.variables (at cs k) = s.linked.clauses k h kept in
    let apart : other ≢ f = λ e. beside-apart t.variables (at cs k) i f next n.has (λ g. n.apart (g ∙ sym w.beside_it)) (sym w.beside_it ∙ e) in
    ap (λ (c : Clause). watches c f) (get_or-set_same cs k (record (at cs k) { first = other; second = next }) no_clause h)
    ∙ watches-neither (record (at cs k) { first = other; second = next }) f apart nf

-- a literal that isn't false isn't the fallen one
pub found-apart : (t : Trail) (f next : ℕ) → t.propagated < length t.literals → f ≡ opposite_of (get_or t.literals t.propagated 0)
    → (Contains t.literals (opposite_of next) → ⊥) → next ≢ f
found-apart t f next h e n g =
    n (
      t.propagated,
      h,
      get_or_default t.literals t.propagated (opposite_of next) 0 h
          ∙ sym (ap opposite_of (g ∙ e) ∙ opposite_of-opposite_of (get_or t.literals t.propagated 0)),
    )

pub conflict-found : (t : Trail) (cs : List Clause) (ws : List (List Watch)) → AreConsistent t cs ws → (f k : ℕ) → k < length cs
    → watches (at cs k) f ≡ true → ((x : ℕ) → Contains (at cs k).literals x → Contains t.literals (opposite_of x)) → t.propagated < length t.literals
    → f ≡ opposite_of (get_or t.literals t.propagated 0) → IsConflict t cs k
conflict-found t cs ws s f k h w a p e =
    let kept : (at cs k).kept ≡ true = (watches-cases (at cs k) f w).0 in
    let i : IsClause t.variables (at cs k) = s.linked.clauses k h kept in
    record {
      there = h;
      kept = kept;
      all_false = a;
      pending = p;
      at_pending = subst (λ (x : ℕ). Contains (at cs k).literals x) e
          (watched-in t.variables (at cs k) i f w);
    }

pub fallen-within : (t : Trail) (cs : List Clause) (ws : List (List Watch)) → AreConsistent t cs ws → (f : ℕ) → t.propagated < length t.literals
    → f ≡ opposite_of (get_or t.literals t.propagated 0) → f < length ws
fallen-within t cs ws s f h e =
    omega (arith, e, s.linked.lists, opposite_of-within (get_or t.literals t.propagated 0) t.variables (s.lawful.within t.propagated h))

-- the state after a watch was moved away from the fallen literal
pub record Moved (t : Trail) (cs : List Clause) (ws : List (List Watch)) (f place k other next : ℕ) (ds : List Clause) (vs : List (List Watch)) : Type 0 where
  pub sound : AreConsistent t ds vs
  pub same : AreSame cs ds
  pub visited : IsVisitedBelow t ds vs f place
  pub size : length (listed vs f) + 1 ≡ length (listed ws f)

abbrev pub moved_lists : List (List Watch) → (f place k other next : ℕ) → List (List Watch)
moved_lists ws f place k other next =
    let vs : List (List Watch) = set ws next (listed ws next ++ record { clause = k; blocker = other } ∷ []) in
    set vs f (without_place (listed vs f) place)

pub moved : (t : Trail) (cs : List Clause) (ws : List (List Watch)) → AreConsistent t cs ws → (f place : ℕ) (w : Watch) (k other next : ℕ)
    → place < length (listed ws f) → w ≡ get_or (listed ws f) place w → k ≡ w.clause → k < length cs → next < length ws → Watching cs f k other
    → IsFound t (at cs k).literals other next → t.propagated < length t.literals → f ≡ opposite_of (get_or t.literals t.propagated 0)
    → IsVisitedBelow t cs ws f place → Moved t cs ws f place k other next (rewatched cs k other next) (moved_lists ws f place k other next)
moved t cs ws s f place w k other next pl r e h nl wa fo p fe v =
    let nf : next ≢ f = found-apart t f next p fe fo.not_false in
    let fl : f < length ws = fallen-within t cs ws s f p fe in
    let us : List Watch = listed ws next ++ record { clause = k; blocker = other } ∷ [] in
    let vs : List (List Watch) = set ws next us in
    let same : listed vs f ≡ listed ws f = get_or-set_other ws next f us [] (λ g. nf (sym g)) in
    let fl' : f < length vs = omega (arith, fl, length-set ws next us) in
    let pl' : place < length (listed vs f) = subst (λ (xs : List Watch). place < length xs) (sym same) pl in
    let r' : w ≡ get_or (listed vs f) place w = r ∙ ap (λ (xs : List Watch). get_or xs place w) (sym same) in
    let gone : watches (at (rewatched cs k other next) k) f ≡ false = moved-gone t cs ws s f k other next h wa fo nf in
    record {
      sound = sound-removed t (rewatched cs k other next) vs (sound-moved t cs ws s f k other next h nl wa fo) f place w fl' pl' r'
          (ap (λ (n : ℕ). watches (at (rewatched cs k other next) n) f) (sym e) ∙ gone);
      same = same-rewatched cs k other next h;
      visited = visited-without t (rewatched cs k other next) vs f place fl' pl'
          (visited-lists t (rewatched cs k other next) ws vs f place same (visited-rewatched t cs ws f place k other next h gone v));
      size = ap (λ (xs : List Watch). length xs + 1) (listed-without vs f place fl') ∙ length-without_place (listed vs f) place pl' ∙ ap length same;
    }

pub entry-clause : (v : ℕ) (cs : List Clause) (ws : List (List Watch)) → AreLinked v cs ws → (f place : ℕ) (w : Watch) → place < length (listed ws f)
    → w ≡ get_or (listed ws f) place w → (k : ℕ) → k ≡ w.clause → k < length cs
entry-clause v cs ws s f place w pl r k e =
    let i : IsWatch v cs w = subst (λ (x : Watch). IsWatch v cs x) (sym r) (s.entries f place w pl) in
    omega (arith, i.clause_there, e)

pub found-within : (t : Trail) (cs : List Clause) (ws : List (List Watch)) → AreConsistent t cs ws → (f k other next : ℕ) → k < length cs
    → Watching cs f k other → IsFound t (at cs k).literals other next → next < length ws
found-within t cs ws s f k other next h w n =
    let kept : (at cs k).kept ≡ true = (watches-cases (at cs k) f w.watching).0 in
    let i : IsClause t.variables (at cs k) = s.linked.clauses k h kept in
    omega (arith, s.linked.lists, All-contains (λ l. l < 2 * t.variables) (at cs k).literals next i.within n.has)
