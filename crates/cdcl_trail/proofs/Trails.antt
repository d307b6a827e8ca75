-- The trail stored in memory, and how it grows.
use Rattle.std.proofs.Common.{
  ◌≡◌,
  ◌≢◌,
  ℕ,
  ◌+◌,
  ◌*◌,
  ◌/◌,
  ◌<◌,
  ◌≤◌,
  ◌⊎◌,
  Option,
  inl,
  inr,
  arith,
  sym,
  ◌∙◌,
  ap,
  subst,
  List,
  [],
  ◌∷◌,
  ◌++◌,
  length,
  take,
  get_or,
  set,
  length-take-le,
  get_or-take,
  get_or-set_same,
  get_or-set_other,
  eqb,
  true,
  false,
  length-set,
  map,
  zero,
  suc,
}
use Rattle.std.specs.Prelude.{Contains}
use Rattle.std.specs.List.{list_any}
use Rattle.std.proofs.lemmas.Map.Views.{Contains-from_any}
use Rattle.std.specs.Vec.{with_item}
use Rattle.std.proofs.lemmas.List.{get_or_read, get_or_default, length-map, get_or-map, take_more_set}
use Rattle.std.proofs.lemmas.Bool.{cases_eq}
use Rattle.std.proofs.lemmas.Bool.Decides.{eqb_tells}
use Rattle.std.proofs.lemmas.Map.Keys.{IsDistinct-from_apart}
use Rattle.std.proofs.lemmas.Map.Steps.{length-le_from_distinct_below}
use Rattle.cdcl_literals.specs.Literals.{opposite_of}
use Rattle.cdcl_trail.specs.Trail.{Trail, Is, IsOpen, IsTrail, pushed}
use Rattle.cdcl_trail.specs.helpers.Layout.{trail_of, IsLaidOut, StandsAt, IsPlaced}
use Rattle.cdcl_trail.specs.declared.trail.Value.{Value}
use Rattle.cdcl_trail.specs.declared.trail.Value.TheVariants.{Open, True, False}
use Rattle.cdcl_trail.specs.declared.trail.Trail.TheInside.{Inside}
use Rattle.cdcl_literals.proofs.Opposites.{opposite_of-within, opposite_of-half, opposite_of-apart, opposite_of-opposite_of, same_half}

pub at_take : {X : Type 0} (xs : List X) (n k : ℕ) (d e : X) → n ≤ length xs → k < n → get_or (take n xs) k d ≡ get_or xs k e
at_take xs n k d e h l = get_or-take n xs k d l ∙ get_or_default xs k d e (omega arith)

-- an element of the first `n` has a place among them
pub place_from_contains : (xs : List ℕ) (n x : ℕ) → n ≤ length xs → Contains (take n xs) x → (k : ℕ) × (k < n) × (get_or xs k 0 ≡ x)
place_from_contains xs n x h (k, l, e) = let m : k < n = omega (arith, length-take-le n xs h) in (k, m, sym (at_take xs n k x 0 h m) ∙ e)

pub contains_from_place : (xs : List ℕ) (n k x : ℕ) → n ≤ length xs → k < n → get_or xs k 0 ≡ x → Contains (take n xs) x
contains_from_place xs n k x h l e = (k, omega (arith, length-take-le n xs h), at_take xs n k x 0 h l ∙ e)

pub tells : (a : Inside) → IsLaidOut a → (l : ℕ) → l < 2 * length a.places.items → (v : Value) → get_or a.values.items l Open ≡ v → Is (trail_of a) l v
tells a s l w True e =
    let p : IsPlaced a l = s.placed l w (λ q. cc) in
    let k : ℕ = get_or a.places.items (l / 2) 0 in
    let t : StandsAt a k = s.stands k p.on_trail in
    let fits : a.len ≤ length a.literals.items = omega (arith, s.len_fits, s.literals_fit) in
    elim (same_half (get_or a.literals.items k 0) l p.there) [
      | inl f ↦ record {
        there = contains_from_place a.literals.items a.len k l fits p.on_trail f;
        not_false = λ h. (let (i, m, q) = place_from_contains a.literals.items a.len (opposite_of l) fits h in
            let g : get_or a.values.items l Open ≡ False = ap (λ (x : ℕ). get_or a.values.items x Open) (sym (opposite_of-opposite_of l)
            ∙ ap opposite_of (sym q)) ∙ (s.stands i m).false_there in cc);
      }
      | inr f ↦ absurd (let g : get_or a.values.items l Open ≡ False = ap (λ (x : ℕ). get_or a.values.items x Open) (sym (opposite_of-opposite_of l)
          ∙ ap opposite_of (sym f)) ∙ t.false_there in cc)
    ]
tells a s l w False e =
    let p : IsPlaced a l = s.placed l w (λ q. cc) in
    let k : ℕ = get_or a.places.items (l / 2) 0 in
    let t : StandsAt a k = s.stands k p.on_trail in
    let fits : a.len ≤ length a.literals.items = omega (arith, s.len_fits, s.literals_fit) in
    elim (same_half (get_or a.literals.items k 0) l p.there) [
      | inl f ↦ absurd (let g : get_or a.values.items l Open ≡ True = ap (λ (x : ℕ). get_or a.values.items x Open) (sym f) ∙ t.true_there in cc)
      | inr f ↦ contains_from_place a.literals.items a.len k (opposite_of l) fits p.on_trail f
    ]
tells a s l w Open e =
    let fits : a.len ≤ length a.literals.items = omega (arith, s.len_fits, s.literals_fit) in
    record {
      not_true = λ h. (let (k, m, f) = place_from_contains a.literals.items a.len l fits h
          in let g : get_or a.values.items l Open ≡ True = ap (λ (x : ℕ). get_or a.values.items x Open) (sym f) ∙ (s.stands k m).true_there in cc);
      not_false = λ h. (let (k, m, f) = place_from_contains a.literals.items a.len (opposite_of l) fits h in
          let g : get_or a.values.items l Open ≡ False = ap (λ (x : ℕ). get_or a.values.items x Open) (sym (opposite_of-opposite_of l)
          ∙ ap opposite_of (sym f)) ∙ (s.stands k m).false_there in cc);
    }

-- the recorded place of a variable has a true literal of it
pub known_place : (a : Inside) → IsLaidOut a → (l : ℕ) → Contains (take a.len a.literals.items) l
    ⊎ Contains (take a.len a.literals.items) (opposite_of l) → (get_or a.places.items (l / 2) 0 < a.len)
    × (get_or a.literals.items (get_or a.places.items (l / 2) 0) 0 / 2 ≡ l / 2)
known_place a s l (inl h) =
    let fits : a.len ≤ length a.literals.items = omega (arith, s.len_fits, s.literals_fit) in
    let (k, m, f) = place_from_contains a.literals.items a.len l fits h in
    let g : get_or a.places.items (l / 2) 0 ≡ k = ap (λ (x : ℕ). get_or a.places.items (x / 2) 0) (sym f) ∙ (s.stands k m).known in
    (omega arith, ap (λ (x : ℕ). get_or a.literals.items x 0 / 2) g ∙ ap (λ (x : ℕ). x / 2) f)
known_place a s l (inr h) =
    let fits : a.len ≤ length a.literals.items = omega (arith, s.len_fits, s.literals_fit) in
    let (k, m, f) = place_from_contains a.literals.items a.len (opposite_of l) fits h in
    let i : get_or a.literals.items k 0 / 2 ≡ l / 2 = ap (λ (x : ℕ). x / 2) f ∙ opposite_of-half l in
    let g : get_or a.places.items (l / 2) 0 ≡ k = ap (λ (x : ℕ). get_or a.places.items x 0) (sym i) ∙ (s.stands k m).known in
    (omega arith, ap (λ (x : ℕ). get_or a.literals.items x 0 / 2) g ∙ i)

-- two places with the same variable are the same
pub places_apart : (a : Inside) → IsLaidOut a → (i k : ℕ) → i < a.len → k < a.len → get_or a.literals.items i 0 / 2 ≡ get_or a.literals.items k 0 / 2 → i ≡ k
places_apart a s i k il kl e = sym (s.stands i il).known ∙ ap (λ (x : ℕ). get_or a.places.items x 0) e ∙ (s.stands k kl).known

equal_from : (a b : ℕ) → eqb a b ≡ true → a ≡ b
equal_from a b h = elim (eqb_tells a b) [ inl e ↦ e.1 | inr e ↦ absurd (let f = e.0 in cc) ]

not_equal : (a b : ℕ) → a ≢ b → eqb a b ≡ false
not_equal a b h = elim (eqb_tells a b) [ inl e ↦ absurd (h e.1) | inr e ↦ e.0 ]

-- these variables are all different
apart_at : (a : Inside) → IsLaidOut a → (l : ℕ) (halves : List ℕ) → length halves ≡ a.len
    → ((i : ℕ) (d : ℕ) → i < a.len → get_or halves i d ≡ get_or a.literals.items i 0 / 2)
    → ((i : ℕ) → i < a.len → get_or a.literals.items i 0 / 2 ≢ l / 2) → (i j : ℕ) (d : ℕ) → i < j → j < length (l / 2 ∷ halves)
    → eqb (get_or (l / 2 ∷ halves) i d) (get_or (l / 2 ∷ halves) j d) ≡ false
apart_at a s l halves size read fresh zero zero d ij jl = absurd (omega arith)
apart_at a s l halves size read fresh zero (suc j) d ij jl =
    not_equal (l / 2) (get_or halves j d) (λ e. fresh j (omega (arith, size)) (sym (e ∙ read j d (omega (arith, size)))))
apart_at a s l halves size read fresh (suc i) zero d ij jl = absurd (omega arith)
apart_at a s l halves size read fresh (suc i) (suc j) d ij jl =
    let il : i < a.len = omega (arith, size) in
    let jl' : j < a.len = omega (arith, size) in
    not_equal (get_or halves i d) (get_or halves j d) (λ e. let f : i ≡ j = places_apart a s i j il jl' (sym (read i d il) ∙ e ∙ read j d jl') in omega arith)

-- each of these variables exists
below_at : (a : Inside) → IsLaidOut a → (l : ℕ) → l < 2 * length a.places.items → (halves : List ℕ) → length halves ≡ a.len
    → ((i : ℕ) (d : ℕ) → i < a.len → get_or halves i d ≡ get_or a.literals.items i 0 / 2) → (q : ℕ) → Contains (l / 2 ∷ halves) q → q < length a.places.items
below_at a s l w halves size read q (zero, kl, e) = omega arith
below_at a s l w halves size read q (suc k, kl, e) =
    let il : k < a.len = omega (arith, size) in
    let f : get_or a.literals.items k 0 / 2 ≡ q = sym (read k q il) ∙ e in
    omega (arith, (s.stands k il).within, f)

-- an open literal's variable isn't on the trail
pub fresh_half : (a : Inside) → IsLaidOut a → (l : ℕ) → IsOpen (trail_of a) l → (i : ℕ) → i < a.len → get_or a.literals.items i 0 / 2 ≢ l / 2
fresh_half a s l o i il e =
    let fits : a.len ≤ length a.literals.items = omega (arith, s.len_fits, s.literals_fit) in
    elim (same_half (get_or a.literals.items i 0) l e) [
      | inl f ↦ o.not_true (contains_from_place a.literals.items a.len i l fits il f)
      | inr f ↦ o.not_false (contains_from_place a.literals.items a.len i (opposite_of l) fits il f)
    ]

-- if a variable is open, the trail has fewer literals than variables
pub room : (a : Inside) → IsLaidOut a → (l : ℕ) → l < 2 * length a.places.items → IsOpen (trail_of a) l → a.len < length a.places.items
room a s l w o =
    let fits : a.len ≤ length a.literals.items = omega (arith, s.len_fits, s.literals_fit) in
    let n : ℕ = length a.places.items in
    let halves : List ℕ = map (λ (x : ℕ). x / 2) (take a.len a.literals.items) in
    let size : length halves ≡ a.len = length-map (take a.len a.literals.items) (λ (x : ℕ). x / 2) ∙ length-take-le a.len a.literals.items fits in
    let read : (i : ℕ) (d : ℕ) → i < a.len → get_or halves i d ≡ get_or a.literals.items i 0 / 2 =
    λ i d il. get_or-map (λ (x : ℕ). x / 2) (take a.len a.literals.items) i 0 d (omega (arith, length-take-le a.len a.literals.items fits))
    ∙ ap (λ (x : ℕ). x / 2) (at_take a.literals.items a.len i 0 0 fits il) in
    let all : List ℕ = l / 2 ∷ halves in
    let apart : (i j : ℕ) (d : ℕ) → i < j → j < length all → eqb (get_or all i d) (get_or all j d) ≡ false =
    λ i j d ij jl. apart_at a s l halves size read (fresh_half a s l o) i j d ij jl in
    let below : (q : ℕ) → list_any (eqb q) all ≡ true → q < n = λ q h. below_at a s l w halves size read q (Contains-from_any {eq = eqb} equal_from q all h) in
    let bound : length all ≤ n = length-le_from_distinct_below all n (IsDistinct-from_apart eqb all apart) below in
    omega (arith, bound, size)

known_here : (a : Inside) → IsLaidOut a → (l v p : ℕ) → v ≡ l / 2 → p ≡ get_or a.places.items v p → l < 2 * length a.places.items
    → Contains (take a.len a.literals.items) l ⊎ Contains (take a.len a.literals.items) (opposite_of l) → (p < length (take a.len a.literals.items))
    × (get_or (take a.len a.literals.items) p 0 / 2 ≡ l / 2)
known_here a s l v p ve r w h =
    let fits : a.len ≤ length a.literals.items = omega (arith, s.len_fits, s.literals_fit) in
    let k = known_place a s l h in
    let q : p ≡ get_or a.places.items (l / 2) 0 = get_or_read a.places.items (l / 2) p (omega arith) (r ∙ ap (λ (x : ℕ). get_or a.places.items x p) ve) 0 in
    let pl : p < a.len = omega (arith, k.0, q) in (
      omega (arith, pl, length-take-le a.len a.literals.items fits),
      ap (λ (x : ℕ). x / 2) (at_take a.literals.items a.len p 0 0 fits pl)
          ∙ ap (λ (x : ℕ). get_or a.literals.items x 0 / 2) q ∙ k.1,
    )

-- the recorded place of a variable, by the trail
pub known_at : (a : Inside) → IsLaidOut a → (t : Trail) → trail_of a ≡ t → (l v p : ℕ) → v ≡ l / 2 → l < 2 * t.variables
    → Contains t.literals l ⊎ Contains t.literals (opposite_of l) → p ≡ get_or a.places.items v p
    → (p < length t.literals) × (get_or t.literals p 0 / 2 ≡ l / 2)
known_at a s t e l v p ve w h r =
    subst (λ (t : Trail). l < 2 * t.variables → Contains t.literals l ⊎ Contains t.literals (opposite_of l)
    → (p < length t.literals) × (get_or t.literals p 0 / 2 ≡ l / 2)) e (known_here a s l v p ve r) w h

-- a record list that is one longer
pub grown : {X : Type 0} (xs : List X) (n : ℕ) (x : X) → n < length xs → take (n + 1) (set xs n x) ≡ take n xs ++ x ∷ []
grown xs n x h = take_more_set xs n x h

-- the values of another variable's literals
pub pair_other : (vs : List Value) (l m : ℕ) (v w : Value) (x : ℕ) → m ≡ opposite_of l → x / 2 ≢ l / 2 → get_or (set (set vs l v) m w) x Open ≡ get_or vs x Open
pair_other vs l m v w x em h =
    let p : x ≢ m = λ e. h (ap (λ (y : ℕ). y / 2) (e ∙ em) ∙ opposite_of-half l) in
    let q : x ≢ l = λ e. h (ap (λ (y : ℕ). y / 2) e) in
    get_or-set_other (set vs l v) m x w Open p ∙ get_or-set_other vs l x v Open q

pub pair_first : (vs : List Value) (l m : ℕ) (v w : Value) → m ≡ opposite_of l → l < length vs → get_or (set (set vs l v) m w) l Open ≡ v
pair_first vs l m v w em h =
    let p : l ≢ m = λ e. opposite_of-apart l (sym (e ∙ em)) in
    get_or-set_other (set vs l v) m l w Open p ∙ get_or-set_same vs l v Open h

pub pair_second : (vs : List Value) (l m : ℕ) (v w : Value) → m < length vs → get_or (set (set vs l v) m w) m Open ≡ w
pair_second vs l m v w h = get_or-set_same (set vs l v) m w Open (omega (arith, length-set vs l v))

-- a stored trail with one more literal
abbrev pub pushed_inside : Inside → (l m h : ℕ) → Option ℕ → Inside
pushed_inside a l m h reason = record {
  values = with_item (with_item a.values l True) m False;
  places = with_item a.places h a.len;
  literals = with_item a.literals a.len l;
  reasons = with_item a.reasons a.len reason;
  len = a.len + 1;
  starts = a.starts;
  levels = a.levels;
  propagated = a.propagated;
}

pushed_stands : (a : Inside) → IsLaidOut a → (l m h : ℕ) (reason : Option ℕ) → m ≡ opposite_of l → h ≡ l / 2 → l < 2 * length a.places.items
    → IsOpen (trail_of a) l → a.len < length a.places.items → (k : ℕ) → k < a.len → StandsAt (pushed_inside a l m h reason) k
pushed_stands a s l m h reason em eh w o r k kl =
    let t : StandsAt a k = s.stands k kl in
    let y : ℕ = get_or a.literals.items k 0 in
    let vs : List Value = set (set a.values.items l True) m False in
    let ne : k ≢ a.len = omega arith in
    let e : get_or (set a.literals.items a.len l) k 0 ≡ y = get_or-set_other a.literals.items a.len k l 0 ne in
    let far : y / 2 ≢ l / 2 = fresh_half a s l o k kl in
    let far' : opposite_of y / 2 ≢ l / 2 = λ f. far (sym (opposite_of-half y) ∙ f) in
    let far'' : y / 2 ≢ h = λ f. far (f ∙ eh) in
    record {
      within = omega (arith, e, t.within, length-set a.places.items h a.len);
      true_there = ap (λ (x : ℕ). get_or vs x Open) e ∙ pair_other a.values.items l m True False y em far ∙ t.true_there;
      false_there = ap (λ (x : ℕ). get_or vs (opposite_of x) Open) e ∙ pair_other a.values.items l m True False (opposite_of y) em far' ∙ t.false_there;
      known = ap (λ (x : ℕ). get_or (set a.places.items h a.len) (x / 2) 0) e ∙ get_or-set_other a.places.items h (y / 2) a.len 0 far'' ∙ t.known;
    }

pushed_stands_last : (a : Inside) → IsLaidOut a → (l m h : ℕ) (reason : Option ℕ) → m ≡ opposite_of l → h ≡ l / 2 → l < 2 * length a.places.items
    → a.len < length a.places.items → StandsAt (pushed_inside a l m h reason) a.len
pushed_stands_last a s l m h reason em eh w r =
    let vs : List Value = set (set a.values.items l True) m False in
    let e : get_or (set a.literals.items a.len l) a.len 0 ≡ l = get_or-set_same a.literals.items a.len l 0 (omega (arith, s.literals_fit)) in
    let lf : l < length a.values.items = omega (arith, s.values_fit) in
    let mf : m < length a.values.items = omega (arith, s.values_fit, em, opposite_of-within l (length a.places.items) w) in
    record {
      within = omega (arith, e, length-set a.places.items h a.len);
      true_there = ap (λ (x : ℕ). get_or vs x Open) e ∙ pair_first a.values.items l m True False em lf;
      false_there = ap (λ (x : ℕ). get_or vs (opposite_of x) Open) e ∙ ap (λ (x : ℕ). get_or vs x Open) (sym em) ∙ pair_second a.values.items l m True False mf;
      known = ap (λ (x : ℕ). get_or (set a.places.items h a.len) (x / 2) 0) e ∙ ap (λ (x : ℕ). get_or (set a.places.items h a.len) x 0) (sym eh)
          ∙ get_or-set_same a.places.items h a.len 0 (omega (arith, eh));
    }

pushed_placed : (a : Inside) → IsLaidOut a → (l m h : ℕ) (reason : Option ℕ) → m ≡ opposite_of l → h ≡ l / 2 → l < 2 * length a.places.items
    → a.len < length a.places.items → (x : ℕ) → x < 2 * length a.places.items → get_or (set (set a.values.items l True) m False) x Open ≢ Open
    → IsPlaced (pushed_inside a l m h reason) x
pushed_placed a s l m h reason em eh w r x xw ne =
    elim (cases_eq (x / 2) (l / 2)) [
      | inl e ↦
          let f : get_or (set a.places.items h a.len) (x / 2) 0 ≡ a.len = ap (λ (y : ℕ). get_or (set a.places.items h a.len) y 0) (e ∙ sym eh)
          ∙ get_or-set_same a.places.items h a.len 0 (omega (arith, eh)) in
          let g : get_or (set a.literals.items a.len l) a.len 0 ≡ l = get_or-set_same a.literals.items a.len l 0 (omega (arith, s.literals_fit)) in
          record { on_trail = omega (arith, f); there = ap (λ (y : ℕ). get_or (set a.literals.items a.len l) y 0 / 2) f ∙ ap (λ (y : ℕ). y / 2) g ∙ sym e }
      | inr e ↦
          let q : get_or a.values.items x Open ≢ Open = λ f. ne (pair_other a.values.items l m True False x em e ∙ f) in
          let p : IsPlaced a x = s.placed x xw q in
          let k : ℕ = get_or a.places.items (x / 2) 0 in
          let e' : x / 2 ≢ h = λ f. e (f ∙ eh) in
          let f : get_or (set a.places.items h a.len) (x / 2) 0 ≡ k = get_or-set_other a.places.items h (x / 2) a.len 0 e' in
          let n : k ≢ a.len = omega (arith, p.on_trail) in
          record {
            on_trail = omega (arith, f, p.on_trail);
            there = ap (λ (y : ℕ). get_or (set a.literals.items a.len l) y 0 / 2) f
                ∙ ap (λ (y : ℕ). y / 2) (get_or-set_other a.literals.items a.len k l 0 n) ∙ p.there;
          }
    ]

pub sound_pushed : (a : Inside) → IsLaidOut a → (l m h : ℕ) (reason : Option ℕ) → m ≡ opposite_of l → h ≡ l / 2 → l < 2 * length a.places.items
    → IsOpen (trail_of a) l → IsLaidOut (pushed_inside a l m h reason)
sound_pushed a s l m h reason em eh w o =
    let r : a.len < length a.places.items = room a s l w o in
    record {
      few = omega (arith, s.few, length-set a.places.items h a.len);
      values_fit = simp length-set s.values_fit;
      literals_fit = simp length-set s.literals_fit;
      reasons_fit = simp length-set s.reasons_fit;
      starts_fit = simp length-set s.starts_fit;
      len_fits = omega (arith, r, length-set a.places.items h a.len);
      levels_fit = omega (arith, s.levels_fit);
      propagated_fits = omega (arith, s.propagated_fits);
      stands = λ k kl. elim (cases_eq k a.len) [
        | inl e ↦ subst (λ (j : ℕ). StandsAt (pushed_inside a l m h reason) j) (sym e) (pushed_stands_last a s l m h reason em eh w r)
        | inr e ↦ pushed_stands a s l m h reason em eh w o r k (omega arith)
      ];
      placed = λ x xw ne. pushed_placed a s l m h reason em eh w r x (omega (arith, length-set a.places.items h a.len)) ne;
      starts = λ k kl. let t = s.starts k kl in record { high = t.high; early = t.early; proper = omega (arith, t.proper); after_others = t.after_others };
    }

pub pushed_view : (a : Inside) → IsLaidOut a → (l m h : ℕ) (reason : Option ℕ) → l < 2 * length a.places.items → IsOpen (trail_of a) l
    → trail_of (pushed_inside a l m h reason) ≡ pushed (trail_of a) l reason
pushed_view a s l m h reason w o =
    let r : a.len < length a.places.items = room a s l w o in
    let e = length-set a.places.items h a.len in
    let f = take_more_set a.literals.items a.len l (omega (arith, s.literals_fit)) in
    let g = take_more_set a.reasons.items a.len reason (omega (arith, s.reasons_fit)) in
    cc

-- a stored trail is a trail
pub lawful : (a : Inside) → IsLaidOut a → IsTrail (trail_of a)
lawful a s =
    let f : a.len ≤ length a.literals.items = omega (arith, s.len_fits, s.literals_fit) in
    let g : a.levels ≤ length a.starts.items = omega (arith, s.levels_fit, s.len_fits, s.starts_fit) in
    let n : length (take a.len a.literals.items) ≡ a.len = length-take-le a.len a.literals.items f in
    let m : length (take a.levels a.starts.items) ≡ a.levels = length-take-le a.levels a.starts.items g in
    let at : (k : ℕ) → k < a.len → get_or (take a.len a.literals.items) k 0 ≡ get_or a.literals.items k 0 = λ k h. at_take a.literals.items a.len k 0 0 f h in
    let start : (k : ℕ) → k < a.levels → get_or (take a.levels a.starts.items) k 0 ≡ get_or a.starts.items k 0 =
    λ k h. at_take a.starts.items a.levels k 0 0 g h in
    record {
      few = omega (arith, n, s.len_fits);
      reasons_fit = length-take-le a.len a.reasons.items (omega (arith, s.len_fits, s.reasons_fit)) ∙ sym n;
      within = λ k h. let k' : k < a.len = omega (arith, n) in omega (arith, at k k', (s.stands k k').within);
      apart = λ i k il kl e.
          let i' : i < a.len = omega (arith, n) in
          let k' : k < a.len = omega (arith, n) in
          places_apart a s i k i' k' (ap (λ (x : ℕ). x / 2) (sym (at i i')) ∙ e ∙ ap (λ (x : ℕ). x / 2) (at k k'));
      propagated_fits = omega (arith, n, s.propagated_fits);
      starts_early = λ k h. let k' : k < a.levels = omega (arith, m) in omega (arith, start k k', (s.starts k k').early);
      starts_proper = λ k h. let k' : k < a.levels = omega (arith, m) in omega (arith, n, start k k', (s.starts k k').proper);
      starts_rise = λ i k ik h.
          let k' : k < a.levels = omega (arith, m) in
          let i' : i < a.levels = omega arith in
          omega (arith, start i i', start k k', (s.starts k k').after_others i ik);
    }
