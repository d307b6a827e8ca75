-- A trail begins a level, and takes levels back.
use Rattle.std.proofs.Common.{
  ◌⊎◌,
  ◌≡◌,
  ◌≢◌,
  ℕ,
  ◌+◌,
  ◌/◌,
  ◌<◌,
  ◌≤◌,
  Option,
  None,
  inl,
  inr,
  arith,
  refl,
  sym,
  ◌∙◌,
  ap,
  List,
  [],
  ◌∷◌,
  ◌++◌,
  length,
  take,
  get_or,
  set,
  length-take-le,
  get_or-set_same,
  get_or-set_other,
  length-set,
}
use Rattle.std.specs.Vec.{with_item}
use Rattle.std.specs.Prelude.{Vec}
use Rattle.std.specs.declared.alloc.Global.{Global}
use Rattle.std.proofs.lemmas.List.{length_push, take_more_set, get_or_past, take-take}
use Rattle.std.proofs.lemmas.Bool.{cases_eq, cases_lt}
use Rattle.cdcl_literals.specs.Literals.{opposite_of}
use Rattle.cdcl_trail.specs.Trail.{Trail, pushed, decided, cut_to}
use Rattle.cdcl_trail.specs.helpers.Layout.{trail_of, IsLaidOut, StandsAt, IsPlaced, StartsWell}
use Rattle.cdcl_trail.specs.declared.trail.Value.{Value}
use Rattle.cdcl_trail.specs.declared.trail.Value.TheVariants.{Open}
use Rattle.cdcl_trail.specs.declared.trail.Trail.TheInside.{Inside}
use Rattle.cdcl_literals.proofs.Opposites.{opposite_of-half, same_half}
use Rattle.cdcl_trail.proofs.Trails.{at_take, pair_other, places_apart}

-- a trail whose next level begins at a place
abbrev pub begun_inside : Inside → ℕ → Inside
begun_inside b n = record {
  values = b.values;
  places = b.places;
  literals = b.literals;
  reasons = b.reasons;
  len = b.len;
  starts =
      with_item b.starts b.levels n;
  levels = b.levels + 1;
  propagated = b.propagated;
}

same_trail : (t u : Trail) → t.variables ≡ u.variables → t.literals ≡ u.literals → t.reasons ≡ u.reasons → t.starts ≡ u.starts
    → t.propagated ≡ u.propagated → t ≡ u
same_trail t u e0 e1 e2 e3 e4 = λ i. record { variables = e0 i; literals = e1 i; reasons = e2 i; starts = e3 i; propagated = e4 i }

-- the trail after a push, from memory before and after
pub record Grew (a b : Inside) : Type 0 where
  pub variables : length b.places.items ≡ length a.places.items
  pub len : b.len ≡ a.len + 1
  pub levels : b.levels ≡ a.levels
  pub propagated : b.propagated ≡ a.propagated
  pub starts : (i : ℕ) → i < a.levels → get_or b.starts.items i 0 ≡ get_or a.starts.items i 0

pub grew : (a b : Inside) → IsLaidOut a → IsLaidOut b → (l : ℕ) (r : Option ℕ) → trail_of b ≡ pushed (trail_of a) l r → Grew a b
grew a b s u l r e =
    let fa : a.len ≤ length a.literals.items = omega (arith, s.len_fits, s.literals_fit) in
    let fb : b.len ≤ length b.literals.items = omega (arith, u.len_fits, u.literals_fit) in
    let ga : a.levels ≤ length a.starts.items = omega (arith, s.levels_fit, s.len_fits, s.starts_fit) in
    let gb : b.levels ≤ length b.starts.items = omega (arith, u.levels_fit, u.len_fits, u.starts_fit) in
    let st : take b.levels b.starts.items ≡ take a.levels a.starts.items = ap (λ (t : Trail). t.starts) e in
    let lt : take b.len b.literals.items ≡ take a.len a.literals.items ++ l ∷ [] = ap (λ (t : Trail). t.literals) e in
    let lv : b.levels ≡ a.levels = sym (length-take-le b.levels b.starts.items gb) ∙ ap length st ∙ length-take-le a.levels a.starts.items ga in
    record {
      variables = ap (λ (t : Trail). t.variables) e;
      len = sym (length-take-le b.len b.literals.items fb) ∙ ap length lt ∙ length_push (take a.len a.literals.items) l
          ∙ ap (λ (x : ℕ). x + 1) (length-take-le a.len a.literals.items fa);
      levels = lv;
      propagated = ap (λ (t : Trail). t.propagated) e;
      starts = λ i h.
          sym (at_take b.starts.items b.levels i 0 0 gb (omega (arith, lv))) ∙ ap (λ (x : List ℕ). get_or x i 0) st
          ∙ at_take a.starts.items a.levels i 0 0 ga h;
    }

begun_starts : (a b : Inside) → IsLaidOut a → IsLaidOut b → Grew a b → a.propagated ≡ a.len → (k : ℕ) → k < b.levels + 1 → StartsWell (begun_inside b a.len) k
begun_starts a b s u g e k kl =
    let fits : b.levels < length b.starts.items = omega (arith, g.levels, s.levels_fit, g.len, u.len_fits, u.starts_fit) in
    let last : get_or (set b.starts.items b.levels a.len) b.levels 0 ≡ a.len = get_or-set_same b.starts.items b.levels a.len 0 fits in
    let other : (i : ℕ) → i ≢ b.levels → get_or (set b.starts.items b.levels a.len) i 0 ≡ get_or b.starts.items i 0 =
    λ i n. get_or-set_other b.starts.items b.levels i a.len 0 n in
    elim (cases_eq k b.levels) [
      | inl f ↦
          let z : get_or (set b.starts.items b.levels a.len) k 0 ≡ a.len = ap (λ (x : ℕ). get_or (set b.starts.items b.levels a.len) x 0) f ∙ last in
          record {
            high = omega (arith, z, g.levels, s.levels_fit);
            early = omega (arith, z, g.propagated, e);
            proper = omega (arith, z, g.len);
            after_others = λ i h.
                let n : i ≢ b.levels = omega arith in
                let il : i < a.levels = omega (arith, g.levels) in
                omega (arith, z, other i n, g.starts i il, (s.starts i il).proper);
          }
      | inr f ↦
          let kb : k < b.levels = omega arith in
          let t : StartsWell b k = u.starts k kb in
          let z = other k f in
          record {
            high = omega (arith, z, t.high);
            early = omega (arith, z, t.early);
            proper = omega (arith, z, t.proper);
            after_others = λ i h. let n : i ≢ b.levels = omega arith in omega (arith, z, other i n, t.after_others i h);
          }
    ]

pub sound_begun : (a b : Inside) → IsLaidOut a → IsLaidOut b → (l : ℕ) (r : Option ℕ) → trail_of b ≡ pushed (trail_of a) l r → a.propagated ≡ a.len
    → IsLaidOut (begun_inside b a.len)
sound_begun a b s u l r v e =
    let g = grew a b s u l r v in
    record {
      few = u.few;
      values_fit = u.values_fit;
      literals_fit = u.literals_fit;
      reasons_fit = u.reasons_fit;
      starts_fit = length-set b.starts.items b.levels a.len ∙ u.starts_fit;
      len_fits = u.len_fits;
      levels_fit = omega (arith, g.levels, g.len, s.levels_fit);
      propagated_fits = u.propagated_fits;
      stands = λ k kl. let t = u.stands k kl in record { within = t.within; true_there = t.true_there; false_there = t.false_there; known = t.known };
      placed = λ x w n. let t = u.placed x w n in record { on_trail = t.on_trail; there = t.there };
      starts = begun_starts a b s u g e;
    }

pub begun_view : (a b : Inside) → IsLaidOut a → IsLaidOut b → (l : ℕ) → trail_of b ≡ pushed (trail_of a) l None
    → trail_of (begun_inside b a.len) ≡ decided (trail_of a) l
begun_view a b s u l v =
    let g = grew a b s u l None v in
    let fits : b.levels < length b.starts.items = omega (arith, g.levels, s.levels_fit, g.len, u.len_fits, u.starts_fit) in
    let e0 : length b.places.items ≡ length a.places.items = ap (λ (t : Trail). t.variables) v in
    let e1 : take b.len b.literals.items ≡ take a.len a.literals.items ++ l ∷ [] = ap (λ (t : Trail). t.literals) v in
    let e2 : take b.len b.reasons.items ≡ take a.len a.reasons.items ++ None ∷ [] = ap (λ (t : Trail). t.reasons) v in
    let e3 : take b.levels b.starts.items ≡ take a.levels a.starts.items = ap (λ (t : Trail). t.starts) v in
    let e4 : b.propagated ≡ a.propagated = ap (λ (t : Trail). t.propagated) v in
    let e5 : take (b.levels + 1) (set b.starts.items b.levels a.len) ≡ take b.levels b.starts.items ++ a.len ∷ [] =
    take_more_set b.starts.items b.levels a.len fits in
    let e6 : length (take a.len a.literals.items) ≡ a.len = length-take-le a.len a.literals.items (omega (arith, s.len_fits, s.literals_fit)) in
    same_trail (trail_of (begun_inside b a.len)) (decided (trail_of a) l) e0 e1 e2
    (e5 ∙ ap (λ (x : List ℕ). x ++ a.len ∷ []) e3 ∙ ap (λ (x : ℕ). take a.levels a.starts.items ++ x ∷ []) (sym e6)) e4

-- the literals at the trail's places in a range become open, with their opposites; others keep
-- their values
pub record Opens (vs ws : List Value) (ls : List ℕ) (i k : ℕ) : Type 0 where
  pub length_same : length ws ≡ length vs
  pub opened : (x j : ℕ) → i ≤ j → j < k → get_or ls j 0 / 2 ≡ x / 2 → get_or ws x Open ≡ Open
  pub others : (x : ℕ) → ((j : ℕ) → i ≤ j → j < k → get_or ls j 0 / 2 ≢ x / 2) → get_or ws x Open ≡ get_or vs x Open
  pub from_open : (x : ℕ) → get_or vs x Open ≡ Open → get_or ws x Open ≡ Open

-- setting a value to open
set_open : (vs : List Value) (l x : ℕ) → ((x ≡ l) × (get_or (set vs l Open) x Open ≡ Open)) ⊎ ((x ≢ l) × (get_or (set vs l Open) x Open ≡ get_or vs x Open))
set_open vs l x =
    elim (cases_eq x l) [
      | inl e ↦ elim (cases_lt l (length vs)) [
        | inl h ↦ inl (e, ap (λ (y : ℕ). get_or (set vs l Open) y Open) e ∙ get_or-set_same vs l Open Open h)
        | inr h ↦ inl (e, get_or_past (set vs l Open) x Open (omega (arith, length-set vs l Open)))
      ]
      | inr e ↦ inr (e, get_or-set_other vs l x Open Open e)
    ]

keeps_open : (vs : List Value) (l x : ℕ) → get_or vs x Open ≡ Open → get_or (set vs l Open) x Open ≡ Open
keeps_open vs l x h = elim (set_open vs l x) [ inl e ↦ e.1 | inr e ↦ e.1 ∙ h ]

-- both literals of a variable are open once both are set
open_pair : (vs : List Value) (l m x : ℕ) → m ≡ opposite_of l → x / 2 ≡ l / 2 → get_or (set (set vs l Open) m Open) x Open ≡ Open
open_pair vs l m x em h =
    elim (same_half x l h) [
      | inl e ↦ keeps_open (set vs l Open) m x (elim (set_open vs l x) [ inl f ↦ f.1 | inr f ↦ absurd (f.0 e) ])
      | inr e ↦ elim (set_open (set vs l Open) m x) [ inl f ↦ f.1 | inr f ↦ absurd (f.0 (e ∙ sym em)) ]
    ]

pub opens_more : (vs ws : List Value) (ls : List ℕ) (i k l m : ℕ) → i ≤ k → l ≡ get_or ls k 0 → m ≡ opposite_of l → Opens vs ws ls i k
    → Opens vs (set (set ws l Open) m Open) ls i (k + 1)
opens_more vs ws ls i k l m ik el em o =
    record {
      length_same = length-set (set ws l Open) m Open ∙ length-set ws l Open ∙ o.length_same;
      opened = λ x j h jk e. elim (cases_eq j k) [
        | inl f ↦ open_pair ws l m x em (sym e ∙ ap (λ (y : ℕ). get_or ls y 0 / 2) f ∙ ap (λ (y : ℕ). y / 2) (sym el))
        | inr f ↦ keeps_open (set ws l Open) m x (keeps_open ws l x (o.opened x j h (omega arith) e))
      ];
      others = λ x h.
          pair_other ws l m Open Open x em (λ e. h k ik (omega arith) (ap (λ (y : ℕ). y / 2) (sym el) ∙ sym e)) ∙ o.others x (λ j hj jk. h j hj (omega arith));
      from_open = λ x e. keeps_open (set ws l Open) m x (keeps_open ws l x (o.from_open x e));
    }

-- a trail without its levels from one on, with other values
abbrev pub cut_inside : Inside → Vec Value Global → (n level : ℕ) → Inside
cut_inside a vs n level = record {
  values = vs;
  places = a.places;
  literals = a.literals;
  reasons = a.reasons;
  len = n;
  starts = a.starts;
  levels =
      level;
  propagated = n;
}

pub sound_cut : (a : Inside) → IsLaidOut a → (vs : Vec Value Global) (n level : ℕ) → level < a.levels → n ≡ get_or a.starts.items level 0
    → Opens a.values.items vs.items a.literals.items n a.len → IsLaidOut (cut_inside a vs n level)
sound_cut a s vs n level h e o =
    let t : StartsWell a level = s.starts level h in
    let far : (k : ℕ) → k < n → (x : ℕ) → x / 2 ≡ get_or a.literals.items k 0 / 2 → (j : ℕ) → n ≤ j → j < a.len → get_or a.literals.items j 0 / 2 ≢ x / 2 =
    λ k kn x ex j nj ja f. let z : j ≡ k = places_apart a s j k ja (omega (arith, t.proper, e)) (f ∙ ex) in omega arith in
    record {
      few = s.few;
      values_fit = o.length_same ∙ s.values_fit;
      literals_fit = s.literals_fit;
      reasons_fit = s.reasons_fit;
      starts_fit = s.starts_fit;
      len_fits = omega (arith, t.proper, e, s.len_fits);
      levels_fit = omega (arith, t.high, e);
      propagated_fits = omega arith;
      stands = λ k kn.
          let u : StandsAt a k = s.stands k (omega (arith, t.proper, e)) in
          record {
            within = u.within;
            true_there = o.others (get_or a.literals.items k 0) (far k kn (get_or a.literals.items k 0) refl) ∙ u.true_there;
            false_there = o.others (opposite_of (get_or a.literals.items k 0))
                (far k kn (opposite_of (get_or a.literals.items k 0)) (opposite_of-half (get_or a.literals.items k 0))) ∙ u.false_there;
            known = u.known;
          };
      placed = λ x w ne.
          let p : IsPlaced a x = s.placed x w (λ f. ne (o.from_open x f)) in
          let k : ℕ = get_or a.places.items (x / 2) 0 in
          elim (cases_lt k n) [
            | inl f ↦ record { on_trail = f; there = p.there }
            | inr f ↦ absurd (ne (o.opened x k f p.on_trail p.there))
          ];
      starts = λ k kl.
          let u : StartsWell a k = s.starts k (omega arith) in
          let z = t.after_others k kl in
          record { high = u.high; early = omega (arith, z, e); proper = omega (arith, z, e); after_others = u.after_others };
    }

pub cut_view : (a : Inside) → IsLaidOut a → (vs : Vec Value Global) (n level : ℕ) → level < a.levels → n ≡ get_or a.starts.items level 0
    → trail_of (cut_inside a vs n level) ≡ cut_to (trail_of a) level
cut_view a s vs n level h e =
    let t : StartsWell a level = s.starts level h in
    let na : n ≤ a.len = omega (arith, t.proper, e) in
    let f : get_or (take a.levels a.starts.items) level 0 ≡ n =
    at_take a.starts.items a.levels level 0 0 (omega (arith, s.levels_fit, s.len_fits, s.starts_fit)) h ∙ sym e in
    let e1 = take-take n a.len a.literals.items na in
    let e2 = take-take n a.len a.reasons.items na in
    let e3 = take-take level a.levels a.starts.items (omega arith) in
    same_trail (trail_of (cut_inside a vs n level)) (cut_to (trail_of a) level) refl
    (sym e1 ∙ ap (λ (x : ℕ). take x (take a.len a.literals.items)) (sym f))
    (sym e2 ∙ ap (λ (x : ℕ). take x (take a.len a.reasons.items)) (sym f))
    (sym e3) (sym f)

pub level_within : (a : Inside) → IsLaidOut a → (t : Trail) → trail_of a ≡ t → (k : ℕ) → k < length t.starts → k < a.levels
level_within a s t e k h =
    let f : length (take a.levels a.starts.items) ≡ length t.starts = ap (λ (t : Trail). length t.starts) e in
    omega (arith, f, h, length-take-le a.levels a.starts.items (omega (arith, s.levels_fit, s.len_fits, s.starts_fit)))
