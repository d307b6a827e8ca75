-- Literals true before the first level stay true, and so do unit clauses.
use Rattle.std.proofs.Common.{◌≡◌, ℕ, ◌<◌, ◌≤◌, Option, true, List, [], ◌∷◌, ◌++◌, length, take, get_or, inl, inr, sym, ◌∙◌, ap, subst, arith, get_or-take}
use Rattle.std.specs.Prelude.{Contains}
use Rattle.std.proofs.lemmas.Bool.{cases_eq}
use Rattle.std.proofs.lemmas.List.{get_or_default, length_push, length-take, length-take-le, take-append-le, take_all}
use Rattle.std.proofs.lemmas.List.Elements.{Contains-push}
use Rattle.cdcl_trail.specs.Trail.{Trail, IsTrail, pushed, decided, cut_to}
use Rattle.cdcl_clauses.specs.Clauses.{Clause, at, kept_clause}
use Rattle.cdcl_clauses.specs.Invariants.{IsClause, AreConsistent, AreSame, AreRooted, Extends, root_of}
use Rattle.cdcl_clauses.specs.declared.watches.Watch.{Watch}
use Rattle.cdcl_steps.specs.Attached.{CanAssert}
use Rattle.cdcl_steps.proofs.OneMore.{at-push}
use Rattle.cdcl_propagate.proofs.Visiting.{contains-one}

pub only : (xs : List ℕ) (a x : ℕ) → xs ≡ a ∷ [] → Contains xs x → x ≡ a
only xs a x e c = contains-one a x (subst (λ (ys : List ℕ). Contains ys x) e c)

contains-prefix : (xs ys : List ℕ) (m n x : ℕ) → take (length xs) ys ≡ xs → m ≤ n → Contains (take m xs) x → Contains (take n ys) x
contains-prefix xs ys m n x e mn (k, h, f) =
    let km : k < m = omega (arith, h, length-take m xs) in
    let kx : k < length xs = omega (arith, h, length-take m xs) in
    let longer : length xs ≤ length ys = omega (arith, ap length e, length-take (length xs) ys) in
    let kn : k < n = omega arith in (
      k,
      omega (arith, length-take n ys),
      get_or-take n ys k x kn ∙ sym (get_or-take (length xs) ys k x kx) ∙ ap (λ (zs : List ℕ). get_or zs k x) e ∙ sym (get_or-take m xs k x km) ∙ f,
    )

contains-shorter : (xs : List ℕ) (m n p x : ℕ) → m ≤ n → m ≤ p → Contains (take m xs) x → Contains (take p (take n xs)) x
contains-shorter xs m n p x mn mp (k, h, f) =
    let km : k < m = omega (arith, h, length-take m xs) in
    let kx : k < length xs = omega (arith, h, length-take m xs) in
    let kn : k < n = omega arith in
    let kp : k < p = omega arith in (
      k,
      omega (arith, length-take p (take n xs), length-take n xs),
      get_or-take p (take n xs) k x kp ∙ get_or-take n xs k x kn ∙ sym (get_or-take m xs k x km) ∙ f,
    )

first_start : (ss : List ℕ) (a b : ℕ) → a ≤ b → get_or ss 0 a ≤ get_or ss 0 b
first_start [] a b h = h
first_start (s ∷ ss) a b h = omega arith

first_start-push : (ss : List ℕ) (n b : ℕ) → get_or ss 0 n ≤ get_or (ss ++ n ∷ []) 0 b
first_start-push [] n b = omega arith
first_start-push (s ∷ ss) n b = omega arith

pub root-extends : (t u : Trail) → Extends t u → (x : ℕ) → Contains (root_of t) x → Contains (root_of u) x
root-extends t u e x c =
    let m : ℕ = get_or t.starts 0 (length t.literals) in
    let n : ℕ = get_or u.starts 0 (length u.literals) in
    let f : n ≡ get_or t.starts 0 (length u.literals) = ap (λ (ss : List ℕ). get_or ss 0 (length u.literals)) e.starts in
    let mn : m ≤ n = omega (arith, f, first_start t.starts (length t.literals) (length u.literals) e.longer) in
    contains-prefix t.literals u.literals m n x e.literals mn c

prefix-push : (xs : List ℕ) (l : ℕ) → take (length xs) (xs ++ l ∷ []) ≡ xs
prefix-push xs l = take-append-le (length xs) xs (l ∷ []) (omega arith) ∙ take_all (length xs) xs (omega arith)

pub root-decided : (t : Trail) (l x : ℕ) → Contains (root_of t) x → Contains (root_of (decided t l)) x
root-decided t l x c =
    contains-prefix t.literals (t.literals ++ l ∷ []) (get_or t.starts 0 (length t.literals))
    (get_or (t.starts ++ length t.literals ∷ []) 0 (length (t.literals ++ l ∷ []))) x (prefix-push t.literals l)
    (first_start-push t.starts (length t.literals) (length (t.literals ++ l ∷ []))) c

pub root-pushed : (t : Trail) (l : ℕ) (r : Option ℕ) (x : ℕ) → Contains (root_of t) x → Contains (root_of (pushed t l r)) x
root-pushed t l r x c =
    contains-prefix t.literals (t.literals ++ l ∷ []) (get_or t.starts 0 (length t.literals)) (get_or t.starts 0 (length (t.literals ++ l ∷ []))) x
    (prefix-push t.literals l) (first_start t.starts (length t.literals) (length (t.literals ++ l ∷ [])) (omega (arith, length_push t.literals l))) c

pub root-pushed_new : (t : Trail) (l : ℕ) (r : Option ℕ) → t.starts ≡ [] → Contains (root_of (pushed t l r)) l
root-pushed_new t l r e =
    let n : ℕ = length (t.literals ++ l ∷ []) in
    let f : get_or t.starts 0 n ≡ n = ap (λ (ss : List ℕ). get_or ss 0 n) e in
    let g : take (get_or t.starts 0 n) (t.literals ++ l ∷ []) ≡ t.literals ++ l ∷ [] = ap (λ (m : ℕ). take m (t.literals ++ l ∷ [])) f
    ∙ take_all n (t.literals ++ l ∷ []) (omega arith) in
    subst (λ (xs : List ℕ). Contains xs l) (sym g) (Contains-push t.literals l)

pub root-cut : (t : Trail) → IsTrail t → (level : ℕ) → level < length t.starts → (x : ℕ) → Contains (root_of t) x → Contains (root_of (cut_to t level)) x
root-cut t u level h x c =
    let n : ℕ = get_or t.starts level 0 in
    let d : ℕ = length (take n t.literals) in
    let m : ℕ = get_or t.starts 0 (length t.literals) in
    let p : ℕ = get_or (take level t.starts) 0 d in
    let m0 : m ≡ get_or t.starts 0 0 = get_or_default t.starts 0 (length t.literals) 0 (omega arith) in
    let size : d ≡ n = length-take-le n t.literals (omega (arith, u.starts_proper level h)) in
    let both : (m ≤ n) × (m ≤ p) = elim (cases_eq level 0) [
      | inl e ↦
          let f : n ≡ get_or t.starts 0 0 = ap (λ (i : ℕ). get_or t.starts i 0) e in
          let g : p ≡ d = ap (λ (i : ℕ). get_or (take i t.starts) 0 d) e in
          (omega (arith, m0, f), omega (arith, m0, f, g, size))
      | inr e ↦
          let z : 0 < level = omega (arith, e) in
          let g : p ≡ get_or t.starts 0 d = get_or-take level t.starts 0 d z in
          let i : get_or t.starts 0 d ≡ get_or t.starts 0 0 = get_or_default t.starts 0 d 0 (omega arith) in
          (omega (arith, m0, u.starts_rise 0 level z h), omega (arith, m0, g, i))
    ] in
    contains-shorter t.literals m n p x both.0 both.1 c

-- a unit clause was one before
pub record WasSingle (c d : Clause) : Type 0 where
  pub single : c.first ≡ c.second
  pub first : c.first ≡ d.first

single-same : (v w : ℕ) (c d : Clause) → d.literals ≡ c.literals → IsClause v c → IsClause w d → d.first ≡ d.second → WasSingle c d
single-same v w c d e ic id f =
    let one : c.literals ≡ d.first ∷ [] = sym e ∙ id.two f in
    let a : c.first ≡ d.first = only c.literals d.first c.first one ic.first_in in
    let b : c.second ≡ d.first = only c.literals d.first c.second one ic.second_in in
    record { single = a ∙ sym b; first = a }

pub rooted-same : (t : Trail) (cs : List Clause) (ws : List (List Watch)) (u : Trail) (ds : List Clause) (vs : List (List Watch)) → AreConsistent t cs ws
    → AreConsistent u ds vs → AreSame cs ds → ((x : ℕ) → Contains (root_of t) x → Contains (root_of u) x) → AreRooted t cs → AreRooted u ds
rooted-same t cs ws u ds vs a b e m r k kl kept f =
    let kc : k < length cs = omega (arith, kl, e.count) in
    let keptc : (at cs k).kept ≡ true = sym (e.kept k) ∙ kept in
    let s = single-same t.variables u.variables (at cs k) (at ds k) (e.literals k) (a.linked.clauses k kc keptc) (b.linked.clauses k kl kept) f in
    m (at ds k).first (subst (λ (x : ℕ). Contains (root_of t) x) s.first (r k kc keptc s.single))

pub rooted-cut : (t : Trail) (cs : List Clause) → IsTrail t → (level : ℕ) → level < length t.starts → AreRooted t cs → AreRooted (cut_to t level) cs
rooted-cut t cs u level h r k kl kept f = root-cut t u level h (at cs k).first (r k kl kept f)

pub rooted-attach : (t : Trail) (cs : List Clause) (ls : List ℕ) (a b : ℕ) → CanAssert t ls a b → (r : Option ℕ) → AreRooted t cs
    → AreRooted (pushed t a r) (cs ++ kept_clause ls a b ∷ [])
rooted-attach t cs ls a b can r old k kl kept f =
    elim (at-push cs (kept_clause ls a b) k kl) [
      | inl e ↦
          let fa : (at (cs ++ kept_clause ls a b ∷ []) k).first ≡ a = ap (λ (c : Clause). c.first) e.1 in
          let fb : (at (cs ++ kept_clause ls a b ∷ []) k).second ≡ b = ap (λ (c : Clause). c.second) e.1 in
          subst (λ (x : ℕ). Contains (root_of (pushed t a r)) x) (sym fa) (root-pushed_new t a r (can.root (sym fb ∙ sym f ∙ fa)))
      | inr e ↦ root-pushed t a r (at (cs ++ kept_clause ls a b ∷ []) k).first
          (subst (λ (c : Clause). Contains (root_of t) c.first) (sym e.1)
          (old k e.0 (sym (ap (λ (c : Clause). c.kept) e.1) ∙ kept) (subst (λ (c : Clause). c.first ≡ c.second) e.1 f)))
    ]
