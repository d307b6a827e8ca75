-- Used clauses, and met places that are resolved with their reasons.
use Rattle.std.proofs.Common.{◌≡◌, ◌≢◌, ℕ, ◌+◌, ◌/◌, ◌<◌, ◌≤◌, ◌⊎◌, Bool, true, false, Some, None, cond, List, [], ◌∷◌, ◌++◌, length, take, get_or, set, reverse, inl, inr, sym, ◌∙◌, ap, subst, arith, length-set, get_or-take, get_or-set_same}
use Rattle.std.specs.Prelude.{Contains, IsSome}
use Rattle.std.proofs.lemmas.Bool.{cases_eq, cases_lt, some_since}
use Rattle.std.proofs.lemmas.List.{take_more, reverse-append, length-take, get_or_default, get_or_past}
use Rattle.std.proofs.lemmas.List.Elements.{Contains-push, Contains-push_cases, Contains-append_left, Contains-get_or}
use Rattle.std.proofs.lemmas.Option.{MatchOption-at_some}
use Rattle.cdcl_literals.specs.Literals.{opposite_of}
use Rattle.cdcl_literals.proofs.Opposites.{opposite_of-half}
use Rattle.cdcl_trail.proofs.Opposites.{not-both}
use Rattle.cdcl_trail.specs.Trail.{Trail, IsTrail}
use Rattle.cdcl_clauses.specs.Clauses.{Clause, at}
use Rattle.cdcl_clauses.specs.Invariants.{IsReason, BeginsAt, AreReasoned}
use Rattle.cdcl_learn.specs.Shown.{Forces, Leads}
use Rattle.cdcl_learn.specs.helpers.Analyses.{IsMet, Marks, Meets, Suffices, Resolves, Tallies, open_from}
use Rattle.cdcl_learn.proofs.Counting.{met-set, open_from-set, open_from-set_below}

pub meets_more : (t : Trail) → IsTrail t → (a b c : List Bool) (ls : List ℕ) (i p : ℕ) → i < length ls → p < length t.literals
    → get_or t.literals p 0 / 2 ≡ get_or ls i 0 / 2 → Meets t a b (take i ls) → Marks b c p → Meets t a c (take (i + 1) ls)
meets_more t u a b c ls i p il pl e s m =
    let g : take (i + 1) ls ≡ take i ls ++ get_or ls i 0 ∷ [] = take_more ls i 0 il in
    subst (λ (xs : List ℕ). Meets t a c xs) (sym g) (record {
      all = λ x q cx ql f. elim (Contains-push_cases (take i ls) (get_or ls i 0) x cx) [
        | inl d ↦ m.kept q (s.all x q d ql f)
        | inr d ↦ let z : q ≡ p = u.apart q p ql pl (f ∙ ap (λ (y : ℕ). y / 2) (sym d) ∙ sym e) in subst (λ (n : ℕ). IsMet c n) (sym z) m.this
      ];
      kept = λ q h. m.kept q (s.kept q h);
      only = λ q h. elim (m.only q h) [
        | inl d ↦ elim (s.only q d) [ inl f ↦ inl f | inr f ↦ inr (f.0, Contains-append_left (take i ls) (get_or ls i 0 ∷ []) f.0 f.1, f.2) ]
        | inr d ↦ inr (get_or ls i 0, Contains-push (take i ls) (get_or ls i 0), ap (λ (n : ℕ). get_or t.literals n 0 / 2) d ∙ e)
      ];
    })

-- one more hint in front
pub leads-cons : (cs : List Clause) (given : List ℕ) (h l : ℕ) (hs : List ℕ) → Forces cs given h l → Leads cs (given ++ l ∷ []) hs → Leads cs given (h ∷ hs)
leads-cons cs given h l [] f r = absurd r
leads-cons cs given h l (g ∷ hs) f r = (l, f, r)

pub reverse-push : (hs : List ℕ) (h : ℕ) → reverse (hs ++ h ∷ []) ≡ h ∷ reverse hs
reverse-push hs h = reverse-append hs (h ∷ [])

-- after resolving a place with its reason, the hints still suffice
pub suffices-resolve : (t : Trail) → IsTrail t → (cs : List Clause) (a b c : List Bool) (hs : List ℕ) (p k : ℕ) → p < length t.literals → IsMet a p
    → IsReason cs (take p t.literals) (get_or t.literals p 0) k → Meets t a b (at cs k).literals → ((q : ℕ) → q ≢ p → IsMet b q → IsMet c q)
    → Suffices t cs a hs → Suffices t cs c (hs ++ k ∷ [])
suffices-resolve t u cs a b c hs p k pl mp r m kept s given on all =
    let l : ℕ = get_or t.literals p 0 in
    let need : (x : ℕ) → Contains (at cs k).literals x → x ≢ l → Contains given (opposite_of x) =
    λ x cx ne. (
    let (q, ql, e) = r.others x cx ne in
    let qp : q < p = omega (arith, length-take p t.literals) in
    let ql' : q < length t.literals = omega arith in
    let f : get_or t.literals q 0 ≡ opposite_of x = get_or_default t.literals q 0 (opposite_of x) ql'
    ∙ sym (get_or-take p t.literals q (opposite_of x) qp) ∙ e in
    let mq : IsMet b q = m.all x q cx ql' (ap (λ (y : ℕ). y / 2) f ∙ opposite_of-half x) in
    subst (λ (y : ℕ). Contains given y) f (all q (kept q (omega arith) mq))) in
    let forces : Forces cs given k l = record {
      there = r.there;
      kept = r.kept;
      has = r.has;
      others = need;
      not_false =
          λ g. not-both t u l (Contains-get_or t.literals p 0 pl) (on (opposite_of l) g);
    } in
    let more : Leads cs (given ++ l ∷ []) (reverse hs) = s (given ++ l ∷ [])
    (λ x cx. elim (Contains-push_cases given l x cx) [
      | inl d ↦ on x d
      | inr d ↦ subst (λ (y : ℕ). Contains t.literals y) d (Contains-get_or t.literals p 0 pl)
    ])
    (λ q mq. elim (cases_eq q p) [
      | inl d ↦ subst (λ (n : ℕ). Contains (given ++ l ∷ []) (get_or t.literals n 0)) (sym d) (Contains-push given l)
      | inr d ↦ Contains-append_left given (l ∷ []) (get_or t.literals q 0) (all q (kept q d (m.kept q mq)))
    ]) in
    rw (reverse-push hs k) (leads-cons cs given k l (reverse hs) forces more)

-- the hints suffice for the conflict itself
pub suffices-start : (t : Trail) (cs : List Clause) (a b : List Bool) (k : ℕ) → k < length cs → (at cs k).kept ≡ true
    → ((x : ℕ) → Contains (at cs k).literals x → Contains t.literals (opposite_of x)) → Meets t a b (at cs k).literals → Suffices t cs b (k ∷ [])
suffices-start t cs a b k h kept f m given on all =
    record {
      there = h;
      kept = kept;
      all_false = λ x cx. (
          let (q, ql, e) = f x cx in
          let g : get_or t.literals q 0 ≡ opposite_of x = get_or_default t.literals q 0 (opposite_of x) ql ∙ e in
          subst (λ (y : ℕ). Contains given y) g (all q (m.all x q cx ql (ap (λ (y : ℕ). y / 2) g ∙ opposite_of-half x))));
    }

counted : (met : List Bool) (base p : ℕ) → p < length met → base ≤ p → IsMet met p → (m n : ℕ) → m + 1 ≡ n → n ≡ open_from met base
    → m ≡ open_from (set met p false) base
counted met base p h l mp m n e f =
    let g : open_from (set met p false) base + cond (get_or met p false) 1 0 ≡ open_from met base + cond false 1 0 = open_from-set met base p false h l in
    let one_more : ℕ = 1 in
    let i : cond (get_or met p false) 1 0 ≡ one_more = ap (λ (b : Bool). let n : ℕ = cond b 1 0 in n) mp in
    omega (arith, e, f, g, i)

-- the counts after a place isn't met any more
pub tallies-resolve : (t : Trail) (met : List Bool) (n root base : ℕ) (ls : List ℕ) → Tallies t met n root base ls → (p : ℕ) → p < length met
    → IsMet met p → (p < root) ⊎ (base ≤ p) → (m : ℕ) → ((base ≤ p) → m + 1 ≡ n) → (p < base → m ≡ n) → Tallies t (set met p false) m root base ls
tallies-resolve t met n root base ls s p h mp side m up down =
    record {
      size = length-set met p false ∙ s.size;
      count = elim (cases_lt p base) [
        | inl d ↦ down d ∙ s.count ∙ sym (open_from-set_below met base p false d)
        | inr d ↦ counted met base p h d mp m n (up d) s.count
      ];
      taken = λ q rq qb mq. elim (met-set met p q false h) [
        | inl d ↦ absurd (let g : false ≡ true = sym d.1 ∙ mq in cc)
        | inr d ↦ s.taken q rq qb (sym d.1 ∙ mq)
      ];
      from_places = s.from_places;
    }

pub reason_of : (t : Trail) (cs : List Clause) → AreReasoned t cs → (p k : ℕ) → p < length t.literals → get_or t.reasons p None ≡ Some k
    → IsReason cs (take p t.literals) (get_or t.literals p 0) k
reason_of t cs s p k h e = MatchOption-at_some (BeginsAt t p) (IsReason cs (take p t.literals) (get_or t.literals p 0)) k e (s p h)

pub reason_there : (t : Trail) (cs : List Clause) (p k : ℕ) → p < length t.literals → IsReason cs (take p t.literals) (get_or t.literals p 0) k
    → (x : ℕ) → Contains (at cs k).literals x → Contains t.literals x ⊎ Contains t.literals (opposite_of x)
reason_there t cs p k h r x c =
    elim (cases_eq x (get_or t.literals p 0)) [
      | inl e ↦ inl (subst (λ (y : ℕ). Contains t.literals y) (sym e) (Contains-get_or t.literals p 0 h))
      | inr e ↦ inr (let (q, ql, f) = r.others x c e in
          let qp : q < p = omega (arith, length-take p t.literals) in
          (q, omega (arith, length-take p t.literals), sym (get_or-take p t.literals q (opposite_of x) qp) ∙ f))
    ]

pub met_within : (b : List Bool) (q : ℕ) → IsMet b q → {n : ℕ} → length b ≡ n → q < n
met_within b q h {n} e = elim (cases_lt q n) [ inl d ↦ d | inr d ↦ absurd (let g : false ≡ true = sym (get_or_past b q false (omega (arith, e))) ∙ h in cc) ]

before : (t : Trail) → IsTrail t → (cs : List Clause) (p k : ℕ) → p < length t.literals → IsReason cs (take p t.literals) (get_or t.literals p 0) k
    → (q x : ℕ) → Contains (at cs k).literals x → get_or t.literals q 0 / 2 ≡ x / 2 → q ≢ p → q < length t.literals → q < p
before t u cs p k pl r q x c e ne ql =
    elim (cases_eq x (get_or t.literals p 0)) [
      | inl d ↦ absurd (ne (u.apart q p ql pl (e ∙ ap (λ (y : ℕ). y / 2) d)))
      | inr d ↦
          let (i, il, f) = r.others x c d in
          let ip : i < p = omega (arith, length-take p t.literals) in
          let il' : i < length t.literals = omega arith in
          let g : get_or t.literals i 0 ≡ opposite_of x = get_or_default t.literals i 0 (opposite_of x) il'
          ∙ sym (get_or-take p t.literals i (opposite_of x) ip) ∙ f in
          let z : q ≡ i = u.apart q i ql il' (e ∙ sym (ap (λ (y : ℕ). y / 2) g ∙ opposite_of-half x)) in
          omega arith
    ]

-- newly met places are before the resolved one
pub resolves-set : (t : Trail) → IsTrail t → (cs : List Clause) (a b : List Bool) (p k : ℕ) → p < length t.literals → p < length b
    → IsReason cs (take p t.literals) (get_or t.literals p 0) k → length b ≡ length t.literals → Meets t a b (at cs k).literals → Resolves a (set b p false) p
resolves-set t u cs a b p k pl pb r size m =
    record {
      gone = get_or-set_same b p false false pb;
      only = λ q h. elim (met-set b p q false pb) [
        | inl d ↦ absurd (let g : false ≡ true = sym d.1 ∙ h in cc)
        | inr d ↦ elim (m.only q (sym d.1 ∙ h)) [
          | inl f ↦ inl f
          | inr f ↦ inr (before t u cs p k pl r q f.0 f.1 f.2 d.0 (met_within b q (sym d.1 ∙ h) size))
        ]
      ];
      kept = λ q ne h. elim (met-set b p q false pb) [ inl d ↦ absurd (ne d.0) | inr d ↦ d.1 ∙ m.kept q h ];
    }

pub reason_some : (t : Trail) (cs : List Clause) → AreReasoned t cs → (p : ℕ) → p < length t.literals → (BeginsAt t p → ⊥) → IsSome (get_or t.reasons p None)
reason_some t cs s p h f = some_since (get_or t.reasons p None) (BeginsAt t p) (IsReason cs (take p t.literals) (get_or t.literals p 0)) (s p h) f
