-- From one state of a search to the next.
use Rattle.std.proofs.Common.{◌≡◌, ℕ, ◌+◌, ◌*◌, ◌^◌, ◌<◌, ◌≤◌, List, [], ◌∷◌, ◌++◌, length, take, get_or, set, length-set, sym, ◌∙◌, ap, subst}
use Rattle.std.proofs.Common.{inl, inr, arith, get_or-take}
use Rattle.std.specs.Prelude.{Contains, All}
use Rattle.std.proofs.lemmas.Bool.Decides.{nat_tests}
use Rattle.std.proofs.lemmas.List.{get_or_default, length-take, length-take-le, take-take, take_all}
use Rattle.cnf_core.specs.Clauses.{Formula}
use Rattle.refute_check.specs.declared.line.TheConstants.{LINES}
use Rattle.cdcl_literals.specs.Literals.{opposite_of}
use Rattle.cdcl_trail.specs.Trail.{Trail, IsTrail, cut_to}
use Rattle.cdcl_clauses.specs.Clauses.{Clause, listed}
use Rattle.cdcl_clauses.specs.declared.watches.Watch.{Watch}
use Rattle.std.proofs.lemmas.List.Elements.{All-contains}
use Rattle.cdcl_steps.proofs.cdcl_propagate.Guarding.{contains-take}
use Rattle.cdcl_learn.specs.Shown.{Leads, Shows}
use Rattle.cdcl_learn.specs.Lessons.{TurnsBack}
use Rattle.cdcl_steps.specs.Attached.{CanAssert, both_listed}
use Rattle.cdcl_lines.proofs.Members.{all-from_contains, contains-cases}
use Rattle.cdcl_trail.proofs.Opposites.{not-both}
use Rattle.cdcl_core.specs.helpers.States.{IsAsFar, IsFurther, IsShort, IsLive, ComesTo}
use Rattle.cdcl_core.specs.declared.state.State.{State}
use Rattle.cdcl_core.specs.declared.turns.Step.{Step}
use Rattle.cdcl_core.specs.declared.turns.Step.TheVariants as steps

-- hints name existing clauses
leads-there : (cs : List Clause) (hs : List ℕ) (given : List ℕ) → Leads cs given hs → (h : ℕ) → Contains hs h → h < length cs
leads-there cs [] given s h c = absurd s
leads-there cs (x ∷ []) given s h c =
    elim (contains-cases x [] h c) [
      | inl e ↦ subst (λ (n : ℕ). n < length cs) e s.there
      | inr d ↦ absurd (omega (arith, d.1))
    ]
leads-there cs (x ∷ y ∷ hs) given (l, f, more) h c =
    elim (contains-cases x (y ∷ hs) h c) [
      | inl e ↦ subst (λ (n : ℕ). n < length cs) e f.there
      | inr d ↦ leads-there cs (y ∷ hs) (given ++ l ∷ []) more h d
    ]

pub hints-within : (cs : List Clause) (ls hs : List ℕ) → Shows cs ls hs → length cs + 1 < 2 ^ 32 → All (λ h. h + 1 < 2 ^ 32) hs
hints-within cs ls hs s few = all-from_contains (λ h. h + 1 < 2 ^ 32) hs
    (λ h c. omega (arith, leads-there cs hs _ s h c, few))

within-opposite : (l v : ℕ) → opposite_of l < 2 * v → l < 2 * v
within-opposite l v h = grind (arith, nat_tests)

-- false literals are within the variables
pub false-within : (t : Trail) → IsTrail t → (ls : List ℕ) → All (λ x. Contains t.literals (opposite_of x)) ls → All (λ l. l < 2 * t.variables) ls
false-within t u ls s k d h =
    let (p, pl, e) = s k d h in
    let w : get_or t.literals p 0 < 2 * t.variables = u.within p pl in
    within-opposite (get_or ls k d) t.variables (subst (λ (x : ℕ). x < 2 * t.variables) (get_or_default t.literals p 0 (opposite_of (get_or ls k d)) pl ∙ e) w)

-- a learnt clause can be asserted at the level to which the search goes back
pub can-assert : (t : Trail) → IsTrail t → (ls : List ℕ) → All (λ x. Contains t.literals (opposite_of x)) ls → (level a b : ℕ) → TurnsBack t ls level a b
    → CanAssert (cut_to t level) ls a b
can-assert t u ls s level a b g =
    let n : ℕ = get_or t.starts level 0 in
    let early : n ≤ length t.literals = omega (arith, u.starts_proper level g.level_within) in
    record {
      propagated = sym (length-take-le n t.literals early);
      within = false-within t u ls s;
      has = g.has;
      opens = record {
        not_true = λ c. not-both t u a (contains-take t.literals n a c) g.was_false;
        not_false = g.opens;
      };
      others = g.others;
      beside_in = g.beside_in;
      single = g.single;
      root = λ e. ap (λ (i : ℕ). take i t.starts) (g.root e);
      high = λ i il ne c.
          let il' : i < level = omega (arith, il, length-take level t.starts) in
          let m : ℕ = get_or t.starts i 0 in
          let mn : m ≤ n = omega (arith, u.starts_rise i level il' g.level_within) in
          let same : get_or (take level t.starts) i 0 ≡ m = get_or-take level t.starts i 0 il' in
          let e : take (get_or (take level t.starts) i 0) (take n t.literals) ≡ take m t.literals = ap (λ (k : ℕ). take k (take n t.literals)) same
          ∙ take-take m n t.literals mn in
          g.high i il' ne (subst (λ (xs : List ℕ). Contains xs (opposite_of b)) e c);
    }

pub further-none : (s t : State) → IsAsFar s t → IsFurther s t 0
further-none s t a = record {
  formula = a.formula;
  derivation = ap (take (length s.derivation)) a.derivation ∙ take_all (length s.derivation) s.derivation (omega arith);
  longer = omega (arith, ap length a.derivation);
  added = omega (arith, a.added);
}

pub further-trans : (s t u : State) (m n : ℕ) → IsFurther s t m → IsFurther t u n → IsFurther s u (m + n)
further-trans s t u m n a b = record {
  formula = b.formula ∙ a.formula;
  derivation = sym (take-take (length s.derivation) (length t.derivation) u.derivation a.longer) ∙ ap (take (length s.derivation)) b.derivation ∙ a.derivation;
  longer = omega (arith, a.longer, b.longer);
  added = omega (arith, a.added, b.added);
}

pub short-after : (s t u : State) (m n k : ℕ) → IsFurther s t m → IsShort t u n → m + n ≤ k → IsShort s u k
short-after s t u m n k a b h = record { count = m + b.count; few = omega (arith, b.few, h); further = further-trans s t u m b.count a b.further }

pub far-further : (s t u : State) (n : ℕ) → IsFurther s t n → IsAsFar t u → IsFurther s u n
far-further s t u n a b =
    subst (λ (k : ℕ). IsFurther s u k) (let e : n + 0 ≡ n = omega arith in e) (further-trans s t u n 0 a (further-none t u b))

-- the parts are the same, except the count until the next restart
pub live-with : (s : State) → IsLive s → (t : State) → t.trail ≡ s.trail → t.clauses ≡ s.clauses → t.watches ≡ s.watches → t.activity ≡ s.activity
    → t.formula ≡ s.formula → t.derivation ≡ s.derivation → t.added ≡ s.added → t.deleted ≡ s.deleted → IsLive t
live-with s h t a b c d e f g i = record {
  sound = rw (a, b, c) h.sound;
  rooted = rw (a, b) h.rooted;
  variables = ap (λ (x : Trail). x.variables) a ∙ h.variables ∙ sym (ap (λ (x : Formula). x.vars) e);
  activity = d ∙ h.activity ∙ sym (ap (λ (x : Formula). x.vars) e);
  agree = rw (e, b, f, g, i) h.agree;
}

-- there is room for one more clause
pub record HasRoom (s : State) : Type 0 where
  pub lines : length s.derivation < LINES
  pub clauses : length s.clauses + 1 < 2 ^ 32

pub has-room : (s : State) → IsLive s → HasRoom s
has-room s h = record { lines = omega (arith, h.agree.short, h.agree.many, h.agree.half); clauses = omega (arith, h.agree.count, h.agree.given, h.agree.many) }

-- a literal of a clause to assert has a list of watches
pub listed-within : (s : State) → IsLive s → (ls : List ℕ) → All (λ l. l < 2 * s.trail.variables) ls → (a : ℕ) → Contains ls a → a < length s.watches
listed-within s h ls w a c = omega (arith, All-contains (λ l. l < 2 * s.trail.variables) ls a w c, h.sound.linked.lists)

pub both-length : (ws : List (List Watch)) (k a b : ℕ) → length (both_listed ws k a b) ≡ length ws
both-length ws k a b =
    let us : List (List Watch) = set ws a (listed ws a ++ record { clause = k; blocker = b } ∷ []) in
    length-set us b (listed us b ++ record { clause = k; blocker = a } ∷ []) ∙ length-set ws a (listed ws a ++ record { clause = k; blocker = b } ∷ [])

pub comes-further : (s t u : State) (n : ℕ) (p : Step) → IsFurther s t 0 → ComesTo t u n p → ComesTo s u n p
comes-further s t u n steps.Learnt a h = (h.0, subst (λ (k : ℕ). IsFurther s u k) (let e : 0 + n ≡ n = omega arith in e) (further-trans s t u 0 n a h.1))
comes-further s t u n steps.Closed a h = (h.0, short-after s t u 0 n n a h.1 (omega arith))
comes-further s t u n (steps.Full values) a h = (h.0, short-after s t u 0 n n a h.1 (omega arith), h.2)
