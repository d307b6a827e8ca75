-- Fronts of a text: signs and names.
use Rattle.std.proofs.Common.{
  ◌≡◌,
  ◌≢◌,
  ◌<◌,
  ◌≤◌,
  ◌+◌,
  ◌-◌,
  ℕ,
  zero,
  suc,
  Bool,
  true,
  false,
  ltb,
  leb,
  eqb,
  cond,
  List,
  [],
  ◌∷◌,
  ◌++◌,
  length,
  Option,
  Some,
  None,
  refl,
  sym,
  ap,
  ◌∙◌,
  arith,
  Bor,
  append_assoc,
  inl,
  inr,
  ◌⊎◌,
  subst,
}
use Rattle.std.specs.Prelude.{MatchOption, option_map, codes}
use Rattle.std.specs.List.{list_all, flat_map}
use Rattle.std.specs.Fmt.{decimal}
use Rattle.std.proofs.lemmas.Bool.{and_parts, and_from, le-leb, leb-true, lt-leb, ltb-true, cases_Bool, cond-true, cond-false, eqb-true, eq-eqb, ne_eqb}
use Rattle.std.proofs.lemmas.List.{length-append, append-nil}
use Rattle.std.proofs.lemmas.List.Concat.{flat_map-cons}
use Rattle.std.proofs.lemmas.Option.{same_Some, none-some}
use Rattle.tc_base.specs.Names.{Name, name_text}
use Rattle.tc_limits.specs.declared.limits.TheConstants.{DEPTH}
use Rattle.schedule_file.specs.Schedules.{is_child, is_name}
use Rattle.schedule_file.specs.helpers.Reading.{◌>>=◌, behind, where_dot, with_child, children_at, name_at}
use Rattle.schedule_file.proofs.Lists.{bind_some}
use Rattle.tc_decimal.specs.Decimals.{number_at}
use Rattle.tc_decimal.proofs.Decimals.{ends_number, front_again, front_is, IsFront}

behind_both : (f b : ℕ) (o : Option (List ℕ)) (rest : List ℕ) → cond (eqb f b) o None ≡ Some rest → (f ≡ b) × (o ≡ Some rest)
behind_both f b o rest e =
    elim (cases_Bool (eqb f b)) [
      | inl h ↦ (eqb-true f b h, sym (cond-true (eqb f b) o None h) ∙ e)
      | inr h ↦ absurd (none-some rest (sym (cond-false (eqb f b) o None h) ∙ e))
    ]

none_from : {A : Type 0} (o : Option A) → ((x : A) → o ≡ Some x → ⊥) → o ≡ None
none_from None h = refl
none_from (Some x) h = absurd (h x refl)

pub behind_takes : (front bytes rest : List ℕ) → behind front bytes ≡ Some rest → bytes ≡ front ++ rest
behind_takes [] bytes rest e = same_Some _ _ e
behind_takes (f ∷ front) [] rest e = absurd cc
behind_takes (f ∷ front) (b ∷ bytes) rest e =
    let g = behind_both f b (behind front bytes) rest e in
    let others = behind_takes front bytes rest g.1 in
    cc

pub behind_again : (front rest : List ℕ) → behind front (front ++ rest) ≡ Some rest
behind_again [] rest = refl
behind_again (f ∷ front) rest = cond-true (eqb f f) _ _ (eq-eqb f f refl) ∙ behind_again front rest

pub behind_none : (front bytes : List ℕ) → ((rest : List ℕ) → bytes ≢ front ++ rest) → behind front bytes ≡ None
behind_none front bytes h = none_from (behind front bytes) (λ rest e. h rest (behind_takes front bytes rest e))

pub behind_is : (front bytes : List ℕ) (r : Option (Bor (List ℕ))) → MatchOption r ((rest : List ℕ) → bytes ≢ front ++ rest) (λ x. bytes ≡ front ++ x.now)
    → option_map (λ (x : Bor (List ℕ)). x.now) r ≡ behind front bytes
behind_is front bytes None h = sym (behind_none front bytes h)
behind_is front bytes (Some x) h = sym (ap (behind front) h ∙ behind_again front x.now)

-- the text of a name's children
abbrev pub children_text : Name → List ℕ
children_text ks = flat_map (λ child. codes "." ++ decimal child) ks

-- the text isn't empty, and begins with neither a digit nor a dot, but a lesser byte
abbrev pub ends_name : List ℕ → Bool
ends_name [] = false
ends_name (b ∷ _) = ltb b 46

children_text_more : (k : ℕ) (ks : Name) (rest : List ℕ) → children_text (k ∷ ks) ++ rest ≡ 46 ∷ (decimal k ++ (children_text ks ++ rest))
children_text_more k ks rest =
    ap (λ (x : List ℕ). x ++ rest) (flat_map-cons (λ (child : ℕ). codes "." ++ decimal child) k ks)
    ∙ ap (λ (x : List ℕ). 46 ∷ x) (append_assoc (decimal k) (children_text ks) rest)

ends_child : (ks : Name) (rest : List ℕ) → ends_name rest ≡ true → ends_number (children_text ks ++ rest) ≡ true
ends_child [] (b ∷ bs) e = rw (lt-leb 48 b (let h = ltb-true b 46 e in omega arith)) refl
ends_child [] [] e = refl
ends_child (k ∷ ks) rest e = ap ends_number (children_text_more k ks rest)

no_dot : (bytes : List ℕ) → ends_name bytes ≡ true → behind (codes ".") bytes ≡ None
no_dot [] e = absurd cc
no_dot (b ∷ bs) e = cond-false (eqb 46 b) _ _ (ne_eqb 46 b (λ same. let h = ltb-true b 46 e in omega arith))

pub children_again : (room : ℕ) (ks : Name) (rest : List ℕ) → length ks ≤ room → list_all is_child ks ≡ true → ends_name rest ≡ true
    → children_at room (children_text ks ++ rest) ≡ Some (ks, rest)
unfolding children_at
children_again zero [] rest l all e = rw (no_dot rest e) refl
children_again (suc room) [] rest l all e = rw (no_dot rest e) refl
children_again zero (k ∷ ks) rest l all e = absurd (omega arith)
children_again (suc room) (k ∷ ks) rest l all e =
    let a = and_parts (is_child k) (list_all is_child ks) all in
    let w = and_parts (leb 1 k) (leb k 255) a.0 in
    let number = front_again 1 255 k (children_text ks ++ rest) (leb-true _ _ w.0) (leb-true _ _ w.1) (omega arith) (ends_child ks rest e) in
    ap (children_at (suc room)) (children_text_more k ks rest)
    ∙ rw (number, children_again room ks rest (omega arith) a.1 e) refl

pub record TakesChildren (room : ℕ) (bytes : List ℕ) (ks : Name) (rest : List ℕ) : Type 0 where
  pub parts : bytes ≡ children_text ks ++ rest
  pub few : length ks ≤ room
  pub each : list_all is_child ks ≡ true

none_taken : (room : ℕ) (bytes : List ℕ) (ks : Name) (rest : List ℕ) → ◌≡◌ {A = Option (Name × List ℕ)} (Some ([], bytes)) (Some (ks, rest))
    → TakesChildren room bytes ks rest
none_taken room bytes [] rest e = record { parts = ap (λ (x : Name × List ℕ). x.1) (same_Some _ _ e); few = omega arith; each = refl }
none_taken room bytes (k ∷ ks) rest e = let same : [] ≡ k ∷ ks = ap (λ (x : Name × List ℕ). x.0) (same_Some _ _ e) in absurd cc

at_dot : (o : Option (List ℕ)) (bytes : List ℕ) (read : List ℕ → Option (Name × List ℕ)) (x : Name × List ℕ) → where_dot o bytes read ≡ Some x
    → (Some ([], bytes) ≡ Some x) ⊎ ((number : List ℕ) × (o ≡ Some number) × (read number ≡ Some x))
at_dot None bytes read x e = inl e
at_dot (Some number) bytes read x e = inr (number, refl, e)

with_taken : (room : ℕ) (bytes number : List ℕ) (ks : Name) (rest : List ℕ) (k : ℕ) (after : List ℕ) (others : Name) (last : List ℕ)
    → bytes ≡ 46 ∷ number → IsFront 1 255 number k after → TakesChildren room after others last
    → ◌≡◌ {A = Option (Name × List ℕ)} (Some (k ∷ others, last)) (Some (ks, rest)) → TakesChildren (suc room) bytes ks rest
with_taken room bytes number ks rest k after others last dot one more e =
    let few = more.few in
    let child : is_child k ≡ true = and_from (leb 1 k) (leb k 255) (le-leb 1 k one.above) (le-leb k 255 one.below) in
    let parts : bytes ≡ children_text (k ∷ others) ++ last =
    dot ∙ (ap (λ (x : List ℕ). 46 ∷ x) (one.parts ∙ ap (λ (x : List ℕ). decimal k ++ x) more.parts) ∙ sym (children_text_more k others last)) in
    let made : TakesChildren (suc room) bytes (k ∷ others) last = record { parts = parts; few = omega arith; each = and_from (is_child k) _ child more.each } in
    subst (λ (x : Name × List ℕ). TakesChildren (suc room) bytes x.0 x.1) (same_Some _ _ e) made

pub children_takes : (room : ℕ) (bytes : List ℕ) (ks : Name) (rest : List ℕ) → children_at room bytes ≡ Some (ks, rest) → TakesChildren room bytes ks rest
unfolding children_at
children_takes zero bytes ks rest e =
    elim (at_dot (behind (codes ".") bytes) bytes (λ _. None) (ks, rest) e) [
      | inl h ↦ none_taken 0 bytes ks rest h
      | inr h ↦ absurd (none-some (ks, rest) h.2)
    ]
children_takes (suc room) bytes ks rest e =
    elim (at_dot (behind (codes ".") bytes) bytes (λ number. number_at 1 255 number >>= λ k. with_child k.0 (children_at room k.1)) (ks, rest) e) [
      | inl h ↦ none_taken (suc room) bytes ks rest h
      | inr h ↦
          let a = bind_some (number_at 1 255 h.0) (λ k. with_child k.0 (children_at room k.1)) (ks, rest) h.2 in
          let b = bind_some (children_at room a.0.1) (λ x. Some (a.0.0 ∷ x.0, x.1)) (ks, rest) a.2 in
          with_taken room bytes h.0 ks rest a.0.0 a.0.1 b.0.0 b.0.1 (behind_takes (codes ".") bytes h.0 h.1) (front_is 1 255 h.0 a.0.0 a.0.1 (omega arith) a.1)
          (children_takes room a.0.1 b.0.0 b.0.1 b.1) b.2
    ]

-- a name is read back from its text, if no more of it can follow
pub name_again : (n : Name) (rest : List ℕ) → is_name n ≡ true → ends_name rest ≡ true → name_at (name_text n ++ rest) ≡ Some (n, rest)
unfolding name_at
name_again n rest h e =
    let a = and_parts (leb (length n) DEPTH) (list_all is_child n) h in
    children_again DEPTH n rest (leb-true _ _ a.0) a.1 e

pub name_takes : (bytes : List ℕ) (n : Name) (rest : List ℕ) → name_at bytes ≡ Some (n, rest) → (bytes ≡ name_text n ++ rest) × (is_name n ≡ true)
unfolding name_at
name_takes bytes n rest e =
    let a = bind_some (behind (codes "0") bytes) (children_at DEPTH) (n, rest) e in
    let t = children_takes DEPTH a.0 n rest a.2 in (
      behind_takes (codes "0") bytes a.0 a.1 ∙ ap (λ (x : List ℕ). 48 ∷ x) t.parts,
      and_from (leb (length n) DEPTH) (list_all is_child n) (le-leb _ _ t.few) t.each,
    )

-- Children read one after the other.

-- these children, and then those of the rest
abbrev pub with_front : Name → Option (Name × List ℕ) → Option (Name × List ℕ)
with_front front others = others >>= λ x. Some (front ++ x.0, x.1)

regroup : (front : Name) (k : ℕ) (others : Option (Name × List ℕ)) → with_front front (with_child k others) ≡ with_front (front ++ k ∷ []) others
regroup front k None = refl
regroup front k (Some x) = ap (λ (n : Name). Some (n, x.1)) (sym (append_assoc front (k ∷ []) x.0))

-- the state while children are read one after the other
pub record ChildrenSoFar (front : Name) (bytes : List ℕ) (total : Option (Name × List ℕ)) : Type 0 where
  pub few : length front ≤ DEPTH
  pub read : with_front front (children_at (DEPTH - length front) bytes) ≡ total

-- one more child was read
pub goes_on : (front : Name) (bytes number : List ℕ) (k : ℕ) (after : List ℕ) (total : Option (Name × List ℕ)) → length front ≤ DEPTH → length front ≢ DEPTH
    → behind (codes ".") bytes ≡ Some number → number_at 1 255 number ≡ Some (k, after)
    → with_front front (children_at (DEPTH - length front) bytes) ≡ total → (longer : Name) → longer ≡ front ++ k ∷ [] → ChildrenSoFar longer after total
unfolding children_at
goes_on front bytes number k after total few room dot one so_far longer e =
    let len : length longer ≡ length front + 1 = ap length e ∙ length-append front (k ∷ []) in
    let n : DEPTH - length front ≡ suc (DEPTH - length longer) = omega arith in
    let step : children_at (DEPTH - length front) bytes ≡ with_child k (children_at (DEPTH - length longer) after) = rw (n, dot, one) refl in
    record {
      few = omega arith;
      read = ap (λ (n : Name). with_front n (children_at (DEPTH - length longer) after)) e
          ∙ (sym (regroup front k (children_at (DEPTH - length longer) after)) ∙ (ap (with_front front) (sym step) ∙ so_far));
    }

pub shorter : (bytes number : List ℕ) (k : ℕ) (after : List ℕ) → behind (codes ".") bytes ≡ Some number → number_at 1 255 number ≡ Some (k, after)
    → length after < length bytes
shorter bytes number k after dot one =
    let a = ap length (behind_takes (codes ".") bytes number dot) in
    let b = ap length (front_is 1 255 number k after (omega arith) one).parts in
    omega (arith, length-append (decimal k) after)

-- a ninth child, or no child after the dot
pub too_many : (front : Name) (bytes number : List ℕ) (total : Option (Name × List ℕ)) → length front ≡ DEPTH → behind (codes ".") bytes ≡ Some number
    → with_front front (children_at (DEPTH - length front) bytes) ≡ total → None ≡ total
unfolding children_at
too_many front bytes number total full dot so_far =
    let n : DEPTH - length front ≡ 0 = omega arith in
    let step : children_at (DEPTH - length front) bytes ≡ None = rw (n, dot) refl in
    sym (ap (with_front front) step) ∙ so_far

pub no_child : (front : Name) (bytes number : List ℕ) (total : Option (Name × List ℕ)) → length front ≤ DEPTH → length front ≢ DEPTH
    → behind (codes ".") bytes ≡ Some number → number_at 1 255 number ≡ None
    → with_front front (children_at (DEPTH - length front) bytes) ≡ total → None ≡ total
unfolding children_at
no_child front bytes number total few room dot none so_far =
    let n : DEPTH - length front ≡ suc (DEPTH - 1 - length front) = omega arith in
    let step : children_at (DEPTH - length front) bytes ≡ None = rw (n, dot, none) refl in
    sym (ap (with_front front) step) ∙ so_far

-- no dot follows
no_more : (room : ℕ) (bytes : List ℕ) → behind (codes ".") bytes ≡ None → children_at room bytes ≡ Some ([], bytes)
unfolding children_at
no_more zero bytes e = rw e refl
no_more (suc room) bytes e = rw e refl

pub is_done : (front : Name) (bytes : List ℕ) (total : Option (Name × List ℕ)) → behind (codes ".") bytes ≡ None
    → with_front front (children_at (DEPTH - length front) bytes) ≡ total → Some (front, bytes) ≡ total
is_done front bytes total e so_far =
    ap (λ (n : Name). Some (n, bytes)) (sym (append-nil front)) ∙ (sym (ap (with_front front) (no_more (DEPTH - length front) bytes e)) ∙ so_far)
