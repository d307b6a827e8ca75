-- The known bytes that a reader will give, and those that a writer has taken.
use Rattle.std.proofs.Common.{
  ◌≡◌,
  ◌∙◌,
  ◌+◌,
  ◌-◌,
  ◌<◌,
  ℕ,
  List,
  [],
  ◌++◌,
  length,
  length-append,
  Option,
  Some,
  None,
  IfSome,
  Result,
  Ok,
  Err,
  refl,
  ap,
  sym,
  subst,
  arith,
  append_assoc,
  append-nil,
  take,
  drop,
  take-append-drop,
}
use lib.Seq.{take-append_seam}
use Rattle.std.proofs.lemmas.List.{take_rest}
use Rattle.std.proofs.KnownBytes.{Appends-trans, Appends-kept}
use Rattle.std.specs.Io.KnownBytes.{Consumes, IsAtEnd, Appends, Keeps, WriteAppends}

-- two readings one after the other
pub consumes_more : (a b c : Option (List ℕ)) (xs ys : List ℕ) → Consumes a b xs → Consumes b c ys → Consumes a c (xs ++ ys)
consumes_more None b c xs ys h k = tt
consumes_more (Some gs) None c xs ys h k = absurd h
consumes_more (Some gs) (Some bs) None xs ys h k = absurd k
consumes_more (Some gs) (Some bs) (Some cs) xs ys h k = h ∙ ap (λ zs. xs ++ zs) k ∙ sym (append_assoc xs ys cs)

-- a reading of no bytes
pub consumes_none : (a : Option (List ℕ)) → Consumes a a []
consumes_none None = tt
consumes_none (Some gs) = refl

-- bytes that were read up to the end are all of them
pub consumes_all : (a b : Option (List ℕ)) (xs : List ℕ) → Consumes a b xs → IsAtEnd b → IfSome a (λ all. xs ≡ all)
consumes_all None b xs h e = tt
consumes_all (Some gs) None xs h e = absurd h
consumes_all (Some gs) (Some bs) xs h e = sym (h ∙ ap (λ zs. xs ++ zs) e ∙ append-nil xs)

-- if more bytes than a limit were read, all bytes are more than the limit
pub consumes_some : (a b : Option (List ℕ)) (xs : List ℕ) (limit : ℕ) → Consumes a b xs → limit < length xs → IfSome a (λ all. limit < length all)
consumes_some None b xs limit h lt = tt
consumes_some (Some gs) None xs limit h lt = absurd h
consumes_some (Some gs) (Some bs) xs limit h lt = let e : length gs ≡ length xs + length bs = ap length h ∙ length-append xs bs in omega (arith, e, lt)

pub ruleset consumed = (consumes_more, consumes_none, consumes_all, consumes_some)

-- a write took more of the rest
pub appends_more : (a b c : Option (List ℕ)) (all front rest : List ℕ) (n : ℕ) → all ≡ front ++ rest → Appends a b front → Appends b c (take n rest)
    → (more : List ℕ) × (all ≡ more ++ take (length rest - n) (drop n rest)) × Appends a c more
appends_more a b c all front rest n e p q = (
  front ++ take n rest,
  e ∙ ap (λ r. front ++ r) (sym (take-append-drop n rest)) ∙ sym (append_assoc front (take n rest) (drop n rest))
      ∙ ap (λ r. (front ++ take n rest) ++ r) (sym (take_rest rest n)),
  Appends-trans a b c front (take n rest) p q,
)

-- after a write that took nothing or failed, the bytes are unchanged
pub keeps_unless_taken : {E : Type 0} (a b : Option (List ℕ)) (r : Result ℕ E) (rest : List ℕ) → WriteAppends a b r rest
    → ((n : ℕ) → r ≡ Ok n → n ≡ 0) → Keeps a b
keeps_unless_taken a b (Err e) rest p none = p
keeps_unless_taken None b (Ok n) rest p none = tt
keeps_unless_taken (Some x) None (Ok n) rest p none = absurd p
keeps_unless_taken (Some x) (Some y) (Ok n) rest p none = p ∙ ap (λ k. x ++ take k rest) (none n refl) ∙ append-nil x

-- then a front of the whole text was appended
pub appends_front : (a b c : Option (List ℕ)) (all front rest : List ℕ) → all ≡ front ++ rest → Appends a b front → Keeps b c
    → (n : ℕ) × Appends a c (take n all)
appends_front a b c all front rest e p k =
    (length front, subst (Appends a c) (sym (ap (take (length front)) e ∙ take-append_seam front rest)) (Appends-kept a b c front p k))
