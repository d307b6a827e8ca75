-- Pieces of code whose loops nest, and their composition.
use Rattle.std.proofs.Common.{◌≡◌, ◌∙◌, ◌⊎◌, inl, inr, ℕ, zero, suc, ◌+◌, ◌<◌, ◌≤◌, true, List, [], ◌∷◌, ◌++◌, length, Some, refl, ap, sym}
use Rattle.std.proofs.Common.{subst, arith, length-append, slice_get}
use Rattle.std.specs.List.{list_all}
use Rattle.std.specs.Option.{is_none}
use Rattle.std.proofs.lemmas.Bool.{false≢true}
use Rattle.std.proofs.lemmas.List.Sums.{AllPass-from_list_all}
use Rattle.std.proofs.lemmas.Option.{none-some, same_Some, slice_get_within, get_or_from_slice_get}
use Rattle.tc_code.specs.Lawful.{target}
use Rattle.tc_code.specs.declared.instr.Instr.{Instr}
use Rattle.tc_code.specs.declared.instr.Instr.TheVariants.{Goto}
use Rattle.places.specs.code_loops.Loops.{IsLoop, LoopsNest}

-- the instruction at a place of a piece of code jumps; the piece begins at place s
pub record Jump (s : ℕ) (is : List Instr) (place to : ℕ) (i : Instr) : Type 0 where
  pub k : ℕ
  pub here : s + k ≡ place
  pub within : k < length is
  pub at : slice_get is k ≡ Some i
  pub goes : target i ≡ Some to

-- where a jump in a piece from s to e may lead: into it, to its end or to x; back by a goto alone
pub record Lands (s e x place to : ℕ) (i : Instr) : Type 0 where
  pub low : s ≤ to
  pub high : e < to → to ≡ x
  pub back : to ≤ place → i ≡ Goto to

-- a piece from s to e: its jumps land so, and one into a loop, past its first instruction, comes from the loop
pub record Piece (s e x : ℕ) (is : List Instr) : Type 0 where
  pub size : s + length is ≡ e
  pub lands : {place to : ℕ} {i : Instr} → Jump s is place to i → Lands s e x place to i
  pub entered : {first last from to : ℕ} {i j : Instr} → Jump s is last first i → Jump s is from to j → first < to → to ≤ last
      → (first ≤ from) × (from ≤ last)

-- ---- two pieces

-- a jump of two pieces is one of either
either : (s m place : ℕ) {to : ℕ} {js : List Instr} {i : Instr} (is : List Instr) (k : ℕ) → s + length is ≡ m → s + k ≡ place
    → slice_get (is ++ js) k ≡ Some i → target i ≡ Some to → Jump s is place to i ⊎ Jump m js place to i
either s m place {js} {i} [] k size here at goes =
    inr (record { k = k; here = omega arith; within = slice_get_within js k i at; at = at; goes = goes })
either s m place (h ∷ is) zero size here at goes = inl (record { k = zero; here = here; within = omega arith; at = at; goes = goes })
either s m place (h ∷ is) (suc k) size here at goes =
    elim (either (s + 1) m place is k (omega arith) (omega arith) at goes) [
      | inl j ↦ inl (record { k = suc j.k; here = omega arith; within = omega arith; at = j.at; goes = goes })
      | inr j ↦ inr j
    ]

part : {s m x place to : ℕ} {is js : List Instr} {i : Instr} → Piece s m x is → Jump s (is ++ js) place to i
    → Jump s is place to i ⊎ Jump m js place to i
part {is} a j = either _ _ _ is j.k a.size j.here j.at j.goes

-- jumps out of the first piece go to the end of both, or to where those out of the second go
join : {s m e y : ℕ} {is js : List Instr} (x : ℕ) → e ≤ x → (e < x → x ≡ y) → Piece s m x is → Piece m e y js → Piece s e y (is ++ js)
join {is} {js} x out same a b = record {
  size = omega (arith, length-append is js);
  lands = λ jump. elim (part a jump) [ inl j ↦ let it = a.lands j in omega arith | inr j ↦ let it = b.lands j in omega arith ];
  entered = λ loop jump past up. elim (part a loop) [
    | inl l ↦ elim (part a jump) [ inl j ↦ a.entered l j past up | inr j ↦ let it = b.lands j in omega arith ]
    | inr l ↦ let its = b.lands l in elim (part a jump) [ inl j ↦ let it = a.lands j in omega arith | inr j ↦ b.entered l j past up ]
  ];
}

pub to_end : {s m e y : ℕ} {is js : List Instr} → Piece s m e is → Piece m e y js → Piece s e y (is ++ js)
to_end {e} a b = join e (omega arith) (λ less. absurd (omega (arith, less))) a b

pub beyond : {s m e x : ℕ} {is js : List Instr} → e ≤ x → Piece s m x is → Piece m e x js → Piece s e x (is ++ js)
beyond {x} up a b = join x up (λ less. refl) a b

-- ---- a jump, and a loop

only : (g i : Instr) (k : ℕ) → slice_get (g ∷ []) k ≡ Some i → (k ≡ 0) × (g ≡ i)
only g i zero at = (refl, same_Some g i at)
only g i (suc k) at = absurd (none-some i at)

-- the jump of a lone instruction
lone : {s t place to : ℕ} {g i : Instr} → target g ≡ Some t → Jump s (g ∷ []) place to i → (place ≡ s) × (to ≡ t) × (i ≡ g)
lone {t} {to} {g} {i} known j =
    let it = only g i j.k j.at in
    let same : t ≡ to = same_Some t to (sym known ∙ ap target it.1 ∙ j.goes) in
    (omega (arith, it, j.here), omega (arith, same), sym it.1)

pub ahead : {s e x : ℕ} {g : Instr} → target g ≡ Some x → s + 1 ≡ e → e ≤ x → Piece s e x (g ∷ [])
ahead known size up = record {
  size = size;
  lands = λ j. let it = lone known j in record { low = omega arith; high = λ far. it.1; back = λ down. absurd (omega arith) };
  entered = λ l j past under. let it = lone known l in omega arith;
}

-- a loop: a piece, and the jump back to its beginning
pub back : {s n : ℕ} {is : List Instr} (x : ℕ) → Piece s n (n + 1) is → Piece s (n + 1) x (is ++ Goto s ∷ [])
back {s} {is} x a = record {
  size = omega (arith, length-append is (Goto s ∷ []));
  lands = λ jump. elim (part a jump) [
    | inl j ↦ let it = a.lands j in omega arith
    | inr j ↦ let it = lone refl j in record { low = omega arith; high = λ far. absurd (omega arith); back = λ down. cc }
  ];
  entered = λ loop jump past up. elim (part a loop) [
    | inl l ↦ elim (part a jump) [ inl j ↦ a.entered l j past up | inr j ↦ let it = a.lands l in let its = lone refl j in omega arith ]
    | inr l ↦ let it = lone refl l in elim (part a jump) [ inl j ↦ omega arith | inr j ↦ let its = lone refl j in omega arith ]
  ];
}

-- ---- pieces whose jumps stay in them or go to their end

pub record Nest (at : ℕ) (is : List Instr) : Type 0 where
  pub piece : (x : ℕ) → Piece at (at + length is) x is

pub nest : {s e : ℕ} {is : List Instr} → ((x : ℕ) → Piece s e x is) → Nest s is
nest {s} {is} a = record { piece = λ x. subst (λ n. Piece s n x is) (sym (a x).size) (a x) }

pub both : {at : ℕ} {is js : List Instr} → Nest at is → Nest (at + length is) js → Nest at (is ++ js)
both a b = nest (λ x. to_end (a.piece _) (b.piece x))

-- instructions that don't jump
pub falls : {at : ℕ} {is : List Instr} → list_all (λ i. is_none (target i)) is ≡ true → Nest at is
falls {at} {is} all =
    let none : (place to : ℕ) (i : Instr) → Jump at is place to i → ⊥ = λ place to i j.
    let falls_on = subst (λ g. is_none (target g) ≡ true) (get_or_from_slice_get is j.k i i j.at)
    (AllPass-from_list_all (λ g. is_none (target g)) is all j.k i j.within) in
    false≢true (subst (λ o. is_none o ≡ true) j.goes falls_on) in
    record { piece = λ x. record { size = refl; lands = λ j. absurd (none _ _ _ j); entered = λ l j past up. absurd (none _ _ _ l) } }

-- ---- whole lists

pub whole : (is : List Instr) → Nest 0 is → LoopsNest is
whole is n =
    let a = n.piece 0 in
    let jump : (k to : ℕ) (i : Instr) → slice_get is k ≡ Some i → target i ≡ Some to → Jump 0 is k to i =
    λ k to i at goes. record { k = k; here = omega arith; within = slice_get_within is k i at; at = at; goes = goes } in
    record {
      ends = λ from to i at goes. (a.lands (jump from to i at goes)).back;
      entered = λ first last from to i l at goes. a.entered (jump last first (Goto first) l.jump refl) (jump from to i at goes);
    }

-- of two loops, the one that ends first is within the other, or before it
pub inside_or_apart : (is : List Instr) (first last begin end : ℕ) → LoopsNest is → IsLoop is first last → IsLoop is begin end → last < end
    → (last < begin) ⊎ (begin ≤ first)
inside_or_apart is first last begin end n inner outer less = grind (arith, n.entered first last end begin (Goto begin) inner outer.jump refl)
