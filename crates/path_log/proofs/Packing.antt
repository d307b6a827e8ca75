-- Bits, and the bytes that they are packed into.
use Rattle.std.proofs.Common.{
  ◌≡◌,
  ◌<◌,
  ◌≤◌,
  ◌+◌,
  ◌-◌,
  ◌*◌,
  ◌/◌,
  ◌%◌,
  ◌^◌,
  ℕ,
  zero,
  suc,
  Bool,
  true,
  false,
  not,
  cond,
  leb,
  List,
  [],
  ◌∷◌,
  ◌++◌,
  length,
  take,
  drop,
  get_or,
  min,
  refl,
  sym,
  ap,
  ◌∙◌,
  arith,
  append_assoc,
  lit<,
  inl,
  inr,
}
use Rattle.std.specs.List.{list_all}
use Rattle.std.proofs.Math.Nat.{pow-suc, zero-mod, add-mod_left, mod-eq_of_lt, mod-eq-sub-mod}
use Rattle.std.proofs.lemmas.Bool.{and_parts, cases_Bool, cases_lt, lt-leb, le-leb, leb-true, leb-false, not-true}
use Rattle.std.proofs.lemmas.List.{length-append, length-take, length-drop, drop_at, take_all, drop_all, drop_more}
use Rattle.std.proofs.lemmas.List.Concat.{flat_map-cons}
use Rattle.path_log.specs.Texts.{AreBytes, bits_value, packed, bytes_for}
use Rattle.path_log.specs.Fields.{bits_of, all_bits, is_padded}

-- the first `n` bits, with 0 for those beyond the end
abbrev padded : ℕ → List Bool → List Bool
padded zero bs = []
padded (suc n) [] = false ∷ padded n []
padded (suc n) (b ∷ bs) = b ∷ padded n bs

value_below : (n : ℕ) (bs : List Bool) → bits_value n bs < 2 ^ n
value_below zero bs = lit< tt
value_below (suc n) [] = let below = value_below n [] in let more = pow-suc 2 n in omega arith
value_below (suc n) (true ∷ bs) = let below = value_below n bs in let more = pow-suc 2 n in omega arith
value_below (suc n) (false ∷ bs) = let below = value_below n bs in let more = pow-suc 2 n in omega arith

power_some : (n : ℕ) → 0 < 2 ^ n
power_some n = let below = value_below n [] in omega arith

no_bits : (n : ℕ) → bits_of n 0 ≡ padded n []
no_bits zero = refl
no_bits (suc n) = rw (lt-leb (2 ^ n) 0 (power_some n), zero-mod (2 ^ n), no_bits n) refl

-- the bits of the number of some bits are these bits, padded
bits_of_value : (n : ℕ) (bs : List Bool) → bits_of n (bits_value n bs) ≡ padded n bs
bits_of_value zero bs = refl
bits_of_value (suc n) [] = no_bits (suc n)
bits_of_value (suc n) (true ∷ bs) =
    let below = value_below n bs in
    let low : (2 ^ n + bits_value n bs) % 2 ^ n ≡ bits_value n bs = add-mod_left (2 ^ n) (bits_value n bs) ∙ mod-eq_of_lt below in
    rw (le-leb (2 ^ n) (2 ^ n + bits_value n bs) (omega arith), low, bits_of_value n bs) refl
bits_of_value (suc n) (false ∷ bs) =
    let below = value_below n bs in
    let plain : 0 + bits_value n bs ≡ bits_value n bs = omega arith in
    ap (bits_of (suc n)) plain ∙ rw (lt-leb (2 ^ n) (bits_value n bs) below, mod-eq_of_lt below, bits_of_value n bs) refl

-- the number of the bits of a number is the number
value_of_bits : (n v : ℕ) → v < 2 ^ n → bits_value n (bits_of n v) ≡ v
value_of_bits zero v lt = omega arith
value_of_bits (suc n) v lt = elim (cases_Bool (leb (2 ^ n) v)) [
  | inl h ↦
      let high = leb-true (2 ^ n) v h in
      let more = pow-suc 2 n in
      let low : v % 2 ^ n ≡ v - 2 ^ n = mod-eq-sub-mod high ∙ mod-eq_of_lt (omega arith) in
      let rest = value_of_bits n (v - 2 ^ n) (omega arith) in
      rw (h, low, rest) (omega arith)
  | inr h ↦
      let low = leb-false (2 ^ n) v h in
      rw (h, mod-eq_of_lt low, value_of_bits n v low) (omega arith)
]

-- only the first `n` bits count
value_front : (n : ℕ) (front rest : List Bool) → length front ≡ n → bits_value n (front ++ rest) ≡ bits_value n front
value_front zero front rest e = refl
value_front (suc n) [] rest e = absurd (omega arith)
value_front (suc n) (b ∷ bs) rest e = ap (λ (k : ℕ). cond b (2 ^ n) 0 + k) (value_front n bs rest (omega arith))

pub value_take : (n : ℕ) (bs : List Bool) → bits_value n (take n bs) ≡ bits_value n bs
value_take zero bs = refl
value_take (suc n) [] = refl
value_take (suc n) (b ∷ bs) = ap (λ (k : ℕ). cond b (2 ^ n) 0 + k) (value_take n bs)

value_padded : (n : ℕ) (bs : List Bool) → bits_value n (padded n bs) ≡ bits_value n bs
value_padded zero bs = refl
value_padded (suc n) [] = let rest = value_padded n [] in let none = no_value n in omega arith
  where
    no_value : (n : ℕ) → bits_value n [] ≡ 0
    no_value zero = refl
    no_value (suc n) = refl
value_padded (suc n) (b ∷ bs) = ap (λ (k : ℕ). cond b (2 ^ n) 0 + k) (value_padded n bs)

length-padded : (n : ℕ) (bs : List Bool) → length (padded n bs) ≡ n
length-padded zero bs = refl
length-padded (suc n) [] = ap suc (length-padded n [])
length-padded (suc n) (b ∷ bs) = ap suc (length-padded n bs)

drop_nothing : {X : Type 0} (n : ℕ) → drop {A = X} n [] ≡ []
drop_nothing zero = refl
drop_nothing (suc n) = refl

padded_parts : (n k : ℕ) (bs : List Bool) → padded (n + k) bs ≡ padded n bs ++ padded k (drop n bs)
padded_parts zero k bs = ap (λ (m : ℕ). padded m bs) (omega arith)
padded_parts (suc n) k [] =
    let next : suc n + k ≡ suc (n + k) = omega arith in
    ap (λ (m : ℕ). padded m []) next ∙ ap (λ (xs : List Bool). false ∷ xs) (padded_parts n k [] ∙ ap (λ (xs : List Bool). padded n []
    ++ padded k xs) (drop_nothing n))
padded_parts (suc n) k (b ∷ bs) =
    let next : suc n + k ≡ suc (n + k) = omega arith in
    ap (λ (m : ℕ). padded m (b ∷ bs)) next ∙ ap (λ (xs : List Bool). b ∷ xs) (padded_parts n k bs)

-- the number of bits in `n` bytes
abbrev bits_in : ℕ → ℕ
bits_in zero = 0
bits_in (suc n) = 8 + bits_in n

bits_in_is : (n : ℕ) → bits_in n ≡ 8 * n
bits_in_is zero = refl
bits_in_is (suc n) = let rest = bits_in_is n in omega arith

all_bits_packed : (n : ℕ) (bs : List Bool) → all_bits (packed n bs) ≡ padded (bits_in n) bs
all_bits_packed zero bs = refl
all_bits_packed (suc n) bs =
    flat_map-cons (bits_of 8) (bits_value 8 bs) (packed n (drop 8 bs))
    ∙ (ap (λ (xs : List Bool). xs ++ all_bits (packed n (drop 8 bs))) (bits_of_value 8 bs)
    ∙ (ap (λ (xs : List Bool). padded 8 bs ++ xs) (all_bits_packed n (drop 8 bs)) ∙ sym (padded_parts 8 (bits_in n) bs)))

packed_padded : (n : ℕ) (bs : List Bool) → packed n (padded (bits_in n) bs) ≡ packed n bs
packed_padded zero bs = refl
packed_padded (suc n) bs =
    let parts = padded_parts 8 (bits_in n) bs in
    let front : bits_value 8 (padded 8 bs ++ padded (bits_in n) (drop 8 bs)) ≡ bits_value 8 bs =
    value_front 8 (padded 8 bs) _ (length-padded 8 bs) ∙ value_padded 8 bs in
    let rest : packed n (drop 8 (padded 8 bs ++ padded (bits_in n) (drop 8 bs))) ≡ packed n (drop 8 bs) =
    ap (packed n) (drop_at (padded 8 bs) (padded (bits_in n) (drop 8 bs)) 8 (length-padded 8 bs)) ∙ packed_padded n (drop 8 bs) in
    ap (packed (suc n)) parts ∙ (ap (λ (v : ℕ). v ∷ packed n (drop 8 (padded 8 bs ++ padded (bits_in n) (drop 8 bs)))) front
    ∙ ap (λ (vs : List ℕ). bits_value 8 bs ∷ vs) rest)

rest_are : (b : ℕ) (bytes : List ℕ) → AreBytes (b ∷ bytes) → AreBytes bytes
rest_are b bytes h i = h (suc i)

length-bits : (n v : ℕ) → length (bits_of n v) ≡ n
length-bits zero v = refl
length-bits (suc n) v = ap suc (length-bits n (v % 2 ^ n))

packed_all : (bytes : List ℕ) → AreBytes bytes → packed (length bytes) (all_bits bytes) ≡ bytes
packed_all [] h = refl
packed_all (b ∷ bytes) h =
    let split = flat_map-cons (bits_of 8) b bytes in
    let front : bits_value 8 (bits_of 8 b ++ all_bits bytes) ≡ b =
    value_front 8 (bits_of 8 b) (all_bits bytes) (length-bits 8 b) ∙ value_of_bits 8 b (h 0) in
    let rest : packed (length bytes) (drop 8 (bits_of 8 b ++ all_bits bytes)) ≡ bytes =
    ap (packed (length bytes)) (drop_at (bits_of 8 b) (all_bits bytes) 8 (length-bits 8 b)) ∙ packed_all bytes (rest_are b bytes h) in
    ap (packed (suc (length bytes))) split ∙ (ap (λ (v : ℕ). v ∷ packed (length bytes) (drop 8 (bits_of 8 b ++ all_bits bytes))) front
    ∙ ap (λ (vs : List ℕ). b ∷ vs) rest)

length-all_bits : (bytes : List ℕ) → length (all_bits bytes) ≡ bits_in (length bytes)
length-all_bits [] = refl
length-all_bits (b ∷ bytes) =
    ap length (flat_map-cons (bits_of 8) b bytes) ∙ (length-append (bits_of 8 b) (all_bits bytes)
    ∙ (let front = length-bits 8 b in let rest = length-all_bits bytes in omega arith))

padded_take : (k n : ℕ) (bs : List Bool) → length bs ≡ k → list_all not (drop n bs) ≡ true → padded k (take n bs) ≡ bs
padded_take zero n [] e h = refl
padded_take zero n (b ∷ bs) e h = absurd (omega arith)
padded_take (suc k) n [] e h = absurd (omega arith)
padded_take (suc k) zero (b ∷ bs) e h =
    let parts = and_parts (not b) (list_all not bs) h in
    ap (λ (c : Bool). c ∷ padded k []) (sym (not-true b parts.0)) ∙ ap (λ (xs : List Bool). b ∷ xs) (padded_take k 0 bs (omega arith) parts.1)
padded_take (suc k) (suc n) (b ∷ bs) e h = ap (λ (xs : List Bool). b ∷ xs) (padded_take k n bs (omega arith) h)

take_padded : (bs : List Bool) (k : ℕ) → length bs ≤ k → take (length bs) (padded k bs) ≡ bs
take_padded [] k le = refl
take_padded (b ∷ bs) zero le = absurd (omega arith)
take_padded (b ∷ bs) (suc k) le = ap (λ (xs : List Bool). b ∷ xs) (take_padded bs k (omega arith))

none_set : (k : ℕ) → list_all not (padded k []) ≡ true
none_set zero = refl
none_set (suc k) = none_set k

rest_padded : (bs : List Bool) (k : ℕ) → length bs ≤ k → list_all not (drop (length bs) (padded k bs)) ≡ true
rest_padded [] k le = none_set k
rest_padded (b ∷ bs) zero le = absurd (omega arith)
rest_padded (b ∷ bs) (suc k) le = rest_padded bs k (omega arith)

room : (n : ℕ) → n ≤ bits_in (bytes_for n)
room n = let are = bits_in_is (bytes_for n) in omega arith

-- bytes whose other bits are 0 are the packed first bits
pub packed_again : (n : ℕ) (bytes : List ℕ) → AreBytes bytes → length bytes ≡ bytes_for n → is_padded n bytes ≡ true
    → packed (bytes_for n) (take n (all_bits bytes)) ≡ bytes
packed_again n bytes h len pads =
    let all : length (all_bits bytes) ≡ bits_in (length bytes) = length-all_bits bytes in
    ap (λ (m : ℕ). packed m (take n (all_bits bytes))) (sym len)
    ∙ (sym (packed_padded (length bytes) (take n (all_bits bytes)))
    ∙ (ap (packed (length bytes)) (padded_take (bits_in (length bytes)) n (all_bits bytes) all pads) ∙ packed_all bytes h))

pub length-taken : (n : ℕ) (bytes : List ℕ) → length bytes ≡ bytes_for n → length (take n (all_bits bytes)) ≡ n
length-taken n bytes len =
    let all = length-all_bits bytes in
    let more = room n in
    let same : bits_in (length bytes) ≡ bits_in (bytes_for n) = ap bits_in len in
    omega (arith, length-take n (all_bits bytes))

pub length-packed : (n : ℕ) (bs : List Bool) → length (packed n bs) ≡ n
length-packed zero bs = refl
length-packed (suc n) bs = ap suc (length-packed n (drop 8 bs))

pub taken_packed : (bs : List Bool) → take (length bs) (all_bits (packed (bytes_for (length bs)) bs)) ≡ bs
taken_packed bs = ap (take (length bs)) (all_bits_packed (bytes_for (length bs)) bs) ∙ take_padded bs _ (room (length bs))

pub packed_pads : (bs : List Bool) → is_padded (length bs) (packed (bytes_for (length bs)) bs) ≡ true
packed_pads bs = ap (λ (xs : List Bool). list_all not (drop (length bs) xs)) (all_bits_packed (bytes_for (length bs)) bs) ∙ rest_padded bs _ (room (length bs))

-- The writer's loops.

-- one more byte of at most eight bits
pub packed_more : (rest : List Bool) (n : ℕ) → 0 < length rest → n ≡ min (length rest) 8
    → packed (bytes_for (length rest)) rest ≡ bits_value 8 (take n rest) ∷ packed (bytes_for (length (drop n rest))) (drop n rest)
packed_more rest n some e =
    let bytes : bytes_for (length rest) ≡ suc (bytes_for (length (drop 8 rest))) = omega (arith, length-drop 8 rest) in
    ap (λ (m : ℕ). packed m rest) bytes
    ∙ elim (cases_lt 7 (length rest)) [
      | inl whole ↦
          let is : n ≡ 8 = omega arith in
          ap (λ (v : ℕ). v ∷ packed (bytes_for (length (drop 8 rest))) (drop 8 rest)) (sym (value_take 8 rest))
          ∙ ap (λ (m : ℕ). bits_value 8 (take m rest) ∷ packed (bytes_for (length (drop m rest))) (drop m rest)) (sym is)
      | inr part ↦
          let is : n ≡ length rest = omega arith in
          let front : take n rest ≡ rest = take_all n rest (omega arith) in
          let last : drop n rest ≡ drop 8 rest = drop_all n rest (omega arith) ∙ sym (drop_all 8 rest (omega arith)) in
          ap (λ (bs : List Bool). bits_value 8 bs ∷ packed (bytes_for (length (drop 8 rest))) (drop 8 rest)) (sym front)
          ∙ ap (λ (bs : List Bool). bits_value 8 (take n rest) ∷ packed (bytes_for (length bs)) bs) (sym last)
    ]

pub packed_on : (text longer total : List ℕ) (rest front after : List Bool) (n value : ℕ) → 0 < length rest → n ≡ min (length rest) 8
    → front ≡ take n rest → after ≡ drop n rest → value ≡ bits_value 8 front → longer ≡ text ++ value ∷ []
    → text ++ packed (bytes_for (length rest)) rest ≡ total → longer ++ packed (bytes_for (length after)) after ≡ total
packed_on text longer total rest front after n value some e front_is after_is value_is push so_far =
    let others = packed (bytes_for (length after)) after in
    let value_of : value ≡ bits_value 8 (take n rest) = value_is ∙ ap (bits_value 8) front_is in
    let others_are : others ≡ packed (bytes_for (length (drop n rest))) (drop n rest) = ap (λ (bs : List Bool). packed (bytes_for (length bs)) bs) after_is in
    let step : value ∷ others ≡ packed (bytes_for (length rest)) rest =
    ap (λ (v : ℕ). v ∷ others) value_of ∙ (ap (λ (vs : List ℕ). bits_value 8 (take n rest) ∷ vs) others_are ∙ sym (packed_more rest n some e)) in
    ap (λ (t : List ℕ). t ++ others) push
    ∙ (append_assoc text (value ∷ []) others ∙ (ap (λ (t : List ℕ). text ++ t) step ∙ so_far))

pub half : (i : ℕ) → i < 8 → 2 ^ (8 - i) / 2 ≡ 2 ^ (8 - (i + 1))
half i lt =
    let next : 8 - i ≡ suc (8 - (i + 1)) = omega arith in
    let power : 2 ^ (8 - i) ≡ 2 ^ (8 - (i + 1)) * 2 = ap (λ (n : ℕ). 2 ^ n) next ∙ pow-suc 2 (8 - (i + 1)) in
    omega arith

pub value_on : (bits : List Bool) (i : ℕ) → i < length bits → length bits ≤ 8
    → bits_value (8 - i) (drop i bits) ≡ cond (get_or bits i false) (2 ^ (8 - i) / 2) 0 + bits_value (8 - (i + 1)) (drop (i + 1) bits)
value_on bits i lt few =
    let next : 8 - i ≡ suc (8 - (i + 1)) = omega arith in
    ap (bits_value (8 - i)) (drop_more bits i false lt)
    ∙ (ap (λ (n : ℕ). bits_value n (get_or bits i false ∷ drop (i + 1) bits)) next
    ∙ ap (λ (w : ℕ). cond (get_or bits i false) w 0 + bits_value (8 - (i + 1)) (drop (i + 1) bits)) (sym (half i (omega arith))))

pub value_small : (bits : List Bool) → bits_value 8 bits < 256
value_small bits = value_below 8 bits
