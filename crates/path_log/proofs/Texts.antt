-- Writing what was read gives the text again, and reading what was written gives the value again.
use Rattle.std.proofs.Common.{
  ◌≡◌,
  ◌<◌,
  ◌≤◌,
  ◌+◌,
  ◌-◌,
  ◌^◌,
  ℕ,
  zero,
  suc,
  Bool,
  true,
  false,
  ◌&&◌,
  cond,
  leb,
  ltb,
  eqb,
  List,
  [],
  ◌∷◌,
  ◌++◌,
  length,
  take,
  drop,
  get_or,
  Option,
  Some,
  Ok,
  Err,
  refl,
  sym,
  ap,
  ◌∙◌,
  subst,
  arith,
  append_assoc,
  inl,
  inr,
}
use Rattle.std.specs.List.{flat_map, list_all}
use Rattle.std.proofs.lemmas.Bool.{and_parts, and_from, cases_lt, le-leb, leb-true, lt-ltb, ltb-true, ltb-false, le-ltb, eq-eqb, ne_eqb}
use Rattle.std.proofs.lemmas.List.{length-append, length-take, take_at, drop_at, take-append-drop, get_or-take, get_or-drop, get_or_past}
use Rattle.std.proofs.lemmas.List.Concat.{flat_map-cons}
use Rattle.std.proofs.lemmas.Nat.{be_bytes_2}
use Rattle.byteorder.specs.Endian.{big_bytes, big_number}
use Rattle.tc_base.specs.Names.{Name}
use Rattle.tc_base.specs.Paths.{ThreadPath}
use Rattle.path_log.specs.Texts.{AreBytes, is_within, is_thread, bytes_for, packed, runs_behind, runs_text, outcomes_text, name_text}
use Rattle.run_log.specs.Logs.{is_above, rises_from}
use Rattle.path_log.specs.Texts.{thread_text}
use Rattle.path_log.specs.Fields.{Place, Fields, done, behind, kept, ◌such◌, ◌>>=◌, field, byte, two, times, name, all_bits, is_padded, packed_outcomes}
use Rattle.path_log.specs.Fields.{lengths, alternating, runs_of, run_outcomes, outcomes, thread, threads}
use Rattle.path_log.proofs.Loops.{Read, whole_read, read_is, such_passes, within, lengths_more, nothing_left}
use Rattle.path_log.proofs.Packing.{packed_again, length-taken, length-packed, taken_packed, packed_pads}
use Rattle.path_log.proofs.Runs.{are_runs, total, runs_of_alternating, alternating_of_runs, runs_are_runs, total-runs, length-alternating}

-- fields after a first field that was read
pub behind_ok : {X Y : Type 0} (r : Read X) (more : X → Fields Y) (y : Y × Place) → behind r more ≡ Ok y
    → (x : X × Place) × (r ≡ Ok x) × (more x.0 x.1 ≡ Ok y)
behind_ok (Ok x) more y e = (x, refl, e)
behind_ok (Err offset) more y e = absurd cc

-- a first part of a text, and the bytes after it
pub record Takes (bytes front rest : List ℕ) : Type 0 where
  pub parts : bytes ≡ front ++ rest
  pub are : AreBytes rest

pub Takes-then : (a x b y c : List ℕ) → Takes a x b → Takes b y c → Takes a (x ++ y) c
Takes-then a x b y c p q = record { parts = p.parts ∙ (ap (λ (t : List ℕ). x ++ t) q.parts ∙ sym (append_assoc x y c)); are = q.are }

pub Takes-nothing : (bytes : List ℕ) → AreBytes bytes → Takes bytes [] bytes
Takes-nothing bytes h = record { parts = refl; are = h }

-- the fields read this value, whatever follows
pub record ReadsAs {X : Type 0} (read : Read X) (x : X) (rest : List ℕ) : Type 0 where
  pub end : ℕ
  pub read_is : read ≡ Ok (x, (end, rest))

short_ok : {X : Type 0} (b : Bool) (offset : ℕ) (y x : X × Place) → cond b (Err offset) (Ok y) ≡ Ok x → (b ≡ false) × (y ≡ x)
short_ok true offset y x e = absurd cc
short_ok false offset y x e = (refl, cc)

drop_are : (n : ℕ) (bytes : List ℕ) → AreBytes bytes → AreBytes (drop n bytes)
drop_are n bytes h i = rw get_or-drop (h (n + i))

take_are : (n : ℕ) (bytes : List ℕ) → AreBytes bytes → AreBytes (take n bytes)
take_are n bytes h i =
    elim (cases_lt i n) [
      | inl lt ↦ rw (get_or-take n bytes i 0 lt) (h i)
      | inr le ↦ rw (get_or_past (take n bytes) i 0 (omega (arith, length-take n bytes))) (omega arith)
    ]

-- One field.

pub field_takes : (n : ℕ) (place : Place) (x : List ℕ × Place) → AreBytes place.1 → field n place ≡ Ok x
    → Takes place.1 x.0 x.1.1 × (length x.0 ≡ n) × AreBytes x.0
field_takes n place x h e =
    let g = short_ok (ltb (length place.1) n) place.0 (take n place.1, (place.0 + n, drop n place.1)) x e in
    let long : n ≤ length place.1 = ltb-false _ _ g.0 in
    let made : Takes place.1 (take n place.1) (drop n place.1) = record { parts = sym (take-append-drop n place.1); are = drop_are n place.1 h } in
    subst (λ (y : List ℕ × Place). Takes place.1 y.0 y.1.1 × (length y.0 ≡ n) × AreBytes y.0) g.1
    (made, omega (arith, length-take n place.1), take_are n place.1 h)

pub field_again : (front rest : List ℕ) (n offset : ℕ) → length front ≡ n → field n (offset, front ++ rest) ≡ Ok (front, (offset + n, rest))
field_again front rest n offset e =
    rw (le-ltb (length (front ++ rest)) n (omega (arith, length-append front rest)), take_at front rest n e, drop_at front rest n e) refl

one_byte : (bytes : List ℕ) → length bytes ≡ 1 → bytes ≡ get_or bytes 0 0 ∷ []
one_byte [] e = absurd (omega arith)
one_byte (b ∷ []) e = refl
one_byte (b ∷ c ∷ bytes) e = absurd (omega arith)

pub byte_takes : (place : Place) (x : ℕ × Place) → AreBytes place.1 → byte place ≡ Ok x → Takes place.1 (x.0 ∷ []) x.1.1 × (x.0 < 256)
byte_takes place x h e =
    let b = behind_ok (field 1 place) (λ bytes. done (get_or bytes 0 0)) x e in
    let t = field_takes 1 place b.0 h b.1 in
    let one : Takes place.1 (get_or b.0.0 0 0 ∷ []) b.0.1.1 = subst (λ (front : List ℕ). Takes place.1 front b.0.1.1) (one_byte b.0.0 t.1) t.0 in
    subst (λ (y : ℕ × Place). Takes place.1 (y.0 ∷ []) y.1.1 × (y.0 < 256)) (read_is (get_or b.0.0 0 0, b.0.1) x b.2) (one, t.2 0)

pub byte_again : (b : ℕ) (rest : List ℕ) (offset : ℕ) → byte (offset, b ∷ rest) ≡ Ok (b, (offset + 1, rest))
byte_again b rest offset =
    ap (λ (r : Read (List ℕ)). behind r (λ bytes. done (get_or bytes 0 0))) (field_again (b ∷ []) rest 1 offset refl)

pub two_takes : (place : Place) (x : ℕ × Place) → AreBytes place.1 → two place ≡ Ok x → Takes place.1 (big_bytes 2 x.0) x.1.1 × (x.0 < 2 ^ 16)
two_takes place x h e =
    let b = behind_ok (field 2 place) (λ bytes. done (big_number 2 bytes)) x e in
    let t = field_takes 2 place b.0 h b.1 in
    let bytes = b.0.0 in
    let front : big_bytes 2 (big_number 2 bytes) ≡ bytes = be_bytes_2 bytes (big_number 2 bytes) t.1 t.2 (omega arith) in
    let made : Takes place.1 (big_bytes 2 (big_number 2 bytes)) b.0.1.1 = subst (λ (front : List ℕ). Takes place.1 front b.0.1.1) (sym front) t.0 in
    let small : big_number 2 bytes < 2 ^ 16 = omega (arith, t.2 0, t.2 1) in
    subst (λ (y : ℕ × Place). Takes place.1 (big_bytes 2 y.0) y.1.1 × (y.0 < 2 ^ 16)) (read_is (big_number 2 bytes, b.0.1) x b.2) (made, small)

pub two_again : (n : ℕ) (rest : List ℕ) (offset : ℕ) → n < 2 ^ 16 → two (offset, big_bytes 2 n ++ rest) ≡ Ok (n, (offset + 2, rest))
two_again n rest offset lt =
    let number : big_number 2 (big_bytes 2 n) ≡ n = omega arith in
    ap (λ (r : Read (List ℕ)). behind r (λ bytes. done (big_number 2 bytes))) (field_again (big_bytes 2 n) rest 2 offset refl)
    ∙ ap (λ (m : ℕ). whole_read (m, (offset + 2, rest))) number

pub such_again : {X : Type 0} (fields : Fields X) (rule : X → Bool) (place : Place) (x : X) (after : Place) → fields place ≡ Ok (x, after) → rule x ≡ true
    → (fields such rule) place ≡ Ok (x, after)
such_again {X} fields rule place x after e h =
    ap (λ (r : Read X). kept rule place.0 r) e ∙ ap (λ (b : Bool). cond b (whole_read (x, after)) (Err place.0)) h

pub within_again : (low high n : ℕ) → low ≤ n → n ≤ high → is_within low high n ≡ true
within_again low high n l h = and_from (leb low n) (leb n high) (le-leb low n l) (le-leb n high h)

-- Names.

abbrev child : Fields ℕ
child = byte such is_within 1 255

children_take : (n : ℕ) (place : Place) (x : Name × Place) → AreBytes place.1 → times child n place ≡ Ok x
    → Takes place.1 x.0 x.1.1 × (length x.0 ≡ n) × (list_all (is_within 1 255) x.0 ≡ true)
children_take zero place x h e =
    subst (λ (y : Name × Place). Takes place.1 y.0 y.1.1 × (length y.0 ≡ 0) × (list_all (is_within 1 255) y.0 ≡ true)) (read_is ([], place) x e)
    (Takes-nothing place.1 h, refl, refl)
children_take (suc n) place x h e =
    let a = behind_ok (child place) (λ first. times child n >>= λ others. done (first ∷ others)) x e in
    let b = behind_ok (times child n a.0.1) (λ others. done (a.0.0 ∷ others)) x a.2 in
    let passes = such_passes byte (is_within 1 255) place a.0 a.1 in
    let first = byte_takes place a.0 h passes.0 in
    let others = children_take n a.0.1 b.0 first.0.are b.1 in
    subst (λ (y : Name × Place). Takes place.1 y.0 y.1.1 × (length y.0 ≡ suc n) × (list_all (is_within 1 255) y.0 ≡ true))
    (read_is (a.0.0 ∷ b.0.0, b.0.1) x b.2) (
      Takes-then place.1 (a.0.0 ∷ []) a.0.1.1 b.0.0 b.0.1.1 first.0 others.0,
      ap suc others.1,
      and_from (is_within 1 255 a.0.0) (list_all (is_within 1 255) b.0.0) passes.1 others.2,
    )

children_again : (ks : Name) (rest : List ℕ) (offset : ℕ) → list_all (is_within 1 255) ks ≡ true
    → ReadsAs (times child (length ks) (offset, ks ++ rest)) ks rest
children_again [] rest offset h = record { end = offset; read_is = refl }
children_again (k ∷ ks) rest offset h =
    let parts = and_parts (is_within 1 255 k) (list_all (is_within 1 255) ks) h in
    let one = such_again byte (is_within 1 255) (offset, k ∷ (ks ++ rest)) k (offset + 1, ks ++ rest) (byte_again k (ks ++ rest) offset) parts.0 in
    let others = children_again ks rest (offset + 1) parts.1 in
    record {
      end = others.end;
      read_is = ap (λ (r : Read ℕ). behind r (λ first. times child (length ks) >>= λ others. done (first ∷ others))) one
          ∙ ap (λ (r : Read Name). behind r (λ others. done (k ∷ others))) others.read_is;
    }

name_takes : (place : Place) (x : Name × Place) → AreBytes place.1 → name place ≡ Ok x
    → Takes place.1 (name_text x.0) x.1.1 × (length x.0 ≤ 255) × (list_all (is_within 1 255) x.0 ≡ true)
unfolding name
name_takes place x h e =
    let a = behind_ok (byte place) (times child) x e in
    let depth = byte_takes place a.0 h a.1 in
    let ks = children_take a.0.0 a.0.1 x depth.0.are a.2 in
    let small = depth.1 in
    let count = ks.1 in
    let both = Takes-then place.1 (a.0.0 ∷ []) a.0.1.1 x.0 x.1.1 depth.0 ks.0 in
    (subst (λ (n : ℕ). Takes place.1 (n ∷ x.0) x.1.1) (sym count) both, omega arith, ks.2)

name_again : (n : Name) (rest : List ℕ) (offset : ℕ) → list_all (is_within 1 255) n ≡ true → ReadsAs (name (offset, name_text n ++ rest)) n rest
unfolding name
name_again n rest offset h =
    let others = children_again n rest (offset + 1) h in
    record { end = others.end; read_is = ap (λ (r : Read ℕ). behind r (times child)) (byte_again (length n) (n ++ rest) offset) ∙ others.read_is }

-- Outcomes as bits.

packed_takes : (n : ℕ) (place : Place) (x : List Bool × Place) → AreBytes place.1 → packed_outcomes n place ≡ Ok x
    → Takes place.1 (packed (bytes_for (length x.0)) x.0) x.1.1 × (length x.0 ≡ n)
unfolding packed_outcomes
packed_takes n place x h e =
    let a = behind_ok ((field (bytes_for n) such is_padded n) place) (λ bytes. done (take n (all_bits bytes))) x e in
    let passes = such_passes (field (bytes_for n)) (is_padded n) place a.0 a.1 in
    let t = field_takes (bytes_for n) place a.0 h passes.0 in
    let bits = take n (all_bits a.0.0) in
    let len : length bits ≡ n = length-taken n a.0.0 t.1 in
    let front : packed (bytes_for (length bits)) bits ≡ a.0.0 = ap (λ (m : ℕ). packed (bytes_for m) bits) len ∙ packed_again n a.0.0 t.2 t.1 passes.1 in
    let made : Takes place.1 (packed (bytes_for (length bits)) bits) a.0.1.1 = subst (λ (f : List ℕ). Takes place.1 f a.0.1.1) (sym front) t.0 in
    subst (λ (y : List Bool × Place). Takes place.1 (packed (bytes_for (length y.0)) y.0) y.1.1 × (length y.0 ≡ n)) (read_is (bits, a.0.1) x a.2) (made, len)

packed_outcomes_again : (bs : List Bool) (rest : List ℕ) (offset : ℕ)
    → ReadsAs (packed_outcomes (length bs) (offset, packed (bytes_for (length bs)) bs ++ rest)) bs rest
unfolding packed_outcomes
packed_outcomes_again bs rest offset =
    let n = length bs in
    let bytes = packed (bytes_for n) bs in
    let one = such_again (field (bytes_for n)) (is_padded n) (offset, bytes ++ rest) bytes (offset + bytes_for n, rest)
    (field_again bytes rest (bytes_for n) offset (length-packed (bytes_for n) bs)) (packed_pads bs) in
    record {
      end = offset + bytes_for n;
      read_is = ap (λ (r : Read (List ℕ)). behind r (λ bytes. done (take n (all_bits bytes)))) one
          ∙ ap (λ (xs : List Bool). whole_read (xs, (offset + bytes_for n, rest))) (taken_packed bs);
    }

-- Outcomes as runs.

none_left : (most left : ℕ) (place : Place) (x : List ℕ × Place) → AreBytes place.1 → left ≡ 0 → lengths most left place ≡ Ok x
    → Takes place.1 (flat_map (big_bytes 2) x.0) x.1.1 × (are_runs x.0 ≡ true) × (total x.0 ≡ left)
none_left most left place x h none e =
    let nothing : whole_read ([], place) ≡ whole_read x = sym (ap (λ (l : ℕ). lengths most l place) none ∙ nothing_left most place) ∙ e in
    subst (λ (y : List ℕ × Place). Takes place.1 (flat_map (big_bytes 2) y.0) y.1.1 × (are_runs y.0 ≡ true)
    × (total y.0 ≡ left)) (read_is ([], place) x nothing)
    (Takes-nothing place.1 h, refl, sym none)

lengths_take : (most left : ℕ) (place : Place) (x : List ℕ × Place) → AreBytes place.1 → left ≤ most → lengths most left place ≡ Ok x
    → Takes place.1 (flat_map (big_bytes 2) x.0) x.1.1 × (are_runs x.0 ≡ true) × (total x.0 ≡ left)
lengths_take zero left place x h enough e = none_left zero left place x h (omega arith) e
lengths_take (suc most) left place x h enough e = elim (cases_lt 0 left) [
  | inr none ↦ none_left (suc most) left place x h (omega arith) e
  | inl more ↦
      let read = sym (lengths_more most left place more) ∙ e in
      let a = behind_ok ((two such is_within 1 left) place) (λ n. lengths most (left - n) >>= λ others. done (n ∷ others)) x read in
      let b = behind_ok (lengths most (left - a.0.0) a.0.1) (λ others. done (a.0.0 ∷ others)) x a.2 in
      let bounds = within 1 left two place a.0 a.1 in
      let low : 1 ≤ a.0.0 = bounds.0 in
      let high : a.0.0 ≤ left = bounds.1 in
      let first = two_takes place a.0 h (such_passes two (is_within 1 left) place a.0 a.1).0 in
      let others = lengths_take most (left - a.0.0) a.0.1 b.0 first.0.are (omega arith) b.1 in
      let count : total b.0.0 ≡ left - a.0.0 = others.2 in
      let both = Takes-then place.1 (big_bytes 2 a.0.0) a.0.1.1 (flat_map (big_bytes 2) b.0.0) b.0.1.1 first.0 others.0 in
      subst (λ (y : List ℕ × Place). Takes place.1 (flat_map (big_bytes 2) y.0) y.1.1 × (are_runs y.0 ≡ true) × (total y.0 ≡ left))
      (read_is (a.0.0 ∷ b.0.0, b.0.1) x b.2) (
        subst (λ (f : List ℕ). Takes place.1 f b.0.1.1) (sym (flat_map-cons (big_bytes 2) a.0.0 b.0.0)) both,
        and_from (leb 1 a.0.0) (are_runs b.0.0) (le-leb 1 a.0.0 low) others.1,
        omega arith,
      )
]

lengths_again : (ns : List ℕ) (rest : List ℕ) (offset most left : ℕ) → are_runs ns ≡ true → total ns ≡ left → left ≤ most → left < 2 ^ 16
    → ReadsAs (lengths most left (offset, flat_map (big_bytes 2) ns ++ rest)) ns rest
lengths_again [] rest offset most left h sums enough small = record {
  end = offset;
  read_is = ap (λ (l : ℕ). lengths most l (offset, rest)) (sym sums) ∙ nothing_left most (offset, rest);
}
lengths_again (n ∷ ns) rest offset zero left h sums enough small =
    let some = leb-true 1 n (and_parts (leb 1 n) (are_runs ns) h).0 in
    absurd (omega arith)
lengths_again (n ∷ ns) rest offset (suc most) left h sums enough small =
    let parts = and_parts (leb 1 n) (are_runs ns) h in
    let some = leb-true 1 n parts.0 in
    let behind_n = flat_map (big_bytes 2) ns ++ rest in
    let split : flat_map (big_bytes 2) (n ∷ ns) ++ rest ≡ big_bytes 2 n ++ behind_n =
    ap (λ (x : List ℕ). x ++ rest) (flat_map-cons (big_bytes 2) n ns) ∙ append_assoc (big_bytes 2 n) (flat_map (big_bytes 2) ns) rest in
    let one = such_again two (is_within 1 left) (offset, big_bytes 2 n ++ behind_n) n (offset + 2, behind_n) (two_again n behind_n offset (omega arith))
    (within_again 1 left n some (omega arith)) in
    let others = lengths_again ns rest (offset + 2) most (left - n) parts.1 (omega arith) (omega arith) (omega arith) in
    record {
      end = others.end;
      read_is = ap (λ (x : List ℕ). lengths (suc most) left (offset, x)) split
          ∙ (lengths_more most left (offset, big_bytes 2 n ++ behind_n) (omega arith)
          ∙ (ap (λ (r : Read ℕ). behind r (λ n. lengths most (left - n) >>= λ others. done (n ∷ others))) one
          ∙ ap (λ (r : Read (List ℕ)). behind r (λ others. done (n ∷ others))) others.read_is));
    }

runs_more : (n : ℕ) (place : Place) → 0 < n → run_outcomes n place ≡ behind ((byte such is_within 0 1) place) (λ first. runs_of (eqb first 1) n)
unfolding run_outcomes
runs_more n place more =
    ap (λ (b : Bool). cond b (done []) ((byte such is_within 0 1) >>= λ first. runs_of (eqb first 1) n) place) (ne_eqb n 0 (λ e. omega arith))

no_runs : (place : Place) → run_outcomes 0 place ≡ Ok ([], place)
unfolding run_outcomes
no_runs place = refl

-- the byte of a first outcome
abbrev first_byte : Bool → ℕ
first_byte first = cond first 1 0

text_of_alternating : (first : Bool) (ns : List ℕ) → are_runs ns ≡ true → 0 < total ns
    → runs_text (alternating first ns) ≡ first_byte first ∷ flat_map (big_bytes 2) ns
text_of_alternating first [] h some = absurd (omega arith)
text_of_alternating first (zero ∷ ns) h some = absurd (let parts = and_parts (leb 1 0) (are_runs ns) h in cc)
text_of_alternating first (suc n ∷ ns) h some =
    let parts = and_parts (leb 1 (suc n)) (are_runs ns) h in
    ap (λ (ks : List ℕ). first_byte first ∷ flat_map (big_bytes 2) ks) (runs_of_alternating first n ns parts.1)

byte_of_first : (b : ℕ) → b ≤ 1 → first_byte (eqb b 1) ≡ b
byte_of_first b le = elim (cases_lt b 1) [
  | inl less ↦ rw (ne_eqb b 1 (λ e. omega arith)) (omega arith)
  | inr more ↦ rw (eq-eqb b 1 (omega arith)) (omega arith)
]

runs_take : (n : ℕ) (place : Place) (x : List Bool × Place) → AreBytes place.1 → run_outcomes n place ≡ Ok x
    → Takes place.1 (runs_text x.0) x.1.1 × (length x.0 ≡ n)
runs_take n place x h e = elim (cases_lt 0 n) [
  | inl more ↦
      let e' = sym (runs_more n place more) ∙ e in
      let a = behind_ok ((byte such is_within 0 1) place) (λ first. runs_of (eqb first 1) n) x e' in
      let outcome = eqb a.0.0 1 in
      let b = behind_ok (lengths n n a.0.1) (λ found. done (alternating outcome found)) x a.2 in
      let small = (within 0 1 byte place a.0 a.1).1 in
      let first = byte_takes place a.0 h (such_passes byte (is_within 0 1) place a.0 a.1).0 in
      let ns = b.0.0 in
      let found = lengths_take n n a.0.1 b.0 first.0.are (omega arith) b.1 in
      let sums : total ns ≡ n = found.2 in
      let text : runs_text (alternating outcome ns) ≡ a.0.0 ∷ flat_map (big_bytes 2) ns =
      text_of_alternating outcome ns found.1 (omega arith) ∙ ap (λ (b : ℕ). b ∷ flat_map (big_bytes 2) ns) (byte_of_first a.0.0 small) in
      let both = Takes-then place.1 (a.0.0 ∷ []) a.0.1.1 (flat_map (big_bytes 2) ns) b.0.1.1 first.0 found.0 in
      subst (λ (y : List Bool × Place). Takes place.1 (runs_text y.0) y.1.1 × (length y.0 ≡ n)) (read_is (alternating outcome ns, b.0.1) x b.2)
      (subst (λ (f : List ℕ). Takes place.1 f b.0.1.1) (sym text) both, length-alternating outcome ns ∙ sums)
  | inr none ↦
      let zero_is : n ≡ 0 = omega arith in
      let nothing : whole_read ([], place) ≡ whole_read x = sym (ap (λ (m : ℕ). run_outcomes m place) zero_is ∙ no_runs place) ∙ e in
      subst (λ (y : List Bool × Place). Takes place.1 (runs_text y.0) y.1.1 × (length y.0 ≡ n)) (read_is ([], place) x nothing)
      (Takes-nothing place.1 h, sym zero_is)
]

first_within : (b : Bool) → is_within 0 1 (first_byte b) ≡ true
first_within true = refl
first_within false = refl

first_is : (b : Bool) → eqb (first_byte b) 1 ≡ b
first_is true = refl
first_is false = refl

runs_again : (bs : List Bool) (rest : List ℕ) (offset : ℕ) → length bs < 2 ^ 16 → ReadsAs (run_outcomes (length bs) (offset, runs_text bs ++ rest)) bs rest
runs_again [] rest offset small = record { end = offset; read_is = no_runs (offset, rest) }
runs_again (b ∷ bs) rest offset small =
    let n = length (b ∷ bs) in
    let ns = runs_behind b 1 bs in
    let others = flat_map (big_bytes 2) ns ++ rest in
    let one = such_again byte (is_within 0 1) (offset, first_byte b ∷ others) (first_byte b) (offset + 1, others) (byte_again (first_byte b) others offset)
    (first_within b) in
    let count : total ns ≡ n = total-runs b 1 bs ∙ (omega arith) in
    let found = lengths_again ns rest (offset + 1) n n (runs_are_runs b 1 bs (omega arith)) count (omega arith) small in
    let value : alternating (eqb (first_byte b) 1) ns ≡ b ∷ bs =
    ap (λ (first : Bool). alternating first ns) (first_is b) ∙ alternating_of_runs b 1 bs in
    record {
      end = found.end;
      read_is = runs_more n (offset, first_byte b ∷ others) (omega arith)
          ∙ (ap (λ (r : Read ℕ). behind r (λ first. runs_of (eqb first 1) n)) one
          ∙ (ap (λ (r : Read (List ℕ)). behind r (λ found. done (alternating (eqb (first_byte b) 1) found))) found.read_is
          ∙ ap (λ (xs : List Bool). whole_read (xs, (found.end, rest))) value));
    }

outcomes_take : (as_runs : Bool) (n : ℕ) (place : Place) (x : List Bool × Place) → AreBytes place.1 → outcomes as_runs n place ≡ Ok x
    → Takes place.1 (outcomes_text as_runs x.0) x.1.1 × (length x.0 ≡ n)
outcomes_take true n place x h e = runs_take n place x h e
outcomes_take false n place x h e = packed_takes n place x h e

outcomes_again : (as_runs : Bool) (bs : List Bool) (rest : List ℕ) (offset : ℕ) → length bs < 2 ^ 16
    → ReadsAs (outcomes as_runs (length bs) (offset, outcomes_text as_runs bs ++ rest)) bs rest
outcomes_again true bs rest offset small = runs_again bs rest offset small
outcomes_again false bs rest offset small = packed_outcomes_again bs rest offset

-- Threads.

abbrev path_of : Name → ℕ → List Bool → ThreadPath
path_of n steps found = record { name = n; path = record { outcomes = found; steps = steps } }

-- the parts of a thread, one after the other
record Parts (as_runs : Bool) (last : Option Name) (place : Place) (x : ThreadPath × Place) : Type 0 where
  n : Name × Place
  steps : ℕ × Place
  count : ℕ × Place
  found : List Bool × Place
  name_is : (name such is_above last) place ≡ Ok n
  steps_are : two n.1 ≡ Ok steps
  count_is : two steps.1 ≡ Ok count
  found_is : outcomes as_runs count.0 count.1 ≡ Ok found
  made : (path_of n.0 steps.0 found.0, found.1) ≡ x

parts_of : (as_runs : Bool) (last : Option Name) (place : Place) (x : ThreadPath × Place) → thread as_runs last place ≡ Ok x → Parts as_runs last place x
unfolding thread
parts_of as_runs last place x e =
    let a = behind_ok ((name such is_above last) place)
    (λ n. two >>= λ steps. two >>= λ count. outcomes as_runs count >>= λ found. done (path_of n steps found)) x e in
    let b = behind_ok (two a.0.1) (λ steps. two >>= λ count. outcomes as_runs count >>= λ found. done (path_of a.0.0 steps found)) x a.2 in
    let c = behind_ok (two b.0.1) (λ count. outcomes as_runs count >>= λ found. done (path_of a.0.0 b.0.0 found)) x b.2 in
    let d = behind_ok (outcomes as_runs c.0.0 c.0.1) (λ found. done (path_of a.0.0 b.0.0 found)) x c.2 in
    record {
      n = a.0;
      steps = b.0;
      count = c.0;
      found = d.0;
      name_is = a.1;
      steps_are = b.1;
      count_is = c.1;
      found_is = d.1;
      made = read_is (path_of a.0.0 b.0.0 d.0.0, d.0.1) x d.2;
    }

thread_above : (as_runs : Bool) (last : Option Name) (place : Place) (x : ThreadPath × Place) → thread as_runs last place ≡ Ok x → is_above last x.0.name ≡ true
thread_above as_runs last place x e =
    let p = parts_of as_runs last place x e in
    subst (λ (y : ThreadPath × Place). is_above last y.0.name ≡ true) p.made (such_passes name (is_above last) place p.n p.name_is).1

thread_takes : (as_runs : Bool) (last : Option Name) (place : Place) (x : ThreadPath × Place) → AreBytes place.1 → thread as_runs last place ≡ Ok x
    → Takes place.1 (thread_text as_runs x.0) x.1.1 × (is_thread x.0 ≡ true)
thread_takes as_runs last place x h e =
    let p = parts_of as_runs last place x e in
    let n = name_takes place p.n h (such_passes name (is_above last) place p.n p.name_is).0 in
    let steps = two_takes p.n.1 p.steps n.0.are p.steps_are in
    let count = two_takes p.steps.1 p.count steps.0.are p.count_is in
    let found = outcomes_take as_runs p.count.0 p.count.1 p.found count.0.are p.found_is in
    let text = outcomes_text as_runs p.found.0 in
    let counted : Takes p.steps.1.1 (big_bytes 2 (length p.found.0)) p.count.1.1 =
    subst (λ (m : ℕ). Takes p.steps.1.1 (big_bytes 2 m) p.count.1.1) (sym found.1) count.0 in
    let few : length p.found.0 < 2 ^ 16 = subst (λ (m : ℕ). m < 2 ^ 16) (sym found.1) count.1 in
    let last_two = Takes-then p.steps.1.1 (big_bytes 2 (length p.found.0)) p.count.1.1 text p.found.1.1 counted found.0 in
    let last_three = Takes-then p.n.1.1 (big_bytes 2 p.steps.0) p.steps.1.1 (big_bytes 2 (length p.found.0) ++ text) p.found.1.1 steps.0 last_two in
    let all = Takes-then place.1 (name_text p.n.0) p.n.1.1 (big_bytes 2 p.steps.0 ++ (big_bytes 2 (length p.found.0) ++ text)) p.found.1.1 n.0 last_three in
    subst (λ (y : ThreadPath × Place). Takes place.1 (thread_text as_runs y.0) y.1.1 × (is_thread y.0 ≡ true)) p.made (
      all,
      and_from _ _ (and_from (leb (length p.n.0) 255) (list_all (is_within 1 255) p.n.0) (le-leb (length p.n.0) 255 n.1) n.2)
          (and_from (ltb p.steps.0 (2 ^ 16)) (ltb (length p.found.0) (2 ^ 16)) (lt-ltb p.steps.0 (2 ^ 16) steps.1) (lt-ltb (length p.found.0) (2 ^ 16) few)),
    )

thread_again : (as_runs : Bool) (last : Option Name) (t : ThreadPath) (rest : List ℕ) (offset : ℕ) → is_above last t.name ≡ true → is_thread t ≡ true
    → ReadsAs (thread as_runs last (offset, thread_text as_runs t ++ rest)) t rest
unfolding thread
thread_again as_runs last t rest offset above h =
    let parts = and_parts (leb (length t.name) 255 && list_all (is_within 1 255) t.name) (ltb t.path.steps (2 ^ 16) && ltb (length t.path.outcomes) (2 ^ 16))
    h in
    let children = (and_parts (leb (length t.name) 255) (list_all (is_within 1 255) t.name) parts.0).1 in
    let numbers = and_parts (ltb t.path.steps (2 ^ 16)) (ltb (length t.path.outcomes) (2 ^ 16)) parts.1 in
    let few = ltb-true (length t.path.outcomes) (2 ^ 16) numbers.1 in
    let bs = t.path.outcomes in
    let steps = big_bytes 2 t.path.steps in
    let count = big_bytes 2 (length bs) in
    let text = outcomes_text as_runs bs in
    let split : thread_text as_runs t ++ rest ≡ name_text t.name ++ (steps ++ (count ++ (text ++ rest))) =
    append_assoc (name_text t.name) (steps ++ (count ++ text)) rest
    ∙ (ap (λ (x : List ℕ). name_text t.name ++ x) (append_assoc steps (count ++ text) rest)
    ∙ ap (λ (x : List ℕ). name_text t.name ++ (steps ++ x)) (append_assoc count text rest)) in
    let n = name_again t.name (steps ++ (count ++ (text ++ rest))) offset children in
    let named = such_again name (is_above last) (offset, name_text t.name ++ (steps ++ (count ++ (text ++ rest)))) t.name
    (n.end, steps ++ (count ++ (text ++ rest))) n.read_is above in
    let found = outcomes_again as_runs bs rest (n.end + 2 + 2) few in
    record {
      end = found.end;
      read_is = ap (λ (x : List ℕ). thread as_runs last (offset, x)) split
          ∙ (ap (λ (r : Read Name). behind r
          (λ n. two >>= λ steps. two >>= λ count. outcomes as_runs count >>= λ found. done (path_of n steps found))) named
          ∙ (ap (λ (r : Read ℕ). behind r (λ steps. two >>= λ count. outcomes as_runs count >>= λ found. done (path_of t.name steps found)))
          (two_again t.path.steps (count ++ (text ++ rest)) n.end (ltb-true t.path.steps (2 ^ 16) numbers.0))
          ∙ (ap (λ (r : Read ℕ). behind r (λ count. outcomes as_runs count >>= λ found. done (path_of t.name t.path.steps found)))
          (two_again (length bs) (text ++ rest) (n.end + 2) few)
          ∙ ap (λ (r : Read (List Bool)). behind r (λ found. done (path_of t.name t.path.steps found))) found.read_is)));
    }

-- the names of the threads read rise
pub threads_rise : (as_runs : Bool) (n : ℕ) (last : Option Name) (place : Place) (x : List ThreadPath × Place) → threads as_runs n last place ≡ Ok x
    → (rises_from last x.0 ≡ true) × (length x.0 ≡ n)
unfolding threads
threads_rise as_runs zero last place x e =
    subst (λ (y : List ThreadPath × Place). (rises_from last y.0 ≡ true) × (length y.0 ≡ 0)) (read_is ([], place) x e) (refl, refl)
threads_rise as_runs (suc n) last place x e =
    let a = behind_ok (thread as_runs last place) (λ t. threads as_runs n (Some t.name) >>= λ others. done (t ∷ others)) x e in
    let b = behind_ok (threads as_runs n (Some a.0.0.name) a.0.1) (λ others. done (a.0.0 ∷ others)) x a.2 in
    let others = threads_rise as_runs n (Some a.0.0.name) a.0.1 b.0 b.1 in
    subst (λ (y : List ThreadPath × Place). (rises_from last y.0 ≡ true) × (length y.0 ≡ suc n)) (read_is (a.0.0 ∷ b.0.0, b.0.1) x b.2)
    (and_from (is_above last a.0.0.name) (rises_from (Some a.0.0.name) b.0.0) (thread_above as_runs last place a.0 a.1) others.0, ap suc others.1)

pub threads_take : (as_runs : Bool) (n : ℕ) (last : Option Name) (place : Place) (x : List ThreadPath × Place) → AreBytes place.1
    → threads as_runs n last place ≡ Ok x → Takes place.1 (flat_map (thread_text as_runs) x.0) x.1.1 × (list_all is_thread x.0 ≡ true)
unfolding threads
threads_take as_runs zero last place x h e =
    subst (λ (y : List ThreadPath × Place). Takes place.1 (flat_map (thread_text as_runs) y.0) y.1.1 × (list_all is_thread y.0 ≡ true))
    (read_is ([], place) x e) (Takes-nothing place.1 h, refl)
threads_take as_runs (suc n) last place x h e =
    let a = behind_ok (thread as_runs last place) (λ t. threads as_runs n (Some t.name) >>= λ others. done (t ∷ others)) x e in
    let b = behind_ok (threads as_runs n (Some a.0.0.name) a.0.1) (λ others. done (a.0.0 ∷ others)) x a.2 in
    let first = thread_takes as_runs last place a.0 h a.1 in
    let others = threads_take as_runs n (Some a.0.0.name) a.0.1 b.0 first.0.are b.1 in
    let both = Takes-then place.1 (thread_text as_runs a.0.0) a.0.1.1 (flat_map (thread_text as_runs) b.0.0) b.0.1.1 first.0 others.0 in
    subst (λ (y : List ThreadPath × Place). Takes place.1 (flat_map (thread_text as_runs) y.0) y.1.1 × (list_all is_thread y.0 ≡ true))
    (read_is (a.0.0 ∷ b.0.0, b.0.1) x b.2) (
      subst (λ (f : List ℕ). Takes place.1 f b.0.1.1) (sym (flat_map-cons (thread_text as_runs) a.0.0 b.0.0)) both,
      and_from (is_thread a.0.0) (list_all is_thread b.0.0) first.1 others.1,
    )

pub threads_again : (as_runs : Bool) (ts : List ThreadPath) (last : Option Name) (rest : List ℕ) (offset : ℕ) → rises_from last ts ≡ true
    → list_all is_thread ts ≡ true → ReadsAs (threads as_runs (length ts) last (offset, flat_map (thread_text as_runs) ts ++ rest)) ts rest
unfolding threads
threads_again as_runs [] last rest offset rises h = record { end = offset; read_is = refl }
threads_again as_runs (t ∷ ts) last rest offset rises h =
    let above = and_parts (is_above last t.name) (rises_from (Some t.name) ts) rises in
    let each = and_parts (is_thread t) (list_all is_thread ts) h in
    let behind_t = flat_map (thread_text as_runs) ts ++ rest in
    let split : flat_map (thread_text as_runs) (t ∷ ts) ++ rest ≡ thread_text as_runs t ++ behind_t =
    ap (λ (x : List ℕ). x ++ rest) (flat_map-cons (thread_text as_runs) t ts) ∙ append_assoc (thread_text as_runs t) (flat_map (thread_text as_runs) ts) rest in
    let first = thread_again as_runs last t behind_t offset above.0 each.0 in
    let others = threads_again as_runs ts (Some t.name) rest first.end above.1 each.1 in
    record {
      end = others.end;
      read_is = ap (λ (x : List ℕ). threads as_runs (suc (length ts)) last (offset, x)) split
          ∙ (ap (λ (r : Read ThreadPath). behind r (λ t. threads as_runs (length ts) (Some t.name) >>= λ others. done (t ∷ others))) first.read_is
          ∙ ap (λ (r : Read (List ThreadPath)). behind r (λ others. done (t ∷ others))) others.read_is);
    }
