-- The numbers of a line's text are read back.
use Rattle.std.proofs.lemmas.Bool.{and_parts, and_from}
use Rattle.std.proofs.Common.{
  ◌≡◌,
  ℕ,
  suc,
  ◌+◌,
  ◌*◌,
  ◌%◌,
  ◌/◌,
  ◌<◌,
  ◌≤◌,
  List,
  [],
  ◌∷◌,
  ◌++◌,
  ℤ,
  pos,
  negsuc,
  refl,
  ap,
  sym,
  ◌∙◌,
  arith,
  Bool,
  true,
  false,
  append_assoc,
  append-nil,
}
use Rattle.std.specs.Prelude.{nat_eq, map, ◌&&◌, nat_lt, if◌then◌else◌, codes}
use Rattle.std.specs.List.{fold, list_all}
use Rattle.std.specs.Fmt.{decimal, signed_decimal}
use Rattle.std.proofs.lemmas.Fmt.{decimal_by_steps, decimal_digit}
use borrow.Author.Tests.{ne_eqb, ltb-true, lt-ltb}
use Rattle.std.proofs.lemmas.List.Folds.{list_all-append}
use Rattle.std.specs.Option.{option_map_or}
use Rattle.std.specs.Prelude.{MatchOption, ⊤, not, drop, length, Option, Some, None}
use Rattle.list_laws.specs.Lists.{is_nil}
use Rattle.cnf_core.specs.Clauses.{var_of, is_clause, rises_above}
use Rattle.refute_check.specs.helpers.Guess.{
  Reader,
  no_number,
  numbers_of,
  read_byte,
  guessed,
  is_literal,
  is_clause_number,
  literals_in,
  clause_numbers_in,
  add_of,
  delete_of,
  line_guess,
}
use Rattle.refute_check.specs.Texts.{numbers_text, line_text, is_readable, IsNoLine}
use Rattle.refute_check.specs.declared.line.Line.{Line}
use Rattle.refute_check.specs.declared.line.Line.TheVariants.{Add, Delete}
use Rattle.std.proofs.lemmas.List.Sums.{fold-append}

read-digit : (r : Reader) (d n : ℕ) → d < 10 → r.size * 10 + d ≡ n → n < 4294967296 → read_byte r (48 + d) ≡ record r { size = n }
read-digit r d n h e b =
    let s : nat_eq (48 + d) 32 ≡ false = ne_eqb (48 + d) 32 (λ i. omega arith) in
    let m : nat_eq (48 + d) 45 ≡ false = ne_eqb (48 + d) 45 (λ i. omega arith) in
    let k : (r.size * 10 + (48 + d) % 16) % 4294967296 ≡ n = omega arith in
    rw (s, m, k) refl

-- after no digit, reading the digits of a number gives the number
abbrev IsReadBack : ℕ → List ℕ → Type 0
IsReadBack n ds = n < 4294967296 → (done : List ℤ) (sign : Bool)
    → fold read_byte (record { done = done; size = 0; negative = sign }) ds ≡ record { done = done; size = n; negative = sign }

read-one : (n : ℕ) → n < 10 → IsReadBack n ((48 + n) ∷ [])
read-one n h b done sign = read-digit (record { done = done; size = 0; negative = sign }) n n h (omega arith) b

read-more : (n : ℕ) (ds : List ℕ) → 10 ≤ n → IsReadBack (n / 10) ds → IsReadBack n (ds ++ ((48 + n % 10) ∷ []))
read-more n ds h before b done sign =
    fold-append read_byte (record { done = done; size = 0; negative = sign }) ds ((48 + n % 10) ∷ [])
    ∙ ap (λ r. read_byte r (48 + n % 10)) (before (omega arith) done sign)
    ∙ read-digit (record { done = done; size = n / 10; negative = sign }) (n % 10) n (omega arith) (omega arith) b

read-decimal : (n : ℕ) → IsReadBack n (decimal n)
read-decimal n b = decimal_by_steps IsReadBack read-one read-more n (omega arith) b

-- the numbers that the format writes
abbrev pub is_small : ℤ → Bool
is_small z = nat_lt (var_of z) 4294967296

read-signed : (z : ℤ) (done : List ℤ) → is_small z ≡ true
    → numbers_of (fold read_byte (record { done = done; size = 0; negative = false }) (signed_decimal z)) ≡ done ++ z ∷ []
read-signed (pos n) done h = ap numbers_of (read-decimal n (ltb-true n 4294967296 h) done false)
read-signed (negsuc n) done h = ap numbers_of (read-decimal (suc n) (ltb-true (suc n) 4294967296 h) done true)

read-numbers : (r : Reader) (zs : List ℤ) → list_all is_small zs ≡ true → numbers_of (fold read_byte r (numbers_text zs)) ≡ numbers_of r ++ zs
read-numbers r [] h = sym (append-nil (numbers_of r))
read-numbers r (z ∷ zs) h =
    ap numbers_of (fold-append read_byte (record { done = numbers_of r; size = 0; negative = false }) (signed_decimal z) (numbers_text zs))
    ∙ read-numbers (fold read_byte (record { done = numbers_of r; size = 0; negative = false }) (signed_decimal z)) zs (and_parts (is_small z) _ h).1
    ∙ ap (λ ys. ys ++ zs) (read-signed z (numbers_of r) (and_parts (is_small z) _ h).0)
    ∙ append_assoc (numbers_of r) (z ∷ []) zs

-- the numbers of a text are those that were written, after a 0 for the text before the first space
pub guessed-numbers_text : (zs : List ℤ) → list_all is_small zs ≡ true → guessed (numbers_text zs) ≡ pos 0 ∷ zs
guessed-numbers_text zs h = read-numbers no_number zs h

-- the numbers in a line's text
abbrev pub numbers_after : Line → List ℤ
numbers_after (Add lits hints) = lits ++ pos 0 ∷ (map pos hints ++ pos 0 ∷ [])
numbers_after (Delete ns) = map pos ns ++ pos 0 ∷ []

numbers_text-append : (xs ys : List ℤ) → numbers_text (xs ++ ys) ≡ numbers_text xs ++ numbers_text ys
numbers_text-append [] ys = refl
numbers_text-append (x ∷ xs) ys = ap (λ t. codes " " ++ signed_decimal x ++ t) (numbers_text-append xs ys)
    ∙ sym (append_assoc (codes " " ++ signed_decimal x) (numbers_text xs) (numbers_text ys))

zero-text : numbers_text (pos 0 ∷ []) ≡ codes " 0"
zero-text = ap (λ t. codes " " ++ t ++ []) (decimal_digit 0 (omega arith))

-- the literals of a clause are literals
literals : (low : ℕ) (c : List ℤ) → rises_above low c ≡ true → list_all (λ l. nat_lt (var_of l) 2147483648) c ≡ true → list_all is_literal c ≡ true
literals low [] r b = refl
literals low (l ∷ c) r b =
    let here : low < var_of l = ltb-true low (var_of l) (and_parts (nat_lt low (var_of l)) _ r).0 in
    and_from _ _ (and_from _ _ (lt-ltb 0 (var_of l) (omega arith)) (and_parts (nat_lt (var_of l) 2147483648) _ b).0)
    (literals (var_of l) c (and_parts (nat_lt low (var_of l)) _ r).1 (and_parts (nat_lt (var_of l) 2147483648) _ b).1)

literals-front : (c rest : List ℤ) → list_all is_literal c ≡ true → literals_in (c ++ pos 0 ∷ rest) ≡ c
literals-front [] rest h = refl
literals-front (l ∷ c) rest h =
    ap (λ b. option_map_or (λ x. x ∷ literals_in (c ++ pos 0 ∷ rest)) (if b then Some l else None) []) (and_parts (is_literal l) _ h).0
    ∙ ap (λ ls. l ∷ ls) (literals-front c rest (and_parts (is_literal l) _ h).1)

-- the numbers of clauses that the format writes
abbrev is_numbered : ℕ → Bool
is_numbered n = nat_lt 0 n && nat_lt n 4294967296

numbers-front : (ns : List ℕ) (rest : List ℤ) → list_all is_numbered ns ≡ true → clause_numbers_in (map pos ns ++ pos 0 ∷ rest) ≡ ns
numbers-front [] rest h = refl
numbers-front (n ∷ ns) rest h =
    ap (λ b. option_map_or (λ x. x ∷ clause_numbers_in (map pos ns ++ pos 0 ∷ rest)) (if b then Some n else None) []) (and_parts (is_numbered n) _ h).0
    ∙ ap (λ ls. n ∷ ls) (numbers-front ns rest (and_parts (is_numbered n) _ h).1)

drop-past : (xs : List ℤ) (y : ℤ) (ys : List ℤ) → drop (length xs + 1) (xs ++ y ∷ ys) ≡ ys
drop-past [] y ys = refl
drop-past (x ∷ xs) y ys = let e : length (x ∷ xs) + 1 ≡ suc (length xs + 1) = omega arith in ap (λ k. drop k (x ∷ xs ++ y ∷ ys)) e ∙ drop-past xs y ys

small-literals : (c : List ℤ) → list_all (λ l. nat_lt (var_of l) 2147483648) c ≡ true → list_all is_small c ≡ true
small-literals [] h = refl
small-literals (l ∷ c) h =
    and_from _ _ (lt-ltb (var_of l) 4294967296 (let b : var_of l < 2147483648 =
    ltb-true (var_of l) 2147483648 (and_parts (nat_lt (var_of l) 2147483648) _ h).0 in omega arith))
    (small-literals c (and_parts (nat_lt (var_of l) 2147483648) _ h).1)

small-numbers : (ns : List ℕ) → list_all is_numbered ns ≡ true → list_all is_small (map pos ns) ≡ true
small-numbers [] h = refl
small-numbers (n ∷ ns) h = and_from _ _ (and_parts (nat_lt 0 n) _ (and_parts (is_numbered n) _ h).0).1 (small-numbers ns (and_parts (is_numbered n) _ h).1)

text-add : (lits : List ℤ) (hints : List ℕ) → line_text (Add lits hints) ≡ 97 ∷ numbers_text (numbers_after (Add lits hints))
text-add lits hints =
    let l : numbers_text (lits ++ pos 0 ∷ (map pos hints ++ pos 0 ∷ [])) ≡ numbers_text lits ++ numbers_text
    ((pos 0 ∷ []) ++ (map pos hints ++ pos 0 ∷ [])) = numbers_text-append lits (pos 0 ∷ (map pos hints ++ pos 0 ∷ [])) in
    let m : numbers_text ((pos 0 ∷ []) ++ (map pos hints ++ pos 0 ∷ [])) ≡ codes " 0" ++ numbers_text (map pos hints ++ pos 0 ∷ []) =
    numbers_text-append (pos 0 ∷ []) (map pos hints ++ pos 0 ∷ []) ∙ ap (λ t. t ++ numbers_text (map pos hints ++ pos 0 ∷ [])) zero-text in
    let n : numbers_text (map pos hints ++ pos 0 ∷ []) ≡ numbers_text (map pos hints) ++ codes " 0" = numbers_text-append (map pos hints) (pos 0 ∷ [])
    ∙ ap (λ t. numbers_text (map pos hints) ++ t) zero-text in
    let all : numbers_text (lits ++ pos 0 ∷ (map pos hints ++ pos 0 ∷ [])) ≡ numbers_text lits ++
    (codes " 0" ++ (numbers_text (map pos hints) ++ codes " 0")) = l ∙ ap (λ t. numbers_text lits ++ t) (m ∙ ap (λ t. codes " 0" ++ t) n) in
    let four : numbers_text lits ++ codes " 0" ++ numbers_text (map pos hints) ++ codes " 0" ≡ numbers_text lits ++
    (codes " 0" ++ (numbers_text (map pos hints) ++ codes " 0")) = append_assoc (numbers_text lits ++ codes " 0") (numbers_text (map pos hints))
    (codes " 0") ∙ append_assoc (numbers_text lits) (codes " 0") (numbers_text (map pos hints) ++ codes " 0") in
    ap (λ t. 97 ∷ t) (four ∙ sym all)

text-delete : (ns : List ℕ) → line_text (Delete ns) ≡ 100 ∷ numbers_text (numbers_after (Delete ns))
text-delete ns = ap (λ t. 100 ∷ t) (sym (numbers_text-append (map pos ns) (pos 0 ∷ []) ∙ ap (λ t. numbers_text (map pos ns) ++ t) zero-text))

not-nil : (ns : List ℕ) → not (is_nil ns) ≡ true → is_nil ns ≡ false
not-nil [] h = absurd (cc)
not-nil (n ∷ ns) h = refl

-- the letter of a line
abbrev pub letter_of : Line → ℕ
letter_of (Add lits hints) = 97
letter_of (Delete ns) = 100

pub text-of-numbers : (l : Line) → line_text l ≡ letter_of l ∷ numbers_text (numbers_after l)
text-of-numbers (Add lits hints) = text-add lits hints
text-of-numbers (Delete ns) = text-delete ns

pub small-of-line : (l : Line) → is_readable l ≡ true → list_all is_small (numbers_after l) ≡ true
small-of-line (Add lits hints) h =
    let front : (is_clause lits && list_all (λ l. nat_lt (var_of l) 2147483648) lits) ≡ true = (and_parts _ (list_all is_numbered hints) h).0 in
    let ns : list_all is_numbered hints ≡ true = (and_parts (is_clause lits && list_all (λ l. nat_lt (var_of l) 2147483648) lits) _ h).1 in
    let bound : list_all (λ l. nat_lt (var_of l) 2147483648) lits ≡ true = (and_parts (is_clause lits) _ front).1 in
    list_all-append is_small lits (pos 0 ∷ (map pos hints ++ pos 0 ∷ []))
    ∙ and_from _ _ (small-literals lits bound) (list_all-append is_small (map pos hints) (pos 0 ∷ []) ∙ and_from _ true (small-numbers hints ns) refl)
small-of-line (Delete ns) h =
    let all : list_all is_numbered ns ≡ true = (and_parts (not (is_nil ns)) _ h).1 in
    list_all-append is_small (map pos ns) (pos 0 ∷ []) ∙ and_from _ true (small-numbers ns all) refl

-- the guess for the text of a line is that line
pub line_guess-line_text : (l : Line) → is_readable l ≡ true → line_guess (line_text l) ≡ Some l
line_guess-line_text (Add lits hints) h =
    let front : (is_clause lits && list_all (λ l. nat_lt (var_of l) 2147483648) lits) ≡ true = (and_parts _ (list_all is_numbered hints) h).0 in
    let ns : list_all is_numbered hints ≡ true = (and_parts (is_clause lits && list_all (λ l. nat_lt (var_of l) 2147483648) lits) _ h).1 in
    let clause : is_clause lits ≡ true = (and_parts _ _ front).0 in
    let bound : list_all (λ l. nat_lt (var_of l) 2147483648) lits ≡ true = (and_parts (is_clause lits) _ front).1 in
    let zs : List ℤ = lits ++ pos 0 ∷ (map pos hints ++ pos 0 ∷ []) in
    let small : list_all is_small zs ≡ true = small-of-line (Add lits hints) h in
    let read : drop 1 (guessed (numbers_text zs)) ≡ zs = ap (drop 1) (guessed-numbers_text zs small) in
    let found : literals_in zs ≡ lits = literals-front lits (map pos hints ++ pos 0 ∷ []) (literals 0 lits clause bound) in
    let after : clause_numbers_in (drop (length lits + 1) zs) ≡ hints = ap clause_numbers_in (drop-past lits (pos 0) (map pos hints ++ pos 0 ∷ []))
    ∙ numbers-front hints [] ns in
    ap line_guess (text-add lits hints)
    ∙ ap add_of read
    ∙ ap (λ ls. if is_clause ls then Some (Add ls (clause_numbers_in (drop (length ls + 1) zs))) else None) found
    ∙ ap (λ b. if b then Some (Add lits (clause_numbers_in (drop (length lits + 1) zs))) else None) clause
    ∙ ap (λ ms. Some (Add lits ms)) after
line_guess-line_text (Delete ns) h =
    let some : is_nil ns ≡ false = not-nil ns (and_parts (not (is_nil ns)) _ h).0 in
    let all : list_all is_numbered ns ≡ true = (and_parts (not (is_nil ns)) _ h).1 in
    let zs : List ℤ = map pos ns ++ pos 0 ∷ [] in
    let small : list_all is_small zs ≡ true = small-of-line (Delete ns) h in
    let read : drop 1 (guessed (numbers_text zs)) ≡ zs = ap (drop 1) (guessed-numbers_text zs small) in
    ap line_guess (text-delete ns)
    ∙ ap delete_of read
    ∙ ap (λ ms. if is_nil ms then None else Some (Delete ms)) (numbers-front ns [] all)
    ∙ ap (λ b. if b then None else Some (Delete ns)) some

-- each guessed line is one that the format allows
literal-bound : (z : ℤ) (zs : List ℤ) (b : Bool) → is_literal z ≡ b → list_all (λ l. nat_lt (var_of l) 2147483648) (literals_in zs) ≡ true
    → list_all (λ l. nat_lt (var_of l) 2147483648) (option_map_or (λ x. x ∷ literals_in zs) (if b then Some z else None) []) ≡ true
literal-bound z zs true e h = and_from _ _ (and_parts (nat_lt 0 (var_of z)) _ e).1 h
literal-bound z zs false e h = refl

number-bound : (z : ℤ) (zs : List ℤ) (b : Bool) → is_clause_number z ≡ b → list_all is_numbered (clause_numbers_in zs) ≡ true
    → list_all is_numbered (option_map_or (λ x. x ∷ clause_numbers_in zs) (if b then Some (var_of z) else None) []) ≡ true
number-bound (pos n) zs true e h = and_from _ _ e h
number-bound (negsuc n) zs true e h = absurd (cc)
number-bound z zs false e h = refl

numbers-bound : (zs : List ℤ) → list_all is_numbered (clause_numbers_in zs) ≡ true
numbers-bound [] = refl
numbers-bound (z ∷ zs) = number-bound z zs (is_clause_number z) refl (numbers-bound zs)

literals-bound : (zs : List ℤ) → list_all (λ l. nat_lt (var_of l) 2147483648) (literals_in zs) ≡ true
literals-bound [] = refl
literals-bound (z ∷ zs) = literal-bound z zs (is_literal z) refl (literals-bound zs)

add-readable : (zs : List ℤ) (l : Line) (b : Bool) → is_clause (literals_in zs) ≡ b
    → (if b then Some (Add (literals_in zs) (clause_numbers_in (drop (length (literals_in zs) + 1) zs))) else None) ≡ Some l → is_readable l ≡ true
add-readable zs l true e h =
    let same : Add (literals_in zs) (clause_numbers_in (drop (length (literals_in zs) + 1) zs)) ≡ l = cc in
    ap is_readable (sym same) ∙ and_from _ _ (and_from _ _ e (literals-bound zs)) (numbers-bound (drop (length (literals_in zs) + 1) zs))
add-readable zs l false e h = absurd (cc)

delete-readable : (zs : List ℤ) (l : Line) (b : Bool) → is_nil (clause_numbers_in zs) ≡ b
    → (if b then None else Some (Delete (clause_numbers_in zs))) ≡ Some l → is_readable l ≡ true
delete-readable zs l true e h = absurd (cc)
delete-readable zs l false e h =
    let same : Delete (clause_numbers_in zs) ≡ l = cc in
    ap is_readable (sym same) ∙ and_from _ _ (ap not e) (numbers-bound zs)

by-readable : (zs : List ℤ) (l : Line) (a d : Bool) → (if a then add_of zs else (if d then delete_of zs else None)) ≡ Some l → is_readable l ≡ true
by-readable zs l true d h = add-readable zs l (is_clause (literals_in zs)) refl h
by-readable zs l false true h = delete-readable zs l (is_nil (clause_numbers_in zs)) refl h
by-readable zs l false false h = absurd (cc)

pub line_guess-readable : (bytes : List ℕ) (l : Line) → line_guess bytes ≡ Some l → is_readable l ≡ true
line_guess-readable [] l h = absurd (cc)
line_guess-readable (b ∷ bs) l h = by-readable (drop 1 (guessed bs)) l (nat_eq b 97) (nat_eq b 100) h

-- bytes other than the text of their guess aren't the text of any line
pub no-line : (bytes : List ℕ) (o : Option Line) → line_guess bytes ≡ o → MatchOption o ⊤ (λ l. line_text l ≡ bytes → ⊥) → IsNoLine bytes
no-line bytes None e h l r t = absurd (let g : line_guess bytes ≡ Some l = ap line_guess (sym t) ∙ line_guess-line_text l r in cc)
no-line bytes (Some k) e h l r t = let g : line_guess bytes ≡ Some l = ap line_guess (sym t) ∙ line_guess-line_text l r in let same : l ≡ k = cc
    in h (ap line_text (sym same) ∙ t)
