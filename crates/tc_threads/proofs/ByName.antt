-- A `BTreeMap` by name, as a finite map.
use Rattle.std.proofs.Common.{◌≡◌, ◌+◌, ◌≤◌, ℕ, zero, suc, length, List, [], ◌∷◌, refl, ap, sym, subst}
use Rattle.std.proofs.Common.{◌∙◌, Option, Some, None, Bool, true, false, cond, not, arith}
use Rattle.std.specs.Option.{IfSome, IsSomeAnd}
use Rattle.std.specs.FinMap as fin
use Rattle.std.specs.FinMap.{get, insert, find, put, get-from_entries, from_entries, entries, entries-insert, get-insert, len-entries, len-empty, same_map}
use Rattle.std.specs.List.{All, AllByRecursion, position_or_len}
use Rattle.std.specs.List as list
use Rattle.std.specs.List.Sorted.{IsStrictlySortedBy}
use Rattle.std.specs.Ordering.{nat_cmp, eq_by_cmp, is_lt, match_ordering}
use Rattle.std.specs.declared.cmp.Ordering.{Ordering}
use Rattle.std.specs.declared.cmp.Ordering.TheVariants.{Less, Equal, Greater}
use Rattle.std.specs.Cmp.{eq_by_cmp_equiv, Equal-is}
use Rattle.std.specs.Cmp.Lexicographic.{slice_cmp}
use Rattle.std.specs.Map.{lookup, keys_of}
use Rattle.std.specs.BTreeMap.{is_at, insert_entry}
use Rattle.std.proofs.lemmas.Cmp.{nat_list_cmp_total}
use Rattle.std.proofs.lemmas.List.{nil_from_length}
use Rattle.std.proofs.lemmas.List.Elements.{All-weaker}
use Rattle.std.proofs.lemmas.List.Sums.{prefix_len-le-length}
use Rattle.std.proofs.lemmas.Option.{none-some}
use Rattle.std.proofs.lemmas.Map.Lookups.{exact_bytes}
use Rattle.std.proofs.lemmas.Map.Keys.{sorted_head, sorted_tail}
use Rattle.tc_base.specs.Names.{Name, ByName}

-- the value of the first entry under a name
abbrev pub at_name : {X : Type 0} → List (Name × X) → Name → Option X
at_name es n = lookup (is_at (slice_cmp nat_cmp n)) es

-- the map of some entries
abbrev pub map_of : {X : Type 0} → List (Name × X) → ByName X
map_of es = from_entries {R = slice_cmp nat_cmp} es

find-at_name : {X : Type 0} (es : List (Name × X)) (n : Name) → find (slice_cmp nat_cmp) n es ≡ at_name es n
find-at_name [] n = refl
find-at_name (e ∷ es) n = ap (cond (is_at (slice_cmp nat_cmp n) e.0) (Some e.1)) (find-at_name es n)

-- the value of the map of some entries at a name
pub get-map_of : {X : Type 0} (es : List (Name × X)) (n : Name) → get (map_of es) n ≡ at_name es n
get-map_of es n = get-from_entries nat_list_cmp_total es n ∙ find-at_name es n

-- the value of any map with these entries at a name
pub get_of_entries : {X : Type 0} (es : List (Name × X)) (m : ByName X) (n : Name) → map_of es ≡ m → get m n ≡ at_name es n
get_of_entries es m n e = ap (λ k. get k n) (sym e) ∙ get-map_of es n

-- the map has each of the entries found among them
pub all_there : {X : Type 0} (es : List (Name × X)) (m : ByName X) → map_of es ≡ m → All (λ e. at_name es e.0 ≡ Some e.1) es
    → All (λ e. get m e.0 ≡ Some e.1) es
all_there es m is found = All-weaker (λ e. at_name es e.0 ≡ Some e.1) (λ e. get m e.0 ≡ Some e.1) (λ e h. get_of_entries es m e.0 is ∙ h) es found

-- changing the entries at one name changes the map there
pub map_of_update : {X : Type 0} (es fs : List (Name × X)) (n : Name) (x : X)
    → ((q : Name) → at_name fs q ≡ cond (is_at (slice_cmp nat_cmp n) q) (Some x) (at_name es q)) → map_of fs ≡ insert (map_of es) n x
map_of_update es fs n x h = same_map nat_list_cmp_total exact_bytes _ _ (λ q.
    get-map_of fs q ∙ h q ∙ ap (λ b. cond b (Some x) (at_name es q)) ((eq_by_cmp_equiv nat_list_cmp_total).symm n q)
    ∙ sym (get-insert nat_list_cmp_total (map_of es) n x q ∙ ap (cond (is_at (slice_cmp nat_cmp q) n) (Some x)) (get-map_of es q)))

cond_same : {A : Type 0} (b : Bool) (x y : A) → (b ≡ true → x ≡ y) → cond b x y ≡ y
cond_same true x y h = h refl
cond_same false x y h = refl

-- putting in the value that is there changes nothing
pub insert_same : {X : Type 0} (m : ByName X) (n : Name) (x : X) → get m n ≡ Some x → insert m n x ≡ m
insert_same m n x there = same_map nat_list_cmp_total exact_bytes _ _ (λ q.
    get-insert nat_list_cmp_total m n x q
    ∙ cond_same _ (Some x) (get m q) (λ same. sym there ∙ ap (get m) (sym (exact_bytes q n ((Equal-is _).0 same)))))

put_first : {X : Type 0} (n : Name) (x : X) (es : List (Name × X)) → AllByRecursion (λ q. slice_cmp nat_cmp n q ≡ Less) (keys_of es)
    → put (slice_cmp nat_cmp) n x es ≡ (n, x) ∷ es
put_first n x [] h = refl
put_first n x (e ∷ es) h = rw h.0 refl

-- entries in order are those of their map
pub entries-map_of : {X : Type 0} (es : List (Name × X)) → IsStrictlySortedBy (slice_cmp nat_cmp) (keys_of es) → entries (map_of es) ≡ es
entries-map_of {X} [] h = nil_from_length _ (sym (len-entries fin.empty) ∙ len-empty (slice_cmp nat_cmp) X)
entries-map_of (e ∷ es) h =
    entries-insert nat_list_cmp_total (map_of es) e.0 e.1
    ∙ ap (put (slice_cmp nat_cmp) e.0 e.1) (entries-map_of es (sorted_tail _ e.0 (keys_of es) h))
    ∙ put_first e.0 e.1 es (sorted_head _ e.0 (keys_of es) h)

-- names in order are those of their map
pub keys-map_of : {X : Type 0} (es : List (Name × X)) → IsStrictlySortedBy (slice_cmp nat_cmp) (keys_of es) → fin.keys (map_of es) ≡ keys_of es
keys-map_of es h = ap keys_of (entries-map_of es h)

-- the place of a new name in the order of names
abbrev pub place_of : Name → List Name → ℕ
place_of n ks = position_or_len (λ k. is_lt (slice_cmp nat_cmp n k)) ks

shifted : (k n : Name) (ks : List Name) (i j : ℕ) → j ≡ suc i → list.insert (k ∷ ks) j n ≡ k ∷ list.insert ks i n
shifted k n ks i j e = ap (λ j. list.insert (k ∷ ks) j n) e

listed_at : {X : Type 0} (n : Name) (x : X) (e : Name × X) (es : List (Name × X)) (o : Ordering) → slice_cmp nat_cmp n e.0 ≡ o
    → at_name (e ∷ es) n ≡ None → (at_name es n ≡ None → keys_of (insert_entry (slice_cmp nat_cmp) es n x) ≡ list.insert (keys_of es)
    (place_of n (keys_of es)) n) → keys_of (match_ordering o ((n, x) ∷ e ∷ es) ((e.0, x) ∷ es) (e ∷ insert_entry (slice_cmp nat_cmp) es n x))
    ≡ list.insert (e.0 ∷ keys_of es) (cond (not (is_lt o)) (1 + place_of n (keys_of es)) 0) n
listed_at n x e es Less is none rest = refl
listed_at n x e es Equal is none rest = absurd (none-some e.1 (sym none ∙ rw is refl))
listed_at n x e es Greater is none rest =
    ap (λ ks. e.0 ∷ ks) (rest (sym (rw is refl) ∙ none))
    ∙ sym (shifted e.0 n (keys_of es) (place_of n (keys_of es)) (1 + place_of n (keys_of es)) (omega arith))

-- the name of a new entry goes to its place among the names
pub keys_of_insert : {X : Type 0} (n : Name) (x : X) (es : List (Name × X)) → at_name es n ≡ None
    → keys_of (insert_entry (slice_cmp nat_cmp) es n x) ≡ list.insert (keys_of es) (place_of n (keys_of es)) n
keys_of_insert n x [] none = refl
keys_of_insert n x (e ∷ es) none = listed_at n x e es _ refl none (keys_of_insert n x es)

-- the names stay those of the entries when an entry is put in
pub keys_after_insert : {X : Type 0} (es fs : List (Name × X)) (names new : List Name) (at : ℕ) (n k : Name) (x : X) → at_name es n ≡ None
    → names ≡ keys_of es → k ≡ n → at ≡ place_of k names → new ≡ list.insert names at k → fs ≡ insert_entry (slice_cmp nat_cmp) es n x → new ≡ keys_of fs
keys_after_insert es fs names new at n k x none keys same place put is =
    put ∙ ap (λ j. list.insert names j k) place
    ∙ ap (λ ns. list.insert ns (place_of k ns) k) keys
    ∙ ap (λ m. list.insert (keys_of es) (place_of m (keys_of es)) m) same
    ∙ sym (keys_of_insert n x es none) ∙ ap keys_of (sym is)

-- removing what was inserted at a place restores the list
pub remove-insert : {A : Type 0} (xs : List A) (i : ℕ) (x : A) → i ≤ length xs → list.remove (list.insert xs i x) i ≡ xs
remove-insert xs zero x h = refl
remove-insert [] (suc i) x h = absurd (omega arith)
remove-insert (y ∷ ys) (suc i) x h = ap (λ zs. y ∷ zs) (remove-insert ys i x (omega arith))

-- the names stay those of the entries when the name is removed and no entry is put in
pub keys_after_undo : {X : Type 0} (es fs : List (Name × X)) (names new back : List Name) (at : ℕ) (k : Name) → names ≡ keys_of es
    → at ≡ place_of k names → new ≡ list.insert names at k → back ≡ list.remove new at → fs ≡ es → back ≡ keys_of fs
keys_after_undo es fs names new back at k keys place put out same =
    out ∙ ap (λ ns. list.remove ns at) put
    ∙ remove-insert names at k (subst (λ j. j ≤ length names) (sym place) (prefix_len-le-length (λ m. not (is_lt (slice_cmp nat_cmp k m))) names))
    ∙ keys ∙ ap keys_of (sym same)

unlike : {X : Type 0} (m : ByName X) (n k : Name) (t : X) → get m n ≡ Some t → get m k ≡ None → n ≡ k → ⊥
unlike m n k t there new same = none-some t (sym new ∙ ap (get m) (sym same) ∙ there)

-- names that the order takes as equal are the same
pub tied : (n k : Name) → eq_by_cmp (slice_cmp nat_cmp) n k ≡ true → n ≡ k
tied n k e = exact_bytes n k ((Equal-is _).0 e)

other_at : {X : Type 0} (m : ByName X) (n k : Name) (t y : X) → get m n ≡ Some t → get m k ≡ None → (b : Bool)
    → eq_by_cmp (slice_cmp nat_cmp) n k ≡ b → cond b (Some y) (get m n) ≡ get m n
other_at m n k t y there new true e = absurd (unlike m n k t there new (tied n k e))
other_at m n k t y there new false e = refl

-- adding a new name keeps the others
pub get-insert_new : {X : Type 0} (m : ByName X) (n k : Name) (t y : X) → get m n ≡ Some t → get m k ≡ None → get (insert m k y) n ≡ get m n
get-insert_new m n k t y there new = get-insert nat_list_cmp_total m k y n ∙ other_at m n k t y there new _ refl

either_first : {X : Type 0} (m : ByName X) (n k q : Name) (t x y : X) → get m n ≡ Some t → get m k ≡ None → (b c : Bool)
    → eq_by_cmp (slice_cmp nat_cmp) q n ≡ b → eq_by_cmp (slice_cmp nat_cmp) q k ≡ c
    → cond b (Some x) (cond c (Some y) (get m q)) ≡ cond c (Some y) (cond b (Some x) (get m q))
either_first m n k q t x y there new true true e f = absurd (unlike m n k t there new (sym (tied q n e) ∙ tied q k f))
either_first m n k q t x y there new true false e f = refl
either_first m n k q t x y there new false c e f = refl

-- adding a new name and replacing an old one commute
pub insert-insert_new : {X : Type 0} (m : ByName X) (n k : Name) (t x y : X) → get m n ≡ Some t → get m k ≡ None
    → insert (insert m k y) n x ≡ insert (insert m n x) k y
insert-insert_new m n k t x y there new = same_map nat_list_cmp_total exact_bytes _ _ (λ q.
    get-insert nat_list_cmp_total (insert m k y) n x q
    ∙ ap (cond (eq_by_cmp (slice_cmp nat_cmp) q n) (Some x)) (get-insert nat_list_cmp_total m k y q)
    ∙ either_first m n k q t x y there new _ _ refl refl
    ∙ sym (get-insert nat_list_cmp_total (insert m n x) k y q ∙ ap (cond (eq_by_cmp (slice_cmp nat_cmp) q k) (Some y)) (get-insert nat_list_cmp_total m n x q)))

pub untied : (n k : Name) → (n ≡ k → ⊥) → (b : Bool) → eq_by_cmp (slice_cmp nat_cmp) n k ≡ b → b ≡ false
untied n k other true e = absurd (other (tied n k e))
untied n k other false e = refl

-- the first entry is the value at its name
pub first_at_name : {X : Type 0} (es rest : List (Name × X)) (n q : Name) (x : X) → es ≡ (n, x) ∷ rest → q ≡ n → at_name es q ≡ Some x
first_at_name es rest n q x e same =
    ap (λ fs. at_name fs q) e
    ∙ ap (λ b. cond b (Some x) (at_name rest q)) (ap (eq_by_cmp (slice_cmp nat_cmp) q) (sym same) ∙ (eq_by_cmp_equiv nat_list_cmp_total).refl q)

-- at other names the remaining entries count
pub further_at_name : {X : Type 0} (es rest : List (Name × X)) (n q : Name) (x : X) → es ≡ (n, x) ∷ rest → (q ≡ n → ⊥) → at_name es q ≡ at_name rest q
further_at_name es rest n q x e other =
    ap (λ fs. at_name fs q) e
    ∙ ap (λ b. cond b (Some x) (at_name rest q)) (untied q n other _ refl)

-- a fact of the thread under a name, and that thread
pub there_and : {X : Type 0} (P : X → Type 0) (o : Option X) → IsSomeAnd o P → (x : X) × (o ≡ Some x) × P x
there_and P None h = absurd h
there_and P (Some x) h = (x, refl, h)

-- adding a new name, and then replacing the value of an old one
pub after_new : {X : Type 0} (m u v : ByName X) (n k : Name) (y : X) (f : X → X) (t : X) → get m n ≡ Some t → get m k ≡ None → u ≡ insert m k y
    → IfSome (get u n) (λ t. v ≡ insert u n (f t)) → IfSome (get m n) (λ t. v ≡ insert (insert m n (f t)) k y)
after_new m u v n k y f t there new e h =
    let at : get u n ≡ Some t = ap (λ w. get w n) e ∙ get-insert_new m n k t y there new ∙ there in
    let is : v ≡ insert u n (f t) = subst (λ o. IfSome o (λ t. v ≡ insert u n (f t))) at h in
    subst (λ o. IfSome o (λ t. v ≡ insert (insert m n (f t)) k y)) (sym there)
    (is ∙ ap (λ w. insert w n (f t)) e ∙ insert-insert_new m n k t (f t) y there new)
