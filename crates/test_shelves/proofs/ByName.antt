-- A `BTreeMap` from texts, as a finite map from their bytes.
use Rattle.std.proofs.Common.{◌≡◌, ℕ, Bool, true, false, List, [], ◌∷◌, map, refl, ap, sym, ◌∙◌, Option, Some, cond, option_map, String, string_bytes}
use Rattle.std.specs.FinMap.{get, insert, find, get-from_entries, from_entries, get-insert, same_map}
use Rattle.std.specs.Ordering.{nat_cmp, eq_by_cmp}
use Rattle.std.specs.Cmp.{eq_by_cmp_equiv}
use Rattle.std.specs.Cmp.Lexicographic.{slice_cmp}
use Rattle.std.specs.String.{string_cmp}
use Rattle.std.specs.Str.{bytes_eq}
use Rattle.std.specs.BTreeMap.{BTreeMap, UpdatesBy, get_by_text, is_at}
use Rattle.std.specs.Map.{lookup}
use Rattle.std.proofs.lemmas.Cmp.{nat_list_cmp_total}
use Rattle.std.proofs.lemmas.Map.Lookups.{exact_bytes}
use Rattle.std.proofs.lemmas.Map.Text.{btree_map_updates_text, is_eq-slice_cmp, text_cmp}
use Rattle.tc_io.specs.Outside.{Files}

-- the entries by their bytes
abbrev pub bytes_by_name : {Y X : Type 0} → (X → List ℕ) → List (String Y × X) → List (List ℕ × List ℕ)
bytes_by_name bytes_of es = map (λ e. (string_bytes e.0, bytes_of e.1)) es

option_map-cond : {X Y : Type 0} (f : X → Y) (b : Bool) (x y : Option X) → option_map f (cond b x y) ≡ cond b (option_map f x) (option_map f y)
option_map-cond f true x y = refl
option_map-cond f false x y = refl

find_text : {Y X : Type 0} (bytes_of : X → List ℕ) (es : List (String Y × X)) (q : List ℕ)
    → find (slice_cmp nat_cmp) q (bytes_by_name bytes_of es) ≡ option_map bytes_of (lookup (is_at (text_cmp q)) es)
find_text bytes_of [] q = refl
find_text bytes_of (e ∷ es) q =
    ap (cond (is_at (text_cmp q) e.0) (Some (bytes_of e.1))) (find_text bytes_of es q)
    ∙ sym (option_map-cond bytes_of (is_at (text_cmp q) e.0) (Some e.1) (lookup (is_at (text_cmp q)) es))

-- the value of the map under a name
pub get_text : {Y X : Type 0} (bytes_of : X → List ℕ) (m : BTreeMap (String Y) X) (q : List ℕ)
    → get (from_entries {R = slice_cmp nat_cmp} (bytes_by_name bytes_of m.entries)) q ≡ option_map bytes_of (get_by_text m q)
get_text bytes_of m q = get-from_entries nat_list_cmp_total _ q ∙ find_text bytes_of m.entries q

-- the map after an insertion under a name
pub insert_text : {Y X : Type 0} (bytes_of : X → List ℕ) (m n : BTreeMap (String Y) X) (name : List ℕ) (x : X)
    → UpdatesBy string_cmp (λ k. slice_cmp nat_cmp name (string_bytes k)) m n (Some x)
    → from_entries {R = slice_cmp nat_cmp} (bytes_by_name bytes_of n.entries) ≡ insert (from_entries (bytes_by_name bytes_of m.entries)) name (bytes_of x)
insert_text bytes_of m n name x u = same_map nat_list_cmp_total exact_bytes _ _ (λ q.
    get_text bytes_of n q
    ∙ ap (option_map bytes_of) (btree_map_updates_text name m n (Some x) u q)
    ∙ option_map-cond bytes_of (bytes_eq name q) (Some x) (get_by_text m q)
    ∙ ap (λ b. cond b (Some (bytes_of x)) (option_map bytes_of (get_by_text m q))) (sym (is_eq-slice_cmp name q)
    ∙ (eq_by_cmp_equiv nat_list_cmp_total).symm name q)
    ∙ sym (get-insert nat_list_cmp_total (from_entries (bytes_by_name bytes_of m.entries)) name (bytes_of x) q
    ∙ ap (cond (eq_by_cmp (slice_cmp nat_cmp) q name) (Some (bytes_of x))) (get_text bytes_of m q)))

-- the same, from the parts
pub put_text : {Y X : Type 0} (bytes_of : X → List ℕ) (m n : BTreeMap (String Y) X) (key : String Y) (x : X) (held : Files) (name bytes : List ℕ)
    → UpdatesBy string_cmp (string_cmp key) m n (Some x) → string_bytes key ≡ name → bytes_of x ≡ bytes
    → from_entries {R = slice_cmp nat_cmp} (bytes_by_name bytes_of m.entries) ≡ held
    → from_entries {R = slice_cmp nat_cmp} (bytes_by_name bytes_of n.entries) ≡ insert held name bytes
put_text bytes_of m n key x held name bytes u is_name is_bytes is_held =
    insert_text bytes_of m n (string_bytes key) x u ∙ ap (λ k. insert (from_entries (bytes_by_name bytes_of m.entries)) k (bytes_of x)) is_name
    ∙ ap (insert (from_entries (bytes_by_name bytes_of m.entries)) name) is_bytes ∙ ap (λ h. insert h name bytes) is_held
