-- The states of a reader of an answer, and the form of the answer.
use Rattle.std.proofs.Common.{◌≡◌, ◌∙◌, ℕ, zero, suc, Bool, true, false, List, [], ◌∷◌, ◌++◌, map, length, ℤ, Option, Some, None, refl, sym, ap, subst, append_assoc, arith}
use Rattle.std.specs.Prelude.{pos, negsuc, neg_ℤ, codes, if◌then◌else◌}
use Rattle.std.specs.List.{filter, flat_map, list_all}
use Rattle.std.specs.Fmt.{signed_decimal}
use Rattle.std.specs.Option.{option_and_then}
use Rattle.std.specs.Ordering.{int_eq}
use Rattle.std.specs.Str.{bytes_eq}
use Rattle.std.proofs.lemmas.Bool.{and_from, and_parts, cond-true, false≢true, lt-ltb}
use Rattle.std.proofs.lemmas.List.{append-nil}
use Rattle.std.proofs.lemmas.List.Folds.{list_all-append}
use Rattle.std.proofs.lemmas.Slice.Eq.{bytes_eq-Decides}
use Rattle.indexmap.specs.IndexSet.{insert_key}
use Rattle.dimacs_text.specs.Answers.{AreAnswerWith, HaveNoOpposites, each_once, is_among, is_blank, is_literal, is_skipped, is_word, pieces, trimmed, unskipped, value_words, words_in, words_of}
use Rattle.dimacs_text.specs.declared.said.Said.{Said}
use Rattle.dimacs_text.specs.declared.said.Said.TheVariants.{Nothing, Begun, Whole}
use Rattle.dimacs_text.specs.declared.words.Word.{Word}
use Rattle.dimacs_text.specs.declared.words.Word.TheVariants.{Literal, End}
use Rattle.dimacs_text.specs.helpers.Reading.{after_any, after_line, after_parts, after_values, after_word, word_in}
use Rattle.dimacs_text.proofs.Once.{among_once, apart_more, front_apart, once_more, opposite_not_before}
use Rattle.dimacs_text.proofs.Spelled.{IsOf, end_again, literal_again, word_is}

-- ---- words

module _ {S T : Type 0} where
  same_then : (f g : S → Option T) → ((s : S) → f s ≡ g s) → (o : Option S) → option_and_then f o ≡ option_and_then g o
  same_then f g same None = refl
  same_then f g same (Some s) = same s

  -- the first of two steps has a result
  pub is_first : (f : S → Option T) (o : Option S) (t : T) → option_and_then f o ≡ Some t → (s : S) × (o ≡ Some s) × (f s ≡ Some t)
  is_first f None t is = absurd cc
  is_first f (Some s) t is = (s, refl, is)

-- the state after a word
abbrev after_bytes : Said → List ℕ → Option Said
after_bytes s w = option_and_then (after_word s) (word_in w)

-- the state after some words
abbrev after_words : Said → List (List ℕ) → Option Said
after_words s [] = Some s
after_words s (w ∷ ws) = option_and_then (λ next. after_words next ws) (after_bytes s w)

-- parts that aren't words change nothing
parts_words : (s : Said) (parts : List (List ℕ)) → after_parts s parts ≡ after_words s (filter is_word parts)
parts_words s [] = refl
parts_words s ([] ∷ parts) = parts_words s parts
parts_words s ((b ∷ bytes) ∷ parts) =
    let word : is_word (b ∷ bytes) ≡ true = lt-ltb 0 (length (b ∷ bytes)) (omega arith) in
    same_then (λ next. after_parts next parts) (λ next. after_words next (filter is_word parts)) (λ next. parts_words next parts) (after_bytes s (b ∷ bytes))
    ∙ ap (after_words s) (sym (cond-true (is_word (b ∷ bytes)) ((b ∷ bytes) ∷ filter is_word parts) (filter is_word parts) word))

-- some literals after others, and all that are kept
record Adds (old ns kept : List ℤ) : Type 0 where
  are_literals : list_all is_literal ns ≡ true
  no_opposites : HaveNoOpposites (old ++ ns)
  kept_are : kept ≡ each_once (old ++ ns)

-- the meaning of words after old literals
abbrev Says : List ℤ → List (List ℕ) → Said → Type 0
Says old words Nothing = ⊥
Says old words (Begun kept) = (ns : List ℤ) × (words ≡ map signed_decimal ns) × Adds old ns kept
Says old words (Whole kept) = (ns : List ℤ) × (words ≡ map signed_decimal ns ++ codes "0" ∷ []) × Adds old ns kept

-- nothing may follow the last literal
none_after : (kept : List ℤ) (o : Option Word) → option_and_then (after_word (Whole kept)) o ≡ None
none_after kept None = refl
none_after kept (Some w) = refl

whole_ends : (kept : List ℤ) (ws : List (List ℕ)) (s : Said) → after_words (Whole kept) ws ≡ Some s → (ws ≡ []) × (Whole kept ≡ s)
whole_ends kept [] s is = let e : Some (Whole kept) ≡ Some s = is in (refl, cc)
whole_ends kept (w ∷ ws) s is =
    let e : None ≡ Some s = ap (option_and_then (λ next. after_words next ws)) (sym (none_after kept (word_in w))) ∙ is in absurd cc

adds_none : (old : List ℤ) → HaveNoOpposites old → Adds old [] (each_once old)
adds_none old apart = record {
  are_literals = refl;
  no_opposites = subst HaveNoOpposites (sym (append-nil old)) apart;
  kept_are = ap each_once (sym (append-nil old));
}

-- one literal before others
adds_first : (old : List ℤ) (l : ℤ) (ns kept : List ℤ) → is_literal l ≡ true → Adds (old ++ l ∷ []) ns kept → Adds old (l ∷ ns) kept
adds_first old l ns kept is adds = record {
  are_literals = and_from (is_literal l) (list_all is_literal ns) is adds.are_literals;
  no_opposites = subst HaveNoOpposites (append_assoc old (l ∷ []) ns) adds.no_opposites;
  kept_are = adds.kept_are ∙ ap each_once (append_assoc old (l ∷ []) ns);
}

says_first : (old : List ℤ) (l : ℤ) (ws : List (List ℕ)) (s : Said) → is_literal l ≡ true → Says (old ++ l ∷ []) ws s
    → Says old (signed_decimal l ∷ ws) s
says_first old l ws Nothing is says = says
says_first old l ws (Begun kept) is says = (l ∷ says.0, ap (λ us. signed_decimal l ∷ us) says.1, adds_first old l says.0 kept is says.2)
says_first old l ws (Whole kept) is says = (l ∷ says.0, ap (λ us. signed_decimal l ∷ us) says.1, adds_first old l says.0 kept is says.2)

-- no literal is its own opposite
not_own : (l : ℤ) → is_literal l ≡ true → neg_ℤ l ≡ l → ⊥
not_own (pos zero) is same = let e : false ≡ true = is in absurd (false≢true e)
not_own (pos (suc n)) is same = let e : negsuc n ≡ pos (suc n) = same in cc
not_own (negsuc n) is same = let e : pos (suc n) ≡ negsuc n = same in cc

module _ (old : List ℤ) (apart : HaveNoOpposites old) (w : List ℕ) (ws : List (List ℕ)) (s : Said) where
  abbrev SaysMore : Type 0
  SaysMore = (l : ℤ) → HaveNoOpposites (old ++ l ∷ []) → after_words (Begun (each_once (old ++ l ∷ []))) ws ≡ Some s → Says (old ++ l ∷ []) ws s

  by_literal : (l : ℤ) → is_literal l ≡ true → w ≡ signed_decimal l → (next : Said) → (e : Bool) → is_among (each_once old) (neg_ℤ l) ≡ e
      → (if e then None else Some (Begun (insert_key int_eq (each_once old) l))) ≡ Some next → after_words next ws ≡ Some s → SaysMore
      → Says old (w ∷ ws) s
  by_literal l is bytes next true among says rest more = let e : None ≡ Some next = says in absurd cc
  by_literal l is bytes next false among says rest more =
      let e : Some (Begun (insert_key int_eq (each_once old) l)) ≡ Some next = says in
      let next_is : next ≡ Begun (insert_key int_eq (each_once old) l) = cc in
      let all_apart = apart_more old l apart (sym (among_once old (neg_ℤ l)) ∙ among) (not_own l is) in
      let read : after_words (Begun (each_once (old ++ l ∷ []))) ws ≡ Some s =
      ap (λ k. after_words (Begun k) ws) (once_more old l) ∙ ap (λ n. after_words n ws) (sym next_is) ∙ rest in
      subst (λ b. Says old (b ∷ ws) s) (sym bytes) (says_first old l ws s is (more l all_apart read))

  by_word : (v : Word) → IsOf v w → (next : Said) → after_word (Begun (each_once old)) v ≡ Some next → after_words next ws ≡ Some s → SaysMore
      → Says old (w ∷ ws) s
  by_word (Literal l) bytes next says rest more =
      by_literal l bytes.0 bytes.1 next (is_among (each_once old) (neg_ℤ l)) refl says rest more
  by_word End bytes next says rest more =
      let e : Some (Whole (each_once old)) ≡ Some next = says in
      let next_is : next ≡ Whole (each_once old) = cc in
      let ended = whole_ends (each_once old) ws s (ap (λ n. after_words n ws) (sym next_is) ∙ rest) in
      let words : w ∷ ws ≡ codes "0" ∷ [] = cc in
      subst (Says old (w ∷ ws)) ended.1 ([], words, adds_none old apart)

-- words have this meaning
words_say : (old : List ℤ) → HaveNoOpposites old → (ws : List (List ℕ)) (s : Said) → after_words (Begun (each_once old)) ws ≡ Some s → Says old ws s
words_say old apart [] s is =
    let e : Some (Begun (each_once old)) ≡ Some s = is in
    let s_is : Begun (each_once old) ≡ s = cc in subst (Says old []) s_is ([], refl, adds_none old apart)
words_say old apart (w ∷ ws) s is =
    let first = is_first (λ next. after_words next ws) (after_bytes (Begun (each_once old)) w) s is in
    let word = is_first (after_word (Begun (each_once old))) (word_in w) first.0 first.1 in
    by_word old apart w ws s word.0 (word_is w word.0 word.1) first.0 word.2 first.2 (λ l more. words_say (old ++ l ∷ []) more ws s)

-- the words of some literals mean these
words_again : (old ns : List ℤ) (tail : List (List ℕ)) → list_all is_literal ns ≡ true → HaveNoOpposites (old ++ ns)
    → after_words (Begun (each_once old)) (map signed_decimal ns ++ tail) ≡ after_words (Begun (each_once (old ++ ns))) tail
words_again old [] tail all apart = ap (λ ls. after_words (Begun (each_once ls)) tail) (sym (append-nil old))
words_again old (l ∷ ns) tail all apart =
    let own = and_parts (is_literal l) (list_all is_literal ns) all in
    let not_there : is_among (each_once old) (neg_ℤ l) ≡ false = among_once old (neg_ℤ l) ∙ opposite_not_before old l ns apart in
    let word : after_word (Begun (each_once old)) (Literal l) ≡ Some (Begun (each_once (old ++ l ∷ []))) =
    rw not_there (ap (λ k. Some (Begun k)) (sym (once_more old l))) in
    let one : after_bytes (Begun (each_once old)) (signed_decimal l) ≡ Some (Begun (each_once (old ++ l ∷ []))) =
    ap (option_and_then (after_word (Begun (each_once old)))) (literal_again l own.0) ∙ word in
    ap (option_and_then (λ next. after_words next (map signed_decimal ns ++ tail))) one
    ∙ words_again (old ++ l ∷ []) ns tail own.1 (subst HaveNoOpposites (sym (append_assoc old (l ∷ []) ns)) apart)
    ∙ ap (λ ls. after_words (Begun (each_once ls)) tail) (append_assoc old (l ∷ []) ns)

-- ---- lines of values

-- the state after a line of values, by its words
abbrev after_group : Said → List (List ℕ) → Option Said
after_group s [] = None
after_group s (w ∷ ws) = if bytes_eq w (codes "v") then after_words s ws else None

group_is : (s : Said) (parts : List (List ℕ)) → after_values s parts ≡ after_group s (words_in parts)
group_is s [] = refl
group_is s (part ∷ parts) = ap (λ o. if bytes_eq part (codes "v") then o else None) (parts_words s parts)

begins_with_v : (s next : Said) (w : List ℕ) (ws : List (List ℕ)) (e : Bool) → bytes_eq w (codes "v") ≡ e
    → (if e then after_words s ws else None) ≡ Some next → (w ≡ codes "v") × (after_words s ws ≡ Some next)
begins_with_v s next w ws true is says = ((bytes_eq-Decides w (codes "v")).0 is, says)
begins_with_v s next w ws false is says = let e : None ≡ Some next = says in absurd cc

group_says : (s next : Said) (g : List (List ℕ)) → after_group s g ≡ Some next
    → (ws : List (List ℕ)) × (g ≡ codes "v" ∷ ws) × (after_words s ws ≡ Some next)
group_says s next [] is = let e : None ≡ Some next = is in absurd cc
group_says s next (w ∷ ws) is =
    let v = begins_with_v s next w ws (bytes_eq w (codes "v")) refl is in (ws, ap (λ b. b ∷ ws) v.0, v.1)

-- the state after lines that aren't skipped
abbrev after_said : Said → List (List ℕ) → Option Said
after_said s [] = Some s
after_said s (line ∷ lines) = option_and_then (λ next. after_said next lines) (after_line s line)

whole_lines : (kept : List ℤ) (vs : List (List ℕ)) (s : Said) → after_said (Whole kept) vs ≡ Some s → (vs ≡ []) × (Whole kept ≡ s)
whole_lines kept [] s is = let e : Some (Whole kept) ≡ Some s = is in (refl, cc)
whole_lines kept (v ∷ vs) s is = let e : None ≡ Some s = is in absurd cc

-- all literals of the lines before the last, and of the last
abbrev joined : List (List ℤ) → List ℤ → List ℤ
joined before last = flat_map (λ ls. ls) before ++ last

-- the words of the remaining lines of values, after old literals
record Rest (old : List ℤ) (groups : List (List (List ℕ))) (kept : List ℤ) : Type 0 where
  before : List (List ℤ)
  last : List ℤ
  groups_are : groups ≡ map value_words before ++ (value_words last ++ codes "0" ∷ []) ∷ []
  adds : Adds old (joined before last) kept

adds_all : (old ns ms some kept : List ℤ) → Adds old ns some → Adds (old ++ ns) ms kept → Adds old (ns ++ ms) kept
adds_all old ns ms some kept first others = record {
  are_literals = list_all-append is_literal ns ms ∙ and_from _ _ first.are_literals others.are_literals;
  no_opposites = subst HaveNoOpposites (append_assoc old ns ms) others.no_opposites;
  kept_are = others.kept_are ∙ ap each_once (append_assoc old ns ms);
}

module _ (old : List ℤ) (v : List ℕ) (vs ws : List (List ℕ)) (v_is : words_of v ≡ codes "v" ∷ ws) (ls : List ℤ) where
  abbrev RestMore : Type 0
  RestMore = (more : List ℤ) → HaveNoOpposites more → after_said (Begun (each_once more)) vs ≡ Some (Whole ls) → Rest more (map words_of vs) ls

  by_says : (next : Said) → Says old ws next → after_said next vs ≡ Some (Whole ls) → RestMore → Rest old (map words_of (v ∷ vs)) ls
  by_says Nothing says rest more = absurd says
  by_says (Begun kept) says rest more =
      let ns = says.0 in
      let r = more (old ++ ns) says.2.no_opposites (ap (λ k. after_said (Begun k) vs) (sym says.2.kept_are) ∙ rest) in
      let line : words_of v ≡ value_words ns = v_is ∙ ap (λ us. codes "v" ∷ us) says.1 in
      record {
        before = ns ∷ r.before;
        last = r.last;
        groups_are = ap (λ g. g ∷ map words_of vs) line ∙ ap (λ gs. value_words ns ∷ gs) r.groups_are;
        adds = rw append_assoc (adds_all old ns (joined r.before r.last) kept ls says.2 r.adds);
      }
  by_says (Whole kept) says rest more =
      let ended = whole_lines kept vs (Whole ls) rest in
      let same : kept ≡ ls = (let e : Whole kept ≡ Whole ls = ended.1 in cc) in
      record {
        before = [];
        last = says.0;
        groups_are = ap (λ us. words_of v ∷ map words_of us) ended.0 ∙ ap (λ g. g ∷ []) (v_is ∙ ap (λ us. codes "v" ∷ us) says.1);
        adds = subst (Adds old says.0) same says.2;
      }

-- lines of values have this meaning
lines_say : (old : List ℤ) → HaveNoOpposites old → (vs : List (List ℕ)) (ls : List ℤ) → after_said (Begun (each_once old)) vs ≡ Some (Whole ls)
    → Rest old (map words_of vs) ls
lines_say old apart [] ls is = let e : Some (Begun (each_once old)) ≡ Some (Whole ls) = is in absurd cc
lines_say old apart (v ∷ vs) ls is =
    let k = each_once old in
    let first = is_first (λ next. after_said next vs) (after_line (Begun k) v) (Whole ls) is in
    let group = group_says (Begun k) first.0 (words_of v) (sym (group_is (Begun k) (pieces is_blank v)) ∙ first.1) in
    by_says old v vs group.0 group.1 ls first.0 (words_say old apart group.0 first.0 group.2) first.2 (λ more two. lines_say more two vs ls)

line_again : (k : List ℤ) (v : List ℕ) (ws : List (List ℕ)) → words_of v ≡ codes "v" ∷ ws → after_line (Begun k) v ≡ after_words (Begun k) ws
line_again k v ws is = group_is (Begun k) (pieces is_blank v) ∙ ap (after_group (Begun k)) is

-- such lines mean these literals
lines_again : (old : List ℤ) (before : List (List ℤ)) (last : List ℤ) (vs : List (List ℕ))
    → map words_of vs ≡ map value_words before ++ (value_words last ++ codes "0" ∷ []) ∷ []
    → list_all is_literal (joined before last) ≡ true → HaveNoOpposites (old ++ joined before last)
    → after_said (Begun (each_once old)) vs ≡ Some (Whole (each_once (old ++ joined before last)))
lines_again old [] last [] are all apart = absurd cc
lines_again old [] last (v ∷ []) are all apart =
    let e : words_of v ∷ [] ≡ (value_words last ++ codes "0" ∷ []) ∷ [] = are in
    let line : words_of v ≡ codes "v" ∷ (map signed_decimal last ++ codes "0" ∷ []) = cc in
    ap (option_and_then (λ next. after_said next []))
    (line_again (each_once old) v (map signed_decimal last ++ codes "0" ∷ []) line
    ∙ words_again old last (codes "0" ∷ []) all apart
    ∙ ap (λ o. option_and_then (λ next. after_words next []) (option_and_then (after_word (Begun (each_once (old ++ last)))) o)) end_again)
lines_again old [] last (v ∷ u ∷ us) are all apart =
    let e : words_of v ∷ words_of u ∷ map words_of us ≡ (value_words last ++ codes "0" ∷ []) ∷ [] = are in absurd cc
lines_again old (b ∷ before) last [] are all apart = absurd cc
lines_again old (b ∷ before) last (v ∷ vs) are all apart =
    let e : words_of v ∷ map words_of vs ≡ value_words b ∷ (map value_words before ++ (value_words last ++ codes "0" ∷ []) ∷ []) = are in
    let line : words_of v ≡ codes "v" ∷ (map signed_decimal b ++ []) = (let f : words_of v ≡ value_words b = cc in f ∙ ap (λ us. codes "v" ∷ us) (sym (append-nil (map signed_decimal b)))) in
    let others : map words_of vs ≡ map value_words before ++ (value_words last ++ codes "0" ∷ []) ∷ [] = cc in
    let all_here = subst (λ ls. list_all is_literal ls ≡ true) (append_assoc b (flat_map (λ ls. ls) before) last) all in
    let own = and_parts (list_all is_literal b) (list_all is_literal (joined before last)) (sym (list_all-append is_literal b (joined before last)) ∙ all_here) in
    let spread : old ++ joined (b ∷ before) last ≡ (old ++ b) ++ joined before last =
    ap (λ ls. old ++ ls) (append_assoc b (flat_map (λ ls. ls) before) last) ∙ sym (append_assoc old b (joined before last)) in
    let apart_all = subst HaveNoOpposites spread apart in
    ap (option_and_then (λ next. after_said next vs))
    (line_again (each_once old) v (map signed_decimal b ++ []) line ∙ words_again old b [] own.0 (front_apart (old ++ b) (joined before last) apart_all))
    ∙ lines_again (old ++ b) before last vs others own.1 apart_all
    ∙ ap (λ ls. Some (Whole (each_once ls))) (sym spread)

-- ---- all lines

-- the state after some lines
abbrev pub after_lines : Said → List (List ℕ) → Option Said
after_lines s [] = Some s
after_lines s (line ∷ lines) = option_and_then (λ next. after_lines next lines) (after_any s (trimmed line))

by_skip : (s : Said) (line : List ℕ) (lines : List (List ℕ)) (e : Bool) → is_skipped (trimmed line) ≡ e
    → ((next : Said) → after_lines next lines ≡ after_said next (unskipped lines)) → after_lines s (line ∷ lines) ≡ after_said s (unskipped (line ∷ lines))
by_skip s line lines true is same = rw is (same s)
by_skip s line lines false is same =
    rw is (same_then (λ next. after_lines next lines) (λ next. after_said next (unskipped lines)) same (after_line s (trimmed line)))

-- skipped lines change nothing
skips : (s : Said) (lines : List (List ℕ)) → after_lines s lines ≡ after_said s (unskipped lines)
skips s [] = refl
skips s (line ∷ lines) = by_skip s line lines (is_skipped (trimmed line)) refl (λ next. skips next lines)

none_of_none : HaveNoOpposites []
none_of_none l there also = false≢true there

status_is : (next : Said) (v : List ℕ) (e : Bool) → bytes_eq v (codes "s SATISFIABLE") ≡ e → (if e then Some (Begun []) else None) ≡ Some next
    → (v ≡ codes "s SATISFIABLE") × (next ≡ Begun [])
status_is next v true is says = let e : Some (Begun []) ≡ Some next = says in ((bytes_eq-Decides v (codes "s SATISFIABLE")).0 is, cc)
status_is next v false is says = let e : None ≡ Some next = says in absurd cc

answer_of : (lines : List (List ℕ)) (ls : List ℤ) (vs : List (List ℕ)) → unskipped lines ≡ vs → after_said Nothing vs ≡ Some (Whole ls) → AreAnswerWith lines ls
answer_of lines ls [] at is = let e : Some Nothing ≡ Some (Whole ls) = is in absurd cc
answer_of lines ls (v ∷ vs) at is =
    let first = is_first (λ next. after_said next vs) (after_line Nothing v) (Whole ls) is in
    let status = status_is first.0 v (bytes_eq v (codes "s SATISFIABLE")) refl first.1 in
    let r = lines_say [] none_of_none vs ls (ap (λ n. after_said n vs) (sym status.1) ∙ first.2) in
    record {
      values = vs;
      before = r.before;
      last = r.last;
      all = joined r.before r.last;
      lines_are = at ∙ ap (λ u. u ∷ vs) status.0;
      values_are = r.groups_are;
      all_are = refl;
      are_literals = r.adds.are_literals;
      no_opposites = r.adds.no_opposites;
      literals_are = r.adds.kept_are;
    }

-- lines that a reader accepts are an answer
pub are_answer : (lines : List (List ℕ)) (ls : List ℤ) → after_lines Nothing lines ≡ Some (Whole ls) → AreAnswerWith lines ls
are_answer lines ls is = answer_of lines ls (unskipped lines) refl (sym (skips Nothing lines) ∙ is)

-- a reader accepts the lines of an answer
pub answer_again : (lines : List (List ℕ)) (ls : List ℤ) → AreAnswerWith lines ls → after_lines Nothing lines ≡ Some (Whole ls)
answer_again lines ls a =
    let again = lines_again [] a.before a.last a.values a.values_are (subst (λ ms. list_all is_literal ms ≡ true) a.all_are a.are_literals)
    (subst HaveNoOpposites a.all_are a.no_opposites) in
    skips Nothing lines ∙ ap (after_said Nothing) a.lines_are ∙ again
    ∙ ap (λ ms. Some (Whole ms)) (ap each_once (sym a.all_are) ∙ sym a.literals_are)
