-- A walk over words of which some are plain, that is, aren't flags.
use Rattle.std.proofs.Common.{◌≡◌, ℕ, refl, ap, ap₂, ◌∙◌, Bool, true, false, List, [], ◌∷◌, Option, Some, None, fold, is_some, sym, map, cond}
use Rattle.std.specs.Prelude.{⊤, option_and_then}
use Rattle.std.specs.Option.{option_map_or}
use Rattle.std.specs.Str.{bytes_eq}
use Rattle.clap.specs.Lexer.{long_of, long_of_rest, short_of, short_of_rest, strip_byte}
use Rattle.clap.specs.Walk.{Held, Rule, Step, Text, Waiting, Walk, after_step, finished, idle, long_or_other, nothing_held, option, plain_word, positional}
use Rattle.clap.specs.Walk.{rows_after, settled, short_or_plain, subcommand_or_other, trailing, value, walk_from, walked, walked_from, word_met}
use Rattle.clap.specs.Simple.{Shape}
use Rattle.clap.specs.Kinds.{Kinds, or_else}
use Rattle.clap.specs.Faults.{bundle_fault, check_fault, defaults_fault, flag_word_fault, level_fault, other_fault, settle_fault, step_fault}
use Rattle.clap.specs.Faults.{turn_fault, walk_fault, word_fault}

-- the word isn't a flag
pub record IsPlainWord (p : Text) : Type 0 where
  pub no_dash : strip_byte 45 p ≡ None
  pub no_end : bytes_eq p (45 ∷ 45 ∷ []) ≡ false

-- what the walk does at a plain word before a positional argument takes it
abbrev pub plain_met : List Rule → Bool → Waiting → Text → Held → Held × Step
plain_met c true waiting p h = (h, value)
plain_met c false waiting p h = plain_word c waiting p h

abbrev pub plain_from : List Rule → Option (Text × List Text) → Walk → Text → Walk
plain_from c (Some q) w p = walked c [] w p
plain_from c None w p =
    after_step c p w (plain_met c w.is_trailing w.waiting p w.held).0 (plain_met c w.is_trailing w.waiting p w.held).1

-- a word, and whether it is plain
abbrev pub Marked : Type 0
Marked = Bool × Text

abbrev pub marked_walk : List Rule → Walk → Marked → Walk
marked_walk c w (true, p) = plain_from c w.stopped w p
marked_walk c w (false, p) = walked c [] w p

no_long : (p : Text) → IsPlainWord p → long_of p ≡ None
no_long p is = ap (λ o. option_and_then long_of_rest (option_and_then (strip_byte 45) o)) is.no_dash

no_short : (p : Text) → IsPlainWord p → short_of p ≡ None
no_short p is = ap (option_and_then short_of_rest) is.no_dash

other_plain : (c : List Rule) (waiting : Waiting) (n : ℕ) (h : Held) (p : Text) → IsPlainWord p →
    subcommand_or_other c None waiting n p h ≡ plain_word c waiting p h
other_plain c waiting n h p is =
    ap₂ (λ (b : Bool) (o : Option (Text × Option Text)). cond b (h, trailing n) (long_or_other c waiting p o h)) is.no_end (no_long p is)
    ∙ ap (λ (o : Option Text). short_or_plain c waiting p o h) (no_short p is)

plain_waiting : (c : List Rule) (waiting : Waiting) (n : ℕ) (h : Held) (p : Text) → IsPlainWord p → word_met c [] false waiting n p h ≡ plain_word c waiting p h
plain_waiting c idle n h p is = other_plain c idle n h p is
plain_waiting c (option id) n h p is = other_plain c (option id) n h p is
plain_waiting c positional n h p is = other_plain c positional n h p is

plain_meets : (c : List Rule) (is_trailing : Bool) (waiting : Waiting) (n : ℕ) (h : Held) (p : Text) → IsPlainWord p
    → word_met c [] is_trailing waiting n p h ≡ plain_met c is_trailing waiting p h
plain_meets c true waiting n h p is = refl
plain_meets c false waiting n h p is = plain_waiting c waiting n h p is

plain_walked : (c : List Rule) (stop : Option (Text × List Text)) (w : Walk) (p : Text) → IsPlainWord p → stop ≡ w.stopped →
    walked c [] w p ≡ plain_from c stop w p
unfolding walked
plain_walked c (Some q) w p is at = refl
plain_walked c None w p is at =
    ap (λ s. walked_from c [] s w p) (sym at)
    ∙ ap (λ (m : Held × Step). after_step c p w m.0 m.1) (plain_meets c w.is_trailing w.waiting w.position w.held p is)

other_quiet : (s : Shape) (h : Held) (p : Text) → IsPlainWord p → other_fault s None p h ≡ []
other_quiet s h p is =
    ap₂ (λ (b : Bool) (o : Option (Text × Option Text)). cond b [] (flag_word_fault s.rules s.args_override_self o p h)) is.no_end (no_long p is)
    ∙ ap (λ (o : Option Text). option_map_or (λ flags. bundle_fault s.rules s.args_override_self flags h) o []) (no_short p is)

word_quiet : (s : Shape) (is_trailing : Bool) (waiting : Waiting) (h : Held) (p : Text) → IsPlainWord p → word_fault s [] is_trailing waiting p h ≡ []
word_quiet s true waiting h p is = refl
word_quiet s false idle h p is = other_quiet s h p is
word_quiet s false (option id) h p is = other_quiet s h p is
word_quiet s false positional h p is = other_quiet s h p is

-- the fault of a plain word at its turn
abbrev pub plain_fault : Shape → Walk → Text → Kinds
plain_fault s w p = cond (is_some w.stopped) []
    (step_fault s w.position (plain_met s.rules w.is_trailing w.waiting p w.held).0 (plain_met s.rules w.is_trailing w.waiting p w.held).1)

plain_turns : (s : Shape) (w : Walk) (p : Text) → IsPlainWord p → turn_fault s [] w p ≡ plain_fault s w p
plain_turns s w p is =
    ap₂ (λ (k : Kinds) (m : Held × Step). cond (is_some w.stopped) [] (or_else k (step_fault s w.position m.0 m.1)))
    (word_quiet s w.is_trailing w.waiting w.held p is) (plain_meets s.rules w.is_trailing w.waiting w.position w.held p is)

abbrev pub marked_turn : Shape → Walk → Marked → Kinds
marked_turn s w (true, p) = plain_fault s w p
marked_turn s w (false, p) = turn_fault s [] w p

abbrev pub marked_faults : Shape → Walk → List Marked → Kinds
marked_faults s w [] = []
marked_faults s w (m ∷ rest) = or_else (marked_turn s w m) (marked_faults s (marked_walk s.rules w m) rest)

abbrev pub all_walk : List Rule → Walk → List Marked → Walk
all_walk c w [] = w
all_walk c w (m ∷ rest) = all_walk c (marked_walk c w m) rest

abbrev pub words_in : List Marked → List Text
words_in = map (λ m. m.1)

-- the words that are marked plain are plain
abbrev pub ArePlain : List Marked → Type 0
ArePlain [] = ⊤
ArePlain ((true, p) ∷ rest) = IsPlainWord p × ArePlain rest
ArePlain ((false, p) ∷ rest) = ArePlain rest

walk-marked : (c : List Rule) (w : Walk) (ms : List Marked) → ArePlain ms → fold (walked c []) w (words_in ms) ≡ all_walk c w ms
walk-marked c w [] h = refl
walk-marked c w ((true, p) ∷ rest) h =
    ap (λ (x : Walk). fold (walked c []) x (words_in rest)) (plain_walked c w.stopped w p h.0 refl) ∙ walk-marked c (plain_from c w.stopped w p) rest h.1
walk-marked c w ((false, p) ∷ rest) h = walk-marked c (walked c [] w p) rest h

faults-marked : (s : Shape) (w : Walk) (ms : List Marked) → ArePlain ms → walk_fault s [] w (words_in ms) ≡ marked_faults s w ms
unfolding walk_fault
faults-marked s w [] h = refl
faults-marked s w ((true, p) ∷ rest) h =
    ap₂ (λ (k : Kinds) (x : Walk). or_else k (walk_fault s [] x (words_in rest))) (plain_turns s w p h.0) (plain_walked s.rules w.stopped w p h.0 refl)
    ∙ ap (or_else (plain_fault s w p)) (faults-marked s (plain_from s.rules w.stopped w p) rest h.1)
faults-marked s w ((false, p) ∷ rest) h = ap (or_else (turn_fault s [] w p)) (faults-marked s (walked s.rules [] w p) rest h)

-- the fault of a level of the parse, by that of its words and what is held after them
abbrev pub fault_at : Shape → Kinds → Held → Kinds
fault_at s words end = or_else words (or_else [] (or_else (settle_fault s.rules s.args_override_self end)
    (or_else (defaults_fault (settled s.rules end).rows s.rules) (check_fault s (finished s.rules end) false))))

abbrev pub end_of : Shape → List Marked → Held
end_of s ms = (all_walk s.rules (walk_from nothing_held) ms).held

pub level-marked : (s : Shape) (ms : List Marked) → ArePlain ms
    → level_fault s [] nothing_held (words_in ms) false [] ≡ fault_at s (marked_faults s (walk_from nothing_held) ms) (end_of s ms)
level-marked s ms h = ap₂ (λ (k : Kinds) (w : Walk). fault_at s k w.held) (faults-marked s _ ms h) (walk-marked s.rules _ ms h)

pub rows-marked : (s : Shape) (ms : List Marked) → ArePlain ms → rows_after s.rules [] (words_in ms) ≡ finished s.rules (end_of s ms)
rows-marked s ms h = ap (λ (w : Walk). finished s.rules w.held) (walk-marked s.rules _ ms h)
