-- A text is one schedule, or breaks the form at one line.
use Rattle.std.proofs.Common.{
  ◌≡◌,
  ◌<◌,
  ◌≤◌,
  ◌+◌,
  ◌-◌,
  ℕ,
  zero,
  suc,
  true,
  List,
  [],
  ◌∷◌,
  ◌++◌,
  length,
  Option,
  Some,
  None,
  refl,
  sym,
  ap,
  ◌∙◌,
  subst,
  arith,
  append_assoc,
  inl,
  inr,
  ◌⊎◌,
  lit<,
}
use Rattle.std.specs.List.{flat_map, list_all}
use Rattle.std.proofs.lemmas.Bool.{and_parts, and_from, cases_lt}
use Rattle.std.proofs.lemmas.List.{append-nil, length-append, nil_from_length}
use Rattle.std.proofs.lemmas.List.Concat.{flat_map-cons, flat_map-append}
use Rattle.std.proofs.lemmas.List.Folds.{list_all-append}
use Rattle.std.proofs.lemmas.Option.{same_Some, none-some}
use Rattle.memory_models.specs.declared.model.Model.{Model}
use Rattle.tc_base.specs.declared.moves.Move.{Move}
use Rattle.tc_base.specs.declared.moves.Move.TheVariants.{Run, Wake, Drain}
use Rattle.schedule_file.specs.Schedules.{header, line, schedule_text, is_move, HaveText, most_lines}
use Rattle.schedule_file.specs.Faults.{BeginsNoSchedule, BeginsNoMove, EndsBefore, BreaksAt}
use Rattle.schedule_file.specs.helpers.Reading.{move_at, header_at}
use Rattle.schedule_file.proofs.Lines.{header_again, header_takes, move_again, move_takes, TakesMove}

no_line : (move : Move) (after : List ℕ) → [] ≡ line move ++ after → ⊥
no_line (Run n) after e = absurd cc
no_line (Wake n waiter) after e = absurd cc
no_line (Drain n None) after e = absurd cc
no_line (Drain n (Some cell)) after e = absurd cc

nothing_begins : (model : Model) → BeginsNoMove model []
nothing_begins model move after h e = no_line move after e

line_some : (move : Move) → 0 < length (line move)
line_some (Run n) = omega arith
line_some (Wake n waiter) = omega arith
line_some (Drain n None) = omega arith
line_some (Drain n (Some cell)) = omega arith

some_or_none : {A : Type 0} (o : Option A) → (o ≡ None) ⊎ ((x : A) × (o ≡ Some x))
some_or_none None = inl refl
some_or_none (Some x) = inr (x, refl)

-- if two texts that begin with headers are the same, so are their headers and their rests
pub same_header : (model other : Model) (rest last : List ℕ) → header model ++ rest ≡ header other ++ last → (model ≡ other) × (rest ≡ last)
same_header model other rest last e =
    let pair = same_Some _ _ (sym (header_again model rest) ∙ (ap header_at e ∙ header_again other last)) in
    (ap (λ (x : Model × List ℕ). x.0) pair, ap (λ (x : Model × List ℕ). x.1) pair)

same_line : (model : Model) (move other : Move) (rest last : List ℕ) → is_move model move ≡ true → is_move model other ≡ true
    → line move ++ rest ≡ line other ++ last → (move ≡ other) × (rest ≡ last)
same_line model move other rest last h k e =
    let pair = same_Some _ _ (sym (move_again model move rest h) ∙ (ap (move_at model) e ∙ move_again model other last k)) in
    (ap (λ (x : Move × List ℕ). x.0) pair, ap (λ (x : Move × List ℕ). x.1) pair)

-- The part of a text read so far: a header, these moves, as many as a schedule may have, and a
-- rest.
pub record SoFar (text : List ℕ) (model : Model) (moves : List Move) (rest : List ℕ) : Type 0 where
  pub have_text : HaveText model moves
  pub split : text ≡ schedule_text model moves ++ rest

-- No further move follows, though one might.
abbrev pub Stops : ℕ → Model → List ℕ → Type 0
Stops count model rest = count + 1 < most_lines → BeginsNoMove model rest

lines_more : (move : Move) (moves : List Move) (rest : List ℕ) → flat_map line (move ∷ moves) ++ rest ≡ line move ++ (flat_map line moves ++ rest)
lines_more move moves rest =
    ap (λ (x : List ℕ). x ++ rest) (flat_map-cons line move moves) ∙ append_assoc (line move) (flat_map line moves) rest

same_moves : (count : ℕ) (model : Model) (moves others : List Move) (rest last : List ℕ) → count + length moves < most_lines
    → count + length others < most_lines → list_all (is_move model) moves ≡ true → list_all (is_move model) others ≡ true
    → Stops (count + length moves) model rest → Stops (count + length others) model last
    → flat_map line moves ++ rest ≡ flat_map line others ++ last → (moves ≡ others) × (rest ≡ last)
same_moves count model [] [] rest last l k h j stops ends e = (refl, e)
same_moves count model [] (o ∷ os) rest last l k h j stops ends e =
    let q = and_parts (is_move model o) (list_all (is_move model) os) j in
    absurd (stops (omega arith) o (flat_map line os ++ last) q.0 (e ∙ lines_more o os last))
same_moves count model (m ∷ ms) [] rest last l k h j stops ends e =
    let q = and_parts (is_move model m) (list_all (is_move model) ms) h in
    absurd (ends (omega arith) m (flat_map line ms ++ rest) q.0 (sym e ∙ lines_more m ms rest))
same_moves count model (m ∷ ms) (o ∷ os) rest last l k h j stops ends e =
    let p = and_parts (is_move model m) (list_all (is_move model) ms) h in
    let q = and_parts (is_move model o) (list_all (is_move model) os) j in
    let first = same_line model m o (flat_map line ms ++ rest) (flat_map line os ++ last) p.0 q.0 (sym (lines_more m ms rest) ∙ (e ∙ lines_more o os last)) in
    let others = same_moves (count + 1) model ms os rest last (omega arith) (omega arith) p.1 q.1 (λ n. stops (omega arith))
    (λ n. ends (omega arith)) first.1 in
    (ap (λ (x : Move). x ∷ ms) first.0 ∙ ap (λ (x : List Move). o ∷ x) others.0, others.1)

text_split : (model : Model) (moves : List Move) (rest : List ℕ) → schedule_text model moves ++ rest ≡ header model ++ (flat_map line moves ++ rest)
text_split model moves rest = append_assoc (header model) (flat_map line moves) rest

record SameReading (model other : Model) (moves others : List Move) (rest last : List ℕ) : Type 0 where
  models : model ≡ other
  moves_are : moves ≡ others
  rests : rest ≡ last

-- a text is read in only one way
same_reading : (text : List ℕ) (model other : Model) (moves others : List Move) (rest last : List ℕ) → SoFar text model moves rest
    → SoFar text other others last → Stops (length moves) model rest → Stops (length others) other last
    → SameReading model other moves others rest last
same_reading text model other moves others rest last x y stops ends =
    let heads = same_header model other (flat_map line moves ++ rest) (flat_map line others ++ last)
    (sym (text_split model moves rest) ∙ (sym x.split ∙ (y.split ∙ text_split other others last))) in
    let each : list_all (is_move model) others ≡ true = subst (λ (m : Model). list_all (is_move m) others ≡ true) (sym heads.0) y.have_text.1 in
    let finish : Stops (length others) model last = subst (λ (m : Model). Stops (length others) m last) (sym heads.0) ends in
    let few = x.have_text.0 in
    let fits = y.have_text.0 in
    let both = same_moves 0 model moves others rest last (omega arith) (omega arith) x.have_text.1 each (λ n. stops (omega arith))
    (λ n. finish (omega arith)) heads.1 in
    record { models = heads.0; moves_are = both.0; rests = both.1 }

whole : (text : List ℕ) (model : Model) (moves : List Move) → HaveText model moves → text ≡ schedule_text model moves → SoFar text model moves []
whole text model moves h e = record { have_text = h; split = e ∙ sym (append-nil (schedule_text model moves)) }

pub one_schedule : (model other : Model) (moves others : List Move) → HaveText model moves → HaveText other others
    → schedule_text model moves ≡ schedule_text other others → (model ≡ other) × (moves ≡ others)
one_schedule model other moves others h k e =
    let same = same_reading (schedule_text model moves) model other moves others [] [] (whole _ model moves h refl) (whole _ other others k e)
    (λ n. nothing_begins model) (λ n. nothing_begins other) in
    (same.models, same.moves_are)

so_far : (text : List ℕ) (number : ℕ) (x : EndsBefore text number) → SoFar text x.model x.moves x.rest
so_far text number x = record { have_text = x.have_text; split = x.split }

stops_there : (text : List ℕ) (number : ℕ) (x : EndsBefore text number) → Stops (length x.moves) x.model x.rest
stops_there text number x n = let at = x.number_is in x.none (omega arith)

no_header : (text : List ℕ) (model : Model) (moves : List Move) (rest : List ℕ) → BeginsNoSchedule text → SoFar text model moves rest → ⊥
no_header text model moves rest h x = h model (flat_map line moves ++ rest) (x.split ∙ text_split model moves rest)

nothing_left : (rest : List ℕ) → [] ≡ rest → 0 < length rest → ⊥
nothing_left rest e h = let len = ap length e in omega arith

pub schedule_or_fault : (text : List ℕ) (model : Model) (moves : List Move) (number : ℕ) → HaveText model moves → text ≡ schedule_text model moves
    → BreaksAt text number → ⊥
schedule_or_fault text model moves number h e (inl x) = no_header text model moves [] x.0 (whole text model moves h e)
schedule_or_fault text model moves number h e (inr x) =
    let same = same_reading text model x.model moves x.moves [] x.rest (whole text model moves h e) (so_far text number x) (λ n. nothing_begins model)
    (stops_there text number x) in
    nothing_left x.rest same.rests x.more

pub one_fault : (text : List ℕ) (this that : ℕ) → BreaksAt text this → BreaksAt text that → this ≡ that
one_fault text this that (inl x) (inl y) = x.1 ∙ sym y.1
one_fault text this that (inl x) (inr y) = absurd (no_header text y.model y.moves y.rest x.0 (so_far text that y))
one_fault text this that (inr x) (inl y) = absurd (no_header text x.model x.moves x.rest y.0 (so_far text this x))
one_fault text this that (inr x) (inr y) =
    let same = same_reading text x.model y.model x.moves y.moves x.rest y.rest (so_far text this x) (so_far text that y) (stops_there text this x)
    (stops_there text that y) in
    x.number_is ∙ (ap (λ (ms : List Move). length ms + 2) same.moves_are ∙ sym y.number_is)

-- Each text is read up to some place.

record Moves (room : ℕ) (model : Model) (bytes : List ℕ) : Type 0 where
  moves : List Move
  rest : List ℕ
  split : bytes ≡ flat_map line moves ++ rest
  few : length moves ≤ room
  each : list_all (is_move model) moves ≡ true
  none : length moves < room → BeginsNoMove model rest

pub none_begins : (model : Model) (bytes : List ℕ) → None ≡ move_at model bytes → BeginsNoMove model bytes
none_begins model bytes e move after h split = none-some (move, after) (e ∙ (ap (move_at model) split ∙ move_again model move after h))

pub no_schedule_begins : (text : List ℕ) → None ≡ header_at text → BeginsNoSchedule text
no_schedule_begins text e model after split = none-some (model, after) (e ∙ (ap header_at split ∙ header_again model after))

one_more : (room : ℕ) (model : Model) (bytes : List ℕ) (move : Move) (after : List ℕ) → TakesMove model bytes move after → Moves room model after
    → Moves (suc room) model bytes
one_more room model bytes move after t others =
    let few = others.few in record {
      moves = move ∷ others.moves;
      rest = others.rest;
      split = t.parts ∙ (ap (λ (x : List ℕ). line move ++ x) others.split ∙ sym (lines_more move others.moves others.rest));
      few = omega arith;
      each = and_from (is_move model move) _ t.is others.each;
      none = λ n. others.none (omega arith);
    }

moves_of : (room : ℕ) (model : Model) (bytes : List ℕ) → Moves room model bytes
moves_of zero model bytes = record { moves = []; rest = bytes; split = refl; few = omega arith; each = refl; none = λ n. absurd (omega arith) }
moves_of (suc room) model bytes =
    elim (some_or_none (move_at model bytes)) [
      | inl e ↦ record { moves = []; rest = bytes; split = refl; few = omega arith; each = refl; none = λ n. none_begins model bytes (sym e) }
      | inr x ↦ one_more room model bytes x.0.0 x.0.1 (move_takes model bytes x.0.0 x.0.1 x.1) (moves_of room model x.0.1)
    ]

fault_behind : (text bytes : List ℕ) (model : Model) (room : ℕ) → room + 1 ≡ most_lines → text ≡ header model ++ bytes → Moves room model bytes
    → ((moves : List Move) → HaveText model moves → text ≡ schedule_text model moves → ⊥) → (number : ℕ) × BreaksAt text number
fault_behind text bytes model room all e x no_schedule =
    let few = x.few in
    let have_text : HaveText model x.moves = (omega arith, x.each) in
    let split : text ≡ schedule_text model x.moves ++ x.rest = e ∙ (ap (λ (y : List ℕ). header model ++ y) x.split ∙ sym (text_split model x.moves x.rest)) in
    elim (cases_lt 0 (length x.rest)) [
      | inl more ↦ (
        length x.moves + 2,
        inr (record {
          model = model;
          moves = x.moves;
          rest = x.rest;
          have_text = have_text;
          split = split;
          more = more;
          number_is = refl;
          none = λ n. x.none (omega arith);
        }),
      )
      | inr less ↦
          let nothing : x.rest ≡ [] = nil_from_length x.rest (omega arith) in
          absurd (no_schedule x.moves have_text (split ∙ (ap (λ (y : List ℕ). schedule_text model x.moves ++ y) nothing
          ∙ append-nil (schedule_text model x.moves))))
    ]

pub some_fault : (text : List ℕ) → ((model : Model) (moves : List Move) → HaveText model moves → text ≡ schedule_text model moves → ⊥)
    → (number : ℕ) × BreaksAt text number
some_fault text no_schedule =
    elim (some_or_none (header_at text)) [
      | inl e ↦ (1, inl (no_schedule_begins text (sym e), refl))
      | inr x ↦
          let room = most_lines - 1 in
          fault_behind text x.0.1 x.0.0 room refl (header_takes text x.0.0 x.0.1 x.1) (moves_of room x.0.0 x.0.1) (no_schedule x.0.0)
    ]

-- The reader's loop.

-- a header was read
pub begun : (text : List ℕ) (model : Model) (rest : List ℕ) → Some (model, rest) ≡ header_at text → SoFar text model [] rest
begun text model rest e = record {
  have_text = (lit< tt, refl);
  split = header_takes text model rest (sym e) ∙ ap (λ (x : List ℕ). x ++ rest) (sym (append-nil (header model)));
}

-- one more move was read
pub read_on : (text : List ℕ) (model : Model) (moves : List Move) (rest : List ℕ) (move : Move) (after : List ℕ) (longer : List Move)
    → SoFar text model moves rest → length moves + 2 ≤ most_lines → Some (move, after) ≡ move_at model rest → longer ≡ moves ++ move ∷ []
    → SoFar text model longer after
read_on text model moves rest move after longer x few e push =
    let t = move_takes model rest move after (sym e) in
    let len : length longer ≡ length moves + 1 = ap length push ∙ length-append moves (move ∷ []) in
    let one : flat_map line (move ∷ []) ≡ line move = flat_map-cons line move [] ∙ append-nil (line move) in
    let lines : flat_map line longer ≡ flat_map line moves ++ line move =
    ap (flat_map line) push ∙ (flat_map-append line moves (move ∷ []) ∙ ap (λ (y : List ℕ). flat_map line moves ++ y) one) in
    record {
      have_text = (
        omega arith,
        ap (list_all (is_move model)) push ∙ (list_all-append (is_move model) moves (move ∷ [])
            ∙ and_from (list_all (is_move model) moves) _ x.have_text.1 (and_from (is_move model move) true t.is refl)),
      );
      split = x.split ∙ (ap (λ (y : List ℕ). schedule_text model moves ++ y) t.parts
          ∙ (sym (append_assoc (schedule_text model moves) (line move) after)
          ∙ ap (λ (y : List ℕ). y ++ after) (append_assoc (header model) (flat_map line moves) (line move)
          ∙ ap (λ (y : List ℕ). header model ++ y) (sym lines))));
    }

pub stops_here : (text : List ℕ) (model : Model) (moves : List Move) (rest : List ℕ) (number : ℕ) → SoFar text model moves rest → 0 < length rest
    → number ≡ length moves + 2 → (number < most_lines + 1 → BeginsNoMove model rest) → BreaksAt text number
stops_here text model moves rest number x more e none = inr (record {
  model = model;
  moves = moves;
  rest = rest;
  have_text = x.have_text;
  split = x.split;
  more = more;
  number_is = e;
  none = none;
})

pub shorter : (model : Model) (rest : List ℕ) (move : Move) (after : List ℕ) → Some (move, after) ≡ move_at model rest → length after < length rest
shorter model rest move after e =
    let t = move_takes model rest move after (sym e) in
    let len = ap length t.parts in
    let some = line_some move in
    omega (arith, length-append (line move) after)
