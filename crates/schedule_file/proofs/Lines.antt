-- The line at the front of a text: reading gives what was written, and only that.
use Rattle.std.proofs.Common.{◌≡◌, ◌<◌, ◌-◌, ℕ, true, ltb, List, [], ◌∷◌, ◌++◌, Option, Some, None, refl, sym, ap, ◌∙◌, subst, arith, append_assoc, inl, inr}
use Rattle.std.proofs.Common.{◌⊎◌}
use Rattle.std.specs.Prelude.{codes}
use Rattle.std.specs.Fmt.{decimal}
use Rattle.std.proofs.lemmas.Bool.{and_parts, and_from, lt-ltb, ltb-true}
use Rattle.std.proofs.lemmas.Option.{same_Some, none-some}
use Rattle.tc_base.specs.Names.{Name, name_text}
use Rattle.memory_models.specs.Models.{model_name}
use Rattle.tc_limits.specs.declared.limits.TheConstants.{CELLS}
use Rattle.memory_models.specs.declared.model.Model.{Model}
use Rattle.memory_models.specs.declared.model.Model.TheVariants.{Sc, Tso, Pso}
use Rattle.tc_base.specs.declared.moves.Move.{Move}
use Rattle.tc_base.specs.declared.moves.Move.TheVariants.{Run, Wake, Drain}
use Rattle.schedule_file.specs.Schedules.{header, line, is_name, is_move}
use Rattle.schedule_file.specs.helpers.Reading.{
  ◌>>=◌,
  or_else,
  behind,
  name_at,
  cell_at,
  ended,
  run_at,
  wake_at,
  drain_at,
  move_at,
  named,
  model_at,
  header_at,
}
use Rattle.schedule_file.proofs.Lists.{bind_some}
use Rattle.tc_decimal.specs.Decimals.{number_at}
use Rattle.tc_decimal.proofs.Decimals.{front_again, front_is}
use Rattle.schedule_file.proofs.Fronts.{behind_takes, name_again, name_takes}

-- What was written is read again.

pub run_again : (n : Name) (rest : List ℕ) → is_name n ≡ true → run_at (line (Run n) ++ rest) ≡ Some (Run n, rest)
unfolding run_at
run_again n rest h = rw (append_assoc (name_text n) (codes "\n") rest, name_again n (10 ∷ rest) h refl) refl

pub wake_again : (n waiter : Name) (rest : List ℕ) → is_name n ≡ true → is_name waiter ≡ true
    → wake_at (line (Wake n waiter) ++ rest) ≡ Some (Wake n waiter, rest)
unfolding wake_at
wake_again n waiter rest h k =
    rw (
      append_assoc (name_text n) (32 ∷ (name_text waiter ++ codes "\n")) rest,
      name_again n (32 ∷ ((name_text waiter ++ codes "\n") ++ rest)) h refl,
      append_assoc (name_text waiter) (codes "\n") rest,
      name_again waiter (10 ∷ rest) k refl,
    ) refl

pub tso_again : (n : Name) (rest : List ℕ) → is_name n ≡ true → drain_at Tso (line (Drain n None) ++ rest) ≡ Some (Drain n None, rest)
unfolding drain_at cell_at
tso_again n rest h = rw (append_assoc (name_text n) (codes "\n") rest, name_again n (10 ∷ rest) h refl) refl

pub pso_again : (n : Name) (cell : ℕ) (rest : List ℕ) → is_name n ≡ true → cell < CELLS
    → drain_at Pso (line (Drain n (Some cell)) ++ rest) ≡ Some (Drain n (Some cell), rest)
unfolding drain_at cell_at
pso_again n cell rest h k =
    rw (
      append_assoc (name_text n) (32 ∷ (decimal cell ++ codes "\n")) rest,
      name_again n (32 ∷ ((decimal cell ++ codes "\n") ++ rest)) h refl,
      append_assoc (decimal cell) (codes "\n") rest,
      front_again 0 (CELLS - 1) cell (10 ∷ rest) (omega arith) (omega arith) (omega arith) refl,
    ) refl

run_first : (model : Model) (bytes : List ℕ) (x : Move × List ℕ) → run_at bytes ≡ Some x → move_at model bytes ≡ Some x
unfolding move_at
run_first model bytes x e = rw e refl

wake_first : (model : Model) (bytes : List ℕ) (x : Move × List ℕ) → run_at bytes ≡ None → wake_at bytes ≡ Some x → move_at model bytes ≡ Some x
unfolding move_at
wake_first model bytes x a e = rw (a, e) refl

drain_first : (model : Model) (bytes : List ℕ) (x : Move × List ℕ) → run_at bytes ≡ None → wake_at bytes ≡ None → drain_at model bytes ≡ Some x
    → move_at model bytes ≡ Some x
unfolding move_at
drain_first model bytes x a b e = rw (a, b) e

no_run : (b : ℕ) (bytes : List ℕ) → b ≡ 119 → run_at (b ∷ bytes) ≡ None
unfolding run_at
no_run b bytes e = rw e refl

no_run_drain : (bytes : List ℕ) → run_at (100 ∷ bytes) ≡ None
unfolding run_at
no_run_drain bytes = refl

no_wake_drain : (bytes : List ℕ) → wake_at (100 ∷ bytes) ≡ None
unfolding wake_at
no_wake_drain bytes = refl

-- a move's line is read, whatever follows
pub move_again : (model : Model) (move : Move) (rest : List ℕ) → is_move model move ≡ true → move_at model (line move ++ rest) ≡ Some (move, rest)
move_again model (Run n) rest h = run_first model _ _ (run_again n rest h)
move_again model (Wake n waiter) rest h =
    let p = and_parts (is_name n) (is_name waiter) h in
    wake_first model _ _ (no_run 119 _ refl) (wake_again n waiter rest p.0 p.1)
move_again Tso (Drain n None) rest h = drain_first Tso _ _ (no_run_drain _) (no_wake_drain _) (tso_again n rest h)
move_again Pso (Drain n (Some cell)) rest h =
    let p = and_parts (is_name n) (ltb cell CELLS) h in
    drain_first Pso _ _ (no_run_drain _) (no_wake_drain _) (pso_again n cell rest p.0 (ltb-true cell CELLS p.1))
move_again Sc (Drain n None) rest h = absurd cc
move_again Sc (Drain n (Some cell)) rest h = absurd cc
move_again Tso (Drain n (Some cell)) rest h = absurd cc
move_again Pso (Drain n None) rest h = absurd cc

pub header_again : (model : Model) (rest : List ℕ) → header_at (header model ++ rest) ≡ Some (model, rest)
unfolding header_at model_at
header_again Sc rest = refl
header_again Tso rest = refl
header_again Pso rest = refl

-- What is read was written.

pub record TakesMove (model : Model) (bytes : List ℕ) (move : Move) (rest : List ℕ) : Type 0 where
  pub parts : bytes ≡ line move ++ rest
  pub is : is_move model move ≡ true

either : {A : Type 0} (o other : Option A) (x : A) → or_else o other ≡ Some x → (o ≡ Some x) ⊎ ((o ≡ None) × (other ≡ Some x))
either (Some y) other x e = inl e
either None other x e = inr (refl, e)

ended_takes : (made : Move) (bytes : List ℕ) (move : Move) (rest : List ℕ) → ended made bytes ≡ Some (move, rest) → (bytes ≡ 10 ∷ rest) × (made ≡ move)
ended_takes made bytes move rest e =
    let a = bind_some (behind (codes "\n") bytes) (λ after. Some (made, after)) (move, rest) e in
    let pair = same_Some _ _ a.2 in
    (behind_takes (codes "\n") bytes a.0 a.1 ∙ ap (λ (x : Move × List ℕ). 10 ∷ x.1) pair, ap (λ (x : Move × List ℕ). x.0) pair)

run_takes : (model : Model) (bytes : List ℕ) (move : Move) (rest : List ℕ) → run_at bytes ≡ Some (move, rest) → TakesMove model bytes move rest
unfolding run_at
run_takes model bytes move rest e =
    let a = bind_some (behind (codes "r ") bytes) (λ r. name_at r >>= λ n. ended (Run n.0) n.1) (move, rest) e in
    let b = bind_some (name_at a.0) (λ n. ended (Run n.0) n.1) (move, rest) a.2 in
    let z = ended_takes (Run b.0.0) b.0.1 move rest b.2 in
    let n = name_takes a.0 b.0.0 b.0.1 b.1 in
    let made : TakesMove model bytes (Run b.0.0) rest = record {
      parts = behind_takes (codes "r ") bytes a.0 a.1
          ∙ ap (λ (x : List ℕ). 114 ∷ 32 ∷ x) (n.0 ∙ (ap (λ (x : List ℕ). name_text b.0.0 ++ x) z.0 ∙ sym (append_assoc (name_text b.0.0) (codes "\n") rest)));
      is = n.1;
    } in
    subst (λ (m : Move). TakesMove model bytes m rest) z.1 made

wake_takes : (model : Model) (bytes : List ℕ) (move : Move) (rest : List ℕ) → wake_at bytes ≡ Some (move, rest) → TakesMove model bytes move rest
unfolding wake_at
wake_takes model bytes move rest e =
    let a = bind_some (behind (codes "w ") bytes) (λ r. name_at r >>= λ n. behind (codes " ") n.1 >>= λ s. name_at s >>= λ w. ended (Wake n.0 w.0)
    w.1) (move, rest) e in
    let b = bind_some (name_at a.0) (λ n. behind (codes " ") n.1 >>= λ s. name_at s >>= λ w. ended (Wake n.0 w.0) w.1) (move, rest) a.2 in
    let d = bind_some (behind (codes " ") b.0.1) (λ s. name_at s >>= λ w. ended (Wake b.0.0 w.0) w.1) (move, rest) b.2 in
    let f = bind_some (name_at d.0) (λ w. ended (Wake b.0.0 w.0) w.1) (move, rest) d.2 in
    let z = ended_takes (Wake b.0.0 f.0.0) f.0.1 move rest f.2 in
    let n = name_takes a.0 b.0.0 b.0.1 b.1 in
    let w = name_takes d.0 f.0.0 f.0.1 f.1 in
    let waiter : d.0 ≡ (name_text f.0.0 ++ codes "\n") ++ rest =
    w.0 ∙ (ap (λ (x : List ℕ). name_text f.0.0 ++ x) z.0 ∙ sym (append_assoc (name_text f.0.0) (codes "\n") rest)) in
    let made : TakesMove model bytes (Wake b.0.0 f.0.0) rest = record {
      parts = behind_takes (codes "w ") bytes a.0 a.1
          ∙ ap (λ (x : List ℕ). 119 ∷ 32 ∷ x) (n.0 ∙ (ap (λ (x : List ℕ). name_text b.0.0 ++ x) (behind_takes (codes " ") b.0.1 d.0 d.1
          ∙ ap (λ (x : List ℕ). 32 ∷ x) waiter)
          ∙ sym (append_assoc (name_text b.0.0) (32 ∷ (name_text f.0.0 ++ codes "\n")) rest)));
      is = and_from (is_name b.0.0) (is_name f.0.0) n.1 w.1;
    } in
    subst (λ (m : Move). TakesMove model bytes m rest) z.1 made

-- the cell in a drain's line, after the thread
abbrev cell_text : Option ℕ → List ℕ
cell_text None = []
cell_text (Some cell) = 32 ∷ decimal cell

cell_line : (n : Name) (cell : Option ℕ) (rest : List ℕ) → 100 ∷ 32 ∷ (name_text n ++ (cell_text cell ++ (10 ∷ rest))) ≡ line (Drain n cell) ++ rest
cell_line n None rest = ap (λ (x : List ℕ). 100 ∷ 32 ∷ x) (sym (append_assoc (name_text n) (codes "\n") rest))
cell_line n (Some cell) rest =
    ap (λ (x : List ℕ). 100 ∷ 32 ∷ x) (ap (λ (x : List ℕ). name_text n ++ (32 ∷ x)) (sym (append_assoc (decimal cell) (codes "\n") rest))
    ∙ sym (append_assoc (name_text n) (32 ∷ (decimal cell ++ codes "\n")) rest))

record TakesCell (model : Model) (bytes : List ℕ) (cell : Option ℕ) (rest : List ℕ) : Type 0 where
  parts : bytes ≡ cell_text cell ++ rest
  is : (n : Name) → is_name n ≡ true → is_move model (Drain n cell) ≡ true

cell_takes : (model : Model) (bytes : List ℕ) (x : Option ℕ × List ℕ) → cell_at model bytes ≡ Some x → TakesCell model bytes x.0 x.1
unfolding cell_at
cell_takes Sc bytes x e = absurd (none-some x e)
cell_takes Tso bytes x e =
    subst (λ (y : Option ℕ × List ℕ). TakesCell Tso bytes y.0 y.1) (same_Some _ _ e) (record { parts = refl; is = λ n h. h })
cell_takes Pso bytes x e =
    let a = bind_some (behind (codes " ") bytes) (λ b. number_at 0 (CELLS - 1) b >>= λ k. Some (Some k.0, k.1)) x e in
    let b = bind_some (number_at 0 (CELLS - 1) a.0) (λ k. Some (Some k.0, k.1)) x a.2 in
    let k = front_is 0 (CELLS - 1) a.0 b.0.0 b.0.1 (omega arith) b.1 in
    let small = k.below in
    let made : TakesCell Pso bytes (Some b.0.0) b.0.1 = record {
      parts = behind_takes (codes " ") bytes a.0 a.1 ∙ ap (λ (y : List ℕ). 32 ∷ y) k.parts;
      is = λ n h. and_from (is_name n) (ltb b.0.0 CELLS) h (lt-ltb b.0.0 CELLS (omega arith));
    } in
    subst (λ (y : Option ℕ × List ℕ). TakesCell Pso bytes y.0 y.1) (same_Some _ _ b.2) made

drain_takes : (model : Model) (bytes : List ℕ) (move : Move) (rest : List ℕ) → drain_at model bytes ≡ Some (move, rest) → TakesMove model bytes move rest
unfolding drain_at
drain_takes model bytes move rest e =
    let a = bind_some (behind (codes "d ") bytes) (λ r. name_at r >>= λ n. cell_at model n.1 >>= λ k. ended (Drain n.0 k.0) k.1) (move, rest) e in
    let b = bind_some (name_at a.0) (λ n. cell_at model n.1 >>= λ k. ended (Drain n.0 k.0) k.1) (move, rest) a.2 in
    let d = bind_some (cell_at model b.0.1) (λ k. ended (Drain b.0.0 k.0) k.1) (move, rest) b.2 in
    let z = ended_takes (Drain b.0.0 d.0.0) d.0.1 move rest d.2 in
    let n = name_takes a.0 b.0.0 b.0.1 b.1 in
    let k = cell_takes model b.0.1 d.0 d.1 in
    let made : TakesMove model bytes (Drain b.0.0 d.0.0) rest = record {
      parts = behind_takes (codes "d ") bytes a.0 a.1
          ∙ (ap (λ (x : List ℕ). 100 ∷ 32 ∷ x) (n.0 ∙ ap (λ (x : List ℕ). name_text b.0.0 ++ x) (k.parts ∙ ap (λ (x : List ℕ). cell_text d.0.0 ++ x) z.0))
          ∙ cell_line b.0.0 d.0.0 rest);
      is = k.is b.0.0 n.1;
    } in
    subst (λ (m : Move). TakesMove model bytes m rest) z.1 made

-- bytes read as a move begin with that move's line
pub move_takes : (model : Model) (bytes : List ℕ) (move : Move) (rest : List ℕ) → move_at model bytes ≡ Some (move, rest) → TakesMove model bytes move rest
unfolding move_at
move_takes model bytes move rest e =
    elim (either (run_at bytes) (or_else (wake_at bytes) (drain_at model bytes)) (move, rest) e) [
      | inl h ↦ run_takes model bytes move rest h
      | inr h ↦ elim (either (wake_at bytes) (drain_at model bytes) (move, rest) h.1) [
        | inl k ↦ wake_takes model bytes move rest k
        | inr k ↦ drain_takes model bytes move rest k.1
      ]
    ]

-- a model's name and the line's end, read as this model
named_takes : (made : Model) (name bytes : List ℕ) (model : Model) (rest : List ℕ) → (behind name bytes >>= named made) ≡ Some (model, rest)
    → (bytes ≡ name ++ rest) × (made ≡ model)
named_takes made name bytes model rest e =
    let a = bind_some (behind name bytes) (named made) (model, rest) e in
    let pair = same_Some _ _ a.2 in
    (behind_takes name bytes a.0 a.1 ∙ ap (λ (x : Model × List ℕ). name ++ x.1) pair, ap (λ (x : Model × List ℕ). x.0) pair)

abbrev name_line : Model → List ℕ
name_line model = model_name model ++ codes "\n"

model_takes : (bytes : List ℕ) (model : Model) (rest : List ℕ) → model_at bytes ≡ Some (model, rest) → bytes ≡ name_line model ++ rest
unfolding model_at
model_takes bytes model rest e =
    elim (either (behind (codes "sc\n") bytes >>= named Sc) _ (model, rest) e) [
      | inl h ↦ let t = named_takes Sc (codes "sc\n") bytes model rest h in t.0 ∙ ap (λ (m : Model). name_line m ++ rest) t.1
      | inr h ↦ elim (either (behind (codes "tso\n") bytes >>= named Tso) _ (model, rest) h.1) [
        | inl k ↦ let t = named_takes Tso (codes "tso\n") bytes model rest k in t.0 ∙ ap (λ (m : Model). name_line m ++ rest) t.1
        | inr k ↦ let t = named_takes Pso (codes "pso\n") bytes model rest k.1 in t.0 ∙ ap (λ (m : Model). name_line m ++ rest) t.1
      ]
    ]

pub header_takes : (bytes : List ℕ) (model : Model) (rest : List ℕ) → header_at bytes ≡ Some (model, rest) → bytes ≡ header model ++ rest
unfolding header_at
header_takes bytes model rest e =
    let a = bind_some (behind (codes "clap-schedule 1 ") bytes) model_at (model, rest) e in
    let begin = behind_takes (codes "clap-schedule 1 ") bytes a.0 a.1 in
    begin ∙ ap (λ (x : List ℕ). codes "clap-schedule 1 " ++ x) (model_takes a.0 model rest a.2)
