-- Seeded runs, turn by turn.
use Rattle.std.proofs.Common.{◌≡◌, ◌∙◌, ℕ, zero, suc, ◌+◌, ◌-◌, ◌<◌, ◌≤◌, List, [], ◌∷◌, ◌++◌, length, append_assoc, append-nil}
use Rattle.std.proofs.Common.{Option, Some, None, IsSome, refl, ap, sym, arith}
use Rattle.std.specs.Option.{option_map_or}
use Rattle.rand_core.specs.Steps.{stream_of, first_words}
use Rattle.rand_core.specs.Stream.{Stream, next_u64}
use Rattle.rand_core.proofs.StepsLemmas.{next_u64-stream_of}
use Rattle.rand_xoshiro.specs.SplitMix64.{mix_u64, splitmix_steps}
use Rattle.tc_base.specs.Buffers.{BufferOps}
use Rattle.tc_base.specs.States.{State}
use Rattle.tc_base.specs.declared.moves.Move.{Move}
use Rattle.tc_code.specs.Code.{Code}
use Rattle.tc_code.specs.Step.{step, opening}
use Rattle.tc_machine.proofs.Listing.{listed_is_enabled}
use Rattle.tc_record.specs.declared.end.End.{End}
use Rattle.tc_record.specs.declared.end.End.TheVariants as end
use Rattle.tc_record.specs.Ends.{end_at, end_without_moves}
use Rattle.tc_record.specs.Seeded.{Ended, run_ended_at, with_moves_before, chosen_move, run_by_move, seed_words, seeded_from, seeded_run}
use Rattle.tc_record.specs.helpers.Turns.{IsTurn}

-- Words.

-- the next words of a stream
abbrev pub words : ℕ → Stream → List ℕ
words zero s = []
words (suc k) s = (next_u64 s).0 ∷ words k (next_u64 s).1

-- the words of SplitMix64 are the words of its state
pub words_of_seed : (k seed : ℕ) → words k (stream_of splitmix_steps seed) ≡ first_words mix_u64 k seed
unfolding first_words
words_of_seed zero seed = refl
words_of_seed (suc k) seed =
    ap (λ (p : ℕ × Stream). p.0 ∷ words k p.1) (next_u64-stream_of splitmix_steps seed)
    ∙ ap (λ ws. (mix_u64 seed).0 ∷ ws) (words_of_seed k (mix_u64 seed).1)

pub length-words : (k : ℕ) (s : Stream) → length (words k s) ≡ k
length-words zero s = refl
length-words (suc k) s = ap suc (length-words k (next_u64 s).1)

-- the words drawn and those still to draw, before and after the next one

pub none_drawn : (rng seed count : ℕ) → rng ≡ seed → words (count - 0) (stream_of splitmix_steps rng) ≡ seed_words seed count
none_drawn rng seed count same =
    let none : count - 0 ≡ count = omega arith in
    ap (λ n. words (count - 0) (stream_of splitmix_steps n)) same ∙ ap (λ k. words k (stream_of splitmix_steps seed)) none ∙ words_of_seed count seed

pub next_drawn : (front : List ℕ) (word : ℕ) (old new : Stream) (i count : ℕ) → i < count → (word, new) ≡ next_u64 old
    → (front ++ word ∷ []) ++ words (count - (i + 1)) new ≡ front ++ words (count - i) old
next_drawn front word old new i count some gives =
    let one : count - i ≡ suc (count - (i + 1)) = omega (arith, some) in
    append_assoc front (word ∷ []) (words (count - (i + 1)) new) ∙ ap (λ (p : ℕ × Stream). front ++ (p.0 ∷ words (count - (i + 1)) p.1)) gives
    ∙ ap (λ k. front ++ words k old) (sym one)

pub all_drawn : (front : List ℕ) (s : Stream) (i count : ℕ) → count ≤ i → front ++ words (count - i) s ≡ front
all_drawn front s i count end =
    let none : count - i ≡ 0 = omega (arith, end) in
    ap (λ k. front ++ words k s) none ∙ append-nil front

-- Ended runs.

module _ {B : Type 0} where
  pub behind_ended : (ms : List Move) (s : State B) (e : End) → with_moves_before ms (run_ended_at s e) ≡ record { moves = ms; state = s; end = e }
  behind_ended ms s e = ap (λ xs. let r : Ended B = record { moves = xs; state = s; end = e } in r) (append-nil ms)

  behind_twice : (ms : List Move) (m : Move) (r : Ended B) → with_moves_before ms (with_moves_before (m ∷ []) r) ≡ with_moves_before (ms ++ m ∷ []) r
  behind_twice ms m r = ap (λ xs. let q : Ended B = record { moves = xs; state = r.state; end = r.end } in q) (sym (append_assoc ms (m ∷ []) r.moves))

  behind_either : (ms : List Move) (u : State B) (o : Option End) (r : Ended B)
      → with_moves_before ms (option_map_or (run_ended_at u) o r) ≡ option_map_or (λ e. with_moves_before ms (run_ended_at u e)) o (with_moves_before ms r)
  behind_either ms u None r = refl
  behind_either ms u (Some e) r = refl

module _ {B : Type 0} (ops : BufferOps B) (code : Code) where
  -- the chosen move is enabled
  pub chosen_is_enabled : (s : State B) (word : ℕ) (m : Move) → Some m ≡ chosen_move ops code s word → IsSome (step ops code s m)
  chosen_is_enabled s word m is = listed_is_enabled ops code s _ m (sym is)

  -- a turn in which no move is enabled
  pub turn_without_moves : (s : State B) (before : List Move) (word : ℕ) → None ≡ chosen_move ops code s word
      → IsTurn ops code s s before before word (Some (end_without_moves s))
  turn_without_moves s before word none rest =
      ap (λ (o : Option Move). with_moves_before before (option_map_or (run_by_move ops code s (λ u. seeded_from ops code u rest)) o (run_ended_at s (end_without_moves s))))
      (sym none)

  -- a turn in which a move is made
  pub turn_with_move : (s u : State B) (before after : List Move) (word : ℕ) (m : Move) (e : Option End) → chosen_move ops code s word ≡ Some m
      → step ops code s m ≡ Some u → after ≡ before ++ m ∷ [] → end_at u ≡ e → IsTurn ops code s u before after word e
  turn_with_move s u before after word m e picks steps more ends rest =
      let on : State B → Ended B = λ v. seeded_from ops code v rest in
      ap (λ (o : Option Move). with_moves_before before (option_map_or (run_by_move ops code s on) o (run_ended_at s (end_without_moves s)))) picks
      ∙ ap (λ (o : Option (State B)). with_moves_before before (option_map_or (λ v. with_moves_before (m
      ∷ []) (option_map_or (run_ended_at v) (end_at v) (on v))) o (run_ended_at s end.StepLimit))) steps
      ∙ behind_twice before m (option_map_or (run_ended_at u) (end_at u) (on u))
      ∙ ap (λ ms. with_moves_before ms (option_map_or (run_ended_at u) (end_at u) (on u))) (sym more)
      ∙ ap (λ o. with_moves_before after (option_map_or (run_ended_at u) o (on u))) ends
      ∙ behind_either after u e (on u)

  -- the run of a seed begins with the words of its generator
  pub begins : (s : State B) (rng seed steps : ℕ) → s ≡ opening ops code → rng ≡ seed
      → with_moves_before [] (seeded_from ops code s (words (steps - 0) (stream_of splitmix_steps rng))) ≡ seeded_run ops code seed steps
  begins s rng seed steps first same =
      let none : steps - 0 ≡ steps = omega arith in
      ap (λ (u : State B). with_moves_before [] (seeded_from ops code u (words (steps - 0) (stream_of splitmix_steps rng)))) first
      ∙ ap (λ n. seeded_from ops code (opening ops code) (words (steps - 0) (stream_of splitmix_steps n))) same
      ∙ ap (λ k. seeded_from ops code (opening ops code) (words k (stream_of splitmix_steps seed))) none
      ∙ ap (seeded_from ops code (opening ops code)) (words_of_seed steps seed)

  module _ (s u : State B) (before after : List Move) (word : ℕ) (old new : Stream) (i steps : ℕ) (whole : Ended B) (some : i < steps)
      (gives : (word, new) ≡ next_u64 old) (so_far : with_moves_before before (seeded_from ops code s (words (steps - i) old)) ≡ whole) where
    this_turn : with_moves_before before (seeded_from ops code s (word ∷ words (steps - (i + 1)) new)) ≡ whole
    this_turn =
        let one : steps - i ≡ suc (steps - (i + 1)) = omega (arith, some) in
        ap (λ (p : ℕ × Stream). with_moves_before before (seeded_from ops code s (p.0 ∷ words (steps - (i + 1)) p.1))) gives
        ∙ ap (λ k. with_moves_before before (seeded_from ops code s (words k old))) (sym one) ∙ so_far

    -- after a turn that doesn't end the run it goes on
    pub goes_on : IsTurn ops code s u before after word None → with_moves_before after (seeded_from ops code u (words (steps - (i + 1)) new)) ≡ whole
    goes_on turn = sym (turn (words (steps - (i + 1)) new)) ∙ this_turn

    -- a turn that ends the run
    pub ends_so : (e : End) → IsTurn ops code s u before after word (Some e) → record { moves = after; state = u; end = e } ≡ whole
    ends_so e turn = sym (behind_ended after u e) ∙ sym (turn (words (steps - (i + 1)) new)) ∙ this_turn
