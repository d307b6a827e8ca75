-- Rows are recorded one after another.
use Rattle.std.proofs.Common.{◌≡◌, ◌∙◌, ℕ, ◌+◌, ◌<◌, ◌≤◌, List, [], ◌∷◌, ◌++◌, length, take, drop, get_or, map, Some, refl, suc, sym, ap, subst, append-nil, append_assoc, add-one, drop-cons}
use Rattle.std.proofs.lemmas.List.{take_all, take_more, take-append-drop, map-append}
use Rattle.std.proofs.lemmas.List.Sums.{fold-append}
use Rattle.tc_base.specs.Buffers.{BufferOps}
use Rattle.tc_base.specs.States.{State}
use Rattle.tc_base.specs.declared.moves.Move.{Move}
use Rattle.tc_code.specs.Code.{Code}
use Rattle.tc_code.specs.Run.{run}
use Rattle.tc_code.specs.Step.{step}
use Rattle.tc_machine.specs.Why.{why}
use Rattle.tc_machine.specs.declared.why.Why.{Why}
use Rattle.show_deeds.specs.run_history.History.{Deed, deed_of, history}
use Rattle.show_deeds.proofs.run_history.Grows.{moves_add_deeds}
use Rattle.schedule_replay.proofs.Plays.{leads_on, all_made}
use Rattle.show_deeds.specs.Deeds.{plain_deed}
use Rattle.show_deeds.specs.Seen.{Seen, at_start, seen_after, seen_in}
use Rattle.show_rows.specs.Rows.{deeds, WasAt, WereAt, EndsSo, AreTold}
use Rattle.show_rows.specs.declared.row.Row.{Row}
use Rattle.show_rows.specs.declared.told.End.{End}
use Rattle.show_rows.specs.declared.told.End.TheVariants as end
use Rattle.show_rows.specs.declared.telling.Telling.{Telling}
use Rattle.show_rows.specs.helpers.SoFar.{IsSoFar}

-- the deeds of one more row
deeds-push : (rows : List Row) (row : Row) → deeds (rows ++ row ∷ []) ≡ deeds rows ++ plain_deed row.deed ∷ []
deeds-push rows row = map-append (λ (r : Row). plain_deed r.deed) rows (row ∷ [])

-- one more row is at its thread's place, if the others are
at-push : (code : Code) (h : List Deed) (rows : List Row) (row : Row) → WereAt code h rows → WasAt code (h ++ deeds rows) row
    → WereAt code h (rows ++ row ∷ [])
at-push code h [] row were was = (subst (λ g. WasAt code g row) (append-nil h) was, tt)
at-push code h (r ∷ rs) row were was = (
  were.0,
  at-push code (h ++ plain_deed r.deed ∷ []) rs row were.1
      (subst (λ g. WasAt code g row) (sym (append_assoc h (plain_deed r.deed ∷ []) (deeds rs))) was),
)

-- a list at one of its places
split_here : {A : Type 0} (xs : List A) (i : ℕ) (x : A) → i < length xs → x ≡ get_or xs i x → xs ≡ take i xs ++ x ∷ drop (i + 1) xs
split_here xs i x lt here =
    sym (take-append-drop i xs)
    ∙ ap (λ ys. take i xs ++ ys) (drop-cons xs i x lt ∙ ap (λ y. y ∷ drop (suc i) xs) (sym here) ∙ ap (λ k. x ∷ drop k xs) (sym (add-one i)))

module _ {B : Type 0} (ops : BufferOps B) (code : Code) where
  -- after the first moves of a schedule
  pub record AreToldUpTo (moves : List Move) (i : ℕ) (s : State B) (t : Telling) : Type 0 where
    pub leads : run ops code (take i moves) ≡ Some s
    pub told : deeds t.rows.items ≡ history ops code (take i moves)
    pub sees : t.seen ≡ seen_in ops.buffered code (deeds t.rows.items)
    pub at : WereAt code [] t.rows.items

  pub so_far : (moves : List Move) (i : ℕ) (s : State B) (t : Telling) → AreToldUpTo moves i s t → IsSoFar ops code s t
  so_far moves i s t a = record { made = take i moves; leads = a.leads; told = a.told; sees = a.sees }

  module _ (moves : List Move) (i : ℕ) (m : Move) (s : State B) (t : Telling) (lt : i < length moves) (here : m ≡ get_or moves i m)
      (a : AreToldUpTo moves i s t) where
    -- one more move
    pub told_on : (u : State B) (v : Telling) (row : Row) → step ops code s m ≡ Some u
        → deed_of ops code s (deeds t.rows.items) m ≡ plain_deed row.deed ∷ [] → v.rows.items ≡ t.rows.items ++ row ∷ []
        → v.seen ≡ seen_after ops.buffered t.seen (plain_deed row.deed) → WasAt code (deeds t.rows.items) row → AreToldUpTo moves (i + 1) u v
    told_on u v row one does rows seen was =
        let more = ap deeds rows ∙ deeds-push t.rows.items row in
        let next = take_more moves i m lt ∙ ap (λ x. take i moves ++ x ∷ []) (sym here) in
        record {
          leads = leads_on ops code moves i m s lt here a.leads u one;
          told =
              more
              ∙ ap (λ ds. deeds t.rows.items ++ ds) (sym does)
              ∙ ap (λ h. h ++ deed_of ops code s h m) a.told
              ∙ sym (moves_add_deeds ops code (take i moves) s u m a.leads one)
              ∙ ap (history ops code) (sym next);
          sees =
              seen
              ∙ ap (λ (x : Seen). seen_after ops.buffered x (plain_deed row.deed)) a.sees
              ∙ sym (fold-append (seen_after ops.buffered) (at_start code) (deeds t.rows.items) (plain_deed row.deed ∷ []))
              ∙ ap (seen_in ops.buffered code) (sym more);
          at = subst (WereAt code []) (sym rows) (at-push code [] t.rows.items row a.at was);
        }

    -- a move that isn't enabled
    pub told_to : (r : Why) (rows : List Row) (e : End) → why ops code s m ≡ Some r → rows ≡ t.rows.items → e ≡ end.Stopped r
        → AreTold ops code moves rows e
    told_to r rows e stops same is =
        subst (AreTold ops code moves rows) (sym is)
        (subst (λ rs. AreTold ops code moves rs (end.Stopped r)) (sym same)
        (record {
          made = take i moves;
          left = m ∷ drop (i + 1) moves;
          state = s;
          split = split_here moves i m lt here;
          leads = a.leads;
          told = a.told;
          at = a.at;
          ends = stops;
        }))

  -- all moves
  pub told_whole : (moves : List Move) (i : ℕ) (s : State B) (t : Telling) (rows : List Row) (e f : End) → length moves ≤ i → AreToldUpTo moves i s t
      → EndsSo ops code s [] f → rows ≡ t.rows.items → e ≡ f → AreTold ops code moves rows e
  told_whole moves i s t rows e f le a ends same is =
      subst (AreTold ops code moves rows) (sym is)
      (subst (λ rs. AreTold ops code moves rs f) (sym same)
      (record {
        made = moves;
        left = [];
        state = s;
        split = sym (append-nil moves);
        leads = all_made ops code moves i s le a.leads;
        told = a.told ∙ ap (history ops code) (take_all i moves le);
        at = a.at;
        ends = ends;
      }))
