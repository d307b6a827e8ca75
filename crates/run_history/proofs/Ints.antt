-- The deeds of lawful code have ints, under every memory model.
use Rattle.std.proofs.Common.{◌≡◌, ◌∙◌, ℕ, ℤ, Bool, cond, ◌==◌, List, [], ◌∷◌, ◌++◌, Option, Some, None, refl, sym, subst}
use Rattle.std.specs.List.{All}
use Rattle.std.specs.Option.{option_or}
use Rattle.std.proofs.lemmas.List.Elements.{All-nil, All-push}
use Rattle.std.proofs.lemmas.Option.{none-some, cond_some}
use Rattle.run_laws.specs.int_ops.Arith.{IsInt}
use Rattle.store_buffers.specs.tc_base.Buffers.{BufferOps, Entry}
use Rattle.store_buffers.specs.Buffers.{newest}
use Rattle.store_buffers.specs.tc_base.States.{Thread, State}
use Rattle.store_buffers.specs.memory_models.declared.model.Model.{Model}
use Rattle.store_buffers.specs.tc_base.declared.moves.Move.{Move}
use Rattle.store_buffers.specs.tc_base.declared.request.Request.{Request}
use Rattle.store_buffers.specs.tc_base.declared.request.Request.TheVariants.{Read, Exchange}
use Rattle.run_laws.specs.tc_code.Code.{Code}
use Rattle.run_laws.specs.tc_code.Lawful.{IsLawful}
use Rattle.run_laws.specs.tc_code.Run.{run}
use Rattle.store_buffers.specs.Pending.{Pending, Store, Bar, stores, Binding, Stands}
use Rattle.store_buffers.specs.Laws.{Laws}
use Rattle.store_buffers.specs.helpers.Lists.{store_last, bar_last}
use Rattle.run_laws.specs.Ints.{AsksInts, HoldsInts, Empty, Issued, Barred, Drained, PassesInts, ThreadHasInts, StateHasInts}
use Rattle.run_laws.proofs.Ints.{zero_int, in_memory_int, loaded_int, values_are_ints, requests_have_ints}
use Rattle.run_history.specs.History.{value_taken, history}
use Rattle.run_history.specs.Ints.{DeedHasInts}
use Rattle.run_history.proofs.Frame.{Keeps, holds_after}

-- stores of ints
abbrev AreInts : List Pending → Type 0
AreInts [] = Unit {0}
AreInts (Store e ∷ ps) = IsInt e.value × AreInts ps
AreInts (Bar ∷ ps) = AreInts ps

ints_append : (ps qs : List Pending) → AreInts ps → AreInts qs → AreInts (ps ++ qs)
ints_append [] qs is js = js
ints_append (Store e ∷ ps) qs is js = (is.0, ints_append ps qs is.1 js)
ints_append (Bar ∷ ps) qs is js = ints_append ps qs is js

-- in a list of ints, a store is of an int, and so are the others
ints_around : (older : List Pending) (e : Entry) (newer : List Pending) → AreInts (older ++ Store e ∷ newer) → IsInt e.value × AreInts (older ++ newer)
ints_around [] e newer is = is
ints_around (Store d ∷ older) e newer is = let rest = ints_around older e newer is.1 in (rest.0, (is.0, rest.1))
ints_around (Bar ∷ older) e newer is = ints_around older e newer is

-- the newest store to a cell is of an int
newest_by : (o : Option ℤ) (b : Bool) (w v : ℤ) → option_or o (cond b (Some w) None) ≡ Some v → (o ≡ Some v → IsInt v) → IsInt w → IsInt v
newest_by (Some u) b w v is older int = older is
newest_by None b w v is older int = subst IsInt (cond_some b w v is).1 int

newest_int : (ps : List Pending) (c : ℕ) (v : ℤ) → AreInts ps → newest (stores ps) c ≡ Some v → IsInt v
newest_int [] c v ints is = absurd (none-some v is)
newest_int (Store e ∷ ps) c v ints is = newest_by (newest (stores ps) c) (e.cell == c) e.value v is (newest_int ps c v ints.1) ints.0
newest_int (Bar ∷ ps) c v ints is = newest_int ps c v ints is

module _ {B : Type 0} (ops : BufferOps B) where
  -- a buffer represents a list of stores of ints
  record StandsForInts (b : B) : Type 0 where
    list : List Pending
    stands : Stands ops b list
    ints : AreInts list

  module _ (model : Model) (bound : Binding) (laws : Laws ops model bound) where
    -- a buffer into which only ints were put represents a list of stores of ints
    stands_for_ints : (b : B) → HoldsInts ops b → StandsForInts b
    stands_for_ints b Empty = record { list = []; stands = record { made = refl; issued = λ _. refl }; ints = tt }
    stands_for_ints b (Issued a c v buffered holds int) =
        let s = stands_for_ints a holds in
        let e : Entry = record { cell = c; value = v } in
        record {
          list = s.list ++ Store e ∷ [];
          stands = store_last ops a s.list c v buffered s.stands;
          ints = ints_append s.list (Store e ∷ []) s.ints (int, tt);
        }
    stands_for_ints b (Barred a holds) =
        let s = stands_for_ints a holds in
        record { list = s.list ++ Bar ∷ []; stands = bar_last ops a s.list s.stands; ints = ints_append s.list (Bar ∷ []) s.ints tt }
    stands_for_ints b (Drained a form may holds) =
        let s = stands_for_ints a holds in
        let some = laws.may_drain_stands a s.list form s.stands may in
        let out = laws.drain_stands a s.list form some.older some.store some.newer s.stands some.drains in
        record {
          list = some.older ++ some.newer;
          stands = out.leaves;
          ints = (ints_around some.older some.store some.newer (subst AreInts some.drains.there s.ints)).1;
        }

    -- under each memory model, a buffer of ints gives only ints
    pub models_pass_ints : PassesInts ops
    models_pass_ints = record {
      forwards = λ b c v holds is.
          let s = stands_for_ints b holds in newest_int s.list c v s.ints (sym (laws.forward_stands b s.list c s.stands) ∙ is);
      drains = λ b form holds may.
          let s = stands_for_ints b holds in
          let some = laws.may_drain_stands b s.list form s.stands may in
          let out = laws.drain_stands b s.list form some.older some.store some.newer s.stands some.drains in
          subst (λ (e : Entry). IsInt e.value) (sym out.takes)
          (ints_around some.older some.store some.newer (subst AreInts some.drains.there s.ints)).0;
    }

  module _ (code : Code) (passes : PassesInts ops) (lawful : IsLawful code) where
    pub taken_int : (s : State B) (t : Thread B) (r : Request) → StateHasInts ops s → ThreadHasInts ops t → IsInt (value_taken ops code s t r)
    taken_int s t (Read c) has ints = loaded_int ops code passes s has t c ints
    taken_int s t (Exchange c v) has ints = in_memory_int ops code passes s has c
    taken_int s t r has ints = zero_int

    keeps_ints : Keeps ops code (λ s h. All DeedHasInts h)
    keeps_ints = record {
      ran = λ s h n t i r reached _ there at asks _ all.
          let has = values_are_ints ops code passes lawful s reached in
          All-push DeedHasInts h _ all
          (subst AsksInts asks (requests_have_ints ops code passes lawful s n t i reached there at), taken_int s t r has (has.threads n t there));
      waked = λ s h n u t c _ _ _ _ _ _ all. All-push DeedHasInts h _ all (tt, zero_int);
      flushed = λ s h n t form reached _ there may all.
          let has = values_are_ints ops code passes lawful s reached in
          All-push DeedHasInts h _ all (passes.drains t.buffer form (has.threads n t there).buffer may);
    }

    -- the deeds of a run have only ints
    pub deeds_have_ints : (ms : List Move) (s : State B) → run ops code ms ≡ Some s → All DeedHasInts (history ops code ms)
    deeds_have_ints ms s leads = holds_after ops code (λ s h. All DeedHasInts h) keeps_ints (All-nil DeedHasInts) ms s leads
