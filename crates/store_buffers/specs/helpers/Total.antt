-- Total store order obeys the laws.
use Rattle.std.proofs.Common.{
  ◌≡◌,
  ℕ,
  true,
  false,
  not,
  ◌&&◌,
  Option,
  Some,
  None,
  is_none,
  List,
  [],
  ◌∷◌,
  ◌++◌,
  drop,
  slice_index_or,
  fold,
  refl,
  sym,
  ap,
  ◌∙◌,
  subst,
  append_assoc,
  append-nil,
}
use Rattle.std.proofs.lemmas.Bool.{false≢true}
use Rattle.tc_base.specs.Buffers.{Entry}
use Rattle.store_buffers.specs.Buffers.{fifo_buffer, newest, no_entry}
use Rattle.list_laws.specs.Lists.{is_nil}
use Rattle.memory_models.specs.declared.model.Model.TheVariants.{Tso}
use Rattle.store_buffers.specs.Pending.{Pending, Store, Bar, stores, binds_all, waits, Stands, put}
use Rattle.store_buffers.specs.Laws.{Laws, SomeDrains, TakesOut}
use Rattle.store_buffers.specs.helpers.Lists.{stores-append}

put_all : (b : List Entry) (ps : List Pending) → fold (put fifo_buffer) b ps ≡ b ++ stores ps
put_all b [] = sym (append-nil b)
put_all b (Store e ∷ ps) = put_all (b ++ e ∷ []) ps ∙ append_assoc b (e ∷ []) (stores ps)
put_all b (Bar ∷ ps) = put_all b ps

-- the queue is the stores of any list that it represents
queue : (b : List Entry) (ps : List Pending) → Stands fifo_buffer b ps → b ≡ stores ps
queue b ps s = s.made ∙ put_all [] ps

stands : (ps : List Pending) → Stands fifo_buffer (stores ps) ps
stands ps = record { made = sym (put_all [] ps); issued = λ e. absurd (false≢true (sym e)) }

-- no store is older than one that may drain
no_older : (older : List Pending) (c : ℕ) → waits binds_all older c ≡ false → stores older ≡ []
no_older [] c e = refl
no_older (Store d ∷ older) c e = absurd (false≢true (sym e))
no_older (Bar ∷ older) c e = no_older older c e

first_drains : (ps : List Pending) → not (is_nil (stores ps)) ≡ true
    → SomeDrains fifo_buffer binds_all ps None
first_drains [] e = absurd (false≢true e)
first_drains (Store d ∷ ps) e =
    record {
      older = [];
      store = d;
      newer = ps;
      drains = record
          { there = refl; by_form = refl; is_free = refl };
    }
first_drains (Bar ∷ ps) e =
    let s = first_drains ps e in
    record {
      older = Bar ∷ s.older;
      store = s.store;
      newer = s.newer;
      drains =
          record {
            there = ap
                (λ qs. Bar ∷ qs) s.drains.there;
            by_form = refl;
            is_free = s.drains.is_free;
          };
    }

may_drain : (b : List Entry) (ps : List Pending) (form : Option ℕ) → b ≡ stores ps
    → is_none form && not (is_nil b) ≡ true
    → SomeDrains fifo_buffer binds_all ps form
may_drain b ps None is e = first_drains ps (ap (λ es. not (is_nil es)) (sym is) ∙ e)
may_drain b ps (Some c) is e = absurd (false≢true e)

takes_out : (b : List Entry) (older : List Pending) (e : Entry) (newer : List Pending)
    → b ≡ e ∷ stores newer → stores older ≡ []
    → TakesOut fifo_buffer b None older e newer
takes_out b older e newer is none = record {
  may = ap (λ es. not (is_nil es)) is;
  takes = ap (λ es. slice_index_or es 0 no_entry) is;
  leaves = subst (λ es. Stands fifo_buffer es (older ++ newer))
      (stores-append older newer ∙ ap (λ es. es ++ stores newer) none
      ∙ ap (drop 1) (sym is)) (stands (older ++ newer));
}

pub tso_laws : Laws fifo_buffer Tso binds_all
tso_laws = record {
  form_law = refl;
  same_cell = λ _. refl;
  barred = refl;
  empty_law = λ b ps s. ap (λ es. is_nil es) (queue b ps s);
  forward_stands = λ b ps c s. ap (λ es. newest es c) (queue b ps s);
  may_drain_stands = λ b ps form s may. may_drain b ps form (queue b ps s) may;
  drain_stands = λ b ps form older e newer s d.
      let none = no_older older e.cell d.is_free in
      subst (λ f. TakesOut fifo_buffer b f older e newer) d.by_form
      (takes_out b older e newer
      (queue b ps s ∙ ap stores d.there ∙ stores-append older (Store e ∷ newer) ∙ ap
      (λ es. es ++ e ∷ stores newer) none) none);
  unbuffered = λ e. absurd (false≢true (sym e));
}
