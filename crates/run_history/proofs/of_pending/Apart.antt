-- A deed is named by thread, step and kind, and a drain is of a store that was issued.
use Rattle.std.proofs.Common.{◌≡◌, ◌∙◌, ◌⊎◌, inl, inr, ℕ, ◌+◌, ◌<◌, ◌≤◌, ℤ, Bool, true, false, not, ◌||◌, ◌&&◌, cond, IsTrue}
use Rattle.std.proofs.Common.{List, [], ◌∷◌, ◌++◌, Option, Some, refl, sym, ap, ap₂, subst, arith}
use Rattle.std.specs.List.{filter_map}
use Rattle.std.specs.FinMap as fin
use Rattle.std.proofs.Math.Bool.{or-true}
use Rattle.std.proofs.lemmas.Bool.{false≢true, and_parts, not-true, eq-eqb}
use Rattle.std.proofs.lemmas.List.Folds.{list_any-append}
use Rattle.std.proofs.lemmas.Option.{none-some, cond_some}
use Rattle.store_buffers.specs.tc_base.Names.{Name}
use Rattle.store_buffers.specs.tc_base.Buffers.{BufferOps, Entry}
use Rattle.store_buffers.specs.tc_base.States.{Thread, State}
use Rattle.store_buffers.specs.memory_models.declared.model.Model.{Model}
use Rattle.store_buffers.specs.tc_base.declared.request.Request.{Request}
use Rattle.store_buffers.specs.tc_base.declared.request.Request.TheVariants.{Silent, Write, Bar, WakeOne}
use Rattle.run_laws.specs.tc_code.Code.{Code}
use Rattle.store_buffers.specs.tc_base.declared.moves.Move.{Move}
use Rattle.run_laws.specs.tc_code.Run.{run}
use Rattle.run_laws.specs.tc_code.Step.{opening}
use Rattle.run_laws.specs.tc_code.Step as machine
use Rattle.run_laws.proofs.Names.{same_self, is_same}
use Rattle.store_buffers.specs.Pending.{Store, Bar as barred, Binding}
use Rattle.store_buffers.specs.Laws.{Laws}
use Rattle.store_buffers.specs.helpers.Lists.{not_nil}
use Rattle.run_history.specs.History.{Deed, Did, Drained, Issue, same, issue_of, drains, has_drained, pending_issues, pending, drained, history}
use Rattle.run_history.specs.Told.{is_step_of, steps_in}
use Rattle.run_history.specs.pending.Deeds.{name_of, AllApart, IsIssuedIn, DrainsAreOfStores}
use Rattle.run_history.proofs.of_pending.Issues.{split_at}
use Rattle.run_history.proofs.Lists.{count-push}
use Rattle.run_history.proofs.Threads.{number_is}
use Rattle.run_history.proofs.of_pending.Buffers.{BuffersAre, keeps_buffers, opening_buffers, deed_is}
use Rattle.run_history.proofs.of_pending.In.{In, in_at, in_split, from_filter, from_mapped}
use Rattle.run_history.proofs.Frame.{Keeps, holds_after}

-- a place in a list with one element appended: the last place, or an earlier one
pub record IsBefore {A : Type 0} (xs : List A) (x : A) (older : List A) (e : A) (newer : List A) : Type 0 where
  pub rest : List A
  pub ends : newer ≡ rest ++ x ∷ []
  pub there : xs ≡ older ++ e ∷ rest

pub last_or_before : {A : Type 0} (xs : List A) (x : A) (older : List A) (e : A) (newer : List A) → xs ++ x ∷ [] ≡ older ++ e ∷ newer
    → ((xs ≡ older) × (x ≡ e)) ⊎ IsBefore xs x older e newer
last_or_before [] x [] e newer is = inl (refl, cc)
last_or_before [] x (y ∷ older) e newer is = let rest : [] ≡ older ++ e ∷ newer = cc in absurd (not_nil older e newer (sym rest))
last_or_before (z ∷ xs) x [] e newer is = inr (record { rest = xs; ends = cc; there = cc })
last_or_before (z ∷ xs) x (y ∷ older) e newer is =
    let first : z ≡ y = cc in
    let rest : xs ++ x ∷ [] ≡ older ++ e ∷ newer = cc in
    elim (last_or_before xs x older e newer rest) [
      | inl last ↦ inl (ap₂ (λ a ks. a ∷ ks) first last.0, last.1)
      | inr b ↦ inr (record { rest = b.rest; ends = b.ends; there = ap₂ (λ a ks. a ∷ ks) first b.there })
    ]

-- a deed that issues a store
pub record IsWrite (d : Deed) (n : Name) (k : ℕ) (e : Entry) : Type 0 where
  pub took : ℤ
  pub other : Option Name
  pub is : d ≡ Did n k (Write e.cell e.value) took other

abbrev pub a_store : ℕ → Entry → Issue
a_store k e = record { number = k; what = Store e }

same_entry : (e f : Entry) → Store e ≡ Store f → e ≡ f
same_entry e f is = cc

pub is_write : (b : Bool) (n : Name) (d : Deed) (k : ℕ) (e : Entry) → issue_of b n d ≡ Some (a_store k e) → IsWrite d n k e
is_write b n (Did q j (Write c w) took other) k e is =
    let may = cond_some (b && same n q) (record { number = j; what = Store (record { cell = c; value = w }) }) (a_store k e) is in
    let entry = same_entry (record { cell = c; value = w }) e (ap (λ (i : Issue). i.what) may.1) in
    record {
      took = took;
      other = other;
      is =
          ap (λ m. Did m j (Write c w) took other) (sym (is_same n q (and_parts b (same n q) may.0).1))
          ∙ ap (λ m. Did n m (Write c w) took other) (ap (λ (i : Issue). i.number) may.1)
          ∙ ap (λ (x : Entry). Did n k (Write x.cell x.value) took other) entry;
    }
is_write b n (Did q j Bar took other) k e is =
    let may = cond_some (same n q) (record { number = j; what = barred }) (a_store k e) is in
    let no : barred ≡ Store e = ap (λ (i : Issue). i.what) may.1 in
    cc
is_write b n (Did q j Silent took other) k e is = absurd (none-some _ is)
is_write b n (Did q j r took other) k e is = absurd (none-some _ is)
is_write b n (Drained q j c w) k e is = absurd (none-some _ is)

-- a pending store was issued, and hasn't drained
pub record IsIssued (h : List Deed) (n : Name) (k : ℕ) (e : Entry) : Type 0 where
  pub issued : IsIssuedIn h n k e.cell e.value
  pub pending : has_drained h n k ≡ false

pub is_issued : (b : Bool) (h : List Deed) (n : Name) (x : Issue) (e : Entry) → In x (pending_issues b h n) → x.what ≡ Store e → IsIssued h n x.number e
is_issued b h n x e is what =
    let kept = from_filter (λ i. not (has_drained h n i.number)) x (filter_map (issue_of b n) h) is in
    let from = from_mapped (issue_of b n) x h kept.0 in
    let stood = in_split from.of h from.there in
    let w = is_write b n from.of x.number e (from.gives ∙ ap (λ p. Some (record { number = x.number; what = p })) what) in
    record {
      issued = record {
        before = stood.older;
        after = stood.newer;
        took = w.took;
        other = w.other;
        issued = stood.there ∙ ap (λ d. stood.older ++ d ∷ stood.newer) w.is;
      };
      pending = not-true _ kept.1;
    }

-- steps are numbered below their thread's count, deeds have different names, and drains are of
-- stores
pub record Named (h : List Deed) : Type 0 where
  pub below : (older newer : List Deed) (q : Name) (k : ℕ) (r : Request) (v : ℤ) (o : Option Name) → h ≡ older ++ Did q k r v o ∷ newer → k < steps_in h q
  pub apart : AllApart h
  pub stores : DrainsAreOfStores h

drained_at : (h older newer : List Deed) (q : Name) (k c : ℕ) (v : ℤ) → h ≡ older ++ Drained q k c v ∷ newer → has_drained h q k ≡ true
drained_at h older newer q k c v is =
    ap (λ g. has_drained g q k) is ∙ list_any-append (drains q k) older (Drained q k c v ∷ newer)
    ∙ ap₂ (λ x y. has_drained older q k || (x && y || has_drained newer q k)) (same_self q q refl) (eq-eqb k k refl) ∙ or-true (has_drained older q k)

-- deeds stay apart if the appended one has a new name
apart_push : (h : List Deed) (x : Deed) → AllApart h → ((older newer : List Deed) (d : Deed) → h ≡ older ++ d ∷ newer → name_of d ≡ name_of x → ⊥)
    → AllApart (h ++ x ∷ [])
apart_push h x apart fresh older newer between d e is same_name =
    elim (last_or_before h x (older ++ d ∷ between) e newer is) [
      | inl last ↦ fresh older between d last.0 (same_name ∙ ap name_of (sym last.1))
      | inr b ↦ apart older b.rest between d e b.there same_name
    ]

more_steps : (h : List Deed) (x : Deed) (q : Name) → steps_in h q ≤ steps_in (h ++ x ∷ []) q
more_steps h x q = let e = count-push (is_step_of q) h x in omega (arith, e)

named_did : (h : List Deed) (n : Name) (k : ℕ) (r : Request) (v : ℤ) (o : Option Name) → k ≡ steps_in h n → Named h → Named (h ++ Did n k r v o ∷ [])
named_did h n k r v o last a = record {
  below = λ older newer q j r' v' o' is.
      elim (last_or_before h (Did n k r v o) older (Did q j r' v' o') newer is) [
        | inl here ↦
            let same_thread : n ≡ q = ap (λ x. x.thread) (ap name_of here.1) in
            let same_step : k ≡ j = ap (λ x. x.number) (ap name_of here.1) in
            let more = count-push (is_step_of n) h (Did n k r v o) ∙ ap (λ b. steps_in h n + cond b 1 0) (same_self n n refl) in
            subst (λ m. j < steps_in (h ++ Did n k r v o ∷ []) m) same_thread (omega (arith, more, last, same_step))
        | inr b ↦ let less = a.below older b.rest q j r' v' o' b.there in let more = more_steps h (Did n k r v o) q in omega (arith, less, more)
      ];
  apart = apart_push h (Did n k r v o) a.apart (λ older newer d is same_name. fresh older newer d is same_name);
  stores = λ older newer q j c w is.
      elim (last_or_before h (Did n k r v o) older (Drained q j c w) newer is) [
        | inl here ↦ absurd (false≢true (ap (λ x. x.is_drain) (ap name_of here.1)))
        | inr b ↦ a.stores older b.rest q j c w b.there
      ];
}
  where
    fresh : (older newer : List Deed) (d : Deed) → h ≡ older ++ d ∷ newer → name_of d ≡ name_of (Did n k r v o) → ⊥
    fresh older newer (Did q j r' v' o') is same_name =
        let less = a.below older newer q j r' v' o' is in
        let at_n = subst (λ m. j < steps_in h m) (ap (λ x. x.thread) same_name) less in
        omega (arith, at_n, last, ap (λ x. x.number) same_name)
    fresh older newer (Drained q j c w) is same_name = false≢true (sym (ap (λ x. x.is_drain) same_name))

-- the store of this drain was issued
abbrev Issued_of : List Deed → Deed → Type 0
Issued_of h (Drained n k c v) = IsIssuedIn h n k c v
Issued_of h (Did n k r v o) = ⊥

named_drained : (h : List Deed) (n : Name) (k : ℕ) (e : Entry) → IsIssued h n k e → Named h → Named (h ++ Drained n k e.cell e.value ∷ [])
named_drained h n k e i a = record {
  below = λ older newer q j r v o is.
      elim (last_or_before h (Drained n k e.cell e.value) older (Did q j r v o) newer is) [
        | inl here ↦ absurd (false≢true (sym (ap (λ x. x.is_drain) (ap name_of here.1))))
        | inr b ↦
            let less = a.below older b.rest q j r v o b.there in
            let more = more_steps h (Drained n k e.cell e.value) q in
            omega (arith, less, more)
      ];
  apart = apart_push h (Drained n k e.cell e.value) a.apart fresh;
  stores = λ older newer q j c w is.
      elim (last_or_before h (Drained n k e.cell e.value) older (Drained q j c w) newer is) [
        | inl here ↦
            subst (Issued_of older) here.1 (subst (λ g. IsIssuedIn g n k e.cell e.value) here.0 i.issued)
        | inr b ↦ a.stores older b.rest q j c w b.there
      ];
}
  where
    fresh : (older newer : List Deed) (d : Deed) → h ≡ older ++ d ∷ newer → name_of d ≡ name_of (Drained n k e.cell e.value) → ⊥
    fresh older newer (Did q j r v o) is same_name = false≢true (ap (λ x. x.is_drain) same_name)
    fresh older newer (Drained q j c w) is same_name =
        let there = drained_at h older newer q j c w is in
        let at_n = subst (λ m. has_drained h m j ≡ true) (ap (λ x. x.thread) same_name) there in
        let at_k = subst (λ m. has_drained h n m ≡ true) (ap (λ x. x.number) same_name) at_n in
        false≢true (sym i.pending ∙ at_k)

nothing_named : Named []
nothing_named = record {
  below = λ older newer q k r v o is. absurd (not_nil older _ newer (sym is));
  apart = λ older newer between d e is _. not_nil (older ++ d ∷ between) e newer (sym is);
  stores = λ older newer n k c v is. absurd (not_nil older _ newer (sym is));
}

module _ {B : Type 0} (ops : BufferOps B) (model : Model) (bound : Binding) (laws : Laws ops model bound) (code : Code) where
  pub record DeedsAre (s : State B) (h : List Deed) : Type 0 where
    pub buffers : BuffersAre ops model bound laws code s h
    pub named : Named h

  drain_named : (s : State B) (h : List Deed) (n : Name) (t : Thread B) (form : Option ℕ) → fin.get s.threads n ≡ Some t
      → IsTrue (ops.may_drain t.buffer form) → DeedsAre s h → Named (h ++ drained ops code h n (ops.drain t.buffer form).entry ∷ [])
  drain_named s h n t form here may a =
      let ps = pending ops.buffered h n in
      let st = a.buffers.stands n t here in
      let some = laws.may_drain_stands t.buffer ps form st may in
      let out = laws.drain_stands t.buffer ps form some.older some.store some.newer st some.drains in
      let split = split_at (pending_issues ops.buffered h n) some.older (Store some.store) some.newer some.drains.there in
      subst (λ d. Named (h ++ d ∷ []))
      (sym (deed_is ops model bound laws code s (machine.state_after_drain ops s n t form) h n t form here refl some.older some.store some.newer some.drains.is_free out
      a.buffers split))
      (named_drained h n split.at.number some.store
      (is_issued ops.buffered h n split.at some.store (subst (In split.at) (sym split.there) (in_at split.older split.at split.newer)) split.what) a.named)

  pub keeps_deeds : Keeps ops code DeedsAre
  keeps_deeds =
      let keeps = keeps_buffers ops model bound laws code in
      record {
        ran = λ s h n t i r reached going here at asks may a. record {
          buffers = keeps.ran s h n t i r reached going here at asks may a.buffers;
          named = named_did h n t.local.steps r _ _ (number_is ops code s h n a.buffers.threads t here) a.named;
        };
        waked = λ s h n u t c reached going here at empty waits a. record {
          buffers = keeps.waked s h n u t c reached going here at empty waits a.buffers;
          named = named_did h n t.local.steps (WakeOne c) _ _ (number_is ops code s h n a.buffers.threads t here) a.named;
        };
        flushed = λ s h n t form reached going here may a. record {
          buffers = keeps.flushed s h n t form reached going here may a.buffers;
          named = drain_named s h n t form here may a;
        };
      }

  pub opening_deeds : DeedsAre (opening ops code) []
  opening_deeds = record { buffers = opening_buffers ops model bound laws code; named = nothing_named }

  pub deeds_told : (ms : List Move) (s : State B) → run ops code ms ≡ Some s → DeedsAre s (history ops code ms)
  deeds_told ms s leads = holds_after ops code DeedsAre keeps_deeds opening_deeds ms s leads
