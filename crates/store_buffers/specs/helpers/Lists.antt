-- Lists of pending stores and bars.
use Rattle.std.proofs.Common.{◌≡◌, ◌⊎◌, inl, inr, ℕ, ℤ, ◌==◌, true, false, Option, Some, None, List, [], ◌∷◌, ◌++◌, if◌then◌else◌}
use Rattle.std.proofs.Common.{refl, sym, ap, ◌∙◌}
use Rattle.std.specs.Option.{option_or}
use Rattle.std.proofs.lemmas.Bool.{false≢true}
use Rattle.tc_base.specs.Buffers.{Entry, BufferOps}
use Rattle.store_buffers.specs.Buffers.{newest}
use Rattle.list_laws.specs.Lists.{is_nil}
use Rattle.store_buffers.specs.Pending.{Pending, Store, Bar, stores, Binding, waits, Stands, put}
use Rattle.std.proofs.lemmas.List.Sums.{fold-append}
use Rattle.std.specs.Cmp.{nat_eq_equiv}
use Rattle.list_laws.proofs.Options.{or_none}

pub stores-append : (ps qs : List Pending) → stores (ps ++ qs) ≡ stores ps ++ stores qs
stores-append [] qs = refl
stores-append (Store e ∷ ps) qs = ap (λ es. e ∷ es) (stores-append ps qs)
stores-append (Bar ∷ ps) qs = stores-append ps qs

pub not_nil : {A : Type 0} (xs : List A) (y : A) (ys : List A) → xs ++ y ∷ ys ≡ [] → ⊥
not_nil [] y ys e = cc
not_nil (x ∷ xs) y ys e = cc

pub nil_is : {A : Type 0} (xs : List A) → is_nil xs ≡ true → xs ≡ []
nil_is [] e = refl
nil_is (x ∷ xs) e = absurd (false≢true e)

-- the first store of a list
pub record FirstStore (ps : List Pending) : Type 0 where
  pub older : List Pending
  pub store : Entry
  pub newer : List Pending
  pub there : ps ≡ older ++ Store store ∷ newer
  pub first : stores older ≡ []

pub first_store : (ps : List Pending) → FirstStore ps ⊎ (stores ps ≡ [])
first_store [] = inr refl
first_store (Store e ∷ ps) =
    inl (record { older = []; store = e; newer = ps; there = refl; first = refl })
first_store (Bar ∷ ps) =
    elim (first_store ps) [
      | inl f ↦
          inl (record {
            older = Bar
                ∷ f.older;
            store =
                f.store;
            newer = f.newer;
            there = ap (λ qs. Bar ∷ qs) f.there;
            first = f.first;
          })
      | inr none ↦ inr none
    ]

-- if no store is pending, nothing waits
pub waits_for_none : (bound : Binding) (ps : List Pending) (c : ℕ) → stores ps ≡ []
    → waits bound ps c ≡ false
waits_for_none bound [] c none = refl
waits_for_none bound (Store e ∷ ps) c none = cc
waits_for_none bound (Bar ∷ ps) c none = waits_for_none bound ps c none

pub store_there : (older : List Pending) (e : Entry) (newer : List Pending)
    → stores (older ++ Store e ∷ newer) ≡ [] → ⊥
store_there older e newer none =
    not_nil (stores older) e (stores newer) (sym (stores-append older (Store e ∷ newer)) ∙ none)

-- after an issue, the buffer represents its list with one more store
pub store_last : {B : Type 0} (ops : BufferOps B) (b : B) (ps : List Pending) (c : ℕ) (v : ℤ)
    → ops.buffered ≡ true → Stands ops b ps
    → Stands ops (ops.issue b c v) (ps ++ Store (record { cell = c; value = v }) ∷ [])
store_last ops b ps c v buffered s = record {
  made = ap (λ x. ops.issue x c v) s.made ∙ sym
      (fold-append (put ops) ops.empty ps (Store (record { cell = c; value = v }) ∷ []));
  issued = λ e. absurd (false≢true (sym e ∙ buffered));
}

no_more : (ps : List Pending) → stores ps ≡ [] → stores (ps ++ Bar ∷ []) ≡ []
no_more ps e = stores-append ps (Bar ∷ []) ∙ ap (λ es. es ++ []) e

pub bar_last : {B : Type 0} (ops : BufferOps B) (b : B) (ps : List Pending) → Stands ops b ps
    → Stands ops (ops.bar b) (ps ++ Bar ∷ [])
bar_last ops b ps s = record {
  made = ap ops.bar s.made ∙ sym (fold-append (put ops) ops.empty ps (Bar ∷ []));
  issued = λ e. no_more ps (s.issued e);
}

pub or_assoc : {A : Type 0} (o p q : Option A)
    → option_or (option_or o p) q ≡ option_or o (option_or p q)
or_assoc None p q = refl
or_assoc (Some x) p q = refl

pub newest-append : (es fs : List Entry) (c : ℕ)
    → newest (es ++ fs) c ≡ option_or (newest fs c) (newest es c)
newest-append [] fs c = sym (or_none (newest fs c))
newest-append (e ∷ es) fs c =
    ap (λ o. option_or o (if e.cell == c then Some e.value else None)) (newest-append es fs c)
    ∙ or_assoc (newest fs c) (newest es c) (if e.cell == c then Some e.value else None)

-- a store at the end of the list is the newest to its cell
pub newest_last : (ps : List Pending) (c : ℕ) (v : ℤ)
    → newest (stores (ps ++ Store (record { cell = c; value = v }) ∷ [])) c ≡ Some v
newest_last ps c v =
    ap (λ es. newest es c) (stores-append ps (Store (record { cell = c; value = v }) ∷ []))
    ∙ newest-append (stores ps) (record { cell = c; value = v } ∷ []) c
    ∙ ap (λ b. option_or (if b then Some v else None) (newest (stores ps) c)) (nat_eq_equiv.refl c)
