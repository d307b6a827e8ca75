-- The oldest store of a form.
use Rattle.std.proofs.Common.{◌≡◌, inl, inr, ℕ, ◌==◌, nat_eq, Bool, true, false, cond, Option, Some, None, List, [], ◌∷◌, ◌++◌, filter}
use Rattle.std.proofs.Common.{refl, sym, ap, ◌∙◌, subst}
use Rattle.std.specs.Option.{option_eq}
use Rattle.std.proofs.lemmas.Bool.{false≢true, or_parts}
use Rattle.std.proofs.lemmas.List.Elements.{filter-append}
use Rattle.std.specs.Cmp.{nat_eq_equiv}
use Rattle.tc_base.specs.Buffers.{Entry, BufferOps}
use Rattle.memory_models.specs.declared.model.Model.{Model}
use Rattle.store_buffers.specs.Pending.{Pending, Store, Bar, stores, has_bar, Binding, waits, form_of, stores_by, Drains, Stands}
use Rattle.store_buffers.specs.Laws.{Laws}
use Rattle.store_buffers.specs.helpers.Lists.{stores-append, first_store, waits_for_none}

-- two stores with the same form are bound
bound_by_form : (bound : Binding) → ((b : Bool) → bound true b ≡ true) → bound false true ≡ true
    → (c d : ℕ) (b same : Bool) → (d == c) ≡ same → bound same b ≡ false → option_eq nat_eq (form_of bound d) (form_of bound c) ≡ false
bound_by_form bound one barred c d b true e free = absurd (false≢true (sym free ∙ one b))
bound_by_form bound one barred c d true false e free = absurd (false≢true (sym free ∙ barred))
bound_by_form bound one barred c d false false e free = ap (λ all. option_eq nat_eq (cond all None (Some d)) (cond all None (Some c))) free ∙ e

none_by_form : (bound : Binding) → ((b : Bool) → bound true b ≡ true) → bound false true ≡ true
    → (older : List Pending) (c : ℕ) → waits bound older c ≡ false → stores_by bound (form_of bound c) older ≡ []
none_by_form bound one barred [] c free = refl
none_by_form bound one barred (Store d ∷ older) c free =
    let both = or_parts (bound (d.cell == c) (has_bar older)) (waits bound older c) free in
    ap (λ b. cond b (d ∷ stores_by bound (form_of bound c) older) (stores_by bound (form_of bound c) older))
    (bound_by_form bound one barred c d.cell (has_bar older) _ refl both.0)
    ∙ none_by_form bound one barred older c both.1
none_by_form bound one barred (Bar ∷ older) c free = none_by_form bound one barred older c free

same_form : (o : Option ℕ) → option_eq nat_eq o o ≡ true
same_form None = refl
same_form (Some c) = nat_eq_equiv.refl c

oldest_by : (bound : Binding) → ((b : Bool) → bound true b ≡ true) → bound false true ≡ true
    → (older newer : List Pending) (e : Entry) → waits bound older e.cell ≡ false
    → stores_by bound (form_of bound e.cell) (older ++ Store e ∷ newer) ≡ e ∷ stores_by bound (form_of bound e.cell) newer
oldest_by bound one barred older newer e free =
    let p : Entry → Bool = λ d. option_eq nat_eq (form_of bound d.cell) (form_of bound e.cell) in
    ap (filter p) (stores-append older (Store e ∷ newer))
    ∙ filter-append p (stores older) (e ∷ stores newer)
    ∙ ap (λ es. es ++ filter p (e ∷ stores newer)) (none_by_form bound one barred older e.cell free)
    ∙ ap (λ b. cond b (e ∷ filter p (stores newer)) (filter p (stores newer))) (same_form (form_of bound e.cell))

pub oldest : {B : Type 0} (ops : BufferOps B) (model : Model) (bound : Binding) (ps older newer : List Pending) (form : Option ℕ) (e : Entry)
    → Laws ops model bound → Drains bound ps form older e newer → stores_by bound form ps ≡ e ∷ stores_by bound form newer
oldest ops model bound ps older newer form e laws d =
    ap (stores_by bound form) d.there
    ∙ subst (λ f. stores_by bound f (older ++ Store e ∷ newer) ≡ e ∷ stores_by bound f newer) d.by_form
    (oldest_by bound laws.same_cell laws.barred older newer e d.is_free)

-- the oldest store may always drain: if none may, none is pending
pub nothing_drains : {B : Type 0} (ops : BufferOps B) (model : Model) (bound : Binding) (b : B) (ps : List Pending) → Laws ops model bound → Stands ops b ps
    → ((form : Option ℕ) → ops.may_drain b form ≡ false) → stores ps ≡ []
nothing_drains ops model bound b ps laws stands none =
    elim (first_store ps) [
      | inl f ↦
          let form = form_of bound f.store.cell in
          let free = waits_for_none bound f.older f.store.cell f.first in
          let out = laws.drain_stands b ps form f.older f.store f.newer stands (record { there = f.there; by_form = refl; is_free = free }) in
          absurd (false≢true (sym (none form) ∙ out.may))
      | inr nothing ↦ nothing
    ]
