-- The meaning of an unused step, by its request.
use Rattle.std.proofs.Common.{◌≡◌, ◌≢◌, ◌∙◌, ℕ, ◌==◌, ℤ, true, not, List, ◌∷◌, ◌++◌, Option, Some, None, sym, ap, subst}
use Rattle.std.specs.Option.{option_map_or}
use Rattle.std.specs.List.{list_any}
use Rattle.std.proofs.lemmas.Bool.{false≢true, eqb-true}
use Rattle.std.proofs.lemmas.Option.{none-some, same_Some}
use Rattle.run_follows.specs.tc_base.Names.{Name, child}
use Rattle.run_follows.specs.tc_base.declared.request.Request.{Request}
use Rattle.run_follows.specs.tc_base.declared.request.Request.TheVariants.{Silent, Read, Write, Exchange, Bar, Acquire, Release, BeginWait, EndWait}
use Rattle.run_follows.specs.tc_base.declared.request.Request.TheVariants.{WakeOne, WakeAll, Start, Await, OrderStores, Finish, Fail}
use Rattle.run_follows.proofs.run_laws.Names.{same_self}
use Rattle.run_follows.specs.run_history.History.{Deed, Did}
use Rattle.run_follows.specs.run_history.Told.{steps_in}
use Rattle.run_follows.proofs.run_history.of_pending.In.{In, in_at, in_any}
use Rattle.least_runs.specs.Unused.{is_await_of, is_unused}

-- no thread joins this one
abbrev pub IsUnawaited : Name → List Deed → Type 0
IsUnawaited n h =
    (older newer : List Deed) (q : Name) (k j : ℕ) (took : ℤ) (other : Option Name)
    → h ≡ older ++ Did q k (Await j) took other ∷ newer → child q j ≢ n

abbrev pub IsUnused : Name → Request → Option Name → List Deed → Type 0
IsUnused n Silent other newer = Unit {0}
IsUnused n (Read c) other newer = Unit {0}
IsUnused n Bar other newer = Unit {0}
IsUnused n OrderStores other newer = Unit {0}
IsUnused n (Acquire m) other newer = Unit {0}
IsUnused n (EndWait c m) other newer = Unit {0}
IsUnused n (Await j) other newer = Unit {0}
IsUnused n Finish other newer = IsUnawaited n newer
IsUnused n (Start f) other newer = (u : Name) → other ≡ Some u → steps_in newer u ≡ 0
IsUnused n _ other newer = ⊥

unawaited : (n : Name) (h : List Deed) → not (list_any (is_await_of n) h) ≡ true → IsUnawaited n h
unawaited n h none older newer q k j took other is same_name =
    let deed = Did q k (Await j) took other in
    let there : In deed h = subst (In deed) (sym is) (in_at older deed newer) in
    let some : list_any (is_await_of n) h ≡ true = in_any (is_await_of n) deed h there (same_self n (child q j) (sym same_name)) in
    false≢true (sym (ap not some) ∙ none)

idle : (other : Option Name) (newer : List Deed) → option_map_or (λ u. steps_in newer u == 0) other true ≡ true → (u : Name) → other ≡ Some u
    → steps_in newer u ≡ 0
idle None newer none u is = absurd (none-some u is)
idle (Some w) newer none u is = ap (steps_in newer) (sym (same_Some w u is)) ∙ eqb-true (steps_in newer w) 0 none

pub unused_is : (n : Name) (r : Request) (other : Option Name) (newer : List Deed) → is_unused r n other newer ≡ true → IsUnused n r other newer
unused_is n Silent other newer is = tt
unused_is n (Read c) other newer is = tt
unused_is n Bar other newer is = tt
unused_is n OrderStores other newer is = tt
unused_is n (Acquire m) other newer is = tt
unused_is n (EndWait c m) other newer is = tt
unused_is n (Await j) other newer is = tt
unused_is n Finish other newer is = unawaited n newer is
unused_is n (Start f) other newer is = idle other newer is
unused_is n (Write c v) other newer is = false≢true is
unused_is n (Exchange c v) other newer is = false≢true is
unused_is n (Release m) other newer is = false≢true is
unused_is n (BeginWait c m) other newer is = false≢true is
unused_is n (WakeOne c) other newer is = false≢true is
unused_is n (WakeAll c) other newer is = false≢true is
unused_is n Fail other newer is = false≢true is
