use Rattle.std.proofs.Common.{◌≡◌, ◌∙◌, List, [], ◌∷◌, Some, true, false, cond, refl, ap, sym, arith}
use Rattle.std.specs.FinMap.{find, get-entries}
use Rattle.std.specs.Ordering.{nat_cmp}
use Rattle.std.specs.Cmp.Lexicographic.{slice_cmp}
use Rattle.std.specs.BTreeMap.{is_at}
use Rattle.std.specs.Prelude.{bytes_eq}
use Rattle.std.proofs.lemmas.Slice.Eq.{bytes_eq-Decides}
use Rattle.tc_base.specs.Names.{Name}
use Rattle.tc_threads.proofs.ByName.{at_name, first_at_name, further_at_name}
use Rattle.show_rows.proofs.thread.thread_of.Goals as goal

-- the first entry of a name
find_at : {X : Type 0} (es : List (Name × X)) (n : Name) → find (slice_cmp nat_cmp) n es ≡ at_name es n
find_at [] n = refl
find_at (e ∷ es) n = ap (cond (is_at (slice_cmp nat_cmp n) e.0) (Some e.1)) (find_at es n)

same_by : (m n : Name) → bytes_eq m n ≡ true → n ≡ m
same_by m n e = grind (arith, bytes_eq-Decides m n, e)

other_by : (m n : Name) → bytes_eq m n ≡ false → n ≡ m → ⊥
other_by m n e same = grind (arith, bytes_eq-Decides m n, e, same)

pub loop-other-init : goal.loop-other-init
loop-other-init g c =
    get-entries c.args.state.now.threads c.args.name.now
    ∙ find_at _ c.args.name.now
    ∙ ap (λ es. at_name es c.args.name.now) (sym (c.into_iter-other-iterator.ensures.into_iter_gives ∙ c.entries-other-items.ensures.rest))

pub returns-then-eq : goal.returns-then-eq
returns-then-eq g c =
    sym (c.loop-other.invariant ∙ first_at_name c.loop-other.other-iterator c.next.new.self c.in-Some.other.now c.args.name.now c.in-Some.thread.now
    c.in-Some.ensures.steps (same_by c.in-Some.other.now c.args.name.now (sym c.eq.ensures ∙ c.if-eq.true)))

pub loop-other-preserved : goal.loop-other-preserved
loop-other-preserved g c =
    c.loop-other.invariant
    ∙ further_at_name c.loop-other.other-iterator c.next.new.self c.in-Some.other.now c.args.name.now c.in-Some.thread.now c.in-Some.ensures.steps
    (other_by c.in-Some.other.now c.args.name.now (sym c.eq.ensures ∙ c.if-eq.false))
