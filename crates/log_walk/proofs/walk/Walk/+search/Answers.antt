use Rattle.std.proofs.Common.{rules, ◌∙◌, ◌≡◌, ◌-◌, ap, sym, subst, arith, Some, None, true, false, Bool, refl}
use Rattle.std.specs.Prelude.{option_map}
use Rattle.slot_liveness.specs.Tables.{liveness}
use Rattle.thread_paths.specs.Search.{Found, IsFirst}
use Rattle.thread_paths.specs.declared.aim.Scope.{Scope}
use Rattle.log_walk.specs.helpers.Searches.{with_cut, IsEnd, IsKept, CanFollow, begin_from}
use Rattle.log_walk.specs.Order.{are_to_come}
use Rattle.log_walk.specs.Rest.{is_whole}
use Rattle.log_walk.proofs.Finds.{at_end, closed, never, below_found, below_none, taken_last, taken_found, some_taken, follow_on, same_found, later_found, first_found}
use Rattle.log_walk.proofs.Finds.{no_more, found_here, still, go_on, kept_over, fewer, no_path, ok_both, end_from}
use Rattle.log_walk.proofs.Orders.{after}
use Rattle.log_walk.proofs.walk.Walk.+search.Goals as goal

pub below-returns-in_default-clause-end : goal.below-returns-in_default-clause-end
below-returns-in_default-clause-end t c =
    never c.args.program.code.now (liveness c.args.program.live.now) c.args.bounds c.args.rest.now c.args.next.now c.requires.next c.args.path.now _ c.args.room _ _
    (sym c.in_ok-later.ensures ∙ c.in_default.is)

pub below-returns-then-branch-clause-end : goal.below-returns-then-branch-clause-end
below-returns-then-branch-clause-end t c =
    below_found c.args.program.code.now (liveness c.args.program.live.now) c.args.bounds c.args.rest.now c.args.next.now c.requires.next c.args.path.now _ c.args.room (c.args.room - 1) (omega arith)
    c.in-Some.later (sym c.in_ok-later.ensures ∙ c.in-Some.is) c.requires.taken _ _ c.push.new.self.items _ c.in_ok-thread_of.field-0
    c.in_ok-push.ensures.items c.in_ok-thread_of.ensures _ c.if-branch.true c.in_ok-search.ensures.end

pub below-returns-clause-end : goal.below-returns-clause-end
below-returns-clause-end t c =
    below_none c.args.program.code.now (liveness c.args.program.live.now) c.args.bounds c.args.rest.now c.args.next.now c.requires.next c.args.path.now _ c.args.room (c.args.room - 1) (omega arith)
    c.in-Some.later (sym c.in_ok-later.ensures ∙ c.in-Some.is) _ _ c.push.new.self.items _ c.in_ok-thread_of.field-0
    c.in_ok-push.ensures.items _ c.if-branch.false c.in_ok-search.ensures.end _ c.take_off.ensures.threads _ c.take_off.ensures.out

pub first_from-returns-in_default-clause-end : goal.first_from-returns-in_default-clause-end
first_from-returns-in_default-clause-end t c start first =
    let path = ap (λ (f : Found). f.path) c.found.view_is in
    let cut = ap (λ (f : Found). with_cut c.paths.self.out f.cut) c.found.view_is in
    let isnt = c.in_default.is in
    let told = c.with_cut-self.ensures in
    let none : c.paths.found.path ≡ None = cc in
    let out : c.with_cut-self.result ≡ with_cut c.paths.self.out c.paths.found.cut = cc in
    no_more c.args.program.code.now (liveness c.args.program.live.now) c.args.bounds c.args.rest.now c.args.next.now c.requires.next start c.args.room c.paths.found c.paths.self.out
    (c.paths.invariant.at start first c.requires.next) none _ _ c.paths.invariant.same c.with_cut-self.result out

pub first_from-returns-then-branch-clause-end : goal.first_from-returns-then-branch-clause-end
first_from-returns-then-branch-clause-end t c start first =
    let path = ap (λ (f : Found). f.path) c.found.view_is in
    let cut = ap (λ (f : Found). with_cut c.paths.self.out f.cut) c.found.view_is in
    let found = c.in-Some.is in
    let told = c.with_cut-self.ensures in
    let some : c.paths.found.path ≡ Some c.in-Some.path = cc in
    let out : c.with_cut-self.result ≡ with_cut c.paths.self.out c.paths.found.cut = cc in
    found_here c.args.program.code.now (liveness c.args.program.live.now) c.args.bounds c.args.rest.now c.args.next.now c.requires.next start c.args.room c.paths.found c.paths.self.out
    (c.paths.invariant.at start first c.requires.next) c.in-Some.path some c.with_cut-self.result out c.below.new.self.out c.in_ok-below.ensures.kept
    _ _ _ c.paths.invariant.same _ c.if-branch.true c.in_ok-below.ensures.end

pub first_from-paths-smaller : goal.first_from-paths-smaller
first_from-paths-smaller t c =
    let path = ap (λ (f : Found). f.path) c.found.view_is in
    let found = c.in-Some.is in
    let some : c.paths.found.path ≡ Some c.in-Some.path = cc in
    let taken = some_taken c.args.program.code.now (liveness c.args.program.live.now) c.args.bounds c.args.rest.now c.args.next.now c.requires.next c.paths.found.path c.in-Some.path some
    c.paths.invariant.taken in
    fewer c.args.program.code.now (liveness c.args.program.live.now) c.args.bounds c.args.rest.now c.args.next.now c.requires.next c.paths.found.path c.in-Some.path some taken
    c.scope_of-scope.result c.scope_of-scope.ensures c.in_ok-found.found c.in_ok-found.ensures
    (taken_found c.args.program.code.now (liveness c.args.program.live.now) c.args.bounds c.args.rest.now c.args.next.now c.requires.next _ c.in_ok-found.found c.scope_of-scope.result
    c.scope_of-scope.ensures c.in_ok-found.ensures taken.within.depth)

pub first_from-paths-preserved : goal.first_from-paths-preserved
first_from-paths-preserved t c =
    let path = ap (λ (f : Found). f.path) c.found.view_is in
    let cut = ap (λ (f : Found). with_cut c.paths.self.out f.cut) c.found.view_is in
    let found = c.in-Some.is in
    let told = c.with_cut-self.ensures in
    let some : c.paths.found.path ≡ Some c.in-Some.path = cc in
    let out : c.with_cut-self.result ≡ with_cut c.paths.self.out c.paths.found.cut = cc in
    let taken = some_taken c.args.program.code.now (liveness c.args.program.live.now) c.args.bounds c.args.rest.now c.args.next.now c.requires.next c.paths.found.path c.in-Some.path some
    c.paths.invariant.taken in
    record {
      same = still c.args.program.code.now (liveness c.args.program.live.now) c.args.bounds c.args.rest.now _ c.args.room _ _ _ _ c.paths.invariant.same _ c.if-branch.false c.in_ok-below.ensures.end;
      kept = kept_over _ c.paths.self.out c.with_cut-self.result _ c.paths.found.cut c.paths.invariant.kept out c.in_ok-below.ensures.kept;
      taken = taken_found c.args.program.code.now (liveness c.args.program.live.now) c.args.bounds c.args.rest.now c.args.next.now c.requires.next _ c.in_ok-found.found c.scope_of-scope.result
          c.scope_of-scope.ensures c.in_ok-found.ensures taken.within.depth;
      at = λ start first at. go_on c.args.program.code.now (liveness c.args.program.live.now) c.args.bounds c.args.rest.now c.args.next.now at start c.args.room c.paths.found c.paths.self.out
          (c.paths.invariant.at start first at) c.in-Some.path some c.with_cut-self.result out c.below.new.self.out c.in_ok-below.ensures.kept
          _ _ _ c.if-branch.false c.in_ok-below.ensures.end c.in_ok-found.found c.scope_of-scope.result c.scope_of-scope.ensures c.in_ok-found.ensures;
    }

pub search-returns-then-is_none-clause-end : goal.search-returns-then-is_none-clause-end
search-returns-then-is_none-clause-end t c =
    at_end c.args.program.code.now (liveness c.args.program.live.now) c.args.bounds c.args.rest.now _ c.args.room _ _ (sym c.in_default.ensures) c.is_whole.result c.is_whole.ensures true
    c.if-is_none.ensures

pub search-returns-else-is_none-clause-end : goal.search-returns-else-is_none-clause-end
search-returns-else-is_none-clause-end t c =
    subst (λ (v : Bool). IsEnd c.args.program.code.now (liveness c.args.program.live.now) c.args.bounds c.args.rest.now (are_to_come (option_map (λ r. r.now) c.args.last)) c.args.room
    c.args.self.now.threads.items c.args.self.now.threads.items c.args.self.now.out v) (sym c.if-is_none.false)
    (at_end c.args.program.code.now (liveness c.args.program.live.now) c.args.bounds c.args.rest.now _ c.args.room _ _ (sym c.in_default.ensures) (is_whole c.args.rest.now) refl false
    c.if-is_none.ensures)

pub search-returns-then-not-is_open-clause-end : goal.search-returns-then-not-is_open-clause-end
search-returns-then-not-is_open-clause-end t c =
    closed c.args.program.code.now (liveness c.args.program.live.now) c.args.bounds c.args.rest.now c.in-Some.next.now (sym c.in-Some.ensures) c.args.room _ _ _ _
    (ap (λ v. v.items) c.if-not-is_open.ensures.threads) c.if-not-is_open.ensures.open

pub search-returns-in_default-first_of-clause-end : goal.search-returns-in_default-first_of-clause-end
search-returns-in_default-first_of-clause-end t c =
    ok_both c.first_from.result (λ v. IsKept c.is_open.new.self.out c.first_from.new.self.out)
    (λ v. IsEnd c.args.program.code.now (liveness c.args.program.live.now) c.args.bounds c.args.rest.now (begin_from no_path) c.args.room c.is_open.new.self.threads.items
    c.first_from.new.self.threads.items c.first_from.new.self.out v)
    (λ v. IsEnd c.args.program.code.now (liveness c.args.program.live.now) c.args.bounds c.args.rest.now (are_to_come (option_map (λ r. r.now) c.args.last)) c.args.room
    c.args.self.now.threads.items c.first_from.new.self.threads.items c.first_from.new.self.out v)
    (λ v kept end. end_from c.args.program.code.now (liveness c.args.program.live.now) c.args.bounds c.args.rest.now _ c.args.room _ _ _ _ v (ap (λ x. x.items) c.is_open.ensures.threads)
    (first_found c.args.program.code.now (liveness c.args.program.live.now) c.args.bounds c.args.rest.now c.in-Some.next.now (sym c.in-Some.ensures) _ c.args.room _ v _ _
    c.in_default-first_of.ensures end))
    c.first_from.ensures.kept
    (c.first_from.ensures.end no_path
    (subst (λ (x : Scope). IsFirst c.args.program.code.now (liveness c.args.program.live.now) x no_path c.in_ok-found.found) c.scope_of-scope.ensures c.in_ok-found.ensures))

pub search-below-requires : goal.search-below-requires
search-below-requires t c =
    let taken = taken_last c.args.program.code.now (liveness c.args.program.live.now) c.args.bounds c.args.rest.now c.in-Some.next.now (sym c.in-Some.ensures) _ c.in-Some-first_of.thread.now
    c.in_ok-path.path c.requires.last c.in-Some-first_of.ensures c.in_ok-path.ensures c.if-not-is_open.ensures.open.1 in (
      search rules,
      (
        sym c.in-Some.ensures,
        (
          c.if-not-is_open.ensures.open.0,
          (
            taken,
            λ later leaves. subst (λ o. CanFollow c.args.program.code.now c.args.bounds later o) (sym c.others_of.ensures)
                (follow_on c.args.program.code.now c.args.bounds c.args.rest.now _ c.in-Some-first_of.thread.now c.in_ok-path.path c.requires.last
                c.in-Some-first_of.ensures c.in_ok-path.ensures later leaves),
          ),
        ),
      ),
    )

pub search-returns-then-branch-clause-end : goal.search-returns-then-branch-clause-end
search-returns-then-branch-clause-end t c =
    end_from c.args.program.code.now (liveness c.args.program.live.now) c.args.bounds c.args.rest.now _ c.args.room _ _ _ _ true (ap (λ x. x.items) c.is_open.ensures.threads)
    (same_found c.args.program.code.now (liveness c.args.program.live.now) c.args.bounds c.args.rest.now c.in-Some.next.now (sym c.in-Some.ensures) _ c.in-Some-first_of.thread.now
    c.in_ok-path.path c.args.room _ _ _ c.in-Some-first_of.ensures c.in_ok-path.ensures _ c.others_of.ensures _ c.if-branch.true
    c.in_ok-below.ensures.end)

pub search-next_path-requires : goal.search-next_path-requires
search-next_path-requires t c =
    let taken = taken_last c.args.program.code.now (liveness c.args.program.live.now) c.args.bounds c.args.rest.now c.in-Some.next.now (sym c.in-Some.ensures) _ c.in-Some-first_of.thread.now
    c.in_ok-path.path c.requires.last c.in-Some-first_of.ensures c.in_ok-path.ensures c.if-not-is_open.ensures.open.1 in
    omega (arith, taken.within.outcomes, ap (λ (s : Scope). s.most) c.scope_of-scope.ensures)

pub search-returns-clause-end : goal.search-returns-clause-end
search-returns-clause-end t c =
    ok_both c.first_from-2.result (λ v. IsKept c.below.new.self.out c.first_from-2.new.self.out)
    (λ v. IsEnd c.args.program.code.now (liveness c.args.program.live.now) c.args.bounds c.args.rest.now (begin_from (after c.in_ok-path.path)) c.args.room c.below.new.self.threads.items
    c.first_from-2.new.self.threads.items c.first_from-2.new.self.out v)
    (λ v. IsEnd c.args.program.code.now (liveness c.args.program.live.now) c.args.bounds c.args.rest.now (are_to_come (option_map (λ r. r.now) c.args.last)) c.args.room
    c.args.self.now.threads.items c.first_from-2.new.self.threads.items c.first_from-2.new.self.out v)
    (λ v kept end. end_from c.args.program.code.now (liveness c.args.program.live.now) c.args.bounds c.args.rest.now _ c.args.room _ _ _ _ v (ap (λ x. x.items) c.is_open.ensures.threads)
    (later_found c.args.program.code.now (liveness c.args.program.live.now) c.args.bounds c.args.rest.now c.in-Some.next.now (sym c.in-Some.ensures) _ c.in-Some-first_of.thread.now
    c.in_ok-path.path c.args.room _ _ v _ _ _ c.in-Some-first_of.ensures c.in_ok-path.ensures _ c.others_of.ensures _ c.if-branch.false
    c.in_ok-below.ensures.end kept end))
    c.first_from-2.ensures.kept
    (c.first_from-2.ensures.end (after c.in_ok-path.path)
    (subst (λ (x : Scope). IsFirst c.args.program.code.now (liveness c.args.program.live.now) x (after c.in_ok-path.path) c.in_ok-found-2.found) c.scope_of-scope.ensures c.in_ok-found-2.ensures))
