use Rattle.std.proofs.Common.{◌≡◌, ◌∙◌, ℕ, ◌+◌, ◌==◌, cond, ap, ap₂, sym, arith}
use Rattle.std.specs.Option.{option_map_or}
use Rattle.order_switches.specs.Switches.{changes, thread_at, thread_in}
use Rattle.order_switches.proofs.Changes.{changes_push, eq, last_is, last_of}
use Rattle.order_switches.proofs.Levels.{below, below_next, below_same}
use Rattle.order_switches.proofs.switches.Goals.{in-Some, in_default}
use Rattle.order_switches.proofs.switches.Goals as goal

pub loop-position-preserved : goal.loop-position-preserved
loop-position-preserved c =
    let f = thread_at c.args.threads.now c.args.world.now in
    let p = c.loop-position.position in
    let old = c.loop-position.invariant in
    let at : c.thread_in.result ≡ f p = c.thread_in.ensures ∙ ap (λ qs. thread_in c.args.threads.now qs p) c.positions.ensures.positions in
    elim c.match-thread_in.branch [
      | in-Some w ↦
          let t = w.in-Some.thread in
          let next = below_next f p t (sym at ∙ w.in-Some.is) in
          record {
            count = w.count-is
                ∙ ap₂ (λ m n. m + n) old.count
                (w.change-count.ensures.change ∙ ap (λ o. option_map_or (λ (s : ℕ). cond (s == t) 0 1) o 0) old.last)
                ∙ sym (changes_push (below f p) t) ∙ ap (changes eq) (sym next);
            last = w.last-is ∙ sym (last_is (below f p) t) ∙ ap last_of (sym next);
            few = omega (arith, w.count-is, w.change-count.ensures.one, old.few);
          }
      | in_default w ↦
          let next = below_same f p (sym at ∙ w.in_default.is) in
          record {
            count = w.count-is ∙ old.count ∙ ap (changes eq) (sym next);
            last = w.last-is ∙ old.last ∙ ap last_of (sym next);
            few = omega (arith, w.count-is, old.few);
          }
    ]

pub returns : goal.returns
returns c =
    let f = thread_at c.args.threads.now c.args.world.now in
    let end = c.loop-position.auto.position-end in
    let whole : c.loop-position.position ≡ c.end_at-position-end.result = omega (arith, c.loop-position-test.false, end) in
    record {
      number = c.loop-position.invariant.count ∙ ap (λ n. changes eq (below f n)) (whole ∙ c.end_at-position-end.ensures.end);
      few = omega (arith, c.loop-position.invariant.few, whole, c.end_at-position-end.ensures.few);
    }
