use Rattle.std.proofs.Common.{ℕ, ap}
use Rattle.thread_paths.proofs.Values.{at_start}
use Rattle.thread_paths.proofs.known.Known.at_start.Goals as goal

pub returns : goal.returns
returns c =
    let sizes = c.sizes-params.ensures in
    at_start c.args.code.now c.args.function sizes.lawful _ _ (ap (λ (x : ℕ × ℕ). x.0) sizes.sizes) (ap (λ (x : ℕ × ℕ). x.1) sizes.sizes) _ _
    c.new-slots.ensures.len c.in_ok-resize.ensures.len _ _ c.resize-2.new.self.items c.new-slots.ensures.items c.in_ok-resize.ensures.items c.in_ok-resize-2.ensures.items
