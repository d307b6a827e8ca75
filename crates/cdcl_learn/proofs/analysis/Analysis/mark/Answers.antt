use Rattle.std.proofs.Common.{◌≡◌, ◌<◌, false, length, get_or, sym, ◌∙◌, ap, arith}
use Rattle.std.proofs.lemmas.List.{get_or_read}
use Rattle.cdcl_literals.specs.Literals.{opposite_of}
use Rattle.cdcl_learn.proofs.Counting.{tallies_last, tallies_root, tallies_between}
use Rattle.cdcl_learn.proofs.analysis.Analysis.mark.Goals as goal
use Rattle.cdcl_learn.proofs.analysis.Analysis.mark.Goals.{
  then-place-bounds,
  else-place-bounds+then-place-bounds-2+in_ok-push,
  else-place-bounds+else-place-bounds-2,
}

pub returns-clause-tallies : goal.returns-clause-tallies
returns-clause-tallies c =
    let s = c.requires.tallies in
    let t = c.args.trail.now in
    let h : c.args.place < length c.args.self.now.met.items = omega (arith, s.size, c.requires.place) in
    let f : get_or c.args.self.now.met.items c.args.place false ≡ false =
    sym (get_or_read c.args.self.now.met.items c.args.place c.index.result.now h c.index.ensures false) ∙ c.if-index.false in
    elim c.if-place-bounds.branch [
      | then-place-bounds w ↦ rw w.self-is (tallies_last t c.args.self.now.met.items c.args.self.now.pending c.args.bounds.root c.args.bounds.base
          c.args.self.now.literals.items s c.args.place h f w.if-place-bounds.true)
      | else-place-bounds+then-place-bounds-2+in_ok-push w ↦
          rw (w.self-is, w.in_ok-push.ensures.items) (tallies_between t c.args.self.now.met.items c.args.self.now.pending c.args.bounds.root
          c.args.bounds.base c.args.self.now.literals.items s c.args.place w.opposite.result h w.if-place-bounds.false w.if-place-bounds-2.true
          (w.opposite.ensures ∙ ap opposite_of w.literal.ensures))
      | else-place-bounds+else-place-bounds-2 w ↦ rw w.self-is
          (tallies_root t c.args.self.now.met.items c.args.self.now.pending c.args.bounds.root c.args.bounds.base c.args.self.now.literals.items s
          c.args.place h w.if-place-bounds.false w.if-place-bounds-2.false)
    ]
