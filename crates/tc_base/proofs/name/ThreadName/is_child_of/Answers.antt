use Rattle.std.proofs.Common.{◌≡◌, ◌∷◌, ◌++◌, [], ap, subst, sym, ◌∙◌, bytes_eq, Decides}
use Rattle.std.proofs.lemmas.Bool.{ne_eqb, false_from_ne_true}
use Rattle.std.proofs.lemmas.Bool.Decides.{Decides-eqb, same_from_decides}
use Rattle.std.proofs.lemmas.List.{append_cancel_right, same_from_push}
use Rattle.std.proofs.lemmas.Slice.Eq.{slice_eq-Decides}
use Rattle.tc_base.specs.Names.{child}
use Rattle.tc_base.proofs.Names.{same_true, same_refl}
use Rattle.tc_base.proofs.name.ThreadName.is_child_of.Goals as goal

pub returns-then-last-number : goal.returns-then-last-number
returns-then-last-number c =
    let front = c.in-Some.front.now in
    let own = child c.args.parent.now c.args.number in
    let whole : c.args.self.now ≡ front ++ c.args.number ∷ [] =
    sym c.children.ensures ∙ c.in-Some.ensures.cases.0 ∙ ap (λ k. front ++ k ∷ []) c.if-last-number.true in
    let decides : Decides c.eq.result (front ≡ c.args.parent.now) =
    subst (λ n. Decides c.eq.result (front ≡ n)) c.children-then-last-number.ensures
    (slice_eq-Decides Decides-eqb front c.children-then-last-number.result.now c.eq.result c.eq.ensures) in
    same_from_decides c.eq.result (bytes_eq c.args.self.now own) decides (
      λ same. append_cancel_right front c.args.parent.now (c.args.number ∷ []) (sym whole ∙ same_true c.args.self.now own same),
      λ same. ap (λ n. bytes_eq n own) (whole ∙ ap (λ n. n ++ c.args.number ∷ []) same) ∙ same_refl own,
    )

pub returns-else-last-number : goal.returns-else-last-number
returns-else-last-number c =
    let front = c.in-Some.front.now in
    let last = c.in-Some.last.now in
    let own = child c.args.parent.now c.args.number in
    let whole : c.args.self.now ≡ front ++ last ∷ [] = sym c.children.ensures ∙ c.in-Some.ensures.cases.0 in
    ne_eqb last c.args.number c.if-last-number.false
    ∙ sym (false_from_ne_true (bytes_eq c.args.self.now own)
    (λ same. c.if-last-number.false (same_from_push front c.args.parent.now last c.args.number (sym whole ∙ same_true c.args.self.now own same)).1))
