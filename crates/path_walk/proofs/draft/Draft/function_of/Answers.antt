use Rattle.std.proofs.Common.{◌≡◌, ◌∙◌, ◌<◌, ◌-◌, ap, sym, subst, length, take, slice_index}
use Rattle.std.specs.Prelude.{bytes_eq, false, true, slice_get, IfSome}
use Rattle.std.specs.List.{list_any}
use Rattle.path_walk.specs.Fits.{function_of}
use Rattle.path_walk.specs.Paths.{Walk}
use Rattle.path_walk.specs.helpers.Drafts.{Draft}
use Rattle.path_walk.proofs.Drafts.{take_last, is_nonempty, untold_child, told_at}
use Rattle.path_walk.proofs.draft.Draft.function_of.Goals as goal

pub returns-in-None : goal.returns-in-None
returns-in-None c = λ log t draft next name.
    let nums = c.children-numbers.result.now in
    let parts = take_last nums (is_nonempty nums (sym c.is_empty.ensures ∙ c.if-is_empty.false)) in
    let own = c.children-numbers.ensures in
    let threads : c.deref.result.now ≡ c.args.self.now.threads = c.deref.ensures.value ∙ ap (λ (d : Draft). d.threads) c.self.view_is in
    sym (ap (function_of c.args.code.now log) (sym own ∙ parts)
    ∙ untold_child c.args.code.now log c.args.self.now t draft next (take (length nums - 1) nums) (slice_index nums (length nums - 1))
    (sym name ∙ sym own ∙ parts)
    (subst (λ ws. list_any (λ (w : Walk). bytes_eq (take (length nums - 1) nums) w.name) ws ≡ false) threads c.in-None.ensures.none))

pub returns-in-Some : goal.returns-in-Some
returns-in-Some c = λ log t draft next name.
    let nums = c.children-numbers.result.now in
    let parts = take_last nums (is_nonempty nums (sym c.is_empty.ensures ∙ c.if-is_empty.false)) in
    let own = c.children-numbers.ensures in
    let threads : c.deref.result.now ≡ c.args.self.now.threads = c.deref.ensures.value ∙ ap (λ (d : Draft). d.threads) c.self.view_is in
    let found = c.in-Some.ensures.found in
    c.child_function.ensures
    ∙ told_at c.args.code.now log c.args.self.now t draft next c.args.name.now name (take (length nums - 1) nums) c.in-Some.parent
    (slice_index nums (length nums - 1))
    (subst (λ ws. IfSome (slice_get ws c.in-Some.parent) (λ (w : Walk). bytes_eq (take (length nums - 1) nums) w.name ≡ true)) threads found.0)
    (subst (λ ws. c.in-Some.parent < length ws) threads found.1)
    ∙ sym (ap (function_of c.args.code.now log) (sym own ∙ parts))
