use Rattle.std.proofs.Common.{◌∙◌, ◌+◌, refl, ap, sym, true, false}
use Rattle.path_walk.specs.tc_base.declared.handle.Handle.TheVariants.{Child, Joined}
use Rattle.tc_code.specs.Step.{child_number}
use Rattle.path_walk.specs.Marks.{handle_in, marks_after_instr}
use Rattle.thread_marks.specs.Own.{own_of}
use Rattle.thread_marks.proofs.Owning.{changed}
use Rattle.thread_marks.proofs.own.Own.apply.Goals as goal

pub returns-in-Create : goal.returns-in-Create
returns-in-Create c t is =
    c.join.ensures ∙ changed c.args.self.now t c.in-Create.handle (Child (t.children + 1)) true is refl ∙ ap (λ i. own_of (marks_after_instr t i)) (sym c.in-Create.is)

pub returns-in-Join : goal.returns-in-Join
returns-in-Join c t is =
    c.join-in-Join.ensures ∙ changed c.args.self.now t c.in-Join.handle (Joined (child_number (handle_in t c.in-Join.handle))) false is refl
    ∙ ap (λ i. own_of (marks_after_instr t i)) (sym c.in-Join.is)
