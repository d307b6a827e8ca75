use Rattle.std.proofs.Common.{◌∙◌, length, ap, arith, subst, sym}
use Rattle.order_formula.specs.declared.formula.Conjunct.{Conjunct}
use Rattle.bit_blast.specs.Blasted.{layout_of}
use Rattle.bit_blast.specs.Drafts.{Draft, drafted}
use Rattle.bit_blast.specs.Sizes.{IsUpTo, body_size, draft_size}
use Rattle.bit_blast.proofs.Loops.{sum_with_one}
use Rattle.mutex_clauses.specs.Loads.{LoadsAreBelow}
use Rattle.mutex_clauses.specs.mutex_states.States.{with_states}
use Rattle.clap_solve.specs.Clauses.{drafted_by}
use Rattle.clap_solve.proofs.Drafted.{same_roots}
use Rattle.clap_solve.proofs.posed.drafted.Goals as goal

pub new-requires-clause-room : goal.new-requires-clause-room
new-requires-clause-room c =
    let size = sum_with_one (λ (k : Conjunct). body_size k.body) c.args.formula.now in
    let room = c.requires.room in
    rw c.loads-loads.ensures (omega (arith, size, room))

pub add_states-requires-clause-loads : goal.add_states-requires-clause-loads
add_states-requires-clause-loads c =
    subst (λ (d : Draft). LoadsAreBelow c.args.execution.now.symbolic d.layout.loads) (sym c.in_ok-draft.ensures.draft)
    (subst (LoadsAreBelow c.args.execution.now.symbolic) (sym c.loads-loads.ensures) c.requires.loads)

pub add_states-requires-clause-room : goal.add_states-requires-clause-room
add_states-requires-clause-room c =
    let x = c.args.execution.now in
    let size = sum_with_one (λ (k : Conjunct). body_size k.body) c.args.formula.now in
    let few = subst (λ n. IsUpTo (draft_size (record { order = c.args.order; loads = n }) x.terms c.args.formula.now) c.in_ok-draft.draft.clauses)
    c.loads-loads.ensures c.in_ok-draft.ensures.size in
    let room = c.requires.room in
    (omega (arith, size, few.0, room), omega (arith, size, few.1, room))

pub returns-clause-draft : goal.returns-clause-draft
unfolding drafted_by
returns-clause-draft c =
    let x = c.args.execution.now in
    let f = c.args.formula.now in
    c.in_ok-add_states.ensures.draft
    ∙ ap (with_states c.args.code.now x.paths x.symbolic x.terms f)
    (c.in_ok-draft.ensures.draft ∙ ap (λ n. drafted x.terms f (layout_of c.args.order n f)) c.loads-loads.ensures)

pub returns-clause-room : goal.returns-clause-room
returns-clause-room c =
    let x = c.args.execution.now in
    let f = c.args.formula.now in
    let size = sum_with_one (λ (k : Conjunct). body_size k.body) f in
    let few = subst (λ n. IsUpTo (draft_size (record { order = c.args.order; loads = n }) x.terms f) c.in_ok-draft.draft.clauses)
    c.loads-loads.ensures c.in_ok-draft.ensures.size in
    let roots = ap length (ap (λ (d : Draft). d.roots) c.in_ok-add_states.ensures.draft
    ∙ same_roots c.args.code.now x.paths x.symbolic x.terms f c.in_ok-draft.draft) in
    omega (arith, size, few.1, c.requires.room, c.in_ok-draft.ensures.count, c.in_ok-add_states.ensures.larger.2, roots)
