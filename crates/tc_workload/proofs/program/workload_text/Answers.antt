use Rattle.std.proofs.Common.{◌≡◌, ◌≤◌, ◌∙◌, ◌-◌, ap, length, sym, subst}
use Rattle.tc_limits.specs.declared.limits.TheConstants.{PROGRAM_BYTES}
use Rattle.tc_workload.specs.Workload.{adds, creates, declares, each, joins, whole_text, worker_lines}
use Rattle.tc_workload.proofs.Sizes.{workload-short}
use Rattle.tc_workload.proofs.program.workload_text.Goals as goal

pub returns-clause-text : goal.returns-clause-text
returns-clause-text c =
    let words = c.args.words.now in
    let n = length words in
    let threads : c.as_str.result.now ≡ worker_lines n 1 words = c.as_str.ensures.value ∙ c.in_ok-threads.ensures in
    let declared : c.as_str-2.result.now ≡ each declares 1 n = c.as_str-2.ensures.value ∙ c.in_ok-declared.ensures in
    let created : c.as_str-3.result.now ≡ each creates 1 n = c.as_str-3.ensures.value ∙ c.in_ok-created.ensures in
    let joined : c.as_str-4.result.now ≡ each joins 1 n = c.as_str-4.ensures.value ∙ c.in_ok-joined.ensures in
    let added : c.as_str-5.result.now ≡ each adds 2 (n - 1) = c.as_str-5.ensures.value ∙ c.in_ok-added.ensures in
    ap (λ v. v.items) c.into_bytes.ensures.value ∙ c.in_ok-text.ensures ∙ (λ i. whole_text (threads i) (declared i) (created i) (joined i) (added i))

pub returns-clause-short : goal.returns-clause-short
returns-clause-short c =
    subst (λ xs. length xs ≤ PROGRAM_BYTES) (sym (returns-clause-text c)) (workload-short c.args.words.now c.requires.some c.requires.few)
