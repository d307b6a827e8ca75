use Rattle.std.proofs.Common.{◌≡◌, ◌≤◌, ap, sym, ◌∙◌, arith}
use Rattle.cnf_core.specs.Clauses.{Formula}
use Rattle.bit_order.specs.Comparators.{ordered}
use Rattle.bit_order.specs.Layouts.{Layout}
use Rattle.bit_blast.specs.Drafts.{Draft}
use Rattle.bit_blast.proofs.Drafted.{same_draft}
use Rattle.bit_blast.proofs.Within.{draft_within}
use Rattle.bit_blast.proofs.drafts.draft_over.Goals as goal

pub returns-clause-draft : goal.returns-clause-draft
returns-clause-draft c =
    same_draft (record { order = c.args.order; loads = c.args.loads }) c.in_ok-layout.layout c.args.terms.now c.args.formula.now c.add_system.new.circuit
    c.in_ok-words.words.items c.in_ok-words.roots.items c.in_ok-layout.ensures.layout c.in_ok-words.ensures.formula c.in_ok-words.ensures.words
    c.in_ok-words.ensures.roots

pub returns-clause-within : goal.returns-clause-within
returns-clause-within c =
    let d : Draft = record {
      layout = c.in_ok-layout.layout;
      clauses = c.add_system.new.circuit;
      words = c.in_ok-words.words.items;
      roots = c.in_ok-words.roots.items;
    } in
    let at = c.in_ok-layout.ensures.layout in
    let events : d.layout.order.events ≤ 256 = omega (arith, ap (λ (y : Layout). y.order.events) at, c.requires.events) in
    let first : c.in_ok-layout.circuit.vars ≡ (ordered d.layout).vars =
    ap (λ (f : Formula). f.vars) c.in_ok-layout.ensures.formula ∙ sym (ap (λ (y : Layout). (ordered y).vars) at) in
    draft_within d c.in_ok-layout.ensures.lawful events (omega (arith, first, c.in_ok-words.ensures.larger.0)) c.in_ok-words.ensures.words_within
    c.in_ok-words.ensures.roots_within
