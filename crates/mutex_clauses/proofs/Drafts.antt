-- Drafts with more clauses.
use Rattle.std.proofs.Common.{ℕ, ◌≤◌, List, ℤ, arith}
use Rattle.std.specs.List.{All}
use Rattle.std.proofs.lemmas.List.Elements.{All-weaker}
use Rattle.cnf_core.specs.Clauses.{Formula, var_of}
use Rattle.bit_words.specs.Words.{AreWithin}
use Rattle.bit_words.proofs.Loops.{within_more}
use Rattle.bit_order.specs.Comparators.{before_literal}
use Rattle.bit_blast.specs.Drafts.{DraftIsWithin}
use Rattle.bit_blast.specs.Whole.{load_words}
use Rattle.mutex_clauses.specs.helpers.Logs.{draft_of}
use Rattle.mutex_clauses.specs.declared.log.Log.{Log}

all_more : (n m : ℕ) (words : List (List ℤ)) → n ≤ m → All (AreWithin n) words → All (AreWithin m) words
all_more n m words more all = All-weaker (AreWithin n) (AreWithin m) (λ ls k. within_more n m ls more k) words all

pub draft_more : (l : Log) (f g : Formula) → DraftIsWithin (draft_of l f) → f.vars ≤ g.vars → DraftIsWithin (draft_of l g)
draft_more l f g is more = record {
  events = is.events;
  variables = omega (arith, is.variables, more);
  before =
      λ first second. let old : var_of (before_literal l.literals.layout.now first second) ≤ f.vars = is.before first second in
      omega (arith, old, more);
  loads = all_more f.vars g.vars (load_words l.literals.layout.now) more is.loads;
  words = all_more f.vars g.vars l.literals.words.now more is.words;
  roots = within_more f.vars g.vars l.literals.roots.now more is.roots;
}
