use Rattle.std.proofs.Common.{◌≡◌, ◌∙◌, ◌+◌, ◌-◌, ◌++◌, List, ℕ, ap, sym, length}
use Rattle.rand_core.specs.Steps.{stream_of}
use Rattle.rand_xoshiro.specs.SplitMix64.{splitmix_steps}
use Rattle.tc_record.specs.Seeded.{seed_words}
use Rattle.tc_record.proofs.Runs.{words, all_drawn, length-words, next_drawn, none_drawn, words_of_seed}
use Rattle.tc_record.proofs.words.seed_words.Goals as goal

pub loop-init : goal.loop-init
loop-init c =
    ap (λ (xs : List ℕ). xs ++ words (c.args.count - 0) (stream_of splitmix_steps c.seed_from_u64-rng.result)) c.new-words.ensures.items
    ∙ none_drawn c.seed_from_u64-rng.result c.args.seed c.args.count c.seed_from_u64-rng.ensures.same

pub loop-preserved : goal.loop-preserved
loop-preserved c =
    ap (λ (xs : List ℕ). xs ++ words (c.args.count - (c.loop.counter + 1)) (stream_of splitmix_steps c.next_u64.new.self)) c.in_ok-push.ensures.items
    ∙ next_drawn c.loop.words.items c.next_u64.result (stream_of splitmix_steps c.loop.rng) (stream_of splitmix_steps c.next_u64.new.self) c.loop.counter
    c.args.count c.loop-test.true c.next_u64.ensures ∙ c.loop.invariant

pub returns-clause-words : goal.returns-clause-words
returns-clause-words c = sym (all_drawn c.loop.words.items (stream_of splitmix_steps c.loop.rng) c.loop.counter c.args.count c.loop-test.false) ∙ c.loop.invariant

pub returns-clause-length : goal.returns-clause-length
returns-clause-length c =
    ap length (returns-clause-words c) ∙ ap length (sym (words_of_seed c.args.count c.args.seed)) ∙ length-words c.args.count _
