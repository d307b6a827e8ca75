use Rattle.std.proofs.Common.{arith, ◌≡◌, ◌+◌, ◌++◌, neg_ℤ, take, drop, set, subst, sym}
use Rattle.std.proofs.lemmas.Grind.{common_steps}
use Rattle.bit_words.specs.Words.{inverted_word}
use Rattle.bit_words.proofs.Loops.{inverted_more, inverted_all}
use Rattle.bit_words.proofs.invert.Goals as goal

pub loop-place-preserved : goal.loop-place-preserved
loop-place-preserved c =
    let e : c.opposite.result ≡ neg_ℤ c.index-word-place.result = c.opposite.ensures in
    record {
      all = subst (λ k. inverted_word c.args.word.now ≡ take (c.loop-place.place + 1) (set c.loop-place.word c.loop-place.place k)
          ++ inverted_word (drop (c.loop-place.place + 1) (set c.loop-place.word c.loop-place.place k))) (sym e)
          (inverted_more _ c.loop-place.word c.loop-place.place c.index-word-place.result c.loop-place.invariant.all (omega arith) c.index-word-place.is);
      length = grind (arith, common_steps);
    }

pub returns : goal.returns
returns c = sym (inverted_all _ c.loop-place.word c.loop-place.place c.loop-place.invariant.all (omega arith))
