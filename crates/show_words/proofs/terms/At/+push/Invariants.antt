use Rattle.show_words.proofs.terms.At.+push.Given as goal

abbrev pub decreases-push : goal.decreases-push
decreases-push l = l.depth
