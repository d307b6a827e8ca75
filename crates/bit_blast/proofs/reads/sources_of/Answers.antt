use Rattle.std.proofs.Common.{◌≡◌, ℕ, ◌+◌, List, [], ◌∷◌, ◌++◌, ℤ, pos, ap, sym, ◌∙◌, subst, arith, rules, length, take}
use Rattle.std.proofs.lemmas.List.{length_push}
use Rattle.std.proofs.lemmas.List.Elements.{All-push}
use Rattle.order_formula.specs.declared.read.Candidate.{Candidate}
use Rattle.bit_blast.specs.Reads.{Source, sources_of}
use Rattle.bit_blast.specs.helpers.Within.{IsSourceWithin, AreSourcesWithin}
use Rattle.bit_blast.proofs.Loops.{source_of, sources_more, sources_next, word_is}
use Rattle.bit_blast.proofs.reads.sources_of.Goals as goal

pub loop-place-preserved : goal.loop-place-preserved
loop-place-preserved c =
    let words : List (List ℤ) = c.args.words.now in
    let cs : List Candidate = c.args.candidates.now in
    let ls : List ℤ = c.args.seen.now in
    let n : ℕ = c.args.circuit.now.vars in
    let i : ℕ = c.loop-place.place in
    let d = c.index-candidates-place.result in
    let l : ℤ = c.index-seen-place.result in
    let taken : ℤ = c.add_variable.result in
    let value : List ℤ = c.index-words-place.result in
    let made : Source = record { event = d.event; seen = l; taken = taken; value = value } in
    let was = c.loop-place.invariant in
    let high : ℕ = c.add_variable.new.self.vars in
    let next : high ≡ c.loop-place.circuit.vars + 1 = c.add_variable.ensures.vars in
    let fresh : taken ≡ pos (n + i + 1) = c.add_variable.ensures.literal ∙ ap (λ k. pos (k + 1)) was.vars in
    let is : made ≡ source_of words (n + i) d l =
    ap (λ k. let s : Source = record { event = d.event; seen = l; taken = k; value = value } in s) fresh
    ∙ ap (λ k. let s : Source = record { event = d.event; seen = l; taken = pos (n + i + 1); value = k } in s)
    (word_is words d.value value (search rules) (search rules)) in
    record {
      sources = c.in_ok-push.ensures.items ∙ ap (λ k. k ++ made ∷ []) was.sources
          ∙ ap (λ k. sources_of words n (take i cs) (take i ls) ++ k ∷ []) is
          ∙ sym (sources_next words n cs ls i d l (search rules) (search rules) c.index-candidates-place.is c.index-seen-place.is);
      count = ap length c.in_ok-push.ensures.items ∙ length_push c.loop-place.sources.items made ∙ ap (λ k. k + 1) was.count;
      vars = omega (arith, next, was.vars);
      clauses = c.add_variable.ensures.clauses ∙ was.clauses;
      within = subst (AreSourcesWithin high) (sym c.in_ok-push.ensures.items)
          (All-push (IsSourceWithin high) c.loop-place.sources.items made
          (sources_more c.loop-place.circuit.vars high c.loop-place.sources.items (omega (arith, next)) was.within)
          (record { seen = search rules; taken = search rules; value = search rules }));
    }
