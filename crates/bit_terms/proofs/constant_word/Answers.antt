use Rattle.std.proofs.Common.{◌≡◌, ◌≢◌, ◌<◌, ap, ◌∙◌, arith, length, below_more, get_or-set_other, get_or-set_same, rules, FitsSigned, w32}
use Rattle.std.specs.Prelude.{◌==◌, false}
use Rattle.std.specs.Int.{bit_at}
use Rattle.std.proofs.Math.ListN.{length-set}
use Rattle.std.proofs.lemmas.Int.{to_z-of_z}
use Rattle.std.proofs.lemmas.Nat.Bits.{shr_and_one}
use Rattle.std.proofs.lemmas.List.FromFn.{fill_by_all}
use Rattle.sym_terms.specs.int_ops.Arith.{bit}
use Rattle.bit_gates.specs.Folded.{constant}
use Rattle.bit_terms.specs.Terms.{constant_word}
use Rattle.bit_terms.proofs.constant_word.Goals as goal

pub loop-place-preserved : goal.loop-place-preserved
loop-place-preserved c =
    let here = c.constant.ensures
    ∙ ap (λ n. constant (n == 1)) (shr_and_one c.cast_unsigned-bits.result c.loop-place.place ∙ ap (λ n. bit_at n c.loop-place.place) c.cast_unsigned-bits.ensures) in
    let long : length c.loop-place.word ≡ 32 = c.loop-place.invariant.0 in (
      simp length-set long,
      below_more _ _
          (λ k below. let ne : k ≢ c.loop-place.place = omega arith in rw get_or-set_other (c.loop-place.invariant.1 k below))
          (let lt : c.loop-place.place < length c.loop-place.word = omega (arith, long) in rw get_or-set_same here),
    )

pub returns : goal.returns
unfolding constant_word
returns c =
    let fits : FitsSigned w32 c.args.value = search rules in
    fill_by_all (λ k. constant (bit c.args.value k == 1)) c.loop-place.word 32 (constant false) c.loop-place.invariant.0
    (λ k below. c.loop-place.invariant.1 k (omega arith) ∙ ap (λ z. constant (bit z k == 1)) (to_z-of_z w32 c.args.value fits))
