use Rattle.std.proofs.Common.{suc, ◌≡◌, ◌∙◌, ◌+◌, ◌++◌, ◌∷◌, [], take, get_or, arith, refl, sym, ap, subst}
use Rattle.std.proofs.Math.Seq.{take-suc}
use Rattle.std.proofs.lemmas.List.{append-nil, append_assoc, take_all}
use Rattle.certificate_input.specs.helpers.Incoming.{IsRead}
use Rattle.certificate_input.proofs.incoming.Incoming.take.Goals as goal

pub loop-byte-init : goal.loop-byte-init
loop-byte-init c = record { code = refl; read = λ front was. subst (IsRead c.args.self.now) (sym (append-nil front)) was }

pub take_byte-requires : goal.take_byte-requires
take_byte-requires c =
    let r = c.requires in (r.0 ++ take c.loop-byte.byte-index c.args.bytes.now, c.loop-byte.invariant.read r.0 r.1)

pub loop-byte-preserved : goal.loop-byte-preserved
loop-byte-preserved c =
    let bs = c.args.bytes.now in
    let i = c.loop-byte.byte-index in
    let one : suc i ≡ i + 1 = omega arith in
    record {
      code = c.in_ok-take_byte.ensures.code ∙ c.loop-byte.invariant.code;
      read = λ front was.
          subst (λ k. IsRead c.take_byte.new.self (front ++ take k bs)) one
          (subst (IsRead c.take_byte.new.self)
          (append_assoc front (take i bs) (get_or bs i 0 ∷ []) ∙ ap (λ xs. front ++ xs) (sym (take-suc bs i 0 c.loop-byte-test.true)))
          (c.in_ok-take_byte.ensures.read (front ++ take i bs) (c.loop-byte.invariant.read front was)));
    }

pub returns : goal.returns
returns c = (
  c.loop-byte.invariant.code,
  λ front was. subst (λ xs. IsRead c.loop-byte.self (front ++ xs)) (take_all c.loop-byte.byte-index c.args.bytes.now (omega (arith, c.loop-byte-test.false))) (c.loop-byte.invariant.read front was),
)
