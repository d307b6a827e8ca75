use Rattle.std.proofs.Common.{◌≡◌, ◌∙◌, ℕ, ◌+◌, List, length, map, get_or, ap, sym, arith, Bor, Bool, false, take, drop, ◌++◌, ◌-◌, refl, subst}
use Rattle.std.specs.List.{Contains}
use Rattle.std.proofs.Math.Seq.{take-append_seam}
use Rattle.std.proofs.lemmas.List.{get_or_read, length-map}
use Rattle.std.proofs.lemmas.List.Elements.{Contains-get_or}
use Rattle.refute_check.specs.declared.line.Line.{Line}
use Rattle.why_impossible.specs.refute_core.Reached.{AreReached, hints_used}
use Rattle.why_impossible.specs.refute_core.helpers.Marks.{AreMarked}
use Rattle.why_impossible.proofs.refute_core.Backwards.{AreSwept, hints_at, swept_begin, swept_first, swept_step}
use Rattle.why_impossible.proofs.refute_core.Passes.{hints_within, some_hints}
use Rattle.why_impossible.proofs.refute_core.reached.Goals as goal

-- the number of hints is that of the added clauses used
many : (hints : List (Bor (List ℕ))) (lines own : List Line) → map (λ h. h.now) hints ≡ hints_used lines → lines ≡ own
    → length hints ≡ length (hints_used own)
many hints lines own e is = sym (length-map hints (λ h. h.now)) ∙ ap length e ∙ ap (λ ls. length (hints_used ls)) is

pub overflow_sub-size : goal.overflow_sub-size
overflow_sub-size c = omega (
  arith,
  some_hints c.args.cnf.now c.args.derivation.now c.requires,
  many c.in_ok-hints.hints.items c.lines.result.now c.args.derivation.now c.in_ok-hints.ensures c.lines.ensures.lines,
  c.len-2.ensures,
  c.in_ok-hints.hints.ok,
)

pub index_mut-requires : goal.index_mut-requires
index_mut-requires c = omega (
  arith,
  some_hints c.args.cnf.now c.args.derivation.now c.requires,
  many c.in_ok-hints.hints.items c.lines.result.now c.args.derivation.now c.in_ok-hints.ensures c.lines.ensures.lines,
  c.len.ensures,
  c.len-2.ensures,
  c.in_ok-hints.hints.ok,
  c.in_ok-marks.ensures.len,
)

pub loop-place-init : goal.loop-place-init
loop-place-init c =
    let same = many c.in_ok-hints.hints.items c.lines.result.now c.args.derivation.now c.in_ok-hints.ensures c.lines.ensures.lines in
    swept_begin (length c.args.cnf.now.clauses) c.args.derivation.now c.in_ok-marks.marks.items (c.len-size.result + c.len.result)
    (c.len-size.result + c.len-2.result - 1) c.len-place.result (some_hints c.args.cnf.now c.args.derivation.now c.requires)
    (c.in_ok-marks.ensures.items_if_clones_equal (λ y e. e))
    (omega (arith, same, c.len.ensures, c.in_ok-hints.hints.ok, c.len-size.ensures.len))
    (omega (arith, c.len.ensures, c.len-2.ensures))
    (omega (arith, same, c.len-place.ensures, c.in_ok-hints.hints.ok))

pub mark-requires : goal.mark-requires
mark-requires c k d below =
    let used : map (λ h. h.now) c.in_ok-hints.hints.items ≡ hints_used c.args.derivation.now =
    c.in_ok-hints.ensures ∙ ap hints_used c.lines.ensures.lines in
    let at = hints_at c.in_ok-hints.hints.items (hints_used c.args.derivation.now) (c.loop-place.place - 1) c.index-then-index.result.now used
    c.index-then-index.ensures
    (omega (arith, c.loop-place-test.true, c.loop-place.auto.place, c.len-place.ensures, c.in_ok-hints.hints.ok)) in
    let among = Contains-get_or c.as_slice.result.now k d below in
    let a = hints_within c.args.cnf.now c.args.derivation.now c.requires (c.loop-place.place - 1) (get_or c.as_slice.result.now k d)
    (subst (λ ns. Contains ns (get_or c.as_slice.result.now k d)) (c.as_slice.ensures.numbers ∙ sym at) among) in (
      a.0,
      omega (
        arith,
        a.1,
        c.deref_mut.ensures.len,
        c.loop-place.invariant.all,
        c.loop-place.marks.ok,
        c.loop-place-test.true,
        c.loop-place.auto.place,
        c.len-place.ensures,
        c.in_ok-hints.hints.ok,
        many c.in_ok-hints.hints.items c.lines.result.now c.args.derivation.now c.in_ok-hints.ensures c.lines.ensures.lines,
      ),
    )

pub loop-place-preserved-then-index : goal.loop-place-preserved-then-index
loop-place-preserved-then-index c =
    let used : map (λ h. h.now) c.in_ok-hints.hints.items ≡ hints_used c.args.derivation.now =
    c.in_ok-hints.ensures ∙ ap hints_used c.lines.ensures.lines in
    let at = hints_at c.in_ok-hints.hints.items (hints_used c.args.derivation.now) (c.loop-place.place - 1) c.index-then-index.result.now used
    c.index-then-index.ensures
    (omega (arith, c.loop-place-test.true, c.loop-place.auto.place, c.len-place.ensures, c.in_ok-hints.hints.ok)) in
    let new = c.mark.new.marks in
    let whole : take c.loop-place.marks.len (new ++ drop (length new) c.loop-place.marks.items) ≡ new =
    ap (λ n. take n (new ++ drop (length new) c.loop-place.marks.items))
    (omega (arith, c.mark.ensures.all, c.deref_mut.ensures.len)) ∙ take-append_seam new (drop (length new) c.loop-place.marks.items) in
    subst (λ ms. AreSwept (length c.args.cnf.now.clauses) c.args.derivation.now ms (c.loop-place.place - 1)) (sym whole)
    (swept_step (length c.args.cnf.now.clauses) c.args.derivation.now c.loop-place.marks.items new c.loop-place.place c.as_slice.result.now
    (hints_within c.args.cnf.now c.args.derivation.now c.requires) (omega (arith, c.loop-place-test.true)) c.loop-place.invariant
    (at ∙ sym c.as_slice.ensures.numbers) (sym (get_or_read c.loop-place.marks.items (length c.args.cnf.now.clauses + (c.loop-place.place - 1)) c.index.result.now
    (omega (
      arith,
      c.loop-place.invariant.all,
      c.loop-place-test.true,
      c.loop-place.auto.place,
      c.len-place.ensures,
      c.in_ok-hints.hints.ok,
      many c.in_ok-hints.hints.items c.lines.result.now c.args.derivation.now c.in_ok-hints.ensures c.lines.ensures.lines,
    ))
    (c.index.ensures ∙ ap (λ n. get_or c.loop-place.marks.items (n + (c.loop-place.place - 1)) c.index.result.now) c.len-size.ensures.len) false) ∙ c.if-index.true)
    (subst (λ (ms : List Bool). AreMarked ms c.as_slice.result.now new) c.deref_mut.ensures.value c.mark.ensures))

pub returns : goal.returns
returns c =
    subst (AreReached c.args.cnf.now c.args.derivation.now) (sym (c.truncate.ensures.items ∙ ap (λ n. take n c.loop-place.marks.items) c.len-size.ensures.len))
    (swept_first (length c.args.cnf.now.clauses) c.args.derivation.now c.loop-place.marks.items
    (subst (AreSwept (length c.args.cnf.now.clauses) c.args.derivation.now c.loop-place.marks.items) (omega (arith, c.loop-place-test.false)) c.loop-place.invariant) c.args.cnf.now refl)
