use Rattle.std.proofs.Common.{◌≡◌, ◌+◌, ◌<◌, ◌≤◌, ◌++◌, ℕ, List, take, drop, length, sym, ap, ◌∙◌, subst, arith, Vec}
use Rattle.std.proofs.Common.{Global, length-take}
use Rattle.std.specs.Prelude.{◌-◌}
use Rattle.std.proofs.lemmas.Bool.{cond-true}
use Rattle.std.proofs.lemmas.List.{append-nil}
use Rattle.tc_lexer.specs.declared.place.Place.{Place}
use Rattle.tc_lexer.specs.declared.token.Token.{Token}
use Rattle.tc_lexer.specs.Text.{IsFault, fault_at}
use Rattle.tc_lexer.proofs.Places.{place_after-col}
use Rattle.tc_lexer.proofs.Readings.{rest_is, found_at, none_at, found_fits, length_found, read_fault, token_among, pushed_is, none_is, kept}
use Rattle.tc_lexer.proofs.lexer.lex.Goals as goal
use Rattle.tc_lexer.proofs.lexer.lex.Goals.{in-Some-kind+in_ok-map_err, in_default-kind}

pub returns-in_default-clause-refused : goal.returns-in_default-clause-refused
returns-in_default-clause-refused c _ =
    let text = c.args.text.now in
    let start = c.loop-start.start in
    let none = none_at text start c.piece_at.result c.piece_at.ensures c.in_default.is in
    let there = read_fault 4 text c.loop-start.tokens.items start c.loop-start.place c.loop-start.invariant c.loop-start-test.true none in
    let fault = c.fault_at.ensures ∙ ap (fault_at c.loop-start.place) (rest_is text start) in
    subst (IsFault 4 text) (sym fault) there

pub overflow_add-end : goal.overflow_add-end
overflow_add-end c =
    let fits = found_fits c.args.text.now c.loop-start.start c.in-Some.piece c.loop-start-test.true
    (found_at c.args.text.now c.loop-start.start c.piece_at.result c.in-Some.piece c.piece_at.ensures c.in-Some.is) in
    omega (arith, fits.1, c.requires)

pub slice_bounds-place_from-end : goal.slice_bounds-place_from-end
slice_bounds-place_from-end c =
    let fits = found_fits c.args.text.now c.loop-start.start c.in-Some.piece c.loop-start-test.true
    (found_at c.args.text.now c.loop-start.start c.piece_at.result c.in-Some.piece c.piece_at.ensures c.in-Some.is) in
    sym (length_found c.args.text.now c.loop-start.start c.in-Some.piece.len fits.1)

col_fits : (text : List ℕ) (start len : ℕ) (place : Place) → length text ≤ 65536 → start + len ≤ length text → place.col ≤ 1 + length (take start text)
    → place.col + length (take len (take (length text - start) (drop start text))) < 4294967296
col_fits text start len place h k e = omega (arith, length_found text start len k, length-take start text)

pub place_from-place-requires-clause-col : goal.place_from-place-requires-clause-col
place_from-place-requires-clause-col c =
    let text = c.args.text.now in
    let start = c.loop-start.start in
    let fits = found_fits text start c.in-Some.piece c.loop-start-test.true
    (found_at text start c.piece_at.result c.in-Some.piece c.piece_at.ensures c.in-Some.is) in
    let col : c.loop-start.place.col ≤ 1 + length (take start text) = rw c.loop-start.invariant.place_is (place_after-col (take start text)) in
    col_fits text start c.in-Some.piece.len c.loop-start.place c.requires fits.1 col

pub loop-start-smaller : goal.loop-start-smaller
loop-start-smaller c =
    let fits = found_fits c.args.text.now c.loop-start.start c.in-Some.piece c.loop-start-test.true
    (found_at c.args.text.now c.loop-start.start c.piece_at.result c.in-Some.piece c.piece_at.ensures c.in-Some.is) in
    omega (arith, fits, c.loop-start-test.true)

pub loop-start-preserved : goal.loop-start-preserved
loop-start-preserved c =
    let text = c.args.text.now in
    let start = c.loop-start.start in
    let piece = c.in-Some.piece in
    let found = found_at text start c.piece_at.result piece c.piece_at.ensures c.in-Some.is in
    let more : c.match-piece.tokens.items ≡ c.loop-start.tokens.items ++ token_among (take start text) found.piece =
    elim c.match-piece.branch [
      | in-Some-kind+in_ok-map_err w ↦
          ap (λ (v : Vec Token Global). v.items) w.tokens-is
          ∙ (w.push.ensures.items
          ∙ (cond-true _ _ _ (sym w.in_ok-map_err.ensures.variant)
          ∙ ap (λ (ts : List Token). c.loop-start.tokens.items
          ++ ts) (pushed_is text start c.loop-start.place piece w.in-Some-kind.kind c.loop-start.invariant.within c.loop-start.invariant.place_is found
          w.in-Some-kind.is)))
      | in_default-kind w ↦
          ap (λ (v : Vec Token Global). v.items) w.tokens-is
          ∙ (sym (append-nil c.loop-start.tokens.items)
          ∙ ap (λ (ts : List Token). c.loop-start.tokens.items ++ ts) (sym (none_is text start piece found w.in_default-kind.is)))
    ] in
    kept text c.loop-start.tokens.items c.match-piece.tokens.items start c.loop-start.place c.place_from-place.result piece c.loop-start-test.true
    c.loop-start.invariant found more c.place_from-place.ensures
