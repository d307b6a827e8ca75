use Rattle.std.proofs.Common.{◌≡◌, ◌<◌, ℕ, get_or, length, sym, ap, subst, ◌∙◌, arith}
use Rattle.std.proofs.lemmas.List.{get_or_read}
use Rattle.std.specs.Vec.{with_item}
use Rattle.cdcl_trail.specs.Trail.{cut_to}
use Rattle.cdcl_trail.specs.helpers.Layout.{trail_of, IsLaidOut}
use Rattle.cdcl_trail.specs.declared.trail.Value.TheVariants.{Open}
use Rattle.cdcl_trail.specs.declared.trail.Trail.TheInside.{Inside}
use Rattle.cdcl_trail.proofs.Cuts.{Opens, opens_more, sound_cut, cut_inside, cut_view, level_within}
use Rattle.cdcl_trail.proofs.Trails.{lawful}
use Rattle.cdcl_trail.proofs.trail.Trail.cut.Goals as goal

pub loop-place-preserved : goal.loop-place-preserved
loop-place-preserved c =
    let inv = c.loop-place.invariant in
    let same : c.loop-place.self-inside.literals.items ≡ c.self.inside.literals.items = ap (λ (a : Inside). a.literals.items) inv.others in
    let k : ℕ = c.loop-place.place in
    let within : k < length c.self.inside.literals.items = omega (arith, c.loop-place-test.true, c.self.invariant.len_fits, c.self.invariant.literals_fit) in
    let e : c.index-literal.result.now ≡ get_or c.self.inside.literals.items k c.index-literal.result.now = c.index-literal.ensures
    ∙ ap (λ xs. get_or xs k c.index-literal.result.now) same in
    rw (c.index-in-loop-place.ensures.index, c.index-in-loop-place-2.ensures.index) (record {
      opens = opens_more c.self.inside.values.items c.loop-place.self-inside.values.items c.self.inside.literals.items c.index.result.now k
          c.index-literal.result.now c.opposite.result
          c.loop-place.auto.place (get_or_read c.self.inside.literals.items k c.index-literal.result.now within e 0) c.opposite.ensures inv.opens;
      others = ap (λ (a : Inside). record a {
        values = with_item (with_item c.loop-place.self-inside.values c.index-literal.result.now Open)
            c.opposite.result Open;
      }) inv.others;
    })

level : (c : goal.After-self-4-1) → c.args.level < c.self.inside.levels
level c = level_within c.self.inside c.self.invariant c.args.self.now c.self.view_is c.args.level c.requires

start : (c : goal.After-self-4-1) → c.index.result.now ≡ get_or c.self.inside.starts.items c.args.level 0
start c = get_or_read c.self.inside.starts.items c.args.level c.index.result.now
    (omega (arith, level c, c.self.invariant.levels_fit, c.self.invariant.len_fits, c.self.invariant.starts_fit)) c.index.ensures 0

pub invariant_of-self : goal.invariant_of-self
invariant_of-self c =
    let inv = c.loop-place.invariant in
    let proper = (c.self.invariant.starts c.args.level (level c)).proper in
    let end : c.loop-place.place ≡ c.self.inside.len = omega (arith, c.loop-place-test.false, c.loop-place.auto.place-end, proper, start c) in
    let o : Opens c.self.inside.values.items c.loop-place.self-inside.values.items c.self.inside.literals.items c.index.result.now c.self.inside.len =
    rw end at inv.opens in
    subst (λ (b : Inside). IsLaidOut (cut_inside b c.loop-place.self-inside.values c.index.result.now c.args.level)) (sym inv.others)
    (sound_cut c.self.inside c.self.invariant c.loop-place.self-inside.values c.index.result.now c.args.level (level c) (start c) o)

pub returns-clause-after : goal.returns-clause-after
returns-clause-after c =
    let v = cut_view c.self.inside c.self.invariant c.loop-place.self-inside.values c.index.result.now c.args.level (level c) (start c) in
    subst (λ (b : Inside). trail_of (cut_inside b c.loop-place.self-inside.values c.index.result.now c.args.level) ≡ cut_to c.args.self.now
    c.args.level) (sym c.loop-place.invariant.others)
    (v ∙ ap (λ t. cut_to t c.args.level) c.self.view_is)

pub returns-clause-lawful : goal.returns-clause-lawful
returns-clause-lawful c = lawful _ (invariant_of-self c)
