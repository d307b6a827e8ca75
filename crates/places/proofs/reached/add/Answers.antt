use Rattle.std.proofs.Common.{◌≡◌, ◌∙◌, ap, subst}
use Rattle.std.specs.BTreeMap.{insert_entry}
use Rattle.std.proofs.lemmas.Bool.{false≢true}
use Rattle.places.specs.Places.{is_cut, key}
use Rattle.places.specs.helpers.Waiting.{by_items}
use Rattle.places.proofs.reached.add.Goals as goal

pub returns-in_ok-insert : goal.returns-in_ok-insert
returns-in_ok-insert c =
    let same = c.in_ok-next.ensures in
    record {
      cut = λ t. absurd (false≢true (c.if-not-is_cut.ensures ∙ ap (is_cut c.args.function.limits.now) same ∙ t));
      there = λ f. (
        c.in_ok-key.key,
        c.in_ok-key.ensures ∙ ap key same,
        subst (λ q. c.insert.new.self.entries ≡ insert_entry by_items c.args.waiting.now.entries c.in_ok-key.key q) same c.in_ok-insert.ensures.entries,
      );
    }
