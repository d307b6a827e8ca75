use Rattle.std.proofs.Common.{ap, sym, ◌∙◌, option_map, Some}
use Rattle.std.specs.Option.{option_copied}
use Rattle.std.specs.FinMap as map
use Rattle.test_shelves.proofs.ByName.{get_text}
use Rattle.test_shelves.proofs.named.NamedBytes.get.Goals as goal

pub returns-in-Some : goal.returns-in-Some
returns-in-Some c =
    ap Some c.as_slice.ensures.value ∙ ap (option_map (λ v. v.items)) (sym (ap option_copied c.in-Some.is) ∙ c.get.ensures.value)
    ∙ sym (get_text (λ v. v.items) c.self.inside.by_name c.args.name.now) ∙ ap (λ m. map.get m c.args.name.now) c.self.view_is

pub returns-in-None : goal.returns-in-None
returns-in-None c =
    ap (option_map (λ v. v.items)) (sym (ap option_copied c.in-None.is) ∙ c.get.ensures.value)
    ∙ sym (get_text (λ v. v.items) c.self.inside.by_name c.args.name.now) ∙ ap (λ m. map.get m c.args.name.now) c.self.view_is
