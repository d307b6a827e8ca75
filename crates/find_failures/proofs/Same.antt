-- The order of logs is one of threads that make up a log.
use Rattle.std.proofs.Common.{◌≡◌, ◌∙◌, true, not, ◌||◌, List, [], ◌∷◌, refl, sym, ap, ap₂, subst}
use Rattle.std.proofs.lemmas.Bool.{false≢true, and_parts}
use Rattle.std.proofs.lemmas.Option.{same_Some}
use Rattle.tc_base.specs.Paths.{ThreadPath}
use Rattle.tc_code.specs.Code.{Code}
use Rattle.log_walk.specs.thread_paths.Order.{comes_from}
use Rattle.log_walk.specs.Order.{are_from}
use Rattle.log_walk.specs.Rest.{Rest, MakeUp, leave}
use Rattle.log_walk.specs.declared.bounds.Kind.{Kind}
use Rattle.log_walk.specs.declared.rest.Awaited.{Awaited}
use Rattle.log_walk.proofs.Orders.{by_others, same_path}

module _ (code : Code) (kind : Kind) where
  -- threads that come from each other are the same
  pub same_threads : (ts us : List ThreadPath) (rest : Rest) → MakeUp code kind rest ts → MakeUp code kind rest us
      → are_from ts us ≡ true → are_from us ts ≡ true → ts ≡ us
  same_threads [] [] rest one two on back = refl
  same_threads [] (u ∷ us) rest one two on back = absurd (false≢true back)
  same_threads (t ∷ ts) [] rest one two on back = absurd (false≢true on)
  same_threads (t ∷ ts) (u ∷ us) rest one two on back =
      let first = (and_parts (comes_from t.path u.path) (not (comes_from u.path t.path) || are_from ts us) on).0 in
      let second = (and_parts (comes_from u.path t.path) (not (comes_from t.path u.path) || are_from us ts) back).0 in
      let path : t.path ≡ u.path = same_path t.path u.path first second in
      let next : one.1.next ≡ two.1.next = same_Some one.1.next two.1.next (sym one.1.is_next ∙ two.1.is_next) in
      let name : t.name ≡ u.name = one.1.name ∙ ap (λ (c : Awaited). c.name) next ∙ sym two.1.name in
      let same : t ≡ u = ap₂ (λ n p. record { name = n; path = p }) name path in
      let later : one.0 ≡ two.0 = same_Some one.0 two.0 (sym one.1.leaves ∙ ap (leave code kind rest.awaited rest) path ∙ two.1.leaves) in
      let others : ts ≡ us =
      same_threads ts us one.0 one.2 (subst (λ r. MakeUp code kind r us) (sym later) two.2)
      (sym (by_others t u ts us first second) ∙ on) (sym (by_others u t us ts second first) ∙ back) in
      ap₂ (λ x xs. x ∷ xs) same others
