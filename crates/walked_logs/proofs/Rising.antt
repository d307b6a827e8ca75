-- The names of threads that make up a log rise.
use Rattle.std.proofs.Common.{◌≡◌, ◌∙◌, inl, inr, ◌+◌, ◌&&◌, Bool, true, false, cond, List, [], ◌∷◌, Option, Some, None, refl, sym, ap, ap₂, subst, append-nil, ◌<◌, length, arith}
use Rattle.std.specs.Prelude.{slice_get}
use Rattle.std.specs.Ordering.{is_lt}
use Rattle.std.proofs.lemmas.Option.{none-some, same_Some}
use Rattle.log_walk.specs.tc_base.Names.{Name, by_name}
use Rattle.log_walk.specs.tc_base.Paths.{ThreadPath}
use Rattle.log_walk.proofs.tc_base.Names.{child_is_above}
use Rattle.log_walk.specs.tc_code.Code.{Code, instr_at}
use Rattle.log_walk.specs.run_log.Logs.{is_above, rises_from}
use Rattle.normal_logs.proofs.run_history.of_pending.In.{In, in_append}
use Rattle.log_walk.specs.Told.{told}
use Rattle.log_walk.specs.Rest.{Rest, MakeUp, all, leave, rest_by, children_from}
use Rattle.log_walk.specs.declared.bounds.Kind.{Kind}
use Rattle.log_walk.specs.declared.rest.Awaited.{Awaited}
use Rattle.walked_logs.proofs.Children.{Ordered, child_in, ordered}

both : (a b : Bool) → a ≡ true → b ≡ true → (a && b) ≡ true
both a b e g = ap₂ (λ x y. x && y) e g

kept : (b : Bool) (x y : Rest) → cond b None (Some x) ≡ Some y → x ≡ y
kept true x y e = absurd (none-some y e)
kept false x y e = same_Some x y e

module _ (code : Code) (kind : Kind) where
  step : (rest : Rest) (t : ThreadPath) (ts : List ThreadPath) (last : Option Name) (next : Awaited) (later : Rest) (cs : List Awaited)
      → Ordered cs → ((c : Awaited) → In c cs → is_above last c.name ≡ true) → slice_get cs 0 ≡ Some next → t.name ≡ next.name
      → leave code kind cs rest t.path ≡ Some later → MakeUp code kind later ts
      → ((r : Rest) → Ordered r.awaited → ((c : Awaited) → In c r.awaited → is_above (Some t.name) c.name ≡ true) → MakeUp code kind r ts
      → rises_from (Some t.name) ts ≡ true)
      → rises_from last (t ∷ ts) ≡ true
  step rest t ts last next later [] order above first name leaves made go = absurd (none-some next first)
  step rest t ts last next later (c ∷ cs) order above first name leaves made go =
      both (is_above last t.name) (rises_from (Some t.name) ts) (ap (is_above last) own ∙ above c (inl refl))
      (go (rest_by code kind rest c cs (told code c.function t.path))
      (ordered kind c.name (instr_at code c.function (told code c.function t.path).place) (told code c.function t.path) 0 (told code c.function t.path).created cs order.0 order.1)
      higher (subst (λ r. MakeUp code kind r ts) (sym (kept _ (rest_by code kind rest c cs (told code c.function t.path)) later leaves)) made))
    where
      own : t.name ≡ c.name
      own = name ∙ ap (λ (d : Awaited). d.name) (sym (same_Some c next first))

      higher : (d : Awaited) → In d (rest_by code kind rest c cs (told code c.function t.path)).awaited → is_above (Some t.name) d.name ≡ true
      higher d i =
          elim (in_append d (children_from kind c.name (instr_at code c.function (told code c.function t.path).place) (told code c.function t.path) 0 (told code c.function t.path).created) cs i) [
            | inl child ↦
                let is = child_in kind c.name (instr_at code c.function (told code c.function t.path).place) (told code c.function t.path) 0 (told code c.function t.path).created d child in
                ap is_lt (ap₂ by_name own is.name ∙ child_is_above c.name (0 + is.place + 1))
            | inr other ↦
                ap is_lt (ap (λ n. by_name n d.name) (own ∙ sym (append-nil c.name)) ∙ order.0 d other [])
          ]

  rises_on : (ts : List ThreadPath) (rest : Rest) (last : Option Name) → Ordered rest.awaited
      → ((c : Awaited) → In c rest.awaited → is_above last c.name ≡ true) → MakeUp code kind rest ts → rises_from last ts ≡ true
  rises_on [] rest last order above made = refl
  rises_on (t ∷ ts) rest last order above made =
      step rest t ts last made.1.next made.0 rest.awaited order above made.1.is_next made.1.name made.1.leaves made.2
      (λ r o a m. rises_on ts r (Some t.name) o a m)

  pub names_rise : (ts : List ThreadPath) → MakeUp code kind (all code kind) ts → rises_from None ts ≡ true
  names_rise ts made = rises_on ts (all code kind) None ((λ d i. absurd i), tt) (λ c i. refl) made

  -- main is among them
  pub names_some : (ts : List ThreadPath) → MakeUp code kind (all code kind) ts → 0 < length ts
  names_some [] made = absurd (omega (arith, ap length made.0))
  names_some (t ∷ ts) made = omega arith
