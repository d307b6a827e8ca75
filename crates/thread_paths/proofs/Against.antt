-- Steps that lead elsewhere than a known test: each path that goes on from there goes against it.
use Rattle.std.proofs.Common.{◌≡◌, ◌≢◌, ◌∙◌, ℕ, ◌+◌, ◌<◌, Bool, List, [], ◌∷◌, ◌++◌, length, Some, ap, sym, subst, arith, append_assoc}
use Rattle.std.proofs.lemmas.List.{get_or_at, length-append}
use Rattle.tc_code.specs.Code.{Code}
use Rattle.slot_liveness.specs.pure_turns.Live.{Liveness}
use Rattle.thread_paths.specs.Turns.{place_of, instr_of}
use Rattle.thread_paths.specs.Known.{Known, known_before, leads_to, GoesAgainst}
use Rattle.thread_paths.specs.declared.aim.Scope.{Scope}
use Rattle.thread_paths.specs.declared.descent.At.{At}
use Rattle.thread_paths.specs.declared.descent.Reason.TheVariants.{Against}
use Rattle.thread_paths.specs.declared.past.Past.{Past}
use Rattle.thread_paths.specs.helpers.Descents.{IsNode, IsSpent, IsExcused}
use Rattle.thread_paths.proofs.Nodes.{spent}
use Rattle.thread_paths.proofs.Turned.{Through, through}
use Rattle.thread_paths.proofs.Values.{same_place, same_instr, same_known}

module _ (code : Code) (live : Liveness) (scope : Scope) (start : List Bool) (first n : ℕ) (to : At) (o : List Bool) (past : Past)
    (node : IsNode code scope start first (n + 1) to o past) where
  abbrev f : ℕ
  f = scope.function

  abbrev ps : List ℕ
  ps = past.places.items

  module _ (target : ℕ) (leads : leads_to (known_before code f ps n) (place_of code f ps n) (instr_of code f ps n) ≡ Some target)
      (other : to.place ≢ target) where
    module _ (rest : List ℕ) where
      abbrev all : List ℕ
      all = ps ++ to.place ∷ rest

      still_leads : leads_to (known_before code f all n) (place_of code f all n) (instr_of code f all n) ≡ Some target
      still_leads =
          let long = node.long in
          ap (λ (known : Known). leads_to known (place_of code f all n) (instr_of code f all n))
          (sym (same_known code f ps (to.place ∷ rest) n (omega (arith, long))))
          ∙ ap (λ p. leads_to (known_before code f ps n) p (instr_of code f all n)) (sym (same_place code f ps (to.place ∷ rest) n (omega (arith, long))))
          ∙ ap (leads_to (known_before code f ps n) (place_of code f ps n)) (sym (same_instr code f ps (to.place ∷ rest) n (omega (arith, long))))
          ∙ leads

      elsewhere : place_of code f all (n + 1) ≢ target
      elsewhere same = other (sym (get_or_at ps to.place rest 0 (n + 1) node.long) ∙ same)

      long_enough : n + 1 < length all
      long_enough = omega (arith, node.long, length-append ps (to.place ∷ rest))

    goes : (q : List Bool) (s : ℕ) → (t : Through code live scope start first (n + 1) to o past node q s)
        → GoesAgainst code f (record { outcomes = q; steps = s })
    goes q s t =
        let is : t.places ≡ all t.rest = t.begins ∙ append_assoc ps (to.place ∷ []) t.rest in
        record {
          places = t.places;
          along = t.along;
          branch = n;
          goes_on = omega (arith, long_enough t.rest, ap length is);
          target = target;
          leads = subst (λ xs. leads_to (known_before code f xs n) (place_of code f xs n) (instr_of code f xs n) ≡ Some target) (sym is)
              (still_leads t.rest);
          against = subst (λ xs. place_of code f xs (n + 1) ≢ target) (sym is) (elsewhere t.rest);
        }

    -- no path goes on from there, except those that go against it
    pub at_against : IsSpent code scope start first o (IsExcused code live scope Against)
    at_against =
        spent code scope start first (n + 1) to o past node (IsExcused code live scope Against)
        (λ q s may p. goes q s (through code live scope start first (n + 1) to o past node q s p may))
