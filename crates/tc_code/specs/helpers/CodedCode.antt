-- Helpers for proofs, in no public contract: code as stored data.
use Rattle.std.specs.Prelude.{ℕ, ℤ, List, refl}
use Rattle.std.specs.Coded.{Coded, code_by, coded_ℕ, coded_ℤ, coded_list, coded×}
use Rattle.tc_code.specs.declared.instr.Instr.{Instr}
use Rattle.tc_code.specs.Code.{Code}
use Rattle.tc_code.specs.contracts.instr.Instr as instr
use Rattle.tc_code.specs.declared.code.Func.{Func}

abbrev pub coded_func : Coded Func
coded_func =
    code_by ((ℕ × (ℕ × ℕ)) × (List Instr × (List ℕ × List ℕ)))
    (coded× (coded× coded_ℕ (coded× coded_ℕ coded_ℕ))
    (coded× (coded_list instr.the_row.coded)
    (coded× (coded_list coded_ℕ) (coded_list coded_ℕ))))
    (λ f. ((f.params, (f.ints, f.handles)), (f.instrs, (f.lines, f.name))))
    (λ p. record {
      params = p.0.0;
      ints = p.0.1.0;
      handles = p.0.1.1;
      instrs = p.1.0;
      lines = p.1.1.0;
      name = p.1.1.1;
    })
    (λ _. refl)

abbrev pub coded_code : Coded Code
coded_code =
    code_by ((List ℤ × List Func) × (ℕ × ℕ))
    (coded× (coded× (coded_list coded_ℤ) (coded_list coded_func)) (coded× coded_ℕ coded_ℕ))
    (λ c. ((c.memory, c.functions), (c.mutexes, c.conditions)))
    (λ p. record { memory = p.0.0; mutexes = p.1.0; conditions = p.1.1; functions = p.0.1 })
    (λ _. refl)
