-- Values that satisfy the clauses of a log give a world that has a schedule.
use Rattle.std.proofs.Common.{◌≡◌, ◌∙◌, true, false, List, [], Bool, sym, ap, subst}
use Rattle.std.specs.Prelude.{IsTrue, if◌then◌else◌}
use Rattle.run_log.specs.tc_base.Buffers.{BufferOps}
use Rattle.run_log.specs.Logs.{Log}
use Rattle.run_log.specs.memory_models.declared.model.Model.{Model}
use Rattle.tc_code.specs.Code.{Code}
use Rattle.tc_code.specs.Lawful.{IsLawful}
use Rattle.store_buffers.specs.Laws.{Laws}
use Rattle.store_buffers.specs.Pending.{Binding}
use Rattle.run_log.specs.Logs.{is_log}
use Rattle.path_walk.specs.Fits.{Fits}
use Rattle.path_walk.specs.Paths.{paths_of}
use Rattle.order_formula.specs.sym_terms.declared.node.Node.{Node}
use Rattle.schedule_decode.specs.sym_laws.Valued.{found}
use Rattle.order_formula.specs.Worlds.{World}
use Rattle.cnf_core.specs.Clauses.{Valuation, satisfies, value_in}
use Rattle.bit_blast.specs.bit_order.Readings.{world_of}
use Rattle.bit_blast.specs.Blasted.{impossible}
use Rattle.schedule_decode.specs.path_laws.Setting.{Setting, setting_of}
use Rattle.schedule_decode.specs.world_plan.Going.{IsLawfulWorld}
use Rattle.schedule_decode.specs.Decodable.{IsDecodable, executed_with}
use Rattle.clap_system.specs.Systems.{execution_of, system_of}
use Rattle.orders_are_runs.proofs.Systems.{grows, possible_is_lawful}
use Rattle.clap_solve.specs.Clauses.{blasted_by}
use Rattle.clap_solve.specs.Posed.{Posed, posed_of}
use Rattle.clap_solve.specs.Solved.{IsWithin}
use Rattle.clap_solve.proofs.Meaning.{possible}

-- values that satisfy the clauses of one satisfy those of the other, which is equal
pub own_satisfied : (p q : Posed) (v : Valuation) → p ≡ q → IsTrue (satisfies v p.blasted.clauses.clauses) → IsTrue (satisfies v q.blasted.clauses.clauses)
own_satisfied p q v same satisfied = subst (λ (x : Posed). IsTrue (satisfies v x.blasted.clauses.clauses)) same satisfied

-- values that satisfy the clauses exist only if the paths aren't dead
pub lives : (buffered : Bool) (bound : Binding) (code : Code) (log : Log) → IsLawful code → IsWithin code log → (p : Posed)
    → p ≡ posed_of buffered bound code log → (v : Valuation) → IsTrue (satisfies v p.blasted.clauses.clauses) → p.paths.dead ≡ false
lives buffered bound code log lawful within p by v satisfied =
    ap (λ (q : Posed). q.paths.dead) by
    ∙ (possible buffered bound code log lawful within v (own_satisfied p (posed_of buffered bound code log) v by satisfied)).0.lives

-- the execution of a log's system has more terms than that of its paths
pub with_more : {B : Type 0} (s : Setting B) (fits : Fits s.code s.log)
    → execution_of (system_of s.ops.buffered s.bound s.code s.log) ≡ executed_with s.code s.log [] (grows s fits).0
with_more s fits =
    ap (λ (ns : List Node). record { paths = paths_of s.code s.log; symbolic = (found s.code s.log []).symbolic; terms = ns }) (grows s fits).1

pub decodable : {B : Type 0} (ops : BufferOps B) (model : Model) (bound : Binding) (code : Code) (log : Log) → Laws ops model bound → IsLawful code
    → is_log log ≡ true → IsWithin code log → (posed : Posed) → posed ≡ posed_of ops.buffered bound code log → (values : List Bool)
    → IsTrue (satisfies (value_in values) posed.blasted.clauses.clauses) → (w : World) → w ≡ world_of posed.blasted.layout (value_in values)
    → IsDecodable ops model bound code (record { paths = posed.paths; symbolic = posed.symbolic; terms = posed.nodes }) w
decodable ops model bound code log laws lawful is within posed by values satisfied w is_said =
    let v = value_in values in
    let s = system_of ops.buffered bound code log in
    let p = possible ops.buffered bound code log lawful within v (own_satisfied posed (posed_of ops.buffered bound code log) v by satisfied) in
    let setting = setting_of ops model bound code log laws lawful is in
    let same : w ≡ p.0.world =
    is_said ∙ ap (λ (q : Posed). world_of q.blasted.layout v) by
    ∙ ap (λ (dead : Bool). world_of (if dead then impossible else blasted_by code s).layout v) p.0.lives ∙ sym p.1 in
    record {
      laws = laws;
      code_is = lawful;
      log = log;
      log_is = is;
      first = [];
      more = (grows setting within.fits).0;
      is = ap (λ (q : Posed). record { paths = q.paths; symbolic = q.symbolic; terms = q.nodes }) by ∙ with_more setting within.fits;
      lawful = subst (IsLawfulWorld setting []) (sym same) (possible_is_lawful setting within.fits p.0);
    }
