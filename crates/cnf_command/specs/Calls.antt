-- What `cnf PROGRAM LOG OUT [--model MODEL]` is asked.
use Rattle.log_tasks.specs.Asked.{Asked}
use Rattle.cnf_command.specs.declared.command.Cnf.{Cnf as RawCnf}

abbrev pub plain_cnf : RawCnf → Asked
plain_cnf cnf = record {
  program = cnf.inputs.0.name.now;
  log = cnf.inputs.1.name.now;
  out = cnf.out.now;
  model = cnf.model;
}
