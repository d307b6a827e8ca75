use Rattle.run_log.proofs.Digests.{digest_is}
use Rattle.run_log.proofs.log.Log.with_digest.Goals as goal

pub returns-clause-is_digest : goal.returns-clause-is_digest
returns-clause-is_digest c = digest_is c.args.digest.now c.told-digest c.fits-digest
