use Rattle.path_log.proofs.Logs.{has_text}
use Rattle.test_parts.proofs.files.log_of.Goals as goal

pub write_log-requires-clause-format : goal.write_log-requires-clause-format
write_log-requires-clause-format c = (has_text c.in-Ok.ensures.found).is_of_format

pub write_log-requires-clause-ending : goal.write_log-requires-clause-ending
write_log-requires-clause-ending c = (has_text c.in-Ok.ensures.found).has_ending
