-- Certificates that no run fails, or that none comes to a deadlock.
use Rattle.std.specs.Prelude.{Bool, true, ◌&&◌, nat_lt, List, Option}
use Rattle.std.specs.List.{list_all}
use Rattle.std.specs.Option.{option_map_or}
use Rattle.tc_base.specs.Names.{Name}
use Rattle.tc_base.specs.Paths.{ThreadPath}
use Rattle.refute_check.specs.Texts.{is_readable}
use Rattle.refute_check.specs.declared.line.Line.{Line}
use Rattle.none_certificates.specs.declared.header.Header.{Header}

-- what the line of a log says: the thread that fails, if one does, and the path of each thread
pub record LogLine : Type 0 where
  pub failing : Option Name
  pub threads : List ThreadPath

-- a log, and the lines of a refutation of the formula of its schedules
pub record Refuted : Type 0 where
  pub log : LogLine
  pub lines : List Line

-- what the search looked for, and each log that it found, with its refutation
pub record Certificate : Type 0 where
  pub header : Header
  pub logs : List Refuted

-- whether the format has this header: the number of outcomes has at most 16 bits
abbrev pub is_header : Header → Bool
is_header h = nat_lt h.bounds.most 65536

-- whether the format has this name: each number is from 1 to 4,294,967,295
abbrev pub is_name : Name → Bool
is_name n = list_all (λ k. nat_lt 0 k && nat_lt k 4294967296) n

-- whether the format has this thread: the number of steps has at most 16 bits
abbrev pub is_thread : ThreadPath → Bool
is_thread t = is_name t.name && nat_lt t.path.steps 65536

-- whether the format has this line of a log
abbrev pub is_log_line : LogLine → Bool
is_log_line l = option_map_or is_name l.failing true && list_all is_thread l.threads

-- whether the format has this log and these lines of its refutation
abbrev pub is_refuted : Refuted → Bool
is_refuted r = is_log_line r.log && list_all is_readable r.lines

-- whether the format has this certificate
abbrev pub is_certificate : Certificate → Bool
is_certificate c = is_header c.header && list_all is_refuted c.logs
