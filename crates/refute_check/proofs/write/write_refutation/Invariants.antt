use Rattle.std.proofs.Common.{◌≡◌, ◌++◌, take, true}
use Rattle.std.specs.List.{flat_map, list_all}
use Rattle.std.specs.String.{string_bytes}
use Rattle.refute_check.specs.Refutations.{is_line}
use Rattle.refute_check.specs.Texts.{ended, head_text, line_text, is_readable}
use Rattle.refute_check.proofs.write.write_refutation.Given as goal

abbrev pub invariant-loop-line : goal.invariant-loop-line
invariant-loop-line l = record {
  text : string_bytes l.text ≡ ended (head_text l.fn.head) ++ flat_map (λ x. ended (line_text x)) (take l.line-index l.line-items);
  readable : list_all is_line (take l.line-index l.line-items) ≡ true → list_all is_readable (take l.line-index l.line-items) ≡ true;
}
