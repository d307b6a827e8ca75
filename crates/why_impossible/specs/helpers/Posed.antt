-- What a derivation proves over the clauses of a log.
use Rattle.std.specs.Prelude.{List}
use Rattle.std.specs.List.{All}
use Rattle.run_log.specs.Logs.{Log}
use Rattle.tc_code.specs.Code.{Code}
use Rattle.refute_check.specs.Refutations.{IsClosed, IsOpen}
use Rattle.refute_check.specs.declared.line.Line.{Line}
use Rattle.clap_solve.specs.Posed.{Posed}
use Rattle.why_impossible.specs.Explained.{TellsCause, TellsGroups}
use Rattle.why_impossible.specs.declared.explained.Explained.{Explained}
use Rattle.why_impossible.specs.declared.explained.Explained.TheVariants.{Closed, Open}
use Rattle.why_impossible.specs.declared.reason.Reason.{Reason}
use Rattle.why_impossible.specs.helpers.There.{IsSmall}

module _ (code : Code) (log : Log) (p : Posed) (lines : List Line) where
  -- the reasons name groups, or the cause of dead paths
  pub data AreReasonsOn (reasons : List Reason) : Type 0 where
    Groups : TellsGroups p lines reasons → All IsSmall reasons → AreReasonsOn reasons
    Cause : TellsCause code log p reasons → AreReasonsOn reasons

  pub record IsClosedOn (reasons : List Reason) : Type 0 where
    pub closed : IsClosed p.blasted.clauses lines
    pub rests : AreReasonsOn reasons

  abbrev pub IsExplainedOn : Explained → Type 0
  IsExplainedOn (Closed reasons) = IsClosedOn reasons
  IsExplainedOn Open = IsOpen p.blasted.clauses lines
