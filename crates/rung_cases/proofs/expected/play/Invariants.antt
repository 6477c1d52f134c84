use Rattle.std.proofs.Common.{take}
use Rattle.std.specs.List.{FoldsTo}
use Rattle.rung_cases.specs.Cases.{AsExpected}
use Rattle.rung_cases.proofs.expected.play.Given as goal

abbrev pub invariant-loop-number : goal.invariant-loop-number
invariant-loop-number g l = FoldsTo (AsExpected g.S.Server.answers) l.initial.server (take l.number l.cases) l.server
