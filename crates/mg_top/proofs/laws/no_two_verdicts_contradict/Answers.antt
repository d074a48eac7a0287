use Rattle.mg_top.proofs.Answers.{ok_at, agree_on_one}
use Rattle.mg_top.proofs.laws.no_two_verdicts_contradict.Goals as goal

pub returns : goal.returns
returns c workers policy script output legal step state place asked block workers' policy' script' output' legal' step' state' place' asked' block' at is_block at' is_block' same =
    agree_on_one workers workers' legal.scope.plan legal'.scope.plan state state' place place' asked asked' block block' (ok_at workers policy script output legal step state at) (ok_at workers' policy' script' output' legal' step' state' at') is_block is_block' same
