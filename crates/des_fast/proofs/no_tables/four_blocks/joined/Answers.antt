use Rattle.std.proofs.Common.{lit≤, arith}
use Rattle.des_fast.proofs.JoinedEntries.{joined_word}
use Rattle.des_fast.proofs.no_tables.four_blocks.joined.Goals as goal

pub returns-clause-first : goal.returns-clause-first
returns-clause-first c = joined_word c.args.entries 0 (lit≤ tt) (omega arith)

pub returns-clause-second : goal.returns-clause-second
returns-clause-second c = joined_word c.args.entries 1 (lit≤ tt) (omega arith)
