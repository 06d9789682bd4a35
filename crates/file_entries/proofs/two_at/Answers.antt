use Rattle.std.proofs.Common.{arith}
use Rattle.file_entries.specs.Entries.{two_bytes}
use Rattle.file_entries.proofs.two_at.Goals as goal

pub returns : goal.returns
returns c = (omega (arith, two_bytes c.args.s.now c.args.start c.requires), omega arith)
