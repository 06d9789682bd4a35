use Rattle.std.proofs.Common.{arith}
use Rattle.file_reader.specs.Turns.{part_beyond}
use Rattle.file_reader.proofs.part.Goals as goal

pub returns-then-file-start : goal.returns-then-file-start
returns-then-file-start c = part_beyond c.args.file.now c.args.offset c.args.size (omega arith)
