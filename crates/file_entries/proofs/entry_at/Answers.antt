use Rattle.std.proofs.Common.{arith}
use Rattle.file_entries.specs.Entries.{entry-from}
use Rattle.file_entries.proofs.entry_at.Goals as goal

pub returns : goal.returns
returns c = (
  entry-from c.args.file.now c.args.place _ c.contents_end-start.ensures c.requires.0 c.two_at-number.ensures.0 c.from-top.ensures
      c.four_at-offset.ensures.0 c.four_at-size.ensures.0,
  omega arith,
  omega arith,
  omega arith,
  omega arith,
)
