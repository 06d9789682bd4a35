use Rattle.std.proofs.Common.{◌≡◌, ℕ, ◌+◌, ap, get_or, arith}
use Rattle.file_entries.specs.Entries.{two_bytes, four_bytes}
use Rattle.file_entries.proofs.four_at.Goals as goal

pub returns : goal.returns
returns c =
    let s = c.args.s.now in
    let i = c.args.start in
    let third : get_or s (i + 2 + 1) 0 ≡ get_or s (i + 3) 0 = ap (λ (k : ℕ). get_or s k 0) (omega arith) in
    (omega (arith, four_bytes s i c.requires, two_bytes s i (omega arith), two_bytes s (i + 2) (omega arith), third), omega arith)
