-- `margin_of`: the terms are small, so that they are read as themselves and their difference fits.
use borrow.Author.Tests.{lt-ltb}
use Prim.Native.Nat.{◌^◌}
use mir.Syntax.{w32}
use mir.Val.{to_z}
use mir.ValLaws.{to_z-of_z}
use Rattle.std.proofs.Common.{◌≡◌, ◌≤◌, ℕ, pos, ◌∙◌, arith}
use Rattle.margins.specs.Margins.{small_fits}
use Rattle.margins.proofs.margin_of.Goals as goal

read : (n : ℕ) → n ≤ 33 → to_z w32 n ≡ pos n
read n h = simp (lt-ltb n (2 ^ 31) (omega arith))

pub overflow_sub-result : goal.overflow_sub-result
overflow_sub-result c = rw (read c.args.zeros c.requires.0, read c.args.most c.requires.1) (small_fits c.args.zeros c.args.most c.requires.0 c.requires.1)

pub returns : goal.returns
returns c = to_z-of_z w32 _ (overflow_sub-result c) ∙ rw (read c.args.zeros c.requires.0, read c.args.most c.requires.1)
