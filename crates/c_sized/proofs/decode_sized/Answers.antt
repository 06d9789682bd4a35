-- `decode_sized`: what `decode_into` ensures, in either buffer.
use Rattle.std.proofs.Common.{arith}
use Rattle.params.specs.Sizes.{sizes_fit}
use Rattle.theory.specs.Counters.{none_clear, clear_made}
use Rattle.c_sized.proofs.decode_sized.Goals as goal

pub data_count-requires : goal.data_count-requires
data_count-requires c = omega (arith, sizes_fit c.args.code.k c.args.code.b c.requires.0 c.requires.1)

pub decode_into-requires : goal.decode_into-requires
decode_into-requires c =
    (c.requires.0, c.requires.1, λ h. omega (arith, c.if-data_count-le128.true, c.data_count.ensures), clear_made 128, (λ e. none_clear), c.requires.2)

pub decode_into-requires-2 : goal.decode_into-requires-2
decode_into-requires-2 c = (c.requires.0, c.requires.1, λ h. h, clear_made 4096, (λ e. none_clear), c.requires.2)
