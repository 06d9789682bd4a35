-- `decode_blocks`: either buffer for the zeros is large enough; the rest is `decode_into`'s.
use Rattle.std.proofs.Common.{refl, arith}
use Rattle.params.specs.Sizes.{sizes_fit}
use Rattle.theory.specs.Counters.{clear_made}
use Rattle.decoder.proofs.decode_blocks.Goals as goal

pub data_count-requires : goal.data_count-requires
data_count-requires c = omega (arith, sizes_fit c.args.k c.args.b (omega arith) (omega arith))

pub decode_into-requires : goal.decode_into-requires
decode_into-requires c =
    (omega arith, omega arith, λ h. omega (arith, c.if-data_count-le128.true, c.data_count.ensures), clear_made 128, c.requires, refl)

pub decode_into-requires-2 : goal.decode_into-requires-2
decode_into-requires-2 c = (omega arith, omega arith, λ h. h, clear_made 4096, c.requires, refl)
