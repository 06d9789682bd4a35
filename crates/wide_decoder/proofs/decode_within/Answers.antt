use Rattle.std.proofs.Common.{ℕ, arith}
use Rattle.std.proofs.lemmas.List.{length-replicate}
use Rattle.theory.specs.Counters.{clear_made}
use Rattle.wide_decoder.proofs.decode_within.Goals as goal

pub decode_into-requires : goal.decode_into-requires
decode_into-requires g c =
    let r = c.requires in
    let n : ℕ = g.row.N in
    (r.0, r.1, λ h. omega (arith, r.2 h, length-replicate {A = ℕ} n 0), clear_made n, λ h. omega (arith, r.2 h, length-replicate {A = ℕ} n 0))
