-- `write_symbols`: the first 2i symbols are written.
use Rattle.std.proofs.Common.{◌≡◌, ◌*◌, take}
use Rattle.model.specs.Bytes.{symbol_size, symbol_bytes}
use Rattle.wide_bytes.proofs.write_symbols.Given as goal

abbrev pub invariant-loop-i : goal.invariant-loop-i
invariant-loop-i g l = let s = g.S.WideSymbol in take (2 * l.i * symbol_size s.profile) l.bytes ≡ symbol_bytes (symbol_size s.profile) (take (2 * l.i) (g.S.Symbol.numbers l.symbols))
