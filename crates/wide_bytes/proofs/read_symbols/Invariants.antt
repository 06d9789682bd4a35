-- `read_symbols`: the first 2i symbols are read.
use Rattle.std.proofs.Common.{◌≡◌, ◌*◌, take}
use Rattle.model.specs.Bytes.{symbol_size, symbols_of}
use Rattle.wide_bytes.proofs.read_symbols.Given as goal

abbrev pub invariant-loop-i : goal.invariant-loop-i
invariant-loop-i g l = let s = g.S.WideSymbol in take (2 * l.i) (g.S.Symbol.numbers l.out) ≡ take (2 * l.i) (symbols_of (symbol_size s.profile) l.bytes)
