-- A length that is a number of symbols gives that number, and one with a byte too many none.
use Rattle.std.proofs.Common.{◌≡◌, ℕ, length, ◌%◌, ◌*◌, ◌/◌, sym, ap, ◌∙◌, arith}
use Rattle.std.proofs.Math.Nat.{div-add-mod'}
use Rattle.model.specs.Bytes.{symbol_size}
use Rattle.theory.specs.WideBytes.{symbols_length}
use Rattle.wide_bytes.specs.Places.{wide_some}
use Rattle.wide_bytes.specs.Turns.{odd_none}
use Rattle.wide_symbols.specs.Widths.{wide_size}
use Rattle.wide_bytes.proofs.count.Goals as goal

whole : (n z w : ℕ) → z ≡ w → n % z ≡ 0 → n ≡ n / z * w
whole n z w e h = rw (← e) (omega (arith, div-add-mod' n z))

pub returns-then-bytes-size-ne0 : goal.returns-then-bytes-size-ne0
returns-then-bytes-size-ne0 g c =
    let z = c.SIZE-size.ensures ∙ wide_size g.met.S.WideSymbol.is_wide in
    odd_none (symbol_size g.S.WideSymbol.profile) c.args.bytes.now (λ e. c.if-bytes-size-ne0.true (ap (λ m. length c.args.bytes.now % m) z ∙ e))

pub returns : goal.returns
returns g c =
    let z = c.SIZE-size.ensures ∙ wide_size g.met.S.WideSymbol.is_wide in
    sym (symbols_length (symbol_size g.S.WideSymbol.profile) (wide_some g.met.S.WideSymbol.is_wide) _ c.args.bytes.now
    (whole (length c.args.bytes.now) c.SIZE-size.result (symbol_size g.S.WideSymbol.profile) z c.if-bytes-size-ne0.false))
