use Rattle.std.proofs.Common.{◌≡◌, ◌+◌, ◌*◌, ◌++◌, length, drop, length-append, length-drop, ap, ◌∙◌, arith}
use Rattle.model.specs.Bytes.{symbol_size, symbols_of, symbol_bytes}
use Rattle.model.specs.Code.{check_count, syndrome}
use Rattle.model.specs.Symbols.{tabulate}
use Rattle.codeword.specs.Checks.{behind_length}
use Rattle.c_wide.specs.Pages.{word_bytes}
use Rattle.c_wide_checks.specs.Parts.{written_behind}
use Rattle.wide_bytes.specs.Places.{wide_some}
use Rattle.wide_symbols.specs.Codes.{wide_code_by}
use Rattle.c_wide_checks.proofs.encode_into.Goals as goal

pub returns : goal.returns
returns g c =
    let wide = g.met.S.WideSymbol.is_wide in
    let f = g.S.WideSymbol.profile in
    let w = symbol_size f in
    let code = wide_code_by f c.args.code c.args.positions.now in
    let u = c.args.«data».now in
    let all = c.copy_into.new.dst ++ drop (length u) c.args.page.now in
    let checks = check_count code * w in
    let size : length all ≡ length u + checks = simp (length-append, length-drop) (omega (arith, ap length c.copy_into.ensures, c.requires.1, c.requires.2)) in
    let zeros = c.clear.ensures ∙ ap (λ m. tabulate m (λ i. 0)) (behind_length all (length u) checks size) in
    written_behind u _ (drop (length u) c.args.page.now) _ c.copy_into.ensures
    ∙ word_bytes code (omega (arith, c.requires.0.q_low)) w (wide_some wide) u (λ i. omega (arith, c.type_inv.«data» i)) c.requires.1 _
    (c.over_checks.ensures ∙ ap (λ l. symbol_bytes w (syndrome code (symbols_of w u ++ symbols_of w l))) zeros)
