use Rattle.std.proofs.Common.{◌≡◌, List, ℕ, ◌+◌, ◌*◌, ◌/◌, length, take, refl, sym, ap, ◌∙◌, ne_eqb, arith}
use Rattle.model.specs.Bytes.{symbols_of}
use Rattle.model.specs.Files.{total}
use Rattle.file_lists.specs.Steps.{eqb_iff}
use Rattle.c_files.specs.Lists.{start_sum, sum_turn, sum_most, kept_turn, lengths_all}
use Rattle.c_files.proofs.read_lengths.Goals as goal

-- all lengths are passed
passed : (bytes : List ℕ) (i : ℕ) → length bytes ≡ length bytes / 4 * 4 → i ≡ length bytes / 4 → take i (symbols_of 4 bytes) ≡ symbols_of 4 bytes
passed bytes i whole e = ap (λ (k : ℕ). take k (symbols_of 4 bytes)) e ∙ lengths_all bytes (length bytes / 4) whole

pub loop-i-init : goal.loop-i-init
loop-i-init c = (start_sum c.args.n, λ h. refl)

pub returns-then-left-size-clause-sums : goal.returns-then-left-size-clause-sums
returns-then-left-size-clause-sums c =
    let bytes = c.args.bytes.now in
    let most = sum_most bytes (length bytes / 4) (omega arith) c.loop-i.i (omega arith) _ c.four_at-size.ensures.0 in
    sym (ne_eqb (total (symbols_of 4 bytes)) c.args.n (λ e. omega (arith, most)))

pub loop-i-preserved : goal.loop-i-preserved
loop-i-preserved c =
    let l = c.loop-i in
    let bytes = c.args.bytes.now in
    let whole : length bytes ≡ length bytes / 4 * 4 = omega arith in
    let size = c.four_at-size.ensures.0 in (
      omega (arith, sum_turn bytes (length bytes / 4) whole l.i (omega arith) _ size),
      λ h. ap (λ (x : List ℕ). take (l.i + 1) x) c.keep.ensures
          ∙ kept_turn bytes (length bytes / 4) whole l.i (omega arith) _ size l.sizes (omega arith) (l.invariant.1 (omega arith)),
    )

pub returns-clause-sums : goal.returns-clause-sums
returns-clause-sums c =
    let l = c.loop-i in
    let bytes = c.args.bytes.now in
    let sum : total (take l.i (symbols_of 4 bytes)) ≡ total (symbols_of 4 bytes) = ap total (passed bytes l.i (omega arith) (omega arith)) in
    eqb_iff l.left 0 (total (symbols_of 4 bytes)) c.args.n (λ e. omega (arith, sum)) (λ e. omega (arith, sum))

pub returns-clause-read : goal.returns-clause-read
returns-clause-read c _ h =
    let l = c.loop-i in
    let bytes = c.args.bytes.now in
    let end : l.i ≡ length bytes / 4 = omega arith in
    ap (λ (k : ℕ). take k l.sizes) (sym end) ∙ l.invariant.1 (omega arith) ∙ passed bytes l.i (omega arith) end
