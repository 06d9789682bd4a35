use Rattle.std.proofs.Common.{◌≡◌, ℕ, length, sym, ap, ◌∙◌, arith}
use Rattle.model.specs.Files.{count_of, entries_from, entries_of, bodies_in, sizes_of, total, symbols_fit}
use Rattle.file_reader.specs.Turns.{Whole, file_end, end_known, end_some, symbols_known, answer_13, answer_14_entries, answer_14_place, answer-15-end, answer-15-symbols, answer-0}
use Rattle.file_reader.proofs.read_answer.Goals as goal

pub returns-then-file-gt-MOST_BYTES : goal.returns-then-file-gt-MOST_BYTES
returns-then-file-gt-MOST_BYTES c = sym (answer_13 c.args.file.now c.args.place (λ w. omega arith))

pub returns-then-file-lt2 : goal.returns-then-file-lt2
returns-then-file-lt2 c = sym (answer_13 c.args.file.now c.args.place (λ w. omega arith))

pub returns-then-count-lt-FEWEST_PAGES : goal.returns-then-count-lt-FEWEST_PAGES
unfolding count_of
returns-then-count-lt-FEWEST_PAGES c =
    let n : c.two_at-count.result ≡ count_of c.args.file.now = c.two_at-count.ensures.0 in
    sym (answer_13 c.args.file.now c.args.place (λ w. omega arith))

pub returns-then-count-gt-MOST_PAGES : goal.returns-then-count-gt-MOST_PAGES
unfolding count_of
returns-then-count-gt-MOST_PAGES c =
    let n : c.two_at-count.result ≡ count_of c.args.file.now = c.two_at-count.ensures.0 in
    sym (answer_13 c.args.file.now c.args.place (λ w. omega arith))

pub returns-then-file-contents_end : goal.returns-then-file-contents_end
unfolding count_of
returns-then-file-contents_end c =
    let n : c.two_at-count.result ≡ count_of c.args.file.now = c.two_at-count.ensures.0 in
    sym (answer_13 c.args.file.now c.args.place (λ w. omega arith))

pub returns-in_default : goal.returns-in_default
unfolding count_of
returns-in_default c =
    let f = c.args.file.now in
    let n : c.two_at-count.result ≡ count_of f = c.two_at-count.ensures.0 in
    let w : Whole f = record { short = omega arith; some = omega arith; few = omega arith; whole = omega arith } in
    sym (answer_14_entries f c.args.place w (sym (end_known f _ n) ∙ c.in_default.ensures))

pub returns-then-count-place : goal.returns-then-count-place
unfolding count_of
returns-then-count-place c =
    let f = c.args.file.now in
    let n : c.two_at-count.result ≡ count_of f = c.two_at-count.ensures.0 in
    let w : Whole f = record { short = omega arith; some = omega arith; few = omega arith; whole = omega arith } in
    let e : c.in-Some.end ≡ file_end f = c.in-Some.ensures.0 ∙ end_known f _ n in
    let z : file_end f ≡ 0 → ⊥ = λ q. omega (arith, e, c.in-Some.ensures.1) in
    sym (answer_14_place f c.args.place w z (omega arith))

pub returns-then-end-file : goal.returns-then-end-file
unfolding count_of
returns-then-end-file c =
    let f = c.args.file.now in
    let n : c.two_at-count.result ≡ count_of f = c.two_at-count.ensures.0 in
    let w : Whole f = record { short = omega arith; some = omega arith; few = omega arith; whole = omega arith } in
    let e : c.in-Some.end ≡ file_end f = c.in-Some.ensures.0 ∙ end_known f _ n in
    let z : file_end f ≡ 0 → ⊥ = λ q. omega (arith, e, c.in-Some.ensures.1) in
    sym (answer-15-end f c.args.place w z (omega arith) (λ (q : file_end f ≡ length f). omega arith))

pub symbols_fit-requires : goal.symbols_fit-requires
unfolding count_of entries_of
symbols_fit-requires c =
    let f = c.args.file.now in
    let n : c.two_at-count.result ≡ count_of f = c.two_at-count.ensures.0 in
    let w : Whole f = record { short = omega arith; some = omega arith; few = omega arith; whole = omega arith } in
    let e : c.in-Some.end ≡ file_end f = c.in-Some.ensures.0 ∙ end_known f _ n in
    let z : file_end f ≡ 0 → ⊥ = λ q. omega (arith, e, c.in-Some.ensures.1) in
    let t = (end_some f z).1 in
    let same : total (sizes_of (entries_from f 0 c.two_at-count.result)) ≡ total (sizes_of (entries_of f)) = ap (λ (k : ℕ). total (sizes_of (entries_from f 0 k))) n in
    (omega arith, omega arith)

pub returns-then-not-symbols_fit : goal.returns-then-not-symbols_fit
unfolding count_of
returns-then-not-symbols_fit c =
    let f = c.args.file.now in
    let n : c.two_at-count.result ≡ count_of f = c.two_at-count.ensures.0 in
    let w : Whole f = record { short = omega arith; some = omega arith; few = omega arith; whole = omega arith } in
    let e : c.in-Some.end ≡ file_end f = c.in-Some.ensures.0 ∙ end_known f _ n in
    let z : file_end f ≡ 0 → ⊥ = λ q. omega (arith, e, c.in-Some.ensures.1) in
    let g : file_end f ≡ length f = omega arith in
    let y : c.symbols_fit.result ≡ symbols_fit (entries_of f) (bodies_in f) = c.symbols_fit.ensures ∙ symbols_known f _ n in
    sym (answer-15-symbols f c.args.place w z (omega arith) g (sym y ∙ c.if-not-symbols_fit.true))

pub returns : goal.returns
unfolding count_of
returns c =
    let f = c.args.file.now in
    let n : c.two_at-count.result ≡ count_of f = c.two_at-count.ensures.0 in
    let w : Whole f = record { short = omega arith; some = omega arith; few = omega arith; whole = omega arith } in
    let e : c.in-Some.end ≡ file_end f = c.in-Some.ensures.0 ∙ end_known f _ n in
    let z : file_end f ≡ 0 → ⊥ = λ q. omega (arith, e, c.in-Some.ensures.1) in
    let g : file_end f ≡ length f = omega arith in
    let y : c.symbols_fit.result ≡ symbols_fit (entries_of f) (bodies_in f) = c.symbols_fit.ensures ∙ symbols_known f _ n in
    sym (answer-0 f c.args.place w z (omega arith) g (sym y ∙ c.if-not-symbols_fit.false))
