-- The words of the run, and the bytes of the rest.
use Rattle.std.proofs.Common.{◌≡◌, ◌+◌, ◌*◌, ◌≤◌, length, arith, rules, Fits, w64}
use Rattle.std.proofs.lemmas.List.Sums.{prefix_len-le-length}
use Rattle.texts.specs.Ascii.{is_ascii, ascii_run, run_rest}
use Rattle.texts.proofs.ascii_bytes.Goals as goal

few : (c : goal.After-ascii_words-n) → 8 * c.ascii_words-n.result ≤ ascii_run c.args.bytes.now
few c = omega (arith, c.ascii_words-n.ensures)

whole : (c : goal.After-ascii_singles) → 8 * c.ascii_words-n.result + c.ascii_singles.result ≡ ascii_run c.args.bytes.now
whole c = omega (arith, c.ascii_singles.ensures, run_rest c.args.bytes.now (8 * c.ascii_words-n.result) (omega (arith, c.ascii_words-n.ensures)))

pub overflow_mul-n : goal.overflow_mul-n
overflow_mul-n c = let l = prefix_len-le-length is_ascii c.args.bytes.now in omega (arith, few c)

pub slice_bounds-ascii_singles-count : goal.slice_bounds-ascii_singles-count
slice_bounds-ascii_singles-count c = omega (arith, few c, prefix_len-le-length is_ascii c.args.bytes.now)

pub slice_bounds-ascii_singles-start : goal.slice_bounds-ascii_singles-start
slice_bounds-ascii_singles-start c = omega (arith, few c, prefix_len-le-length is_ascii c.args.bytes.now)

pub overflow_add-result : goal.overflow_add-result
overflow_add-result c = let l = prefix_len-le-length is_ascii c.args.bytes.now in omega (arith, whole c)

pub returns : goal.returns
returns c = whole c
