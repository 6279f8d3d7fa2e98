use Rattle.std.proofs.Common.{◌≡◌, ℕ, List, ◌+◌, ◌*◌, ◌-◌, arith, ap, sym, ◌∙◌, drop}
use Rattle.frame.specs.Frame.{line_at}
use Rattle.frame.specs.inner.Decoded.{filled_up}
use Rattle.frame.proofs.Steps.{fill, fill_zeros, turn, turn_none, end_feed, end_none}
use Rattle.frame.proofs.DigitTable.bytes_at.Goals as goal

pub loop-i-init : goal.loop-i-init
loop-i-init g c =
    let a = c.args in
    let e : a.n - 0 ≡ a.n = omega arith in
    let f : a.at + 0 ≡ a.at = omega arith in
    rw (e, f) (fill_zeros g.row.M a.n (drop a.at a.text.now) (omega arith))

pub returns-in_err-bytes : goal.returns-in_err-bytes
returns-in_err-bytes g c =
    let a = c.args in
    let l = c.loop-i in
    let none = turn_none a.text.now (a.at + 2 * l.i) a.n l.i (omega arith) (omega arith) (sym c.in_err-bytes.ensures) in
    c.from_residual.ensures ∙ ap (fill l.bytes l.i) (sym none) ∙ l.invariant

pub loop-i-preserved : goal.loop-i-preserved
loop-i-preserved g c =
    let a = c.args in
    let l = c.loop-i in
    let e : a.at + 2 * (l.i + 1) ≡ a.at + 2 * l.i + 2 = omega arith in
    let more = turn a.text.now (a.at + 2 * l.i) a.n l.i (omega arith) (omega arith) l.bytes _ (sym c.in_ok-bytes.ensures) in
    rw e (sym more ∙ l.invariant)

-- After the loop only the line feed is left.
last : (m n i at : ℕ) (bytes s : List ℕ) → i ≡ n → fill bytes i (line_at (n - i) (drop (at + 2 * i) s)) ≡ filled_up m (line_at n (drop at s))
    → fill bytes i (line_at 0 (drop (at + 2 * n) s)) ≡ filled_up m (line_at n (drop at s))
last m n i at bytes s h inv =
    let e : n - i ≡ 0 = omega arith in
    let f : at + 2 * i ≡ at + 2 * n = omega arith in
    rw (e, f) at inv

pub returns-then-text-at-ne-LINE_FEED : goal.returns-then-text-at-ne-LINE_FEED
returns-then-text-at-ne-LINE_FEED g c =
    let a = c.args in
    let l = c.loop-i in
    let none = end_none a.text.now (a.at + 2 * a.n) (omega arith) c.if-text-at-ne-LINE_FEED.true in
    ap (fill l.bytes l.i) (sym none) ∙ last g.row.M a.n l.i a.at l.bytes a.text.now (omega arith) l.invariant

pub returns : goal.returns
returns g c =
    let a = c.args in
    let l = c.loop-i in
    let feed = end_feed a.text.now (a.at + 2 * a.n) (omega arith) c.if-text-at-ne-LINE_FEED.false in
    ap (fill l.bytes l.i) (sym feed) ∙ last g.row.M a.n l.i a.at l.bytes a.text.now (omega arith) l.invariant
