-- `solve::renumber::renumbered_fill` meets its contract: each filling asks for the same cell under its new number; behind them nothing asks.
use Rattle.std.proofs.Common.{◌≡◌, ◌<◌, length, arith, ap, sym, ◌∙◌, None, rules}
use native.Mathlib.Decide.{dec_lt}
use Rattle.std.proofs.lemmas.List.{get_or_past}
use Rattle.search.specs.inner.Program.{asked}
use Rattle.solve.specs.inner.Numbers.{refilled}
use Rattle.solve.proofs.renumber.renumbered_fill.Goals as goal

pub returns : goal.returns
returns g c x = go (dec_lt x (length c.args.fill.now))
  where
    go : Dec (x < length c.args.fill.now) → asked c.column.result x ≡ refilled c.args.id.now (asked c.args.fill.now x)
    go (yes h) = let k = c.column.ensures.made_of x h in search rules
    go (no h) = c.column.ensures.behind x (omega arith) ∙ ap (refilled c.args.id.now) (sym (get_or_past c.args.fill.now x None (omega arith)))
