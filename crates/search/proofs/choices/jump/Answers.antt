-- `search::choices::jump` meets its contract: the bits by `advance`, their number by `next_after`.
use Rattle.std.proofs.Common.{◌^◌, ◌≤◌, arith}
use lib.Pow.{pow_mono}
use Rattle.search.proofs.choices.jump.Goals as goal

pub next_after-requires : goal.next_after-requires
next_after-requires c =
    let z : 2 ^ c.args.k ≤ 2 ^ 24 = pow_mono {j = 24} c.requires.1 in
    (omega (arith, c.requires.0), omega arith)
