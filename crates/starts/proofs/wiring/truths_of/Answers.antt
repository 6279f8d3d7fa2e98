-- `starts::wiring::truths_of` meets its contract: the kinds are cut to the nodes.
use Rattle.std.proofs.Common.{◌≡◌, ℕ, ◌<◌, ◌≤◌, length, take, arith, rules, length-take}
use Rattle.std.proofs.lemmas.List.{get_or-take}
use Rattle.graph.specs.Columns.{at}
use Rattle.netlist.specs.declared.Netlist.{Netlist}
use Rattle.netlist.proofs.Run.{fit_rows}
use Rattle.netlist.proofs.Lowest.{kind_low}
use Rattle.simulate.proofs.Seen.{entering}
use Rattle.starts.proofs.wiring.truths_of.Goals as goal

cut : (net : Netlist) → length net.kind ≡ 512 → net.nodes ≤ 512 → (length (take net.nodes net.kind) ≡ net.nodes) × ((v : ℕ) → v < net.nodes → at (take net.nodes net.kind) v ≡ at net.kind v)
cut net h l = (omega (arith, length-take net.nodes net.kind), λ v b. get_or-take net.nodes net.kind v 0 b)

pub truths-requires : goal.truths-requires
truths-requires c =
    let net = c.args.net.now in
    let ok = c.requires.0 in
    let few = fit_rows net ok.fit in
    let k = cut net (search rules) few.0 in
    let en = entering net ok.fit ok.fans (omega (arith, few.1)) c.requires.1 in (
      search rules,
      (
        (omega (arith, k.0), omega (arith, k.0)),
        λ v l.
            let h : v < net.nodes = omega (arith, k.0) in
            rw (k.1 v h) (kind_low net ok.fit v h, en.rising v h, en.few v h, en.three v h),
      ),
    )

pub returns : goal.returns
returns c =
    let net = c.args.net.now in
    let k = cut net (search rules) (fit_rows net c.requires.0.fit).0 in
    λ v h. rw (k.1 v h) at (c.truths.ensures v (omega (arith, k.0)))
