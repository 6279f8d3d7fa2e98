-- What the rules of one line say in numbers.
--   clash               two constructors are never equal: `clash (cc)`
--   both, within_true   tests that hold
--   head_fits_means, node_fits_means, edge_fits_means  the ranges that a line's numbers keep
--   edge_fits_same      an edge's rules look at the kinds of nodes only
use Prim.Native.Nat.{ℕ, ◌^◌, ◌<◌, ◌≤◌}
use native.Mathlib.Omega.{arith}
use mathlib.Core.Path.{◌≡◌, refl}
use mathlib.Core.Bool.{Bool, true, false, cond}
use lib.Dec.{ltb, leb}
use borrow.Author.Tests.{ltb-true, leb-true}
use Rattle.frame.specs.Frame.{within}
pub use Rattle.frame.proofs.Digits.{clash, within_true}
pub use Rattle.netlist.specs.Theorems.{head_test, node_test, edge_test}
use Rattle.rules.specs.Rules.{rule_of, head_fits, node_fits, edge_fits}

pub both : (a b : Bool) → cond a b false ≡ true → (a ≡ true) × (b ≡ true)
both true b h = (refl, h)
both false b h = clash (cc)

pub head_fits_means : (p d n e : ℕ) → head_fits p d n e ≡ true → (p ≤ 65535) × (d ≤ 250) × (n ≤ 512) × (e ≤ 1024)
unfolding head_fits
head_fits_means p d n e h =
    let a = both (within 1 65535 p) _ h in
    let b = both (within 50 250 d) _ a.1 in
    let c = both (within 2 512 n) _ b.1 in
    let f = both (within 1 1024 e) _ c.1 in
    ((within_true 1 65535 p a.0).1, (within_true 50 250 d b.0).1, (within_true 2 512 n c.0).1, (within_true 1 1024 e f.0).1)

pub node_fits_means : (k d : ℕ) → node_fits k d ≡ true → (k ≤ 10) × (d ≤ 255)
unfolding node_fits rule_of
node_fits_means k d h =
    let a = both (leb k 10) _ h in
    let b = both (within (rule_of k).low (rule_of k).high d) _ a.1 in
    let c = (within_true (rule_of k).low (rule_of k).high d b.0).1 in
    (leb-true k 10 a.0, go (ltb k 2) c)
  where
    go : (t : Bool) → d ≤ cond t 0 255 → d ≤ 255
    go true l = omega arith
    go false l = l

pub edge_fits_means : (nodes : ℕ) (kind : ℕ → ℕ) (u v w s : ℕ) → edge_fits nodes kind u v w s ≡ true → (u < nodes) × (v < nodes) × (w ≤ 32) × (s < 2 ^ w)
unfolding edge_fits
edge_fits_means nodes kind u v w s h =
    let a = both (ltb u nodes) _ h in
    let b = both (ltb v nodes) _ a.1 in
    let c = both (leb w 32) _ b.1 in
    let d = both (ltb s (2 ^ w)) _ c.1 in
    (ltb-true u nodes a.0, ltb-true v nodes b.0, leb-true w 32 c.0, ltb-true s (2 ^ w) d.0)

pub edge_fits_same : (nodes : ℕ) (kind kind' : ℕ → ℕ) → ((i : ℕ) → i < nodes → kind i ≡ kind' i) → (u v w s : ℕ)
    → edge_fits nodes kind u v w s ≡ edge_fits nodes kind' u v w s
unfolding edge_fits
edge_fits_same nodes kind kind' q u v w s = go (ltb u nodes) (ltb v nodes) refl refl
  where
    go : (a b : Bool) → ltb u nodes ≡ a → ltb v nodes ≡ b → edge_fits nodes kind u v w s ≡ edge_fits nodes kind' u v w s
    go true true h k = rw (q u (ltb-true u nodes h), q v (ltb-true v nodes k))
    go true false h k = rw (h, k)
    go false b h k = rw h
