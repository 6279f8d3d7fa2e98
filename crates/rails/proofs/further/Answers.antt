-- `rails::further` meets its contract: the exclusive or has as many digits as values are left from the first that differs.
use Rattle.std.proofs.Common.{◌-◌, ◌≤◌, arith}
use Rattle.rails.proofs.Agreed.{apart, digits, same_few, agreed_within, agreed_past}
use Rattle.rails.proofs.Shared.{far_by}
use Rattle.rails.proofs.further.Goals as goal

pub overflow_sub-most : goal.overflow_sub-most
overflow_sub-most c =
    let a = c.args in
    let r = c.requires in
    let n = c.min-most.result in
    let y : n ≤ a.w = omega (arith, c.min-most.ensures) in
    let z : n ≤ a.x = omega (arith, c.min-most.ensures) in
    rw (c.nearest.ensures, c.nearest-2.ensures) (omega (arith, same_few a.w a.a a.x a.b r.3 r.4 n y z (omega (arith, y, r.1))))

pub returns : goal.returns
returns c =
    let a = c.args in
    let r = c.requires in
    let n = c.min-most.result in
    let y : n ≤ a.w = omega (arith, c.min-most.ensures) in
    let z : n ≤ a.x = omega (arith, c.min-most.ensures) in
    let few : n ≤ 32 = omega (arith, y, r.1) in
    let s = n - digits (apart a.w a.a a.x a.b r.3 r.4 n y z few) in
    let e = rw (c.nearest.ensures, c.nearest-2.ensures) at c.max.ensures in
    far_by n s (omega (arith, c.min-most.ensures)) (omega arith) (omega arith) (omega (arith, e))
    (agreed_within a.w a.a a.x a.b r.3 r.4 n y z few)
    (agreed_past a.w a.a a.x a.b r.3 r.4 n y z few)
