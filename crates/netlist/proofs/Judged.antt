-- What is said of a netlist whose lines are right.
--   lowest_one          the lowest node that breaks a rule is one
--   all_none            no node breaks a rule that all keep
--   one_judged          the rules 5, 6 and 7 say one thing
--   judged_sound        where they hold, they say 0
--   reads_judged        what reading says where no line has a fault
--   reads_fault         and where one has
use Prim.Native.Nat.{ℕ, ◌<◌}
use native.Mathlib.Omega.{arith}
use native.Mathlib.Decide.{dec_lt}
use mathlib.Core.Path.{◌≡◌, refl, ap, ◌∙◌, subst}
use mathlib.Core.List.{List}
use Rattle.netlist.specs.declared.Netlist.{Netlist}
use Rattle.netlist.specs.Answer.{Said, value, whole, at_node}
use Rattle.netlist.specs.Order.{past, GivenAt}
use Rattle.netlist.specs.Net.{empty_net}
use Rattle.netlist.specs.Circuit.{LoopIn}
use Rattle.netlist.specs.Read.{fault, lines, lines_of, All, Lowest, Judged, kept, Reads, faulty, judged, AllInReach, FanInsFit}
use Rattle.netlist.proofs.Fits.{clash}
use Rattle.netlist.proofs.Order.{One, else_one, given_one, given_at_one, otherwise_one}

lowest_one : {R : ℕ → Type 0} {n : ℕ} (v w : ℕ) → Lowest R n v → Lowest R n w → v ≡ w
lowest_one v w l m = go (dec_lt v w) (dec_lt w v)
  where
    go : Dec (v < w) → Dec (w < v) → v ≡ w
    go (yes h) d = absurd (l.breaks (m.before v h))
    go (no h) (yes k) = absurd (m.breaks (l.before w k))
    go (no h) (no k) = omega arith

-- No node breaks a rule that all keep.
pub all_none : {R : ℕ → Type 0} {n : ℕ} {f : ℕ → Said} → All R n → (x : Said) → ¬ GivenAt (Lowest R n) f x
all_none a x (v, l, e) = l.breaks (a v l.there)

pub one_judged : (net : Netlist) → One (Judged net)
one_judged net =
    else_one (given_at_one (at_node 5) lowest_one)
    (else_one (given_one (LoopIn net) (whole 6))
    (else_one (given_at_one (at_node 7) lowest_one) (otherwise_one (value 0))))

-- Nothing is said against a netlist that keeps the rules.
pub judged_sound : (net : Netlist) → FanInsFit net → ¬ LoopIn net → AllInReach net
    → Judged net (value 0)
judged_sound net a o j = past (all_none a) (past (λ x g. o g.0) (past (all_none j) refl))

pub reads_judged : {t : List ℕ} {s : Said} {net read : Netlist} → lines_of t ≡ lines read → Reads t s net → Judged read s × (net ≡ kept s read)
reads_judged h (faulty p q) = clash (cc)
reads_judged {s = s} {read = read} h (judged m p j q) =
    let e : m ≡ read = cc in
    (subst (λ x. Judged x s) e j, q ∙ ap (kept s) e)

pub reads_fault : {t : List ℕ} {s s' : Said} {net : Netlist} → lines_of t ≡ fault s → Reads t s' net → (s' ≡ s) × (net ≡ empty_net)
reads_fault h (faulty p q) = (cc, q)
reads_fault h (judged m p j q) = clash (cc)
