-- A call and its row.
--   reading             a text is refused, or it reads
--   unread              the outcome of a text that is refused
--   left_of, of_left    of a text that reads: what is left of the row
--   short, none, from_9, said    12; 8; what is said of lags, with room; what that leaves
--   back_reads          a call that comes back has read its text
use Prim.Native.Nat.{ℕ}
use mathlib.Core.Path.{◌≡◌, refl, subst}
use mathlib.Core.Logic.{◌⊎◌, inl, inr}
use mathlib.Core.List.{List}
use lib.IntN.{ℤ, pos}
use Rattle.netlist.specs.declared.Netlist.{Netlist}
use Rattle.netlist.specs.Answer.{Said, value, refused, whole, holds}
use Rattle.netlist.specs.Order.{here, past}
use Rattle.netlist.specs.Read.{Reads}
use Rattle.netlist.specs.Write.{text_of}
use Rattle.netlist.proofs.Fits.{clash}
use Rattle.netlist.proofs.Order.{later, no_stop, stopped}
use Rattle.netlist.proofs.theorems.One.{one_reading}
use Rattle.netlist.proofs.theorems.Some.{some_reading}
use Rattle.simulate.proofs.Ran.{reads_zero}
use Rattle.moves.specs.Moved.{moved_net}
use Rattle.retime.specs.Retime.{NoneMeets, lag_table, MovedBy, Room, Short, Retimes}
use Rattle.retime.specs.inner.Leaves.{FromShort, Leaves}
use Rattle.retime.proofs.Order.{no_short, no_none, least_said}

-- Reading that refuses nothing says 0.
pub reading : (t : List ℕ) → ((q : ℕ) × (k : ℕ) × (p : ℕ) × (net : Netlist) × Reads t (refused q k p) net) ⊎ ((net : Netlist) × Reads t (value 0) net)
reading t = go (some_reading t)
  where
    go : (s : Said) × (net : Netlist) × Reads t s net → ((q : ℕ) × (k : ℕ) × (p : ℕ) × (net : Netlist) × Reads t (refused q k p) net) ⊎ ((net : Netlist) × Reads t (value 0) net)
    go (refused q k p, net, h) = inl (q, k, p, net, h)
    go (value n, net, h) = inr (net, reads_zero h)

module _ {t out : List ℕ} {lags : List ℤ} where
  pub unread : {q k p : ℕ} {net : Netlist} → Reads t (refused q k p) net → Retimes t out lags (refused q k p) out lags
  unread {q} {k} {p} {net} h = record { checked = refused q k p; net = net; reads = h; lag = λ v. pos 0; choice = 0; answer = here refl; buffer = refl; table = refl }

  module _ {s : Said} {out' : List ℕ} {lags' : List ℤ} where
    pub of_left : (net : Netlist) → Reads t (value 0) net → Leaves (FromShort out lags net) net out lags s out' lags' → Retimes t out lags s out' lags'
    of_left net h x =
        record { checked = value 0; net = net; reads = h; lag = x.lag; choice = x.choice; answer = past (no_stop 0 refl) x.answer; buffer = x.buffer; table = x.table }

    pub left_of : (net : Netlist) → Reads t (value 0) net → Retimes t out lags s out' lags' → Leaves (FromShort out lags net) net out lags s out' lags'
    left_of net h o =
        let e = one_reading t o.checked (value 0) o.net net o.reads h in
        subst (λ n. Leaves (FromShort out lags n) n out lags s out' lags') e.1
        (record { lag = o.lag; choice = o.choice; answer = later s (no_stop 0 e.0) o.answer; buffer = o.buffer; table = o.table })

    pub back_reads : {k : ℕ} (o : Retimes t out lags s out' lags') → s ≡ value k → Reads t (value 0) o.net
    back_reads o e = go o.checked refl
      where
        go : (c : Said) → o.checked ≡ c → Reads t (value 0) o.net
        go (refused q k p) z = let y = stopped z o.answer in clash (cc)
        go (value n) z = reads_zero (subst (λ c. Reads t c o.net) z o.reads)

pub none : {out : List ℕ} {lags : List ℤ} (net : Netlist) → Room out lags net → NoneMeets net → Leaves (FromShort out lags net) net out lags (whole 8) out lags
none net room n = record { lag = λ v. pos 0; choice = 0; answer = past (no_short room) (here (n, refl)); buffer = refl; table = refl }

-- Where anything is said of lags they are the least, so 8 is not said.
pub from_9 : {out : List ℕ} {lags : List ℤ} {s : Said} {out' : List ℕ} {lags' : List ℤ} (net : Netlist) → Room out lags net → Leaves (MovedBy net) net out lags s out' lags'
    → Leaves (FromShort out lags net) net out lags s out' lags'
from_9 net room x =
    record {
      lag = x.lag;
      choice = x.choice;
      answer = past (no_short room) (past (no_none net x.lag (least_said net x.lag x.choice x.answer)) x.answer);
      buffer = x.buffer;
      table = x.table;
    }

pub short : (out : List ℕ) (lags : List ℤ) (net : Netlist) → Short out lags net → Leaves (FromShort out lags net) net out lags (whole 12) out lags
short out lags net x = record { lag = λ v. pos 0; choice = 0; answer = here (x, refl); buffer = refl; table = refl }

pub said : {s : Said} (out : List ℕ) (lags : List ℤ) (net : Netlist) (r : ℕ → ℤ) (c : ℕ) → MovedBy net r c s
    → Leaves (MovedBy net) net out lags s (holds s (text_of (moved_net net r c)) out) (holds s (lag_table net r) lags)
said out lags net r c row = record { lag = r; choice = c; answer = row; buffer = refl; table = refl }
