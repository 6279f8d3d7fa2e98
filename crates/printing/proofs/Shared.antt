-- What is printed of a text's rails.
--   total_length, rail_length, lines_length    how long the lines are
--   lines_put           the line of the total, and behind it those of the nodes
--   reads_too           a text whose count is not refused reads
--   rails_room          a count that is not refused has a place in its table for each node, of which there are 512 at most
--   prints_lines        and these lines are printed of it
use Prim.Native.Nat.{ℕ, ◌+◌, ◌*◌, ◌≤◌, ◌<◌}
use native.Mathlib.Omega.{arith}
use native.Mathlib.Decide.{dec_lt}
use mathlib.Core.Path.{◌≡◌, refl, ap, ap₂, sym, ◌∙◌}
use mathlib.Core.List.{List, [], ◌∷◌, ◌++◌}
use lib.ListN.{length, take, length-append}
use lib.Seq.{sets, length-take-le}
use Rattle.std.proofs.lemmas.List.{get_or-take}
use Rattle.theory.proofs.numbers.Stores.{sets_sets}
use Rattle.frame.specs.Frame.{bytes_of, line_of, placed}
use Rattle.frame.proofs.Laws.{length_line}
use Rattle.frame.proofs.Buffers.{placed_room}
use Rattle.netlist.specs.declared.Netlist.{Netlist}
use Rattle.netlist.specs.Answer.{Said, value, refused, whole}
use Rattle.netlist.specs.Net.{graph_of, regs_of}
use Rattle.netlist.specs.Order.{◌or_else◌, here, past, Given, Otherwise}
use Rattle.netlist.specs.Read.{Reads}
use Rattle.netlist.specs.Write.{joined}
use Rattle.netlist.proofs.Fits.{clash}
use Rattle.netlist.proofs.Order.{stops_value}
use Rattle.netlist.proofs.Rows.{joined_same}
use Rattle.netlist.proofs.Run.{fit_rows}
use Rattle.netlist.proofs.Written.{length_joined}
use Rattle.netlist.proofs.theorems.One.{one_reading}
use Rattle.lags.proofs.Laws.{read_sure}
use Rattle.rails.specs.Rails.{rails_in, Rails}
use Rattle.printing.specs.Shown.{line_in}
use Rattle.printing.specs.Shared.{total_line, rail_line, rail_lines, shown_rails, PrintsRails}

-- ── The lines ───────────────────────────────────────────────────────────────────────────────

pub total_length : (n : ℕ) → length (total_line n) ≡ 11
unfolding bytes_of
total_length n = length_line _

pub rail_length : (table : List ℕ) (v : ℕ) → length (rail_line table v) ≡ 15
unfolding bytes_of
rail_length table v = length_line _

pub lines_length : (n : ℕ) (table : List ℕ) (m : ℕ) → length (rail_lines n table m) ≡ 11 + 15 * m
lines_length n table m =
    length-append (total_line n) (joined (rail_line table) m) ∙ ap₂ (λ x y. x + y) (total_length n) (length_joined (rail_line table) 15 (rail_length table) m)

pub lines_put : (n : ℕ) (table : List ℕ) (m : ℕ) (old : List ℕ) → 11 + 15 * m ≤ length old
    → sets (placed old 0 (total_line n)) 11 (joined (rail_line table) m) ≡ placed old 0 (rail_lines n table m)
lines_put n table m old room =
    let l = total_length n in
    let k = lines_length n table m in
    ap (λ x. sets x 11 (joined (rail_line table) m)) (placed_room old 0 (total_line n) (omega arith))
    ∙ sets_sets (total_line n) (joined (rail_line table) m) old 0 11 (omega arith)
    ∙ sym (placed_room old 0 (rail_lines n table m) (omega arith))

-- ── A count that is not refused ─────────────────────────────────────────────────────────────

-- 12 was passed.
passed_12 : {G : Said → Type 0} {m k n : ℕ} → (Given (m < k) (whole 12) or_else G) (value n) → k ≤ m
passed_12 (here (h, z)) = clash (cc)
passed_12 {m = m} {k} (past none z) = go (dec_lt m k)
  where
    go : Dec (m < k) → k ≤ m
    go (yes h) = absurd (none (whole 12) (h, refl))
    go (no h) = omega arith

module _ (t old table : List ℕ) {n : ℕ} (w : Rails t old (value n) table) where
  row : (i : ℕ) × (w.checked ≡ value i) × (Given (length old < w.net.nodes) (whole 12) or_else Otherwise (value (rails_in (graph_of w.net) (regs_of w.net)))) (value n)
  row = stops_value w.checked w.answer

  -- So the text reads.
  pub reads_too : {q k p : ℕ} {net : Netlist} → ¬ Reads t (refused q k p) net
  reads_too {q} {k} {p} {net} r = let e = (one_reading t (refused q k p) w.checked net w.net r w.reads).0 in let (i, c, x) = row in clash (cc)

  module _ (net : Netlist) (reads : Reads t (value 0) net) where
    same : net ≡ w.net
    same = (one_reading t (value 0) w.checked net w.net reads w.reads).1

    pub rails_room : length table ≡ length old → (net.nodes ≤ 512) × (net.nodes ≤ length table)
    rails_room long =
        let (i, c, x) = row in
        let few = (fit_rows net (read_sure t net reads).fit).0 in
        let here : w.net.nodes ≤ length old = passed_12 x in
        let k : net.nodes ≡ w.net.nodes = ap (λ x. x.nodes) same in
        (few, omega (arith, here, k, long))

    -- The lines of the front of the table.
    front_lines : net.nodes ≤ length table → rail_lines n (take net.nodes table) (length (take net.nodes table)) ≡ shown_rails (value n) table w.net.nodes
    front_lines room =
        ap (λ m. rail_lines n (take net.nodes table) m) (length-take-le net.nodes table room)
        ∙ ap (λ l. total_line n ++ l) (joined_same (rail_line (take net.nodes table)) (rail_line table) net.nodes (λ v h. ap (λ x. line_of ((11 ∷ []) ++ bytes_of 2 v ++ bytes_of 4 x)) (get_or-take net.nodes table v 0 h)))
        ∙ ap (λ x. shown_rails (value n) table x.nodes) same

    pub prints_lines : (out new : List ℕ) (r : ℕ) → net.nodes ≤ length table
        → new ≡ placed out 0 (rail_lines n (take net.nodes table) (length (take net.nodes table)))
        → r ≡ line_in (rail_lines n (take net.nodes table) (length (take net.nodes table))) out → PrintsRails t old table out r new
    prints_lines out new r room put long =
        let s = front_lines room in
        record { said = value n; rails = w; result = long ∙ ap (λ l. line_in l out) s; buffer = put ∙ ap (placed out 0) s }
