-- "more decides nothing": no line is looked at past byte 25,105, and a text that goes on there is refused, at the same line however it goes on.
--   edges_longer, nodes_longer, lines_longer    the lines of a text that is long enough, where it goes on
--   more_decides_nothing
use Prim.Native.Nat.{ℕ, zero, suc, ◌+◌, ◌*◌, ◌<◌, ◌≤◌}
use native.Mathlib.Omega.{arith}
use native.Mathlib.Decide.{dec_le}
use mathlib.Core.Path.{◌≡◌, refl, sym, ap, ◌∙◌}
use mathlib.Core.Bool.{Bool, true, false, cond}
use mathlib.Core.List.{List, [], ◌∷◌, ◌++◌}
use lib.ListN.{length, take, drop, take-append-drop, length-append}
use lib.Seq.{take_all, length-take-le}
use Rattle.frame.specs.Frame.{Line, bad, line, on_line, frame_at, line_of, number_at}
use Rattle.frame.proofs.Laws.{behind, length_line, frame_rest, frame_longer}
use Rattle.netlist.specs.declared.Netlist.{Netlist}
use Rattle.netlist.specs.Answer.{Said, at_line}
use Rattle.netlist.specs.Net.{with_head}
use Rattle.netlist.specs.Read.{first_line, head_right, head_read, node_right, node_read, edge_right, edge_read, Lines, fault, edges_from, nodes_from, lines_of, Reads, faulty, judged}
use Rattle.netlist.specs.Theorems.{MoreDecidesNothing}
use Rattle.netlist.proofs.Fits.{head_fits_means}
use Rattle.netlist.proofs.Fields.{line_size}

-- One line, of line_size n bytes: bad, against its rule, or good.
turn : (k n : ℕ) (l z : List ℕ) (none wrong : Lines) (test : List ℕ → Bool) (next : List ℕ → List ℕ → Lines) → line_size n ≤ length l
    → ((bs rest : List ℕ) → test bs ≡ true → line_size n + length rest ≡ length l → next bs (rest ++ z) ≡ next bs rest)
    → on_line (frame_at k n (l ++ z)) none (λ bs rest. cond (test bs) (next bs rest) wrong) ≡ on_line (frame_at k n l) none (λ bs rest. cond (test bs) (next bs rest) wrong)
turn k n l z none wrong test next h same = ap (λ x. on_line x none (λ bs rest. cond (test bs) (next bs rest) wrong)) (frame_longer k n l z h) ∙ by_frame (frame_at k n l) refl
  where
    by_rule : (bs rest : List ℕ) → line_size n + length rest ≡ length l → (b : Bool) → test bs ≡ b → cond b (next bs (rest ++ z)) wrong ≡ cond b (next bs rest) wrong
    by_rule bs rest q true t = same bs rest t q
    by_rule bs rest q false t = refl

    by_frame : (x : Line) → frame_at k n l ≡ x → on_line (behind z x) none (λ bs rest. cond (test bs) (next bs rest) wrong) ≡ on_line x none (λ bs rest. cond (test bs) (next bs rest) wrong)
    by_frame bad e = refl
    by_frame (line bs rest) e =
        let f = frame_rest k n l bs rest e in
        let m : length (line_of (k ∷ bs)) ≡ line_size n = length_line (k ∷ bs) ∙ omega (arith, f.0) in
        by_rule bs rest (omega (arith, m, simp length-append at (ap length f.1.1))) (test bs) refl

edges_longer : (m e n : ℕ) (l z : List ℕ) (net : Netlist) → line_size 9 * m < length l → edges_from m e n (l ++ z) net ≡ edges_from m e n l net
unfolding edges_from
edges_longer zero e n [] z net h = absurd (omega arith)
edges_longer zero e n (c ∷ l) z net h = refl
edges_longer (suc m) e n l z net h =
    turn 3 9 l z _ (fault (at_line 4 n)) (edge_right net) _ (omega arith)
    (λ bs rest t q. edges_longer m (suc e) (suc n) rest z (edge_read net e bs) (omega arith))

nodes_longer : (m i n : ℕ) (l z : List ℕ) (net : Netlist) → line_size 2 * m + line_size 9 * net.edges < length l → nodes_from m i n (l ++ z) net ≡ nodes_from m i n l net
unfolding nodes_from
nodes_longer zero i n l z net h = edges_longer net.edges 0 n l z net (omega arith)
nodes_longer (suc m) i n l z net h =
    turn 2 2 l z _ (fault (at_line 3 n)) node_right _ (omega arith)
    (λ bs rest t q. nodes_longer m (suc i) (suc n) rest z (node_read net i bs) (omega arith))

lines_longer : (t z : List ℕ) → 25105 < length t → lines_of (t ++ z) ≡ lines_of t
unfolding lines_of with_head
lines_longer t z h =
    turn 1 7 t z _ (fault (at_line 2 1)) head_right _ (omega arith)
    (λ bs rest b q.
    let f = head_fits_means (number_at 0 2 bs) (number_at 2 1 bs) (number_at 3 2 bs) (number_at 5 2 bs) b in
    nodes_longer (number_at 3 2 bs) 0 (first_line (head_read bs)) rest z (head_read bs) (omega arith))

-- Reading looks at the lines alone.
reads_by : {t t' : List ℕ} {s : Said} {net : Netlist} → lines_of t ≡ lines_of t' → Reads t s net → Reads t' s net
reads_by q (faulty p e) = faulty (sym q ∙ p) e
reads_by q (judged r p j e) = judged r (sym q ∙ p) j e

pub more_decides_nothing : MoreDecidesNothing
more_decides_nothing t n h s net = (reads_by (sym same), reads_by same)
  where
    go : Dec (n ≤ length t) → lines_of (take n t) ≡ lines_of t
    go (yes l) = sym (lines_longer (take n t) (drop n t) (omega (arith, length-take-le n t l))) ∙ ap lines_of (take-append-drop n t)
    go (no l) = ap lines_of (take_all n t (omega arith))

    same : lines_of (take n t) ≡ lines_of t
    same = go (dec_le n (length t))
