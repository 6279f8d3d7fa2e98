-- What has been written so far: lines one after the other.
--   length_joined, joined_part    lines of one length; fewer lines are no longer
--   head_length, node_length, edge_length, parts_length, text_length    how long the lines and the text of a record are
--   put_more            one line more at the cursor
--   text_parts          head, nodes and edges: the text
--   text_in_room        what `put_text` puts: the text
--   text_nodes, text_edges, text_room    or nothing: too many nodes, too many edges, too little room
--   text_put            so that is what is written by a caller that has made sure of rows and room
use Prim.Native.Nat.{ℕ, zero, suc, ◌+◌, ◌*◌, ◌≤◌, ◌<◌}
use mathlib.Core.Path.{◌≡◌, refl, sym, ap, ◌∙◌}
use mathlib.Core.List.{List, [], ◌++◌}
use native.Mathlib.Omega.{arith}
use native.Mathlib.Nat.{mul-suc}
use native.Mathlib.Numerals.{add-one}
use borrow.Author.Tests.{le-leb, lt-leb}
use lib.ListN.{length, length-append}
use lib.Seq.{sets, length-sets}
use Rattle.frame.specs.Frame.{bytes_of, placed}
use Rattle.frame.proofs.Laws.{length_line}
use Rattle.theory.proofs.numbers.Stores.{sets_sets}
use Rattle.frame.proofs.Buffers.{placed_room}
use Rattle.netlist.specs.declared.Netlist.{Netlist}
use Rattle.netlist.proofs.Rows.{joined_split}
use Rattle.netlist.proofs.Fields.{line_size}
use Rattle.netlist.specs.Write.{head_line, node_line, edge_line, joined, text_of, text_in}

pub length_joined : (f : ℕ → List ℕ) (k : ℕ) → ((i : ℕ) → length (f i) ≡ k) → (n : ℕ) → length (joined f n) ≡ k * n
unfolding joined
length_joined f k h zero = omega arith
length_joined f k h (suc n) = omega (arith, length-append (joined f n) (f n), mul-suc k n, h n, length_joined f k h n)

joined_next : (f : ℕ → List ℕ) (i : ℕ) → joined f (i + 1) ≡ joined f i ++ f i
unfolding joined
joined_next f i = rw add-one

pub joined_more : (f : ℕ → List ℕ) (i : ℕ) → length (joined f (i + 1)) ≡ length (joined f i) + length (f i)
joined_more f i = ap length (joined_next f i) ∙ length-append (joined f i) (f i)

pub joined_part : (f : ℕ → List ℕ) (n i : ℕ) → i < n → length (joined f (i + 1)) ≤ length (joined f n)
joined_part f n i h =
    let s = joined_split f n i h in
    omega (arith, joined_more f i, simp length-append at (ap length s.1))

module _ (net : Netlist) where
  pub head_length : length (head_line net) ≡ line_size 7
  unfolding bytes_of
  head_length = length_line _

  pub node_length : (i : ℕ) → length (node_line net i) ≡ line_size 2
  node_length i = length_line _

  pub edge_length : (e : ℕ) → length (edge_line net e) ≡ line_size 9
  unfolding bytes_of
  edge_length e = length_line _

  pub parts_length : length (text_of net) ≡ length (head_line net) + length (joined (node_line net) net.nodes) + length (joined (edge_line net) net.edges)
  unfolding text_of
  parts_length = simp length-append

  pub text_length : length (text_of net) ≡ line_size 7 + line_size 2 * net.nodes + line_size 9 * net.edges
  text_length =
      omega (arith, parts_length, head_length, length_joined (node_line net) (line_size 2) node_length net.nodes, length_joined (edge_line net) (line_size 9) edge_length net.edges)

-- The line of item i at the cursor behind those of the items below it.
pub put_more : (f : ℕ → List ℕ) (old : List ℕ) (at i : ℕ) → at + length (joined f (i + 1)) ≤ length old
    → placed (sets old at (joined f i)) (at + length (joined f i)) (f i) ≡ sets old at (joined f (i + 1))
put_more f old at i room =
    let l = joined_more f i in
    placed_room _ _ _ (simp length-sets (omega arith)) ∙ sets_sets (joined f i) (f i) old at (at + length (joined f i)) refl ∙ ap (sets old at) (sym (joined_next f i))

-- Head, nodes and edges one after the other are the text.
pub text_parts : (net : Netlist) (old : List ℕ) → length (text_of net) ≤ length old
    → sets (sets (placed old 0 (head_line net)) (line_size 7) (joined (node_line net) net.nodes)) (line_size 7 + length (joined (node_line net) net.nodes)) (joined (edge_line net) net.edges)
    ≡ sets old 0 (text_of net)
unfolding text_of
text_parts net old room =
    let h = head_line net in
    let n = joined (node_line net) net.nodes in
    let m = joined (edge_line net) net.edges in
    let l = head_length net in
    let r : 0 + length h ≤ length old = omega (arith, parts_length net) in
    ap (λ x. sets (sets x (line_size 7) n) (line_size 7 + length n) m) (placed_room old 0 h r)
    ∙ ap (λ x. sets x (line_size 7 + length n) m) (sets_sets h n old 0 (line_size 7) (omega arith))
    ∙ sets_sets (h ++ n) m old 0 (line_size 7 + length n) (omega (arith, length-append h n))

-- With its rows and room the text is put; with too many nodes or edges, or too little room, nothing.
module _ (net : Netlist) (m : ℕ) where
  pub text_in_room : net.nodes ≤ 512 → net.edges ≤ 1024 → length (text_of net) ≤ m → text_in net m ≡ text_of net
  unfolding text_in
  text_in_room h k room = rw (le-leb net.nodes 512 h, le-leb net.edges 1024 k, le-leb (length (text_of net)) m room)

  pub text_nodes : 512 < net.nodes → text_in net m ≡ []
  unfolding text_in
  text_nodes h = rw (lt-leb net.nodes 512 h)

  pub text_edges : net.nodes ≤ 512 → 1024 < net.edges → text_in net m ≡ []
  unfolding text_in
  text_edges h k = rw (le-leb net.nodes 512 h, lt-leb net.edges 1024 k)

  pub text_room : net.nodes ≤ 512 → net.edges ≤ 1024 → m < length (text_of net) → text_in net m ≡ []
  unfolding text_in
  text_room h k room = rw (le-leb net.nodes 512 h, le-leb net.edges 1024 k, lt-leb (length (text_of net)) m room)

-- What a caller that has made sure of rows and room knows.
pub text_put : (net : Netlist) (old new : List ℕ) (n : ℕ) → new ≡ sets old 0 (text_in net (length old)) → n ≡ length (text_in net (length old))
    → net.nodes ≤ 512 → net.edges ≤ 1024 → length (text_of net) ≤ length old → (new ≡ sets old 0 (text_of net)) × (n ≡ length (text_of net))
text_put net old new n e l h k room = let w = text_in_room net (length old) h k room in (e ∙ ap (sets old 0) w, l ∙ ap length w)
