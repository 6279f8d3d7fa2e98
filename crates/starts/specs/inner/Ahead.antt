-- 32 clocks of a gate in a row.
--   turned j c          slot c, j rows further
--   ahead               the ring after j clocks of a gate
--   all_ahead           the ring after 32 clocks of each of the first n gates of a list, each from those before it
--   Leads               an edge between two nodes of a list leads on in it, by their places, or has 32 registers
--   LeadsOn             each edge does
--   Leading             so for the places in the list
--   Strides             how many clocks are taken at clock s: one, or 32 from there on
--   Taken               the ring after one clock of a list, or 32
use Rattle.std.specs.Prelude.{◌≡◌, ◌⊎◌, Option, Some, List, map, ℕ, zero, suc, ◌+◌, ◌*◌, ◌%◌, ◌<◌, ◌≤◌, length, set}
use Rattle.theory.specs.Gate.{gate}
use Rattle.graph.specs.Columns.{at}
use Rattle.graph.specs.inner.Sort.{Places, place_in}
use Rattle.gates.specs.inner.Gates.{part, evaluated}
use Rattle.netlist.specs.declared.Netlist.{Netlist}
use Rattle.starts.specs.inner.Ring.{further}

unfoldable pub turned : ℕ → ℕ → ℕ
turned zero c = c
turned (suc j) c = further (turned j c)

-- A gate of this kind that sees these slots in the first clock; its values go to `place`, a row further each.
unfoldable pub ahead : ℕ → List ℕ → ℕ → ℕ → List ℕ → List ℕ
ahead kind sees place zero ring = ring
ahead kind sees place (suc j) ring =
    let before = ahead kind sees place j ring in
    set before (place + j * 512) (gate kind (map (at before) (map (turned j) sees)))

unfoldable pub all_ahead : List ℕ → List ℕ → List ℕ → List ℕ → ℕ → ℕ → List ℕ → List ℕ
all_ahead kind node first slots base zero ring = ring
all_ahead kind node first slots base (suc n) ring =
    let v = at node n in
    ahead (at kind v) (part slots (at first v) (at first (suc v))) (base + v) 32 (all_ahead kind node first slots base n ring)

abbrev pub Leads : Netlist → List (Option ℕ) → ℕ → Type 0
Leads net place e = (x y : ℕ) → place_in place (at net.from e) ≡ Some x → place_in place (at net.to e) ≡ Some y → at net.count e < 32 → x < y

abbrev pub LeadsOn : Netlist → List (Option ℕ) → Type 0
LeadsOn net place = (e : ℕ) → e < net.edges → Leads net place e

pub record Leading (net : Netlist) (list : List ℕ) : Type 0 where
  pub place : List (Option ℕ)
  pub places : Places list (length list) place
  pub leads : LeadsOn net place

abbrev pub Strides : Netlist → List ℕ → ℕ → ℕ → Type 0
Strides net list s r = (r ≡ 1) ⊎ ((r ≡ 32) × (32 ≤ s) × (s % 32 ≡ 0) × Leading net list)

abbrev pub Taken : List ℕ → List ℕ → List ℕ → List ℕ → ℕ → ℕ → List ℕ → List ℕ → Type 0
Taken kind node first slots base clocks ring ring' =
    ((clocks ≤ 1) × (ring' ≡ evaluated kind node first slots base (length node) ring)) ⊎ ((1 < clocks) × (ring' ≡ all_ahead kind node first slots base (length node) ring))
