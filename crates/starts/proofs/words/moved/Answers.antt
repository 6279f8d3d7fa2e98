-- `starts::words::moved` meets its contract: each edge's word is filled up from the ring.
use Rattle.std.proofs.Common.{◌≡◌, ◌≤◌, length, arith, refl, subst, sym, rules}
use Rattle.std.proofs.lemmas.List.{length-take-le, get_or-take}
use Rattle.moves.proofs.Labels.{low_edges}
use Rattle.starts.proofs.Found.{start_found, moved_is}
use Rattle.starts.proofs.words.moved.Goals as goal

pub bytes_of-requires : goal.bytes_of-requires
bytes_of-requires c =
    let m = c.requires.0 in
    let edges = c.args.from.net.now.edges in
    let counts = c.args.counts.now in
    let size = length-take-le edges counts m.count_rows in
    (omega (arith, low_edges _ _ m.labelled), λ e h. subst (λ x. x ≤ 32) (sym (get_or-take edges counts e 0 (omega arith))) (m.narrow e (omega arith)))

pub column-requires : goal.column-requires
column-requires c =
    let m = c.args.from in
    search (rules, low_edges m.net.now m.lab.now m.labelled, c.ring_of-ring.ensures.bits, c.requires.0, c.requires.1)

pub returns : goal.returns
returns c = λ n w.
    let a = c.args in
    let m = a.from in
    let bytes_rows : length c.bytes_of.result ≡ 1024 = search rules in
    let starts_rows : length c.column.result ≡ 1024 = search rules in
    moved_is _ _ _ n c.requires.0 _ _ bytes_rows starts_rows c.bytes_of.ensures
    (record {
      rows = λ e h.
          let k = c.column.ensures.made_of e h in
          search (rules, start_found m.net.now m.lab.now a.counts.now c.requires.0 e h _ refl n c.ring_of-ring.result c.ring_of-ring.ensures a.words.now (w e h));
      past = c.column.ensures.behind;
    })
