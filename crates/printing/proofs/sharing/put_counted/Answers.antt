-- `printing::sharing::put_counted` meets its contract: there is room for all lines, or nothing is put.
use Rattle.std.proofs.Common.{ap, sym, ◌∙◌, arith, length}
use borrow.Author.Tests.{lt-leb, le-leb}
use Rattle.std.proofs.lemmas.List.Edits.{sets}
use Rattle.frame.specs.Frame.{line_of, placed}
use Rattle.frame.proofs.Buffers.{placed_full}
use Rattle.netlist.specs.Write.{joined}
use Rattle.printing.specs.Shared.{rail_line, rail_lines}
use Rattle.printing.proofs.Shared.{lines_length, lines_put}
use Rattle.printing.proofs.sharing.put_counted.Goals as goal

pub returns-then-out-len-clause-out_after : goal.returns-then-out-len-clause-out_after
returns-then-out-len-clause-out_after c =
    let a = c.args in
    let l = lines_length a.total a.table.now (length a.table.now) in
    sym (placed_full a.out.now 0 (rail_lines a.total a.table.now (length a.table.now)) (omega arith))

pub returns-then-out-len-clause-value : goal.returns-then-out-len-clause-value
returns-then-out-len-clause-value c =
    let a = c.args in
    let l = lines_length a.total a.table.now (length a.table.now) in
    rw (lt-leb (length (rail_lines a.total a.table.now (length a.table.now))) (length a.out.now) (omega arith))

pub returns-clause-out_after : goal.returns-clause-out_after
returns-clause-out_after c =
    let a = c.args in
    c.put_nodes.ensures
    ∙ ap (λ l. sets l 11 (joined (rail_line a.table.now) (length a.table.now))) (c.put_line.ensures ∙ ap (λ bytes. placed a.out.now 0 (line_of bytes)) c.total_bytes.ensures)
    ∙ lines_put a.total a.table.now (length a.table.now) a.out.now (omega arith)

pub returns-clause-value : goal.returns-clause-value
returns-clause-value c =
    let a = c.args in
    let l = lines_length a.total a.table.now (length a.table.now) in
    rw (le-leb (length (rail_lines a.total a.table.now (length a.table.now))) (length a.out.now) (omega arith)) (sym l)
