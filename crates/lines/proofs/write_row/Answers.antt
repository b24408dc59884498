-- `write_row` meets its contract. Pieces of four entries follow each other, each beginning among those that stand there already or at
-- their end (`copying_over`); where the two ways of the test meet, at most four entries are left (`Nearly`).
-- Assumes nothing.
use Rattle.std.proofs.Common.{arith}
use Rattle.ground.specs.Laws.Copying.{Copying}
use Rattle.ground.proofs.Laws.Copying.{copying_start}
use Rattle.lines.specs.Copying.{Nearly, copying_over, nearly_end}
use Rattle.lines.proofs.write_row.Goals as goal
use Rattle.lines.proofs.write_row.Goals.{then-n-ge8, else-n-ge8}

pub returns : goal.returns
returns c =
    let a = c.args in
    let first : Copying a.rows.now a.at a.row.now a.n 4 c.write_piece.new.rows =
    copying_over copying_start 0 4 (omega arith) (omega arith) (omega arith) (omega arith) (omega arith) c.write_piece.ensures in
    let nearly : Nearly a.rows.now a.at a.row.now a.n c.if-n-ge8.rows = elim c.if-n-ge8.branch [
      | then-n-ge8 w ↦ record {
        count = 8;
        copied = rw w.rows-is (copying_over first 4 4 (omega arith) (omega arith) (omega arith) (omega arith) (omega arith) w.write_piece-then-n-ge8.ensures);
        near = omega arith;
      }
      | else-n-ge8 w ↦ record { count = 4; copied = rw w.rows-is first; near = omega arith }
    ] in
    nearly_end nearly (omega arith) (omega arith) (omega arith) c.write_piece-2.ensures
