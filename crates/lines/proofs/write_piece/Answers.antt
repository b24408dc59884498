-- `write_piece` meets its contract. The array is the four carriers, and takes the place of four in the list.
-- Assumes nothing.
use Rattle.std.proofs.Common.{◌≡◌, ℕ, ◌+◌, ◌-◌, take, drop, ap, ◌∙◌, arith, length-take-le, length-drop}
use Rattle.std.proofs.lemmas.Slice.{put_mid-paste}
use Rattle.lines.proofs.write_piece.Goals as goal

pub returns : goal.returns
returns c =
    let a = c.args in
    let four : a.from + 4 - a.from ≡ 4 = omega arith in
    let taken = rw c.unwrap.ensures at c.as_array.ensures.cases in
    put_mid-paste (a.at + a.from) _ a.rows.now _ (take 4 (drop a.from a.row.now)) 4
    (c.copy.ensures ∙ taken.same ∙ ap (λ (k : ℕ). take k (drop a.from a.row.now)) four)
    (omega arith)
    (omega (arith, length-take-le 4 (drop a.from a.row.now) (omega (arith, length-drop a.from a.row.now))))
