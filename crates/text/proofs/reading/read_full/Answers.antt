use Rattle.std.proofs.Common.{◌≡◌, ℕ, ◌+◌, ◌-◌, ◌≤◌, List, ◌++◌, rules, arith, length, take, drop, slice_range, sym, ap, ◌∙◌, subst, le_refl, drop_at, length-take-le}
use Rattle.std.proofs.lemmas.Slice.{take-put_mid_below}
use Rattle.std.specs.Io.KnownBytes.{Consumes}
use Rattle.std.proofs.KnownBytes.{Consumes-trans}
use borrow.Rule.Slice.PartMut.{put_mid, post_of}
use lib.Seq.{take-add, take-append-le}
use Rattle.text.proofs.reading.read_full.Goals as goal

-- what stood before a place, and then what was put there, up to another
together : (a n : ℕ) (old new : List ℕ) → take a new ≡ take a old → take a old ++ slice_range new a (a + n) ≡ take (a + n) new
together a n old new front =
    let same : (a + n) - a ≡ n = omega arith in
    ap (λ l. l ++ slice_range new a (a + n)) (sym front) ∙ ap (λ k. take a new ++ take k (drop a new)) same ∙ sym (take-add a n new)

put_there : (a room n : ℕ) (old part : List ℕ) → a ≤ length old → n ≤ length part → slice_range (put_mid a room old part) a (a + n) ≡ take n part
put_there a room n old part within fits =
    let same : (a + n) - a ≡ n = omega arith in
    let after = post_of a room old in
    ap (take ((a + n) - a)) (drop_at (take a old) (part ++ after) a (length-take-le a old within)) ∙ ap (λ m. take m (part ++ after)) same ∙ take-append-le n part after fits

pub loop-count-preserved : goal.loop-count-preserved
loop-count-preserved g c =
    let at = c.loop-count.count in
    let list = c.loop-count.list in
    let room = length list - at in
    let more = c.in_ok-more.more in
    let after = put_mid at room list c.read.new.buf in
    let within = c.loop-count.invariant.within in
    let part = put_there at room more list c.read.new.buf within c.in_ok-more.ensures.bound.0 in
    let joined = together at more list after (take-put_mid_below _ _ _ _ _ (le_refl _) within) in
    record {
      within = search rules;
      read = subst (Consumes _ _) (ap (λ l. take at list ++ l) (sym part) ∙ joined) (Consumes-trans _ _ _ _ _ c.loop-count.invariant.read c.in_ok-more.ensures.bytes.0);
    }
