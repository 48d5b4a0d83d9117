use Rattle.std.proofs.Common.{◌≡◌, ◌≤◌, sym, arith, count_ones, get_or}
use Rattle.std.proofs.lemmas.List.Sums.{sum_by_more}
use Rattle.std.proofs.lemmas.Nat.{ones-le}
use Rattle.lane_words.proofs.words.count_ones.Goals as goal

pub loop-word-preserved : goal.loop-word-preserved
loop-word-preserved c =
    let i = c.loop-word.word-index in
    let few : count_ones (get_or c.args.a.now i 0) ≤ 64 = ones-le 64 (get_or c.args.a.now i 0) (c.type_inv.a i).fits in
    let counted : c.from-count.result ≡ count_ones (get_or c.args.a.now i 0) = c.from-count.ensures in
    record {
      so_far = rw (c.loop-word.invariant.so_far, counted) (sym (sum_by_more count_ones c.args.a.now i 0 c.loop-word-test.true));
      most = omega arith;
    }
