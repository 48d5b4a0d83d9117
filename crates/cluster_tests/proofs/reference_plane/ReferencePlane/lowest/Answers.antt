use Rattle.std.proofs.Common.{rules, ◌≡◌, ◌∙◌, ◌<◌, false, get_or, ap, sym, arith}
use Rattle.bit_planes.specs.PartitionSet.{empty_set, partitions_of, is_in, size}
use Rattle.cluster_tests.proofs.reference_plane.Flags.{below_is, flag_is, trimmed_none, trimmed_in, trimmed_out, seen_lowest}
use Rattle.bit_planes.proofs.Sets.{in_lowest, lowest_all, lowest_none, partitions_lowest, size_lowest}
use Rattle.cluster_tests.proofs.reference_plane.ReferencePlane.lowest.Goals as goal
use Rattle.cluster_tests.proofs.reference_plane.ReferencePlane.lowest.Goals.{then-flags-q, else-flags-q}

pub loop-q-init : goal.loop-q-init
loop-q-init c = trimmed_none _ c.args.self.now c.args.n c.self.told

pub loop-q-preserved : goal.loop-q-preserved
loop-q-preserved c =
    let q = c.loop-q.q in
    let flag : get_or c.loop-q.flags q false ≡ is_in c.args.self.now q = c.loop-q.invariant.marked.left q (omega arith) ∙ flag_is _ _ _ q c.loop-q-test.true c.self.view_is in
    let few : q < 4096 = omega (arith, c.loop-q-test.true, c.self.invariant.few) in
    elim c.if-flags-q.branch [
      | then-flags-q w ↦ rw (w.flags-is, w.left-is, w.saturating_sub-left.ensures) (trimmed_in _ _ _ q c.loop-q.flags c.loop-q.left few (sym flag ∙ w.if-flags-q.true) c.loop-q.invariant)
      | else-flags-q w ↦ rw (w.flags-is, w.left-is) (trimmed_out _ _ _ q c.loop-q.flags c.loop-q.left w.if-flags-q.false (sym flag ∙ w.if-flags-q.false) c.loop-q.invariant)
    ]

pub returns : goal.returns
returns c =
    let p = below_is _ _ _ c.self.invariant.few c.self.told c.self.view_is in
    let e = seen_lowest _ c.loop-q.q _ c.loop-q.flags c.args.n c.args.self.now c.self.invariant.few p c.loop-q-test.false c.loop-q.invariant.marked in
    record {
      value = e;
      elements = λ q. ap (λ s. is_in s q) e ∙ in_lowest c.args.n c.args.self.now q;
      partitions = ap partitions_of e ∙ partitions_lowest c.args.n c.args.self.now;
      size = ap size e ∙ size_lowest c.args.n c.args.self.now;
    }

pub returns-then-count-n : goal.returns-then-count-n
returns-then-count-n c =
    let e = c.copy.ensures ∙ lowest_all c.args.n c.args.self.now (omega (arith, c.count.ensures.value, c.if-count-n.true)) in
    record {
      value = e;
      elements = λ q. ap (λ s. is_in s q) e ∙ in_lowest c.args.n c.args.self.now q;
      partitions = ap partitions_of e ∙ partitions_lowest c.args.n c.args.self.now;
      size = ap size e ∙ size_lowest c.args.n c.args.self.now;
    }

pub returns-then-n-eq0 : goal.returns-then-n-eq0
returns-then-n-eq0 c =
    let p = below_is _ _ _ c.self.invariant.few c.self.told c.self.view_is in
    let none : c.args.n ≡ 0 = search rules in
    let e = c.new.ensures.value ∙ ap empty_set (sym p) ∙ sym (lowest_none c.args.n c.args.self.now none) in
    record {
      value = e;
      elements = λ q. ap (λ s. is_in s q) e ∙ in_lowest c.args.n c.args.self.now q;
      partitions = ap partitions_of e ∙ partitions_lowest c.args.n c.args.self.now;
      size = ap size e ∙ size_lowest c.args.n c.args.self.now;
    }
