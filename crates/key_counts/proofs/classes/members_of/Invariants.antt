use Rattle.key_counts.specs.Private.Classes.{AreMembers, AreStarts, len_before}
use Rattle.key_counts.specs.Private.Twins.{class_in}
use Rattle.key_counts.specs.Private.Walks.{is_of}
use Rattle.key_counts.specs.Segments.{counts_of, keys_behind}
use Rattle.key_counts.proofs.classes.members_of.Given as goal

abbrev pub invariant-loop-i : goal.invariant-loop-i
invariant-loop-i l = record {
  members : AreMembers (is_of (class_in l.twins) l.class) (keys_behind l.skip l.workers l.segments) (counts_of l.workers l.segments)
      (len_before l.workers l.segments l.i) l.members;
  starts : AreStarts (is_of (class_in l.twins) l.class) l.skip l.workers l.segments l.i l.members.starts.items;
}
