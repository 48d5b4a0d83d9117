-- The laws of the target.
use Rattle.std.proofs.Common.{ℕ, ◌≡◌, ◌<◌, ◌≤◌, List, length, sym, ◌∙◌, subst}
use Rattle.bit_planes.specs.PartitionSet.{PartitionSet}
use Rattle.sticky_assignor.specs.Balanced.{AreBelow, AreDisjoint, IsBalanced}
use Rattle.sticky_assignor.specs.Retained.{retained}
use Rattle.sticky_assignor.specs.Target.{target}
use Rattle.sticky_assignor.proofs.Balance.{filling_balanced}
use Rattle.sticky_assignor.proofs.Most.{filling_retains_most}
use Rattle.sticky_assignor.proofs.Stays.{filling_stays}
use Rattle.sticky_assignor.proofs.Ranks.{filling_is_target}

pub is_balanced : (p : ℕ) (owned : List PartitionSet) → 0 < length owned → AreBelow p owned → AreDisjoint owned → IsBalanced p (target p owned)
is_balanced p owned some over disjoint = subst (IsBalanced p) (filling_is_target p owned) (filling_balanced p owned some over disjoint)

pub retains_most : (p : ℕ) (owned rows : List PartitionSet) → length rows ≡ length owned → AreBelow p owned → AreBelow p rows → IsBalanced p rows → retained owned rows ≤ retained owned (target p owned)
retains_most p owned rows len mine over balanced =
    subst (λ t. retained owned rows ≤ retained owned t) (filling_is_target p owned) (filling_retains_most p owned rows len mine over balanced)

pub stays : (p : ℕ) (rows : List PartitionSet) → AreBelow p rows → IsBalanced p rows → target p rows ≡ rows
stays p rows over balanced = sym (filling_is_target p rows) ∙ filling_stays p rows over balanced
