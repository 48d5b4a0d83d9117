use Rattle.std.proofs.Common.{◌≡◌, ◌+◌, ◌<◌, ◌∙◌, ◌++◌, ◌∷◌, [], ap, ap₂, arith, drop, false, get_or, length, map, subst, sym, take}
use Rattle.std.specs.Prelude.{filter}
use Rattle.std.proofs.lemmas.List.{get_or_read, length-map, take_all}
use Rattle.key_index.specs.Keys.{distinct, id_of}
use Rattle.key_counts.specs.Counts.{Entries, no_entries}
use Rattle.key_counts.specs.Private.Classes.{AreMembers, AreStarts, len_before}
use Rattle.key_counts.specs.Private.Twins.{class_in}
use Rattle.key_counts.specs.Private.Walks.{AreNext, is_of, kept}
use Rattle.key_counts.specs.Segments.{IsSegment, counts_of, entries_of, keys_behind, keys_of}
use Rattle.key_counts.specs.declared.merging.Segment.{Segment}
use Rattle.key_counts.specs.declared.walk.Position.{Position}
use Rattle.key_counts.proofs.Members.{members-at, members-none, members-same, starts-none, starts-push}
use Rattle.key_counts.proofs.Parts.{counts-len, follows, len-more}
use Rattle.key_counts.proofs.classes.members_of.Goals as goal

pub loop-i-init : goal.loop-i-init
loop-i-init c =
    let origin = c.args.origin.now in
    let p = is_of (class_in origin.twins.now) c.args.class in
    let workers = origin.workers.now in
    let segments = c.args.segments.now in
    record {
      members = members-none p (keys_behind origin.skip workers segments) (counts_of workers segments) c.new-members.result c.new-members.ensures;
      starts = subst (AreStarts p origin.skip workers segments 0) (sym c.new-members.ensures.starts) (starts-none p origin.skip workers segments);
    }

pub loop-i-preserved : goal.loop-i-preserved
loop-i-preserved c =
    let origin = c.args.origin.now in
    let p = is_of (class_in origin.twins.now) c.args.class in
    let skip = origin.skip in
    let workers = origin.workers.now in
    let segments = c.args.segments.now in
    let all = keys_behind skip workers segments in
    let counts = counts_of workers segments in
    let so = c.requires.origin in
    let inv = c.loop-i.invariant in
    let old = c.loop-i.members in
    let i = c.loop-i.i in
    let no_segment : Segment = record { worker = 0; from = 0; to = 0 } in
    let s : Segment = get_or segments i no_segment in
    let lt : i < length segments = c.loop-i-test.true in
    let part : IsSegment workers s = so.within i no_segment lt in
    let none : Entries = no_entries false in
    let its : c.index-workers-segment.result ≡ entries_of workers s.worker = get_or_read workers s.worker c.index-workers-segment.result part.worker c.index-workers-segment.is none in
    let k = len_before workers segments i in
    let next : AreNext skip c.index-workers-segment.result s all counts k = subst (λ (e : Entries). AreNext skip e s all counts k) (sym its) (follows skip workers segments i no_segment so.counted so.within lt) in
    let len : length counts ≡ length all = counts-len workers segments so.counted so.within ∙ sym (length-map (keys_of workers segments) (drop skip)) in
    let same = c.in_ok-note.ensures.same in
    let noted = members-same p all counts k old c.note.new.self inv.members same.0 same.1 same.2 in
    let here : Position = record { at = length old.ids.items; next = length old.keys } in
    let starts = c.in_ok-take_segment.ensures.same in
    record {
      members = subst (λ n. AreMembers p all counts n c.take_segment.new.self) (sym (len-more workers segments i no_segment so.within lt)) (c.in_ok-take_segment.ensures.members all counts k len next noted);
      starts = subst (AreStarts p skip workers segments (i + 1)) (sym (ap (λ v. v.items) starts ∙ c.in_ok-note.ensures.ok))
          (starts-push p skip workers segments i old.starts.items here inv.starts (members-at p all counts k old inv.members));
    }

pub returns : goal.returns
returns c =
    let origin = c.args.origin.now in
    let p = is_of (class_in origin.twins.now) c.args.class in
    let skip = origin.skip in
    let workers = origin.workers.now in
    let segments = c.args.segments.now in
    let all = keys_behind skip workers segments in
    let counts = counts_of workers segments in
    let so = c.requires.origin in
    let inv = c.loop-i.invariant in
    let old = c.loop-i.members in
    let i = c.loop-i.i in
    let k = len_before workers segments i in
    let end : i ≡ length segments = omega arith in
    let long : length all ≡ length (keys_of workers segments) = length-map (keys_of workers segments) (drop skip) in
    let len : length counts ≡ length all = counts-len workers segments so.counted so.within ∙ sym long in
    let whole : k ≡ length all = ap (λ ss. length (keys_of workers ss)) (take_all i segments (omega (arith, end))) ∙ sym long in
    let done : take k all ≡ all = take_all k all (omega (arith, whole)) in
    let taken : take k counts ≡ counts = take_all k counts (omega (arith, whole, len)) in
    let same = c.in_ok-note-2.ensures.same in
    let here : Position = record { at = length old.ids.items; next = length old.keys } in
    record {
      ids = ap (λ v. v.items) same.1 ∙ inv.members.ids ∙ ap (λ ks. map (id_of (distinct (filter p all))) (filter p ks)) done;
      keys = same.0 ∙ inv.members.keys ∙ ap (λ ks. distinct (filter p ks)) done;
      counts = ap (λ v. v.items) same.2 ∙ inv.members.took ∙ ap₂ (kept p) done taken;
      starts = subst (AreStarts p skip workers segments (length segments + 1)) (sym c.in_ok-note-2.ensures.ok)
          (subst (λ n. AreStarts p skip workers segments (n + 1) (old.starts.items ++ here ∷ [])) end
          (starts-push p skip workers segments i old.starts.items here inv.starts (members-at p all counts k old inv.members)));
    }
