use Rattle.std.proofs.Common.{◌≡◌, ◌∙◌, ◌<◌, ℕ, List, [], get_or, length, map, ap, sym, arith}
use Rattle.std.specs.Prelude.{vec_items}
use Rattle.std.proofs.lemmas.List.{get_or-map, length-map, map-set}
use Rattle.std.proofs.lemmas.List.FromFn.{fill_by_all}
use Rattle.timeline.specs.declared.parts.Span.{Span}
use Rattle.timeline.specs.Timelines.{course_of}
use Rattle.timeline_recorder.specs.Courses.{extended, extended_courses, holder_in}
use Rattle.timeline_recorder.proofs.Extending.{done_more, same_more}
use Rattle.timeline_recorder.proofs.courses.extend_courses.Goals as goal

pub loop-p-preserved : goal.loop-p-preserved
loop-p-preserved c =
    let lanes = c.loop-p.lanes in
    let p : ℕ = c.loop-p.p in
    let got = get_or lanes p c.index-lanes-p.result in
    let xs : List (List Span) = map vec_items lanes in
    let xs0 : List (List Span) = map vec_items c.args.lanes.now in
    let v : List Span = vec_items c.extend.new.lane in
    let f : ℕ → List Span → List Span = λ k spans. extended c.args.column (holder_in c.args.world.now k) spans in
    let here : p < length lanes = omega arith in
    let lt : p < length xs = omega (arith, here, length-map lanes vec_items) in
    let found : get_or xs p [] ≡ vec_items got = get_or-map vec_items lanes p c.index-lanes-p.result [] here in
    let is : v ≡ f p (get_or xs p []) = c.in_ok-extend.ensures ∙ ap (λ h. extended c.args.column h (vec_items got)) c.holder_in.ensures ∙ ap (f p) (sym found) in
    let e = map-set vec_items lanes p c.extend.new.lane in
    record {
      done = λ k below. ap (λ (ys : List (List Span)). get_or ys k []) e ∙ done_more xs0 xs f p v lt is c.loop-p.invariant.done c.loop-p.invariant.same k below;
      same = λ k above. ap (λ (ys : List (List Span)). get_or ys k []) e ∙ same_more xs0 xs p v c.loop-p.invariant.same k above;
    }

pub returns : goal.returns
unfolding extended_courses
returns c =
    let lanes = c.loop-p.lanes in
    let xs0 : List (List Span) = map vec_items c.args.lanes.now in
    let f : ℕ → List Span = λ k. extended c.args.column (holder_in c.args.world.now k) (course_of xs0 k) in
    let long : length (map vec_items lanes) ≡ length xs0 = omega (arith, length-map lanes vec_items, length-map c.args.lanes.now vec_items, c.loop-p.auto.lanes) in
    fill_by_all f (map vec_items lanes) (length xs0) [] long (λ k lt. c.loop-p.invariant.done k (omega (arith, lt, length-map c.args.lanes.now vec_items)))
