use Rattle.std.proofs.Common.{◌≡◌, ◌∙◌, [], ap, get_or, map, sym, vec_items}
use Rattle.std.proofs.lemmas.List.{get_or-map}
use Rattle.std.proofs.lemmas.Slice.Eq.{bytes_eq-Decides}
use Rattle.partition_log.proofs.same_log.Goals as goal

pub returns : goal.returns
returns c =
    let log = c.index-logs-p.result in
    let other = c.index-others-p.result in
    let mine : get_or (map vec_items c.args.logs.now) c.args.p [] ≡ log.items = get_or-map vec_items c.args.logs.now c.args.p log [] c.requires.within ∙ ap vec_items (sym c.index-logs-p.is) in
    let theirs : get_or (map vec_items c.args.others.now) c.args.p [] ≡ other.items = get_or-map vec_items c.args.others.now c.args.p other [] c.requires.within_others ∙ ap vec_items (sym c.index-others-p.is) in
    let decides = bytes_eq-Decides log.items other.items in (
      λ yes. mine ∙ decides.0 (sym c.eq.ensures ∙ yes) ∙ sym theirs,
      λ same. c.eq.ensures ∙ decides.1 (sym mine ∙ same ∙ theirs),
    )
