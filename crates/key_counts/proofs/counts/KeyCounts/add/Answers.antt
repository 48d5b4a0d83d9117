use Rattle.std.proofs.Common.{rules, ◌≡◌, ◌∙◌, length, refl, sym}
use Rattle.key_counts.proofs.Steps.{adds-one}
use Rattle.key_counts.proofs.Stored.{codes-within, counts-added, counts-long, keys-added, keys-long}
use Rattle.key_counts.specs.Private.Entry.{stored_counts, stored_keys}
use Rattle.key_counts.proofs.counts.KeyCounts.add.Goals as goal

pub returns : goal.returns
returns c =
    let entries = c.self.inside.entries.items in
    let now = c.push.new.self.items in
    let len : c.len-code.result ≡ length entries = search rules in
    let at : c.len-code.result ≡ length (stored_keys entries) = len ∙ sym (keys-long entries) in
    adds-one c.keep_code.result c.args.self.now (stored_keys entries) (stored_keys now) (stored_counts entries) (stored_counts now) _ _ _ _ _ _
    c.self.view_is (counts-long entries) (codes-within entries _ c.self.invariant.0) refl at
    (keys-added entries now _ c.in_ok-push.ensures.items) (counts-added entries now _ c.in_ok-push.ensures.items) c.keep_code.ensures.ok
