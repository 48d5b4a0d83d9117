use Rattle.std.proofs.Common.{◌≡◌, length, arith, ◌∙◌, refl}
use Rattle.std.proofs.lemmas.List.Elements.{All-get_or}
use Rattle.murmur_lanes.proofs.Lanes.{no_key, lanes_start, lanes_step}
use Rattle.murmur_lanes.proofs.hash_x8.Goals as goal

pub loop-at-init : goal.loop-at-init
loop-at-init c = record {
  lanes = refl;
  within = omega arith;
  so_far = lanes_start 8 c.args.len c.begin-hash.result c.args.keys.now c.begin-hash.ensures c.told-keys (λ i lt. All-get_or (λ key. length key.now ≡ c.args.len) c.args.keys.now i no_key lt c.requires);
}

pub loop-at-preserved : goal.loop-at-preserved
loop-at-preserved c = record {
  lanes = c.absorb_x8-hash.ensures.len;
  within = omega arith;
  so_far = rw (c.absorb_x8-hash.ensures.value, c.words_at.ensures.words) (lanes_step c.args.len c.loop-at.at c.loop-at.hash c.args.keys.now (λ i lt. All-get_or (λ key. length key.now ≡ c.args.len) c.args.keys.now i no_key lt c.requires) (omega arith) ∙ c.loop-at.invariant.so_far);
}
