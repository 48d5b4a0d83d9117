use Rattle.std.proofs.Common.{◌≡◌, ◌∙◌, suc, Err, ap, subst}
use Rattle.lane_words.specs.Answers.{Answers}
use Rattle.group_machine.specs.Steps.{rejoin_answer}
use Rattle.world.specs.World.{with_cluster}
use Rattle.world.specs.Steps.{Comes, refused_by_cluster, rejoin_event}
use Rattle.world.specs.Private.View.{world_view}
use Rattle.world.proofs.Outcomes.{consumer_there, put, put_same, refused_ok, rejoin_refused}
use Rattle.world.proofs.parts.Parts.rejoin.Goals as goal

pub returns-in-Err-rejoin : goal.returns-in-Err-rejoin
returns-in-Err-rejoin c =
    let w = world_view c.args.self.now in
    let asking = c.in-Ok.ensures.value in
    let consumer = c.index_mut-consumer.result.now in
    let why = c.in-Err-rejoin.why in
    let there = consumer_there w c.in-Ok.index consumer asking.below c.index_mut-consumer.ensures.value in
    let asked = c.in-Err-rejoin.ensures.answer in
    let group = c.args.self.now.cluster.group in
    let claimed = subst (λ claim. Answers (rejoin_answer group c.args.member c.generation.result claim) (Err why)) c.claim.ensures.value asked in
    let answer = subst (λ n. Answers (rejoin_answer group c.args.member n consumer.assigned) (Err why)) c.generation.ensures claimed in
    let same : put (with_cluster w c.rejoin.new.self) c.in-Ok.index consumer ≡ w =
    ap (λ s. put (with_cluster w s) c.in-Ok.index consumer) c.in-Err-rejoin.ensures.err ∙ put_same w c.in-Ok.index consumer c.index_mut-consumer.ensures.value in
    refused_ok w (world_view c.refuse.new.self) c.args.member c.in-Ok.index (rejoin_event w c.args.member) why c.refuse.result asking.number
    (rejoin_refused w c.args.member c.in-Ok.index consumer why asking there answer)
    (subst (λ x. Comes (refused_by_cluster x (suc c.in-Ok.index) why) c.refuse.result (world_view c.refuse.new.self)) same c.refuse.ensures)
