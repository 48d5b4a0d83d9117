-- How contracts see a world.
use Rattle.world.specs.World.{WorldState}
use Rattle.world.specs.declared.parts.Parts.{Parts}

abbrev pub world_view : Parts → WorldState
world_view a = record {
  cluster = a.cluster;
  consumers = a.consumers.items;
  mail = a.mail.items;
}
