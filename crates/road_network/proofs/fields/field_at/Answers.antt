use Rattle.road_network.proofs.RowsRead.{field-there}
use Rattle.road_network.proofs.fields.field_at.Goals as goal

pub unwrap-requires : goal.unwrap-requires
unwrap-requires c = field-there (λ s. s.now) _ c.args.place c.get.result c.get.ensures.value c.requires
