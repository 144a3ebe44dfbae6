-- A newly opened session stands for no points.
use Rattle.std.proofs.Common.{[], refl, arith}
use Rattle.cost_model.specs.declared.params.Params.{Params}
use Rattle.road_network.specs.Net.{Net}
use Rattle.matching.specs.Layers.{trellis}
use Rattle.matching.proofs.CommittedValues.{whole}
use Rattle.matching.proofs.Fronts.{front-none}
use Rattle.online_commit.specs.Session.{RepresentsLayers, no_points_of}
use Rattle.online_commit.proofs.Labels.{stands-by}

pub opened-stands : (n : Net) (p : Params) → RepresentsLayers (no_points_of n p) []
opened-stands n p =
    let s = whole (trellis n p) [] in
    let w = s.within in
    stands-by (no_points_of n p) [] s (omega (arith, w)) refl refl (front-none (trellis n p))
