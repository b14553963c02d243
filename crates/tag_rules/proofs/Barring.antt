-- What a set of vehicles says of each.
use Rattle.std.proofs.Common.{◌≡◌, Bool, true, false, List, refl, sym, ap, if◌then◌else◌}
use Rattle.gh_base.specs.declared.map.OsmTag.{OsmTag}
use Rattle.gh_base.specs.declared.query.Vehicle.{Vehicle}
use Rattle.gh_base.specs.declared.query.Vehicle.TheVariants.{Car, Bike, Foot}
use Rattle.tag_rules.specs.declared.highways.Highway.{Highway}
use Rattle.tag_rules.specs.Access.{bars, is_in}
use Rattle.tag_rules.specs.Values.{free_speed, speed_by}

-- the set of the barred vehicles has those that are barred
pub is_in-bars : (vehicle : Vehicle) (reverse : Bool) (tags : List OsmTag) → is_in vehicle (bars Car reverse tags) (bars Bike reverse tags) (bars Foot reverse tags) ≡ bars vehicle reverse tags
is_in-bars Car reverse tags = refl
is_in-bars Bike reverse tags = refl
is_in-bars Foot reverse tags = refl

pub speed-barred : (vehicle : Vehicle) (reverse : Bool) (highway : Highway) (tags : List OsmTag) → bars vehicle reverse tags ≡ true → 0 ≡ speed_by vehicle reverse highway tags
speed-barred vehicle reverse highway tags barred = ap (λ b. if b then 0 else free_speed vehicle highway tags) (sym barred)

pub speed-free : (vehicle : Vehicle) (reverse : Bool) (highway : Highway) (tags : List OsmTag) → bars vehicle reverse tags ≡ false → free_speed vehicle highway tags ≡ speed_by vehicle reverse highway tags
speed-free vehicle reverse highway tags free = ap (λ b. if b then 0 else free_speed vehicle highway tags) (sym free)
