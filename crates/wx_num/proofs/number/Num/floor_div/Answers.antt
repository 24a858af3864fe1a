use Rattle.std.proofs.Common.{◌≡◌, FitsSigned, rules}
use Rattle.std.specs.Int.{int_div_euclid, w128}
use Rattle.std.proofs.lemmas.Int.{to_z-of_z}
use Rattle.wx_num.proofs.FloorLaws.{floor_at_most, floor_greatest}
use Rattle.wx_num.proofs.number.Num.floor_div.Goals as goal

-- what the code's quotient is, with no bits between
quotient : (c : goal.After-div_euclid) → c.div_euclid.result ≡ int_div_euclid c.args.x c.args.y
quotient c =
    let x_fits = c.ranges.x in
    let y_fits = c.ranges.y in
    simp to_z-of_z at c.div_euclid.ensures

pub returns-clause-at_most : goal.returns-clause-at_most
returns-clause-at_most c =
    let fits : FitsSigned w128 c.div_euclid.result = search rules in
    simp to_z-of_z (rw (quotient c) (floor_at_most c.args.x c.args.y c.requires))

pub returns-clause-greatest : goal.returns-clause-greatest
returns-clause-greatest c =
    let fits : FitsSigned w128 c.div_euclid.result = search rules in
    simp to_z-of_z (rw (quotient c) (floor_greatest c.args.x c.args.y c.requires))
